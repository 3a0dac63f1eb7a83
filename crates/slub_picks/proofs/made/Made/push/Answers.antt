use Rattle.std.proofs.Common.{◌∙◌, ◌++◌, ◌∷◌, [], List, ap, inl, inr}
use Rattle.slub_picks.specs.declared.made.Run.{Run}
use Rattle.slub_picks.specs.Made.{Differ}
use Rattle.slub_picks.proofs.Making.{made_longer, made_next, run_of}
use Rattle.slub_picks.proofs.made.Made.push.Goals as goal
use Rattle.slub_picks.proofs.made.Made.push.Goals.{else-run-worker-via-then-run-worker+else-run-lt4294967295, else-run-worker-via-else-run-worker}

pub returns-then-run-lt4294967295 : goal.returns-then-run-lt4294967295
returns-then-run-lt4294967295 c = λ turns made.
    made_longer c.args.self.now _ c.pop.new.self.items c.in-Some.run' c.args.worker turns c.in-Some.ensures.items c.in_ok-push-2.ensures.items c.if-run-worker.true c.if-run-lt4294967295.true made

pub returns : goal.returns
returns c = λ turns made.
    let differ : Differ c.in-Some.run' (run_of c.args.worker 1) = elim c.else-run-worker.branch [
      | else-run-worker-via-then-run-worker+else-run-lt4294967295 w ↦ inr w.if-run-lt4294967295.false
      | else-run-worker-via-else-run-worker w ↦ inl w.if-run-worker.false
    ] in
    made_next c.args.self.now _ c.pop.new.self.items c.in-Some.run' c.args.worker turns c.in-Some.ensures.items (c.in_ok-push-4.ensures.items ∙ ap (λ (rs : List Run). rs ++ run_of c.args.worker 1 ∷ []) c.in_ok-push-3.ensures.items) differ made
