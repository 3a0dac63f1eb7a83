use Rattle.std.proofs.Common.{◌∙◌, ap, sym}
use Rattle.std.proofs.lemmas.Option.{slice_get_past}
use Rattle.slub_picks.specs.declared.walk.Walk.{Walk}
use Rattle.slub_picks.proofs.Walking.{along_end, along_misfit, along_passed, match_misfit, same_misfit, same_say, there_is}
use Rattle.slub_picks.proofs.walk.Walk.next.Goals as goal

pub returns-in_err-worker-clause-along : goal.returns-in_err-worker-clause-along
returns-in_err-worker-clause-along c = λ turns along.
    let there = there_is c.entries.self.entries.now c.entries.self.place c.in-Some.entry.now c.in-Some.ensures.lookup.3.0 c.in-Some.ensures.lookup.1 in
    match_misfit c.from_residual.result _ _ _ c.from_residual.ensures
    (same_misfit _ _ _ _ turns c.args.unfinished.now c.in_err-worker.field-0.0 c.entries.invariant.workers c.entries.invariant.part
    (along_misfit c.entries.self c.in-Some.entry.now turns c.args.unfinished.now c.in_err-worker.field-0.0 there (c.entries.invariant.along turns along) c.in_err-worker.ensures))

pub returns-in-Some-2-clause-next : goal.returns-in-Some-2-clause-next
returns-in-Some-2-clause-next c =
    let there = there_is c.entries.self.entries.now c.entries.self.place c.in-Some.entry.now c.in-Some.ensures.lookup.3.0 c.in-Some.ensures.lookup.1 in
    let looks = rw c.in-Some-2.is at c.in_ok-worker.ensures in
    rw there (sym looks.0, looks.1, looks.2)

pub entries-preserved : goal.entries-preserved
entries-preserved c =
    let there = there_is c.entries.self.entries.now c.entries.self.place c.in-Some.entry.now c.in-Some.ensures.lookup.3.0 c.in-Some.ensures.lookup.1 in
    let looks = rw c.in_default-2.is at c.in_ok-worker.ensures in
    record {
      part = ap (λ (w : Walk). w.entries.now) c.pass.ensures ∙ c.entries.invariant.part;
      workers = ap (λ (w : Walk). w.workers) c.pass.ensures ∙ c.entries.invariant.workers;
      along = λ turns along. rw c.pass.ensures (along_passed c.entries.self c.in-Some.entry.now turns c.args.unfinished.now there looks.0 looks.1 (c.entries.invariant.along turns along));
    }

pub returns-clause-along : goal.returns-clause-along
returns-clause-along c = λ turns along.
    same_say _ _ _ _ turns c.args.unfinished.now c.entries.invariant.workers c.entries.invariant.part
    (along_end c.entries.self turns c.args.unfinished.now (slice_get_past c.entries.self.entries.now c.entries.self.place c.in_default.ensures.lookup.3) (c.entries.invariant.along turns along))
