use Rattle.std.proofs.Common.{[], ◌∷◌, ◌++◌, Some, None, sym, ◌∙◌, ap, refl}
use Rattle.slub_calls.specs.declared.share.Share.{Share}
use Rattle.slub_calls.proofs.Handing.{pushed}
use Rattle.slub_calls.proofs.share.Share.push.Goals as goal
use Rattle.slub_calls.proofs.share.Share.push.Goals.{in-Some+in_ok-place-in-Some, in-None}

pub returns : goal.returns
returns c = λ worker events is.
    let share : Share = c.args.self.now in
    elim c.match-object_named.branch [
      | in-Some+in_ok-place-in-Some w ↦ pushed c.args.table.now c.args.event.now worker events (Some w.in-Some.object) share.worker _ share.numbers.keys _ share.calls.items _ c.match-object_named.call _
          (sym c.object_named.ensures ∙ w.in-Some.is)
          (ap (λ (s : Share). s.worker) w.self-is)
          (ap (λ (s : Share). s.numbers.keys) w.self-is ∙ w.in_ok-place-in-Some.ensures.keys)
          w.in_ok-place-in-Some.ensures.index
          (c.in_ok-push.ensures.items ∙ ap (λ (s : Share). s.calls.items ++ c.match-object_named.call ∷ []) w.self-is)
          (w.call-is ∙ w.call_at-call.ensures) is
      | in-None w ↦ pushed c.args.table.now c.args.event.now worker events None share.worker _ share.numbers.keys _ share.calls.items _ c.match-object_named.call 0
          (sym c.object_named.ensures ∙ w.in-None.is)
          (ap (λ (s : Share). s.worker) w.self-is)
          (ap (λ (s : Share). s.numbers.keys) w.self-is)
          refl
          (c.in_ok-push.ensures.items ∙ ap (λ (s : Share). s.calls.items ++ c.match-object_named.call ∷ []) w.self-is)
          (w.call-is ∙ w.call_without-call.ensures 0) is
    ]
