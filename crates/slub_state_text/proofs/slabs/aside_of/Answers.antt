use Rattle.std.proofs.Common.{◌≡◌, ◌∙◌, ap, true, false}
use Rattle.slub_red_zone.specs.State.{slab_of}
use Rattle.slub_state_text.specs.Slabs.{is_aside_at}
use Rattle.slub_state_text.proofs.Takes.{passing_next, failing_next}
use Rattle.slub_state_text.proofs.slabs.aside_of.Goals as goal
use Rattle.slub_state_text.proofs.slabs.aside_of.Goals.{then-is_aside_at+in_ok-push, else-is_aside_at}

pub loop-index-preserved : goal.loop-index-preserved
loop-index-preserved c =
    let p = is_aside_at (slab_of c.args.slabs.now c.args.frame) in
    elim c.if-is_aside_at.branch [
      | then-is_aside_at+in_ok-push w ↦
          let passes : p c.loop-index.index ≡ true = cc in
          ap (λ (v : _). v.items) w.aside-is ∙ w.in_ok-push.ensures.items ∙ passing_next p c.loop-index.index c.loop-index.aside.items passes c.loop-index.invariant
      | else-is_aside_at w ↦
          let fails : p c.loop-index.index ≡ false = cc in
          ap (λ (v : _). v.items) w.aside-is ∙ failing_next p c.loop-index.index c.loop-index.aside.items fails c.loop-index.invariant
    ]
