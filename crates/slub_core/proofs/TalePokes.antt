-- A byte of a slot is written: the object is one that the worker knows.
use Rattle.std.proofs.Common.{◌≡◌, ◌≤◌, true, false, List, ◌∷◌, refl, sym, ap, ◌∙◌, subst, inl, inr, Some}
use Rattle.std.proofs.lemmas.Bool.{false≢true}
use Rattle.slub_trace.specs.declared.reply.Reply.TheVariants as reply
use Rattle.slub_core.specs.declared.call.CallKind.TheVariants.{Free, Poke}
use Rattle.slub_core.specs.declared.local.Known.{Known}
use Rattle.slub_core.specs.Calls.{call_offset}
use Rattle.slub_core.specs.World.{World}
use Rattle.slub_core.specs.Local.{Worker, here, call_of}
use Rattle.slub_core.specs.Spots.{doing, is_freeing}
use Rattle.slub_core.specs.Checked.{is_offset}
use Rattle.slub_core.specs.Replies.{knows, cache_by}
use Rattle.slub_core.specs.Accounted.{public, IsDoing, IsAccounted}
use Rattle.slub_core.proofs.TaleQuiet.{Unseen}
use Rattle.slub_core.proofs.TaleAnswer.{place-here}
use Rattle.slub_core.proofs.TaleReplies.{AnswersKept, spoken, told-of, known-here, not-holding, told_same}
use Rattle.slub_core.proofs.TaleRest.{holding-knows}

-- what has a frame the worker knows by its replies, and where it is from
poke-knows : (opening w : World) (x : Worker) (others : List Worker) → IsAccounted opening w (x ∷ others) → IsDoing x.local Poke → is_freeing x.local.spot ≡ false → 1 ≤ (here x.local).frame
    → (knows x.local.done (here x.local).object ≡ true) × (cache_by opening.board x.local.done (here x.local).object ≡ Some (here x.local).cache)
poke-knows opening w x others ac doing idle real =
    let l = x.local in
    let o = (here l).object in
    let tale = told-of opening w x others ac in
    let knew = known-here l (place-here w.setup opening.board (public w (x ∷ others)) l Poke doing refl tale) in
    let known : knows l.done o ≡ true = elim (tale.unknown o (subst (λ (k : Known). 1 ≤ k.frame) (sym knew) real)) [
      | inl a ↦ a
      | inr b ↦ holding-knows l.done o (sym (tale.holds o (λ f. absurd (false≢true (sym idle ∙ f)))) ∙ b)
    ] in
    (known, (tale.tells o known).1 ∙ ap (λ (k : Known). Some k.cache) knew)

-- the byte is written
pub told_poked : (opening w v : World) (x z : Worker) (others : List Worker) → IsAccounted opening w (x ∷ others) → Unseen w v → doing x.local.spot ≡ Some Poke → is_freeing x.local.spot ≡ false → 1 ≤ (here x.local).frame
    → w.setup.checks (here x.local).cache ≡ true → is_offset (w.setup.layout (here x.local).cache) (call_offset (call_of x.local)) ≡ true → AnswersKept x.local z.local reply.Poked → IsAccounted opening v (z ∷ others)
told_poked opening w v x z others ac same at idle real checked inside after =
    let l = x.local in
    let call = ((told-of opening w x others ac).call Poke at).0 in
    let known = poke-knows opening w x others ac call idle real in
    told_same opening w v x z others Poke reply.Poked ac (spoken w v l reply.Poked same refl) call idle refl refl after
    (call.same_kind, rw (call.object refl) known.0, ((here l).cache, rw (call.object refl) known.1, checked, inside))

-- it lies outside of the slot
pub told_out_of_slot : (opening w v : World) (x z : Worker) (others : List Worker) → IsAccounted opening w (x ∷ others) → Unseen w v → doing x.local.spot ≡ Some Poke → is_freeing x.local.spot ≡ false → 1 ≤ (here x.local).frame
    → w.setup.checks (here x.local).cache ≡ true → is_offset (w.setup.layout (here x.local).cache) (call_offset (call_of x.local)) ≡ false → AnswersKept x.local z.local reply.OutOfSlot → IsAccounted opening v (z ∷ others)
told_out_of_slot opening w v x z others ac same at idle real checked outside after =
    let l = x.local in
    let call = ((told-of opening w x others ac).call Poke at).0 in
    let known = poke-knows opening w x others ac call idle real in
    told_same opening w v x z others Poke reply.OutOfSlot ac (spoken w v l reply.OutOfSlot same refl) call idle refl refl after
    (call.same_kind, rw (call.object refl) known.0, ((here l).cache, rw (call.object refl) known.1, checked, outside))

-- its slab is there no more
pub told_gone : (opening w v : World) (x z : Worker) (others : List Worker) → IsAccounted opening w (x ∷ others) → Unseen w v → doing x.local.spot ≡ Some Poke → is_freeing x.local.spot ≡ false → (here x.local).held ≡ false
    → AnswersKept x.local z.local reply.NotHeld → IsAccounted opening v (z ∷ others)
told_gone opening w v x z others ac same at idle free after =
    let l = x.local in
    let call = ((told-of opening w x others ac).call Poke at).0 in
    told_same opening w v x z others Poke reply.NotHeld ac (spoken w v l reply.NotHeld same refl) call idle refl refl after
    (rw call.same_kind refl, rw call.same_kind refl, rw (call.object refl) (not-holding opening w x others ac call refl idle free), λ f. absurd (not_free (sym call.same_kind ∙ f)))
  where
    not_free : Poke ≡ Free → ⊥
    not_free e = cc
