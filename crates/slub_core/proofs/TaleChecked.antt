-- The calls of a checked cache in the account.
use Rattle.std.proofs.Common.{◌≡◌, ℕ, ◌+◌, ◌*◌, ◌<◌, ◌≤◌, true, false, List, ◌∷◌, refl, sym, ap, ◌∙◌, subst, arith, inl, inr, Some}
use Rattle.std.proofs.lemmas.Bool.{cases_eq, ne_eqb, false≢true, le-leb}
use Rattle.std.proofs.lemmas.List.Sums.{get_or-le-sum_by}
use Rattle.slub_object_layout.specs.Layout.{address_of}
use Rattle.slub_trace.specs.declared.reply.Reply.TheVariants as reply
use Rattle.slub_core.specs.declared.call.CallKind.TheVariants.{Alloc, Write, Read}
use Rattle.slub_core.specs.declared.local.Known.{Known}
use Rattle.slub_core.specs.Calls.{call_word}
use Rattle.slub_core.specs.World.{World, cache_at, object_at, idle_in, on_board}
use Rattle.slub_core.specs.Local.{Worker, here, call_of}
use Rattle.slub_core.specs.Steps.{is_outside}
use Rattle.slub_core.specs.Spots.{doing, is_freeing}
use Rattle.slub_core.specs.Placed.{owned}
use Rattle.slub_core.specs.Coherent.{Stands}
use Rattle.slub_core.specs.Replies.{holding, cache_by}
use Rattle.slub_core.specs.Accounted.{public, known_of, IsAccounted}
use Rattle.slub_core.proofs.Update.{term_le_sum}
use Rattle.slub_core.proofs.Exists.{object_at-le}
use Rattle.slub_core.proofs.TaleQuiet.{Unseen}
use Rattle.slub_core.proofs.TaleAnswer.{place-here}
use Rattle.slub_core.proofs.TaleReplies.{AnswersKept, answers-here, spoken, spoken-on, spoken-counts, written-spoken, told-of, written-of, known-here, told_kept, told_same}
use Rattle.slub_core.proofs.TaleGiven.{IsUnheld, place-unheld}

-- an object that is free or set aside in a checked slab is held by nobody, and isn't on the board
pub idle-unheld : (w : World) (x : Worker) (others : List Worker) (n f i : ℕ) → Stands w (x ∷ others) → n < w.setup.locks → 1 ≤ idle_in (w.value n) f i → 1 ≤ object_at w f i → IsUnheld w (x ∷ others) (address_of f i (w.setup.layout (cache_at w f)))
idle-unheld w x others n f i s below has some =
    let once = s.placed.once f i in
    let one = object_at-le w f i in
    let t = term_le_sum w.setup.locks (λ n. idle_in (w.value n) f i) n below in
    place-unheld w x others f i s some
    (λ k d within. let h = get_or-le-sum_by (owned f i) (x ∷ others) k d within in omega arith)
    (λ o within. let b = term_le_sum w.setup.objects (λ o. on_board (w.board o) f i) o within in omega arith)

-- there is no memory for the bytes of a new slab
pub told_no_memory : (opening w v : World) (x z : Worker) (others : List Worker) → IsAccounted opening w (x ∷ others) → Unseen w v → doing x.local.spot ≡ Some Alloc → is_freeing x.local.spot ≡ false → w.setup.checks x.local.cache ≡ true
    → AnswersKept x.local z.local reply.NoMemory → IsAccounted opening v (z ∷ others)
told_no_memory opening w v x z others ac same at idle checked after =
    let call = (told-of opening w x others ac).call Alloc at in
    told_same opening w v x z others Alloc reply.NoMemory ac (spoken w v x.local reply.NoMemory same refl) call.0 idle refl refl after (call.0.same_kind, (x.local.cache, call.1.0, checked))

-- a word of an object that the worker holds is read
pub told_read_checked : (opening w v : World) (x z : Worker) (others : List Worker) (y : ℕ) → IsAccounted opening w (x ∷ others) → Unseen w v → doing x.local.spot ≡ Some Read → is_freeing x.local.spot ≡ false → (here x.local).held ≡ true
    → w.setup.checks (here x.local).cache ≡ true → is_outside (w.setup.layout (here x.local).cache) (call_word (call_of x.local)) ≡ false → AnswersKept x.local z.local (reply.Value y) → IsAccounted opening v (z ∷ others)
told_read_checked opening w v x z others y ac same at idle mine checked inside after =
    let l = x.local in
    let tale = told-of opening w x others ac in
    let call = (tale.call Read at).0 in
    let knew = known-here l (place-here w.setup opening.board (public w (x ∷ others)) l Read call refl tale) in
    let had : (known_of l.known (here l).object).held ≡ true = ap (λ (j : Known). j.held) knew ∙ mine in
    let holds : holding l.done (here l).object ≡ true = sym (tale.holds (here l).object (λ f. absurd (false≢true (sym idle ∙ f)))) ∙ had in
    let of : cache_by opening.board l.done (here l).object ≡ Some (here l).cache = tale.cache (here l).object had ∙ ap (λ (j : Known). Some j.cache) knew in
    told_same opening w v x z others Read (reply.Value y) ac (spoken w v l (reply.Value y) same refl) call idle refl refl after
    (call.same_kind, rw (call.object refl) holds, ((here l).cache, rw (call.object refl) of, inside), λ q. absurd (let e : q.0 ≡ (here l).cache = some-same (sym q.1 ∙ ap (cache_by opening.board l.done) (call.object refl) ∙ of) in false≢true (sym q.2 ∙ ap w.setup.checks e ∙ checked)))
  where
    some-same : {a b : ℕ} → Some a ≡ Some b → a ≡ b
    some-same e = cc

-- a word of it is written
pub told_write_checked : (opening w v : World) (x z : Worker) (others : List Worker) → IsAccounted opening w (x ∷ others) → Unseen w v → doing x.local.spot ≡ Some Write → is_freeing x.local.spot ≡ false → (here x.local).held ≡ true
    → w.setup.checks (here x.local).cache ≡ true → 8 * (call_word (call_of x.local) + 1) ≤ (w.setup.layout (here x.local).cache).object_size → AnswersKept x.local z.local reply.Wrote → IsAccounted opening v (z ∷ others)
told_write_checked opening w v x z others ac same at idle mine checked inside after =
    let l = x.local in
    let tale = told-of opening w x others ac in
    let wr = written-of opening w x others ac in
    let call = (tale.call Write at).0 in
    let knew = known-here l (place-here w.setup opening.board (public w (x ∷ others)) l Write call refl tale) in
    let had : (known_of l.known (here l).object).held ≡ true = ap (λ (j : Known). j.held) knew ∙ mine in
    let holds : holding l.done (here l).object ≡ true = sym (tale.holds (here l).object (λ f. absurd (false≢true (sym idle ∙ f)))) ∙ had in
    let of : cache_by opening.board l.done (here l).object ≡ Some (here l).cache = tale.cache (here l).object had ∙ ap (λ (j : Known). Some j.cache) knew in
    let within : is_outside (w.setup.layout (here l).cache) (call_word (call_of l)) ≡ false = rw (le-leb (8 * (call_word (call_of l) + 1)) (w.setup.layout (here l).cache).object_size inside) refl in
    let sp = spoken w v l reply.Wrote same refl in
    told_kept opening w v x z others Write reply.Wrote ac (spoken-on w v l reply.Wrote sp) (spoken-counts w v l reply.Wrote sp) call refl idle refl after (call.same_kind, rw (call.object refl) holds, ((here l).cache, rw (call.object refl) of, within))
    (written-spoken opening w v x z others Write (here l) reply.Wrote ac sp call refl refl (answers-here l z.local reply.Wrote after)
    (λ a y h wrote. (
      elim (cases_eq (call_word (call_of l)) a) [
        | inl e ↦ subst (λ a. 8 * (a + 1) ≤ (w.setup.layout (here l).cache).object_size) e inside
        | inr d ↦ subst (λ (j : Known). 8 * (a + 1) ≤ (w.setup.layout j.cache).object_size) knew (wr.inside (here l).object a y had (rw (ne_eqb (call_word (call_of l)) a d) at wrote))
      ],
      λ plain. absurd (false≢true (sym plain ∙ checked)),
    )))
