-- Kind 29: a slab of a set that is moved is marked as listed.
use Rattle.std.proofs.Common.{◌≡◌, ◌≢◌, ℕ, ◌+◌, ◌≤◌, true, false, List, ◌∷◌, refl, sym, ap, ◌∙◌, subst, arith}
use Rattle.std.specs.Prelude.{All}
use Rattle.std.proofs.lemmas.Bool.{false≢true, false_from_ne_true}
use Rattle.std.proofs.lemmas.List.Elements.{All-head}
use Rattle.slub_common.specs.Times.{times}
use Rattle.slub_words.specs.declared.slab.SlabWord.{SlabWord}
use Rattle.slub_core.specs.declared.local.Known.{Known}
use Rattle.slub_core.specs.declared.local.Hand.{Hand}
use Rattle.slub_core.specs.declared.step.Answer.TheVariants.{Won}
use Rattle.slub_core.specs.declared.spot.Spot.TheVariants.{InMoveSet}
use Rattle.slub_core.specs.declared.spot.MoveSet.{MoveSet}
use Rattle.slub_core.specs.declared.spot.MoveSetSpot.TheVariants.{ListSlab, PutTail}
use Rattle.slub_core.specs.World.{World, set_slab, pointer, cache_at, one_if}
use Rattle.slub_core.specs.Local.{Worker, hand_of, at}
use Rattle.slub_core.specs.MoveSet.{move_set_advance, listed_word}
use Rattle.slub_core.specs.Spots.{Kept, Loose, beside_move}
use Rattle.slub_core.specs.Listed.{home_of, hands_count, marked_of}
use Rattle.slub_core.specs.Fresh.{AreHands, AreHeld, IsHeldString, IsAtWork}
use Rattle.slub_core.specs.Coherent.{Stands}
use Rattle.slub_core.proofs.Chains.{IsChain-from}
use Rattle.slub_core.proofs.Counts.{homes-cons}
use Rattle.slub_core.proofs.StepHands.{first-hand}
use Rattle.slub_core.proofs.Homes.{live-most, off-some}
use Rattle.slub_core.proofs.Kind8.{hand-live}
use Rattle.slub_core.proofs.Kind18.{marked-away, known-kept}
use Rattle.slub_core.proofs.Locks.{ComesTo, one-self}
use Rattle.slub_core.proofs.SlabStep.{is_mine, slab_step, held-apart, string-apart}
use Rattle.slub_core.proofs.Update.{update_same}

-- a slab in hand is in no other hand of the worker, nor in its string
pub hand-once : (w : World) (x : Worker) (others : List Worker) (h : Hand) (hs : List Hand) → Stands w (x ∷ others) → x.local.hands ≡ h ∷ hs → h.frame ≢ 0 → (hands_count h.frame hs ≡ 0) × (times h.frame x.string ≡ 0)
hand-once w x others h hs s first real =
    let f = h.frame in
    let once = s.listed.once f real in
    let split = homes-cons w s.chains x others f in
    let most = live-most (w.slab f) in
    let one = one-self f in
    let mine : home_of f x ≡ 1 + hands_count f hs + times f x.string = rw first (omega arith) in
    (omega arith, omega arith)

-- a slab that is frozen isn't marked
pub frozen-unlisted : (w : World) (xs : List Worker) (f : ℕ) → Stands w xs → (w.slab f).frozen ≡ true → (w.slab f).listed ≡ false
frozen-unlisted w xs f s frozen = false_from_ne_true (w.slab f).listed (λ e. false≢true (sym (s.listed.shaped.marks f e).1 ∙ frozen))

list-work : (w : World) (x : Worker) (move : MoveSet) (f : ℕ) (v : SlabWord) → x.local.spot ≡ InMoveSet ListSlab move
    → AreHands (Loose ∷ beside_move move) x.local.hands x.chains → AreHeld (set_slab w f v) x.local.cache (Loose ∷ beside_move move) x.local.hands x.chains 0 → IsHeldString (set_slab w f v) x.local.cache x.local.string x.string
    → All (λ (k : Known). k.held ≡ true → k.cache ≡ cache_at (set_slab w f v) k.frame) x.local.known → IsAtWork w x
    → IsAtWork (set_slab w f v) (record x { local = at x.local (InMoveSet PutTail move) })
list-work w x move f v is hands held string known ok = grind arith

pub at_ListSlab-won : (w : World) (x : Worker) (others : List Worker) (move : MoveSet) → x.local.spot ≡ InMoveSet ListSlab move → w.slab (hand_of x.local).frame ≡ x.local.slab_word → Stands w (x ∷ others)
    → ComesTo (set_slab w (hand_of x.local).frame (listed_word x.local.slab_word)) others (move_set_advance w.setup w.value x.local ListSlab move Won).local
at_ListSlab-won w x others move is won s =
    let r = first-hand Kept (beside_move move) x.local.hands x.chains (rw is at ok.spot.hands) in
    by_hand r.0 r.1 r.2 r.3 r.4 r.5
  where
    ok : IsAtWork w x
    ok = All-head (IsAtWork w) x others s.fresh.workers

    by_hand : (h : Hand) (hs : List Hand) (xs : List ℕ) (xss : List (List ℕ)) → x.local.hands ≡ h ∷ hs → x.chains ≡ xs ∷ xss
        → ComesTo (set_slab w (hand_of x.local).frame (listed_word x.local.slab_word)) others (at x.local (InMoveSet PutTail move))
    by_hand h hs xs xss first chain =
        let f = h.frame in
        let v = listed_word x.local.slab_word in
        let own = s.chains.own f in
        let hands : AreHands (Kept ∷ beside_move move) (h ∷ hs) (xs ∷ xss) = rw (is, first, chain) at ok.spot.hands in
        let held : AreHeld w x.local.cache (Kept ∷ beside_move move) (h ∷ hs) (xs ∷ xss) 0 = rw (is, first, chain) at ok.seen.hands in
        let frame : (hand_of x.local).frame ≡ f = rw first refl in
        let here : w.slab f ≡ x.local.slab_word = rw first at won in
        let real : f ≢ 0 = λ e. absurd (let a = hands.0 in omega arith) in
        let cache : v.cache ≡ (w.slab f).cache = sym (ap (λ (u : SlabWord). u.cache) here) in
        let objects : v.objects ≡ (w.slab f).objects = sym (ap (λ (u : SlabWord). u.objects) here) in
        let head : v.head ≡ (w.slab f).head = sym (ap (λ (u : SlabWord). u.head) here) in
        let inuse : v.inuse ≡ (w.slab f).inuse = sym (ap (λ (u : SlabWord). u.inuse) here) in
        let frozen : v.frozen ≡ false = sym (ap (λ (u : SlabWord). u.frozen) here) ∙ held.2.0 in
        let some : 1 ≤ v.head = subst (λ (u : SlabWord). 1 ≤ u.head) here held.2.2 in
        let alive = hand-live w x others h hs s first real in
        let one = one-self f in
        let once = hand-once w x others h hs s first real in
        let off = off-some (w.slab f) held.2.2 in
        let off' = off-some v some in
        let has : 1 ≤ home_of f x = rw first (omega arith) in
        let unmarked : one_if (w.slab f).listed ≡ 0 = rw held.2.1 refl in
        let marks : marked_of f (record x { local = at x.local (InMoveSet PutTail move) }) ≡ 1 = rw first one in
        let was : marked_of f x ≡ 0 = rw is refl in
        let now = update_same w.slab f v in
        let rest = held-apart w f v x.local.cache (beside_move move) hs xss 0 once.0 held.3 in
        let loose : AreHeld (set_slab w f v) x.local.cache (Loose ∷ beside_move move) (h ∷ hs) (xs ∷ xss) 0 =
        (held.0, ap (λ (u : SlabWord). u.cache) now ∙ cache ∙ held.1, (ap (λ (u : SlabWord). u.frozen) now ∙ frozen, rw now some), rest) in
        let string = string-apart w f v x.local.cache x.local.string x.string once.1 ok.seen.string in
        let fits = s.fresh.worded.slab f in
        subst (λ g. ComesTo (set_slab w g v) others (at x.local (InMoveSet PutTail move))) (sym frame) (
          record x { local = at x.local (InMoveSet PutTail move) },
          refl,
          slab_step w x _ others f v own s real alive (omega (arith, fits.0), omega (arith, fits.1)) cache objects
              (let c = s.listed.shaped.counted f in omega arith)
              (λ e. (some, frozen))
              (IsChain-from (pointer w (w.slab f).cache f) (w.slab f).head v.head own head (s.placed.own_chain f))
              (λ j. refl)
              (λ g j away. refl)
              (omega arith)
              (λ g away. refl)
              (omega arith)
              (λ g away. rw is (marked-away (record x { local = at x.local (InMoveSet PutTail move) }) h hs g first away))
              (λ g. refl) (λ k. rw is refl) (is_mine (omega arith))
              (list-work w x move f v is (rw (first, chain) hands) (rw (first, chain) loose) string (known-kept w f v x.local.known cache objects ok.seen.known) ok),
        )
