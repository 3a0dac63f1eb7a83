-- Kind 22: a slab in hand without an object in use becomes a run in hand.
use Rattle.std.proofs.Common.{◌≡◌, ◌≢◌, ℕ, suc, ◌+◌, ◌-◌, ◌^◌, ◌≤◌, ◌==◌, ◌&&◌, Bool, true, false, cond, Some, None, List, [], ◌∷◌, get_or, refl, sym, ap, ◌∙◌, subst, arith, inl, inr}
use Rattle.std.specs.Prelude.{All, nat_lt}
use Rattle.std.proofs.lemmas.Bool.{cases_lt, eq-eqb, ne_eqb, lt-ltb, le-ltb, le-leb}
use Rattle.std.proofs.lemmas.List.Elements.{All-head}
use Rattle.slub_common.specs.Times.{times}
use Rattle.slub_words.specs.declared.slab.SlabWord.{SlabWord}
use Rattle.slub_core.specs.declared.local.Known.{Known}
use Rattle.slub_core.specs.declared.local.Hand.{Hand}
use Rattle.slub_core.specs.declared.local.FrameRun.{FrameRun}
use Rattle.slub_core.specs.declared.step.Answer.TheVariants.{Done}
use Rattle.slub_core.specs.declared.spot.Spot.TheVariants.{InDiscard}
use Rattle.slub_core.specs.declared.spot.Discard.{Discard}
use Rattle.slub_core.specs.declared.spot.Discard.TheVariants.{FromAway, FromFree, FromMove, FromTrim}
use Rattle.slub_core.specs.declared.spot.DiscardSpot.TheVariants.{Unmake, LockDiscard}
use Rattle.slub_object_layout.specs.Layout.{order_for}
use Rattle.slub_core.specs.Words.{no_slab_word}
use Rattle.slub_core.specs.World.{World, set_slab, one_if, sum_below, size_in, objects_at, object_at, cache_at, order_at, in_run, in_chain, live, covers}
use Rattle.slub_core.specs.Local.{Worker, hand_of}
use Rattle.slub_core.specs.Discard.{discard_advance, counts_for}
use Rattle.slub_core.specs.Spots.{Loose, is_marked, beside_discard}
use Rattle.slub_core.specs.Placed.{owned, in_hands}
use Rattle.slub_core.specs.Listed.{hands_count}
use Rattle.slub_core.specs.Fresh.{AreHands, AreHeld, IsHeldRun, IsHeldString, IsEmptied, IsAtWork}
use Rattle.slub_core.specs.Coherent.{Stands}
use Rattle.slub_core.proofs.Counts.{places-cons, homes-cons}
use Rattle.slub_core.proofs.StepHands.{first-hand}
use Rattle.slub_core.proofs.Homes.{mine-marked, off-some}
use Rattle.slub_core.proofs.Locks.{ComesTo}
use Rattle.slub_core.proofs.Pigeon.{full-chain}
use Rattle.slub_core.proofs.RemakeStep.{remake_step, unseen, run-first, pow-some, objects-new, cache-elsewhere, covers-none}
use Rattle.slub_core.proofs.SlabStep.{held-apart, string-apart}
use Rattle.slub_core.proofs.Update.{update_same, term_le_sum}
use Rattle.slub_core.proofs.StepValues.{word-objects, word-order}
use Rattle.slub_core.proofs.ValueStep.{known-owned}

-- where no object of a slab is in use, each is on the slab's own freelist
pub all-free : (w : World) (xs : List Worker) (f : ℕ) (s : Stands w xs) → 1 ≤ (w.slab f).objects → (w.slab f).inuse ≡ 0 → (j : ℕ) → times j (s.chains.own f) ≡ object_at w f j
all-free w xs f s some none j =
    let own = s.chains.own f in
    let counted = s.listed.shaped.counted f in
    let objects = word-objects w f some in
    let le : (k : ℕ) → times k own ≤ object_at w f k = λ k. let o = s.placed.once f k in omega arith in
    let most : (k : ℕ) → object_at w f k ≤ 1 = λ k. bit (nat_lt k (objects_at w f)) in
    let past : (k : ℕ) → (w.slab f).objects ≤ k → object_at w f k ≡ 0 = λ k past. ap one_if (le-ltb k (objects_at w f) (omega arith)) in
    elim (cases_lt j (w.slab f).objects) [
      | inl l ↦
          let g = full-chain (w.slab f).objects own (omega arith) (λ k. let a = le k in let b = most k in omega arith) (λ k p. let a = le k in let b = past k p in omega arith) j l in
          let a = le j in
          let b = most j in
          omega arith
      | inr p ↦ let a = le j in let b = past j p in omega arith
    ]
  where
    bit : (b : Bool) → one_if b ≤ 1
    bit true = omega arith
    bit false = omega arith

-- the frames of a slab lie among the machine's
pub slab-inside : (w : World) (xs : List Worker) (f : ℕ) → Stands w xs → 1 ≤ objects_at w f → f + 2 ^ order_at w f ≤ w.setup.frames
slab-inside w xs f s some =
    let order = order_at w f in
    let room = pow-some order in
    let below = s.listed.shaped.within f some in
    let last = f + 2 ^ order - 1 in
    let c = s.listed.framed last in
    let t = term_le_sum w.setup.frames (λ h. covers w last h) f below in
    let here : covers w last f ≡ 1 = rw (lt-ltb 0 (objects_at w f) (omega arith), le-leb f last (omega arith), lt-ltb last (f + 2 ^ order) (omega arith)) refl in
    elim (cases_lt last w.setup.frames) [
      | inl l ↦ omega arith
      | inr g ↦ absurd (let z : one_if (nat_lt 0 last && nat_lt last w.setup.frames) ≡ 0 = rw (le-ltb last w.setup.frames g) (neither (nat_lt 0 last)) in omega arith)
    ]
  where
    neither : (b : Bool) → one_if (b && false) ≡ 0
    neither true = refl
    neither false = refl

unmake-work : (w : World) (x : Worker) (f : ℕ) (v : SlabWord) (discard : Discard) (hs : List Hand) (xss : List (List ℕ)) (run : FrameRun) (n : ℕ) → x.local.spot ≡ InDiscard Unmake discard
    → AreHands (beside_discard discard) hs xss → AreHeld (set_slab w f v) x.local.cache (beside_discard discard) hs xss 0
    → IsHeldString (set_slab w f v) x.local.cache x.local.string x.string → IsHeldRun (set_slab w f v) x.local.cache (Some run) 0
    → All (λ (k : Known). k.held ≡ true → k.cache ≡ cache_at (set_slab w f v) k.frame) x.local.known → IsAtWork w x
    → IsAtWork (set_slab w f v) (record x { local = record x.local { hands = hs; run = Some run; count = n; spot = InDiscard LockDiscard discard }; chains = xss })
unmake-work w x f v discard hs xss run n is hands held string run_held known ok = grind arith

-- ---- the spot

in_hands-first : (g j : ℕ) (x : Worker) (h : Hand) (hs : List Hand) (xs : List ℕ) (xss : List (List ℕ)) → x.local.hands ≡ h ∷ hs → x.chains ≡ xs ∷ xss → in_hands g j x.local.hands x.chains ≡ in_chain h.frame xs g j + in_hands g j hs xss
in_hands-first g j x h hs xs xss first chain = rw (first, chain) refl

unmarked : (discard : Discard) (n : ℕ) → n ≡ 0 → 0 ≡ cond (is_marked (InDiscard Unmake discard)) n 0
unmarked (FromAway away) n o = refl
unmarked FromFree n o = sym o
unmarked (FromMove move) n o = refl
unmarked FromTrim n o = sym o

pub at_Unmake : (w : World) (x : Worker) (others : List Worker) (discard : Discard) → x.local.spot ≡ InDiscard Unmake discard → Stands w (x ∷ others)
    → ComesTo (set_slab w (hand_of x.local).frame no_slab_word) others (discard_advance w.setup x.local Unmake discard Done).local
at_Unmake w x others discard is s =
    let ok = All-head (IsAtWork w) x others s.fresh.workers in
    let r = first-hand Loose (beside_discard discard) x.local.hands x.chains (rw is at ok.spot.hands) in
    by_hand r.0 r.1 r.2 r.3 r.4 r.5 ok
  where
    by_hand : (h : Hand) (hs : List Hand) (xs : List ℕ) (xss : List (List ℕ)) → x.local.hands ≡ h ∷ hs → x.chains ≡ xs ∷ xss → IsAtWork w x
        → ComesTo (set_slab w (hand_of x.local).frame no_slab_word) others (discard_advance w.setup x.local Unmake discard Done).local
    by_hand h hs xs xss first chain ok =
        let f = h.frame in
        let v = no_slab_word in
        let hands : AreHands (Loose ∷ beside_discard discard) (h ∷ hs) (xs ∷ xss) = rw (is, first, chain) at ok.spot.hands in
        let held : AreHeld w x.local.cache (Loose ∷ beside_discard discard) (h ∷ hs) (xs ∷ xss) 0 = rw (is, first, chain) at ok.seen.hands in
        let frame : (hand_of x.local).frame ≡ f = rw first refl in
        let empty : IsEmptied (w.slab f) x.local = subst (λ g. IsEmptied (w.slab g) x.local) frame (ok.seen.emptied (rw is refl)) in
        let run : FrameRun = record { frame = f; order = order_for (w.setup.layout x.local.cache) x.local.slab_word.objects; objects = x.local.slab_word.objects } in
        let plain = ok.spot.plain (rw is refl) in
        let real : f ≢ 0 = λ e. absurd (let a = hands.0 in omega arith) in
        let sh = s.listed.shaped in
        let objects = word-objects w f empty.some in
        let there : 1 ≤ objects_at w f = let e = empty.some in omega arith in
        let below = sh.within f there in
        let order : order_at w f ≡ run.order = word-order w f empty.some ∙ rw (empty.cache, empty.objects) refl in
        let free = all-free w (x ∷ others) f s empty.some empty.none in
        let count = λ (j : ℕ). places-cons w s.chains x others f j in
        let mine : (j : ℕ) → owned f j x ≡ 0 = λ j. let c = count j in let o = s.placed.once f j in let a = free j in omega arith in
        let here : hands_count f x.local.hands ≡ suc (hands_count f hs) = rw (first, eq-eqb f f refl) (omega arith) in
        let split = homes-cons w s.chains x others f in
        let once = s.listed.once f real in
        let one : live (w.slab f) ≡ 1 = rw (lt-ltb 0 (w.slab f).objects empty.some) refl in
        let off = off-some (w.slab f) held.2.1 in
        let covered : covers w f f ≡ 1 = rw (lt-ltb 0 (objects_at w f) there) (run-first f (order_at w f)) in
        let un = unseen w x others f s real below (λ j. let a = free j in omega arith) (omega arith) (omega arith) in
        let alone : sum_below w.setup.locks (λ n. one_if (nat_lt 0 (size_in (w.value n) f))) ≡ 0 = let a = sh.alone f in omega arith in
        let no_run : x.local.run ≡ None = ok.spot.no_run (rw is refl) in
        let nil : xs ≡ [] = hands.3.1 in
        let mark = mine-marked w x others f s real (omega arith) in
        let inside = slab-inside w (x ∷ others) f s there in
        let dead : objects_at (set_slab w f v) f ≡ 0 = objects-new w f v alone in (
          record { local = record x.local { hands = hs; run = Some run; count = x.local.count + counts_for discard; spot = InDiscard LockDiscard discard }; chains = xss; string = x.string },
          rw first refl,
          rw first (remake_step w x _ others f v [] s real below un
              (record {
                fits = (omega arith, omega arith, omega arith, omega arith);
                counted = refl;
                chain = refl;
                unlisted = refl;
                plain = λ some. absurd (omega arith);
                sized = λ some. absurd (omega arith);
                aligned = λ some. absurd (omega arith);
                none = λ z. (refl, refl);
                alone = alone;
              })
              (λ j. let a = free j in let m = mine j in let o = in_hands-first f j x h hs xs xss first chain in let z : one_if (nat_lt j 0) ≡ 0 = ap one_if (le-ltb j 0 (omega arith)) in omega arith)
              (λ g j away. let o = in_hands-first g j x h hs xs xss first chain in let c : in_chain f xs g j ≡ 0 = rw (ne_eqb f g (λ e. away (sym e))) refl in omega arith)
              (omega arith)
              (λ g away. let o : one_if (f == g) ≡ 0 = rw (ne_eqb f g (λ e. away (sym e))) refl in rw first (omega arith))
              (omega arith)
              (λ g away. let o : one_if (f == g) ≡ 0 = rw (ne_eqb f g (λ e. away (sym e))) refl in rw (is, first) (unmarked discard (one_if (f == g)) o))
              (λ g. let a = covers-none (set_slab w f v) f g dead in let b : covers w g f ≡ in_run g f run.order = rw (lt-ltb 0 (objects_at w f) there, order) refl in rw no_run (omega arith))
              (λ k. rw is refl)
              (unmake-work w x f v discard hs xss run (x.local.count + counts_for discard) is hands.5
              (held-apart w f v x.local.cache (beside_discard discard) hs xss 0 (omega arith) held.3)
              (string-apart w f v x.local.cache x.local.string x.string (omega arith) ok.seen.string)
              (record { first = hands.0; inside = rw order at inside; aligned = rw order at (sh.aligned f there); sized = rw (order, empty.cache, empty.objects) at (sh.sized f empty.some) }, rw (update_same w.slab f v) refl, λ i none. absurd (omega arith))
              (λ k d under held_k. let g = get_or x.local.known k d in let some = known-owned x k d under held_k in ok.seen.known k d under held_k ∙ sym (cache-elsewhere w f v g.frame (λ e. absurd (let z : owned g.frame g.index x ≡ 0 = subst (λ o. owned o g.index x ≡ 0) (sym e) (mine g.index) in omega arith))))
              ok)),
        )
