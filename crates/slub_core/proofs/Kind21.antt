-- Kind 21: a run in hand, whose free pointers were stored, becomes a slab.
use Rattle.std.proofs.Common.{◌≡◌, ◌≢◌, ℕ, zero, suc, ◌+◌, ◌^◌, ◌<◌, ◌≤◌, ◌==◌, ◌&&◌, Bool, true, false, Option, Some, None, List, [], ◌∷◌, length, get_or, refl, sym, ap, ◌∙◌, subst, arith, inl, inr}
use Rattle.std.specs.Prelude.{All, IsSome, nat_lt}
use Rattle.std.proofs.lemmas.Bool.{cases_eq, cases_lt, eq-eqb, ne_eqb, lt-ltb, le-ltb, false≢true}
use Rattle.std.proofs.lemmas.List.Elements.{All-head}
use Rattle.slub_common.specs.Times.{times}
use Rattle.slub_object_layout.specs.declared.layout.Layout.{Layout}
use Rattle.slub_object_layout.specs.Layout.{IsWithinBounds, order_for, IsSized}
use Rattle.slub_words.specs.declared.slab.SlabWord.{SlabWord}
use Rattle.slub_core.specs.declared.local.Known.{Known}
use Rattle.slub_core.specs.declared.local.FrameRun.{FrameRun}
use Rattle.slub_core.specs.declared.step.Answer.TheVariants.{Done}
use Rattle.slub_core.specs.declared.spot.Spot.TheVariants.{InAlloc}
use Rattle.slub_core.specs.declared.spot.AllocSpot.TheVariants.{Make, LoadReady}
use Rattle.slub_core.specs.World.{World, set_slab, pointer, IsChain, one_if, sum_below, size_in, objects_at, object_at, cache_at, order_at, in_chain, live, off_list, covers}
use Rattle.slub_core.specs.Local.{Worker, hand_from, run_in, run_of}
use Rattle.slub_core.specs.Alloc.{alloc_advance, made_word}
use Rattle.slub_core.specs.Spots.{Ready}
use Rattle.slub_core.specs.Listed.{home_of, covered_by}
use Rattle.slub_core.specs.Fresh.{AreHands, AreHeld, IsHeldRun, IsWalk, IsAtWork, rising_next}
use Rattle.slub_core.specs.Coherent.{Stands}
use Rattle.slub_core.proofs.Counts.{places-cons, homes-cons, roles-cons}
use Rattle.slub_core.proofs.StepHands.{no-hands}
use Rattle.slub_core.proofs.Lists.{times-first}
use Rattle.slub_core.proofs.Locks.{ComesTo}
use Rattle.slub_core.proofs.Pigeon.{sum_below-none}
use Rattle.slub_core.proofs.RemakeStep.{remake_step, unseen, run-first, pow-some, cache-elsewhere, covers-new, covers-none}
use Rattle.slub_core.proofs.Update.{update_same, term_le_sum}
use Rattle.slub_core.proofs.StepValues.{value-slab}
use Rattle.slub_core.proofs.ValueStep.{known-owned}

-- ---- the chain of a new slab

-- n numbers from i on
abbrev pub rising : ℕ → ℕ → List ℕ
rising i zero = []
rising i (suc n) = i ∷ rising (suc i) n

times-before : (j i n : ℕ) → j < i → times j (rising i n) ≡ 0
times-before j i zero less = refl
times-before j i (suc n) less =
    let r = times-before j (suc i) n (omega arith) in
    let t = times-first j i (rising (suc i) n) in
    let o : one_if (i == j) ≡ 0 = rw (ne_eqb i j (λ e. absurd (omega arith))) refl in
    omega arith

pub times-rising : (j i n : ℕ) → i ≤ j → times j (rising i n) ≡ one_if (nat_lt j (i + n))
times-rising j i zero le = sym (ap one_if (le-ltb j (i + 0) (omega arith)))
times-rising j i (suc n) le =
    let t = times-first j i (rising (suc i) n) in
    elim (cases_eq i j) [
      | inl e ↦
          let o : one_if (i == j) ≡ 1 = rw (eq-eqb i j e) refl in
          let z = times-before j (suc i) n (omega arith) in
          let l : one_if (nat_lt j (i + suc n)) ≡ 1 = rw (lt-ltb j (i + suc n) (omega arith)) refl in
          omega arith
      | inr d ↦
          let o : one_if (i == j) ≡ 0 = rw (ne_eqb i j d) refl in
          let r = times-rising j (suc i) n (omega arith) in
          let l : one_if (nat_lt j (suc i + n)) ≡ one_if (nat_lt j (i + suc n)) = ap (λ z. one_if (nat_lt j z)) (omega arith) in
          omega arith
    ]

pub rising-chain : (next : ℕ → ℕ) (objects : ℕ) → ((i : ℕ) → i < objects → next i ≡ rising_next objects i) → (i n : ℕ) → i + n ≡ objects → 1 ≤ n → IsChain next (i + 1) (rising i n)
rising-chain next objects stored i zero whole some = absurd (omega arith)
rising-chain next objects stored i (suc zero) whole some = (omega arith, stored i (omega arith) ∙ rw (le-ltb (i + 1) objects (omega arith)) refl)
rising-chain next objects stored i (suc (suc n)) whole some =
    let e : next i ≡ suc i + 1 = stored i (omega arith) ∙ rw (lt-ltb (i + 1) objects (omega arith)) (omega arith) in
    (omega arith, rw e (rising-chain next objects stored (suc i) (suc n) (omega arith) (omega arith)))

-- ---- frames of a run

pub run-some : (layout : Layout) (order objects : ℕ) → IsWithinBounds layout → IsSized layout order objects → (1 ≤ objects) × (objects ≤ 512)
run-some layout order objects b (inl usual) = (omega (arith, usual.1, b.objects), omega (arith, usual.1, b.objects))
run-some layout order objects b (inr least) = (omega (arith, least.1, b.min_objects_slab), omega (arith, least.1, b.min_objects_slab, b.objects))

-- the order is found by the number of objects
pub sized-order : (layout : Layout) (order objects : ℕ) → IsWithinBounds layout → IsSized layout order objects → order_for layout objects ≡ order
sized-order layout order objects b (inl usual) = rw (eq-eqb objects layout.objects usual.1) (sym usual.0)
sized-order layout order objects b (inr least) = elim (cases_eq objects layout.objects) [
  | inl e ↦ rw (eq-eqb objects layout.objects e) (elim (cases_eq layout.order layout.min_order) [
    | inl same ↦ same ∙ sym least.0
    | inr apart ↦ absurd (b.orders_differ apart (sym e ∙ least.1))
  ])
  | inr d ↦ rw (ne_eqb objects layout.objects d) (sym least.0)
]

-- where no slab begins, no value has one
pub no-values : (w : World) (xs : List Worker) (s : Stands w xs) (f : ℕ) → objects_at w f ≡ 0 → sum_below w.setup.locks (λ n. one_if (nat_lt 0 (size_in (w.value n) f))) ≡ 0
no-values w xs s f none = sum_below-none w.setup.locks (λ n. one_if (nat_lt 0 (size_in (w.value n) f))) (λ n below. elim (cases_lt 0 (size_in (w.value n) f)) [
  | inl l ↦ absurd (let v = value-slab w s.chains n f s.listed.shaped below (omega arith) in let e = v.1 in omega arith)
  | inr g ↦ rw (le-ltb 0 (size_in (w.value n) f) g) refl
])

-- a frame that a worker's run has is in no slab's run
pub nobody-covers : (w : World) (x : Worker) (others : List Worker) (f : ℕ) → Stands w (x ∷ others) → f < w.setup.frames → 1 ≤ covered_by f x.local.run → objects_at w f ≡ 0
nobody-covers w x others f s below mine = elim (cases_lt 0 (objects_at w f)) [
  | inl l ↦ absurd (
      let c = roles-cons w x others f in
      let o = s.listed.framed f in
      let t = term_le_sum w.setup.frames (λ h. covers w f h) f below in
      let here : covers w f f ≡ 1 = rw (lt-ltb 0 (objects_at w f) l) (run-first f (order_at w f)) in
      let one = bit (nat_lt 0 f) (nat_lt f w.setup.frames) in
      omega arith)
  | inr g ↦ omega arith
]
  where
    bit : (a b : Bool) → one_if (a && b) ≤ 1
    bit true true = omega arith
    bit true false = omega arith
    bit false b = omega arith

in-run-below : (run : FrameRun) (frames : ℕ) → run.frame + 2 ^ run.order ≤ frames → run.frame < frames
in-run-below run frames inside = let p = pow-some run.order in omega arith

none-in : (xs : List ℕ) (j : ℕ) → length xs ≡ 0 → times j xs ≡ 0
none-in [] j e = refl
none-in (x ∷ xs) j e = absurd (omega arith)

-- ---- the spot

new-walk : (f : ℕ) (xs : List ℕ) → IsWalk xs (hand_from f 1)
new-walk f xs = record { short = omega arith; last = λ some. absurd (omega arith); ended = λ e. absurd (false≢true e) }

make-work : (w : World) (x : Worker) (f : ℕ) (v : SlabWord) (xs : List ℕ) → x.local.spot ≡ InAlloc Make → AreHands (Ready ∷ []) (hand_from f 1 ∷ []) (xs ∷ []) → AreHeld (set_slab w f v) x.local.cache (Ready ∷ []) (hand_from f 1 ∷ []) (xs ∷ []) 0
    → x.local.string ≡ None → x.string ≡ [] → All (λ (k : Known). k.held ≡ true → k.cache ≡ cache_at (set_slab w f v) k.frame) x.local.known → IsAtWork w x
    → IsAtWork (set_slab w f v) (record x { local = record x.local { hands = hand_from f 1 ∷ []; run = None; spot = InAlloc LoadReady }; chains = xs ∷ [] })
make-work w x f v xs is hands held none empty known ok = grind arith

-- the objects that a worker holds are of other slabs than one that has none
known-elsewhere : (w : World) (x : Worker) (others : List Worker) (f : ℕ) (v : SlabWord) → Stands w (x ∷ others) → ((j : ℕ) → object_at w f j ≡ 0) → IsAtWork w x
    → All (λ (k : Known). k.held ≡ true → k.cache ≡ cache_at (set_slab w f v) k.frame) x.local.known
known-elsewhere w x others f v s none ok = λ k d below is.
    let g = get_or x.local.known k d in
    let some = known-owned x k d below is in
    let p = places-cons w s.chains x others g.frame g.index in
    let once = s.placed.once g.frame g.index in
    ok.seen.known k d below is ∙ sym (cache-elsewhere w f v g.frame (λ e. absurd (let z : object_at w g.frame g.index ≡ 0 = subst (λ h. object_at w h g.index ≡ 0) (sym e) (none g.index) in omega arith)))

pub at_Make : (w : World) (x : Worker) (others : List Worker) → x.local.spot ≡ InAlloc Make → Stands w (x ∷ others)
    → ComesTo (set_slab w (run_of x.local).frame (made_word x.local)) others (alloc_advance w.setup x.local Make Done).local
at_Make w x others is s =
    let ok = All-head (IsAtWork w) x others s.fresh.workers in
    let hands = no-hands x.local.hands x.chains (rw is at ok.spot.hands) in
    by_run (run_of x.local) (some-run x.local.run (ok.spot.run (rw is refl))) hands.0 hands.1 ok
  where
    some-run : (run : Option FrameRun) → IsSome run → run ≡ Some (run_in run)
    some-run None some = absurd (false≢true some)
    some-run (Some run) some = refl

    by_run : (run : FrameRun) → x.local.run ≡ Some run → x.local.hands ≡ [] → x.chains ≡ [] → IsAtWork w x
        → ComesTo (set_slab w run.frame (record { head = 0; inuse = run.objects; objects = run.objects; frozen = true; listed = false; cache = x.local.cache })) others
        (record x.local { hands = hand_from run.frame 1 ∷ x.local.hands; run = None; spot = InAlloc LoadReady })
    by_run run has none bare ok =
        let f = run.frame in
        let v : SlabWord = record { head = 0; inuse = run.objects; objects = run.objects; frozen = true; listed = false; cache = x.local.cache } in
        let xs = rising 0 run.objects in
        let plain = ok.spot.plain (rw is refl) in
        let layout = s.fresh.setup.layout x.local.cache plain.1 in
        let frames = s.fresh.setup.frames in
        let seen : IsHeldRun w x.local.cache (Some run) run.objects = rw (is, has) at ok.seen.run in
        let some = run-some (record (w.setup.layout x.local.cache) { min_partial = 5; cpu_partial_slabs = 0 }) run.order run.objects layout seen.0.sized in
        let order = sized-order (record (w.setup.layout x.local.cache) { min_partial = 5; cpu_partial_slabs = 0 }) run.order run.objects layout seen.0.sized in
        let real : f ≢ 0 = λ e. absurd (let a = seen.0.first in omega arith) in
        let first = run-first f run.order in
        let below : f < w.setup.frames = in-run-below run w.setup.frames seen.0.inside in
        let covered : covered_by f x.local.run ≡ 1 = rw has first in
        let nothing = nobody-covers w x others f s below (omega arith) in
        let no_object : (j : ℕ) → object_at w f j ≡ 0 = λ j. rw nothing (ap one_if (le-ltb j 0 (omega arith))) in
        let dead : live (w.slab f) ≡ 0 = rw seen.1 refl in
        let un = unseen w x others f s real below (λ j. let z = no_object j in omega arith) (omega arith) (omega arith) in
        let own = s.listed.shaped.counted f in
        let empty : (j : ℕ) → times j (s.chains.own f) ≡ 0 = λ j. none-in (s.chains.own f) j (let z = seen.1 in omega arith) in
        let string : x.local.string ≡ None = ok.spot.no_string (rw is refl) in
        let no_string : x.string ≡ [] = rw string at ok.spot.string in
        let chain = rising-chain (λ i. pointer w x.local.cache f i) run.objects seen.2 0 run.objects (omega arith) some.0 in
        let cache : x.local.cache < 2 ^ 8 = omega (arith, plain.0) in
        let home : home_of f x + off_list (w.slab f) ≡ 0 = let o = s.listed.once f real in let h = homes-cons w s.chains x others f in omega arith in
        let fits : f < 2 ^ 16 = omega arith in (
          record x { local = record x.local { hands = hand_from f 1 ∷ []; run = None; spot = InAlloc LoadReady }; chains = xs ∷ [] },
          rw none refl,
          remake_step w x _ others f v [] s real below un
              (record {
                fits = (omega arith, omega arith, omega arith, cache);
                counted = omega arith;
                chain = refl;
                unlisted = refl;
                plain = λ _. plain;
                sized = λ _. rw order seen.0.sized;
                aligned = λ _. rw order seen.0.aligned;
                none = λ z. absurd (omega arith);
                alone = no-values w (x ∷ others) s f nothing;
              })
              (λ j. let z = no_object j in let e = empty j in let t = times-rising j 0 run.objects (omega arith) in let u : one_if (nat_lt j (0 + run.objects)) ≡ one_if (nat_lt j run.objects) = ap (λ n. one_if (nat_lt j n)) (omega arith) in let c : in_chain f xs f j ≡ times j xs = rw (eq-eqb f f refl) refl in rw none (omega arith))
              (λ g j away. let c : in_chain f xs g j ≡ 0 = rw (ne_eqb f g (λ e. away (sym e))) refl in rw none (omega arith))
              (let one : one_if (f == f) ≡ 1 = rw (eq-eqb f f refl) refl in let l : live v ≡ 1 = rw (lt-ltb 0 run.objects (omega arith)) refl in rw none (omega arith))
              (λ g away. let o : one_if (f == g) ≡ 0 = rw (ne_eqb f g (λ e. away (sym e))) refl in rw none (omega arith))
              (let u = (s.listed.shaped.unslabbed f seen.1).2 in rw (is, u) refl)
              (λ g away. rw is refl)
              (λ g. let a = covers-new w f g v run.order (no-values w (x ∷ others) s f nothing) some.0 order in let b = covers-none w f g nothing in rw has (omega arith))
              (λ k. rw is refl)
              (make-work w x f v xs is
              ((omega arith, fits, omega arith, (omega arith, (refl, refl)), new-walk f xs, tt))
              (rw (update_same w.slab f v) (chain, refl, refl, tt))
              string no_string (known-elsewhere w x others f v s no_object ok) ok),
        )
