-- What is counted anywhere exists, and what a worker has is nowhere else.
use Rattle.std.proofs.Common.{◌≡◌, ◌≢◌, ℕ, suc, ◌+◌, ◌-◌, ◌/◌, ◌^◌, ◌<◌, ◌≤◌, ◌==◌, ◌&&◌, false, cond, eqb, List, [], ◌∷◌, length, get_or, refl, sym, ap, ◌∙◌, subst, arith, inl, inr}
use Rattle.std.specs.Prelude.{All, nat_lt}
use Rattle.std.proofs.lemmas.Bool.{cases_eq, cases_lt, eq-eqb, ne_eqb, le-ltb, cond-true, cond-false, cond_both, false≢true}
use Rattle.std.proofs.lemmas.List.Sums.{get_or-le-sum_by}
use Rattle.slub_common.specs.Times.{times}
use Rattle.slub_core.specs.declared.local.Hand.{Hand}
use Rattle.slub_core.specs.World.{World, Chains, objects_at, cache_at, object_at, exists_at, one_if, is_at, in_chain, live}
use Rattle.slub_core.specs.Local.{Worker}
use Rattle.slub_core.specs.Placed.{in_hands, owned, IsPlaced}
use Rattle.slub_core.specs.Listed.{hands_count, home_of, homes, IsShaped, IsListed}
use Rattle.slub_core.specs.Coherent.{Stands}
use Rattle.slub_core.proofs.Chains.{IsChain-first}
use Rattle.slub_core.proofs.Counts.{All-from_no_sum, places-cons}
use Rattle.slub_core.proofs.Lists.{times-first}
use Rattle.slub_core.proofs.Update.{term_le_sum}
use Rattle.slub_core.proofs.StepValues.{word-objects, word-cache, object-within, checked-cache}

-- ---- one object at a place

pub object_at-le : (w : World) (f i : ℕ) → object_at w f i ≤ 1
object_at-le w f i = cond_both (nat_lt i (objects_at w f)) 1 0 (λ n. n ≤ 1) (λ e. omega arith) (λ e. omega arith)

pub exists_at-within : (w : World) (f i : ℕ) → 1 ≤ exists_at w f i → i < (w.slab f).objects
exists_at-within w f i some = elim (cases_lt i (w.slab f).objects) [ inl l ↦ l | inr g ↦ absurd (let z : exists_at w f i ≡ 0 = rw (le-ltb i (w.slab f).objects g) refl in omega arith) ]

pub word-object : (w : World) (f i : ℕ) → 1 ≤ (w.slab f).objects → object_at w f i ≡ exists_at w f i
word-object w f i some = ap (λ n. one_if (nat_lt i n)) (word-objects w f some)

-- an object whose cache isn't checked is of its slab's word
pub plain-live : (w : World) (y : Chains) (f i : ℕ) → IsShaped w y → w.setup.checks (cache_at w f) ≡ false → 1 ≤ object_at w f i → 1 ≤ (w.slab f).objects
plain-live w y f i shaped plain some = elim (cases_lt 0 (w.slab f).objects) [
  | inl l ↦ omega arith
  | inr g ↦ absurd (
      let within = object-within w f i some in
      let c = checked-cache w y f shaped (omega arith) (omega arith) in
      false≢true (sym plain ∙ ap w.setup.checks c.1 ∙ c.3))
]

pub record IsPlainObject (w : World) (k f i : ℕ) : Type 0 where
  pub live : 1 ≤ (w.slab f).objects
  pub cache : k ≡ (w.slab f).cache
  pub exists : exists_at w f i ≡ object_at w f i

pub plain-object : (w : World) (y : Chains) (k f i : ℕ) → IsShaped w y → w.setup.checks k ≡ false → k ≡ cache_at w f → 1 ≤ object_at w f i → IsPlainObject w k f i
plain-object w y k f i shaped plain is some =
    let l = plain-live w y f i shaped (ap w.setup.checks (sym is) ∙ plain) some in
    record { live = l; cache = is ∙ word-cache w f l; exists = sym (word-object w f i l) }

-- ---- chains

pub in_chain-away : (g : ℕ) (xs : List ℕ) (f i : ℕ) → (g ≡ f → ⊥) → in_chain g xs f i ≡ 0
in_chain-away g xs f i away = cond-false (eqb g f) (times i xs) 0 (ne_eqb g f away)

pub in_chain-here : (g : ℕ) (xs : List ℕ) (i : ℕ) → in_chain g xs g i ≡ times i xs
in_chain-here g xs i = cond-true (eqb g g) (times i xs) 0 (eq-eqb g g refl)

pub in_chain-cons : (g x : ℕ) (xs : List ℕ) (f i : ℕ) → in_chain g (x ∷ xs) f i ≡ one_if (is_at g x f i) + in_chain g xs f i
in_chain-cons g x xs f i =
    let c = times-first i x xs in
    cond_both (eqb g f) (times i (x ∷ xs)) 0 (λ z. z ≡ one_if (eqb g f && eqb x i) + cond (eqb g f) (times i xs) 0) (λ e. rw e c) (λ e. rw e refl)

pub times-self : (x : ℕ) (xs : List ℕ) → 1 ≤ times x (x ∷ xs)
times-self x xs = let c = times-first x x xs in let o : one_if (x == x) ≡ 1 = rw (eq-eqb x x refl) refl in omega arith

times-length : (i : ℕ) (xs : List ℕ) → times i xs ≤ length xs
times-length i [] = omega arith
times-length i (x ∷ xs) = let r = times-length i xs in let c = times-first i x xs in let b : one_if (x == i) ≤ 1 = cond_both (eqb x i) 1 0 (λ n. n ≤ 1) (λ e. omega arith) (λ e. omega arith) in omega arith

-- ---- what is counted exists

pub own-exists : (w : World) (y : Chains) (xs : List Worker) (f i : ℕ) → IsPlaced w y xs → IsShaped w y → 1 ≤ times i (y.own f) → 1 ≤ exists_at w f i
own-exists w y xs f i placed shaped some =
    let o = placed.once f i in
    let c = shaped.counted f in
    let l = times-length i (y.own f) in
    let e = word-object w f i (omega arith) in
    omega arith

-- a slab that is in a role has its word
pub home-live : (w : World) (y : Chains) (xs : List Worker) (f : ℕ) → IsListed w y xs → f ≢ 0 → 1 ≤ homes w y xs f → 1 ≤ (w.slab f).objects
home-live w y xs f listed real some =
    let o = listed.once f real in
    elim (cases_lt 0 (w.slab f).objects) [ inl l ↦ omega arith | inr g ↦ absurd (let z : live (w.slab f) ≡ 0 = rw (le-ltb 0 (w.slab f).objects g) refl in omega arith) ]

pub cpu-live : (w : World) (y : Chains) (xs : List Worker) (n : ℕ) → IsListed w y xs → n < w.setup.cpu_words → (w.cpu n).frame ≢ 0 → 1 ≤ (w.slab (w.cpu n).frame).objects
cpu-live w y xs n listed below real =
    let t = term_le_sum w.setup.cpu_words (λ k. one_if ((w.cpu k).frame == (w.cpu n).frame)) n below in
    let o : one_if ((w.cpu n).frame == (w.cpu n).frame) ≡ 1 = rw (eq-eqb (w.cpu n).frame (w.cpu n).frame refl) refl in
    home-live w y xs (w.cpu n).frame listed real (omega arith)

pub nothing-there : (w : World) (y : Chains) (i : ℕ) → IsShaped w y → object_at w 0 i ≡ 0
nothing-there w y i shaped = cond-false (nat_lt i (objects_at w 0)) 1 0 (le-ltb i (objects_at w 0) (let z = shaped.no_slab in omega arith))

pub exists-none : (w : World) (y : Chains) (i : ℕ) → IsShaped w y → exists_at w 0 i ≡ 0
exists-none w y i shaped = elim (cases_lt 0 (w.slab 0).objects) [
  | inl l ↦ absurd (let z = shaped.no_slab in let e = word-objects w 0 (omega arith) in omega arith)
  | inr g ↦ rw (le-ltb i (w.slab 0).objects (omega arith)) refl
]

pub in_hands-none : (f i : ℕ) (hs : List Hand) (xss : List (List ℕ)) → hands_count f hs ≡ 0 → in_hands f i hs xss ≡ 0
in_hands-none f i [] xss none = refl
in_hands-none f i (h ∷ hs) [] none = refl
in_hands-none f i (h ∷ hs) (xs ∷ xss) none =
    let r = in_hands-none f i hs xss (omega arith) in
    let c : in_chain h.frame xs f i ≡ 0 = in_chain-away h.frame xs f i (λ e. absurd (let o : one_if (h.frame == f) ≡ 1 = rw (eq-eqb h.frame f e) refl in omega arith)) in
    omega arith

pub owned-object : (w : World) (y : Chains) (xs : List Worker) (f i : ℕ) → IsPlaced w y xs → All (λ o. owned f i o ≤ object_at w f i) xs
owned-object w y xs f i placed = λ p d below. let o = placed.once f i in let t = get_or-le-sum_by (owned f i) xs p d below in omega arith

-- what stands in a hand is of a slab's word
pub hands-exist : (w : World) (y : Chains) (xs : List Worker) (f i : ℕ) → IsPlaced w y xs → IsListed w y xs → All (λ (o : Worker). in_hands f i o.local.hands o.chains ≤ exists_at w f i) xs
hands-exist w y xs f i placed listed = λ p d below.
    let o = get_or xs p d in
    let m = owned-object w y xs f i placed p d below in
    elim (cases_eq f 0) [
      | inl e ↦ (let z : object_at w f i ≡ 0 = ap (λ f. object_at w f i) e ∙ nothing-there w y i listed.shaped in omega arith)
      | inr real ↦ elim (cases_eq (hands_count f o.local.hands) 0) [
        | inl z ↦ (let c = in_hands-none f i o.local.hands o.chains z in omega arith)
        | inr some ↦ (let t = get_or-le-sum_by (home_of f) xs p d below in let e = word-object w f i (home-live w y xs f listed real (omega (arith, some))) in omega arith)
      ]
    ]

pub chain-exists : (w : World) (y : Chains) (xs : List Worker) (n f i : ℕ) → IsPlaced w y xs → IsListed w y xs → n < w.setup.cpu_words → 1 ≤ in_chain (w.cpu n).frame (y.cpu n) f i → 1 ≤ exists_at w f i
chain-exists w y xs n f i placed listed below some =
    let t = term_le_sum w.setup.cpu_words (λ k. in_chain (w.cpu k).frame (y.cpu k) f i) n below in
    let o = placed.once f i in
    elim (cases_eq (w.cpu n).frame f) [
      | inr d ↦ absurd (let z = in_chain-away (w.cpu n).frame (y.cpu n) f i d in omega arith)
      | inl e ↦ elim (cases_eq (w.cpu n).frame 0) [
        | inl z ↦ absurd (let none : object_at w f i ≡ 0 = ap (λ g. object_at w g i) (sym e ∙ z) ∙ nothing-there w y i listed.shaped in omega arith)
        | inr real ↦ (let x = word-object w f i (subst (λ g. 1 ≤ (w.slab g).objects) e (cpu-live w y xs n listed below real)) in omega arith)
      ]
    ]

-- a CPU freelist that isn't empty has its head's object
pub head-exists : (w : World) (y : Chains) (xs : List Worker) (n : ℕ) → IsPlaced w y xs → IsListed w y xs → n < w.setup.cpu_words → 1 ≤ (w.cpu n).head
    → (1 ≤ in_chain (w.cpu n).frame (y.cpu n) (w.cpu n).frame ((w.cpu n).head - 1)) × (1 ≤ exists_at w (w.cpu n).frame ((w.cpu n).head - 1))
head-exists w y xs n placed listed below some =
    let first = IsChain-first _ (w.cpu n).head (y.cpu n) some (placed.cpu_chain n below) in
    let m : 1 ≤ times ((w.cpu n).head - 1) (y.cpu n) = subst (λ (zs : List ℕ). 1 ≤ times ((w.cpu n).head - 1) zs) (sym first.1) (times-self ((w.cpu n).head - 1) first.0) in
    let h = in_chain-here (w.cpu n).frame (y.cpu n) ((w.cpu n).head - 1) in
    let c : 1 ≤ in_chain (w.cpu n).frame (y.cpu n) (w.cpu n).frame ((w.cpu n).head - 1) = omega arith in
    (c, chain-exists w y xs n (w.cpu n).frame ((w.cpu n).head - 1) placed listed below c)

-- and its slab is of the word's cache
pub head-slab : (w : World) (y : Chains) (xs : List Worker) (n : ℕ) → IsPlaced w y xs → IsListed w y xs → n < w.setup.cpu_words → 1 ≤ (w.cpu n).head
    → ((w.cpu n).frame ≢ 0) × ((w.slab (w.cpu n).frame).cache ≡ n / 16)
head-slab w y xs n placed listed below some =
    let real : (w.cpu n).frame ≢ 0 = λ z. absurd (let e = listed.shaped.bare n below z in omega arith) in
    (real, (listed.shaped.current n below real).0)

-- ---- what a worker has is nowhere else

pub record IsAlone (w : World) (y : Chains) (others : List Worker) (f i : ℕ) : Type 0 where
  pub rest : All (λ o. owned f i o ≡ 0) others
  pub cpus : (n : ℕ) → n < w.setup.cpu_words → in_chain (w.cpu n).frame (y.cpu n) f i ≡ 0
  pub own : times i (y.own f) ≡ 0

pub alone : (w : World) (y : Chains) (x : Worker) (others : List Worker) (f i : ℕ) → IsPlaced w y (x ∷ others) → 1 ≤ owned f i x → IsAlone w y others f i
alone w y x others f i placed holds =
    let split = places-cons w y x others f i in
    let once = placed.once f i in
    let one = object_at-le w f i in
    record {
      rest = All-from_no_sum (owned f i) others (omega arith);
      cpus = λ n below. let t = term_le_sum w.setup.cpu_words (λ k. in_chain (w.cpu k).frame (y.cpu k) f i) n below in omega arith;
      own = omega arith;
    }

-- the index of an object that exists is small
pub object-small : (w : World) (xs : List Worker) (f j : ℕ) → Stands w xs → 1 ≤ exists_at w f j → suc j < 2 ^ 16
object-small w xs f j s some = let b = exists_at-within w f j some in let o = (s.fresh.worded.slab f).2 in omega arith
