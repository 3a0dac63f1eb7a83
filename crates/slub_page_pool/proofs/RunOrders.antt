-- Which orders have a block in a run.
use Rattle.std.proofs.Common.{ℕ, zero, suc, ◌+◌, ◌-◌, ◌*◌, ◌/◌, ◌%◌, ◌^◌, ◌<◌, ◌≤◌, ◌≡◌, ◌⊎◌, inl, inr, Bool, true, false, List, get_or, refl, sym, ◌∙◌, ap, subst, arith}
use Rattle.std.specs.Prelude.{bit_or}
use Rattle.std.specs.Int.{bit_at}
use Rattle.std.proofs.lemmas.Bool.{cases_eq, cases_Bool, eq-eqb, ne_eqb, false≢true}
use Rattle.std.proofs.lemmas.Nat.{pow_pos, shr-shr, shl-shr, or_lt, mod_below, div-add-mod', div-mul-add, mod-mul-add, pow_below}
use Rattle.std.proofs.lemmas.Nat.Bits.{bit_at_or, bit_at-pow_same, bit_at-pow_other, bit_at_above, bit_at-lt}
use Rattle.slub_page_pool.specs.Block.{IsFreeRun, IsBlock}
use Rattle.slub_page_pool.specs.Marks.{free_of}
use Rattle.slub_page_pool.specs.Orders.{joined, orders_in}
use Rattle.slub_page_pool.proofs.FreeRuns.{IsBlock-from_run, IsBlock-alone}
use Rattle.slub_page_pool.proofs.MarkedFrames.{Contains-free_of, from_free_of}

-- every frame of the run of this order at this place is marked
abbrev pub IsWhole : List Bool → ℕ → ℕ → Type 0
IsWhole marks order place = (g : ℕ) → g / 2 ^ order ≡ place → get_or marks g false ≡ true

-- the place of a frame among the runs of the next order
pub next_place : (g order : ℕ) → g / 2 ^ suc order ≡ g / 2 ^ order / 2
next_place g order =
    let e : suc order ≡ order + 1 = omega arith in
    rw e (sym (shr-shr g order 1))

-- the halves of a whole run are whole
IsWhole-half : (marks : List Bool) (order place half : ℕ) → half / 2 ≡ place → IsWhole marks (suc order) place → IsWhole marks order half
IsWhole-half marks order place half is whole g here = whole g (next_place g order ∙ ap (λ n. n / 2) here ∙ is)

-- a run is whole where its halves are
IsWhole-halves : (marks : List Bool) (order place : ℕ) → IsWhole marks order (2 * place) → IsWhole marks order (2 * place + 1) → IsWhole marks (suc order) place
IsWhole-halves marks order place left right g here =
    let half : g / 2 ^ order / 2 ≡ place = sym (next_place g order) ∙ here in
    elim (cases_eq (g / 2 ^ order) (2 * place)) [
      | inl low ↦ left g low
      | inr other ↦ right g (omega (arith, half))
    ]

-- each run within a whole run is whole
pub IsWhole-within : (marks : List Bool) (order more place inner : ℕ) → inner / 2 ^ more ≡ place → IsWhole marks (order + more) place → IsWhole marks order inner
IsWhole-within marks order more place inner is whole g here = whole g (sym (shr-shr g order more) ∙ ap (λ n. n / 2 ^ more) here ∙ is)

-- two whole halves are one block
pub joined-whole : (order left right : ℕ) → left ≡ 2 ^ order → right ≡ 2 ^ order → joined order left right ≡ 2 ^ (order + 1)
unfolding joined
joined-whole order left right l r = rw (eq-eqb left (2 ^ order) l, eq-eqb right (2 ^ order) r) refl

-- a half that isn't whole leaves the blocks of either half
pub joined-left : (order left right : ℕ) → (left ≡ 2 ^ order → ⊥) → joined order left right ≡ bit_or left right
unfolding joined
joined-left order left right l = rw (ne_eqb left (2 ^ order) l) refl

pub joined-right : (order left right : ℕ) → (right ≡ 2 ^ order → ⊥) → joined order left right ≡ bit_or left right
unfolding joined
joined-right order left right r =
    elim (cases_eq left (2 ^ order)) [
      | inl l ↦ rw (eq-eqb left (2 ^ order) l, ne_eqb right (2 ^ order) r) refl
      | inr l ↦ rw (ne_eqb left (2 ^ order) l) refl
    ]

-- a run is whole and has one block, or has only lesser ones
data Told (marks : List Bool) (order place : ℕ) : Type 0 where
  whole : IsWhole marks order place → orders_in marks order place ≡ 2 ^ order → Told marks order place
  part : (IsWhole marks order place → ⊥) → orders_in marks order place < 2 ^ order → Told marks order place

-- a run of one frame
told_one : (marks : List Bool) (place : ℕ) → Told marks 0 place
unfolding orders_in
told_one marks place =
    elim (cases_Bool (get_or marks place false)) [
      | inl marked ↦ whole (λ g here. let same : place ≡ g = omega (arith, here) in subst (λ n. get_or marks n false ≡ true) same marked) (rw marked refl)
      | inr free ↦ part (λ all. false≢true (sym free ∙ all place (omega arith))) (rw free (omega arith))
    ]

-- a run has no order above its own
told_le : {marks : List Bool} {order place : ℕ} → Told marks order place → orders_in marks order place ≤ 2 ^ order
told_le (whole all is) = omega arith
told_le (part not_all less) = omega arith

-- two numbers of at most 2 ^ order have an `or` below 2 ^ (order + 1)
or_small : (order left right : ℕ) → left ≤ 2 ^ order → right ≤ 2 ^ order → bit_or left right < 2 ^ suc order
or_small order left right l r =
    let more : 2 ^ order < 2 ^ suc order = pow_below order (suc order) (omega arith) in
    or_lt (suc order) left right (omega arith) (omega arith)

-- a run of two halves
told_halves : (marks : List Bool) (order place : ℕ) → Told marks order (2 * place) → Told marks order (2 * place + 1) → Told marks (suc order) place
unfolding orders_in
told_halves marks order place (whole left l) (whole right r) =
    let next : order + 1 ≡ suc order = omega arith in
    whole (IsWhole-halves marks order place left right) (joined-whole order (orders_in marks order (2 * place)) (orders_in marks order (2 * place + 1)) l r ∙ ap (λ n. 2 ^ n) next)
told_halves marks order place (part left l) right =
    part (λ all. left (IsWhole-half marks order place (2 * place) (omega arith) all))
    (rw (joined-left order (orders_in marks order (2 * place)) (orders_in marks order (2 * place + 1)) (λ same. omega arith))
    (or_small order (orders_in marks order (2 * place)) (orders_in marks order (2 * place + 1)) (omega arith) (told_le right)))
told_halves marks order place left (part right r) =
    part (λ all. right (IsWhole-half marks order place (2 * place + 1) (omega arith) all))
    (rw (joined-right order (orders_in marks order (2 * place)) (orders_in marks order (2 * place + 1)) (λ same. omega arith))
    (or_small order (orders_in marks order (2 * place)) (orders_in marks order (2 * place + 1)) (told_le left) (omega arith)))

-- every run is one or the other
told : (marks : List Bool) (order place : ℕ) → Told marks order place
told marks zero place = told_one marks place
told marks (suc order) place = told_halves marks order place (told marks order (2 * place)) (told marks order (2 * place + 1))

-- a whole run has one block
pub orders_in-whole : (marks : List Bool) (order place : ℕ) → IsWhole marks order place → orders_in marks order place ≡ 2 ^ order
orders_in-whole marks order place all =
    elim (told marks order place) [
      | whole same is ↦ is
      | part not_all less ↦ absurd (not_all all)
    ]

-- a run that has a block of its own order is whole
pub IsWhole-from_bit : (marks : List Bool) (order place : ℕ) → bit_at (orders_in marks order place) order ≡ 1 → IsWhole marks order place
IsWhole-from_bit marks order place set_ =
    elim (told marks order place) [
      | whole all is ↦ all
      | part not_all less ↦ absurd (omega (arith, bit_at_above (orders_in marks order place) order order less (omega arith)))
    ]

-- a run that has a lesser block isn't whole
pub not_whole-from_bit : (marks : List Bool) (order place q : ℕ) → q < order → bit_at (orders_in marks order place) q ≡ 1 → IsWhole marks order place → ⊥
not_whole-from_bit marks order place q less set_ all =
    let none : bit_at (orders_in marks order place) q ≡ 0 = ap (λ n. bit_at n q) (orders_in-whole marks order place all) ∙ bit_at-pow_other order q (λ same. omega arith) in
    omega arith

-- a run that isn't whole has the blocks of its halves
pub orders_in-halves : (marks : List Bool) (order place : ℕ) → (IsWhole marks (suc order) place → ⊥) → orders_in marks (suc order) place ≡ bit_or (orders_in marks order (2 * place)) (orders_in marks order (2 * place + 1))
unfolding orders_in
orders_in-halves marks order place not_all =
    elim (told marks order (2 * place)) [
      | part left less ↦ joined-left order (orders_in marks order (2 * place)) (orders_in marks order (2 * place + 1)) (λ same. omega arith)
      | whole left l ↦ elim (told marks order (2 * place + 1)) [
        | part right less ↦ joined-right order (orders_in marks order (2 * place)) (orders_in marks order (2 * place + 1)) (λ same. omega arith)
        | whole right r ↦ absurd (not_all (IsWhole-halves marks order place left right))
      ]
    ]

-- where the left half of a run has no block of the order, the right half has
pub right_has : (marks : List Bool) (order place q : ℕ) → q < suc order → bit_at (orders_in marks (suc order) place) q ≡ 1 → (bit_at (orders_in marks order (2 * place)) q ≡ 1 → ⊥) → bit_at (orders_in marks order (2 * place + 1)) q ≡ 1
right_has marks order place q less set_ left =
    let parts = ap (λ n. bit_at n q) (orders_in-halves marks order place (not_whole-from_bit marks (suc order) place q less set_)) ∙ bit_at_or (orders_in marks order (2 * place)) (orders_in marks order (2 * place + 1)) q in
    let small = bit_at-lt (orders_in marks order (2 * place)) q in
    let none : bit_at (orders_in marks order (2 * place)) q ≡ 0 = omega (arith, small, left) in
    omega (arith, parts, set_, none)

-- a whole run that lies in no greater whole run up to order 10
pub record IsLone (marks : List Bool) (order place : ℕ) : Type 0 where
  pub all : IsWhole marks order place
  pub alone : order < 10 → IsWhole marks (suc order) (place / 2) → ⊥

-- two places in a row
halves_of : (n : ℕ) → (n ≡ 2 * (n / 2)) ⊎ (n ≡ 2 * (n / 2) + 1)
halves_of n = elim (cases_eq n (2 * (n / 2))) [ inl low ↦ inl low | inr other ↦ inr (omega arith) ]

-- what either half has, the run has where it isn't whole
bit_at-halves : (marks : List Bool) (order half q : ℕ) → (IsWhole marks (suc order) (half / 2) → ⊥) → bit_at (orders_in marks order half) q ≡ 1 → bit_at (orders_in marks (suc order) (half / 2)) q ≡ 1
bit_at-halves marks order half q not_all set_ =
    let place = half / 2 in
    let parts = ap (λ n. bit_at n q) (orders_in-halves marks order place not_all) ∙ bit_at_or (orders_in marks order (2 * place)) (orders_in marks order (2 * place + 1)) q in
    let left = bit_at-lt (orders_in marks order (2 * place)) q in
    let right = bit_at-lt (orders_in marks order (2 * place + 1)) q in
    elim (halves_of half) [
      | inl low ↦ let here = ap (λ n. bit_at (orders_in marks order n) q) low in omega (arith, parts, left, right, here, set_)
      | inr high ↦ let here = ap (λ n. bit_at (orders_in marks order n) q) high in omega (arith, parts, left, right, here, set_)
    ]

-- halving first or last
div_twice : (j more : ℕ) → j / 2 / 2 ^ more ≡ j / 2 ^ more / 2
div_twice j more =
    let e : 1 + more ≡ more + 1 = omega arith in
    shr-shr j 1 more ∙ ap (λ n. j / 2 ^ n) e ∙ sym (shr-shr j more 1)

-- a lone run shows in each run round it
pub bit_at-lone : (marks : List Bool) (q j : ℕ) → IsLone marks q j → (more order : ℕ) → order ≡ q + more → order ≤ 10 → bit_at (orders_in marks order (j / 2 ^ more)) q ≡ 1
bit_at-lone marks q j lone zero order is small =
    let same : order ≡ q = omega arith in
    let place : j / 2 ^ 0 ≡ j = omega arith in
    rw (same, place) (ap (λ n. bit_at n q) (orders_in-whole marks q j lone.all) ∙ bit_at-pow_same q)
bit_at-lone marks q j lone (suc more) zero is small = absurd (omega arith)
bit_at-lone marks q j lone (suc more) (suc order) is small =
    let inner = bit_at-lone marks q j lone more order (omega arith) (omega arith) in
    let up : j / 2 ^ suc more ≡ j / 2 ^ more / 2 = next_place j more in
    let far : suc order ≡ suc q + more = omega arith in
    let not_all : IsWhole marks (suc order) (j / 2 ^ more / 2) → ⊥ = λ all.
    lone.alone (omega arith) (IsWhole-within marks (suc q) more (j / 2 ^ more / 2) (j / 2) (div_twice j more) (subst (λ n. IsWhole marks n (j / 2 ^ more / 2)) far all)) in
    rw up (bit_at-halves marks order (j / 2 ^ more) q not_all inner)

-- a free run is whole at its place
pub IsWhole-from_run : (marks : List Bool) (f order : ℕ) → IsFreeRun (free_of marks) f order → IsWhole marks order (f / 2 ^ order)
IsWhole-from_run marks f order run g here =
    let start : f / 2 ^ order * 2 ^ order + f % 2 ^ order ≡ f = div-add-mod' f (2 ^ order) in
    let whole_g : g / 2 ^ order * 2 ^ order + g % 2 ^ order ≡ g = div-add-mod' g (2 ^ order) in
    let same : g / 2 ^ order * 2 ^ order ≡ f / 2 ^ order * 2 ^ order = ap (λ n. n * 2 ^ order) here in
    let rest : g % 2 ^ order < 2 ^ order = mod_below g (2 ^ order) (pow_pos order) in
    from_free_of marks g (run.all_free g (omega (arith, run.aligned)) (omega (arith, run.aligned)))

-- a whole run is free
pub IsFreeRun-from_whole : (marks : List Bool) (order place : ℕ) → IsWhole marks order place → IsFreeRun (free_of marks) (place * 2 ^ order) order
IsFreeRun-from_whole marks order place all = record {
  aligned = let e : place * 2 ^ order ≡ place * 2 ^ order + 0 = omega arith in rw e (mod-mul-add place (2 ^ order) 0 (pow_pos order));
  all_free = λ g low high.
      let e : g ≡ place * 2 ^ order + (g - place * 2 ^ order) = omega arith in
      Contains-free_of marks g (all g (ap (λ n. n / 2 ^ order) e ∙ div-mul-add place (2 ^ order) (g - place * 2 ^ order) (omega arith)));
}

-- the start of the run round a frame is its place times the length
start_of : (f order : ℕ) → f - f % 2 ^ order ≡ f / 2 ^ order * 2 ^ order
start_of f order = omega (arith, div-add-mod' f (2 ^ order))

-- a block is a lone run
pub IsLone-from_block : (marks : List Bool) (f order : ℕ) → IsBlock (free_of marks) f order → IsLone marks order (f / 2 ^ order)
IsLone-from_block marks f order block = record {
  all = IsWhole-from_run marks f order block.run;
  alone = λ less all.
      let next : order + 1 ≡ suc order = omega arith in
      let place : f / 2 ^ order / 2 ≡ f / 2 ^ suc order = sym (next_place f order) in
      let greater = IsFreeRun-from_whole marks (suc order) (f / 2 ^ suc order) (subst (λ n. IsWhole marks (suc order) n) place all) in
      IsBlock-alone block (less, rw (next, start_of f (suc order)) greater);
}

-- and a lone run is a block
pub IsBlock-from_lone : (marks : List Bool) (order place : ℕ) → order ≤ 10 → IsLone marks order place → IsBlock (free_of marks) (place * 2 ^ order) order
IsBlock-from_lone marks order place small lone =
    let f = place * 2 ^ order in
    let next : order + 1 ≡ suc order = omega arith in
    IsBlock-from_run small (IsFreeRun-from_whole marks order place lone.all) (λ greater.
    let run : IsFreeRun (free_of marks) (f - f % 2 ^ suc order) (suc order) = subst (λ n. IsFreeRun (free_of marks) (f - f % 2 ^ n) n) next greater.1 in
    let all : IsWhole marks (suc order) ((f - f % 2 ^ suc order) / 2 ^ suc order) = IsWhole-from_run marks (f - f % 2 ^ suc order) (suc order) run in
    let there : (f - f % 2 ^ suc order) / 2 ^ suc order ≡ place / 2 =
    ap (λ n. n / 2 ^ suc order) (start_of f (suc order)) ∙ shl-shr (f / 2 ^ suc order) (suc order) ∙ next_place f order ∙ ap (λ n. n / 2) (shl-shr place order) in
    lone.alone greater.0 (subst (λ n. IsWhole marks (suc order) n) there all))
