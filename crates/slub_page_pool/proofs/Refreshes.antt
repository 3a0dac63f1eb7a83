-- The tree is brought up to date.
use Rattle.std.proofs.Common.{ℕ, zero, suc, ◌+◌, ◌-◌, ◌*◌, ◌/◌, ◌^◌, ◌<◌, ◌≤◌, ◌≡◌, ◌⊎◌, inl, inr, Bool, false, cond, eqb, List, length, get_or, set, replicate, refl, sym, ◌∙◌, ap, subst, arith}
use Rattle.std.proofs.lemmas.Bool.{cases_lt, cases_eq, cases_order, ne_eqb}
use Rattle.std.proofs.lemmas.List.{length-set, get_or-set_same, get_or-set_other, get_or-replicate, get_or_past, length-replicate}
use Rattle.std.proofs.lemmas.Nat.{le-div, div_below, pow-add, pow_pos}
use Rattle.std.proofs.Math.Nat.{div-mul-le_self, zero-div}
use Rattle.slub_page_pool.specs.Orders.{joined, orders_in, slot, kept_of, IsIndex, IsIndexOutside}
use Rattle.slub_page_pool.proofs.FreeRuns.{pow_le}
use Rattle.slub_page_pool.proofs.MarkedFrames.{with_marks, get_or-with_marks_below, get_or-with_marks_above}
use Rattle.slub_page_pool.proofs.RunOrders.{next_place}
use Rattle.slub_page_pool.proofs.Descents.{pow_next}

-- what is kept of a single frame is right
kept_of-frame : (marks : List Bool) (orders : List ℕ) (place : ℕ) → kept_of marks orders 0 place ≡ orders_in marks 0 place
unfolding orders_in
kept_of-frame marks orders place = refl

-- what is kept of another run is a node
pub kept_of-node : (marks : List Bool) (orders : List ℕ) (order place : ℕ) → 0 < order → kept_of marks orders order place ≡ get_or orders (slot order place) 0
kept_of-node marks orders order place some = rw (ne_eqb order 0 (λ same. omega arith)) refl

-- two runs are kept in two places
slot_apart : (p i q j : ℕ) → p ≤ 10 → q ≤ 10 → i < 2 ^ (12 - p) → j < 2 ^ (12 - q) → (p ≡ q → i ≡ j → ⊥) → slot p i ≡ slot q j → ⊥
slot_apart p i q j p_small q_small i_within j_within other same =
    elim (cases_order p q) [
      | inl level ↦ other level (let e : 2 ^ (12 - p) ≡ 2 ^ (12 - q) = ap (λ n. 2 ^ (12 - n)) level in omega arith)
      | inr (inl below) ↦ omega (arith, pow_next (12 - q), pow_le (suc (12 - q)) (12 - p) (omega arith))
      | inr (inr above) ↦ omega (arith, pow_next (12 - p), pow_le (suc (12 - p)) (12 - q) (omega arith))
    ]

-- what is right after the runs below `level`, and those of `level` before `place`
pub record Refreshed (marks : List Bool) (orders : List ℕ) (first last level place : ℕ) : Type 0 where
  pub size : length orders ≡ 4096
  pub right : (p i : ℕ) → p ≤ 10 → i < 2 ^ (12 - p) → (p < level) ⊎ ((p ≡ level) × (i < place)) ⊎ (i < first / 2 ^ p) ⊎ (last / 2 ^ p < i) → kept_of marks orders p i ≡ orders_in marks p i

-- at first single frames are right, and the runs outside
pub Refreshed-start : {marks : List Bool} {orders : List ℕ} {first last : ℕ} → IsIndexOutside marks orders first last → Refreshed marks orders first last 1 0
Refreshed-start {marks} {orders} {first} {last} outside = record {
  size = outside.size;
  right = λ p i small within where_. elim where_ [
    | inl below ↦ let none : 0 ≡ p = omega arith in subst (λ n. kept_of marks orders n i ≡ orders_in marks n i) none (kept_of-frame marks orders i)
    | inr (inl here) ↦ absurd (omega (arith, here.1))
    | inr (inr (inl before)) ↦ outside.right p i small within (inl before)
    | inr (inr (inr after)) ↦ outside.right p i small within (inr after)
  ];
}

-- the runs before the first that changed are right
pub Refreshed-row : {marks : List Bool} {orders : List ℕ} {first last level : ℕ} → Refreshed marks orders first last level 0 → Refreshed marks orders first last level (first / 2 ^ level)
Refreshed-row {marks} {orders} {first} {last} {level} done = record {
  size = done.size;
  right = λ p i small within where_. elim where_ [
    | inl below ↦ done.right p i small within (inl below)
    | inr (inl here) ↦ done.right p i small within (inr (inr (inl (subst (λ n. i < first / 2 ^ n) (sym here.0) here.1))))
    | inr (inr out) ↦ done.right p i small within (inr (inr out))
  ];
}

-- a write of one node leaves the others
kept_of-set_other : (marks : List Bool) (orders : List ℕ) (node v p i : ℕ) → (slot p i ≡ node → ⊥) → kept_of marks (set orders node v) p i ≡ kept_of marks orders p i
kept_of-set_other marks orders node v p i other = ap (λ n. cond (eqb p 0) (cond (get_or marks i false) 1 0) n) (get_or-set_other orders node (slot p i) v 0 other)

-- a node joins its halves
orders_in-next : (marks : List Bool) (order place : ℕ) → orders_in marks (order + 1) place ≡ joined order (orders_in marks order (2 * place)) (orders_in marks order (2 * place + 1))
unfolding orders_in
orders_in-next marks order place = let e : order + 1 ≡ suc order = omega arith in rw e refl

-- there are half as many runs of the next order
pub halves_within : (order place : ℕ) → order ≤ 9 → place < 2 ^ (11 - order) → 2 * place + 1 < 2 ^ (12 - order)
halves_within order place small within =
    let e : 12 - order ≡ suc (11 - order) = omega arith in
    omega (arith, ap (λ n. 2 ^ n) e, pow_next (11 - order))

-- a node's place is in the tree
pub node_within : (order place : ℕ) → order ≤ 9 → place < 2 ^ (11 - order) → slot (order + 1) place < 4096
node_within order place small within =
    let e : 12 - (order + 1) ≡ 11 - order = omega arith in
    let most : 2 ^ (11 - order) ≤ 2048 = pow_le (11 - order) 11 (omega arith) in
    omega (arith, ap (λ n. 2 ^ n) e, most)

-- a run of the next order that has a frame of the machine
pub row_within : (last order place : ℕ) → last < 4096 → order ≤ 9 → place < last / 2 ^ (order + 1) + 1 → place < 2 ^ (11 - order)
row_within last order place few small inside =
    let e : 11 - order + (order + 1) ≡ 12 = omega arith in
    let whole : 2 ^ (11 - order) * 2 ^ (order + 1) ≡ 4096 = sym (pow-add 2 (11 - order) (order + 1)) ∙ ap (λ n. 2 ^ n) e in
    omega (arith, div_below last (2 ^ (order + 1)) (2 ^ (11 - order)) (pow_pos (order + 1)) (omega (arith, whole)))

-- two pairs are the same or not
both_or_other : (p q i j : ℕ) → ((p ≡ q) × (i ≡ j)) ⊎ (p ≡ q → i ≡ j → ⊥)
both_or_other p q i j =
    elim (cases_eq p q) [
      | inl same ↦ elim (cases_eq i j) [ inl here ↦ inl (same, here) | inr there ↦ inr (λ _ here. there here) ]
      | inr other ↦ inr (λ same _. other same)
    ]

-- a place up to another that isn't it is before it
before_from : (p q i j : ℕ) → (p ≡ q → i ≡ j → ⊥) → p ≡ q → i < j + 1 → i < j
before_from p q i j other level upto = elim (cases_eq i j) [ inl here ↦ absurd (other level here) | inr there ↦ omega arith ]

-- one more run is right
pub Refreshed-run : {marks : List Bool} {orders : List ℕ} {first last order place : ℕ} → Refreshed marks orders first last (order + 1) place → order ≤ 9 → place < 2 ^ (11 - order)
    → Refreshed marks (set orders (slot (order + 1) place) (joined order (kept_of marks orders order (2 * place)) (kept_of marks orders order (2 * place + 1)))) first last (order + 1) (place + 1)
Refreshed-run {marks} {orders} {first} {last} {order} {place} done small within =
    let node = slot (order + 1) place in
    let v = joined order (kept_of marks orders order (2 * place)) (kept_of marks orders order (2 * place + 1)) in
    let both = halves_within order place small within in
    let left : kept_of marks orders order (2 * place) ≡ orders_in marks order (2 * place) = done.right order (2 * place) (omega arith) (omega arith) (inl (omega arith)) in
    let right : kept_of marks orders order (2 * place + 1) ≡ orders_in marks order (2 * place + 1) = done.right order (2 * place + 1) (omega arith) both (inl (omega arith)) in
    let here : kept_of marks (set orders node v) (order + 1) place ≡ orders_in marks (order + 1) place =
    kept_of-node marks (set orders node v) (order + 1) place (omega arith)
    ∙ get_or-set_same orders node v 0 (omega (arith, done.size, node_within order place small within))
    ∙ ap (λ n. joined order n (kept_of marks orders order (2 * place + 1))) left
    ∙ ap (λ n. joined order (orders_in marks order (2 * place)) n) right
    ∙ sym (orders_in-next marks order place) in
    record {
      size = length-set orders node v ∙ done.size;
      right = λ p i p_small i_within where_. elim (both_or_other p (order + 1) i place) [
        | inl same ↦ subst (λ n. kept_of marks (set orders node v) n i ≡ orders_in marks n i) (sym same.0)
            (subst (λ n. kept_of marks (set orders node v) (order + 1) n ≡ orders_in marks (order + 1) n) (sym same.1) here)
        | inr other ↦
            let less : 12 - (order + 1) ≡ 11 - order = omega arith in
            let apart = slot_apart p i (order + 1) place p_small (omega arith) i_within (omega (arith, ap (λ n. 2 ^ n) less)) other in
            kept_of-set_other marks orders node v p i apart ∙ done.right p i p_small i_within (elim where_ [
              | inl below ↦ inl below
              | inr (inl level) ↦ inr (inl (level.0, before_from p (order + 1) i place other level.0 level.1))
              | inr (inr out) ↦ inr (inr out)
            ])
      ];
    }

-- a row is right after its last run that changed
pub Refreshed-next : {marks : List Bool} {orders : List ℕ} {first last level : ℕ} → Refreshed marks orders first last level (last / 2 ^ level + 1) → Refreshed marks orders first last (level + 1) 0
Refreshed-next {marks} {orders} {first} {last} {level} done = record {
  size = done.size;
  right = λ p i small within where_. elim where_ [
    | inl below ↦ elim (cases_lt p level) [
      | inl lower ↦ done.right p i small within (inl lower)
      | inr here ↦
          let same : p ≡ level = omega arith in
          elim (cases_lt i (last / 2 ^ level + 1)) [
            | inl inside ↦ done.right p i small within (inr (inl (same, inside)))
            | inr after ↦ done.right p i small within (inr (inr (inr (let e = ap (λ n. last / 2 ^ n) same in omega (arith, e)))))
          ]
    ]
    | inr (inl here) ↦ absurd (omega (arith, here.1))
    | inr (inr out) ↦ done.right p i small within (inr (inr out))
  ];
}

-- after the last row all is right
pub IsIndex-refreshed : {marks : List Bool} {orders : List ℕ} {first last : ℕ} → Refreshed marks orders first last 11 0 → IsIndex marks orders
IsIndex-refreshed {marks} {orders} {first} {last} done = record {
  size = done.size;
  right = λ p i small within. done.right p i small within (inl (omega arith));
}

-- runs of the same marks have the same blocks
orders_in-same : (marks new : List Bool) (order place : ℕ) → ((g : ℕ) → g / 2 ^ order ≡ place → get_or new g false ≡ get_or marks g false) → orders_in new order place ≡ orders_in marks order place
unfolding orders_in
orders_in-same marks new zero place same = rw (same place (omega arith)) refl
orders_in-same marks new (suc order) place same =
    let left = orders_in-same marks new order (2 * place) (λ g here. let low : g / 2 ^ order / 2 ≡ place = omega arith in same g (next_place g order ∙ low)) in
    let right = orders_in-same marks new order (2 * place + 1) (λ g here. let high : g / 2 ^ order / 2 ≡ place = omega arith in same g (next_place g order ∙ high)) in
    rw (left, right) refl

-- a run with no mark has no block
orders_in-none : (marks : List Bool) (order place : ℕ) → ((g : ℕ) → g / 2 ^ order ≡ place → get_or marks g false ≡ false) → orders_in marks order place ≡ 0
unfolding orders_in joined
orders_in-none marks zero place none = rw (none place (omega arith)) refl
orders_in-none marks (suc order) place none =
    let left = orders_in-none marks order (2 * place) (λ g here. let low : g / 2 ^ order / 2 ≡ place = omega arith in none g (next_place g order ∙ low)) in
    let right = orders_in-none marks order (2 * place + 1) (λ g here. let high : g / 2 ^ order / 2 ≡ place = omega arith in none g (next_place g order ∙ high)) in
    let some : 0 < 2 ^ order = pow_pos order in
    let apart : eqb 0 (2 ^ order) ≡ false = ne_eqb 0 (2 ^ order) (λ same. omega arith) in
    rw (left, right, apart) refl

-- a greater frame is in no lesser place
div_mono : (f g order : ℕ) → f ≤ g → f / 2 ^ order ≤ g / 2 ^ order
div_mono f g order more = le-div (f / 2 ^ order) g (2 ^ order) (pow_pos order) (omega (arith, div-mul-le_self f (2 ^ order)))

-- a frame of a run before that of another frame is before it
frame_before : (f g order : ℕ) → g / 2 ^ order < f / 2 ^ order → g < f
frame_before f g order before = elim (cases_lt g f) [ inl less ↦ less | inr more ↦ absurd (omega (arith, div_mono f g order more)) ]

-- what is right of all runs stays right of those that have none of the frames that changed
pub IsIndexOutside-changed : (marks new : List Bool) (orders : List ℕ) (first last : ℕ) → IsIndex marks orders → ((g : ℕ) → (g < first) ⊎ (last < g) → get_or new g false ≡ get_or marks g false) → IsIndexOutside new orders first last
IsIndexOutside-changed marks new orders first last index same = record {
  size = index.size;
  right = λ p i small within out.
      let alike = orders_in-same marks new p i (λ g here. elim out [
        | inl before ↦ same g (inl (frame_before first g p (omega arith)))
        | inr after ↦ same g (inr (frame_before g last p (omega arith)))
      ]) in
      elim (cases_lt 0 p) [
        | inl some ↦ kept_of-node new orders p i some ∙ sym (kept_of-node marks orders p i some) ∙ index.right p i small within ∙ sym alike
        | inr none ↦ let zero_ : 0 ≡ p = omega arith in subst (λ n. kept_of new orders n i ≡ orders_in new n i) zero_ (kept_of-frame new orders i)
      ];
}

-- where a run is marked or not, the runs round its frames are to be joined anew
pub IsIndexOutside-run : (marks : List Bool) (orders : List ℕ) (f n : ℕ) (v : Bool) → f + n ≤ length marks → 0 < n → IsIndex marks orders → IsIndexOutside (with_marks marks f n v) orders f (f + n - 1)
IsIndexOutside-run marks orders f n v inside some index =
    IsIndexOutside-changed marks (with_marks marks f n v) orders f (f + n - 1) index (λ g out. elim out [
      | inl before ↦ get_or-with_marks_below marks f n v inside g before
      | inr after ↦ get_or-with_marks_above marks f n v inside g (omega arith)
    ])

-- so many zeros
abbrev zeros : ℕ → List ℕ
zeros n = replicate n 0

-- they have 0 at each place
zeros_at : (n k : ℕ) → get_or (zeros n) k 0 ≡ 0
zeros_at n k = elim (cases_lt k n) [ inl inside ↦ get_or-replicate n k 0 0 inside | inr past ↦ get_or_past (zeros n) k 0 (omega (arith, length-replicate n (let z : ℕ = 0 in z))) ]

-- the same, by the number of nodes
zeros_of : (marks : List Bool) (n : ℕ) (orders : List ℕ) (last : ℕ) → orders ≡ zeros n → n ≡ 4096 → length marks ≤ last + 1 → IsIndexOutside marks orders 0 last
zeros_of marks n orders last are_zeros many few = record {
  size = ap length are_zeros ∙ length-replicate n 0 ∙ many;
  right = λ p i small within out.
      let none = orders_in-none marks p i (λ g here. elim out [
        | inl before ↦ let z : 0 / 2 ^ p ≡ 0 = zero-div (2 ^ p) in absurd (omega arith)
        | inr after ↦ get_or_past marks g false (omega (arith, frame_before g last p (omega arith)))
      ]) in
      elim (cases_lt 0 p) [
        | inl some ↦ kept_of-node marks orders p i some ∙ ap (λ s. get_or s (slot p i) 0) are_zeros ∙ zeros_at n (slot p i) ∙ sym none
        | inr none_ ↦ let zero_ : 0 ≡ p = omega arith in subst (λ n. kept_of marks orders n i ≡ orders_in marks n i) zero_ (kept_of-frame marks orders i)
      ];
}

-- a tree of zeros is right beyond the last frame
pub IsIndexOutside-zeros : (marks : List Bool) (orders : List ℕ) (last : ℕ) → orders ≡ zeros 4096 → length marks ≤ last + 1 → IsIndexOutside marks orders 0 last
IsIndexOutside-zeros marks orders last are_zeros few = zeros_of marks 4096 orders last are_zeros refl few
