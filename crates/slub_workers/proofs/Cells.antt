-- The words by number, and the cells that they lie in.
use Rattle.std.specs.Prelude.{◌≢◌, ◌/◌, nat_lt, if◌then◌else◌}
use Rattle.std.proofs.Common.{◌≡◌, ◌⊎◌, ℕ, ◌+◌, ◌-◌, ◌*◌, ◌<◌, ◌≤◌, List, length, get_or, set, refl, sym, ap, ◌∙◌, subst, inl, inr, arith, length-set}
use Rattle.std.proofs.lemmas.Bool.{cases_eq, cases_lt}
use Rattle.std.proofs.lemmas.Bool.Decides.{nat_tests}
use Rattle.std.proofs.lemmas.List.{ext_get_or, get_or_past, get_or-set_same, get_or-set_other}
use Rattle.std.proofs.lemmas.List.FromFn.{length-map-range_with_len, get_or-map-range_with_len}
use Rattle.slub_core.specs.Words.{list_base, cpu_base, slab_base}
use Rattle.slub_workers.specs.Cells.{mirrored, list_of_lock, cell_of, spread_end, by_number, LocksLieApart, CpusLieApart, SlabsLieApart}

-- ---- digits

pub mirrored-below : (i : ℕ) → i < 512 → mirrored i < 512
mirrored-below i low = omega arith

pub mirrored-mirrored : (i : ℕ) → i < 512 → mirrored (mirrored i) ≡ i
mirrored-mirrored i low = omega arith

pub list_of_lock-below : (k : ℕ) → k < 33 → list_of_lock k < 512
list_of_lock-below k low = omega arith

pub mirrored-list_of_lock : (k : ℕ) → k < 33 → mirrored (list_of_lock k) ≡ list_of_lock k
mirrored-list_of_lock k low = omega arith

-- ---- mirrored cells

-- the cells as they are where no lock word exchanges its cell with a list word
pub mirrored_cell : ℕ → ℕ
mirrored_cell n =
    if nat_lt n list_base then n
    else if nat_lt n cpu_base then list_base + mirrored (n - list_base)
    else if nat_lt n slab_base then cpu_base + mirrored (n - cpu_base)
    else if nat_lt n spread_end then slab_base + mirrored (n - slab_base)
    else n

pub mirrored-stays : (n : ℕ) → (n < list_base) ⊎ (spread_end ≤ n) → mirrored_cell n ≡ n
unfolding mirrored_cell
mirrored-stays n out = elim out [ inl low ↦ grind (arith, nat_tests) | inr far ↦ grind (arith, nat_tests) ]

mirrored-list : (i : ℕ) → i < 512 → mirrored_cell (list_base + i) ≡ list_base + mirrored i
unfolding mirrored_cell
mirrored-list i low = grind (arith, nat_tests)

mirrored-cpu : (i : ℕ) → i < 512 → mirrored_cell (cpu_base + i) ≡ cpu_base + mirrored i
unfolding mirrored_cell
mirrored-cpu i low = grind (arith, nat_tests)

mirrored-slab : (i : ℕ) → i < 512 → mirrored_cell (slab_base + i) ≡ slab_base + mirrored i
unfolding mirrored_cell
mirrored-slab i low = grind (arith, nat_tests)

-- the words of a kind are numbered from here on: the list words, the CPU words, or the slab words
abbrev pub IsBase : ℕ → Type 0
IsBase base = (base ≡ list_base) ⊎ (base ≡ cpu_base) ⊎ (base ≡ slab_base)

pub mirrored-base : (base i : ℕ) → IsBase base → i < 512 → mirrored_cell (base + i) ≡ base + mirrored i
mirrored-base base i is low = elim is [
  | inl e ↦ ap (λ (b : ℕ). mirrored_cell (b + i)) e ∙ mirrored-list i low ∙ ap (λ (b : ℕ). b + mirrored i) (sym e)
  | inr (inl e) ↦ ap (λ (b : ℕ). mirrored_cell (b + i)) e ∙ mirrored-cpu i low ∙ ap (λ (b : ℕ). b + mirrored i) (sym e)
  | inr (inr e) ↦ ap (λ (b : ℕ). mirrored_cell (b + i)) e ∙ mirrored-slab i low ∙ ap (λ (b : ℕ). b + mirrored i) (sym e)
]

-- a number is that of a word of such a kind, or another one
pub data Sort (n : ℕ) : Type 0 where
  stays : (n < list_base) ⊎ (spread_end ≤ n) → mirrored_cell n ≡ n → Sort n
  of_cpus : (base i : ℕ) → IsBase base → i < 512 → n ≡ base + i → Sort n

pub sort_of : (n : ℕ) → Sort n
sort_of n = elim (cases_lt n list_base) [
  | inl low ↦ stays (inl low) (mirrored-stays n (inl low))
  | inr high ↦ elim (cases_lt n cpu_base) [
    | inl low ↦ of_cpus list_base (n - list_base) (inl refl) (omega arith) (omega arith)
    | inr higher ↦ elim (cases_lt n slab_base) [
      | inl low ↦ of_cpus cpu_base (n - cpu_base) (inr (inl refl)) (omega arith) (omega arith)
      | inr last ↦ elim (cases_lt n spread_end) [
        | inl low ↦ of_cpus slab_base (n - slab_base) (inr (inr refl)) (omega arith) (omega arith)
        | inr far ↦ stays (inr far) (mirrored-stays n (inr far))
      ]
    ]
  ]
]

mirrored-twice : (n : ℕ) → mirrored_cell (mirrored_cell n) ≡ n
mirrored-twice n = elim (sort_of n) [
  | stays out e ↦ ap mirrored_cell e ∙ e
  | of_cpus base i is low e ↦
      ap (λ (k : ℕ). mirrored_cell (mirrored_cell k)) e ∙ ap mirrored_cell (mirrored-base base i is low) ∙ mirrored-base base (mirrored i) is (mirrored-below i low)
      ∙ ap (λ (k : ℕ). base + k) (mirrored-mirrored i low) ∙ sym e
]

mirrored-from : (n : ℕ) → list_base ≤ n → list_base ≤ mirrored_cell n
mirrored-from n from = elim (sort_of n) [
  | stays out e ↦ omega (arith, e)
  | of_cpus base i is below e ↦
      let c : mirrored_cell n ≡ base + mirrored i = ap mirrored_cell e ∙ mirrored-base base i is below in
      elim is [ inl b ↦ omega (arith, c) | inr (inl b) ↦ omega (arith, c) | inr (inr b) ↦ omega (arith, c) ]
]

mirrored-within : (n count : ℕ) → 1569 ≤ count → n < count → mirrored_cell n < count
mirrored-within n count all low = elim (sort_of n) [
  | stays out e ↦ omega (arith, e)
  | of_cpus base i is below e ↦
      let c : mirrored_cell n ≡ base + mirrored i = ap mirrored_cell e ∙ mirrored-base base i is below in
      elim is [ inl b ↦ omega (arith, c) | inr (inl b) ↦ omega (arith, c) | inr (inr b) ↦ omega (arith, c) ]
]

-- the list word of a lock is its own mirror, so its mirrored cell is that of its number
pub mirrored-of_lock : (k : ℕ) → k < 33 → mirrored_cell (list_base + list_of_lock k) ≡ list_base + list_of_lock k
mirrored-of_lock k low = mirrored-list (list_of_lock k) (list_of_lock-below k low) ∙ ap (λ (i : ℕ). list_base + i) (mirrored-list_of_lock k low)

-- ---- cells

pub cell-lock : (k : ℕ) → k < 33 → cell_of k ≡ list_base + list_of_lock k
unfolding cell_of
cell-lock k low = grind (arith, nat_tests)

pub cell-of_lock : (k : ℕ) → k < 33 → cell_of (list_base + list_of_lock k) ≡ k
unfolding cell_of
cell-of_lock k low = grind (arith, nat_tests)

cell-list_apart : (i : ℕ) → i < 512 → i ≢ list_of_lock (i / 8 - 31) → cell_of (list_base + i) ≡ list_base + mirrored i
unfolding cell_of
cell-list_apart i low apart = grind (arith, nat_tests)

cell-others : (n : ℕ) → cpu_base ≤ n → cell_of n ≡ mirrored_cell n
unfolding cell_of mirrored_cell
cell-others n far = grind (arith, nat_tests)

-- a number is that of a lock word, that of the list word of a lock, or another one
pub data Place (n : ℕ) : Type 0 where
  of_lock : n < 33 → Place n
  of_list : (k : ℕ) → k < 33 → n ≡ list_base + list_of_lock k → Place n
  of_others : list_base ≤ n → ((k : ℕ) → k < 33 → n ≢ list_base + list_of_lock k) → cell_of n ≡ mirrored_cell n → Place n

pub place_of : (n : ℕ) → Place n
place_of n = elim (cases_lt n list_base) [
  | inl low ↦ of_lock low
  | inr high ↦ elim (cases_lt n cpu_base) [
    | inl low ↦
        let at : n ≡ list_base + (n - list_base) = omega arith in
        elim (cases_eq (n - list_base) (list_of_lock ((n - list_base) / 8 - 31))) [
          | inl e ↦ of_list ((n - list_base) / 8 - 31) (omega arith) (omega arith)
          | inr ne ↦ of_others high (λ k k_low e. ne (omega arith))
              (ap cell_of at ∙ cell-list_apart (n - list_base) (omega arith) ne ∙ sym (ap mirrored_cell at ∙ mirrored-list (n - list_base) (omega arith)))
        ]
    | inr far ↦ of_others high (λ k k_low e. omega arith) (cell-others n far)
  ]
]

-- the word of a cell's number lies in the cell of the number
pub cell-cell : (n : ℕ) → cell_of (cell_of n) ≡ n
cell-cell n = elim (place_of n) [
  | of_lock low ↦ ap cell_of (cell-lock n low) ∙ cell-of_lock n low
  | of_list k low e ↦ ap (λ (j : ℕ). cell_of (cell_of j)) e ∙ ap cell_of (cell-of_lock k low) ∙ cell-lock k low ∙ sym e
  | of_others from apart e ↦ elim (place_of (mirrored_cell n)) [
    | of_lock low ↦ let high = mirrored-from n from in absurd (omega arith)
    | of_list k low is ↦ absurd (apart k low (sym (mirrored-twice n) ∙ ap mirrored_cell is ∙ mirrored-of_lock k low))
    | of_others high others is ↦ ap cell_of e ∙ is ∙ mirrored-twice n
  ]
]

-- a table that has all words of these kinds has the cell of each of its words
pub cell-within : (n count : ℕ) → 1569 ≤ count → n < count → cell_of n < count
cell-within n count all low = elim (place_of n) [
  | of_lock lock ↦ let e = cell-lock n lock in omega arith
  | of_list k lock is ↦ let e : cell_of n ≡ k = ap cell_of is ∙ cell-of_lock k lock in omega arith
  | of_others from apart e ↦ let within = mirrored-within n count all low in omega arith
]

pub cell-outside : (n count : ℕ) → 1569 ≤ count → count ≤ n → count ≤ cell_of n
cell-outside n count all far = elim (cases_lt (cell_of n) count) [
  | inl low ↦ let back = cell-within (cell_of n) count all low in let e = cell-cell n in absurd (omega arith)
  | inr out ↦ out
]

pub number-outside : (n count : ℕ) → 1569 ≤ count → count ≤ cell_of n → count ≤ n
number-outside n count all far = let e = cell-cell n in let out = cell-outside (cell_of n) count all far in omega arith

-- ---- words

pub length-by_number : (words : List ℕ) → length (by_number words) ≡ length words
unfolding by_number
length-by_number words = length-map-range_with_len (λ n. get_or words (cell_of n) 0) 0 (length words)

pub get-by_number : (words : List ℕ) (n : ℕ) → 1569 ≤ length words → get_or (by_number words) n 0 ≡ get_or words (cell_of n) 0
unfolding by_number
get-by_number words n all = elim (cases_lt n (length words)) [
  | inl low ↦ get_or-map-range_with_len (λ k. get_or words (cell_of k) 0) 0 (length words) n n 0 low (omega arith)
  | inr far ↦
      let long = length-by_number words in
      get_or_past (by_number words) n 0 (omega arith) ∙ sym (get_or_past words (cell_of n) 0 (cell-outside n (length words) all far))
]

-- the words that have at each number what these have in its cell
pub is-by_number : (words now : List ℕ) → 1569 ≤ length words → length now ≡ length words
    → ((n : ℕ) → n < length words → get_or now n 0 ≡ get_or words (cell_of n) 0) → now ≡ by_number words
is-by_number words now all long at =
    let count = length-by_number words in
    ext_get_or 0 now (by_number words) (omega arith) (λ n low. at n (omega arith) ∙ sym (get-by_number words n all))

-- a word is changed in its cell
pub set-by_number : (words : List ℕ) (n v : ℕ) → 1569 ≤ length words → by_number (set words (cell_of n) v) ≡ set (by_number words) n v
set-by_number words n v all =
    let long = length-set words (cell_of n) v in
    let count = length-by_number words in
    let wide = length-set (by_number words) n v in
    sym (is-by_number (set words (cell_of n) v) (set (by_number words) n v) (omega arith) (omega arith) (λ k low. elim (cases_eq k n) [
      | inl e ↦
          let below : k < length words = omega arith in
          let within = cell-within k (length words) all below in
          let n_within : cell_of n < length words = subst (λ (j : ℕ). cell_of j < length words) e within in
          ap (λ (j : ℕ). get_or (set (by_number words) n v) j 0) e ∙ get_or-set_same (by_number words) n v 0 (omega arith)
          ∙ sym (get_or-set_same words (cell_of n) v 0 n_within) ∙ ap (λ (j : ℕ). get_or (set words (cell_of n) v) (cell_of j) 0) (sym e)
      | inr ne ↦
          get_or-set_other (by_number words) n k v 0 ne ∙ get-by_number words k all
          ∙ sym (get_or-set_other words (cell_of n) (cell_of k) v 0 (λ e. ne (sym (cell-cell k) ∙ ap cell_of e ∙ cell-cell n)))
    ]))

pub by_number-twice : (words : List ℕ) → 1569 ≤ length words → by_number (by_number words) ≡ words
by_number-twice words all =
    let count = length-by_number words in
    sym (is-by_number (by_number words) words (omega arith) (omega arith) (λ n low.
    sym (get-by_number words (cell_of n) all ∙ ap (λ (k : ℕ). get_or words k 0) (cell-cell n))))

-- ---- lines

pub locks-lie-apart : LocksLieApart
locks-lie-apart lock other low one apart =
    let a = cell-lock lock low in
    let b = cell-lock other one in
    elim (cases_lt lock other) [
      | inl under ↦ inl (omega arith)
      | inr over ↦ inr (omega arith)
    ]

cell-list : (i : ℕ) → i < 240 → cell_of (list_base + i) ≡ list_base + mirrored i
unfolding cell_of
cell-list i low = grind (arith, nat_tests)

cell-cpu : (i : ℕ) → i < 512 → cell_of (cpu_base + i) ≡ cpu_base + mirrored i
unfolding cell_of
cell-cpu i low = grind (arith, nat_tests)

cell-slab : (i : ℕ) → i < 512 → cell_of (slab_base + i) ≡ slab_base + mirrored i
unfolding cell_of
cell-slab i low = grind (arith, nat_tests)

-- where the words of the first caches lie in their mirrored cells
cpus-lie-apart : (base caches : ℕ) → caches ≤ 32 → ((i : ℕ) → i < 16 * caches → cell_of (base + i) ≡ base + mirrored i) → CpusLieApart base caches
cpus-lie-apart base caches most at cache cpu other low one two apart =
    let a = at (16 * cache + cpu) (omega arith) in
    let b = at (16 * cache + other) (omega arith) in
    elim (cases_lt (cell_of (base + (16 * cache + cpu))) (cell_of (base + (16 * cache + other)))) [
      | inl under ↦ inl (omega arith)
      | inr over ↦ inr (omega arith)
    ]

pub list-words-lie-apart : CpusLieApart list_base 15
list-words-lie-apart = cpus-lie-apart list_base 15 (omega arith) (λ i low. cell-list i low)

pub cpu-words-lie-apart : CpusLieApart cpu_base 32
cpu-words-lie-apart = cpus-lie-apart cpu_base 32 (omega arith) (λ i low. cell-cpu i low)

pub slabs-lie-apart : SlabsLieApart
slabs-lie-apart frame other low one same apart =
    let a = cell-slab frame low in
    let b = cell-slab other one in
    elim (cases_lt (cell_of (slab_base + frame)) (cell_of (slab_base + other))) [
      | inl under ↦ inl (omega arith)
      | inr over ↦ inr (omega arith)
    ]
