-- The words of each kind change their places among each other, two at a time: list words, CPU words, slab words. Then
-- each lock word changes with its list word.
use Rattle.std.proofs.Common.{◌≡◌, ◌≢◌, ◌⊎◌, ℕ, ◌+◌, ◌<◌, ◌≤◌, List, length, get_or, swap, sym, ap, ◌∙◌, inl, inr, arith, subst}
use Rattle.std.proofs.lemmas.Bool.{cases_eq, cases_lt}
use Rattle.std.proofs.lemmas.List.Edits.{length-swap, Swapped, swapped_from_swap}
use Rattle.slub_core.specs.Words.{list_base, cpu_base, slab_base}
use Rattle.slub_workers.specs.Cells.{mirrored, list_of_lock, cell_of, spread_end, by_number}
use Rattle.slub_workers.proofs.Cells.{mirrored_cell, IsBase, stays, of_cpus, sort_of, of_lock, of_list, of_others, place_of, mirrored-below, mirrored-mirrored, mirrored-stays, mirrored-base, mirrored-of_lock, cell-lock, cell-of_lock, is-by_number}

-- ---- those of one kind

-- the words so far that are numbered from the base on, once those below this number were each exchanged with that of the
-- mirrored number
pub record Mirrors (base i : ℕ) (first now : List ℕ) : Type 0 where
  pub done : (k : ℕ) → k < 512 → (k < i) ⊎ (mirrored k < i) → get_or now (base + k) 0 ≡ get_or first (base + mirrored k) 0
  pub left : (k : ℕ) → k < 512 → i ≤ k → i ≤ mirrored k → get_or now (base + k) 0 ≡ get_or first (base + k) 0

-- a word whose number mirrored isn't above has its place
mirrors-stay : (base i : ℕ) (first now : List ℕ) → i < 512 → mirrored i ≤ i → Mirrors base i first now → Mirrors base (i + 1) first now
mirrors-stay base i first now below low t = record {
  done = λ k k_low before. elim (cases_lt k i) [
    | inl under ↦ t.done k k_low (inl under)
    | inr over ↦ elim (cases_lt (mirrored k) i) [
      | inl under ↦ t.done k k_low (inr under)
      | inr above ↦
          let back = mirrored-mirrored k k_low in
          let same : k ≡ i = elim before [
            | inl e ↦ omega arith
            | inr e ↦ let at : mirrored k ≡ i = omega arith in let is : k ≡ mirrored i = sym back ∙ ap mirrored at in omega arith
          ] in
          let self : mirrored k ≡ k = let is = ap mirrored same in omega arith in
          t.left k k_low over above ∙ ap (λ (j : ℕ). get_or first (base + j) 0) (sym self)
    ]
  ];
  left = λ k k_low a b. t.left k k_low (omega arith) (omega arith);
}

mirrors-more : (base i : ℕ) (first now next : List ℕ) → i < 512 → i < mirrored i → Swapped (λ n. get_or now n 0) (λ n. get_or next n 0) (base + i) (base + mirrored i)
    → Mirrors base i first now → Mirrors base (i + 1) first next
mirrors-more base i first now next below low s t =
    let other = mirrored-below i below in
    let back = mirrored-mirrored i below in
    record {
      done = λ k k_low before. elim (cases_eq k i) [
        | inl e ↦
            ap (λ (j : ℕ). get_or next (base + j) 0) e ∙ s.0 ∙ t.left (mirrored i) other (omega arith) (omega arith)
            ∙ ap (λ (j : ℕ). get_or first (base + mirrored j) 0) (sym e)
        | inr not_i ↦ elim (cases_eq k (mirrored i)) [
          | inl e ↦
              ap (λ (j : ℕ). get_or next (base + j) 0) e ∙ s.1 ∙ t.left i below (omega arith) (omega arith)
              ∙ ap (λ (j : ℕ). get_or first (base + j) 0) (sym (ap mirrored e ∙ back))
          | inr not_mirror ↦
              let there = mirrored-mirrored k k_low in
              let apart : mirrored k ≢ i = λ e. not_mirror (sym there ∙ ap mirrored e) in
              s.2 (base + k) (λ e. not_i (omega arith)) (λ e. not_mirror (omega arith)) ∙ t.done k k_low (elim before [
                | inl e ↦ inl (omega arith)
                | inr e ↦ inr (omega arith)
              ])
        ]
      ];
      left = λ k k_low a b.
          s.2 (base + k) (λ e. let f : k ≡ i = omega arith in omega arith) (λ e. let f : k ≡ mirrored i = omega arith in let g : mirrored k ≡ i = ap mirrored f ∙ back in omega arith)
          ∙ t.left k k_low (omega arith) (omega arith);
    }

-- words of another kind change
mirrors-keep : (base i : ℕ) (first now next : List ℕ) → ((k : ℕ) → k < 512 → get_or next (base + k) 0 ≡ get_or now (base + k) 0) → Mirrors base i first now → Mirrors base i first next
mirrors-keep base i first now next same t = record {
  done = λ k low before. same k low ∙ t.done k low before;
  left = λ k low a b. same k low ∙ t.left k low a b;
}

-- ---- all of them

-- the words so far, once those below this number were each exchanged with that of the mirrored number
pub record Turns (i : ℕ) (first now : List ℕ) : Type 0 where
  pub count : length now ≡ length first
  pub lists : Mirrors list_base i first now
  pub cpus : Mirrors cpu_base i first now
  pub slabs : Mirrors slab_base i first now
  pub others : (n : ℕ) → (n < list_base) ⊎ (spread_end ≤ n) → get_or now n 0 ≡ get_or first n 0

-- those of a kind, of whichever
of_kind : (base i : ℕ) (first now : List ℕ) → IsBase base → Turns i first now → Mirrors base i first now
of_kind base i first now is t = elim is [
  | inl b ↦ subst (λ (c : ℕ). Mirrors c i first now) (sym b) t.lists
  | inr (inl b) ↦ subst (λ (c : ℕ). Mirrors c i first now) (sym b) t.cpus
  | inr (inr b) ↦ subst (λ (c : ℕ). Mirrors c i first now) (sym b) t.slabs
]

-- then each word is in its mirrored cell
pub turns-all : (i : ℕ) (first now : List ℕ) → 512 ≤ i → Turns i first now → (n : ℕ) → get_or now n 0 ≡ get_or first (mirrored_cell n) 0
turns-all i first now far t n = elim (sort_of n) [
  | stays out e ↦ t.others n out ∙ ap (λ (k : ℕ). get_or first k 0) (sym e)
  | of_cpus base k is below e ↦
      ap (λ (j : ℕ). get_or now j 0) e ∙ (of_kind base i first now is t).done k below (inl (omega arith)) ∙ ap (λ (j : ℕ). get_or first j 0) (sym (ap mirrored_cell e ∙ mirrored-base base k is below))
]

pub turns-stay : (i : ℕ) (first now : List ℕ) → i < 512 → mirrored i ≤ i → Turns i first now → Turns (i + 1) first now
turns-stay i first now below low t = record {
  count = t.count;
  lists = mirrors-stay list_base i first now below low t.lists;
  cpus = mirrors-stay cpu_base i first now below low t.cpus;
  slabs = mirrors-stay slab_base i first now below low t.slabs;
  others = t.others;
}

-- two words of a kind are exchanged: the words of a block from another base on, and those outside of all blocks, stay
abbrev Swaps : ℕ → ℕ → List ℕ → List ℕ → Type 0
Swaps base i now next = Swapped (λ n. get_or now n 0) (λ n. get_or next n 0) (base + i) (base + mirrored i)

stay-in : (base other i : ℕ) (now next : List ℕ) → i < 512 → (base + 512 ≤ other) ⊎ (other + 512 ≤ base) → Swaps base i now next → (k : ℕ) → k < 512 → get_or next (other + k) 0 ≡ get_or now (other + k) 0
stay-in base other i now next low apart s k k_low =
    let m = mirrored-below i low in
    s.2 (other + k) (λ e. elim apart [ inl f ↦ omega arith | inr f ↦ omega arith ]) (λ e. elim apart [ inl f ↦ omega arith | inr f ↦ omega arith ])

stay-out : (base i : ℕ) (now next : List ℕ) → i < 512 → list_base ≤ base → base + 512 ≤ spread_end → Swaps base i now next → (n : ℕ) → (n < list_base) ⊎ (spread_end ≤ n) → get_or next n 0 ≡ get_or now n 0
stay-out base i now next low from to s n out =
    let m = mirrored-below i low in
    s.2 n (λ e. elim out [ inl f ↦ omega arith | inr f ↦ omega arith ]) (λ e. elim out [ inl f ↦ omega arith | inr f ↦ omega arith ])

-- two list words were exchanged, then two CPU words, and then two slab words
pub turns-more : (i : ℕ) (first now one two next : List ℕ) → i < 512 → i < mirrored i → 1569 ≤ length first → Turns i first now
    → one ≡ swap now (list_base + i) (list_base + mirrored i) → two ≡ swap one (cpu_base + i) (cpu_base + mirrored i) → next ≡ swap two (slab_base + i) (slab_base + mirrored i) → Turns (i + 1) first next
turns-more i first now one two next below low all t to_one to_two to_next =
    let other = mirrored-below i below in
    let count = t.count in
    let long_one : length one ≡ length now = ap length to_one ∙ length-swap now (list_base + i) (list_base + mirrored i) in
    let long_two : length two ≡ length one = ap length to_two ∙ length-swap one (cpu_base + i) (cpu_base + mirrored i) in
    let long_next : length next ≡ length two = ap length to_next ∙ length-swap two (slab_base + i) (slab_base + mirrored i) in
    let s : Swaps list_base i now one = swapped_from_swap now one (list_base + i) (list_base + mirrored i) 0 (omega arith) (omega arith) to_one in
    let r : Swaps cpu_base i one two = swapped_from_swap one two (cpu_base + i) (cpu_base + mirrored i) 0 (omega arith) (omega arith) to_two in
    let q : Swaps slab_base i two next = swapped_from_swap two next (slab_base + i) (slab_base + mirrored i) 0 (omega arith) (omega arith) to_next in
    record {
      count = long_next ∙ long_two ∙ long_one ∙ t.count;
      lists = mirrors-keep list_base (i + 1) first two next (stay-in slab_base list_base i two next below (inr (omega arith)) q)
          (mirrors-keep list_base (i + 1) first one two (stay-in cpu_base list_base i one two below (inr (omega arith)) r) (mirrors-more list_base i first now one below low s t.lists));
      cpus = mirrors-keep cpu_base (i + 1) first two next (stay-in slab_base cpu_base i two next below (inr (omega arith)) q)
          (mirrors-more cpu_base i first one two below low r (mirrors-keep cpu_base i first now one (stay-in list_base cpu_base i now one below (inl (omega arith)) s) t.cpus));
      slabs = mirrors-more slab_base i first two next below low q
          (mirrors-keep slab_base i first one two (stay-in cpu_base slab_base i one two below (inl (omega arith)) r) (mirrors-keep slab_base i first now one (stay-in list_base slab_base i now one below (inl (omega arith)) s) t.slabs));
      others = λ n out.
          stay-out slab_base i two next below (omega arith) (omega arith) q n out ∙ stay-out cpu_base i one two below (omega arith) (omega arith) r n out
          ∙ stay-out list_base i now one below (omega arith) (omega arith) s n out ∙ t.others n out;
    }

-- ---- the lock words

-- the words so far, once each was in its mirrored cell and then the lock words below this number were each exchanged
-- with its list word
pub record Exchanges (i : ℕ) (first now : List ℕ) : Type 0 where
  pub count : length now ≡ length first
  pub locks : (k : ℕ) → k < i → get_or now k 0 ≡ get_or first (list_base + list_of_lock k) 0
  pub lists : (k : ℕ) → k < i → get_or now (list_base + list_of_lock k) 0 ≡ get_or first k 0
  pub others : (n : ℕ) → ((k : ℕ) → k < i → n ≢ k) → ((k : ℕ) → k < i → n ≢ list_base + list_of_lock k) → get_or now n 0 ≡ get_or first (mirrored_cell n) 0

pub exchanges-none : (i : ℕ) (first now : List ℕ) → 512 ≤ i → Turns i first now → Exchanges 0 first now
exchanges-none i first now far t = record {
  count = t.count;
  locks = λ k low. absurd (omega arith);
  lists = λ k low. absurd (omega arith);
  others = λ n no_lock no_list. turns-all i first now far t n;
}

pub exchanges-more : (i : ℕ) (first now next : List ℕ) → i < 33 → 1569 ≤ length first → Exchanges i first now
    → next ≡ swap now i (list_base + list_of_lock i) → Exchanges (i + 1) first next
exchanges-more i first now next low all t to_next =
    let count = t.count in
    let long : length next ≡ length now = ap length to_next ∙ length-swap now i (list_base + list_of_lock i) in
    let s : Swapped (λ n. get_or now n 0) (λ n. get_or next n 0) i (list_base + list_of_lock i) = swapped_from_swap now next i (list_base + list_of_lock i) 0 (omega arith) (omega arith) to_next in
    record {
      count = long ∙ t.count;
      locks = λ k below. elim (cases_eq k i) [
        | inl e ↦
            ap (λ (j : ℕ). get_or next j 0) e ∙ s.0 ∙ t.others (list_base + list_of_lock i) (λ j under f. omega arith) (λ j under f. omega arith)
            ∙ ap (λ (j : ℕ). get_or first j 0) (mirrored-of_lock i low) ∙ ap (λ (j : ℕ). get_or first (list_base + list_of_lock j) 0) (sym e)
        | inr ne ↦ s.2 k ne (λ f. omega arith) ∙ t.locks k (omega arith)
      ];
      lists = λ k below. elim (cases_eq k i) [
        | inl e ↦
            ap (λ (j : ℕ). get_or next (list_base + list_of_lock j) 0) e ∙ s.1 ∙ t.others i (λ j under f. omega arith) (λ j under f. omega arith)
            ∙ ap (λ (j : ℕ). get_or first j 0) (mirrored-stays i (inl low) ∙ sym e)
        | inr ne ↦ s.2 (list_base + list_of_lock k) (λ f. omega arith) (λ f. ne (omega arith)) ∙ t.lists k (omega arith)
      ];
      others = λ n no_lock no_list.
          s.2 n (no_lock i (omega arith)) (no_list i (omega arith)) ∙ t.others n (λ k under. no_lock k (omega arith)) (λ k under. no_list k (omega arith));
    }

pub exchanges-all : (i : ℕ) (first now : List ℕ) → 33 ≤ i → i ≤ 33 → 1569 ≤ length first → Exchanges i first now → now ≡ by_number first
exchanges-all i first now far near all t =
    is-by_number first now all t.count (λ n low. elim (place_of n) [
      | of_lock lock ↦ t.locks n (omega arith) ∙ ap (λ (j : ℕ). get_or first j 0) (sym (cell-lock n lock))
      | of_list k lock e ↦
          ap (λ (j : ℕ). get_or now j 0) e ∙ t.lists k (omega arith) ∙ ap (λ (j : ℕ). get_or first j 0) (sym (ap cell_of e ∙ cell-of_lock k lock))
      | of_others from apart e ↦ t.others n (λ k under f. omega arith) (λ k under. apart k (omega arith)) ∙ ap (λ (j : ℕ). get_or first j 0) (sym e)
    ])
