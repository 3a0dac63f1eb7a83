-- What a machine on lists has of each CPU, by the numbers of CPU words.
use Rattle.std.proofs.Common.{◌≡◌, ℕ, zero, suc, ◌+◌, ◌-◌, ◌*◌, ◌/◌, ◌%◌, ◌<◌, ◌≤◌, List, [], ◌∷◌, length, get_or, Some, None, inl, inr, refl, ap, sym, ◌∙◌, subst, arith, sum_by}
use Rattle.std.specs.Prelude.{nat_lt, cond}
use Rattle.std.proofs.lemmas.Bool.{cases_lt, cond-true, cond-false, lt-ltb, le-ltb}
use Rattle.slub_common.specs.Times.{times}
use Rattle.slub_common.proofs.Sums.{element-counted}
use Rattle.slub_lists.specs.declared.lists.CpuLists.{CpuLists}
use Rattle.slub_lists.specs.State.{State}
use Rattle.slub_lists.specs.Alloc.{slab_of, own_free, lists_of, no_lists, held_here}
use Rattle.slub_lists.specs.Coherent.{IsConsistent, has_object, on_cpu, if_current, times_current, times_partial}
use Rattle.slub_lists.specs.Places.{IsCurrent}
use Rattle.slub_lists.proofs.Times.{current-same}
use Rattle.slub_lists.proofs.Places.{current-is, object-of}
use Rattle.slub_core.specs.World.{sum_below}
use Rattle.slub_core.proofs.Update.{term_le_sum}
use Rattle.slub_core.proofs.Slots.{two_terms}
use Rattle.slub_law_opening.specs.Opening.{cpu_at}
use Rattle.slub_law_opening.proofs.Sums.{sum_by-below, sum_blocks}

at_most : (a b : ℕ) → a ≡ b → a ≤ b
at_most a b e = omega arith

under : (a b c : ℕ) → a < b → b ≤ c → a < c
under a b c l m = omega arith

pub number-block : (k c : ℕ) → c < 16 → ((k * 16 + c) / 16 ≡ k) × ((k * 16 + c) % 16 ≡ c)
number-block k c below = (omega arith, omega arith)

-- the lists have their length
pub record HasCpus (s : State) : Type 0 where
  pub few : (1 ≤ s.cpus) × (s.cpus ≤ 16)
  pub length : length s.cpu_lists ≡ 32 * s.cpus

-- a sum over the CPUs' lists, by the numbers of CPU words
pub cpu-sum : (s : State) (cpus : ℕ) (F : CpuLists → ℕ) → F no_lists ≡ 0 → HasCpus s → cpus ≡ 32 * 16 → sum_below cpus (λ n. F (cpu_at s n)) ≡ sum_by F s.cpu_lists
cpu-sum s cpus F none has is =
    let G : ℕ → ℕ = λ p. F (get_or s.cpu_lists p no_lists) in
    ap (λ n. sum_below n (λ n. F (cpu_at s n))) is
    ∙ (blocks 32 16 refl (λ n. F (cpu_at s n)) G
    (λ k c below. let b = number-block k c (under c s.cpus 16 below has.few.1) in
    ap (λ z. F (cond (nat_lt z s.cpus) (lists_of s ((k * 16 + c) / 16) z) no_lists)) b.1 ∙ (ap (λ z. F (cond (nat_lt c s.cpus) (lists_of s z c) no_lists)) b.0 ∙ ap F (cond-true (nat_lt c s.cpus) (lists_of s k c) no_lists (lt-ltb c s.cpus below))))
    (λ k c past below. let b = number-block k c below in
    ap (λ z. F (cond (nat_lt z s.cpus) (lists_of s ((k * 16 + c) / 16) z) no_lists)) b.1 ∙ ap F (cond-false (nat_lt c s.cpus) (lists_of s ((k * 16 + c) / 16) c) no_lists (le-ltb c s.cpus past)) ∙ none)
    ∙ sym (sum_by-below F no_lists s.cpu_lists (32 * s.cpus) none (at_most (length s.cpu_lists) (32 * s.cpus) has.length)))
  where
    blocks : (K b : ℕ) → b ≡ 16 → (F G : ℕ → ℕ) → ((k c : ℕ) → c < s.cpus → F (k * b + c) ≡ G (k * s.cpus + c)) → ((k c : ℕ) → s.cpus ≤ c → c < b → F (k * b + c) ≡ 0) → sum_below (K * b) F ≡ sum_below (K * s.cpus) G
    blocks K b is F G same none = sum_blocks K b s.cpus F G (let q = has.few.1 in omega arith) same none

-- a CPU word is that of a CPU, or there is nothing
pub cpu-at : (s : State) (n : ℕ) (P : CpuLists → Type 0) → P no_lists → (n % 16 < s.cpus → P (lists_of s (n / 16) (n % 16))) → P (cpu_at s n)
cpu-at s n P none some =
    elim (cases_lt (n % 16) s.cpus) [
      | inl l ↦ subst P (sym (cond-true (nat_lt (n % 16) s.cpus) (lists_of s (n / 16) (n % 16)) no_lists (lt-ltb (n % 16) s.cpus l))) (some l)
      | inr g ↦ subst P (sym (cond-false (nat_lt (n % 16) s.cpus) (lists_of s (n / 16) (n % 16)) no_lists (le-ltb (n % 16) s.cpus g))) none
    ]

-- past the CPU words there is nothing
pub cpu-past : (s : State) (n : ℕ) → HasCpus s → 512 ≤ n → cpu_at s n ≡ no_lists
cpu-past s n has past =
    cpu-at s n (λ x. x ≡ no_lists) refl (λ below. get-past s.cpu_lists (n / 16 * s.cpus + n % 16) (let t : 32 * s.cpus ≤ n / 16 * s.cpus = mono 32 (n / 16) s.cpus (omega arith) in omega (arith, has.length, t)))
  where
    mono : (a b c : ℕ) → a ≤ b → a * c ≤ b * c
    mono a b c le = let t : b * c ≡ (a + (b - a)) * c = ap (λ z. z * c) (let q : b ≡ a + (b - a) = omega arith in q) in omega arith

    get-past : (xs : List CpuLists) (i : ℕ) → length xs ≤ i → get_or xs i no_lists ≡ no_lists
    get-past [] i le = refl
    get-past (x ∷ xs) zero le = absurd (omega arith)
    get-past (x ∷ xs) (suc i) le = get-past xs i (omega arith)

-- ---- of a consistent machine

pub has-cpus : (s : State) → IsConsistent s → HasCpus s
has-cpus s consistent = record { few = consistent.shaped.cpus; length = consistent.shaped.cpu_lists }

pub cpu-below : (s : State) (n f : ℕ) → IsConsistent s → (cpu_at s n).current ≡ Some f → n < 512
cpu-below s n f consistent is = elim (cases_lt n 512) [ inl l ↦ l | inr past ↦ absurd (cc (is, cpu-past s n (has-cpus s consistent) past)) ]

current-cpu : (s : State) (n f : ℕ) → (cpu_at s n).current ≡ Some f → (n % 16 < s.cpus) × ((lists_of s (n / 16) (n % 16)).current ≡ Some f)
current-cpu s n f is =
    elim (cases_lt (n % 16) s.cpus) [
      | inl l ↦ (l, ap (λ (x : CpuLists). x.current) (sym (cond-true (nat_lt (n % 16) s.cpus) (lists_of s (n / 16) (n % 16)) no_lists (lt-ltb (n % 16) s.cpus l))) ∙ is)
      | inr g ↦ absurd (cc (is, cond-false (nat_lt (n % 16) s.cpus) (lists_of s (n / 16) (n % 16)) no_lists (le-ltb (n % 16) s.cpus g)))
    ]

pub current-at : (s : State) (n f : ℕ) → IsConsistent s → (cpu_at s n).current ≡ Some f → IsCurrent s (n / 16) f
current-at s n f consistent is = let at = current-cpu s n f is in current-is s (n / 16) (n % 16) f consistent at.0 at.1

-- a CPU's freelist has its objects to itself
pub cpu-alone : (s : State) (n f i : ℕ) → IsConsistent s → (cpu_at s n).current ≡ Some f → sum_by (held_here f i) s.board + times i (cpu_at s n).free + times i (own_free s f) ≤ has_object i (slab_of s f)
cpu-alone s n f i consistent is =
    let here : on_cpu f i (cpu_at s n) ≡ times i (cpu_at s n).free = ap (if_current f (times i (cpu_at s n).free)) is ∙ current-same f f (times i (cpu_at s n).free) refl in
    let t = go (32 * 16) (cpu-below s n f consistent is) (cpu-sum s (32 * 16) (on_cpu f i) refl (has-cpus s consistent) refl) in
    omega (arith, consistent.placed f i, here, t)
  where
    go : (m : ℕ) → n < m → sum_below m (λ n. on_cpu f i (cpu_at s n)) ≡ sum_by (on_cpu f i) s.cpu_lists → on_cpu f i (cpu_at s n) ≤ sum_by (on_cpu f i) s.cpu_lists
    go m below e = let t = term_le_sum m (λ n. on_cpu f i (cpu_at s n)) n below in omega arith

pub cpu-object : (s : State) (n f i : ℕ) (consistent : IsConsistent s) (is : (cpu_at s n).current ≡ Some f) → 1 ≤ times i (cpu_at s n).free → i < (current-at s n f consistent is).slab.objects
cpu-object s n f i consistent is some =
    let o = object-of s f i (omega (arith, cpu-alone s n f i consistent is)) in
    grind (arith, o.2, sym o.1 ∙ (current-at s n f consistent is).there)

-- two CPUs have two slabs
pub currents-apart : (s : State) (n m f : ℕ) → IsConsistent s → (cpu_at s n).current ≡ Some f → (cpu_at s m).current ≡ Some f → (n ≡ m → ⊥) → ⊥
currents-apart s n m f consistent is_n is_m d =
    let one : if_current f 1 (cpu_at s n).current ≡ 1 = ap (if_current f 1) is_n ∙ current-same f f 1 refl in
    let two : if_current f 1 (cpu_at s m).current ≡ 1 = ap (if_current f 1) is_m ∙ current-same f f 1 refl in
    let t = go (32 * 16) (cpu-below s n f consistent is_n) (cpu-below s m f consistent is_m) (cpu-sum s (32 * 16) (λ x. if_current f 1 x.current) refl (has-cpus s consistent) refl) in
    omega (arith, one, two, t, consistent.listed.once f)
  where
    go : (b : ℕ) → n < b → m < b → sum_below b (λ n. if_current f 1 (cpu_at s n).current) ≡ times_current s f → if_current f 1 (cpu_at s n).current + if_current f 1 (cpu_at s m).current ≤ times_current s f
    go b ln lm e = let t = two_terms b (λ n. if_current f 1 (cpu_at s n).current) n m ln lm d in omega arith

-- a CPU with no slab has no freelist
pub cpu-bare : (s : State) (n : ℕ) → IsConsistent s → (cpu_at s n).current ≡ None → (cpu_at s n).free ≡ []
cpu-bare s n consistent none = cpu-at s n (λ x. x.current ≡ None → x.free ≡ []) (λ e. refl) (λ below. consistent.shaped.bare (n / 16 * s.cpus + n % 16)) none

-- ---- partial lists

pub partial-two : (s : State) (n m f : ℕ) → IsConsistent s → (n ≡ m → ⊥) → n < 512 → m < 512 → times f (cpu_at s n).partial + times f (cpu_at s m).partial ≤ times_partial s f
partial-two s n m f consistent d ln lm = go (32 * 16) ln lm (cpu-sum s (32 * 16) (λ x. times f x.partial) refl (has-cpus s consistent) refl)
  where
    go : (b : ℕ) → n < b → m < b → sum_below b (λ n. times f (cpu_at s n).partial) ≡ sum_by (λ lists. times f lists.partial) s.cpu_lists → times f (cpu_at s n).partial + times f (cpu_at s m).partial ≤ times_partial s f
    go b ln lm e = let t = two_terms b (λ n. times f (cpu_at s n).partial) n m ln lm d in omega arith

pub partial-one : (s : State) (n f : ℕ) → times f (cpu_at s n).partial ≤ times_partial s f
partial-one s n f = cpu-at s n (λ x. times f x.partial ≤ times_partial s f) (omega arith) (λ below. omega (arith, element-counted (λ lists. times f lists.partial) s.cpu_lists (n / 16 * s.cpus + n % 16) no_lists refl))
