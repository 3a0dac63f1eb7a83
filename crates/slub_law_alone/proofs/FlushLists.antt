-- What a flush of one CPU and cache leaves of the others, and the flush of all: in lists.
use Rattle.std.proofs.Common.{◌≡◌, ℕ, zero, suc, ◌+◌, ◌*◌, ◌/◌, ◌%◌, ◌<◌, ◌≤◌, ◌&&◌, Bool, true, false, cond, eqb, List, [], ◌∷◌, length, filter, fold, get_or, drop, Option, Some, None, inl, inr, refl, ap, sym, ◌∙◌, subst, arith, sum_by}
use Rattle.std.specs.Prelude.{is_some, nat_lt, not, slice_index, IfSome, MatchOption}
use Rattle.std.specs.Option.{option_map_or}
use Rattle.std.proofs.lemmas.Bool.{cases_Bool, cases_eq, cases_lt, cond_both, eq-eqb, ne_eqb}
use Rattle.std.proofs.lemmas.List.{get_or-set_same, get_or-set_other, length-set}
use Rattle.std.proofs.lemmas.List.Sums.{sum_by-cons}
use Rattle.slub_common.specs.Times.{times}
use Rattle.slub_common.proofs.Times.{times-filter_pass, times-filter_fail}
use Rattle.slub_cache_create.specs.declared.caches.Cache.{Cache}
use Rattle.slub_red_zone.specs.State.{CheckedState}
use Rattle.slub_lists.specs.declared.lists.CpuLists.{CpuLists}
use Rattle.slub_lists.specs.State.{State}
use Rattle.slub_lists.specs.Alloc.{cache_of, checked_of, cpu_place, lists_of, no_lists, own_free}
use Rattle.slub_lists.specs.Coherent.{IsCheckedOf, IsConsistent, IsSlabOf}
use Rattle.slub_lists.specs.Flush.{flushed_cpu, flushed_of, slabs_on, slabs_on_cpu}
use Rattle.slub_lists.specs.Free.{discarded, is_spare, moved_all, with_partial}
use Rattle.slub_lists.specs.Shrink.{flushed, min_partial_of, moved_partial, put_away, put_away_slab, put_on_node, put_where, taken_down}
use Rattle.slub_lists.specs.declared.lists.Slab.{Slab}
use Rattle.slub_lists.proofs.Coherence.{place-inside}
use Rattle.slub_lists.proofs.Trimming.{live-below}
use Rattle.slub_lists.proofs.Flushing.{rest-flushed, rest-put_away}
use Rattle.slub_core.proofs.Lists.{times-first}
use Rattle.slub_core.specs.Setup.{cpu_number}
use Rattle.slub_core.specs.World.{one_if}
use Rattle.slub_law_opening.specs.Opening.{Beside, cpu_at, plain_caches, tid_of}
use Rattle.slub_law_opening.proofs.Cpus.{cpu-below, current-at}
use Rattle.slub_law_opening.proofs.Sums.{product_apart}
use Rattle.slub_calls.specs.Changes.{grown, has_slab_on}
use Rattle.slub_law_alone.specs.Away.{AreChangedOnce, detached}
use Rattle.slub_calls.proofs.ChangeNumbers.{cpu_here}
use Rattle.slub_law_alone.proofs.Movable.{moved_keeps}

-- ---- what CPUs have

put_lists : (t : State) (min k f : ℕ) (own : List ℕ) (j c : ℕ) → lists_of (put_where t min k f own) j c ≡ lists_of t j c
put_lists t min k f own j c =
    cond_both (is_spare t min k f) (discarded t f) (cond (nat_lt 0 (length (own_free t f))) (put_on_node t k f own) t) (λ y. lists_of y j c ≡ lists_of t j c) (λ _. refl)
    (λ _. cond_both (nat_lt 0 (length (own_free t f))) (put_on_node t k f own) t (λ y. lists_of y j c ≡ lists_of t j c) (λ _. on own) (λ _. refl))
  where
    on : (own : List ℕ) → lists_of (put_on_node t k f own) j c ≡ lists_of t j c
    on [] = refl
    on (y ∷ ys) = refl

-- a set that is moved changes nothing that a CPU has
moved_lists : (t : State) (min k : ℕ) (fs : List ℕ) (j c : ℕ) → lists_of (moved_all t min k fs) j c ≡ lists_of t j c
moved_lists t min k fs j c = ap (λ y. lists_of y j c) (moved_keeps t min k fs).is

module _ (s : State) (min k c : ℕ) where
  -- the partial list stays where the current slab is put away
  pub away_partial : IsConsistent s → k < 32 → c < s.cpus → (lists_of (put_away s min k c) k c).partial ≡ (lists_of s k c).partial
  away_partial consistent inside below = by (lists_of s k c).current
    where
      by : (o : Option ℕ) → (lists_of (option_map_or (put_away_slab s min k c) o s) k c).partial ≡ (lists_of s k c).partial
      by None = refl
      by (Some f) = ap (λ (y : CpuLists). y.partial) (put_lists (taken_down s k c f) min k f (own_free s f) k c)
          ∙ ap (λ (y : CpuLists). y.partial) (get_or-set_same s.cpu_lists (cpu_place s k c) (record { current = None; free = []; partial = (lists_of s k c).partial }) no_lists (place-inside s k c consistent.shaped inside below))

  away_other : (j : ℕ) → (j ≡ k → ⊥) → c < s.cpus → lists_of (put_away s min k c) j c ≡ lists_of s j c
  away_other j away below = by (lists_of s k c).current
    where
      apart : cpu_place s j c ≡ cpu_place s k c → ⊥
      apart e = away (product_apart s.cpus j c k c below below e).0

      by : (o : Option ℕ) → lists_of (option_map_or (put_away_slab s min k c) o s) j c ≡ lists_of s j c
      by None = refl
      by (Some f) = put_lists (taken_down s k c f) min k f (own_free s f) j c ∙ get_or-set_other s.cpu_lists (cpu_place s k c) (cpu_place s j c) (record { current = None; free = []; partial = (lists_of s k c).partial }) no_lists apart

  partial_other : (j : ℕ) → (j ≡ k → ⊥) → c < s.cpus → lists_of (moved_partial s min k c) j c ≡ lists_of s j c
  partial_other j away below = moved_lists (with_partial s k c []) min k (lists_of s k c).partial j c
      ∙ get_or-set_other s.cpu_lists (cpu_place s k c) (cpu_place s j c) (record (lists_of s k c) { partial = [] }) no_lists (λ e. away (product_apart s.cpus j c k c below below e).0)

cpus_away : (s : State) (min k c : ℕ) → (put_away s min k c).cpus ≡ s.cpus
cpus_away s min k c = (rest-put_away s min k c).held.cpus

-- of another cache the CPU has what it had
pub flushed_other : (s : State) (min k c j : ℕ) → (j ≡ k → ⊥) → c < s.cpus → lists_of (flushed min k s c) j c ≡ lists_of s j c
flushed_other s min k c j away below = partial_other (put_away s min k c) min k c j away (let e = cpus_away s min k c in omega (arith, e, below)) ∙ away_other s min k c j away below

-- and of the cache any other CPU
pub flushed_elsewhere : (s : State) (min k c j : ℕ) → (j ≡ c → ⊥) → lists_of (flushed min k s c) k j ≡ lists_of s k j
flushed_elsewhere s min k c j away = moved_lists (with_partial t k c []) min k (lists_of t k c).partial k j
    ∙ get_or-set_other t.cpu_lists (cpu_place t k c) (cpu_place t k j) (record (lists_of t k c) { partial = [] }) no_lists (λ e. away (omega (arith, e))) ∙ by (lists_of s k c).current
  where
    t : State
    t = put_away s min k c

    by : (o : Option ℕ) → lists_of (option_map_or (put_away_slab s min k c) o s) k j ≡ lists_of s k j
    by None = refl
    by (Some f) = put_lists (taken_down s k c f) min k f (own_free s f) k j ∙ get_or-set_other s.cpu_lists (cpu_place s k c) (cpu_place s k j) (record { current = None; free = []; partial = (lists_of s k c).partial }) no_lists (λ e. away (omega (arith, e)))

-- ---- one cache after the other

-- the CPU has nothing of the cache any more
abbrev pub flushed_at : ℕ → State → ℕ → State
flushed_at cpu s cache = flushed (min_partial_of s cache) cache s cpu

-- how many slabs it had of these caches
abbrev pub slabs_from : State → ℕ → List ℕ → ℕ
slabs_from s cpu [] = 0
slabs_from s cpu (k ∷ ks) = slabs_on (lists_of s k cpu) + slabs_from (flushed_at cpu s k) cpu ks

-- the ids beside the lists
abbrev pub ids_from : State → Beside → ℕ → List ℕ → Beside
ids_from s b cpu [] = b
ids_from s b cpu (k ∷ ks) = ids_from (flushed_at cpu s k) (detached s b k cpu) cpu ks

-- each cache is there once
abbrev pub AreOnce : List ℕ → Type 0
AreOnce [] = Unit {0}
AreOnce (k ∷ ks) = (times k ks ≡ 0) × AreOnce ks

once_of : (ks : List ℕ) → ((k : ℕ) → times k ks ≤ 1) → AreOnce ks
once_of [] few = tt
once_of (k ∷ ks) few =
    let here = times-first k k ks in let o : one_if (eqb k k) ≡ 1 = ap one_if (eq-eqb k k refl) in let one = few k in
    (omega (arith, here, o, one), once_of ks (λ j. let t = times-first j k ks in let f = few j in omega (arith, t, f)))

abbrev slabs_in : State → ℕ → ℕ → ℕ
slabs_in s cpu k = slabs_on (lists_of s k cpu)

sums_same : (f g : ℕ → ℕ) (ks : List ℕ) (k : ℕ) → times k ks ≡ 0 → ((j : ℕ) → (j ≡ k → ⊥) → f j ≡ g j) → sum_by f ks ≡ sum_by g ks
sums_same f g [] k none same = refl
sums_same f g (j ∷ ks) k none same =
    let t = times-first k j ks in
    let away : j ≡ k → ⊥ = λ e. absurd (let o : one_if (eqb j k) ≡ 1 = ap one_if (eq-eqb j k e) in omega (arith, t, o, none)) in
    let a = sum_by-cons f j ks in let b = sum_by-cons g j ks in let here = same j away in let rest = sums_same f g ks k (omega (arith, t, none)) same in
    omega (arith, a, b, here, rest)

cpus_flushed : (s : State) (cpu k : ℕ) → (flushed_at cpu s k).cpus ≡ s.cpus
cpus_flushed s cpu k = (rest-flushed (min_partial_of s k) k s cpu).held.cpus

slabs_sum : (ks : List ℕ) (s : State) (cpu : ℕ) → cpu < s.cpus → AreOnce ks → slabs_from s cpu ks ≡ sum_by (λ k. slabs_on (lists_of s k cpu)) ks
slabs_sum [] s cpu below once = refl
slabs_sum (k ∷ ks) s cpu below once =
    let rest = slabs_sum ks (flushed_at cpu s k) cpu (let e = cpus_flushed s cpu k in omega (arith, e, below)) once.1 in
    let same = sums_same (λ j. slabs_on (lists_of (flushed_at cpu s k) j cpu)) (λ j. slabs_on (lists_of s j cpu)) ks k once.0 (λ j away. ap slabs_on (flushed_other s (min_partial_of s k) k cpu j away below)) in
    let a = sum_by-cons (λ k. slabs_on (lists_of s k cpu)) k ks in
    omega (arith, rest, same, a)

-- ---- the caches that aren't checked

abbrev is_plain : State → ℕ → Bool
is_plain s k = not (is_some (checked_of s k))

folds_same : (ages : List ℕ) (s t : State) (cpu : ℕ) → t.checked ≡ s.checked → fold (flushed_of cpu) t ages ≡ fold (flushed_at cpu) t (filter (λ k. not (is_some (checked_of s k))) ages)
folds_same [] s t cpu same = refl
folds_same (k ∷ ages) s t cpu same = elim (cases_Bool (is_some (checked_of s k))) [
  | inl checked ↦
      ap (λ z. fold (flushed_of cpu) (cond {A = State} z t (flushed_at cpu t k)) ages) (ap (λ c. is_some (get_or c k None)) same ∙ checked) ∙ folds_same ages s t cpu same
      ∙ sym (ap (λ z. fold (flushed_at cpu) t (cond {A = List ℕ} (not z) (k ∷ filter (is_plain s) ages) (filter (is_plain s) ages))) checked)
  | inr plain ↦
      ap (λ z. fold (flushed_of cpu) (cond {A = State} z t (flushed_at cpu t k)) ages) (ap (λ c. is_some (get_or c k None)) same ∙ plain)
      ∙ folds_same ages s (flushed_at cpu t k) cpu ((rest-flushed (min_partial_of t k) k t cpu).checked ∙ same)
      ∙ sym (ap (λ z. fold (flushed_at cpu) t (cond {A = List ℕ} (not z) (k ∷ filter (is_plain s) ages) (filter (is_plain s) ages))) plain)
]

pub flushed_plain : (s : State) (cpu : ℕ) → flushed_cpu s cpu ≡ fold (flushed_at cpu) s (plain_caches s)
flushed_plain s cpu = folds_same s.table.ages s s cpu refl

-- a CPU has nothing of a checked cache
checked_none : (s : State) (cpu k : ℕ) → IsConsistent s → cpu < s.cpus → is_some (checked_of s k) ≡ true → slabs_on (lists_of s k cpu) ≡ 0
checked_none s cpu k consistent below is = by (checked_of s k) (consistent.shaped.checked.those k) is
  where
    by : (o : Option CheckedState) → IfSome o (IsCheckedOf s k) → is_some o ≡ true → slabs_on (lists_of s k cpu) ≡ 0
    by None those e = absurd (let z = e in cc z)
    by (Some c) those e = ap slabs_on (those.unlisted cpu below)

sum_plain : (ages : List ℕ) (s : State) (cpu : ℕ) → IsConsistent s → cpu < s.cpus → sum_by (slabs_in s cpu) (filter (is_plain s) ages) ≡ sum_by (slabs_in s cpu) ages
sum_plain [] s cpu consistent below = refl
sum_plain (k ∷ ages) s cpu consistent below =
    let rest = sum_plain ages s cpu consistent below in
    let a = sum_by-cons (slabs_in s cpu) k ages in
    elim (cases_Bool (is_some (checked_of s k))) [
      | inl checked ↦
          let none = checked_none s cpu k consistent below checked in
          ap (λ z. sum_by (slabs_in s cpu) (cond {A = List ℕ} (not z) (k ∷ filter (is_plain s) ages) (filter (is_plain s) ages))) checked ∙ (omega (arith, rest, a, none))
      | inr plain ↦
          let b = sum_by-cons (slabs_in s cpu) k (filter (is_plain s) ages) in
          ap (λ z. sum_by (slabs_in s cpu) (cond {A = List ℕ} (not z) (k ∷ filter (is_plain s) ages) (filter (is_plain s) ages))) plain ∙ (omega (arith, rest, a, b))
    ]

plain_once : (s : State) → IsConsistent s → AreOnce (plain_caches s)
plain_once s consistent = once_of (plain_caches s) few
  where
    aged : (k : ℕ) → times k s.table.ages ≤ 1
    aged k = let e = consistent.shaped.table.aged k in let o = cond_both (is_some (cache_of s k)) 1 0 (λ n. n ≤ 1) (λ _. omega arith) (λ _. omega arith) in omega (arith, e, o)

    few : (k : ℕ) → times k (plain_caches s) ≤ 1
    few k = let most = aged k in elim (cases_Bool (is_plain s k)) [
      | inl plain ↦ (let e = times-filter_pass k (is_plain s) s.table.ages plain in omega (arith, e, most))
      | inr checked ↦ (let e = times-filter_fail k (is_plain s) s.table.ages checked in omega (arith, e))
    ]

pub slabs_all : (s : State) (cpu : ℕ) → IsConsistent s → cpu < s.cpus → slabs_from s cpu (plain_caches s) ≡ slabs_on_cpu s cpu
slabs_all s cpu consistent below = slabs_sum (plain_caches s) s cpu below (plain_once s consistent) ∙ sum_plain s.table.ages s cpu consistent below

-- ---- the ids

-- one CPU and one cache: the word grows where a slab is current, and no other does
pub record HasGrownAt (s : State) (b : Beside) (k c : ℕ) : Type 0 where
  pub same : detached s b k c ≡ record b { tids = (detached s b k c).tids }
  pub sized : length (detached s b k c).tids ≡ length b.tids
  pub here : cpu_number k c < length b.tids → tid_of (detached s b k c) (cpu_number k c) ≡ tid_of b (cpu_number k c) + cond (is_some (lists_of s k c).current) b.step 0
  pub away : (n : ℕ) → (n ≡ cpu_number k c → ⊥) → tid_of (detached s b k c) n ≡ tid_of b n

pub one_grown : (s : State) (b : Beside) (k c : ℕ) → HasGrownAt s b k c
one_grown s b k c = record { same = (by (is_some (lists_of s k c).current)).0; sized = (by (is_some (lists_of s k c).current)).1; here = (by (is_some (lists_of s k c).current)).2; away = (by (is_some (lists_of s k c).current)).3 }
  where
    by : (z : Bool) → (cond z (grown b (cpu_number k c) 1) b ≡ record b { tids = (cond z (grown b (cpu_number k c) 1) b).tids }) × (length (cond z (grown b (cpu_number k c) 1) b).tids ≡ length b.tids)
        × (cpu_number k c < length b.tids → tid_of (cond z (grown b (cpu_number k c) 1) b) (cpu_number k c) ≡ tid_of b (cpu_number k c) + cond z b.step 0) × ((n : ℕ) → (n ≡ cpu_number k c → ⊥) → tid_of (cond z (grown b (cpu_number k c) 1) b) n ≡ tid_of b n)
    by true = (
      refl,
      length-set b.tids (cpu_number k c) (tid_of b (cpu_number k c) + 1 * b.step),
      (λ below. get_or-set_same b.tids (cpu_number k c) (tid_of b (cpu_number k c) + 1 * b.step) 0 below ∙ (omega arith)),
      λ n away. get_or-set_other b.tids (cpu_number k c) n (tid_of b (cpu_number k c) + 1 * b.step) 0 away,
    )
    by false = (refl, refl, (λ below. omega arith), λ n away. refl)

-- so it is of these caches, one after the other
record HasGrown (s : State) (cpu : ℕ) (ks : List ℕ) (b d : Beside) : Type 0 where
  same : d ≡ record b { tids = d.tids }
  here : (k : ℕ) → 1 ≤ times k ks → cpu_number k cpu < length b.tids → tid_of d (cpu_number k cpu) ≡ tid_of b (cpu_number k cpu) + cond (is_some (lists_of s k cpu).current) b.step 0
  away : (n : ℕ) → ((k : ℕ) → 1 ≤ times k ks → n ≡ cpu_number k cpu → ⊥) → tid_of d n ≡ tid_of b n

ids_grown : (ks : List ℕ) (s : State) (b : Beside) (cpu : ℕ) → cpu < s.cpus → s.cpus ≤ 16 → AreOnce ks → HasGrown s cpu ks b (ids_from s b cpu ks)
ids_grown [] s b cpu below few once = record { same = refl; here = λ k none. absurd (let z : times k [] ≡ 0 = refl in omega (arith, none, z)); away = λ n none. refl }
ids_grown (k ∷ ks) s b cpu below few once =
    let d = detached s b k cpu in
    let first = one_grown s b k cpu in
    let cpus = cpus_flushed s cpu k in
    let rest = ids_grown ks (flushed_at cpu s k) d cpu (omega (arith, cpus, below)) (omega (arith, cpus, few)) once.1 in
    record {
      same = rest.same ∙ ap (λ (y : Beside). record y { tids = (ids_from (flushed_at cpu s k) d cpu ks).tids }) first.same;
      here = λ j has room. elim (cases_eq j k) [
        | inl e ↦
            let stays = rest.away (cpu_number k cpu) (λ i on at. absurd (let same : i ≡ k = omega (arith, at) in let none = once.0 in let t = ap (λ i. times i ks) same in omega (arith, on, none, t))) in
            subst (λ j. tid_of (ids_from (flushed_at cpu s k) d cpu ks) (cpu_number j cpu) ≡ tid_of b (cpu_number j cpu) + cond (is_some (lists_of s j cpu).current) b.step 0) (sym e) (stays ∙ first.here (subst (λ j. cpu_number j cpu < length b.tids) e room))
        | inr apart ↦
            let on : 1 ≤ times j ks = (let t = times-first j k ks in let o : one_if (eqb k j) ≡ 0 = ap one_if (ne_eqb k j (λ e. apart (sym e))) in omega (arith, t, o, has)) in
            rest.here j on (let l = first.sized in omega (arith, l, room))
            ∙ (λ i. first.away (cpu_number j cpu) (λ e. apart (omega (arith, e))) i + cond (is_some (flushed_other s (min_partial_of s k) k cpu j apart below i).current) ((first.same i).step) 0)
      ];
      away = λ n none.
          let mine : n ≡ cpu_number k cpu → ⊥ = none k (let t = times-first k k ks in let o : one_if (eqb k k) ≡ 1 = ap one_if (eq-eqb k k refl) in omega (arith, t, o)) in
          rest.away n (λ j has at. none j (let t = times-first j k ks in omega (arith, t, has)) at) ∙ first.away n mine;
    }

-- a cache of which a CPU has a current slab is live and isn't checked
pub current_plain : (s : State) (n f : ℕ) → IsConsistent s → (cpu_at s n).current ≡ Some f → (is_some (cache_of s (n / 16)) ≡ true) × (is_some (checked_of s (n / 16)) ≡ false)
current_plain s n f consistent current =
    let at = current-at s n f consistent current in
    (subst (λ k. is_some (cache_of s k) ≡ true) at.own (by at.slab (cache_of s at.slab.cache) (subst (λ o. IfSome o (λ (y : Slab). MatchOption (cache_of s y.cache) ⊥ (λ live. IsSlabOf live.layout y))) at.there (consistent.shaped.slab f))), ap is_some at.unchecked)
  where
    by : (y : Slab) (o : Option Cache) → MatchOption o ⊥ (λ live. IsSlabOf live.layout y) → is_some o ≡ true
    by y None never = absurd never
    by y (Some live) is = refl

pub ids_once : (s : State) (b : Beside) (cpu : ℕ) → IsConsistent s → cpu < s.cpus → length b.tids ≡ 512 → AreChangedOnce (has_slab_on s cpu) b (ids_from s b cpu (plain_caches s))
ids_once s b cpu consistent below tids = record { same = g.same; ids = ids }
  where
    few : s.cpus ≤ 16
    few = consistent.shaped.cpus.1

    g : HasGrown s cpu (plain_caches s) b (ids_from s b cpu (plain_caches s))
    g = ids_grown (plain_caches s) s b cpu below few (plain_once s consistent)

    aged : (k : ℕ) → is_some (cache_of s k) ≡ true → is_some (checked_of s k) ≡ false → 1 ≤ times k (plain_caches s)
    aged k lives plain = let e = times-filter_pass k (is_plain s) s.table.ages (ap not plain) in let a = consistent.shaped.table.aged k in let o = ap (λ z. cond {A = ℕ} z 1 0) lives in omega (arith, e, a, o)

    off : (n : ℕ) → ((k : ℕ) → 1 ≤ times k (plain_caches s) → n ≡ cpu_number k cpu → ⊥) → has_slab_on s cpu n ≡ false → tid_of (ids_from s b cpu (plain_caches s)) n ≡ tid_of b n + cond (has_slab_on s cpu n) b.step 0
    off n none not_on = g.away n none ∙ (let z = ap (λ z. cond {A = ℕ} z b.step 0) not_on in omega (arith, z))

    ids : (n : ℕ) → tid_of (ids_from s b cpu (plain_caches s)) n ≡ tid_of b n + cond (has_slab_on s cpu n) b.step 0
    ids n = elim (cases_eq (n % 16) cpu) [
      | inr away ↦ off n (λ k on at. away (omega (arith, at, below, few))) (ap (λ z. z && is_some (cpu_at s n).current) (ne_eqb (n % 16) cpu away))
      | inl mine ↦
          let number : n ≡ cpu_number (n / 16) cpu = omega (arith, mine) in
          let lists : cpu_at s n ≡ lists_of s (n / 16) cpu = ap (cpu_at s) number ∙ cpu_here s (n / 16) cpu below few in
          let flag : has_slab_on s cpu n ≡ is_some (cpu_at s n).current = ap (λ z. z && is_some (cpu_at s n).current) (eq-eqb (n % 16) cpu mine) in
          by (cpu_at s n).current refl number lists flag
    ]
      where
        by : (o : Option ℕ) → (cpu_at s n).current ≡ o → n ≡ cpu_number (n / 16) cpu → cpu_at s n ≡ lists_of s (n / 16) cpu → has_slab_on s cpu n ≡ is_some (cpu_at s n).current → tid_of (ids_from s b cpu (plain_caches s)) n ≡ tid_of b n + cond (has_slab_on s cpu n) b.step 0
        by (Some f) current number lists flag =
            let plain = current_plain s n f consistent current in
            subst (λ j. tid_of (ids_from s b cpu (plain_caches s)) j ≡ tid_of b j + cond (is_some (lists_of s (n / 16) cpu).current) b.step 0) (sym number) (g.here (n / 16) (aged (n / 16) plain.0 plain.1) (let small = cpu-below s n f consistent current in omega (arith, small, number, tids)))
            ∙ (λ i. tid_of b n + cond (sym (flag ∙ ap (λ (y : CpuLists). is_some y.current) lists) i) b.step 0)
        by None none number lists flag = at_none (flag ∙ ap is_some none) number lists none
          where
            at_none : has_slab_on s cpu n ≡ false → n ≡ cpu_number (n / 16) cpu → cpu_at s n ≡ lists_of s (n / 16) cpu → (cpu_at s n).current ≡ None → tid_of (ids_from s b cpu (plain_caches s)) n ≡ tid_of b n + cond (has_slab_on s cpu n) b.step 0
            at_none not_on number lists none = elim (cases_lt (cpu_number (n / 16) cpu) (length b.tids)) [
              | inr past ↦ off n (λ k on at. absurd (let small = plain_small k on in omega (arith, at, past, number, tids, small, below, few))) not_on
              | inl room ↦ elim (cases_eq (times (n / 16) (plain_caches s)) 0) [
                | inl no_one ↦ off n (λ k on at. absurd (let same : k ≡ n / 16 = omega (arith, at, number) in let t = ap (λ k. times k (plain_caches s)) same in omega (arith, on, t, no_one))) not_on
                | inr some ↦ subst (λ j. tid_of (ids_from s b cpu (plain_caches s)) j ≡ tid_of b j + cond (is_some (lists_of s (n / 16) cpu).current) b.step 0) (sym number) (g.here (n / 16) (omega (arith, some)) room)
                    ∙ (λ i. tid_of b n + cond (sym (not_on ∙ sym (ap is_some none) ∙ ap (λ (y : CpuLists). is_some y.current) lists) i) b.step 0)
              ]
            ]
              where
                plain_small : (k : ℕ) → 1 ≤ times k (plain_caches s) → k < 32
                plain_small k on = elim (cases_Bool (is_plain s k)) [
                  | inr checked ↦ absurd (let e = times-filter_fail k (is_plain s) s.table.ages checked in omega (arith, e, on))
                  | inl plain ↦
                      let e = times-filter_pass k (is_plain s) s.table.ages plain in let a = consistent.shaped.table.aged k in
                      elim (cases_Bool (is_some (cache_of s k))) [
                        | inl lives ↦ live-below s k consistent.shaped lives
                        | inr dead ↦ absurd (let o = ap (λ z. cond {A = ℕ} z 1 0) dead in omega (arith, e, a, o, on))
                      ]
                ]

-- ---- places of a list

pub dropped : (i : ℕ) (ks : List ℕ) (k : ℕ) (rest : List ℕ) → drop i ks ≡ k ∷ rest → (slice_index ks i ≡ k) × (drop (i + 1) ks ≡ rest) × (length ks ≡ i + suc (length rest))
dropped i [] k rest is = absurd (let e = is in by i e)
  where
    by : (i : ℕ) → drop i [] ≡ k ∷ rest → ⊥
    by zero e = absurd (let n = ap (length {A = ℕ}) e in omega (arith, n))
    by (suc i) e = absurd (let n = ap (length {A = ℕ}) e in omega (arith, n))
dropped zero (y ∷ ks) k rest is = (ap (λ ks. slice_index ks 0) is, ap (drop 1) is, ap (length {A = ℕ}) is ∙ (omega arith))
dropped (suc i) (y ∷ ks) k rest is =
    let r = dropped i ks k rest is in
    (r.0, ap (λ n. drop n (y ∷ ks)) (let e : suc i + 1 ≡ suc (i + 1) = omega arith in e) ∙ r.1, (let l = r.2 in omega (arith, l)))
