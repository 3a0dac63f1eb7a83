-- What an item leaves of what CPUs have, as far as transaction ids go by it.
use Rattle.std.proofs.Common.{◌≡◌, ℕ, ◌+◌, ◌*◌, ◌/◌, ◌%◌, ◌<◌, false, List, [], ◌∷◌, get_or, set, fold, Option, Some, None, is_some, IsSome, IfSome, MatchOption, option_map, inl, inr, refl, sym, ap, ◌∙◌, subst, arith}
use Rattle.std.specs.Prelude.{nat_lt}
use Rattle.std.proofs.lemmas.Bool.{cases_lt, cond-true, cond-false, lt-ltb, le-ltb, false≢true}
use Rattle.slub_cache_create.specs.declared.caches.Cache.{Cache}
use Rattle.slub_cache_create.specs.Table.{Table, cache_of as live_cache}
use Rattle.slub_common.proofs.Writes.{at_written}
use Rattle.slub_red_zone.specs.State.{CheckedState}
use Rattle.slub_lists.specs.declared.lists.CpuLists.{CpuLists}
use Rattle.slub_lists.specs.declared.lists.Slab.{Slab}
use Rattle.slub_lists.specs.State.{State}
use Rattle.slub_lists.specs.Alloc.{cache_of, checked_of, lists_of, no_lists, slab_of}
use Rattle.slub_lists.specs.Coherent.{IsCheckedOf, IsCoherent, IsSlabOf}
use Rattle.slub_lists.proofs.Coherence.{current-live}
use Rattle.slub_lists.proofs.Kept.{consistent-of}
use Rattle.slub_law_opening.specs.Opening.{cpu_at}

-- what stands in the CPUs' lists at a place
abbrev pub current_in : State → ℕ → Option ℕ
current_in s place = (get_or s.cpu_lists place no_lists).current

-- what is current was current before, and what is live was live
pub record Leaves (s after : State) : Type 0 where
  pub cpus : after.cpus ≡ s.cpus
  pub current : (place : ℕ) → IsSome (current_in after place) → IsSome (current_in s place)
  pub live : (cache : ℕ) → IsSome (cache_of after cache) → IsSome (cache_of s cache)

-- the CPUs have what they had, and the names and caches are as before
pub record SameLists (s after : State) : Type 0 where
  pub cpus : after.cpus ≡ s.cpus
  pub lists : after.cpu_lists ≡ s.cpu_lists
  pub table : after.table ≡ s.table

pub same-both : (a b c : State) → SameLists a b → SameLists b c → SameLists a c
same-both a b c first second = record { cpus = second.cpus ∙ first.cpus; lists = second.lists ∙ first.lists; table = second.table ∙ first.table }

pub same-self : (s : State) → SameLists s s
same-self s = record { cpus = refl; lists = refl; table = refl }

-- what each step keeps, all steps keep
pub folded-same : (f : State → ℕ → State) → ((s : State) (n : ℕ) → SameLists s (f s n)) → (s : State) (ns : List ℕ) → SameLists s (fold f s ns)
folded-same f keeps s [] = same-self s
folded-same f keeps s (n ∷ ns) = same-both s (f s n) (fold f (f s n) ns) (keeps s n) (folded-same f keeps (f s n) ns)

pub leaves-same : (s after : State) → SameLists s after → Leaves s after
leaves-same s after same = record {
  cpus = same.cpus;
  current = λ place some. subst (λ (l : List CpuLists). IsSome (get_or l place no_lists).current) same.lists some;
  live = λ cache some. subst (λ (t : Table). IsSome (live_cache t cache)) same.table some;
}

pub leaves-both : (a b c : State) → Leaves a b → Leaves b c → Leaves a c
leaves-both a b c first second = record {
  cpus = second.cpus ∙ first.cpus;
  current = λ place some. first.current place (second.current place some);
  live = λ cache some. first.live cache (second.live cache some);
}

-- another table, of no cache more
pub leaves-tabled : (s : State) (table : Table) (checked : List (Option CheckedState)) → ((cache : ℕ) → IsSome (live_cache table cache) → IsSome (cache_of s cache))
    → Leaves s (record s { table = table; checked = checked })
leaves-tabled s table checked fewer = record { cpus = refl; current = λ place some. some; live = fewer }

-- ---- caches

mapped-some : (f : Cache → Cache) (x : Option Cache) → IsSome (option_map f x) → IsSome x
mapped-some f None some = some
mapped-some f (Some live) some = refl

-- a cache that is changed is live where it was
pub live-changed : (s : State) (cache : ℕ) (f : Cache → Cache) (other : ℕ) → IsSome (get_or (set s.table.caches cache (option_map f (cache_of s cache))) other None) → IsSome (cache_of s other)
live-changed s cache f other =
    at_written (λ (x : Option Cache). IsSome x → IsSome (cache_of s other)) s.table.caches cache other (option_map f (cache_of s cache)) None
    (λ e some. subst (λ n. IsSome (cache_of s n)) (sym e) (mapped-some f (cache_of s cache) some)) (λ some. some)

-- a cache that went is live no more
pub live-without : (s : State) (cache other : ℕ) → IsSome (get_or (set s.table.caches cache None) other None) → IsSome (cache_of s other)
live-without s cache other =
    at_written (λ (x : Option Cache). IsSome x → IsSome (cache_of s other)) s.table.caches cache other None None
    (λ e some. absurd (false≢true some)) (λ some. some)

-- ---- CPU words

-- the CPU of a word with a current slab is there
pub word-current : (s : State) (n : ℕ) → IsSome (cpu_at s n).current → (n % 16 < s.cpus) × IsSome (current_in s (n / 16 * s.cpus + n % 16))
word-current s n some =
    elim (cases_lt (n % 16) s.cpus) [
      | inl l ↦ (l, subst (λ (x : CpuLists). IsSome x.current) (cond-true (nat_lt (n % 16) s.cpus) (lists_of s (n / 16) (n % 16)) no_lists (lt-ltb (n % 16) s.cpus l)) some)
      | inr g ↦ absurd (false≢true (subst (λ (x : CpuLists). IsSome x.current) (cond-false (nat_lt (n % 16) s.cpus) (lists_of s (n / 16) (n % 16)) no_lists (le-ltb (n % 16) s.cpus g)) some))
    ]

pub current-word : (s : State) (n : ℕ) → n % 16 < s.cpus → IsSome (current_in s (n / 16 * s.cpus + n % 16)) → IsSome (cpu_at s n).current
current-word s n below some =
    subst (λ (x : CpuLists). IsSome x.current) (sym (cond-true (nat_lt (n % 16) s.cpus) (lists_of s (n / 16) (n % 16)) no_lists (lt-ltb (n % 16) s.cpus below))) some

-- the place of a word's CPU is as before
pub word-before : (s after : State) (n : ℕ) → after.cpus ≡ s.cpus → IsSome (cpu_at after n).current → (n % 16 < s.cpus) × IsSome (current_in after (n / 16 * s.cpus + n % 16))
word-before s after n cpus some =
    let word = word-current after n some in
    (omega (arith, word.0, cpus), subst (λ k. IsSome (current_in after (n / 16 * k + n % 16))) cpus word.1)

pub leaves-word : (s after : State) (n : ℕ) → Leaves s after → IsSome (cpu_at after n).current → IsSome (cpu_at s n).current
leaves-word s after n leaves some =
    let word = word-before s after n leaves.cpus some in
    current-word s n word.0 (leaves.current (n / 16 * s.cpus + n % 16) word.1)

-- ---- caches of which no CPU has a current slab

none-some : {A : Type 0} (x : Option A) → x ≡ None → IsSome x → ⊥
none-some x none some = false≢true (sym (ap is_some none) ∙ some)

-- a checked one
pub checked-none : (s : State) (cache cpu : ℕ) (slabs : CheckedState) → IsCoherent s → checked_of s cache ≡ Some slabs → cpu < s.cpus → IsSome (current_in s (cache * s.cpus + cpu)) → ⊥
checked-none s cache cpu slabs coherent is below some =
    let of : IsCheckedOf s cache slabs = subst (λ (x : Option CheckedState). IfSome x (IsCheckedOf s cache)) is (coherent.shaped.checked.those cache) in
    none-some (current_in s (cache * s.cpus + cpu)) (ap (λ (l : CpuLists). l.current) (of.unlisted cpu below)) some

-- one that isn't live
pub dead-none : (s : State) (cache cpu : ℕ) → IsCoherent s → cache < 32 → cpu < s.cpus → cache_of s cache ≡ None → IsSome (current_in s (cache * s.cpus + cpu)) → ⊥
dead-none s cache cpu coherent within below dead some = by (current_in s (cache * s.cpus + cpu)) refl some
  where
    gone : (x : Option Cache) (P : Cache → Type 0) → x ≡ None → MatchOption x ⊥ P → ⊥
    gone None P none matches = matches
    gone (Some live) P none matches = cc

    at : (x : Option Slab) → MatchOption x ⊥ (λ slab. slab.cache ≡ cache) → IfSome x (λ slab. MatchOption (cache_of s slab.cache) ⊥ (λ live. IsSlabOf live.layout slab)) → ⊥
    at None its of = its
    at (Some slab) its of = gone (cache_of s slab.cache) (λ live. IsSlabOf live.layout slab) (ap (cache_of s) its ∙ dead) of

    by : (x : Option ℕ) → current_in s (cache * s.cpus + cpu) ≡ x → IsSome x → ⊥
    by None is some = false≢true some
    by (Some frame) is some = at (slab_of s frame) (current-live s cache cpu (consistent-of s coherent) within below frame is) (coherent.shaped.slab frame)
