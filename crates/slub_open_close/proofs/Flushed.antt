-- What flushing and sweeping leave of what CPUs have: no current slab of the cache.
use Rattle.std.proofs.Common.{◌≡◌, ℕ, zero, suc, ◌+◌, ◌*◌, ◌<◌, ◌≤◌, ◌++◌, Bool, cond, eqb, nat_lt, List, [], ◌∷◌, length, get_or, set, fold, Option, Some, None, is_some, IsSome, MatchOption, inl, inr, refl, sym, ap, ◌∙◌, subst, arith}
use Rattle.std.specs.List.{range_with_len}
use Rattle.std.specs.Option.{option_map_or}
use Rattle.std.proofs.lemmas.Bool.{cases_eq, false≢true}
use Rattle.slub_common.proofs.Writes.{at_written}
use Rattle.slub_red_zone.specs.State.{CheckedState}
use Rattle.slub_red_zone.specs.Steps.{without_slab as without_checked}
use Rattle.slub_cache_create.specs.declared.caches.Cache.{Cache}
use Rattle.slub_lists.specs.declared.lists.CpuLists.{CpuLists}
use Rattle.slub_lists.specs.State.{State}
use Rattle.slub_lists.specs.Alloc.{cache_of, checked_of, cpu_place, lists_of, no_lists, node_of, own_free, with_node}
use Rattle.slub_lists.specs.Checked.{with_checked}
use Rattle.slub_lists.specs.Coherent.{IsCoherent}
use Rattle.slub_lists.specs.Free.{discarded, inuse_of, is_spare, moved, moved_all, with_partial, without_slab}
use Rattle.slub_lists.specs.Shrink.{ShrinksCache, ShrinksChecked, ShrinksUnchecked, all_free, flushed, flushed_below, moved_partial, put_away, put_away_slab, put_on_node, put_where, swept, swept_checked, swept_checked_slab, swept_slab, taken_down}
use Rattle.slub_lists.proofs.Moving.{pick}
use Rattle.slub_open_close.proofs.Leaving.{Leaves, SameLists, checked-none, current_in, folded-same, leaves-both, leaves-same, same-both, same-self}

-- what is there
pub match-some : {A : Type 0} (found : Option A) (P : A → Type 0) (Q : Type 0) → MatchOption found ⊥ P → ((x : A) → P x → Q) → Q
match-some None P Q matches some = absurd matches
match-some (Some x) P Q matches some = some x matches

-- a place that is written without a current slab has none
written-none : (xs : List CpuLists) (i : ℕ) (v : CpuLists) → v.current ≡ None → (get_or (set xs i v) i no_lists).current ≡ None
written-none [] i v none = refl
written-none (x ∷ xs) zero v none = none
written-none (x ∷ xs) (suc i) v none = written-none xs i v none

-- ---- steps that touch no CPU

gone-same : (s : State) (frame : ℕ) → SameLists s (discarded s frame)
gone-same s frame = record { cpus = refl; lists = refl; table = refl }

node-same : (s : State) (cache : ℕ) (frames : List ℕ) → SameLists s (with_node s cache frames)
node-same s cache frames = record { cpus = refl; lists = refl; table = refl }

on-node-same : (s : State) (cache frame : ℕ) (own : List ℕ) → SameLists s (put_on_node s cache frame own)
on-node-same s cache frame [] = node-same s cache (frame ∷ node_of s cache)
on-node-same s cache frame (index ∷ own) = node-same s cache (node_of s cache ++ frame ∷ [])

put-same : (s : State) (min_partial cache frame : ℕ) (own : List ℕ) → SameLists s (put_where s min_partial cache frame own)
put-same s min_partial cache frame own =
    let has : Bool = nat_lt 0 (length (own_free s frame)) in
    pick (is_spare s min_partial cache frame) (discarded s frame) (cond has (put_on_node s cache frame own) s) (SameLists s) (gone-same s frame)
    (pick has (put_on_node s cache frame own) s (SameLists s) (on-node-same s cache frame own) (same-self s))

moved-same : (min_partial cache : ℕ) (s : State) (frame : ℕ) → SameLists s (moved min_partial cache s frame)
moved-same min_partial cache s frame =
    pick (is_spare s min_partial cache frame) (discarded s frame) (with_node s cache (node_of s cache ++ frame ∷ [])) (SameLists s) (gone-same s frame) (node-same s cache (node_of s cache ++ frame ∷ []))

swept-same : (cache : ℕ) (s : State) (frame : ℕ) → SameLists s (swept_slab cache s frame)
swept-same cache s frame =
    pick (eqb (inuse_of s frame) 0) (discarded (without_slab s cache frame) frame) s (SameLists s) (record { cpus = refl; lists = refl; table = refl }) (same-self s)

swept-checked-same : (cache : ℕ) (s : State) (frame : ℕ) → SameLists s (swept_checked_slab cache s frame)
swept-checked-same cache s frame = by (checked_of s cache)
  where
    by : (x : Option CheckedState) → SameLists s (option_map_or (λ slabs. cond (all_free slabs frame) (discarded (with_checked s cache (without_checked slabs frame)) frame) s) x s)
    by None = same-self s
    by (Some slabs) =
        pick (all_free slabs frame) (discarded (with_checked s cache (without_checked slabs frame)) frame) s (SameLists s) (record { cpus = refl; lists = refl; table = refl }) (same-self s)

-- ---- one CPU

module _ (s : State) (min_partial cache cpu : ℕ) where
  -- its current slab is put away
  down-leaves : (frame : ℕ) → Leaves s (taken_down s cache cpu frame)
  down-leaves frame =
      let bare : CpuLists = record { current = None; free = []; partial = (lists_of s cache cpu).partial } in
      record {
        cpus = refl;
        current = λ place. at_written (λ (l : CpuLists). IsSome l.current → IsSome (current_in s place)) s.cpu_lists (cpu_place s cache cpu) place bare no_lists
            (λ e some. absurd (false≢true some)) (λ some. some);
        live = λ other some. some;
      }

  away : (x : Option ℕ) → (lists_of s cache cpu).current ≡ x
      → Leaves s (option_map_or (put_away_slab s min_partial cache cpu) x s) × (current_in (option_map_or (put_away_slab s min_partial cache cpu) x s) (cpu_place s cache cpu) ≡ None)
  away None is = (leaves-same s s (same-self s), is)
  away (Some frame) is =
      let down : State = taken_down s cache cpu frame in
      let put : State = put_where down min_partial cache frame (own_free s frame) in
      let bare : CpuLists = record { current = None; free = []; partial = (lists_of s cache cpu).partial } in
      let same : SameLists down put = put-same down min_partial cache frame (own_free s frame) in (
        leaves-both s down put (down-leaves frame) (leaves-same down put same),
        ap (λ (l : List CpuLists). (get_or l (cpu_place s cache cpu) no_lists).current) same.lists ∙ written-none s.cpu_lists (cpu_place s cache cpu) bare refl,
      )

  away-leaves : Leaves s (put_away s min_partial cache cpu)
  away-leaves = (away (lists_of s cache cpu).current refl).0

  away-none : current_in (put_away s min_partial cache cpu) (cpu_place s cache cpu) ≡ None
  away-none = (away (lists_of s cache cpu).current refl).1

  -- its partial list is moved
  emptied-leaves : Leaves s (with_partial s cache cpu [])
  emptied-leaves =
      let lists : CpuLists = lists_of s cache cpu in
      let bare : CpuLists = record lists { partial = [] } in
      record {
        cpus = refl;
        current = λ place. at_written (λ (l : CpuLists). IsSome l.current → IsSome (current_in s place)) s.cpu_lists (cpu_place s cache cpu) place bare no_lists
            (λ e some. subst (λ n. IsSome (current_in s n)) (sym e) some) (λ some. some);
        live = λ other some. some;
      }

  partial-leaves : Leaves s (moved_partial s min_partial cache cpu)
  partial-leaves =
      let t : State = with_partial s cache cpu [] in
      let frames : List ℕ = (lists_of s cache cpu).partial in
      leaves-both s t (moved_all t min_partial cache frames) emptied-leaves
      (leaves-same t (moved_all t min_partial cache frames) (folded-same (moved min_partial cache) (moved-same min_partial cache) t frames))

flushed-leaves : (min_partial cache : ℕ) (s : State) (cpu : ℕ) → Leaves s (flushed min_partial cache s cpu)
flushed-leaves min_partial cache s cpu =
    let t : State = put_away s min_partial cache cpu in
    leaves-both s t (moved_partial t min_partial cache cpu) (away-leaves s min_partial cache cpu) (partial-leaves t min_partial cache cpu)

flushed-none : (min_partial cache : ℕ) (s : State) (cpu : ℕ) → IsSome (current_in (flushed min_partial cache s cpu) (cpu_place s cache cpu)) → ⊥
flushed-none min_partial cache s cpu some =
    let t : State = put_away s min_partial cache cpu in
    let was : IsSome (current_in t (cpu_place s cache cpu)) = (partial-leaves t min_partial cache cpu).current (cpu_place s cache cpu) some in
    false≢true (sym (ap is_some (away-none s min_partial cache cpu)) ∙ was)

-- ---- all CPUs

folded-leaves : (min_partial cache : ℕ) (s : State) (cpus : List ℕ) → Leaves s (fold (flushed min_partial cache) s cpus)
folded-leaves min_partial cache s [] = leaves-same s s (same-self s)
folded-leaves min_partial cache s (cpu ∷ cpus) =
    let t : State = flushed min_partial cache s cpu in
    leaves-both s t (fold (flushed min_partial cache) t cpus) (flushed-leaves min_partial cache s cpu) (folded-leaves min_partial cache t cpus)

folded-none : (min_partial cache : ℕ) (s : State) (a n cpu : ℕ) → a ≤ cpu → cpu < a + n → IsSome (current_in (fold (flushed min_partial cache) s (range_with_len a n)) (cpu_place s cache cpu)) → ⊥
folded-none min_partial cache s a zero cpu from to some = omega arith
folded-none min_partial cache s a (suc n) cpu from to some =
    let t : State = flushed min_partial cache s a in
    let last : State = fold (flushed min_partial cache) t (range_with_len (a + 1) n) in
    elim (cases_eq cpu a) [
      | inl e ↦ flushed-none min_partial cache s a ((folded-leaves min_partial cache t (range_with_len (a + 1) n)).current (cpu_place s cache a) (subst (λ k. IsSome (current_in last (cpu_place s cache k))) e some))
      | inr ne ↦ folded-none min_partial cache t (a + 1) n cpu (omega arith) (omega arith) (subst (λ k. IsSome (current_in last (cache * k + cpu))) (sym (flushed-leaves min_partial cache s a).cpus) some)
    ]

-- ---- a cache is detached

-- no CPU has a current slab of it any more
pub record Detaches (s : State) (cache : ℕ) (after : State) : Type 0 where
  pub leaves : Leaves s after
  pub none : (cpu : ℕ) → cpu < s.cpus → IsSome (current_in after (cache * s.cpus + cpu)) → ⊥

-- what follows touches no CPU
pub detaches-same : (s : State) (cache : ℕ) (mid after : State) → Detaches s cache mid → SameLists mid after → Detaches s cache after
detaches-same s cache mid after detaches same = record {
  leaves = leaves-both s mid after detaches.leaves (leaves-same mid after same);
  none = λ cpu below some. detaches.none cpu below ((leaves-same mid after same).current (cache * s.cpus + cpu) some);
}

pub flush-detaches : (s : State) (min_partial cache : ℕ) → Detaches s cache (flushed_below s min_partial cache s.cpus)
flush-detaches s min_partial cache = record {
  leaves = folded-leaves min_partial cache s (range_with_len 0 s.cpus);
  none = λ cpu below some. folded-none min_partial cache s 0 s.cpus cpu (omega arith) (omega arith) some;
}

-- of a checked cache no CPU has anything
pub checked-detaches : (s : State) (cache : ℕ) (slabs : CheckedState) → IsCoherent s → checked_of s cache ≡ Some slabs → Detaches s cache s
checked-detaches s cache slabs coherent is = record {
  leaves = leaves-same s s (same-self s);
  none = λ cpu below some. checked-none s cache cpu slabs coherent is below some;
}

unchecked-shrinks : (s : State) (min_partial cache : ℕ) (after : State) → ShrinksUnchecked s min_partial cache after → Detaches s cache after
unchecked-shrinks s min_partial cache after steps =
    let f : State = flushed_below s min_partial cache s.cpus in
    let t : State = swept f cache in
    let then : SameLists t after = subst (SameLists t) (sym steps.2) (node-same t cache steps.0) in
    detaches-same s cache f after (flush-detaches s min_partial cache)
    (same-both f t after (folded-same (swept_slab cache) (swept-same cache) f (node_of f cache)) then)

checked-shrinks : (s : State) (cache : ℕ) (slabs : CheckedState) (after : State) → IsCoherent s → checked_of s cache ≡ Some slabs → ShrinksChecked s cache slabs after → Detaches s cache after
checked-shrinks s cache slabs after coherent is steps =
    let t : State = swept_checked s cache slabs in
    let swept_same : SameLists s t = folded-same (swept_checked_slab cache) (swept-checked-same cache) s slabs.listed in
    let then : SameLists t after = match-some (checked_of t cache) _ (SameLists t after) steps
    (λ (own : CheckedState) promotes. subst (SameLists t) (sym promotes.2) (record { cpus = refl; lists = refl; table = refl })) in
    detaches-same s cache s after (checked-detaches s cache slabs coherent is) (same-both s t after swept_same then)

pub shrinks-detaches : (s : State) (cache : ℕ) (after : State) → IsCoherent s → ShrinksCache s cache after → Detaches s cache after
shrinks-detaches s cache after coherent shrinks =
    match-some (cache_of s cache) _ (Detaches s cache after) shrinks.steps (λ (live : Cache) steps. by live.layout.min_partial (checked_of s cache) refl steps)
  where
    by : (least : ℕ) (x : Option CheckedState) → checked_of s cache ≡ x → MatchOption x (ShrinksUnchecked s least cache after) (λ slabs. ShrinksChecked s cache slabs after) → Detaches s cache after
    by least None is steps = unchecked-shrinks s least cache after steps
    by least (Some slabs) is steps = checked-shrinks s cache slabs after coherent is steps
