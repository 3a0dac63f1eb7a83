-- A CPU is flushed of every cache, the oldest first.
use Rattle.std.proofs.Common.{◌≡◌, ℕ, suc, ◌+◌, ◌<◌, ◌≤◌, Bool, true, false, cond, List, [], ◌∷◌, length, get_or, take, drop, fold, sum_by, Option, Some, None, is_some, IsSome, inl, inr, refl, ap, sym, ◌∙◌, subst, arith, nat_lt, if◌then◌else◌}
use Rattle.std.proofs.lemmas.Bool.{cases_lt}
use Rattle.std.proofs.lemmas.Bool.Decides.{nat_tests}
use Rattle.std.proofs.lemmas.List.{get_or_past}
use Rattle.slub_common.specs.Times.{times}
use Rattle.slub_cache_create.specs.Sound.{IsSound as IsSoundTable}
use Rattle.slub_cache_create.specs.declared.caches.Cache.{Cache}
use Rattle.slub_cache_create.specs.Table.{Table, cache_of as live_cache}
use Rattle.slub_lists.specs.State.{State}
use Rattle.slub_lists.specs.Alloc.{checked_of}
use Rattle.slub_lists.specs.Flush.{flushed_of}
use Rattle.slub_lists.specs.Shrink.{flushed, min_partial_of}
use Rattle.slub_lists.specs.Shrinking.{KeepsChecked}
use Rattle.slub_lists.specs.WordSteps.{KeepsAll}
use Rattle.slub_lists.proofs.Counting.{IsOnce, once-length}
use Rattle.slub_lists.proofs.Flushing.{rest-flushed, same-all}
use Rattle.slub_lists.proofs.Found.{found-same}
use Rattle.slub_lists.proofs.Keeps.{keeps-board, keeps-others}
use Rattle.slub_lists.proofs.Moving.{pick}
use Rattle.slub_lists.proofs.Sweeping.{at-counted, drop-at}

-- ---- the ages

-- each is the number of a live cache
pub aged-live : (table : Table) (place : ℕ) → IsSoundTable table → place < length table.ages → IsSome (live_cache table (get_or table.ages place 0))
aged-live table place sound below =
    let cache = get_or table.ages place 0 in
    there (is_some (live_cache table cache)) (at-counted place table.ages below) (sound.aged cache)
  where
    there : (b : Bool) → 0 < times (get_or table.ages place 0) table.ages → times (get_or table.ages place 0) table.ages ≡ cond b 1 0 → b ≡ true
    there true some counted = refl
    there false some counted = absurd (omega arith)

-- there are 32 at most
pub ages-most : (table : Table) → IsSoundTable table → length table.ages ≤ 32
ages-most table sound = once-length 32 table.ages once
  where
    one : (b : Bool) (n : ℕ) → n ≡ cond b 1 0 → n ≤ 1
    one true n is = omega arith
    one false n is = omega arith

    once : IsOnce 32 table.ages
    once x =
        elim (cases_lt x 32) [
          | inl below ↦ let most = one (is_some (live_cache table x)) (times x table.ages) (sound.aged x) in grind (arith, nat_tests, below, most)
          | inr past ↦
              let none : live_cache table x ≡ None = get_or_past table.caches x None (omega (arith, past, sound.numbers)) in
              let nothing : times x table.ages ≡ 0 = sound.aged x ∙ ap (λ (live : Option Cache). cond (is_some live) 1 0) none in
              omega (arith, nothing)
        ]

-- ---- one cache after the other

-- the next of those that are left, and then the others
pub fold-aged : (f : State → ℕ → State) (s : State) (place : ℕ) (ages : List ℕ) → place < length ages
    → fold f s (drop place ages) ≡ fold f (f s (get_or ages place 0)) (drop (place + 1) ages)
fold-aged f s place ages below =
    let next : suc place ≡ place + 1 = omega arith in
    ap (λ (l : List ℕ). fold f s l) (drop-at place ages below) ∙ ap (λ n. fold f (f s (get_or ages place 0)) (drop n ages)) next

-- ---- what stays

pub rest-flushed_of : (cpu : ℕ) (s : State) (cache : ℕ) → KeepsChecked s (flushed_of cpu s cache)
rest-flushed_of cpu s cache =
    pick (is_some (checked_of s cache)) s (flushed (min_partial_of s cache) cache s cpu) (KeepsChecked s) (same-all s) (rest-flushed (min_partial_of s cache) cache s cpu)

-- whatever number an event would be under
pub keeps-all : (s after : State) → KeepsChecked s after → KeepsAll s after
keeps-all s after rest = λ object.
    keeps-others s object after (keeps-board s after after object rest.held.frames rest.held.cpus rest.held.table rest.held.board refl) (found-same s after rest.checked)
