-- Which caches a trace may have.
use Rattle.std.specs.Prelude.{◌≡◌, ℕ, ◌≤◌, ◌==◌, Bool, false, true, List, [], ◌∷◌, ◌++◌, length, map, take, filter, sum_by, IsPermutation}
use Rattle.slub_recorded.specs.declared.groups.Chosen.{Chosen}
use Rattle.slub_recorded.specs.declared.groups.Split.{Split}
use Rattle.slub_recorded.specs.declared.text.Row.{Row}

-- the line of a cache
abbrev pub row_of : Chosen → Row
row_of one =
    record { name = one.cache.name; slot = one.cache.slot; reclaim = one.second }

-- of the caches of a slot, in their order: whether each has the letter R
unfoldable pub letters_of : ℕ → List Row → List Bool
letters_of slot rows = map (λ row. row.reclaim) (filter (λ row. row.slot == slot) rows)

-- of each slot there are at most two caches: the first is without the letter R, the second has it
unfoldable pub AreApart : List Row → Type 0
AreApart rows = (slot : ℕ) →
    letters_of slot rows ≡ take (length (letters_of slot rows)) (false ∷ true ∷ [])

-- the page frames that the caches need at least
unfoldable pub frames_of : List Chosen → ℕ
frames_of caches = sum_by (λ cache. cache.frames) caches

-- a trace may have these caches together: there are at most 32, at most two of a slot, and a
-- machine has frames for all
pub record FitTrace (caches : List Chosen) : Type 0 where
  pub few : length caches ≤ 32
  pub apart : AreApart (map row_of caches)
  pub frames : frames_of caches ≤ 4095

-- the cache, whatever its letter
abbrev pub unlettered : Chosen → Chosen
unlettered cache = record cache { second = false }

-- the given caches, each once: those that stand together in a trace, and all the others
pub record IsSplit (given : List Chosen) (split : Split) : Type 0 where
  pub all : IsPermutation (map unlettered given)
      (map unlettered split.taken.items ++ map unlettered split.others.items)
  pub frames : split.frames ≡ frames_of split.taken.items
  pub fits : FitTrace split.taken.items
