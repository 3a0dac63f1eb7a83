-- `___slab_alloc`, `__unfreeze_partials`, for proofs and private clauses: what the steps of an
-- operation hand to one another.
use Rattle.std.specs.Prelude.{◌≡◌, ℕ, ◌+◌, ◌<◌, ◌≤◌, Bool, true, false, length, List, [], ◌∷◌, take, drop, reverse, Some, None, MatchOption, ◌⊎◌}
use Rattle.slub_lists.specs.State.{State}
use Rattle.slub_lists.specs.Alloc.{checked_of, lists_of, node_of, own_free, slab_of, with_lists, with_node}
use Rattle.slub_lists.specs.Free.{moved, with_partial}
use Rattle.slub_lists.specs.Coherent.{AddsReportsOf, findable_in, times_current, times_partial, if_current}

-- a slab with a free object that can be made current on a CPU whose freelist is empty: it is
-- current there already, or the CPU has no slab and it is on no list
pub record IsTakable (s : State) (cache cpu frame : ℕ) : Type 0 where
  pub live : MatchOption (slab_of s frame) ⊥ (λ slab. slab.cache ≡ cache)
  pub stocked : 0 < length (own_free s frame)
  pub free : (lists_of s cache cpu).free ≡ []
  pub here : ((lists_of s cache cpu).current ≡ None) ⊎ ((lists_of s cache cpu).current ≡ Some frame)
  pub nowhere_else : times_current s frame ≡ if_current frame 1 (lists_of s cache cpu).current
  pub unlisted : times_partial s frame ≡ 0

-- a slab of the cache that has a free object, and is current nowhere and on no list
pub record IsListable (s : State) (cache frame : ℕ) : Type 0 where
  pub live : MatchOption (slab_of s frame) ⊥ (λ slab. slab.cache ≡ cache)
  pub stocked : 0 < length (own_free s frame)
  pub unlisted : times_current s frame + times_partial s frame ≡ 0

-- the caches, the board and the counts are as before, and so are the numbers of frames and CPUs
pub record IsRelisted (old new : State) : Type 0 where
  pub frames : new.frames ≡ old.frames
  pub cpus : new.cpus ≡ old.cpus
  pub table : new.table ≡ old.table
  pub checked : new.checked ≡ old.checked
  pub board : new.board ≡ old.board
  pub live : new.live ≡ old.live

-- what an operation leaves of the reports of the checked caches: none goes, and at most one slab
-- more is listed that may be reported
pub record KeepsFound (s after : State) : Type 0 where
  pub reports : (cache : ℕ) → AddsReportsOf (checked_of s cache) (checked_of after cache)
  pub findable : findable_in after ≤ findable_in s + 1

-- the front of the CPU's partial list is taken off, and can be taken up
pub record PopsPartial (old : State) (cache cpu frame : ℕ) (new : State) : Type 0 where
  pub rest : List ℕ
  pub first : (lists_of old cache cpu).partial ≡ frame ∷ rest
  pub left : new ≡ with_lists old cache cpu (record (lists_of old cache cpu) { partial = rest })
  pub takable : IsTakable new cache cpu frame

-- the head of the node list is taken off, and can be taken up; after it `batch` slabs go to the
-- CPU's partial list, which was empty
pub record PopsNode (old : State) (cache cpu batch frame : ℕ) (new : State) : Type 0 where
  pub rest : List ℕ
  pub first : node_of old cache ≡ frame ∷ rest
  pub left : new
      ≡ with_lists (with_node old cache (drop batch rest)) cache cpu
      (record (lists_of old cache cpu) { partial = reverse (take batch rest) })
  pub takable : IsTakable new cache cpu frame

-- the front of the CPU's partial list is moved; nothing is done where that list is empty
abbrev pub MovesFront : State → ℕ → ℕ → ℕ → Bool → State → Type 0
MovesFront old min_partial cache cpu false new =
    ((lists_of old cache cpu).partial ≡ []) × (new ≡ old)
MovesFront old min_partial cache cpu true new =
    (frame : ℕ) × (rest : List ℕ) × ((lists_of old cache cpu).partial ≡ frame ∷ rest)
    × (new ≡ moved min_partial cache (with_partial old cache cpu rest) frame)
