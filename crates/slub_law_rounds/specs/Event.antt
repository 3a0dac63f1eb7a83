-- What one event finds before it, and what it leaves.
use Rattle.std.specs.Prelude.{◌≡◌, ℕ, true, [], Some, IsSome, IfSome, MatchOption, ⊤, All, Contains, slice_index, sum_by}
use Rattle.slub_page_pool.specs.Block.{HasNoBlock}
use Rattle.slub_trace.specs.declared.event.Act.{Act}
use Rattle.slub_trace.specs.declared.event.Act.TheVariants.{Alloc, Free, Write, Read, Poke}
use Rattle.slub_object_layout.specs.declared.layout.Layout.{Layout}
use Rattle.slub_red_zone.specs.declared.slab.ObjectState.TheVariants.{Free as FreeObject}
use Rattle.slub_red_zone.specs.declared.checked.Slot.{Slot}
use Rattle.slub_red_zone.specs.State.{CheckedState, slab_of as checked_slab, state_of}
use Rattle.slub_red_zone.specs.Steps.{damage_of_free}
use Rattle.slub_lists.specs.declared.lists.Held.{Held}
use Rattle.slub_lists.specs.State.{State}
use Rattle.slub_lists.specs.Alloc.{cache_of, checked_of, held_here, lists_of, named, node_of, own_free}
use Rattle.slub_lists.specs.Checked.{slot_of_held}
use Rattle.slub_lists.specs.Coherent.{held_under}
use Rattle.slub_lists.specs.Laws.{KeepsWords, Names}
use Rattle.slub_lists.specs.Words.{is_word, known_to, word_of}
use Rattle.slub_law_rounds.specs.Round.{spot_of}

-- ---- an object that is given

-- where an object of a cache is free for an allocation on a CPU: on that CPU's freelist; on the own
-- freelist of the CPU's current slab, or of a slab of the CPU's or the node's partial list; in a
-- slab of a checked cache; or in frames that are free, of which a slab is made
pub data IsFree (s : State) (cache cpu : ℕ) (held : Held) : Type 0 where
  on_cpu : (lists_of s cache cpu).current ≡ Some held.frame
      → Contains (lists_of s cache cpu).free held.index → IsFree s cache cpu held
  on_current : (lists_of s cache cpu).current ≡ Some held.frame
      → Contains (own_free s held.frame) held.index → IsFree s cache cpu held
  on_partial : Contains (lists_of s cache cpu).partial held.frame
      → Contains (own_free s held.frame) held.index → IsFree s cache cpu held
  on_node : Contains (node_of s cache) held.frame
      → Contains (own_free s held.frame) held.index → IsFree s cache cpu held
  in_checked : IfSome (checked_of s cache)
      (λ slabs. state_of slabs (slot_of_held held) ≡ Some FreeObject)
      → IsSome (checked_of s cache) → IsFree s cache cpu held
  in_frames : Contains s.pool.free held.frame → IsFree s cache cpu held

-- the object that an allocation of a name gives under a number: it is one of the cache of the name,
-- at the address of the answer, which was free and which nobody had
pub record GivesFree (s : State) (place cpu object address : ℕ) (after : State) : Type 0 where
  pub held : Held
  pub there : held_under after object ≡ Some held
  pub cache : named s place ≡ Some held.cache
  pub spot : spot_of s held ≡ Some (record { cache = held.cache; address = address })
  pub free : IsFree s held.cache cpu held
  pub unheld : sum_by (held_here held.frame held.index) s.board ≡ 0

-- ---- no frames

-- the first free object of a slab of a checked cache
abbrev pub first_free : CheckedState → ℕ → Slot
first_free slabs frame =
    record { frame = frame; index = slice_index (checked_slab slabs frame).free 0 }

-- neither the CPU nor the node has a free object of the cache: every list is empty; of a checked
-- cache the first free object of each listed slab is damaged
pub record HasNoObject (s : State) (cache cpu : ℕ) : Type 0 where
  pub on_cpu : (lists_of s cache cpu).free ≡ []
  pub on_current : IfSome (lists_of s cache cpu).current (λ frame. own_free s frame ≡ [])
  pub on_partial : (lists_of s cache cpu).partial ≡ []
  pub on_node : node_of s cache ≡ []
  pub in_checked : IfSome (checked_of s cache)
      (λ slabs. All (λ frame. IsSome (damage_of_free slabs (first_free slabs frame))) slabs.listed)

-- nor is a block of its least order there
pub record LacksFrames (s : State) (place cpu : ℕ) : Type 0 where
  pub cache : ℕ
  pub name : named s place ≡ Some cache
  pub no_object : HasNoObject s cache cpu
  pub no_block : IfSome (cache_of s cache) (λ live. HasNoBlock s.pool.free live.layout.min_order)

-- ---- the words of others

-- the object is the one that a number names to a worker, which holds or freed it
abbrev pub IsNamed : State → ℕ → ℕ → Held → Type 0
IsNamed s worker object held =
    MatchOption (known_to s worker object) ⊥
    (λ known. (known.frame ≡ held.frame) × (known.index ≡ held.index))

-- the words of each object on the board are as before, but of the one that is poked
abbrev pub KeepsButPoked : State → ℕ → ℕ → State → Type 0
KeepsButPoked s worker object after =
    (other word : ℕ) (held : Held) (layout : Layout) → Names s other held layout
    → ¬ IsNamed s worker object held → is_word layout word ≡ true
    → word_of after layout held word ≡ word_of s layout held word

-- an act under a number leaves the words of each other object on the board, and so does a poke, but
-- for an object that stands where the number's freed one stood
abbrev pub SparesWords : State → ℕ → Act → State → Type 0
SparesWords s worker (Alloc place object) after = KeepsWords s object after
SparesWords s worker (Free object) after = KeepsWords s object after
SparesWords s worker (Write word object value) after = KeepsWords s object after
SparesWords s worker (Read word object) after = KeepsWords s object after
SparesWords s worker (Poke object offset byte) after = KeepsButPoked s worker object after
SparesWords s worker _ after = ⊤
