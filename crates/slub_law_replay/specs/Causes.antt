-- More of why events are answered so, in a round whose workers make atomic steps: each answer of a
-- poke, transaction ids that were found spent, want of frames, and of the slab of a poke's object.
use Rattle.std.specs.Prelude.{◌≡◌, ℕ, ◌+◌, ◌*◌, ◌^◌, ◌≤◌, ◌||◌, ◌++◌, Bool, true, false, List, Some, None, MatchOption, ⊤, ℤ}
use Rattle.std.specs.List.{fold}
use Rattle.std.specs.Option.{option_and_then, option_map_or}
use Rattle.slub_page_pool.specs.Block.{HasNoBlock}
use Rattle.slub_object_layout.specs.Layout.{address_of}
use Rattle.slub_red_zone.specs.declared.checked.Slot.{Slot}
use Rattle.slub_red_zone.specs.State.{CheckedState, IsUsed, state_of}
use Rattle.slub_trace.specs.declared.event.Act.{Act}
use Rattle.slub_trace.specs.declared.event.Act.TheVariants.{Alloc, Poke}
use Rattle.slub_trace.specs.declared.event.Round.{Round}
use Rattle.slub_trace.specs.declared.reply.Reply.{Reply}
use Rattle.slub_trace.specs.declared.reply.Reply.TheVariants as reply
use Rattle.slub_lists.specs.State.{State}
use Rattle.slub_lists.specs.Alloc.{checked_of, named}
use Rattle.slub_lists.specs.Places.{layout_at}
use Rattle.slub_core.specs.Setup.{pool_lock}
use Rattle.slub_core.specs.World.{pool_in}
use Rattle.slub_core.specs.Checked.{is_offset}
use Rattle.slub_core.specs.Run.{Pick, run}
use Rattle.slub_law_opening.specs.Opening.{Beside, setup_of}
use Rattle.slub_open_close.specs.Ids.{IsStepOf, id_at}
use Rattle.slub_law_rounds.specs.Answered.{Answered, IsAfter, did_free, found_bad, gave, holding}
use Rattle.slub_law_rounds.specs.Contents.{slabs_at}
use Rattle.slub_law_rounds.specs.Round.{IsOfChecked, Spot, layout_of, spot_by}
use Rattle.slub_rounds.specs.Rounds.{system_begun}

-- ---- what a worker knows

-- a worker knows where an object stands that it was given, that it freed, or that its free found
-- damaged
abbrev pub knows_after : ℕ → Bool → Answered → Bool
knows_after object known one =
    gave object one || (did_free object one || found_bad object one) || known

-- the worker to which these events were answered knows the object
abbrev pub knowing : ℕ → List Answered → Bool
knowing object own = fold (knows_after object) false own

-- the object's cache is live and not checked
abbrev pub IsOfPlain : State → ℕ → List Answered → Type 0
IsOfPlain before object own =
    MatchOption (spot_by before object own) ⊥ (λ spot. checked_of before spot.cache ≡ None)

-- the byte at an offset from the object lies in its slot
abbrev pub in_slot : State → ℕ → List Answered → ℤ → Bool
in_slot before object own offset =
    option_map_or (λ layout. is_offset layout offset)
    (option_and_then (layout_of before) (spot_by before object own)) false

-- ---- causes; `own` are the events of the same worker before

-- a poke is done, or answers that the byte lies outside of the slot, of an object that the worker
-- knows, of a checked cache, exactly as the byte lies. It answers that the object isn't checked of
-- one that the worker knows, of another cache. It answers that the object isn't held where the
-- worker doesn't hold it; and where the worker knows it, which it has freed, it is one of a checked
-- cache and the byte lies in the slot (that its slab is gone is said below)
abbrev pub IsPokeAnswer : State → List Answered → ℕ → ℤ → Reply → Type 0
IsPokeAnswer before own object offset reply.Poked =
    (knowing object own ≡ true) × IsOfChecked before object own
    × (in_slot before object own offset ≡ true)
IsPokeAnswer before own object offset reply.OutOfSlot =
    (knowing object own ≡ true) × IsOfChecked before object own
    × (in_slot before object own offset ≡ false)
IsPokeAnswer before own object offset reply.NotChecked =
    (knowing object own ≡ true) × IsOfPlain before object own
IsPokeAnswer before own object offset reply.NotHeld =
    (holding object own ≡ false)
    × (knowing object own ≡ true
    → IsOfChecked before object own × (in_slot before object own offset ≡ true))
IsPokeAnswer before own object offset _ = ⊥

-- the cache is live; the id is so near the end that no two more changes fit, each of which adds the
-- machine's step; and the CPU's word of the cache has it after the round, or a later one
pub record SpentCause (before : State) (ids : List ℕ) (place cpu tid : ℕ) : Type 0 where
  pub cache : ℕ
  pub name : named before place ≡ Some cache
  pub plain : checked_of before cache ≡ None
  pub step : ℕ
  pub least : IsStepOf before.cpus step
  pub spent : 2 ^ 32 ≤ tid + 2 * step
  pub reached : tid ≤ id_at ids (16 * cache + cpu)

abbrev pub RightCause : State → List ℕ → List Answered → ℕ → Act → Reply → Type 0
RightCause before ids own cpu (Alloc place object) (reply.IdsSpent tid) =
    SpentCause before ids place cpu tid
RightCause before ids own cpu (Poke object offset byte) reply =
    IsPokeAnswer before own object offset reply
RightCause before ids own cpu act reply = ⊤

-- so of each event of each worker, in a round that leaves these ids of the CPU words
abbrev pub HaveRightCauses : State → List ℕ → List Answered → Type 0
HaveRightCauses before ids answers =
    (worker : ℕ) (own : List Answered) (one : Answered) → IsAfter answers worker own one
    → RightCause before ids own one.0.cpu one.0.act one.1

-- ---- what lacked after some of the turns of the round

-- the cache is live, and after some of the turns of the round the pool had no free block of its
-- least order, and no greater one
pub record LacksBlock (s : State) (b : Beside) (round : Round) (picks : List Pick) (place : ℕ)
    : Type 0 where
  pub cache : ℕ
  pub name : named s place ≡ Some cache
  pub front : List Pick
  pub rest : List Pick
  pub split : picks ≡ front ++ rest
  pub none : let here = run (setup_of s b) (system_begun s b round) front in
      HasNoBlock (pool_in (here.value pool_lock)).free (layout_at s cache).min_order

-- the slabs of a checked cache after some of the turns
abbrev pub slabs_after : State → Beside → Round → ℕ → List Pick → CheckedState
slabs_after s b round cache front =
    slabs_at (setup_of s b) (run (setup_of s b) (system_begun s b round) front).value cache

-- the slab of an object of a checked cache is gone: at its address the cache had an object in use,
-- of the slab that begins at a frame, after some of the turns of the round, none at all or more;
-- and after some more there was no such object in a slab at that frame. (A slab that begins at a
-- lower frame can have an object at the same address then.)
pub record LacksSlab (s : State) (b : Beside) (round : Round) (picks : List Pick) (spot : Spot)
    : Type 0 where
  pub slot : Slot
  pub stands : address_of slot.frame slot.index (layout_at s spot.cache) ≡ spot.address
  pub early : List Pick
  pub late : List Pick
  pub rest : List Pick
  pub split : picks ≡ early ++ late ++ rest
  pub used : IsUsed (slabs_after s b round spot.cache early) slot
  pub gone : state_of (slabs_after s b round spot.cache (early ++ late)) slot ≡ None

-- `no frames` is answered where the pool had no block. That an object isn't held, which the worker
-- knows, a poke answers where its slab was gone
abbrev pub WantCause : State → Beside → Round → List Pick → List Answered → Act → Reply → Type 0
WantCause s b round picks own (Alloc place object) reply.NoFrames = LacksBlock s b round picks place
WantCause s b round picks own (Poke object offset byte) reply.NotHeld =
    knowing object own ≡ true
    → MatchOption (spot_by s object own) ⊥ (λ spot. LacksSlab s b round picks spot)
WantCause s b round picks own act reply = ⊤

-- so of each event of each worker
abbrev pub HaveWants : State → Beside → Round → List Pick → List Answered → Type 0
HaveWants s b round picks answers =
    (worker : ℕ) (own : List Answered) (one : Answered) → IsAfter answers worker own one
    → WantCause s b round picks own one.0.act one.1
