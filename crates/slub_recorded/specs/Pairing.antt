-- Which object each event of a recording allocates or frees.
use Rattle.std.specs.Prelude.{ℕ, ◌==◌, Bool, nat_eq, nat_le, List, [], ◌∷◌, ◌++◌, length, fold, Option, None, Some, unwrap_or, option_to_list, if◌then◌else◌}
use Rattle.std.specs.Map.{lookup}
use Rattle.indexmap.specs.IndexMap.{insert_entry}
use Rattle.slub_recording.specs.declared.event.KmemAct.{KmemAct}
use Rattle.slub_recording.specs.declared.event.KmemAct.TheVariants as act
use Rattle.slub_recording.specs.declared.event.KmemEvent.{KmemEvent}
use Rattle.slub_recorded.specs.declared.pairing.Born.{Born}
use Rattle.slub_recorded.specs.declared.pairing.Fate.{Fate}
use Rattle.slub_recorded.specs.declared.pairing.Fate.TheVariants as fate
use Rattle.slub_recorded.specs.declared.pairing.Held.{Held}
use Rattle.slub_recorded.specs.declared.pairing.Held.TheVariants.{Nothing, Object, Pages}
use Rattle.slub_recorded.specs.declared.pairing.Move.{Move}
use Rattle.slub_recorded.specs.declared.pairing.Move.TheVariants as move
use Rattle.slub_recorded.specs.declared.pairing.Origin.TheVariants as origin

-- ---- one event

-- the object that an act allocates; a kmalloc above 8192 bytes takes whole pages
-- (`KMALLOC_MAX_CACHE_SIZE`)
abbrev pub birth : KmemAct → Option Born
birth (act.CacheAlloc asked slot site) =
    Some (record { slot = slot; origin = origin.Cache asked site })
birth (act.Kmalloc slot kind) =
    if nat_le slot 8192 then Some (record { slot = slot; origin = origin.Kmalloc kind }) else None
birth (act.CacheFree name) = None
birth act.Kfree = None

-- what lies at the pointer of an act behind it, where it allocates the object of this number if any
abbrev pub left : KmemAct → ℕ → Held
left (act.CacheAlloc asked slot site) object = Object object
left (act.Kmalloc slot kind) object = if nat_le slot 8192 then Object object else Pages
left (act.CacheFree name) object = Nothing
left act.Kfree object = Nothing

-- the name that an act says
abbrev pub said : KmemAct → Option ℕ
said (act.CacheAlloc asked slot site) = None
said (act.Kmalloc slot kind) = None
said (act.CacheFree name) = name
said act.Kfree = None

-- an event frees what lies at its pointer, be it a free or an allocation: what is allocated there
-- again was freed, and the recording has no event for that
abbrev pub frees : KmemEvent → Held → List Move
frees event Nothing = []
frees event (Object object) = move.Free event.cpu object (said event.act) ∷ []
frees event Pages = []

-- the allocation of the object of this number, where there is one
abbrev pub gives : KmemEvent → ℕ → Option Born → List Move
gives event object None = []
gives event object (Some born) = move.Alloc event.cpu object ∷ []

-- ---- what becomes of an event

-- of a free, by what lies at its pointer
abbrev pub freed_fate : Held → Fate → Fate
freed_fate Nothing never = never
freed_fate (Object object) never = fate.Freed
freed_fate Pages never = fate.PagesFreed

-- of an event, by whether its pointer is 0 and what lies there
abbrev pub fate_of : KmemAct → Bool → Held → Fate
fate_of (act.CacheAlloc asked slot site) zero held = if zero then fate.Failed else fate.Given
fate_of (act.Kmalloc slot kind) zero held =
    if zero then fate.Failed else (if nat_le slot 8192 then fate.Given else fate.PagesGiven)
fate_of (act.CacheFree name) zero held =
    if zero then fate.OfNothing else freed_fate held fate.CacheUnknown
fate_of act.Kfree zero held = if zero then fate.OfNothing else freed_fate held fate.Unknown

-- ---- some events

-- what is known behind some events
pub record Seen : Type 0 where
  -- by pointer: what lies there
  pub held : List (ℕ × Held)
  -- the objects that they allocate, numbered from 0 on
  pub objects : List Born
  -- what is done with objects, in the order of the events
  pub moves : List Move
  -- what became of each event
  pub fates : List Fate

-- behind none
abbrev pub nothing : Seen
nothing = record { held = []; objects = []; moves = []; fates = [] }

-- what lies at a pointer
abbrev pub held_at : List (ℕ × Held) → ℕ → Held
held_at held pointer = unwrap_or (lookup (nat_eq pointer) held) Nothing

-- one fate more
abbrev pub with_fate : Seen → Fate → Seen
with_fate seen fate = record seen { fates = seen.fates ++ fate ∷ [] }

-- behind an event whose pointer isn't 0
abbrev pub with_moves : Seen → KmemEvent → Seen
with_moves seen event =
    let object = length seen.objects in
    let born = birth event.act in
    record seen {
      held = insert_entry nat_eq seen.held event.pointer (left event.act object);
      objects = seen.objects ++ option_to_list born;
      moves =
          seen.moves ++ frees event (held_at seen.held event.pointer) ++ gives event object born;
    }

-- behind one event more
unfoldable pub after : Seen → KmemEvent → Seen
after seen event =
    let known = with_fate seen
    (fate_of event.act (event.pointer == 0) (held_at seen.held event.pointer)) in
    if event.pointer == 0 then known else with_moves known event

-- behind these events
abbrev pub seen : List KmemEvent → Seen
seen events = fold after nothing events
