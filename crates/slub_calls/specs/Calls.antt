-- What the workers of a round are to do: its events as calls, each with the place of its object
-- among those that its worker will know.
use Rattle.std.specs.Prelude.{ℕ, nat_eq, ◌==◌, ◌<◌, List, [], length, map, filter, filter_map, Option, None, Some, ⊤}
use Rattle.std.specs.List.{range_with_len}
use Rattle.indexmap.specs.IndexSet.{insert_all}
use Rattle.slub_trace.specs.declared.event.Act.{Act}
use Rattle.slub_trace.specs.declared.event.Act.TheVariants as act
use Rattle.slub_trace.specs.declared.event.Event.{Event}
use Rattle.slub_trace.specs.declared.event.Round.{Round}
use Rattle.slub_cache_create.specs.Table.{Table, name_at, number_of}
use Rattle.slub_core.specs.declared.call.Call.{Call}
use Rattle.slub_core.specs.declared.call.Call.TheVariants as call
use Rattle.slub_core.specs.declared.local.Known.{Known}
use Rattle.slub_core.specs.Local.{Local, nobody}
use Rattle.slub_core.specs.Accounted.{place_of}
use Rattle.slub_core.specs.Run.{idle}

-- ---- the events of a worker

-- in the order of the text
abbrev pub events_by : ℕ → List Event → List Event
events_by worker events = filter (λ event. event.worker == worker) events

-- the object number that an act names; a trim is of a cache, a flush of a CPU
abbrev pub object_named : Act → Option ℕ
object_named (act.Alloc place object) = Some object
object_named (act.Free object) = Some object
object_named (act.Write word object value) = Some object
object_named (act.Read word object) = Some object
object_named (act.Poke object offset byte) = Some object
object_named (act.Trim place) = None
object_named act.Flush = None

-- the object numbers that events name, each once, in the order in which they come
abbrev pub numbers_in : List Event → List ℕ
numbers_in events = insert_all nat_eq [] (filter_map (λ event. object_named event.act) events)

-- ---- what a worker will know

-- room for what it will know of an object
abbrev pub room_for : ℕ → Known
room_for object = record nobody { object = object }

-- a room for each object that its events name
abbrev pub rooms_for : List Event → List Known
rooms_for events = map room_for (numbers_in events)

-- ---- its calls

-- a name that isn't live now names no cache
abbrev pub cache_named : Table → ℕ → Option ℕ
cache_named table place = number_of table (name_at table place)

-- what an act of an event calls for, where its object, if it names one, has this place among those
-- that its worker will know
abbrev pub call_at : Table → ℕ → ℕ → Act → Call
call_at table place cpu (act.Alloc name object) =
    call.Alloc cpu (cache_named table name) object place
call_at table place cpu (act.Free object) = call.Free cpu object place
call_at table place cpu (act.Write word object value) = call.Write object place word value
call_at table place cpu (act.Read word object) = call.Read object place word
call_at table place cpu (act.Poke object offset byte) = call.Poke object place offset byte
call_at table place cpu (act.Trim name) = call.Trim (cache_named table name)
call_at table place cpu act.Flush = call.Flush cpu

-- the same, by a worker who has these rooms
abbrev pub call_for : Table → List Known → ℕ → Act → Call
call_for table rooms cpu (act.Alloc name object) =
    call.Alloc cpu (cache_named table name) object (place_of rooms object)
call_for table rooms cpu (act.Free object) = call.Free cpu object (place_of rooms object)
call_for table rooms cpu (act.Write word object value) =
    call.Write object (place_of rooms object) word value
call_for table rooms cpu (act.Read word object) = call.Read object (place_of rooms object) word
call_for table rooms cpu (act.Poke object offset byte) =
    call.Poke object (place_of rooms object) offset byte
call_for table rooms cpu (act.Trim name) = call.Trim (cache_named table name)
call_for table rooms cpu act.Flush = call.Flush cpu

abbrev pub calls_for : Table → List Known → List Event → List Call
calls_for table rooms events = map (λ event. call_for table rooms event.cpu event.act) events

-- ---- the workers

-- a worker with all its events to come, of which it has these
abbrev pub worker_with : Table → ℕ → List Event → Local
worker_with table worker events = record idle {
  worker = worker;
  known = rooms_for events;
  todo = calls_for table (rooms_for events) events;
}

abbrev pub worker_of : Table → Round → ℕ → Local
worker_of table round worker = worker_with table worker (events_by worker round.events)

-- all workers of a round, in rising number
abbrev pub workers_of : Table → Round → List Local
workers_of table round = map (worker_of table round) (range_with_len 0 round.workers)

-- ---- what the calls ask of the machine

-- the names that acts name are the machine's
abbrev pub IsNamedAct : Table → Act → Type 0
IsNamedAct table (act.Alloc place object) = place < length table.kept
IsNamedAct table (act.Trim place) = place < length table.kept
IsNamedAct table _ = ⊤

abbrev pub IsNamedEvent : Table → Event → Type 0
IsNamedEvent table event = IsNamedAct table event.act
