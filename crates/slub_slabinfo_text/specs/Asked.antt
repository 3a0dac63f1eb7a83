-- The rounds that clients of the allocator ask, and what they are told.
use Rattle.std.specs.Prelude.{◌≡◌, ℕ, List, map, Option, None, Some, Result, Ok, Err, slice_get}
use Rattle.std.specs.List.{filter_map}
use Rattle.slub_trace.specs.declared.event.Act.{Act}
use Rattle.slub_trace.specs.declared.event.Act.TheVariants.{Free}
use Rattle.slub_trace.specs.declared.event.Event.{Event}
use Rattle.slub_trace.specs.declared.event.Round.{Round}
use Rattle.slub_trace.specs.declared.reply.Reply.{Reply}
use Rattle.slub_trace.specs.declared.reply.Reply.TheVariants as reply
use Rattle.slub_slabinfo_text.specs.declared.client.CacheRefusal.{CacheRefusal}
use Rattle.slub_slabinfo_text.specs.declared.client.CacheRefusal.TheVariants as why

-- an act of worker 0 on a CPU, of no line
abbrev pub event_of : ℕ → Act → Event
event_of cpu act = record { line = 0; worker = 0; cpu = cpu; act = act }

-- the round of one worker that does these acts on one CPU, in their order
abbrev pub round_of : ℕ → List Act → Round
round_of cpu acts = record { workers = 1; events = map (event_of cpu) acts }

-- the frees of these numbers
abbrev pub frees_of : List ℕ → List Act
frees_of numbers = map Free numbers

-- why a cache gave no object, by an allocation's reply
abbrev pub refusal_of : Reply → Option CacheRefusal
refusal_of reply.NoFrames = Some why.NoFrames
refusal_of (reply.IdsSpent tid) = Some (why.IdsSpent tid)
refusal_of reply.NoSuchCache = Some why.NoSuchCache
refusal_of _ = None

-- the first such reply's
abbrev pub first_refusal : List Reply → Option CacheRefusal
first_refusal replies = slice_get (filter_map refusal_of replies) 0

-- the address that an allocation's reply gives, or why the cache gave none
abbrev pub Tells : Reply → Result ℕ CacheRefusal → Type 0
Tells told (Ok address) = told ≡ reply.Given address
Tells told (Err why) = refusal_of told ≡ Some why
