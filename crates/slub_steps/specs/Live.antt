-- The live names, each with the number of its cache, in the order in which they were made.
use Rattle.std.specs.Prelude.{ℕ, ◌+◌, List, [], ◌∷◌, ◌++◌, Option, Some, None, Result, Ok, slice_get}
use Rattle.std.specs.List.{fold, zip}
use Rattle.std.specs.Map.{remove_entry}
use Rattle.std.specs.Str.{bytes_eq}
use Rattle.slub_trace.specs.Classes.{class_names}
use Rattle.slub_trace.specs.declared.create.Created.{Created}
use Rattle.slub_trace.specs.declared.create.Created.TheVariants.{New, Merged}
use Rattle.slub_trace.specs.declared.create.CreateRefusal.{CreateRefusal}
use Rattle.slub_trace.specs.declared.trace.Item.{Item}
use Rattle.slub_trace.specs.declared.trace.Item.TheVariants as item
use Rattle.slub_trace.specs.declared.trace.Trace.{Trace}
use Rattle.slub_slabinfo_text.specs.declared.client.ClientAnswer.{ClientAnswer}
use Rattle.slub_slabinfo_text.specs.declared.client.ClientAnswer.TheVariants as answer
use Rattle.slub_slabinfo_text.specs.declared.journal.Done.{Done}
use Rattle.slub_slabinfo_text.specs.declared.journal.Done.TheVariants as done

-- a name with the number of its cache
abbrev pub Named : Type 0
Named = List ℕ × ℕ

-- behind a creation under a name
abbrev pub live_created
    : List Named → Option (List ℕ) → Result Created CreateRefusal → List Named
live_created live (Some name) (Ok (New cache)) = live ++ (name, cache) ∷ []
live_created live (Some name) (Ok (Merged cache title)) = live ++ (name, cache) ∷ []
live_created live _ _ = live

-- behind the destruction of a name
abbrev pub live_destroyed : List Named → Option (List ℕ) → List Named
live_destroyed live None = live
live_destroyed live (Some name) = remove_entry (bytes_eq name) live

-- behind a creation under a name that is there
abbrev pub live_next : List Named → List ℕ × Result Created CreateRefusal → List Named
live_next live one = live_created live (Some one.0) one.1

-- behind creations under these names, as far as they were answered
abbrev pub live_all
    : List Named → List (List ℕ) → List (Result Created CreateRefusal) → List Named
live_all live names answers = fold live_next live (zip names answers)

-- behind a client's line: `kmalloc` creates the caches of the classes
abbrev pub live_served : List Named → ClientAnswer → List Named
live_served live (answer.Created answers) = live_all live class_names answers
live_served live _ = live

-- behind an item that was answered so
abbrev pub live_after : Trace → List Named → Item → Done → List Named
live_after trace live (item.Cache name spec) (done.Created created) =
    live_created live (slice_get trace.names name) created
live_after trace live (item.Destroy name) (done.Destroyed (Ok destroyed)) =
    live_destroyed live (slice_get trace.names name)
live_after trace live (item.Client client) (done.Client outcome) =
    live_served live outcome.answer
live_after trace live _ _ = live

-- behind the item at a place of the trace, if there is one
abbrev pub live_past : Trace → List Named → Option Item → Done → List Named
live_past trace live None answered = live
live_past trace live (Some item) answered = live_after trace live item answered

-- behind the items from this number on that were answered so
abbrev pub live_behind : Trace → ℕ → List Named → List Done → List Named
live_behind trace number live [] = live
live_behind trace number live (answered ∷ more) =
    live_behind trace (number + 1)
    (live_past trace live (slice_get trace.items number) answered) more
