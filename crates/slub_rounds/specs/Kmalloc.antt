-- What `kmalloc`, `kget` and `krealloc` are answered, and what they leave.
use Rattle.std.specs.Prelude.{◌≡◌, ℕ, ◌⊎◌, ◌&&◌, ◌==◌, not, Bool, false, true, nat_le, List, [], ◌∷◌, ◌++◌, Option, None, Some, Result, Ok, Err, MatchOption, slice_index_or, ⊤}
use Rattle.std.specs.Bool.{MatchBool}
use Rattle.std.specs.List.{list_any, position, range_with_len}
use Rattle.std.specs.Option.{option_map, option_map_or}
use Rattle.std.specs.Str.{bytes_eq}
use Rattle.slub_trace.specs.declared.event.Act.TheVariants.{Alloc, Free}
use Rattle.slub_object_layout.specs.Layout.{is_checked}
use Rattle.slub_object_layout.specs.declared.layout.Spec.{Spec}
use Rattle.slub_trace.specs.declared.create.Created.{Created}
use Rattle.slub_trace.specs.declared.create.Created.TheVariants.{New}
use Rattle.slub_trace.specs.declared.create.CreateRefusal.{CreateRefusal}
use Rattle.slub_trace.specs.declared.reply.Reply.{Reply}
use Rattle.slub_cache_create.specs.Table.{number_of}
use Rattle.slub_lists.specs.declared.lists.Held.{Held}
use Rattle.slub_lists.specs.State.{State}
use Rattle.slub_lists.specs.Alloc.{cache_of}
use Rattle.slub_lists.specs.Coherent.{IsCoherent, held_under}
use Rattle.slub_trace.specs.declared.trace.Client.{Client as Asked}
use Rattle.slub_trace.specs.declared.trace.Client.TheVariants as line
use Rattle.slub_trace.specs.declared.trace.Trace.{Trace}
use Rattle.slub_trace.specs.Classes.{class_names}
use Rattle.slub_slabinfo_text.specs.declared.client.CacheRefusal.{CacheRefusal}
use Rattle.slub_slabinfo_text.specs.declared.client.CacheRefusal.TheVariants as why
use Rattle.slub_slabinfo_text.specs.declared.client.ClientAnswer.{ClientAnswer}
use Rattle.slub_slabinfo_text.specs.declared.client.ClientAnswer.TheVariants as answer
use Rattle.slub_slabinfo_text.specs.declared.client.ClientDone.{ClientDone}
use Rattle.slub_slabinfo_text.specs.declared.client.ClientRound.{ClientRound}
use Rattle.slub_slabinfo_text.specs.Asked.{Tells}
use Rattle.slub_slabinfo_text.specs.Classes.{class_place, class_spec}
use Rattle.slub_slabinfo_text.specs.Lawful.{CreatesName}
use Rattle.slub_open_close.specs.Growth.{with_first}
use Rattle.slub_rounds.specs.Heap.{HeapState}
use Rattle.slub_rounds.specs.Asked.{AnswersAtOnce, DoesAsked, SpendsAsked}

-- the name of the class at a place
abbrev pub class_name : ℕ → List ℕ
class_name class = slice_index_or class_names class []

-- ---- `kmalloc` (`create_kmalloc_caches`)

-- the cache that a creation made
abbrev pub cache_made : Result Created CreateRefusal → Option ℕ
cache_made (Ok (New cache)) = Some cache
cache_made _ = None

-- the CPU words of a new cache begin at their first ids (`init_tid`)
abbrev pub ids_made : Trace → State → Result Created CreateRefusal → List ℕ → List ℕ
ids_made trace s made ids =
    option_map_or (λ cache. with_first trace.tid s.cpus cache ids) (cache_made made) ids

-- a name is created as a `cache` line creates one
pub record CreatesFor (h : HeapState) (trace : Trace) (name : List ℕ) (spec : Spec)
    (made : Result Created CreateRefusal) (after : HeapState) : Type 0 where
  pub creates : CreatesName h.lists name spec made after.lists
  pub ids : after.ids ≡ option_map (ids_made trace h.lists made) h.ids
  pub coherent : IsCoherent after.lists

-- the caches of these classes are, one after the other
abbrev pub CreatesClasses
    : HeapState → Trace → List ℕ → List (Result Created CreateRefusal) → HeapState → Type 0
CreatesClasses h trace [] [] after = after ≡ h
CreatesClasses h trace (class ∷ classes) (made ∷ answers) after =
    (mid : HeapState) × CreatesFor h trace (class_name class) (class_spec class) made mid
    × CreatesClasses mid trace classes answers after
CreatesClasses h trace _ _ after = ⊥

-- all thirteen are, in rising order
abbrev pub ServesKmalloc : HeapState → Trace → ClientDone → HeapState → Type 0
ServesKmalloc h trace done after =
    (answers : List (Result Created CreateRefusal)) × (done.rounds ≡ [])
    × (done.answer ≡ answer.Created answers)
    × CreatesClasses h trace (range_with_len 0 13) answers after

-- ---- one allocation

-- the place of a class's name among those of the trace
abbrev pub place_of_class : Trace → ℕ → Option ℕ
place_of_class trace class = position (bytes_eq (class_name class)) trace.names

-- one allocation on a CPU from the cache that the class's name names now: the address, or why the
-- cache gave none; a name that the trace doesn't have names none
abbrev pub TakesOfClass : HeapState → Trace → ℕ → ℕ → ℕ → List ClientRound
    → Result ℕ CacheRefusal → HeapState → Type 0
TakesOfClass h trace cpu class object rounds told after =
    MatchOption (place_of_class trace class)
    ((rounds ≡ []) × (told ≡ Err why.NoSuchCache) × (after ≡ h))
    (λ place. (round : ClientRound) × (reply : Reply) × (rounds ≡ round ∷ [])
    × DoesAsked h cpu (Alloc place object ∷ []) round after
    × (round.result.replies ≡ reply ∷ []) × Tells reply told)

-- ---- `kget` (`kmalloc`)

abbrev pub given_answer : Result ℕ CacheRefusal → ClientAnswer
given_answer (Ok address) = answer.Given address
given_answer (Err why) = answer.Refused why

abbrev pub ServesKget : HeapState → Trace → ℕ → ℕ → ℕ → ClientDone → HeapState → Type 0
ServesKget h trace cpu size object done after =
    MatchOption (class_place size) (AnswersAtOnce h answer.TooLarge done after)
    (λ class. (told : Result ℕ CacheRefusal)
    × TakesOfClass h trace cpu class object done.rounds told after
    × (done.answer ≡ given_answer told))

-- ---- `krealloc`

-- a name names this cache
abbrev pub names_cache : State → ℕ → List ℕ → Bool
names_cache s cache name =
    option_map_or (λ number. number == cache) (number_of s.table name) false

-- a class's name names this live cache, which isn't checked
abbrev pub is_kmalloc : State → ℕ → Bool
is_kmalloc s cache =
    option_map_or (λ live. not (is_checked live.flags)) (cache_of s cache) false
    && list_any (names_cache s cache) class_names

-- an object of the cache is large enough
abbrev pub is_enough : State → ℕ → ℕ → Bool
is_enough s cache size =
    option_map_or (λ live. nat_le size live.layout.object_size) (cache_of s cache) false

-- where a fresh object was given the other one is freed, by a second round
abbrev pub MovesOn : HeapState → ℕ → ℕ → Result ℕ CacheRefusal → List ClientRound → ClientDone
    → HeapState → Type 0
MovesOn h cpu object (Ok address) first done after =
    (second : ClientRound) × DoesAsked h cpu (Free object ∷ []) second after
    × (done.rounds ≡ first ++ second ∷ []) × (done.answer ≡ answer.Moved address)
MovesOn h cpu object (Err why) first done after =
    (done.rounds ≡ first) × (done.answer ≡ answer.Refused why) × (after ≡ h)

-- a fresh object is taken, and then the other one freed; or neither
abbrev pub Moves : HeapState → Trace → ℕ → ℕ → ℕ → ℕ → ClientDone → HeapState → Type 0
Moves h trace cpu class object fresh done after =
    (told : Result ℕ CacheRefusal) × (first : List ClientRound) × (mid : HeapState)
    × TakesOfClass h trace cpu class fresh first told mid
    × MovesOn mid cpu object told first done after

-- for an object of this cache
abbrev pub ServesHeld : HeapState → Trace → ℕ → ℕ → ℕ → ℕ → ℕ → ClientDone → HeapState → Type 0
ServesHeld h trace cpu object size fresh cache done after =
    MatchBool (is_kmalloc h.lists cache)
    (MatchOption (class_place size) (AnswersAtOnce h answer.TooLarge done after)
    (λ class. MatchBool (is_enough h.lists cache size) (AnswersAtOnce h answer.Stays done after)
    (Moves h trace cpu class object fresh done after)))
    (AnswersAtOnce h answer.NotKmalloc done after)

abbrev pub ServesKrealloc : HeapState → Trace → ℕ → ℕ → ℕ → ℕ → ClientDone → HeapState → Type 0
ServesKrealloc h trace cpu object size fresh done after =
    MatchOption (held_under h.lists object) (AnswersAtOnce h answer.NotHeld done after)
    (λ held. ServesHeld h trace cpu object size fresh held.cache done after)

-- ---- all three

-- a line of this request
abbrev pub IsKmallocLine : Asked → Type 0
IsKmallocLine line.Kmalloc = ⊤
IsKmallocLine (line.Kget cpu size object) = ⊤
IsKmallocLine (line.Krealloc cpu object size fresh) = ⊤
IsKmallocLine _ = ⊥

abbrev pub ServesClasses : HeapState → Trace → Asked → ClientDone → HeapState → Type 0
ServesClasses h trace line.Kmalloc done after = ServesKmalloc h trace done after
ServesClasses h trace (line.Kget cpu size object) done after =
    ServesKget h trace cpu size object done after
ServesClasses h trace (line.Krealloc cpu object size fresh) done after =
    ServesKrealloc h trace cpu object size fresh done after
ServesClasses h trace _ done after = ⊥

-- ---- turns that are spent

-- the one allocation from the cache that the class's name names now spends them
abbrev pub SpendsOfClass : HeapState → Trace → ℕ → ℕ → ℕ → Type 0
SpendsOfClass h trace cpu class object =
    (place : ℕ) × (place_of_class trace class ≡ Some place)
    × SpendsAsked h cpu (Alloc place object ∷ [])

abbrev pub SpendsKget : HeapState → Trace → ℕ → ℕ → ℕ → Type 0
SpendsKget h trace cpu size object =
    (class : ℕ) × (class_place size ≡ Some class) × SpendsOfClass h trace cpu class object

-- the allocation of the fresh object spends them; or it was given, and the free of the other one
-- spends them
abbrev pub SpendsMove : HeapState → Trace → ℕ → ℕ → ℕ → ℕ → Type 0
SpendsMove h trace cpu class object fresh =
    SpendsOfClass h trace cpu class fresh
    ⊎ ((address : ℕ) × (first : List ClientRound) × (mid : HeapState)
    × TakesOfClass h trace cpu class fresh first (Ok address) mid
    × SpendsAsked mid cpu (Free object ∷ []))

-- objects of the cache are kmalloc's, and too small for a size, which is one of this class
pub record Outgrows (s : State) (cache size class : ℕ) : Type 0 where
  pub kmalloc : is_kmalloc s cache ≡ true
  pub fits : class_place size ≡ Some class
  pub small : is_enough s cache size ≡ false

-- for an object of this cache
abbrev pub SpendsHeld : HeapState → Trace → ℕ → ℕ → ℕ → ℕ → ℕ → Type 0
SpendsHeld h trace cpu object size fresh cache =
    (class : ℕ) × Outgrows h.lists cache size class × SpendsMove h trace cpu class object fresh

abbrev pub SpendsKrealloc : HeapState → Trace → ℕ → ℕ → ℕ → ℕ → Type 0
SpendsKrealloc h trace cpu object size fresh =
    (held : Held) × (held_under h.lists object ≡ Some held)
    × SpendsHeld h trace cpu object size fresh held.cache

-- a round that the line makes; a `kmalloc` makes none
abbrev pub SpendsClasses : HeapState → Trace → Asked → Type 0
SpendsClasses h trace (line.Kget cpu size object) = SpendsKget h trace cpu size object
SpendsClasses h trace (line.Krealloc cpu object size fresh) =
    SpendsKrealloc h trace cpu object size fresh
SpendsClasses h trace _ = ⊥
