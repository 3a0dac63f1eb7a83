-- What is told of a conversion, in comments.
use Rattle.std.specs.Prelude.{◌≡◌, ℕ, ◌+◌, ◌==◌, List, [], ◌∷◌, ◌++◌, codes, count_by, All, Contains, ⊤}
use Rattle.std.specs.Fmt.{decimal}
use Rattle.slub_recorded.specs.declared.groups.Cache.{Cache}
use Rattle.slub_recorded.specs.declared.pairing.Fate.{Fate}
use Rattle.slub_recorded.specs.declared.pairing.Fate.TheVariants as fate
use Rattle.slub_recorded.specs.declared.told.About.{About}
use Rattle.slub_recorded.specs.declared.told.About.TheVariants.{UnknownFrees, Letter, LeftOutCache}
use Rattle.slub_recorded.specs.declared.told.Note.{Note}
use Rattle.slub_recorded.specs.declared.told.Note.TheVariants.{Count, Of}
use Rattle.slub_recorded.specs.declared.told.Word.{Word}
use Rattle.slub_recorded.specs.declared.told.Word.TheVariants.{Given, Overwritten, Lost, Back, Others, ByKmalloc, ByFree, BySite, BySizes, Failed, PagesGiven, Freed, OfNothing, PagesFreed, CacheUnknown, Unknown, PutIn, Live, KeptMoves, Moves, KeptCaches, Caches, LeftOut, Group, Groups, Cpus, CacheAllocs, Kmallocs, CacheFrees, Kfrees, Rounds, ByHolder, NoCache}

-- what is counted, in words
abbrev pub word_text : Word → List ℕ
word_text Given = codes "allocations of objects"
word_text Overwritten = codes "events overwritten before the text begins"
word_text Lost = codes "events lost within"
word_text Back = codes "events whose time goes back"
word_text Others = codes "other events"
word_text ByKmalloc = codes "allocations named by kmalloc size"
word_text ByFree = codes "allocations named by their free"
word_text BySite = codes "allocations named by their call site"
word_text BySizes = codes "allocations of unknown name, called slab-REQ-SLOT"
word_text Failed = codes "allocations that failed"
word_text PagesGiven = codes "kmalloc of whole pages"
word_text Freed = codes "frees matched"
word_text OfNothing = codes "frees of nothing"
word_text PagesFreed = codes "frees of whole pages"
word_text CacheUnknown =
    codes "kmem_cache_free of a pointer that was not allocated in the recording"
word_text Unknown = codes "kfree of a pointer that was not allocated in the recording"
word_text PutIn =
    codes "frees that were not recorded, put before the next allocation of the pointer"
word_text Live = codes "objects live at the end of the recording"
word_text KeptMoves = codes "events kept here"
word_text Moves = codes "events of objects"
word_text KeptCaches = codes "caches kept here"
word_text Caches = codes "caches"
word_text LeftOut = codes "caches that fit in no group, left out"
word_text Group = codes "group"
word_text Groups = codes "groups"
word_text Cpus = codes "CPUs, and CPU c is c modulo this"
word_text CacheAllocs = codes "kmem_cache_alloc"
word_text Kmallocs = codes "kmalloc"
word_text CacheFrees = codes "kmem_cache_free"
word_text Kfrees = codes "kfree"
word_text Rounds = codes "rounds"
word_text ByHolder =
    codes "frees made by the worker that held the object, on the CPU that freed"
word_text NoCache = codes "settings of no cache that is here"

-- what is told of a cache, in words
abbrev pub about_text : About → List ℕ
about_text UnknownFrees = codes "frees of pointers that were not allocated in the recording, "
about_text Letter = codes "slot of a cache whose R only keeps it from merging with another, "
about_text LeftOutCache = codes "objects of a cache that fits in no group, "

-- a cache that fits in no group is told, with how many objects it has
abbrev pub left_note : Cache → Note
left_note cache = Of LeftOutCache cache.name cache.objects

-- where this is told of a cache that fits in no group, one of these is meant
abbrev pub IsMeant : List Cache → About → List ℕ → ℕ → Type 0
IsMeant caches UnknownFrees name number = ⊤
IsMeant caches Letter name number = ⊤
IsMeant caches LeftOutCache name number =
    (cache : Cache) × Contains caches cache × (cache.name ≡ name) × (cache.objects ≡ number)

-- so it is of a note: no other cache is told as one that fits in no group
abbrev pub IsOfLeft : List Cache → Note → Type 0
IsOfLeft caches (Count word number) = ⊤
IsOfLeft caches (Of about name number) = IsMeant caches about name number

-- the note tells of no single cache
abbrev pub IsCount : Note → Type 0
IsCount (Count word number) = ⊤
IsCount (Of about name number) = ⊥

-- a comment without its line feed
abbrev pub note_words : Note → List ℕ
note_words (Count word number) = codes "# " ++ word_text word ++ codes ": " ++ decimal number
note_words (Of about name number) =
    codes "# " ++ about_text about ++ name ++ codes ": " ++ decimal number

-- the number that a comment tells
abbrev pub number_of : Note → ℕ
number_of (Count word number) = number
number_of (Of about name number) = number

abbrev pub note_text : Note → List ℕ
note_text note = note_words note ++ 10 ∷ []

-- fates, told apart by numbers
abbrev pub fate_code : Fate → ℕ
fate_code fate.Given = 0
fate_code fate.Failed = 1
fate_code fate.PagesGiven = 2
fate_code fate.Freed = 3
fate_code fate.OfNothing = 4
fate_code fate.PagesFreed = 5
fate_code fate.CacheUnknown = 6
fate_code fate.Unknown = 7

-- how many of these fates are this one
abbrev pub count_fate : List Fate → Fate → ℕ
count_fate fates fate = count_by (λ other. fate_code other == fate_code fate) fates

-- how many events had this fate, told in these words
abbrev pub fate_note : List Fate → Word → Fate → Note
fate_note fates word fate = Count word (count_fate fates fate)

-- what became of events: each is counted once
abbrev pub fate_notes : List Fate → List Note
fate_notes fates =
    fate_note fates Given fate.Given ∷ fate_note fates Failed fate.Failed
    ∷ fate_note fates PagesGiven fate.PagesGiven ∷ fate_note fates Freed fate.Freed
    ∷ fate_note fates OfNothing fate.OfNothing ∷ fate_note fates PagesFreed fate.PagesFreed
    ∷ fate_note fates CacheUnknown fate.CacheUnknown ∷ fate_note fates Unknown fate.Unknown ∷ []

-- the fates of all events are told first, and then more
abbrev pub Tells : List Note → List Fate → Type 0
Tells notes fates = (more : List Note) × (notes ≡ fate_notes fates ++ more)

-- these are told last, behind numbers that are of no single cache
abbrev pub EndsIn : List Note → List Note → Type 0
EndsIn notes listed = (front : List Note) × (notes ≡ front ++ listed) × All IsCount front

-- the sum of what notes tell
abbrev pub sum_told : List Note → ℕ
sum_told [] = 0
sum_told (note ∷ notes) = number_of note + sum_told notes
