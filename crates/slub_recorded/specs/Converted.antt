-- What a conversion promises.
use Rattle.std.specs.Prelude.{◌≡◌, ℕ, ◌+◌, ◌<◌, ◌≤◌, ◌⊎◌, ⊤, min, max, unwrap_or, false, List, [], ◌++◌, length, All, Contains, Option, map, position, flat_map}
use Rattle.std.specs.Str.{bytes_eq}
use Rattle.slub_recording.specs.declared.recording.Recording.{Recording}
use Rattle.slub_recorded.specs.declared.convert.ConvertFault.{ConvertFault}
use Rattle.slub_recorded.specs.declared.convert.ConvertFault.TheVariants.{NoMemory, TooManyCpus, NoSuchGroup, TooManyObjects, TooLong}
use Rattle.slub_recorded.specs.declared.convert.Options.{Options}
use Rattle.slub_recorded.specs.declared.groups.Cache.{Cache}
use Rattle.slub_recorded.specs.declared.naming.Title.{Title}
use Rattle.slub_recorded.specs.declared.rounds.Step.{Step}
use Rattle.slub_recorded.specs.declared.text.Row.{Row}
use Rattle.slub_recorded.specs.declared.told.Note.{Note}
use Rattle.slub_recorded.specs.declared.tunes.Tune.{Tune}
use Rattle.slub_recorded.specs.declared.turns.Turn.{Turn}
use Rattle.slub_recorded.specs.Caches.{caches_of}
use Rattle.slub_recorded.specs.Comments.{IsNote}
use Rattle.slub_recorded.specs.Groups.{AreApart}
use Rattle.slub_recorded.specs.Lines.{IsRow, IsTraceOf, trace_lines}
use Rattle.slub_recorded.specs.Members.{AreGrouped, Member, count_groups, in_group, in_none, row_for, unlettered_row}
use Rattle.slub_recorded.specs.Naming.{titles_of}
use Rattle.slub_recorded.specs.Pairing.{seen}
use Rattle.slub_recorded.specs.Rounds.{AreHeld, count_workers, steps_of, turns_in}
use Rattle.slub_recorded.specs.Text.{body_text}
use Rattle.slub_recorded.specs.Told.{IsOfLeft, Tells, left_note, note_text}
use Rattle.slub_recorded.specs.Tunes.{head_text}
use Rattle.slub_recorded.specs.Turns.{AreNext, count_kept, turns_of}

-- the text of a trace, whose comments are comments
pub record IsTraceText (notes : List Note) (cpus : ℕ) (rows : List Row) (tunes : List Tune)
    (workers : ℕ) (steps : List Step) (text : List ℕ) : Type 0 where
  pub text_is : text
      ≡ head_text tunes ++ flat_map note_text notes ++ body_text cpus rows tunes workers steps
  pub notes_are : All IsNote notes

-- the number of a setting has its range
abbrev pub IsTune : Tune → Type 0
IsTune tune = tune.number ≤ 4096

-- the place of the cache that has a title's name
abbrev pub place_of : List Row → Title → Option ℕ
place_of rows title = position (λ row. bytes_eq title.name row.name) rows

-- the titles of a recording's objects
abbrev pub titles : Recording → List Title
titles recording =
    titles_of recording.names.keys (seen recording.events).objects (seen recording.events).moves

-- its caches
abbrev pub caches : Recording → List Cache
caches recording =
    caches_of (titles recording) (seen recording.events).objects (seen recording.events).moves

-- the CPUs of a trace: those asked for, else all that the recording tells of or has events of
abbrev pub cpus_asked : Recording → Options → ℕ
cpus_asked recording options = unwrap_or options.cpus
    (max (unwrap_or recording.told_cpus 1) (min (recording.greatest_cpu + 1) 4294967295))

-- what a trace of these places does, without rounds
abbrev pub turns_by : Recording → List (Option ℕ) → ℕ → List Turn
turns_by recording places cpus = turns_of places cpus (seen recording.events).moves

-- the groups of a recording's caches: the one that is asked for is among them, and these are all
-- caches of that, in their order
pub record AreChosen (recording : Recording) (options : Options) (cpus : ℕ)
    (members : List Member) (rows : List Row) : Type 0 where
  pub grouped : AreGrouped cpus (caches recording) members
  pub group : 1 ≤ options.group
  pub few : options.group ≤ count_groups members
  pub shown : map unlettered_row rows ≡ map row_for (in_group options.group members)

-- the caches of a trace are those of the group that is asked for, and each cache of the recording
-- that is in no group is told, and no other
pub record AreShown (recording : Recording) (options : Options) (cpus : ℕ) (rows : List Row)
    (notes : List Note) : Type 0 where
  pub members : List Member
  pub chosen : AreChosen recording options cpus members rows
  pub told_large : All (λ cache. Contains notes (left_note cache)) chosen.grouped.others
  pub told_beyond : All (λ need. Contains notes (left_note need.cache)) (in_none members)
  pub told_only : All
      (IsOfLeft (chosen.grouped.others ++ map (λ need. need.cache) (in_none members))) notes

-- ---- why there is no trace

-- the CPUs and the caches that a trace has, and by object the place of its cache where that is kept
pub record IsLaidOut (recording : Recording) (options : Options) (cpus : ℕ) (rows : List Row)
    (places : List (Option ℕ)) : Type 0 where
  pub cpus_are : cpus ≡ cpus_asked recording options
  pub some_cpu : 1 ≤ cpus
  pub few_cpus : cpus ≤ 16
  pub members : List Member
  pub chosen : AreChosen recording options cpus members rows
  pub named : places ≡ map (place_of rows) (titles recording)

-- the CPUs are some and few enough, but of the groups that the caches make, of which there are so
-- many, none has the number that is asked for
pub record IsNoGroup (recording : Recording) (options : Options) (group groups : ℕ)
    : Type 0 where
  pub some_cpu : 1 ≤ cpus_asked recording options
  pub few_cpus : cpus_asked recording options ≤ 16
  pub members : List Member
  pub grouped : AreGrouped (cpus_asked recording options) (caches recording) members
  pub groups_are : groups ≡ count_groups members
  pub group_is : group ≡ options.group
  pub none : (group ≡ 0) ⊎ (groups < group)

-- there is that group, but so many objects are kept, more than a trace has
pub record IsCrowded (recording : Recording) (options : Options) (objects : ℕ) : Type 0 where
  pub cpus : ℕ
  pub rows : List Row
  pub places : List (Option ℕ)
  pub laid : IsLaidOut recording options cpus rows places
  pub objects_are : objects ≡ count_kept places
  pub many : 1048576 < objects

-- the objects are few enough, and this is the text of the trace, however long, with these notes
pub record IsWritten (recording : Recording) (options : Options) (tunes : List Tune)
    (notes : List Note) (text : List ℕ) : Type 0 where
  pub cpus : ℕ
  pub rows : List Row
  pub places : List (Option ℕ)
  pub laid : IsLaidOut recording options cpus rows places
  pub few_objects : count_kept places ≤ 1048576
  pub few_caches : length rows ≤ 32
  pub lines : All IsRow rows
  pub apart : AreApart rows
  pub shown : AreShown recording options cpus rows notes
  pub told : Tells notes (seen recording.events).fates
  pub written : IsTraceText notes cpus rows tunes (count_workers options.workers cpus)
      (steps_of options (turns_by recording places cpus)) text

-- the text that the trace would have is so long, longer than a trace may be
pub record IsLong (recording : Recording) (options : Options) (tunes : List Tune) (bytes : ℕ)
    : Type 0 where
  pub notes : List Note
  pub text : List ℕ
  pub written : IsWritten recording options tunes notes text
  pub bytes_are : bytes ≡ length text
  pub long : 16777216 < bytes

-- there is a cause for a fault, which it tells, and none for those above it
abbrev pub IsFault : Recording → Options → List Tune → ConvertFault → Type 0
IsFault recording options tunes NoMemory = ⊤
IsFault recording options tunes (TooManyCpus cpus) =
    (cpus ≡ cpus_asked recording options) × ((cpus ≡ 0) ⊎ (16 < cpus))
IsFault recording options tunes (NoSuchGroup group groups) =
    IsNoGroup recording options group groups
IsFault recording options tunes (TooManyObjects objects) = IsCrowded recording options objects
IsFault recording options tunes (TooLong bytes) = IsLong recording options tunes bytes

-- ---- a trace

-- the bytes are a trace of the settings in which the allocations and frees of kept objects stand in
-- recorded order, each on its CPU, and nothing else
pub record IsConverted (recording : Recording) (options : Options) (tunes : List Tune)
    (notes : List Note) (text : List ℕ) : Type 0 where
  -- the CPUs of the trace, its caches, by object the place of its cache where that is kept, and what
  -- stands in its rounds
  pub cpus : ℕ
  pub rows : List Row
  pub places : List (Option ℕ)
  pub steps : List Step
  -- an object is kept where a cache has the name of its title, and is of that cache: the first of
  -- that name
  pub named : places ≡ map (place_of rows) (titles recording)
  pub cpus_are : cpus ≡ cpus_asked recording options
  pub some_cpu : 1 ≤ cpus
  pub few_cpus : cpus ≤ 16
  pub few_caches : length rows ≤ 32
  pub few_objects : count_kept places ≤ 1048576
  -- they are those of the group that is asked for
  pub shown : AreShown recording options cpus rows notes
  -- at most two caches of a slot, of which the second has the letter R
  pub apart : AreApart rows
  -- each object is allocated under the next number, and freed at most once, after it
  pub next : AreNext (λ _. false) 0 (turns_by recording places cpus)
  -- each turn is in the round, and of the worker, that the options say
  pub cut : steps ≡ steps_of options (turns_by recording places cpus)
  -- these are all turns in their order, and no worker frees what another one got in the same round
  pub done : turns_in steps ≡ turns_by recording places cpus
  pub held : AreHeld [] steps
  pub spells : IsTraceOf text
      (trace_lines (length notes) cpus rows tunes (count_workers options.workers cpus) steps)
  -- what became of each event is told
  pub told : Tells notes (seen recording.events).fates
