-- What a run promises: the table of statuses, the text, the law.
use Rattle.std.specs.Prelude.{◌+◌, ◌≤◌, ◌≡◌, ◌≢◌, ℕ, ◌-◌, ◌↔◌, ◌⊎◌, List, [], ◌∷◌, ◌++◌, length, take, All, Bool, true, false, ◌||◌, not, cond, Option, Some, None, IfSome, IsSome, IsSomeAnd, Result, Ok, Err, codes, ⊤}
use Rattle.std.specs.List.{list_any, zip}
use Rattle.std.specs.Fmt.{decimal}
use Rattle.std.specs.Io.KnownBytes.{Appends, IsAtEnd}
use Rattle.slub_edges.specs.Edges.{Rose, AppendsFront}
use Rattle.slub_object_layout.specs.declared.layout.Layout.{Layout as SlabLayout}
use Rattle.slub_object_layout.specs.declared.layout.LayoutRefusal.{LayoutRefusal}
use Rattle.slub_object_layout.specs.declared.layout.LayoutRefusal.TheVariants as refused
use Rattle.slub_object_layout.specs.declared.layout.Spec.{Spec}
use Rattle.slub_object_layout.specs.Layout.{IsAccepted, IsAlign, IsLayout, IsSize, IsSupported}
use Rattle.slub_command.specs.declared.command.Command.{Command}
use Rattle.slub_command.specs.declared.command.Command.TheVariants.{Replay, Layout, Load}
use Rattle.slub_command.specs.declared.command.How.{How}
use Rattle.slub_command.specs.declared.command.How.TheVariants as hows
use Rattle.slub_command.specs.Command.{IsCommand}
use Rattle.slub_slabinfo_text.specs.Texts.{layout_lines}
use Rattle.slub_trace.specs.Kinds.{is_no_memory, is_ok_reply}
use Rattle.slub_trace.specs.declared.trace.Client.{Client as Asked}
use Rattle.slub_trace.specs.declared.trace.Item.{Item}
use Rattle.slub_trace.specs.declared.trace.Item.TheVariants as item
use Rattle.slub_trace.specs.declared.trace.Trace.{Trace}
use Rattle.slub_trace_reader.specs.Grammar.{IsTrace}
use Rattle.slub_trace_reader.specs.declared.reading.Why.{Why}
use Rattle.slub_trace_reader.specs.Faults.{why_text, fault_line, bad_line}
use Rattle.slub_trace_reader.specs.Reads.{IsBadIn, IsNoTrace, IsTooLong, Spells}
use Rattle.slub_trace.specs.Sound.{IsSound}
use Rattle.slub_slabinfo_text.specs.declared.client.ClientAnswer.{ClientAnswer}
use Rattle.slub_slabinfo_text.specs.declared.client.ClientAnswer.TheVariants as answer
use Rattle.slub_slabinfo_text.specs.declared.client.ClientDone.{ClientDone}
use Rattle.slub_slabinfo_text.specs.declared.client.ClientRound.{ClientRound}
use Rattle.slub_slabinfo_text.specs.declared.journal.Done.{Done}
use Rattle.slub_slabinfo_text.specs.declared.journal.Done.TheVariants as done
use Rattle.slub_slabinfo_text.specs.declared.journal.Found.{Found}
use Rattle.slub_slabinfo_text.specs.declared.journal.Total.{Total}
use Rattle.slub_slabinfo_text.specs.declared.journal.Journal.{Journal}
use Rattle.slub_slabinfo_text.specs.Journal.{IsEmpty}
use Rattle.slub_slabinfo_text.specs.ClientText.{is_ok_client}
use Rattle.slub_slabinfo_text.specs.Text.{text_of, items_text}
use Rattle.slub_law_replay.specs.Freed.{freed_times, given_times}
use Rattle.slub_law_replay.specs.Poked.{HasPokedDamages}
use Rattle.slub_law_replay.specs.Rounds.{HasRounds}
use Rattle.slub_items.specs.Lines.{HasLines}
use Rattle.slub_trace_reader.specs.Load.{load_of}
use Rattle.slub_law_replay.specs.declared.way.Way.{Way}
use Rattle.slub_law_replay.specs.declared.way.Way.TheVariants.{Serial, Schedule, Threads}
use Rattle.slub_law_replay.specs.Runs.{EndsSpent, IsLawful}
use Rattle.slub_law_replay.specs.Journals.{TellAsMuch}
use Rattle.slub_law_replay.specs.OneTextRounds.{IsFixed}
use Rattle.slub_cli.specs.declared.status.Status.{Status}
use Rattle.slub_cli.specs.declared.status.Status.TheVariants.{Fine, Refused, BadWords, BadTrace, ReadFault, WriteFault, NoMemory, TurnsSpent}
use Rattle.slub_cli.specs.declared.status.Outcome.{Outcome}

-- ---- the words

-- the words are no command
abbrev pub AreBadWords : List (List ℕ) → Type 0
AreBadWords words = (command : Command) → ¬ IsCommand words command

-- the command that was read of the words; none was read where they are none, or no memory was
-- there to read them
abbrev pub IsAsked : List (List ℕ) → Option Command → Type 0
IsAsked words None = ⊤
IsAsked words (Some command) = IsCommand words command

-- the words ask for a replay, with or without `--replies`
abbrev pub AsksReplay : List (List ℕ) → Type 0
AsksReplay words =
    (how : How) × (seed : ℕ) × (replies : Bool) × IsCommand words (Replay how seed replies)

-- how a replay does its rounds: in the order of the text, in turns that are drawn from the seed, or
-- by threads
abbrev pub way_of : How → ℕ → Way
way_of hows.Serial seed = Serial
way_of hows.Schedule seed = Schedule seed
way_of hows.Threads seed = Threads

-- the same of what was asked; a load is by schedule, and nothing else has rounds
abbrev pub way_asked : Option Command → Way
way_asked (Some (Replay how seed replies)) = way_of how seed
way_asked (Some (Load seed events workers)) = Schedule seed
way_asked _ = Serial

-- whether the lines are written that `--replies` asks for; of a load they aren't
abbrev pub replies_asked : Option Command → Bool
replies_asked (Some (Replay how seed replies)) = replies
replies_asked _ = false

-- ---- the replies

-- a reply of an item is that no memory was there
abbrev pub lacks_memory : Done → Bool
lacks_memory (done.Round result) = list_any is_no_memory result.replies
lacks_memory _ = false

abbrev pub is_err : {A : Type 0} → {E : Type 0} → Result A E → Bool
is_err (Ok x) = false
is_err (Err why) = true

abbrev pub is_some_found : List Found → Bool
is_some_found [] = false
is_some_found (found ∷ others) = true

-- a client's line was refused, or one of the creations of a `kmalloc`: it has a line that is always
-- written
abbrev pub is_refused_client : Asked → ClientAnswer → Bool
is_refused_client client (answer.Created answers) = list_any is_err answers
is_refused_client client answered = not (is_ok_client client answered)

-- something was found damaged in one of these rounds
abbrev pub has_damage : List ClientRound → Bool
has_damage rounds = list_any (λ round. is_some_found round.result.damages) rounds

-- a client's line was refused, or something was found damaged in its rounds; their replies don't
-- count
abbrev pub refuses_client : Item → ClientDone → Bool
refuses_client (item.Client client) outcome =
    is_refused_client client outcome.answer || has_damage outcome.rounds
refuses_client _ outcome = false

-- a creation, a shrink, a destruction, a tune or a client's line was refused, a reply isn't Ok, or
-- an object was found damaged
abbrev pub has_refused : Item → Done → Bool
has_refused item (done.Created answer) = is_err answer
has_refused item (done.Round result) =
    list_any (λ reply. not (is_ok_reply reply)) result.replies || is_some_found result.damages
has_refused item (done.Shrunk answer) = is_err answer
has_refused item (done.Destroyed answer) = is_err answer
has_refused item (done.Slabinfo rows) = false
has_refused item (done.Tuned answer) = is_err answer
has_refused item (done.Client outcome) = refuses_client item outcome

-- the items of the trace that was read or made, or none
abbrev pub items_in : Option Trace → List Item
items_in None = []
items_in (Some trace) = trace.items

-- one of the items was refused
abbrev pub is_refused : Option Trace → Journal → Bool
is_refused trace journal =
    list_any (λ one. has_refused one.0 one.1) (zip (items_in trace) journal.items)

-- the status of a run that did every item
abbrev pub done_status : Option Trace → Journal → Status
done_status trace journal =
    cond (list_any lacks_memory journal.items) NoMemory
    (cond (is_refused trace journal) Refused Fine)

-- the number with which the program ends
abbrev pub status_number : Status → ℕ
status_number Fine = 0
status_number Refused = 1
status_number BadWords = 2
status_number BadTrace = 3
status_number ReadFault = 4
status_number WriteFault = 5
status_number NoMemory = 6
status_number TurnsSpent = 7

-- ---- the call

-- what a call of `run` had, and what it left
pub record Call : Type 0 where
  pub words : List (List ℕ)
  -- the bytes that the source tells, before and after
  pub told : Option (List ℕ)
  pub left : Option (List ℕ)
  -- the bytes that the sink tells to have taken, before and after
  pub old : Option (List ℕ)
  pub new : Option (List ℕ)
  -- the counts of faults of the source and of the sink, before and after
  pub read : ℕ × ℕ
  pub write : ℕ × ℕ

-- ---- the text of a trace that was done

-- the text of the journal for the trace that was read or made
abbrev pub text_in : Bool → Option Trace → Journal → List ℕ
text_in replies None journal = []
text_in replies (Some trace) journal = text_of replies trace journal

-- where the text of the last entry begins: the total, where it is there, or else the last item
abbrev pub last_from : Bool → Trace → Option Total → List Done → ℕ
last_from replies trace None dones =
    length (items_text replies trace trace.items (take (length dones - 1) dones))
last_from replies trace (Some total) dones = length (items_text replies trace trace.items dones)

-- the same of a journal
unfoldable pub last_begins : Bool → Trace → Journal → ℕ
last_begins replies trace journal = last_from replies trace journal.total journal.items

-- the same where there is a trace
abbrev pub last_in : Bool → Option Trace → Journal → ℕ
last_in replies None journal = 0
last_in replies (Some trace) journal = last_begins replies trace journal

-- ---- the layout

-- why there is no layout for a spec: the first of the three causes
abbrev pub IsRefusal : Spec → LayoutRefusal → Type 0
IsRefusal spec refused.BadSize = ¬ IsSize spec.size
IsRefusal spec refused.BadAlign = IsSize spec.size × ¬ IsAlign spec.align
IsRefusal spec refused.BadFlags = IsSize spec.size × IsAlign spec.align × ¬ IsSupported spec.flags

-- the layout of a spec, or why there is none
abbrev pub IsLayoutAnswer : Spec → ℕ → Result SlabLayout LayoutRefusal → Type 0
IsLayoutAnswer spec cpus (Ok layout) = IsAccepted spec × IsLayout spec cpus layout
IsLayoutAnswer spec cpus (Err why) = IsRefusal spec why

-- the status with which such an answer is printed
abbrev pub answer_status : Result SlabLayout LayoutRefusal → Status
answer_status (Ok layout) = Fine
answer_status (Err why) = Refused

-- ---- the law

-- a source that told these bytes was read to its end, its bytes spell this trace and no other, the
-- trace is sound, and the journal is lawful for it and the way
pub record IsReplayOf (told left : Option (List ℕ)) (way : Way) (trace : Trace)
    (journal : Journal) : Type 0 where
  pub at_end : IsAtEnd left
  pub spelled : Spells told trace
  pub sound : IsSound trace
  pub lawful : IsLawful way trace journal

-- this trace is the load of the three numbers, it is sound, and the journal is lawful for it by
-- schedule, with turns that are drawn from the same seed
pub record IsLoadOf (seed events workers : ℕ) (trace : Trace) (journal : Journal) : Type 0 where
  pub made : trace ≡ load_of seed events workers
  pub sound : IsSound trace
  pub lawful : IsLawful (Schedule seed) trace journal

-- the journal is that of the trace that was read; where none was read, it is empty
abbrev pub IsReplayJournal : Call → Way → Option Trace → Journal → Type 0
IsReplayJournal c way None journal = IsEmpty journal
IsReplayJournal c way (Some trace) journal = IsReplayOf c.told c.left way trace journal

-- the journal is that of the trace that was made; where none was made, it is empty
abbrev pub IsLoadJournal : ℕ → ℕ → ℕ → Option Trace → Journal → Type 0
IsLoadJournal seed events workers None journal = IsEmpty journal
IsLoadJournal seed events workers (Some trace) journal = IsLoadOf seed events workers trace journal

-- nothing was replayed: there is no trace, and the journal is empty
abbrev pub HasNoTrace : Option Trace → Journal → Type 0
HasNoTrace trace journal = (trace ≡ None) × IsEmpty journal

-- the journal is that of what was asked
abbrev pub IsJournalOf : Call → Option Command → Option Trace → Journal → Type 0
IsJournalOf c None trace journal = HasNoTrace trace journal
IsJournalOf c (Some (Replay how seed replies)) trace journal =
    IsReplayJournal c (way_of how seed) trace journal
IsJournalOf c (Some (Layout spec cpus)) trace journal = HasNoTrace trace journal
IsJournalOf c (Some (Load seed events workers)) trace journal =
    IsLoadJournal seed events workers trace journal

-- what holds over all items of a trace that were done, since their journal is lawful
pub record HoldsOver (way : Way) (trace : Trace) (journal : Journal) : Type 0 where
  -- no object number is given twice, and none is freed more often than it was given: none twice
  pub given_once : (object : ℕ) → given_times object trace journal ≤ 1
  pub freed_once : (object : ℕ) →
      freed_times object trace journal ≤ given_times object trace journal
  -- what was given less what was freed is live
  pub balance : IfSome journal.total (λ total. total.given ≡ total.freed + total.live)
  -- along the machines by which the journal is lawful, each round is lawful by its events and
  -- replies alone, and a run of atomic steps, with the machine coherent before each and after the
  -- last; want of memory in a round in the order of the text aside
  pub rounds : HasRounds way trace journal
  -- along them each client's line leaves the board as its answer says, and no trim that is the last
  -- event of a round leaves an empty slab of a cache that isn't checked and of which nothing is used
  pub lines : HasLines way trace journal
  -- each damage that is told of was poked there, in the same round or before
  pub damages : HasPokedDamages trace journal

-- ---- the statuses

-- every item of a trace was done, and summed up
abbrev pub IsDone : Option Trace → Journal → Type 0
IsDone trace journal = IsSome trace × IsSome journal.total

-- the bytes were read to their end, and this is their first bad line and why it is bad
abbrev pub IsBadLine : Call → ℕ → Why → Type 0
IsBadLine c line why = IsAtEnd c.left × IsBadIn c.told line why

-- the bytes read are no trace, or there are too many
abbrev pub IsBadInput : Call → Type 0
IsBadInput c = ((line : ℕ) × (why : Why) × IsBadLine c line why) ⊎ IfSome c.told IsTooLong

-- want of memory ended the run, or is one of its replies
abbrev pub IsWant : Option Trace → Journal → Type 0
IsWant trace journal =
    (journal.total ≡ None) ⊎ (IsDone trace journal × (done_status trace journal ≡ NoMemory))

-- the item after the journal's last has made all turns of a round, and a worker is unfinished
abbrev pub SpendsNextRound : Way → Option Trace → Journal → Type 0
SpendsNextRound way trace journal =
    IsSomeAnd trace (λ trace. EndsSpent way trace journal) × (journal.total ≡ None)

-- the row of each status, for a load
abbrev pub IsLoadCause : Call → Way → Option Trace → Journal → Status → Type 0
IsLoadCause c way trace journal Fine = IsDone trace journal × (done_status trace journal ≡ Fine)
IsLoadCause c way trace journal Refused =
    IsDone trace journal × (done_status trace journal ≡ Refused)
IsLoadCause c way trace journal WriteFault = Rose c.write.0 c.write.1
IsLoadCause c way trace journal NoMemory = IsWant trace journal
IsLoadCause c way trace journal TurnsSpent = SpendsNextRound way trace journal
IsLoadCause c way trace journal _ = ⊥

-- the same for a replay, which reads its trace
abbrev pub IsReplayCause : Call → Way → Option Trace → Journal → Status → Type 0
IsReplayCause c way trace journal BadTrace = IsBadInput c × (trace ≡ None)
IsReplayCause c way trace journal ReadFault = Rose c.read.0 c.read.1 × (trace ≡ None)
IsReplayCause c way trace journal status = IsLoadCause c way trace journal status

-- the same for a layout
abbrev pub IsLayoutCause : Call → Spec → ℕ → Status → Type 0
IsLayoutCause c spec cpus Fine = (layout : SlabLayout) × IsLayoutAnswer spec cpus (Ok layout)
IsLayoutCause c spec cpus Refused = (why : LayoutRefusal) × IsLayoutAnswer spec cpus (Err why)
IsLayoutCause c spec cpus WriteFault = Rose c.write.0 c.write.1
IsLayoutCause c spec cpus NoMemory = ⊤
IsLayoutCause c spec cpus _ = ⊥

-- the same where no command was read: the words are none, or memory was wanting to read them
abbrev pub IsWordsCause : Call → Status → Type 0
IsWordsCause c BadWords = AreBadWords c.words
IsWordsCause c WriteFault = Rose c.write.0 c.write.1
IsWordsCause c NoMemory = ⊤
IsWordsCause c _ = ⊥

-- the same for what was asked
abbrev pub IsCauseOf : Call → Option Command → Option Trace → Journal → Status → Type 0
IsCauseOf c None trace journal status = IsWordsCause c status × (trace ≡ None)
IsCauseOf c (Some (Replay how seed replies)) trace journal status =
    IsReplayCause c (way_of how seed) trace journal status
IsCauseOf c (Some (Layout spec cpus)) trace journal status =
    IsLayoutCause c spec cpus status × (trace ≡ None)
IsCauseOf c (Some (Load seed events workers)) trace journal status =
    IsLoadCause c (Schedule seed) trace journal status

-- the source's count of faults rose at a read fault, and is else as it was
abbrev pub TellsReads : Call → Status → Type 0
TellsReads c ReadFault = Rose c.read.0 c.read.1
TellsReads c _ = c.read.1 ≡ c.read.0

-- ---- what is written

-- the line of bad input
abbrev pub IsBadInputLine : Call → List ℕ → Type 0
IsBadInputLine c line =
    ((number : ℕ) × (why : Why) × (line ≡ bad_line number why) × IsBadLine c number why)
    ⊎ ((line ≡ fault_line (codes "input too long")) × IfSome c.told IsTooLong)

-- the line after the text, where a run ended early with this status; a run that did everything has
-- none
abbrev pub IsFaultLine : Call → Journal → Status → List ℕ → Type 0
IsFaultLine c journal Fine line = line ≡ []
IsFaultLine c journal Refused line = line ≡ []
IsFaultLine c journal BadWords line = line ≡ fault_line (codes "bad command")
IsFaultLine c journal BadTrace line = IsBadInputLine c line
IsFaultLine c journal ReadFault line = line ≡ fault_line (codes "read fault")
IsFaultLine c journal NoMemory line =
    ((journal.total ≡ None) × (line ≡ fault_line (codes "out of memory")))
    ⊎ (IsSome journal.total × (line ≡ []))
IsFaultLine c journal TurnsSpent line = line ≡ fault_line (codes "turns spent")
IsFaultLine c journal _ line = ⊥

-- the text of a layout: none where no memory was there
abbrev pub IsLayoutText : Spec → ℕ → Status → List ℕ → Type 0
IsLayoutText spec cpus Fine text =
    (layout : SlabLayout) × IsLayoutAnswer spec cpus (Ok layout) × (text ≡ layout_lines (Ok layout))
IsLayoutText spec cpus Refused text =
    (why : LayoutRefusal) × IsLayoutAnswer spec cpus (Err why) × (text ≡ layout_lines (Err why))
IsLayoutText spec cpus NoMemory text = text ≡ []
IsLayoutText spec cpus _ text = ⊥

-- the text where no command was read: none, and no trace was read
abbrev pub IsWordsText : Option Trace → Status → List ℕ → Type 0
IsWordsText trace BadWords text = (text ≡ []) × (trace ≡ None)
IsWordsText trace NoMemory text = (text ≡ []) × (trace ≡ None)
IsWordsText trace _ text = ⊥

-- the text of what was asked, where it ended with this status; of a load it is that without
-- `--replies`
abbrev pub IsTextOf : Option Command → Option Trace → Journal → Status → List ℕ → Type 0
IsTextOf None trace journal status text = IsWordsText trace status text
IsTextOf (Some (Replay how seed replies)) trace journal status text =
    text ≡ text_in replies trace journal
IsTextOf (Some (Layout spec cpus)) trace journal status text = IsLayoutText spec cpus status text
IsTextOf (Some (Load seed events workers)) trace journal status text =
    text ≡ text_in false trace journal

-- no write failed: the text was taken, and after it the line of the status
pub record TookAll (c : Call) (asked : Option Command) (trace : Option Trace) (journal : Journal)
    (status : Status) : Type 0 where
  pub text : List ℕ
  pub line : List ℕ
  pub text_is : IsTextOf asked trace journal status text
  pub line_is : IsFaultLine c journal status line
  pub taken : Appends c.old c.new (text ++ line)
  pub reads : TellsReads c status
  pub writes : c.write.1 ≡ c.write.0

-- the front of a trace's text was taken that isn't the whole, past where the last entry begins
abbrev pub TookTextFront : Call → Bool → Option Trace → Journal → Type 0
TookTextFront c replies trace journal =
    IsSome trace
    × AppendsFront c.old c.new (last_in replies trace journal) (text_in replies trace journal)

-- the front of a text was taken that isn't the whole
abbrev pub TookFront : Call → Option Command → Option Trace → Journal → Type 0
TookFront c None trace journal = ⊥
TookFront c (Some (Replay how seed replies)) trace journal = TookTextFront c replies trace journal
TookFront c (Some (Layout spec cpus)) trace journal =
    (answer : Result SlabLayout LayoutRefusal) × IsLayoutAnswer spec cpus answer
    × AppendsFront c.old c.new 0 (layout_lines answer)
TookFront c (Some (Load seed events workers)) trace journal = TookTextFront c false trace journal

-- a write of the text failed, and no read
pub record TookEntry (c : Call) (asked : Option Command) (trace : Option Trace)
    (journal : Journal) : Type 0 where
  pub taken : TookFront c asked trace journal
  pub reads : c.read.1 ≡ c.read.0

-- a write of the line failed with which the run was to end: the text was taken, and a front of the
-- line that isn't the whole
pub record TookLine (c : Call) (asked : Option Command) (trace : Option Trace)
    (journal : Journal) : Type 0 where
  pub meant : Status
  pub cause : IsCauseOf c asked trace journal meant
  pub text : List ℕ
  pub line : List ℕ
  pub text_is : IsTextOf asked trace journal meant text
  pub line_is : IsFaultLine c journal meant line
  pub taken : AppendsFront c.old c.new (length text) (text ++ line)
  pub reads : TellsReads c meant

-- what was written, and what the counts of faults tell: at a write fault a byte is missing, of the
-- text or of the line
abbrev pub Wrote : Call → Option Command → Option Trace → Journal → Status → Type 0
Wrote c asked trace journal WriteFault =
    TookEntry c asked trace journal ⊎ TookLine c asked trace journal
Wrote c asked trace journal status = TookAll c asked trace journal status

-- ---- one text

-- the text of this journal was taken, and after it the line of the status
pub record TookTextOf (c : Call) (replies : Bool) (trace : Trace) (journal : Journal)
    (status : Status) : Type 0 where
  pub line : List ℕ
  pub line_is : IsFaultLine c journal status line
  pub taken : Appends c.old c.new (text_of replies trace journal ++ line)

-- the text is a function of the trace, the way and the seed: what was taken is the text of every
-- journal that is lawful for them and tells as much, where memory was there for each event of both;
-- of threads, where no round is of several workers
abbrev pub TookOneText : Call → Option Command → Trace → Journal → Status → Type 0
TookOneText c asked trace journal status =
    All (IsFixed (way_asked asked)) trace.items → (other : Journal)
    → IsLawful (way_asked asked) trace other → TellAsMuch journal other
    → TookTextOf c (replies_asked asked) trace other status

-- ---- the run

-- for one command that was read of the words, this status has its cause, this was written, the
-- journal is lawful, and what follows from that holds over the whole run
pub record Ends (c : Call) (trace : Option Trace) (journal : Journal)
    (status : Status) : Type 0 where
  pub asked : Option Command
  pub is_asked : IsAsked c.words asked
  pub cause : IsCauseOf c asked trace journal status
  pub wrote : Wrote c asked trace journal status
  pub lawful : IsJournalOf c asked trace journal
  pub over : IfSome trace (λ trace. HoldsOver (way_asked asked) trace journal)

-- ---- input

-- the bytes are a trace
abbrev pub IsSomeTrace : List ℕ → Type 0
IsSomeTrace bytes = (trace : Trace) × IsTrace bytes trace

-- the bytes are no trace, or too many
abbrev pub IsBadBytes : List ℕ → Type 0
IsBadBytes bytes = IsNoTrace bytes ⊎ IsTooLong bytes

-- ---- the promise

-- neither the source nor the sink failed
pub record NoFault (c : Call) : Type 0 where
  pub reads : ¬ Rose c.read.0 c.read.1
  pub writes : ¬ Rose c.write.0 c.write.1

-- every item was done, or memory was wanting, or a round's turns were spent
abbrev pub IsDoneOrCut : Outcome → Type 0
IsDoneOrCut outcome =
    (outcome.status ≡ done_status outcome.trace outcome.journal) ⊎ (outcome.status ≡ NoMemory)
    ⊎ (outcome.status ≡ TurnsSpent)

-- its CPUs begin at transaction id 0, as if it gave none
abbrev pub HasNoIds : Trace → Type 0
HasNoIds trace = trace.tid ≡ 0

-- what `run` promises of each call and its outcome. The rest follows from the first, `ends`: which
-- status it must have
pub record IsRunOf (c : Call) (outcome : Outcome) : Type 0 where
  pub ends : Ends c outcome.trace outcome.journal outcome.status
  -- words that are no command, and no others, end as such
  pub bad_words : outcome.status ≢ WriteFault → outcome.status ≢ NoMemory →
      (outcome.status ≡ BadWords ↔ AreBadWords c.words)
  -- bytes that are no trace end as such
  pub bad_trace : AsksReplay c.words → IsSomeAnd c.told IsBadBytes → NoFault c →
      (outcome.status ≡ BadTrace) ⊎ (outcome.status ≡ NoMemory)
  -- a trace is done to its end
  pub complete : AsksReplay c.words → IsSomeAnd c.told IsSomeTrace → NoFault c →
      IsDoneOrCut outcome
  -- a replay in the order of the text has no turns that could be spent, where the trace gives no
  -- first transaction id
  pub serial : (seed : ℕ) (replies : Bool) → IsCommand c.words (Replay hows.Serial seed replies) →
      IfSome outcome.trace HasNoIds → outcome.status ≢ TurnsSpent
  -- nor has one by threads
  pub threads : (seed : ℕ) (replies : Bool) → IsCommand c.words (Replay hows.Threads seed replies) →
      IfSome outcome.trace HasNoIds → outcome.status ≢ TurnsSpent
  -- a load is done to its end
  pub load : (seed events workers : ℕ) → IsCommand c.words (Load seed events workers) →
      ¬ Rose c.write.0 c.write.1 → IsDoneOrCut outcome
  -- what it wrote is the one text of its trace, its way and its seed, want of memory aside
  pub one_text : (command : Command) → IsCommand c.words command → ¬ Rose c.write.0 c.write.1 →
      IfSome outcome.trace (λ trace.
      TookOneText c (Some command) trace outcome.journal outcome.status)
  -- where every item was done, the status is that of what was done, of a replay as of a load
  pub done : IsDone outcome.trace outcome.journal → ¬ Rose c.write.0 c.write.1 →
      outcome.status ≡ done_status outcome.trace outcome.journal
  -- a layout is answered
  pub layout : (spec : Spec) (cpus : ℕ) → IsCommand c.words (Layout spec cpus) →
      ¬ Rose c.write.0 c.write.1 →
      (outcome.status ≡ NoMemory) ⊎ ((answer : Result SlabLayout LayoutRefusal)
      × IsLayoutAnswer spec cpus answer × (outcome.status ≡ answer_status answer))
