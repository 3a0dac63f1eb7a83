-- From the parts of a run to its clauses.
use Rattle.std.proofs.Common.{◌≡◌, ◌≢◌, ℕ, ◌<◌, ◌≤◌, List, [], ◌++◌, Bool, true, false, cond, Some, None, Ok, Err, Result, refl, sym, subst, ◌∙◌, length, arith, append-nil, inl, inr}
use Rattle.std.specs.Prelude.{IfSome, Option, ◌⊎◌, IsSomeAnd, IsSome}
use Rattle.std.specs.List.{list_any}
use Rattle.std.proofs.lemmas.Bool.{false≢true, cases_lt}
use Rattle.std.specs.Io.KnownBytes.{Appends}
use Rattle.std.proofs.KnownBytes.{Appends-nil, Appends-trans}
use Rattle.slub_edges.specs.Edges.{Rose, AppendsFront}
use Rattle.slub_edges.proofs.Told.{AppendsFront-after, AppendsFront-then, AppendsFront-none, AppendsFront-past}
use Rattle.slub_object_layout.specs.declared.layout.Layout.{Layout as SlabLayout}
use Rattle.slub_object_layout.specs.declared.layout.LayoutRefusal.{LayoutRefusal}
use Rattle.slub_object_layout.specs.declared.layout.Spec.{Spec}
use Rattle.slub_command.specs.declared.command.How.{How}
use Rattle.slub_command.specs.declared.command.How.TheVariants as hows
use Rattle.slub_command.specs.declared.command.Command.{Command}
use Rattle.slub_command.specs.declared.command.Command.TheVariants.{Replay, Layout, Load}
use Rattle.slub_command.specs.Command.{IsCommand}
use Rattle.slub_slabinfo_text.specs.Texts.{layout_lines}
use Rattle.slub_trace.specs.declared.trace.Trace.{Trace}
use Rattle.slub_trace_reader.specs.declared.reading.Why.{Why}
use Rattle.slub_trace_reader.specs.Grammar.{IsTrace}
use Rattle.slub_trace_reader.specs.Reads.{IsBadIn, Spells}
use Rattle.slub_trace.specs.Sound.{IsSound}
use Rattle.slub_law_replay.specs.declared.way.Way.{Way}
use Rattle.slub_law_replay.specs.declared.way.Way.TheVariants.{Serial, Schedule}
use Rattle.slub_law_replay.specs.Runs.{IsLawful}
use Rattle.slub_law_replay.proofs.WithoutIds.{HasNoTurns, never-spent, serial-without, threads-without}
use Rattle.slub_slabinfo_text.specs.declared.journal.Journal.{Journal}
use Rattle.slub_cli.specs.declared.stop.Stop.{Stop}
use Rattle.slub_cli.specs.declared.stop.Stop.TheVariants as stop
use Rattle.slub_cli.specs.declared.status.Status.{Status}
use Rattle.slub_cli.specs.declared.status.Status.TheVariants.{Fine, Refused, BadWords, BadTrace, ReadFault, WriteFault, NoMemory, TurnsSpent}
use Rattle.slub_cli.specs.declared.status.Outcome.{Outcome}
use Rattle.slub_law_replay.proofs.Moved.{freed_was_given, given_once}
use Rattle.slub_law_replay.proofs.Totals.{given_is_live}
use Rattle.slub_law_replay.proofs.Along.{lead-along}
use Rattle.slub_items.proofs.Lines.{leave-along}
use Rattle.slub_law_replay.proofs.Pokes.{poked-damages}
use Rattle.slub_cli.specs.Run.{AreBadWords, AsksReplay, Call, Ends, HasNoIds, IsAsked, IsBadInput, IsBadBytes, IsCauseOf, IsDone, IsFaultLine, IsJournalOf, IsLayoutAnswer, IsLayoutCause, IsLayoutText, IsReplayCause, HoldsOver, IsLoadCause, IsReplayJournal, IsRunOf, SpendsNextRound, IsSomeTrace, IsTextOf, IsWant, NoFault, TellsReads, TookAll, TookFront, Wrote, answer_status, done_status, is_refused, lacks_memory, last_in, text_in, way_asked, way_of}
use Rattle.slub_cli.specs.Inner.{Finishes, StopsAtReadFault, StopsAtWriteFault, Worked, Works, stop_line, stop_status}
use Rattle.slub_cli.proofs.OneText.{one_text_of}
use Rattle.slub_cli.proofs.Words.{layout_apart, load_apart, one_layout, replay_apart, same_replay}

-- ---- the status of a run that did every item

-- it has no line of its own
done_line : (c : Call) (j : Journal) (lacks refused : Bool) → IsSome j.total → IsFaultLine c j (cond lacks NoMemory (cond refused Refused Fine)) []
done_line c j true refused some = inr (some, refl)
done_line c j false true some = refl
done_line c j false false some = refl

-- and does not end as a write fault
done_apart : (lacks refused : Bool) → cond lacks NoMemory (cond refused Refused Fine) ≡ WriteFault → ⊥
done_apart true refused h = cc
done_apart false true h = cc
done_apart false false h = cc

-- and has its row, of a load
done_cause : (c : Call) (way : Way) (trace : Option Trace) (j : Journal) (lacks refused : Bool) → done_status trace j ≡ cond lacks NoMemory (cond refused Refused Fine) → IsDone trace j → IsLoadCause c way trace j (cond lacks NoMemory (cond refused Refused Fine))
done_cause c way trace j true refused is done = inr (done, is)
done_cause c way trace j false true is done = (done, is)
done_cause c way trace j false false is done = (done, is)

-- which is one of a replay, too
replay_cause : (c : Call) (way : Way) (trace : Option Trace) (j : Journal) (status : Status) → IsLoadCause c way trace j status → IsReplayCause c way trace j status
replay_cause c way trace j Fine cause = cause
replay_cause c way trace j Refused cause = cause
replay_cause c way trace j WriteFault cause = cause
replay_cause c way trace j NoMemory cause = cause
replay_cause c way trace j TurnsSpent cause = cause
replay_cause c way trace j _ cause = absurd cause

-- ---- the status of a layout

answer_text : (spec : Spec) (cpus : ℕ) (answer : Result SlabLayout LayoutRefusal) → IsLayoutAnswer spec cpus answer → IsLayoutText spec cpus (answer_status answer) (layout_lines answer)
answer_text spec cpus (Ok layout) is = (layout, is, refl)
answer_text spec cpus (Err why) is = (why, is, refl)

answer_line : (c : Call) (j : Journal) (answer : Result SlabLayout LayoutRefusal) → IsFaultLine c j (answer_status answer) []
answer_line c j (Ok layout) = refl
answer_line c j (Err why) = refl

answer_apart : (answer : Result SlabLayout LayoutRefusal) → answer_status answer ≡ WriteFault → ⊥
answer_apart (Ok layout) h = cc
answer_apart (Err why) h = cc

answer_cause : (c : Call) (spec : Spec) (cpus : ℕ) (answer : Result SlabLayout LayoutRefusal) → IsLayoutAnswer spec cpus answer → IsLayoutCause c spec cpus (answer_status answer)
answer_cause c spec cpus (Ok layout) is = (layout, is)
answer_cause c spec cpus (Err why) is = (why, is)

-- and tells no read that failed
done_reads : (c : Call) (lacks refused : Bool) → c.read.1 ≡ c.read.0 → TellsReads c (cond lacks NoMemory (cond refused Refused Fine))
done_reads c true refused same = same
done_reads c false true same = same
done_reads c false false same = same

answer_reads : (c : Call) (answer : Result SlabLayout LayoutRefusal) → c.read.1 ≡ c.read.0 → TellsReads c (answer_status answer)
answer_reads c (Ok layout) same = same
answer_reads c (Err why) same = same

-- ---- counts

-- a count that rose and then did not fall rose
rose_then : (a b c : ℕ) → a ≤ b → b ≤ c → Rose a b → Rose a c
rose_then a b c before after (inl rose) = inl (omega arith)
rose_then a b c before after (inr greatest) =
    elim (cases_lt b c) [
      | inl more ↦ inl (omega arith)
      | inr same ↦ inr ((let is : c ≡ b = omega arith in is) ∙ greatest)
    ]

-- a count that did not fall and then rose rose
rose_from : (a b c : ℕ) → a ≤ b → Rose b c → Rose a c
rose_from a b c before (inl rose) = inl (omega arith)
rose_from a b c before (inr greatest) = inr greatest

-- ---- the status of a stop

-- only a write fault ends as one
only_write_fault : (e : Stop) → stop_status e ≡ WriteFault → e ≡ stop.WriteFault
only_write_fault stop.WriteFault h = refl
only_write_fault stop.BadWords h = cc
only_write_fault (stop.BadLine text) h = cc
only_write_fault stop.TooLong h = cc
only_write_fault stop.ReadFault h = cc
only_write_fault stop.NoMemory h = cc
only_write_fault stop.TurnsSpent h = cc

-- what was written where no write failed
whole : (c : Call) (asked : Option Command) (trace : Option Trace) (j : Journal) (status : Status) → status ≢ WriteFault → TookAll c asked trace j status → Wrote c asked trace j status
whole c asked trace j WriteFault apart took = absurd (apart refl)
whole c asked trace j Fine apart took = took
whole c asked trace j Refused apart took = took
whole c asked trace j BadWords apart took = took
whole c asked trace j BadTrace apart took = took
whole c asked trace j ReadFault apart took = took
whole c asked trace j NoMemory apart took = took
whole c asked trace j TurnsSpent apart took = took

-- ---- what holds over the whole run

holds : (way : Way) (trace : Trace) (journal : Journal) → IsSound trace → IsLawful way trace journal → HoldsOver way trace journal
holds way trace journal sound lawful = record {
  given_once = λ object. given_once way trace journal sound lawful object;
  freed_once = λ object. freed_was_given way trace journal sound lawful object;
  balance = given_is_live way trace journal sound lawful;
  rounds = lead-along way trace journal sound;
  lines = leave-along way trace journal sound;
  damages = poked-damages way trace journal sound lawful;
}

holds_none : (way : Way) (trace : Option Trace) (journal : Journal) → trace ≡ None → IfSome trace (λ trace. HoldsOver way trace journal)
holds_none way trace journal none = rw none tt

over : (c : Call) (asked : Option Command) (trace : Option Trace) (journal : Journal) → IsJournalOf c asked trace journal → IfSome trace (λ trace. HoldsOver (way_asked asked) trace journal)
over c None trace journal law = holds_none Serial trace journal law.0
over c (Some (Replay how seed replies)) None journal law = tt
over c (Some (Replay how seed replies)) (Some trace) journal law = holds (way_of how seed) trace journal law.sound law.lawful
over c (Some (Layout spec cpus)) trace journal law = holds_none Serial trace journal law.0
over c (Some (Load seed events workers)) None journal law = tt
over c (Some (Load seed events workers)) (Some trace) journal law = holds (Schedule seed) trace journal law.sound law.lawful

-- ---- at the end of the work, and at the end of the run
module _ (words : List (List ℕ)) (told left old mid new : Option (List ℕ)) (read write after : ℕ × ℕ) (trace : Option Trace) (j : Journal) where
  abbrev pub worked : Call
  worked = record { words = words; told = told; left = left; old = old; new = mid; read = read; write = write }

  abbrev pub ran : Call
  ran = record { words = words; told = told; left = left; old = old; new = new; read = read; write = (write.0, after.1) }

  -- the line of a stop is that of its status
  stop_has_line : (asked : Option Command) (e : Stop) → stop_status e ≢ WriteFault → Works worked asked trace j (Err e) → IsFaultLine ran j (stop_status e) (stop_line e)
  stop_has_line asked stop.WriteFault apart h = absurd (apart refl)
  stop_has_line None stop.BadWords apart h = refl
  stop_has_line None stop.NoMemory apart h = inl (h.0.1, refl)
  stop_has_line None _ apart h = absurd h.0
  stop_has_line (Some (Replay how seed replies)) (stop.BadLine text) apart h = inl (h.0.1, h.0.2, h.0.3, h.0.4)
  stop_has_line (Some (Replay how seed replies)) stop.TooLong apart h = inr (refl, h.0.1)
  stop_has_line (Some (Replay how seed replies)) stop.ReadFault apart h = refl
  stop_has_line (Some (Replay how seed replies)) stop.NoMemory apart h = inl (h.0, refl)
  stop_has_line (Some (Replay how seed replies)) stop.TurnsSpent apart h = refl
  stop_has_line (Some (Replay how seed replies)) _ apart h = absurd h.0
  stop_has_line (Some (Layout spec cpus)) stop.NoMemory apart h = inl (h.2, refl)
  stop_has_line (Some (Layout spec cpus)) _ apart h = absurd h.0
  stop_has_line (Some (Load m events workers)) stop.NoMemory apart h = inl (h.0, refl)
  stop_has_line (Some (Load m events workers)) stop.TurnsSpent apart h = refl
  stop_has_line (Some (Load m events workers)) _ apart h = absurd h.0

  -- the text before the line of a stop was taken
  stop_text : (asked : Option Command) (e : Stop) → stop_status e ≢ WriteFault → Works worked asked trace j (Err e) → (text : List ℕ) × IsTextOf asked trace j (stop_status e) text × Appends old mid text
  stop_text asked stop.WriteFault apart h = absurd (apart refl)
  stop_text None stop.BadWords apart h = ([], (refl, h.0.1), rw h.1 (Appends-nil old))
  stop_text None stop.NoMemory apart h = ([], (refl, h.0.0), rw h.1 (Appends-nil old))
  stop_text None _ apart h = absurd h.0
  stop_text (Some (Replay how seed replies)) stop.BadWords apart h = absurd h.0
  stop_text (Some (Replay how seed replies)) _ apart h = (text_in replies trace j, refl, h.1)
  stop_text (Some (Layout spec cpus)) stop.NoMemory apart h = ([], refl, rw h.0 (Appends-nil old))
  stop_text (Some (Layout spec cpus)) _ apart h = absurd h.0
  stop_text (Some (Load m events workers)) _ apart h = (text_in false trace j, refl, h.1)

  -- the status that a stop means has its cause
  stop_cause : (asked : Option Command) (e : Stop) → stop_status e ≢ WriteFault → Works worked asked trace j (Err e) → IsCauseOf ran asked trace j (stop_status e)
  stop_cause asked stop.WriteFault apart h = absurd (apart refl)
  stop_cause None stop.BadWords apart h = h.0
  stop_cause None stop.NoMemory apart h = (tt, h.0.0)
  stop_cause None _ apart h = absurd h.0
  stop_cause (Some (Replay how seed replies)) (stop.BadLine text) apart h = (inl (h.0.1, h.0.2, h.0.4), h.0.0)
  stop_cause (Some (Replay how seed replies)) stop.TooLong apart h = (inr h.0.1, h.0.0)
  stop_cause (Some (Replay how seed replies)) stop.ReadFault apart h = (h.0.1, h.0.0)
  stop_cause (Some (Replay how seed replies)) stop.NoMemory apart h = inl h.0
  stop_cause (Some (Replay how seed replies)) stop.TurnsSpent apart h = h.0
  stop_cause (Some (Replay how seed replies)) _ apart h = absurd h.0
  stop_cause (Some (Layout spec cpus)) stop.NoMemory apart h = (tt, h.1)
  stop_cause (Some (Layout spec cpus)) _ apart h = absurd h.0
  stop_cause (Some (Load m events workers)) stop.NoMemory apart h = inl h.0
  stop_cause (Some (Load m events workers)) stop.TurnsSpent apart h = h.0
  stop_cause (Some (Load m events workers)) _ apart h = absurd h.0

  -- and tells the reads
  stop_reads : (asked : Option Command) (e : Stop) → Works worked asked trace j (Err e) → StopsAtReadFault {A = Status} read.0 read.1 (Err e) → TellsReads ran (stop_status e)
  stop_reads None stop.ReadFault h reads = absurd h.0
  stop_reads (Some (Replay how seed replies)) stop.ReadFault h reads = h.0.1
  stop_reads (Some (Layout spec cpus)) stop.ReadFault h reads = absurd h.0
  stop_reads (Some (Load m events workers)) stop.ReadFault h reads = absurd h.0
  stop_reads asked stop.BadWords h reads = reads
  stop_reads asked (stop.BadLine text) h reads = reads
  stop_reads asked stop.TooLong h reads = reads
  stop_reads asked stop.WriteFault h reads = reads
  stop_reads asked stop.NoMemory h reads = reads
  stop_reads asked stop.TurnsSpent h reads = reads

  -- a stop whose line was written
  stop_told : (asked : Option Command) (e : Stop) (status : Status) → status ≡ stop_status e → status ≢ WriteFault → Works worked asked trace j (Err e)
      → StopsAtReadFault {A = Status} read.0 read.1 (Err e) → after.1 ≡ write.0 → Appends mid new (stop_line e) → TookAll ran asked trace j status
  stop_told asked e status same apart works reads writes wrote =
      let named : stop_status e ≢ WriteFault = λ h. apart (same ∙ h) in
      let p = stop_text asked e named works in
      rw same (record {
        text = p.0;
        line = stop_line e;
        text_is = p.1;
        line_is = stop_has_line asked e named works;
        taken = Appends-trans old mid new p.0 (stop_line e) p.2 wrote;
        reads = stop_reads asked e works reads;
        writes = writes;
      })

  -- the write of a stop's line failed
  cut_line : (asked : Option Command) (e : Stop) → stop_status e ≢ WriteFault → Works worked asked trace j (Err e) → StopsAtReadFault {A = Status} read.0 read.1 (Err e) → AppendsFront mid new 0 (stop_line e) → Wrote ran asked trace j WriteFault
  cut_line asked e named works reads wrote =
      let p = stop_text asked e named works in
      inr (record {
        meant = stop_status e;
        cause = stop_cause asked e named works;
        text = p.0;
        line = stop_line e;
        text_is = p.1;
        line_is = stop_has_line asked e named works;
        taken = AppendsFront-past old new (length p.0) _ (p.0 ++ stop_line e) (omega arith) (AppendsFront-after old mid new 0 p.0 (stop_line e) p.2 wrote);
        reads = stop_reads asked e works reads;
      })

  -- a write of the text failed, and nothing was taken after it
  cut_front : (asked : Option Command) → Works worked asked trace j (Err stop.WriteFault) → Appends mid new [] → TookFront ran asked trace j
  cut_front None works none = absurd works.0
  cut_front (Some (Replay how seed replies)) works none = (works.0.0, AppendsFront-then old mid new (last_in replies trace j) (text_in replies trace j) works.1 none)
  cut_front (Some (Layout spec cpus)) works none = let p = works.0 in (p.0, p.1, AppendsFront-then old mid new 0 (layout_lines p.0) p.3 none)
  cut_front (Some (Load m events workers)) works none = (works.0.0, AppendsFront-then old mid new (last_in false trace j) (text_in false trace j) works.1 none)

  cut_text : (asked : Option Command) (e : Stop) → e ≡ stop.WriteFault → Works worked asked trace j (Err e) → StopsAtReadFault {A = Status} read.0 read.1 (Err e) → Appends mid new (stop_line e) → Wrote ran asked trace j WriteFault
  cut_text asked stop.WriteFault is works reads wrote = inl (record { taken = cut_front asked works wrote; reads = reads })
  cut_text asked stop.BadWords is works reads wrote = absurd (let never : ⊥ = cc in never)
  cut_text asked (stop.BadLine text) is works reads wrote = absurd (let never : ⊥ = cc in never)
  cut_text asked stop.TooLong is works reads wrote = absurd (let never : ⊥ = cc in never)
  cut_text asked stop.ReadFault is works reads wrote = absurd (let never : ⊥ = cc in never)
  cut_text asked stop.NoMemory is works reads wrote = absurd (let never : ⊥ = cc in never)
  cut_text asked stop.TurnsSpent is works reads wrote = absurd (let never : ⊥ = cc in never)

  -- the line of a stop was cut; a write fault has none
  cut : (asked : Option Command) (e : Stop) → Works worked asked trace j (Err e) → StopsAtReadFault {A = Status} read.0 read.1 (Err e) → AppendsFront mid new 0 (stop_line e) → Wrote ran asked trace j WriteFault
  cut asked stop.WriteFault works reads wrote = absurd (AppendsFront-none mid new 0 wrote)
  cut asked stop.BadWords works reads wrote = cut_line asked stop.BadWords (λ h. cc) works reads wrote
  cut asked (stop.BadLine text) works reads wrote = cut_line asked (stop.BadLine text) (λ h. cc) works reads wrote
  cut asked stop.TooLong works reads wrote = cut_line asked stop.TooLong (λ h. cc) works reads wrote
  cut asked stop.ReadFault works reads wrote = cut_line asked stop.ReadFault (λ h. cc) works reads wrote
  cut asked stop.NoMemory works reads wrote = cut_line asked stop.NoMemory (λ h. cc) works reads wrote
  cut asked stop.TurnsSpent works reads wrote = cut_line asked stop.TurnsSpent (λ h. cc) works reads wrote

  -- ---- what was written

  -- where every item was done
  all_wrote : (asked : Option Command) (replies : Bool) → IsTextOf asked trace j (done_status trace j) (text_in replies trace j) → IsSome j.total → Appends old mid (text_in replies trace j)
      → read.1 ≡ read.0 → after.1 ≡ write.0 → new ≡ mid → Wrote ran asked trace j (done_status trace j)
  all_wrote asked replies text total told reads writes same =
      let lacks = list_any lacks_memory j.items in
      let has = is_refused trace j in
      let took : TookAll ran asked trace j (done_status trace j) = record {
        text = text_in replies trace j;
        line = [];
        text_is = text;
        line_is = done_line ran j lacks has total;
        taken = rw (same, append-nil (text_in replies trace j)) told;
        reads = done_reads ran lacks has reads;
        writes = writes;
      } in
      whole ran asked trace j (done_status trace j) (done_apart lacks has) took

  -- where the work came to its end
  done_wrote : (asked : Option Command) (done : Status) → Works worked asked trace j (Ok done) → read.1 ≡ read.0 → after.1 ≡ write.0 → new ≡ mid → Wrote ran asked trace j done
  done_wrote None done works reads writes same = absurd works.0
  done_wrote (Some (Replay how seed replies)) done works reads writes same = rw works.0.1 (all_wrote (Some (Replay how seed replies)) replies refl works.0.0.1 works.1 reads writes same)
  done_wrote (Some (Layout spec cpus)) done works reads writes same =
      let p = works.0 in
      let took : TookAll ran (Some (Layout spec cpus)) trace j (answer_status p.0) = record {
        text = layout_lines p.0;
        line = [];
        text_is = answer_text spec cpus p.0 p.1;
        line_is = answer_line ran j p.0;
        taken = rw (same, append-nil (layout_lines p.0)) p.3;
        reads = answer_reads ran p.0 reads;
        writes = writes;
      } in
      rw p.2 (whole ran (Some (Layout spec cpus)) trace j (answer_status p.0) (answer_apart p.0) took)
  done_wrote (Some (Load m events workers)) done works reads writes same = rw works.0.1 (all_wrote (Some (Load m events workers)) false refl works.0.0.1 works.1 reads writes same)

  -- where a stop's line was written; the stop may be a write fault
  line_wrote : (asked : Option Command) (e : Stop) (status : Status) → status ≡ stop_status e → Works worked asked trace j (Err e)
      → StopsAtReadFault {A = Status} read.0 read.1 (Err e) → StopsAtWriteFault {A = Status} write.0 write.1 (Err e) → after.1 ≡ write.1 → Appends mid new (stop_line e) → Wrote ran asked trace j status
  line_wrote asked stop.WriteFault status same works reads writes still wrote = rw same (cut_text asked stop.WriteFault refl works reads wrote)
  line_wrote asked stop.BadWords status same works reads writes still wrote =
      rw same (whole ran asked trace j BadWords (λ h. cc) (stop_told asked stop.BadWords BadWords refl (λ h. cc) works reads (still ∙ writes) wrote))
  line_wrote asked (stop.BadLine text) status same works reads writes still wrote =
      rw same (whole ran asked trace j BadTrace (λ h. cc) (stop_told asked (stop.BadLine text) BadTrace refl (λ h. cc) works reads (still ∙ writes) wrote))
  line_wrote asked stop.TooLong status same works reads writes still wrote =
      rw same (whole ran asked trace j BadTrace (λ h. cc) (stop_told asked stop.TooLong BadTrace refl (λ h. cc) works reads (still ∙ writes) wrote))
  line_wrote asked stop.ReadFault status same works reads writes still wrote =
      rw same (whole ran asked trace j ReadFault (λ h. cc) (stop_told asked stop.ReadFault ReadFault refl (λ h. cc) works reads (still ∙ writes) wrote))
  line_wrote asked stop.NoMemory status same works reads writes still wrote =
      rw same (whole ran asked trace j NoMemory (λ h. cc) (stop_told asked stop.NoMemory NoMemory refl (λ h. cc) works reads (still ∙ writes) wrote))
  line_wrote asked stop.TurnsSpent status same works reads writes still wrote =
      rw same (whole ran asked trace j TurnsSpent (λ h. cc) (stop_told asked stop.TurnsSpent TurnsSpent refl (λ h. cc) works reads (still ∙ writes) wrote))

  -- ---- the cause

  write_cause : (asked : Option Command) (e : Stop) → write.0 ≤ write.1 → write.1 ≤ after.1 → Works worked asked trace j (Err e) → IsCauseOf ran asked trace j (stop_status e)
  write_cause None stop.WriteFault counts more h = absurd h.0
  write_cause (Some (Replay how seed replies)) stop.WriteFault counts more h = rose_then write.0 write.1 after.1 counts more h.0.1
  write_cause (Some (Layout spec cpus)) stop.WriteFault counts more h = let p = h.0 in (rose_then write.0 write.1 after.1 counts more p.2, h.1)
  write_cause (Some (Load m events workers)) stop.WriteFault counts more h = rose_then write.0 write.1 after.1 counts more h.0.1
  write_cause asked stop.BadWords counts more h = stop_cause asked stop.BadWords (λ h. cc) h
  write_cause asked (stop.BadLine text) counts more h = stop_cause asked (stop.BadLine text) (λ h. cc) h
  write_cause asked stop.TooLong counts more h = stop_cause asked stop.TooLong (λ h. cc) h
  write_cause asked stop.ReadFault counts more h = stop_cause asked stop.ReadFault (λ h. cc) h
  write_cause asked stop.NoMemory counts more h = stop_cause asked stop.NoMemory (λ h. cc) h
  write_cause asked stop.TurnsSpent counts more h = stop_cause asked stop.TurnsSpent (λ h. cc) h

  -- a write fault after a stop has its row
  faulted : (asked : Option Command) (e : Stop) → Rose write.0 after.1 → Works worked asked trace j (Err e) → IsCauseOf ran asked trace j WriteFault
  faulted None stop.BadWords rose h = (rose, h.0.1)
  faulted None stop.NoMemory rose h = (rose, h.0.0)
  faulted None _ rose h = absurd h.0
  faulted (Some (Replay how seed replies)) e rose h = rose
  faulted (Some (Layout spec cpus)) e rose h = (rose, h.1)
  faulted (Some (Load m events workers)) e rose h = rose

  done_has_cause : (asked : Option Command) (done : Status) → Works worked asked trace j (Ok done) → IsCauseOf ran asked trace j done
  done_has_cause None done works = absurd works.0
  done_has_cause (Some (Replay how seed replies)) done works =
      rw works.0.1 (replay_cause ran (way_of how seed) trace j (done_status trace j) (done_cause ran (way_of how seed) trace j (list_any lacks_memory j.items) (is_refused trace j) refl works.0.0))
  done_has_cause (Some (Layout spec cpus)) done works = let p = works.0 in (rw p.2 (answer_cause ran spec cpus p.0 p.1), works.1)
  done_has_cause (Some (Load m events workers)) done works =
      rw works.0.1 (done_cause ran (Schedule m) trace j (list_any lacks_memory j.items) (is_refused trace j) refl works.0.0)

  -- ---- the run

  -- how it ended; after.0 is the count of write faults after the work
  pub run_ends : (r : Result Status Stop) (status : Status) → write.0 ≤ write.1 → after.0 ≡ write.1 → after.0 ≤ after.1
      → StopsAtReadFault read.0 read.1 r → StopsAtWriteFault write.0 write.1 r → Worked worked trace j r → Finishes mid new after r status → Ends ran trace j status
  run_ends (Ok done) status counts same more reads writes all ends = record {
    asked = all.asked;
    is_asked = all.is_asked;
    cause = rw ends.0 (done_has_cause all.asked done all.works);
    wrote = rw ends.0 (done_wrote all.asked done all.works reads (ends.2 ∙ same ∙ writes) ends.1);
    lawful = all.lawful;
    over = over ran all.asked trace j all.lawful;
  }
  run_ends (Err e) status counts same more reads writes all (inl (is, wrote, still)) = record {
    asked = all.asked;
    is_asked = all.is_asked;
    cause = rw is (write_cause all.asked e counts (omega arith) all.works);
    wrote = line_wrote all.asked e status is all.works reads writes (still ∙ same) wrote;
    lawful = all.lawful;
    over = over ran all.asked trace j all.lawful;
  }
  run_ends (Err e) status counts same more reads writes all (inr (is, rose, wrote)) = record {
    asked = all.asked;
    is_asked = all.is_asked;
    cause = rw is (faulted all.asked e (rose_from write.0 after.0 after.1 (omega arith) rose) all.works);
    wrote = rw is (cut all.asked e all.works reads wrote);
    lawful = all.lawful;
    over = over ran all.asked trace j all.lawful;
  }

-- ---- corollaries of the table

-- bytes of which a line is bad are no trace
bad_in_apart : (bytes : List ℕ) (line : ℕ) (why : Why) → IsSomeTrace bytes → IsBadIn (Some bytes) line why → ⊥
bad_in_apart bytes line why good bad = (rw (sym bad.all_told) at bad.bad.none.1) good.0 good.1

-- bytes that are a trace are no bad input
good_told : (c : Call) (told : Option (List ℕ)) → c.told ≡ told → IsSomeAnd told IsSomeTrace → IsBadInput c → ⊥
good_told c None is good bad = absurd good
good_told c (Some bytes) is good (inl (line, why, bad)) = bad_in_apart bytes line why good (rw is at bad.1)
good_told c (Some bytes) is good (inr long) = (let far : 16777216 < length bytes = rw is at long in absurd (omega (arith, good.1.short, far)))

good_input : (c : Call) → IsSomeAnd c.told IsSomeTrace → IsBadInput c → ⊥
good_input c good bad = good_told c c.told refl good bad

-- what is None is not Some
none_some : {A : Type 0} (o : Option A) → o ≡ None → IsSome o → ⊥
none_some None is some = false≢true some
none_some (Some x) is some = absurd (let e : Some x ≡ None = is in cc)

-- bad bytes spell no trace
bad_apart : (bytes : List ℕ) → IsBadBytes bytes → (trace : Trace) → Spells (Some bytes) trace → ⊥
bad_apart bytes (inl none) trace spells = none.1 trace (subst (λ all. IsTrace all trace) (sym spells.all_told) spells.spells)
bad_apart bytes (inr long) trace spells =
    let short : length bytes ≤ 16777216 = subst (λ all. length all ≤ 16777216) (sym spells.all_told) spells.spells.short in
    absurd (omega (arith, short, long))

-- and no trace was read where they are told
told_apart : (told : Option (List ℕ)) (trace : Trace) → IsSomeAnd told IsBadBytes → Spells told trace → ⊥
told_apart None trace bad spells = absurd bad
told_apart (Some bytes) trace bad spells = bad_apart bytes bad trace spells

-- where a trace was read, the bytes are no bad ones
read_bad : (c : Call) (way : Way) (trace : Option Trace) (j : Journal) → IsReplayJournal c way trace j → IsSome trace → IsSomeAnd c.told IsBadBytes → ⊥
read_bad c way None j law some bad = false≢true some
read_bad c way (Some trace) j law some bad = told_apart c.told trace bad law.spelled

-- where an item's turns are spent there is a trace
spent_some : (way : Way) (trace : Option Trace) (j : Journal) → SpendsNextRound way trace j → IsSome trace
spent_some way None j spent = absurd spent.0
spent_some way (Some trace) j spent = refl

-- where the trace gives no first transaction id, no turns are spent of a way that has none
not_spent : (way : Way) (trace : Option Trace) (j : Journal) → IfSome trace HasNoIds → HasNoTurns way → SpendsNextRound way trace j → ⊥
not_spent way None j bare turns spent = absurd spent.0
not_spent way (Some trace) j bare turns spent = never-spent way trace j bare turns spent.0

-- a run that lacks memory did not do every item, or a reply tells of it
wanting : (trace : Option Trace) (j : Journal) → IsWant trace j → IsDone trace j → NoMemory ≡ done_status trace j
wanting trace j (inl none) done = absurd (none_some j.total none done.1)
wanting trace j (inr wants) done = sym wants.1

-- an answer for the layout that the words ask for
moved : (words : List (List ℕ)) (spec want : Spec) (cpus on : ℕ) (answer : Result SlabLayout LayoutRefusal) → IsCommand words (Layout spec cpus) → IsCommand words (Layout want on) → IsLayoutAnswer spec cpus answer → IsLayoutAnswer want on answer
moved words spec want cpus on answer asked asks is =
    let p = one_layout words spec want cpus on asked asks in
    subst (λ n. IsLayoutAnswer want n answer) p.1 (subst (λ s. IsLayoutAnswer s cpus answer) p.0 is)

-- a replay whose input is bad, and neither of whose ends failed, ends so
bad_trace : (c : Call) (trace : Option Trace) (j : Journal) (asked : Option Command) (status : Status) → IsAsked c.words asked → IsCauseOf c asked trace j status → IsJournalOf c asked trace j
    → AsksReplay c.words → IsSomeAnd c.told IsBadBytes → NoFault c → (status ≡ BadTrace) ⊎ (status ≡ NoMemory)
bad_trace c trace j None BadWords asked cause law asks bad sound = absurd (cause.0 (Replay asks.0 asks.1 asks.2) asks.3)
bad_trace c trace j None WriteFault asked cause law asks bad sound = absurd (sound.writes cause.0)
bad_trace c trace j None NoMemory asked cause law asks bad sound = inr refl
bad_trace c trace j None _ asked cause law asks bad sound = absurd cause.0
bad_trace c trace j (Some (Replay how seed replies)) Fine asked cause law asks bad sound = absurd (read_bad c (way_of how seed) trace j law cause.0.0 bad)
bad_trace c trace j (Some (Replay how seed replies)) Refused asked cause law asks bad sound = absurd (read_bad c (way_of how seed) trace j law cause.0.0 bad)
bad_trace c trace j (Some (Replay how seed replies)) BadTrace asked cause law asks bad sound = inl refl
bad_trace c trace j (Some (Replay how seed replies)) ReadFault asked cause law asks bad sound = absurd (sound.reads cause.0)
bad_trace c trace j (Some (Replay how seed replies)) WriteFault asked cause law asks bad sound = absurd (sound.writes cause)
bad_trace c trace j (Some (Replay how seed replies)) NoMemory asked cause law asks bad sound = inr refl
bad_trace c trace j (Some (Replay how seed replies)) TurnsSpent asked cause law asks bad sound = absurd (read_bad c (way_of how seed) trace j law (spent_some (way_of how seed) trace j cause) bad)
bad_trace c trace j (Some (Replay how seed replies)) _ asked cause law asks bad sound = absurd cause
bad_trace c trace j (Some (Layout spec cpus)) status asked cause law asks bad sound = absurd (replay_apart c.words asks.0 asks.1 asks.2 spec cpus asks.3 asked)
bad_trace c trace j (Some (Load m events workers)) status asked cause law asks bad sound = absurd (load_apart c.words asks.0 asks.1 asks.2 m events workers asks.3 asked)

-- where every item of a trace was done, the status is that of what was done
load_done : (c : Call) (way : Way) (trace : Option Trace) (j : Journal) (status : Status) → IsLoadCause c way trace j status → IsDone trace j → (Rose c.write.0 c.write.1 → ⊥) → status ≡ done_status trace j
load_done c way trace j Fine cause done no_write = sym cause.1
load_done c way trace j Refused cause done no_write = sym cause.1
load_done c way trace j WriteFault cause done no_write = absurd (no_write cause)
load_done c way trace j NoMemory cause done no_write = wanting trace j cause done
load_done c way trace j TurnsSpent cause done no_write = absurd (none_some j.total cause.1 done.1)
load_done c way trace j _ cause done no_write = absurd cause

all_done : (c : Call) (trace : Option Trace) (j : Journal) (asked : Option Command) (status : Status) → IsCauseOf c asked trace j status
    → IsDone trace j → (Rose c.write.0 c.write.1 → ⊥) → status ≡ done_status trace j
all_done c trace j None status cause done no_write = absurd (none_some trace cause.1 done.0)
all_done c trace j (Some (Replay how seed replies)) BadTrace cause done no_write = absurd (none_some trace cause.1 done.0)
all_done c trace j (Some (Replay how seed replies)) ReadFault cause done no_write = absurd (none_some trace cause.1 done.0)
all_done c trace j (Some (Replay how seed replies)) status cause done no_write = load_done c (way_of how seed) trace j status cause done no_write
all_done c trace j (Some (Layout spec cpus)) status cause done no_write = absurd (none_some trace cause.1 done.0)
all_done c trace j (Some (Load m events workers)) status cause done no_write = load_done c (Schedule m) trace j status cause done no_write

-- where no write failed, every item of a load was done, or it was cut
load_complete : (c : Call) (way : Way) (trace : Option Trace) (j : Journal) (status : Status) → IsLoadCause c way trace j status → (Rose c.write.0 c.write.1 → ⊥) → (status ≡ done_status trace j) ⊎ (status ≡ NoMemory) ⊎ (status ≡ TurnsSpent)
load_complete c way trace j Fine cause no_write = inl (sym cause.1)
load_complete c way trace j Refused cause no_write = inl (sym cause.1)
load_complete c way trace j WriteFault cause no_write = absurd (no_write cause)
load_complete c way trace j NoMemory cause no_write = inr (inl refl)
load_complete c way trace j TurnsSpent cause no_write = inr (inr refl)
load_complete c way trace j _ cause no_write = absurd cause

-- a replay of a trace, neither of whose ends failed, did everything, or it was cut
complete : (c : Call) (trace : Option Trace) (j : Journal) (asked : Option Command) (status : Status) → IsAsked c.words asked → IsCauseOf c asked trace j status
    → AsksReplay c.words → IsSomeAnd c.told IsSomeTrace → NoFault c → (status ≡ done_status trace j) ⊎ (status ≡ NoMemory) ⊎ (status ≡ TurnsSpent)
complete c trace j None BadWords asked cause asks good sound = absurd (cause.0 (Replay asks.0 asks.1 asks.2) asks.3)
complete c trace j None WriteFault asked cause asks good sound = absurd (sound.writes cause.0)
complete c trace j None NoMemory asked cause asks good sound = inr (inl refl)
complete c trace j None _ asked cause asks good sound = absurd cause.0
complete c trace j (Some (Replay how seed replies)) BadTrace asked cause asks good sound = absurd (good_input c good cause.0)
complete c trace j (Some (Replay how seed replies)) ReadFault asked cause asks good sound = absurd (sound.reads cause.0)
complete c trace j (Some (Replay how seed replies)) status asked cause asks good sound = load_complete c (way_of how seed) trace j status cause sound.writes
complete c trace j (Some (Layout spec cpus)) status asked cause asks good sound = absurd (replay_apart c.words asks.0 asks.1 asks.2 spec cpus asks.3 asked)
complete c trace j (Some (Load m events workers)) status asked cause asks good sound = absurd (load_apart c.words asks.0 asks.1 asks.2 m events workers asks.3 asked)

-- so is a load
load : (c : Call) (trace : Option Trace) (j : Journal) (asked : Option Command) (status : Status) → IsAsked c.words asked → IsCauseOf c asked trace j status → (seed events workers : ℕ)
    → IsCommand c.words (Load seed events workers) → (Rose c.write.0 c.write.1 → ⊥) → (status ≡ done_status trace j) ⊎ (status ≡ NoMemory) ⊎ (status ≡ TurnsSpent)
load c trace j None BadWords asked cause seed events workers asks no_write = absurd (cause.0 (Load seed events workers) asks)
load c trace j None WriteFault asked cause seed events workers asks no_write = absurd (no_write cause.0)
load c trace j None NoMemory asked cause seed events workers asks no_write = inr (inl refl)
load c trace j None _ asked cause seed events workers asks no_write = absurd cause.0
load c trace j (Some (Replay how n replies)) status asked cause seed events workers asks no_write = absurd (load_apart c.words how n replies seed events workers asked asks)
load c trace j (Some (Layout spec cpus)) status asked cause seed events workers asks no_write = absurd (layout_apart c.words spec cpus seed events workers asked asks)
load c trace j (Some (Load m more crew)) status asked cause seed events workers asks no_write = load_complete c (Schedule m) trace j status cause no_write

-- a replay in the order of the text, or by threads, has no turns that could be spent, where the trace gives no first transaction id
unspent : (c : Call) (trace : Option Trace) (j : Journal) (asked : Option Command) → IsAsked c.words asked → IsCauseOf c asked trace j TurnsSpent → (how : How) (seed : ℕ) (replies : Bool)
    → ((n : ℕ) → HasNoTurns (way_of how n)) → IsCommand c.words (Replay how seed replies) → IfSome trace HasNoIds → ⊥
unspent c trace j None asked cause how seed replies turns asks bare = cause.0
unspent c trace j (Some (Replay other n told)) asked cause how seed replies turns asks bare =
    not_spent (way_of how n) trace j bare (turns n) (subst (λ h. SpendsNextRound (way_of h n) trace j) (same_replay c.words other how n seed told replies asked asks) cause)
unspent c trace j (Some (Layout spec cpus)) asked cause how seed replies turns asks bare = cause.0
unspent c trace j (Some (Load m events workers)) asked cause how seed replies turns asks bare = load_apart c.words how seed replies m events workers asks asked

-- but for a write fault and want of memory, a run ends as one of bad words exactly where the words are no command
bad_words : (c : Call) (trace : Option Trace) (j : Journal) (asked : Option Command) (status : Status) → IsAsked c.words asked → IsCauseOf c asked trace j status
    → status ≢ WriteFault → status ≢ NoMemory → (status ≡ BadWords → AreBadWords c.words) × (AreBadWords c.words → status ≡ BadWords)
bad_words c trace j None BadWords asked cause apart wanting = (λ h. cause.0, λ h. refl)
bad_words c trace j None WriteFault asked cause apart wanting = absurd (apart refl)
bad_words c trace j None NoMemory asked cause apart wanting = absurd (wanting refl)
bad_words c trace j None _ asked cause apart wanting = absurd cause.0
bad_words c trace j (Some (Replay how seed replies)) BadWords asked cause apart wanting = absurd cause
bad_words c trace j (Some (Replay how seed replies)) _ asked cause apart wanting = (λ h. absurd (let never : ⊥ = cc in never), λ bad. absurd (bad (Replay how seed replies) asked))
bad_words c trace j (Some (Layout spec cpus)) BadWords asked cause apart wanting = absurd cause.0
bad_words c trace j (Some (Layout spec cpus)) _ asked cause apart wanting = (λ h. absurd (let never : ⊥ = cc in never), λ bad. absurd (bad (Layout spec cpus) asked))
bad_words c trace j (Some (Load m events workers)) BadWords asked cause apart wanting = absurd cause
bad_words c trace j (Some (Load m events workers)) _ asked cause apart wanting = (λ h. absurd (let never : ⊥ = cc in never), λ bad. absurd (bad (Load m events workers) asked))

-- a layout that did not fail to be written ends with the status of its answer, or lacked memory
layout : (c : Call) (trace : Option Trace) (j : Journal) (asked : Option Command) (status : Status) → IsAsked c.words asked → IsCauseOf c asked trace j status → (want : Spec) (on : ℕ)
    → IsCommand c.words (Layout want on) → (Rose c.write.0 c.write.1 → ⊥) → (status ≡ NoMemory) ⊎ ((answer : Result SlabLayout LayoutRefusal) × IsLayoutAnswer want on answer × (status ≡ answer_status answer))
layout c trace j None BadWords asked cause want on asks no_write = absurd (cause.0 (Layout want on) asks)
layout c trace j None WriteFault asked cause want on asks no_write = absurd (no_write cause.0)
layout c trace j None NoMemory asked cause want on asks no_write = inl refl
layout c trace j None _ asked cause want on asks no_write = absurd cause.0
layout c trace j (Some (Replay how seed replies)) status asked cause want on asks no_write = absurd (replay_apart c.words how seed replies want on asked asks)
layout c trace j (Some (Layout spec cpus)) Fine asked cause want on asks no_write = inr (Ok cause.0.0, moved c.words spec want cpus on (Ok cause.0.0) asked asks cause.0.1, refl)
layout c trace j (Some (Layout spec cpus)) Refused asked cause want on asks no_write = inr (Err cause.0.0, moved c.words spec want cpus on (Err cause.0.0) asked asks cause.0.1, refl)
layout c trace j (Some (Layout spec cpus)) WriteFault asked cause want on asks no_write = absurd (no_write cause.0)
layout c trace j (Some (Layout spec cpus)) NoMemory asked cause want on asks no_write = inl refl
layout c trace j (Some (Layout spec cpus)) _ asked cause want on asks no_write = absurd cause.0
layout c trace j (Some (Load m events workers)) status asked cause want on asks no_write = absurd (layout_apart c.words want on m events workers asks asked)

-- ---- the whole promise

pub promise : (c : Call) (outcome : Outcome) → Ends c outcome.trace outcome.journal outcome.status → IsRunOf c outcome
promise c outcome ends = record {
  ends = ends;
  bad_words = λ apart wanting. bad_words c outcome.trace outcome.journal ends.asked outcome.status ends.is_asked ends.cause apart wanting;
  bad_trace = λ asks bad sound. bad_trace c outcome.trace outcome.journal ends.asked outcome.status ends.is_asked ends.cause ends.lawful asks bad sound;
  complete = λ asks good sound. complete c outcome.trace outcome.journal ends.asked outcome.status ends.is_asked ends.cause asks good sound;
  serial = λ seed replies asks bare is.
      unspent c outcome.trace outcome.journal ends.asked ends.is_asked (subst (λ status. IsCauseOf c ends.asked outcome.trace outcome.journal status) is ends.cause) hows.Serial seed replies (λ n. serial-without) asks bare;
  threads = λ seed replies asks bare is.
      unspent c outcome.trace outcome.journal ends.asked ends.is_asked (subst (λ status. IsCauseOf c ends.asked outcome.trace outcome.journal status) is ends.cause) hows.Threads seed replies (λ n. threads-without) asks bare;
  load = λ seed events workers asks no_write. load c outcome.trace outcome.journal ends.asked outcome.status ends.is_asked ends.cause seed events workers asks no_write;
  one_text = λ command asks no_write. one_text_of c outcome.trace outcome.journal outcome.status ends command asks no_write;
  done = λ done no_write. all_done c outcome.trace outcome.journal ends.asked outcome.status ends.cause done no_write;
  layout = λ spec cpus asks no_write. layout c outcome.trace outcome.journal ends.asked outcome.status ends.is_asked ends.cause spec cpus asks no_write;
}
