-- What the crate's small functions leave written.
use Rattle.std.proofs.Common.{◌≡◌, ◌≢◌, ℕ, Bool, true, false, List, [], ◌++◌, Option, Some, None, MatchOption, IfOk, Result, Ok, Err, refl, ap, sym, subst, ◌∙◌, inl, inr}
use Rattle.std.specs.Prelude.{IsErrAnd, is_none, is_some, not}
use Rattle.std.specs.Io.KnownBytes.{Appends}
use Rattle.slub_edges.specs.Edges.{AppendsFront, Rose}
use Rattle.slub_trace.specs.declared.event.Round.{Round}
use Rattle.slub_trace.specs.declared.trace.Trace.{Trace}
use Rattle.slub_lists.specs.State.{State}
use Rattle.slub_open_close.specs.Ids.{first_ids}
use Rattle.slub_slabinfo_text.specs.declared.journal.Done.{Done}
use Rattle.slub_slabinfo_text.specs.declared.journal.Done.TheVariants as done
use Rattle.slub_slabinfo_text.specs.declared.journal.RoundResult.{RoundResult}
use Rattle.slub_slabinfo_text.specs.declared.journal.Total.{Total}
use Rattle.slub_slabinfo_text.specs.Lawful.{IsTotal}
use Rattle.slub_slabinfo_text.specs.Text.{text_at, total_text}
use Rattle.slub_law_replay.specs.declared.way.Way.TheVariants.{Schedule}
use Rattle.slub_law_replay.specs.Runs.{DoesAt, MachineState, SpendsAt}
use Rattle.slub_law_replay.specs.Ways.{ids_before}
use Rattle.slub_items.specs.declared.machine.Stopped.{Stopped}
use Rattle.slub_items.specs.declared.machine.Stopped.TheVariants as stopped
use Rattle.slub_items.specs.Stopped.{IsStopped}
use Rattle.slub_items.specs.declared.watched.Unwatched.{Unwatched}
use Rattle.slub_picks.specs.declared.faults.Bad.{Bad}
use Rattle.slub_asked.specs.declared.stop.Stop.{Stop}
use Rattle.slub_asked.specs.declared.stop.Stop.TheVariants as stops
use Rattle.slub_asked.specs.Stop.{IsBadStopOf}
use Rattle.slub_log_text.specs.declared.parts.Counts.{Counts}
use Rattle.slub_log_text.specs.Parts.{head_text}
use Rattle.slub_round_log.specs.declared.kept.Fault.{Fault}
use Rattle.slub_round_log.specs.declared.kept.Halt.{Halt}
use Rattle.slub_round_log.specs.declared.kept.Kept.{Kept}
use Rattle.slub_round_log.specs.Log.{SinkState, Takes}
use Rattle.slub_round_log.specs.Told.{Context}
use Rattle.slub_steps.specs.declared.choices.RoundCounts.{RoundCounts}
use Rattle.slub_steps.specs.declared.round.ToldRound.{ToldRound}
use Rattle.slub_steps.specs.Counted.{IsOutcome}
use Rattle.slub_steps.specs.Inner.{ClosesBy, ClosesRound, FinishesLog, LacksEnd, StopsBy, StopsPlain, WritesPlain, WritesText, WritesTotal, ids_among}
use Rattle.slub_steps.specs.Live.{Named}
use Rattle.slub_steps.specs.Rounds.{counts_of, if_shown}
use Rattle.slub_steps.specs.Written.{IsTail, StopsLog, Wanted}
use Rattle.slub_steps.proofs.Texts.{err_is, takes_nothing}

-- ---- a round

pub ids_at_first : (s : State) (ids : Option (List ℕ)) (first : List ℕ) (n : ℕ) → first ≡ first_ids 0 n → n ≡ s.cpus → ids_among ids (Some first) ≡ ids_before s ids
ids_at_first s None first n is cpus = is ∙ ap (λ (n : ℕ). first_ids 0 n) cpus
ids_at_first s (Some ids) first n is cpus = refl

pub counts_are : (k t : Context) (a b c : ℕ) → t ≡ k → a ≡ k.turns → b ≡ k.lost → c ≡ k.waits → (let counts : Counts = record { turns = a; lost = b; waits = c } in counts ≡ counts_of t)
counts_are k t a b c same ta tb tc = rw (ta, tb, tc, same) refl

-- why a round stops, where nothing failed in its log
pub none_of : (o : Option Fault) → ((x : Fault) → o ≢ Some x) → o ≡ None
none_of None not_so = refl
none_of (Some x) not_so = absurd (not_so x refl)

pub stops_for : (o : Option Fault) (why other : Unwatched MachineState Halt) (round turns : ℕ) (stop : Stop) → o ≡ None → why ≡ other → StopsBy None other round turns stop → StopsBy o why round turns stop
stops_for o why other round turns stop none is by = rw (none, is) by

-- what closes a round leaves the machine, and its outcome
pub closes_same : (place : ToldRound) (trace : Trace) (round : Round) (live : List Named) (m : MachineState) (left : Option (List ℕ)) (result : RoundResult) (k : Kept) (old new : SinkState) (r : Result (MachineState × Done) Stop)
    → ClosesRound place trace round live m left result k old new r → IfOk r (λ done. (done.0 ≡ m) × IsOutcome result done.1)
closes_same place trace round live m left result k old new (Ok done) closes = (closes.0, closes.1)
closes_same place trace round live m left result k old new (Err stop) closes = tt

-- or it stops the round
pub closes_text : (A : Type 0) (place : ToldRound) (trace : Trace) (round : Round) (live : List Named) (m : MachineState) (left : Option (List ℕ)) (result : RoundResult) (k : Kept) (old new : SinkState) (text : List ℕ) (stop : Stop)
    → ClosesBy place trace round live m left k text → WritesText {A = A} old new (if_shown place.is_shown (text ++ text_at true trace place.number (done.Round result))) (Err stop)
    → ClosesRound place trace round live m left result k old new (Err stop)
closes_text A place trace round live m left result k old new text stops.NoMemory closes wrote = wrote
closes_text A place trace round live m left result k old new text stops.WriteFault closes wrote = (text, closes, wrote)
closes_text A place trace round live m left result k old new text stops.TurnsSpent closes wrote = absurd wrote
closes_text A place trace round live m left result k old new text (stops.BadPicks line) closes wrote = absurd wrote
closes_text A place trace round live m left result k old new text stops.BadWords closes wrote = absurd wrote
closes_text A place trace round live m left result k old new text (stops.BadLine line) closes wrote = absurd wrote
closes_text A place trace round live m left result k old new text stops.TooLong closes wrote = absurd wrote
closes_text A place trace round live m left result k old new text stops.ReadFault closes wrote = absurd wrote

-- ---- an item

pub plain_does : (trace : Trace) (number : ℕ) (m : MachineState) (is_shown : Bool) (old new : SinkState) (r : Result (MachineState × Done) Stop) → WritesPlain trace number m is_shown old new r → IfOk r (λ done. DoesAt (Schedule 0) m trace number done.1 done.0)
plain_does trace number m is_shown old new (Ok done) wrote = wrote.0
plain_does trace number m is_shown old new (Err stop) wrote = tt

pub plain_memory : (trace : Trace) (number : ℕ) (m : MachineState) (is_shown : Bool) (s : SinkState) (stop : Stop) → stop ≡ stops.NoMemory → WritesPlain trace number m is_shown s s (Err stop)
plain_memory trace number m is_shown s stop is = subst (λ (x : Stop). WritesPlain trace number m is_shown s s (Err x)) (sym is) (takes_nothing s)

pub plain_spent : (trace : Trace) (number : ℕ) (m : MachineState) (is_shown : Bool) (s : SinkState) (stop : Stop) → SpendsAt (Schedule 0) m trace number → stop ≡ stops.TurnsSpent → WritesPlain trace number m is_shown s s (Err stop)
plain_spent trace number m is_shown s stop spends is = subst (λ (x : Stop). WritesPlain trace number m is_shown s s (Err x)) (sym is) (spends, takes_nothing s)

-- what an item that wasn't done stops the run for
pub plain_unended : (trace : Trace) (number : ℕ) (m : MachineState) (is_shown : Bool) (s : SinkState) (why : Stopped) (stop : Stop) → IsStopped (Schedule 0) m trace number why → StopsPlain why stop → WritesPlain trace number m is_shown s s (Err stop)
plain_unended trace number m is_shown s (stopped.NoMemory left) stop was is = plain_memory trace number m is_shown s stop is
plain_unended trace number m is_shown s stopped.TurnsSpent stop was is = plain_spent trace number m is_shown s stop was is

plain_text : (A : Type 0) (trace : Trace) (number : ℕ) (m : MachineState) (is_shown : Bool) (old new : SinkState) (answer : Done) (after : MachineState) (stop : Stop) → DoesAt (Schedule 0) m trace number answer after
    → WritesText {A = A} old new (if_shown is_shown (text_at true trace number answer)) (Err stop) → WritesPlain trace number m is_shown old new (Err stop)
plain_text A trace number m is_shown old new answer after stops.NoMemory does wrote = wrote
plain_text A trace number m is_shown old new answer after stops.WriteFault does wrote = (answer, after, does, wrote)
plain_text A trace number m is_shown old new answer after stops.TurnsSpent does wrote = absurd wrote
plain_text A trace number m is_shown old new answer after (stops.BadPicks line) does wrote = absurd wrote
plain_text A trace number m is_shown old new answer after stops.BadWords does wrote = absurd wrote
plain_text A trace number m is_shown old new answer after (stops.BadLine line) does wrote = absurd wrote
plain_text A trace number m is_shown old new answer after stops.TooLong does wrote = absurd wrote
plain_text A trace number m is_shown old new answer after stops.ReadFault does wrote = absurd wrote

pub plain_failed : (A : Type 0) (trace : Trace) (number : ℕ) (m : MachineState) (is_shown : Bool) (old new : SinkState) (answer : Done) (after : MachineState) (stop : Stop) (r : Result (MachineState × Done) Stop) → DoesAt (Schedule 0) m trace number answer after
    → WritesText {A = A} old new (if_shown is_shown (text_at true trace number answer)) (Err stop) → IsErrAnd r (λ x. x ≡ stop) → WritesPlain trace number m is_shown old new r
plain_failed A trace number m is_shown old new answer after stop r does wrote is =
    err_is (λ r. WritesPlain trace number m is_shown old new r) r stop is (plain_text A trace number m is_shown old new answer after stop does wrote)

-- ---- the end

pub total_fails : {A : Type 0} (answers items : List Done) (s : State) (total : Total) (old new : SinkState) (text : List ℕ) (r : Result A Stop) → items ≡ answers → IsTotal s items total → text ≡ total_text total → IsErrAnd r (λ stop. stop ≡ stops.WriteFault)
    → AppendsFront old.taken new.taken 0 text → Rose old.faults new.faults → WritesTotal answers s old new r
total_fails answers items s total old new text r same sums is err fails rose = err_is (λ r. WritesTotal answers s old new r) r stops.WriteFault err (
  total,
  subst (λ (xs : List Done). IsTotal s xs total) same sums,
  record { front = subst (λ (t : List ℕ). AppendsFront old.taken new.taken 0 t) is fails; rose = rose },
)

pub total_written : (answers items : List Done) (s : State) (total : Total) (old new : SinkState) (text : List ℕ) → items ≡ answers → IsTotal s items total → text ≡ total_text total → Appends old.taken new.taken text → new.faults ≡ old.faults
    → (total : Total) × IsTotal s answers total × Takes old new (total_text total)
total_written answers items s total old new text same sums is appends still = (
  total,
  subst (λ (xs : List Done). IsTotal s xs total) same sums,
  record { written = subst (λ (t : List ℕ). Appends old.taken new.taken t) is appends; still = still },
)

-- what stands behind the items
abbrev pub HasTail : Wanted → List Done → State → SinkState → SinkState → Type 0
HasTail wanted answers s old new = (tail : List ℕ) × IsTail wanted answers s tail × Takes old new tail

total_is : (wanted : Wanted) (answers : List Done) (s : State) (total : Total) → is_none wanted.only ≡ true → IsTotal s answers total → IsTail wanted answers s (total_text total)
total_is wanted answers s total none sums = by wanted.only none
  where
    by : (o : Option ℕ) → is_none o ≡ true → MatchOption o ((other : Total) × IsTotal s answers other × (total_text total ≡ total_text other)) (λ only. total_text total ≡ [])
    by None none = (total, sums, refl)
    by (Some only) none = cc

pub tail_total : (wanted : Wanted) (answers : List Done) (s : State) (old new : SinkState) → is_none wanted.only ≡ true → (total : Total) × IsTotal s answers total × Takes old new (total_text total) → HasTail wanted answers s old new
tail_total wanted answers s old new none wrote = (total_text wrote.0, total_is wanted answers s wrote.0 none wrote.1, wrote.2)

pub tail_none : (wanted : Wanted) (answers : List Done) (s : State) (now : SinkState) → is_none wanted.only ≡ false → HasTail wanted answers s now now
tail_none wanted answers s now some = ([], by wanted.only some, takes_nothing now)
  where
    by : (o : Option ℕ) → is_none o ≡ false → MatchOption o ((total : Total) × IsTotal s answers total × ([] ≡ total_text total)) (λ only. (let none : List ℕ = [] in none ≡ none))
    by None some = cc
    by (Some only) some = refl

pub finish_bad : (A : Type 0) (wanted : Wanted) (answers : List Done) (s : State) (counts : RoundCounts) (old new : SinkState) (bad : Bad) (stop : Stop) → HasTail wanted answers s old new → LacksEnd wanted counts bad → IsBadStopOf bad stop
    → FinishesLog {A = A} wanted answers s counts old new (Err stop)
finish_bad A wanted answers s counts old new bad stop tail lacks stopped = elim stopped [
  | inl lacking ↦ subst (λ (x : Stop). FinishesLog {A = A} wanted answers s counts old new (Err x)) (sym lacking) (tail.0, inr tail.1, tail.2)
  | inr said ↦ subst (λ (x : Stop). FinishesLog {A = A} wanted answers s counts old new (Err x)) (sym said.1) (tail.0, tail.1, tail.2, bad, lacks, said.2)
]

-- the total line isn't written
total_stops : (A B : Type 0) (wanted : Wanted) (answers : List Done) (s : State) (counts : RoundCounts) (old new : SinkState) (stop : Stop) → is_none wanted.only ≡ true → WritesTotal {A = A} answers s old new (Err stop)
    → FinishesLog {A = B} wanted answers s counts old new (Err stop)
total_stops A B wanted answers s counts old new stops.NoMemory none wrote = ([], inl refl, wrote)
total_stops A B wanted answers s counts old new stops.WriteFault none wrote = (total_text wrote.0, total_is wanted answers s wrote.0 none wrote.1, wrote.2)
total_stops A B wanted answers s counts old new stops.TurnsSpent none wrote = absurd wrote
total_stops A B wanted answers s counts old new (stops.BadPicks line) none wrote = absurd wrote
total_stops A B wanted answers s counts old new stops.BadWords none wrote = absurd wrote
total_stops A B wanted answers s counts old new (stops.BadLine line) none wrote = absurd wrote
total_stops A B wanted answers s counts old new stops.TooLong none wrote = absurd wrote
total_stops A B wanted answers s counts old new stops.ReadFault none wrote = absurd wrote

pub finish_total : (A B : Type 0) (wanted : Wanted) (answers : List Done) (s : State) (counts : RoundCounts) (old new : SinkState) (stop : Stop) (r : Result B Stop) → is_none wanted.only ≡ true → WritesTotal {A = A} answers s old new (Err stop)
    → IsErrAnd r (λ x. x ≡ stop) → FinishesLog {A = B} wanted answers s counts old new r
finish_total A B wanted answers s counts old new stop r none wrote is =
    err_is (λ r. FinishesLog {A = B} wanted answers s counts old new r) r stop is (total_stops A B wanted answers s counts old new stop none wrote)

-- ---- the begin

pub head_stops : (A : Type 0) (wanted : Wanted) (trace : Trace) (old new : SinkState) (stop : Stop) → WritesText {A = A} old new (head_text trace wanted.way) (Err stop) → StopsLog wanted trace old new stop
head_stops A wanted trace old new stops.NoMemory wrote = inl wrote
head_stops A wanted trace old new stops.WriteFault wrote = inl wrote
head_stops A wanted trace old new stops.TurnsSpent wrote = absurd wrote
head_stops A wanted trace old new (stops.BadPicks line) wrote = absurd wrote
head_stops A wanted trace old new stops.BadWords wrote = absurd wrote
head_stops A wanted trace old new (stops.BadLine line) wrote = absurd wrote
head_stops A wanted trace old new stops.TooLong wrote = absurd wrote
head_stops A wanted trace old new stops.ReadFault wrote = absurd wrote

-- ---- options

pub none_by : {A : Type 0} (o : Option A) (b : Bool) → is_some o ≡ not b → b ≡ is_none o
none_by None true is = refl
none_by None false is = cc
none_by (Some x) true is = cc
none_by (Some x) false is = refl
