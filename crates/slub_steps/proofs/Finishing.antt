-- How a log ends.
use Rattle.std.proofs.Common.{◌≡◌, ◌≤◌, ◌<◌, ℕ, zero, suc, List, [], ◌++◌, append-nil, length, get_or, Option, Some, None, MatchOption, Ok, Err, refl, ap, sym, subst, ◌∙◌, arith, slice_get, inl, inr}
use Rattle.std.specs.Prelude.{IfSome, IsSomeAnd, ◌⊎◌, ⊤}
use Rattle.std.proofs.lemmas.Bool.{cases_lt}
use Rattle.std.proofs.lemmas.Option.{slice_get-get_or}
use Rattle.slub_trace.specs.declared.trace.Item.{Item}
use Rattle.slub_trace.specs.declared.trace.Item.TheVariants as item
use Rattle.slub_trace.specs.declared.trace.Trace.{Trace}
use Rattle.slub_slabinfo_text.specs.declared.journal.Done.{Done}
use Rattle.slub_law_replay.specs.Runs.{MachineState, machine_of}
use Rattle.slub_picks.specs.declared.faults.Bad.{Bad}
use Rattle.slub_picks.specs.declared.faults.Bad.TheVariants.{InRound, NoRound, PartsLeft}
use Rattle.slub_picks.specs.declared.status.Status.{Status}
use Rattle.slub_asked.specs.declared.stop.Stop.{Stop}
use Rattle.slub_asked.specs.declared.stop.Stop.TheVariants as stops
use Rattle.slub_log_text.specs.Parts.{head_text}
use Rattle.slub_round_log.specs.Log.{SinkState, Takes}
use Rattle.slub_steps.specs.declared.choices.RoundCounts.{RoundCounts}
use Rattle.slub_steps.specs.Inner.{FinishesLog, HasRun, LacksEnd}
use Rattle.slub_steps.specs.Live.{Named, live_behind}
use Rattle.slub_steps.specs.Written.{AreDue, HasDone, IsBadEnd, IsStatusOf, StopsBehind, StopsIn, StopsItem, StopsLog, StopsTail, Wanted, WritesLog, due_at, line_at, lines_before, parts_in, shared_before, shows}
use Rattle.slub_steps.proofs.Telling.{nothing_stops}
use Rattle.slub_steps.proofs.Texts.{takes_as, takes_both, takes_nothing}

-- ---- a log that is whole

enough_of : (wanted : Wanted) (trace : Trace) (n : ℕ) (counts : RoundCounts) (o : Option ℕ) → counts.lines ≡ lines_before trace n → counts.several ≡ shared_before trace n
    → (n ≡ length trace.items) ⊎ MatchOption o ⊥ (λ only. only ≤ lines_before trace n)
    → MatchOption o (parts_in wanted.way ≤ counts.several) (λ only. only ≤ counts.lines)
    → MatchOption o (n ≡ length trace.items) (λ only. only ≤ lines_before trace n) × MatchOption o (parts_in wanted.way ≤ shared_before trace n) (λ only. ⊤)
enough_of wanted trace n counts None lines several (inl all) good = (all, omega (arith, good, several))
enough_of wanted trace n counts None lines several (inr never) good = absurd never
enough_of wanted trace n counts (Some only) lines several due good = (omega (arith, good, lines), tt)

pub log_done : {A : Type 0} (x : A) (wanted : Wanted) (trace : Trace) (status : Status) (answers : List Done) (m : MachineState) (counts : RoundCounts) (old begun mid new : SinkState)
    → Takes old begun (head_text trace wanted.way) → HasRun wanted trace answers m counts begun mid → FinishesLog wanted answers m.lists counts mid new (Ok x)
    → IsStatusOf trace answers status → WritesLog wanted trace old new (Ok status)
log_done x wanted trace status answers m counts old begun mid new head ran finished ended =
    let both = enough_of wanted trace (length answers) counts wanted.only ran.counts_are.lines ran.counts_are.several ran.due finished.3 in
    let front : List ℕ = head_text trace wanted.way in (
      front ++ ran.text ++ finished.0,
      record {
        answers = answers;
        machine = m;
        items = ran.text;
        done = ran.done;
        enough = both.0;
        used = both.1;
        tail = finished.0;
        is_tail = finished.1;
        status_is = ended;
        text_is = refl;
      },
      takes_both old mid new (front ++ ran.text) finished.0 (takes_both old begun mid front ran.text head ran.taken) finished.2,
    )

-- ---- one that ends early

-- no item stops a run for what is said before the first one
abbrev IsEarly : Stop → Type 0
IsEarly stops.BadWords = ⊤
IsEarly (stops.BadLine line) = ⊤
IsEarly stops.TooLong = ⊤
IsEarly stops.ReadFault = ⊤
IsEarly _ = ⊥

never_early : (wanted : Wanted) (trace : Trace) (number : ℕ) (m : MachineState) (live : List Named) (old new : SinkState) (stop : Stop) (it : Item) → IsEarly stop → StopsItem wanted trace number m live old new stop it → ⊥
never_early wanted trace number m live old new stops.BadWords it early stopped = none it stopped
  where
    none : (it : Item) → StopsItem wanted trace number m live old new stops.BadWords it → ⊥
    none (item.Round round) stopped = stopped
    none (item.Cache name spec) stopped = stopped
    none (item.Shrink name) stopped = stopped
    none (item.Destroy name) stopped = stopped
    none item.Slabinfo stopped = stopped
    none (item.Tune name setting) stopped = stopped
    none (item.Client client) stopped = stopped
never_early wanted trace number m live old new (stops.BadLine line) it early stopped = none it stopped
  where
    none : (it : Item) → StopsItem wanted trace number m live old new (stops.BadLine line) it → ⊥
    none (item.Round round) stopped = stopped
    none (item.Cache name spec) stopped = stopped
    none (item.Shrink name) stopped = stopped
    none (item.Destroy name) stopped = stopped
    none item.Slabinfo stopped = stopped
    none (item.Tune name setting) stopped = stopped
    none (item.Client client) stopped = stopped
never_early wanted trace number m live old new stops.TooLong it early stopped = none it stopped
  where
    none : (it : Item) → StopsItem wanted trace number m live old new stops.TooLong it → ⊥
    none (item.Round round) stopped = stopped
    none (item.Cache name spec) stopped = stopped
    none (item.Shrink name) stopped = stopped
    none (item.Destroy name) stopped = stopped
    none item.Slabinfo stopped = stopped
    none (item.Tune name setting) stopped = stopped
    none (item.Client client) stopped = stopped
never_early wanted trace number m live old new stops.ReadFault it early stopped = none it stopped
  where
    none : (it : Item) → StopsItem wanted trace number m live old new stops.ReadFault it → ⊥
    none (item.Round round) stopped = stopped
    none (item.Cache name spec) stopped = stopped
    none (item.Shrink name) stopped = stopped
    none (item.Destroy name) stopped = stopped
    none item.Slabinfo stopped = stopped
    none (item.Tune name setting) stopped = stopped
    none (item.Client client) stopped = stopped
never_early wanted trace number m live old new stops.NoMemory it early stopped = early
never_early wanted trace number m live old new stops.WriteFault it early stopped = early
never_early wanted trace number m live old new stops.TurnsSpent it early stopped = early
never_early wanted trace number m live old new (stops.BadPicks line) it early stopped = early

-- what holds of the item at a place holds of some item
some_item : {Q : Type 0} (o : Option Item) (P : Item → Type 0) → IsSomeAnd o P → ((it : Item) → P it → Q) → Q
some_item None P holds then_so = absurd holds
some_item (Some it) P holds then_so = then_so it holds

-- behind the begin of the log
behind_head : (wanted : Wanted) (trace : Trace) (front : List ℕ) (old begun new : SinkState) (stop : Stop) → Takes old begun front → StopsIn wanted trace [] begun new stop → StopsIn wanted trace front old new stop
behind_head wanted trace front old begun new stop head stopped = record {
  answers = stopped.answers;
  machine = stopped.machine;
  items = stopped.items;
  done = stopped.done;
  asked = stopped.asked;
  mid = stopped.mid;
  taken = takes_both old begun stopped.mid front stopped.items head stopped.taken;
  stops = stopped.stops;
}

pub log_stopped : (wanted : Wanted) (trace : Trace) (old begun new : SinkState) (stop : Stop) → Takes old begun (head_text trace wanted.way) → StopsIn wanted trace [] begun new stop → WritesLog wanted trace old new (Err stop)
log_stopped wanted trace old begun new stop head stopped = by stop (behind_head wanted trace (head_text trace wanted.way) old begun new stop head stopped)
  where
    by : (stop : Stop) → StopsIn wanted trace (head_text trace wanted.way) old new stop → StopsLog wanted trace old new stop
    by stops.NoMemory s = inr (inl s)
    by stops.WriteFault s = inr (inl s)
    by stops.TurnsSpent s = s
    by (stops.BadPicks line) s = inl s
    by stops.BadWords s = some_item (slice_get trace.items (length s.answers)) (StopsItem wanted trace (length s.answers) s.machine (live_behind trace 0 [] s.answers) s.mid new stops.BadWords) s.stops (λ it h. never_early wanted trace (length s.answers) s.machine (live_behind trace 0 [] s.answers) s.mid new stops.BadWords it tt h)
    by (stops.BadLine line) s = some_item (slice_get trace.items (length s.answers)) (StopsItem wanted trace (length s.answers) s.machine (live_behind trace 0 [] s.answers) s.mid new (stops.BadLine line)) s.stops (λ it h. never_early wanted trace (length s.answers) s.machine (live_behind trace 0 [] s.answers) s.mid new (stops.BadLine line) it tt h)
    by stops.TooLong s = some_item (slice_get trace.items (length s.answers)) (StopsItem wanted trace (length s.answers) s.machine (live_behind trace 0 [] s.answers) s.mid new stops.TooLong) s.stops (λ it h. never_early wanted trace (length s.answers) s.machine (live_behind trace 0 [] s.answers) s.mid new stops.TooLong it tt h)
    by stops.ReadFault s = some_item (slice_get trace.items (length s.answers)) (StopsItem wanted trace (length s.answers) s.machine (live_behind trace 0 [] s.answers) s.mid new stops.ReadFault) s.stops (λ it h. never_early wanted trace (length s.answers) s.machine (live_behind trace 0 [] s.answers) s.mid new stops.ReadFault it tt h)

-- what is lacking at the end is lacking of the whole trace
bad_of : (wanted : Wanted) (trace : Trace) (n : ℕ) (counts : RoundCounts) (bad : Bad) → counts.lines ≡ lines_before trace n → counts.several ≡ shared_before trace n
    → AreDue wanted trace n → LacksEnd wanted counts bad → (n ≡ length trace.items) × IsBadEnd wanted trace bad
bad_of wanted trace n counts (NoRound line) lines several due lacks =
    let all : n ≡ length trace.items = elim due [
      | inl all ↦ all
      | inr enough ↦ absurd (let most : line ≤ lines_before trace n = subst (λ (o : Option ℕ). MatchOption o ⊥ (λ only. only ≤ lines_before trace n)) lacks.0 enough in let never : ⊥ = omega (arith, most, lines, lacks.1) in never)
    ] in
    (all, (lacks.0, omega (arith, lacks.1, lines, ap (λ (n : ℕ). lines_before trace n) all)))
bad_of wanted trace n counts (PartsLeft parts rounds) lines several due lacks =
    let all : n ≡ length trace.items = elim due [
      | inl all ↦ all
      | inr enough ↦ absurd (subst (λ (o : Option ℕ). MatchOption o ⊥ (λ only. only ≤ lines_before trace n)) lacks.0 enough)
    ] in
    (all, (lacks.0, lacks.1, lacks.2 ∙ several ∙ ap (λ (n : ℕ). shared_before trace n) all, lacks.3))
bad_of wanted trace n counts (InRound misfit round turns) lines several due lacks = absurd lacks

pub log_unfinished : (A : Type 0) (wanted : Wanted) (trace : Trace) (answers : List Done) (m : MachineState) (counts : RoundCounts) (old begun mid new : SinkState) (stop : Stop)
    → Takes old begun (head_text trace wanted.way) → HasRun wanted trace answers m counts begun mid → FinishesLog {A = A} wanted answers m.lists counts mid new (Err stop) → WritesLog wanted trace old new (Err stop)
log_unfinished A wanted trace answers m counts old begun mid new stop head ran finished = by stop finished
  where
    behind : (stop : Stop) → StopsTail wanted answers m.lists mid new stop → StopsBehind wanted trace (head_text trace wanted.way) old new stop
    behind stop stopped = record {
      answers = answers;
      machine = m;
      items = ran.text;
      done = ran.done;
      due = ran.due;
      mid = mid;
      taken = takes_both old begun mid (head_text trace wanted.way) ran.text head ran.taken;
      stops = stopped;
    }

    by : (stop : Stop) → FinishesLog {A = A} wanted answers m.lists counts mid new (Err stop) → StopsLog wanted trace old new stop
    by stops.NoMemory f = inr (inr (behind stops.NoMemory f))
    by stops.WriteFault f = inr (inr (behind stops.WriteFault f))
    by (stops.BadPicks line) f =
        let whole = bad_of wanted trace (length answers) counts f.3 ran.counts_are.lines ran.counts_are.several ran.due f.4 in
        inr (record {
          answers = answers;
          machine = m;
          items = ran.text;
          done = ran.done;
          all = whole.0;
          tail = f.0;
          is_tail = f.1;
          taken = takes_both old mid new (head_text trace wanted.way ++ ran.text) f.0 (takes_both old begun mid (head_text trace wanted.way) ran.text head ran.taken) f.2;
          bad = f.3;
          is_bad = whole.1;
          line_is = f.5;
        })
    by stops.TurnsSpent f = absurd f
    by stops.BadWords f = absurd f
    by (stops.BadLine line) f = absurd f
    by stops.TooLong f = absurd f
    by stops.ReadFault f = absurd f

-- ---- the head alone

done_none : (wanted : Wanted) (trace : Trace) → HasDone wanted trace [] (machine_of trace) []
done_none wanted trace = record { done = (refl, refl); asked = nothing wanted.only }
  where
    nothing : (o : Option ℕ) → IfSome o (λ only. (less : ℕ) → less < length (let dones : List Done = [] in dones) → lines_before trace less < only)
    nothing None = tt
    nothing (Some only) = λ less below. absurd (let never : ⊥ = omega (arith, below) in never)

-- of an item nothing is written
item_unwritten : (wanted : Wanted) (trace : Trace) (number : ℕ) (m : MachineState) (live : List Named) (s : SinkState) (it : Item) → StopsItem wanted trace number m live s s stops.NoMemory it
item_unwritten wanted trace number m live s (item.Round round) = nothing_stops (due_at wanted trace number round live) (shows wanted (line_at trace number)) m s
item_unwritten wanted trace number m live s (item.Cache name spec) = ([], inl refl, takes_nothing s)
item_unwritten wanted trace number m live s (item.Shrink name) = ([], inl refl, takes_nothing s)
item_unwritten wanted trace number m live s (item.Destroy name) = ([], inl refl, takes_nothing s)
item_unwritten wanted trace number m live s item.Slabinfo = ([], inl refl, takes_nothing s)
item_unwritten wanted trace number m live s (item.Tune name setting) = ([], inl refl, takes_nothing s)
item_unwritten wanted trace number m live s (item.Client client) = ([], inl refl, takes_nothing s)

-- none is due, or the first one is asked for
abbrev FirstAsked : Wanted → Trace → Type 0
FirstAsked wanted trace = (it : Item) × (slice_get trace.items 0 ≡ Some it) × IfSome wanted.only (λ only. lines_before trace 0 < only)

first_due : (wanted : Wanted) (trace : Trace) → AreDue wanted trace 0 ⊎ FirstAsked wanted trace
first_due wanted trace = elim (cases_lt 0 (length trace.items)) [
  | inl some ↦ (let it : Item = get_or trace.items 0 item.Slabinfo in by it (slice_get-get_or trace.items 0 item.Slabinfo some) wanted.only refl)
  | inr none ↦ inl (inl (omega (arith, none)))
]
  where
    low : (only : ℕ) → only ≡ 0 → only ≤ lines_before trace 0
    low only is = omega (arith, is)

    by : (it : Item) → slice_get trace.items 0 ≡ Some it → (o : Option ℕ) → wanted.only ≡ o → AreDue wanted trace 0 ⊎ FirstAsked wanted trace
    by it there None is = inr (it, there, subst (λ (o : Option ℕ). IfSome o (λ only. lines_before trace 0 < only)) (sym is) tt)
    by it there (Some zero) is = inl (inr (subst (λ (o : Option ℕ). MatchOption o ⊥ (λ only. only ≤ lines_before trace 0)) (sym is) (low 0 refl)))
    by it there (Some (suc n)) is = inr (it, there, subst (λ (o : Option ℕ). IfSome o (λ only. lines_before trace 0 < only)) (sym is) (let more : lines_before trace 0 < suc n = omega arith in more))

-- before the first item memory is lacking
pub head_alone : (wanted : Wanted) (trace : Trace) (old new : SinkState) → Takes old new (head_text trace wanted.way) → StopsLog wanted trace old new stops.NoMemory
head_alone wanted trace old new took = inr (elim (first_due wanted trace) [
  | inl due ↦ inr (record {
    answers = [];
    machine = machine_of trace;
    items = [];
    done = done_none wanted trace;
    due = due;
    mid = new;
    taken = all;
    stops = ([], inl refl, takes_nothing new);
  })
  | inr asked ↦ inl (record {
    answers = [];
    machine = machine_of trace;
    items = [];
    done = done_none wanted trace;
    asked = asked.2;
    mid = new;
    taken = all;
    stops = subst (λ (o : Option Item). IsSomeAnd o (StopsItem wanted trace 0 (machine_of trace) [] new new stops.NoMemory)) (sym asked.1) (item_unwritten wanted trace 0 (machine_of trace) [] new asked.0);
  })
])
  where
    all : Takes old new (head_text trace wanted.way ++ [])
    all = takes_as old new (head_text trace wanted.way) (head_text trace wanted.way ++ []) (sym (append-nil (head_text trace wanted.way))) took
