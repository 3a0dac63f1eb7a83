-- How a run grows.
use Rattle.std.proofs.Common.{◌≡◌, ℕ, ◌+◌, ◌<◌, ◌≤◌, List, [], ◌∷◌, None, Ok, Err, Result, refl, sym, subst, ap, ◌∙◌, length, take, arith, length-append, le_refl, suc, zero-le}
use Rattle.std.specs.Prelude.{IsSome, OnOk}
use Rattle.std.proofs.lemmas.List.{take_all}
use Rattle.slub_lists.specs.State.{State}
use Rattle.slub_lists.specs.Coherent.{IsCoherent}
use Rattle.slub_trace.specs.declared.trace.Item.{Item}
use Rattle.slub_trace.specs.declared.trace.Trace.{Trace}
use Rattle.slub_slabinfo_text.specs.declared.journal.Done.{Done}
use Rattle.slub_slabinfo_text.specs.declared.journal.Journal.{Journal}
use Rattle.slub_slabinfo_text.specs.Lawful.{opening_of}
use Rattle.slub_law_replay.specs.declared.way.Way.{Way}
use Rattle.slub_law_replay.specs.Runs.{DoesAt, IsLawful, IsReadyMachine, MachineState, RunsItems, SpendsAt, machine_of}
use Rattle.slub_law_replay.proofs.Runs.{run_more}
use Rattle.slub_cli.specs.declared.stop.Stop.{Stop}
use Rattle.slub_cli.specs.declared.stop.Stop.TheVariants.{WriteFault, NoMemory, TurnsSpent}
use Rattle.slub_cli.specs.Inner.{Adds, AddsTotal, DoesItem, IsMachineOf, IsSame, PutsItem, SameMachine, StopsSpent, Totals}

-- a journal stays one for the machine of the trace
same_machine : (trace : Trace) (old new : Journal) → IsMachineOf trace old → SameMachine old new → IsMachineOf trace new
same_machine trace old new machine same = record {
  frames = same.frames ∙ machine.frames;
  cpus = same.cpus ∙ machine.cpus;
  tid = same.tid ∙ machine.tid;
}

-- the first items are done so far
pub record Reached (way : Way) (trace : Trace) (number : ℕ) (s : MachineState) (journal : Journal) : Type 0 where
  pub run : RunsItems way (machine_of trace) trace (take number trace.items) journal.items s
  pub length_is : length journal.items ≡ number
  pub no_total : journal.total ≡ None
  pub ready : IsReadyMachine s trace number
  pub machine : IsMachineOf trace journal

module _ (way : Way) where
  -- each item has one answer
  RunsItems-length : (s : MachineState) (trace : Trace) (items : List Item) (dones : List Done) (after : MachineState) → RunsItems way s trace items dones after → length dones ≡ length items
  RunsItems-length s trace [] [] after run = refl
  RunsItems-length s trace (i ∷ items) (e ∷ dones) after (next, first, sound, run) = ap suc (RunsItems-length next trace items dones after run)
  RunsItems-length s trace [] (e ∷ dones) after run = absurd run
  RunsItems-length s trace (i ∷ items) [] after run = absurd run

  -- one item more is done
  pub Reached-more : (trace : Trace) (number : ℕ) (s after : MachineState) (old new : Journal) → number < length trace.items → Reached way trace number s old → Adds way s trace number after old new → Reached way trace (number + 1) after new
  Reached-more trace number s after old new within so_far adds = let puts = adds.puts in record {
    run = rw puts.items (run_more way (machine_of trace) trace number old.items s after adds.answer within so_far.run adds.does adds.ready.lists.coherent);
    length_is = ap length puts.items ∙ length-append old.items _ ∙ ap (λ n. n + 1) so_far.length_is;
    no_total = puts.total ∙ so_far.no_total;
    ready = adds.ready;
    machine = same_machine trace old new so_far.machine puts.machine;
  }

  -- so they are where nothing was put in
  Reached-same : (trace : Trace) (number : ℕ) (s : MachineState) (old new : Journal) → Reached way trace number s old → IsSame old new → Reached way trace number s new
  Reached-same trace number s old new so_far same = record {
    run = rw same.items so_far.run;
    length_is = rw same.items so_far.length_is;
    no_total = same.total ∙ so_far.no_total;
    ready = so_far.ready;
    machine = same_machine trace old new so_far.machine same.machine;
  }

  -- what was done so far is lawful
  pub Reached-lawful : (trace : Trace) (number : ℕ) (s : MachineState) (journal : Journal) → IsCoherent (opening_of trace) → number ≤ length trace.items → Reached way trace number s journal → IsLawful way trace journal
  Reached-lawful trace number s journal coherent within so_far = record {
    frames = so_far.machine.frames;
    cpus = so_far.machine.cpus;
    tid = so_far.machine.tid;
    machine = s;
    coherent = coherent;
    within = omega (arith, so_far.length_is);
    run = rw so_far.length_is so_far.run;
    total = rw so_far.no_total tt;
  }

  -- what an item that stopped leaves is lawful
  pub stopped_lawful : (trace : Trace) (number : ℕ) (s : MachineState) (old new : Journal) (e : Stop) → IsCoherent (opening_of trace) → number < length trace.items → Reached way trace number s old → DoesItem way s trace number old new (Err e) → IsLawful way trace new
  stopped_lawful trace number s old new WriteFault coherent within so_far adds =
      Reached-lawful trace (number + 1) adds.0 new coherent (omega arith) (Reached-more trace number s adds.0 old new within so_far adds.1)
  stopped_lawful trace number s old new NoMemory coherent within so_far same =
      Reached-lawful trace number s new coherent (omega arith) (Reached-same trace number s old new so_far same)
  stopped_lawful trace number s old new TurnsSpent coherent within so_far same =
      Reached-lawful trace number s new coherent (omega arith) (Reached-same trace number s old new so_far same.0)
  stopped_lawful trace number s old new _ coherent within so_far h = absurd h

  -- where its turns are spent, it is behind the journal's last
  pub stopped_spent : (trace : Trace) (number : ℕ) (s : MachineState) (old new : Journal) (e : Stop) → IsCoherent (opening_of trace) → number < length trace.items → Reached way trace number s old → DoesItem way s trace number old new (Err e) → StopsSpent {A = MachineState} way trace new (Err e)
  unfolding Reached-lawful
  stopped_spent trace number s old new TurnsSpent coherent within so_far same =
      let now = Reached-same trace number s old new so_far same.0 in
      (Reached-lawful trace number s new coherent (omega arith) now, subst (λ (n : ℕ). SpendsAt way s trace n) (sym now.length_is) same.1)
  stopped_spent trace number s old new _ coherent within so_far h = tt

  -- an item that was done was added, or not put in for want of memory
  pub done_put : (s : MachineState) (trace : Trace) (number : ℕ) (answer : Done) (after : MachineState) (old new : Journal) (e : Stop) → DoesAt way s trace number answer after → IsReadyMachine after trace (number + 1) → PutsItem answer old new (Err e) → DoesItem way s trace number old new (Err e)
  done_put s trace number answer after old new WriteFault does ready puts = (after, record { answer = answer; does = does; ready = ready; puts = puts })
  done_put s trace number answer after old new NoMemory does ready same = same
  done_put s trace number answer after old new _ does ready h = absurd h

  -- with its total a journal of all items is lawful
  total_lawful : (trace : Trace) (s : MachineState) (old new : Journal) → RunsItems way (machine_of trace) trace trace.items old.items s → IsLawful way trace old → AddsTotal s.lists old new → IsLawful way trace new
  total_lawful trace s old new run lawful adds =
      let whole : length new.items ≡ length trace.items = ap length adds.items ∙ RunsItems-length (machine_of trace) trace trace.items old.items s run in
      record {
        frames = adds.machine.frames ∙ lawful.frames;
        cpus = adds.machine.cpus ∙ lawful.cpus;
        tid = adds.machine.tid ∙ lawful.tid;
        machine = s;
        coherent = lawful.coherent;
        within = omega arith;
        run = rw (whole, take_all (length trace.items) trace.items (le_refl _), adds.items) run;
        total = rw adds.there (rw adds.items adds.sums, whole);
      }

  -- what the total leaves is lawful
  pub totals_lawful : (trace : Trace) (s : MachineState) (old new : Journal) (r : Result (Unit {0}) Stop) → RunsItems way (machine_of trace) trace trace.items old.items s → IsLawful way trace old → Totals s.lists old new r → IsLawful way trace new
  totals_lawful trace s old new (Ok x) run lawful adds = total_lawful trace s old new run lawful adds
  totals_lawful trace s old new (Err WriteFault) run lawful adds = total_lawful trace s old new run lawful adds
  totals_lawful trace s old new (Err NoMemory) run lawful same = record {
    frames = same.machine.frames ∙ lawful.frames;
    cpus = same.machine.cpus ∙ lawful.cpus;
    tid = same.machine.tid ∙ lawful.tid;
    machine = lawful.machine;
    coherent = lawful.coherent;
    within = rw same.items lawful.within;
    run = rw same.items lawful.run;
    total = rw (same.items, same.total) lawful.total;
  }
  totals_lawful trace s old new _ run lawful h = absurd h

  -- nothing is done yet
  pub Reached-begins : (trace : Trace) (s : MachineState) (journal : Journal) → IsReadyMachine (machine_of trace) trace 0 → s ≡ machine_of trace → IsMachineOf trace journal → journal.items ≡ [] → journal.total ≡ None → Reached way trace 0 s journal
  Reached-begins trace s journal ready is machine no_items no_total = record {
    run = rw no_items is;
    length_is = ap length no_items;
    no_total = no_total;
    ready = rw is ready;
    machine = machine;
  }

  -- a journal that is for the machine and has no items is lawful
  pub no_items_lawful : (trace : Trace) (journal : Journal) → IsCoherent (opening_of trace) → IsMachineOf trace journal → journal.items ≡ [] → journal.total ≡ None → IsLawful way trace journal
  no_items_lawful trace journal coherent machine no_items no_total = record {
    frames = machine.frames;
    cpus = machine.cpus;
    tid = machine.tid;
    machine = machine_of trace;
    coherent = coherent;
    within = rw no_items zero-le;
    run = rw no_items refl;
    total = rw no_total tt;
  }

  -- where all items are done, their run is that of the whole trace
  pub Reached-whole : (trace : Trace) (number : ℕ) (s : MachineState) (journal : Journal) → length trace.items ≤ number → Reached way trace number s journal → RunsItems way (machine_of trace) trace trace.items journal.items s
  Reached-whole trace number s journal all so_far = let e : take number trace.items ≡ trace.items = take_all number trace.items all in rw e at so_far.run

-- where the total was put in it is there
pub totals_some : (s : State) (old new : Journal) (r : Result (Unit {0}) Stop) → Totals s old new r → OnOk r (IsSome new.total)
totals_some s old new (Ok x) adds = rw adds.there refl
totals_some s old new (Err e) adds = tt

-- summing up has no turns
pub totals_spent : (way : Way) (s : State) (trace : Trace) (old new : Journal) (r : Result (Unit {0}) Stop) → Totals s old new r → StopsSpent way trace new r
totals_spent way s trace old new (Err TurnsSpent) adds = absurd adds
totals_spent way s trace old new _ adds = tt
