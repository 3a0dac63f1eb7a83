-- What a round of a sound trace has.
use Rattle.std.proofs.Common.{ℕ, ◌<◌, ◌≤◌, length, All, get_or}
use Rattle.std.proofs.lemmas.Option.{slice_get_within}
use Rattle.slub_trace.specs.declared.event.Act.{Act}
use Rattle.slub_trace.specs.declared.event.Act.TheVariants.{Alloc, Free, Write, Read, Poke, Trim, Flush}
use Rattle.slub_trace.specs.declared.event.Round.{Round}
use Rattle.slub_trace.specs.declared.trace.Item.TheVariants as item
use Rattle.slub_trace.specs.declared.trace.Trace.{Trace}
use Rattle.slub_trace.specs.Sound.{IsSoundAct, IsSoundRound}
use Rattle.slub_slabinfo_text.specs.Texts.{IsNamed}
use Rattle.slub_law_replay.specs.Runs.{MachineState}
use Rattle.slub_law_replay.proofs.Ready.{item-sound}
use Rattle.slub_items.specs.Watched.{IsDue}

pub due-sound : (m : MachineState) (trace : Trace) (number : ℕ) (round : Round) → IsDue m trace number round → IsSoundRound trace round
due-sound m trace number round due = item-sound m trace number (item.Round round) due.sound due.ready due.here

named-act : (trace : Trace) (act : Act) → IsSoundAct trace act → IsNamed trace.names act
named-act trace (Alloc place object) sound = tt
named-act trace (Free object) sound = tt
named-act trace (Write word object value) sound = tt
named-act trace (Read word object) sound = tt
named-act trace (Poke object offset byte) sound = tt
named-act trace (Trim place) sound = sound
named-act trace Flush sound = tt

pub due-workers : (m : MachineState) (trace : Trace) (number : ℕ) (round : Round) → IsDue m trace number round → round.workers ≤ 16
due-workers m trace number round due = (due-sound m trace number round due).workers.1

pub due-named : (m : MachineState) (trace : Trace) (number : ℕ) (round : Round) → IsDue m trace number round → All (λ event. IsNamed trace.names event.act) round.events
due-named m trace number round due = λ k d within. named-act trace (get_or round.events k d).act ((due-sound m trace number round due).events k d within).act

pub due-within : (m : MachineState) (trace : Trace) (number : ℕ) (round : Round) → IsDue m trace number round → number < length trace.items
due-within m trace number round due = slice_get_within trace.items number (item.Round round) due.here
