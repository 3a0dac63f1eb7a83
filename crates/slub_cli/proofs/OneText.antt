-- What a run wrote is the one text of its trace, its way and its seed.
use Rattle.std.proofs.Common.{◌≡◌, ◌≢◌, Some, None, refl, subst, ◌++◌}
use Rattle.std.specs.Prelude.{IfSome, Option}
use Rattle.std.specs.Io.KnownBytes.{Appends}
use Rattle.slub_edges.specs.Edges.{Rose}
use Rattle.slub_command.specs.declared.command.Command.{Command}
use Rattle.slub_command.specs.declared.command.Command.TheVariants.{Replay, Layout, Load}
use Rattle.slub_command.specs.Command.{IsCommand}
use Rattle.slub_trace.specs.declared.trace.Trace.{Trace}
use Rattle.slub_slabinfo_text.specs.declared.journal.Journal.{Journal}
use Rattle.slub_law_replay.specs.Runs.{IsLawful}
use Rattle.slub_law_replay.proofs.Items.{journals-one}
use Rattle.slub_cli.specs.declared.status.Status.{Status}
use Rattle.slub_cli.specs.declared.status.Status.TheVariants.{Fine, Refused, BadWords, BadTrace, ReadFault, WriteFault, NoMemory, TurnsSpent}
use Rattle.slub_cli.specs.Run.{Call, Ends, IsAsked, IsCauseOf, IsJournalOf, TookAll, TookOneText, TookTextOf, Wrote, replies_asked, way_asked}
use Rattle.slub_cli.proofs.Words.{one_command}

-- no write failed where the count of their faults didn't rise
not_fault : (c : Call) (asked : Option Command) (trace : Option Trace) (j : Journal) (status : Status) → IsCauseOf c asked trace j status → (Rose c.write.0 c.write.1 → ⊥) → status ≢ WriteFault
not_fault c asked trace j status cause no_write is = no_write (rose c asked trace j (subst (λ s. IsCauseOf c asked trace j s) is cause))
  where
    rose : (c : Call) (asked : Option Command) (trace : Option Trace) (j : Journal) → IsCauseOf c asked trace j WriteFault → Rose c.write.0 c.write.1
    rose c None trace j cause = cause.0
    rose c (Some (Replay how seed replies)) trace j cause = cause
    rose c (Some (Layout spec cpus)) trace j cause = cause.0
    rose c (Some (Load seed events workers)) trace j cause = cause

-- then all was taken
took_all : (c : Call) (asked : Option Command) (trace : Option Trace) (j : Journal) (status : Status) → status ≢ WriteFault → Wrote c asked trace j status → TookAll c asked trace j status
took_all c asked trace j WriteFault apart wrote = absurd (apart refl)
took_all c asked trace j Fine apart wrote = wrote
took_all c asked trace j Refused apart wrote = wrote
took_all c asked trace j BadWords apart wrote = wrote
took_all c asked trace j BadTrace apart wrote = wrote
took_all c asked trace j ReadFault apart wrote = wrote
took_all c asked trace j NoMemory apart wrote = wrote
took_all c asked trace j TurnsSpent apart wrote = wrote

-- of a replay or a load it is the text of its journal
text_taken : (c : Call) (asked : Option Command) (trace : Trace) (j : Journal) (status : Status) → IsJournalOf c asked (Some trace) j → TookAll c asked (Some trace) j status → TookTextOf c (replies_asked asked) trace j status
text_taken c None trace j status law took = absurd (let e : Some trace ≡ None = law.0 in cc)
text_taken c (Some (Replay how seed replies)) trace j status law took = record {
  line = took.line;
  line_is = took.line_is;
  taken = subst (λ text. Appends c.old c.new (text ++ took.line)) took.text_is took.taken;
}
text_taken c (Some (Layout spec cpus)) trace j status law took = absurd (let e : Some trace ≡ None = law.0 in cc)
text_taken c (Some (Load seed events workers)) trace j status law took = record {
  line = took.line;
  line_is = took.line_is;
  taken = subst (λ text. Appends c.old c.new (text ++ took.line)) took.text_is took.taken;
}

lawful_for : (c : Call) (asked : Option Command) (trace : Trace) (j : Journal) → IsJournalOf c asked (Some trace) j → IsLawful (way_asked asked) trace j
lawful_for c None trace j law = absurd (let e : Some trace ≡ None = law.0 in cc)
lawful_for c (Some (Replay how seed replies)) trace j law = law.lawful
lawful_for c (Some (Layout spec cpus)) trace j law = absurd (let e : Some trace ≡ None = law.0 in cc)
lawful_for c (Some (Load seed events workers)) trace j law = law.lawful

-- another journal that tells as much is the same
one_text : (c : Call) (asked : Option Command) (trace : Trace) (j : Journal) (status : Status) → IsJournalOf c asked (Some trace) j → TookAll c asked (Some trace) j status → TookOneText c asked trace j status
one_text c asked trace j status law took fixed other lawful tell =
    subst (λ (journal : Journal). TookTextOf c (replies_asked asked) trace journal status)
    (journals-one (way_asked asked) trace j other fixed (lawful_for c asked trace j law) lawful tell) (text_taken c asked trace j status law took)

for_trace : (c : Call) (asked : Option Command) (trace : Option Trace) (j : Journal) (status : Status) → IsJournalOf c asked trace j → TookAll c asked trace j status → IfSome trace (λ trace. TookOneText c asked trace j status)
for_trace c asked None j status law took = tt
for_trace c asked (Some trace) j status law took = one_text c asked trace j status law took

-- where no command was read there is no trace; else it is the one that the words spell
for_command : (c : Call) (asked : Option Command) (command : Command) (trace : Option Trace) (j : Journal) (status : Status) → IsAsked c.words asked → IsCommand c.words command → IsJournalOf c asked trace j
    → IfSome trace (λ trace. TookOneText c asked trace j status) → IfSome trace (λ trace. TookOneText c (Some command) trace j status)
for_command c None command trace j status is asks law took = rw law.0 tt
for_command c (Some one) command trace j status is asks law took = subst (λ (x : Command). IfSome trace (λ trace. TookOneText c (Some x) trace j status)) (one_command c.words one command is asks) took

pub one_text_of : (c : Call) (trace : Option Trace) (j : Journal) (status : Status) → Ends c trace j status → (command : Command) → IsCommand c.words command → (Rose c.write.0 c.write.1 → ⊥)
    → IfSome trace (λ trace. TookOneText c (Some command) trace j status)
one_text_of c trace j status ends command asks no_write =
    let apart = not_fault c ends.asked trace j status ends.cause no_write in
    for_command c ends.asked command trace j status ends.is_asked asks ends.lawful
    (for_trace c ends.asked trace j status ends.lawful (took_all c ends.asked trace j status apart ends.wrote))
