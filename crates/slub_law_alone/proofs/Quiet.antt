-- Events that allocate from caches that are not checked have one outcome.
use Rattle.std.proofs.Common.{◌≡◌, [], ◌∷◌, None, All, refl, sym, ◌∙◌, subst}
use Rattle.std.specs.Prelude.{IfSome}
use Rattle.std.proofs.lemmas.List.Elements.{All-head, All-tail, All-weaker}
use Rattle.slub_trace.specs.declared.event.Act.{Act}
use Rattle.slub_trace.specs.declared.event.Act.TheVariants.{Alloc, Free, Write, Read, Poke, Trim, Flush}
use Rattle.slub_trace.specs.declared.event.Event.{Event}
use Rattle.slub_trace.specs.declared.reply.Reply.{Reply}
use Rattle.slub_cache_create.specs.Table.{Table, name_at, number_of}
use Rattle.slub_lists.specs.State.{State}
use Rattle.slub_lists.specs.Alloc.{checked_of, named}
use Rattle.slub_lists.proofs.Shaped.{IfSome-weaker}
use Rattle.slub_slabinfo_text.specs.Lawful.{Answers, RunsEvents}
use Rattle.slub_law_alone.specs.Rounds.{TakesNoMemory, UncheckedRunsHaveOneOutcome}
use Rattle.slub_law_alone.proofs.Events.{quiet_one}
use Rattle.slub_law_alone.proofs.Unchecked.{KeepsUnchecked, alloc_keeps, flush_keeps, free_keeps, poke_keeps, read_keeps, trim_keeps, write_keeps}

-- ---- what an event leaves

-- an event that takes no memory
event_keeps : (s : State) (event : Event) (act : Act) (answer : Reply) (after : State) → TakesNoMemory s act → Answers s event act answer after → KeepsUnchecked s after
event_keeps s event (Alloc place object) answer after quiet done = alloc_keeps s place event.cpu event.worker object answer after quiet done
event_keeps s event (Free object) answer after quiet done = free_keeps s event.cpu event.worker object answer after done
event_keeps s event (Write word object value) answer after quiet done = write_keeps s event.worker object word value answer after done
event_keeps s event (Read word object) answer after quiet done = read_keeps s after done.1
event_keeps s event (Poke object offset byte) answer after quiet done = poke_keeps s event.worker object offset byte answer after done
event_keeps s event (Trim place) answer after quiet done = trim_keeps s place answer after done
event_keeps s event Flush answer after quiet done = flush_keeps s event.cpu answer after done

-- so an act that takes no memory takes none after one
still_quiet : (s after : State) → KeepsUnchecked s after → (act : Act) → TakesNoMemory s act → TakesNoMemory after act
still_quiet s after kept (Alloc place object) quiet =
    subst (λ (t : Table). IfSome (number_of t (name_at t place)) (λ cache. checked_of after cache ≡ None)) (sym kept.table)
    (IfSome-weaker (named s place) (λ cache. checked_of s cache ≡ None) (λ cache. checked_of after cache ≡ None) (λ cache none. kept.unchecked cache none) quiet)
still_quiet s after kept (Free object) quiet = tt
still_quiet s after kept (Write word object value) quiet = tt
still_quiet s after kept (Read word object) quiet = tt
still_quiet s after kept (Poke object offset byte) quiet = tt
still_quiet s after kept (Trim place) quiet = tt
still_quiet s after kept Flush quiet = tt

-- ---- one after the other

pub unchecked_runs_one : UncheckedRunsHaveOneOutcome
unchecked_runs_one s [] quiet [] [] left right a b = (refl, a ∙ sym b)
unchecked_runs_one s [] quiet [] (other ∷ others) left right a b = absurd b
unchecked_runs_one s [] quiet (one ∷ ones) others left right a b = absurd a
unchecked_runs_one s (event ∷ events) quiet [] others left right a b = absurd a
unchecked_runs_one s (event ∷ events) quiet (one ∷ ones) [] left right a b = absurd b
unchecked_runs_one s (event ∷ events) quiet (one ∷ ones) (other ∷ others) left right a b =
    let here : TakesNoMemory s event.act = All-head (λ (e : Event). TakesNoMemory s e.act) event events quiet in
    let first = quiet_one s event event.act here one other a.0 b.0 a.1 b.1 in
    let there : All (λ (e : Event). TakesNoMemory b.0 e.act) events =
    All-weaker (λ (e : Event). TakesNoMemory s e.act) (λ (e : Event). TakesNoMemory b.0 e.act) (λ (e : Event). still_quiet s b.0 (event_keeps s event event.act other b.0 here b.1) e.act) events
    (All-tail (λ (e : Event). TakesNoMemory s e.act) event events quiet) in
    let rest = unchecked_runs_one b.0 events there ones others left right (subst (λ (mid : State). RunsEvents mid events ones left) first.1 a.3) b.3 in
    ((λ i. first.0 i ∷ rest.0 i), rest.1)
