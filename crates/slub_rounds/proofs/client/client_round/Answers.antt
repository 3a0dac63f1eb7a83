use Rattle.std.proofs.Common.{◌≡◌, false, ◌∙◌, sym, ap, subst}
use Rattle.std.specs.List.{list_any}
use Rattle.slub_trace.specs.declared.event.Round.{Round}
use Rattle.slub_trace.specs.Kinds.{is_no_memory}
use Rattle.slub_slabinfo_text.specs.Asked.{round_of}
use Rattle.slub_law_rounds.specs.Round.{IsRound}
use Rattle.slub_rounds.specs.Heap.{DoesRoundOf}
use Rattle.slub_rounds.proofs.Staying.{none-any, round-stays, round-unheld}
use Rattle.slub_rounds.proofs.client.client_round.Goals as goal

pub returns-in-Ok-clause-done : goal.returns-in-Ok-clause-done
returns-in-Ok-clause-done c =
    let asked : c.in_ok-asked.asked ≡ round_of c.args.cpu c.args.acts.now = c.in_ok-asked.ensures in
    let none : list_any is_no_memory c.in-Ok.result.replies ≡ false = sym (ap (list_any is_no_memory) c.as_slice.ensures) ∙ sym c.has_no_memory.ensures ∙ c.if-has_no_memory.false in
    record {
      asked = asked;
      does = subst (λ (round : Round). DoesRoundOf c.args.heap round c.in-Ok.result c.in-Ok.after) asked c.in-Ok.ensures.does;
      coherent = c.in-Ok.ensures.sound.coherent;
      memory = none-any is_no_memory c.in-Ok.result.replies none;
    }

pub returns-in-Ok-clause-lawful : goal.returns-in-Ok-clause-lawful
returns-in-Ok-clause-lawful c = subst (λ (round : Round). IsRound c.args.heap.lists round c.in-Ok.result c.in-Ok.after.lists) c.in_ok-asked.ensures c.in-Ok.ensures.lawful

pub returns-in-Ok-clause-stays : goal.returns-in-Ok-clause-stays
returns-in-Ok-clause-stays c = λ trace.
    round-stays c.args.heap (round_of c.args.cpu c.args.acts.now) c.in-Ok.result c.in-Ok.after (subst (λ (round : Round). DoesRoundOf c.args.heap round c.in-Ok.result c.in-Ok.after) c.in_ok-asked.ensures c.in-Ok.ensures.does)
    (subst (λ (round : Round). IsRound c.args.heap.lists round c.in-Ok.result c.in-Ok.after.lists) c.in_ok-asked.ensures c.in-Ok.ensures.lawful) c.in-Ok.ensures.sound trace

pub returns-in-Ok-clause-unheld : goal.returns-in-Ok-clause-unheld
returns-in-Ok-clause-unheld c =
    round-unheld c.args.heap.lists (round_of c.args.cpu c.args.acts.now) c.in-Ok.result c.in-Ok.after.lists
    (subst (λ (round : Round). IsRound c.args.heap.lists round c.in-Ok.result c.in-Ok.after.lists) c.in_ok-asked.ensures c.in-Ok.ensures.lawful)
