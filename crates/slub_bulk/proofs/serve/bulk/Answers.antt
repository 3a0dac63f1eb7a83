use Rattle.std.proofs.Common.{rules, IfErr, List, ℕ, length, sym, ◌∙◌, subst, All, arith}
use Rattle.std.specs.List.{IsDistinct, range_with_len}
use Rattle.std.specs.Prelude.{nat_eq}
use Rattle.slub_slabinfo_text.specs.declared.client.ClientRound.{ClientRound}
use Rattle.slub_engine.specs.Steps.{KeepsUnheld}
use Rattle.slub_rounds.specs.Asked.{IsOpenTo, StaysOpen}
use Rattle.slub_rounds.specs.BulkLines.{SpendsTaking, TakesAll}
use Rattle.slub_rounds.specs.ClientLaws.{IsNumber}
use Rattle.slub_rounds.specs.ClientStopped.{IsStoppedWhere}
use Rattle.slub_bulk.proofs.Bulking.{range_differs, range_known}
use Rattle.slub_bulk.proofs.serve.bulk.Goals as goal

pub numbers_from-requires : goal.numbers_from-requires
numbers_from-requires c =
    let (trace, is) = c.requires.asks in
    omega (arith, c.requires.last, is.objects, is.numbers)

pub take_all-requires-clause-asks : goal.take_all-requires-clause-asks
take_all-requires-clause-asks c =
    let (trace, is) = c.requires.asks in
    (trace, subst (λ (numbers : List ℕ). IsOpenTo c.args.heap trace (length numbers)) (sym (c.as_slice.ensures.value ∙ c.in_ok-numbers.ensures)) is)

pub take_all-requires-clause-known : goal.take_all-requires-clause-known
take_all-requires-clause-known c =
    subst (All (IsNumber c.args.heap)) (sym (c.as_slice.ensures.value ∙ c.in_ok-numbers.ensures)) (range_known c.args.heap c.args.first c.args.count c.requires.first c.requires.last)

pub take_all-requires-clause-distinct : goal.take_all-requires-clause-distinct
take_all-requires-clause-distinct c =
    subst (IsDistinct nat_eq) (sym (c.as_slice.ensures.value ∙ c.in_ok-numbers.ensures)) (range_differs c.args.first c.args.count)

pub returns-clause-stays : goal.returns-clause-stays
returns-clause-stays c = λ trace. subst (λ (numbers : List ℕ). StaysOpen c.args.heap trace (length numbers) c.in_ok-after.after) (c.as_slice.ensures.value ∙ c.in_ok-numbers.ensures) (c.in_ok-after.ensures.stays trace)

pub returns-clause-served : goal.returns-clause-served
returns-clause-served c =
    let refusal = c.in_ok-after.refusal in
    let after = c.in_ok-after.after in
    let takes = subst (λ (numbers : List ℕ). TakesAll c.args.heap c.args.cpu c.args.place numbers refusal c.take_all.new.rounds.items after) (c.as_slice.ensures.value ∙ c.in_ok-numbers.ensures) c.in_ok-after.ensures.taken in
    let rounds = subst (λ (rounds : List ClientRound). TakesAll c.args.heap c.args.cpu c.args.place (range_with_len c.args.first c.args.count) refusal rounds after) (sym c.from_vec.ensures) takes in
    (refusal, rounds, c.bulk_answer.ensures)

pub returns-clause-unheld : goal.returns-clause-unheld
returns-clause-unheld c = subst (λ (numbers : List ℕ). KeepsUnheld c.args.heap.lists numbers c.in_ok-after.after.lists) (c.as_slice.ensures.value ∙ c.in_ok-numbers.ensures) c.in_ok-after.ensures.unheld

pub returns-in_err-after-clause-stopped : goal.returns-in_err-after-clause-stopped
returns-in_err-after-clause-stopped c =
    let part : IfErr c.from_residual-in_err-after.result (IsStoppedWhere (SpendsTaking c.args.heap c.args.cpu c.args.place c.as_slice.result.now)) = search rules in
    subst (λ (numbers : List ℕ). IfErr c.from_residual-in_err-after.result (IsStoppedWhere (SpendsTaking c.args.heap c.args.cpu c.args.place numbers))) (c.as_slice.ensures.value ∙ c.in_ok-numbers.ensures) part
