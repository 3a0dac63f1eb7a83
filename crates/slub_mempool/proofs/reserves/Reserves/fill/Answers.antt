use Rattle.std.proofs.Common.{rules, IfErr, List, ℕ, [], ◌∷◌, ◌++◌, length, sym, ◌∙◌, ap, subst, All, arith}
use Rattle.std.specs.List.{IsDistinct, range_with_len}
use Rattle.std.specs.Prelude.{nat_eq}
use Rattle.std.proofs.lemmas.List.FromFn.{length-range_with_len}
use Rattle.slub_slabinfo_text.specs.declared.client.ClientRound.{ClientRound}
use Rattle.slub_engine.specs.Steps.{KeepsUnheld}
use Rattle.slub_rounds.specs.Asked.{IsOpenTo, StaysOpen}
use Rattle.slub_rounds.specs.BulkLines.{SpendsTaking, TakesAll}
use Rattle.slub_rounds.specs.ClientLaws.{IsNumber}
use Rattle.slub_rounds.specs.Reserves.{Makes, Reserve, fresh_reserve}
use Rattle.slub_rounds.specs.ClientStopped.{IsStoppedWhere}
use Rattle.slub_bulk.proofs.Bulking.{range_differs, range_known}
use Rattle.slub_mempool.proofs.Making.{made-all, made-none}
use Rattle.slub_mempool.proofs.reserves.Reserves.fill.Goals as goal
use Rattle.slub_mempool.proofs.reserves.Reserves.fill.Goals.{in-None, in-Some}

pub numbers_from-requires : goal.numbers_from-requires
numbers_from-requires c =
    let (trace, is) = c.requires.asks in
    omega (arith, c.requires.last, is.objects, is.numbers)

pub take_all-requires-clause-asks : goal.take_all-requires-clause-asks
take_all-requires-clause-asks c =
    let (trace, is) = c.requires.asks in
    (trace, subst (λ (numbers : List ℕ). IsOpenTo c.args.heap trace (length numbers)) (sym (c.as_slice.ensures.value ∙ c.in_ok-numbers.ensures)) is)

pub take_all-requires-clause-cpu : goal.take_all-requires-clause-cpu
take_all-requires-clause-cpu c =
    let (trace, is) = c.requires.asks in
    omega (arith, is.sound.coherent.shaped.cpus.0)

pub take_all-requires-clause-known : goal.take_all-requires-clause-known
take_all-requires-clause-known c =
    subst (All (IsNumber c.args.heap)) (sym (c.as_slice.ensures.value ∙ c.in_ok-numbers.ensures)) (range_known c.args.heap c.args.first c.args.min_nr c.requires.first c.requires.last)

pub take_all-requires-clause-distinct : goal.take_all-requires-clause-distinct
take_all-requires-clause-distinct c =
    subst (IsDistinct nat_eq) (sym (c.as_slice.ensures.value ∙ c.in_ok-numbers.ensures)) (range_differs c.args.first c.args.min_nr)

pub make-requires-clause-few : goal.make-requires-clause-few
make-requires-clause-few c =
    omega (arith, ap (λ (l : List ℕ). length l) (c.as_slice-in-None.ensures.value ∙ c.in_ok-numbers.ensures), length-range_with_len c.args.first c.args.min_nr, c.requires.few)

pub returns-clause-stays : goal.returns-clause-stays
returns-clause-stays c = λ trace. subst (λ (numbers : List ℕ). StaysOpen c.args.heap trace (length numbers) c.in_ok-after.after) (c.as_slice.ensures.value ∙ c.in_ok-numbers.ensures) (c.in_ok-after.ensures.stays trace)

pub returns-clause-filled : goal.returns-clause-filled
returns-clause-filled c =
    let refusal = c.in_ok-after.refusal in
    let after = c.in_ok-after.after in
    let fresh : Reserve = fresh_reserve c.args.pool.now c.args.place c.args.min_nr c.args.first in
    let takes = subst (λ (numbers : List ℕ). TakesAll c.args.heap 0 c.args.place numbers refusal c.take_all.new.rounds.items after) (c.as_slice.ensures.value ∙ c.in_ok-numbers.ensures) c.in_ok-after.ensures.taken in
    let rounds = subst (λ (rounds : List ClientRound). TakesAll c.args.heap 0 c.args.place (range_with_len c.args.first c.args.min_nr) refusal rounds after) (sym c.from_vec.ensures) takes in
    let makes : Makes c.args.self.now fresh refusal c.match-refusal.answer c.match-refusal.self = elim c.match-refusal.branch [
      | in-None w ↦
          made-all c.args.self.now fresh refusal c.match-refusal.answer c.match-refusal.self w.in-None.is w.answer-is
          (w.self-is ∙ w.make.ensures ∙ ap (λ (l : List ℕ). c.args.self.now ++ (record fresh { numbers = l }) ∷ []) (w.as_slice-in-None.ensures.value ∙ c.in_ok-numbers.ensures))
      | in-Some w ↦ made-none c.args.self.now fresh refusal w.in-Some.why c.match-refusal.answer c.match-refusal.self w.in-Some.is w.answer-is w.self-is
    ] in
    (refusal, rounds, makes)

pub returns-clause-unheld : goal.returns-clause-unheld
returns-clause-unheld c = subst (λ (numbers : List ℕ). KeepsUnheld c.args.heap.lists numbers c.in_ok-after.after.lists) (c.as_slice.ensures.value ∙ c.in_ok-numbers.ensures) c.in_ok-after.ensures.unheld

pub returns-in_err-after-clause-stopped : goal.returns-in_err-after-clause-stopped
returns-in_err-after-clause-stopped c =
    let part : IfErr c.from_residual-in_err-after.result (IsStoppedWhere (SpendsTaking c.args.heap 0 c.args.place c.as_slice.result.now)) = search rules in
    subst (λ (numbers : List ℕ). IfErr c.from_residual-in_err-after.result (IsStoppedWhere (SpendsTaking c.args.heap 0 c.args.place numbers))) (c.as_slice.ensures.value ∙ c.in_ok-numbers.ensures) part
