use Rattle.slub_rounds.specs.declared.scheduled.StepsStopped.{StepsStopped}
use Rattle.slub_rounds.specs.InOrder.{EndsInOrder}
use Rattle.slub_rounds.specs.Scheduled.{IsStoppedInOrder}
use Rattle.slub_rounds.proofs.Coming.{coherent-of, does-of, ids-of, laid-of, lawful-of, stops-of}
use Rattle.slub_rounds.proofs.Machines.{is-set}
use Rattle.slub_rounds.proofs.in_order.in_order.Goals as goal

pub in_words-requires-clause-set : goal.in_words-requires-clause-set
in_words-requires-clause-set c =
    let (trace, does) = c.requires.may_do in
    let s = c.args.lists in
    let ids = c.args.ids.now in
    let round = c.args.round.now in
    let set = is-set s ids trace round c.in-Ok.room c.in-Ok-open.opened c.requires.coherent c.requires.laid_down does c.in-Ok.ensures c.in-Ok-open.ensures.opened in
    (s, ids, c.in-Ok.room.beside, trace, set)

pub in_words-requires-clause-passed : goal.in_words-requires-clause-passed
in_words-requires-clause-passed c = c.in-Ok.ensures.passed

pub in_words-requires-clause-turns : goal.in_words-requires-clause-turns
in_words-requires-clause-turns c = c.in-Ok.ensures.turns

pub returns-in-Ok-open-clause-does : goal.returns-in-Ok-open-clause-does
returns-in-Ok-open-clause-does c =
    let (trace, does) = c.requires.may_do in
    let s = c.args.lists in
    let ids = c.args.ids.now in
    let round = c.args.round.now in
    let set = is-set s ids trace round c.in-Ok.room c.in-Ok-open.opened c.requires.coherent c.requires.laid_down does c.in-Ok.ensures c.in-Ok-open.ensures.opened in
    does-of (λ m first picks last. EndsInOrder m round.events first picks last) StepsStopped (IsStoppedInOrder s ids round) s ids round c.in_words.result (c.in_words.ensures s ids c.in-Ok.room.beside trace set)

pub returns-in-Ok-open-clause-coherent : goal.returns-in-Ok-open-clause-coherent
returns-in-Ok-open-clause-coherent c =
    let (trace, does) = c.requires.may_do in
    let s = c.args.lists in
    let ids = c.args.ids.now in
    let round = c.args.round.now in
    let set = is-set s ids trace round c.in-Ok.room c.in-Ok-open.opened c.requires.coherent c.requires.laid_down does c.in-Ok.ensures c.in-Ok-open.ensures.opened in
    coherent-of (λ m first picks last. EndsInOrder m round.events first picks last) StepsStopped (IsStoppedInOrder s ids round) s ids round c.in_words.result (c.in_words.ensures s ids c.in-Ok.room.beside trace set)

pub returns-in-Ok-open-clause-laid_down : goal.returns-in-Ok-open-clause-laid_down
returns-in-Ok-open-clause-laid_down c =
    let (trace, does) = c.requires.may_do in
    let s = c.args.lists in
    let ids = c.args.ids.now in
    let round = c.args.round.now in
    let set = is-set s ids trace round c.in-Ok.room c.in-Ok-open.opened c.requires.coherent c.requires.laid_down does c.in-Ok.ensures c.in-Ok-open.ensures.opened in
    laid-of (λ m first picks last. EndsInOrder m round.events first picks last) StepsStopped (IsStoppedInOrder s ids round) s ids round c.in_words.result (c.in_words.ensures s ids c.in-Ok.room.beside trace set)

pub returns-in-Ok-open-clause-ids : goal.returns-in-Ok-open-clause-ids
returns-in-Ok-open-clause-ids c =
    let (trace, does) = c.requires.may_do in
    let s = c.args.lists in
    let ids = c.args.ids.now in
    let round = c.args.round.now in
    let set = is-set s ids trace round c.in-Ok.room c.in-Ok-open.opened c.requires.coherent c.requires.laid_down does c.in-Ok.ensures c.in-Ok-open.ensures.opened in
    ids-of (λ m first picks last. EndsInOrder m round.events first picks last) StepsStopped (IsStoppedInOrder s ids round) s ids round c.in_words.result (c.in_words.ensures s ids c.in-Ok.room.beside trace set)

pub returns-in-Ok-open-clause-stopped : goal.returns-in-Ok-open-clause-stopped
returns-in-Ok-open-clause-stopped c =
    let (trace, does) = c.requires.may_do in
    let s = c.args.lists in
    let ids = c.args.ids.now in
    let round = c.args.round.now in
    let set = is-set s ids trace round c.in-Ok.room c.in-Ok-open.opened c.requires.coherent c.requires.laid_down does c.in-Ok.ensures c.in-Ok-open.ensures.opened in
    stops-of (λ m first picks last. EndsInOrder m round.events first picks last) StepsStopped (IsStoppedInOrder s ids round) s ids round c.in_words.result (c.in_words.ensures s ids c.in-Ok.room.beside trace set)

pub returns-in-Ok-open-clause-lawful : goal.returns-in-Ok-open-clause-lawful
returns-in-Ok-open-clause-lawful c =
    let (trace, does) = c.requires.may_do in
    let s = c.args.lists in
    let ids = c.args.ids.now in
    let round = c.args.round.now in
    let set = is-set s ids trace round c.in-Ok.room c.in-Ok-open.opened c.requires.coherent c.requires.laid_down does c.in-Ok.ensures c.in-Ok-open.ensures.opened in
    lawful-of (λ m first picks last. EndsInOrder m round.events first picks last) StepsStopped (IsStoppedInOrder s ids round) s ids round c.in_words.result
    (λ result after left done. c.rounds_in_order_are_lawful.ensures s ids trace round result after left c.requires.coherent c.requires.laid_down does done)
    (c.in_words.ensures s ids c.in-Ok.room.beside trace set)
