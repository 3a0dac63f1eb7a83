use Rattle.std.proofs.Common.{List, All, sym, ap, subst}
use Rattle.slub_core.specs.Local.{Local}
use Rattle.slub_core.specs.Run.{IsFinished}
use Rattle.slub_workers.specs.Tables.{begun_at}
use Rattle.slub_rounds.proofs.Seating.{done-at, ends-at}
use Rattle.slub_rounds.proofs.seated.closed_at.Goals as goal

pub closed-requires : goal.closed-requires
closed-requires c =
    let (s, ids, opened) = c.requires.opened in
    let finished = subst (λ (ls : List Local). All IsFinished ls) (sym (ap (λ v. v.items) c.close-machine.ensures.locals)) c.requires.finished in
    (s, ids, opened.beside, opened.trace, ends-at s ids c.args.round.now (begun_at c.args.shared) c.args.waiting opened c.args.gathered.tried c.close-machine.result c.close-machine.ensures.closed c.requires.untried finished)

pub returns-clause-does : goal.returns-clause-does
returns-clause-does c = λ s ids opened.
    let key = begun_at c.args.shared in
    let tried = c.args.gathered.tried in
    let machine = c.close-machine.result in
    let shut = c.close-machine.ensures.closed in
    let finished = subst (λ (ls : List Local). All IsFinished ls) (sym (ap (λ v. v.items) c.close-machine.ensures.locals)) c.requires.finished in
    done-at s ids c.args.round.now key c.args.waiting opened tried machine shut c.requires.untried finished c.closed.result
    (c.closed.ensures s ids opened.beside opened.trace (ends-at s ids c.args.round.now key c.args.waiting opened tried machine shut c.requires.untried finished))

pub returns-clause-lawful : goal.returns-clause-lawful
returns-clause-lawful c = λ s ids opened.
    let key = begun_at c.args.shared in
    let tried = c.args.gathered.tried in
    let machine = c.close-machine.result in
    let shut = c.close-machine.ensures.closed in
    let finished = subst (λ (ls : List Local). All IsFinished ls) (sym (ap (λ v. v.items) c.close-machine.ensures.locals)) c.requires.finished in
    let done = done-at s ids c.args.round.now key c.args.waiting opened tried machine shut c.requires.untried finished c.closed.result
    (c.closed.ensures s ids opened.beside opened.trace (ends-at s ids c.args.round.now key c.args.waiting opened tried machine shut c.requires.untried finished)) in
    c.rounds_by_threads_are_lawful.ensures s ids opened.trace c.args.round.now c.closed.result.result c.closed.result.lists c.closed.result.ids opened.may.coherent opened.may.laid_down opened.may.does done.does
