use Rattle.slub_rounds.proofs.Machines.{is-set}
use Rattle.slub_rounds.proofs.prepared.prepare.Goals as goal

pub on_words-requires : goal.on_words-requires
on_words-requires c =
    let (trace, does) = c.requires.may_do in
    let s = c.args.lists in
    let ids = c.args.ids.now in
    let round = c.args.round.now in
    let set = is-set s ids trace round c.in-Ok.room c.in-Ok-open.opened c.requires.coherent c.requires.laid_down does c.in-Ok.ensures c.in-Ok-open.ensures.opened in
    record { set = (s, ids, c.in-Ok.room.beside, trace, round, set, c.in-Ok.ensures.order) }

pub returns-in-Ok-open-clause-prepared : goal.returns-in-Ok-open-clause-prepared
returns-in-Ok-open-clause-prepared c =
    let (trace, does) = c.requires.may_do in
    let s = c.args.lists in
    let ids = c.args.ids.now in
    let round = c.args.round.now in
    let set = is-set s ids trace round c.in-Ok.room c.in-Ok-open.opened c.requires.coherent c.requires.laid_down does c.in-Ok.ensures c.in-Ok-open.ensures.opened in
    (c.in-Ok.room.beside, trace, c.on_words.ensures s ids c.in-Ok.room.beside trace round set c.in-Ok.ensures.turns)
