use Rattle.std.proofs.Common.{◌≡◌, subst}
use Rattle.std.specs.Prelude.{IfOk}
use Rattle.slub_words.specs.Stored.{AreStored}
use Rattle.slub_rounds.proofs.Seating.{opens-of, seated-of, unopened-of}
use Rattle.slub_rounds.proofs.Threads.{set-for}
use Rattle.slub_rounds.proofs.seated.seat_workers.Goals as goal

pub at_table-requires : goal.at_table-requires
at_table-requires c =
    let (trace, does) = c.requires.may_do in
    let lists = c.args.lists in
    let kept = subst (λ r. IfOk r (λ kept. AreStored kept.items lists.memory)) c.in-Ok-kept.is c.keep_words-lists.ensures.kept in
    let set = set-for lists c.args.ids.now trace c.args.round.now c.in-Ok.room c.keep_words-lists.result.0 c.in-Ok-open.opened c.in-Ok-kept.kept.items c.requires.coherent c.requires.laid_down does c.in-Ok.ensures
    c.keep_words-lists.ensures.lists c.in-Ok-open.ensures.opened c.in-Ok-open.ensures.still kept in
    record { set = (lists, c.args.ids.now, c.in-Ok.room.beside, trace, c.args.round.now, set) }

pub returns-in-Ok-open-clause-opens : goal.returns-in-Ok-open-clause-opens
returns-in-Ok-open-clause-opens c =
    let (trace, does) = c.requires.may_do in
    let lists = c.args.lists in
    let kept = subst (λ r. IfOk r (λ kept. AreStored kept.items lists.memory)) c.in-Ok-kept.is c.keep_words-lists.ensures.kept in
    let set = set-for lists c.args.ids.now trace c.args.round.now c.in-Ok.room c.keep_words-lists.result.0 c.in-Ok-open.opened c.in-Ok-kept.kept.items c.requires.coherent c.requires.laid_down does c.in-Ok.ensures
    c.keep_words-lists.ensures.lists c.in-Ok-open.ensures.opened c.in-Ok-open.ensures.still kept in
    opens-of lists c.args.ids.now c.args.round.now c.at_table.result (c.at_table.ensures lists c.args.ids.now c.in-Ok.room.beside trace c.args.round.now set)

pub returns-in-Ok-open-clause-seated : goal.returns-in-Ok-open-clause-seated
returns-in-Ok-open-clause-seated c =
    let (trace, does) = c.requires.may_do in
    let lists = c.args.lists in
    let kept = subst (λ r. IfOk r (λ kept. AreStored kept.items lists.memory)) c.in-Ok-kept.is c.keep_words-lists.ensures.kept in
    let set = set-for lists c.args.ids.now trace c.args.round.now c.in-Ok.room c.keep_words-lists.result.0 c.in-Ok-open.opened c.in-Ok-kept.kept.items c.requires.coherent c.requires.laid_down does c.in-Ok.ensures
    c.keep_words-lists.ensures.lists c.in-Ok-open.ensures.opened c.in-Ok-open.ensures.still kept in
    seated-of lists c.args.ids.now c.args.round.now c.at_table.result (c.at_table.ensures lists c.args.ids.now c.in-Ok.room.beside trace c.args.round.now set)

pub returns-in-Ok-open-clause-unopened : goal.returns-in-Ok-open-clause-unopened
returns-in-Ok-open-clause-unopened c =
    let (trace, does) = c.requires.may_do in
    let lists = c.args.lists in
    let kept = subst (λ r. IfOk r (λ kept. AreStored kept.items lists.memory)) c.in-Ok-kept.is c.keep_words-lists.ensures.kept in
    let set = set-for lists c.args.ids.now trace c.args.round.now c.in-Ok.room c.keep_words-lists.result.0 c.in-Ok-open.opened c.in-Ok-kept.kept.items c.requires.coherent c.requires.laid_down does c.in-Ok.ensures
    c.keep_words-lists.ensures.lists c.in-Ok-open.ensures.opened c.in-Ok-open.ensures.still kept in
    unopened-of lists c.args.ids.now c.args.round.now c.at_table.result (c.at_table.ensures lists c.args.ids.now c.in-Ok.room.beside trace c.args.round.now set)
