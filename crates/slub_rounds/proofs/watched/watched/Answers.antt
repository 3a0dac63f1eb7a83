use Rattle.std.proofs.Common.{List, ◌∙◌, ap, sym}
use Rattle.slub_core.specs.Setup.{Setup}
use Rattle.slub_core.specs.Run.{System, Pick, run}
use Rattle.slub_rounds.specs.Watched.{EndsWatched, IsUnwatched}
use Rattle.slub_rounds.proofs.Coming.{coherent-of, does-of, ids-of, laid-of, lawful-of, stops-of}
use Rattle.slub_rounds.proofs.Lawful.{steps-lawful}
use Rattle.slub_rounds.proofs.watched.watched.Goals as goal

pub in_words-requires : goal.in_words-requires
in_words-requires g c =
    let (b, trace, p) = c.in-Ok.ensures.prepared in
    (c.args.lists, c.args.ids.now, b, trace, p)

pub returns-in-Ok-clause-does : goal.returns-in-Ok-clause-does
returns-in-Ok-clause-does g c =
    let w = g.W.Watch in
    let (b, trace, p) = c.in-Ok.ensures.prepared in
    does-of (λ m first picks last. EndsWatched w.begins_round w.chooses w.hears w.is_done c.args.watch c.in_words.result.1 m first picks last) _ (IsUnwatched w.begins_round w.chooses w.hears w.halts c.args.lists c.args.ids.now c.args.round.now c.args.watch c.in_words.result.1)
    c.args.lists c.args.ids.now c.args.round.now c.in_words.result.0 (c.in_words.ensures c.args.lists c.args.ids.now b trace p)

pub returns-in-Ok-clause-coherent : goal.returns-in-Ok-clause-coherent
returns-in-Ok-clause-coherent g c =
    let w = g.W.Watch in
    let (b, trace, p) = c.in-Ok.ensures.prepared in
    coherent-of (λ m first picks last. EndsWatched w.begins_round w.chooses w.hears w.is_done c.args.watch c.in_words.result.1 m first picks last) _ (IsUnwatched w.begins_round w.chooses w.hears w.halts c.args.lists c.args.ids.now c.args.round.now c.args.watch c.in_words.result.1)
    c.args.lists c.args.ids.now c.args.round.now c.in_words.result.0 (c.in_words.ensures c.args.lists c.args.ids.now b trace p)

pub returns-in-Ok-clause-laid_down : goal.returns-in-Ok-clause-laid_down
returns-in-Ok-clause-laid_down g c =
    let w = g.W.Watch in
    let (b, trace, p) = c.in-Ok.ensures.prepared in
    laid-of (λ m first picks last. EndsWatched w.begins_round w.chooses w.hears w.is_done c.args.watch c.in_words.result.1 m first picks last) _ (IsUnwatched w.begins_round w.chooses w.hears w.halts c.args.lists c.args.ids.now c.args.round.now c.args.watch c.in_words.result.1)
    c.args.lists c.args.ids.now c.args.round.now c.in_words.result.0 (c.in_words.ensures c.args.lists c.args.ids.now b trace p)

pub returns-in-Ok-clause-ids : goal.returns-in-Ok-clause-ids
returns-in-Ok-clause-ids g c =
    let w = g.W.Watch in
    let (b, trace, p) = c.in-Ok.ensures.prepared in
    ids-of (λ m first picks last. EndsWatched w.begins_round w.chooses w.hears w.is_done c.args.watch c.in_words.result.1 m first picks last) _ (IsUnwatched w.begins_round w.chooses w.hears w.halts c.args.lists c.args.ids.now c.args.round.now c.args.watch c.in_words.result.1)
    c.args.lists c.args.ids.now c.args.round.now c.in_words.result.0 (c.in_words.ensures c.args.lists c.args.ids.now b trace p)

pub returns-in-Ok-clause-unwatched : goal.returns-in-Ok-clause-unwatched
returns-in-Ok-clause-unwatched g c =
    let w = g.W.Watch in
    let (b, trace, p) = c.in-Ok.ensures.prepared in
    stops-of (λ m first picks last. EndsWatched w.begins_round w.chooses w.hears w.is_done c.args.watch c.in_words.result.1 m first picks last) _ (IsUnwatched w.begins_round w.chooses w.hears w.halts c.args.lists c.args.ids.now c.args.round.now c.args.watch c.in_words.result.1)
    c.args.lists c.args.ids.now c.args.round.now c.in_words.result.0 (c.in_words.ensures c.args.lists c.args.ids.now b trace p)

pub returns-in-Ok-clause-lawful : goal.returns-in-Ok-clause-lawful
returns-in-Ok-clause-lawful g c =
    let w = g.W.Watch in
    let (b, trace, p) = c.in-Ok.ensures.prepared in
    let Ending : Setup → System → List Pick → System → Type 0 = λ m first picks last. EndsWatched w.begins_round w.chooses w.hears w.is_done c.args.watch c.in_words.result.1 m first picks last in
    lawful-of Ending _ (IsUnwatched w.begins_round w.chooses w.hears w.halts c.args.lists c.args.ids.now c.args.round.now c.args.watch c.in_words.result.1)
    c.args.lists c.args.ids.now c.args.round.now c.in_words.result.0
    (λ result after left done. steps-lawful c.rounds_are_lawful.ensures Ending (λ m first picks last ends. (ends.watched.run ∙ ap (λ (k : Setup). run k first picks) (sym ends.setup), ends.finished)) c.args.lists c.args.ids.now trace c.args.round.now result after left c.requires.coherent c.requires.laid_down p.may.does done)
    (c.in_words.ensures c.args.lists c.args.ids.now b trace p)
