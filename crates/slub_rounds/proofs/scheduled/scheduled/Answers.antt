use Rattle.slub_schedule.specs.Rounds.{EndsRound}
use Rattle.slub_rounds.specs.declared.scheduled.StepsStopped.{StepsStopped}
use Rattle.slub_rounds.specs.Scheduled.{IsStopped}
use Rattle.slub_rounds.proofs.Coming.{coherent-of, does-of, ids-of, laid-of, lawful-of, stops-of}
use Rattle.slub_rounds.proofs.scheduled.scheduled.Goals as goal

pub in_words-requires : goal.in_words-requires
in_words-requires c =
    let (b, trace, p) = c.in-Ok.ensures.prepared in
    (c.args.lists, c.args.ids.now, b, trace, p)

pub returns-in-Ok-clause-does : goal.returns-in-Ok-clause-does
returns-in-Ok-clause-does c =
    let (b, trace, p) = c.in-Ok.ensures.prepared in
    does-of (λ m first picks last. EndsRound m c.args.seed first picks last) StepsStopped (IsStopped c.args.lists c.args.ids.now c.args.seed c.args.round.now) c.args.lists c.args.ids.now c.args.round.now c.in_words.result (c.in_words.ensures c.args.lists c.args.ids.now b trace p)

pub returns-in-Ok-clause-coherent : goal.returns-in-Ok-clause-coherent
returns-in-Ok-clause-coherent c =
    let (b, trace, p) = c.in-Ok.ensures.prepared in
    coherent-of (λ m first picks last. EndsRound m c.args.seed first picks last) StepsStopped (IsStopped c.args.lists c.args.ids.now c.args.seed c.args.round.now) c.args.lists c.args.ids.now c.args.round.now c.in_words.result (c.in_words.ensures c.args.lists c.args.ids.now b trace p)

pub returns-in-Ok-clause-laid_down : goal.returns-in-Ok-clause-laid_down
returns-in-Ok-clause-laid_down c =
    let (b, trace, p) = c.in-Ok.ensures.prepared in
    laid-of (λ m first picks last. EndsRound m c.args.seed first picks last) StepsStopped (IsStopped c.args.lists c.args.ids.now c.args.seed c.args.round.now) c.args.lists c.args.ids.now c.args.round.now c.in_words.result (c.in_words.ensures c.args.lists c.args.ids.now b trace p)

pub returns-in-Ok-clause-ids : goal.returns-in-Ok-clause-ids
returns-in-Ok-clause-ids c =
    let (b, trace, p) = c.in-Ok.ensures.prepared in
    ids-of (λ m first picks last. EndsRound m c.args.seed first picks last) StepsStopped (IsStopped c.args.lists c.args.ids.now c.args.seed c.args.round.now) c.args.lists c.args.ids.now c.args.round.now c.in_words.result (c.in_words.ensures c.args.lists c.args.ids.now b trace p)

pub returns-in-Ok-clause-stopped : goal.returns-in-Ok-clause-stopped
returns-in-Ok-clause-stopped c =
    let (b, trace, p) = c.in-Ok.ensures.prepared in
    stops-of (λ m first picks last. EndsRound m c.args.seed first picks last) StepsStopped (IsStopped c.args.lists c.args.ids.now c.args.seed c.args.round.now) c.args.lists c.args.ids.now c.args.round.now c.in_words.result (c.in_words.ensures c.args.lists c.args.ids.now b trace p)

pub returns-in-Ok-clause-lawful : goal.returns-in-Ok-clause-lawful
returns-in-Ok-clause-lawful c =
    let (b, trace, p) = c.in-Ok.ensures.prepared in
    lawful-of (λ m first picks last. EndsRound m c.args.seed first picks last) StepsStopped (IsStopped c.args.lists c.args.ids.now c.args.seed c.args.round.now) c.args.lists c.args.ids.now c.args.round.now c.in_words.result
    (λ result after left done. c.rounds_by_seed_are_lawful.ensures c.args.lists c.args.ids.now c.args.seed trace c.args.round.now result after left c.requires.coherent c.requires.laid_down p.may.does done)
    (c.in_words.ensures c.args.lists c.args.ids.now b trace p)
