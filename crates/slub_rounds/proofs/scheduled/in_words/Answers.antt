use Rattle.std.proofs.Common.{ℕ, subst}
use Rattle.slub_core.specs.Facts.{setup_of}
use Rattle.slub_schedule.specs.Rounds.{EndsRound, IsSpent}
use Rattle.slub_turns.specs.Means.{the_means}
use Rattle.slub_rounds.specs.Machine.{system_in}
use Rattle.slub_rounds.proofs.Machines.{has-ended, is-done, is-spent, ready-begun}
use Rattle.slub_rounds.proofs.scheduled.in_words.Goals as goal

pub run_turns-requires-clause-ready : goal.run_turns-requires-clause-ready
run_turns-requires-clause-ready c =
    let (s, ids, b, trace, p) = c.requires in
    ready-begun s ids b trace c.args.round.now _ _ p.may p.begun

pub run_turns-requires-clause-order : goal.run_turns-requires-clause-order
run_turns-requires-clause-order c =
    let (s, ids, b, trace, p) = c.requires in p.order

pub run_turns-requires-clause-turns : goal.run_turns-requires-clause-turns
run_turns-requires-clause-turns c =
    let (s, ids, b, trace, p) = c.requires in p.turns

pub closed-requires : goal.closed-requires
closed-requires c =
    let (s, ids, b, trace, p) = c.requires in
    let ended = c.in-Ok.ensures.ends in
    (s, ids, b, trace, has-ended s ids b trace c.args.round.now c.args.prepared.machine c.run_turns.new.seeded.machine c.args.prepared.rest c.args.prepared.answers ended.0 p.may p.begun c.run_turns.ensures.setup c.run_turns.ensures.ready ended.1.run ended.1.finished p.room)

pub returns-in-Ok : goal.returns-in-Ok
returns-in-Ok c = λ s ids b trace p.
    let ended = c.in-Ok.ensures.ends in
    let closed = c.closed.ensures s ids b trace (has-ended s ids b trace c.args.round.now c.args.prepared.machine c.run_turns.new.seeded.machine c.args.prepared.rest c.args.prepared.answers ended.0 p.may p.begun c.run_turns.ensures.setup c.run_turns.ensures.ready ended.1.run ended.1.finished p.room) in
    let E : ℕ → Type 0 = λ x. EndsRound (setup_of c.args.prepared.machine.setup the_means) x (system_in c.args.prepared.machine) ended.0 (system_in c.run_turns.new.seeded.machine) in
    is-done (λ m first picks last. EndsRound m c.args.seed first picks last) s ids b trace c.args.round.now c.args.prepared.machine c.run_turns.new.seeded.machine c.args.prepared.rest ended.0 c.closed.result p.may p.begun (subst E c.open-draws.ensures ended.1) closed

pub returns-in-Err : goal.returns-in-Err
returns-in-Err c = λ s ids b trace p.
    let spent = c.in-Err.ensures.spent in
    let E : ℕ → Type 0 = λ x. IsSpent (setup_of c.args.prepared.machine.setup the_means) x (system_in c.args.prepared.machine) spent.0 (system_in c.run_turns.new.seeded.machine) in
    is-spent (λ m first picks last. IsSpent m c.args.seed first picks last) s ids b trace c.args.round.now c.args.prepared.machine c.run_turns.new.seeded.machine c.args.prepared.rest spent.0 p.may p.begun (subst E c.open-draws.ensures spent.1)
