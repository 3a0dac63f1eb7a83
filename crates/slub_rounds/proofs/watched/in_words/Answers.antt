use Rattle.std.proofs.Common.{◌∙◌, ap, sym}
use Rattle.slub_core.specs.Facts.{setup_of}
use Rattle.slub_core.specs.Setup.{Setup}
use Rattle.slub_core.specs.Run.{run}
use Rattle.slub_turns.specs.Means.{the_means}
use Rattle.slub_rounds.specs.Machine.{system_in}
use Rattle.slub_rounds.specs.Watched.{EndsWatched, SpendsWatched, HaltsWatched}
use Rattle.slub_rounds.proofs.Machines.{has-ended, is-done, is-spent, ready-begun}
use Rattle.slub_rounds.proofs.Watching.{halted_came, spent_came}
use Rattle.slub_rounds.proofs.watched.in_words.Goals as goal

pub run_turns-ran-requires-clause-ready : goal.run_turns-ran-requires-clause-ready
run_turns-ran-requires-clause-ready g c =
    let (s, ids, b, trace, p) = c.requires in
    ready-begun s ids b trace c.args.round.now _ _ p.may p.begun

pub run_turns-ran-requires-clause-order : goal.run_turns-ran-requires-clause-order
run_turns-ran-requires-clause-order g c =
    let (s, ids, b, trace, p) = c.requires in p.order

pub run_turns-ran-requires-clause-turns : goal.run_turns-ran-requires-clause-turns
run_turns-ran-requires-clause-turns g c =
    let (s, ids, b, trace, p) = c.requires in p.turns

pub closed-requires : goal.closed-requires
closed-requires g c =
    let (s, ids, b, trace, p) = c.requires in
    let (picks, ended) = c.in-Ok.ensures.came in
    let n = c.run_turns-ran.new.watched.machine in
    let ran = ended.watched.run ∙ ap (λ (k : Setup). run k (system_in c.args.prepared.machine) picks) (sym ended.setup) in
    (s, ids, b, trace, has-ended s ids b trace c.args.round.now c.args.prepared.machine n c.args.prepared.rest c.args.prepared.answers picks p.may p.begun c.run_turns-ran.ensures.setup c.run_turns-ran.ensures.ready ran ended.finished p.room)

pub returns-in-Ok : goal.returns-in-Ok
returns-in-Ok g c = λ s ids b trace p.
    let w = g.W.Watch in
    let (picks, ended) = c.in-Ok.ensures.came in
    let n = c.run_turns-ran.new.watched.machine in
    let ran = ended.watched.run ∙ ap (λ (k : Setup). run k (system_in c.args.prepared.machine) picks) (sym ended.setup) in
    let closed = c.closed.ensures s ids b trace (has-ended s ids b trace c.args.round.now c.args.prepared.machine n c.args.prepared.rest c.args.prepared.answers picks p.may p.begun c.run_turns-ran.ensures.setup c.run_turns-ran.ensures.ready ran ended.finished p.room) in
    is-done (λ m first picks last. EndsWatched w.begins_round w.chooses w.hears w.is_done c.args.watch c.run_turns-ran.new.watched.watch m first picks last) s ids b trace c.args.round.now c.args.prepared.machine n c.args.prepared.rest picks c.closed.result p.may p.begun ended closed

pub returns-in-Err-TurnsSpent : goal.returns-in-Err-TurnsSpent
returns-in-Err-TurnsSpent g c = λ s ids b trace p.
    let w = g.W.Watch in
    let (picks, came) = c.in-Err-TurnsSpent.ensures.came in
    let a = c.args.prepared.machine in
    let n = c.run_turns-ran.new.watched in
    let spent = spent_came w.begins_round w.chooses w.hears w.halts c.args.watch n.watch c.in-Err-TurnsSpent.field-0 (setup_of a.setup the_means) (system_in a) picks (system_in n.machine) c.in-Err-TurnsSpent.field-0-is came in
    is-spent (λ m first picks last. SpendsWatched w.begins_round w.chooses w.hears c.args.watch n.watch m first picks last) s ids b trace c.args.round.now a n.machine c.args.prepared.rest picks p.may p.begun spent

pub returns : goal.returns
returns g c = λ s ids b trace p.
    let w = g.W.Watch in
    let (picks, came) = c.in-Err-Halted.ensures.came in
    let a = c.args.prepared.machine in
    let n = c.run_turns-ran.new.watched in
    let halted = halted_came w.begins_round w.chooses w.hears w.halts c.args.watch n.watch c.in-Err-Halted.field-0 c.in-Err-Halted.why (setup_of a.setup the_means) (system_in a) picks (system_in n.machine) c.in-Err-Halted.field-0-is came in
    is-spent (λ m first picks last. HaltsWatched w.begins_round w.chooses w.hears w.halts c.args.watch c.in-Err-Halted.why n.watch m first picks last) s ids b trace c.args.round.now a n.machine c.args.prepared.rest picks p.may p.begun halted
