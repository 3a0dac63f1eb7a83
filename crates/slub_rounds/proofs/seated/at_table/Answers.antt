use Rattle.std.proofs.Common.{ap, arith}
use Rattle.slub_rounds.proofs.Threads.{may-work, sizes-are, was-kept}
use Rattle.slub_rounds.proofs.seated.at_table.Goals as goal

pub overflow_cast-objects : goal.overflow_cast-objects
overflow_cast-objects c =
    let (s, ids, b, trace, round, set) = c.requires.set in
    let begun = c.begun-machine.ensures.begun s b round set.set.opens set.set.workers in
    omega (arith, c.len-objects.ensures, begun.waiting.board, set.set.may.beside.objects.1)

pub open-requires-clause-sizes : goal.open-requires-clause-sizes
open-requires-clause-sizes c =
    let (s, ids, b, trace, round, set) = c.requires.set in
    let sizes = sizes-are s b round c.begun-machine.result.0 c.begun-machine.result.1 (c.begun-machine.ensures.begun s b round set.set.opens set.set.workers) in
    (sizes.0, omega (arith, sizes.1, c.len-objects.ensures))

pub open-requires-clause-work : goal.open-requires-clause-work
open-requires-clause-work c =
    let (s, ids, b, trace, round, set) = c.requires.set in
    may-work s ids b trace round c.begun-machine.result.0 c.begun-machine.result.1 set.set.may (c.begun-machine.ensures.begun s b round set.set.opens set.set.workers)

pub returns-in-Ok : goal.returns-in-Ok
returns-in-Ok c = λ s ids b trace round set.
    let begun = c.begun-machine.ensures.begun s b round set.set.opens set.set.workers in
    record {
      opens = record {
        beside = b;
        trace = trace;
        may = set.set.may;
        machine = c.begun-machine.result.0;
        begun = begun;
        key_is = c.in-Ok.ensures.key;
        room = set.set.room;
      };
      seated = c.in-Ok.ensures.seated;
    }

pub undone-requires : goal.undone-requires
undone-requires c =
    let (s, ids, b, trace, round, set) = c.requires.set in (
      s,
      was-kept s ids b trace round c.args.opened c.args.locals.items c.args.kept.items c.args.answers c.begun-machine.result.0 c.in-Err.unopened.machine c.begun-machine.result.1 set
          (c.begun-machine.ensures.begun s b round set.set.opens set.set.workers) (ap (λ v. v.items) c.begun-machine.ensures.values) c.begun-machine.ensures.rest c.in-Err.ensures.unopened,
    )

pub returns-in-Err : goal.returns-in-Err
returns-in-Err c = λ s ids b trace round set.
    c.undone.ensures s (was-kept s ids b trace round c.args.opened c.args.locals.items c.args.kept.items c.args.answers c.begun-machine.result.0 c.in-Err.unopened.machine c.begun-machine.result.1 set
    (c.begun-machine.ensures.begun s b round set.set.opens set.set.workers) (ap (λ v. v.items) c.begun-machine.ensures.values) c.begun-machine.ensures.rest c.in-Err.ensures.unopened)
