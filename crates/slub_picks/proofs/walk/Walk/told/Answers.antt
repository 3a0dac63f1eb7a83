use Rattle.std.proofs.Common.{sym, refl}
use Rattle.slub_picks.proofs.Walking.{along_counted, along_going, along_stopped, there_is}
use Rattle.slub_picks.proofs.walk.Walk.told.Goals as goal

pub returns-then-not-goes_on-clause-along : goal.returns-then-not-goes_on-clause-along
returns-then-not-goes_on-clause-along c = λ worker turns unfinished left next along.
    let there = there_is c.args.self.now.entries.now c.args.self.now.place c.in-Some.entry.now c.in-Some.ensures.lookup.3.0 c.in-Some.ensures.lookup.1 in
    rw c.pass.ensures (along_stopped c.args.self.now c.in-Some.entry.now c.args.ended worker turns unfinished left there (sym c.if-not-goes_on.ensures) next along)

pub returns-in-Turns-clause-along : goal.returns-in-Turns-clause-along
returns-in-Turns-clause-along c = λ worker turns unfinished left next along.
    let there = there_is c.args.self.now.entries.now c.args.self.now.place c.in-Some.entry.now c.in-Some.ensures.lookup.3.0 c.in-Some.ensures.lookup.1 in
    along_counted c.args.self.now c.one_more-self.result c.in-Turns.n c.in-Some.entry.now c.args.ended worker turns unfinished left there (sym c.if-not-goes_on.ensures) c.in-Turns.is c.one_more-self.ensures next along

pub returns-in_default-reach : goal.returns-in_default-reach
returns-in_default-reach c = record {
  part = refl;
  workers = refl;
  along = λ worker turns unfinished left next along.
      let there = there_is c.args.self.now.entries.now c.args.self.now.place c.in-Some.entry.now c.in-Some.ensures.lookup.3.0 c.in-Some.ensures.lookup.1 in
      along_going c.args.self.now c.in-Some.entry.now c.args.ended worker turns unfinished left there (sym c.if-not-goes_on.ensures) c.in_default-reach.not-Turns next along;
}
