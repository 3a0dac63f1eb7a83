use Rattle.std.proofs.Common.{ap, arith, length}
use Rattle.slub_trace_reader.proofs.ClassNames.{few_names}
use Rattle.slub_trace_reader.proofs.state.State.take_client.Goals as goal

pub returns-clause-keeps : goal.returns-clause-keeps
returns-clause-keeps c =
    let names = ap (λ ns. length ns) c.in_ok-put_names.ensures.names in
    let few = few_names c.args.self.now.names.keys c.args.line.now in
    record { greatest = c.in_ok-self.ensures.greatest; names = omega (arith, c.requires.keeps.names, names, few); writes = omega (arith, c.requires.keeps.writes); marked = c.in_ok-self.ensures.marked; noted = c.requires.keeps.noted }
