use Rattle.std.proofs.Common.{arith}
use Rattle.slub_open_close.specs.Ids.{IsStepOf}
use Rattle.slub_open_close.proofs.Steps.{step-is}
use Rattle.slub_open_close.proofs.growth.step_of.Goals as goal

pub returns : goal.returns
returns c =
    let power = c.next_power_of_two.ensures.power in
    let is : IsStepOf c.args.cpus c.next_power_of_two.result = (power, omega (arith, c.next_power_of_two.ensures.lower_bound), omega (arith, c.next_power_of_two.ensures.upper_bound, c.requires)) in
    step-is c.args.cpus c.next_power_of_two.result is c.requires.0 c.requires.1
