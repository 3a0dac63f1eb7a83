use Rattle.std.proofs.Common.{arith}
use Rattle.slub_open_close.proofs.Firsts.{step-few}
use Rattle.slub_open_close.proofs.beside.step_of.Goals as goal

pub returns-clause-few : goal.returns-clause-few
returns-clause-few c =
    let p = c.next_power_of_two.ensures.power in
    step-few p.0 c.next_power_of_two.result p.1 (omega (arith, c.next_power_of_two.ensures.upper_bound, c.requires))
