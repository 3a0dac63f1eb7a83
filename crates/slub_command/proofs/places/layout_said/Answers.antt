use Rattle.std.proofs.Common.{rules, ◌≡◌, None}
use Rattle.slub_command.proofs.places.layout_said.Goals as goal

pub returns-in_err-flags : goal.returns-in_err-flags
returns-in_err-flags c =
    let none : c.from_residual-in_err-flags.result ≡ None = search rules in
    rw none (λ spec cpus say. c.in_err-flags.ensures spec.flags say.flags_is)
