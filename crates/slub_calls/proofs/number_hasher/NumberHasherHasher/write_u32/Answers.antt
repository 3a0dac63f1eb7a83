use Rattle.std.proofs.Common.{ap, rules}
use Rattle.slub_calls.proofs.Hashes.{number_written}
use Rattle.slub_calls.proofs.number_hasher.NumberHasherHasher.write_u32.Goals as goal

pub returns : goal.returns
returns c = ap (λ n. record { number = n }) (number_written c.args.self.now.number c.args.i (search rules) c.ranges.i.fits)
