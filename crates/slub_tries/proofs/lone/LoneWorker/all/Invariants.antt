use Rattle.std.proofs.Common.{◌≡◌}
use Rattle.slub_tries.specs.Told.{AreTold}
use Rattle.slub_tries.proofs.lone.LoneWorker.all.Given as goal

-- the events so far were told
abbrev pub invariant-loop : goal.invariant-loop
invariant-loop g l = record {
  key : l.self.key ≡ l.fn.self.key;
  told : AreTold l.fn.self.key l.fn.self.standing l.all.items l.self.standing;
}
