use Rattle.std.proofs.Common.{true}
use Rattle.slub_workers.proofs.worker.Worker.try_first.Given as goal

abbrev pub ghosts-first_turn : goal.ghosts-first_turn
ghosts-first_turn a = record { standing = a.standing.now; tries = true; key = a.shared.now.words.shared.key }
