use Rattle.std.proofs.Common.{true}
use Rattle.slub_workers.proofs.worker.Worker.try_next.Given as goal

abbrev pub ghosts-next_turn : goal.ghosts-next_turn
ghosts-next_turn a = record { standing = a.standing.now; tries = true; key = a.shared.now.words.shared.key }
