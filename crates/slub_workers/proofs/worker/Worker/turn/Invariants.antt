use Rattle.slub_workers.proofs.worker.Worker.turn.Given as goal

abbrev pub ghosts-turn_of : goal.ghosts-turn_of
ghosts-turn_of a = record { standing = a.standing.now; tries = a.tries; key = a.shared.now.words.shared.key }
