use Rattle.std.proofs.Common.{◌≡◌, ◌∷◌, ◌++◌, flat_map, take}
use Rattle.slub_picks.specs.Made.{run_text}
use Rattle.slub_picks.proofs.made.Made.push_part.Given as goal

abbrev pub invariant-loop-run : goal.invariant-loop-run
invariant-loop-run l = l.text.items ≡ l.initial.text.items ++ flat_map (λ other. 44 ∷ run_text other) (take l.run-index l.others)
