use Rattle.std.proofs.Common.{◌≡◌, ◌+◌, ◌∷◌, length, map, take}
use Rattle.slub_recording.specs.Names.{first_of, later_of}
use Rattle.slub_recording.proofs.titles.spell.Given as goal

abbrev pub invariant-loop-i : goal.invariant-loop-i
invariant-loop-i l = (take (l.i + 1) l.text ≡ first_of l.c ∷ map later_of (take l.i l.rest)) × (length l.text ≡ 31)
