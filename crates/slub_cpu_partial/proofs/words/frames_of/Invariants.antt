use Rattle.std.proofs.Common.{◌≡◌, ◌-◌, ◌^◌, ◌<◌, take}
use Rattle.std.specs.Prelude.{slice_index}
use Rattle.slub_cpu_partial.specs.Strings.{string_in, frame_after}
use Rattle.slub_cpu_partial.proofs.words.frames_of.Given as goal

-- what is written is the string so far, and the frame is the last that was written, or the front
abbrev pub invariant-loop-at : goal.invariant-loop-at
invariant-loop-at l = record {
  so_far : take l.at l.room ≡ string_in l.links l.fn.word.front l.at;
  last : l.frame ≡ frame_after (λ f. slice_index l.links f) l.fn.word.front (l.at - 1);
  small : l.frame < 2 ^ 16;
}
