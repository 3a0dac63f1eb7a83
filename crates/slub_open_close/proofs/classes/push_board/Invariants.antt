use Rattle.std.proofs.Common.{◌≡◌, ◌-◌, ◌++◌, map, vec_capacity}
use Rattle.std.specs.List.{range_with_len}
use Rattle.slub_list_machine.specs.Parts.{state_of}
use Rattle.slub_open_close.specs.Classes.{object_number}
use Rattle.slub_open_close.proofs.classes.push_board.Given as goal

-- so many are there
abbrev pub invariant-loop-object : goal.invariant-loop-object
invariant-loop-object l = record {
  words : l.words.items ≡ l.fn.words.items ++ map (object_number (state_of l.parts)) (range_with_len 1 (l.object - 1));
  capacity : vec_capacity l.words ≡ vec_capacity l.fn.words;
}
