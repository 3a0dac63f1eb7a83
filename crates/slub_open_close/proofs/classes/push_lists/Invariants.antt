use Rattle.std.proofs.Common.{◌≡◌, ◌++◌, map, vec_capacity}
use Rattle.std.specs.List.{range_with_len}
use Rattle.slub_list_machine.specs.Parts.{state_of}
use Rattle.slub_open_close.specs.Classes.{list_number}
use Rattle.slub_open_close.proofs.classes.push_lists.Given as goal

-- so many are there
abbrev pub invariant-loop-number : goal.invariant-loop-number
invariant-loop-number l = record {
  words : l.words.items ≡ l.fn.words.items ++ map (list_number (state_of l.parts)) (range_with_len 0 (l.number));
  capacity : vec_capacity l.words ≡ vec_capacity l.fn.words;
}
