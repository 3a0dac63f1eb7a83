use Rattle.std.proofs.Common.{◌≡◌, ◌++◌, map, get_or, vec_capacity}
use Rattle.std.specs.List.{range_with_len}
use Rattle.slub_list_machine.specs.Parts.{state_of}
use Rattle.slub_law_opening.specs.Opening.{cpu_at}
use Rattle.slub_open_close.specs.Classes.{cpu_number}
use Rattle.slub_open_close.proofs.classes.push_cpus.Given as goal

-- so many are there
abbrev pub invariant-loop-number : goal.invariant-loop-number
invariant-loop-number l = record {
  words : l.words.items ≡ l.fn.words.items ++ map (λ n. cpu_number (get_or l.tids n 0) (cpu_at (state_of l.parts) n)) (range_with_len 0 (l.number));
  capacity : vec_capacity l.words ≡ vec_capacity l.fn.words;
}
