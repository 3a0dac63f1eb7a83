use Rattle.std.proofs.Common.{◌≡◌, drop, map, string_bytes}
use Rattle.slub_command.specs.Arguments.{no_dashes}
use Rattle.slub_command.proofs.command.has_no_dashes.Given as goal

abbrev pub invariant-loop-word : goal.invariant-loop-word
invariant-loop-word l = no_dashes (map string_bytes l.words) ≡ no_dashes (map string_bytes (drop l.word-index l.words))
