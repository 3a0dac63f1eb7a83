use Rattle.std.proofs.Common.{◌≡◌, take, filter}
use Rattle.std.specs.Prelude.{not, is_some}
use Rattle.slub_lists.specs.Alloc.{checked_of}
use Rattle.slub_list_machine.specs.Parts.{state_of}
use Rattle.slub_open_close.proofs.facts.plain_of.Given as goal

-- those of the first caches
abbrev pub invariant-loop-cache : goal.invariant-loop-cache
invariant-loop-cache l = l.plain.items ≡ filter (λ cache. not (is_some (checked_of (state_of l.parts) cache))) (take l.cache-index l.parts.table.ages)
