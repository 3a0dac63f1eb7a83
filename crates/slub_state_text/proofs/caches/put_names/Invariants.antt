use Rattle.std.proofs.Common.{◌≡◌, ◌++◌, take, flat_map}
use Rattle.slub_state_text.specs.Caches.{name_text}
use Rattle.slub_state_text.proofs.caches.put_names.Given as goal

abbrev pub invariant-loop-named : goal.invariant-loop-named
invariant-loop-named l = l.text.items ≡ l.fn.text.items ++ flat_map (name_text l.cache) (take l.named-index l.live)
