use Rattle.std.proofs.Common.{List, [], take}
use Rattle.std.specs.Prelude.{All, Contains}
use Rattle.slub_recorded.specs.declared.groups.Cache.{Cache}
use Rattle.slub_recorded.specs.Members.{IsLeftOut}
use Rattle.slub_recorded.specs.Told.{IsOfLeft, left_note}
use Rattle.slub_recorded.proofs.listed.put_left_out.Given as goal

abbrev pub invariant-loop-cache : goal.invariant-loop-cache
invariant-loop-cache l = record {
  told : All (λ cache. IsLeftOut l.cpus cache l.beyond → Contains l.notes.items (left_note cache)) (take l.cache-index l.caches);
  only : (left : List Cache) → All (λ cache. IsLeftOut l.cpus cache l.beyond → Contains left cache) l.caches → All (IsOfLeft []) l.initial.notes.items → All (IsOfLeft left) l.notes.items;
}
