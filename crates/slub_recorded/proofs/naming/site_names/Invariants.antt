use Rattle.std.proofs.Common.{◌≡◌, take, []}
use Rattle.std.specs.Prelude.{fold}
use Rattle.slub_recorded.specs.Naming.{sites_after}
use Rattle.slub_recorded.proofs.naming.site_names.Given as goal

abbrev pub invariant-loop-one : goal.invariant-loop-one
invariant-loop-one l = l.sites.entries ≡ fold sites_after [] (take l.one-index l.known)
