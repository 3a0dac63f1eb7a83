use Rattle.std.proofs.Common.{◌≡◌, take, map}
use Rattle.slub_recorded.specs.Naming.{title_of}
use Rattle.slub_recorded.proofs.naming.titles_by.Given as goal

abbrev pub invariant-loop-one : goal.invariant-loop-one
invariant-loop-one l = l.titles.items ≡ map (title_of l.names l.sites.entries) (take l.one-index l.known)
