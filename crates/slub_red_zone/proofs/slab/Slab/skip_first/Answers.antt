use Rattle.std.proofs.Common.{sym, refl}
use Rattle.std.proofs.lemmas.List.{drop-drop}
use Rattle.slub_red_zone.proofs.slab.Slab.skip_first.Goals as goal

pub returns : goal.returns
returns c = let e = drop-drop 1 c.self.inside.start c.self.inside.free.items in rw (sym c.self.view_is, e) refl
