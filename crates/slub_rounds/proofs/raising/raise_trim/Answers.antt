use Rattle.std.proofs.Common.{◌≡◌, Some, ap, sym, ◌∙◌}
use Rattle.slub_cache_create.specs.Table.{Table, name_at, number_of}
use Rattle.slub_lists.specs.Alloc.{named}
use Rattle.slub_rounds.proofs.Raised.{named-within}
use Rattle.slub_rounds.proofs.raising.raise_trim.Goals as goal

pub raise_of_cache-requires-clause-cache : goal.raise_of_cache-requires-clause-cache
raise_of_cache-requires-clause-cache c =
    let s = c.args.lists.now in
    let name : named s c.args.place ≡ Some c.in-Some.cache = ap (λ (t : Table). number_of t (name_at t c.args.place)) (sym c.caches.ensures) ∙ sym c.at.ensures.named ∙ c.in-Some.is in
    named-within s c.args.place c.in-Some.cache c.requires.coherent name
