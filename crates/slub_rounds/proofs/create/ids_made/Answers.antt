use Rattle.std.proofs.Common.{◌≡◌, ℕ, ◌∙◌, sym, ap, Option, Some}
use Rattle.std.specs.Option.{option_map_or}
use Rattle.slub_open_close.specs.Growth.{with_first}
use Rattle.slub_rounds.specs.Kmalloc.{cache_made}
use Rattle.slub_rounds.proofs.create.ids_made.Goals as goal

pub returns-in-Some : goal.returns-in-Some
returns-in-Some c = λ s cpus.
    let made : Some c.in-Some.cache ≡ cache_made c.args.made.now = sym c.in-Some.is ∙ c.cache_made.ensures in
    c.begin_cache.ensures ∙ ap (λ (n : ℕ). with_first c.args.trace.now.tid n c.in-Some.cache c.args.ids) (sym cpus)
    ∙ ap (λ (made : Option ℕ). option_map_or (λ cache. with_first c.args.trace.now.tid s.cpus cache c.args.ids) made c.args.ids) made
