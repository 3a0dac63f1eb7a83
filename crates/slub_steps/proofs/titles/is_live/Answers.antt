use Rattle.std.proofs.Common.{◌≡◌, cond, Bool, true, false, ap, refl, ◌∙◌}
use Rattle.std.specs.Prelude.{nat_lt, is_some, ◌==◌}
use Rattle.std.specs.List.{list_any}
use Rattle.slub_cache_create.specs.Table.{cache_of}
use Rattle.slub_open_close.proofs.Marks.{any-times}
use Rattle.slub_steps.proofs.titles.is_live.Goals as goal

one-some : (b : Bool) → nat_lt 0 (cond b 1 0) ≡ b
one-some true = refl
one-some false = refl

pub returns : goal.returns
returns c =
    c.contains.ensures.value
    ∙ ap (λ xs. list_any (λ y. y == c.args.cache) xs) c.in_order.ensures.value
    ∙ any-times c.args.cache c.args.caches.now.ages
    ∙ ap (λ n. nat_lt 0 n) (c.in_order.ensures.sound.aged c.args.cache)
    ∙ one-some (is_some (cache_of c.args.caches.now c.args.cache))
