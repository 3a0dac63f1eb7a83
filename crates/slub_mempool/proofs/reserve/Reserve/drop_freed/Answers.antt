use Rattle.std.proofs.Common.{◌≡◌, ℕ, List, filter, ap, ◌∙◌, is_some, rules}
use Rattle.std.proofs.lemmas.Fn.{filter_same}
use Rattle.slub_lists.specs.Coherent.{held_under}
use Rattle.slub_rounds.specs.Reserves.{Reserve, kept_of}
use Rattle.slub_mempool.proofs.reserve.Reserve.drop_freed.Goals as goal

pub returns : goal.returns
returns c =
    let left : c.retain.new.self.items ≡ filter (λ number. is_some (held_under c.args.lists.now number)) c.self.inside.numbers.items =
    filter_same _ (λ number. is_some (held_under c.args.lists.now number)) _ (λ x b f k. search rules) _ _ c.retain.ensures.filtered in
    let seen : List ℕ → Reserve = λ (l : List ℕ). record { name = c.self.inside.name; cache = c.self.inside.cache; min_nr = c.self.inside.min_nr; numbers = l } in
    ap seen left ∙ ap (kept_of c.args.lists.now) c.self.view_is
