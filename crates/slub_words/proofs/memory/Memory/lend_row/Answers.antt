use Rattle.std.proofs.Common.{◌+◌, ◌-◌, ◌++◌, ℕ, List, ap, ◌∙◌, length, replicate}
use Rattle.slub_words.proofs.Stored.{all-anew, laid-whole}
use Rattle.slub_words.proofs.memory.Memory.lend_row.Goals as goal

pub returns-clause-row : goal.returns-clause-row
returns-clause-row c =
    let self = c.self.inside in
    let n = length c.args.before.now in
    all-anew c.lay_between.new.row c.in_ok-row.row.items c.in_ok-row.row.len (c.lay_between.ensures.len ∙ c.as_mut_slice.ensures.len)
    ∙ laid-whole c.args.before.now self.words.items c.args.self.now c.args.behind.now _ self.count c.self.view_is
    (c.lay_between.ensures.row ∙ ap (λ (ws : List ℕ). ((c.args.before.now ++ ws) ++ replicate (n + self.count - (n + length ws)) 0) ++ c.args.behind.now) c.deref.ensures.value)
