use Rattle.std.proofs.Common.{◌≡◌, ◌+◌, ◌-◌, ◌++◌, ℕ, List, ap, sym, ◌∙◌, subst, length, replicate}
use Rattle.std.specs.List.{slice_range}
use Rattle.slub_words.proofs.Stored.{zeros-between}
use Rattle.slub_words.proofs.memory.Memory.keep_row.Goals as goal

pub clear_around-requires-clause-zeros : goal.clear_around-requires-clause-zeros
clear_around-requires-clause-zeros c =
    let self = c.self.inside in
    let n = length c.args.before.now in
    let row = c.as_mut_slice.result.now in
    subst (λ (k : ℕ). slice_range row (n + k) (n + self.count) ≡ replicate (n + self.count - (n + k)) 0) (sym (c.len.ensures ∙ self.words.ok.0))
    (zeros-between c.args.before.now self.words.items c.args.behind.now row self.count c.self.invariant.0
    (c.as_mut_slice.ensures.value ∙ c.requires ∙ ap (λ (all : List ℕ). (c.args.before.now ++ all) ++ c.args.behind.now) (sym c.self.view_is)))
