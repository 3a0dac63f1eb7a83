use Rattle.std.proofs.Common.{◌≡◌, ◌+◌, ◌++◌, [], ◌∷◌, List, ℕ, ap, sym, ◌∙◌}
use Rattle.slub_bulk.proofs.Bulking.{range_next}
use Rattle.slub_bulk.proofs.serve.numbers_from.Goals as goal

pub loop-at-preserved : goal.loop-at-preserved
loop-at-preserved c =
    let grown : c.push.new.self.items ≡ c.loop-at.numbers.items ++ (c.args.first + c.loop-at.at) ∷ [] = c.in_ok-push.ensures.items in
    grown ∙ ap (λ (l : List ℕ). l ++ (c.args.first + c.loop-at.at) ∷ []) c.loop-at.invariant ∙ sym (range_next c.args.first c.loop-at.at)
