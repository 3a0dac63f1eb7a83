use Rattle.std.proofs.Common.{List, map, rules, subst}
use Rattle.std.specs.List.Sorted.{IsPermutation}
use Rattle.std.proofs.lemmas.List.Sorted.{answers_always}
use Rattle.slub_outcomes.specs.declared.tally.Outcome.{Outcome}
use Rattle.slub_outcomes.specs.Tallies.{outcome_of}
use Rattle.slub_outcomes.proofs.Ordering.{rank, ranked-all, tally-outcomes}
use Rattle.slub_outcomes.proofs.tally.Tally.into_outcomes.Goals as goal

pub returns : goal.returns
returns c =
    let moved : IsPermutation (map outcome_of c.args.self.seeds.entries) c.sort_unstable_by_key.new.self.items =
    subst (λ (outcomes : List Outcome). IsPermutation outcomes c.sort_unstable_by_key.new.self.items) c.in_ok-outcomes.ensures c.sort_unstable_by_key.ensures.permutation in
    let ordered = ranked-all c.sort_unstable_by_key.new.self.items (c.sort_unstable_by_key.ensures.sorted rank (answers_always _ _ _ (λ f a r k h. search rules))) in
    λ from texts is. tally-outcomes from texts c.args.self c.sort_unstable_by_key.new.self.items is moved ordered
