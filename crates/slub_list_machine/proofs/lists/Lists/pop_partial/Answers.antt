use Rattle.std.proofs.Common.{◌≡◌, ◌∷◌, [], MatchOption, subst, arith}
use Rattle.std.proofs.lemmas.Grind.{common_steps}
use Rattle.slub_lists.specs.declared.lists.CpuLists.{CpuLists}
use Rattle.slub_lists.specs.Alloc.{lists_of}
use Rattle.slub_lists.proofs.Coherence.{popped-partial}
use Rattle.slub_list_machine.proofs.lists.Lists.pop_partial.Goals as goal

-- the list that is popped is the CPU's
popped : (c : goal.After-self-1) → MatchOption c.pop.result (((lists_of c.args.self.now c.args.cache c.args.cpu).partial ≡ []) × (c.pop.new.self ≡ [])) (λ item. (lists_of c.args.self.now c.args.cache c.args.cpu).partial ≡ item ∷ c.pop.new.self)
popped c =
    let now : c.index_mut.result.now ≡ lists_of c.args.self.now c.args.cache c.args.cpu = grind (arith, common_steps) in
    subst (λ (l : CpuLists). MatchOption c.pop.result ((l.partial ≡ []) × (c.pop.new.self ≡ [])) (λ item. l.partial ≡ item ∷ c.pop.new.self)) now c.pop.ensures.popped

pub returns-clause-popped : goal.returns-clause-popped
returns-clause-popped c =
    (popped-partial c.args.self.now _ c.args.cache c.args.cpu c.requires.consistent c.requires.cache c.requires.cpu c.requires.current c.pop.result c.pop.new.self (popped c) (grind (arith, common_steps))).0

pub returns-clause-consistent : goal.returns-clause-consistent
returns-clause-consistent c =
    (popped-partial c.args.self.now _ c.args.cache c.args.cpu c.requires.consistent c.requires.cache c.requires.cpu c.requires.current c.pop.result c.pop.new.self (popped c) (grind (arith, common_steps))).1
