use Rattle.std.proofs.Common.{◌≡◌, ◌∷◌, ◌++◌, reverse, take, ap, ◌∙◌, arith, append-nil}
use Rattle.std.proofs.lemmas.Grind.{common_steps}
use Rattle.slub_lists.specs.declared.lists.CpuLists.{CpuLists}
use Rattle.slub_lists.specs.Alloc.{lists_of, node_of}
use Rattle.slub_lists.proofs.Coherence.{popped-node}
use Rattle.slub_list_machine.proofs.lists.Lists.pop_node.Goals as goal

-- the list that is popped is the node's
first : (c : goal.After-self-3-1) → node_of c.args.self.now c.args.cache ≡ c.in_ok-frame.frame ∷ c.pop.new.self
first c =
    let now : node_of c.args.self.now c.args.cache ≡ c.index_mut-node.result.now = grind (arith, common_steps) in
    now ∙ c.in_ok-frame.ensures.popped

-- the list that slabs are put before is the CPU's, which is empty
here : (c : goal.After-self-3-1) → c.gather.new.partial ≡ reverse (take c.args.batch c.pop.new.self)
here c =
    let now : c.index_mut.result.now ≡ lists_of c.args.self.now c.args.cache c.args.cpu = grind (arith, common_steps) in
    let none = ap (λ (l : CpuLists). l.partial) now ∙ c.requires.partial in
    c.gather.ensures.here ∙ ap (λ l. reverse (take c.args.batch c.pop.new.self) ++ l) none ∙ append-nil (reverse (take c.args.batch c.pop.new.self))

pub returns-clause-popped : goal.returns-clause-popped
returns-clause-popped c =
    (popped-node c.args.self.now _ c.args.cache c.args.cpu c.requires.consistent c.requires.cache c.requires.cpu c.requires.current c.in_ok-frame.frame c.args.batch c.pop.new.self c.gather.new.partial c.gather.new.node c.requires.partial
    (first c) (here c) c.gather.ensures.there (grind (arith, common_steps))).0

pub returns-clause-consistent : goal.returns-clause-consistent
returns-clause-consistent c =
    (popped-node c.args.self.now _ c.args.cache c.args.cpu c.requires.consistent c.requires.cache c.requires.cpu c.requires.current c.in_ok-frame.frame c.args.batch c.pop.new.self c.gather.new.partial c.gather.new.node c.requires.partial
    (first c) (here c) c.gather.ensures.there (grind (arith, common_steps))).1
