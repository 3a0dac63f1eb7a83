use Rattle.std.proofs.Common.{◌≡◌, ◌∷◌, ap, sym, ◌∙◌, arith}
use Rattle.std.proofs.lemmas.Grind.{common_steps}
use Rattle.slub_lists.specs.declared.lists.CpuLists.{CpuLists}
use Rattle.slub_lists.specs.Alloc.{lists_of}
use Rattle.slub_lists.specs.Free.{with_partial}
use Rattle.slub_lists.proofs.Coherence.{consistent-at}
use Rattle.slub_lists.proofs.Moving.{listable-at, popped-consistent, popped-listable}
use Rattle.slub_list_machine.proofs.lists.Lists.move_front.Goals as goal

-- the list that is popped is the CPU's
first : (c : goal.After-move_one-arg-1) → (lists_of c.args.self.now c.args.cache c.args.cpu).partial ≡ c.in-Some.frame ∷ c.pop.new.self
first c =
    let now : c.index_mut.result.now ≡ lists_of c.args.self.now c.args.cache c.args.cpu = grind (arith, common_steps) in
    sym (ap (λ (l : CpuLists). l.partial) now) ∙ c.in-Some.ensures.popped

pub move_one-requires-clause-consistent : goal.move_one-requires-clause-consistent
move_one-requires-clause-consistent c =
    consistent-at (with_partial c.args.self.now c.args.cache c.args.cpu c.pop.new.self) _ (grind (arith, common_steps))
    (popped-consistent c.args.self.now c.args.cache c.args.cpu c.requires.consistent c.requires.cache c.requires.cpu c.in-Some.frame c.pop.new.self (first c))

pub move_one-requires-clause-listable : goal.move_one-requires-clause-listable
move_one-requires-clause-listable c =
    listable-at (with_partial c.args.self.now c.args.cache c.args.cpu c.pop.new.self) _ c.args.cache c.in-Some.frame (grind (arith, common_steps))
    (popped-listable c.args.self.now c.args.cache c.args.cpu c.requires.consistent c.requires.cache c.requires.cpu c.in-Some.frame c.pop.new.self (first c))

pub returns-clause-moved : goal.returns-clause-moved
returns-clause-moved c =
    let now : c.index_mut.result.now ≡ lists_of c.args.self.now c.args.cache c.args.cpu = grind (arith, common_steps) in (
      c.in-Some.frame,
      c.pop.new.self,
      sym (ap (λ (l : CpuLists). l.partial) now) ∙ c.in-Some.ensures.popped,
      grind (arith, common_steps),
    )
