use Rattle.std.proofs.Common.{◌≡◌, ◌+◌, ◌<◌, sym, ◌∙◌, subst, arith}
use Rattle.std.proofs.lemmas.Bool.Decides.{nat_tests}
use Rattle.slub_common.specs.Times.{times}
use Rattle.slub_lists.specs.State.{State}
use Rattle.slub_lists.specs.Alloc.{node_of}
use Rattle.slub_lists.specs.Coherent.{times_current, times_partial}
use Rattle.slub_lists.proofs.Moving.{removed-nothing, removed-unlisted, without_spare-absent, without_spare-needed}
use Rattle.slub_list_machine.proofs.lists.Lists.drop_spare.Goals as goal
use Rattle.slub_list_machine.proofs.lists.Lists.drop_spare.Goals.{else-is_spare-via-then-is_spare+else-remove_from_node, else-is_spare-via-else-is_spare}

-- it stood on the node list, and now on no list
pub discard-requires-clause-unlisted : goal.discard-requires-clause-unlisted
discard-requires-clause-unlisted c =
    let found = c.if-remove_from_node.ensures.found in
    let there : 0 < times c.args.frame (node_of c.args.self.now c.args.cache) = grind (arith, nat_tests, found) in
    subst (λ (t : State). times_current t c.args.frame + times_partial t c.args.frame ≡ 0) (sym c.if-remove_from_node.ensures.removed)
    (removed-unlisted c.args.self.now c.args.cache c.requires.consistent c.requires.cache c.args.frame there c.requires.current)

pub returns-else-is_spare-clause-without_spare : goal.returns-else-is_spare-clause-without_spare
returns-else-is_spare-clause-without_spare c =
    elim c.else-is_spare.branch [
      | else-is_spare-via-then-is_spare+else-remove_from_node w ↦
          let found = w.if-remove_from_node.ensures.found in
          let absent : times c.args.frame (node_of c.args.self.now c.args.cache) ≡ 0 = grind (arith, nat_tests, found) in
          w.self-is ∙ w.if-remove_from_node.ensures.removed ∙ removed-nothing c.args.self.now c.args.cache c.requires.consistent c.requires.cache c.args.frame absent
          ∙ sym (without_spare-absent c.args.self.now c.args.min_partial c.args.cache c.args.frame (sym found))
      | else-is_spare-via-else-is_spare w ↦
          w.self-is ∙ sym (without_spare-needed c.args.self.now c.args.min_partial c.args.cache c.args.frame (sym w.if-is_spare.ensures))
    ]
