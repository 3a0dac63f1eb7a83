use Rattle.std.proofs.Common.{ℕ, List, subst}
use Rattle.std.specs.Prelude.{IsTrue, IsFalse, ◌↔◌, ◌≡◌}
use Rattle.std.specs.List.{Contains}
use Rattle.slub_node_partial.specs.PartialList.{IsTakenOut}
use Rattle.slub_lists.proofs.Removing.{found-times, removed}
use Rattle.slub_list_machine.proofs.node.Node.remove.Goals as goal

pub returns-clause-found : goal.returns-clause-found
returns-clause-found c =
    found-times c.remove.result c.args.frame c.args.self.now (subst (λ (xs : List ℕ). IsTrue c.remove.result ↔ Contains xs c.args.frame) c.self.view_is c.remove.ensures.there)

pub returns-clause-removed : goal.returns-clause-removed
returns-clause-removed c =
    removed c.remove.result c.args.frame c.args.self.now c.remove.new.self.frames c.requires.once
    (subst (λ (xs : List ℕ). IsTrue c.remove.result ↔ Contains xs c.args.frame) c.self.view_is c.remove.ensures.there)
    (subst (λ (xs : List ℕ). IsTrue c.remove.result → IsTakenOut xs c.args.frame c.remove.new.self.frames) c.self.view_is c.remove.ensures.taken)
    (subst (λ (xs : List ℕ). IsFalse c.remove.result → c.remove.new.self.frames ≡ xs) c.self.view_is c.remove.ensures.kept)
