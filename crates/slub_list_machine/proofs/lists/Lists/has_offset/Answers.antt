use Rattle.std.proofs.Common.{rules, w32, ◌≡◌, ◌↔◌, Some, subst, arith}
use Rattle.std.specs.Prelude.{IsTrue, ℤ}
use Rattle.std.proofs.lemmas.Grind.{common_steps}
use Rattle.std.proofs.lemmas.Int.{to_z-of_z}
use Rattle.slub_red_zone.specs.Steps.{IsOffset}
use Rattle.slub_lists.specs.Alloc.{checked_of}
use Rattle.slub_lists.proofs.CheckedReplies.{of-slabs}
use Rattle.slub_list_machine.proofs.lists.Lists.has_offset.Goals as goal

-- the slots are the cache's
pub returns : goal.returns
returns c =
    let was : checked_of c.args.self.now c.args.cache ≡ Some c.in-Some.slabs = grind (arith, common_steps) in
    of-slabs (checked_of c.args.self.now c.args.cache) c.in-Some.slabs (λ slabs. IsTrue c.has_offset.result ↔ IsOffset slabs.layout c.args.offset) was
    (subst (λ (z : ℤ). IsTrue c.has_offset.result ↔ IsOffset c.in-Some.slabs.layout z) (to_z-of_z w32 c.args.offset (search rules)) c.has_offset.ensures.offset)
