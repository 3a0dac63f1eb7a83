use Rattle.std.proofs.Common.{ℕ, List, subst}
use Rattle.slub_lists.specs.Coherent.{IsCoherent, opening}
use Rattle.slub_items.proofs.machine.open_lists.Goals as goal

pub returns-clause-coherent : goal.returns-clause-coherent
returns-clause-coherent c =
    let trace = c.args.trace.now in
    subst (λ (names : List (List ℕ)). IsCoherent (opening trace.frames trace.cpus trace.objects names)) c.as_slice.ensures c.open.ensures.coherent
