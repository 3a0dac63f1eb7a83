use Rattle.std.proofs.Common.{◌≡◌, ◌∙◌, ◌<◌, ℕ, List, length, get_or, ap, arith}
use Rattle.slub_lists.specs.State.{State}
use Rattle.slub_lists.proofs.FlushingCpu.{aged-live, ages-most}
use Rattle.slub_lists.proofs.Trimming.{live-below}
use Rattle.slub_list_machine.proofs.lists.Lists.slabs_on_cpu.Goals as goal

pub slabs_on-slabs-requires-clause-cache : goal.slabs_on-slabs-requires-clause-cache
slabs_on-slabs-requires-clause-cache c =
    let s : State = c.args.self.now in
    let place = c.loop-cache.cache-index in
    let same : c.in_order-cache-items.result.now ≡ s.table.ages = c.in_order-cache-items.ensures.value ∙ ap (λ (t : State). t.table.ages) c.self.view_is in
    let below : place < length s.table.ages = omega (arith, c.loop-cache-test.true, ap length same) in
    let live = aged-live s.table place c.requires.coherent.shaped.table below in
    omega (arith, live-below s (get_or s.table.ages place 0) c.requires.coherent.shaped live, ap (λ (ages : List ℕ). get_or ages place 0) same)

pub overflow_add-slabs : goal.overflow_add-slabs
overflow_add-slabs c =
    let s : State = c.args.self.now in
    let same : c.in_order-cache-items.result.now ≡ s.table.ages = c.in_order-cache-items.ensures.value ∙ ap (λ (t : State). t.table.ages) c.self.view_is in
    omega (arith, ages-most s.table c.requires.coherent.shaped.table, ap length same, c.loop-cache.invariant.most, c.slabs_on-slabs.ensures.most, c.loop-cache-test.true)
