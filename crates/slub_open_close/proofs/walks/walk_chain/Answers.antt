use Rattle.std.proofs.Common.{◌≡◌, ◌-◌, ◌<◌, ◌≤◌, ◌++◌, List, ℕ, length, refl, sym, subst, arith}
use Rattle.slub_open_close.specs.Reads.{walked, chain_in, next_in}
use Rattle.slub_open_close.proofs.Walked.{walk-further, walk-done}
use Rattle.slub_open_close.proofs.walks.walk_chain.Goals as goal

pub loop-next-preserved : goal.loop-next-preserved
loop-next-preserved c =
    let some : 0 < c.loop-next.next = omega (arith, c.loop-next-test.true) in
    let room : length c.loop-next.free < 512 = omega (arith, c.if-len-lt-OBJECTS_MAX.true, c.len.ensures.value) in
    let step = walk-further (λ head. head - 1) (next_in c.args.setup.now c.args.memory.now c.args.cache c.args.frame) 512 c.loop-next.next c.behind-next.result (c.loop-next.next - 1) c.loop-next.free
    (chain_in c.args.setup.now c.args.memory.now c.args.cache c.args.frame c.args.head) some room refl c.behind-next.ensures c.loop-next.invariant in
    subst (λ (z : List ℕ). chain_in c.args.setup.now c.args.memory.now c.args.cache c.args.frame c.args.head ≡ z ++ walked (λ head. head - 1) (next_in c.args.setup.now c.args.memory.now c.args.cache c.args.frame) (512 - length z) c.behind-next.result)
    (sym c.push_back.ensures) step

pub returns-else-len-lt-OBJECTS_MAX : goal.returns-else-len-lt-OBJECTS_MAX
returns-else-len-lt-OBJECTS_MAX c =
    let full : 512 ≤ length c.loop-next.free = omega (arith, c.if-len-lt-OBJECTS_MAX.false, c.len.ensures.value) in
    walk-done (λ head. head - 1) (next_in c.args.setup.now c.args.memory.now c.args.cache c.args.frame) 512 c.loop-next.next c.loop-next.free (chain_in c.args.setup.now c.args.memory.now c.args.cache c.args.frame c.args.head) (λ some. full) c.loop-next.invariant

pub returns-after-loop-next : goal.returns-after-loop-next
returns-after-loop-next c =
    let none : c.loop-next.next ≤ 0 = omega (arith, c.loop-next-test.false) in
    walk-done (λ head. head - 1) (next_in c.args.setup.now c.args.memory.now c.args.cache c.args.frame) 512 c.loop-next.next c.loop-next.free (chain_in c.args.setup.now c.args.memory.now c.args.cache c.args.frame c.args.head) (λ some. absurd (omega arith)) c.loop-next.invariant
