use Rattle.std.proofs.Common.{◌-◌, ◌<◌, ◌≤◌, [], length, get_or, refl, ◌∙◌, arith}
use Rattle.slub_open_close.specs.Reads.{chain_in, next_in}
use Rattle.slub_open_close.proofs.OwnWalks.{begun, further, ended}
use Rattle.slub_open_close.proofs.walks.walk_own.Goals as goal
use Rattle.slub_open_close.proofs.walks.walk_own.Goals.{then-loop-next-test+else-len_of-lt-OBJECTS_MAX, else-loop-next-test}

pub loop-next-init : goal.loop-next-init
loop-next-init c =
    begun (λ head. head - 1) (next_in c.args.setup.now c.args.memory.now c.args.cache c.args.frame) c.args.frees.now c.args.frame c.clear.new.self c.args.head c.requires c.clear.ensures

pub loop-next-preserved : goal.loop-next-preserved
loop-next-preserved c =
    let some : 0 < c.loop-next.next = omega (arith, c.loop-next-test.true) in
    let room : length (get_or c.loop-next.frees c.args.frame []) < 512 = omega (arith, c.if-len_of-lt-OBJECTS_MAX.true, c.len_of.ensures.value) in
    further (λ head. head - 1) (next_in c.args.setup.now c.args.memory.now c.args.cache c.args.frame) c.args.frees.now c.args.frame c.loop-next.frees c.loop-next.next (chain_in c.args.setup.now c.args.memory.now c.args.cache c.args.frame c.args.head)
    c.loop-next.invariant c.push.new.self c.behind-next.result (c.loop-next.next - 1) some room refl c.behind-next.ensures c.push.ensures

pub returns : goal.returns
returns c =
    let done : 0 < c.loop-next.next → 512 ≤ length (get_or c.loop-next.frees c.args.frame []) =
    λ some. elim c.loop-next-test.branch [
      | then-loop-next-test+else-len_of-lt-OBJECTS_MAX w ↦ omega (arith, w.if-len_of-lt-OBJECTS_MAX.false, w.len_of.ensures.value)
      | else-loop-next-test w ↦ absurd (omega (arith, some, w.loop-next-test.false))
    ] in
    c.turn.ensures
    ∙ ended (λ head. head - 1) (next_in c.args.setup.now c.args.memory.now c.args.cache c.args.frame) c.args.frees.now c.args.frame c.loop-next.frees c.loop-next.next (chain_in c.args.setup.now c.args.memory.now c.args.cache c.args.frame c.args.head)
    c.loop-next.invariant done
