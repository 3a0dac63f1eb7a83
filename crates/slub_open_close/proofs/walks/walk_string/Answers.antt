use Rattle.std.proofs.Common.{◌≡◌, ◌+◌, ◌-◌, ◌%◌, ◌^◌, ◌<◌, ◌≤◌, ◌++◌, List, ℕ, length, get_or, refl, ap, sym, ◌∙◌, subst, arith}
use Rattle.slub_open_close.specs.Reads.{walked, string_in, link_in}
use Rattle.slub_open_close.proofs.Walked.{walk-further, walk-done}
use Rattle.slub_open_close.proofs.walks.walk_string.Goals as goal

pub overflow_add-links : goal.overflow_add-links
overflow_add-links c = omega (arith, c.from.ensures, c.loop-next.invariant.small, c.requires)

pub loop-next-preserved : goal.loop-next-preserved
loop-next-preserved c =
    let some : 0 < c.loop-next.next = omega (arith, c.loop-next-test.true) in
    let room : length c.loop-next.partial < 4095 = omega (arith, c.if-len-lt-SLABS_MAX.true, c.len.ensures.value) in
    let leads : c.low-next.result ≡ link_in c.args.table.now.words c.args.links c.loop-next.next =
    c.low-next.ensures ∙ ap (λ x. x % 2 ^ 16) c.word.ensures ∙ ap (λ f. get_or c.args.table.now.words (c.args.links + f) 0 % 2 ^ 16) c.from.ensures in
    let step = walk-further (λ frame. frame) (link_in c.args.table.now.words c.args.links) 4095 c.loop-next.next c.low-next.result c.loop-next.next c.loop-next.partial
    (string_in c.args.table.now.words c.args.links c.args.front) some room refl leads c.loop-next.invariant.whole in
    record {
      whole = subst (λ (z : List ℕ). string_in c.args.table.now.words c.args.links c.args.front ≡ z ++ walked (λ frame. frame) (link_in c.args.table.now.words c.args.links) (4095 - length z) c.low-next.result) (sym c.push_back.ensures) step;
      small = omega (arith, c.low-next.ensures);
    }

pub returns-else-len-lt-SLABS_MAX : goal.returns-else-len-lt-SLABS_MAX
returns-else-len-lt-SLABS_MAX c =
    let full : 4095 ≤ length c.loop-next.partial = omega (arith, c.if-len-lt-SLABS_MAX.false, c.len.ensures.value) in
    walk-done (λ frame. frame) (link_in c.args.table.now.words c.args.links) 4095 c.loop-next.next c.loop-next.partial (string_in c.args.table.now.words c.args.links c.args.front) (λ some. full) c.loop-next.invariant.whole

pub returns-after-loop-next : goal.returns-after-loop-next
returns-after-loop-next c =
    let none : c.loop-next.next ≤ 0 = omega (arith, c.loop-next-test.false) in
    walk-done (λ frame. frame) (link_in c.args.table.now.words c.args.links) 4095 c.loop-next.next c.loop-next.partial (string_in c.args.table.now.words c.args.links c.args.front) (λ some. absurd (omega arith)) c.loop-next.invariant.whole
