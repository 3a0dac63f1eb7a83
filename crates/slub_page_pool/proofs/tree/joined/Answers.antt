-- `1 << order` is 2 ^ order.
use Rattle.std.proofs.Common.{◌+◌, sym, ◌∙◌, arith}
use Rattle.std.proofs.lemmas.Nat.{one_shl}
use Rattle.slub_page_pool.proofs.RunOrders.{joined-whole, joined-left, joined-right}
use Rattle.slub_page_pool.proofs.tree.joined.Goals as goal
use Rattle.slub_page_pool.proofs.tree.joined.Goals.{else-left-order-via-then-left-order+else-right-order, else-left-order-via-else-left-order}

pub returns-then-right-order : goal.returns-then-right-order
returns-then-right-order c =
    let one = one_shl c.args.order 16 (omega arith) in
    one_shl (c.args.order + 1) 16 (omega arith) ∙ sym (joined-whole c.args.order c.args.left c.args.right (c.if-left-order.true ∙ one) (c.if-right-order.true ∙ one))

pub returns-else-left-order : goal.returns-else-left-order
returns-else-left-order c =
    let one = one_shl c.args.order 16 (omega arith) in
    elim c.else-left-order.branch [
      | else-left-order-via-then-left-order+else-right-order w ↦ sym (joined-right c.args.order c.args.left c.args.right (λ same. w.if-right-order.false (same ∙ sym one)))
      | else-left-order-via-else-left-order w ↦ sym (joined-left c.args.order c.args.left c.args.right (λ same. w.if-left-order.false (same ∙ sym one)))
    ]
