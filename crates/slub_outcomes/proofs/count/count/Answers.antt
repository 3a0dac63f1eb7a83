use Rattle.std.proofs.Common.{◌≡◌, ◌||◌, ◌+◌, ap, ◌∙◌, arith, Bool, length, subst, sym}
use Rattle.slub_outcomes.specs.Replays.{replies_of}
use Rattle.slub_outcomes.proofs.Replaying.{SoFar, none-so-far, one-more-so-far}
use Rattle.slub_outcomes.proofs.count.count.Goals as goal
use Rattle.slub_outcomes.proofs.count.count.Goals.{then-is_spent, else-is_spent}

pub loop-k-init : goal.loop-k-init
loop-k-init g c = none-so-far c.args.trace.now c.args.span.now c.args.from c.new-tally.result (c.new-tally.ensures c.args.from)

pub loop-k-preserved : goal.loop-k-preserved
loop-k-preserved g c =
    let either : c.if-is_spent.is_spent ≡ (c.loop-k.is_spent || c.in_ok-replayed.replayed.is_spent) = elim c.if-is_spent.branch [
      | then-is_spent w ↦ (let was : c.loop-k.is_spent ≡ _ = w.if-is_spent.true in rw was (w.is_spent-is ∙ was))
      | else-is_spent w ↦ (let was : c.loop-k.is_spent ≡ _ = w.if-is_spent.false in rw was w.is_spent-is)
    ] in
    let at = c.loop-k in
    subst (λ (spent : Bool). SoFar c.args.trace.now c.args.span.now c.args.from (c.loop-k.k + 1) c.note.new.self spent) (sym either)
    (one-more-so-far c.args.trace.now c.args.span.now c.args.from at.k (c.args.from + c.from.result) at.tally c.note.new.self at.is_spent c.in_ok-replayed.replayed at.invariant (ap (λ n. c.args.from + n) c.from.ensures) c.in_ok-replayed.ensures c.in_ok-note.ensures)

pub returns : goal.returns
returns g c =
    let is = c.loop-k.invariant in
    let all : length is.replays ≡ c.args.seeds = omega (arith, is.all, c.loop-k-test.false) in
    record {
      replays = is.replays;
      all = all;
      replayed = is.replayed;
      outcomes = c.in_ok-outcomes.ensures c.args.from (replies_of is.replays) is.tallied;
      spent = is.spent;
    }
