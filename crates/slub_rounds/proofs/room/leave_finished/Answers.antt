use Rattle.std.proofs.Common.{true, false, ◌≡◌, ℕ, ◌+◌, ◌-◌, ◌<◌, not, List, suc, length, get_or, ap, ◌∙◌, sym, subst, arith}
use Rattle.std.proofs.lemmas.List.{length-map, get_or_read}
use Rattle.slub_core.specs.Local.{Local}
use Rattle.slub_core.specs.Run.{idle}
use Rattle.slub_schedule.specs.Schedule.{is_finished, marks_of, places_of}
use Rattle.slub_rounds.proofs.Orders.{leaves, mark-is, marks_from, stays, worker-there}
use Rattle.slub_rounds.proofs.room.leave_finished.Goals as goal
use Rattle.slub_rounds.proofs.room.leave_finished.Goals.{then-is_finished, else-is_finished}

pub remove-requires : goal.remove-requires
remove-requires c =
    let n = length c.args.locals.now in
    let k = n - 1 - c.loop-done.done in
    let next : n - c.loop-done.done ≡ suc k = omega arith in
    let was : c.loop-done.order ≡ places_of (marks_from (suc k) (marks_of c.args.locals.now)) = c.loop-done.invariant ∙ ap (λ (j : ℕ). places_of (marks_from j (marks_of c.args.locals.now))) next in
    let there = (worker-there k (marks_of c.args.locals.now)).0 in
    omega (arith, there, ap (λ (xs : List ℕ). length xs) was)

pub loop-done-preserved : goal.loop-done-preserved
loop-done-preserved c =
    let n = length c.args.locals.now in
    let k = n - 1 - c.loop-done.done in
    let marks = marks_of c.args.locals.now in
    let next : n - c.loop-done.done ≡ suc k = omega arith in
    let now : k ≡ n - (c.loop-done.done + 1) = omega arith in
    let below : k < length marks = omega (arith, length-map c.args.locals.now (λ (l : Local). not (is_finished l))) in
    let was : c.loop-done.order ≡ places_of (marks_from (suc k) marks) = c.loop-done.invariant ∙ ap (λ (j : ℕ). places_of (marks_from j marks)) next in
    let l = c.index-locals-worker.result in
    let read : l ≡ get_or c.args.locals.now k idle = get_or_read c.args.locals.now k l (omega arith) c.index-locals-worker.is idle in
    let P : List ℕ → Type 0 = λ order. order ≡ places_of (marks_from (n - (c.loop-done.done + 1)) marks) in
    let Q : ℕ → List ℕ → Type 0 = λ j order. order ≡ places_of (marks_from j marks) in
    elim c.if-is_finished.branch [
      | then-is_finished w ↦
          let is : is_finished l ≡ not false = sym c.is_finished.ensures ∙ w.if-is_finished.true in
          subst P (sym w.order-is) (subst (λ j. Q j w.remove.new.self) now (leaves k marks c.loop-done.order w.remove.new.self below (mark-is c.args.locals.now k l false (omega arith) read is) was w.remove.ensures))
      | else-is_finished w ↦
          let is : is_finished l ≡ not true = sym c.is_finished.ensures ∙ w.if-is_finished.false in
          subst P (sym w.order-is) (subst (λ j. Q j c.loop-done.order) now (stays k marks c.loop-done.order below (mark-is c.args.locals.now k l true (omega arith) read is) was))
    ]
