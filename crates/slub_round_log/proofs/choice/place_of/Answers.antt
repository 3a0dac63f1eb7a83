use Rattle.std.proofs.Common.{◌≡◌, ◌==◌, ℕ, List, position, None, Some, subst, sym}
use Rattle.slub_round_log.proofs.Places.{has_place, is_there}
use Rattle.slub_round_log.proofs.choice.place_of.Goals as goal

pub unreachable-requires : goal.unreachable-requires
unreachable-requires c =
    let P : List ℕ → Type 0 = λ xs. position (λ (x : ℕ). x == c.args.worker) xs ≡ None in
    has_place c.args.worker c.args.order.now c.requires (subst P c.workers.ensures (sym c.in-None.ensures))

pub returns-clause-there : goal.returns-clause-there
returns-clause-there c =
    let P : List ℕ → Type 0 = λ xs. position (λ (x : ℕ). x == c.args.worker) xs ≡ Some c.in-Some.place in
    (is_there c.args.worker c.args.order.now c.in-Some.place (subst P c.workers.ensures (sym c.in-Some.ensures))).1
