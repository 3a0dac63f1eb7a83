use Rattle.std.proofs.Common.{◌≡◌, true, false, arith, length, refl, rules, subst, sym, ap, Some}
use Rattle.std.specs.List.{list_any}
use Rattle.std.specs.Prelude.{nat_lt}
use Rattle.std.proofs.lemmas.Grind.{common_steps}
use Rattle.std.proofs.lemmas.Result.{IfOk-weaker}
use Rattle.slub_lists.specs.Coherent.{held_under}
use Rattle.slub_lists.specs.State.{State}
use Rattle.slub_rounds.specs.Heap.{HeapState}
use Rattle.slub_rounds.specs.Reserves.{Reserve, has_number, is_of_cache, reserve_at}
use Rattle.slub_rounds.proofs.Stopping.{whole-stopped}
use Rattle.slub_mempool.proofs.Making.{full-away, full-served}
use Rattle.slub_mempool.proofs.reserves.Reserves.mput.Goals as goal

pub returns-clause-served : goal.returns-clause-served
returns-clause-served c =
    let at = c.in-Some.at in
    let held = c.in-Some-board.held in
    let lists = ap (λ (h : HeapState). h.lists) c.heap.view_is in
    let mine : c.index.result.now ≡ reserve_at c.args.self.now at = grind (arith, common_steps) in
    let same : c.index-2.result.now ≡ reserve_at c.args.self.now at = grind (arith, common_steps) in
    let here : held_under c.args.heap.lists c.args.object ≡ Some held = search rules in
    let asked : is_of_cache c.heap.inside.lists c.index.result.now held.cache ≡ true = search rules in
    let own : is_of_cache c.args.heap.lists (reserve_at c.args.self.now at) held.cache ≡ true =
    subst (λ (r : Reserve). is_of_cache c.args.heap.lists r held.cache ≡ true) mine (subst (λ (s : State). is_of_cache s c.index.result.now held.cache ≡ true) lists asked) in
    let none : list_any (has_number c.args.object) c.args.self.now ≡ false = search rules in
    let room : nat_lt (length c.index-2.result.now.numbers) c.index-2.result.now.min_nr ≡ false = search rules in
    let full : nat_lt (length (reserve_at c.args.self.now at).numbers) (reserve_at c.args.self.now at).min_nr ≡ false =
    subst (λ (r : Reserve). nat_lt (length r.numbers) r.min_nr ≡ false) same room in
    IfOk-weaker c.put_back.result _ _ (λ done back. full-served c.args.heap c.args.self.now c.args.cpu c.args.pool.now c.args.object at held done.1 done.0 _ (sym c.in-Some.ensures.place) here own none full back refl) c.put_back.ensures.put

pub returns-clause-stopped : goal.returns-clause-stopped
returns-clause-stopped c =
    let at = c.in-Some.at in
    let held = c.in-Some-board.held in
    let lists = ap (λ (h : HeapState). h.lists) c.heap.view_is in
    let mine : c.index.result.now ≡ reserve_at c.args.self.now at = grind (arith, common_steps) in
    let same : c.index-2.result.now ≡ reserve_at c.args.self.now at = grind (arith, common_steps) in
    let here : held_under c.args.heap.lists c.args.object ≡ Some held = search rules in
    let asked : is_of_cache c.heap.inside.lists c.index.result.now held.cache ≡ true = search rules in
    let own : is_of_cache c.args.heap.lists (reserve_at c.args.self.now at) held.cache ≡ true =
    subst (λ (r : Reserve). is_of_cache c.args.heap.lists r held.cache ≡ true) mine (subst (λ (s : State). is_of_cache s c.index.result.now held.cache ≡ true) lists asked) in
    let none : list_any (has_number c.args.object) c.args.self.now ≡ false = search rules in
    let room : nat_lt (length c.index-2.result.now.numbers) c.index-2.result.now.min_nr ≡ false = search rules in
    let full : nat_lt (length (reserve_at c.args.self.now at).numbers) (reserve_at c.args.self.now at).min_nr ≡ false =
    subst (λ (r : Reserve). nat_lt (length r.numbers) r.min_nr ≡ false) same room in
    whole-stopped _ _ (λ spent. (at, sym c.in-Some.ensures.place, full-away c.args.heap c.args.self.now c.args.object at held here own none full, spent)) c.put_back.result c.put_back.ensures.stopped
