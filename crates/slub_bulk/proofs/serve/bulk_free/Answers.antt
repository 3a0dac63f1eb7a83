use Rattle.std.proofs.Common.{◌≡◌, List, ℕ, None, length, sym, ◌∙◌, ap, subst, All, arith}
use Rattle.std.specs.List.{range_with_len}
use Rattle.std.proofs.lemmas.List.FromFn.{length-range_with_len}
use Rattle.std.proofs.lemmas.Result.{IfOk-weaker}
use Rattle.slub_slabinfo_text.specs.Asked.{frees_of}
use Rattle.slub_slabinfo_text.specs.Bulk.{free_order}
use Rattle.slub_rounds.specs.Asked.{SpendsAsked}
use Rattle.slub_rounds.specs.BulkLines.{first_unheld, places_under}
use Rattle.slub_rounds.specs.ClientLaws.{IsNumber}
use Rattle.slub_rounds.proofs.Stopping.{whole-stopped}
use Rattle.slub_bulk.proofs.Boards.{in_order_made}
use Rattle.slub_bulk.proofs.Bulking.{order_known, order_long, range_known}
use Rattle.slub_bulk.proofs.serve.bulk_free.Goals as goal

pub numbers_from-requires : goal.numbers_from-requires
numbers_from-requires c =
    let (trace, is) = c.requires.asks in
    omega (arith, c.requires.last, is.objects, is.numbers)

pub first_unheld-requires : goal.first_unheld-requires
first_unheld-requires c =
    subst (All (IsNumber c.args.heap)) (sym (c.as_slice.ensures.value ∙ c.in_ok-numbers.ensures)) (range_known c.args.heap c.args.first c.args.count c.requires.first c.requires.last)

pub in_free_order-requires : goal.in_free_order-requires
in_free_order-requires c =
    subst (All (IsNumber c.args.heap)) (sym (c.as_slice-2.ensures.value ∙ c.in_ok-numbers.ensures)) (range_known c.args.heap c.args.first c.args.count c.requires.first c.requires.last)

pub free_all-requires-clause-known : goal.free_all-requires-clause-known
free_all-requires-clause-known c =
    let numbers = range_with_len c.args.first c.args.count in
    let order : c.as_slice-3.result.now ≡ free_order (places_under c.args.heap.lists numbers) =
    c.as_slice-3.ensures.value ∙ c.in_ok-order.ensures ∙ ap (λ (l : List ℕ). free_order (places_under c.args.heap.lists l)) (c.as_slice-2.ensures.value ∙ c.in_ok-numbers.ensures) in
    subst (All (IsNumber c.args.heap)) (sym order) (order_known c.args.heap numbers (range_known c.args.heap c.args.first c.args.count c.requires.first c.requires.last))

pub free_all-requires-clause-few : goal.free_all-requires-clause-few
free_all-requires-clause-few c =
    let (trace, is) = c.requires.asks in
    let numbers = range_with_len c.args.first c.args.count in
    let order : c.as_slice-3.result.now ≡ free_order (places_under c.args.heap.lists numbers) =
    c.as_slice-3.ensures.value ∙ c.in_ok-order.ensures ∙ ap (λ (l : List ℕ). free_order (places_under c.args.heap.lists l)) (c.as_slice-2.ensures.value ∙ c.in_ok-numbers.ensures) in
    omega (arith, ap (λ (l : List ℕ). length l) order, order_long c.args.heap.lists numbers, length-range_with_len c.args.first c.args.count, c.requires.last, is.objects, is.numbers)

pub returns-clause-served : goal.returns-clause-served
returns-clause-served c =
    let order = c.as_slice-3.ensures.value ∙ c.in_ok-order.ensures ∙ ap (λ (l : List ℕ). free_order (places_under c.args.heap.lists l)) (c.as_slice-2.ensures.value ∙ c.in_ok-numbers.ensures) in
    IfOk-weaker c.free_all.result _ _
    (λ done freed. in_order_made c.args.heap c.args.cpu (range_with_len c.args.first c.args.count) c.as_slice.result.now c.as_slice-3.result.now done.1 done.0 (c.as_slice.ensures.value ∙ c.in_ok-numbers.ensures) order c.in_default.ensures freed) c.free_all.ensures.served

pub returns-clause-stopped : goal.returns-clause-stopped
returns-clause-stopped c =
    let numbers = range_with_len c.args.first c.args.count in
    let asked = c.as_slice.ensures.value ∙ c.in_ok-numbers.ensures in
    let order = c.as_slice-3.ensures.value ∙ c.in_ok-order.ensures ∙ ap (λ (l : List ℕ). free_order (places_under c.args.heap.lists l)) (c.as_slice-2.ensures.value ∙ c.in_ok-numbers.ensures) in
    let all : first_unheld c.args.heap.lists numbers ≡ None = sym (ap (first_unheld c.args.heap.lists) asked) ∙ sym c.in_default.ensures in
    whole-stopped _ _ (λ spent. (all, subst (λ (l : List ℕ). SpendsAsked c.args.heap c.args.cpu (frees_of l)) order spent)) c.free_all.result c.free_all.ensures.stopped
