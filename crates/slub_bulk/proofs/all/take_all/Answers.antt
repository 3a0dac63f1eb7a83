use Rattle.std.proofs.Common.{rules, IfErr, IsSome, Option, ◌≡◌, ℕ, ◌≤◌, ◌^◌, List, length, refl, sym, ◌∙◌, ap, subst, All, inl, inr, arith}
use Rattle.slub_trace.specs.declared.reply.Reply.{Reply}
use Rattle.slub_trace.specs.Kinds.{is_given}
use Rattle.slub_slabinfo_text.specs.declared.client.CacheRefusal.{CacheRefusal}
use Rattle.slub_slabinfo_text.specs.Asked.{first_refusal}
use Rattle.slub_rounds.specs.Asked.{SpendsAsked}
use Rattle.slub_rounds.specs.BulkLines.{FreesAgain, SpendsAgain, allocs_of, replied}
use Rattle.slub_rounds.specs.ClientLaws.{IsNumber}
use Rattle.slub_rounds.specs.ClientStopped.{IsStoppedWhere}
use Rattle.slub_rounds.proofs.Chosen.{replied_all}
use Rattle.slub_rounds.proofs.Staying.{stays-now, stays-then, unheld_after}
use Rattle.slub_rounds.proofs.Stopping.{none-stopped, whole-stopped}
use Rattle.slub_bulk.proofs.Boards.{few_given, may_take}
use Rattle.slub_bulk.proofs.Bulking.{numbers_kept}
use Rattle.slub_bulk.proofs.all.take_all.Goals as goal

pub free_again-requires-clause-asks : goal.free_again-requires-clause-asks
free_again-requires-clause-asks c =
    let (trace, is) = c.requires.asks in
    (trace, stays-now c.args.heap trace (length c.args.numbers.now) c.in_ok-mid.mid is (c.in_ok-mid.ensures.stays trace))

pub free_again-requires-clause-cpu : goal.free_again-requires-clause-cpu
free_again-requires-clause-cpu c =
    let (trace, is) = c.requires.asks in
    let now = stays-now c.args.heap trace (length c.args.numbers.now) c.in_ok-mid.mid is (c.in_ok-mid.ensures.stays trace) in
    omega (arith, c.requires.cpu, is.cpus, now.cpus)

pub free_again-requires-clause-known : goal.free_again-requires-clause-known
free_again-requires-clause-known c =
    let (trace, is) = c.requires.asks in
    let now = stays-now c.args.heap trace (length c.args.numbers.now) c.in_ok-mid.mid is (c.in_ok-mid.ensures.stays trace) in
    let given : c.as_slice.result.now ≡ replied is_given c.args.numbers.now c.as_slice-replies.result.now = c.as_slice.ensures.value ∙ c.in_ok-given.ensures in
    subst (All (IsNumber c.in_ok-mid.mid)) (sym given)
    (replied_all (IsNumber c.in_ok-mid.mid) is_given c.args.numbers.now c.as_slice-replies.result.now (numbers_kept c.args.heap c.in_ok-mid.mid trace (length c.args.numbers.now) 0 c.args.numbers.now is now c.requires.known))

pub free_again-requires-clause-few : goal.free_again-requires-clause-few
free_again-requires-clause-few c =
    let (trace, is) = c.requires.asks in
    let may = may_take c.args.heap trace c.args.cpu c.args.place c.args.numbers.now is c.requires.cpu c.requires.place c.requires.known c.requires.unheld c.requires.distinct in
    let given : c.as_slice.result.now ≡ replied is_given c.args.numbers.now c.as_slice-replies.result.now = c.as_slice.ensures.value ∙ c.in_ok-given.ensures in
    subst (λ (l : List ℕ). length l ≤ 2 ^ 32) (sym given) (few_given c.args.heap trace c.args.cpu c.args.place c.args.numbers.now c.as_slice-replies.result.now may)

pub returns-clause-stays : goal.returns-clause-stays
returns-clause-stays c = λ trace. stays-then c.args.heap c.in_ok-mid.mid c.in_ok-after.after trace (length c.args.numbers.now) (c.in_ok-mid.ensures.stays trace) (c.in_ok-after.ensures.stays trace)

pub returns-clause-unheld : goal.returns-clause-unheld
returns-clause-unheld c = unheld_after c.args.heap.lists c.in_ok-mid.mid.lists c.in_ok-after.after.lists c.args.numbers.now c.in_ok-mid.ensures.unheld c.in_ok-after.ensures.unheld

pub returns-in_err-push-clause-stopped : goal.returns-in_err-push-clause-stopped
returns-in_err-push-clause-stopped c = none-stopped _ c.from_residual-in_err-push.result c.from_residual-in_err-push.ensures.1

pub returns-in_err-given-clause-stopped : goal.returns-in_err-given-clause-stopped
returns-in_err-given-clause-stopped c = none-stopped _ c.from_residual-in_err-given.result c.from_residual-in_err-given.ensures.1

pub returns-in_err-mid-clause-stopped : goal.returns-in_err-mid-clause-stopped
returns-in_err-mid-clause-stopped c =
    let part : IfErr c.from_residual.result (IsStoppedWhere (SpendsAsked c.args.heap c.args.cpu (allocs_of c.args.place c.args.numbers.now))) = search rules in
    whole-stopped _ _ inl c.from_residual.result part

pub returns-in_err-after-clause-stopped : goal.returns-in_err-after-clause-stopped
returns-in_err-after-clause-stopped c =
    let replies = c.as_slice-replies.ensures in
    let first = c.in_ok-mid.first in
    let given : c.as_slice.result.now ≡ replied is_given c.args.numbers.now first.result.replies = c.as_slice.ensures.value ∙ c.in_ok-given.ensures ∙ ap (λ (l : List Reply). replied is_given c.args.numbers.now l) replies in
    let refused : IsSome (first_refusal first.result.replies) = subst (λ (found : Option CacheRefusal). IsSome found) (c.in-Some.ensures ∙ ap first_refusal replies) refl in
    let part : IfErr c.from_residual-in_err-after.result (IsStoppedWhere (SpendsAgain c.in_ok-mid.mid c.args.cpu c.as_slice.result.now)) = search rules in
    whole-stopped _ _ (λ spent. inr (first, c.in_ok-mid.mid, c.in_ok-mid.ensures.done, refused, subst (SpendsAgain c.in_ok-mid.mid c.args.cpu) given spent)) c.from_residual-in_err-after.result part

pub returns-clause-taken : goal.returns-clause-taken
returns-clause-taken c =
    let replies = c.as_slice-replies.ensures in
    let first = c.in_ok-mid.first in
    let given : c.as_slice.result.now ≡ replied is_given c.args.numbers.now first.result.replies = c.as_slice.ensures.value ∙ c.in_ok-given.ensures ∙ ap (λ (l : List Reply). replied is_given c.args.numbers.now l) replies in
    let again = subst (λ (l : List ℕ). FreesAgain c.in_ok-mid.mid c.args.cpu l first c.free_again.new.rounds.items c.in_ok-after.after) given c.in_ok-after.ensures.freed in
    (first, c.in_ok-mid.mid, c.in_ok-mid.ensures.done, c.in-Some.ensures ∙ ap first_refusal replies, again)
