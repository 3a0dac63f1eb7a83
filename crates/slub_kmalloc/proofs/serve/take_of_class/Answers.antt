use Rattle.std.proofs.Common.{rules, IfErr, ◌≡◌, [], ◌∷◌, refl, sym, ◌∙◌, subst, MatchOption, slice_get, List, All, arith}
use Rattle.std.proofs.lemmas.List.Elements.{All-cons, All-nil}
use Rattle.slub_trace.specs.declared.reply.Reply.{Reply}
use Rattle.slub_trace.specs.declared.event.Act.TheVariants.{Alloc}
use Rattle.slub_slabinfo_text.specs.Asked.{Tells}
use Rattle.slub_slabinfo_text.specs.Lawful.{IsUnheld}
use Rattle.slub_rounds.specs.ClientLaws.{IsNumber}
use Rattle.slub_rounds.proofs.Allowed.{allocations-may, one-differs}
use Rattle.slub_rounds.specs.Asked.{SpendsAsked}
use Rattle.slub_rounds.specs.ClientStopped.{IsStoppedWhere}
use Rattle.slub_rounds.proofs.ClientReplies.{one_reply}
use Rattle.slub_rounds.proofs.Stopping.{none-stopped, whole-stopped}
use Rattle.slub_kmalloc.proofs.serve.take_of_class.Goals as goal

pub client_round-requires-clause-asks : goal.client_round-requires-clause-asks
client_round-requires-clause-asks c = (c.args.trace.now, c.requires.asks)

pub client_round-requires-clause-may_do : goal.client_round-requires-clause-may_do
client_round-requires-clause-may_do c =
    let known : All (IsNumber c.args.heap) (c.args.object ∷ []) = All-cons (IsNumber c.args.heap) c.args.object [] (c.requires.object.0, omega (arith, c.requires.object.1, c.requires.asks.objects)) (All-nil (IsNumber c.args.heap)) in
    let unheld : All (IsUnheld c.args.heap.lists) (c.args.object ∷ []) = All-cons (IsUnheld c.args.heap.lists) c.args.object [] c.requires.unheld (All-nil (IsUnheld c.args.heap.lists)) in
    (c.args.trace.now, allocations-may c.args.heap c.args.trace.now c.args.cpu c.in-Some.cache (c.args.object ∷ []) c.requires.asks c.requires.cpu c.in-Some.ensures.within known unheld (one-differs c.args.object))

pub returns-clause-takes : goal.returns-clause-takes
returns-clause-takes c =
    let round = c.in_ok-after.round in
    let one = one_reply c.args.heap.lists c.args.cpu _ round.result c.in_ok-after.after.lists c.in_ok-after.ensures.lawful in
    let items : c.push.new.self.items ≡ round ∷ [] = c.in_ok-push.ensures.items ∙ rw c.requires.empty refl in
    let tells : Tells one.0 c.in_ok-told.told = subst (λ (replies : List Reply). MatchOption (slice_get replies 0) ⊥ (λ reply. Tells reply c.in_ok-told.told)) one.1 c.in_ok-told.ensures in
    rw (← c.in-Some.ensures.place) (round, one.0, items, c.in_ok-after.ensures.done, one.1, tells)

pub returns-clause-stays : goal.returns-clause-stays
returns-clause-stays c = c.in_ok-after.ensures.stays c.args.trace.now

pub returns-in_err-told-clause-stopped : goal.returns-in_err-told-clause-stopped
returns-in_err-told-clause-stopped c = none-stopped _ c.from_residual-in_err-told.result c.from_residual-in_err-told.ensures.1

pub returns-in_err-push-clause-stopped : goal.returns-in_err-push-clause-stopped
returns-in_err-push-clause-stopped c = none-stopped _ c.from_residual-in_err-push.result c.from_residual-in_err-push.ensures.1

pub returns-in_err-after-clause-stopped : goal.returns-in_err-after-clause-stopped
returns-in_err-after-clause-stopped c =
    let round : IfErr c.from_residual.result (IsStoppedWhere (SpendsAsked c.args.heap c.args.cpu (Alloc c.in-Some.cache c.args.object ∷ []))) = search rules in
    whole-stopped _ _ (λ spent. (c.in-Some.cache, sym c.in-Some.ensures.place, spent)) c.from_residual.result round
