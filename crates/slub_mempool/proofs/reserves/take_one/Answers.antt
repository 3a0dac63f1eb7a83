use Rattle.std.proofs.Common.{◌≡◌, [], ◌∷◌, ◌++◌, List, ◌∙◌, ap, subst, MatchOption}
use Rattle.std.specs.Prelude.{slice_get}
use Rattle.slub_trace.specs.declared.reply.Reply.{Reply}
use Rattle.slub_slabinfo_text.specs.declared.client.ClientRound.{ClientRound}
use Rattle.slub_slabinfo_text.specs.Asked.{Tells}
use Rattle.slub_rounds.proofs.ClientReplies.{one_reply}
use Rattle.slub_rounds.proofs.Stopping.{none-stopped}
use Rattle.slub_bulk.proofs.Boards.{allocs_may, one_take}
use Rattle.slub_mempool.proofs.reserves.take_one.Goals as goal

pub client_round-requires-clause-asks : goal.client_round-requires-clause-asks
client_round-requires-clause-asks c = c.requires.asks

pub client_round-requires-clause-may_do : goal.client_round-requires-clause-may_do
client_round-requires-clause-may_do c =
    let (trace, is) = c.requires.asks in
    (trace, allocs_may c.args.heap trace c.args.cpu c.args.place (c.args.object ∷ []) (one_take c.args.heap trace c.args.cpu c.args.place c.args.object is c.requires.cpu c.requires.place c.requires.number c.requires.unheld))

pub returns-clause-taken : goal.returns-clause-taken
returns-clause-taken c =
    let round = c.in_ok-after.round in
    let made = c.in_ok-after.ensures in
    let one = one_reply c.args.heap.lists c.args.cpu _ round.result c.in_ok-after.after.lists made.lawful in
    let items : c.push.new.self.items ≡ round ∷ [] = c.in_ok-push.ensures.items ∙ ap (λ (l : List ClientRound). l ++ round ∷ []) c.requires.empty in
    let tells : Tells one.0 c.in_ok-told.told = subst (λ (replies : List Reply). MatchOption (slice_get replies 0) ⊥ (λ reply. Tells reply c.in_ok-told.told)) one.1 c.in_ok-told.ensures in
    (round, one.0, made.done, one.1, tells, items)

pub returns-in_err-told-clause-stopped : goal.returns-in_err-told-clause-stopped
returns-in_err-told-clause-stopped c = none-stopped _ c.from_residual-in_err-told.result c.from_residual-in_err-told.ensures.1

pub returns-in_err-push-clause-stopped : goal.returns-in_err-push-clause-stopped
returns-in_err-push-clause-stopped c = none-stopped _ c.from_residual-in_err-push.result c.from_residual-in_err-push.ensures.1
