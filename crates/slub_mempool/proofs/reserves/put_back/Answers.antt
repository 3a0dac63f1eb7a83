use Rattle.std.proofs.Common.{◌≡◌, [], ◌∷◌, ◌++◌, List, ◌∙◌, ap, subst, MatchOption, arith}
use Rattle.std.specs.Prelude.{slice_get}
use Rattle.std.proofs.lemmas.List.Elements.{All-cons, All-nil}
use Rattle.slub_trace.specs.declared.reply.Reply.{Reply}
use Rattle.slub_slabinfo_text.specs.declared.client.ClientRound.{ClientRound}
use Rattle.slub_rounds.specs.ClientLaws.{IsNumber}
use Rattle.slub_rounds.specs.Reserves.{TellsFree}
use Rattle.slub_rounds.proofs.Allowed.{frees-may}
use Rattle.slub_rounds.proofs.ClientReplies.{one_reply}
use Rattle.slub_rounds.proofs.Stopping.{none-stopped}
use Rattle.slub_mempool.proofs.Freeing.{frees-held}
use Rattle.slub_mempool.proofs.reserves.put_back.Goals as goal

pub client_round-requires-clause-asks : goal.client_round-requires-clause-asks
client_round-requires-clause-asks c = c.requires.asks

pub client_round-requires-clause-may_do : goal.client_round-requires-clause-may_do
client_round-requires-clause-may_do c =
    let (trace, is) = c.requires.asks in
    (trace, frees-may c.args.heap trace c.args.cpu (c.args.object ∷ []) is (omega (arith, c.requires.cpu, is.cpus)) (omega arith) (All-cons (IsNumber c.args.heap) c.args.object [] c.requires.number (All-nil (IsNumber c.args.heap))))

pub freed-answer-requires : goal.freed-answer-requires
freed-answer-requires c = frees-held c.args.heap.lists c.args.cpu c.args.object c.in_ok-after.round.result c.in_ok-after.after.lists c.in_ok-after.ensures.lawful c.requires.held

pub returns-clause-put : goal.returns-clause-put
returns-clause-put c =
    let round = c.in_ok-after.round in
    let made = c.in_ok-after.ensures in
    let one = one_reply c.args.heap.lists c.args.cpu _ round.result c.in_ok-after.after.lists made.lawful in
    let items : c.from_vec.result ≡ round ∷ [] = c.from_vec.ensures ∙ c.in_ok-push.ensures.items ∙ ap (λ (l : List ClientRound). l ++ round ∷ []) c.new-rounds.ensures.items in
    let tells : TellsFree one.0 c.freed-answer.result = subst (λ (replies : List Reply). MatchOption (slice_get replies 0) ⊥ (λ reply. TellsFree reply c.freed-answer.result)) one.1 c.freed-answer.ensures in
    (round, one.0, made.done, one.1, tells, items)

pub returns-in_err-push-clause-stopped : goal.returns-in_err-push-clause-stopped
returns-in_err-push-clause-stopped c = none-stopped _ c.from_residual-in_err-push.result c.from_residual-in_err-push.ensures.1
