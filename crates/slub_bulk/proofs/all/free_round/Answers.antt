use Rattle.std.proofs.Common.{◌≡◌, ℕ, List, length, sym, ◌∙◌, ap, subst, arith}
use Rattle.std.specs.Prelude.{IfErr, IfOk}
use Rattle.std.proofs.lemmas.Result.{IfOk-weaker}
use Rattle.slub_trace.specs.declared.event.Act.{Act}
use Rattle.slub_trace.specs.declared.trace.Trace.{Trace}
use Rattle.slub_trace.specs.Sound.{objects_of}
use Rattle.slub_calls.specs.Laws.{MayDo}
use Rattle.slub_slabinfo_text.specs.Asked.{frees_of, round_of}
use Rattle.slub_law_rounds.specs.Round.{IsRound}
use Rattle.slub_engine.specs.Steps.{KeepsUnheld}
use Rattle.slub_rounds.specs.Asked.{DoesAsked, IsOpenTo, SpendsAsked, StaysOpen}
use Rattle.slub_rounds.specs.ClientStopped.{IsStoppedWhere}
use Rattle.slub_rounds.proofs.Allowed.{frees-may, frees-objects}
use Rattle.slub_bulk.proofs.Boards.{replies_even}
use Rattle.slub_bulk.proofs.all.free_round.Goals as goal

pub client_round-requires-clause-asks : goal.client_round-requires-clause-asks
client_round-requires-clause-asks c =
    let acts : c.as_slice.result.now ≡ frees_of c.args.numbers.now = c.as_slice.ensures.value ∙ c.in_ok-acts.ensures in
    let (trace, is) = c.requires.asks in
    let same = ap (λ (acts : List Act). objects_of (round_of c.args.cpu acts).events) acts ∙ frees-objects c.args.cpu c.args.numbers.now in
    (trace, subst (λ (objects : List ℕ). IsOpenTo c.args.heap trace (length objects)) (sym same) is)

pub client_round-requires-clause-may_do : goal.client_round-requires-clause-may_do
client_round-requires-clause-may_do c =
    let acts : c.as_slice.result.now ≡ frees_of c.args.numbers.now = c.as_slice.ensures.value ∙ c.in_ok-acts.ensures in
    let (trace, is) = c.requires.asks in
    let may = frees-may c.args.heap trace c.args.cpu c.args.numbers.now is (omega (arith, c.requires.cpu, is.cpus)) c.requires.few c.requires.known in
    (trace, subst (λ (acts : List Act). MayDo c.args.heap.lists trace (round_of c.args.cpu acts)) (sym acts) may)

pub returns-clause-done : goal.returns-clause-done
returns-clause-done c =
    let acts : c.as_slice.result.now ≡ frees_of c.args.numbers.now = c.as_slice.ensures.value ∙ c.in_ok-acts.ensures in
    subst (λ (acts : List Act). IfOk c.client_round.result (λ done. DoesAsked c.args.heap c.args.cpu acts done.1 done.0)) acts c.client_round.ensures.done

pub returns-clause-replies : goal.returns-clause-replies
returns-clause-replies c =
    let acts : c.as_slice.result.now ≡ frees_of c.args.numbers.now = c.as_slice.ensures.value ∙ c.in_ok-acts.ensures in
    IfOk-weaker c.client_round.result _ _
    (λ done is. replies_even c.args.heap.lists c.args.cpu c.args.numbers.now done.1.result done.0.lists (subst (λ (acts : List Act). IsRound c.args.heap.lists (round_of c.args.cpu acts) done.1.result done.0.lists) acts is)) c.client_round.ensures.lawful

pub returns-clause-stays : goal.returns-clause-stays
returns-clause-stays c =
    let acts : c.as_slice.result.now ≡ frees_of c.args.numbers.now = c.as_slice.ensures.value ∙ c.in_ok-acts.ensures in
    let same = ap (λ (acts : List Act). objects_of (round_of c.args.cpu acts).events) acts ∙ frees-objects c.args.cpu c.args.numbers.now in
    subst (λ (objects : List ℕ). IfOk c.client_round.result (λ done. (trace : Trace) → StaysOpen c.args.heap trace (length objects) done.0)) same c.client_round.ensures.stays

pub returns-clause-unheld : goal.returns-clause-unheld
returns-clause-unheld c =
    let acts : c.as_slice.result.now ≡ frees_of c.args.numbers.now = c.as_slice.ensures.value ∙ c.in_ok-acts.ensures in
    let same = ap (λ (acts : List Act). objects_of (round_of c.args.cpu acts).events) acts ∙ frees-objects c.args.cpu c.args.numbers.now in
    subst (λ (objects : List ℕ). IfOk c.client_round.result (λ done. KeepsUnheld c.args.heap.lists objects done.0.lists)) same c.client_round.ensures.unheld

pub returns-clause-stopped : goal.returns-clause-stopped
returns-clause-stopped c =
    let acts : c.as_slice.result.now ≡ frees_of c.args.numbers.now = c.as_slice.ensures.value ∙ c.in_ok-acts.ensures in
    subst (λ (acts : List Act). IfErr c.client_round.result (IsStoppedWhere (SpendsAsked c.args.heap c.args.cpu acts))) acts c.client_round.ensures.stopped
