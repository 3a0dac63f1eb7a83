use Rattle.std.proofs.Common.{rules, IfErr, List, [], ◌∷◌, ℕ, sym, ◌∙◌, ap, subst}
use Rattle.slub_trace.specs.declared.event.Act.TheVariants.{Alloc}
use Rattle.slub_lists.specs.State.{State}
use Rattle.slub_slabinfo_text.specs.declared.client.ClientRound.{ClientRound}
use Rattle.slub_rounds.specs.Heap.{HeapState}
use Rattle.slub_rounds.specs.Asked.{SpendsAsked}
use Rattle.slub_rounds.specs.Reserves.{Gets, TakesOne, reserve_at}
use Rattle.slub_rounds.specs.ClientStopped.{IsStoppedWhere}
use Rattle.slub_rounds.proofs.Staying.{stays-now}
use Rattle.slub_rounds.proofs.Stopping.{whole-stopped}
use Rattle.slub_mempool.specs.Serving.{AreKnown}
use Rattle.slub_mempool.proofs.Keeping.{known-after}
use Rattle.slub_mempool.proofs.reserves.Reserves.mget.Goals as goal

pub get-answer-requires-clause-known : goal.get-answer-requires-clause-known
get-answer-requires-clause-known c =
    let (trace, is) = c.requires.asks in
    let now = stays-now c.args.heap trace 1 c.in_ok-after.after is (c.in_ok-after.ensures.stays trace) in
    let same = ap (λ (h : HeapState). h.lists) c.after.view_is in
    subst (λ (s : State). AreKnown s c.args.self.now) (sym same) (known-after c.args.heap.lists c.in_ok-after.after.lists c.args.self.now (now.objects ∙ sym is.objects) c.requires.known)

pub returns-clause-served : goal.returns-clause-served
returns-clause-served c =
    let after = c.in_ok-after.after in
    let asked = subst (λ (place : ℕ). TakesOne c.args.heap c.args.cpu place c.args.object c.take_one.new.rounds.items c.in_ok-after.told after) c.cache_at.ensures c.in_ok-after.ensures.taken in
    let takes = subst (λ (rounds : List ClientRound). TakesOne c.args.heap c.args.cpu (reserve_at c.args.self.now c.in-Some.at).cache c.args.object rounds c.in_ok-after.told after) (sym c.from_vec.ensures) asked in
    let gets = subst (λ (s : State). Gets s c.args.self.now c.in-Some.at c.in_ok-after.told c.get-answer.result c.get-answer.new.self) (ap (λ (h : HeapState). h.lists) c.after.view_is) c.get-answer.ensures in
    rw (← c.in-Some.ensures.place) (c.in_ok-after.told, takes, gets)

pub returns-in_err-after-clause-stopped : goal.returns-in_err-after-clause-stopped
returns-in_err-after-clause-stopped c =
    let asks : ℕ → Type 0 = λ place. SpendsAsked c.args.heap c.args.cpu (Alloc place c.args.object ∷ []) in
    let part : IfErr c.from_residual.result (IsStoppedWhere (SpendsAsked c.args.heap c.args.cpu (Alloc c.cache_at.result c.args.object ∷ []))) = search rules in
    whole-stopped _ _ (λ spent. (c.in-Some.at, sym c.in-Some.ensures.place, subst asks c.cache_at.ensures spent)) c.from_residual.result part
