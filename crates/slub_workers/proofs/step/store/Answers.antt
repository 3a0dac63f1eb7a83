use Rattle.std.proofs.Common.{◌≡◌, List, length, refl, sym, ap, ◌∙◌, arith, get_or, set}
use Rattle.std.proofs.lemmas.List.{get_or_read}
use Rattle.slub_core.specs.declared.guarded.Guarded.{Guarded}
use Rattle.slub_core.specs.declared.guarded.Guarded.TheVariants.{Nothing}
use Rattle.atomic_table.specs.Table.{Me}
use Rattle.slub_workers.specs.Standing.{Fork}
use Rattle.slub_workers.proofs.StepGoesOn.{room_in_hand}
use Rattle.slub_workers.proofs.Makes.{store_asks, holds_slot, put_back, made_given, made_kept, store_answers, stays_other, gives_none}
use Rattle.slub_workers.proofs.step.store.Goals as goal

pub bounds-values-lock : goal.bounds-values-lock
bounds-values-lock g c =
    let st = c.requires.steps in
    let low = (holds_slot c.turns_keep_ready.ensures c.picks_fit.ensures g.N.Naming.key g.N.Naming.tries g.N.Naming.standing c.args.seat.now.me c.args.values.now c.args.step c.in-LockOf.lock c.args.value st c.in-LockOf.is c.requires.op).0 in
    let long = ap length st.hand ∙ room_in_hand g.N.Naming.key g.N.Naming.standing st.may in
    omega (arith, low, long)

pub exchange-requires : goal.exchange-requires
exchange-requires g c =
    let held = holds_slot c.turns_keep_ready.ensures c.picks_fit.ensures g.N.Naming.key g.N.Naming.tries g.N.Naming.standing c.args.seat.now.me c.args.values.now c.args.step c.in-LockOf.lock c.args.value c.requires.steps c.in-LockOf.is c.requires.op in
    (c.requires.seat, (Nothing, held.1))

pub store-requires : goal.store-requires
store-requires g c =
    let r = c.requires in
    let st = r.steps in
    let lock = c.in-LockOf.lock in
    let low = (holds_slot c.turns_keep_ready.ensures c.picks_fit.ensures g.N.Naming.key g.N.Naming.tries g.N.Naming.standing c.args.seat.now.me c.args.values.now c.args.step lock c.args.value st c.in-LockOf.is r.op).0 in
    let long = ap length st.hand ∙ room_in_hand g.N.Naming.key g.N.Naming.standing st.may in
    let read = get_or_read c.args.values.now lock c.index-values-lock.result (omega (arith, low, long)) c.index-values-lock.is Nothing in
    let given : c.replace-given.result ≡ get_or c.args.values.now lock Nothing = c.replace-given.ensures.value ∙ sym c.index-values-lock.is ∙ read in
    let x = c.exchange.ensures in
    let back = put_back g.N.Naming.key g.N.Naming.tries g.N.Naming.standing c.args.seat.now.me c.exchange.new.seat.me c.args.values.now c.args.step lock c.args.value c.replace-given.result st c.in-LockOf.is r.op given x.3 in (
      x.0 ∙ r.seat,
      r.within,
      store_asks c.turns_keep_ready.ensures c.picks_fit.ensures c.args.shared.now.words.shared.key g.N.Naming.key r.key _ _ g.N.Naming.tries g.N.Naming.standing c.args.seat.now.me c.exchange.new.seat.me c.args.values.now c.args.step st
          (ap (λ (m : Me Guarded (List Fork)). m.0) x.3) c.args.word c.args.value r.word r.op back,
    )

pub returns-in-LockOf-clause-made : goal.returns-in-LockOf-clause-made
returns-in-LockOf-clause-made g c =
    let r = c.requires in
    let t = c.store.ensures.2 in
    let held = holds_slot c.turns_keep_ready.ensures c.picks_fit.ensures g.N.Naming.key g.N.Naming.tries g.N.Naming.standing c.args.seat.now.me c.args.values.now c.args.step c.in-LockOf.lock c.args.value r.steps c.in-LockOf.is r.op in
    made_given g.N.Naming.key g.N.Naming.tries g.N.Naming.standing c.args.seat.now.me c.exchange.new.seat.me c.store.new.seat.me c.args.values.now _ c.args.step t.0 c.in-LockOf.lock c.args.value c.replace-given.result _
    r.steps c.in-LockOf.is r.op (store_answers c.args.step c.args.value t.0 r.op) held.1 c.exchange.ensures.3 t.1 (ap (λ (v : Guarded). set c.args.values.now c.in-LockOf.lock v) c.replace-given.ensures.after)

pub store-requires-2 : goal.store-requires-2
store-requires-2 g c =
    let r = c.requires in (
      r.seat,
      r.within,
      store_asks c.turns_keep_ready.ensures c.picks_fit.ensures c.args.shared.now.words.shared.key g.N.Naming.key r.key _ _ g.N.Naming.tries g.N.Naming.standing c.args.seat.now.me c.args.seat.now.me c.args.values.now c.args.step r.steps refl
          c.args.word c.args.value r.word r.op (λ lock n e. absurd (gives_none c.args.step n lock c.in_default.not-LockOf e)),
    )

pub returns-clause-made : goal.returns-clause-made
returns-clause-made g c =
    let r = c.requires in
    let t = c.store-2.ensures.2 in
    made_kept g.N.Naming.key g.N.Naming.tries g.N.Naming.standing c.args.seat.now.me c.store-2.new.seat.me c.args.values.now c.args.step t.0 _ r.steps (stays_other c.args.step.place c.args.step.op t.0 c.in_default.not-LockOf)
    (store_answers c.args.step c.args.value t.0 r.op) t.1
