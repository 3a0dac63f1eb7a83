use Rattle.std.proofs.Common.{length, refl, ap, ◌∙◌, arith}
use Rattle.slub_workers.proofs.StepGoesOn.{room_in_hand}
use Rattle.slub_workers.proofs.Makes.{exchange_asks, lost_answers, won_answers, won_takes, won_out, made_taken, made_kept, stays_other, won_below}
use Rattle.slub_workers.proofs.step.exchange.Goals as goal

pub compare_exchange-found-requires : goal.compare_exchange-found-requires
compare_exchange-found-requires g c =
    let r = c.requires in (
      r.seat,
      r.within,
      exchange_asks c.turns_keep_ready.ensures c.picks_fit.ensures c.args.shared.now.words.shared.key g.N.Naming.key r.key _ _ g.N.Naming.tries g.N.Naming.standing c.args.seat.now.me c.args.seat.now.me c.args.values.now c.args.step r.steps refl
          c.args.word c.args.from c.args.to r.word r.op,
    )

pub returns-then-found-from-clause-made : goal.returns-then-found-from-clause-made
returns-then-found-from-clause-made g c =
    let n = c.compare_exchange-found.result in
    let a = lost_answers c.args.step c.args.from c.args.to n c.requires.op c.if-found-from.true in
    made_kept g.N.Naming.key g.N.Naming.tries g.N.Naming.standing c.args.seat.now.me c.compare_exchange-found.new.seat.me c.args.values.now c.args.step n _ c.requires.steps a.0 a.1 c.compare_exchange-found.ensures.2

pub bounds-values-lock : goal.bounds-values-lock
bounds-values-lock g c =
    let st = c.requires.steps in
    let takes = won_takes c.args.step c.in-LockOf.lock c.args.from c.args.to c.compare_exchange-found.result c.in-LockOf.is c.requires.op c.if-found-from.false in
    let low = won_below c.turns_keep_ready.ensures c.picks_fit.ensures g.N.Naming.key g.N.Naming.tries g.N.Naming.standing c.args.seat.now.me c.args.values.now c.args.step c.compare_exchange-found.result c.in-LockOf.lock st takes in
    let long = ap length st.hand ∙ room_in_hand g.N.Naming.key g.N.Naming.standing st.may in
    omega (arith, low, long)

pub exchange-requires : goal.exchange-requires
exchange-requires g c =
    let takes = won_takes c.args.step c.in-LockOf.lock c.args.from c.args.to c.compare_exchange-found.result c.in-LockOf.is c.requires.op c.if-found-from.false in (
      c.compare_exchange-found.ensures.0 ∙ c.requires.seat,
      won_out g.N.Naming.key g.N.Naming.tries g.N.Naming.standing c.args.seat.now.me c.compare_exchange-found.new.seat.me c.args.values.now c.args.step c.compare_exchange-found.result c.in-LockOf.lock c.requires.steps takes
          c.compare_exchange-found.ensures.2,
    )

pub returns-in-LockOf-clause-made : goal.returns-in-LockOf-clause-made
returns-in-LockOf-clause-made g c =
    let n = c.compare_exchange-found.result in
    let x = c.exchange.ensures in
    let takes = won_takes c.args.step c.in-LockOf.lock c.args.from c.args.to n c.in-LockOf.is c.requires.op c.if-found-from.false in
    made_taken g.N.Naming.key g.N.Naming.tries g.N.Naming.standing c.args.seat.now.me c.compare_exchange-found.new.seat.me c.exchange.new.seat.me c.args.values.now _ c.args.step n c.in-LockOf.lock c.exchange.result _ c.requires.steps takes
    (won_answers c.args.step c.args.from c.args.to n c.requires.op c.if-found-from.false) c.compare_exchange-found.ensures.2 x.2 x.3 refl

pub returns-clause-made : goal.returns-clause-made
returns-clause-made g c =
    let n = c.compare_exchange-found.result in
    made_kept g.N.Naming.key g.N.Naming.tries g.N.Naming.standing c.args.seat.now.me c.compare_exchange-found.new.seat.me c.args.values.now c.args.step n _ c.requires.steps (stays_other c.args.step.place c.args.step.op n c.in_default.not-LockOf)
    (won_answers c.args.step c.args.from c.args.to n c.requires.op c.if-found-from.false) c.compare_exchange-found.ensures.2
