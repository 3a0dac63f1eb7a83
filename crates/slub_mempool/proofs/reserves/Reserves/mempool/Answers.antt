use Rattle.std.proofs.Common.{◌<◌, length, is_some, rules, sym, ◌∙◌, ap}
use Rattle.std.proofs.lemmas.Result.{IfOk-weaker}
use Rattle.slub_rounds.specs.Reserves.{fresh_reserve}
use Rattle.slub_rounds.proofs.Stopping.{whole-stopped}
use Rattle.slub_mempool.proofs.Making.{fresh-served, fresh-spent}
use Rattle.slub_mempool.proofs.reserves.Reserves.mempool.Goals as goal

pub returns-clause-served : goal.returns-clause-served
returns-clause-served c =
    let free = ap is_some (sym c.place_of.ensures.place) ∙ sym c.is_some.ensures ∙ c.if-is_some.false in
    let room : length c.args.self.now < 8 = search rules in
    IfOk-weaker c.fill.result _ _ (λ done fills. fresh-served c.args.heap c.args.self.now (fresh_reserve c.args.pool.now c.args.place c.args.min_nr c.args.first) done.1 done.0 _ free room fills) c.fill.ensures.filled

pub returns-clause-stopped : goal.returns-clause-stopped
returns-clause-stopped c =
    let free = ap is_some (sym c.place_of.ensures.place) ∙ sym c.is_some.ensures ∙ c.if-is_some.false in
    let room : length c.args.self.now < 8 = search rules in
    whole-stopped _ _ (fresh-spent c.args.heap c.args.self.now (fresh_reserve c.args.pool.now c.args.place c.args.min_nr c.args.first) free room) c.fill.result c.fill.ensures.stopped
