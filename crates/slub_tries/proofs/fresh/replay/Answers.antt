use Rattle.std.proofs.Common.{List, ℕ, sym, subst}
use Rattle.slub_open_close.specs.Ids.{AreIds}
use Rattle.slub_tries.specs.Begun.{PlaysRound}
use Rattle.slub_tries.proofs.Ready.{first-few, fresh-ids, fresh-laid, fresh-may}
use Rattle.slub_tries.proofs.fresh.replay.Goals as goal

pub first-requires : goal.first-requires
first-requires g c = record { few = first-few c.args.trace.now c.requires }

pub by_tries-requires-clause-laid_down : goal.by_tries-requires-clause-laid_down
by_tries-requires-clause-laid_down g c = fresh-laid c.args.trace.now c.in_ok-lists.lists c.in_ok-lists.ensures

pub by_tries-requires-clause-may_do : goal.by_tries-requires-clause-may_do
by_tries-requires-clause-may_do g c = (c.args.trace.now, fresh-may c.args.trace.now c.in_ok-lists.lists c.in_ok-lists.ensures c.in-Some.round.now c.requires c.in-Some.ensures.of)

pub by_tries-requires-clause-ids : goal.by_tries-requires-clause-ids
by_tries-requires-clause-ids g c = subst (λ (ids : List ℕ). AreIds c.in_ok-lists.lists ids) (sym c.in_ok-ids.ensures) (fresh-ids c.args.trace.now c.in_ok-lists.lists c.in_ok-lists.ensures c.requires)

pub returns : goal.returns
returns g c = record {
  lists = c.in_ok-lists.lists;
  round = c.in-Some.round.now;
  set = record { fresh = c.in_ok-lists.ensures; is_round = c.in-Some.ensures.of; alone = c.in-Some.ensures.alone };
  plays = subst (λ (ids : List ℕ). PlaysRound c.in_ok-lists.lists ids c.in-Some.round.now c.in_ok-tried.tried.told.items c.in_ok-tried.tried.machine) c.in_ok-ids.ensures c.in_ok-tried.ensures;
}
