use Rattle.std.proofs.Common.{List, ℕ, sym, subst}
use Rattle.slub_open_close.specs.Ids.{AreIds}
use Rattle.slub_tries.specs.Begun.{OpensInto}
use Rattle.slub_tries.proofs.Ready.{first-few, fresh-ids, fresh-laid, fresh-may}
use Rattle.slub_tries.proofs.fresh.begin.Goals as goal

pub first-requires : goal.first-requires
first-requires c = record { few = first-few c.args.trace.now c.requires }

pub open-requires-clause-laid_down : goal.open-requires-clause-laid_down
open-requires-clause-laid_down c = fresh-laid c.args.trace.now c.in_ok-lists.lists c.in_ok-lists.ensures

pub open-requires-clause-may_do : goal.open-requires-clause-may_do
open-requires-clause-may_do c = (c.args.trace.now, fresh-may c.args.trace.now c.in_ok-lists.lists c.in_ok-lists.ensures c.in-Some.round.now c.requires c.in-Some.ensures.of)

pub open-requires-clause-ids : goal.open-requires-clause-ids
open-requires-clause-ids c = subst (λ (ids : List ℕ). AreIds c.in_ok-lists.lists ids) (sym c.in_ok-ids.ensures) (fresh-ids c.args.trace.now c.in_ok-lists.lists c.in_ok-lists.ensures c.requires)

pub returns : goal.returns
returns c = record {
  lists = c.in_ok-lists.lists;
  round = c.in-Some.round.now;
  set = record { fresh = c.in_ok-lists.ensures; is_round = c.in-Some.ensures.of; alone = c.in-Some.ensures.alone };
  opens = subst (λ (ids : List ℕ). OpensInto c.in_ok-lists.lists ids c.in-Some.round.now c.in_ok-lone.lone.key) c.in_ok-ids.ensures c.in_ok-lone.ensures.opens;
  stands = c.in_ok-lone.ensures.stands;
}
