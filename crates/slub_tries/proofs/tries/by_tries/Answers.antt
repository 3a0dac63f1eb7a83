use Rattle.std.proofs.Common.{sym, subst}
use Rattle.slub_workers.specs.Begun.{Begun}
use Rattle.slub_tries.specs.Begun.{OpensInto}
use Rattle.slub_workers.specs.Standing.{Standing}
use Rattle.slub_tries.specs.Lone.{begins_as}
use Rattle.slub_tries.specs.Told.{AllAreTold}
use Rattle.slub_tries.proofs.tries.by_tries.Goals as goal

pub returns : goal.returns
returns g c =
    let first = c.in_ok-lone.lone in
    let last = c.all-told.new.self in
    let all = c.in_ok-told.field-0.items in
    let told = c.in_ok-told.ensures in
    record {
      lone = last;
      opens = subst (λ (key : Begun). OpensInto c.args.lists c.args.ids.now c.args.round.now key) (sym told.key) c.in_ok-lone.ensures.opens;
      told = subst (λ (key : Begun). AllAreTold key (begins_as key) all last.standing) (sym told.key)
          (subst (λ (x : Standing). AllAreTold first.key x all last.standing) c.in_ok-lone.ensures.stands told.told);
      leaves = c.close-machine.ensures;
    }
