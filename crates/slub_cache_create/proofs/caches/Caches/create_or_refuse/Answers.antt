use Rattle.std.proofs.Common.{rules, refl}
use Rattle.slub_cache_create.specs.Create.{IsOpenTo}
use Rattle.slub_cache_create.proofs.Layouts.{IsLiveLayout-made}
use Rattle.slub_cache_create.proofs.Unique.{creates-kept}
use Rattle.slub_cache_create.proofs.caches.Caches.create_or_refuse.Goals as goal

pub add-requires-clause-layout : goal.add-requires-clause-layout
add-requires-clause-layout c = IsLiveLayout-made c.args.spec.now c.args.cpus c.in_ok-layout.layout c.in_ok-layout.ensures.solved c.in_ok-layout.ensures.bounds

pub returns-clause-accepted : goal.returns-clause-accepted
returns-clause-accepted c = λ is. let open_to : IsOpenTo c.args.self.now c.args.name.now = search rules in (open_to, c.in_ok-layout.ensures.accepted.0 refl)

pub returns-clause-kept : goal.returns-clause-kept
returns-clause-kept c =
    creates-kept c.args.self.now c.args.name.now c.args.spec.now c.args.cpus c.in_ok-add.field-0 c.add.new.self (c.in_ok-add.ensures.created c.args.cpus c.in_ok-layout.ensures.solved)
