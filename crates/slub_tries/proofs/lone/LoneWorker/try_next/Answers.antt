use Rattle.std.proofs.Common.{slice_set, sym, subst}
use Rattle.slub_workers.specs.Standing.{Standing}
use Rattle.slub_workers.specs.Tables.{begun_at, table_of}
use Rattle.slub_workers.specs.Rule.{setup_in}
use Rattle.slub_workers.specs.Try.{MayTry}
use Rattle.slub_tries.specs.Lone.{Lone, standing_of}
use Rattle.slub_tries.specs.Told.{HasTriedNext}
use Rattle.slub_tries.proofs.Sitting.{here-of, set-alone, set-standing, told-between}
use Rattle.atomic_table.specs.Seated.{TableId}
use Rattle.slub_tries.proofs.lone.LoneWorker.try_next.Goals as goal

pub invariant_of-self-2 : goal.invariant_of-self-2
invariant_of-self-2 c =
    let inv = c.self.invariant in
    let before = c.index_mut-worker.result.now in
    let after = c.try_alloc_fast.new.self in
    let told = c.try_alloc_fast.ensures in
    let tried = told.tried (c.may_try.ensures.yes c.if-not-may_try.false) in
    record {
      count = inv.count;
      alone = set-alone _ _ _ inv.alone before after c.index_mut-worker.ensures.value told.seat told.number (told-between before.1.local c.try_alloc_fast.result after.1.local tried.told);
      room = inv.room;
    }

pub returns-clause-tried : goal.returns-clause-tried
returns-clause-tried c =
    let inv = c.self.invariant in
    let before = c.index_mut-worker.result.now in
    let after = c.try_alloc_fast.new.self in
    let fast = c.try_alloc_fast.result in
    let key = begun_at c.self.inside.shared in
    let list = c.self.inside.workers.list.items in
    let may : MayTry (setup_in key) before.1.local = c.may_try.ensures.yes c.if-not-may_try.false in
    let own : HasTriedNext key before.1 fast after.1 = (may, c.try_alloc_fast.ensures.tried may) in
    let here = here-of key (table_of c.self.inside.shared) list inv.alone before c.index_mut-worker.ensures.value in
    let first : HasTriedNext key (standing_of list) fast after.1 = subst (λ (w : TableId × Standing). HasTriedNext key w.1 fast after.1) here own in
    let last = subst (λ (x : Standing). HasTriedNext key (standing_of list) fast x) (sym (set-standing key (table_of c.self.inside.shared) list inv.alone after)) first in
    subst (λ (l : Lone). HasTriedNext l.key l.standing fast (standing_of (slice_set list 0 after))) c.self.view_is last
