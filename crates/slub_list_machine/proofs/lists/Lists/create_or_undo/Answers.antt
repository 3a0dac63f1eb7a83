use Rattle.std.proofs.Common.{◌≡◌, true, false, Ok, Result, IfOk, IfSome, IsOk, IsSome, is_some, refl, ap, sym, ◌∙◌, subst, arith}
use Rattle.std.specs.Result.{is_err}
use Rattle.slub_cache_create.specs.declared.caches.Created.{Created}
use Rattle.slub_cache_create.specs.declared.caches.Created.TheVariants.{New}
use Rattle.slub_cache_create.specs.declared.caches.CreateRefusal.{CreateRefusal}
use Rattle.slub_cache_create.specs.Create.{Creates, with_cache}
use Rattle.slub_cache_create.specs.Drop.{Drops}
use Rattle.slub_cache_create.specs.Sound.{IsSound}
use Rattle.slub_cache_create.specs.Table.{Table, cache_of as live_cache}
use Rattle.slub_cache_create.proofs.Noted.{not_live}
use Rattle.slub_lists.specs.State.{State}
use Rattle.slub_lists.specs.Create.{CreatesCache, with_new}
use Rattle.slub_list_machine.specs.contracts.lists.Lists.{the_view}
use Rattle.slub_lists.proofs.Creating.{failed-unchanged, made-layout, made-there, with_new-table, worked-opened}
use Rattle.slub_lists.proofs.Giving.{live-match}
use Rattle.slub_list_machine.proofs.Undoing.{dropped-undone}
use Rattle.slub_list_machine.proofs.lists.Lists.create_or_undo.Goals as goal

-- the new cache has a layout for its flags
pub open_if_checked-requires-clause-layout : goal.open_if_checked-requires-clause-layout
open_if_checked-requires-clause-layout c =
    let is : c.create-answer.result ≡ Ok (New c.in-New.cache) = c.in-Ok.is ∙ ap Ok c.in-New.is in
    let ok : IsOk c.create-answer.result = subst (λ (r : Result Created CreateRefusal). IsOk r) (sym is) refl in
    let v : State = the_view c.self.inside in
    let creates : Creates v.table c.args.name.now c.args.spec.now v.cpus (New c.in-New.cache) c.create-answer.new.self =
    subst (λ (r : Result Created CreateRefusal). IfOk r (λ created. Creates v.table c.args.name.now c.args.spec.now v.cpus created c.create-answer.new.self)) is c.create-answer.ensures.created in
    let sound : IsSound v.table = subst (λ (m : State). IsSound m.table) (sym c.self.view_is) c.requires.coherent.shaped.table in
    let cpus = ap (λ (m : State). m.cpus) c.self.view_is in
    made-layout v.table c.args.name.now c.args.spec.now v.cpus c.in-New.cache c.create-answer.new.self sound (c.create-answer.ensures.accepted ok).1
    (omega (arith, c.requires.coherent.shaped.cpus.0, cpus)) (omega (arith, c.requires.coherent.shaped.cpus.1, cpus)) creates

-- the name and its cache are dropped again
pub returns-then-is_err-clause-unchanged : goal.returns-then-is_err-clause-unchanged
returns-then-is_err-clause-unchanged c =
    let is : c.create-answer.result ≡ Ok (New c.in-New.cache) = c.in-Ok.is ∙ ap Ok c.in-New.is in
    let ok : IsOk c.create-answer.result = subst (λ (r : Result Created CreateRefusal). IsOk r) (sym is) refl in
    let v : State = the_view c.self.inside in
    let inner : State = the_view c.self-in-New.inside in
    let new : Table = c.create-answer.new.self in
    let creates : Creates v.table c.args.name.now c.args.spec.now v.cpus (New c.in-New.cache) new =
    subst (λ (r : Result Created CreateRefusal). IfOk r (λ created. Creates v.table c.args.name.now c.args.spec.now v.cpus created new)) is c.create-answer.ensures.created in
    let sound : IsSound v.table = subst (λ (m : State). IsSound m.table) (sym c.self.view_is) c.requires.coherent.shaped.table in
    let failed : is_err c.open_if_checked.result ≡ true = sym c.is_err.ensures.value ∙ c.if-is_err.true in
    let same : c.open_if_checked.new.self ≡ record v { table = new } = failed-unchanged c.open_if_checked.result c.open_if_checked.new.self (record v { table = new }) failed c.open_if_checked.ensures.unchanged in
    let whole : inner ≡ record v { table = new } = c.self-in-New.view_is ∙ same in
    let made : inner.table ≡ with_cache v.table c.args.name.now c.args.spec.now creates.2 c.in-New.cache = ap (λ (m : State). m.table) whole ∙ creates.4 in
    let drops : Drops (with_cache v.table c.args.name.now c.args.spec.now creates.2 c.in-New.cache) c.args.name.now c.drop_name-dropped.result c.drop_name-dropped.new.self =
    subst (λ (t : Table). Drops t c.args.name.now c.drop_name-dropped.result c.drop_name-dropped.new.self) made c.drop_name-dropped.ensures.dropped in
    let undone : c.drop_name-dropped.new.self ≡ v.table =
    dropped-undone v.table c.args.name.now c.args.spec.now creates.2 c.in-New.cache sound (not_live v.table c.args.name.now (c.create-answer.ensures.accepted ok).0.free) creates.1.within creates.1.unused
    c.drop_name-dropped.result c.drop_name-dropped.new.self drops in
    ap (λ (m : State). record m { table = c.drop_name-dropped.new.self }) whole ∙ ap (λ (t : Table). record v { table = t }) undone ∙ c.self.view_is

-- what the new cache has was made for it
opened : (c : goal.Else-is_err) → IfSome (live_cache c.create-answer.new.self c.in-New.cache)
    (λ live. let v : State = the_view c.self.inside in c.open_if_checked.new.self ≡ with_new (record v { table = c.create-answer.new.self }) c.create-answer.new.self c.in-New.cache live)
opened c =
    let worked : is_err c.open_if_checked.result ≡ false = sym c.is_err.ensures.value ∙ c.if-is_err.false in
    worked-opened c.open_if_checked.result _ worked c.open_if_checked.ensures.opened

live : (c : goal.Else-is_err) → IsSome (live_cache c.create-answer.new.self c.in-New.cache)
live c =
    let is : c.create-answer.result ≡ Ok (New c.in-New.cache) = c.in-Ok.is ∙ ap Ok c.in-New.is in
    let v : State = the_view c.self.inside in
    let creates : Creates v.table c.args.name.now c.args.spec.now v.cpus (New c.in-New.cache) c.create-answer.new.self =
    subst (λ (r : Result Created CreateRefusal). IfOk r (λ created. Creates v.table c.args.name.now c.args.spec.now v.cpus created c.create-answer.new.self)) is c.create-answer.ensures.created in
    let sound : IsSound v.table = subst (λ (m : State). IsSound m.table) (sym c.self.view_is) c.requires.coherent.shaped.table in
    ap is_some (made-there v.table c.args.name.now c.args.spec.now v.cpus c.in-New.cache c.create-answer.new.self sound creates)

pub returns-else-is_err-clause-created : goal.returns-else-is_err-clause-created
returns-else-is_err-clause-created c =
    let is : c.create-answer.result ≡ Ok (New c.in-New.cache) = c.in-Ok.is ∙ ap Ok c.in-New.is in
    let v : State = the_view c.self.inside in
    let new : Table = c.create-answer.new.self in
    let creates : Creates v.table c.args.name.now c.args.spec.now v.cpus (New c.in-New.cache) new =
    subst (λ (r : Result Created CreateRefusal). IfOk r (λ created. Creates v.table c.args.name.now c.args.spec.now v.cpus created new)) is c.create-answer.ensures.created in
    let whole : CreatesCache v c.args.name.now c.args.spec.now (New c.in-New.cache) c.open_if_checked.new.self =
    (new, creates, live-match (live_cache new c.in-New.cache) (λ l. c.open_if_checked.new.self ≡ with_new v new c.in-New.cache l) (live c) (opened c)) in
    subst (λ (m : State). CreatesCache m c.args.name.now c.args.spec.now c.in-Ok.created c.open_if_checked.new.self) c.self.view_is
    (subst (λ (made : Created). CreatesCache v c.args.name.now c.args.spec.now made c.open_if_checked.new.self) (sym c.in-New.is) whole)

pub returns-else-is_err-clause-sound : goal.returns-else-is_err-clause-sound
returns-else-is_err-clause-sound c =
    let v : State = the_view c.self.inside in
    let same : c.open_if_checked.new.self.table ≡ c.create-answer.new.self =
    with_new-table (record v { table = c.create-answer.new.self }) c.in-New.cache (live_cache c.create-answer.new.self c.in-New.cache) c.open_if_checked.new.self (live c) (opened c) in
    subst IsSound (sym same) c.create-answer.ensures.sound
