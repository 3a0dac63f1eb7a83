use Rattle.std.proofs.Common.{◌≡◌, List, [], length, replicate, refl, sym, ap, ◌∙◌, subst, arith}
use Rattle.atomic_table.specs.Seated.{TableId}
use Rattle.atomic_table.specs.Table.{Me}
use Rattle.slub_core.specs.Local.{Local}
use Rattle.slub_core.specs.declared.guarded.Guarded.{Guarded}
use Rattle.slub_core.specs.declared.guarded.Guarded.TheVariants.{Nothing}
use Rattle.slub_workers.specs.Standing.{Standing, Fork, one_way}
use Rattle.slub_workers.specs.Rule.{standing_first}
use Rattle.slub_workers.specs.Ends.{IsIdleAt}
use Rattle.slub_workers.specs.Ranks.{view_of}
use Rattle.slub_workers.specs.Seats.{all_but_last}
use Rattle.slub_workers.specs.Workers.{MayWorkAt, worker_in}
use Rattle.slub_workers.proofs.Parts.{front-snoc}
use Rattle.slub_workers.proofs.Ranks.{all_last, all_front, all_pushed, length_snoc, fresh_last, fresh_front, view-snoc, numbers_seated, seated_next}
use Rattle.slub_workers.proofs.round.seat_all.Goals as goal

pub seat_one-requires-clause-between : goal.seat_one-requires-clause-between
seat_one-requires-clause-between c = (fresh_last c.args.shared.now.words.shared.key _ _ c.in-Some.local c.in-Some.ensures.items c.loop-local.invariant.fresh).between

pub seat_one-requires-clause-values : goal.seat_one-requires-clause-values
seat_one-requires-clause-values c = all_last (λ hand. hand.items ≡ replicate 33 Nothing) _ _ c.in-Some-pop.values c.in-Some-pop.ensures.items c.loop-local.invariant.hands

pub loop-local-preserved : goal.loop-local-preserved
loop-local-preserved c =
    let inv = c.loop-local.invariant in
    let key = c.args.shared.now.words.shared.key in
    let table = c.args.shared.now.words.shared.table_id in
    let l = c.in-Some.local in
    let s = c.seat_one.ensures in
    let p = c.push_reserved.ensures in
    let popped = c.in-Some.ensures.items in
    let hands = c.in-Some-pop.ensures.items in
    let fresh = fresh_last key _ _ l popped inv.fresh in
    let left : List Local = c.pop.new.self.items in
    let a = length_snoc _ _ l popped in
    let b = length_snoc _ _ c.in-Some-pop.values hands in
    let d = length_snoc _ _ c.seat_one.result p.items in
    let n = inv.count in
    let r = inv.room in
    let k = p.capacity in
    let front : all_but_last c.loop-local.root.me.0 ≡ view_of left =
    ap (λ (m : Me Guarded (List Fork)). all_but_last m.0) inv.view ∙ ap (λ (ls : List Local). all_but_last (view_of ls)) popped ∙ ap all_but_last (view-snoc left l)
    ∙ front-snoc (view_of left) (one_way (standing_first l)) in
    let may : MayWorkAt key table c.seat_one.result = subst (λ (w : TableId × Standing). MayWorkAt key table w) (sym s.worker) ((inv.table, fresh.may), refl) in
    let idle : IsIdleAt table c.seat_one.result = subst (λ (w : TableId × Standing). IsIdleAt table w) (sym s.worker) (inv.table, fresh.between) in
    record {
      table = s.root.0 ∙ inv.table;
      view = s.root.1 ∙ ap (λ (v : List Fork). (v, [])) front;
      fresh = fresh_front key _ left l popped inv.fresh;
      hands = all_front (λ hand. hand.items ≡ replicate 33 Nothing) _ _ c.in-Some-pop.values hands inv.hands;
      count = omega arith;
      room = omega arith;
      seated = all_pushed (MayWorkAt key table) _ _ c.seat_one.result p.items inv.seated may;
      idle = all_pushed (IsIdleAt table) _ _ c.seat_one.result p.items inv.idle idle;
      numbers = numbers_seated _ _ (length left) _ _ c.seat_one.result a p.items (ap worker_in s.worker ∙ fresh.number) inv.numbers;
      first = seated_next table _ _ _ left c.seat_one.result l p.items popped (s.worker ∙ ap (λ (t : TableId). (t, standing_first l)) inv.table) ∙ inv.first;
      capacity = c.pop.ensures.capacity ∙ inv.capacity;
    }
