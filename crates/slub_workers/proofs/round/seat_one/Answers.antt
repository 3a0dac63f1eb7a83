use Rattle.std.proofs.Common.{◌<◌, List, false, sym, ap, ◌∙◌, arith}
use Rattle.atomic_table.specs.Table.{Me}
use Rattle.slub_core.specs.declared.step.Answer.TheVariants.{Done}
use Rattle.slub_core.specs.declared.guarded.Guarded.{Guarded}
use Rattle.slub_workers.specs.Locks.{slots_out}
use Rattle.slub_workers.specs.Standing.{Fork, one_way}
use Rattle.slub_workers.specs.Rule.{standing_first}
use Rattle.slub_workers.specs.Seats.{last_alone}
use Rattle.slub_workers.proofs.Opening.{no_locks}
use Rattle.slub_workers.proofs.Parts.{deals_as, end-snoc}
use Rattle.slub_workers.proofs.round.seat_one.Goals as goal

pub split_seat-seat-requires : goal.split_seat-seat-requires
split_seat-seat-requires c =
    let r = c.requires in
    let count = c.args.shared.now.words_are in
    let many : 0 < c.args.shared.now.words.shared.table_id.words = omega arith in
    (r.table, many, deals_as _ _ c.args.root.now.me.0 r.last.0 (one_way (standing_first c.args.local)) (ap (λ (m : Me Guarded (List Fork)). m.0) r.last.1))

pub invariant_of-result : goal.invariant_of-result
invariant_of-result c =
    let r = c.requires in
    let me = c.split_seat-seat.ensures.4 in
    let f = one_way (standing_first c.args.local) in
    record {
      fork = f;
      refused = false;
      view = ap (λ (m : Me Guarded (List Fork)). m.0) me ∙ ap (λ (m : Me Guarded (List Fork)). last_alone m.0) r.last.1 ∙ end-snoc r.last.0 f;
      here = λ i. record { local = c.args.local; values = r.values i; tried = false; answer = Done; steps = 0 };
      slots = ap (λ (m : Me Guarded (List Fork)). m.1) me ∙ sym (ap slots_out (no_locks c.args.local r.between));
    }
