use Rattle.std.proofs.Common.{◌≡◌, ℕ, ◌+◌, ◌<◌, ◌≤◌, eqb, false, List, length, take, get_or, sym, ◌∙◌, ap, arith}
use Rattle.std.specs.List.{list_any}
use Rattle.std.proofs.lemmas.List.{get_or_default, length-append}
use Rattle.slub_slabinfo_text.specs.Bulk.{objects_of_slab}
use Rattle.slub_bulk.specs.declared.order.ObjectAt.{ObjectAt}
use Rattle.slub_bulk.specs.Places.{places_of}
use Rattle.slub_bulk.proofs.Writing.{all_written, join, order_next, order_room, order_seen, order_to}
use Rattle.slub_bulk.proofs.order.free_order.Goals as goal
use Rattle.slub_bulk.proofs.order.free_order.Goals.{then-not-has_slab, else-not-has_slab}

abbrev blank : ObjectAt
blank = record { object = 0; frame = 0 }

next_room : (places : List ObjectAt) (i at room : ℕ) (place : ObjectAt) → i < length places → place ≡ get_or places i place
    → list_any (λ (other : ObjectAt). eqb other.frame place.frame) (take i places) ≡ false
    → at ≡ length (order_to places i) → room ≡ length places → at + length (objects_of_slab (places_of places) place.frame) ≤ room
next_room places i at room place within is unseen ends even =
    let more = order_next places i place within is unseen in
    let long : length (order_to places (i + 1)) ≡ length (order_to places i) + length (objects_of_slab (places_of places) place.frame) =
    ap (λ (list : List ℕ). length list) more ∙ length-append (order_to places i) (objects_of_slab (places_of places) place.frame) in
    omega (arith, ends, even, long, order_room places (i + 1))

pub write_slab-at-requires : goal.write_slab-at-requires
write_slab-at-requires c =
    let within : c.loop-first.first < length c.args.places.now = omega arith in
    let place : ObjectAt = get_or c.args.places.now c.loop-first.first blank in
    record {
      room = next_room c.args.places.now c.loop-first.first c.loop-first.at (length c.loop-first.out) place within (get_or_default c.args.places.now c.loop-first.first blank place within)
          (sym c.has_slab.ensures ∙ c.if-not-has_slab.true) c.loop-first.invariant.at (omega (arith, c.requires, c.loop-first.invariant.long));
    }

pub returns : goal.returns
returns c =
    all_written c.args.places.now c.args.out.now c.loop-first.out c.loop-first.first c.loop-first.at (omega arith) c.requires c.loop-first.invariant.at c.loop-first.invariant.written

pub loop-first-preserved : goal.loop-first-preserved
loop-first-preserved c =
    let within : c.loop-first.first < length c.args.places.now = omega arith in
    let place : ObjectAt = get_or c.args.places.now c.loop-first.first blank in
    let is = get_or_default c.args.places.now c.loop-first.first blank place within in
    let before = c.loop-first.invariant in
    elim c.if-not-has_slab.branch [
      | then-not-has_slab w ↦
          let more = order_next c.args.places.now c.loop-first.first place within is (sym c.has_slab.ensures ∙ w.if-not-has_slab.true) in
          let wrote = w.write_slab-at.ensures in
          record {
            at = rw (w.at-is, more) (wrote.end ∙ omega (arith, before.at, length-append (order_to c.args.places.now c.loop-first.first) (objects_of_slab (places_of c.args.places.now) place.frame)));
            written = rw (w.at-is, w.out-is, more) (wrote.written ∙ join c.args.out.now c.loop-first.out (order_to c.args.places.now c.loop-first.first) (objects_of_slab (places_of c.args.places.now) place.frame) c.loop-first.at w.write_slab-at.result before.at wrote.end before.written);
            long = c.if-not-has_slab.auto.out ∙ before.long;
          }
      | else-not-has_slab w ↦
          let same = order_seen c.args.places.now c.loop-first.first place within is (sym c.has_slab.ensures ∙ w.if-not-has_slab.false) in
          record {
            at = rw (w.at-is, same) before.at;
            written = rw (w.at-is, w.out-is, same) before.written;
            long = c.if-not-has_slab.auto.out ∙ before.long;
          }
    ]
