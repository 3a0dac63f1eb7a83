use Rattle.std.proofs.Common.{◌≡◌, ℕ, ◌+◌, ◌<◌, ◌≤◌, [], ◌∷◌, List, length, take, get_or, ◌∙◌, ap, arith}
use Rattle.std.proofs.lemmas.List.{get_or_default, length-append, length-set}
use Rattle.slub_slabinfo_text.specs.Bulk.{objects_of_slab}
use Rattle.slub_bulk.specs.declared.order.ObjectAt.{ObjectAt}
use Rattle.slub_bulk.specs.Places.{places_of}
use Rattle.slub_bulk.proofs.Writing.{front_within, other_more, other_test, own_more, same_test, write_next}
use Rattle.slub_bulk.proofs.order.write_slab.Goals as goal
use Rattle.slub_bulk.proofs.order.write_slab.Goals.{then-place-frame, else-place-frame}

abbrev blank : ObjectAt
blank = record { object = 0; frame = 0 }

-- there is room for the next one
next_room : (places : List ObjectAt) (i frame from at room : ℕ) (place : ObjectAt) → i < length places → place ≡ get_or places i place → place.frame ≡ frame
    → at ≡ from + length (objects_of_slab (places_of (take i places)) frame) → from + length (objects_of_slab (places_of places) frame) ≤ room → at < room
next_room places i frame from at room place within is own ends enough =
    let more = own_more places i place frame within is (same_test place.frame frame own) in
    let long : length (objects_of_slab (places_of (take (i + 1) places)) frame) ≡ length (objects_of_slab (places_of (take i places)) frame) + 1 =
    ap (λ (list : List ℕ). length list) more ∙ length-append (objects_of_slab (places_of (take i places)) frame) (place.object ∷ []) in
    omega (arith, ends, enough, long, front_within places (i + 1) frame)

pub bounds-out-at : goal.bounds-out-at
bounds-out-at c =
    let within : c.loop-place.place-index < length c.args.places.now = omega arith in
    let place : ObjectAt = get_or c.args.places.now c.loop-place.place-index blank in
    next_room c.args.places.now c.loop-place.place-index c.args.frame c.args.from c.loop-place.at (length c.loop-place.out) place within
    (get_or_default c.args.places.now c.loop-place.place-index blank place within) c.if-place-frame.true c.loop-place.invariant.at (omega (arith, c.requires.room, c.loop-place.invariant.long))

pub loop-place-preserved : goal.loop-place-preserved
loop-place-preserved c =
    let within : c.loop-place.place-index < length c.args.places.now = omega arith in
    let place : ObjectAt = get_or c.args.places.now c.loop-place.place-index blank in
    let is = get_or_default c.args.places.now c.loop-place.place-index blank place within in
    let before = c.loop-place.invariant in
    elim c.if-place-frame.branch [
      | then-place-frame w ↦
          let more = own_more c.args.places.now c.loop-place.place-index place c.args.frame within is (same_test place.frame c.args.frame w.if-place-frame.true) in
          let room = next_room c.args.places.now c.loop-place.place-index c.args.frame c.args.from c.loop-place.at (length c.args.out.now) place within is w.if-place-frame.true before.at c.requires.room in
          record {
            at = w.at-is ∙ omega (arith, before.at, ap (λ (list : List ℕ). length list) more, length-append (objects_of_slab (places_of (take c.loop-place.place-index c.args.places.now)) c.args.frame) (place.object ∷ []));
            written = rw (w.at-is, w.out-is, more) (write_next c.args.out.now c.loop-place.out (objects_of_slab (places_of (take c.loop-place.place-index c.args.places.now)) c.args.frame) c.args.from c.loop-place.at place.object before.at room before.written);
            long = rw w.out-is (omega (arith, length-set c.loop-place.out c.loop-place.at place.object, before.long));
          }
      | else-place-frame w ↦
          let more = other_more c.args.places.now c.loop-place.place-index place c.args.frame within is (other_test place.frame c.args.frame w.if-place-frame.false) in
          record {
            at = rw (w.at-is, more) before.at;
            written = rw (w.at-is, w.out-is, more) before.written;
            long = rw w.out-is before.long;
          }
    ]
