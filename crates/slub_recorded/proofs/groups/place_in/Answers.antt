use Rattle.std.proofs.Common.{◌≡◌, ◌+◌, ◌<◌, ◌≤◌, ◌==◌, inl, inr, false, List, length, map, refl, arith, subst}
use Rattle.std.specs.Prelude.{count_by}
use Rattle.slub_recorded.specs.declared.groups.Chosen.{Chosen}
use Rattle.slub_recorded.specs.Groups.{frames_of}
use Rattle.slub_recorded.specs.Members.{has_room, need_of}
use Rattle.slub_recorded.proofs.Rooms.{left_one, room_no, room_yes, took_one}
use Rattle.slub_recorded.proofs.Slots.{left, took}
use Rattle.slub_recorded.proofs.groups.place_in.Goals as goal
use Rattle.slub_recorded.proofs.groups.place_in.Goals.{else-len-lt-CACHES_MAX-via-then-len-lt-CACHES_MAX+then-same-lt2+else-frames-le-SLABS_MAX, else-len-lt-CACHES_MAX-via-then-len-lt-CACHES_MAX+else-same-lt2, else-len-lt-CACHES_MAX-via-else-len-lt-CACHES_MAX}

pub returns-in_ok-push-clause-split : goal.returns-in_ok-push-clause-split
returns-in_ok-push-clause-split c given is =
    let fit : c.saturating_add-frames.result ≤ 4095 = omega (arith, c.if-frames-le-SLABS_MAX.true) in
    let sum : c.saturating_add-frames.result ≡ c.args.split.now.frames + c.args.cache.now.frames = omega (arith, c.saturating_add-frames.ensures, fit) in
    let room : length c.args.split.now.taken.items < 32 = omega (arith, c.if-len-lt-CACHES_MAX.true, c.len.ensures) in
    let V : List Chosen → Type 0 = λ t. c.same_slot-same.result ≡ count_by (λ (o : Chosen). o.cache.slot == c.args.cache.now.cache.slot) t in
    let count = subst V c.as_slice.ensures.value c.same_slot-same.ensures in
    took given c.args.split.now _ c.args.cache.now _ c.same_slot-same.result is refl refl refl refl count c.if-same-lt2.true room sum fit c.in_ok-push.ensures.items refl

pub returns-in_ok-push-2-clause-split : goal.returns-in_ok-push-2-clause-split
returns-in_ok-push-2-clause-split c given is = left given c.args.split.now _ c.args.cache.now is refl refl c.in_ok-push-2.ensures.items

pub returns-in_ok-push-clause-packs : goal.returns-in_ok-push-clause-packs
returns-in_ok-push-clause-packs c given is =
    let taken = c.args.split.now.taken.items in
    let sum : c.saturating_add-frames.result ≡ c.args.split.now.frames + c.args.cache.now.frames =
    let fit : c.saturating_add-frames.result ≤ 4095 = omega (arith, c.if-frames-le-SLABS_MAX.true) in omega (arith, c.saturating_add-frames.ensures, fit) in
    let room : length taken < 32 = omega (arith, c.if-len-lt-CACHES_MAX.true, c.len.ensures) in
    let V : List Chosen → Type 0 = λ t. c.same_slot-same.result ≡ count_by (λ (o : Chosen). o.cache.slot == c.args.cache.now.cache.slot) t in
    let count = subst V c.as_slice.ensures.value c.same_slot-same.ensures in
    let all : c.args.split.now.frames ≡ frames_of taken = is.frames in
    let yes = room_yes taken c.args.cache.now c.same_slot-same.result room count c.if-same-lt2.true (omega (arith, all, sum, c.if-frames-le-SLABS_MAX.true)) in
    took_one c.args.split.now _ c.args.cache.now _ yes refl c.in_ok-push.ensures.items refl

pub returns-in_ok-push-2-clause-packs : goal.returns-in_ok-push-2-clause-packs
returns-in_ok-push-2-clause-packs c given is =
    let taken = c.args.split.now.taken.items in
    let cache = c.args.cache.now in
    let V : List Chosen → Type 0 = λ t. c.same_slot-same.result ≡ count_by (λ (o : Chosen). o.cache.slot == cache.cache.slot) t in
    let count = subst V c.as_slice.ensures.value c.same_slot-same.ensures in
    let all : c.args.split.now.frames ≡ frames_of taken = is.frames in
    let sum = c.saturating_add-frames.ensures in
    let long = c.len.ensures in
    let no : has_room (map need_of taken) (need_of cache) ≡ false = elim c.else-len-lt-CACHES_MAX.branch [
      | else-len-lt-CACHES_MAX-via-then-len-lt-CACHES_MAX+then-same-lt2+else-frames-le-SLABS_MAX w ↦ room_no taken cache c.same_slot-same.result count (inr (inr (omega (arith, all, sum, w.if-frames-le-SLABS_MAX.false))))
      | else-len-lt-CACHES_MAX-via-then-len-lt-CACHES_MAX+else-same-lt2 w ↦ room_no taken cache c.same_slot-same.result count (inr (inl (omega (arith, w.if-same-lt2.false))))
      | else-len-lt-CACHES_MAX-via-else-len-lt-CACHES_MAX w ↦ room_no taken cache c.same_slot-same.result count (inl (omega (arith, long, w.if-len-lt-CACHES_MAX.false)))
    ] in
    left_one c.args.split.now _ cache no refl c.in_ok-push-2.ensures.items
