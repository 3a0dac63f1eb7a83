-- At once, under a checked cache's lock: its calls.
use Rattle.std.proofs.Common.{◌≡◌, ℕ, suc, ◌+◌, ◌-◌, ◌*◌, ◌<◌, ◌≤◌, ◌&&◌, Bool, true, false, None, List, ◌∷◌, ◌++◌, length, get_or, set, take, drop, refl, sym, ap, ◌∙◌, arith}
use Rattle.std.specs.Prelude.{All, nat_lt, if◌then◌else◌}
use Rattle.std.proofs.lemmas.Bool.{ltb-true, leb-true, not-false, false≢true}
use Rattle.std.proofs.lemmas.List.{length-set}
use Rattle.std.proofs.lemmas.List.Elements.{All-head}
use Rattle.slub_red_zone.specs.declared.checked.CheckedGive.{CheckedGive}
use Rattle.slub_red_zone.specs.declared.checked.CheckedGive.TheVariants as give
use Rattle.slub_red_zone.specs.State.{CheckedState, slab_of, objects_in, IsUsed}
use Rattle.slub_red_zone.specs.Sound.{IsSound}
use Rattle.slub_red_zone.specs.Objects.{KeepsObjects}
use Rattle.slub_red_zone.specs.Zones.{red_inactive, red_active}
use Rattle.slub_object_layout.specs.declared.layout.Layout.{Layout}
use Rattle.std.specs.Int.{w64, to_le_bytes}
use Rattle.slub_red_zone.specs.Steps.{with_word, with_byte, word_place, with_taken, with_damaged, Gives, nothing_listed, next_is_whole, next_is_damaged}
use Rattle.slub_red_zone.proofs.Objects.{written-objects, taken-object, gives-object}
use Rattle.slub_red_zone.proofs.Given.{next-inside, given-sound, damaged-sound}
use Rattle.slub_red_zone.proofs.Taken.{used-some, used-inside, word-inside, written-sound, taken-sound}
use Rattle.slub_core.specs.declared.call.CallKind.{CallKind}
use Rattle.slub_core.specs.declared.call.CallKind.TheVariants.{Alloc, Free, Write, Poke}
use Rattle.slub_core.specs.declared.local.Known.{Known}
use Rattle.slub_core.specs.declared.spot.Spot.TheVariants.{InChecked}
use Rattle.slub_core.specs.declared.spot.CheckedSpot.TheVariants.{DoChecked, LockRun, GiveChecked}
use Rattle.slub_core.specs.Calls.{call_word, call_value, call_offset, call_byte}
use Rattle.slub_core.specs.Setup.{node_lock}
use Rattle.slub_core.specs.World.{World, LockValue, Checked, set_value, cache_at, size_in}
use Rattle.slub_core.specs.Local.{Worker, nobody, here, call_of, at, loses, stays}
use Rattle.slub_core.specs.Checked.{slot_of, with_slabs, do_checked, gave, poked, is_offset}
use Rattle.slub_core.specs.Spots.{in_checked, keeps}
use Rattle.slub_core.specs.Listed.{takes, IsCheckedOf}
use Rattle.slub_core.specs.Fresh.{IsAtWork}
use Rattle.slub_core.specs.Coherent.{Stands}
use Rattle.slub_core.proofs.CheckedBytes.{length-set_slot, length-with_word}
use Rattle.slub_core.proofs.CheckedStep.{checked_step, held-used, shape-size}
use Rattle.slub_core.proofs.Knowns.{held-gets, held-loses, known-set, here-set}
use Rattle.slub_core.proofs.LocalStep.{local_step}
use Rattle.slub_core.proofs.UnderLock.{Makes, cache-same_value, known-same, locks-same}
use Rattle.slub_core.proofs.StepValues.{value-slab}
use Rattle.slub_core.proofs.ValueStep.{known-owned}

-- ---- the worker after it

-- nothing has changed
idle-work : (w : World) (x : Worker) (kind : CallKind) → x.local.spot ≡ InChecked DoChecked kind → IsAtWork w x → IsAtWork w (record x { local = at x.local (InChecked GiveChecked kind) })
idle-work w x kind is ok = grind arith

-- bytes have changed
bytes-work : (w : World) (x : Worker) (n : ℕ) (v : LockValue) (kind : CallKind) → x.local.spot ≡ InChecked DoChecked kind → All (λ (k : Known). k.held ≡ true → k.cache ≡ cache_at (set_value w n v) k.frame) x.local.known
    → ((n : ℕ) → 1 ≤ takes n (record x { local = at x.local (InChecked GiveChecked kind) }) → w.lock n ≡ suc x.local.worker) → IsAtWork w x
    → IsAtWork (set_value w n v) (record x { local = at x.local (InChecked GiveChecked kind) })
bytes-work w x n v kind is known locks ok = grind arith

-- no object was free
empty-work : (w : World) (x : Worker) (n : ℕ) (v : LockValue) → x.local.spot ≡ InChecked DoChecked Alloc → All (λ (k : Known). k.held ≡ true → k.cache ≡ cache_at (set_value w n v) k.frame) x.local.known
    → ((n : ℕ) → 1 ≤ takes n (record x { local = at x.local (InChecked LockRun Alloc) }) → w.lock n ≡ suc x.local.worker) → IsAtWork w x
    → IsAtWork (set_value w n v) (record x { local = at x.local (InChecked LockRun Alloc) })
empty-work w x n v is known locks ok = grind arith

-- it has got an object, or lost one
known-work : (w : World) (x : Worker) (n : ℕ) (v : LockValue) (kind : CallKind) (k : Known) → x.local.spot ≡ InChecked DoChecked kind → length (set x.local.known x.local.place k) ≡ length x.local.known
    → get_or (set x.local.known x.local.place k) x.local.place nobody ≡ k → k.object ≡ (here x.local).object
    → All (λ (k : Known). k.held ≡ true → k.cache ≡ cache_at (set_value w n v) k.frame) (set x.local.known x.local.place k)
    → ((n : ℕ) → 1 ≤ takes n (record x { local = record x.local { known = set x.local.known x.local.place k; spot = InChecked GiveChecked kind } }) → w.lock n ≡ suc x.local.worker) → IsAtWork w x
    → IsAtWork (set_value w n v) (record x { local = record x.local { known = set x.local.known x.local.place k; spot = InChecked GiveChecked kind } })
known-work w x n v kind k is same now object known locks ok = grind arith

-- ---- what the call rests on

-- the object of the call, where the worker holds it
pub held-object : (w : World) (x : Worker) (others : List Worker) (old : CheckedState) → Stands w (x ∷ others) → in_checked x.local.spot ≡ true → keeps x.local.spot ≡ true → w.value (node_lock x.local.cache) ≡ Checked old → IsUsed old (slot_of x.local)
held-object w x others old s in' keep is =
    let ok = All-head (IsAtWork w) x others s.fresh.workers in
    let k = ok.spot.keeps keep in
    held-used w x others old (here x.local) s in' is k.2 (ok.seen.known x.local.place nobody k.0 k.1) (known-owned x x.local.place nobody k.0 k.1)

-- what nothing changes
unchanged : (old : CheckedState) → KeepsObjects old old
unchanged old = record { slabs = record { layout = refl; flags = refl; cache = refl; shape = λ frame. refl }; objects = λ frame index. refl; reports = refl; listed = refl }

-- a give leaves sound slabs
gives-sound : (old : CheckedState) (answer : CheckedGive) (after : CheckedState) → IsSound old → Gives old answer after → IsSound after
gives-sound old answer after sound (nothing_listed s none) = sound
gives-sound old answer after sound (next_is_whole s slot next whole) = given-sound old slot sound next (length-set_slot old.layout old.flags red_active (slab_of old slot.frame).bytes slot.index sound.layout.bounds (next-inside old slot sound next))
gives-sound old answer after sound (next_is_damaged s slot damage answer' after' next found rest) = gives-sound (with_damaged old slot damage) answer after (damaged-sound old slot sound next damage) rest

-- ---- reads and writes

pub quiet : (w : World) (x : Worker) (others : List Worker) (kind : CallKind) → x.local.spot ≡ InChecked DoChecked kind → Stands w (x ∷ others) → Makes w others (stays w.value (at x.local (InChecked GiveChecked kind)))
quiet w x others kind is s =
    let ok = All-head (IsAtWork w) x others s.fresh.workers in
    (record x { local = at x.local (InChecked GiveChecked kind) }, refl, local_step w x _ others s (λ f i. refl) (record { home = λ f. refl; marked = λ f. rw is refl; covered = λ g. refl; takes = λ n. rw is refl }) (idle-work w x kind is ok))

-- a change of bytes
writes : (w : World) (x : Worker) (others : List Worker) (kind : CallKind) (old new : CheckedState) → x.local.spot ≡ InChecked DoChecked kind → Stands w (x ∷ others) → w.value (node_lock x.local.cache) ≡ Checked old → IsCheckedOf w.setup x.local.cache old
    → IsSound new → KeepsObjects old new → Makes w others (stays (with_slabs w.value x.local new) (at x.local (InChecked GiveChecked kind)))
writes w x others kind old new is s was of sound keeps =
    let ok = All-head (IsAtWork w) x others s.fresh.workers in
    let n = node_lock x.local.cache in
    let z : Worker = record x { local = at x.local (InChecked GiveChecked kind) } in
    let same : (k : ℕ) → takes k z ≡ takes k x = λ k. rw is refl in (
      z,
      refl,
      checked_step w x z others old new s (rw is refl) (rw is refl) was of sound keeps.slabs
          (λ f i. let e = keeps.objects f i in omega arith) (λ f. refl) (λ f. rw is refl) (λ g. refl) same
          (λ slabs. bytes-work w x n (Checked new) kind is (known-same w n (Checked new) x slabs ok) (locks-same w x z refl same ok) ok),
    )

pub do_write : (w : World) (x : Worker) (others : List Worker) (old : CheckedState) → x.local.spot ≡ InChecked DoChecked Write → Stands w (x ∷ others) → w.value (node_lock x.local.cache) ≡ Checked old → IsCheckedOf w.setup x.local.cache old
    → Makes w others (do_checked w.setup w.value x.local Write old)
do_write w x others old is s was of =
    let ok = All-head (IsAtWork w) x others s.fresh.workers in
    let slot = slot_of x.local in
    let used = held-object w x others old s (rw is refl) (rw is refl) was in
    let some = used-some old slot of.sound used in
    let size : old.layout.object_size ≡ (w.setup.layout x.local.cache).object_size = ap (λ (l : Layout). l.object_size) of.layout in
    let fits : 8 * (call_word (call_of x.local) + 1) ≤ (w.setup.layout x.local.cache).object_size = leb-true (8 * (call_word (call_of x.local) + 1)) (w.setup.layout x.local.cache).object_size (not-false _ (ok.spot.inside (rw is refl))) in
    let inside = word-inside old slot of.sound used (call_word (call_of x.local)) (omega arith) in
    let bytes = take (word_place old.layout slot.index (call_word (call_of x.local))) (slab_of old slot.frame).bytes ++ to_le_bytes w64 (call_value (call_of x.local)) ++ drop (word_place old.layout slot.index (call_word (call_of x.local)) + 8) (slab_of old slot.frame).bytes in
    let long : length bytes ≡ length (slab_of old slot.frame).bytes = length-with_word (slab_of old slot.frame).bytes (to_le_bytes w64 (call_value (call_of x.local))) (word_place old.layout slot.index (call_word (call_of x.local))) refl inside in
    writes w x others Write old (with_word old slot (call_word (call_of x.local)) (call_value (call_of x.local))) is s was of (written-sound old slot.frame of.sound some bytes long) (written-objects old slot.frame of.sound some bytes)

pub do_poke : (w : World) (x : Worker) (others : List Worker) (old : CheckedState) → x.local.spot ≡ InChecked DoChecked Poke → Stands w (x ∷ others) → w.value (node_lock x.local.cache) ≡ Checked old → IsCheckedOf w.setup x.local.cache old
    → Makes w others (do_checked w.setup w.value x.local Poke old)
do_poke w x others old is s was of = writes w x others Poke old (poked x.local old) is s was of (good (is_offset old.layout (call_offset (call_of x.local))) (nat_lt (here x.local).index (objects_in (slab_of old (here x.local).frame))) refl).0 (good (is_offset old.layout (call_offset (call_of x.local))) (nat_lt (here x.local).index (objects_in (slab_of old (here x.local).frame))) refl).1
  where
    good : (a b : Bool) → nat_lt (here x.local).index (objects_in (slab_of old (here x.local).frame)) ≡ b
        → IsSound (if a && b then with_byte old (slot_of x.local) (call_offset (call_of x.local)) (call_byte (call_of x.local)) else old) × KeepsObjects old (if a && b then with_byte old (slot_of x.local) (call_offset (call_of x.local)) (call_byte (call_of x.local)) else old)
    good true true e =
        let l = ltb-true (here x.local).index (objects_in (slab_of old (here x.local).frame)) e in
        (written-sound old (here x.local).frame of.sound (omega arith) _ (length-set (slab_of old (here x.local).frame).bytes _ _), written-objects old (here x.local).frame of.sound (omega arith) _)
    good true false e = (of.sound, unchanged old)
    good false b e = (of.sound, unchanged old)

-- ---- a free

pub do_free-kept : (w : World) (x : Worker) (others : List Worker) (old : CheckedState) → x.local.spot ≡ InChecked DoChecked Free → Stands w (x ∷ others) → w.value (node_lock x.local.cache) ≡ Checked old → IsCheckedOf w.setup x.local.cache old
    → Makes w others (stays (with_slabs w.value x.local (with_taken old (slot_of x.local))) (record (loses x.local) { run = None; spot = InChecked GiveChecked Free }))
do_free-kept w x others old is s was of =
    let ok = All-head (IsAtWork w) x others s.fresh.workers in
    let n = node_lock x.local.cache in
    let slot = slot_of x.local in
    let new = with_taken old slot in
    let used = held-object w x others old s (rw is refl) (rw is refl) was in
    let keep = ok.spot.keeps (rw is refl) in
    let took = taken-object old slot of.sound used in
    let sound = taken-sound old slot of.sound used (length-set_slot old.layout old.flags red_inactive (slab_of old slot.frame).bytes slot.index of.sound.layout.bounds (used-inside old slot of.sound used)) in
    let k : Known = record (here x.local) { held = false } in
    let none : x.local.run ≡ None = ok.spot.no_run (rw is refl) in
    let z : Worker = record x { local = record x.local { known = set x.local.known x.local.place k; spot = InChecked GiveChecked Free } } in
    let same : (j : ℕ) → takes j z ≡ takes j x = λ j. rw is refl in (
      z,
      rw none refl,
      checked_step w x z others old new s (rw is refl) (rw is refl) was of sound took.slabs
          (λ f i. let h = held-loses f i x.local keep.0 keep.1 in let e = took.objects f i in omega arith)
          (λ f. refl) (λ f. rw is refl) (λ g. refl) same
          (λ slabs. known-work w x n (Checked new) Free k is (length-set x.local.known x.local.place k) (here-set x.local k keep.0) refl
          (known-set (set_value w n (Checked new)) x.local.known x.local.place k (λ h. absurd (false≢true h)) (known-same w n (Checked new) x slabs ok)) (locks-same w x z refl same ok) ok),
    )

-- ---- an allocation

pub do_alloc : (w : World) (x : Worker) (others : List Worker) (old after : CheckedState) (answer : CheckedGive) → x.local.spot ≡ InChecked DoChecked Alloc → Stands w (x ∷ others) → w.value (node_lock x.local.cache) ≡ Checked old → IsCheckedOf w.setup x.local.cache old
    → Gives old answer after → Makes w others (gave w.setup w.value x.local after answer)
do_alloc w x others old after give.Empty is s was of gives =
    let ok = All-head (IsAtWork w) x others s.fresh.workers in
    let n = node_lock x.local.cache in
    let done = gives-object old give.Empty after of.sound gives in
    let z : Worker = record x { local = at x.local (InChecked LockRun Alloc) } in
    let same : (j : ℕ) → takes j z ≡ takes j x = λ j. rw is refl in (
      z,
      refl,
      checked_step w x z others old after s (rw is refl) (rw is refl) was of (gives-sound old give.Empty after of.sound gives) done.slabs
          (λ f i. let e = done.objects f i in omega arith) (λ f. refl) (λ f. rw is refl) (λ g. refl) same
          (λ slabs. empty-work w x n (Checked after) is (known-same w n (Checked after) x slabs ok) (locks-same w x z refl same ok) ok),
    )
do_alloc w x others old after (give.Given slot) is s was of gives =
    let ok = All-head (IsAtWork w) x others s.fresh.workers in
    let n = node_lock x.local.cache in
    let done = gives-object old (give.Given slot) after of.sound gives in
    let room = ok.spot.awaits (rw is refl) in
    let k : Known = record { object = (here x.local).object; frame = slot.frame; index = slot.index; cache = x.local.cache; held = true } in
    let z : Worker = record x { local = record x.local { known = set x.local.known x.local.place k; spot = InChecked GiveChecked Alloc } } in
    let same : (j : ℕ) → takes j z ≡ takes j x = λ j. rw is refl in
    let below : n < w.setup.locks = let c = (ok.spot.checked (rw is refl)).0 in let l = s.fresh.setup.locks in omega arith in (
      z,
      refl,
      checked_step w x z others old after s (rw is refl) (rw is refl) was of (gives-sound old (give.Given slot) after of.sound gives) done.slabs
          (λ f i. let h = held-gets f i x.local x.local.cache slot.frame slot.index room.0 room.1 in let e = done.objects.one f i in omega arith)
          (λ f. refl) (λ f. rw is refl) (λ g. refl) same
          (λ slabs.
          let size = done.objects.inside in
          let shape = shape-size old after slot.frame (done.slabs.shape slot.frame) in
          let there : 1 ≤ size_in (w.value n) slot.frame = rw was (omega arith) in
          let v = value-slab w s.chains n slot.frame s.listed.shaped below there in
          let owner : x.local.cache ≡ cache_at (set_value w n (Checked after)) slot.frame = sym (cache-same_value w n (Checked after) slabs slot.frame ∙ v.2 ∙ (let c : node_lock x.local.cache - 1 ≡ x.local.cache = omega arith in c)) in
          known-work w x n (Checked after) Alloc k is (length-set x.local.known x.local.place k) (here-set x.local k room.0) refl
          (known-set (set_value w n (Checked after)) x.local.known x.local.place k (λ _. owner) (known-same w n (Checked after) x slabs ok)) (locks-same w x z refl same ok) ok),
    )
