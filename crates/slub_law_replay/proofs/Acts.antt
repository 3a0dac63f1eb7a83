-- At once, under a checked cache's lock: what its calls do to bytes that are off, and what they tell of.
use Rattle.std.proofs.Common.{◌≡◌, ℕ, ◌+◌, ◌*◌, ◌≤◌, Bool, true, false, ◌&&◌, if◌then◌else◌, List, ◌∷◌, Option, Some, None, refl, sym, ap, ◌∙◌, subst, arith, inr, ℤ}
use Rattle.std.specs.Prelude.{nat_lt, pos}
use Rattle.std.proofs.lemmas.Bool.{leb-true, not-false}
use Rattle.slub_object_layout.specs.declared.layout.Layout.{Layout}
use Rattle.slub_object_layout.specs.Layout.{address_of}
use Rattle.slub_trace.specs.declared.damage.Damage.{Damage}
use Rattle.slub_red_zone.specs.declared.checked.Slot.{Slot}
use Rattle.slub_red_zone.specs.declared.checked.Run.{Run}
use Rattle.slub_red_zone.specs.declared.checked.CheckedGive.{CheckedGive}
use Rattle.slub_red_zone.specs.declared.checked.CheckedGive.TheVariants as give
use Rattle.slub_red_zone.specs.State.{CheckedState, slab_of, objects_in}
use Rattle.slub_red_zone.specs.Steps.{Gives, damage_of_used, with_taken, without_slab, with_byte, with_given, with_new_slab, with_word, place_of}
use Rattle.slub_red_zone.specs.Zones.{red_inactive}
use Rattle.slub_red_zone.proofs.Objects.{taken-object}
use Rattle.slub_red_zone.proofs.Taken.{used-some, used-inside, taken-sound}
use Rattle.slub_red_zone.proofs.Whole.{slab-sound}
use Rattle.slub_trace.specs.declared.reply.Reply.{Reply}
use Rattle.slub_trace.specs.declared.reply.Reply.TheVariants as reply
use Rattle.slub_core.specs.declared.call.CallKind.{CallKind}
use Rattle.slub_core.specs.declared.call.CallKind.TheVariants.{Alloc, Free, Write, Read, Poke, Trim, Flush}
use Rattle.slub_core.specs.declared.local.Answered.{Answered}
use Rattle.slub_core.specs.declared.local.FrameRun.{FrameRun}
use Rattle.slub_core.specs.declared.spot.Spot.TheVariants.{InChecked}
use Rattle.slub_core.specs.declared.spot.CheckedSpot.TheVariants.{DoChecked, AddSlab, LockRun, GiveChecked}
use Rattle.slub_core.specs.Calls.{call_word, call_value, call_offset, call_byte}
use Rattle.slub_core.specs.Setup.{Setup, node_lock}
use Rattle.slub_core.specs.World.{World, LockValue, Checked, pool_of}
use Rattle.slub_core.specs.Local.{Local, Worker, Change, here, call_of, address_in, run_of, at, loses, noted}
use Rattle.slub_core.specs.Checked.{slabs_of, slabs_in, slot_of, with_slabs, gave, is_spare, run_at, took_back, is_offset, slab_added, do_checked, checked_at_once}
use Rattle.slub_core.specs.Discard.{with_put}
use Rattle.slub_core.specs.Listed.{IsCheckedOf}
use Rattle.slub_core.specs.Coherent.{Stands}
use Rattle.slub_core.specs.Accounted.{IsAccounted}
use Rattle.slub_core.proofs.CheckedStep.{the-slabs, shape-size}
use Rattle.slub_core.proofs.CheckedSpots.{held-object}
use Rattle.slub_core.proofs.CheckedBytes.{length-set_slot}
use Rattle.slub_core.proofs.PoolSpots.{some-run}
use Rattle.slub_law_rounds.proofs.Cleaning.{Clean}
use Rattle.slub_law_rounds.specs.Contents.{IsDamage}
use Rattle.slub_law_rounds.proofs.Acts.{at-work, is-between, new-run, one-more, poke-was, same-address, spare-is, where-held}
use Rattle.slub_law_rounds.proofs.Moves.{Goes, goes-none, goes-taken, goes-gone, goes-poked, goes-written, goes-give, goes-added, goes-more, damage-of}
use Rattle.slub_law_replay.specs.Off.{Finds}
use Rattle.slub_law_replay.proofs.Grows.{Has, Put, has-goes, has-reply, bytes-reply, goes-at, goes-pool}

module _ (said : ℕ → ℤ → ℕ → Type 0) where
  -- what is so where the worker is, beside others that were answered `rest`
  abbrev pub HasAt : Setup → World → List (List Answered) → (ℕ → LockValue) → Local → Type 0
  HasAt m opening rest value l = Has said m opening value (l.done ∷ rest)

  -- where a change leads
  abbrev pub HasAfter : Setup → World → List (List Answered) → Change → Type 0
  HasAfter m opening rest c = HasAt m opening rest c.value (noted c.local c.reply)

  -- ---- call by call, in a cache with these slabs

  abbrev pub DoesWell : CallKind → Type 0
  DoesWell kind = (opening w : World) (x : Worker) (others : List Worker) (rest : List (List Answered)) (old : CheckedState) → x.local.spot ≡ InChecked DoChecked kind → Stands w (x ∷ others) → IsAccounted opening w (x ∷ others)
      → w.value (node_lock x.local.cache) ≡ Checked old → IsCheckedOf w.setup x.local.cache old → HasAt w.setup opening rest w.value x.local → HasAfter w.setup opening rest (do_checked w.setup w.value x.local kind old)

  -- a reply that tells nothing of bytes, and other slabs
  replied : (m : Setup) (opening : World) (rest : List (List Answered)) (value : ℕ → LockValue) (l : Local) (r : Reply) (old new : CheckedState) → value (node_lock l.cache) ≡ Checked old
      → let more = (one-more l r ∷ l.done) ∷ rest in Finds (Put said m opening more) m opening.board l.done (call_of l) r → Goes (Put said m opening more l.cache) old new → HasAt m opening rest value l → Has said m opening (with_slabs value l new) more
  replied m opening rest value l r old new was tells goes has =
      let more = (one-more l r ∷ l.done) ∷ rest in
      has-goes said m opening value (with_slabs value l new) more (goes-at said m opening more value l.cache old new was (λ clean. goes)) (has-reply said m opening value l.done rest (one-more l r) tells has)

  -- what is looked at of the cache's bytes, once the worker has one more reply
  clean-here : (m : Setup) (opening : World) (rest : List (List Answered)) (value : ℕ → LockValue) (l : Local) (r : Reply) (old : CheckedState) → value (node_lock l.cache) ≡ Checked old → m.checks l.cache ≡ true → HasAt m opening rest value l
      → Clean (Put said m opening ((one-more l r ∷ l.done) ∷ rest) l.cache) old
  clean-here m opening rest value l r old was checks has =
      subst (λ s. Clean (Put said m opening ((one-more l r ∷ l.done) ∷ rest) l.cache) s) (ap (slabs_in (m.layout l.cache)) was) (bytes-reply said m opening value l.done rest (one-more l r) l.cache checks has)

  -- ---- writes and reads

  does_write : DoesWell Write
  does_write opening w x others rest old is s ac was of has =
      let l = x.local in
      let ok = at-work w x others s in
      let used = held-object w x others old s (rw is refl) (rw is refl) was in
      let size : old.layout.object_size ≡ (w.setup.layout l.cache).object_size = ap (λ (l : Layout). l.object_size) of.layout in
      let fits : 8 * (call_word (call_of l) + 1) ≤ (w.setup.layout l.cache).object_size = leb-true (8 * (call_word (call_of l) + 1)) (w.setup.layout l.cache).object_size (not-false _ (ok.spot.inside (rw is refl))) in
      let more = (one-more l reply.Wrote ∷ l.done) ∷ rest in
      replied w.setup opening rest w.value l reply.Wrote old (with_word old (slot_of l) (call_word (call_of l)) (call_value (call_of l))) was tt
      (goes-written (Put said w.setup opening more l.cache) old (slot_of l) (call_word (call_of l)) (call_value (call_of l)) of.sound used (omega (arith, size, fits))
      (clean-here w.setup opening rest w.value l reply.Wrote old was (ok.spot.checked (rw is refl)).2 has)) has

  -- ---- a poke

  does_poke : DoesWell Poke
  does_poke opening w x others rest old is s ac was of has =
      by_place (is_offset old.layout (call_offset (call_of x.local))) (nat_lt (here x.local).index (objects_in (slab_of old (here x.local).frame))) refl
    where
      l : Local
      l = x.local

      poked_as : Bool → Bool → Change
      poked_as inside there = record {
        value = with_slabs w.value x.local (if inside && there then with_byte old (slot_of x.local) (call_offset (call_of x.local)) (call_byte (call_of x.local)) else old);
        local = at x.local (InChecked GiveChecked Poke);
        reply = Some (if inside then (if there then reply.Poked else reply.NotHeld) else reply.OutOfSlot);
      }

      by_place : (inside there : Bool) → is_offset old.layout (call_offset (call_of x.local)) ≡ inside → HasAfter w.setup opening rest (poked_as inside there)
      by_place true true e =
          let ok = at-work w x others s in
          let d = one-more x.local reply.Poked in
          let more = (d ∷ x.local.done) ∷ rest in
          let was_poked = poke-was opening w x others rest old is s ac of in
          replied w.setup opening rest w.value x.local reply.Poked old (with_byte old (slot_of x.local) (call_offset (call_of x.local)) (call_byte (call_of x.local))) was tt
          (goes-poked (Put said w.setup opening more x.local.cache) old (slot_of x.local) (call_offset (call_of x.local)) (call_byte (call_of x.local)) of.sound (is-between (pos 0) (place_of old.layout (call_offset (call_of x.local))) (pos old.layout.size) e) (inr was_poked)
          (clean-here w.setup opening rest w.value x.local reply.Poked old was (ok.spot.checked (rw is refl)).2 has)) has
      by_place true false e =
          replied w.setup opening rest w.value x.local reply.NotHeld old old was tt (goes-none _ old (clean-here w.setup opening rest w.value x.local reply.NotHeld old was ((at-work w x others s).spot.checked (rw is refl)).2 has)) has
      by_place false there e =
          replied w.setup opening rest w.value x.local reply.OutOfSlot old old was tt (goes-none _ old (clean-here w.setup opening rest w.value x.local reply.OutOfSlot old was ((at-work w x others s).spot.checked (rw is refl)).2 has)) has

  -- ---- a free

  does_free : DoesWell Free
  does_free opening w x others rest old is s ac was of has = by_damage (damage_of_used old (slot_of x.local)) refl
    where
      back : (spare : Bool) → damage_of_used old (slot_of x.local) ≡ None → is_spare w.setup (with_taken old (slot_of x.local)) x.local.cache (here x.local).frame ≡ spare → HasAfter w.setup opening rest (record {
        value = with_slabs w.value x.local (if spare then without_slab (with_taken old (slot_of x.local)) (here x.local).frame else with_taken old (slot_of x.local));
        local = record (loses x.local) {
          run = (if spare then Some (run_at (with_taken old (slot_of x.local)) (here x.local).frame) else None);
          spot = (if spare then InChecked LockRun Free else InChecked GiveChecked Free);
        };
        reply = Some (reply.Freed (address_in w.setup (here x.local)));
      })
      back true none e =
          let slot = slot_of x.local in
          let f = (here x.local).frame in
          let mid = with_taken old slot in
          let r = reply.Freed (address_in w.setup (here x.local)) in
          let came = Put said w.setup opening ((one-more x.local r ∷ x.local.done) ∷ rest) x.local.cache in
          let used = held-object w x others old s (rw is refl) (rw is refl) was in
          let took = goes-taken came old slot of.sound used none (clean-here w.setup opening rest w.value x.local r old was ((at-work w x others s).spot.checked (rw is refl)).2 has) in
          let sound = taken-sound old slot of.sound used (length-set_slot old.layout old.flags red_inactive (slab_of old f).bytes slot.index of.sound.layout.bounds (used-inside old slot of.sound used)) in
          let size = shape-size old mid f ((taken-object old slot of.sound used).slabs.shape f) in
          let some = used-some old slot of.sound used in
          let slab = slab-sound mid f sound (omega (arith, size, some)) in
          let spare = spare-is w.setup mid x.local.cache f e in
          replied w.setup opening rest w.value x.local r old (without_slab mid f) was tt
          (goes-more came old mid (without_slab mid f) took (goes-gone came mid f (w.setup.layout x.local.cache).min_partial spare (sym slab.free.count ∙ spare.all_free) took.bytes)) has
      back false none e =
          let r = reply.Freed (address_in w.setup (here x.local)) in
          let used = held-object w x others old s (rw is refl) (rw is refl) was in
          replied w.setup opening rest w.value x.local r old (with_taken old (slot_of x.local)) was tt
          (goes-taken (Put said w.setup opening ((one-more x.local r ∷ x.local.done) ∷ rest) x.local.cache) old (slot_of x.local) of.sound used none (clean-here w.setup opening rest w.value x.local r old was ((at-work w x others s).spot.checked (rw is refl)).2 has)) has

      by_damage : (damage : Option Damage) → damage_of_used old (slot_of x.local) ≡ damage → HasAfter w.setup opening rest (took_back w.setup w.value x.local old damage)
      by_damage None e = back (is_spare w.setup (with_taken old (slot_of x.local)) x.local.cache (here x.local).frame) e refl
      by_damage (Some damage) e =
          let ok = at-work w x others s in
          let keep = ok.spot.keeps (rw is refl) in
          let used = held-object w x others old s (rw is refl) (rw is refl) was in
          let place = where-held opening w x others Free ac (rw is refl) refl keep.1 in
          let d = one-more x.local (reply.Corrupt damage) in
          let came = Put said w.setup opening ((d ∷ x.local.done) ∷ rest) x.local.cache in
          let bad = damage-of came old (slot_of x.local) damage of.sound used e (clean-here w.setup opening rest w.value x.local (reply.Corrupt damage) old was (ok.spot.checked (rw is refl)).2 has) in
          let same = same-address w.setup (here x.local) x.local.cache old of keep.2 in
          has-reply said w.setup opening w.value x.local.done rest d
          (record { cache = x.local.cache; of = place.cache ∙ ap Some keep.2; address = address_in w.setup (here x.local); object = place.address; bad = subst (λ a. IsDamage came a damage) (sym same) bad }) has

  -- ---- an allocation

  does_gave : (opening w : World) (x : Worker) (others : List Worker) (rest : List (List Answered)) (old after : CheckedState) (answer : CheckedGive) → x.local.spot ≡ InChecked DoChecked Alloc → Stands w (x ∷ others) → w.value (node_lock x.local.cache) ≡ Checked old
      → IsCheckedOf w.setup x.local.cache old → Gives old answer after → HasAt w.setup opening rest w.value x.local → HasAfter w.setup opening rest (gave w.setup w.value x.local after answer)
  does_gave opening w x others rest old after give.Empty is s was of gives has =
      has-goes said w.setup opening w.value (with_slabs w.value x.local after) (x.local.done ∷ rest)
      (goes-at said w.setup opening (x.local.done ∷ rest) w.value x.local.cache old after was (λ clean. goes-give (Put said w.setup opening (x.local.done ∷ rest) x.local.cache) old give.Empty after of.sound gives clean)) has
  does_gave opening w x others rest old after (give.Given slot) is s was of gives has =
      let r = reply.Given (address_of slot.frame slot.index (w.setup.layout x.local.cache)) in
      replied w.setup opening rest w.value x.local r old after was tt
      (goes-give (Put said w.setup opening ((one-more x.local r ∷ x.local.done) ∷ rest) x.local.cache) old (give.Given slot) after of.sound gives (clean-here w.setup opening rest w.value x.local r old was ((at-work w x others s).spot.checked (rw is refl)).2 has)) has

  -- ---- a new slab

  adds : (opening w : World) (x : Worker) (others : List Worker) (rest : List (List Answered)) (kind : CallKind) (run : FrameRun) (old : CheckedState) → x.local.spot ≡ InChecked AddSlab kind → x.local.run ≡ Some run → Stands w (x ∷ others)
      → w.value (node_lock x.local.cache) ≡ Checked old → IsCheckedOf w.setup x.local.cache old → HasAt w.setup opening rest w.value x.local → HasAfter w.setup opening rest (slab_added w.setup w.value x.local old run)
  adds opening w x others rest kind run old is mine s was of has =
      let l = x.local in
      let f = run.frame in
      let fits = new-run w x others kind run old is mine s was of in
      let r = reply.Given (address_of f 0 (w.setup.layout l.cache)) in
      let slot : Slot = record { frame = f; index = 0 } in
      let as_run : Run = record { frame = f; order = run.order } in
      replied w.setup opening rest w.value l r old (with_given (with_new_slab old as_run run.objects) slot) was tt
      (goes-added (Put said w.setup opening ((one-more l r ∷ l.done) ∷ rest) l.cache) old as_run run.objects slot of.sound fits.none fits.fresh fits.first fits.last fits.sized refl
      (clean-here w.setup opening rest w.value l r old was ((at-work w x others s).spot.checked (rw is refl)).2 has)) has

  pub adds_slab : (opening w : World) (x : Worker) (others : List Worker) (rest : List (List Answered)) (refused : Bool) (kind : CallKind) → x.local.spot ≡ InChecked AddSlab kind → Stands w (x ∷ others)
      → HasAt w.setup opening rest w.value x.local → HasAfter w.setup opening rest (checked_at_once w.setup refused w.value x.local AddSlab kind)
  adds_slab opening w x others rest true kind is s has =
      let d = one-more x.local reply.NoMemory in
      let more = (d ∷ x.local.done) ∷ rest in
      has-goes said w.setup opening w.value _ more (goes-pool said w.setup opening more w.value (with_put (pool_of w) (run_of x.local))) (has-reply said w.setup opening w.value x.local.done rest d tt has)
  adds_slab opening w x others rest false kind is s has =
      let ok = at-work w x others s in
      let r = the-slabs w x others s (rw is refl) in
      let e : slabs_of w.setup w.value x.local ≡ r.0 = ap (slabs_in (w.setup.layout x.local.cache)) r.1 in
      subst (λ slabs. HasAfter w.setup opening rest (slab_added w.setup w.value x.local slabs (run_of x.local))) (sym e)
      (adds opening w x others rest kind (run_of x.local) r.0 is (some-run x.local.run (ok.spot.run (rw is refl))) s r.1 r.2 has)

  -- ---- all calls

  by-kind : (kind : CallKind) → DoesWell kind
  by-kind Alloc opening w x others rest old is s ac was of has = does_gave opening w x others rest old (w.setup.means.give old) (w.setup.means.gave old) is s was of (w.setup.means.gives old of.sound) has
  by-kind Free opening w x others rest old is s ac was of has = does_free opening w x others rest old is s ac was of has
  by-kind Write opening w x others rest old is s ac was of has = does_write opening w x others rest old is s ac was of has
  by-kind Read opening w x others rest old is s ac was of has = has-reply said w.setup opening w.value x.local.done rest _ tt has
  by-kind Poke opening w x others rest old is s ac was of has = does_poke opening w x others rest old is s ac was of has
  by-kind Trim opening w x others rest old is s ac was of has = has
  by-kind Flush opening w x others rest old is s ac was of has = has

  pub does_checked : (kind : CallKind) (opening w : World) (x : Worker) (others : List Worker) (rest : List (List Answered)) → x.local.spot ≡ InChecked DoChecked kind → Stands w (x ∷ others) → IsAccounted opening w (x ∷ others)
      → HasAt w.setup opening rest w.value x.local → HasAfter w.setup opening rest (do_checked w.setup w.value x.local kind (slabs_of w.setup w.value x.local))
  does_checked kind opening w x others rest is s ac has =
      let r = the-slabs w x others s (rw is refl) in
      let e : slabs_of w.setup w.value x.local ≡ r.0 = ap (slabs_in (w.setup.layout x.local.cache)) r.1 in
      subst (λ slabs. HasAfter w.setup opening rest (do_checked w.setup w.value x.local kind slabs)) (sym e) (by-kind kind opening w x others rest r.0 is s ac r.1 r.2 has)
