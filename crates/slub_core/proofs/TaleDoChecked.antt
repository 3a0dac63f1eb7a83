-- At once, under a checked cache's lock: what its calls are answered, call by call.
use Rattle.std.proofs.Common.{◌≡◌, ◌≢◌, ◌-◌, ◌<◌, ◌≤◌, Bool, true, false, if◌then◌else◌, Option, Some, None, List, ◌∷◌, refl, sym, ap, ◌∙◌, subst, arith, inl, inr}
use Rattle.std.specs.Prelude.{nat_lt}
use Rattle.std.proofs.lemmas.Bool.{cases_Bool, lt-ltb, eq-eqb, false≢true}
use Rattle.std.proofs.lemmas.List.Elements.{All-head}
use Rattle.slub_object_layout.specs.declared.layout.Layout.{Layout}
use Rattle.slub_object_layout.specs.Layout.{address_of}
use Rattle.slub_trace.specs.declared.damage.Damage.{Damage}
use Rattle.slub_red_zone.specs.declared.checked.Slot.{Slot}
use Rattle.slub_red_zone.specs.declared.checked.CheckedGive.{CheckedGive}
use Rattle.slub_red_zone.specs.declared.checked.CheckedGive.TheVariants as give
use Rattle.slub_red_zone.specs.State.{CheckedState, slab_of, objects_in, bytes_of, IsUsed}
use Rattle.slub_red_zone.specs.Sound.{IsSound}
use Rattle.slub_red_zone.specs.Objects.{idle, here as here_slot}
use Rattle.slub_red_zone.specs.Steps.{Gives, damage_of_used, with_taken, without_slab, word_of}
use Rattle.slub_red_zone.proofs.Objects.{gives-object}
use Rattle.slub_red_zone.proofs.Parts.{taken-tells}
use Rattle.slub_red_zone.proofs.Taken.{used-object, used-inside}
use Rattle.slub_red_zone.proofs.Whole.{frame-positive}
use Rattle.slub_red_zone.proofs.Written.{slot-long}
use Rattle.slub_trace.specs.declared.reply.Reply.TheVariants as reply
use Rattle.slub_core.specs.declared.call.CallKind.{CallKind}
use Rattle.slub_core.specs.declared.call.CallKind.TheVariants.{Alloc, Free, Write, Read, Poke, Trim, Flush}
use Rattle.slub_core.specs.declared.spot.Spot.TheVariants.{InChecked}
use Rattle.slub_core.specs.declared.spot.CheckedSpot.TheVariants.{DoChecked, LockRun, GiveChecked}
use Rattle.slub_core.specs.Calls.{call_word, call_offset}
use Rattle.slub_core.specs.Setup.{node_lock}
use Rattle.slub_core.specs.World.{World, Checked, cache_at, object_at, objects_at, size_in, idle_in, one_if}
use Rattle.slub_core.specs.Local.{Local, Worker, Change, nobody, here, call_of, address_in, at, gets, loses, answered}
use Rattle.slub_core.specs.Checked.{slabs_of, slabs_in, slot_of, with_slabs, gave, is_spare, run_at, took_back, is_offset, poked, do_checked}
use Rattle.slub_core.specs.Spots.{doing, is_freeing}
use Rattle.slub_core.specs.Listed.{IsCheckedOf}
use Rattle.slub_core.specs.Fresh.{IsAtWork}
use Rattle.slub_core.specs.Coherent.{Stands}
use Rattle.slub_core.specs.Accounted.{IsAccounted}
use Rattle.slub_core.proofs.Accounts.{Tells, TellsAt}
use Rattle.slub_core.proofs.CheckedStep.{the-slabs, shape-size, held-used}
use Rattle.slub_core.proofs.CheckedSpots.{held-object}
use Rattle.slub_core.proofs.StepValues.{value-slab}
use Rattle.slub_core.proofs.ValueStep.{known-owned}
use Rattle.slub_core.proofs.TaleReplies.{spoken, told-of, told_freed, told_corrupt}
use Rattle.slub_core.proofs.TaleGiven.{IsUnheld, told_given}
use Rattle.slub_core.proofs.TaleSpots.{unseen-same, held-real}
use Rattle.slub_core.proofs.TaleUses.{word-inside}
use Rattle.slub_core.proofs.TaleTurns.{goes-on}
use Rattle.slub_core.proofs.TaleAtOnce.{tells_quiet, unseen-guarded}
use Rattle.slub_core.proofs.TaleChecked.{idle-unheld, told_read_checked, told_write_checked}
use Rattle.slub_core.proofs.TalePokes.{told_poked, told_out_of_slot, told_gone}

-- what is done at once is done in a cache with these slabs
abbrev TellsOf : CallKind → Type 0
TellsOf kind = (opening w : World) (x : Worker) (others : List Worker) (old : CheckedState) → x.local.spot ≡ InChecked DoChecked kind → Stands w (x ∷ others) → IsAccounted opening w (x ∷ others) → w.value (node_lock x.local.cache) ≡ Checked old
    → IsCheckedOf w.setup x.local.cache old → Tells opening w others (do_checked w.setup w.value x.local kind old)

at-work : (w : World) (x : Worker) (others : List Worker) → Stands w (x ∷ others) → IsAtWork w x
at-work w x others s = All-head (IsAtWork w) x others s.fresh.workers

-- ---- reads and writes

tells_write : TellsOf Write
tells_write opening w x others old is s ac was of =
    let ok = at-work w x others s in
    let keep = ok.spot.keeps (rw is refl) in
    let z : Worker = record x { local = answered (at x.local (InChecked GiveChecked Write)) reply.Wrote } in
    let inside = word-inside (w.setup.layout (here x.local).cache) (call_of x.local) (rw keep.2 (ok.spot.inside (rw is refl))) in (
      z,
      refl,
      told_write_checked opening w _ x z others ac (unseen-guarded w x.local.cache _) (rw is refl) (rw is refl) keep.1 (rw keep.2 (ok.spot.checked (rw is refl)).2) inside
          (record { known = refl; done = refl; todo = refl; freeing = refl; call = refl }),
    )

tells_read : TellsOf Read
tells_read opening w x others old is s ac was of =
    let ok = at-work w x others s in
    let keep = ok.spot.keeps (rw is refl) in
    let y = word_of old (slot_of x.local) (call_word (call_of x.local)) in
    let z : Worker = record x { local = answered (at x.local (InChecked GiveChecked Read)) (reply.Value y) } in (
      z,
      refl,
      told_read_checked opening w w x z others y ac (unseen-same w) (rw is refl) (rw is refl) keep.1 (rw keep.2 (ok.spot.checked (rw is refl)).2) (rw keep.2 (ok.spot.inside (rw is refl)))
          (record { known = refl; done = refl; todo = refl; freeing = refl; call = refl }),
    )

-- ---- a poke

-- whether the offset lies in the slot is the same by the cache's layout and by its slabs'
offset-same : (w : World) (x : Worker) (old : CheckedState) → IsCheckedOf w.setup x.local.cache old → is_offset old.layout (call_offset (call_of x.local)) ≡ is_offset (w.setup.layout x.local.cache) (call_offset (call_of x.local))
offset-same w x old of = ap (λ (l : Layout). is_offset l (call_offset (call_of x.local))) of.layout

-- where there is no such object the worker holds none
gone-free : (w : World) (x : Worker) (others : List Worker) (old : CheckedState) → x.local.spot ≡ InChecked DoChecked Poke → Stands w (x ∷ others) → w.value (node_lock x.local.cache) ≡ Checked old → IsCheckedOf w.setup x.local.cache old
    → nat_lt (here x.local).index (objects_in (slab_of old (here x.local).frame)) ≡ false → (here x.local).held ≡ false
gone-free w x others old is s was of none =
    let ok = at-work w x others s in
    let k = ok.spot.pokes (rw is refl) in
    elim (cases_Bool (here x.local).held) [
      | inl mine ↦ absurd (
          let used = held-used w x others old (here x.local) s (rw is refl) was k.1 (ok.seen.known x.local.place nobody k.0 mine) (known-owned x x.local.place nobody k.0 mine) in
          false≢true (sym none ∙ lt-ltb (here x.local).index (objects_in (slab_of old (here x.local).frame)) (used-object old (slot_of x.local) of.sound used)))
      | inr free ↦ free
    ]

tells_poke : TellsOf Poke
tells_poke opening w x others old is s ac was of =
    by_place (is_offset old.layout (call_offset (call_of x.local))) (nat_lt (here x.local).index (objects_in (slab_of old (here x.local).frame))) refl refl
  where
    poked_as : Bool → Bool → Change
    poked_as inside there = record {
      value = with_slabs w.value x.local (poked x.local old);
      local = at x.local (InChecked GiveChecked Poke);
      reply = Some (if inside then (if there then reply.Poked else reply.NotHeld) else reply.OutOfSlot);
    }

    by_place : (inside there : Bool) → is_offset old.layout (call_offset (call_of x.local)) ≡ inside → nat_lt (here x.local).index (objects_in (slab_of old (here x.local).frame)) ≡ there → Tells opening w others (poked_as inside there)
    by_place true true e there =
        let ok = at-work w x others s in
        let k = ok.spot.pokes (rw is refl) in
        let z : Worker = record x { local = answered (at x.local (InChecked GiveChecked Poke)) reply.Poked } in (
          z,
          refl,
          told_poked opening w _ x z others ac (unseen-guarded w x.local.cache (Checked (poked x.local old))) (rw is refl) (rw is refl) k.2 (rw k.1 (ok.spot.checked (rw is refl)).2)
              (ap (λ k. is_offset (w.setup.layout k) (call_offset (call_of x.local))) k.1 ∙ sym (offset-same w x old of) ∙ e)
              (record { known = refl; done = refl; todo = refl; freeing = refl; call = refl }),
        )
    by_place true false e there =
        let z : Worker = record x { local = answered (at x.local (InChecked GiveChecked Poke)) reply.NotHeld } in (
          z,
          refl,
          told_gone opening w _ x z others ac (unseen-guarded w x.local.cache (Checked (poked x.local old))) (rw is refl) (rw is refl) (gone-free w x others old is s was of there)
              (record { known = refl; done = refl; todo = refl; freeing = refl; call = refl }),
        )
    by_place false there e _ =
        let ok = at-work w x others s in
        let k = ok.spot.pokes (rw is refl) in
        let z : Worker = record x { local = answered (at x.local (InChecked GiveChecked Poke)) reply.OutOfSlot } in (
          z,
          refl,
          told_out_of_slot opening w _ x z others ac (unseen-guarded w x.local.cache (Checked (poked x.local old))) (rw is refl) (rw is refl) k.2 (rw k.1 (ok.spot.checked (rw is refl)).2)
              (ap (λ k. is_offset (w.setup.layout k) (call_offset (call_of x.local))) k.1 ∙ sym (offset-same w x old of) ∙ e)
              (record { known = refl; done = refl; todo = refl; freeing = refl; call = refl }),
        )

-- ---- a free

-- a damaged byte isn't the wanted one
damage-other : (old : CheckedState) (slot : Slot) (damage : Damage) → IsSound old → IsUsed old slot → damage_of_used old slot ≡ Some damage → damage.found ≢ damage.wanted
damage-other old slot damage sound used found =
    (taken-tells old.layout sound.layout.bounds old.flags (bytes_of old slot) (slot-long old.layout (slab_of old slot.frame).bytes slot.index (used-inside old slot sound used)) damage found).other

tells_free : TellsOf Free
tells_free opening w x others old is s ac was of = by_damage (damage_of_used old (slot_of x.local)) refl
  where
    back : (spare : Bool) → Tells opening w others (record {
      value = with_slabs w.value x.local (if spare then without_slab (with_taken old (slot_of x.local)) (here x.local).frame else with_taken old (slot_of x.local));
      local = record (loses x.local) {
        run = (if spare then Some (run_at (with_taken old (slot_of x.local)) (here x.local).frame) else None);
        spot = (if spare then InChecked LockRun Free else InChecked GiveChecked Free);
      };
      reply = Some (reply.Freed (address_in w.setup (here x.local)));
    })
    back spare =
        let ok = at-work w x others s in
        let keep = ok.spot.keeps (rw is refl) in
        let r = reply.Freed (address_in w.setup (here x.local)) in
        let l : Local = record (loses x.local) {
          run = (if spare then Some (run_at (with_taken old (slot_of x.local)) (here x.local).frame) else None);
          spot = (if spare then InChecked LockRun Free else InChecked GiveChecked Free);
        } in
        let z : Worker = record x { local = answered l r } in
        let way = free-way spare in (
          z,
          refl,
          told_freed opening w _ x z others ac (spoken w _ x.local r (unseen-guarded w x.local.cache _) refl) ((told-of opening w x others ac).call Free (rw is refl)).0 (rw is refl) keep.1 (held-real w x others s keep.0 keep.1)
              (record { known = refl; done = refl; todo = refl; freeing = way.0; call = way.1 }),
        )
      where
        free-way : (spare : Bool) → (is_freeing (if spare then InChecked LockRun Free else InChecked GiveChecked Free) ≡ false) × (doing (if spare then InChecked LockRun Free else InChecked GiveChecked Free) ≡ None)
        free-way true = (refl, refl)
        free-way false = (refl, refl)

    by_damage : (damage : Option Damage) → damage_of_used old (slot_of x.local) ≡ damage → Tells opening w others (took_back w.setup w.value x.local old damage)
    by_damage None e = back (is_spare w.setup (with_taken old (slot_of x.local)) x.local.cache (here x.local).frame)
    by_damage (Some damage) e =
        let ok = at-work w x others s in
        let keep = ok.spot.keeps (rw is refl) in
        let used = held-object w x others old s (rw is refl) (rw is refl) was in
        let z : Worker = record x { local = answered (at x.local (InChecked GiveChecked Free)) (reply.Corrupt damage) } in (
          z,
          refl,
          told_corrupt opening w w x z others damage ac (spoken w w x.local (reply.Corrupt damage) (unseen-same w) refl) ((told-of opening w x others ac).call Free (rw is refl)).0 (rw is refl) (rw is refl)
              keep.1 (rw keep.2 (ok.spot.checked (rw is refl)).2) (held-real w x others s keep.0 keep.1) (damage-other old (slot_of x.local) damage of.sound used e)
              (record { known = refl; done = refl; todo = refl; freeing = refl; call = refl }),
        )

-- ---- an allocation

-- the object that is given was idle
tells_gave : (opening w : World) (x : Worker) (others : List Worker) (old after : CheckedState) (answer : CheckedGive) → x.local.spot ≡ InChecked DoChecked Alloc → Stands w (x ∷ others) → IsAccounted opening w (x ∷ others) → w.value (node_lock x.local.cache) ≡ Checked old
    → IsCheckedOf w.setup x.local.cache old → Gives old answer after → Tells opening w others (gave w.setup w.value x.local after answer)
tells_gave opening w x others old after give.Empty is s ac was of gives =
    tells_quiet opening w _ x others _ ac (unseen-guarded w x.local.cache (Checked after)) (goes-on x.local _ _ _ is refl (record { freeing = refl; frees = refl; call = λ kind e. e }) refl refl refl refl refl refl)
tells_gave opening w x others old after (give.Given slot) is s ac was of gives =
    let l = x.local in
    let ok = at-work w x others s in
    let f = slot.frame in
    let n = node_lock l.cache in
    let done = gives-object old (give.Given slot) after of.sound gives in
    let below : n < w.setup.locks = let c = (ok.spot.checked (rw is refl)).0 in let k = s.fresh.setup.locks in omega arith in
    let shape = shape-size old after f (done.slabs.shape f) in
    let within = done.objects.inside in
    let size : size_in (w.value n) f ≡ objects_in (slab_of old f) = ap (λ v. size_in v f) was in
    let v = value-slab w s.chains n f s.listed.shaped below (omega arith) in
    let here' : here_slot slot f slot.index ≡ 1 = rw (eq-eqb f f refl, eq-eqb slot.index slot.index refl) refl in
    let idle' : idle_in (w.value n) f slot.index ≡ idle old f slot.index = ap (λ v. idle_in v f slot.index) was in
    let was_idle : 1 ≤ idle_in (w.value n) f slot.index = let e = done.objects.one f slot.index in omega arith in
    let there : object_at w f slot.index ≡ 1 = ap one_if (lt-ltb slot.index (objects_at w f) (let e = v.1 in omega arith)) in
    let cache : cache_at w f ≡ l.cache = v.2 ∙ (let c : n - 1 ≡ l.cache = omega arith in c) in
    let un = subst (λ k. IsUnheld w (x ∷ others) (address_of f slot.index (w.setup.layout k))) cache (idle-unheld w x others n f slot.index s below was_idle (omega arith)) in
    let r = reply.Given (address_of f slot.index (w.setup.layout l.cache)) in
    let z : Worker = record x { local = answered (at (gets l l.cache f slot.index) (InChecked GiveChecked Alloc)) r } in (
      z,
      refl,
      told_given opening w _ x z others f slot.index ac (spoken w _ l r (unseen-guarded w l.cache (Checked after)) refl) (rw is refl) (rw is refl) (ok.spot.awaits (rw is refl)).1 (frame-positive old f of.sound (omega arith)) un
          (record { known = refl; done = refl; todo = refl; freeing = refl; call = refl }),
    )

-- ---- each call

by-kind : (kind : CallKind) → TellsOf kind
by-kind Alloc opening w x others old is s ac was of = tells_gave opening w x others old (w.setup.means.give old) (w.setup.means.gave old) is s ac was of (w.setup.means.gives old of.sound)
by-kind Free opening w x others old is s ac was of = tells_free opening w x others old is s ac was of
by-kind Write opening w x others old is s ac was of = tells_write opening w x others old is s ac was of
by-kind Read opening w x others old is s ac was of = tells_read opening w x others old is s ac was of
by-kind Poke opening w x others old is s ac was of = tells_poke opening w x others old is s ac was of
by-kind Trim opening w x others old is s ac was of = (x, refl, ac)
by-kind Flush opening w x others old is s ac was of = (x, refl, ac)

pub tells_DoChecked : (kind : CallKind) → TellsAt (InChecked DoChecked kind)
tells_DoChecked kind opening w refused x others is s ac =
    let r = the-slabs w x others s (rw is refl) in
    let e : slabs_of w.setup w.value x.local ≡ r.0 = ap (slabs_in (w.setup.layout x.local.cache)) r.1 in
    subst (λ slabs. Tells opening w others (do_checked w.setup w.value x.local kind slabs)) (sym e) (by-kind kind opening w x others r.0 is s ac r.1 r.2)
