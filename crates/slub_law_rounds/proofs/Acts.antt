-- At once, under a checked cache's lock: what its calls do to bytes, reports and objects set aside.
use Rattle.std.proofs.Common.{◌≡◌, ℕ, ◌+◌, ◌*◌, ◌<◌, ◌≤◌, Bool, true, false, eqb, ◌&&◌, if◌then◌else◌, List, [], ◌∷◌, length, Option, Some, None, refl, sym, ap, ◌∙◌, subst, arith, inl, inr, ℤ}
use Rattle.std.specs.Prelude.{IsSome, IfSome, nat_lt, slice_index_or, unwrap_or, pos, ◌+ℤ◌, int_le, int_lt, ◌≤ℤ◌, ◌<ℤ◌, T}
use Rattle.std.proofs.lemmas.Bool.{cases_lt, false≢true, eqb-true, leb-true, not-false}
use Rattle.std.proofs.lemmas.List.Elements.{All-head}
use Rattle.slub_object_layout.specs.declared.layout.Layout.{Layout}
use Rattle.slub_object_layout.specs.Layout.{address_of, IsSized}
use Rattle.slub_trace.specs.declared.damage.Damage.{Damage}
use Rattle.slub_red_zone.specs.declared.checked.Slot.{Slot}
use Rattle.slub_red_zone.specs.declared.checked.Run.{Run}
use Rattle.slub_red_zone.specs.declared.checked.CheckedGive.{CheckedGive}
use Rattle.slub_red_zone.specs.declared.checked.CheckedGive.TheVariants as give
use Rattle.slub_red_zone.specs.State.{SlabState, CheckedState, Has as HasSlab, no_slab, slab_of, objects_in}
use Rattle.slub_red_zone.specs.Sound.{IsSound, IsSlab}
use Rattle.slub_red_zone.specs.Steps.{Gives, IsSpare, damage_of_used, with_taken, without_slab, with_byte, with_given, with_new_slab, with_word, place_of}
use Rattle.slub_red_zone.specs.Zones.{red_inactive}
use Rattle.slub_red_zone.proofs.Objects.{taken-object}
use Rattle.slub_red_zone.proofs.Taken.{used-some, used-inside, taken-sound}
use Rattle.slub_red_zone.proofs.Whole.{slab-sound}
use Rattle.slub_page_pool.specs.FreeFrames.{FreeFrames}
use Rattle.slub_trace.specs.declared.reply.Reply.{Reply}
use Rattle.slub_trace.specs.declared.reply.Reply.TheVariants as reply
use Rattle.slub_core.specs.declared.call.CallKind.{CallKind}
use Rattle.slub_core.specs.declared.call.CallKind.TheVariants.{Alloc, Free, Write, Poke}
use Rattle.slub_core.specs.declared.local.Answered.{Answered}
use Rattle.slub_core.specs.declared.local.FrameRun.{FrameRun}
use Rattle.slub_core.specs.declared.local.Known.{Known}
use Rattle.slub_core.specs.declared.spot.Spot.TheVariants.{InChecked}
use Rattle.slub_core.specs.declared.spot.CheckedSpot.TheVariants.{DoChecked, AddSlab, LockRun, GiveChecked}
use Rattle.slub_core.specs.Calls.{call_object, call_word, call_value, call_offset, call_byte}
use Rattle.slub_core.specs.Setup.{Setup, node_lock, pool_lock}
use Rattle.slub_core.specs.World.{World, LockValue, Checked, Pool, update, pool_of, size_in}
use Rattle.slub_core.specs.Local.{Local, Worker, Change, here, call_of, address_in, run_of, at, loses, noted}
use Rattle.slub_core.specs.Checked.{slabs_of, slabs_in, slot_of, with_slabs, gave, is_spare, run_at, took_back, is_offset, slab_added, do_checked, checked_at_once}
use Rattle.slub_core.specs.Discard.{with_put}
use Rattle.slub_core.specs.Spots.{doing}
use Rattle.slub_core.specs.Listed.{covered_by, IsCheckedOf}
use Rattle.slub_core.specs.Fresh.{IsAtWork}
use Rattle.slub_core.specs.Replies.{names_object, address_by, cache_by}
use Rattle.slub_core.specs.Coherent.{Stands}
use Rattle.slub_core.specs.Accounted.{public, known_of, IsAccounted}
use Rattle.slub_core.proofs.CheckedStep.{the-slabs}
use Rattle.slub_core.proofs.CheckedSpots.{held-object}
use Rattle.slub_core.proofs.TaleAnswer.{place-here}
use Rattle.slub_core.proofs.TaleReplies.{told-of, known-here}
use Rattle.slub_core.proofs.Apart.{held-run}
use Rattle.slub_core.proofs.CheckedBytes.{length-set_slot}
use Rattle.slub_core.proofs.CheckedStep.{shape-size}
use Rattle.slub_core.proofs.Kind21.{nobody-covers, run-some}
use Rattle.slub_core.proofs.PoolSpots.{some-run}
use Rattle.slub_core.proofs.RemakeStep.{run-first, pow-some}
use Rattle.slub_core.proofs.Update.{update_other}
use Rattle.slub_core.proofs.StepValues.{value-slab}
use Rattle.slub_law_rounds.proofs.Cleaning.{Clean}
use Rattle.slub_law_rounds.specs.Contents.{slabs_at, WasPoked, Came, IsDamage, TellsOfByte}
use Rattle.slub_law_rounds.proofs.Moves.{Goes, goes-none, goes-taken, goes-gone, goes-poked, goes-written, goes-give, goes-added, goes-more, damage-of}
use Rattle.slub_law_rounds.proofs.Grows.{Has, GoesAll, has-goes, has-reply, bytes-reply, goes-at}

-- what is so where the worker is, beside others that were answered `rest`
abbrev pub HasAt : Setup → World → List (List Answered) → (ℕ → LockValue) → Local → Type 0
HasAt m opening rest value l = Has m opening value (l.done ∷ rest)

-- where a change leads
abbrev pub HasAfter : Setup → World → List (List Answered) → Change → Type 0
HasAfter m opening rest c = HasAt m opening rest c.value (noted c.local c.reply)

-- ---- tests

true-of : (b : Bool) → b ≡ true → T b
true-of true e = tt
true-of false e = absurd (false≢true e)

both-true : (a b : Bool) → (a && b) ≡ true → (a ≡ true) × (b ≡ true)
both-true true b e = (refl, e)
both-true false b e = absurd (false≢true e)

pub is-between : (x p y : ℤ) → (int_le x p && int_lt p y) ≡ true → (x ≤ℤ p) × (p <ℤ y)
is-between x p y e = let h = both-true (int_le x p) (int_lt p y) e in (record { le = true-of (int_le x p) h.0 }, record { lt = true-of (int_lt p y) h.1 })

-- ---- where the object of a call is

pub record IsWhere (m : Setup) (opening : World) (l : Local) : Type 0 where
  pub address : address_by m opening.board l.done (call_object (call_of l)) ≡ Some (address_in m (here l))
  pub cache : cache_by opening.board l.done (call_object (call_of l)) ≡ Some (here l).cache

-- of what it holds
pub where-held : (opening w : World) (x : Worker) (others : List Worker) (kind : CallKind) → IsAccounted opening w (x ∷ others) → doing x.local.spot ≡ Some kind → names_object kind ≡ true → (here x.local).held ≡ true → IsWhere w.setup opening x.local
where-held opening w x others kind ac at names mine =
    let l = x.local in
    let tale = told-of opening w x others ac in
    let call = (tale.call kind at).0 in
    let knew = known-here l (place-here w.setup opening.board (public w (x ∷ others)) l kind call names tale) in
    let o = (here l).object in
    let had : (known_of l.known o).held ≡ true = ap (λ (j : Known). j.held) knew ∙ mine in
    record {
      address = ap (address_by w.setup opening.board l.done) (call.object names) ∙ tale.address o had ∙ ap (λ (j : Known). Some (address_in w.setup j)) knew;
      cache = ap (cache_by opening.board l.done) (call.object names) ∙ tale.cache o had ∙ ap (λ (j : Known). Some j.cache) knew;
    }

-- and of what it has had
pub where-known : (opening w : World) (x : Worker) (others : List Worker) (kind : CallKind) → IsAccounted opening w (x ∷ others) → doing x.local.spot ≡ Some kind → names_object kind ≡ true → 1 ≤ (here x.local).frame → IsWhere w.setup opening x.local
where-known opening w x others kind ac at names real =
    let l = x.local in
    let tale = told-of opening w x others ac in
    let call = (tale.call kind at).0 in
    let knew = known-here l (place-here w.setup opening.board (public w (x ∷ others)) l kind call names tale) in
    let o = (here l).object in
    elim (tale.unknown o (subst (λ (k : Known). 1 ≤ k.frame) (sym knew) real)) [
      | inl known ↦
          let tells = tale.tells o known in
          record {
            address = ap (address_by w.setup opening.board l.done) (call.object names) ∙ tells.0 ∙ ap (λ (j : Known). Some (address_in w.setup j)) knew;
            cache = ap (cache_by opening.board l.done) (call.object names) ∙ tells.1 ∙ ap (λ (j : Known). Some j.cache) knew;
          }
      | inr held ↦ where-held opening w x others kind ac at names (ap (λ (j : Known). j.held) (sym knew) ∙ held)
    ]

-- the address is the same by the cache's layout and by its slabs'
pub same-address : (m : Setup) (k : Known) (cache : ℕ) (old : CheckedState) → IsCheckedOf m cache old → k.cache ≡ cache → address_in m k ≡ address_of k.frame k.index old.layout
same-address m k cache old of owner = ap (λ c. address_of k.frame k.index (m.layout c)) owner ∙ sym (ap (λ (l : Layout). address_of k.frame k.index l) of.layout)

-- ---- call by call, in a cache with these slabs

abbrev pub DoesWell : CallKind → Type 0
DoesWell kind = (opening w : World) (x : Worker) (others : List Worker) (rest : List (List Answered)) (old : CheckedState) → x.local.spot ≡ InChecked DoChecked kind → Stands w (x ∷ others) → IsAccounted opening w (x ∷ others)
    → w.value (node_lock x.local.cache) ≡ Checked old → IsCheckedOf w.setup x.local.cache old → HasAt w.setup opening rest w.value x.local → HasAfter w.setup opening rest (do_checked w.setup w.value x.local kind old)

pub at-work : (w : World) (x : Worker) (others : List Worker) → Stands w (x ∷ others) → IsAtWork w x
at-work w x others s = All-head (IsAtWork w) x others s.fresh.workers

abbrev pub one-more : Local → Reply → Answered
one-more l r = record { call = call_of l; reply = r }

-- a reply that tells nothing of bytes, and other slabs
replied : (m : Setup) (opening : World) (rest : List (List Answered)) (value : ℕ → LockValue) (l : Local) (r : Reply) (old new : CheckedState) → value (node_lock l.cache) ≡ Checked old
    → let more = (one-more l r ∷ l.done) ∷ rest in TellsOfByte m opening more l.done (call_of l) r → Goes (Came m opening more l.cache) old new → HasAt m opening rest value l → Has m opening (with_slabs value l new) more
replied m opening rest value l r old new was tells goes has =
    let more = (one-more l r ∷ l.done) ∷ rest in
    has-goes m opening value (with_slabs value l new) more (goes-at m opening more value l.cache old new was (λ clean. goes)) (has-reply m opening value l.done rest (one-more l r) tells has)

-- what is looked at of the cache's bytes, once the worker has one more reply
clean-here : (m : Setup) (opening : World) (rest : List (List Answered)) (value : ℕ → LockValue) (l : Local) (r : Reply) (old : CheckedState) → value (node_lock l.cache) ≡ Checked old → m.checks l.cache ≡ true → HasAt m opening rest value l
    → Clean (Came m opening ((one-more l r ∷ l.done) ∷ rest) l.cache) old
clean-here m opening rest value l r old was checks has =
    subst (λ s. Clean (Came m opening ((one-more l r ∷ l.done) ∷ rest) l.cache) s) (ap (slabs_in (m.layout l.cache)) was) (bytes-reply m opening value l.done rest (one-more l r) l.cache checks has)

-- ---- writes and reads

pub does_write : DoesWell Write
does_write opening w x others rest old is s ac was of has =
    let l = x.local in
    let ok = at-work w x others s in
    let used = held-object w x others old s (rw is refl) (rw is refl) was in
    let size : old.layout.object_size ≡ (w.setup.layout l.cache).object_size = ap (λ (l : Layout). l.object_size) of.layout in
    let fits : 8 * (call_word (call_of l) + 1) ≤ (w.setup.layout l.cache).object_size = leb-true (8 * (call_word (call_of l) + 1)) (w.setup.layout l.cache).object_size (not-false _ (ok.spot.inside (rw is refl))) in
    let more = (one-more l reply.Wrote ∷ l.done) ∷ rest in
    replied w.setup opening rest w.value l reply.Wrote old (with_word old (slot_of l) (call_word (call_of l)) (call_value (call_of l))) was tt
    (goes-written (Came w.setup opening more l.cache) old (slot_of l) (call_word (call_of l)) (call_value (call_of l)) of.sound used (omega (arith, size, fits))
    (clean-here w.setup opening rest w.value l reply.Wrote old was (ok.spot.checked (rw is refl)).2 has)) has

-- ---- a poke

-- what the poke puts
abbrev pub poke-was : (opening w : World) (x : Worker) (others : List Worker) (rest : List (List Answered)) (old : CheckedState) → x.local.spot ≡ InChecked DoChecked Poke → Stands w (x ∷ others) → IsAccounted opening w (x ∷ others) → IsCheckedOf w.setup x.local.cache old
    → WasPoked w.setup opening.board ((one-more x.local reply.Poked ∷ x.local.done) ∷ rest) x.local.cache (pos (address_of (slot_of x.local).frame (slot_of x.local).index old.layout) +ℤ (call_offset (call_of x.local))) (call_byte (call_of x.local))
poke-was opening w x others rest old is s ac of =
    let ok = at-work w x others s in
    let k = ok.spot.pokes (rw is refl) in
    let place = where-known opening w x others Poke ac (rw is refl) refl k.2 in
    let call = ((told-of opening w x others ac).call Poke (rw is refl)).0 in
    record {
      own = x.local.done;
      one = one-more x.local reply.Poked;
      later = [];
      there = (0, omega arith, refl);
      asks = call.same_kind;
      done = refl;
      puts = refl;
      of = place.cache ∙ ap Some k.1;
      address = address_in w.setup (here x.local);
      object = place.address;
      is = ap (λ a. pos a +ℤ (call_offset (call_of x.local))) (same-address w.setup (here x.local) x.local.cache old of k.1);
    }

pub does_poke : DoesWell Poke
does_poke opening w x others rest old is s ac was of has =
    by_place (is_offset old.layout (call_offset (call_of x.local))) (nat_lt (here x.local).index (objects_in (slab_of old (here x.local).frame))) refl
  where
    l : Local
    l = x.local

    poked_as : Bool → Bool → Change
    poked_as inside there = record {
      value = with_slabs w.value x.local (if inside && there then with_byte old (slot_of x.local) (call_offset (call_of x.local)) (call_byte (call_of x.local)) else old);
      local = at x.local (InChecked GiveChecked Poke);
      reply = Some (if inside then (if there then reply.Poked else reply.NotHeld) else reply.OutOfSlot);
    }

    by_place : (inside there : Bool) → is_offset old.layout (call_offset (call_of x.local)) ≡ inside → HasAfter w.setup opening rest (poked_as inside there)
    by_place true true e =
        let ok = at-work w x others s in
        let d = one-more x.local reply.Poked in
        let more = (d ∷ x.local.done) ∷ rest in
        let was_poked = poke-was opening w x others rest old is s ac of in
        replied w.setup opening rest w.value x.local reply.Poked old (with_byte old (slot_of x.local) (call_offset (call_of x.local)) (call_byte (call_of x.local))) was tt
        (goes-poked (Came w.setup opening more x.local.cache) old (slot_of x.local) (call_offset (call_of x.local)) (call_byte (call_of x.local)) of.sound (is-between (pos 0) (place_of old.layout (call_offset (call_of x.local))) (pos old.layout.size) e) (inr was_poked)
        (clean-here w.setup opening rest w.value x.local reply.Poked old was (ok.spot.checked (rw is refl)).2 has)) has
    by_place true false e =
        replied w.setup opening rest w.value x.local reply.NotHeld old old was tt (goes-none _ old (clean-here w.setup opening rest w.value x.local reply.NotHeld old was ((at-work w x others s).spot.checked (rw is refl)).2 has)) has
    by_place false there e =
        replied w.setup opening rest w.value x.local reply.OutOfSlot old old was tt (goes-none _ old (clean-here w.setup opening rest w.value x.local reply.OutOfSlot old was ((at-work w x others s).spot.checked (rw is refl)).2 has)) has

-- ---- a free

-- a slab with an object in use no more, where its test says so
pub spare-is : (m : Setup) (s : CheckedState) (cache frame : ℕ) → is_spare m s cache frame ≡ true → IsSpare s frame (m.layout cache).min_partial
spare-is m s cache frame e =
    let h = both-true (eqb (length (slab_of s frame).free) (objects_in (slab_of s frame))) _ e in
    record { all_free = eqb-true (length (slab_of s frame).free) (objects_in (slab_of s frame)) h.0; enough = leb-true (m.layout cache).min_partial (length s.listed) h.1 }

pub does_free : DoesWell Free
does_free opening w x others rest old is s ac was of has = by_damage (damage_of_used old (slot_of x.local)) refl
  where
    back : (spare : Bool) → damage_of_used old (slot_of x.local) ≡ None → is_spare w.setup (with_taken old (slot_of x.local)) x.local.cache (here x.local).frame ≡ spare → HasAfter w.setup opening rest (record {
      value = with_slabs w.value x.local (if spare then without_slab (with_taken old (slot_of x.local)) (here x.local).frame else with_taken old (slot_of x.local));
      local = record (loses x.local) {
        run = (if spare then Some (run_at (with_taken old (slot_of x.local)) (here x.local).frame) else None);
        spot = (if spare then InChecked LockRun Free else InChecked GiveChecked Free);
      };
      reply = Some (reply.Freed (address_in w.setup (here x.local)));
    })
    back true none e =
        let slot = slot_of x.local in
        let f = (here x.local).frame in
        let mid = with_taken old slot in
        let r = reply.Freed (address_in w.setup (here x.local)) in
        let came = Came w.setup opening ((one-more x.local r ∷ x.local.done) ∷ rest) x.local.cache in
        let used = held-object w x others old s (rw is refl) (rw is refl) was in
        let took = goes-taken came old slot of.sound used none (clean-here w.setup opening rest w.value x.local r old was ((at-work w x others s).spot.checked (rw is refl)).2 has) in
        let sound = taken-sound old slot of.sound used (length-set_slot old.layout old.flags red_inactive (slab_of old f).bytes slot.index of.sound.layout.bounds (used-inside old slot of.sound used)) in
        let size = shape-size old mid f ((taken-object old slot of.sound used).slabs.shape f) in
        let some = used-some old slot of.sound used in
        let slab = slab-sound mid f sound (omega (arith, size, some)) in
        let spare = spare-is w.setup mid x.local.cache f e in
        replied w.setup opening rest w.value x.local r old (without_slab mid f) was tt
        (goes-more came old mid (without_slab mid f) took (goes-gone came mid f (w.setup.layout x.local.cache).min_partial spare (sym slab.free.count ∙ spare.all_free) took.bytes)) has
    back false none e =
        let r = reply.Freed (address_in w.setup (here x.local)) in
        let came = Came w.setup opening ((one-more x.local r ∷ x.local.done) ∷ rest) x.local.cache in
        let used = held-object w x others old s (rw is refl) (rw is refl) was in
        replied w.setup opening rest w.value x.local r old (with_taken old (slot_of x.local)) was tt
        (goes-taken came old (slot_of x.local) of.sound used none (clean-here w.setup opening rest w.value x.local r old was ((at-work w x others s).spot.checked (rw is refl)).2 has)) has

    by_damage : (damage : Option Damage) → damage_of_used old (slot_of x.local) ≡ damage → HasAfter w.setup opening rest (took_back w.setup w.value x.local old damage)
    by_damage None e = back (is_spare w.setup (with_taken old (slot_of x.local)) x.local.cache (here x.local).frame) e refl
    by_damage (Some damage) e =
        let ok = at-work w x others s in
        let keep = ok.spot.keeps (rw is refl) in
        let used = held-object w x others old s (rw is refl) (rw is refl) was in
        let place = where-held opening w x others Free ac (rw is refl) refl keep.1 in
        let d = one-more x.local (reply.Corrupt damage) in
        let came = Came w.setup opening ((d ∷ x.local.done) ∷ rest) x.local.cache in
        let bad = damage-of came old (slot_of x.local) damage of.sound used e (clean-here w.setup opening rest w.value x.local (reply.Corrupt damage) old was (ok.spot.checked (rw is refl)).2 has) in
        let same = same-address w.setup (here x.local) x.local.cache old of keep.2 in
        has-reply w.setup opening w.value x.local.done rest d
        (record { cache = x.local.cache; of = place.cache ∙ ap Some keep.2; address = address_in w.setup (here x.local); object = place.address; bad = subst (λ a. IsDamage came a damage) (sym same) bad }) has

-- ---- an allocation

pub does_gave : (opening w : World) (x : Worker) (others : List Worker) (rest : List (List Answered)) (old after : CheckedState) (answer : CheckedGive) → x.local.spot ≡ InChecked DoChecked Alloc → Stands w (x ∷ others) → w.value (node_lock x.local.cache) ≡ Checked old
    → IsCheckedOf w.setup x.local.cache old → Gives old answer after → HasAt w.setup opening rest w.value x.local → HasAfter w.setup opening rest (gave w.setup w.value x.local after answer)
does_gave opening w x others rest old after give.Empty is s was of gives has =
    has-goes w.setup opening w.value (with_slabs w.value x.local after) (x.local.done ∷ rest)
    (goes-at w.setup opening (x.local.done ∷ rest) w.value x.local.cache old after was (λ clean. goes-give (Came w.setup opening (x.local.done ∷ rest) x.local.cache) old give.Empty after of.sound gives clean)) has
does_gave opening w x others rest old after (give.Given slot) is s was of gives has =
    let r = reply.Given (address_of slot.frame slot.index (w.setup.layout x.local.cache)) in
    replied w.setup opening rest w.value x.local r old after was tt
    (goes-give (Came w.setup opening ((one-more x.local r ∷ x.local.done) ∷ rest) x.local.cache) old (give.Given slot) after of.sound gives (clean-here w.setup opening rest w.value x.local r old was ((at-work w x others s).spot.checked (rw is refl)).2 has)) has

-- ---- a new slab

-- a slab has an object
has-some : (s : CheckedState) (f : ℕ) → IsSound s → HasSlab s f → 1 ≤ objects_in (slab_of s f)
has-some s f sound has = some (slice_index_or s.slabs f None) has (sound.slab f)
  where
    some : (a : Option SlabState) → IsSome a → IfSome a (IsSlab s.layout) → 1 ≤ objects_in (unwrap_or a no_slab)
    some None has is = absurd (false≢true has)
    some (Some slab) has is = (run-some s.layout slab.order (objects_in slab) sound.layout.bounds is.sized).0

-- other locks' values change nothing of checked caches
pub goes-pool : (m : Setup) (opening : World) (dones : List (List Answered)) (value : ℕ → LockValue) (pool : FreeFrames) → GoesAll m opening dones value (update value pool_lock (Pool pool))
goes-pool m opening dones value pool cache checks clean =
    let stay : slabs_at m (update value pool_lock (Pool pool)) cache ≡ slabs_at m value cache = ap (slabs_in (m.layout cache)) (update_other value pool_lock (Pool pool) (node_lock cache) (λ e. absurd (omega arith))) in
    subst (λ s. Goes (Came m opening dones cache) (slabs_at m value cache) s) (sym stay) (goes-none (Came m opening dones cache) (slabs_at m value cache) clean)

-- a run in hand is where no slab of the cache is
pub record IsNewRun (old : CheckedState) (run : FrameRun) : Type 0 where
  pub none : objects_in (slab_of old run.frame) ≡ 0
  pub fresh : ¬ HasSlab old run.frame
  pub first : 1 ≤ run.frame
  pub last : run.frame < 4096
  pub sized : IsSized old.layout run.order run.objects

pub new-run : (w : World) (x : Worker) (others : List Worker) (kind : CallKind) (run : FrameRun) (old : CheckedState) → x.local.spot ≡ InChecked AddSlab kind → x.local.run ≡ Some run → Stands w (x ∷ others)
    → w.value (node_lock x.local.cache) ≡ Checked old → IsCheckedOf w.setup x.local.cache old → IsNewRun old run
new-run w x others kind run old is mine s was of =
    let l = x.local in
    let n = node_lock l.cache in
    let f = run.frame in
    let ok = at-work w x others s in
    let checked = ok.spot.checked (rw is refl) in
    let count = s.fresh.setup.locks in
    let frames = s.fresh.setup.frames in
    let below : n < w.setup.locks = let c = checked.0 in omega arith in
    let held = held-run w l.cache l run _ mine ok.seen.run in
    let sized : IsSized old.layout run.order run.objects = subst (λ l. IsSized l run.order run.objects) (sym of.layout) held.sized in
    let room = pow-some run.order in
    let first = held.first in
    let inside = held.inside in
    let within : f < w.setup.frames = omega arith in
    let covered : covered_by f l.run ≡ 1 = rw mine (run-first f run.order) in
    let nothing = nobody-covers w x others f s within (omega arith) in
    let no_old : objects_in (slab_of old f) ≡ 0 = elim (cases_lt 0 (objects_in (slab_of old f))) [
      | inl l ↦ absurd (let z : size_in (w.value n) f ≡ objects_in (slab_of old f) = ap (λ v. size_in v f) was in let v = value-slab w s.chains n f s.listed.shaped below (omega arith) in let e = v.1 in omega arith)
      | inr g ↦ omega arith
    ] in
    record { none = no_old; fresh = λ h. absurd (let a = has-some old f of.sound h in omega arith); first = first; last = omega arith; sized = sized }

adds : (opening w : World) (x : Worker) (others : List Worker) (rest : List (List Answered)) (kind : CallKind) (run : FrameRun) (old : CheckedState) → x.local.spot ≡ InChecked AddSlab kind → x.local.run ≡ Some run → Stands w (x ∷ others)
    → w.value (node_lock x.local.cache) ≡ Checked old → IsCheckedOf w.setup x.local.cache old → HasAt w.setup opening rest w.value x.local → HasAfter w.setup opening rest (slab_added w.setup w.value x.local old run)
adds opening w x others rest kind run old is mine s was of has =
    let l = x.local in
    let f = run.frame in
    let fits = new-run w x others kind run old is mine s was of in
    let r = reply.Given (address_of f 0 (w.setup.layout l.cache)) in
    let slot : Slot = record { frame = f; index = 0 } in
    let as_run : Run = record { frame = f; order = run.order } in
    replied w.setup opening rest w.value l r old (with_given (with_new_slab old as_run run.objects) slot) was tt
    (goes-added (Came w.setup opening ((one-more l r ∷ l.done) ∷ rest) l.cache) old as_run run.objects slot of.sound fits.none fits.fresh fits.first fits.last fits.sized refl
    (clean-here w.setup opening rest w.value l r old was ((at-work w x others s).spot.checked (rw is refl)).2 has)) has

pub adds_slab : (opening w : World) (x : Worker) (others : List Worker) (rest : List (List Answered)) (refused : Bool) (kind : CallKind) → x.local.spot ≡ InChecked AddSlab kind → Stands w (x ∷ others)
    → HasAt w.setup opening rest w.value x.local → HasAfter w.setup opening rest (checked_at_once w.setup refused w.value x.local AddSlab kind)
adds_slab opening w x others rest true kind is s has =
    let d = one-more x.local reply.NoMemory in
    let more = (d ∷ x.local.done) ∷ rest in
    has-goes w.setup opening w.value _ more (goes-pool w.setup opening more w.value (with_put (pool_of w) (run_of x.local))) (has-reply w.setup opening w.value x.local.done rest d tt has)
adds_slab opening w x others rest false kind is s has =
    let ok = at-work w x others s in
    let r = the-slabs w x others s (rw is refl) in
    let e : slabs_of w.setup w.value x.local ≡ r.0 = ap (slabs_in (w.setup.layout x.local.cache)) r.1 in
    subst (λ slabs. HasAfter w.setup opening rest (slab_added w.setup w.value x.local slabs (run_of x.local))) (sym e)
    (adds opening w x others rest kind (run_of x.local) r.0 is (some-run x.local.run (ok.spot.run (rw is refl))) s r.1 r.2 has)
