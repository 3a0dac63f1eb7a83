-- An object that was given by a round is undamaged when the next round frees it.
use Rattle.std.proofs.Common.{◌≡◌, ◌≢◌, ℕ, zero, suc, ◌+◌, ◌*◌, ◌<◌, ◌≤◌, cond, eqb, Bool, true, false, List, [], ◌∷◌, ◌++◌, length, length-set, get_or, get_or-set_other, get_or-set_same, set, refl, sym, ◌∙◌, ap, subst, All, arith, Option, Some, None, MatchOption, inl, inr, ◌⊎◌, ℤ, option_map}
use Rattle.std.specs.Prelude.{IsTrue}
use Rattle.std.proofs.lemmas.List.{ext_get_or}
use Rattle.std.proofs.lemmas.List.Elements.{All-cons, All-contains, Contains-append_right, All-head, All-nil, All-tail}
use Rattle.slub_common.proofs.Writes.{inside-of}
use Rattle.slub_trace.specs.declared.event.Act.TheVariants as act
use Rattle.slub_trace.specs.declared.event.Event.{Event}
use Rattle.slub_object_layout.specs.declared.layout.Layout.{Layout}
use Rattle.slub_object_layout.specs.declared.layout.Flags.{Flags}
use Rattle.slub_object_layout.specs.Layout.{address_of}
use Rattle.slub_cache_create.specs.declared.caches.Cache.{Cache}
use Rattle.slub_trace.specs.declared.reply.Reply.{Reply}
use Rattle.slub_trace.specs.declared.reply.Reply.TheVariants as reply
use Rattle.slub_trace.specs.Kinds.{is_freed, is_given}
use Rattle.slub_red_zone.specs.declared.checked.CheckedGive.{CheckedGive}
use Rattle.slub_red_zone.specs.declared.checked.CheckedGive.TheVariants as give
use Rattle.slub_red_zone.specs.declared.checked.Run.{Run as SlabRun}
use Rattle.slub_red_zone.specs.declared.checked.Slot.{Slot}
use Rattle.slub_trace.specs.declared.damage.Damage.{Damage}
use Rattle.slub_red_zone.specs.Bytes.{IsWhole}
use Rattle.slub_red_zone.specs.Sound.{IsLayoutFor, IsSound}
use Rattle.slub_red_zone.specs.State.{CheckedState, IsUsed, SlabState, bytes_of, slab_of as checked_slab, slot_of}
use Rattle.slub_red_zone.specs.Steps.{Gives, damage_of_free, damage_of_used, next_is_damaged, next_is_whole, nothing_listed, new_slab, slab_with_given, with_damaged, with_given, with_new_slab}
use Rattle.slub_red_zone.specs.Zones.{damage_when_given, damage_when_taken, examined_free, padding, poison, red_active, red_inactive, red_zones, set_up}
use Rattle.slub_red_zone.proofs.Given.{damaged-sound, next-frame, next-inside}
use Rattle.slub_red_zone.proofs.NewSlabs.{new-undamaged}
use Rattle.slub_red_zone.proofs.Parts.{given-whole}
use Rattle.slub_red_zone.proofs.Sums.{slab_at-set}
use Rattle.slub_red_zone.proofs.Taken.{used-inside}
use Rattle.slub_red_zone.proofs.Written.{slot-long, with_slot-this}
use Rattle.slub_common.specs.Times.{times}
use Rattle.slub_common.proofs.Times.{times-contained, times-cons}
use Rattle.slub_page_pool.specs.FreeFrames.{FreeFrames}
use Rattle.slub_lists.specs.declared.lists.Held.{Held}
use Rattle.slub_lists.specs.declared.lists.Run.{Run}
use Rattle.slub_lists.specs.declared.lists.Slab.{Slab}
use Rattle.slub_lists.specs.State.{State}
use Rattle.slub_lists.specs.Alloc.{cache_of, checked_of, named, slab_of}
use Rattle.slub_lists.specs.Checked.{GivesOrMakes, GivesSlot, LacksMemory, LacksRun, first_slot, new_given, slot_of_held, with_checked, with_checked_slab}
use Rattle.slub_lists.specs.Coherent.{IsCoherent, all_on_board, held_under, laid_down}
use Rattle.slub_lists.specs.Free.{is_freeable}
use Rattle.slub_lists.specs.Named.{AllocatesNamed}
use Rattle.slub_lists.proofs.CheckedTaking.{held-frame, held-slab, held-used}
use Rattle.slub_lists.proofs.Keeps.{unchecked_keeps}
use Rattle.slub_lists.proofs.Kept.{consistent-of}
use Rattle.slub_slabinfo_text.specs.Asked.{event_of, frees_of, round_of}
use Rattle.slub_rounds.specs.BulkLines.{allocs_of, replied}
use Rattle.slub_slabinfo_text.specs.Lawful.{Answers, RunsEvents}
use Rattle.slub_law_rounds.proofs.Bytes.{Has, outside-used, set-up-at, set-up-length}
use Rattle.slub_law_rounds.proofs.Clean.{new-bytes, slot-byte}
use Rattle.slub_law_rounds.proofs.Damages.{damage-taken}
use Rattle.slub_law_rounds.proofs.Reports.{slabs-sound}
use Rattle.slub_law_rounds.proofs.Slabs.{event-slabs}
use Rattle.slub_law_rounds.proofs.Sparing.{SparesIt, SparesSlot, kept, spares-it, swapped}
use Rattle.slub_law_rounds.proofs.Steps.{Step, event-step, flushes, frees, gives, keeps, lacks, match_either, match_some, nameless, pokes, pokes_not, reads, reads_none, reads_not, refuses, trims, trims_checked, trims_none, wants, writes, writes_none, writes_not}
use Rattle.slub_law_rounds.proofs.Tale.{injected}
use Rattle.slub_law_rounds.proofs.Whole.{laid-under}

-- ---- an object that is given

-- the slot of an object that wasn't damaged is set up as used: it isn't damaged then
pub set-up-whole : (layout : Layout) (flags : Flags) (slot : List ℕ) → IsLayoutFor flags layout → length slot ≡ layout.size → damage_when_given layout flags slot ≡ None → damage_when_taken layout flags (set_up layout flags red_active slot) ≡ None
set-up-whole layout flags slot good long whole = by (damage_when_taken layout flags (set_up layout flags red_active slot)) refl
  where
    on : (damage : Damage) → damage_when_taken layout flags (set_up layout flags red_active slot) ≡ Some damage → IsTrue flags.checks
    on damage is = by-flag flags.checks refl
      where
        by-flag : (b : Bool) → flags.checks ≡ b → b ≡ true
        by-flag true e = refl
        by-flag false e = absurd (let never : None ≡ Some damage = rw e at is in cc)

    by : (x : Option Damage) → damage_when_taken layout flags (set_up layout flags red_active slot) ≡ x → x ≡ None
    by None is = refl
    by (Some damage) is =
        let of = damage-taken layout flags (set_up layout flags red_active slot) damage is in
        let has : Has of.part of.here.place = (of.here.from, of.here.below) in
        elim (set-up-at layout flags good red_active slot long of.part of.here.place (outside-used layout flags good of.part of.one).0 has) [
          | inl wanted ↦ absurd (of.here.differs wanted)
          | inr still ↦
              let all = (given-whole layout good.bounds flags slot long).0 whole (on damage is) in
              let was = All-contains (IsWhole slot) (examined_free layout flags) of.part all (Contains-append_right (red_zones layout flags red_inactive ++ poison layout flags) (padding layout flags) of.part still.0) of.here.place has in
              absurd (of.here.differs (still.1 ∙ was))
        ]

pub given-whole-slot : (s : CheckedState) (slot : Slot) → IsLayoutFor s.flags s.layout → slot.frame < length s.slabs → slot.index * s.layout.size + s.layout.size ≤ length (checked_slab s slot.frame).bytes
    → damage_of_free s slot ≡ None → damage_of_used (with_given s slot) slot ≡ None
given-whole-slot s slot good within inside whole =
    let was = (checked_slab s slot.frame).bytes in
    let long = slot-long s.layout was slot.index inside in
    let new = set_up s.layout s.flags red_active (bytes_of s slot) in
    let here : bytes_of (with_given s slot) slot ≡ new =
    ap (λ slab. slot_of s.layout slab.bytes slot.index) (slab_at-set s.slabs slot.frame (slab_with_given s.layout s.flags (checked_slab s slot.frame) slot.index) within)
    ∙ with_slot-this s.layout was new slot.index inside (set-up-length s.layout s.flags good red_active (bytes_of s slot) long) in
    ap (damage_when_taken s.layout s.flags) here ∙ set-up-whole s.layout s.flags (bytes_of s slot) good long whole

-- what gives leaves undamaged
pub gives-whole : (s : CheckedState) (slot : Slot) (after : CheckedState) → IsSound s → Gives s (give.Given slot) after → damage_of_used after slot ≡ None
gives-whole s slot after sound given = by s (give.Given slot) after sound given slot refl
  where
    by : (s : CheckedState) (answer : CheckedGive) (after : CheckedState) → IsSound s → Gives s answer after → (slot : Slot) → answer ≡ give.Given slot → damage_of_used after slot ≡ None
    by _ _ _ sound (nothing_listed s none) slot is = absurd (let never : give.Empty ≡ give.Given slot = is in cc)
    by _ _ _ sound (next_is_whole s one next whole) slot is =
        let same : one ≡ slot = cc in
        subst (λ (x : Slot). damage_of_used (with_given s one) x ≡ None) same (given-whole-slot s one sound.layout (next-frame s one sound next) (next-inside s one sound next) whole)
    by _ _ _ sound (next_is_damaged s one damage answer after next is_damaged given) slot is =
        by (with_damaged s one damage) answer after (damaged-sound s one sound next damage) given slot is

-- what lists none is as sound
pub empty-sound : (s : CheckedState) (answer : CheckedGive) (after : CheckedState) → IsSound s → Gives s answer after → answer ≡ give.Empty → IsSound after
empty-sound _ _ _ sound (nothing_listed s none) is = sound
empty-sound _ _ _ sound (next_is_whole s one next whole) is = absurd (let never : give.Given one ≡ give.Empty = is in cc)
empty-sound _ _ _ sound (next_is_damaged s one damage answer after next is_damaged given) is = empty-sound (with_damaged s one damage) answer after (damaged-sound s one sound next damage) given is

-- ---- an object that is spared

-- its slot has the same bytes
pub spared-whole : (slabs rest : CheckedState) (slot : Slot) → IsSound slabs → IsUsed slabs slot → SparesSlot slabs rest slot → damage_of_used slabs slot ≡ None → damage_of_used rest slot ≡ None
spared-whole slabs rest slot sound used spares whole =
    ap (λ (l : Layout). damage_when_taken l rest.flags (slot_of l (checked_slab rest slot.frame).bytes slot.index)) spares.layout
    ∙ ap (λ (f : Flags). damage_when_taken slabs.layout f (slot_of slabs.layout (checked_slab rest slot.frame).bytes slot.index)) spares.flags
    ∙ ap (damage_when_taken slabs.layout slabs.flags) bytes ∙ whole
  where
    old : List ℕ
    old = (checked_slab slabs slot.frame).bytes

    new : List ℕ
    new = (checked_slab rest slot.frame).bytes

    inside : slot.index * slabs.layout.size + slabs.layout.size ≤ length old
    inside = used-inside slabs slot sound used

    room : slot.index * slabs.layout.size + slabs.layout.size ≤ length new
    room = omega (arith, inside, spares.slab.long)

    bytes : slot_of slabs.layout new slot.index ≡ slot_of slabs.layout old slot.index
    bytes = ext_get_or 0 (slot_of slabs.layout new slot.index) (slot_of slabs.layout old slot.index) (slot-long slabs.layout new slot.index room ∙ sym (slot-long slabs.layout old slot.index inside))
        (λ place less.
        let few : place < slabs.layout.size = omega (arith, less, slot-long slabs.layout new slot.index room) in
        slot-byte slabs.layout new slot.index place few ∙ spares.slab.bytes place few ∙ sym (slot-byte slabs.layout old slot.index place few))

-- ---- the machine

-- the object of a number isn't damaged, where its cache is checked
abbrev pub IsUndamaged : State → ℕ → Type 0
IsUndamaged s object =
    (held : Held) (slabs : CheckedState) → held_under s object ≡ Some held → checked_of s held.cache ≡ Some slabs → damage_of_used slabs (slot_of_held held) ≡ None

-- an event that is no write and no poke leaves the objects that it doesn't free
pub stays-undamaged : (s : State) (event : Event) (answer : Reply) (after : State) (other : ℕ) → IsCoherent s → Answers s event event.act answer after
    → ((object : ℕ) → event.act ≡ act.Free object → other ≢ object) → ((object : ℕ) (offset : ℤ) (byte : ℕ) → event.act ≡ act.Poke object offset byte → ⊥)
    → ((object place value : ℕ) → event.act ≡ act.Write place object value → ⊥) → held_under after other ≡ held_under s other → IsUndamaged s other → IsUndamaged after other
stays-undamaged s event answer after other coherent answers free poke write same whole held slabs there now = by (sym same ∙ there)
  where
    by : held_under s other ≡ Some held → damage_of_used slabs (slot_of_held held) ≡ None
    by was = of-it (spares-it s event answer after coherent other held was (event-slabs s event answer after answers) free (λ o f b e. absurd (poke o f b e)) write)
      where
        of-it : SparesIt s event answer after coherent other held was → damage_of_used slabs (slot_of_held held) ≡ None
        of-it (kept still) = whole held slabs was (sym still ∙ now)
        of-it (swapped old new before later spares) =
            subst (λ (c : CheckedState). damage_of_used c (slot_of_held held) ≡ None) (injected (sym later ∙ now))
            (spared-whole old new (slot_of_held held) (slabs-sound s held.cache old coherent before).sound (held-used s other held old was before (consistent-of s coherent)) spares (whole held old was before))

-- ---- what an allocation does

pub data AllocDoes (s : State) (place object : ℕ) (answer : Reply) (after : State) : Type 0 where
  came : (held : Held) (live : Cache) → named s place ≡ Some held.cache → cache_of s held.cache ≡ Some live → answer ≡ reply.Given (address_of held.frame held.index live.layout) → is_given answer ≡ true → is_freed answer ≡ false → after.board ≡ set s.board object (Some held) → AllocDoes s place object answer after
  brought_none : is_given answer ≡ false → is_freed answer ≡ false → after.board ≡ s.board → AllocDoes s place object answer after

pub alloc-does : (s : State) (event : Event) (place object : ℕ) (answer : Reply) (after : State) → event.act ≡ act.Alloc place object → Step s event answer after → AllocDoes s place object answer after
alloc-does s event place object answer after asks (gives p o live held a n l w is u b g t m c f d) =
    let same_place : p ≡ place = cc in
    let same : o ≡ object = cc in
    came held live (ap (named s) (sym same_place) ∙ n) l is (rw is refl) (rw is refl) (b ∙ ap (λ i. set s.board i (Some held)) same)
alloc-does s event place object answer after asks (lacks p o cache live a n l is b g t m c f d) = brought_none (rw is refl) (rw is refl) b
alloc-does s event place object answer after asks (wants p o cache live slabs a n l ch is k) = brought_none (rw is refl) (rw is refl) k.board
alloc-does s event place object answer after asks (nameless p o a n is now) = brought_none (rw is refl) (rw is refl) (ap (λ (t : State). t.board) now)
alloc-does s event place object answer after asks (frees o live held a w m l is b g t me c f d) = absurd (cc)
alloc-does s event place object answer after asks (keeps o damage held slabs a w m ch t is now) = absurd (cc)
alloc-does s event place object answer after asks (refuses o a why is now) = absurd (cc)
alloc-does s event place object answer after asks (writes o word value live held a h w is now) = absurd (cc)
alloc-does s event place object answer after asks (writes_none o word value live held a h w is now) = absurd (cc)
alloc-does s event place object answer after asks (writes_not o word value a n is now) = absurd (cc)
alloc-does s event place object answer after asks (reads o word live held a h w is now) = absurd (cc)
alloc-does s event place object answer after asks (reads_none o word live held a h w is now) = absurd (cc)
alloc-does s event place object answer after asks (reads_not o word a n is now) = absurd (cc)
alloc-does s event place object answer after asks (pokes o offset byte held slabs a k ch i is now) = absurd (cc)
alloc-does s event place object answer after asks (pokes_not o offset byte a why now) = absurd (cc)
alloc-does s event place object answer after asks (trims p cache slabs a n u is k ss) = absurd (cc)
alloc-does s event place object answer after asks (trims_checked p cache slabs a n ch is now) = absurd (cc)
alloc-does s event place object answer after asks (trims_none p a n is now) = absurd (cc)
alloc-does s event place object answer after asks (flushes slabs a is k ss) = absurd (cc)

-- ---- what a free does

pub data FreeDoes (s : State) (worker object : ℕ) (answer : Reply) (after : State) : Type 0 where
  freed : is_freed answer ≡ true → after.board ≡ set s.board object None → FreeDoes s worker object answer after
  damaged : (held : Held) (slabs : CheckedState) (damage : Damage) → held_under s object ≡ Some held → checked_of s held.cache ≡ Some slabs → damage_of_used slabs (slot_of_held held) ≡ Some damage → FreeDoes s worker object answer after
  refused : (held_under s object ≡ None) ⊎ ((held : Held) × (held_under s object ≡ Some held) × (is_freeable worker held.worker ≡ false)) → FreeDoes s worker object answer after

pub free-does : (s : State) (event : Event) (object : ℕ) (answer : Reply) (after : State) → event.act ≡ act.Free object → Step s event answer after → FreeDoes s event.worker object answer after
free-does s event object answer after asks (gives p o live held a n l w is u b g t m c f d) = absurd (cc)
free-does s event object answer after asks (lacks p o cache live a n l is b g t m c f d) = absurd (cc)
free-does s event object answer after asks (wants p o cache live slabs a n l ch is k) = absurd (cc)
free-does s event object answer after asks (nameless p o a n is now) = absurd (cc)
free-does s event object answer after asks (frees o live held a w m l is b g t me c f d) = let same : o ≡ object = cc in freed (rw is refl) (b ∙ ap (λ i. set s.board i None) same)
free-does s event object answer after asks (keeps o damage held slabs a w m ch t is now) = let same : o ≡ object = cc in damaged held slabs damage (ap (held_under s) (sym same) ∙ w) ch t.0
free-does s event object answer after asks (refuses o a why is now) =
    let same : o ≡ object = cc in
    refused (subst (λ i. (held_under s i ≡ None) ⊎ ((held : Held) × (held_under s i ≡ Some held) × (is_freeable event.worker held.worker ≡ false))) same why)
free-does s event object answer after asks (writes o word value live held a h w is now) = absurd (cc)
free-does s event object answer after asks (writes_none o word value live held a h w is now) = absurd (cc)
free-does s event object answer after asks (writes_not o word value a n is now) = absurd (cc)
free-does s event object answer after asks (reads o word live held a h w is now) = absurd (cc)
free-does s event object answer after asks (reads_none o word live held a h w is now) = absurd (cc)
free-does s event object answer after asks (reads_not o word a n is now) = absurd (cc)
free-does s event object answer after asks (pokes o offset byte held slabs a k ch i is now) = absurd (cc)
free-does s event object answer after asks (pokes_not o offset byte a why now) = absurd (cc)
free-does s event object answer after asks (trims p cache slabs a n u is k ss) = absurd (cc)
free-does s event object answer after asks (trims_checked p cache slabs a n ch is now) = absurd (cc)
free-does s event object answer after asks (trims_none p a n is now) = absurd (cc)
free-does s event object answer after asks (flushes slabs a is k ss) = absurd (cc)

-- ---- an allocation leaves what it gave undamaged

module _ (s : State) (event : Event) (place object : ℕ) (answer : Reply) (after : State) (coherent : IsCoherent s) (later : IsCoherent after) (within : object < length s.board) (given : is_given answer ≡ true) where
  abbrev Goal : Type 0
  Goal = IsUndamaged after object

  ungiven : (told : Reply) → answer ≡ told → is_given told ≡ false → Goal
  ungiven told is other = absurd (let never : false ≡ true = sym other ∙ sym (ap is_given is) ∙ given in cc)

  module _ (cache : ℕ) (layout : Layout) (slabs : CheckedState) (was : checked_of s cache ≡ Some slabs) where
    sound : IsSound slabs
    sound = (slabs-sound s cache slabs coherent was).sound

    of-slot : (mid : State) (rest : CheckedState) (slot : Slot) → mid.board ≡ s.board → checked_of mid cache ≡ Some rest
        → (held_under after object ≡ Some (record { frame = slot.frame; index = slot.index; cache = cache; worker = Some event.worker }) → damage_of_used rest slot ≡ None)
        → GivesSlot mid layout cache event.worker object slot answer after → Goal
    of-slot mid rest slot board now whole gift held slabs there last =
        let mine : Held = record { frame = slot.frame; index = slot.index; cache = cache; worker = Some event.worker } in
        let is : held_under after object ≡ Some mine = ap (λ (t : State). get_or t.board object None) gift.given ∙ get_or-set_same mid.board object (Some mine) None (omega (arith, within, ap length board)) in
        let has : checked_of after cache ≡ Some rest = ap (λ (t : State). checked_of t cache) gift.given ∙ now in
        subst (λ (h : Held). checked_of after h.cache ≡ Some slabs → damage_of_used slabs (slot_of_held h) ≡ None) (injected (sym is ∙ there))
        (λ seen. subst (λ (c : CheckedState). damage_of_used c slot ≡ None) (injected (sym has ∙ seen)) (whole is)) last

    -- of a new slab
    of-new : (rest : CheckedState) (pool : FreeFrames) (run : Run) → Gives slabs give.Empty rest → GivesSlot (with_checked_slab (with_checked s cache rest) cache pool run rest) layout cache event.worker object (first_slot run) answer after → Goal
    of-new rest pool run asked gift =
        of-slot (with_checked_slab (with_checked s cache rest) cache pool run rest) (new_given rest run) (first_slot run) refl
        (get_or-set_same (set s.checked cache (Some rest)) cache (Some (new_given rest run)) None (omega (arith, inside-of s.checked cache slabs was, length-set s.checked cache (Some rest))))
        whole gift
      where
        frame_run : SlabRun
        frame_run = record { frame = run.frame; order = run.order }

        mid : CheckedState
        mid = with_new_slab rest frame_run run.objects

        rest_sound : IsSound rest
        rest_sound = empty-sound slabs give.Empty rest sound asked refl

        new : Slab
        new = record { cache = cache; order = run.order; objects = run.objects; frozen = false }

        whole : held_under after object ≡ Some (record { frame = run.frame; index = 0; cache = cache; worker = Some event.worker }) → damage_of_used (new_given rest run) (first_slot run) ≡ None
        whole is =
            let mine : Held = record { frame = run.frame; index = 0; cache = cache; worker = Some event.worker } in
            let consistent = consistent-of after later in
            let last : run.frame < 4096 = held-frame after object mine is consistent in
            let slab = held-slab after object mine is consistent in
            let slabs_are : after.slabs ≡ set s.slabs run.frame (Some new) = ap (λ (t : State). t.slabs) gift.given in
            let in_after : run.frame < length after.slabs = inside-of after.slabs run.frame slab.0 slab.1 in
            let in_before : run.frame < length s.slabs = omega (arith, in_after, ap length slabs_are, length-set s.slabs run.frame (Some new)) in
            let at : slab_of after run.frame ≡ Some new = ap (λ (l : List (Option Slab)). get_or l run.frame None) slabs_are ∙ get_or-set_same s.slabs run.frame (Some new) None in_before in
            let objects : slab.0.objects ≡ run.objects = ap (λ (x : Slab). x.objects) (injected (sym slab.1 ∙ at)) in
            let some : 0 < run.objects = omega (arith, slab.3, objects) in
            let place : run.frame < length rest.slabs = omega (arith, last, rest_sound.frames) in
            let in_new : run.frame < length mid.slabs = omega (arith, place, length-set rest.slabs run.frame (Some (new_slab rest.layout rest.flags run.order run.objects))) in
            let here : checked_slab mid run.frame ≡ new_slab rest.layout rest.flags run.order run.objects = slab_at-set rest.slabs run.frame (new_slab rest.layout rest.flags run.order run.objects) place in
            let bytes : length (checked_slab mid run.frame).bytes ≡ run.objects * rest.layout.size =
            ap (λ (x : SlabState). length x.bytes) here ∙ new-bytes (λ j p b. ⊥) rest.layout rest.flags rest_sound.layout run.objects in
            let size : rest.layout.size ≤ run.objects * rest.layout.size = one-of run.objects rest.layout.size some in
            given-whole-slot mid (first_slot run) rest_sound.layout in_new (omega (arith, bytes, size)) (new-undamaged rest frame_run run.objects rest_sound last 0 some)
          where
            one-of : (n size : ℕ) → 0 < n → size ≤ n * size
            one-of zero size some = absurd (omega (arith, some))
            one-of (suc n) size some = omega arith

    of-run : (rest : CheckedState) (pool : FreeFrames) (run : Option Run) → Gives slabs give.Empty rest
        → MatchOption run (LacksRun (with_checked s cache rest) pool answer after) (λ run. LacksMemory (with_checked s cache rest) pool run answer after ⊎ GivesSlot (with_checked_slab (with_checked s cache rest) cache pool run rest) layout cache event.worker object (first_slot run) answer after)
        → Goal
    of-run rest pool None asked lacks_run = ungiven reply.NoFrames lacks_run.0 refl
    of-run rest pool (Some run) asked (inl lacks_memory) = ungiven reply.NoMemory lacks_memory.0 refl
    of-run rest pool (Some run) asked (inr gift) = of-new rest pool run asked gift

    of-found : (rest : CheckedState) (found : CheckedGive) → Gives slabs found rest → GivesOrMakes (with_checked s cache rest) layout cache rest event.worker object found answer after → Goal
    of-found rest (give.Given slot) asked gift =
        of-slot (with_checked s cache rest) rest slot refl (get_or-set_same s.checked cache (Some rest) None (inside-of s.checked cache slabs was)) (λ is. gives-whole slabs slot rest sound asked) gift
    of-found rest give.Empty asked makes = of-run rest makes.1 makes.0 asked makes.3

  -- of a cache that isn't checked
  of-unchecked : event.act ≡ act.Alloc place object → Step s event answer after → (cache : ℕ) → named s place ≡ Some cache → checked_of s cache ≡ None → after.checked ≡ s.checked → Goal
  of-unchecked asks step cache names unchecked same held slabs there now = by (alloc-does s event place object answer after asks step)
    where
      by : AllocDoes s place object answer after → damage_of_used slabs (slot_of_held held) ≡ None
      by (came mine live its is_live is gives_it frees_none board) =
          let here : held_under after object ≡ Some mine = ap (λ (l : List (Option Held)). get_or l object None) board ∙ get_or-set_same s.board object (Some mine) None within in
          let cache_is : held.cache ≡ cache = ap (λ (h : Held). h.cache) (injected (sym there ∙ here)) ∙ injected (sym its ∙ names) in
          let never : Some slabs ≡ None = sym now ∙ ap (checked_of after) cache_is ∙ ap (λ (l : List (Option CheckedState)). get_or l cache None) same ∙ unchecked in
          absurd (cc)
      by (brought_none gives_none frees_none board) = absurd (let never : false ≡ true = sym gives_none ∙ given in cc)

  pub given-undamaged : event.act ≡ act.Alloc place object → Step s event answer after → AllocatesNamed s place event.cpu event.worker object answer after → Goal
  given-undamaged asks step done = match_either (named s place) _ _ Goal done
      (λ none nothing. ungiven reply.NoSuchCache nothing.0 refl)
      (λ cache names done. match_some (cache_of s cache) _ Goal done (λ live is_live done.
      match_either (checked_of s cache) _ _ Goal done
      (λ unchecked done. of-unchecked asks step cache names unchecked (unchecked_keeps s live.layout cache event.cpu event.worker object answer after done).1)
      (λ slabs was done. of-found cache live.layout slabs was done.1 done.0 done.2 done.3)))

-- ---- rounds

-- numbers of which one is not among the others
pub others : (P Q : ℕ → Type 0) (number : ℕ) (numbers : List ℕ) → times number numbers ≡ 0 → ((n : ℕ) → n ≢ number → P n → Q n) → All P numbers → All Q numbers
others P Q number [] out leads all = All-nil Q
others P Q number (n ∷ numbers) out leads all =
    let more = times-cons number n numbers in
    All-cons Q n numbers (leads n (λ same. let some = times-contained n (n ∷ numbers) (0, omega arith, refl) in let mine : times n (n ∷ numbers) ≡ 0 = ap (λ x. times x (n ∷ numbers)) same ∙ out in omega (arith, some, mine)) (All-head P n numbers all))
    (others P Q number numbers (omega (arith, more, out)) leads (All-tail P n numbers all))

pub first-apart : (number : ℕ) (numbers : List ℕ) → ((x : ℕ) → times x (number ∷ numbers) ≤ 1) → times number numbers ≡ 0
first-apart number numbers all_once =
    let once = all_once number in
    let more = times-cons number number numbers in
    let some = times-contained number (number ∷ numbers) (0, omega arith, refl) in
    by (eqb number number) refl once more
  where
    eqb-same : (n : ℕ) → eqb n n ≡ true
    eqb-same n = grind (arith)

    by : (b : Bool) → eqb number number ≡ b → times number (number ∷ numbers) ≤ 1 → times number (number ∷ numbers) ≡ cond b 1 0 + times number numbers → times number numbers ≡ 0
    by true is once more = omega (arith, once, more)
    by false is once more = absurd (let same : eqb number number ≡ true = eqb-same number in let never : true ≡ false = sym same ∙ is in cc)

pub rest-once : (number : ℕ) (numbers : List ℕ) → ((x : ℕ) → times x (number ∷ numbers) ≤ 1) → (x : ℕ) → times x numbers ≤ 1
rest-once number numbers once x = omega (arith, once x, times-cons x number numbers)

-- allocations leave the others
pub allocs-leave : (cpu place : ℕ) (numbers : List ℕ) (s : State) (replies : List Reply) (last : State) (other : ℕ) → IsCoherent s → RunsEvents s (round_of cpu (allocs_of place numbers)).events replies last
    → times other numbers ≡ 0 → IsUndamaged s other → IsUndamaged last other
allocs-leave cpu place [] s [] last other coherent runs out whole = subst (λ (t : State). IsUndamaged t other) (sym runs) whole
allocs-leave cpu place [] s (answer ∷ replies) last other coherent runs out whole = absurd runs
allocs-leave cpu place (number ∷ numbers) s [] last other coherent runs out whole = absurd runs
allocs-leave cpu place (number ∷ numbers) s (answer ∷ replies) last other coherent runs out whole =
    allocs-leave cpu place numbers runs.0 replies last other runs.2 runs.3 (omega (arith, out, times-cons other number numbers))
    (stays-undamaged s event answer runs.0 other coherent runs.1 (λ o e. absurd (cc)) (λ o f b e. absurd (cc)) (λ o p v e. absurd (cc)) (same (alloc-does s event place number answer runs.0 refl (event-step s event answer runs.0 runs.1))) whole)
  where
    event : Event
    event = event_of cpu (act.Alloc place number)

    differ : other ≢ number
    differ e = let some = times-contained other (number ∷ numbers) (0, omega arith, sym e) in omega (arith, some, out)

    same : AllocDoes s place number answer runs.0 → held_under runs.0 other ≡ held_under s other
    same (came held live names is_live is gives_it frees_none board) = ap (λ (l : List (Option Held)). get_or l other None) board ∙ get_or-set_other s.board number other (Some held) None differ
    same (brought_none gives_none frees_none board) = ap (λ (l : List (Option Held)). get_or l other None) board

-- what a round of allocations gives is undamaged after it
pub given-whole-all : (cpu place : ℕ) (numbers : List ℕ) (s : State) (replies : List Reply) (last : State) → IsCoherent s → All (λ number. number < length s.board) numbers → ((x : ℕ) → times x numbers ≤ 1)
    → RunsEvents s (round_of cpu (allocs_of place numbers)).events replies last → All (IsUndamaged last) (replied is_given numbers replies)
given-whole-all cpu place [] s replies last coherent within once runs = All-nil (IsUndamaged last)
given-whole-all cpu place (number ∷ numbers) s [] last coherent within once runs = absurd runs
given-whole-all cpu place (number ∷ numbers) s (answer ∷ replies) last coherent within once runs =
    by (is_given answer) refl
    (given-whole-all cpu place numbers runs.0 replies last runs.2 (subst (λ n. All (λ number. number < n) numbers) (sym (long (alloc-does s event place number answer runs.0 refl step))) (All-tail (λ number. number < length s.board) number numbers within)) (rest-once number numbers once) runs.3)
  where
    event : Event
    event = event_of cpu (act.Alloc place number)

    step : Step s event answer runs.0
    step = event-step s event answer runs.0 runs.1

    long : AllocDoes s place number answer runs.0 → length runs.0.board ≡ length s.board
    long (came held live names is_live is gives_it frees_none board) = ap length board ∙ length-set s.board number (Some held)
    long (brought_none gives_none frees_none board) = ap length board

    by : (b : Bool) → is_given answer ≡ b → All (IsUndamaged last) (replied is_given numbers replies) → All (IsUndamaged last) (replied is_given (number ∷ numbers) (answer ∷ replies))
    by true is rest =
        let here : IsUndamaged runs.0 number = given-undamaged s event place number answer runs.0 coherent runs.2 (All-head (λ number. number < length s.board) number numbers within) is refl step runs.1 in
        let there : IsUndamaged last number = allocs-leave cpu place numbers runs.0 replies last number runs.2 runs.3 (first-apart number numbers once) here in
        rw is (All-cons (IsUndamaged last) number (replied is_given numbers replies) there rest)
    by false is rest = rw is rest

-- an object on the board, in no worker's hands, that isn't damaged
pub record IsFreed (s : State) (object : ℕ) : Type 0 where
  pub held : Held
  pub there : held_under s object ≡ Some held
  pub laid : held.worker ≡ None
  pub whole : IsUndamaged s object

-- a round that frees such objects frees them all
pub frees-all : (cpu : ℕ) (numbers : List ℕ) (s : State) (replies : List Reply) (last : State) → IsCoherent s → All (IsFreed s) numbers → ((x : ℕ) → times x numbers ≤ 1)
    → RunsEvents s (round_of cpu (frees_of numbers)).events replies last → All (λ answer. is_freed answer ≡ true) replies
frees-all cpu [] s [] last coherent ready once runs = All-nil (λ answer. is_freed answer ≡ true)
frees-all cpu [] s (answer ∷ replies) last coherent ready once runs = absurd runs
frees-all cpu (number ∷ numbers) s [] last coherent ready once runs = absurd runs
frees-all cpu (number ∷ numbers) s (answer ∷ replies) last coherent ready once runs = by (free-does s event number answer runs.0 refl (event-step s event answer runs.0 runs.1))
    (λ rest. frees-all cpu numbers runs.0 replies last runs.2 rest (rest-once number numbers once) runs.3)
  where
    event : Event
    event = event_of cpu (act.Free number)

    mine : IsFreed s number
    mine = All-head (IsFreed s) number numbers ready

    by : FreeDoes s 0 number answer runs.0 → (All (IsFreed runs.0) numbers → All (λ answer. is_freed answer ≡ true) replies) → All (λ answer. is_freed answer ≡ true) (answer ∷ replies)
    by (freed is board) later =
        All-cons (λ answer. is_freed answer ≡ true) answer replies is
        (later (others (IsFreed s) (IsFreed runs.0) number numbers (first-apart number numbers once) next (All-tail (IsFreed s) number numbers ready)))
      where
        next : (n : ℕ) → n ≢ number → IsFreed s n → IsFreed runs.0 n
        next n differ one =
            let same : held_under runs.0 n ≡ held_under s n = ap (λ (l : List (Option Held)). get_or l n None) board ∙ get_or-set_other s.board number n None None differ in
            record {
              held = one.held;
              there = same ∙ one.there;
              laid = one.laid;
              whole = stays-undamaged s event answer runs.0 n coherent runs.1 (λ o e same. differ (same ∙ sym (the-number o e))) (λ o f b e. absurd (cc)) (λ o p v e. absurd (cc)) same one.whole;
            }
          where
            the-number : (o : ℕ) → act.Free number ≡ act.Free o → number ≡ o
            the-number o e = cc
    by (damaged held slabs damage there was is) later =
        absurd (let never : None ≡ Some damage = sym (mine.whole held slabs there was) ∙ is in cc)
    by (refused (inl gone)) later = absurd (let never : None ≡ Some mine.held = sym gone ∙ mine.there in cc)
    by (refused (inr other)) later =
        let same : other.0 ≡ mine.held = injected (sym other.1 ∙ mine.there) in
        let free : is_freeable 0 other.0.worker ≡ true = ap (is_freeable 0) (ap (λ (h : Held). h.worker) same ∙ mine.laid) in
        absurd (let never : false ≡ true = sym other.2 ∙ free in cc)

-- a round that ends lays it down as it is
pub laid-whole : (last after : State) (object : ℕ) → after ≡ all_on_board last → IsUndamaged last object → IsUndamaged after object
laid-whole last after object is whole held slabs there now = by (held_under last object) refl (sym (laid-under last.board object) ∙ ap (λ (t : State). held_under t object) (sym is) ∙ there)
  where
    by : (x : Option Held) → held_under last object ≡ x → option_map laid_down (held_under last object) ≡ Some held → damage_of_used slabs (slot_of_held held) ≡ None
    by None was laid = absurd (let never : None ≡ Some held = sym (ap (option_map laid_down) was) ∙ laid in cc)
    by (Some mine) was laid =
        let same : laid_down mine ≡ held = injected (sym (ap (option_map laid_down) was) ∙ laid) in
        let cache : mine.cache ≡ held.cache = ap (λ (h : Held). h.cache) same in
        let had : checked_of last mine.cache ≡ Some slabs = ap (checked_of last) cache ∙ ap (λ (t : State). checked_of t held.cache) (sym is) ∙ now in
        subst (λ (h : Held). damage_of_used slabs (slot_of_held h) ≡ None) same (whole mine slabs was had)
