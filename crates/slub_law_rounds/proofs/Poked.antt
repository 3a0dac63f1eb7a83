-- Through a round: each examined byte that isn't the wanted one was poked, and so is each that is told of.
use Rattle.std.proofs.Common.{append_assoc, Contains, zero, suc, All, ◌≡◌, ◌≢◌, ℕ, ◌+◌, ◌*◌, ◌<◌, ◌≤◌, true, List, [], ◌∷◌, ◌++◌, length, get_or, replicate, refl, sym, ◌∙◌, ap, subst, arith, Option, Some, None, inl, inr, ◌⊎◌, ℤ, get_or-set_other, get_or-set_same, length-set}
use Rattle.std.specs.Prelude.{pos, ◌+ℤ◌, nat_abs, slice_get, ⊤}
use Rattle.std.specs.Option.{option_and_then, option_or}
use Rattle.std.proofs.lemmas.Bool.{cases_eq}
use Rattle.std.proofs.lemmas.List.{append-nil}
use Rattle.std.proofs.lemmas.List.Elements.{Contains-append_left, Contains-append_right}
use Rattle.std.proofs.lemmas.List.Elements.{All-append}
use Rattle.slub_common.proofs.Writes.{inside-of}
use Rattle.slub_trace.specs.declared.event.Act.TheVariants.{Alloc, Free, Poke}
use Rattle.slub_object_layout.specs.declared.layout.Layout.{Layout}
use Rattle.slub_object_layout.specs.Layout.{address_of}
use Rattle.slub_trace.specs.declared.reply.Reply.TheVariants as reply
use Rattle.slub_red_zone.specs.declared.slab.ObjectState.TheVariants.{Free as FreeObject, Aside}
use Rattle.slub_red_zone.specs.declared.checked.CheckedGive.{CheckedGive}
use Rattle.slub_red_zone.specs.declared.checked.CheckedGive.TheVariants as give
use Rattle.slub_red_zone.specs.declared.checked.Run.{Run as SlabRun}
use Rattle.slub_red_zone.specs.declared.checked.Slot.{Slot}
use Rattle.slub_trace.specs.declared.damage.Damage.{Damage}
use Rattle.slub_trace.specs.declared.damage.Report.{Report}
use Rattle.slub_red_zone.specs.Sound.{IsLayoutFor, IsSound}
use Rattle.slub_red_zone.proofs.Sums.{slab_at-set}
use Rattle.slub_red_zone.proofs.Taken.{used-inside}
use Rattle.slub_red_zone.specs.State.{CheckedState, IsUsed, SlabState, slab_of as checked_slab}
use Rattle.slub_red_zone.specs.Steps.{Gives, IsOffset, TakesEmpty, new_slab, next_is_damaged, next_is_whole, nothing_listed, slab_with_given, with_damaged, place_of, with_byte, with_new_slab, with_word as slab_word}
use Rattle.slub_lists.specs.declared.lists.Held.{Held}
use Rattle.slub_lists.specs.declared.lists.Run.{Run}
use Rattle.slub_page_pool.specs.FreeFrames.{FreeFrames}
use Rattle.slub_lists.proofs.CheckedSlabs.{at_match}
use Rattle.slub_law_rounds.proofs.Founds.{run-free}
use Rattle.std.proofs.lemmas.List.{get_or-replicate, length-replicate}
use Rattle.std.proofs.lemmas.Option.{slice_get-get_or}
use Rattle.std.proofs.Math.Nat.{mul-le-mul_right}
use Rattle.slub_lists.specs.State.{State}
use Rattle.slub_lists.specs.Alloc.{FindsRun, cache_of, checked_of}
use Rattle.slub_lists.specs.Checked.{new_given, slot_of_held}
use Rattle.slub_lists.specs.Coherent.{IsCacheOf, IsCheckedOf, IsCoherent, IsSetFrom, held_under}
use Rattle.slub_lists.specs.Words.{known_to, own, word_of}
use Rattle.slub_lists.proofs.CheckedTaking.{held-used}
use Rattle.slub_lists.proofs.Kept.{consistent-of}
use Rattle.slub_lists.proofs.ObjectWords.{own-is, used-word}
use Rattle.slub_law_rounds.specs.Answered.{Answered, is_alloc_of}
use Rattle.slub_law_rounds.specs.Pokes.{IsPoked, IsPokedFree, WasGiven, WasPoked}
use Rattle.slub_law_rounds.specs.Round.{spot_of}
use Rattle.slub_law_rounds.proofs.Bytes.{offset-place, poke-address}
use Rattle.slub_law_rounds.proofs.Causes.{live-spot}
use Rattle.slub_law_rounds.proofs.Clean.{CleanSlab, given-clean, new-bytes, poked-clean, written-clean}
use Rattle.slub_law_rounds.proofs.Cleaning.{Clean, back-told, ToldPoked, back-clean, by_place, clean-with, coming-clean, empty-clean, gives-clean}
use Rattle.slub_law_rounds.proofs.Reports.{Reports, ToldOf, event-told as event-reports, slabs-sound}
use Rattle.slub_law_rounds.proofs.Rounds.{Runs, Tale, step-of, tale-step, turns-of}
use Rattle.slub_law_rounds.proofs.Runs.{Turn, comes, goes, gone_under, rests, stays}
use Rattle.slub_law_rounds.proofs.Slabs.{Slabs, Swaps, event-slabs, gave as gave_slab, made, poked_byte, same, took, wrote}
use Rattle.slub_law_rounds.proofs.Steps.{Step, flushes, frees, gives, keeps, lacks, nameless, pokes, pokes_not, reads, reads_none, reads_not, refuses, trims, trims_checked, trims_none, wants, writes, writes_none, writes_not}
use Rattle.slub_law_rounds.proofs.Tale.{injected}

-- ---- more events

module _ (told more : List Answered) where
  pub given-later : (object address : ℕ) → WasGiven told object address → WasGiven (told ++ more) object address
  given-later object address was = (was.0, Contains-append_left told more was.0 was.1, was.2, was.3)

  pub poked-later : (at : ℤ) (byte : ℕ) → WasPoked told at byte → WasPoked (told ++ more) at byte
  poked-later at byte was = record {
    one = was.one;
    there = Contains-append_left told more was.one was.there;
    object = was.object;
    offset = was.offset;
    asks = was.asks;
    done = was.done;
    address = was.address;
    given = given-later was.object was.address was.given;
    is = was.is;
  }

  pub clean-later : (slabs : CheckedState) → Clean (WasPoked told) slabs → Clean (WasPoked (told ++ more)) slabs
  clean-later slabs clean frame j p part there has = elim (clean frame j p part there has) [
    | inl whole ↦ inl whole
    | inr did ↦ inr (poked-later (pos (frame * 4096 + j * slabs.layout.size + p)) _ did)
  ]

-- ---- a byte and a word

module _ (told : List Answered) where
  byte-clean : (s : CheckedState) (slot : Slot) (offset : ℤ) (byte : ℕ) → IsSound s → IsOffset s.layout offset → WasPoked told (pos (address_of slot.frame slot.index s.layout) +ℤ offset) byte → Clean (WasPoked told) s → Clean (WasPoked told) (with_byte s slot offset byte)
  byte-clean s slot offset byte sound inside did clean =
      clean-with (WasPoked told) s slot.frame _ s.listed s.reports clean
      (poked-clean (by_place (WasPoked told) s.layout slot.frame) s.layout s.flags sound.layout (checked_slab s slot.frame) slot.index (nat_abs (place_of s.layout offset)) byte (offset-place s.layout offset inside).0
      (subst (λ z. WasPoked told z byte) (poke-address s.layout slot.frame slot.index offset inside) did) (clean slot.frame))

  word-clean : (s : CheckedState) (slot : Slot) (word value : ℕ) → IsSound s → IsUsed s slot → 8 * (word + 1) ≤ s.layout.object_size → Clean (WasPoked told) s → Clean (WasPoked told) (slab_word s slot word value)
  word-clean s slot word value sound used ends clean =
      clean-with (WasPoked told) s slot.frame _ s.listed s.reports clean
      (written-clean (by_place (WasPoked told) s.layout slot.frame) s.layout s.flags sound.layout (checked_slab s slot.frame) slot.index word value ends (used-inside s slot sound used) used (clean slot.frame))

-- where `min_partial` alone is set, an object has the address that it had
set-address : (first layout : Layout) (frame index : ℕ) → IsSetFrom first layout → address_of frame index layout ≡ address_of frame index first
set-address first layout frame index set = ap (λ (l : Layout). address_of frame index l) set

-- what a give leaves of the cache
record Same (s after : CheckedState) : Type 0 where
  slabs : length after.slabs ≡ length s.slabs
  good : IsLayoutFor after.flags after.layout

gives-same : (s : CheckedState) (answer : CheckedGive) (after : CheckedState) → IsLayoutFor s.flags s.layout → Gives s answer after → Same s after
gives-same _ _ _ good (nothing_listed s none) = record { slabs = refl; good = good }
gives-same _ _ _ good (next_is_whole s slot next whole) = record { slabs = length-set s.slabs slot.frame _; good = good }
gives-same _ _ _ good (next_is_damaged s slot damage answer after next is asked) =
    let more = gives-same (with_damaged s slot damage) answer after good asked in record { slabs = more.slabs ∙ length-set s.slabs slot.frame _; good = more.good }

-- a run has room for an object
run-some : (old : FreeFrames) (layout : Layout) (run : Run) (new : FreeFrames) → FindsRun old layout (Some run) new → 1 ≤ layout.objects → 1 ≤ layout.min_objects_slab → 1 ≤ run.objects
run-some old layout run new (inl wide) some least = omega (arith, wide.1, some)
run-some old layout run new (inr small) some least = omega (arith, small.2, least)

-- a new slab gives its first object
made-clean : (told : List Answered) (s : CheckedState) (run : Run) → IsLayoutFor s.flags s.layout → length s.slabs ≡ 4096 → 1 ≤ run.objects → run.frame < 4096 → Clean (WasPoked told) s → Clean (WasPoked told) (new_given s run)
made-clean told s run good frames some below clean =
    let frame_run : SlabRun = record { frame = run.frame; order = run.order } in
    let mid : CheckedState = with_new_slab s frame_run run.objects in
    let new : SlabState = new_slab s.layout s.flags run.order run.objects in
    let at : checked_slab mid run.frame ≡ new = slab_at-set s.slabs run.frame new (omega (arith, below, frames)) in
    let coming : Clean (WasPoked told) mid = coming-clean (WasPoked told) s frame_run run.objects good clean in
    let long : length new.bytes ≡ run.objects * s.layout.size = new-bytes (by_place (WasPoked told) s.layout run.frame) s.layout s.flags good run.objects in
    let row : 0 * s.layout.size + s.layout.size ≤ length new.bytes = omega (arith, long, mul-le-mul_right s.layout.size some) in
    let first : slice_get new.states 0 ≡ Some FreeObject = slice_get-get_or (replicate run.objects FreeObject) 0 Aside (omega (arith, some, length-replicate run.objects FreeObject)) ∙ ap Some (get_or-replicate run.objects 0 FreeObject Aside (omega (arith, some))) in
    let given : CleanSlab (by_place (WasPoked told) s.layout run.frame) s.layout s.flags (slab_with_given s.layout s.flags (checked_slab mid run.frame) 0) =
    given-clean (by_place (WasPoked told) s.layout run.frame) s.layout s.flags good (checked_slab mid run.frame) 0
    (subst (λ (slab : SlabState). 0 * s.layout.size + s.layout.size ≤ length slab.bytes) (sym at) row) (subst (λ (slab : SlabState). slice_get slab.states 0 ≡ Some FreeObject) (sym at) first) (coming run.frame) in
    clean-with (WasPoked told) mid run.frame (Some (slab_with_given s.layout s.flags (checked_slab mid run.frame) 0)) (new_given s run).listed s.reports coming given

-- ---- the machine

-- each number that a worker or the board knows was given where its object is, and examined bytes are as they are wanted, or poked
pub record IsTold (told : List Answered) (s : State) : Type 0 where
  pub known : (object : ℕ) (held : Held) (slabs : CheckedState) → (held_under s object ≡ Some held) ⊎ (gone_under s object ≡ Some held) → checked_of s held.cache ≡ Some slabs
      → WasGiven told object (address_of held.frame held.index slabs.layout)
  pub clean : (cache : ℕ) (slabs : CheckedState) → checked_of s cache ≡ Some slabs → Clean (WasPoked told) slabs

-- reports of a cache that are added tell of what was poked
abbrev pub AddsTold : (ℤ → ℕ → Type 0) → Option CheckedState → Option CheckedState → Type 0
AddsTold poked None None = ⊤
AddsTold poked None (Some new) = ⊥
AddsTold poked (Some old) None = ⊥
AddsTold poked (Some old) (Some new) = (found : List Report) × (new.reports ≡ old.reports ++ found) × All (ToldPoked poked) found

adds-none : (poked : ℤ → ℕ → Type 0) (x : Option CheckedState) → AddsTold poked x x
adds-none poked None = tt
adds-none poked (Some slabs) = ([], sym (append-nil slabs.reports), λ k d within. absurd (omega (arith, within)))

-- the layout of a checked cache stays
layout-kept : (x y : Option CheckedState) (old new : CheckedState) → ToldOf x y → x ≡ Some old → y ≡ Some new → new.layout ≡ old.layout
layout-kept None None old new told is now = absurd (cc)
layout-kept None (Some b) old new told is now = absurd told
layout-kept (Some a) None old new told is now = absurd told
layout-kept (Some a) (Some b) old new told is now =
    ap (λ (c : CheckedState). c.layout) (sym (injected now)) ∙ told.layout ∙ ap (λ (c : CheckedState). c.layout) (injected is)

-- a checked cache was checked before
was-there : (x y : Option CheckedState) (new : CheckedState) → ToldOf x y → y ≡ Some new → (old : CheckedState) × (x ≡ Some old)
was-there None None new told now = absurd (cc)
was-there None (Some b) new told now = absurd told
was-there (Some a) y new told now = (a, refl)

module _ (told : List Answered) (s : State) (one : Answered) (after : State) (coherent : IsCoherent s) (turns : (object : ℕ) → Turn s one after object) (reports : Reports s after) (is_told : IsTold told s) where
  abbrev now-told : List Answered
  now-told = told ++ one ∷ []

  -- what was known is, under the layout of before
  was-known : (object : ℕ) (held : Held) (slabs : CheckedState) → (held_under s object ≡ Some held) ⊎ (gone_under s object ≡ Some held) → checked_of after held.cache ≡ Some slabs
      → WasGiven now-told object (address_of held.frame held.index slabs.layout)
  was-known object held slabs there now =
      let was = was-there (checked_of s held.cache) (checked_of after held.cache) slabs (reports held.cache) now in
      let same = layout-kept (checked_of s held.cache) (checked_of after held.cache) was.0 slabs (reports held.cache) was.1 now in
      subst (λ (l : Layout). WasGiven now-told object (address_of held.frame held.index l)) (sym same)
      (given-later told (one ∷ []) object (address_of held.frame held.index was.0.layout) (is_told.known object held was.0 there was.1))

  -- what comes was given now
  now-given : (object place address : ℕ) (held : Held) (slabs : CheckedState) → one.0.act ≡ Alloc place object → one.1 ≡ reply.Given address → spot_of s held ≡ Some (record { cache = held.cache; address = address })
      → checked_of after held.cache ≡ Some slabs → WasGiven now-told object (address_of held.frame held.index slabs.layout)
  now-given object place address held slabs asks is spot now =
      let was = was-there (checked_of s held.cache) (checked_of after held.cache) slabs (reports held.cache) now in
      let same = layout-kept (checked_of s held.cache) (checked_of after held.cache) was.0 slabs (reports held.cache) was.1 now in
      let live = live-spot s held (record { cache = held.cache; address = address }) spot in
      let mine : IsSetFrom was.0.layout live.0.layout = (at_match (cache_of s held.cache) live.0 (λ live. IsCacheOf was.0 live.layout live.flags) live.1 (slabs-sound s held.cache was.0 coherent was.1).live).0 in
      let at : address ≡ address_of held.frame held.index slabs.layout = live.2 ∙ set-address was.0.layout live.0.layout held.frame held.index mine ∙ ap (λ (l : Layout). address_of held.frame held.index l) (sym same) in
      (one, Contains-append_right told (one ∷ []) one (0, omega arith, refl), is ∙ ap reply.Given at, allocs)
    where
      allocs : is_alloc_of object one.0.act ≡ true
      allocs = rw asks (itself object)
        where
          itself : (n : ℕ) → is_alloc_of n (Alloc place n) ≡ true
          itself n = grind arith

  known-by : (object : ℕ) (held : Held) (slabs : CheckedState) → (held_under after object ≡ Some held) ⊎ (gone_under after object ≡ Some held) → checked_of after held.cache ≡ Some slabs → Turn s one after object
      → WasGiven now-told object (address_of held.frame held.index slabs.layout)
  known-by object held slabs (inl there) now (rests board gone given freed bad) = was-known object held slabs (inl (sym board ∙ there)) now
  known-by object held slabs (inr there) now (rests board gone given freed bad) = was-known object held slabs (inr (sym gone ∙ there)) now
  known-by object held slabs (inl there) now (comes place address come none is_now gone mine did freed bad asks is asked spot) =
      let one_held : come ≡ held = injected (sym is_now ∙ there) in
      subst (λ (h : Held). WasGiven now-told object (address_of h.frame h.index slabs.layout)) one_held
      (now-given object place address come slabs asks is spot (ap (λ (h : Held). checked_of after h.cache) one_held ∙ now))
  known-by object held slabs (inr there) now (comes place address come none is_now gone mine did freed bad asks is asked spot) = was-known object held slabs (inr (sym gone ∙ there)) now
  known-by object held slabs (inl there) now (goes address was_held was may is_now gone given freed bad asks is spot) = absurd (let never : None ≡ Some held = sym is_now ∙ there in cc)
  known-by object held slabs (inr there) now (goes address was_held was may is_now gone given freed bad asks is spot) =
      let one_held : record was_held { worker = Some one.0.worker } ≡ held = injected (sym gone ∙ there) in
      subst (λ (h : Held). WasGiven now-told object (address_of h.frame h.index slabs.layout)) one_held
      (was-known object was_held slabs (inl was) (ap (λ (h : Held). checked_of after h.cache) one_held ∙ now))
  known-by object held slabs (inl there) now (stays was_held mine_slabs checked was may is_now gone given freed bad) =
      let one_held : record was_held { worker = Some one.0.worker } ≡ held = injected (sym is_now ∙ there) in
      subst (λ (h : Held). WasGiven now-told object (address_of h.frame h.index slabs.layout)) one_held
      (was-known object was_held slabs (inl was) (ap (λ (h : Held). checked_of after h.cache) one_held ∙ now))
  known-by object held slabs (inr there) now (stays was_held mine_slabs checked was may is_now gone given freed bad) = was-known object held slabs (inr (sym gone ∙ there)) now

  -- ---- bytes

  of-cache : (cache : ℕ) (slabs : CheckedState) → checked_of s cache ≡ Some slabs → IsCheckedOf s cache slabs
  of-cache cache slabs was = slabs-sound s cache slabs coherent was

  clean-now : (cache : ℕ) (slabs : CheckedState) → checked_of s cache ≡ Some slabs → Clean (WasPoked now-told) slabs
  clean-now cache slabs was = clean-later told (one ∷ []) slabs (is_told.clean cache slabs was)

  -- the slabs of one cache are others
  module _ (cache : ℕ) (slabs rest : CheckedState) (swaps : Swaps s cache slabs rest after) where
    at-cache : checked_of after cache ≡ Some rest
    at-cache = ap (λ (l : List (Option CheckedState)). get_or l cache None) swaps.now ∙ get_or-set_same s.checked cache (Some rest) None (inside-of s.checked cache slabs swaps.was)

    elsewhere : (other : ℕ) → other ≢ cache → checked_of after other ≡ checked_of s other
    elsewhere other differ = ap (λ (l : List (Option CheckedState)). get_or l other None) swaps.now ∙ get_or-set_other s.checked cache other (Some rest) None differ

    swapped-clean : Clean (WasPoked now-told) rest → (other : ℕ) (now : CheckedState) → checked_of after other ≡ Some now → Clean (WasPoked now-told) now
    swapped-clean clean other now there = elim (cases_eq other cache) [
      | inl mine ↦ subst (Clean (WasPoked now-told)) (injected (sym at-cache ∙ ap (checked_of after) (sym mine) ∙ there)) clean
      | inr differ ↦ clean-now other now (sym (elsewhere other differ) ∙ there)
    ]

    swapped-adds : (found : List Report) → rest.reports ≡ slabs.reports ++ found → All (ToldPoked (WasPoked now-told)) found → (other : ℕ) → AddsTold (WasPoked now-told) (checked_of s other) (checked_of after other)
    swapped-adds found reports_are all other = elim (cases_eq other cache) [
      | inl mine ↦
          let was : checked_of s other ≡ Some slabs = ap (checked_of s) mine ∙ swaps.was in
          let now : checked_of after other ≡ Some rest = ap (checked_of after) mine ∙ at-cache in
          subst (λ x. AddsTold (WasPoked now-told) x (checked_of after other)) (sym was) (subst (AddsTold (WasPoked now-told) (Some slabs)) (sym now) (found, reports_are, all))
      | inr differ ↦ subst (AddsTold (WasPoked now-told) (checked_of s other)) (sym (elsewhere other differ)) (adds-none (WasPoked now-told) (checked_of s other))
    ]

    swapped-quiet : rest.reports ≡ slabs.reports → (other : ℕ) → AddsTold (WasPoked now-told) (checked_of s other) (checked_of after other)
    swapped-quiet same_reports = swapped-adds [] (same_reports ∙ sym (append-nil slabs.reports)) (λ k d within. absurd (omega (arith, within)))

  -- what an event does to the bytes, and tells
  pub record Bytes : Type 0 where
    pub clean : (cache : ℕ) (slabs : CheckedState) → checked_of after cache ≡ Some slabs → Clean (WasPoked now-told) slabs
    pub adds : (cache : ℕ) → AddsTold (WasPoked now-told) (checked_of s cache) (checked_of after cache)

  -- a poked byte
  poke-told : (object : ℕ) (offset : ℤ) (byte : ℕ) (held : Held) (slabs : CheckedState) → one.0.act ≡ Poke object offset byte → one.1 ≡ reply.Poked → known_to s one.0.worker object ≡ Some held → checked_of s held.cache ≡ Some slabs
      → WasPoked now-told (pos (address_of held.frame held.index slabs.layout) +ℤ offset) byte
  poke-told object offset byte held slabs asks is knows was = record {
    one = one;
    there = Contains-append_right told (one ∷ []) one (0, omega arith, refl);
    object = object;
    offset = offset;
    asks = asks;
    done = is;
    address = address_of held.frame held.index slabs.layout;
    given = given-later told (one ∷ []) object (address_of held.frame held.index slabs.layout) (is_told.known object held slabs known was);
    is = refl;
  }
    where
      known : (held_under s object ≡ Some held) ⊎ (gone_under s object ≡ Some held)
      known = by (option_and_then (own one.0.worker) (held_under s object)) refl knows
        where
          by : (x : Option Held) → option_and_then (own one.0.worker) (held_under s object) ≡ x → option_or x (option_and_then (own one.0.worker) (gone_under s object)) ≡ Some held → (held_under s object ≡ Some held) ⊎ (gone_under s object ≡ Some held)
          by None e knows = inr (own-is one.0.worker (gone_under s object) held knows)
          by (Some mine) e knows = inl (own-is one.0.worker (held_under s object) held (e ∙ knows))

  bytes-by : Slabs s one.0 one.1 after → Bytes
  bytes-by (same is) = record {
    clean = λ cache slabs now. clean-now cache slabs (sym (ap (λ (l : List (Option CheckedState)). get_or l cache None) is) ∙ now);
    adds = λ cache. subst (AddsTold (WasPoked now-told) (checked_of s cache)) (sym (ap (λ (l : List (Option CheckedState)). get_or l cache None) is)) (adds-none (WasPoked now-told) (checked_of s cache));
  }
  bytes-by (gave_slab cache slabs rest found swaps asked) =
      let done = gives-clean (WasPoked now-told) slabs found rest (of-cache cache slabs swaps.was).sound asked (clean-now cache slabs swaps.was) in
      record { clean = swapped-clean cache slabs rest swaps done.clean; adds = swapped-adds cache slabs rest swaps done.found done.reports done.told }
  bytes-by (made cache slabs rest run pool live is_live swaps asked finds) =
      let of = of-cache cache slabs swaps.was in
      let done = gives-clean (WasPoked now-told) slabs give.Empty rest of.sound asked (clean-now cache slabs swaps.was) in
      let kept = gives-same slabs give.Empty rest of.sound.layout asked in
      let layout : IsSetFrom slabs.layout live.layout = (at_match (cache_of s cache) live (λ live. IsCacheOf slabs live.layout live.flags) is_live of.live).0 in
      let some : 1 ≤ run.objects = run-some s.pool live.layout run pool finds (subst (λ (l : Layout). 1 ≤ l.objects) (sym layout) of.sound.layout.bounds.objects.0) (subst (λ (l : Layout). 1 ≤ l.min_objects_slab) (sym layout) of.sound.layout.bounds.min_objects_slab.0) in
      let free = run-free s.pool live.layout run pool finds in
      let usable = coherent.shaped.pool.usable free.0 run.frame free.1 in
      let below : run.frame < 4096 = subst (λ f. f < 4096) free.2 (omega (arith, usable.1, coherent.shaped.pool.most)) in
      let clean = made-clean now-told rest run kept.good (kept.slabs ∙ of.sound.frames) some below done.clean in
      record { clean = swapped-clean cache slabs _ swaps clean; adds = swapped-adds cache slabs _ swaps done.found done.reports done.told }
  bytes-by (took object held slabs mid rest limit run asks there swaps takes out) =
      let used : IsUsed slabs (slot_of_held held) = held-used s object held slabs there swaps.was (consistent-of s coherent) in
      let back : Clean (WasPoked now-told) mid = subst (Clean (WasPoked now-told)) (sym takes.1) (back-clean (WasPoked now-told) slabs (slot_of_held held) (of-cache held.cache slabs swaps.was).sound used (clean-now held.cache slabs swaps.was)) in
      record { clean = swapped-clean held.cache slabs rest swaps (empty-clean (WasPoked now-told) mid held.frame limit run rest out back); adds = swapped-quiet held.cache slabs rest swaps (kept-reports run out ∙ ap (λ (c : CheckedState). c.reports) takes.1) }
    where
      kept-reports : (run : Option SlabRun) → TakesEmpty mid held.frame limit run rest → rest.reports ≡ mid.reports
      kept-reports None out = ap (λ (c : CheckedState). c.reports) out.1
      kept-reports (Some run) out = ap (λ (c : CheckedState). c.reports) out.2
  bytes-by (wrote object word value held live slabs asks holds within swaps) =
      let there = own-is one.0.worker (held_under s object) held holds.here in
      let used = used-word s held live.layout (record { object = object; here = there }) (rw holds.cache refl) coherent word within slabs swaps.was in
      record { clean = swapped-clean held.cache slabs _ swaps (word-clean now-told slabs (slot_of_held held) word value (of-cache held.cache slabs swaps.was).sound used.0 used.1 (clean-now held.cache slabs swaps.was)); adds = swapped-quiet held.cache slabs _ swaps refl }
  bytes-by (poked_byte object offset byte held slabs asks is knows inside swaps) =
      record {
        clean = swapped-clean held.cache slabs _ swaps (byte-clean now-told slabs (slot_of_held held) offset byte (of-cache held.cache slabs swaps.was).sound inside (poke-told object offset byte held slabs asks is knows swaps.was) (clean-now held.cache slabs swaps.was));
        adds = swapped-quiet held.cache slabs _ swaps refl;
      }

-- ---- an event, and many

module _ (told : List Answered) (s : State) (one : Answered) (after : State) (coherent : IsCoherent s) (turns : (object : ℕ) → Turn s one after object) (reports : Reports s after) (is_told : IsTold told s) where
  pub event-bytes : Slabs s one.0 one.1 after → Bytes told s one after coherent turns reports is_told
  event-bytes slabs = bytes-by told s one after coherent turns reports is_told slabs

  pub event-told : Slabs s one.0 one.1 after → IsTold (told ++ one ∷ []) after
  event-told slabs = record {
    known = λ object held slabs there now. known-by told s one after coherent turns reports is_told object held slabs there now (turns object);
    clean = (event-bytes slabs).clean;
  }

  -- a free that found its object damaged tells of what was poked
  pub free-told : Step s one.0 one.1 after → IsPokedFree told one
  free-told step object damage asks is = by step
    where
      same-object : {a b : ℕ} → Free a ≡ Free b → a ≡ b
      same-object e = cc

      same-damage : {a b : Damage} → reply.Corrupt a ≡ reply.Corrupt b → a ≡ b
      same-damage e = cc

      by : Step s one.0 one.1 after → (address : ℕ) × WasGiven told object address × IsPoked told address damage
      by (keeps other found held slabs also was may checked taken now_is now) =
          let mine : other ≡ object = same-object (sym also ∙ asks) in
          let there : held_under s object ≡ Some held = ap (held_under s) (sym mine) ∙ was in
          let same_damage : found ≡ damage = same-damage (sym now_is ∙ is) in
          let used : IsUsed slabs (slot_of_held held) = held-used s object held slabs there checked (consistent-of s coherent) in
          let did = back-told (WasPoked told) slabs (slot_of_held held) found (slabs-sound s held.cache slabs coherent checked).sound used taken.0 (is_told.clean held.cache slabs checked) in (
            address_of held.frame held.index slabs.layout,
            is_told.known object held slabs (inl there) checked,
            subst (λ (d : Damage). IsPoked told (address_of held.frame held.index slabs.layout) d) same_damage did,
          )
      by (gives place other live held also names is_live mine now_is unheld board gone table memory cpus frames dry) = absurd (let never : Alloc place other ≡ Free object = sym also ∙ asks in cc)
      by (lacks place other cache live also names is_live now_is board gone table memory cpus frames dry) = absurd (let never : Alloc place other ≡ Free object = sym also ∙ asks in cc)
      by (wants place other cache live slabs also names is_live checked now_is kept) = absurd (let never : Alloc place other ≡ Free object = sym also ∙ asks in cc)
      by (nameless place other also none now_is now) = absurd (let never : Alloc place other ≡ Free object = sym also ∙ asks in cc)
      by (frees other live held also was may is_live now_is board gone table memory cpus frames dry) = absurd (let never : reply.Freed (address_of held.frame held.index live.layout) ≡ reply.Corrupt damage = sym now_is ∙ is in cc)
      by (refuses other also why now_is now) = absurd (let never : reply.NotHeld ≡ reply.Corrupt damage = sym now_is ∙ is in cc)
      by (writes other word value live held also holds within now_is now) = absurd (let never : reply.Wrote ≡ reply.Corrupt damage = sym now_is ∙ is in cc)
      by (writes_none other word value live held also holds past now_is now) = absurd (let never : reply.OutOfObject ≡ reply.Corrupt damage = sym now_is ∙ is in cc)
      by (writes_not other word value also none now_is now) = absurd (let never : reply.NotHeld ≡ reply.Corrupt damage = sym now_is ∙ is in cc)
      by (reads other word live held also holds within now_is now) = absurd (let never : reply.Value (word_of s live.layout held word) ≡ reply.Corrupt damage = sym now_is ∙ is in cc)
      by (reads_none other word live held also holds past now_is now) = absurd (let never : reply.OutOfObject ≡ reply.Corrupt damage = sym now_is ∙ is in cc)
      by (reads_not other word also none now_is now) = absurd (let never : reply.NotHeld ≡ reply.Corrupt damage = sym now_is ∙ is in cc)
      by (pokes other offset byte held slabs also knows checked inside now_is now) = absurd (let never : reply.Poked ≡ reply.Corrupt damage = sym now_is ∙ is in cc)
      by (trims place cache slabs also names unchecked now_is kept same_slabs) = absurd (let never : reply.Trimmed slabs ≡ reply.Corrupt damage = sym now_is ∙ is in cc)
      by (trims_checked place cache slabs also names checked now_is now) = absurd (let never : reply.Checked ≡ reply.Corrupt damage = sym now_is ∙ is in cc)
      by (trims_none place also none now_is now) = absurd (let never : reply.NoSuchCache ≡ reply.Corrupt damage = sym now_is ∙ is in cc)
      by (flushes slabs also now_is kept same_slabs) = absurd (let never : reply.Flushed slabs ≡ reply.Corrupt damage = sym now_is ∙ is in cc)
      by (pokes_not other offset byte also (inl now_is) now) = absurd (let never : reply.NotHeld ≡ reply.Corrupt damage = sym now_is ∙ is in cc)
      by (pokes_not other offset byte also (inr (inl now_is)) now) = absurd (let never : reply.NotChecked ≡ reply.Corrupt damage = sym now_is ∙ is in cc)
      by (pokes_not other offset byte also (inr (inr now_is)) now) = absurd (let never : reply.OutOfSlot ≡ reply.Corrupt damage = sym now_is ∙ is in cc)

-- what is told grows
adds-later : (told more : List Answered) (x y : Option CheckedState) → AddsTold (WasPoked told) x y → AddsTold (WasPoked (told ++ more)) x y
adds-later told more None None adds = tt
adds-later told more None (Some new) adds = adds
adds-later told more (Some old) None adds = adds
adds-later told more (Some old) (Some new) (found, is, all) = (found, is, λ k d within. poked-later told more _ _ (all k d within))

adds-both : (poked : ℤ → ℕ → Type 0) (x y z : Option CheckedState) → AddsTold poked x y → AddsTold poked y z → AddsTold poked x z
adds-both poked None None None first second = tt
adds-both poked None None (Some z) first second = second
adds-both poked None (Some y) z first second = absurd first
adds-both poked (Some x) None z first second = absurd first
adds-both poked (Some x) (Some y) None first second = second
adds-both poked (Some x) (Some y) (Some z) (found, is, all) (more, also, rest) =
    (found ++ more, also ∙ ap (λ l. l ++ more) is ∙ append_assoc x.reports found more, All-append (ToldPoked poked) found more all rest)

-- what a round tells: each report, and each free that found damage
pub record RoundTold (told : List Answered) (s : State) (answers : List Answered) (after : State) : Type 0 where
  pub then : IsTold (told ++ answers) after
  pub adds : (cache : ℕ) → AddsTold (WasPoked (told ++ answers)) (checked_of s cache) (checked_of after cache)
  pub frees_told : (one : Answered) → Contains answers one → IsPokedFree (told ++ answers) one

free-later : (told more : List Answered) (one : Answered) → IsPokedFree told one → IsPokedFree (told ++ more) one
free-later told more one is_poked object damage asks is =
    let was = is_poked object damage asks is in
    (was.0, given-later told more object was.0 was.1, poked-later told more _ _ was.2)

pub runs-told : (told : List Answered) (before : State) (past : List Answered) (s : State) (answers : List Answered) (after : State) → Tale before past s → Runs before past s answers after → IsTold told s → RoundTold told s answers after
runs-told told before past s [] after tale runs is_told = record {
  then = subst (λ l. IsTold l after) (sym (append-nil told)) (subst (IsTold told) (sym runs) is_told);
  adds = λ cache. subst (λ (t : State). AddsTold (WasPoked (told ++ [])) (checked_of s cache) (checked_of t cache)) (sym runs) (adds-none (WasPoked (told ++ [])) (checked_of s cache));
  frees_told = λ one there. absurd (omega (arith, there.1));
}
runs-told told before past s (one ∷ answers) after tale (mid, moves, runs) is_told =
    let slabs = event-slabs s one.0 one.1 mid moves.answers in
    let reports = event-reports s one mid tale.coherent slabs in
    let turns = turns-of before past s one mid moves tale in
    let now = event-told told s one mid tale.coherent turns reports is_told slabs in
    let bytes = event-bytes told s one mid tale.coherent turns reports is_told slabs in
    let rest = runs-told (told ++ one ∷ []) before (past ++ one ∷ []) mid answers after (tale-step before past s one mid moves tale) runs now in
    let whole : (told ++ one ∷ []) ++ answers ≡ told ++ one ∷ answers = append_assoc told (one ∷ []) answers in
    record {
      then = subst (λ l. IsTold l after) whole rest.then;
      adds = λ cache. subst (λ l. AddsTold (WasPoked l) (checked_of s cache) (checked_of after cache)) whole
          (adds-both (WasPoked ((told ++ one ∷ []) ++ answers)) (checked_of s cache) (checked_of mid cache) (checked_of after cache)
          (adds-later (told ++ one ∷ []) answers (checked_of s cache) (checked_of mid cache) (bytes.adds cache)) (rest.adds cache));
      frees_told = λ other there. each other there (free-told told s one mid tale.coherent turns reports is_told (step-of before past s one mid moves tale)) rest.frees_told whole;
    }
  where
    each : (other : Answered) → Contains (one ∷ answers) other → IsPokedFree told one → ((x : Answered) → Contains answers x → IsPokedFree ((told ++ one ∷ []) ++ answers) x) → (told ++ one ∷ []) ++ answers ≡ told ++ one ∷ answers → IsPokedFree (told ++ one ∷ answers) other
    each other (zero, within, is) first rest whole = subst (λ x. IsPokedFree (told ++ one ∷ answers) x) is (free-later told (one ∷ answers) one first)
    each other (suc k, within, is) first rest whole = subst (λ l. IsPokedFree l other) whole (rest other (k, omega (arith, within), is))
