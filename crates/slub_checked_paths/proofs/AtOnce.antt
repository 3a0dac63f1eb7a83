-- What is done at once, as the definitions have it.
use Rattle.std.proofs.Common.{◌≡◌, ℕ, Bool, true, false, Option, Some, None, if◌then◌else◌, refl, sym, ◌∙◌, ap, subst}
use Rattle.slub_object_layout.specs.declared.layout.Layout.{Layout}
use Rattle.slub_page_pool.specs.FreeFrames.{FreeFrames}
use Rattle.slub_trace.specs.declared.damage.Damage.{Damage}
use Rattle.slub_red_zone.specs.declared.checked.Slot.{Slot}
use Rattle.slub_red_zone.specs.declared.checked.CheckedGive.{CheckedGive}
use Rattle.slub_red_zone.specs.declared.checked.CheckedGive.TheVariants as give
use Rattle.slub_red_zone.specs.State.{CheckedState}
use Rattle.slub_red_zone.specs.Steps.{damage_of_used, with_taken}
use Rattle.slub_trace.specs.declared.reply.Reply.{Reply}
use Rattle.slub_trace.specs.declared.reply.Reply.TheVariants.{NoFrames, Corrupt}
use Rattle.slub_core.specs.declared.call.CallKind.TheVariants.{Alloc, Free}
use Rattle.slub_core.specs.declared.local.FrameRun.{FrameRun}
use Rattle.slub_core.specs.declared.spot.Spot.TheVariants.{InChecked}
use Rattle.slub_core.specs.declared.spot.CheckedSpot.TheVariants.{LockRun, GiveChecked}
use Rattle.slub_core.specs.Setup.{Setup, Means, node_lock}
use Rattle.slub_core.specs.World.{LockValue, Checked, update}
use Rattle.slub_core.specs.Local.{Local, Turn, Change, here, at}
use Rattle.slub_core.specs.Alloc.{found_run, pool_with}
use Rattle.slub_core.specs.Checked.{gave, took_back, with_slabs, slot_of, move_run, way_of_found}
use Rattle.slub_core.specs.Facts.{Facts, setup_of, cache_of}
use Rattle.slub_core.specs.Taken.{pool_left}
use Rattle.slub_core.specs.Ways.{turned}
use Rattle.slub_checked_paths.specs.Slabs.{slabs_at, is_spare_by, spare_run, less_spare}
use Rattle.slub_checked_paths.specs.Turns.{given_turn, freed_turn, way_of_spare}

-- the values of the locks, and a turn, as one change
change : (ℕ → LockValue) → Turn → Change
change value turn = record { value = value; local = turn.local; reply = turn.reply }

-- what was given
pub alloc-done : (facts : Facts) (means : Means) (value after : ℕ → LockValue) (l to : Local) (reply : Option Reply) (s : CheckedState) (r : CheckedGive) → after ≡ with_slabs value l s
    → turned to reply ≡ given_turn facts l r → record { value = after; local = to; reply = reply } ≡ gave (setup_of facts means) value l s r
unfolding change
alloc-done facts means value after l to reply s (give.Given slot) is told = ap (λ (g : ℕ → LockValue). change g (turned to reply)) is ∙ ap (change (with_slabs value l s)) told
alloc-done facts means value after l to reply s give.Empty is told = ap (λ (g : ℕ → LockValue). change g (turned to reply)) is ∙ ap (change (with_slabs value l s)) told

-- what was taken back whole
pub free-done : (facts : Facts) (means : Means) (value after : ℕ → LockValue) (l to : Local) (reply : Reply) (s : CheckedState) (run : Option FrameRun) → damage_of_used s (slot_of l) ≡ None
    → run ≡ spare_run (cache_of facts l.cache).layout.min_partial (with_taken s (slot_of l)) (here l).frame
    → after ≡ with_slabs value l (less_spare (cache_of facts l.cache).layout.min_partial (with_taken s (slot_of l)) (here l).frame)
    → turned to (Some reply) ≡ freed_turn facts l run
    → record { value = after; local = to; reply = Some reply } ≡ took_back (setup_of facts means) value l s (damage_of_used s (slot_of l))
unfolding change
free-done facts means value after l to reply s run whole spare is told =
    let limit = (cache_of facts l.cache).layout.min_partial in
    let told' : turned to (Some reply) ≡ freed_turn facts l (spare_run limit (with_taken s (slot_of l)) (here l).frame) = told ∙ ap (freed_turn facts l) spare in
    let way : (b : Bool) (r : FrameRun) → way_of_spare (if b then Some r else None) ≡ (if b then InChecked LockRun Free else InChecked GiveChecked Free) = λ b r. elim b as (λ v. way_of_spare (if v then Some r else None) ≡ (if v then InChecked LockRun Free else InChecked GiveChecked Free)) [ true ↦ refl | false ↦ refl ] in
    rw whole (ap (λ (g : ℕ → LockValue). change g (turned to (Some reply))) is ∙ ap (change (with_slabs value l (less_spare limit (with_taken s (slot_of l)) (here l).frame))) told' ∙ rw (way (is_spare_by limit (with_taken s (slot_of l)) (here l).frame) _) refl)

-- the same, as the call tells it of what it was given
pub free-from : (facts : Facts) (means : Means) (value after : ℕ → LockValue) (l to : Local) (reply : Reply) (cache : ℕ) (slot : Slot) (layout : Layout) (run : Option FrameRun) → cache ≡ l.cache
    → slot ≡ slot_of l → layout ≡ (cache_of facts cache).layout
    → (damage_of_used (slabs_at (value (node_lock cache))) slot ≡ None)
    × (run ≡ spare_run layout.min_partial (with_taken (slabs_at (value (node_lock cache))) slot) slot.frame)
    × (after ≡ update value (node_lock cache) (Checked (less_spare layout.min_partial (with_taken (slabs_at (value (node_lock cache))) slot) slot.frame)))
    → turned to (Some reply) ≡ freed_turn facts l run
    → record { value = after; local = to; reply = Some reply } ≡ took_back (setup_of facts means) value l (slabs_at (value (node_lock l.cache))) (damage_of_used (slabs_at (value (node_lock l.cache))) (slot_of l))
free-from facts means value after l to reply cache slot layout run own at_slot lies h told =
    let P : ℕ → Slot → Layout → Type 0 = λ k sl ly.
    (damage_of_used (slabs_at (value (node_lock k))) sl ≡ None)
    × (run ≡ spare_run ly.min_partial (with_taken (slabs_at (value (node_lock k))) sl) sl.frame)
    × (after ≡ update value (node_lock k) (Checked (less_spare ly.min_partial (with_taken (slabs_at (value (node_lock k))) sl) sl.frame))) in
    let h1 : P l.cache slot layout = subst (λ (k : ℕ). P k slot layout) own h in
    let h2 : P l.cache (slot_of l) layout = subst (λ (sl : Slot). P l.cache sl layout) at_slot h1 in
    let h3 : P l.cache (slot_of l) (cache_of facts l.cache).layout = subst (λ (ly : Layout). P l.cache (slot_of l) ly) (lies ∙ ap (λ (k : ℕ). (cache_of facts k).layout) own) h2 in
    free-done facts means value after l to reply (slabs_at (value (node_lock l.cache))) run h3.0 h3.1 h3.2 told

-- what was found damaged
pub free-damaged : (facts : Facts) (means : Means) (value after : ℕ → LockValue) (l to : Local) (damage : Damage) (cache : ℕ) (slot : Slot) → cache ≡ l.cache → slot ≡ slot_of l
    → (damage_of_used (slabs_at (value (node_lock cache))) slot ≡ Some damage) × (after ≡ value) → to ≡ at l (InChecked GiveChecked Free)
    → record { value = after; local = to; reply = Some (Corrupt damage) } ≡ took_back (setup_of facts means) value l (slabs_at (value (node_lock l.cache))) (damage_of_used (slabs_at (value (node_lock l.cache))) (slot_of l))
unfolding change
free-damaged facts means value after l to damage cache slot own at_slot h ends =
    let P : ℕ → Slot → Type 0 = λ k sl. damage_of_used (slabs_at (value (node_lock k))) sl ≡ Some damage in
    let found : P l.cache (slot_of l) = subst (λ (sl : Slot). P l.cache sl) at_slot (subst (λ (k : ℕ). P k slot) own h.0) in
    rw found (ap (λ (g : ℕ → LockValue). change g (turned to (Some (Corrupt damage)))) h.1 ∙ ap (λ (x : Local). change value (turned x (Some (Corrupt damage)))) ends)

-- the run is in hand, or there is none
module _ (m : Setup) (value : ℕ → LockValue) (l : Local) (pool : FreeFrames) (layout : Layout) (found : Option FrameRun) (same : layout ≡ m.layout l.cache) (told : found ≡ found_run m pool layout) where
  pub take_run-some : (run : FrameRun) → found ≡ Some run
      → record { value = pool_with value (pool_left pool layout found); local = record (at l (way_of_found found)) { run = found }; reply = None } ≡ move_run m value l Alloc pool
  take_run-some run is =
      let e : found_run m pool (m.layout l.cache) ≡ Some run = rw (← same) (sym told ∙ is) in rw (same, is, e) refl

  pub take_run-none : found ≡ None
      → record { value = pool_with value (pool_left pool layout found); local = at l (way_of_found found); reply = Some NoFrames } ≡ move_run m value l Alloc pool
  take_run-none is =
      let e : found_run m pool (m.layout l.cache) ≡ None = rw (← same) (sym told ∙ is) in rw (same, is, e) refl
