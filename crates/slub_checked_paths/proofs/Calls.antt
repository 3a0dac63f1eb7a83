-- The calls of a checked cache's slabs, at the value of its lock.
use Rattle.std.proofs.Common.{◌≡◌, ℕ, List, get_or, set, Option, Some, None, ◌∙◌, ap, subst}
use Rattle.std.specs.Prelude.{Result, Ok, Err, MatchResult}
use Rattle.slub_trace.specs.declared.damage.Damage.{Damage}
use Rattle.slub_red_zone.specs.declared.checked.Slot.{Slot}
use Rattle.slub_red_zone.specs.Steps.{damage_of_used, with_taken}
use Rattle.slub_core.specs.declared.local.FrameRun.{FrameRun}
use Rattle.slub_core.specs.World.{LockValue, Checked, update}
use Rattle.slub_core.specs.declared.guarded.Guarded.{Guarded}
use Rattle.slub_core.specs.Values.{value_in, values_of}
use Rattle.slub_checked_paths.specs.Slabs.{IsCheckedValue, slabs_at, spare_run, less_spare}
use Rattle.slub_checked_paths.proofs.Locks.{read, written, kept}

module _ (values : List Guarded) (n lock : ℕ) (x g : Guarded) (at : n ≡ lock) (held : IsCheckedValue (values_of values lock)) (is : x ≡ get_or values n x) where
  -- what is so of the value that was read is so of the lock's
  pub of-lock : (P : LockValue → Type 0) → P (value_in (get_or values n x)) → P (values_of values lock)
  of-lock P h = subst P (read values n lock x at held is) h

  -- what the value becomes by what was read, the lock's does
  pub now-lock : (f : LockValue → LockValue) → value_in g ≡ f (value_in (get_or values n x)) → values_of (set values n g) ≡ update (values_of values) lock (f (values_of values lock))
  now-lock f h = written values n lock g (f (values_of values lock)) at held (h ∙ ap f (read values n lock x at held is))

  pub same-lock : value_in g ≡ value_in (get_or values n x) → values_of (set values n g) ≡ values_of values
  same-lock h = kept values n lock g at held (h ∙ read values n lock x at held is)

  -- an object that is taken back
  pub taken-in : (r : Result (Option FrameRun) Damage) (slot : Slot) (limit : ℕ) → (let s = slabs_at (value_in (get_or values n x)) in
      MatchResult r (λ run. (damage_of_used s slot ≡ None) × (run ≡ spare_run limit (with_taken s slot) slot.frame) × (value_in g ≡ Checked (less_spare limit (with_taken s slot) slot.frame)))
      (λ damage. (damage_of_used s slot ≡ Some damage) × (value_in g ≡ value_in (get_or values n x))))
      → (let s = slabs_at (values_of values lock) in
      MatchResult r (λ run. (damage_of_used s slot ≡ None) × (run ≡ spare_run limit (with_taken s slot) slot.frame) × (values_of (set values n g) ≡ update (values_of values) lock (Checked (less_spare limit (with_taken s slot) slot.frame))))
      (λ damage. (damage_of_used s slot ≡ Some damage) × (values_of (set values n g) ≡ values_of values)))
  taken-in (Ok run) slot limit h = (
    of-lock (λ (v : LockValue). damage_of_used (slabs_at v) slot ≡ None) h.0,
    of-lock (λ (v : LockValue). run ≡ spare_run limit (with_taken (slabs_at v) slot) slot.frame) h.1,
    now-lock (λ (v : LockValue). Checked (less_spare limit (with_taken (slabs_at v) slot) slot.frame)) h.2,
  )
  taken-in (Err damage) slot limit h = (of-lock (λ (v : LockValue). damage_of_used (slabs_at v) slot ≡ Some damage) h.0, same-lock h.1)
