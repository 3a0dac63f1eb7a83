-- A run that is found for a new slab.
use Rattle.std.proofs.Common.{◌≡◌, ℕ, ◌+◌, ◌-◌, ◌*◌, ◌%◌, ◌^◌, ◌<◌, ◌≤◌, ◌⊎◌, Some, None, Contains, inl, inr, sym, ap, subst, arith}
use Rattle.std.specs.Int.{◌∣◌}
use Rattle.std.proofs.Math.Nat.{dvd-mul_right}
use Rattle.std.proofs.lemmas.Nat.{pow_pos, pow-add}
use Rattle.std.proofs.lemmas.Nat.Gcd.{dvd_trans, dvd_of_mod-eq-zero, mod-eq-zero_of_dvd, le_of_dvd}
use Rattle.slub_page_pool.specs.FreeFrames.{FreeFrames}
use Rattle.slub_page_pool.specs.Block.{IsTaken, Takes, less_run}
use Rattle.slub_object_layout.specs.declared.layout.Layout.{Layout}
use Rattle.slub_lists.specs.declared.lists.Run.{Run}
use Rattle.slub_lists.specs.Alloc.{FindsRun}

-- a greater power of two is a multiple of a lesser one
pow-divides : (p q : ℕ) → p ≤ q → 2 ^ p ∣ 2 ^ q
pow-divides p q more =
    let whole : p + (q - p) ≡ q = omega arith in
    let parts : 2 ^ (p + (q - p)) ≡ 2 ^ p * 2 ^ (q - p) = pow-add 2 p (q - p) in
    subst (λ n. 2 ^ p ∣ 2 ^ n) whole (rw parts (dvd-mul_right (2 ^ p) (2 ^ (q - p))))

-- the run's frames are free and aligned, and the pool is without them
pub record IsRunFor (old : FreeFrames) (layout : Layout) (run : Run) (new : FreeFrames) : Type 0 where
  pub all_free : (g : ℕ) → run.frame ≤ g → g < run.frame + 2 ^ run.order → Contains old.free g
  pub aligned : run.frame % 2 ^ run.order ≡ 0
  pub less : new.free ≡ less_run old.free run.frame run.order
  pub frames : new.frames ≡ old.frames
  pub fits : ((run.order ≡ layout.order) × (run.objects ≡ layout.objects)) ⊎ ((run.order ≡ layout.min_order) × (run.objects ≡ layout.min_objects_slab))

-- what a take says of its run
taken-all_free : (free : _) (order frame : ℕ) → IsTaken free order frame → (g : ℕ) → frame ≤ g → g < frame + 2 ^ order → Contains free g
taken-all_free free order frame taken g low high =
    taken.block.run.all_free g low (omega (arith, high, le_of_dvd (pow_pos taken.found) (pow-divides order taken.found taken.enough)))

taken-aligned : (free : _) (order frame : ℕ) → IsTaken free order frame → frame % 2 ^ order ≡ 0
taken-aligned free order frame taken =
    mod-eq-zero_of_dvd (2 ^ order) (dvd_trans (2 ^ order) (pow-divides order taken.found taken.enough) (dvd_of_mod-eq-zero (2 ^ taken.found) taken.block.run.aligned))

run-taken : (old : FreeFrames) (layout : Layout) (run : Run) (new : FreeFrames) → Takes old run.order (Some run.frame) new
    → ((run.order ≡ layout.order) × (run.objects ≡ layout.objects)) ⊎ ((run.order ≡ layout.min_order) × (run.objects ≡ layout.min_objects_slab)) → IsRunFor old layout run new
run-taken old layout run new takes fits = record {
  all_free = taken-all_free old.free run.order run.frame takes.0;
  aligned = taken-aligned old.free run.order run.frame takes.0;
  less = ap (λ (p : FreeFrames). p.free) takes.1;
  frames = ap (λ (p : FreeFrames). p.frames) takes.1;
  fits = fits;
}

pub run-for : (old : FreeFrames) (layout : Layout) (run : Run) (new : FreeFrames) → FindsRun old layout (Some run) new → IsRunFor old layout run new
run-for old layout run new found =
    elim found [
      | inl wide ↦ run-taken old layout run new (subst (λ o. Takes old o (Some run.frame) new) (sym wide.0) wide.2) (inl (wide.0, wide.1))
      | inr least ↦ run-taken old layout run new (subst (λ o. Takes old o (Some run.frame) new) (sym least.1) least.4) (inr (least.1, least.2))
    ]

-- where there is none, only a count changes
pub none-frames : (old : FreeFrames) (layout : Layout) (new : FreeFrames) → FindsRun old layout None new → new.frames ≡ old.frames
none-frames old layout new found = ap (λ (p : FreeFrames). p.frames) found.1.0

pub none-free : (old : FreeFrames) (layout : Layout) (new : FreeFrames) → FindsRun old layout None new → new.free ≡ old.free
none-free old layout new found = ap (λ (p : FreeFrames). p.free) found.1.0
