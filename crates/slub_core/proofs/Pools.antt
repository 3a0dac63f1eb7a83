-- At once: a run is taken from the pool, or put back into it.
use Rattle.std.proofs.Common.{◌≡◌, ℕ, ◌+◌, ◌^◌, ◌<◌, ◌≤◌, ◌⊎◌, ◌&&◌, ◌||◌, Bool, true, false, Option, Some, None, List, ◌++◌, refl, ap, ◌∙◌, arith, inl, inr}
use Rattle.std.specs.List.{filter, range_with_len}
use Rattle.std.specs.Prelude.{nat_lt, nat_le}
use Rattle.std.proofs.lemmas.Bool.{cases_eq, cases_lt, eq-eqb, ne_eqb, lt-ltb, le-ltb, le-leb, lt-leb, or_left, or_right, or_from}
use Rattle.std.proofs.lemmas.List.{length-set}
use Rattle.slub_common.specs.Times.{times}
use Rattle.slub_object_layout.specs.declared.layout.Layout.{Layout}
use Rattle.slub_page_pool.specs.FreeFrames.{FreeFrames, IsPool}
use Rattle.slub_page_pool.specs.Block.{IsTaken, Takes, less_run, with_run}
use Rattle.slub_page_pool.proofs.FreeRuns.{IsTaken-free}
use Rattle.slub_common.proofs.Times.{times-append, times-filter_pass, times-filter_fail, times-rising, times-within, times-below, times-above}
use Rattle.slub_core.specs.declared.local.FrameRun.{FrameRun}
use Rattle.slub_core.specs.Setup.{Setup, pool_after}
use Rattle.slub_core.specs.World.{one_if, in_run}
use Rattle.slub_core.specs.Alloc.{run_found, or_least, found_run, noted_dry}
use Rattle.slub_object_layout.specs.Layout.{IsSized}

-- ---- the free frames, counted

-- frames of a run, and others
pub in-run-yes : (g frame order : ℕ) → frame ≤ g → g < frame + 2 ^ order → in_run g frame order ≡ 1
in-run-yes g frame order low high = rw (le-leb frame g low, lt-ltb g (frame + 2 ^ order) high) refl

in-run-before : (g frame order : ℕ) → g < frame → in_run g frame order ≡ 0
in-run-before g frame order before = rw (lt-leb frame g before) refl

in-run-after : (g frame order : ℕ) → frame + 2 ^ order ≤ g → in_run g frame order ≡ 0
in-run-after g frame order after = rw (le-ltb g (frame + 2 ^ order) after) (neither (nat_le frame g))
  where
    neither : (b : Bool) → one_if (b && false) ≡ 0
    neither true = refl
    neither false = refl

pub times-less : (pool : FreeFrames) (g frame order : ℕ) → IsPool pool → IsTaken pool.free order frame → times g (less_run pool.free frame order) + in_run g frame order ≡ times g pool.free
times-less pool g frame order good taken = elim (cases_lt g frame) [
  | inl before ↦
      let a = in-run-before g frame order before in
      let b = times-filter_pass g (λ x. nat_lt x frame || nat_le (frame + 2 ^ order) x) pool.free (or_left (nat_lt g frame) (nat_le (frame + 2 ^ order) g) (lt-ltb g frame before)) in
      omega arith
  | inr low ↦ elim (cases_lt g (frame + 2 ^ order)) [
    | inl high ↦
        let a = in-run-yes g frame order low high in
        let b = times-filter_fail g (λ x. nat_lt x frame || nat_le (frame + 2 ^ order) x) pool.free (or_from (nat_lt g frame) (nat_le (frame + 2 ^ order) g) (le-ltb g frame low) (lt-leb (frame + 2 ^ order) g high)) in
        let c = times-rising g pool.free good.rising (IsTaken-free taken g low high) in
        omega arith
    | inr after ↦
        let a = in-run-after g frame order after in
        let b = times-filter_pass g (λ x. nat_lt x frame || nat_le (frame + 2 ^ order) x) pool.free (or_right (nat_lt g frame) (nat_le (frame + 2 ^ order) g) (le-leb (frame + 2 ^ order) g after)) in
        omega arith
  ]
]

pub times-with : (free : List ℕ) (g frame order : ℕ) → ((g : ℕ) → frame ≤ g → g < frame + 2 ^ order → times g free ≡ 0) → times g (with_run free frame order) ≡ times g free + in_run g frame order
times-with free g frame order none =
    let parts = parts-of free g frame order in
    elim (cases_lt g frame) [
      | inl before ↦
          let a = in-run-before g frame order before in
          let b = times-filter_pass g (λ x. nat_lt x frame) free (lt-ltb g frame before) in
          let c = times-below frame (2 ^ order) g before in
          let d = times-filter_fail g (λ x. nat_le (frame + 2 ^ order) x) free (lt-leb (frame + 2 ^ order) g (omega arith)) in
          omega arith
      | inr low ↦ elim (cases_lt g (frame + 2 ^ order)) [
        | inl high ↦
            let a = in-run-yes g frame order low high in
            let b = times-filter_fail g (λ x. nat_lt x frame) free (le-ltb g frame low) in
            let c = times-within frame (2 ^ order) g low high in
            let d = times-filter_fail g (λ x. nat_le (frame + 2 ^ order) x) free (lt-leb (frame + 2 ^ order) g high) in
            let e = none g low high in
            omega arith
        | inr after ↦
            let a = in-run-after g frame order after in
            let b = times-filter_fail g (λ x. nat_lt x frame) free (le-ltb g frame low) in
            let c = times-above frame (2 ^ order) g after in
            let d = times-filter_pass g (λ x. nat_le (frame + 2 ^ order) x) free (le-leb (frame + 2 ^ order) g after) in
            omega arith
      ]
    ]
  where
    parts-of : (free : List ℕ) (g frame order : ℕ) → times g (with_run free frame order) ≡ times g (filter (λ x. nat_lt x frame) free) + times g (range_with_len frame (2 ^ order)) + times g (filter (λ x. nat_le (frame + 2 ^ order) x) free)
    parts-of free g frame order =
        times-append g (filter (λ x. nat_lt x frame) free ++ range_with_len frame (2 ^ order)) (filter (λ x. nat_le (frame + 2 ^ order) x) free)
        ∙ ap (λ n. n + times g (filter (λ x. nat_le (frame + 2 ^ order) x) free)) (times-append g (filter (λ x. nat_lt x frame) free) (range_with_len frame (2 ^ order)))

-- ---- the run that is found

pub record IsFound (pool : FreeFrames) (layout : Layout) (run : FrameRun) : Type 0 where
  pub taken : IsTaken pool.free run.order run.frame
  pub sized : IsSized layout run.order run.objects

-- a run of an order, where a take of it finds one
abbrev pub AllFound : FreeFrames → Layout → Option FrameRun → Type 0
AllFound pool layout None = Unit {0}
AllFound pool layout (Some run) = IsFound pool layout run

one-found : (pool : FreeFrames) (layout : Layout) (order : ℕ) (t : Option ℕ) → Takes pool order t (pool_after pool order t) → (order ≡ layout.order) ⊎ (order ≡ layout.min_order) → AllFound pool layout (run_found layout order t)
one-found pool layout order None takes which = tt
one-found pool layout order (Some frame) takes which = record {
  taken = takes.0;
  sized = elim (cases_eq order layout.order) [
    | inl e ↦ inl (e, rw (eq-eqb order layout.order e) refl)
    | inr d ↦ elim which [ inl e ↦ absurd (d e) | inr e ↦ inr (e, rw (ne_eqb order layout.order d) refl) ]
  ];
}

pub all-found : (m : Setup) (pool : FreeFrames) (layout : Layout) → IsPool pool → layout.order ≤ 10 → layout.min_order ≤ 10 → AllFound pool layout (found_run m pool layout)
all-found m pool layout good most least = first (run_found layout layout.order (m.means.take pool layout.order)) (one-found pool layout layout.order (m.means.take pool layout.order) (m.means.takes pool layout.order good most) (inl refl))
  where
    first : (found : Option FrameRun) → AllFound pool layout found → AllFound pool layout (or_least m pool layout found)
    first None ok = one-found pool layout layout.min_order (m.means.take pool layout.min_order) (m.means.takes pool layout.min_order good least) (inr refl)
    first (Some run) ok = ok

-- a pool that has counted one more
pub dry-pool : (pool : FreeFrames) (order : ℕ) → IsPool pool → IsPool (noted_dry pool order)
dry-pool pool order good = record { least = good.least; most = good.most; rising = good.rising; usable = good.usable; orders = length-set pool.dry order _ ∙ good.orders }
