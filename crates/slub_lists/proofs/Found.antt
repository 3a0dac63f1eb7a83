-- Where the checked caches' slabs are as before, so are their reports.
use Rattle.std.proofs.Common.{◌≡◌, ◌+◌, ◌≤◌, List, [], get_or, sum_by, Option, Some, None, sym, subst, arith, append-nil}
use Rattle.std.specs.Option.{option_map_or}
use Rattle.slub_red_zone.specs.Objects.{findable}
use Rattle.slub_red_zone.specs.State.{CheckedState}
use Rattle.slub_lists.specs.State.{State}
use Rattle.slub_lists.specs.Alloc.{checked_of}
use Rattle.slub_lists.specs.Coherent.{AddsReportsOf, findable_in}
use Rattle.slub_lists.specs.Steps.{KeepsFound}

-- no report is added
pub AddsReportsOf-same : (x : Option CheckedState) → AddsReportsOf x x
AddsReportsOf-same None = tt
AddsReportsOf-same (Some slabs) = ([], sym (append-nil slabs.reports))

-- the same slabs have the same reports
pub found-same : (s after : State) → after.checked ≡ s.checked → KeepsFound s after
found-same s after same = record {
  reports = λ cache. subst (λ (xs : List (Option CheckedState)). AddsReportsOf (checked_of s cache) (get_or xs cache None)) (sym same) (AddsReportsOf-same (checked_of s cache));
  findable = subst (λ (xs : List (Option CheckedState)). sum_by (λ slabs. option_map_or findable slabs 0) xs ≤ findable_in s + 1) (sym same) (omega arith);
}
