-- Reports of checked caches grow.
use Rattle.std.proofs.Common.{ℕ, [], ◌++◌, refl, sym, ◌∙◌, ap, arith, Option, Some, None}
use Rattle.std.proofs.lemmas.List.{append_assoc, append-nil}
use Rattle.slub_red_zone.specs.State.{CheckedState}
use Rattle.slub_lists.specs.Alloc.{checked_of}
use Rattle.slub_lists.specs.State.{State}
use Rattle.slub_lists.specs.Coherent.{AddsReportsOf, KeepsOthers}

-- nothing is added
pub adds_none : (slabs : Option CheckedState) → AddsReportsOf slabs slabs
adds_none None = tt
adds_none (Some slabs) = ([], sym (append-nil slabs.reports))

-- what is added and then added to
pub adds_then : (old mid new : Option CheckedState) → AddsReportsOf old mid → AddsReportsOf mid new → AddsReportsOf old new
adds_then None None None first second = tt
adds_then None None (Some new) first second = absurd second
adds_then None (Some mid) new first second = absurd first
adds_then (Some old) None new first second = absurd first
adds_then (Some old) (Some mid) None first second = absurd second
adds_then (Some old) (Some mid) (Some new) first second =
    (first.0 ++ second.0, second.1 ∙ ap (λ reports. reports ++ second.0) first.1 ∙ append_assoc old.reports first.0 second.0)

-- an event that changes nothing
pub same_keeps : (s : State) (object : ℕ) → KeepsOthers s object s
same_keeps s object = record {
  frames = refl;
  cpus = refl;
  table = refl;
  board_length = refl;
  board = λ other differ. refl;
  reports = λ cache. adds_none (checked_of s cache);
  findable = omega arith;
}
