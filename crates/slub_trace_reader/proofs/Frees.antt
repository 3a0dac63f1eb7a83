-- The frees at the end.
use Rattle.std.proofs.Common.{◌≡◌, ℕ, ◌+◌, ◌%◌, List, [], ◌∷◌, ◌++◌, map, flat_map, refl, sym, ap, ◌∙◌, append_assoc, arith}
use Rattle.std.specs.List.{range_with_len}
use Rattle.std.proofs.lemmas.List.{append-nil}
use Rattle.std.proofs.lemmas.Grind.{flat_map-append}
use Rattle.slub_common.proofs.Lists.{range_with_len-append}
use Rattle.slub_trace.specs.declared.event.Event.{Event}
use Rattle.slub_trace_reader.specs.Load.{emptied, free_by, held_by, last_frees}

pub frees_are : (events : List Event) (worker : ℕ) (held : List ℕ) → held_by worker events ≡ held → map (free_by worker (worker % 4)) held ≡ last_frees events worker
unfolding last_frees
frees_are events worker held is = ap (map (free_by worker (worker % 4))) (sym is)

-- the frees of one worker more
pub frees_more : (before events : List Event) (worker : ℕ) →
    (before ++ flat_map (last_frees events) (range_with_len 0 worker)) ++ last_frees events worker ≡ before ++ flat_map (last_frees events) (range_with_len 0 (worker + 1))
frees_more before events worker =
    append_assoc before (flat_map (last_frees events) (range_with_len 0 worker)) (last_frees events worker)
    ∙ ap (λ l. before ++ l)
    (ap (λ l. flat_map (last_frees events) (range_with_len 0 worker) ++ l) (sym (append-nil (last_frees events worker)))
    ∙ sym (flat_map-append (last_frees events) (range_with_len 0 worker) (worker ∷ []))
    ∙ ap (λ n. flat_map (last_frees events) (range_with_len 0 worker ++ n ∷ [])) (let e : worker ≡ 0 + worker = omega arith in e)
    ∙ ap (flat_map (last_frees events)) (sym (range_with_len-append 0 worker 1)))

pub emptied_is : (workers : ℕ) (events : List Event) → events ++ flat_map (last_frees events) (range_with_len 0 workers) ≡ emptied workers events
unfolding emptied
emptied_is workers events = refl
