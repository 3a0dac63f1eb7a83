-- What is put together is the load.
use Rattle.std.proofs.Common.{◌≡◌, ℕ, List, length, fold, max, refl, sym, ap, ◌∙◌}
use Rattle.slub_trace.specs.declared.trace.Item.{Item}
use Rattle.slub_trace.specs.declared.trace.Trace.{Trace}
use Rattle.slub_trace.specs.Sound.{objects_of}
use Rattle.slub_trace_reader.specs.Load.{cache_names, drawn_events, emptied, items_of, load_events, load_of}
use Rattle.slub_trace_reader.proofs.Numbered.{load_greatest}

abbrev trace_with : ℕ → List (List ℕ) → List Item → Trace
trace_with objects names items = record { version = 1; frames = 4096; cpus = 4; tid = 0; objects = objects; names = names; items = items }

pub made : (seed count workers objects : ℕ) (names : List (List ℕ)) (items : List Item) → objects ≡ length (objects_of (drawn_events seed workers count)) → names ≡ cache_names
    → items ≡ items_of workers (load_events seed count workers) → trace_with objects names items ≡ load_of seed count workers
unfolding load_of
made seed count workers objects names items are named last =
    ap (λ n. trace_with n names items) (are ∙ sym (load_greatest seed count workers)) ∙ ap (λ ns. trace_with (fold max 0 (objects_of (load_events seed count workers))) ns items) named
    ∙ ap (λ l. trace_with (fold max 0 (objects_of (load_events seed count workers))) cache_names l) last

pub load_is : (seed count workers : ℕ) → emptied workers (drawn_events seed workers count) ≡ load_events seed count workers
unfolding load_events
load_is seed count workers = refl
