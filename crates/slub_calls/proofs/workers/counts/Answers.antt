use Rattle.std.proofs.Common.{◌≡◌, ℕ, ◌+◌, ◌<◌, List, length, sym, ◌∙◌, ap, arith}
use Rattle.std.specs.List.{range_with_len}
use Rattle.std.proofs.lemmas.List.{length_push}
use Rattle.std.proofs.lemmas.List.FromFn.{length-range_with_len}
use Rattle.std.proofs.lemmas.Simd.{splat_is_map}
use Rattle.slub_trace.specs.declared.event.Event.{Event}
use Rattle.slub_calls.proofs.Handing.{all_long, event_at, few_first, first_by, had, none_changed, one_changed, others_same, own_next}
use Rattle.slub_calls.proofs.workers.counts.Goals as goal
use Rattle.slub_calls.proofs.workers.counts.Goals.{then-worker-len, else-worker-len}

-- how many of the first i events each worker has
abbrev count_first : List Event → ℕ → ℕ → ℕ
count_first events i worker = length (first_by events i worker)

other_count : (events : List Event) (i : ℕ) → i < length events → (worker : ℕ) → (worker ≡ (event_at events i).worker → ⊥) → count_first events i worker ≡ count_first events (i + 1) worker
other_count events i within worker other = ap length (others_same events i within worker other)

own_count : (events : List Event) (i : ℕ) → i < length events → count_first events (i + 1) (event_at events i).worker ≡ count_first events i (event_at events i).worker + 1
own_count events i within = ap length (own_next events i within) ∙ length_push (first_by events i (event_at events i).worker) (event_at events i)

pub loop-event-init : goal.loop-event-init
loop-event-init c =
    c.in_ok-counts.ensures.items_if_clones_equal (λ y same. same)
    ∙ splat_is_map (range_with_len 0 c.args.workers) c.args.workers 0 (length-range_with_len 0 c.args.workers)

pub overflow_add-index_mut : goal.overflow_add-index_mut
overflow_add-index_mut c =
    let events : List Event = c.args.events.now in
    let i = c.loop-event.event-index in
    let within : i < length events = omega arith in
    let w = (event_at events i).worker in
    let f = count_first events i in
    let g = count_first events (i + 1) in
    let counts = c.loop-event.counts in
    let long = all_long f g c.args.workers w (other_count events i within) counts.items c.loop-event.invariant in
    let few : w < c.args.workers = omega (arith, counts.ok.0, long, c.len.ensures, c.if-worker-len.true) in
    let is = had f g c.args.workers w (other_count events i within) counts.items c.loop-event.invariant c.index_mut.result.now few c.index_mut.ensures.value in
    omega (arith, is, few_first events i w within)

pub loop-event-preserved : goal.loop-event-preserved
loop-event-preserved c =
    let events : List Event = c.args.events.now in
    let i = c.loop-event.event-index in
    let within : i < length events = omega arith in
    let worker = (event_at events i).worker in
    let f = count_first events i in
    let g = count_first events (i + 1) in
    let counts = c.loop-event.counts in
    let others = other_count events i within in
    let long = all_long f g c.args.workers worker others counts.items c.loop-event.invariant in
    elim c.if-worker-len.branch [
      | then-worker-len w ↦
          let few : worker < c.args.workers = omega (arith, counts.ok.0, long, c.len.ensures, w.if-worker-len.true) in
          let is = had f g c.args.workers worker others counts.items c.loop-event.invariant w.index_mut.result.now few w.index_mut.ensures.value in
          ap (λ v. v.items) w.counts-is
          ∙ one_changed f g c.args.workers worker others counts.items c.loop-event.invariant (w.index_mut.result.now + 1) few (ap (λ n. n + 1) is ∙ sym (own_count events i within))
      | else-worker-len w ↦
          let past : worker < c.args.workers → ⊥ = λ few. omega (arith, few, counts.ok.0, long, c.len.ensures, w.if-worker-len.false) in
          ap (λ v. v.items) w.counts-is ∙ none_changed f g c.args.workers worker others counts.items c.loop-event.invariant 0 past
    ]
