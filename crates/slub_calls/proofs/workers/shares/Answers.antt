use Rattle.std.proofs.Common.{◌≡◌, ℕ, ◌+◌, ◌<◌, List, length, map, get_or, sym, ◌∙◌, ap, arith}
use Rattle.std.proofs.lemmas.List.{get_or-map, length-map, map-set}
use Rattle.slub_trace.specs.declared.event.Event.{Event}
use Rattle.slub_cache_create.specs.Table.{Table}
use Rattle.slub_core.specs.Local.{Local}
use Rattle.slub_calls.specs.Calls.{worker_with}
use Rattle.slub_calls.specs.Share.{gathered}
use Rattle.slub_calls.specs.declared.share.Share.{Share}
use Rattle.slub_calls.proofs.Handing.{all_long, event_at, first_by, had, none_changed, one_changed, others_same, own_next}
use Rattle.slub_calls.proofs.workers.shares.Goals as goal
use Rattle.slub_calls.proofs.workers.shares.Goals.{then-worker-len+in_ok-push, else-worker-len}

-- a worker with what it has of the first i events
abbrev with_first : Table → List Event → ℕ → ℕ → Local
with_first table events i worker = worker_with table worker (first_by events i worker)

pub loop-event-preserved : goal.loop-event-preserved
loop-event-preserved c =
    let table : Table = c.args.table.now in
    let events : List Event = c.as_slice-events.result.now in
    let i = c.loop-event.event-index in
    let within : i < length events = omega arith in
    let worker = (event_at events i).worker in
    let shares : List Share = c.loop-event.shares.items in
    let f = with_first table events i in
    let g = with_first table events (i + 1) in
    let n = c.args.round.now.workers in
    let others : (k : ℕ) → (k ≡ worker → ⊥) → f k ≡ g k = λ k other. ap (worker_with table k) (others_same events i within k other) in
    let long = all_long f g n worker others (map gathered shares) c.loop-event.invariant in
    elim c.if-worker-len.branch [
      | then-worker-len+in_ok-push w ↦
          let here : worker < length shares = omega (arith, c.loop-event.shares.ok.0, c.len.ensures, w.if-worker-len.true) in
          let few : worker < n = omega (arith, here, long, length-map shares gathered) in
          let share : Share = w.index_mut.result.now in
          let stood : gathered share ≡ get_or (map gathered shares) worker (gathered share) =
          ap gathered w.index_mut.ensures.value ∙ sym (get_or-map gathered shares worker share (gathered share) here) in
          let was = had f g n worker others (map gathered shares) c.loop-event.invariant (gathered share) few stood in
          let is : gathered w.push.new.self ≡ g worker =
          w.in_ok-push.ensures worker (first_by events i worker) was ∙ ap (worker_with table worker) (sym (own_next events i within)) in
          ap (λ v. map gathered v.items) w.shares-is ∙ map-set gathered shares worker w.push.new.self
          ∙ one_changed f g n worker others (map gathered shares) c.loop-event.invariant (gathered w.push.new.self) few is
      | else-worker-len w ↦
          let past : worker < n → ⊥ = λ few. omega (arith, few, c.loop-event.shares.ok.0, long, length-map shares gathered, c.len.ensures, w.if-worker-len.false) in
          ap (λ v. map gathered v.items) w.shares-is ∙ none_changed f g n worker others (map gathered shares) c.loop-event.invariant (f worker) past
    ]
