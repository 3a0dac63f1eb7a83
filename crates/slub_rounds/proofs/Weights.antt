-- How many turns a round may take, by its events.
use Rattle.std.proofs.Common.{◌≡◌, ℕ, ◌+◌, ◌<◌, List, [], ◌∷◌, length, sum_by, refl, sym, ap, ◌∙◌, arith, All}
use Rattle.std.specs.List.{range_with_len}
use Rattle.std.proofs.lemmas.List.{length-map}
use Rattle.std.proofs.lemmas.List.FromFn.{length-range_with_len}
use Rattle.std.proofs.lemmas.List.Sums.{sum_by-cons}
use Rattle.slub_common.proofs.Sums.{sum_by-map, sum_by-same}
use Rattle.slub_trace.specs.declared.event.Act.{Act}
use Rattle.slub_trace.specs.declared.event.Act.TheVariants as act
use Rattle.slub_trace.specs.declared.event.Event.{Event}
use Rattle.slub_trace.specs.declared.event.Round.{Round}
use Rattle.slub_cache_create.specs.Table.{Table}
use Rattle.slub_lists.specs.State.{State}
use Rattle.slub_core.specs.declared.call.Call.{Call}
use Rattle.slub_core.specs.declared.local.Answered.{Answered}
use Rattle.slub_core.specs.declared.local.Known.{Known}
use Rattle.slub_core.specs.Calls.{call_kind}
use Rattle.slub_core.specs.Setup.{Setup}
use Rattle.slub_core.specs.Local.{Local}
use Rattle.slub_core.specs.Steps.{rested}
use Rattle.slub_core.specs.Round.{in_order}
use Rattle.slub_core.specs.Accounted.{calls_of}
use Rattle.slub_core.proofs.CallsStay.{rested_at-script}
use Rattle.slub_schedule.specs.Turns.{weight, events_in, events_of, turns_for, turns_of}
use Rattle.slub_law_opening.specs.Opening.{Beside, setup_of}
use Rattle.slub_calls.specs.Calls.{call_for, calls_for, events_by, rooms_for, worker_of, workers_of}
use Rattle.slub_calls.proofs.Shares.{share, shares}
use Rattle.slub_rounds.specs.Rounds.{system_begun}
use Rattle.slub_rounds.specs.Room.{weight_in, weight_of}

-- the calls of a worker, with and without replies
in_order-events : (ds : List Answered) (todo : List Call) → events_in (in_order ds todo) ≡ events_in (calls_of ds) + events_in todo
in_order-events [] todo = omega arith
in_order-events (d ∷ ds) todo =
    omega (arith, in_order-events ds (d.call ∷ todo), sum_by-cons (λ (c : Call). weight (call_kind c)) d.call todo, sum_by-cons (λ (c : Call). weight (call_kind c)) d.call (calls_of ds))

rested-events : (m : Setup) (l : Local) → events_of (rested m l) ≡ events_of l
rested-events m l =
    let after : Local = rested m l in
    sym (in_order-events after.done after.todo) ∙ ap events_in (rested_at-script m l l.spot) ∙ in_order-events l.done l.todo

call-weight : (table : Table) (rooms : List Known) (cpu : ℕ) (a : Act) → weight (call_kind (call_for table rooms cpu a)) ≡ weight_in a
call-weight table rooms cpu (act.Alloc place object) = refl
call-weight table rooms cpu (act.Free object) = refl
call-weight table rooms cpu (act.Write word object value) = refl
call-weight table rooms cpu (act.Read word object) = refl
call-weight table rooms cpu (act.Poke object offset byte) = refl
call-weight table rooms cpu (act.Trim place) = refl
call-weight table rooms cpu act.Flush = refl

abbrev one : Event → ℕ
one e = weight_in e.act

worker-events : (table : Table) (round : Round) (worker : ℕ) → events_of (worker_of table round worker) ≡ share one round.events worker
worker-events table round worker =
    let es = events_by worker round.events in
    let each : events_in (calls_for table (rooms_for es) es) ≡ sum_by one es =
    sum_by-map (λ (c : Call). weight (call_kind c)) (λ (e : Event). call_for table (rooms_for es) e.cpu e.act) es
    ∙ sum_by-same (λ (e : Event). weight (call_kind (call_for table (rooms_for es) e.cpu e.act))) one es (λ e. call-weight table (rooms_for es) e.cpu e.act) in
    omega (arith, each)

pub begun-long : (s : State) (b : Beside) (round : Round) → length (system_begun s b round).locals ≡ round.workers
begun-long s b round =
    length-map (workers_of s.table round) (rested (setup_of s b)) ∙ length-map (range_with_len 0 round.workers) (worker_of s.table round) ∙ length-range_with_len 0 round.workers

pub begun-turns : (s : State) (b : Beside) (round : Round) → All (λ (e : Event). e.worker < round.workers) round.events → turns_of (system_begun s b round) ≡ turns_for (weight_of round.events) round.workers
begun-turns s b round inside =
    let ws = range_with_len 0 round.workers in
    let ls = workers_of s.table round in
    let m = setup_of s b in
    let all : sum_by events_of (system_begun s b round).locals ≡ weight_of round.events =
    sum_by-map events_of (rested m) ls ∙ sum_by-same (λ (l : Local). events_of (rested m l)) events_of ls (rested-events m)
    ∙ sum_by-map events_of (worker_of s.table round) ws ∙ sum_by-same (λ w. events_of (worker_of s.table round w)) (share one round.events) ws (worker-events s.table round)
    ∙ shares one round.events round.workers inside in
    ap (λ n. turns_for n (length (system_begun s b round).locals)) all ∙ ap (turns_for (weight_of round.events)) (begun-long s b round)
