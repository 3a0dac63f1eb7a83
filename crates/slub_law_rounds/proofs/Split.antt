-- The replies in the order of the text are those of the workers, the last one first.
use Rattle.std.proofs.Common.{◌≡◌, ℕ, suc, ◌<◌, eqb, Bool, true, false, cond, List, [], ◌∷◌, ◌++◌, length, get_or, map, drop, refl, sym, ap, ◌∙◌, arith}
use Rattle.std.specs.Prelude.{reverse}
use Rattle.std.specs.List.{range_with_len, zip}
use Rattle.std.proofs.Math.ListN.{get_or-map as get_or-mapped}
use Rattle.std.proofs.lemmas.List.{append-nil, append_assoc, reverse-append, reverse-reverse, length-map, ext_get_or}
use Rattle.std.proofs.lemmas.List.FromFn.{get_or-map-range_with_len, length-map-range_with_len}
use Rattle.indexmap.proofs.ReorderLemmas.{map-reverse}
use Rattle.slub_trace.specs.declared.event.Event.{Event}
use Rattle.slub_trace.specs.declared.event.Round.{Round}
use Rattle.slub_trace.specs.declared.reply.Reply.{Reply}
use Rattle.slub_trace.specs.declared.reply.Reply.TheVariants.{NotHeld}
use Rattle.slub_cache_create.specs.Table.{Table}
use Rattle.slub_core.specs.declared.call.Call.{Call}
use Rattle.slub_core.specs.declared.local.Known.{Known}
use Rattle.slub_core.specs.declared.local.Answered.{Answered as Done}
use Rattle.slub_core.specs.Local.{Local, no_call}
use Rattle.slub_core.specs.Run.{idle}
use Rattle.slub_core.specs.Round.{in_order}
use Rattle.slub_calls.specs.Calls.{call_for, calls_for, events_by, rooms_for, worker_of, workers_of}
use Rattle.slub_law_rounds.specs.Answered.{Answered, of_worker}
use Rattle.slub_calls.specs.Replies.{AreReplies}

-- an event with its reply, as a call of a worker with these rooms
abbrev pub told : Table → List Known → Answered → Done
told table rooms one = record { call = call_for table rooms one.0.cpu one.0.act; reply = one.1 }

-- such events, the last one first, behind what came before
abbrev pub back : Table → List Known → List Answered → List Done → List Done
back table rooms [] ds = ds
back table rooms (one ∷ own) ds = back table rooms own (told table rooms one ∷ ds)

pub back-append : (table : Table) (rooms : List Known) (own more : List Answered) (ds : List Done) → back table rooms (own ++ more) ds ≡ back table rooms more (back table rooms own ds)
back-append table rooms [] more ds = refl
back-append table rooms (one ∷ own) more ds = back-append table rooms own more (told table rooms one ∷ ds)

reverse-onto : {A : Type 0} (x : A) (xs ys : List A) → reverse xs ++ (x ∷ ys) ≡ reverse (x ∷ xs) ++ ys
reverse-onto x xs ys = sym (append_assoc (reverse xs) (x ∷ []) ys) ∙ ap (λ zs. zs ++ ys) (sym (reverse-append (x ∷ []) xs))

back-reversed : (table : Table) (rooms : List Known) (own : List Answered) (ds : List Done) → back table rooms own ds ≡ reverse (map (told table rooms) own) ++ ds
back-reversed table rooms [] ds = refl
back-reversed table rooms (one ∷ own) ds = back-reversed table rooms own (told table rooms one ∷ ds) ∙ reverse-onto (told table rooms one) (map (told table rooms) own) ds

in_order-reversed : (ds : List Done) (todo : List Call) → in_order ds todo ≡ reverse (map (λ (d : Done). d.call) ds) ++ todo
in_order-reversed [] todo = refl
in_order-reversed (d ∷ ds) todo = in_order-reversed ds (d.call ∷ todo) ∙ reverse-onto d.call (map (λ (d : Done). d.call) ds) todo

-- ---- one worker

-- the calls of a worker are its events, where each event has a reply
calls-of : (table : Table) (rooms : List Known) (worker : ℕ) (events : List Event) (replies : List Reply) → length replies ≡ length events
    → map (λ (one : Answered). (told table rooms one).call) (of_worker worker (zip events replies)) ≡ calls_for table rooms (events_by worker events)
calls-of table rooms worker [] replies each = refl
calls-of table rooms worker (event ∷ events) [] each = absurd (omega (arith, each))
calls-of table rooms worker (event ∷ events) (answer ∷ replies) each = by (eqb event.worker worker) (calls-of table rooms worker events replies (omega (arith, each)))
  where
    by : (b : Bool) → map (λ (one : Answered). (told table rooms one).call) (of_worker worker (zip events replies)) ≡ calls_for table rooms (events_by worker events)
        → map (λ (one : Answered). (told table rooms one).call) (cond b ((event, answer) ∷ of_worker worker (zip events replies)) (of_worker worker (zip events replies))) ≡ calls_for table rooms (cond b (event ∷ events_by worker events) (events_by worker events))
    by true rest = ap (λ cs. call_for table rooms event.cpu event.act ∷ cs) rest
    by false rest = rest

-- what is called and what is replied tell what was answered
same-told : (table : Table) (rooms : List Known) (ys : List Done) (own : List Answered) → map (λ (d : Done). d.call) ys ≡ map (λ (one : Answered). (told table rooms one).call) own
    → map (λ (d : Done). d.reply) ys ≡ map (λ (one : Answered). one.1) own → ys ≡ map (told table rooms) own
same-told table rooms [] [] calls replies = refl
same-told table rooms [] (one ∷ own) calls replies = absurd (let n : 0 ≡ suc (length (map (λ (one : Answered). one.1) own)) = ap length replies in omega (arith, n))
same-told table rooms (y ∷ ys) [] calls replies = absurd (let n : suc (length (map (λ (d : Done). d.reply) ys)) ≡ 0 = ap length replies in omega (arith, n))
same-told table rooms (y ∷ ys) (one ∷ own) calls replies =
    let call : y.call ≡ (told table rooms one).call = ap (λ (cs : List Call). get_or cs 0 no_call) calls in
    let answer : y.reply ≡ one.1 = ap (λ (rs : List Reply). get_or rs 0 NotHeld) replies in
    let rest = same-told table rooms ys own (ap (drop 1) calls) (ap (drop 1) replies) in
    λ i. record { call = call i; reply = answer i } ∷ rest i

pub done-of : (table : Table) (rooms : List Known) (ds : List Done) (own : List Answered) → in_order ds [] ≡ map (λ (one : Answered). (told table rooms one).call) own
    → map (λ (one : Answered). one.1) own ≡ reverse (map (λ (d : Done). d.reply) ds) → ds ≡ back table rooms own []
done-of table rooms ds own calls replies =
    let same : reverse ds ≡ map (told table rooms) own =
    same-told table rooms (reverse ds) own (map-reverse (λ (d : Done). d.call) ds ∙ sym (append-nil (reverse (map (λ (d : Done). d.call) ds))) ∙ sym (in_order-reversed ds []) ∙ calls) (map-reverse (λ (d : Done). d.reply) ds ∙ sym replies) in
    sym (reverse-reverse ds) ∙ ap reverse same ∙ sym (append-nil (reverse (map (told table rooms) own))) ∙ sym (back-reversed table rooms own [])

-- ---- all workers

-- what a worker of these events was answered, the last one first
abbrev pub done_by : Table → List Event → List Reply → ℕ → List Done
done_by table events replies worker = back table (rooms_for (events_by worker events)) (of_worker worker (zip events replies)) []

module _ (table : Table) (round : Round) (replies : List Reply) (dones : List (List Done)) (calls : map (λ (ds : List Done). in_order ds []) dones ≡ map (λ (l : Local). l.todo) (workers_of table round))
    (are : AreReplies round.events dones replies) where
  many : length dones ≡ round.workers
  many = sym (length-map dones (λ (ds : List Done). in_order ds [])) ∙ ap length calls ∙ length-map (workers_of table round) (λ (l : Local). l.todo) ∙ length-map-range_with_len (worker_of table round) 0 round.workers

  its-calls : (worker : ℕ) → worker < round.workers → in_order (get_or dones worker []) [] ≡ calls_for table (rooms_for (events_by worker round.events)) (events_by worker round.events)
  its-calls worker below =
      sym (get_or-mapped (λ (ds : List Done). in_order ds []) dones worker []) ∙ ap (λ (cs : List (List Call)). get_or cs worker []) calls
      ∙ get_or-mapped (λ (l : Local). l.todo) (workers_of table round) worker idle
      ∙ ap (λ (l : Local). l.todo) (get_or-map-range_with_len (worker_of table round) 0 round.workers worker worker idle below (omega arith))

  its-done : (worker : ℕ) → worker < round.workers → get_or dones worker [] ≡ done_by table round.events replies worker
  its-done worker below =
      let rooms = rooms_for (events_by worker round.events) in
      done-of table rooms (get_or dones worker []) (of_worker worker (zip round.events replies))
      (its-calls worker below ∙ sym (calls-of table rooms worker round.events replies are.each)) (are.own worker)

  pub dones-are : dones ≡ map (done_by table round.events replies) (range_with_len 0 round.workers)
  dones-are = ext_get_or [] dones (map (done_by table round.events replies) (range_with_len 0 round.workers)) (many ∙ sym (length-map-range_with_len (done_by table round.events replies) 0 round.workers))
      (λ worker inside.
      let below : worker < round.workers = omega (arith, inside, many) in
      its-done worker below ∙ sym (get_or-map-range_with_len (done_by table round.events replies) 0 round.workers worker worker [] below (omega arith)))
