-- No more frames are wanted in a round than it allocates numbers.
use Rattle.std.proofs.Common.{◌≡◌, ℕ, ◌+◌, ◌^◌, ◌≤◌, ◌&&◌, Bool, true, false, cond, List, [], ◌∷◌, length, count_by, slice_index, arith, inl, inr}
use Rattle.std.specs.List.{zip}
use Rattle.std.proofs.lemmas.Bool.{cases_lt}
use Rattle.std.proofs.lemmas.List.Sums.{sum_by-cons}
use Rattle.slub_trace.specs.declared.event.Act.{Act}
use Rattle.slub_trace.specs.declared.event.Act.TheVariants.{Alloc, Free, Write, Read, Poke, Trim, Flush}
use Rattle.slub_trace.specs.declared.event.Event.{Event}
use Rattle.slub_trace.specs.declared.event.Round.{Round}
use Rattle.slub_trace.specs.declared.reply.Reply.{Reply}
use Rattle.slub_trace.specs.Kinds.{is_no_frames}
use Rattle.slub_trace.specs.Sound.{objects_of}
use Rattle.slub_lists.specs.State.{State}
use Rattle.slub_law_opening.proofs.Turns.{get_or-beyond}
use Rattle.slub_slabinfo_text.specs.declared.journal.RoundResult.{RoundResult}
use Rattle.slub_slabinfo_text.specs.Lawful.{lacks}
use Rattle.slub_law_rounds.specs.Round.{IsRound}

one-most : (b : Bool) → ◌≤◌ (cond b 1 0) 1
one-most true = omega arith
one-most false = omega arith

-- an event that allocates nothing wants no frames
none-more : (b : Bool) (n : ℕ) → cond (b && false) 1 0 + n ≤ n
none-more true n = omega arith
none-more false n = omega arith

one-lacks : (s : State) (order : ℕ) (act : Act) (line worker cpu : ℕ) (reply : Reply) (events : List Event)
    → (let event : Event = record { line = line; worker = worker; cpu = cpu; act = act } in cond (lacks s order (event, reply)) 1 0 + length (objects_of events) ≤ length (objects_of (event ∷ events)))
one-lacks s order (Alloc place object) line worker cpu reply events =
    let event : Event = record { line = line; worker = worker; cpu = cpu; act = Alloc place object } in
    omega (arith, one-most (lacks s order (event, reply)))
one-lacks s order (Free object) line worker cpu reply events = none-more (is_no_frames reply) (length (objects_of events))
one-lacks s order (Write word object value) line worker cpu reply events = none-more (is_no_frames reply) (length (objects_of events))
one-lacks s order (Read word object) line worker cpu reply events = none-more (is_no_frames reply) (length (objects_of events))
one-lacks s order (Poke object offset byte) line worker cpu reply events = none-more (is_no_frames reply) (length (objects_of events))
one-lacks s order (Trim place) line worker cpu reply events = none-more (is_no_frames reply) (length (objects_of events))
one-lacks s order Flush line worker cpu reply events = none-more (is_no_frames reply) (length (objects_of events))

lacks-few : (s : State) (order : ℕ) (events : List Event) (replies : List Reply) → count_by (lacks s order) (zip events replies) ≤ length (objects_of events)
lacks-few s order [] replies = omega arith
lacks-few s order (event ∷ events) [] = omega arith
lacks-few s order (event ∷ events) (reply ∷ replies) =
    omega (arith, sum_by-cons (λ (one : Event × Reply). cond (lacks s order one) 1 0) (event, reply) (zip events replies), lacks-few s order events replies, one-lacks s order event.act event.line event.worker event.cpu reply events)

-- a lawful round brings no count of wanted frames nearer to its end than the numbers that may still come leave it
pub round-room : (s : State) (round : Round) (result : RoundResult) (after : State) (more order : ℕ) → IsRound s round result after
    → slice_index s.pool.dry order + (length (objects_of round.events) + more) ≤ 2 ^ 62 → slice_index after.pool.dry order + more ≤ 2 ^ 62
round-room s round result after more order is room = elim (cases_lt order 11) [
  | inl below ↦
      let few = lacks-few s order round.events result.replies in
      let wanted = is.dry order below (omega (arith, few, room)) in
      omega (arith, wanted, few, room)
  | inr past ↦
      let nil : slice_index after.pool.dry order ≡ 0 = get_or-beyond after.pool.dry order 0 (omega (arith, past, is.coherent.shaped.pool.orders)) in
      omega (arith, nil, room)
]
