use Rattle.std.proofs.Common.{◌≡◌, ℕ, ◌+◌, ◌^◌, ◌<◌, ◌≤◌, ◌∙◌, List, length, get_or, take, IfSome, Option, ap, sym, subst, arith}
use Rattle.slub_trace.specs.declared.event.Act.TheVariants.{Alloc}
use Rattle.slub_trace.specs.declared.event.Event.{Event}
use Rattle.slub_trace.specs.Ranges.{step_of}
use Rattle.slub_open_close.specs.Ids.{id_at}
use Rattle.slub_engine.specs.Running.{HasRun}
use Rattle.slub_engine.proofs.Rounds.{own_default}
use Rattle.slub_engine.proofs.UnderWay.{has_run_all}
use Rattle.slub_rounds.specs.Raising.{WordHasRoom, HaveRoom, ids_raised, with_given}
use Rattle.slub_rounds.proofs.Going.{begun, ended, given-room, may-next, more, room, room-raised}
use Rattle.slub_rounds.proofs.on_lists.on_lists.Goals as goal

abbrev none : Event
none = record { line = 0; worker = 0; cpu = 0; act = Alloc 0 0 }

pub loop-event-init : goal.loop-event-init
loop-event-init c = begun _ _ _ _ _ c.in_ok-running.ensures

pub raise-word-requires-clause-room : goal.raise-word-requires-clause-room
raise-word-requires-clause-room c =
    let l = c.loop-event in
    let events = c.as_slice-events.result.now in
    let within : l.event-index < length events = omega arith in
    λ n. let has = room c.args.lists.now c.args.words.now c.args.round.now events c.args.round.now.workers l.event-index l.running l.lists l.words c.requires.ids c.requires.last c.as_slice-events.ensures l.invariant within n in
    omega (arith, has, c.requires.step)

pub event-reply-requires : goal.event-reply-requires
event-reply-requires c =
    let (trace, may) = c.requires.may_do in
    let l = c.loop-event in
    let events = c.as_slice-events.result.now in
    let within : l.event-index < length events = omega arith in (
      c.args.lists.now,
      c.args.round.now.workers,
      length events,
      take l.event-index events,
      may-next c.args.lists.now c.args.words.now trace c.args.round.now events l.event-index l.running l.lists l.words (get_or events l.event-index none) may c.as_slice-events.ensures l.invariant within (own_default _ _ _ within),
    )

pub raise_given-requires : goal.raise_given-requires
raise_given-requires c =
    let (trace, may) = c.requires.may_do in
    let s = c.args.lists.now in
    let l = c.loop-event in
    let events = c.as_slice-events.result.now in
    let event : Event = get_or events l.event-index none in
    let within : l.event-index < length events = omega arith in
    let next = may-next s c.args.words.now trace c.args.round.now events l.event-index l.running l.lists l.words event may c.as_slice-events.ensures l.invariant within (own_default _ _ _ within) in
    let raises : c.raise-word.new.words ≡ ids_raised l.lists (step_of s.cpus) event.worker event.cpu event.act l.words =
    c.raise-word.ensures.raised ∙ ap (λ (k : ℕ). ids_raised l.lists k event.worker event.cpu event.act l.words) c.requires.step in
    let has : HaveRoom c.args.step c.raise-word.new.words = λ n.
    let left = room-raised s c.args.words.now c.args.round.now events c.args.round.now.workers l.event-index l.running l.lists l.words c.requires.ids c.requires.last c.as_slice-events.ensures l.invariant within event.worker event.cpu event.act n in
    subst (λ (xs : List ℕ). id_at xs n + c.args.step < 2 ^ 32) (sym raises) (omega (arith, left, c.requires.step)) in
    let there = given-room l.lists event.cpu c.args.step c.raise-word.new.words next.run.coherent next.known.cpu (omega (arith, c.raise-word.auto.words, l.auto.words, c.requires.ids.count)) has event.act in
    record { room = subst (λ (x : Option ℕ). IfSome x (WordHasRoom c.args.step c.raise-word.new.words)) (sym c.raise-word.ensures.given) there }

pub loop-event-preserved : goal.loop-event-preserved
loop-event-preserved c =
    let (trace, may) = c.requires.may_do in
    let s = c.args.lists.now in
    let l = c.loop-event in
    let events = c.as_slice-events.result.now in
    let event : Event = get_or events l.event-index none in
    let within : l.event-index < length events = omega arith in
    let next = may-next s c.args.words.now trace c.args.round.now events l.event-index l.running l.lists l.words event may c.as_slice-events.ensures l.invariant within (own_default _ _ _ within) in
    let raises : c.raise-word.new.words ≡ ids_raised l.lists (step_of s.cpus) event.worker event.cpu event.act l.words =
    c.raise-word.ensures.raised ∙ ap (λ (k : ℕ). ids_raised l.lists k event.worker event.cpu event.act l.words) c.requires.step in
    let gives : c.raise_given.new.words ≡ with_given (step_of s.cpus) c.raise-word.result c.event-reply.result c.raise-word.new.words =
    c.raise_given.ensures ∙ ap (λ (k : ℕ). with_given k c.raise-word.result c.event-reply.result c.raise-word.new.words) c.requires.step in
    more s c.args.words.now c.args.round.now.workers events l.event-index l.running c.event-reply.new.self l.lists c.event-reply.new.lists l.words c.raise-word.new.words c.raise_given.new.words event c.event-reply.result c.raise-word.result
    l.invariant within (own_default _ _ _ within) next.run.coherent next.known.cpu (omega (arith, l.auto.words, c.requires.ids.count)) raises c.raise-word.ensures.given gives
    (c.event-reply.ensures.runs s c.args.round.now.workers (length events) (take l.event-index events) next) c.event-reply.ensures.replies c.event-reply.ensures.answers c.event-reply.ensures.coherent

pub returns-clause-does : goal.returns-clause-does
returns-clause-does c =
    let (trace, may) = c.requires.may_do in
    let s = c.args.lists.now in
    let l = c.loop-event in
    let round = c.args.round.now in
    let events = c.as_slice-events.result.now in
    let all : length events ≤ l.event-index = omega arith in
    let run = has_run_all s round.workers (length events) events l.event-index l.running l.lists l.invariant.run all in
    let does = c.end.ensures.round s (length events) round (subst (λ (es : List Event). HasRun s round.workers (length events) es l.running l.lists) c.as_slice-events.ensures run) in
    ended s c.args.words.now round events l.event-index l.running l.lists l.words c.end.result c.end.new.lists c.as_slice-events.ensures l.invariant all c.requires.coherent (omega (arith, may.objects)) c.requires.objects c.requires.ids does c.end.ensures.board c.end.ensures.replies
