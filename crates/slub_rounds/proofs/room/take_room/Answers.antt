use Rattle.std.proofs.Common.{◌≡◌, List, ap, sym, subst, ◌∙◌, length, arith}
use Rattle.slub_trace.specs.declared.event.Event.{Event}
use Rattle.slub_cache_create.specs.Table.{Table}
use Rattle.slub_calls.specs.Calls.{workers_of}
use Rattle.slub_schedule.specs.Turns.{turns_for}
use Rattle.slub_open_close.specs.Beside.{first_links}
use Rattle.slub_open_close.specs.Ids.{IsStepOf}
use Rattle.slub_rounds.specs.Answers.{IsRoomFor}
use Rattle.slub_rounds.specs.Room.{weight_of}
use Rattle.slub_rounds.proofs.room.take_room.Goals as goal

pub returns : goal.returns
returns c =
    let s = c.args.lists.now in
    let few = (c.requires.may_do).1 in
    let b = c.in_ok-beside.beside in
    let frames : c.frames.result ≡ s.frames = c.frames.ensures in
    let cpus : c.cpus.result ≡ s.cpus = c.cpus.ensures in
    let events : c.as_slice-events.result.now ≡ c.args.round.now.events = c.as_slice-events.ensures in
    let fits = c.in_ok-beside.ensures.fits s c.requires.coherent (sym frames) (sym cpus) (omega (arith, few.objects)) c.requires.objects c.requires.ids in
    record {
      beside = fits;
      stands = λ means. record {
        fits = c.besides_fit.ensures s b means fits;
        tids = c.in_ok-beside.ensures.tids;
        links = c.in_ok-beside.ensures.links ∙ ap first_links frames;
        step = subst (λ n. IsStepOf n b.step) cpus c.in_ok-beside.ensures.step;
      };
      workers = c.in_ok-workers.ensures ∙ ap (λ (t : Table). workers_of t c.args.round.now) c.caches.ensures;
      order = c.in_ok-order.ensures;
      passed = c.in_ok-passed.ensures;
      turns = c.turns_for-turns.ensures ∙ ap (λ n. turns_for n c.args.round.now.workers) (c.weight_of.ensures.weight ∙ ap (λ (es : List Event). weight_of es) events);
      answers = subst (λ (es : List Event). IsRoomFor s (length es) c.args.round.now.workers c.in_ok-answers.answers) events c.in_ok-answers.ensures;
    }

pub workers-requires-clause-few : goal.workers-requires-clause-few
workers-requires-clause-few c = let few = (c.requires.may_do).1.sound.workers.1 in omega (arith, few)
