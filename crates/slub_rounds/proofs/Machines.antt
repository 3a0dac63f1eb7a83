-- The machine of a round in words, from its begin to its end.
use Rattle.std.proofs.Common.{◌≡◌, ℕ, zero, suc, List, [], ◌∷◌, length, map, get_or, refl, sym, ap, ◌∙◌, subst, arith, All}
use Rattle.std.specs.List.{range_with_len}
use Rattle.std.proofs.lemmas.List.FromFn.{get_or-map-range_with_len}
use Rattle.slub_trace.specs.declared.event.Round.{Round}
use Rattle.slub_trace.specs.declared.trace.Trace.{Trace}
use Rattle.slub_lists.specs.State.{State}
use Rattle.slub_lists.specs.Coherent.{IsCoherent, all_on_board}
use Rattle.slub_core.specs.Setup.{Setup, node_lock}
use Rattle.slub_core.specs.World.{World}
use Rattle.slub_core.specs.Run.{System, Pick, turn, run, IsFinished}
use Rattle.slub_core.specs.Law.{IsCoherentSystem}
use Rattle.slub_core.proofs.Opens.{opens, rounds_keep}
use Rattle.slub_core.proofs.Turns.{turn_keeps}
use Rattle.slub_core.specs.Facts as local
use Rattle.slub_schedule.specs.Turns.{turns_of}
use Rattle.slub_law_opening.specs.Opening.{IsLaidDown, setup_of}
use Rattle.slub_law_opening.specs.Opening as opening
use Rattle.slub_law_opening.specs.Laws.{MayOpen}
use Rattle.slub_law_opening.specs.Closing.{MayClose, Closes}
use Rattle.slub_law_opening.proofs.BoundCloses.{machines-may_close}
use Rattle.slub_law_opening.proofs.Opens.{begins-bounded}
use Rattle.slub_calls.specs.Calls.{workers_of}
use Rattle.slub_calls.proofs.Fitting.{may_begin}
use Rattle.slub_turns.specs.Fits.{HasRooms}
use Rattle.slub_open_close.specs.declared.beside.Beside.{Beside}
use Rattle.slub_open_close.specs.declared.opened.Opened.{Opened}
use Rattle.slub_open_close.specs.declared.opened.Rest.{Rest}
use Rattle.slub_open_close.specs.Ids.{AreIds, IsStepOf}
use Rattle.slub_open_close.specs.Opened.{IsOpened, room_of}
use Rattle.slub_open_close.specs.Closing.{IsEnded, IsClosed}
use Rattle.slub_turns.specs.declared.machine.StepMachine.{StepMachine}
use Rattle.slub_turns.specs.Means.{the_means}
use Rattle.slub_turns.specs.Ready.{IsReady, MayTurn, rooms_for, room_for}
use Rattle.slub_turns.proofs.Ready.{begins_ready}
use Rattle.slub_rounds.specs.declared.answers.Answers.{Answers}
use Rattle.slub_rounds.specs.declared.ended.Ended.{Ended}
use Rattle.slub_rounds.specs.Rounds.{system_before, system_begun, world_before, IsCoherentRun, StandsBeside, SpendsTurnsBySteps}
use Rattle.slub_rounds.specs.Room.{IsTakenFor}
use Rattle.slub_rounds.specs.declared.room.Room.{Room}
use Rattle.slub_calls.specs.Laws.{MayDo}
use Rattle.slub_rounds.specs.Answers.{IsRoomFor, MayTell}
use Rattle.slub_rounds.specs.Machine.{beside_in, system_in, MayRun, IsBegun, HasEnded, HasClosed, IsSet, IsDone}
use Rattle.slub_rounds.proofs.Telling.{are-numbered, begins, may-open, may-tell}
use Rattle.slub_rounds.proofs.Weights.{begun-long}

-- ---- rooms of node lists

room-same : (s : State) (b : opening.Beside) (n : ℕ) → room_for (setup_of s b) n ≡ room_of s n
room-same s b zero = refl
room-same s b (suc cache) = refl

pub rooms-same : (s : State) (b : opening.Beside) → rooms_for (setup_of s b) ≡ map (room_of s) (range_with_len 0 33)
rooms-same s b = λ i. map (λ n. room-same s b n i) (range_with_len 0 33)

has-rooms : (s : State) (b : opening.Beside) → IsCoherent s → HasRooms (setup_of s b) (map (room_of s) (range_with_len 0 33))
has-rooms s b coherent cache plain =
    let below = plain.0 in
    let there : get_or (map (room_of s) (range_with_len 0 33)) (node_lock cache) 0 ≡ room_of s (suc cache) = get_or-map-range_with_len (room_of s) 0 33 (node_lock cache) (suc cache) 0 (omega arith) (omega arith) in
    let full : room_of s (suc cache) ≡ 4095 = rw (plain.1, plain.2) refl in
    let few = coherent.shaped.frames.1 in
    omega (arith, there, full)

-- ---- the begin

pub may-of : (s : State) (ids : List ℕ) (b : Beside) (trace : Trace) (round : Round) → MayRun s ids b trace round → MayOpen s (beside_in b)
may-of s ids b trace round may = may-open s (beside_in b) may.coherent may.laid_down may.stands.fits

pub ready-begun : (s : State) (ids : List ℕ) (b : Beside) (trace : Trace) (round : Round) (m : StepMachine) (rest : Rest) → MayRun s ids b trace round → IsBegun s b round m rest → IsReady m.setup m.table m.values.items m.locals.items
ready-begun s ids b trace round m rest may begun = record {
  may = subst (λ (p : Setup × System). MayTurn p.0 p.1) (λ i. (sym begun.setup i, sym begun.system i))
      (begins_ready begins-bounded s (beside_in b) (workers_of s.table round) opens_ (may_begin s (beside_in b) trace round opens_ may.does) (are-numbered s.table round));
  sizes = begun.sizes;
  rooms = subst (λ (p : Setup × List ℕ). HasRooms p.0 p.1) (λ i. (sym begun.setup i, sym begun.full i)) (has-rooms s (beside_in b) may.coherent);
  full = begun.full ∙ sym (rooms-same s (beside_in b)) ∙ ap rooms_for (sym begun.setup);
}
  where
    opens_ : MayOpen s (beside_in b)
    opens_ = may-of s ids b trace round may

pub begun-count : (s : State) (b : Beside) (round : Round) (m : StepMachine) (rest : Rest) → IsBegun s b round m rest → length m.locals.items ≡ round.workers
begun-count s b round m rest begun = ap (λ (y : System). length y.locals) begun.system ∙ begun-long s (beside_in b) round

pub begun-most : (s : State) (ids : List ℕ) (b : Beside) (trace : Trace) (round : Round) (m : StepMachine) (rest : Rest) → MayRun s ids b trace round → IsBegun s b round m rest → turns_of (system_begun s (beside_in b) round) ≡ turns_of (system_in m)
begun-most s ids b trace round m rest may begun = ap turns_of (sym begun.system)

-- ---- the end

after-coherent : (m : Setup) (o : World) (s : System) (picks : List Pick) → IsCoherentSystem m o s → IsCoherentSystem m o (run m s picks)
after-coherent m o s [] is = is
after-coherent m o s (pick ∷ picks) is = after-coherent m o (turn m s pick) picks (turn_keeps m o s pick is)

pub coherent-run : (s : State) (ids : List ℕ) (b : Beside) (trace : Trace) (round : Round) (picks : List Pick) → MayRun s ids b trace round → IsCoherentRun s (beside_in b) round picks
coherent-run s ids b trace round picks may =
    rounds_keep (setup_of s (beside_in b)) (system_before s (beside_in b) round) picks (begins s (beside_in b) trace round (may-of s ids b trace round may) may.does)

pub ended-closes : (s : State) (ids : List ℕ) (b : Beside) (trace : Trace) (round : Round) (m : StepMachine) (rest : Rest) (answers : Answers) → HasEnded s ids b trace round m rest answers
    → IsEnded m.setup m.table m.values.items rest m.locals.items s (beside_in b) (world_before s (beside_in b) round)
ended-closes s ids b trace round m rest answers ended =
    let d = beside_in b in
    let mm = setup_of s d in
    let opens_ = may-of s ids b trace round ended.may in
    let opening = begins s d trace round opens_ ended.may.does in
    let P : System → Type 0 = λ y. IsCoherentSystem mm (world_before s d round) y in
    let Q : System → Type 0 = λ y. MayClose s d y in
    let R : System → Type 0 = λ y. All IsFinished y.locals in
    record {
      setup = ended.setup;
      may_open = opens_;
      sizes = record {
        frames = sym (ap (λ (x : Setup). x.frames) ended.setup) ∙ ended.sizes.frames;
        objects = sym (ap (λ (x : Setup). x.objects) ended.setup) ∙ ended.sizes.objects;
      };
      waiting = ended.waiting;
      rooms = ended.full;
      coherent = subst P (sym ended.run) (after-coherent mm (world_before s d round) (system_begun s d round) ended.picks (opens mm (system_before s d round) opening));
      may_close = subst Q (sym ended.run)
          (machines-may_close s d (workers_of s.table round) ended.picks opens_ (may_begin s d trace round opens_ ended.may.does) (are-numbered s.table round) (subst R ended.run ended.finished));
    }

pub ended-tells : (s : State) (ids : List ℕ) (b : Beside) (trace : Trace) (round : Round) (m : StepMachine) (rest : Rest) (answers : Answers) (t : State) (d : opening.Beside) → HasEnded s ids b trace round m rest answers
    → IsClosed s (beside_in b) (system_in m) t d → MayTell s t round m.locals.items answers
ended-tells s ids b trace round m rest answers t d ended closed =
    let P : System → Type 0 = λ y. Closes s (beside_in b) y t d in
    let R : System → Type 0 = λ y. All IsFinished y.locals in
    let T : System → Type 0 = λ y. MayTell s t round y.locals answers in
    subst T (sym ended.run) (may-tell s t (beside_in b) d trace round ended.picks answers (may-of s ids b trace round ended.may) ended.may.does (subst R ended.run ended.finished) (subst P ended.run closed.closes) closed.coherent ended.room)

-- ---- the whole

pub has-ended : (s : State) (ids : List ℕ) (b : Beside) (trace : Trace) (round : Round) (m n : StepMachine) (rest : Rest) (answers : Answers) (picks : List Pick) → MayRun s ids b trace round → IsBegun s b round m rest
    → local.setup_of n.setup the_means ≡ local.setup_of m.setup the_means → IsReady n.setup n.table n.values.items n.locals.items → system_in n ≡ run (local.setup_of m.setup the_means) (system_in m) picks → All IsFinished n.locals.items
    → IsRoomFor s (length round.events) round.workers answers → HasEnded s ids b trace round n rest answers
has-ended s ids b trace round m n rest answers picks may begun kept ready ran finished room = record {
  may = may;
  setup = kept ∙ begun.setup;
  sizes = ready.sizes;
  picks = picks;
  run = ran ∙ (λ i. run (begun.setup i) (begun.system i) picks);
  finished = finished;
  full = ready.full ∙ ap rooms_for (kept ∙ begun.setup) ∙ rooms-same s (beside_in b);
  waiting = begun.waiting;
  room = room;
}

-- the ids that a machine closes into fit the lists
pub ids-left : (s t : State) (ids : List ℕ) (b d : opening.Beside) (system : System) → StandsBeside s ids b → IsClosed s b system t d → AreIds (all_on_board t) d.tids
ids-left s t ids b d system stands closed =
    let fits = closed.again.beside in
    let step : d.step ≡ b.step = ap (λ (m : Setup). m.step) closed.closes.stays in
    let cpus : t.cpus ≡ s.cpus = ap (λ (m : Setup). m.cpus) closed.closes.stays in
    let P : ℕ × ℕ → Type 0 = λ p. IsStepOf p.0 p.1 in
    record {
      step = d.step;
      least = subst P (λ i. (sym cpus i, sym step i)) stands.step;
      count = fits.tids;
      below = fits.tid;
      room = fits.room;
      remainder = fits.remainder;
    }

-- by picks of whichever kind
pub is-done : (Ending : Setup → System → List Pick → System → Type 0) (s : State) (ids : List ℕ) (b : Beside) (trace : Trace) (round : Round) (m n : StepMachine) (rest : Rest) (picks : List Pick) (done : Ended)
    → MayRun s ids b trace round → IsBegun s b round m rest
    → Ending (local.setup_of m.setup the_means) (system_in m) picks (system_in n) → HasClosed s (beside_in b) round (system_in n) done → IsDone Ending s ids round done
is-done Ending s ids b trace round m n rest picks done may begun ends closed = record {
  does = record {
    beside = beside_in b;
    stands = may.stands;
    means = refl;
    picks = picks;
    last = system_in n;
    coherent = coherent-run s ids b trace round picks may;
    ends = subst (λ (p : Setup × System). Ending p.0 p.1 picks (system_in n)) (λ i. (begun.setup i, begun.system i)) ends;
    lists = closed.lists;
    left = closed.left;
    closes = closed.closes;
    words = closed.words;
    after_is = closed.after_is;
    ids_are = closed.ids_are;
    replies = closed.told.replies;
    damages = closed.told.damages;
    ledgers = closed.told.ledgers;
  };
  coherent = closed.coherent;
  laid_down = closed.laid_down;
  fit = closed.fit;
}

pub is-spent : (Spending : Setup → System → List Pick → System → Type 0) (s : State) (ids : List ℕ) (b : Beside) (trace : Trace) (round : Round) (m n : StepMachine) (rest : Rest) (picks : List Pick) → MayRun s ids b trace round → IsBegun s b round m rest
    → Spending (local.setup_of m.setup the_means) (system_in m) picks (system_in n) → SpendsTurnsBySteps Spending s ids round
is-spent Spending s ids b trace round m n rest picks may begun spent = record {
  beside = beside_in b;
  stands = may.stands;
  means = refl;
  picks = picks;
  last = system_in n;
  coherent = coherent-run s ids b trace round picks may;
  spent = subst (λ (p : Setup × System). Spending p.0 p.1 picks (system_in n)) (λ i. (begun.setup i, begun.system i)) spent;
}

-- the memory was taken, and the machine was opened
pub is-set : (s : State) (ids : List ℕ) (trace : Trace) (round : Round) (room : Room) (opened : Opened) → IsCoherent s → IsLaidDown s → MayDo s trace round → IsTakenFor s ids round room → IsOpened s room.beside opened
    → IsSet s ids room.beside trace round opened room.workers.items room.answers
is-set s ids trace round room opened coherent laid does taken opens = record {
  may = record { coherent = coherent; laid_down = laid; beside = taken.beside; stands = taken.stands the_means; does = does };
  opens = opens;
  workers = taken.workers;
  room = taken.answers;
}
