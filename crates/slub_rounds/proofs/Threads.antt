-- A round by threads: how it begins and ends, and that it is lawful.
use Rattle.std.proofs.Common.{◌≡◌, ℕ, ◌-◌, Bool, false, List, [], ◌∷◌, ◌++◌, length, replicate, get_or, refl, sym, ap, ◌∙◌, subst, All, Option, None, Some, arith}
use Rattle.std.proofs.lemmas.List.Elements.{All-map}
use Rattle.std.specs.List.{range_with_len}
use Rattle.slub_trace.specs.declared.event.Round.{Round}
use Rattle.slub_trace.specs.declared.trace.Trace.{Trace}
use Rattle.slub_trace.specs.declared.reply.Reply.{Reply}
use Rattle.slub_lists.specs.State.{State}
use Rattle.slub_lists.specs.Coherent.{IsCoherent}
use Rattle.slub_core.specs.declared.call.Call.{Call}
use Rattle.slub_core.specs.declared.spot.Spot.{Spot}
use Rattle.slub_core.specs.declared.spot.Spot.TheVariants.{Between}
use Rattle.slub_core.specs.Setup.{Setup}
use Rattle.slub_core.specs.Local.{Local, answered}
use Rattle.slub_core.specs.Run.{System, IsFinished}
use Rattle.slub_core.specs.Steps.{or_step, rested, rested_at, rested_with}
use Rattle.slub_core.specs.Facts as local
use Rattle.slub_core.specs.Facts.{Facts}
use Rattle.slub_core.specs.Values.{rooms_of, values_of}
use Rattle.slub_law_opening.specs.Opening.{IsLaidDown, setup_of}
use Rattle.slub_calls.specs.Calls.{worker_of, workers_of}
use Rattle.slub_calls.specs.Laws.{MayDo}
use Rattle.slub_open_close.specs.declared.beside.Beside.{Beside}
use Rattle.slub_open_close.specs.declared.opened.Opened.{Opened}
use Rattle.slub_open_close.specs.declared.opened.Rest.{Rest}
use Rattle.slub_open_close.specs.Opened.{IsOpened}
use Rattle.slub_open_close.specs.Rest.{IsRestOf, IsUntouched}
use Rattle.slub_turns.specs.declared.machine.StepMachine.{StepMachine}
use Rattle.slub_turns.specs.Means.{the_means}
use Rattle.slub_words.specs.Stored.{AreStored}
use Rattle.slub_schedule.specs.Table.{WordTable}
use Rattle.slub_workers.specs.Round.{HasClosed, IsUnchanged, MayWork, begun_by}
use Rattle.slub_rounds.specs.declared.answers.Answers.{Answers}
use Rattle.slub_rounds.specs.declared.room.Room.{Room}
use Rattle.slub_rounds.specs.Answers.{IsRoomFor}
use Rattle.slub_rounds.specs.Room.{IsTakenFor}
use Rattle.slub_rounds.specs.Machine.{HasEnded, IsBegun, IsSetForThreads, MayRun, WasKept, beside_in, system_in}
use Rattle.slub_rounds.specs.Rounds.{Finishes}
use Rattle.slub_rounds.proofs.Machines.{begun-count, has-ended, is-set, ready-begun}

-- ---- the begin

or-between : (l : Local) (more : Reply → Local) (told : Option Reply) → l.spot ≡ Between → ((reply : Reply) → (more reply).spot ≡ Between) → (or_step l more told).spot ≡ Between
or-between l more None is next = is
or-between l more (Some reply) is next = next reply

-- replies that take no step leave a worker between two calls
with-between : (m : Setup) (calls : List Call) (l : Local) → l.spot ≡ Between → (rested_with m calls l).spot ≡ Between
with-between m [] l is = is
with-between m (call ∷ calls) l is = or-between l (λ reply. rested_with m calls (answered l reply)) _ is (λ reply. with-between m calls (answered l reply) is)

rested-between : (m : Setup) (l : Local) (spot : Spot) → l.spot ≡ Between → (rested_at m l spot).spot ≡ Between
rested-between m l Between is = with-between m l.todo l is
rested-between m l _ is = is

pub all-between : (s : State) (b : Beside) (round : Round) (m : StepMachine) (rest : Rest) → IsBegun s b round m rest → All (λ (l : Local). l.spot ≡ Between) m.locals.items
all-between s b round m rest begun =
    let first = setup_of s (beside_in b) in
    let ws = range_with_len 0 round.workers in
    let each : All (λ (w : ℕ). (rested first (worker_of s.table round w)).spot ≡ Between) ws = λ k d below. rested-between first (worker_of s.table round (get_or ws k d)) Between refl in
    subst (λ (ls : List Local). All (λ (l : Local). l.spot ≡ Between) ls) (sym (ap (λ (y : System). y.locals) begun.system))
    (All-map (λ (l : Local). l.spot ≡ Between) (rested first) (workers_of s.table round) (All-map (λ (l : Local). (rested first l).spot ≡ Between) (worker_of s.table round) ws each))

pub may-work : (s : State) (ids : List ℕ) (b : Beside) (trace : Trace) (round : Round) (m : StepMachine) (rest : Rest) → MayRun s ids b trace round → IsBegun s b round m rest → MayWork m
may-work s ids b trace round m rest may begun = record {
  ready = ready-begun s ids b trace round m rest may begun;
  between = all-between s b round m rest begun;
  workers = (let few = may.does.sound.workers.1 in omega (arith, begun-count s b round m rest begun, few));
}

-- its sizes are those of what waits
pub sizes-are : (s : State) (b : Beside) (round : Round) (m : StepMachine) (rest : Rest) → IsBegun s b round m rest → (rest.frames ≡ m.table.frames) × (length rest.board.items ≡ m.table.objects)
sizes-are s b round m rest begun = (
  begun.waiting.frames ∙ sym (ap (λ (x : Setup). x.frames) begun.setup) ∙ begun.sizes.frames,
  begun.waiting.board ∙ sym (ap (λ (x : Setup). x.objects) begun.setup) ∙ begun.sizes.objects,
)

-- ---- the end

-- the table was closed into a machine, no call was a try, and each worker is finished
module _ (s : State) (ids : List ℕ) (b : Beside) (trace : Trace) (round : Round) (m n : StepMachine) (rest : Rest) (may : MayRun s ids b trace round) (begun : IsBegun s b round m rest) (tried : Bool) (shut : HasClosed (begun_by m) tried (begun_by n)) (none : tried ≡ false)
    (done : All IsFinished n.locals.items) where
  pub has-worked : (answers : Answers) → IsRoomFor s (length round.events) round.workers answers → HasEnded s ids b trace round n rest answers
  has-worked answers room =
      has-ended s ids b trace round m n rest answers shut.picks may begun (ap (λ (f : Facts). local.setup_of f the_means) shut.facts) shut.ready shut.ran done room

  pub finishes : Finishes (local.setup_of m.setup the_means) (system_in m) shut.picks (system_in n)
  finishes = record { calls = shut.calls none; run = shut.ran; finished = done }

-- ---- the whole

-- the memory was taken, and the lists were opened
pub set-for : (s : State) (ids : List ℕ) (trace : Trace) (round : Round) (room : Room) (now : State) (opened : Opened) (kept : List ℕ) → IsCoherent s → IsLaidDown s → MayDo s trace round → IsTakenFor s ids round room
    → now ≡ s → IsOpened now room.beside opened → IsUntouched now opened.rest → AreStored kept s.memory → IsSetForThreads s ids room.beside trace round opened room.workers.items kept room.answers
set-for s ids trace round room now opened kept coherent laid does taken same opens still are = record {
  set = is-set s ids trace round room opened coherent laid does taken (subst (λ (t : State). IsOpened t room.beside opened) same opens);
  still = subst (λ (t : State). IsUntouched t opened.rest) same still;
  kept_are = are;
}

-- ---- want of memory

-- the machine is opened as it was
pub was-kept : (s : State) (ids : List ℕ) (b : Beside) (trace : Trace) (round : Round) (opened : Opened) (locals : List Local) (kept : List ℕ) (answers : Answers) (m now : StepMachine) (rest : Rest) → IsSetForThreads s ids b trace round opened locals kept answers
    → IsBegun s b round m rest → m.values.items ≡ opened.values.items → rest ≡ opened.rest → IsUnchanged m now → WasKept s now rest kept
was-kept s ids b trace round opened locals kept answers m now rest set begun same is unchanged =
    let guards = unchanged.values ∙ same in
    let frames = (sizes-are s b round m rest begun).0 in
    let waiting = begun.waiting.frames in
    let table = ap (λ (t : WordTable). t.frames) unchanged.table in
    let words = set.set.may.coherent.shaped.memory in
    record {
      opened = record {
        coherent = set.set.may.coherent;
        values = ap values_of guards ∙ set.set.opens.values;
        rooms = ap rooms_of guards ∙ set.set.opens.rooms;
        waiting = subst (IsRestOf s) (sym is) set.set.opens.rest;
        still = subst (IsUntouched s) (sym is) set.still;
        memory_is = refl;
      };
      frames = omega (arith, words, frames, waiting, table);
      kept_are = set.kept_are;
    }

-- and the words that were kept are those that its frames had
pub kept-again : (kept memory now : List ℕ) → AreStored kept memory → AreStored kept now → length now ≡ length memory → now ≡ memory
kept-again kept memory now are again long = sym again.words ∙ ap (λ (n : ℕ). kept ++ replicate (n - length kept) 0) long ∙ are.words
