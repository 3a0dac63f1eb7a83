-- What comes about in a turn, one after the other.
use Rattle.std.specs.Prelude.{◌≡◌, ℕ, Bool, false, if◌then◌else◌, List, [], ◌∷◌, ◌++◌, length, slice_index_or, slice_set, Option}
use Rattle.slub_trace.specs.declared.reply.Reply.{Reply}
use Rattle.slub_core.specs.declared.step.Step.{Step}
use Rattle.slub_core.specs.declared.step.Answer.{Answer}
use Rattle.slub_core.specs.Setup.{Setup}
use Rattle.slub_core.specs.Words.{number_of, after_op, answer_of}
use Rattle.slub_core.specs.World.{LockValue}
use Rattle.slub_core.specs.Local.{Local, Change, noted}
use Rattle.slub_core.specs.Steps.{step_of, changed, settled, rested, begun}
use Rattle.slub_core.specs.Run.{System, idle, turn}
use Rattle.slub_turns.specs.Fits.{after_answer}
use Rattle.slub_turns.specs.Spots.{is_at_once}

-- `value` has the values of the locks and `local` is the worker, both as they are then
pub data Happening : Type 0 where
  -- it has begun its call, and makes its step next
  Begins : (local : Local) → Happening
  -- it makes the step that its spot calls for, and this comes back
  Steps : (value : ℕ → LockValue) (local : Local) (step : Step) (answer : Answer) → Happening
  -- where the answer leads it, and the reply that its call has by it, before it is noted
  Advances : (local : Local) (reply : Option Reply) → Happening
  -- it is at a spot at which something is done at once
  Changing : (value : ℕ → LockValue) (local : Local) → Happening
  -- that is done, and the call has this reply by it, before it is noted
  Changed : (value : ℕ → LockValue) (local : Local) (reply : Option Reply) → Happening
  -- its turn ends, after the replies that take no step; before those it had so many
  Rests : (value : ℕ → LockValue) (before : ℕ) (local : Local) → Happening

-- what is done at once where a change or an answer has led, if anything is
abbrev pub change_told : Setup → Bool → Change → List Happening
change_told m refused c =
    let l = noted c.local c.reply in
    let next = changed m refused c in
    if is_at_once l.spot
    then Changing c.value l ∷ Changed next.value next.local next.reply ∷ [] else []

-- and up to a spot that calls for a step
abbrev pub settling_told : Setup → Bool → Change → List Happening
settling_told m refused c = change_told m refused c ++ change_told m refused (changed m refused c)

-- the end of a turn
abbrev pub rest_told : Setup → Change → List Happening
rest_told m c =
    let l = noted c.local c.reply in
    Rests c.value (length l.done) (rested m l) ∷ []

-- what follows the answer to its step
abbrev pub answer_told : Setup → Bool → Change → List Happening
answer_told m refused c =
    Advances c.local c.reply ∷ settling_told m refused c ++ rest_told m (settled m refused c)

-- all that comes about once the worker has begun its call
abbrev pub step_told : Setup → Bool → System → Local → List Happening
step_told m refused s l =
    let step = step_of m s.value l in
    let x = slice_index_or s.words (number_of m step.place) 0 in
    Steps s.value l step (answer_of step.op x)
    ∷ answer_told m refused (after_answer m s l)

-- all that comes about in the turn of a worker, where memory is refused in it or not; its call is
-- no try
abbrev pub happenings_of : Setup → Bool → System → ℕ → List Happening
happenings_of m refused s worker =
    let l = begun m false (slice_index_or s.locals worker idle) in
    Begins l ∷ step_told m refused s l

-- ---- what is told is the turn

-- what these begin and end with is a turn: the worker in its call, its step on the words and what
-- comes back, and the values of the locks and the worker that the turn leaves
pub record AreOfTurn (m : Setup) (refused : Bool) (s : System) (worker : ℕ)
    (happenings : List Happening) : Type 0 where
  pub local : Local
  pub step : Step
  pub answer : Answer
  pub between : List Happening
  pub before : ℕ
  pub last : Local
  pub told : happenings
      ≡ Begins local ∷ Steps s.value local step answer ∷ between
      ++ Rests (turn m s (record { worker = worker; refused = refused; tries = false })).value
      before last ∷ []
  pub begins : local ≡ begun m false (slice_index_or s.locals worker idle)
  pub answers : answer ≡ answer_of step.op (slice_index_or s.words (number_of m step.place) 0)
  pub words : let n = number_of m step.place in
      (turn m s (record { worker = worker; refused = refused; tries = false })).words
      ≡ slice_set s.words n (after_op step.op (slice_index_or s.words n 0))
  pub locals : (turn m s (record { worker = worker; refused = refused; tries = false })).locals
      ≡ slice_set s.locals worker last

abbrev pub TurnsAreTold : Type 0
TurnsAreTold = (m : Setup) (refused : Bool) (s : System) (worker : ℕ)
    → AreOfTurn m refused s worker (happenings_of m refused s worker)
