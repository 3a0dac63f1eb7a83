-- What stands in the rounds of a trace: all turns, each by a worker that may do it, in 256 rounds at most.
use Rattle.std.proofs.Common.{◌≡◌, ℕ, ◌+◌, ◌<◌, ◌≤◌, Bool, true, false, not, cond, ◌&&◌, ◌⊎◌, nat_eq, nat_lt, List, [], ◌∷◌, ◌++◌, refl, ap, ◌∙◌, inl, inr, Option, None, Some, arith}
use Rattle.std.specs.Prelude.{unwrap_or, if◌then◌else◌}
use Rattle.std.specs.Map.{lookup}
use Rattle.std.proofs.lemmas.Bool.{ltb-true}
use Rattle.indexmap.specs.IndexMap.{insert_entry}
use Rattle.slub_recorded.specs.declared.convert.Options.{Options}
use Rattle.slub_recorded.specs.declared.rounds.Plan.{Plan}
use Rattle.slub_recorded.specs.declared.rounds.Step.{Step}
use Rattle.slub_recorded.specs.declared.rounds.Step.TheVariants.{Does}
use Rattle.slub_recorded.specs.declared.rounds.Workers.{Workers}
use Rattle.slub_recorded.specs.declared.rounds.Workers.TheVariants.{One, Cpus}
use Rattle.slub_recorded.specs.declared.text.Row.{Row}
use Rattle.slub_recorded.specs.declared.turns.Turn.{Turn}
use Rattle.slub_recorded.specs.declared.turns.Turn.TheVariants.{Alloc, Free}
use Rattle.slub_recorded.specs.Rounds.{AreHeld, Holders, count_workers, cpu_of, cut_at, cuts_of, doer, holders_behind, holders_in, is_due, is_own, left_behind, steps_from, steps_of, still_due, turns_in, worker_of}
use Rattle.slub_recorded.proofs.Lines.{AreSteps, AreTurns, IsTurn, count_cuts}

-- ---- one turn, whatever round begins before it

turns_step : (cut : Option Bool) (worker : ℕ) (turn : Turn) (rest : List Step) → turns_in ((cuts_of cut ++ Does worker turn ∷ []) ++ rest) ≡ turn ∷ turns_in rest
turns_step None worker turn rest = refl
turns_step (Some slabinfo) worker turn rest = refl

free_of : (r : Option ℕ) (own : ℕ) → (r ≡ None) ⊎ (r ≡ Some (unwrap_or r own))
free_of None own = inl refl
free_of (Some worker) own = inr refl

one_held : (workers : Workers) (holders : Holders) (turn : Turn) (rest : List Step) → AreHeld (holders_behind workers holders turn) rest → AreHeld holders (Does (doer workers holders turn) turn ∷ rest)
one_held workers holders (Alloc cpu cache object) rest held = (tt, held)
one_held workers holders (Free cpu object) rest held = (free_of (lookup (nat_eq object) holders) (worker_of workers cpu), held)

held_step : (workers : Workers) (cut : Option Bool) (holders : Holders) (turn : Turn) (rest : List Step) → AreHeld (holders_behind workers (holders_in cut holders) turn) rest
    → AreHeld holders ((cuts_of cut ++ Does (doer workers (holders_in cut holders) turn) turn ∷ []) ++ rest)
held_step workers None holders turn rest held = one_held workers holders turn rest held
held_step workers (Some slabinfo) holders turn rest held = one_held workers [] turn rest held

cuts_step : (cut : Option Bool) (left worker : ℕ) (turn : Turn) (rest : List Step) → ((slabinfo : Bool) → cut ≡ Some slabinfo → 1 ≤ left) → count_cuts rest ≤ left_behind cut left
    → count_cuts ((cuts_of cut ++ Does worker turn ∷ []) ++ rest) ≤ left
cuts_step None left worker turn rest room few = few
cuts_step (Some slabinfo) left worker turn rest room few = let some : 1 ≤ left = room slabinfo refl in omega (arith, few, some)

fit_step : (cpus : ℕ) (rows : List Row) (workers : ℕ) (cut : Option Bool) (worker : ℕ) (turn : Turn) (rest : List Step) → worker < workers → IsTurn cpus rows turn → AreSteps cpus rows workers rest
    → AreSteps cpus rows workers ((cuts_of cut ++ Does worker turn ∷ []) ++ rest)
fit_step cpus rows workers None worker turn rest low is are = (low, is, are)
fit_step cpus rows workers (Some slabinfo) worker turn rest low is are = (low, is, are)

-- ---- where a round begins

room_by : (left : ℕ) (x p q r s : Bool) → (p ≡ true → 1 ≤ left) → (s ≡ true → 1 ≤ left) → (if p && q then Some true else (if r && s then Some false else None)) ≡ Some x → 1 ≤ left
room_by left x true q r s first second is = first refl
room_by left x false q true true first second is = second refl
room_by left x false q true false first second is = absurd cc
room_by left x false q false s first second is = absurd cc

-- only where one may
room : (plan : Plan) (place left : ℕ) (holders : Holders) (turn : Turn) (x : Bool) → cut_at plan place left holders turn ≡ Some x → 1 ≤ left
room plan place left holders turn x is =
    room_by left x (nat_lt 0 left) (is_due plan place) (not (is_own plan.workers holders turn)) (nat_lt (still_due plan place) left)
    (λ t. let low : 0 < left = ltb-true 0 left t in omega (arith, low)) (λ t. let low : still_due plan place < left = ltb-true (still_due plan place) left t in omega (arith, low)) is

-- ---- who holds what

-- each holder is one of so many workers
Below : ℕ → Holders → Type 0
Below workers [] = Unit {0}
Below workers (e ∷ es) = (e.1 < workers) × Below workers es

put_by : (workers : ℕ) (e : ℕ × ℕ) (es : Holders) (object worker : ℕ) → worker < workers → Below workers (e ∷ es) → Below workers (insert_entry nat_eq es object worker) → (b : Bool)
    → Below workers (if b then (e.0, worker) ∷ es else e ∷ insert_entry nat_eq es object worker)
unfolding Below
put_by workers e es object worker low below rest true = (low, below.1)
put_by workers e es object worker low below rest false = (below.0, rest)

put_below : (workers : ℕ) (es : Holders) (object worker : ℕ) → worker < workers → Below workers es → Below workers (insert_entry nat_eq es object worker)
unfolding Below
put_below workers [] object worker low below = (low, tt)
put_below workers (e ∷ es) object worker low below = put_by workers e es object worker low below (put_below workers es object worker low below.1) (nat_eq object e.0)

found_by : (workers own w : ℕ) (rest : Option ℕ) → w < workers → unwrap_or rest own < workers → (b : Bool) → unwrap_or (cond b (Some w) rest) own < workers
found_by workers own w rest low other true = low
found_by workers own w rest low other false = other

found_below : (workers : ℕ) (es : Holders) (object own : ℕ) → own < workers → Below workers es → unwrap_or (lookup (nat_eq object) es) own < workers
unfolding Below
found_below workers [] object own low below = low
found_below workers (e ∷ es) object own low below = found_by workers own e.1 (lookup (nat_eq object) es) below.0 (found_below workers es object own low below.1) (nat_eq object e.0)

own_below : (workers : Workers) (cpus cpu : ℕ) → cpu < cpus → worker_of workers cpu < count_workers workers cpus
own_below One cpus cpu low = omega arith
own_below Cpus cpus cpu low = low

cpu_below : (cpus : ℕ) (rows : List Row) (turn : Turn) → IsTurn cpus rows turn → cpu_of turn < cpus
cpu_below cpus rows (Alloc cpu cache object) is = is.0
cpu_below cpus rows (Free cpu object) is = is.0

doer_below : (workers : Workers) (cpus : ℕ) (rows : List Row) (holders : Holders) (turn : Turn) → IsTurn cpus rows turn → Below (count_workers workers cpus) holders → doer workers holders turn < count_workers workers cpus
doer_below workers cpus rows holders (Alloc cpu cache object) is below = own_below workers cpus cpu is.0
doer_below workers cpus rows holders (Free cpu object) is below = found_below (count_workers workers cpus) holders object (worker_of workers cpu) (own_below workers cpus cpu is.0) below

behind_below : (workers : Workers) (cpus : ℕ) (rows : List Row) (holders : Holders) (turn : Turn) → IsTurn cpus rows turn → Below (count_workers workers cpus) holders → Below (count_workers workers cpus) (holders_behind workers holders turn)
behind_below workers cpus rows holders (Alloc cpu cache object) is below = put_below (count_workers workers cpus) holders object (worker_of workers cpu) (own_below workers cpus cpu is.0) below
behind_below workers cpus rows holders (Free cpu object) is below = below

in_below : (workers : ℕ) (cut : Option Bool) (holders : Holders) → Below workers holders → Below workers (holders_in cut holders)
unfolding Below
in_below workers None holders below = below
in_below workers (Some slabinfo) holders below = tt

-- ---- all turns

-- they stand there in their order
turns_from : (plan : Plan) (turns : List Turn) (place left : ℕ) (holders : Holders) → turns_in (steps_from plan place left holders turns) ≡ turns
unfolding steps_from
turns_from plan [] place left holders = refl
turns_from plan (turn ∷ turns) place left holders =
    let cut : Option Bool = cut_at plan place left holders turn in
    turns_step cut _ turn _ ∙ ap (λ ts. turn ∷ ts) (turns_from plan turns (place + 1) (left_behind cut left) (holders_behind plan.workers (holders_in cut holders) turn))

-- each free is of the worker that holds its object
held_from : (plan : Plan) (turns : List Turn) (place left : ℕ) (holders : Holders) → AreHeld holders (steps_from plan place left holders turns)
unfolding steps_from
held_from plan [] place left holders = tt
held_from plan (turn ∷ turns) place left holders =
    let cut : Option Bool = cut_at plan place left holders turn in
    held_step plan.workers cut holders turn _ (held_from plan turns (place + 1) (left_behind cut left) (holders_behind plan.workers (holders_in cut holders) turn))

-- no more rounds begin than may
cuts_from : (plan : Plan) (turns : List Turn) (place left : ℕ) (holders : Holders) → count_cuts (steps_from plan place left holders turns) ≤ left
unfolding steps_from
cuts_from plan [] place left holders = omega arith
cuts_from plan (turn ∷ turns) place left holders =
    let cut : Option Bool = cut_at plan place left holders turn in
    cuts_step cut left _ turn _ (room plan place left holders turn) (cuts_from plan turns (place + 1) (left_behind cut left) (holders_behind plan.workers (holders_in cut holders) turn))

-- numbers are in their ranges
fit_from : (cpus : ℕ) (rows : List Row) (plan : Plan) (turns : List Turn) (place left : ℕ) (holders : Holders) → AreTurns cpus rows turns → Below (count_workers plan.workers cpus) holders
    → AreSteps cpus rows (count_workers plan.workers cpus) (steps_from plan place left holders turns)
unfolding steps_from
fit_from cpus rows plan [] place left holders are below = tt
fit_from cpus rows plan (turn ∷ turns) place left holders are below =
    let cut : Option Bool = cut_at plan place left holders turn in
    let inside : Below (count_workers plan.workers cpus) (holders_in cut holders) = in_below (count_workers plan.workers cpus) cut holders below in
    fit_step cpus rows (count_workers plan.workers cpus) cut _ turn _ (doer_below plan.workers cpus rows (holders_in cut holders) turn are.0 inside) are.0
    (fit_from cpus rows plan turns (place + 1) (left_behind cut left) (holders_behind plan.workers (holders_in cut holders) turn) are.1 (behind_below plan.workers cpus rows (holders_in cut holders) turn are.0 inside))

-- ---- of a trace

pub all_turns : (options : Options) (turns : List Turn) → turns_in (steps_of options turns) ≡ turns
all_turns options turns = turns_from _ turns 0 255 []

pub all_held : (options : Options) (turns : List Turn) → AreHeld [] (steps_of options turns)
all_held options turns = held_from _ turns 0 255 []

pub few_cuts : (options : Options) (turns : List Turn) → count_cuts (steps_of options turns) ≤ 255
few_cuts options turns = cuts_from _ turns 0 255 []

pub steps_fit : (cpus : ℕ) (rows : List Row) (options : Options) (turns : List Turn) → AreTurns cpus rows turns → AreSteps cpus rows (count_workers options.workers cpus) (steps_of options turns)
unfolding Below
steps_fit cpus rows options turns are = fit_from cpus rows _ turns 0 255 [] are tt

pub some_workers : (workers : Workers) (cpus : ℕ) → 1 ≤ cpus → 1 ≤ count_workers workers cpus
some_workers One cpus some = omega arith
some_workers Cpus cpus some = some

pub few_workers : (workers : Workers) (cpus : ℕ) → cpus ≤ 16 → count_workers workers cpus ≤ 16
few_workers One cpus few = omega arith
few_workers Cpus cpus few = few
