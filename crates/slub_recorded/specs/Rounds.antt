-- How what a trace does is cut into rounds, and which worker does it.
use Rattle.std.specs.Prelude.{◌≡◌, ℕ, ◌+◌, ◌-◌, ◌*◌, ◌/◌, ◌==◌, Bool, true, false, not, ◌&&◌, ◌⊎◌, nat_eq, nat_lt, List, [], ◌∷◌, ◌++◌, length, Option, None, Some, unwrap_or, if◌then◌else◌, ⊤}
use Rattle.std.specs.Map.{lookup}
use Rattle.indexmap.specs.IndexMap.{insert_entry}
use Rattle.slub_recorded.specs.declared.convert.Options.{Options}
use Rattle.slub_recorded.specs.declared.rounds.Plan.{Plan}
use Rattle.slub_recorded.specs.declared.rounds.Step.{Step}
use Rattle.slub_recorded.specs.declared.rounds.Step.TheVariants.{Does, Cut}
use Rattle.slub_recorded.specs.declared.rounds.Workers.{Workers}
use Rattle.slub_recorded.specs.declared.rounds.Workers.TheVariants.{One, Cpus}
use Rattle.slub_recorded.specs.declared.turns.Turn.{Turn}
use Rattle.slub_recorded.specs.declared.turns.Turn.TheVariants.{Alloc, Free}

-- ---- workers

-- the worker of a CPU
abbrev pub worker_of : Workers → ℕ → ℕ
worker_of One cpu = 0
worker_of Cpus cpu = cpu

-- the workers of each round, on so many CPUs
abbrev pub count_workers : Workers → ℕ → ℕ
count_workers One cpus = 1
count_workers Cpus cpus = cpus

-- the CPU of a turn
abbrev pub cpu_of : Turn → ℕ
cpu_of (Alloc cpu cache object) = cpu
cpu_of (Free cpu object) = cpu

-- by object that was allocated in this round: the worker that holds it
abbrev pub Holders : Type 0
Holders = List (ℕ × ℕ)

-- who does a turn: the worker of its CPU, but for a free of what another one holds, which only that
-- one can free
abbrev pub doer : Workers → Holders → Turn → ℕ
doer workers holders (Alloc cpu cache object) = worker_of workers cpu
doer workers holders (Free cpu object) =
    unwrap_or (lookup (nat_eq object) holders) (worker_of workers cpu)

-- who holds what behind a turn
abbrev pub holders_behind : Workers → Holders → Turn → Holders
holders_behind workers holders (Alloc cpu cache object) =
    insert_entry nat_eq holders object (worker_of workers cpu)
holders_behind workers holders (Free cpu object) = holders

-- the turn is no other worker's than that of its CPU
abbrev pub is_own : Workers → Holders → Turn → Bool
is_own workers holders turn = doer workers holders turn == worker_of workers (cpu_of turn)

-- ---- where rounds begin

-- the part that the turn at a place is in: parts are as equal as can be
abbrev pub part_of : Plan → ℕ → ℕ
part_of plan place = if plan.turns == 0 then 0 else place * plan.parts / plan.turns

-- a part begins there
abbrev pub is_due : Plan → ℕ → Bool
is_due plan place =
    not (place == 0) && nat_lt (part_of plan (place - 1)) (part_of plan place)

-- how many parts begin behind it
abbrev pub still_due : Plan → ℕ → ℕ
still_due plan place = plan.parts - 1 - part_of plan place

-- whether a round begins before a turn, where so many may: where a part does, with slabinfo before
-- it; and at a free of what another worker holds, where rounds are left for all parts
abbrev pub cut_at : Plan → ℕ → ℕ → Holders → Turn → Option Bool
cut_at plan place left holders turn =
    if nat_lt 0 left && is_due plan place then Some true
    else (if not (is_own plan.workers holders turn) && nat_lt (still_due plan place) left
    then Some false else None)

-- how many rounds may begin behind that
abbrev pub left_behind : Option Bool → ℕ → ℕ
left_behind None left = left
left_behind (Some slabinfo) left = left - 1

-- what ended rounds allocated any worker can free
abbrev pub holders_in : Option Bool → Holders → Holders
holders_in None holders = holders
holders_in (Some slabinfo) holders = []

-- the end of a round
abbrev pub cuts_of : Option Bool → List Step
cuts_of None = []
cuts_of (Some slabinfo) = Cut slabinfo ∷ []

-- ---- all steps

-- a turn, and the round that begins before it
abbrev pub steps_by : Plan → Option Bool → Holders → Turn → List Step
steps_by plan cut holders turn =
    cuts_of cut ++ Does (doer plan.workers (holders_in cut holders) turn) turn ∷ []

-- from the turn at a place on
unfoldable pub steps_from : Plan → ℕ → ℕ → Holders → List Turn → List Step
steps_from plan place left holders [] = []
steps_from plan place left holders (turn ∷ turns) =
    let cut = cut_at plan place left holders turn in
    steps_by plan cut holders turn
    ++ steps_from plan (place + 1) (left_behind cut left)
    (holders_behind plan.workers (holders_in cut holders) turn) turns

-- in so many parts
abbrev pub plan_of : Options → List Turn → Plan
plan_of options turns =
    record { workers = options.workers; parts = options.parts; turns = length turns }

-- of all turns: a trace has 256 rounds, so that 255 may begin behind the first
abbrev pub steps_of : Options → List Turn → List Step
steps_of options turns = steps_from (plan_of options turns) 0 255 [] turns

-- ---- what holds of them

-- what is done, without rounds and workers
abbrev pub turns_in : List Step → List Turn
turns_in [] = []
turns_in (Does worker turn ∷ steps) = turn ∷ turns_in steps
turns_in (Cut slabinfo ∷ steps) = turns_in steps

-- a free is no other worker's than the one that holds the object, where one does
abbrev pub IsFreeOf : Holders → ℕ → Turn → Type 0
IsFreeOf holders worker (Alloc cpu cache object) = ⊤
IsFreeOf holders worker (Free cpu object) =
    (lookup (nat_eq object) holders ≡ None) ⊎ (lookup (nat_eq object) holders ≡ Some worker)

-- who holds what behind a turn of a worker
abbrev pub held_behind : Holders → ℕ → Turn → Holders
held_behind holders worker (Alloc cpu cache object) = insert_entry nat_eq holders object worker
held_behind holders worker (Free cpu object) = holders

-- so is each free: of an object that its worker allocated in the same round, or of an earlier round's
abbrev pub AreHeld : Holders → List Step → Type 0
AreHeld holders [] = ⊤
AreHeld holders (Does worker turn ∷ steps) =
    IsFreeOf holders worker turn × AreHeld (held_behind holders worker turn) steps
AreHeld holders (Cut slabinfo ∷ steps) = AreHeld [] steps
