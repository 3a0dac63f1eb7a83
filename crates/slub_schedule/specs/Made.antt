-- A round by turns that anything may choose: what each turn is, and how a machine comes from its
-- first state to its last. A machine may have more than its words and its workers, as the numbers
-- that a seed draws: `chooses` says how it comes by whose turn is next, and `notes` what a turn
-- leaves of the rest.
use Rattle.std.specs.Prelude.{◌≡◌, ℕ, ◌≤◌, List, [], ◌∷◌, length}
use Rattle.slub_core.specs.Setup.{Setup}
use Rattle.slub_core.specs.Run.{System, Pick, turn}
use Rattle.slub_schedule.specs.declared.machine.Unended.{Unended}
use Rattle.slub_schedule.specs.declared.machine.Unended.TheVariants.{TurnsSpent, Halted}
use Rattle.slub_schedule.specs.Draws.{next, number_from}
use Rattle.slub_schedule.specs.Schedule.{unfinished, chosen, IsCall}
use Rattle.slub_schedule.specs.Rounds.{IsFinishedSystem}
use Rattle.slub_schedule.specs.Turns.{turns_of}

-- one turn: a worker is unfinished, one is chosen, and it makes its turn, which is no try
pub record IsTurn {M : Type 0} (setup : M → Setup) (system : M → System)
    (chooses : M → ℕ → M → Type 0) (notes : M → Pick → M → Type 0) (before : M) (pick : Pick)
    (after : M) : Type 0 where
  pub some : 1 ≤ length (unfinished (system before))
  -- so the machine stands once the worker is chosen: its words and its workers are as before
  pub chosen : M
  pub choice : chooses before pick.worker chosen
  pub kept : setup chosen ≡ setup before
  pub same : system chosen ≡ system before
  pub call : IsCall pick
  pub stays : setup after ≡ setup before
  pub turned : system after ≡ turn (setup before) (system before) pick
  pub noted : notes chosen pick after

-- these turns lead from the one to the other
abbrev pub AreMade : {M : Type 0} → (M → Setup) → (M → System) → (M → ℕ → M → Type 0)
    → (M → Pick → M → Type 0) → M → List Pick → M → Type 0
AreMade setup system chooses notes before [] after = after ≡ before
AreMade {M} setup system chooses notes before (pick ∷ picks) after =
    (next : M) × IsTurn setup system chooses notes before pick next
    × AreMade setup system chooses notes next picks after

-- after these turns, no more than those of the round, each worker is finished, and nothing is left
-- to be chosen
pub record EndsBy {M : Type 0} (setup : M → Setup) (system : M → System)
    (chooses : M → ℕ → M → Type 0) (notes : M → Pick → M → Type 0) (is_done : M → M → Type 0)
    (first last : M) : Type 0 where
  pub picks : List Pick
  -- where the last turn leads
  pub by : M
  pub made : AreMade setup system chooses notes first picks by
  pub within : length picks ≤ turns_of (system first)
  pub done : is_done by last
  pub same : system last ≡ system by
  pub finished : IsFinishedSystem (system last)

-- all turns of the round are made, and a worker is unfinished still
pub record SpendsBy {M : Type 0} (setup : M → Setup) (system : M → System)
    (chooses : M → ℕ → M → Type 0) (notes : M → Pick → M → Type 0) (first last : M)
    : Type 0 where
  pub picks : List Pick
  pub made : AreMade setup system chooses notes first picks last
  pub all : length picks ≡ turns_of (system first)
  pub unfinished : 1 ≤ length (unfinished (system last))

-- after these turns none is chosen though a worker is unfinished, or the end is none, for this
-- reason
pub record HaltsBy {M H : Type 0} (setup : M → Setup) (system : M → System)
    (chooses : M → ℕ → M → Type 0) (notes : M → Pick → M → Type 0) (halts : M → H → M → Type 0)
    (first : M) (why : H) (last : M) : Type 0 where
  pub picks : List Pick
  pub by : M
  pub made : AreMade setup system chooses notes first picks by
  pub within : length picks ≤ turns_of (system first)
  pub halted : halts by why last
  pub same : system last ≡ system by

-- why a round doesn't end
abbrev pub IsUnended : {M H : Type 0} → (M → Setup) → (M → System) → (M → ℕ → M → Type 0)
    → (M → Pick → M → Type 0) → (M → H → M → Type 0) → M → Unended H → M → Type 0
IsUnended setup system chooses notes halts first TurnsSpent last =
    SpendsBy setup system chooses notes first last
IsUnended setup system chooses notes halts first (Halted why) last =
    HaltsBy setup system chooses notes halts first why last

-- the end is none, for this reason
abbrev pub IsNoEnd : {M H : Type 0} → (M → H → M → Type 0) → M → Unended H → M → Type 0
IsNoEnd halts before TurnsSpent after = ⊥
IsNoEnd halts before (Halted why) after = halts before why after

-- the number that is drawn at x chooses this worker, and the generator stands at y then
abbrev pub IsDrawn : System → ℕ → ℕ → ℕ → Type 0
IsDrawn s x worker y = (worker ≡ chosen s (number_from x)) × (y ≡ next x)
