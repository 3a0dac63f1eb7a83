-- A round of a machine that draws whose turn comes next, as it comes out.
use Rattle.std.proofs.Common.{◌≡◌, ℕ, List, subst}
use Rattle.slub_core.specs.Setup.{Setup}
use Rattle.slub_core.specs.Run.{System, Pick}
use Rattle.slub_schedule.specs.declared.machine.Unended.{Unended}
use Rattle.slub_schedule.specs.declared.machine.Unended.TheVariants.{TurnsSpent}
use Rattle.slub_schedule.specs.Rounds.{IsSpent}
use Rattle.slub_schedule.specs.Made.{IsUnended, IsDrawn}
use Rattle.slub_schedule.proofs.Drawn.{spent_drawn}

pub unended_drawn : {M H : Type 0} (setup : M → Setup) (system : M → System) (chooses : M → ℕ → M → Type 0) (notes : M → Pick → M → Type 0) (draws : M → ℕ) (draw : (a : M) (w : ℕ) (b : M) → chooses a w b → IsDrawn (system a) (draws a) w (draws b)) (leave : (a : M) (p : Pick) (b : M) → notes a p b → draws b ≡ draws a)
    (halts : M → H → M → Type 0) (a : M) (why : Unended H) (b : M) → why ≡ TurnsSpent → IsUnended setup system chooses notes halts a why b → (picks : List Pick) × IsSpent (setup a) (draws a) (system a) picks (system b)
unended_drawn setup system chooses notes draws draw leave halts a why b is unended = spent_drawn setup system chooses notes draws draw leave a b (subst (λ why. IsUnended setup system chooses notes halts a why b) is unended)
