-- Why a line, or a part of it, stops.
use Rattle.std.proofs.Common.{◌≡◌, sym, subst, IfErr, Result, Ok, Err}
use Rattle.std.specs.Prelude.{IsErrAnd}
use Rattle.slub_rounds.specs.declared.client.LineStopped.{LineStopped}
use Rattle.slub_rounds.specs.declared.client.LineStopped.TheVariants.{NoMemory, TurnsSpent}
use Rattle.slub_rounds.specs.ClientStopped.{IsStoppedWhere}

-- want of memory stops it at any time
pub none-stopped : {A : Type 0} (spent : Type 0) (result : Result A LineStopped) → IsErrAnd result (λ cause. cause ≡ NoMemory) → IfErr result (IsStoppedWhere spent)
none-stopped spent (Ok value) gives = tt
none-stopped spent (Err cause) gives = subst (IsStoppedWhere spent) (sym gives) tt

-- what stops a part stops the whole, which spends the turns that the part spends
pub cause-whole : (part whole : Type 0) → (part → whole) → (cause : LineStopped) → IsStoppedWhere part cause → IsStoppedWhere whole cause
cause-whole part whole leads NoMemory stopped = tt
cause-whole part whole leads TurnsSpent stopped = leads stopped

pub whole-stopped : {A : Type 0} (part whole : Type 0) → (part → whole) → (result : Result A LineStopped) → IfErr result (IsStoppedWhere part) → IfErr result (IsStoppedWhere whole)
whole-stopped part whole leads (Ok value) stopped = tt
whole-stopped part whole leads (Err cause) stopped = cause-whole part whole leads cause stopped
