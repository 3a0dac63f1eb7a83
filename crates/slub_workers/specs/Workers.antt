-- The workers of a round, each with its seat, as contracts see them: at which table it sits, and
-- how it stands.
use Rattle.std.specs.Prelude.{◌≡◌, ℕ, zero, suc, false, List, [], ◌∷◌}
use Rattle.atomic_table.specs.Seated.{TableId}
use Rattle.slub_core.specs.Run.{IsFinished}
use Rattle.slub_workers.specs.Begun.{Begun}
use Rattle.slub_workers.specs.Standing.{Standing}
use Rattle.slub_workers.specs.Sits.{MayStand}

abbrev pub worker_in : TableId × Standing → ℕ
worker_in w = w.1.local.worker

-- it sits at this table, and there is a machine of the round in which it stands so
abbrev pub MayTurnAt : Begun → TableId → TableId × Standing → Type 0
MayTurnAt key table w = (w.0 ≡ table) × MayStand key w.1

-- the same, and it hasn't tried
abbrev pub MayWorkAt : Begun → TableId → TableId × Standing → Type 0
MayWorkAt key table w = MayTurnAt key table w × (w.1.tried ≡ false)

-- it sits at this table, each of its calls has a reply, and none was a try
abbrev pub HasWorkedAt : TableId → TableId × Standing → Type 0
HasWorkedAt table w = (w.0 ≡ table) × IsFinished w.1.local × (w.1.tried ≡ false)

-- the numbers below this one, the greatest first
abbrev pub countdown : ℕ → List ℕ
countdown zero = []
countdown (suc n) = n ∷ countdown n
