-- What holds between any two steps of all workers, and before and after what is done at once.
use Rattle.std.specs.Prelude.{List, []}
use Rattle.slub_core.specs.World.{World, Chains}
use Rattle.slub_core.specs.Local.{Worker}
use Rattle.slub_core.specs.Placed.{IsPlaced}
use Rattle.slub_core.specs.Listed.{IsListed}
use Rattle.slub_core.specs.Fresh.{IsFresh}
use Rattle.slub_core.specs.Accounted.{IsAccounted}

-- of the machine and its workers: each object, each slab, each frame and each lock is in one place,
-- and what workers rely on is so
pub record Stands (w : World) (xs : List Worker) : Type 0 where
  pub chains : Chains
  pub placed : IsPlaced w chains xs
  pub listed : IsListed w chains xs
  pub fresh : IsFresh w xs

-- the whole: `opening` is the state in which the round began, y has the freelists and the partial
-- lists that the words lead to
pub record IsCoherent (opening w : World) (y : Chains) (xs : List Worker) : Type 0 where
  -- each object is in exactly one place
  pub placed : IsPlaced w y xs
  -- each slab, each frame and each lock is in exactly one role
  pub listed : IsListed w y xs
  -- what each worker has noted is still good where it is relied on
  pub fresh : IsFresh w xs
  -- board, counts, contents and replies agree with what the workers did
  pub accounted : IsAccounted opening w xs

-- a machine without a worker
abbrev pub IsAtRest : World → Type 0
IsAtRest w = Stands w []
