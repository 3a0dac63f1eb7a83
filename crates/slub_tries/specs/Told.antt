-- What the events of a worker are answered that is alone: an allocation of a cache that isn't
-- checked is tried first, by the fast path alone; a call is made of it where the try gave no
-- object, and of every other event.
use Rattle.std.specs.Prelude.{◌≡◌, List, [], ◌∷◌, Option, Some, None}
use Rattle.slub_trace.specs.declared.reply.Reply.{Reply}
use Rattle.slub_trace.specs.declared.reply.Reply.TheVariants as reply
use Rattle.slub_core.specs.Run.{IsFinished}
use Rattle.slub_workers.specs.declared.fast.Fast.{Fast}
use Rattle.slub_workers.specs.declared.fast.Fast.TheVariants.{Given}
use Rattle.slub_workers.specs.Begun.{Begun}
use Rattle.slub_workers.specs.Calls.{HasCalled}
use Rattle.slub_workers.specs.Rule.{setup_in}
use Rattle.slub_workers.specs.Standing.{Standing}
use Rattle.slub_workers.specs.Try.{MayTry, HasTried}
use Rattle.slub_tries.specs.declared.tries.Told.{Told}

-- the worker that stood so could try its next call, and has tried it
abbrev pub HasTriedNext : Begun → Standing → Fast → Standing → Type 0
HasTriedNext key x fast after =
    (may : MayTry (setup_in key) x.local) × HasTried key may.cache x fast after

-- what a try answers leads to the reply: it is the object of the try, or that of a call after it
abbrev pub GoesOn : Begun → Standing → Fast → Reply → Standing → Type 0
GoesOn key x (Given address) told after = (told ≡ reply.Given address) × (after ≡ x)
GoesOn key x _ told after = HasCalled key x told after

-- an event whose try was answered so, or that couldn't be tried, has this reply
abbrev pub IsReplied : Begun → Standing → Option Fast → Reply → Standing → Type 0
IsReplied key x None told after =
    (¬ MayTry (setup_in key) x.local) × HasCalled key x told after
IsReplied key x (Some fast) told after =
    (mid : Standing) × HasTriedNext key x fast mid × GoesOn key mid fast told after

abbrev pub IsTold : Begun → Standing → Told → Standing → Type 0
IsTold key x told after = IsReplied key x told.tried told.reply after

-- events one after another
abbrev pub AreTold : Begun → Standing → List Told → Standing → Type 0
AreTold key x [] after = after ≡ x
AreTold key x (told ∷ more) after =
    (mid : Standing) × IsTold key x told mid × AreTold key mid more after

-- up to the last one: then each call of the worker has a reply
pub record AllAreTold (key : Begun) (x : Standing) (all : List Told) (after : Standing)
    : Type 0 where
  pub told : AreTold key x all after
  pub finished : IsFinished after.local
