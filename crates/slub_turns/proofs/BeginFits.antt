-- What the begin of a call asks.
use Rattle.std.proofs.Common.{List, [], ◌∷◌, arith}
use Rattle.slub_core.specs.declared.call.Call.{Call}
use Rattle.slub_core.specs.declared.spot.Spot.{Spot}
use Rattle.slub_core.specs.declared.spot.Spot.TheVariants.{Between}
use Rattle.slub_core.specs.World.{World}
use Rattle.slub_core.specs.Local.{Worker}
use Rattle.slub_core.specs.Coherent.{Stands}
use Rattle.slub_core.specs.Accounted.{IsAccounted}
use Rattle.slub_core.proofs.MayBegin.{MayBeginFirst, may_begin}
use Rattle.slub_turns.specs.Fits.{CallsFit, BeginFits}

-- the CPU of a call is one of the machine's
pub begin_fits : (opening w : World) (x : Worker) (others : List Worker) → Stands w (x ∷ others) → IsAccounted opening w (x ∷ others) → BeginFits x.local x.local.spot
begin_fits opening w x others s ac = by_spot x.local.spot
  where
    by_todo : (calls : List Call) → MayBeginFirst w.setup x.local calls → CallsFit calls
    by_todo [] may = tt
    by_todo (call ∷ calls) may = let cpus = s.fresh.setup.cpus.1 in let c = may.cpu in omega arith

    by_spot : (spot : Spot) → BeginFits x.local spot
    by_spot Between = by_todo x.local.todo (may_begin opening w x others ac)
    by_spot _ = tt
