-- What the bodies ask at each spot, spot by spot: of the step, and of what is done at once.
use Rattle.std.proofs.Common.{◌≡◌, List, ◌∷◌}
use Rattle.slub_core.specs.declared.spot.Spot.{Spot}
use Rattle.slub_core.specs.declared.spot.Spot.TheVariants.{Between, InAlloc, InPutAway, InDiscard, InPutOnList, InFree, InMoveSet, InOffline, InTrim, WriteWord, ReadWord, InChecked}
use Rattle.slub_core.specs.World.{World}
use Rattle.slub_core.specs.Local.{Worker}
use Rattle.slub_core.specs.Coherent.{Stands}
use Rattle.slub_core.specs.declared.guarded.Guarded.{Guarded}
use Rattle.slub_turns.specs.Fits.{StepFits, AtOnceFits, AreValues}
use Rattle.slub_turns.proofs.Counts.{CountsFit}
use Rattle.slub_turns.proofs.AllocFits.{alloc_step, alloc_once}
use Rattle.slub_turns.proofs.AwayFits.{away_step, away_once}
use Rattle.slub_turns.proofs.DiscardFits.{discard_step, discard_once}
use Rattle.slub_turns.proofs.PutFits.{put_step}
use Rattle.slub_turns.proofs.FreeFits.{free_step, free_once}
use Rattle.slub_turns.proofs.MoveFits.{move_step, move_once}
use Rattle.slub_turns.proofs.OfflineFits.{offline_step, trim_step, trim_once}
use Rattle.slub_turns.proofs.UseFits.{OwnKind, write_step, read_step}
use Rattle.slub_turns.proofs.CheckedFits.{checked_once}

pub step_fits : (w : World) (x : Worker) (others : List Worker) (spot : Spot) → x.local.spot ≡ spot → Stands w (x ∷ others) → OwnKind x.local → CountsFit x.local spot → StepFits w.setup.step x.local spot
step_fits w x others Between is s own counts = tt
step_fits w x others (InAlloc a) is s own counts = alloc_step w x others a is s
step_fits w x others (InPutAway a away) is s own counts = away_step w x others a away is s
step_fits w x others (InDiscard a discard) is s own counts = discard_step w x others a discard is s counts
step_fits w x others (InPutOnList a put) is s own counts = put_step w x others a put is s counts
step_fits w x others (InFree a) is s own counts = free_step w x others a is s
step_fits w x others (InMoveSet a move) is s own counts = move_step w x others a move is s
step_fits w x others (InOffline a sweep) is s own counts = offline_step w x others a sweep is s counts
step_fits w x others (InTrim a) is s own counts = trim_step w x others a is s
step_fits w x others WriteWord is s own counts = write_step w x others is s own
step_fits w x others ReadWord is s own counts = read_step w x others is s own
step_fits w x others (InChecked a kind) is s own counts = tt

pub once_fits : (w : World) (x : Worker) (others : List Worker) (guarded : List Guarded) (spot : Spot) → x.local.spot ≡ spot → Stands w (x ∷ others) → OwnKind x.local → AreValues w.setup w.value guarded → AtOnceFits guarded x.local spot
once_fits w x others guarded Between is s own values = tt
once_fits w x others guarded (InAlloc a) is s own values = alloc_once w x others guarded a is s values
once_fits w x others guarded (InPutAway a away) is s own values = away_once w x others guarded a away is s values
once_fits w x others guarded (InDiscard a discard) is s own values = discard_once w x others guarded a discard is s values
once_fits w x others guarded (InPutOnList a put) is s own values = tt
once_fits w x others guarded (InFree a) is s own values = free_once w x others guarded a is s values
once_fits w x others guarded (InMoveSet a move) is s own values = move_once w x others guarded a move is s values
once_fits w x others guarded (InOffline a sweep) is s own values = tt
once_fits w x others guarded (InTrim a) is s own values = trim_once w x others guarded a is s values
once_fits w x others guarded WriteWord is s own values = tt
once_fits w x others guarded ReadWord is s own values = tt
once_fits w x others guarded (InChecked a kind) is s own values = checked_once w x others guarded a kind is s own values
