-- The step of a spot, on the table of words: a run in hand becomes a slab.
use Rattle.std.proofs.Common.{ℕ, ◌<◌, Option, Some, None, refl, arith}
use Rattle.std.specs.Prelude.{IsSome}
use Rattle.std.proofs.lemmas.Bool.{false≢true}
use Rattle.slub_core.specs.declared.local.FrameRun.{FrameRun}
use Rattle.slub_core.specs.declared.spot.Spot.TheVariants.{InAlloc}
use Rattle.slub_core.specs.declared.spot.AllocSpot.TheVariants.{Make}
use Rattle.slub_core.specs.declared.step.Answer.TheVariants.{Done}
use Rattle.slub_core.specs.World.{World, world_from, world_of, set_slab}
use Rattle.slub_core.specs.Local.{run_of, run_in}
use Rattle.slub_core.specs.Alloc.{made_word}
use Rattle.slub_core.specs.Fresh.{IsHeldRun}
use Rattle.slub_core.specs.Steps.{advance_at}
use Rattle.slub_core.proofs.Leads.{AtSpot, at_work, slab_fits}
use Rattle.slub_core.proofs.RemakeStep.{pow-some}
use Rattle.slub_core.proofs.WordSteps.{slab_store}
use Rattle.slub_core.proofs.Kind21.{at_Make}
use Rattle.slub_core.proofs.Accounts.{Reaches}
use Rattle.slub_core.proofs.TaleSteps.{quietly}
use Rattle.slub_core.proofs.TaleSpots.{unseen-slab}

-- a run in hand begins among the frames
run_below : (w : World) (cache : ℕ) (run : Option FrameRun) (n : ℕ) → IsSome run → IsHeldRun w cache run n → (run_in run).frame < w.setup.frames
run_below w cache None n some held = absurd (false≢true some)
run_below w cache (Some run) n some held = let p = pow-some run.order in let i = held.0.inside in omega arith

pub leads_Make : AtSpot (InAlloc Make)
unfolding world_of world_from
leads_Make opening m value words x others t is s ac =
    let w = world_of m value words in
    let f = (run_of x.local).frame in
    let ok = at_work w x others s in
    let made = at_Make w x others is s in
    slab_store m value words f (made_word x.local) (λ v a. Reaches opening v others (advance_at m value x.local (InAlloc Make) a)) t
    (run_below w x.local.cache x.local.run _ (ok.spot.run (rw is refl)) ok.seen.run)
    (slab_fits w f (made_word x.local) others (advance_at m value x.local (InAlloc Make) Done).local made) (made, quietly opening w (set_slab w f (made_word x.local)) value x others (InAlloc Make) Done is ac (unseen-slab w f (made_word x.local)) refl refl)
