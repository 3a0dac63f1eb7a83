-- At once: a run in hand becomes a slab of a checked cache, of which nobody has an object yet; or there is no memory for its bytes.
use Rattle.std.proofs.Common.{◌≡◌, ℕ, ◌/◌, ◌<◌, ◌≤◌, true, false, Some, None, List, ◌∷◌, get_or, refl, sym, ap, ◌∙◌, subst, arith, inl, inr}
use Rattle.std.proofs.lemmas.List.Elements.{All-head}
use Rattle.slub_object_layout.specs.Layout.{address_of}
use Rattle.slub_trace.specs.declared.reply.Reply.TheVariants as reply
use Rattle.slub_core.specs.declared.call.CallKind.{CallKind}
use Rattle.slub_core.specs.declared.call.CallKind.TheVariants.{Alloc}
use Rattle.slub_core.specs.declared.local.FrameRun.{FrameRun}
use Rattle.slub_core.specs.declared.spot.Spot.TheVariants.{InChecked}
use Rattle.slub_core.specs.declared.spot.CheckedSpot.TheVariants.{AddSlab, GiveRun}
use Rattle.slub_core.specs.World.{World, pool_of, cache_at, object_at, covers}
use Rattle.slub_core.specs.Local.{Worker, run_of, gets, answered}
use Rattle.slub_core.specs.Discard.{with_put}
use Rattle.slub_core.specs.Checked.{slabs_of, slab_added, slab_refused}
use Rattle.slub_core.specs.Listed.{covered_by}
use Rattle.slub_core.specs.Fresh.{IsAtWork}
use Rattle.slub_core.specs.Coherent.{Stands}
use Rattle.slub_core.specs.Accounted.{known_of, IsAccounted}
use Rattle.slub_core.proofs.Accounts.{Tells, TellsAt}
use Rattle.slub_core.proofs.Apart.{run-covers, held-run, run-live, role-most}
use Rattle.slub_core.proofs.Counts.{roles-cons}
use Rattle.slub_core.proofs.PoolSpots.{some-run}
use Rattle.slub_core.proofs.Kind21.{run-some}
use Rattle.slub_core.proofs.Slots.{IsWordOf, sized-fits}
use Rattle.slub_core.proofs.Update.{term_le_sum}
use Rattle.slub_core.proofs.StepValues.{object-within, cache-live}
use Rattle.slub_core.proofs.ValueStep.{board-object}
use Rattle.slub_core.proofs.TaleAddress.{address-word, object-covers}
use Rattle.slub_core.proofs.TaleReplies.{spoken}
use Rattle.slub_core.proofs.TaleGiven.{IsUnheld, known-object, told_given}
use Rattle.slub_core.proofs.TaleAtOnce.{unseen-guarded, unseen-pool}
use Rattle.slub_core.proofs.TaleChecked.{told_no_memory}

-- no object of a slab stands where one of a run in hand would
run-alone : (w : World) (x : Worker) (others : List Worker) (run : FrameRun) (i g j : ℕ) → Stands w (x ∷ others) → x.local.run ≡ Some run → i < run.objects → 1 ≤ object_at w g j
    → address_of g j (w.setup.layout (cache_at w g)) ≡ address_of run.frame i (w.setup.layout x.local.cache) → ⊥
run-alone w x others run i g j s mine below some same =
    let ok = All-head (IsAtWork w) x others s.fresh.workers in
    let p = address_of run.frame i (w.setup.layout x.local.cache) / 8 in
    let held = held-run w x.local.cache x.local run _ mine ok.seen.run in
    let live = run-live w x run ok mine in
    let fits = sized-fits w.setup x.local.cache run.order run.objects s.fresh.setup live held.sized in
    let c = run-covers w.setup x.local.cache run i p held below fits (address-word w.setup x.local.cache run.frame i s.fresh.setup live) in
    let e : covered_by (p / 512) x.local.run ≡ covered_by (p / 512) (Some run) = ap (λ r. covered_by (p / 512) r) mine in
    let inside = object-within w g j some in
    let live_g : w.setup.lives (cache_at w g) ≡ true = elim (cache-live w s.chains g s.listed.shaped s.fresh.setup.live (omega arith)) [ inl a ↦ a.1 | inr b ↦ b.1 ] in
    let there : IsWordOf (w.setup.layout (cache_at w g)) g j p = subst (λ a. IsWordOf (w.setup.layout (cache_at w g)) g j (a / 8)) same (address-word w.setup (cache_at w g) g j s.fresh.setup live_g) in
    let covered = object-covers w (x ∷ others) g j p s some there in
    let within = s.listed.shaped.within g (omega arith) in
    let t = term_le_sum w.setup.frames (λ k. covers w (p / 512) k) g within in
    let split = roles-cons w x others (p / 512) in
    let one = role-most w (x ∷ others) (p / 512) s in
    omega arith

-- so nobody has it
run-unheld : (w : World) (x : Worker) (others : List Worker) (run : FrameRun) (i : ℕ) → Stands w (x ∷ others) → x.local.run ≡ Some run → i < run.objects → IsUnheld w (x ∷ others) (address_of run.frame i (w.setup.layout x.local.cache))
run-unheld w x others run i s mine below = record {
  held = λ k d under o is at.
      let q = known_of (get_or (x ∷ others) k d).local.known o in
      let obj = known-object w (x ∷ others) k d s under o is in
      run-alone w x others run i q.frame q.index s mine below obj.0 (ap (λ c. address_of q.frame q.index (w.setup.layout c)) (sym obj.1) ∙ at);
  board = λ o b under is at.
      run-alone w x others run i b.frame b.index s mine below (board-object w x others s o b under is) (ap (λ c. address_of b.frame b.index (w.setup.layout c)) (sym (s.listed.shaped.board o b under is)) ∙ at);
}

tells-refused : (opening w : World) (x : Worker) (others : List Worker) (kind : CallKind) → x.local.spot ≡ InChecked AddSlab kind → Stands w (x ∷ others) → IsAccounted opening w (x ∷ others) → Tells opening w others (slab_refused w.value x.local (pool_of w) (run_of x.local))
tells-refused opening w x others kind is s ac =
    let ok = All-head (IsAtWork w) x others s.fresh.workers in
    let z : Worker = record x { local = answered (record x.local { run = None; spot = InChecked GiveRun Alloc }) reply.NoMemory } in (
      z,
      refl,
      told_no_memory opening w _ x z others ac (unseen-pool w (with_put (pool_of w) (run_of x.local)) refl) (rw is refl) (rw is refl) (ok.spot.checked (rw is refl)).2
          (record { known = refl; done = refl; todo = refl; freeing = refl; call = refl }),
    )

tells-added : (opening w : World) (x : Worker) (others : List Worker) (kind : CallKind) → x.local.spot ≡ InChecked AddSlab kind → Stands w (x ∷ others) → IsAccounted opening w (x ∷ others)
    → Tells opening w others (slab_added w.setup w.value x.local (slabs_of w.setup w.value x.local) (run_of x.local))
tells-added opening w x others kind is s ac =
    let l = x.local in
    let ok = All-head (IsAtWork w) x others s.fresh.workers in
    let run = run_of l in
    let checked = ok.spot.checked (rw is refl) in
    let has = some-run l.run (ok.spot.run (rw is refl)) in
    let held = held-run w l.cache l run _ has ok.seen.run in
    let some = run-some (record (w.setup.layout l.cache) { min_partial = 5; cpu_partial_slabs = 0 }) run.order run.objects (s.fresh.setup.layout l.cache checked.1) held.sized in
    let un = run-unheld w x others run 0 s has (omega arith) in
    let r = reply.Given (address_of run.frame 0 (w.setup.layout l.cache)) in
    let z : Worker = record x { local = answered (record (gets l l.cache run.frame 0) { run = None; spot = InChecked GiveRun Alloc }) r } in (
      z,
      refl,
      told_given opening w _ x z others run.frame 0 ac (spoken w _ l r (unseen-guarded w l.cache _) refl) (rw is refl) (rw is refl) (ok.spot.awaits (rw is refl)).1 held.first un
          (record { known = refl; done = refl; todo = refl; freeing = refl; call = refl }),
    )

pub tells_AddSlab : (kind : CallKind) → TellsAt (InChecked AddSlab kind)
tells_AddSlab kind opening w true x others is s ac = tells-refused opening w x others kind is s ac
tells_AddSlab kind opening w false x others is s ac = tells-added opening w x others kind is s ac
