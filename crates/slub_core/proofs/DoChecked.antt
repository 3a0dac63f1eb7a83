-- At once, under a checked cache's lock, spot by spot: the call is made, or a run is added as a slab.
use Rattle.std.proofs.Common.{◌≡◌, ℕ, ◌==◌, ◌&&◌, Bool, true, false, Option, Some, None, List, ◌∷◌, length, refl, sym, ap, subst, inl, inr}
use Rattle.std.specs.Prelude.{nat_le}
use Rattle.std.proofs.lemmas.Bool.{cases_Bool, leb-true, eqb-true, false≢true}
use Rattle.slub_trace.specs.declared.damage.Damage.{Damage}
use Rattle.slub_red_zone.specs.State.{CheckedState, slab_of, objects_in}
use Rattle.slub_red_zone.specs.Steps.{IsSpare, damage_of_used, with_taken}
use Rattle.slub_core.specs.declared.call.CallKind.{CallKind}
use Rattle.slub_core.specs.declared.call.CallKind.TheVariants.{Alloc, Free, Write, Read, Poke, Trim, Flush}
use Rattle.slub_core.specs.declared.spot.Spot.TheVariants.{InChecked}
use Rattle.slub_core.specs.declared.spot.CheckedSpot.TheVariants.{DoChecked}
use Rattle.slub_core.specs.Setup.{Setup, node_lock}
use Rattle.slub_core.specs.World.{World, Checked}
use Rattle.slub_core.specs.Local.{Worker, here}
use Rattle.slub_core.specs.Checked.{slabs_of, slabs_in, slot_of, do_checked, took_back, is_spare, checked_at_once}
use Rattle.slub_core.specs.Listed.{IsCheckedOf}
use Rattle.slub_core.specs.Coherent.{Stands}
use Rattle.slub_core.proofs.CheckedSpots.{quiet, do_write, do_poke, do_free-kept, do_alloc}
use Rattle.slub_core.proofs.CheckedFree.{do_free-spare}
use Rattle.slub_core.proofs.CheckedStep.{the-slabs}
use Rattle.slub_core.proofs.UnderLock.{Makes}

spare-from : (m : Setup) (s : CheckedState) (cache frame : ℕ) → is_spare m s cache frame ≡ true → IsSpare s frame (m.layout cache).min_partial
spare-from m s cache frame e = both (length (slab_of s frame).free == objects_in (slab_of s frame)) (nat_le (m.layout cache).min_partial (length s.listed)) refl refl e
  where
    both : (a b : Bool) → (length (slab_of s frame).free == objects_in (slab_of s frame)) ≡ a → nat_le (m.layout cache).min_partial (length s.listed) ≡ b → (a && b) ≡ true → IsSpare s frame (m.layout cache).min_partial
    both true true a b e = record { all_free = eqb-true _ _ a; enough = leb-true (m.layout cache).min_partial (length s.listed) b }
    both true false a b e = absurd (false≢true e)
    both false b a c e = absurd (false≢true e)

do_free : (w : World) (x : Worker) (others : List Worker) (old : CheckedState) (damage : Option Damage) → x.local.spot ≡ InChecked DoChecked Free → Stands w (x ∷ others) → w.value (node_lock x.local.cache) ≡ Checked old → IsCheckedOf w.setup x.local.cache old
    → Makes w others (took_back w.setup w.value x.local old damage)
do_free w x others old (Some damage) is s was of = let q = quiet w x others Free is s in (q.0, q.1, q.2)
do_free w x others old None is s was of = elim (cases_Bool (is_spare w.setup (with_taken old (slot_of x.local)) x.local.cache (here x.local).frame)) [
  | inl spare ↦ rw spare (let q = do_free-spare w x others old is s was of (spare-from w.setup (with_taken old (slot_of x.local)) x.local.cache (here x.local).frame spare) in (q.0, q.1, q.2))
  | inr stay ↦ rw stay (let q = do_free-kept w x others old is s was of in (q.0, q.1, q.2))
]

by-kind : (w : World) (x : Worker) (others : List Worker) (kind : CallKind) (old : CheckedState) → x.local.spot ≡ InChecked DoChecked kind → Stands w (x ∷ others) → w.value (node_lock x.local.cache) ≡ Checked old → IsCheckedOf w.setup x.local.cache old
    → Makes w others (do_checked w.setup w.value x.local kind old)
by-kind w x others Alloc old is s was of = do_alloc w x others old (w.setup.means.give old) (w.setup.means.gave old) is s was of (w.setup.means.gives old of.sound)
by-kind w x others Free old is s was of = do_free w x others old (damage_of_used old (slot_of x.local)) is s was of
by-kind w x others Write old is s was of = do_write w x others old is s was of
by-kind w x others Read old is s was of = let q = quiet w x others Read is s in (q.0, q.1, q.2)
by-kind w x others Poke old is s was of = do_poke w x others old is s was of
by-kind w x others Trim old is s was of = (x, refl, s)
by-kind w x others Flush old is s was of = (x, refl, s)

pub at_DoChecked : (w : World) (x : Worker) (others : List Worker) (refused : Bool) (kind : CallKind) → x.local.spot ≡ InChecked DoChecked kind → Stands w (x ∷ others)
    → Makes w others (checked_at_once w.setup refused w.value x.local DoChecked kind)
at_DoChecked w x others refused kind is s =
    let r = the-slabs w x others s (rw is refl) in
    let e : slabs_of w.setup w.value x.local ≡ r.0 = ap (slabs_in (w.setup.layout x.local.cache)) r.1 in
    subst (λ slabs. Makes w others (do_checked w.setup w.value x.local kind slabs)) (sym e) (by-kind w x others kind r.0 is s r.1 r.2)
