-- What the steps of a write and a read of an unchecked object ask.
use Rattle.std.proofs.Common.{◌≡◌, ◌+◌, ◌*◌, ◌≤◌, true, List, ◌∷◌, Some, refl, arith}
use Rattle.std.proofs.lemmas.Bool.{leb-true, not-false}
use Rattle.std.proofs.lemmas.List.Elements.{All-head}
use Rattle.slub_core.specs.declared.call.CallKind.{CallKind}
use Rattle.slub_core.specs.declared.call.CallKind.TheVariants.{Write, Read}
use Rattle.slub_core.specs.declared.spot.Spot.TheVariants.{WriteWord, ReadWord}
use Rattle.slub_core.specs.Calls.{call_kind, call_word}
use Rattle.slub_core.specs.World.{World}
use Rattle.slub_core.specs.Local.{Local, Worker, call_of}
use Rattle.slub_core.specs.Spots.{doing, uses_word, in_plain}
use Rattle.slub_core.specs.Fresh.{IsAtWork}
use Rattle.slub_core.specs.Accounted.{IsAccounted, IsTold, public}
use Rattle.slub_core.specs.Coherent.{Stands}
use Rattle.slub_turns.specs.Fits.{StepFits}

-- a call that has no reply yet is of the kind that its spot says
abbrev pub OwnKind : Local → Type 0
OwnKind l = (kind : CallKind) → doing l.spot ≡ Some kind → call_kind (call_of l) ≡ kind

pub own-kind : (opening w : World) (x : Worker) (others : List Worker) → IsAccounted opening w (x ∷ others) → OwnKind x.local
own-kind opening w x others ac kind is =
    let told = All-head (λ (y : Worker). IsTold w.setup opening.board (public w (x ∷ others)) y.local) x others ac.told in
    (told.call kind is).0.same_kind

-- the word lies in an object, which has 16384 bytes at most
word-small : (w : World) (x : Worker) (others : List Worker) → uses_word x.local.spot ≡ true → in_plain x.local.spot ≡ true → Stands w (x ∷ others) → call_word (call_of x.local) ≤ 4095
word-small w x others word plain s =
    let ok = All-head (IsAtWork w) x others s.fresh.workers in
    let cache = ok.spot.plain plain in
    let layout = s.fresh.setup.layout x.local.cache cache.1 in
    let fits : 8 * (call_word (call_of x.local) + 1) ≤ (w.setup.layout x.local.cache).object_size = leb-true (8 * (call_word (call_of x.local) + 1)) (w.setup.layout x.local.cache).object_size (not-false _ (ok.spot.inside word)) in
    omega (arith, layout.object_size)

pub write_step : (w : World) (x : Worker) (others : List Worker) → x.local.spot ≡ WriteWord → Stands w (x ∷ others) → OwnKind x.local → StepFits w.setup.step x.local WriteWord
write_step w x others is s own = (own Write (rw is refl), word-small w x others (rw is refl) (rw is refl) s)

pub read_step : (w : World) (x : Worker) (others : List Worker) → x.local.spot ≡ ReadWord → Stands w (x ∷ others) → OwnKind x.local → StepFits w.setup.step x.local ReadWord
read_step w x others is s own = (own Read (rw is refl), word-small w x others (rw is refl) (rw is refl) s)
