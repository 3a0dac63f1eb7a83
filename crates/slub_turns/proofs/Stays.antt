-- At a spot that calls for a step nothing is done at once.
use Rattle.std.proofs.Common.{◌≡◌, ℕ, ◌∙◌, Bool, false, refl, sym, ap}
use Rattle.std.proofs.lemmas.Bool.{false≢true}
use Rattle.slub_core.specs.declared.spot.Spot.{Spot}
use Rattle.slub_core.specs.declared.spot.Spot.TheVariants.{InAlloc, InPutAway, InDiscard, InFree, InMoveSet, InTrim, InChecked}
use Rattle.slub_core.specs.declared.spot.AllocSpot.TheVariants.{PopNode, TakeRun}
use Rattle.slub_core.specs.declared.spot.PutAwaySpot.TheVariants.{PutNode}
use Rattle.slub_core.specs.declared.spot.DiscardSpot.TheVariants.{PutRun}
use Rattle.slub_core.specs.declared.spot.FreeSpot.TheVariants.{TakeOff}
use Rattle.slub_core.specs.declared.spot.MoveSetSpot.TheVariants.{ChooseFront, PutTail}
use Rattle.slub_core.specs.declared.spot.TrimSpot.TheVariants.{ScanNode, DropScanned}
use Rattle.slub_core.specs.declared.spot.CheckedSpot.TheVariants.{DoChecked, MoveRun, AddSlab}
use Rattle.slub_core.specs.Setup.{Setup}
use Rattle.slub_core.specs.World.{LockValue}
use Rattle.slub_core.specs.Local.{Local, Change, noted, stays}
use Rattle.slub_core.specs.Steps.{at_once, changed, settled}
use Rattle.slub_turns.specs.Spots.{is_at_once}

pub stays_at : (m : Setup) (a : Bool) (value : ℕ → LockValue) (l : Local) (s : Spot) → is_at_once s ≡ false → at_once m a value l s ≡ stays value l
stays_at m a value l (InAlloc PopNode) not_so = absurd (false≢true (sym not_so))
stays_at m a value l (InAlloc TakeRun) not_so = absurd (false≢true (sym not_so))
stays_at m a value l (InAlloc s) not_so = refl
stays_at m a value l (InPutAway PutNode away) not_so = absurd (false≢true (sym not_so))
stays_at m a value l (InPutAway s away) not_so = refl
stays_at m a value l (InDiscard PutRun discard) not_so = absurd (false≢true (sym not_so))
stays_at m a value l (InDiscard s discard) not_so = refl
stays_at m a value l (InFree TakeOff) not_so = absurd (false≢true (sym not_so))
stays_at m a value l (InFree s) not_so = refl
stays_at m a value l (InMoveSet ChooseFront move) not_so = absurd (false≢true (sym not_so))
stays_at m a value l (InMoveSet PutTail move) not_so = absurd (false≢true (sym not_so))
stays_at m a value l (InMoveSet s move) not_so = refl
stays_at m a value l (InTrim ScanNode) not_so = absurd (false≢true (sym not_so))
stays_at m a value l (InTrim DropScanned) not_so = absurd (false≢true (sym not_so))
stays_at m a value l (InTrim s) not_so = refl
stays_at m a value l (InChecked DoChecked kind) not_so = absurd (false≢true (sym not_so))
stays_at m a value l (InChecked MoveRun kind) not_so = absurd (false≢true (sym not_so))
stays_at m a value l (InChecked AddSlab kind) not_so = absurd (false≢true (sym not_so))
stays_at m a value l (InChecked s kind) not_so = refl
stays_at m a value l s not_so = refl

-- the reply leads to such a spot: neither change is made
pub settled_none : (m : Setup) (a : Bool) (c : Change) → is_at_once (noted c.local c.reply).spot ≡ false → settled m a c ≡ stays c.value (noted c.local c.reply)
settled_none m a c not_so =
    let l : Local = noted c.local c.reply in
    let stay : changed m a c ≡ stays c.value l = stays_at m a c.value l l.spot not_so in
    ap (λ (x : Change). changed m a x) stay ∙ stay

-- the first change does: the second isn't made
pub settled_first : (m : Setup) (a : Bool) (c one : Change) → one ≡ changed m a c → is_at_once (noted one.local one.reply).spot ≡ false → settled m a c ≡ stays one.value (noted one.local one.reply)
settled_first m a c one first not_so =
    let l : Local = noted one.local one.reply in
    ap (λ (x : Change). changed m a x) (sym first) ∙ stays_at m a one.value l l.spot not_so
