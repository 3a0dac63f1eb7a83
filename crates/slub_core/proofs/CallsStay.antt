-- A worker's calls in their order stay: a reply goes to the first that has none.
use Rattle.std.proofs.Common.{◌≡◌, ℕ, suc, zero, ◌≤◌, Bool, Option, Some, None, List, [], ◌∷◌, length, get_or, set, map, refl, sym, ap, ◌∙◌, subst, arith, inl, inr}
use Rattle.std.specs.Prelude.{IsSome}
use Rattle.std.proofs.lemmas.Bool.{false≢true}
use Rattle.std.proofs.lemmas.Option.{none-some}
use Rattle.slub_trace.specs.declared.reply.Reply.{Reply}
use Rattle.slub_core.specs.declared.call.Call.{Call}
use Rattle.slub_core.specs.declared.call.CallKind.{CallKind}
use Rattle.slub_core.specs.declared.spot.Spot.{Spot}
use Rattle.slub_core.specs.declared.spot.Spot.TheVariants.{Between}
use Rattle.slub_core.specs.Calls.{call_kind, call_place}
use Rattle.slub_core.specs.Setup.{Setup}
use Rattle.slub_core.specs.World.{World}
use Rattle.slub_core.specs.Local.{Local, Worker, nobody, answered, noted}
use Rattle.slub_core.specs.Spots.{doing}
use Rattle.slub_core.specs.Steps.{at_once, settled, told_at_once, or_step, rested_with, rested_at, rested, begun_at, begun_with}
use Rattle.slub_core.specs.Round.{in_order}
use Rattle.slub_core.proofs.Accounts.{Comes}
use Rattle.slub_core.proofs.Scripts.{Leaves, change-leaves}
use Rattle.slub_core.proofs.TaleReplies.{told-of}
use Rattle.slub_core.proofs.TaleSettled.{comes_once}

abbrev pub script : Local → List Call
script l = in_order l.done l.todo

-- a reply to a call
answered-script : (l : Local) (r : Reply) → 1 ≤ length l.todo → script (answered l r) ≡ script l
answered-script l r some = by_todo l.todo refl some
  where
    by_todo : (calls : List Call) → l.todo ≡ calls → 1 ≤ length calls → script (answered l r) ≡ script l
    by_todo [] e some = absurd (omega arith)
    by_todo (call ∷ calls) e some = rw e refl

noted-script : (l n : Local) (s : Spot) (r : Option Reply) → Leaves l s n r → (IsSome (doing s) → 1 ≤ length l.todo) → script (noted n r) ≡ script l
noted-script l n s None leaves some = rw (leaves.0, leaves.1) refl
noted-script l n s (Some r) (todo, done, inl none) some = absurd (none-some r (sym none))
noted-script l n s (Some r) (todo, done, inr at) some = answered-script n r (rw todo (some at)) ∙ rw (todo, done) refl

-- a worker that is in a call has it
pub has-call : (opening w : World) (others : List Worker) (l : Local) → Comes opening w others l → IsSome (doing l.spot) → 1 ≤ length l.todo
has-call opening w others l (stands, (z, e, ac)) at = subst (λ (l : Local). 1 ≤ length l.todo) e (by_kind (doing z.local.spot) refl (subst (λ (l : Local). IsSome (doing l.spot)) (sym e) at))
  where
    by_kind : (kind : Option CallKind) → doing z.local.spot ≡ kind → IsSome kind → 1 ≤ length z.local.todo
    by_kind None is at = absurd (false≢true at)
    by_kind (Some kind) is at = ((told-of opening w z others ac).call kind is).0.some

-- ---- what is done at once, and replies that take no step

once-script : (opening w : World) (refused : Bool) (others : List Worker) (l : Local) → Comes opening w others l → let c = at_once w.setup refused w.value l l.spot in script (noted c.local c.reply) ≡ script l
once-script opening w refused others l comes =
    let c = at_once w.setup refused w.value l l.spot in
    noted-script l c.local l.spot c.reply (change-leaves w.setup refused w.value l l.spot) (has-call opening w others l comes)

pub settled-script : (opening w : World) (refused : Bool) (others : List Worker) (l : Local) (reply : Option Reply) → Comes opening w others (noted l reply)
    → let c = settled w.setup refused (record { value = w.value; local = l; reply = reply }) in script (noted c.local c.reply) ≡ script (noted l reply)
settled-script opening w refused others l reply comes =
    let n = noted l reply in
    let c = at_once w.setup refused w.value n n.spot in
    once-script opening (record w { value = c.value }) refused others (noted c.local c.reply) (comes_once opening w refused others n comes) ∙ once-script opening w refused others n comes

or-script : (l : Local) (more : Reply → Local) (r : Option Reply) → ((reply : Reply) → script (more reply) ≡ script l) → script (or_step l more r) ≡ script l
or-script l more None d = refl
or-script l more (Some reply) d = d reply

rested-script : (m : Setup) (calls : List Call) (l : Local) → l.todo ≡ calls → script (rested_with m calls l) ≡ script l
rested-script m [] l e = refl
rested-script m (call ∷ calls) l e =
    or-script l (λ reply. rested_with m calls (answered l reply)) (told_at_once m (get_or l.known (call_place call) nobody) call (call_kind call))
    (λ reply. rested-script m calls (answered l reply) (rw e refl) ∙ answered-script l reply (rw e (omega arith)))

pub rested_at-script : (m : Setup) (l : Local) (spot : Spot) → script (rested_at m l spot) ≡ script l
rested_at-script m l Between = rested-script m l.todo l refl
rested_at-script m l _ = refl

-- ---- a step

-- where a step leads, with what is done at once after it
pub step-script : (opening w : World) (refused : Bool) (others : List Worker) (l n : Local) (s : Spot) (reply : Option Reply) → Leaves l s n reply → (IsSome (doing s) → 1 ≤ length l.todo) → Comes opening w others (noted n reply)
    → let c = settled w.setup refused (record { value = w.value; local = n; reply = reply }) in script (rested w.setup (noted c.local c.reply)) ≡ script l
step-script opening w refused others l n s reply leaves some comes =
    let c = settled w.setup refused (record { value = w.value; local = n; reply = reply }) in
    let z = noted c.local c.reply in
    rested_at-script w.setup z z.spot ∙ settled-script opening w refused others n reply comes ∙ noted-script l n s reply leaves some

pub begun-script : (m : Setup) (fast : Bool) (l : Local) (spot : Spot) → script (begun_at m fast l spot) ≡ script l
begun-script m fast l Between = by_todo l.todo
  where
    by_todo : (calls : List Call) → script (begun_with m fast l calls) ≡ script l
    by_todo [] = refl
    by_todo (call ∷ calls) = refl
begun-script m fast l _ = refl

-- ---- all workers

pub scripts-set : (ls : List Local) (k : ℕ) (v d : Local) → script v ≡ script (get_or ls k d) → map script (set ls k v) ≡ map script ls
scripts-set [] k v d e = refl
scripts-set (l ∷ ls) zero v d e = ap (λ c. c ∷ map script ls) e
scripts-set (l ∷ ls) (suc k) v d e = ap (λ cs. script l ∷ cs) (scripts-set ls k v d e)
