-- Replies that take no step keep all, and after them the next call takes a step.
use Rattle.std.proofs.Common.{◌≡◌, Option, Some, None, List, [], ◌∷◌, get_or, refl, sym, ap, ◌∙◌, subst}
use Rattle.slub_trace.specs.declared.reply.Reply.{Reply}
use Rattle.slub_core.specs.declared.call.Call.{Call}
use Rattle.slub_core.specs.declared.spot.Spot.{Spot}
use Rattle.slub_core.specs.declared.spot.Spot.TheVariants.{Between}
use Rattle.slub_core.specs.Calls.{call_kind, call_place}
use Rattle.slub_core.specs.Setup.{Setup}
use Rattle.slub_core.specs.World.{World}
use Rattle.slub_core.specs.Local.{Local, Worker, nobody, answered}
use Rattle.slub_core.specs.Steps.{told_at_once, or_step, rested_with, rested_at}
use Rattle.slub_core.specs.Coherent.{Stands}
use Rattle.slub_core.specs.Accounted.{IsAccounted}
use Rattle.slub_core.specs.Law.{TakesStep, IsRested}
use Rattle.slub_core.proofs.Accounts.{Comes}
use Rattle.slub_core.proofs.Noted.{answered-comes}
use Rattle.slub_core.proofs.TaleRest.{told_at_rest}
use Rattle.slub_core.proofs.TaleSpots.{accounted-as}

-- ---- replies that take no step

-- the worker with its chains and strings in hand, and the account of it
pub joined : (opening w : World) (others : List Worker) (l : Local) → Comes opening w others l → (z : Worker) × (z.local ≡ l) × Stands w (z ∷ others) × IsAccounted opening w (z ∷ others)
joined opening w others l ((z, e, s), (y, d, ac)) = (z, e, s, accounted-as opening w y z others (e ∙ sym d) ac)

or-comes : (opening w : World) (others : List Worker) (l : Local) (more : Reply → Local) (r : Option Reply) → Comes opening w others l → ((reply : Reply) → r ≡ Some reply → Comes opening w others (more reply)) → Comes opening w others (or_step l more r)
or-comes opening w others l more None c d = c
or-comes opening w others l more (Some reply) c d = d reply refl

-- such a reply
reply-comes : (opening w : World) (others : List Worker) (call : Call) (calls : List Call) (l : Local) (r : Reply) → l.spot ≡ Between → l.todo ≡ call ∷ calls → told_at_once w.setup (get_or l.known (call_place call) nobody) call (call_kind call) ≡ Some r → Comes opening w others l
    → Comes opening w others (answered l r)
reply-comes opening w others call calls l r is todo at_once_told come = by_worker (joined opening w others l come)
  where
    by_worker : (z : Worker) × (z.local ≡ l) × Stands w (z ∷ others) × IsAccounted opening w (z ∷ others) → Comes opening w others (answered l r)
    by_worker (z, e, s, ac) = (
      answered-comes w others l r (rw is refl) come.0,
      (
        record z { local = answered z.local r },
        ap (λ l. answered l r) e,
        told_at_rest opening w z others call calls r (ap (λ (l : Local). l.spot) e ∙ is) (ap (λ (l : Local). l.todo) e ∙ todo) s
            (subst (λ l. told_at_once w.setup (get_or l.known (call_place call) nobody) call (call_kind call) ≡ Some r) (sym e) at_once_told) ac,
      ),
    )

rests : (opening w : World) (others : List Worker) (calls : List Call) (l : Local) → l.spot ≡ Between → l.todo ≡ calls → Comes opening w others l → Comes opening w others (rested_with w.setup calls l)
rests opening w others [] l is todo c = c
rests opening w others (call ∷ calls) l is todo c =
    or-comes opening w others l (λ reply. rested_with w.setup calls (answered l reply)) (told_at_once w.setup (get_or l.known (call_place call) nobody) call (call_kind call)) c
    (λ reply given. rests opening w others calls (answered l reply) is (rw todo refl) (reply-comes opening w others call calls l reply is todo given c))

pub rests-at : (opening w : World) (others : List Worker) (l : Local) (spot : Spot) → l.spot ≡ spot → Comes opening w others l → Comes opening w others (rested_at w.setup l spot)
rests-at opening w others l Between is c = rests opening w others l.todo l is refl c
rests-at opening w others l _ is c = c

-- after them the next call takes a step
or-takes : (m : Setup) (l : Local) (more : Reply → Local) (r : Option Reply) → (r ≡ None → TakesStep m l l.todo) → ((reply : Reply) → TakesStep m (more reply) (more reply).todo) → TakesStep m (or_step l more r) (or_step l more r).todo
or-takes m l more None c d = c refl
or-takes m l more (Some reply) c d = d reply

takes_step : (m : Setup) (calls : List Call) (l : Local) → l.todo ≡ calls → TakesStep m (rested_with m calls l) (rested_with m calls l).todo
takes_step m [] l e = rw e tt
takes_step m (call ∷ calls) l e =
    or-takes m l (λ reply. rested_with m calls (answered l reply)) (told_at_once m (get_or l.known (call_place call) nobody) call (call_kind call))
    (λ none. rw e none) (λ reply. takes_step m calls (answered l reply) (rw e refl))

pub is_rested : (m : Setup) (l : Local) (spot : Spot) → l.spot ≡ spot → IsRested m (rested_at m l spot)
is_rested m l Between e = λ between. takes_step m l.todo l refl
is_rested m l _ e = λ between. absurd (let z = sym e ∙ between in cc)
