-- A reply changes nothing of what stands: the facts of the machine do not read what a worker was answered.
use Rattle.std.proofs.Common.{◌≡◌, false, Option, Some, None, List, refl, sym, ap, ◌∙◌, arith, inl, inr}
use Rattle.std.proofs.lemmas.List.Elements.{All-head}
use Rattle.std.proofs.lemmas.Option.{none-some}
use Rattle.slub_trace.specs.declared.reply.Reply.{Reply}
use Rattle.slub_core.specs.World.{World}
use Rattle.slub_core.specs.Local.{Local, Worker, answered, noted}
use Rattle.slub_core.specs.Spots.{uses_word}
use Rattle.slub_core.specs.Fresh.{IsAtWork}
use Rattle.slub_core.proofs.LocalStep.{local_step}
use Rattle.slub_core.proofs.Locks.{ComesTo}
use Rattle.slub_core.proofs.Tells.{Quiet}

answered-work : (w : World) (x : Worker) (r : Reply) → uses_word x.local.spot ≡ false → IsAtWork w x → IsAtWork w (record x { local = answered x.local r })
answered-work w x r away ok = grind arith

pub answered-comes : (w : World) (others : List Worker) (l : Local) (r : Reply) → uses_word l.spot ≡ false → ComesTo w others l → ComesTo w others (answered l r)
answered-comes w others l r away (z, e, s) = (
  record z { local = answered z.local r },
  ap (λ l. answered l r) e,
  local_step w z _ others s (λ f i. refl) (record { home = λ f. refl; marked = λ f. refl; covered = λ g. refl; takes = λ n. refl })
      (answered-work w z r (ap (λ l. uses_word l.spot) e ∙ away) (All-head (IsAtWork w) z others s.fresh.workers)),
)

pub noted-comes : (w : World) (others : List Worker) (l : Local) (r : Option Reply) → Quiet r l.spot → ComesTo w others l → ComesTo w others (noted l r)
noted-comes w others l None quiet c = c
noted-comes w others l (Some r) (inl none) c = absurd (none-some r (sym none))
noted-comes w others l (Some r) (inr away) c = answered-comes w others l r away c
