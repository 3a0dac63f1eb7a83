-- Turns of a worker leave it its number, and the numbers of the objects that it knows.
use Rattle.std.proofs.Common.{◌≡◌, ℕ, zero, suc, ◌<◌, Bool, false, List, [], ◌∷◌, length, get_or, Option, Some, None, refl, sym, ◌∙◌, subst, arith}
use Rattle.std.proofs.lemmas.List.{get_or-set_same, length-set}
use Rattle.slub_trace.specs.declared.reply.Reply.{Reply}
use Rattle.slub_core.specs.declared.call.Call.{Call}
use Rattle.slub_core.specs.declared.spot.Spot.{Spot}
use Rattle.slub_core.specs.declared.spot.Spot.TheVariants.{Between}
use Rattle.slub_core.specs.declared.step.Answer.{Answer}
use Rattle.slub_core.specs.Calls.{call_kind, call_place}
use Rattle.slub_core.specs.Setup.{Setup}
use Rattle.slub_core.specs.Words.{number_of, answer_of}
use Rattle.slub_core.specs.World.{LockValue}
use Rattle.slub_core.specs.Local.{Local, Change, nobody, answered, noted}
use Rattle.slub_core.specs.Steps.{step_of, advance_at, advance_of, changed, settled, told_at_once, or_step, rested_with, rested_at, rested, begun, begun_at, begun_with}
use Rattle.slub_core.specs.Run.{System, idle, turn}
use Rattle.slub_law_alone.specs.Alone.{own_pick, alone, worker_at}
use Rattle.slub_law_alone.proofs.SerialSteps.{Keeps, turn-says, change-leaves}

keeps-on : (l n k : Local) → Keeps l n → Keeps n k → Keeps l k
keeps-on l n k first then_ = (then_.0 ∙ first.0, then_.1 ∙ first.1)

noted-keeps : (l : Local) (r : Option Reply) → Keeps l (noted l r)
noted-keeps l None = (refl, refl)
noted-keeps l (Some r) = (refl, refl)

changed-keeps : (m : Setup) (refused : Bool) (c : Change) → Keeps c.local (changed m refused c).local
changed-keeps m refused c =
    let l = noted c.local c.reply in
    keeps-on c.local l (changed m refused c).local (noted-keeps c.local c.reply) (change-leaves m refused c.value l l.spot)

-- ---- replies that take no step

or-keeps : (l : Local) (more : Reply → Local) (r : Option Reply) → ((reply : Reply) → Keeps l (more reply)) → Keeps l (or_step l more r)
or-keeps l more None d = (refl, refl)
or-keeps l more (Some reply) d = d reply

with-keeps : (m : Setup) (calls : List Call) (l : Local) → Keeps l (rested_with m calls l)
with-keeps m [] l = (refl, refl)
with-keeps m (call ∷ calls) l =
    or-keeps l (λ reply. rested_with m calls (answered l reply)) (told_at_once m (get_or l.known (call_place call) nobody) call (call_kind call))
    (λ reply. with-keeps m calls (answered l reply))

at-keeps : (m : Setup) (l : Local) (spot : Spot) → Keeps l (rested_at m l spot)
at-keeps m l Between = with-keeps m l.todo l
at-keeps m l _ = (refl, refl)

pub rested-keeps : (m : Setup) (l : Local) → Keeps l (rested m l)
rested-keeps m l = at-keeps m l l.spot

-- ---- turns

begun-keeps : (m : Setup) (fast : Bool) (l : Local) (spot : Spot) → Keeps l (begun_at m fast l spot)
begun-keeps m fast l Between = by_todo l.todo
  where
    by_todo : (calls : List Call) → Keeps l (begun_with m fast l calls)
    by_todo [] = (refl, refl)
    by_todo (call ∷ calls) = (refl, refl)
begun-keeps m fast l _ = (refl, refl)

advance-keeps : (m : Setup) (value : ℕ → LockValue) (l : Local) (a : Answer) → Keeps l (advance_of m false value l a).local
advance-keeps m value l a =
    let t = advance_at m value l l.spot a in
    let first : Change = record { value = value; local = t.local; reply = t.reply } in
    let second = changed m false first in
    let c = settled m false first in
    let n = noted c.local c.reply in
    keeps-on l t.local (rested m n) (turn-says m value l l.spot a)
    (keeps-on t.local second.local (rested m n) (changed-keeps m false first)
    (keeps-on second.local c.local (rested m n) (changed-keeps m false second)
    (keeps-on c.local n (rested m n) (noted-keeps c.local c.reply) (rested-keeps m n))))

turn-keeps : (m : Setup) (system : System) (x : ℕ) → x < length system.locals → Keeps (worker_at system x) (worker_at (turn m system (own_pick x)) x)
turn-keeps m system x below =
    let l = worker_at system x in
    let b = begun m false l in
    let step = step_of m system.value b in
    let q = get_or system.words (number_of m step.place) 0 in
    let n = (advance_of m false system.value b (answer_of step.op q)).local in
    subst (Keeps l) (sym (get_or-set_same system.locals x n idle below))
    (keeps-on l b n (begun-keeps m false l l.spot) (advance-keeps m system.value b (answer_of step.op q)))

turn-count : (m : Setup) (system : System) (x : ℕ) → length (turn m system (own_pick x)).locals ≡ length system.locals
turn-count m system x =
    let b = begun m false (worker_at system x) in
    let step = step_of m system.value b in
    let q = get_or system.words (number_of m step.place) 0 in
    length-set system.locals x (advance_of m false system.value b (answer_of step.op q)).local

pub alone-keeps : (m : Setup) (x n : ℕ) (system : System) → x < length system.locals → Keeps (worker_at system x) (worker_at (alone m x n system) x)
alone-keeps m x zero system below = (refl, refl)
alone-keeps m x (suc n) system below =
    let next = turn m system (own_pick x) in
    let last = alone m x n next in
    let e = turn-count m system x in
    keeps-on (worker_at system x) (worker_at next x) (worker_at last x) (turn-keeps m system x below) (alone-keeps m x n next (omega (arith, below, e)))
