-- A worker among the others of a coherent machine, and what further calls leave of it that take no step.
use Rattle.std.proofs.Common.{◌≡◌, ℕ, zero, suc, ◌<◌, ◌≤◌, List, [], ◌∷◌, ◌++◌, get_or, map, length, Option, Some, None, refl, ap, sym, ◌∙◌, subst, arith}
use Rattle.std.proofs.lemmas.List.{get_or-map}
use Rattle.slub_trace.specs.declared.reply.Reply.{Reply}
use Rattle.slub_core.specs.declared.call.Call.{Call}
use Rattle.slub_core.specs.declared.local.Answered.{Answered}
use Rattle.slub_core.specs.declared.spot.Spot.TheVariants.{Between}
use Rattle.slub_core.specs.Calls.{call_kind, call_place}
use Rattle.slub_core.specs.Setup.{Setup}
use Rattle.slub_core.specs.World.{World, world_from, world_of}
use Rattle.slub_core.specs.Local.{Local, Worker, nobody, answered}
use Rattle.slub_core.specs.Steps.{told_at_once, or_step, rested_with, rested_at, rested}
use Rattle.slub_core.specs.Coherent.{Stands}
use Rattle.slub_core.specs.Accounted.{IsAccounted}
use Rattle.slub_core.specs.Law.{IsCoherentSystem}
use Rattle.slub_core.specs.Run.{System, idle}
use Rattle.slub_core.proofs.Among.{to_front}
use Rattle.slub_core.proofs.MayBegin.{MayBegin, MayBeginFirst, may_begin}
use Rattle.slub_core.proofs.TaleBegin.{accounted_to_front}
use Rattle.slub_core.proofs.Turns.{split}
use Rattle.slub_law_opening.specs.Rests.{times_named}
use Rattle.slub_law_opening.proofs.Once.{named-once}
use Rattle.slub_law_opening.proofs.Standing.{no_worker}

-- ---- one worker and the others

pub record AtFront (m : Setup) (opening : World) (system : System) (x : ℕ) : Type 0 where
  pub worker : Worker
  pub others : List Worker
  pub local : worker.local ≡ get_or system.locals x idle
  pub stands : Stands (world_of m system.value system.words) (worker ∷ others)
  pub account : IsAccounted opening (world_of m system.value system.words) (worker ∷ others)

pub get_or-middle : {X : Type 0} (front back : List X) (x d : X) (k : ℕ) → length front ≡ k → get_or (front ++ x ∷ back) k d ≡ x
get_or-middle [] back x d k e = ap (λ k. get_or (x ∷ back) k d) (sym e)
get_or-middle (y ∷ front) back x d zero e = absurd (omega arith)
get_or-middle (y ∷ front) back x d (suc k) e = get_or-middle front back x d k (omega arith)

pub length-mapped : {X Y : Type 0} (f : X → Y) (xs : List X) → length (map f xs) ≡ length xs
length-mapped f [] = refl
length-mapped f (x ∷ xs) = ap suc (length-mapped f xs)

pub at_front : (m : Setup) (opening : World) (system : System) (x : ℕ) → x < length system.locals → IsCoherentSystem m opening system → AtFront m opening system x
at_front m opening system x below is =
    let w = world_of m system.value system.words in
    let long = length-mapped (λ (x : Worker). x.local) is.workers in
    let same = ap (length {A = Local}) is.locals in
    let inside : x < length is.workers = omega arith in
    let r = split is.workers x inside in
    let all : Stands w is.workers = record { chains = is.chains; placed = is.coherent.placed; listed = is.coherent.listed; fresh = is.coherent.fresh } in
    record {
      worker = r.1;
      others = r.0 ++ r.2;
      local = sym (ap (λ (x : Worker). x.local) (ap (λ xs. get_or xs x no_worker) r.3 ∙ get_or-middle r.0 r.2 r.1 no_worker x r.4))
          ∙ sym (get_or-map (λ (x : Worker). x.local) is.workers x no_worker idle inside) ∙ ap (λ ls. get_or ls x idle) is.locals;
      stands = to_front w r.0 r.2 r.1 (subst (Stands w) r.3 all);
      account = accounted_to_front opening w r.0 r.2 r.1 (subst (IsAccounted opening w) r.3 is.coherent.accounted);
    }

-- each number names one object at most
pub once_named : (m : Setup) (opening : World) (system : System) → IsCoherentSystem m opening system → (o : ℕ) → times_named (world_of m system.value system.words) system.locals o ≤ 1
once_named m opening system is o = subst (λ ls. times_named (world_of m system.value system.words) ls o ≤ 1) is.locals (named-once opening (world_of m system.value system.words) is.workers is.coherent.accounted o)

-- ---- calls that take no step

-- they change nothing but what is to do, and the replies
abbrev pub with_calls : Local → List Call → List Answered → Local
with_calls l todo done = record l { todo = todo; done = done }

pub record IsWithCalls (l end : Local) : Type 0 where
  pub todo : List Call
  pub done : List Answered
  pub same : end ≡ with_calls l todo done

calls_with : (m : Setup) (calls : List Call) (l : Local) → IsWithCalls l (rested_with m calls l)
calls_with m [] l = record { todo = l.todo; done = l.done; same = refl }
calls_with m (call ∷ calls) l = by (told_at_once m (get_or l.known (call_place call) nobody) call (call_kind call)) (λ reply. calls_with m calls (answered l reply))
  where
    by : (r : Option Reply) → ((reply : Reply) → IsWithCalls (answered l reply) (rested_with m calls (answered l reply))) → IsWithCalls l (or_step l (λ reply. rested_with m calls (answered l reply)) r)
    by None more = record { todo = l.todo; done = l.done; same = refl }
    by (Some reply) more = let r = more reply in record { todo = r.todo; done = r.done; same = r.same }

pub rested_calls : (m : Setup) (l : Local) → l.spot ≡ Between → IsWithCalls l (rested m l)
rested_calls m l is = subst (λ spot. IsWithCalls l (rested_at m l spot)) (sym is) (calls_with m l.todo l)

-- ---- what a call begins with

-- the first of the worker's calls may begin
pub may_call : (m : Setup) (opening : World) (system : System) (x : ℕ) (call : Call) (calls : List Call) (front : AtFront m opening system x) → (get_or system.locals x idle).todo ≡ call ∷ calls → MayBegin m (get_or system.locals x idle) call
unfolding world_of world_from
may_call m opening system x call calls front todo =
    let w = world_of m system.value system.words in
    subst (MayBeginFirst m (get_or system.locals x idle)) todo (subst (λ l. MayBeginFirst m l l.todo) front.local (may_begin opening w front.worker front.others front.account))
