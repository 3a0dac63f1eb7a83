-- A worker that looks for a slab and has none in hand may as well stand between two calls: the machine is coherent either way.
use Rattle.std.proofs.Common.{◌≡◌, ℕ, ◌<◌, List, ◌∷◌, ◌++◌, length, get_or, set, map, refl, sym, ap, ◌∙◌, subst, arith}
use Rattle.std.proofs.Math.Seq.{set-append_seam, get_or-append_seam}
use Rattle.std.proofs.lemmas.Bool.{false≢true}
use Rattle.std.proofs.lemmas.List.{map-set, get_or-map, get_or-set_same, set-set, length-set}
use Rattle.std.proofs.lemmas.List.Elements.{All-set}
use Rattle.slub_core.specs.declared.spot.Spot.TheVariants.{Between, InAlloc}
use Rattle.slub_core.specs.declared.spot.AllocSpot.TheVariants.{TakeList}
use Rattle.slub_core.specs.Setup.{Setup}
use Rattle.slub_core.specs.World.{World, LockValue, world_of}
use Rattle.slub_core.specs.Local.{Local, Worker}
use Rattle.slub_core.specs.Fresh.{IsAtWork}
use Rattle.slub_core.specs.Coherent.{Stands}
use Rattle.slub_core.specs.Accounted.{IsAccounted}
use Rattle.slub_core.specs.Law.{IsCoherentSystem, IsRested}
use Rattle.slub_core.specs.Run.{System, idle}
use Rattle.slub_core.proofs.Accounts.{Comes}
use Rattle.slub_core.proofs.Among.{to_front, from_front}
use Rattle.slub_core.proofs.Leads.{at_work}
use Rattle.slub_core.proofs.LocalStep.{local_step}
use Rattle.slub_core.proofs.Rests.{joined}
use Rattle.slub_core.proofs.TaleBegin.{accounted_to_front, accounted_from_front}
use Rattle.slub_core.proofs.TaleQuiet.{told_like}
use Rattle.slub_core.proofs.TaleSpots.{unseen-same}
use Rattle.slub_core.proofs.Turns.{split}
use Rattle.slub_law_opening.proofs.Standing.{no_worker}
use Rattle.slub_law_alone.specs.Alone.{worker_at}
use Rattle.slub_law_alone.proofs.Turns.{machine}
use Rattle.slub_law_alone.proofs.Workers.{length-mapped}

-- ---- one worker of a coherent machine in another place

pub elsewhere : (m : Setup) (opening : World) (s : System) (x : ℕ) (n : Local) → x < length s.locals → IsRested m n
    → ((z : Worker) (others : List Worker) → z.local ≡ worker_at s x → Stands (world_of m s.value s.words) (z ∷ others) → IsAccounted opening (world_of m s.value s.words) (z ∷ others) → Comes opening (world_of m s.value s.words) others n)
    → IsCoherentSystem m opening s → IsCoherentSystem m opening (record s { locals = set s.locals x n })
elsewhere m opening s x n below rested comes is =
    let w = world_of m s.value s.words in
    let long = length-mapped (λ (x : Worker). x.local) is.workers in
    let same = ap (length {A = Local}) is.locals in
    let r = split is.workers x (omega (arith, below, long, same)) in
    let all : Stands w is.workers = record { chains = is.chains; placed = is.coherent.placed; listed = is.coherent.listed; fresh = is.coherent.fresh } in
    by_split r.0 r.2 r.1 r.4 (sym (ap (map (λ (x : Worker). x.local)) r.3) ∙ is.locals) (subst (Stands w) r.3 all) (subst (IsAccounted opening w) r.3 is.coherent.accounted)
  where
    by_split : (front back : List Worker) (z : Worker) → length front ≡ x → map (λ (x : Worker). x.local) (front ++ z ∷ back) ≡ s.locals → Stands (world_of m s.value s.words) (front ++ z ∷ back) → IsAccounted opening (world_of m s.value s.words) (front ++ z ∷ back)
        → IsCoherentSystem m opening (record s { locals = set s.locals x n })
    by_split front back z at locals all ac =
        let w = world_of m s.value s.words in
        let mine : z.local ≡ worker_at s x = ap (λ (x : Worker). x.local) (sym (get_or-append_seam front z back no_worker)) ∙ ap (λ j. (get_or (front ++ z ∷ back) j no_worker).local) at
        ∙ sym (get_or-map (λ (x : Worker). x.local) (front ++ z ∷ back) x no_worker idle (let a = length-mapped (λ (x : Worker). x.local) (front ++ z ∷ back) in let b = ap (length {A = Local}) locals in omega (arith, a, b, below))) ∙ ap (λ ls. get_or ls x idle) locals in
        let y = joined opening w (front ++ back) n (comes z (front ++ back) mine (to_front w front back z all) (accounted_to_front opening w front back z ac)) in
        let stands = from_front w front back y.0 y.2 in
        record {
          words = is.words;
          workers = front ++ y.0 ∷ back;
          locals = ap (map (λ (x : Worker). x.local)) (sym (set-append_seam front z back y.0)) ∙ map-set (λ (x : Worker). x.local) (front ++ z ∷ back) (length front) y.0
              ∙ ap (λ ls. set ls (length front) y.0.local) locals ∙ ap (λ j. set s.locals j y.0.local) at ∙ ap (set s.locals x) y.1;
          chains = stands.chains;
          coherent = record { placed = stands.placed; listed = stands.listed; fresh = stands.fresh; accounted = accounted_from_front opening w front back y.0 y.3 };
          rested = All-set (IsRested m) s.locals x n rested is.rested;
        }

-- ---- from where it is to take the CPU's partial list

-- the worker between two calls
abbrev pub waiting : Local → Local
waiting l = record l { spot = Between }

recalled_work : (w : World) (x : Worker) → x.local.spot ≡ InAlloc TakeList → IsAtWork w x → IsAtWork w (record x { local = waiting x.local })
recalled_work w x is ok = grind arith

recalled_comes : (opening w : World) (z : Worker) (others : List Worker) → z.local.spot ≡ InAlloc TakeList → Stands w (z ∷ others) → IsAccounted opening w (z ∷ others) → Comes opening w others (waiting z.local)
recalled_comes opening w z others is s ac = (
  (
    record z { local = waiting z.local },
    refl,
    local_step w z _ others s (λ f i. refl) (record { home = λ f. refl; marked = λ f. rw is refl; covered = λ g. refl; takes = λ n. rw is refl }) (recalled_work w z is (at_work w z others s)),
  ),
  (
    record z { local = waiting z.local },
    refl,
    told_like opening w w z (record z { local = waiting z.local }) others ac (unseen-same w) (record {
      known = refl;
      done = refl;
      todo = refl;
      freeing = λ f. absurd (false≢true (rw is at f));
      frees = λ f. absurd (false≢true (rw is at f));
      source = λ f. absurd (false≢true f);
      call = λ kind e. absurd (let z = e in cc);
    }),
  ),
)

pub recalled_coherent : (m : Setup) (opening : World) (words : List ℕ) (value : ℕ → LockValue) (ls : List Local) (x : ℕ) (l : Local) → x < length ls → l.spot ≡ InAlloc TakeList → IsRested m (waiting l) → IsCoherentSystem m opening (machine words value (set ls x l))
    → IsCoherentSystem m opening (machine words value (set ls x (waiting l)))
recalled_coherent m opening words value ls x l below is rested coherent =
    let w = world_of m value words in
    subst (λ ls. IsCoherentSystem m opening (machine words value ls)) (set-set ls x l (waiting l))
    (elsewhere m opening (machine words value (set ls x l)) x (waiting l) (let e = length-set ls x l in omega (arith, e, below)) rested
    (λ z others mine stands ac. let own = mine ∙ get_or-set_same ls x l idle below in subst (λ l. Comes opening w others (waiting l)) own (recalled_comes opening w z others (ap (λ (l : Local). l.spot) own ∙ is) stands ac)) coherent)
