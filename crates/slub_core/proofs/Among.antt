-- The facts do not depend on the order of the workers.
use Rattle.std.proofs.Common.{◌≡◌, ℕ, List, [], ◌∷◌, ◌++◌, sym, arith}
use Rattle.std.specs.Prelude.{All, sum_by}
use Rattle.std.proofs.lemmas.List.Sums.{sum_by-cons, sum_by-append}
use Rattle.std.proofs.lemmas.List.Elements.{All-cons, All-head, All-tail}
use Rattle.slub_core.specs.World.{World}
use Rattle.slub_core.specs.Local.{Worker}
use Rattle.slub_core.specs.Placed.{owned}
use Rattle.slub_core.specs.Listed.{home_of, marked_of, covered_by, takes}
use Rattle.slub_core.specs.Fresh.{IsAtWork}
use Rattle.slub_core.specs.Coherent.{Stands}

pub sum_by-middle : {X : Type 0} (f : X → ℕ) (front back : List X) (x : X) → sum_by f (front ++ x ∷ back) ≡ sum_by f (x ∷ (front ++ back))
sum_by-middle f front back x =
    let a = sum_by-append f front (x ∷ back) in
    let b = sum_by-cons f x back in
    let c = sum_by-cons f x (front ++ back) in
    let d = sum_by-append f front back in
    omega arith

pub All-middle : {X : Type 0} (P : X → Type 0) (front back : List X) (x : X) → All P (front ++ x ∷ back) → All P (x ∷ (front ++ back))
All-middle P [] back x all = all
All-middle P (y ∷ front) back x all =
    let rest = All-middle P front back x (All-tail P y (front ++ x ∷ back) all) in
    All-cons P x (y ∷ (front ++ back)) (All-head P x (front ++ back) rest) (All-cons P y (front ++ back) (All-head P y (front ++ x ∷ back) all) (All-tail P x (front ++ back) rest))

pub All-back : {X : Type 0} (P : X → Type 0) (front back : List X) (x : X) → All P (x ∷ (front ++ back)) → All P (front ++ x ∷ back)
All-back P [] back x all = all
All-back P (y ∷ front) back x all =
    let rest = All-tail P x (y ∷ (front ++ back)) all in
    All-cons P y (front ++ x ∷ back) (All-head P y (front ++ back) rest)
    (All-back P front back x (All-cons P x (front ++ back) (All-head P x (y ∷ (front ++ back)) all) (All-tail P y (front ++ back) rest)))

-- of the list of workers the facts read sums, and a fact of each
same_sums : (w : World) (xs ys : List Worker) → ((f : Worker → ℕ) → sum_by f ys ≡ sum_by f xs) → All (IsAtWork w) ys → Stands w xs → Stands w ys
same_sums w xs ys sums workers s = record {
  chains = s.chains;
  placed = record {
    once = λ f i. let e = sums (owned f i) in let was = s.placed.once f i in omega arith;
    cpu_chain = s.placed.cpu_chain;
    own_chain = s.placed.own_chain;
  };
  listed = record {
    once = λ f some. let e = sums (home_of f) in let was = s.listed.once f some in omega arith;
    marked = λ f. let e = sums (marked_of f) in let was = s.listed.marked f in omega arith;
    framed = λ g. let e = sums (λ (x : Worker). covered_by g x.local.run) in let was = s.listed.framed g in omega arith;
    locked = λ n below. let e = sums (takes n) in let was = s.listed.locked n below in omega arith;
    shaped = s.listed.shaped;
  };
  fresh = record { setup = s.fresh.setup; worded = s.fresh.worded; workers = workers };
}

pub to_front : (w : World) (front back : List Worker) (x : Worker) → Stands w (front ++ x ∷ back) → Stands w (x ∷ (front ++ back))
to_front w front back x s = same_sums w (front ++ x ∷ back) (x ∷ (front ++ back)) (λ f. sym (sum_by-middle f front back x)) (All-middle (IsAtWork w) front back x s.fresh.workers) s

pub from_front : (w : World) (front back : List Worker) (x : Worker) → Stands w (x ∷ (front ++ back)) → Stands w (front ++ x ∷ back)
from_front w front back x s = same_sums w (x ∷ (front ++ back)) (front ++ x ∷ back) (λ f. sum_by-middle f front back x) (All-back (IsAtWork w) front back x s.fresh.workers) s
