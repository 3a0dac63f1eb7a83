-- A step that changes no word, nor what a lock guards.
use Rattle.std.proofs.Common.{◌≡◌, ℕ, List, ◌∷◌, arith}
use Rattle.std.proofs.lemmas.List.Sums.{sum_by-cons}
use Rattle.std.proofs.lemmas.List.Elements.{All-cons, All-tail}
use Rattle.slub_core.specs.World.{World, Chains}
use Rattle.slub_core.specs.Local.{Worker}
use Rattle.slub_core.specs.Placed.{owned, IsPlaced}
use Rattle.slub_core.specs.Listed.{home_of, marked_of, covered_by, takes, IsListed}
use Rattle.slub_core.specs.Fresh.{IsAtWork}
use Rattle.slub_core.specs.Coherent.{Stands}
use Rattle.slub_core.proofs.Counts.{places-cons, homes-cons, roles-cons}

-- the worker has the same slabs, marks, frames and locks
pub record Settled (x z : Worker) : Type 0 where
  pub home : (f : ℕ) → home_of f z ≡ home_of f x
  pub marked : (f : ℕ) → marked_of f z ≡ marked_of f x
  pub covered : (g : ℕ) → covered_by g z.local.run ≡ covered_by g x.local.run
  pub takes : (n : ℕ) → takes n z ≡ takes n x

pub placed-settled : (w : World) (y : Chains) (x z : Worker) (others : List Worker) → ((f i : ℕ) → owned f i z ≡ owned f i x) → IsPlaced w y (x ∷ others) → IsPlaced w y (z ∷ others)
placed-settled w y x z others same p = record {
  once = λ f i. let new = places-cons w y z others f i in let old = places-cons w y x others f i in let was = p.once f i in let s = same f i in omega arith;
  cpu_chain = p.cpu_chain;
  own_chain = p.own_chain;
}

pub listed-settled : (w : World) (y : Chains) (x z : Worker) (others : List Worker) → Settled x z → IsListed w y (x ∷ others) → IsListed w y (z ∷ others)
listed-settled w y x z others same p = record {
  once = λ f some. let new = homes-cons w y z others f in let old = homes-cons w y x others f in let was = p.once f some in let s = same.home f in omega arith;
  marked = λ f. let new = sum_by-cons (marked_of f) z others in let old = sum_by-cons (marked_of f) x others in let was = p.marked f in let s = same.marked f in omega arith;
  framed = λ g. let new = roles-cons w z others g in let old = roles-cons w x others g in let was = p.framed g in let s = same.covered g in omega arith;
  locked = λ n below. let new = sum_by-cons (takes n) z others in let old = sum_by-cons (takes n) x others in let was = p.locked n below in let s = same.takes n in omega arith;
  shaped = p.shaped;
}

-- What a step owes that changes no word: the worker has what it had, in another spot.
pub local_step : (w : World) (x z : Worker) (others : List Worker) → Stands w (x ∷ others)
    → ((f i : ℕ) → owned f i z ≡ owned f i x) → Settled x z → IsAtWork w z → Stands w (z ∷ others)
local_step w x z others s same settled ok = record {
  chains = s.chains;
  placed = placed-settled w s.chains x z others same s.placed;
  listed = listed-settled w s.chains x z others settled s.listed;
  fresh = record {
    setup = s.fresh.setup;
    worded = s.fresh.worded;
    workers = All-cons (IsAtWork w) z others ok (All-tail (IsAtWork w) x others s.fresh.workers);
  };
}
