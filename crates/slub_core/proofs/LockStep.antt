-- A step that takes a lock, or gives it back. What the lock guards stays where it is.
use Rattle.std.proofs.Common.{◌≡◌, ℕ, suc, ◌+◌, ◌<◌, ◌≤◌, ◌⊎◌, ◌==◌, List, ◌∷◌, get_or, ap, arith, inl, inr}
use Rattle.std.specs.Prelude.{sum_by}
use Rattle.std.proofs.lemmas.Bool.{cases_eq}
use Rattle.std.proofs.lemmas.List.Sums.{sum_by-cons}
use Rattle.std.proofs.lemmas.List.Elements.{All-cons, All-tail}
use Rattle.slub_core.specs.World.{World, update, set_lock, one_if}
use Rattle.slub_core.specs.Local.{Worker}
use Rattle.slub_core.specs.Placed.{owned}
use Rattle.slub_core.specs.Listed.{home_of, marked_of, covered_by, takes}
use Rattle.slub_core.specs.Fresh.{IsAtWork}
use Rattle.slub_core.specs.Coherent.{Stands}
use Rattle.slub_core.proofs.Counts.{places-cons, homes-cons, roles-cons}
use Rattle.slub_core.proofs.Frames.{shaped-lock, worded-lock}
use Rattle.slub_core.proofs.Homes.{lock-alone}
use Rattle.slub_core.proofs.Update.{update_other, update_at}

-- the others don't have the lock
others-lock : (w : World) (n v : ℕ) (o : Worker) → takes n o ≡ 0 → IsAtWork w o → IsAtWork (set_lock w n v) o
others-lock w n v o none ok = record {
  spot = ok.spot;
  seen = record {
    cpu_word = ok.seen.cpu_word;
    next = ok.seen.next;
    linked_cpu = ok.seen.linked_cpu;
    linked_slab = ok.seen.linked_slab;
    known = ok.seen.known;
    hands = ok.seen.hands;
    string = ok.seen.string;
    run = ok.seen.run;
    emptied = ok.seen.emptied;
    freed_last = ok.seen.freed_last;
    scanned = ok.seen.scanned;
    scan = ok.seen.scan;
    scan_next = ok.seen.scan_next;
    locks = λ k has. has-lock k has (cases_eq k n);
  };
}
  where
    has-lock : (k : ℕ) → 1 ≤ takes k o → (k ≡ n) ⊎ (k ≡ n → ⊥) → update w.lock n v k ≡ suc o.local.worker
    has-lock k has (inl e) = absurd (let a : takes k o ≡ takes n o = ap (λ j. takes j o) e in omega arith)
    has-lock k has (inr d) = rw (update_other w.lock n v k d) (ok.seen.locks k has)

-- What kinds 13 and 14 owe: the lock is free or the worker's before, and after; and the worker has what it had.
pub lock_step : (w : World) (x z : Worker) (others : List Worker) (n v : ℕ) → Stands w (x ∷ others)
    → n < w.setup.locks → 1 ≤ takes n x + one_if (w.lock n == 0)
    → ((f i : ℕ) → owned f i z ≡ owned f i x) → ((f : ℕ) → home_of f z ≡ home_of f x) → ((f : ℕ) → marked_of f z ≡ marked_of f x) → ((g : ℕ) → covered_by g z.local.run ≡ covered_by g x.local.run)
    → takes n z + one_if (v == 0) ≡ takes n x + one_if (w.lock n == 0) → ((k : ℕ) → (k ≡ n → ⊥) → takes k z ≡ takes k x)
    → IsAtWork (set_lock w n v) z
    → Stands (set_lock w n v) (z ∷ others)
lock_step w x z others n v s below mine same home marked covered here elsewhere ok =
    let y = s.chains in
    record {
      chains = y;
      placed = record {
        once = λ f i. let new = places-cons w y z others f i in let old = places-cons w y x others f i in let was = s.placed.once f i in let e = same f i in omega arith;
        cpu_chain = s.placed.cpu_chain;
        own_chain = s.placed.own_chain;
      };
      listed = record {
        once = λ f some. let new = homes-cons w y z others f in let old = homes-cons w y x others f in let was = s.listed.once f some in let e = home f in omega arith;
        marked = λ f. let new = sum_by-cons (marked_of f) z others in let old = sum_by-cons (marked_of f) x others in let was = s.listed.marked f in let e = marked f in omega arith;
        framed = λ g. let new = roles-cons w z others g in let old = roles-cons w x others g in let was = s.listed.framed g in let e = covered g in omega arith;
        locked = λ k in'. let a = sum_by-cons (takes k) x others in let b = sum_by-cons (takes k) z others in let o = s.listed.locked k in' in one-lock k a b o (cases_eq k n);
        shaped = shaped-lock w n v y s.listed.shaped;
      };
      fresh = record {
        setup = s.fresh.setup;
        worded = worded-lock w n v s.fresh.worded;
        workers = All-cons (IsAtWork (set_lock w n v)) z others ok
            (λ k d in'. others-lock w n v (get_or others k d) (lock-alone w x others n s below mine k d in') (All-tail (IsAtWork w) x others s.fresh.workers k d in'));
      };
    }
  where
    one-lock : (k : ℕ) → sum_by (takes k) (x ∷ others) ≡ takes k x + sum_by (takes k) others → sum_by (takes k) (z ∷ others) ≡ takes k z + sum_by (takes k) others
        → sum_by (takes k) (x ∷ others) + one_if (w.lock k == 0) ≡ 1 → (k ≡ n) ⊎ (k ≡ n → ⊥) → sum_by (takes k) (z ∷ others) + one_if (update w.lock n v k == 0) ≡ 1
    one-lock k a b o (inl e) =
        let at' : one_if (update w.lock n v k == 0) ≡ one_if (v == 0) = ap (λ (j : ℕ). one_if (j == 0)) (update_at w.lock n v k e) in
        let h : takes k z + one_if (v == 0) ≡ takes k x + one_if (w.lock k == 0) = rw e here in
        omega arith
    one-lock k a b o (inr d) =
        let at' : one_if (update w.lock n v k == 0) ≡ one_if (w.lock k == 0) = ap (λ (j : ℕ). one_if (j == 0)) (update_other w.lock n v k d) in
        let h = elsewhere k d in
        omega arith
