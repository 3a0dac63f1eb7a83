-- Kinds 13 and 14, spot by spot: a free lock is taken, or a lock is given back.
use Rattle.std.proofs.Common.{◌≡◌, ℕ, suc, ◌+◌, ◌<◌, ◌≤◌, ◌==◌, Bool, true, false, cond, List, ◌∷◌, refl, sym, ap, ◌∙◌, arith, inl, inr}
use Rattle.std.proofs.lemmas.Bool.{cases_eq, eq-eqb, ne_eqb}
use Rattle.std.proofs.lemmas.List.Elements.{All-head}
use Rattle.slub_core.specs.Setup.{node_lock, pool_lock}
use Rattle.slub_core.specs.World.{World, update, set_lock, one_if}
use Rattle.slub_core.specs.Local.{Local, Worker}
use Rattle.slub_core.specs.Spots.{has_node, has_pool}
use Rattle.slub_core.specs.Placed.{owned}
use Rattle.slub_core.specs.Listed.{home_of, marked_of, covered_by, takes}
use Rattle.slub_core.specs.Fresh.{IsSeen, IsAtWork}
use Rattle.slub_core.specs.Coherent.{Stands}
use Rattle.slub_core.proofs.LockStep.{lock_step}
use Rattle.slub_core.proofs.Update.{update_other, update_at}

-- a step leads a worker to this local, and all stands after it
abbrev pub ComesTo : World → List Worker → Local → Type 0
ComesTo w others l = (z : Worker) × (z.local ≡ l) × Stands w (z ∷ others)

-- the worker has the same objects, slabs, marks and frames
pub record HasSame (x z : Worker) : Type 0 where
  pub owned : (f i : ℕ) → owned f i z ≡ owned f i x
  pub home : (f : ℕ) → home_of f z ≡ home_of f x
  pub marked : (f : ℕ) → marked_of f z ≡ marked_of f x
  pub covered : (g : ℕ) → covered_by g z.local.run ≡ covered_by g x.local.run

-- the machine as one worker sees it, that need not look at locks
abbrev pub lent : World → ℕ → World
lent w a = record w { lock = λ k. suc a }

pub seen-lent : (w : World) (x : Worker) → IsSeen w x → IsSeen (lent w x.local.worker) x
seen-lent w x ok = record {
  cpu_word = ok.cpu_word;
  next = ok.next;
  linked_cpu = ok.linked_cpu;
  linked_slab = ok.linked_slab;
  known = ok.known;
  hands = ok.hands;
  string = ok.string;
  run = ok.run;
  emptied = ok.emptied;
  freed_last = ok.freed_last;
  scanned = ok.scanned;
  scan = ok.scan;
  scan_next = ok.scan_next;
  locks = λ n has. refl;
}

seen-relocked : (w : World) (a n v : ℕ) (z : Worker) → ((k : ℕ) → 1 ≤ takes k z → update w.lock n v k ≡ suc z.local.worker) → IsSeen (lent w a) z → IsSeen (set_lock w n v) z
seen-relocked w a n v z locks ok = record {
  cpu_word = ok.cpu_word;
  next = ok.next;
  linked_cpu = ok.linked_cpu;
  linked_slab = ok.linked_slab;
  known = ok.known;
  hands = ok.hands;
  string = ok.string;
  run = ok.run;
  emptied = ok.emptied;
  freed_last = ok.freed_last;
  scanned = ok.scanned;
  scan = ok.scan;
  scan_next = ok.scan_next;
  locks = locks;
}

-- a worker that goes on under what it sees, with another lock or one less
relock : (w : World) (x z : Worker) (others : List Worker) (n v : ℕ) → Stands w (x ∷ others) → n < w.setup.locks → 1 ≤ takes n x + one_if (w.lock n == 0) → HasSame x z
    → takes n z + one_if (v == 0) ≡ takes n x + one_if (w.lock n == 0) → ((k : ℕ) → (k ≡ n → ⊥) → takes k z ≡ takes k x) → z.local.worker ≡ x.local.worker → (1 ≤ takes n z → v ≡ suc z.local.worker)
    → (IsAtWork (lent w x.local.worker) x → IsAtWork (lent w x.local.worker) z) → Stands (set_lock w n v) (z ∷ others)
relock w x z others n v s below mine same here elsewhere worker taken work =
    let ok = All-head (IsAtWork w) x others s.fresh.workers in
    let now = work (record { spot = ok.spot; seen = seen-lent w x ok.seen }) in
    lock_step w x z others n v s below mine same.owned same.home same.marked same.covered here elsewhere
    (record {
      spot = now.spot;
      seen = seen-relocked w x.local.worker n v z (λ k has. elim (cases_eq k n) [
        | inl e ↦ (let t : takes k z ≡ takes n z = ap (λ j. takes j z) e in update_at w.lock n v k e ∙ taken (omega arith))
        | inr d ↦ (let t = elsewhere k d in update_other w.lock n v k d ∙ ok.seen.locks k (omega arith) ∙ ap suc (sym worker))
      ]) now.seen;
    })

-- ---- by lock

pub one-self : (n : ℕ) → one_if (n == n) ≡ 1
one-self n = rw (eq-eqb n n refl) refl

pub some-isnt : (n k : ℕ) → (n ≡ k → ⊥) → one_if (n == k) ≡ 0
some-isnt n k d = rw (ne_eqb n k d) refl

-- a lock that a worker has isn't free
held-lock : (w : World) (x : Worker) (others : List Worker) (n : ℕ) → Stands w (x ∷ others) → 1 ≤ takes n x → one_if (w.lock n == 0) ≡ 0
held-lock w x others n s has = let l = (All-head (IsAtWork w) x others s.fresh.workers).seen.locks n has in rw l (some-isnt (suc x.local.worker) 0 (λ e. absurd (omega arith)))

pub take-node : (w : World) (x z : Worker) (others : List Worker) → Stands w (x ∷ others) → x.local.cache < 32 → w.lock (node_lock x.local.cache) ≡ 0 → HasSame x z
    → has_node x.local.spot ≡ false → has_pool x.local.spot ≡ false → has_node z.local.spot ≡ true → has_pool z.local.spot ≡ false → z.local.cache ≡ x.local.cache → z.local.worker ≡ x.local.worker
    → (IsAtWork (lent w x.local.worker) x → IsAtWork (lent w x.local.worker) z) → Stands (set_lock w (node_lock x.local.cache) (suc x.local.worker)) (z ∷ others)
take-node w x z others s cache free same no_node no_pool node pool kept worker work =
    let n = node_lock x.local.cache in
    let one = one-self n in
    let locks = s.fresh.setup.locks in
    let none : one_if (w.lock n == 0) ≡ 1 = rw free refl in
    let taken = some-isnt (suc x.local.worker) 0 (λ e. absurd (omega arith)) in
    let had : (k : ℕ) → takes k x ≡ 0 = λ k. rw (no_node, no_pool) refl in
    let has : (k : ℕ) → takes k z ≡ one_if (n == k) = λ k. rw (node, pool, kept) (omega arith) in
    let h = has n in
    let b = had n in
    relock w x z others n (suc x.local.worker) s (omega arith) (omega arith) same (omega arith)
    (λ k d. let a = has k in let c = had k in let o = some-isnt n k (λ e. d (sym e)) in omega arith) worker (λ t. ap suc (sym worker)) work

pub take-pool : (w : World) (x z : Worker) (others : List Worker) → Stands w (x ∷ others) → w.lock pool_lock ≡ 0 → HasSame x z
    → has_pool x.local.spot ≡ false → has_pool z.local.spot ≡ true → has_node z.local.spot ≡ has_node x.local.spot → z.local.cache ≡ x.local.cache → z.local.worker ≡ x.local.worker
    → (IsAtWork (lent w x.local.worker) x → IsAtWork (lent w x.local.worker) z) → Stands (set_lock w pool_lock (suc x.local.worker)) (z ∷ others)
take-pool w x z others s free same no_pool pool node kept worker work =
    let locks = s.fresh.setup.locks in
    let none : one_if (w.lock pool_lock == 0) ≡ 1 = rw free refl in
    let taken = some-isnt (suc x.local.worker) 0 (λ e. absurd (omega arith)) in
    let had : (k : ℕ) → takes k x ≡ cond (has_node x.local.spot) (one_if (node_lock x.local.cache == k)) 0 = λ k. rw no_pool (omega arith) in
    let has : (k : ℕ) → takes k z ≡ cond (has_node x.local.spot) (one_if (node_lock x.local.cache == k)) 0 + one_if (pool_lock == k) = λ k. rw (pool, node, kept) refl in
    let h = has pool_lock in
    let b = had pool_lock in
    relock w x z others pool_lock (suc x.local.worker) s (omega arith) (omega arith) same (omega arith)
    (λ k d. let a = has k in let c = had k in let o = some-isnt pool_lock k (λ e. d (sym e)) in omega arith) worker (λ t. ap suc (sym worker)) work

pub give-node : (w : World) (x z : Worker) (others : List Worker) → Stands w (x ∷ others) → x.local.cache < 32 → HasSame x z
    → has_node x.local.spot ≡ true → has_pool x.local.spot ≡ false → has_node z.local.spot ≡ false → has_pool z.local.spot ≡ false → z.local.worker ≡ x.local.worker
    → (IsAtWork (lent w x.local.worker) x → IsAtWork (lent w x.local.worker) z) → Stands (set_lock w (node_lock x.local.cache) 0) (z ∷ others)
give-node w x z others s cache same node pool no_node no_pool worker work =
    let n = node_lock x.local.cache in
    let one = one-self n in
    let locks = s.fresh.setup.locks in
    let had : (k : ℕ) → takes k x ≡ one_if (n == k) = λ k. rw (node, pool) (omega arith) in
    let has : (k : ℕ) → takes k z ≡ 0 = λ k. rw (no_node, no_pool) refl in
    let h = has n in
    let b = had n in
    let held : one_if (w.lock n == 0) ≡ 0 = held-lock w x others n s (omega arith) in
    relock w x z others n 0 s (omega arith) (omega arith) same (omega arith)
    (λ k d. let a = has k in let c = had k in let o = some-isnt n k (λ e. d (sym e)) in omega arith) worker (λ t. absurd (omega arith)) work

pub give-pool : (w : World) (x z : Worker) (others : List Worker) → Stands w (x ∷ others) → HasSame x z
    → has_pool x.local.spot ≡ true → has_pool z.local.spot ≡ false → has_node z.local.spot ≡ has_node x.local.spot → z.local.cache ≡ x.local.cache → z.local.worker ≡ x.local.worker
    → (IsAtWork (lent w x.local.worker) x → IsAtWork (lent w x.local.worker) z) → Stands (set_lock w pool_lock 0) (z ∷ others)
give-pool w x z others s same pool no_pool node kept worker work =
    let locks = s.fresh.setup.locks in
    let had : (k : ℕ) → takes k x ≡ cond (has_node x.local.spot) (one_if (node_lock x.local.cache == k)) 0 + one_if (pool_lock == k) = λ k. rw pool refl in
    let has : (k : ℕ) → takes k z ≡ cond (has_node x.local.spot) (one_if (node_lock x.local.cache == k)) 0 = λ k. rw (no_pool, node, kept) (omega arith) in
    let h = has pool_lock in
    let b = had pool_lock in
    let none : cond (has_node x.local.spot) (one_if (node_lock x.local.cache == pool_lock)) 0 ≡ 0 = not-pool (has_node x.local.spot) in
    let held : one_if (w.lock pool_lock == 0) ≡ 0 = held-lock w x others pool_lock s (omega arith) in
    relock w x z others pool_lock 0 s (omega arith) (omega arith) same (omega arith)
    (λ k d. let a = has k in let c = had k in let o = some-isnt pool_lock k (λ e. d (sym e)) in omega arith) worker (λ t. absurd (omega arith)) work
  where
    not-pool : (b : Bool) → cond b (one_if (node_lock x.local.cache == pool_lock)) 0 ≡ 0
    not-pool true = some-isnt (node_lock x.local.cache) pool_lock (λ e. absurd (omega arith))
    not-pool false = refl
