-- A change of what a lock guards, by the worker that has the lock.
use Rattle.std.proofs.Common.{◌≡◌, ℕ, ◌+◌, ◌%◌, ◌^◌, ◌<◌, ◌≤◌, ◌⊎◌, ◌==◌, true, Some, List, ◌∷◌, length, get_or, refl, sym, ap, ◌∙◌, arith, inl, inr}
use Rattle.std.specs.Prelude.{nat_lt}
use Rattle.std.proofs.lemmas.Bool.{cases_eq, eq-eqb, lt-ltb}
use Rattle.std.proofs.lemmas.List.Sums.{sum_by-cons, get_or-le-sum_by}
use Rattle.std.proofs.lemmas.List.Elements.{All-cons, All-tail}
use Rattle.slub_common.specs.Times.{times}
use Rattle.slub_words.specs.declared.board.BoardWord.{BoardWord}
use Rattle.slub_core.specs.declared.local.Known.{Known}
use Rattle.slub_core.specs.Setup.{node_lock}
use Rattle.slub_core.specs.World.{World, LockValue, update, set_value, objects_at, cache_at, order_at, object_at, on_board, frames_in, size_in, idle_in, pool_of, one_if, sum_below, live, covers}
use Rattle.slub_core.specs.Local.{Worker}
use Rattle.slub_core.specs.Alloc.{node_of}
use Rattle.slub_core.specs.Spots.{has_node}
use Rattle.slub_core.specs.Placed.{owned, held_as, places}
use Rattle.slub_core.specs.Listed.{home_of, marked_of, covered_by, takes, IsGuarded, IsStocked}
use Rattle.slub_core.specs.Fresh.{IsAtWork}
use Rattle.slub_core.specs.Coherent.{Stands}
use Rattle.slub_core.proofs.Counts.{places-cons, homes-cons, roles-cons}
use Rattle.slub_core.proofs.Frames.{worded-value}
use Rattle.slub_core.proofs.Homes.{lock-alone}
use Rattle.slub_core.proofs.Spots.{freed_last-node, scanned-node, scan-node, scan_next-node}
use Rattle.slub_core.proofs.Update.{update_same, update_other, update_at, sum_below_change, term_le_sum}

-- the new value is one that the lock may guard, its slabs are where no others are, and what exists keeps its cache
pub record IsNewValue (w : World) (n : ℕ) (v : LockValue) : Type 0 where
  pub guarded : IsGuarded w.setup n v
  pub keeps : (f i : ℕ) → 1 ≤ object_at w f i → 1 ≤ object_at (set_value w n v) f i → cache_at (set_value w n v) f ≡ cache_at w f
  pub alone : (f : ℕ) → live (w.slab f) + sum_below w.setup.locks (λ k. one_if (nat_lt 0 (size_in (update w.value n v k) f))) ≤ 1
  pub aligned : (f : ℕ) → 1 ≤ objects_at (set_value w n v) f → f % 2 ^ order_at (set_value w n v) f ≡ 0
  pub within : (f : ℕ) → 1 ≤ objects_at (set_value w n v) f → f < w.setup.frames
  pub no_slab : objects_at (set_value w n v) 0 ≡ 0
  pub no_frame : times 0 (frames_in v) ≡ 0
  pub node : (cache f : ℕ) → n ≡ node_lock cache → 1 ≤ times f (frames_in v) → IsStocked (w.slab f) cache

-- a node list that a worker relies on is of a lock that it has
node-elsewhere : (w : World) (n : ℕ) (v : LockValue) (o : Worker) → takes n o ≡ 0 → has_node o.local.spot ≡ true → node_of (update w.value n v) o.local ≡ node_of w.value o.local
node-elsewhere w n v o none has = elim (cases_eq (node_lock o.local.cache) n) [
  | inl e ↦ absurd (let one : one_if (node_lock o.local.cache == n) ≡ 1 = rw (eq-eqb (node_lock o.local.cache) n e) refl in let z : 1 ≤ takes n o = rw has (omega arith) in omega arith)
  | inr d ↦ ap frames_in (update_other w.value n v (node_lock o.local.cache) d)
]

-- what a worker holds is counted
pub known-owned : (x : Worker) (k : ℕ) (d : Known) → k < length x.local.known → (get_or x.local.known k d).held ≡ true → 1 ≤ owned (get_or x.local.known k d).frame (get_or x.local.known k d).index x
known-owned x k d below is =
    let o = get_or x.local.known k d in
    let e : held_as o.frame o.index o ≡ 1 = rw (is, eq-eqb o.frame o.frame refl, eq-eqb o.index o.index refl) refl in
    let t = get_or-le-sum_by (held_as o.frame o.index) x.local.known k d below in
    omega arith

-- the others, which don't have the lock
others-value : (w : World) (n : ℕ) (v : LockValue) (o : Worker) → ((f i : ℕ) → 1 ≤ object_at w f i → 1 ≤ object_at (set_value w n v) f i → cache_at (set_value w n v) f ≡ cache_at w f)
    → ((f i : ℕ) → (owned f i o ≤ object_at w f i) × (owned f i o ≤ object_at (set_value w n v) f i)) → takes n o ≡ 0 → IsAtWork w o → IsAtWork (set_value w n v) o
others-value w n v o keeps exists none ok = record {
  spot = ok.spot;
  seen = record {
    cpu_word = ok.seen.cpu_word;
    next = ok.seen.next;
    linked_cpu = ok.seen.linked_cpu;
    linked_slab = ok.seen.linked_slab;
    known = λ k d below is.
        let g = get_or o.local.known k d in
        let some = known-owned o k d below is in
        let there = exists g.frame g.index in
        ok.seen.known k d below is ∙ sym (keeps g.frame g.index (omega arith) (omega arith));
    hands = ok.seen.hands;
    string = ok.seen.string;
    run = ok.seen.run;
    emptied = ok.seen.emptied;
    freed_last = λ s. rw (node-elsewhere w n v o none (freed_last-node o.local.spot s)) (ok.seen.freed_last s);
    scanned = λ s. rw (node-elsewhere w n v o none (scanned-node o.local.spot s)) (ok.seen.scanned s);
    scan = λ s. rw (node-elsewhere w n v o none (scan-node o.local.spot s)) (ok.seen.scan s);
    scan_next = λ s. rw (node-elsewhere w n v o none (scan_next-node o.local.spot s)) (ok.seen.scan_next s);
    locks = ok.seen.locks;
  };
}

-- an object that somebody has, or that is on the board, exists
pub worker-object : (w : World) (x : Worker) (others : List Worker) → Stands w (x ∷ others) → (k : ℕ) (d : Worker) → k < length others → (f i : ℕ) → owned f i (get_or others k d) ≤ object_at w f i
worker-object w x others s k d below f i =
    let p = places-cons w s.chains x others f i in
    let once = s.placed.once f i in
    let t = get_or-le-sum_by (owned f i) others k d below in
    omega arith

pub board-object : (w : World) (x : Worker) (others : List Worker) → Stands w (x ∷ others) → (o : ℕ) (b : BoardWord) → o < w.setup.objects → w.board o ≡ Some b → 1 ≤ object_at w b.frame b.index
board-object w x others s o b below is =
    let p = places-cons w s.chains x others b.frame b.index in
    let once = s.placed.once b.frame b.index in
    let t = term_le_sum w.setup.objects (λ k. on_board (w.board k) b.frame b.index) o below in
    let one : on_board (w.board o) b.frame b.index ≡ 1 = ap (λ b'. on_board b' b.frame b.index) is ∙ rw (eq-eqb b.frame b.frame refl, eq-eqb b.index b.index refl) refl in
    omega arith

-- the order of a slab with a word is read off that
order-word : (w : World) (n : ℕ) (v : LockValue) (f : ℕ) → 1 ≤ (w.slab f).objects → order_at (set_value w n v) f ≡ order_at w f
order-word w n v f some = rw (lt-ltb 0 (w.slab f).objects (omega arith)) refl

-- What a change under a lock owes: objects, slabs, marks and frames go between the value and the worker.
pub value_step : (w : World) (x z : Worker) (others : List Worker) (n : ℕ) (v : LockValue) → Stands w (x ∷ others)
    → n < w.setup.locks → 1 ≤ takes n x → IsNewValue w n v
    → ((f i : ℕ) → owned f i z + idle_in v f i + object_at w f i ≡ owned f i x + idle_in (w.value n) f i + object_at (set_value w n v) f i)
    → ((f : ℕ) → home_of f z + times f (frames_in v) ≡ home_of f x + times f (frames_in (w.value n)))
    → ((f : ℕ) → marked_of f z + times f (frames_in v) ≡ marked_of f x + times f (frames_in (w.value n)))
    → ((g : ℕ) → covered_by g z.local.run + times g (pool_of (set_value w n v)).free + sum_below w.setup.frames (λ f. covers (set_value w n v) g f)
    ≡ covered_by g x.local.run + times g (pool_of w).free + sum_below w.setup.frames (λ f. covers w g f))
    → ((k : ℕ) → takes k z ≡ takes k x)
    → IsAtWork (set_value w n v) z
    → Stands (set_value w n v) (z ∷ others)
value_step w x z others n v s below has new moved homed marked framed locks ok =
    let y = s.chains in
    let sh = s.listed.shaped in
    record {
      chains = y;
      placed = record {
        once = once-new;
        cpu_chain = s.placed.cpu_chain;
        own_chain = s.placed.own_chain;
      };
      listed = record {
        once = λ f some.
            let new = homes-cons (set_value w n v) y z others f in
            let old = homes-cons w y x others f in
            let was = s.listed.once f some in
            let both = homed f in
            let sums = frames-sum f in
            omega arith;
        marked = λ f.
            let new = sum_by-cons (marked_of f) z others in
            let old = sum_by-cons (marked_of f) x others in
            let was = s.listed.marked f in
            let both = marked f in
            let sums = frames-sum f in
            omega arith;
        framed = λ g. let new = roles-cons (set_value w n v) z others g in let old = roles-cons w x others g in let was = s.listed.framed g in let e = framed g in omega arith;
        locked = λ k in'. let a = sum_by-cons (takes k) x others in let b = sum_by-cons (takes k) z others in let e = locks k in let o = s.listed.locked k in' in omega arith;
        shaped = record {
          no_slab = new.no_slab;
          no_lists = let a = sh.no_lists in let sums = frames-sum 0 in let none = new.no_frame in omega arith;
          marks = sh.marks;
          current = sh.current;
          bare = sh.bare;
          string = sh.string;
          count = sh.count;
          partial = sh.partial;
          node = λ cache f in' some. node-slab cache f in' some (cases_eq (node_lock cache) n);
          counted = sh.counted;
          plain = sh.plain;
          sized = λ f some. rw (order-word w n v f some) (sh.sized f some);
          aligned = new.aligned;
          within = new.within;
          alone = new.alone;
          unslabbed = sh.unslabbed;
          guarded = λ k in'. guarded-value k in' (cases_eq k n);
          board = λ o b in' is. sh.board o b in' is ∙ sym (new.keeps b.frame b.index (board-object w x others s o b in' is) (board-new o b in' is));
        };
      };
      fresh = record {
        setup = s.fresh.setup;
        worded = worded-value w n v s.fresh.worded;
        workers = All-cons (IsAtWork (set_value w n v)) z others ok
            (λ k d in'. others-value w n v (get_or others k d) new.keeps (λ f i. (worker-object w x others s k d in' f i, worker-new k d in' f i)) (lock-alone w x others n s below (omega arith) k d in') (All-tail (IsAtWork w) x others s.fresh.workers k d in'));
      };
    }
  where
    once-new : (f i : ℕ) → places (set_value w n v) s.chains (z ∷ others) f i ≡ object_at (set_value w n v) f i
    once-new f i =
        let new' = places-cons (set_value w n v) s.chains z others f i in
        let old = places-cons w s.chains x others f i in
        let was = s.placed.once f i in
        let both = moved f i in
        let sums = sum_below_change w.setup.locks (λ k. idle_in (w.value k) f i) (λ k. idle_in (update w.value n v k) f i) n below (λ k d. ap (λ u. idle_in u f i) (update_other w.value n v k d)) in
        let here : idle_in (update w.value n v n) f i ≡ idle_in v f i = ap (λ u. idle_in u f i) (update_same w.value n v) in
        omega arith

    worker-new : (k : ℕ) (d : Worker) → k < length others → (f i : ℕ) → owned f i (get_or others k d) ≤ object_at (set_value w n v) f i
    worker-new k d below f i =
        let p = places-cons (set_value w n v) s.chains z others f i in
        let once = once-new f i in
        let t = get_or-le-sum_by (owned f i) others k d below in
        omega arith

    board-new : (o : ℕ) (b : BoardWord) → o < w.setup.objects → w.board o ≡ Some b → 1 ≤ object_at (set_value w n v) b.frame b.index
    board-new o b below is =
        let p = places-cons (set_value w n v) s.chains z others b.frame b.index in
        let once = once-new b.frame b.index in
        let t = term_le_sum w.setup.objects (λ k. on_board (w.board k) b.frame b.index) o below in
        let one : on_board (w.board o) b.frame b.index ≡ 1 = ap (λ b'. on_board b' b.frame b.index) is ∙ rw (eq-eqb b.frame b.frame refl, eq-eqb b.index b.index refl) refl in
        omega arith

    frames-sum : (f : ℕ) → sum_below w.setup.locks (λ k. times f (frames_in (update w.value n v k))) + times f (frames_in (w.value n)) ≡ sum_below w.setup.locks (λ k. times f (frames_in (w.value k))) + times f (frames_in v)
    frames-sum f =
        let sums = sum_below_change w.setup.locks (λ k. times f (frames_in (w.value k))) (λ k. times f (frames_in (update w.value n v k))) n below (λ k d. ap (λ u. times f (frames_in u)) (update_other w.value n v k d)) in
        let here : times f (frames_in (update w.value n v n)) ≡ times f (frames_in v) = ap (λ u. times f (frames_in u)) (update_same w.value n v) in
        omega arith

    node-slab : (cache f : ℕ) → node_lock cache < w.setup.locks → 1 ≤ times f (frames_in (update w.value n v (node_lock cache))) → (node_lock cache ≡ n) ⊎ (node_lock cache ≡ n → ⊥) → IsStocked (w.slab f) cache
    node-slab cache f in' some (inl e) = new.node cache f (sym e) (rw (update_at w.value n v (node_lock cache) e) at some)
    node-slab cache f in' some (inr d) = s.listed.shaped.node cache f in' (rw (update_other w.value n v (node_lock cache) d) at some)

    guarded-value : (k : ℕ) → k < w.setup.locks → (k ≡ n) ⊎ (k ≡ n → ⊥) → IsGuarded w.setup k (update w.value n v k)
    guarded-value k in' (inl e) = rw (update_at w.value n v k e, e) new.guarded
    guarded-value k in' (inr d) = rw (update_other w.value n v k d) (s.listed.shaped.guarded k in')
