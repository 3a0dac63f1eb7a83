-- Each lock is free, or one worker of a coherent machine has it.
use Rattle.std.proofs.Common.{◌≡◌, ◌≢◌, ℕ, ◌+◌, ◌<◌, ◌≤◌, ◌==◌, List, [], length, get_or, Contains, sym, ap, ◌∙◌, subst, arith}
use Rattle.std.specs.Prelude.{sum_by}
use Rattle.std.proofs.lemmas.Bool.{lt-ltb}
use Rattle.std.proofs.lemmas.List.{length-map, get_or-map}
use Rattle.std.proofs.lemmas.List.Sums.{get_or-le-sum_by}
use Rattle.slub_core.specs.Setup.{Setup}
use Rattle.slub_core.specs.World.{World, one_if, word_in, world_from, world_of}
use Rattle.slub_core.specs.Local.{Local, Worker}
use Rattle.slub_core.specs.Listed.{takes}
use Rattle.slub_core.specs.Run.{System, idle}
use Rattle.slub_core.specs.Law.{IsCoherentSystem}
use Rattle.slub_workers.specs.Locks.{locks_of}
use Rattle.slub_workers.proofs.Locals.{contains_takes}
use Rattle.slub_workers.proofs.LockBounds.{has_below}
use Rattle.slub_workers.proofs.StepLists.{two-le-sum_by}

abbrev local_in : Worker → Local
local_in x = x.local

abbrev no_worker : Worker
no_worker = record { local = idle; chains = []; string = [] }

module _ (m : Setup) (opening : World) (s : System) (is : IsCoherentSystem m opening s) where
  abbrev worker_at : ℕ → Worker
  worker_at k = get_or is.workers k no_worker

  count-workers : length is.workers ≡ length s.locals
  count-workers = sym (length-map is.workers local_in) ∙ ap (λ (ls : List Local). length ls) is.locals

  worker-there : (k : ℕ) → k < length s.locals → local_in (worker_at k) ≡ get_or s.locals k idle
  worker-there k below =
      let count = count-workers in
      sym (get_or-map local_in is.workers k no_worker idle (omega arith)) ∙ ap (λ (ls : List Local). get_or ls k idle) is.locals

  -- a worker that has a lock is counted
  counted : (k lock : ℕ) → k < length s.locals → Contains (locks_of (get_or s.locals k idle)) lock → 1 ≤ takes lock (worker_at k)
  counted k lock below has =
      contains_takes lock (worker_at k) (subst (λ (l : Local). Contains (locks_of l) lock) (sym (worker-there k below)) has)

  once : (lock : ℕ) → lock < 33 → sum_by (takes lock) is.workers + one_if (get_or s.words lock 0 == 0) ≡ 1
  unfolding world_of world_from word_in
  once lock below =
      let room = is.coherent.fresh.setup.locks in
      let all = is.coherent.listed.locked lock (omega arith) in
      let word : word_in s.words 0 m.locks lock ≡ get_or s.words lock 0 = rw (lt-ltb lock m.locks (omega arith)) (ap (λ (n : ℕ). get_or s.words n 0) (let e : 0 + lock ≡ lock = omega arith in e)) in
      subst (λ (n : ℕ). sum_by (takes lock) is.workers + one_if (n == 0) ≡ 1) word all

  -- two workers don't have one lock
  pub lock_apart : (j k lock : ℕ) → j ≢ k → j < length s.locals → k < length s.locals
      → Contains (locks_of (get_or s.locals j idle)) lock → Contains (locks_of (get_or s.locals k idle)) lock → ⊥
  lock_apart j k lock apart one other has also =
      let count = count-workers in
      let both = two-le-sum_by (takes lock) is.workers j k no_worker apart (omega arith) (omega arith) in
      let a = counted j lock one has in
      let b = counted k lock other also in
      let o = once lock (has_below m opening s j lock is one has) in
      omega arith

  -- none has a lock whose word is 0
  pub lock_free : (k lock : ℕ) → k < length s.locals → get_or s.words lock 0 ≡ 0 → ¬ Contains (locks_of (get_or s.locals k idle)) lock
  lock_free k lock below free has =
      let count = count-workers in
      let a = get_or-le-sum_by (takes lock) is.workers k no_worker (omega arith) in
      let b = counted k lock below has in
      let o : sum_by (takes lock) is.workers + one_if (get_or s.words lock 0 == 0) ≡ 1 = once lock (has_below m opening s k lock is below has) in
      let z : one_if (get_or s.words lock 0 == 0) ≡ 1 = ap (λ (n : ℕ). one_if (n == 0)) free in
      omega arith
