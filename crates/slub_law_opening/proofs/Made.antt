-- The lists into which a coherent machine closes.
use Rattle.std.proofs.Common.{◌≡◌, ℕ, zero, suc, ◌+◌, ◌-◌, ◌*◌, ◌/◌, ◌%◌, ◌<◌, ◌≤◌, ◌&&◌, eqb, Bool, true, false, List, [], ◌∷◌, length, map, get_or, Option, Some, None, inl, inr, refl, ap, sym, ◌∙◌, subst, arith, sum_by, mod-lt, replicate}
use Rattle.std.specs.Prelude.{nat_lt, not, is_some, All, filter}
use Rattle.std.specs.Option.{option_map, option_or}
use Rattle.std.specs.List.{range_with_len}
use Rattle.std.proofs.lemmas.Bool.{cases_eq, cases_lt, cases_Bool, false≢true, eq-eqb, ne_eqb, cond-true, cond-false, lt-ltb, le-ltb}
use Rattle.std.proofs.lemmas.List.{get_or_past, length-replicate}
use Rattle.std.proofs.lemmas.List.Elements.{All-head, All-tail, All-map}
use Rattle.std.proofs.lemmas.List.FromFn.{get_or-map-range_with_len, length-map-range_with_len}
use Rattle.slub_common.specs.Times.{times}
use Rattle.slub_lists.specs.declared.lists.CpuLists.{CpuLists}
use Rattle.slub_lists.specs.declared.lists.Held.{Held}
use Rattle.slub_lists.specs.State.{State}
use Rattle.slub_lists.specs.Alloc.{slab_of, own_free, cache_of, checked_of, lists_of, node_of, no_lists}
use Rattle.slub_lists.specs.Coherent.{IsCoherent, IsAccounted, held_of, held_under}
use Rattle.slub_lists.specs.Places.{layout_at}
use Rattle.slub_core.specs.declared.local.Known.{Known}
use Rattle.slub_core.specs.Setup.{Setup, node_lock}
use Rattle.slub_core.specs.Local.{Local, Worker}
use Rattle.slub_core.specs.World.{World, Chains, LockValue, Nothing, Node, Checked, Pool, frames_in, pool_in, size_in, objects_at, cache_at, cache_in_values, one_if, sum_below}
use Rattle.slub_core.specs.Listed.{IsGuarded, takes, marked_of}
use Rattle.slub_core.specs.Coherent.{Stands}
use Rattle.slub_core.proofs.Update.{term_le_sum}
use Rattle.slub_core.proofs.Pigeon.{sum_below-none}
use Rattle.slub_core.proofs.StepValues.{word-objects, word-cache, unworded-cache}
use Rattle.slub_law_opening.specs.Opening.{Beside, IsBeside, setup_of, cpu_at, value_of, node_value}
use Rattle.slub_law_opening.specs.Rests.{IsBetween, IsCpuOf, IsFreelistOf, Rests, slab_at, current_in, held_on, held_in, held_among, named, times_named}
use Rattle.slub_law_opening.specs.Closing.{HasLengths, checked_in}
use Rattle.slub_law_opening.proofs.Closed.{bare-workers}
use Rattle.slub_law_opening.proofs.Counts.{locals_of, workers-none}
use Rattle.slub_law_opening.proofs.Slabs.{slab-none}
use Rattle.slub_law_opening.proofs.Sums.{positive-term, sum_by-below, product_apart}
use Rattle.slub_law_opening.proofs.Words.{chain-none, none-of}
use Rattle.slub_law_opening.proofs.Holders.{named-all}
use Rattle.slub_law_opening.proofs.Workers.{IsBare, no-lock, no-mark}

at-range : {A : Type 0} (f : ℕ → A) (n i : ℕ) (d : A) → i < n → get_or (map f (range_with_len 0 n)) i d ≡ f i
at-range f n i d below = get_or-map-range_with_len f 0 n i i d below (omega arith)

past-range : {A : Type 0} (f : ℕ → A) (n i : ℕ) (d : A) → n ≤ i → get_or (map f (range_with_len 0 n)) i d ≡ d
past-range f n i d past = get_or_past (map f (range_with_len 0 n)) i d (let l = length-map-range_with_len f 0 n in omega arith)

-- numbers past the machine's name nothing
past-in : (m : Setup) (worker o : ℕ) (ks : List Known) → All (λ (k : Known). k.object < m.objects) ks → m.objects ≤ o → held_in worker ks o ≡ None
past-in m worker o [] are past = refl
past-in m worker o (k ∷ ks) are past =
    let below = All-head (λ (k : Known). k.object < m.objects) k ks are in
    cond-false {A = Option Held} (k.held && eqb k.object o) _ (held_in worker ks o) (other k.held (ne_eqb k.object o (λ e. absurd (omega arith)))) ∙ past-in m worker o ks (All-tail (λ (k : Known). k.object < m.objects) k ks are) past
  where
    other : (h : Bool) {e : Bool} → e ≡ false → h && e ≡ false
    other true e = e
    other false e = refl

past-among : (m : Setup) (o : ℕ) (ls : List Local) → All (IsBetween m) ls → m.objects ≤ o → held_among ls o ≡ None
past-among m o [] are past = refl
past-among m o (l ∷ ls) are past = ap (λ h. option_or h (held_among ls o)) (past-in m l.worker o l.known (All-head (IsBetween m) l ls are).numbers past) ∙ past-among m o ls (All-tail (IsBetween m) l ls are) past

-- past its bounds the machine has nothing
pub record IsCut (w : World) : Type 0 where
  pub zero : w.board 0 ≡ None
  pub board : (o : ℕ) → w.setup.objects ≤ o → w.board o ≡ None
  pub memory : (p : ℕ) → 512 * w.setup.frames ≤ p → w.memory p ≡ 0

pub read : World → Chains → ℕ → CpuLists
read w y n = record { current = current_in (w.cpu n).frame; free = y.cpu n; partial = y.list n }

unfoldable pub made : State → World → Chains → List Local → State
made s w y ls =
    let board = map (named w ls) (range_with_len 0 (length s.board)) in
    record {
      frames = s.frames;
      cpus = s.cpus;
      pool = pool_in (w.value 0);
      slabs = map (slab_at w) (range_with_len 0 s.frames);
      frees = map y.own (range_with_len 0 s.frames);
      table = s.table;
      cpu_lists = map (λ p. read w y (p / s.cpus * 16 + p % s.cpus)) (range_with_len 0 (32 * s.cpus));
      nodes = map (λ k. frames_in (w.value (suc k))) (range_with_len 0 32);
      checked = map (λ k. checked_in (w.value (suc k))) (range_with_len 0 32);
      memory = map w.memory (range_with_len 0 (512 * s.frames));
      board = board;
      gone = replicate (length s.board) None;
      live = map (λ k. sum_by (held_of k) board) (range_with_len 0 32);
    }

unfoldable pub made_beside : State → Beside → World → Beside
made_beside s b w = record b { tids = map (λ n. (w.cpu n).tid) (range_with_len 0 512); links = replicate s.frames 0 }

module _ (s : State) (b : Beside) (w : World) (xs : List Worker) (coherent : IsCoherent s) (beside : IsBeside s b) (is : w.setup ≡ setup_of s b) (stands : Stands w xs) (cut : IsCut w)
    (between : All (IsBetween w.setup) (locals_of xs)) (once : (o : ℕ) → times_named w (locals_of xs) o ≤ 1) (idle : (n : ℕ) → n < 512 → s.cpus ≤ n % 16 → ((w.cpu n).frame ≡ 0) × ((w.list n).count ≡ 0)) where
  abbrev pub t : State
  t = made s w stands.chains (locals_of xs)

  abbrev pub d : Beside
  d = made_beside s b w

  locks : w.setup.locks ≡ 33
  locks = ap (λ (m : Setup). m.locks) is

  inside : (n : ℕ) → n < 512 → n < w.setup.cpu_words
  inside n l = omega (arith, l, ap (λ (m : Setup). m.cpu_words) is)

  frames : w.setup.frames ≡ s.frames
  frames = ap (λ (m : Setup). m.frames) is

  objects : w.setup.objects ≡ length s.board
  objects = ap (λ (m : Setup). m.objects) is

  bare : All IsBare xs
  bare = bare-workers w xs between stands.fresh.workers

  guarded : (n : ℕ) → n < 33 → IsGuarded (setup_of s b) n (w.value n)
  guarded n below = subst (λ m. IsGuarded m n (w.value n)) is (stands.listed.shaped.guarded n (omega (arith, below, locks)))

  -- ---- what the locks guard

  pub checked-at : (k : ℕ) → k < 32 → checked_of t k ≡ checked_in (w.value (suc k))
  unfolding made
  checked-at k below = at-range (λ k. checked_in (w.value (suc k))) 32 k None below

  node-at : (k : ℕ) → k < 32 → node_of t k ≡ frames_in (w.value (suc k))
  unfolding made
  node-at k below = at-range (λ k. frames_in (w.value (suc k))) 32 k [] below

  number : (k : ℕ) → suc k ≡ node_lock k
  number k = omega arith

  same-number : (k j : ℕ) → suc k ≡ node_lock j → j ≡ k
  same-number k j e = omega arith

  lives-in : (k : ℕ) (v : LockValue) → IsGuarded (setup_of s b) (suc k) v → node_value (is_some (cache_of s k)) (checked_in v) (frames_in v) ≡ v
  lives-in k Nothing g = cond-false {A = LockValue} (is_some (cache_of s k)) _ Nothing (subst (λ j. is_some (cache_of s j) ≡ false) (same-number k g.0 g.1) g.2)
  lives-in k (Node fs) g = cond-true {A = LockValue} (is_some (cache_of s k)) (Node fs) Nothing (subst (λ j. is_some (cache_of s j) ≡ true) (same-number k g.0 g.1) g.2)
  lives-in k (Checked c) g = refl
  lives-in k (Pool p) g = absurd (let z = g.0 in omega arith)

  checks-in : (k : ℕ) (v : LockValue) → IsGuarded (setup_of s b) (suc k) v → is_some (checked_of s k) ≡ is_some (checked_in v)
  checks-in k Nothing g = elim (cases_Bool (is_some (checked_of s k))) [
    | inl yes_it ↦ absurd (false≢true (sym (subst (λ j. is_some (cache_of s j) ≡ false) (same-number k g.0 g.1) g.2) ∙ subst (λ m. m.lives k ≡ true) is (stands.fresh.setup.checked k (ap (λ (m : Setup). m.checks k) is ∙ yes_it))))
    | inr none ↦ none
  ]
  checks-in k (Node fs) g = subst (λ j. is_some (checked_of s j) ≡ false) (same-number k g.0 g.1) g.3
  checks-in k (Checked c) g = subst (λ j. is_some (checked_of s j) ≡ true) (same-number k g.0 g.1) g.3
  checks-in k (Pool p) g = absurd (let z = g.0 in omega arith)

  checks : (k : ℕ) → is_some (checked_of s k) ≡ is_some (checked_of t k)
  unfolding made
  checks k = elim (cases_lt k 32) [
    | inl l ↦ checks-in k (w.value (suc k)) (guarded (suc k) (omega arith)) ∙ ap is_some (sym (checked-at k l))
    | inr g ↦ ap is_some (get_or_past s.checked k None (omega (arith, g, coherent.shaped.checked.numbers)) ∙ sym (past-range (λ k. checked_in (w.value (suc k))) 32 k None g))
  ]

  board-length : length s.board ≡ length t.board
  unfolding made
  board-length = sym (length-map-range_with_len (named w (locals_of xs)) 0 (length s.board))

  pub stays : setup_of s b ≡ setup_of t d
  unfolding made made_beside
  stays = λ i. record {
    frames = s.frames;
    cpus = s.cpus;
    step = b.step;
    objects = board-length i;
    locks = 33;
    cpu_words = 512;
    plain = filter (λ k. not (checks k i)) s.table.ages;
    lives = λ k. is_some (cache_of s k);
    layout = layout_at s;
    checks = λ k. checks k i;
    means = b.means;
  }

  pool-in : (v : LockValue) → IsGuarded (setup_of s b) 0 v → Pool (pool_in v) ≡ v
  pool-in Nothing g = absurd (let z = g.1 in omega arith)
  pool-in (Node fs) g = absurd (let z = g.1 in omega arith)
  pool-in (Checked c) g = absurd (let z = g.1 in omega arith)
  pool-in (Pool p) g = refl

  values : (n : ℕ) → n < 33 → w.value n ≡ value_of t n
  unfolding made
  values zero below = sym (pool-in (w.value 0) (guarded 0 below))
  values (suc k) below =
      let l : k < 32 = omega arith in
      sym (lives-in k (w.value (suc k)) (guarded (suc k) below))
      ∙ ap (λ o. node_value (is_some (cache_of s k)) o (frames_in (w.value (suc k)))) (sym (checked-at k l)) ∙ ap (λ fs. node_value (is_some (cache_of s k)) (checked_of t k) fs) (sym (node-at k l))

  nodes : (k : ℕ) → node_of t k ≡ frames_in (value_of t (node_lock k))
  unfolding made
  nodes k = elim (cases_lt k 32) [
    | inl l ↦ node-at k l ∙ ap frames_in (values (suc k) (omega arith)) ∙ ap (λ n. frames_in (value_of t n)) (number k)
    | inr g ↦ (
        let none = past-range (λ k. frames_in (w.value (suc k))) 32 k [] g in
        let plain = past-range (λ k. checked_in (w.value (suc k))) 32 k None g in
        none ∙ sym (ap (λ o. frames_in (node_value (is_some (cache_of s k)) o (node_of t k))) plain ∙ ap (λ fs. frames_in (node_value (is_some (cache_of s k)) None fs)) none ∙ list (is_some (cache_of s k))) ∙ ap (λ n. frames_in (value_of t n)) (number k))
  ]
    where
      list : (z : Bool) → frames_in (node_value z None []) ≡ []
      list true = refl
      list false = refl

  -- ---- what CPUs have

  cpu-is : (n : ℕ) → n < 512 → cpu_at t n ≡ read w stands.chains n
  unfolding made read
  cpu-is n below = elim (cases_lt (n % 16) s.cpus) [
    | inl l ↦ (
        let p = n / 16 * s.cpus + n % 16 in
        let q : p / s.cpus * 16 + p % s.cpus ≡ n = place (n / 16) (n % 16) s.cpus n l (omega arith) in
        cond-true (nat_lt (n % 16) s.cpus) (lists_of t (n / 16) (n % 16)) no_lists (lt-ltb (n % 16) s.cpus l)
        ∙ at-range (λ p. read w stands.chains (p / s.cpus * 16 + p % s.cpus)) (32 * s.cpus) p no_lists (small (n / 16) (n % 16) s.cpus l (omega arith)) ∙ ap (read w stands.chains) q)
    | inr g ↦ (
        let z = idle n below g in
        let current : current_in (w.cpu n).frame ≡ None = cond-true (eqb (w.cpu n).frame 0) None (Some (w.cpu n).frame) (eq-eqb (w.cpu n).frame 0 z.0) in
        let free = chain-none _ (w.cpu n).head (stands.chains.cpu n) (stands.placed.cpu_chain n (inside n below)) (stands.listed.shaped.bare n (inside n below) z.0) in
        let partial = none-of (stands.chains.list n) (sym (stands.listed.shaped.count n (inside n below)) ∙ z.1) in
        cond-false (nat_lt (n % 16) s.cpus) (lists_of t (n / 16) (n % 16)) no_lists (le-ltb (n % 16) s.cpus g) ∙ (λ i. record { current = sym current i; free = sym free i; partial = sym partial i }))
  ]
    where
      mono : (a c n : ℕ) → a ≤ c → a * n ≤ c * n
      mono a c n le = let t : c * n ≡ (a + (c - a)) * n = ap (λ z. z * n) (let q : c ≡ a + (c - a) = omega arith in q) in omega arith

      small : (k c cpus : ℕ) → c < cpus → k < 32 → k * cpus + c < 32 * cpus
      small k c cpus l m = let t : (k + 1) * cpus ≤ 32 * cpus = mono (k + 1) 32 cpus (omega arith) in omega arith

      place : (k c cpus n : ℕ) → c < cpus → k * 16 + c ≡ n → (k * cpus + c) / cpus * 16 + (k * cpus + c) % cpus ≡ n
      place k c cpus n l e =
          let p = k * cpus + c in
          let r = product_apart cpus (p / cpus) (p % cpus) k c (mod-lt p (omega arith)) l (let q : p / cpus * cpus + p % cpus ≡ p = omega arith in q) in
          omega (arith, r.0, r.1, e)

  cpus : (n : ℕ) → n < 512 → IsCpuOf d w n (cpu_at t n)
  unfolding made_beside read
  cpus n below = subst (IsCpuOf d w n) (sym (cpu-is n below)) (record {
    tid = sym (at-range (λ n. (w.cpu n).tid) 512 n 0 below);
    current = refl;
    free = stands.placed.cpu_chain n (inside n below);
    count = stands.listed.shaped.count n (inside n below);
    partial = stands.listed.shaped.string n (inside n below);
  })

  -- ---- slabs

  slabs : (f : ℕ) → slab_of t f ≡ slab_at w f
  unfolding made
  slabs f = elim (cases_lt f s.frames) [
    | inl l ↦ at-range (slab_at w) s.frames f None l
    | inr g ↦ past-range (slab_at w) s.frames f None g ∙ sym (slab-none w f (elim (cases_eq (objects_at w f) 0) [ inl z ↦ z | inr d ↦ absurd (let i = stands.listed.shaped.within f (omega arith) in omega (arith, i, g, frames)) ]))
  ]

  past-word : (f : ℕ) → s.frames ≤ f → (w.slab f).objects ≡ 0
  past-word f g = elim (cases_eq (w.slab f).objects 0) [ inl z ↦ z | inr d ↦ absurd (let o = word-objects w f (omega arith) in let i = stands.listed.shaped.within f (omega arith) in omega (arith, i, g, frames)) ]

  own-is : (f : ℕ) → own_free t f ≡ stands.chains.own f
  unfolding made
  own-is f = elim (cases_lt f s.frames) [
    | inl l ↦ at-range stands.chains.own s.frames f [] l
    | inr g ↦ past-range stands.chains.own s.frames f [] g ∙ sym (chain-none _ (w.slab f).head (stands.chains.own f) (stands.placed.own_chain f) (stands.listed.shaped.unslabbed f (past-word f g)).0)
  ]

  unchecked : (f : ℕ) → 1 ≤ (w.slab f).objects → checked_of t (w.slab f).cache ≡ None
  unchecked f some =
      let p = stands.listed.shaped.plain f some in
      let none : is_some (checked_of t (w.slab f).cache) ≡ false = sym (checks (w.slab f).cache) ∙ sym (ap (λ (m : Setup). m.checks (w.slab f).cache) is) ∙ p.2 in
      none-some (checked_of t (w.slab f).cache) none
    where
      none-some : {X : Type 0} (o : Option X) → is_some o ≡ false → o ≡ None
      none-some None e = refl
      none-some (Some x) e = absurd (false≢true (sym e))

  marks : (f : ℕ) → (w.slab f).listed ≡ nat_lt 0 (times f (node_of t (w.slab f).cache))
  unfolding made
  marks f = go (w.slab f).listed refl
    where
      none : sum_by (marked_of f) xs ≡ 0
      none = workers-none (marked_of f) w.setup xs (no-mark f w.setup) between bare

      go : (z : Bool) → (w.slab f).listed ≡ z → z ≡ nat_lt 0 (times f (node_of t (w.slab f).cache))
      go true e =
          let m : one_if (w.slab f).listed ≡ 1 = ap one_if e in
          let n = positive-term w.setup.locks (λ n. times f (frames_in (w.value n))) (omega (arith, stands.listed.marked f, none, m)) in
          sym (lt-ltb 0 (times f (node_of t (w.slab f).cache)) (at n.0 n.1 n.2))
        where
          at : (n : ℕ) → n < w.setup.locks → 0 < times f (frames_in (w.value n)) → 0 < times f (node_of t (w.slab f).cache)
          at zero below there = absurd (let z : times f (frames_in (w.value 0)) ≡ 0 = ap (λ v. times f (frames_in v)) (sym (pool-in (w.value 0) (guarded 0 (omega arith)))) in omega arith)
          at (suc k) below there =
              let o = (stands.listed.shaped.node k f (omega (arith, below)) (subst (λ n. 1 ≤ times f (frames_in (w.value n))) (number k) there)).owner in
              subst (λ j. 0 < times f (node_of t j)) (sym o) (subst (λ fs. 0 < times f fs) (sym (node-at k (omega (arith, below, locks)))) there)
      go false e =
          let m : one_if (w.slab f).listed ≡ 0 = ap one_if e in
          sym (le-ltb 0 (times f (node_of t (w.slab f).cache)) (by (w.slab f).cache (omega (arith, stands.listed.marked f, none, m))))
        where
          by : (k : ℕ) → sum_below w.setup.locks (λ n. times f (frames_in (w.value n))) ≡ 0 → times f (node_of t k) ≤ 0
          by k z = elim (cases_lt k 32) [
            | inl l ↦ (let q = term_le_sum w.setup.locks (λ n. times f (frames_in (w.value n))) (suc k) (omega (arith, l, locks)) in let e : times f (node_of t k) ≡ times f (frames_in (w.value (suc k))) = ap (times f) (node-at k l) in omega arith)
            | inr g ↦ (let e : times f (node_of t k) ≡ 0 = ap (times f) (past-range (λ k. frames_in (w.value (suc k))) 32 k [] g) in omega arith)
          ]

  -- ---- objects

  names : (o : ℕ) → held_under t o ≡ named w (locals_of xs) o
  unfolding made
  names o = elim (cases_lt o (length s.board)) [
    | inl l ↦ at-range (named w (locals_of xs)) (length s.board) o None l
    | inr g ↦ past-range (named w (locals_of xs)) (length s.board) o None g ∙ sym (ap (λ z. option_or (option_map held_on z) (held_among (locals_of xs) o)) (cut.board o (omega (arith, g, objects))) ∙ past-among w.setup o (locals_of xs) between (omega (arith, g, objects)))
  ]

  memories : (p : ℕ) → w.memory p ≡ get_or t.memory p 0
  unfolding made
  memories p = elim (cases_lt p (512 * s.frames)) [
    | inl l ↦ sym (at-range w.memory (512 * s.frames) p 0 l)
    | inr g ↦ cut.memory p (omega (arith, g, frames)) ∙ sym (past-range w.memory (512 * s.frames) p 0 g)
  ]

  free-locks : (n : ℕ) → n < 33 → w.lock n ≡ 0
  free-locks n below =
      let a = workers-none (takes n) w.setup xs (no-lock n w.setup) between bare in
      let l = stands.listed.locked n (omega (arith, below, locks)) in
      elim (cases_eq (w.lock n) 0) [
        | inl z ↦ z
        | inr d ↦ absurd (let o : one_if (eqb (w.lock n) 0) ≡ 0 = ap one_if (ne_eqb (w.lock n) 0 d) in omega arith)
      ]

  pub made-rests : Rests t d w (locals_of xs)
  made-rests = record {
    setup = is ∙ stays;
    words = stands.fresh.worded;
    workers = between;
    locks = free-locks;
    values = values;
    nodes = nodes;
    cpu = cpus;
    slab = slabs;
    unchecked = unchecked;
    unslabbed = λ f none. (stands.listed.shaped.unslabbed f none).1;
    own = λ f. subst (IsFreelistOf w f) (sym (own-is f)) (record { chain = stands.placed.own_chain f; in_use = stands.listed.shaped.counted f });
    listed = marks;
    named = names;
    once = once;
    no_zero = cut.zero;
    contents = λ object word held here plain inside. memories _;
  }

  pub made-lengths : HasLengths t
  unfolding made
  made-lengths = record {
    slabs = length-map-range_with_len (slab_at w) 0 s.frames;
    frees = length-map-range_with_len stands.chains.own 0 s.frames;
    cpu_lists = length-map-range_with_len (λ p. read w stands.chains (p / s.cpus * 16 + p % s.cpus)) 0 (32 * s.cpus);
    nodes = length-map-range_with_len (λ k. frames_in (w.value (suc k))) 0 32;
    checked = length-map-range_with_len (λ k. checked_in (w.value (suc k))) 0 32;
    memory = length-map-range_with_len w.memory 0 (512 * s.frames);
    gone = length-replicate (length s.board) None ∙ board-length;
    live = length-map-range_with_len (λ k. sum_by (held_of k) (map (named w (locals_of xs)) (range_with_len 0 (length s.board)))) 0 32;
  }

  -- no cache has a number past 31
  cache-below : (f : ℕ) → cache_at w f < 32
  cache-below f = elim (cases_lt 0 (w.slab f).objects) [
    | inl l ↦ subst (λ k. k < 32) (sym (word-cache w f l)) (stands.listed.shaped.plain f l).0
    | inr g ↦ (let e = unworded-cache w f (omega arith) in let v = values-below w.setup.locks f locks in omega arith)
  ]
    where
      least : (value : ℕ → LockValue) (n f : ℕ) → cache_in_values value (suc n) f ≤ n - 1
      least value zero f = elim (cases_Bool (nat_lt 0 (size_in (value 0) f))) [
        | inl yes_it ↦ (let e : cache_in_values value 1 f ≡ 0 - 1 = cond-true {A = ℕ} (nat_lt 0 (size_in (value 0) f)) (0 - 1) 0 yes_it in omega arith)
        | inr not_it ↦ (let e : cache_in_values value 1 f ≡ 0 = cond-false {A = ℕ} (nat_lt 0 (size_in (value 0) f)) (0 - 1) 0 not_it in omega arith)
      ]
      least value (suc n) f =
          let r = least value n f in
          elim (cases_Bool (nat_lt 0 (size_in (value (suc n)) f))) [
            | inl yes_it ↦ (let e : cache_in_values value (suc (suc n)) f ≡ suc n - 1 = cond-true {A = ℕ} (nat_lt 0 (size_in (value (suc n)) f)) (suc n - 1) (cache_in_values value (suc n) f) yes_it in omega arith)
            | inr not_it ↦ (let e : cache_in_values value (suc (suc n)) f ≡ cache_in_values value (suc n) f = cond-false {A = ℕ} (nat_lt 0 (size_in (value (suc n)) f)) (suc n - 1) (cache_in_values value (suc n) f) not_it in omega arith)
          ]

      values-below : (l f : ℕ) → l ≡ 33 → cache_in_values w.value l f ≤ 31
      values-below l f e = subst (λ l. cache_in_values w.value l f ≤ 31) (let q : suc 32 ≡ l = omega arith in q) (least w.value 32 f)

  holds-caches : All (λ (l : Local). All (λ (k : Known). k.held ≡ true → k.cache ≡ cache_at w k.frame) l.known) (locals_of xs)
  holds-caches = All-map (λ (l : Local). All (λ (k : Known). k.held ≡ true → k.cache ≡ cache_at w k.frame) l.known) (λ (x : Worker). x.local) xs
      (λ i d below. (stands.fresh.workers i d below).seen.known)

  no-held : (k : ℕ) → 32 ≤ k → sum_by (held_of k) t.board ≡ 0
  no-held k past =
      sum_by-below (held_of k) None t.board (length t.board) refl (omega arith)
      ∙ sum_below-none (length t.board) (λ o. held_of k (get_or t.board o None)) (λ o below. go o (omega (arith, below, board-length, objects)) (get_or t.board o None) refl)
    where
      go : (o : ℕ) → o < w.setup.objects → (h : Option Held) → get_or t.board o None ≡ h → held_of k h ≡ 0
      go o below None e = refl
      go o below (Some h) e =
          let own = named-all (λ k f. k ≡ cache_at w f) w (locals_of xs) o h (λ d at. stands.listed.shaped.board o d below at) holds-caches (sym (names o) ∙ e) in
          let small = cache-below h.frame in
          cond-false {A = ℕ} (eqb h.cache k) 1 0 (ne_eqb h.cache k (λ z. absurd (omega arith)))

  pub made-live : IsAccounted t
  unfolding made
  made-live k = elim (cases_lt k 32) [
    | inl l ↦ at-range (λ k. sum_by (held_of k) t.board) 32 k 0 l
    | inr g ↦ past-range (λ k. sum_by (held_of k) t.board) 32 k 0 g ∙ sym (no-held k g)
  ]
