-- A machine in words closes into no two lists.
use Rattle.std.proofs.Common.{◌≡◌, ℕ, ◌+◌, ◌-◌, ◌*◌, ◌/◌, ◌%◌, ◌<◌, ◌≤◌, List, [], length, get_or, replicate, Option, None, sym, ap, ◌∙◌, subst, arith, inl, inr}
use Rattle.std.specs.Prelude.{nat_lt, sum_by}
use Rattle.std.proofs.lemmas.Bool.{cases_lt, cond-true, lt-ltb}
use Rattle.std.proofs.lemmas.List.{ext_get_or}
use Rattle.slub_lists.specs.declared.lists.Held.{Held}
use Rattle.slub_lists.specs.State.{State}
use Rattle.slub_lists.specs.Alloc.{lists_of, no_lists}
use Rattle.slub_lists.specs.Coherent.{held_of}
use Rattle.slub_core.specs.Setup.{Setup}
use Rattle.slub_core.specs.Run.{System}
use Rattle.slub_law_opening.specs.Opening.{Beside, setup_of, cpu_at}
use Rattle.slub_law_opening.specs.Closing.{AreAlike, Closes}
use Rattle.slub_law_opening.proofs.Cpus.{number-block}
use Rattle.slub_law_opening.proofs.Telling.{words-tell}
use Rattle.slub_open_close.specs.Closing.{KeepsWords}

-- ---- numbers of caches and CPUs

times-more : (a d n : ℕ) → a ≤ d → a * n ≤ d * n
times-more a d n le = let t : d * n ≡ (a + (d - a)) * n = ap (λ (z : ℕ). z * n) (let q : d ≡ a + (d - a) = omega (arith, le) in q) in omega (arith, t)

pub cache-below : (p cpus : ℕ) → p < 32 * cpus → p / cpus < 32
cache-below p cpus below = elim (cases_lt (p / cpus) 32) [
  | inl l ↦ l
  | inr g ↦ absurd (let m = times-more 32 (p / cpus) cpus g in let e : p / cpus * cpus + p % cpus ≡ p = omega arith in omega arith)
]

-- what stands at a place is what a CPU has of a cache
pub lists-at : (s : State) (p : ℕ) → 1 ≤ s.cpus → s.cpus ≤ 16 → cpu_at s (p / s.cpus * 16 + p % s.cpus) ≡ get_or s.cpu_lists p no_lists
lists-at s p some few =
    let n = p / s.cpus * 16 + p % s.cpus in
    let under : p % s.cpus < s.cpus = omega (arith, some) in
    let q = number-block (p / s.cpus) (p % s.cpus) (omega (arith, under, few)) in
    let back : n / 16 * s.cpus + n % 16 ≡ p = ap (λ (k : ℕ). k * s.cpus + n % 16) q.0 ∙ ap (λ (c : ℕ). p / s.cpus * s.cpus + c) q.1 ∙ (let e : p / s.cpus * s.cpus + p % s.cpus ≡ p = omega arith in e) in
    cond-true (nat_lt (n % 16) s.cpus) (lists_of s (n / 16) (n % 16)) no_lists (lt-ltb (n % 16) s.cpus (omega (arith, q.1, under)))
    ∙ ap (λ (z : ℕ). get_or s.cpu_lists z no_lists) back

module _ (s t : State) (cpus : s.cpus ≡ t.cpus) (few : s.cpus ≤ 16) (same : (n : ℕ) → n < 512 → cpu_at s n ≡ cpu_at t n) where
  same-cpu-lists : length s.cpu_lists ≡ 32 * s.cpus → length t.cpu_lists ≡ 32 * t.cpus → s.cpu_lists ≡ t.cpu_lists
  same-cpu-lists long also = ext_get_or no_lists s.cpu_lists t.cpu_lists (long ∙ ap (λ (n : ℕ). 32 * n) cpus ∙ sym also) (λ p below.
      let inside : p < 32 * s.cpus = subst (λ (n : ℕ). p < n) long below in
      let some : 1 ≤ s.cpus = omega (arith, inside) in
      let cache : p / s.cpus < 32 = cache-below p s.cpus inside in
      let under : p % s.cpus < s.cpus = omega (arith, some) in
      let small : p / s.cpus * 16 + p % s.cpus < 512 = omega (arith, cache, under, few) in
      sym (lists-at s p some few) ∙ same (p / s.cpus * 16 + p % s.cpus) small
      ∙ ap (λ (n : ℕ). cpu_at t (p / n * 16 + p % n)) cpus ∙ lists-at t p (omega (arith, cpus, some)) (omega (arith, cpus, few)))

-- ---- the whole

-- two lists with the same fields are one
same-state : (s t : State) → s.frames ≡ t.frames → s.cpus ≡ t.cpus → s.pool ≡ t.pool → s.slabs ≡ t.slabs → s.frees ≡ t.frees → s.table ≡ t.table → s.cpu_lists ≡ t.cpu_lists → s.nodes ≡ t.nodes → s.checked ≡ t.checked
    → s.memory ≡ t.memory → s.board ≡ t.board → s.gone ≡ t.gone → s.live ≡ t.live → s ≡ t
same-state s t frames cpus pool slabs frees table cpu_lists nodes checked memory board gone live = λ i. record {
  frames = frames i;
  cpus = cpus i;
  pool = pool i;
  slabs = slabs i;
  frees = frees i;
  table = table i;
  cpu_lists = cpu_lists i;
  nodes = nodes i;
  checked = checked i;
  memory = memory i;
  board = board i;
  gone = gone i;
  live = live i;
}

module _ (s t u : State) (b d e : Beside) (system : System) (few : s.cpus ≤ 16) (one : Closes s b system t d) (other : Closes s b system u e) (kept : KeepsWords s b system t) (also : KeepsWords s b system u) where
  stays : setup_of t d ≡ setup_of u e
  stays = one.stays ∙ sym other.stays

  frames : t.frames ≡ u.frames
  frames = ap (λ (m : Setup). m.frames) stays

  cpus : t.cpus ≡ u.cpus
  cpus = ap (λ (m : Setup). m.cpus) stays

  objects : length t.board ≡ length u.board
  objects = ap (λ (m : Setup). m.objects) stays

  alike : AreAlike t u
  alike = words-tell t u d e system stays one.rests other.rests

  board : t.board ≡ u.board
  board = ext_get_or None t.board u.board objects (λ k below. alike.board k)

  -- what the words say, the sizes and the counts leave nothing open
  pub same-close : t ≡ u
  same-close = same-state t u frames cpus alike.pool
      (ext_get_or None t.slabs u.slabs (one.lengths.slabs ∙ frames ∙ sym other.lengths.slabs) (λ k below. alike.slab k))
      (ext_get_or [] t.frees u.frees (one.lengths.frees ∙ frames ∙ sym other.lengths.frees) (λ k below. alike.own k))
      (one.table ∙ sym other.table)
      (same-cpu-lists t u cpus (subst (λ n. n ≤ 16) (sym (ap (λ (m : Setup). m.cpus) one.stays)) few) alike.cpu one.lengths.cpu_lists other.lengths.cpu_lists)
      (ext_get_or [] t.nodes u.nodes (one.lengths.nodes ∙ sym other.lengths.nodes) (λ k below. alike.node k (omega (arith, below, one.lengths.nodes))))
      (ext_get_or None t.checked u.checked (one.lengths.checked ∙ sym other.lengths.checked) (λ k below. alike.checked k (omega (arith, below, one.lengths.checked))))
      (ext_get_or 0 t.memory u.memory (one.lengths.memory ∙ ap (λ n. 512 * n) frames ∙ sym other.lengths.memory) (λ k below. kept.memory k ∙ sym (also.memory k)))
      board
      (kept.gone ∙ ap (λ n. replicate n None) objects ∙ sym also.gone)
      (ext_get_or 0 t.live u.live (one.lengths.live ∙ sym other.lengths.live) (λ k below. one.live k ∙ ap (λ (held : List (Option Held)). sum_by (held_of k) held) board ∙ sym (other.live k)))
