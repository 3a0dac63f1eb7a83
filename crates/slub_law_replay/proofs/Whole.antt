-- Machines that are alike, of one size, with the same names and caches, are the same but for words of frames.
use Rattle.std.proofs.Common.{◌≡◌, ℕ, ◌+◌, ◌*◌, ◌/◌, ◌%◌, ◌<◌, ◌≤◌, List, [], ◌∷◌, length, map, Option, None, refl, sym, ap, ◌∙◌, subst, arith}
use Rattle.std.specs.Prelude.{sum_by}
use Rattle.std.specs.Option.{option_map}
use Rattle.std.proofs.lemmas.List.{ext_get_or}
use Rattle.slub_lists.specs.declared.lists.Held.{Held}
use Rattle.slub_lists.specs.State.{State}
use Rattle.slub_lists.specs.Alloc.{no_lists}
use Rattle.slub_lists.specs.Coherent.{IsAccounted, IsShaped, all_on_board, held_of, laid_down}
use Rattle.slub_core.specs.Setup.{Setup}
use Rattle.slub_law_opening.specs.Opening.{Beside, cpu_at, setup_of}
use Rattle.slub_law_opening.specs.Closing.{AreAlike, HasLengths}
use Rattle.slub_rounds.proofs.Lists.{cache-below, lists-at}

-- ---- what was freed

abbrev pub forgotten : Option Held → Option Held
forgotten freed = None

pub blank : (xs ys : List (Option Held)) → length xs ≡ length ys → map forgotten xs ≡ map forgotten ys
blank [] [] long = refl
blank [] (y ∷ ys) long = absurd (omega (arith, long))
blank (x ∷ xs) [] long = absurd (omega (arith, long))
blank (x ∷ xs) (y ∷ ys) long = let rest = blank xs ys (omega (arith, long)) in ap (λ (zs : List (Option Held)). None ∷ zs) rest

-- ---- the lists

module _ (t u : State) (d e : Beside) (setup : setup_of t d ≡ setup_of u e) (table : t.table ≡ u.table) (alike : AreAlike t u) (long : HasLengths t) (also : IsShaped u) (live : IsAccounted t) (counts : IsAccounted u) where
  frames : t.frames ≡ u.frames
  frames = ap (λ (m : Setup). m.frames) setup

  cpus : t.cpus ≡ u.cpus
  cpus = ap (λ (m : Setup). m.cpus) setup

  objects : length t.board ≡ length u.board
  objects = ap (λ (m : Setup). m.objects) setup

  slabs : t.slabs ≡ u.slabs
  slabs = ext_get_or None t.slabs u.slabs (long.slabs ∙ frames ∙ sym also.slabs) (λ n below. alike.slab n)

  frees : t.frees ≡ u.frees
  frees = ext_get_or [] t.frees u.frees (long.frees ∙ frames ∙ sym also.frees) (λ n below. alike.own n)

  places : length t.cpu_lists ≡ length u.cpu_lists
  places = long.cpu_lists ∙ ap (λ (n : ℕ). 32 * n) cpus ∙ sym also.cpu_lists

  some : 1 ≤ t.cpus
  some = omega (arith, cpus, also.cpus.0)

  few : t.cpus ≤ 16
  few = omega (arith, cpus, also.cpus.1)

  cpu_lists : t.cpu_lists ≡ u.cpu_lists
  cpu_lists = ext_get_or no_lists t.cpu_lists u.cpu_lists places (λ p below.
      let inside : p < 32 * t.cpus = subst (λ (n : ℕ). p < n) long.cpu_lists below in
      let cache : p / t.cpus < 32 = cache-below p t.cpus inside in
      let under : p % t.cpus < t.cpus = omega (arith, some) in
      let small : p / t.cpus * 16 + p % t.cpus < 512 = omega (arith, cache, under, few) in
      sym (lists-at t p some few) ∙ alike.cpu (p / t.cpus * 16 + p % t.cpus) small
      ∙ ap (λ (n : ℕ). cpu_at u (p / n * 16 + p % n)) cpus ∙ lists-at u p also.cpus.0 also.cpus.1)

  nodes : t.nodes ≡ u.nodes
  nodes = ext_get_or [] t.nodes u.nodes (long.nodes ∙ sym also.nodes) (λ n below. alike.node n (omega (arith, below, long.nodes)))

  checked : t.checked ≡ u.checked
  checked = ext_get_or None t.checked u.checked (long.checked ∙ sym also.checked.numbers) (λ n below. alike.checked n (omega (arith, below, long.checked)))

  board : t.board ≡ u.board
  board = ext_get_or None t.board u.board objects (λ n below. alike.board n)

  counted : t.live ≡ u.live
  counted = ext_get_or 0 t.live u.live (long.live ∙ sym also.live) (λ n below. live n ∙ ap (sum_by (held_of n)) board ∙ sym (counts n))

  -- with all objects on the board they are the same but for words of frames
  pub same-lists : all_on_board t ≡ record (all_on_board u) { memory = t.memory }
  same-lists = λ i. record {
    frames = frames i;
    cpus = cpus i;
    pool = alike.pool i;
    slabs = slabs i;
    frees = frees i;
    table = table i;
    cpu_lists = cpu_lists i;
    nodes = nodes i;
    checked = checked i;
    memory = t.memory;
    board = map (option_map laid_down) (board i);
    gone = blank t.gone u.gone (long.gone ∙ objects ∙ sym also.gone) i;
    live = counted i;
  }
