-- The counted objects stay those on the board.
use Rattle.std.proofs.Common.{◌≡◌, ℕ, ◌+◌, ◌<◌, ◌≤◌, List, length, get_or, set, sum_by, replicate, Option, Some, None, option_map, refl, ap, sym, ◌∙◌, arith}
use Rattle.std.proofs.lemmas.List.Sums.{sum_by-set}
use Rattle.std.proofs.lemmas.List.Folds.{sum_by-replicate}
use Rattle.std.proofs.lemmas.Bool.Decides.{nat_tests}
use Rattle.slub_lists.specs.declared.lists.Held.{Held}
use Rattle.slub_lists.specs.State.{State}
use Rattle.slub_lists.specs.Alloc.{with_held}
use Rattle.slub_lists.specs.Coherent.{IsAccounted, held_of, laid_down, all_on_board, opening}
use Rattle.slub_common.proofs.Writes.{at_written_else, get_or-replicate_any}
use Rattle.slub_common.proofs.Sums.{sum_by-same, sum_by-map, sum_by-le-length}

-- one object more of the cache, and of no other
pub accounted-with_held : (s : State) (object : ℕ) (held : Held) → held.cache < length s.live → object < length s.board → get_or s.board object None ≡ None → IsAccounted s → IsAccounted (with_held s object held)
accounted-with_held s object held slot board unused accounted c =
    let more = sum_by-set (held_of c) s.board object (Some held) None board in
    let before : held_of c (get_or s.board object None) ≡ 0 = ap (held_of c) unused in
    at_written_else (λ n. n ≡ sum_by (held_of c) (set s.board object (Some held))) s.live held.cache c (get_or s.live held.cache 0 + 1) 0 slot
    (λ e. let one : held_of c (Some held) ≡ 1 = grind (arith, nat_tests, e) in omega (arith, more, before, one, accounted c, ap (λ n. get_or s.live n 0) e))
    (λ ne. let none : held_of c (Some held) ≡ 0 = grind (arith, nat_tests, ne) in omega (arith, more, before, none, accounted c))

held_of-laid_down : (c : ℕ) (x : Option Held) → held_of c (option_map laid_down x) ≡ held_of c x
held_of-laid_down c None = refl
held_of-laid_down c (Some held) = refl

pub accounted-all_on_board : (s : State) → IsAccounted s → IsAccounted (all_on_board s)
accounted-all_on_board s accounted c =
    accounted c ∙ sym (sum_by-map (held_of c) (option_map laid_down) s.board ∙ sum_by-same (λ x. held_of c (option_map laid_down x)) (held_of c) s.board (held_of-laid_down c))

pub accounted-opening : (frames cpus objects : ℕ) (names : List (List ℕ)) → IsAccounted (opening frames cpus objects names)
accounted-opening frames cpus objects names c =
    let none = sum_by-replicate (held_of c) (objects + 1) None in
    let zero : ◌≡◌ {A = ℕ} (get_or (replicate 32 0) c 0) 0 = get_or-replicate_any {A = ℕ} 32 c 0 in
    omega (arith, none, zero)

-- a count is at most the number of object numbers
held_of-most : (c : ℕ) (x : Option Held) → held_of c x ≤ 1
held_of-most c None = omega arith
held_of-most c (Some held) = grind (arith, nat_tests)

pub accounted-most : (s : State) (c : ℕ) → IsAccounted s → get_or s.live c 0 ≤ length s.board
accounted-most s c accounted = omega (arith, accounted c, sum_by-le-length (held_of c) s.board (held_of-most c))
