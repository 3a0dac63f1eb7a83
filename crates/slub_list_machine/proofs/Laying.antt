-- The step of the loop that puts each held object on the board.
use Rattle.std.proofs.Common.{◌≡◌, ℕ, ◌+◌, ◌<◌, ◌≤◌, List, [], ◌∷◌, ◌++◌, length, take, drop, set, get_or, map, Option, None, option_map, ap, sym, ◌∙◌, arith, take_all}
use Rattle.std.proofs.lemmas.List.{drop_more, take_more, take_more_set, drop-set-lt, map_push}
use Rattle.slub_lists.specs.declared.lists.Held.{Held}
use Rattle.slub_lists.specs.State.{State}
use Rattle.slub_lists.specs.Coherent.{laid_down, all_on_board}

-- the object that stands next is laid down
module _ (items first : List (Option Held)) (i : ℕ) (x : Option Held) (inside : i < length items) (as_long : length items ≡ length first)
    (down : take i items ≡ map (option_map laid_down) (take i first)) (rest : drop i items ≡ drop i first) (at : get_or items i None ≡ x) where
  next : get_or items i None ∷ drop (i + 1) items ≡ get_or first i None ∷ drop (i + 1) first
  next = sym (drop_more items i None inside) ∙ rest ∙ drop_more first i None (omega arith)

  pub laid-next : take (i + 1) (set items i (option_map laid_down x)) ≡ map (option_map laid_down) (take (i + 1) first)
  laid-next =
      let e = next in
      let same : x ≡ get_or first i None = cc in
      take_more_set items i (option_map laid_down x) inside
      ∙ ap (λ (l : List (Option Held)). l ++ option_map laid_down x ∷ []) down
      ∙ ap (λ (y : Option Held). map (option_map laid_down) (take i first) ++ option_map laid_down y ∷ []) same
      ∙ sym (ap (map (option_map laid_down)) (take_more first i None (omega arith)) ∙ map_push (option_map laid_down) (take i first) (get_or first i None))

  pub laid-rest : drop (i + 1) (set items i (option_map laid_down x)) ≡ drop (i + 1) first
  laid-rest = let e = next in drop-set-lt (i + 1) items i (option_map laid_down x) (omega arith) ∙ (let r : drop (i + 1) items ≡ drop (i + 1) first = cc in r)

-- at the end all are
pub laid-all : (items first : List (Option Held)) (i : ℕ) → length items ≡ length first → length first ≤ i → take i items ≡ map (option_map laid_down) (take i first) → items ≡ map (option_map laid_down) first
laid-all items first i as_long past down = sym (take_all i items (omega arith)) ∙ down ∙ ap (map (option_map laid_down)) (take_all i first past)

-- a machine with that board
pub with_board : (s : State) (board gone : List (Option Held)) → board ≡ map (option_map laid_down) s.board → gone ≡ map (λ freed. None) s.gone → record s { board = board; gone = gone } ≡ all_on_board s
with_board s board gone e none = ap (λ (b : List (Option Held)). record s { board = b; gone = gone }) e ∙ ap (λ (g : List (Option Held)). record s { board = map (option_map laid_down) s.board; gone = g }) none
