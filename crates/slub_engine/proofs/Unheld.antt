-- Which numbers no object has, after an event and after many.
use Rattle.std.proofs.Common.{◌≡◌, ℕ, zero, suc, List, [], ◌∷◌, ◌++◌, get_or, map, refl, sym, ◌∙◌, ap, subst, arith, All, nat_eq, None, Option, inl, inr, slice_index_or}
use Rattle.std.specs.List.{IsDistinct}
use Rattle.std.specs.Option.{option_map}
use Rattle.std.proofs.lemmas.Bool.{cases_eq}
use Rattle.std.proofs.lemmas.List.Elements.{Contains-append_left, Contains-append_right, Contains-get_or}
use Rattle.slub_trace.specs.declared.event.Act.TheVariants.{Alloc}
use Rattle.slub_trace.specs.declared.event.Event.{Event}
use Rattle.slub_lists.specs.declared.lists.Held.{Held}
use Rattle.slub_trace.specs.declared.reply.Reply.{Reply}
use Rattle.slub_lists.specs.Freeing.{Frees}
use Rattle.slub_lists.specs.State.{State}
use Rattle.slub_lists.specs.Coherent.{KeepsOthers, all_on_board, laid_down}
use Rattle.slub_trace.specs.Sound.{objects_of}
use Rattle.slub_slabinfo_text.specs.Lawful.{IsUnheld}
use Rattle.slub_engine.specs.Steps.{KeepsUnheld}
use Rattle.slub_engine.proofs.Parts.{apart}

pub keeps_then : (s mid after : State) (xs ys : List ℕ) → KeepsUnheld s xs mid → KeepsUnheld mid ys after → KeepsUnheld s (xs ++ ys) after
keeps_then s mid after xs ys first second object unheld out =
    second object (first object unheld (λ mine. out (Contains-append_left xs ys object mine))) (λ mine. out (Contains-append_right xs ys object mine))

-- what is to come after the numbers that were allocated still stands for no object
pub still_unheld : (s now : State) (xs ys : List ℕ) → KeepsUnheld s xs now → IsDistinct nat_eq (xs ++ ys) → All (IsUnheld s) ys → All (IsUnheld now) ys
still_unheld s now xs ys keeps distinct unheld k d within =
    keeps (get_or ys k d) (unheld k d within) (λ mine. apart xs ys (get_or ys k d) distinct mine (Contains-get_or ys k d within))

laid_unheld : (board : List (Option Held)) (object : ℕ) → get_or board object None ≡ None → get_or (map (option_map laid_down) board) object None ≡ None
laid_unheld [] object unheld = unheld
laid_unheld (held ∷ board) zero unheld = ap (option_map laid_down) unheld
laid_unheld (held ∷ board) (suc object) unheld = laid_unheld board object unheld

-- the end of a round leaves the numbers as they are
pub keeps_laid : (s now : State) (objects : List ℕ) → KeepsUnheld s objects now → KeepsUnheld s objects (all_on_board now)
keeps_laid s now objects keeps object unheld out = laid_unheld now.board object (keeps object unheld out)

-- no object has the number of an allocation
pub alloc_unheld : (s : State) (event : Event) (place object : ℕ) → event.act ≡ Alloc place object → All (IsUnheld s) (objects_of (event ∷ [])) → IsUnheld s object
alloc_unheld s event place object is unheld =
    let mine : objects_of (event ∷ []) ≡ object ∷ [] = rw is refl in
    subst (All (IsUnheld s)) mine unheld 0 object (omega arith)

-- a free of a number that no object has changes nothing
free_same : (s after : State) (cpu worker object : ℕ) (reply : Reply) (other : ℕ) → other ≡ object → Frees s cpu worker object reply after → IsUnheld s other → IsUnheld after other
free_same s after cpu worker object reply other same frees unheld =
    let bare : slice_index_or s.board object None ≡ None = rw same at unheld in
    let kept : after ≡ s = (rw bare at frees).1 in
    rw kept unheld

-- an allocation changes its own number alone
pub alloc_keeps : (s after : State) (event : Event) (place object : ℕ) → event.act ≡ Alloc place object → KeepsOthers s object after
    → KeepsUnheld s (objects_of (event ∷ [])) after
alloc_keeps s after event place object is others other unheld out =
    others.board other (λ same. out (rw is (0, (omega arith), sym same))) ∙ unheld

-- a free none that no object has
pub free_keeps : (s after : State) (event : Event) (cpu worker object : ℕ) (reply : Reply) → Frees s cpu worker object reply after → KeepsOthers s object after
    → KeepsUnheld s (objects_of (event ∷ [])) after
free_keeps s after event cpu worker object reply frees others other unheld out = elim (cases_eq other object) [
  | inl same ↦ free_same s after cpu worker object reply other same frees unheld
  | inr differ ↦ others.board other differ ∙ unheld
]

-- with the same board each number is as it was
pub board_keeps : (s after : State) (objects : List ℕ) → after.board ≡ s.board → KeepsUnheld s objects after
board_keeps s after objects same object unheld out = rw same unheld
