-- An object that no worker holds is on the board.
use Rattle.std.proofs.Common.{◌≡◌, ℕ, ◌&&◌, Bool, true, false, cond, eqb, List, [], ◌∷◌, Option, Some, None, inl, inr, refl, ap, sym, ◌∙◌}
use Rattle.std.specs.Prelude.{is_some}
use Rattle.std.specs.Option.{option_map, option_map_or, option_or}
use Rattle.std.proofs.lemmas.Bool.{false≢true, cases_Bool}
use Rattle.slub_words.specs.declared.board.BoardWord.{BoardWord}
use Rattle.slub_lists.specs.declared.lists.Held.{Held}
use Rattle.slub_lists.specs.State.{State}
use Rattle.slub_lists.specs.Coherent.{held_under}
use Rattle.slub_core.specs.declared.call.Call.{Call}
use Rattle.slub_core.specs.declared.call.CallKind.TheVariants.{Free}
use Rattle.slub_core.specs.declared.local.Known.{Known}
use Rattle.slub_core.specs.Calls.{call_kind, call_object}
use Rattle.slub_core.specs.Local.{Local}
use Rattle.slub_core.specs.Replies.{names_object}
use Rattle.slub_core.specs.Run.{System}
use Rattle.slub_core.specs.World.{World}
use Rattle.slub_law_opening.specs.Opening.{Beside}
use Rattle.slub_law_opening.specs.Rests.{named as named_in, held_on, held_in, held_among}
use Rattle.slub_law_opening.proofs.Names.{as_held}
use Rattle.slub_law_alone.specs.Alone.{worker_at, known_at, IsAtRest, IsNext}
use Rattle.slub_law_alone.proofs.Start.{has_object}

-- what a worker holds names the worker
holder : (worker o : ℕ) (ks : List Known) (h : Held) → held_in worker ks o ≡ Some h → is_some h.worker ≡ true
holder worker o [] h e = absurd (cc e)
holder worker o (k ∷ ks) h e = by (k.held && eqb k.object o) e (holder worker o ks h)
  where
    injected : {x y : Held} → Some x ≡ Some y → x ≡ y
    injected e = cc

    by : (z : Bool) → cond {A = Option Held} z (Some (as_held worker k)) (held_in worker ks o) ≡ Some h → (held_in worker ks o ≡ Some h → is_some h.worker ≡ true) → is_some h.worker ≡ true
    by true is more = ap (λ (h : Held). is_some h.worker) (sym (injected is))
    by false is more = more is

among_holder : (o : ℕ) (ls : List Local) (h : Held) → held_among ls o ≡ Some h → is_some h.worker ≡ true
among_holder o [] h e = absurd (cc e)
among_holder o (l ∷ ls) h e = by (held_in l.worker l.known o) refl e (among_holder o ls h)
  where
    by : (x : Option Held) → held_in l.worker l.known o ≡ x → option_or x (held_among ls o) ≡ Some h → (held_among ls o ≡ Some h → is_some h.worker ≡ true) → is_some h.worker ≡ true
    by None is e more = more e
    by (Some x) is e more = holder l.worker o l.known h (is ∙ e)

-- what no worker holds is on the board
pub record OnBoard (w : World) (o : ℕ) (held : Held) : Type 0 where
  pub word : BoardWord
  pub there : w.board o ≡ Some word
  pub is : held_on word ≡ held

pub on_board_it : (w : World) (ls : List Local) (o : ℕ) (held : Held) → named_in w ls o ≡ Some held → held.worker ≡ None → OnBoard w o held
on_board_it w ls o held named nobodys = by (w.board o) refl
  where
    injected : {x y : Held} → Some x ≡ Some y → x ≡ y
    injected e = cc

    by : (d : Option BoardWord) → w.board o ≡ d → OnBoard w o held
    by None there = absurd (false≢true (sym (ap is_some nobodys) ∙ among_holder o ls held (sym (ap (λ d. option_or (option_map held_on d) (held_among ls o)) there) ∙ named)))
    by (Some d) there = record { word = d; there = there; is = injected (sym (ap (λ d. option_or (option_map held_on d) (held_among ls o)) there) ∙ named) }

-- who takes an object from the board doesn't hold it
pub board_unheld : (opening : World) (s : State) (b : Beside) (system : System) (x : ℕ) (call : Call) (held : Held) → IsAtRest opening s b system → IsNext system x call → call_kind call ≡ Free → held_under s (call_object call) ≡ Some held → held.worker ≡ None → (known_at (worker_at system x) call).held ≡ false
board_unheld opening s b system x call held rest next is named nobodys = elim (cases_Bool (known_at (worker_at system x) call).held) [
  | inr no_more ↦ no_more
  | inl has_it ↦ absurd (
      let mine = (has_object opening s b system x call rest next (ap names_object is) has_it).named in
      let worker : is_some held.worker ≡ true = ap (λ z. option_map_or (λ (h : Held). is_some h.worker) z false) (sym named ∙ mine) in
      false≢true (sym (ap is_some nobodys) ∙ worker))
]
