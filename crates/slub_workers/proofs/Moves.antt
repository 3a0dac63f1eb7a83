-- A step that a worker's spot calls for keeps the rule, whatever kind of step it is.
use Rattle.std.proofs.Common.{◌≡◌, ℕ, Bool, true, false, List, [], ◌∷◌, length, set, refl, sym, ap, ◌∙◌, subst, length-set}
use Rattle.std.specs.Prelude.{slice_index, slice_set}
use mathlib.Core.Option.{Option, some, none}
use lib.ListN.{get_elem?}
use Rattle.atomic_table.specs.Table.{Act, keeps, takes, gives, Valid, Allows, homes_after, carried_after, rest}
use Rattle.slub_core.specs.Setup.{Setup}
use Rattle.slub_core.specs.Words.{word_count}
use Rattle.slub_core.specs.declared.guarded.Guarded.{Guarded}
use Rattle.slub_turns.specs.Laws.{TurnsKeepReady, PicksFit}
use Rattle.slub_workers.specs.Begun.{Begun}
use Rattle.slub_workers.specs.Cells.{by_number}
use Rattle.slub_workers.specs.Locks.{Move, Stays, Takes, Gives, move_of, value_given}
use Rattle.slub_workers.specs.Standing.{Standing, Fork, branch, branches, step_in, after_turn, fork_after}
use Rattle.slub_workers.specs.Rule.{Stands, Holds, number_in, setup_in}
use Rattle.slub_workers.specs.Sits.{Told, slots_after}
use Rattle.slub_workers.proofs.Cells.{length-by_number}
use Rattle.slub_workers.proofs.StepMoves.{homes_moved, IsHome}
use Rattle.slub_workers.proofs.StepStands.{found_at, move_at, words_after, takes_home, stands_step, stays_numbered}
use Rattle.slub_workers.proofs.StepGoesOn.{goes_on}
use Rattle.slub_workers.proofs.Branches.{chosen, chosen_here, set_chosen, branches_set, branches_at}
use Rattle.slub_workers.proofs.Ties.{tied_step}

-- ---- the act of a move

abbrev act_of : Move → Guarded → Act Guarded
act_of Stays y = keeps
act_of (Takes lock) y = takes lock y
act_of (Gives lock) y = gives

act_valid : (mv : Move) (homes : List (Option Guarded)) (c : List (ℕ × Guarded)) (y : Guarded) → IsHome mv homes y → Valid homes c (act_of mv y)
act_valid Stays homes c y home = tt
act_valid (Takes lock) homes c y home = home
act_valid (Gives lock) homes c y home = tt

homes_are : (mv : Move) (homes : List (Option Guarded)) (c : List (ℕ × Guarded)) (y : Guarded) (values : List Guarded)
    → ((lock : ℕ) → mv ≡ Gives lock → c ≡ (lock, value_given lock values) ∷ rest c)
    → homes_moved mv values homes ≡ homes_after homes c (act_of mv y)
homes_are Stays homes c y values given = refl
homes_are (Takes lock) homes c y values given = refl
homes_are (Gives lock) homes c y values given =
    subst (λ (d : List (ℕ × Guarded)). set homes lock (some (value_given lock values)) ≡ homes_after homes d gives) (sym (given lock refl)) refl

homes_count : (mv : Move) (homes : List (Option Guarded)) (c : List (ℕ × Guarded)) (y : Guarded) → length (homes_after homes c (act_of mv y)) ≡ length homes
homes_count Stays homes c y = refl
homes_count (Takes lock) homes c y = length-set homes lock none
homes_count (Gives lock) homes [] y = refl
homes_count (Gives lock) homes (x ∷ c) y = length-set homes x.0 (some x.1)

carried_is : (mv : Move) (c : List (ℕ × Guarded)) (y : Guarded) → carried_after c (act_of mv y) ≡ slots_after mv y c
carried_is Stays c y = refl
carried_is (Takes lock) c y = refl
carried_is (Gives lock) [] y = refl
carried_is (Gives lock) (x ∷ c) y = refl

pub branch_after : (m : Setup) (tries : Bool) (x : Standing) (found : ℕ) (y : Guarded) (b : Bool) → after_turn m tries x found y b ≡ branch b (fork_after m tries x found y)
branch_after m tries x found y true = refl
branch_after m tries x found y false = refl

-- ---- the step

-- the word in cell i becomes what the step makes of its own word, and what is found there tells what that is
pub record IsWord (key : Begun) (tries : Bool) (x : Standing) (words : List ℕ) (i : ℕ) (f told : ℕ → ℕ) : Type 0 where
  pub found : told (slice_index words i) ≡ found_at key (by_number words) tries x
  pub after : by_number (slice_set words i (f (slice_index words i))) ≡ words_after key (by_number words) tries x

module _ (keep : TurnsKeepReady) (fit : PicksFit) (key : Begun) (slots id : ℕ) (tries : Bool) (x : Standing) (fork : Fork) (refused : Bool) (is : x ≡ branch refused fork)
    (c : List (ℕ × Guarded)) (i : ℕ) (f told : ℕ → ℕ)
    (given : (lock n : ℕ) → move_of (step_in (setup_in key) tries x) n ≡ Gives lock → c ≡ (lock, value_given lock x.values) ∷ rest c)
    (word : (words : List ℕ) → length words ≡ word_count (setup_in key) → IsWord key tries x words i f told) where
  pub allowed : Allows (Holds key) slots id (fork ∷ [], c) i f (λ n after. Told key tries x (told n) (fork ∷ [], c) after)
  allowed s h count at small =
      let m = setup_in key in
      let w : ℕ = number_in fork in
      let ws : List ℕ = by_number s.words in
      let own = h.tied id (fork ∷ []) at in
      let st : (r : ℕ → Bool) → Stands key ws s.homes (branches (chosen w refused r) h.forks) = λ r. h.stand (chosen w refused r) in
      let here : (r : ℕ → Bool) → get_elem? (branches (chosen w refused r) h.forks) w ≡ some x = λ r.
      branches_at w (chosen w refused r) h.forks fork own.0 ∙ ap (λ (b : Bool). some (branch b fork)) (chosen_here w refused r) ∙ ap (λ (z : Standing). some z) (sym is) in
      let any : ℕ → Bool = λ _. false in
      let long : length s.words ≡ word_count m = sym (length-by_number s.words) ∙ (st any).ready.may.coherent.words in
      let at_word = word s.words long in
      let found : ℕ = found_at key ws tries x in
      let mv : Move = move_at key ws tries x in
      let home = takes_home key ws s.homes (branches (chosen w refused any) h.forks) w tries x keep fit (st any) h.slots (here any) in
      let y : Guarded = home.0 in
      let fork' : Fork = fork_after m tries x found y in
      let numbered : (b : Bool) → (after_turn m tries x found y b).local.worker ≡ w = λ b.
      stays_numbered key ws s.homes (branches (chosen w refused any) h.forks) w tries x keep fit (st any) h.slots (here any) y home.1 b in
      let number : x.local.worker ≡ w = (st any).numbers w x (here any) in
      let homes_is = homes_are mv s.homes c y x.values (λ lock e. given lock found e) in
      let stand : (r : ℕ → Bool) → Stands key (by_number (slice_set s.words i (f (slice_index s.words i)))) (homes_after s.homes c (act_of mv y)) (branches r (set h.forks w fork')) = λ r.
      let all = branches (chosen w refused r) h.forks in
      let after = stands_step key ws s.homes all w tries x keep fit (st r) h.slots (here r) y home.1 (r w) in
      let workers : set all w (after_turn m tries x found y (r w)) ≡ branches r (set h.forks w fork') =
      set_chosen w refused r h.forks (after_turn m tries x found y (r w)) ∙ ap (λ (z : Standing). set (branches r h.forks) w z) (branch_after m tries x found y (r w)) ∙ sym (branches_set w r h.forks fork') in
      subst (λ (words : List ℕ). Stands key words (homes_after s.homes c (act_of mv y)) (branches r (set h.forks w fork'))) (sym at_word.after) (
      subst (λ (hs : List (Option Guarded)). Stands key (words_after key ws tries x) hs (branches r (set h.forks w fork'))) homes_is (
      subst (λ (xs : List Standing). Stands key (words_after key ws tries x) (homes_moved mv x.values s.homes) xs) workers after
      )
      ) in (
        fork' ∷ [],
        act_of mv y,
        act_valid mv s.homes c y home.1,
        record {
          forks = set h.forks w fork';
          owner = h.owner;
          stand = stand;
          tied = tied_step h.owner h.forks s.views id fork fork' at (numbered false) h.tied;
          slots = homes_count mv s.homes c y ∙ h.slots;
          count = length-set h.forks w fork' ∙ h.count;
        },
        subst (λ (n : ℕ). Told key tries x n (fork ∷ [], c) (fork' ∷ [], carried_after c (act_of mv y))) (sym at_word.found) (record {
          value = y;
          view = refl;
          slots = carried_is mv c y;
          goes_on = goes_on key ws s.homes (branches (chosen w refused any) h.forks) w tries x keep fit (st any) h.slots (here any) y home.1;
          number = λ b. numbered b ∙ sym number;
        }),
      )
