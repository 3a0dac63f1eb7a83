-- What a worker between two calls knows of an object, and what the lists say that its number names.
use Rattle.std.proofs.Common.{◌≡◌, ◌≢◌, ℕ, suc, ◌<◌, ◌&&◌, cond, eqb, Bool, true, false, List, [], ◌∷◌, length, get_or, Option, Some, None, refl, ap, sym, ◌∙◌, subst, arith, inl, inr}
use Rattle.std.specs.Option.{option_map, option_and_then, option_or}
use Rattle.std.proofs.lemmas.Bool.{cases_Bool, cases_eq, ne_eqb, false≢true, cond-false}
use Rattle.std.proofs.lemmas.List.Elements.{All-contains_itself}
use Rattle.slub_words.specs.declared.board.BoardWord.{BoardWord}
use Rattle.slub_lists.specs.declared.lists.Held.{Held}
use Rattle.slub_lists.specs.State.{State}
use Rattle.slub_lists.specs.Coherent.{held_under}
use Rattle.slub_lists.specs.Words.{held_by, own}
use Rattle.slub_core.specs.declared.local.Known.{Known}
use Rattle.slub_core.specs.Accounted.{AreDistinct, known_of, place_of}
use Rattle.slub_core.specs.Local.{Local, nobody}
use Rattle.slub_core.specs.Run.{System, idle}
use Rattle.slub_core.specs.World.{World, world_of}
use Rattle.slub_core.proofs.TaleKnowns.{place_of-object}
use Rattle.slub_core.proofs.TaleReplies.{told-of}
use Rattle.slub_law_opening.specs.Opening.{Beside, setup_of}
use Rattle.slub_law_opening.specs.Rests.{held_among, held_in, held_on}
use Rattle.slub_law_opening.proofs.Names.{as_held, held-named}
use Rattle.slub_law_alone.specs.Alone.{worker_at, IsAtRest}
use Rattle.slub_law_alone.proofs.Workers.{at_front}

-- ---- among what one worker knows

either-way : (h : Bool) (k : Known) (worker : ℕ) (rest : Option Held) → cond (h && false) (Some (as_held worker k)) rest ≡ rest
either-way true k worker rest = refl
either-way false k worker rest = refl

-- a number that has no place holds nothing
absent : (worker o : ℕ) (ks : List Known) → place_of ks o ≡ length ks → held_in worker ks o ≡ None
absent worker o [] past = refl
absent worker o (k ∷ ks) past = elim (cases_Bool (eqb k.object o)) [
  | inl same ↦ absurd (let first : place_of (k ∷ ks) o ≡ 0 = rw same refl in omega (arith, first, past))
  | inr other ↦
      let later : place_of (k ∷ ks) o ≡ suc (place_of ks o) = rw other refl in
      let skip : held_in worker (k ∷ ks) o ≡ held_in worker ks o = rw other (either-way k.held k worker (held_in worker ks o)) in
      skip ∙ absent worker o ks (omega (arith, later, past))
]

-- what is not held at the number's place is held at none
unheld-in : (worker o : ℕ) (ks : List Known) → AreDistinct ks → (known_of ks o).held ≡ false → held_in worker ks o ≡ None
unheld-in worker o [] distinct free = refl
unheld-in worker o (k ∷ ks) distinct free = elim (cases_Bool (eqb k.object o)) [
  | inl same ↦
      let mine : known_of (k ∷ ks) o ≡ k = rw same refl in
      let off : k.held ≡ false = ap (λ (k : Known). k.held) (sym mine) ∙ free in
      let skip : held_in worker (k ∷ ks) o ≡ held_in worker ks o = rw off refl in
      skip ∙ absent worker o ks (ap (place_of ks) (sym (named same)) ∙ distinct.0)
  | inr other ↦
      let later : known_of (k ∷ ks) o ≡ known_of ks o = rw other refl in
      let skip : held_in worker (k ∷ ks) o ≡ held_in worker ks o = rw other (either-way k.held k worker (held_in worker ks o)) in
      skip ∙ unheld-in worker o ks distinct.1 (ap (λ (k : Known). k.held) (sym later) ∙ free)
]
  where
    named : eqb k.object o ≡ true → k.object ≡ o
    named same = elim (cases_eq k.object o) [ inl e ↦ e | inr d ↦ absurd (false≢true (sym (ne_eqb k.object o d) ∙ same)) ]

-- what is held has a place
held-inside : (ks : List Known) (o : ℕ) → (known_of ks o).held ≡ true → place_of ks o < length ks
held-inside [] o held = absurd (false≢true held)
held-inside (k ∷ ks) o held = elim (cases_Bool (eqb k.object o)) [
  | inl same ↦ let first : place_of (k ∷ ks) o ≡ 0 = rw same refl in omega (arith, first)
  | inr other ↦
      let later : place_of (k ∷ ks) o ≡ suc (place_of ks o) = rw other refl in
      let mine : known_of (k ∷ ks) o ≡ known_of ks o = rw other refl in
      let below = held-inside ks o (ap (λ (k : Known). k.held) (sym mine) ∙ held) in
      omega (arith, later, below)
]

-- ---- among all workers

-- another worker's object is not this one's
other-none : (x worker o : ℕ) (ks : List Known) → worker ≢ x → option_and_then (own x) (held_in worker ks o) ≡ None
other-none x worker o [] apart = refl
other-none x worker o (k ∷ ks) apart = by (k.held && eqb k.object o) (other-none x worker o ks apart)
  where
    by : (b : Bool) → option_and_then (own x) (held_in worker ks o) ≡ None → option_and_then (own x) (cond b (Some (as_held worker k)) (held_in worker ks o)) ≡ None
    by true rest = cond-false {A = Option Held} (eqb worker x) (Some (as_held worker k)) None (ne_eqb worker x apart)
    by false rest = rest

or-none : (x : ℕ) (a b : Option Held) → option_and_then (own x) a ≡ None → option_and_then (own x) b ≡ None → option_and_then (own x) (option_or a b) ≡ None
or-none x None b first second = second
or-none x (Some h) b first second = first

among-none : (x o : ℕ) (ls : List Local) → ((i : ℕ) → i < length ls → option_and_then (own x) (held_in (get_or ls i idle).worker (get_or ls i idle).known o) ≡ None) → option_and_then (own x) (held_among ls o) ≡ None
among-none x o [] none = refl
among-none x o (l ∷ ls) none =
    or-none x (held_in l.worker l.known o) (held_among ls o) (none 0 (omega arith)) (among-none x o ls (λ i below. none (suc i) (omega (arith, below))))

module _ (opening : World) (s : State) (b : Beside) (system : System) (x : ℕ) (rest : IsAtRest opening s b system) (there : x < length system.locals) where
  abbrev l : Local
  l = worker_at system x

  distinct : AreDistinct l.known
  distinct =
      let front = at_front (setup_of s b) opening system x there rest.coherent in
      subst (λ (l : Local). AreDistinct l.known) front.local (told-of opening (world_of (setup_of s b) system.value system.words) front.worker front.others front.account).distinct

  -- a number under which the worker doesn't hold anything names nothing of it
  pub not-held : ((i : ℕ) → i < length system.locals → (worker_at system i).worker ≡ i) → (o : ℕ) → (known_of l.known o).held ≡ false → held_by s x o ≡ None
  not-held numbered o free =
      let w = world_of (setup_of s b) system.value system.words in
      ap (option_and_then (own x)) (rest.rests.rests.named o)
      ∙ or-none x (option_map held_on (w.board o)) (held_among system.locals o) (on-board (w.board o)) (among-none x o system.locals each)
    where
      on-board : (d : Option BoardWord) → option_and_then (own x) (option_map held_on d) ≡ None
      on-board None = refl
      on-board (Some d) = refl

      each : (i : ℕ) → i < length system.locals → option_and_then (own x) (held_in (worker_at system i).worker (worker_at system i).known o) ≡ None
      each i below = elim (cases_eq i x) [
        | inl e ↦ ap (option_and_then (own x)) (ap (λ j. held_in (worker_at system j).worker (worker_at system j).known o) e ∙ unheld-in l.worker o l.known distinct free)
        | inr apart ↦ other-none x (worker_at system i).worker o (worker_at system i).known (λ e. apart (sym (numbered i below) ∙ e))
      ]

  -- one that it holds names it
  pub is-held : (o : ℕ) → (known_of l.known o).held ≡ true → held_under s o ≡ Some (as_held l.worker (known_of l.known o))
  is-held o held =
      let k = known_of l.known o in
      let place = held-inside l.known o held in
      ap (held_under s) (sym (place_of-object l.known o place)) ∙ rest.rests.rests.named k.object
      ∙ held-named (world_of (setup_of s b) system.value system.words) system.locals l k (All-contains_itself system.locals x idle there) (All-contains_itself l.known (place_of l.known o) nobody place) held (rest.rests.rests.once k.object)
