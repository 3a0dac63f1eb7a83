-- The turn of a worker with what it has in hand is its turn in the whole machine.
use Rattle.std.proofs.Common.{◌≡◌, ℕ, ◌<◌, Bool, true, List, length, get_or, set, Contains, sym, ap, ◌∙◌, subst, arith}
use Rattle.std.proofs.lemmas.List.{length-map, map-set, get_or_past}
use mathlib.Core.Option.{some}
use lib.ListN.{get_elem?}
use Rattle.slub_core.specs.declared.step.Step.{Step}
use Rattle.slub_core.specs.declared.step.Answer.{Answer}
use Rattle.slub_core.specs.Setup.{Setup, node_lock}
use Rattle.slub_core.specs.Words.{number_of, after_op, answer_of}
use Rattle.slub_core.specs.World.{World, LockValue}
use Rattle.slub_core.specs.Local.{Local, Turn, Change}
use Rattle.slub_core.specs.Steps.{step_of, advance_at, advance_of, begun}
use Rattle.slub_core.specs.Run.{System, idle, after_step, turn}
use Rattle.slub_core.specs.Law.{IsCoherentSystem}
use Rattle.slub_core.specs.declared.guarded.Guarded.{Guarded}
use Rattle.slub_core.specs.declared.guarded.Guarded.TheVariants.{Nothing}
use Rattle.slub_core.specs.Values.{value_in, values_of, room_in, rooms_of}
use Rattle.slub_workers.specs.Locks.{Move, locks_of, move_of, values_moved}
use Rattle.slub_workers.specs.Standing.{Standing, begun_in, step_in, in_hand, after_turn, guarded_as, all_guarded, locals_of}
use Rattle.slub_workers.proofs.Locals.{uses_values, uses_node, uses_no_lock, contains_node, step_alike, advance_alike, begun_locks}
use Rattle.slub_workers.proofs.AtOnce.{AreAlike}
use Rattle.slub_workers.proofs.Advance.{advance_of_locks, advance_of_alike}
use Rattle.slub_workers.proofs.LockSteps.{MovesLocks, advance_locks}
use Rattle.slub_workers.proofs.LockBounds.{MovesBelow, move_below, has_below}
use Rattle.slub_workers.proofs.StepLists.{at_below, at_mapped}
use Rattle.slub_workers.proofs.StepValues.{length-all, length-rooms, as-new, as-before, values-all}
use Rattle.slub_workers.proofs.StepMoves.{AreInHand, IsTaken, moved-below, moved-length, moved-hand}

-- ---- the step that it makes, and what comes of it

abbrev pub word_of : Setup → Bool → Standing → ℕ
word_of m tries x = number_of m (step_in m tries x).place

abbrev pub found_of : Setup → List ℕ → Bool → Standing → ℕ
found_of m words tries x = get_or words (word_of m tries x) 0

abbrev pub move_made : Setup → List ℕ → Bool → Standing → Move
move_made m words tries x = move_of (step_in m tries x) (found_of m words tries x)

abbrev pub words_made : Setup → List ℕ → Bool → Standing → List ℕ
words_made m words tries x = set words (word_of m tries x) (after_op (step_in m tries x).op (found_of m words tries x))

-- with the values of all locks, and with those that it has in hand
abbrev pub change_made : Setup → Bool → List ℕ → List Guarded → Bool → Standing → Change
change_made m refused words values tries x = advance_of m refused (values_of values) (begun_in m tries x) (answer_of (step_in m tries x).op (found_of m words tries x))

-- what the locks guard after it
abbrev pub guards_after : Setup → Bool → List ℕ → List Guarded → Bool → Standing → List Guarded
guards_after m refused words guards tries x = all_guarded (rooms_of guards) (change_made m refused words guards tries x).value

-- all workers
abbrev pub whole : List ℕ → List Guarded → List Standing → System
whole words guards all = record { words = words; value = values_of guards; locals = locals_of all }

abbrev pub local_in : Standing → Local
local_in x = x.local

-- one of them
pub local-is : (all : List Standing) (w : ℕ) (x : Standing) → get_elem? all w ≡ some x → get_or (locals_of all) w idle ≡ x.local
local-is all w x here = at_mapped local_in all w x idle here

pub worker-below : (all : List Standing) (w : ℕ) (x : Standing) → get_elem? all w ≡ some x → w < length (locals_of all)
worker-below all w x here = let long = length-map all local_in in let below = at_below all w x here in omega arith

-- ---- a worker of a coherent machine, which has in hand what its locks guard

pub record IsAmong (m : Setup) (opening : World) (words : List ℕ) (guards : List Guarded) (all : List Standing) (w : ℕ) (x : Standing) : Type 0 where
  pub coherent : IsCoherentSystem m opening (whole words guards all)
  pub here : get_elem? all w ≡ some x
  pub hand : AreInHand (locks_of x.local) x.values guards
  pub room : length x.values ≡ 33
  pub many : length guards ≡ 33

module _ {m : Setup} {opening : World} {words : List ℕ} {guards : List Guarded} {all : List Standing} {w : ℕ} {x : Standing} (me : IsAmong m opening words guards all w x) (tries : Bool) where
  -- the values that it has in hand are those of the machine
  used : uses_values (begun_in m tries x).spot ≡ true → values_of x.values (node_lock (begun_in m tries x).cache) ≡ values_of guards (node_lock (begun_in m tries x).cache)
  used uses =
      let l = begun_in m tries x in
      ap value_in (me.hand (node_lock l.cache) (subst (λ (locks : List ℕ). Contains locks (node_lock l.cache)) (begun_locks m tries x.local) (contains_node l (uses_node l.spot uses))))

  pub step-same : step_in m tries x ≡ step_of m (values_of guards) (begun_in m tries x)
  step-same = let l = begun_in m tries x in step_alike m (values_of x.values) (values_of guards) l l.spot used

  -- where the answer leads
  abbrev pub answer : Answer
  answer = answer_of (step_in m tries x).op (found_of m words tries x)

  abbrev pub answered : Turn
  answered = advance_at m (values_of guards) (begun_in m tries x) (begun_in m tries x).spot answer

  -- its locks
  pub locks-moved : MovesLocks (move_made m words tries x) (locks_of x.local) (locks_of answered.local)
  locks-moved =
      let l = begun_in m tries x in
      let v = values_of guards in
      let n = found_of m words tries x in
      let P : Step → Type 0 = λ step. MovesLocks (move_of step n) (locks_of l) (locks_of (advance_at m v l l.spot (answer_of step.op n)).local) in
      subst (λ (locks : List ℕ). MovesLocks (move_made m words tries x) locks (locks_of answered.local)) (begun_locks m tries x.local) (subst P (sym step-same) (advance_locks m v l n))

  pub move-below : MovesBelow (move_made m words tries x) 33
  move-below =
      let P : Local → Type 0 = λ l. MovesBelow (move_of (step_of m (values_of x.values) (begun m tries l)) (found_of m words tries x)) 33 in
      subst P (local-is all w x me.here) (move_below m tries opening (whole words guards all) w (found_of m words tries x) (values_of x.values) me.coherent (worker-below all w x me.here))

  has-below : (lock : ℕ) → Contains (locks_of x.local) lock → lock < 33
  has-below lock has = has_below m opening (whole words guards all) w lock me.coherent (worker-below all w x me.here) (subst (λ (l : Local). Contains (locks_of l) lock) (sym (local-is all w x me.here)) has)

  pub answered-below : (lock : ℕ) → Contains (locks_of answered.local) lock → lock < 33
  answered-below lock has = moved-below (move_made m words tries x) 33 (locks_of x.local) (locks_of answered.local) locks-moved move-below has-below lock has

  -- ---- once its step took this, where it took a lock

  module _ (y : Guarded) (taken : IsTaken (move_made m words tries x) guards y) where
    abbrev pub held : List Guarded
    held = in_hand m tries x (found_of m words tries x) y

    pub length-held : length held ≡ 33
    length-held = moved-length (move_made m words tries x) y x.values ∙ me.room

    pub held-hand : AreInHand (locks_of answered.local) held guards
    held-hand =
        let below : MovesBelow (move_made m words tries x) (length x.values) = subst (λ (n : ℕ). MovesBelow (move_made m words tries x) n) (sym me.room) move-below in
        moved-hand (move_made m words tries x) y x.values guards (locks_of x.local) (locks_of answered.local) locks-moved below taken me.hand

    sees : uses_values (begun_in m tries x).spot ≡ true → values_of guards (node_lock (begun_in m tries x).cache) ≡ values_of held (node_lock (begun_in m tries x).cache)
    sees uses =
        let l = begun_in m tries x in
        let still : held ≡ x.values = ap (λ (move : Move). values_moved move y x.values) (uses_no_lock m (values_of x.values) l l.spot (found_of m words tries x) uses) in
        sym (used uses) ∙ ap (λ (g : List Guarded). values_of g (node_lock l.cache)) (sym still)

    pub answered-same : answered ≡ advance_at m (values_of held) (begun_in m tries x) (begun_in m tries x).spot answer
    answered-same = let l = begun_in m tries x in advance_alike m (values_of guards) (values_of held) l l.spot answer sees

    module _ (refused : Bool) where
      abbrev turned : Standing
      turned = after_turn m tries x (found_of m words tries x) y refused

      abbrev change : Change
      change = change_made m refused words guards tries x

      alike : AreAlike (locks_of change.local) (values_of guards) (values_of held) change (change_made m refused words held tries x)
      alike = advance_of_alike m refused (values_of guards) (values_of held) (begun_in m tries x) answer sees (λ lock has. ap value_in (sym (held-hand lock has)))

      changed-locks : locks_of change.local ≡ locks_of answered.local
      changed-locks = advance_of_locks m refused (values_of guards) (begun_in m tries x) answer

      -- where it stands
      pub local-same : turned.local ≡ change.local
      local-same = sym alike.local

      pub turned-locks : MovesLocks (move_made m words tries x) (locks_of x.local) (locks_of turned.local)
      turned-locks = subst (λ (locks : List ℕ). MovesLocks (move_made m words tries x) (locks_of x.local) locks) (sym changed-locks ∙ ap (λ (l : Local). locks_of l) alike.local) locks-moved

      as-changed : (lock : ℕ) → Contains (locks_of turned.local) lock → Contains (locks_of change.local) lock
      as-changed lock has = subst (λ (l : Local). Contains (locks_of l) lock) local-same has

      as-answered : (lock : ℕ) → Contains (locks_of turned.local) lock → Contains (locks_of answered.local) lock
      as-answered lock has = subst (λ (locks : List ℕ). Contains locks lock) changed-locks (as-changed lock has)

      pub turned-below : (lock : ℕ) → Contains (locks_of turned.local) lock → lock < 33
      turned-below lock has = answered-below lock (as-answered lock has)

      -- what it has in hand
      pub length-turned : length turned.values ≡ 33
      length-turned = length-all (rooms_of held) (change_made m refused words held tries x).value ∙ length-rooms held ∙ length-held

      pub turned-hand : AreInHand (locks_of turned.local) turned.values (guards_after m refused words guards tries x)
      turned-hand lock has =
          let long = length-held in
          let below = turned-below lock has in
          let now = as-changed lock has in
          as-new held (change_made m refused words held tries x).value lock (omega arith)
          ∙ ap (λ (g : Guarded). guarded_as (room_in g) ((change_made m refused words held tries x).value lock)) (held-hand lock (as-answered lock has))
          ∙ ap (λ (v : LockValue). guarded_as (room_in (get_or guards lock Nothing)) v) (sym (alike.here lock now))
          ∙ sym (as-new guards change.value lock (omega arith))

      -- what the other locks guard stays as it is
      else-value : (lock : ℕ) → ¬ Contains (locks_of turned.local) lock → change.value lock ≡ values_of guards lock
      else-value lock hasnt = alike.one lock (λ has. hasnt (subst (λ (l : Local). Contains (locks_of l) lock) alike.local has))

      pub else-stays : (lock : ℕ) → lock < 33 → ¬ Contains (locks_of turned.local) lock → get_or (guards_after m refused words guards tries x) lock Nothing ≡ get_or guards lock Nothing
      else-stays lock below hasnt = as-before guards change.value lock (omega arith) (else-value lock hasnt)

      pub values-after : values_of (guards_after m refused words guards tries x) ≡ change.value
      values-after = values-all guards change.value (λ lock past. else-value lock (λ has. let below = turned-below lock has in absurd (omega arith)) ∙ ap value_in (get_or_past guards lock Nothing past))

      -- the turn in the whole machine
      pub turn-is : turn m (whole words guards all) (record { worker = w; refused = refused; tries = tries }) ≡ whole (words_made m words tries x) (guards_after m refused words guards tries x) (set all w turned)
      turn-is =
          let s = whole words guards all in
          let l = begun_in m tries x in
          let by_step : Step → System = λ step.
          let n = number_of m step.place in
          let q = get_or words n 0 in
          let c = advance_of m refused (values_of guards) l (answer_of step.op q) in
          record { words = set words n (after_op step.op q); value = c.value; locals = set (locals_of all) w c.local } in
          let begin : turn m s (record { worker = w; refused = refused; tries = tries }) ≡ after_step m refused s w l = ap (λ (k : Local). after_step m refused s w (begun m tries k)) (local-is all w x me.here) in
          let steps : after_step m refused s w l ≡ by_step (step_in m tries x) = ap by_step (sym step-same) in
          let locals : set (locals_of all) w change.local ≡ locals_of (set all w turned) = ap (λ (k : Local). set (locals_of all) w k) (sym local-same) ∙ sym (map-set local_in all w turned) in
          begin ∙ steps ∙ (λ i. record { words = words_made m words tries x; value = sym values-after i; locals = locals i })
