-- What the steps on the table ask, and what they make.
use Rattle.std.proofs.Common.{◌≡◌, ◌≢◌, ℕ, zero, suc, ◌+◌, ◌*◌, ◌<◌, ◌≤◌, Bool, true, false, List, [], ◌∷◌, length, set, refl, sym, ap, ◌∙◌, subst, arith}
use Rattle.std.specs.Prelude.{if◌then◌else◌, cond, ◌==◌, slice_index, slice_index_or}
use Rattle.std.proofs.lemmas.Bool.{eq-eqb, ne_eqb}
use Rattle.std.proofs.lemmas.List.{set-get_or}
use prog.Atomic.{either}
use Rattle.atomic_table.specs.Table.{Me, Allows, rest}
use Rattle.slub_core.specs.declared.step.Place.{Place}
use Rattle.slub_core.specs.declared.step.Place.TheVariants.{LockOf}
use Rattle.slub_core.specs.declared.step.Op.{Op}
use Rattle.slub_core.specs.declared.step.Op.TheVariants.{Load, Store, Swap, Exchange}
use Rattle.slub_core.specs.declared.step.Step.{Step}
use Rattle.slub_core.specs.declared.step.Answer.{Answer}
use Rattle.slub_core.specs.Facts.{Facts}
use Rattle.slub_core.specs.Words.{word_count, number_of, after_op, answer_of}
use Rattle.slub_core.specs.declared.guarded.Guarded.{Guarded}
use Rattle.slub_core.specs.declared.guarded.Guarded.TheVariants.{Nothing}
use Rattle.slub_turns.specs.Laws.{TurnsKeepReady, PicksFit}
use Rattle.slub_workers.specs.Begun.{Begun}
use Rattle.slub_workers.specs.Cells.{cell_of, by_number}
use Rattle.slub_workers.specs.Locks.{Move, Stays, Takes, Gives, move_at, move_of, value_given, values_moved, slots_out, locks_of}
use Rattle.slub_workers.specs.Standing.{Standing, Fork, locals_of, step_in}
use Rattle.slub_workers.specs.Rule.{Holds, setup_in, facts_in, table_in}
use Rattle.slub_workers.specs.Sits.{Steps, Told, Made, slots_after}
use Rattle.slub_workers.proofs.Cells.{number-outside, length-by_number, get-by_number, set-by_number}
use Rattle.slub_workers.proofs.Sizes.{many-frames}
use Rattle.slub_workers.proofs.StepStands.{number_at}
use Rattle.slub_workers.proofs.StepGoesOn.{gives_last, takes_below}
use Rattle.slub_workers.proofs.Moves.{IsWord, allowed}

-- ---- which lock a step moves

abbrev lock_of : Move → ℕ
lock_of Stays = 0
lock_of (Takes lock) = lock
lock_of (Gives lock) = lock

stays_taken : (lock : ℕ) → Stays ≡ Takes lock → ⊥
stays_taken lock e = cc

stays_given : (lock : ℕ) → Stays ≡ Gives lock → ⊥
stays_given lock e = cc

pub stays_load : (p : Place) (n : ℕ) → move_at p Load n ≡ Stays
stays_load (LockOf lock) n = refl
stays_load p n = refl

pub stays_swap : (p : Place) (v n : ℕ) → move_at p (Swap v) n ≡ Stays
stays_swap (LockOf lock) v n = refl
stays_swap p v n = refl

pub stays_lost : (p : Place) (from to n : ℕ) → n ≢ from → move_at p (Exchange from to) n ≡ Stays
stays_lost (LockOf lock) from to n lost = ap (λ (b : Bool). cond b (Takes lock) Stays) (ne_eqb n from lost)
stays_lost p from to n lost = refl

pub takes_won : (lock from to n : ℕ) → n ≡ from → move_at (LockOf lock) (Exchange from to) n ≡ Takes lock
takes_won lock from to n won = ap (λ (b : Bool). cond b (Takes lock) Stays) (eq-eqb n from won)

-- a word that is no lock's
pub stays_other : (p : Place) (op : Op) (n : ℕ) → ((lock : ℕ) → p ≢ LockOf lock) → move_at p op n ≡ Stays
stays_other (LockOf lock) op n other = absurd (other lock refl)
stays_other p op n other = refl

no_gift : (b : Bool) (k lock : ℕ) → cond b (Takes k) Stays ≡ Gives lock → ⊥
no_gift true k lock e = cc
no_gift false k lock e = cc

swaps_give_none : (p : Place) (from to n lock : ℕ) → move_at p (Exchange from to) n ≡ Gives lock → ⊥
swaps_give_none (LockOf k) from to n lock e = no_gift (n == from) k lock e
swaps_give_none p from to n lock e = stays_given lock e

taken_if : (b : Bool) (k lock : ℕ) → cond b (Takes k) Stays ≡ Takes lock → k ≡ lock
taken_if true k lock e = ap lock_of e
taken_if false k lock e = absurd (stays_taken lock e)

taken_place : (p : Place) (op : Op) (n lock : ℕ) → move_at p op n ≡ Takes lock → p ≡ LockOf lock
taken_place (LockOf k) Load n lock e = absurd (stays_taken lock e)
taken_place (LockOf k) (Store v) n lock e = absurd (cc)
taken_place (LockOf k) (Swap v) n lock e = absurd (stays_taken lock e)
taken_place (LockOf k) (Exchange from to) n lock e = ap (λ (j : ℕ). LockOf j) (taken_if (n == from) k lock e)
taken_place p op n lock e = absurd (stays_taken lock e)

given_place : (p : Place) (op : Op) (n lock : ℕ) → move_at p op n ≡ Gives lock → p ≡ LockOf lock
given_place (LockOf k) Load n lock e = absurd (stays_given lock e)
given_place (LockOf k) (Store v) n lock e = ap (λ (mv : Move). LockOf (lock_of mv)) e
given_place (LockOf k) (Swap v) n lock e = absurd (stays_given lock e)
given_place (LockOf k) (Exchange from to) n lock e = absurd (no_gift (n == from) k lock e)
given_place p op n lock e = absurd (stays_given lock e)

either_is : (b : Bool) (x y : ℕ) → (if b then x else y) ≡ either b x y
either_is true x y = refl
either_is false x y = refl

-- ---- what a step asks

module _ (keep : TurnsKeepReady) (fit : PicksFit) (key kk : Begun) (same_key : kk ≡ key) (slots id : ℕ) (tries : Bool) (x : Standing) (before me : Me Guarded (List Fork)) (values : List Guarded) (step : Step)
    (st : Steps kk tries x before values step) (same : me.0 ≡ before.0) where
  many : 2 ≤ (setup_in kk).frames
  many = many-frames (facts_in kk) (table_in kk st.may.words) st.may.stands.guards (locals_of st.may.all) st.may.stands.ready

  asks_at : (i : ℕ) (f told : ℕ → ℕ)
      → ((lock n : ℕ) → move_of step n ≡ Gives lock → me.1 ≡ (lock, value_given lock x.values) ∷ rest me.1)
      → ((words : List ℕ) → length words ≡ word_count (setup_in kk) → IsWord kk tries x words i f told)
      → Allows (Holds key) slots id me i f (λ n after. Told kk tries x (told n) me after)
  asks_at i f told given word =
      let one = allowed keep fit kk slots id tries x st.sits.fork st.sits.refused st.sits.here me.1 i f told (λ lock n e. given lock n (ap (λ (s : Step). move_of s n) st.is ∙ e)) word in
      let two : Allows (Holds kk) slots id me i f (λ n after. Told kk tries x (told n) me after) =
      subst (λ (v : List Fork). Allows (Holds kk) slots id (v, me.1) i f (λ n after. Told kk tries x (told n) (v, me.1) after)) (sym (same ∙ st.sits.view)) one in
      subst (λ (k : Begun). Allows (Holds k) slots id me i f (λ n after. Told kk tries x (told n) me after)) same_key two

  -- on its word
  asks : (word : ℕ) (f : ℕ → ℕ) → word ≡ cell_of (number_of (setup_in kk) step.place) → ((n : ℕ) → after_op step.op n ≡ f n)
      → ((lock n : ℕ) → move_of step n ≡ Gives lock → me.1 ≡ (lock, value_given lock x.values) ∷ rest me.1)
      → Allows (Holds key) slots id me word f (λ n after. Told kk tries x n me after)
  asks word f number after given =
      let m = setup_in kk in
      let n : ℕ = number_at kk tries x in
      let op = (step_in m tries x).op in
      let at : word ≡ cell_of n = number ∙ ap (λ (s : Step). cell_of (number_of m s.place)) st.is in
      asks_at word f (λ n. n) given (λ words long.
      let two = many in
      let all : 1569 ≤ length words = omega arith in
      let found : slice_index words word ≡ slice_index (by_number words) n = ap (λ (k : ℕ). slice_index words k) at ∙ sym (get-by_number words n all) in
      record {
        found = found;
        after = ap (λ (y : ℕ). by_number (set words word y)) (sym (after (slice_index words word)) ∙ ap (λ (s : Step). after_op s.op (slice_index words word)) st.is ∙ ap (after_op op) found)
            ∙ ap (λ (k : ℕ). by_number (set words k (after_op op (slice_index (by_number words) n)))) at
            ∙ set-by_number words n (after_op op (slice_index (by_number words) n)) all;
      })

  pub load_asks : (word : ℕ) → word ≡ cell_of (number_of (setup_in kk) step.place) → step.op ≡ Load → Allows (Holds key) slots id me word (λ n. n) (λ n after. Told kk tries x n me after)
  load_asks word number op =
      asks word (λ n. n) number (λ n. ap (λ (o : Op). after_op o n) op)
      (λ lock n e. absurd (stays_given lock (sym (stays_load step.place n) ∙ ap (λ (o : Op). move_at step.place o n) (sym op) ∙ e)))

  pub swap_asks : (word v : ℕ) → word ≡ cell_of (number_of (setup_in kk) step.place) → step.op ≡ Swap v → Allows (Holds key) slots id me word (λ _. v) (λ n after. Told kk tries x n me after)
  swap_asks word v number op =
      asks word (λ _. v) number (λ n. ap (λ (o : Op). after_op o n) op)
      (λ lock n e. absurd (stays_given lock (sym (stays_swap step.place v n) ∙ ap (λ (o : Op). move_at step.place o n) (sym op) ∙ e)))

  pub exchange_asks : (word from to : ℕ) → word ≡ cell_of (number_of (setup_in kk) step.place) → step.op ≡ Exchange from to
      → Allows (Holds key) slots id me word (λ n. either (n == from) to n) (λ n after. Told kk tries x n me after)
  exchange_asks word from to number op =
      asks word (λ n. either (n == from) to n) number (λ n. ap (λ (o : Op). after_op o n) op ∙ either_is (n == from) to n)
      (λ lock n e. absurd (swaps_give_none step.place from to n lock (ap (λ (o : Op). move_at step.place o n) (sym op) ∙ e)))

  pub store_asks : (word v : ℕ) → word ≡ cell_of (number_of (setup_in kk) step.place) → step.op ≡ Store v
      → ((lock n : ℕ) → move_of step n ≡ Gives lock → me.1 ≡ (lock, value_given lock x.values) ∷ rest me.1)
      → Allows (Holds key) slots id me word (λ _. v) (λ _ after. (found : ℕ) × Told kk tries x found me after)
  store_asks word v number op given s h count at small =
      let r = asks word (λ _. v) number (λ n. ap (λ (o : Op). after_op o n) op) given s h count at small in (r.0, r.1, r.2, r.3, (_, r.4))

  -- outside of the table
  outside : (words : List ℕ) (i : ℕ) (v : ℕ) → length words ≤ i → (0 ≡ slice_index_or words i 0) × (set words i v ≡ words)
  outside [] i v far = (refl, refl)
  outside (w ∷ ws) zero v far = absurd (omega arith)
  outside (w ∷ ws) (suc i) v far = let r = outside ws i v (omega arith) in (r.0, ap (λ (t : List ℕ). w ∷ t) r.1)

  -- a number is outside of it where its cell is
  far_number : (count : ℕ) → count ≤ cell_of (number_of (setup_in kk) step.place) → count ≡ word_count (setup_in kk) → count ≤ number_of (setup_in kk) step.place
  far_number count far all = let two = many in number-outside (number_of (setup_in kk) step.place) count (omega arith) far

  pub outside_asks : (count : ℕ) → count ≤ cell_of (number_of (setup_in kk) step.place) → count ≡ word_count (setup_in kk)
      → Allows (Holds key) slots id me 0 (λ n. n) (λ n after. Told kk tries x 0 me after)
  outside_asks count far all =
      let m = setup_in kk in
      let out = far_number count far all in
      let at : number_of m step.place ≡ number_at kk tries x = ap (λ (s : Step). number_of m s.place) st.is in
      asks_at 0 (λ n. n) (λ _. 0)
      (λ lock n e.
      let low = (gives_last kk tries x keep fit st.may lock n (ap (λ (s : Step). move_of s n) (sym st.is) ∙ e)).0 in
      let here : number_of m step.place ≡ lock = ap (λ (p : Place). number_of m p) (given_place step.place step.op n lock e) in
      absurd (omega arith))
      (λ words long.
      let same = length-by_number words in
      let past = outside (by_number words) (number_at kk tries x) (after_op (step_in m tries x).op (slice_index_or (by_number words) (number_at kk tries x) 0)) (omega arith) in
      record { found = past.0; after = ap by_number (set-get_or words 0 0) ∙ sym past.1 })

  pub outside_stays : (count : ℕ) → count ≤ cell_of (number_of (setup_in kk) step.place) → count ≡ word_count (setup_in kk) → move_of step 0 ≡ Stays
  outside_stays count far all = by_move (move_of step 0) refl
    where
      out : count ≤ number_of (setup_in kk) step.place
      out = far_number count far all

      by_move : (mv : Move) → move_of step 0 ≡ mv → move_of step 0 ≡ Stays
      by_move Stays e = e
      by_move (Takes lock) e =
          let low = takes_below kk tries x keep fit st.may lock 0 (ap (λ (s : Step). move_of s 0) (sym st.is) ∙ e) in
          let far_out = out in
          let here : number_of (setup_in kk) step.place ≡ lock = ap (λ (p : Place). number_of (setup_in kk) p) (taken_place step.place step.op 0 lock e) in
          absurd (omega arith)
      by_move (Gives lock) e =
          let low = (gives_last kk tries x keep fit st.may lock 0 (ap (λ (s : Step). move_of s 0) (sym st.is) ∙ e)).0 in
          let far_out = out in
          let here : number_of (setup_in kk) step.place ≡ lock = ap (λ (p : Place). number_of (setup_in kk) p) (given_place step.place step.op 0 lock e) in
          absurd (omega arith)

-- ---- what a step makes

-- no lock is moved
pub made_kept : (kk : Begun) (tries : Bool) (x : Standing) (before after : Me Guarded (List Fork)) (values : List Guarded) (step : Step) (n : ℕ) (answer : Answer)
    → Steps kk tries x before values step → move_of step n ≡ Stays → answer ≡ answer_of step.op n → Told kk tries x n before after → Made kk tries x after values answer
made_kept kk tries x before after values step n answer st stays is t =
    let mv : move_of (step_in (setup_in kk) tries x) n ≡ Stays = ap (λ (s : Step). move_of s n) (sym st.is) ∙ stays in
    record {
      found = n;
      value = t.value;
      answer_is = is ∙ ap (λ (s : Step). answer_of s.op n) st.is;
      values_are = st.hand ∙ sym (ap (λ (k : Move). values_moved k t.value x.values) mv);
      view = t.view;
      slots = λ r. t.slots ∙ ap (λ (k : Move). slots_after k t.value before.1) mv ∙ st.sits.slots
          ∙ sym (t.goes_on.locks r ∙ ap (λ (k : Move). slots_after k Nothing (slots_out (locks_of x.local))) mv);
      goes_on = t.goes_on;
      number = t.number;
    }

-- the slot that is out first
abbrev first_of : Guarded → List (ℕ × Guarded) → Guarded
first_of v [] = v
first_of v (y ∷ ys) = y.1

-- once a lock is won, its slot is out
pub won_slot : (kk : Begun) (tries : Bool) (x : Standing) (before mid : Me Guarded (List Fork)) (values : List Guarded) (step : Step) (n lock : ℕ) → Steps kk tries x before values step → move_of step n ≡ Takes lock
    → (t : Told kk tries x n before mid) → mid.1 ≡ (lock, t.value) ∷ before.1
won_slot kk tries x before mid values step n lock st takes t = t.slots ∙ ap (λ (k : Move). slots_after k t.value before.1) (ap (λ (s : Step). move_of s n) (sym st.is) ∙ takes)

pub won_out : (kk : Begun) (tries : Bool) (x : Standing) (before mid : Me Guarded (List Fork)) (values : List Guarded) (step : Step) (n lock : ℕ) → Steps kk tries x before values step → move_of step n ≡ Takes lock
    → Told kk tries x n before mid → (old : Guarded) × (mid.1 ≡ (lock, old) ∷ rest mid.1)
won_out kk tries x before mid values step n lock st takes t =
    let w = won_slot kk tries x before mid values step n lock st takes t in
    (t.value, w ∙ ap (λ (c : List (ℕ × Guarded)). (lock, t.value) ∷ c) (sym (ap rest w)))

pub made_taken : (kk : Begun) (tries : Bool) (x : Standing) (before mid after : Me Guarded (List Fork)) (values now : List Guarded) (step : Step) (n lock : ℕ) (r : Guarded) (answer : Answer)
    → Steps kk tries x before values step → move_of step n ≡ Takes lock → answer ≡ answer_of step.op n → Told kk tries x n before mid
    → mid.1 ≡ (lock, r) ∷ rest mid.1 → after ≡ (mid.0, (lock, Nothing) ∷ rest mid.1) → now ≡ set values lock r → Made kk tries x after now answer
made_taken kk tries x before mid after values now step n lock r answer st takes is t read wrote put =
    let mv : move_of (step_in (setup_in kk) tries x) n ≡ Takes lock = ap (λ (s : Step). move_of s n) (sym st.is) ∙ takes in
    let w = won_slot kk tries x before mid values step n lock st takes t in
    let value : r ≡ t.value = ap (first_of Nothing) (sym read ∙ w) in
    record {
      found = n;
      value = t.value;
      answer_is = is ∙ ap (λ (s : Step). answer_of s.op n) st.is;
      values_are = put ∙ (λ i. set (st.hand i) lock (value i)) ∙ sym (ap (λ (k : Move). values_moved k t.value x.values) mv);
      view = ap (λ (me : Me Guarded (List Fork)). me.0) wrote ∙ t.view;
      slots = λ b. ap (λ (me : Me Guarded (List Fork)). me.1) wrote ∙ ap (λ (c : List (ℕ × Guarded)). (lock, Nothing) ∷ c) (ap rest w ∙ st.sits.slots)
          ∙ sym (t.goes_on.locks b ∙ ap (λ (k : Move). slots_after k Nothing (slots_out (locks_of x.local))) mv);
      goes_on = t.goes_on;
      number = t.number;
    }

-- before a lock is given back its slot is out, and nothing lies there
pub holds_slot : (keep : TurnsKeepReady) (fit : PicksFit) (kk : Begun) (tries : Bool) (x : Standing) (me : Me Guarded (List Fork)) (values : List Guarded) (step : Step) (lock v : ℕ) → Steps kk tries x me values step
    → step.place ≡ LockOf lock → step.op ≡ Store v → (lock < 33) × (me.1 ≡ (lock, Nothing) ∷ rest me.1)
holds_slot keep fit kk tries x me values step lock v st place op =
    let gives : move_of step 0 ≡ Gives lock = (λ i. move_at (place i) (op i) 0) in
    let g = gives_last kk tries x keep fit st.may lock 0 (ap (λ (s : Step). move_of s 0) (sym st.is) ∙ gives) in
    let out : me.1 ≡ (lock, Nothing) ∷ slots_out g.1.0 = st.sits.slots ∙ ap slots_out g.1.1 in
    (g.0, out ∙ ap (λ (c : List (ℕ × Guarded)). (lock, Nothing) ∷ c) (sym (ap rest out)))

-- once the value lies there
pub put_back : (kk : Begun) (tries : Bool) (x : Standing) (me mid : Me Guarded (List Fork)) (values : List Guarded) (step : Step) (lock v : ℕ) (given : Guarded) → Steps kk tries x me values step
    → step.place ≡ LockOf lock → step.op ≡ Store v → given ≡ slice_index_or values lock Nothing → mid ≡ (me.0, (lock, given) ∷ rest me.1)
    → (k n : ℕ) → move_of step n ≡ Gives k → mid.1 ≡ (k, value_given k x.values) ∷ rest mid.1
put_back kk tries x me mid values step lock v given st place op is put k n gives =
    let same : lock ≡ k = ap lock_of (sym (λ i. move_at (place i) (op i) n) ∙ gives) in
    let out : mid.1 ≡ (lock, given) ∷ rest me.1 = ap (λ (u : Me Guarded (List Fork)). u.1) put in
    let value : given ≡ value_given lock x.values = is ∙ ap (λ (g : List Guarded). slice_index_or g lock Nothing) st.hand in
    out ∙ (λ i. (same i, (value ∙ ap (λ (j : ℕ). value_given j x.values) same) i) ∷ sym (ap rest out) i)

pub made_given : (kk : Begun) (tries : Bool) (x : Standing) (me mid after : Me Guarded (List Fork)) (values now : List Guarded) (step : Step) (n lock v : ℕ) (given : Guarded) (answer : Answer)
    → Steps kk tries x me values step → step.place ≡ LockOf lock → step.op ≡ Store v → answer ≡ answer_of step.op n → me.1 ≡ (lock, Nothing) ∷ rest me.1 → mid ≡ (me.0, (lock, given) ∷ rest me.1)
    → Told kk tries x n mid after → now ≡ set values lock Nothing → Made kk tries x after now answer
made_given kk tries x me mid after values now step n lock v given answer st place op is held put t left =
    let gives : move_of step n ≡ Gives lock = (λ i. move_at (place i) (op i) n) in
    let mv : move_of (step_in (setup_in kk) tries x) n ≡ Gives lock = ap (λ (s : Step). move_of s n) (sym st.is) ∙ gives in
    let out : mid.1 ≡ (lock, given) ∷ rest me.1 = ap (λ (u : Me Guarded (List Fork)). u.1) put in
    let slots' : slots_out (locks_of x.local) ≡ (lock, Nothing) ∷ rest me.1 = sym st.sits.slots ∙ held in
    record {
      found = n;
      value = t.value;
      answer_is = is ∙ ap (λ (s : Step). answer_of s.op n) st.is;
      values_are = left ∙ ap (λ (g : List Guarded). set g lock Nothing) st.hand ∙ sym (ap (λ (k : Move). values_moved k t.value x.values) mv);
      view = t.view;
      slots = λ b. t.slots ∙ ap (λ (k : Move). slots_after k t.value mid.1) mv ∙ ap (slots_after (Gives lock) t.value) out
          ∙ sym (t.goes_on.locks b ∙ ap (λ (k : Move). slots_after k Nothing (slots_out (locks_of x.local))) mv ∙ ap (slots_after (Gives lock) Nothing) slots');
      goes_on = t.goes_on;
      number = t.number;
    }

-- ---- answers

pub load_answers : (step : Step) (n : ℕ) → step.op ≡ Load → (move_of step n ≡ Stays) × (Answer.Word n ≡ answer_of step.op n)
load_answers step n op = (ap (λ (o : Op). move_at step.place o n) op ∙ stays_load step.place n, sym (ap (λ (o : Op). answer_of o n) op))

pub swap_answers : (step : Step) (v n : ℕ) → step.op ≡ Swap v → (move_of step n ≡ Stays) × (Answer.Word n ≡ answer_of step.op n)
swap_answers step v n op = (ap (λ (o : Op). move_at step.place o n) op ∙ stays_swap step.place v n, sym (ap (λ (o : Op). answer_of o n) op))

pub store_answers : (step : Step) (v n : ℕ) → step.op ≡ Store v → Answer.Done ≡ answer_of step.op n
store_answers step v n op = sym (ap (λ (o : Op). answer_of o n) op)

pub lost_answers : (step : Step) (from to n : ℕ) → step.op ≡ Exchange from to → n ≢ from → (move_of step n ≡ Stays) × (Answer.Lost n ≡ answer_of step.op n)
lost_answers step from to n op lost =
    (ap (λ (o : Op). move_at step.place o n) op ∙ stays_lost step.place from to n lost, sym (ap (λ (o : Op). answer_of o n) op ∙ ap (λ (b : Bool). if b then Answer.Won else Answer.Lost n) (ne_eqb n from lost)))

pub won_answers : (step : Step) (from to n : ℕ) → step.op ≡ Exchange from to → n ≡ from → Answer.Won ≡ answer_of step.op n
won_answers step from to n op won = sym (ap (λ (o : Op). answer_of o n) op ∙ ap (λ (b : Bool). if b then Answer.Won else Answer.Lost n) (eq-eqb n from won))

pub won_takes : (step : Step) (lock from to n : ℕ) → step.place ≡ LockOf lock → step.op ≡ Exchange from to → n ≡ from → move_of step n ≡ Takes lock
won_takes step lock from to n place op won = (λ i. move_at (place i) (op i) n) ∙ takes_won lock from to n won

-- the sizes of the machine of the round
pub sized : (kk key : Begun) (facts : Facts) (frames objects : ℕ) → kk ≡ key → key.facts ≡ facts → (facts.frames ≡ frames) × (facts.objects ≡ objects)
    → ((setup_in kk).frames ≡ frames) × ((setup_in kk).objects ≡ objects)
sized kk key facts frames objects same is sizes =
    let e : kk.facts ≡ facts = ap (λ (k : Begun). k.facts) same ∙ is in
    (ap (λ (f : Facts). f.frames) e ∙ sizes.0, ap (λ (f : Facts). f.objects) e ∙ sizes.1)

pub counted : (kk : Begun) (words frames objects : ℕ) → ((setup_in kk).frames ≡ frames) × ((setup_in kk).objects ≡ objects) → words ≡ 1056 + 514 * frames + objects → words ≡ word_count (setup_in kk)
counted kk words frames objects sizes are = are ∙ (λ i. 1056 + 514 * sym sizes.0 i + sym sizes.1 i)

-- no lock is given back at another word
pub gives_none : (step : Step) (n lock : ℕ) → ((k : ℕ) → step.place ≢ LockOf k) → move_of step n ≡ Gives lock → ⊥
gives_none step n lock other e = other lock (given_place step.place step.op n lock e)

pub won_below : (keep : TurnsKeepReady) (fit : PicksFit) (kk : Begun) (tries : Bool) (x : Standing) (me : Me Guarded (List Fork)) (values : List Guarded) (step : Step) (n lock : ℕ) → Steps kk tries x me values step
    → move_of step n ≡ Takes lock → lock < 33
won_below keep fit kk tries x me values step n lock st takes = takes_below kk tries x keep fit st.may lock n (ap (λ (s : Step). move_of s n) (sym st.is) ∙ takes)
