-- All that is done at once after an answer asks of nothing but what the worker's locks guard.
use Rattle.std.proofs.Common.{◌≡◌, ℕ, zero, suc, ◌<◌, ◌⊎◌, Bool, List, [], ◌∷◌, Contains, length, slice_index_or, slice_set, refl, sym, ap, ◌∙◌, subst, arith, inl, inr}
use Rattle.std.proofs.lemmas.Bool.{cases_eq}
use Rattle.std.proofs.lemmas.List.{length-set, get_or-set_same, get_or-set_other}
use Rattle.slub_core.specs.Setup.{Setup}
use Rattle.slub_core.specs.World.{LockValue}
use Rattle.slub_core.specs.Local.{Local, Turn, Change, noted}
use Rattle.slub_core.specs.Steps.{changed}
use Rattle.slub_core.specs.declared.guarded.Guarded.{Guarded}
use Rattle.slub_core.specs.declared.guarded.Guarded.TheVariants.{Nothing}
use Rattle.slub_core.specs.Values.{value_in, values_of, room_in, rooms_of}
use Rattle.slub_turns.specs.Fits.{AtOnceFits, HasCallFor, change_of}
use Rattle.slub_turns.specs.SettledFits.{GuardedFits, SettledFits}
use Rattle.slub_workers.specs.Locks.{locks_of}
use Rattle.slub_workers.proofs.Locals.{contains_or, noted_locks}
use Rattle.slub_workers.proofs.AtOnce.{AreAlike}
use Rattle.slub_workers.proofs.Advance.{noted_same, turned_alike, changed_alike, changed_locks}
use Rattle.slub_workers.proofs.Fits.{AgreeFor, at_once_fits_alike}

-- ---- what a lock guards, by the number of the lock

abbrev guarded_by : List Guarded → ℕ → Guarded
guarded_by g lock = slice_index_or g lock Nothing

room_at : (g : List Guarded) (lock : ℕ) → slice_index_or (rooms_of g) lock 0 ≡ room_in (guarded_by g lock)
room_at [] lock = refl
room_at (x ∷ g) zero = refl
room_at (x ∷ g) (suc lock) = room_at g lock

rooms_set : (g : List Guarded) (lock : ℕ) (x : Guarded) → room_in x ≡ room_in (guarded_by g lock) → rooms_of (slice_set g lock x) ≡ rooms_of g
rooms_set [] lock x same = refl
rooms_set (y ∷ g) zero x same = ap (λ n. n ∷ rooms_of g) same
rooms_set (y ∷ g) (suc lock) x same = ap (λ ns. room_in y ∷ ns) (rooms_set g lock x same)

-- ---- some values with those of these locks from others

abbrev patched : List ℕ → List Guarded → List Guarded → List Guarded
patched [] g h = g
patched (lock ∷ locks) g h = slice_set (patched locks g h) lock (guarded_by h lock)

patched_length : (locks : List ℕ) (g h : List Guarded) → length (patched locks g h) ≡ length g
patched_length [] g h = refl
patched_length (lock ∷ locks) g h = length-set (patched locks g h) lock (guarded_by h lock) ∙ patched_length locks g h

later : (k : ℕ) (locks : List ℕ) (lock : ℕ) → Contains locks lock → Contains (k ∷ locks) lock
later k locks lock w = let below = w.1 in (suc w.0, omega (arith, below), w.2)

-- it is the first one, or among the others
first_or : (k : ℕ) (locks : List ℕ) (lock : ℕ) → Contains (k ∷ locks) lock → (lock ≡ k) ⊎ Contains locks lock
first_or k locks lock w = at_place w.0 w.1 w.2
  where
    at_place : (n : ℕ) → n < length (k ∷ locks) → slice_index_or (k ∷ locks) n lock ≡ lock → (lock ≡ k) ⊎ Contains locks lock
    at_place zero below is = inl (sym is)
    at_place (suc n) below is = inr (n, omega (arith, below), is)

module _ (g h : List Guarded) where
  patched_here : (locks : List ℕ) → ((lock : ℕ) → Contains locks lock → lock < length g) → (lock : ℕ) → Contains locks lock → guarded_by (patched locks g h) lock ≡ guarded_by h lock
  patched_here [] room lock w = absurd (let below = w.1 in omega arith)
  patched_here (k ∷ locks) room lock w = elim (cases_eq lock k) [
    | inl is ↦ ap (λ n. guarded_by (patched (k ∷ locks) g h) n) is ∙ get_or-set_same (patched locks g h) k (guarded_by h k) Nothing (let long = patched_length locks g h in let below = room k (0, omega arith, refl) in omega arith) ∙ ap (λ n. guarded_by h n) (sym is)
    | inr isnt ↦ get_or-set_other (patched locks g h) k lock (guarded_by h k) Nothing isnt ∙ patched_here locks (λ n among. room n (later k locks n among)) lock (among isnt (first_or k locks lock w))
  ]
    where
      among : (lock ≡ k → ⊥) → (lock ≡ k) ⊎ Contains locks lock → Contains locks lock
      among isnt (inl is) = absurd (isnt is)
      among isnt (inr has) = has

  patched_else : (locks : List ℕ) (lock : ℕ) → ¬ Contains locks lock → guarded_by (patched locks g h) lock ≡ guarded_by g lock
  patched_else [] lock hasnt = refl
  patched_else (k ∷ locks) lock hasnt =
      get_or-set_other (patched locks g h) k lock (guarded_by h k) Nothing (λ is. hasnt (0, omega arith, sym is))
      ∙ patched_else locks lock (λ among. hasnt (later k locks lock among))

  -- the room is as before
  patched_rooms : (locks : List ℕ) → ((lock : ℕ) → Contains locks lock → room_in (guarded_by h lock) ≡ room_in (guarded_by g lock)) → rooms_of (patched locks g h) ≡ rooms_of g
  patched_rooms [] same = refl
  patched_rooms (k ∷ locks) same =
      let before = patched_rooms locks (λ lock among. same lock (later k locks lock among)) in
      rooms_set (patched locks g h) k (guarded_by h k) (same k (0, omega arith, refl) ∙ sym (room_at g k) ∙ ap (λ ns. slice_index_or ns k 0) (sym before) ∙ room_at (patched locks g h) k) ∙ before

-- ---- all that is done at once

call_alike : (c d : Change) → c.local ≡ d.local → c.reply ≡ d.reply → HasCallFor c.local c.reply → HasCallFor d.local d.reply
call_alike c d local reply call = subst (λ r. HasCallFor d.local r) reply (subst (λ k. HasCallFor k c.reply) local call)

-- with other values, which are the same behind its locks
guarded_alike : (g h : List Guarded) (c d : Change) → c.local ≡ d.local → c.reply ≡ d.reply → AgreeFor c.local g h → GuardedFits g c → GuardedFits h d
guarded_alike g h c d local reply agree fits =
    let l : Local = noted c.local c.reply in
    let here : AgreeFor l g h = λ lock has. agree lock (subst (λ ls. Contains ls lock) (noted_locks c.local c.reply) has) in
    record {
      call = call_alike c d local reply fits.call;
      at_once = subst (λ (k : Local). AtOnceFits h k k.spot) (noted_same c d local reply) (at_once_fits_alike g h l here fits.at_once);
    }

pub settled_fits_alike : (m : Setup) (g h : List Guarded) (t : Turn) → ((lock : ℕ) → Contains (locks_of t.local) lock → lock < length g) → AgreeFor t.local g h
    → SettledFits m g (change_of t (values_of g)) → SettledFits m h (change_of t (values_of h))
settled_fits_alike m g h t room agree fits = record {
  first = guarded_alike g h c d refl refl agree fits.first;
  second = λ r after values rooms. second r after values rooms;
  last = λ r. let two = changed_alike m r locks v w (changed m r c) (changed m r d) (changed_locks m r c) (one r) in call_alike (changed m r (changed m r c)) (changed m r (changed m r d)) two.local two.reply (fits.last r);
}
  where
    locks : List ℕ
    locks = locks_of t.local

    v : ℕ → LockValue
    v = values_of g

    w : ℕ → LockValue
    w = values_of h

    c : Change
    c = change_of t v

    d : Change
    d = change_of t w

    one : (r : Bool) → AreAlike locks v w (changed m r c) (changed m r d)
    one r = changed_alike m r locks v w c d refl (turned_alike v w t t refl (λ lock has. ap value_in (agree lock has)))

    -- the values after the first change, as the machine has them
    values_at : (r : Bool) (after : List Guarded) → values_of after ≡ (changed m r d).value → (lock : ℕ) → Contains locks lock ⊎ ¬ Contains locks lock → values_of (patched locks g after) lock ≡ (changed m r c).value lock
    values_at r after values lock (inl has) = ap value_in (patched_here g after locks room lock has) ∙ ap (λ f. f lock) values ∙ sym ((one r).here lock has)
    values_at r after values lock (inr hasnt) = ap value_in (patched_else g after locks lock hasnt) ∙ sym ((one r).one lock hasnt)

    values_after : (r : Bool) (after : List Guarded) → values_of after ≡ (changed m r d).value → values_of (patched locks g after) ≡ (changed m r c).value
    values_after r after values = λ i lock. values_at r after values lock (contains_or t.local lock) i

    -- with room as before
    rooms_after : (after : List Guarded) → rooms_of after ≡ rooms_of h → rooms_of (patched locks g after) ≡ rooms_of g
    rooms_after after rooms = patched_rooms g after locks (λ lock has. sym (room_at after lock) ∙ ap (λ ns. slice_index_or ns lock 0) rooms ∙ room_at h lock ∙ ap room_in (sym (agree lock has)))

    second : (r : Bool) (after : List Guarded) → values_of after ≡ (changed m r d).value → rooms_of after ≡ rooms_of h → GuardedFits after (changed m r d)
    second r after values rooms =
        let both = one r in
        guarded_alike (patched locks g after) after (changed m r c) (changed m r d) both.local both.reply
        (λ lock has. patched_here g after locks room lock (subst (λ ls. Contains ls lock) (changed_locks m r c) has))
        (fits.second r (patched locks g after) (values_after r after values) (rooms_after after rooms))
