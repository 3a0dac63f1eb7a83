-- A worker that has a lock: what the machine rests in as soon as it gives the lock back.
use Rattle.std.proofs.Common.{◌≡◌, ℕ, zero, suc, ◌+◌, ◌<◌, List, set, refl, ap, sym, ◌∙◌, subst, arith}
use Rattle.std.proofs.lemmas.List.{length-set}
use Rattle.slub_lists.specs.State.{State}
use Rattle.slub_core.specs.Local.{Local}
use Rattle.slub_core.specs.Run.{System, turn}
use Rattle.slub_core.specs.Setup.{Setup}
use Rattle.slub_core.specs.World.{World, LockValue, set_lock, world_of}
use Rattle.slub_core.proofs.StepWords.{IsTable, world_of-lock}
use Rattle.slub_law_opening.specs.Opening.{Beside, setup_of}
use Rattle.slub_law_opening.specs.Rests.{Rests}
use Rattle.slub_law_opening.specs.Closing.{HasLengths}
use Rattle.slub_law_alone.specs.Alone.{AreWhole, alone, own_pick}
use Rattle.slub_law_alone.proofs.Bits.{whole_lock}
use Rattle.slub_law_alone.proofs.InPlace.{update_back}

-- so many turns, and so many more
pub then_turns : (m : Setup) (x a n k : ℕ) (s t r : System) → k ≡ a + n → alone m x a s ≡ t → alone m x n t ≡ r → alone m x k s ≡ r
then_turns m x zero n k s t r is first rest = ap (λ k. alone m x k s) (let e : k ≡ n = omega (arith, is) in e) ∙ ap (alone m x n) first ∙ rest
then_turns m x (suc a) n k s t r is first rest = ap (λ k. alone m x k s) (let e : k ≡ suc (a + n) = omega (arith, is) in e) ∙ then_turns m x a n (a + n) (turn m s (own_pick x)) t r refl first rest

pub table_set : (m : Setup) (words : List ℕ) (n v : ℕ) → IsTable m words → IsTable m (set words n v)
table_set m words n v table = record { length = length-set words n v ∙ table.length; locks = table.locks; cpu_words = table.cpu_words; frames = table.frames; objects = table.objects }

-- ---- under a lock

-- the machine as it is if the lock is given back now
abbrev pub given_back : Setup → ℕ → List ℕ → (ℕ → LockValue) → World
given_back m j words value = set_lock (world_of m value words) j 0

-- it rests in the lists then, with the workers as they are between calls
pub record RestsUnder (m : Setup) (b : Beside) (ends : List Local) (j : ℕ) (s : State) (words : List ℕ) (value : ℕ → LockValue) : Type 0 where
  pub same : setup_of s b ≡ m
  pub lengths : HasLengths s
  pub table : IsTable m words
  pub whole : AreWhole m words
  pub rests : Rests s b (given_back m j words value) ends

-- a free lock is taken
pub under_locked : (m : Setup) (b : Beside) (ends : List Local) (j a : ℕ) (s : State) (words : List ℕ) (value : ℕ → LockValue) → j < 33 → setup_of s b ≡ m → HasLengths s → IsTable m words → AreWhole m words → Rests s b (world_of m value words) ends → RestsUnder m b ends j s (set words j a) value
under_locked m b ends j a s words value below same lengths table whole rests = record {
  same = same;
  lengths = lengths;
  table = table_set m words j a table;
  whole = whole_lock m words j a below whole;
  rests = subst (λ (w : World). Rests s b w ends) (sym says) rests;
}
  where
    w : World
    w = world_of m value words

    by : (ℕ → ℕ) → World
    by lock = record w { lock = lock }

    says : given_back m j (set words j a) value ≡ w
    says = ap (λ w. set_lock w j 0) (world_of-lock m value words j a table (let many = table.locks in omega (arith, many, below))) ∙ ap by (update_back w.lock j a 0 (rests.locks j below))

-- and given back
pub given_says : (m : Setup) (j : ℕ) (words : List ℕ) (value : ℕ → LockValue) → j < 33 → IsTable m words → world_of m value (set words j 0) ≡ given_back m j words value
given_says m j words value below table = world_of-lock m value words j 0 table (let many = table.locks in omega (arith, many, below))
