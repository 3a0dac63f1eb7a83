-- Only giving sets objects aside.
use Rattle.std.proofs.Common.{◌⊎◌, ℕ, ◌<◌, ◌≤◌, length, set, Option, None, Some, Result, Ok, Err, ℤ, unwrap_or, ap, arith, subst, sym, inl, inr}
use Rattle.std.proofs.lemmas.Bool.{cases_eq, cases_lt}
use Rattle.std.proofs.lemmas.List.{get_or-set_same, get_or_past}
use Rattle.std.proofs.Common.{length-set}
use Rattle.slub_trace.specs.declared.damage.Damage.{Damage}
use Rattle.slub_red_zone.specs.declared.checked.OutOfSlot.{OutOfSlot}
use Rattle.slub_red_zone.specs.declared.checked.Run.{Run}
use Rattle.slub_red_zone.specs.declared.checked.Slot.{Slot}
use Rattle.slub_red_zone.specs.State.{SlabState, CheckedState, IsUsed, no_slab, slab_at, slab_of, aside_in}
use Rattle.slub_red_zone.specs.Steps.{TakesBack, Pokes, with_word, new_slab, with_new_slab, TakesEmpty, slab_with_taken}
use Rattle.slub_red_zone.specs.Sound.{IsSound}
use Rattle.slub_red_zone.specs.Told.{SetsNoneAside}
use Rattle.slub_red_zone.proofs.Counting.{new-kinds}
use Rattle.slub_red_zone.proofs.OneSlab.{taken-counts}
use Rattle.slub_red_zone.proofs.Taken.{used-object, used-slab, used-state}
use Rattle.slub_red_zone.proofs.Telling.{slab_at-other}

-- one slab is written, is new or is there no more, and no more of its objects are set aside than were
with-one : (s : CheckedState) (frame : ℕ) (x : Option SlabState) → aside_in (unwrap_or x no_slab) ≤ aside_in (slab_of s frame)
    → (other : ℕ) → aside_in (slab_at (set s.slabs frame x) other) ≤ aside_in (slab_of s other)
with-one s frame x few other =
    elim (cases_eq other frame) [
      | inl same ↦
          let now = ap (λ (f : ℕ). aside_in (slab_at (set s.slabs frame x) f)) same in
          let was = ap (λ (f : ℕ). aside_in (slab_of s f)) same in
          let here = written (cases_lt frame (length s.slabs)) in
          omega (arith, now, was, here, few)
      | inr ne ↦ let e = ap (λ (slab : SlabState). aside_in slab) (slab_at-other s.slabs frame other x ne) in omega (arith, e)
    ]
  where
    written : (frame < length s.slabs) ⊎ (length s.slabs ≤ frame) → aside_in (slab_at (set s.slabs frame x) frame) ≤ aside_in (unwrap_or x no_slab)
    written (inl inside) = let e = ap (λ (y : Option SlabState). aside_in (unwrap_or y no_slab)) (get_or-set_same s.slabs frame x None inside) in omega (arith, e)
    written (inr past) =
        let e = ap (λ (y : Option SlabState). aside_in (unwrap_or y no_slab)) (get_or_past (set s.slabs frame x) frame None (omega (arith, past, length-set s.slabs frame x))) in
        omega (arith, e)

pub taken : (s : CheckedState) (slot : Slot) (answer : Result (Unit {0}) Damage) (after : CheckedState) → IsSound s → IsUsed s slot → TakesBack s slot answer after → SetsNoneAside s after
taken s slot (Ok _) after sound used takes =
    let now : SlabState = slab_with_taken s.layout s.flags (slab_of s slot.frame) slot.index in
    let counts = taken-counts s.layout (slab_of s slot.frame) (used-slab s slot sound used) slot.index (used-object s slot sound used) (used-state s slot sound used) s.flags in
    let P : CheckedState → Type 0 = SetsNoneAside s in
    subst P (sym takes.1) (with-one s slot.frame (Some now) (omega (arith, counts)))
taken s slot (Err damage) after sound used takes = let P : CheckedState → Type 0 = SetsNoneAside s in subst P (sym takes.1) (λ frame. omega arith)

pub poked : (s : CheckedState) (slot : Slot) (offset : ℤ) (byte : ℕ) (answer : Result (Unit {0}) OutOfSlot) (after : CheckedState) → Pokes s slot offset byte answer after → SetsNoneAside s after
poked s slot offset byte (Ok _) after pokes = let P : CheckedState → Type 0 = SetsNoneAside s in subst P (sym pokes.1) (with-one s slot.frame _ (omega arith))
poked s slot offset byte (Err _) after pokes = let P : CheckedState → Type 0 = SetsNoneAside s in subst P (sym pokes.1) (λ frame. omega arith)

pub written : (s : CheckedState) (slot : Slot) (word value : ℕ) → SetsNoneAside s (with_word s slot word value)
written s slot word value = with-one s slot.frame _ (omega arith)

pub come : (s : CheckedState) (run : Run) (objects : ℕ) → SetsNoneAside s (with_new_slab s run objects)
come s run objects = with-one s run.frame (Some (new_slab s.layout s.flags run.order objects)) (let kinds = new-kinds objects in omega (arith, kinds))

pub gone : (s : CheckedState) (frame limit : ℕ) (answer : Option Run) (after : CheckedState) → TakesEmpty s frame limit answer after → SetsNoneAside s after
gone s frame limit None after takes = let P : CheckedState → Type 0 = SetsNoneAside s in subst P (sym takes.1) (λ other. omega arith)
gone s frame limit (Some run) after takes = let P : CheckedState → Type 0 = SetsNoneAside s in subst P (sym takes.2) (with-one s frame None (omega arith))
