-- Rounds of clients that can be done.
use Rattle.std.proofs.Common.{◌≡◌, ℕ, suc, ◌≤◌, List, [], ◌∷◌, length, refl, sym, ap, subst, All, arith, true}
use Rattle.std.specs.List.{IsDistinct}
use Rattle.std.specs.Prelude.{nat_eq}
use Rattle.std.proofs.lemmas.Bool.Decides.{nat_tests}
use Rattle.std.proofs.lemmas.List.Elements.{All-contains, All-map, All-nil}
use Rattle.std.proofs.lemmas.Map.Keys.{IsDistinct-from_apart}
use Rattle.std.proofs.lemmas.Map.Steps.{length-le_from_distinct_below}
use Rattle.indexmap.proofs.CallerLemmas.{Contains-list_any}
use Rattle.slub_trace.specs.declared.event.Act.{Act}
use Rattle.slub_trace.specs.declared.event.Act.TheVariants.{Alloc, Free}
use Rattle.slub_trace.specs.declared.event.Event.{Event}
use Rattle.slub_trace.specs.Sound.{AreReadable, IsSoundEvent, objects_of}
use Rattle.slub_slabinfo_text.specs.Asked.{event_of, frees_of, round_of}
use Rattle.slub_slabinfo_text.specs.Lawful.{IsUnheld}
use Rattle.slub_rounds.specs.Heap.{HeapState}
use Rattle.slub_rounds.specs.BulkLines.{allocs_of}
use Rattle.slub_rounds.specs.ClientLaws.{AllocationsMayBeDone, FreesMayBeDone, IsNumber}

-- ---- what acts allocate

pub allocs-objects : (cpu place : ℕ) (numbers : List ℕ) → objects_of (round_of cpu (allocs_of place numbers)).events ≡ numbers
allocs-objects cpu place [] = refl
allocs-objects cpu place (number ∷ numbers) = ap (λ (rest : List ℕ). number ∷ rest) (allocs-objects cpu place numbers)

pub frees-objects : (cpu : ℕ) (numbers : List ℕ) → objects_of (round_of cpu (frees_of numbers)).events ≡ []
frees-objects cpu [] = refl
frees-objects cpu (number ∷ numbers) = frees-objects cpu numbers

pub allocs-long : (cpu place : ℕ) (numbers : List ℕ) → length (round_of cpu (allocs_of place numbers)).events ≡ length numbers
allocs-long cpu place [] = refl
allocs-long cpu place (number ∷ numbers) = ap suc (allocs-long cpu place numbers)

pub frees-long : (cpu : ℕ) (numbers : List ℕ) → length (round_of cpu (frees_of numbers)).events ≡ length numbers
frees-long cpu [] = refl
frees-long cpu (number ∷ numbers) = ap suc (frees-long cpu numbers)

-- ---- they read nothing

pub allocs-read : (cpu place : ℕ) (numbers : List ℕ) (before : List Event) → AreReadable before (round_of cpu (allocs_of place numbers)).events
allocs-read cpu place [] before = tt
allocs-read cpu place (number ∷ numbers) before = (tt, allocs-read cpu place numbers (event_of cpu (Alloc place number) ∷ before))

pub frees-read : (cpu : ℕ) (numbers : List ℕ) (before : List Event) → AreReadable before (round_of cpu (frees_of numbers)).events
frees-read cpu [] before = tt
frees-read cpu (number ∷ numbers) before = (tt, frees-read cpu numbers (event_of cpu (Free number) ∷ before))

-- ---- numbers that differ

pub none-differ : IsDistinct nat_eq []
none-differ = IsDistinct-from_apart nat_eq [] (λ i j d before within. absurd (let never : ⊥ = omega (arith, within) in never))

pub one-differs : (object : ℕ) → IsDistinct nat_eq (object ∷ [])
one-differs object = IsDistinct-from_apart nat_eq (object ∷ []) (λ i j d before within. absurd (let never : ⊥ = omega (arith, before, within) in never))

-- they are no more than the machine has
numbers-few : (h : HeapState) (numbers : List ℕ) → All (IsNumber h) numbers → IsDistinct nat_eq numbers → length numbers ≤ length h.lists.board
numbers-few h numbers known distinct =
    length-le_from_distinct_below numbers (length h.lists.board) distinct
    (λ number found. (All-contains (IsNumber h) numbers number known (Contains-list_any nat_eq same numbers number found)).1)
  where
    same : (x y : ℕ) → nat_eq x y ≡ true → x ≡ y
    same x y is = grind (arith, nat_tests, is)

-- ---- these rounds can be done

pub allocations-may : AllocationsMayBeDone
allocations-may h trace cpu place numbers is within place_within known unheld distinct = record {
  sound = record {
    workers = (omega arith, omega arith);
    events =
        All-map (IsSoundEvent trace 1) (event_of cpu) (allocs_of place numbers)
        (All-map (λ (act : Act). IsSoundEvent trace 1 (event_of cpu act)) (Alloc place) numbers
        (λ k d inside. (let number = known k d inside in record { worker = omega arith; cpu = within; act = (place_within, number.0, omega (arith, number.1, is.objects)); idle = tt })));
    readable = allocs-read cpu place numbers [];
  };
  cpus = is.cpus;
  objects = is.objects;
  names = is.names;
  unheld = subst (All (IsUnheld h.lists)) (sym (allocs-objects cpu place numbers)) unheld;
  distinct = subst (IsDistinct nat_eq) (sym (allocs-objects cpu place numbers)) distinct;
  few = omega (arith, allocs-long cpu place numbers, numbers-few h numbers known distinct, is.objects, is.numbers);
  dry = λ order. (let room = is.dry order in omega (arith, room));
}

pub frees-may : FreesMayBeDone
frees-may h trace cpu numbers is within few known = record {
  sound = record {
    workers = (omega arith, omega arith);
    events =
        All-map (IsSoundEvent trace 1) (event_of cpu) (frees_of numbers)
        (All-map (λ (act : Act). IsSoundEvent trace 1 (event_of cpu act)) Free numbers
        (λ k d inside. (let number = known k d inside in record { worker = omega arith; cpu = within; act = (number.0, omega (arith, number.1, is.objects)); idle = tt })));
    readable = frees-read cpu numbers [];
  };
  cpus = is.cpus;
  objects = is.objects;
  names = is.names;
  unheld = subst (All (IsUnheld h.lists)) (sym (frees-objects cpu numbers)) (All-nil (IsUnheld h.lists));
  distinct = subst (IsDistinct nat_eq) (sym (frees-objects cpu numbers)) none-differ;
  few = omega (arith, frees-long cpu numbers, few);
  dry = λ order. (let room = is.dry order in omega (arith, room));
}
