-- The rounds that a client's line asks are sound ones of its trace, and none is long.
use Rattle.std.proofs.Common.{◌≡◌, ℕ, ◌+◌, ◌*◌, ◌^◌, ◌<◌, ◌≤◌, eqb, not, List, [], ◌∷◌, length, filter, flat_map, arith, All, Some}
use Rattle.std.specs.List.{range_with_len}
use Rattle.std.specs.Str.{bytes_eq}
use Rattle.std.proofs.lemmas.List.{length-append, length-map}
use Rattle.std.proofs.lemmas.List.Elements.{All-cons, All-map, All-nil}
use Rattle.std.proofs.lemmas.List.FromFn.{get_or-range_with_len, length-range_with_len}
use Rattle.std.proofs.lemmas.List.Quantifiers.{position-Some}
use Rattle.std.proofs.lemmas.List.Sums.{count_by-le-length, length-filter}
use Rattle.slub_trace.specs.declared.event.Act.{Act}
use Rattle.slub_trace.specs.declared.event.Act.TheVariants.{Alloc, Free}
use Rattle.slub_trace.specs.declared.event.Round.{Round}
use Rattle.slub_lists.specs.State.{State}
use Rattle.slub_trace.specs.declared.trace.Trace.{Trace}
use Rattle.slub_trace.specs.Sound.{IsSoundEvent, IsSoundObject, IsSoundRound}
use Rattle.slub_slabinfo_text.specs.Asked.{event_of, frees_of, round_of}
use Rattle.slub_slabinfo_text.specs.Bulk.{free_order, objects_of_slab, slabs_among}
use Rattle.slub_rounds.specs.BulkLines.{allocs_of, frame_under, places_under}
use Rattle.slub_rounds.specs.Kmalloc.{class_name, place_of_class}
use Rattle.slub_rounds.proofs.Allowed.{allocs-read, frees-read}
use Rattle.slub_rounds.specs.Reserves.{AreSoundReserves, Reserve, kept_in, kept_of, no_reserve, place_of_reserve, reserve_at}

-- ---- rounds of one act each

-- a round of the trace of no more events than 24 bits hold
pub record IsAsked (trace : Trace) (round : Round) : Type 0 where
  pub sound : IsSoundRound trace round
  pub few : length round.events ≤ 2 ^ 24

-- numbers of the trace
abbrev pub AreKnown : Trace → List ℕ → Type 0
AreKnown trace numbers = All (IsSoundObject trace) numbers

-- allocations under numbers of the trace, from the cache of a name of the trace
pub allocs-asked : (trace : Trace) (cpu place : ℕ) (numbers : List ℕ) → cpu < trace.cpus → place < length trace.names → AreKnown trace numbers → length numbers ≤ 1048576 → IsAsked trace (round_of cpu (allocs_of place numbers))
allocs-asked trace cpu place numbers on named known few =
    let all : All (λ (act : Act). IsSoundEvent trace 1 (event_of cpu act)) (allocs_of place numbers) =
    All-map (λ (act : Act). IsSoundEvent trace 1 (event_of cpu act)) (Alloc place) numbers (λ k d inside. record { worker = omega arith; cpu = on; act = (named, (known k d inside).0, (known k d inside).1); idle = tt }) in
    record {
      sound = record {
        workers = (omega arith, omega arith);
        events = All-map (IsSoundEvent trace 1) (event_of cpu) (allocs_of place numbers) all;
        readable = allocs-read cpu place numbers [];
      };
      few = omega (arith, length-map (allocs_of place numbers) (event_of cpu), length-map numbers (Alloc place), few);
    }

-- and frees of numbers of the trace
pub frees-asked : (trace : Trace) (cpu : ℕ) (numbers : List ℕ) → cpu < trace.cpus → AreKnown trace numbers → length numbers ≤ 1048576 → IsAsked trace (round_of cpu (frees_of numbers))
frees-asked trace cpu numbers on known few =
    let all : All (λ (act : Act). IsSoundEvent trace 1 (event_of cpu act)) (frees_of numbers) =
    All-map (λ (act : Act). IsSoundEvent trace 1 (event_of cpu act)) Free numbers (λ k d inside. record { worker = omega arith; cpu = on; act = known k d inside; idle = tt }) in
    record {
      sound = record {
        workers = (omega arith, omega arith);
        events = All-map (IsSoundEvent trace 1) (event_of cpu) (frees_of numbers) all;
        readable = frees-read cpu numbers [];
      };
      few = omega (arith, length-map (frees_of numbers) (event_of cpu), length-map numbers Free, few);
    }

pub alloc-asked : (trace : Trace) (cpu place object : ℕ) → cpu < trace.cpus → place < length trace.names → IsSoundObject trace object → IsAsked trace (round_of cpu (Alloc place object ∷ []))
alloc-asked trace cpu place object on named known = allocs-asked trace cpu place (object ∷ []) on named (All-cons (IsSoundObject trace) object [] known (All-nil (IsSoundObject trace))) (omega arith)

pub free-asked : (trace : Trace) (cpu object : ℕ) → cpu < trace.cpus → IsSoundObject trace object → IsAsked trace (round_of cpu (Free object ∷ []))
free-asked trace cpu object on known = frees-asked trace cpu (object ∷ []) on (All-cons (IsSoundObject trace) object [] known (All-nil (IsSoundObject trace))) (omega arith)

-- ---- numbers

-- a range of them
pub range-known : (trace : Trace) (first count : ℕ) → 1 ≤ first → first + count ≤ trace.objects + 1 → AreKnown trace (range_with_len first count)
range-known trace first count from within k d inside =
    let long = length-range_with_len first count in
    let at = get_or-range_with_len first count k d (omega (arith, inside, long)) in
    rw at (omega (arith, from), omega (arith, within, inside, long))

-- ---- the order of a bulk free

slab-few : (places : List (ℕ × ℕ)) (frame : ℕ) → length (objects_of_slab places frame) ≤ length places
slab-few places frame =
    let own = filter (λ (place : ℕ × ℕ). eqb place.1 frame) places in
    omega (arith, length-map own (λ (place : ℕ × ℕ). place.0), length-filter (λ (place : ℕ × ℕ). eqb place.1 frame) places, count_by-le-length (λ (place : ℕ × ℕ). eqb place.1 frame) places)

slabs-few : (places : List (ℕ × ℕ)) → length (slabs_among places) ≤ length places
slabs-few [] = omega arith
slabs-few (place ∷ places) =
    let others = λ (frame : ℕ). not (eqb place.1 frame) in
    omega (arith, slabs-few places, length-filter others (slabs_among places), count_by-le-length others (slabs_among places))

-- each slab has no more than there are
total-few : (places : List (ℕ × ℕ)) (frames : List ℕ) → length places ≤ 1024 → length (flat_map (objects_of_slab places) frames) ≤ 1024 * length frames
total-few places [] few = omega arith
total-few places (frame ∷ frames) few = omega (arith, few, length-append (objects_of_slab places frame) (flat_map (objects_of_slab places) frames), slab-few places frame, total-few places frames few)

pub order-few : (s : State) (numbers : List ℕ) → length numbers ≤ 1024 → length (free_order (places_under s numbers)) ≤ 1048576
order-few s numbers few =
    let places = places_under s numbers in
    let long = length-map {B = ℕ × ℕ} numbers (λ (number : ℕ). (number, frame_under s number)) in
    omega (arith, few, long, slabs-few places, total-few places (slabs_among places) (omega (arith, few, long)))

-- ---- names

-- a class's name has a place among those of the trace
pub class-named : (trace : Trace) (class place : ℕ) → place_of_class trace class ≡ Some place → place < length trace.names
class-named trace class place is = (position-Some (bytes_eq (class_name class)) trace.names place [] is).0

-- reserves' caches have names of the trace
abbrev pub AreNamed : Trace → List Reserve → Type 0
AreNamed trace reserves = All (λ reserve. reserve.cache < length trace.names) reserves

pub kept-named : (trace : Trace) (s : State) (reserves : List Reserve) → AreSoundReserves trace reserves → AreNamed trace (kept_in s reserves)
kept-named trace s reserves sound = All-map (λ (reserve : Reserve). reserve.cache < length trace.names) (kept_of s) reserves (λ k d inside. (sound.each k d inside).cache)

pub reserve-named : (trace : Trace) (reserves : List Reserve) (pool : List ℕ) (at : ℕ) → AreNamed trace reserves → place_of_reserve reserves pool ≡ Some at → (reserve_at reserves at).cache < length trace.names
reserve-named trace reserves pool at named is = named at no_reserve (position-Some (λ (reserve : Reserve). bytes_eq pool reserve.name) reserves at (reserve_at reserves at) is).0
