-- Over a run each number is freed no more often than it is given, and given once at most.
use Rattle.std.proofs.Common.{◌≡◌, ℕ, ◌≤◌, count_by, flat_map, length, take, ap, arith}
use Rattle.slub_trace.specs.declared.trace.Item.{Item}
use Rattle.slub_trace.specs.declared.trace.Trace.{Trace}
use Rattle.slub_trace.specs.Sound.{IsSound, objects_in}
use Rattle.slub_slabinfo_text.specs.declared.journal.Done.{Done}
use Rattle.slub_slabinfo_text.specs.declared.journal.Journal.{Journal}
use Rattle.slub_law_rounds.specs.Answered.{did_free, gave}
use Rattle.slub_law_rounds.proofs.Times.{once_times}
use Rattle.slub_law_replay.specs.declared.way.Way.{Way}
use Rattle.slub_law_replay.specs.Runs.{IsLawful}
use Rattle.slub_law_replay.proofs.Numbers.{times-first}
use Rattle.slub_law_replay.specs.Freed.{answered_by, freed_times, given_times, rounds_among, rounds_in, rounds_of}
use Rattle.slub_law_replay.proofs.Times.{zip_taken}
use Rattle.slub_law_replay.proofs.Totals.{first_counted, opened_bare}

-- the rounds of the items that were done
pub rounds_done : (trace : Trace) (journal : Journal) → rounds_among (take (length journal.items) trace.items) journal.items ≡ rounds_in trace journal
rounds_done trace journal = ap (λ pairs. flat_map (λ (one : Item × Done). rounds_of one.0 one.1) pairs) (zip_taken trace.items journal.items)

-- what is freed was given
pub freed_was_given : (way : Way) (trace : Trace) (journal : Journal) → IsSound trace → IsLawful way trace journal → (object : ℕ) → freed_times object trace journal ≤ given_times object trace journal
freed_was_given way trace journal sound lawful object =
    let sums = first_counted way trace (length journal.items) journal.items lawful.machine sound lawful.coherent lawful.run in
    let same = rounds_done trace journal in
    let freed = ap (λ rounds. count_by (did_free object) (flat_map answered_by rounds)) same in
    let given = ap (λ rounds. count_by (gave object) (flat_map answered_by rounds)) same in
    omega (arith, sums.moves object, opened_bare trace object, freed, given)

-- and once at most
pub given_once : (way : Way) (trace : Trace) (journal : Journal) → IsSound trace → IsLawful way trace journal → (object : ℕ) → given_times object trace journal ≤ 1
given_once way trace journal sound lawful object =
    let sums = first_counted way trace (length journal.items) journal.items lawful.machine sound lawful.coherent lawful.run in
    let given = ap (λ rounds. count_by (gave object) (flat_map answered_by rounds)) (rounds_done trace journal) in
    omega (arith, sums.gives object, given, times-first object (length journal.items) trace.items, once_times object (flat_map objects_in trace.items) sound.distinct)

pub freed_once : (way : Way) (trace : Trace) (journal : Journal) → IsSound trace → IsLawful way trace journal → (object : ℕ) → freed_times object trace journal ≤ 1
freed_once way trace journal sound lawful object = omega (arith, given_once way trace journal sound lawful object, freed_was_given way trace journal sound lawful object)
