-- A round whose ids last is one that spends none.
use Rattle.std.proofs.Common.{◌≡◌, ℕ, ◌+◌, ◌*◌, ◌≤◌, ◌&&◌, Bool, true, false, cond, List, [], ◌∷◌, length, get_or, ap, arith, mul-le-mul_right}
use Rattle.std.proofs.lemmas.List.Sums.{sum_by-cons}
use Rattle.slub_trace.specs.declared.event.Act.{Act}
use Rattle.slub_trace.specs.declared.event.Act.TheVariants as act
use Rattle.slub_trace.specs.declared.event.Event.{Event}
use Rattle.slub_trace.specs.declared.event.Round.{Round}
use Rattle.slub_cache_create.specs.Table.{Table}
use Rattle.slub_trace.specs.Ranges.{step_of}
use Rattle.slub_lists.specs.State.{State}
use Rattle.slub_lists.specs.Coherent.{IsCoherent}
use Rattle.slub_core.specs.Setup.{cpu_number}
use Rattle.slub_law_opening.specs.Opening.{Beside, tid_of}
use Rattle.slub_calls.specs.Calls.{cache_named}
use Rattle.slub_slabinfo_text.specs.Lawful.{IsAtRest}
use Rattle.slub_open_close.specs.Ids.{AreIds, id_at}
use Rattle.slub_open_close.proofs.Steps.{step-is}
use Rattle.slub_rounds.specs.Rounds.{StandsBeside}
use Rattle.slub_calls.specs.Events.{changes_of, is_of_cache, is_of_cpu, most_changes}
use Rattle.slub_rounds.specs.ByText.{IdsLast}
use Rattle.slub_rounds.proofs.Standing.{lasting}
use Rattle.slub_law_alone.specs.SerialLaws.{IsSimple}

-- the most that acts may change of a word is two changes for each
if-few : (most : ℕ) (z : Bool) → most ≤ 2 → cond z most 0 ≤ 2
if-few most true few = few
if-few most false few = omega arith

most-few : (table : Table) (n cpu : ℕ) (a : Act) → most_changes table n cpu a ≤ 2
most-few table n cpu (act.Alloc place object) = if-few 2 (is_of_cpu n cpu && is_of_cache n (cache_named table place)) (omega arith)
most-few table n cpu (act.Free object) = if-few 1 (is_of_cpu n cpu) (omega arith)
most-few table n cpu (act.Write word object value) = omega arith
most-few table n cpu (act.Read word object) = omega arith
most-few table n cpu (act.Poke object offset byte) = omega arith
most-few table n cpu (act.Trim place) = if-few 1 (is_of_cache n (cache_named table place)) (omega arith)
most-few table n cpu act.Flush = if-few 1 (is_of_cpu n cpu) (omega arith)

changes-few : (table : Table) (events : List Event) (n : ℕ) → changes_of table events n ≤ 2 * length events
changes-few table [] n = omega arith
changes-few table (event ∷ events) n =
    let sum = sum_by-cons (λ (e : Event). most_changes table n e.cpu e.act) event events in
    let long : length (event ∷ events) ≡ length events + 1 = omega arith in
    omega (arith, sum, long, most-few table n event.cpu event.act, changes-few table events n)

-- so the round is one that the workers can do
pub simple : (s : State) (ids : List ℕ) (b : Beside) (round : Round) → IsCoherent s → IsAtRest s → AreIds s ids → IdsLast s ids round → StandsBeside s ids b → IsSimple s b round.events
simple s ids b round coherent rest are last stands = record {
  forgotten = rest.forgotten;
  ids = λ cache cpu below lives unchecked.
      let n = cpu_number cache cpu in
      let most = changes_of s.table round.events n in
      let step : b.step ≡ step_of s.cpus = step-is s.cpus b.step stands.step coherent.shaped.cpus.0 coherent.shaped.cpus.1 in
      let own : tid_of b n ≡ id_at ids n = ap (λ (xs : List ℕ). get_or xs n 0) stands.tids in
      let all : (most + 1) * b.step ≡ (most + 1) * step_of s.cpus = ap (λ k. (most + 1) * k) step in
      let few : (most + 1) * step_of s.cpus ≤ (2 * length round.events + 1) * step_of s.cpus = mul-le-mul_right (step_of s.cpus) (omega (arith, changes-few s.table round.events n)) in
      omega (arith, own, all, few, lasting s ids round are.count last n);
}
