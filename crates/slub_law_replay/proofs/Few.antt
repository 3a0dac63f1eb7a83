-- A run gives no more objects than its items name, and frees no more than it gives.
use Rattle.std.proofs.Common.{◌≡◌, ◌^◌, ◌<◌, List, flat_map, length, take, take_all, ap, sym, subst, arith}
use Rattle.slub_lists.specs.Coherent.{IsCoherent}
use Rattle.slub_trace.specs.declared.trace.Item.{Item}
use Rattle.slub_trace.specs.declared.trace.Trace.{Trace}
use Rattle.slub_trace.specs.Sound.{IsSound, objects_in}
use Rattle.slub_slabinfo_text.specs.declared.journal.Done.{Done}
use Rattle.slub_slabinfo_text.specs.Lawful.{all_freed, all_given, opening_of}
use Rattle.slub_law_replay.specs.declared.way.Way.{Way}
use Rattle.slub_law_replay.specs.Runs.{MachineState, RunsItems, machine_of}
use Rattle.slub_law_replay.proofs.Numbers.{numbers-few}
use Rattle.slub_law_replay.proofs.Totals.{first_counted, opened_none}

-- 64 bits hold what is given and freed in all
pub sums_few : (way : Way) (trace : Trace) (dones : List Done) (m : MachineState) → IsSound trace → IsCoherent (opening_of trace) → RunsItems way (machine_of trace) trace trace.items dones m → (all_given dones < 2 ^ 64) × (all_freed dones < 2 ^ 64)
sums_few way trace dones m sound coherent run =
    let some = length trace.items in
    let all : take some trace.items ≡ trace.items = take_all some trace.items (omega arith) in
    let sums = first_counted way trace some dones m sound coherent (subst (λ (items : List Item). RunsItems way (machine_of trace) trace items dones m) (sym all) run) in
    let long = ap (λ (items : List Item). length (flat_map objects_in items)) all in
    let given : all_given dones < 2 ^ 64 = omega (arith, sums.few, long, numbers-few trace sound, sound.objects) in
    (given, omega (arith, sums.few, sums.balanced, opened_none trace, long, numbers-few trace sound, sound.objects))
