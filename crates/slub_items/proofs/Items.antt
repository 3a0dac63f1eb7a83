-- Where the machine stands before and after an item: a round, a client's line or another.
use Rattle.std.proofs.Common.{◌≡◌, ℕ, ◌+◌, ◌^◌, ◌<◌, ◌≤◌, List, length, get_or, refl, sym, ◌∙◌, ap, subst, arith, Option, Some, None, MatchOption, slice_get, slice_index}
use Rattle.std.proofs.lemmas.Option.{slice_get_read}
use Rattle.slub_trace.specs.declared.event.Round.{Round}
use Rattle.slub_cache_create.specs.Table.{Table}
use Rattle.slub_lists.specs.State.{State}
use Rattle.slub_trace.specs.declared.trace.Client.{Client as Asked}
use Rattle.slub_trace.specs.declared.trace.Item.{Item}
use Rattle.slub_trace.specs.declared.trace.Item.TheVariants as item
use Rattle.slub_trace.specs.declared.trace.Trace.{Trace}
use Rattle.slub_trace.specs.Sound.{IsSound, asked_objects, objects_in}
use Rattle.slub_slabinfo_text.specs.declared.journal.RoundResult.{RoundResult}
use Rattle.slub_slabinfo_text.specs.Lawful.{IsPlain, IsPlainAt, IsReady, TakesMemory, coming}
use Rattle.slub_slabinfo_text.proofs.Items.{takes_at}
use Rattle.slub_law_rounds.specs.Round.{IsRound}
use Rattle.slub_engine.specs.Steps.{KeepsSizes, KeepsUnheld}
use Rattle.slub_engine.proofs.Ready.{ready_next}
use Rattle.slub_rounds.specs.Heap.{HeapState, IsSoundHeap}
use Rattle.slub_rounds.specs.Asked.{IsOpenTo, IsServable}
use Rattle.slub_rounds.specs.Reserves.{AreSoundReserves}
use Rattle.slub_rounds.proofs.Staying.{round-unheld}
use Rattle.slub_law_replay.specs.declared.way.Way.{Way}
use Rattle.slub_law_replay.specs.Runs.{AreIdsFor, IsReadyMachine, ItemSpendsTurns, KeepsReserves, KeepsRounds, MachineState, SpendsLine, heap_of}
use Rattle.slub_law_replay.specs.Ways.{DoesRoundBy}
use Rattle.slub_items.specs.declared.machine.Stopped.{Stopped}
use Rattle.slub_items.specs.declared.machine.Stopped.TheVariants.{NoMemory, TurnsSpent}
use Rattle.slub_items.specs.Stopped.{IsClient, IsClientAt, IsMachineStopped, IsStopped}
use Rattle.slub_items.proofs.Standing.{fit_beside, line_stands, round_stands}

-- ---- the item of a number

-- it was read
pub read_at : (trace : Trace) (number : ℕ) (it : Item) → number < length trace.items → it ≡ get_or trace.items number it → slice_get trace.items number ≡ Some it
read_at trace number it within at = slice_get_read trace.items (length trace.items) number it refl within at

found_at : (trace : Trace) (number : ℕ) (it : Item) (P : Item → Type 0) → number < length trace.items → it ≡ get_or trace.items number it → P it → MatchOption (slice_get trace.items number) ⊥ P
found_at trace number it P within at holds = subst (λ (found : Option Item). MatchOption found ⊥ P) (sym (read_at trace number it within at)) holds

-- one that is neither a round nor a client's line
pub plain_at : (trace : Trace) (number : ℕ) (it : Item) → number < length trace.items → it ≡ get_or trace.items number it → ((round : Round) → it ≡ item.Round round → ⊥) → ((client : Asked) → it ≡ item.Client client → ⊥) → IsPlainAt trace number
plain_at trace number it within at no_round no_client = found_at trace number it IsPlain within at (by it no_round no_client)
  where
    by : (it : Item) → ((round : Round) → it ≡ item.Round round → ⊥) → ((client : Asked) → it ≡ item.Client client → ⊥) → IsPlain it
    by (item.Round round) no_round no_client = no_round round refl
    by (item.Client client) no_round no_client = no_client client refl
    by _ no_round no_client = tt

-- a client's line
pub client_at : (trace : Trace) (number : ℕ) (it : Item) (client : Asked) → number < length trace.items → it ≡ get_or trace.items number it → it ≡ item.Client client → IsClientAt trace number
client_at trace number it client within at is = found_at trace number it IsClient within at (subst IsClient (sym is) tt)

-- ---- before a round or a client's line

-- the round at a number was read
pub round_at : (trace : Trace) (number : ℕ) (it : Item) (round : Round) → number < length trace.items → it ≡ get_or trace.items number it → it ≡ item.Round round → slice_get trace.items number ≡ Some (item.Round round)
round_at trace number it round within at is = subst (λ (it : Item). slice_get trace.items number ≡ Some it) is (read_at trace number it within at)

-- so was the line
pub line_at : (trace : Trace) (number : ℕ) (it : Item) (client : Asked) → number < length trace.items → it ≡ get_or trace.items number it → it ≡ item.Client client → slice_get trace.items number ≡ Some (item.Client client)
line_at trace number it client within at is = subst (λ (it : Item). slice_get trace.items number ≡ Some it) is (read_at trace number it within at)

-- the heap is sound
pub sound_heap : (m : MachineState) (trace : Trace) (number : ℕ) → IsReadyMachine m trace number → IsSoundHeap (heap_of m)
sound_heap m trace number ready = record { coherent = ready.lists.coherent; ids = fit_beside trace m.lists m.ids ready.ids }

-- ---- after an item

-- each count of wanted frames is as far from its end as numbers are still to be allocated
abbrev pub HasRoom : MachineState → Trace → ℕ → Type 0
HasRoom m trace number = (order : ℕ) → slice_index m.lists.pool.dry order + length (coming trace number) ≤ 2 ^ 62

-- two heaps of a trace have the same sizes
sizes_after : (h after : HeapState) (trace : Trace) (one other : ℕ) → IsOpenTo h trace one → IsOpenTo after trace other → KeepsSizes h.lists after.lists
sizes_after h after trace one other before is_open = record {
  frames = is_open.frames ∙ sym before.frames;
  cpus = is_open.cpus ∙ sym before.cpus;
  kept = is_open.names ∙ sym before.names;
  board = is_open.objects ∙ sym before.objects;
}

-- and the machine before the next item
pub ready_client : (m after : MachineState) (trace : Trace) (number : ℕ) (it : Item) (client : Asked) → IsSound trace → IsReadyMachine m trace number → number < length trace.items → it ≡ get_or trace.items number it → it ≡ item.Client client
    → IsServable (heap_of m) trace client → IsOpenTo (heap_of after) trace (length (coming trace (number + 1))) → KeepsUnheld m.lists (asked_objects client) after.lists → AreSoundReserves trace after.reserves → KeepsRounds m after → IsReadyMachine after trace (number + 1)
ready_client m after trace number it client sound ready within at is servable is_open keeps reserves same = record {
  ids = line_stands trace after.lists after.ids is_open.given is_open.sound.ids;
  lists =
      ready_next m.lists after.lists trace number it sound ready.lists within at is_open.sound.coherent (sizes_after (heap_of m) (heap_of after) trace (length (asked_objects client)) (length (coming trace (number + 1))) servable.heap is_open) is_open.rest
      (subst (λ (it : Item). KeepsUnheld m.lists (objects_in it) after.lists) (sym is) keeps);
  reserves = reserves;
  rounds = omega (arith, same, ready.rounds);
  dry = is_open.dry;
}

-- so does a round, which keeps the sizes
pub keeps_sizes : (s : State) (round : Round) (result : RoundResult) (after : State) → IsRound s round result after → KeepsSizes s after
keeps_sizes s round result after is = record { frames = is.frames; cpus = is.cpus; kept = ap (λ (table : Table). table.kept) is.table; board = is.objects }

pub ready_round : (way : Way) (m after : MachineState) (trace : Trace) (number : ℕ) (it : Item) (round : Round) (result : RoundResult) → IsSound trace → IsReadyMachine m trace number → number < length trace.items → it ≡ get_or trace.items number it
    → it ≡ item.Round round → DoesRoundBy way m.rounds m.lists m.ids round result after.lists after.ids → IsRound m.lists round result after.lists → IsSoundHeap (heap_of after) → KeepsReserves m after → after.rounds ≡ m.rounds + 1
    → HasRoom after trace (number + 1) → IsReadyMachine after trace (number + 1)
ready_round way m after trace number it round result sound ready within at is does law heap kept more room = record {
  ids = round_stands way m.rounds trace m.lists after.lists m.ids after.ids round result ready.ids does heap.ids;
  lists =
      ready_next m.lists after.lists trace number it sound ready.lists within at law.coherent (keeps_sizes m.lists round result after.lists law) law.rest
      (subst (λ (objects : List ℕ). KeepsUnheld m.lists objects after.lists) (sym (ap objects_in is)) (round-unheld m.lists round result after.lists law));
  reserves = subst (AreSoundReserves trace) (sym kept) ready.reserves;
  rounds = omega (arith, more, ready.rounds);
  dry = room;
}

-- and an item that is neither
pub ready_plain : (m after : MachineState) (trace : Trace) (number : ℕ) → IsReadyMachine m trace number → IsReady after.lists trace (number + 1) → AreIdsFor trace after.lists after.ids → KeepsReserves m after → KeepsRounds m after → HasRoom after trace (number + 1)
    → IsReadyMachine after trace (number + 1)
ready_plain m after trace number ready lists ids kept same room = record {
  ids = ids;
  lists = lists;
  reserves = subst (AreSoundReserves trace) (sym kept) ready.reserves;
  rounds = omega (arith, same, ready.rounds);
  dry = room;
}

-- ---- an item that isn't done

pub stopped_round : (way : Way) (m : MachineState) (trace : Trace) (number : ℕ) (it : Item) (round : Round) (why : Stopped) → number < length trace.items → it ≡ get_or trace.items number it → it ≡ item.Round round
    → IsMachineStopped way m round why → IsStopped way m trace number why
stopped_round way m trace number it round (NoMemory (Some after)) within at is same = (takes_at trace number it within at (subst TakesMemory (sym is) tt), let back : after ≡ m = cc in back)
stopped_round way m trace number it round (NoMemory None) within at is same = absurd (let never : ⊥ = cc in never)
stopped_round way m trace number it round TurnsSpent within at is spends = found_at trace number it (ItemSpendsTurns way m trace) within at (subst (ItemSpendsTurns way m trace) (sym is) spends)

-- no memory was there for a client's line
pub wanting_client : (way : Way) (m : MachineState) (trace : Trace) (number : ℕ) (it : Item) (client : Asked) → number < length trace.items → it ≡ get_or trace.items number it → it ≡ item.Client client → IsStopped way m trace number (NoMemory None)
wanting_client way m trace number it client within at is = (takes_at trace number it within at (subst TakesMemory (sym is) tt), client_at trace number it client within at is)

-- or the turns of a round of it are spent
pub spent_client : (way : Way) (m : MachineState) (trace : Trace) (number : ℕ) (it : Item) (client : Asked) → number < length trace.items → it ≡ get_or trace.items number it → it ≡ item.Client client → SpendsLine m trace client → IsStopped way m trace number TurnsSpent
spent_client way m trace number it client within at is spends = found_at trace number it (ItemSpendsTurns way m trace) within at (subst (ItemSpendsTurns way m trace) (sym is) spends)
