-- The rounds of a lawful journal lead along its machines, and each is a run of atomic steps.
use Rattle.std.proofs.Common.{ℕ, ◌≤◌, List, [], ◌∷◌, ◌++◌, length, take, flat_map, refl, sym, subst, All}
use Rattle.std.proofs.lemmas.List.Elements.{All-head, All-tail}
use Rattle.slub_lists.specs.Coherent.{IsCoherent}
use Rattle.slub_trace.specs.declared.trace.Client.{Client as Asked}
use Rattle.slub_trace.specs.declared.trace.Item.{Item}
use Rattle.slub_trace.specs.declared.trace.Item.TheVariants as item
use Rattle.slub_trace.specs.declared.trace.Trace.{Trace}
use Rattle.slub_trace.specs.Sound.{IsSound, IsSoundItem, asked_objects, objects_in}
use Rattle.slub_lists.specs.State.{State}
use Rattle.slub_slabinfo_text.specs.declared.client.ClientDone.{ClientDone}
use Rattle.slub_slabinfo_text.specs.declared.client.ClientRound.{ClientRound}
use Rattle.slub_slabinfo_text.specs.declared.journal.Done.{Done}
use Rattle.slub_slabinfo_text.specs.declared.journal.Done.TheVariants as done
use Rattle.slub_slabinfo_text.specs.declared.journal.Journal.{Journal}
use Rattle.slub_slabinfo_text.specs.Lawful.{DoesPlain}
use Rattle.slub_rounds.specs.Heap.{HeapState}
use Rattle.slub_law_replay.specs.Freed.{rounds_of}
use Rattle.slub_law_replay.specs.Rounds.{HasRounds, LeadAlong, LeadOn, LeadThrough, way_for}
use Rattle.slub_law_replay.specs.Runs.{Does, MachineState, RunsItems, heap_of, machine_of}
use Rattle.slub_law_replay.specs.declared.way.Way.{Way}
use Rattle.slub_law_replay.specs.declared.way.Way.TheVariants.{Serial}
use Rattle.slub_law_replay.proofs.Fitting.{lawful-by}
use Rattle.slub_law_replay.proofs.Made.{ClientEffect, IsSoundLine, MakesRounds, client_effect, made_caches, made_rounds, objects_asked}
use Rattle.slub_law_replay.proofs.Numbers.{IsBrief, front, items-brief}
use Rattle.slub_law_replay.proofs.OfSteps.{steps-by}
use Rattle.slub_law_replay.proofs.Ready.{stands-first}
use Rattle.slub_law_replay.proofs.Standing.{Stands, StandsBefore, is-round, line-sound, made-numbers, next-numbers, stands-may, stands-next, stands-round}

-- ---- a client's rounds

made-lead : (sound : Type 0) (number : ℕ) (h : HeapState) (trace : Trace) (rounds : List ClientRound) (coming : List ℕ) (after : HeapState) → trace.objects ≤ 1048576 → sound → Stands h.lists trace (flat_map objects_asked rounds ++ coming)
    → MakesRounds trace sound h rounds after → LeadOn Serial number h rounds after
made-lead sound number h trace [] coming after objects whole stands same = same
made-lead sound number h trace (round ∷ rounds) coming after objects whole stands makes =
    let mid = makes.0 in
    let now = next-numbers h.lists trace round rounds coming stands in
    let later = flat_map objects_asked rounds ++ coming in
    let asked = makes.1.asks whole in (
      mid,
      record {
        does = makes.1.does;
        coherent = makes.1.coherent;
        lawful = is-round h trace round.asked later round.result mid now asked makes.1.does;
        steps = steps-by Serial number h.lists h.ids trace round.asked round.result mid.lists mid.ids now.coherent now.rest objects (stands-may h.lists trace round.asked later now asked.sound asked.few) asked.few makes.1.does;
      },
      made-lead sound number mid trace rounds coming after objects whole (stands-round h trace round.asked later round.result mid now asked makes.1.does) makes.2,
    )

lead-through : (way : Way) (number : ℕ) (h : HeapState) (rounds : List ClientRound) (after : HeapState) → LeadOn way number h rounds after → LeadThrough way number h rounds after
lead-through way number h [] after lead = tt
lead-through way number h (round ∷ rounds) after lead = lead

client-lead : (sound : Type 0) (number : ℕ) (h : HeapState) (trace : Trace) (client : Asked) (outcome : ClientDone) (coming : List ℕ) (after : HeapState) → trace.objects ≤ 1048576 → sound → Stands h.lists trace (asked_objects client ++ coming)
    → ClientEffect trace sound h client outcome after → LeadThrough Serial number h outcome.rounds after
client-lead sound number h trace client outcome coming after objects whole stands (made_rounds made) =
    lead-through Serial number h outcome.rounds after
    (made-lead sound number h trace outcome.rounds coming after objects whole (made-numbers h.lists trace outcome.rounds (asked_objects client) coming made.objects stands) made.runs)
client-lead sound number h trace client outcome coming after objects whole stands (made_caches answers none creates) = subst (λ (rounds : List ClientRound). LeadThrough Serial number h rounds after) (sym none) tt

-- ---- an item

-- one that is neither a round nor a client's line has none
plain-lead : (way : Way) (number : ℕ) (h : HeapState) (s : State) (trace : Trace) (it : Item) (dn : Done) (after : HeapState) (left : State) → DoesPlain s trace it dn left → LeadThrough way number h (rounds_of it dn) after
unfolding DoesPlain
plain-lead way number h s trace (item.Round round) (done.Round result) after left does = absurd does
plain-lead way number h s trace (item.Client client) (done.Client outcome) after left does = absurd does
plain-lead way number h s trace _ _ after left does = tt

item-lead : (way : Way) (m : MachineState) (trace : Trace) (it : Item) (dn : Done) (coming : List ℕ) (after : MachineState) → trace.objects ≤ 1048576 → StandsBefore m trace (objects_in it ++ coming) → IsSoundItem trace it → IsBrief it → IsCoherent after.lists
    → Does way m trace it dn after → LeadThrough (way_for way it) m.rounds (heap_of m) (rounds_of it dn) (heap_of after)
unfolding Does
item-lead way m trace (item.Round round) (done.Round result) coming after objects stands sound brief coherent does =
    let lists = stands.lists in
    let may = stands-may m.lists trace round coming lists sound brief in (
      heap_of after,
      record {
        does = does.0;
        coherent = coherent;
        lawful = lawful-by way m.rounds m.lists m.ids trace round result after.lists after.ids lists.coherent lists.rest may does.0;
        steps = steps-by way m.rounds m.lists m.ids trace round result after.lists after.ids lists.coherent lists.rest objects may brief does.0;
      },
      refl,
    )
item-lead way m trace (item.Client client) (done.Client outcome) coming after objects stands sound brief coherent does =
    client-lead (IsSoundLine trace m.reserves client) m.rounds (heap_of m) trace client outcome coming (heap_of after) objects (line-sound m trace client (asked_objects client ++ coming) stands sound) stands.lists
    (client_effect m trace client outcome after does.0)
item-lead way m trace it dn coming after objects stands sound brief coherent does = plain-lead (way_for way it) m.rounds (heap_of m) m.lists trace it dn (heap_of after) after.lists does.0

-- ---- the journal

all-lead : (way : Way) (m : MachineState) (trace : Trace) (items : List Item) (dones : List Done) (after : MachineState) → trace.objects ≤ 1048576 → StandsBefore m trace (flat_map objects_in items) → All (IsSoundItem trace) items → All IsBrief items
    → (run : RunsItems way m trace items dones after) → LeadAlong way m trace items dones after run
all-lead way m trace [] [] after objects stands sound brief run = tt
all-lead way m trace [] (dn ∷ dones) after objects stands sound brief run = absurd run
all-lead way m trace (it ∷ items) [] after objects stands sound brief run = absurd run
all-lead way m trace (it ∷ items) (dn ∷ dones) after objects stands sound brief run =
    let here = All-head (IsSoundItem trace) it items sound in
    let short = All-head IsBrief it items brief in
    let next = stands-next way m trace it dn (flat_map objects_in items) run.0 stands here short run.2 run.1 in
    (item-lead way m trace it dn (flat_map objects_in items) run.0 objects stands here short run.2 run.1, all-lead way run.0 trace items dones after objects next (All-tail (IsSoundItem trace) it items sound) (All-tail IsBrief it items brief) run.3)

pub lead-along : (way : Way) (trace : Trace) (journal : Journal) → IsSound trace → HasRounds way trace journal
lead-along way trace journal sound lawful =
    let some = length journal.items in
    all-lead way (machine_of trace) trace (take some trace.items) journal.items lawful.machine sound.objects (stands-first trace some sound lawful.coherent) (front (IsSoundItem trace) some trace.items sound.items) (front IsBrief some trace.items (items-brief trace sound)) lawful.run
