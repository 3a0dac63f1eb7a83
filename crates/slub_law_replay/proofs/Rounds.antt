-- The rounds of an item are lawful.
use Rattle.std.proofs.Common.{◌≡◌, ℕ, List, [], ◌∷◌, ◌++◌, flat_map, refl, sym, ap, subst}
use Rattle.std.specs.Prelude.{⊤}
use Rattle.slub_lists.specs.State.{State}
use Rattle.slub_lists.specs.Coherent.{IsCoherent}
use Rattle.slub_trace.specs.declared.trace.Item.{Item}
use Rattle.slub_trace.specs.declared.trace.Item.TheVariants as item
use Rattle.slub_trace.specs.declared.trace.Trace.{Trace}
use Rattle.slub_trace.specs.declared.trace.Client.{Client as Asked}
use Rattle.slub_trace.specs.Sound.{IsSoundItem, asked_objects, objects_in}
use Rattle.slub_slabinfo_text.specs.declared.journal.Done.{Done}
use Rattle.slub_slabinfo_text.specs.declared.journal.Done.TheVariants as done
use Rattle.slub_slabinfo_text.specs.declared.client.ClientDone.{ClientDone}
use Rattle.slub_slabinfo_text.specs.declared.client.ClientRound.{ClientRound}
use Rattle.slub_slabinfo_text.specs.Lawful.{DoesPlain}
use Rattle.slub_law_rounds.specs.Round.{IsRound}
use Rattle.slub_rounds.specs.Heap.{HeapState}
use Rattle.slub_law_replay.specs.Freed.{rounds_of}
use Rattle.slub_law_replay.specs.declared.way.Way.{Way}
use Rattle.slub_law_replay.specs.Runs.{Does, MachineState, heap_of}
use Rattle.slub_law_replay.proofs.Fitting.{lawful-by}
use Rattle.slub_law_replay.proofs.Made.{ClientEffect, IsSoundLine, MakesRounds, client_effect, made_caches, made_rounds, objects_asked}
use Rattle.slub_law_replay.proofs.Numbers.{IsBrief}
use Rattle.slub_law_replay.proofs.Standing.{Stands, StandsBefore, is-round, line-sound, made-numbers, next-numbers, stands-may, stands-next, stands-round}

-- ---- lawful rounds

-- rounds are made one after the other from these lists on, and each is lawful
abbrev pub AreLawful : State → List ClientRound → State → Type 0
AreLawful s [] after = after ≡ s
AreLawful s (round ∷ rounds) after = (mid : State) × IsRound s round.asked round.result mid × AreLawful mid rounds after

-- so are the rounds of an item that was done; nothing is said of one without a round
abbrev pub AreRounds : State → List ClientRound → State → Type 0
AreRounds s [] after = ⊤
AreRounds s (round ∷ rounds) after = AreLawful s (round ∷ rounds) after

-- ---- rounds in the order of the text

made-lawful : (sound : Type 0) (h : HeapState) (trace : Trace) (rounds : List ClientRound) (coming : List ℕ) (after : HeapState) → sound → Stands h.lists trace (flat_map objects_asked rounds ++ coming) → MakesRounds trace sound h rounds after
    → AreLawful h.lists rounds after.lists
made-lawful sound h trace [] coming after whole stands same = ap (λ (now : HeapState). now.lists) same
made-lawful sound h trace (round ∷ rounds) coming after whole stands makes =
    let mid = makes.0 in
    let now = next-numbers h.lists trace round rounds coming stands in
    let later = flat_map objects_asked rounds ++ coming in
    let asked = makes.1.asks whole in (
      mid.lists,
      is-round h trace round.asked later round.result mid now asked makes.1.does,
      made-lawful sound mid trace rounds coming after whole (stands-round h trace round.asked later round.result mid now asked makes.1.does) makes.2,
    )

are-rounds : (s : State) (rounds : List ClientRound) (after : State) → AreLawful s rounds after → AreRounds s rounds after
are-rounds s [] after are = tt
are-rounds s (round ∷ rounds) after are = are

-- ---- items

-- a client's line
client-rounds : (sound : Type 0) (h : HeapState) (trace : Trace) (client : Asked) (outcome : ClientDone) (coming : List ℕ) (after : HeapState) → sound → Stands h.lists trace (asked_objects client ++ coming) → ClientEffect trace sound h client outcome after
    → AreRounds h.lists outcome.rounds after.lists
client-rounds sound h trace client outcome coming after whole stands (made_rounds made) =
    are-rounds h.lists outcome.rounds after.lists
    (made-lawful sound h trace outcome.rounds coming after whole (made-numbers h.lists trace outcome.rounds (asked_objects client) coming made.objects stands) made.runs)
client-rounds sound h trace client outcome coming after whole stands (made_caches answers none creates) = subst (λ (rounds : List ClientRound). AreRounds h.lists rounds after.lists) (sym none) tt

-- one that is neither a round nor a client's line has none
plain-rounds : (s : State) (trace : Trace) (it : Item) (dn : Done) (after : State) → DoesPlain s trace it dn after → AreRounds s (rounds_of it dn) after
unfolding DoesPlain
plain-rounds s trace (item.Round round) (done.Round result) after does = absurd does
plain-rounds s trace (item.Client client) (done.Client outcome) after does = absurd does
plain-rounds s trace _ _ after does = tt

-- the rounds of any item, by any way
pub item-rounds : (way : Way) (m : MachineState) (trace : Trace) (it : Item) (dn : Done) (coming : List ℕ) (after : MachineState) → StandsBefore m trace (objects_in it ++ coming) → IsSoundItem trace it → IsBrief it → Does way m trace it dn after
    → AreRounds m.lists (rounds_of it dn) after.lists
unfolding Does
item-rounds way m trace (item.Round round) (done.Round result) coming after stands sound brief does =
    let lists = stands.lists in
    (after.lists, lawful-by way m.rounds m.lists m.ids trace round result after.lists after.ids lists.coherent lists.rest (stands-may m.lists trace round coming lists sound brief) does.0, refl)
item-rounds way m trace (item.Client client) (done.Client outcome) coming after stands sound brief does =
    client-rounds (IsSoundLine trace m.reserves client) (heap_of m) trace client outcome coming (heap_of after) (line-sound m trace client (asked_objects client ++ coming) stands sound) stands.lists
    (client_effect m trace client outcome after does.0)
item-rounds way m trace it dn coming after stands sound brief does = plain-rounds m.lists trace it dn after.lists does.0

-- any item leads on to those after it, and its rounds are lawful
pub item-stands : (way : Way) (m : MachineState) (trace : Trace) (it : Item) (dn : Done) (coming : List ℕ) (after : MachineState) → StandsBefore m trace (objects_in it ++ coming) → IsSoundItem trace it → IsBrief it → IsCoherent after.lists → Does way m trace it dn after
    → StandsBefore after trace coming × AreRounds m.lists (rounds_of it dn) after.lists
item-stands way m trace it dn coming after stands sound brief coherent does =
    (stands-next way m trace it dn coming after stands sound brief coherent does, item-rounds way m trace it dn coming after stands sound brief does)
