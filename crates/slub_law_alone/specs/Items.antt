-- What is asked between rounds has one outcome, and so have items that are done by the order of the
-- text.
use Rattle.std.specs.Prelude.{◌≡◌, ℕ, Bool, List, [], ◌∷◌, Result, All, ⊤}
use Rattle.slub_object_layout.specs.declared.layout.Setting.{Setting}
use Rattle.slub_object_layout.specs.declared.layout.Spec.{Spec}
use Rattle.slub_common.specs.declared.no_such_cache.NoSuchCache.{NoSuchCache}
use Rattle.slub_trace.specs.declared.create.Created.{Created}
use Rattle.slub_trace.specs.declared.create.CreateRefusal.{CreateRefusal}
use Rattle.slub_trace.specs.declared.destroy.Destroyed.{Destroyed}
use Rattle.slub_trace.specs.declared.destroy.DestroyRefusal.{DestroyRefusal}
use Rattle.slub_trace.specs.declared.tune.TuneRefusal.{TuneRefusal}
use Rattle.slub_lists.specs.State.{State}
use Rattle.slub_lists.specs.Shrink.{Shrinks}
use Rattle.slub_lists.specs.Destroy.{Destroys}
use Rattle.slub_lists.specs.Tune.{Tunes}
use Rattle.slub_trace.specs.declared.trace.Item.{Item}
use Rattle.slub_trace.specs.declared.trace.Item.TheVariants as item
use Rattle.slub_trace.specs.declared.trace.Trace.{Trace}
use Rattle.slub_slabinfo_text.specs.declared.journal.Done.{Done}
use Rattle.slub_slabinfo_text.specs.declared.journal.Done.TheVariants as done
use Rattle.slub_slabinfo_text.specs.Lawful.{CreatesName, DoesPlain, DoesRound}
use Rattle.slub_law_alone.specs.Outcome.{HasOneOutcome}
use Rattle.slub_law_alone.specs.Rounds.{HasMemory}

-- ---- between rounds

-- the creation of a cache
abbrev pub CreationsHaveOneOutcome : Type 0
CreationsHaveOneOutcome =
    (s : State) (name : List ℕ) (spec : Spec)
    → HasOneOutcome (Result Created CreateRefusal) State (CreatesName s name spec)

-- a shrink
abbrev pub ShrinksHaveOneOutcome : Type 0
ShrinksHaveOneOutcome =
    (s : State) (name : List ℕ) → HasOneOutcome (Result Bool NoSuchCache) State (Shrinks s name)

-- the end of a name, and with its last name of a cache
abbrev pub DestructionsHaveOneOutcome : Type 0
DestructionsHaveOneOutcome =
    (s : State) (name : List ℕ)
    → HasOneOutcome (Result Destroyed DestroyRefusal) State (Destroys s name)

-- a setting
abbrev pub SettingsHaveOneOutcome : Type 0
SettingsHaveOneOutcome =
    (s : State) (name : List ℕ) (setting : Setting)
    → HasOneOutcome (Result (Unit {0}) TuneRefusal) State (Tunes s name setting)

-- an item that is neither a round nor a client's line
abbrev pub PlainItemsHaveOneOutcome : Type 0
PlainItemsHaveOneOutcome =
    (s : State) (trace : Trace) (one : Item) → HasOneOutcome Done State (DoesPlain s trace one)

-- ---- items, one after the other

-- an item that is no client's line is done, a round by the order of the text
abbrev pub DoesItem : State → Trace → Item → Done → State → Type 0
DoesItem s trace (item.Round round) (done.Round result) after = DoesRound s round result after
DoesItem s trace one answer after = DoesPlain s trace one answer after

-- so are these items
abbrev pub DoesItems : State → Trace → List Item → List Done → State → Type 0
DoesItems s trace [] [] after = after ≡ s
DoesItems s trace (one ∷ items) (answer ∷ answers) after =
    (mid : State) × DoesItem s trace one answer mid × DoesItems mid trace items answers after
DoesItems s trace _ _ after = ⊥

-- memory was there for each event of a round
abbrev pub IsToldWhole : Done → Type 0
IsToldWhole (done.Round result) = All HasMemory result.replies
IsToldWhole _ = ⊤

-- what came of them, and the machine that is left
abbrev pub JournalsHaveOneOutcome : Type 0
JournalsHaveOneOutcome =
    (s : State) (trace : Trace) (items : List Item) (ones others : List Done) (left right : State)
    → All IsToldWhole ones → All IsToldWhole others → DoesItems s trace items ones left
    → DoesItems s trace items others right → (ones ≡ others) × (left ≡ right)
