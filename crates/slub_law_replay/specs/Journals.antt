-- A trace has one journal and one text, by every way and seed.
use Rattle.std.specs.Prelude.{◌≡◌, Bool, length, is_some, All}
use Rattle.slub_trace.specs.declared.trace.Trace.{Trace}
use Rattle.slub_slabinfo_text.specs.declared.journal.Journal.{Journal}
use Rattle.slub_slabinfo_text.specs.Text.{text_of}
use Rattle.slub_law_alone.specs.Items.{IsToldWhole}
use Rattle.slub_law_replay.specs.declared.way.Way.{Way}
use Rattle.slub_law_replay.specs.Runs.{IsLawful}
use Rattle.slub_law_replay.specs.OneTextRounds.{IsFixed}

-- two journals of a trace that tell as much: as many items, a total both or neither, and memory was
-- there for each event of their rounds
pub record TellAsMuch (one other : Journal) : Type 0 where
  pub items : length one.items ≡ length other.items
  pub total : is_some one.total ≡ is_some other.total
  pub whole : All IsToldWhole one.items
  pub also : All IsToldWhole other.items

-- they are the same
abbrev pub JournalsAreOne : Type 0
JournalsAreOne =
    (way : Way) (trace : Trace) (one other : Journal) → All (IsFixed way) trace.items
    → IsLawful way trace one → IsLawful way trace other → TellAsMuch one other → one ≡ other

-- and so are their texts, with or without the lines that `--replies` asks for
abbrev pub TextsAreOne : Type 0
TextsAreOne =
    (replies : Bool) (way : Way) (trace : Trace) (one other : Journal)
    → All (IsFixed way) trace.items → IsLawful way trace one → IsLawful way trace other
    → TellAsMuch one other → text_of replies trace one ≡ text_of replies trace other
