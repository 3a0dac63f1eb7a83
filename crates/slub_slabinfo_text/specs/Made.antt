-- What is made of an item's text before a byte of it is written, and what is made as it is written.
use Rattle.std.specs.Prelude.{ℕ, Bool, List, [], flat_map, slice_get}
use Rattle.std.specs.List.{zip}
use Rattle.std.specs.Option.{option_map_or}
use Rattle.slub_trace.specs.declared.trace.Item.{Item}
use Rattle.slub_trace.specs.declared.trace.Item.TheVariants as item
use Rattle.slub_trace.specs.declared.trace.Trace.{Trace}
use Rattle.slub_slabinfo_text.specs.declared.journal.Done.{Done}
use Rattle.slub_slabinfo_text.specs.declared.journal.Done.TheVariants as done
use Rattle.slub_slabinfo_text.specs.Lines.{event_text, found_text}
use Rattle.slub_slabinfo_text.specs.Text.{done_text}

-- of a round the lines of its damages, and of every other item all lines
unfoldable pub made_of : Bool → Trace → Item → Done → List ℕ
made_of replies trace (item.Round round) (done.Round result) = flat_map found_text result.damages
made_of replies trace it dn = done_text replies trace it dn

-- of a round the lines of its replies, and of every other item none
unfoldable pub replies_of : Bool → Trace → Item → Done → List ℕ
replies_of replies trace (item.Round round) (done.Round result) =
    flat_map (event_text replies trace.names) (zip round.events result.replies)
replies_of replies trace it dn = []

-- what is made before of the item of this number
abbrev pub made_before : Bool → Trace → ℕ → Done → List ℕ
made_before replies trace number dn =
    option_map_or (λ it. made_of replies trace it dn) (slice_get trace.items number) []

-- the lines of its replies
abbrev pub replies_at : Bool → Trace → ℕ → Done → List ℕ
replies_at replies trace number dn =
    option_map_or (λ it. replies_of replies trace it dn) (slice_get trace.items number) []

-- what is kept of it until it is written, and how many bytes a line has room for
pub record Held : Type 0 where
  pub made : List ℕ
  pub room : ℕ
