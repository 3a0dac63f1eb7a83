-- Which text a journal has: names and numbers are those of the trace.
use Rattle.std.specs.Prelude.{ℕ, Bool, List, [], ◌∷◌, ◌++◌, Option, Some, None, slice_get}
use Rattle.std.specs.Option.{option_map_or}
use Rattle.slub_slabinfo_text.specs.declared.text.ItemWord.TheVariants as word
use Rattle.slub_slabinfo_text.specs.Texts.{info_text, total_line}
use Rattle.slub_trace.specs.declared.trace.Item.{Item}
use Rattle.slub_trace.specs.declared.trace.Item.TheVariants as item
use Rattle.slub_trace.specs.declared.trace.Trace.{Trace}
use Rattle.slub_slabinfo_text.specs.declared.journal.Done.{Done}
use Rattle.slub_slabinfo_text.specs.declared.journal.Done.TheVariants as done
use Rattle.slub_slabinfo_text.specs.declared.journal.Total.{Total}
use Rattle.slub_slabinfo_text.specs.declared.journal.Journal.{Journal}
use Rattle.slub_slabinfo_text.specs.ClientText.{client_text}
use Rattle.slub_slabinfo_text.specs.Lawful.{name_at}
use Rattle.slub_slabinfo_text.specs.Lines.{answer_line, created_answer, destroyed_answer, round_text, shrunk_answer, tuned_answer}

-- the lines of an item that was done as what it is; none of another
unfoldable pub done_text : Bool → Trace → Item → Done → List ℕ
done_text replies trace (item.Cache place spec) (done.Created answer) =
    answer_line replies word.Cache (name_at trace place) (created_answer answer)
done_text replies trace (item.Round round) (done.Round result) =
    round_text replies trace.names round result
done_text replies trace (item.Shrink place) (done.Shrunk answer) =
    answer_line replies word.Shrink (name_at trace place) (shrunk_answer answer)
done_text replies trace (item.Destroy place) (done.Destroyed answer) =
    answer_line replies word.Destroy (name_at trace place) (destroyed_answer answer)
done_text replies trace item.Slabinfo (done.Slabinfo rows) = info_text rows
done_text replies trace (item.Tune place setting) (done.Tuned answer) =
    answer_line replies word.Tune (name_at trace place) (tuned_answer answer)
done_text replies trace (item.Client client) (done.Client outcome) =
    client_text replies client outcome
done_text replies trace _ _ = []

-- the lines of the item of this number
abbrev pub text_at : Bool → Trace → ℕ → Done → List ℕ
text_at replies trace number done =
    option_map_or (λ item. done_text replies trace item done) (slice_get trace.items number) []

-- the lines of the items that were done
abbrev pub items_text : Bool → Trace → List Item → List Done → List ℕ
items_text replies trace (item ∷ items) (done ∷ dones) =
    done_text replies trace item done ++ items_text replies trace items dones
items_text replies trace _ _ = []

abbrev pub total_text : Total → List ℕ
total_text total =
    total_line total.given total.freed total.live total.free
    total.aside total.frozen total.slabs total.frames

-- the total line, where the total is there
abbrev pub end_text : Option Total → List ℕ
end_text None = []
end_text (Some total) = total_text total

-- the text of a journal for a trace, with or without the lines that `--replies` asks for
unfoldable pub text_of : Bool → Trace → Journal → List ℕ
text_of replies trace journal =
    items_text replies trace trace.items journal.items ++ end_text journal.total
