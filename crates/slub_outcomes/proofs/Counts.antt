-- The replies of one item that count.
use Rattle.std.proofs.Common.{◌≡◌, ◌<◌, ◌≤◌, ◌++◌, get_or, false, true, List, length, nat_le, ℕ, refl, sym, Some}
use Rattle.std.specs.Prelude.{slice_get}
use Rattle.std.proofs.lemmas.Bool.{le-leb, lt-leb}
use Rattle.std.proofs.lemmas.List.{append-nil}
use Rattle.std.proofs.lemmas.Option.{slice_get_read}
use Rattle.slub_trace.specs.declared.trace.Item.{Item}
use Rattle.slub_trace.specs.declared.trace.Trace.{Trace}
use Rattle.slub_slabinfo_text.specs.declared.journal.Done.{Done}
use Rattle.slub_outcomes.specs.declared.span.Span.{Span}
use Rattle.slub_outcomes.specs.Replies.{counted_text, several_text}

-- none before the first that counts
pub counted-before : (span : Span) (trace : Trace) (number : ℕ) (answer : Done) (text : List ℕ) → number < span.first → text ≡ text ++ counted_text span trace number answer
counted-before span trace number answer text before = let no : nat_le span.first number ≡ false = lt-leb span.first number before in rw no (sym (append-nil text))

-- from there on those of the item
pub counted-after : (span : Span) (trace : Trace) (number : ℕ) (item : Item) (answer : Done) → span.first ≤ number → number < length trace.items → item ≡ get_or trace.items number item → several_text trace.names item answer ≡ counted_text span trace number answer
counted-after span trace number item answer after within at =
    let yes : nat_le span.first number ≡ true = le-leb span.first number after in
    let there : slice_get trace.items number ≡ Some item = slice_get_read trace.items (length trace.items) number item refl within at in
    rw (yes, there) refl
