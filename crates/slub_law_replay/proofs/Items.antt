-- Lines and items have one outcome, and so have journals and their texts.
use Rattle.std.proofs.Common.{◌≡◌, ℕ, zero, suc, ◌+◌, List, [], ◌∷◌, length, take, Option, Some, None, is_some, All, refl, sym, ap, ◌∙◌, subst, inl, inr}
use Rattle.std.specs.Prelude.{MatchOption, ⊤}
use Rattle.std.specs.Option.{option_map}
use Rattle.std.proofs.lemmas.Bool.{false≢true}
use Rattle.std.proofs.lemmas.List.Elements.{All-cons, All-head, All-nil, All-tail}
use Rattle.slub_trace.specs.declared.event.Round.{Round}
use Rattle.slub_lists.specs.State.{State}
use Rattle.slub_trace.specs.declared.trace.Client.{Client as Asked}
use Rattle.slub_trace.specs.declared.trace.Client.TheVariants as line
use Rattle.slub_trace.specs.declared.trace.Item.{Item}
use Rattle.slub_trace.specs.declared.trace.Item.TheVariants as item
use Rattle.slub_trace.specs.declared.trace.Trace.{Trace}
use Rattle.slub_slabinfo_text.specs.declared.client.ClientDone.{ClientDone}
use Rattle.slub_slabinfo_text.specs.declared.journal.Done.{Done}
use Rattle.slub_slabinfo_text.specs.declared.journal.Done.TheVariants as done
use Rattle.slub_slabinfo_text.specs.declared.journal.Journal.{Journal}
use Rattle.slub_slabinfo_text.specs.declared.journal.RoundResult.{RoundResult}
use Rattle.slub_slabinfo_text.specs.declared.journal.Total.{Total}
use Rattle.slub_slabinfo_text.specs.Lawful.{DoesPlain, IsTotal}
use Rattle.slub_slabinfo_text.specs.Text.{text_of}
use Rattle.slub_open_close.specs.Growth.{ids_after}
use Rattle.slub_law_alone.specs.Items.{IsToldWhole}
use Rattle.slub_law_alone.proofs.Items.{plain_items_one}
use Rattle.slub_rounds.specs.Heap.{HeapState}
use Rattle.slub_rounds.specs.BulkLines.{ServesBulkLines}
use Rattle.slub_rounds.specs.Kmalloc.{ServesClasses}
use Rattle.slub_rounds.specs.Reserves.{Reserve, ServesReserves}
use Rattle.slub_law_replay.specs.declared.way.Way.{Way}
use Rattle.slub_law_replay.specs.Runs.{Does, KeepsReserves, KeepsRounds, MachineState, RunsItems, Serves, heap_of, machine_of}
use Rattle.slub_law_replay.specs.Ways.{DoesRoundBy}
use Rattle.slub_law_replay.specs.Journals.{JournalsAreOne, TextsAreOne}
use Rattle.slub_law_replay.specs.Lines.{LinesHaveOneOutcome}
use Rattle.slub_law_replay.specs.OneTextRounds.{IsFixed}
use Rattle.slub_law_replay.proofs.BulkLines.{bulk-lines-one}
use Rattle.slub_law_replay.proofs.Kmalloc.{classes-one}
use Rattle.slub_law_replay.proofs.Reserves.{reserves-one}
use Rattle.slub_law_replay.proofs.OneTextRounds.{ways-one}

-- ---- lines

-- a line is of one request
classes-or-bulk : (h g : HeapState) (trace : Trace) (client : Asked) (one other : ClientDone) (left right : HeapState) → ServesClasses h trace client one left → ServesBulkLines g client other right → ⊥
classes-or-bulk h g trace line.Kmalloc one other left right does again = again
classes-or-bulk h g trace (line.Kget cpu size object) one other left right does again = again
classes-or-bulk h g trace (line.Krealloc cpu object size fresh) one other left right does again = again
classes-or-bulk h g trace _ one other left right does again = does

classes-or-reserves : (h g : HeapState) (trace : Trace) (reserves left-over : List Reserve) (client : Asked) (one other : ClientDone) (left right : HeapState) → ServesClasses h trace client one left → ServesReserves g reserves client other right left-over → ⊥
classes-or-reserves h g trace reserves left-over line.Kmalloc one other left right does again = again
classes-or-reserves h g trace reserves left-over (line.Kget cpu size object) one other left right does again = again
classes-or-reserves h g trace reserves left-over (line.Krealloc cpu object size fresh) one other left right does again = again
classes-or-reserves h g trace reserves left-over _ one other left right does again = does

bulk-or-reserves : (h g : HeapState) (reserves left-over : List Reserve) (client : Asked) (one other : ClientDone) (left right : HeapState) → ServesBulkLines h client one left → ServesReserves g reserves client other right left-over → ⊥
bulk-or-reserves h g reserves left-over (line.Bulk cpu place first count) one other left right does again = again
bulk-or-reserves h g reserves left-over (line.Bulkfree cpu first count) one other left right does again = again
bulk-or-reserves h g reserves left-over _ one other left right does again = does

pub lines-one : LinesHaveOneOutcome
lines-one m trace client one other left right (inl does) (inl again) =
    let same = classes-one (heap_of m) trace client one other (heap_of left) (heap_of right) does.0 again.0 in
    record { done = same.0; heap = same.1; reserves = does.1 ∙ sym again.1 }
lines-one m trace client one other left right (inl does) (inr (inl again)) = absurd (classes-or-bulk (heap_of m) (heap_of m) trace client one other (heap_of left) (heap_of right) does.0 again.0)
lines-one m trace client one other left right (inl does) (inr (inr again)) = absurd (classes-or-reserves (heap_of m) (heap_of m) trace m.reserves right.reserves client one other (heap_of left) (heap_of right) does.0 again.0)
lines-one m trace client one other left right (inr (inl does)) (inl again) = absurd (classes-or-bulk (heap_of m) (heap_of m) trace client other one (heap_of right) (heap_of left) again.0 does.0)
lines-one m trace client one other left right (inr (inl does)) (inr (inl again)) =
    let same = bulk-lines-one (heap_of m) client one other (heap_of left) (heap_of right) does.0 again.0 in
    record { done = same.0; heap = same.1; reserves = does.1 ∙ sym again.1 }
lines-one m trace client one other left right (inr (inl does)) (inr (inr again)) = absurd (bulk-or-reserves (heap_of m) (heap_of m) m.reserves right.reserves client one other (heap_of left) (heap_of right) does.0 again.0)
lines-one m trace client one other left right (inr (inr does)) (inl again) = absurd (classes-or-reserves (heap_of m) (heap_of m) trace m.reserves left.reserves client other one (heap_of right) (heap_of left) again.0 does.0)
lines-one m trace client one other left right (inr (inr does)) (inr (inl again)) = absurd (bulk-or-reserves (heap_of m) (heap_of m) m.reserves left.reserves client other one (heap_of right) (heap_of left) again.0 does.0)
lines-one m trace client one other left right (inr (inr does)) (inr (inr again)) =
    let same = reserves-one (heap_of m) m.reserves client one other (heap_of left) (heap_of right) left.reserves right.reserves does.0 again.0 in
    record { done = same.0; heap = same.1; reserves = same.2 }

-- ---- one item

-- the answer is of the item's kind
round-by : (way : Way) (m : MachineState) (trace : Trace) (round : Round) (d : Done) (after : MachineState) → Does way m trace (item.Round round) d after
    → (result : RoundResult) × (d ≡ done.Round result) × DoesRoundBy way m.rounds m.lists m.ids round result after.lists after.ids × KeepsReserves m after × (after.rounds ≡ m.rounds + 1)
unfolding Does DoesPlain
round-by way m trace round (done.Round result) after does = (result, refl, does.0, does.1, does.2)
round-by way m trace round _ after does = absurd does.0

client-by : (way : Way) (m : MachineState) (trace : Trace) (client : Asked) (d : Done) (after : MachineState) → Does way m trace (item.Client client) d after
    → (outcome : ClientDone) × (d ≡ done.Client outcome) × Serves m trace client outcome after × KeepsRounds m after
unfolding Does DoesPlain
client-by way m trace client (done.Client outcome) after does = (outcome, refl, does.0, does.1)
client-by way m trace client _ after does = absurd does.0

-- an item that is neither a round nor a client's line is done the same by every way
abbrev IsPlainly : Item → Type 0
IsPlainly (item.Round round) = ⊥
IsPlainly (item.Client client) = ⊥
IsPlainly _ = ⊤

plain-by : (way : Way) (m : MachineState) (trace : Trace) (what : Item) (d : Done) (after : MachineState) → IsPlainly what → Does way m trace what d after
    → DoesPlain m.lists trace what d after.lists × (after.ids ≡ option_map (ids_after trace m.lists what d) m.ids) × KeepsReserves m after × KeepsRounds m after
unfolding Does
plain-by way m trace (item.Round round) d after plain does = absurd plain
plain-by way m trace (item.Client client) d after plain does = absurd plain
plain-by way m trace (item.Cache place spec) d after plain does = does
plain-by way m trace (item.Shrink place) d after plain does = does
plain-by way m trace (item.Destroy place) d after plain does = does
plain-by way m trace item.Slabinfo d after plain does = does
plain-by way m trace (item.Tune place setting) d after plain does = does

same-machine : (a b : MachineState) → a.lists ≡ b.lists → a.ids ≡ b.ids → a.reserves ≡ b.reserves → a.rounds ≡ b.rounds → a ≡ b
same-machine a b lists ids reserves rounds = λ i. record { lists = lists i; ids = ids i; reserves = reserves i; rounds = rounds i }

module _ (way : Way) (m : MachineState) (trace : Trace) (one other : Done) (left right : MachineState) (whole : IsToldWhole one) (also : IsToldWhole other) where
  round-one : (round : Round) → IsFixed way (item.Round round) → Does way m trace (item.Round round) one left → Does way m trace (item.Round round) other right → (one ≡ other) × (left ≡ right)
  round-one round fixed does again =
      let x = round-by way m trace round one left does in
      let y = round-by way m trace round other right again in
      let same = ways-one way m.rounds m.lists m.ids round fixed x.0 y.0 left.lists right.lists left.ids right.ids (subst IsToldWhole x.1 whole) (subst IsToldWhole y.1 also) x.2 y.2 in (
        x.1 ∙ ap (λ (result : RoundResult). done.Round result) same.result ∙ sym y.1,
        same-machine left right same.machine same.ids (x.3 ∙ sym y.3) (x.4 ∙ sym y.4),
      )

  client-one : (client : Asked) → Does way m trace (item.Client client) one left → Does way m trace (item.Client client) other right → (one ≡ other) × (left ≡ right)
  client-one client does again =
      let x = client-by way m trace client one left does in
      let y = client-by way m trace client other right again in
      let same = lines-one m trace client x.0 y.0 left right x.2 y.2 in (
        x.1 ∙ ap (λ (outcome : ClientDone). done.Client outcome) same.done ∙ sym y.1,
        same-machine left right (ap (λ (h : HeapState). h.lists) same.heap) (ap (λ (h : HeapState). h.ids) same.heap) same.reserves (x.3 ∙ sym y.3),
      )

  plain-one : (what : Item) → IsPlainly what → Does way m trace what one left → Does way m trace what other right → (one ≡ other) × (left ≡ right)
  plain-one what plain does again =
      let x = plain-by way m trace what one left plain does in
      let y = plain-by way m trace what other right plain again in
      let same = plain_items_one m.lists trace what one other left.lists right.lists x.0 y.0 in
      (same.0, same-machine left right same.1 (x.1 ∙ ap (λ (d : Done). option_map (ids_after trace m.lists what d) m.ids) same.0 ∙ sym y.1) (x.2 ∙ sym y.2) (x.3 ∙ sym y.3))

  item-one : (what : Item) → IsFixed way what → Does way m trace what one left → Does way m trace what other right → (one ≡ other) × (left ≡ right)
  item-one (item.Round round) fixed does again = round-one round fixed does again
  item-one (item.Client client) fixed does again = client-one client does again
  item-one (item.Cache place spec) fixed does again = plain-one (item.Cache place spec) tt does again
  item-one (item.Shrink place) fixed does again = plain-one (item.Shrink place) tt does again
  item-one (item.Destroy place) fixed does again = plain-one (item.Destroy place) tt does again
  item-one item.Slabinfo fixed does again = plain-one item.Slabinfo tt does again
  item-one (item.Tune place setting) fixed does again = plain-one (item.Tune place setting) tt does again

-- ---- one after the other

items-one : (way : Way) (m : MachineState) (trace : Trace) (items : List Item) (ones others : List Done) (left right : MachineState) → All (IsFixed way) items → All IsToldWhole ones → All IsToldWhole others
    → RunsItems way m trace items ones left → RunsItems way m trace items others right → (ones ≡ others) × (left ≡ right)
items-one way m trace [] [] [] left right fixed whole also does again = (refl, does ∙ sym again)
items-one way m trace [] [] (other ∷ others) left right fixed whole also does again = absurd again
items-one way m trace [] (one ∷ ones) others left right fixed whole also does again = absurd does
items-one way m trace (what ∷ items) [] others left right fixed whole also does again = absurd does
items-one way m trace (what ∷ items) (one ∷ ones) [] left right fixed whole also does again = absurd again
items-one way m trace (what ∷ items) (one ∷ ones) (other ∷ others) left right fixed whole also does again =
    let first = item-one way m trace one other does.0 again.0 (All-head IsToldWhole one ones whole) (All-head IsToldWhole other others also) what (All-head (IsFixed way) what items fixed) does.1 again.1 in
    let rest = items-one way again.0 trace items ones others left right (All-tail (IsFixed way) what items fixed) (All-tail IsToldWhole one ones whole) (All-tail IsToldWhole other others also)
    (subst (λ (mid : MachineState). RunsItems way mid trace items ones left) first.1 does.3) again.3 in
    ((λ i. first.0 i ∷ rest.0 i), rest.1)

-- ---- totals

same-total : (s : State) (dones : List Done) (one other : Total) → IsTotal s dones one → IsTotal s dones other → one ≡ other
same-total s dones one other x y = λ i. record {
  given = (x.given ∙ sym y.given) i;
  freed = (x.freed ∙ sym y.freed) i;
  live = (x.live ∙ sym y.live) i;
  free = (x.free ∙ sym y.free) i;
  aside = (x.aside ∙ sym y.aside) i;
  frozen = (x.frozen ∙ sym y.frozen) i;
  slabs = (x.slabs ∙ sym y.slabs) i;
  frames = (x.frames ∙ sym y.frames) i;
}

-- a total, where there is one, is of the machine that is left
abbrev Totals : State → List Done → ℕ → Option Total → Type 0
Totals s dones items total = MatchOption total ⊤ (λ total. IsTotal s dones total × (length dones ≡ items))

same-totals : (s : State) (dones : List Done) (items : ℕ) (one other : Option Total) → is_some one ≡ is_some other → Totals s dones items one → Totals s dones items other → one ≡ other
same-totals s dones items None None both x y = refl
same-totals s dones items None (Some other) both x y = absurd (false≢true both)
same-totals s dones items (Some one) None both x y = absurd (false≢true (sym both))
same-totals s dones items (Some one) (Some other) both x y = ap (λ (total : Total). Some total) (same-total s dones one other x.0 y.0)

-- ---- journals

same-journal : (one other : Journal) → one.frames ≡ other.frames → one.cpus ≡ other.cpus → one.tid ≡ other.tid → one.items ≡ other.items → one.total ≡ other.total → one ≡ other
same-journal one other frames cpus tid items total = λ i. record { frames = frames i; cpus = cpus i; tid = tid i; items = items i; total = total i }

All-taken : (P : Item → Type 0) (n : ℕ) (items : List Item) → All P items → All P (take n items)
All-taken P n items all = first-all n items all
  where
    first-all : (n : ℕ) (items : List Item) → All P items → All P (take n items)
    first-all zero items all = All-nil P
    first-all (suc n) [] all = All-nil P
    first-all (suc n) (what ∷ items) all = All-cons P what (take n items) (All-head P what items all) (first-all n items (All-tail P what items all))

pub journals-one : JournalsAreOne
journals-one way trace one other fixed law again tell =
    let run : RunsItems way (machine_of trace) trace (take (length other.items) trace.items) one.items law.machine =
    subst (λ n. RunsItems way (machine_of trace) trace (take n trace.items) one.items law.machine) tell.items law.run in
    let same = items-one way (machine_of trace) trace (take (length other.items) trace.items) one.items other.items law.machine again.machine
    (All-taken (IsFixed way) (length other.items) trace.items fixed) tell.whole tell.also run again.run in
    let total : Totals again.machine.lists other.items (length trace.items) one.total =
    subst (λ (m : MachineState). Totals m.lists other.items (length trace.items) one.total) same.1 (subst (λ (dones : List Done). Totals law.machine.lists dones (length trace.items) one.total) same.0 law.total) in
    same-journal one other (law.frames ∙ sym again.frames) (law.cpus ∙ sym again.cpus) (law.tid ∙ sym again.tid) same.0
    (same-totals again.machine.lists other.items (length trace.items) one.total other.total tell.total total again.total)

pub journal-texts-one : TextsAreOne
journal-texts-one replies way trace one other fixed law again tell = ap (text_of replies trace) (journals-one way trace one other fixed law again tell)
