-- Every text ends with a line feed, or is empty.
use Rattle.std.proofs.Common.{◌≡◌, ℕ, ◌++◌, Bool, true, false, List, [], ◌∷◌, refl, inl, inr, flat_map, Option, Some, None, slice_get, Result, Ok, Err}
use Rattle.std.specs.Prelude.{codes}
use Rattle.std.specs.List.{zip}
use Rattle.std.specs.Fmt.{decimal}
use Rattle.std.specs.Option.{option_map_or}
use Rattle.slub_object_layout.specs.declared.layout.Layout.{Layout}
use Rattle.slub_object_layout.specs.declared.layout.LayoutRefusal.{LayoutRefusal}
use Rattle.slub_object_layout.specs.declared.layout.LayoutRefusal.TheVariants as refusal
use Rattle.slub_trace.specs.declared.damage.Report.{Report}
use Rattle.slub_trace.specs.declared.event.Event.{Event}
use Rattle.slub_trace.specs.declared.reply.Reply.{Reply}
use Rattle.slub_trace.specs.declared.create.Created.{Created}
use Rattle.slub_trace.specs.declared.create.CreateRefusal.{CreateRefusal}
use Rattle.slub_trace.specs.declared.trace.Client.{Client as Asked}
use Rattle.slub_trace.specs.declared.trace.Item.{Item}
use Rattle.slub_trace.specs.declared.trace.Item.TheVariants as item
use Rattle.slub_trace.specs.declared.trace.Trace.{Trace}
use Rattle.slub_trace.specs.Classes.{class_names}
use Rattle.slub_trace.specs.Kinds.{is_ok_reply}
use Rattle.slub_slabinfo_text.specs.declared.counts.Counts.{Counts}
use Rattle.slub_slabinfo_text.specs.declared.counts.InfoRow.{InfoRow}
use Rattle.slub_slabinfo_text.specs.declared.text.ItemWord.{ItemWord}
use Rattle.slub_slabinfo_text.specs.declared.text.ItemWord.TheVariants as word
use Rattle.slub_slabinfo_text.specs.declared.text.ItemAnswer.{ItemAnswer}
use Rattle.slub_slabinfo_text.specs.declared.client.ClientAnswer.{ClientAnswer}
use Rattle.slub_slabinfo_text.specs.declared.client.ClientAnswer.TheVariants as answer
use Rattle.slub_slabinfo_text.specs.declared.client.ClientDone.{ClientDone}
use Rattle.slub_slabinfo_text.specs.declared.client.ClientRound.{ClientRound}
use Rattle.slub_slabinfo_text.specs.declared.journal.Done.{Done}
use Rattle.slub_slabinfo_text.specs.declared.journal.Done.TheVariants as done
use Rattle.slub_slabinfo_text.specs.declared.journal.Found.{Found}
use Rattle.slub_slabinfo_text.specs.declared.journal.Total.{Total}
use Rattle.slub_slabinfo_text.specs.ClientText.{answer_words, answered_text, client_line, client_text, client_words, creation_text, is_ok_client}
use Rattle.slub_slabinfo_text.specs.Lawful.{name_at}
use Rattle.slub_slabinfo_text.specs.Lines.{answer_line, created_answer, destroyed_answer, event_text, found_text, shown, shrunk_answer, tuned_answer}
use Rattle.slub_slabinfo_text.specs.Made.{made_before, made_of}
use Rattle.slub_slabinfo_text.specs.Text.{done_text, end_text, total_text}
use Rattle.slub_slabinfo_text.specs.Texts.{act_words, answer_text, column, damage_line, damage_words, header_text, info_text, is_ok_answer, item_line, layout_lines, left, number_line, reply_answer, reply_text, row_numbers, row_objects, row_slabs, row_text, slab_lines, slot_lines, total_line, word_text}
use Rattle.slub_slabinfo_text.proofs.Given.{AreLines, EndsLine, ends-after, ends-behind, feed, lines-both, lines-flat}

-- ---- lines

pub damage-ends : (title : List ℕ) (report : Report) → EndsLine (damage_line title report)
damage-ends title report = (codes "damage " ++ title ++ 32 ∷ decimal report.address ++ codes ": " ++ damage_words report.damage, refl)

pub reply-ends : (names : List (List ℕ)) (event : Event) (reply : Reply) → EndsLine (reply_text names event reply)
reply-ends names event reply = (_, refl)

pub item-ends : (word : ItemWord) (name : List ℕ) (answer : ItemAnswer) → EndsLine (item_line word name answer)
item-ends word name answer = (_, refl)

pub client-ends : (client : Asked) (answered : ClientAnswer) → EndsLine (client_line client answered)
client-ends client answered = (_, refl)

pub total-ends : (total : Total) → EndsLine (total_text total)
total-ends total = (
  codes "total given " ++ decimal total.given ++ codes " freed " ++ decimal total.freed ++ codes " live " ++ decimal total.live ++ codes " free " ++ decimal total.free ++ codes " aside " ++ decimal total.aside ++ codes " frozen " ++ decimal total.frozen ++ codes " slabs " ++ decimal total.slabs ++ codes " frames " ++ decimal total.frames,
  refl,
)

-- ---- slabinfo

header-ends : EndsLine header_text
header-ends = (
  codes "slabinfo - version: 2.1" ++ 10 ∷ codes "# name            <active_objs> <num_objs> " ++ codes "<objsize> <objperslab> <pagesperslab> : tunables <limit> <batchcount> " ++ codes "<sharedfactor> : slabdata <active_slabs> <num_slabs> <sharedavail>",
  refl,
)

slabs-end : (slabs : ℕ) → EndsLine (row_slabs slabs)
slabs-end slabs = (column 6 slabs ++ column 6 slabs ++ column 6 0, refl)

row-ends : (row : InfoRow) → EndsLine (row_text row)
row-ends row = ends-behind (left 17 row.title) (row_numbers row.counts) (ends-behind (row_objects row.counts ++ codes " : tunables" ++ column 4 0 ++ column 4 0 ++ column 4 0 ++ codes " : slabdata") (row_slabs row.counts.num_slabs) (slabs-end row.counts.num_slabs))

info-lines : (rows : List InfoRow) → AreLines (info_text rows)
info-lines rows = lines-both header_text (flat_map row_text rows) (inr header-ends) (lines-flat row_text rows (λ row. inr (row-ends row)))

-- ---- a layout

number-ends : (name : List ℕ) (n : ℕ) → EndsLine (number_line name n)
number-ends name n = (_, refl)

slab-lines-end : (layout : Layout) → EndsLine (slab_lines layout)
slab-lines-end layout =
    ends-behind (number_line (codes "order") layout.order ++ number_line (codes "objects") layout.objects ++ number_line (codes "min_order") layout.min_order ++ number_line (codes "min_objects") layout.min_objects_slab ++ number_line (codes "min_partial") layout.min_partial)
    (number_line (codes "cpu_partial_slabs") layout.cpu_partial_slabs) (number-ends (codes "cpu_partial_slabs") layout.cpu_partial_slabs)

pub layout-ends : (answer : Result Layout LayoutRefusal) → EndsLine (layout_lines answer)
unfolding layout_lines
layout-ends (Ok layout) = ends-behind (slot_lines layout) (slab_lines layout) (slab-lines-end layout)
layout-ends (Err refusal.BadSize) = (codes "layout: bad size", refl)
layout-ends (Err refusal.BadAlign) = (codes "layout: bad alignment", refl)
layout-ends (Err refusal.BadFlags) = (codes "layout: bad flags", refl)

-- ---- what items, events and clients are answered

shown-lines : (replies is_ok : Bool) (line : List ℕ) → EndsLine line → AreLines (shown replies is_ok line)
shown-lines true true line ends = inr ends
shown-lines true false line ends = inr ends
shown-lines false true line ends = inl refl
shown-lines false false line ends = inr ends

pub event-lines : (replies : Bool) (names : List (List ℕ)) (event : Event) (reply : Reply) → AreLines (event_text replies names (event, reply))
event-lines replies names event reply = shown-lines replies (is_ok_reply reply) (reply_text names event reply) (reply-ends names event reply)

answer-lines : (replies : Bool) (word : ItemWord) (name : List ℕ) (answer : ItemAnswer) → AreLines (answer_line replies word name answer)
answer-lines replies word name answer = shown-lines replies (is_ok_answer answer) (item_line word name answer) (item-ends word name answer)

found-lines : (damages : List Found) → AreLines (flat_map found_text damages)
found-lines damages = lines-flat found_text damages (λ found. inr (damage-ends found.title found.report))

answered-lines : (replies : Bool) (client : Asked) (answered : ClientAnswer) → AreLines (answered_text replies client answered)
answered-lines replies client (answer.Created answers) =
    lines-flat (creation_text replies) (zip class_names answers) (λ made. answer-lines replies word.Cache made.0 (created_answer made.1))
answered-lines replies client answered = shown-lines replies (is_ok_client client answered) (client_line client answered) (client-ends client answered)

client-lines : (replies : Bool) (client : Asked) (outcome : ClientDone) → AreLines (client_text replies client outcome)
client-lines replies client outcome =
    lines-both (answered_text replies client outcome.answer) (flat_map (λ (round : ClientRound). flat_map found_text round.result.damages) outcome.rounds)
    (answered-lines replies client outcome.answer) (lines-flat (λ (round : ClientRound). flat_map found_text round.result.damages) outcome.rounds (λ round. found-lines round.result.damages))

made-lines : (replies : Bool) (trace : Trace) (it : Item) (dn : Done) → AreLines (made_of replies trace it dn)
unfolding made_of done_text
made-lines replies trace (item.Cache place spec) (done.Created answer) = answer-lines replies word.Cache (name_at trace place) (created_answer answer)
made-lines replies trace (item.Round round) (done.Round result) = found-lines result.damages
made-lines replies trace (item.Shrink place) (done.Shrunk answer) = answer-lines replies word.Shrink (name_at trace place) (shrunk_answer answer)
made-lines replies trace (item.Destroy place) (done.Destroyed answer) = answer-lines replies word.Destroy (name_at trace place) (destroyed_answer answer)
made-lines replies trace item.Slabinfo (done.Slabinfo rows) = info-lines rows
made-lines replies trace (item.Tune place setting) (done.Tuned answer) = answer-lines replies word.Tune (name_at trace place) (tuned_answer answer)
made-lines replies trace (item.Client client) (done.Client outcome) = client-lines replies client outcome
made-lines replies trace it dn = inl refl

found-made : (replies : Bool) (trace : Trace) (found : Option Item) (dn : Done) → AreLines (option_map_or (λ it. made_of replies trace it dn) found [])
found-made replies trace None dn = inl refl
found-made replies trace (Some it) dn = made-lines replies trace it dn

-- what is made of an item's text before
pub made-before-lines : (replies : Bool) (trace : Trace) (number : ℕ) (dn : Done) → AreLines (made_before replies trace number dn)
made-before-lines replies trace number dn = found-made replies trace (slice_get trace.items number) dn
