-- What items that were read are, what was done for them, and their text.
use Rattle.std.proofs.Common.{◌≡◌, ℕ, ◌<◌, Bool, List, [], ◌++◌, length, get_or, refl, sym, ◌∙◌, ap, Option, Some, None, Result, slice_get}
use Rattle.std.specs.Prelude.{flat_map}
use Rattle.std.specs.List.{zip}
use Rattle.std.proofs.lemmas.List.{append-nil}
use Rattle.std.proofs.lemmas.Option.{slice_get_read}
use Rattle.std.specs.Option.{option_map_or}
use Rattle.slub_trace.specs.declared.event.Round.{Round}
use Rattle.slub_object_layout.specs.declared.layout.Setting.{Setting}
use Rattle.slub_object_layout.specs.declared.layout.Spec.{Spec}
use Rattle.slub_trace.specs.declared.trace.Client.{Client}
use Rattle.slub_trace.specs.declared.trace.Item.{Item}
use Rattle.slub_trace.specs.declared.trace.Item.TheVariants as item
use Rattle.slub_trace.specs.declared.trace.Trace.{Trace}
use Rattle.slub_common.specs.declared.no_such_cache.NoSuchCache.{NoSuchCache}
use Rattle.slub_trace.specs.declared.destroy.Destroyed.{Destroyed}
use Rattle.slub_trace.specs.declared.destroy.DestroyRefusal.{DestroyRefusal}
use Rattle.slub_trace.specs.declared.tune.TuneRefusal.{TuneRefusal}
use Rattle.slub_slabinfo_text.specs.declared.counts.InfoRow.{InfoRow}
use Rattle.slub_slabinfo_text.specs.declared.text.ItemWord.TheVariants as word
use Rattle.slub_slabinfo_text.specs.Texts.{info_text}
use Rattle.slub_trace.specs.declared.create.Created.{Created}
use Rattle.slub_trace.specs.declared.create.CreateRefusal.{CreateRefusal}
use Rattle.slub_slabinfo_text.specs.declared.journal.RoundResult.{RoundResult}
use Rattle.slub_slabinfo_text.specs.declared.journal.Done.{Done}
use Rattle.slub_slabinfo_text.specs.declared.journal.Done.TheVariants as done
use Rattle.slub_slabinfo_text.specs.declared.client.ClientDone.{ClientDone}
use Rattle.slub_slabinfo_text.specs.ClientText.{client_text}
use Rattle.slub_slabinfo_text.specs.Lawful.{name_at}
use Rattle.slub_slabinfo_text.specs.Lines.{answer_line, created_answer, destroyed_answer, event_text, found_text, shrunk_answer, tuned_answer}
use Rattle.slub_slabinfo_text.specs.Text.{done_text, text_at}
use Rattle.slub_slabinfo_text.specs.Made.{made_before, made_of, replies_at, replies_of}

-- ---- the replies' lines stand first

text_parts : (replies : Bool) (trace : Trace) (it : Item) (dn : Done) → done_text replies trace it dn ≡ replies_of replies trace it dn ++ made_of replies trace it dn
unfolding done_text made_of replies_of
text_parts replies trace (item.Round round) (done.Round result) = refl
text_parts replies trace it dn = refl

found_parts : (replies : Bool) (trace : Trace) (found : Option Item) (dn : Done)
    → option_map_or (λ it. done_text replies trace it dn) found [] ≡ option_map_or (λ it. replies_of replies trace it dn) found [] ++ option_map_or (λ it. made_of replies trace it dn) found []
found_parts replies trace None dn = refl
found_parts replies trace (Some it) dn = text_parts replies trace it dn

pub text_at_parts : (replies : Bool) (trace : Trace) (number : ℕ) (dn : Done) → text_at replies trace number dn ≡ replies_at replies trace number dn ++ made_before replies trace number dn
text_at_parts replies trace number dn = found_parts replies trace (slice_get trace.items number) dn

-- the replies' lines of an item that was read
pub replies_at_is : (replies : Bool) (trace : Trace) (number : ℕ) (it : Item) (dn : Done) → number < length trace.items → it ≡ get_or trace.items number it
    → replies_at replies trace number dn ≡ replies_of replies trace it dn
replies_at_is replies trace number it dn within is =
    ap (λ found. option_map_or (λ it. replies_of replies trace it dn) found []) (slice_get_read trace.items (length trace.items) number it refl within is)

pub round_replies : (replies : Bool) (trace : Trace) (round : Round) (outcome : RoundResult)
    → replies_of replies trace (item.Round round) (done.Round outcome) ≡ flat_map (event_text replies trace.names) (zip round.events outcome.replies)
unfolding replies_of
round_replies replies trace round outcome = refl

-- what is made of an item that was read
pub made_at_is : (replies : Bool) (trace : Trace) (number : ℕ) (it : Item) (dn : Done) → number < length trace.items → it ≡ get_or trace.items number it
    → made_before replies trace number dn ≡ made_of replies trace it dn
made_at_is replies trace number it dn within is =
    ap (λ found. option_map_or (λ it. made_of replies trace it dn) found []) (slice_get_read trace.items (length trace.items) number it refl within is)

-- ---- what is made of a pair of an item and what was done

pub creation_text : (replies : Bool) (trace : Trace) (place : ℕ) (spec : Spec) (answer : Result Created CreateRefusal)
    → made_of replies trace (item.Cache place spec) (done.Created answer) ≡ answer_line replies word.Cache (name_at trace place) (created_answer answer)
unfolding made_of done_text
creation_text replies trace place spec answer = refl

pub damages_text : (replies : Bool) (trace : Trace) (round : Round) (outcome : RoundResult)
    → made_of replies trace (item.Round round) (done.Round outcome) ≡ flat_map found_text outcome.damages
unfolding made_of done_text
damages_text replies trace round outcome = refl

pub shrink_text : (replies : Bool) (trace : Trace) (place : ℕ) (answer : Result Bool NoSuchCache)
    → made_of replies trace (item.Shrink place) (done.Shrunk answer) ≡ answer_line replies word.Shrink (name_at trace place) (shrunk_answer answer)
unfolding made_of done_text
shrink_text replies trace place answer = refl

pub destroy_text : (replies : Bool) (trace : Trace) (place : ℕ) (answer : Result Destroyed DestroyRefusal)
    → made_of replies trace (item.Destroy place) (done.Destroyed answer) ≡ answer_line replies word.Destroy (name_at trace place) (destroyed_answer answer)
unfolding made_of done_text
destroy_text replies trace place answer = refl

pub slabinfo_text : (replies : Bool) (trace : Trace) (rows : List InfoRow) → made_of replies trace item.Slabinfo (done.Slabinfo rows) ≡ info_text rows
unfolding made_of done_text
slabinfo_text replies trace rows = refl

pub tune_text : (replies : Bool) (trace : Trace) (place : ℕ) (setting : Setting) (answer : Result (Unit {0}) TuneRefusal)
    → made_of replies trace (item.Tune place setting) (done.Tuned answer) ≡ answer_line replies word.Tune (name_at trace place) (tuned_answer answer)
unfolding made_of done_text
tune_text replies trace place setting answer = refl

-- an item that is answered by what isn't of its kind has no text
pub no_creation_text : (replies : Bool) (trace : Trace) (place : ℕ) (spec : Spec) (dn : Done) → ((answer : Result Created CreateRefusal) → dn ≡ done.Created answer → ⊥) → made_of replies trace (item.Cache place spec) dn ≡ []
unfolding made_of done_text
no_creation_text replies trace place spec (done.Created answer) isnt = absurd (isnt answer refl)
no_creation_text replies trace place spec _ isnt = refl

pub no_damages_text : (replies : Bool) (trace : Trace) (round : Round) (dn : Done) → ((outcome : RoundResult) → dn ≡ done.Round outcome → ⊥) → made_of replies trace (item.Round round) dn ≡ []
unfolding made_of done_text
no_damages_text replies trace round (done.Round outcome) isnt = absurd (isnt outcome refl)
no_damages_text replies trace round _ isnt = refl

pub no_shrink_text : (replies : Bool) (trace : Trace) (place : ℕ) (dn : Done) → ((answer : Result Bool NoSuchCache) → dn ≡ done.Shrunk answer → ⊥) → made_of replies trace (item.Shrink place) dn ≡ []
unfolding made_of done_text
no_shrink_text replies trace place (done.Shrunk answer) isnt = absurd (isnt answer refl)
no_shrink_text replies trace place _ isnt = refl

pub no_destroy_text : (replies : Bool) (trace : Trace) (place : ℕ) (dn : Done) → ((answer : Result Destroyed DestroyRefusal) → dn ≡ done.Destroyed answer → ⊥) → made_of replies trace (item.Destroy place) dn ≡ []
unfolding made_of done_text
no_destroy_text replies trace place (done.Destroyed answer) isnt = absurd (isnt answer refl)
no_destroy_text replies trace place _ isnt = refl

pub no_slabinfo_text : (replies : Bool) (trace : Trace) (dn : Done) → ((rows : List InfoRow) → dn ≡ done.Slabinfo rows → ⊥) → made_of replies trace item.Slabinfo dn ≡ []
unfolding made_of done_text
no_slabinfo_text replies trace (done.Slabinfo rows) isnt = absurd (isnt rows refl)
no_slabinfo_text replies trace _ isnt = refl

pub no_tune_text : (replies : Bool) (trace : Trace) (place : ℕ) (setting : Setting) (dn : Done) → ((answer : Result (Unit {0}) TuneRefusal) → dn ≡ done.Tuned answer → ⊥) → made_of replies trace (item.Tune place setting) dn ≡ []
unfolding made_of done_text
no_tune_text replies trace place setting (done.Tuned answer) isnt = absurd (isnt answer refl)
no_tune_text replies trace place setting _ isnt = refl

pub client_lines : (replies : Bool) (trace : Trace) (client : Client) (outcome : ClientDone) → made_of replies trace (item.Client client) (done.Client outcome) ≡ client_text replies client outcome
unfolding made_of done_text
client_lines replies trace client outcome = refl

pub no_client_text : (replies : Bool) (trace : Trace) (client : Client) (dn : Done) → ((outcome : ClientDone) → dn ≡ done.Client outcome → ⊥) → made_of replies trace (item.Client client) dn ≡ []
unfolding made_of done_text
no_client_text replies trace client (done.Client outcome) isnt = absurd (isnt outcome refl)
no_client_text replies trace client _ isnt = refl

-- no line is put behind a text
pub put_nothing : (old lines : List ℕ) → lines ≡ [] → old ≡ old ++ lines
put_nothing old lines none = sym (ap (λ rest. old ++ rest) none ∙ append-nil old)

-- an item without replies has no lines of them
pub no_round_replies : (replies : Bool) (trace : Trace) (round : Round) (dn : Done) → ((outcome : RoundResult) → dn ≡ done.Round outcome → ⊥) → replies_of replies trace (item.Round round) dn ≡ []
unfolding replies_of
no_round_replies replies trace round (done.Round outcome) isnt = absurd (isnt outcome refl)
no_round_replies replies trace round _ isnt = refl

pub no_plain_replies : (replies : Bool) (trace : Trace) (it : Item) (dn : Done) → ((round : Round) → it ≡ item.Round round → ⊥) → replies_of replies trace it dn ≡ []
unfolding replies_of
no_plain_replies replies trace (item.Round round) dn isnt = absurd (isnt round refl)
no_plain_replies replies trace _ dn isnt = refl
