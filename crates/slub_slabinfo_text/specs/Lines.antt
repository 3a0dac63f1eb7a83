-- The lines of what items and events are answered.
use Rattle.std.specs.Prelude.{ℕ, Bool, not, ◌||◌, if◌then◌else◌, List, [], ◌++◌, flat_map, Result, Ok, Err}
use Rattle.std.specs.List.{zip}
use Rattle.slub_trace.specs.declared.event.Event.{Event}
use Rattle.slub_trace.specs.declared.event.Round.{Round}
use Rattle.slub_object_layout.specs.declared.layout.LayoutRefusal.TheVariants as refused
use Rattle.slub_common.specs.declared.no_such_cache.NoSuchCache.{NoSuchCache}
use Rattle.slub_trace.specs.declared.destroy.Destroyed.{Destroyed}
use Rattle.slub_trace.specs.declared.destroy.Destroyed.TheVariants as destroyed
use Rattle.slub_trace.specs.declared.destroy.DestroyRefusal.{DestroyRefusal}
use Rattle.slub_trace.specs.declared.destroy.DestroyRefusal.TheVariants as kept
use Rattle.slub_trace.specs.declared.reply.Reply.{Reply}
use Rattle.slub_trace.specs.declared.tune.TuneRefusal.{TuneRefusal}
use Rattle.slub_trace.specs.declared.tune.TuneRefusal.TheVariants as unset
use Rattle.slub_slabinfo_text.specs.declared.text.ItemWord.{ItemWord}
use Rattle.slub_slabinfo_text.specs.declared.text.ItemAnswer.{ItemAnswer}
use Rattle.slub_slabinfo_text.specs.declared.text.ItemAnswer.TheVariants as answer
use Rattle.slub_slabinfo_text.specs.Texts.{damage_line, is_ok_answer, item_line, reply_text}
use Rattle.slub_trace.specs.Kinds.{is_ok_reply}
use Rattle.slub_trace.specs.declared.create.Created.{Created}
use Rattle.slub_trace.specs.declared.create.Created.TheVariants.{New, Merged}
use Rattle.slub_trace.specs.declared.create.CreateRefusal.{CreateRefusal}
use Rattle.slub_trace.specs.declared.create.CreateRefusal.TheVariants as refusal
use Rattle.slub_slabinfo_text.specs.declared.journal.Found.{Found}
use Rattle.slub_slabinfo_text.specs.declared.journal.RoundResult.{RoundResult}

-- what a creation's line says
abbrev pub created_answer : Result Created CreateRefusal → ItemAnswer
created_answer (Ok (New cache)) = answer.Fresh
created_answer (Ok (Merged cache title)) = answer.MergedWith title
created_answer (Err refusal.NameTaken) = answer.NameTaken
created_answer (Err refusal.TooMany) = answer.TooMany
created_answer (Err (refusal.Layout refused.BadSize)) = answer.BadSize
created_answer (Err (refusal.Layout refused.BadAlign)) = answer.BadAlign
created_answer (Err (refusal.Layout refused.BadFlags)) = answer.BadFlags

-- what a shrink's line says
abbrev pub shrunk_answer : Result Bool NoSuchCache → ItemAnswer
shrunk_answer (Ok remain) = if remain then answer.SlabsRemain else answer.NoSlabs
shrunk_answer (Err none) = answer.NoSuchCache

-- what a destruction's line says
abbrev pub destroyed_answer : Result Destroyed DestroyRefusal → ItemAnswer
destroyed_answer (Ok destroyed.NameDropped) = answer.NameDropped
destroyed_answer (Ok destroyed.Gone) = answer.Destroyed
destroyed_answer (Err kept.NoSuchCache) = answer.NoSuchCache
destroyed_answer (Err (kept.Busy objects)) = answer.Busy objects

-- what a tune's line says
abbrev pub tuned_answer : Result (Unit {0}) TuneRefusal → ItemAnswer
tuned_answer (Ok set) = answer.Set
tuned_answer (Err unset.NoSuchCache) = answer.NoSuchCache
tuned_answer (Err unset.Checked) = answer.Checked

-- a line that is always written, or one of those that are written with `--replies` alone
abbrev pub shown : Bool → Bool → List ℕ → List ℕ
shown replies is_ok line = if replies || not is_ok then line else []

-- the line of an item's answer
abbrev pub answer_line : Bool → ItemWord → List ℕ → ItemAnswer → List ℕ
answer_line replies word name answer =
    shown replies (is_ok_answer answer) (item_line word name answer)

-- the line of an event with its reply
abbrev pub event_text : Bool → List (List ℕ) → Event × Reply → List ℕ
event_text replies names answered =
    shown replies (is_ok_reply answered.1) (reply_text names answered.0 answered.1)

-- the line of a damage
abbrev pub found_text : Found → List ℕ
found_text found = damage_line found.title found.report

-- the lines of a round: its events in their order, each with its reply, and what was found damaged
abbrev pub round_text : Bool → List (List ℕ) → Round → RoundResult → List ℕ
round_text replies names round result =
    flat_map (event_text replies names) (zip round.events result.replies)
    ++ flat_map found_text result.damages
