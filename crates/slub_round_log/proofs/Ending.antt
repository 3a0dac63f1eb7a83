-- What a log has written of lines that were put behind others.
use Rattle.std.proofs.Common.{◌≡◌, ◌≢◌, ℕ, Bool, if◌then◌else◌, List, [], ◌++◌, Option, Some, None, IfSome, Result, Ok, Err, OnOk, IfErr, ap, sym, subst, refl, ◌∙◌}
use Rattle.slub_core.specs.Facts.{Facts}
use Rattle.slub_core.specs.Local.{Local}
use Rattle.slub_core.specs.World.{LockValue}
use Rattle.slub_turns.specs.Happenings.{Rests}
use Rattle.slub_picks.specs.declared.made.Made.{Made}
use Rattle.slub_picks.specs.Made.{IsMade}
use Rattle.slub_round_log.specs.declared.choice.Choice.{Choice}
use Rattle.slub_round_log.specs.declared.kept.Fault.{Fault}
use Rattle.slub_round_log.specs.declared.kept.Fault.TheVariants.{NoMemory}
use Rattle.slub_round_log.specs.declared.kept.Kept.{Kept}
use Rattle.slub_round_log.specs.Choices.{Goes}
use Rattle.slub_round_log.specs.Told.{lines_of}
use Rattle.slub_round_log.specs.Log.{Begun, EndsTurns, FailsBy, IsAlike, IsNoted, IsPut, AreLinesWritten, Notes, SinkState, Takes, Writes, ended_by, first_lines, shown}

shown_alike : (k mid : Kept) (text lines : List ℕ) → mid.is_shown ≡ k.is_shown → lines ≡ text → shown mid lines ≡ shown k text
shown_alike k mid text lines alike is =
    ap (λ (b : Bool). if b then lines else []) alike ∙ ap (λ (t : List ℕ). if k.is_shown then t else []) is

-- what was written of lines that stand for a text is written of the text
text_written : (k mid last : Kept) (choice : Choice) (text : List ℕ) (old new : SinkState) → IsAlike k mid → mid.lines.items ≡ text → mid.context ≡ k.context
    → ((turns : List ℕ) → IsMade k.made turns → IsMade mid.made turns) → mid.waits ≡ k.waits
    → Writes mid mid.lines.items last old new → Writes k text (record last { choice = choice }) old new
text_written k mid last choice text old new alike lines context made waits writes =
    let is : shown mid mid.lines.items ≡ shown k text = shown_alike k mid text mid.lines.items alike.is_shown lines in
    let T : List ℕ → Type 0 = λ t. Takes old new t in
    let F : List ℕ → Type 0 = λ t. IfSome last.fault (λ fault. FailsBy fault t old new) in
    record {
      alike = record { labels = writes.alike.labels ∙ alike.labels; is_shown = writes.alike.is_shown ∙ alike.is_shown };
      written = λ (fine : last.fault ≡ None). let w : AreLinesWritten mid mid.lines.items last old new = writes.written fine in record {
        lines = w.lines;
        taken = subst T is w.taken;
        context = w.context ∙ context;
        made = λ turns h. w.made turns (made turns h);
        waits = w.waits ∙ waits;
      };
      failed = subst F is writes.failed;
    }

pub turn_ends : (m : Facts) (k mid last : Kept) (value : ℕ → LockValue) (before : ℕ) (l : Local) (choice : Choice) (old new : SinkState)
    → Notes m k (Rests value before l) mid → mid.fault ≡ None → Writes mid mid.lines.items last old new
    → last.choice ≡ mid.choice → Goes last.choice (ended_by l mid.waits) choice
    → EndsTurns m k value before l (record last { choice = choice }) old new
turn_ends m k mid last value before l choice old new notes fine writes same goes =
    let text : List ℕ = k.lines.items ++ lines_of k.labels m k.context (Rests value before l) in
    record {
      over = λ (h : k.fault ≢ None). absurd (h (ap (λ (x : Kept). x.fault) (sym (notes.over h)) ∙ fine));
      writes = λ (was : k.fault ≡ None). let n : IsNoted m k (Rests value before l) mid = notes.noted was fine in
          text_written k mid last choice text old new notes.alike n.lines n.context n.made n.waits writes;
      choice = λ (was : k.fault ≡ None) (now : last.fault ≡ None). let n : IsNoted m k (Rests value before l) mid = notes.noted was fine in
          let P : Choice → Type 0 = λ x. Goes x (ended_by l mid.waits) choice in
          let Q : Bool → Type 0 = λ b. Goes k.choice (ended_by l b) choice in
          subst Q n.waits (subst P (same ∙ n.choice) goes);
    }

put_alike : (k mid : Kept) (text : List ℕ) → IsPut k text mid → IsAlike k mid
put_alike k mid text put = record { labels = ap (λ (x : Kept). x.labels) put.rest; is_shown = ap (λ (x : Kept). x.is_shown) put.rest }

pub round_begins : (k mid last : Kept) (locals : List Local) (old new : SinkState) → IsPut k (first_lines k.labels locals) mid → k.fault ≡ None → mid.fault ≡ None
    → Writes mid mid.lines.items last old new → last.choice ≡ mid.choice → Begun k locals last old new
round_begins k mid last locals old new put was fine writes same =
    record {
      over = λ (h : k.fault ≢ None). absurd (h was);
      writes = λ _. text_written k mid last last.choice (k.lines.items ++ first_lines k.labels locals) old new
          (put_alike k mid (first_lines k.labels locals) put)
          (put.lines fine)
          (ap (λ (x : Kept). x.context) put.rest)
          (λ turns h. let P : Made → Type 0 = λ x. IsMade x turns in subst P (sym (ap (λ (x : Kept). x.made) put.rest)) h)
          (ap (λ (x : Kept). x.waits) put.rest)
          writes;
      choice = same ∙ ap (λ (x : Kept). x.choice) put.rest;
    }

lacks : (o : Option Fault) (text : List ℕ) (s : SinkState) → IfSome o (λ fault. fault ≡ NoMemory) → IfSome o (λ fault. FailsBy fault text s s)
lacks None text s lack = lack
lacks (Some fault) text s lack = let P : Fault → Type 0 = λ x. FailsBy x text s s in subst P (sym lack) refl

pub round_lacks : (k mid : Kept) (locals : List Local) (s : SinkState) → IsPut k (first_lines k.labels locals) mid → k.fault ≡ None → mid.fault ≢ None
    → Begun k locals mid s s
round_lacks k mid locals s put was failed =
    record {
      over = λ (h : k.fault ≢ None). absurd (h was);
      writes = λ _. record {
        alike = put_alike k mid (first_lines k.labels locals) put;
        written = λ (fine : mid.fault ≡ None). absurd (failed fine);
        failed = lacks mid.fault (shown k (k.lines.items ++ first_lines k.labels locals)) s put.lacking;
      };
      choice = ap (λ (x : Kept). x.choice) put.rest;
    }

kept_is : (k mid after : Kept) → mid ≡ record k { lines = mid.lines } → after ≡ record mid { fault = after.fault } → after ≡ record k { lines = after.lines; fault = after.fault }
kept_is k mid after same rest =
    let F : Kept → Kept = λ x. record x { fault = after.fault } in
    let L : Kept → Kept = λ x. record k { lines = x.lines; fault = after.fault } in
    rest ∙ ap F same ∙ ap L (sym rest)

-- what was put is put, where there was memory
pub put_is : {U E : Type 0} (k mid after : Kept) (text : List ℕ) (done : Result U E) → mid ≡ record k { lines = mid.lines } → k.fault ≡ None
    → OnOk done (mid.lines.items ≡ k.lines.items ++ text) → OnOk done (after ≡ mid) → IfErr done (λ _. after.fault ≡ Some NoMemory)
    → after ≡ record mid { fault = after.fault } → IsPut k text after
put_is k mid after text (Ok x) same was lines fine lacking rest =
    let none : after.fault ≡ None = ap (λ (x : Kept). x.fault) fine ∙ ap (λ (x : Kept). x.fault) same ∙ was in
    let P : Option Fault → Type 0 = λ o. IfSome o (λ fault. fault ≡ NoMemory) in
    record {
      rest = kept_is k mid after same rest;
      lines = λ _. ap (λ (x : Kept). x.lines.items) fine ∙ lines;
      lacking = subst P (sym none) tt;
    }
put_is k mid after text (Err e) same was lines fine lacking rest =
    let P : Option Fault → Type 0 = λ o. IfSome o (λ fault. fault ≡ NoMemory) in
    record {
      rest = kept_is k mid after same rest;
      lines = λ (none : after.fault ≡ None). let never : Some NoMemory ≡ None = sym lacking ∙ none in cc;
      lacking = subst P (sym lacking) refl;
    }
