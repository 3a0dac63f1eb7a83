-- What a log has noted before the end of a turn, and what is written behind it.
use Rattle.std.proofs.Common.{◌≡◌, ◌≢◌, ℕ, Bool, true, false, ◌||◌, List, [], ◌∷◌, ◌++◌, append_assoc, Option, Some, None, ap, sym, subst, refl, ◌∙◌}
use Rattle.std.proofs.lemmas.List.{append-nil}
use Rattle.std.specs.List.{FoldsTo, fold, list_any}
use Rattle.slub_core.specs.Facts.{Facts}
use Rattle.slub_picks.specs.Made.{IsMade}
use Rattle.slub_turns.specs.Happenings.{Happening, Begins, Steps, Advances, Changing, Changed, Rests}
use Rattle.slub_turn_text.specs.Labels.{RoundLabels}
use Rattle.slub_round_log.specs.declared.kept.Fault.{Fault}
use Rattle.slub_round_log.specs.declared.kept.Kept.{Kept}
use Rattle.slub_round_log.specs.Laws.{Heard, LogState, is_rest}
use Rattle.slub_round_log.specs.Log.{Hears, IsAlike, IsNoted, Notes, SinkState, made_after, waits_after}
use Rattle.slub_round_log.specs.Told.{Context, context_after, context_behind, lines_of, turns_text}

-- what isn't the end of a turn is noted
pub noted_of : (m : Facts) (k : Kept) (old : SinkState) (h : Happening) (after : Kept) (new : SinkState) → is_rest h ≡ false → Hears m k old h after new
    → Notes m k h after × (new ≡ old)
noted_of m k old (Begins l) after new not_so hears = hears
noted_of m k old (Steps value l step a) after new not_so hears = hears
noted_of m k old (Advances l reply) after new not_so hears = hears
noted_of m k old (Changing value l) after new not_so hears = hears
noted_of m k old (Changed value l reply) after new not_so hears = hears
noted_of m k old (Rests value before l) after new not_so hears = cc

-- where nothing has failed behind it, nothing had before
pub fine_before : (o : Option Fault) (k after : Kept) → k.fault ≡ o → (k.fault ≢ None → after ≡ k) → after.fault ≡ None → k.fault ≡ None
fine_before None k after is over fine = is
fine_before (Some fault) k after is over fine =
    let some : k.fault ≢ None = λ (not_so : k.fault ≡ None). let e : Some fault ≡ None = sym is ∙ not_so in cc in
    ap (λ (x : Kept). x.fault) (sym (over some)) ∙ fine

neither : (b c : Bool) → (b || c) ≡ false → (b ≡ false) × (c ≡ false)
neither true c not_so = cc
neither false c not_so = (refl, not_so)

-- what a log has noted of the front of a turn
pub record HasNoted (m : Facts) (w : LogState) (front : List Happening) (v : LogState) : Type 0 where
  pub fine : w.kept.fault ≡ None
  pub sink : v.sink ≡ w.sink
  pub alike : IsAlike w.kept v.kept
  pub choice : v.kept.choice ≡ w.kept.choice
  pub lines : v.kept.lines.items ≡ w.kept.lines.items ++ turns_text w.kept.labels m w.kept.context front
  pub context : v.kept.context ≡ context_behind w.kept.context front
  pub made : (turns : List ℕ) → IsMade w.kept.made turns → IsMade v.kept.made (fold made_after turns front)
  pub waits : v.kept.waits ≡ fold waits_after w.kept.waits front

more_lines : (labels next : RoundLabels) (m : Facts) (c d : Context) (h : Happening) (hs : List Happening) (a b e : List ℕ) → next ≡ labels → d ≡ context_after c h
    → b ≡ a ++ lines_of labels m c h → e ≡ b ++ turns_text next m d hs → e ≡ a ++ turns_text labels m c (h ∷ hs)
more_lines labels next m c d h hs a b e same after one rest =
    rest
    ∙ ap (λ (x : RoundLabels). b ++ turns_text x m d hs) same
    ∙ ap (λ (x : Context). b ++ turns_text labels m x hs) after
    ∙ ap (λ (x : List ℕ). x ++ turns_text labels m (context_after c h) hs) one
    ∙ append_assoc a (lines_of labels m c h) (turns_text labels m (context_after c h) hs)

pub front_noted : (m : Facts) (w : LogState) (front : List Happening) (v : LogState) → list_any is_rest front ≡ false → FoldsTo (Heard m) w front v → v.kept.fault ≡ None
    → HasNoted m w front v
front_noted m w [] v not_so heard fine =
    let P : LogState → Type 0 = λ x. HasNoted m w [] x in
    let at : w.kept.fault ≡ None = ap (λ (x : LogState). x.kept.fault) heard ∙ fine in
    let here : HasNoted m w [] w = record {
      fine = at;
      sink = refl;
      alike = record { labels = refl; is_shown = refl };
      choice = refl;
      lines = sym (append-nil w.kept.lines.items);
      context = refl;
      made = λ turns h. h;
      waits = refl;
    } in
    subst P heard here
front_noted m w (h ∷ hs) v not_so heard fine =
    let u : LogState = heard.0 in
    let nos : (is_rest h ≡ false) × (list_any is_rest hs ≡ false) = neither (is_rest h) (list_any is_rest hs) not_so in
    let rest : HasNoted m u hs v = front_noted m u hs v nos.1 heard.2 fine in
    let notes : Notes m w.kept h u.kept × (u.sink ≡ w.sink) = noted_of m w.kept w.sink h u.kept u.sink nos.0 heard.1 in
    let was : w.kept.fault ≡ None = fine_before w.kept.fault w.kept u.kept refl notes.0.over rest.fine in
    let n : IsNoted m w.kept h u.kept = notes.0.noted was rest.fine in
    record {
      fine = was;
      sink = rest.sink ∙ notes.1;
      alike = record { labels = rest.alike.labels ∙ notes.0.alike.labels; is_shown = rest.alike.is_shown ∙ notes.0.alike.is_shown };
      choice = rest.choice ∙ n.choice;
      lines = more_lines w.kept.labels u.kept.labels m w.kept.context u.kept.context h hs w.kept.lines.items u.kept.lines.items v.kept.lines.items notes.0.alike.labels n.context n.lines rest.lines;
      context = rest.context ∙ ap (λ (c : Context). context_behind c hs) n.context;
      made = λ turns made. rest.made (made_after turns h) (n.made turns made);
      waits = rest.waits ∙ ap (λ (b : Bool). fold waits_after b hs) n.waits;
    }
