-- What a log has written over whole turns.
use Rattle.std.proofs.Common.{◌≡◌, ◌≢◌, ℕ, Bool, true, false, if◌then◌else◌, List, [], ◌∷◌, ◌++◌, append_assoc, Option, Some, None, ap, sym, subst, refl, ◌∙◌}
use Rattle.std.proofs.lemmas.List.{append-nil}
use Rattle.std.specs.List.{FoldsTo, fold}
use Rattle.std.specs.Io.KnownBytes.{Appends}
use Rattle.slub_core.specs.Facts.{Facts}
use Rattle.slub_core.specs.Local.{Local}
use Rattle.slub_core.specs.World.{LockValue}
use Rattle.slub_picks.specs.declared.made.Made.{Made}
use Rattle.slub_picks.specs.Made.{IsMade}
use Rattle.slub_turns.specs.Happenings.{Happening, Begins, Steps, Advances, Changing, Changed, Rests}
use Rattle.slub_turn_text.specs.Labels.{RoundLabels}
use Rattle.slub_round_log.specs.declared.choice.Choice.{Choice}
use Rattle.slub_round_log.specs.declared.kept.Kept.{Kept}
use Rattle.slub_round_log.specs.Choices.{Goes}
use Rattle.slub_round_log.specs.Laws.{AreHeard, AreWritten, Heard, IsChosen, LogState, RoundsAreWritten, TurnsAreWritten, all_of}
use Rattle.slub_round_log.specs.Log.{EndsTurns, Hears, IsAlike, AreLinesWritten, SinkState, Takes, Writes, ended_by, made_after, shown, waits_after}
use Rattle.slub_round_log.specs.Told.{Context, context_after, context_behind, lines_of, turns_text}
use Rattle.slub_round_log.proofs.Heard.{HasNoted, fine_before, front_noted}

-- ---- lists

split : {W A : Type 0} (R : W → A → W → Type 0) (w : W) (xs ys : List A) (v : W) → FoldsTo R w (xs ++ ys) v → (u : W) × FoldsTo R w xs u × FoldsTo R u ys v
split R w [] ys v heard = (w, refl, heard)
split R w (x ∷ xs) ys v heard =
    let more = split R heard.0 xs ys v heard.2 in
    (more.0, (heard.0, heard.1, more.1), more.2)

fold_both : {A B : Type 0} (f : B → A → B) (b : B) (xs ys : List A) → fold f b (xs ++ ys) ≡ fold f (fold f b xs) ys
fold_both f b [] ys = refl
fold_both f b (x ∷ xs) ys = fold_both f (f b x) xs ys

text_of_both : (labels : RoundLabels) (m : Facts) (c : Context) (xs ys : List Happening)
    → turns_text labels m c (xs ++ ys) ≡ turns_text labels m c xs ++ turns_text labels m (context_behind c xs) ys
text_of_both labels m c [] ys = refl
text_of_both labels m c (h ∷ hs) ys =
    ap (λ (t : List ℕ). lines_of labels m c h ++ t) (text_of_both labels m (context_after c h) hs ys)
    ∙ sym (append_assoc (lines_of labels m c h) (turns_text labels m (context_after c h) hs) (turns_text labels m (context_behind (context_after c h) hs) ys))

-- ---- a turn

module _ (m : Facts) (w u : LogState) (front : List Happening) (value : ℕ → LockValue) (before : ℕ) (last : Local) (noted : HasNoted m w front u) (empty : w.kept.lines.items ≡ []) where
  abbrev end : Happening
  end = Rests value before last

  text_is : u.kept.lines.items ++ lines_of u.kept.labels m u.kept.context end ≡ turns_text w.kept.labels m w.kept.context (front ++ end ∷ [])
  text_is =
      let c : Context = w.kept.context in
      let one : List ℕ = turns_text w.kept.labels m c front in
      ap (λ (x : RoundLabels). u.kept.lines.items ++ lines_of x m u.kept.context end) noted.alike.labels
      ∙ ap (λ (x : Context). u.kept.lines.items ++ lines_of w.kept.labels m x end) noted.context
      ∙ ap (λ (x : List ℕ). x ++ lines_of w.kept.labels m (context_behind c front) end) (noted.lines ∙ ap (λ (x : List ℕ). x ++ one) empty)
      ∙ ap (λ (x : List ℕ). one ++ x) (sym (append-nil (lines_of w.kept.labels m (context_behind c front) end)))
      ∙ sym (text_of_both w.kept.labels m c front (end ∷ []))

  shown_is : shown u.kept (u.kept.lines.items ++ lines_of u.kept.labels m u.kept.context end) ≡ shown w.kept (turns_text w.kept.labels m w.kept.context (front ++ end ∷ []))
  shown_is =
      let text : List ℕ = u.kept.lines.items ++ lines_of u.kept.labels m u.kept.context end in
      ap (λ (b : Bool). if b then text else []) noted.alike.is_shown
      ∙ ap (λ (t : List ℕ). if w.kept.is_shown then t else []) text_is

  turn_written : (v : LogState) → EndsTurns m u.kept value before last v.kept u.sink v.sink → v.kept.fault ≡ None
      → AreWritten m w (front ++ end ∷ []) v × Goes w.kept.choice (ended_by last (fold waits_after w.kept.waits front)) v.kept.choice
  turn_written v ends fine =
      let was : u.kept.fault ≡ None = fine_before u.kept.fault u.kept v.kept refl (λ h. (ends.over h).0) fine in
      let writes : Writes u.kept (u.kept.lines.items ++ lines_of u.kept.labels m u.kept.context end) v.kept u.sink v.sink = ends.writes was in
      let out : AreLinesWritten u.kept (u.kept.lines.items ++ lines_of u.kept.labels m u.kept.context end) v.kept u.sink v.sink = writes.written fine in
      let T : List ℕ → Type 0 = λ t. Takes u.sink v.sink t in
      let S : SinkState → Type 0 = λ s. Takes s v.sink (shown w.kept (turns_text w.kept.labels m w.kept.context (front ++ end ∷ []))) in
      let G : Choice → Type 0 = λ x. Goes x (ended_by last u.kept.waits) v.kept.choice in
      let E : Bool → Type 0 = λ b. Goes w.kept.choice (ended_by last b) v.kept.choice in (
        record {
          taken = subst S noted.sink (subst T shown_is out.taken);
          lines = out.lines;
          alike = record { labels = writes.alike.labels ∙ noted.alike.labels; is_shown = writes.alike.is_shown ∙ noted.alike.is_shown };
          context = out.context ∙ noted.context ∙ sym (fold_both context_after w.kept.context front (end ∷ []));
          made = λ turns h. let P : List ℕ → Type 0 = λ x. IsMade v.kept.made x in
              subst P (sym (fold_both made_after turns front (end ∷ []))) (out.made (fold made_after turns front) (noted.made turns h));
          fault = noted.fine;
        },
        subst E noted.waits (subst G noted.choice (ends.choice was fine)),
      )

pub turns_written : TurnsAreWritten
turns_written m w happenings v turn heard empty fine =
    let P : List Happening → Type 0 = λ hs. FoldsTo (Heard m) w hs v in
    let parts = split (Heard m) w turn.front (Rests turn.value turn.before turn.last ∷ []) v (subst P turn.happenings_are heard) in
    let u : LogState = parts.0 in
    let ends : EndsTurns m u.kept turn.value turn.before turn.last parts.2.0.kept u.sink parts.2.0.sink = parts.2.1 in
    let E : LogState → Type 0 = λ x. EndsTurns m u.kept turn.value turn.before turn.last x.kept u.sink x.sink in
    let at : EndsTurns m u.kept turn.value turn.before turn.last v.kept u.sink v.sink = subst E parts.2.2 ends in
    let was : u.kept.fault ≡ None = fine_before u.kept.fault u.kept v.kept refl (λ h. (at.over h).0) fine in
    let noted : HasNoted m w turn.front u = front_noted m w turn.front u turn.none_ends parts.1 was in
    let Q : List Happening → Type 0 = λ hs. AreWritten m w hs v × Goes w.kept.choice (ended_by turn.last (fold waits_after w.kept.waits turn.front)) v.kept.choice in
    subst Q (sym turn.happenings_are) (turn_written m w u turn.front turn.value turn.before turn.last noted empty v at fine)

-- ---- several turns

-- a fault stays
over_of : (m : Facts) (k : Kept) (old : SinkState) (h : Happening) (after : Kept) (new : SinkState) → Hears m k old h after new → k.fault ≢ None → after ≡ k
over_of m k old (Begins l) after new hears failed = hears.0.over failed
over_of m k old (Steps value l step a) after new hears failed = hears.0.over failed
over_of m k old (Advances l reply) after new hears failed = hears.0.over failed
over_of m k old (Changing value l) after new hears failed = hears.0.over failed
over_of m k old (Changed value l reply) after new hears failed = hears.0.over failed
over_of m k old (Rests value before l) after new hears failed = (hears.over failed).0

was_fine : (m : Facts) (w : LogState) (hs : List Happening) (v : LogState) → FoldsTo (Heard m) w hs v → v.kept.fault ≡ None → w.kept.fault ≡ None
was_fine m w [] v heard fine = ap (λ (x : LogState). x.kept.fault) heard ∙ fine
was_fine m w (h ∷ hs) v heard fine =
    fine_before w.kept.fault w.kept heard.0.kept refl (over_of m w.kept w.sink h heard.0.kept heard.0.sink heard.1) (was_fine m heard.0 hs v heard.2 fine)

all_fine : (m : Facts) (w : LogState) (turns : List (List Happening)) (v : LogState) → AreHeard m w turns v → v.kept.fault ≡ None → w.kept.fault ≡ None
all_fine m w [] v heard fine = ap (λ (x : LogState). x.kept.fault) (sym heard) ∙ fine
all_fine m w (hs ∷ turns) v heard fine =
    let next : v.kept.fault ≡ None → heard.1.kept.fault ≡ None = all_fine m heard.1 turns v heard.5 in
    ap (λ (x : Kept). x.fault) (sym heard.2.kept) ∙ was_fine m heard.0 hs heard.1 heard.4 (next fine)

appends_none : (o : Option (List ℕ)) → Appends o o []
appends_none None = tt
appends_none (Some xs) = sym (append-nil xs)

appends_both : (a b c : Option (List ℕ)) (x y : List ℕ) → Appends a b x → Appends b c y → Appends a c (x ++ y)
appends_both None b c x y one more = tt
appends_both (Some xs) None c x y one more = absurd one
appends_both (Some xs) (Some ys) None x y one more = absurd more
appends_both (Some xs) (Some ys) (Some zs) x y one more = more ∙ ap (λ (t : List ℕ). t ++ y) one ∙ append_assoc xs x y

shown_both : (b : Bool) (x y : List ℕ) → (if b then x else []) ++ (if b then y else []) ≡ (if b then (x ++ y) else [])
shown_both true x y = refl
shown_both false x y = refl

shown_none : (b : Bool) → (let text : List ℕ = [] in text ≡ (if b then text else text))
shown_none true = refl
shown_none false = refl

takes_none : (m : Facts) (w : LogState) → Takes w.sink w.sink (shown w.kept [])
takes_none m w =
    let T : List ℕ → Type 0 = λ t. Takes w.sink w.sink t in
    subst T (shown_none w.kept.is_shown) (record { written = appends_none w.sink.taken; still = refl })

-- what is shown of happenings
abbrev told : Bool → RoundLabels → Facts → Context → List Happening → List ℕ
told b labels m c hs = if b then turns_text labels m c hs else []

-- the same of two logs of which one differs by whose turn comes next alone
told_alike : (m : Facts) (w u : LogState) (hs : List Happening) → IsAlike w.kept u.kept → (c : Context) → u.kept.context ≡ c
    → shown u.kept (turns_text u.kept.labels m u.kept.context hs) ≡ told w.kept.is_shown w.kept.labels m c hs
told_alike m w u hs alike c context =
    ap (λ (b : Bool). told b u.kept.labels m u.kept.context hs) alike.is_shown
    ∙ ap (λ (x : RoundLabels). told w.kept.is_shown x m u.kept.context hs) alike.labels
    ∙ ap (λ (x : Context). told w.kept.is_shown w.kept.labels m x hs) context

-- what comes about in one turn, and what does in those behind it
both_written : (m : Facts) (w u v : LogState) (hs more : List Happening) → AreWritten m w hs u → AreWritten m u more v → AreWritten m w (hs ++ more) v
both_written m w u v hs more one two =
    let c : Context = w.kept.context in
    let labels : RoundLabels = w.kept.labels in
    let T : List ℕ → Type 0 = λ t. Takes w.sink v.sink t in
    let rest : shown u.kept (turns_text u.kept.labels m u.kept.context more) ≡ told w.kept.is_shown labels m (context_behind c hs) more =
    told_alike m w u more one.alike (context_behind c hs) one.context in
    let is : shown w.kept (turns_text labels m c hs) ++ shown u.kept (turns_text u.kept.labels m u.kept.context more) ≡ shown w.kept (turns_text labels m c (hs ++ more)) =
    ap (λ (t : List ℕ). shown w.kept (turns_text labels m c hs) ++ t) rest
    ∙ shown_both w.kept.is_shown (turns_text labels m c hs) (turns_text labels m (context_behind c hs) more)
    ∙ ap (λ (t : List ℕ). shown w.kept t) (sym (text_of_both labels m c hs more)) in
    record {
      taken = subst T is (record {
        written = appends_both w.sink.taken u.sink.taken v.sink.taken (shown w.kept (turns_text labels m c hs)) (shown u.kept (turns_text u.kept.labels m u.kept.context more)) one.taken.written two.taken.written;
        still = two.taken.still ∙ one.taken.still;
      });
      lines = two.lines;
      alike = record { labels = two.alike.labels ∙ one.alike.labels; is_shown = two.alike.is_shown ∙ one.alike.is_shown };
      context = two.context ∙ ap (λ (x : Context). context_behind x more) one.context ∙ sym (fold_both context_after c hs more);
      made = λ turns h. let P : List ℕ → Type 0 = λ x. IsMade v.kept.made x in
          subst P (sym (fold_both made_after turns hs more)) (two.made (fold made_after turns hs) (one.made turns h));
      fault = one.fault;
    }

chosen_written : (m : Facts) (w u v : LogState) (hs : List Happening) → IsChosen w u → AreWritten m u hs v → AreWritten m w hs v
chosen_written m w u v hs chosen written =
    let alike : IsAlike w.kept u.kept = record { labels = ap (λ (x : Kept). x.labels) chosen.kept; is_shown = ap (λ (x : Kept). x.is_shown) chosen.kept } in
    let context : u.kept.context ≡ w.kept.context = ap (λ (x : Kept). x.context) chosen.kept in
    let T : List ℕ → Type 0 = λ t. Takes u.sink v.sink t in
    let S : SinkState → Type 0 = λ s. Takes s v.sink (shown w.kept (turns_text w.kept.labels m w.kept.context hs)) in
    record {
      taken = subst S chosen.sink (subst T (told_alike m w u hs alike w.kept.context context) written.taken);
      lines = written.lines;
      alike = record { labels = written.alike.labels ∙ alike.labels; is_shown = written.alike.is_shown ∙ alike.is_shown };
      context = written.context ∙ ap (λ (x : Context). context_behind x hs) context;
      made = λ turns h. let P : Made → Type 0 = λ x. IsMade x turns in
          written.made turns (subst P (sym (ap (λ (x : Kept). x.made) chosen.kept)) h);
      fault = ap (λ (x : Kept). x.fault) (sym chosen.kept) ∙ written.fault;
    }

pub rounds_written : RoundsAreWritten
rounds_written m w [] v heard empty fine =
    let P : LogState → Type 0 = λ x. AreWritten m w [] x in
    let here : AreWritten m w [] w = record {
      taken = takes_none m w;
      lines = empty;
      alike = record { labels = refl; is_shown = refl };
      context = refl;
      made = λ turns h. h;
      fault = ap (λ (x : LogState). x.kept.fault) (sym heard) ∙ fine;
    } in
    subst P (sym heard) here
rounds_written m w (hs ∷ turns) v heard empty fine =
    let chosen : LogState = heard.0 in
    let next : LogState = heard.1 in
    let next_fine : next.kept.fault ≡ None = all_fine m next turns v heard.5 fine in
    let chosen_empty : chosen.kept.lines.items ≡ [] = ap (λ (x : Kept). x.lines.items) heard.2.kept ∙ empty in
    let one : AreWritten m chosen hs next = (turns_written m chosen hs next heard.3 heard.4 chosen_empty next_fine).0 in
    let rest : AreWritten m next (all_of turns) v = rounds_written m next turns v heard.5 one.lines fine in
    both_written m w next v hs (all_of turns) (chosen_written m w chosen next hs heard.2 one) rest
