-- What a turn in which something failed has left written, and who would have had the next one.
use Rattle.std.proofs.Common.{◌≡◌, ◌≢◌, ℕ, ◌+◌, ◌<◌, Bool, true, false, ◌||◌, if◌then◌else◌, List, [], ◌∷◌, ◌++◌, Option, Some, None, IfSome, refl, ap, sym, subst, ◌∙◌}
use Rattle.std.proofs.lemmas.List.{append-nil, append_assoc}
use Rattle.std.specs.Prelude.{IsSomeAnd, slice_get}
use Rattle.std.specs.List.{FoldsTo, list_any}
use Rattle.slub_core.specs.Facts.{Facts}
use Rattle.slub_core.specs.Local.{Local}
use Rattle.slub_core.specs.World.{LockValue}
use Rattle.slub_turns.specs.Happenings.{Happening, Rests}
use Rattle.slub_turn_text.specs.Labels.{RoundLabels}
use Rattle.slub_picks.specs.declared.list.Entry.{Entry}
use Rattle.slub_picks.specs.declared.list.Reach.{Reach}
use Rattle.slub_picks.specs.declared.list.Reach.TheVariants as reach
use Rattle.slub_picks.specs.declared.walk.Ended.{Ended}
use Rattle.slub_picks.specs.declared.walk.Walk.{Walk}
use Rattle.slub_picks.specs.Misfits.{is_full}
use Rattle.slub_picks.specs.Turns.{goes_on}
use Rattle.slub_picks.specs.Walks.{IsNext}
use Rattle.slub_picks.proofs.Walking.{along_counted, along_going, along_stopped, passed}
use Rattle.slub_round_log.specs.declared.choice.Choice.{Choice}
use Rattle.slub_round_log.specs.declared.choice.Choice.TheVariants as choice
use Rattle.slub_round_log.specs.declared.kept.Fault.{Fault}
use Rattle.slub_round_log.specs.declared.kept.Fault.TheVariants.{NoMemory, Write}
use Rattle.slub_round_log.specs.declared.kept.Kept.{Kept}
use Rattle.slub_round_log.specs.Choices.{Goes, GoesOn}
use Rattle.slub_round_log.specs.Laws.{Heard, IsOneTurn, LogState, is_rest}
use Rattle.slub_round_log.specs.Log.{EndsTurns, FailsAt, FailsBy, Notes, SinkState, Writes, shown}
use Rattle.slub_round_log.specs.Told.{Context, context_after, context_behind, lines_of, turns_text}
use Rattle.slub_round_log.proofs.Heard.{HasNoted, front_noted, noted_of}

pub some_is : {A : Type 0} (o : Option A) (x : A) → o ≡ Some x → o ≢ None
some_is o x is none = let e : Some x ≡ None = sym is ∙ none in cc

-- ---- before the end of the turn

neither : (b c : Bool) → (b || c) ≡ false → (b ≡ false) × (c ≡ false)
neither true c not_so = cc
neither false c not_so = (refl, not_so)

-- nothing is written there
front_silent : (m : Facts) (w : LogState) (front : List Happening) (u : LogState) → list_any is_rest front ≡ false → FoldsTo (Heard m) w front u → u.sink ≡ w.sink
front_silent m w [] u not_so heard = ap (λ (x : LogState). x.sink) (sym heard)
front_silent m w (h ∷ hs) u not_so heard =
    let nos : (is_rest h ≡ false) × (list_any is_rest hs ≡ false) = neither (is_rest h) (list_any is_rest hs) not_so in
    front_silent m heard.0 hs u nos.1 heard.2 ∙ (noted_of m w.kept w.sink h heard.0.kept heard.0.sink nos.0 heard.1).1

-- and only memory can lack
abbrev Lacks : Kept → Type 0
Lacks k = IfSome k.fault (λ fault. fault ≡ NoMemory)

note_lacks : (m : Facts) (k : Kept) (h : Happening) (after : Kept) (o : Option Fault) → k.fault ≡ o → Notes m k h after → Lacks k → Lacks after
note_lacks m k h after None is notes lacks = notes.lacking is
note_lacks m k h after (Some fault) is notes lacks = subst Lacks (sym (notes.over (some_is k.fault fault is))) lacks

front_lacks : (m : Facts) (w : LogState) (front : List Happening) (u : LogState) → list_any is_rest front ≡ false → FoldsTo (Heard m) w front u → Lacks w.kept → Lacks u.kept
front_lacks m w [] u not_so heard lacks = subst (λ (x : LogState). Lacks x.kept) heard lacks
front_lacks m w (h ∷ hs) u not_so heard lacks =
    let nos : (is_rest h ≡ false) × (list_any is_rest hs ≡ false) = neither (is_rest h) (list_any is_rest hs) not_so in
    let notes : Notes m w.kept h heard.0.kept = (noted_of m w.kept w.sink h heard.0.kept heard.0.sink nos.0 heard.1).0 in
    front_lacks m heard.0 hs u nos.1 heard.2 (note_lacks m w.kept h heard.0.kept w.kept.fault refl notes lacks)

-- ---- a turn

parted : {W A : Type 0} (R : W → A → W → Type 0) (w : W) (xs ys : List A) (v : W) → FoldsTo R w (xs ++ ys) v → (u : W) × FoldsTo R w xs u × FoldsTo R u ys v
parted R w [] ys v heard = (w, refl, heard)
parted R w (x ∷ xs) ys v heard =
    let more = parted R heard.0 xs ys v heard.2 in
    (more.0, (heard.0, heard.1, more.1), more.2)

-- its front, and its end
record Parts (m : Facts) (w : LogState) (hs : List Happening) (turn : IsOneTurn hs) (v : LogState) : Type 0 where
  pub at : LogState
  pub front : FoldsTo (Heard m) w turn.front at
  pub ends : EndsTurns m at.kept turn.value turn.before turn.last v.kept at.sink v.sink

parts_of : (m : Facts) (w : LogState) (hs : List Happening) (turn : IsOneTurn hs) (v : LogState) → FoldsTo (Heard m) w hs v → Parts m w hs turn v
parts_of m w hs turn v heard =
    let P : List Happening → Type 0 = λ hs. FoldsTo (Heard m) w hs v in
    let parts = parted (Heard m) w turn.front (Rests turn.value turn.before turn.last ∷ []) v (subst P turn.happenings_are heard) in
    let at : LogState = parts.0 in
    let ends : EndsTurns m at.kept turn.value turn.before turn.last parts.2.0.kept at.sink parts.2.0.sink = parts.2.1 in
    let E : LogState → Type 0 = λ x. EndsTurns m at.kept turn.value turn.before turn.last x.kept at.sink x.sink in
    record { at = at; front = parts.1; ends = subst E parts.2.2 ends }

-- what its end adds, behind its front
abbrev end_text : Facts → Kept → (ℕ → LockValue) → ℕ → Local → List ℕ
end_text m k value before l = k.lines.items ++ lines_of k.labels m k.context (Rests value before l)

-- where memory lacks nothing of it is written
pub turn_unwritten : (m : Facts) (w : LogState) (hs : List Happening) (v : LogState) → IsOneTurn hs → FoldsTo (Heard m) w hs v → v.kept.fault ≡ Some NoMemory → v.sink ≡ w.sink
turn_unwritten m w hs v turn heard failed =
    let p : Parts m w hs turn v = parts_of m w hs turn v heard in
    by p p.at.kept.fault refl ∙ front_silent m w turn.front p.at turn.none_ends p.front
  where
    by : (p : Parts m w hs turn v) (o : Option Fault) → p.at.kept.fault ≡ o → v.sink ≡ p.at.sink
    by p None is =
        let text : List ℕ = end_text m p.at.kept turn.value turn.before turn.last in
        let writes : Writes p.at.kept text v.kept p.at.sink v.sink = p.ends.writes is in
        subst (λ (x : Option Fault). IfSome x (λ fault. FailsBy fault (shown p.at.kept text) p.at.sink v.sink)) failed writes.failed
    by p (Some fault) is = (p.ends.over (some_is p.at.kept.fault fault is)).1

-- what is said of what comes about, and behind it of more
pub text_of_both : (labels : RoundLabels) (m : Facts) (c : Context) (xs ys : List Happening)
    → turns_text labels m c (xs ++ ys) ≡ turns_text labels m c xs ++ turns_text labels m (context_behind c xs) ys
text_of_both labels m c [] ys = refl
text_of_both labels m c (h ∷ hs) ys =
    ap (λ (t : List ℕ). lines_of labels m c h ++ t) (text_of_both labels m (context_after c h) hs ys)
    ∙ sym (append_assoc (lines_of labels m c h) (turns_text labels m (context_after c h) hs) (turns_text labels m (context_behind (context_after c h) hs) ys))

-- the lines of the front and of the end are those of the turn
text_is : (m : Facts) (w u : LogState) (front : List Happening) (value : ℕ → LockValue) (before : ℕ) (last : Local) → HasNoted m w front u → w.kept.lines.items ≡ []
    → shown u.kept (end_text m u.kept value before last) ≡ shown w.kept (turns_text w.kept.labels m w.kept.context (front ++ Rests value before last ∷ []))
text_is m w u front value before last noted empty =
    let end : Happening = Rests value before last in
    let c : Context = w.kept.context in
    let one : List ℕ = turns_text w.kept.labels m c front in
    let all : end_text m u.kept value before last ≡ turns_text w.kept.labels m c (front ++ end ∷ []) =
    ap (λ (x : RoundLabels). u.kept.lines.items ++ lines_of x m u.kept.context end) noted.alike.labels
    ∙ ap (λ (x : Context). u.kept.lines.items ++ lines_of w.kept.labels m x end) noted.context
    ∙ ap (λ (x : List ℕ). x ++ lines_of w.kept.labels m (context_behind c front) end) (noted.lines ∙ ap (λ (x : List ℕ). x ++ one) empty)
    ∙ ap (λ (x : List ℕ). one ++ x) (sym (append-nil (lines_of w.kept.labels m (context_behind c front) end)))
    ∙ sym (text_of_both w.kept.labels m c front (end ∷ [])) in
    ap (λ (b : Bool). if b then end_text m u.kept value before last else []) noted.alike.is_shown
    ∙ ap (λ (t : List ℕ). if w.kept.is_shown then t else []) all

-- where a write fails, it is that of its lines
pub turn_failed : (m : Facts) (w : LogState) (hs : List Happening) (v : LogState) → IsOneTurn hs → FoldsTo (Heard m) w hs v → w.kept.fault ≡ None → w.kept.lines.items ≡ [] → v.kept.fault ≡ Some Write
    → FailsAt w.sink v.sink (shown w.kept (turns_text w.kept.labels m w.kept.context hs))
turn_failed m w hs v turn heard fine empty failed =
    let p : Parts m w hs turn v = parts_of m w hs turn v heard in
    by p p.at.kept.fault refl
  where
    by : (p : Parts m w hs turn v) (o : Option Fault) → p.at.kept.fault ≡ o → FailsAt w.sink v.sink (shown w.kept (turns_text w.kept.labels m w.kept.context hs))
    by p None is =
        let text : List ℕ = end_text m p.at.kept turn.value turn.before turn.last in
        let writes : Writes p.at.kept text v.kept p.at.sink v.sink = p.ends.writes is in
        let fails : FailsAt p.at.sink v.sink (shown p.at.kept text) =
        subst (λ (x : Option Fault). IfSome x (λ fault. FailsBy fault (shown p.at.kept text) p.at.sink v.sink)) failed writes.failed in
        let noted : HasNoted m w turn.front p.at = front_noted m w turn.front p.at turn.none_ends p.front is in
        let T : List ℕ → Type 0 = λ t. FailsAt p.at.sink v.sink t in
        let H : List Happening → Type 0 = λ hs. FailsAt p.at.sink v.sink (shown w.kept (turns_text w.kept.labels m w.kept.context hs)) in
        let S : SinkState → Type 0 = λ s. FailsAt s v.sink (shown w.kept (turns_text w.kept.labels m w.kept.context hs)) in
        subst S noted.sink (subst H (sym turn.happenings_are) (subst T (text_is m w p.at turn.front turn.value turn.before turn.last noted empty) fails))
    by p (Some fault) is =
        let lacks : Lacks p.at.kept = front_lacks m w turn.front p.at turn.none_ends p.front (subst (λ (x : Option Fault). IfSome x (λ fault. fault ≡ NoMemory)) (sym fine) tt) in
        let want : fault ≡ NoMemory = subst (λ (x : Option Fault). IfSome x (λ fault. fault ≡ NoMemory)) is lacks in
        let same : v.kept.fault ≡ p.at.kept.fault = ap (λ (x : Kept). x.fault) (p.ends.over (some_is p.at.kept.fault fault is)).0 in
        let e : Some Write ≡ Some NoMemory = sym failed ∙ same ∙ is ∙ ap (λ (f : Fault). Some f) want in
        cc

-- ---- whose turn comes next behind it

abbrev GoneOn : Walk → Ended → Type 0
GoneOn walk ended = (after : Walk) × GoesOn walk ended after

-- a walk goes on, however a turn ended
walk_goes : (walk : Walk) (ended : Ended) → GoneOn walk ended
walk_goes walk ended = by (slice_get walk.entries.now walk.place) refl
  where
    nowhere : (worker : ℕ) → slice_get walk.entries.now walk.place ≡ None → IsNext walk worker → ⊥
    nowhere worker none next = subst (λ (e : Option Entry). IsSomeAnd e (λ entry. (entry.worker ≡ worker) × (worker < walk.workers) × (is_full entry.reach walk.made ≡ false))) none next

    on : (entry : Entry) (r : Reach) → slice_get walk.entries.now walk.place ≡ Some entry → goes_on entry.reach ended ≡ true → entry.reach ≡ r → GoneOn walk ended
    on entry (reach.Turns n) there goes is = (
      record walk { made = walk.made + 1 },
      record {
        part = record { entries = refl; workers = refl };
        along = λ worker turns unfinished left next along. along_counted walk (walk.made + 1) n entry ended worker turns unfinished left there goes is (λ _. refl) next along;
      },
    )
    on entry reach.Event there goes is = (
      walk,
      record {
        part = record { entries = refl; workers = refl };
        along = λ worker turns unfinished left next along. along_going walk entry ended worker turns unfinished left there goes (λ n other. let e : reach.Event ≡ reach.Turns n = sym is ∙ other in cc) next along;
      },
    )
    on entry reach.End there goes is = (
      walk,
      record {
        part = record { entries = refl; workers = refl };
        along = λ worker turns unfinished left next along. along_going walk entry ended worker turns unfinished left there goes (λ n other. let e : reach.End ≡ reach.Turns n = sym is ∙ other in cc) next along;
      },
    )

    at : (entry : Entry) (b : Bool) → slice_get walk.entries.now walk.place ≡ Some entry → goes_on entry.reach ended ≡ b → GoneOn walk ended
    at entry true there goes = on entry entry.reach there goes refl
    at entry false there stops = (
      passed walk,
      record {
        part = record { entries = refl; workers = refl };
        along = λ worker turns unfinished left next along. along_stopped walk entry ended worker turns unfinished left there stops next along;
      },
    )

    by : (o : Option Entry) → slice_get walk.entries.now walk.place ≡ o → GoneOn walk ended
    by None none = (
      walk,
      record {
        part = record { entries = refl; workers = refl };
        along = λ worker turns unfinished left next along. absurd (nowhere worker none next);
      },
    )
    by (Some entry) there = at entry (goes_on entry.reach ended) there refl

-- and so does what says whose turn comes next
pub goes_somewhere : (c : Choice) (ended : Ended) → (after : Choice) × Goes c ended after
goes_somewhere choice.Alone ended = (choice.Alone, refl)
goes_somewhere (choice.Seed x) ended = (choice.Seed x, refl)
goes_somewhere (choice.Part walk) ended =
    let gone : GoneOn walk ended = walk_goes walk ended in
    (choice.Part gone.0, (gone.0, refl, gone.1))
