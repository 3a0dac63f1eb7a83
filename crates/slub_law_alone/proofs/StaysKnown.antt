-- An object that a worker knows the place of stays known.
use Rattle.std.proofs.Common.{◌≡◌, ℕ, suc, ◌<◌, ◌≤◌, ◌++◌, ◌==◌, Bool, true, false, not, if◌then◌else◌, Some, None, List, [], ◌∷◌, length, get_or, cond, refl, sym, ap, ◌∙◌, subst, arith, inl, inr}
use Rattle.std.specs.Prelude.{All}
use Rattle.std.proofs.lemmas.Bool.{false≢true, cases_eq, eq-eqb, ne_eqb}
use Rattle.std.proofs.lemmas.Option.{none-some}
use Rattle.std.proofs.lemmas.List.Elements.{All-head}
use Rattle.slub_trace.specs.declared.reply.Reply.{Reply}
use Rattle.slub_trace.specs.declared.reply.Reply.TheVariants as reply
use Rattle.slub_core.specs.declared.call.Call.{Call}
use Rattle.slub_core.specs.declared.call.CallKind.TheVariants.{Poke}
use Rattle.slub_core.specs.declared.local.Known.{Known}
use Rattle.slub_core.specs.declared.local.Answered.{Answered}
use Rattle.slub_core.specs.declared.spot.Spot.TheVariants.{Between}
use Rattle.slub_core.specs.Calls.{call_kind, call_object, call_place}
use Rattle.slub_core.specs.Setup.{Setup}
use Rattle.slub_core.specs.World.{World, world_of, world_from}
use Rattle.slub_core.specs.Local.{nobody}
use Rattle.slub_core.specs.Replies.{holds_after, holding, knows_after, knows, names_object}
use Rattle.slub_core.specs.Accounted.{place_of, CallFits, IsTold, public}
use Rattle.slub_core.specs.Spots.{is_freeing}
use Rattle.slub_core.specs.Steps.{told_at_once}
use Rattle.slub_core.specs.Law.{IsCoherentSystem}
use Rattle.slub_core.specs.Run.{System}
use Rattle.slub_core.proofs.TaleKnowns.{place_of-object}
use Rattle.slub_core.proofs.TaleReplies.{told-of}
use Rattle.slub_law_alone.specs.Alone.{worker_at}
use Rattle.slub_law_alone.proofs.Goes.{Keeps}
use Rattle.slub_law_alone.proofs.Onward.{Grown}
use Rattle.slub_law_alone.proofs.Workers.{AtFront, at_front}

-- ---- by the replies

knows-held : (r : Reply) (b c : Bool) → (b ≡ true → c ≡ true) → holds_after r b ≡ true → knows_after r c ≡ true
knows-held (reply.Given a) b c h is = refl
knows-held (reply.Freed a) b c h is = refl
knows-held (reply.Corrupt d) b c h is = refl
knows-held _ b c h is = h is

-- what a worker holds it knows
holding-knows : (ds : List Answered) (o : ℕ) → holding ds o ≡ true → knows ds o ≡ true
holding-knows [] o is = absurd (false≢true is)
holding-knows (d ∷ ds) o is = by (call_object d.call == o) is (holding-knows ds o)
  where
    by : (b : Bool) → cond b (holds_after d.reply (holding ds o)) (holding ds o) ≡ true → (holding ds o ≡ true → knows ds o ≡ true) → cond b (knows_after d.reply (knows ds o)) (knows ds o) ≡ true
    by true is more = knows-held d.reply (holding ds o) (knows ds o) more is
    by false is more = more is

knows-still : (r : Reply) (b : Bool) → b ≡ true → knows_after r b ≡ true
knows-still (reply.Given a) b is = refl
knows-still (reply.Freed a) b is = refl
knows-still (reply.Corrupt d) b is = refl
knows-still _ b is = is

-- and what it knew once it knows still
knows-more : (extra ds : List Answered) (o : ℕ) → knows ds o ≡ true → knows (extra ++ ds) o ≡ true
knows-more [] ds o is = is
knows-more (d ∷ extra) ds o is = by (call_object d.call == o) (knows-more extra ds o is)
  where
    by : (b : Bool) → knows (extra ++ ds) o ≡ true → cond b (knows_after d.reply (knows (extra ++ ds) o)) (knows (extra ++ ds) o) ≡ true
    by true is = knows-still d.reply (knows (extra ++ ds) o) is
    by false is = is

-- ---- by place

place-same : (ks js : List Known) (o : ℕ) → 1 ≤ o → place_of ks o < length ks → Keeps ks js → place_of js o ≡ place_of ks o
place-same [] js o some below keeps = absurd (omega arith)
place-same (k ∷ ks) [] o some below keeps = absurd (let at = place_of-object (k ∷ ks) o below in let none = keeps (place_of (k ∷ ks) o) in let never : o ≡ 0 = sym at ∙ sym none in omega arith)
place-same (k ∷ ks) (j ∷ js) o some below keeps = elim (cases_eq k.object o) [
  | inl e ↦ rw (eq-eqb k.object o e, eq-eqb j.object o (keeps 0 ∙ e)) refl
  | inr d ↦
      let b : place_of (k ∷ ks) o ≡ suc (place_of ks o) = rw (ne_eqb k.object o d) refl in
      let c : place_of (j ∷ js) o ≡ suc (place_of js o) = rw (ne_eqb j.object o (λ e. d (sym (keeps 0) ∙ e))) refl in
      c ∙ ap suc (place-same ks js o some (omega arith) (λ p. keeps (suc p))) ∙ sym b
]

-- ---- in a coherent machine

told_at : (m : Setup) (opening : World) (system : System) (x : ℕ) (front : AtFront m opening system x) → IsTold m opening.board (public (world_of m system.value system.words) (front.worker ∷ front.others)) (worker_at system x)
unfolding world_of world_from
told_at m opening system x front =
    let w = world_of m system.value system.words in
    subst (IsTold m opening.board (public w (front.worker ∷ front.others))) front.local (told-of opening w front.worker front.others front.account)

first-fits : (m : Setup) (ks : List Known) (cs : List Call) (call : Call) (calls : List Call) → cs ≡ call ∷ calls → All (CallFits m ks) cs → CallFits m ks call
first-fits m ks cs call calls e all = All-head (CallFits m ks) call calls (subst (All (CallFits m ks)) e all)

some-frame : (b c : Bool) → (if b then Some reply.NotHeld else if c then Some reply.NotChecked else None) ≡ None → b ≡ false
some-frame true c is = absurd (none-some reply.NotHeld (sym is))
some-frame false c is = refl

-- the object of a poke that takes a step has a frame, and has one after turns of the worker
pub stays_known : (m : Setup) (opening : World) (first last : System) (x : ℕ) (call : Call) (calls : List Call) → x < length first.locals → x < length last.locals → IsCoherentSystem m opening first → IsCoherentSystem m opening last
    → (worker_at first x).spot ≡ Between → (worker_at first x).todo ≡ call ∷ calls → call_kind call ≡ Poke → told_at_once m (get_or (worker_at first x).known (call_place call) nobody) call (call_kind call) ≡ None
    → Keeps (worker_at first x).known (worker_at last x).known → Grown (worker_at first x).done (worker_at last x).done → ((get_or (worker_at last x).known (call_place call) nobody).frame == 0) ≡ false
stays_known m opening first last x call calls below beyond before after is todo poke none keeps grown =
    let l = worker_at first x in
    let n = worker_at last x in
    let o = call_object call in
    let ok = told_at m opening first x (at_front m opening first x below before) in
    let end = told_at m opening last x (at_front m opening last x beyond after) in
    let fits = first-fits m l.known l.todo call calls todo ok.fits in
    let names : names_object (call_kind call) ≡ true = rw poke refl in
    let place : call_place call ≡ place_of l.known o = fits.place names in
    let some : 1 ≤ (get_or l.known (call_place call) nobody).frame = frame_of (get_or l.known (call_place call) nobody) (subst (λ kind. told_at_once m (get_or l.known (call_place call) nobody) call kind ≡ None) poke none) in
    let knew : knows l.done o ≡ true = elim (ok.unknown o (subst (λ p. 1 ≤ (get_or l.known p nobody).frame) place some)) [
      | inl k ↦ k
      | inr held ↦ holding-knows l.done o (sym (ok.holds o (λ f. absurd (false≢true (sym (ap is_freeing is) ∙ f)))) ∙ held)
    ] in
    let knew' : knows n.done o ≡ true = ap (λ ds. knows ds o) grown.1 ∙ knows-more grown.0 l.done o knew in
    let same : place_of n.known o ≡ place_of l.known o = place-same l.known n.known o (fits.object names).0 (subst (λ p. p < length l.known) place (fits.inside names)) keeps in
    let there : 1 ≤ (get_or n.known (call_place call) nobody).frame = subst (λ p. 1 ≤ (get_or n.known p nobody).frame) (same ∙ sym place) (end.tells o knew').2 in
    ne_eqb (get_or n.known (call_place call) nobody).frame 0 (λ zero. absurd (let never : ⊥ = omega (arith, there, zero) in never))
  where
    frame_of : (k : Known) → told_at_once m k call Poke ≡ None → 1 ≤ k.frame
    frame_of k none = elim (cases_eq k.frame 0) [
      | inl e ↦ absurd (false≢true (sym (some-frame (k.frame == 0) (not (m.checks k.cache)) none) ∙ eq-eqb k.frame 0 e))
      | inr d ↦ omega (arith, d)
    ]
