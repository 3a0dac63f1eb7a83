-- Steps with a reply: what a worker knows of the object of its call changes, and of no other.
use Rattle.std.proofs.Common.{◌≡◌, ℕ, ◌+◌, ◌<◌, ◌≤◌, Bool, true, false, eqb, ◌&&◌, List, [], ◌∷◌, length, get_or, set, drop, refl, sym, ap, ◌∙◌, arith, inl, inr, ◌⊎◌, Some, None, Option}
use Rattle.std.specs.Prelude.{All, slice_index}
use Rattle.std.proofs.lemmas.Bool.{cases_eq, eq-eqb, ne_eqb, false≢true}
use Rattle.std.proofs.lemmas.Option.{none-some}
use Rattle.std.proofs.lemmas.List.Elements.{All-head, All-drop, All-set}
use Rattle.slub_words.specs.declared.board.BoardWord.{BoardWord}
use Rattle.slub_trace.specs.declared.reply.Reply.{Reply}
use Rattle.slub_core.specs.declared.call.Call.{Call}
use Rattle.slub_core.specs.declared.call.CallKind.{CallKind}
use Rattle.slub_core.specs.declared.local.Known.{Known}
use Rattle.slub_core.specs.Calls.{call_kind, call_cache, call_object}
use Rattle.slub_core.specs.Setup.{Setup}
use Rattle.slub_core.specs.World.{World, pool_of, one_if}
use Rattle.slub_core.specs.Local.{Local, Worker, nobody, no_call, here, call_of, address_in}
use Rattle.slub_core.specs.Spots.{doing, is_freeing}
use Rattle.slub_core.specs.Replies.{is_alloc, names_object, is_given, is_freed, is_dry, least_order, holds_after, holding, knows_after, knows, address_after, address_by, cache_after, cache_by, Public, Cause}
use Rattle.slub_core.specs.Accounted.{boarded, public, place_of, known_of, CallFits, IsDoing, IsTold, HasWritten, IsAccounted}
use Rattle.slub_core.proofs.TaleKnowns.{known_of-here, known_of-other, fits-set, distinct-set, asked-drop, length-drop}
use Rattle.slub_core.proofs.TaleStep.{Onward, Moved, caused-later, told-later, told_step}

-- What a reply owes, of the object of the call alone. k is what the worker knows of it after, r the reply.
pub record Answer (m : Setup) (before : ℕ → Option BoardWord) (p : Public) (l : Local) (k : Known) (r : Reply) : Type 0 where
  pub below : l.place < length l.known
  pub same : k.object ≡ (here l).object
  pub holds : k.held ≡ holds_after r (holding l.done (here l).object)
  pub address : k.held ≡ true → address_after r (address_by m before l.done (here l).object) ≡ Some (address_in m k)
  pub cache : k.held ≡ true → cache_after (call_of l) r (cache_by before l.done (here l).object) ≡ Some k.cache
  pub tells : knows_after r (knows l.done (here l).object) ≡ true
      → (address_after r (address_by m before l.done (here l).object) ≡ Some (address_in m k)) × (cache_after (call_of l) r (cache_by before l.done (here l).object) ≡ Some k.cache) × (1 ≤ k.frame)
  pub unknown : 1 ≤ k.frame → (knows_after r (knows l.done (here l).object) ≡ true) ⊎ (k.held ≡ true)
  pub moved : one_if k.held + one_if (is_freed r) ≡ one_if (here l).held + one_if (is_given r)
  pub asks : one_if (is_given r) ≤ one_if (is_alloc (call_kind (call_of l)))
  pub cause : Cause m before p l.done (call_of l) r

-- the worker after it: it is in no call that has no reply
pub record Answers (l n : Local) (k : Known) (r : Reply) : Type 0 where
  pub known : n.known ≡ set l.known l.place k
  pub done : n.done ≡ (record { call = call_of l; reply = r }) ∷ l.done
  pub todo : n.todo ≡ drop 1 l.todo
  pub freeing : is_freeing n.spot ≡ false
  pub call : doing n.spot ≡ None

told-answer : (m : Setup) (before : ℕ → Option BoardWord) (p : Public) (l n : Local) (kind : CallKind) (k : Known) (r : Reply)
    → IsDoing l kind → names_object kind ≡ true → l.place ≡ place_of l.known (here l).object → Answers l n k r → IsTold m before p l → Answer m before p l k r → IsTold m before p n
told-answer m before p l n kind k r doing names place after ok ans =
    let knew : known_of (set l.known l.place k) (here l).object ≡ k = known_of-here l.known l.place k (here l).object ans.below ans.same place in
    let other : (o : ℕ) → (call_object (call_of l) ≡ o → ⊥) → known_of (set l.known l.place k) o ≡ known_of l.known o = λ o d. known_of-other l.known l.place k o ans.below ans.same (λ z. d ((doing.object names) ∙ sym z)) in
    record {
      caused = rw after.done (ans.cause, ok.caused);
      holds = λ o _. rw (after.known, after.done) (elim (cases_eq (call_object (call_of l)) o) [
        | inl e ↦ let o' : o ≡ (here l).object = sym e ∙ (doing.object names) in rw (eq-eqb (call_object (call_of l)) o e, o', knew) ans.holds
        | inr d ↦ rw (ne_eqb (call_object (call_of l)) o d, other o d) (ok.holds o (λ _ z. d ((doing.object names) ∙ sym z)))
      ]);
      source = λ f. absurd (false≢true (sym after.freeing ∙ f));
      address = λ o. rw (after.known, after.done) (elim (cases_eq (call_object (call_of l)) o) [
        | inl e ↦ let o' : o ≡ (here l).object = sym e ∙ (doing.object names) in rw (eq-eqb (call_object (call_of l)) o e, o', knew) ans.address
        | inr d ↦ rw (ne_eqb (call_object (call_of l)) o d, other o d) (ok.address o)
      ]);
      cache = λ o. rw (after.known, after.done) (elim (cases_eq (call_object (call_of l)) o) [
        | inl e ↦ let o' : o ≡ (here l).object = sym e ∙ (doing.object names) in rw (eq-eqb (call_object (call_of l)) o e, o', knew) ans.cache
        | inr d ↦ rw (ne_eqb (call_object (call_of l)) o d, other o d) (ok.cache o)
      ]);
      tells = λ o. rw (after.known, after.done) (elim (cases_eq (call_object (call_of l)) o) [
        | inl e ↦ let o' : o ≡ (here l).object = sym e ∙ (doing.object names) in rw (eq-eqb (call_object (call_of l)) o e, o', knew) ans.tells
        | inr d ↦ rw (ne_eqb (call_object (call_of l)) o d, other o d) (ok.tells o)
      ]);
      unknown = λ o. rw (after.known, after.done) (elim (cases_eq (call_object (call_of l)) o) [
        | inl e ↦ let o' : o ≡ (here l).object = sym e ∙ (doing.object names) in rw (eq-eqb (call_object (call_of l)) o e, o', knew) ans.unknown
        | inr d ↦ rw (ne_eqb (call_object (call_of l)) o d, other o d) (ok.unknown o)
      ]);
      call = λ b e. absurd (none-some b (sym after.call ∙ e));
      fits = rw (after.known, after.todo) (All-drop (CallFits m (set l.known l.place k)) 1 l.todo (fits-set m l.known l.place k l.todo ans.same ok.fits));
      distinct = rw after.known (distinct-set l.known l.place k ans.same ok.distinct);
      numbers = rw after.known (All-set (λ (k : Known). k.object < m.objects) l.known l.place k (rw ans.same (ok.numbers l.place nobody ans.below)) ok.numbers);
    }

-- the place of the call's object is that of its number
pub place-here : (m : Setup) (before : ℕ → Option BoardWord) (p : Public) (l : Local) (kind : CallKind) → IsDoing l kind → names_object kind ≡ true → IsTold m before p l → l.place ≡ place_of l.known (here l).object
place-here m before p l kind doing names ok = let f = fits-first m l.known l.todo doing.some ok.fits in doing.place ∙ f.place (ap names_object doing.same_kind ∙ names) ∙ ap (place_of l.known) (doing.object names)
  where
    fits-first : (m : Setup) (ks : List Known) (cs : List Call) → 1 ≤ length cs → All (CallFits m ks) cs → CallFits m ks (get_or cs 0 no_call)
    fits-first m ks [] some all = absurd (omega arith)
    fits-first m ks (c ∷ cs) some all = All-head (CallFits m ks) c cs all

and-true : (b : Bool) → one_if (b && true) ≡ one_if b
and-true true = refl
and-true false = refl

and-false : (b : Bool) → one_if (b && false) ≡ 0
and-false true = refl
and-false false = refl

-- what the reply adds to the counts: of a pool that lacked a run it says so
pub record Counts (w v : World) (l : Local) (r : Reply) : Type 0 where
  pub board : (o : ℕ) → v.board o ≡ w.board o
  pub dry : (order : ℕ) → slice_index (pool_of v).dry order ≡ slice_index (pool_of w).dry order + one_if (is_dry r && eqb (least_order w.setup (call_cache (call_of l))) order)

moved-answer : (w v : World) (before : ℕ → Option BoardWord) (p : Public) (l n : Local) (kind : CallKind) (k : Known) (r : Reply) → IsDoing l kind → names_object kind ≡ true → l.place ≡ place_of l.known (here l).object → Answers l n k r → Answer w.setup before p l k r → Counts w v l r → Moved w v l n
moved-answer w v before p l n kind k r doing names place after ans counts =
    let knew : known_of (set l.known l.place k) (here l).object ≡ k = known_of-here l.known l.place k (here l).object ans.below ans.same place in
    record {
      count = λ o. let b = ap boarded (counts.board o) in rw (after.known, after.done) (elim (cases_eq (call_object (call_of l)) o) [
        | inl e ↦
            let o' : o ≡ (here l).object = sym e ∙ (doing.object names) in
            let now : one_if (known_of (set l.known l.place k) o).held ≡ one_if k.held = ap (λ q. one_if (known_of (set l.known l.place k) q).held) o' ∙ ap (λ (j : Known). one_if j.held) knew in
            let was : one_if (known_of l.known o).held ≡ one_if (here l).held = ap (λ q. one_if (known_of l.known q).held) o' ∙ ap (λ q. one_if (get_or l.known q nobody).held) (sym place) in
            let f : one_if (is_freed r && eqb (call_object (call_of l)) o) ≡ one_if (is_freed r) = rw (eq-eqb (call_object (call_of l)) o e) (and-true (is_freed r)) in
            let g : one_if (is_given r && eqb (call_object (call_of l)) o) ≡ one_if (is_given r) = rw (eq-eqb (call_object (call_of l)) o e) (and-true (is_given r)) in
            let both = ans.moved in omega arith
        | inr d ↦
            let there : one_if (known_of (set l.known l.place k) o).held ≡ one_if (known_of l.known o).held = ap (λ (j : Known). one_if j.held) (known_of-other l.known l.place k o ans.below ans.same (λ z. d ((doing.object names) ∙ sym z))) in
            let f : one_if (is_freed r && eqb (call_object (call_of l)) o) ≡ 0 = rw (ne_eqb (call_object (call_of l)) o d) (and-false (is_freed r)) in
            let g : one_if (is_given r && eqb (call_object (call_of l)) o) ≡ 0 = rw (ne_eqb (call_object (call_of l)) o d) (and-false (is_given r)) in omega arith
      ]);
      asks = λ o. rw (after.done, after.todo) (let s = asked-drop o l.todo doing.some in elim (cases_eq (call_object (call_of l)) o) [
        | inl e ↦
            let g : one_if (is_given r && eqb (call_object (call_of l)) o) ≡ one_if (is_given r) = rw (eq-eqb (call_object (call_of l)) o e) (and-true (is_given r)) in
            let b : one_if (is_alloc (call_kind (call_of l)) && eqb (call_object (call_of l)) o) ≡ one_if (is_alloc (call_kind (call_of l))) = rw (eq-eqb (call_object (call_of l)) o e) (and-true (is_alloc (call_kind (call_of l)))) in
            let both = ans.asks in omega arith
        | inr d ↦ let g : one_if (is_given r && eqb (call_object (call_of l)) o) ≡ 0 = rw (ne_eqb (call_object (call_of l)) o d) (and-false (is_given r)) in omega arith
      ]);
      frees = λ o. rw after.done (omega arith);
      few = rw (after.done, after.todo) (let e = length-drop l.todo doing.some in omega arith);
      dry = λ order. let d = counts.dry order in rw after.done (omega arith);
    }

-- any step that answers a call of an object
pub told_answer : (opening w v : World) (x z : Worker) (others : List Worker) (kind : CallKind) (k : Known) (r : Reply) → IsAccounted opening w (x ∷ others) → Onward w v → Counts w v x.local r → IsDoing x.local kind → names_object kind ≡ true → Answers x.local z.local k r
    → Answer w.setup opening.board (public w (x ∷ others)) x.local k r → All (λ (o : Worker). HasWritten v opening.board o.local) (z ∷ others) → IsAccounted opening v (z ∷ others)
told_answer opening w v x z others kind k r ac on counts doing names after ans written =
    let l = x.local in
    let ok = All-head (λ (o : Worker). IsTold w.setup opening.board (public w (x ∷ others)) o.local) x others ac.told in
    let place = place-here w.setup opening.board (public w (x ∷ others)) l kind doing names ok in
    told_step opening w v x z others ac on (moved-answer w v opening.board (public w (x ∷ others)) l z.local kind k r doing names place after ans counts)
    (λ p later. told-answer w.setup opening.board p l z.local kind k r doing names place after (told-later w.setup opening.board _ p l later ok) (record {
      below = ans.below;
      same = ans.same;
      holds = ans.holds;
      address = ans.address;
      cache = ans.cache;
      tells = ans.tells;
      unknown = ans.unknown;
      moved = ans.moved;
      asks = ans.asks;
      cause = (caused-later w.setup opening.board _ p ((record { call = call_of l; reply = r }) ∷ l.done) later (ans.cause, ok.caused)).0;
    }))
    written
