-- The replies after which a worker has what it had; and an object is freed, or found damaged.
use Rattle.std.proofs.Common.{◌≡◌, ◌≢◌, ℕ, ◌+◌, ◌*◌, ◌<◌, ◌≤◌, Bool, true, false, eqb, ◌&&◌, List, [], ◌∷◌, length, get_or, drop, refl, sym, ap, ◌∙◌, subst, arith, inl, inr, Some, None, Option}
use Rattle.std.specs.Prelude.{All, slice_index, cond}
use Rattle.std.proofs.lemmas.Bool.{false≢true}
use Rattle.std.proofs.lemmas.List.{set-get_or}
use Rattle.std.proofs.lemmas.Option.{none-some}
use Rattle.std.proofs.lemmas.List.Elements.{All-cons, All-head, All-drop}
use Rattle.slub_words.specs.declared.board.BoardWord.{BoardWord}
use Rattle.slub_trace.specs.declared.damage.Damage.{Damage}
use Rattle.slub_trace.specs.declared.reply.Reply.{Reply}
use Rattle.slub_trace.specs.declared.reply.Reply.TheVariants as reply
use Rattle.slub_core.specs.declared.call.Call.{Call}
use Rattle.slub_core.specs.declared.call.CallKind.{CallKind}
use Rattle.slub_core.specs.declared.call.CallKind.TheVariants.{Free}
use Rattle.slub_core.specs.declared.local.Known.{Known}
use Rattle.slub_core.specs.declared.local.Answered.{Answered}
use Rattle.slub_core.specs.declared.spot.Spot.{Spot}
use Rattle.slub_core.specs.declared.spot.Spot.TheVariants.{Between, InAlloc, InPutAway, InDiscard, InPutOnList, InFree, InMoveSet, InOffline, InTrim, WriteWord, ReadWord, InChecked}
use Rattle.slub_core.specs.Calls.{call_kind, call_cache, call_object, call_place}
use Rattle.slub_core.specs.Setup.{Setup}
use Rattle.slub_core.specs.World.{World, pool_of, content, one_if}
use Rattle.slub_core.specs.Local.{Local, Worker, nobody, no_call, here, call_of, address_in}
use Rattle.slub_core.specs.Spots.{doing, frees, is_freeing}
use Rattle.slub_core.specs.Replies.{names_object, is_given, is_freed, is_dry, least_order, holds_after, holding, knows_after, knows, address_after, address_by, cache_after, cache_by, wrote_after, last_wrote, Public, Cause}
use Rattle.slub_core.specs.Accounted.{boarded, public, place_of, known_of, CallFits, IsDoing, IsTold, HasWritten, IsAccounted}
use Rattle.slub_core.proofs.TaleKnowns.{asked-drop, length-drop}
use Rattle.slub_core.proofs.TaleStep.{Onward, Moved, caused-later, told-later, told_step}
use Rattle.slub_core.proofs.TaleQuiet.{Unseen, content-same, others-written}
use Rattle.slub_core.proofs.TaleAnswer.{Answers, Counts, place-here, told_answer}
use Rattle.slub_core.proofs.TaleWritten.{asked-new, written-answer, written-told}

-- ---- replies after which the worker has what it had

abbrev pub is_kept : Reply → Bool
is_kept (reply.Given a) = false
is_kept (reply.Freed a) = false
is_kept (reply.Corrupt d) = false
is_kept _ = true

abbrev pub is_wrote : Reply → Bool
is_wrote reply.Wrote = true
is_wrote _ = false

record Kept (r : Reply) : Type 0 where
  pub holds : (b : Bool) → holds_after r b ≡ b
  pub knows : (b : Bool) → knows_after r b ≡ b
  pub address : (x : Option ℕ) → address_after r x ≡ x
  pub cache : (c : Call) (x : Option ℕ) → cache_after c r x ≡ x
  pub freed : is_freed r ≡ false
  pub given : is_given r ≡ false

kept : (r : Reply) → is_kept r ≡ true → Kept r
kept (reply.Given a) is = absurd (false≢true is)
kept (reply.Freed a) is = absurd (false≢true is)
kept (reply.Corrupt d) is = absurd (false≢true is)
kept reply.NoFrames is = record { holds = λ b. refl; knows = λ b. refl; address = λ x. refl; cache = λ c x. refl; freed = refl; given = refl }
kept reply.NoSuchCache is = record { holds = λ b. refl; knows = λ b. refl; address = λ x. refl; cache = λ c x. refl; freed = refl; given = refl }
kept reply.NoMemory is = record { holds = λ b. refl; knows = λ b. refl; address = λ x. refl; cache = λ c x. refl; freed = refl; given = refl }
kept (reply.IdsSpent t) is = record { holds = λ b. refl; knows = λ b. refl; address = λ x. refl; cache = λ c x. refl; freed = refl; given = refl }
kept reply.NotHeld is = record { holds = λ b. refl; knows = λ b. refl; address = λ x. refl; cache = λ c x. refl; freed = refl; given = refl }
kept reply.Wrote is = record { holds = λ b. refl; knows = λ b. refl; address = λ x. refl; cache = λ c x. refl; freed = refl; given = refl }
kept (reply.Value v) is = record { holds = λ b. refl; knows = λ b. refl; address = λ x. refl; cache = λ c x. refl; freed = refl; given = refl }
kept reply.OutOfObject is = record { holds = λ b. refl; knows = λ b. refl; address = λ x. refl; cache = λ c x. refl; freed = refl; given = refl }
kept reply.Poked is = record { holds = λ b. refl; knows = λ b. refl; address = λ x. refl; cache = λ c x. refl; freed = refl; given = refl }
kept reply.OutOfSlot is = record { holds = λ b. refl; knows = λ b. refl; address = λ x. refl; cache = λ c x. refl; freed = refl; given = refl }
kept reply.NotChecked is = record { holds = λ b. refl; knows = λ b. refl; address = λ x. refl; cache = λ c x. refl; freed = refl; given = refl }
kept (reply.Trimmed n) is = record { holds = λ b. refl; knows = λ b. refl; address = λ x. refl; cache = λ c x. refl; freed = refl; given = refl }
kept reply.Checked is = record { holds = λ b. refl; knows = λ b. refl; address = λ x. refl; cache = λ c x. refl; freed = refl; given = refl }
kept (reply.Flushed n) is = record { holds = λ b. refl; knows = λ b. refl; address = λ x. refl; cache = λ c x. refl; freed = refl; given = refl }

wrote-kept : (r : Reply) (c : Call) (a : ℕ) (x : Option ℕ) → is_kept r ≡ true → is_wrote r ≡ false → wrote_after c r a x ≡ x
wrote-kept (reply.Given b) c a x is unwrote = absurd (false≢true is)
wrote-kept (reply.Freed b) c a x is unwrote = absurd (false≢true is)
wrote-kept (reply.Corrupt d) c a x is unwrote = refl
wrote-kept reply.Wrote c a x is unwrote = absurd (false≢true (sym unwrote))
wrote-kept reply.NoFrames c a x is unwrote = refl
wrote-kept reply.NoSuchCache c a x is unwrote = refl
wrote-kept reply.NoMemory c a x is unwrote = refl
wrote-kept (reply.IdsSpent t) c a x is unwrote = refl
wrote-kept reply.NotHeld c a x is unwrote = refl
wrote-kept (reply.Value v) c a x is unwrote = refl
wrote-kept reply.OutOfObject c a x is unwrote = refl
wrote-kept reply.Poked c a x is unwrote = refl
wrote-kept reply.OutOfSlot c a x is unwrote = refl
wrote-kept reply.NotChecked c a x is unwrote = refl
wrote-kept (reply.Trimmed n) c a x is unwrote = refl
wrote-kept reply.Checked c a x is unwrote = refl
wrote-kept (reply.Flushed n) c a x is unwrote = refl

-- the object of the call has a place among what the worker knows
pub place-inside : (m : Setup) (before : ℕ → Option BoardWord) (p : Public) (l : Local) (kind : CallKind) → IsDoing l kind → names_object kind ≡ true → IsTold m before p l → l.place < length l.known
place-inside m before p l kind doing names ok = rw doing.place (fits-first m l.known l.todo doing.some (ap names_object doing.same_kind ∙ names) ok.fits)
  where
    fits-first : (m : Setup) (ks : List Known) (cs : List Call) → 1 ≤ length cs → names_object (call_kind (get_or cs 0 no_call)) ≡ true → All (CallFits m ks) cs → call_place (get_or cs 0 no_call) < length ks
    fits-first m ks [] some names all = absurd (omega arith)
    fits-first m ks (c ∷ cs) some names all = (All-head (CallFits m ks) c cs all).inside names

-- what is freed of an unchecked cache is freed
pub freeing-frees : (spot : Spot) → is_freeing spot ≡ false → frees spot ≡ false
freeing-frees Between is = refl
freeing-frees (InAlloc s) is = is
freeing-frees (InPutAway s away) is = is
freeing-frees (InDiscard s discard) is = is
freeing-frees (InPutOnList s put) is = is
freeing-frees (InFree s) is = is
freeing-frees (InMoveSet s move) is = is
freeing-frees (InOffline s sweep) is = is
freeing-frees (InTrim s) is = is
freeing-frees WriteWord is = refl
freeing-frees ReadWord is = refl
freeing-frees (InChecked s kind) is = refl

-- the worker after such a reply
pub record AnswersKept (l n : Local) (r : Reply) : Type 0 where
  pub known : n.known ≡ l.known
  pub done : n.done ≡ (record { call = call_of l; reply = r }) ∷ l.done
  pub todo : n.todo ≡ drop 1 l.todo
  pub freeing : is_freeing n.spot ≡ false
  pub call : doing n.spot ≡ None

pub answers-here : (l n : Local) (r : Reply) → AnswersKept l n r → Answers l n (here l) r
answers-here l n r after = record { known = after.known ∙ sym (set-get_or l.known l.place nobody); done = after.done; todo = after.todo; freeing = after.freeing; call = after.call }

pub told-of : (opening w : World) (x : Worker) (others : List Worker) → IsAccounted opening w (x ∷ others) → IsTold w.setup opening.board (public w (x ∷ others)) x.local
told-of opening w x others ac = All-head (λ (o : Worker). IsTold w.setup opening.board (public w (x ∷ others)) o.local) x others ac.told

pub written-of : (opening w : World) (x : Worker) (others : List Worker) → IsAccounted opening w (x ∷ others) → HasWritten w opening.board x.local
written-of opening w x others ac = All-head (λ (o : Worker). HasWritten w opening.board o.local) x others ac.written

pub known-here : (l : Local) → l.place ≡ place_of l.known (here l).object → known_of l.known (here l).object ≡ here l
known-here l place = ap (λ q. get_or l.known q nobody) (sym place)

-- what such a reply owes to a call of an object, whatever is so of the words
pub told_kept : (opening w v : World) (x z : Worker) (others : List Worker) (kind : CallKind) (r : Reply) → IsAccounted opening w (x ∷ others) → Onward w v → Counts w v x.local r → IsDoing x.local kind → names_object kind ≡ true → is_freeing x.local.spot ≡ false → is_kept r ≡ true
    → AnswersKept x.local z.local r → Cause w.setup opening.board (public w (x ∷ others)) x.local.done (call_of x.local) r → All (λ (o : Worker). HasWritten v opening.board o.local) (z ∷ others) → IsAccounted opening v (z ∷ others)
told_kept opening w v x z others kind r ac on counts doing names idle is after cause written =
    let l = x.local in
    let m = w.setup in
    let p = public w (x ∷ others) in
    let ok = told-of opening w x others ac in
    let place = place-here m opening.board p l kind doing names ok in
    let knew = known-here l place in
    let k = kept r is in
    let o = (here l).object in
    told_answer opening w v x z others kind (here l) r ac on counts doing names (answers-here l z.local r after) (record {
      below = place-inside m opening.board p l kind doing names ok;
      same = refl;
      holds = ap (λ (j : Known). j.held) (sym knew) ∙ ok.holds o (λ f. absurd (false≢true (sym idle ∙ f))) ∙ sym (k.holds (holding l.done o));
      address = λ h. k.address _ ∙ ok.address o (ap (λ (j : Known). j.held) knew ∙ h) ∙ ap (λ (j : Known). Some (address_in m j)) knew;
      cache = λ h. k.cache (call_of l) _ ∙ ok.cache o (ap (λ (j : Known). j.held) knew ∙ h) ∙ ap (λ (j : Known). Some j.cache) knew;
      tells = λ h. let t = ok.tells o (sym (k.knows (knows l.done o)) ∙ h) in (k.address _ ∙ t.0 ∙ ap (λ (j : Known). Some (address_in m j)) knew, k.cache (call_of l) _ ∙ t.1 ∙ ap (λ (j : Known). Some j.cache) knew, subst (λ (j : Known). 1 ≤ j.frame) knew t.2);
      unknown = λ h. elim (ok.unknown o (subst (λ (j : Known). 1 ≤ j.frame) (sym knew) h)) [ inl a ↦ inl (k.knows _ ∙ a) | inr b ↦ inr (ap (λ (j : Known). j.held) (sym knew) ∙ b) ];
      moved = rw (k.freed, k.given) refl;
      asks = rw k.given (omega arith);
      cause = cause;
    }) written

-- what the worker doesn't hold, its replies don't say that it holds
pub not-holding : (opening w : World) (x : Worker) (others : List Worker) {kind : CallKind} → IsAccounted opening w (x ∷ others) → IsDoing x.local kind → names_object kind ≡ true → is_freeing x.local.spot ≡ false → (here x.local).held ≡ false → holding x.local.done (here x.local).object ≡ false
not-holding opening w x others ac doing names idle free =
    let ok = told-of opening w x others ac in
    sym (ok.holds (here x.local).object (λ f. absurd (false≢true (sym idle ∙ f)))) ∙ ap (λ (j : Known). j.held) (known-here x.local (place-here w.setup opening.board (public w (x ∷ others)) x.local _ doing names ok)) ∙ free

-- a state as it is after a reply: with the same board and memory
pub record Spoken (w v : World) (l : Local) (r : Reply) : Type 0 where
  pub setup : v.setup ≡ w.setup
  pub tids : (n : ℕ) → (w.cpu n).tid ≤ (v.cpu n).tid
  pub board : (o : ℕ) → v.board o ≡ w.board o
  pub memory : (p : ℕ) → v.memory p ≡ w.memory p
  pub dry : (order : ℕ) → slice_index (pool_of v).dry order ≡ slice_index (pool_of w).dry order + one_if (is_dry r && eqb (least_order w.setup (call_cache (call_of l))) order)

pub spoken : (w v : World) (l : Local) (r : Reply) → Unseen w v → is_dry r ≡ false → Spoken w v l r
spoken w v l r same undry = record { setup = same.setup; tids = same.tids; board = same.board; memory = same.memory; dry = λ order. let e = same.dry order in rw undry (omega arith) }

pub spoken-on : (w v : World) (l : Local) (r : Reply) → Spoken w v l r → Onward w v
spoken-on w v l r sp = record { setup = sp.setup; tids = sp.tids; less = λ o. inr (sp.board o) }

pub spoken-counts : (w v : World) (l : Local) (r : Reply) → Spoken w v l r → Counts w v l r
spoken-counts w v l r sp = record { board = sp.board; dry = sp.dry }

-- the words after a reply of an object that the worker had, or has no more: it wrote them before, or it wrote none
pub written-spoken : (opening w v : World) (x z : Worker) (others : List Worker) (kind : CallKind) (k : Known) (r : Reply) → IsAccounted opening w (x ∷ others) → Spoken w v x.local r → IsDoing x.local kind → names_object kind ≡ true → k.object ≡ (here x.local).object → Answers x.local z.local k r
    → ((a y : ℕ) → k.held ≡ true → wrote_after (call_of x.local) r a (last_wrote x.local.done (here x.local).object a) ≡ Some y
    → (8 * (a + 1) ≤ (w.setup.layout k.cache).object_size) × (w.setup.checks k.cache ≡ false → content v k.cache k.frame k.index a ≡ y))
    → All (λ (o : Worker). HasWritten v opening.board o.local) (z ∷ others)
written-spoken opening w v x z others kind k r ac sp doing names same after mine =
    let l = x.local in
    let p = public w (x ∷ others) in
    let ok = told-of opening w x others ac in
    All-cons (λ (o : Worker). HasWritten v opening.board o.local) z others
    (written-answer w v opening.board l z.local kind k r (written-of opening w x others ac) sp.setup (place-inside w.setup opening.board p l kind doing names ok) same doing names (place-here w.setup opening.board p l kind doing names ok) after
    (asked-new opening w x others ac doing.some) (λ o a away h plain within. content-same w v sp.setup sp.memory _ _ _ a) mine)
    (others-written w v opening.board x others sp.setup sp.memory ac.written)

cond-same : {A : Type 0} (b : Bool) (x y : A) → x ≡ y → cond b x y ≡ y
cond-same true x y e = e
cond-same false x y e = refl

-- such a reply says nothing new of any object
told-same : (m : Setup) (before : ℕ → Option BoardWord) (p : Public) (l n : Local) (r : Reply) → is_kept r ≡ true → is_freeing l.spot ≡ false → AnswersKept l n r → Cause m before p l.done (call_of l) r → IsTold m before p l → IsTold m before p n
told-same m before p l n r is idle after cause ok =
    let k = kept r is in
    let d : Answered = record { call = call_of l; reply = r } in
    let holds : (o : ℕ) → holding (d ∷ l.done) o ≡ holding l.done o = λ o. cond-same (eqb (call_object (call_of l)) o) _ (holding l.done o) (k.holds (holding l.done o)) in
    let knew : (o : ℕ) → knows (d ∷ l.done) o ≡ knows l.done o = λ o. cond-same (eqb (call_object (call_of l)) o) _ (knows l.done o) (k.knows (knows l.done o)) in
    let address : (o : ℕ) → address_by m before (d ∷ l.done) o ≡ address_by m before l.done o = λ o. cond-same (eqb (call_object (call_of l)) o) _ (address_by m before l.done o) (k.address (address_by m before l.done o)) in
    let cache : (o : ℕ) → cache_by before (d ∷ l.done) o ≡ cache_by before l.done o = λ o. cond-same (eqb (call_object (call_of l)) o) _ (cache_by before l.done o) (k.cache (call_of l) (cache_by before l.done o)) in
    record {
      caused = rw after.done (cause, ok.caused);
      holds = λ o _. rw (after.known, after.done) (ok.holds o (λ f. absurd (false≢true (sym idle ∙ f))) ∙ sym (holds o));
      source = λ f. absurd (false≢true (sym after.freeing ∙ f));
      address = λ o. rw (after.known, after.done) (λ h. address o ∙ ok.address o h);
      cache = λ o. rw (after.known, after.done) (λ h. cache o ∙ ok.cache o h);
      tells = λ o. rw (after.known, after.done) (λ h. let t = ok.tells o (sym (knew o) ∙ h) in (address o ∙ t.0, cache o ∙ t.1, t.2));
      unknown = λ o. rw (after.known, after.done) (λ h. elim (ok.unknown o h) [ inl a ↦ inl (knew o ∙ a) | inr b ↦ inr b ]);
      call = λ b e. absurd (none-some b (sym after.call ∙ e));
      fits = rw (after.known, after.todo) (All-drop (CallFits m l.known) 1 l.todo ok.fits);
      distinct = rw after.known ok.distinct;
      numbers = rw after.known ok.numbers;
    }

-- and it moves no object
moved-same : (w v : World) (l n : Local) (r : Reply) → is_kept r ≡ true → 1 ≤ length l.todo → AnswersKept l n r → Counts w v l r → Moved w v l n
moved-same w v l n r is some after counts =
    let k = kept r is in
    let f : (o : ℕ) → one_if (is_freed r && eqb (call_object (call_of l)) o) ≡ 0 = λ o. rw k.freed refl in
    let g : (o : ℕ) → one_if (is_given r && eqb (call_object (call_of l)) o) ≡ 0 = λ o. rw k.given refl in
    record {
      count = λ o. let b = ap boarded (counts.board o) in let freed = f o in let given = g o in rw (after.known, after.done) (omega arith);
      asks = λ o. let s = asked-drop o l.todo some in let given = g o in rw (after.done, after.todo) (omega arith);
      frees = λ o. rw after.done (omega arith);
      few = rw (after.done, after.todo) (let e = length-drop l.todo some in omega arith);
      dry = λ order. let d = counts.dry order in rw after.done (omega arith);
    }

-- a reply after which the worker has what it had, and the words are those that it wrote
pub told_same : (opening w v : World) (x z : Worker) (others : List Worker) (kind : CallKind) (r : Reply) → IsAccounted opening w (x ∷ others) → Spoken w v x.local r → IsDoing x.local kind → is_freeing x.local.spot ≡ false → is_kept r ≡ true → is_wrote r ≡ false
    → AnswersKept x.local z.local r → Cause w.setup opening.board (public w (x ∷ others)) x.local.done (call_of x.local) r → IsAccounted opening v (z ∷ others)
told_same opening w v x z others kind r ac sp doing idle is unwrote after cause =
    let l = x.local in
    let ok = told-of opening w x others ac in
    told_step opening w v x z others ac (spoken-on w v l r sp) (moved-same w v l z.local r is doing.some after (spoken-counts w v l r sp))
    (λ p later. told-same w.setup opening.board p l z.local r is idle after (caused-later w.setup opening.board _ p ((record { call = call_of l; reply = r }) ∷ l.done) later (cause, ok.caused)).0 (told-later w.setup opening.board _ p l later ok))
    (All-cons (λ (o : Worker). HasWritten v opening.board o.local) z others
    (written-told w v opening.board l z.local r (written-of opening w x others ac) sp.setup sp.memory (freeing-frees l.spot idle) doing.some after.known after.done after.todo
    (λ o a. cond-same (eqb (call_object (call_of l)) o) _ (last_wrote l.done o a) (wrote-kept r (call_of l) a (last_wrote l.done o a) is unwrote)) (asked-new opening w x others ac doing.some))
    (others-written w v opening.board x others sp.setup sp.memory ac.written))

-- an object is freed
pub told_freed : (opening w v : World) (x z : Worker) (others : List Worker) → IsAccounted opening w (x ∷ others) → Spoken w v x.local (reply.Freed (address_in w.setup (here x.local))) → IsDoing x.local Free → is_freeing x.local.spot ≡ true → (here x.local).held ≡ true
    → 1 ≤ (here x.local).frame → Answers x.local z.local (record (here x.local) { held = false }) (reply.Freed (address_in w.setup (here x.local))) → IsAccounted opening v (z ∷ others)
told_freed opening w v x z others ac sp doing busy mine real after =
    let l = x.local in
    let m = w.setup in
    let p = public w (x ∷ others) in
    let r = reply.Freed (address_in m (here l)) in
    let ok = told-of opening w x others ac in
    let place = place-here m opening.board p l Free doing refl ok in
    let knew = known-here l place in
    let o = (here l).object in
    let had : (known_of l.known o).held ≡ true = ap (λ (j : Known). j.held) knew ∙ mine in
    let at : address_by m opening.board l.done o ≡ Some (address_in m (here l)) = ok.address o had ∙ ap (λ (j : Known). Some (address_in m j)) knew in
    let of : cache_by opening.board l.done o ≡ Some (here l).cache = ok.cache o had ∙ ap (λ (j : Known). Some j.cache) knew in
    told_answer opening w v x z others Free (record (here l) { held = false }) r ac (spoken-on w v l r sp) (spoken-counts w v l r sp) doing refl after (record {
      below = place-inside m opening.board p l Free doing refl ok;
      same = refl;
      holds = refl;
      address = λ h. absurd (false≢true h);
      cache = λ h. absurd (false≢true h);
      tells = λ _. (at, of, real);
      unknown = λ _. inl refl;
      moved = rw mine refl;
      asks = omega arith;
      cause = (doing.same_kind, rw (doing.object refl) at, rw (doing.object refl) (ok.source busy));
    })
    (written-spoken opening w v x z others Free (record (here l) { held = false }) r ac sp doing refl refl after (λ a y h wrote. absurd (false≢true h)))

-- a damaged object stays with the worker that would free it
pub told_corrupt : (opening w v : World) (x z : Worker) (others : List Worker) (d : Damage) → IsAccounted opening w (x ∷ others) → Spoken w v x.local (reply.Corrupt d) → IsDoing x.local Free → is_freeing x.local.spot ≡ true → frees x.local.spot ≡ false
    → (here x.local).held ≡ true → w.setup.checks (here x.local).cache ≡ true → 1 ≤ (here x.local).frame → d.found ≢ d.wanted → AnswersKept x.local z.local (reply.Corrupt d) → IsAccounted opening v (z ∷ others)
told_corrupt opening w v x z others d ac sp doing busy checked mine checks real damaged after =
    let l = x.local in
    let m = w.setup in
    let p = public w (x ∷ others) in
    let r = reply.Corrupt d in
    let ok = told-of opening w x others ac in
    let wr = written-of opening w x others ac in
    let place = place-here m opening.board p l Free doing refl ok in
    let knew = known-here l place in
    let o = (here l).object in
    let had : (known_of l.known o).held ≡ true = ap (λ (j : Known). j.held) knew ∙ mine in
    let at : address_by m opening.board l.done o ≡ Some (address_in m (here l)) = ok.address o had ∙ ap (λ (j : Known). Some (address_in m j)) knew in
    let of : cache_by opening.board l.done o ≡ Some (here l).cache = ok.cache o had ∙ ap (λ (j : Known). Some j.cache) knew in
    told_answer opening w v x z others Free (here l) r ac (spoken-on w v l r sp) (spoken-counts w v l r sp) doing refl (answers-here l z.local r after) (record {
      below = place-inside m opening.board p l Free doing refl ok;
      same = refl;
      holds = mine;
      address = λ _. at;
      cache = λ _. of;
      tells = λ _. (at, of, real);
      unknown = λ _. inl refl;
      moved = refl;
      asks = omega arith;
      cause = (doing.same_kind, damaged, ((here l).cache, rw (doing.object refl) of, checks), rw (doing.object refl) (elim (ok.source busy) [ inl a ↦ inl a | inr b ↦ inr (address_in m (here l), b) ]));
    })
    (written-spoken opening w v x z others Free (here l) r ac sp doing refl refl (answers-here l z.local r after)
    (λ a y h wrote.
    let h' : (known_of l.known (here l).object).held ≡ true = ap (λ (j : Known). j.held) knew ∙ h in (
      subst (λ (j : Known). 8 * (a + 1) ≤ (w.setup.layout j.cache).object_size) knew (wr.inside (here l).object a y h' wrote),
      λ plain. absurd (false≢true (sym plain ∙ checks)),
    )))
