-- An object is taken from the board, and is then freed.
use Rattle.std.proofs.Common.{◌≡◌, ℕ, ◌<◌, ◌≤◌, ◌&&◌, true, false, eqb, List, [], ◌∷◌, length, set, refl, sym, ap, ◌∙◌, subst, arith, inl, inr, Some, None, Option}
use Rattle.std.proofs.lemmas.Bool.{cases_eq, eq-eqb, ne_eqb, false≢true}
use Rattle.std.proofs.lemmas.Option.{none-some}
use Rattle.std.proofs.lemmas.List.{get_or-set_same}
use Rattle.std.proofs.lemmas.List.Elements.{All-cons, All-head, All-set}
use Rattle.slub_words.specs.declared.board.BoardWord.{BoardWord}
use Rattle.slub_trace.specs.declared.reply.Reply.{Reply}
use Rattle.slub_trace.specs.declared.reply.Reply.TheVariants as reply
use Rattle.slub_core.specs.declared.call.Call.{Call}
use Rattle.slub_core.specs.declared.call.CallKind.{CallKind}
use Rattle.slub_core.specs.declared.call.CallKind.TheVariants.{Free}
use Rattle.slub_core.specs.declared.local.Known.{Known}
use Rattle.slub_core.specs.declared.local.Answered.{Answered}
use Rattle.slub_core.specs.Calls.{call_object}
use Rattle.slub_core.specs.Setup.{Setup}
use Rattle.slub_core.specs.World.{World, set_board, update, one_if}
use Rattle.slub_core.specs.Local.{Local, Worker, nobody, here, address_in}
use Rattle.slub_core.specs.Spots.{doing, is_freeing}
use Rattle.slub_core.specs.Replies.{is_given, given_in, cache_after, cache_by, address_by, address_on, holding, holds_after, last_wrote, wrote_after, Public, Cause, Caused}
use Rattle.slub_core.specs.Accounted.{boarded, public, known_of, NamesCache, HasWritten, IsAccounted}
use Rattle.slub_core.proofs.Update.{update_at, update_other}
use Rattle.slub_core.proofs.TaleKnowns.{known_of-here, known_of-other, fits-set, distinct-set}
use Rattle.slub_core.proofs.TaleStep.{told-later, told_step}
use Rattle.slub_core.proofs.TaleQuiet.{others-written}
use Rattle.slub_core.proofs.TaleAnswer.{place-here}
use Rattle.slub_core.proofs.TaleReplies.{told-of, written-of, known-here, place-inside, freeing-frees}
use Rattle.slub_core.proofs.TaleGiven.{address-ungiven, ungiven}

-- a worker that doesn't hold an object has no written words of it
pub wrote-holding : (m : Setup) (before : ℕ → Option BoardWord) (p : Public) (ds : List Answered) (o a y : ℕ) → Caused m before p ds → last_wrote ds o a ≡ Some y → holding ds o ≡ true
wrote-holding m before p [] o a y caused w = absurd (none-some y w)
wrote-holding m before p (d ∷ ds) o a y caused w = let rest = wrote-holding m before p ds o a y caused.1 in elim (cases_eq (call_object d.call) o) [
  | inl e ↦ (let w' : wrote_after d.call d.reply a (last_wrote ds o a) ≡ Some y = rw (eq-eqb (call_object d.call) o e) at w in rw (eq-eqb (call_object d.call) o e) (by_reply rest d.call d.reply e caused.0 w'))
  | inr n ↦ (let w' : last_wrote ds o a ≡ Some y = rw (ne_eqb (call_object d.call) o n) at w in rw (ne_eqb (call_object d.call) o n) (rest w'))
]
  where
    by_reply : (last_wrote ds o a ≡ Some y → holding ds o ≡ true) → (c : Call) (r : Reply) → call_object c ≡ o → Cause m before p ds c r → wrote_after c r a (last_wrote ds o a) ≡ Some y → holds_after r (holding ds o) ≡ true
    by_reply rest c (reply.Given b) is h w = refl
    by_reply rest c (reply.Freed b) is h w = absurd (none-some y w)
    by_reply rest c (reply.Corrupt d) is h w = refl
    by_reply rest c reply.Wrote is h w = ap (holding ds) (sym is) ∙ h.1
    by_reply rest c reply.NoFrames is h w = rest w
    by_reply rest c reply.NoSuchCache is h w = rest w
    by_reply rest c reply.NoMemory is h w = rest w
    by_reply rest c (reply.IdsSpent t) is h w = rest w
    by_reply rest c reply.NotHeld is h w = rest w
    by_reply rest c (reply.Value v) is h w = rest w
    by_reply rest c reply.OutOfObject is h w = rest w
    by_reply rest c reply.Poked is h w = rest w
    by_reply rest c reply.OutOfSlot is h w = rest w
    by_reply rest c reply.NotChecked is h w = rest w
    by_reply rest c (reply.Trimmed n) is h w = rest w
    by_reply rest c reply.Checked is h w = rest w
    by_reply rest c (reply.Flushed n) is h w = rest w

-- a number that was not given is of the cache that it had on the board before
cache-ungiven : (before : ℕ → Option BoardWord) (ds : List Answered) (o : ℕ) (k : ℕ) → given_in o ds ≡ 0 → cache_by before [] o ≡ Some k → cache_by before ds o ≡ Some k
cache-ungiven before [] o k none is = is
cache-ungiven before (d ∷ ds) o k none is =
    let rest = cache-ungiven before ds o k (omega arith) is in
    elim (cases_eq (call_object d.call) o) [
      | inl e ↦ rw (eq-eqb (call_object d.call) o e) (by_reply d.call d.reply (let z : one_if (is_given d.reply && eqb (call_object d.call) o) ≡ 0 = omega arith in rw (eq-eqb (call_object d.call) o e) at z) ∙ rest)
      | inr n ↦ rw (ne_eqb (call_object d.call) o n) rest
    ]
  where
    by_reply : (c : Call) (r : Reply) {x : Option ℕ} → one_if (is_given r && true) ≡ 0 → cache_after c r x ≡ x
    by_reply c (reply.Given a) z = absurd (omega arith)
    by_reply c (reply.Freed a) z = refl
    by_reply c (reply.Corrupt d) z = refl
    by_reply c reply.Wrote z = refl
    by_reply c reply.NoFrames z = refl
    by_reply c reply.NoSuchCache z = refl
    by_reply c reply.NoMemory z = refl
    by_reply c (reply.IdsSpent t) z = refl
    by_reply c reply.NotHeld z = refl
    by_reply c (reply.Value v) z = refl
    by_reply c reply.OutOfObject z = refl
    by_reply c reply.Poked z = refl
    by_reply c reply.OutOfSlot z = refl
    by_reply c reply.NotChecked z = refl
    by_reply c (reply.Trimmed n) z = refl
    by_reply c reply.Checked z = refl
    by_reply c (reply.Flushed n) z = refl

-- the object of a board word, as the worker then knows it
abbrev pub taken_known : Local → BoardWord → Known
taken_known l b = record { object = (here l).object; frame = b.frame; index = b.index; cache = b.cache; held = true }

-- the worker after it, which frees the object
pub record Takes (l n : Local) (b : BoardWord) : Type 0 where
  pub known : n.known ≡ set l.known l.place (taken_known l b)
  pub done : n.done ≡ l.done
  pub todo : n.todo ≡ l.todo
  pub place : n.place ≡ l.place
  pub freeing : is_freeing n.spot ≡ true
  pub call : doing n.spot ≡ Some Free

pub told_take : (opening w : World) (x z : Worker) (others : List Worker) (b : BoardWord) → IsAccounted opening w (x ∷ others) → doing x.local.spot ≡ Some Free → is_freeing x.local.spot ≡ false → (here x.local).held ≡ false
    → w.board (here x.local).object ≡ Some b → 1 ≤ b.frame → Takes x.local z.local b → IsAccounted opening (set_board w (here x.local).object None) (z ∷ others)
told_take opening w x z others b ac at idle free there real takes =
    let l = x.local in
    let m = w.setup in
    let v = set_board w (here l).object None in
    let p = public w (x ∷ others) in
    let ok = told-of opening w x others ac in
    let wr = written-of opening w x others ac in
    let doing' = (ok.call Free at).0 in
    let below = place-inside m opening.board p l Free doing' refl ok in
    let place = place-here m opening.board p l Free doing' refl ok in
    let n = (here l).object in
    let k = taken_known l b in
    let knew : known_of (set l.known l.place k) n ≡ k = known_of-here l.known l.place k n below refl place in
    let other : (o : ℕ) → (o ≡ n → ⊥) → known_of (set l.known l.place k) o ≡ known_of l.known o = λ o d. known_of-other l.known l.place k o below refl d in
    let first : opening.board n ≡ Some b = elim (ac.stands n) [ inl e ↦ absurd (none-some b (sym e ∙ there)) | inr e ↦ sym e ∙ there ] in
    let zero = All-head (λ (x : Worker). given_in n x.local.done ≡ 0) x others (ungiven opening w (x ∷ others) n b ac first) in
    let addressed : address_by m opening.board l.done n ≡ Some (address_in m k) = address-ungiven m opening.board l.done n zero ∙ ap (address_on m) first in
    let cached : cache_by opening.board l.done n ≡ Some b.cache = cache-ungiven opening.board l.done n b.cache zero (cached-first opening.board n b first) in
    let unheld : holding l.done n ≡ false = sym (ok.holds n (λ f. absurd (false≢true (sym idle ∙ f)))) ∙ ap (λ (j : Known). j.held) (known-here l place) ∙ free in
    let mine : (here z.local).object ≡ n = object-of z.local l k takes.known takes.place below in
    told_step opening w v x z others ac
    (record { setup = refl; tids = λ n. omega arith; less = λ o. elim (cases_eq o n) [ inl e ↦ inl (update_at w.board n None o e) | inr d ↦ inr (update_other w.board n None o d) ] })
    (record {
      count = λ o. rw (takes.known, takes.done) (elim (cases_eq o n) [
        | inl e ↦
            let a : boarded (update w.board n None o) ≡ 0 = ap boarded (update_at w.board n None o e) in
            let c : boarded (w.board o) ≡ 1 = ap (λ q. boarded (w.board q)) e ∙ ap boarded there in
            let now : one_if (known_of (set l.known l.place k) o).held ≡ 1 = ap (λ q. one_if (known_of (set l.known l.place k) q).held) e ∙ ap (λ (j : Known). one_if j.held) knew in
            let was : one_if (known_of l.known o).held ≡ 0 = ap (λ q. one_if (known_of l.known q).held) e ∙ ap (λ (j : Known). one_if j.held) (known-here l place) ∙ ap one_if free in
            omega arith
        | inr d ↦
            let a : boarded (update w.board n None o) ≡ boarded (w.board o) = ap boarded (update_other w.board n None o d) in
            let now : one_if (known_of (set l.known l.place k) o).held ≡ one_if (known_of l.known o).held = ap (λ (j : Known). one_if j.held) (other o d) in
            omega arith
      ]);
      asks = λ o. rw (takes.done, takes.todo) (omega arith);
      frees = λ o. rw takes.done (omega arith);
      few = rw (takes.done, takes.todo) (omega arith);
      dry = λ order. rw takes.done (omega arith);
    })
    (λ q later. let ok = told-later m opening.board _ q l later ok in record {
      caused = rw takes.done ok.caused;
      holds = λ o not. rw (takes.known, takes.done) (elim (cases_eq o n) [
        | inl e ↦ absurd (not takes.freeing (e ∙ sym mine))
        | inr d ↦ rw (other o d) (ok.holds o (λ f. absurd (false≢true (sym idle ∙ f))))
      ]);
      source = λ _. inr (rw mine (ap (address_on m) first ∙ ap (λ (j : Known). Some (address_in m j)) (sym (here-of z.local l k takes.known takes.place below))));
      address = λ o. rw (takes.known, takes.done) (elim (cases_eq o n) [ inl e ↦ rw (e, knew) (λ _. addressed) | inr d ↦ rw (other o d) (ok.address o) ]);
      cache = λ o. rw (takes.known, takes.done) (elim (cases_eq o n) [ inl e ↦ rw (e, knew) (λ _. cached) | inr d ↦ rw (other o d) (ok.cache o) ]);
      tells = λ o. rw (takes.known, takes.done) (elim (cases_eq o n) [ inl e ↦ rw (e, knew) (λ _. (addressed, cached, real)) | inr d ↦ rw (other o d) (ok.tells o) ]);
      unknown = λ o. rw (takes.known, takes.done) (elim (cases_eq o n) [ inl e ↦ rw (e, knew) (λ _. inr refl) | inr d ↦ rw (other o d) (ok.unknown o) ]);
      call = λ kind e. let d = (ok.call kind (at ∙ sym takes.call ∙ e)).0 in (
        record { some = rw takes.todo d.some; same_kind = rw takes.todo d.same_kind; object = λ names. rw takes.todo (d.object names ∙ sym mine); place = rw (takes.todo, takes.place) d.place },
        subst (NamesCache z.local) (kind-same (sym takes.call ∙ e)) tt,
      );
      fits = rw (takes.known, takes.todo) (fits-set m l.known l.place k l.todo refl ok.fits);
      distinct = rw takes.known (distinct-set l.known l.place k refl ok.distinct);
      numbers = rw takes.known (All-set (λ (k : Known). k.object < m.objects) l.known l.place k (ok.numbers l.place nobody below) ok.numbers);
    })
    (All-cons (λ (o : Worker). HasWritten v opening.board o.local) z others (record {
      stands = λ o a y _. rw (takes.known, takes.done) (elim (cases_eq o n) [
        | inl e ↦ λ h q wrote. absurd (false≢true (sym unheld ∙ ap (holding l.done) (sym e) ∙ wrote-holding m opening.board p l.done o a y ok.caused wrote))
        | inr d ↦ rw (other o d) (λ h q wrote. wr.stands o a y (λ f. absurd (false≢true (sym (freeing-frees l.spot idle) ∙ f))) h q wrote)
      ]);
      inside = λ o a y. rw (takes.known, takes.done) (elim (cases_eq o n) [
        | inl e ↦ λ h wrote. absurd (false≢true (sym unheld ∙ ap (holding l.done) (sym e) ∙ wrote-holding m opening.board p l.done o a y ok.caused wrote))
        | inr d ↦ rw (other o d) (λ h wrote. wr.inside o a y h wrote)
      ]);
      reads = rw (takes.done, takes.todo) wr.reads;
      new = rw takes.done wr.new;
    }) (others-written w v opening.board x others refl (λ p. refl) ac.written))
  where
    object-of : (n l : Local) (k : Known) → n.known ≡ set l.known l.place k → n.place ≡ l.place → l.place < length l.known → (here n).object ≡ k.object
    object-of n l k known place below = rw (known, place) (ap (λ (j : Known). j.object) (get_or-set_same l.known l.place k nobody below))

    here-of : (n l : Local) (k : Known) → n.known ≡ set l.known l.place k → n.place ≡ l.place → l.place < length l.known → here n ≡ k
    here-of n l k known place below = rw (known, place) (get_or-set_same l.known l.place k nobody below)

    cached-first : (before : ℕ → Option BoardWord) (n : ℕ) (b : BoardWord) → before n ≡ Some b → cache_by before [] n ≡ Some b.cache
    cached-first before n b e = rw e refl

    kind-same : {a b : CallKind} → Some a ≡ Some b → a ≡ b
    kind-same e = cc
