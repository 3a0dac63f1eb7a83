-- What a step owes of the words that workers wrote in the objects that they hold.
use Rattle.std.proofs.Common.{◌≡◌, ◌≢◌, ℕ, zero, suc, ◌+◌, ◌*◌, ◌<◌, ◌≤◌, true, false, eqb, ◌&&◌, List, [], ◌∷◌, length, get_or, set, drop, refl, sym, ap, ◌∙◌, subst, arith, inl, inr, Some, None, Option}
use Rattle.std.specs.Prelude.{All, sum_by}
use Rattle.std.proofs.lemmas.Bool.{cases_eq, cases_Bool, eq-eqb, ne_eqb, false≢true}
use Rattle.std.proofs.lemmas.List.Sums.{sum_by-cons, get_or-le-sum_by}
use Rattle.std.proofs.lemmas.List.Elements.{All-cons, All-head, All-tail}
use Rattle.slub_words.specs.declared.board.BoardWord.{BoardWord}
use Rattle.slub_trace.specs.declared.reply.Reply.{Reply}
use Rattle.slub_core.specs.declared.call.Call.{Call}
use Rattle.slub_core.specs.declared.call.CallKind.{CallKind}
use Rattle.slub_core.specs.declared.local.Known.{Known}
use Rattle.slub_core.specs.Calls.{call_kind, call_object}
use Rattle.slub_core.specs.Setup.{Setup, word_at}
use Rattle.slub_core.specs.World.{World, content, set_memory, exists_at, object_at, one_if}
use Rattle.slub_core.specs.Local.{Local, Worker, nobody, no_call, here, call_of}
use Rattle.slub_core.specs.Spots.{frees}
use Rattle.slub_core.specs.Placed.{held_as, owned}
use Rattle.slub_core.specs.Coherent.{Stands}
use Rattle.slub_core.specs.Replies.{is_alloc, names_object, last_wrote, wrote_after, asked_in}
use Rattle.slub_core.specs.Accounted.{boarded, place_of, known_of, calls_of, AreReadable, IsDoing, HasWritten, IsAccounted}
use Rattle.slub_core.proofs.Exists.{IsPlainObject, plain-object, owned-object, object_at-le, alone}
use Rattle.slub_core.proofs.ValueStep.{known-owned}
use Rattle.slub_core.proofs.Slots.{IsWordOf, word-word}
use Rattle.slub_core.proofs.Apart.{one-object}
use Rattle.slub_core.proofs.Update.{update_other}
use Rattle.slub_core.proofs.TaleKnowns.{known_of-here, known_of-other, asked-drop, held-inside, place_of-object}
use Rattle.slub_core.proofs.TaleQuiet.{content-same}
use Rattle.slub_core.proofs.TaleAnswer.{Answers}

-- ---- a reply

readable-drop : (past cs : List Call) → 1 ≤ length cs → AreReadable past cs → AreReadable (get_or cs 0 no_call ∷ past) (drop 1 cs)
readable-drop past [] some ok = absurd (omega arith)
readable-drop past (c ∷ cs) some ok = ok.1

none-boarded : (b : Option BoardWord) → boarded b ≡ 0 → b ≡ None
none-boarded None z = refl
none-boarded (Some b) z = absurd (omega arith)

-- a number that is to be given was not on the board before
pub asked-new : (opening w : World) (x : Worker) (others : List Worker) → IsAccounted opening w (x ∷ others) → 1 ≤ length x.local.todo → is_alloc (call_kind (call_of x.local)) ≡ true → opening.board (call_object (call_of x.local)) ≡ None
asked-new opening w x others ac some is =
    let o = call_object (call_of x.local) in
    let a = asked-drop o x.local.todo some in
    let b : one_if (is_alloc (call_kind (call_of x.local)) && eqb (call_object (call_of x.local)) o) ≡ 1 = rw (is, eq-eqb o o refl) refl in
    let c = ac.once o in
    let s = sum_by-cons (λ (x : Worker). asked_in o x.local.todo) x others in
    none-boarded (opening.board o) (omega arith)

-- the words of the object of the call are those that it wrote, and each other word that it wrote stays
pub written-answer : (w v : World) (before : ℕ → Option BoardWord) (l n : Local) (kind : CallKind) (k : Known) (r : Reply) → HasWritten w before l → v.setup ≡ w.setup → l.place < length l.known → k.object ≡ (here l).object
    → IsDoing l kind → names_object kind ≡ true → l.place ≡ place_of l.known (here l).object → Answers l n k r → (is_alloc (call_kind (call_of l)) ≡ true → before (call_object (call_of l)) ≡ None)
    → ((o a : ℕ) → (o ≡ (here l).object → ⊥) → (known_of l.known o).held ≡ true → w.setup.checks (known_of l.known o).cache ≡ false → 8 * (a + 1) ≤ (w.setup.layout (known_of l.known o).cache).object_size
    → content v (known_of l.known o).cache (known_of l.known o).frame (known_of l.known o).index a ≡ content w (known_of l.known o).cache (known_of l.known o).frame (known_of l.known o).index a)
    → ((a y : ℕ) → k.held ≡ true → wrote_after (call_of l) r a (last_wrote l.done (here l).object a) ≡ Some y
    → (8 * (a + 1) ≤ (w.setup.layout k.cache).object_size) × (w.setup.checks k.cache ≡ false → content v k.cache k.frame k.index a ≡ y))
    → HasWritten v before n
written-answer w v before l n kind k r ok setup below same doing names place after fresh far mine =
    let knew : known_of (set l.known l.place k) (here l).object ≡ k = known_of-here l.known l.place k (here l).object below same place in
    let other : (o : ℕ) → (call_object (call_of l) ≡ o → ⊥) → known_of (set l.known l.place k) o ≡ known_of l.known o = λ o d. known_of-other l.known l.place k o below same (λ z. d ((doing.object names) ∙ sym z)) in
    record {
      stands = λ o a y _. rw (after.known, after.done) (elim (cases_eq (call_object (call_of l)) o) [
        | inl e ↦ let o' : o ≡ (here l).object = sym e ∙ (doing.object names) in rw (eq-eqb (call_object (call_of l)) o e, o', knew) (λ h p wr. (mine a y h wr).1 (ap (λ (m : Setup). m.checks k.cache) (sym setup) ∙ p))
        | inr d ↦ rw (ne_eqb (call_object (call_of l)) o d, other o d) (λ h p wr.
            let p' : w.setup.checks (known_of l.known o).cache ≡ false = ap (λ (m : Setup). m.checks (known_of l.known o).cache) (sym setup) ∙ p in
            far o a (λ z. d ((doing.object names) ∙ sym z)) h p' (ok.inside o a y h wr) ∙ ok.stands o a y (λ _ z. d ((doing.object names) ∙ sym z)) h p' wr)
      ]);
      inside = λ o a y. rw (after.known, after.done) (elim (cases_eq (call_object (call_of l)) o) [
        | inl e ↦ let o' : o ≡ (here l).object = sym e ∙ (doing.object names) in rw (eq-eqb (call_object (call_of l)) o e, o', knew) (λ h wr. rw setup (mine a y h wr).0)
        | inr d ↦ rw (ne_eqb (call_object (call_of l)) o d, other o d) (λ h wr. rw setup (ok.inside o a y h wr))
      ]);
      reads = rw (after.done, after.todo) (readable-drop (calls_of l.done) l.todo doing.some ok.reads);
      new = λ o. rw after.done (elim (cases_eq (call_object (call_of l)) o) [
        | inl e ↦ elim (cases_Bool (is_alloc (call_kind (call_of l)))) [
          | inl t ↦ λ _. ap before (sym e) ∙ fresh t
          | inr f ↦ rw (eq-eqb (call_object (call_of l)) o e, f) (ok.new o)
        ]
        | inr d ↦ rw (ne_eqb (call_object (call_of l)) o d) (ok.new o)
      ]);
    }

-- a reply after which the worker has what it had: so are the words
pub written-told : (w v : World) (before : ℕ → Option BoardWord) (l n : Local) (r : Reply) → HasWritten w before l → v.setup ≡ w.setup → ((p : ℕ) → v.memory p ≡ w.memory p) → frees l.spot ≡ false → 1 ≤ length l.todo
    → n.known ≡ l.known → n.done ≡ (record { call = call_of l; reply = r }) ∷ l.done → n.todo ≡ drop 1 l.todo → ((o a : ℕ) → last_wrote (record { call = call_of l; reply = r } ∷ l.done) o a ≡ last_wrote l.done o a)
    → (is_alloc (call_kind (call_of l)) ≡ true → before (call_object (call_of l)) ≡ None) → HasWritten v before n
written-told w v before l n r ok setup memory idle some known done todo wrote fresh = record {
  stands = λ o a y _. rw (known, done) (λ h p wr. content-same w v setup memory _ _ _ a ∙ ok.stands o a y (λ f. absurd (false≢true (sym idle ∙ f))) h (ap (λ (m : Setup). m.checks (known_of l.known o).cache) (sym setup) ∙ p) (sym (wrote o a) ∙ wr));
  inside = λ o a y. rw (known, done) (λ h wr. rw setup (ok.inside o a y h (sym (wrote o a) ∙ wr)));
  reads = rw (done, todo) (readable-drop (calls_of l.done) l.todo some ok.reads);
  new = λ o. rw done (elim (cases_eq (call_object (call_of l)) o) [
    | inl e ↦ elim (cases_Bool (is_alloc (call_kind (call_of l)))) [
      | inl t ↦ λ _. ap before (sym e) ∙ fresh t
      | inr f ↦ rw (eq-eqb (call_object (call_of l)) o e, f) (ok.new o)
    ]
    | inr d ↦ rw (ne_eqb (call_object (call_of l)) o d) (ok.new o)
  ]);
}

-- ---- a store

-- an object of an unchecked cache that a worker holds
pub held-plain : (w : World) (xs : List Worker) (k : ℕ) (d : Worker) → Stands w xs → k < length xs → (o : ℕ) → (known_of (get_or xs k d).local.known o).held ≡ true → w.setup.checks (known_of (get_or xs k d).local.known o).cache ≡ false
    → IsPlainObject w (known_of (get_or xs k d).local.known o).cache (known_of (get_or xs k d).local.known o).frame (known_of (get_or xs k d).local.known o).index
    × (1 ≤ exists_at w (known_of (get_or xs k d).local.known o).frame (known_of (get_or xs k d).local.known o).index)
    × (1 ≤ owned (known_of (get_or xs k d).local.known o).frame (known_of (get_or xs k d).local.known o).index (get_or xs k d))
held-plain w xs k d s below o is plain =
    let x = get_or xs k d in
    let q = known_of x.local.known o in
    let inside = held-inside x.local.known o is in
    let has = known-owned x (place_of x.local.known o) nobody inside is in
    let most = owned-object w s.chains xs q.frame q.index s.placed k d below in
    let cache = (s.fresh.workers k d below).seen.known (place_of x.local.known o) nobody inside is in
    let obj = plain-object w s.chains q.cache q.frame q.index s.listed.shaped plain cache (omega arith) in
    let e = obj.exists in
    (obj, omega arith, has)

-- a word of it is no word of another object
pub far-word : (w : World) (xs : List Worker) (k : ℕ) (d : Worker) → Stands w xs → k < length xs → (o a f i p : ℕ) → (known_of (get_or xs k d).local.known o).held ≡ true → w.setup.checks (known_of (get_or xs k d).local.known o).cache ≡ false
    → 8 * (a + 1) ≤ (w.setup.layout (known_of (get_or xs k d).local.known o).cache).object_size → 1 ≤ exists_at w f i → IsWordOf (w.setup.layout (w.slab f).cache) f i p
    → ((known_of (get_or xs k d).local.known o).frame ≡ f → (known_of (get_or xs k d).local.known o).index ≡ i → ⊥)
    → word_at w.setup (known_of (get_or xs k d).local.known o).cache (known_of (get_or xs k d).local.known o).frame (known_of (get_or xs k d).local.known o).index a ≢ p
far-word w xs k d s below o a f i p is plain inside some at_p away same =
    let q = known_of (get_or xs k d).local.known o in
    let h = held-plain w xs k d s below o is plain in
    let live : w.setup.lives q.cache ≡ true = rw h.0.cache (s.listed.shaped.plain q.frame h.0.live).1 in
    let word : IsWordOf (w.setup.layout q.cache) q.frame q.index p = subst (λ p. IsWordOf (w.setup.layout q.cache) q.frame q.index p) same (word-word w.setup q.cache q.frame q.index a s.fresh.setup live inside) in
    let one = one-object w xs f i q.frame q.index p s some h.1 at_p (subst (λ c. IsWordOf (w.setup.layout c) q.frame q.index p) h.0.cache word) in
    away one.0 one.1

-- no word that this worker wrote in an object that it holds is this word of memory: but in the one that it frees
abbrev pub Spares : World → Local → ℕ → Type 0
Spares w l p = (o a : ℕ) → (frees l.spot ≡ true → o ≡ (here l).object → ⊥) → (known_of l.known o).held ≡ true → w.setup.checks (known_of l.known o).cache ≡ false
    → 8 * (a + 1) ≤ (w.setup.layout (known_of l.known o).cache).object_size → word_at w.setup (known_of l.known o).cache (known_of l.known o).frame (known_of l.known o).index a ≢ p

-- what it wrote stays where such a word is stored
pub written-spared : (w : World) (before : ℕ → Option BoardWord) (l : Local) (p v : ℕ) → Spares w l p → HasWritten w before l → HasWritten (set_memory w p v) before l
written-spared w before l p v spares ok = record {
  stands = λ o a y not is plain wrote. update_other w.memory p v _ (spares o a not is plain (ok.inside o a y is wrote)) ∙ ok.stands o a y not is plain wrote;
  inside = ok.inside;
  reads = ok.reads;
  new = ok.new;
}

-- a word of an object that one worker has in hand or holds is none that another wrote
pub others-spare : (w : World) (x : Worker) (others : List Worker) (f i p : ℕ) → Stands w (x ∷ others) → 1 ≤ owned f i x → 1 ≤ exists_at w f i → IsWordOf (w.setup.layout (w.slab f).cache) f i p
    → All (λ (o : Worker). Spares w o.local p) others
others-spare w x others f i p s has some at_p k d below o a not is plain inside =
    let rest = (alone w s.chains x others f i s.placed has).rest k d below in
    let h = held-plain w (x ∷ others) (suc k) d s (omega arith) o is plain in
    far-word w (x ∷ others) (suc k) d s (omega arith) o a f i p is plain inside some at_p
    (λ e g. let has' : 1 ≤ owned f i (get_or others k d) = subst (λ f. 1 ≤ owned f i (get_or others k d)) e (subst (λ i. 1 ≤ owned (known_of (get_or others k d).local.known o).frame i (get_or others k d)) g h.2) in absurd (omega arith))

two-held : (f i : ℕ) (ks : List Known) (p q : ℕ) → p < length ks → q < length ks → (p ≡ q → ⊥) → held_as f i (get_or ks p nobody) ≡ 1 → held_as f i (get_or ks q nobody) ≡ 1 → 2 ≤ sum_by (held_as f i) ks
two-held f i [] p q a b d x y = absurd (omega arith)
two-held f i (k ∷ ks) zero zero a b d x y = absurd (d refl)
two-held f i (k ∷ ks) zero (suc q) a b d x y = let s = sum_by-cons (held_as f i) k ks in let t = get_or-le-sum_by (held_as f i) ks q nobody (omega arith) in omega arith
two-held f i (k ∷ ks) (suc p) zero a b d x y = let s = sum_by-cons (held_as f i) k ks in let t = get_or-le-sum_by (held_as f i) ks p nobody (omega arith) in omega arith
two-held f i (k ∷ ks) (suc p) (suc q) a b d x y = let s = sum_by-cons (held_as f i) k ks in let r = two-held f i ks p q (omega arith) (omega arith) (λ e. d (ap suc e)) x y in omega arith

pub held_as-one : (k : Known) (f i : ℕ) → k.held ≡ true → k.frame ≡ f → k.index ≡ i → held_as f i k ≡ 1
held_as-one k f i h e g = rw (h, eq-eqb k.frame f e, eq-eqb k.index i g) refl

-- nor is a word of the object of its call one of another object that it holds
pub mine-spares : (w : World) (x : Worker) (others : List Worker) (p : ℕ) → Stands w (x ∷ others) → x.local.place < length x.local.known → (here x.local).held ≡ true → 1 ≤ exists_at w (here x.local).frame (here x.local).index
    → IsWordOf (w.setup.layout (w.slab (here x.local).frame).cache) (here x.local).frame (here x.local).index p
    → (o a : ℕ) → (o ≡ (here x.local).object → ⊥) → (known_of x.local.known o).held ≡ true → w.setup.checks (known_of x.local.known o).cache ≡ false
    → 8 * (a + 1) ≤ (w.setup.layout (known_of x.local.known o).cache).object_size → word_at w.setup (known_of x.local.known o).cache (known_of x.local.known o).frame (known_of x.local.known o).index a ≢ p
mine-spares w x others p s inside mine some at_p o a other is plain within =
    let f = (here x.local).frame in
    let i = (here x.local).index in
    far-word w (x ∷ others) 0 x s (omega arith) o a f i p is plain within some at_p
    (λ e g.
    let there = held-inside x.local.known o is in
    let two = two-held f i x.local.known x.local.place (place_of x.local.known o) inside there (λ z. other (sym (place_of-object x.local.known o there) ∙ ap (λ q. (get_or x.local.known q nobody).object) (sym z)))
    (held_as-one (here x.local) f i mine refl refl) (held_as-one (known_of x.local.known o) f i is e g) in
    let most : owned f i x ≤ object_at w f i = owned-object w s.chains (x ∷ others) f i s.placed 0 x (omega arith) in
    let one = object_at-le w f i in
    absurd (omega arith))

pub all-written : (w : World) (before : ℕ → Option BoardWord) (p v : ℕ) (xs : List Worker) → All (λ (o : Worker). Spares w o.local p) xs → All (λ (o : Worker). HasWritten w before o.local) xs → All (λ (o : Worker). HasWritten (set_memory w p v) before o.local) xs
all-written w before p v xs spare all k d below = written-spared w before (get_or xs k d).local p v (spare k d below) (all k d below)

-- a word of memory is stored in which no worker wrote, in an object that it holds
pub told_stored : (opening w : World) (x : Worker) (others : List Worker) (p v : ℕ) → IsAccounted opening w (x ∷ others) → Spares w x.local p → All (λ (o : Worker). Spares w o.local p) others → IsAccounted opening (set_memory w p v) (x ∷ others)
told_stored opening w x others p v ac mine theirs = record {
  setup = ac.setup;
  tids = ac.tids;
  within = ac.within;
  stands = ac.stands;
  count = ac.count;
  once = ac.once;
  few = ac.few;
  dry = ac.dry;
  told = ac.told;
  written = All-cons (λ (o : Worker). HasWritten (set_memory w p v) opening.board o.local) x others
      (written-spared w opening.board x.local p v mine (All-head (λ (o : Worker). HasWritten w opening.board o.local) x others ac.written))
      (all-written w opening.board p v others theirs (All-tail (λ (o : Worker). HasWritten w opening.board o.local) x others ac.written));
}
