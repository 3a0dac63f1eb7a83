-- Words of objects: free pointers that are stored, writes, and reads of what was written.
use Rattle.std.proofs.Common.{◌≡◌, ◌≢◌, ℕ, suc, ◌+◌, ◌*◌, ◌/◌, ◌<◌, ◌≤◌, true, false, eqb, List, [], ◌∷◌, length, get_or, refl, sym, ap, ◌∙◌, subst, arith, inl, inr, Some, Option}
use Rattle.std.specs.Prelude.{nat_le}
use Rattle.std.proofs.lemmas.Bool.{cases_eq, cases_Bool, eq-eqb, ne_eqb, false≢true, leb-true, le-leb, eqb-true}
use Rattle.std.proofs.lemmas.List.Elements.{All-cons, All-head, All-tail}
use Rattle.slub_words.specs.declared.board.BoardWord.{BoardWord}
use Rattle.slub_object_layout.specs.declared.layout.Layout.{Layout}
use Rattle.slub_trace.specs.declared.reply.Reply.{Reply}
use Rattle.slub_trace.specs.declared.reply.Reply.TheVariants as reply
use Rattle.slub_core.specs.declared.call.Call.{Call}
use Rattle.slub_core.specs.declared.call.CallKind.{CallKind}
use Rattle.slub_core.specs.declared.call.CallKind.TheVariants.{Alloc, Write, Read, Poke, Trim, Flush}
use Rattle.slub_core.specs.declared.local.Known.{Known}
use Rattle.slub_core.specs.declared.local.FrameRun.{FrameRun}
use Rattle.slub_core.specs.declared.local.Answered.{Answered}
use Rattle.slub_core.specs.declared.spot.Spot.TheVariants.{WriteWord, ReadWord}
use Rattle.slub_core.specs.declared.step.Answer.TheVariants.{Word, Done}
use Rattle.slub_core.specs.Calls.{call_kind, call_object, call_word, call_value}
use Rattle.slub_core.specs.Setup.{Setup, pointer_at, word_at}
use Rattle.slub_core.specs.World.{World, LockValue, content, set_memory, exists_at, object_at, covers}
use Rattle.slub_core.specs.Local.{Worker, nobody, no_call, here, call_of}
use Rattle.slub_core.specs.Spots.{frees, in_plain}
use Rattle.slub_core.specs.Steps.{told, advance_at, is_outside}
use Rattle.slub_core.specs.Placed.{held, in_hands, owned}
use Rattle.slub_core.specs.Listed.{covered_by}
use Rattle.slub_core.specs.Fresh.{IsAtWork}
use Rattle.slub_core.specs.Coherent.{Stands}
use Rattle.slub_core.specs.Replies.{holds_after, holding, cache_after, cache_by, wrote_after, last_wrote, Public, Cause, Caused}
use Rattle.slub_core.specs.Accounted.{public, known_of, calls_of, written, written_by, MayCome, AreReadable, HasWritten, IsAccounted}
use Rattle.slub_core.proofs.Counts.{roles-cons}
use Rattle.slub_core.proofs.Update.{update_same, update_other, term_le_sum}
use Rattle.slub_core.proofs.Exists.{IsPlainObject, plain-object, owned-object, object_at-le, exists_at-within}
use Rattle.slub_core.proofs.StepValues.{word-objects}
use Rattle.slub_core.proofs.ValueStep.{known-owned}
use Rattle.slub_core.proofs.Slots.{IsWordOf, pointer-word, word-word, sized-fits}
use Rattle.slub_core.proofs.Apart.{slab-covers, run-covers, held-run, run-live, role-most}
use Rattle.slub_core.proofs.TaleQuiet.{IsQuiet, told_quiet}
use Rattle.slub_core.proofs.TaleAnswer.{place-here}
use Rattle.slub_core.proofs.TaleWritten.{asked-new, written-answer, held-plain, far-word, Spares, others-spare, mine-spares, all-written, told_stored}
use Rattle.slub_core.proofs.TaleReplies.{AnswersKept, answers-here, spoken, told-of, written-of, known-here, told_kept, told_same}
use Rattle.slub_core.proofs.TaleGiven.{known-object}
use Rattle.slub_core.proofs.TaleSpots.{unseen-same}

at-work : (w : World) (x : Worker) (others : List Worker) → Stands w (x ∷ others) → IsAtWork w x
at-work w x others s = All-head (IsAtWork w) x others s.fresh.workers

-- ---- free pointers

-- the object of the call, of an unchecked cache, that the worker holds
here-plain : (w : World) (x : Worker) (others : List Worker) → Stands w (x ∷ others) → x.local.place < length x.local.known → (here x.local).held ≡ true → w.setup.checks (here x.local).cache ≡ false
    → IsPlainObject w (here x.local).cache (here x.local).frame (here x.local).index × (1 ≤ exists_at w (here x.local).frame (here x.local).index) × (1 ≤ owned (here x.local).frame (here x.local).index x)
here-plain w x others s inside mine plain =
    let k = here x.local in
    let has = known-owned x x.local.place nobody inside mine in
    let most : owned k.frame k.index x ≤ object_at w k.frame k.index = owned-object w s.chains (x ∷ others) k.frame k.index s.placed 0 x (omega arith) in
    let cache = (at-work w x others s).seen.known x.local.place nobody inside mine in
    let obj = plain-object w s.chains k.cache k.frame k.index s.listed.shaped plain cache (omega arith) in
    let e = obj.exists in
    (obj, omega arith, has)

-- a free pointer is stored in the object that is freed
pub told_link : (opening w : World) (x z : Worker) (others : List Worker) (v : ℕ) → IsAccounted opening w (x ∷ others) → Stands w (x ∷ others) → frees x.local.spot ≡ true → in_plain x.local.spot ≡ true → IsQuiet x.local z.local
    → IsAccounted opening (set_memory w (pointer_at w.setup (here x.local).cache (here x.local).frame (here x.local).index) v) (z ∷ others)
told_link opening w x z others v ac s busy plain quiet =
    let k = here x.local in
    let ok = at-work w x others s in
    let room = ok.spot.frees busy in
    let cache : w.setup.checks k.cache ≡ false = rw room.2 (ok.spot.plain plain).2 in
    let obj = here-plain w x others s room.0 room.1 cache in
    let p = pointer_at w.setup k.cache k.frame k.index in
    let live : w.setup.lives k.cache ≡ true = rw room.2 (ok.spot.plain plain).1 in
    let word : IsWordOf (w.setup.layout (w.slab k.frame).cache) k.frame k.index p = subst (λ c. IsWordOf (w.setup.layout c) k.frame k.index p) obj.0.cache (pointer-word w.setup k.cache k.frame k.index s.fresh.setup live) in
    told_quiet opening (set_memory w p v) (set_memory w p v) x z others
    (told_stored opening w x others p v ac (λ o a away is plain within. mine-spares w x others p s room.0 room.1 obj.1 word o a (away busy) is plain within) (others-spare w x others k.frame k.index p s obj.2 obj.1 word))
    (unseen-same _) quiet

-- a free pointer is stored in an object of a chain in hand
pub told_chain : (opening w : World) (x z : Worker) (others : List Worker) (f i p v : ℕ) → IsAccounted opening w (x ∷ others) → Stands w (x ∷ others) → 1 ≤ in_hands f i x.local.hands x.chains → 1 ≤ exists_at w f i
    → IsWordOf (w.setup.layout (w.slab f).cache) f i p → IsQuiet x.local z.local → IsAccounted opening (set_memory w p v) (z ∷ others)
told_chain opening w x z others f i p v ac s has some word quiet =
    told_quiet opening (set_memory w p v) (set_memory w p v) x z others
    (told_stored opening w x others p v ac
    (λ o a away is plain within. far-word w (x ∷ others) 0 x s (omega arith) o a f i p is plain within some word
    (λ e g.
    let h = (known-object w (x ∷ others) 0 x s (omega arith) o is).2 in
    let h' : 1 ≤ held f i x.local = subst (λ f. 1 ≤ held f i x.local) e (subst (λ i. 1 ≤ held (known_of x.local.known o).frame i x.local) g h) in
    let most : owned f i x ≤ object_at w f i = owned-object w s.chains (x ∷ others) f i s.placed 0 x (omega arith) in
    let one = object_at-le w f i in
    absurd (omega arith)))
    (others-spare w x others f i p s (omega arith) some word))
    (unseen-same _) quiet

-- no word of an object lies in a run in hand
run-far : (w : World) (x : Worker) (others : List Worker) (run : FrameRun) (i : ℕ) → Stands w (x ∷ others) → x.local.run ≡ Some run → i < run.objects → (k : ℕ) (d : Worker) → k < length (x ∷ others)
    → Spares w (get_or (x ∷ others) k d).local (pointer_at w.setup x.local.cache run.frame i)
run-far w x others run i s mine below k d within o a away is plain inside same =
    let q = known_of (get_or (x ∷ others) k d).local.known o in
    let p = pointer_at w.setup x.local.cache run.frame i in
    let ok = at-work w x others s in
    let held = held-run w x.local.cache x.local run _ mine ok.seen.run in
    let live = run-live w x run ok mine in
    let fits = sized-fits w.setup x.local.cache run.order run.objects s.fresh.setup live held.sized in
    let c = run-covers w.setup x.local.cache run i p held below fits (pointer-word w.setup x.local.cache run.frame i s.fresh.setup live) in
    let e : covered_by (p / 512) x.local.run ≡ covered_by (p / 512) (Some run) = ap (λ r. covered_by (p / 512) r) mine in
    let split = roles-cons w x others (p / 512) in
    let one = role-most w (x ∷ others) (p / 512) s in
    let h = held-plain w (x ∷ others) k d s within o is plain in
    let lives : w.setup.lives q.cache ≡ true = rw h.0.cache (s.listed.shaped.plain q.frame h.0.live).1 in
    let word : IsWordOf (w.setup.layout (w.slab q.frame).cache) q.frame q.index p
    = subst (λ c. IsWordOf (w.setup.layout c) q.frame q.index p) h.0.cache (subst (λ p. IsWordOf (w.setup.layout q.cache) q.frame q.index p) same (word-word w.setup q.cache q.frame q.index a s.fresh.setup lives inside)) in
    let b = slab-covers w (x ∷ others) q.frame q.index p s h.1 word in
    let there : q.frame < w.setup.frames = (let b = exists_at-within w q.frame q.index h.1 in let e = word-objects w q.frame (omega arith) in s.listed.shaped.within q.frame (omega arith)) in
    let t = term_le_sum w.setup.frames (λ k. covers w (p / 512) k) q.frame there in
    omega arith

-- a free pointer is stored in a run in hand
pub told_run : (opening w : World) (x z : Worker) (others : List Worker) (run : FrameRun) (i v : ℕ) → IsAccounted opening w (x ∷ others) → Stands w (x ∷ others) → x.local.run ≡ Some run → i < run.objects → IsQuiet x.local z.local
    → IsAccounted opening (set_memory w (pointer_at w.setup x.local.cache run.frame i) v) (z ∷ others)
told_run opening w x z others run i v ac s mine below quiet =
    let far = run-far w x others run i s mine below in
    told_quiet opening (set_memory w (pointer_at w.setup x.local.cache run.frame i) v) (set_memory w (pointer_at w.setup x.local.cache run.frame i) v) x z others
    (told_stored opening w x others (pointer_at w.setup x.local.cache run.frame i) v ac (far 0 x (omega arith)) (λ k d within. far (suc k) d (omega arith)))
    (unseen-same _) quiet

-- ---- writes

pub word-inside : (layout : Layout) (c : Call) → is_outside layout (call_word c) ≡ false → 8 * (call_word c + 1) ≤ layout.object_size
word-inside layout c is = elim (cases_Bool (nat_le (8 * (call_word c + 1)) layout.object_size)) [
  | inl e ↦ leb-true _ _ e
  | inr e ↦ absurd (false≢true (sym is ∙ rw e refl))
]

word-other : (m : Setup) (cache frame index a b : ℕ) → (a ≡ b → ⊥) → word_at m cache frame index a ≢ word_at m cache frame index b
word-other m cache frame index a b d e = d (omega (arith, e))

pub told_WriteWord : (opening w : World) (value : ℕ → LockValue) (x : Worker) (others : List Worker) → x.local.spot ≡ WriteWord → Stands w (x ∷ others) → IsAccounted opening w (x ∷ others)
    → IsAccounted opening (set_memory w (word_at w.setup (here x.local).cache (here x.local).frame (here x.local).index (call_word (call_of x.local))) (call_value (call_of x.local))) (record x { local = told (advance_at w.setup value x.local WriteWord Done) } ∷ others)
told_WriteWord opening w value x others is s ac =
    let l = x.local in
    let k = here l in
    let c = call_of l in
    let m = w.setup in
    let p = word_at m k.cache k.frame k.index (call_word c) in
    let v = set_memory w p (call_value c) in
    let z : Worker = record x { local = told (advance_at w.setup value x.local WriteWord Done) } in
    let ok = at-work w x others s in
    let tale = told-of opening w x others ac in
    let wr = written-of opening w x others ac in
    let call = (tale.call Write (rw is refl)).0 in
    let room = ok.spot.uses (rw is refl) in
    let plain : m.checks k.cache ≡ false = rw room.2 (ok.spot.plain (rw is refl)).2 in
    let live : m.lives k.cache ≡ true = rw room.2 (ok.spot.plain (rw is refl)).1 in
    let inside : 8 * (call_word c + 1) ≤ (m.layout k.cache).object_size = word-inside (m.layout k.cache) c (rw room.2 (ok.spot.inside (rw is refl))) in
    let obj = here-plain w x others s room.0 room.1 plain in
    let word : IsWordOf (m.layout (w.slab k.frame).cache) k.frame k.index p = subst (λ c. IsWordOf (m.layout c) k.frame k.index p) obj.0.cache (word-word m k.cache k.frame k.index (call_word c) s.fresh.setup live inside) in
    let place = place-here m opening.board (public w (x ∷ others)) l Write call refl tale in
    let knew = known-here l place in
    let had : (known_of l.known k.object).held ≡ true = ap (λ (j : Known). j.held) knew ∙ room.1 in
    let holds : holding l.done k.object ≡ true = sym (tale.holds k.object (λ f. absurd (false≢true (rw is at f)))) ∙ had in
    let of : cache_by opening.board l.done k.object ≡ Some k.cache = tale.cache k.object had ∙ ap (λ (j : Known). Some j.cache) knew in
    let after : AnswersKept l z.local reply.Wrote = record { known = refl; done = refl; todo = refl; freeing = refl; call = refl } in
    let mine : (o a : ℕ) → (o ≡ k.object → ⊥) → (known_of l.known o).held ≡ true → m.checks (known_of l.known o).cache ≡ false → 8 * (a + 1) ≤ (m.layout (known_of l.known o).cache).object_size
    → content v (known_of l.known o).cache (known_of l.known o).frame (known_of l.known o).index a ≡ content w (known_of l.known o).cache (known_of l.known o).frame (known_of l.known o).index a
    = λ o a d h q b. update_other w.memory p (call_value c) _ (mine-spares w x others p s room.0 room.1 obj.1 word o a d h q b) in
    told_kept opening w v x z others Write reply.Wrote ac (record { setup = refl; tids = λ n. omega arith; less = λ o. inr refl }) (record { board = λ o. refl; dry = λ order. omega arith }) call refl (rw is refl) refl after (call.same_kind, rw (call.object refl) holds, (k.cache, rw (call.object refl) of, rw room.2 (ok.spot.inside (rw is refl))))
    (All-cons (λ (o : Worker). HasWritten v opening.board o.local) z others
    (written-answer w v opening.board l z.local Write k reply.Wrote wr refl room.0 refl call refl place (answers-here l z.local reply.Wrote after) (asked-new opening w x others ac call.some) mine
    (λ a y h wrote. elim (cases_eq (call_word c) a) [
      | inl e ↦
          let y' : Some (call_value c) ≡ Some y = rw (eq-eqb (call_word c) a e) at wrote in (
            subst (λ a. 8 * (a + 1) ≤ (m.layout k.cache).object_size) e inside,
            λ _. ap (λ a. content v k.cache k.frame k.index a) (sym e) ∙ update_same w.memory p (call_value c) ∙ some-same y',
          )
      | inr d ↦
          let y' : last_wrote l.done k.object a ≡ Some y = rw (ne_eqb (call_word c) a d) at wrote in
          let h' : (known_of l.known k.object).held ≡ true = ap (λ (j : Known). j.held) knew ∙ h in (
            subst (λ (j : Known). 8 * (a + 1) ≤ (m.layout j.cache).object_size) knew (wr.inside k.object a y h' y'),
            λ q. update_other w.memory p (call_value c) _ (word-other m k.cache k.frame k.index a (call_word c) (λ e. d (sym e)))
                ∙ subst (λ (j : Known). m.checks j.cache ≡ false → content w j.cache j.frame j.index a ≡ y) knew (λ q. wr.stands k.object a y (λ f. absurd (false≢true (rw is at f))) h' q y') q,
          )
    ]))
    (all-written w opening.board p (call_value c) others (others-spare w x others k.frame k.index p s obj.2 obj.1 word) (All-tail (λ (o : Worker). HasWritten w opening.board o.local) x others ac.written)))
  where
    some-same : {a b : ℕ} → Some a ≡ Some b → a ≡ b
    some-same e = cc

-- ---- reads

-- a worker that holds an object of an unchecked cache, and asked to write a word of it after it was given it, wrote the word
pub wrote_some : (m : Setup) (before : ℕ → Option BoardWord) (p : Public) (ds : List Answered) (o a k : ℕ) → Caused m before p ds → cache_by before ds o ≡ Some k → m.checks k ≡ false → 8 * (a + 1) ≤ (m.layout k).object_size
    → written (calls_of ds) o a ≡ true → holding ds o ≡ true → (y : ℕ) × (last_wrote ds o a ≡ Some y)
wrote_some m before p [] o a k caused of plain inside w h = absurd (false≢true w)
wrote_some m before p (d ∷ ds) o a k caused of plain inside w h = let rest : cache_by before ds o ≡ Some k → written (calls_of ds) o a ≡ true → holding ds o ≡ true → (y : ℕ) × (last_wrote ds o a ≡ Some y) = λ of w h. wrote_some m before p ds o a k caused.1 of plain inside w h in elim (cases_eq (call_object d.call) o) [
  | inl e ↦
      let of' : cache_after d.call d.reply (cache_by before ds o) ≡ Some k = rw (eq-eqb (call_object d.call) o e) at of in
      let w' : written_by d.call (call_kind d.call) a (written (calls_of ds) o a) ≡ true = rw (eq-eqb (call_object d.call) o e) at w in
      let h' : holds_after d.reply (holding ds o) ≡ true = rw (eq-eqb (call_object d.call) o e) at h in
      let g = by_reply rest d.call d.reply e caused.0 of' w' h' in
      (g.0, rw (eq-eqb (call_object d.call) o e) g.1)
  | inr n ↦
      let of' : cache_by before ds o ≡ Some k = rw (ne_eqb (call_object d.call) o n) at of in
      let w' : written (calls_of ds) o a ≡ true = rw (ne_eqb (call_object d.call) o n) at w in
      let h' : holding ds o ≡ true = rw (ne_eqb (call_object d.call) o n) at h in
      let g = rest of' w' h' in
      (g.0, rw (ne_eqb (call_object d.call) o n) g.1)
]
  where
    some-same : {a b : ℕ} → Some a ≡ Some b → a ≡ b
    some-same e = cc

    of_kind : (c : Call) (kind : CallKind) → call_kind c ≡ kind → written_by c (call_kind c) a (written (calls_of ds) o a) ≡ true → written_by c kind a (written (calls_of ds) o a) ≡ true
    of_kind c kind e w = subst (λ b. written_by c b a (written (calls_of ds) o a) ≡ true) e w

    Rest : Type 0
    Rest = cache_by before ds o ≡ Some k → written (calls_of ds) o a ≡ true → holding ds o ≡ true → (y : ℕ) × (last_wrote ds o a ≡ Some y)

    by_reply : Rest → (c : Call) (r : Reply) → call_object c ≡ o → Cause m before p ds c r → cache_after c r (cache_by before ds o) ≡ Some k → written_by c (call_kind c) a (written (calls_of ds) o a) ≡ true → holds_after r (holding ds o) ≡ true
        → (y : ℕ) × (wrote_after c r a (last_wrote ds o a) ≡ Some y)
    by_reply rest c (reply.Given b) is q of w h = absurd (false≢true (of_kind c Alloc q.0 w))
    by_reply rest c reply.NoFrames is q of w h = absurd (false≢true (of_kind c Alloc q.0 w))
    by_reply rest c reply.NoSuchCache is q of w h = elim q.0 [ inl e ↦ absurd (false≢true (of_kind c Alloc e w)) | inr e ↦ rest of (of_kind c Trim e w) h ]
    by_reply rest c reply.NoMemory is q of w h = absurd (false≢true (of_kind c Alloc q.0 w))
    by_reply rest c (reply.IdsSpent t) is q of w h = absurd (false≢true (of_kind c Alloc q.0 w))
    by_reply rest c (reply.Freed b) is q of w h = absurd (false≢true h)
    by_reply rest c reply.NotHeld is q of w h = absurd (false≢true (sym q.2 ∙ ap (holding ds) is ∙ h))
    by_reply rest c (reply.Corrupt d) is q of w h =
        absurd (let e : k ≡ q.2.0 = some-same (sym of ∙ ap (cache_by before ds) (sym is) ∙ q.2.1) in false≢true (sym plain ∙ ap m.checks e ∙ q.2.2))
    by_reply rest c reply.Wrote is q of w h =
        let w' : written_by c Write a (written (calls_of ds) o a) ≡ true = of_kind c Write q.0 w in
        elim (cases_Bool (eqb (call_word c) a)) [
          | inl t ↦ (call_value c, rw t refl)
          | inr f ↦ let g = rest of (rw f at w') h in (g.0, rw f g.1)
        ]
    by_reply rest c (reply.Value v) is q of w h = rest of (of_kind c Read q.0 w) h
    by_reply rest c reply.OutOfObject is q of w h = elim q.0 [
      | inl e ↦
          let w' : written_by c Write a (written (calls_of ds) o a) ≡ true = of_kind c Write e w in
          elim (cases_Bool (eqb (call_word c) a)) [
            | inl t ↦ absurd (
                let same : k ≡ q.2.0 = some-same (sym of ∙ ap (cache_by before ds) (sym is) ∙ q.2.1) in
                let b : 8 * (call_word c + 1) ≤ (m.layout q.2.0).object_size = subst (λ k. 8 * (call_word c + 1) ≤ (m.layout k).object_size) same (subst (λ a. 8 * (a + 1) ≤ (m.layout k).object_size) (sym (eqb-true _ _ t)) inside) in
                false≢true ((let z : is_outside (m.layout q.2.0) (call_word c) ≡ false = rw (le-leb (8 * (call_word c + 1)) (m.layout q.2.0).object_size b) refl in sym z) ∙ q.2.2))
            | inr f ↦ rest of (rw f at w') h
          ]
      | inr e ↦ rest of (of_kind c Read e w) h
    ]
    by_reply rest c reply.Poked is q of w h = rest of (of_kind c Poke q.0 w) h
    by_reply rest c reply.OutOfSlot is q of w h = rest of (of_kind c Poke q.0 w) h
    by_reply rest c reply.NotChecked is q of w h = rest of (of_kind c Poke q.0 w) h
    by_reply rest c (reply.Trimmed n) is q of w h = rest of (of_kind c Trim q.0 w) h
    by_reply rest c reply.Checked is q of w h = rest of (of_kind c Trim q.0 w) h
    by_reply rest c (reply.Flushed n) is q of w h = rest of (of_kind c Flush q w) h

-- a read finds what the worker wrote last
pub told_ReadWord : (opening w : World) (value : ℕ → LockValue) (x : Worker) (others : List Worker) (word : ℕ) → x.local.spot ≡ ReadWord → w.memory (word_at w.setup (here x.local).cache (here x.local).frame (here x.local).index (call_word (call_of x.local))) ≡ word
    → Stands w (x ∷ others) → IsAccounted opening w (x ∷ others) → IsAccounted opening w (record x { local = told (advance_at w.setup value x.local ReadWord (Word word)) } ∷ others)
told_ReadWord opening w value x others word is found s ac =
    let l = x.local in
    let k = here l in
    let c = call_of l in
    let m = w.setup in
    let p = public w (x ∷ others) in
    let ok = at-work w x others s in
    let tale = told-of opening w x others ac in
    let wr = written-of opening w x others ac in
    let call = (tale.call Read (rw is refl)).0 in
    let room = ok.spot.uses (rw is refl) in
    let plain : m.checks k.cache ≡ false = rw room.2 (ok.spot.plain (rw is refl)).2 in
    let inside : 8 * (call_word c + 1) ≤ (m.layout k.cache).object_size = word-inside (m.layout k.cache) c (rw room.2 (ok.spot.inside (rw is refl))) in
    let knew = known-here l (place-here m opening.board p l Read call refl tale) in
    let had : (known_of l.known k.object).held ≡ true = ap (λ (j : Known). j.held) knew ∙ room.1 in
    let holds : holding l.done k.object ≡ true = sym (tale.holds k.object (λ f. absurd (false≢true (rw is at f)))) ∙ had in
    let of : cache_by opening.board l.done k.object ≡ Some k.cache = tale.cache k.object had ∙ ap (λ (j : Known). Some j.cache) knew in
    let asked : written (calls_of l.done) k.object (call_word c) ≡ true = subst (λ o. written (calls_of l.done) o (call_word c) ≡ true) (call.object refl) (first-read (calls_of l.done) l.todo call.some call.same_kind wr.reads) in
    let wrote = wrote_some m opening.board p l.done k.object (call_word c) k.cache tale.caused of plain inside asked holds in
    let stands : content w k.cache k.frame k.index (call_word c) ≡ wrote.0
    = subst (λ (j : Known). m.checks j.cache ≡ false → content w j.cache j.frame j.index (call_word c) ≡ wrote.0) knew (λ q. wr.stands k.object (call_word c) wrote.0 (λ f. absurd (false≢true (rw is at f))) had q wrote.1) plain in
    told_same opening w w x _ others Read (reply.Value word) ac (spoken w w l (reply.Value word) (unseen-same w) refl) call (rw is refl) refl refl
    (record { known = refl; done = refl; todo = refl; freeing = refl; call = refl })
    (call.same_kind, rw (call.object refl) holds, (k.cache, rw (call.object refl) of, rw room.2 (ok.spot.inside (rw is refl))), λ _. rw (call.object refl) (wrote.1 ∙ ap Some (sym stands ∙ found)))
  where
    first-read : (past cs : List Call) → 1 ≤ length cs → call_kind (get_or cs 0 no_call) ≡ Read → AreReadable past cs → written past (call_object (get_or cs 0 no_call)) (call_word (get_or cs 0 no_call)) ≡ true
    first-read past [] some kind ok = absurd (omega arith)
    first-read past (c ∷ cs) some kind ok = subst (λ k. MayCome past c k) kind ok.0
