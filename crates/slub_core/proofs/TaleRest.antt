-- The replies that take no step: the call of a worker between two calls is answered at once.
use Rattle.std.proofs.Common.{◌≡◌, ℕ, ◌<◌, ◌≤◌, ◌⊎◌, eqb, true, false, List, [], ◌∷◌, length, get_or, refl, sym, ap, ◌∙◌, subst, arith, inl, inr, Some, None, Option}
use Rattle.std.specs.Prelude.{All}
use Rattle.std.proofs.lemmas.Bool.{cases_Bool, cases_eq, eq-eqb, ne_eqb, eqb-true, false≢true}
use Rattle.std.proofs.lemmas.Option.{none-some}
use Rattle.std.proofs.lemmas.List.Elements.{All-head}
use Rattle.slub_trace.specs.declared.reply.Reply.{Reply}
use Rattle.slub_trace.specs.declared.reply.Reply.TheVariants as reply
use Rattle.slub_core.specs.declared.call.Call.{Call}
use Rattle.slub_core.specs.declared.call.CallKind.{CallKind}
use Rattle.slub_core.specs.declared.call.CallKind.TheVariants.{Alloc, Free, Write, Read, Poke, Trim, Flush}
use Rattle.slub_core.specs.declared.local.Known.{Known}
use Rattle.slub_core.specs.declared.local.Answered.{Answered}
use Rattle.slub_core.specs.declared.spot.Spot.TheVariants.{Between}
use Rattle.slub_core.specs.Calls.{call_kind, call_cache, call_object, call_place, call_word}
use Rattle.slub_core.specs.Setup.{Setup}
use Rattle.slub_core.specs.World.{World, object_at}
use Rattle.slub_core.specs.Local.{Local, Worker, nobody, no_call, call_of, answered}
use Rattle.slub_core.specs.Steps.{told_of_alloc, told_of_trim, told_of_use, told_of_poke, told_at_once, is_outside}
use Rattle.slub_core.specs.Coherent.{Stands}
use Rattle.slub_core.specs.Replies.{is_dry, names_object, holding, holds_after, knows, knows_after, Cause}
use Rattle.slub_core.specs.Accounted.{public, known_of, CallFits, IsDoing, IsTold, IsAccounted}
use Rattle.slub_core.proofs.Exists.{nothing-there}
use Rattle.slub_core.proofs.TaleKnowns.{place_of-object}
use Rattle.slub_core.proofs.TaleQuiet.{told_like}
use Rattle.slub_core.proofs.TaleReplies.{is_kept, is_wrote, spoken, told-of, told_same}
use Rattle.slub_core.proofs.TaleGiven.{known-object}
use Rattle.slub_core.proofs.TaleSpots.{unseen-same}

-- what a worker holds by its replies, it knows by them
pub holding-knows : (ds : List Answered) (o : ℕ) → holding ds o ≡ true → knows ds o ≡ true
holding-knows [] o h = absurd (false≢true h)
holding-knows (d ∷ ds) o h = let rest : holding ds o ≡ true → knows ds o ≡ true = holding-knows ds o in elim (cases_eq (call_object d.call) o) [
  | inl e ↦ (let h' : holds_after d.reply (holding ds o) ≡ true = rw (eq-eqb (call_object d.call) o e) at h in rw (eq-eqb (call_object d.call) o e) (by_reply rest d.reply h'))
  | inr n ↦ (let h' : holding ds o ≡ true = rw (ne_eqb (call_object d.call) o n) at h in rw (ne_eqb (call_object d.call) o n) (rest h'))
]
  where
    by_reply : (holding ds o ≡ true → knows ds o ≡ true) → (r : Reply) → holds_after r (holding ds o) ≡ true → knows_after r (knows ds o) ≡ true
    by_reply rest (reply.Given a) h = refl
    by_reply rest (reply.Freed a) h = refl
    by_reply rest (reply.Corrupt d) h = refl
    by_reply rest reply.NoFrames h = rest h
    by_reply rest reply.NoSuchCache h = rest h
    by_reply rest reply.NoMemory h = rest h
    by_reply rest (reply.IdsSpent t) h = rest h
    by_reply rest reply.NotHeld h = rest h
    by_reply rest reply.Wrote h = rest h
    by_reply rest (reply.Value v) h = rest h
    by_reply rest reply.OutOfObject h = rest h
    by_reply rest reply.Poked h = rest h
    by_reply rest reply.OutOfSlot h = rest h
    by_reply rest reply.NotChecked h = rest h
    by_reply rest (reply.Trimmed n) h = rest h
    by_reply rest reply.Checked h = rest h
    by_reply rest (reply.Flushed n) h = rest h

some-same : {A : Type 0} {a b : A} → Some a ≡ Some b → a ≡ b
some-same e = cc

-- the reply has its cause, and the worker is between two calls again
pub told_at_rest : (opening w : World) (x : Worker) (others : List Worker) (call : Call) (calls : List Call) (r : Reply) → x.local.spot ≡ Between → x.local.todo ≡ call ∷ calls → Stands w (x ∷ others)
    → told_at_once w.setup (get_or x.local.known (call_place call) nobody) call (call_kind call) ≡ Some r → IsAccounted opening w (x ∷ others) → IsAccounted opening w (record x { local = answered x.local r } ∷ others)
told_at_rest opening w x others call calls r is todo s told ac = by_kind (call_kind call) refl told
  where
    m : Setup
    m = w.setup

    l : Local
    l = x.local

    tale : IsTold m opening.board (public w (x ∷ others)) l
    tale = told-of opening w x others ac

    mine : call_of l ≡ call
    mine = ap (λ cs. get_or cs 0 no_call) todo

    fits : CallFits m l.known call
    fits = All-head (CallFits m l.known) call calls (subst (All (CallFits m l.known)) todo tale.fits)

    -- as if it were in the call
    near : Worker
    near = record x { local = record l { place = call_place call } }

    now : IsAccounted opening w (near ∷ others)
    now = told_like opening w w x near others ac (unseen-same w) (record {
      known = refl;
      done = refl;
      todo = refl;
      freeing = λ f. absurd (false≢true (rw is at f));
      frees = λ f. absurd (false≢true (rw is at f));
      source = λ f. absurd (false≢true (rw is at f));
      call = λ kind e. absurd (none-some kind (rw is at e));
    })

    o : ℕ
    o = call_object call

    k : Known
    k = get_or l.known (call_place call) nobody

    knew : names_object (call_kind call) ≡ true → known_of l.known o ≡ k
    knew names = ap (λ q. get_or l.known q nobody) (sym (fits.place names))

    in_call : IsDoing near.local (call_kind call)
    in_call = record {
      some = rw todo (omega arith);
      same_kind = ap (λ (c : Call). call_kind c) mine;
      object = λ names. ap (λ (c : Call). call_object c) mine ∙ sym (place_of-object l.known o (subst (λ q. q < length l.known) (fits.place names) (fits.inside names))) ∙ ap (λ q. (get_or l.known q nobody).object) (sym (fits.place names));
      place = ap (λ (c : Call). call_place c) (sym mine);
    }

    tell : (a : Reply) → is_dry a ≡ false → is_kept a ≡ true → is_wrote a ≡ false → Cause m opening.board (public w (near ∷ others)) l.done call a → Some a ≡ Some r → IsAccounted opening w (record x { local = answered x.local r } ∷ others)
    tell a dry kept wrote cause e =
        subst (λ r. IsAccounted opening w (record x { local = answered x.local r } ∷ others)) (some-same e)
        (told_same opening w w near (record x { local = answered x.local a }) others (call_kind call) a now (spoken w w near.local a (unseen-same w) dry) in_call (rw is refl) kept wrote
        (record { known = refl; done = refl; todo = refl; freeing = rw is refl; call = rw is refl })
        (subst (λ c. Cause m opening.board (public w (near ∷ others)) l.done c a) (sym mine) cause))

    held : names_object (call_kind call) ≡ true → holding l.done o ≡ k.held
    held names = sym (tale.holds o (λ f. absurd (false≢true (rw is at f)))) ∙ ap (λ (k : Known). k.held) (knew names)

    not-some : {A : Type 0} (a : A) → None ≡ Some a → ⊥
    not-some a e = none-some a e

    by_use : (kind : CallKind) → call_kind call ≡ kind → (kind ≡ Write) ⊎ (kind ≡ Read) → told_of_use m k (call_word call) ≡ Some r → IsAccounted opening w (record x { local = answered x.local r } ∷ others)
    by_use kind e which t =
        let names : names_object (call_kind call) ≡ true = rw e (elim which [ inl a ↦ rw a refl | inr b ↦ rw b refl ]) in
        elim (cases_Bool k.held) [
          | inr no_more ↦
              let t' : Some reply.NotHeld ≡ Some r = rw no_more at t in
              tell reply.NotHeld refl refl refl (names, rw e (elim which [ inl a ↦ rw a refl | inr b ↦ rw b refl ]), held names ∙ no_more, λ f. absurd (let z = sym e ∙ f in elim which [ inl a ↦ not-free-write (sym a ∙ z) | inr b ↦ not-free-read (sym b ∙ z) ])) t'
          | inl has ↦ elim (cases_Bool (is_outside (m.layout k.cache) (call_word call))) [
            | inl far ↦
                let t' : Some reply.OutOfObject ≡ Some r = rw (has, far) at t in
                tell reply.OutOfObject refl refl refl (elim which [ inl a ↦ inl (e ∙ a) | inr b ↦ inr (e ∙ b) ], held names ∙ has, (k.cache, tale.cache o (ap (λ (k : Known). k.held) (knew names) ∙ has) ∙ ap (λ (k : Known). Some k.cache) (knew names), far)) t'
            | inr near_by ↦ absurd (let t' : None ≡ Some r = rw (has, near_by) at t in not-some r t')
          ]
        ]
      where
        not-free-write : Write ≡ Free → ⊥
        not-free-write e = cc

        not-free-read : Read ≡ Free → ⊥
        not-free-read e = cc

    by_poke : call_kind call ≡ Poke → told_of_poke m k ≡ Some r → IsAccounted opening w (record x { local = answered x.local r } ∷ others)
    by_poke e t = elim (cases_Bool (eqb k.frame 0)) [
      | inl zero_frame ↦
          let t' : Some reply.NotHeld ≡ Some r = rw zero_frame at t in
          tell reply.NotHeld refl refl refl (names, rw e refl, unheld (eqb-true _ _ zero_frame), λ f. absurd (let z = sym e ∙ f in not-free-poke z)) t'
      | inr some_frame ↦ elim (cases_Bool (m.checks k.cache)) [
        | inr plain ↦
            let t' : Some reply.NotChecked ≡ Some r = rw (some_frame, plain) at t in
            let known : knows l.done o ≡ true = known-real (λ z. absurd (false≢true (sym some_frame ∙ eq-eqb k.frame 0 z))) in
            tell reply.NotChecked refl refl refl (e, known, (k.cache, (tale.tells o known).1 ∙ ap (λ (k : Known). Some k.cache) (knew names), plain)) t'
        | inl checked ↦ absurd (let t' : None ≡ Some r = rw (some_frame, checked) at t in not-some r t')
      ]
    ]
      where
        not-free-poke : Poke ≡ Free → ⊥
        not-free-poke e = cc

        names : names_object (call_kind call) ≡ true
        names = rw e refl

        unheld : k.frame ≡ 0 → holding l.done o ≡ false
        unheld z = elim (cases_Bool k.held) [
          | inl has ↦ absurd (
              let obj = (known-object w (x ∷ others) 0 x s (omega arith) o (ap (λ (k : Known). k.held) (knew names) ∙ has)).0 in
              let f : (known_of l.known o).frame ≡ 0 = ap (λ (k : Known). k.frame) (knew names) ∙ z in
              let n : object_at w (known_of l.known o).frame (known_of l.known o).index ≡ 0 = ap (λ f. object_at w f (known_of l.known o).index) f ∙ nothing-there w s.chains _ s.listed.shaped in
              omega arith)
          | inr hasnt ↦ held names ∙ hasnt
        ]

        known-real : (k.frame ≡ 0 → ⊥) → knows l.done o ≡ true
        known-real d = elim (tale.unknown o (subst (λ (k : Known). 1 ≤ k.frame) (sym (knew names)) (omega (arith, d)))) [
          | inl a ↦ a
          | inr b ↦ holding-knows l.done o (held names ∙ ap (λ (k : Known). k.held) (sym (knew names)) ∙ b)
        ]

    by_alloc : (cache : Option ℕ) → call_cache call ≡ cache → (call_kind call ≡ Alloc) ⊎ (call_kind call ≡ Trim) → told_of_alloc cache ≡ Some r → IsAccounted opening w (record x { local = answered x.local r } ∷ others)
    by_alloc None c which t = tell reply.NoSuchCache refl refl refl (which, c) t
    by_alloc (Some cache) c which t = absurd (not-some r t)

    by_trim : (cache : Option ℕ) → call_cache call ≡ cache → call_kind call ≡ Trim → told_of_trim m cache ≡ Some r → IsAccounted opening w (record x { local = answered x.local r } ∷ others)
    by_trim None c e t = tell reply.NoSuchCache refl refl refl (inr e, c) t
    by_trim (Some cache) c e t = elim (cases_Bool (m.checks cache)) [
      | inl checked ↦ let t' : Some reply.Checked ≡ Some r = rw checked at t in tell reply.Checked refl refl refl (e, (cache, c, checked)) t'
      | inr plain ↦ absurd (let t' : None ≡ Some r = rw plain at t in not-some r t')
    ]

    by_kind : (kind : CallKind) → call_kind call ≡ kind → told_at_once m k call kind ≡ Some r → IsAccounted opening w (record x { local = answered x.local r } ∷ others)
    by_kind Alloc e t = by_alloc (call_cache call) refl (inl e) t
    by_kind Free e t = absurd (not-some r t)
    by_kind Write e t = by_use Write e (inl refl) t
    by_kind Read e t = by_use Read e (inr refl) t
    by_kind Poke e t = by_poke e t
    by_kind Trim e t = by_trim (call_cache call) refl e t
    by_kind Flush e t = elim (cases_Bool (eqb (length m.plain) 0)) [
      | inl empty ↦ let t' : Some (reply.Flushed 0) ≡ Some r = rw empty at t in tell (reply.Flushed 0) refl refl refl e t'
      | inr some ↦ absurd (let t' : None ≡ Some r = rw some at t in not-some r t')
    ]
