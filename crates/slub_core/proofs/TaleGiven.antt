-- An object is given that nobody has.
use Rattle.std.proofs.Common.{◌≡◌, ℕ, ◌<◌, ◌≤◌, ◌&&◌, true, false, eqb, List, [], ◌∷◌, length, get_or, refl, sym, ap, ◌∙◌, subst, arith, inl, inr, Some, None, Option}
use Rattle.std.specs.Prelude.{All, sum_by}
use Rattle.std.proofs.lemmas.Bool.{cases_eq, cases_Bool, eq-eqb, ne_eqb, false≢true}
use Rattle.std.proofs.lemmas.Option.{none-some}
use Rattle.std.proofs.lemmas.List.Sums.{sum_by-cons, get_or-le-sum_by}
use Rattle.std.proofs.lemmas.List.Elements.{All-head, All-tail}
use Rattle.slub_object_layout.specs.Layout.{address_of}
use Rattle.slub_words.specs.declared.board.BoardWord.{BoardWord}
use Rattle.slub_trace.specs.declared.reply.Reply.{Reply}
use Rattle.slub_trace.specs.declared.reply.Reply.TheVariants as reply
use Rattle.slub_core.specs.declared.call.CallKind.TheVariants.{Alloc}
use Rattle.slub_core.specs.declared.local.Known.{Known}
use Rattle.slub_core.specs.declared.local.Answered.{Answered}
use Rattle.slub_core.specs.Calls.{call_object}
use Rattle.slub_core.specs.Setup.{Setup}
use Rattle.slub_core.specs.World.{World, cache_at, object_at, on_board, one_if}
use Rattle.slub_core.specs.Local.{Local, Worker, nobody, here, address_in}
use Rattle.slub_core.specs.Spots.{doing, is_freeing}
use Rattle.slub_core.specs.Placed.{held_as, held}
use Rattle.slub_core.specs.Coherent.{Stands}
use Rattle.slub_core.specs.Replies.{is_given, given_in, freed_in, address_after, address_by, address_on}
use Rattle.slub_core.specs.Accounted.{boarded, had, public, place_of, known_of, IsAccounted}
use Rattle.slub_core.proofs.Exists.{owned-object}
use Rattle.slub_core.proofs.ValueStep.{known-owned, board-object}
use Rattle.slub_core.proofs.TaleKnowns.{held-inside}
use Rattle.slub_core.proofs.TaleAddress.{one-address}
use Rattle.slub_core.proofs.TaleAnswer.{Answers, told_answer}
use Rattle.slub_core.proofs.TaleReplies.{Spoken, spoken-on, spoken-counts, written-spoken, told-of, place-inside}
use Rattle.slub_core.proofs.TaleWritten.{held_as-one}

some-same : {a b : ℕ} → Some a ≡ Some b → a ≡ b
some-same e = cc

-- no worker holds an object at the address, and none on the board stands there
pub record IsUnheld (w : World) (xs : List Worker) (a : ℕ) : Type 0 where
  pub held : (k : ℕ) (d : Worker) → k < length xs → (o : ℕ) → (known_of (get_or xs k d).local.known o).held ≡ true → address_in w.setup (known_of (get_or xs k d).local.known o) ≡ a → ⊥
  pub board : (o : ℕ) (b : BoardWord) → o < w.setup.objects → w.board o ≡ Some b → address_of b.frame b.index (w.setup.layout b.cache) ≡ a → ⊥

-- what a worker holds is an object of its slab's cache
pub known-object : (w : World) (xs : List Worker) (k : ℕ) (d : Worker) → Stands w xs → k < length xs → (o : ℕ) → (known_of (get_or xs k d).local.known o).held ≡ true
    → (1 ≤ object_at w (known_of (get_or xs k d).local.known o).frame (known_of (get_or xs k d).local.known o).index) × ((known_of (get_or xs k d).local.known o).cache ≡ cache_at w (known_of (get_or xs k d).local.known o).frame)
    × (1 ≤ held (known_of (get_or xs k d).local.known o).frame (known_of (get_or xs k d).local.known o).index (get_or xs k d).local)
known-object w xs k d s below o is =
    let x = get_or xs k d in
    let q = known_of x.local.known o in
    let inside = held-inside x.local.known o is in
    let has = known-owned x (place_of x.local.known o) nobody inside is in
    let most = owned-object w s.chains xs q.frame q.index s.placed k d below in
    let one = held_as-one q q.frame q.index is refl refl in
    let t = get_or-le-sum_by (held_as q.frame q.index) x.local.known (place_of x.local.known o) nobody inside in
    (omega arith, (s.fresh.workers k d below).seen.known (place_of x.local.known o) nobody inside is, omega arith)

-- an object that stands elsewhere
pub place-unheld : (w : World) (x : Worker) (others : List Worker) (f i : ℕ) → Stands w (x ∷ others) → 1 ≤ object_at w f i → ((k : ℕ) (d : Worker) → k < length (x ∷ others) → held f i (get_or (x ∷ others) k d).local ≡ 0)
    → ((o : ℕ) → o < w.setup.objects → on_board (w.board o) f i ≡ 0) → IsUnheld w (x ∷ others) (address_of f i (w.setup.layout (cache_at w f)))
place-unheld w x others f i s some none off = record {
  held = λ k d below o is at.
      let q = known_of (get_or (x ∷ others) k d).local.known o in
      let obj = known-object w (x ∷ others) k d s below o is in
      let one = one-address w (x ∷ others) f i q.frame q.index s some obj.0 (ap (λ c. address_of q.frame q.index (w.setup.layout c)) (sym obj.1) ∙ at) in
      let h : 1 ≤ held f i (get_or (x ∷ others) k d).local = subst (λ f. 1 ≤ held f i (get_or (x ∷ others) k d).local) one.0 (subst (λ i. 1 ≤ held q.frame i (get_or (x ∷ others) k d).local) one.1 obj.2) in
      let z = none k d below in
      absurd (omega arith);
  board = λ o b below is at.
      let obj = board-object w x others s o b below is in
      let cache = s.listed.shaped.board o b below is in
      let one = one-address w (x ∷ others) f i b.frame b.index s some obj (ap (λ c. address_of b.frame b.index (w.setup.layout c)) (sym cache) ∙ at) in
      let z = off o below in
      let e : on_board (w.board o) f i ≡ 1 = ap (λ b. on_board b f i) is ∙ rw (eq-eqb b.frame f one.0, eq-eqb b.index i one.1) refl in
      absurd (omega arith);
}

-- a number that was not given has the address that it had on the board before
pub address-ungiven : (m : Setup) (before : ℕ → Option BoardWord) (ds : List Answered) (o : ℕ) → given_in o ds ≡ 0 → address_by m before ds o ≡ address_on m (before o)
address-ungiven m before [] o none = refl
address-ungiven m before (d ∷ ds) o none =
    let rest = address-ungiven m before ds o (omega arith) in
    elim (cases_eq (call_object d.call) o) [
      | inl e ↦ rw (eq-eqb (call_object d.call) o e) (by_reply d.reply (let z : one_if (is_given d.reply && eqb (call_object d.call) o) ≡ 0 = omega arith in rw (eq-eqb (call_object d.call) o e) at z) ∙ rest)
      | inr n ↦ rw (ne_eqb (call_object d.call) o n) rest
    ]
  where
    by_reply : (r : Reply) {x : Option ℕ} → one_if (is_given r && true) ≡ 0 → address_after r x ≡ x
    by_reply (reply.Given a) z = absurd (omega arith)
    by_reply (reply.Freed a) z = refl
    by_reply (reply.Corrupt d) z = refl
    by_reply reply.NoFrames z = refl
    by_reply reply.NoSuchCache z = refl
    by_reply reply.NoMemory z = refl
    by_reply (reply.IdsSpent t) z = refl
    by_reply reply.NotHeld z = refl
    by_reply reply.Wrote z = refl
    by_reply (reply.Value v) z = refl
    by_reply reply.OutOfObject z = refl
    by_reply reply.Poked z = refl
    by_reply reply.OutOfSlot z = refl
    by_reply reply.NotChecked z = refl
    by_reply (reply.Trimmed n) z = refl
    by_reply reply.Checked z = refl
    by_reply (reply.Flushed n) z = refl

-- a number on the board before was given to no worker
pub ungiven : (opening w : World) (xs : List Worker) (o : ℕ) (b : BoardWord) → IsAccounted opening w xs → opening.board o ≡ Some b → All (λ (x : Worker). given_in o x.local.done ≡ 0) xs
ungiven opening w xs o b ac at k d below =
    let t = ac.once o in
    let e : boarded (opening.board o) ≡ 1 = ap boarded at in
    let g = get_or-le-sum_by (λ (x : Worker). given_in o x.local.done) xs k d below in
    omega arith

had-freed : (o : ℕ) (xs : List Worker) → All (λ (x : Worker). (known_of x.local.known o).held ≡ false) xs → sum_by (λ (x : Worker). had o x.local) xs ≡ sum_by (λ (x : Worker). freed_in o x.local.done) xs
had-freed o [] none = refl
had-freed o (x ∷ xs) none =
    let a = sum_by-cons (λ (x : Worker). had o x.local) x xs in
    let b = sum_by-cons (λ (x : Worker). freed_in o x.local.done) x xs in
    let r = had-freed o xs (All-tail (λ (x : Worker). (known_of x.local.known o).held ≡ false) x xs none) in
    let z : one_if (known_of x.local.known o).held ≡ 0 = ap one_if (All-head (λ (x : Worker). (known_of x.local.known o).held ≡ false) x xs none) in
    omega arith

on-some : (m : Setup) (x : Option BoardWord) (a : ℕ) → address_on m x ≡ Some a → (b : BoardWord) × (x ≡ Some b) × (address_of b.frame b.index (m.layout b.cache) ≡ a)
on-some m None a e = absurd (none-some a e)
on-some m (Some b) a e = (b, refl, some-same e)

-- the board's number of an object that nobody has was freed
given-freed : (opening w : World) (xs : List Worker) (a : ℕ) → IsAccounted opening w xs → IsUnheld w xs a → (o : ℕ) → address_on w.setup (opening.board o) ≡ Some a → 1 ≤ sum_by (λ (x : Worker). freed_in o x.local.done) xs
given-freed opening w xs a ac un o at =
    let on = on-some w.setup (opening.board o) a at in
    let b = on.0 in
    let none = had-freed o xs (λ k d below.
    let x = get_or xs k d in
    let ok = ac.told k d below in
    elim (cases_Bool (known_of x.local.known o).held) [
      | inl t ↦ absurd (un.held k d below o t (some-same (sym (ok.address o t) ∙ address-ungiven w.setup opening.board x.local.done o (ungiven opening w xs o b ac on.1 k d below) ∙ at)))
      | inr f ↦ f
    ]) in
    let e : boarded (opening.board o) ≡ 1 = ap boarded on.1 in
    let c = ac.count o in
    elim (ac.stands o) [
      | inl z ↦ let n : boarded (w.board o) ≡ 0 = ap boarded z in omega arith
      | inr h ↦ absurd (un.board o b (ac.within o b on.1).1 (h ∙ on.1) on.2)
    ]

-- the object as its worker then knows it
abbrev pub given_known : Local → ℕ → ℕ → Known
given_known l frame index = record { object = (here l).object; frame = frame; index = index; cache = l.cache; held = true }

-- an object that nobody has is given
pub told_given : (opening w v : World) (x z : Worker) (others : List Worker) (frame index : ℕ) → IsAccounted opening w (x ∷ others) → Spoken w v x.local (reply.Given (address_of frame index (w.setup.layout x.local.cache))) → doing x.local.spot ≡ Some Alloc
    → is_freeing x.local.spot ≡ false → (here x.local).held ≡ false → 1 ≤ frame → IsUnheld w (x ∷ others) (address_of frame index (w.setup.layout x.local.cache))
    → Answers x.local z.local (given_known x.local frame index) (reply.Given (address_of frame index (w.setup.layout x.local.cache))) → IsAccounted opening v (z ∷ others)
told_given opening w v x z others frame index ac sp at idle free real un after =
    let l = x.local in
    let m = w.setup in
    let p = public w (x ∷ others) in
    let a = address_of frame index (m.layout l.cache) in
    let r = reply.Given a in
    let k = given_known l frame index in
    let ok = told-of opening w x others ac in
    let call = ok.call Alloc at in
    told_answer opening w v x z others Alloc k r ac (spoken-on w v l r sp) (spoken-counts w v l r sp) call.0 refl after (record {
      below = place-inside m opening.board p l Alloc call.0 refl ok;
      same = refl;
      holds = refl;
      address = λ _. refl;
      cache = λ _. call.1.0;
      tells = λ _. (refl, call.1.0, real);
      unknown = λ _. inl refl;
      moved = rw free refl;
      asks = rw call.0.same_kind (omega arith);
      cause = (
        call.0.same_kind,
        (l.cache, call.1.0),
        (λ o is. sym (ok.holds o (λ f. absurd (false≢true (sym idle ∙ f)))) ∙ elim (cases_Bool (known_of l.known o).held) [
          | inl t ↦ absurd (un.held 0 x (omega arith) o t (some-same (sym (ok.address o t) ∙ is)))
          | inr f ↦ f
        ]),
        given-freed opening w (x ∷ others) a ac un,
      );
    })
    (written-spoken opening w v x z others Alloc k r ac sp call.0 refl refl after (λ a y h wrote. absurd (none-some y wrote)))
