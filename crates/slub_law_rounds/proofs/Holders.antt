-- An object of the board is held by one worker.
use Rattle.std.proofs.Common.{◌≡◌, ℕ, zero, suc, ◌<◌, ◌≤◌, ◌⊎◌, ◌&&◌, ◌||◌, eqb, Bool, true, false, List, [], ◌∷◌, length, get_or, map, Option, Some, refl, sym, ap, ◌∙◌, subst, arith, inl, inr}
use Rattle.std.specs.Prelude.{sum_by}
use Rattle.std.specs.List.{Any}
use Rattle.std.specs.Option.{option_map}
use Rattle.std.proofs.lemmas.Bool.{cases_eq, cases_Bool, eq-eqb, ne_eqb, false≢true}
use Rattle.std.proofs.lemmas.List.Sums.{sum_by-cons, get_or-le-sum_by}
use Rattle.slub_words.specs.declared.board.BoardWord.{BoardWord}
use Rattle.slub_trace.specs.declared.reply.Reply.{Reply}
use Rattle.slub_trace.specs.declared.reply.Reply.TheVariants as reply
use Rattle.slub_core.specs.declared.call.CallKind.TheVariants.{Free}
use Rattle.slub_core.specs.declared.local.Answered.{Answered}
use Rattle.slub_core.specs.declared.local.Known.{Known}
use Rattle.slub_core.specs.declared.spot.Spot.{Spot}
use Rattle.slub_core.specs.declared.spot.Spot.TheVariants.{InFree, InChecked}
use Rattle.slub_core.specs.declared.spot.CheckedSpot.TheVariants.{LockChecked, DoChecked}
use Rattle.slub_core.specs.declared.spot.FreeSpot.TheVariants.{LoadOwn, LinkOwn, Push, LoadSlab, LinkSlab, FreeSlab, LockFree, LoadLocked, GoBack, LinkLocked, FreeLocked}
use Rattle.slub_core.specs.Calls.{call_object, call_word}
use Rattle.slub_core.specs.Setup.{Setup}
use Rattle.slub_core.specs.World.{World, one_if}
use Rattle.slub_core.specs.Local.{Worker, here}
use Rattle.slub_core.specs.Spots.{doing, frees, is_freeing, keeps}
use Rattle.slub_core.specs.Coherent.{Stands}
use Rattle.slub_core.specs.Round.{freed_over}
use Rattle.slub_core.specs.Replies.{is_given, given_in, freed_in, cache_after, cache_by, holding, knows, knows_after, Public, Cause, Caused}
use Rattle.slub_core.specs.Accounted.{boarded, had, public, known_of, IsAccounted}
use Rattle.slub_core.proofs.TaleAnswer.{place-here}
use Rattle.slub_core.proofs.TaleReplies.{known-here}
use Rattle.slub_core.proofs.TaleRest.{holding-knows}
use Rattle.slub_law_rounds.specs.Law.{is_wrote, wrote}
use Rattle.slub_law_rounds.proofs.Words.{knows-had}

-- the cache of a number that was not given
pub cache-ungiven : (before : ℕ → Option BoardWord) (ds : List Answered) (o : ℕ) → given_in o ds ≡ 0 → cache_by before ds o ≡ option_map (λ (b : BoardWord). b.cache) (before o)
cache-ungiven before [] o none = refl
cache-ungiven before (d ∷ ds) o none =
    let rest = cache-ungiven before ds o (omega arith) in
    elim (cases_eq (call_object d.call) o) [
      | inl e ↦ rw (eq-eqb (call_object d.call) o e) (by_reply d.reply (let z : one_if (is_given d.reply && eqb (call_object d.call) o) ≡ 0 = omega arith in rw (eq-eqb (call_object d.call) o e) at z) ∙ rest)
      | inr n ↦ rw (ne_eqb (call_object d.call) o n) rest
    ]
  where
    by_reply : (r : Reply) {x : Option ℕ} → one_if (is_given r && true) ≡ 0 → cache_after d.call r x ≡ x
    by_reply (reply.Given a) z = absurd (omega arith)
    by_reply (reply.Freed a) z = refl
    by_reply (reply.Corrupt d) z = refl
    by_reply reply.NoFrames z = refl
    by_reply reply.NoSuchCache z = refl
    by_reply reply.NoMemory z = refl
    by_reply (reply.IdsSpent t) z = refl
    by_reply reply.NotHeld z = refl
    by_reply reply.Wrote z = refl
    by_reply (reply.Value v) z = refl
    by_reply reply.OutOfObject z = refl
    by_reply reply.Poked z = refl
    by_reply reply.OutOfSlot z = refl
    by_reply reply.NotChecked z = refl
    by_reply (reply.Trimmed n) z = refl
    by_reply reply.Checked z = refl
    by_reply (reply.Flushed n) z = refl

-- a worker knows what it wrote to
wrote-knows : (m : Setup) (before : ℕ → Option BoardWord) (p : Public) (ds : List Answered) (o word : ℕ) → Caused m before p ds → wrote ds o word ≡ true → knows ds o ≡ true
wrote-knows m before p [] o word caused is = absurd (false≢true is)
wrote-knows m before p (d ∷ ds) o word caused is = elim (cases_eq (call_object d.call) o) [
  | inl same ↦ rw (eq-eqb (call_object d.call) o same) (by d.reply (wrote-knows m before p ds o word caused.1) caused.0 (rw (eq-eqb (call_object d.call) o same) at is) same)
  | inr other ↦ rw (ne_eqb (call_object d.call) o other) (wrote-knows m before p ds o word caused.1 (past (is_wrote d.reply) (eqb (call_word d.call) word) (rw (ne_eqb (call_object d.call) o other) at is)))
]
  where
    past : (c b : Bool) → ((c && false && b) || wrote ds o word) ≡ true → wrote ds o word ≡ true
    past true b e = e
    past false b e = e

    by : (r : Reply) → (wrote ds o word ≡ true → knows ds o ≡ true) → Cause m before p ds d.call r → ((is_wrote r && true && eqb (call_word d.call) word) || wrote ds o word) ≡ true → call_object d.call ≡ o → knows_after r (knows ds o) ≡ true
    by (reply.Given a) was cause now same = refl
    by (reply.Freed a) was cause now same = refl
    by (reply.Corrupt d) was cause now same = refl
    by reply.Wrote was cause now same = holding-knows ds o (subst (λ q. holding ds q ≡ true) same cause.1)
    by reply.NoFrames was cause now same = was now
    by reply.NoSuchCache was cause now same = was now
    by reply.NoMemory was cause now same = was now
    by (reply.IdsSpent t) was cause now same = was now
    by reply.NotHeld was cause now same = was now
    by (reply.Value v) was cause now same = was now
    by reply.OutOfObject was cause now same = was now
    by reply.Poked was cause now same = was now
    by reply.OutOfSlot was cause now same = was now
    by reply.NotChecked was cause now same = was now
    by (reply.Trimmed n) was cause now same = was now
    by reply.Checked was cause now same = was now
    by (reply.Flushed n) was cause now same = was now

-- a worker that frees an object holds it
freeing-doing : (s : Spot) → is_freeing s ≡ true → (doing s ≡ Some Free) × ((frees s ≡ true) ⊎ (keeps s ≡ true))
freeing-doing (InChecked LockChecked Free) is = (refl, inr refl)
freeing-doing (InChecked DoChecked Free) is = (refl, inr refl)
freeing-doing (InFree LoadOwn) is = (refl, inl is)
freeing-doing (InFree LinkOwn) is = (refl, inl is)
freeing-doing (InFree Push) is = (refl, inl is)
freeing-doing (InFree LoadSlab) is = (refl, inl is)
freeing-doing (InFree LinkSlab) is = (refl, inl is)
freeing-doing (InFree FreeSlab) is = (refl, inl is)
freeing-doing (InFree LockFree) is = (refl, inl is)
freeing-doing (InFree LoadLocked) is = (refl, inl is)
freeing-doing (InFree GoBack) is = (refl, inl is)
freeing-doing (InFree LinkLocked) is = (refl, inl is)
freeing-doing (InFree FreeLocked) is = (refl, inl is)
freeing-doing s is = absurd (false≢true is)

-- what a worker knows by its replies it has had
knows-has : (opening w : World) (x : Worker) (others : List Worker) (k : ℕ) (d : Worker) (o : ℕ) → Stands w (x ∷ others) → IsAccounted opening w (x ∷ others) → k < length (x ∷ others) → knows (get_or (x ∷ others) k d).local.done o ≡ true → 1 ≤ had o (get_or (x ∷ others) k d).local
knows-has opening w x others k d o s ac below knew =
    let y = get_or (x ∷ others) k d in
    let l = y.local in
    let tale = ac.told k d below in
    let by_held : (known_of l.known o).held ≡ true → 1 ≤ had o l = λ h. (let e : one_if (known_of l.known o).held ≡ 1 = ap one_if h in omega arith) in
    elim (knows-had l.done o knew) [
      | inr freed ↦ omega arith
      | inl held ↦ elim (cases_Bool (is_freeing l.spot)) [
        | inr idle ↦ by_held (tale.holds o (λ f. absurd (false≢true (sym idle ∙ f))) ∙ held)
        | inl busy ↦ elim (cases_eq o (here l).object) [
          | inr other ↦ by_held (tale.holds o (λ f e. other e) ∙ held)
          | inl same ↦ (
              let at = freeing-doing l.spot busy in
              let ok = s.fresh.workers k d below in
              let mine : (here l).held ≡ true = elim at.1 [ inl f ↦ (ok.spot.frees f).1 | inr q ↦ (ok.spot.keeps q).1 ] in
              let knew_here = known-here l (place-here w.setup opening.board (public w (x ∷ others)) l Free (tale.call Free at.0).0 refl tale) in
              by_held (ap (λ q. (known_of l.known q).held) same ∙ ap (λ (j : Known). j.held) knew_here ∙ mine))
        ]
      ]
    ]

freed-most : (o : ℕ) (xs : List Worker) → freed_over o (map (λ (y : Worker). y.local.done) xs) ≤ sum_by (λ (y : Worker). had o y.local) xs
freed-most o [] = omega arith
freed-most o (y ∷ ys) =
    let a = sum_by-cons (λ (y : Worker). had o y.local) y ys in
    let b = sum_by-cons (freed_in o) y.local.done (map (λ (y : Worker). y.local.done) ys) in
    let r = freed-most o ys in
    omega arith

-- an object of the board that a worker holds was given to nobody, and nobody has freed it
pub unfreed-held : (opening w : World) (x : Worker) (others : List Worker) (o : ℕ) (b : BoardWord) → IsAccounted opening w (x ∷ others) → opening.board o ≡ Some b → (known_of x.local.known o).held ≡ true
    → (given_in o x.local.done ≡ 0) × (freed_over o (x.local.done ∷ map (λ (y : Worker). y.local.done) others) ≡ 0)
unfreed-held opening w x others o b ac on held =
    let c = ac.count o in
    let once = ac.once o in
    let one : boarded (opening.board o) ≡ 1 = ap boarded on in
    let a = sum_by-cons (λ (x : Worker). had o x.local) x others in
    let g = sum_by-cons (λ (x : Worker). given_in o x.local.done) x others in
    let h : one_if (known_of x.local.known o).held ≡ 1 = ap one_if held in
    let f = sum_by-cons (freed_in o) x.local.done (map (λ (y : Worker). y.local.done) others) in
    let most = freed-most o others in (
      omega arith,
      omega arith,
    )

-- and no other wrote to it
pub only-holder : (opening w : World) (x : Worker) (others : List Worker) (o : ℕ) (b : BoardWord) (word : ℕ) → IsAccounted opening w (x ∷ others) → opening.board o ≡ Some b → Any (λ own. wrote own o word ≡ true) (x.local.done ∷ map (λ (y : Worker). y.local.done) others)
    → (known_of x.local.known o).held ≡ true → (wrote x.local.done o word ≡ true → ⊥) → Stands w (x ∷ others) → ⊥
only-holder opening w x others o b word ac on (zero, es, below, is, wr) held mine s = mine (subst (λ ds. wrote ds o word ≡ true) (sym is) wr)
only-holder opening w x others o b word ac on (suc k, es, below, is, wr) held mine s =
    let n : k < length others = (let l = length-done others in omega arith) in
    let e : (get_or others k x).local.done ≡ es = sym (get_or-done others k x es n) ∙ is in
    let tale = ac.told (suc k) x (omega arith) in
    let knew = wrote-knows w.setup opening.board (public w (x ∷ others)) (get_or others k x).local.done o word tale.caused (subst (λ ds. wrote ds o word ≡ true) (sym e) wr) in
    let has = knows-has opening w x others (suc k) x o s ac (omega arith) knew in
    let c = ac.count o in
    let once = ac.once o in
    let one : boarded (opening.board o) ≡ 1 = ap boarded on in
    let a = sum_by-cons (λ (x : Worker). had o x.local) x others in
    let t = get_or-le-sum_by (λ (x : Worker). had o x.local) others k x n in
    let h : one_if (known_of x.local.known o).held ≡ 1 = ap one_if held in
    omega arith
  where
    length-done : (xs : List Worker) → length (map (λ (y : Worker). y.local.done) xs) ≡ length xs
    length-done [] = refl
    length-done (y ∷ ys) = ap suc (length-done ys)

    get_or-done : (xs : List Worker) (k : ℕ) (d : Worker) (es : List Answered) → k < length xs → get_or (map (λ (y : Worker). y.local.done) xs) k es ≡ (get_or xs k d).local.done
    get_or-done [] k d es below = absurd (omega arith)
    get_or-done (y ∷ ys) zero d es below = refl
    get_or-done (y ∷ ys) (suc k) d es below = get_or-done ys k d es (omega arith)
