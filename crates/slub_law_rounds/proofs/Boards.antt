-- Objects that were on the board before the round and that nobody has freed: where they are, and what stands in them.
use Rattle.std.proofs.Common.{◌≡◌, ℕ, suc, ◌+◌, ◌*◌, ◌-◌, ◌<◌, ◌≤◌, ◌⊎◌, ◌&&◌, ◌||◌, eqb, Bool, true, false, List, [], ◌∷◌, ◌++◌, length, get_or, Option, Some, refl, sym, ap, ◌∙◌, subst, arith, inl, inr}
use Rattle.std.specs.Prelude.{sum_by, pos}
use Rattle.std.specs.List.{Any}
use Rattle.std.proofs.lemmas.Bool.{cases_eq, cases_Bool, eq-eqb, ne_eqb, lt-ltb}
use Rattle.std.proofs.lemmas.List.Sums.{sum_by-cons}
use Rattle.slub_object_layout.specs.Layout.{address_of}
use Rattle.slub_red_zone.specs.State.{CheckedState, slab_of, objects_in, bytes_of}
use Rattle.slub_red_zone.specs.Changes.{IsObject}
use Rattle.slub_words.specs.declared.board.BoardWord.{BoardWord}
use Rattle.slub_trace.specs.declared.reply.Reply.{Reply}
use Rattle.slub_trace.specs.declared.reply.Reply.TheVariants as reply
use Rattle.slub_core.specs.declared.local.Answered.{Answered}
use Rattle.slub_core.specs.Calls.{call_object}
use Rattle.slub_core.specs.Setup.{Setup, node_lock}
use Rattle.slub_core.specs.World.{World, LockValue, Checked, object_at, objects_at, cache_at, size_in, on_board, idle_in, one_if}
use Rattle.slub_core.specs.Local.{Worker, address_in}
use Rattle.slub_core.specs.Placed.{owned}
use Rattle.slub_core.specs.Coherent.{Stands}
use Rattle.slub_core.specs.Round.{freed_over}
use Rattle.slub_core.specs.Replies.{is_given, given_in, freed_in, address_after, address_on, address_by}
use Rattle.slub_core.specs.Accounted.{boarded, had, known_of, IsAccounted}
use Rattle.slub_core.proofs.Counts.{places-cons}
use Rattle.slub_core.proofs.Exists.{object_at-le}
use Rattle.slub_core.proofs.TaleAddress.{one-address}
use Rattle.slub_core.proofs.TaleGiven.{known-object, ungiven}
use Rattle.slub_core.proofs.Update.{term_le_sum}
use Rattle.slub_core.proofs.StepValues.{value-slab}
use Rattle.slub_core.proofs.ValueStep.{board-object}
use Rattle.slub_law_rounds.specs.Contents.{slabs_at, Came}
use Rattle.slub_law_rounds.specs.Law.{wrote, HasBoarded}
use Rattle.slub_law_rounds.proofs.Grows.{Grows, came-later}

some-same : {A : Type 0} {a b : A} → Some a ≡ Some b → a ≡ b
some-same e = cc

-- ---- where such an object is

pub data IsPlace (w : World) (xs : List Worker) (o f i : ℕ) : Type 0 where
  boards : on_board (w.board o) f i ≡ 1 → IsPlace w xs o f i
  holds : (k : ℕ) (d : Worker) → k < length xs → (known_of (get_or xs k d).local.known o).held ≡ true → (known_of (get_or xs k d).local.known o).frame ≡ f → (known_of (get_or xs k d).local.known o).index ≡ i → IsPlace w xs o f i

-- a number that was not given has the address that it had on the board before
pub address-ungiven : (m : Setup) (before : ℕ → Option BoardWord) (ds : List Answered) (o : ℕ) → given_in o ds ≡ 0 → address_by m before ds o ≡ address_on m (before o)
address-ungiven m before [] o none = refl
address-ungiven m before (d ∷ ds) o none =
    let rest = address-ungiven m before ds o (omega arith) in
    elim (cases_eq (call_object d.call) o) [
      | inl e ↦ rw (eq-eqb (call_object d.call) o e) (by_reply d.reply (let z : one_if (is_given d.reply && eqb (call_object d.call) o) ≡ 0 = omega arith in rw (eq-eqb (call_object d.call) o e) at z) ∙ rest)
      | inr n ↦ rw (ne_eqb (call_object d.call) o n) rest
    ]
  where
    by_reply : (r : Reply) {x : Option ℕ} → one_if (is_given r && true) ≡ 0 → address_after r x ≡ x
    by_reply (reply.Given a) z = absurd (omega arith)
    by_reply (reply.Freed a) z = refl
    by_reply (reply.Corrupt d) z = refl
    by_reply reply.NoFrames z = refl
    by_reply reply.NoSuchCache z = refl
    by_reply reply.NoMemory z = refl
    by_reply (reply.IdsSpent t) z = refl
    by_reply reply.NotHeld z = refl
    by_reply reply.Wrote z = refl
    by_reply (reply.Value v) z = refl
    by_reply reply.OutOfObject z = refl
    by_reply reply.Poked z = refl
    by_reply reply.OutOfSlot z = refl
    by_reply reply.NotChecked z = refl
    by_reply (reply.Trimmed n) z = refl
    by_reply reply.Checked z = refl
    by_reply (reply.Flushed n) z = refl

-- somebody holds it, where it isn't freed
some-held : (o : ℕ) (xs : List Worker) (d : Worker) → 1 ≤ sum_by (λ (x : Worker). had o x.local) xs → sum_by (λ (x : Worker). freed_in o x.local.done) xs ≡ 0 → (k : ℕ) × (k < length xs) × ((known_of (get_or xs k d).local.known o).held ≡ true)
some-held o [] d some none = absurd (omega arith)
some-held o (x ∷ xs) d some none =
    let a = sum_by-cons (λ (x : Worker). had o x.local) x xs in
    let b = sum_by-cons (λ (x : Worker). freed_in o x.local.done) x xs in
    elim (cases_Bool (known_of x.local.known o).held) [
      | inl has ↦ (0, omega arith, has)
      | inr hasnt ↦ (
          let z : one_if (known_of x.local.known o).held ≡ 0 = ap one_if hasnt in
          let r = some-held o xs d (omega arith) (omega arith) in
          (suc r.0, (let lt = r.1 in omega arith), r.2))
    ]

pub place-of : (opening w : World) (x : Worker) (others : List Worker) (o f i : ℕ) (b : BoardWord) → Stands w (x ∷ others) → IsAccounted opening w (x ∷ others) → opening.board o ≡ Some b → sum_by (λ (y : Worker). freed_in o y.local.done) (x ∷ others) ≡ 0
    → 1 ≤ object_at w f i → cache_at w f ≡ b.cache → address_of f i (w.setup.layout b.cache) ≡ address_of b.frame b.index (w.setup.layout b.cache) → IsPlace w (x ∷ others) o f i
place-of opening w x others o f i b s ac at none some cache same =
    let c = ac.count o in
    let once = ac.once o in
    let one : boarded (opening.board o) ≡ 1 = ap boarded at in
    let within = ac.within o b at in
    elim (ac.stands o) [
      | inl gone ↦ (
          let z : boarded (w.board o) ≡ 0 = ap boarded gone in
          let held = some-held o (x ∷ others) x (omega arith) none in
          let k = held.0 in
          let q = known_of (get_or (x ∷ others) k x).local.known o in
          let obj = known-object w (x ∷ others) k x s held.1 o held.2 in
          let told = ac.told k x held.1 in
          let un = ungiven opening w (x ∷ others) o b ac at k x held.1 in
          let where_is : address_in w.setup q ≡ address_of b.frame b.index (w.setup.layout b.cache) = some-same (sym (told.address o held.2) ∙ address-ungiven w.setup opening.board (get_or (x ∷ others) k x).local.done o un ∙ ap (address_on w.setup) at) in
          let same_slot = one-address w (x ∷ others) f i q.frame q.index s some obj.0 (ap (λ c. address_of q.frame q.index (w.setup.layout c)) (sym obj.1) ∙ where_is ∙ sym same ∙ ap (λ c. address_of f i (w.setup.layout c)) (sym cache)) in
          holds k x held.1 held.2 same_slot.0 same_slot.1)
      | inr stands ↦ (
          let there : w.board o ≡ Some b = stands ∙ at in
          let obj = board-object w x others s o b within.1 there in
          let owner = s.listed.shaped.board o b within.1 there in
          let same_slot = one-address w (x ∷ others) f i b.frame b.index s some obj (ap (λ c. address_of b.frame b.index (w.setup.layout c)) (sym owner) ∙ sym same ∙ ap (λ c. address_of f i (w.setup.layout c)) (sym cache)) in
          boards (ap (λ b. on_board b f i) there ∙ rw (eq-eqb b.frame f same_slot.0, eq-eqb b.index i same_slot.1) refl))
    ]

-- an object of a checked cache's slabs is one of the machine's
pub object-in : (w : World) (xs : List Worker) (cache f i : ℕ) (slabs : CheckedState) → Stands w xs → node_lock cache < w.setup.locks → w.value (node_lock cache) ≡ Checked slabs → i < objects_in (slab_of slabs f) → (1 ≤ object_at w f i) × (cache_at w f ≡ cache)
object-in w xs cache f i slabs s below was inside =
    let size : size_in (w.value (node_lock cache)) f ≡ objects_in (slab_of slabs f) = ap (λ v. size_in v f) was in
    let v = value-slab w s.chains (node_lock cache) f s.listed.shaped below (omega arith) in
    let e = v.1 in
    let one : object_at w f i ≡ 1 = ap one_if (lt-ltb i (objects_at w f) (omega arith)) in
    (omega arith, v.2 ∙ (let c : node_lock cache - 1 ≡ cache = omega arith in c))

-- what is on the board nobody has, and it isn't idle
pub board-alone : (w : World) (x : Worker) (others : List Worker) (o f i : ℕ) → Stands w (x ∷ others) → o < w.setup.objects → on_board (w.board o) f i ≡ 1 → (owned f i x ≡ 0) × ((n : ℕ) → n < w.setup.locks → idle_in (w.value n) f i ≡ 0)
board-alone w x others o f i s within on =
    let p = places-cons w s.chains x others f i in
    let once = s.placed.once f i in
    let one = object_at-le w f i in
    let t = term_le_sum w.setup.objects (λ o. on_board (w.board o) f i) o within in (
      omega arith,
      λ n below. let u = term_le_sum w.setup.locks (λ n. idle_in (w.value n) f i) n below in omega arith,
    )

-- ---- replies grow

wrote-more : (new ds : List Answered) (o word : ℕ) → wrote ds o word ≡ true → wrote (new ++ ds) o word ≡ true
wrote-more [] ds o word is = is
wrote-more (d ∷ new) ds o word is = or-right _ (wrote (new ++ ds) o word) (wrote-more new ds o word is)
  where
    or-right : (a b : Bool) → b ≡ true → (a || b) ≡ true
    or-right true b e = refl
    or-right false b e = e

any-grows : (dones more : List (List Answered)) (o word : ℕ) → Grows dones more → Any (λ own. wrote own o word ≡ true) dones → Any (λ own. wrote own o word ≡ true) more
any-grows dones more o word grows (k, ds, below, is, w) = let g = grows ds (k, below, is) in (g.1.0, g.0 ++ ds, g.1.1, g.1.2, wrote-more g.0 ds o word w)

-- an entry of the board
abbrev pub BoardOf : Setup → World → List (List Answered) → CheckedState → ℕ → ℕ → ℕ → ℕ → ℕ → BoardWord → Type 0
BoardOf m opening dones s o f i word place b =
    Came m opening dones b.cache (pos (address_of b.frame b.index (m.layout b.cache) + (8 * word + place))) (get_or (bytes_of s (record { frame = f; index = i })) (s.layout.left_pad + (8 * word + place)) 0) ⊎ Any (λ own. wrote own o word ≡ true) dones

pub board-later : (m : Setup) (opening : World) (dones more : List (List Answered)) (s : CheckedState) (o f i word place : ℕ) (b : BoardWord) → Grows dones more → BoardOf m opening dones s o f i word place b → BoardOf m opening more s o f i word place b
board-later m opening dones more s o f i word place b grows (inl came) = inl (came-later m opening dones more b.cache grows _ _ came)
board-later m opening dones more s o f i word place b grows (inr any) = inr (any-grows dones more o word grows any)

-- no slabs change
pub boarded-later : (m : Setup) (opening : World) (dones more : List (List Answered)) (value after : ℕ → LockValue) → Grows dones more → ((o : ℕ) → freed_over o dones ≤ freed_over o more) → ((cache : ℕ) → m.checks cache ≡ true → slabs_at m after cache ≡ slabs_at m value cache)
    → HasBoarded m opening dones value → HasBoarded m opening more after
boarded-later m opening dones more value after grows freed same has o f i word place b at checks none object address ends below =
    let e = same b.cache checks in
    let f' = freed o in
    subst (λ s. BoardOf m opening more s o f i word place b) (sym e)
    (board-later m opening dones more (slabs_at m value b.cache) o f i word place b grows
    (has o f i word place b at checks (omega arith) (subst (λ s. IsObject s (record { frame = f; index = i })) e object) address ends below))

-- it is an object of the machine, wherever it is
pub object-of : (opening w : World) (x : Worker) (others : List Worker) (o : ℕ) (b : BoardWord) → Stands w (x ∷ others) → IsAccounted opening w (x ∷ others) → opening.board o ≡ Some b → sum_by (λ (y : Worker). freed_in o y.local.done) (x ∷ others) ≡ 0
    → (g : ℕ) × (j : ℕ) × (1 ≤ object_at w g j) × (address_of g j (w.setup.layout (cache_at w g)) ≡ address_of b.frame b.index (w.setup.layout b.cache))
object-of opening w x others o b s ac at none =
    let c = ac.count o in
    let one : boarded (opening.board o) ≡ 1 = ap boarded at in
    let within = ac.within o b at in
    elim (ac.stands o) [
      | inl gone ↦ (
          let z : boarded (w.board o) ≡ 0 = ap boarded gone in
          let held = some-held o (x ∷ others) x (omega arith) none in
          let k = held.0 in
          let q = known_of (get_or (x ∷ others) k x).local.known o in
          let obj = known-object w (x ∷ others) k x s held.1 o held.2 in
          let told = ac.told k x held.1 in
          let un = ungiven opening w (x ∷ others) o b ac at k x held.1 in
          let where_is : address_in w.setup q ≡ address_of b.frame b.index (w.setup.layout b.cache) = some-same (sym (told.address o held.2) ∙ address-ungiven w.setup opening.board (get_or (x ∷ others) k x).local.done o un ∙ ap (address_on w.setup) at) in
          (q.frame, q.index, obj.0, ap (λ c. address_of q.frame q.index (w.setup.layout c)) (sym obj.1) ∙ where_is))
      | inr stands ↦ (
          let there : w.board o ≡ Some b = stands ∙ at in
          (b.frame, b.index, board-object w x others s o b within.1 there, ap (λ c. address_of b.frame b.index (w.setup.layout c)) (sym (s.listed.shaped.board o b within.1 there))))
    ]
