-- What stands in objects of the board, through the calls of a checked cache under its lock.
use Rattle.std.proofs.Common.{◌≡◌, ℕ, zero, suc, ◌+◌, ◌*◌, ◌/◌, ◌<◌, ◌≤◌, ◌⊎◌, eqb, true, List, ◌∷◌, length, get_or, Ok, Some, None, refl, sym, ap, ◌∙◌, subst, arith, inl, inr}
use Rattle.std.specs.Prelude.{sum_by, unwrap_or, pos, nat_abs, ◌+ℤ◌}
use Rattle.std.proofs.lemmas.Bool.{cases_eq, eq-eqb, leb-true, not-false}
use Rattle.std.proofs.lemmas.List.Sums.{sum_by-cons, get_or-le-sum_by}
use Rattle.std.proofs.lemmas.List.{get_or-set_same, length-set, length-replicate}
use Rattle.slub_object_layout.specs.declared.layout.Layout.{Layout}
use Rattle.slub_object_layout.specs.Layout.{address_of, IsSized}
use Rattle.slub_red_zone.specs.declared.slab.ObjectState.TheVariants.{Free as FreeObject}
use Rattle.slub_red_zone.specs.declared.checked.Slot.{Slot}
use Rattle.slub_red_zone.specs.declared.checked.Run.{Run}
use Rattle.slub_red_zone.specs.declared.checked.CheckedGive.{CheckedGive}
use Rattle.slub_red_zone.specs.declared.checked.CheckedGive.TheVariants as give
use Rattle.slub_red_zone.specs.State.{SlabState, CheckedState, Has as HasSlab, no_slab, slab_of, slot_of as slot_bytes, objects_in, bytes_of}
use Rattle.slub_red_zone.specs.Objects.{idle, here as here_slot}
use Rattle.slub_red_zone.specs.Steps.{Gives, IsOffset, damage_of_used, with_taken, without_slab, with_byte, with_given, with_new_slab, with_word, new_slab, place_of, slab_with_taken}
use Rattle.slub_red_zone.specs.Changes.{IsObject}
use Rattle.slub_red_zone.proofs.Changed.{gives-bytes, takes-bytes}
use Rattle.slub_red_zone.proofs.NewSlabs.{with-new-sound, giving-new}
use Rattle.slub_red_zone.proofs.Objects.{gives-object, taken-object, written-objects}
use Rattle.slub_red_zone.proofs.OneSlab.{slot-inside}
use Rattle.slub_red_zone.proofs.Pokes.{adds-bytes, pokes-bytes, writes-word}
use Rattle.slub_red_zone.proofs.Sums.{slab_at-set}
use Rattle.slub_red_zone.proofs.Taken.{used-some}
use Rattle.slub_red_zone.proofs.Telling.{slab_at-other}
use Rattle.slub_red_zone.proofs.Whole.{slab-sound}
use Rattle.slub_red_zone.proofs.Written.{slot-long}
use Rattle.slub_words.specs.declared.board.BoardWord.{BoardWord}
use Rattle.slub_trace.specs.declared.reply.Reply.TheVariants as reply
use Rattle.slub_core.specs.declared.call.CallKind.TheVariants.{Free, Write}
use Rattle.slub_core.specs.declared.local.Answered.{Answered}
use Rattle.slub_core.specs.declared.local.FrameRun.{FrameRun}
use Rattle.slub_core.specs.declared.spot.Spot.TheVariants.{InChecked}
use Rattle.slub_core.specs.declared.spot.CheckedSpot.TheVariants.{DoChecked}
use Rattle.slub_core.specs.Calls.{call_object, call_word, call_value, call_offset, call_byte}
use Rattle.slub_core.specs.Setup.{node_lock}
use Rattle.slub_core.specs.World.{World, Checked, object_at, cache_at, covers, idle_in, one_if}
use Rattle.slub_core.specs.Local.{Worker, nobody, here, call_of}
use Rattle.slub_core.specs.Checked.{slabs_in, slot_of, with_slabs}
use Rattle.slub_core.specs.Spots.{in_checked}
use Rattle.slub_core.specs.Placed.{held_as, owned}
use Rattle.slub_core.specs.Listed.{covered_by, IsCheckedOf}
use Rattle.slub_core.specs.Coherent.{Stands}
use Rattle.slub_core.specs.Round.{freed_over}
use Rattle.slub_core.specs.Replies.{freed_in}
use Rattle.slub_core.specs.Accounted.{known_of, IsAccounted}
use Rattle.slub_core.proofs.Apart.{run-covers, held-run, run-live, role-most}
use Rattle.slub_core.proofs.CheckedSpots.{held-object}
use Rattle.slub_core.proofs.CheckedStep.{shape-size}
use Rattle.slub_core.proofs.Counts.{places-cons, roles-cons}
use Rattle.slub_core.proofs.Exists.{object_at-le}
use Rattle.slub_core.proofs.TaleGiven.{known-object}
use Rattle.slub_core.proofs.Slots.{IsWordOf, sized-fits}
use Rattle.slub_core.proofs.TaleAddress.{address-word, object-covers}
use Rattle.slub_core.proofs.TaleWritten.{held_as-one}
use Rattle.slub_core.proofs.Update.{update_same, update_other, term_le_sum}
use Rattle.slub_core.proofs.StepValues.{object-within, cache-live}
use Rattle.slub_law_rounds.proofs.Bytes.{offset-place, poke-address}
use Rattle.slub_law_rounds.specs.Contents.{slabs_at, WasPoked, Came}
use Rattle.slub_law_rounds.specs.Law.{wrote, HasBoarded}
use Rattle.slub_law_rounds.proofs.Grows.{Grows, front-grows}
use Rattle.slub_law_rounds.proofs.Acts.{one-more, at-work}
use Rattle.slub_law_rounds.proofs.Words.{slot-differs, unwritten-byte, poked_place, poked-elsewhere, poked-here}
use Rattle.slub_law_rounds.proofs.Own.{held-old, apart-mine, apart-other}
use Rattle.slub_law_rounds.proofs.Stores.{here-of}
use Rattle.slub_law_rounds.proofs.Boards.{IsPlace, boards, holds, place-of, object-in, object-of, board-alone, BoardOf, board-later}

slot-at : ℕ → ℕ → Slot
slot-at f i = record { frame = f; index = i }

freed-grows : (o : ℕ) (ds : List Answered) (d : Answered) (rest : List (List Answered)) → freed_over o (ds ∷ rest) ≤ freed_over o ((d ∷ ds) ∷ rest)
freed-grows o ds d rest = let a = sum_by-cons (freed_in o) ds rest in let b = sum_by-cons (freed_in o) (d ∷ ds) rest in omega arith

module _ (opening w : World) (x : Worker) (others : List Worker) (rest : List (List Answered)) (over : (o : ℕ) → sum_by (λ (y : Worker). freed_in o y.local.done) others ≡ freed_over o rest) (old : CheckedState)
    (s : Stands w (x ∷ others)) (ac : IsAccounted opening w (x ∷ others)) (at : in_checked x.local.spot ≡ true) (was : w.value (node_lock x.local.cache) ≡ Checked old) (of : IsCheckedOf w.setup x.local.cache old) where
  abbrev dones : List (List Answered)
  dones = x.local.done ∷ rest

  unfreed : (o : ℕ) (more : List (List Answered)) → freed_over o dones ≤ freed_over o more → freed_over o more ≡ 0 → sum_by (λ (y : Worker). freed_in o y.local.done) (x ∷ others) ≡ 0
  unfreed o more grown none =
      let a = sum_by-cons (λ (y : Worker). freed_in o y.local.done) x others in
      let b = sum_by-cons (freed_in o) x.local.done rest in
      let c = over o in
      omega arith

  below : node_lock x.local.cache < w.setup.locks
  below = let ok = at-work w x others s in let c = (ok.spot.checked at).0 in let count = s.fresh.setup.locks in omega arith

  -- what is so of each object of the board in this cache afterwards
  abbrev pub EachOf : CheckedState → List (List Answered) → Type 0
  EachOf new more = (o f i word place : ℕ) (b : BoardWord) → opening.board o ≡ Some b → b.cache ≡ x.local.cache → freed_over o more ≡ 0 → f ≡ f → i < objects_in (slab_of new f) → address_of f i (w.setup.layout b.cache) ≡ address_of b.frame b.index (w.setup.layout b.cache)
      → 8 * (word + 1) ≤ (w.setup.layout b.cache).object_size → place < 8 → BoardOf w.setup opening more new o f i word place b

  pub boarded-act : (new : CheckedState) (more : List (List Answered)) → Grows dones more → ((o : ℕ) → freed_over o dones ≤ freed_over o more) → EachOf new more → HasBoarded w.setup opening dones w.value → HasBoarded w.setup opening more (with_slabs w.value x.local new)
  boarded-act new more grows freed each has o f i word place b on checks none object address ends few =
      elim (cases_eq b.cache x.local.cache) [
        | inl e ↦ (
            let now : slabs_at w.setup (with_slabs w.value x.local new) b.cache ≡ new = ap (λ k. slabs_at w.setup (with_slabs w.value x.local new) k) e ∙ ap (slabs_in (w.setup.layout x.local.cache)) (update_same w.value (node_lock x.local.cache) (Checked new)) in
            subst (λ t. BoardOf w.setup opening more t o f i word place b) (sym now) (each o f i word place b on e none refl (subst (λ t. i < objects_in (slab_of t f)) now object) address ends few))
        | inr other ↦ (
            let same : slabs_at w.setup (with_slabs w.value x.local new) b.cache ≡ slabs_at w.setup w.value b.cache = ap (slabs_in (w.setup.layout b.cache)) (update_other w.value (node_lock x.local.cache) (Checked new) (node_lock b.cache) (λ e. other (omega arith))) in
            let z = freed o in
            subst (λ t. BoardOf w.setup opening more t o f i word place b) (sym same)
            (board-later w.setup opening dones more (slabs_at w.setup w.value b.cache) o f i word place b grows (has o f i word place b on checks (omega arith) (subst (λ t. i < objects_in (slab_of t f)) same object) address ends few)))
      ]

  -- it was so before
  each-was : (more : List (List Answered)) → Grows dones more → ((o : ℕ) → freed_over o dones ≤ freed_over o more) → HasBoarded w.setup opening dones w.value → EachOf old more
  each-was more grows freed has o f i word place b on e none _ object address ends few =
      let now : slabs_at w.setup w.value b.cache ≡ old = ap (λ k. slabs_at w.setup w.value k) e ∙ ap (slabs_in (w.setup.layout x.local.cache)) was in
      let checks : w.setup.checks b.cache ≡ true = ap w.setup.checks e ∙ ((at-work w x others s).spot.checked at).2 in
      let z = freed o in
      subst (λ t. BoardOf w.setup opening more t o f i word place b) now
      (board-later w.setup opening dones more (slabs_at w.setup w.value b.cache) o f i word place b grows (has o f i word place b on checks (omega arith) (subst (λ t. i < objects_in (slab_of t f)) (sym now) object) address ends few))

  -- bytes of a slot stay
  each-same : (more : List (List Answered)) (new : CheckedState) (o f i word place : ℕ) (b : BoardWord) → new.layout ≡ old.layout → bytes_of new (record { frame = f; index = i }) ≡ bytes_of old (record { frame = f; index = i }) → BoardOf w.setup opening more old o f i word place b → BoardOf w.setup opening more new o f i word place b
  each-same more new o f i word place b layout bytes is =
      let byte : get_or (bytes_of new (record { frame = f; index = i })) (new.layout.left_pad + (8 * word + place)) 0 ≡ get_or (bytes_of old (record { frame = f; index = i })) (old.layout.left_pad + (8 * word + place)) 0
      = ap (λ bs. get_or bs (new.layout.left_pad + (8 * word + place)) 0) bytes ∙ ap (λ (l : Layout). get_or (bytes_of old (record { frame = f; index = i })) (l.left_pad + (8 * word + place)) 0) layout in
      elim is [
        | inl came ↦ inl (subst (λ y. Came w.setup opening more b.cache (pos (address_of b.frame b.index (w.setup.layout b.cache) + (8 * word + place))) y) (sym byte) came)
        | inr any ↦ inr any
      ]

  -- where it is
  where-is : (o f i : ℕ) (b : BoardWord) (more : List (List Answered)) → ((o : ℕ) → freed_over o dones ≤ freed_over o more) → opening.board o ≡ Some b → b.cache ≡ x.local.cache → freed_over o more ≡ 0 → i < objects_in (slab_of old f)
      → address_of f i (w.setup.layout b.cache) ≡ address_of b.frame b.index (w.setup.layout b.cache) → IsPlace w (x ∷ others) o f i
  where-is o f i b more freed on e none object address =
      let there = object-in w (x ∷ others) x.local.cache f i old s below was object in
      place-of opening w x others o f i b s ac on (unfreed o more (freed o) none) there.0 (there.1 ∙ sym e) address

  -- an object that isn't idle, and isn't the one that the worker holds under the number of its call
  not-idle : (o f i : ℕ) (b : BoardWord) → opening.board o ≡ Some b → IsPlace w (x ∷ others) o f i → idle old f i ≡ 0
  not-idle o f i b on (boards is) = let z = (board-alone w x others o f i s (ac.within o b on).1 is).1 (node_lock x.local.cache) below in sym (ap (λ v. idle_in v f i) was) ∙ z
  not-idle o f i b on (holds k d within held frame index) =
      elim (cases_eq (known_of (get_or (x ∷ others) k d).local.known o).cache x.local.cache) [
        | inl mine ↦ subst (λ g. idle old g i ≡ 0) frame (subst (λ j. idle old (known_of (get_or (x ∷ others) k d).local.known o).frame j ≡ 0) index (held-old w x others old k d o s at was within held mine).1)
        | inr other ↦ held-idle (subst (λ g. 1 ≤ object_at w g i) frame (subst (λ j. 1 ≤ object_at w (known_of (get_or (x ∷ others) k d).local.known o).frame j) index (known-object w (x ∷ others) k d s within o held).0))
      ]
    where
      held-idle : 1 ≤ object_at w f i → idle old f i ≡ 0
      held-idle some =
          let once = s.placed.once f i in
          let one = object_at-le w f i in
          let p = places-cons w s.chains x others f i in
          let t = term_le_sum w.setup.locks (λ n. idle_in (w.value n) f i) (node_lock x.local.cache) below in
          let z : idle_in (w.value (node_lock x.local.cache)) f i ≡ idle old f i = ap (λ v. idle_in v f i) was in
          let q = known_of (get_or (x ∷ others) k d).local.known o in
          let h = (known-object w (x ∷ others) k d s within o held).2 in
          let h' : 1 ≤ owned f i (get_or (x ∷ others) k d) = subst (λ g. 1 ≤ owned g i (get_or (x ∷ others) k d)) frame (subst (λ j. 1 ≤ owned q.frame j (get_or (x ∷ others) k d)) index (omega arith)) in
          let u = get_or-le-sum_by (owned f i) (x ∷ others) k d within in
          omega arith

  not-here : (o f i : ℕ) (b : BoardWord) → opening.board o ≡ Some b → x.local.place < length x.local.known → (here x.local).held ≡ true → (o ≡ (here x.local).object → ⊥) → IsPlace w (x ∷ others) o f i → f ≡ (here x.local).frame → i ≡ (here x.local).index → ⊥
  not-here o f i b on inside mine other (boards is) frame index =
      let z = (board-alone w x others o f i s (ac.within o b on).1 is).0 in
      let one = held_as-one (here x.local) f i mine (sym frame) (sym index) in
      let t = get_or-le-sum_by (held_as f i) x.local.known x.local.place nobody inside in
      omega arith
  not-here o f i b on inside mine other (holds zero d within held f' i') frame index = apart-mine w x others o s inside mine held other (f' ∙ frame) (i' ∙ index)
  not-here o f i b on inside mine other (holds (suc k) d within held f' i') frame index = apart-other w x others k d o s inside mine (omega arith) held (f' ∙ frame) (i' ∙ index)

  -- slabs with as many objects, of which every slot but the one of the call keeps its bytes
  each-apart : (new : CheckedState) (more : List (List Answered)) → Grows dones more → ((o : ℕ) → freed_over o dones ≤ freed_over o more) → new.layout ≡ old.layout → ((f : ℕ) → objects_in (slab_of new f) ≡ objects_in (slab_of old f))
      → ((o f i word place : ℕ) (b : BoardWord) → opening.board o ≡ Some b → b.cache ≡ x.local.cache → freed_over o more ≡ 0 → i < objects_in (slab_of old f) → IsPlace w (x ∷ others) o f i → address_of f i (w.setup.layout b.cache) ≡ address_of b.frame b.index (w.setup.layout b.cache) → place < 8
      → (bytes_of new (record { frame = f; index = i }) ≡ bytes_of old (record { frame = f; index = i })) ⊎ BoardOf w.setup opening more new o f i word place b)
      → HasBoarded w.setup opening dones w.value → EachOf new more
  each-apart new more grows freed layout sizes changes has o f i word place b on e none r object address ends few =
      let inside : i < objects_in (slab_of old f) = (let z = sizes f in omega arith) in
      elim (changes o f i word place b on e none inside (where-is o f i b more freed on e none inside address) address few) [
        | inl bytes ↦ each-same more new o f i word place b layout bytes (each-was more grows freed has o f i word place b on e none refl inside address ends few)
        | inr is ↦ is
      ]

  -- ---- a write

  pub boarded-write : x.local.spot ≡ InChecked DoChecked Write → HasBoarded w.setup opening dones w.value
      → HasBoarded w.setup opening ((one-more x.local reply.Wrote ∷ x.local.done) ∷ rest) (with_slabs w.value x.local (with_word old (slot_of x.local) (call_word (call_of x.local)) (call_value (call_of x.local))))
  boarded-write is has =
      let l = x.local in
      let d = one-more l reply.Wrote in
      let more = (d ∷ l.done) ∷ rest in
      let slot = slot_of l in
      let W = call_word (call_of l) in
      let V = call_value (call_of l) in
      let new = with_word old slot W V in
      let ok = at-work w x others s in
      let keep = ok.spot.keeps (rw is refl) in
      let mine = here-of opening w x others Write ac (rw is refl) refl in
      let used = held-object w x others old s at (rw is refl) was in
      let size : old.layout.object_size ≡ (w.setup.layout l.cache).object_size = ap (λ (l : Layout). l.object_size) of.layout in
      let fits : 8 * (W + 1) ≤ (w.setup.layout l.cache).object_size = leb-true (8 * (W + 1)) (w.setup.layout l.cache).object_size (not-false _ (ok.spot.inside (rw is refl))) in
      let inner : 8 * (W + 1) ≤ old.layout.object_size = omega (arith, size, fits) in
      let writes = writes-word old slot of.sound used W V inner in
      let some = used-some old slot of.sound used in
      let grows = front-grows l.done d rest in
      let freed : (o : ℕ) → freed_over o dones ≤ freed_over o more = λ o. freed-grows o l.done d rest in
      boarded-act new more grows freed
      (λ o f i word place b on e none r object address ends few.
      let inside : i < objects_in (slab_of old f) = (let z = shape-size old new f ((written-objects old slot.frame of.sound some _).slabs.shape f) in omega arith) in
      let place_is = where-is o f i b more freed on e none inside address in
      let before = each-was more grows freed has o f i word place b on e none refl inside address ends few in
      let elsewhere : ((f ≡ slot.frame → i ≡ slot.index → ⊥)) → BoardOf w.setup opening more new o f i word place b = λ apart. each-same more new o f i word place b refl (writes.others _ (slot-differs _ slot apart) inside) before in
      elim (cases_eq o (here l).object) [
        | inr other ↦ elsewhere (not-here o f i b on keep.0 keep.1 other place_is)
        | inl o_is ↦ elim (cases_eq W word) [
          | inl hit ↦ inr (0, d ∷ l.done, omega arith, refl, wrote-now l.done d o word refl (mine.same ∙ sym o_is) hit)
          | inr missed ↦ elim (cases_eq f slot.frame) [
            | inr frame ↦ elsewhere (λ a c. frame a)
            | inl frame ↦ elim (cases_eq i slot.index) [
              | inr index ↦ elsewhere (λ a c. index c)
              | inl index ↦ (
                  let same : (record { frame = f; index = i }) ≡ slot = (λ j. record { frame = frame j; index = index j }) in
                  let p = old.layout.left_pad + (8 * word + place) in
                  let byte : get_or (bytes_of new (record { frame = f; index = i })) p 0 ≡ get_or (bytes_of old (record { frame = f; index = i })) p 0
                  = ap (λ (t : Slot). get_or (bytes_of new t) p 0) same ∙ unwritten-byte old slot W V of.sound used inner word place (λ z. missed (sym z)) few ∙ sym (ap (λ (t : Slot). get_or (bytes_of old t) p 0) same) in
                  elim before [
                    | inl came ↦ inl (subst (λ y. Came w.setup opening more b.cache (pos (address_of b.frame b.index (w.setup.layout b.cache) + (8 * word + place))) y) (sym byte) came)
                    | inr any ↦ inr any
                  ])
            ]
          ]
        ]
      ]) has
    where
      wrote-now : (ds : List Answered) (d : Answered) (o word : ℕ) → d.reply ≡ reply.Wrote → call_object d.call ≡ o → call_word d.call ≡ word → wrote (d ∷ ds) o word ≡ true
      wrote-now ds d o word r a b = rw (r, eq-eqb (call_object d.call) o a, eq-eqb (call_word d.call) word b) refl

  -- ---- a poke

  pub boarded-poke : IsOffset old.layout (call_offset (call_of x.local)) → IsObject old (slot_of x.local) → (here x.local).cache ≡ x.local.cache
      → WasPoked w.setup opening.board ((one-more x.local reply.Poked ∷ x.local.done) ∷ rest) x.local.cache (pos (address_of (slot_of x.local).frame (slot_of x.local).index old.layout) +ℤ (call_offset (call_of x.local))) (call_byte (call_of x.local))
      → HasBoarded w.setup opening dones w.value
      → HasBoarded w.setup opening ((one-more x.local reply.Poked ∷ x.local.done) ∷ rest) (with_slabs w.value x.local (with_byte old (slot_of x.local) (call_offset (call_of x.local)) (call_byte (call_of x.local))))
  boarded-poke inside object owner put has =
      let l = x.local in
      let d = one-more l reply.Poked in
      let more = (d ∷ l.done) ∷ rest in
      let slot = slot_of l in
      let offset = call_offset (call_of l) in
      let byte = call_byte (call_of l) in
      let new = with_byte old slot offset byte in
      let grows = front-grows l.done d rest in
      let freed : (o : ℕ) → freed_over o dones ≤ freed_over o more = λ o. freed-grows o l.done d rest in
      let pokes = pokes-bytes old slot of.sound object offset byte (Ok tt) new (inside, refl) in
      boarded-act new more grows freed
      (λ o f i word place b on e none r there address ends few.
      let within : i < objects_in (slab_of old f) = (let z = shape-size old new f ((written-objects old slot.frame of.sound (omega (arith, object)) _).slabs.shape f) in omega arith) in
      let before = each-was more grows freed has o f i word place b on e none refl within address ends few in
      let elsewhere : ((f ≡ slot.frame → i ≡ slot.index → ⊥)) → BoardOf w.setup opening more new o f i word place b = λ apart. each-same more new o f i word place b refl (pokes.others _ (slot-differs _ slot apart) within) before in
      elim (cases_eq f slot.frame) [
        | inr frame ↦ elsewhere (λ a c. frame a)
        | inl frame ↦ elim (cases_eq i slot.index) [
          | inr index ↦ elsewhere (λ a c. index c)
          | inl index ↦ (
              let same : (record { frame = f; index = i }) ≡ slot = (λ j. record { frame = frame j; index = index j }) in
              let p = old.layout.left_pad + (8 * word + place) in
              elim (cases_eq p (poked_place old slot offset byte of.sound object inside)) [
                | inr missed ↦ (
                    let kept : get_or (bytes_of new (record { frame = f; index = i })) p 0 ≡ get_or (bytes_of old (record { frame = f; index = i })) p 0
                    = ap (λ (t : Slot). get_or (bytes_of new t) p 0) same ∙ poked-elsewhere old slot offset byte of.sound object inside p missed ∙ sym (ap (λ (t : Slot). get_or (bytes_of old t) p 0) same) in
                    elim before [
                      | inl came ↦ inl (subst (λ y. Came w.setup opening more b.cache (pos (address_of b.frame b.index (w.setup.layout b.cache) + (8 * word + place))) y) (sym kept) came)
                      | inr any ↦ inr any
                    ])
                | inl z ↦ (
                    let slab = slab-sound old slot.frame of.sound (omega (arith, object)) in
                    let long = slot-long old.layout (slab_of old slot.frame).bytes slot.index (slot-inside old.layout (slab_of old slot.frame) slab slot.index object) in
                    let now : get_or (bytes_of new (record { frame = f; index = i })) p 0 ≡ byte
                    = ap (λ (t : Slot). get_or (bytes_of new t) p 0) same ∙ ap (λ q. get_or (bytes_of new slot) q 0) z ∙ poked-here old slot offset byte of.sound object inside (omega (arith, long, (offset-place old.layout offset inside).0)) in
                    let a = poke-address old.layout slot.frame slot.index offset inside in
                    let c : address_of b.frame b.index (w.setup.layout b.cache) ≡ address_of slot.frame slot.index old.layout
                    = sym address ∙ ap (λ c. address_of f i (w.setup.layout c)) e ∙ sym (ap (λ (l : Layout). address_of f i l) of.layout) ∙ ap (λ g. address_of g i old.layout) frame ∙ ap (λ j. address_of slot.frame j old.layout) index in
                    let where_at : pos (address_of slot.frame slot.index old.layout) +ℤ offset ≡ pos (address_of b.frame b.index (w.setup.layout b.cache) + (8 * word + place))
                    = a ∙ ap pos (let e : slot.frame * 4096 + slot.index * old.layout.size + nat_abs (place_of old.layout offset) ≡ address_of b.frame b.index (w.setup.layout b.cache) + (8 * word + place) = omega (arith, c, z) in e) in
                    inl (subst (λ y. Came w.setup opening more b.cache (pos (address_of b.frame b.index (w.setup.layout b.cache) + (8 * word + place))) y) (sym now)
                    (subst (λ k. Came w.setup opening more k (pos (address_of b.frame b.index (w.setup.layout b.cache) + (8 * word + place))) byte) (sym e)
                    (subst (λ q. Came w.setup opening more x.local.cache q byte) where_at (inr put)))))
              ])
        ]
      ]) has

  -- ---- a free

  freed-this : (a o : ℕ) → call_object (call_of x.local) ≡ o → freed_over o ((one-more x.local (reply.Freed a) ∷ x.local.done) ∷ rest) ≡ 0 → ⊥
  freed-this a o e none =
      let c = sum_by-cons (freed_in o) (one-more x.local (reply.Freed a) ∷ x.local.done) rest in
      let z : one_if (eqb (call_object (call_of x.local)) o) ≡ 1 = rw (eq-eqb (call_object (call_of x.local)) o e) refl in
      omega arith

  taken-each : (a : ℕ) → x.local.spot ≡ InChecked DoChecked Free → damage_of_used old (slot_of x.local) ≡ None → HasBoarded w.setup opening dones w.value → EachOf (with_taken old (slot_of x.local)) ((one-more x.local (reply.Freed a) ∷ x.local.done) ∷ rest)
  taken-each a is none has =
      let l = x.local in
      let d = one-more l (reply.Freed a) in
      let more = (d ∷ l.done) ∷ rest in
      let slot = slot_of l in
      let ok = at-work w x others s in
      let keep = ok.spot.keeps (rw is refl) in
      let mine = here-of opening w x others Free ac (rw is refl) refl in
      let used = held-object w x others old s at (rw is refl) was in
      let took = taken-object old slot of.sound used in
      each-apart (with_taken old slot) more (front-grows l.done d rest) (λ o. freed-grows o l.done d rest) refl (λ f. shape-size old (with_taken old slot) f (took.slabs.shape f))
      (λ o f i word place b on e un inside place_is address few. elim (cases_eq o (here l).object) [
        | inl o_is ↦ absurd (freed-this a o (mine.same ∙ sym o_is) un)
        | inr other ↦ inl ((takes-bytes old slot (Ok tt) (with_taken old slot) of.sound used (none, refl)).others _ (slot-differs _ slot (not-here o f i b on keep.0 keep.1 other place_is)) inside)
      ]) has

  pub boarded-taken : (a : ℕ) → x.local.spot ≡ InChecked DoChecked Free → damage_of_used old (slot_of x.local) ≡ None → HasBoarded w.setup opening dones w.value
      → HasBoarded w.setup opening ((one-more x.local (reply.Freed a) ∷ x.local.done) ∷ rest) (with_slabs w.value x.local (with_taken old (slot_of x.local)))
  boarded-taken a is none has =
      let d = one-more x.local (reply.Freed a) in
      boarded-act (with_taken old (slot_of x.local)) ((d ∷ x.local.done) ∷ rest) (front-grows x.local.done d rest) (λ o. freed-grows o x.local.done d rest) (taken-each a is none has) has

  pub boarded-gone : (a g : ℕ) → x.local.spot ≡ InChecked DoChecked Free → damage_of_used old (slot_of x.local) ≡ None → g < length old.slabs → HasBoarded w.setup opening dones w.value
      → HasBoarded w.setup opening ((one-more x.local (reply.Freed a) ∷ x.local.done) ∷ rest) (with_slabs w.value x.local (without_slab (with_taken old (slot_of x.local)) g))
  boarded-gone a g is none last has =
      let d = one-more x.local (reply.Freed a) in
      let mid = with_taken old (slot_of x.local) in
      let new = without_slab mid g in
      boarded-act new ((d ∷ x.local.done) ∷ rest) (front-grows x.local.done d rest) (λ o. freed-grows o x.local.done d rest)
      (λ o f i word place b on e un r object address ends few. elim (cases_eq f g) [
        | inl same ↦ absurd (
            let z : slab_of new g ≡ no_slab = ap (λ y. unwrap_or y no_slab) (get_or-set_same mid.slabs g None None (let long = length-set old.slabs (slot_of x.local).frame (Some (slab_with_taken old.layout old.flags (slab_of old (slot_of x.local).frame) (slot_of x.local).index)) in omega (arith, long, last))) in
            let y : i < objects_in (slab_of new g) = subst (λ h. i < objects_in (slab_of new h)) same object in
            let q = ap (λ (slab : SlabState). objects_in slab) z in
            omega (arith, y, q))
        | inr other ↦ (
            let still : slab_of new f ≡ slab_of mid f = slab_at-other mid.slabs g f None other in
            let inside : i < objects_in (slab_of mid f) = subst (λ slab. i < objects_in slab) still object in
            let before = taken-each a is none has o f i word place b on e un refl inside address ends few in
            let bytes : bytes_of new (record { frame = f; index = i }) ≡ bytes_of mid (record { frame = f; index = i }) = ap (λ (slab : SlabState). slot_bytes old.layout slab.bytes i) still in
            elim before [
              | inl came ↦ inl (subst (λ bs. Came w.setup opening ((d ∷ x.local.done) ∷ rest) b.cache (pos (address_of b.frame b.index (w.setup.layout b.cache) + (8 * word + place))) (get_or bs (old.layout.left_pad + (8 * word + place)) 0)) (sym bytes) came)
              | inr any ↦ inr any
            ])
      ]) has

  -- ---- an allocation

  pub boarded-gave : (answer : CheckedGive) (after : CheckedState) (more : List (List Answered)) → Grows dones more → ((o : ℕ) → freed_over o dones ≤ freed_over o more) → Gives old answer after → HasBoarded w.setup opening dones w.value → HasBoarded w.setup opening more (with_slabs w.value x.local after)
  boarded-gave give.Empty after more grows freed gives has =
      let done = gives-object old give.Empty after of.sound gives in
      boarded-act after more grows freed
      (each-apart after more grows freed done.slabs.layout (λ f. shape-size old after f (done.slabs.shape f))
      (λ o f i word place b on e un inside place_is address few. inl (gives-bytes old give.Empty after of.sound gives _ inside)) has) has
  boarded-gave (give.Given slot) after more grows freed gives has =
      let done = gives-object old (give.Given slot) after of.sound gives in
      boarded-act after more grows freed
      (each-apart after more grows freed done.slabs.layout (λ f. shape-size old after f (done.slabs.shape f))
      (λ o f i word place b on e un inside place_is address few.
      inl ((gives-bytes old (give.Given slot) after of.sound gives).others _ (slot-differs _ slot (λ a c.
      let one = done.objects.one slot.frame slot.index in
      let h : here_slot slot slot.frame slot.index ≡ 1 = rw (eq-eqb slot.frame slot.frame refl, eq-eqb slot.index slot.index refl) refl in
      let z : idle old slot.frame slot.index ≡ 0 = sym (ap (λ g. idle old g i) a ∙ ap (idle old slot.frame) c) ∙ not-idle o f i b on place_is in
      omega arith)) inside)) has) has

  -- ---- a new slab

  -- no object of a slab stands where one of a run in hand would
  run-alone : (run : FrameRun) (i g j : ℕ) → x.local.run ≡ Some run → i < run.objects → 1 ≤ object_at w g j → address_of g j (w.setup.layout (cache_at w g)) ≡ address_of run.frame i (w.setup.layout x.local.cache) → ⊥
  run-alone run i g j mine inside some same =
      let ok = at-work w x others s in
      let p = address_of run.frame i (w.setup.layout x.local.cache) / 8 in
      let held = held-run w x.local.cache x.local run _ mine ok.seen.run in
      let live = run-live w x run ok mine in
      let fits = sized-fits w.setup x.local.cache run.order run.objects s.fresh.setup live held.sized in
      let c = run-covers w.setup x.local.cache run i p held inside fits (address-word w.setup x.local.cache run.frame i s.fresh.setup live) in
      let e : covered_by (p / 512) x.local.run ≡ covered_by (p / 512) (Some run) = ap (λ r. covered_by (p / 512) r) mine in
      let within_g = object-within w g j some in
      let live_g : w.setup.lives (cache_at w g) ≡ true = elim (cache-live w s.chains g s.listed.shaped s.fresh.setup.live (omega arith)) [ inl a ↦ a.1 | inr b ↦ b.1 ] in
      let there : IsWordOf (w.setup.layout (cache_at w g)) g j p = subst (λ a. IsWordOf (w.setup.layout (cache_at w g)) g j (a / 8)) same (address-word w.setup (cache_at w g) g j s.fresh.setup live_g) in
      let covered = object-covers w (x ∷ others) g j p s some there in
      let within = s.listed.shaped.within g (omega arith) in
      let t = term_le_sum w.setup.frames (λ k. covers w (p / 512) k) g within in
      let split = roles-cons w x others (p / 512) in
      let one = role-most w (x ∷ others) (p / 512) s in
      omega arith

  pub boarded-added : (run : FrameRun) (a : ℕ) → x.local.run ≡ Some run → objects_in (slab_of old run.frame) ≡ 0 → ¬ HasSlab old run.frame → 1 ≤ run.frame → run.frame < 4096 → IsSized old.layout run.order run.objects → HasBoarded w.setup opening dones w.value
      → HasBoarded w.setup opening ((one-more x.local (reply.Given a) ∷ x.local.done) ∷ rest) (with_slabs w.value x.local (with_given (with_new_slab old (record { frame = run.frame; order = run.order }) run.objects) (record { frame = run.frame; index = 0 })))
  boarded-added run a mine none fresh first last sized has =
      let d = one-more x.local (reply.Given a) in
      let more = (d ∷ x.local.done) ∷ rest in
      let as_run : Run = record { frame = run.frame; order = run.order } in
      let slot : Slot = record { frame = run.frame; index = 0 } in
      let mid = with_new_slab old as_run run.objects in
      let new = with_given mid slot in
      let grows = front-grows x.local.done d rest in
      let freed : (o : ℕ) → freed_over o dones ≤ freed_over o more = λ o. freed-grows o x.local.done d rest in
      let sound = with-new-sound old as_run run.objects of.sound fresh first last sized in
      let gives = giving-new old as_run run.objects of.sound last slot new sized (refl, refl) in
      let size : (f : ℕ) → objects_in (slab_of new f) ≡ objects_in (slab_of mid f) = λ f. shape-size mid new f ((gives-object mid (give.Given slot) new sound gives).slabs.shape f) in
      boarded-act new more grows freed
      (λ o f i word place b on e un r object address ends few. elim (cases_eq f run.frame) [
        | inl same ↦ absurd (
            let there = object-of opening w x others o b s ac on (unfreed o more (freed o) un) in
            let slab : slab_of mid run.frame ≡ new_slab old.layout old.flags run.order run.objects = slab_at-set old.slabs run.frame (new_slab old.layout old.flags run.order run.objects) (let n = of.sound.frames in omega arith) in
            let few_objects : i < run.objects = (let a = subst (λ h. i < objects_in (slab_of new h)) same object in let b = size run.frame in let c = ap (λ (slab : SlabState). objects_in slab) slab in let l = length-replicate run.objects FreeObject in omega (arith, a, b, c, l)) in
            run-alone run i there.0 there.1 mine few_objects there.2 (there.3 ∙ sym address ∙ ap (λ g. address_of g i (w.setup.layout b.cache)) same ∙ ap (λ c. address_of run.frame i (w.setup.layout c)) e))
        | inr other ↦ (
            let still : slab_of mid f ≡ slab_of old f = slab_at-other old.slabs run.frame f (Some (new_slab old.layout old.flags run.order run.objects)) other in
            let inside : i < objects_in (slab_of old f) = subst (λ slab. i < objects_in slab) still (let z = size f in omega arith) in
            let inside_mid : i < objects_in (slab_of mid f) = (let z = size f in omega arith) in
            let bytes = (gives-bytes mid (give.Given slot) new sound gives).others _ (slot-differs (record { frame = f; index = i }) slot (λ a c. other a)) inside_mid ∙ adds-bytes old as_run run.objects fresh _ inside in
            each-same more new o f i word place b refl bytes (each-was more grows freed has o f i word place b on e un refl inside address ends few))
      ]) has
