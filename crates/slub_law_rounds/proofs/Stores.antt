-- What workers put in words stands there after each call of a checked cache under its lock.
use Rattle.std.proofs.Common.{◌≡◌, ℕ, suc, ◌+◌, ◌*◌, ◌<◌, ◌≤◌, Bool, true, false, eqb, if◌then◌else◌, List, ◌∷◌, length, get_or, Ok, Option, Some, refl, sym, ap, ◌∙◌, subst, arith, inl, inr, ℤ}
use Rattle.std.specs.Prelude.{All, pos, nat_abs, ◌+ℤ◌}
use Rattle.std.specs.Int.{to_le_bytes, w64}
use Rattle.std.specs.Ordering.{int_eq}
use Rattle.std.proofs.Math.IntN.{pos-+ℤ-pos}
use Rattle.std.proofs.lemmas.Bool.{cases_eq, cases_Bool, eq-eqb, ne_eqb, leb-true, not-false, false≢true}
use Rattle.std.proofs.lemmas.Bool.Decides.{Decides-int_eq}
use Rattle.std.proofs.lemmas.Option.{same_Some}
use Rattle.std.proofs.lemmas.List.Elements.{All-head}
use Rattle.slub_object_layout.specs.declared.layout.Layout.{Layout}
use Rattle.slub_object_layout.specs.Layout.{address_of}
use Rattle.slub_red_zone.specs.declared.checked.Slot.{Slot}
use Rattle.slub_red_zone.specs.State.{CheckedState, slab_of, bytes_of}
use Rattle.slub_red_zone.specs.Steps.{IsOffset, with_byte, with_word, place_of}
use Rattle.slub_red_zone.specs.Changes.{IsObject}
use Rattle.slub_red_zone.proofs.Pokes.{pokes-bytes, writes-word}
use Rattle.slub_red_zone.proofs.Written.{slot-long}
use Rattle.slub_red_zone.proofs.OneSlab.{slot-inside}
use Rattle.slub_red_zone.proofs.Whole.{slab-sound}
use Rattle.slub_trace.specs.declared.reply.Reply.TheVariants as reply
use Rattle.slub_core.specs.declared.call.CallKind.{CallKind}
use Rattle.slub_core.specs.declared.call.CallKind.TheVariants.{Write, Poke}
use Rattle.slub_core.specs.declared.local.Answered.{Answered}
use Rattle.slub_core.specs.declared.local.Known.{Known}
use Rattle.slub_core.specs.declared.spot.Spot.TheVariants.{InChecked}
use Rattle.slub_core.specs.declared.spot.CheckedSpot.TheVariants.{DoChecked}
use Rattle.slub_core.specs.Calls.{call_object, call_word, call_value, call_offset, call_byte}
use Rattle.slub_core.specs.Setup.{Setup, node_lock}
use Rattle.slub_core.specs.World.{World, LockValue, Checked, update}
use Rattle.slub_core.specs.Local.{Local, Worker, here, call_of, address_in}
use Rattle.slub_core.specs.Checked.{slot_of, with_slabs, slabs_in}
use Rattle.slub_core.specs.Spots.{in_checked, doing}
use Rattle.slub_core.specs.Listed.{IsCheckedOf}
use Rattle.slub_core.specs.Fresh.{IsAtWork}
use Rattle.slub_core.specs.Coherent.{Stands}
use Rattle.slub_core.specs.Replies.{names_object, holding}
use Rattle.slub_core.specs.Accounted.{had, public, known_of, IsAccounted}
use Rattle.slub_core.proofs.CheckedSpots.{held-object}
use Rattle.slub_core.proofs.TaleAnswer.{place-here}
use Rattle.slub_core.proofs.TaleReplies.{told-of, known-here}
use Rattle.slub_core.proofs.Update.{update_same}
use Rattle.slub_law_rounds.proofs.Bytes.{offset-place, poke-address}
use Rattle.slub_law_rounds.specs.Contents.{slabs_at, WasPoked, last_put, IsPut}
use Rattle.slub_law_rounds.specs.Law.{byte_in, HasWords}
use Rattle.slub_law_rounds.proofs.Grows.{Grows, front-grows}
use Rattle.slub_law_rounds.proofs.Acts.{one-more, same-address}
use Rattle.slub_law_rounds.proofs.Words.{holding-other, put-other, holding-this, put-this, slot-differs, written-byte, unwritten-byte, same-offset, poked_place, poked-elsewhere, poked-here}
use Rattle.slub_law_rounds.proofs.Own.{OwnOf, own-still, held-old, one-holder, bytes-at, bytes-in}
use Rattle.slub_law_rounds.proofs.ContentPuts.{HasWordsOf, WordsOf, words-act, mine-stays, others-stay, held-apart}

at-work : (w : World) (x : Worker) (others : List Worker) → Stands w (x ∷ others) → IsAtWork w x
at-work w x others s = All-head (IsAtWork w) x others s.fresh.workers

-- ---- the object of the call

pub record IsHere (l : Local) : Type 0 where
  pub same : call_object (call_of l) ≡ (here l).object
  pub knew : known_of l.known (here l).object ≡ here l

pub here-of : (opening w : World) (x : Worker) (others : List Worker) (kind : CallKind) → IsAccounted opening w (x ∷ others) → doing x.local.spot ≡ Some kind → names_object kind ≡ true → IsHere x.local
here-of opening w x others kind ac at names =
    let tale = told-of opening w x others ac in
    let call = (tale.call kind at).0 in
    record { same = call.object names; knew = known-here x.local (place-here w.setup opening.board (public w (x ∷ others)) x.local kind call names tale) }

-- the slabs of its cache after a change
slabs-now : (m : Setup) (value : ℕ → LockValue) (cache : ℕ) (new : CheckedState) (q : Known) (word place : ℕ) → q.cache ≡ cache → byte_in (slabs_at m (update value (node_lock cache) (Checked new)) q.cache) q word place ≡ byte_in new q word place
slabs-now m value cache new q word place e =
    let now : slabs_at m (update value (node_lock cache) (Checked new)) q.cache ≡ new = ap (λ k. slabs_at m (update value (node_lock cache) (Checked new)) k) e ∙ ap (slabs_in (m.layout cache)) (update_same value (node_lock cache) (Checked new)) in
    ap (λ s. byte_in s q word place) now

pub slabs-were : (m : Setup) (value : ℕ → LockValue) (cache : ℕ) (old : CheckedState) (q : Known) (word place : ℕ) → value (node_lock cache) ≡ Checked old → q.cache ≡ cache → byte_in (slabs_at m value q.cache) q word place ≡ byte_in old q word place
slabs-were m value cache old q word place was e = ap (λ k. byte_in (slabs_at m value k) q word place) e ∙ ap (λ v. byte_in (slabs_in (m.layout cache) v) q word place) was

-- ---- a write

put-wrote : (b : Bool) (x : Option ℕ) (byte put : ℕ) → b ≡ true → (if b then Some byte else x) ≡ Some put → byte ≡ put
put-wrote true x byte put e is = same_Some byte put is
put-wrote false x byte put e is = absurd (false≢true e)

put-kept : (b : Bool) (x : Option ℕ) (byte put : ℕ) → b ≡ false → (if b then Some byte else x) ≡ Some put → x ≡ Some put
put-kept true x byte put e is = absurd (false≢true (sym e))
put-kept false x byte put e is = is

module _ (opening w : World) (x : Worker) (others : List Worker) (rest : List (List Answered)) (old : CheckedState) (s : Stands w (x ∷ others)) (ac : IsAccounted opening w (x ∷ others)) (was : w.value (node_lock x.local.cache) ≡ Checked old) (of : IsCheckedOf w.setup x.local.cache old) where
  pub words-write : x.local.spot ≡ InChecked DoChecked Write → WordsOf w.setup opening rest w.value x.local.known x.local.done others
      → WordsOf w.setup opening rest (with_slabs w.value x.local (with_word old (slot_of x.local) (call_word (call_of x.local)) (call_value (call_of x.local)))) x.local.known (one-more x.local reply.Wrote ∷ x.local.done) others
  words-write is has =
      let l = x.local in
      let m = w.setup in
      let d = one-more l reply.Wrote in
      let ds = l.done in
      let slot = slot_of l in
      let W = call_word (call_of l) in
      let V = call_value (call_of l) in
      let new = with_word old slot W V in
      let after = with_slabs w.value l new in
      let ok = at-work w x others s in
      let at : in_checked l.spot ≡ true = rw is refl in
      let keep = ok.spot.keeps (rw is refl) in
      let mine = here-of opening w x others Write ac (rw is refl) refl in
      let used = held-object w x others old s at (rw is refl) was in
      let size : old.layout.object_size ≡ (m.layout l.cache).object_size = ap (λ (l : Layout). l.object_size) of.layout in
      let fits : 8 * (W + 1) ≤ (m.layout l.cache).object_size = leb-true (8 * (W + 1)) (m.layout l.cache).object_size (not-false _ (ok.spot.inside (rw is refl))) in
      let inner : 8 * (W + 1) ≤ old.layout.object_size = omega (arith, size, fits) in
      let keeps = held-apart w x others old new s at was keep.0 keep.1 mine.same (writes-word old slot of.sound used W V inner).others in
      let grows = front-grows ds d rest in
      words-act m opening rest w.value after l.known l.known ds d others (λ o other. refl) (mine-stays w x others old new was refl keeps)
      (λ o word place put e.
      let kq : known_of l.known o ≡ here l = ap (known_of l.known) (sym e ∙ mine.same) ∙ mine.knew in
      subst (OwnOf m opening ((d ∷ ds) ∷ rest) after (d ∷ ds) o word place put) (sym kq)
      (λ held hold checks last ends below.
      let now = slabs-now m w.value l.cache new (here l) word place keep.2 in
      let last' = sym (put-this d ds o word place e) ∙ last in
      elim (cases_eq W word) [
        | inl hit ↦ inl (
            now ∙ ap (λ a. byte_in new (here l) a place) (sym hit) ∙ written-byte old slot W V of.sound used inner place below
            ∙ put-wrote (eqb W word) (last_put ds o word place) (get_or (to_le_bytes w64 V) place 0) put (eq-eqb W word hit) last')
        | inr missed ↦
            own-still m opening (ds ∷ rest) ((d ∷ ds) ∷ rest) w.value after ds (d ∷ ds) o word place put (here l) grows (λ h. sym (holding-this d ds o e) ∙ h)
            (λ h. put-kept (eqb W word) (last_put ds o word place) (get_or (to_le_bytes w64 V) place 0) put (ne_eqb W word missed) (sym (put-this d ds o word place e) ∙ h))
            (λ held checks ends below. now ∙ unwritten-byte old slot W V of.sound used inner word place (λ z. missed (sym z)) below ∙ sym (slabs-were m w.value l.cache old (here l) word place was keep.2))
            (subst (OwnOf m opening (ds ∷ rest) w.value ds o word place put) kq (has.0 o word place put)) held hold checks last ends below
      ]))
      (others-stay w x others old new was refl keeps) has

  -- ---- a poke

  pub words-poke : x.local.spot ≡ InChecked DoChecked Poke → IsOffset old.layout (call_offset (call_of x.local)) → IsObject old (slot_of x.local)
      → WasPoked w.setup opening.board ((one-more x.local reply.Poked ∷ x.local.done) ∷ rest) x.local.cache (pos (address_of (slot_of x.local).frame (slot_of x.local).index old.layout) +ℤ (call_offset (call_of x.local))) (call_byte (call_of x.local))
      → (under : WasPoked w.setup opening.board ((one-more x.local reply.Poked ∷ x.local.done) ∷ rest) x.local.cache (pos (address_of (slot_of x.local).frame (slot_of x.local).index old.layout) +ℤ (call_offset (call_of x.local))) (call_byte (call_of x.local)))
      × (call_object under.one.call ≡ call_object (call_of x.local))
      → 1 ≤ had (here x.local).object x.local → WordsOf w.setup opening rest w.value x.local.known x.local.done others
      → WordsOf w.setup opening rest (with_slabs w.value x.local (with_byte old (slot_of x.local) (call_offset (call_of x.local)) (call_byte (call_of x.local)))) x.local.known (one-more x.local reply.Poked ∷ x.local.done) others
  words-poke is inside object _ under had_it has = (mine-now, theirs-now)
    where
      l : Local
      l = x.local

      m : Setup
      m = w.setup

      d : Answered
      d = one-more x.local reply.Poked

      offset : ℤ
      offset = call_offset (call_of x.local)

      new : CheckedState
      new = with_byte old (slot_of x.local) (call_offset (call_of x.local)) (call_byte (call_of x.local))

      at : in_checked x.local.spot ≡ true
      at = rw is refl

      pokes : (here x.local).cache ≡ x.local.cache
      pokes = ((at-work w x others s).spot.pokes (rw is refl)).1

      mine : IsHere x.local
      mine = here-of opening w x others Poke ac (rw is refl) refl

      -- another slot, or another place of the slot
      still : (q : Known) (word place : ℕ) → IsObject old (record { frame = q.frame; index = q.index }) → ((q.frame ≡ (here x.local).frame) × (q.index ≡ (here x.local).index) × (old.layout.left_pad + (8 * word + place) ≡ poked_place old (slot_of x.local) (call_offset (call_of x.local)) (call_byte (call_of x.local)) of.sound object inside) → ⊥)
          → byte_in new q word place ≡ byte_in old q word place
      still q word place there apart = elim (cases_eq q.frame (here x.local).frame) [
        | inr frame ↦ bytes-in old new q word place refl ((pokes-bytes old (slot_of x.local) of.sound object (call_offset (call_of x.local)) (call_byte (call_of x.local)) (Ok tt) new (inside, refl)).others _ (slot-differs _ (slot_of x.local) (λ f i. frame f)) there)
        | inl frame ↦ elim (cases_eq q.index (here x.local).index) [
          | inr index ↦ bytes-in old new q word place refl ((pokes-bytes old (slot_of x.local) of.sound object (call_offset (call_of x.local)) (call_byte (call_of x.local)) (Ok tt) new (inside, refl)).others _ (slot-differs _ (slot_of x.local) (λ f i. index i)) there)
          | inl index ↦ (
              let same : (record { frame = q.frame; index = q.index }) ≡ slot_of x.local = (λ i. record { frame = frame i; index = index i }) in
              let p = old.layout.left_pad + (8 * word + place) in
              ap (λ (t : Slot). get_or (bytes_of new t) p 0) same ∙ poked-elsewhere old (slot_of x.local) (call_offset (call_of x.local)) (call_byte (call_of x.local)) of.sound object inside p (λ z. apart (frame, index, z)) ∙ sym (ap (λ (t : Slot). get_or (bytes_of old t) p 0) same))
        ]
      ]

      -- the byte that is poked
      hit : (q : Known) (word place : ℕ) → q.frame ≡ (here x.local).frame → q.index ≡ (here x.local).index → old.layout.left_pad + (8 * word + place) ≡ poked_place old (slot_of x.local) (call_offset (call_of x.local)) (call_byte (call_of x.local)) of.sound object inside
          → byte_in new q word place ≡ call_byte (call_of x.local)
      hit q word place frame index z =
          let same : (record { frame = q.frame; index = q.index }) ≡ slot_of x.local = (λ i. record { frame = frame i; index = index i }) in
          let slab = slab-sound old (here x.local).frame of.sound (omega (arith, object)) in
          let long = slot-long old.layout (slab_of old (here x.local).frame).bytes (here x.local).index (slot-inside old.layout (slab_of old (here x.local).frame) slab (here x.local).index object) in
          ap (λ (t : Slot). get_or (bytes_of new t) (old.layout.left_pad + (8 * word + place)) 0) same ∙ ap (λ p. get_or (bytes_of new (slot_of x.local)) p 0) z
          ∙ poked-here old (slot_of x.local) (call_offset (call_of x.local)) (call_byte (call_of x.local)) of.sound object inside (omega (arith, long, (offset-place old.layout (call_offset (call_of x.local)) inside).0))

      -- its address
      hit-address : (q : Known) (word place : ℕ) → q.cache ≡ x.local.cache → q.frame ≡ (here x.local).frame → q.index ≡ (here x.local).index → old.layout.left_pad + (8 * word + place) ≡ poked_place old (slot_of x.local) (call_offset (call_of x.local)) (call_byte (call_of x.local)) of.sound object inside
          → pos (address_of (slot_of x.local).frame (slot_of x.local).index old.layout) +ℤ (call_offset (call_of x.local)) ≡ pos (address_in w.setup q + (8 * word + place))
      hit-address q word place cache frame index z =
          let a = poke-address old.layout (here x.local).frame (here x.local).index (call_offset (call_of x.local)) inside in
          let b : address_in w.setup q ≡ address_of (here x.local).frame (here x.local).index old.layout = same-address w.setup q x.local.cache old of cache ∙ ap (λ f. address_of f q.index old.layout) frame ∙ ap (λ i. address_of (here x.local).frame i old.layout) index in
          a ∙ ap pos (let e : (here x.local).frame * 4096 + (here x.local).index * old.layout.size + nat_abs (place_of old.layout (call_offset (call_of x.local))) ≡ address_in w.setup q + (8 * word + place) = omega (arith, b, z) in e)

      grows : Grows (x.local.done ∷ rest) ((d ∷ x.local.done) ∷ rest)
      grows = front-grows x.local.done d rest

      after : ℕ → LockValue
      after = with_slabs w.value x.local new

      -- of another number
      entry : (k : ℕ) (e : Worker) → k < length (x ∷ others) → (o word place put : ℕ) → (call_object (call_of x.local) ≡ o → ⊥) → (es : List Answered)
          → (holding es o ≡ true → holding (get_or (x ∷ others) k e).local.done o ≡ true) → (last_put es o word place ≡ Some put → last_put (get_or (x ∷ others) k e).local.done o word place ≡ Some put)
          → OwnOf m opening (x.local.done ∷ rest) w.value (get_or (x ∷ others) k e).local.done o word place put (known_of (get_or (x ∷ others) k e).local.known o)
          → OwnOf m opening ((d ∷ x.local.done) ∷ rest) after es o word place put (known_of (get_or (x ∷ others) k e).local.known o)
      entry k e below o word place put other es hold last own held holds checks is_last ends few =
          let y = get_or (x ∷ others) k e in
          let q = known_of y.local.known o in
          let unmoved : (q.cache ≡ x.local.cache → byte_in new q word place ≡ byte_in old q word place) → IsPut m opening ((d ∷ x.local.done) ∷ rest) q.cache o (pos (address_in m q + (8 * word + place))) put (byte_in (slabs_at m after q.cache) q word place)
          = λ same. own-still m opening (x.local.done ∷ rest) ((d ∷ x.local.done) ∷ rest) w.value after y.local.done es o word place put q grows hold last (λ held checks ends few. bytes-at m w.value x.local.cache old new q word place was same) own held holds checks is_last ends few in
          elim (cases_eq q.cache x.local.cache) [
            | inr elsewhere ↦ unmoved (λ c. absurd (elsewhere c))
            | inl cache ↦ (
                let there = (held-old w x others old k e o s at was below held cache).0 in
                elim (cases_eq q.frame (here x.local).frame) [
                  | inr frame ↦ unmoved (λ c. still q word place there (λ z. frame z.0))
                  | inl frame ↦ elim (cases_eq q.index (here x.local).index) [
                    | inr index ↦ unmoved (λ c. still q word place there (λ z. index z.1))
                    | inl index ↦ elim (cases_eq (old.layout.left_pad + (8 * word + place)) (poked_place old (slot_of x.local) (call_offset (call_of x.local)) (call_byte (call_of x.local)) of.sound object inside)) [
                      | inr missed ↦ unmoved (λ c. still q word place there (λ z. missed z.2))
                      | inl z ↦ (
                          let byte = slabs-now m w.value x.local.cache new q word place cache ∙ hit q word place frame index z in
                          let where_at = hit-address q word place cache frame index z in
                          subst (λ b. IsPut m opening ((d ∷ x.local.done) ∷ rest) q.cache o (pos (address_in m q + (8 * word + place))) put b) (sym byte)
                          (subst (λ c. IsPut m opening ((d ∷ x.local.done) ∷ rest) c o (pos (address_in m q + (8 * word + place))) put (call_byte (call_of x.local))) (sym cache)
                          (subst (λ a. IsPut m opening ((d ∷ x.local.done) ∷ rest) x.local.cache o a put (call_byte (call_of x.local))) where_at (inr (under.0, λ same. other (sym under.1 ∙ same))))))
                    ]
                  ]
                ])
          ]

      theirs-now : All (λ (y : Worker). HasWords m opening ((d ∷ x.local.done) ∷ rest) after y.local) others
      theirs-now k e below o word place put held = elim (cases_eq (call_object (call_of x.local)) o) [
        | inl same ↦ absurd (one-holder opening w x others k e (here x.local).object ac had_it below (subst (λ n. (known_of (get_or others k e).local.known n).held ≡ true) (sym same ∙ mine.same) held))
        | inr other ↦ entry (suc k) e (omega arith) o word place put other (get_or others k e).local.done (λ h. h) (λ h. h) (has.1 k e below o word place put) held
      ]

      -- of this number
      this : (o word place put : ℕ) → call_object (call_of x.local) ≡ o → OwnOf m opening ((d ∷ x.local.done) ∷ rest) after (d ∷ x.local.done) o word place put (here x.local)
      this o word place put e held hold checks last ends below =
          let ds = x.local.done in
          let q = here x.local in
          let kq : known_of x.local.known o ≡ q = ap (known_of x.local.known) (sym e ∙ mine.same) ∙ mine.knew in
          let p = old.layout.left_pad + (8 * word + place) in
          let last' = sym (put-this d ds o word place e) ∙ last in
          elim (cases_Bool (int_eq (call_offset (call_of x.local)) (pos (8 * word + place)))) [
            | inl hits ↦ (
                let offset_is = (Decides-int_eq (call_offset (call_of x.local)) (pos (8 * word + place))).0 hits in
                let z : nat_abs (place_of old.layout (call_offset (call_of x.local))) ≡ p = ap (λ z. nat_abs (place_of old.layout z)) offset_is ∙ ap nat_abs (pos-+ℤ-pos old.layout.left_pad (8 * word + place)) in
                inl (slabs-now m w.value x.local.cache new q word place pokes ∙ hit q word place refl refl (sym z) ∙ put-wrote _ (last_put ds o word place) (call_byte (call_of x.local)) put hits last'))
            | inr misses ↦ (
                let away : p ≡ nat_abs (place_of old.layout (call_offset (call_of x.local))) → ⊥ = λ z.
                let is_place : pos p ≡ place_of old.layout (call_offset (call_of x.local)) = ap pos z ∙ (offset-place old.layout (call_offset (call_of x.local)) inside).1 in
                let offset_is = same-offset old.layout.left_pad (8 * word + place) (call_offset (call_of x.local)) is_place in
                false≢true (sym misses ∙ (Decides-int_eq (call_offset (call_of x.local)) (pos (8 * word + place))).1 offset_is) in
                own-still m opening (ds ∷ rest) ((d ∷ ds) ∷ rest) w.value after ds (d ∷ ds) o word place put q grows (λ h. sym (holding-this d ds o e) ∙ h)
                (λ h. put-kept _ (last_put ds o word place) (call_byte (call_of x.local)) put misses (sym (put-this d ds o word place e) ∙ h))
                (λ held checks ends below. bytes-at m w.value x.local.cache old new q word place was (λ c. still q word place object (λ t. away t.2)))
                (subst (OwnOf m opening (ds ∷ rest) w.value ds o word place put) kq (has.0 o word place put)) held hold checks last ends below)
          ]

      mine-now : HasWordsOf m opening ((d ∷ x.local.done) ∷ rest) after x.local.known (d ∷ x.local.done)
      mine-now o word place put = elim (cases_eq (call_object (call_of x.local)) o) [
        | inl e ↦ subst (OwnOf m opening ((d ∷ x.local.done) ∷ rest) after (d ∷ x.local.done) o word place put) (sym (ap (known_of x.local.known) (sym e ∙ mine.same) ∙ mine.knew)) (this o word place put e)
        | inr other ↦ entry 0 x (omega arith) o word place put other (d ∷ x.local.done) (λ h. sym (holding-other d x.local.done o other) ∙ h) (λ h. sym (put-other d x.local.done o word place other) ∙ h) (has.0 o word place put)
      ]
