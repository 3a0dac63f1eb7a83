-- What workers put in words, by their replies; and bytes of words of checked objects through the calls on slabs.
use Rattle.std.proofs.Common.{◌≡◌, ◌≢◌, ℕ, ◌+◌, ◌*◌, ◌-◌, ◌<◌, ◌≤◌, ◌⊎◌, Bool, true, ◌++◌, List, [], ◌∷◌, length, take, drop, get_or, set, Ok, Option, Some, refl, sym, ap, ◌∙◌, subst, arith, inl, inr, ℤ, get_or-set_same, get_or-set_other}
use Rattle.std.specs.Prelude.{pos, nat_abs, ◌+ℤ◌, ◌&&◌}
use Rattle.std.specs.Int.{to_le_bytes, w64}
use Rattle.std.proofs.lemmas.Bool.{cases_eq, cases_lt, eq-eqb, ne_eqb, false≢true}
use Rattle.std.proofs.lemmas.Option.{none-some}
use Rattle.slub_red_zone.specs.declared.checked.Slot.{Slot}
use Rattle.slub_red_zone.specs.State.{SlabState, CheckedState, IsUsed, slab_of, bytes_of}
use Rattle.slub_red_zone.specs.Sound.{IsSound}
use Rattle.slub_red_zone.specs.Steps.{IsOffset, place_of, with_byte, with_word, word_place}
use Rattle.slub_red_zone.specs.Changes.{IsObject}
use Rattle.slub_red_zone.proofs.Pokes.{pokes-bytes, writes-word}
use Rattle.slub_red_zone.proofs.Sums.{slab_at-set}
use Rattle.slub_red_zone.proofs.Taken.{frame-within, used-some, word-inside}
use Rattle.slub_trace.specs.declared.reply.Reply.{Reply}
use Rattle.slub_trace.specs.declared.reply.Reply.TheVariants as reply
use Rattle.slub_words.specs.declared.board.BoardWord.{BoardWord}
use Rattle.slub_core.specs.declared.call.Call.{Call}
use Rattle.slub_core.specs.declared.local.Answered.{Answered}
use Rattle.slub_core.specs.Calls.{call_object}
use Rattle.slub_core.specs.Setup.{Setup}
use Rattle.slub_core.specs.Replies.{is_freed, holds_after, holding, knows_after, knows, freed_in, Public, Cause, Caused}
use Rattle.slub_core.specs.World.{one_if}
use Rattle.slub_core.proofs.TaleRest.{holding-knows}
use Rattle.slub_law_rounds.proofs.Bytes.{piece-here}
use Rattle.slub_law_rounds.proofs.Clean.{slot-byte}
use Rattle.slub_law_rounds.specs.Contents.{put_after, last_put}
use Rattle.slub_law_rounds.proofs.Mild.{MildReply}

-- ---- replies

-- a reply of another object
pub holding-other : (d : Answered) (ds : List Answered) (o : ℕ) → (call_object d.call ≡ o → ⊥) → holding (d ∷ ds) o ≡ holding ds o
holding-other d ds o other = rw (ne_eqb (call_object d.call) o other) refl

pub put-other : (d : Answered) (ds : List Answered) (o word place : ℕ) → (call_object d.call ≡ o → ⊥) → last_put (d ∷ ds) o word place ≡ last_put ds o word place
put-other d ds o word place other = rw (ne_eqb (call_object d.call) o other) refl

-- of this one
pub holding-this : (d : Answered) (ds : List Answered) (o : ℕ) → call_object d.call ≡ o → holding (d ∷ ds) o ≡ holds_after d.reply (holding ds o)
holding-this d ds o same = rw (eq-eqb (call_object d.call) o same) refl

pub put-this : (d : Answered) (ds : List Answered) (o word place : ℕ) → call_object d.call ≡ o → last_put (d ∷ ds) o word place ≡ put_after d.call d.reply word place (last_put ds o word place)
put-this d ds o word place same = rw (eq-eqb (call_object d.call) o same) refl

-- a reply that changes neither
pub record Calm (r : Reply) : Type 0 where
  pub holds : (b : Bool) → holds_after r b ≡ b
  pub puts : (call : Call) (word place : ℕ) (x : Option ℕ) → put_after call r word place x ≡ x

pub calm-mild : (r : Reply) → MildReply (Some r) → Calm r
calm-mild (reply.Given a) mild = absurd mild
calm-mild (reply.Freed a) mild = absurd mild
calm-mild (reply.Corrupt d) mild = absurd mild
calm-mild reply.Wrote mild = absurd mild
calm-mild (reply.Value v) mild = absurd mild
calm-mild reply.Poked mild = absurd mild
calm-mild reply.NoFrames mild = record { holds = λ b. refl; puts = λ call word place x. refl }
calm-mild reply.NoSuchCache mild = record { holds = λ b. refl; puts = λ call word place x. refl }
calm-mild reply.NoMemory mild = record { holds = λ b. refl; puts = λ call word place x. refl }
calm-mild (reply.IdsSpent t) mild = record { holds = λ b. refl; puts = λ call word place x. refl }
calm-mild reply.NotHeld mild = record { holds = λ b. refl; puts = λ call word place x. refl }
calm-mild reply.OutOfObject mild = record { holds = λ b. refl; puts = λ call word place x. refl }
calm-mild reply.OutOfSlot mild = record { holds = λ b. refl; puts = λ call word place x. refl }
calm-mild reply.NotChecked mild = record { holds = λ b. refl; puts = λ call word place x. refl }
calm-mild (reply.Trimmed n) mild = record { holds = λ b. refl; puts = λ call word place x. refl }
calm-mild reply.Checked mild = record { holds = λ b. refl; puts = λ call word place x. refl }
calm-mild (reply.Flushed n) mild = record { holds = λ b. refl; puts = λ call word place x. refl }

pub calm-value : (v : ℕ) → Calm (reply.Value v)
calm-value v = record { holds = λ b. refl; puts = λ call word place x. refl }

pub holding-calm : (d : Answered) (ds : List Answered) (o : ℕ) → Calm d.reply → holding (d ∷ ds) o ≡ holding ds o
holding-calm d ds o calm = elim (cases_eq (call_object d.call) o) [
  | inl same ↦ holding-this d ds o same ∙ calm.holds (holding ds o)
  | inr other ↦ holding-other d ds o other
]

pub put-calm : (d : Answered) (ds : List Answered) (o word place : ℕ) → Calm d.reply → last_put (d ∷ ds) o word place ≡ last_put ds o word place
put-calm d ds o word place calm = elim (cases_eq (call_object d.call) o) [
  | inl same ↦ put-this d ds o word place same ∙ calm.puts d.call word place (last_put ds o word place)
  | inr other ↦ put-other d ds o word place other
]

-- what a worker knows it holds, or has freed
pub knows-had : (ds : List Answered) (o : ℕ) → knows ds o ≡ true → (holding ds o ≡ true) ⊎ (1 ≤ freed_in o ds)
knows-had [] o is = absurd (false≢true is)
knows-had (d ∷ ds) o is = elim (cases_eq (call_object d.call) o) [
  | inl same ↦ (
      let now : knows_after d.reply (knows ds o) ≡ true = rw (eq-eqb (call_object d.call) o same) at is in
      rw (eq-eqb (call_object d.call) o same) (by d.reply (knows-had ds o) now))
  | inr other ↦ (
      let was : knows ds o ≡ true = rw (ne_eqb (call_object d.call) o other) at is in
      elim (knows-had ds o was) [
        | inl held ↦ inl (holding-other d ds o other ∙ held)
        | inr freed ↦ inr (omega arith)
      ])
]
  where
    later : (holding ds o ≡ true) ⊎ (1 ≤ freed_in o ds) → (holding ds o ≡ true) ⊎ (1 ≤ 0 + freed_in o ds)
    later (inl a) = inl a
    later (inr b) = inr (omega arith)

    by : (r : Reply) → (knows ds o ≡ true → (holding ds o ≡ true) ⊎ (1 ≤ freed_in o ds)) → knows_after r (knows ds o) ≡ true → (holds_after r (holding ds o) ≡ true) ⊎ (1 ≤ one_if (is_freed r && true) + freed_in o ds)
    by (reply.Given a) was now = inl refl
    by (reply.Freed a) was now = inr (omega arith)
    by (reply.Corrupt d) was now = inl refl
    by reply.NoFrames was now = later (was now)
    by reply.NoSuchCache was now = later (was now)
    by reply.NoMemory was now = later (was now)
    by (reply.IdsSpent t) was now = later (was now)
    by reply.NotHeld was now = later (was now)
    by reply.Wrote was now = later (was now)
    by (reply.Value v) was now = later (was now)
    by reply.OutOfObject was now = later (was now)
    by reply.Poked was now = later (was now)
    by reply.OutOfSlot was now = later (was now)
    by reply.NotChecked was now = later (was now)
    by (reply.Trimmed n) was now = later (was now)
    by reply.Checked was now = later (was now)
    by (reply.Flushed n) was now = later (was now)

-- where it put something it knows the object
pub put-knows : (m : Setup) (before : ℕ → Option BoardWord) (p : Public) (ds : List Answered) (o word place put : ℕ) → Caused m before p ds → last_put ds o word place ≡ Some put → knows ds o ≡ true
put-knows m before p [] o word place put caused is = absurd (none-some put is)
put-knows m before p (d ∷ ds) o word place put caused is = elim (cases_eq (call_object d.call) o) [
  | inl same ↦ (
      let now = sym (put-this d ds o word place same) ∙ is in
      rw (eq-eqb (call_object d.call) o same) (by d.reply (put-knows m before p ds o word place put caused.1) caused.0 now same))
  | inr other ↦ rw (ne_eqb (call_object d.call) o other) (put-knows m before p ds o word place put caused.1 (sym (put-other d ds o word place other) ∙ is))
]
  where
    by : (r : Reply) → (last_put ds o word place ≡ Some put → knows ds o ≡ true) → Cause m before p ds d.call r → put_after d.call r word place (last_put ds o word place) ≡ Some put → call_object d.call ≡ o → knows_after r (knows ds o) ≡ true
    by (reply.Given a) was cause now same = refl
    by (reply.Freed a) was cause now same = refl
    by (reply.Corrupt d) was cause now same = refl
    by reply.Wrote was cause now same = holding-knows ds o (subst (λ q. holding ds q ≡ true) same cause.1)
    by reply.Poked was cause now same = subst (λ q. knows ds q ≡ true) same cause.1
    by reply.NoFrames was cause now same = was now
    by reply.NoSuchCache was cause now same = was now
    by reply.NoMemory was cause now same = was now
    by (reply.IdsSpent t) was cause now same = was now
    by reply.NotHeld was cause now same = was now
    by (reply.Value v) was cause now same = was now
    by reply.OutOfObject was cause now same = was now
    by reply.OutOfSlot was cause now same = was now
    by reply.NotChecked was cause now same = was now
    by (reply.Trimmed n) was cause now same = was now
    by reply.Checked was cause now same = was now
    by (reply.Flushed n) was cause now same = was now

-- ---- bytes

-- two slots
pub slot-differs : (a b : Slot) → (a.frame ≡ b.frame → a.index ≡ b.index → ⊥) → a ≢ b
slot-differs a b apart same = apart (ap (λ (s : Slot). s.frame) same) (ap (λ (s : Slot). s.index) same)

module _ (s : CheckedState) (slot : Slot) (word value : ℕ) (sound : IsSound s) (used : IsUsed s slot) (ends : 8 * (word + 1) ≤ s.layout.object_size) where
  -- the bytes of the word that is written
  pub written-byte : (place : ℕ) → place < 8 → get_or (bytes_of (with_word s slot word value) slot) (s.layout.left_pad + (8 * word + place)) 0 ≡ get_or (to_le_bytes w64 value) place 0
  written-byte place below =
      let b = sound.layout.bounds in
      let was = (slab_of s slot.frame).bytes in
      let p = s.layout.left_pad + (8 * word + place) in
      let at = word_place s.layout slot.index word in
      let now : SlabState = record (slab_of s slot.frame) { bytes = take at was ++ to_le_bytes w64 value ++ drop (at + 8) was } in
      let fits = word-inside s slot sound used word ends in
      slot-byte s.layout (slab_of (with_word s slot word value) slot.frame).bytes slot.index p (omega (arith, ends, below, b.inuse.0, b.inuse.1, b.left_pad))
      ∙ ap (λ (slab : SlabState). get_or slab.bytes (slot.index * s.layout.size + p) 0) (slab_at-set s.slabs slot.frame now (frame-within s slot.frame sound (used-some s slot sound used)))
      ∙ piece-here was (to_le_bytes w64 value) at 8 (slot.index * s.layout.size + p) refl (omega (arith, fits)) (omega arith) (omega (arith, below))
      ∙ ap (λ n. get_or (to_le_bytes w64 value) n 0) (let e : slot.index * s.layout.size + p - at ≡ place = omega arith in e)

  -- those of each other word
  pub unwritten-byte : (other place : ℕ) → (other ≡ word → ⊥) → place < 8 → get_or (bytes_of (with_word s slot word value) slot) (s.layout.left_pad + (8 * other + place)) 0 ≡ get_or (bytes_of s slot) (s.layout.left_pad + (8 * other + place)) 0
  unwritten-byte other place differs below = (writes-word s slot sound used word value ends).this (s.layout.left_pad + (8 * other + place)) (side (cases_lt other word))
    where
      side : (other < word) ⊎ (word ≤ other) → (s.layout.left_pad + (8 * other + place) < s.layout.left_pad + 8 * word) ⊎ (s.layout.left_pad + 8 * word + 8 ≤ s.layout.left_pad + (8 * other + place))
      side (inl less) = inl (omega (arith, less, below))
      side (inr more) = inr (let d : word ≢ other = λ e. differs (sym e) in omega (arith, more, d))

-- the offset of a place
pub same-offset : (a n : ℕ) (offset : ℤ) → pos (a + n) ≡ pos a +ℤ offset → offset ≡ pos n
same-offset a n offset is = grind (arith, is)

module _ (s : CheckedState) (slot : Slot) (offset : ℤ) (byte : ℕ) (sound : IsSound s) (object : IsObject s slot) (inside : IsOffset s.layout offset) where
  abbrev pub poked_place : ℕ
  poked_place = nat_abs (place_of s.layout offset)

  bytes-now : bytes_of (with_byte s slot offset byte) slot ≡ set (bytes_of s slot) poked_place byte
  bytes-now = (pokes-bytes s slot sound object offset byte (Ok tt) (with_byte s slot offset byte) (inside, refl)).this

  pub poked-elsewhere : (p : ℕ) → (p ≡ poked_place → ⊥) → get_or (bytes_of (with_byte s slot offset byte) slot) p 0 ≡ get_or (bytes_of s slot) p 0
  poked-elsewhere p other = ap (λ bytes. get_or bytes p 0) bytes-now ∙ get_or-set_other (bytes_of s slot) poked_place p byte 0 other

  pub poked-here : poked_place < length (bytes_of s slot) → get_or (bytes_of (with_byte s slot offset byte) slot) poked_place 0 ≡ byte
  poked-here long = ap (λ bytes. get_or bytes poked_place 0) bytes-now ∙ get_or-set_same (bytes_of s slot) poked_place byte 0 long
