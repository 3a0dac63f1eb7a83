-- A write of the word stands before each read; what it was answered, and each event after it, says what its worker put there.
use Rattle.std.proofs.Common.{◌≡◌, ℕ, ◌+◌, ◌*◌, ◌<◌, ◌⊎◌, eqb, Bool, true, false, ◌&&◌, ◌||◌, cond, if◌then◌else◌, Option, Some, None, IsSome, List, [], ◌∷◌, ◌++◌, length, map, refl, sym, ap, subst, ◌∙◌, arith, inl, inr, append-nil, append_assoc}
use Rattle.std.specs.Prelude.{count_by, slice_index, pos}
use Rattle.std.specs.Int.{to_le_bytes, w64}
use Rattle.std.specs.Ordering.{int_eq}
use Rattle.std.specs.List.{zip}
use Rattle.std.specs.Option.{option_and_then, option_map_or}
use Rattle.std.proofs.lemmas.Bool.{cases_Bool, eqb-true, false≢true}
use Rattle.std.proofs.lemmas.List.Sums.{fold_push}
use Rattle.slub_trace.specs.declared.event.Act.{Act}
use Rattle.slub_trace.specs.declared.event.Act.TheVariants.{Alloc, Free, Write, Read, Poke, Trim, Flush}
use Rattle.slub_trace.specs.declared.event.Event.{Event}
use Rattle.slub_trace.specs.declared.reply.Reply.{Reply}
use Rattle.slub_trace.specs.declared.reply.Reply.TheVariants as reply
use Rattle.slub_trace.specs.Sound.{AreReadable, IsReadable, is_written, written_after}
use Rattle.slub_lists.specs.State.{State}
use Rattle.slub_lists.specs.Coherent.{held_under}
use Rattle.slub_lists.specs.Words.{is_word}
use Rattle.slub_law_rounds.specs.Answered.{Answered, byte_by_poke, byte_by_write, found_bad, gave, holding, holds_after, is_alloc_of, last_put, of_worker, put_after}
use Rattle.slub_law_rounds.specs.Round.{FreeCause, ReplyCause, Spot, WriteCause, has_word, layout_of, spot_after, spot_by, spot_under}
use Rattle.slub_law_replay.specs.WordReads.{IsPut, ReadsFollowWrites, WasTaken}

module _ (s : State) (answers : List Answered) (worker object word : ℕ) where
  -- what is so once the word was written by the trace: each byte was put, or the worker doesn't hold the object, or the word lies
  -- outside of it, or the object was taken from the board
  data Stands (own : List Answered) : Type 0 where
    was_put : IsPut object word own → Stands own
    unheld : holding object own ≡ false → Stands own
    outside : has_word s object own word ≡ false → Stands own
    was_taken : WasTaken s object own → Stands own

  -- ---- one more event

  put-push : (own : List Answered) (one : Answered) (place : ℕ) → last_put object word place (own ++ one ∷ []) ≡ put_after object word place (last_put object word place own) one
  put-push own one place = fold_push (put_after object word place) None own one

  hold-push : (own : List Answered) (one : Answered) → holding object (own ++ one ∷ []) ≡ holds_after object (holding object own) one
  hold-push own one = fold_push (holds_after object) false own one

  spot-push : (own : List Answered) (one : Answered) → spot_by s object (own ++ one ∷ []) ≡ spot_after s object (spot_by s object own) one
  spot-push own one = fold_push (spot_after s object) (spot_under s object) own one

  taken-push : (own : List Answered) (one : Answered) → count_by (found_bad object) (own ++ one ∷ []) ≡ count_by (found_bad object) own + cond (found_bad object one) 1 0
  taken-push own one = fold_push _ 0 own one

  -- what an event without a gift of the object keeps
  write-keeps : (place : ℕ) (last : Option ℕ) (act : Act) → IsSome last → IsSome (byte_by_write object word place last act)
  write-keeps place last (Write at other value) some = by ((eqb other object) && (eqb at word))
    where
      by : (b : Bool) → IsSome (if b then Some (slice_index (to_le_bytes w64 value) place) else last)
      by true = refl
      by false = some
  write-keeps place last act some = some

  poke-keeps : (place : ℕ) (last : Option ℕ) (act : Act) → IsSome last → IsSome (byte_by_poke object word place last act)
  poke-keeps place last (Poke other offset byte) some = by ((eqb other object) && int_eq offset (pos (8 * word + place)))
    where
      by : (b : Bool) → IsSome (if b then Some byte else last)
      by true = refl
      by false = some
  poke-keeps place last act some = some

  no-gift : (b : Bool) → (b && true) ≡ false → b ≡ false
  no-gift true none = none
  no-gift false none = refl

  put-keeps : (place : ℕ) (last : Option ℕ) (event : Event) (r : Reply) → gave object (event, r) ≡ false → IsSome last → IsSome (put_after object word place last (event, r))
  put-keeps place last event reply.Wrote none some = write-keeps place last event.act some
  put-keeps place last event reply.Poked none some = poke-keeps place last event.act some
  put-keeps place last event (reply.Given address) none some = rw (no-gift (is_alloc_of object event.act) none) some
  put-keeps place last event r none some = some

  spot-keeps : (spot : Option Spot) (event : Event) (r : Reply) → gave object (event, r) ≡ false → spot_after s object spot (event, r) ≡ spot
  spot-keeps spot event (reply.Given address) none = rw (no-gift (is_alloc_of object event.act) none) refl
  spot-keeps spot event r none = refl

  has-keeps : (own : List Answered) (event : Event) (r : Reply) → gave object (event, r) ≡ false → has_word s object (own ++ (event, r) ∷ []) word ≡ has_word s object own word
  has-keeps own event r none = ap (λ spot. option_map_or (λ layout. is_word layout word) (option_and_then (layout_of s) spot) false) (spot-push own (event, r) ∙ spot-keeps (spot_by s object own) event r none)

  unheld-keeps : (own : List Answered) (one : Answered) → gave object one ≡ false → found_bad object one ≡ false → holding object own ≡ false → holding object (own ++ one ∷ []) ≡ false
  unheld-keeps own one none no_damage not_held = rw (hold-push own one, not_held, none, no_damage) refl

  taken-now : (own : List Answered) (one : Answered) → found_bad object one ≡ true → 0 < count_by (found_bad object) (own ++ one ∷ [])
  taken-now own one damaged = rw (taken-push own one, damaged) (omega arith)

  taken-more : (own : List Answered) (one : Answered) → 0 < count_by (found_bad object) own → 0 < count_by (found_bad object) (own ++ one ∷ [])
  taken-more own one some = rw (taken-push own one) (omega arith)

  -- an event without a gift
  keeps : (own : List Answered) (event : Event) (r : Reply) → gave object (event, r) ≡ false → (found_bad object (event, r) ≡ true → (holding object own ≡ true) ⊎ IsSome (held_under s object)) → Stands own → Stands (own ++ (event, r) ∷ [])
  keeps own event r none damaged (was_put put) = was_put (λ place. rw (put-push own (event, r) place) (put-keeps place (last_put object word place own) event r none (put place)))
  keeps own event r none damaged (outside out) = outside (has-keeps own event r none ∙ out)
  keeps own event r none damaged (was_taken (board, some)) = was_taken (board, taken-more own (event, r) some)
  keeps own event r none damaged (unheld not_held) = elim (cases_Bool (found_bad object (event, r))) [
    | inl bad ↦ elim (damaged bad) [
      | inl held ↦ absurd (false≢true (sym not_held ∙ held))
      | inr board ↦ was_taken (board, taken-now own (event, r) bad)
    ]
    | inr good ↦ unheld (unheld-keeps own (event, r) none good not_held)
  ]

  -- ---- an event of the worker

  never : {A : Type 0} (b : Bool) → (b && false) ≡ true → A
  never true is = absurd (false≢true is)
  never false is = absurd (false≢true is)

  not-one : (b : Bool) → (b && false) ≡ false
  not-one true = refl
  not-one false = refl

  free-damaged : (own : List Answered) (x : ℕ) (r : Reply) → FreeCause s answers own x r → (event : Event) → event.act ≡ Free x → found_bad object (event, r) ≡ true → (holding object own ≡ true) ⊎ IsSome (held_under s object)
  free-damaged own x (reply.Corrupt damage) cause event asks bad =
      subst (λ x. (holding x own ≡ true) ⊎ IsSome (held_under s x)) (eqb-true x object (by (eqb x object) (rw asks at bad))) cause.0
    where
      by : (b : Bool) → (b && true) ≡ true → b ≡ true
      by true is = refl
      by false is = is
  free-damaged own x r cause event asks bad = never _ bad

  -- a write of the word itself
  write-stands : (own : List Answered) (event : Event) (value : ℕ) (r : Reply) → event.act ≡ Write word object value → WriteCause s own object word r → Stands (own ++ (event, r) ∷ [])
  write-stands own event value reply.Wrote asks cause = was_put (λ place. rw (put-push own (event, reply.Wrote) place, asks, eq object, eq word) refl)
    where
      eq : (n : ℕ) → eqb n n ≡ true
      eq n = grind arith
  write-stands own event value reply.OutOfObject asks cause = outside (has-keeps own event reply.OutOfObject (rw asks refl) ∙ cause.1)
  write-stands own event value reply.NotHeld asks cause = unheld (unheld-keeps own (event, reply.NotHeld) (rw asks refl) (rw asks refl) cause)
  write-stands own event value (reply.Given a) asks cause = absurd cause
  write-stands own event value (reply.Freed a) asks cause = absurd cause
  write-stands own event value (reply.Corrupt d) asks cause = absurd cause
  write-stands own event value (reply.Value v) asks cause = absurd cause
  write-stands own event value (reply.IdsSpent t) asks cause = absurd cause
  write-stands own event value (reply.Trimmed n) asks cause = absurd cause
  write-stands own event value (reply.Flushed n) asks cause = absurd cause
  write-stands own event value reply.NoFrames asks cause = absurd cause
  write-stands own event value reply.NoMemory asks cause = absurd cause
  write-stands own event value reply.NoSuchCache asks cause = absurd cause
  write-stands own event value reply.Poked asks cause = absurd cause
  write-stands own event value reply.OutOfSlot asks cause = absurd cause
  write-stands own event value reply.NotChecked asks cause = absurd cause
  write-stands own event value reply.Checked asks cause = absurd cause

  step : (own : List Answered) (event : Event) (r : Reply) (act : Act) (was : Bool) → event.act ≡ act → ReplyCause s answers own act r → (was ≡ true → Stands own) → written_after act true object word was ≡ true → Stands (own ++ (event, r) ∷ [])
  step own event r (Alloc place x) was asks cause stands is = by (eqb x object) refl is
    where
      by : (b : Bool) → eqb x object ≡ b → (if b then false else was) ≡ true → Stands (own ++ (event, r) ∷ [])
      by true e is = absurd (false≢true is)
      by false e is = keeps own event r (rw (asks, e) refl) (λ bad. absurd (false≢true (rw asks at bad))) (stands is)
  step own event r (Free x) was asks cause stands is = keeps own event r (rw asks refl) (free-damaged own x r cause event asks) (stands is)
  step own event r (Write at x value) was asks cause stands is = by (eqb x object) (eqb at word) refl refl is
    where
      by : (b c : Bool) → eqb x object ≡ b → eqb at word ≡ c → ((true && b && c) || was) ≡ true → Stands (own ++ (event, r) ∷ [])
      by true true e f is =
          let x-is : x ≡ object = eqb-true x object e in
          let at-is : at ≡ word = eqb-true at word f in
          write-stands own event value r (asks ∙ (λ i. Write (at-is i) (x-is i) value)) (rw (x-is, at-is) at cause)
      by true false e f is = keeps own event r (rw asks refl) (λ bad. absurd (false≢true (rw asks at bad))) (stands is)
      by false c e f is = keeps own event r (rw asks refl) (λ bad. absurd (false≢true (rw asks at bad))) (stands is)
  step own event r (Read at x) was asks cause stands is = keeps own event r (rw asks refl) (λ bad. absurd (false≢true (rw asks at bad))) (stands is)
  step own event r (Poke x offset byte) was asks cause stands is = keeps own event r (rw asks refl) (λ bad. absurd (false≢true (rw asks at bad))) (stands is)
  step own event r (Trim place) was asks cause stands is = keeps own event r (rw asks refl) (λ bad. absurd (false≢true (rw asks at bad))) (stands is)
  step own event r Flush was asks cause stands is = keeps own event r (rw asks refl) (λ bad. absurd (false≢true (rw asks at bad))) (stands is)

  -- another worker's
  other : (act : Act) (was : Bool) → written_after act false object word was ≡ true → was ≡ true
  other (Alloc place x) was is = by (eqb x object) is
    where
      by : (b : Bool) → (if b then false else was) ≡ true → was ≡ true
      by true is = absurd (false≢true is)
      by false is = is
  other (Free x) was is = is
  other (Write at x value) was is = is
  other (Read at x) was is = is
  other (Poke x offset byte) was is = is
  other (Trim place) was is = is
  other Flush was is = is

  -- ---- a value

  finish : (own : List Answered) (value : ℕ) → ReplyCause s answers own (Read word object) (reply.Value value) → Stands own → IsPut object word own ⊎ WasTaken s object own
  finish own value cause (was_put put) = inl put
  finish own value cause (unheld not_held) = absurd (false≢true (sym not_held ∙ cause.0))
  finish own value cause (outside out) = absurd (false≢true (sym out ∙ cause.1))
  finish own value cause (was_taken taken) = inr taken

  abbrev Told : List Answered → List Answered → Type 0
  Told own rest = (mine : List Answered) (one : Answered) (later : List Answered) → rest ≡ mine ++ one ∷ later → ReplyCause s answers (own ++ mine) one.0.act one.1

  abbrev Goes : List Answered → Type 0
  Goes rest =
      (past : List Event) (own : List Answered) → AreReadable past (map (λ (one : Answered). one.0) rest) → (is_written past worker object word ≡ true → Stands own) → Told own (of_worker worker rest)
      → (mine : List Answered) (one : Answered) (later : List Answered) (value : ℕ) → of_worker worker rest ≡ mine ++ one ∷ later → one.0.act ≡ Read word object → one.1 ≡ reply.Value value → IsPut object word (own ++ mine) ⊎ WasTaken s object (own ++ mine)

  goes-on : (first : Answered) (rest : List Answered) → Goes rest → Goes (first ∷ rest)
  goes-on first rest again past own reads stands told mine one later value split asks gets = by (eqb first.0.worker worker) refl told split
    where
      more : List Answered
      more = of_worker worker rest

      here : (mine : List Answered) → eqb first.0.worker worker ≡ true → Told own (first ∷ more) → first ∷ more ≡ mine ++ one ∷ later → IsPut object word (own ++ mine) ⊎ WasTaken s object (own ++ mine)
      here [] e told split =
          let is : first ≡ one = cc in
          let reads-it : IsReadable past one.0 (Read word object) = subst (IsReadable past one.0) asks (subst (λ (x : Answered). IsReadable past x.0 x.0.act) is reads.0) in
          let mine-it : one.0.worker ≡ worker = eqb-true one.0.worker worker (subst (λ (x : Answered). eqb x.0.worker worker ≡ true) is e) in
          let cause = told [] first more refl in
          finish (own ++ []) value
          (subst (λ (r : Reply). ReplyCause s answers (own ++ []) (Read word object) r) gets (subst (λ (a : Act). ReplyCause s answers (own ++ []) a one.1) asks (subst (λ (x : Answered). ReplyCause s answers (own ++ []) x.0.act x.1) is cause)))
          (subst Stands (sym (append-nil own)) (stands (subst (λ w. is_written past w object word ≡ true) mine-it reads-it)))
      here (x ∷ mine) e told split =
          let is : first ≡ x = cc in
          let rest-is : more ≡ mine ++ one ∷ later = cc in
          let e-own : (own ++ first ∷ []) ++ mine ≡ own ++ x ∷ mine = append_assoc own (first ∷ []) mine ∙ ap (λ (x : Answered). own ++ x ∷ mine) is in
          subst (λ own. IsPut object word own ⊎ WasTaken s object own) e-own
          (again (first.0 ∷ past) (own ++ first ∷ []) reads.1
          (λ is.
          step own first.0 first.1 first.0.act (is_written past worker object word) refl (subst (λ own. ReplyCause s answers own first.0.act first.1) (append-nil own) (told [] first more refl)) stands
          (subst (λ b. written_after first.0.act b object word (is_written past worker object word) ≡ true) e is))
          (λ mine one later split. subst (λ own. ReplyCause s answers own one.0.act one.1) (sym (append_assoc own (first ∷ []) mine)) (told (first ∷ mine) one later (ap (λ rest. first ∷ rest) split))) mine one later value rest-is asks gets)

      by : (b : Bool) → eqb first.0.worker worker ≡ b → Told own (cond b (first ∷ more) more) → cond b (first ∷ more) more ≡ mine ++ one ∷ later → IsPut object word (own ++ mine) ⊎ WasTaken s object (own ++ mine)
      by false e told split =
          again (first.0 ∷ past) own reads.1
          (λ is. stands (other first.0.act (is_written past worker object word) (subst (λ b. written_after first.0.act b object word (is_written past worker object word) ≡ true) e is)))
          told mine one later value split asks gets
      by true e told split = here mine e told split

  goes-none : Goes []
  goes-none past own reads stands told [] one later value split asks gets = absurd (cc)
  goes-none past own reads stands told (x ∷ mine) one later value split asks gets = absurd (cc)

  goes : (rest : List Answered) → Goes rest
  goes [] = goes-none
  goes (first ∷ rest) = goes-on first rest (goes rest)

-- ---- the round

firsts : (events : List Event) (replies : List Reply) → length replies ≡ length events → map (λ (one : Answered). one.0) (zip events replies) ≡ events
firsts [] replies long = refl
firsts (event ∷ events) [] long = absurd (omega (arith, long))
firsts (event ∷ events) (told ∷ replies) long = ap (λ events. event ∷ events) (firsts events replies (omega (arith, long)))

pub reads-follow-writes : ReadsFollowWrites
reads-follow-writes before trace round result after sound is worker own one after-is object word value asks gets =
    let answers = zip round.events result.replies in
    goes before answers worker object word answers [] [] (subst (AreReadable []) (sym (firsts round.events result.replies is.replies)) sound.readable) (λ never. absurd (false≢true never))
    (λ mine one later split. is.causes worker mine one (record { later = later; split = split })) own one after-is.later value after-is.split asks gets
