-- How the events of a round turn the board, one after the other.
use Rattle.std.proofs.Common.{◌≡◌, ◌≢◌, ℕ, ◌+◌, ◌<◌, ◌&&◌, Bool, true, false, cond, List, [], ◌∷◌, ◌++◌, length, get_or, set, refl, sym, ◌∙◌, ap, arith, Option, Some, None, inl, inr, ◌⊎◌, is_some, filter, fold, count_by, get_or-set_other, get_or-set_same}
use Rattle.std.proofs.lemmas.Bool.{cases_eq, eq-eqb, ne_eqb}
use Rattle.std.proofs.lemmas.List.Elements.{filter-append}
use Rattle.std.proofs.lemmas.List.Sums.{fold-append}
use Rattle.slub_trace.specs.declared.event.Act.TheVariants.{Alloc, Free}
use Rattle.slub_object_layout.specs.Layout.{address_of}
use Rattle.slub_red_zone.specs.State.{CheckedState}
use Rattle.slub_lists.specs.declared.lists.Held.{Held}
use Rattle.slub_trace.specs.declared.reply.Reply.{Reply}
use Rattle.slub_trace.specs.declared.reply.Reply.TheVariants as reply
use Rattle.slub_lists.specs.State.{State}
use Rattle.slub_lists.specs.Alloc.{checked_of}
use Rattle.slub_lists.specs.Coherent.{IsCoherent, held_under}
use Rattle.slub_lists.specs.Free.{is_freeable}
use Rattle.slub_common.proofs.Writes.{inside-of}
use Rattle.slub_slabinfo_text.specs.Lawful.{is_by}
use Rattle.slub_trace.specs.Kinds.{is_freed, is_given}
use Rattle.slub_law_rounds.specs.Answered.{Answered, did_free, found_bad, gave, is_alloc_of, is_corrupt, is_free_of, of_worker}
use Rattle.slub_law_rounds.specs.Round.{spot_asked, spot_of}
use Rattle.slub_law_rounds.proofs.Steps.{Step, flushes, frees, gives, keeps, lacks, nameless, pokes, pokes_not, reads, reads_none, reads_not, refuses, trims, trims_checked, trims_none, wants, word-keeps, writes, writes_none, writes_not}
use Rattle.slub_law_rounds.proofs.Times.{counted_append, one_where}

-- ---- lists of answered events

-- one event more
pub own-more : (worker : ℕ) (past : List Answered) (one : Answered) → of_worker worker (past ++ one ∷ []) ≡ of_worker worker past ++ of_worker worker (one ∷ [])
own-more worker past one = filter-append (is_by worker) past (one ∷ [])

pub fold-own : {B : Type 0} (f : B → Answered → B) (z : B) (worker : ℕ) (past : List Answered) (one : Answered)
    → fold f z (of_worker worker (past ++ one ∷ [])) ≡ cond (is_by worker one) (f (fold f z (of_worker worker past)) one) (fold f z (of_worker worker past))
fold-own f z worker past one =
    ap (fold f z) (own-more worker past one) ∙ fold-append f z (of_worker worker past) (of_worker worker (one ∷ [])) ∙ by (is_by worker one) refl
  where
    by : (b : Bool) → is_by worker one ≡ b → fold f (fold f z (of_worker worker past)) (cond (is_by worker one) (one ∷ []) []) ≡ cond (is_by worker one) (f (fold f z (of_worker worker past)) one) (fold f z (of_worker worker past))
    by true is = rw is refl
    by false is = rw is refl

pub count-more : (p : Answered → Bool) (past : List Answered) (one : Answered) → count_by p (past ++ one ∷ []) ≡ count_by p past + one_where (p one)
count-more p past one = counted_append p past (one ∷ []) ∙ omega arith

pub count-own : (p : Answered → Bool) (worker : ℕ) (past : List Answered) (one : Answered)
    → count_by p (of_worker worker (past ++ one ∷ [])) ≡ count_by p (of_worker worker past) + one_where (is_by worker one && p one)
count-own p worker past one =
    ap (count_by p) (own-more worker past one) ∙ counted_append p (of_worker worker past) (of_worker worker (one ∷ [])) ∙ ap (λ n. count_by p (of_worker worker past) + n) (by (is_by worker one) refl)
  where
    by : (b : Bool) → is_by worker one ≡ b → count_by p (cond (is_by worker one) (one ∷ []) []) ≡ one_where (is_by worker one && p one)
    by true is = rw is (omega arith)
    by false is = rw is refl

-- an element that is sifted out stands in the list, and before it stand those that are sifted out before it
pub record Splits {A : Type 0} (p : A → Bool) (xs front : List A) (x : A) : Type 0 where
  pub before : List A
  pub behind : List A
  pub parts : xs ≡ before ++ x ∷ behind
  pub sifted : filter p before ≡ front
  pub is : p x ≡ true

pub splits : {A : Type 0} (p : A → Bool) (xs front back : List A) (x : A) → filter p xs ≡ front ++ x ∷ back → Splits p xs front x
splits p [] [] back x e = absurd (cc)
splits p [] (y ∷ front) back x e = absurd (cc)
splits {A} p (y ∷ xs) front back x e = by (λ part e. splits p xs part back x e) (p y) refl e
  where
    first : {a b : A} {l m : List A} → a ∷ l ≡ b ∷ m → a ≡ b
    first e = cc

    rest : {a b : A} {l m : List A} → a ∷ l ≡ b ∷ m → l ≡ m
    rest e = cc

    by-front : ((part : List A) → filter p xs ≡ part ++ x ∷ back → Splits p xs part x) → (front : List A) → p y ≡ true → y ∷ filter p xs ≡ front ++ x ∷ back → Splits p (y ∷ xs) front x
    by-front again [] is e = record { before = []; behind = xs; parts = ap (λ z. z ∷ xs) (first e); sifted = refl; is = ap p (sym (first e)) ∙ is }
    by-front again (z ∷ front) is e =
        let more = again front (rest e) in
        record { before = y ∷ more.before; behind = more.behind; parts = ap (λ l. y ∷ l) more.parts; sifted = rw is (ap (λ l. y ∷ l) more.sifted ∙ ap (λ w. w ∷ front) (first e)); is = more.is }

    by : ((part : List A) → filter p xs ≡ part ++ x ∷ back → Splits p xs part x) → (b : Bool) → p y ≡ b → cond b (y ∷ filter p xs) (filter p xs) ≡ front ++ x ∷ back → Splits p (y ∷ xs) front x
    by again true is e = by-front again front is e
    by again false is e =
        let more = again front e in
        record { before = y ∷ more.before; behind = more.behind; parts = ap (λ l. y ∷ l) more.parts; sifted = rw is more.sifted; is = more.is }

-- ---- one number

-- the object that was freed under a number in this round
abbrev pub gone_under : State → ℕ → Option Held
gone_under s object = get_or s.gone object None

-- 1 where a number is on the board
abbrev pub on_board : ℕ → State → ℕ
on_board object s = one_where (is_some (held_under s object))

-- what an event does to a number
pub data Turn (s : State) (one : Answered) (after : State) (object : ℕ) : Type 0 where
  rests : held_under after object ≡ held_under s object → gone_under after object ≡ gone_under s object
      → gave object one ≡ false → did_free object one ≡ false → found_bad object one ≡ false → Turn s one after object
  comes : (place address : ℕ) (held : Held) → held_under s object ≡ None → held_under after object ≡ Some held → gone_under after object ≡ gone_under s object → held.worker ≡ Some one.0.worker
      → gave object one ≡ true → did_free object one ≡ false → found_bad object one ≡ false
      → one.0.act ≡ Alloc place object → one.1 ≡ reply.Given address
      → spot_asked s one.0.act address ≡ Some (record { cache = held.cache; address = address }) → spot_of s held ≡ Some (record { cache = held.cache; address = address }) → Turn s one after object
  goes : (address : ℕ) (held : Held) → held_under s object ≡ Some held → is_freeable one.0.worker held.worker ≡ true → held_under after object ≡ None
      → gone_under after object ≡ Some (record held { worker = Some one.0.worker })
      → gave object one ≡ false → did_free object one ≡ true → found_bad object one ≡ false
      → one.0.act ≡ Free object → one.1 ≡ reply.Freed address → spot_of s held ≡ Some (record { cache = held.cache; address = address }) → Turn s one after object
  stays : (held : Held) (slabs : CheckedState) → checked_of s held.cache ≡ Some slabs → held_under s object ≡ Some held → is_freeable one.0.worker held.worker ≡ true → held_under after object ≡ Some (record held { worker = Some one.0.worker })
      → gone_under after object ≡ gone_under s object
      → gave object one ≡ false → did_free object one ≡ false → found_bad object one ≡ true → Turn s one after object

-- a reply that counts nothing
pub record IsSilent (object : ℕ) (one : Answered) : Type 0 where
  pub gave_not : gave object one ≡ false
  pub free_not : did_free object one ≡ false
  pub bad_not : found_bad object one ≡ false

and-false : (b : Bool) → (b && false) ≡ false
and-false true = refl
and-false false = refl

silent-by : (object : ℕ) (one : Answered) (other : Reply) → one.1 ≡ other → is_given other ≡ false → is_freed other ≡ false → is_corrupt other ≡ false → IsSilent object one
silent-by object one other is given freed bad = record {
  gave_not = ap (λ r. is_alloc_of object one.0.act && is_given r) is ∙ ap (λ b. is_alloc_of object one.0.act && b) given ∙ and-false (is_alloc_of object one.0.act);
  free_not = ap (λ r. is_free_of object one.0.act && is_freed r) is ∙ ap (λ b. is_free_of object one.0.act && b) freed ∙ and-false (is_free_of object one.0.act);
  bad_not = ap (λ r. is_free_of object one.0.act && is_corrupt r) is ∙ ap (λ b. is_free_of object one.0.act && b) bad ∙ and-false (is_free_of object one.0.act);
}

-- an event of another number
other-alloc : (object other place : ℕ) (one : Answered) → other ≢ object → one.0.act ≡ Alloc place other → IsSilent object one
other-alloc object other place one differ is = record {
  gave_not = rw (is, ne_eqb other object differ) refl;
  free_not = rw is refl;
  bad_not = rw is refl;
}

other-free : (object other : ℕ) (one : Answered) → other ≢ object → one.0.act ≡ Free other → IsSilent object one
other-free object other one differ is = record {
  gave_not = rw is refl;
  free_not = rw (is, ne_eqb other object differ) refl;
  bad_not = rw (is, ne_eqb other object differ) refl;
}

rests-by : (s : State) (one : Answered) (after : State) (object : ℕ) → after.board ≡ s.board → after.gone ≡ s.gone → IsSilent object one → Turn s one after object
rests-by s one after object board gone silent =
    rests (ap (λ (b : List (Option Held)). get_or b object None) board) (ap (λ (b : List (Option Held)). get_or b object None) gone) silent.gave_not silent.free_not silent.bad_not

same-rests : (s : State) (one : Answered) (after : State) (object : ℕ) → after ≡ s → IsSilent object one → Turn s one after object
same-rests s one after object same silent = rests-by s one after object (ap (λ (t : State). t.board) same) (ap (λ (t : State). t.gone) same) silent

-- one number is written, and this is another
others-rest : (s : State) (one : Answered) (after : State) (object other : ℕ) (held gone : Option Held) → other ≢ object → after.board ≡ set s.board other held → (after.gone ≡ s.gone) ⊎ (after.gone ≡ set s.gone other gone)
    → IsSilent object one → Turn s one after object
others-rest s one after object other held gone differ board was silent =
    rests (ap (λ (b : List (Option Held)). get_or b object None) board ∙ get_or-set_other s.board other object held None (λ e. differ (sym e)))
    (elim was [
      | inl same ↦ ap (λ (b : List (Option Held)). get_or b object None) same
      | inr now ↦ ap (λ (b : List (Option Held)). get_or b object None) now ∙ get_or-set_other s.gone other object gone None (λ e. differ (sym e))
    ]) silent.gave_not silent.free_not silent.bad_not

module _ (s : State) (one : Answered) (after : State) (object : ℕ) (coherent : IsCoherent s)
    (unheld : gave object one ≡ true → held_under s object ≡ None) (inside : gave object one ≡ true → object < length s.board) where
  pub turn : Step s one.0 one.1 after → Turn s one after object
  turn (gives place other live held asks names is_live mine is unheld_slot board gone table memory cpus frames dry) = elim (cases_eq other object) [
    | inl same ↦
        let here : one.0.act ≡ Alloc place object = asks ∙ ap (Alloc place) same in
        let did : gave object one ≡ true = rw (here, is, eq-eqb object object refl) refl in
        comes place (address_of held.frame held.index live.layout) held (unheld did)
        (ap (λ (b : List (Option Held)). get_or b object None) board ∙ ap (λ n. get_or (set s.board n (Some held)) object None) same ∙ get_or-set_same s.board object (Some held) None (inside did))
        (ap (λ (b : List (Option Held)). get_or b object None) gone) mine did (rw here refl) (rw here refl) here is
        (rw (here, names) refl) (rw is_live refl)
    | inr differ ↦ others-rest s one after object other (Some held) None differ board (inl gone) (other-alloc object other place one differ asks)
  ]
  turn (lacks place other cache live asks names is_live is board gone table memory cpus frames dry) = rests-by s one after object board gone (silent-by object one reply.NoFrames is refl refl refl)
  turn (wants place other cache live slabs asks names is_live checked is kept) = rests-by s one after object kept.board kept.gone (silent-by object one reply.NoMemory is refl refl refl)
  turn (nameless place other asks none is same) = same-rests s one after object same (silent-by object one reply.NoSuchCache is refl refl refl)
  turn (frees other live held asks was may is_live is board gone table memory cpus frames dry) = elim (cases_eq other object) [
    | inl same ↦
        let here : one.0.act ≡ Free object = asks ∙ ap Free same in
        let there : held_under s object ≡ Some held = ap (held_under s) (sym same) ∙ was in
        let inside : object < length s.board = inside-of s.board object held there in
        let freed : Held = record held { worker = Some one.0.worker } in
        goes (address_of held.frame held.index live.layout) held there may
        (ap (λ (b : List (Option Held)). get_or b object None) board ∙ ap (λ n. get_or (set s.board n None) object None) same ∙ get_or-set_same s.board object None None inside)
        (ap (λ (b : List (Option Held)). get_or b object None) gone ∙ ap (λ n. get_or (set s.gone n (Some freed)) object None) same ∙ get_or-set_same s.gone object (Some freed) None (omega (arith, inside, coherent.shaped.gone)))
        (rw here refl) (rw (here, is, eq-eqb object object refl) refl) (rw (here, is, eq-eqb object object refl) refl) here is (rw is_live refl)
    | inr differ ↦ others-rest s one after object other None (Some (record held { worker = Some one.0.worker })) differ board (inr gone) (other-free object other one differ asks)
  ]
  turn (keeps other damage held slabs asks was may checked taken is now) = elim (cases_eq other object) [
    | inl same ↦
        let here : one.0.act ≡ Free object = asks ∙ ap Free same in
        let there : held_under s object ≡ Some held = ap (held_under s) (sym same) ∙ was in
        let kept : Held = record held { worker = Some one.0.worker } in
        stays held slabs checked there may
        (ap (λ (t : State). held_under t object) now ∙ ap (λ n. get_or (set s.board n (Some kept)) object None) same ∙ get_or-set_same s.board object (Some kept) None (inside-of s.board object held there))
        (ap (λ (t : State). gone_under t object) now) (rw here refl) (rw (here, is, eq-eqb object object refl) refl) (rw (here, is, eq-eqb object object refl) refl)
    | inr differ ↦ others-rest s one after object other (Some (record held { worker = Some one.0.worker })) None differ (ap (λ (t : State). t.board) now) (inl (ap (λ (t : State). t.gone) now)) (other-free object other one differ asks)
  ]
  turn (refuses other asks why is same) = same-rests s one after object same (silent-by object one reply.NotHeld is refl refl refl)
  turn (writes other word value live held asks holds within is now) =
      let kept = word-keeps s live.layout held word value in
      rests-by s one after object (ap (λ (t : State). t.board) now ∙ kept.board) (ap (λ (t : State). t.gone) now ∙ kept.gone) (silent-by object one reply.Wrote is refl refl refl)
  turn (writes_none other word value live held asks holds past is same) = same-rests s one after object same (silent-by object one reply.OutOfObject is refl refl refl)
  turn (writes_not other word value asks none is same) = same-rests s one after object same (silent-by object one reply.NotHeld is refl refl refl)
  turn (reads other word live held asks holds within is same) = same-rests s one after object same (silent-by object one _ is refl refl refl)
  turn (reads_none other word live held asks holds past is same) = same-rests s one after object same (silent-by object one reply.OutOfObject is refl refl refl)
  turn (reads_not other word asks none is same) = same-rests s one after object same (silent-by object one reply.NotHeld is refl refl refl)
  turn (pokes other offset byte held slabs asks knows checked inside is now) = rests-by s one after object (ap (λ (t : State). t.board) now) (ap (λ (t : State). t.gone) now) (silent-by object one reply.Poked is refl refl refl)
  turn (pokes_not other offset byte asks why same) = same-rests s one after object same (elim why [
    | inl is ↦ silent-by object one reply.NotHeld is refl refl refl
    | inr rest ↦ elim rest [
      | inl is ↦ silent-by object one reply.NotChecked is refl refl refl
      | inr is ↦ silent-by object one reply.OutOfSlot is refl refl refl
    ]
  ])
  turn (trims place cache slabs asks names unchecked is kept same_slabs) = rests-by s one after object kept.board kept.gone (silent-by object one _ is refl refl refl)
  turn (trims_checked place cache slabs asks names checked is now) = same-rests s one after object now (silent-by object one reply.Checked is refl refl refl)
  turn (trims_none place asks none is now) = same-rests s one after object now (silent-by object one reply.NoSuchCache is refl refl refl)
  turn (flushes slabs asks is kept same_slabs) = rests-by s one after object kept.board kept.gone (silent-by object one _ is refl refl refl)
