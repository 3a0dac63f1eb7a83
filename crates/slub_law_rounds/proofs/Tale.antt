-- What the answers so far tell of each number is so.
use Rattle.std.proofs.Common.{◌≡◌, ℕ, ◌+◌, ◌<◌, ◌&&◌, ◌||◌, Bool, true, false, cond, eqb, List, [], ◌∷◌, ◌++◌, refl, sym, ◌∙◌, ap, subst, arith, Option, Some, None, IsSome, inl, inr, ◌⊎◌, is_some}
use Rattle.std.specs.Option.{option_and_then, option_map}
use Rattle.std.proofs.lemmas.Bool.Decides.{nat_tests}
use Rattle.std.proofs.lemmas.List.Elements.{Contains-append_left, Contains-append_right}
use Rattle.slub_trace.specs.declared.event.Act.{Act}
use Rattle.slub_trace.specs.declared.event.Act.TheVariants.{Alloc}
use Rattle.slub_object_layout.specs.Layout.{address_of}
use Rattle.slub_cache_create.specs.Table.{Table, cache_of as live_cache, name_at, number_of}
use Rattle.slub_cache_create.specs.declared.caches.Cache.{Cache}
use Rattle.slub_lists.specs.declared.lists.Held.{Held}
use Rattle.slub_trace.specs.declared.reply.Reply.TheVariants as reply
use Rattle.slub_lists.specs.State.{State}
use Rattle.slub_lists.specs.Coherent.{held_under, laid_down}
use Rattle.slub_lists.specs.Free.{is_freeable}
use Rattle.slub_lists.specs.Words.{held_by, is_worker, own}
use Rattle.slub_slabinfo_text.specs.Lawful.{is_by}
use Rattle.slub_law_rounds.specs.Answered.{Answered, did_free, found_bad, gave, holding, holds_after, is_alloc_of, of_worker, times_freed, times_given, times_taken}
use Rattle.slub_law_rounds.specs.Round.{IsGiftOf, Spot, WasGivenAt, spot_after, spot_asked, spot_by, spot_of, spot_under}
use Rattle.slub_law_rounds.proofs.Runs.{Turn, comes, count-more, count-own, fold-own, goes, on_board, rests, stays}
use Rattle.slub_law_rounds.proofs.Times.{one_where}

-- ---- numbers and workers

-- a number with no object
pub no-object : (x : Option Held) → one_where (is_some x) ≡ 0 → x ≡ None
no-object None none = refl
no-object (Some held) none = absurd (omega (arith, none))

pub some-object : (x : Option Held) → IsSome x → one_where (is_some x) ≡ 1
some-object None some = absurd (cc)
some-object (Some held) some = refl

-- a worker that isn't the one that may free doesn't hold
freeable-other : (free worker : ℕ) (x : Option ℕ) → is_freeable free x ≡ true → eqb free worker ≡ false → is_worker worker x ≡ false
freeable-other free worker None may differ = refl
freeable-other free worker (Some holder) may differ = grind (arith, nat_tests, may, differ)

own-some : (worker : ℕ) (held : Held) → is_some (own worker held) ≡ is_worker worker held.worker
own-some worker held = by (is_worker worker held.worker)
  where
    by : (b : Bool) → is_some (cond b (Some held) None) ≡ b
    by true = refl
    by false = refl

pub held-by-none : (s : State) (worker object : ℕ) → held_under s object ≡ None → is_some (held_by s worker object) ≡ false
held-by-none s worker object none = ap (λ x. is_some (option_and_then (own worker) x)) none

pub held-by-some : (s : State) (worker object : ℕ) (held : Held) → held_under s object ≡ Some held → is_some (held_by s worker object) ≡ is_worker worker held.worker
held-by-some s worker object held is = ap (λ x. is_some (option_and_then (own worker) x)) is ∙ own-some worker held

-- ---- the worker of an object holds it

abbrev pub Holdings : List Answered → State → Type 0
Holdings past s = (worker object : ℕ) → holding object (of_worker worker past) ≡ is_some (held_by s worker object)

and-true : (b : Bool) → (b && true) ≡ b
and-true true = refl
and-true false = refl

same-holds : (object : ℕ) (held : Bool) (one : Answered) → gave object one ≡ false → did_free object one ≡ false → found_bad object one ≡ false → holds_after object held one ≡ held
same-holds object held one given freed bad = rw (given, bad, freed) (and-true held)

pub holdings-step : (past : List Answered) (s : State) (one : Answered) (after : State) → ((object : ℕ) → Turn s one after object) → Holdings past s → Holdings (past ++ one ∷ []) after
holdings-step past s one after turns holds = λ worker object. fold-own (holds_after object) false worker past one ∙ by worker object (turns object)
  where
    other-not : (worker object : ℕ) (held : Held) → held_under s object ≡ Some held → is_freeable one.0.worker held.worker ≡ true → is_by worker one ≡ false → holding object (of_worker worker past) ≡ false
    other-not worker object held was may differ = holds worker object ∙ held-by-some s worker object held was ∙ freeable-other one.0.worker worker held.worker may differ

    at : (worker object : ℕ) (new : Bool) → holds_after object (holding object (of_worker worker past)) one ≡ new → (is_by worker one ≡ false → holding object (of_worker worker past) ≡ false)
        → cond (is_by worker one) (holds_after object (holding object (of_worker worker past)) one) (holding object (of_worker worker past)) ≡ (is_by worker one && new)
    at worker object new own other = pick (is_by worker one) refl
      where
        pick : (b : Bool) → is_by worker one ≡ b → cond (is_by worker one) (holds_after object (holding object (of_worker worker past)) one) (holding object (of_worker worker past)) ≡ (is_by worker one && new)
        pick true is = rw is own
        pick false is = rw is (other is)

    by : (worker object : ℕ) → Turn s one after object
        → cond (is_by worker one) (holds_after object (holding object (of_worker worker past)) one) (holding object (of_worker worker past)) ≡ is_some (held_by after worker object)
    by worker object (rests board gone given freed bad) =
        same (is_by worker one) ∙ holds worker object ∙ ap (λ x. is_some (option_and_then (own worker) x)) (sym board)
      where
        same : (b : Bool) → cond b (holds_after object (holding object (of_worker worker past)) one) (holding object (of_worker worker past)) ≡ holding object (of_worker worker past)
        same true = same-holds object (holding object (of_worker worker past)) one given freed bad
        same false = refl
    by worker object (comes place address held none now gone mine given freed bad asks is asked spot) =
        at worker object true (rw given refl) (λ other. holds worker object ∙ held-by-none s worker object none)
        ∙ and-true (is_by worker one) ∙ sym (held-by-some after worker object held now ∙ ap (is_worker worker) mine)
    by worker object (goes address held was may now gone given freed bad asks is spot) =
        at worker object false (rw (given, bad, freed) (none (holding object (of_worker worker past)))) (other-not worker object held was may)
        ∙ none (is_by worker one) ∙ sym (held-by-none after worker object now)
      where
        none : (b : Bool) → (b && false) ≡ false
        none true = refl
        none false = refl
    by worker object (stays held slabs checked was may now gone given freed bad) =
        at worker object true (rw (given, bad) refl) (other-not worker object held was may)
        ∙ and-true (is_by worker one) ∙ sym (held-by-some after worker object _ now)

-- ---- a number names what the answers say

-- with the same table an object has the same cache
pub spot-kept : (s t : State) (held : Held) → t.table ≡ s.table → spot_of t held ≡ spot_of s held
spot-kept s t held same = ap (λ (table : Table). option_map (λ (live : Cache). record { cache = held.cache; address = address_of held.frame held.index live.layout }) (live_cache table held.cache)) same

asked-kept : (s t : State) (act : Act) (address : ℕ) → t.table ≡ s.table → spot_asked t act address ≡ spot_asked s act address
asked-kept s t (Alloc place object) address same = ap (λ (table : Table). option_map (λ cache. record { cache = cache; address = address }) (number_of table (name_at table place))) same
asked-kept s t act address same = refl

-- a number that is not given names what it named
pub same-spot : (before : State) (object : ℕ) (spot : Option Spot) (one : Answered) → gave object one ≡ false → spot_after before object spot one ≡ spot
same-spot before object spot (event, reply.Given address) given = by (is_alloc_of object event.act) given
  where
    by : (b : Bool) → (b && true) ≡ false → cond b (spot_asked before event.act address) spot ≡ spot
    by true is = absurd (cc)
    by false is = refl
same-spot before object spot (event, answer) given = refl

-- one that is given names that
given-spot : (before : State) (object : ℕ) (spot : Option Spot) (one : Answered) (address : ℕ) → one.1 ≡ reply.Given address → gave object one ≡ true → spot_after before object spot one ≡ spot_asked before one.0.act address
given-spot before object spot (event, answer) address is given =
    rw is (by (is_alloc_of object event.act) (rw is at given))
  where
    by : (b : Bool) → (b && true) ≡ true → cond b (spot_asked before event.act address) spot ≡ spot_asked before event.act address
    by true is = refl
    by false is = absurd (cc)

gift-by : (before : State) (object : ℕ) (spot : Spot) (one : Answered) (address : ℕ) → one.1 ≡ reply.Given address → gave object one ≡ true → spot_asked before one.0.act address ≡ Some spot → IsGiftOf before object spot one
gift-by before object spot (event, answer) address is did asked = rw is (by (is_alloc_of object event.act) (rw is at did), asked)
  where
    by : (b : Bool) → (b && true) ≡ true → b ≡ true
    by true e = refl
    by false e = e

pub injected : {A : Type 0} {x y : A} → Some x ≡ Some y → x ≡ y
injected e = cc

pub same-worker : (free worker : ℕ) → eqb free worker ≡ true → free ≡ worker
same-worker free worker is = grind (arith, nat_tests, is)

abbrev pub Spots : State → List Answered → State → Type 0
Spots before past s = (worker object : ℕ) (held : Held) → held_under s object ≡ Some held → is_freeable worker held.worker ≡ true → spot_by before object (of_worker worker past) ≡ spot_of before held

pub spots-step : (before : State) (past : List Answered) (s : State) (one : Answered) (after : State) → s.table ≡ before.table → ((object : ℕ) → Turn s one after object) → Spots before past s → Spots before (past ++ one ∷ []) after
spots-step before past s one after table turns spots = λ worker object held there may. fold-own (spot_after before object) (spot_under before object) worker past one ∙ by worker object held there may (turns object)
  where
    now-of : ℕ → ℕ → Option Spot
    now-of worker object = cond (is_by worker one) (spot_after before object (spot_by before object (of_worker worker past)) one) (spot_by before object (of_worker worker past))

    kept : (worker object : ℕ) → gave object one ≡ false → now-of worker object ≡ spot_by before object (of_worker worker past)
    kept worker object given = pick (is_by worker one)
      where
        pick : (b : Bool) → cond b (spot_after before object (spot_by before object (of_worker worker past)) one) (spot_by before object (of_worker worker past)) ≡ spot_by before object (of_worker worker past)
        pick true = same-spot before object (spot_by before object (of_worker worker past)) one given
        pick false = refl

    by : (worker object : ℕ) (held : Held) → held_under after object ≡ Some held → is_freeable worker held.worker ≡ true → Turn s one after object → now-of worker object ≡ spot_of before held
    by worker object held there may (rests board gone given freed bad) = kept worker object given ∙ spots worker object held (sym board ∙ there) may
    by worker object held there may (comes place address come none now gone mine given freed bad asks is asked spot) =
        let same : come ≡ held = injected (sym now ∙ there) in
        let own : is_by worker one ≡ true = subst (λ (w : Option ℕ). is_freeable worker w ≡ true) (ap (λ (h : Held). h.worker) (sym same) ∙ mine) may in
        rw own (given-spot before object (spot_by before object (of_worker worker past)) one address is given ∙ sym (asked-kept before s one.0.act address table) ∙ asked ∙ sym spot ∙ spot-kept before s come table ∙ ap (spot_of before) same)
    by worker object held there may (goes address was_held was may_free now gone given freed bad asks is spot) = absurd (let never : None ≡ Some held = sym now ∙ there in cc)
    by worker object held there may (stays was_held slabs checked was may_free now gone given freed bad) =
        let same : record was_held { worker = Some one.0.worker } ≡ held = injected (sym now ∙ there) in
        let own : eqb one.0.worker worker ≡ true = subst (λ (h : Held). is_freeable worker h.worker ≡ true) (sym same) may in
        let mine : is_freeable worker was_held.worker ≡ true = subst (λ w. is_freeable w was_held.worker ≡ true) (same-worker one.0.worker worker own) may_free in
        kept worker object given ∙ spots worker object was_held was mine ∙ ap (spot_of before) same

-- ---- what is on the board

-- on the board before
pub on-before : (before : State) (object : ℕ) (held : Held) → held_under before object ≡ Some held → on_board object before ≡ 1
on-before before object held is = ap (λ x. one_where (is_some x)) is

pub record Boards (before : State) (past : List Answered) (s : State) : Type 0 where
  pub placed : (object : ℕ) (was held : Held) → held_under before object ≡ Some was → held_under s object ≡ Some held → laid_down held ≡ laid_down was
  pub still : (object : ℕ) (held : Held) → held_under s object ≡ Some held → held.worker ≡ None → held_under before object ≡ Some held
  pub given : (object : ℕ) (held : Held) → held_under s object ≡ Some held → held_under before object ≡ None → (spot : Spot) × (spot_of before held ≡ Some spot) × WasGivenAt before past object spot

given-more : (before : State) (past : List Answered) (one : Answered) (object : ℕ) (spot : Spot) → WasGivenAt before past object spot → WasGivenAt before (past ++ one ∷ []) object spot
given-more before past one object spot was = (was.0, Contains-append_left past (one ∷ []) was.0 was.1, was.2)

pub boards-step : (before : State) (past : List Answered) (s : State) (one : Answered) (after : State) → s.table ≡ before.table → ((object : ℕ) → gave object one ≡ true → on_board object before + times_given object past ≡ 0)
    → ((object : ℕ) → Turn s one after object) → Boards before past s → Boards before (past ++ one ∷ []) after
boards-step before past s one after table new turns boards = record {
  placed = λ object was held there here. placed object was held there here (turns object);
  still = λ object held here none. still object held here none (turns object);
  given = λ object held here none. given object held here none (turns object);
}
  where
    placed : (object : ℕ) (was held : Held) → held_under before object ≡ Some was → held_under after object ≡ Some held → Turn s one after object → laid_down held ≡ laid_down was
    placed object was held there here (rests board gone not_given freed bad) = boards.placed object was held there (sym board ∙ here)
    placed object was held there here (comes place address come none now gone mine did freed bad asks is asked spot) = absurd (omega (arith, new object did, on-before before object was there))
    placed object was held there here (goes address was_held had may now gone not_given freed bad asks is spot) = absurd (let never : None ≡ Some held = sym now ∙ here in cc)
    placed object was held there here (stays was_held slabs checked had may now gone not_given freed bad) =
        ap laid_down (injected (sym here ∙ now)) ∙ boards.placed object was was_held there had

    still : (object : ℕ) (held : Held) → held_under after object ≡ Some held → held.worker ≡ None → Turn s one after object → held_under before object ≡ Some held
    still object held here none (rests board gone not_given freed bad) = boards.still object held (sym board ∙ here) none
    still object held here none (comes place address come unheld now gone mine did freed bad asks is asked spot) =
        absurd (let never : None ≡ Some one.0.worker = sym none ∙ ap (λ (h : Held). h.worker) (injected (sym here ∙ now)) ∙ mine in cc)
    still object held here none (goes address was_held had may now gone not_given freed bad asks is spot) = absurd (let never : None ≡ Some held = sym now ∙ here in cc)
    still object held here none (stays was_held slabs checked had may now gone not_given freed bad) =
        absurd (let never : None ≡ Some one.0.worker = sym none ∙ ap (λ (h : Held). h.worker) (injected (sym here ∙ now)) in cc)

    given : (object : ℕ) (held : Held) → held_under after object ≡ Some held → held_under before object ≡ None → Turn s one after object → (spot : Spot) × (spot_of before held ≡ Some spot) × WasGivenAt before (past ++ one ∷ []) object spot
    given object held here none (rests board gone not_given freed bad) =
        let was = boards.given object held (sym board ∙ here) none in (was.0, was.1, given-more before past one object was.0 was.2)
    given object held here none (comes place address come unheld now gone mine did freed bad asks is asked spot) = (
      record { cache = come.cache; address = address },
      ap (spot_of before) (injected (sym here ∙ now)) ∙ sym (spot-kept before s come table) ∙ spot,
      (one, Contains-append_right past (one ∷ []) one (0, omega arith, refl), gift),
    )
      where
        gift : IsGiftOf before object (record { cache = come.cache; address = address }) one
        gift = gift-by before object (record { cache = come.cache; address = address }) one address is did (sym (asked-kept before s one.0.act address table) ∙ asked)
    given object held here none (goes address was_held had may now gone not_given freed bad asks is spot) = absurd (let never : None ≡ Some held = sym now ∙ here in cc)
    given object held here none (stays was_held slabs checked had may now gone not_given freed bad) =
        let was = boards.given object was_held had none in
        (was.0, ap (spot_of before) (injected (sym here ∙ now)) ∙ was.1, given-more before past one object was.0 was.2)

-- ---- who took what was on the board

pub record Takens (before : State) (past : List Answered) (s : State) : Type 0 where
  pub taken : (object worker : ℕ) → IsSome (held_under before object) → 0 < times_taken object (of_worker worker past)
      → (held_under s object ≡ None) ⊎ ((held : Held) × (held_under s object ≡ Some held) × (held.worker ≡ Some worker))
  pub one_worker : (object one other : ℕ) → IsSome (held_under before object) → 0 < times_taken object (of_worker one past) → 0 < times_taken object (of_worker other past) → one ≡ other
  pub holder : (object worker : ℕ) (held : Held) → IsSome (held_under before object) → held_under s object ≡ Some held → held.worker ≡ Some worker → 0 < times_taken object past

module _ (before : State) (past : List Answered) (s : State) (one : Answered) (after : State) (new : (object : ℕ) → gave object one ≡ true → on_board object before + times_given object past ≡ 0) (takens : Takens before past s) where
  abbrev took : ℕ → Bool
  took object = did_free object one || found_bad object one

  own-grown : (object worker : ℕ) → times_taken object (of_worker worker (past ++ one ∷ [])) ≡ times_taken object (of_worker worker past) + one_where (is_by worker one && took object)
  own-grown object worker = count-own (λ one. did_free object one || found_bad object one) worker past one

  never-new : (object : ℕ) {A : Type 0} → IsSome (held_under before object) → gave object one ≡ true → A
  never-new object some did = absurd (omega (arith, new object did, some-object (held_under before object) some))

  -- one that was freed or kept before by a worker that isn't this one can't be freed or kept now
  only-own : (object worker : ℕ) (held : Held) → IsSome (held_under before object) → held_under s object ≡ Some held → is_freeable one.0.worker held.worker ≡ true
      → 0 < times_taken object (of_worker worker (past ++ one ∷ [])) → one.0.worker ≡ worker
  only-own object worker held some was may taken = by (is_by worker one) refl
    where
      earlier : (held_under s object ≡ None) ⊎ ((held : Held) × (held_under s object ≡ Some held) × (held.worker ≡ Some worker)) → one.0.worker ≡ worker
      earlier (inl none) = absurd (let never : None ≡ Some held = sym none ∙ was in cc)
      earlier (inr there) =
          let same : held.worker ≡ Some worker = ap (λ (h : Held). h.worker) (injected (sym was ∙ there.1)) ∙ there.2 in
          sym (same-worker worker one.0.worker (subst (λ w. is_freeable one.0.worker w ≡ true) same may))

      by : (b : Bool) → is_by worker one ≡ b → one.0.worker ≡ worker
      by true is = same-worker one.0.worker worker is
      by false is =
          let none : one_where (is_by worker one && took object) ≡ 0 = rw is refl in
          earlier (takens.taken object worker some (omega (arith, taken, own-grown object worker, none)))

  quiet-own : (object worker : ℕ) → did_free object one ≡ false → found_bad object one ≡ false → 0 < times_taken object (of_worker worker (past ++ one ∷ [])) → 0 < times_taken object (of_worker worker past)
  quiet-own object worker freed bad more =
      let none : one_where (is_by worker one && took object) ≡ 0 = rw (freed, bad) (by (is_by worker one)) in
      omega (arith, more, own-grown object worker, none)
    where
      by : (b : Bool) → one_where (b && false) ≡ 0
      by true = refl
      by false = refl

  taken-by : (object worker : ℕ) → IsSome (held_under before object) → 0 < times_taken object (of_worker worker (past ++ one ∷ [])) → Turn s one after object
      → (held_under after object ≡ None) ⊎ ((held : Held) × (held_under after object ≡ Some held) × (held.worker ≡ Some worker))
  taken-by object worker some more (rests board gone not_given freed bad) = elim (takens.taken object worker some (quiet-own object worker freed bad more)) [
    | inl none ↦ inl (board ∙ none)
    | inr there ↦ inr (there.0, board ∙ there.1, there.2)
  ]
  taken-by object worker some more (comes place address come unheld now gone mine did freed bad asks is asked spot) = never-new object some did
  taken-by object worker some more (goes address was_held had may now gone not_given freed bad asks is spot) = inl now
  taken-by object worker some more (stays was_held slabs checked had may now gone not_given freed bad) =
      inr (record was_held { worker = Some one.0.worker }, now, ap Some (only-own object worker was_held some had may more))

  one-by : (object first other : ℕ) → IsSome (held_under before object) → 0 < times_taken object (of_worker first (past ++ one ∷ [])) → 0 < times_taken object (of_worker other (past ++ one ∷ [])) → Turn s one after object → first ≡ other
  one-by object first other some more also (rests board gone not_given freed bad) =
      takens.one_worker object first other some (quiet-own object first freed bad more) (quiet-own object other freed bad also)
  one-by object first other some more also (comes place address come unheld now gone mine did freed bad asks is asked spot) = never-new object some did
  one-by object first other some more also (goes address was_held had may now gone not_given freed bad asks is spot) =
      sym (only-own object first was_held some had may more) ∙ only-own object other was_held some had may also
  one-by object first other some more also (stays was_held slabs checked had may now gone not_given freed bad) =
      sym (only-own object first was_held some had may more) ∙ only-own object other was_held some had may also

  holder-by : (object worker : ℕ) (held : Held) → IsSome (held_under before object) → held_under after object ≡ Some held → held.worker ≡ Some worker → Turn s one after object → 0 < times_taken object (past ++ one ∷ [])
  holder-by object worker held some here mine (rests board gone not_given freed bad) =
      omega (arith, takens.holder object worker held some (sym board ∙ here) mine, count-more (λ one. did_free object one || found_bad object one) past one)
  holder-by object worker held some here mine (comes place address come unheld now gone owner did freed bad asks is asked spot) = never-new object some did
  holder-by object worker held some here mine (goes address was_held had may now gone not_given freed bad asks is spot) = absurd (let never : None ≡ Some held = sym now ∙ here in cc)
  holder-by object worker held some here mine (stays was_held slabs checked had may now gone not_given freed bad) =
      let here : one_where (took object) ≡ 1 = rw (freed, bad) refl in
      omega (arith, here, count-more (λ one. did_free object one || found_bad object one) past one)

  pub takens-step : ((object : ℕ) → Turn s one after object) → Takens before (past ++ one ∷ []) after
  takens-step turns = record {
    taken = λ object worker some more. taken-by object worker some more (turns object);
    one_worker = λ object first other some more also. one-by object first other some more also (turns object);
    holder = λ object worker held some here mine. holder-by object worker held some here mine (turns object);
  }

-- ---- the count of a number

pub count-step : (before : State) (past : List Answered) (s : State) (one : Answered) (after : State) → ((object : ℕ) → Turn s one after object)
    → ((object : ℕ) → on_board object s + times_freed object past ≡ on_board object before + times_given object past)
    → (object : ℕ) → on_board object after + times_freed object (past ++ one ∷ []) ≡ on_board object before + times_given object (past ++ one ∷ [])
count-step before past s one after turns count object = by (turns object)
  where
    freed-more : times_freed object (past ++ one ∷ []) ≡ times_freed object past + one_where (did_free object one)
    freed-more = count-more (did_free object) past one

    given-grown : times_given object (past ++ one ∷ []) ≡ times_given object past + one_where (gave object one)
    given-grown = count-more (gave object) past one

    is-on : (t : State) (held : Held) → held_under t object ≡ Some held → on_board object t ≡ 1
    is-on t held is = ap (λ x. one_where (is_some x)) is

    is-off : (t : State) → held_under t object ≡ None → on_board object t ≡ 0
    is-off t is = ap (λ x. one_where (is_some x)) is

    by : Turn s one after object → on_board object after + times_freed object (past ++ one ∷ []) ≡ on_board object before + times_given object (past ++ one ∷ [])
    by (rests board gone not_given freed bad) = omega (arith, count object, freed-more, given-grown, ap one_where freed, ap one_where not_given, ap (λ x. one_where (is_some x)) board)
    by (comes place address come unheld now gone owner did freed bad asks is asked spot) = omega (arith, count object, freed-more, given-grown, ap one_where freed, ap one_where did, is-on after come now, is-off s unheld)
    by (goes address was_held had may now gone not_given freed bad asks is spot) = omega (arith, count object, freed-more, given-grown, ap one_where freed, ap one_where not_given, is-off after now, is-on s was_held had)
    by (stays was_held slabs checked had may now gone not_given freed bad) =
        omega (arith, count object, freed-more, given-grown, ap one_where freed, ap one_where not_given, is-on after _ now, is-on s was_held had)
