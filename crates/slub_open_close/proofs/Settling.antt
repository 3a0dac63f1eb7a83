-- The ids after an item, by what was due for it.
use Rattle.std.proofs.Common.{◌≡◌, ◌≢◌, ℕ, ◌+◌, ◌*◌, ◌/◌, ◌%◌, ◌<◌, ◌≤◌, ◌&&◌, Bool, true, false, cond, eqb, List, length, map, get_or, set, Option, Some, None, is_some, IsSome, IfSome, MatchOption, Ok, inl, inr, refl, sym, ap, ◌∙◌, subst, arith, get_or-set_same, get_or-set_other, slice_get}
use Rattle.std.specs.List.{range_with_len}
use Rattle.std.proofs.lemmas.Bool.{cases_eq, eqb-true}
use Rattle.std.proofs.lemmas.List.FromFn.{fill_by_all, length-map-range_with_len}
use Rattle.std.proofs.lemmas.Option.{slice_get_read}
use Rattle.slub_object_layout.specs.declared.layout.Setting.TheVariants.{MinPartial, CpuPartial}
use Rattle.slub_trace.specs.declared.create.Created.TheVariants.{New}
use Rattle.slub_lists.specs.State.{State}
use Rattle.slub_law_opening.specs.Opening.{cpu_at}
use Rattle.slub_trace.specs.declared.trace.Item.{Item}
use Rattle.slub_trace.specs.declared.trace.Item.TheVariants as item
use Rattle.slub_trace.specs.declared.trace.Trace.{Trace}
use Rattle.slub_trace.specs.Ranges.{step_of}
use Rattle.slub_slabinfo_text.specs.declared.journal.Done.{Done}
use Rattle.slub_slabinfo_text.specs.declared.journal.Done.TheVariants as done
use Rattle.slub_open_close.specs.Ids.{AreIds, id_at}
use Rattle.slub_open_close.specs.declared.growth.Due.{Due}
use Rattle.slub_open_close.specs.Due.{AreAfter, AreCurrent, DetachHasRoom, IsDue, IsDueOf, came_about, detached_by, made_by, with_steps}
use Rattle.slub_open_close.specs.Growth.{ids_after, with_detached, with_detached_of, with_first}
use Rattle.slub_open_close.proofs.Fitting.{made-at}
use Rattle.slub_open_close.proofs.Steps.{step-is}

-- ---- a loop over the words

-- the first words are written, and the others are as they were
pub record AreWritten (f : ℕ → ℕ → ℕ) (old now : List ℕ) (n : ℕ) : Type 0 where
  pub written : (k : ℕ) → k < n → get_or now k 0 ≡ f k (get_or old k 0)
  pub rest : (k : ℕ) → n ≤ k → get_or now k 0 ≡ get_or old k 0

pub written-none : (f : ℕ → ℕ → ℕ) (old : List ℕ) → AreWritten f old old 0
written-none f old = record { written = λ k below. absurd (omega arith); rest = λ k from. refl }

pub written-more : (f : ℕ → ℕ → ℕ) (old now : List ℕ) (n v : ℕ) → n < length now → v ≡ f n (get_or old n 0) → AreWritten f old now n → AreWritten f old (set now n v) (n + 1)
written-more f old now n v within is so = record {
  written = λ k below. elim (cases_eq k n) [
    | inl e ↦ subst (λ j. get_or (set now n v) j 0 ≡ f j (get_or old j 0)) (sym e) (get_or-set_same now n v 0 within ∙ is)
    | inr ne ↦ get_or-set_other now n k v 0 ne ∙ so.written k (omega arith)
  ];
  rest = λ k from. get_or-set_other now n k v 0 (let ne : k ≢ n = λ e. omega arith in ne) ∙ so.rest k (omega arith);
}

pub written-all : (f : ℕ → ℕ → ℕ) (old now : List ℕ) (n : ℕ) → n ≡ 512 → length now ≡ 512 → AreWritten f old now n → now ≡ map (λ k. f k (id_at old k)) (range_with_len 0 512)
written-all f old now n end long so = fill_by_all (λ k. f k (id_at old k)) now 512 0 long (λ k below. so.written k (omega arith))

-- ---- what an item changes

-- it made a cache
begins : (trace : Trace) (s : State) (it : Item) (dn : Done) (ids : List ℕ) (cache : ℕ) → made_by it dn ≡ Some cache → ids_after trace s it dn ids ≡ with_first trace.tid s.cpus cache ids
begins trace s (item.Cache place spec) (done.Created (Ok (New other))) ids cache is =
    let same : other ≡ cache = cc in ap (λ n. with_first trace.tid s.cpus n ids) same
begins trace s _ _ ids cache is = let never : ⊥ = cc in absurd never

-- it detached a cache, or might have
detaches : (trace : Trace) (s : State) (it : Item) (dn : Done) (ids : List ℕ) → came_about it dn ≡ true → ids_after trace s it dn ids ≡ with_detached_of s (detached_by trace s it) ids
detaches trace s (item.Shrink place) (done.Shrunk (Ok remain)) ids is = refl
detaches trace s (item.Tune place (CpuPartial objects)) (done.Tuned (Ok answer)) ids is = refl
detaches trace s (item.Tune place (MinPartial slabs)) (done.Tuned (Ok answer)) ids is = refl
detaches trace s _ _ ids is = let never : ⊥ = cc in absurd never

-- or neither
stays : (trace : Trace) (s : State) (it : Item) (dn : Done) (ids : List ℕ) → made_by it dn ≡ None → came_about it dn ≡ false → ids_after trace s it dn ids ≡ ids
stays trace s (item.Cache place spec) (done.Created (Ok (New other))) ids made came = let never : ⊥ = cc in absurd never
stays trace s (item.Shrink place) (done.Shrunk (Ok remain)) ids made came = let never : ⊥ = cc in absurd never
stays trace s (item.Tune place (CpuPartial objects)) (done.Tuned (Ok answer)) ids made came = let never : ⊥ = cc in absurd never
stays trace s (item.Tune place (MinPartial slabs)) (done.Tuned (Ok answer)) ids made came = let never : ⊥ = cc in absurd never
stays trace s _ _ ids made came = refl

-- ---- the words that are detached

-- where the first is true, the second and the third are one
both-same : (b x y : Bool) → (b ≡ true → x ≡ y) → (b && x) ≡ (b && y)
both-same true x y same = same refl
both-same false x y same = refl

-- by the CPUs that were found to have a current slab
at-word : (s : State) (cache : ℕ) (current : List Bool) (n : ℕ) → AreCurrent s cache current → n / 16 ≡ cache → get_or current (n % 16) false ≡ is_some (cpu_at s n).current
at-word s cache current n are of =
    let same : 16 * cache + n % 16 ≡ n = omega arith in
    are (n % 16) (omega arith) ∙ ap (λ k. is_some (cpu_at s k).current) same

pub steps-are : (s : State) (cache step : ℕ) (current : List Bool) (ids : List ℕ) → step ≡ step_of s.cpus → AreCurrent s cache current → with_steps step cache current ids ≡ with_detached s cache ids
steps-are s cache step current ids is are =
    fill_by_all (λ n. cond (eqb (n / 16) cache && is_some (cpu_at s n).current) (id_at ids n + step_of s.cpus) (id_at ids n)) (with_steps step cache current ids) 512 0
    (length-map-range_with_len (λ n. cond (eqb (n / 16) cache && get_or current (n % 16) false) (id_at ids n + step) (id_at ids n)) 0 512)
    (λ n below.
    made-at (λ n. cond (eqb (n / 16) cache && get_or current (n % 16) false) (id_at ids n + step) (id_at ids n)) n below
    ∙ ap (λ b. cond b (id_at ids n + step) (id_at ids n))
    (both-same (eqb (n / 16) cache) (get_or current (n % 16) false) (is_some (cpu_at s n).current) (λ same. at-word s cache current n are (eqb-true (n / 16) cache same)))
    ∙ ap (λ k. cond (eqb (n / 16) cache && is_some (cpu_at s n).current) (id_at ids n + k) (id_at ids n)) is)

-- ---- the item of a number

pub item-at : (trace : Trace) (number : ℕ) (it : Item) → number < length trace.items → it ≡ get_or trace.items number it → slice_get trace.items number ≡ Some it
item-at trace number it within is = slice_get_read trace.items (length trace.items) number it refl within is

pub due-at : (s : State) (trace : Trace) (number : ℕ) (it : Item) (due : Due) → slice_get trace.items number ≡ Some it → IsDueOf s trace it due → IsDue s trace number due
due-at s trace number it due at is = subst (λ (found : Option Item). MatchOption found ⊥ (λ it. IsDueOf s trace it due)) (sym at) is

pub due-of : (s : State) (trace : Trace) (number : ℕ) (it : Item) (due : Due) → slice_get trace.items number ≡ Some it → IsDue s trace number due → IsDueOf s trace it due
due-of s trace number it due at is = subst (λ (found : Option Item). MatchOption found ⊥ (λ it. IsDueOf s trace it due)) at is

after-at : (trace : Trace) (s : State) (number : ℕ) (it : Item) (dn : Done) (ids after : List ℕ) → slice_get trace.items number ≡ Some it → after ≡ ids_after trace s it dn ids → AreAfter trace s number dn ids after
after-at trace s number it dn ids after at is = subst (λ (found : Option Item). MatchOption found ⊥ (λ it. after ≡ ids_after trace s it dn ids)) (sym at) is

module _ (trace : Trace) (number : ℕ) (it : Item) (due : Due) (dn : Done) (ids after : List ℕ) (at : slice_get trace.items number ≡ Some it) where
  -- a cache was made
  pub settled-begun : (cache : ℕ) → made_by it dn ≡ Some cache → after ≡ with_first trace.tid trace.cpus cache ids
      → (s : State) → IsDue s trace number due → s.cpus ≡ trace.cpus → AreAfter trace s number dn ids after
  settled-begun cache made is s dued cpus =
      after-at trace s number it dn ids after at (is ∙ ap (λ n. with_first trace.tid n cache ids) (sym cpus) ∙ sym (begins trace s it dn ids cache made))

  -- one was detached
  pub settled-detached : (cache step : ℕ) → came_about it dn ≡ true → due.cache ≡ Some cache → step ≡ step_of trace.cpus → after ≡ with_steps step cache due.current ids
      → (s : State) → IsDue s trace number due → s.cpus ≡ trace.cpus → AreAfter trace s number dn ids after
  settled-detached cache step came of step_is is s dued cpus =
      let its = due-of s trace number it due at dued in
      let current : AreCurrent s cache due.current = subst (λ (x : Option ℕ). IfSome x (λ cache. AreCurrent s cache due.current)) of its.current in
      after-at trace s number it dn ids after at
      (is ∙ steps-are s cache step due.current ids (step_is ∙ ap step_of (sym cpus)) current
      ∙ ap (λ x. with_detached_of s x ids) (sym of ∙ its.cache) ∙ sym (detaches trace s it dn ids came))

  -- nothing changed
  pub settled-same : made_by it dn ≡ None → came_about it dn ≡ false → after ≡ ids
      → (s : State) → IsDue s trace number due → s.cpus ≡ trace.cpus → AreAfter trace s number dn ids after
  settled-same made came is s dued cpus = after-at trace s number it dn ids after at (is ∙ sym (stays trace s it dn ids made came))

-- there is room where each current slab can be detached
pub room-of : (s : State) (trace : Trace) (number : ℕ) (it : Item) (due : Due) (ids : List ℕ) (cache step : ℕ) → slice_get trace.items number ≡ Some it → due.cache ≡ Some cache → step ≡ step_of trace.cpus
    → (1 ≤ trace.cpus) × (trace.cpus ≤ 16) → IsDue s trace number due → s.cpus ≡ trace.cpus → AreIds s ids → (n : ℕ) → DetachHasRoom step cache due.current n (id_at ids n)
room-of s trace number it due ids cache step at of step_is few dued cpus are n word current =
    let its = due-of s trace number it due at dued in
    let found : AreCurrent s cache due.current = subst (λ (x : Option ℕ). IfSome x (λ cache. AreCurrent s cache due.current)) of its.current in
    let some : IsSome (cpu_at s n).current = sym (at-word s cache due.current n found word) ∙ current in
    let same : are.step ≡ step_of s.cpus = step-is s.cpus are.step are.least (omega (arith, few.0, cpus)) (omega (arith, few.1, cpus)) in
    omega (arith, are.room n some, same, ap step_of cpus, step_is)
