-- A name is dropped, and with its last name a cache that has no slab.
use Rattle.std.proofs.Common.{◌≡◌, ◌≢◌, ℕ, zero, suc, ◌<◌, ◌≤◌, Bool, true, false, cond, List, [], ◌∷◌, get_or, set, sum_by, count_by, Option, Some, None, Result, Ok, Err, option_map, is_some, IfSome, MatchOption, inl, inr, refl, ap, sym, ◌∙◌, subst, arith, length-set, get_or-set_other}
use Rattle.std.proofs.lemmas.Bool.{cases_eq}
use Rattle.std.proofs.lemmas.Bool.Decides.{nat_tests}
use Rattle.std.proofs.lemmas.List.Sums.{sum_by-cons}
use Rattle.slub_object_layout.specs.declared.layout.Layout.{Layout}
use Rattle.slub_object_layout.specs.declared.layout.Flags.{Flags}
use Rattle.slub_object_layout.specs.Layout.{is_checked}
use Rattle.slub_cache_create.specs.declared.caches.Cache.{Cache}
use Rattle.slub_cache_create.specs.declared.caches.Dropped.{Dropped}
use Rattle.slub_cache_create.specs.declared.caches.Dropped.TheVariants.{Alias, Last}
use Rattle.slub_common.specs.declared.no_such_cache.NoSuchCache.{NoSuchCache}
use Rattle.slub_cache_create.specs.Drop.{Drops, less_named, without_alias, without_cache}
use Rattle.slub_cache_create.specs.Sound.{IsSound as IsSoundTable}
use Rattle.slub_cache_create.specs.Table.{Table, names_of, number_of, cache_of as live_cache}
use Rattle.slub_red_zone.specs.State.{CheckedState}
use Rattle.slub_red_zone.specs.Objects.{shape_at}
use Rattle.slub_lists.specs.declared.lists.Slab.{Slab}
use Rattle.slub_lists.specs.State.{State}
use Rattle.slub_lists.specs.Alloc.{cache_of, checked_of, slab_of}
use Rattle.slub_lists.specs.Coherent.{Agrees, AreChecked, IsCacheOf, IsCheckedOf, IsCoherent, IsPlaced, IsShaped, IsSlabOf, idle_in}
use Rattle.slub_lists.specs.Destroy.{without}
use Rattle.slub_lists.specs.Shrink.{has_slab, is_slab_of}
use Rattle.slub_lists.proofs.Emptied.{idle-none}
use Rattle.slub_lists.proofs.CheckedSlabs.{some_weaker}
use Rattle.slub_common.proofs.Sums.{element-counted}
use Rattle.slub_common.proofs.Writes.{at_written}

-- ---- what the table of names did

-- a name of a cache that has others was dropped
pub dropped-alias : (s after : Table) (name : List ℕ) (cache : ℕ) (answer : Result Dropped NoSuchCache) → number_of s name ≡ Some cache → 1 < names_of s cache → Drops s name answer after → after ≡ without_alias s name cache
dropped-alias s after name cache (Ok (Alias other)) named others done = let same : other ≡ cache = some-is (sym done.0 ∙ named) in done.2 ∙ ap (λ n. without_alias s name n) same
  where
    some-is : {x y : ℕ} → Some x ≡ Some y → x ≡ y
    some-is e = cc
dropped-alias s after name cache (Ok (Last other)) named others done = absurd (let same : other ≡ cache = some-is (sym done.0 ∙ named) in omega (arith, others, done.1, ap (names_of s) same))
  where
    some-is : {x y : ℕ} → Some x ≡ Some y → x ≡ y
    some-is e = cc
dropped-alias s after name cache (Err none) named others done = let gone = sym done.0 ∙ named in cc

-- or the last name of a cache
pub dropped-last : (s after : Table) (name : List ℕ) (cache : ℕ) (answer : Result Dropped NoSuchCache) → number_of s name ≡ Some cache → names_of s cache ≡ 1 → Drops s name answer after → after ≡ without_cache s name cache
dropped-last s after name cache (Ok (Alias other)) named last done = absurd (let same : other ≡ cache = some-is (sym done.0 ∙ named) in omega (arith, last, done.1, ap (names_of s) same))
  where
    some-is : {x y : ℕ} → Some x ≡ Some y → x ≡ y
    some-is e = cc
dropped-last s after name cache (Ok (Last other)) named last done = let same : other ≡ cache = some-is (sym done.0 ∙ named) in done.2 ∙ ap (λ n. without_cache s name n) same
  where
    some-is : {x y : ℕ} → Some x ≡ Some y → x ≡ y
    some-is e = cc
dropped-last s after name cache (Err none) named last done = let gone = sym done.0 ∙ named in cc

-- ---- a machine with another table

module _ (s : State) (table : Table) (checked : List (Option CheckedState)) (coherent : IsCoherent s) (sound : IsSoundTable table) where
  abbrev pub tabled : State
  tabled = record s { table = table; checked = checked }

  module _ (are : AreChecked tabled)
      (slabs : (f : ℕ) → IfSome (slab_of s f) (λ slab. MatchOption (live_cache table slab.cache) ⊥ (λ live. IsSlabOf live.layout slab)))
      (idles : (f i : ℕ) → sum_by (idle_in f i) checked ≡ sum_by (idle_in f i) s.checked) where
    tabled-shaped : IsShaped tabled
    tabled-shaped =
        let shaped = coherent.shaped in
        record {
          frames = shaped.frames;
          cpus = shaped.cpus;
          pool = shaped.pool;
          pool_frames = shaped.pool_frames;
          slabs = shaped.slabs;
          frees = shaped.frees;
          table = sound;
          checked = are;
          cpu_lists = shaped.cpu_lists;
          nodes = shaped.nodes;
          memory = shaped.memory;
          live = shaped.live;
          board = shaped.board;
          gone = shaped.gone;
          slab = slabs;
          aligned = shaped.aligned;
          held = shaped.held;
          no_zero = shaped.no_zero;
          bare = shaped.bare;
        }

    tabled-placed : IsPlaced tabled
    tabled-placed f i = omega (arith, coherent.placed f i, idles f i)

    pub tabled-coherent : IsCoherent tabled
    tabled-coherent = record {
      shaped = tabled-shaped;
      placed = tabled-placed;
      framed = coherent.framed;
      listed = record {
        once = coherent.listed.once;
        live = coherent.listed.live;
        stocked = coherent.listed.stocked;
        of_current = coherent.listed.of_current;
        of_partial = coherent.listed.of_partial;
        of_node = coherent.listed.of_node;
        frozen = coherent.listed.frozen;
      };
      accounted = coherent.accounted;
      kept = coherent.kept;
    }

  -- a checked cache whose slabs stand where they stood, under the same flags and layout
  pub tabled-checked : (cache : ℕ) (slabs : CheckedState) → MatchOption (live_cache table cache) ⊥ (λ live. IsCacheOf slabs live.layout live.flags) → IsCheckedOf s cache slabs → IsCheckedOf tabled cache slabs
  tabled-checked cache slabs live is = record {
    sound = is.sound;
    number = is.number;
    live = live;
    agrees = is.agrees;
    unlisted = is.unlisted;
    off_node = is.off_node;
    unfree = is.unfree;
  }

-- ---- a name less

less-match : (P : Layout → Flags → Type 0) (x : Option Cache) → MatchOption x ⊥ (λ live. P live.layout live.flags) → MatchOption (option_map less_named x) ⊥ (λ live. P live.layout live.flags)
less-match P None h = h
less-match P (Some live) h = h

less-if : (P : Layout → Flags → Type 0) (x : Option Cache) → IfSome x (λ live. P live.layout live.flags) → IfSome (option_map less_named x) (λ live. P live.layout live.flags)
less-if P None h = h
less-if P (Some live) h = h

module _ (s : State) (name : List ℕ) (cache : ℕ) (coherent : IsCoherent s) (sound : IsSoundTable (without_alias s.table name cache)) where
  abbrev fewer : Table
  fewer = without_alias s.table name cache

  keeps-match : (P : Layout → Flags → Type 0) (c : ℕ) → MatchOption (cache_of s c) ⊥ (λ live. P live.layout live.flags) → MatchOption (live_cache fewer c) ⊥ (λ live. P live.layout live.flags)
  keeps-match P c old =
      at_written (λ x. MatchOption x ⊥ (λ live. P live.layout live.flags)) s.table.caches cache c (option_map less_named (cache_of s cache)) None
      (λ e. less-match P (cache_of s cache) (subst (λ n. MatchOption (cache_of s n) ⊥ (λ live. P live.layout live.flags)) e old)) old

  keeps-if : (P : Layout → Flags → Type 0) (c : ℕ) → IfSome (cache_of s c) (λ live. P live.layout live.flags) → IfSome (live_cache fewer c) (λ live. P live.layout live.flags)
  keeps-if P c old =
      at_written (λ x. IfSome x (λ live. P live.layout live.flags)) s.table.caches cache c (option_map less_named (cache_of s cache)) None
      (λ e. less-if P (cache_of s cache) (subst (λ n. IfSome (cache_of s n) (λ live. P live.layout live.flags)) e old)) old

  fewer-checked : AreChecked (tabled s fewer s.checked coherent sound)
  fewer-checked =
      let are = coherent.shaped.checked in
      record {
        numbers = are.numbers;
        those = λ c. some_weaker (checked_of s c) (IsCheckedOf s c) (IsCheckedOf (tabled s fewer s.checked coherent sound) c)
            (λ slabs is. tabled-checked s fewer s.checked coherent sound c slabs (keeps-match (λ layout flags. IsCacheOf slabs layout flags) c is.live) is) (are.those c);
        all = λ c. keeps-if (λ layout flags. is_checked flags ≡ is_some (checked_of s c)) c (are.all c);
      }

  pub alias-coherent : IsCoherent (record s { table = without_alias s.table name cache })
  alias-coherent =
      tabled-coherent s fewer s.checked coherent sound fewer-checked
      (λ f. some_weaker (slab_of s f) (λ slab. MatchOption (cache_of s slab.cache) ⊥ (λ live. IsSlabOf live.layout slab)) (λ slab. MatchOption (live_cache fewer slab.cache) ⊥ (λ live. IsSlabOf live.layout slab))
      (λ slab. keeps-match (λ layout flags. IsSlabOf layout slab) slab.cache) (coherent.shaped.slab f))
      (λ f i. refl)

-- ---- a cache less

pub set-none : {X : Type 0} (xs : List (Option X)) (i : ℕ) → get_or (set xs i None) i None ≡ None
set-none [] i = refl
set-none (x ∷ xs) zero = refl
set-none (x ∷ xs) (suc i) = set-none xs i

-- what counts nothing can be taken out
pub sum-without : {X : Type 0} (g : Option X → ℕ) (xs : List (Option X)) (i : ℕ) → g None ≡ 0 → g (get_or xs i None) ≡ 0 → sum_by g (set xs i None) ≡ sum_by g xs
sum-without g [] i nothing none = refl
sum-without g (x ∷ xs) zero nothing none = omega (arith, sum_by-cons g None xs, sum_by-cons g x xs, nothing, none)
sum-without g (x ∷ xs) (suc i) nothing none = omega (arith, sum_by-cons g x (set xs i None), sum_by-cons g x xs, sum-without g xs i nothing none)

module _ (s : State) (name : List ℕ) (cache : ℕ) (coherent : IsCoherent s) (sound : IsSoundTable (without_cache s.table name cache)) (empty : has_slab s cache ≡ false) where
  abbrev rest : Table
  rest = without_cache s.table name cache

  abbrev kept-checked : List (Option CheckedState)
  kept-checked = set s.checked cache None

  -- no frame has a slab of it
  no-slab-at : (f : ℕ) → is_slab_of cache (slab_of s f) ≡ false
  no-slab-at f =
      let none : count_by (is_slab_of cache) s.slabs ≡ 0 = grind (arith, nat_tests, empty) in
      let one = element-counted (λ x. cond (is_slab_of cache x) 1 0) s.slabs f None refl in
      fails (is_slab_of cache (slab_of s f)) (omega (arith, one, none))
    where
      fails : (b : Bool) → cond b 1 0 ≤ 0 → b ≡ false
      fails true h = absurd (omega arith)
      fails false h = refl

  apart : (f : ℕ) (slab : Slab) → slab_of s f ≡ Some slab → slab.cache ≢ cache
  apart f slab is e = let no = sym (ap (is_slab_of cache) is) ∙ no-slab-at f in grind (arith, nat_tests, no, e)

  other-live : (c : ℕ) → c ≢ cache → live_cache rest c ≡ cache_of s c
  other-live c ne = get_or-set_other s.table.caches cache c None None ne

  rest-checked : AreChecked (tabled s rest kept-checked coherent sound)
  rest-checked =
      let are = coherent.shaped.checked in
      let t : State = tabled s rest kept-checked coherent sound in
      record {
        numbers = length-set s.checked cache None ∙ are.numbers;
        those = λ c. elim (cases_eq c cache) [
          | inl e ↦ subst (λ x. IfSome x (IsCheckedOf t c)) (sym (none-there s.checked c e)) tt
          | inr ne ↦ subst (λ x. IfSome x (IsCheckedOf t c)) (sym (get_or-set_other s.checked cache c None None ne))
              (some_weaker (checked_of s c) (IsCheckedOf s c) (IsCheckedOf t c)
              (λ slabs is. tabled-checked s rest kept-checked coherent sound c slabs (subst (λ x. MatchOption x ⊥ (λ live. IsCacheOf slabs live.layout live.flags)) (sym (other-live c ne)) is.live) is) (are.those c))
        ];
        all = λ c. elim (cases_eq c cache) [
          | inl e ↦ subst (λ (x : Option Cache). IfSome x (λ live. is_checked live.flags ≡ is_some (get_or kept-checked c None))) (sym (none-there s.table.caches c e)) tt
          | inr ne ↦ subst (λ (x : Option Cache). IfSome x (λ live. is_checked live.flags ≡ is_some (get_or kept-checked c None))) (sym (other-live c ne))
              (subst (λ (x : Option CheckedState). IfSome (cache_of s c) (λ live. is_checked live.flags ≡ is_some x)) (sym (get_or-set_other s.checked cache c None None ne)) (are.all c))
        ];
      }
    where
      none-there : {X : Type 0} (xs : List (Option X)) (c : ℕ) → c ≡ cache → get_or (set xs cache None) c None ≡ None
      none-there xs c e = ap (λ n. get_or (set xs cache None) n None) e ∙ set-none xs cache

  -- its slabs have no idle object
  idle-nowhere : (f i : ℕ) (x : Option CheckedState) → checked_of s cache ≡ x → IfSome x (IsCheckedOf s cache) → idle_in f i x ≡ 0
  idle-nowhere f i None e is = refl
  idle-nowhere f i (Some slabs) e is = idle-none slabs f i (by (slab_of s f) (shape_at slabs f) refl (is.agrees f))
    where
      by : (x : Option Slab) (y : Option (ℕ × ℕ)) → slab_of s f ≡ x → Agrees cache x y → y ≡ None
      by x None at agrees = refl
      by None (Some y) at agrees = absurd agrees
      by (Some slab) (Some y) at agrees = absurd (apart f slab at agrees.0)

  idles-stay : (f i : ℕ) → sum_by (idle_in f i) kept-checked ≡ sum_by (idle_in f i) s.checked
  idles-stay f i = sum-without (idle_in f i) s.checked cache refl (idle-nowhere f i (checked_of s cache) refl (coherent.shaped.checked.those cache))

  pub without-coherent : IsCoherent (without s name cache)
  without-coherent =
      tabled-coherent s rest kept-checked coherent sound rest-checked
      (λ f. slab-stays f (slab_of s f) refl (coherent.shaped.slab f))
      idles-stay
    where
      slab-stays : (f : ℕ) (x : Option Slab) → slab_of s f ≡ x → IfSome x (λ slab. MatchOption (cache_of s slab.cache) ⊥ (λ live. IsSlabOf live.layout slab)) → IfSome x (λ slab. MatchOption (live_cache rest slab.cache) ⊥ (λ live. IsSlabOf live.layout slab))
      slab-stays f None at old = tt
      slab-stays f (Some slab) at old = subst (λ x. MatchOption x ⊥ (λ live. IsSlabOf live.layout slab)) (sym (other-live slab.cache (apart f slab at))) old

-- ---- what follows of a table that was written

pub without-from : (s after : State) (table : Table) (name : List ℕ) (cache : ℕ) → table ≡ without_cache s.table name cache → after ≡ record s { table = table; checked = set s.checked cache None } → after ≡ without s name cache
without-from s after table name cache is now = now ∙ ap (λ (t : Table). record s { table = t; checked = set s.checked cache None }) is

pub alias-from : (s after : State) (table : Table) (name : List ℕ) (cache : ℕ) → table ≡ without_alias s.table name cache → after ≡ record s { table = table } → after ≡ record s { table = without_alias s.table name cache }
alias-from s after table name cache is now = now ∙ ap (λ (t : Table). record s { table = t }) is
