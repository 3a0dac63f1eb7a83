-- The name that was just made, with its cache, is dropped again: the table is the old one.
use Rattle.std.proofs.Common.{◌≡◌, ℕ, ◌<◌, ◌++◌, Bool, true, false, cond, eqb, List, [], ◌∷◌, filter, set, Option, Some, None, is_some, refl, ap, sym, ◌∙◌, arith, set-set, get_or-set_same, append-nil}
use Rattle.std.specs.Prelude.{not}
use Rattle.std.specs.Map.{lookup, remove_entry}
use Rattle.std.specs.Option.{option_map_or}
use Rattle.std.specs.Str.{bytes_eq}
use Rattle.std.specs.Prelude.{Result, Ok, Err}
use Rattle.std.specs.Cmp.Lexicographic.{nat_list_eq_equiv}
use Rattle.std.proofs.lemmas.List.{set-get_or}
use Rattle.std.proofs.lemmas.List.Elements.{filter-append}
use Rattle.std.proofs.lemmas.Bool.Decides.{nat_tests}
use Rattle.slub_common.specs.Times.{times}
use Rattle.slub_object_layout.specs.declared.layout.Layout.{Layout}
use Rattle.slub_object_layout.specs.declared.layout.Spec.{Spec}
use Rattle.slub_cache_create.specs.declared.caches.Cache.{Cache}
use Rattle.slub_cache_create.specs.declared.caches.Dropped.{Dropped}
use Rattle.slub_cache_create.specs.declared.caches.Dropped.TheVariants.{Alias, Last}
use Rattle.slub_common.specs.declared.no_such_cache.NoSuchCache.{NoSuchCache}
use Rattle.slub_cache_create.specs.Create.{with_cache}
use Rattle.slub_cache_create.specs.Drop.{Drops, without_cache}
use Rattle.slub_cache_create.specs.Sound.{IsSound}
use Rattle.slub_cache_create.specs.Table.{Table, cache_of, names_of, number_of}
use Rattle.slub_lists.proofs.Removing.{filter-absent}

-- the entry behind the others is found, where no other is
pushed-found : {K : Type 0} (test : K → Bool) (es : List (K × ℕ)) (k : K) (v : ℕ) → lookup test es ≡ None → test k ≡ true → lookup test (es ++ (k, v) ∷ []) ≡ Some v
pushed-found test [] k v none passes = rw passes refl
pushed-found test (e ∷ es) k v none passes = by (test e.0) refl none (λ n. pushed-found test es k v n passes)
  where
    by : (b : Bool) → test e.0 ≡ b → cond b (Some e.1) (lookup test es) ≡ None → (lookup test es ≡ None → lookup test (es ++ (k, v) ∷ []) ≡ Some v) → lookup test (e ∷ (es ++ (k, v) ∷ [])) ≡ Some v
    by true is none rest = cc
    by false is none rest = rw is (rest none)

-- and taken out
pushed-removed : {K : Type 0} (test : K → Bool) (es : List (K × ℕ)) (k : K) (v : ℕ) → lookup test es ≡ None → test k ≡ true → remove_entry test (es ++ (k, v) ∷ []) ≡ es
pushed-removed test [] k v none passes = rw passes refl
pushed-removed test (e ∷ es) k v none passes = by (test e.0) refl none (λ n. pushed-removed test es k v n passes)
  where
    by : (b : Bool) → test e.0 ≡ b → cond b (Some e.1) (lookup test es) ≡ None → (lookup test es ≡ None → remove_entry test (es ++ (k, v) ∷ []) ≡ es) → remove_entry test (e ∷ (es ++ (k, v) ∷ [])) ≡ e ∷ es
    by true is none rest = cc
    by false is none rest = rw is (ap (λ l. e ∷ l) (rest none))

module _ (s : Table) (name : List ℕ) (spec : Spec) (layout : Layout) (cache : ℕ) (sound : IsSound s) (free : number_of s name ≡ None) (within : cache < 32) (unused : cache_of s cache ≡ None) where
  -- the cache that is made, and the table with it
  abbrev made : Cache
  made = record { title = name; flags = spec.flags; layout = layout; names = 1 }

  abbrev new : Table
  new = with_cache s name spec layout cache

  same-name : bytes_eq name name ≡ true
  same-name = nat_list_eq_equiv.refl name

  -- the name names it, and it has no other
  found : number_of new name ≡ Some cache
  found = pushed-found (bytes_eq name) s.live name cache free same-name

  there : cache_of new cache ≡ Some made
  there = get_or-set_same s.caches cache (Some made) None (omega (arith, sound.numbers, within))

  one : names_of new cache ≡ 1
  one = ap (λ (x : Option Cache). option_map_or (λ (live : Cache). live.names) x 0) there

  -- no age was the number's
  no-age : times cache s.ages ≡ 0
  no-age = sound.aged cache ∙ ap (λ (x : Option Cache). cond (is_some x) 1 0) unused

  last-out : filter (λ other. not (eqb other cache)) (cache ∷ []) ≡ []
  last-out = let fails : not (eqb cache cache) ≡ false = grind (arith, nat_tests) in rw fails refl

  -- without it the table is the old one
  undone : without_cache new name cache ≡ s
  undone =
      let live : remove_entry (bytes_eq name) (s.live ++ (name, cache) ∷ []) ≡ s.live = pushed-removed (bytes_eq name) s.live name cache free same-name in
      let caches : set (set s.caches cache (Some made)) cache None ≡ s.caches =
      set-set s.caches cache (Some made) None ∙ sym (ap (λ (x : Option Cache). set s.caches cache x) unused) ∙ set-get_or s.caches cache None in
      let ages : filter (λ other. not (eqb other cache)) (s.ages ++ cache ∷ []) ≡ s.ages =
      filter-append (λ other. not (eqb other cache)) s.ages (cache ∷ []) ∙ ap (λ l. filter (λ other. not (eqb other cache)) s.ages ++ l) last-out
      ∙ append-nil (filter (λ other. not (eqb other cache)) s.ages) ∙ filter-absent cache s.ages no-age in
      ap (λ (x : List (List ℕ × ℕ)). record s { live = x; caches = set (set s.caches cache (Some made)) cache None; ages = filter (λ other. not (eqb other cache)) (s.ages ++ cache ∷ []) }) live
      ∙ ap (λ (x : List (Option Cache)). record s { caches = x; ages = filter (λ other. not (eqb other cache)) (s.ages ++ cache ∷ []) }) caches
      ∙ ap (λ (x : List ℕ). record s { ages = x }) ages

  -- whatever dropping the name answers
  pub dropped-undone : (answer : Result Dropped NoSuchCache) (after : Table) → Drops new name answer after → after ≡ s
  dropped-undone (Ok (Alias other)) after done =
      let same : other ≡ cache = let e = sym done.0 ∙ found in cc in
      absurd (omega (arith, done.1, ap (names_of new) same, one))
  dropped-undone (Ok (Last other)) after done =
      let same : other ≡ cache = let e = sym done.0 ∙ found in cc in
      done.2 ∙ ap (without_cache new name) same ∙ undone
  dropped-undone (Err none) after done = let e = sym done.0 ∙ found in cc
