-- Each change leaves a table of caches sound.
use Rattle.std.proofs.Common.{◌≡◌, ◌≢◌, ℕ, ◌+◌, ◌<◌, ◌≤◌, cond, not, Bool, true, false, List, [], ◌∷◌, ◌++◌, length, get_or, set, filter, ◌⊎◌, Option, Some, None, option_map, is_some, IsSome, IfSome, MatchOption, refl, ap, sym, ◌∙◌, subst, inl, inr, arith, eqb, length-set}
use Rattle.std.specs.List.{All, IsDistinct}
use Rattle.std.specs.Map.{keys_of}
use Rattle.std.specs.Str.{bytes_eq}
use Rattle.std.proofs.lemmas.List.{length_push}
use Rattle.std.proofs.lemmas.List.Elements.{All-push, All-weaker, All-head, All-tail, All-cons}
use Rattle.std.proofs.lemmas.List.Sums.{sum_by-cons}
use Rattle.std.proofs.lemmas.Bool.Decides.{nat_tests}
use Rattle.slub_object_layout.specs.declared.layout.Layout.{Layout}
use Rattle.slub_object_layout.specs.declared.layout.Setting.{Setting}
use Rattle.slub_object_layout.specs.declared.layout.Spec.{Spec}
use Rattle.slub_object_layout.specs.Layout.{IsAccepted, alignment_of}
use Rattle.slub_cache_create.specs.declared.caches.Cache.{Cache}
use Rattle.slub_cache_create.specs.Table.{Table, cache_of, names_of, number_of, HasTitle, opening}
use Rattle.slub_cache_create.specs.Merging.{Fits, FitsAt, merged_with}
use Rattle.slub_cache_create.specs.Create.{IsOpenTo, IsLeastUnused, with_alias, with_cache}
use Rattle.slub_cache_create.specs.Drop.{less_named, without_alias, without_cache, without_name}
use Rattle.slub_cache_create.specs.Sound.{IsLiveCache, IsLiveLayout, IsSound}
use Rattle.slub_cache_create.specs.Tune.{Takes, tuned, with_setting}
use Rattle.slub_common.specs.Times.{times}
use Rattle.slub_cache_create.proofs.Counts.{times-filter, having, having-none, having-push, having-removed, length-removed, All-removed, many-within}
use Rattle.slub_common.proofs.Times.{times-push}
use Rattle.slub_cache_create.proofs.Layouts.{IsLiveLayout-merged, IsLiveLayout-tuned}
use Rattle.slub_common.proofs.Writes.{at_written, at_written_else, get_or-replicate_any, inside-of}

-- the cache of a number, where it is known
pub known : {X : Type 0} (x : Option X) → IsSome x → (y : X) × (x ≡ Some y)
known None h = absurd cc
known (Some y) h = (y, refl)

at_known : {X : Type 0} (x : Option X) (y : X) (P : X → Type 0) → x ≡ Some y → IfSome x P → P y
at_known x y P is h = rw is at h

no_cache : (x : Option Cache) → x ≡ None → IsSome x → ⊥
no_cache None is some = absurd cc
no_cache (Some y) is some = absurd cc

-- a number, 0 or 1, of a test
one : (b : Bool) → b ≡ true → ◌≡◌ {A = ℕ} (cond b 1 0) 1
one b is = rw is refl

nothing : (b : Bool) → b ≡ false → ◌≡◌ {A = ℕ} (cond b 1 0) 0
nothing b is = rw is refl

-- where all numbers are in use, so many names are live
pub no_room : (s : Table) → IsSound s → All IsSome s.caches → 32 ≤ length s.live
no_room s sound all =
    many-within 32 s.live (λ x less.
    let inside : x < length s.caches = omega (arith, sound.numbers) in
    let found = known (cache_of s x) (all x None inside) in
    let live = at_known (cache_of s x) found.0 (IsLiveCache s x) found.1 (sound.live x) in
    omega (arith, live.names, live.named))

-- where no entry has the number, what holds but for it is whole
alive-but : (cache : ℕ) (caches : List (Option Cache)) (es : List (List ℕ × ℕ)) → having cache es ≡ 0 → All (λ named. IsSome (get_or caches named.1 None)) es
    → All (λ named. IsSome (get_or (set caches cache None) named.1 None)) es
alive-but cache caches [] none all = λ k d less. absurd (omega arith)
alive-but cache caches (e ∷ es) none all =
    let whole : having cache (e ∷ es) ≡ cond (eqb e.1 cache) 1 0 + having cache es = sum_by-cons (λ e. cond (eqb e.1 cache) 1 0) e es in
    let other : e.1 ≢ cache = λ same. omega (arith, whole, none, one (eqb e.1 cache) (grind (arith, nat_tests))) in
    let rest : having cache es ≡ 0 = omega (arith, whole, none) in
    All-cons (λ named. IsSome (get_or (set caches cache None) named.1 None)) e es
    (at_written IsSome caches cache e.1 None None (λ same. absurd (other same)) (All-head (λ named. IsSome (get_or caches named.1 None)) e es all))
    (alive-but cache caches es rest (All-tail (λ named. IsSome (get_or caches named.1 None)) e es all))

-- ---- a live cache is written, and the names change with it

module _ (s : Table) (cache : ℕ) (old new : Cache) (live : List (List ℕ × ℕ))
    (is : cache_of s cache ≡ Some old) (titled : new.title ≡ old.title) (laid : IsLiveLayout new.flags new.layout)
    (few : length live ≤ 32) (distinct : IsDistinct bytes_eq (keys_of live)) (alive : All (λ named. IsSome (cache_of s named.1)) live)
    (here : new.names ≡ having cache live) (some : 1 ≤ new.names)
    (elsewhere : (c : ℕ) → c ≢ cache → having c live ≡ having c s.live) where
  rewritten : Table
  rewritten = record s { live = live; caches = set s.caches cache (Some new) }

  -- no title changes
  title_before : (name : List ℕ) (c : ℕ) → MatchOption (get_or (set s.caches cache (Some new)) c None) ⊥ (λ a. a.title ≡ name) → HasTitle s c name
  title_before name c = at_written (λ x. MatchOption x ⊥ (λ a. a.title ≡ name) → HasTitle s c name) s.caches cache c (Some new) None
      (λ e has. rw (ap (cache_of s) e ∙ is) (sym titled ∙ has)) (λ has. has)

  pub rewritten-sound : IsSound s → IsSound (record s { live = live; caches = set s.caches cache (Some new) })
  rewritten-sound sound =
      let inside : cache < length s.caches = inside-of s.caches cache old is in
      record {
        few = few;
        distinct = distinct;
        alive = All-weaker (λ named. IsSome (cache_of s named.1)) (λ named. IsSome (get_or (set s.caches cache (Some new)) named.1 None))
            (λ named was. at_written IsSome s.caches cache named.1 (Some new) None (λ e. refl) was) live alive;
        numbers = length-set s.caches cache (Some new) ∙ sound.numbers;
        aged = λ c. at_written_else (λ (x : Option Cache). times c s.ages ≡ cond (is_some x) 1 0) s.caches cache c (Some new) None inside
            (λ e. sound.aged c ∙ one (is_some (cache_of s c)) (ap is_some (ap (cache_of s) e ∙ is))) (λ ne. sound.aged c);
        live = λ c. at_written_else (λ x. IfSome x (IsLiveCache (record s { live = live; caches = set s.caches cache (Some new) }) c)) s.caches cache c (Some new) None inside
            (λ e. record {
              names = here ∙ ap (λ n. having n live) (sym e);
              named = some;
              layout = laid;
            })
            (λ ne. kept c ne (cache_of s c) (sound.live c));
        titles = λ name a b at_a at_b. sound.titles name a b (title_before name a at_a) (title_before name b at_b);
      }
    where
      kept : (c : ℕ) → c ≢ cache → (x : Option Cache) → IfSome x (IsLiveCache s c) → IfSome x (IsLiveCache (record s { live = live; caches = set s.caches cache (Some new) }) c)
      kept c ne None h = tt
      kept c ne (Some a) h = record { names = h.names ∙ sym (elsewhere c ne); named = h.named; layout = h.layout }

-- ---- names that come and go

alias_is : (s : Table) (f : Cache → Cache) (cache : ℕ) (old : Cache) → cache_of s cache ≡ Some old → option_map f (cache_of s cache) ≡ Some (f old)
alias_is s f cache old is = rw is refl

-- one more name of a live cache that fits
pub with_alias-sound : (s : Table) (name : List ℕ) (spec : Spec) (cache : ℕ) → IsOpenTo s name → IsAccepted spec → 1 ≤ alignment_of spec → FitsAt s spec cache
    → IsDistinct bytes_eq (keys_of (s.live ++ (name, cache) ∷ [])) → IsSound s → IsSound (with_alias s name spec cache)
with_alias-sound s name spec cache free accepted some fits distinct sound = by (cache_of s cache) refl
  where
    by : (x : Option Cache) → cache_of s cache ≡ x → IsSound (with_alias s name spec cache)
    by None is = absurd (rw is at fits)
    by (Some old) is =
        let was = at_known (cache_of s cache) old (IsLiveCache s cache) is (sound.live cache) in
        let fits_old : Fits old spec = rw is at fits in
        subst (λ x. IsSound (record s { live = s.live ++ (name, cache) ∷ []; caches = set s.caches cache x })) (sym (alias_is s (merged_with spec) cache old is))
        (rewritten-sound s cache old (merged_with spec old) (s.live ++ (name, cache) ∷ []) is refl (IsLiveLayout-merged old spec accepted some fits_old was.layout)
        (omega (arith, free.room, length_push s.live (name, cache))) distinct
        (All-push (λ named. IsSome (cache_of s named.1)) s.live (name, cache) sound.alive (ap is_some is))
        (omega (arith, was.names, having-push cache name cache s.live, one (eqb cache cache) (grind (arith, nat_tests)))) (omega arith)
        (λ c ne. omega (arith, having-push c name cache s.live, nothing (eqb cache c) (grind (arith, nat_tests)))) sound)

-- one name less of a cache that has others
pub without_alias-sound : (s : Table) (name : List ℕ) (cache : ℕ) → number_of s name ≡ Some cache → 1 < names_of s cache
    → IsDistinct bytes_eq (keys_of (without_name s name)) → IsSound s → IsSound (without_alias s name cache)
without_alias-sound s name cache named others distinct sound = by (cache_of s cache) refl
  where
    by : (x : Option Cache) → cache_of s cache ≡ x → IsSound (without_alias s name cache)
    by None is = let none : names_of s cache ≡ 0 = rw is refl in absurd (omega (arith, none, others))
    by (Some old) is =
        let was = at_known (cache_of s cache) old (IsLiveCache s cache) is (sound.live cache) in
        let many : names_of s cache ≡ old.names = rw is refl in
        let test = bytes_eq name in
        subst (λ x. IsSound (record s { live = without_name s name; caches = set s.caches cache x })) (sym (alias_is s less_named cache old is))
        (rewritten-sound s cache old (less_named old) (without_name s name) is refl was.layout
        (omega (arith, sound.few, length-removed test s.live)) distinct
        (All-removed (λ named. IsSome (cache_of s named.1)) test s.live sound.alive)
        (omega (arith, was.names, having-removed test cache cache s.live named, one (eqb cache cache) (grind (arith, nat_tests)))) (omega (arith, many, others))
        (λ c ne. omega (arith, having-removed test c cache s.live named, nothing (eqb cache c) (grind (arith, nat_tests)))) sound)

-- a number of a live cache is set
pub with_setting-sound : (s : Table) (cache : ℕ) (setting : Setting) → IsSome (cache_of s cache) → IfSome (cache_of s cache) (λ live. Takes live.flags setting)
    → IsSound s → IsSound (with_setting s cache setting)
with_setting-sound s cache setting there takes sound = by (cache_of s cache) refl
  where
    by : (x : Option Cache) → cache_of s cache ≡ x → IsSound (with_setting s cache setting)
    by None is = absurd (no_cache (cache_of s cache) is there)
    by (Some old) is =
        let was = at_known (cache_of s cache) old (IsLiveCache s cache) is (sound.live cache) in
        let fits = at_known (cache_of s cache) old (λ live. Takes live.flags setting) is takes in
        subst (λ x. IsSound (record s { caches = set s.caches cache x })) (sym (alias_is s (tuned setting) cache old is))
        (rewritten-sound s cache old (tuned setting old) s.live is refl (IsLiveLayout-tuned old.flags setting old.layout fits was.layout)
        sound.few sound.distinct sound.alive was.names was.named (λ c ne. refl) sound)

-- ---- caches that come and go

-- a cache is made under an unused number
module _ (s : Table) (name : List ℕ) (spec : Spec) (layout : Layout) (cache : ℕ) (free : IsOpenTo s name)
    (unused : IsLeastUnused s cache) (laid : IsLiveLayout spec.flags layout) (distinct : IsDistinct bytes_eq (keys_of (s.live ++ (name, cache) ∷ []))) where
  -- each title was there, or is the new one
  title_before_made : (made : Cache) → made.title ≡ name → (n : List ℕ) (c : ℕ) → MatchOption (get_or (set s.caches cache (Some made)) c None) ⊥ (λ a. a.title ≡ n)
      → ((c ≡ cache) × (n ≡ name)) ⊎ HasTitle s c n
  title_before_made made titled n c = at_written (λ x. MatchOption x ⊥ (λ a. a.title ≡ n) → ((c ≡ cache) × (n ≡ name)) ⊎ HasTitle s c n) s.caches cache c (Some made) None
      (λ e has. inl (e, sym has ∙ titled)) (λ has. inr has)

  pub with_cache-sound : IsSound s → IsSound (with_cache s name spec layout cache)
  with_cache-sound sound =
      let made : Cache = record { title = name; flags = spec.flags; layout = layout; names = 1 } in
      let after : Table = with_cache s name spec layout cache in
      let inside : cache < length s.caches = omega (arith, unused.within, sound.numbers) in
      let nobody : having cache s.live ≡ 0 = having-none cache (λ c. IsSome (cache_of s c)) s.live (λ some. absurd (no_cache (cache_of s cache) unused.unused some)) sound.alive in
      let alone : having cache after.live ≡ 1 = omega (arith, nobody, having-push cache name cache s.live, one (eqb cache cache) (grind (arith, nat_tests))) in
      record {
        few = omega (arith, free.room, length_push s.live (name, cache));
        distinct = distinct;
        alive = All-push (λ named. IsSome (get_or (set s.caches cache (Some made)) named.1 None)) s.live (name, cache)
            (All-weaker (λ named. IsSome (cache_of s named.1)) (λ named. IsSome (get_or (set s.caches cache (Some made)) named.1 None))
            (λ named was. at_written IsSome s.caches cache named.1 (Some made) None (λ e. refl) was) s.live sound.alive)
            (at_written_else IsSome s.caches cache cache (Some made) None inside (λ e. refl) (λ ne. absurd (ne refl)));
        numbers = length-set s.caches cache (Some made) ∙ sound.numbers;
        aged = λ c. at_written_else (λ (x : Option Cache). times c (s.ages ++ cache ∷ []) ≡ cond (is_some x) 1 0) s.caches cache c (Some made) None inside
            (λ e. let before = sound.aged c in let none : ◌≡◌ {A = ℕ} (cond (is_some (cache_of s c)) 1 0) 0 = nothing (is_some (cache_of s c)) (ap is_some (ap (cache_of s) e ∙ unused.unused)) in
            omega (arith, before, none, times-push c cache s.ages, one (eqb cache c) (grind (arith, nat_tests))))
            (λ ne. let before = sound.aged c in omega (arith, before, times-push c cache s.ages, nothing (eqb cache c) (grind (arith, nat_tests))));
        live = λ c. at_written_else (λ x. IfSome x (IsLiveCache after c)) s.caches cache c (Some made) None inside
            (λ e. record { names = sym (ap (λ n. having n after.live) e ∙ alone); named = omega arith; layout = laid })
            (λ ne. kept c ne (cache_of s c) (sound.live c));
        titles = λ n a b at_a at_b. apart sound n a b (title_before_made made refl n a at_a) (title_before_made made refl n b at_b);
      }
    where
      kept : (c : ℕ) → c ≢ cache → (x : Option Cache) → IfSome x (IsLiveCache s c) → IfSome x (IsLiveCache (with_cache s name spec layout cache) c)
      kept c ne None h = tt
      kept c ne (Some a) h = record {
        names = h.names ∙ sym (omega (arith, having-push c name cache s.live, nothing (eqb cache c) (grind (arith, nat_tests))));
        named = h.named;
        layout = h.layout;
      }

      apart : IsSound s → (n : List ℕ) (a b : ℕ) → ((a ≡ cache) × (n ≡ name)) ⊎ HasTitle s a n → ((b ≡ cache) × (n ≡ name)) ⊎ HasTitle s b n → a ≡ b
      apart sound n a b (inl x) (inl y) = x.0 ∙ sym y.0
      apart sound n a b (inl x) (inr y) = absurd (free.free (inr (b, subst (HasTitle s b) x.1 y)))
      apart sound n a b (inr x) (inl y) = absurd (free.free (inr (a, subst (HasTitle s a) y.1 x)))
      apart sound n a b (inr x) (inr y) = sound.titles n a b x y

-- a cache goes with its only name
module _ (s : Table) (name : List ℕ) (cache : ℕ) (named : number_of s name ≡ Some cache) (last : names_of s cache ≡ 1)
    (distinct : IsDistinct bytes_eq (keys_of (without_name s name))) where
  title_before_gone : (n : List ℕ) (c : ℕ) → MatchOption (get_or (set s.caches cache None) c None) ⊥ (λ a. a.title ≡ n) → HasTitle s c n
  title_before_gone n c = at_written (λ x. MatchOption x ⊥ (λ a. a.title ≡ n) → HasTitle s c n) s.caches cache c None None (λ e has. absurd has) (λ has. has)

  pub without_cache-sound : IsSound s → IsSound (without_cache s name cache)
  without_cache-sound sound = by (cache_of s cache) refl
    where
      kept : (c : ℕ) → c ≢ cache → (x : Option Cache) → IfSome x (IsLiveCache s c) → IfSome x (IsLiveCache (without_cache s name cache) c)
      kept c ne None h = tt
      kept c ne (Some a) h = record {
        names = h.names ∙ sym (omega (arith, having-removed (bytes_eq name) c cache s.live named, nothing (eqb cache c) (grind (arith, nat_tests))));
        named = h.named;
        layout = h.layout;
      }

      by : (x : Option Cache) → cache_of s cache ≡ x → IsSound (without_cache s name cache)
      by None is = let none : names_of s cache ≡ 0 = rw is refl in absurd (omega (arith, none, last))
      by (Some old) is =
          let inside : cache < length s.caches = inside-of s.caches cache old is in
          let was = at_known (cache_of s cache) old (IsLiveCache s cache) is (sound.live cache) in
          let only : old.names ≡ 1 = rw is at last in
          let test = bytes_eq name in
          let left : having cache (without_name s name) ≡ 0 = omega (arith, was.names, only, having-removed test cache cache s.live named, one (eqb cache cache) (grind (arith, nat_tests))) in
          record {
            few = omega (arith, sound.few, length-removed test s.live);
            distinct = distinct;
            alive = alive-but cache s.caches (without_name s name) left (All-removed (λ named. IsSome (cache_of s named.1)) test s.live sound.alive);
            numbers = length-set s.caches cache None ∙ sound.numbers;
            aged = λ c. at_written_else (λ (x : Option Cache). times c (filter (λ other. not (eqb other cache)) s.ages) ≡ cond (is_some x) 1 0) s.caches cache c None None inside
                (λ e. times-filter c cache s.ages ∙ ap (λ (b : Bool). cond b 0 (times c s.ages)) (equal c e))
                (λ ne. times-filter c cache s.ages ∙ ap (λ (b : Bool). cond b 0 (times c s.ages)) (unequal c ne) ∙ sound.aged c);
            live = λ c. at_written_else (λ x. IfSome x (IsLiveCache (without_cache s name cache) c)) s.caches cache c None None inside (λ e. tt) (λ ne. kept c ne (cache_of s c) (sound.live c));
            titles = λ n a b at_a at_b. sound.titles n a b (title_before_gone n a at_a) (title_before_gone n b at_b);
          }
        where
          equal : (c : ℕ) → c ≡ cache → eqb c cache ≡ true
          equal c e = grind (arith, nat_tests)

          unequal : (c : ℕ) → c ≢ cache → eqb c cache ≡ false
          unequal c ne = grind (arith, nat_tests)

no_names : IsDistinct bytes_eq []
unfolding IsDistinct
no_names = tt

-- before the first creation
pub opening-sound : (names : List (List ℕ)) → IsSound (opening names)
opening-sound names = record {
  few = omega arith;
  distinct = no_names;
  alive = λ k d less. absurd (omega arith);
  numbers = refl;
  aged = λ c. sym (ap (λ (x : Option Cache). cond (is_some x) 1 0) (get_or-replicate_any 32 c None));
  live = λ c. subst (λ x. IfSome x (IsLiveCache (opening names) c)) (sym (get_or-replicate_any 32 c None)) tt;
  titles = λ n a b at_a at_b. absurd (subst (λ x. MatchOption x ⊥ (λ live. live.title ≡ n)) (get_or-replicate_any 32 a None) at_a);
}
