-- What contracts see of the fields after a change, and that what holds of the fields holds again.
use Rattle.std.proofs.Common.{◌≡◌, ℕ, cond, List, [], ◌∷◌, ◌++◌, Option, Some, None, MatchOption, option_map, filter, not, eqb, set, position, ap, ◌∙◌}
use Rattle.std.specs.Map.{lookup, remove_entry}
use Rattle.std.specs.Str.{bytes_eq}
use Rattle.slub_object_layout.specs.declared.layout.Setting.{Setting}
use Rattle.slub_object_layout.specs.declared.layout.Spec.{Spec}
use Rattle.slub_object_layout.specs.declared.layout.Layout.{Layout}
use Rattle.slub_cache_create.specs.declared.caches.Cache.{Cache}
use Rattle.slub_cache_create.specs.declared.caches.Caches.TheInside.{Inside}
use Rattle.slub_cache_create.specs.Table.{Table, cache_of}
use Rattle.slub_cache_create.specs.Merging.{merged_with}
use Rattle.slub_cache_create.specs.Create.{with_alias, with_cache}
use Rattle.slub_cache_create.specs.Drop.{less_named, without_alias, without_cache}
use Rattle.slub_cache_create.specs.Fields.{IsKept, table_of}
use Rattle.slub_cache_create.specs.Tune.{tuned, with_setting}
use Rattle.slub_cache_create.specs.Sound.{IsSound}
use Rattle.slub_cache_create.proofs.Noted.{noted}

-- the same names are kept, and one of them may name another number
pub kept_again : (a b : Inside) (name : List ℕ) (v : Option ℕ) (old new : List (Option ℕ)) → IsKept a → b.kept.keys ≡ a.kept.keys → b.places.items ≡ a.places.items
    → old ≡ a.at.items → b.at.items ≡ new → MatchOption (position (bytes_eq name) a.kept.keys) (new ≡ old) (λ i. new ≡ set old i v)
    → ((q : List ℕ) → lookup (bytes_eq q) b.live.entries ≡ cond (bytes_eq name q) v (lookup (bytes_eq q) a.live.entries))
    → IsSound (table_of b) → IsKept b
kept_again a b name v old new was keys places before after written says sound = record {
  distinct = rw keys was.distinct;
  places = rw (keys, places) was.places;
  at = rw keys (after ∙ noted name v (λ q. lookup (bytes_eq q) a.live.entries) (λ q. lookup (bytes_eq q) b.live.entries) says a.kept.keys old new was.distinct (before ∙ was.at) written);
  sound = sound;
}

module _ (s : Table) (kept : List (List ℕ)) (live : List (List ℕ × ℕ)) (caches : List (Option Cache)) (ages : List ℕ)
    (is : (let t : Table = record { kept = kept; live = live; caches = caches; ages = ages } in t ≡ s)) where
  same_kept : kept ≡ s.kept
  same_kept = ap (λ (t : Table). t.kept) is

  same_live : live ≡ s.live
  same_live = ap (λ (t : Table). t.live) is

  same_caches : caches ≡ s.caches
  same_caches = ap (λ (t : Table). t.caches) is

  same_ages : ages ≡ s.ages
  same_ages = ap (λ (t : Table). t.ages) is

  pub alias_view : (name : List ℕ) (spec : Spec) (cache : ℕ) (live' : List (List ℕ × ℕ)) (x : Option Cache)
      → live' ≡ live ++ (name, cache) ∷ [] → x ≡ option_map (merged_with spec) (cache_of s cache)
      → (let after : Table = record { kept = kept; live = live'; caches = set caches cache x; ages = ages } in after ≡ with_alias s name spec cache)
  alias_view name spec cache live' x pushed merged =
      let k = same_kept in
      let l = same_live in
      let c = same_caches in
      let a = same_ages in
      cc

  pub made_view : (name : List ℕ) (spec : Spec) (layout : Layout) (cache : ℕ) (live' : List (List ℕ × ℕ)) (ages' : List ℕ)
      → live' ≡ live ++ (name, cache) ∷ [] → ages' ≡ ages ++ cache ∷ []
      → (let made : Cache = record { title = name; flags = spec.flags; layout = layout; names = 1 } in
      let after : Table = record { kept = kept; live = live'; caches = set caches cache (Some made); ages = ages' } in after ≡ with_cache s name spec layout cache)
  made_view name spec layout cache live' ages' pushed aged =
      let k = same_kept in
      let l = same_live in
      let c = same_caches in
      let a = same_ages in
      cc

  pub alias_gone_view : (name : List ℕ) (cache : ℕ) (live' : List (List ℕ × ℕ)) (x : Option Cache)
      → live' ≡ remove_entry (bytes_eq name) live → x ≡ option_map less_named (cache_of s cache)
      → (let after : Table = record { kept = kept; live = live'; caches = set caches cache x; ages = ages } in after ≡ without_alias s name cache)
  alias_gone_view name cache live' x removed less =
      let k = same_kept in
      let l = same_live in
      let c = same_caches in
      let a = same_ages in
      cc

  pub cache_gone_view : (name : List ℕ) (cache : ℕ) (live' : List (List ℕ × ℕ)) (ages' : List ℕ)
      → live' ≡ remove_entry (bytes_eq name) live → ages' ≡ filter (λ other. not (eqb other cache)) ages
      → (let after : Table = record { kept = kept; live = live'; caches = set caches cache None; ages = ages' } in after ≡ without_cache s name cache)
  cache_gone_view name cache live' ages' removed aged =
      let k = same_kept in
      let l = same_live in
      let c = same_caches in
      let a = same_ages in
      cc

  pub tuned_view : (cache : ℕ) (setting : Setting) (x : Option Cache) → x ≡ option_map (tuned setting) (cache_of s cache)
      → (let after : Table = record { kept = kept; live = live; caches = set caches cache x; ages = ages } in after ≡ with_setting s cache setting)
  tuned_view cache setting x tuned =
      let k = same_kept in
      let l = same_live in
      let c = same_caches in
      let a = same_ages in
      cc
