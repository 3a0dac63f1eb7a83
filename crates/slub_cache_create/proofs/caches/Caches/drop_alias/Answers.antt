use Rattle.std.proofs.Common.{◌≡◌, ◌∙◌, ℕ, List, Some, None, option_map, length, refl, ap, sym, subst}
use Rattle.std.specs.List.{IsDistinct}
use Rattle.std.specs.Map.{keys_of, remove_entry}
use Rattle.std.specs.Str.{bytes_eq}
use Rattle.std.proofs.lemmas.List.{with_items_is}
use Rattle.slub_cache_create.specs.declared.caches.Cache.{Cache}
use Rattle.slub_cache_create.specs.Table.{Table, cache_of}
use Rattle.slub_cache_create.specs.Drop.{less_named}
use Rattle.slub_cache_create.specs.Sound.{IsSound}
use Rattle.slub_cache_create.proofs.Sound.{without_alias-sound}
use Rattle.slub_cache_create.proofs.Views.{alias_gone_view, kept_again}
use Rattle.slub_cache_create.proofs.caches.Caches.drop_alias.Goals as goal

pub invariant_of-self : goal.invariant_of-self
invariant_of-self c =
    let s = c.args.self.now in
    let name = c.args.name.now in
    let cache = c.args.cache in
    let same_length : length c.note.new.at ≡ c.self.inside.at.len = c.note.auto.at ∙ c.deref_mut.ensures.len in
    let distinct_inside = subst (λ (es : List (List ℕ × ℕ)). IsDistinct bytes_eq (keys_of es)) c.shift_remove.ensures.entries c.shift_remove.ensures.unique in
    let distinct = subst (λ (t : Table). IsDistinct bytes_eq (keys_of (remove_entry (bytes_eq name) t.live))) c.self.view_is distinct_inside in
    let item : Some c.less_named-rest.result ≡ option_map less_named (cache_of s cache) = ap (λ (x : Cache). Some x) c.less_named-rest.ensures ∙ sym (ap (option_map less_named) c.cache.ensures.value) in
    let seen = alias_gone_view s _ _ _ _ c.self.view_is name cache _ _ c.shift_remove.ensures.entries item in
    kept_again c.self.inside _ name None c.deref_mut.result.now c.note.new.at c.self.invariant refl refl
    c.deref_mut.ensures.value (with_items_is c.self.inside.at c.note.new.at same_length) c.note.ensures
    c.shift_remove.ensures.updates.0
    (subst IsSound (sym seen) (without_alias-sound s name cache c.requires.named c.requires.others distinct c.cache.ensures.sound))

pub returns-clause-sound : goal.returns-clause-sound
returns-clause-sound c = (invariant_of-self c).sound
