use Rattle.std.proofs.Common.{◌≡◌, ◌∙◌, ℕ, List, [], ◌∷◌, ◌++◌, Some, None, option_map, length, refl, ap, sym, subst, arith}
use Rattle.std.specs.List.{IsDistinct}
use Rattle.std.specs.Map.{keys_of}
use Rattle.std.specs.Str.{bytes_eq}
use Rattle.std.proofs.lemmas.List.{with_items_is}
use Rattle.indexmap.proofs.CallerLemmas.{insert_entry-new}
use Rattle.slub_object_layout.proofs.Slots.{alignment_is}
use Rattle.slub_cache_create.specs.declared.caches.Cache.{Cache}
use Rattle.slub_cache_create.specs.Table.{Table, cache_of, number_of}
use Rattle.slub_cache_create.specs.Merging.{merged_with}
use Rattle.slub_cache_create.specs.Sound.{IsSound}
use Rattle.slub_cache_create.proofs.Noted.{not_live}
use Rattle.slub_cache_create.proofs.Sound.{with_alias-sound}
use Rattle.slub_cache_create.proofs.Views.{alias_view, kept_again}
use Rattle.slub_cache_create.proofs.caches.Caches.merge_into.Goals as goal

entries : (c : goal.After-self-2-1) → c.insert.new.self.entries ≡ c.self.inside.live.entries ++ (c.args.name.now, c.args.cache) ∷ []
entries c =
    let free : number_of c.args.self.now c.args.name.now ≡ None = not_live c.args.self.now c.args.name.now c.requires.open.free in
    c.in_ok-insert.ensures.entries ∙ insert_entry-new bytes_eq c.self.inside.live c.args.name.now c.args.cache (rw (← c.self.view_is) at free)

pub returns-clause-merged : goal.returns-clause-merged
returns-clause-merged c =
    let s = c.args.self.now in
    let item : Some c.merged-merged.result ≡ option_map (merged_with c.args.spec.now) (cache_of s c.args.cache) = ap (λ (x : Cache). Some x) c.merged-merged.ensures ∙ sym (ap (option_map (merged_with c.args.spec.now)) c.cache.ensures.value) in
    alias_view s _ _ _ _ c.self.view_is c.args.name.now c.args.spec.now c.args.cache _ _ (entries c) item

pub invariant_of-self-2 : goal.invariant_of-self-2
invariant_of-self-2 c =
    let s = c.args.self.now in
    let name = c.args.name.now in
    let cache = c.args.cache in
    let length_kept : length c.note.new.at ≡ c.self.inside.at.len = c.note.auto.at ∙ c.deref_mut.ensures.len in
    let distinct_inside = subst (λ (es : List (List ℕ × ℕ)). IsDistinct bytes_eq (keys_of es)) (entries c) c.in_ok-insert.ensures.unique in
    let distinct = subst (λ (t : Table). IsDistinct bytes_eq (keys_of (t.live ++ (name, cache) ∷ []))) c.self.view_is distinct_inside in
    kept_again c.self.inside _ name (Some cache) c.deref_mut.result.now c.note.new.at c.self.invariant refl refl
    c.deref_mut.ensures.value (with_items_is c.self.inside.at c.note.new.at length_kept) c.note.ensures
    c.in_ok-insert.ensures.updates.0
    (subst IsSound (sym (returns-clause-merged c)) (with_alias-sound s name c.args.spec.now cache c.requires.open c.requires.accepted
    (let slot = alignment_is c.args.spec.now c.requires.accepted in omega (arith, slot.from_word)) c.requires.fits distinct c.cache.ensures.sound))
