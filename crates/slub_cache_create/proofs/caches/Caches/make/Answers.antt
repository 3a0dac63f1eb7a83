use Rattle.std.proofs.Common.{◌≡◌, ◌∙◌, ℕ, List, [], ◌∷◌, ◌++◌, Some, None, length, refl, ap, sym, subst}
use Rattle.std.specs.List.{IsDistinct}
use Rattle.std.specs.Map.{keys_of}
use Rattle.std.specs.Str.{bytes_eq}
use Rattle.std.proofs.lemmas.List.{with_items_is}
use Rattle.indexmap.proofs.CallerLemmas.{insert_entry-new}
use Rattle.slub_cache_create.specs.Table.{Table, number_of}
use Rattle.slub_cache_create.specs.Sound.{IsSound}
use Rattle.slub_cache_create.proofs.Noted.{not_live}
use Rattle.slub_cache_create.proofs.Sound.{with_cache-sound}
use Rattle.slub_cache_create.proofs.Views.{made_view, kept_again}
use Rattle.slub_cache_create.proofs.caches.Caches.make.Goals as goal

entries : (c : goal.After-self-2-1) → c.insert.new.self.entries ≡ c.self.inside.live.entries ++ (c.args.name.now, c.unused_number-cache.result) ∷ []
entries c =
    let free : number_of c.args.self.now c.args.name.now ≡ None = not_live c.args.self.now c.args.name.now c.requires.open.free in
    c.in_ok-insert.ensures.entries ∙ insert_entry-new bytes_eq c.self.inside.live c.args.name.now c.unused_number-cache.result (rw (← c.self.view_is) at free)

pub returns-clause-made : goal.returns-clause-made
returns-clause-made c =
    made_view c.args.self.now _ _ _ _ c.self.view_is c.args.name.now c.args.spec.now c.args.layout.now c.unused_number-cache.result _ _ (entries c)
    (c.push_reserved.ensures.items ∙ ap (λ (xs : List ℕ). xs ++ c.unused_number-cache.result ∷ []) c.reserve.ensures.items)

pub invariant_of-self-2 : goal.invariant_of-self-2
invariant_of-self-2 c =
    let s = c.args.self.now in
    let name = c.args.name.now in
    let cache = c.unused_number-cache.result in
    let same_length : length c.note.new.at ≡ c.self.inside.at.len = c.note.auto.at ∙ c.deref_mut.ensures.len in
    let distinct_inside = subst (λ (es : List (List ℕ × ℕ)). IsDistinct bytes_eq (keys_of es)) (entries c) c.in_ok-insert.ensures.unique in
    let distinct = subst (λ (t : Table). IsDistinct bytes_eq (keys_of (t.live ++ (name, cache) ∷ []))) c.self.view_is distinct_inside in
    let sound = subst IsSound c.self.view_is c.self.invariant.sound in
    kept_again c.self.inside _ name (Some cache) c.deref_mut.result.now c.note.new.at c.self.invariant refl refl
    c.deref_mut.ensures.value (with_items_is c.self.inside.at c.note.new.at same_length) c.note.ensures
    c.in_ok-insert.ensures.updates.0
    (subst IsSound (sym (returns-clause-made c)) (with_cache-sound s name c.args.spec.now c.args.layout.now cache c.requires.open c.unused_number-cache.ensures c.requires.layout distinct sound))
