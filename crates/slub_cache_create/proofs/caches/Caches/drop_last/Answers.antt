use Rattle.std.proofs.Common.{◌≡◌, ◌∙◌, ℕ, List, None, length, refl, sym, subst}
use Rattle.std.specs.List.{IsDistinct}
use Rattle.std.specs.Map.{keys_of, remove_entry}
use Rattle.std.specs.Str.{bytes_eq}
use Rattle.std.proofs.lemmas.List.{with_items_is}
use Rattle.slub_cache_create.specs.Table.{Table}
use Rattle.slub_cache_create.specs.Sound.{IsSound}
use Rattle.slub_cache_create.proofs.Sound.{without_cache-sound}
use Rattle.slub_cache_create.proofs.Views.{cache_gone_view, kept_again}
use Rattle.slub_cache_create.proofs.caches.Caches.drop_last.Goals as goal

pub returns-clause-dropped : goal.returns-clause-dropped
returns-clause-dropped c = cache_gone_view c.args.self.now _ _ _ _ c.self.view_is c.args.name.now c.args.cache _ _ c.shift_remove.ensures.entries c.take_out.ensures

pub invariant_of-self : goal.invariant_of-self
invariant_of-self c =
    let s = c.args.self.now in
    let name = c.args.name.now in
    let cache = c.args.cache in
    let same_length : length c.note.new.at ≡ c.self.inside.at.len = c.note.auto.at ∙ c.deref_mut.ensures.len in
    let distinct_inside = subst (λ (es : List (List ℕ × ℕ)). IsDistinct bytes_eq (keys_of es)) c.shift_remove.ensures.entries c.shift_remove.ensures.unique in
    let distinct = subst (λ (t : Table). IsDistinct bytes_eq (keys_of (remove_entry (bytes_eq name) t.live))) c.self.view_is distinct_inside in
    let sound = subst IsSound c.self.view_is c.self.invariant.sound in
    kept_again c.self.inside _ name None c.deref_mut.result.now c.note.new.at c.self.invariant refl refl
    c.deref_mut.ensures.value (with_items_is c.self.inside.at c.note.new.at same_length) c.note.ensures
    c.shift_remove.ensures.updates.0
    (subst IsSound (sym (returns-clause-dropped c)) (without_cache-sound s name cache c.requires.named c.requires.last distinct sound))

pub returns-clause-sound : goal.returns-clause-sound
returns-clause-sound c = (invariant_of-self c).sound
