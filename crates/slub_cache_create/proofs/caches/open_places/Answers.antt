use Rattle.std.proofs.Common.{◌≡◌, ◌<◌, ◌∙◌, ◌∷◌, ◌++◌, ◌+◌, ℕ, List, [], All, length, take, sym, ap, subst, arith}
use Rattle.std.proofs.lemmas.List.{take_more}
use Rattle.slub_cache_create.proofs.Places.{names_at, one_more, within_more}
use Rattle.slub_cache_create.proofs.caches.open_places.Goals as goal

pub loop-name-preserved : goal.loop-name-preserved
loop-name-preserved c =
    let old = c.loop-name.invariant in
    let keys = c.loop-name.kept.keys in
    let more = c.insert_full.new.self.keys in
    let name = c.name-item.result in
    let place = c.in_ok-place.place in
    let places = c.loop-name.places.items in
    let pushed : c.push.new.self.items ≡ places ++ place ∷ [] = c.in_ok-push.ensures.items in
    let inside : c.loop-name.name-index < length c.args.names.now = omega arith in
    let step : take (c.loop-name.name-index + 1) c.args.names.now ≡ take c.loop-name.name-index c.args.names.now ++ name ∷ [] =
    take_more c.args.names.now c.loop-name.name-index name inside ∙ ap (λ (x : List ℕ). take c.loop-name.name-index c.args.names.now ++ x ∷ []) (sym c.name-item.is) in
    record {
      distinct = c.in_ok-place.ensures.unique;
      within = subst (λ (ps : List ℕ). All (λ p. p < length more) ps) (sym pushed) (within_more keys more name place places c.in_ok-place.ensures.keys c.in_ok-place.ensures.within old.within);
      names = subst (λ (ps : List ℕ). names_at more ps ≡ take (c.loop-name.name-index + 1) c.args.names.now) (sym pushed)
          (one_more keys more name place places (take c.loop-name.name-index c.args.names.now) c.in_ok-place.ensures.keys c.in_ok-place.ensures.stored old.within old.names ∙ sym step);
    }
