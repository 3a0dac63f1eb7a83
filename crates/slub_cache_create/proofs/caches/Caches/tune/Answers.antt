use Rattle.std.proofs.Common.{◌≡◌, ◌∙◌, Some, option_map, ap, sym, subst}
use Rattle.slub_cache_create.specs.declared.caches.Cache.{Cache}
use Rattle.slub_cache_create.specs.Table.{cache_of}
use Rattle.slub_cache_create.specs.Tune.{tuned}
use Rattle.slub_cache_create.specs.Sound.{IsSound}
use Rattle.slub_cache_create.proofs.Sound.{with_setting-sound}
use Rattle.slub_cache_create.proofs.Views.{tuned_view}
use Rattle.slub_cache_create.proofs.caches.Caches.tune.Goals as goal

pub returns-clause-tuned : goal.returns-clause-tuned
returns-clause-tuned c =
    let s = c.args.self.now in
    let item : Some c.tuned-tuned.result ≡ option_map (tuned c.args.setting) (cache_of s c.args.cache) =
    ap (λ (x : Cache). Some x) c.tuned-tuned.ensures ∙ sym (ap (option_map (tuned c.args.setting)) c.cache.ensures.value) in
    tuned_view s _ _ _ _ c.self.view_is c.args.cache c.args.setting _ item

-- the names and what they name at hand are as before
pub invariant_of-self : goal.invariant_of-self
invariant_of-self c = record {
  distinct = c.self.invariant.distinct;
  places = c.self.invariant.places;
  at = c.self.invariant.at;
  sound = subst IsSound (sym (returns-clause-tuned c)) (with_setting-sound c.args.self.now c.args.cache c.args.setting c.requires.live c.requires.takes c.cache.ensures.sound);
}

pub returns-clause-sound : goal.returns-clause-sound
returns-clause-sound c = (invariant_of-self c).sound
