use Rattle.std.proofs.Common.{◌≡◌, ◌∙◌, length, replicate, None, ap, sym, subst, rules}
use Rattle.std.specs.Map.{lookup}
use Rattle.std.specs.Str.{bytes_eq}
use Rattle.slub_cache_create.specs.Sound.{IsSound}
use Rattle.slub_cache_create.proofs.Places.{none_named}
use Rattle.slub_cache_create.proofs.Sound.{opening-sound}
use Rattle.slub_cache_create.proofs.caches.Caches.open.Goals as goal

pub returns-clause-opened : goal.returns-clause-opened
returns-clause-opened c = search rules

pub returns-clause-sound : goal.returns-clause-sound
returns-clause-sound c = subst IsSound (sym (returns-clause-opened c)) (opening-sound c.args.names.now)

pub invariant_of-result : goal.invariant_of-result
invariant_of-result c =
    let none : c.in_ok-at.at.items ≡ replicate (length c.in_ok-kept.kept.keys) None = search rules in
    record {
      distinct = c.in_ok-kept.ensures.distinct;
      places = c.in_ok-kept.ensures.within;
      at = none ∙ none_named (λ name. lookup (bytes_eq name) c.in_ok-live.live.entries) c.in_ok-kept.kept.keys (λ name. ap (lookup (bytes_eq name)) c.in_ok-live.ensures.empty);
      sound = returns-clause-sound c;
    }
