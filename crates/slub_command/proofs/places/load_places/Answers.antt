use Rattle.std.proofs.Common.{◌≡◌, ◌∙◌, ap, ap₂, codes, [], ◌∷◌}
use Rattle.clap.specs.Simple.{app_of}
use Rattle.clap.specs.Matches.{found_of}
use Rattle.slub_command.specs.declared.command.CommandFault.TheVariants.{BadWords}
use Rattle.slub_command.proofs.PlaceWalks.{is_there, value_of}
use Rattle.slub_command.proofs.LoadPlaces.{no_places, parsed}
use Rattle.slub_command.proofs.places.load_places.Goals as goal

pub returns-in-Err-clause-none : goal.returns-in-Err-clause-none
returns-in-Err-clause-none c = λ is. no_places _ _ _ c.in-Ok.ensures c.in-Err.ensures.kinds (c.fault_of.ensures (let same : c.fault_of.result ≡ BadWords = cc in same))

pub unwrap-requires : goal.unwrap-requires
unwrap-requires c =
    let p = parsed (app_of c.in-Ok.command) _ (found_of c.in-Ok-try_get_matches_from.matches) _ c.in-Ok.ensures c.requires c.in-Ok-try_get_matches_from.ensures.kinds c.in-Ok-try_get_matches_from.ensures.matches in
    is_there c.get_str.result p.places.seed (c.get_str.ensures ∙ p.says (codes "seed"))

pub unwrap-requires-2 : goal.unwrap-requires-2
unwrap-requires-2 c =
    let p = parsed (app_of c.in-Ok.command) _ (found_of c.in-Ok-try_get_matches_from.matches) _ c.in-Ok.ensures c.requires c.in-Ok-try_get_matches_from.ensures.kinds c.in-Ok-try_get_matches_from.ensures.matches in
    is_there c.get_str-2.result p.places.events (c.get_str-2.ensures ∙ p.says (codes "events"))

pub unwrap-requires-3 : goal.unwrap-requires-3
unwrap-requires-3 c =
    let p = parsed (app_of c.in-Ok.command) _ (found_of c.in-Ok-try_get_matches_from.matches) _ c.in-Ok.ensures c.requires c.in-Ok-try_get_matches_from.ensures.kinds c.in-Ok-try_get_matches_from.ensures.matches in
    is_there c.get_str-3.result p.places.workers (c.get_str-3.ensures ∙ p.says (codes "workers"))

pub returns-clause-places : goal.returns-clause-places
returns-clause-places c =
    let p = parsed (app_of c.in-Ok.command) _ (found_of c.in-Ok-try_get_matches_from.matches) _ c.in-Ok.ensures c.requires c.in-Ok-try_get_matches_from.ensures.kinds c.in-Ok-try_get_matches_from.ensures.matches in
    let seed_is = value_of c.get_str.result c.unwrap.result p.places.seed c.unwrap.ensures (c.get_str.ensures ∙ p.says (codes "seed")) in
    let events_is = value_of c.get_str-2.result c.unwrap-2.result p.places.events c.unwrap-2.ensures (c.get_str-2.ensures ∙ p.says (codes "events")) in
    let workers_is = value_of c.get_str-3.result c.unwrap-3.result p.places.workers c.unwrap-3.ensures (c.get_str-3.ensures ∙ p.says (codes "workers")) in
    p.places.words_are ∙ ap₂ (λ w ws. w ∷ ws) seed_is (ap₂ (λ w ws. w ∷ ws) events_is (ap (λ w. w ∷ []) workers_is))
