use Rattle.slub_red_zone.proofs.NewSlabs.{giving-new}
use Rattle.slub_red_zone.proofs.laws.giving_from_a_new_slab_is_giving.Goals as goal

pub returns : goal.returns
returns c = λ s run objects slot after sound last sized gives. giving-new s run objects sound last slot after sized gives
