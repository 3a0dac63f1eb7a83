use Rattle.slub_red_zone.proofs.NewSlabs.{with-new-sound, new-bytes, new-undamaged}
use Rattle.slub_red_zone.proofs.laws.objects_of_a_new_slab_are_whole.Goals as goal

pub returns-clause-sound : goal.returns-clause-sound
returns-clause-sound c = λ s run objects sound new first last sized. with-new-sound s run objects sound new first last sized

pub returns-clause-bytes : goal.returns-clause-bytes
returns-clause-bytes c = λ s run objects index sound last inside. new-bytes s run objects sound last index inside

pub returns-clause-undamaged : goal.returns-clause-undamaged
returns-clause-undamaged c = λ s run objects index sound last inside. new-undamaged s run objects sound last index inside
