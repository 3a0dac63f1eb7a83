-- The machine of a round as the step machine's definitions have it.
use Rattle.std.specs.Prelude.{◌≡◌, Bool, false, List, [], ◌∷◌}
use Rattle.slub_core.specs.Setup.{Means}
use Rattle.slub_core.specs.Local.{Local}
use Rattle.slub_core.specs.Run.{System, Pick, after_step}
use Rattle.slub_core.specs.Facts.{Facts, setup_of}
use Rattle.slub_core.specs.declared.guarded.Guarded.{Guarded}
use Rattle.slub_core.specs.Values.{values_of, rooms_of}
use Rattle.slub_schedule.specs.Table.{WordTable}
use Rattle.slub_turns.specs.Fits.{HasRooms, TurnFits}

-- the words, the values of the locks, and the workers in rising number
abbrev pub system_of : WordTable → List Guarded → List Local → System
system_of table guarded locals = record {
  words = table.words;
  value = values_of guarded;
  locals = locals;
}

-- with one worker alone, which then has number 0
abbrev pub alone : WordTable → List Guarded → Local → System
alone table guarded local = system_of table guarded (local ∷ [])

abbrev pub picked_alone : Bool → Pick
picked_alone tries = record { worker = 0; refused = false; tries = tries }

-- it has begun its call, and what it does next fits, whether memory is refused in it or not
abbrev pub FitsAlone : Facts → WordTable → List Guarded → Local → Type 0
FitsAlone facts table guarded local = (means : Means)
    × HasRooms (setup_of facts means) (rooms_of guarded)
    × ((refused : Bool)
    → TurnFits (setup_of facts means) refused (alone table guarded local) local)

-- once it has begun its call, its turn leads from here to there
abbrev pub LeadsAlone : Facts → Bool → WordTable → List Guarded → Local
    → WordTable → List Guarded → Local → Type 0
LeadsAlone facts refused table guarded local table_after guarded_after after = (means : Means)
    → alone table_after guarded_after after
    ≡ after_step (setup_of facts means) refused (alone table guarded local) 0 local

-- the table is of a machine of these sizes
pub record IsTableFor (facts : Facts) (table : WordTable) : Type 0 where
  pub frames : facts.frames ≡ table.frames
  pub objects : facts.objects ≡ table.objects
