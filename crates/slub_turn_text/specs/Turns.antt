-- The line of a turn.
use Rattle.std.specs.Prelude.{ℕ, List, [], ◌∷◌, ◌++◌}
use Rattle.std.specs.Fmt.{decimal}
use Rattle.slub_words.specs.declared.slab.SlabWord.{SlabWord}
use Rattle.slub_core.specs.declared.step.Step.{Step}
use Rattle.slub_core.specs.declared.step.Answer.{Answer}
use Rattle.slub_core.specs.Facts.{Facts}
use Rattle.slub_core.specs.Local.{Local}
use Rattle.slub_core.specs.declared.spot.Spot.{Spot}
use Rattle.slub_turn_text.specs.Columns.{cell, front, lane}
use Rattle.slub_turn_text.specs.Labels.{RoundLabels, workers_in, event_number, label_at}
use Rattle.slub_turn_text.specs.Spots.{spot_name}
use Rattle.slub_turn_text.specs.Functions.{function_of}
use Rattle.slub_turn_text.specs.Words.{word_text}
use Rattle.slub_turn_text.specs.Says.{says, step_text}

-- the columns event, spot and function
unfoldable pub spot_cells : List ℕ → Spot → List ℕ
spot_cells event s = cell 9 event ++ cell 13 (spot_name s) ++ cell 22 (function_of s)

-- the columns word and step
unfoldable pub step_cells : RoundLabels → Local → Step → Answer → List ℕ
step_cells labels l step a =
    cell 16 (word_text labels l step.place) ++ cell 13 (step_text step.op a)

-- the lane of a worker
abbrev pub lane_of : RoundLabels → ℕ → List ℕ
lane_of labels worker = lane (workers_in labels) worker

-- the line of the turn of this number: what the worker does at its spot, and what is answered;
-- `seen` is the slab word that it saw or left last
abbrev pub turn_line : RoundLabels → Facts → SlabWord → ℕ → Local → Step → Answer → List ℕ
turn_line labels m seen number l step a =
    front (decimal number) (lane_of labels l.worker)
    ++ spot_cells (label_at labels l.worker (event_number l)) l.spot ++ step_cells labels l step a
    ++ says m seen l step a ++ 10 ∷ []
