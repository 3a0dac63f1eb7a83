use Rattle.slub_law_alone.proofs.FromBoard.{objects_taken}
use Rattle.slub_law_alone.proofs.boards.board_objects_are_taken.Goals as goal

pub returns : goal.returns
returns c = objects_taken
