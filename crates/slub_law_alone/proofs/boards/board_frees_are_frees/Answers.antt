use Rattle.slub_law_alone.proofs.FromBoard.{board_frees}
use Rattle.slub_law_alone.proofs.boards.board_frees_are_frees.Goals as goal

pub returns : goal.returns
returns c = board_frees
