use Rattle.slub_items.proofs.Classes.{serves}
use Rattle.slub_items.proofs.laws.kmalloc_lines_leave_the_board.Goals as goal

pub returns : goal.returns
returns c = serves c.rounds_by_text_are_lawful.ensures c.allocations_may_be_done.ensures c.frees_may_be_done.ensures
