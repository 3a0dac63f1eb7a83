-- A machine on plain lists taken apart into its vectors.
use Rattle.slub_lists.specs.State.{State}
use Rattle.slub_list_machine.specs.declared.parts.Parts.{Parts}

-- the machine that has these parts
abbrev pub state_of : Parts → State
state_of parts = record {
  frames = parts.frames;
  cpus = parts.cpus;
  pool = parts.pool;
  slabs = parts.slabs.items;
  frees = parts.frees;
  table = parts.table;
  cpu_lists = parts.cpu_lists.items;
  nodes = parts.nodes.items;
  checked = parts.checked.items;
  memory = parts.memory;
  board = parts.board.items;
  gone = parts.gone.items;
  live = parts.live.items;
}
