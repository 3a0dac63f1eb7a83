use Rattle.std.proofs.Common.{ap, ◌∙◌}
use Rattle.slub_core.specs.World.{pool_in}
use Rattle.slub_open_close.proofs.Undone.{may-put, nodes-back, checked-same}
use Rattle.slub_open_close.proofs.undoing.put_back.Goals as goal

pub put_together-lists-requires : goal.put_together-lists-requires
put_together-lists-requires c =
    let (s, was) = c.requires in
    may-put s c.args.values.items c.args.rest c.args.memory was

pub returns : goal.returns
returns c = λ s was.
    let put = c.put_together-lists.ensures in
    let t = c.put_together-lists.result.0 in
    let nodes = nodes-back s c.args.values.items c.args.rest c.args.memory was t.nodes put.node_count put.nodes in
    let checked = checked-same s c.args.values.items c.args.rest c.args.memory was t.checked put.checked_count put.checked in
    let pool = ap (λ v. pool_in (v 0)) was.values in
    put.lists ∙ (λ i. record {
      frames = was.waiting.frames i;
      cpus = was.waiting.cpus i;
      pool = pool i;
      slabs = was.still.slabs i;
      frees = was.still.frees i;
      table = was.waiting.table i;
      cpu_lists = was.still.cpu_lists i;
      nodes = nodes i;
      checked = checked i;
      memory = was.memory_is i;
      board = was.still.board i;
      gone = was.still.gone i;
      live = was.still.live i;
    })
