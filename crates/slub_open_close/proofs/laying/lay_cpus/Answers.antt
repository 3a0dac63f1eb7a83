use Rattle.std.proofs.Common.{◌/◌, length, ap, sym, ◌∙◌}
use Rattle.slub_lists.specs.declared.lists.CpuLists.{CpuLists}
use Rattle.slub_law_opening.specs.Opening.{frame_of}
use Rattle.slub_open_close.specs.Laying.{read, free_row, cpu_in, cpu_free_in}
use Rattle.slub_open_close.proofs.Laid.{row-count, row-more, row-none}
use Rattle.slub_open_close.proofs.Layable.{layable-places}
use Rattle.slub_open_close.proofs.laying.lay_cpus.Goals.{in-Some, in_default}
use Rattle.slub_open_close.proofs.laying.lay_cpus.Goals as goal

pub loop-number-preserved : goal.loop-number-preserved
loop-number-preserved c =
    let rows = cpu_free_in c.args.setup.now c.args.cpus c.args.lists.now in
    let n = c.loop-number.number in
    let m = c.loop-number.memory in
    let inv = c.loop-number.invariant in
    elim c.match-lists_at.branch [
      | in-Some w ↦
          let free = w.in-Some.found.now.free in
          let row = free_row c.args.setup.now (n / 16) w.frame_of-frame.result free in
          record {
            count = row-count (length c.args.memory.now) m c.match-lists_at.memory row (w.memory-is ∙ w.lay_free.ensures) inv.count;
            memory = row-more rows n m c.match-lists_at.memory (read c.args.memory.now) row
                (ap (λ (x : CpuLists). free_row c.args.setup.now (n / 16) (frame_of x.current) x.free) (sym w.in-Some.ensures) ∙ ap (λ f. free_row c.args.setup.now (n / 16) f free) (sym w.frame_of-frame.ensures))
                (w.memory-is ∙ w.lay_free.ensures)
                (layable-places c.args.setup.now (length c.args.memory.now) (length m) (n / 16) (frame_of (cpu_in c.args.cpus c.args.lists.now n).current) (cpu_in c.args.cpus c.args.lists.now n).free inv.count (c.requires.layable n))
                inv.memory;
          }
      | in_default w ↦
          record {
            count = ap length w.memory-is ∙ inv.count;
            memory = ap read w.memory-is ∙ row-none rows n m (read c.args.memory.now) (ap (λ (x : CpuLists). x.free) w.in_default.ensures) inv.memory;
          }
    ]
