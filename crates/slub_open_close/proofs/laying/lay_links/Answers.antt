use Rattle.std.proofs.Common.{◌<◌, ap, sym, subst, ◌∙◌}
use Rattle.std.specs.Prelude.{All}
use Rattle.slub_lists.specs.declared.lists.CpuLists.{CpuLists}
use Rattle.slub_law_opening.specs.Opening.{string_row}
use Rattle.slub_open_close.specs.Laying.{read, cpu_in, string_in}
use Rattle.slub_open_close.proofs.Laid.{row-more, row-none}
use Rattle.slub_open_close.proofs.laying.lay_links.Goals.{in-Some, in_default}
use Rattle.slub_open_close.proofs.laying.lay_links.Goals as goal

pub loop-number-preserved : goal.loop-number-preserved
loop-number-preserved c =
    let rows = string_in c.args.cpus c.args.lists.now in
    elim c.match-lists_at.branch [
      | in-Some w ↦ row-more rows c.loop-number.number c.loop-number.links c.match-lists_at.links (read c.args.links.now) (string_row w.in-Some.found.now.partial)
          (ap (λ (x : CpuLists). string_row x.partial) (sym w.in-Some.ensures))
          (w.links-is ∙ w.lay_string.ensures)
          (subst (λ n. All (λ f. f < n) (cpu_in c.args.cpus c.args.lists.now c.loop-number.number).partial) (sym c.loop-number.auto.links) (c.requires.inside c.loop-number.number))
          c.loop-number.invariant
      | in_default w ↦ ap read w.links-is ∙ row-none rows c.loop-number.number c.loop-number.links (read c.args.links.now) (ap (λ (x : CpuLists). x.partial) w.in_default.ensures) c.loop-number.invariant
    ]
