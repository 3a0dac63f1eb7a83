use Rattle.std.proofs.Common.{◌<◌, ◌^◌, List, ap, sym, subst, ◌∙◌}
use Rattle.slub_lists.specs.declared.lists.CpuLists.{CpuLists}
use Rattle.slub_list_machine.specs.Parts.{state_of}
use Rattle.slub_law_opening.specs.Opening.{head_of}
use Rattle.slub_open_close.specs.Laying.{cpu_in}
use Rattle.slub_open_close.proofs.Small.{cpu-head}
use Rattle.slub_open_close.proofs.classes.cpu_number.Goals as goal

pub head_of-requires : goal.head_of-requires
head_of-requires c = subst (λ (x : CpuLists). head_of x.free < 2 ^ 16) (sym (c.in-Some.ensures ∙ ap (λ (ls : List CpuLists). cpu_in c.args.parts.now.cpus ls c.args.number) c.deref.ensures.value)) (cpu-head (state_of c.args.parts.now) c.args.number c.requires.consistent)
