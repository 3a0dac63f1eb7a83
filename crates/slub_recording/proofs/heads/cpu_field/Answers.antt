use Rattle.std.proofs.Common.{◌∙◌}
use Rattle.slub_recording.specs.Words.{words}
use Rattle.slub_recording.proofs.Splits.{cpu_here, cpu_on, cpu_none}
use Rattle.slub_recording.proofs.heads.cpu_field.Goals as goal

pub returns-in-Some-cpu : goal.returns-in-Some-cpu
returns-in-Some-cpu c =
    c.loop-word.invariant ∙ cpu_here (words c.loop-word.rest.now) (words c.in-Some.behind.now) c.in-Some.word.now c.in-Some-cpu.n c.in-Some.ensures.found c.in-Some-cpu.ensures

pub loop-word-preserved : goal.loop-word-preserved
loop-word-preserved c =
    c.loop-word.invariant ∙ cpu_on (words c.loop-word.rest.now) (words c.in-Some.behind.now) c.in-Some.word.now c.in-Some.ensures.found c.in_default-cpu.ensures

pub returns : goal.returns
returns c = c.loop-word.invariant ∙ cpu_none (words c.loop-word.rest.now) c.in_default.ensures.none
