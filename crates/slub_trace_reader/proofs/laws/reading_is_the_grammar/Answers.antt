use Rattle.slub_trace_reader.proofs.ReadingLaws.{reads_trace, reads_fault}
use Rattle.slub_trace_reader.proofs.laws.reading_is_the_grammar.Goals as goal

pub returns-clause-traces : goal.returns-clause-traces
returns-clause-traces c = reads_trace c.args.bytes.now c.requires

pub returns-clause-faults : goal.returns-clause-faults
returns-clause-faults c = reads_fault c.args.bytes.now c.requires
