use Rattle.std.proofs.Common.{◌≡◌, take}
use Rattle.slub_trace_reader.specs.Above.{with_names}
use Rattle.slub_trace.specs.Classes.{class_names}
use Rattle.slub_trace_reader.proofs.classes.put_classes.Given as goal

abbrev pub invariant-loop-class : goal.invariant-loop-class
invariant-loop-class l = l.names.keys ≡ with_names l.fn.names.keys (take l.class class_names)
