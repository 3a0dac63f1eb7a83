use Rattle.slub_trace_reader.proofs.Places.{not_stripped, nothing_behind, no_space_behind, space_behind}
use Rattle.slub_trace_reader.proofs.names.past_name.Goals as goal

pub returns-in_err-behind-clause-none : goal.returns-in_err-behind-clause-none
returns-in_err-behind-clause-none c = rw c.from_residual.ensures (not_stripped c.args.bytes.now c.args.name.now (rw c.as_bytes.ensures.text at c.in_err-behind.ensures))

pub returns-in_err-c-clause-none : goal.returns-in_err-c-clause-none
returns-in_err-c-clause-none c =
    rw c.from_residual-in_err-c.ensures (nothing_behind c.args.bytes.now c.args.name.now c.in_ok-behind.behind.now (rw c.as_bytes.ensures.text at c.in_ok-behind.ensures) c.in_err-c.ensures.cases)

pub returns-then-c-ne32-clause-none : goal.returns-then-c-ne32-clause-none
returns-then-c-ne32-clause-none c =
    no_space_behind c.args.bytes.now c.args.name.now c.in_ok-behind.behind.now c.in_ok-c.rest.now c.in_ok-c.c.now (rw c.as_bytes.ensures.text at c.in_ok-behind.ensures) c.in_ok-c.ensures.cases.0 c.if-c-ne32.true

pub returns-clause-found : goal.returns-clause-found
returns-clause-found c =
    space_behind c.args.bytes.now c.args.name.now c.in_ok-behind.behind.now c.in_ok-c.rest.now c.in_ok-c.c.now (rw c.as_bytes.ensures.text at c.in_ok-behind.ensures) c.in_ok-c.ensures.cases.0 c.if-c-ne32.false
