use Rattle.slub_picks.specs.List.{IsEntry}
use Rattle.slub_picks.proofs.Entries.{one_entry}
use Rattle.slub_picks.proofs.Saying.{read_last, read_more, unread_last, unread_more}
use Rattle.slub_picks.proofs.list.read_entries.Goals as goal

pub returns-in_default-read_entry-clause-none : goal.returns-in_default-read_entry-clause-none
returns-in_default-read_entry-clause-none c =
    λ bad whole said. unread_more IsEntry 44 c.args.text.now c.entries.rest.now c.in-Some.front.now c.in-Some.behind.now c.entries.entries.items whole c.entries.invariant c.in-Some.ensures.0 c.in-Some.ensures.1 c.in_default-read_entry.ensures said

pub entries-preserved : goal.entries-preserved
entries-preserved c =
    rw c.in_ok-push.ensures.items (read_more IsEntry one_entry 44 c.args.text.now c.entries.rest.now c.in-Some.front.now c.in-Some.behind.now c.entries.entries.items c.in-Some-read_entry.entry c.entries.invariant c.in-Some.ensures.0 c.in-Some.ensures.1 c.in-Some-read_entry.ensures)

pub returns-in_default-read_entry-2-clause-none : goal.returns-in_default-read_entry-2-clause-none
returns-in_default-read_entry-2-clause-none c =
    λ bad whole said. unread_last IsEntry 44 c.args.text.now c.entries.rest.now c.entries.entries.items whole c.entries.invariant c.in_default.ensures c.in_default-read_entry-2.ensures said

pub returns-clause-said : goal.returns-clause-said
returns-clause-said c =
    rw c.in_ok-push-2.ensures.items (read_last IsEntry 44 c.args.text.now c.entries.rest.now c.entries.entries.items c.in-Some-read_entry-2.entry c.entries.invariant c.in_default.ensures c.in-Some-read_entry-2.ensures)
