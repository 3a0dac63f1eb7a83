use Rattle.slub_rounds.proofs.threaded.threaded.Goals as goal

pub closed_at-requires-clause-opened : goal.closed_at-requires-clause-opened
closed_at-requires-clause-opened g c = (c.args.lists, c.args.ids.now, c.in-Ok.ensures.opens)

pub returns-in-Ok-clause-does : goal.returns-in-Ok-clause-does
returns-in-Ok-clause-does g c = (c.closed_at.ensures.does c.args.lists c.args.ids.now c.in-Ok.ensures.opens).does

pub returns-in-Ok-clause-lawful : goal.returns-in-Ok-clause-lawful
returns-in-Ok-clause-lawful g c = c.closed_at.ensures.lawful c.args.lists c.args.ids.now c.in-Ok.ensures.opens

pub returns-in-Ok-clause-coherent : goal.returns-in-Ok-clause-coherent
returns-in-Ok-clause-coherent g c = (c.closed_at.ensures.does c.args.lists c.args.ids.now c.in-Ok.ensures.opens).coherent

pub returns-in-Ok-clause-laid_down : goal.returns-in-Ok-clause-laid_down
returns-in-Ok-clause-laid_down g c = (c.closed_at.ensures.does c.args.lists c.args.ids.now c.in-Ok.ensures.opens).laid_down

pub returns-in-Ok-clause-ids : goal.returns-in-Ok-clause-ids
returns-in-Ok-clause-ids g c = (c.closed_at.ensures.does c.args.lists c.args.ids.now c.in-Ok.ensures.opens).fit
