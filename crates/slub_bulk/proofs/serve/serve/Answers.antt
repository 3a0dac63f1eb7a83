use Rattle.std.proofs.lemmas.Result.{IfOk-weaker}
use Rattle.slub_bulk.proofs.serve.serve.Goals as goal

pub returns-in-Bulk-clause-served : goal.returns-in-Bulk-clause-served
returns-in-Bulk-clause-served c = rw c.in-Bulk.is c.bulk.ensures.served

pub returns-in-Bulk-clause-stays : goal.returns-in-Bulk-clause-stays
returns-in-Bulk-clause-stays c = rw c.in-Bulk.is (IfOk-weaker c.bulk.result _ _ (λ done stays. stays c.args.trace.now) c.bulk.ensures.stays)

pub returns-in-Bulk-clause-unheld : goal.returns-in-Bulk-clause-unheld
returns-in-Bulk-clause-unheld c = rw c.in-Bulk.is c.bulk.ensures.unheld

pub returns-in-Bulkfree-clause-served : goal.returns-in-Bulkfree-clause-served
returns-in-Bulkfree-clause-served c = rw c.in-Bulkfree.is c.bulk_free.ensures.served

pub returns-in-Bulkfree-clause-stays : goal.returns-in-Bulkfree-clause-stays
returns-in-Bulkfree-clause-stays c = rw c.in-Bulkfree.is (IfOk-weaker c.bulk_free.result _ _ (λ done stays. stays c.args.trace.now) c.bulk_free.ensures.stays)

pub returns-in-Bulk-clause-stopped : goal.returns-in-Bulk-clause-stopped
returns-in-Bulk-clause-stopped c = rw c.in-Bulk.is c.bulk.ensures.stopped

pub returns-in-Bulkfree-clause-stopped : goal.returns-in-Bulkfree-clause-stopped
returns-in-Bulkfree-clause-stopped c = rw c.in-Bulkfree.is c.bulk_free.ensures.stopped
