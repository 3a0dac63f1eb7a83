use Rattle.std.proofs.Common.{◌≡◌, ℕ, List, [], ◌∷◌, length, refl, subst, All, arith}
use Rattle.slub_trace.specs.Sound.{asked_objects}
use Rattle.slub_slabinfo_text.specs.Lawful.{IsUnheld}
use Rattle.slub_rounds.specs.Asked.{IsOpenTo}
use Rattle.slub_rounds.proofs.Staying.{board_keeps}
use Rattle.slub_kmalloc.proofs.serve.serve.Goals as goal

pub kget-requires-clause-asks : goal.kget-requires-clause-asks
kget-requires-clause-asks c =
    let mine : asked_objects c.args.client.now ≡ c.in-Kget.object ∷ [] = rw c.in-Kget.is refl in
    subst (λ (objects : List ℕ). IsOpenTo c.args.heap c.args.trace.now (length objects)) mine c.requires.servable.heap

pub krealloc-requires-clause-asks : goal.krealloc-requires-clause-asks
krealloc-requires-clause-asks c =
    let mine : asked_objects c.args.client.now ≡ c.in-Krealloc.fresh ∷ [] = rw c.in-Krealloc.is refl in
    subst (λ (objects : List ℕ). IsOpenTo c.args.heap c.args.trace.now (length objects)) mine c.requires.servable.heap

pub kmalloc-requires-clause-asks : goal.kmalloc-requires-clause-asks
kmalloc-requires-clause-asks c =
    let mine : asked_objects c.args.client.now ≡ [] = rw c.in-Kmalloc.is refl in
    subst (λ (objects : List ℕ). IsOpenTo c.args.heap c.args.trace.now (length objects)) mine c.requires.servable.heap

pub kget-requires-clause-unheld : goal.kget-requires-clause-unheld
kget-requires-clause-unheld c =
    let mine : asked_objects c.args.client.now ≡ c.in-Kget.object ∷ [] = rw c.in-Kget.is refl in
    subst (All (IsUnheld c.args.heap.lists)) mine c.requires.servable.unheld 0 c.in-Kget.object (omega arith)

pub krealloc-requires-clause-unheld : goal.krealloc-requires-clause-unheld
krealloc-requires-clause-unheld c =
    let mine : asked_objects c.args.client.now ≡ c.in-Krealloc.fresh ∷ [] = rw c.in-Krealloc.is refl in
    subst (All (IsUnheld c.args.heap.lists)) mine c.requires.servable.unheld 0 c.in-Krealloc.fresh (omega arith)

pub returns-in-Kget-clause-stays : goal.returns-in-Kget-clause-stays
returns-in-Kget-clause-stays c = rw c.in-Kget.is c.kget.ensures.stays

pub returns-in-Kget-clause-unheld : goal.returns-in-Kget-clause-unheld
returns-in-Kget-clause-unheld c = rw c.in-Kget.is c.kget.ensures.unheld

pub returns-in-Krealloc-clause-stays : goal.returns-in-Krealloc-clause-stays
returns-in-Krealloc-clause-stays c = rw c.in-Krealloc.is c.krealloc.ensures.stays

pub returns-in-Krealloc-clause-unheld : goal.returns-in-Krealloc-clause-unheld
returns-in-Krealloc-clause-unheld c = rw c.in-Krealloc.is c.krealloc.ensures.unheld

pub returns-in_ok-kmalloc-in-Kmalloc-clause-stays : goal.returns-in_ok-kmalloc-in-Kmalloc-clause-stays
returns-in_ok-kmalloc-in-Kmalloc-clause-stays c = rw c.in-Kmalloc.is c.in_ok-kmalloc-in-Kmalloc.ensures.stays

pub returns-in_ok-kmalloc-in-Kmalloc-clause-unheld : goal.returns-in_ok-kmalloc-in-Kmalloc-clause-unheld
returns-in_ok-kmalloc-in-Kmalloc-clause-unheld c =
    board_keeps c.args.heap.lists c.in_ok-kmalloc-in-Kmalloc.field-0.0.lists (asked_objects c.args.client.now) c.in_ok-kmalloc-in-Kmalloc.ensures.board

pub returns-in-Kget-clause-stopped : goal.returns-in-Kget-clause-stopped
returns-in-Kget-clause-stopped c = rw c.in-Kget.is c.kget.ensures.stopped

pub returns-in-Krealloc-clause-stopped : goal.returns-in-Krealloc-clause-stopped
returns-in-Krealloc-clause-stopped c = rw c.in-Krealloc.is c.krealloc.ensures.stopped
