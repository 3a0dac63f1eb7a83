use Rattle.std.proofs.Common.{ap, ◌∙◌, sym}
use Rattle.atomic_table.specs.Seated.{TableId}
use Rattle.slub_workers.specs.declared.worker.Worker.TheInside.{Inside}
use Rattle.slub_workers.specs.Standing.{Standing}
use Rattle.slub_workers.proofs.Try.{goes_next, goes_pop, tried_spent, tried_none, tried_lost, tried_won}
use Rattle.slub_workers.proofs.worker.Worker.try_alloc_fast.Goals as goal

pub returns-then-is_spent-clause-tried : goal.returns-then-is_spent-clause-tried
returns-then-is_spent-clause-tried c may =
    let s = c.args.shared.now in
    let noted = c.cpu_word-word.ensures ∙ ap (λ (y : Inside). y.standing.local.cpu_word) c.self-inside.view_is ∙ ap (λ (p : TableId × Standing). p.1.local.cpu_word) c.self.view_is in
    tried_spent s.words.shared.key s.setup s.facts c.args.self.now.1 may c.try_first-answer.result c.try_first-answer.new.self.1 c.try_first-answer.ensures.turned c.cpu_word-word.result noted (sym c.is_spent.ensures ∙ c.if-is_spent.true)

pub returns-then-word-eq0-clause-tried : goal.returns-then-word-eq0-clause-tried
returns-then-word-eq0-clause-tried c may =
    let s = c.args.shared.now in
    let noted = c.cpu_word-word.ensures ∙ ap (λ (y : Inside). y.standing.local.cpu_word) c.self-inside.view_is ∙ ap (λ (p : TableId × Standing). p.1.local.cpu_word) c.self.view_is in
    tried_none s.words.shared.key s.setup s.facts c.args.self.now.1 may c.try_first-answer.result c.try_first-answer.new.self.1 c.try_first-answer.ensures.turned c.cpu_word-word.result noted (sym c.is_spent.ensures ∙ c.if-is_spent.false) c.if-word-eq0.true
    c.in-Word.loaded c.in-Word.is

pub returns-in-Lost-clause-tried : goal.returns-in-Lost-clause-tried
returns-in-Lost-clause-tried c may =
    let s = c.args.shared.now in
    let noted = c.cpu_word-word.ensures ∙ ap (λ (y : Inside). y.standing.local.cpu_word) c.self-inside.view_is ∙ ap (λ (p : TableId × Standing). p.1.local.cpu_word) c.self.view_is in
    tried_lost s.words.shared.key s.setup s.facts c.args.self.now.1 may c.try_first-answer.result c.try_first-answer.new.self.1 c.try_first-answer.ensures.turned c.cpu_word-word.result noted (sym c.is_spent.ensures ∙ c.if-is_spent.false) c.if-word-eq0.false
    c.try_next.result c.try_next-answer.result c.try_next.new.self.1 c.try_next-answer.new.self.1 c.try_next.ensures.turned c.try_next-answer.ensures.turned c.in-Lost.found c.in-Lost.is

pub returns-clause-tried : goal.returns-clause-tried
returns-clause-tried c may =
    let s = c.args.shared.now in
    let noted = c.cpu_word-word.ensures ∙ ap (λ (y : Inside). y.standing.local.cpu_word) c.self-inside.view_is ∙ ap (λ (p : TableId × Standing). p.1.local.cpu_word) c.self.view_is in
    let cached = c.cache-cache.ensures ∙ ap (λ (y : Inside). y.standing.local.cache) c.self-inside.view_is ∙ ap (λ (p : TableId × Standing). p.1.local.cache) c.self.view_is in
    tried_won s.words.shared.key s.setup s.facts c.args.self.now.1 may c.try_first-answer.result c.try_first-answer.new.self.1 c.try_first-answer.ensures.turned c.cpu_word-word.result noted (sym c.is_spent.ensures ∙ c.if-is_spent.false) c.if-word-eq0.false
    c.try_next.result c.try_next-answer.result c.try_next.new.self.1 c.try_next-answer.new.self.1 c.try_next.ensures.turned c.try_next-answer.ensures.turned c.in_default-answer.not-Lost c.cache-cache.result c.address.result cached c.address.ensures.address

pub try_next-requires-clause-spot : goal.try_next-requires-clause-spot
try_next-requires-clause-spot c =
    let s = c.args.shared.now in
    let noted = c.cpu_word-word.ensures ∙ ap (λ (y : Inside). y.standing.local.cpu_word) c.self-inside.view_is ∙ ap (λ (p : TableId × Standing). p.1.local.cpu_word) c.self.view_is in
    goes_next s.words.shared.key s.setup s.facts c.args.self.now.1 c.requires.alloc c.try_first-answer.result c.try_first-answer.new.self.1 c.try_first-answer.ensures.turned c.cpu_word-word.result noted (sym c.is_spent.ensures ∙ c.if-is_spent.false) c.if-word-eq0.false

pub try_next-answer-requires-clause-spot : goal.try_next-answer-requires-clause-spot
try_next-answer-requires-clause-spot c =
    let s = c.args.shared.now in
    let noted = c.cpu_word-word.ensures ∙ ap (λ (y : Inside). y.standing.local.cpu_word) c.self-inside.view_is ∙ ap (λ (p : TableId × Standing). p.1.local.cpu_word) c.self.view_is in
    goes_pop s.words.shared.key s.setup s.facts c.args.self.now.1 c.requires.alloc c.try_first-answer.result c.try_first-answer.new.self.1 c.try_first-answer.ensures.turned c.cpu_word-word.result noted (sym c.is_spent.ensures ∙ c.if-is_spent.false) c.if-word-eq0.false
    c.try_next.result c.try_next.new.self.1 c.try_next.ensures.turned
