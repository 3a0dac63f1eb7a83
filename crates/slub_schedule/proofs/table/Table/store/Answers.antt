use Rattle.std.proofs.Common.{◌∙◌, ◌++◌, ℕ, List, set, ap, arith}
use Rattle.slub_schedule.specs.Table.{WordTable}
use Rattle.slub_schedule.proofs.Parted.{of_words, set-first, set-middle, set-last}
use Rattle.slub_schedule.proofs.table.Table.store.Goals as goal

abbrev stored : ℕ → ℕ → WordTable → WordTable
stored number word t = record t { words = set t.words number word }

pub returns-then-number-memory : goal.returns-then-number-memory
returns-then-number-memory c =
    let i = c.self.inside in
    ap (of_words i.frames i.objects)
    (set-first i.front.items i.memory i.links.items c.args.number c.args.word (omega (arith, c.if-number-memory.true, c.memory_base-memory.ensures, c.self.invariant.0)))
    ∙ ap (stored c.args.number c.args.word) c.self.view_is

pub returns-then-number-links : goal.returns-then-number-links
returns-then-number-links c =
    let i = c.self.inside in
    let base = c.memory_base-memory.result in
    ap (λ (l : List ℕ). of_words i.frames i.objects ((i.front.items ++ l) ++ i.links.items)) c.write.ensures
    ∙ ap (of_words i.frames i.objects)
    (set-middle i.front.items i.memory i.links.items c.args.number c.args.word base (omega (arith, c.memory_base-memory.ensures, c.self.invariant.0)) (omega (arith, c.if-number-memory.false))
    (omega (arith, c.if-number-links.true, c.memory_base-memory.ensures, c.link_base-links.ensures, c.self.invariant.1)))
    ∙ ap (stored c.args.number c.args.word) c.self.view_is

pub returns-then-number-links-2 : goal.returns-then-number-links-2
returns-then-number-links-2 c =
    let i = c.self.inside in
    ap (of_words i.frames i.objects)
    (set-last i.front.items i.memory i.links.items c.args.number c.args.word c.link_base-links.result (omega (arith, c.link_base-links.ensures, c.self.invariant.0, c.self.invariant.1)) (omega (arith, c.if-number-links.false)))
    ∙ ap (stored c.args.number c.args.word) c.self.view_is
