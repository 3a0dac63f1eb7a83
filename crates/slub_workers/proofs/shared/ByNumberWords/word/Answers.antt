use Rattle.std.proofs.Common.{ℕ, ◌<◌, List, length, get_or, sym, ap, ◌∙◌, arith}
use Rattle.std.specs.Mem.Slots.{slots_items, slots_counts}
use Rattle.slub_workers.proofs.Cells.{cell-within, get-by_number, length-by_number}
use Rattle.slub_workers.proofs.Opening.{place_or}
use Rattle.slub_workers.proofs.shared.ByNumberWords.word.Goals as goal

pub word-requires : goal.word-requires
word-requires c =
    let row = c.args.self.now.closed.now.words in
    let words : List ℕ = slots_items row in
    let n = slots_counts row in
    let long = length-by_number words in
    let low : c.args.at < length words = omega (arith, c.requires, long) in
    let inside = cell-within c.args.at (length words) (omega (arith, n, c.args.self.now.all)) low in
    (omega (arith, n, inside, c.cell.ensures), c.args.self.now.full)

pub returns : goal.returns
returns c =
    let row = c.args.self.now.closed.now.words in
    let words : List ℕ = slots_items row in
    let n = slots_counts row in
    sym (get-by_number words c.args.at (omega (arith, n, c.args.self.now.all)) ∙ ap (λ (k : ℕ). get_or words k 0) (sym c.cell.ensures) ∙ place_or words c.cell.result c.word.result 0 c.word.ensures)
