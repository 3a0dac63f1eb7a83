use Rattle.std.proofs.Common.{◌≡◌, ℕ, List, length, ap, ◌∙◌, arith}
use Rattle.slub_words.proofs.Stored.{all-anew}
use Rattle.slub_workers.specs.Cells.{by_number}
use Rattle.slub_workers.proofs.Cells.{length-by_number, by_number-twice}
use Rattle.slub_workers.proofs.shared.keep_cells.Goals as goal

pub rearrange-requires : goal.rearrange-requires
rearrange-requires c =
    let words : List ℕ = c.args.table.now.words in
    let long : length c.as_mut_slice.result.now ≡ length words = ap length (c.as_mut_slice.ensures.value ∙ c.requires.cells) ∙ length-by_number words in
    let all = c.requires.all in
    omega (arith, long, all)

pub keep_row-requires : goal.keep_row-requires
keep_row-requires c =
    let words : List ℕ = c.args.table.now.words in
    let cells : List ℕ = c.args.cells.items in
    let back : c.rearrange.new.words ≡ by_number (by_number words) = c.rearrange.ensures ∙ ap by_number (c.as_mut_slice.ensures.value ∙ c.requires.cells) in
    let long : length c.rearrange.new.words ≡ c.args.cells.len =
    ap length c.rearrange.ensures ∙ length-by_number c.as_mut_slice.result.now ∙ c.as_mut_slice.ensures.len in
    all-anew c.rearrange.new.words cells c.args.cells.len long ∙ back ∙ by_number-twice words c.requires.all
