use Rattle.std.proofs.Common.{◌≡◌, length, length-append, ◌∙◌, ◌++◌, ◌+◌, ℕ, List, ap, sym, arith}
use Rattle.std.specs.List.{slice_range}
use Rattle.slub_schedule.specs.Table.{WordTable}
use Rattle.slub_schedule.proofs.Parted.{of_words, ranges}
use Rattle.slub_schedule.proofs.table.Table.fill.Goals as goal

pub returns : goal.returns
returns g c =
    let i = c.self.inside in
    let all : List ℕ = g.W.Words.all c.args.words.now in
    let memory : ℕ = c.memory_base-memory.result in
    let links : ℕ = c.link_base-links.result in
    let end : ℕ = links + i.frames in
    let long : length all ≡ length ((i.front.items ++ i.memory) ++ i.links.items) = c.requires ∙ ap (λ (t : WordTable). length t.words) (sym c.self.view_is) in
    let parts = length-append (i.front.items ++ i.memory) i.links.items in
    let two = length-append i.front.items i.memory in
    let whole : end ≡ length all = omega (arith, long, parts, two, c.self.invariant.0, c.self.invariant.1, c.self.invariant.2, c.link_base-links.ensures) in
    let first = c.put_words.ensures.words ∙ ap (λ (l : List ℕ). l ++ slice_range all 0 memory) c.clear.ensures.items in
    let last = c.put_words-2.ensures.words ∙ ap (λ (l : List ℕ). l ++ slice_range all links end) c.clear-2.ensures.items in
    (λ j. of_words i.frames i.objects ((first j ++ c.fill.ensures j) ++ last j))
    ∙ ap (of_words i.frames i.objects) (ranges all memory links end (omega (arith, c.memory_base-memory.ensures, c.link_base-links.ensures)) whole)
    ∙ ap (λ (t : WordTable). record t { words = all }) c.self.view_is
