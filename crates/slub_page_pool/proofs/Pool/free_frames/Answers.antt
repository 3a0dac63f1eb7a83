-- There are as many free frames as marks, and no more marks than frames.
use Rattle.std.proofs.Common.{◌≡◌, ◌≤◌, arith, sym, ◌∙◌, subst}
use Rattle.std.specs.List.{count_by}
use Rattle.std.proofs.lemmas.List.Sums.{count_by-le-length}
use Rattle.slub_page_pool.proofs.MarkedFrames.{IsPool-marks, length-free_of}
use Rattle.slub_page_pool.proofs.Pool.free_frames.Goals as goal
use Rattle.slub_page_pool.proofs.Pool.free_frames.Goals.{After-count}

-- what is counted, of the fields' marks
counted : (c : After-count) → c.count.result ≡ count_by (λ mark. mark) c.self.inside.marks.items
counted c = subst (λ s. c.count.result ≡ count_by (λ mark. mark) s) c.deref.ensures.value c.count.ensures

pub overflow_cast-result : goal.overflow_cast-result
overflow_cast-result c =
    let few : count_by (λ mark. mark) c.self.inside.marks.items ≤ 4096 = omega (arith, count_by-le-length (λ mark. mark) c.self.inside.marks.items, c.self.invariant.marks_kept.most) in
    omega (arith, few, counted c)

pub returns-clause-count : goal.returns-clause-count
returns-clause-count c = rw (← c.self.view_is) (counted c ∙ sym (length-free_of c.self.inside.marks.items))

pub returns-clause-pool : goal.returns-clause-pool
returns-clause-pool c = rw (← c.self.view_is) (IsPool-marks c.self.inside.marks.items c.self.inside.dry c.self.invariant.marks_kept)
