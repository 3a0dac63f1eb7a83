use Rattle.std.proofs.Common.{◌≡◌, ◌+◌, ◌-◌, ℕ, ap, arith, rules, get_or, sym, ◌∙◌}
use Rattle.std.specs.Prelude.{slice_index}
use Rattle.slub_cpu_partial.specs.Strings.{frame_after}
use Rattle.slub_cpu_partial.proofs.Frames.{has_link, followed, written}
use Rattle.slub_cpu_partial.proofs.words.frames_of.Goals as goal
use Rattle.slub_cpu_partial.proofs.words.frames_of.Goals.{then-at-gt0, else-at-gt0}

pub bounds-links-from : goal.bounds-links-from
bounds-links-from c =
    rw c.from.ensures (has_link c.args.links.now c.args.word.front c.args.word.count c.loop-at.at c.loop-at.frame
    (omega arith) (omega arith) c.requires.linked c.loop-at.invariant.last)

pub loop-at-preserved : goal.loop-at-preserved
loop-at-preserved c =
    let next : ℕ → ℕ = λ f. slice_index c.args.links.now f in
    let back : (c.loop-at.at + 1) - 1 ≡ c.loop-at.at = omega arith in
    let is : c.if-at-gt0.frame ≡ frame_after next c.args.word.front c.loop-at.at =
    elim c.if-at-gt0.branch [
      | then-at-gt0 w ↦ followed c.args.links.now c.args.word.front c.loop-at.at c.loop-at.frame c.if-at-gt0.frame (omega arith) c.loop-at.invariant.last
          (w.frame-is ∙ ap (λ (f : ℕ). get_or c.args.links.now f 0) w.from.ensures)
      | else-at-gt0 w ↦ let none : c.loop-at.at - 1 ≡ c.loop-at.at = omega arith in w.frame-is ∙ c.loop-at.invariant.last ∙ ap (frame_after next c.args.word.front) none
    ] in
    record {
      so_far = written next c.loop-at.room c.args.word.front c.loop-at.at c.if-at-gt0.frame (omega arith) c.loop-at.invariant.so_far is;
      last = is ∙ ap (frame_after next c.args.word.front) (sym back);
      small = search rules;
    }
