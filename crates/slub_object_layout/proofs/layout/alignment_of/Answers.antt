use Rattle.std.proofs.Common.{◌≡◌, ℕ, max, ◌∙◌, ap, arith}
use Rattle.slub_object_layout.specs.Layout.{alignment_of, align_up}
use Rattle.slub_object_layout.proofs.Slots.{same_max, alignment_is}
use Rattle.slub_object_layout.proofs.layout.alignment_of.Goals as goal
use Rattle.slub_object_layout.proofs.layout.alignment_of.Goals.{then-spec, else-spec}

alignment : (c : goal.After-align_up) → c.align_up.result ≡ alignment_of c.args.spec.now
unfolding alignment_of
alignment c =
    let spec = c.args.spec.now in
    let whole = c.align_up.ensures.value ∙ ap (λ (x : ℕ). align_up x 8) (c.max-2.ensures ∙ ap (λ (x : ℕ). max x 8) c.max.ensures) in
    elim c.if-spec.branch [
      | then-spec w ↦
          rw w.if-spec.true (whole ∙ ap (λ (x : ℕ). align_up x 8) (ap (λ (x : ℕ). max (max spec.align x) 8) w.line-is ∙ same_max spec.align _ _ w.line_of-line.ensures.line))
      | else-spec w ↦ rw w.if-spec.false (whole ∙ ap (λ (x : ℕ). align_up (max (max spec.align x) 8) 8) w.line-is)
    ]

pub returns-clause-alignment : goal.returns-clause-alignment
returns-clause-alignment c = alignment c

pub returns-clause-from_a_word : goal.returns-clause-from_a_word
returns-clause-from_a_word c = rw (alignment c) (alignment_is c.args.spec.now c.requires).from_word

pub returns-clause-to_a_frame : goal.returns-clause-to_a_frame
returns-clause-to_a_frame c = let is = alignment_is c.args.spec.now c.requires in rw (alignment c) (omega (arith, is.within))
