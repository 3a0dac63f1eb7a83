use Rattle.std.proofs.Common.{sym, ◌∙◌, inl, inr, eq-eqb}
use Rattle.std.proofs.lemmas.Bool.{eqb-true}
use Rattle.slub_object_layout.proofs.PowersOfTwo.{IsPowerOfTwo-ones, ones-IsPowerOfTwo}
use Rattle.slub_object_layout.proofs.layout.is_align.Goals as goal

pub returns-then-align-le-ALIGN_MAX : goal.returns-then-align-le-ALIGN_MAX
returns-then-align-le-ALIGN_MAX c = (
  λ yes. (c.if-align-le-ALIGN_MAX.true, inr (IsPowerOfTwo-ones c.args.align (eqb-true _ 1 (sym c.is_power_of_two.ensures ∙ yes)))),
  λ is. elim is.1 [
    | inl none ↦ absurd (c.if-align-eq0.false none)
    | inr power ↦ c.is_power_of_two.ensures ∙ eq-eqb _ 1 (ones-IsPowerOfTwo c.args.align power)
  ],
)
