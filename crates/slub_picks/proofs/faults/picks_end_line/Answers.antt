use Rattle.std.proofs.Common.{◌∙◌, ap, append_assoc, Vec, Global, ℕ}
use Rattle.slub_picks.proofs.faults.picks_end_line.Goals as goal

pub returns : goal.returns
returns c = simp append_assoc (ap (λ (v : Vec ℕ Global). v.items) c.into_bytes.ensures.value ∙ c.in_ok-line.ensures.ok)
