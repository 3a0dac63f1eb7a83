use Rattle.std.proofs.Common.{◌∙◌, refl}
use Rattle.slub_recording.proofs.Excerpts.{filled, shown}
use Rattle.slub_recording.proofs.excerpt.Excerpt.new.Goals as goal

pub invariant_of-result : goal.invariant_of-result
invariant_of-result c =
    filled c.front-text.result.now _ _ c.copy_from_slice.ensures.after refl c.front-text.ensures.within

pub returns : goal.returns
returns c = shown c.front-text.result.now _ _ c.copy_from_slice.ensures.after ∙ c.front-text.ensures.front
