use Rattle.std.proofs.Common.{◌≡◌, ◌∙◌, ap, arith, replicate, Option, None}
use Rattle.slub_red_zone.specs.State.{SlabState}
use Rattle.slub_red_zone.specs.Steps.{no_slabs}
use Rattle.slub_red_zone.proofs.slabs.open_places.Goals as goal

pub returns : goal.returns
unfolding no_slabs
returns c = let so : replicate {A = Option SlabState} c.args.frames None ≡ replicate 4096 None = ap (λ n. replicate n None) c.requires in let all : c.loop.counter ≡ c.args.frames = omega (arith, c.loop-test.false, c.loop.auto) in c.loop.invariant ∙ ap (λ n. replicate n None) all ∙ so
