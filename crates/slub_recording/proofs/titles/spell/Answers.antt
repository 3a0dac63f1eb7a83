use Rattle.std.proofs.Common.{◌+◌, ◌∙◌, ap, arith, length, length-set, refl, set, take}
use Rattle.slub_recording.specs.Names.{first_of}
use Rattle.slub_recording.proofs.TitleBytes.{name_more, named}
use Rattle.slub_recording.proofs.titles.spell.Goals as goal

pub loop-i-preserved : goal.loop-i-preserved
loop-i-preserved c = (
  ap (λ v. take (c.loop-i.i + 1 + 1) (set c.loop-i.text (c.loop-i.i + 1) v)) c.later.ensures
      ∙ name_more c.loop-i.text c.args.rest.now c.loop-i.i (first_of c.args.c) (omega (arith, c.loop-i-test.true, c.loop-i.invariant.1, c.requires)) c.loop-i-test.true c.loop-i.invariant.0,
  simp length-set c.loop-i.invariant.1,
)

pub returns : goal.returns
returns c =
    named c.loop-i.text c.args.rest.now (take (length c.args.rest.now + 1) c.loop-i.text) c.args.c c.loop-i.i c.read_bytes.result c.requires c.loop-i-test.false c.loop-i.auto.i-end c.loop-i.invariant.0 refl c.read_bytes.ensures
