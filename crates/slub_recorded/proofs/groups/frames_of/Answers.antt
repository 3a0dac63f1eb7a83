use Rattle.std.proofs.Common.{◌≡◌, refl, ℕ, ◌*◌, ◌%◌, ◌^◌, ◌<◌, ap, subst, ◌∙◌, arith}
use Rattle.std.specs.Int.{div_ceil}
use Rattle.slub_recorded.proofs.Framed.{too_many, shifted, some_frames}
use Rattle.slub_recorded.proofs.groups.frames_of.Goals as goal

pub returns-then-slabs-from-clause-need : goal.returns-then-slabs-from-clause-need
returns-then-slabs-from-clause-need c =
    let layout = c.in-Ok.layout in
    let slabs : c.div_ceil-slabs.result ≡ div_ceil c.args.cache.now.most layout.objects = c.div_ceil-slabs.ensures ∙ ap (div_ceil c.args.cache.now.most) c.from.ensures in
    let many : 4095 < c.div_ceil-slabs.result = omega (arith, c.if-slabs-from.true, c.from-2.ensures) in
    let more = some_frames (div_ceil c.args.cache.now.most layout.objects) layout.order c.in-Ok.ensures.bounds.order in
    too_many c.args.cpus c.args.cache.now layout c.in-Ok.ensures.solved (omega (arith, slabs, many, more))

pub returns-then-frames-gt-SLABS_MAX-clause-need : goal.returns-then-frames-gt-SLABS_MAX-clause-need
returns-then-frames-gt-SLABS_MAX-clause-need c =
    let layout = c.in-Ok.layout in
    let slabs : c.div_ceil-slabs.result ≡ div_ceil c.args.cache.now.most layout.objects = c.div_ceil-slabs.ensures ∙ ap (div_ceil c.args.cache.now.most) c.from.ensures in
    let frames : c.div_ceil-slabs.result * (1 * 2 ^ layout.order % 4294967296) ≡ div_ceil c.args.cache.now.most layout.objects * 2 ^ layout.order = λ i. slabs i * shifted layout.order c.in-Ok.ensures.bounds.order i in
    let P : ℕ → Type 0 = λ n. 4095 < n in
    too_many c.args.cpus c.args.cache.now layout c.in-Ok.ensures.solved (subst P frames c.if-frames-gt-SLABS_MAX.true)

pub returns-else-frames-gt-SLABS_MAX-clause-need : goal.returns-else-frames-gt-SLABS_MAX-clause-need
returns-else-frames-gt-SLABS_MAX-clause-need c =
    let layout = c.in-Ok.layout in
    let slabs : c.div_ceil-slabs.result ≡ div_ceil c.args.cache.now.most layout.objects = c.div_ceil-slabs.ensures ∙ ap (div_ceil c.args.cache.now.most) c.from.ensures in
    record {
      layout = layout;
      accepted = c.in-Ok.ensures.accepted.0 refl;
      laid = c.in-Ok.ensures.solved;
      frames_are = λ i. slabs i * shifted layout.order c.in-Ok.ensures.bounds.order i;
      few = c.if-frames-gt-SLABS_MAX.false;
    }
