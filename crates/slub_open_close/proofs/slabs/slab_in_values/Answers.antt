use Rattle.std.proofs.Common.{◌≡◌, suc, ◌+◌, refl, ap, ◌∙◌, arith}
use Rattle.std.specs.Option.{option_or}
use Rattle.slub_core.specs.Values.{values_of}
use Rattle.slub_open_close.specs.Reads.{slab_in_value, slab_in_values}
use Rattle.slub_open_close.proofs.slabs.slab_in_values.Goals as goal

pub loop-lock-init : goal.loop-lock-init
unfolding slab_in_values
loop-lock-init c = refl

pub loop-lock-preserved : goal.loop-lock-preserved
unfolding slab_in_values
loop-lock-preserved c =
    c.or-found.ensures
    ∙ ap (λ o. option_or o c.loop-lock.found) c.slab_behind.ensures
    ∙ ap (option_or (slab_in_value c.loop-lock.lock (values_of c.args.values.now c.loop-lock.lock) c.args.frame)) c.loop-lock.invariant
    ∙ ap (λ n. slab_in_values (values_of c.args.values.now) n c.args.frame) (let e : suc c.loop-lock.lock ≡ c.loop-lock.lock + 1 = omega arith in e)
