use Rattle.std.proofs.Common.{◌≡◌, ◌*◌, ◌<◌, length, ap, sym, ◌∙◌, subst, arith}
use Rattle.std.proofs.lemmas.List.{ext_get_or}
use Rattle.slub_core.specs.Values.{values_of}
use Rattle.slub_open_close.specs.declared.opened.Rest.{Rest}
use Rattle.slub_open_close.specs.Closing.{IsWrittenBack, IsPutTogether}
use Rattle.slub_open_close.proofs.Ended.{sizes, may-take, is-closed}
use Rattle.slub_open_close.proofs.closing.close.Goals as goal

pub write_lists-requires : goal.write_lists-requires
write_lists-requires c =
    let z = c.requires in
    sizes c.args.setup.now c.args.table c.args.values.items c.args.rest c.args.locals.now z.0 z.1 z.2 z.3

pub put_together-requires : goal.put_together-requires
put_together-requires c =
    let z = c.requires in
    let kept = c.write_lists.ensures.rest in
    may-take c.args.setup.now c.args.table c.args.values.items c.args.rest c.args.locals.now z.0 z.1 z.2 z.3 c.write_lists.new.rest
    (ap (λ (r : Rest). r.nodes) kept) (ap (λ (r : Rest). r.kept) kept) (ap (λ (r : Rest). length r.checked.items) kept)

pub returns : goal.returns
returns c = λ s b world ended.
    let new = c.write_lists.new.rest in
    let memory = c.into_memory.result in
    let same : c.memory.result.now ≡ memory =
    ext_get_or 0 c.memory.result.now memory (c.memory.ensures.count ∙ sym c.into_memory.ensures.count)
    (λ at below. let inside : at < 512 * c.args.table.frames = omega (arith, below, c.memory.ensures.count) in c.memory.ensures.words at inside ∙ sym (c.into_memory.ensures.words at inside)) in
    let written : IsWrittenBack c.args.setup.now c.args.table.words memory (values_of c.args.values.items) c.args.locals.now c.args.rest new =
    subst (λ ws. IsWrittenBack c.args.setup.now c.args.table.words ws (values_of c.args.values.items) c.args.locals.now c.args.rest new) same
    (subst (λ vs. IsWrittenBack c.args.setup.now c.args.table.words c.memory.result.now (values_of vs) c.args.locals.now c.args.rest new) c.deref.ensures.value c.write_lists.ensures) in
    let put : IsPutTogether c.args.setup.now.step (values_of c.args.values.items) new memory c.put_together.result.0 c.put_together.result.1 =
    subst (λ n. IsPutTogether n (values_of c.args.values.items) new memory c.put_together.result.0 c.put_together.result.1) c.step.ensures.step c.put_together.ensures in
    is-closed c.args.setup.now c.args.table c.args.values.items c.args.rest c.args.locals.now s b world ended new memory c.put_together.result.0 c.put_together.result.1 c.into_memory.ensures.count c.into_memory.ensures.words written put
