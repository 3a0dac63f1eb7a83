use Rattle.std.proofs.Common.{◌≡◌, ◌∙◌, get_or, ap, arith}
use Rattle.std.proofs.lemmas.Grind.{common_steps}
use Rattle.slub_object_layout.specs.Layout.{address_of}
use Rattle.slub_trace.specs.declared.reply.Reply.TheVariants.{Given}
use Rattle.slub_lists.specs.Alloc.{lists_of}
use Rattle.slub_lists.proofs.Coherence.{consistent-at}
use Rattle.slub_lists.proofs.Giving.{cache-within, count-room, current-of, first-of, frame-most, index-most, unheld, with_given-consistent}
use Rattle.slub_list_machine.proofs.lists.Lists.give.Goals as goal

-- a cache counts at most the object numbers
pub overflow_add-index_mut : goal.overflow_add-index_mut
overflow_add-index_mut c =
    let within = cache-within c.args.self.now c.args.cache c.args.layout.now c.requires.consistent c.requires.live in
    let live = c.requires.consistent.shaped.live in
    let counted : c.index_mut-2.result.now ≡ get_or c.args.self.now.live c.args.cache 0 = grind (arith, common_steps) in
    let room = count-room c.args.self.now c.args.cache c.requires.consistent in
    omega arith

-- the current slab is one of the machine's, and the object one of the slab's
pub address-requires-clause-frame : goal.address-requires-clause-frame
address-requires-clause-frame c =
    let now : c.index_mut-lists.result.now ≡ lists_of c.args.self.now c.args.cache c.args.cpu = grind (arith, common_steps) in
    let current = current-of c.index_mut-lists.result.now (lists_of c.args.self.now c.args.cache c.args.cpu) c.in-Some-Some.frame now c.in-Some-Some.is-0 in
    let first = first-of c.index_mut-lists.result.now (lists_of c.args.self.now c.args.cache c.args.cpu) c.in-Some-Some.index c.pop.new.self now c.in-Some-Some.ensures.popped in
    omega (arith, c.from.ensures, frame-most c.args.self.now c.args.cache c.args.layout.now c.requires.consistent c.requires.live c.args.cpu c.in-Some-Some.frame c.in-Some-Some.index c.pop.new.self c.requires.cpu current first)

pub address-requires-clause-index : goal.address-requires-clause-index
address-requires-clause-index c =
    let now : c.index_mut-lists.result.now ≡ lists_of c.args.self.now c.args.cache c.args.cpu = grind (arith, common_steps) in
    let current = current-of c.index_mut-lists.result.now (lists_of c.args.self.now c.args.cache c.args.cpu) c.in-Some-Some.frame now c.in-Some-Some.is-0 in
    let first = first-of c.index_mut-lists.result.now (lists_of c.args.self.now c.args.cache c.args.cpu) c.in-Some-Some.index c.pop.new.self now c.in-Some-Some.ensures.popped in
    omega (arith, c.from-2.ensures, index-most c.args.self.now c.args.cache c.args.layout.now c.requires.consistent c.requires.live c.args.cpu c.in-Some-Some.frame c.in-Some-Some.index c.pop.new.self c.requires.cpu current first)

pub returns-clause-gives : goal.returns-clause-gives
returns-clause-gives c =
    let now : c.index_mut-lists.result.now ≡ lists_of c.args.self.now c.args.cache c.args.cpu = grind (arith, common_steps) in
    let current = current-of c.index_mut-lists.result.now (lists_of c.args.self.now c.args.cache c.args.cpu) c.in-Some-Some.frame now c.in-Some-Some.is-0 in
    let first = first-of c.index_mut-lists.result.now (lists_of c.args.self.now c.args.cache c.args.cpu) c.in-Some-Some.index c.pop.new.self now c.in-Some-Some.ensures.popped in
    let live = c.requires.consistent.shaped.live in
    let within = cache-within c.args.self.now c.args.cache c.args.layout.now c.requires.consistent c.requires.live in
    record {
      frame = c.in-Some-Some.frame;
      index = c.in-Some-Some.index;
      rest = c.pop.new.self;
      current = current;
      first = first;
      unheld = unheld c.args.self.now c.args.cache c.args.layout.now c.requires.consistent c.requires.live c.args.cpu c.in-Some-Some.frame c.in-Some-Some.index c.pop.new.self c.requires.cpu current first;
      address = ap Given (c.address.ensures ∙ ap (λ f. address_of f c.from-2.result c.args.layout.now) c.from.ensures ∙ ap (λ i. address_of c.in-Some-Some.frame i c.args.layout.now) c.from-2.ensures);
      given = grind (arith, common_steps);
    }

pub returns-clause-consistent : goal.returns-clause-consistent
unfolding returns-clause-gives
returns-clause-consistent c =
    let now : c.index_mut-lists.result.now ≡ lists_of c.args.self.now c.args.cache c.args.cpu = grind (arith, common_steps) in
    let current = current-of c.index_mut-lists.result.now (lists_of c.args.self.now c.args.cache c.args.cpu) c.in-Some-Some.frame now c.in-Some-Some.is-0 in
    let first = first-of c.index_mut-lists.result.now (lists_of c.args.self.now c.args.cache c.args.cpu) c.in-Some-Some.index c.pop.new.self now c.in-Some-Some.ensures.popped in
    let given = returns-clause-gives c in
    consistent-at _ _ given.given (with_given-consistent c.args.self.now c.args.cache c.args.layout.now c.requires.consistent c.requires.live c.args.cpu c.in-Some-Some.frame c.in-Some-Some.index c.pop.new.self c.requires.cpu current first c.args.object c.args.worker c.requires.object c.requires.unused)
