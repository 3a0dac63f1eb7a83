use Rattle.std.proofs.Common.{◌≡◌, Some, None, false, refl, sym, ◌∙◌, arith}
use Rattle.slub_lists.proofs.ObjectWords.{read-inside}
use Rattle.slub_list_machine.specs.Parts.{state_of}
use Rattle.slub_lists.specs.Alloc.{slab_of, own_free, checked_of}
use Rattle.slub_open_close.proofs.Small.{own-head, plain-number, none-is}
use Rattle.slub_open_close.proofs.classes.slab_number.Goals as goal

pub plain_number-requires-clause-head : goal.plain_number-requires-clause-head
plain_number-requires-clause-head c =
    own-head (state_of c.args.parts.now) c.args.frame c.requires.consistent

pub returns-in-Some : goal.returns-in-Some
returns-in-Some c =
    let slab : slab_of (state_of c.args.parts.now) c.args.frame ≡ Some c.in-Some.slab =
    sym (read-inside c.args.parts.now.slabs.items c.args.frame c.index.result.now None (omega (arith, c.requires.frame, c.requires.consistent.shaped.slabs)) c.index.ensures) ∙ c.in-Some.is in
    let unchecked : checked_of (state_of c.args.parts.now) c.in-Some.slab.cache ≡ None = none-is (checked_of (state_of c.args.parts.now) c.in-Some.slab.cache) (sym c.is_checked.ensures ∙ (let e : c.is_checked.result ≡ false = grind (arith, c.if-not-is_checked) in e)) in
    c.plain_number.ensures ∙ plain-number (state_of c.args.parts.now) c.args.frame c.in-Some.slab (own_free (state_of c.args.parts.now) c.args.frame) c.args.listed c.requires.consistent slab unchecked refl c.requires.listed
