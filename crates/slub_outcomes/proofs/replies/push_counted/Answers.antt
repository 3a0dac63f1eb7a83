use Rattle.std.proofs.Common.{◌≡◌, ◌++◌, get_or, List, ℕ, OnOk, subst, sym}
use Rattle.slub_trace.specs.declared.trace.Item.{Item}
use Rattle.slub_trace.specs.Sound.{IsSoundItem}
use Rattle.slub_outcomes.proofs.Counts.{counted-after, counted-before}
use Rattle.slub_outcomes.proofs.replies.push_counted.Goals as goal

pub returns-then-number-span : goal.returns-then-number-span
returns-then-number-span c = counted-before c.args.span.now c.args.trace.now c.args.number c.args.done.now c.args.text.now.items c.if-number-span.true

pub push_several-requires : goal.push_several-requires
push_several-requires c =
    let at : c.index-as_slice-number.result ≡ get_or c.args.trace.now.items c.args.number c.index-as_slice-number.result = rw (← c.as_slice.ensures) c.index-as_slice-number.is in
    subst (λ (item : Item). IsSoundItem c.args.trace.now item) (sym at) (c.requires.sound.items c.args.number c.index-as_slice-number.result c.requires.within)

pub returns : goal.returns
returns c =
    let at : c.index-as_slice-number.result ≡ get_or c.args.trace.now.items c.args.number c.index-as_slice-number.result = rw (← c.as_slice.ensures) c.index-as_slice-number.is in
    let counted = counted-after c.args.span.now c.args.trace.now c.args.number c.index-as_slice-number.result c.args.done.now c.if-number-span.false c.requires.within at in
    subst (λ (line : List ℕ). OnOk c.push_several.result (c.push_several.new.text.items ≡ c.args.text.now.items ++ line)) counted c.push_several.ensures
