use Rattle.std.proofs.Common.{◌+◌, ◌*◌, ◌≤◌, length, length-set, set, ap, sym, subst, arith}
use Rattle.std.proofs.lemmas.Grind.{common_steps}
use Rattle.slub_red_zone.specs.declared.checked.Slot.{Slot}
use Rattle.slub_red_zone.specs.State.{IsUsed}
use Rattle.slub_lists.specs.State.{State}
use Rattle.slub_lists.specs.Alloc.{checked_of}
use Rattle.slub_lists.specs.Words.{word_at}
use Rattle.slub_lists.proofs.CheckedFrees.{the-slabs}
use Rattle.slub_lists.proofs.CheckedReplies.{of-slabs}
use Rattle.slub_lists.proofs.ObjectWords.{memory-coherent, place-inside-slab, swaps-coherent, swaps-others, used-word, word-inside}
use Rattle.slub_list_machine.proofs.lists.Lists.set_word.Goals as goal

-- of a checked cache the object is used
pub set_slab_word-requires : goal.set_slab_word-requires
set_slab_word-requires c =
    let slabs = the-slabs (checked_of c.args.self.now c.args.held.now.cache) (c.is_checked.ensures.0 c.if-is_checked.true) in
    of-slabs (checked_of c.args.self.now c.args.held.now.cache) slabs.0 (λ slabs. IsUsed slabs c.slot_of.result × (8 * (c.args.word + 1) ≤ slabs.layout.object_size)) slabs.1
    (subst (λ (slot : Slot). IsUsed slabs.0 slot × (8 * (c.args.word + 1) ≤ slabs.0.layout.object_size)) (sym c.slot_of.ensures)
    (used-word c.args.self.now c.args.held.now c.args.layout.now c.requires.held c.requires.live c.requires.coherent c.args.word c.requires.word slabs.0 slabs.1))

pub returns-then-is_checked-clause-others : goal.returns-then-is_checked-clause-others
returns-then-is_checked-clause-others c = swaps-others c.args.self.now c.set_slab_word.new.self c.args.held.now.cache c.set_slab_word.ensures.slabs c.set_slab_word.ensures.rest c.set_slab_word.ensures.swaps c.set_slab_word.ensures.objects

pub returns-then-is_checked-clause-coherent : goal.returns-then-is_checked-clause-coherent
returns-then-is_checked-clause-coherent c = swaps-coherent c.args.self.now c.set_slab_word.new.self c.args.held.now.cache c.set_slab_word.ensures.slabs c.set_slab_word.ensures.rest c.set_slab_word.ensures.swaps c.set_slab_word.ensures.objects c.requires.coherent

-- any other has its words in the frames
pub word_at-at-requires-clause-inside : goal.word_at-at-requires-clause-inside
word_at-at-requires-clause-inside c = place-inside-slab c.args.self.now c.args.held.now c.args.layout.now c.requires.held c.requires.live c.requires.coherent

pub write-requires : goal.write-requires
write-requires c = omega (arith, word-inside c.args.self.now c.args.held.now c.args.layout.now c.requires.held c.requires.live c.requires.coherent c.args.word c.requires.word, c.word_at-at.ensures, ap (λ (s : State). length s.memory) c.self.view_is)

pub returns-clause-coherent : goal.returns-clause-coherent
returns-clause-coherent c =
    let at = word_at c.args.layout.now c.args.held.now c.args.word in
    memory-coherent c.args.self.now _ (set c.args.self.now.memory at c.args.value) (grind (arith, common_steps)) (length-set c.args.self.now.memory at c.args.value) c.requires.coherent
