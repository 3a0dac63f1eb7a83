use Rattle.std.proofs.Common.{◌≡◌, ◌∙◌, Some, None, get_or, ap, sym, subst, arith}
use Rattle.std.proofs.lemmas.Grind.{common_steps}
use Rattle.slub_red_zone.specs.declared.checked.Slot.{Slot}
use Rattle.slub_red_zone.specs.State.{IsUsed}
use Rattle.slub_red_zone.specs.Steps.{word_of as slab_word_of}
use Rattle.slub_lists.specs.State.{State}
use Rattle.slub_lists.specs.Alloc.{checked_of}
use Rattle.slub_lists.proofs.ObjectWords.{cache-inside, memory-read, place-inside-slab, read-inside, slab-read, used-word}
use Rattle.slub_list_machine.proofs.lists.Lists.word.Goals as goal

-- of a checked cache the object is used
pub word-requires-clause-used : goal.word-requires-clause-used
word-requires-clause-used c =
    let was : checked_of c.args.self.now c.args.held.now.cache ≡ Some c.in-Some.slabs = grind (arith, common_steps) in
    subst (λ (slot : Slot). IsUsed c.in-Some.slabs slot) (sym c.slot_of.ensures) (used-word c.args.self.now c.args.held.now c.args.layout.now c.requires.held c.requires.live c.requires.coherent c.args.word c.requires.word c.in-Some.slabs was).0

pub word-requires-clause-inside : goal.word-requires-clause-inside
word-requires-clause-inside c =
    let was : checked_of c.args.self.now c.args.held.now.cache ≡ Some c.in-Some.slabs = grind (arith, common_steps) in
    (used-word c.args.self.now c.args.held.now c.args.layout.now c.requires.held c.requires.live c.requires.coherent c.args.word c.requires.word c.in-Some.slabs was).1

pub returns-in-Some : goal.returns-in-Some
returns-in-Some c =
    let read = subst (λ (s : State). c.index.result.now ≡ get_or s.checked c.args.held.now.cache c.index.result.now) c.self.view_is c.index.ensures in
    let was : checked_of c.args.self.now c.args.held.now.cache ≡ Some c.in-Some.slabs = sym (read-inside c.args.self.now.checked c.args.held.now.cache c.index.result.now None (cache-inside c.args.self.now c.args.held.now c.requires.held c.requires.coherent) read) ∙ c.in-Some.is in
    c.word.ensures.word ∙ ap (λ (slot : Slot). slab_word_of c.in-Some.slabs slot c.args.word) c.slot_of.ensures ∙ slab-read c.args.self.now c.args.layout.now c.args.held.now c.args.word c.in-Some.slabs was

-- any other has its words in the frames
pub word_at-requires-clause-inside : goal.word_at-requires-clause-inside
word_at-requires-clause-inside c = place-inside-slab c.args.self.now c.args.held.now c.args.layout.now c.requires.held c.requires.live c.requires.coherent

pub returns-in-None : goal.returns-in-None
returns-in-None c =
    let read = subst (λ (s : State). c.index.result.now ≡ get_or s.checked c.args.held.now.cache c.index.result.now) c.self.view_is c.index.ensures in
    let none : checked_of c.args.self.now c.args.held.now.cache ≡ None = sym (read-inside c.args.self.now.checked c.args.held.now.cache c.index.result.now None (cache-inside c.args.self.now c.args.held.now c.requires.held c.requires.coherent) read) ∙ c.in-None.is in
    let value = subst (λ (s : State). c.read.result ≡ get_or s.memory c.word_at.result 0) c.self.view_is c.read.ensures in
    value ∙ ap (λ n. get_or c.args.self.now.memory n 0) c.word_at.ensures ∙ memory-read c.args.self.now c.args.layout.now c.args.held.now c.args.word none
