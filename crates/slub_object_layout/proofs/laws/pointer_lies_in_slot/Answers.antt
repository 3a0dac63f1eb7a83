use Rattle.std.proofs.Common.{arith}
use Rattle.slub_object_layout.proofs.Slots.{mul-words}
use Rattle.slub_object_layout.proofs.laws.pointer_lies_in_slot.Goals as goal

pub returns-clause-address_in_words : goal.returns-clause-address_in_words
returns-clause-address_in_words c = λ index.
    omega (arith, mul-words index c.args.layout.now.size c.requires.size_in_words, c.requires.left_pad_in_words)
