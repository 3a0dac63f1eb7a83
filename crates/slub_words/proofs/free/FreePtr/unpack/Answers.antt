use Rattle.std.proofs.Common.{◌≡◌, refl, arith, bit_and}
use Rattle.std.proofs.lemmas.Nat.{and_mask}
use Rattle.slub_words.specs.Words.{freelist_ptr}
use Rattle.slub_words.proofs.Pointers.{come_back}
use Rattle.slub_words.proofs.free.FreePtr.unpack.Goals as goal

pub returns-clause-again : goal.returns-clause-again
returns-clause-again c = λ whole.
    let low : bit_and c.freelist_ptr.result 65535 ≡ freelist_ptr c.args.word c.args.random c.args.place =
    rw c.freelist_ptr.ensures (omega (arith, whole, and_mask (freelist_ptr c.args.word c.args.random c.args.place) 16)) in
    rw (low, come_back) refl
