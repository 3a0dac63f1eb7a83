use Rattle.std.proofs.Common.{◌≡◌, take, fold}
use Rattle.slub_calls.specs.NumberHasher.{byte_added}
use Rattle.slub_calls.proofs.number_hasher.NumberHasherHasher.write.Given as goal

abbrev pub invariant-loop-byte : goal.invariant-loop-byte
invariant-loop-byte l = l.self.number ≡ fold byte_added l.initial.self.number (take l.byte-index l.bytes)
