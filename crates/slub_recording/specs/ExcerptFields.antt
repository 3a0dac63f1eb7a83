-- The fields of an excerpt are those of its text.
use Rattle.std.specs.Prelude.{◌≡◌, ℕ, ◌-◌, ◌≤◌, List, ◌++◌, take, drop, length, replicate, refl}
use Rattle.std.proofs.Common.{arith}
use Rattle.std.proofs.lemmas.List.{take-append-drop, length-take-le}
use Rattle.slub_recording.specs.declared.excerpt.Excerpt.TheInside.{Inside}

fields_again_of : (a : Inside) (n : ℕ) (bytes : List ℕ) → n ≡ a.len → bytes ≡ a.bytes
    → (let b : Inside = record { len = n; bytes = bytes } in b ≡ a)
fields_again_of a n bytes is same = rw (is, same) refl

pub fields_again : (a : Inside) → a.len ≤ 31 → length a.bytes ≡ 31
    → drop a.len a.bytes ≡ replicate (31 - a.len) 0
    → (let b : Inside = record {
      len = length (take a.len a.bytes);
      bytes = take a.len a.bytes ++ replicate (31 - length (take a.len a.bytes)) 0;
    } in b ≡ a)
fields_again a short whole rest =
    let count : length (take a.len a.bytes) ≡ a.len = length-take-le a.len a.bytes (omega arith) in
    let again : take a.len a.bytes ++ replicate (31 - length (take a.len a.bytes)) 0 ≡ a.bytes =
    rw count (rw (← rest) (take-append-drop a.len a.bytes)) in
    fields_again_of a _ _ count again
