-- What a call asks for, by its kind.
use Rattle.std.specs.Prelude.{ℕ, Option, None, ℤ, pos}
use Rattle.slub_core.specs.declared.call.Call.{Call}
use Rattle.slub_core.specs.declared.call.Call.TheVariants as call
use Rattle.slub_core.specs.declared.call.CallKind.{CallKind}
use Rattle.slub_core.specs.declared.call.CallKind.TheVariants.{Alloc, Free, Write, Read, Poke, Trim, Flush}

abbrev pub call_kind : Call → CallKind
call_kind (call.Alloc cpu cache object place) = Alloc
call_kind (call.Free cpu object place) = Free
call_kind (call.Write object place word value) = Write
call_kind (call.Read object place word) = Read
call_kind (call.Poke object place offset byte) = Poke
call_kind (call.Trim cache) = Trim
call_kind (call.Flush cpu) = Flush

-- the live cache that an allocation or a trim names; no other call names one
abbrev pub call_cache : Call → Option ℕ
call_cache (call.Alloc cpu cache object place) = cache
call_cache (call.Trim cache) = cache
call_cache _ = None

-- Each of the others is a number for every call, so that laws and proofs can speak of it before
-- they know the kind. Where the kind doesn't ask for it, it is 0, on which nothing rests: no call
-- has such a 0, and the code takes what it needs from a call of its kind.

-- the CPU of an allocation, a free and a flush
abbrev pub call_cpu : Call → ℕ
call_cpu (call.Alloc cpu cache object place) = cpu
call_cpu (call.Free cpu object place) = cpu
call_cpu (call.Flush cpu) = cpu
call_cpu _ = 0

-- the object number of all but a trim and a flush, and the object's place among those that the
-- worker knows
abbrev pub call_object : Call → ℕ
call_object (call.Alloc cpu cache object place) = object
call_object (call.Free cpu object place) = object
call_object (call.Write object place word value) = object
call_object (call.Read object place word) = object
call_object (call.Poke object place offset byte) = object
call_object _ = 0

abbrev pub call_place : Call → ℕ
call_place (call.Alloc cpu cache object place) = place
call_place (call.Free cpu object place) = place
call_place (call.Write object place word value) = place
call_place (call.Read object place word) = place
call_place (call.Poke object place offset byte) = place
call_place _ = 0

-- the word of the object that is written or read
abbrev pub call_word : Call → ℕ
call_word (call.Write object place word value) = word
call_word (call.Read object place word) = word
call_word _ = 0

-- what is written there
abbrev pub call_value : Call → ℕ
call_value (call.Write object place word value) = value
call_value _ = 0

-- where a byte is poked, counted from the object's address
abbrev pub call_offset : Call → ℤ
call_offset (call.Poke object place offset byte) = offset
call_offset _ = pos 0

-- and which byte
abbrev pub call_byte : Call → ℕ
call_byte (call.Poke object place offset byte) = byte
call_byte _ = 0
