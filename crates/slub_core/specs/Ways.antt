-- What the paths look at and leave, without the machine.
use Rattle.std.specs.Prelude.{ℕ, ◌+◌, ◌-◌, ◌*◌, ◌^◌, ◌<◌, Bool, nat_lt, List, Option}
use Rattle.slub_words.specs.declared.cpu.CpuWord.{CpuWord}
use Rattle.slub_trace.specs.declared.reply.Reply.{Reply}
use Rattle.slub_core.specs.Local.{Local, Turn, Change}
use Rattle.slub_core.specs.declared.guarded.Guarded.{Guarded}
use Rattle.slub_core.specs.Values.{values_of}

-- a worker after a step, and the reply that its call has by it
abbrev pub turned : Local → Option Reply → Turn
turned l reply = record { local = l; reply = reply }

-- no object is taken or put under a spent transaction id, where each change adds `step` to it
abbrev pub is_spent_by : ℕ → CpuWord → Bool
is_spent_by step c = nat_lt (4294967295 - 2 * step) c.tid

-- the word with its transaction id raised and this slab
abbrev pub raised_word : ℕ → Local → ℕ → ℕ → CpuWord
raised_word step l frame head =
    record { tid = l.cpu_word.tid + step; frame = frame; head = head }

-- the transaction id of the noted word has room for a step
abbrev pub HasTid : ℕ → Local → Type 0
HasTid step l = l.cpu_word.tid + step < 2 ^ 32

-- the values of the locks and a worker after what is done at once, and the reply
abbrev pub changed : List Guarded → Local → Option Reply → Change
changed guarded l reply = record { value = values_of guarded; local = l; reply = reply }
