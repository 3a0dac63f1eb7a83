-- What kind of answer a reply is.
use Rattle.std.specs.Prelude.{Bool, true, false}
use Rattle.slub_trace.specs.declared.reply.Reply.{Reply}
use Rattle.slub_trace.specs.declared.reply.Reply.TheVariants as reply
use Rattle.slub_trace.specs.declared.reply.Kind.{Kind}
use Rattle.slub_trace.specs.declared.reply.Kind.TheVariants.{Gives, Frees, Does, LacksFrames, LacksMemory, Refuses}

-- the kind of a reply
abbrev pub kind_of : Reply → Kind
kind_of (reply.Given address) = Gives
kind_of (reply.Freed address) = Frees
kind_of reply.Wrote = Does
kind_of (reply.Value value) = Does
kind_of reply.Poked = Does
kind_of (reply.Trimmed slabs) = Does
kind_of (reply.Flushed slabs) = Does
kind_of reply.NoFrames = LacksFrames
kind_of reply.NoMemory = LacksMemory
kind_of _ = Refuses

abbrev pub gives : Kind → Bool
gives Gives = true
gives _ = false

abbrev pub frees : Kind → Bool
frees Frees = true
frees _ = false

abbrev pub lacks_frames : Kind → Bool
lacks_frames LacksFrames = true
lacks_frames _ = false

abbrev pub lacks_memory : Kind → Bool
lacks_memory LacksMemory = true
lacks_memory _ = false

-- nothing was lacking and nothing refused
abbrev pub is_ok : Kind → Bool
is_ok LacksFrames = false
is_ok LacksMemory = false
is_ok Refuses = false
is_ok _ = true

-- an object was given
abbrev pub is_given : Reply → Bool
is_given answer = gives (kind_of answer)

-- an object was freed
abbrev pub is_freed : Reply → Bool
is_freed answer = frees (kind_of answer)

-- no run of frames was there
abbrev pub is_no_frames : Reply → Bool
is_no_frames answer = lacks_frames (kind_of answer)

-- no memory was there
abbrev pub is_no_memory : Reply → Bool
is_no_memory answer = lacks_memory (kind_of answer)

-- a reply that is Ok: its line is written with `--replies` alone
abbrev pub is_ok_reply : Reply → Bool
is_ok_reply answer = is_ok (kind_of answer)
