-- What it is to have one outcome.
use Rattle.std.specs.Prelude.{◌≡◌}
use Rattle.slub_trace.specs.declared.reply.Reply.{Reply}
use Rattle.slub_trace.specs.Kinds.{is_no_memory}
use Rattle.slub_lists.specs.State.{State}

-- whatever is answered, and whatever is left: it is the same each time
abbrev pub HasOneOutcome : (Answer Left : Type 0) → (Answer → Left → Type 0) → Type 0
HasOneOutcome Answer Left Does =
    (one other : Answer) (left right : Left) → Does one left → Does other right
    → (one ≡ other) × (left ≡ right)

-- the same of the lists, where memory is wanting both times or neither time: whether memory is
-- there for the bytes of a new slab of a checked cache, the lists do not say
abbrev pub HasOneOutcomeByMemory : (Reply → State → Type 0) → Type 0
HasOneOutcomeByMemory Does =
    (one other : Reply) (left right : State) → is_no_memory one ≡ is_no_memory other
    → Does one left → Does other right → (one ≡ other) × (left ≡ right)
