-- What `kmalloc`, `kget` and `krealloc` lines leave of the board.
use Rattle.std.specs.Prelude.{◌≡◌, ◌≢◌, ℕ, [], ◌∷◌, None, IsSome}
use Rattle.slub_lists.specs.State.{State}
use Rattle.slub_lists.specs.Coherent.{held_under}
use Rattle.slub_trace.specs.declared.trace.Client.{Client as Asked}
use Rattle.slub_trace.specs.declared.trace.Client.TheVariants as line
use Rattle.slub_slabinfo_text.specs.declared.client.ClientAnswer.{ClientAnswer}
use Rattle.slub_slabinfo_text.specs.declared.client.ClientAnswer.TheVariants as answer
use Rattle.slub_rounds.specs.BulkLines.{AddsNumbers, address_under}

-- the board before, but that the object of a number is gone, and that a fresh number has one at
-- this address
pub record MovesNumber (s : State) (object fresh address : ℕ) (after : State) : Type 0 where
  pub gone : held_under after object ≡ None
  pub there : IsSome (held_under after fresh)
  pub at : address_under after fresh ≡ address
  pub others : (other : ℕ) → other ≢ object → other ≢ fresh
      → held_under after other ≡ held_under s other

-- after an address a `kget`'s number is there besides; after a move a `krealloc`'s fresh number is
-- there and its other one isn't; after every other answer the board is as it was
abbrev pub LeavesClasses : State → Asked → State → ClientAnswer → Type 0
LeavesClasses s (line.Kget cpu size object) after (answer.Given address) =
    AddsNumbers s (object ∷ []) after × (address_under after object ≡ address)
LeavesClasses s (line.Krealloc cpu object size fresh) after (answer.Moved address) =
    MovesNumber s object fresh address after
LeavesClasses s client after _ = (object : ℕ) → held_under after object ≡ held_under s object
