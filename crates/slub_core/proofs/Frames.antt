-- What a change of one class of words leaves as it was.
use Rattle.std.proofs.Common.{ℕ, Option}
use Rattle.slub_words.specs.declared.board.BoardWord.{BoardWord}
use Rattle.slub_core.specs.World.{World, Chains, LockValue, set_lock, set_board, set_memory, set_value}
use Rattle.slub_core.specs.Listed.{IsShaped}
use Rattle.slub_core.specs.Fresh.{IsWorded}

pub shaped-lock : (w : World) (n v : ℕ) (y : Chains) → IsShaped w y → IsShaped (set_lock w n v) y
shaped-lock w n v y s = assumption

pub shaped-memory : (w : World) (p v : ℕ) (y : Chains) → IsShaped w y → IsShaped (set_memory w p v) y
shaped-memory w p v y s = assumption

pub worded-lock : (w : World) (n v : ℕ) → IsWorded w → IsWorded (set_lock w n v)
worded-lock w n v s = assumption

pub worded-memory : (w : World) (p v : ℕ) → IsWorded w → IsWorded (set_memory w p v)
worded-memory w p v s = assumption

pub worded-board : (w : World) (n : ℕ) (v : Option BoardWord) → IsWorded w → IsWorded (set_board w n v)
worded-board w n v s = assumption

pub worded-value : (w : World) (n : ℕ) (v : LockValue) → IsWorded w → IsWorded (set_value w n v)
worded-value w n v s = assumption
