-- The machine once a round is closed: what the workers hold is put on the board.
use Rattle.std.specs.Prelude.{◌≡◌, ℕ, ◌+◌, if◌then◌else◌, List, [], ◌∷◌, Contains, Option, Some, None}
use Rattle.slub_words.specs.declared.board.BoardWord.{BoardWord}
use Rattle.slub_trace.specs.declared.reply.Reply.TheVariants.{Given}
use Rattle.slub_core.specs.declared.local.Known.{Known}
use Rattle.slub_core.specs.declared.local.Answered.{Answered}
use Rattle.slub_core.specs.Calls.{call_cache, call_object}
use Rattle.slub_core.specs.World.{World}
use Rattle.slub_core.specs.Local.{Local}
use Rattle.slub_core.specs.Replies.{address_on}
use Rattle.slub_core.specs.Accounted.{boarded, known_of}
use Rattle.slub_core.specs.Round.{given_over, freed_over}

abbrev pub word_of : Known → BoardWord
word_of k = record { frame = k.frame; index = k.index; cache = k.cache }

-- what the first worker that holds the number has under it
abbrev pub held_by : List Local → ℕ → Option BoardWord
held_by [] o = None
held_by (l ∷ ls) o = let k = known_of l.known o in if k.held then Some (word_of k) else held_by ls o

abbrev pub or_held : Option BoardWord → Option BoardWord → Option BoardWord
or_held None held = held
or_held (Some b) held = Some b

abbrev pub closed : World → List Local → World
closed w ls = record w { board = λ o. or_held (w.board o) (held_by ls o) }

-- a worker was answered that the number was given this address, of the cache that it asked for
abbrev pub WasGiven : ℕ → ℕ → ℕ → List Answered → Type 0
WasGiven o cache address ds =
    (d : Answered) × Contains ds d × (call_object d.call ≡ o) × (call_cache d.call ≡ Some cache)
    × (d.reply ≡ Given address)

-- the board after, by the board before and the replies of each worker
pub record IsBoardAfter (before after : World) (dones : List (List Answered)) : Type 0 where
  -- on it is what was on it or was given, and wasn't freed
  pub numbers : (o : ℕ) → boarded (after.board o) + freed_over o dones
      ≡ boarded (before.board o) + given_over o dones
  -- a number that was on it stands for the object of the same address and cache
  pub stays : (o : ℕ) (b c : BoardWord) → before.board o ≡ Some b → after.board o ≡ Some c
      → (address_on after.setup (Some c) ≡ address_on after.setup (Some b)) × (c.cache ≡ b.cache)
  -- one that comes stands for an object that a worker was given under it
  pub comes : (o : ℕ) (c : BoardWord) → before.board o ≡ None → after.board o ≡ Some c
      → (ds : List Answered) × Contains dones ds × (a : ℕ)
      × (address_on after.setup (Some c) ≡ Some a) × WasGiven o c.cache a ds
