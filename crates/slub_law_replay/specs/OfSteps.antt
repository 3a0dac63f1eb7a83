-- A round is a run of atomic steps of its workers, whatever the way.
use Rattle.std.specs.Prelude.{◌≡◌, ◌≢◌, ℕ, ◌≤◌, true, List, ◌++◌, length, reverse, Option, Some, All, ⊤}
use Rattle.std.specs.List.{zip}
use Rattle.slub_trace.specs.declared.event.Round.{Round}
use Rattle.slub_trace.specs.Sound.{allocated, is_written}
use Rattle.slub_lists.specs.declared.lists.Held.{Held}
use Rattle.slub_lists.specs.State.{State}
use Rattle.slub_lists.specs.Coherent.{all_on_board, held_under}
use Rattle.slub_core.specs.Setup.{Setup}
use Rattle.slub_core.specs.Law.{replies_of}
use Rattle.slub_core.specs.Run.{System, Pick, run}
use Rattle.slub_law_opening.specs.Opening.{Beside, setup_of}
use Rattle.slub_slabinfo_text.specs.declared.journal.RoundResult.{RoundResult}
use Rattle.slub_law_alone.specs.Alone.{HasWord}
use Rattle.slub_law_alone.specs.Rounds.{HasMemory}
use Rattle.slub_rounds.specs.InOrder.{AreInOrder}
use Rattle.slub_law_rounds.specs.Contents.{KeepsContents}
use Rattle.slub_rounds.specs.Rounds.{DoesRoundBySteps, Finishes, system_begun, world_before}
use Rattle.slub_law_replay.specs.declared.way.Way.{Way}
use Rattle.slub_law_replay.specs.declared.way.Way.TheVariants.{Serial}
use Rattle.slub_law_replay.specs.Causes.{HaveRightCauses, HaveWants}
use Rattle.slub_law_replay.specs.Ways.{AreLeft, ids_before}

-- ---- the steps

-- a round is done in the order of the text: every one of a serial replay, and one of one worker in
-- every way
abbrev pub IsInText : Way → Round → Type 0
IsInText Serial round = ⊤
IsInText _ round = round.workers ≤ 1

-- after these picks each worker is finished, and no call is a try; in the order of the text each
-- event is done to its end before the next one begins
pub record EndsBy (way : Way) (round : Round) (m : Setup) (first : System) (picks : List Pick)
    (last : System) : Type 0 where
  pub finishes : Finishes m first picks last
  pub in_order : IsInText way round → AreInOrder m round.events first picks

-- ---- what they leave

-- with all objects on the board these lists are those after the round, but for words of frames. The
-- words of an object that the round didn't allocate are the same too, and so are those that the
-- holder of an object wrote since it was given. Any other word of it nobody knows
pub record AreLeftBut (round : Round) (lists after : State) : Type 0 where
  pub same : after ≡ record (all_on_board lists) { memory = after.memory }
  pub sized : length after.memory ≡ length lists.memory
  pub old : (object word : ℕ) (held : Held) → held_under lists object ≡ Some held
      → All (λ event. allocated event.act ≢ Some object) (reverse round.events)
      → HasWord lists after held word
  pub words : (worker object word : ℕ) (held : Held) → held_under lists object ≡ Some held
      → held.worker ≡ Some worker
      → is_written (reverse round.events) worker object word ≡ true
      → HasWord lists after held word

-- ---- contents

-- after each of these turns of the round, in checked caches: each damage and each report that was
-- told since its begin is of a byte that stood there before, or that a poke put there; an object is
-- set aside only with such a report of its slab; and a byte that was read is the one that its worker
-- put there last, or a poke under another number, or where it put none, one that came there
abbrev pub HasContentsAlong : State → Beside → Round → List Pick → Type 0
HasContentsAlong s b round picks =
    (front rest : List Pick) → picks ≡ front ++ rest
    → let here = run (setup_of s b) (system_begun s b round) front in
    KeepsContents (setup_of s b) (world_before s b round) here.value (replies_of here)

-- ---- the run

-- the workers make steps from the lists before the round, and the ids beside them; before each step
-- and after the last one the machine is coherent. The replies, the damages and the ledgers are
-- those of the steps, and so are the lists and the ids that are left
-- In it bytes of checked caches come from where they may, after any of its turns. Each answer of a
-- poke has its cause, and so has each transaction id that was found spent; where frames lacked, the
-- pool had none after some of the turns, and where a poke found no object that its worker knows, the
-- object's slab was gone
pub record IsRunOfSteps (way : Way) (s : State) (ids : Option (List ℕ)) (round : Round)
    (result : RoundResult) (after : State) (left : Option (List ℕ)) : Type 0 where
  pub boarded : State
  pub ids_after : List ℕ
  pub steps : DoesRoundBySteps (EndsBy way round) s (ids_before s ids) round result boarded
      ids_after
  pub contents : HasContentsAlong s steps.beside round steps.picks
  pub causes : HaveRightCauses s ids_after (zip round.events result.replies)
  pub wants : HaveWants s steps.beside round steps.picks (zip round.events result.replies)
  pub lists : AreLeftBut round steps.lists after
  pub ids_are : AreLeft ids ids_after left

-- so it is of every round, but of one in the order of the text that was told that memory was
-- lacking for the bytes of a new slab of a checked cache: in which step it lacked, the lists don't
-- say
abbrev pub IsOfSteps : Way → State → Option (List ℕ) → Round → RoundResult → State
    → Option (List ℕ) → Type 0
IsOfSteps way s ids round result after left =
    (IsInText way round → All HasMemory result.replies)
    → IsRunOfSteps way s ids round result after left
