-- What words are in every run, and that changes under a lock end.
use Rattle.std.specs.Prelude.{◌≡◌, Bool, List}
use Rattle.slub_lists.specs.State.{State}
use Rattle.slub_core.specs.Setup.{Setup}
use Rattle.slub_core.specs.World.{World}
use Rattle.slub_core.specs.Local.{Local, Change, noted, stays}
use Rattle.slub_core.specs.Steps.{changed, settled}
use Rattle.slub_core.specs.Run.{System, Pick, turn}
use Rattle.slub_core.specs.Opening.{IsOpening, opened}
use Rattle.slub_core.specs.Law.{IsCoherentSystem}
use Rattle.slub_law_opening.specs.Opening.{Beside, setup_of}
use Rattle.slub_law_opening.specs.Table.{system_of}
use Rattle.slub_law_opening.specs.Laws.{MayOpen, MayBegin}
use Rattle.slub_law_opening.specs.BoundLaws.{begins}
use Rattle.slub_law_words.specs.Packed.{ArePacked, PackedAlong}
use Rattle.slub_law_words.specs.Ends.{GoOnAlong}

-- ---- words have no bit beyond their fields

-- whatever the other workers are at, the turn of any worker leaves such words
abbrev pub TurnsKeepWords : Type 0
TurnsKeepWords =
    (m : Setup) (opening : World) (s : System) (pick : Pick)
    → IsCoherentSystem m opening s → ArePacked m s.words → ArePacked m (turn m s pick).words

abbrev pub RunsKeepWords : Type 0
RunsKeepWords =
    (m : Setup) (opening : World) (s : System) (picks : List Pick)
    → IsCoherentSystem m opening s → ArePacked m s.words → PackedAlong m s picks

-- coherent lists open into such words
abbrev pub OpenedWordsArePacked : Type 0
OpenedWordsArePacked =
    (s : State) (b : Beside) (ls : List Local) → MayOpen s b → MayBegin s b ls
    → ArePacked (setup_of s b) (system_of s b ls).words

-- so a round has no others, in whatever order its workers make their turns
abbrev pub RoundsKeepWords : Type 0
RoundsKeepWords =
    (s : State) (b : Beside) (ls : List Local) (picks : List Pick) → MayOpen s b → MayBegin s b ls
    → PackedAlong (setup_of s b) (begins s b ls) picks

-- ---- changes under a lock end

-- after two changes the next one would leave all as it is
abbrev pub ChangesEnd : Type 0
ChangesEnd =
    (m : Setup) (refused : Bool) (c : Change)
    → let d = settled m refused c in changed m refused d ≡ stays d.value (noted d.local d.reply)

-- and in a round no worker comes to a spot in a call at which there is neither a change nor a step
abbrev pub WorkersGoOn : Type 0
WorkersGoOn =
    (m : Setup) (s : System) (picks : List Pick) → IsOpening m s → GoOnAlong m (opened m s) picks
