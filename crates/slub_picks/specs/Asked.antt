-- For proofs and private clauses: what options say that were read so far.
use Rattle.std.specs.Prelude.{◌≡◌, ℕ, ◌+◌, Bool, true, false, if◌then◌else◌, List, ◌++◌, Option, Some, None, is_some}
use Rattle.slub_picks.specs.declared.words.Asked.{Asked}
use Rattle.slub_picks.specs.declared.words.Request.{Request}
use Rattle.slub_picks.specs.declared.words.Said.{Said}
use Rattle.slub_picks.specs.declared.words.Said.TheVariants as said
use Rattle.slub_picks.specs.declared.words.Way.{Way}
use Rattle.slub_picks.specs.declared.words.Way.TheVariants.{Seed}
use Rattle.slub_picks.specs.Spelling.{Word}
use Rattle.slub_picks.specs.Words.{AreSaid, IsWay, listed, pages, rounds, ways}

abbrev pub times : Bool → ℕ
times is = if is then 1 else 0

-- with what was asked so far the words ask for this
pub record AskOn (asked : Asked) (words : List Word) (request : Request) : Type 0 where
  pub options : List Said
  pub said : AreSaid options words
  pub way : IsWay (listed asked.way ++ ways options) request.way
  pub round : listed asked.round ++ rounds options ≡ listed request.round
  pub page : times asked.page + pages options ≡ times request.page

-- what an option says is put to what was asked; it wasn't said before
abbrev pub Puts : Said → Asked → Asked → Type 0
Puts (said.Way way) old new =
    (old.way ≡ None) × (new.way ≡ Some way) × (new.round ≡ old.round) × (new.page ≡ old.page)
Puts (said.Round n) old new =
    (old.round ≡ None) × (new.round ≡ Some n) × (new.way ≡ old.way) × (new.page ≡ old.page)
Puts said.Page old new =
    (old.page ≡ false) × (new.page ≡ true) × (new.way ≡ old.way) × (new.round ≡ old.round)

-- it was said before
abbrev pub CannotPut : Said → Asked → Type 0
CannotPut (said.Way way) old = is_some old.way ≡ true
CannotPut (said.Round n) old = is_some old.round ≡ true
CannotPut said.Page old = old.page ≡ true

abbrev pub way_of : Option Way → Way
way_of None = Seed 1
way_of (Some way) = way

abbrev pub request_of : Asked → Request
request_of asked =
    record { way = way_of asked.way; round = asked.round; page = asked.page }
