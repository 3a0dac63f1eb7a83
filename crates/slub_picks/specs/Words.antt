-- What the words of a command line ask for.
use Rattle.std.specs.Prelude.{◌≡◌, ◌⊎◌, ℕ, ◌-◌, ◌^◌, suc, if◌then◌else◌, List, [], ◌∷◌, ◌++◌, Option, Some, None, codes}
use Rattle.slub_picks.specs.declared.words.Request.{Request}
use Rattle.slub_picks.specs.declared.words.Said.{Said}
use Rattle.slub_picks.specs.declared.words.Said.TheVariants as said
use Rattle.slub_picks.specs.declared.words.Way.{Way}
use Rattle.slub_picks.specs.declared.words.Way.TheVariants.{Seed, Picks}
use Rattle.slub_picks.specs.List.{IsPickList}
use Rattle.slub_picks.specs.Spelling.{IsNumber, Word}

-- ---- one option

-- a name and its value, which stands in the next word or behind `=` (61), and then these words
abbrev pub IsValued : Word → Word → List Word → List Word → Type 0
IsValued name value words rest =
    (words ≡ name ∷ value ∷ rest) ⊎ (words ≡ (name ++ 61 ∷ value) ∷ rest)

-- the words begin with an option that says this, and then these words
abbrev pub Begins : Said → List Word → List Word → Type 0
Begins (said.Way (Seed n)) words rest =
    (value : Word) × IsValued (codes "--seed") value words rest
    × IsNumber 0 (2 ^ 64 - 1) value n
Begins (said.Way (Picks list)) words rest =
    (value : Word) × IsValued (codes "--picks") value words rest × IsPickList value list
Begins (said.Round n) words rest =
    (value : Word) × IsValued (codes "--round") value words rest × IsNumber 1 256 value n
Begins said.Page words rest = words ≡ codes "--page" ∷ rest

-- ---- options, one after the other

abbrev pub AreSaid : List Said → List Word → Type 0
AreSaid [] words = words ≡ []
AreSaid (one ∷ others) words = (rest : List Word) × Begins one words rest × AreSaid others rest

-- the ways that are said
abbrev pub ways : List Said → List Way
ways [] = []
ways (said.Way way ∷ others) = way ∷ ways others
ways (said.Round n ∷ others) = ways others
ways (said.Page ∷ others) = ways others

-- the rounds that are said
abbrev pub rounds : List Said → List ℕ
rounds [] = []
rounds (said.Way way ∷ others) = rounds others
rounds (said.Round n ∷ others) = n ∷ rounds others
rounds (said.Page ∷ others) = rounds others

-- how often `--page` is said
abbrev pub pages : List Said → ℕ
pages [] = 0
pages (said.Way way ∷ others) = pages others
pages (said.Round n ∷ others) = pages others
pages (said.Page ∷ others) = suc (pages others)

-- one thing, or none
abbrev pub listed : {A : Type 0} → Option A → List A
listed None = []
listed (Some x) = x ∷ []

-- one way is said, or none, which is that of the seed 1
abbrev pub IsWay : List Way → Way → Type 0
IsWay [] way = way ≡ Seed 1
IsWay (one ∷ []) way = way ≡ one
IsWay (one ∷ other ∷ others) way = ⊥

-- the words behind `steps` ask for this: options in any order, each at most once
pub record AskFor (words : List Word) (request : Request) : Type 0 where
  pub options : List Said
  pub said : AreSaid options words
  pub way : IsWay (ways options) request.way
  pub round : rounds options ≡ listed request.round
  pub page : pages options ≡ (if request.page then 1 else 0)

-- the words ask for this
abbrev pub IsRequest : List Word → Request → Type 0
IsRequest words request =
    (options : List Word) × (words ≡ codes "steps" ∷ options) × AskFor options request

-- the words ask for nothing that is done here
abbrev pub AreBadWords : List Word → Type 0
AreBadWords words = (request : Request) → ¬ IsRequest words request
