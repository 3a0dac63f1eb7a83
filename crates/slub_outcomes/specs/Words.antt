-- What the words of a command line ask for.
use Rattle.std.specs.Prelude.{◌≡◌, ◌≤◌, ℕ, ◌+◌, ◌-◌, ◌^◌, Bool, true, false, not, ◌&&◌, ◌||◌, if◌then◌else◌, List, [], ◌∷◌, Option, Some, None, is_some, codes}
use Rattle.std.specs.Str.{bytes_eq}
use Rattle.slub_common.specs.Numbers.{Writes}
use Rattle.slub_outcomes.specs.declared.words.Request.{Request}

-- the bytes of a word
abbrev pub Word : Type 0
Word = List ℕ

-- ---- options: names, each with its value behind it

abbrev pub is_name : Word → Bool
is_name word =
    bytes_eq word (codes "--seeds") || (bytes_eq word (codes "--from")
    || bytes_eq word (codes "--round"))

-- the value behind a name; None where the name isn't there
abbrev pub value_of : Word → List Word → Option Word
value_of name [] = None
value_of name (other ∷ []) = None
value_of name (other ∷ value ∷ options) =
    if bytes_eq other name then Some value else value_of name options

-- the words are options: known names, none twice, each with a value
abbrev pub are_options : List Word → Bool
are_options [] = true
are_options (name ∷ []) = false
are_options (name ∷ value ∷ options) =
    is_name name && (not (is_some (value_of name options)) && are_options options)

-- ---- what they say

-- the word spells this number, which is from `least` to `most`
pub record IsNumber (least most : ℕ) (word : Word) (n : ℕ) : Type 0 where
  pub writes : Writes word n
  pub least_of : least ≤ n
  pub most_of : n ≤ most

-- the number that an option's value says, or else the one that stands for none
abbrev pub IsSaid : ℕ → ℕ → ℕ → Option Word → ℕ → Type 0
IsSaid least most default None n = n ≡ default
IsSaid least most default (Some word) n = IsNumber least most word n

-- the `round` line that is named, where one is
abbrev pub IsRoundSaid : Option Word → Option ℕ → Type 0
IsRoundSaid None round = round ≡ None
IsRoundSaid (Some word) None = ⊥
IsRoundSaid (Some word) (Some n) = IsNumber 1 256 word n

-- the words behind `outcomes` ask for this: 1 to 1000000 seeds, 100 where no number is given, from
-- one on, 1 where none is given, the last of them below 2^64
pub record AskFor (options : List Word) (request : Request) : Type 0 where
  pub form : are_options options ≡ true
  pub seeds : IsSaid 1 1000000 100 (value_of (codes "--seeds") options) request.seeds
  pub from : IsSaid 0 (2 ^ 64 - 1) 1 (value_of (codes "--from") options) request.from
  pub round : IsRoundSaid (value_of (codes "--round") options) request.round
  pub last : request.from + request.seeds ≤ 2 ^ 64

-- the words ask for this
abbrev pub IsRequest : List Word → Request → Type 0
IsRequest words request =
    (options : List Word) × (words ≡ codes "outcomes" ∷ options) × AskFor options request

-- the words ask for nothing that is done here
abbrev pub AreBadWords : List Word → Type 0
AreBadWords words = (request : Request) → ¬ IsRequest words request
