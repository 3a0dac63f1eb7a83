-- What the words of a command line ask for.
use Rattle.std.specs.Prelude.{◌≡◌, ℕ, ◌≤◌, Bool, true, false, not, ◌&&◌, ◌||◌, if◌then◌else◌, List, [], ◌∷◌, ◌++◌, Option, Some, None, is_some, option_to_list, codes}
use Rattle.std.specs.Str.{bytes_eq}
use Rattle.slub_common.specs.Numbers.{Writes}
use Rattle.slub_recorded.specs.declared.convert.Options.{Options}
use Rattle.slub_recorded.specs.declared.rounds.Workers.{Workers}
use Rattle.slub_recorded.specs.declared.rounds.Workers.TheVariants.{One, Cpus}
use Rattle.slub_recorded.specs.declared.tunes.Tune.{Tune}
use Rattle.slub_recorded.specs.Settings.{Word, tune_of}

-- ---- options: names, each with its value behind it

abbrev pub is_name : Word → Bool
is_name word =
    bytes_eq word (codes "--group") || bytes_eq word (codes "--cpus")
    || bytes_eq word (codes "--workers") || bytes_eq word (codes "--rounds")

-- the name of a setting, which may be there more than once
abbrev pub is_tune : Word → Bool
is_tune word = bytes_eq word (codes "--tune")

-- the value behind a name; None where the name isn't there
abbrev pub value_of : Word → List Word → Option Word
value_of name [] = None
value_of name (other ∷ []) = None
value_of name (other ∷ value ∷ words) =
    if bytes_eq other name then Some value else value_of name words

-- an option may stand before others: a setting, or a name that isn't among these
abbrev pub may_stand : Word → Word → List Word → Bool
may_stand name value words =
    if is_tune name then is_some (tune_of value)
    else is_name name && not (is_some (value_of name words))

-- the words are options: known names, but for settings none twice, each with a value
abbrev pub are_options : List Word → Bool
are_options [] = true
are_options (name ∷ []) = false
are_options (name ∷ value ∷ words) = may_stand name value words && are_options words

-- ---- settings

-- the setting of an option, where it is one
abbrev pub tune_in : Word → Word → List Tune
tune_in name value = if is_tune name then option_to_list (tune_of value) else []

-- all settings of options
abbrev pub tunes_in : List Word → List Tune
tunes_in [] = []
tunes_in (name ∷ []) = []
tunes_in (name ∷ value ∷ words) = tune_in name value ++ tunes_in words

-- those that stand behind the command
abbrev pub tunes_asked : List Word → List Tune
tunes_asked [] = []
tunes_asked (command ∷ words) = tunes_in words

-- ---- what the others say

-- the word spells this number, which is from 1 to `most`
pub record IsNumber (most : ℕ) (word : Word) (n : ℕ) : Type 0 where
  pub writes : Writes word n
  pub least_of : 1 ≤ n
  pub most_of : n ≤ most

-- the number that is named, or 1
abbrev pub IsCount : ℕ → Option Word → ℕ → Type 0
IsCount most None n = n ≡ 1
IsCount most (Some word) n = IsNumber most word n

-- the number of CPUs that is named, where one is
abbrev pub AreCpus : Option Word → Option ℕ → Type 0
AreCpus None cpus = cpus ≡ None
AreCpus (Some word) None = ⊥
AreCpus (Some word) (Some n) = IsNumber 16 word n

-- the word of workers
abbrev pub workers_word : Workers → Word
workers_word One = codes "one"
workers_word Cpus = codes "cpus"

-- the workers that are named, or one
abbrev pub AreWorkers : Option Word → Workers → Type 0
AreWorkers None workers = workers ≡ One
AreWorkers (Some word) workers = word ≡ workers_word workers

-- the words behind `recorded` ask for this: a group from 1 to 1000, 1 to 16 CPUs, and 1 to 256
-- parts, where they name a number
pub record AskFor (words : List Word) (options : Options) : Type 0 where
  pub form : are_options words ≡ true
  pub group : IsCount 1000 (value_of (codes "--group") words) options.group
  pub cpus : AreCpus (value_of (codes "--cpus") words) options.cpus
  pub workers : AreWorkers (value_of (codes "--workers") words) options.workers
  pub parts : IsCount 256 (value_of (codes "--rounds") words) options.parts

-- the words ask for this
abbrev pub IsRequest : List Word → Options → Type 0
IsRequest words options =
    (rest : List Word) × (words ≡ codes "recorded" ∷ rest) × AskFor rest options

-- the words ask for nothing that is done here
abbrev pub AreBadWords : List Word → Type 0
AreBadWords words = (options : Options) → ¬ IsRequest words options
