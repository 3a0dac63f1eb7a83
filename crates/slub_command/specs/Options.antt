-- The options of `replay`.
use Rattle.std.specs.Prelude.{◌≡◌, ◌⊎◌, ℕ, ◌==◌, Bool, true, not, ◌||◌, suc, List, [], ◌∷◌, ◌++◌, Option, Some, None, codes, if◌then◌else◌}
use Rattle.std.specs.Str.{bytes_eq}
use Rattle.slub_command.specs.declared.command.How.{How}
use Rattle.slub_command.specs.declared.command.How.TheVariants.{Serial, Schedule, Threads}
use Rattle.slub_command.specs.Spelling.{Word, IsNumber}

-- an option that is given, with the text of its value
pub data Given : Type 0 where
  how_given : Word → Given
  seed_given : Word → Given
  replies_given : Given

-- a name and its value, which stands in the next word or after `=` (61)
abbrev pub IsValued : Word → Word → List Word → Type 0
IsValued name value words = (words ≡ name ∷ value ∷ []) ⊎ (words ≡ (name ++ 61 ∷ value) ∷ [])

-- the words give this option
abbrev pub IsGiven : Given → List Word → Type 0
IsGiven (how_given value) words = IsValued (codes "--how") value words
IsGiven (seed_given value) words = IsValued (codes "--seed") value words
IsGiven replies_given words = words ≡ codes "--replies" ∷ []

-- the words give these options, one after the other
abbrev pub AreGiven : List Given → List Word → Type 0
AreGiven [] words = words ≡ []
AreGiven (g ∷ gs) words =
    (front : List Word) × (rest : List Word) × (words ≡ front ++ rest) × IsGiven g front
    × AreGiven gs rest

-- the values of `--how`
abbrev pub hows : List Given → List Word
hows [] = []
hows (how_given value ∷ gs) = value ∷ hows gs
hows (seed_given value ∷ gs) = hows gs
hows (replies_given ∷ gs) = hows gs

-- the values of `--seed`
abbrev pub seeds : List Given → List Word
seeds [] = []
seeds (how_given value ∷ gs) = seeds gs
seeds (seed_given value ∷ gs) = value ∷ seeds gs
seeds (replies_given ∷ gs) = seeds gs

-- how often `--replies` is given
abbrev pub times_replies : List Given → ℕ
times_replies [] = 0
times_replies (how_given value ∷ gs) = times_replies gs
times_replies (seed_given value ∷ gs) = times_replies gs
times_replies (replies_given ∷ gs) = suc (times_replies gs)

-- how each is spelled
abbrev pub how_word : How → Word
how_word Serial = codes "serial"
how_word Schedule = codes "schedule"
how_word Threads = codes "threads"

-- one value, or none
abbrev pub listed : Option Word → List Word
listed None = []
listed (Some value) = value ∷ []

-- the words are options in any order, each at most once, with these values
pub record AreOptions (words : List Word) (how_text seed_text : Option Word) (replies : Bool)
    : Type 0 where
  pub given : List Given
  pub spelled : AreGiven given words
  pub how_once : hows given ≡ listed how_text
  pub seed_once : seeds given ≡ listed seed_text
  pub replies_once : times_replies given ≡ (if replies then 1 else 0)

-- what `--how` says, which is `serial` where it isn't given
abbrev pub IsHow : Option Word → How → Type 0
IsHow None how = how ≡ Serial
IsHow (Some value) how = value ≡ how_word how

-- what `--seed` says, which is 1 where it isn't given
abbrev pub IsSeed : Option Word → ℕ → Type 0
IsSeed None seed = seed ≡ 1
IsSeed (Some value) seed = IsNumber 0 18446744073709551615 value seed

-- the words after `replay` say this
pub record IsReplay (words : List Word) (how : How) (seed : ℕ) (replies : Bool) : Type 0 where
  pub how_text : Option Word
  pub seed_text : Option Word
  pub options : AreOptions words how_text seed_text replies
  pub how_is : IsHow how_text how
  pub seed_is : IsSeed seed_text seed

-- no hyphen (45) stands in front, as in every value that an option can have
abbrev pub is_bare : Word → Bool
is_bare [] = true
is_bare (c ∷ cs) = not (c == 45)

-- no hyphen in front, or a hyphen alone, as in every word that can stand at a place
abbrev pub is_plain : Word → Bool
is_plain word = is_bare word || bytes_eq word (codes "-")
