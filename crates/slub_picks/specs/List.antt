-- What a list of picks is, as it is written.
use Rattle.std.specs.Prelude.{◌≡◌, ◌≢◌, ◌⊎◌, ℕ, ◌==◌, List, [], ◌∷◌, ◌++◌, codes}
use Rattle.std.specs.List.{slice_split}
use Rattle.slub_picks.specs.declared.list.Entry.{Entry}
use Rattle.slub_picks.specs.declared.list.Part.{Part}
use Rattle.slub_picks.specs.declared.list.PickList.{PickList}
use Rattle.slub_picks.specs.declared.list.Reach.{Reach}
use Rattle.slub_picks.specs.declared.list.Reach.TheVariants.{Turns, Event, End}
use Rattle.slub_picks.specs.Spelling.{IsNumber, Word}

-- N, `event` or `end`
abbrev pub IsReach : Word → Reach → Type 0
IsReach text (Turns n) = IsNumber 1 4294967295 text n
IsReach text Event = text ≡ codes "event"
IsReach text End = text ≡ codes "end"

-- W, which is one turn; or W, `:` (58) and how far the entry goes
pub record IsEntry (text : Word) (entry : Entry) : Type 0 where
  pub front : Word
  pub worker : IsNumber 0 15 front entry.worker
  pub reach : ((text ≡ front) × (entry.reach ≡ Turns 1))
      ⊎ ((behind : Word) × (text ≡ front ++ 58 ∷ behind) × IsReach behind entry.reach)

-- the texts that a byte parts; a text without one is one
abbrev pub texts_of : ℕ → Word → List Word
texts_of mark text = slice_split (λ b. b == mark) text

-- each text says the thing at its place, and there is no other
abbrev pub Say : {A : Type 0} → (Word → A → Type 0) → List Word → List A → Type 0
Say Says [] things = things ≡ []
Say Says (text ∷ texts) [] = ⊥
Say Says (text ∷ texts) (thing ∷ things) = Says text thing × Say Says texts things

-- a part: nothing, or entries between commas (44)
abbrev pub IsPart : Word → Part → Type 0
IsPart [] part = part.entries ≡ []
IsPart (b ∷ bs) part = Say IsEntry (texts_of 44 (b ∷ bs)) part.entries

-- a list: parts between slashes (47); it isn't empty
abbrev pub IsPickList : Word → PickList → Type 0
IsPickList text list =
    (text ≢ []) × (list.text ≡ text) × Say IsPart (texts_of 47 text) list.parts
