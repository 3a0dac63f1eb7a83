-- The commands, and the words that spell them.
use Rattle.std.specs.Prelude.{◌≡◌, ◌⊎◌, ℕ, List, [], ◌∷◌, codes}
use Rattle.slub_object_layout.specs.declared.layout.Spec.{Spec}
use Rattle.slub_command.specs.declared.command.Command.{Command}
use Rattle.slub_command.specs.declared.command.Command.TheVariants.{Replay, Layout, Load}
use Rattle.slub_command.specs.Spelling.{Word, IsNumber, IsFlags}
use Rattle.slub_command.specs.Options.{IsReplay}

-- SIZE ALIGN FLAGS CPUS say this
pub record SayLayout (size_word align_word flags_word cpus_word : Word) (spec : Spec) (cpus : ℕ)
    : Type 0 where
  pub size_is : IsNumber 0 4294967295 size_word spec.size
  pub align_is : IsNumber 0 4294967295 align_word spec.align
  pub flags_is : IsFlags flags_word spec.flags
  pub cpus_is : IsNumber 1 16 cpus_word cpus

-- the words after `layout`
pub record IsLayout (words : List Word) (spec : Spec) (cpus : ℕ) : Type 0 where
  pub size_word : Word
  pub align_word : Word
  pub flags_word : Word
  pub cpus_word : Word
  pub places : words ≡ size_word ∷ align_word ∷ flags_word ∷ cpus_word ∷ []
  pub say : SayLayout size_word align_word flags_word cpus_word spec cpus

-- SEED EVENTS WORKERS say this
pub record SayLoad (seed_word events_word workers_word : Word) (seed events workers : ℕ)
    : Type 0 where
  pub seed_is : IsNumber 0 18446744073709551615 seed_word seed
  pub events_is : IsNumber 0 500000 events_word events
  pub workers_is : IsNumber 1 16 workers_word workers

-- the words after `load`
pub record IsLoad (words : List Word) (seed events workers : ℕ) : Type 0 where
  pub seed_word : Word
  pub events_word : Word
  pub workers_word : Word
  pub places : words ≡ seed_word ∷ events_word ∷ workers_word ∷ []
  pub say : SayLoad seed_word events_word workers_word seed events workers

-- the words spell this command; the first one is its name
abbrev pub IsCommand : List Word → Command → Type 0
IsCommand [] command = ⊥
IsCommand (name ∷ words) (Replay how seed replies) =
    (name ≡ codes "replay") × IsReplay words how seed replies
IsCommand (name ∷ words) (Layout spec cpus) = (name ≡ codes "layout") × IsLayout words spec cpus
IsCommand (name ∷ words) (Load seed events workers) =
    (name ≡ codes "load") × IsLoad words seed events workers

-- the first word is the name of a command
abbrev pub IsNamed : List Word → Type 0
IsNamed [] = ⊥
IsNamed (name ∷ words) = (name ≡ codes "replay") ⊎ (name ≡ codes "layout") ⊎ (name ≡ codes "load")
