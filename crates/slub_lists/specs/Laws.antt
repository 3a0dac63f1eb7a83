-- Profile: what the laws of the machine speak of.
use Rattle.std.specs.Prelude.{◌≡◌, ◌≢◌, ℕ, true, Some}
use Rattle.slub_object_layout.specs.declared.layout.Layout.{Layout}
use Rattle.slub_object_layout.specs.Layout.{IsInSlot}
use Rattle.slub_lists.specs.declared.lists.Held.{Held}
use Rattle.slub_lists.specs.State.{State}
use Rattle.slub_lists.specs.Coherent.{held_under}
use Rattle.slub_lists.specs.Alloc.{HasLayout}
use Rattle.slub_lists.specs.Words.{is_word, word_of}

-- a number on the board names an object of a cache with this layout
pub record Names (s : State) (object : ℕ) (held : Held) (layout : Layout) : Type 0 where
  pub here : held_under s object ≡ Some held
  pub live : HasLayout s held.cache layout

-- the byte at this address lies in the slot of the object that a number names
pub record HasByte (s : State) (object byte : ℕ) : Type 0 where
  pub held : Held
  pub layout : Layout
  pub names : Names s object held layout
  pub inside : IsInSlot held.frame held.index layout byte

-- the words of all objects on the board but one are as before
abbrev pub KeepsWords : State → ℕ → State → Type 0
KeepsWords s object after =
    (other word : ℕ) (held : Held) (layout : Layout) → other ≢ object → Names s other held layout
    → is_word layout word ≡ true → word_of after layout held word ≡ word_of s layout held word
