-- A CPU's partial list as words (profile; in `mm/slub.c` a list that hangs on `c->partial`).
use Rattle.std.specs.Prelude.{◌≡◌, ℕ, zero, suc, ◌+◌, ◌*◌, ◌/◌, ◌%◌, ◌^◌, ◌<◌, ◌≤◌, ◌⊎◌, List, [], ◌∷◌, slice_index, All, length}
use Rattle.slub_cpu_partial.specs.declared.words.LinkWord.{LinkWord}
use Rattle.slub_cpu_partial.specs.declared.words.ListWord.{ListWord}

-- the front frame in bits 0 to 15, the count in 16 to 31
abbrev pub list_bits : ListWord → ℕ
list_bits word = word.front + word.count * 2 ^ 16

-- no frame and no count, or some of both
abbrev pub IsList : ℕ → ℕ → Type 0
IsList front count = ((front ≡ 0) × (count ≡ 0)) ⊎ ((1 ≤ front) × (1 ≤ count))

-- the word of a list: no bit above 31 is set
abbrev pub IsListWord : ℕ → Type 0
IsListWord word = (word < 2 ^ 32) × IsList (word % 2 ^ 16) (word / 2 ^ 16)

-- the next frame in bits 0 to 15; 0 for none
abbrev pub link_bits : LinkWord → ℕ
link_bits word = word.next

-- the word of a link: no bit above 15 is set
abbrev pub IsLinkWord : ℕ → Type 0
IsLinkWord word = word < 2 ^ 16

-- the string of a front and a count: the first frames that are found from the front on by links
abbrev pub string_of : (ℕ → ℕ) → ℕ → ℕ → List ℕ
string_of next front zero = []
string_of next front (suc count) = front ∷ string_of next (next front) count

-- the frame that so many links lead to
abbrev pub frame_after : (ℕ → ℕ) → ℕ → ℕ → ℕ
frame_after next front zero = front
frame_after next front (suc count) = frame_after next (next front) count

-- the string by these links, where the next of frame f is the f-th
abbrev pub string_in : List ℕ → ℕ → ℕ → List ℕ
string_in links front count = string_of (λ frame. slice_index links frame) front count

-- each of these frames has a link
abbrev pub AreLinked : List ℕ → List ℕ → Type 0
AreLinked links frames = All (λ frame. frame < length links) frames
