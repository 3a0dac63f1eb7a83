-- Words that have no bit beyond their fields (profile, as the packing is).
use Rattle.std.specs.Prelude.{◌≡◌, ℕ, ◌%◌, ◌^◌, ◌<◌, ◌≤◌, List, [], ◌∷◌, slice_index_or}
use Rattle.slub_words.specs.Words.{cpu_bits, slab_bits}
use Rattle.slub_cpu_partial.specs.Strings.{list_bits, link_bits}
use Rattle.slub_core.specs.declared.step.Place.{Place}
use Rattle.slub_core.specs.declared.step.Place.TheVariants.{ListOf, CpuOf, SlabOf, BoardOf, LinkOf}
use Rattle.slub_core.specs.Setup.{Setup}
use Rattle.slub_core.specs.Words.{number_of, cpu_in, slab_in, board_in, list_in}
use Rattle.slub_core.specs.Run.{System, Pick, turn}
use Rattle.slub_law_opening.specs.Table.{board_number}

-- ---- one word

-- it is what packing makes of what it says; the transaction id of a CPU's word has 32 bits
abbrev pub IsCpuPacked : ℕ → Type 0
IsCpuPacked x = (cpu_bits (cpu_in x) ≡ x) × (x < 2 ^ 64)

abbrev pub IsListPacked : ℕ → Type 0
IsListPacked x = list_bits (list_in x) ≡ x

abbrev pub IsSlabPacked : ℕ → Type 0
IsSlabPacked x = slab_bits (slab_in x) ≡ x

-- 0 where nothing is on the board
abbrev pub IsBoardPacked : ℕ → Type 0
IsBoardPacked x = board_number (board_in x) ≡ x

-- of a link a step reads the lowest 16 bits
abbrev pub IsLinkPacked : ℕ → Type 0
IsLinkPacked x = link_bits (record { next = x % 2 ^ 16 }) ≡ x

-- ---- all words

-- the word at a place
abbrev pub packed_word_at : Setup → List ℕ → Place → ℕ
packed_word_at m words place = slice_index_or words (number_of m place) 0

-- each packed word of the machine is such a word. Locks and the words of frames have no fields
pub record ArePacked (m : Setup) (words : List ℕ) : Type 0 where
  pub cpu : (n : ℕ) → n < m.cpu_words → IsCpuPacked (packed_word_at m words (CpuOf n))
  pub list : (n : ℕ) → n < m.cpu_words → IsListPacked (packed_word_at m words (ListOf n))
  pub slab : (f : ℕ) → f < m.frames → IsSlabPacked (packed_word_at m words (SlabOf f))
  -- of object numbers, which begin with 1
  pub board : (o : ℕ) → 1 ≤ o → o < m.objects → IsBoardPacked (packed_word_at m words (BoardOf o))
  pub link : (f : ℕ) → f < m.frames → IsLinkPacked (packed_word_at m words (LinkOf f))

-- before each pick of a run and after the last one
abbrev pub PackedAlong : Setup → System → List Pick → Type 0
PackedAlong m s [] = ArePacked m s.words
PackedAlong m s (pick ∷ picks) = ArePacked m s.words × PackedAlong m (turn m s pick) picks
