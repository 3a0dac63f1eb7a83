-- Rows and their fields, and what the words of a machine say.
use Rattle.std.specs.Prelude.{ℕ, zero, suc, ◌-◌, Bool, true, false, List, [], ◌∷◌, ◌++◌, length, replicate, codes}
use Rattle.std.specs.Fmt.{decimal}
use Rattle.slub_words.specs.declared.cpu.CpuWord.{CpuWord}
use Rattle.slub_words.specs.declared.slab.SlabWord.{SlabWord}
use Rattle.slub_cpu_partial.specs.declared.words.ListWord.{ListWord}

-- ---- rows

-- two spaces, and a label with spaces behind it, up to 15 characters; a longer one is not cut
abbrev pub label_text : List ℕ → List ℕ
label_text label = codes "  " ++ label ++ replicate (15 - length label) 32

-- a row: its label, its fields, each after a space, and a line feed
abbrev pub row : List ℕ → List ℕ → List ℕ
row label fields = label_text label ++ fields ++ 10 ∷ []

-- `WORD TITLE`
abbrev pub titled : List ℕ → List ℕ → List ℕ
titled word title = word ++ 32 ∷ title

-- `WORD N`
abbrev pub numbered : List ℕ → ℕ → List ℕ
numbered word n = word ++ 32 ∷ decimal n

-- `WORD CPU TITLE`
abbrev pub cpu_label : List ℕ → ℕ → List ℕ → List ℕ
cpu_label word cpu title = word ++ 32 ∷ decimal cpu ++ 32 ∷ title

-- ---- fields

-- ` NAME N`
abbrev pub field : List ℕ → ℕ → List ℕ
field name n = 32 ∷ name ++ 32 ∷ decimal n

-- ` NAME 0` or ` NAME 1`
abbrev pub flag : List ℕ → Bool → List ℕ
flag name false = 32 ∷ name ++ codes " 0"
flag name true = 32 ∷ name ++ codes " 1"

-- ` NAME F`: a slab by its first frame, where 0 stands for none
abbrev pub slab_field : List ℕ → ℕ → List ℕ
slab_field name zero = 32 ∷ name ++ codes " none"
slab_field name (suc n) = field name (suc n)

-- ` head I`: an object by its index plus one, where 0 stands for none
abbrev pub head_field : ℕ → List ℕ
head_field zero = codes " head none"
head_field (suc index) = field (codes "head") index

-- ---- words

abbrev pub cpu_word_text : CpuWord → List ℕ
cpu_word_text word =
    field (codes "tid") word.tid ++ slab_field (codes "slab") word.frame ++ head_field word.head

abbrev pub list_word_text : ListWord → List ℕ
list_word_text word = slab_field (codes "front") word.front ++ field (codes "count") word.count

abbrev pub slab_word_text : SlabWord → List ℕ
slab_word_text word =
    head_field word.head ++ field (codes "inuse") word.inuse ++ field (codes "objects") word.objects
    ++ flag (codes "frozen") word.frozen ++ flag (codes "listed") word.listed
