-- The words of the machine: what each says, and their numbers in the one table of words.
use Rattle.std.specs.Prelude.{ℕ, ◌+◌, ◌-◌, ◌*◌, ◌/◌, ◌%◌, ◌^◌, ◌==◌, false, if◌then◌else◌, Option, Some, None}
use Rattle.slub_words.specs.declared.cpu.CpuWord.{CpuWord}
use Rattle.slub_words.specs.declared.slab.SlabWord.{SlabWord}
use Rattle.slub_words.specs.declared.board.BoardWord.{BoardWord}
use Rattle.slub_cpu_partial.specs.declared.words.ListWord.{ListWord}
use Rattle.slub_core.specs.declared.step.Place.{Place}
use Rattle.slub_core.specs.declared.step.Op.{Op}
use Rattle.slub_core.specs.declared.step.Answer.{Answer}
use Rattle.slub_core.specs.declared.step.Place.TheVariants.{LockOf, ListOf, CpuOf, SlabOf, BoardOf, MemoryOf, LinkOf}
use Rattle.slub_core.specs.declared.step.Op.TheVariants.{Load, Store, Swap, Exchange}
use Rattle.slub_core.specs.declared.step.Answer.TheVariants.{Word, Done, Won, Lost}
use Rattle.slub_core.specs.Setup.{Setup}

-- ---- words of nothing

-- of a frame that is no first frame of an unchecked slab
abbrev pub no_slab_word : SlabWord
no_slab_word = record {
  head = 0;
  inuse = 0;
  objects = 0;
  frozen = false;
  listed = false;
  cache = 0;
}

-- of a list without a slab
abbrev pub no_list_word : ListWord
no_list_word = record { front = 0; count = 0 }

-- ---- what a word says

unfoldable pub cpu_in : ℕ → CpuWord
cpu_in x = record { tid = x / 2 ^ 32; frame = x / 2 ^ 16 % 2 ^ 16; head = x % 2 ^ 16 }

unfoldable pub slab_in : ℕ → SlabWord
slab_in x = record {
  head = x % 2 ^ 16;
  inuse = x / 2 ^ 16 % 2 ^ 16;
  objects = x / 2 ^ 32 % 2 ^ 16;
  frozen = x / 2 ^ 48 % 2 == 1;
  listed = x / 2 ^ 49 % 2 == 1;
  cache = x / 2 ^ 56 % 2 ^ 8;
}

unfoldable pub board_in : ℕ → Option BoardWord
board_in x = if x == 0 then None
    else Some (record {
      frame = x / 2 ^ 16 % 2 ^ 16;
      index = x % 2 ^ 16 - 1;
      cache = x / 2 ^ 32 % 2 ^ 8;
    })

unfoldable pub list_in : ℕ → ListWord
list_in x = record { front = x % 2 ^ 16; count = x / 2 ^ 16 % 2 ^ 16 }

-- ---- what a step leaves in its word, and what it answers

abbrev pub after_op : Op → ℕ → ℕ
after_op Load x = x
after_op (Store v) x = v
after_op (Swap v) x = v
after_op (Exchange from to) x = if x == from then to else x

abbrev pub answer_of : Op → ℕ → Answer
answer_of Load x = Word x
answer_of (Store v) x = Done
answer_of (Swap v) x = Word x
answer_of (Exchange from to) x = if x == from then Won else Lost x

-- ---- the numbers: locks, list words, CPU words, slab words, board words from number 1 on, memory
-- words, links

abbrev pub list_base : ℕ
list_base = 33

abbrev pub cpu_base : ℕ
cpu_base = 545

abbrev pub slab_base : ℕ
slab_base = 1057

-- of object number 0, which has no word
abbrev pub board_base : Setup → ℕ
board_base m = 1056 + m.frames

abbrev pub memory_base : Setup → ℕ
memory_base m = 1056 + m.frames + m.objects

abbrev pub link_base : Setup → ℕ
link_base m = 1056 + 513 * m.frames + m.objects

-- how many words there are
abbrev pub word_count : Setup → ℕ
word_count m = 1056 + 514 * m.frames + m.objects

-- the number of a word
abbrev pub number_of : Setup → Place → ℕ
number_of m (LockOf n) = n
number_of m (ListOf n) = list_base + n
number_of m (CpuOf n) = cpu_base + n
number_of m (SlabOf f) = slab_base + f
number_of m (BoardOf o) = board_base m + o
number_of m (MemoryOf p) = memory_base m + p
number_of m (LinkOf f) = link_base m + f
