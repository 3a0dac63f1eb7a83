-- What is read of the table of words of a machine, class by class.
use Rattle.std.specs.Prelude.{ℕ, zero, suc, ◌+◌, ◌-◌, ◌/◌, ◌%◌, ◌^◌, ◌==◌, nat_lt, cond, false, List, [], ◌∷◌, slice_index_or, Option, Some, None}
use Rattle.std.specs.Option.{option_map, option_or}
use Rattle.slub_words.specs.declared.cpu.CpuWord.{CpuWord}
use Rattle.slub_words.specs.declared.slab.SlabWord.{SlabWord}
use Rattle.slub_lists.specs.declared.lists.Slab.{Slab}
use Rattle.slub_lists.specs.declared.lists.CpuLists.{CpuLists}
use Rattle.slub_lists.specs.declared.lists.Held.{Held}
use Rattle.slub_object_layout.specs.Layout.{order_for}
use Rattle.slub_core.specs.Words.{list_base, cpu_base, slab_base, cpu_in, slab_in, board_in, list_in}
use Rattle.slub_core.specs.World.{LockValue, size_in, order_in}
use Rattle.slub_core.specs.Facts.{Facts, cache_of, pointer_in, found_in}
use Rattle.slub_law_opening.specs.Rests.{current_in, held_on}

-- ---- walks

-- what a walk comes by: from a number on, each number leads to the next, and 0 to nothing; so many
-- at most
unfoldable pub walked : (ℕ → ℕ) → (ℕ → ℕ) → ℕ → ℕ → List ℕ
walked item next zero at = []
walked item next (suc most) at = cond (at == 0) [] (item at ∷ walked item next most (next at))

-- what the object behind a head, an index plus one, leads to (`get_freepointer`)
abbrev pub next_in : Facts → List ℕ → ℕ → ℕ → ℕ → ℕ
next_in facts memory cache frame head =
    found_in facts cache frame (head - 1)
    (slice_index_or memory (pointer_in facts cache frame (head - 1)) 0)

-- the objects of a freelist, of which a slab has 512 at most
abbrev pub chain_in : Facts → List ℕ → ℕ → ℕ → ℕ → List ℕ
chain_in facts memory cache frame head =
    walked (λ head. head - 1) (next_in facts memory cache frame) 512 head

-- the slabs of a CPU's partial list, by links that begin at a word (`slab->next`)
abbrev pub link_in : List ℕ → ℕ → ℕ → ℕ
link_in words base frame = slice_index_or words (base + frame) 0 % 2 ^ 16

abbrev pub string_in : List ℕ → ℕ → ℕ → List ℕ
string_in words base front = walked (λ frame. frame) (link_in words base) 4095 front

-- ---- slabs

-- the slab at a frame that lock n has in its value
abbrev pub slab_in_value : ℕ → LockValue → ℕ → Option Slab
slab_in_value n value frame =
    cond (nat_lt 0 (size_in value frame))
    (Some (record {
      cache = n - 1;
      order = order_in value frame;
      objects = size_in value frame;
      frozen = false;
    }))
    None

-- of the first n locks the last that has one there
unfoldable pub slab_in_values : (ℕ → LockValue) → ℕ → ℕ → Option Slab
slab_in_values value zero frame = None
slab_in_values value (suc n) frame =
    option_or (slab_in_value n (value n) frame) (slab_in_values value n frame)

-- the slab of a slab word; where that has none, another one
abbrev pub slab_or : Facts → SlabWord → Option Slab → Option Slab
slab_or facts word other =
    cond (nat_lt 0 word.objects)
    (Some (record {
      cache = word.cache;
      order = order_for (cache_of facts word.cache).layout word.objects;
      objects = word.objects;
      frozen = word.frozen;
    }))
    other

abbrev pub slab_word_in : List ℕ → ℕ → SlabWord
slab_word_in words frame = slab_in (slice_index_or words (slab_base + frame) 0)

abbrev pub slab_at : Facts → List ℕ → (ℕ → LockValue) → ℕ → Option Slab
slab_at facts words value frame =
    slab_or facts (slab_word_in words frame) (slab_in_values value 33 frame)

-- a slab's own freelist
abbrev pub own_at : Facts → List ℕ → List ℕ → ℕ → List ℕ
own_at facts words memory frame =
    let word = slab_word_in words frame in chain_in facts memory word.cache frame word.head

-- ---- what a CPU has, by 16 * cache + CPU

abbrev pub cpu_word_in : List ℕ → ℕ → CpuWord
cpu_word_in words n = cpu_in (slice_index_or words (cpu_base + n) 0)

abbrev pub front_in : List ℕ → ℕ → ℕ
front_in words n = (list_in (slice_index_or words (list_base + n) 0)).front

abbrev pub lists_at : Facts → List ℕ → List ℕ → ℕ → ℕ → CpuLists
lists_at facts words memory links n = let word = cpu_word_in words n in record {
  current = current_in word.frame;
  free = chain_in facts memory (n / 16) word.frame word.head;
  partial = string_in words links (front_in words n);
}

-- ---- the board

-- what an object number names on the board; number 0 names nothing
abbrev pub on_board : List ℕ → ℕ → ℕ → Option Held
on_board words base object =
    option_map held_on (board_in (cond (object == 0) 0 (slice_index_or words (base + object) 0)))
