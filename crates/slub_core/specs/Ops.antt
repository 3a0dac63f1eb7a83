-- The steps that spots call for: an operation on one word.
use Rattle.std.specs.Prelude.{ℕ, ◌+◌}
use Rattle.slub_words.specs.declared.cpu.CpuWord.{CpuWord}
use Rattle.slub_words.specs.declared.slab.SlabWord.{SlabWord}
use Rattle.slub_words.specs.Words.{cpu_bits, slab_bits}
use Rattle.slub_cpu_partial.specs.declared.words.ListWord.{ListWord}
use Rattle.slub_cpu_partial.specs.Strings.{list_bits}
use Rattle.slub_core.specs.declared.step.Step.{Step}
use Rattle.slub_core.specs.declared.step.Place.TheVariants.{LockOf, ListOf, CpuOf, SlabOf, BoardOf, MemoryOf, LinkOf}
use Rattle.slub_core.specs.declared.step.Op.TheVariants.{Load, Store, Swap, Exchange}
use Rattle.slub_core.specs.Setup.{Setup, cpu_number, pointer_at, word_at, hardened, node_lock, pool_lock}
use Rattle.slub_core.specs.Local.{Local, here}

-- ---- the CPU word of the call's cache and CPU

-- its number (`this_cpu_ptr(s->cpu_slab)`)
abbrev pub own_cpu : Local → ℕ
own_cpu l = cpu_number l.cache l.cpu

-- (`slab_alloc_node`, `do_slab_free`: `c->tid`, `c->slab` and `c->freelist`, here one word)
abbrev pub load_cpu : Local → Step
load_cpu l = record { place = CpuOf (own_cpu l); op = Load }

-- from the noted word (`this_cpu_cmpxchg_double`)
abbrev pub change_cpu : Local → CpuWord → Step
change_cpu l to = record {
  place = CpuOf (own_cpu l);
  op = Exchange (cpu_bits l.cpu_word) (cpu_bits to);
}

-- ---- slab words

-- (`slab->freelist` and `slab->counters`, here one word: `get_freelist`, `__slab_free`, ..)
abbrev pub load_slab : ℕ → Step
load_slab frame = record { place = SlabOf frame; op = Load }

-- from the noted word (`__cmpxchg_double_slab`)
abbrev pub change_slab : Local → ℕ → SlabWord → Step
change_slab l frame to =
    record { place = SlabOf frame; op = Exchange (slab_bits l.slab_word) (slab_bits to) }

-- of a slab that is made (`___slab_alloc`, after `new_slab`) or unmade (`free_slab`)
abbrev pub store_slab : ℕ → SlabWord → Step
store_slab frame to = record { place = SlabOf frame; op = Store (slab_bits to) }

-- ---- free pointers and words of objects

-- (`get_freepointer`)
abbrev pub load_pointer : Setup → ℕ → ℕ → ℕ → Step
load_pointer m cache frame index = record {
  place = MemoryOf (pointer_at m cache frame index);
  op = Load;
}

-- (`set_freepointer`)
abbrev pub store_pointer : Setup → ℕ → ℕ → ℕ → ℕ → Step
store_pointer m cache frame index to =
    let p = pointer_at m cache frame index in
    record { place = MemoryOf p; op = Store (hardened cache p to) }

-- of the object of the call (`set_freepointer` of `do_slab_free` and `__slab_free`)
abbrev pub link_object : Setup → Local → ℕ → Step
link_object m l to = store_pointer m (here l).cache (here l).frame (here l).index to

-- a holder writes a word of its object (profile)
abbrev pub store_word : Setup → Local → ℕ → ℕ → Step
store_word m l word value =
    record {
      place = MemoryOf (word_at m (here l).cache (here l).frame (here l).index word);
      op = Store value;
    }

-- and reads one (profile)
abbrev pub load_word : Setup → Local → ℕ → Step
load_word m l word = record {
  place = MemoryOf
      (word_at m (here l).cache (here l).frame (here l).index word);
  op = Load;
}

-- ---- the partial list of the call's cache and CPU

-- (`this_cpu_read(s->cpu_slab->partial)` of `put_cpu_partial`)
abbrev pub load_list : Local → Step
load_list l = record { place = ListOf (own_cpu l); op = Load }

-- the whole list (`unfreeze_partials`, `put_cpu_partial`; of an allocation profile)
abbrev pub take_list : Local → Step
take_list l = record { place = ListOf (own_cpu l); op = Swap 0 }

-- from the noted word (`this_cpu_write` of `put_cpu_partial`)
abbrev pub change_list : Local → ListWord → Step
change_list l to = record {
  place = ListOf (own_cpu l);
  op = Exchange (list_bits l.list_word) (list_bits to);
}

-- (`slab->next` of `__unfreeze_partials`, `slub_set_percpu_partial` of `___slab_alloc`)
abbrev pub load_link : ℕ → Step
load_link frame = record { place = LinkOf frame; op = Load }

-- (`slab->next = oldslab` of `put_cpu_partial`)
abbrev pub store_link : ℕ → ℕ → Step
store_link frame to = record { place = LinkOf frame; op = Store to }

-- ---- the board and the locks

-- an object is taken from the board (profile)
abbrev pub take_board : Local → Step
take_board l = record { place = BoardOf (here l).object; op = Swap 0 }

-- a lock is the worker's number plus one while it has it (`spin_lock_irqsave`; the number is
-- profile)
abbrev pub take_lock : Local → ℕ → Step
take_lock l lock = record { place = LockOf lock; op = Exchange 0 (l.worker + 1) }

-- (`spin_unlock_irqrestore`)
abbrev pub give_lock : ℕ → Step
give_lock lock = record { place = LockOf lock; op = Store 0 }

-- the node's lock (`spin_lock_irqsave(&n->list_lock, flags)`)
abbrev pub take_node : Local → Step
take_node l = take_lock l (node_lock l.cache)

-- (`spin_unlock_irqrestore(&n->list_lock, flags)`)
abbrev pub give_node : Local → Step
give_node l = give_lock (node_lock l.cache)

-- the pool's lock (profile: the page allocator's, below `alloc_slab_page` and `__free_slab`)
abbrev pub take_pool : Local → Step
take_pool l = take_lock l pool_lock

-- (profile, as the one before)
abbrev pub give_pool : Local → Step
give_pool l = give_lock pool_lock

-- of a spot that calls for no step (profile)
abbrev pub no_step : Step
no_step = record { place = LockOf 0; op = Load }
