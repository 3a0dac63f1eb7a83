-- The steps of `Ops` that ask for the layout of a cache (`get_freepointer`, `set_freepointer`), by
-- what stays while a round runs: each is the one of that name, whatever the takes, gifts and orders
-- of the machine are.
use Rattle.std.specs.Prelude.{ℕ}
use Rattle.slub_core.specs.declared.step.Step.{Step}
use Rattle.slub_core.specs.declared.step.Place.TheVariants.{MemoryOf}
use Rattle.slub_core.specs.declared.step.Op.TheVariants.{Load, Store}
use Rattle.slub_core.specs.Setup.{hardened}
use Rattle.slub_core.specs.Local.{Local, here}
use Rattle.slub_core.specs.Facts.{Facts, pointer_in, word_in}

-- (`get_freepointer`)
abbrev pub load_pointer : Facts → ℕ → ℕ → ℕ → Step
load_pointer facts cache frame index = record {
  place = MemoryOf (pointer_in facts cache frame index);
  op = Load;
}

-- (`set_freepointer`)
abbrev pub store_pointer : Facts → ℕ → ℕ → ℕ → ℕ → Step
store_pointer facts cache frame index to =
    let p = pointer_in facts cache frame index in
    record { place = MemoryOf p; op = Store (hardened cache p to) }

-- of the object of the call (`set_freepointer` of `do_slab_free` and `__slab_free`)
abbrev pub link_object : Facts → Local → ℕ → Step
link_object facts l to = store_pointer facts (here l).cache (here l).frame (here l).index to

-- a holder writes a word of its object (profile)
abbrev pub store_word : Facts → Local → ℕ → ℕ → Step
store_word facts l word value = record {
  place = MemoryOf (word_in facts (here l).cache (here l).frame (here l).index word);
  op = Store value;
}

-- and reads one (profile)
abbrev pub load_word : Facts → Local → ℕ → Step
load_word facts l word = record {
  place = MemoryOf (word_in facts (here l).cache (here l).frame (here l).index word);
  op = Load;
}
