-- What stays while a round runs, as plain data, and the `Setup` of the step machine that it is.
use Rattle.std.specs.Prelude.{◌≡◌, ℕ, ◌+◌, ◌/◌, ◌%◌, ◌^◌, ◌<◌, ◌≤◌, false, List, length, slice_index, slice_index_or, All}
use Rattle.slub_object_layout.specs.declared.layout.Layout.{Layout}
use Rattle.slub_object_layout.specs.Layout.{address_of, no_layout}
use Rattle.slub_words.specs.Words.{steps_from_one}
use Rattle.slub_core.specs.Setup.{Setup, Means, hardened}
use Rattle.slub_core.specs.declared.cache.CacheFacts.{CacheFacts}

-- the sizes of the machine, the live caches that aren't checked, oldest first, and each cache by
-- its number
pub record Facts : Type 0 where
  pub frames : ℕ
  pub cpus : ℕ
  pub step : ℕ
  pub objects : ℕ
  pub plain : List ℕ
  pub caches : List CacheFacts

abbrev pub no_cache : CacheFacts
no_cache = record { live = false; checks = false; layout = no_layout }

-- the cache of this number
abbrev pub cache_of : Facts → ℕ → CacheFacts
cache_of facts cache = slice_index_or facts.caches cache no_cache

-- the machine of these facts, whatever its takes, its gifts and its orders are
abbrev pub setup_of : Facts → Means → Setup
setup_of facts means = record {
  frames = facts.frames;
  cpus = facts.cpus;
  step = facts.step;
  objects = facts.objects;
  locks = 33;
  cpu_words = 512;
  plain = facts.plain;
  lives = λ cache. (cache_of facts cache).live;
  layout = λ cache. (cache_of facts cache).layout;
  checks = λ cache. (cache_of facts cache).checks;
  means = means;
}

-- ---- where things stand, which is so whatever those are

-- the memory word of an object's free pointer, and one of its own words
abbrev pub pointer_in : Facts → ℕ → ℕ → ℕ → ℕ
pointer_in facts cache frame index =
    let layout = (cache_of facts cache).layout in
    (address_of frame index layout + layout.offset) / 8

abbrev pub word_in : Facts → ℕ → ℕ → ℕ → ℕ → ℕ
word_in facts cache frame index word =
    address_of frame index (cache_of facts cache).layout / 8 + word

-- what was loaded of an object's free pointer
abbrev pub found_in : Facts → ℕ → ℕ → ℕ → ℕ → ℕ
found_in facts cache frame index x = hardened cache (pointer_in facts cache frame index) x % 2 ^ 16

-- so small that the address of every object is one (profile)
pub record IsSmall (layout : Layout) : Type 0 where
  pub size : layout.size ≤ 24576
  pub left_pad : layout.left_pad ≤ 24576
  pub offset : layout.offset ≤ 24576
  pub order : layout.order ≤ 3
  pub min_order : layout.min_order ≤ 3
  pub objects : layout.objects ≤ 512
  pub min_objects_slab : layout.min_objects_slab ≤ 512

-- the sizes are those of a machine (profile)
pub record AreFacts (facts : Facts) : Type 0 where
  pub cpus : facts.cpus ≤ 16
  pub step : facts.step ≤ 16
  pub small : All (λ cache. IsSmall cache.layout) facts.caches

-- the random numbers of the first caches
abbrev pub AreRandoms : List ℕ → Type 0
AreRandoms randoms =
    (k : ℕ) → k < length randoms → slice_index randoms k ≡ steps_from_one (k + 1)
