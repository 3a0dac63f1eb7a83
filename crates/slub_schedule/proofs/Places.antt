-- No two places have one number, and each is one of the table's.
use Rattle.std.proofs.Common.{◌≡◌, ◌<◌, ◌≤◌, ap, arith}
use Rattle.slub_core.specs.declared.step.Place.{Place}
use Rattle.slub_core.specs.declared.step.Place.TheVariants.{LockOf, ListOf, CpuOf, SlabOf, BoardOf, MemoryOf, LinkOf}
use Rattle.slub_core.specs.Setup.{Setup, IsSetup}
use Rattle.slub_core.specs.Words.{number_of, word_count}
use Rattle.slub_schedule.specs.Table.{HasPlace}
use Rattle.slub_schedule.specs.Laws.{PlacesAreApart}

place_below : (m : Setup) (p : Place) → IsSetup m → HasPlace m p → number_of m p < word_count m
place_below m (LockOf n) setup has = let frames = setup.frames.0 in omega arith
place_below m (ListOf n) setup has = let frames = setup.frames.0 in omega arith
place_below m (CpuOf n) setup has = let frames = setup.frames.0 in omega arith
place_below m (SlabOf n) setup has = let frames = setup.frames.0 in omega arith
place_below m (BoardOf n) setup has = let frames = setup.frames.0 in omega (arith, has.0, has.1)
place_below m (MemoryOf n) setup has = let frames = setup.frames.0 in omega arith
place_below m (LinkOf n) setup has = let frames = setup.frames.0 in omega arith

same_place : (m : Setup) (p q : Place) → 1 ≤ m.objects → HasPlace m p → HasPlace m q → number_of m p ≡ number_of m q → p ≡ q
same_place m (LockOf n) (LockOf k) some has have is = ap LockOf (omega arith)
same_place m (LockOf n) (ListOf k) some has have is = absurd (omega arith)
same_place m (LockOf n) (CpuOf k) some has have is = absurd (omega arith)
same_place m (LockOf n) (SlabOf k) some has have is = absurd (omega arith)
same_place m (LockOf n) (BoardOf k) some has have is = absurd (omega (arith, have.0, have.1))
same_place m (LockOf n) (MemoryOf k) some has have is = absurd (omega arith)
same_place m (LockOf n) (LinkOf k) some has have is = absurd (omega arith)
same_place m (ListOf n) (LockOf k) some has have is = absurd (omega arith)
same_place m (ListOf n) (ListOf k) some has have is = ap ListOf (omega arith)
same_place m (ListOf n) (CpuOf k) some has have is = absurd (omega arith)
same_place m (ListOf n) (SlabOf k) some has have is = absurd (omega arith)
same_place m (ListOf n) (BoardOf k) some has have is = absurd (omega (arith, have.0, have.1))
same_place m (ListOf n) (MemoryOf k) some has have is = absurd (omega arith)
same_place m (ListOf n) (LinkOf k) some has have is = absurd (omega arith)
same_place m (CpuOf n) (LockOf k) some has have is = absurd (omega arith)
same_place m (CpuOf n) (ListOf k) some has have is = absurd (omega arith)
same_place m (CpuOf n) (CpuOf k) some has have is = ap CpuOf (omega arith)
same_place m (CpuOf n) (SlabOf k) some has have is = absurd (omega arith)
same_place m (CpuOf n) (BoardOf k) some has have is = absurd (omega (arith, have.0, have.1))
same_place m (CpuOf n) (MemoryOf k) some has have is = absurd (omega arith)
same_place m (CpuOf n) (LinkOf k) some has have is = absurd (omega arith)
same_place m (SlabOf n) (LockOf k) some has have is = absurd (omega arith)
same_place m (SlabOf n) (ListOf k) some has have is = absurd (omega arith)
same_place m (SlabOf n) (CpuOf k) some has have is = absurd (omega arith)
same_place m (SlabOf n) (SlabOf k) some has have is = ap SlabOf (omega arith)
same_place m (SlabOf n) (BoardOf k) some has have is = absurd (omega (arith, have.0, have.1))
same_place m (SlabOf n) (MemoryOf k) some has have is = absurd (omega arith)
same_place m (SlabOf n) (LinkOf k) some has have is = absurd (omega arith)
same_place m (BoardOf n) (LockOf k) some has have is = absurd (omega (arith, has.0, has.1))
same_place m (BoardOf n) (ListOf k) some has have is = absurd (omega (arith, has.0, has.1))
same_place m (BoardOf n) (CpuOf k) some has have is = absurd (omega (arith, has.0, has.1))
same_place m (BoardOf n) (SlabOf k) some has have is = absurd (omega (arith, has.0, has.1))
same_place m (BoardOf n) (BoardOf k) some has have is = ap BoardOf (omega (arith, has.0, has.1, have.0, have.1))
same_place m (BoardOf n) (MemoryOf k) some has have is = absurd (omega (arith, has.0, has.1))
same_place m (BoardOf n) (LinkOf k) some has have is = absurd (omega (arith, has.0, has.1))
same_place m (MemoryOf n) (LockOf k) some has have is = absurd (omega arith)
same_place m (MemoryOf n) (ListOf k) some has have is = absurd (omega arith)
same_place m (MemoryOf n) (CpuOf k) some has have is = absurd (omega arith)
same_place m (MemoryOf n) (SlabOf k) some has have is = absurd (omega arith)
same_place m (MemoryOf n) (BoardOf k) some has have is = absurd (omega (arith, have.0, have.1))
same_place m (MemoryOf n) (MemoryOf k) some has have is = ap MemoryOf (omega arith)
same_place m (MemoryOf n) (LinkOf k) some has have is = absurd (omega arith)
same_place m (LinkOf n) (LockOf k) some has have is = absurd (omega arith)
same_place m (LinkOf n) (ListOf k) some has have is = absurd (omega arith)
same_place m (LinkOf n) (CpuOf k) some has have is = absurd (omega arith)
same_place m (LinkOf n) (SlabOf k) some has have is = absurd (omega arith)
same_place m (LinkOf n) (BoardOf k) some has have is = absurd (omega (arith, have.0, have.1))
same_place m (LinkOf n) (MemoryOf k) some has have is = absurd (omega arith)
same_place m (LinkOf n) (LinkOf k) some has have is = ap LinkOf (omega arith)

pub places_apart : PlacesAreApart
places_apart m p q setup some has have = (place_below m p setup has, same_place m p q some has have)
