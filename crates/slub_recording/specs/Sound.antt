-- What holds of every recording that is read.
use Rattle.std.specs.Prelude.{⊤, ℕ, ◌<◌, ◌≤◌, length, All, Some, None}
use Rattle.slub_recording.specs.declared.event.KmemAct.{KmemAct}
use Rattle.slub_recording.specs.declared.event.KmemAct.TheVariants.{CacheAlloc, Kmalloc, CacheFree, Kfree}
use Rattle.slub_recording.specs.declared.event.KmemEvent.{KmemEvent}
use Rattle.slub_recording.specs.Recording.{Recorded}

-- the places of an act are among so many sites and so many names
abbrev pub IsPlaced : ℕ → ℕ → KmemAct → Type 0
IsPlaced sites names (CacheAlloc asked slot site) = site < sites
IsPlaced sites names (Kmalloc slot kind) = ⊤
IsPlaced sites names (CacheFree None) = ⊤
IsPlaced sites names (CacheFree (Some name)) = name < names
IsPlaced sites names Kfree = ⊤

-- places are among the sites and the names, and no CPU is greater than the greatest
pub record IsPlacedWhole (r : Recorded) : Type 0 where
  pub placed : All (λ (e : KmemEvent). IsPlaced (length r.sites) (length r.names) e.act) r.events
  pub cpus : All (λ (e : KmemEvent). e.cpu ≤ r.greatest_cpu) r.events

-- the same, and there are events
pub record IsSound (r : Recorded) : Type 0 where
  pub whole : IsPlacedWhole r
  pub some : 0 < length r.events
