-- What is done at once asks of what the locks guard.
use Rattle.std.specs.Prelude.{◌≡◌, Bool, List}
use Rattle.slub_core.specs.Setup.{Setup}
use Rattle.slub_core.specs.Local.{Change, noted}
use Rattle.slub_core.specs.Steps.{changed}
use Rattle.slub_core.specs.declared.guarded.Guarded.{Guarded}
use Rattle.slub_core.specs.Values.{values_of, rooms_of}
use Rattle.slub_turns.specs.Fits.{AtOnceFits, HasCallFor}

-- the reply that comes with a change is noted, and what is done at once at the spot that it leads
-- to fits what the locks guard then
pub record GuardedFits (guarded : List Guarded) (c : Change) : Type 0 where
  pub call : HasCallFor c.local c.reply
  pub at_once : AtOnceFits guarded (noted c.local c.reply) (noted c.local c.reply).spot

-- both changes and their replies, whether memory is refused in them or not
pub record SettledFits (m : Setup) (guarded : List Guarded) (c : Change) : Type 0 where
  pub first : GuardedFits guarded c
  pub second : (refused : Bool) (after : List Guarded)
      → values_of after ≡ (changed m refused c).value → rooms_of after ≡ rooms_of guarded
      → GuardedFits after (changed m refused c)
  pub last : (refused : Bool) → let d = changed m refused (changed m refused c) in
      HasCallFor d.local d.reply
