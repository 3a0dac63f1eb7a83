-- A try of a worker's next call, an allocation, by the fast path alone (`slab_alloc_node`): it
-- loads the CPU word, and where a free object may be taken, the object's free pointer, and then
-- takes the object off by one exchange of the CPU word. It takes no lock, waits for nobody, and
-- doesn't begin again where it is lost: it makes one step on the table where no object may be
-- taken, and three where one may.
use Rattle.std.specs.Prelude.{◌≡◌, ℕ, ◌-◌, Bool, true, false, not, ◌&&◌, ◌==◌, if◌then◌else◌, List, [], ◌∷◌, Some}
use Rattle.slub_object_layout.specs.Layout.{address_of}
use Rattle.slub_trace.specs.declared.reply.Reply.TheVariants as reply
use Rattle.slub_core.specs.declared.call.Call.{Call}
use Rattle.slub_core.specs.declared.call.CallKind.TheVariants.{Alloc}
use Rattle.slub_core.specs.declared.spot.Spot.TheVariants.{Between}
use Rattle.slub_core.specs.Calls.{call_kind, call_cache}
use Rattle.slub_core.specs.Setup.{Setup}
use Rattle.slub_core.specs.Words.{cpu_in}
use Rattle.slub_core.specs.Alloc.{is_spent}
use Rattle.slub_core.specs.Local.{Local}
use Rattle.slub_workers.specs.declared.fast.Fast.{Fast}
use Rattle.slub_workers.specs.declared.fast.Fast.TheVariants.{Given, Empty, Moved, IdsSpent}
use Rattle.slub_workers.specs.Begun.{Begun}
use Rattle.slub_workers.specs.Rule.{setup_in}
use Rattle.slub_workers.specs.Standing.{Standing, counted}
use Rattle.slub_workers.specs.Turns.{Met, word_alone, after_turns, IsAnswered, IsUnanswered}

-- the worker is between two calls, and the next one allocates an object of this cache, which isn't
-- checked
pub record MayTry (m : Setup) (l : Local) : Type 0 where
  pub cache : ℕ
  pub call : Call
  pub more : List Call
  pub between : l.spot ≡ Between
  pub next : l.todo ≡ call ∷ more
  pub kind : call_kind call ≡ Alloc
  pub names : call_cache call ≡ Some cache
  pub plain : m.checks cache ≡ false

-- a free object may be taken under this CPU word: its transaction id isn't spent, and its freelist
-- has one
abbrev pub may_take : Setup → ℕ → Bool
may_take m word = not (is_spent m (cpu_in word)) && not ((cpu_in word).head == 0)

-- what a try meets that loads this CPU word; and where it goes on, loads this free pointer, and
-- finds this CPU word in its exchange
abbrev pub met_by_try : Setup → ℕ → ℕ → ℕ → List Met
met_by_try m loaded next found =
    if may_take m loaded then word_alone loaded ∷ word_alone next ∷ word_alone found ∷ []
    else word_alone loaded ∷ []

-- how many steps a try makes on the table that loads this CPU word
abbrev pub steps_of_try : Setup → ℕ → ℕ
steps_of_try m loaded = if may_take m loaded then 3 else 1

-- what a try answers that loads this CPU word, and where it goes on, finds that one in its exchange
abbrev pub fast_answer : Setup → ℕ → ℕ → ℕ → Fast
fast_answer m cache loaded found =
    let c = cpu_in loaded in
    if is_spent m c then IdsSpent c.tid
    else if c.head == 0 then Empty loaded
    else if found == loaded then Given (address_of c.frame (c.head - 1) (m.layout cache))
    else Moved found

-- what becomes of the call: only an object is a reply to it
abbrev pub IsTold : Local → Fast → Local → Type 0
IsTold before (Given address) after = IsAnswered before (reply.Given address) after
IsTold before _ after = IsUnanswered before after

-- the worker that stood so has tried its next call, of this cache, was answered so, and stands
-- where the turns of the step machine lead that find what it found
pub record HasTried (key : Begun) (cache : ℕ) (x : Standing) (answer : Fast) (after : Standing)
    : Type 0 where
  -- the CPU word that it loads, the free pointer, and the CPU word that its exchange finds
  pub loaded : ℕ
  pub next : ℕ
  pub found : ℕ
  pub answers : answer ≡ fast_answer (setup_in key) cache loaded found
  pub leads : after
      ≡ after_turns (setup_in key) true x (met_by_try (setup_in key) loaded next found)
  pub told : IsTold x.local answer after.local
  -- it makes no other step on the table
  pub steps : after.steps ≡ counted x.steps (steps_of_try (setup_in key) loaded)
