-- Events that are answered on the lists one after the other, with the transaction ids beside them.
use Rattle.std.specs.Prelude.{◌≡◌, ℕ, ◌+◌, ◌*◌, ◌/◌, ◌%◌, ◌≤◌, ◌==◌, ◌&&◌, if◌then◌else◌, Bool, false, List, [], ◌∷◌, sum_by, Option, Some, None}
use Rattle.slub_trace.specs.declared.event.Act.{Act}
use Rattle.slub_trace.specs.declared.event.Act.TheVariants as act
use Rattle.slub_trace.specs.declared.event.Event.{Event}
use Rattle.slub_trace.specs.declared.reply.Reply.{Reply}
use Rattle.slub_cache_create.specs.Table.{Table}
use Rattle.slub_lists.specs.State.{State}
use Rattle.slub_lists.specs.Coherent.{IsCoherent}
use Rattle.slub_law_opening.specs.Opening.{Beside, tid_of}
use Rattle.slub_calls.specs.Calls.{cache_named}
use Rattle.slub_slabinfo_text.specs.Lawful.{Answers}
use Rattle.slub_calls.specs.Changes.{beside_after}

-- ---- at most

-- CPU word n, of 16 * cache + CPU, is of the cache of this number, if there is one
abbrev pub is_of_cache : ℕ → Option ℕ → Bool
is_of_cache n None = false
is_of_cache n (Some cache) = n / 16 == cache

abbrev pub is_of_cpu : ℕ → ℕ → Bool
is_of_cpu n cpu = n % 16 == cpu

-- how often at most an act on a CPU changes CPU word n
abbrev pub most_changes : Table → ℕ → ℕ → Act → ℕ
most_changes table n cpu (act.Alloc place object) =
    if is_of_cpu n cpu && is_of_cache n (cache_named table place) then 2 else 0
most_changes table n cpu (act.Free object) = if is_of_cpu n cpu then 1 else 0
most_changes table n cpu (act.Write word object value) = 0
most_changes table n cpu (act.Read word object) = 0
most_changes table n cpu (act.Poke object offset byte) = 0
most_changes table n cpu (act.Trim place) =
    if is_of_cache n (cache_named table place) then 1 else 0
most_changes table n cpu act.Flush = if is_of_cpu n cpu then 1 else 0

-- how often these events do
abbrev pub changes_of : Table → List Event → ℕ → ℕ
changes_of table events n = sum_by (λ event. most_changes table n event.cpu event.act) events

-- each transaction id grew by the step for each change of its word, of which there were at most so
-- many. Else nothing beside the lists has changed
pub record IsGrown (most : ℕ → ℕ) (b d : Beside) : Type 0 where
  pub step : d.step ≡ b.step
  pub means : d.means ≡ b.means
  pub links : d.links ≡ b.links
  pub tids : (n : ℕ)
      → (times : ℕ) × (times ≤ most n) × (tid_of d n ≡ tid_of b n + times * b.step)

-- ---- event by event

-- the events are answered one after the other, the machine is coherent after each, and the
-- transaction ids grow with them
abbrev pub RunsWithIds : State → Beside → List Event → List Reply → State → Beside → Type 0
RunsWithIds s b [] [] after d = (after ≡ s) × (d ≡ b)
RunsWithIds s b (event ∷ events) (reply ∷ replies) after d =
    (mid : State) × Answers s event event.act reply mid × IsCoherent mid
    × RunsWithIds mid (beside_after s b event.worker event.cpu event.act reply) events replies after
    d
RunsWithIds s b _ _ after d = ⊥
