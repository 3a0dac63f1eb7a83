-- What an event does to the slabs of checked caches.
use Rattle.std.proofs.Common.{◌≡◌, ℕ, zero, suc, Bool, true, false, cond, List, [], ◌∷◌, get_or, set, refl, ◌∙◌, ap, subst, Option, Some, None, MatchOption, Result, Ok, Err, inl, inr, ◌⊎◌, ℤ}
use Rattle.std.specs.Option.{option_map_or}
use Rattle.slub_page_pool.specs.FreeFrames.{FreeFrames}
use Rattle.slub_trace.specs.declared.event.Act.TheVariants.{Alloc, Free, Write, Poke}
use Rattle.slub_trace.specs.declared.event.Event.{Event}
use Rattle.slub_object_layout.specs.declared.layout.Layout.{Layout}
use Rattle.slub_cache_create.specs.declared.caches.Cache.{Cache}
use Rattle.slub_red_zone.specs.State.{CheckedState}
use Rattle.slub_red_zone.specs.Steps.{Gives, IsOffset, TakesBack, TakesEmpty, with_byte, with_word as slab_word}
use Rattle.slub_red_zone.specs.declared.checked.CheckedGive.{CheckedGive}
use Rattle.slub_red_zone.specs.declared.checked.CheckedGive.TheVariants as give
use Rattle.slub_red_zone.specs.declared.checked.Run.{Run as SlabRun}
use Rattle.slub_trace.specs.declared.damage.Damage.{Damage}
use Rattle.slub_lists.specs.declared.lists.Held.{Held}
use Rattle.slub_lists.specs.declared.lists.Run.{Run}
use Rattle.slub_trace.specs.declared.reply.Reply.{Reply}
use Rattle.slub_trace.specs.declared.reply.Reply.TheVariants as reply
use Rattle.slub_lists.specs.State.{State}
use Rattle.slub_lists.specs.Alloc.{FindsRun, cache_of, checked_of, lists_of, named, own_free}
use Rattle.slub_lists.specs.Checked.{GivesOrMakes, IsFreedOrKept, LacksMemory, LacksRun, GivesSlot, discarded_where, first_slot, new_given, slot_of_held, with_checked, with_checked_slab}
use Rattle.slub_lists.specs.Coherent.{held_under}
use Rattle.slub_lists.specs.Free.{FreesUnchecked, freed, freed_here, is_current, is_freeable, with_freed, with_taken}
use Rattle.slub_lists.specs.Freeing.{Frees}
use Rattle.slub_lists.specs.Named.{AllocatesNamed}
use Rattle.slub_lists.specs.Words.{is_word, known_to, word_at}
use Rattle.slub_lists.proofs.Keeps.{unchecked_keeps}
use Rattle.slub_lists.proofs.KeepsFreed.{same_settled}
use Rattle.slub_slabinfo_text.specs.Lawful.{Answers}
use Rattle.slub_law_rounds.proofs.Steps.{Holds, Step, event-step, flushes, frees, gives, keeps, lacks, match_bool, match_either, match_some, nameless, pokes, pokes_not, reads, reads_none, reads_not, refuses, trims, trims_checked, trims_none, wants, writes, writes_none, writes_not}

-- the slabs of one checked cache are others
pub record Swaps (s : State) (cache : ℕ) (slabs rest : CheckedState) (after : State) : Type 0 where
  pub was : checked_of s cache ≡ Some slabs
  pub now : after.checked ≡ set s.checked cache (Some rest)

-- the slabs of all are the same, or those of one are others
pub data Slabs (s : State) (event : Event) (answer : Reply) (after : State) : Type 0 where
  same : after.checked ≡ s.checked → Slabs s event answer after
  -- an object was asked for
  gave : (cache : ℕ) (slabs rest : CheckedState) (found : CheckedGive) → Swaps s cache slabs rest after → Gives slabs found rest → Slabs s event answer after
  -- none was there, and a slab was made
  made : (cache : ℕ) (slabs rest : CheckedState) (run : Run) (pool : FreeFrames) (live : Cache) → cache_of s cache ≡ Some live → Swaps s cache slabs (new_given rest run) after → Gives slabs give.Empty rest → FindsRun s.pool live.layout (Some run) pool → Slabs s event answer after
  -- one was taken back, and its slab may be gone
  took : (object : ℕ) (held : Held) (slabs mid rest : CheckedState) (limit : ℕ) (run : Option SlabRun) → event.act ≡ Free object → held_under s object ≡ Some held → Swaps s held.cache slabs rest after → TakesBack slabs (slot_of_held held) (Ok tt) mid
      → TakesEmpty mid held.frame limit run rest → Slabs s event answer after
  wrote : (object word value : ℕ) (held : Held) (live : Cache) (slabs : CheckedState) → event.act ≡ Write word object value → Holds s event.worker object held live → is_word live.layout word ≡ true → Swaps s held.cache slabs (slab_word slabs (slot_of_held held) word value) after → Slabs s event answer after
  poked_byte : (object : ℕ) (offset : ℤ) (byte : ℕ) (held : Held) (slabs : CheckedState) → event.act ≡ Poke object offset byte → answer ≡ reply.Poked → known_to s event.worker object ≡ Some held → IsOffset slabs.layout offset
      → Swaps s held.cache slabs (with_byte slabs (slot_of_held held) offset byte) after → Slabs s event answer after

-- ---- allocation

module _ (s : State) (event : Event) (object cache : ℕ) (live : Cache) (is_live : cache_of s cache ≡ Some live) (answer : Reply) (after : State) (slabs : CheckedState) (was : checked_of s cache ≡ Some slabs) where
  abbrev Goal : Type 0
  Goal = Slabs s event answer after

  of-run : (rest : CheckedState) (pool : FreeFrames) (run : Option Run) → Gives slabs give.Empty rest → FindsRun s.pool live.layout run pool
      → MatchOption run (LacksRun (with_checked s cache rest) pool answer after) (λ run. LacksMemory (with_checked s cache rest) pool run answer after ⊎ GivesSlot (with_checked_slab (with_checked s cache rest) cache pool run rest) live.layout cache event.worker object (first_slot run) answer after)
      → Goal
  of-run rest pool None asked finds none = gave cache slabs rest give.Empty (record { was = was; now = ap (λ (t : State). t.checked) none.1 }) asked
  of-run rest pool (Some run) asked finds (inl none) = gave cache slabs rest give.Empty (record { was = was; now = ap (λ (t : State). t.checked) none.1 }) asked
  of-run rest pool (Some run) asked finds (inr given) =
      made cache slabs rest run pool live is_live (record { was = was; now = ap (λ (t : State). t.checked) given.given ∙ set-set s.checked cache (Some rest) (Some (new_given rest run)) }) asked finds
    where
      set-set : {A : Type 0} (xs : List A) (i : ℕ) (x y : A) → set (set xs i x) i y ≡ set xs i y
      set-set [] i x y = refl
      set-set (z ∷ xs) zero x y = refl
      set-set {A} (z ∷ xs) (suc i) x y = ap (λ (l : List A). z ∷ l) (set-set xs i x y)

  of-found : (rest : CheckedState) (found : CheckedGive) → Gives slabs found rest → GivesOrMakes (with_checked s cache rest) live.layout cache rest event.worker object found answer after → Goal
  of-found rest (give.Given slot) asked given = gave cache slabs rest (give.Given slot) (record { was = was; now = ap (λ (t : State). t.checked) given.given }) asked
  of-found rest give.Empty asked makes = of-run rest makes.1 makes.0 asked makes.2 makes.3

alloc-slabs : (s : State) (event : Event) (place object : ℕ) (answer : Reply) (after : State) → AllocatesNamed s place event.cpu event.worker object answer after → Slabs s event answer after
alloc-slabs s event place object answer after done = match_either (named s place) _ _ (Slabs s event answer after) done
    (λ none nothing. same (ap (λ (t : State). t.checked) nothing.1))
    (λ cache names done. match_some (cache_of s cache) _ (Slabs s event answer after) done (λ live is_live done.
    match_either (checked_of s cache) _ _ (Slabs s event answer after) done
    (λ unchecked done. same (unchecked_keeps s live.layout cache event.cpu event.worker object answer after done).1)
    (λ slabs was done. of-found s event object cache live is_live answer after slabs was done.1 done.0 done.2 done.3)))

-- ---- freeing

either-checked : (s one other : State) (b : Bool) → one.checked ≡ s.checked → other.checked ≡ s.checked → (cond b one other).checked ≡ s.checked
either-checked s one other true first second = first
either-checked s one other false first second = second

freed-checked : (s : State) (layout : Layout) (cache cpu frame index : ℕ) → (freed s layout cache cpu frame index).checked ≡ s.checked
freed-checked s layout cache cpu frame index =
    either-checked s (freed_here s cache cpu index) _ (is_current frame (lists_of s cache cpu).current) refl (same_settled (with_freed s frame index) layout cache cpu frame (own_free s frame)).3

module _ (s : State) (event : Event) (object : ℕ) (held : Held) (answer : Reply) (after : State) (asks : event.act ≡ Free object) (there : held_under s object ≡ Some held) where
  of-unchecked : (layout : Layout) → FreesUnchecked s layout event.cpu event.worker object held answer after → Slabs s event answer after
  of-unchecked layout done = same (ap (λ (t : State). t.checked) done.1 ∙ freed-checked (with_taken s object held.cache) layout held.cache event.cpu held.frame held.index)

  of-checked : (layout : Layout) (slabs rest : CheckedState) (found : Result (Unit {0}) Damage) → checked_of s held.cache ≡ Some slabs → TakesBack slabs (slot_of_held held) found rest
      → IsFreedOrKept s layout rest event.worker object held found answer after → Slabs s event answer after
  of-checked layout slabs rest (Err damage) was taken done = same (ap (λ (t : State). t.checked) done.1)
  of-checked layout slabs rest (Ok x) was taken done =
      took object held slabs rest done.2 layout.min_partial done.1 asks there (record { was = was; now = ap (λ (t : State). t.checked) done.4 ∙ where-checked done.1 }) taken done.3
    where
      where-checked : (run : Option SlabRun) → (discarded_where (with_checked (with_taken s object held.cache) held.cache done.2) held.frame run).checked ≡ set s.checked held.cache (Some done.2)
      where-checked None = refl
      where-checked (Some run) = refl

free-slabs : (s : State) (event : Event) (object : ℕ) (answer : Reply) (after : State) → event.act ≡ Free object → Frees s event.cpu event.worker object answer after → Slabs s event answer after
free-slabs s event object answer after asks done = match_either (get_or s.board object None) _ _ (Slabs s event answer after) done
    (λ none nothing. same (ap (λ (t : State). t.checked) nothing.1))
    (λ held there done. match_bool (is_freeable event.worker held.worker) _ _ (Slabs s event answer after) done
    (λ may done. match_some (cache_of s held.cache) _ (Slabs s event answer after) done (λ live is_live done.
    match_either (checked_of s held.cache) _ _ (Slabs s event answer after) done
    (λ unchecked done. of-unchecked s event object held answer after asks there live.layout done)
    (λ slabs was done. of-checked s event object held answer after asks there live.layout slabs done.1 done.0 was done.2 done.3)))
    (λ other none. same (ap (λ (t : State). t.checked) none.1)))

-- ---- words and bytes

of-step : (s : State) (event : Event) (answer : Reply) (after : State) → Answers s event event.act answer after → Step s event answer after → Slabs s event answer after
of-step s event answer after answers (gives place object live held asks names is_live mine is unheld board gone table memory cpus frames dry) =
    let done : Answers s event (Alloc place object) answer after = subst (λ act. Answers s event act answer after) asks answers in alloc-slabs s event place object answer after done
of-step s event answer after answers (lacks place object cache live asks names is_live is board gone table memory cpus frames dry) =
    let done : Answers s event (Alloc place object) answer after = subst (λ act. Answers s event act answer after) asks answers in alloc-slabs s event place object answer after done
of-step s event answer after answers (wants place object cache live slabs asks names is_live checked is kept) =
    let done : Answers s event (Alloc place object) answer after = subst (λ act. Answers s event act answer after) asks answers in alloc-slabs s event place object answer after done
of-step s event answer after answers (nameless place object asks none is now) = same (ap (λ (t : State). t.checked) now)
of-step s event answer after answers (frees object live held asks was may is_live is board gone table memory cpus frames dry) =
    let done : Answers s event (Free object) answer after = subst (λ act. Answers s event act answer after) asks answers in free-slabs s event object answer after asks done
of-step s event answer after answers (keeps object damage held slabs asks was may checked taken is now) = same (ap (λ (t : State). t.checked) now)
of-step s event answer after answers (refuses object asks why is now) = same (ap (λ (t : State). t.checked) now)
of-step s event answer after answers (writes object word value live held asks holds within is now) = by (checked_of s held.cache) refl
  where
    at : (x : Option CheckedState) → checked_of s held.cache ≡ x → after ≡ option_map_or (λ slabs. with_checked s held.cache (slab_word slabs (slot_of_held held) word value)) x (record s { memory = set s.memory (word_at live.layout held word) value })
    at x e = now ∙ ap (λ x. option_map_or (λ slabs. with_checked s held.cache (slab_word slabs (slot_of_held held) word value)) x (record s { memory = set s.memory (word_at live.layout held word) value })) e

    by : (x : Option CheckedState) → checked_of s held.cache ≡ x → Slabs s event answer after
    by None e = same (ap (λ (t : State). t.checked) (at None e))
    by (Some slabs) e = wrote object word value held live slabs asks holds within (record { was = e; now = ap (λ (t : State). t.checked) (at (Some slabs) e) })
of-step s event answer after answers (writes_none object word value live held asks holds past is now) = same (ap (λ (t : State). t.checked) now)
of-step s event answer after answers (writes_not object word value asks none is now) = same (ap (λ (t : State). t.checked) now)
of-step s event answer after answers (reads object word live held asks holds within is now) = same (ap (λ (t : State). t.checked) now)
of-step s event answer after answers (reads_none object word live held asks holds past is now) = same (ap (λ (t : State). t.checked) now)
of-step s event answer after answers (reads_not object word asks none is now) = same (ap (λ (t : State). t.checked) now)
of-step s event answer after answers (pokes object offset byte held slabs asks knows checked inside is now) =
    poked_byte object offset byte held slabs asks is knows inside (record { was = checked; now = ap (λ (t : State). t.checked) now })
of-step s event answer after answers (pokes_not object offset byte asks why now) = same (ap (λ (t : State). t.checked) now)
of-step s event answer after answers (trims place cache slabs asks names unchecked is kept same_slabs) = same same_slabs
of-step s event answer after answers (trims_checked place cache slabs asks names checked is now) = same (ap (λ (t : State). t.checked) now)
of-step s event answer after answers (trims_none place asks none is now) = same (ap (λ (t : State). t.checked) now)
of-step s event answer after answers (flushes slabs asks is kept same_slabs) = same same_slabs

pub event-slabs : (s : State) (event : Event) (answer : Reply) (after : State) → Answers s event event.act answer after → Slabs s event answer after
event-slabs s event answer after answers = of-step s event answer after answers (event-step s event answer after answers)
