-- What an allocation finds, from the cache that a name names.
use Rattle.std.proofs.Common.{◌≡◌, ◌≢◌, ℕ, zero, suc, ◌+◌, ◌*◌, ◌<◌, ◌≤◌, List, [], ◌∷◌, length, get_or, set, sym, ◌∙◌, ap, subst, arith, Option, Some, None, IfSome, inl, inr, ◌⊎◌, sum_by, get_or-set_same}
use Rattle.std.specs.Option.{option_map}
use Rattle.std.proofs.lemmas.Nat.{row_fits}
use Rattle.slub_common.proofs.Writes.{inside-of}
use Rattle.slub_page_pool.specs.Block.{HasNoBlock}
use Rattle.slub_trace.specs.declared.event.Act.TheVariants.{Alloc}
use Rattle.slub_trace.specs.declared.event.Event.{Event}
use Rattle.slub_object_layout.specs.Layout.{address_of}
use Rattle.slub_cache_create.specs.declared.caches.Cache.{Cache}
use Rattle.slub_trace.specs.declared.reply.Reply.{Reply}
use Rattle.slub_trace.specs.declared.reply.Reply.TheVariants as reply
use Rattle.slub_lists.specs.declared.lists.Held.{Held}
use Rattle.slub_lists.specs.State.{State}
use Rattle.slub_lists.specs.Alloc.{cache_of, checked_of, cpu_place, held_here, named}
use Rattle.slub_lists.specs.Coherent.{IsCoherent, held_under}
use Rattle.slub_lists.specs.Named.{AllocatesFrom, AllocatesNamed}
use Rattle.slub_law_rounds.specs.Event.{GivesFree, IsFree, LacksFrames}
use Rattle.slub_law_rounds.proofs.Founds.{Outcome, finds, injected, no_memory, nothing, of-checked, of-unchecked}
use Rattle.slub_law_rounds.proofs.Steps.{Step, event-step, flushes, frees, gives, keeps, lacks, match_either, match_some, nameless, pokes, pokes_not, reads, reads_none, reads_not, refuses, trims, trims_checked, trims_none, wants, writes, writes_none, writes_not}

-- ---- the object that an allocation gives

-- what an event gives
record Given (s : State) (event : Event) (address : ℕ) (after : State) : Type 0 where
  place : ℕ
  object : ℕ
  held : Held
  live : Cache
  asks : event.act ≡ Alloc place object
  names : named s place ≡ Some held.cache
  is_live : cache_of s held.cache ≡ Some live
  at : reply.Given address ≡ reply.Given (address_of held.frame held.index live.layout)
  unheld : sum_by (held_here held.frame held.index) s.board ≡ 0
  board : after.board ≡ set s.board object (Some held)

step-given : (s : State) (event : Event) (address : ℕ) (after : State) → Step s event (reply.Given address) after → Given s event address after
step-given s event address after (gives place object live held asks names is_live mine is unheld board gone table memory cpus frames dry) =
    record { place = place; object = object; held = held; live = live; asks = asks; names = names; is_live = is_live; at = is; unheld = unheld; board = board }
step-given s event address after (lacks place object cache live asks names is_live is board gone table memory cpus frames dry) = absurd (cc)
step-given s event address after (wants place object cache live slabs asks names is_live checked is kept) = absurd (cc)
step-given s event address after (nameless place object asks none is now) = absurd (cc)
step-given s event address after (frees object live held asks was may is_live is board gone table memory cpus frames dry) = absurd (cc)
step-given s event address after (keeps object damage held slabs asks was may checked taken is now) = absurd (cc)
step-given s event address after (refuses object asks why is now) = absurd (cc)
step-given s event address after (writes object word value live held asks holds within is now) = absurd (cc)
step-given s event address after (writes_none object word value live held asks holds past is now) = absurd (cc)
step-given s event address after (writes_not object word value asks none is now) = absurd (cc)
step-given s event address after (reads object word live held asks holds within is now) = absurd (cc)
step-given s event address after (reads_none object word live held asks holds past is now) = absurd (cc)
step-given s event address after (reads_not object word asks none is now) = absurd (cc)
step-given s event address after (pokes object offset byte held slabs asks knows checked inside is now) = absurd (cc)
step-given s event address after (trims place cache slabs asks names unchecked is kept same_slabs) = absurd (cc)
step-given s event address after (trims_checked place cache slabs asks names checked is now) = absurd (cc)
step-given s event address after (trims_none place asks none is now) = absurd (cc)
step-given s event address after (flushes slabs asks is kept same_slabs) = absurd (cc)
step-given s event address after (pokes_not object offset byte asks why now) = absurd (by why)
  where
    by : (reply.Given address ≡ reply.NotHeld) ⊎ ((reply.Given address ≡ reply.NotChecked) ⊎ (reply.Given address ≡ reply.OutOfSlot)) → ⊥
    by (inl is) = cc
    by (inr (inl is)) = cc
    by (inr (inr is)) = cc

-- what was written is read, where anything is
written-is : (board : List (Option Held)) (object : ℕ) (one other : Held) → get_or (set board object (Some one)) object None ≡ Some other → one ≡ other
written-is [] object one other e = absurd (cc)
written-is (held ∷ board) zero one other e = injected e
written-is (held ∷ board) (suc object) one other e = written-is board object one other e

module _ (s : State) (place cpu worker object : ℕ) (answer : Reply) (after : State) (coherent : IsCoherent s) (cpu_within : cpu < s.cpus) where
  -- the CPU's place of a live cache
  place-within : (cache : ℕ) (live : Cache) → cache_of s cache ≡ Some live → cpu_place s cache cpu < length s.cpu_lists
  place-within cache live is =
      let within : cache < 32 = omega (arith, inside-of s.table.caches cache live is, coherent.shaped.table.numbers) in
      let row : cache * s.cpus + s.cpus ≤ 32 * s.cpus = row_fits cache s.cpus 32 s.cpus within (omega arith) in
      omega (arith, row, cpu_within, coherent.shaped.cpu_lists)

  outcome-of : (cache : ℕ) (live : Cache) → cache_of s cache ≡ Some live → AllocatesFrom s live.layout cache cpu worker object answer after → Outcome s cache cpu worker object live.layout answer after
  outcome-of cache live is done = match_either (checked_of s cache) _ _ (Outcome s cache cpu worker object live.layout answer after) done
      (λ unchecked done. of-unchecked s cache cpu worker object live.layout answer after (place-within cache live is) unchecked done)
      (λ slabs was done. of-checked s cache cpu worker object live.layout answer after coherent slabs was cpu_within done)

  -- what an allocation found, in which cache
  record Found : Type 0 where
    cache : ℕ
    live : Cache
    names : named s place ≡ Some cache
    is_live : cache_of s cache ≡ Some live
    outcome : Outcome s cache cpu worker object live.layout answer after

  found-of : answer ≢ reply.NoSuchCache → AllocatesNamed s place cpu worker object answer after → Found
  found-of other done = match_either (named s place) _ _ Found done
      (λ none nothing. absurd (other nothing.0))
      (λ cache names done. match_some (cache_of s cache) _ Found done (λ live is_live done.
      record { cache = cache; live = live; names = names; is_live = is_live; outcome = outcome-of cache live is_live done }))

pub gives-free : (s : State) (place cpu worker object address : ℕ) (after : State) → IsCoherent s → cpu < s.cpus → object < length s.board → AllocatesNamed s place cpu worker object (reply.Given address) after
    → GivesFree s place cpu object address after
gives-free s place cpu worker object address after coherent cpu_within within done =
    let event : Event = record { line = 0; worker = worker; cpu = cpu; act = Alloc place object } in
    let given = step-given s event address after (event-step s event (reply.Given address) after done) in
    let found = found-of s place cpu worker object (reply.Given address) after coherent cpu_within (λ e. cc) done in
    by given found (asked given.asks) found.outcome
  where
    asked : {a b c d : ℕ} → Alloc a b ≡ Alloc c d → (a ≡ c) × (b ≡ d)
    asked e = (cc, cc)

    addressed : {a b : ℕ} → reply.Given a ≡ reply.Given b → a ≡ b
    addressed e = cc

    by : (given : Given s (record { line = 0; worker = worker; cpu = cpu; act = Alloc place object }) address after) (found : Found s place cpu worker object (reply.Given address) after coherent cpu_within)
        → (place ≡ given.place) × (object ≡ given.object) → Outcome s found.cache cpu worker object found.live.layout (reply.Given address) after → GivesFree s place cpu object address after
    by given found same (nothing none block is) = absurd (cc)
    by given found same (no_memory is) = absurd (cc)
    by given found same (finds f) =
        let there : held_under after object ≡ Some given.held =
        ap (λ (b : List (Option Held)). get_or b object None) given.board ∙ ap (λ n. get_or (set s.board n (Some given.held)) object None) (sym same.1) ∙ get_or-set_same s.board object (Some given.held) None within in
        let one : f.held ≡ given.held = written-is f.board object f.held given.held (sym (ap (λ (b : List (Option Held)). get_or b object None) f.now) ∙ there) in
        let names : named s place ≡ Some given.held.cache = ap (named s) same.0 ∙ given.names in
        let cache : found.cache ≡ given.held.cache = injected (sym found.names ∙ names) in
        record {
          held = given.held;
          there = there;
          cache = names;
          spot = ap (option_map (λ (live : Cache). record { cache = given.held.cache; address = address_of given.held.frame given.held.index live.layout })) given.is_live
              ∙ ap (λ a. Some (record { cache = given.held.cache; address = a })) (sym (addressed given.at));
          free = subst (λ c. IsFree s c cpu given.held) cache (subst (λ (h : Held). IsFree s found.cache cpu h) one f.free);
          unheld = given.unheld;
        }

pub lacks-frames : (s : State) (place cpu worker object : ℕ) (after : State) → IsCoherent s → cpu < s.cpus → AllocatesNamed s place cpu worker object reply.NoFrames after → LacksFrames s place cpu
lacks-frames s place cpu worker object after coherent cpu_within done =
    let found = found-of s place cpu worker object reply.NoFrames after coherent cpu_within (λ e. cc) done in by found found.outcome
  where
    by : (found : Found s place cpu worker object reply.NoFrames after coherent cpu_within) → Outcome s found.cache cpu worker object found.live.layout reply.NoFrames after → LacksFrames s place cpu
    by found (finds f) = absurd (let never : reply.NoFrames ≡ reply.Given (address_of f.held.frame f.held.index found.live.layout) = f.address in cc)
    by found (no_memory is) = absurd (cc)
    by found (nothing none block is) = record {
      cache = found.cache;
      name = found.names;
      no_object = none;
      no_block = subst (λ x. IfSome x (λ live. HasNoBlock s.pool.free live.layout.min_order)) (sym found.is_live) block;
    }
