-- No slab that has an object on its own freelist is lost by a free.
use Rattle.std.proofs.Common.{◌≡◌, ℕ, ◌+◌, ◌*◌, ◌<◌, ◌++◌, ◌&&◌, Bool, true, false, eqb, List, [], ◌∷◌, length, get_or, filter, Option, Some, None, Result, Ok, Err, MatchOption, inl, inr, refl, ap, sym, subst, arith, get_or-set_other, nat_le, nat_lt}
use Rattle.std.specs.Prelude.{MatchBool, not}
use Rattle.std.proofs.lemmas.List.Sums.{sum_by-set}
use Rattle.std.proofs.lemmas.Bool.{cases_eq, cond_both}
use Rattle.std.proofs.lemmas.Bool.Decides.{nat_tests}
use Rattle.slub_common.specs.Times.{times}
use Rattle.slub_common.proofs.Times.{times-append, times-cons, times-filter_pass}
use Rattle.slub_object_layout.specs.declared.layout.Layout.{Layout}
use Rattle.slub_lists.specs.declared.lists.CpuLists.{CpuLists}
use Rattle.slub_cache_create.specs.declared.caches.Cache.{Cache}
use Rattle.slub_lists.specs.declared.lists.Held.{Held}
use Rattle.slub_trace.specs.declared.reply.Reply.{Reply}
use Rattle.slub_trace.specs.declared.reply.Reply.TheVariants.{NotHeld}
use Rattle.slub_lists.specs.State.{State}
use Rattle.slub_lists.specs.Alloc.{cache_of, checked_of, cpu_place, lists_of, node_of, own_free, with_node}
use Rattle.slub_lists.specs.Coherent.{IsCoherent, IsKept, IsListed, IsShaped, times_current, times_partial}
use Rattle.slub_lists.specs.Free.{FreesUnchecked, discarded, drained, freed, freed_here, freed_there, is_current, is_freeable, is_frozen, is_spare, moved, moved_all, put_partial, settled, without_spare, with_freed, with_partial, with_taken, without_slab}
use Rattle.slub_lists.specs.Freeing.{Frees, FreesHeld}
use Rattle.slub_lists.specs.Checked.{FreesChecked, IsFreedOrKept}
use Rattle.slub_red_zone.specs.State.{CheckedState}
use Rattle.slub_trace.specs.declared.damage.Damage.{Damage}
use Rattle.slub_lists.proofs.Times.{current-same, current-other}
use Rattle.slub_lists.proofs.Listed.{current-written, partial-written}
use Rattle.slub_lists.proofs.Coherence.{live-inside, place-inside, IsSome-live}
use Rattle.slub_lists.proofs.Kept.{IsKeptBut, at_emptied, kept-no-hand}
use Rattle.slub_lists.proofs.Moving.{pick, moved-nodes, drained-cpus, drained-length}
use Rattle.slub_lists.proofs.Taking.{listed-with_taken}
use Rattle.slub_lists.proofs.Settling.{frozen-current}

-- a slab in hand goes
kept-discarded : (s : State) (frame : ℕ) (hand : List ℕ) → IsKeptBut (frame ∷ hand) s → IsKeptBut hand (discarded s frame)
kept-discarded s frame hand kept f =
    at_emptied s.frees frame f (times f hand + times_current s f + times_partial s f)
    (λ ne some. omega (arith, kept f some, times-cons f frame hand, current-other f frame 1 ne))

-- or it comes to the node list
kept-on-node : (s : State) (cache frame : ℕ) (hand : List ℕ) → cache < length s.nodes → IsKeptBut (frame ∷ hand) s → IsKeptBut hand (with_node s cache (node_of s cache ++ frame ∷ []))
kept-on-node s cache frame hand slot kept f some =
    let none : times f [] ≡ 0 = refl in
    let node = sum_by-set (times f) s.nodes cache (node_of s cache ++ frame ∷ []) [] slot in
    omega (arith, kept f some, times-cons f frame hand, node, times-append f (node_of s cache) (frame ∷ []), times-cons f frame [], none)

-- the two ways of moving it
kept-moved : (min_partial cache frame : ℕ) (s : State) (hand : List ℕ) → cache < length s.nodes → IsKeptBut (frame ∷ hand) s → IsKeptBut hand (moved min_partial cache s frame)
kept-moved min_partial cache frame s hand slot kept =
    pick (is_spare s min_partial cache frame) (discarded s frame) (with_node s cache (node_of s cache ++ frame ∷ [])) (IsKeptBut hand) (kept-discarded s frame hand kept) (kept-on-node s cache frame hand slot kept)

-- so a set in hand has places once it is moved
kept-moved_all : (min_partial cache : ℕ) (s : State) (frames hand : List ℕ) → cache < length s.nodes → IsKeptBut (frames ++ hand) s → IsKeptBut hand (moved_all s min_partial cache frames)
kept-moved_all min_partial cache s [] hand slot kept = kept
kept-moved_all min_partial cache s (frame ∷ frames) hand slot kept =
    kept-moved_all min_partial cache (moved min_partial cache s frame) frames hand (omega (arith, slot, moved-nodes min_partial cache frame s)) (kept-moved min_partial cache frame s (frames ++ hand) slot kept)

module _ (s : State) (cache cpu : ℕ) (within : cpu < s.cpus) (inside : cpu_place s cache cpu < length s.cpu_lists) (slot : cache < length s.nodes) where
  -- a full partial list is taken in hand and moved
  kept-drained : (layout : Layout) (hand : List ℕ) → IsKeptBut hand s → IsKeptBut hand (drained s layout cache cpu)
  kept-drained layout hand kept =
      let lists : CpuLists = lists_of s cache cpu in
      let v : CpuLists = record lists { partial = [] } in
      let in_hand : IsKeptBut (lists.partial ++ hand) (with_partial s cache cpu []) = λ f some.
      let none : times f [] ≡ 0 = refl in
      omega (arith, kept f some, times-append f lists.partial hand, current-written s cache cpu within inside f v, partial-written s cache cpu within inside f v, none) in
      pick (nat_le layout.cpu_partial_slabs (length lists.partial)) (moved_all (with_partial s cache cpu []) layout.min_partial cache lists.partial) s (IsKeptBut hand)
      (kept-moved_all layout.min_partial cache (with_partial s cache cpu []) lists.partial hand slot in_hand) kept

  -- a slab in hand comes to the CPU's partial list
  kept-put : (layout : Layout) (frame : ℕ) → IsKeptBut (frame ∷ []) s → IsKept (put_partial s layout cache cpu frame)
  kept-put layout frame kept f some =
      let rest : State = drained s layout cache cpu in
      let lists : CpuLists = lists_of rest cache cpu in
      let v : CpuLists = record lists { partial = frame ∷ lists.partial } in
      let cpus = drained-cpus s layout cache cpu in
      let same : cpu_place rest cache cpu ≡ cpu_place s cache cpu = ap (λ n. cache * n + cpu) cpus in
      let rest_within : cpu < rest.cpus = omega (arith, within, cpus) in
      let rest_inside : cpu_place rest cache cpu < length rest.cpu_lists = omega (arith, inside, same, drained-length s layout cache cpu) in
      let none : times f [] ≡ 0 = refl in
      omega (arith, kept-drained layout (frame ∷ []) kept f some, times-cons f frame [], none, times-cons f frame lists.partial, current-written rest cache cpu rest_within rest_inside f v, partial-written rest cache cpu rest_within rest_inside f v)

  -- only a CPU freelist changes
  kept-here : (index : ℕ) → IsKept s → IsKept (freed_here s cache cpu index)
  kept-here index kept f some =
      let lists : CpuLists = lists_of s cache cpu in
      let v : CpuLists = record lists { free = index ∷ lists.free } in
      omega (arith, kept f some, current-written s cache cpu within inside f v, partial-written s cache cpu within inside f v)

  -- a slab is taken off the node list and goes
  kept-without_spare : (min_partial frame : ℕ) → IsKept s → IsKept (without_spare s min_partial cache frame)
  kept-without_spare min_partial frame kept =
      let t : State = without_slab s cache frame in
      let in_hand : IsKeptBut (frame ∷ []) t = λ f some.
      let none : times f [] ≡ 0 = refl in
      elim (cases_eq f frame) [
        | inl e ↦ omega (arith, times-cons f frame [], current-same f frame 1 e)
        | inr ne ↦
            let node = sum_by-set (times f) s.nodes cache (filter (λ other. not (eqb other frame)) (node_of s cache)) [] slot in
            let stays = times-filter_pass f (λ other. not (eqb other frame)) (node_of s cache) (grind (arith, nat_tests, ne)) in
            omega (arith, kept f some, node, stays, times-cons f frame [], none)
      ] in
      pick (is_spare s min_partial cache frame && nat_lt 0 (times frame (node_of s cache))) (discarded t frame) s IsKept (kept-no-hand (discarded t frame) (kept-discarded t frame [] in_hand)) kept

-- a slab's own freelist has one object more, and it has a place or is in hand
kept-with_freed : (s : State) (frame index : ℕ) → 0 < times_current s frame + times_partial s frame → IsKept s → IsKept (with_freed s frame index)
kept-with_freed s frame index here kept f some =
    elim (cases_eq f frame) [
      | inl e ↦ subst (λ n. 0 < times_current s n + times_partial s n) (sym e) here
      | inr ne ↦ let same = ap length (get_or-set_other s.frees frame f (index ∷ own_free s frame) [] ne) in kept f (omega (arith, some, same))
    ]

-- or it is taken in hand
freed-in-hand : (s : State) (frame index : ℕ) → IsKept s → IsKeptBut (frame ∷ []) (with_freed s frame index)
freed-in-hand s frame index kept f some =
    elim (cases_eq f frame) [
      | inl e ↦ omega (arith, times-cons f frame [], current-same f frame 1 e)
      | inr ne ↦ let same = ap length (get_or-set_other s.frees frame f (index ∷ own_free s frame) [] ne) in omega (arith, kept f (omega (arith, some, same)))
    ]

-- a frozen slab is current
frozen-kept : (s : State) (frame index : ℕ) → IsListed s → IsKept s → is_frozen s frame ≡ true → IsKept (with_freed s frame index)
frozen-kept s frame index listed kept frozen = kept-with_freed s frame index (omega (arith, frozen-current s frame listed frozen)) kept

module _ (s : State) (layout : Layout) (cache cpu frame index : ℕ) (within : cpu < s.cpus) (inside : cpu_place s cache cpu < length s.cpu_lists) (slot : cache < length s.nodes) (listed : IsListed s) (kept : IsKept s) where
  -- a slab that was full is in hand, and another has its place already
  kept-settled : (own : List ℕ) → own_free s frame ≡ own → IsKept (settled (with_freed s frame index) layout cache cpu frame own)
  kept-settled [] full =
      let t : State = with_freed s frame index in
      cond_both (is_frozen s frame) t (put_partial t layout cache cpu frame) IsKept (frozen-kept s frame index listed kept)
      (λ _. kept-put t cache cpu within inside slot layout frame (freed-in-hand s frame index kept))
  kept-settled (other ∷ free) stocked =
      let t : State = with_freed s frame index in
      let there = kept-with_freed s frame index (kept frame (let e = ap length stocked in omega (arith, e))) kept in
      pick (is_frozen s frame) t (without_spare t layout.min_partial cache frame) IsKept there (kept-without_spare t cache cpu within inside slot layout.min_partial frame there)

  -- so the free of an object loses no slab
  kept-freed : IsKept (freed s layout cache cpu frame index)
  kept-freed =
      pick (is_current frame (lists_of s cache cpu).current) (freed_here s cache cpu index) (freed_there s layout cache cpu frame index) IsKept
      (kept-here s cache cpu within inside slot index kept) (kept-settled (own_free s frame) refl)

-- a slab of a checked cache has no freelist here
kept-checked : (s after : State) (layout : Layout) (rest : CheckedState) (worker object : ℕ) (held : Held) (answer : Result (Unit {0}) Damage) (reply : Reply) → IsKept s
    → IsFreedOrKept s layout rest worker object held answer reply after → IsKept after
kept-checked s after layout rest worker object held (Err damage) reply kept done = subst IsKept (sym done.1) kept
kept-checked s after layout rest worker object held (Ok x) reply kept (said, None, last, empty, is) = subst IsKept (sym is) kept
kept-checked s after layout rest worker object held (Ok x) reply kept (said, Some run, last, empty, is) =
    subst IsKept (sym is) (λ f. at_emptied s.frees held.frame f (times_current s f + times_partial s f) (λ ne some. kept f some))

module _ (s : State) (cpu worker object : ℕ) (shaped : IsShaped s) (listed : IsListed s) (kept : IsKept s) (within : cpu < s.cpus) where
  -- the cases of what a free answers, from the innermost on
  from-kept : (after : State) (x : Option CheckedState) (layout : Layout) (held : Held) (reply : Reply) → held.cache < 32
      → MatchOption x (FreesUnchecked s layout cpu worker object held reply after) (λ slabs. FreesChecked s layout slabs worker object held reply after) → IsKept after
  from-kept after None layout held reply live done =
      let slot : held.cache < length s.nodes = omega (arith, live, shaped.nodes) in
      subst IsKept (sym done.1)
      (kept-freed (with_taken s object held.cache) layout held.cache cpu held.frame held.index within (place-inside s held.cache cpu shaped live within) slot (listed-with_taken s object held.cache listed) kept)
  from-kept after (Some slabs) layout held reply live done = kept-checked s after layout done.1 worker object held done.0 reply kept done.3

  held-kept : (after : State) (x : Option Cache) (held : Held) (reply : Reply)
      → (MatchOption x ⊥ (λ live. MatchOption (checked_of s held.cache) (FreesUnchecked s live.layout cpu worker object held reply after) (λ slabs. FreesChecked s live.layout slabs worker object held reply after)) → held.cache < 32)
      → MatchOption x ⊥ (λ live. MatchOption (checked_of s held.cache) (FreesUnchecked s live.layout cpu worker object held reply after) (λ slabs. FreesChecked s live.layout slabs worker object held reply after)) → IsKept after
  held-kept after None held reply live done = absurd done
  held-kept after (Some cache) held reply live done = from-kept after (checked_of s held.cache) cache.layout held reply (live done) done

  able-kept : (after : State) (b : Bool) (held : Held) (reply : Reply) → MatchBool b (FreesHeld s cpu worker object held reply after) ((reply ≡ NotHeld) × (after ≡ s)) → IsKept after
  able-kept after true held reply done =
      held-kept after (cache_of s held.cache) held reply (λ live. omega (arith, live-inside s.table.caches held.cache (IsSome-live (cache_of s held.cache) _ live), shaped.table.numbers)) done
  able-kept after false held reply done = subst IsKept (sym done.1) kept

  number-kept : (after : State) (x : Option Held) (reply : Reply)
      → MatchOption x ((reply ≡ NotHeld) × (after ≡ s)) (λ held. MatchBool (is_freeable worker held.worker) (FreesHeld s cpu worker object held reply after) ((reply ≡ NotHeld) × (after ≡ s))) → IsKept after
  number-kept after None reply done = subst IsKept (sym done.1) kept
  number-kept after (Some held) reply done = able-kept after (is_freeable worker held.worker) held reply done

-- a free loses no slab
pub frees-kept : (s after : State) (cpu worker object : ℕ) (reply : Reply) → IsCoherent s → cpu < s.cpus → Frees s cpu worker object reply after → IsKept after
frees-kept s after cpu worker object reply coherent within done =
    number-kept s cpu worker object coherent.shaped coherent.listed coherent.kept within after (get_or s.board object None) reply done
