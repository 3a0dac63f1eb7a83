-- What CPUs put away goes to one list at most.
use Rattle.std.proofs.Common.{◌≡◌, ℕ, zero, suc, ◌+◌, ◌<◌, ◌≤◌, Bool, cond, nat_lt, List, [], ◌∷◌, ◌++◌, length, get_or, set, sum_by, fold, refl, ◌∙◌, ap, arith, Option, Some, None, length-set}
use Rattle.std.specs.List.{range_with_len}
use Rattle.std.specs.Option.{option_map_or}
use Rattle.std.proofs.lemmas.List.Sums.{sum_by-cons}
use Rattle.slub_common.specs.Times.{times}
use Rattle.slub_common.proofs.Times.{times-append, times-cons}
use Rattle.slub_lists.specs.declared.lists.CpuLists.{CpuLists}
use Rattle.slub_lists.specs.State.{State}
use Rattle.slub_lists.specs.Alloc.{cpu_place, lists_of, no_lists, node_of, own_free, with_lists, with_node}
use Rattle.slub_lists.specs.Coherent.{if_current, times_current, times_partial}
use Rattle.slub_lists.specs.Free.{discarded, is_spare, moved, moved_all, with_partial}
use Rattle.slub_lists.proofs.Listed.{node-counted}
use Rattle.slub_lists.proofs.Moving.{pick}
use Rattle.slub_lists.specs.Shrink.{flushed, flushed_below, moved_partial, put_away, put_away_slab, put_on_node, put_where, taken_down}

-- ---- sums

-- an element is written, or nothing is where the place is outside
pub sum-set : {X : Type 0} (g : X → ℕ) (xs : List X) (i : ℕ) (v d : X) → g d ≡ 0 → sum_by g (set xs i v) + g (get_or xs i d) ≤ sum_by g xs + g v
sum-set g [] i v d none = omega (arith, none)
sum-set g (x ∷ xs) zero v d none = omega (arith, sum_by-cons g x xs, sum_by-cons g v xs)
sum-set g (x ∷ xs) (suc i) v d none = omega (arith, sum_by-cons g x xs, sum_by-cons g x (set xs i v), sum-set g xs i v d none)

-- ---- how often a slab is somewhere

-- how often it is current or on a list
abbrev pub times_in : State → ℕ → ℕ
times_in s frame = times_current s frame + times_partial s frame

-- each slab is there no more often than before, but for the slab in hand
record IsMovedBy (hand : List ℕ) (old new : State) : Type 0 where
  pub times : (frame : ℕ) → times_in new frame ≤ times_in old frame + times frame hand
  pub nodes : length new.nodes ≡ length old.nodes

by-both : (a b c : State) (one two all : List ℕ) → ((frame : ℕ) → times frame one + times frame two ≤ times frame all) → IsMovedBy one a b → IsMovedBy two b c → IsMovedBy all a c
by-both a b c one two all fit first second = record {
  times = λ frame. omega (arith, first.times frame, second.times frame, fit frame);
  nodes = second.nodes ∙ first.nodes;
}

by-node : (s : State) (cache frame : ℕ) (frames : List ℕ) → ((f : ℕ) → times f frames ≡ times f (node_of s cache) + times f (frame ∷ [])) → IsMovedBy (frame ∷ []) s (with_node s cache frames)
by-node s cache frame frames more = record {
  times = λ f. omega (arith, more f, sum-set (times f) s.nodes cache frames [] refl);
  nodes = length-set s.nodes cache frames;
}

by-none : (s : State) (hand : List ℕ) → IsMovedBy hand s s
by-none s hand = record { times = λ f. omega arith; nodes = refl }

by-gone : (s : State) (frame : ℕ) (hand : List ℕ) → IsMovedBy hand s (discarded s frame)
by-gone s frame hand = record { times = λ f. omega arith; nodes = refl }

tail : (s : State) (cache frame : ℕ) → IsMovedBy (frame ∷ []) s (with_node s cache (node_of s cache ++ frame ∷ []))
tail s cache frame = by-node s cache frame (node_of s cache ++ frame ∷ []) (λ f. times-append f (node_of s cache) (frame ∷ []))

head : (s : State) (cache frame : ℕ) → IsMovedBy (frame ∷ []) s (with_node s cache (frame ∷ node_of s cache))
head s cache frame = by-node s cache frame (frame ∷ node_of s cache) (λ f. omega (arith, times-cons f frame (node_of s cache), times-cons f frame [], none f))
  where
    none : (f : ℕ) → times f [] ≡ 0
    none f = refl

on-node : (s : State) (cache frame : ℕ) (own : List ℕ) → IsMovedBy (frame ∷ []) s (put_on_node s cache frame own)
on-node s cache frame [] = head s cache frame
on-node s cache frame (index ∷ own) = tail s cache frame

by-put : (s : State) (min_partial cache frame : ℕ) (own : List ℕ) → IsMovedBy (frame ∷ []) s (put_where s min_partial cache frame own)
by-put s min_partial cache frame own =
    let has : Bool = nat_lt 0 (length (own_free s frame)) in
    pick (is_spare s min_partial cache frame) (discarded s frame) (cond has (put_on_node s cache frame own) s) (IsMovedBy (frame ∷ []) s) (by-gone s frame (frame ∷ []))
    (pick has (put_on_node s cache frame own) s (IsMovedBy (frame ∷ []) s) (on-node s cache frame own) (by-none s (frame ∷ [])))

by-moved : (s : State) (min_partial cache frame : ℕ) → IsMovedBy (frame ∷ []) s (moved min_partial cache s frame)
by-moved s min_partial cache frame =
    pick (is_spare s min_partial cache frame) (discarded s frame) (with_node s cache (node_of s cache ++ frame ∷ [])) (IsMovedBy (frame ∷ []) s) (by-gone s frame (frame ∷ [])) (tail s cache frame)

by-moved_all : (s : State) (min_partial cache : ℕ) (frames : List ℕ) → IsMovedBy frames s (moved_all s min_partial cache frames)
by-moved_all s min_partial cache [] = by-none s []
by-moved_all s min_partial cache (frame ∷ frames) =
    by-both s (moved min_partial cache s frame) (moved_all (moved min_partial cache s frame) min_partial cache frames) (frame ∷ []) frames (frame ∷ frames)
    (λ f. let none : times f [] ≡ 0 = refl in omega (arith, times-cons f frame frames, times-cons f frame [], none)) (by-moved s min_partial cache frame) (by-moved_all (moved min_partial cache s frame) min_partial cache frames)

-- ---- one CPU

module _ (s : State) (cache cpu : ℕ) where
  -- its lists are written
  lists-written : (v : CpuLists) (f : ℕ) → times_in (with_lists s cache cpu v) f + if_current f 1 (lists_of s cache cpu).current + times f (lists_of s cache cpu).partial
      ≤ times_in s f + if_current f 1 v.current + times f v.partial
  lists-written v f =
      let cur = sum-set (λ (lists : CpuLists). if_current f 1 lists.current) s.cpu_lists (cpu_place s cache cpu) v no_lists refl in
      let part = sum-set (λ (lists : CpuLists). times f lists.partial) s.cpu_lists (cpu_place s cache cpu) v no_lists refl in
      omega (arith, cur, part)

  away-moved : (min_partial : ℕ) → IsMovedBy [] s (put_away s min_partial cache cpu)
  away-moved min_partial = by (lists_of s cache cpu).current refl
    where
      by : (x : Option ℕ) → (lists_of s cache cpu).current ≡ x → IsMovedBy [] s (option_map_or (put_away_slab s min_partial cache cpu) x s)
      by None is = by-none s []
      by (Some frame) is =
          let down : State = taken_down s cache cpu frame in
          let put = by-put down min_partial cache frame (own_free s frame) in
          record {
            times = λ f.
                let was : if_current f 1 (lists_of s cache cpu).current ≡ if_current f 1 (Some frame) = ap (if_current f 1) is in
                let none : times f [] ≡ 0 = refl in
                omega (arith, put.times f, times-cons f frame [], none, was, lists-written (record { current = None; free = []; partial = (lists_of s cache cpu).partial }) f);
            nodes = put.nodes;
          }

  partial-moved : (min_partial : ℕ) → IsMovedBy [] s (moved_partial s min_partial cache cpu)
  partial-moved min_partial =
      let all = by-moved_all (with_partial s cache cpu []) min_partial cache (lists_of s cache cpu).partial in
      record {
        times = λ f.
            let none : times f [] ≡ 0 = refl in
            omega (arith, all.times f, none, lists-written (record (lists_of s cache cpu) { partial = [] }) f);
        nodes = all.nodes;
      }

-- ---- all CPUs

nothing : (f : ℕ) → times f [] + times f [] ≤ times f []
nothing f = let none : times f [] ≡ 0 = refl in omega (arith, none)

by-flushed : (s : State) (min_partial cache : ℕ) (cpus : List ℕ) → IsMovedBy [] s (fold (flushed min_partial cache) s cpus)
by-flushed s min_partial cache [] = by-none s []
by-flushed s min_partial cache (cpu ∷ cpus) =
    let a : State = put_away s min_partial cache cpu in
    let b : State = flushed min_partial cache s cpu in
    by-both s b (fold (flushed min_partial cache) b cpus) [] [] [] nothing
    (by-both s a b [] [] [] nothing (away-moved s cache cpu min_partial) (partial-moved a cache cpu min_partial)) (by-flushed b min_partial cache cpus)

-- where each slab was on one list at most, each is on the node list once at most, and the lists are
-- as many
pub flushed-once : (s : State) (min_partial cache cpus : ℕ) → cache < length s.nodes → ((frame : ℕ) → times_in s frame ≤ 1) → (frame : ℕ) → times frame (node_of (flushed_below s min_partial cache cpus) cache) ≤ 1
flushed-once s min_partial cache cpus within once frame =
    let t : State = flushed_below s min_partial cache cpus in
    let by = by-flushed s min_partial cache (range_with_len 0 cpus) in
    let none : times frame [] ≡ 0 = refl in
    omega (arith, node-counted t frame cache, by.times frame, once frame, none)

pub flushed-nodes : (s : State) (min_partial cache cpus : ℕ) → length (flushed_below s min_partial cache cpus).nodes ≡ length s.nodes
flushed-nodes s min_partial cache cpus = (by-flushed s min_partial cache (range_with_len 0 cpus)).nodes
