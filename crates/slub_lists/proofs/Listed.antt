-- Each slab stays on one list at most, and each list keeps to its cache.
use Rattle.std.proofs.Common.{◌≡◌, ◌≢◌, ℕ, ◌+◌, ◌*◌, ◌/◌, ◌<◌, ◌≤◌, ◌↔◌, Bool, true, false, List, [], length, get_or, set, sum_by, Option, Some, None, option_map, is_some, IsSome, IfSome, IsTrue, MatchOption, inl, inr, refl, ap, sym, ◌∙◌, subst, arith}
use Rattle.std.specs.List.{range_with_len}
use Rattle.std.proofs.lemmas.List.Sums.{sum_by-set}
use Rattle.std.proofs.lemmas.List.Folds.{sum_by-replicate}
use Rattle.std.proofs.lemmas.Bool.{cases_eq}
use Rattle.std.proofs.lemmas.Nat.{div-mul-add}
use Rattle.slub_page_pool.specs.FreeFrames.{FreeFrames}
use Rattle.slub_lists.specs.declared.lists.Slab.{Slab}
use Rattle.slub_lists.specs.declared.lists.CpuLists.{CpuLists}
use Rattle.slub_lists.specs.declared.lists.Held.{Held}
use Rattle.slub_lists.specs.declared.lists.Run.{Run}
use Rattle.slub_lists.specs.State.{State}
use Rattle.slub_lists.specs.Alloc.{marked, no_lists, cpu_place, lists_of, node_of, slab_of, own_free, retired, taken_up, with_new_slab, with_given, with_lists, with_node}
use Rattle.slub_common.specs.Times.{times}
use Rattle.slub_lists.specs.Coherent.{IsListed, times_current, times_partial, if_current, all_on_board, opening}
use Rattle.slub_lists.specs.Steps.{IsTakable}
use Rattle.slub_lists.proofs.Writes.{at_marked}
use Rattle.slub_common.proofs.Writes.{at_written, at_written_else, get_or-replicate_any}
use Rattle.slub_lists.proofs.Times.{current-same, current-other}
use Rattle.slub_common.proofs.Sums.{element-counted}

-- the slab, if there is one, is one of this cache
abbrev pub IsOf : ℕ → Option Slab → Type 0
IsOf cache x = IfSome x (λ slab. slab.cache ≡ cache)

-- the slab, if there is one, is frozen exactly where it is current
abbrev pub IsFrozenBy : ℕ → Option Slab → Type 0
IsFrozenBy times x = IfSome x (λ slab. IsTrue slab.frozen ↔ (0 < times))

-- a mark leaves a slab live and with its cache
IsOf-marked : (cache : ℕ) (b : Bool) (x : Option Slab) → IsOf cache x → IsOf cache (option_map (marked b) x)
IsOf-marked cache b None h = h
IsOf-marked cache b (Some slab) h = h

IsSome-marked : (b : Bool) (x : Option Slab) → IsSome x → IsSome (option_map (marked b) x)
IsSome-marked b None h = h
IsSome-marked b (Some slab) h = h

IsOf-same : (cache other : ℕ) (x : Option Slab) → cache ≡ other → IsOf cache x → IsOf other x
IsOf-same cache other x e h = subst (λ n. IsOf n x) e h

pub IsFrozenBy-same : (n m : ℕ) (x : Option Slab) → n ≡ m → IsFrozenBy n x → IsFrozenBy m x
IsFrozenBy-same n m x e h = subst (λ n. IsFrozenBy n x) e h

-- a slab that is unfrozen is current nowhere, and one that is frozen is current
IsFrozenBy-none : (n : ℕ) (x : Option Slab) → n ≡ 0 → IsFrozenBy n (option_map (marked false) x)
IsFrozenBy-none n None none = tt
IsFrozenBy-none n (Some slab) none = (λ h. cc, λ h. absurd (omega arith))

IsFrozenBy-one : (n : ℕ) (x : Option Slab) → 0 < n → IsFrozenBy n (option_map (marked true) x)
IsFrozenBy-one n None some = tt
IsFrozenBy-one n (Some slab) some = (λ h. some, λ h. refl)

pub IsOf-live : (cache : ℕ) (x : Option Slab) → MatchOption x ⊥ (λ slab. slab.cache ≡ cache) → IsOf cache x
IsOf-live cache None h = absurd h
IsOf-live cache (Some slab) h = h

pub IsSome-live : (cache : ℕ) (x : Option Slab) → MatchOption x ⊥ (λ slab. slab.cache ≡ cache) → IsSome x
IsSome-live cache None h = absurd h
IsSome-live cache (Some slab) h = refl

pub live-from : (cache : ℕ) (x : Option Slab) → IsSome x → IsOf cache x → MatchOption x ⊥ (λ slab. slab.cache ≡ cache)
live-from cache None some h = cc
live-from cache (Some slab) some h = h

-- a place belongs to one cache
pub same-cache : (cpus cache cpu other other_cpu : ℕ) → cpu < cpus → other_cpu < cpus → other * cpus + other_cpu ≡ cache * cpus + cpu → cache ≡ other
same-cache cpus cache cpu other other_cpu within other_within e =
    sym (div-mul-add cache cpus cpu within) ∙ sym (ap (λ n. n / cpus) e) ∙ div-mul-add other cpus other_cpu other_within

-- a slab that isn't live is on no list
pub unlisted-unused : (s : State) (frame : ℕ) → slab_of s frame ≡ None → IsListed s → times_current s frame + times_partial s frame ≡ 0
unlisted-unused s frame unused listed =
    elim (cases_eq (times_current s frame + times_partial s frame) 0) [
      | inl none ↦ none
      | inr some ↦ let live : IsSome (slab_of s frame) = listed.live frame (omega arith) in let gone = ap is_some unused in cc
    ]

-- what stands in a list is counted
pub current-counted-at : (s : State) (f at : ℕ) → (get_or s.cpu_lists at no_lists).current ≡ Some f → 0 < times_current s f
current-counted-at s f at current =
    let one = ap (if_current f 1) current ∙ current-same f f 1 refl in
    omega (arith, one, element-counted (λ lists. if_current f 1 lists.current) s.cpu_lists at no_lists refl)

pub partial-counted-at : (s : State) (f at : ℕ) → times f (get_or s.cpu_lists at no_lists).partial ≤ times_partial s f
partial-counted-at s f at = omega (arith, element-counted (λ lists. times f lists.partial) s.cpu_lists at no_lists refl)

pub node-counted : (s : State) (f cache : ℕ) → times f (node_of s cache) ≤ times_partial s f
node-counted s f cache = omega (arith, element-counted (times f) s.nodes cache [] refl)

module _ (s : State) (cache cpu : ℕ) (within : cpu < s.cpus) (inside : cpu_place s cache cpu < length s.cpu_lists) where
  -- what a CPU has of a cache is written
  pub current-written : (f : ℕ) (v : CpuLists) → sum_by (λ lists. if_current f 1 lists.current) (set s.cpu_lists (cpu_place s cache cpu) v) + if_current f 1 (lists_of s cache cpu).current ≡ times_current s f + if_current f 1 v.current
  current-written f v = sum_by-set (λ lists. if_current f 1 lists.current) s.cpu_lists (cpu_place s cache cpu) v no_lists inside

  pub partial-written : (f : ℕ) (v : CpuLists) → sum_by (λ lists. times f lists.partial) (set s.cpu_lists (cpu_place s cache cpu) v) + times f (lists_of s cache cpu).partial ≡ sum_by (λ lists. times f lists.partial) s.cpu_lists + times f v.partial
  partial-written f v = sum_by-set (λ lists. times f lists.partial) s.cpu_lists (cpu_place s cache cpu) v no_lists inside

  -- a current slab is counted, and so is one on the CPU's partial list
  pub current-counted : (frame : ℕ) → (lists_of s cache cpu).current ≡ Some frame → 0 < times_current s frame
  current-counted frame current = current-counted-at s frame (cpu_place s cache cpu) current

  pub partial-counted : (frame : ℕ) → times frame (lists_of s cache cpu).partial ≤ times_partial s frame
  partial-counted frame = partial-counted-at s frame (cpu_place s cache cpu)

  -- what holds of what is written and of the old lists holds of each CPU's lists
  pub of-written : (P : ℕ → CpuLists → Type 0) (v : CpuLists) → P cache v → (other other_cpu : ℕ) → other_cpu < s.cpus → P other (lists_of s other other_cpu) → P other (get_or (set s.cpu_lists (cpu_place s cache cpu) v) (cpu_place s other other_cpu) no_lists)
  of-written P v new other other_cpu other_within old =
      at_written (P other) s.cpu_lists (cpu_place s cache cpu) (cpu_place s other other_cpu) v no_lists
      (λ e. subst (λ n. P n v) (same-cache s.cpus cache cpu other other_cpu within other_within e) new) old

  pub listed-retired : (frame : ℕ) → frame < length s.slabs → (lists_of s cache cpu).current ≡ Some frame → IsListed s → IsListed (retired s cache cpu frame)
  listed-retired frame slot current listed =
      let v : CpuLists = record { current = None; free = []; partial = (lists_of s cache cpu).partial } in
      let here = ap (if_current frame 1) current ∙ current-same frame frame 1 refl in
      let others : (f : ℕ) → f ≢ frame → if_current f 1 (lists_of s cache cpu).current ≡ 0 = λ f ne. ap (if_current f 1) current ∙ current-other f frame 1 ne in
      record {
        once = λ f. omega (arith, listed.once f, current-written f v, partial-written f v);
        live = λ f some. at_marked IsSome false s.slabs frame f (IsSome-marked false) (listed.live f (omega (arith, some, current-written f v, partial-written f v)));
        stocked = λ f some. listed.stocked f (omega (arith, some, partial-written f v));
        of_current = λ other other_cpu f other_within.
            of-written (λ c lists. lists.current ≡ Some f → IsOf c (slab_of (retired s cache cpu frame) f)) v (λ e. cc) other other_cpu other_within
            (λ e. at_marked (IsOf other) false s.slabs frame f (IsOf-marked other false) (listed.of_current other other_cpu f other_within e));
        of_partial = λ other other_cpu f other_within.
            of-written (λ c lists. 0 < times f lists.partial → IsOf c (slab_of (retired s cache cpu frame) f)) v
            (λ some. at_marked (IsOf cache) false s.slabs frame f (IsOf-marked cache false) (listed.of_partial cache cpu f within some)) other other_cpu other_within
            (λ some. at_marked (IsOf other) false s.slabs frame f (IsOf-marked other false) (listed.of_partial other other_cpu f other_within some));
        of_node = λ other f some. at_marked (IsOf other) false s.slabs frame f (IsOf-marked other false) (listed.of_node other f some);
        frozen = λ f. at_written_else (IsFrozenBy (times_current (retired s cache cpu frame) f)) s.slabs frame f (option_map (marked false) (slab_of s frame)) None slot
            (λ e. IsFrozenBy-none (times_current (retired s cache cpu frame) f) (slab_of s frame) (omega (arith, e, current-written f v, listed.once f, ap (λ n. if_current n 1 (lists_of s cache cpu).current) e, here)))
            (λ ne. IsFrozenBy-same (times_current s f) (times_current (retired s cache cpu frame) f) (slab_of s f) (omega (arith, current-written f v, others f ne)) (listed.frozen f));
      }

  pub listed-taken_up : (frame : ℕ) → frame < length s.slabs → frame < length s.frees → IsTakable s cache cpu frame → IsListed s → IsListed (taken_up s cache cpu frame (lists_of s cache cpu).partial)
  listed-taken_up frame slot own takable listed =
      let after : State = taken_up s cache cpu frame (lists_of s cache cpu).partial in
      let v : CpuLists = record { current = Some frame; free = own_free s frame; partial = (lists_of s cache cpu).partial } in
      let here : times_current after frame ≡ 1 = omega (arith, current-written frame v, takable.nowhere_else, current-same frame frame 1 refl) in
      let others : (f : ℕ) → f ≢ frame → times_current after f ≡ times_current s f = λ f ne.
      let before : if_current f 1 (lists_of s cache cpu).current ≡ 0 = elim takable.here [
        | inl none ↦ ap (if_current f 1) none
        | inr same ↦ ap (if_current f 1) same ∙ current-other f frame 1 ne
      ] in
      omega (arith, current-written f v, current-other f frame 1 ne, before) in
      record {
        once = λ f. elim (cases_eq f frame) [
          | inl e ↦ subst (λ n. times_current after n + times_partial after n ≤ 1) (sym e) (omega (arith, here, partial-written frame v, takable.unlisted))
          | inr ne ↦ omega (arith, others f ne, partial-written f v, listed.once f)
        ];
        live = λ f some. at_written_else IsSome s.slabs frame f (option_map (marked true) (slab_of s frame)) None slot
            (λ e. IsSome-marked true (slab_of s frame) (IsSome-live cache (slab_of s frame) takable.live))
            (λ ne. listed.live f (omega (arith, some, others f ne, partial-written f v)));
        stocked = λ f some. at_written_else (λ (xs : List ℕ). 0 < length xs) s.frees frame f [] [] own
            (λ e. absurd (omega (arith, some, partial-written f v, ap (times_partial s) e, takable.unlisted)))
            (λ ne. listed.stocked f (omega (arith, some, partial-written f v)));
        of_current = λ other other_cpu f other_within.
            of-written (λ c lists. lists.current ≡ Some f → IsOf c (slab_of after f)) v
            (λ e. let same : f ≡ frame = cc in subst (λ n. IsOf cache (slab_of after n)) (sym same)
            (at_marked (IsOf cache) true s.slabs frame frame (IsOf-marked cache true) (IsOf-live cache (slab_of s frame) takable.live))) other other_cpu other_within
            (λ e. at_marked (IsOf other) true s.slabs frame f (IsOf-marked other true) (listed.of_current other other_cpu f other_within e));
        of_partial = λ other other_cpu f other_within.
            of-written (λ c lists. 0 < times f lists.partial → IsOf c (slab_of after f)) v
            (λ some. at_marked (IsOf cache) true s.slabs frame f (IsOf-marked cache true) (listed.of_partial cache cpu f within some)) other other_cpu other_within
            (λ some. at_marked (IsOf other) true s.slabs frame f (IsOf-marked other true) (listed.of_partial other other_cpu f other_within some));
        of_node = λ other f some. at_marked (IsOf other) true s.slabs frame f (IsOf-marked other true) (listed.of_node other f some);
        frozen = λ f. at_written_else (IsFrozenBy (times_current after f)) s.slabs frame f (option_map (marked true) (slab_of s frame)) None slot
            (λ e. IsFrozenBy-one (times_current after f) (slab_of s frame) (omega (arith, ap (times_current after) e, here)))
            (λ ne. IsFrozenBy-same (times_current s f) (times_current after f) (slab_of s f) (sym (others f ne)) (listed.frozen f));
      }

  -- the CPU's partial list and the node list are written, and no slab comes to either that wasn't on one of the two
  pub listed-relisted : (partial frames : List ℕ) → cache < length s.nodes
      → ((f : ℕ) → times f partial + times f frames ≤ times f (lists_of s cache cpu).partial + times f (node_of s cache)) → IsListed s
      → IsListed (let lists : CpuLists = lists_of s cache cpu in with_lists (with_node s cache frames) cache cpu (record lists { partial = partial }))
  listed-relisted partial frames slot fewer listed =
      let lists : CpuLists = lists_of s cache cpu in
      let v : CpuLists = record lists { partial = partial } in
      let after : State = with_lists (with_node s cache frames) cache cpu v in
      let node-written : (f : ℕ) → sum_by (times f) (set s.nodes cache frames) + times f (node_of s cache) ≡ sum_by (times f) s.nodes + times f frames = λ f. sum_by-set (times f) s.nodes cache frames [] slot in
      let current : (f : ℕ) → times_current after f ≡ times_current s f = λ f. omega (arith, current-written f v) in
      let listed_less : (f : ℕ) → times_partial after f ≤ times_partial s f = λ f. omega (arith, partial-written f v, node-written f, fewer f) in
      let from : (f : ℕ) → 0 < times f partial + times f frames → IsOf cache (slab_of s f) = λ f some.
      elim (cases_eq (times f (lists_of s cache cpu).partial) 0) [
        | inl none ↦ listed.of_node cache f (omega (arith, some, none, fewer f))
        | inr here ↦ listed.of_partial cache cpu f within (omega arith)
      ] in
      record {
        once = λ f. omega (arith, listed.once f, current f, listed_less f);
        live = λ f some. listed.live f (omega (arith, some, current f, listed_less f));
        stocked = λ f some. listed.stocked f (omega (arith, some, listed_less f));
        of_current = λ other other_cpu f other_within.
            of-written (λ c lists. lists.current ≡ Some f → IsOf c (slab_of s f)) v (listed.of_current cache cpu f within) other other_cpu other_within (listed.of_current other other_cpu f other_within);
        of_partial = λ other other_cpu f other_within.
            of-written (λ c lists. 0 < times f lists.partial → IsOf c (slab_of s f)) v (λ some. from f (omega arith)) other other_cpu other_within (listed.of_partial other other_cpu f other_within);
        of_node = λ other f. at_written (λ (xs : List ℕ). 0 < times f xs → IsOf other (slab_of s f)) s.nodes cache other frames []
            (λ e. λ some. subst (λ n. IsOf n (slab_of s f)) (sym e) (from f (omega arith))) (listed.of_node other f);
        frozen = λ f. IsFrozenBy-same (times_current s f) (times_current after f) (slab_of s f) (sym (current f)) (listed.frozen f);
      }

  pub listed-with_new_slab : (pool : FreeFrames) (run : Run) → run.frame < length s.slabs → slab_of s run.frame ≡ None → (lists_of s cache cpu).current ≡ None → IsListed s → IsListed (with_new_slab s cache cpu pool run)
  listed-with_new_slab pool run slot unused bare listed =
      let after : State = with_new_slab s cache cpu pool run in
      let new : Slab = record { cache = cache; order = run.order; objects = run.objects; frozen = true } in
      let v : CpuLists = record { current = Some run.frame; free = range_with_len 0 run.objects; partial = (lists_of s cache cpu).partial } in
      let nowhere = unlisted-unused s run.frame unused listed in
      let here : times_current after run.frame ≡ 1 = omega (arith, current-written run.frame v, nowhere, current-same run.frame run.frame 1 refl, ap (if_current run.frame 1) bare) in
      let others : (f : ℕ) → f ≢ run.frame → times_current after f ≡ times_current s f = λ f ne. omega (arith, current-written f v, current-other f run.frame 1 ne, ap (if_current f 1) bare) in
      let new_of : (c f : ℕ) → c ≡ cache → (f ≢ run.frame → IsOf c (slab_of s f)) → IsOf c (slab_of after f) = λ c f e old. at_written_else (IsOf c) s.slabs run.frame f (Some new) None slot (λ _. sym e) old in
      let keeps : (c f : ℕ) → 0 < times_current s f + times_partial s f → IsOf c (slab_of s f) → IsOf c (slab_of after f) = λ c f some old.
      at_written_else (IsOf c) s.slabs run.frame f (Some new) None slot (λ e. absurd (omega (arith, some, ap (λ n. times_current s n + times_partial s n) e, nowhere))) (λ _. old) in
      record {
        once = λ f. elim (cases_eq f run.frame) [
          | inl e ↦ subst (λ n. times_current after n + times_partial after n ≤ 1) (sym e) (omega (arith, here, partial-written run.frame v, nowhere))
          | inr ne ↦ omega (arith, others f ne, partial-written f v, listed.once f)
        ];
        live = λ f some. at_written_else IsSome s.slabs run.frame f (Some new) None slot (λ e. refl) (λ ne. listed.live f (omega (arith, some, others f ne, partial-written f v)));
        stocked = λ f some. listed.stocked f (omega (arith, some, partial-written f v));
        of_current = λ other other_cpu f other_within.
            of-written (λ c lists. lists.current ≡ Some f → IsOf c (slab_of after f)) v
            (λ e. new_of cache f refl (λ ne. absurd (ne cc))) other other_cpu other_within
            (λ e. at_written_else (IsOf other) s.slabs run.frame f (Some new) None slot
            (λ same. absurd (omega (arith, nowhere, ap (times_current s) same, current-counted-at s f (cpu_place s other other_cpu) e)))
            (λ _. listed.of_current other other_cpu f other_within e));
        of_partial = λ other other_cpu f other_within.
            of-written (λ c lists. 0 < times f lists.partial → IsOf c (slab_of after f)) v
            (λ some. keeps cache f (omega (arith, some, partial-counted f)) (listed.of_partial cache cpu f within some)) other other_cpu other_within
            (λ some. at_written_else (IsOf other) s.slabs run.frame f (Some new) None slot
            (λ same. absurd (omega (arith, nowhere, ap (times_partial s) same, some, partial-counted-at s f (cpu_place s other other_cpu))))
            (λ _. listed.of_partial other other_cpu f other_within some));
        of_node = λ other f some. keeps other f (omega (arith, some, node-counted s f other)) (listed.of_node other f some);
        frozen = λ f. at_written_else (IsFrozenBy (times_current after f)) s.slabs run.frame f (Some new) None slot
            (λ e. IsFrozenBy-one (times_current after f) (Some new) (omega (arith, ap (times_current after) e, here)))
            (λ ne. IsFrozenBy-same (times_current s f) (times_current after f) (slab_of s f) (sym (others f ne)) (listed.frozen f));
      }

-- only what a CPU has of its freelists changes
pub listed-with_given : (s : State) (cache cpu : ℕ) → cpu < s.cpus → cpu_place s cache cpu < length s.cpu_lists → (object frame : ℕ) (rest : List ℕ) (held : Held) → (lists_of s cache cpu).current ≡ Some frame → IsListed s
    → IsListed (with_given s cache cpu (record { current = Some frame; free = rest; partial = (lists_of s cache cpu).partial }) object held)
listed-with_given s cache cpu within inside object frame rest held current listed =
    let v : CpuLists = record { current = Some frame; free = rest; partial = (lists_of s cache cpu).partial } in
    let after : State = with_given s cache cpu v object held in
    let same : (f : ℕ) → times_current after f ≡ times_current s f = λ f. omega (arith, current-written s cache cpu within inside f v, ap (if_current f 1) current) in
    let same_partial : (f : ℕ) → times_partial after f ≡ times_partial s f = λ f. omega (arith, partial-written s cache cpu within inside f v) in
    record {
      once = λ f. omega (arith, listed.once f, same f, same_partial f);
      live = λ f some. listed.live f (omega (arith, some, same f, same_partial f));
      stocked = λ f some. listed.stocked f (omega (arith, some, same_partial f));
      of_current = λ other other_cpu f other_within.
          of-written s cache cpu within inside (λ c lists. lists.current ≡ Some f → IsOf c (slab_of s f)) v (λ e. listed.of_current cache cpu f within (current ∙ e)) other other_cpu other_within (listed.of_current other other_cpu f other_within);
      of_partial = λ other other_cpu f other_within.
          of-written s cache cpu within inside (λ c lists. 0 < times f lists.partial → IsOf c (slab_of s f)) v (listed.of_partial cache cpu f within) other other_cpu other_within (listed.of_partial other other_cpu f other_within);
      of_node = listed.of_node;
      frozen = λ f. IsFrozenBy-same (times_current s f) (times_current after f) (slab_of s f) (sym (same f)) (listed.frozen f);
    }

-- the board has no slab
pub listed-all_on_board : (s : State) → IsListed s → IsListed (all_on_board s)
listed-all_on_board s listed = record {
  once = listed.once;
  live = listed.live;
  stocked = listed.stocked;
  of_current = listed.of_current;
  of_partial = listed.of_partial;
  of_node = listed.of_node;
  frozen = listed.frozen;
}

-- nor have the counts of the pool
pub listed-with_pool : (s : State) (pool : FreeFrames) → IsListed s → IsListed (record s { pool = pool })
listed-with_pool s pool listed = record {
  once = listed.once;
  live = listed.live;
  stocked = listed.stocked;
  of_current = listed.of_current;
  of_partial = listed.of_partial;
  of_node = listed.of_node;
  frozen = listed.frozen;
}

-- before the first item no slab is on a list
pub listed-opening : (frames cpus objects : ℕ) (names : List (List ℕ)) → IsListed (opening frames cpus objects names)
listed-opening frames cpus objects names =
    let s : State = opening frames cpus objects names in
    let current : (f : ℕ) → times_current s f ≡ 0 = λ f. let e = sum_by-replicate (λ (lists : CpuLists). if_current f 1 lists.current) (32 * cpus) no_lists in omega (arith, e) in
    let partial : (f : ℕ) → times_partial s f ≡ 0 = λ f.
    let e = sum_by-replicate (λ (lists : CpuLists). times f lists.partial) (32 * cpus) no_lists in
    let n = sum_by-replicate (times f) 32 [] in
    omega (arith, e, n) in
    let unused : (f : ℕ) → slab_of s f ≡ None = λ f. get_or-replicate_any frames f None in
    let of : (c f : ℕ) → IsOf c (slab_of s f) = λ c f. subst (IsOf c) (sym (unused f)) tt in
    record {
      once = λ f. omega (arith, current f, partial f);
      live = λ f some. absurd (omega (arith, some, current f, partial f));
      stocked = λ f some. absurd (omega (arith, some, partial f));
      of_current = λ cache cpu f within e. of cache f;
      of_partial = λ cache cpu f within some. of cache f;
      of_node = λ cache f some. of cache f;
      frozen = λ f. subst (IsFrozenBy (times_current s f)) (sym (unused f)) tt;
    }
