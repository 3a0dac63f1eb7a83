-- Slabs that come to a partial list, leave the node list, or are moved as a set.
use Rattle.std.proofs.Common.{◌≡◌, ◌≢◌, ℕ, ◌+◌, ◌*◌, ◌<◌, ◌≤◌, ◌++◌, ◌&&◌, Bool, true, false, cond, eqb, List, [], ◌∷◌, length, get_or, set, filter, Some, None, IsSome, MatchOption, inl, inr, refl, ap, sym, ◌∙◌, subst, arith, length-set, set-set, get_or-set_same, nat_lt, nat_le, if◌then◌else◌}
use Rattle.std.specs.Prelude.{not}
use Rattle.std.proofs.lemmas.List.{set-get_or}
use Rattle.std.proofs.lemmas.List.Sums.{sum_by-set}
use Rattle.std.proofs.lemmas.Bool.{cases_eq, cases_Bool}
use Rattle.std.proofs.lemmas.Bool.Decides.{nat_tests}
use Rattle.slub_common.specs.Times.{times}
use Rattle.slub_common.proofs.Times.{times-append, times-cons, times-filter_pass, times-filter_fail}
use Rattle.slub_object_layout.specs.declared.layout.Layout.{Layout}
use Rattle.slub_lists.specs.declared.lists.CpuLists.{CpuLists}
use Rattle.slub_lists.specs.State.{State}
use Rattle.slub_lists.specs.Alloc.{cpu_place, lists_of, no_lists, node_of, own_free, slab_of, with_node}
use Rattle.slub_lists.specs.Coherent.{IsConsistent, IsListed, if_current, times_current, times_partial}
use Rattle.slub_lists.specs.Free.{discarded, drained, is_spare, moved, moved_all, without_spare, with_partial, without_slab}
use Rattle.slub_lists.specs.Steps.{IsListable}
use Rattle.slub_common.proofs.Writes.{at_written}
use Rattle.slub_lists.proofs.Times.{current-same, current-other}
use Rattle.slub_lists.proofs.Counting.{IsOnce, once-length, once-more}
use Rattle.slub_lists.proofs.Placed.{placed-partial}
use Rattle.slub_lists.proofs.Listed.{IsOf, IsOf-live, IsFrozenBy-same, current-written, partial-written, of-written, node-counted, partial-counted, live-from}
use Rattle.slub_lists.proofs.Shaped.{shaped-partial}
use Rattle.slub_lists.proofs.Removing.{filter-absent}
use Rattle.slub_lists.proofs.Unchecked.{apart-stocked, checked-with_node}
use Rattle.slub_lists.proofs.Coherence.{gathered, gathered-consistent, gathered-node, place-inside, IsSome-live}
use Rattle.slub_lists.proofs.Discarding.{the-slab, first-frame}

-- ---- a slab comes to a partial list

module _ (s : State) (cache cpu : ℕ) (consistent : IsConsistent s) (within : cache < 32) (cpu_within : cpu < s.cpus) (frame : ℕ) (listable : IsListable s cache frame) where
  inside : cpu_place s cache cpu < length s.cpu_lists
  inside = place-inside s cache cpu consistent.shaped within cpu_within

  module _ (partial frames : List ℕ) (more : (f : ℕ) → times f partial + times f frames ≡ times f (lists_of s cache cpu).partial + times f (node_of s cache) + if_current f 1 (Some frame)) where
    -- the CPU's partial list and the node list are written, and the slab stands once more on one of the two
    abbrev after : State
    after = gathered s cache cpu consistent within cpu_within partial frames

    -- what is current stays
    same-current : (f : ℕ) → times_current after f ≡ times_current s f
    same-current f =
        let lists : CpuLists = lists_of s cache cpu in
        let v : CpuLists = record lists { partial = partial } in
        omega (arith, current-written s cache cpu cpu_within inside f v)

    -- and this slab alone is on one list more
    one-more : (f : ℕ) → times_partial after f ≡ times_partial s f + if_current f 1 (Some frame)
    one-more f =
        let lists : CpuLists = lists_of s cache cpu in
        let v : CpuLists = record lists { partial = partial } in
        let node = sum_by-set (times f) s.nodes cache frames [] (omega (arith, consistent.shaped.nodes, within)) in
        omega (arith, partial-written s cache cpu cpu_within inside f v, node, more f)

    -- what stands on the two lists is of the cache
    from : (f : ℕ) → 0 < times f partial + times f frames → IsOf cache (slab_of s f)
    from f some =
        elim (cases_eq f frame) [
          | inl e ↦ subst (λ n. IsOf cache (slab_of s n)) (sym e) (IsOf-live cache (slab_of s frame) listable.live)
          | inr ne ↦
              let other = current-other f frame 1 ne in
              elim (cases_eq (times f (lists_of s cache cpu).partial) 0) [
                | inl none ↦ consistent.listed.of_node cache f (omega (arith, some, none, more f, other))
                | inr here ↦ consistent.listed.of_partial cache cpu f cpu_within (omega arith)
              ]
        ]

    -- so each slab is on one list at most
    added-listed : IsListed after
    added-listed =
        let lists : CpuLists = lists_of s cache cpu in
        let v : CpuLists = record lists { partial = partial } in
        let listed = consistent.listed in
        record {
          once = λ f. elim (cases_eq f frame) [
            | inl e ↦ omega (arith, same-current f, one-more f, current-same f frame 1 e, ap (λ n. times_current s n + times_partial s n) e, listable.unlisted)
            | inr ne ↦ omega (arith, same-current f, one-more f, current-other f frame 1 ne, listed.once f)
          ];
          live = λ f some. elim (cases_eq f frame) [
            | inl e ↦ subst (λ n. IsSome (slab_of s n)) (sym e) (IsSome-live (slab_of s frame) (λ slab. slab.cache ≡ cache) listable.live)
            | inr ne ↦ listed.live f (omega (arith, some, same-current f, one-more f, current-other f frame 1 ne))
          ];
          stocked = λ f some. elim (cases_eq f frame) [
            | inl e ↦ subst (λ n. 0 < length (own_free s n)) (sym e) listable.stocked
            | inr ne ↦ listed.stocked f (omega (arith, some, one-more f, current-other f frame 1 ne))
          ];
          of_current = λ other other_cpu f other_within.
              of-written s cache cpu cpu_within inside (λ c lists. lists.current ≡ Some f → IsOf c (slab_of s f)) v (listed.of_current cache cpu f cpu_within) other other_cpu other_within (listed.of_current other other_cpu f other_within);
          of_partial = λ other other_cpu f other_within.
              of-written s cache cpu cpu_within inside (λ c lists. 0 < times f lists.partial → IsOf c (slab_of s f)) v (λ some. from f (omega arith)) other other_cpu other_within (listed.of_partial other other_cpu f other_within);
          of_node = λ other f. at_written (λ (xs : List ℕ). 0 < times f xs → IsOf other (slab_of s f)) s.nodes cache other frames []
              (λ e. λ some. subst (λ n. IsOf n (slab_of s f)) (sym e) (from f (omega arith))) (listed.of_node other f);
          frozen = λ f. IsFrozenBy-same (times_current s f) (times_current after f) (slab_of s f) (sym (same-current f)) (listed.frozen f);
        }

    -- the whole
    added-consistent : IsConsistent after
    added-consistent = record {
      shaped = shaped-partial s cache cpu partial frames
          (let lists : CpuLists = lists_of s cache cpu in
          checked-with_node s cache cpu cpu_within (record lists { partial = partial }) frames (apart-stocked s cache frame listable.live listable.stocked) consistent.shaped.checked)
          consistent.shaped;
      placed = placed-partial s cache cpu inside partial consistent.placed;
      framed = consistent.framed;
      listed = added-listed;
      accounted = consistent.accounted;
    }

  -- the node list alone is written
  gathered-lists : (frames : List ℕ) → gathered s cache cpu consistent within cpu_within (lists_of s cache cpu).partial frames ≡ with_node s cache frames
  gathered-lists frames =
      let t : State = with_node s cache frames in
      ap (λ (all : List CpuLists). record t { cpu_lists = all }) (set-get_or s.cpu_lists (cpu_place s cache cpu) no_lists)

  -- it comes to the front of the CPU's partial list
  pub pushed-partial : IsConsistent (with_partial s cache cpu (frame ∷ (lists_of s cache cpu).partial))
  pushed-partial =
      let partial : List ℕ = frame ∷ (lists_of s cache cpu).partial in
      subst IsConsistent (gathered-node s cache cpu consistent within cpu_within partial)
      (added-consistent partial (node_of s cache) (λ f. omega (arith, times-cons f frame (lists_of s cache cpu).partial)))

  -- it comes to the tail of the node list
  pub pushed-node : IsConsistent (with_node s cache (node_of s cache ++ frame ∷ []))
  pushed-node =
      let frames : List ℕ = node_of s cache ++ frame ∷ [] in
      subst IsConsistent (gathered-lists frames)
      (added-consistent (lists_of s cache cpu).partial frames (λ f.
      let none : times f [] ≡ 0 = refl in
      omega (arith, times-append f (node_of s cache) (frame ∷ []), times-cons f frame [], none)))

  -- frame 0 has no slab, so a list of slabs without this one has room
  usable : (f : ℕ) → IsSome (slab_of s f) → (0 < f) × (f < 4096)
  usable f live =
      let slab = the-slab (slab_of s f) live in
      let first = first-frame s f slab.0 consistent slab.1 in
      (first.0, omega (arith, first.1, consistent.shaped.frames.1))

  -- nor is it on the list, which is therefore shorter than the frames are many by two
  room : (list : List ℕ) → ((f : ℕ) → times f list ≤ times_partial s f) → length list < 4095
  room list counted =
      let live : IsSome (slab_of s frame) = IsSome-live (slab_of s frame) (λ slab. slab.cache ≡ cache) listable.live in
      let once : IsOnce 4096 list = λ f.
      elim (cases_eq (times f list) 0) [
        | inl none ↦ omega (arith, none)
        | inr some ↦
            let inside = (usable f (consistent.listed.live f (omega (arith, counted f)))).1 in
            let one : ◌≡◌ {A = ℕ} (if nat_lt f 4096 then 1 else 0) 1 = grind (arith, nat_tests, inside) in
            omega (arith, one, counted f, consistent.listed.once f)
      ] in
      let no_zero : times 0 list ≡ 0 =
      elim (cases_eq (times 0 list) 0) [
        | inl none ↦ none
        | inr some ↦ absurd (omega (arith, (usable 0 (consistent.listed.live 0 (omega (arith, counted 0)))).0))
      ] in
      let with_frame : IsOnce 4096 (frame ∷ list) = once-more 4096 frame list (usable frame live).1 (omega (arith, counted frame, listable.unlisted)) once in
      let not_zero : times 0 (frame ∷ list) ≡ 0 = omega (arith, times-cons 0 frame list, no_zero, current-other 0 frame 1 (λ e. omega (arith, e, (usable frame live).0))) in
      omega (arith, once-length 4096 (0 ∷ frame ∷ list) (once-more 4096 0 (frame ∷ list) (omega arith) not_zero with_frame))

  -- the CPU's partial list has room for it
  pub partial-room : length (lists_of s cache cpu).partial < 4095
  partial-room = room (lists_of s cache cpu).partial (λ f. partial-counted s cache cpu cpu_within inside f)

  -- and so has the node list
  pub node-room : length (node_of s cache) < 4095
  node-room = room (node_of s cache) (λ f. node-counted s f cache)

-- ---- a slab leaves the node list

-- a list that is filtered has no number more often
times-filter : (x : ℕ) (p : ℕ → Bool) (xs : List ℕ) → times x (filter p xs) ≤ times x xs
times-filter x p xs =
    elim (cases_Bool (p x)) [
      | inl passes ↦ omega (arith, times-filter_pass x p xs passes)
      | inr fails ↦ omega (arith, times-filter_fail x p xs fails)
    ]

module _ (s : State) (cache : ℕ) (consistent : IsConsistent s) (within : cache < 32) (frame : ℕ) where
  some_cpu : 0 < s.cpus
  some_cpu = omega (arith, consistent.shaped.cpus.0)

  -- a list that loses slabs is still one of the cache's slabs
  pub removed-consistent : IsConsistent (without_slab s cache frame)
  removed-consistent =
      let t : State = without_slab s cache frame in
      let frames : List ℕ = filter (λ other. not (eqb other frame)) (node_of s cache) in
      subst IsConsistent (ap (λ (all : List CpuLists). record t { cpu_lists = all }) (set-get_or s.cpu_lists (cpu_place s cache 0) no_lists))
      (gathered-consistent s cache 0 consistent within some_cpu (lists_of s cache 0).partial frames (λ f. omega (arith, times-filter f (λ other. not (eqb other frame)) (node_of s cache))))

  -- it was there once, so now it is on no list
  pub removed-unlisted : 0 < times frame (node_of s cache) → times_current s frame ≡ 0 → times_current (without_slab s cache frame) frame + times_partial (without_slab s cache frame) frame ≡ 0
  removed-unlisted there current =
      let gone = times-filter_fail frame (λ other. not (eqb other frame)) (node_of s cache) (grind (arith, nat_tests)) in
      let node = sum_by-set (times frame) s.nodes cache (filter (λ other. not (eqb other frame)) (node_of s cache)) [] (omega (arith, consistent.shaped.nodes, within)) in
      let once = consistent.listed.once frame in
      omega (arith, gone, node, once, there, current)

  -- where it isn't there, nothing changes
  pub removed-nothing : times frame (node_of s cache) ≡ 0 → without_slab s cache frame ≡ s
  removed-nothing absent =
      ap (λ (frames : List ℕ). with_node s cache frames) (filter-absent frame (node_of s cache) absent) ∙ ap (λ (all : List (List ℕ)). record s { nodes = all }) (set-get_or s.nodes cache [])

-- ---- a set is moved

-- what the two ways of moving a slab have in common
pub pick : (b : Bool) (x y : State) (P : State → Type 0) → P x → P y → P (cond b x y)
pick true x y P left right = left
pick false x y P left right = right

-- the lists of the CPUs have nothing to do with it
pub moved-cpu_lists : (min_partial cache frame : ℕ) (s : State) → (moved min_partial cache s frame).cpu_lists ≡ s.cpu_lists
moved-cpu_lists min_partial cache frame s =
    pick (is_spare s min_partial cache frame) (discarded s frame) (with_node s cache (node_of s cache ++ frame ∷ [])) (λ t. t.cpu_lists ≡ s.cpu_lists) refl refl

-- nor has the number of CPUs
pub moved-cpus : (min_partial cache frame : ℕ) (s : State) → (moved min_partial cache s frame).cpus ≡ s.cpus
moved-cpus min_partial cache frame s =
    pick (is_spare s min_partial cache frame) (discarded s frame) (with_node s cache (node_of s cache ++ frame ∷ [])) (λ t. t.cpus ≡ s.cpus) refl refl

-- a machine with other lists of the CPUs
abbrev with_all : State → List CpuLists → State
with_all s all = record s { cpu_lists = all }

-- they can be written before a choice or after it
pick-all : (b : Bool) (x y : State) (all : List CpuLists) → cond b (with_all x all) (with_all y all) ≡ with_all (cond b x y) all
pick-all true x y all = refl
pick-all false x y all = refl

-- so they can be written before a slab is moved or after it
moved-all-lists : (min_partial cache frame : ℕ) (s : State) (all : List CpuLists) → moved min_partial cache (with_all s all) frame ≡ with_all (moved min_partial cache s frame) all
moved-all-lists min_partial cache frame s all =
    pick-all (is_spare s min_partial cache frame) (discarded s frame) (with_node s cache (node_of s cache ++ frame ∷ [])) all

-- the set that is left, moved
abbrev pub set_moved : State → ℕ → ℕ → ℕ → State
set_moved s min_partial cache cpu = moved_all (with_partial s cache cpu []) min_partial cache (lists_of s cache cpu).partial

-- nothing is left
pub set_moved-none : (s : State) (min_partial cache cpu : ℕ) → (lists_of s cache cpu).partial ≡ [] → set_moved s min_partial cache cpu ≡ s
set_moved-none s min_partial cache cpu none =
    ap (λ (l : List ℕ). moved_all (with_partial s cache cpu []) min_partial cache l) none
    ∙ ap (λ (l : List ℕ). with_partial s cache cpu l) (sym none)
    ∙ ap (λ (all : List CpuLists). record s { cpu_lists = all }) (set-get_or s.cpu_lists (cpu_place s cache cpu) no_lists)

-- the front is moved, and then the rest
module _ (s new : State) (min_partial cache cpu frame : ℕ) (rest : List ℕ) (inside : cpu_place s cache cpu < length s.cpu_lists)
    (first : (lists_of s cache cpu).partial ≡ frame ∷ rest) (is : new ≡ moved min_partial cache (with_partial s cache cpu rest) frame) where
  -- what the CPU has where the front is off, and where all are
  abbrev left : CpuLists
  left = let lists : CpuLists = lists_of s cache cpu in record lists { partial = rest }

  abbrev none-left : CpuLists
  none-left = let lists : CpuLists = lists_of s cache cpu in record lists { partial = [] }

  abbrev all-left : List CpuLists
  all-left = set s.cpu_lists (cpu_place s cache cpu) left

  abbrev front : State
  front = moved min_partial cache s frame

  -- the machine is the one in which the front is moved, with the lists that are left
  new-is : new ≡ with_all front all-left
  new-is = is ∙ moved-all-lists min_partial cache frame s all-left

  same-cpus : front.cpus ≡ s.cpus
  same-cpus = moved-cpus min_partial cache frame s

  -- where the CPU has the rest
  at-place : lists_of (with_all front all-left) cache cpu ≡ left
  at-place =
      ap (λ n. get_or all-left (cache * n + cpu) no_lists) same-cpus ∙ get_or-set_same s.cpu_lists (cpu_place s cache cpu) left no_lists inside

  -- so the rest is what is left to move
  pub rest-left : (lists_of new cache cpu).partial ≡ rest
  rest-left = ap (λ (t : State). (lists_of t cache cpu).partial) new-is ∙ ap (λ (l : CpuLists). l.partial) at-place

  -- and emptying the list after the front was moved empties it
  emptied-rest : with_partial (with_all front all-left) cache cpu [] ≡ with_all front (set s.cpu_lists (cpu_place s cache cpu) none-left)
  emptied-rest =
      ap (λ n. with_all front (set all-left (cache * n + cpu) (let lists : CpuLists = lists_of (with_all front all-left) cache cpu in record lists { partial = [] }))) same-cpus
      ∙ ap (λ (l : CpuLists). with_all front (set all-left (cpu_place s cache cpu) (record l { partial = [] }))) at-place
      ∙ ap (with_all front) (set-set s.cpu_lists (cpu_place s cache cpu) left none-left)

  -- the front and then the rest is the whole
  pub set_moved-step : set_moved new min_partial cache cpu ≡ set_moved s min_partial cache cpu
  set_moved-step =
      let empty : with_partial new cache cpu [] ≡ moved min_partial cache (with_partial s cache cpu []) frame =
      ap (λ (t : State). with_partial t cache cpu []) new-is ∙ emptied-rest ∙ sym (moved-all-lists min_partial cache frame s (set s.cpu_lists (cpu_place s cache cpu) none-left)) in
      ap (λ (t : State). moved_all t min_partial cache (lists_of new cache cpu).partial) empty
      ∙ ap (λ (l : List ℕ). moved_all (moved min_partial cache (with_partial s cache cpu []) frame) min_partial cache l) rest-left
      ∙ sym (ap (λ (l : List ℕ). moved_all (with_partial s cache cpu []) min_partial cache l) first)

-- ---- another slab stays as it is while a set is moved

-- another slab goes
listable-discarded : (s : State) (cache frame f : ℕ) → f ≢ frame → IsListable s cache f → IsListable (discarded s frame) cache f
listable-discarded s cache frame f ne listable = record {
  live = at_written (λ x. MatchOption x ⊥ (λ slab. slab.cache ≡ cache)) s.slabs frame f None None (λ e. absurd (ne e)) listable.live;
  stocked = at_written (λ (xs : List ℕ). 0 < length xs) s.frees frame f [] [] (λ e. absurd (ne e)) listable.stocked;
  unlisted = listable.unlisted;
}

-- or another slab comes to the node list
listable-with_node : (s : State) (cache frame f : ℕ) → cache < length s.nodes → f ≢ frame → IsListable s cache f → IsListable (with_node s cache (node_of s cache ++ frame ∷ [])) cache f
listable-with_node s cache frame f slot ne listable =
    let none : times f [] ≡ 0 = refl in
    let node = sum_by-set (times f) s.nodes cache (node_of s cache ++ frame ∷ []) [] slot in
    record {
      live = listable.live;
      stocked = listable.stocked;
      unlisted = omega (arith, listable.unlisted, node, times-append f (node_of s cache) (frame ∷ []), times-cons f frame [], none, current-other f frame 1 ne);
    }

-- the two ways of moving another slab
listable-moved : (min_partial cache frame f : ℕ) (s : State) → cache < length s.nodes → f ≢ frame → IsListable s cache f → IsListable (moved min_partial cache s frame) cache f
listable-moved min_partial cache frame f s slot ne listable =
    pick (is_spare s min_partial cache frame) (discarded s frame) (with_node s cache (node_of s cache ++ frame ∷ [])) (λ t. IsListable t cache f)
    (listable-discarded s cache frame f ne listable) (listable-with_node s cache frame f slot ne listable)

-- there are as many node lists as before
pub moved-nodes : (min_partial cache frame : ℕ) (s : State) → length (moved min_partial cache s frame).nodes ≡ length s.nodes
moved-nodes min_partial cache frame s =
    pick (is_spare s min_partial cache frame) (discarded s frame) (with_node s cache (node_of s cache ++ frame ∷ [])) (λ t. length t.nodes ≡ length s.nodes) refl (length-set s.nodes cache (node_of s cache ++ frame ∷ []))

-- a set that lacks the slab is moved
listable-moved_all : (min_partial cache f : ℕ) (s : State) (frames : List ℕ) → cache < length s.nodes → times f frames ≡ 0 → IsListable s cache f → IsListable (moved_all s min_partial cache frames) cache f
listable-moved_all min_partial cache f s [] slot absent listable = listable
listable-moved_all min_partial cache f s (frame ∷ frames) slot absent listable =
    let counted = times-cons f frame frames in
    let apart : f ≢ frame = λ e. omega (arith, counted, absent, current-same f frame 1 e) in
    listable-moved_all min_partial cache f (moved min_partial cache s frame) frames (omega (arith, slot, moved-nodes min_partial cache frame s)) (omega (arith, counted, absent))
    (listable-moved min_partial cache frame f s slot apart listable)

-- the CPU's partial list is emptied
pub emptied-consistent : (s : State) (cache cpu : ℕ) (consistent : IsConsistent s) (within : cache < 32) (cpu_within : cpu < s.cpus) (partial : List ℕ)
    → ((f : ℕ) → times f partial ≤ times f (lists_of s cache cpu).partial) → IsConsistent (with_partial s cache cpu partial)
emptied-consistent s cache cpu consistent within cpu_within partial fewer =
    subst IsConsistent (gathered-node s cache cpu consistent within cpu_within partial)
    (gathered-consistent s cache cpu consistent within cpu_within partial (node_of s cache) (λ f. omega (arith, fewer f)))

-- and where the CPU's partial list is full it is such a set
pub listable-drained : (s : State) (layout : Layout) (cache cpu frame : ℕ) → IsConsistent s → cache < 32 → cpu < s.cpus → IsListable s cache frame → IsListable (drained s layout cache cpu) cache frame
listable-drained s layout cache cpu frame consistent within cpu_within listable =
    let inside = place-inside s cache cpu consistent.shaped within cpu_within in
    let lists : CpuLists = lists_of s cache cpu in
    let v : CpuLists = record lists { partial = [] } in
    let absent : times frame lists.partial ≡ 0 = omega (arith, partial-counted s cache cpu cpu_within inside frame, listable.unlisted) in
    let none : times frame [] ≡ 0 = refl in
    let empty : IsListable (with_partial s cache cpu []) cache frame = record {
      live = listable.live;
      stocked = listable.stocked;
      unlisted = omega (arith, listable.unlisted, current-written s cache cpu cpu_within inside frame v, partial-written s cache cpu cpu_within inside frame v, none);
    } in
    pick (nat_le layout.cpu_partial_slabs (length lists.partial)) (moved_all (with_partial s cache cpu []) layout.min_partial cache lists.partial) s (λ t. IsListable t cache frame)
    (listable-moved_all layout.min_partial cache frame (with_partial s cache cpu []) lists.partial (omega (arith, consistent.shaped.nodes, within)) absent empty) listable

-- the front that comes off can be put on a list
module _ (s : State) (cache cpu : ℕ) (consistent : IsConsistent s) (within : cache < 32) (cpu_within : cpu < s.cpus) (frame : ℕ) (rest : List ℕ) (first : (lists_of s cache cpu).partial ≡ frame ∷ rest) where
  -- it stands once less on the list
  less : (f : ℕ) → times f (lists_of s cache cpu).partial ≡ if_current f 1 (Some frame) + times f rest
  less f = ap (times f) first ∙ times-cons f frame rest

  -- the machine without it on the list
  pub popped-consistent : IsConsistent (with_partial s cache cpu rest)
  popped-consistent = emptied-consistent s cache cpu consistent within cpu_within rest (λ f. omega (arith, less f))

  -- where it is on no list
  pub popped-listable : IsListable (with_partial s cache cpu rest) cache frame
  popped-listable =
      let place = place-inside s cache cpu consistent.shaped within cpu_within in
      let lists : CpuLists = lists_of s cache cpu in
      let v : CpuLists = record lists { partial = rest } in
      let one = current-same frame frame 1 refl in
      let here : 0 < times frame lists.partial = omega (arith, less frame, one) in
      let listed : 0 < times_partial s frame = omega (arith, here, partial-counted s cache cpu cpu_within place frame) in
      record {
        live = live-from cache (slab_of s frame) (consistent.listed.live frame (omega (arith, listed))) (consistent.listed.of_partial cache cpu frame cpu_within here);
        stocked = consistent.listed.stocked frame listed;
        unlisted = omega (arith, less frame, one, listed, consistent.listed.once frame, current-written s cache cpu cpu_within place frame v, partial-written s cache cpu cpu_within place frame v);
      }

-- the same of a machine under another name
pub listable-at : (s new : State) (cache frame : ℕ) → new ≡ s → IsListable s cache frame → IsListable new cache frame
listable-at s new cache frame e listable = subst (λ (t : State). IsListable t cache frame) (sym e) listable

-- the numbers of CPUs stay
pub front-cpus : (s new : State) (min_partial cache cpu frame : ℕ) (rest : List ℕ) → new ≡ moved min_partial cache (with_partial s cache cpu rest) frame → new.cpus ≡ s.cpus
front-cpus s new min_partial cache cpu frame rest is = ap (λ (t : State). t.cpus) is ∙ moved-cpus min_partial cache frame (with_partial s cache cpu rest)

pub moved_all-cpus : (min_partial cache : ℕ) (s : State) (frames : List ℕ) → (moved_all s min_partial cache frames).cpus ≡ s.cpus
moved_all-cpus min_partial cache s [] = refl
moved_all-cpus min_partial cache s (frame ∷ frames) = moved_all-cpus min_partial cache (moved min_partial cache s frame) frames ∙ moved-cpus min_partial cache frame s

pub drained-cpus : (s : State) (layout : Layout) (cache cpu : ℕ) → (drained s layout cache cpu).cpus ≡ s.cpus
drained-cpus s layout cache cpu =
    pick (nat_le layout.cpu_partial_slabs (length (lists_of s cache cpu).partial)) (moved_all (with_partial s cache cpu []) layout.min_partial cache (lists_of s cache cpu).partial) s (λ t. t.cpus ≡ s.cpus)
    (moved_all-cpus layout.min_partial cache (with_partial s cache cpu []) (lists_of s cache cpu).partial) refl

moved_all-cpu_lists : (min_partial cache : ℕ) (s : State) (frames : List ℕ) → (moved_all s min_partial cache frames).cpu_lists ≡ s.cpu_lists
moved_all-cpu_lists min_partial cache s [] = refl
moved_all-cpu_lists min_partial cache s (frame ∷ frames) = moved_all-cpu_lists min_partial cache (moved min_partial cache s frame) frames ∙ moved-cpu_lists min_partial cache frame s

-- and so does what the CPUs have of the caches
pub drained-length : (s : State) (layout : Layout) (cache cpu : ℕ) → length (drained s layout cache cpu).cpu_lists ≡ length s.cpu_lists
drained-length s layout cache cpu =
    let lists : CpuLists = lists_of s cache cpu in
    let v : CpuLists = record lists { partial = [] } in
    pick (nat_le layout.cpu_partial_slabs (length lists.partial)) (moved_all (with_partial s cache cpu []) layout.min_partial cache lists.partial) s (λ t. length t.cpu_lists ≡ length s.cpu_lists)
    (ap length (moved_all-cpu_lists layout.min_partial cache (with_partial s cache cpu []) lists.partial) ∙ length-set s.cpu_lists (cpu_place s cache cpu) v) refl

-- ---- a slab that stays on the node list

-- where the second test fails, nothing is done
keeps-both : (b d : Bool) (x y : State) → d ≡ false → cond (b && d) x y ≡ y
keeps-both true d x y none = rw none refl
keeps-both false d x y none = refl

-- it isn't there
pub without_spare-absent : (s : State) (min_partial cache frame : ℕ) → nat_lt 0 (times frame (node_of s cache)) ≡ false → without_spare s min_partial cache frame ≡ s
without_spare-absent s min_partial cache frame absent =
    keeps-both (is_spare s min_partial cache frame) (nat_lt 0 (times frame (node_of s cache))) (discarded (without_slab s cache frame) frame) s absent

-- or it isn't spare
pub without_spare-needed : (s : State) (min_partial cache frame : ℕ) → is_spare s min_partial cache frame ≡ false → without_spare s min_partial cache frame ≡ s
without_spare-needed s min_partial cache frame needed = rw needed refl
