-- What a CPU has of a cache goes to the node list.
use Rattle.std.proofs.Common.{◌≡◌, ◌≢◌, ℕ, suc, ◌+◌, ◌-◌, ◌*◌, ◌<◌, ◌≤◌, ◌++◌, Bool, false, cond, List, [], ◌∷◌, length, get_or, set, fold, Option, Some, None, option_map, IsSome, inl, inr, refl, ap, ◌∙◌, subst, arith, length-append, length-set, set-set, get_or-set_same, get_or-set_other, nat_lt}
use Rattle.std.specs.Option.{option_map_or}
use Rattle.std.specs.List.{range_with_len}
use Rattle.std.proofs.lemmas.List.{set-get_or}
use Rattle.std.proofs.lemmas.List.Sums.{sum_by-set}
use Rattle.std.proofs.lemmas.Bool.{cases_eq, cond_both}
use Rattle.std.proofs.lemmas.Bool.Decides.{nat_tests}
use Rattle.slub_common.specs.Times.{times}
use Rattle.slub_common.proofs.Times.{times-append, times-cons}
use Rattle.slub_lists.specs.declared.lists.Slab.{Slab}
use Rattle.slub_lists.specs.declared.lists.CpuLists.{CpuLists}
use Rattle.slub_lists.specs.State.{State}
use Rattle.slub_lists.specs.Alloc.{marked, checked_of, cpu_place, lists_of, no_lists, node_of, own_free, retired, slab_of, with_node}
use Rattle.slub_lists.specs.Coherent.{IsConsistent, IsKept, IsListed, IsPlaced, IsShaped, if_current, has_object, on_cpu, times_current, times_partial}
use Rattle.slub_lists.specs.Free.{discarded, is_spare, moved, moved_all, with_partial}
use Rattle.slub_lists.specs.Shrink.{flushed, moved_partial, put_away, put_away_slab, put_on_node, put_where, taken_down}
use Rattle.slub_lists.specs.Steps.{IsListable}
use Rattle.slub_lists.specs.Shrinking.{KeepsChecked}
use Rattle.slub_lists.proofs.Writes.{at_marked}
use Rattle.slub_common.proofs.Writes.{at_written, at_written_else}
use Rattle.slub_lists.proofs.Times.{current-same, current-other}
use Rattle.slub_common.proofs.Sums.{element-counted}
use Rattle.slub_lists.proofs.Counting.{IsOnce, once-length}
use Rattle.slub_lists.proofs.Discarding.{the-slab, slab-bounds}
use Rattle.slub_lists.proofs.Placed.{has_object-marked, on_cpu-written}
use Rattle.slub_lists.proofs.Framed.{framed-retired}
use Rattle.slub_lists.proofs.Listed.{current-counted, current-written, partial-written, listed-retired}
use Rattle.slub_lists.proofs.Shaped.{IsLiveOf, shaped-retired}
use Rattle.slub_lists.proofs.Coherence.{current-inside, current-live, gathered, gathered-consistent, place-inside}
use Rattle.slub_lists.proofs.Kept.{IsKeptBut, at_emptied, kept-no-hand}
use Rattle.slub_lists.proofs.Moving.{pick, pushed-node, moved-nodes, moved-cpu_lists}
use Rattle.slub_lists.proofs.Unchecked.{apart-unchecked, checked-marked, checked-with_own}

-- ---- a current slab is taken down

live-marked : (cache : ℕ) (b : Bool) (x : Option Slab) → IsLiveOf cache x → IsLiveOf cache (option_map (marked b) x)
live-marked cache b None h = h
live-marked cache b (Some slab) h = h

live-some : (cache : ℕ) (x : Option Slab) → IsLiveOf cache x → IsSome x
live-some cache None h = absurd h
live-some cache (Some slab) h = refl

module _ (s : State) (cache cpu : ℕ) (consistent : IsConsistent s) (within : cache < 32) (cpu_within : cpu < s.cpus) (frame : ℕ) (current : (lists_of s cache cpu).current ≡ Some frame) where
  inside : cpu_place s cache cpu < length s.cpu_lists
  inside = place-inside s cache cpu consistent.shaped within cpu_within

  pub slot : frame < length s.slabs
  slot = omega (arith, current-inside s cache cpu consistent within cpu_within frame current, consistent.shaped.slabs)

  pub own-slot : frame < length s.frees
  own-slot = omega (arith, current-inside s cache cpu consistent within cpu_within frame current, consistent.shaped.frees)

  -- what the CPU has then
  abbrev bare : CpuLists
  bare = record { current = None; free = []; partial = (lists_of s cache cpu).partial }

  -- the two freelists, one after the other
  abbrev joined : List ℕ
  joined = (lists_of s cache cpu).free ++ own_free s frame

  -- it is counted nowhere
  pub down-unlisted : times_current (taken_down s cache cpu frame) frame + times_partial (taken_down s cache cpu frame) frame ≡ 0
  down-unlisted =
      let one = ap (if_current frame 1) current ∙ current-same frame frame 1 refl in
      omega (arith, consistent.listed.once frame, current-written s cache cpu cpu_within inside frame bare, partial-written s cache cpu cpu_within inside frame bare, one)

  -- and is a slab of the cache still
  pub down-live : IsLiveOf cache (slab_of (taken_down s cache cpu frame) frame)
  down-live = at_marked (IsLiveOf cache) false s.slabs frame frame (live-marked cache false) (current-live s cache cpu consistent within cpu_within frame current)

  -- the CPU's objects are its own
  joins : (f i : ℕ) → times i (get_or (set s.frees frame joined) f []) ≡ times i (own_free s f) + if_current f (times i (lists_of s cache cpu).free) (Some frame)
  joins f i =
      let lists : CpuLists = lists_of s cache cpu in
      at_written_else (λ xs. times i xs ≡ times i (own_free s f) + if_current f (times i lists.free) (Some frame)) s.frees frame f joined [] own-slot
      (λ e. omega (arith, times-append i lists.free (own_free s frame), current-same f frame (times i lists.free) e, ap (λ n. times i (own_free s n)) e))
      (λ ne. omega (arith, current-other f frame (times i lists.free) ne))

  down-placed : IsPlaced (taken_down s cache cpu frame)
  down-placed f i =
      let after = on_cpu-written s cache cpu inside f i bare in
      let before : on_cpu f i (lists_of s cache cpu) ≡ if_current f (times i (lists_of s cache cpu).free) (Some frame) = ap (if_current f (times i (lists_of s cache cpu).free)) current in
      let same = at_marked (λ x. has_object i x ≡ has_object i (slab_of s f)) false s.slabs frame f (has_object-marked i (has_object i (slab_of s f)) false) refl in
      omega (arith, consistent.placed f i, after, before, same, joins f i)

  down-listed : IsListed (taken_down s cache cpu frame)
  down-listed =
      let retired_listed = listed-retired s cache cpu cpu_within inside frame slot current consistent.listed in
      let counted = current-counted s cache cpu cpu_within inside frame current in
      record {
        once = retired_listed.once;
        live = retired_listed.live;
        stocked = λ f some. at_written_else (λ (xs : List ℕ). 0 < length xs) s.frees frame f joined [] own-slot
            (λ e. absurd (omega (arith, some, partial-written s cache cpu cpu_within inside f bare, ap (times_partial s) e, counted, consistent.listed.once frame)))
            (λ ne. retired_listed.stocked f some);
        of_current = retired_listed.of_current;
        of_partial = retired_listed.of_partial;
        of_node = retired_listed.of_node;
        frozen = retired_listed.frozen;
      }

  down-shaped : checked_of s cache ≡ None → IsShaped (taken_down s cache cpu frame)
  down-shaped unchecked =
      let t : State = retired s cache cpu frame in
      let shaped : IsShaped t = shaped-retired s cache cpu frame (checked-marked s cache cpu cpu_within (apart-unchecked s cache unchecked) false frame bare consistent.shaped.checked) consistent.shaped in
      record {
        frames = shaped.frames;
        cpus = shaped.cpus;
        pool = shaped.pool;
        pool_frames = shaped.pool_frames;
        slabs = shaped.slabs;
        frees = length-set s.frees frame joined ∙ shaped.frees;
        table = shaped.table;
        checked = checked-with_own t cache frame joined down-live (apart-unchecked t cache unchecked) shaped.checked;
        cpu_lists = shaped.cpu_lists;
        nodes = shaped.nodes;
        memory = shaped.memory;
        live = shaped.live;
        board = shaped.board;
        gone = shaped.gone;
        slab = shaped.slab;
        aligned = shaped.aligned;
        held = shaped.held;
        no_zero = shaped.no_zero;
        bare = shaped.bare;
      }

  pub down-consistent : checked_of s cache ≡ None → IsConsistent (taken_down s cache cpu frame)
  down-consistent unchecked = record {
    shaped = down-shaped unchecked;
    placed = down-placed;
    framed = framed-retired s cache cpu frame consistent.framed;
    listed = down-listed;
    accounted = consistent.accounted;
  }

  -- each object is on one of the two freelists at most, so the two together have room in one
  pub joined-room : length (lists_of s cache cpu).free + length (own_free s frame) ≤ 512
  joined-room =
      let lists : CpuLists = lists_of s cache cpu in
      let slab = the-slab (slab_of s frame) (live-some cache (slab_of s frame) (current-live s cache cpu consistent within cpu_within frame current)) in
      let once : IsOnce slab.0.objects joined = λ i.
      let here : on_cpu frame i lists ≡ times i lists.free = ap (if_current frame (times i lists.free)) current ∙ current-same frame frame (times i lists.free) refl in
      let object : has_object i (slab_of s frame) ≡ has_object i (Some slab.0) = ap (has_object i) slab.1 in
      omega (arith, times-append i lists.free (own_free s frame), consistent.placed frame i, here, element-counted (on_cpu frame i) s.cpu_lists (cpu_place s cache cpu) no_lists refl, object) in
      omega (arith, once-length slab.0.objects joined once, slab-bounds s frame slab.0 consistent.shaped slab.1, length-append lists.free (own_free s frame))

  -- it is in hand
  down-kept : IsKept s → IsKeptBut (frame ∷ []) (taken_down s cache cpu frame)
  down-kept kept f some =
      elim (cases_eq f frame) [
        | inl e ↦ omega (arith, times-cons f frame [], current-same f frame 1 e)
        | inr ne ↦
            let same = ap length (get_or-set_other s.frees frame f joined [] ne) in
            let here = ap (if_current f 1) current ∙ current-other f frame 1 ne in
            omega (arith, kept f (omega (arith, some, same)), here, current-written s cache cpu cpu_within inside f bare, partial-written s cache cpu cpu_within inside f bare)
      ]

-- ---- it is put away

-- one that comes to the head of the node list stands there as often as one that comes to the tail
pub pushed-head : (s : State) (cache frame : ℕ) → IsConsistent s → cache < 32 → IsListable s cache frame → IsConsistent (with_node s cache (frame ∷ node_of s cache))
pushed-head s cache frame consistent within listable =
    let cpu_within : 0 < s.cpus = omega (arith, consistent.shaped.cpus.0) in
    let tail : List ℕ = node_of s cache ++ frame ∷ [] in
    let head : List ℕ = frame ∷ node_of s cache in
    let t : State = with_node s cache tail in
    let last : IsConsistent t = pushed-node s cache 0 consistent within cpu_within frame listable in
    let now : node_of t cache ≡ tail = get_or-set_same s.nodes cache tail [] (omega (arith, consistent.shaped.nodes, within)) in
    let lists : CpuLists = lists_of t cache 0 in
    let same : gathered t cache 0 last within cpu_within lists.partial head ≡ with_node s cache head =
    ap (λ (all : List CpuLists). record t { cpu_lists = all; nodes = set t.nodes cache head }) (set-get_or s.cpu_lists (cpu_place s cache 0) no_lists)
    ∙ ap (λ (all : List (List ℕ)). record s { nodes = all }) (set-set s.nodes cache tail head) in
    subst IsConsistent same
    (gathered-consistent t cache 0 last within cpu_within lists.partial head
    (λ f.
    let none : times f [] ≡ 0 = refl in
    omega (arith, ap (times f) now, times-append f (node_of s cache) (frame ∷ []), times-cons f frame [], none, times-cons f frame (node_of s cache))))

-- a slab in hand goes
pub kept-gone : (s : State) (frame : ℕ) (hand : List ℕ) → IsKeptBut (frame ∷ hand) s → IsKeptBut hand (discarded s frame)
kept-gone s frame hand kept f =
    at_emptied s.frees frame f (times f hand + times_current s f + times_partial s f)
    (λ ne some. omega (arith, kept f some, times-cons f frame hand, current-other f frame 1 ne))

-- or it comes to the node list, to its tail or its head
kept-tail : (s : State) (cache frame : ℕ) (hand : List ℕ) → cache < length s.nodes → IsKeptBut (frame ∷ hand) s → IsKeptBut hand (with_node s cache (node_of s cache ++ frame ∷ []))
kept-tail s cache frame hand slot kept f some =
    let none : times f [] ≡ 0 = refl in
    let node = sum_by-set (times f) s.nodes cache (node_of s cache ++ frame ∷ []) [] slot in
    omega (arith, kept f some, times-cons f frame hand, node, times-append f (node_of s cache) (frame ∷ []), times-cons f frame [], none)

kept-head : (s : State) (cache frame : ℕ) (hand : List ℕ) → cache < length s.nodes → IsKeptBut (frame ∷ hand) s → IsKeptBut hand (with_node s cache (frame ∷ node_of s cache))
kept-head s cache frame hand slot kept f some =
    let node = sum_by-set (times f) s.nodes cache (frame ∷ node_of s cache) [] slot in
    omega (arith, kept f some, times-cons f frame hand, node, times-cons f frame (node_of s cache))

kept-on-node : (s : State) (cache frame : ℕ) (own : List ℕ) → cache < length s.nodes → IsKeptBut (frame ∷ []) s → IsKeptBut [] (put_on_node s cache frame own)
kept-on-node s cache frame [] slot kept = kept-head s cache frame [] slot kept
kept-on-node s cache frame (index ∷ own) slot kept = kept-tail s cache frame [] slot kept

-- or it has no free object
kept-nowhere : (s : State) (frame : ℕ) → nat_lt 0 (length (own_free s frame)) ≡ false → IsKeptBut (frame ∷ []) s → IsKeptBut [] s
kept-nowhere s frame none kept f some =
    elim (cases_eq f frame) [
      | inl e ↦ let same = ap (λ n. length (own_free s n)) e in absurd (grind (arith, nat_tests, none, some, same))
      | inr ne ↦ let nothing : times f [] ≡ 0 = refl in omega (arith, kept f some, times-cons f frame [], current-other f frame 1 ne, nothing)
    ]

pub kept-put_where : (s : State) (min_partial cache frame : ℕ) (own : List ℕ) → cache < length s.nodes → IsKeptBut (frame ∷ []) s → IsKept (put_where s min_partial cache frame own)
kept-put_where s min_partial cache frame own slot kept =
    let has : Bool = nat_lt 0 (length (own_free s frame)) in
    kept-no-hand (put_where s min_partial cache frame own)
    (pick (is_spare s min_partial cache frame) (discarded s frame) (cond has (put_on_node s cache frame own) s) (IsKeptBut []) (kept-gone s frame [] kept)
    (cond_both has (put_on_node s cache frame own) s (IsKeptBut []) (λ _. kept-on-node s cache frame own slot kept) (λ none. kept-nowhere s frame none kept)))

pub put_away-kept : (s : State) (min_partial cache cpu : ℕ) → IsConsistent s → cache < 32 → cpu < s.cpus → IsKept s → IsKept (put_away s min_partial cache cpu)
put_away-kept s min_partial cache cpu consistent within cpu_within kept = by (lists_of s cache cpu).current refl
  where
    by : (x : Option ℕ) → (lists_of s cache cpu).current ≡ x → IsKept (option_map_or (put_away_slab s min_partial cache cpu) x s)
    by None current = kept
    by (Some frame) current =
        kept-put_where (taken_down s cache cpu frame) min_partial cache frame (own_free s frame) (omega (arith, consistent.shaped.nodes, within)) (down-kept s cache cpu consistent within cpu_within frame current kept)

-- ---- the CPU's partial list is moved

kept-moved : (min_partial cache frame : ℕ) (s : State) (hand : List ℕ) → cache < length s.nodes → IsKeptBut (frame ∷ hand) s → IsKeptBut hand (moved min_partial cache s frame)
kept-moved min_partial cache frame s hand slot kept =
    pick (is_spare s min_partial cache frame) (discarded s frame) (with_node s cache (node_of s cache ++ frame ∷ [])) (IsKeptBut hand) (kept-gone s frame hand kept) (kept-tail s cache frame hand slot kept)

kept-moved_all : (min_partial cache : ℕ) (s : State) (frames hand : List ℕ) → cache < length s.nodes → IsKeptBut (frames ++ hand) s → IsKeptBut hand (moved_all s min_partial cache frames)
kept-moved_all min_partial cache s [] hand slot kept = kept
kept-moved_all min_partial cache s (frame ∷ frames) hand slot kept =
    kept-moved_all min_partial cache (moved min_partial cache s frame) frames hand (omega (arith, slot, moved-nodes min_partial cache frame s)) (kept-moved min_partial cache frame s (frames ++ hand) slot kept)

pub moved_partial-kept : (s : State) (min_partial cache cpu : ℕ) → IsShaped s → cache < 32 → cpu < s.cpus → IsKept s → IsKept (moved_partial s min_partial cache cpu)
moved_partial-kept s min_partial cache cpu shaped within cpu_within kept =
    let lists : CpuLists = lists_of s cache cpu in
    let v : CpuLists = record lists { partial = [] } in
    let place = place-inside s cache cpu shaped within cpu_within in
    let in_hand : IsKeptBut (lists.partial ++ []) (with_partial s cache cpu []) = λ f some.
    let none : times f [] ≡ 0 = refl in
    omega (arith, kept f some, times-append f lists.partial [], current-written s cache cpu cpu_within place f v, partial-written s cache cpu cpu_within place f v, none) in
    kept-no-hand (moved_partial s min_partial cache cpu) (kept-moved_all min_partial cache (with_partial s cache cpu []) lists.partial [] (omega (arith, shaped.nodes, within)) in_hand)

-- ---- what stays

pub rest-both : (a b c : State) → KeepsChecked a b → KeepsChecked b c → KeepsChecked a c
rest-both a b c ab bc = record {
  held = record {
    frames = bc.held.frames ∙ ab.held.frames;
    cpus = bc.held.cpus ∙ ab.held.cpus;
    table = bc.held.table ∙ ab.held.table;
    board = bc.held.board ∙ ab.held.board;
    gone = bc.held.gone ∙ ab.held.gone;
    live = bc.held.live ∙ ab.held.live;
  };
  checked = bc.checked ∙ ab.checked;
}

pub same-all : (s : State) → KeepsChecked s s
same-all s = record { held = record { frames = refl; cpus = refl; table = refl; board = refl; gone = refl; live = refl }; checked = refl }

pub rest-discarded : (s : State) (frame : ℕ) → KeepsChecked s (discarded s frame)
rest-discarded s frame = record { held = record { frames = refl; cpus = refl; table = refl; board = refl; gone = refl; live = refl }; checked = refl }

pub rest-with_node : (s : State) (cache : ℕ) (frames : List ℕ) → KeepsChecked s (with_node s cache frames)
rest-with_node s cache frames = record { held = record { frames = refl; cpus = refl; table = refl; board = refl; gone = refl; live = refl }; checked = refl }

rest-on-node : (s : State) (cache frame : ℕ) (own : List ℕ) → KeepsChecked s (put_on_node s cache frame own)
rest-on-node s cache frame [] = rest-with_node s cache (frame ∷ node_of s cache)
rest-on-node s cache frame (index ∷ own) = rest-with_node s cache (node_of s cache ++ frame ∷ [])

rest-put_where : (s : State) (min_partial cache frame : ℕ) (own : List ℕ) → KeepsChecked s (put_where s min_partial cache frame own)
rest-put_where s min_partial cache frame own =
    let has : Bool = nat_lt 0 (length (own_free s frame)) in
    pick (is_spare s min_partial cache frame) (discarded s frame) (cond has (put_on_node s cache frame own) s) (KeepsChecked s) (rest-discarded s frame)
    (pick has (put_on_node s cache frame own) s (KeepsChecked s) (rest-on-node s cache frame own) (same-all s))

rest-down : (s : State) (cache cpu frame : ℕ) → KeepsChecked s (taken_down s cache cpu frame)
rest-down s cache cpu frame = record { held = record { frames = refl; cpus = refl; table = refl; board = refl; gone = refl; live = refl }; checked = refl }

pub rest-put_away : (s : State) (min_partial cache cpu : ℕ) → KeepsChecked s (put_away s min_partial cache cpu)
rest-put_away s min_partial cache cpu = by (lists_of s cache cpu).current
  where
    by : (x : Option ℕ) → KeepsChecked s (option_map_or (put_away_slab s min_partial cache cpu) x s)
    by None = same-all s
    by (Some frame) =
        rest-both s (taken_down s cache cpu frame) (put_where (taken_down s cache cpu frame) min_partial cache frame (own_free s frame)) (rest-down s cache cpu frame)
        (rest-put_where (taken_down s cache cpu frame) min_partial cache frame (own_free s frame))

rest-moved : (min_partial cache frame : ℕ) (s : State) → KeepsChecked s (moved min_partial cache s frame)
rest-moved min_partial cache frame s =
    pick (is_spare s min_partial cache frame) (discarded s frame) (with_node s cache (node_of s cache ++ frame ∷ [])) (KeepsChecked s) (rest-discarded s frame) (rest-with_node s cache (node_of s cache ++ frame ∷ []))

rest-moved_all : (min_partial cache : ℕ) (s : State) (frames : List ℕ) → KeepsChecked s (moved_all s min_partial cache frames)
rest-moved_all min_partial cache s [] = same-all s
rest-moved_all min_partial cache s (frame ∷ frames) =
    rest-both s (moved min_partial cache s frame) (moved_all (moved min_partial cache s frame) min_partial cache frames) (rest-moved min_partial cache frame s)
    (rest-moved_all min_partial cache (moved min_partial cache s frame) frames)

rest-partial : (s : State) (cache cpu : ℕ) (partial : List ℕ) → KeepsChecked s (with_partial s cache cpu partial)
rest-partial s cache cpu partial = record { held = record { frames = refl; cpus = refl; table = refl; board = refl; gone = refl; live = refl }; checked = refl }

pub rest-moved_partial : (s : State) (min_partial cache cpu : ℕ) → KeepsChecked s (moved_partial s min_partial cache cpu)
rest-moved_partial s min_partial cache cpu =
    let t : State = with_partial s cache cpu [] in
    let frames : List ℕ = (lists_of s cache cpu).partial in
    rest-both s t (moved_all t min_partial cache frames) (rest-partial s cache cpu []) (rest-moved_all min_partial cache t frames)

pub rest-flushed : (min_partial cache : ℕ) (s : State) (cpu : ℕ) → KeepsChecked s (flushed min_partial cache s cpu)
rest-flushed min_partial cache s cpu =
    let t : State = put_away s min_partial cache cpu in
    rest-both s t (moved_partial t min_partial cache cpu) (rest-put_away s min_partial cache cpu) (rest-moved_partial t min_partial cache cpu)

-- ---- the CPU has nothing any more

put_where-lists : (s : State) (min_partial cache frame : ℕ) (own : List ℕ) → (put_where s min_partial cache frame own).cpu_lists ≡ s.cpu_lists
put_where-lists s min_partial cache frame own =
    let has : Bool = nat_lt 0 (length (own_free s frame)) in
    pick (is_spare s min_partial cache frame) (discarded s frame) (cond has (put_on_node s cache frame own) s) (λ t. t.cpu_lists ≡ s.cpu_lists) refl
    (pick has (put_on_node s cache frame own) s (λ t. t.cpu_lists ≡ s.cpu_lists) (on own) refl)
  where
    on : (own : List ℕ) → (put_on_node s cache frame own).cpu_lists ≡ s.cpu_lists
    on [] = refl
    on (index ∷ own) = refl

moved_all-lists : (min_partial cache : ℕ) (s : State) (frames : List ℕ) → (moved_all s min_partial cache frames).cpu_lists ≡ s.cpu_lists
moved_all-lists min_partial cache s [] = refl
moved_all-lists min_partial cache s (frame ∷ frames) = moved_all-lists min_partial cache (moved min_partial cache s frame) frames ∙ moved-cpu_lists min_partial cache frame s

-- what the CPUs have is that of one list, written at one place
module _ (s : State) (min_partial cache cpu : ℕ) (shaped : IsShaped s) (within : cache < 32) (cpu_within : cpu < s.cpus) where
  -- a CPU whose slab was put away has no slab and no freelist
  away-bare : ((lists_of (put_away s min_partial cache cpu) cache cpu).current ≡ None) × ((lists_of (put_away s min_partial cache cpu) cache cpu).free ≡ [])
  away-bare = by (lists_of s cache cpu).current refl
    where
      by : (x : Option ℕ) → (lists_of s cache cpu).current ≡ x
          → (let t : State = option_map_or (put_away_slab s min_partial cache cpu) x s in ((lists_of t cache cpu).current ≡ None) × ((lists_of t cache cpu).free ≡ []))
      by None current = (current, shaped.bare (cpu_place s cache cpu) current)
      by (Some frame) current =
          let down : State = taken_down s cache cpu frame in
          let t : State = put_where down min_partial cache frame (own_free s frame) in
          let v : CpuLists = record { current = None; free = []; partial = (lists_of s cache cpu).partial } in
          let cpus : t.cpus ≡ s.cpus = (rest-put_where down min_partial cache frame (own_free s frame)).held.cpus in
          let all : t.cpu_lists ≡ set s.cpu_lists (cpu_place s cache cpu) v = put_where-lists down min_partial cache frame (own_free s frame) in
          let now : lists_of t cache cpu ≡ v =
          ap (λ n. get_or t.cpu_lists (cache * n + cpu) no_lists) cpus ∙ ap (λ (l : List CpuLists). get_or l (cpu_place s cache cpu) no_lists) all
          ∙ get_or-set_same s.cpu_lists (cpu_place s cache cpu) v no_lists (place-inside s cache cpu shaped within cpu_within) in
          (ap (λ (l : CpuLists). l.current) now, ap (λ (l : CpuLists). l.free) now)

  -- another CPU has what it had
  away-others : (other : ℕ) → other ≢ cpu → lists_of s cache other ≡ no_lists → lists_of (put_away s min_partial cache cpu) cache other ≡ no_lists
  away-others other ne old = by (lists_of s cache cpu).current
    where
      by : (x : Option ℕ) → lists_of (option_map_or (put_away_slab s min_partial cache cpu) x s) cache other ≡ no_lists
      by None = old
      by (Some frame) =
          let down : State = taken_down s cache cpu frame in
          let t : State = put_where down min_partial cache frame (own_free s frame) in
          let v : CpuLists = record { current = None; free = []; partial = (lists_of s cache cpu).partial } in
          let cpus : t.cpus ≡ s.cpus = (rest-put_where down min_partial cache frame (own_free s frame)).held.cpus in
          let all : t.cpu_lists ≡ set s.cpu_lists (cpu_place s cache cpu) v = put_where-lists down min_partial cache frame (own_free s frame) in
          ap (λ n. get_or t.cpu_lists (cache * n + other) no_lists) cpus ∙ ap (λ (l : List CpuLists). get_or l (cpu_place s cache other) no_lists) all
          ∙ at_written (λ l. l ≡ no_lists) s.cpu_lists (cpu_place s cache cpu) (cpu_place s cache other) v no_lists (λ e. absurd (ne (omega (arith, e)))) old

-- a CPU whose partial list was moved has none
emptied-lists : (lists : CpuLists) → lists.current ≡ None → lists.free ≡ [] → record lists { partial = [] } ≡ no_lists
emptied-lists lists current free =
    ap (λ (x : Option ℕ). record no_lists { current = x; free = lists.free }) current ∙ ap (λ (xs : List ℕ). record no_lists { free = xs }) free

module _ (s : State) (min_partial cache cpu : ℕ) (cpu_within : cpu < s.cpus) where
  -- the machine is written at one place
  abbrev last : State
  last = moved_partial s min_partial cache cpu

  abbrev none-left : CpuLists
  none-left = let lists : CpuLists = lists_of s cache cpu in record lists { partial = [] }

  rest-cpus : last.cpus ≡ s.cpus
  rest-cpus = (rest-moved_partial s min_partial cache cpu).held.cpus

  rest-lists : last.cpu_lists ≡ set s.cpu_lists (cpu_place s cache cpu) none-left
  rest-lists = moved_all-lists min_partial cache (with_partial s cache cpu []) (lists_of s cache cpu).partial

  moved-bare : cpu_place s cache cpu < length s.cpu_lists → (lists_of s cache cpu).current ≡ None → (lists_of s cache cpu).free ≡ [] → lists_of last cache cpu ≡ no_lists
  moved-bare place current free =
      ap (λ n. get_or last.cpu_lists (cache * n + cpu) no_lists) rest-cpus ∙ ap (λ (l : List CpuLists). get_or l (cpu_place s cache cpu) no_lists) rest-lists
      ∙ get_or-set_same s.cpu_lists (cpu_place s cache cpu) none-left no_lists place ∙ emptied-lists (lists_of s cache cpu) current free

  moved-others : (other : ℕ) → other ≢ cpu → lists_of s cache other ≡ no_lists → lists_of last cache other ≡ no_lists
  moved-others other ne old =
      ap (λ n. get_or last.cpu_lists (cache * n + other) no_lists) rest-cpus ∙ ap (λ (l : List CpuLists). get_or l (cpu_place s cache other) no_lists) rest-lists
      ∙ at_written (λ l. l ≡ no_lists) s.cpu_lists (cpu_place s cache cpu) (cpu_place s cache other) none-left no_lists (λ e. absurd (ne (omega (arith, e)))) old

-- a CPU that is flushed has nothing, and another that has nothing keeps nothing
module _ (s : State) (min_partial cache cpu : ℕ) (shaped : IsShaped s) (within : cache < 32) (cpu_within : cpu < s.cpus) where
  away-cpu : cpu < (put_away s min_partial cache cpu).cpus
  away-cpu = omega (arith, cpu_within, (rest-put_away s min_partial cache cpu).held.cpus)

  away-length : length (put_away s min_partial cache cpu).cpu_lists ≡ length s.cpu_lists
  away-length = by (lists_of s cache cpu).current
    where
      by : (x : Option ℕ) → length (option_map_or (put_away_slab s min_partial cache cpu) x s).cpu_lists ≡ length s.cpu_lists
      by None = refl
      by (Some frame) =
          let v : CpuLists = record { current = None; free = []; partial = (lists_of s cache cpu).partial } in
          ap length (put_where-lists (taken_down s cache cpu frame) min_partial cache frame (own_free s frame)) ∙ length-set s.cpu_lists (cpu_place s cache cpu) v

  pub flushed-bare : lists_of (flushed min_partial cache s cpu) cache cpu ≡ no_lists
  flushed-bare =
      let t : State = put_away s min_partial cache cpu in
      let bare_then = away-bare s min_partial cache cpu shaped within cpu_within in
      let same : cpu_place t cache cpu ≡ cpu_place s cache cpu = ap (λ n. cache * n + cpu) (rest-put_away s min_partial cache cpu).held.cpus in
      let place : cpu_place t cache cpu < length t.cpu_lists = omega (arith, same, place-inside s cache cpu shaped within cpu_within, away-length) in
      moved-bare t min_partial cache cpu away-cpu place bare_then.0 bare_then.1

  pub flushed-others : (other : ℕ) → other ≢ cpu → lists_of s cache other ≡ no_lists → lists_of (flushed min_partial cache s cpu) cache other ≡ no_lists
  flushed-others other ne old =
      moved-others (put_away s min_partial cache cpu) min_partial cache cpu away-cpu other ne (away-others s min_partial cache cpu shaped within cpu_within other ne old)

-- ---- one CPU after the other

-- the first of those that are left, and then the others
pub fold-next : (f : State → ℕ → State) (s : State) (a n : ℕ) → a < n → fold f s (range_with_len a (n - a)) ≡ fold f (f s a) (range_with_len (a + 1) (n - (a + 1)))
fold-next f s a n below = let next : n - a ≡ suc (n - (a + 1)) = omega arith in rw next refl
