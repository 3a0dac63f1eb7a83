-- A number is taken off the board: its object is nowhere, and all else holds as before.
use Rattle.std.proofs.Common.{◌≡◌, ℕ, ◌+◌, ◌-◌, ◌<◌, List, length, get_or, set, sum_by, Option, Some, None, is_some, IsSome, IfSome, MatchOption, refl, ap, ◌∙◌, subst, arith, length-set}
use Rattle.std.proofs.lemmas.List.Sums.{sum_by-set}
use Rattle.std.proofs.lemmas.Bool.Decides.{nat_tests}
use Rattle.slub_lists.specs.declared.lists.Slab.{Slab}
use Rattle.slub_cache_create.specs.declared.caches.Cache.{Cache}
use Rattle.slub_lists.specs.declared.lists.Held.{Held}
use Rattle.slub_lists.specs.State.{State}
use Rattle.slub_lists.specs.Alloc.{cache_of, held_here, slab_of}
use Rattle.slub_lists.specs.Coherent.{IsAccounted, IsConsistent, IsListed, IsShaped, IsSlabOf, held_of, held_under}
use Rattle.slub_lists.specs.Free.{with_gone, with_taken}
use Rattle.slub_common.proofs.Writes.{at_written, at_written_else}
use Rattle.slub_common.proofs.Sums.{element-counted}
use Rattle.slub_lists.proofs.Shaped.{IsLiveOf}
use Rattle.slub_lists.proofs.Unchecked.{checked-rest}
use Rattle.slub_lists.proofs.Coherence.{live-inside}

-- the numbers of things stay, and what is still held has its slab
shaped-with_taken : (s : State) (object cache : ℕ) → IsShaped s → IsShaped (with_taken s object cache)
shaped-with_taken s object cache shaped = record {
  frames = shaped.frames;
  cpus = shaped.cpus;
  pool = shaped.pool;
  pool_frames = shaped.pool_frames;
  slabs = shaped.slabs;
  frees = shaped.frees;
  table = shaped.table;
  checked = checked-rest s s.pool s.memory (set s.board object None) s.gone (set s.live cache (get_or s.live cache 0 - 1)) shaped.checked;
  cpu_lists = shaped.cpu_lists;
  nodes = shaped.nodes;
  memory = shaped.memory;
  live = length-set s.live cache (get_or s.live cache 0 - 1) ∙ shaped.live;
  board = omega (arith, shaped.board, length-set s.board object None);
  gone = omega (arith, shaped.gone, length-set s.board object None);
  slab = shaped.slab;
  aligned = shaped.aligned;
  held = λ number. at_written (λ x. IfSome x (λ h. IsLiveOf h.cache (slab_of s h.frame))) s.board object number None None (λ e. tt) (shaped.held number);
  no_zero = at_written (λ (x : Option Held). x ≡ None) s.board object 0 None None (λ e. refl) shaped.no_zero;
  bare = shaped.bare;
}

-- who freed a number says nothing of slabs and lists
pub with_gone-consistent : (s : State) (object worker : ℕ) (held : Held) → IsConsistent s → IsConsistent (with_gone s object worker held)
with_gone-consistent s object worker held consistent =
    let shaped = consistent.shaped in
    let gone : List (Option Held) = set s.gone object (Some (record held { worker = Some worker })) in
    record {
      shaped = record {
        frames = shaped.frames;
        cpus = shaped.cpus;
        pool = shaped.pool;
        pool_frames = shaped.pool_frames;
        slabs = shaped.slabs;
        frees = shaped.frees;
        table = shaped.table;
        checked = checked-rest s s.pool s.memory s.board gone s.live shaped.checked;
        cpu_lists = shaped.cpu_lists;
        nodes = shaped.nodes;
        memory = shaped.memory;
        live = shaped.live;
        board = shaped.board;
        gone = length-set s.gone object (Some (record held { worker = Some worker })) ∙ shaped.gone;
        slab = shaped.slab;
        aligned = shaped.aligned;
        held = shaped.held;
        no_zero = shaped.no_zero;
        bare = shaped.bare;
      };
      placed = consistent.placed;
      framed = consistent.framed;
      listed = record {
        once = consistent.listed.once;
        live = consistent.listed.live;
        stocked = consistent.listed.stocked;
        of_current = consistent.listed.of_current;
        of_partial = consistent.listed.of_partial;
        of_node = consistent.listed.of_node;
        frozen = consistent.listed.frozen;
      };
      accounted = consistent.accounted;
    }

-- the board has no slab
pub listed-with_taken : (s : State) (object cache : ℕ) → IsListed s → IsListed (with_taken s object cache)
listed-with_taken s object cache listed = record {
  once = listed.once;
  live = listed.live;
  stocked = listed.stocked;
  of_current = listed.of_current;
  of_partial = listed.of_partial;
  of_node = listed.of_node;
  frozen = listed.frozen;
}

-- the cache of a slab is live
of-its-cache : (s : State) (cache : ℕ) (x : Option Slab) → IsLiveOf cache x → IfSome x (λ slab. MatchOption (cache_of s slab.cache) ⊥ (λ live. IsSlabOf live.layout slab)) → IsSome (cache_of s cache)
of-its-cache s cache None own fits = absurd own
of-its-cache s cache (Some slab) own fits = subst (λ n. IsSome (cache_of s n)) own (is-live (cache_of s slab.cache) fits)
  where
    is-live : (x : Option Cache) → MatchOption x ⊥ (λ live. IsSlabOf live.layout slab) → IsSome x
    is-live None h = absurd h
    is-live (Some live) h = refl

module _ (s : State) (object : ℕ) (held : Held) (consistent : IsConsistent s) (here : held_under s object ≡ Some held) where
  -- the number is one of the board's
  pub on-board : object < length s.board
  on-board = live-inside s.board object (ap is_some here)

  -- its slab and its cache are live
  pub slab-live : IsLiveOf held.cache (slab_of s held.frame)
  slab-live = subst (λ (x : Option Held). IfSome x (λ h. IsLiveOf h.cache (slab_of s h.frame))) here (consistent.shaped.held object)

  pub cache-within : held.cache < 32
  cache-within = omega (arith, live-inside s.table.caches held.cache (of-its-cache s held.cache (slab_of s held.frame) slab-live (consistent.shaped.slab held.frame)), consistent.shaped.table.numbers)

  -- it is counted
  pub counted : 0 < get_or s.live held.cache 0
  counted =
      let one : held_of held.cache (Some held) ≡ 1 = grind (arith, nat_tests) in
      omega (arith, consistent.accounted held.cache, element-counted (held_of held.cache) s.board object None refl, ap (held_of held.cache) here, one)

  -- it is on the board, so nowhere else
  pub held-once : 0 < sum_by (held_here held.frame held.index) s.board
  held-once =
      let one : held_here held.frame held.index (Some held) ≡ 1 = grind (arith, nat_tests) in
      omega (arith, element-counted (held_here held.frame held.index) s.board object None refl, ap (held_here held.frame held.index) here, one)

  -- the board without it
  pub board-taken : (f i : ℕ) → sum_by (held_here f i) (set s.board object None) + held_here f i (Some held) ≡ sum_by (held_here f i) s.board
  board-taken f i =
      let nothing : held_here f i None ≡ 0 = refl in
      omega (arith, sum_by-set (held_here f i) s.board object None None on-board, ap (held_here f i) here, nothing)

  -- what holds of the machine with the number holds of the one without it
  pub taken-shaped : IsShaped (with_taken s object held.cache)
  taken-shaped = shaped-with_taken s object held.cache consistent.shaped

  pub taken-listed : IsListed (with_taken s object held.cache)
  taken-listed = listed-with_taken s object held.cache consistent.listed

  -- one object less of its cache, and of no other
  pub taken-accounted : IsAccounted (with_taken s object held.cache)
  taken-accounted c =
      let nothing : held_of c None ≡ 0 = refl in
      let less = sum_by-set (held_of c) s.board object None None on-board in
      let before = ap (held_of c) here in
      at_written_else (λ n. n ≡ sum_by (held_of c) (set s.board object None)) s.live held.cache c (get_or s.live held.cache 0 - 1) 0 (omega (arith, cache-within, consistent.shaped.live))
      (λ e. let one : held_of c (Some held) ≡ 1 = grind (arith, nat_tests, e) in omega (arith, less, nothing, before, one, consistent.accounted c, ap (λ n. get_or s.live n 0) e))
      (λ ne. let none : held_of c (Some held) ≡ 0 = grind (arith, nat_tests, ne) in omega (arith, less, nothing, before, none, consistent.accounted c))
