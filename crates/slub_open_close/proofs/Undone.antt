-- What was moved behind the locks goes back to the lists that it was taken from.
use Rattle.std.proofs.Common.{◌≡◌, ℕ, suc, ◌<◌, ◌&&◌, cond, Bool, true, false, List, [], length, get_or, Option, Some, None, refl, ap, sym, ◌∙◌, arith}
use Rattle.std.specs.Prelude.{is_some, not}
use Rattle.std.proofs.lemmas.Bool.{false≢true}
use Rattle.std.proofs.lemmas.List.{ext_get_or}
use Rattle.std.proofs.lemmas.List.FromFn.{get_or-map-range_with_len, length-map-range_with_len}
use Rattle.slub_red_zone.specs.State.{CheckedState}
use Rattle.slub_lists.specs.State.{State}
use Rattle.slub_lists.specs.Alloc.{cache_of, checked_of, node_of}
use Rattle.slub_lists.proofs.Kept.{consistent-of}
use Rattle.slub_core.specs.World.{LockValue, frames_in}
use Rattle.slub_core.specs.World as value
use Rattle.slub_core.specs.declared.guarded.Guarded.{Guarded}
use Rattle.slub_core.specs.declared.guarded.Guarded.TheVariants.{Nothing, Node, Checked, Pool}
use Rattle.slub_core.specs.Values.{value_in, values_of, room_in, IsPoolValue}
use Rattle.slub_law_opening.specs.Opening.{node_value, value_of}
use Rattle.slub_law_opening.specs.Closing.{checked_in}
use Rattle.slub_open_close.specs.declared.opened.KeptNode.{KeptNode}
use Rattle.slub_open_close.specs.declared.opened.KeptNode.TheVariants.{Whole, Counts}
use Rattle.slub_open_close.specs.declared.opened.Rest.{Rest}
use Rattle.slub_open_close.specs.Opened.{room_of}
use Rattle.slub_open_close.specs.Values.{has_node, IsKeptOf}
use Rattle.slub_open_close.proofs.Guards.{bare-node}
use Rattle.slub_open_close.specs.Joins.{Joins}
use Rattle.slub_open_close.specs.Closing.{MayTakeBack}
use Rattle.slub_open_close.specs.Undoing.{WasOpened}
use Rattle.slub_open_close.proofs.Ended.{length-rooms, room-at}

-- ---- which kind of value it is

abbrev is_node : LockValue → Bool
is_node value.Nothing = false
is_node (value.Node frames) = true
is_node (value.Checked slabs) = false
is_node (value.Pool pool) = false

abbrev is_pool : LockValue → Bool
is_pool value.Nothing = false
is_pool (value.Node frames) = false
is_pool (value.Checked slabs) = false
is_pool (value.Pool pool) = true

-- behind the lock of a cache stands no pool, and a node list where there is one
no-pool : (lives : Bool) (slabs : Option CheckedState) (frames : List ℕ) → is_pool (node_value lives slabs frames) ≡ false
no-pool true None frames = refl
no-pool false None frames = refl
no-pool lives (Some slabs) frames = refl

node-there : (lives : Bool) (slabs : Option CheckedState) (frames : List ℕ) → is_node (node_value lives slabs frames) ≡ (lives && not (is_some slabs))
node-there true None frames = refl
node-there false None frames = refl
node-there true (Some slabs) frames = refl
node-there false (Some slabs) frames = refl

joined : (has : Bool) (v : Guarded) (k : KeptNode) → is_node (value_in v) ≡ has → is_pool (value_in v) ≡ false → room_in v ≡ cond has 4095 0 → IsKeptOf has [] k → Joins v k
joined has Nothing (Whole node) is none room kept = kept.1
joined has Nothing (Counts counts) is none room kept = absurd (false≢true (is ∙ kept.0))
joined has (Node list) (Whole node) is none room kept = absurd (false≢true (sym (is ∙ kept.0)))
joined has (Node list) (Counts counts) is none room kept = (room ∙ ap (λ (b : Bool). cond b 4095 0) kept.0, kept.1)
joined has (Checked slabs) (Whole node) is none room kept = kept.1
joined has (Checked slabs) (Counts counts) is none room kept = absurd (false≢true (is ∙ kept.0))
joined has (Pool pool) k is none room kept = absurd (false≢true (sym none))

pool-there : (v : Guarded) → is_pool (value_in v) ≡ true → IsPoolValue v
pool-there Nothing is = absurd (false≢true is)
pool-there (Node list) is = absurd (false≢true is)
pool-there (Checked slabs) is = absurd (false≢true is)
pool-there (Pool pool) is = tt

-- ---- what comes back

frames-back : (lives : Bool) (slabs : Option CheckedState) (frames : List ℕ) → ((lives && not (is_some slabs)) ≡ false → frames ≡ []) → frames_in (node_value lives slabs frames) ≡ frames
frames-back true None frames bare = refl
frames-back false None frames bare = sym (bare refl)
frames-back true (Some slabs) frames bare = sym (bare refl)
frames-back false (Some slabs) frames bare = sym (bare refl)

checked-back : (lives : Bool) (slabs : Option CheckedState) (frames : List ℕ) → checked_in (node_value lives slabs frames) ≡ slabs
checked-back true None frames = refl
checked-back false None frames = refl
checked-back lives (Some slabs) frames = refl

module _ (s : State) (values : List Guarded) (rest : Rest) (memory : List ℕ) (was : WasOpened s values rest memory) where
  count : length values ≡ 33
  count = sym (length-rooms values) ∙ ap length was.rooms ∙ length-map-range_with_len (room_of s) 0 33

  at : (n : ℕ) → values_of values n ≡ value_of s n
  at n = ap (λ (f : ℕ → LockValue). f n) was.values

  joins : (cache : ℕ) (otherwise : KeptNode) → cache < 32 → Joins (get_or values (suc cache) Nothing) (get_or rest.kept.items cache otherwise)
  joins cache otherwise below =
      let lives = is_some (cache_of s cache) in
      let room : room_in (get_or values (suc cache) Nothing) ≡ room_of s (suc cache) =
      sym (room-at values (suc cache) (omega (arith, below, count))) ∙ ap (λ rs. get_or rs (suc cache) 0) was.rooms ∙ get_or-map-range_with_len (room_of s) 0 33 (suc cache) (suc cache) 0 (omega arith) (omega arith) in
      joined (has_node s.table s.checked cache) (get_or values (suc cache) Nothing) (get_or rest.kept.items cache otherwise)
      (ap is_node (at (suc cache)) ∙ node-there lives (checked_of s cache) (node_of s cache)) (ap is_pool (at (suc cache)) ∙ no-pool lives (checked_of s cache) (node_of s cache))
      room (was.waiting.kept_node cache otherwise below)

  pub may-put : MayTakeBack values rest
  may-put = record {
    count = count;
    pool = pool-there (get_or values 0 Nothing) (ap is_pool (at 0));
    kept = was.waiting.kept;
    joins = joins;
    nodes = was.waiting.nodes;
    checked = was.waiting.checked;
  }

  -- ---- the lists

  pub nodes-back : (nodes : List (List ℕ)) → length nodes ≡ 32 → ((cache : ℕ) → cache < 32 → get_or nodes cache [] ≡ frames_in (values_of values (suc cache))) → nodes ≡ s.nodes
  nodes-back nodes long each = ext_get_or [] nodes s.nodes (long ∙ sym was.coherent.shaped.nodes) (λ cache below.
      each cache (omega (arith, below, long)) ∙ ap frames_in (at (suc cache))
      ∙ frames-back (is_some (cache_of s cache)) (checked_of s cache) (node_of s cache) (bare-node s cache (consistent-of s was.coherent)))

  pub checked-same : (checked : List (Option CheckedState)) → length checked ≡ 32 → ((cache : ℕ) → cache < 32 → get_or checked cache None ≡ checked_in (values_of values (suc cache))) → checked ≡ s.checked
  checked-same checked long each = ext_get_or None checked s.checked (long ∙ sym was.coherent.shaped.checked.numbers) (λ cache below.
      each cache (omega (arith, below, long)) ∙ ap checked_in (at (suc cache))
      ∙ checked-back (is_some (cache_of s cache)) (checked_of s cache) (node_of s cache))
