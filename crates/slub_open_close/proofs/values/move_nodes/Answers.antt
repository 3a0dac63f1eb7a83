use Rattle.std.proofs.Common.{◌≡◌, ℕ, ◌<◌, ◌&&◌, cond, List, [], ◌∷◌, length, map, get_or, Option, None, arith, ap, refl, sym, subst, ◌∙◌, length-append, length-set}
use Rattle.std.specs.Prelude.{is_some, not}
use Rattle.std.proofs.lemmas.List.{map_push}
use Rattle.slub_common.proofs.Writes.{at_written_else}
use Rattle.slub_cache_create.specs.Table.{cache_of}
use Rattle.slub_red_zone.specs.State.{CheckedState}
use Rattle.slub_core.specs.Values.{value_in, room_in}
use Rattle.slub_law_opening.specs.Opening.{node_value}
use Rattle.slub_open_close.specs.Values.{value_at, room_at, has_node, IsKeptOf, AreKept}
use Rattle.slub_open_close.proofs.Guards.{last-of, kept-more}
use Rattle.slub_open_close.proofs.Pushes.{class-more, class-end}
use Rattle.slub_open_close.proofs.values.move_nodes.Goals as goal

pub loop-cache-preserved : goal.loop-cache-preserved
loop-cache-preserved c =
    let i = c.loop-cache.cache in
    let inv = c.loop-cache.invariant in
    let table = c.args.table.now in
    let nodes = c.args.nodes.now.items in
    let checked = c.args.checked.now.items in
    let inside : i < length c.args.nodes.now.items = omega (arith, c.requires.nodes, c.loop-cache-test.true) in
    let within : c.from.result < length c.loop-cache.checked.items = omega (arith, c.from.ensures, inv.checked_count, c.loop-cache-test.true) in
    let last = last-of nodes c.pop.new.self.items i c.in-Some.node [] inside (sym inv.nodes ∙ c.in-Some.ensures.items) in
    let slabs : c.take_at-slabs.result ≡ get_or checked i None =
    c.take_at-slabs.ensures.value ∙ ap (λ n. get_or c.loop-cache.checked.items n None) c.from.ensures ∙ inv.still i (omega arith) in
    let value : value_in c.parted-value.result.0 ≡ value_at table nodes checked i =
    c.parted-value.ensures.value ∙ ap (λ b. node_value b c.take_at-slabs.result c.in-Some.node) c.is_live.ensures
    ∙ ap (λ o. node_value (is_some (cache_of table i)) o c.in-Some.node) slabs
    ∙ ap (λ fs. node_value (is_some (cache_of table i)) (get_or checked i None) fs) last.0 in
    let room : room_in c.parted-value.result.0 ≡ room_at table checked i =
    c.parted-value.ensures.room ∙ ap (λ b. cond {A = ℕ} (b && not (is_some c.take_at-slabs.result)) 4095 0) c.is_live.ensures
    ∙ ap (λ (o : Option CheckedState). cond {A = ℕ} (is_some (cache_of table i) && not (is_some o)) 4095 0) slabs in
    let has : (c.is_live.result && not (is_some c.take_at-slabs.result)) ≡ has_node table checked i =
    ap (λ b. b && not (is_some c.take_at-slabs.result)) c.is_live.ensures ∙ ap (λ (o : Option CheckedState). is_some (cache_of table i) && not (is_some o)) slabs in
    let left : IsKeptOf (has_node table checked i) (get_or nodes i []) c.parted-value.result.1 =
    subst (λ b. IsKeptOf b (get_or nodes i []) c.parted-value.result.1) has
    (subst (λ fs. IsKeptOf (c.is_live.result && not (is_some c.take_at-slabs.result)) fs c.parted-value.result.1) last.0 c.parted-value.ensures.kept) in
    record {
      nodes = last.1;
      nodes_capacity = c.pop.ensures.capacity ∙ inv.nodes_capacity;
      checked_count = ap length c.take_at-slabs.ensures.after ∙ length-set c.loop-cache.checked.items c.from.result None ∙ inv.checked_count;
      still = λ k le. ap (λ (l : List (Option CheckedState)). get_or l k None) c.take_at-slabs.ensures.after
          ∙ at_written_else (λ (x : Option CheckedState). x ≡ get_or checked k None) c.loop-cache.checked.items c.from.result k None None within (λ e. absurd (omega (arith, c.from.ensures, e, le))) (λ d. inv.still k (omega (arith, le)));
      taken = λ k below. ap (λ (l : List (Option CheckedState)). get_or l k None) c.take_at-slabs.ensures.after
          ∙ at_written_else (λ (x : Option CheckedState). x ≡ None) c.loop-cache.checked.items c.from.result k None None within (λ e. refl) (λ d. inv.taken k (omega (arith, c.from.ensures, d, below)));
      values = ap (map value_in) c.push_reserved.ensures.items ∙ map_push value_in c.loop-cache.values.items c.parted-value.result.0
          ∙ class-more (map value_in c.args.values.now.items) (map value_in c.loop-cache.values.items) (value_at table nodes checked) 0 i i (value_in c.parted-value.result.0) (omega arith) inv.values value;
      rooms = ap (map room_in) c.push_reserved.ensures.items ∙ map_push room_in c.loop-cache.values.items c.parted-value.result.0
          ∙ class-more (map room_in c.args.values.now.items) (map room_in c.loop-cache.values.items) (room_at table checked) 0 i i (room_in c.parted-value.result.0) (omega arith) inv.rooms room;
      count = (let a = ap length c.push_reserved.ensures.items in omega (arith, a, length-append c.loop-cache.values.items (c.parted-value.result.0 ∷ []), inv.count));
      capacity = c.push_reserved.ensures.capacity ∙ inv.capacity;
      kept_count = (let a = ap length c.push_reserved-in-loop-cache.ensures.items in omega (arith, a, length-append c.loop-cache.kept.items (c.parted-value.result.1 ∷ []), inv.kept_count));
      kept_capacity = c.push_reserved-in-loop-cache.ensures.capacity ∙ inv.kept_capacity;
      kept = subst (AreKept table nodes checked) (sym c.push_reserved-in-loop-cache.ensures.items)
          (kept-more table nodes checked c.loop-cache.kept.items c.parted-value.result.1 inv.kept
          (subst (λ n. IsKeptOf (has_node table checked n) (get_or nodes n []) c.parted-value.result.1) (sym inv.kept_count) left));
    }

pub returns-clause-rooms : goal.returns-clause-rooms
returns-clause-rooms c =
    class-end (map room_in c.args.values.now.items) (map room_in c.loop-cache.values.items) (room_at c.args.table.now c.args.checked.now.items) 0 c.loop-cache.cache 32 c.loop-cache.invariant.rooms
    (omega (arith, c.loop-cache-test, c.loop-cache.auto))
