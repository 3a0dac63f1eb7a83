-- What a machine that rests has of a slab of a node list.
use Rattle.std.proofs.Common.{◌≡◌, ◌≢◌, ℕ, ◌+◌, ◌*◌, ◌/◌, ◌%◌, ◌<◌, ◌≤◌, List, [], length, Some, refl, ap, sym, ◌∙◌, subst, arith, sum_by}
use Rattle.std.specs.Prelude.{IfSome}
use Rattle.slub_common.specs.Times.{times}
use Rattle.slub_common.proofs.Sums.{element-counted}
use Rattle.slub_lists.specs.declared.lists.Slab.{Slab}
use Rattle.slub_lists.specs.declared.lists.CpuLists.{CpuLists}
use Rattle.slub_lists.specs.State.{State}
use Rattle.slub_lists.specs.Alloc.{no_lists, slab_of, own_free, node_of, lists_of, cpu_place}
use Rattle.slub_lists.specs.Coherent.{IsConsistent, times_partial}
use Rattle.slub_lists.proofs.Listed.{current-counted-at, node-counted}
use Rattle.slub_lists.proofs.Places.{objects-few, slab-inside, listed-is}
use Rattle.slub_core.specs.Local.{Local}
use Rattle.slub_core.specs.Listed.{IsShaped}
use Rattle.slub_core.specs.World.{World, Chains}
use Rattle.slub_law_opening.specs.Opening.{Beside, cpu_at}
use Rattle.slub_law_opening.specs.Rests.{Rests}
use Rattle.slub_law_opening.proofs.Cpus.{cpu-at}
use Rattle.slub_law_alone.proofs.Apart.{slab_word, plain_word}

-- a slab of a node list is current on no CPU
pub node_away : (s : State) (k j cpu f : ℕ) → IsConsistent s → 1 ≤ times f (node_of s k) → (lists_of s j cpu).current ≢ Some f
node_away s k j cpu f consistent on current =
    let some = current-counted-at s f (cpu_place s j cpu) current in
    absurd (omega (arith, consistent.listed.once f, some, node-counted s f k, on))

-- the slab at a frame is one of the cache's, with a word and something to give, and on no CPU's list
pub record IsOnNode (s : State) (w : World) (k g : ℕ) : Type 0 where
  pub slab : Slab
  pub there : slab_of s g ≡ Some slab
  pub of_cache : slab.cache ≡ k
  pub within : (0 < g) × (g < s.frames)
  pub stocked : 0 < length (own_free s g)
  pub some : 1 ≤ (w.slab g).objects
  pub cache : (w.slab g).cache ≡ k
  pub off_cpus : (n : ℕ) → times g (cpu_at s n).partial ≡ 0

pub node_once : (s : State) (k g : ℕ) → IsConsistent s → times g (node_of s k) ≤ 1
node_once s k g consistent = let e = element-counted (times g) s.nodes k [] refl in omega (arith, e, consistent.listed.once g)

pub on_node : (s : State) (b : Beside) (w : World) (ls : List Local) (y : Chains) (k g : ℕ) → IsConsistent s → Rests s b w ls → IsShaped w y → 1 ≤ times g (node_of s k) → IsOnNode s w k g
on_node s b w ls y k g consistent rests shaped has =
    let e = element-counted (times g) s.nodes k [] refl in
    let partial : 0 < times_partial s g = omega (arith, e, has) in
    let at = listed-is s g consistent partial in
    let some = plain_word s b w ls y rests shaped g 0 at.0 at.1 (objects-few s g at.0 consistent at.1).0 at.2 in
    let word = slab_word s b w ls rests g some in
    let of_cache : at.0.cache ≡ k = subst (λ o. IfSome o (λ (y : Slab). y.cache ≡ k)) at.1 (consistent.listed.of_node k g has) in
    record {
      slab = at.0;
      there = at.1;
      of_cache = of_cache;
      within = slab-inside s g at.0 consistent at.1;
      stocked = consistent.listed.stocked g partial;
      some = some;
      cache = sym word.cache ∙ ap (λ (x : Slab). x.cache) (injected (sym word.there ∙ at.1)) ∙ of_cache;
      off_cpus = λ n. let q = on_cpus n in omega (arith, e, has, q, consistent.listed.once g);
    }
  where
    injected : {x y : Slab} → Some x ≡ Some y → x ≡ y
    injected e = cc

    on_cpus : (n : ℕ) → times g (cpu_at s n).partial ≤ sum_by (λ lists. times g lists.partial) s.cpu_lists
    on_cpus n = cpu-at s n (λ x. times g x.partial ≤ sum_by (λ (lists : CpuLists). times g lists.partial) s.cpu_lists) (omega arith) (λ below. element-counted (λ lists. times g lists.partial) s.cpu_lists (n / 16 * s.cpus + n % 16) no_lists refl)
