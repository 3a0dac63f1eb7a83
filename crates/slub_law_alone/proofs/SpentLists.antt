-- Lists whose current slab has no free object: an allocation looks where it looks once the slab is off its CPU.
use Rattle.std.proofs.Common.{◌≡◌, ℕ, ◌+◌, ◌*◌, ◌<◌, [], length, set, Option, Some, None, ap, sym, ◌∙◌, subst, arith}
use Rattle.std.specs.Prelude.{MatchOption, MatchResult}
use Rattle.std.proofs.lemmas.List.{get_or-set_same, set-set}
use Rattle.slub_trace.specs.declared.reply.Reply.{Reply}
use Rattle.slub_trace.specs.declared.reply.Reply.TheVariants.{NoSuchCache}
use Rattle.slub_object_layout.specs.declared.layout.Layout.{Layout}
use Rattle.slub_cache_create.specs.declared.caches.Cache.{Cache}
use Rattle.slub_lists.specs.declared.lists.CpuLists.{CpuLists}
use Rattle.slub_lists.specs.State.{State}
use Rattle.slub_lists.specs.Alloc.{lists_of, named, cache_of, checked_of, own_free, retired, stocked, from_free, from_slabs, from_current, batch_of, AllocatesNew, Allocates, Gives}
use Rattle.slub_lists.specs.Named.{AllocatesNamed, AllocatesFrom}
use Rattle.slub_lists.specs.Checked.{AllocatesChecked}
use Rattle.slub_lists.specs.Coherent.{IsConsistent}
use Rattle.slub_lists.proofs.Coherence.{lists-retired}
use Rattle.slub_lists.proofs.Giving.{from-unchecked}
use Rattle.slub_law_opening.specs.Opening.{Beside, tid_of}
use Rattle.slub_calls.specs.Changes.{grown}

module _ (s : State) (k cpu f : ℕ) (consistent : IsConsistent s) (inside : k < 32) (cpu_inside : cpu < s.cpus) (empty : (lists_of s k cpu).free ≡ []) (current : (lists_of s k cpu).current ≡ Some f) (none : own_free s f ≡ []) where
  abbrev pub t : State
  t = retired s k cpu f

  pub lists_off : lists_of t k cpu ≡ record { current = None; free = []; partial = (lists_of s k cpu).partial }
  lists_off = lists-retired s k cpu consistent inside cpu_inside f

  -- both look for a slab in the same lists
  stocked_same : (layout : Layout) → stocked t layout k cpu ≡ stocked s layout k cpu
  stocked_same layout =
      let batch = batch_of layout in
      ap (from_free t k cpu batch) (ap (λ (x : CpuLists). x.free) lists_off) ∙ ap (from_slabs t k cpu batch) (ap (λ (x : CpuLists). x.current) lists_off)
      ∙ sym (ap (from_free s k cpu batch) empty ∙ ap (from_slabs s k cpu batch) current ∙ ap (from_current s k cpu batch f) none)

  -- so what is allocated without the slab is allocated
  pub allocated : (place worker object : ℕ) (reply : Reply) (after : State) → named s place ≡ Some k → checked_of s k ≡ None → AllocatesNamed t place cpu worker object reply after → AllocatesNamed s place cpu worker object reply after
  allocated place worker object reply after names plain allocates =
      subst (λ o. MatchOption o ((reply ≡ NoSuchCache) × (after ≡ s)) (λ cache. MatchOption (cache_of s cache) ⊥ (λ live. AllocatesFrom s live.layout cache cpu worker object reply after))) (sym names)
      (by (cache_of s k) (subst (λ o. MatchOption o ((reply ≡ NoSuchCache) × (after ≡ t)) (λ cache. MatchOption (cache_of s cache) ⊥ (λ live. AllocatesFrom t live.layout cache cpu worker object reply after))) names allocates))
    where
      by : (o : Option Cache) → MatchOption o ⊥ (λ live. AllocatesFrom t live.layout k cpu worker object reply after) → MatchOption o ⊥ (λ live. AllocatesFrom s live.layout k cpu worker object reply after)
      by None never = never
      by (Some live) from = from-unchecked (checked_of s k) _ _ plain
          (subst (λ r. MatchResult r (λ stocked. Gives stocked live.layout k cpu worker object reply after) (λ bare. AllocatesNew bare live.layout k cpu worker object reply after)) (stocked_same live.layout)
          (subst (λ o. MatchOption o (Allocates t live.layout k cpu worker object reply after) (λ slabs. AllocatesChecked t live.layout k slabs worker object reply after)) plain from))

-- ---- beside them

-- an id that grows twice
pub grown_twice : (b : Beside) (n : ℕ) → n < length b.tids → grown (grown b n 1) n 1 ≡ grown b n 2
grown_twice b n below = λ i. record b { tids = ids i }
  where
    sums : tid_of b n + 1 * b.step + 1 * b.step ≡ tid_of b n + 2 * b.step
    sums = omega arith

    ids : (grown (grown b n 1) n 1).tids ≡ set b.tids n (tid_of b n + 2 * b.step)
    ids = ap (λ tid. set (grown b n 1).tids n (tid + 1 * b.step)) (get_or-set_same b.tids n (tid_of b n + 1 * b.step) 0 below) ∙ set-set b.tids n (tid_of b n + 1 * b.step) (tid_of b n + 1 * b.step + 1 * b.step) ∙ ap (set b.tids n) sums
