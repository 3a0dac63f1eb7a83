-- Whichever way an allocation of an unchecked cache goes, a worker alone allocates as the lists do.
use Rattle.std.proofs.Common.{◌≡◌, ◌≢◌, ℕ, zero, suc, ◌+◌, ◌*◌, ◌<◌, ◌≤◌, ◌⊎◌, ◌&&◌, eqb, cond, Bool, true, false, List, [], ◌∷◌, length, set, Option, Some, None, inl, inr, refl, ap, sym, ◌∙◌, subst, arith}
use Rattle.std.specs.Prelude.{IfSome, take, is_some}
use Rattle.std.proofs.lemmas.Bool.{cases_eq, false≢true, ne_eqb}
use Rattle.std.proofs.lemmas.List.{set-get_or}
use Rattle.slub_trace.specs.Kinds.{is_given}
use Rattle.slub_trace.specs.declared.reply.Reply.TheVariants.{NoFrames}
use Rattle.slub_page_pool.specs.Block.{HasNoBlock, Takes}
use Rattle.slub_page_pool.specs.FreeFrames.{FreeFrames, IsPool}
use Rattle.slub_object_layout.specs.declared.layout.Layout.{Layout}
use Rattle.slub_lists.specs.declared.lists.CpuLists.{CpuLists}
use Rattle.slub_lists.specs.declared.lists.Run.{Run}
use Rattle.slub_lists.specs.State.{State}
use Rattle.slub_lists.specs.Alloc.{checked_of, lists_of, node_of, own_free, retired, batch_of, FindsRun}
use Rattle.slub_lists.specs.Places.{layout_at}
use Rattle.slub_core.specs.declared.call.Call.{Call}
use Rattle.slub_core.specs.Calls.{call_cpu}
use Rattle.slub_core.specs.Setup.{Means, cpu_number, pool_after}
use Rattle.slub_core.specs.World.{World, one_if}
use Rattle.slub_core.specs.Run.{System}
use Rattle.slub_law_opening.specs.Opening.{Beside, setup_of, tid_of}
use Rattle.slub_law_opening.proofs.Cpus.{cpu-bare}
use Rattle.slub_law_alone.specs.Alone.{IsAtRest, IsNext, HasIds}
use Rattle.slub_law_alone.specs.Allocs.{AllocatesSome, AllocationsAreThoseOfLists}
use Rattle.slub_law_alone.specs.Laws.{IsAlloc, AllocatesAlone, HasNoSlab}
use Rattle.slub_law_alone.specs.Spent.{TakesOff}
use Rattle.slub_calls.specs.Changes.{grown, changes_before_giving, changes_of_alloc}
use Rattle.slub_law_alone.proofs.FastAlloc as fast
use Rattle.slub_law_alone.proofs.FromNode as nodes
use Rattle.slub_law_alone.proofs.FromPartial as listed
use Rattle.slub_law_alone.proofs.NewSlabDry as dry
use Rattle.slub_law_alone.proofs.NewSlabMade as made
use Rattle.slub_law_alone.proofs.OwnTaken as own
use Rattle.slub_law_alone.proofs.SpentLists.{grown_twice}
use Rattle.slub_law_alone.proofs.SpentSlab.{taken_off}
use Rattle.slub_law_alone.proofs.Start.{IsStart, starts}
use Rattle.slub_calls.proofs.ChangeNumbers.{cpu_here}

-- ---- a run of frames for a new slab

-- the pool has one, of the layout's order or else of its least, or it has none even of the least
pub finds : (means : Means) (pool : FreeFrames) (layout : Layout) → IsPool pool → layout.order ≤ 10 → layout.min_order ≤ 10 → HasNoBlock pool.free layout.min_order ⊎ ((run : Run) × (after : FreeFrames) × FindsRun pool layout (Some run) after)
finds means pool layout good small least_small = at_order (means.take pool layout.order) (means.takes pool layout.order good small)
  where
    at_least : HasNoBlock pool.free layout.order → layout.min_order ≢ layout.order → (o : Option ℕ) → Takes pool layout.min_order o (pool_after pool layout.min_order o) → HasNoBlock pool.free layout.min_order ⊎ ((run : Run) × (after : FreeFrames) × FindsRun pool layout (Some run) after)
    at_least none away None takes = inl takes.1
    at_least none away (Some f) takes = inr (record { frame = f; order = layout.min_order; objects = layout.min_objects_slab }, pool_after pool layout.min_order (Some f), inr (away, refl, refl, (refl, none), takes))

    at_order : (o : Option ℕ) → Takes pool layout.order o (pool_after pool layout.order o) → HasNoBlock pool.free layout.min_order ⊎ ((run : Run) × (after : FreeFrames) × FindsRun pool layout (Some run) after)
    at_order None takes = elim (cases_eq layout.min_order layout.order) [
      | inl same ↦ inl (subst (HasNoBlock pool.free) (sym same) takes.1)
      | inr away ↦ at_least takes.1 away (means.take pool layout.min_order) (means.takes pool layout.min_order good least_small)
    ]
    at_order (Some f) takes = inr (record { frame = f; order = layout.order; objects = layout.objects }, pool_after pool layout.order (Some f), inl (refl, refl, takes))

-- ---- ids

-- an id that stays
pub grown_none : (b : Beside) (n : ℕ) → grown b n 0 ≡ b
grown_none b n = λ i. record b { tids = ids i }
  where
    ids : set b.tids n (tid_of b n + 0 * b.step) ≡ b.tids
    ids = ap (set b.tids n) (let e : tid_of b n + 0 * b.step ≡ tid_of b n = omega arith in e) ∙ set-get_or b.tids n 0

-- ---- what an allocation gave

-- by all its turns, with these ids beside the lists after it
pub record Gave (opening : World) (s : State) (b : Beside) (system : System) (x : ℕ) (call : Call) (place all : ℕ) (d : Beside) (given : Bool) : Type 0 where
  pub allocates : AllocatesAlone opening s b system x call place all d
  pub gives : is_given allocates.reply ≡ given
  pub lacks : given ≡ false → allocates.reply ≡ NoFrames

pub gave_some : (opening : World) (s : State) (b : Beside) (system : System) (x : ℕ) (call : Call) (place k turns all : ℕ) (d : Beside) (given : Bool) → all ≡ 1 + turns → d ≡ grown b (cpu_number k (call_cpu call)) (changes_of_alloc s k (call_cpu call) given) → Gave opening s b system x call place all d given
    → AllocatesSome opening s b system x call place k
gave_some opening s b system x call place k turns all d given sum same gave =
    let z = subst (λ d. Gave opening s b system x call place (1 + turns) d given) same (subst (λ all. Gave opening s b system x call place all d given) sum gave) in
    record { turns = turns; given = given; allocates = z.allocates; gives = z.gives; lacks = z.lacks }

-- it gave an object, or it didn't
pub gave_one : (opening : World) (s : State) (b : Beside) (system : System) (x : ℕ) (call : Call) (place all : ℕ) (d : Beside) (z : AllocatesAlone opening s b system x call place all d) → is_given z.reply ≡ true → Gave opening s b system x call place all d true
gave_one opening s b system x call place all d z gives = record { allocates = z; gives = gives; lacks = λ e. absurd (false≢true (sym e)) }

pub gave_none : (opening : World) (s : State) (b : Beside) (system : System) (x : ℕ) (call : Call) (place all : ℕ) (d : Beside) (z : AllocatesAlone opening s b system x call place all d) → z.reply ≡ NoFrames → Gave opening s b system x call place all d false
gave_none opening s b system x call place all d z lacks = record { allocates = z; gives = ap is_given lacks; lacks = λ e. lacks }

-- how often it changed the CPU word before it was given an object
before_are : (s : State) (k cpu : ℕ) → (free : List ℕ) → (lists_of s k cpu).free ≡ free → (current : Option ℕ) → (lists_of s k cpu).current ≡ current → changes_before_giving s k cpu ≡ one_if (eqb (length free) 0 && is_some current)
before_are s k cpu free first current there = ap (λ free. one_if (eqb (length free) 0 && is_some (lists_of s k cpu).current)) first ∙ ap (λ o. one_if (eqb (length free) 0 && is_some o)) there

-- and in all
changes_are : (s : State) (k cpu : ℕ) (given : Bool) → checked_of s k ≡ None → (free : List ℕ) → (lists_of s k cpu).free ≡ free → (current : Option ℕ) → (lists_of s k cpu).current ≡ current
    → changes_of_alloc s k cpu given ≡ one_if (eqb (length free) 0 && is_some current) + one_if given
changes_are s k cpu given plain free first current there =
    ap (λ o. cond {A = ℕ} (is_some o) 0 (one_if (eqb (length (lists_of s k cpu).free) 0 && is_some (lists_of s k cpu).current) + one_if given)) plain
    ∙ ap (λ n. n + one_if given) (before_are s k cpu free first current there)

-- where no current slab has to go
just_given : (given : Bool) → 0 + one_if given ≡ one_if given
just_given true = refl
just_given false = refl

-- ---- a CPU without a current slab

module _ (opening : World) (s : State) (b : Beside) (system : System) (x : ℕ) (call : Call) (place k : ℕ) (rest : IsAtRest opening s b system) (next : IsNext system x call) (is : IsAlloc s call place k) where
  abbrev n : ℕ
  n = cpu_number k (call_cpu call)

  abbrev lists : CpuLists
  lists = lists_of s k (call_cpu call)

  begin : IsStart opening s b system x call
  begin = starts opening s b system x call rest next

  lives : (setup_of s b).lives k ≡ true
  lives = subst (λ o. IfSome o (λ k. (setup_of s b).lives k ≡ true)) is.asks begin.may.cache

  inside : k < 32
  inside = begin.setup.live k lives

  -- by so many turns and one
  some_turns : (turns all changes : ℕ) (given : Bool) → all ≡ 1 + turns → changes ≡ changes_of_alloc s k (call_cpu call) given → Gave opening s b system x call place all (grown b n changes) given → AllocatesSome opening s b system x call place k
  some_turns turns all changes given sum same gave = gave_some opening s b system x call place k turns all (grown b n changes) given sum (ap (grown b n) same) gave

  module _ (ids : HasIds b n 1) (current : lists.current ≡ None) where
    empty : lists.free ≡ []
    empty =
        let here = cpu_here s k (call_cpu call) begin.may.cpu begin.few in
        sym (ap (λ (x : CpuLists). x.free) here) ∙ cpu-bare s n begin.consistent (ap (λ (x : CpuLists). x.current) here ∙ current)

    bare : (given : Bool) → one_if given ≡ changes_of_alloc s k (call_cpu call) given
    bare given = sym (changes_are s k (call_cpu call) given is.unchecked [] empty None current ∙ just_given given)

    one : (turns all : ℕ) → all ≡ 1 + turns → (z : AllocatesAlone opening s b system x call place all (grown b n 1)) → is_given z.reply ≡ true → AllocatesSome opening s b system x call place k
    one turns all sum z gives = some_turns turns all 1 true sum (bare true) (gave_one opening s b system x call place all (grown b n 1) z gives)

    from_pool : HasNoSlab s k (call_cpu call) → AllocatesSome opening s b system x call place k
    from_pool none = by (finds b.means s.pool (layout_at s k) rest.lists.shaped.pool (omega (arith, bounds.0)) (omega (arith, bounds.0, bounds.1)))
      where
        bounds : ((layout_at s k).order ≤ 3) × ((layout_at s k).min_order ≤ (layout_at s k).order)
        bounds = (let within = begin.setup.layout k lives in within.order, let within = begin.setup.layout k lives in within.min_order)

        by : HasNoBlock s.pool.free (layout_at s k).min_order ⊎ ((run : Run) × (after : FreeFrames) × FindsRun s.pool (layout_at s k) (Some run) after) → AllocatesSome opening s b system x call place k
        by (inl none_there) = gave_some opening s b system x call place k 5 6 b false refl (sym (grown_none b n) ∙ ap (grown b n) (bare false))
            (gave_none opening s b system x call place 6 b (dry.tells opening s b system x call place k rest next is ids none none_there) (dry.tells_lacks opening s b system x call place k rest next is ids none none_there))
        by (inr (run, pool, found)) = one (9 + run.objects) (10 + run.objects) (omega arith) (made.makes_one opening s b system x call place k run pool rest next is ids none found) (made.makes_one_gives opening s b system x call place k run pool rest next is ids none found)

    from_node : (fs : List ℕ) → node_of s k ≡ fs → lists.partial ≡ [] → AllocatesSome opening s b system x call place k
    from_node [] node list = from_pool (record { current = current; list = list; node = node })
    from_node (f ∷ others) node list =
        let moved = length (take (batch_of (layout_at s k)) others) in
        one (8 + 5 * moved) (9 + 5 * moved) (omega arith) (nodes.takes opening s b system x call place k f others rest next is ids current list node) (nodes.takes_gives opening s b system x call place k f others rest next is ids current list node)

    from_lists : (fs : List ℕ) → lists.partial ≡ fs → AllocatesSome opening s b system x call place k
    from_lists [] list = from_node (node_of s k) refl list
    from_lists (f ∷ []) list = one 6 7 refl (listed.takes_only opening s b system x call place k f [] rest next is ids empty current list refl) (listed.takes_only_gives opening s b system x call place k f [] rest next is ids empty current list refl)
    from_lists (f ∷ g ∷ fs) list = one 9 10 refl (listed.takes_first opening s b system x call place k f (g ∷ fs) rest next is ids empty current list g fs refl)
        (listed.takes_first_gives opening s b system x call place k f (g ∷ fs) rest next is ids empty current list g fs refl)

    bare_allocated : AllocatesSome opening s b system x call place k
    bare_allocated = from_lists lists.partial refl

-- ---- any CPU

module _ (opening : World) (s : State) (b : Beside) (system : System) (x : ℕ) (call : Call) (place k : ℕ) (rest : IsAtRest opening s b system) (next : IsNext system x call) (is : IsAlloc s call place k) (ids : HasIds b (cpu_number k (call_cpu call)) (1 + changes_before_giving s k (call_cpu call))) where
  abbrev word : ℕ
  word = cpu_number k (call_cpu call)

  abbrev has : CpuLists
  has = lists_of s k (call_cpu call)

  -- what the ids are enough for
  enough : (free : List ℕ) (current : Option ℕ) → has.free ≡ free → has.current ≡ current → HasIds b word (1 + one_if (eqb (length free) 0 && is_some current))
  enough free current first there = subst (λ n. HasIds b word (1 + n)) (before_are s k (call_cpu call) free first current there) ids

  by_turns : (turns all changes : ℕ) → all ≡ 1 + turns → changes ≡ changes_of_alloc s k (call_cpu call) true → (z : AllocatesAlone opening s b system x call place all (grown b word changes)) → is_given z.reply ≡ true → AllocatesSome opening s b system x call place k
  by_turns turns all changes sum same z gives = gave_some opening s b system x call place k turns all (grown b word changes) true sum (ap (grown b word) same) (gave_one opening s b system x call place all (grown b word changes) z gives)

  module _ (f : ℕ) (off : TakesOff opening s b system x call place k f) (current : has.current ≡ Some f) (empty : has.free ≡ []) where
    abbrev t : State
    t = retired s k (call_cpu call) f

    abbrev b1 : Beside
    b1 = grown b word 1

    room : word < length b.tids
    room =
        let begin = starts opening s b system x call rest next in
        omega (arith, inside opening s b system x call place k rest next is, begin.may.cpu, begin.few, rest.beside.tids)

    -- the id grows once more than from there on
    once_more : (changes : ℕ) → changes ≤ 1 → grown b1 word changes ≡ grown b word (1 + changes)
    once_more zero few = grown_none b1 word
    once_more (suc zero) few = grown_twice b word room
    once_more (suc (suc changes)) few = absurd (omega (arith, few))

    few : (given : Bool) → one_if given ≤ 1
    few true = omega arith
    few false = omega arith

    after_off : AllocatesSome opening s b system x call place k
    after_off =
        let z : AllocatesSome opening t b1 off.taken x call place k = bare_allocated opening t b1 off.taken x call place k off.rest off.next off.alloc off.ids (ap (λ (x : CpuLists). x.current) off.lists) in
        let changes = changes_of_alloc t k (call_cpu call) z.given in
        let here : changes ≡ one_if z.given = changes_are t k (call_cpu call) z.given off.alloc.unchecked [] (ap (λ (x : CpuLists). x.free) off.lists) None (ap (λ (x : CpuLists). x.current) off.lists) ∙ just_given z.given in
        let goes = off.goes_on z.turns (grown b1 word changes) z.allocates in
        gave_some opening s b system x call place k (3 + z.turns) (4 + z.turns) (grown b1 word changes) z.given (omega arith)
        (ap (grown b1 word) here ∙ once_more (one_if z.given) (few z.given) ∙ ap (grown b word) (sym (changes_are s k (call_cpu call) z.given is.unchecked [] empty (Some f) current)))
        (record { allocates = goes.0; gives = ap is_given goes.1 ∙ z.gives; lacks = λ e. goes.1 ∙ z.lacks e })

  from_current : (f : ℕ) (free : List ℕ) → own_free s f ≡ free → has.current ≡ Some f → has.free ≡ [] → AllocatesSome opening s b system x call place k
  from_current f [] none current empty = after_off f (taken_off opening s b system x call place k f rest next is (enough [] (Some f) empty current) empty current none) current empty
  from_current f (i ∷ free) filled current empty =
      let some : 0 < length (own_free s f) = (let e = ap (length {A = ℕ}) filled in omega (arith, e)) in
      by_turns 6 7 2 refl (sym (changes_are s k (call_cpu call) true is.unchecked [] empty (Some f) current)) (own.takes opening s b system x call place k f rest next is (enough [] (Some f) empty current) empty current some) (own.takes_gives opening s b system x call place k f rest next is (enough [] (Some f) empty current) empty current some)

  from_slabs : (o : Option ℕ) → has.current ≡ o → has.free ≡ [] → AllocatesSome opening s b system x call place k
  from_slabs None current empty = bare_allocated opening s b system x call place k rest next is (enough [] None empty current) current
  from_slabs (Some f) current empty = from_current f (own_free s f) refl current empty

  from_free : (free : List ℕ) → has.free ≡ free → AllocatesSome opening s b system x call place k
  from_free [] empty = from_slabs has.current refl empty
  from_free (i ∷ free) first =
      let some : 0 < length has.free = (let e = ap (length {A = ℕ}) first in omega (arith, e)) in
      let filled : eqb (length (i ∷ free)) 0 ≡ false = ne_eqb (length (i ∷ free)) 0 (λ e. absurd (omega (arith, e))) in
      let once : HasIds b word 1 = subst (λ z. HasIds b word (1 + one_if (z && is_some has.current))) filled (enough (i ∷ free) has.current first refl) in
      by_turns 2 3 1 refl (sym (changes_are s k (call_cpu call) true is.unchecked (i ∷ free) first has.current refl ∙ ap (λ z. one_if (z && is_some has.current) + 1) filled)) (fast.pops opening s b system x call place k rest next is once some) (fast.pops_gives opening s b system x call place k rest next is once some)

  whole : AllocatesSome opening s b system x call place k
  whole = from_free has.free refl

pub any_allocated : AllocationsAreThoseOfLists
any_allocated opening s b system x call place k rest next is ids = whole opening s b system x call place k rest next is ids
