-- Whichever way a call of a checked cache goes, a worker alone does what the lists do.
use Rattle.std.proofs.Common.{◌≡◌, ℕ, suc, ◌+◌, ◌≤◌, ◌⊎◌, ◌&&◌, eqb, cond, Bool, true, false, length, Option, Some, None, inl, inr, refl, ap, sym, ◌∙◌, subst, arith}
use Rattle.std.specs.Prelude.{is_some}
use Rattle.std.proofs.lemmas.Bool.{cases_eq, cases_lt}
use Rattle.slub_trace.specs.Kinds.{is_given}
use Rattle.slub_page_pool.specs.Block.{HasNoBlock}
use Rattle.slub_page_pool.specs.FreeFrames.{FreeFrames}
use Rattle.slub_red_zone.specs.declared.checked.CheckedGive.{CheckedGive}
use Rattle.slub_red_zone.specs.declared.checked.CheckedGive.TheVariants as give
use Rattle.slub_trace.specs.declared.damage.Damage.{Damage}
use Rattle.slub_red_zone.specs.State.{CheckedState, slab_of, objects_in}
use Rattle.slub_red_zone.specs.Steps.{IsSpare, damage_of_used, with_taken}
use Rattle.slub_lists.specs.declared.lists.Run.{Run}
use Rattle.slub_lists.specs.State.{State}
use Rattle.slub_lists.specs.Alloc.{checked_of, lists_of, FindsRun}
use Rattle.slub_lists.specs.Checked.{kept_by as held_by}
use Rattle.slub_lists.specs.Places.{layout_at}
use Rattle.slub_core.specs.declared.call.Call.{Call}
use Rattle.slub_core.specs.declared.local.Known.{Known}
use Rattle.slub_core.specs.Calls.{call_cpu, call_object}
use Rattle.slub_core.specs.Setup.{cpu_number}
use Rattle.slub_core.specs.Run.{System}
use Rattle.slub_core.specs.World.{World, one_if}
use Rattle.slub_law_opening.specs.Opening.{Beside}
use Rattle.slub_law_alone.specs.Alone.{worker_at, known_at, IsAtRest, IsNext}
use Rattle.slub_law_alone.specs.Allocs.{AllocatesSome}
use Rattle.slub_law_alone.specs.Boards.{TakesFromBoard}
use Rattle.slub_law_alone.specs.CheckedAll.{CheckedAllocationsAreThoseOfLists, FreesLocked, CheckedFreesAreThoseOfLists, CheckedBoardFreesAreThoseOfLists}
use Rattle.slub_law_alone.specs.CheckedAlone.{IsCheckedAlloc, IsCheckedFree, BecomesSpare, slot_known}
use Rattle.slub_law_alone.specs.Laws.{FreesAlone}
use Rattle.slub_law_alone.specs.Ready.{IsReady}
use Rattle.slub_law_alone.proofs.AnyAlloc.{Gave, finds, gave_none, gave_one, gave_some, grown_none}
use Rattle.slub_law_alone.proofs.CheckedDry.{orders_few, checked_dry}
use Rattle.slub_law_alone.proofs.CheckedFreed.{damage_told, taken_alone}
use Rattle.slub_law_alone.proofs.CheckedGiven.{alloc_lives, objects_given}
use Rattle.slub_law_alone.proofs.CheckedMade.{checked_made}
use Rattle.slub_law_alone.proofs.CheckedSpare.{spare_goes}
use Rattle.slub_law_alone.proofs.FromBoard.{objects_taken, board_frees}
use Rattle.slub_law_alone.proofs.Ready.{rests_ready}
use Rattle.slub_calls.specs.Changes.{grown, changes_of_alloc}

-- ---- allocations

module _ (opening : World) (s : State) (b : Beside) (system : System) (x : ℕ) (call : Call) (place k : ℕ) (slabs : CheckedState) (rest : IsAtRest opening s b system) (next : IsNext system x call) (is : IsCheckedAlloc s call place k slabs) where
  -- by so many turns and one, with no change of a CPU word
  some_turns : (turns all : ℕ) (given : Bool) → all ≡ 1 + turns → Gave opening s b system x call place all b given → AllocatesSome opening s b system x call place k
  some_turns turns all given sum gave = gave_some opening s b system x call place k turns all b given sum (sym (grown_none b (cpu_number k (call_cpu call))) ∙ ap (grown b (cpu_number k (call_cpu call))) (sym unchanged)) gave
    where
      unchanged : changes_of_alloc s k (call_cpu call) given ≡ 0
      unchanged = ap (λ o. cond {A = ℕ} (is_some o) 0 (one_if (eqb (length (lists_of s k (call_cpu call)).free) 0 && is_some (lists_of s k (call_cpu call)).current) + one_if given)) is.checked

  orders : ((layout_at s k).order ≤ 3) × ((layout_at s k).min_order ≤ (layout_at s k).order)
  orders =
      let ready = rests_ready opening s b system x call rest next in
      orders_few opening s b system x call ready next k (alloc_lives opening s b system x call place k ready next slabs is)

  from_pool : b.means.gave slabs ≡ give.Empty → AllocatesSome opening s b system x call place k
  from_pool empty = by (finds b.means s.pool (layout_at s k) rest.lists.shaped.pool (omega (arith, orders.0)) (omega (arith, orders.0, orders.1)))
    where
      by : HasNoBlock s.pool.free (layout_at s k).min_order ⊎ ((run : Run) × (after : FreeFrames) × FindsRun s.pool (layout_at s k) (Some run) after) → AllocatesSome opening s b system x call place k
      by (inl dry) = (let z = checked_dry opening s b system x call place k slabs rest next is empty dry in some_turns 3 4 false refl (gave_none opening s b system x call place 4 b z.0 z.1))
      by (inr (run, pool, found)) = (let z = checked_made opening s b system x call place k slabs run pool rest next is empty found in some_turns 3 4 true refl (gave_one opening s b system x call place 4 b z.0 (ap is_given z.1)))

  by_slabs : (gave : CheckedGive) → b.means.gave slabs ≡ gave → AllocatesSome opening s b system x call place k
  by_slabs (give.Given slot) gives = (let z = objects_given opening s b system x call place k slabs slot rest next is gives in some_turns 1 2 true refl (gave_one opening s b system x call place 2 b z.0 (ap is_given z.1)))
  by_slabs give.Empty empty = from_pool empty

pub checked_allocated : CheckedAllocationsAreThoseOfLists
checked_allocated opening s b system x call place k slabs rest next is = by_slabs opening s b system x call place k slabs rest next is (b.means.gave slabs) refl

-- ---- frees

-- a slab is spare, or not
spare_or_not : (c : CheckedState) (f least : ℕ) → IsSpare c f least ⊎ (¬ IsSpare c f least)
spare_or_not c f least = elim (cases_eq (length (slab_of c f).free) (objects_in (slab_of c f))) [
  | inr some ↦ inr (λ spare. some spare.all_free)
  | inl all ↦ elim (cases_lt (length c.listed) least) [
    | inl short ↦ inr (λ spare. absurd (omega (arith, short, spare.enough)))
    | inr long ↦ inl (record { all_free = all; enough = long })
  ]
]

module _ (opening : World) (s : State) (b : Beside) (system : System) (x : ℕ) (call : Call) (slabs : CheckedState) (ready : IsReady opening s b system x) (next : IsNext system x call) (is : IsCheckedFree s (worker_at system x) call slabs) where
  abbrev o : Known
  o = known_at (worker_at system x) call

  turns_of : (turns all : ℕ) → all ≡ 1 + turns → FreesAlone opening s b system x call all b → FreesLocked opening s b system x call
  turns_of turns all sum frees = record { turns = turns; frees = subst (λ all. FreesAlone opening s b system x call all b) sum frees }

  by_damage : (damage : Option Damage) → damage_of_used slabs (slot_known o) ≡ damage → FreesLocked opening s b system x call
  by_damage (Some damage) found = turns_of 1 2 refl (damage_told opening s b system x call slabs damage ready next is found)
  by_damage None whole = by (spare_or_not (with_taken slabs (slot_known o)) o.frame (layout_at s o.cache).min_partial)
    where
      by : BecomesSpare s slabs o ⊎ (¬ BecomesSpare s slabs o) → FreesLocked opening s b system x call
      by (inl spare) = turns_of 3 4 refl (spare_goes opening s b system x call slabs ready next is whole spare)
      by (inr stays) = turns_of 1 2 refl (taken_alone opening s b system x call slabs ready next is whole stays)

pub checked_freed : CheckedFreesAreThoseOfLists
checked_freed opening s b system x call slabs ready next is = by_damage opening s b system x call slabs ready next is (damage_of_used slabs (slot_known (known_at (worker_at system x) call))) refl

pub checked_board_freed : CheckedBoardFreesAreThoseOfLists
checked_board_freed opening s b system x call held slabs rest next is there nobodys checked =
    let takes : TakesFromBoard opening s b system x call held = objects_taken opening s b system x call held rest next is there nobodys in
    let after : State = held_by s (call_object call) (worker_at system x).worker held in
    let z : FreesLocked opening after b takes.taken x call = checked_freed opening after b takes.taken x call slabs takes.ready takes.next
    (record { kind = is; held = ap (λ (k : Known). k.held) takes.holds; checked = ap (λ (k : Known). checked_of s k.cache) takes.holds ∙ checked }) in
    let later : FreesAlone opening after b takes.taken x call (suc z.turns) b = subst (λ all. FreesAlone opening after b takes.taken x call all b) (omega arith) z.frees in
    record {
      turns = suc z.turns;
      frees = subst (λ all. FreesAlone opening s b system x call all b) (omega arith) (board_frees opening s b system x call held rest next is there nobodys takes z.turns b later);
    }
