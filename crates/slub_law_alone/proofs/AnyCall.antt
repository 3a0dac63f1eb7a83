-- Whichever way a call goes, be its cache checked or not, a worker alone does what the lists do.
use Rattle.std.proofs.Common.{◌≡◌, ℕ, ◌+◌, ◌&&◌, cond, eqb, false, if◌then◌else◌, Option, Some, None, inl, inr, refl, ap, sym, ◌∙◌, subst}
use Rattle.std.specs.Prelude.{IfSome, IsSome, is_some}
use Rattle.std.specs.Option.{option_map_or}
use Rattle.std.proofs.lemmas.Bool.{cases_Bool, eqb-true}
use Rattle.std.proofs.lemmas.Option.{same_Some}
use Rattle.slub_red_zone.specs.State.{CheckedState}
use Rattle.slub_lists.specs.declared.lists.Held.{Held}
use Rattle.slub_lists.specs.State.{State}
use Rattle.slub_lists.specs.Alloc.{checked_of, lists_of}
use Rattle.slub_lists.specs.Coherent.{held_under}
use Rattle.slub_lists.specs.Free.{is_current, is_freeable}
use Rattle.slub_core.specs.declared.call.Call.{Call}
use Rattle.slub_core.specs.declared.call.CallKind.TheVariants.{Free, Write, Read}
use Rattle.slub_core.specs.Calls.{call_kind, call_cpu, call_object}
use Rattle.slub_core.specs.Setup.{cpu_number}
use Rattle.slub_core.specs.Local.{Local}
use Rattle.slub_core.specs.Replies.{names_object}
use Rattle.slub_core.specs.Run.{System}
use Rattle.slub_core.specs.World.{World, one_if}
use Rattle.slub_law_opening.specs.Opening.{Beside}
use Rattle.slub_law_opening.proofs.Names.{as_held}
use Rattle.slub_law_alone.specs.Alone.{worker_at, known_at, IsAtRest, IsNext, HasIds}
use Rattle.slub_law_alone.specs.Allocs.{AllocatesSome}
use Rattle.slub_law_alone.specs.Calls.{HasIdsFor, IsAllocOf, AllAllocationsAreThoseOfLists, AllFreesAreThoseOfLists, turns_of_use, WritesAreThoseOfLists, ReadsAreThoseOfLists}
use Rattle.slub_law_alone.specs.CheckedAll.{FreesLocked}
use Rattle.slub_law_alone.specs.Frees.{HasOwnNumber, FreesSome}
use Rattle.slub_law_alone.specs.Laws.{FreesAlone, WritesAlone, ReadsAlone}
use Rattle.slub_law_alone.proofs.AnyAlloc.{grown_none, any_allocated}
use Rattle.slub_law_alone.proofs.AnyChecked.{checked_allocated, checked_freed, checked_board_freed}
use Rattle.slub_law_alone.proofs.AnyFree.{any_freed}
use Rattle.slub_law_alone.proofs.CheckedUses.{checked_stores, checked_loads}
use Rattle.slub_law_alone.proofs.Holding.{holds_it}
use Rattle.slub_law_alone.proofs.Ready.{rests_ready}
use Rattle.slub_law_alone.proofs.Start.{has_object}
use Rattle.slub_law_alone.proofs.Unheld.{finds_nothing}
use Rattle.slub_law_alone.proofs.Uses.{stores, loads}
use Rattle.slub_calls.specs.Changes.{grown, changes_before_giving, changes_of_free, changes_of_held, word_of_free}

-- ---- allocations

module _ (opening : World) (s : State) (b : Beside) (system : System) (x : ℕ) (call : Call) (place k : ℕ) (rest : IsAtRest opening s b system) (next : IsNext system x call) (is : IsAllocOf s call place k) (ids : HasIdsFor s b k (call_cpu call) (1 + changes_before_giving s k (call_cpu call))) where
  by_cache : (slabs : Option CheckedState) → checked_of s k ≡ slabs → AllocatesSome opening s b system x call place k
  by_cache None plain = any_allocated opening s b system x call place k rest next (record { kind = is.kind; named = is.named; asks = is.asks; unchecked = plain }) (ids plain)
  by_cache (Some slabs) checked = checked_allocated opening s b system x call place k slabs rest next (record { kind = is.kind; named = is.named; asks = is.asks; checked = checked })

pub all_allocated : AllAllocationsAreThoseOfLists
all_allocated opening s b system x call place k rest next is ids = by_cache opening s b system x call place k rest next is ids (checked_of s k) refl

-- ---- frees

module _ (opening : World) (s : State) (b : Beside) (system : System) (x : ℕ) (call : Call) (rest : IsAtRest opening s b system) (next : IsNext system x call) (own : HasOwnNumber system x) (is : call_kind call ≡ Free) where
  abbrev l : Local
  l = worker_at system x

  module _ (held : Held) (there : held_under s (call_object call) ≡ Some held) (slabs : CheckedState) (checked : checked_of s held.cache ≡ Some slabs) where
    of_its_own : held.worker ≡ Some l.worker → FreesLocked opening s b system x call
    of_its_own mine =
        let names = ap names_object is in
        let holds = holds_it opening s b system x call held rest next own names there mine in
        let object = has_object opening s b system x call rest next names holds in
        let cache : held.cache ≡ (known_at l call).cache = ap (λ (h : Held). h.cache) (same_Some held (as_held l.worker (known_at l call)) (sym there ∙ object.named)) in
        checked_freed opening s b system x call slabs (rests_ready opening s b system x call rest next) next (record { kind = is; held = holds; checked = ap (checked_of s) (sym cache) ∙ checked })

    of_another : is_freeable l.worker held.worker ≡ false → FreesLocked opening s b system x call
    of_another other = record { turns = 0; frees = finds_nothing opening s b system x call rest next is (subst (λ o. IfSome o (λ held. is_freeable l.worker held.worker ≡ false)) (sym there) other) }

    by_holder : (holder : Option ℕ) → held.worker ≡ holder → FreesLocked opening s b system x call
    by_holder None nobodys = checked_board_freed opening s b system x call held slabs rest next is there nobodys checked
    by_holder (Some y) whose = elim (cases_Bool (eqb y l.worker)) [
      | inl same ↦ of_its_own (whose ∙ ap Some (eqb-true y l.worker same))
      | inr other ↦ of_another (ap (is_freeable l.worker) whose ∙ other)
    ]

    -- no CPU word has changed
    locked : FreesSome opening s b system x call
    locked =
        let z : FreesLocked opening s b system x call = by_holder held.worker refl in
        let n = word_of_free s (call_cpu call) (call_object call) in
        record { turns = z.turns; frees = subst (FreesAlone opening s b system x call (1 + z.turns)) (sym (grown_none b n) ∙ ap (grown b n) (sym none)) z.frees }
      where
        none : changes_of_free s (call_cpu call) l.worker (call_object call) ≡ 0
        none = ap (λ o. option_map_or (changes_of_held s (call_cpu call) l.worker) o 0) there
            ∙ ap (λ o. cond {A = ℕ} (is_some o) 0 (one_if (is_freeable l.worker held.worker && is_current held.frame (lists_of s held.cache (call_cpu call)).current))) checked

  of_named : (held : Held) → held_under s (call_object call) ≡ Some held → HasIdsFor s b held.cache (call_cpu call) 1 → (slabs : Option CheckedState) → checked_of s held.cache ≡ slabs → FreesSome opening s b system x call
  of_named held there ids None plain =
      any_freed opening s b system x call rest next own is (subst (λ o. IfSome o (λ held. (checked_of s held.cache ≡ None) × HasIds b (cpu_number held.cache (call_cpu call)) 1)) (sym there) (plain, ids plain))
  of_named held there ids (Some slabs) checked = locked held there slabs checked

  by_number : (named : Option Held) → held_under s (call_object call) ≡ named → IfSome named (λ held. HasIdsFor s b held.cache (call_cpu call) 1) → FreesSome opening s b system x call
  by_number (Some held) there ids = of_named held there ids (checked_of s held.cache) refl
  by_number None nothing ids = any_freed opening s b system x call rest next own is (subst (λ o. IfSome o (λ held. (checked_of s held.cache ≡ None) × HasIds b (cpu_number held.cache (call_cpu call)) 1)) (sym nothing) tt)

pub all_freed : AllFreesAreThoseOfLists
all_freed opening s b system x call rest next own is ids = by_number opening s b system x call rest next own is (held_under s (call_object call)) refl ids

-- ---- words of objects

module _ (opening : World) (s : State) (b : Beside) (system : System) (x : ℕ) (call : Call) (rest : IsAtRest opening s b system) (next : IsNext system x call) where
  abbrev k : ℕ
  k = (known_at (worker_at system x) call).cache

  written : call_kind call ≡ Write → (slabs : Option CheckedState) → checked_of s k ≡ slabs → WritesAlone opening s b system x call (turns_of_use s k)
  written is None plain = subst (λ o. WritesAlone opening s b system x call (if is_some o then 2 else 1)) (sym plain) (stores opening s b system x call rest next is plain)
  written is (Some slabs) checked = subst (λ o. WritesAlone opening s b system x call (if is_some o then 2 else 1)) (sym checked) (checked_stores opening s b system x call rest next is (subst (λ o. IsSome o) (sym checked) refl))

  read : call_kind call ≡ Read → (slabs : Option CheckedState) → checked_of s k ≡ slabs → ReadsAlone opening s b system x call (turns_of_use s k)
  read is None plain = subst (λ o. ReadsAlone opening s b system x call (if is_some o then 2 else 1)) (sym plain) (loads opening s b system x call rest next is plain)
  read is (Some slabs) checked = subst (λ o. ReadsAlone opening s b system x call (if is_some o then 2 else 1)) (sym checked) (checked_loads opening s b system x call rest next is (subst (λ o. IsSome o) (sym checked) refl))

pub all_written : WritesAreThoseOfLists
all_written opening s b system x call rest next is = written opening s b system x call rest next is (checked_of s (known_at (worker_at system x) call).cache) refl

pub all_read : ReadsAreThoseOfLists
all_read opening s b system x call rest next is = read opening s b system x call rest next is (checked_of s (known_at (worker_at system x) call).cache) refl
