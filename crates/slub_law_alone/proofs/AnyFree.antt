-- Whichever way a free goes whose number names an object of an unchecked cache, or nothing, a worker alone frees as the lists do.
use Rattle.std.proofs.Common.{◌≡◌, ◌≢◌, ℕ, suc, ◌+◌, ◌<◌, ◌≤◌, ◌&&◌, Bool, true, false, cond, eqb, nat_lt, List, [], ◌∷◌, length, Option, Some, None, inl, inr, refl, ap, sym, ◌∙◌, subst, arith}
use Rattle.std.specs.Prelude.{IfSome, is_some}
use Rattle.std.specs.Option.{option_map_or}
use Rattle.std.proofs.lemmas.Bool.{cases_Bool, cases_eq, cases_lt, eq-eqb, eqb-true, lt-ltb}
use Rattle.std.proofs.lemmas.Option.{none-some, same_Some}
use Rattle.slub_common.specs.Times.{times}
use Rattle.slub_lists.specs.declared.lists.CpuLists.{CpuLists}
use Rattle.slub_lists.specs.declared.lists.Held.{Held}
use Rattle.slub_lists.specs.declared.lists.Slab.{Slab}
use Rattle.slub_lists.specs.State.{State}
use Rattle.slub_lists.specs.Alloc.{checked_of, lists_of, node_of, own_free, slab_of}
use Rattle.slub_lists.specs.Checked.{kept_by as held_by}
use Rattle.slub_lists.specs.Coherent.{has_object, held_under}
use Rattle.slub_lists.specs.Free.{inuse_of, is_current, is_freeable, is_frozen}
use Rattle.slub_lists.specs.Places.{layout_at}
use Rattle.slub_lists.proofs.CheckedSlabs.{held-once}
use Rattle.slub_lists.proofs.Counting.{IsOnce, once-room}
use Rattle.slub_lists.proofs.Places.{own-once}
use Rattle.slub_core.specs.declared.call.Call.{Call}
use Rattle.slub_core.specs.declared.call.CallKind.TheVariants.{Free}
use Rattle.slub_core.specs.declared.local.Known.{Known}
use Rattle.slub_core.specs.Calls.{call_kind, call_cpu, call_object}
use Rattle.slub_core.specs.Setup.{cpu_number}
use Rattle.slub_core.specs.Local.{Local}
use Rattle.slub_core.specs.Replies.{names_object}
use Rattle.slub_core.specs.Run.{System}
use Rattle.slub_core.specs.World.{World, one_if}
use Rattle.slub_law_opening.specs.Opening.{Beside}
use Rattle.slub_law_opening.proofs.Names.{as_held}
use Rattle.slub_law_alone.specs.Alone.{worker_at, known_at, IsAtRest, IsNext, HasIds}
use Rattle.slub_law_alone.specs.Boards.{TakesFromBoard}
use Rattle.slub_law_alone.specs.Frees.{HasOwnNumber, FreesSome, FreesAreThoseOfLists}
use Rattle.slub_law_alone.specs.Laws.{IsFree, FreesAlone, frozen, partial}
use Rattle.slub_law_alone.specs.Ready.{IsReady}
use Rattle.slub_law_alone.proofs.AnyAlloc.{grown_none}
use Rattle.slub_law_alone.proofs.FastFree.{fast_pushes}
use Rattle.slub_law_alone.proofs.FromBoard.{objects_taken, board_frees}
use Rattle.slub_law_alone.proofs.FullFreed.{full_listed}
use Rattle.slub_law_alone.proofs.Holding.{holds_it}
use Rattle.slub_law_alone.proofs.InPlace.{in_place, last_kept, not_current}
use Rattle.slub_law_alone.proofs.LastDiscarded.{last_discarded}
use Rattle.slub_law_alone.proofs.Moved.{lists_moved}
use Rattle.slub_law_alone.proofs.Ready.{IsReadyStart, ready_starts, ready_object, rests_ready}
use Rattle.slub_law_alone.proofs.Start.{HasObject, has_object as has_object_at}
use Rattle.slub_law_alone.proofs.Unheld.{finds_nothing}
use Rattle.slub_calls.specs.Changes.{grown, changes_of_free, changes_of_held, word_of_free}

-- by some turns and one, with a change of this CPU word where the object's slab is current
record FreesBy (opening : World) (s : State) (b : Beside) (system : System) (x : ℕ) (call : Call) (n frame : ℕ) (current : Option ℕ) : Type 0 where
  pub turns : ℕ
  pub frees : FreesAlone opening s b system x call (1 + turns) (grown b n (one_if (is_current frame current)))

-- ---- objects that the worker holds

module _ (opening : World) (s : State) (b : Beside) (system : System) (x : ℕ) (call : Call) (ready : IsReady opening s b system x) (next : IsNext system x call) (is : IsFree s (worker_at system x) call) where
  abbrev o : Known
  o = known_at (worker_at system x) call

  abbrev k : ℕ
  k = o.cache

  abbrev f : ℕ
  f = o.frame

  abbrev word : ℕ
  word = cpu_number k (call_cpu call)

  abbrev lists : CpuLists
  lists = lists_of s k (call_cpu call)

  abbrev IsFreed : Type 0
  IsFreed = FreesBy opening s b system x call word f lists.current

  begin : IsReadyStart opening s b system x call
  begin = ready_starts opening s b system x call ready next

  has : HasObject s system x call
  has = ready_object opening s b system x call ready next (ap names_object is.kind) is.held

  -- the object is in use, so it isn't on its slab's own freelist
  used : 1 ≤ inuse_of s f
  used =
      let slab : Slab = has.slab.0 in
      let held : Held = as_held (worker_at system x).worker o in
      let objects : option_map_or (λ (y : Slab). y.objects) (slab_of s f) 0 ≡ slab.objects = ap (λ o. option_map_or (λ (y : Slab). y.objects) o 0) has.slab.1 in
      let object : (i : ℕ) → has_object i (slab_of s f) ≡ cond (nat_lt i slab.objects) 1 0 = λ i. ap (has_object i) has.slab.1 in
      let one : has_object o.index (slab_of s f) ≡ 1 = object o.index ∙ ap (λ z. cond {A = ℕ} z 1 0) (lt-ltb o.index slab.objects has.slab.3) in
      let none : times o.index (own_free s f) ≡ 0 = omega (arith, begin.consistent.placed f o.index, held-once s (call_object call) held has.named, one) in
      let once : IsOnce slab.objects (own_free s f) = λ i. omega (arith, own-once s f i begin.consistent, object i) in
      omega (arith, objects, once-room slab.objects o.index (own_free s f) has.slab.3 none once)

  changed : (turns all changes : ℕ) → all ≡ 1 + turns → changes ≡ one_if (is_current f lists.current) → FreesAlone opening s b system x call all (grown b word changes) → IsFreed
  changed turns all changes sum same frees = record { turns = turns; frees = subst (λ n. FreesAlone opening s b system x call (1 + turns) (grown b word n)) same (subst (λ all. FreesAlone opening s b system x call all (grown b word changes)) sum frees) }

  module _ (away : lists.current ≢ Some f) where
    stays : (turns all : ℕ) → all ≡ 1 + turns → FreesAlone opening s b system x call all b → IsFreed
    stays turns all sum frees = changed turns all 0 sum (sym (ap one_if (not_current f lists.current away))) (subst (FreesAlone opening s b system x call all) (sym (grown_none b word)) frees)

    -- a slab of a partial list, or the last one in use of the node list
    from_partial : 0 < length (own_free s f) → IsFreed
    from_partial some = elim (cases_eq (times f (node_of s k)) 0) [
      | inl off ↦ stays 3 4 refl (in_place opening s b system x call ready next is away (partial some (inl off)))
      | inr on ↦ elim (cases_lt 1 (inuse_of s f)) [
        | inl more ↦ stays 3 4 refl (in_place opening s b system x call ready next is away (partial some (inr more)))
        | inr last ↦ elim (cases_lt (length (node_of s k)) (layout_at s k).min_partial) [
          | inl short ↦ stays 6 7 refl (last_kept opening s b system x call ready next is (omega (arith, on)) (omega (arith, used, last)) short)
          | inr long ↦ stays 9 10 refl (last_discarded opening s b system x call ready next is (omega (arith, on)) (omega (arith, used, last)) long)
        ]
      ]
    ]

    -- a slab that was full
    from_full : is_frozen s f ≡ false → own_free s f ≡ [] → IsFreed
    from_full unfrozen none = elim (cases_eq (length lists.partial) 0) [
      | inl empty ↦ stays 7 8 refl (full_listed opening s b system x call ready next is unfrozen none (inl empty))
      | inr some ↦ elim (cases_lt (length lists.partial) (layout_at s k).cpu_partial_slabs) [
        | inl room ↦ stays 7 8 refl (full_listed opening s b system x call ready next is unfrozen none (inr room))
        | inr full ↦ (let z = lists_moved opening s b system x call ready next is unfrozen none (record { some = omega (arith, some); full = full }) in stays z.0 (suc z.0) (omega arith) z.1)
      ]
    ]

    from_own : is_frozen s f ≡ false → (free : List ℕ) → own_free s f ≡ free → IsFreed
    from_own unfrozen [] none = from_full unfrozen none
    from_own unfrozen (i ∷ free) some = from_partial (let e = ap (length {A = ℕ}) some in omega (arith, e))

    elsewhere : IsFreed
    elsewhere = elim (cases_Bool (is_frozen s f)) [
      | inl cold ↦ stays 3 4 refl (in_place opening s b system x call ready next is away (frozen cold))
      | inr unfrozen ↦ from_own unfrozen (own_free s f) refl
    ]

  module _ (ids : HasIds b word 1) where
    by_current : (c : Option ℕ) → lists.current ≡ c → IsFreed
    by_current None none = elsewhere (λ e. none-some f (sym none ∙ e))
    by_current (Some c) there = elim (cases_eq c f) [
      | inl same ↦ changed 2 3 1 refl (sym (ap one_if (ap (is_current f) there ∙ eq-eqb c f same))) (fast_pushes opening s b system x call ready next is ids (there ∙ ap Some same))
      | inr other ↦ elsewhere (λ e. other (same_Some c f (sym there ∙ e)))
    ]

    held_freed : IsFreed
    held_freed = by_current lists.current refl

-- ---- whatever the number names

module _ (opening : World) (s : State) (b : Beside) (system : System) (x : ℕ) (call : Call) (rest : IsAtRest opening s b system) (next : IsNext system x call) (own : HasOwnNumber system x) (is : call_kind call ≡ Free) where
  abbrev l : Local
  l = worker_at system x

  -- the worker finds nothing
  unheld : IfSome (held_under s (call_object call)) (λ held. is_freeable l.worker held.worker ≡ false) → FreesSome opening s b system x call
  unheld nothing =
      let n = word_of_free s (call_cpu call) (call_object call) in
      record { turns = 0; frees = subst (FreesAlone opening s b system x call 1) (sym (grown_none b n) ∙ ap (grown b n) (sym (none (held_under s (call_object call)) nothing))) (finds_nothing opening s b system x call rest next is nothing) }
    where
      none : (o : Option Held) → IfSome o (λ held. is_freeable l.worker held.worker ≡ false) → option_map_or (changes_of_held s (call_cpu call) l.worker) o 0 ≡ 0
      none None other = refl
      none (Some held) other = by (is_some (checked_of s held.cache))
        where
          by : (z : Bool) → cond {A = ℕ} z 0 (one_if (is_freeable l.worker held.worker && is_current held.frame (lists_of s held.cache (call_cpu call)).current)) ≡ 0
          by true = refl
          by false = ap (λ z. one_if (z && is_current held.frame (lists_of s held.cache (call_cpu call)).current)) other

  module _ (held : Held) (there : held_under s (call_object call) ≡ Some held) where
    of_another : is_freeable l.worker held.worker ≡ false → FreesSome opening s b system x call
    of_another other = unheld (subst (λ o. IfSome o (λ held. is_freeable l.worker held.worker ≡ false)) (sym there) other)

    module _ (plain : checked_of s held.cache ≡ None) (ids : HasIds b (cpu_number held.cache (call_cpu call)) 1) where
      abbrev changes_by : Held → ℕ
      changes_by held = one_if (is_current held.frame (lists_of s held.cache (call_cpu call)).current)

      -- what is freed changes the word where its slab is current
      by_turns : (turns : ℕ) → is_freeable l.worker held.worker ≡ true → FreesAlone opening s b system x call (1 + turns) (grown b (cpu_number held.cache (call_cpu call)) (changes_by held)) → FreesSome opening s b system x call
      by_turns turns free frees = record {
        turns = turns;
        frees = subst (FreesAlone opening s b system x call (1 + turns)) (sym (ap (λ n. grown b n (changes_of_free s (call_cpu call) l.worker (call_object call))) word_is ∙ ap (grown b (cpu_number held.cache (call_cpu call))) changes_are)) frees;
      }
        where
          word_is : word_of_free s (call_cpu call) (call_object call) ≡ cpu_number held.cache (call_cpu call)
          word_is = ap (λ o. option_map_or (λ (held : Held). cpu_number held.cache (call_cpu call)) o 0) there

          changes_are : changes_of_free s (call_cpu call) l.worker (call_object call) ≡ changes_by held
          changes_are = ap (λ o. option_map_or (changes_of_held s (call_cpu call) l.worker) o 0) there
              ∙ ap (λ o. cond {A = ℕ} (is_some o) 0 (one_if (is_freeable l.worker held.worker && is_current held.frame (lists_of s held.cache (call_cpu call)).current))) plain
              ∙ ap (λ z. one_if (z && is_current held.frame (lists_of s held.cache (call_cpu call)).current)) free

      of_its_own : held.worker ≡ Some l.worker → FreesSome opening s b system x call
      of_its_own mine =
          let names = ap names_object is in
          let holds = holds_it opening s b system x call held rest next own names there mine in
          let object = has_object_at opening s b system x call rest next names holds in
          let known = known_at l call in
          let same : as_held l.worker known ≡ held = sym (same_Some held (as_held l.worker known) (sym there ∙ object.named)) in
          let cache : held.cache ≡ known.cache = ap (λ (h : Held). h.cache) (sym same) in
          let z : FreesBy opening s b system x call (cpu_number known.cache (call_cpu call)) known.frame (lists_of s known.cache (call_cpu call)).current = held_freed opening s b system x call (rests_ready opening s b system x call rest next) next (record { kind = is; held = holds; unchecked = ap (checked_of s) (sym cache) ∙ plain })
          (subst (λ k. HasIds b (cpu_number k (call_cpu call)) 1) cache ids) in
          by_turns z.turns (ap (is_freeable l.worker) mine ∙ eq-eqb l.worker l.worker refl) (subst (λ (h : Held). FreesAlone opening s b system x call (1 + z.turns) (grown b (cpu_number h.cache (call_cpu call)) (changes_by h))) same z.frees)

      of_board : held.worker ≡ None → FreesSome opening s b system x call
      of_board nobodys =
          let takes : TakesFromBoard opening s b system x call held = objects_taken opening s b system x call held rest next is there nobodys in
          let after : State = held_by s (call_object call) l.worker held in
          let known = known_at (worker_at takes.taken x) call in
          let word = cpu_number known.cache (call_cpu call) in
          let z : FreesBy opening after b takes.taken x call word known.frame (lists_of s known.cache (call_cpu call)).current = held_freed opening after b takes.taken x call takes.ready takes.next
          (record { kind = is; held = ap (λ (k : Known). k.held) takes.holds; unchecked = ap (λ (k : Known). checked_of s k.cache) takes.holds ∙ plain })
          (subst (λ (k : Known). HasIds b (cpu_number k.cache (call_cpu call)) 1) (sym takes.holds) ids) in
          let d : Beside = grown b word (one_if (is_current known.frame (lists_of s known.cache (call_cpu call)).current)) in
          let later : FreesAlone opening after b takes.taken x call (suc z.turns) d = subst (λ all. FreesAlone opening after b takes.taken x call all d) (omega arith) z.frees in
          let whole : FreesAlone opening s b system x call (1 + suc z.turns) d = subst (λ all. FreesAlone opening s b system x call all d) (omega arith) (board_frees opening s b system x call held rest next is there nobodys takes z.turns d later) in
          by_turns (suc z.turns) (ap (is_freeable l.worker) nobodys)
          (subst (λ (k : Known). FreesAlone opening s b system x call (1 + suc z.turns) (grown b (cpu_number k.cache (call_cpu call)) (one_if (is_current k.frame (lists_of s k.cache (call_cpu call)).current)))) takes.holds whole)

      of_named : (holder : Option ℕ) → held.worker ≡ holder → FreesSome opening s b system x call
      of_named None nobodys = of_board nobodys
      of_named (Some y) whose = elim (cases_Bool (eqb y l.worker)) [
        | inl same ↦ of_its_own (whose ∙ ap Some (eqb-true y l.worker same))
        | inr other ↦ of_another (ap (is_freeable l.worker) whose ∙ other)
      ]

  all_named : (named : Option Held) → held_under s (call_object call) ≡ named → IfSome named (λ held. (checked_of s held.cache ≡ None) × HasIds b (cpu_number held.cache (call_cpu call)) 1) → FreesSome opening s b system x call
  all_named None nothing plain = unheld (subst (λ o. IfSome o (λ held. is_freeable l.worker held.worker ≡ false)) (sym nothing) tt)
  all_named (Some held) there plain = of_named held there plain.0 plain.1 held.worker refl

pub any_freed : FreesAreThoseOfLists
any_freed opening s b system x call rest next own is plain = all_named opening s b system x call rest next own is (held_under s (call_object call)) refl plain
