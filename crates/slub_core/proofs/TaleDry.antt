-- A pool that lacks a run counts it, and the call is answered so.
use Rattle.std.proofs.Common.{◌≡◌, ℕ, zero, suc, ◌+◌, ◌-◌, ◌^◌, ◌<◌, ◌≤◌, ◌&&◌, eqb, true, false, List, [], ◌∷◌, length, set, refl, ap, ◌∙◌, subst, arith, inl, inr, Some}
use Rattle.std.specs.Prelude.{sum_by, slice_index, min}
use Rattle.std.proofs.lemmas.Bool.{cases_eq, eq-eqb, ne_eqb, cond_both}
use Rattle.std.proofs.lemmas.List.Sums.{sum_by-cons}
use Rattle.slub_trace.specs.declared.reply.Reply.TheVariants as reply
use Rattle.slub_core.specs.declared.call.CallKind.TheVariants.{Alloc}
use Rattle.slub_core.specs.declared.local.Answered.{Answered}
use Rattle.slub_core.specs.Calls.{call_cache}
use Rattle.slub_core.specs.Setup.{Setup, pool_lock}
use Rattle.slub_core.specs.World.{World, Pool, pool_in, pool_of, one_if}
use Rattle.slub_core.specs.Local.{Worker, call_of}
use Rattle.slub_core.specs.Alloc.{noted_dry, pool_with}
use Rattle.slub_core.specs.Spots.{doing, is_freeing}
use Rattle.slub_core.specs.Replies.{is_dry, least_order, dry_in}
use Rattle.slub_core.specs.Accounted.{IsAccounted}
use Rattle.slub_core.proofs.Update.{update_same}
use Rattle.slub_core.proofs.TaleReplies.{AnswersKept, told-of, told_same}

index-same : (xs : List ℕ) (k v : ℕ) → k < length xs → slice_index (set xs k v) k ≡ v
index-same [] k v below = absurd (omega arith)
index-same (x ∷ xs) zero v below = refl
index-same (x ∷ xs) (suc k) v below = index-same xs k v (omega arith)

index-other : (xs : List ℕ) (k j v : ℕ) → (k ≡ j → ⊥) → slice_index (set xs k v) j ≡ slice_index xs j
index-other [] k j v d = refl
index-other (x ∷ xs) zero zero v d = absurd (d refl)
index-other (x ∷ xs) zero (suc j) v d = refl
index-other (x ∷ xs) (suc k) zero v d = refl
index-other (x ∷ xs) (suc k) (suc j) v d = index-other xs k j v (λ e. d (ap suc e))

dry-most : (m : Setup) (order : ℕ) (ds : List Answered) → dry_in m order ds ≤ length ds
dry-most m order [] = omega arith
dry-most m order (d ∷ ds) =
    let r = dry-most m order ds in
    let b : one_if (is_dry d.reply && eqb (least_order m (call_cache d.call)) order) ≤ 1 = cond_both (is_dry d.reply && eqb (least_order m (call_cache d.call)) order) 1 0 (λ n. n ≤ 1) (λ e. omega arith) (λ e. omega arith) in
    omega arith

dry-sum : (m : Setup) (order : ℕ) (xs : List Worker) → sum_by (λ (x : Worker). dry_in m order x.local.done) xs ≤ sum_by (λ (x : Worker). length x.local.done + length x.local.todo) xs
dry-sum m order [] = omega arith
dry-sum m order (x ∷ xs) =
    let r = dry-sum m order xs in
    let a = sum_by-cons (λ (x : Worker). dry_in m order x.local.done) x xs in
    let b = sum_by-cons (λ (x : Worker). length x.local.done + length x.local.todo) x xs in
    let c = dry-most m order x.local.done in
    omega arith

-- the counter is far from its end
counter-small : (opening w : World) (xs : List Worker) (order : ℕ) → IsAccounted opening w xs → min (slice_index (pool_of w).dry order + 1) (2 ^ 64 - 1) ≡ slice_index (pool_of w).dry order + 1
counter-small opening w xs order ac =
    let a = ac.dry order in
    let b = dry-sum w.setup order xs in
    let c = ac.few.0 in
    let d = ac.few.1 order in
    omega arith

-- no run is there for a slab of the call's cache
pub told_dry : (opening w : World) (x z : Worker) (others : List Worker) → IsAccounted opening w (x ∷ others) → doing x.local.spot ≡ Some Alloc → is_freeing x.local.spot ≡ false → (w.setup.layout x.local.cache).min_order < length (pool_of w).dry
    → AnswersKept x.local z.local reply.NoFrames → IsAccounted opening (record w { value = pool_with w.value (noted_dry (pool_of w) (w.setup.layout x.local.cache).min_order) }) (z ∷ others)
told_dry opening w x z others ac at idle inside after =
    let l = x.local in
    let order = (w.setup.layout l.cache).min_order in
    let v : World = record w { value = pool_with w.value (noted_dry (pool_of w) order) } in
    let call = (told-of opening w x others ac).call Alloc at in
    let least : least_order w.setup (call_cache (call_of l)) ≡ order = ap (least_order w.setup) call.1.0 in
    let pool : pool_of v ≡ noted_dry (pool_of w) order = ap pool_in (update_same w.value pool_lock (Pool (noted_dry (pool_of w) order))) in
    told_same opening w v x z others Alloc reply.NoFrames ac (record {
      setup = refl;
      tids = λ n. omega arith;
      board = λ o. refl;
      memory = λ p. refl;
      dry = λ o. ap (λ p. slice_index p.dry o) pool ∙ elim (cases_eq order o) [
        | inl e ↦
            let s = index-same (pool_of w).dry order (min (slice_index (pool_of w).dry order + 1) (2 ^ 64 - 1)) inside in
            let c = counter-small opening w (x ∷ others) order ac in
            subst (λ o. slice_index (noted_dry (pool_of w) order).dry o ≡ slice_index (pool_of w).dry o + one_if (true && eqb (least_order w.setup (call_cache (call_of l))) o)) e
            (let u : one_if (true && eqb (least_order w.setup (call_cache (call_of l))) order) ≡ 1 = rw (least, eq-eqb order order refl) refl in omega arith)
        | inr d ↦
            let s = index-other (pool_of w).dry order o (min (slice_index (pool_of w).dry order + 1) (2 ^ 64 - 1)) d in
            let u : one_if (true && eqb (least_order w.setup (call_cache (call_of l))) o) ≡ 0 = rw (least, ne_eqb order o d) refl in omega arith
      ];
    }) call.0 idle refl refl after (call.0.same_kind, (l.cache, call.1.0))
