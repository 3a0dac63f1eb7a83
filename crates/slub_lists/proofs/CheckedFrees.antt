-- What the steps of a free to a checked cache add up to.
use Rattle.std.proofs.Common.{◌≡◌, ℕ, ◌<◌, List, [], length, get_or, get_or-set_same, set, Option, Some, None, IsSome, MatchOption, Ok, Err, option_map, refl, ap, sym, ◌∙◌, subst, arith, length-set, set-set}
use Rattle.std.proofs.lemmas.List.{set-get_or}
use Rattle.slub_page_pool.specs.Block.{CanPut, with_run}
use Rattle.slub_page_pool.specs.FreeFrames.{IsPool}
use Rattle.slub_object_layout.specs.declared.layout.Layout.{Layout}
use Rattle.slub_object_layout.specs.Layout.{address_of}
use Rattle.slub_red_zone.specs.declared.checked.Run.{Run}
use Rattle.slub_trace.specs.declared.damage.Damage.{Damage}
use Rattle.slub_red_zone.specs.Objects.{findable, shape_of}
use Rattle.slub_red_zone.specs.State.{CheckedState, Has, IsUsed, SlabState, slab_of as checked_slab}
use Rattle.slub_red_zone.specs.Steps.{TakesEmpty}
use Rattle.slub_lists.specs.declared.lists.Held.{Held}
use Rattle.slub_trace.specs.declared.reply.Reply.TheVariants.{Corrupt, Freed}
use Rattle.slub_lists.specs.State.{State}
use Rattle.slub_lists.specs.Alloc.{checked_of, HasLayout}
use Rattle.slub_lists.specs.Checked.{FreesChecked, discarded_where, kept_by, slot_of_held, with_checked}
use Rattle.slub_lists.specs.CheckedSteps.{DiscardsSpare, TakesBackIn, TakesEmptyIn}
use Rattle.slub_lists.specs.Coherent.{IsConsistent, held_under}
use Rattle.slub_lists.specs.Free.{discarded, order_of, with_gone, with_taken}
use Rattle.slub_lists.specs.Steps.{KeepsFound}
use Rattle.slub_lists.proofs.Found.{found-same}
use Rattle.slub_lists.proofs.CheckedSlabs.{counted, counted-within, found-with, kept-consistent, on-board, reports-from}
use Rattle.slub_common.proofs.Writes.{inside-of}
use Rattle.slub_lists.proofs.CheckedTaking.{back-consistent, going-can-put, going-consistent, going-order, going-own, going-slot, held-frame, held-has, held-objects, held-used, with-checked-same}
use Rattle.slub_lists.proofs.CheckedReplies.{of-slabs, slabs-of}

-- the slabs that are there
pub the-slabs : (x : Option CheckedState) → IsSome x → (slabs : CheckedState) × (x ≡ Some slabs)
the-slabs None there = cc
the-slabs (Some slabs) there = (slabs, refl)

-- a slab of the same shape is there
has-same : (x y : Option SlabState) → option_map shape_of x ≡ option_map shape_of y → IsSome y → IsSome x
has-same None None e there = there
has-same None (Some y) e there = cc
has-same (Some x) y e there = refl

-- ---- a slab that may go

module _ (s t : State) (cache frame limit : ℕ) (consistent : IsConsistent s) (there : MatchOption (checked_of s cache) ⊥ (λ slabs. Has slabs frame)) where
  -- it stays
  module _ (stays : TakesEmptyIn s cache frame limit None t) where
    pub stays-discards : DiscardsSpare s cache frame limit t
    stays-discards = record {
      slabs = stays.slabs;
      rest = stays.rest;
      run = None;
      was = stays.swaps.was;
      taken = stays.taken;
      now = stays.swaps.now;
      bounded = let same : findable stays.rest ≡ findable stays.slabs = ap findable stays.taken.1 in omega (arith, same);
      reports = ap (λ (s : CheckedState). s.reports) stays.taken.1;
    }

    pub stays-consistent : IsConsistent t
    stays-consistent = subst IsConsistent (sym (stays.swaps.now ∙ ap (with_checked s cache) stays.taken.1 ∙ with-checked-same s cache stays.slabs stays.swaps.was)) consistent

  -- it goes
  module _ (run : Run) (goes : TakesEmptyIn s cache frame limit (Some run) t) where
    had : Has goes.slabs frame
    had = slabs-of (checked_of s cache) goes.slabs (λ slabs. Has slabs frame) goes.swaps.was there

    its-order : run.order ≡ (checked_slab goes.slabs frame).order
    its-order = ap (λ (r : Run). r.order) goes.taken.1

    pub goes-can-put : CanPut t.pool frame run.order
    goes-can-put =
        subst (λ (t : State). CanPut t.pool frame run.order) (sym goes.swaps.now)
        (subst (λ n. CanPut s.pool frame n) (sym its-order) (going-can-put s cache frame goes.slabs goes.swaps.was had consistent))

    pub goes-inside : frame < length t.slabs
    goes-inside = subst (λ (t : State). frame < length t.slabs) (sym goes.swaps.now) (going-slot s cache frame goes.slabs goes.swaps.was had consistent)

    module _ (u : State) (out : u ≡ record t { pool = record t.pool { free = with_run t.pool.free frame run.order }; slabs = set t.slabs frame None }) where
      -- its freelist was empty
      same-frees : set s.frees frame [] ≡ s.frees
      same-frees = ap (set s.frees frame) (sym (going-own s cache frame goes.slabs goes.swaps.was had consistent)) ∙ set-get_or s.frees frame []

      out-now : u ≡ discarded (with_checked s cache goes.rest) frame
      out-now =
          out ∙ ap (λ (t : State). record t { pool = record t.pool { free = with_run t.pool.free frame run.order }; slabs = set t.slabs frame None }) goes.swaps.now
          ∙ ap (λ n. record (with_checked s cache goes.rest) { pool = record s.pool { free = with_run s.pool.free frame n }; slabs = set s.slabs frame None }) (its-order ∙ sym (going-order s cache frame goes.slabs goes.swaps.was had consistent))
          ∙ ap (λ (l : List (List ℕ)). record (with_checked s cache goes.rest) { pool = record s.pool { free = with_run s.pool.free frame (order_of s frame) }; slabs = set s.slabs frame None; frees = l }) (sym same-frees)

      pub goes-discards : DiscardsSpare s cache frame limit u
      goes-discards = record {
        slabs = goes.slabs;
        rest = goes.rest;
        run = Some run;
        was = goes.swaps.was;
        taken = goes.taken;
        now = out-now;
        bounded = goes.slab.bounded;
        reports = goes.slab.reports;
      }

      pub goes-consistent : IsPool u.pool → IsConsistent u
      goes-consistent good =
          subst IsConsistent (sym out-now)
          (going-consistent s cache frame goes.slabs goes.swaps.was had consistent goes.rest goes.swaps.sound goes.slab (subst (λ (u : State). IsPool u.pool) out-now good))

-- ---- an object that is freed

module _ (s : State) (object : ℕ) (held : Held) (consistent : IsConsistent s) (here : held_under s object ≡ Some held) where
  pub back-used : IsSome (checked_of s held.cache) → MatchOption (checked_of s held.cache) ⊥ (λ slabs. IsUsed slabs (slot_of_held held))
  back-used there =
      let slabs = the-slabs (checked_of s held.cache) there in
      of-slabs (checked_of s held.cache) slabs.0 (λ slabs. IsUsed slabs (slot_of_held held)) slabs.1 (held-used s object held slabs.0 here slabs.1 consistent)

  -- its place
  pub held-place : (layout : Layout) → HasLayout s held.cache layout → (held.frame < 4096) × (held.index < layout.objects)
  held-place layout has =
      (held-frame s object held here consistent, held-objects s object held here consistent layout has)

  module _ (t : State) (layout : Layout) (worker : ℕ) where
    -- a damaged one stays on the board
    module _ (damage : Damage) (back : TakesBackIn s held.cache (slot_of_held held) (Err damage) t) where
      pub damaged-same : t ≡ s
      damaged-same = back.swaps.now ∙ ap (with_checked s held.cache) back.taken.1 ∙ with-checked-same s held.cache back.slabs back.swaps.was

      pub damaged-inside : object < length t.board
      damaged-inside = subst (λ (t : State). object < length t.board) (sym damaged-same) (on-board s object held here)

      module _ (u : State) (kept : u ≡ kept_by t object worker held) where
        damaged-now : u ≡ kept_by s object worker held
        damaged-now = kept ∙ ap (λ (t : State). kept_by t object worker held) damaged-same

        pub damaged-frees : MatchOption (checked_of s held.cache) ⊥ (λ slabs. FreesChecked s layout slabs worker object held (Corrupt damage) u)
        damaged-frees =
            of-slabs (checked_of s held.cache) back.slabs (λ slabs. FreesChecked s layout slabs worker object held (Corrupt damage) u) back.swaps.was
            (Err damage, back.rest, back.taken, (refl, damaged-now))

        pub damaged-found : KeepsFound s u
        damaged-found = found-same s u (ap (λ (u : State). u.checked) damaged-now)

        pub damaged-consistent : IsConsistent u
        damaged-consistent = subst IsConsistent (sym damaged-now) (kept-consistent s object held here worker consistent)

    -- a whole one goes back
    module _ (done : Unit {0}) (back : TakesBackIn s held.cache (slot_of_held held) (Ok done) t) where
      pub back-inside : (object < length t.board) × (held.cache < length t.live) × (0 < get_or t.live held.cache 0)
      back-inside =
          subst (λ (t : State). (object < length t.board) × (held.cache < length t.live) × (0 < get_or t.live held.cache 0)) (sym back.swaps.now)
          (on-board s object held here, counted-within s object held here consistent.accounted, counted s object held here consistent.accounted)

      module _ (u : State) (taken : u ≡ with_taken t object held.cache) where
        taken-now : u ≡ with_taken (with_checked s held.cache back.rest) object held.cache
        taken-now = taken ∙ ap (λ (t : State). with_taken t object held.cache) back.swaps.now

        pub back-is-consistent : IsConsistent u
        back-is-consistent = subst IsConsistent (sym taken-now) (back-consistent s object held back.slabs here back.swaps.was consistent back.rest back.objects back.swaps.sound)

        back-was : checked_of u held.cache ≡ Some back.rest
        back-was = ap (λ (u : State). checked_of u held.cache) taken-now ∙ get_or-set_same s.checked held.cache (Some back.rest) None (inside-of s.checked held.cache back.slabs back.swaps.was)

        pub back-there : MatchOption (checked_of u held.cache) ⊥ (λ slabs. Has slabs held.frame)
        back-there =
            of-slabs (checked_of u held.cache) back.rest (λ slabs. Has slabs held.frame) back-was
            (has-same (get_or back.rest.slabs held.frame None) (get_or back.slabs.slabs held.frame None) (back.objects.slabs.shape held.frame) (held-has s object held back.slabs here back.swaps.was consistent))

        module _ (v : State) (discards : DiscardsSpare u held.cache held.frame layout.min_partial v) where
          same-slabs : discards.slabs ≡ back.rest
          same-slabs = injected (sym discards.was ∙ back-was)
            where
              injected : {x y : CheckedState} → Some x ≡ Some y → x ≡ y
              injected e = cc

          discarded-board : (x : Option Run) → (discarded_where (with_checked u held.cache discards.rest) held.frame x).board ≡ u.board
          discarded-board None = refl
          discarded-board (Some run) = refl

          discarded-checked : (x : Option Run) → (discarded_where (with_checked u held.cache discards.rest) held.frame x).checked ≡ set u.checked held.cache (Some discards.rest)
          discarded-checked None = refl
          discarded-checked (Some run) = refl

          pub gone-inside : object < length v.board
          gone-inside =
              let same : v.board ≡ set s.board object None = ap (λ (v : State). v.board) discards.now ∙ discarded-board discards.run ∙ ap (λ (u : State). u.board) taken-now in
              omega (arith, ap length same, length-set s.board object None, on-board s object held here)

          module _ (w : State) (noted : w ≡ with_gone v object worker held) where
            -- the cache's slabs changed twice
            twice : with_checked u held.cache discards.rest ≡ with_checked (with_taken s object held.cache) held.cache discards.rest
            twice =
                ap (λ (u : State). with_checked u held.cache discards.rest) taken-now
                ∙ ap (λ (l : List (Option CheckedState)). record (with_taken s object held.cache) { checked = l }) (set-set s.checked held.cache (Some back.rest) (Some discards.rest))

            freed-now : w ≡ with_gone (discarded_where (with_checked (with_taken s object held.cache) held.cache discards.rest) held.frame discards.run) object worker held
            freed-now =
                noted ∙ ap (λ (v : State). with_gone v object worker held) (discards.now ∙ ap (λ (u : State). discarded_where u held.frame discards.run) twice)

            pub freed-frees : (address : ℕ) → address ≡ address_of held.frame held.index layout → MatchOption (checked_of s held.cache) ⊥ (λ slabs. FreesChecked s layout slabs worker object held (Freed address) w)
            freed-frees address at =
                of-slabs (checked_of s held.cache) back.slabs (λ slabs. FreesChecked s layout slabs worker object held (Freed address) w) back.swaps.was (
                  Ok done,
                  back.rest,
                  back.taken,
                  (
                    ap Freed at,
                    discards.run,
                    discards.rest,
                    subst (λ slabs. TakesEmpty slabs held.frame layout.min_partial discards.run discards.rest) same-slabs discards.taken,
                    freed-now,
                  ),
                )

            pub freed-found : KeepsFound s w
            freed-found =
                let reports : discards.rest.reports ≡ back.slabs.reports = discards.reports ∙ ap (λ (s : CheckedState). s.reports) same-slabs ∙ back.objects.reports in
                let same : findable discards.slabs ≡ findable back.rest = ap findable same-slabs in
                let checked : w.checked ≡ set s.checked held.cache (Some discards.rest) =
                ap (λ (w : State). w.checked) noted ∙ ap (λ (v : State). v.checked) discards.now ∙ discarded-checked discards.run
                ∙ ap (λ (u : State). set u.checked held.cache (Some discards.rest)) taken-now ∙ set-set s.checked held.cache (Some back.rest) (Some discards.rest) in
                found-with s held.cache back.slabs discards.rest w back.swaps.was (reports-from back.slabs discards.rest reports) (omega (arith, discards.bounded, same, back.objects.bounded)) checked
