-- A cache that is created keeps the machine coherent.
use Rattle.std.proofs.Common.{◌≡◌, ◌≢◌, ℕ, ◌+◌, ◌<◌, ◌≤◌, Bool, true, false, cond, List, [], length, get_or, set, sum_by, Option, Some, None, option_map, is_some, IsSome, IfSome, MatchOption, Result, Ok, Err, IsOk, IfOk, OnErr, inl, inr, refl, ap, sym, ◌∙◌, subst, arith, length-set, get_or-set_same, get_or-set_other}
use Rattle.std.specs.Prelude.{slice_get, unwrap_or}
use Rattle.std.specs.Result.{is_err}
use Rattle.std.proofs.lemmas.List.Sums.{sum_by-set}
use Rattle.std.proofs.lemmas.Bool.{cases_eq}
use Rattle.slub_common.specs.Times.{times}
use Rattle.slub_object_layout.specs.declared.layout.Flags.{Flags}
use Rattle.slub_object_layout.specs.declared.layout.Layout.{Layout}
use Rattle.slub_object_layout.specs.declared.layout.Spec.{Spec}
use Rattle.slub_object_layout.specs.Layout.{IsAccepted, IsLayout, is_checked}
use Rattle.slub_object_layout.proofs.Bounds.{bounds_of}
use Rattle.slub_cache_create.specs.declared.caches.Cache.{Cache}
use Rattle.slub_cache_create.specs.declared.caches.Created.{Created}
use Rattle.slub_cache_create.specs.declared.caches.Created.TheVariants.{New, Merged}
use Rattle.slub_cache_create.specs.declared.caches.CreateRefusal.{CreateRefusal}
use Rattle.slub_cache_create.specs.Create.{Creates}
use Rattle.slub_cache_create.specs.Merging.{Fits, merged_with}
use Rattle.slub_cache_create.specs.Sound.{IsSound as IsSoundTable}
use Rattle.slub_cache_create.specs.Table.{Table, cache_of as live_cache}
use Rattle.slub_red_zone.specs.State.{CheckedState, SlabState, no_slab}
use Rattle.slub_red_zone.specs.Objects.{idle, is_idle, shape_at, shape_of}
use Rattle.slub_red_zone.specs.Sound.{IsLayoutFor, IsSound as IsSoundChecked}
use Rattle.slub_red_zone.specs.Steps.{no_slabs, opening}
use Rattle.slub_red_zone.proofs.Opening.{opening-kept}
use Rattle.slub_lists.specs.declared.lists.Slab.{Slab}
use Rattle.slub_lists.specs.declared.lists.CpuLists.{CpuLists}
use Rattle.slub_lists.specs.State.{State}
use Rattle.slub_lists.specs.Alloc.{cache_of, checked_of, cpu_place, lists_of, no_lists, node_of, own_free, slab_of}
use Rattle.slub_lists.specs.Coherent.{Agrees, AreChecked, IsCacheOf, IsCheckedOf, IsCoherent, IsListed, IsShaped, IsSlabOf, idle_in, times_current, times_partial}
use Rattle.slub_lists.specs.Checked.{with_checked}
use Rattle.slub_lists.specs.Create.{CreatesCache, with_new}
use Rattle.slub_common.proofs.Writes.{at_written, at_written_else, get_or-replicate_any}
use Rattle.slub_lists.proofs.Listed.{IsOf, live-from, current-counted-at, partial-counted-at, node-counted}
use Rattle.slub_lists.proofs.Unchecked.{IsUnfree, nothing-stands}
use Rattle.slub_lists.proofs.Shaped.{IfSome-weaker}

-- ---- a number that no live cache has

nobody : {X : Type 0} (x : Option X) (P : X → Type 0) → x ≡ None → MatchOption x ⊥ P → ⊥
nobody None P e h = h
nobody (Some y) P e h = cc

module _ (s : State) (cache : ℕ) (shaped : IsShaped s) (listed : IsListed s) (unused : cache_of s cache ≡ None) where
  -- no slab is its
  no-slab : (f : ℕ) → IfSome (slab_of s f) (λ slab. slab.cache ≢ cache)
  no-slab f =
      IfSome-weaker (slab_of s f) (λ slab. MatchOption (cache_of s slab.cache) ⊥ (λ live. IsSlabOf live.layout slab)) (λ slab. slab.cache ≢ cache)
      (λ slab live e. nobody (cache_of s slab.cache) (λ l. IsSlabOf l.layout slab) (ap (cache_of s) e ∙ unused) live) (shaped.slab f)

  not-its : (x : Option Slab) → IfSome x (λ slab. slab.cache ≢ cache) → MatchOption x ⊥ (λ slab. slab.cache ≡ cache) → ⊥
  not-its None other own = own
  not-its (Some slab) other own = other own

  -- so none stands anywhere as such
  stands-not : (f : ℕ) → 0 < times_current s f + times_partial s f → IsOf cache (slab_of s f) → ⊥
  stands-not f some own = not-its (slab_of s f) (no-slab f) (live-from cache (slab_of s f) (listed.live f some) own)

  bare-lists : (l : CpuLists) → l.current ≡ None → l.free ≡ [] → l.partial ≡ [] → l ≡ no_lists
  bare-lists l current free partial =
      ap (λ (x : Option ℕ). record l { current = x }) current ∙ ap (λ (x : List ℕ). record l { current = None; free = x }) free ∙ ap (λ (x : List ℕ). record no_lists { partial = x }) partial

  pub unused-lists : (cpu : ℕ) → cpu < s.cpus → lists_of s cache cpu ≡ no_lists
  unused-lists cpu within =
      let lists : CpuLists = lists_of s cache cpu in
      let bare : lists.current ≡ None = none lists.current refl in
      bare-lists lists bare (shaped.bare (cpu_place s cache cpu) bare) (nothing-stands lists.partial (λ f.
      elim (cases_eq (times f lists.partial) 0) [
        | inl absent ↦ absent
        | inr some ↦ absurd (stands-not f (omega (arith, some, partial-counted-at s f (cpu_place s cache cpu))) (listed.of_partial cache cpu f within (omega arith)))
      ]))
    where
      none : (x : Option ℕ) → (lists_of s cache cpu).current ≡ x → x ≡ None
      none None is = refl
      none (Some f) is = absurd (stands-not f (omega (arith, current-counted-at s f (cpu_place s cache cpu) is)) (listed.of_current cache cpu f within is))

  pub unused-node : node_of s cache ≡ []
  unused-node =
      nothing-stands (node_of s cache) (λ f.
      elim (cases_eq (times f (node_of s cache)) 0) [
        | inl absent ↦ absent
        | inr some ↦ absurd (stands-not f (omega (arith, some, node-counted s f cache)) (listed.of_node cache f (omega arith)))
      ])

  -- no checked slabs are kept under it
  pub unused-checked : checked_of s cache ≡ None
  unused-checked = none (checked_of s cache) (shaped.checked.those cache)
    where
      none : (x : Option CheckedState) → IfSome x (IsCheckedOf s cache) → x ≡ None
      none None of = refl
      none (Some slabs) of = absurd (nobody (cache_of s cache) (λ live. IsCacheOf slabs live.layout live.flags) unused of.live)

  unfree : (f : ℕ) → IsUnfree cache (slab_of s f) (own_free s f)
  unfree f = by (slab_of s f) (no-slab f)
    where
      by : (x : Option Slab) → IfSome x (λ slab. slab.cache ≢ cache) → IsUnfree cache x (own_free s f)
      by None other = tt
      by (Some slab) other = λ e. absurd (other e)

  agrees-none : (x : Option Slab) → IfSome x (λ slab. slab.cache ≢ cache) → Agrees cache x None
  agrees-none None other = tt
  agrees-none (Some slab) other = other

-- ---- checked slabs of a cache that has none

slabs-none : (f : ℕ) → get_or no_slabs f None ≡ None
unfolding no_slabs
slabs-none f = get_or-replicate_any 4096 f None

shape-none : (layout : Layout) (flags : Flags) (cache f : ℕ) → shape_at (opening layout flags cache) f ≡ None
shape-none layout flags cache f = ap (option_map shape_of) (slabs-none f)

idle-none : (layout : Layout) (flags : Flags) (cache f i : ℕ) → idle (opening layout flags cache) f i ≡ 0
idle-none layout flags cache f i = ap (λ (x : Option SlabState). cond (is_idle (slice_get (unwrap_or x no_slab).states i)) 1 0) (slabs-none f)

-- ---- other tables and checked slabs

-- what there is of slabs, objects and lists stays
recached : (s : State) (table : Table) (checked : List (Option CheckedState)) → IsSoundTable table
    → ((c : ℕ) (slab : Slab) → MatchOption (cache_of s c) ⊥ (λ live. IsSlabOf live.layout slab) → MatchOption (live_cache table c) ⊥ (λ live. IsSlabOf live.layout slab))
    → ((f i : ℕ) → sum_by (idle_in f i) checked ≡ sum_by (idle_in f i) s.checked)
    → AreChecked (record s { table = table; checked = checked }) → IsCoherent s → IsCoherent (record s { table = table; checked = checked })
recached s table checked sound still same_idle are coherent =
    let shaped = coherent.shaped in
    let listed = coherent.listed in
    record {
      shaped = record {
        frames = shaped.frames;
        cpus = shaped.cpus;
        pool = shaped.pool;
        pool_frames = shaped.pool_frames;
        slabs = shaped.slabs;
        frees = shaped.frees;
        table = sound;
        checked = are;
        cpu_lists = shaped.cpu_lists;
        nodes = shaped.nodes;
        memory = shaped.memory;
        live = shaped.live;
        board = shaped.board;
        gone = shaped.gone;
        slab = λ f. IfSome-weaker (slab_of s f) (λ slab. MatchOption (cache_of s slab.cache) ⊥ (λ live. IsSlabOf live.layout slab)) (λ slab. MatchOption (live_cache table slab.cache) ⊥ (λ live. IsSlabOf live.layout slab))
            (λ slab. still slab.cache slab) (shaped.slab f);
        aligned = shaped.aligned;
        held = shaped.held;
        no_zero = shaped.no_zero;
        bare = shaped.bare;
      };
      placed = λ f i. omega (arith, coherent.placed f i, same_idle f i);
      framed = coherent.framed;
      listed = record {
        once = listed.once;
        live = listed.live;
        stocked = listed.stocked;
        of_current = listed.of_current;
        of_partial = listed.of_partial;
        of_node = listed.of_node;
        frozen = listed.frozen;
      };
      accounted = coherent.accounted;
      kept = coherent.kept;
    }

-- the slabs of a checked cache that is as before
same-checked : (s : State) (table : Table) (checked : List (Option CheckedState)) (c : ℕ) (own : CheckedState) → IsCheckedOf s c own
    → MatchOption (live_cache table c) ⊥ (λ live. IsCacheOf own live.layout live.flags) → IsCheckedOf (record s { table = table; checked = checked }) c own
same-checked s table checked c own of live = record {
  sound = of.sound;
  number = of.number;
  live = live;
  agrees = of.agrees;
  unlisted = of.unlisted;
  off_node = of.off_node;
  unfree = of.unfree;
}

-- ---- a new cache

module _ (s : State) (table : Table) (cache : ℕ) (made : Cache) (coherent : IsCoherent s) (sound : IsSoundTable table) (unused : cache_of s cache ≡ None) (within : cache < 32)
    (caches : table.caches ≡ set s.table.caches cache (Some made)) where
  slot : cache < length s.table.caches
  slot = omega (arith, coherent.shaped.table.numbers, within)

  at-caches : (P : Option Cache → Type 0) (c : ℕ) → P (get_or (set s.table.caches cache (Some made)) c None) → P (live_cache table c)
  at-caches P c h = subst (λ (xs : List (Option Cache)). P (get_or xs c None)) (sym caches) h

  -- what is live stays live
  still-live : (P : Cache → Type 0) (c : ℕ) → MatchOption (cache_of s c) ⊥ P → MatchOption (live_cache table c) ⊥ P
  still-live P c live = at-caches (λ x. MatchOption x ⊥ P) c
      (at_written_else (λ x. MatchOption x ⊥ P) s.table.caches cache c (Some made) None slot (λ e. absurd (nobody (cache_of s c) P (ap (cache_of s) e ∙ unused) live)) (λ ne. live))

  no-checked : checked_of s cache ≡ None
  no-checked = unused-checked s cache coherent.shaped coherent.listed unused

  -- it isn't checked
  made-unchecked : is_checked made.flags ≡ false → IsCoherent (record s { table = table; checked = s.checked })
  made-unchecked plain =
      recached s table s.checked sound (λ c slab. still-live (λ live. IsSlabOf live.layout slab) c) (λ f i. refl)
      (record {
        numbers = coherent.shaped.checked.numbers;
        those = λ c. IfSome-weaker (checked_of s c) (IsCheckedOf s c) (IsCheckedOf (record s { table = table; checked = s.checked }) c)
            (λ own of. same-checked s table s.checked c own of (still-live (λ live. IsCacheOf own live.layout live.flags) c of.live)) (coherent.shaped.checked.those c);
        all = λ c. at-caches (λ x. IfSome x (λ live. is_checked live.flags ≡ is_some (checked_of s c))) c
            (at_written (λ (x : Option Cache). IfSome x (λ live. is_checked live.flags ≡ is_some (checked_of s c))) s.table.caches cache c (Some made) None
            (λ e. plain ∙ sym (ap is_some (ap (checked_of s) e ∙ no-checked))) (coherent.shaped.checked.all c));
      }) coherent

  -- it is checked
  module _ (checked : is_checked made.flags ≡ true) (for : IsLayoutFor made.flags made.layout) where
    abbrev own : CheckedState
    own = opening made.layout made.flags cache

    abbrev more : List (Option CheckedState)
    more = set s.checked cache (Some own)

    abbrev then : State
    then = record s { table = table; checked = more }

    own-slot : cache < length s.checked
    own-slot = omega (arith, coherent.shaped.checked.numbers, within)

    own-sound : IsSoundChecked own
    own-sound = (opening-kept made.layout made.flags cache 4096 0 within checked for (omega arith)).sound

    new-checked : IsCheckedOf then cache own
    new-checked = record {
      sound = own-sound;
      number = refl;
      live = at-caches (λ x. MatchOption x ⊥ (λ live. IsCacheOf own live.layout live.flags)) cache
          (at_written_else (λ (x : Option Cache). MatchOption x ⊥ (λ live. IsCacheOf own live.layout live.flags)) s.table.caches cache cache (Some made) None slot (λ e. (refl, refl)) (λ ne. absurd (ne refl)));
      agrees = λ f. subst (Agrees cache (slab_of s f)) (sym (shape-none made.layout made.flags cache f))
          (agrees-none s cache coherent.shaped coherent.listed unused (slab_of s f) (no-slab s cache coherent.shaped coherent.listed unused f));
      unlisted = unused-lists s cache coherent.shaped coherent.listed unused;
      off_node = unused-node s cache coherent.shaped coherent.listed unused;
      unfree = unfree s cache coherent.shaped coherent.listed unused;
    }

    same-idle : (f i : ℕ) → sum_by (idle_in f i) more ≡ sum_by (idle_in f i) s.checked
    same-idle f i =
        let none : idle_in f i (Some own) ≡ 0 = idle-none made.layout made.flags cache f i in
        omega (arith, sum_by-set (idle_in f i) s.checked cache (Some own) None own-slot, ap (idle_in f i) no-checked, none)

    made-checked : IsCoherent then
    made-checked =
        recached s table more sound (λ c slab. still-live (λ live. IsSlabOf live.layout slab) c) same-idle
        (record {
          numbers = length-set s.checked cache (Some own) ∙ coherent.shaped.checked.numbers;
          those = λ c. at_written (λ x. IfSome x (IsCheckedOf then c)) s.checked cache c (Some own) None
              (λ e. subst (λ n. IsCheckedOf then n own) (sym e) new-checked)
              (IfSome-weaker (checked_of s c) (IsCheckedOf s c) (IsCheckedOf then c)
              (λ other of. same-checked s table more c other of (still-live (λ live. IsCacheOf other live.layout live.flags) c of.live)) (coherent.shaped.checked.those c));
          all = λ c. at-caches (λ x. IfSome x (λ live. is_checked live.flags ≡ is_some (get_or more c None))) c
              (at_written_else (λ (x : Option Cache). IfSome x (λ live. is_checked live.flags ≡ is_some (get_or more c None))) s.table.caches cache c (Some made) None slot
              (λ e. checked ∙ sym (ap is_some (ap (λ n. get_or more n None) e ∙ get_or-set_same s.checked cache (Some own) None own-slot)))
              (λ ne. IfSome-weaker (cache_of s c) (λ live. is_checked live.flags ≡ is_some (checked_of s c)) (λ live. is_checked live.flags ≡ is_some (get_or more c None))
              (λ live same. same ∙ sym (ap is_some (get_or-set_other s.checked cache c (Some own) None ne))) (coherent.shaped.checked.all c)));
        }) coherent

  -- the one or the other
  made-coherent : (b : Bool) → is_checked made.flags ≡ b → IsLayoutFor made.flags made.layout → IsCoherent (record s { table = table; checked = cond b (set s.checked cache (Some (opening made.layout made.flags cache))) s.checked })
  made-coherent true is for = made-checked is for
  made-coherent false is for = made-unchecked is

-- ---- one more name

module _ (s : State) (table : Table) (cache : ℕ) (spec : Spec) (coherent : IsCoherent s) (sound : IsSoundTable table) (fits : MatchOption (cache_of s cache) ⊥ (λ live. Fits live spec))
    (caches : table.caches ≡ set s.table.caches cache (option_map (merged_with spec) (cache_of s cache))) where
  -- what a merge doesn't touch holds of each cache after it
  at-merged : (P : Option Cache → Type 0) (c : ℕ) → ((x : Option Cache) → P x → P (option_map (merged_with spec) x)) → P (cache_of s c) → P (live_cache table c)
  at-merged P c closed old =
      subst (λ (xs : List (Option Cache)). P (get_or xs c None)) (sym caches)
      (at_written P s.table.caches cache c (option_map (merged_with spec) (cache_of s cache)) None (λ e. closed (cache_of s cache) (subst (λ n. P (cache_of s n)) e old)) old)

  slab-still : (slab : Slab) (x : Option Cache) → MatchOption x ⊥ (λ live. IsSlabOf live.layout slab) → MatchOption (option_map (merged_with spec) x) ⊥ (λ live. IsSlabOf live.layout slab)
  slab-still slab None h = h
  slab-still slab (Some live) h = h

  flags-still : (b : Bool) (x : Option Cache) → IfSome x (λ live. is_checked live.flags ≡ b) → IfSome (option_map (merged_with spec) x) (λ live. is_checked live.flags ≡ b)
  flags-still b None h = h
  flags-still b (Some live) h = h

  -- a checked cache is never merged with
  not-merged : (c : ℕ) (own : CheckedState) → IsCheckedOf s c own → c ≢ cache
  not-merged c own of e = by (cache_of s cache) fits (subst (λ n. MatchOption (cache_of s n) ⊥ (λ live. IsCacheOf own live.layout live.flags)) e of.live)
    where
      by : (x : Option Cache) → MatchOption x ⊥ (λ live. Fits live spec) → MatchOption x ⊥ (λ live. IsCacheOf own live.layout live.flags) → ⊥
      by None fit live = live
      by (Some l) fit live = let no : is_checked l.flags ≡ false = fit.unchecked in let is : is_checked l.flags ≡ true = ap is_checked live.1 ∙ of.sound.checked in cc

  merged-coherent : IsCoherent (record s { table = table; checked = s.checked })
  merged-coherent =
      recached s table s.checked sound (λ c slab. at-merged (λ x. MatchOption x ⊥ (λ live. IsSlabOf live.layout slab)) c (slab-still slab)) (λ f i. refl)
      (record {
        numbers = coherent.shaped.checked.numbers;
        those = λ c. IfSome-weaker (checked_of s c) (IsCheckedOf s c) (IsCheckedOf (record s { table = table; checked = s.checked }) c)
            (λ own of. same-checked s table s.checked c own of
            (subst (λ (xs : List (Option Cache)). MatchOption (get_or xs c None) ⊥ (λ live. IsCacheOf own live.layout live.flags)) (sym caches)
            (at_written (λ (x : Option Cache). MatchOption x ⊥ (λ live. IsCacheOf own live.layout live.flags)) s.table.caches cache c (option_map (merged_with spec) (cache_of s cache)) None
            (λ e. absurd (not-merged c own of e)) of.live))) (coherent.shaped.checked.those c);
        all = λ c. at-merged (λ x. IfSome x (λ live. is_checked live.flags ≡ is_some (checked_of s c))) c (flags-still (is_some (checked_of s c))) (coherent.shaped.checked.all c);
      }) coherent

-- ---- the whole

-- the layout that a cache is made with is one for its flags
pub layout-for : (spec : Spec) (cpus : ℕ) (layout : Layout) → IsAccepted spec → 1 ≤ cpus → cpus ≤ 16 → IsLayout spec cpus layout → IsLayoutFor spec.flags layout
layout-for spec cpus layout accepted some few solved = record {
  spec = spec;
  cpus = cpus;
  same_flags = refl;
  accepted = accepted;
  some_cpu = (some, few);
  solved = solved;
  bounds = bounds_of spec cpus layout accepted few solved;
}

-- what is said of the cache that was made
at-made : (x : Option Cache) (made : Cache) (P : Cache → Type 0) → x ≡ Some made → MatchOption x ⊥ P → P made
at-made None made P e h = absurd h
at-made (Some live) made P e h = let same : live ≡ made = cc in subst P same h

-- the cache that was made
pub made-there : (old : Table) (name : List ℕ) (spec : Spec) (cpus cache : ℕ) (new : Table) → IsSoundTable old → (creates : Creates old name spec cpus (New cache) new)
    → live_cache new cache ≡ Some (record { title = name; flags = spec.flags; layout = creates.2; names = 1 })
made-there old name spec cpus cache new sound creates =
    let made : Cache = record { title = name; flags = spec.flags; layout = creates.2; names = 1 } in
    ap (λ (t : Table). live_cache t cache) creates.4 ∙ get_or-set_same old.caches cache (Some made) None (omega (arith, sound.numbers, creates.1.within))

pub created-coherent : (s : State) (name : List ℕ) (spec : Spec) (created : Created) (after : State) → IsCoherent s → IsAccepted spec → IsSoundTable after.table → CreatesCache s name spec created after → IsCoherent after
created-coherent s name spec (Merged cache) after coherent accepted sound (table, creates, is) =
    let same : after.table ≡ table = ap (λ (m : State). m.table) is in
    subst IsCoherent (sym is)
    (merged-coherent s table cache spec coherent (subst IsSoundTable same sound) creates.0.fits (ap (λ (t : Table). t.caches) creates.1))
created-coherent s name spec (New cache) after coherent accepted sound (table, creates, is) =
    let layout : Layout = creates.2 in
    let made : Cache = record { title = name; flags = spec.flags; layout = layout; names = 1 } in
    let least = creates.1 in
    let caches : table.caches ≡ set s.table.caches cache (Some made) = ap (λ (t : Table). t.caches) creates.4 in
    let there : live_cache table cache ≡ Some made =
    ap (λ (xs : List (Option Cache)). get_or xs cache None) caches ∙ get_or-set_same s.table.caches cache (Some made) None (omega (arith, coherent.shaped.table.numbers, least.within)) in
    let whole : after ≡ with_new s table cache made = at-made (live_cache table cache) made (λ live. after ≡ with_new s table cache live) there is in
    let same : after.table ≡ table = ap (λ (m : State). m.table) whole in
    subst IsCoherent (sym whole)
    (made-coherent s table cache made coherent (subst IsSoundTable same sound) least.unused least.within caches (is_checked spec.flags) refl
    (layout-for spec s.cpus layout accepted coherent.shaped.cpus.0 coherent.shaped.cpus.1 creates.3))

-- whatever a creation answers, the machine is coherent after it
pub answered-coherent : (s : State) (name : List ℕ) (spec : Spec) (answer : Result Created CreateRefusal) (after : State) → IsCoherent s
    → IfOk answer (λ created. CreatesCache s name spec created after) → (IsOk answer → IsAccepted spec) → OnErr answer (after ≡ s) → IsSoundTable after.table → IsCoherent after
answered-coherent s name spec (Ok created) after coherent creates accepted unchanged sound = created-coherent s name spec created after coherent (accepted refl) sound creates
answered-coherent s name spec (Err refusal) after coherent creates accepted unchanged sound = subst IsCoherent (sym unchanged) coherent

-- the cache that was made has a layout for its flags
pub made-layout : (old : Table) (name : List ℕ) (spec : Spec) (cpus cache : ℕ) (new : Table) → IsSoundTable old → IsAccepted spec → 1 ≤ cpus → cpus ≤ 16 → Creates old name spec cpus (New cache) new
    → IfSome (live_cache new cache) (λ live. IsLayoutFor live.flags live.layout)
made-layout old name spec cpus cache new sound accepted some few creates =
    let made : Cache = record { title = name; flags = spec.flags; layout = creates.2; names = 1 } in
    subst (λ (x : Option Cache). IfSome x (λ live. IsLayoutFor live.flags live.layout)) (sym (made-there old name spec cpus cache new sound creates))
    (layout-for spec cpus creates.2 accepted some few creates.3)

-- the slabs of a checked cache that is live
pub with_new-checked : (s : State) (cache : ℕ) (x : Option Cache) (layout : Layout) (flags : Flags) (after : State) → MatchOption x ⊥ (λ live. live.layout ≡ layout) → IfSome x (λ live. flags ≡ live.flags) → is_checked flags ≡ true
    → after ≡ with_checked s cache (opening layout flags cache) → IfSome x (λ live. after ≡ with_new s s.table cache live)
with_new-checked s cache None layout flags after has same checked is = tt
with_new-checked s cache (Some live) layout flags after has same checked is =
    let yes : is_checked live.flags ≡ true = sym (ap is_checked same) ∙ checked in
    is ∙ ap (λ (l : Layout). with_checked s cache (opening l flags cache)) (sym has) ∙ ap (λ (f : Flags). with_checked s cache (opening live.layout f cache)) same
    ∙ ap (λ (b : Bool). record s { checked = cond b (set s.checked cache (Some (opening live.layout live.flags cache))) s.checked }) (sym yes)

-- the table is the one that was there
pub with_new-table : (s : State) (cache : ℕ) (x : Option Cache) (after : State) → IsSome x → IfSome x (λ live. after ≡ with_new s s.table cache live) → after.table ≡ s.table
with_new-table s cache None after some opened = cc
with_new-table s cache (Some live) after some opened = ap (λ (m : State). m.table) opened

-- what is said of an answer that failed, or didn't
pub failed-unchanged : {X E : Type 0} (answer : Result X E) (after s : State) → is_err answer ≡ true → OnErr answer (after ≡ s) → after ≡ s
failed-unchanged (Ok x) after s failed unchanged = cc
failed-unchanged (Err e) after s failed unchanged = unchanged

pub worked-opened : {X E : Type 0} (answer : Result X E) (P : Type 0) → is_err answer ≡ false → IfOk answer (λ x. P) → P
worked-opened (Ok x) P worked h = h
worked-opened (Err e) P worked h = cc
