-- What a step on a cache that is not checked leaves of the checked ones: their slabs look the same from outside.
use Rattle.std.proofs.Common.{◌≡◌, ◌≢◌, ℕ, ◌+◌, ◌<◌, ◌≤◌, Bool, true, List, [], ◌∷◌, length, get_or, set, Option, Some, None, option_map, is_some, IfSome, MatchOption, refl, ap, sym, ◌∙◌, subst, arith}
use Rattle.std.specs.Prelude.{⊤}
use Rattle.slub_page_pool.specs.FreeFrames.{FreeFrames}
use Rattle.slub_common.specs.Times.{times}
use Rattle.slub_cache_create.specs.declared.caches.Cache.{Cache}
use Rattle.slub_object_layout.specs.Layout.{is_checked}
use Rattle.slub_red_zone.specs.State.{CheckedState}
use Rattle.slub_red_zone.specs.Objects.{shape_at}
use Rattle.slub_lists.specs.declared.lists.Slab.{Slab}
use Rattle.slub_lists.specs.declared.lists.CpuLists.{CpuLists}
use Rattle.slub_lists.specs.declared.lists.Held.{Held}
use Rattle.slub_lists.specs.State.{State}
use Rattle.slub_lists.specs.Alloc.{marked, no_lists, cpu_place, checked_of, slab_of, own_free, lists_of, node_of}
use Rattle.slub_lists.specs.Coherent.{Agrees, AreChecked, IsCheckedOf, opening}
use Rattle.slub_lists.proofs.Writes.{at_marked}
use Rattle.slub_common.proofs.Writes.{at_written, get_or-replicate_any}
use Rattle.slub_lists.proofs.Times.{current-same}
use Rattle.slub_common.proofs.Times.{times-cons}
use Rattle.slub_lists.proofs.Listed.{same-cache}

-- a slab of the cache has no freelist here
abbrev pub IsUnfree : ℕ → Option Slab → List ℕ → Type 0
IsUnfree cache x own = MatchOption x ⊤ (λ slab. slab.cache ≡ cache → own ≡ [])

-- a mark changes neither
Agrees-marked : (cache : ℕ) (b : Bool) (shape : Option (ℕ × ℕ)) (x : Option Slab) → Agrees cache x shape → Agrees cache (option_map (marked b) x) shape
Agrees-marked cache b None None h = h
Agrees-marked cache b (Some shape) None h = h
Agrees-marked cache b None (Some slab) h = h
Agrees-marked cache b (Some shape) (Some slab) h = h

IsUnfree-marked : (cache : ℕ) (own : List ℕ) (b : Bool) (x : Option Slab) → IsUnfree cache x own → IsUnfree cache (option_map (marked b) x) own
IsUnfree-marked cache own b None h = h
IsUnfree-marked cache own b (Some slab) h = h

-- an empty freelist is none
pub IsUnfree-none : (cache : ℕ) (x : Option Slab) → IsUnfree cache x []
IsUnfree-none cache None = tt
IsUnfree-none cache (Some slab) = λ e. refl

-- a slab of another cache may have one
pub IsUnfree-other : (cache other : ℕ) (x : Option Slab) (own : List ℕ) → MatchOption x ⊥ (λ slab. slab.cache ≡ cache) → other ≢ cache → IsUnfree other x own
IsUnfree-other cache other None own live ne = absurd live
IsUnfree-other cache other (Some slab) own live ne = λ e. absurd (ne (sym e ∙ live))

-- where there is no slab of the cache, another cache's may come or go
pub Agrees-comes : (other : ℕ) (slab : Slab) (shape : Option (ℕ × ℕ)) → other ≢ slab.cache → Agrees other None shape → Agrees other (Some slab) shape
Agrees-comes other slab None ne h = λ e. ne (sym e)
Agrees-comes other slab (Some shape) ne h = absurd h

pub Agrees-goes : (cache other : ℕ) (x : Option Slab) (shape : Option (ℕ × ℕ)) → MatchOption x ⊥ (λ slab. slab.cache ≡ cache) → other ≢ cache → Agrees other x shape → Agrees other None shape
Agrees-goes cache other None shape live ne h = absurd live
Agrees-goes cache other (Some slab) None live ne h = tt
Agrees-goes cache other (Some slab) (Some shape) live ne h = absurd (ne (sym h.0 ∙ live))

-- the slabs of a checked cache look the same from outside
pub record IsStill (s after : State) (cache : ℕ) : Type 0 where
  pub agrees : (frame : ℕ) (shape : Option (ℕ × ℕ)) → Agrees cache (slab_of s frame) shape → Agrees cache (slab_of after frame) shape
  pub unlisted : (cpu : ℕ) → cpu < s.cpus → lists_of after cache cpu ≡ no_lists
  pub off_node : node_of after cache ≡ []
  pub unfree : (frame : ℕ) → IsUnfree cache (slab_of after frame) (own_free after frame)

-- a checked cache is another one than this
abbrev pub IsApart : State → ℕ → Type 0
IsApart s cache = (other : ℕ) (slabs : CheckedState) → checked_of s other ≡ Some slabs → IsCheckedOf s other slabs → other ≢ cache

module _ (s : State) (pool : FreeFrames) (slabs : List (Option Slab)) (frees : List (List ℕ)) (cpu_lists : List CpuLists) (nodes : List (List ℕ)) (memory : List ℕ) (board gone : List (Option Held)) (live : List ℕ) where
  abbrev after : State
  after = record s { pool = pool; slabs = slabs; frees = frees; cpu_lists = cpu_lists; nodes = nodes; memory = memory; board = board; gone = gone; live = live }

  module _ (still : (cache : ℕ) (own : CheckedState) → checked_of s cache ≡ Some own → IsCheckedOf s cache own → IsStill s after cache) (checked : AreChecked s) where
    those : (cache : ℕ) (x : Option CheckedState) → checked_of s cache ≡ x → IfSome x (IsCheckedOf s cache) → IfSome x (IsCheckedOf after cache)
    those cache None is of = tt
    those cache (Some own) is of =
        let same = still cache own is of in
        record {
          sound = of.sound;
          number = of.number;
          live = of.live;
          agrees = λ frame. same.agrees frame (shape_at own frame) (of.agrees frame);
          unlisted = same.unlisted;
          off_node = same.off_node;
          unfree = same.unfree;
        }

    -- so each checked cache is as before
    pub checked-step : AreChecked after
    checked-step = record {
      numbers = checked.numbers;
      those = λ cache. those cache (checked_of s cache) refl (checked.those cache);
      all = checked.all;
    }

-- what nothing of slabs and lists changes in
pub checked-rest : (s : State) (pool : FreeFrames) (memory : List ℕ) (board gone : List (Option Held)) (live : List ℕ) → AreChecked s
    → AreChecked (record s { pool = pool; memory = memory; board = board; gone = gone; live = live })
checked-rest s pool memory board gone live checked =
    checked-step s pool s.slabs s.frees s.cpu_lists s.nodes memory board gone live
    (λ cache own is of. record { agrees = λ frame shape h. h; unlisted = of.unlisted; off_node = of.off_node; unfree = of.unfree }) checked

-- ---- why a cache is not checked

-- no slabs of a checked cache are kept under its number
pub apart-unchecked : (s : State) (cache : ℕ) → checked_of s cache ≡ None → IsApart s cache
apart-unchecked s cache none other slabs is of e = let same = ap (checked_of s) e in cc

-- a CPU has a current slab of it
pub apart-current : (s : State) (cache cpu frame : ℕ) → cpu < s.cpus → (lists_of s cache cpu).current ≡ Some frame → IsApart s cache
apart-current s cache cpu frame within current other slabs is of e =
    let none = ap (λ (l : CpuLists). l.current) (of.unlisted cpu within) in
    let same = ap (λ n. (lists_of s n cpu).current) e in
    cc

-- a slab of it has a freelist here
pub apart-stocked : (s : State) (cache frame : ℕ) → MatchOption (slab_of s frame) ⊥ (λ slab. slab.cache ≡ cache) → 0 < length (own_free s frame) → IsApart s cache
apart-stocked s cache frame live stocked other slabs is of e = impossible (slab_of s frame) live (of.unfree frame)
  where
    impossible : (x : Option Slab) → MatchOption x ⊥ (λ slab. slab.cache ≡ cache) → IsUnfree other x (own_free s frame) → ⊥
    impossible None live unfree = live
    impossible (Some slab) live unfree = let none = ap length (unfree (live ∙ sym e)) in omega (arith, none, stocked)

-- the same of the whole table
pub unchecked-of : (s : State) (cache : ℕ) → AreChecked s → IsApart s cache → checked_of s cache ≡ None
unchecked-of s cache checked apart = none (checked_of s cache) refl (checked.those cache)
  where
    none : (x : Option CheckedState) → checked_of s cache ≡ x → IfSome x (IsCheckedOf s cache) → x ≡ None
    none None is of = refl
    none (Some slabs) is of = absurd (apart cache slabs is of refl)

-- ---- lists and slabs of a cache that is not checked

module _ (s : State) (cache cpu : ℕ) (within : cpu < s.cpus) (apart : IsApart s cache) where
  -- what a CPU has of another cache stays
  lists-other : (v : CpuLists) (other : ℕ) → other ≢ cache → (other_cpu : ℕ) → other_cpu < s.cpus → lists_of s other other_cpu ≡ no_lists
      → get_or (set s.cpu_lists (cpu_place s cache cpu) v) (cpu_place s other other_cpu) no_lists ≡ no_lists
  lists-other v other ne other_cpu other_within old =
      at_written (λ l. l ≡ no_lists) s.cpu_lists (cpu_place s cache cpu) (cpu_place s other other_cpu) v no_lists
      (λ e. absurd (ne (sym (same-cache s.cpus cache cpu other other_cpu within other_within e)))) old

  -- what a CPU has of the cache is written, and maybe a slab is marked and its freelist taken
  pub checked-lists : (v : CpuLists) (board : List (Option Held)) (live : List ℕ) → AreChecked s → AreChecked (record s { cpu_lists = set s.cpu_lists (cpu_place s cache cpu) v; board = board; live = live })
  checked-lists v board live =
      checked-step s s.pool s.slabs s.frees (set s.cpu_lists (cpu_place s cache cpu) v) s.nodes s.memory board s.gone live
      (λ other own is of. record {
        agrees = λ frame shape h. h;
        unlisted = λ other_cpu other_within. lists-other v other (apart other own is of) other_cpu other_within (of.unlisted other_cpu other_within);
        off_node = of.off_node;
        unfree = of.unfree;
      })

  pub checked-marked : (b : Bool) (frame : ℕ) (v : CpuLists) → AreChecked s
      → AreChecked (record s { slabs = set s.slabs frame (option_map (marked b) (slab_of s frame)); cpu_lists = set s.cpu_lists (cpu_place s cache cpu) v })
  checked-marked b frame v =
      checked-step s s.pool (set s.slabs frame (option_map (marked b) (slab_of s frame))) s.frees (set s.cpu_lists (cpu_place s cache cpu) v) s.nodes s.memory s.board s.gone s.live
      (λ other own is of. record {
        agrees = λ f shape. at_marked (λ x. Agrees other x shape) b s.slabs frame f (Agrees-marked other b shape);
        unlisted = λ other_cpu other_within. lists-other v other (apart other own is of) other_cpu other_within (of.unlisted other_cpu other_within);
        off_node = of.off_node;
        unfree = λ f. at_marked (λ x. IsUnfree other x (own_free s f)) b s.slabs frame f (IsUnfree-marked other (own_free s f) b) (of.unfree f);
      })

  pub checked-taken_up : (frame : ℕ) (v : CpuLists) → AreChecked s
      → AreChecked (record s { slabs = set s.slabs frame (option_map (marked true) (slab_of s frame)); frees = set s.frees frame []; cpu_lists = set s.cpu_lists (cpu_place s cache cpu) v })
  checked-taken_up frame v =
      checked-step s s.pool (set s.slabs frame (option_map (marked true) (slab_of s frame))) (set s.frees frame []) (set s.cpu_lists (cpu_place s cache cpu) v) s.nodes s.memory s.board s.gone s.live
      (λ other own is of. record {
        agrees = λ f shape. at_marked (λ x. Agrees other x shape) true s.slabs frame f (Agrees-marked other true shape);
        unlisted = λ other_cpu other_within. lists-other v other (apart other own is of) other_cpu other_within (of.unlisted other_cpu other_within);
        off_node = of.off_node;
        unfree = λ f. at_marked (λ x. IsUnfree other x (get_or (set s.frees frame []) f [])) true s.slabs frame f (IsUnfree-marked other (get_or (set s.frees frame []) f []) true)
            (at_written (IsUnfree other (slab_of s f)) s.frees frame f [] [] (λ e. IsUnfree-none other (slab_of s f)) (of.unfree f));
      })

  -- a new slab of the cache
  pub checked-with_new_slab : (pool : FreeFrames) (frame : ℕ) (new : Slab) (v : CpuLists) → frame < length s.slabs → new.cache ≡ cache → slab_of s frame ≡ None → AreChecked s
      → AreChecked (record s { pool = pool; slabs = set s.slabs frame (Some new); cpu_lists = set s.cpu_lists (cpu_place s cache cpu) v })
  checked-with_new_slab pool frame new v slot own_cache unused =
      checked-step s pool (set s.slabs frame (Some new)) s.frees (set s.cpu_lists (cpu_place s cache cpu) v) s.nodes s.memory s.board s.gone s.live
      (λ other own is of. record {
        agrees = λ f shape old. at_written (λ x. Agrees other x shape) s.slabs frame f (Some new) None
            (λ e. Agrees-comes other new shape (λ same. apart other own is of (same ∙ own_cache)) (subst (λ x. Agrees other x shape) (ap (slab_of s) e ∙ unused) old)) old;
        unlisted = λ other_cpu other_within. lists-other v other (apart other own is of) other_cpu other_within (of.unlisted other_cpu other_within);
        off_node = of.off_node;
        unfree = λ f. at_written (λ x. IsUnfree other x (own_free s f)) s.slabs frame f (Some new) None (λ e. λ same. absurd (apart other own is of (sym same ∙ own_cache))) (of.unfree f);
      })

-- a list where no number stands is empty
pub nothing-stands : (xs : List ℕ) → ((f : ℕ) → times f xs ≡ 0) → xs ≡ []
nothing-stands [] none = refl
nothing-stands (x ∷ xs) none = absurd (omega (arith, none x, times-cons x x xs, current-same x x 1 refl))

-- no slab comes to a CPU's partial list or the node list that wasn't on one of the two: a checked cache has none there
pub checked-relisted : (s : State) (cache cpu : ℕ) → cpu < s.cpus → (partial frames : List ℕ)
    → ((f : ℕ) → times f partial + times f frames ≤ times f (lists_of s cache cpu).partial + times f (node_of s cache)) → AreChecked s
    → AreChecked (let lists : CpuLists = lists_of s cache cpu in record s { cpu_lists = set s.cpu_lists (cpu_place s cache cpu) (record lists { partial = partial }); nodes = set s.nodes cache frames })
checked-relisted s cache cpu within partial frames fewer =
    let lists : CpuLists = lists_of s cache cpu in
    let v : CpuLists = record lists { partial = partial } in
    let empty : (other : ℕ) (own : CheckedState) → IsCheckedOf s other own → other ≡ cache → (partial ≡ []) × (frames ≡ []) = λ other own of e.
    let no_partial : (f : ℕ) → times f lists.partial ≡ 0 = λ f. ap (λ n. times f (lists_of s n cpu).partial) (sym e) ∙ ap (λ (l : CpuLists). times f l.partial) (of.unlisted cpu within) in
    let no_node : (f : ℕ) → times f (node_of s cache) ≡ 0 = λ f. ap (λ n. times f (node_of s n)) (sym e) ∙ ap (times f) of.off_node in
    (nothing-stands partial (λ f. omega (arith, fewer f, no_partial f, no_node f)), nothing-stands frames (λ f. omega (arith, fewer f, no_partial f, no_node f))) in
    checked-step s s.pool s.slabs s.frees (set s.cpu_lists (cpu_place s cache cpu) v) (set s.nodes cache frames) s.memory s.board s.gone s.live
    (λ other own is of. record {
      agrees = λ frame shape h. h;
      unlisted = λ other_cpu other_within.
          at_written (λ l. l ≡ no_lists) s.cpu_lists (cpu_place s cache cpu) (cpu_place s other other_cpu) v no_lists
          (λ e.
          let same : other ≡ cache = sym (same-cache s.cpus cache cpu other other_cpu within other_within e) in
          let here : lists ≡ no_lists = ap (λ n. lists_of s n cpu) (sym same) ∙ of.unlisted cpu within in
          ap (λ (l : CpuLists). record l { partial = partial }) here ∙ ap (λ (p : List ℕ). record no_lists { partial = p }) (empty other own of same).0) (of.unlisted other_cpu other_within);
      off_node = at_written (λ (xs : List ℕ). xs ≡ []) s.nodes cache other frames [] (λ e. (empty other own of e).1) of.off_node;
      unfree = of.unfree;
    })

-- the node list of a cache that is not checked
pub checked-with_node : (s : State) (cache cpu : ℕ) → cpu < s.cpus → (v : CpuLists) (frames : List ℕ) → IsApart s cache → AreChecked s
    → AreChecked (record s { cpu_lists = set s.cpu_lists (cpu_place s cache cpu) v; nodes = set s.nodes cache frames })
checked-with_node s cache cpu within v frames apart =
    checked-step s s.pool s.slabs s.frees (set s.cpu_lists (cpu_place s cache cpu) v) (set s.nodes cache frames) s.memory s.board s.gone s.live
    (λ other own is of. record {
      agrees = λ frame shape h. h;
      unlisted = λ other_cpu other_within. lists-other s cache cpu within apart v other (apart other own is of) other_cpu other_within (of.unlisted other_cpu other_within);
      off_node = at_written (λ (xs : List ℕ). xs ≡ []) s.nodes cache other frames [] (λ e. absurd (apart other own is of e)) of.off_node;
      unfree = of.unfree;
    })

-- an object comes to the own freelist of a slab of the cache
pub checked-with_own : (s : State) (cache frame : ℕ) (free : List ℕ) → MatchOption (slab_of s frame) ⊥ (λ slab. slab.cache ≡ cache) → IsApart s cache → AreChecked s
    → AreChecked (record s { frees = set s.frees frame free })
checked-with_own s cache frame free live apart =
    checked-step s s.pool s.slabs (set s.frees frame free) s.cpu_lists s.nodes s.memory s.board s.gone s.live
    (λ other own is of. record {
      agrees = λ f shape h. h;
      unlisted = of.unlisted;
      off_node = of.off_node;
      unfree = λ f. at_written (IsUnfree other (slab_of s f)) s.frees frame f free []
          (λ e. IsUnfree-other cache other (slab_of s f) free (subst (λ n. MatchOption (slab_of s n) ⊥ (λ slab. slab.cache ≡ cache)) (sym e) live) (apart other own is of)) (of.unfree f);
    })

-- a slab of the cache goes
pub checked-discarded : (s : State) (pool : FreeFrames) (cache frame : ℕ) → MatchOption (slab_of s frame) ⊥ (λ slab. slab.cache ≡ cache) → IsApart s cache → AreChecked s
    → AreChecked (record s { pool = pool; slabs = set s.slabs frame None; frees = set s.frees frame [] })
checked-discarded s pool cache frame live apart =
    checked-step s pool (set s.slabs frame None) (set s.frees frame []) s.cpu_lists s.nodes s.memory s.board s.gone s.live
    (λ other own is of. record {
      agrees = λ f shape old. at_written (λ x. Agrees other x shape) s.slabs frame f None None
          (λ e. Agrees-goes cache other (slab_of s frame) shape live (apart other own is of) (subst (λ n. Agrees other (slab_of s n) shape) e old)) old;
      unlisted = of.unlisted;
      off_node = of.off_node;
      unfree = λ f. at_written (λ x. IsUnfree other x (get_or (set s.frees frame []) f [])) s.slabs frame f None None (λ e. tt)
          (at_written (IsUnfree other (slab_of s f)) s.frees frame f [] [] (λ e. IsUnfree-none other (slab_of s f)) (of.unfree f));
    })

-- before the first item no cache is there
pub checked-opening : (frames cpus objects : ℕ) (names : List (List ℕ)) → AreChecked (opening frames cpus objects names)
checked-opening frames cpus objects names =
    let s : State = opening frames cpus objects names in
    record {
      numbers = refl;
      those = λ cache. subst (λ x. IfSome x (IsCheckedOf s cache)) (sym (get_or-replicate_any 32 cache None)) tt;
      all = λ cache. subst (λ (x : Option Cache). IfSome x (λ live. is_checked live.flags ≡ is_some (checked_of s cache))) (sym (get_or-replicate_any 32 cache None)) tt;
    }
