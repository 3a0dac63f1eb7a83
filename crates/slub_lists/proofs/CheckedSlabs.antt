-- What a machine keeps where the slabs of a checked cache change.
use Rattle.std.proofs.Common.{◌≡◌, ◌≢◌, ℕ, ◌+◌, ◌-◌, ◌%◌, ◌^◌, ◌<◌, ◌≤◌, List, [], ◌++◌, length, get_or, set, sum_by, Option, Some, None, is_some, IfSome, MatchOption, inl, inr, refl, ap, sym, ◌∙◌, subst, arith, length-set}
use Rattle.std.specs.Option.{option_map_or}
use Rattle.std.proofs.lemmas.Bool.{cases_lt}
use Rattle.std.proofs.lemmas.Bool.Decides.{nat_tests}
use Rattle.std.proofs.lemmas.List.{append-nil, append_assoc, get_or_past}
use Rattle.std.proofs.lemmas.List.Sums.{sum_by-set}
use Rattle.slub_page_pool.specs.FreeFrames.{FreeFrames, IsPool}
use Rattle.slub_object_layout.specs.Layout.{is_checked}
use Rattle.slub_object_layout.specs.declared.layout.Flags.{Flags}
use Rattle.slub_object_layout.specs.declared.layout.Layout.{Layout}
use Rattle.slub_trace.specs.declared.damage.Report.{Report}
use Rattle.slub_red_zone.specs.Objects.{AddsReports, KeepsIdle, KeepsSlabs, findable, idle}
use Rattle.slub_red_zone.specs.Sound.{IsSound}
use Rattle.slub_red_zone.specs.State.{CheckedState}
use Rattle.slub_lists.specs.declared.lists.Slab.{Slab}
use Rattle.slub_lists.specs.declared.lists.Held.{Held}
use Rattle.slub_lists.specs.State.{State}
use Rattle.slub_lists.specs.Alloc.{cache_of, checked_of, held_here, slab_of, with_held}
use Rattle.slub_lists.specs.Checked.{kept_by, with_checked}
use Rattle.slub_lists.specs.Coherent.{AddsReportsOf, Agrees, AreChecked, IsCacheOf, IsAccounted, IsCheckedOf, IsConsistent, IsFramed, IsListed, IsPlaced, IsShaped, IsSlabOf, findable_in, held_of, held_under, idle_in}
use Rattle.slub_lists.specs.Free.{with_taken}
use Rattle.slub_lists.specs.Steps.{KeepsFound}
use Rattle.slub_lists.proofs.Accounted.{accounted-with_held}
use Rattle.slub_lists.proofs.Found.{AddsReportsOf-same}
use Rattle.slub_common.proofs.Sums.{element-counted}
use Rattle.slub_common.proofs.Writes.{at_written, at_written_else, inside-of}

-- a machine with other frames, slabs and objects, on the same lists
abbrev pub with_slabs : State → FreeFrames → List (Option Slab) → List (List ℕ) → List (Option CheckedState) → List ℕ → List (Option Held) → List ℕ → State
with_slabs s pool slabs frees checked memory board live =
    record s { pool = pool; slabs = slabs; frees = frees; checked = checked; memory = memory; board = board; live = live }

-- what holds of the machine but that each object is in one place
pub record IsStanding (s : State) : Type 0 where
  pub shaped : IsShaped s
  pub framed : IsFramed s
  pub listed : IsListed s
  pub accounted : IsAccounted s

pub standing : (s : State) → IsConsistent s → IsStanding s
standing s consistent = record { shaped = consistent.shaped; framed = consistent.framed; listed = consistent.listed; accounted = consistent.accounted }

pub whole : (s : State) → IsStanding s → IsPlaced s → IsConsistent s
whole s stands placed = record { shaped = stands.shaped; placed = placed; framed = stands.framed; listed = stands.listed; accounted = stands.accounted }

-- what holds of a value, if there is one, holds of this one
pub at_some : {X : Type 0} (o : Option X) (x : X) (P : X → Type 0) → o ≡ Some x → IfSome o P → P x
at_some None x P is h = cc
at_some (Some y) x P is h = subst (λ (o : Option _). IfSome o P) is h

-- slabs of the same layout and flags are slabs of the same cache
pub of-same : (old new : CheckedState) (layout : Layout) (flags : Flags) → new.layout ≡ old.layout → new.flags ≡ old.flags → IsCacheOf old layout flags → IsCacheOf new layout flags
of-same old new layout flags l f h = (h.0 ∙ ap (λ (made : Layout). record made { min_partial = layout.min_partial }) (sym l), h.1 ∙ sym f)

pub at_match : {X : Type 0} (o : Option X) (x : X) (P : X → Type 0) → o ≡ Some x → MatchOption o ⊥ P → P x
at_match o x P is h = subst (λ (o : Option _). MatchOption o ⊥ P) is h

-- the same of another predicate
pub some_weaker : {X : Type 0} (x : Option X) (P Q : X → Type 0) → ((y : X) → P y → Q y) → IfSome x P → IfSome x Q
some_weaker None P Q weaker h = tt
some_weaker (Some y) P Q weaker h = weaker y h

pub match_weaker : {X : Type 0} (x : Option X) (P Q : X → Type 0) → ((y : X) → P y → Q y) → MatchOption x ⊥ P → MatchOption x ⊥ Q
match_weaker None P Q weaker h = h
match_weaker (Some y) P Q weaker h = weaker y h

-- a checked cache whose slabs stand where they stood
pub checked-same : (s : State) (pool : FreeFrames) (checked : List (Option CheckedState)) (memory : List ℕ) (board : List (Option Held)) (live : List ℕ) (cache : ℕ) (slabs : CheckedState)
    → IsCheckedOf s cache slabs → IsCheckedOf (with_slabs s pool s.slabs s.frees checked memory board live) cache slabs
checked-same s pool checked memory board live cache slabs is = record {
  sound = is.sound;
  number = is.number;
  live = is.live;
  agrees = is.agrees;
  unlisted = is.unlisted;
  off_node = is.off_node;
  unfree = is.unfree;
}

-- no slab of a checked cache changes
pub are-checked-same : (s : State) (pool : FreeFrames) (memory : List ℕ) (board : List (Option Held)) (live : List ℕ)
    → AreChecked s → AreChecked (with_slabs s pool s.slabs s.frees s.checked memory board live)
are-checked-same s pool memory board live are = record {
  numbers = are.numbers;
  those = λ cache. some_weaker (checked_of s cache) (IsCheckedOf s cache) (IsCheckedOf (with_slabs s pool s.slabs s.frees s.checked memory board live) cache)
      (λ slabs is. checked-same s pool s.checked memory board live cache slabs is) (are.those cache);
  all = are.all;
}

-- the slabs of one checked cache are others
module _ (s : State) (cache : ℕ) (old new : CheckedState) (was : checked_of s cache ≡ Some old) where
  pub checked-inside : cache < length s.checked
  checked-inside = inside-of s.checked cache old was

  pub are-checked-with : (pool : FreeFrames) (slabs : List (Option Slab)) (frees : List (List ℕ)) (memory : List ℕ) (board : List (Option Held)) (live : List ℕ)
      → IsCheckedOf (with_slabs s pool slabs frees (set s.checked cache (Some new)) memory board live) cache new
      → ((other : ℕ) (its : CheckedState) → other ≢ cache → IsCheckedOf s other its → IsCheckedOf (with_slabs s pool slabs frees (set s.checked cache (Some new)) memory board live) other its)
      → AreChecked s → AreChecked (with_slabs s pool slabs frees (set s.checked cache (Some new)) memory board live)
  are-checked-with pool slabs frees memory board live own others are =
      let t : State = with_slabs s pool slabs frees (set s.checked cache (Some new)) memory board live in
      record {
        numbers = length-set s.checked cache (Some new) ∙ are.numbers;
        those = λ other. at_written_else (λ x. IfSome x (IsCheckedOf t other)) s.checked cache other (Some new) None checked-inside
            (λ e. subst (λ n. IsCheckedOf t n new) (sym e) own)
            (λ ne. some_weaker (checked_of s other) (IsCheckedOf s other) (IsCheckedOf t other) (λ its is. others other its ne is) (are.those other));
        all = λ other. some_weaker (cache_of s other) (λ c. is_checked c.flags ≡ is_some (checked_of s other)) (λ c. is_checked c.flags ≡ is_some (get_or (set s.checked cache (Some new)) other None))
            (λ c is. is ∙ sym (at_written (λ x. is_some x ≡ is_some (checked_of s other)) s.checked cache other (Some new) None (λ e. sym (ap (λ n. is_some (checked_of s n)) e ∙ ap is_some was)) refl)) (are.all other);
      }

  -- what was known of it
  pub was-checked : AreChecked s → IsCheckedOf s cache old
  was-checked are = at_some (checked_of s cache) old (IsCheckedOf s cache) was (are.those cache)

  -- with the same slabs, of the same orders and numbers of objects
  pub keeps-checked : KeepsSlabs old new → IsSound new → AreChecked s → AreChecked (with_checked s cache new)
  keeps-checked keeps sound are =
      let is = was-checked are in
      are-checked-with s.pool s.slabs s.frees s.memory s.board s.live
      (record {
        sound = sound;
        number = keeps.cache ∙ is.number;
        live = match_weaker (cache_of s cache) (λ c. IsCacheOf old c.layout c.flags) (λ c. IsCacheOf new c.layout c.flags) (λ c h. of-same old new c.layout c.flags keeps.layout keeps.flags h) is.live;
        agrees = λ frame. subst (λ x. Agrees cache (slab_of s frame) x) (sym (keeps.shape frame)) (is.agrees frame);
        unlisted = is.unlisted;
        off_node = is.off_node;
        unfree = is.unfree;
      })
      (λ other its ne is. checked-same s s.pool (set s.checked cache (Some new)) s.memory s.board s.live other its is) are

  -- its idle objects come in the place of those before
  pub idle-with : (f i : ℕ) → sum_by (idle_in f i) (set s.checked cache (Some new)) + idle old f i ≡ sum_by (idle_in f i) s.checked + idle new f i
  idle-with f i = omega (arith, sum_by-set (idle_in f i) s.checked cache (Some new) None checked-inside, ap (idle_in f i) was)

  -- and its reports and listed slabs
  pub findable-with : sum_by (λ slabs. option_map_or findable slabs 0) (set s.checked cache (Some new)) + findable old ≡ findable_in s + findable new
  findable-with = omega (arith, sum_by-set (λ slabs. option_map_or findable slabs 0) s.checked cache (Some new) None checked-inside, ap (λ slabs. option_map_or findable slabs 0) was)

-- ---- reports

-- reports that are as they were
pub reports-from : (old new : CheckedState) → new.reports ≡ old.reports → AddsReports old new
reports-from old new same = ([], same ∙ sym (append-nil old.reports))

-- reports that grow twice grow
pub reports-trans : (x y z : Option CheckedState) → AddsReportsOf x y → AddsReportsOf y z → AddsReportsOf x z
reports-trans None None None one two = tt
reports-trans None None (Some c) one two = two
reports-trans None (Some b) z one two = absurd one
reports-trans (Some a) None z one two = absurd one
reports-trans (Some a) (Some b) None one two = two
reports-trans (Some a) (Some b) (Some c) one two = (one.0 ++ two.0, two.1 ∙ ap (λ (l : List Report). l ++ two.0) one.1 ∙ append_assoc a.reports one.0 two.0)

-- the reports of all checked caches, where those of one grow
pub reports-with : (s : State) (cache : ℕ) (old new : CheckedState) → checked_of s cache ≡ Some old → AddsReports old new → (other : ℕ) → AddsReportsOf (checked_of s other) (get_or (set s.checked cache (Some new)) other None)
reports-with s cache old new was adds other =
    at_written (AddsReportsOf (checked_of s other)) s.checked cache other (Some new) None
    (λ e. subst (λ x. AddsReportsOf x (Some new)) (sym (ap (checked_of s) e ∙ was)) adds) (AddsReportsOf-same (checked_of s other))

pub found-with : (s : State) (cache : ℕ) (old new : CheckedState) (after : State) → checked_of s cache ≡ Some old → AddsReports old new → findable new ≤ findable old + 1 → after.checked ≡ set s.checked cache (Some new) → KeepsFound s after
found-with s cache old new after was adds bounded now = record {
  reports = λ other. subst (λ (l : List (Option CheckedState)). AddsReportsOf (checked_of s other) (get_or l other None)) (sym now) (reports-with s cache old new was adds other);
  findable =
      let same : findable_in after ≡ sum_by (λ slabs. option_map_or findable slabs 0) (set s.checked cache (Some new)) = ap (sum_by (λ slabs. option_map_or findable slabs 0)) now in
      omega (arith, same, findable-with s cache old new was, bounded);
}

-- ---- the numbers of things

pub shaped-with_slabs : (s : State) (pool : FreeFrames) (slabs : List (Option Slab)) (frees : List (List ℕ)) (checked : List (Option CheckedState)) (memory : List ℕ) (board : List (Option Held)) (live : List ℕ)
    → IsPool pool → pool.frames ≡ s.pool.frames → length slabs ≡ length s.slabs → length frees ≡ length s.frees → length memory ≡ length s.memory → length board ≡ length s.board → length live ≡ length s.live
    → AreChecked (with_slabs s pool slabs frees checked memory board live)
    → ((frame : ℕ) → IfSome (get_or slabs frame None) (λ slab. MatchOption (cache_of s slab.cache) ⊥ (λ live. IsSlabOf live.layout slab)))
    → ((frame : ℕ) → IfSome (get_or slabs frame None) (λ slab. frame % 2 ^ slab.order ≡ 0))
    → ((object : ℕ) → IfSome (get_or board object None) (λ held. MatchOption (get_or slabs held.frame None) ⊥ (λ slab. slab.cache ≡ held.cache)))
    → get_or board 0 None ≡ None → IsShaped s → IsShaped (with_slabs s pool slabs frees checked memory board live)
shaped-with_slabs s pool slabs frees checked memory board live good same_frames same_slabs same_frees same_memory same_board same_live are slab aligned held no_zero shaped = record {
  frames = shaped.frames;
  cpus = shaped.cpus;
  pool = good;
  pool_frames = same_frames ∙ shaped.pool_frames;
  slabs = same_slabs ∙ shaped.slabs;
  frees = same_frees ∙ shaped.frees;
  table = shaped.table;
  checked = are;
  cpu_lists = shaped.cpu_lists;
  nodes = shaped.nodes;
  memory = same_memory ∙ shaped.memory;
  live = same_live ∙ shaped.live;
  board = omega (arith, shaped.board, same_board);
  gone = shaped.gone ∙ sym same_board;
  slab = slab;
  aligned = aligned;
  held = held;
  no_zero = no_zero;
  bare = shaped.bare;
}

-- the lists are the same, and so are the slabs
pub listed-same : (s : State) (pool : FreeFrames) (checked : List (Option CheckedState)) (memory : List ℕ) (board : List (Option Held)) (live : List ℕ) → IsListed s → IsListed (with_slabs s pool s.slabs s.frees checked memory board live)
listed-same s pool checked memory board live listed = record {
  once = listed.once;
  live = listed.live;
  stocked = listed.stocked;
  of_current = listed.of_current;
  of_partial = listed.of_partial;
  of_node = listed.of_node;
  frozen = listed.frozen;
}

-- ---- the same slabs, with other bytes

module _ (s : State) (cache : ℕ) (old new : CheckedState) (was : checked_of s cache ≡ Some old) (keeps : KeepsSlabs old new) (sound : IsSound new) where
  pub keeps-standing : IsStanding s → IsStanding (with_checked s cache new)
  keeps-standing stands =
      let checked : List (Option CheckedState) = set s.checked cache (Some new) in
      let shaped = stands.shaped in
      record {
        shaped = shaped-with_slabs s s.pool s.slabs s.frees checked s.memory s.board s.live shaped.pool refl refl refl refl refl refl
            (keeps-checked s cache old new was keeps sound shaped.checked) shaped.slab shaped.aligned shaped.held shaped.no_zero shaped;
        framed = stands.framed;
        listed = listed-same s s.pool checked s.memory s.board s.live stands.listed;
        accounted = stands.accounted;
      }

  pub keeps-placed : KeepsIdle old new → IsPlaced s → IsPlaced (with_checked s cache new)
  keeps-placed same placed f i = omega (arith, placed f i, idle-with s cache old new was f i, same f i)

  pub keeps-consistent : KeepsIdle old new → IsConsistent s → IsConsistent (with_checked s cache new)
  keeps-consistent same consistent = whole (with_checked s cache new) (keeps-standing (standing s consistent)) (keeps-placed same consistent.placed)

-- ---- the words of the frames

pub memory-consistent : (s : State) (memory : List ℕ) → length memory ≡ length s.memory → IsConsistent s → IsConsistent (record s { memory = memory })
memory-consistent s memory same consistent =
    let shaped = consistent.shaped in
    record {
      shaped = shaped-with_slabs s s.pool s.slabs s.frees s.checked memory s.board s.live shaped.pool refl refl refl same refl refl
          (are-checked-same s s.pool memory s.board s.live shaped.checked) shaped.slab shaped.aligned shaped.held shaped.no_zero shaped;
      placed = consistent.placed;
      framed = consistent.framed;
      listed = listed-same s s.pool s.checked memory s.board s.live consistent.listed;
      accounted = consistent.accounted;
    }

-- ---- an object that goes on the board

abbrev pub IsLiveOf : State → Held → Type 0
IsLiveOf s held = MatchOption (slab_of s held.frame) ⊥ (λ slab. slab.cache ≡ held.cache)

abbrev pub with_board : State → List (Option Held) → List ℕ → State
with_board s board live = record s { board = board; live = live }

board-standing : (s : State) (object : ℕ) (x : Option Held) (live : List ℕ) → (object ≡ 0 → x ≡ None) → length live ≡ length s.live → IfSome x (IsLiveOf s) → IsAccounted (with_board s (set s.board object x) live) → IsStanding s → IsStanding (with_board s (set s.board object x) live)
board-standing s object x live numbered same new accounted stands =
    let shaped = stands.shaped in
    let board : List (Option Held) = set s.board object x in
    record {
      shaped = shaped-with_slabs s s.pool s.slabs s.frees s.checked s.memory board live shaped.pool refl refl refl refl (length-set s.board object x) same
          (are-checked-same s s.pool s.memory board live shaped.checked) shaped.slab shaped.aligned
          (λ number. at_written (λ x. IfSome x (IsLiveOf s)) s.board object number x None (λ e. new) (shaped.held number))
          (at_written (λ (x : Option Held). x ≡ None) s.board object 0 x None (λ e. numbered (sym e)) shaped.no_zero) shaped;
      framed = stands.framed;
      listed = listed-same s s.pool s.checked s.memory board live stands.listed;
      accounted = accounted;
    }

pub held-standing : (s : State) (object : ℕ) (held : Held) → (1 ≤ object) × (object < length s.board) → get_or s.board object None ≡ None → held.cache < length s.live → IsLiveOf s held → IsStanding s → IsStanding (with_held s object held)
held-standing s object held slot unused within live stands =
    board-standing s object (Some held) (set s.live held.cache (get_or s.live held.cache 0 + 1)) (λ e. absurd (omega (arith, e, slot.0))) (length-set s.live held.cache (get_or s.live held.cache 0 + 1)) live
    (accounted-with_held s object held within slot.1 unused stands.accounted) stands

-- ---- an object that goes off it

module _ (s : State) (object : ℕ) (held : Held) (here : held_under s object ≡ Some held) where
  pub on-board : object < length s.board
  on-board = inside-of s.board object held here

  -- it is counted
  pub counted : IsAccounted s → 0 < get_or s.live held.cache 0
  counted accounted =
      let one : held_of held.cache (Some held) ≡ 1 = grind (arith, nat_tests) in
      omega (arith, accounted held.cache, element-counted (held_of held.cache) s.board object None refl, ap (held_of held.cache) here, one)

  pub counted-within : IsAccounted s → held.cache < length s.live
  counted-within accounted =
      elim (cases_lt held.cache (length s.live)) [
        | inl inside ↦ inside
        | inr past ↦ absurd (omega (arith, counted accounted, get_or_past s.live held.cache 0 past))
      ]

  -- it stands on the board, so nowhere else
  pub held-once : 0 < sum_by (held_here held.frame held.index) s.board
  held-once =
      let one : held_here held.frame held.index (Some held) ≡ 1 = grind (arith, nat_tests) in
      omega (arith, element-counted (held_here held.frame held.index) s.board object None refl, ap (held_here held.frame held.index) here, one)

  -- its slab is live
  pub held-live : IsShaped s → IsLiveOf s held
  held-live shaped = at_some (held_under s object) held (IsLiveOf s) here (shaped.held object)

  pub taken-standing : IsStanding s → IsStanding (with_taken s object held.cache)
  taken-standing stands =
      board-standing s object None (set s.live held.cache (get_or s.live held.cache 0 - 1)) (λ e. refl) (length-set s.live held.cache (get_or s.live held.cache 0 - 1)) tt
      (λ c.
      let nothing : held_of c None ≡ 0 = refl in
      let less = sum_by-set (held_of c) s.board object None None on-board in
      let before = ap (held_of c) here in
      at_written_else (λ n. n ≡ sum_by (held_of c) (set s.board object None)) s.live held.cache c (get_or s.live held.cache 0 - 1) 0 (counted-within stands.accounted)
      (λ e. let one : held_of c (Some held) ≡ 1 = grind (arith, nat_tests, e) in omega (arith, less, nothing, before, one, stands.accounted c, ap (λ n. get_or s.live n 0) e))
      (λ ne. let none : held_of c (Some held) ≡ 0 = grind (arith, nat_tests, ne) in omega (arith, less, nothing, before, none, stands.accounted c))) stands

  -- or it stays there, for another worker
  pub kept-consistent : (worker : ℕ) → IsConsistent s → IsConsistent (kept_by s object worker held)
  kept-consistent worker consistent =
      let other : Held = record held { worker = Some worker } in
      whole (kept_by s object worker held)
      (board-standing s object (Some other) s.live (λ e. let at : held_under s object ≡ held_under s 0 = ap (held_under s) e in let none = consistent.shaped.no_zero in absurd cc) refl (held-live consistent.shaped)
      (λ c. omega (arith, consistent.accounted c, sum_by-set (held_of c) s.board object (Some other) None on-board, ap (held_of c) here, same-cache c worker)) (standing s consistent))
      (λ f i. omega (arith, consistent.placed f i, sum_by-set (held_here f i) s.board object (Some other) None on-board, ap (held_here f i) here, same-place f i worker))
    where
      same-cache : (c worker : ℕ) → held_of c (Some (record held { worker = Some worker })) ≡ held_of c (Some held)
      same-cache c worker = refl

      same-place : (f i worker : ℕ) → held_here f i (Some (record held { worker = Some worker })) ≡ held_here f i (Some held)
      same-place f i worker = refl
