-- Words and bytes of objects: what a write, a read and a poke find and leave.
use Rattle.std.proofs.Common.{◌≡◌, ℕ, zero, suc, ◌+◌, ◌-◌, ◌*◌, ◌^◌, ◌<◌, ◌≤◌, Bool, true, false, List, [], ◌∷◌, length, get_or, set, Option, Some, None, IsSome, MatchOption, inl, inr, refl, ap, sym, ◌∙◌, subst, arith, pow_pos, zero-add}
use Rattle.std.specs.Prelude.{MatchBool, nat_lt, slice_get, is_some, if◌then◌else◌}
use Rattle.std.specs.Option.{option_and_then, option_map_or}
use Rattle.std.proofs.lemmas.Bool.Decides.{nat_tests}
use Rattle.std.proofs.lemmas.Bool.{cases_lt}
use Rattle.std.proofs.lemmas.Option.{slice_get-get_or, slice_get_past}
use Rattle.std.proofs.lemmas.Nat.{row_fits}
use Rattle.slub_cache_create.specs.declared.caches.Cache.{Cache}
use Rattle.slub_object_layout.specs.declared.layout.Layout.{Layout}
use Rattle.slub_red_zone.specs.declared.slab.ObjectState.{ObjectState}
use Rattle.slub_red_zone.specs.declared.slab.ObjectState.TheVariants.{Free}
use Rattle.slub_red_zone.specs.Objects.{KeepsObjects, findable}
use Rattle.slub_red_zone.specs.State.{CheckedState, IsUsed}
use Rattle.slub_red_zone.specs.Steps.{with_word as slab_word, word_of as slab_word_of}
use Rattle.slub_lists.specs.declared.lists.Held.{Held}
use Rattle.slub_lists.specs.declared.lists.Slab.{Slab}
use Rattle.slub_trace.specs.declared.reply.Reply.TheVariants.{NotHeld, OutOfObject, Value, Wrote}
use Rattle.slub_lists.specs.State.{State}
use Rattle.slub_lists.specs.Alloc.{cache_of, checked_of, slab_of, HasLayout, IsLive}
use Rattle.slub_lists.specs.Checked.{slot_of_held, with_checked}
use Rattle.slub_lists.specs.CheckedSteps.{Swaps}
use Rattle.slub_lists.specs.Coherent.{IsCoherent, IsConsistent, IsSlabOf, covered_from, covers, held_under}
use Rattle.slub_lists.specs.Words.{Reads, ReadsHeld, Writes, WritesHeld, held_by, is_word, is_worker, own, with_word, word_at, word_of}
use Rattle.slub_lists.specs.WordSteps.{IsHeld, KeepsAll, WritesIn}
use Rattle.slub_lists.proofs.Found.{found-same}
use Rattle.slub_lists.proofs.Framed.{covered-set}
use Rattle.slub_lists.proofs.Kept.{coherent-of, consistent-of}
use Rattle.slub_lists.proofs.CheckedSlabs.{at_some, found-with, held-live, keeps-consistent, match_weaker, memory-consistent, reports-from, was-checked}
use Rattle.slub_common.proofs.Writes.{inside-of}
use Rattle.slub_lists.proofs.CheckedGiving.{layout-live, slab-sized, the-value}
use Rattle.slub_lists.proofs.CheckedTaking.{checked-set, held-frame, held-objects, held-slab, held-used}

-- ---- whose object it is

-- what a worker holds stands on the board
pub own-is : (worker : ℕ) (x : Option Held) (held : Held) → option_and_then (own worker) x ≡ Some held → x ≡ Some held
own-is worker None held e = cc
own-is worker (Some other) held e = by-test (is_worker worker other.worker) e
  where
    by-test : (b : Bool) → (if b then Some other else None) ≡ Some held → Some other ≡ Some held
    by-test true e = e
    by-test false e = cc

pub held-is : (s : State) (worker object : ℕ) (held : Held) → held_by s worker object ≡ Some held → IsHeld s held
held-is s worker object held e = record { object = object; here = own-is worker (held_under s object) held e }

-- its cache is live
pub held-cache : (s : State) (held : Held) → IsHeld s held → IsCoherent s → IsSome (cache_of s held.cache)
held-cache s held is coherent =
    let slab = the-value (slab_of s held.frame) (λ slab. slab.cache ≡ held.cache) (held-live s is.object held is.here coherent.shaped) in
    let live = at_some (slab_of s held.frame) slab.0 (λ slab. MatchOption (cache_of s slab.cache) ⊥ (λ live. IsSlabOf live.layout slab)) slab.1 (coherent.shaped.slab held.frame) in
    some-live (λ live. IsSlabOf live.layout slab.0) (cache_of s held.cache) (subst (λ n. MatchOption (cache_of s n) ⊥ (λ live. IsSlabOf live.layout slab.0)) slab.2 live)
  where
    some-live : (P : Cache → Type 0) (x : Option Cache) → MatchOption x ⊥ P → IsSome x
    some-live P None h = absurd h
    some-live P (Some live) h = refl

-- what is read inside a list is there, whatever stands for what is past its end
pub read-inside : {A : Type 0} (xs : List A) (i : ℕ) (x d : A) → i < length xs → x ≡ get_or xs i x → x ≡ get_or xs i d
read-inside [] i x d inside read = absurd (omega arith)
read-inside (y ∷ xs) zero x d inside read = read
read-inside (y ∷ xs) (suc i) x d inside read = read-inside xs i x d (omega arith) read

-- its number is one of the table's
pub cache-inside : (s : State) (held : Held) → IsHeld s held → IsCoherent s → held.cache < length s.checked
cache-inside s held is coherent =
    let live = found-value (cache_of s held.cache) (held-cache s held is coherent) in
    omega (arith, inside-of s.table.caches held.cache live.0 live.1, coherent.shaped.table.numbers, coherent.shaped.checked.numbers)
  where
    found-value : {X : Type 0} (x : Option X) → IsSome x → (y : X) × (x ≡ Some y)
    found-value None there = cc
    found-value (Some y) there = (y, refl)

-- ---- where a word is

-- the run of a slab lies in the frames
run-ends : (s : State) (frame : ℕ) (slab : Slab) → slab_of s frame ≡ Some slab → IsConsistent s → frame + 2 ^ slab.order ≤ s.frames
run-ends s frame slab is consistent =
    let g : ℕ = frame + 2 ^ slab.order - 1 in
    let low : frame ≤ g = omega (arith, pow_pos slab.order) in
    let high : g < frame + 2 ^ slab.order = omega (arith, pow_pos slab.order) in
    let nothing : covers g (0 + frame) None ≡ 0 = refl in
    let one : covers g (0 + frame) (Some slab) ≡ 1 = grind (arith, nat_tests, low, high, zero-add frame) in
    let some : 0 < covered_from g 0 s.slabs = omega (arith, covered-set g 0 s.slabs frame None (inside-of s.slabs frame slab is), nothing, ap (covers g (0 + frame)) is, one) in
    let e = consistent.framed g in
    let inside : g < s.frames = grind (arith, nat_tests, e, some) in
    omega (arith, inside, pow_pos slab.order)

-- the slots of a slab lie in its run
pub slots-fit : (layout : Layout) (slab : Slab) → IsLive layout → IsSlabOf layout slab → slab.objects * layout.size ≤ 4096 * 2 ^ slab.order
slots-fit layout slab live of =
    elim of [
      | inl wide ↦ subst (λ n. slab.objects * layout.size ≤ 4096 * 2 ^ n) (sym wide.0) (subst (λ n. n * layout.size ≤ 4096 * 2 ^ layout.order) (sym wide.1) live.1.made.objects_fit)
      | inr least ↦ subst (λ n. slab.objects * layout.size ≤ 4096 * 2 ^ n) (sym least.0) (subst (λ n. n * layout.size ≤ 4096 * 2 ^ layout.min_order) (sym least.1) live.1.made.min_objects_fit)
    ]

pub word-ends : (layout : Layout) (word : ℕ) → is_word layout word ≡ true → 8 * (word + 1) ≤ layout.object_size
word-ends layout word is = grind (arith, nat_tests, is)

module _ (s : State) (held : Held) (layout : Layout) (is : IsHeld s held) (has : HasLayout s held.cache layout) (coherent : IsCoherent s) where
  consistent : IsConsistent s
  consistent = consistent-of s coherent

  live : IsLive layout
  live = layout-live s held.cache layout has coherent.shaped

  pub place-inside-slab : (held.frame < 4096) × (held.index < layout.objects)
  place-inside-slab = (held-frame s is.object held is.here consistent, held-objects s is.object held is.here consistent layout has)

  -- a word of an object is one of the frames' words
  pub word-inside : (word : ℕ) → is_word layout word ≡ true → word_at layout held word < length s.memory
  word-inside word inside =
      let slab = held-slab s is.object held is.here consistent in
      let sized = slab-sized s held.cache held.frame layout slab.0 has slab.1 slab.2 coherent.shaped in
      let row : held.index * layout.size + layout.size ≤ slab.0.objects * layout.size = row_fits held.index layout.size slab.0.objects layout.size slab.3 (omega arith) in
      omega (arith, row, slots-fit layout slab.0 live sized, run-ends s held.frame slab.0 slab.1 consistent, word-ends layout word inside, live.1.made.inuse.0, live.1.made.inuse.1, live.1.made.left_pad, coherent.shaped.memory)

  -- an object of a checked cache is used, and its words are the layout's
  pub used-word : (word : ℕ) → is_word layout word ≡ true → (slabs : CheckedState) → checked_of s held.cache ≡ Some slabs → IsUsed slabs (slot_of_held held) × (8 * (word + 1) ≤ slabs.layout.object_size)
  used-word word inside slabs was =
      let of = was-checked s held.cache slabs slabs was coherent.shaped.checked in
      let same = checked-set s held.cache layout slabs has of in
      (held-used s is.object held slabs is.here was consistent, subst (λ (l : Layout). 8 * (word + 1) ≤ l.object_size) same (word-ends layout word inside))

-- an object is there where its index is below the number of objects
pub object-there : (states : List ObjectState) (index : ℕ) → is_some (slice_get states index) ≡ nat_lt index (length states)
object-there states index =
    elim (cases_lt index (length states)) [
      | inl inside ↦ let e = slice_get-get_or states index Free inside in ap is_some e ∙ (let yes : true ≡ nat_lt index (length states) = grind (arith, nat_tests, inside) in yes)
      | inr past ↦ let e = slice_get_past states index past in ap is_some e ∙ (let no : false ≡ nat_lt index (length states) = grind (arith, nat_tests, past) in no)
    ]

-- ---- what stays

-- bytes and the order of slabs say nothing of what can be found
same-findable : (old new : CheckedState) → KeepsObjects old new → findable new ≡ findable old
same-findable old new keeps = omega (arith, keeps.listed, ap length keeps.reports)

module _ (s t : State) (cache : ℕ) (old new : CheckedState) (swaps : Swaps s cache old new t) (keeps : KeepsObjects old new) where
  pub swaps-board : t.board ≡ s.board
  swaps-board = ap (λ (t : State). t.board) swaps.now

  pub swaps-others : KeepsAll s t
  swaps-others object =
      let found = found-with s cache old new t swaps.was (reports-from old new keeps.reports) (omega (arith, same-findable old new keeps)) (ap (λ (t : State). t.checked) swaps.now) in
      record {
        frames = ap (λ (t : State). t.frames) swaps.now;
        cpus = ap (λ (t : State). t.cpus) swaps.now;
        table = ap (λ (t : State). t.table) swaps.now;
        board_length = ap (λ (t : State). length t.board) swaps.now;
        board = λ other ne. ap (λ (t : State). get_or t.board other None) swaps.now;
        reports = found.reports;
        findable = found.findable;
      }

  pub swaps-coherent : IsCoherent s → IsCoherent t
  swaps-coherent coherent =
      subst IsCoherent (sym swaps.now)
      (coherent-of (with_checked s cache new) (keeps-consistent s cache old new swaps.was keeps.slabs swaps.sound keeps.objects (consistent-of s coherent)) coherent.kept)

module _ (s t : State) (memory : List ℕ) (now : t ≡ record s { memory = memory }) where
  pub memory-others : KeepsAll s t
  memory-others object =
      let found = found-same s t (ap (λ (t : State). t.checked) now) in
      record {
        frames = ap (λ (t : State). t.frames) now;
        cpus = ap (λ (t : State). t.cpus) now;
        table = ap (λ (t : State). t.table) now;
        board_length = ap (λ (t : State). length t.board) now;
        board = λ other ne. ap (λ (t : State). get_or t.board other None) now;
        reports = found.reports;
        findable = found.findable;
      }

  pub memory-coherent : length memory ≡ length s.memory → IsCoherent s → IsCoherent t
  memory-coherent same coherent =
      subst IsCoherent (sym now) (coherent-of (record s { memory = memory }) (memory-consistent s memory same (consistent-of s coherent)) coherent.kept)

-- nothing changes
pub same-others : (s : State) → KeepsAll s s
same-others s = memory-others s s s.memory refl

-- ---- words

-- a word of a checked object
pub slab-written : (s t : State) (layout : Layout) (held : Held) (word value : ℕ) → WritesIn s held.cache (slot_of_held held) word value t → t ≡ with_word s layout held word value
slab-written s t layout held word value writes =
    writes.swaps.now ∙ ap (with_checked s held.cache) writes.written
    ∙ sym (ap (λ x. option_map_or (λ slabs. with_checked s held.cache (slab_word slabs (slot_of_held held) word value)) x (record s { memory = set s.memory (word_at layout held word) value })) writes.swaps.was)

-- and of any other
pub memory-written : (s : State) (layout : Layout) (held : Held) (word value : ℕ) → checked_of s held.cache ≡ None → record s { memory = set s.memory (word_at layout held word) value } ≡ with_word s layout held word value
memory-written s layout held word value none =
    sym (ap (λ x. option_map_or (λ slabs. with_checked s held.cache (slab_word slabs (slot_of_held held) word value)) x (record s { memory = set s.memory (word_at layout held word) value })) none)

pub slab-read : (s : State) (layout : Layout) (held : Held) (word : ℕ) (slabs : CheckedState) → checked_of s held.cache ≡ Some slabs → slab_word_of slabs (slot_of_held held) word ≡ word_of s layout held word
slab-read s layout held word slabs was = sym (ap (λ x. option_map_or (λ slabs. slab_word_of slabs (slot_of_held held) word) x (get_or s.memory (word_at layout held word) 0)) was)

pub memory-read : (s : State) (layout : Layout) (held : Held) (word : ℕ) → checked_of s held.cache ≡ None → get_or s.memory (word_at layout held word) 0 ≡ word_of s layout held word
memory-read s layout held word none = sym (ap (λ x. option_map_or (λ slabs. slab_word_of slabs (slot_of_held held) word) x (get_or s.memory (word_at layout held word) 0)) none)

pub none-there : (x : Option CheckedState) → ¬ IsSome x → x ≡ None
none-there None none = refl
none-there (Some slabs) none = absurd (none refl)

-- the whole of a write and of a read, from what is known of the object
module _ (s : State) (worker object word : ℕ) (held : Held) (layout : Layout) (known : held_by s worker object ≡ Some held) (has : HasLayout s held.cache layout) where
  at-held : (P : Layout → Held → Type 0) (none : Type 0) → P layout held → MatchOption (held_by s worker object) none (λ held. MatchOption (cache_of s held.cache) ⊥ (λ live. P live.layout held))
  at-held P none here =
      subst (λ x. MatchOption x none (λ held. MatchOption (cache_of s held.cache) ⊥ (λ live. P live.layout held))) (sym known)
      (match_weaker (cache_of s held.cache) (λ live. live.layout ≡ layout) (λ live. P live.layout held) (λ live e. subst (λ l. P l held) (sym e) here) has)

  pub writes-word : (value : ℕ) (after : State) → is_word layout word ≡ true → after ≡ with_word s layout held word value → Writes s worker object word value Wrote after
  writes-word value after inside now =
      at-held (λ layout held. WritesHeld s layout held word value Wrote after) ((Wrote ≡ NotHeld) × (after ≡ s))
      (subst (λ b. MatchBool b ((Wrote ≡ Wrote) × (after ≡ with_word s layout held word value)) ((Wrote ≡ OutOfObject) × (after ≡ s))) (sym inside) (refl, now))

  pub writes-none : (value : ℕ) → is_word layout word ≡ false → Writes s worker object word value OutOfObject s
  writes-none value outside =
      at-held (λ layout held. WritesHeld s layout held word value OutOfObject s) ((OutOfObject ≡ NotHeld) × (s ≡ s))
      (subst (λ b. MatchBool b ((OutOfObject ≡ Wrote) × (s ≡ with_word s layout held word value)) ((OutOfObject ≡ OutOfObject) × (s ≡ s))) (sym outside) (refl, refl))

  pub reads-word : (value : ℕ) → is_word layout word ≡ true → value ≡ word_of s layout held word → Reads s worker object word (Value value)
  reads-word value inside is =
      at-held (λ layout held. ReadsHeld s layout held word (Value value)) (Value value ≡ NotHeld)
      (subst (λ b. MatchBool b (Value value ≡ Value (word_of s layout held word)) (Value value ≡ OutOfObject)) (sym inside) (ap Value is))

  pub reads-none : is_word layout word ≡ false → Reads s worker object word OutOfObject
  reads-none outside =
      at-held (λ layout held. ReadsHeld s layout held word OutOfObject) (OutOfObject ≡ NotHeld)
      (subst (λ b. MatchBool b (OutOfObject ≡ Value (word_of s layout held word)) (OutOfObject ≡ OutOfObject)) (sym outside) refl)
