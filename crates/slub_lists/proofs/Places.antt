-- What a consistent machine says of slabs, and of the places of its words and free pointers.
use Rattle.std.proofs.Common.{◌≡◌, ℕ, ◌+◌, ◌-◌, ◌*◌, ◌/◌, ◌%◌, ◌^◌, ◌<◌, ◌≤◌, cond, eqb, Bool, true, false, List, [], ◌∷◌, length, get_or, Option, Some, None, inl, inr, refl, ap, sym, ◌∙◌, subst, arith, pow_pos, zero-add}
use Rattle.std.specs.Prelude.{MatchOption, nat_lt, IsSome, ◌↔◌, IsTrue}
use Rattle.std.specs.Option.{option_map, option_map_or}
use Rattle.std.proofs.lemmas.Bool.{cases_eq, eq-eqb, ne_eqb, cond-true, cond-false}
use Rattle.std.proofs.lemmas.Bool.Decides.{nat_tests}
use Rattle.std.proofs.lemmas.Nat.{row_fits, same_from_place}
use Rattle.slub_object_layout.specs.declared.layout.Layout.{Layout}
use Rattle.slub_object_layout.specs.Layout.{IsInSlot, address_of, no_layout, order_for}
use Rattle.slub_cache_create.specs.declared.caches.Cache.{Cache}
use Rattle.slub_common.specs.Times.{times}
use Rattle.slub_red_zone.specs.State.{CheckedState, SlabState}
use Rattle.slub_red_zone.specs.Objects.{shape_at, shape_of}
use Rattle.slub_lists.specs.declared.lists.Slab.{Slab}
use Rattle.slub_lists.specs.declared.lists.Held.{Held}
use Rattle.slub_lists.specs.declared.lists.CpuLists.{CpuLists}
use Rattle.slub_lists.specs.State.{State}
use Rattle.slub_lists.specs.Alloc.{slab_of, own_free, cache_of, checked_of, cpu_place, lists_of, HasLayout, IsLive}
use Rattle.slub_lists.specs.Coherent.{Agrees, IsConsistent, IsSlabOf, covers, covered_from, has_object, held_under, times_current, times_partial}
use Rattle.slub_lists.specs.Words.{is_word, word_at}
use Rattle.slub_lists.proofs.Framed.{covered-set}
use Rattle.slub_common.proofs.Writes.{inside-of}
use Rattle.slub_lists.proofs.CheckedSlabs.{at_some, was-checked}
use Rattle.slub_lists.proofs.CheckedGiving.{the-value, layout-live, slab-sized}
use Rattle.slub_lists.proofs.CheckedTaking.{going-unlisted, held-slab}
use Rattle.slub_lists.proofs.ObjectWords.{slots-fit, word-ends}
use Rattle.slub_lists.proofs.Apart.{one-slab}
use Rattle.slub_lists.specs.Places.{IsByteOf, IsCurrent, IsOff, IsWithin, layout_at, pointer_at}
use Rattle.slub_lists.proofs.Counting.{once-length}
use Rattle.slub_lists.proofs.Listed.{current-counted-at}
use Rattle.slub_common.proofs.Times.{times-cons}
use Rattle.slub_lists.proofs.Times.{current-same}

-- the layout of a slab's cache
pub layout-of : (s : State) (f : ℕ) (x : Slab) → IsConsistent s → slab_of s f ≡ Some x → HasLayout s x.cache (layout_at s x.cache)
layout-of s f x consistent is =
    let here = at_some (slab_of s f) x (λ slab. MatchOption (cache_of s slab.cache) ⊥ (λ live. IsSlabOf live.layout slab)) is (consistent.shaped.slab f) in
    let live = the-value (cache_of s x.cache) (λ live. IsSlabOf live.layout x) here in
    subst (λ (o : Option Cache). MatchOption o ⊥ (λ c. c.layout ≡ option_map_or (λ (d : Cache). d.layout) o no_layout)) (sym live.1) refl

pub live-of-slab : (s : State) (f : ℕ) (x : Slab) → IsConsistent s → slab_of s f ≡ Some x → IsLive (layout_at s x.cache)
live-of-slab s f x consistent is = layout-live s x.cache (layout_at s x.cache) (layout-of s f x consistent is) consistent.shaped

pub sized-of-slab : (s : State) (f : ℕ) (x : Slab) → IsConsistent s → slab_of s f ≡ Some x → IsSlabOf (layout_at s x.cache) x
sized-of-slab s f x consistent is = slab-sized s x.cache f (layout_at s x.cache) x (layout-of s f x consistent is) is refl consistent.shaped

-- the frame of a byte of a slot is one of the slab's
pub slot-covered : (s : State) (f i byte : ℕ) (x : Slab) → IsConsistent s → slab_of s f ≡ Some x → i < x.objects → IsInSlot f i (layout_at s x.cache) byte → covers (byte / 4096) f (Some x) ≡ 1
slot-covered s f i byte x consistent is below inside =
    let l = layout_at s x.cache in
    let live = live-of-slab s f x consistent is in
    let row : i * l.size + l.size ≤ x.objects * l.size = row_fits i l.size x.objects l.size below (omega arith) in
    let fit = slots-fit l x live (sized-of-slab s f x consistent is) in
    let low : f ≤ byte / 4096 = omega (arith, inside.from) in
    let high : byte / 4096 < f + 2 ^ x.order = omega (arith, inside.below, row, fit) in
    grind (arith, nat_tests, low, high)

one-index : (frame i j : ℕ) (layout : Layout) (byte : ℕ) → IsInSlot frame i layout byte → IsInSlot frame j layout byte → i ≡ j
one-index frame i j layout byte at_i at_j =
    let x : ℕ = byte - frame * 4096 - i * layout.size in
    let y : ℕ = byte - frame * 4096 - j * layout.size in
    (same_from_place i x j y layout.size (omega (arith, at_i.from, at_i.below)) (omega (arith, at_j.from, at_j.below)) (omega (arith, at_i.from, at_i.below, at_j.from, at_j.below))).0

-- a byte lies in one slot
pub slots-apart : (s : State) (f i g j byte : ℕ) (x y : Slab) → IsConsistent s → slab_of s f ≡ Some x → slab_of s g ≡ Some y → i < x.objects → j < y.objects → IsInSlot f i (layout_at s x.cache) byte → IsInSlot g j (layout_at s y.cache) byte → (f ≡ g) × (i ≡ j)
slots-apart s f i g j byte x y consistent is_x is_y below_x below_y in_x in_y =
    let frame = one-slab s (byte / 4096) f g x y is_x is_y (slot-covered s f i byte x consistent is_x below_x in_x) (slot-covered s g j byte y consistent is_y below_y in_y) consistent in
    let slab : x ≡ y = injected (sym is_x ∙ ap (slab_of s) frame ∙ is_y) in
    let at : IsInSlot g i (layout_at s y.cache) byte = subst (λ n. IsInSlot n i (layout_at s y.cache) byte) frame (subst (λ (z : Slab). IsInSlot f i (layout_at s z.cache) byte) slab in_x) in
    (frame, one-index g i j (layout_at s y.cache) byte at in_y)
  where
    injected : {x y : Slab} → Some x ≡ Some y → x ≡ y
    injected e = cc

-- the free pointer lies in the slot
pub pointer-in : (s : State) (f i : ℕ) (x : Slab) → IsConsistent s → slab_of s f ≡ Some x → IsInSlot f i (layout_at s x.cache) (8 * pointer_at (layout_at s x.cache) f i)
pointer-in s f i x consistent is =
    let l = layout_at s x.cache in
    let live = live-of-slab s f x consistent is in
    let whole : 8 * pointer_at l f i ≡ address_of f i l + l.offset = eight f (i * l.size) l.left_pad l.offset (words i l.size live.1.made.size_in_words) live.1.made.left_pad_in_words live.1.made.offset_in_words in
    record { from = omega (arith, whole); below = omega (arith, whole, live.1.made.offset, live.1.made.left_pad) }
  where
    words : (i n : ℕ) → n % 8 ≡ 0 → i * n % 8 ≡ 0
    words i n e = let k : n ≡ 8 * (n / 8) = omega arith in let t : i * n ≡ i * (8 * (n / 8)) = ap (λ z. i * z) k in let u : i * (8 * (n / 8)) ≡ 8 * (i * (n / 8)) = omega arith in omega (arith, t, u)

    eight : (f r p o : ℕ) → r % 8 ≡ 0 → p % 8 ≡ 0 → o % 8 ≡ 0 → 8 * ((f * 4096 + r + p + o) / 8) ≡ f * 4096 + r + p + o
    eight f r p o a b c = omega arith

-- two objects have two free pointers
pub pointers-apart : (s : State) (f i g j : ℕ) (x y : Slab) → IsConsistent s → slab_of s f ≡ Some x → slab_of s g ≡ Some y → i < x.objects → j < y.objects → pointer_at (layout_at s x.cache) f i ≡ pointer_at (layout_at s y.cache) g j → (f ≡ g) × (i ≡ j)
pointers-apart s f i g j x y consistent is_x is_y below_x below_y same =
    slots-apart s f i g j (8 * pointer_at (layout_at s x.cache) f i) x y consistent is_x is_y below_x below_y (pointer-in s f i x consistent is_x)
    (subst (λ n. IsInSlot g j (layout_at s y.cache) (8 * n)) (sym same) (pointer-in s g j y consistent is_y))

-- what a slab's frames are
pub covered-inside : (s : State) (g f : ℕ) (x : Slab) → IsConsistent s → slab_of s f ≡ Some x → covers g f (Some x) ≡ 1 → (0 < g) × (g < s.frames)
covered-inside s g f x consistent is has =
    let nothing : covers g (0 + f) None ≡ 0 = refl in
    let here : covers g (0 + f) (slab_of s f) ≡ 1 = ap (covers g (0 + f)) is ∙ ap (λ n. covers g n (Some x)) (zero-add f) ∙ has in
    let some : 0 < covered_from g 0 s.slabs = omega (arith, covered-set g 0 s.slabs f None (inside-of s.slabs f x is), nothing, here) in
    let e = consistent.framed g in
    (grind (arith, nat_tests, e, some), grind (arith, nat_tests, e, some))

-- no slab is at frame 0, and each is one of the machine's
pub slab-inside : (s : State) (f : ℕ) (x : Slab) → IsConsistent s → slab_of s f ≡ Some x → (0 < f) × (f < s.frames)
slab-inside s f x consistent is = covered-inside s f f x consistent is (grind (arith, nat_tests, pow_pos x.order))

-- a free pointer is a word of the machine's memory
pub pointer-inside : (s : State) (f i : ℕ) (x : Slab) → IsConsistent s → slab_of s f ≡ Some x → i < x.objects → pointer_at (layout_at s x.cache) f i < length s.memory
pointer-inside s f i x consistent is below =
    let p = pointer_at (layout_at s x.cache) f i in
    let at = covered-inside s (8 * p / 4096) f x consistent is (slot-covered s f i (8 * p) x consistent is below (pointer-in s f i x consistent is)) in
    omega (arith, at.1, consistent.shaped.memory)

-- the order follows from the number of objects
pub order-of-slab : (s : State) (f : ℕ) (x : Slab) → IsConsistent s → slab_of s f ≡ Some x → x.order ≡ order_for (layout_at s x.cache) x.objects
order-of-slab s f x consistent is =
    let l = layout_at s x.cache in
    let live = live-of-slab s f x consistent is in
    elim (sized-of-slab s f x consistent is) [
      | inl wide ↦ wide.0 ∙ sym (cond-true (eqb x.objects l.objects) l.order l.min_order (eq-eqb x.objects l.objects wide.1))
      | inr least ↦ elim (cases_eq l.order l.min_order) [
        | inl same ↦ elim (cases_eq x.objects l.objects) [
          | inl e ↦ least.0 ∙ sym same ∙ sym (cond-true (eqb x.objects l.objects) l.order l.min_order (eq-eqb x.objects l.objects e))
          | inr d ↦ least.0 ∙ sym (cond-false (eqb x.objects l.objects) l.order l.min_order (ne_eqb x.objects l.objects d))
        ]
        | inr other ↦ least.0 ∙ sym (cond-false (eqb x.objects l.objects) l.order l.min_order (ne_eqb x.objects l.objects (λ e. live.1.made.orders_differ other (sym e ∙ least.1))))
      ]
    ]

-- a word of an object lies in its slot
pub word-in : (s : State) (f i j : ℕ) (x : Slab) (held : Held) → IsConsistent s → slab_of s f ≡ Some x → held.frame ≡ f → held.index ≡ i → is_word (layout_at s x.cache) j ≡ true → IsInSlot f i (layout_at s x.cache) (8 * word_at (layout_at s x.cache) held j)
word-in s f i j x held consistent is at_f at_i word =
    let l = layout_at s x.cache in
    let live = live-of-slab s f x consistent is in
    let ends = word-ends l j word in
    let a : address_of held.frame held.index l ≡ address_of f i l = ap (λ n. address_of n held.index l) at_f ∙ ap (λ n. address_of f n l) at_i in
    let whole : 8 * (address_of f i l / 8) ≡ address_of f i l = eight f (i * l.size) l.left_pad (words i l.size live.1.made.size_in_words) live.1.made.left_pad_in_words in
    let w : word_at l held j ≡ address_of f i l / 8 + j = ap (λ n. n / 8 + j) a in
    record { from = omega (arith, whole, w); below = omega (arith, whole, w, ends, live.1.made.inuse.0, live.1.made.inuse.1, live.1.made.left_pad) }
  where
    words : (i n : ℕ) → n % 8 ≡ 0 → i * n % 8 ≡ 0
    words i n e = let k : n ≡ 8 * (n / 8) = omega arith in let t : i * n ≡ i * (8 * (n / 8)) = ap (λ z. i * z) k in let u : i * (8 * (n / 8)) ≡ 8 * (i * (n / 8)) = omega arith in omega (arith, t, u)

    eight : (f r p : ℕ) → r % 8 ≡ 0 → p % 8 ≡ 0 → 8 * ((f * 4096 + r + p) / 8) ≡ f * 4096 + r + p
    eight f r p a b = omega arith

-- a word of an object is no other object's free pointer
pub words-apart : (s : State) (o j : ℕ) (held : Held) (g i : ℕ) (y : Slab) → IsConsistent s → held_under s o ≡ Some held → is_word (layout_at s held.cache) j ≡ true → slab_of s g ≡ Some y → i < y.objects → word_at (layout_at s held.cache) held j ≡ pointer_at (layout_at s y.cache) g i → (held.frame ≡ g) × (held.index ≡ i)
words-apart s o j held g i y consistent is word is_y below same =
    let x = held-slab s o held is consistent in
    let c : layout_at s held.cache ≡ layout_at s x.0.cache = ap (layout_at s) (sym x.2) in
    slots-apart s held.frame held.index g i (8 * pointer_at (layout_at s y.cache) g i) x.0 y consistent x.1 is_y x.3 below
    (subst (λ n. IsInSlot held.frame held.index (layout_at s x.0.cache) (8 * n)) (ap (λ l. word_at l held j) (sym c) ∙ same) (word-in s held.frame held.index j x.0 held consistent x.1 refl refl (ap (λ l. is_word l j) (sym c) ∙ word)))
    (pointer-in s g i y consistent is_y)

-- and two words of two objects are two
pub words-differ : (s : State) (o p i j : ℕ) (a b : Held) → IsConsistent s → held_under s o ≡ Some a → held_under s p ≡ Some b → is_word (layout_at s a.cache) i ≡ true → is_word (layout_at s b.cache) j ≡ true → word_at (layout_at s a.cache) a i ≡ word_at (layout_at s b.cache) b j → (a.frame ≡ b.frame) × (a.index ≡ b.index)
words-differ s o p i j a b consistent is_a is_b word_a word_b same =
    let x = held-slab s o a is_a consistent in
    let y = held-slab s p b is_b consistent in
    let c : layout_at s a.cache ≡ layout_at s x.0.cache = ap (layout_at s) (sym x.2) in
    let d : layout_at s b.cache ≡ layout_at s y.0.cache = ap (layout_at s) (sym y.2) in
    slots-apart s a.frame a.index b.frame b.index (8 * word_at (layout_at s y.0.cache) b j) x.0 y.0 consistent x.1 y.1 x.3 y.3
    (subst (λ n. IsInSlot a.frame a.index (layout_at s x.0.cache) (8 * n)) (ap (λ l. word_at l a i) (sym c) ∙ same ∙ ap (λ l. word_at l b j) d) (word-in s a.frame a.index i x.0 a consistent x.1 refl refl (ap (λ l. is_word l i) (sym c) ∙ word_a)))
    (word-in s b.frame b.index j y.0 b consistent y.1 refl refl (ap (λ l. is_word l j) (sym d) ∙ word_b))

-- ---- what slabs have

-- a slab has an object, and at most 512
pub objects-few : (s : State) (f : ℕ) (x : Slab) → IsConsistent s → slab_of s f ≡ Some x → (1 ≤ x.objects) × (x.objects ≤ 512)
objects-few s f x consistent is =
    let live = live-of-slab s f x consistent is in
    elim (sized-of-slab s f x consistent is) [
      | inl wide ↦ (omega (arith, wide.1, live.1.made.objects), omega (arith, wide.1, live.1.made.objects))
      | inr least ↦ (omega (arith, least.1, live.1.made.min_objects_slab), omega (arith, least.1, live.1.made.min_objects_slab, live.1.made.objects))
    ]

-- an object that is somewhere is one of a slab
pub object-of : (s : State) (f i : ℕ) → 1 ≤ has_object i (slab_of s f) → (x : Slab) × (slab_of s f ≡ Some x) × (i < x.objects)
object-of s f i some = go (slab_of s f) refl some
  where
    go : (o : Option Slab) → slab_of s f ≡ o → 1 ≤ has_object i o → (x : Slab) × (slab_of s f ≡ Some x) × (i < x.objects)
    go None e some = absurd (omega arith)
    go (Some x) e some = (x, e, grind (arith, nat_tests, some))

-- an object is on its slab's own freelist once at most, and nothing else is
pub own-once : (s : State) (f i : ℕ) → IsConsistent s → times i (own_free s f) ≤ has_object i (slab_of s f)
own-once s f i consistent = omega (arith, consistent.placed f i)

pub own-object : (s : State) (f i : ℕ) → IsConsistent s → 1 ≤ times i (own_free s f) → (x : Slab) × (slab_of s f ≡ Some x) × (i < x.objects)
own-object s f i consistent some = object-of s f i (omega (arith, own-once s f i consistent))

pub own-none : (s : State) (f : ℕ) → IsConsistent s → slab_of s f ≡ None → own_free s f ≡ []
own-none s f consistent none = empty_list (own_free s f) (λ i. let e : has_object i (slab_of s f) ≡ 0 = ap (has_object i) none in omega (arith, own-once s f i consistent, e))
  where
    empty_list : (xs : List ℕ) → ((i : ℕ) → times i xs ≡ 0) → xs ≡ []
    empty_list [] none = refl
    empty_list (x ∷ xs) none = absurd (omega (arith, none x, times-cons x x xs, current-same x x 1 refl))

pub own-length : (s : State) (f : ℕ) (x : Slab) → IsConsistent s → slab_of s f ≡ Some x → length (own_free s f) ≤ x.objects
own-length s f x consistent is =
    once-length x.objects (own_free s f) (λ i. let e : has_object i (slab_of s f) ≡ cond (nat_lt i x.objects) 1 0 = ap (has_object i) is in omega (arith, own-once s f i consistent, e))

-- ---- checked slabs

-- a slab of a checked cache has no freelist here
pub own-checked : (s : State) (f : ℕ) (x : Slab) (c : CheckedState) → IsConsistent s → slab_of s f ≡ Some x → checked_of s x.cache ≡ Some c → own_free s f ≡ []
own-checked s f x c consistent is was = by (slab_of s f) is ((was-checked s x.cache c c was consistent.shaped.checked).unfree f)
  where
    by : (o : Option Slab) → o ≡ Some x → MatchOption o (Unit {0}) (λ slab. slab.cache ≡ x.cache → own_free s f ≡ []) → own_free s f ≡ []
    by None e h = absurd (cc e)
    by (Some y) e h = h (ap cache_in e)
      where
        cache_in : Option Slab → ℕ
        cache_in None = 0
        cache_in (Some z) = z.cache

-- it is there among the cache's slabs
checked-there : (s : State) (f : ℕ) (x : Slab) (c : CheckedState) → IsConsistent s → slab_of s f ≡ Some x → checked_of s x.cache ≡ Some c → IsSome (get_or c.slabs f None)
checked-there s f x c consistent is was = has (get_or c.slabs f None) (subst (λ y. Agrees x.cache y (shape_at c f)) is ((was-checked s x.cache c c was consistent.shaped.checked).agrees f))
  where
    has : (o : Option SlabState) → Agrees x.cache (Some x) (option_map shape_of o) → IsSome o
    has None e = absurd (e refl)
    has (Some y) e = refl

-- it is not frozen, and on no list
pub checked-unfrozen : (s : State) (f : ℕ) (x : Slab) (c : CheckedState) → IsConsistent s → slab_of s f ≡ Some x → checked_of s x.cache ≡ Some c
    → (x.frozen ≡ false) × (times_current s f + times_partial s f ≡ 0)
checked-unfrozen s f x c consistent is was =
    let none = going-unlisted s x.cache f c was (checked-there s f x c consistent is was) consistent in
    (unfrozen x.frozen (at_some (slab_of s f) x (λ slab. IsTrue slab.frozen ↔ (0 < times_current s f)) is (consistent.listed.frozen f)) none, none)
  where
    unfrozen : (b : Bool) → (IsTrue b ↔ (0 < times_current s f)) → times_current s f + times_partial s f ≡ 0 → b ≡ false
    unfrozen false h e = refl
    unfrozen true h e = absurd (let t : 0 < times_current s f = h.0 refl in omega arith)

-- ---- current and listed slabs

the-slab : (o : Option Slab) → IsSome o → (x : Slab) × (o ≡ Some x)
the-slab None e = absurd (cc e)
the-slab (Some x) e = (x, refl)

never-some : {X : Type 0} (o : Option X) → ((x : X) → o ≡ Some x → ⊥) → o ≡ None
never-some None never = refl
never-some (Some x) never = absurd (never x refl)

-- what a CPU allocates from
pub current-is : (s : State) (cache cpu f : ℕ) → IsConsistent s → cpu < s.cpus → (lists_of s cache cpu).current ≡ Some f → IsCurrent s cache f
current-is s cache cpu f consistent within is =
    let some = current-counted-at s f (cpu_place s cache cpu) is in
    let x = the-slab (slab_of s f) (consistent.listed.live f (omega (arith, some))) in
    record {
      slab = x.0;
      there = x.1;
      own = at_some (slab_of s f) x.0 (λ slab. slab.cache ≡ cache) x.1 (consistent.listed.of_current cache cpu f within is);
      frozen = (at_some (slab_of s f) x.0 (λ slab. IsTrue slab.frozen ↔ (0 < times_current s f)) x.1 (consistent.listed.frozen f)).1 some;
      unchecked = never-some (checked_of s cache) (λ c was. cc (is, ap (λ (l : CpuLists). l.current) ((was-checked s cache c c was consistent.shaped.checked).unlisted cpu within)));
    }

-- what is on a partial list
pub listed-is : (s : State) (f : ℕ) → IsConsistent s → 0 < times_partial s f → (x : Slab) × (slab_of s f ≡ Some x) × (checked_of s x.cache ≡ None)
listed-is s f consistent some =
    let x = the-slab (slab_of s f) (consistent.listed.live f (omega (arith, some))) in
    (x.0, x.1, never-some (checked_of s x.0.cache) (λ c was. let off = (checked-unfrozen s f x.0 c consistent x.1 was).1 in let never : ⊥ = omega (arith, off, some) in never))

-- ---- the laws

pub one-object-a-byte : (s : State) (f i g j byte : ℕ) → IsConsistent s → IsByteOf s f i byte → IsByteOf s g j byte → (f ≡ g) × (i ≡ j)
one-object-a-byte s f i g j byte consistent one other = slots-apart s f i g j byte one.slab other.slab consistent one.there other.there one.below other.below one.inside other.inside

pub slab-within : (s : State) (f : ℕ) (x : Slab) → IsConsistent s → slab_of s f ≡ Some x → IsWithin s f x
slab-within s f x consistent is =
    let last : covers (f + 2 ^ x.order - 1) f (Some x) ≡ 1 = grind (arith, nat_tests, pow_pos x.order) in
    record {
      above = (slab-inside s f x consistent is).0;
      below = omega (arith, (covered-inside s (f + 2 ^ x.order - 1) f x consistent is last).1, pow_pos x.order);
      order = order-of-slab s f x consistent is;
      objects = objects-few s f x consistent is;
    }

pub checked-off : (s : State) (f : ℕ) (x : Slab) → IsConsistent s → slab_of s f ≡ Some x → IsSome (checked_of s x.cache) → IsOff s f x
checked-off s f x consistent is some = by (checked_of s x.cache) refl some
  where
    by : (o : Option CheckedState) → checked_of s x.cache ≡ o → IsSome o → IsOff s f x
    by None e some = absurd (cc some)
    by (Some c) e some = record {
      unfrozen = (checked-unfrozen s f x c consistent is e).0;
      unlisted = (checked-unfrozen s f x c consistent is e).1;
      unfree = own-checked s f x c consistent is e;
    }
