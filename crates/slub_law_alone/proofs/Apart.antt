-- An object that a number names has its free pointer for itself: no freelist and no other object's word is there.
use Rattle.std.proofs.Common.{◌≡◌, ℕ, ◌*◌, ◌/◌, ◌<◌, ◌≤◌, eqb, true, List, [], ◌∷◌, length, Option, Some, None, inl, inr, refl, ap, sym, ◌∙◌, subst, arith}
use Rattle.std.specs.Prelude.{nat_lt, is_some}
use Rattle.std.proofs.lemmas.Bool.{cases_eq, cases_Bool, eq-eqb, cond-true, cond-false, ne_eqb, lt-ltb, cond_both}
use Rattle.slub_common.specs.Times.{times}
use Rattle.slub_words.specs.declared.cpu.CpuWord.{CpuWord}
use Rattle.slub_words.specs.declared.slab.SlabWord.{SlabWord}
use Rattle.slub_lists.specs.declared.lists.Slab.{Slab}
use Rattle.slub_lists.specs.declared.lists.Held.{Held}
use Rattle.slub_lists.specs.State.{State}
use Rattle.slub_lists.specs.Alloc.{slab_of, own_free, checked_of}
use Rattle.slub_lists.specs.Coherent.{IsConsistent, held_under}
use Rattle.slub_lists.specs.Places.{layout_at, pointer_at}
use Rattle.slub_lists.specs.Words.{is_word, word_at}
use Rattle.slub_lists.proofs.Apart.{one-number}
use Rattle.slub_lists.proofs.CheckedTaking.{held-slab}
use Rattle.slub_lists.proofs.Places.{covered-inside, own-object, pointers-apart, slot-covered, word-in, words-apart}
use Rattle.slub_lists.proofs.Taking.{held-once}
use Rattle.slub_core.specs.Setup.{Setup, hardened, pointer_at as pointer_in}
use Rattle.slub_core.specs.Local.{Local}
use Rattle.slub_core.specs.World.{World, Chains, update, pointer, objects_at, cache_at, order_at, one_if, IsChain}
use Rattle.slub_core.specs.Listed.{IsShaped}
use Rattle.slub_core.proofs.Exists.{plain-live}
use Rattle.slub_core.proofs.Chains.{Leads-same}
use Rattle.slub_core.proofs.Lists.{times-first}
use Rattle.slub_core.proofs.Update.{update_other}
use Rattle.slub_core.proofs.StepValues.{word-objects, word-cache}
use Rattle.slub_law_opening.specs.Opening.{Beside, cpu_at}
use Rattle.slub_law_opening.specs.Rests.{Rests}
use Rattle.slub_law_opening.proofs.Cpus.{current-at, cpu-alone, cpu-bare, cpu-object}
use Rattle.slub_law_alone.proofs.Bits.{object_once}

pub times_length : (j : ℕ) (xs : List ℕ) → times j xs ≤ length xs
times_length j [] = omega arith
times_length j (x ∷ xs) = let r = times_length j xs in let c = times-first j x xs in let b : one_if (eqb x j) ≤ 1 = cond_both (eqb x j) 1 0 (λ n. n ≤ 1) (λ e. omega arith) (λ e. omega arith) in omega arith

-- the slab of a word
pub record IsSlabAt (s : State) (w : World) (f : ℕ) : Type 0 where
  pub slab : Slab
  pub there : slab_of s f ≡ Some slab
  pub cache : slab.cache ≡ (w.slab f).cache
  pub objects : slab.objects ≡ (w.slab f).objects
  pub frozen : slab.frozen ≡ (w.slab f).frozen

pub slab_word : (s : State) (b : Beside) (w : World) (ls : List Local) → Rests s b w ls → (f : ℕ) → 1 ≤ (w.slab f).objects → IsSlabAt s w f
slab_word s b w ls rests f some =
    let n = word-objects w f some in
    let x : Slab = record { cache = cache_at w f; order = order_at w f; objects = objects_at w f; frozen = (w.slab f).frozen } in
    record {
      slab = x;
      there = rests.slab f ∙ cond-true {A = Option Slab} (nat_lt 0 (objects_at w f)) (Some x) None (lt-ltb 0 (objects_at w f) (omega arith));
      cache = word-cache w f some;
      objects = n;
      frozen = refl;
    }

-- a slab of an unchecked cache has a word
pub plain_word : (s : State) (b : Beside) (w : World) (ls : List Local) (y : Chains) → Rests s b w ls → IsShaped w y → (f i : ℕ) (x : Slab) → slab_of s f ≡ Some x → i < x.objects → checked_of s x.cache ≡ None → 1 ≤ (w.slab f).objects
plain_word s b w ls y rests shaped f i x there below plain = elim (cases_Bool (nat_lt 0 (objects_at w f))) [
  | inr none ↦ absurd (let e = cond-false {A = Option Slab} (nat_lt 0 (objects_at w f)) (Some at_it) None none in cc (there, rests.slab f, e))
  | inl some ↦
      let e : at_it ≡ x = injected (sym (cond-true {A = Option Slab} (nat_lt 0 (objects_at w f)) (Some at_it) None some) ∙ sym (rests.slab f) ∙ there) in
      let cache : cache_at w f ≡ x.cache = ap (λ (x : Slab). x.cache) e in
      let objects : objects_at w f ≡ x.objects = ap (λ (x : Slab). x.objects) e in
      plain-live w y f i shaped (ap (λ (m : Setup). m.checks (cache_at w f)) rests.setup ∙ ap (λ k. is_some (checked_of s k)) cache ∙ ap is_some plain)
      (let o : one_if (nat_lt i (objects_at w f)) ≡ 1 = ap one_if (lt-ltb i (objects_at w f) (omega (arith, objects, below))) in omega arith)
]
  where
    at_it : Slab
    at_it = record { cache = cache_at w f; order = order_at w f; objects = objects_at w f; frozen = (w.slab f).frozen }

    injected : {x y : Slab} → Some x ≡ Some y → x ≡ y
    injected e = cc

-- the word is an object's own: it is no free pointer of another object
abbrev pub IsOwn : State → Held → ℕ → Type 0
IsOwn s h p = (g i : ℕ) (y : Slab) → slab_of s g ≡ Some y → i < y.objects → pointer_at (layout_at s y.cache) g i ≡ p → (g ≡ h.frame) × (i ≡ h.index)

-- so is its free pointer, and each word of it
pub pointer_own : (s : State) (o : ℕ) (h : Held) → IsConsistent s → held_under s o ≡ Some h → IsOwn s h (pointer_at (layout_at s h.cache) h.frame h.index)
pointer_own s o h consistent is g i y there below same =
    let slab = held-slab s o h is consistent in
    pointers-apart s g i h.frame h.index y slab.0 consistent there slab.1 below slab.3 (same ∙ ap (λ k. pointer_at (layout_at s k) h.frame h.index) (sym slab.2))

pub word_own : (s : State) (o word : ℕ) (h : Held) → IsConsistent s → held_under s o ≡ Some h → is_word (layout_at s h.cache) word ≡ true → IsOwn s h (word_at (layout_at s h.cache) h word)
word_own s o word h consistent is inside g i y there below same = let e = words-apart s o word h g i y consistent is inside there below (sym same) in (sym e.0, sym e.1)

-- a word of an object is a word of memory
pub word_inside : (s : State) (o word : ℕ) (h : Held) → IsConsistent s → held_under s o ≡ Some h → is_word (layout_at s h.cache) word ≡ true → word_at (layout_at s h.cache) h word < 512 * s.frames
word_inside s o word h consistent is inside =
    let slab = held-slab s o h is consistent in
    let p = word_at (layout_at s slab.0.cache) h word in
    let there = covered-inside s (8 * p / 4096) h.frame slab.0 consistent slab.1 (slot-covered s h.frame h.index (8 * p) slab.0 consistent slab.1 slab.3
    (word-in s h.frame h.index word slab.0 h consistent slab.1 refl refl (subst (λ k. is_word (layout_at s k) word ≡ true) (sym slab.2) inside))) in
    subst (λ k. word_at (layout_at s k) h word < 512 * s.frames) slab.2 (omega (arith, there.1))

-- a word of another object is not the free pointer
pub word_apart : (s : State) (o : ℕ) (h : Held) → IsConsistent s → held_under s o ≡ Some h → (q word : ℕ) (g : Held) → held_under s q ≡ Some g → (q ≡ o → ⊥) → is_word (layout_at s g.cache) word ≡ true → word_at (layout_at s g.cache) g word ≡ pointer_at (layout_at s h.cache) h.frame h.index → ⊥
word_apart s o h consistent is q word g there away inside same =
    let slab = held-slab s o h is consistent in
    let e = words-apart s q word g h.frame h.index slab.0 consistent there inside slab.1 slab.3 (same ∙ ap (λ k. pointer_at (layout_at s k) h.frame h.index) (sym slab.2)) in
    away (one-number s q o g h there is e.0 e.1 consistent)

module _ (s : State) (o : ℕ) (h : Held) (consistent : IsConsistent s) (is : held_under s o ≡ Some h) (p : ℕ) (mine : IsOwn s h p) where
  pub cpu_apart : (n j f : ℕ) → (cpu_at s n).current ≡ Some f → 1 ≤ times j (cpu_at s n).free → pointer_at (layout_at s (n / 16)) f j ≡ p → ⊥
  cpu_apart n j f current some same =
      let there = current-at s n f consistent current in
      let e = mine f j there.slab there.there (cpu-object s n f j consistent current some) (ap (λ k. pointer_at (layout_at s k) f j) there.own ∙ same) in
      let once = held-once s o h consistent is in
      let t = cpu-alone s n h.frame h.index consistent (current ∙ ap Some e.0) in
      let here : 1 ≤ times h.index (cpu_at s n).free = subst (λ j. 1 ≤ times j (cpu_at s n).free) e.1 some in
      omega (arith, once, t, here, object_once h.index (slab_of s h.frame))

  pub own_apart : (g j : ℕ) (y : Slab) → slab_of s g ≡ Some y → 1 ≤ times j (own_free s g) → pointer_at (layout_at s y.cache) g j ≡ p → ⊥
  own_apart g j y there some same =
      let r = own-object s g j consistent some in
      let one : r.0 ≡ y = injected (sym r.1 ∙ there) in
      let e = mine g j y there (subst (λ (z : Slab). j < z.objects) one r.2) same in
      let once = held-once s o h consistent is in
      let here : 1 ≤ times h.index (own_free s h.frame) = subst (λ j. 1 ≤ times j (own_free s h.frame)) e.1 (subst (λ g. 1 ≤ times j (own_free s g)) e.0 some) in
      omega (arith, once, consistent.placed h.frame h.index, here, object_once h.index (slab_of s h.frame))
    where
      injected : {x y : Slab} → Some x ≡ Some y → x ≡ y
      injected e = cc

  -- ---- in words

  module _ (b : Beside) (w : World) (ls : List Local) (rests : Rests s b w ls) (cpu : ℕ → CpuWord) (words : ℕ → SlabWord) (value : ℕ) where
    abbrev pub v : World
    v = record w { cpu = cpu; slab = words; memory = update w.memory p value }

    other : (k f j : ℕ) → (pointer_at (layout_at s k) f j ≡ p → ⊥) → pointer v k f j ≡ pointer w k f j
    other k f j away =
        let q = pointer_in w.setup k f j in
        ap (hardened k q) (update_other w.memory p value q (λ e. away (sym (ap (λ (m : Setup). pointer_in m k f j) rests.setup) ∙ e)))

    -- each CPU's freelist stands as it did
    pub cpu_stands : (n : ℕ) → n < 512 → IsChain (pointer v (n / 16) (w.cpu n).frame) (w.cpu n).head (cpu_at s n).free
    cpu_stands n below =
        let c = rests.cpu n below in
        Leads-same (pointer w (n / 16) (w.cpu n).frame) (pointer v (n / 16) (w.cpu n).frame) (w.cpu n).head (cpu_at s n).free 0
        (λ j some. other (n / 16) (w.cpu n).frame j (cpu_apart n j (w.cpu n).frame (current n below j some) some)) c.free
      where
        current : (n : ℕ) → n < 512 → (j : ℕ) → 1 ≤ times j (cpu_at s n).free → (cpu_at s n).current ≡ Some (w.cpu n).frame
        current n below j some = elim (cases_eq (w.cpu n).frame 0) [
          | inl z ↦ absurd (
              let none : (cpu_at s n).current ≡ None = (rests.cpu n below).current ∙ cond-true {A = Option ℕ} (eqb (w.cpu n).frame 0) None (Some (w.cpu n).frame) (eq-eqb (w.cpu n).frame 0 z) in
              let nothing : times j (cpu_at s n).free ≡ 0 = ap (times j) (cpu-bare s n consistent none) in
              omega arith)
          | inr away ↦ (rests.cpu n below).current ∙ cond-false {A = Option ℕ} (eqb (w.cpu n).frame 0) None (Some (w.cpu n).frame) (ne_eqb (w.cpu n).frame 0 away)
        ]

    -- so does each slab's own
    pub own_stands : (f : ℕ) → IsChain (pointer v (w.slab f).cache f) (w.slab f).head (own_free s f)
    own_stands f =
        let r = rests.own f in
        Leads-same (pointer w (w.slab f).cache f) (pointer v (w.slab f).cache f) (w.slab f).head (own_free s f) 0 (λ j some. other (w.slab f).cache f j (λ e. at_word j some e)) r.chain
      where
        at_word : (j : ℕ) → 1 ≤ times j (own_free s f) → pointer_at (layout_at s (w.slab f).cache) f j ≡ p → ⊥
        at_word j some e =
            let r = own-object s f j consistent some in
            let u = (rests.own f).in_use in
            let l = times_length j (own_free s f) in
            let x = slab_word s b w ls rests f (omega arith) in
            own_apart f j x.slab x.there some (ap (λ k. pointer_at (layout_at s k) f j) x.cache ∙ e)
