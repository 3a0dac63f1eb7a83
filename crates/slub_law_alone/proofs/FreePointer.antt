-- An object on a CPU's freelist has its free pointer for itself: where another pointer is stored there, all other freelists and words of objects stand as they did.
use Rattle.std.proofs.Common.{◌≡◌, ℕ, ◌/◌, ◌<◌, ◌≤◌, eqb, true, List, length, Option, Some, None, inl, inr, ap, sym, ◌∙◌, subst, arith, sum_by}
use Rattle.std.proofs.lemmas.Bool.{cases_eq, eq-eqb, ne_eqb, cond-true, cond-false}
use Rattle.slub_common.specs.Times.{times}
use Rattle.slub_words.specs.declared.cpu.CpuWord.{CpuWord}
use Rattle.slub_words.specs.declared.slab.SlabWord.{SlabWord}
use Rattle.slub_lists.specs.declared.lists.Slab.{Slab}
use Rattle.slub_lists.specs.declared.lists.Held.{Held}
use Rattle.slub_lists.specs.State.{State}
use Rattle.slub_lists.specs.Alloc.{slab_of, own_free, held_here}
use Rattle.slub_lists.specs.Coherent.{IsConsistent, held_under}
use Rattle.slub_lists.specs.Places.{IsCurrent, layout_at, pointer_at}
use Rattle.slub_lists.specs.Words.{is_word, word_at}
use Rattle.slub_lists.proofs.Places.{own-object, pointer-inside, pointers-apart, words-apart}
use Rattle.slub_lists.proofs.Taking.{held-once}
use Rattle.slub_core.specs.Setup.{Setup, hardened, pointer_at as pointer_in}
use Rattle.slub_core.specs.Local.{Local}
use Rattle.slub_core.specs.World.{World, update, pointer, IsChain}
use Rattle.slub_core.proofs.Chains.{Leads-same}
use Rattle.slub_core.proofs.Update.{update_same, update_other}
use Rattle.slub_law_opening.specs.Opening.{Beside, cpu_at}
use Rattle.slub_law_opening.specs.Rests.{KeepsWord, Rests}
use Rattle.slub_law_opening.proofs.Cpus.{current-at, cpu-alone, cpu-bare, cpu-object, currents-apart}
use Rattle.slub_law_opening.proofs.Rows.{comes-back}
use Rattle.slub_law_alone.proofs.Apart.{slab_word, times_length}
use Rattle.slub_law_alone.proofs.Bits.{object_once}

module _ (s : State) (n k f i : ℕ) (number : n / 16 ≡ k) (consistent : IsConsistent s) (current : (cpu_at s n).current ≡ Some f) (some : 1 ≤ times i (cpu_at s n).free) where
  abbrev p : ℕ
  p = pointer_at (layout_at s k) f i

  abbrev at_cpu : IsCurrent s (n / 16) f
  at_cpu = current-at s n f consistent current

  own_cache : at_cpu.slab.cache ≡ k
  own_cache = at_cpu.own ∙ number

  below : i < at_cpu.slab.objects
  below = cpu-object s n f i consistent current some

  mine : (g j : ℕ) (y : Slab) → slab_of s g ≡ Some y → j < y.objects → pointer_at (layout_at s y.cache) g j ≡ p → (g ≡ f) × (j ≡ i)
  mine g j y there under same = pointers-apart s g j f i y at_cpu.slab consistent there at_cpu.there under below (same ∙ ap (λ k. pointer_at (layout_at s k) f i) (sym own_cache))

  -- it is a word of memory
  pub pointer_there : p < length s.memory
  pointer_there = subst (λ k. pointer_at (layout_at s k) f i < length s.memory) own_cache (pointer-inside s f i at_cpu.slab consistent at_cpu.there below)

  cpu_apart : (q j g : ℕ) → (cpu_at s q).current ≡ Some g → 1 ≤ times j (cpu_at s q).free → pointer_at (layout_at s (q / 16)) g j ≡ p → (q ≡ n) × (j ≡ i)
  cpu_apart q j g is has same =
      let there = current-at s q g consistent is in
      let e = mine g j there.slab there.there (cpu-object s q g j consistent is has) (ap (λ k. pointer_at (layout_at s k) g j) there.own ∙ same) in
      (elim (cases_eq q n) [ inl e ↦ e | inr d ↦ absurd (currents-apart s q n f consistent (is ∙ ap Some e.0) current d) ], e.1)

  own_apart : (g j : ℕ) (y : Slab) → slab_of s g ≡ Some y → 1 ≤ times j (own_free s g) → pointer_at (layout_at s y.cache) g j ≡ p → ⊥
  own_apart g j y there has same =
      let r = own-object s g j consistent has in
      let one : r.0 ≡ y = injected (sym r.1 ∙ there) in
      let e = mine g j y there (subst (λ (z : Slab). j < z.objects) one r.2) same in
      let t = cpu-alone s n f i consistent current in
      let here : 1 ≤ times i (own_free s f) = subst (λ j. 1 ≤ times j (own_free s f)) e.1 (subst (λ g. 1 ≤ times j (own_free s g)) e.0 has) in
      omega (arith, some, t, here, object_once i (slab_of s f))
    where
      injected : {x y : Slab} → Some x ≡ Some y → x ≡ y
      injected e = cc

  held_apart : (o word : ℕ) (h : Held) → held_under s o ≡ Some h → is_word (layout_at s h.cache) word ≡ true → word_at (layout_at s h.cache) h word ≡ p → ⊥
  held_apart o word h there inside same =
      let e = words-apart s o word h f i at_cpu.slab consistent there inside at_cpu.there below (same ∙ ap (λ k. pointer_at (layout_at s k) f i) (sym own_cache)) in
      let once = held-once s o h consistent there in
      let t = cpu-alone s n f i consistent current in
      let on : 0 < sum_by (held_here f i) s.board = subst (λ i. 0 < sum_by (held_here f i) s.board) e.1 (subst (λ g. 0 < sum_by (held_here g h.index) s.board) e.0 once) in
      omega (arith, on, t, some, object_once i (slab_of s f))

  -- ---- in words

  module _ (b : Beside) (w : World) (ls : List Local) (rests : Rests s b w ls) (cpu : ℕ → CpuWord) (words : ℕ → SlabWord) (value : ℕ) where
    abbrev v : World
    v = record w { cpu = cpu; slab = words; memory = update w.memory p value }

    other : (k g j : ℕ) → (pointer_at (layout_at s k) g j ≡ p → ⊥) → pointer v k g j ≡ pointer w k g j
    other k g j away =
        let q = pointer_in w.setup k g j in
        ap (hardened k q) (update_other w.memory p value q (λ e. away (sym (ap (λ (m : Setup). pointer_in m k g j) rests.setup) ∙ e)))

    -- the freelist of any other CPU
    pub cpu_stays : (q : ℕ) → q < 512 → (q ≡ n → ⊥) → IsChain (pointer v (q / 16) (w.cpu q).frame) (w.cpu q).head (cpu_at s q).free
    cpu_stays q under away =
        let c = rests.cpu q under in
        Leads-same (pointer w (q / 16) (w.cpu q).frame) (pointer v (q / 16) (w.cpu q).frame) (w.cpu q).head (cpu_at s q).free 0
        (λ j has. other (q / 16) (w.cpu q).frame j (λ same. away (cpu_apart q j (w.cpu q).frame (current_of j has) has same).0)) c.free
      where
        current_of : (j : ℕ) → 1 ≤ times j (cpu_at s q).free → (cpu_at s q).current ≡ Some (w.cpu q).frame
        current_of j has = elim (cases_eq (w.cpu q).frame 0) [
          | inl z ↦ absurd (
              let none : (cpu_at s q).current ≡ None = (rests.cpu q under).current ∙ cond-true {A = Option ℕ} (eqb (w.cpu q).frame 0) None (Some (w.cpu q).frame) (eq-eqb (w.cpu q).frame 0 z) in
              let nothing : times j (cpu_at s q).free ≡ 0 = ap (times j) (cpu-bare s q consistent none) in
              omega (arith, nothing, has))
          | inr d ↦ (rests.cpu q under).current ∙ cond-false {A = Option ℕ} (eqb (w.cpu q).frame 0) None (Some (w.cpu q).frame) (ne_eqb (w.cpu q).frame 0 d)
        ]

    -- each slab's own
    pub own_stays : (g : ℕ) → IsChain (pointer v (w.slab g).cache g) (w.slab g).head (own_free s g)
    own_stays g =
        let r = rests.own g in
        Leads-same (pointer w (w.slab g).cache g) (pointer v (w.slab g).cache g) (w.slab g).head (own_free s g) 0 (λ j has. other (w.slab g).cache g j (λ e. at_word j has e)) r.chain
      where
        at_word : (j : ℕ) → 1 ≤ times j (own_free s g) → pointer_at (layout_at s (w.slab g).cache) g j ≡ p → ⊥
        at_word j has e =
            let u = (rests.own g).in_use in
            let l = times_length j (own_free s g) in
            let x = slab_word s b w ls rests g (omega (arith, u, l, has)) in
            own_apart g j x.slab x.there has (ap (λ k. pointer_at (layout_at s k) g j) x.cache ∙ e)

    -- the other objects of this freelist
    pub free_stays : (j : ℕ) → 1 ≤ times j (cpu_at s n).free → (j ≡ i → ⊥) → pointer v k f j ≡ pointer w k f j
    free_stays j has away = other k f j (λ same. away (cpu_apart n j f current has (ap (λ k. pointer_at (layout_at s k) f j) number ∙ same)).1)

    -- the words of objects that are held
    pub words_stay : (o word : ℕ) (h : Held) → held_under s o ≡ Some h → KeepsWord s v h word
    words_stay o word h there plain inside =
        update_other w.memory p value (word_at (layout_at s h.cache) h word) (held_apart o word h there inside) ∙ rests.contents o word h there plain inside

  -- what is stored there is read there
  pub stored_leads : (b : Beside) (w : World) (ls : List Local) → Rests s b w ls → (to : ℕ) → pointer (record w { memory = update w.memory p (hardened k p to) }) k f i ≡ to
  stored_leads b w ls rests to =
      ap (λ (m : Setup). hardened k (pointer_in m k f i) (update w.memory p (hardened k p to) (pointer_in m k f i))) rests.setup ∙ ap (hardened k p) (update_same w.memory p (hardened k p to)) ∙ comes-back k p to
