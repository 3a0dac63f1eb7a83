-- Slabs that come off their node list and go to the front of a CPU's partial list, one after the other: their words, their links and the list word.
use Rattle.std.proofs.Common.{◌≡◌, ℕ, ◌+◌, ◌≤◌, eqb, List, [], ◌∷◌, length, inl, inr, refl, ap, sym, ◌∙◌, subst, arith}
use mathlib.Core.List.{reverse_aux}
use Rattle.std.proofs.lemmas.Bool.{cases_eq, eq-eqb, ne_eqb}
use Rattle.slub_common.specs.Times.{times}
use Rattle.slub_words.specs.declared.slab.SlabWord.{SlabWord}
use Rattle.slub_cpu_partial.specs.declared.words.ListWord.{ListWord}
use Rattle.slub_core.specs.Alloc.{unlisted_word}
use Rattle.slub_core.specs.Words.{slab_in}
use Rattle.slub_core.specs.World.{World, update, Links, one_if}
use Rattle.slub_core.proofs.Lists.{times-first}
use Rattle.slub_core.proofs.Packed.{IsSlabFit}
use Rattle.slub_core.proofs.Update.{update_at, update_same, update_other, each_updated}
use Rattle.slub_law_alone.proofs.FullFreed.{links_same}
use Rattle.slub_law_alone.proofs.InPlace.{update_back}
use Rattle.slub_law_alone.proofs.OwnTaken.{update_twice}

-- ---- in general

-- a function that is changed to what it was
update_kept : {A : Type 0} (g : ℕ → A) (n : ℕ) (v : A) → g n ≡ v → update g n v ≡ g
update_kept g n v was = sym (update_twice g n v v) ∙ update_back g n v v was

-- what a slab word says fits into one
pub slab_fits : (x : ℕ) → IsSlabFit (slab_in x)
unfolding slab_in
slab_fits x = (omega arith, omega arith, omega arith, omega arith)

-- a slab that is none of these is not the first of them
off_first : (g a : ℕ) (gs : List ℕ) → times g (a ∷ gs) ≡ 0 → (g ≡ a → ⊥) × (times g gs ≡ 0)
off_first g a gs none =
    let t = times-first g a gs in
    (λ e. absurd (let o : one_if (eqb a g) ≡ 1 = ap one_if (eq-eqb a g (sym e)) in omega (arith, t, o, none)), omega (arith, t, none))

pub first_of : (a : ℕ) (gs : List ℕ) → times a (a ∷ gs) ≡ 1 + times a gs
first_of a gs = let t = times-first a a gs in let o : one_if (eqb a a) ≡ 1 = ap one_if (eq-eqb a a refl) in omega (arith, t, o)

-- ---- what is left of words

-- each of the slabs has no mark any more
abbrev pub unlisted_all : (ℕ → SlabWord) → List ℕ → ℕ → SlabWord
unlisted_all words [] = words
unlisted_all words (g ∷ gs) = unlisted_all (update words g (unlisted_word (words g))) gs

-- each is linked to the one before it, and the first to the front of the list
abbrev pub linked_all : (ℕ → ℕ) → ℕ → List ℕ → ℕ → ℕ
linked_all link front [] = link
linked_all link front (g ∷ gs) = linked_all (update link g front) g gs

-- the list word is that of a list to whose front they went
abbrev pub pushed_all : ListWord → List ℕ → ListWord
pushed_all list [] = list
pushed_all list (g ∷ gs) = pushed_all (record { front = g; count = list.count + 1 }) gs

-- the list word of this number was such a word, and its slabs are pushed
abbrev pub pushed_world : ℕ → World → ListWord → List ℕ → World
pushed_world n w list gs = record w { list = update w.list n (pushed_all list gs); slab = unlisted_all w.slab gs; link = linked_all w.link list.front gs }

pub pushed_none : (n : ℕ) (w : World) (list : ListWord) → w.list n ≡ list → w ≡ pushed_world n w list []
pushed_none n w list is = λ i. record w { list = sym (update_kept w.list n list is) i }

pub pushed_more : (n : ℕ) (w : World) (list : ListWord) (g : ℕ) (gs : List ℕ) → let longer : ListWord = record { front = g; count = list.count + 1 } in
    pushed_world n (record w { list = update w.list n longer; slab = update w.slab g (unlisted_word (w.slab g)); link = update w.link g list.front }) longer gs ≡ pushed_world n w list (g ∷ gs)
pushed_more n w list g gs = λ i. record w { list = update_twice w.list n (record { front = g; count = list.count + 1 }) (pushed_all (record { front = g; count = list.count + 1 }) gs) i; slab = unlisted_all w.slab (g ∷ gs); link = linked_all w.link list.front (g ∷ gs) }

-- ---- slab words

unlisted_out : (words : ℕ → SlabWord) (gs : List ℕ) (g : ℕ) → times g gs ≡ 0 → unlisted_all words gs g ≡ words g
unlisted_out words [] g none = refl
unlisted_out words (a ∷ gs) g none =
    let off = off_first g a gs none in
    unlisted_out (update words a (unlisted_word (words a))) gs g off.1 ∙ update_other words a (unlisted_word (words a)) g off.0

unlisted_in : (words : ℕ → SlabWord) (gs : List ℕ) (g : ℕ) → 1 ≤ times g gs → unlisted_all words gs g ≡ unlisted_word (words g)
unlisted_in words [] g some = absurd (let none : times g [] ≡ 0 = refl in omega (arith, some, none))
unlisted_in words (a ∷ gs) g some = elim (cases_eq (times g gs) 0) [
  | inr more ↦ unlisted_in (update words a (unlisted_word (words a))) gs g (omega (arith, more)) ∙ each_updated words a (unlisted_word (words a)) (λ g (c : SlabWord). unlisted_word c ≡ unlisted_word (words g)) refl (λ g away. refl) g
  | inl none ↦ unlisted_out (update words a (unlisted_word (words a))) gs g none ∙ elim (cases_eq g a) [
    | inl e ↦ update_at words a (unlisted_word (words a)) g e ∙ ap (λ a. unlisted_word (words a)) (sym e)
    | inr away ↦ absurd (let t = times-first g a gs in let o : one_if (eqb a g) ≡ 0 = ap one_if (ne_eqb a g (λ e. away (sym e))) in omega (arith, t, o, some, none))
  ]
]

-- a fact at each slab's word, where one slab that is none of these changes too
pub each_unlisted : (words : ℕ → SlabWord) (f : ℕ) (e : SlabWord) (gs : List ℕ) → times f gs ≡ 0 → (P : ℕ → SlabWord → Type 0) → P f e → ((g : ℕ) → (g ≡ f → ⊥) → 1 ≤ times g gs → P g (unlisted_word (words g))) → ((g : ℕ) → (g ≡ f → ⊥) → times g gs ≡ 0 → P g (words g))
    → (g : ℕ) → P g (unlisted_all (update words f e) gs g)
each_unlisted words f e gs off P here taken there g = elim (cases_eq g f) [
  | inl same ↦ subst (λ g. P g (unlisted_all (update words f e) gs g)) (sym same) (subst (P f) (sym (unlisted_out (update words f e) gs f off ∙ update_same words f e)) here)
  | inr away ↦ elim (cases_eq (times g gs) 0) [
    | inl none ↦ subst (P g) (sym (unlisted_out (update words f e) gs g none ∙ update_other words f e g away)) (there g away none)
    | inr some ↦ subst (P g) (sym (unlisted_in (update words f e) gs g (omega (arith, some)) ∙ ap unlisted_word (update_other words f e g away))) (taken g away (omega (arith, some)))
  ]
]

-- ---- links

pub linked_out : (link : ℕ → ℕ) (front : ℕ) (gs : List ℕ) (g : ℕ) → times g gs ≡ 0 → linked_all link front gs g ≡ link g
linked_out link front [] g none = refl
linked_out link front (a ∷ gs) g none = let off = off_first g a gs none in linked_out (update link a front) a gs g off.1 ∙ update_other link a front g off.0

-- the list leads over them, the last one first, and then over what it led over before
pub links_pushed : (link : ℕ → ℕ) (list : ListWord) (gs fs : List ℕ) → ((g : ℕ) → times g gs + times g fs ≤ 1) → Links link list.front fs 0 → Links (linked_all link list.front gs) (pushed_all list gs).front (reverse_aux gs fs) 0
links_pushed link list [] fs apart is = is
links_pushed link list (a ∷ gs) fs apart is =
    links_pushed (update link a list.front) (record { front = a; count = list.count + 1 }) gs (a ∷ fs) (λ g. let t = times-first g a gs in let u = times-first g a fs in omega (arith, t, u, apart g))
    (refl, subst (λ front. Links (update link a list.front) front fs 0) (sym (update_same link a list.front)) (links_same link (update link a list.front) list.front fs (λ j some. update_other link a list.front j (other j some)) is))
  where
    other : (j : ℕ) → 1 ≤ times j fs → j ≡ a → ⊥
    other j some e = absurd (let t = first_of a gs in let u : times j fs ≡ times a fs = ap (λ j. times j fs) e in omega (arith, t, u, some, apart a))

pub pushed_count : (list : ListWord) (gs : List ℕ) → (pushed_all list gs).count ≡ list.count + length gs
pushed_count list [] = omega arith
pushed_count list (g ∷ gs) = let r = pushed_count (record { front = g; count = list.count + 1 }) gs in omega (arith, r)
