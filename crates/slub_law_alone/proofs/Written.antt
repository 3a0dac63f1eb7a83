-- Words that were written of an object, and an object's words over other words of the frames.
use Rattle.std.proofs.Common.{◌≡◌, ◌≢◌, ℕ, ◌⊎◌, ◌&&◌, ◌||◌, if◌then◌else◌, eqb, Bool, true, false, List, length, get_or, set, None, refl, ap, sym, ◌∙◌, subst, arith, inl, inr}
use Rattle.std.proofs.lemmas.Bool.{cases_eq, cases_lt, eq-eqb, eqb-true, false≢true, ne_eqb}
use Rattle.std.proofs.lemmas.List.{get_or-set_same, get_or_past, length-set}
use Rattle.slub_cache_create.specs.Table.{Table}
use Rattle.slub_lists.specs.declared.lists.Held.{Held}
use Rattle.slub_lists.specs.State.{State}
use Rattle.slub_lists.specs.Alloc.{checked_of}
use Rattle.slub_lists.specs.Places.{layout_at}
use Rattle.slub_lists.specs.Words.{is_word, word_at}
use Rattle.slub_law_alone.specs.Alone.{HasWord}

-- ---- what is written after an event

-- an allocation forgets what was written under its number
pub written-alloc : (other object : ℕ) (was : Bool) → (if eqb other object then false else was) ≡ true → (object ≢ other) × (was ≡ true)
written-alloc other object was is = elim (cases_eq other object) [
  | inl e ↦ absurd (false≢true (subst (λ b. (if b then false else was) ≡ true) (eq-eqb other object e) is))
  | inr apart ↦ ((λ e. apart (sym e)), subst (λ b. (if b then false else was) ≡ true) (ne_eqb other object apart) is)
]

-- a write is of this word, or it was written before
pub written-more : (worker w object o word at : ℕ) (was : Bool) → ((eqb worker w && eqb object o && eqb word at) || was) ≡ true → (was ≡ true) ⊎ ((worker ≡ w) × (object ≡ o) × (word ≡ at))
written-more worker w object o word at was is = by (eqb worker w) (eqb object o) (eqb word at) refl refl refl is
  where
    by : (a b c : Bool) → eqb worker w ≡ a → eqb object o ≡ b → eqb word at ≡ c → ((a && b && c) || was) ≡ true → (was ≡ true) ⊎ ((worker ≡ w) × (object ≡ o) × (word ≡ at))
    by true true true p q r is = inr (eqb-true worker w p, eqb-true object o q, eqb-true word at r)
    by true true false p q r is = inl is
    by true false c p q r is = inl is
    by false b c p q r is = inl is

-- ---- words over words

-- layouts are those of the table
pub layout-same : (s t : State) → t.table ≡ s.table → (cache : ℕ) → layout_at t cache ≡ layout_at s cache
layout-same s t same cache = ap (λ (table : Table). layout_at (record s { table = table }) cache) same

-- the same words stand in lists of the same layouts
pub carried : (s t a g : State) (held : Held) (word : ℕ) → layout_at a held.cache ≡ layout_at s held.cache → (checked_of a held.cache ≡ None → checked_of s held.cache ≡ None)
    → (checked_of a held.cache ≡ None → is_word (layout_at a held.cache) word ≡ true → let p = word_at (layout_at a held.cache) held word in get_or t.memory p 0 ≡ get_or s.memory p 0 → get_or g.memory p 0 ≡ get_or a.memory p 0) → HasWord s t held word → HasWord a g held word
carried s t a g held word layout back moves has unchecked inside =
    moves unchecked inside (subst (λ layout. is_word layout word ≡ true → get_or t.memory (word_at layout held word) 0 ≡ get_or s.memory (word_at layout held word) 0) (sym layout) (has (back unchecked)) inside)

-- the same of a word that is given in the layouts of other lists
pub relaid : (s a g : State) (held : Held) (word : ℕ) → layout_at a held.cache ≡ layout_at s held.cache → (checked_of a held.cache ≡ None → checked_of s held.cache ≡ None)
    → (checked_of s held.cache ≡ None → is_word (layout_at s held.cache) word ≡ true → let p = word_at (layout_at s held.cache) held word in get_or g.memory p 0 ≡ get_or a.memory p 0) → HasWord a g held word
relaid s a g held word layout back same unchecked inside =
    subst (λ layout. is_word layout word ≡ true → get_or g.memory (word_at layout held word) 0 ≡ get_or a.memory (word_at layout held word) 0) (sym layout) (same (back unchecked)) inside

-- one word more is the same in both, wherever it stands
pub both-set : (xs ys : List ℕ) (p value : ℕ) → length xs ≡ length ys → get_or (set xs p value) p 0 ≡ get_or (set ys p value) p 0
both-set xs ys p value same = elim (cases_lt p (length xs)) [
  | inl below ↦ get_or-set_same xs p value 0 below ∙ sym (get_or-set_same ys p value 0 (omega (arith, below, same)))
  | inr past ↦ get_or_past (set xs p value) p 0 (omega (arith, past, length-set xs p value)) ∙ sym (get_or_past (set ys p value) p 0 (omega (arith, past, same, length-set ys p value)))
]
