-- Each step of a checked cache's slabs has one outcome.
use Rattle.std.proofs.Common.{◌≡◌, ℕ, List, [], ◌∷◌, get_or, drop, Some, None, Ok, Err, refl, sym, ◌∙◌, ap, subst}
use Rattle.slub_trace.specs.declared.damage.Damage.{Damage}
use Rattle.slub_red_zone.specs.declared.checked.Run.{Run}
use Rattle.slub_red_zone.specs.declared.checked.Slot.{Slot}
use Rattle.slub_red_zone.specs.declared.checked.CheckedGive.{CheckedGive}
use Rattle.slub_red_zone.specs.declared.checked.CheckedGive.TheVariants.{Given, Empty}
use Rattle.slub_red_zone.specs.State.{CheckedState, slab_of}
use Rattle.slub_red_zone.specs.Steps.{Gives, nothing_listed, next_is_whole, next_is_damaged, IsNext, with_given, with_damaged, damage_of_free}
use Rattle.slub_law_alone.specs.Parts.{GivesHaveOneOutcome, TakingsBackHaveOneOutcome, TakingsOutHaveOneOutcome, SlotPokesHaveOneOutcome}

-- ---- giving

-- one object is next
next-one : (s : CheckedState) (a b : Slot) → IsNext s a → IsNext s b → a ≡ b
next-one s a b x y =
    let first : List ℕ → ℕ = λ xs. get_or xs 0 0 in
    let frames : a.frame ≡ b.frame = ap first (sym x.listed ∙ y.listed) in
    let free : (slab_of s a.frame).free ≡ b.index ∷ drop 1 (slab_of s b.frame).free = ap (λ (f : ℕ). (slab_of s f).free) frames ∙ y.free in
    let indexes : a.index ≡ b.index = ap first (sym x.free ∙ free) in
    λ i. record { frame = frames i; index = indexes i }

none-next : (s : CheckedState) (slot : Slot) → s.listed ≡ [] → IsNext s slot → ⊥
none-next s slot none next = let h : slot.frame ∷ drop 1 s.listed ≡ [] = sym next.listed ∙ none in cc

-- where nothing is listed, nothing is given
of_none : (s : CheckedState) (r : CheckedGive) (t : CheckedState) → Gives s r t → s.listed ≡ [] → (Empty ≡ r) × (s ≡ t)
of_none _ _ _ (nothing_listed s none) e = (refl, refl)
of_none _ _ _ (next_is_whole s slot next whole) e = absurd (none-next s slot e next)
of_none _ _ _ (next_is_damaged s slot damage answer after next damaged gives) e = absurd (none-next s slot e next)

-- where the next object is whole, it is given
of_whole : (s : CheckedState) (r : CheckedGive) (t : CheckedState) → Gives s r t → (slot : Slot) → IsNext s slot → damage_of_free s slot ≡ None → (Given slot ≡ r) × (with_given s slot ≡ t)
of_whole _ _ _ (nothing_listed s none) slot next whole = absurd (none-next s slot none next)
of_whole _ _ _ (next_is_whole s other nexts wholes) slot next whole =
    let e = next-one s slot other next nexts in (ap (λ (x : Slot). Given x) e, ap (λ (x : Slot). with_given s x) e)
of_whole _ _ _ (next_is_damaged s other damage answer after nexts damaged gives) slot next whole =
    absurd (let h : Some damage ≡ None = sym damaged ∙ ap (λ (x : Slot). damage_of_free s x) (next-one s other slot nexts next) ∙ whole in cc)

-- where it is damaged, its slab is set aside first
of_damaged : (s : CheckedState) (r : CheckedGive) (t : CheckedState) → Gives s r t → (slot : Slot) (damage : Damage) → IsNext s slot → damage_of_free s slot ≡ Some damage
    → Gives (with_damaged s slot damage) r t
of_damaged _ _ _ (nothing_listed s none) slot damage next damaged = absurd (none-next s slot none next)
of_damaged _ _ _ (next_is_whole s other nexts wholes) slot damage next damaged =
    absurd (let h : None ≡ Some damage = sym wholes ∙ ap (λ (x : Slot). damage_of_free s x) (next-one s other slot nexts next) ∙ damaged in cc)
of_damaged _ _ _ (next_is_damaged s other found answer after nexts founds gives) slot damage next damaged =
    let e : other ≡ slot = next-one s other slot nexts next in
    let some : Some found ≡ Some damage = sym founds ∙ ap (λ (x : Slot). damage_of_free s x) e ∙ damaged in
    let d : found ≡ damage = cc in
    subst (λ (x : CheckedState). Gives x answer after) (ap (λ (x : Slot). with_damaged s x found) e ∙ ap (λ (x : Damage). with_damaged s slot x) d) gives

gives-same : (s : CheckedState) (r : CheckedGive) (t : CheckedState) → Gives s r t → (q : CheckedGive) (u : CheckedState) → Gives s q u → (r ≡ q) × (t ≡ u)
gives-same _ _ _ (nothing_listed s none) q u other = of_none s q u other none
gives-same _ _ _ (next_is_whole s slot next whole) q u other = of_whole s q u other slot next whole
gives-same _ _ _ (next_is_damaged s slot damage answer after next damaged gives) q u other =
    gives-same (with_damaged s slot damage) answer after gives q u (of_damaged s q u other slot damage next damaged)

pub gives_one : GivesHaveOneOutcome
gives_one s one other left right a b = gives-same s one left a other right b

-- ---- taking back, taking out, writing a byte

pub taken_back_one : TakingsBackHaveOneOutcome
taken_back_one s slot (Ok x) (Ok y) left right a b = (refl, a.1 ∙ sym b.1)
taken_back_one s slot (Ok x) (Err damage) left right a b = absurd (let e : None ≡ Some damage = sym a.0 ∙ b.0 in cc)
taken_back_one s slot (Err damage) (Ok y) left right a b = absurd (let e : Some damage ≡ None = sym a.0 ∙ b.0 in cc)
taken_back_one s slot (Err damage) (Err found) left right a b =
    let e : Some damage ≡ Some found = sym a.0 ∙ b.0 in
    let same : damage ≡ found = cc in
    (ap (λ (d : Damage). Err d) same, a.1 ∙ sym b.1)

pub taken_out_one : TakingsOutHaveOneOutcome
taken_out_one s frame limit None None left right a b = (refl, a.1 ∙ sym b.1)
taken_out_one s frame limit None (Some run) left right a b = absurd (a.0 b.0)
taken_out_one s frame limit (Some run) None left right a b = absurd (b.0 a.0)
taken_out_one s frame limit (Some run) (Some other) left right a b = (ap (λ (r : Run). Some r) (a.1 ∙ sym b.1), a.2 ∙ sym b.2)

pub slot_pokes_one : SlotPokesHaveOneOutcome
slot_pokes_one s slot offset byte (Ok x) (Ok y) left right a b = (refl, a.1 ∙ sym b.1)
slot_pokes_one s slot offset byte (Ok x) (Err y) left right a b = absurd (b.0 a.0)
slot_pokes_one s slot offset byte (Err x) (Ok y) left right a b = absurd (a.0 b.0)
slot_pokes_one s slot offset byte (Err x) (Err y) left right a b = (refl, a.1 ∙ sym b.1)
