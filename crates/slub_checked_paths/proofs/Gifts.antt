-- A checked cache's slabs give one object, and what stands behind their lock is them.
use Rattle.std.proofs.Common.{◌≡◌, ℕ, List, [], ◌∷◌, get_or, drop, Some, None, refl, sym, ◌∙◌, ap, subst}
use Rattle.slub_object_layout.specs.declared.layout.Layout.{Layout}
use Rattle.slub_trace.specs.declared.damage.Damage.{Damage}
use Rattle.slub_red_zone.specs.declared.checked.Slot.{Slot}
use Rattle.slub_red_zone.specs.declared.checked.CheckedGive.{CheckedGive}
use Rattle.slub_red_zone.specs.declared.checked.CheckedGive.TheVariants.{Given, Empty}
use Rattle.slub_red_zone.specs.State.{CheckedState, slab_of}
use Rattle.slub_red_zone.specs.Sound.{IsSound}
use Rattle.slub_red_zone.specs.Steps.{Gives, nothing_listed, next_is_whole, next_is_damaged, IsNext, with_given, with_damaged, damage_of_free}
use Rattle.slub_core.specs.Setup.{Setup}
use Rattle.slub_core.specs.World.{LockValue, Nothing, Node, Checked, Pool}
use Rattle.slub_core.specs.Checked.{slabs_in}
use Rattle.slub_checked_paths.specs.Slabs.{IsCheckedValue, slabs_at}

-- whatever the layout is, a checked cache's slabs are those behind its lock
pub slabs-same : (layout : Layout) (v : LockValue) → IsCheckedValue v → slabs_in layout v ≡ slabs_at v
slabs-same layout Nothing h = absurd h
slabs-same layout (Node frames) h = absurd h
slabs-same layout (Checked slabs) h = refl
slabs-same layout (Pool pool) h = absurd h

-- and they are what stands there
pub slabs-are : (v : LockValue) → IsCheckedValue v → v ≡ Checked (slabs_at v)
slabs-are Nothing h = absurd h
slabs-are (Node frames) h = absurd h
slabs-are (Checked slabs) h = refl
slabs-are (Pool pool) h = absurd h

-- there is one next object
next-one : (s : CheckedState) (a b : Slot) → IsNext s a → IsNext s b → a ≡ b
next-one s a b x y =
    let first : List ℕ → ℕ = λ xs. get_or xs 0 0 in
    let frames : a.frame ≡ b.frame = ap first (sym x.listed ∙ y.listed) in
    let free : (slab_of s a.frame).free ≡ b.index ∷ drop 1 (slab_of s b.frame).free = ap (λ (f : ℕ). (slab_of s f).free) frames ∙ y.free in
    let indexes : a.index ≡ b.index = ap first (sym x.free ∙ free) in
    let slot : ℕ → ℕ → Slot = λ f i. record { frame = f; index = i } in
    ap (λ (f : ℕ). slot f a.index) frames ∙ ap (λ (i : ℕ). slot b.frame i) indexes

none-next : (s : CheckedState) (slot : Slot) → s.listed ≡ [] → IsNext s slot → ⊥
none-next s slot none next = let h : slot.frame ∷ drop 1 s.listed ≡ [] = sym next.listed ∙ none in cc

from-empty : (s : CheckedState) (r : CheckedGive) (t : CheckedState) → Gives s r t → s.listed ≡ [] → (r ≡ Empty) × (t ≡ s)
from-empty _ _ _ (nothing_listed s none) e = (refl, refl)
from-empty _ _ _ (next_is_whole s slot next whole) e = absurd (none-next s slot e next)
from-empty _ _ _ (next_is_damaged s slot damage answer after next damaged gives) e = absurd (none-next s slot e next)

from-whole : (s : CheckedState) (r : CheckedGive) (t : CheckedState) → Gives s r t → (slot : Slot) → IsNext s slot → damage_of_free s slot ≡ None → (r ≡ Given slot) × (t ≡ with_given s slot)
from-whole _ _ _ (nothing_listed s none) slot next whole = absurd (none-next s slot none next)
from-whole _ _ _ (next_is_whole s other nexts wholes) slot next whole =
    let e = next-one s other slot nexts next in (ap (λ (x : Slot). Given x) e, ap (λ (x : Slot). with_given s x) e)
from-whole _ _ _ (next_is_damaged s other damage answer after nexts damaged gives) slot next whole =
    absurd (let h : Some damage ≡ None = sym damaged ∙ ap (λ (x : Slot). damage_of_free s x) (next-one s other slot nexts next) ∙ whole in cc)

from-damaged : (s : CheckedState) (r : CheckedGive) (t : CheckedState) → Gives s r t → (slot : Slot) (damage : Damage) → IsNext s slot → damage_of_free s slot ≡ Some damage
    → Gives (with_damaged s slot damage) r t
from-damaged _ _ _ (nothing_listed s none) slot damage next damaged = absurd (none-next s slot none next)
from-damaged _ _ _ (next_is_whole s other nexts wholes) slot damage next damaged =
    absurd (let h : None ≡ Some damage = sym wholes ∙ ap (λ (x : Slot). damage_of_free s x) (next-one s other slot nexts next) ∙ damaged in cc)
from-damaged _ _ _ (next_is_damaged s other found answer after nexts damageds gives) slot damage next damaged =
    let e : other ≡ slot = next-one s other slot nexts next in
    let some : Some found ≡ Some damage = sym damageds ∙ ap (λ (x : Slot). damage_of_free s x) e ∙ damaged in
    let d : found ≡ damage = cc in
    subst (λ (x : CheckedState). Gives x answer after) (ap (λ (x : Slot). with_damaged s x found) e ∙ ap (λ (x : Damage). with_damaged s slot x) d) gives

-- a give has one answer, and leaves one state
gives-one : (s : CheckedState) (r : CheckedGive) (t : CheckedState) → Gives s r t → (q : CheckedGive) (u : CheckedState) → Gives s q u → (q ≡ r) × (u ≡ t)
gives-one _ _ _ (nothing_listed s none) q u other = from-empty s q u other none
gives-one _ _ _ (next_is_whole s slot next whole) q u other = from-whole s q u other slot next whole
gives-one _ _ _ (next_is_damaged s slot damage answer after next damaged gives) q u other =
    gives-one (with_damaged s slot damage) answer after gives q u (from-damaged s q u other slot damage next damaged)

-- what is given is what the machine's gifts tell
pub given-is : (m : Setup) (s : CheckedState) (r : CheckedGive) (t : CheckedState) → IsSound s → Gives s r t → (m.means.gave s ≡ r) × (m.means.give s ≡ t)
given-is m s r t sound gives = gives-one s r t gives (m.means.gave s) (m.means.give s) (m.means.gives s sound)
