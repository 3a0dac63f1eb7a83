-- The moves of a recording: each object is allocated as the next one, and freed at most once, after it.
use Rattle.std.proofs.Common.{◌≡◌, ◌≢◌, ℕ, suc, ◌+◌, ◌<◌, Bool, true, false, not, cond, ◌&&◌, ◌||◌, ◌==◌, ◌⊎◌, List, [], ◌∷◌, ◌++◌, length, append_assoc, refl, sym, ap, subst, ◌∙◌, inl, inr, Option, None, Some, nat_eq, arith}
use Rattle.std.specs.Prelude.{fold, if◌then◌else◌, option_to_list, unwrap_or}
use Rattle.std.specs.Map.{lookup}
use Rattle.std.proofs.lemmas.List.{append-nil, length-append}
use Rattle.std.proofs.lemmas.Bool.{eqb-true, eqb-false, eq-eqb, ne_eqb}
use Rattle.indexmap.specs.IndexMap.{insert_entry}
use Rattle.slub_recording.specs.declared.event.KmemEvent.{KmemEvent}
use Rattle.slub_recording.specs.declared.event.KmemAct.{KmemAct}
use Rattle.slub_recording.specs.declared.event.KmemAct.TheVariants as act
use Rattle.slub_recorded.specs.declared.pairing.Born.{Born}
use Rattle.slub_recorded.specs.declared.pairing.Held.{Held}
use Rattle.slub_recorded.specs.declared.pairing.Held.TheVariants.{Nothing, Object, Pages}
use Rattle.slub_recorded.specs.declared.pairing.Move.{Move}
use Rattle.slub_recorded.specs.Pairing.{Seen, after, birth, fate_of, frees, gives, held_at, left, nothing, seen, with_fate, with_moves}
use Rattle.slub_recorded.proofs.Owned.{AreMoves, both, or_left, or_right}

-- ---- the map

twice : (b : Bool) (x y l : Option Held) → cond b x l ≡ cond b x (cond b y l)
twice true x y l = refl
twice false x y l = refl

swapped : (b c : Bool) (x y l : Option Held) → (b ≡ true → c ≡ true → ⊥) → cond b y (cond c x l) ≡ cond c x (cond b y l)
swapped true true x y l never = absurd (never refl refl)
swapped true false x y l never = refl
swapped false c x y l never = refl

found_by : (q p : ℕ) (e : ℕ × Held) (es : List (ℕ × Held)) (w : Held) → lookup (nat_eq q) (insert_entry nat_eq es p w) ≡ cond (nat_eq q p) (Some w) (lookup (nat_eq q) es)
    → (b : Bool) → nat_eq p e.0 ≡ b → lookup (nat_eq q) (if b then (e.0, w) ∷ es else e ∷ insert_entry nat_eq es p w) ≡ cond (nat_eq q p) (Some w) (cond (nat_eq q e.0) (Some e.1) (lookup (nat_eq q) es))
found_by q p e es w rest true is =
    let same : e.0 ≡ p = sym (eqb-true p e.0 is) in
    let P : ℕ → Type 0 = λ n. cond (nat_eq q n) (Some w) (lookup (nat_eq q) es) ≡ cond (nat_eq q p) (Some w) (cond (nat_eq q n) (Some e.1) (lookup (nat_eq q) es)) in
    subst P (sym same) (twice (nat_eq q p) (Some w) (Some e.1) (lookup (nat_eq q) es))
found_by q p e es w rest false is =
    ap (λ l. cond (nat_eq q e.0) (Some e.1) l) rest
    ∙ swapped (nat_eq q e.0) (nat_eq q p) (Some w) (Some e.1) (lookup (nat_eq q) es) (λ one other. eqb-false p e.0 is (sym (eqb-true q p other) ∙ eqb-true q e.0 one))

-- what a map has after an entry is put in
pub found : (held : List (ℕ × Held)) (p q : ℕ) (w : Held) → lookup (nat_eq q) (insert_entry nat_eq held p w) ≡ cond (nat_eq q p) (Some w) (lookup (nat_eq q) held)
found [] p q w = refl
found (e ∷ es) p q w = found_by q p e es w (found es p q w) (nat_eq p e.0) refl

here : (held : List (ℕ × Held)) (p : ℕ) (w : Held) → held_at (insert_entry nat_eq held p w) p ≡ w
here held p w =
    let at : nat_eq p p ≡ true = eq-eqb p p refl in
    ap (λ r. unwrap_or r Nothing) (found held p p w ∙ ap (λ b. cond b (Some w) (lookup (nat_eq p) held)) at)

elsewhere : (held : List (ℕ × Held)) (p q : ℕ) (w : Held) → q ≢ p → held_at (insert_entry nat_eq held p w) q ≡ held_at held q
elsewhere held p q w ne =
    let at : nat_eq q p ≡ false = ne_eqb q p ne in
    ap (λ r. unwrap_or r Nothing) (found held p q w ∙ ap (λ b. cond b (Some w) (lookup (nat_eq q) held)) at)

-- ---- what lies at pointers

-- each object that lies somewhere lives, is one of so many, and lies nowhere else
record Lies (held : List (ℕ × Held)) (count : ℕ) (alive : ℕ → Bool) : Type 0 where
  lives : (p o : ℕ) → held_at held p ≡ Object o → alive o ≡ true
  below : (p o : ℕ) → held_at held p ≡ Object o → o < count
  alone : (p q o : ℕ) → held_at held p ≡ Object o → held_at held q ≡ Object o → p ≡ q

-- what an event does with objects
emitted : Seen → KmemEvent → Bool → List Move
emitted s e true = []
emitted s e false = frees e (held_at s.held e.pointer) ++ gives e (length s.objects) (birth e.act)

moves_from : Seen → List KmemEvent → List Move
moves_from s [] = []
moves_from s (e ∷ es) = emitted s e (e.pointer == 0) ++ moves_from (after s e) es

-- so does each but what lies at this pointer
record Others (held : List (ℕ × Held)) (p count : ℕ) (alive : ℕ → Bool) : Type 0 where
  lives : (q o : ℕ) → q ≢ p → held_at held q ≡ Object o → alive o ≡ true
  below : (q o : ℕ) → held_at held q ≡ Object o → o < count
  alone : (q r o : ℕ) → held_at held q ≡ Object o → held_at held r ≡ Object o → q ≡ r

at_or_by : (held : List (ℕ × Held)) (p q : ℕ) (w : Held) (o : ℕ) → held_at (insert_entry nat_eq held p w) q ≡ Object o → (b : Bool) → nat_eq q p ≡ b
    → ((q ≡ p) × (w ≡ Object o)) ⊎ ((q ≢ p) × (held_at held q ≡ Object o))
at_or_by held p q w o is true same =
    let e : q ≡ p = eqb-true q p same in
    inl (e, sym (ap (held_at (insert_entry nat_eq held p w)) e ∙ here held p w) ∙ is)
at_or_by held p q w o is false other =
    let ne : q ≢ p = eqb-false q p other in
    inr (ne, sym (elsewhere held p q w ne) ∙ is)

at_or : (held : List (ℕ × Held)) (p q : ℕ) (w : Held) (o : ℕ) → held_at (insert_entry nat_eq held p w) q ≡ Object o
    → ((q ≡ p) × (w ≡ Object o)) ⊎ ((q ≢ p) × (held_at held q ≡ Object o))
at_or held p q w o is = at_or_by held p q w o is (nat_eq q p) refl

same_object : (k o : ℕ) → Object k ≡ Object o → k ≡ o
same_object k o is = cc

put_object : (held : List (ℕ × Held)) (p k count : ℕ) (alive : ℕ → Bool) → k ≡ count → Others held p count alive
    → Lies (insert_entry nat_eq held p (Object k)) (suc count) (λ m. nat_eq m k || alive m)
put_object held p k count alive next others = record {
  lives = λ q o is. elim (at_or held p q (Object k) o is) [
    | inl at ↦ or_left (nat_eq o k) (alive o) (eq-eqb o k (sym (same_object k o at.1)))
    | inr old ↦ or_right (nat_eq o k) (alive o) (others.lives q o old.0 old.1)
  ];
  below = λ q o is. elim (at_or held p q (Object k) o is) [
    | inl at ↦ let e = same_object k o at.1 in omega (arith, e, next)
    | inr old ↦ let low = others.below q o old.1 in omega (arith, low)
  ];
  alone = λ q r o one two. elim (at_or held p q (Object k) o one) [
    | inl at ↦ elim (at_or held p r (Object k) o two) [
      | inl also ↦ at.0 ∙ sym also.0
      | inr old ↦ let e = same_object k o at.1 in let low = others.below r o old.1 in absurd (let never : ⊥ = omega (arith, e, low, next) in never)
    ]
    | inr old ↦ elim (at_or held p r (Object k) o two) [
      | inl at ↦ let e = same_object k o at.1 in let low = others.below q o old.1 in absurd (let never : ⊥ = omega (arith, e, low, next) in never)
      | inr also ↦ others.alone q r o old.1 also.1
    ]
  ];
}

put_other : (held : List (ℕ × Held)) (p count : ℕ) (w : Held) (alive : ℕ → Bool) → ((o : ℕ) → w ≡ Object o → ⊥) → Others held p count alive
    → Lies (insert_entry nat_eq held p w) count alive
put_other held p count w alive never others = record {
  lives = λ q o is. elim (at_or held p q w o is) [ inl at ↦ absurd (never o at.1) | inr old ↦ others.lives q o old.0 old.1 ];
  below = λ q o is. elim (at_or held p q w o is) [ inl at ↦ absurd (never o at.1) | inr old ↦ others.below q o old.1 ];
  alone = λ q r o one two. elim (at_or held p q w o one) [
    | inl at ↦ absurd (never o at.1)
    | inr old ↦ elim (at_or held p r w o two) [ inl at ↦ absurd (never o at.1) | inr also ↦ others.alone q r o old.1 also.1 ]
  ];
}

-- what lies at the pointer of an act is an object exactly where it allocates one
pub record IsPut (a : KmemAct) (k : ℕ) (born : Option Born) (w : Held) : Type 0 where
  pub put : (b : Born) → born ≡ Some b → w ≡ Object k
  pub none : born ≡ None → (o : ℕ) → w ≡ Object o → ⊥

put_kmalloc : (a : KmemAct) (k : ℕ) (b : Born) (small : Bool) → IsPut a k (if small then Some b else None) (if small then Object k else Pages)
put_kmalloc a k b true = record { put = λ c is. refl; none = λ is o w. absurd cc }
put_kmalloc a k b false = record { put = λ c is. absurd cc; none = λ is o w. absurd cc }

is_put : (a : KmemAct) (k : ℕ) → IsPut a k (birth a) (left a k)
is_put (act.CacheAlloc asked slot site) k = record { put = λ b is. refl; none = λ is o w. absurd cc }
is_put (act.Kmalloc slot kind) k = put_kmalloc (act.Kmalloc slot kind) k _ _
is_put (act.CacheFree name) k = record { put = λ b is. absurd cc; none = λ is o w. absurd cc }
is_put act.Kfree k = record { put = λ b is. absurd cc; none = λ is o w. absurd cc }

-- ---- all events

-- what is to be shown of the rest, behind events that left this
Rest : List KmemEvent → Type 0
Rest es = (s : Seen) (count : ℕ) (alive : ℕ → Bool) → length s.objects ≡ count → Lies s.held count alive → AreMoves alive count (moves_from s es)

gives_case : (es : List KmemEvent) (e : KmemEvent) (t : Seen) (held : List (ℕ × Held)) (k count : ℕ) (alive : ℕ → Bool) (born : Option Born) (w : Held)
    → Rest es → k ≡ count → IsPut e.act k born w → t.held ≡ insert_entry nat_eq held e.pointer w → length t.objects ≡ k + length (option_to_list born)
    → Others held e.pointer count alive → AreMoves alive count (gives e k born ++ moves_from t es)
unfolding Rest
gives_case es e t held k count alive None w rest next put is len others =
    rest t count alive (let size : length t.objects ≡ k + 0 = len in omega (arith, size, next))
    (let P : List (ℕ × Held) → Type 0 = λ h. Lies h count alive in subst P (sym is) (put_other held e.pointer count w alive (put.none refl) others))
gives_case es e t held k count alive (Some b) w rest next put is len others =
    let alive2 : ℕ → Bool = λ m. nat_eq m k || alive m in
    let P : List (ℕ × Held) → Type 0 = λ h. Lies h (suc count) alive2 in (
      next,
      rest t (suc count) alive2 (let size : length t.objects ≡ k + 1 = len in omega (arith, size, next))
          (subst P (sym (is ∙ ap (insert_entry nat_eq held e.pointer) (put.put b refl))) (put_object held e.pointer k count alive next others)),
    )

frees_case : (e : KmemEvent) (held : List (ℕ × Held)) (count : ℕ) (alive : ℕ → Bool) (moves : List Move) (h : Held) → held_at held e.pointer ≡ h → Lies held count alive
    → ((alive2 : ℕ → Bool) → Others held e.pointer count alive2 → AreMoves alive2 count moves) → AreMoves alive count (frees e h ++ moves)
frees_case e held count alive moves Nothing is lies rest =
    rest alive (record { lives = λ q o ne at. lies.lives q o at; below = lies.below; alone = lies.alone })
frees_case e held count alive moves Pages is lies rest =
    rest alive (record { lives = λ q o ne at. lies.lives q o at; below = lies.below; alone = lies.alone })
frees_case e held count alive moves (Object object) is lies rest = (
  lies.lives e.pointer object is,
  rest (λ m. not (nat_eq m object) && alive m) (record {
    lives = λ q o ne at. both (nat_eq o object) (alive o) (ne_eqb o object (λ same. ne (lies.alone q e.pointer object (at ∙ ap (λ n. Object n) same) is))) (lies.lives q o at);
    below = lies.below;
    alone = lies.alone;
  }),
)

-- one event, by whether its pointer is 0
step_case : (es : List KmemEvent) (s : Seen) (e : KmemEvent) (count : ℕ) (alive : ℕ → Bool) → Rest es → length s.objects ≡ count → Lies s.held count alive
    → (b : Bool) → (t : Seen) → t ≡ (if b then with_fate s (fate_of e.act b (held_at s.held e.pointer)) else with_moves (with_fate s (fate_of e.act b (held_at s.held e.pointer))) e)
    → AreMoves alive count (emitted s e b ++ moves_from t es)
unfolding emitted Rest
step_case es s e count alive rest size lies true t is =
    rest t count alive (ap (λ (u : Seen). length u.objects) is ∙ size)
    (let P : List (ℕ × Held) → Type 0 = λ h. Lies h count alive in subst P (sym (ap (λ (u : Seen). u.held) is)) lies)
step_case es s e count alive rest size lies false t is =
    let k : ℕ = length s.objects in
    let h : Held = held_at s.held e.pointer in
    let born : Option Born = birth e.act in
    let tail : List Move = moves_from t es in
    let P : List Move → Type 0 = λ ms. AreMoves alive count ms in
    subst P (sym (append_assoc (frees e h) (gives e k born) tail))
    (frees_case e s.held count alive (gives e k born ++ tail) h refl lies
    (λ alive2 others. gives_case es e t s.held k count alive2 born (left e.act k) rest size (is_put e.act k) (ap (λ (u : Seen). u.held) is)
    (ap (λ (u : Seen). length u.objects) is ∙ length-append s.objects (option_to_list born)) others))

from_are : (es : List KmemEvent) → Rest es
unfolding Rest moves_from after
from_are [] s count alive size lies = tt
from_are (e ∷ es) s count alive size lies =
    step_case es s e count alive (from_are es) size lies (e.pointer == 0) (after s e) refl

-- ---- all moves

after_by : (s : Seen) (e : KmemEvent) (b : Bool)
    → (let t : Seen = if b then with_fate s (fate_of e.act b (held_at s.held e.pointer)) else with_moves (with_fate s (fate_of e.act b (held_at s.held e.pointer))) e in t.moves ≡ s.moves ++ emitted s e b)
unfolding emitted
after_by s e true = sym (append-nil s.moves)
after_by s e false = append_assoc s.moves (frees e (held_at s.held e.pointer)) (gives e (length s.objects) (birth e.act))

moves_all : (es : List KmemEvent) (s : Seen) → (fold after s es).moves ≡ s.moves ++ moves_from s es
unfolding moves_from after
moves_all [] s = sym (append-nil s.moves)
moves_all (e ∷ es) s =
    moves_all es (after s e) ∙ ap (λ ms. ms ++ moves_from (after s e) es) (after_by s e (e.pointer == 0))
    ∙ append_assoc s.moves (emitted s e (e.pointer == 0)) (moves_from (after s e) es)

-- objects are allocated in their order, and each is freed at most once, after it
pub moves_are : (events : List KmemEvent) → AreMoves (λ _. false) 0 (seen events).moves
unfolding Rest
moves_are events =
    let none : Lies [] 0 (λ _. false) = record { lives = λ p o is. absurd (never o is); below = λ p o is. absurd (never o is); alone = λ p q o is also. absurd (never o is) } in
    let P : List Move → Type 0 = λ ms. AreMoves (λ _. false) 0 ms in
    subst P (sym (moves_all events nothing)) (from_are events nothing 0 (λ _. false) refl none)
  where
    never : (o : ℕ) → Nothing ≡ Object o → ⊥
    never o is = cc
