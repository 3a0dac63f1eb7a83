-- Caches that are parted off group by group are each in the first group that has room.
use Rattle.std.proofs.Common.{◌≡◌, ℕ, zero, suc, ◌+◌, ◌<◌, ◌≤◌, ◌==◌, ◌⊎◌, inl, inr, Bool, true, false, List, [], ◌∷◌, ◌++◌, map, cond, nat_lt, refl, sym, ap, subst, ◌∙◌, arith, append_assoc}
use Rattle.std.specs.Prelude.{filter, Option, Some, None}
use Rattle.std.proofs.lemmas.Bool.Decides.{nat_tests}
use Rattle.std.proofs.lemmas.List.{map-append, append-nil}
use Rattle.std.proofs.lemmas.List.Elements.{filter-append}
use Rattle.slub_recorded.specs.Members.{Member, Need, ArePlaced, IsPlaced, has_room, in_group, in_none, is_none, is_number, left_over, packed}

-- ---- what is beyond a group

abbrev pub is_beyond : Option ℕ → ℕ → Bool
is_beyond None k = true
is_beyond (Some group) k = nat_lt k group

abbrev pub needs_beyond : ℕ → List Member → List Need
needs_beyond k ms = map (λ m. m.need) (filter (λ m. is_beyond m.group k) ms)

-- a cache is of an earlier group than this and its next, of the next, or of a later one
record Earlier (group : Option ℕ) (k : ℕ) : Type 0 where
  beyond : is_beyond group k ≡ false
  number : is_number group (k + 1) ≡ false
  next : is_beyond group (k + 1) ≡ false

record Here (there : List Need) (need : Need) (group : Option ℕ) (k : ℕ) : Type 0 where
  beyond : is_beyond group k ≡ true
  number : is_number group (k + 1) ≡ true
  next : is_beyond group (k + 1) ≡ false
  room : has_room there need ≡ true

record Later (there : List Need) (need : Need) (group : Option ℕ) (k : ℕ) : Type 0 where
  beyond : is_beyond group k ≡ true
  number : is_number group (k + 1) ≡ false
  next : is_beyond group (k + 1) ≡ true
  room : has_room there need ≡ false

tests : (k g : ℕ) → ((nat_lt k g ≡ false) × ((g == k + 1) ≡ false) × (nat_lt (k + 1) g ≡ false)) ⊎ ((g ≡ k + 1) ⊎ ((nat_lt k g ≡ true) × ((g == k + 1) ≡ false) × (nat_lt (k + 1) g ≡ true) × (k + 1 < g)))
tests k g = by (nat_lt k g) (g == k + 1) refl refl
  where
    by : (a b : Bool) → nat_lt k g ≡ a → (g == k + 1) ≡ b → ((nat_lt k g ≡ false) × ((g == k + 1) ≡ false) × (nat_lt (k + 1) g ≡ false)) ⊎ ((g ≡ k + 1) ⊎ ((nat_lt k g ≡ true) × ((g == k + 1) ≡ false) × (nat_lt (k + 1) g ≡ true) × (k + 1 < g)))
    by a true p q = inr (inl (grind (arith, nat_tests)))
    by false false p q = inl (p, q, grind (arith, nat_tests))
    by true false p q = inr (inr (p, q, grind (arith, nat_tests), grind (arith, nat_tests)))

here_tests : (k : ℕ) → (nat_lt k (k + 1) ≡ true) × ((k + 1 == k + 1) ≡ true) × (nat_lt (k + 1) (k + 1) ≡ false)
here_tests k = (grind (arith, nat_tests), grind (arith, nat_tests), grind (arith, nat_tests))

kinds : (k : ℕ) (before : List Member) (need : Need) (group : Option ℕ) → k < 256 → IsPlaced before need group
    → Earlier group k ⊎ (Here (in_group (k + 1) before) need group k ⊎ Later (in_group (k + 1) before) need group k)
kinds k before need None few placed = inr (inr (record { beyond = refl; number = refl; next = refl; room = placed (k + 1) (omega arith) (omega arith) }))
kinds k before need (Some g) few placed =
    elim (tests k g) [
      | inl t ↦ inl (record { beyond = t.0; number = t.1; next = t.2 })
      | inr (inl e) ↦
          let h = here_tests k in
          let R : ℕ → Type 0 = λ j. has_room (in_group j before) need ≡ true in
          let B : ℕ → Type 0 = λ j. Here (in_group (k + 1) before) need (Some j) k in
          inr (inl (subst B (sym e) (record { beyond = h.0; number = h.1; next = h.2; room = subst R e placed.room })))
      | inr (inr t) ↦ inr (inr (record { beyond = t.0; number = t.1; next = t.2; room = placed.first (k + 1) (omega arith) t.3 }))
    ]

-- ---- one more

pub filt : (p : Member → Bool) (m : Member) (ms : List Member) (b : Bool) → p m ≡ b → map (λ (x : Member). x.need) (filter p (m ∷ ms)) ≡ cond b (m.need ∷ map (λ (x : Member). x.need) (filter p ms)) (map (λ (x : Member). x.need) (filter p ms))
filt p m ms true e = ap (λ (b : Bool). map (λ (x : Member). x.need) (cond b (m ∷ filter p ms) (filter p ms))) e
filt p m ms false e = ap (λ (b : Bool). map (λ (x : Member). x.need) (cond b (m ∷ filter p ms) (filter p ms))) e

one_more : (k : ℕ) (before : List Member) (m : Member) (b : Bool) → is_number m.group k ≡ b → in_group k (before ++ m ∷ []) ≡ in_group k before ++ cond b (m.need ∷ []) []
one_more k before m b e =
    let p : Member → Bool = λ x. is_number x.group k in
    ap (map (λ (x : Member). x.need)) (filter-append p before (m ∷ [])) ∙ map-append (λ (x : Member). x.need) (filter p before) (filter p (m ∷ [])) ∙ ap (λ l. in_group k before ++ l) (filt p m [] b e)

pub packed_yes : (there : List Need) (need : Need) (needs : List Need) → has_room there need ≡ true → packed there (need ∷ needs) ≡ packed (there ++ need ∷ []) needs
unfolding packed
packed_yes there need needs e = ap (λ (b : Bool). cond b (packed (there ++ need ∷ []) needs) (packed there needs)) e

pub packed_no : (there : List Need) (need : Need) (needs : List Need) → has_room there need ≡ false → packed there (need ∷ needs) ≡ packed there needs
unfolding packed
packed_no there need needs e = ap (λ (b : Bool). cond b (packed (there ++ need ∷ []) needs) (packed there needs)) e

pub left_yes : (there : List Need) (need : Need) (needs : List Need) → has_room there need ≡ true → left_over there (need ∷ needs) ≡ left_over (there ++ need ∷ []) needs
unfolding left_over
left_yes there need needs e = ap (λ (b : Bool). cond b (left_over (there ++ need ∷ []) needs) (need ∷ left_over there needs)) e

pub left_no : (there : List Need) (need : Need) (needs : List Need) → has_room there need ≡ false → left_over there (need ∷ needs) ≡ need ∷ left_over there needs
unfolding left_over
left_no there need needs e = ap (λ (b : Bool). cond b (left_over (there ++ need ∷ []) needs) (need ∷ left_over there needs)) e

pub packed_nil : (there : List Need) → packed there [] ≡ there
unfolding packed
packed_nil there = refl

pub left_nil : (there : List Need) → left_over there [] ≡ []
unfolding left_over
left_nil there = refl

-- ---- a group is those that are placed in it, and the others are those beyond it

pub pack : (k : ℕ) (before ms : List Member) → k < 256 → ArePlaced before ms → packed (in_group (k + 1) before) (needs_beyond k ms) ≡ in_group (k + 1) (before ++ ms)
pack k before [] few p = packed_nil (in_group (k + 1) before) ∙ ap (in_group (k + 1)) (sym (append-nil before))
pack k before (m ∷ ms) few p =
    let t = in_group (k + 1) before in
    let f : Member → Bool = λ x. is_beyond x.group k in
    let rest = needs_beyond k ms in
    let P : List Need → List Need = λ l. packed l rest in
    let more = pack k (before ++ m ∷ []) ms few p.1 ∙ ap (in_group (k + 1)) (append_assoc before (m ∷ []) ms) in
    elim (kinds k before m.need m.group few p.0) [
      | inl e ↦ ap (packed t) (filt f m ms false e.beyond) ∙ ap P (sym (one_more (k + 1) before m false e.number ∙ append-nil t)) ∙ more
      | inr (inl e) ↦ ap (packed t) (filt f m ms true e.beyond) ∙ packed_yes t m.need rest e.room ∙ ap P (sym (one_more (k + 1) before m true e.number)) ∙ more
      | inr (inr e) ↦ ap (packed t) (filt f m ms true e.beyond) ∙ packed_no t m.need rest e.room ∙ ap P (sym (one_more (k + 1) before m false e.number ∙ append-nil t)) ∙ more
    ]

pub leave : (k : ℕ) (before ms : List Member) → k < 256 → ArePlaced before ms → left_over (in_group (k + 1) before) (needs_beyond k ms) ≡ needs_beyond (k + 1) ms
leave k before [] few p = left_nil (in_group (k + 1) before)
leave k before (m ∷ ms) few p =
    let t = in_group (k + 1) before in
    let f : Member → Bool = λ x. is_beyond x.group k in
    let g : Member → Bool = λ x. is_beyond x.group (k + 1) in
    let rest = needs_beyond k ms in
    let P : List Need → List Need = λ l. left_over l rest in
    let more = leave k (before ++ m ∷ []) ms few p.1 in
    elim (kinds k before m.need m.group few p.0) [
      | inl e ↦ ap (left_over t) (filt f m ms false e.beyond) ∙ ap P (sym (one_more (k + 1) before m false e.number ∙ append-nil t)) ∙ more ∙ sym (filt g m ms false e.next)
      | inr (inl e) ↦ ap (left_over t) (filt f m ms true e.beyond) ∙ left_yes t m.need rest e.room ∙ ap P (sym (one_more (k + 1) before m true e.number)) ∙ more ∙ sym (filt g m ms false e.next)
      | inr (inr e) ↦ ap (left_over t) (filt f m ms true e.beyond) ∙ left_no t m.need rest e.room ∙ ap (λ (l : List Need). m.need ∷ l) (ap P (sym (one_more (k + 1) before m false e.number ∙ append-nil t)) ∙ more) ∙ sym (filt g m ms true e.next)
    ]

-- ---- there is a place for each

first_room : ℕ → ℕ → List Member → Need → Option ℕ
first_room zero k before need = None
first_room (suc fuel) k before need = cond (has_room (in_group k before) need) (Some k) (first_room fuel (k + 1) before need)

is_first : (fuel k : ℕ) (before : List Member) (need : Need) → fuel + k ≡ 257 → 1 ≤ k → ((j : ℕ) → 1 ≤ j → j < k → has_room (in_group j before) need ≡ false) → IsPlaced before need (first_room fuel k before need)
unfolding first_room
is_first zero k before need sum one none = λ j a b. none j a (omega arith)
is_first (suc fuel) k before need sum one none = by (λ later. is_first fuel (k + 1) before need (omega arith) (omega arith) later) (has_room (in_group k before) need) refl
  where
    P : Option ℕ → Type 0
    P = IsPlaced before need

    none_more : has_room (in_group k before) need ≡ false → (j : ℕ) → 1 ≤ j → j < k + 1 → has_room (in_group j before) need ≡ false
    none_more e j a b = at (j == k) refl
      where
        at : (t : Bool) → (j == k) ≡ t → has_room (in_group j before) need ≡ false
        at true q =
            let same : j ≡ k = grind (arith, nat_tests) in
            let R : ℕ → Type 0 = λ i. has_room (in_group i before) need ≡ false in
            subst R (sym same) e
        at false q = none j a (grind (arith, nat_tests))

    by : (((j : ℕ) → 1 ≤ j → j < k + 1 → has_room (in_group j before) need ≡ false) → IsPlaced before need (first_room fuel (k + 1) before need)) → (b : Bool) → has_room (in_group k before) need ≡ b → IsPlaced before need (cond (has_room (in_group k before) need) (Some k) (first_room fuel (k + 1) before need))
    by later true e = subst P (sym (ap (λ (b : Bool). cond b (Some k) (first_room fuel (k + 1) before need)) e)) (record { from_one = one; most = omega arith; room = e; first = none })
    by later false e = subst P (sym (ap (λ (b : Bool). cond b (Some k) (first_room fuel (k + 1) before need)) e)) (later (none_more e))

pub number : List Member → List Need → List Member
number before [] = []
number before (need ∷ needs) =
    record { need = need; group = first_room 256 1 before need } ∷ number (before ++ record { need = need; group = first_room 256 1 before need } ∷ []) needs

pub all_placed : (before : List Member) (needs : List Need) → ArePlaced before (number before needs)
unfolding number
all_placed before [] = tt
all_placed before (need ∷ needs) =
    let m : Member = record { need = need; group = first_room 256 1 before need } in
    (is_first 256 1 before need (omega arith) (omega arith) (λ j a b. absurd (omega arith)), all_placed (before ++ m ∷ []) needs)

pub all_needs : (before : List Member) (needs : List Need) → map (λ (m : Member). m.need) (number before needs) ≡ needs
unfolding number
all_needs before [] = refl
all_needs before (need ∷ needs) =
    let m : Member = record { need = need; group = first_room 256 1 before need } in
    ap (λ (l : List Need). need ∷ l) (all_needs (before ++ m ∷ []) needs)

-- ---- the first and the last

all_beyond : (before ms : List Member) → ArePlaced before ms → needs_beyond 0 ms ≡ map (λ (m : Member). m.need) ms
all_beyond before [] p = refl
all_beyond before (m ∷ ms) p = filt (λ (x : Member). is_beyond x.group 0) m ms true (by m.group p.0) ∙ ap (λ (l : List Need). m.need ∷ l) (all_beyond (before ++ m ∷ []) ms p.1)
  where
    by : (g : Option ℕ) → IsPlaced before m.need g → is_beyond g 0 ≡ true
    by None q = refl
    by (Some g) q = let one : 1 ≤ g = q.from_one in grind (arith, nat_tests)

pub at_first : (needs : List Need) → needs ≡ needs_beyond 0 (number [] needs)
at_first needs = sym (all_beyond [] (number [] needs) (all_placed [] needs) ∙ all_needs [] needs)

pub none_there : (k : ℕ) (before ms : List Member) → ArePlaced before ms → (k ≡ 0) ⊎ (256 < k) → in_group k ms ≡ []
none_there k before [] p out = refl
none_there k before (m ∷ ms) p out = filt (λ (x : Member). is_number x.group k) m ms false (by m.group p.0) ∙ none_there k (before ++ m ∷ []) ms p.1 out
  where
    by : (g : Option ℕ) → IsPlaced before m.need g → is_number g k ≡ false
    by None q = refl
    by (Some g) q =
        let one : 1 ≤ g = q.from_one in
        let most : g ≤ 256 = q.most in
        elim out [ inl z ↦ grind (arith, nat_tests) | inr z ↦ grind (arith, nat_tests) ]

pub none_left : (before ms : List Member) → ArePlaced before ms → needs_beyond 256 ms ≡ in_none ms
none_left before [] p = refl
none_left before (m ∷ ms) p = by (none_left (before ++ m ∷ []) ms p.1) m.group p.0 refl
  where
    by : needs_beyond 256 ms ≡ in_none ms → (g : Option ℕ) → IsPlaced before m.need g → m.group ≡ g → needs_beyond 256 (m ∷ ms) ≡ in_none (m ∷ ms)
    by more None q e = filt (λ (x : Member). is_beyond x.group 256) m ms true (ap (λ (o : Option ℕ). is_beyond o 256) e) ∙ ap (λ (l : List Need). m.need ∷ l) more ∙ sym (filt (λ (x : Member). is_none x.group) m ms true (ap is_none e))
    by more (Some g) q e =
        let most : g ≤ 256 = q.most in
        let test : nat_lt 256 g ≡ false = grind (arith, nat_tests) in
        filt (λ (x : Member). is_beyond x.group 256) m ms false (ap (λ (o : Option ℕ). is_beyond o 256) e ∙ test) ∙ more ∙ sym (filt (λ (x : Member). is_none x.group) m ms false (ap is_none e))

-- where none is beyond a group, none is in a later one, and none in no group
pub none_later : (g k : ℕ) (ms : List Member) → g < k → needs_beyond g ms ≡ [] → in_group k ms ≡ []
none_later g k [] less none = refl
none_later g k (m ∷ ms) less none = by (none_later g k ms less) (is_beyond m.group g) refl
  where
    f : Member → Bool
    f = λ x. is_beyond x.group g

    not_there : (o : Option ℕ) → is_beyond o g ≡ false → is_number o k ≡ false
    not_there None e = refl
    not_there (Some j) e = grind (arith, nat_tests)

    by : (needs_beyond g ms ≡ [] → in_group k ms ≡ []) → (b : Bool) → is_beyond m.group g ≡ b → in_group k (m ∷ ms) ≡ []
    by more true e = let h : m.need ∷ needs_beyond g ms ≡ [] = sym (filt f m ms true e) ∙ none in absurd (cc)
    by more false e = filt (λ (x : Member). is_number x.group k) m ms false (not_there m.group e) ∙ more (sym (filt f m ms false e) ∙ none)

pub none_none : (g : ℕ) (ms : List Member) → needs_beyond g ms ≡ [] → in_none ms ≡ []
none_none g [] none = refl
none_none g (m ∷ ms) none = by (none_none g ms) (is_beyond m.group g) refl
  where
    f : Member → Bool
    f = λ x. is_beyond x.group g

    not_there : (o : Option ℕ) → is_beyond o g ≡ false → is_none o ≡ false
    not_there None e = e
    not_there (Some j) e = refl

    by : (needs_beyond g ms ≡ [] → in_none ms ≡ []) → (b : Bool) → is_beyond m.group g ≡ b → in_none (m ∷ ms) ≡ []
    by more true e = let h : m.need ∷ needs_beyond g ms ≡ [] = sym (filt f m ms true e) ∙ none in absurd (cc)
    by more false e = filt (λ (x : Member). is_none x.group) m ms false (not_there m.group e) ∙ more (sym (filt f m ms false e) ∙ none)
