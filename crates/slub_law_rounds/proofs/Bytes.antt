-- What the steps on the slabs of a checked cache do to single bytes of slots.
use Rattle.std.proofs.Common.{◌≡◌, ◌≢◌, ℕ, zero, suc, ◌+◌, ◌-◌, ◌*◌, ◌<◌, ◌≤◌, ◌/◌, ◌&&◌, ◌||◌, Bool, true, false, List, [], ◌∷◌, ◌++◌, length, take, drop, get_or, refl, sym, ◌∙◌, ap, subst, arith, All, inl, inr, ◌⊎◌, fold, ℤ, T}
use Rattle.std.specs.List.{Contains}
use Rattle.std.proofs.lemmas.Bool.Decides.{nat_tests}
use Rattle.std.proofs.lemmas.List.Elements.{All-head, All-tail, Contains-append_cases, Contains-append_left, Contains-append_right}
use Rattle.std.specs.Prelude.{if◌then◌else◌, nat_lt, pos, ◌+ℤ◌, ◌<ℤ◌, nat_abs}
use Rattle.std.specs.Int.Signed.{pos-nat_abs, yes_non_neg}
use Rattle.std.proofs.Math.IntN.{+ℤ_assoc, pos-+ℤ-pos}
use Rattle.std.proofs.lemmas.Bool.{cases_lt}
use Rattle.std.proofs.lemmas.Grind.{common_steps}
use Rattle.std.proofs.lemmas.Nat.{row_fits}
use Rattle.slub_red_zone.specs.declared.zones.Part.{Part}
use Rattle.slub_object_layout.specs.declared.layout.Flags.{Flags}
use Rattle.slub_object_layout.specs.declared.layout.Layout.{Layout}
use Rattle.slub_object_layout.specs.Layout.{address_of, align_down, inuse_of, offset_of}
use Rattle.slub_red_zone.specs.Sound.{IsLayoutFor}
use Rattle.slub_red_zone.specs.Steps.{IsOffset, place_of}
use Rattle.slub_red_zone.specs.Zones.{examined_free, examined_used, left_zone, padding, padding_byte, padding_part, poison, poison_but_end, poison_byte, poison_end, poison_last, red_active, red_inactive, red_zones, right_zone, set_up, with_part, written}

-- ---- a piece of a list is another

pub piece-before : (xs new : List ℕ) (a n k : ℕ) → a + n ≤ length xs → k < a → get_or (take a xs ++ new ++ drop (a + n) xs) k 0 ≡ get_or xs k 0
piece-before xs new a n k fits before = grind (arith, common_steps)

pub piece-here : (xs new : List ℕ) (a n k : ℕ) → length new ≡ n → a + n ≤ length xs → a ≤ k → k < a + n → get_or (take a xs ++ new ++ drop (a + n) xs) k 0 ≡ get_or new (k - a) 0
piece-here xs new a n k long fits from below = grind (arith, common_steps)

pub piece-behind : (xs new : List ℕ) (a n k : ℕ) → length new ≡ n → a + n ≤ length xs → a + n ≤ k → get_or (take a xs ++ new ++ drop (a + n) xs) k 0 ≡ get_or xs k 0
piece-behind xs new a n k long fits behind = grind (arith, common_steps)

pub piece-length : (xs new : List ℕ) (a n : ℕ) → length new ≡ n → a + n ≤ length xs → length (take a xs ++ new ++ drop (a + n) xs) ≡ length xs
piece-length xs new a n long fits = grind (arith, common_steps)

-- ---- rows of a list

-- a place in another row is another place
pub other-row : (size i j p q : ℕ) → i ≢ j → p < size → q < size → (j * size + q < i * size) ⊎ (i * size + size ≤ j * size + q)
other-row size i j p q differ within inside = elim (cases_lt j i) [
  | inl less ↦ inl (omega (arith, row_fits j size i size less (omega arith), inside))
  | inr more ↦ inr (omega (arith, row_fits i size j size (let before : i < j = omega (arith, more, differ) in before) (omega arith)))
]

-- ---- parts of a slot

-- the part has this place
abbrev pub Has : Part → ℕ → Type 0
Has part p = (part.from ≤ p) × (p < part.to)

-- the part lies in a slot of so many bytes
abbrev pub Lies : ℕ → Part → Type 0
Lies size part = (part.from ≤ part.to) × (part.to ≤ size)

part-length : (slot : List ℕ) (part : Part) → Lies (length slot) part → length (with_part slot part) ≡ length slot
part-length slot part lies = grind (arith, common_steps)

part-here : (slot : List ℕ) (part : Part) (p : ℕ) → Lies (length slot) part → Has part p → get_or (with_part slot part) p 0 ≡ part.wanted
part-here slot part p lies has = grind (arith, common_steps)

part-other : (slot : List ℕ) (part : Part) (p : ℕ) → Lies (length slot) part → (p < part.from) ⊎ (part.to ≤ p) → get_or (with_part slot part) p 0 ≡ get_or slot p 0
part-other slot part p lies (inl before) = grind (arith, common_steps)
part-other slot part p lies (inr behind) = grind (arith, common_steps)

-- ---- the parts that are checked

-- a part of a slot that is examined, or written with this byte in its red zones
pub data Piece (layout : Layout) (flags : Flags) (byte : ℕ) (part : Part) : Type 0 where
  left : flags.zones ≡ true → part ≡ left_zone layout byte → Piece layout flags byte part
  right : flags.zones ≡ true → part ≡ right_zone layout byte → Piece layout flags byte part
  body : flags.poison ≡ true → part ≡ poison_but_end layout → Piece layout flags byte part
  last : flags.poison ≡ true → part ≡ poison_last layout → Piece layout flags byte part
  pad : flags.poison ≡ true → part ≡ padding_part layout → Piece layout flags byte part

in-two : (b : Bool) (x y part : Part) → Contains (if b then (x ∷ y ∷ []) else []) part → (b ≡ true) × ((part ≡ x) ⊎ (part ≡ y))
in-two true x y part (zero, within, is) = (refl, inl (sym is))
in-two true x y part (suc zero, within, is) = (refl, inr (sym is))
in-two true x y part (suc (suc k), within, is) = absurd (omega (arith, within))
in-two false x y part (k, within, is) = absurd (omega (arith, within))

pub in-one : (b : Bool) (x part : Part) → Contains (if b then (x ∷ []) else []) part → (b ≡ true) × (part ≡ x)
in-one true x part (zero, within, is) = (refl, sym is)
in-one true x part (suc k, within, is) = absurd (omega (arith, within))
in-one false x part (k, within, is) = absurd (omega (arith, within))

module _ (layout : Layout) (flags : Flags) (byte : ℕ) (part : Part) where
  of-red : Contains (red_zones layout flags byte) part → Piece layout flags byte part
  of-red there =
      let is = in-two flags.zones (left_zone layout byte) (right_zone layout byte) part there in
      elim is.1 [ inl e ↦ left is.0 e | inr e ↦ right is.0 e ]

  of-poison : Contains (poison layout flags) part → Piece layout flags byte part
  of-poison there =
      let is = in-two flags.poison (poison_but_end layout) (poison_last layout) part there in
      elim is.1 [ inl e ↦ body is.0 e | inr e ↦ last is.0 e ]

  of-padding : Contains (padding layout flags) part → Piece layout flags byte part
  of-padding there = let is = in-one flags.poison (padding_part layout) part there in pad is.0 is.1

  pub piece-written : Contains (written layout flags byte) part → Piece layout flags byte part
  piece-written there = elim (Contains-append_cases (red_zones layout flags byte) (poison layout flags) part there) [
    | inl red ↦ of-red red
    | inr poisoned ↦ of-poison poisoned
  ]

pub piece-free : (layout : Layout) (flags : Flags) (part : Part) → Contains (examined_free layout flags) part → Piece layout flags red_inactive part
piece-free layout flags part there = elim (Contains-append_cases (red_zones layout flags red_inactive ++ poison layout flags) (padding layout flags) part there) [
  | inl first ↦ piece-written layout flags red_inactive part first
  | inr padded ↦ of-padding layout flags red_inactive part padded
]

-- of a used object the object's own bytes aren't examined
abbrev pub IsOutside : Layout → Part → Type 0
IsOutside layout part = (p : ℕ) → Has part p → (p < layout.left_pad) ⊎ (layout.left_pad + layout.object_size ≤ p)

module _ (layout : Layout) (flags : Flags) (good : IsLayoutFor flags layout) where
  -- where the free pointer is behind the object it follows the right red zone
  pub pointer-behind : flags.poison ≡ true → layout.offset ≡ layout.inuse
  unfolding offset_of
  pointer-behind poisoned =
      let mine : good.spec.flags.poison ≡ true = ap (λ (f : Flags). f.poison) good.same_flags ∙ poisoned in
      good.solved.offset ∙ ap (λ b. if b || (good.spec.flags.zones && nat_lt good.spec.size 8) then inuse_of good.spec else align_down (good.spec.size / 2) 8) mine ∙ sym good.solved.inuse

  -- the parts lie in the slot
  pub lies : (byte : ℕ) (part : Part) → Piece layout flags byte part → Lies layout.size part
  lies byte part (left zones is) = rw is (omega arith, omega (arith, good.bounds.left_pad))
  lies byte part (right zones is) = rw is (omega (arith, good.bounds.inuse.0), omega (arith, good.bounds.inuse.1, good.bounds.left_pad))
  lies byte part (body poisoned is) = rw is (omega (arith, good.bounds.object_size.0), omega (arith, good.bounds.inuse.0, good.bounds.inuse.1, good.bounds.left_pad))
  lies byte part (last poisoned is) = rw is (omega arith, omega (arith, good.bounds.object_size.0, good.bounds.inuse.0, good.bounds.inuse.1, good.bounds.left_pad))
  lies byte part (pad poisoned is) = rw is (omega (arith, good.bounds.offset, good.bounds.left_pad), omega arith)

  pub outside-used : (part : Part) → Contains (examined_used layout flags) part → Piece layout flags red_active part × IsOutside layout part
  outside-used part there = elim (Contains-append_cases (red_zones layout flags red_active) (padding layout flags) part there) [
    | inl red ↦
        let is = in-two flags.zones (left_zone layout red_active) (right_zone layout red_active) part red in
        elim is.1 [
          | inl e ↦ (left is.0 e, λ p has. inl (let below : p < part.to = has.1 in omega (arith, below, ap (λ (q : Part). q.to) e)))
          | inr e ↦ (right is.0 e, λ p has. inr (let from : part.from ≤ p = has.0 in omega (arith, from, ap (λ (q : Part). q.from) e)))
        ]
    | inr padded ↦
        let is = in-one flags.poison (padding_part layout) part padded in
        (pad is.0 is.1, λ p has. inr (let from : part.from ≤ p = has.0 in omega (arith, from, ap (λ (q : Part). q.from) is.1, pointer-behind is.0, good.bounds.inuse.0)))
  ]

  -- what is wanted at a place of a slot whose red zones have this byte
  abbrev wanted-at : ℕ → ℕ → ℕ
  wanted-at byte p =
      if nat_lt p layout.left_pad then byte else
      (if nat_lt p (layout.left_pad + layout.object_size - 1) then poison_byte else
      (if nat_lt p (layout.left_pad + layout.object_size) then poison_end else
      (if nat_lt p (layout.left_pad + layout.inuse) then byte else padding_byte)))

  pub piece-wants : (byte : ℕ) (part : Part) (p : ℕ) → Piece layout flags byte part → Has part p → part.wanted ≡ wanted-at byte p
  piece-wants byte part p (left zones is) has =
      let below : p < layout.left_pad = omega (arith, has.1, ap (λ (q : Part). q.to) is) in
      ap (λ (q : Part). q.wanted) is ∙ (let e : byte ≡ wanted-at byte p = grind (arith, nat_tests, below) in e)
  piece-wants byte part p (right zones is) has =
      let from : layout.left_pad + layout.object_size ≤ p = omega (arith, has.0, ap (λ (q : Part). q.from) is) in
      let below : p < layout.left_pad + layout.inuse = omega (arith, has.1, ap (λ (q : Part). q.to) is) in
      let some = good.bounds.object_size.0 in
      ap (λ (q : Part). q.wanted) is ∙ (let e : byte ≡ wanted-at byte p = grind (arith, nat_tests, from, below, some) in e)
  piece-wants byte part p (body poisoned is) has =
      let from : layout.left_pad ≤ p = omega (arith, has.0, ap (λ (q : Part). q.from) is) in
      let below : p < layout.left_pad + layout.object_size - 1 = omega (arith, has.1, ap (λ (q : Part). q.to) is) in
      ap (λ (q : Part). q.wanted) is ∙ (let e : poison_byte ≡ wanted-at byte p = grind (arith, nat_tests, from, below) in e)
  piece-wants byte part p (last poisoned is) has =
      let from : layout.left_pad + layout.object_size - 1 ≤ p = omega (arith, has.0, ap (λ (q : Part). q.from) is) in
      let below : p < layout.left_pad + layout.object_size = omega (arith, has.1, ap (λ (q : Part). q.to) is) in
      let some = good.bounds.object_size.0 in
      ap (λ (q : Part). q.wanted) is ∙ (let e : poison_end ≡ wanted-at byte p = grind (arith, nat_tests, from, below, some) in e)
  piece-wants byte part p (pad poisoned is) has =
      let from : layout.left_pad + layout.inuse ≤ p = omega (arith, has.0, ap (λ (q : Part). q.from) is, pointer-behind poisoned) in
      let some = good.bounds.inuse.0 in
      ap (λ (q : Part). q.wanted) is ∙ (let e : padding_byte ≡ wanted-at byte p = grind (arith, nat_tests, from, some) in e)

  -- parts that have a place in common want the same byte there
  pub same-wanted : (byte : ℕ) (one other : Part) (p : ℕ) → Piece layout flags byte one → Piece layout flags byte other → Has one p → Has other p → one.wanted ≡ other.wanted
  same-wanted byte one other p first second has also = piece-wants byte one p first has ∙ sym (piece-wants byte other p second also)

-- ---- a slot is set up

-- where each part that has the place wants a byte, and the byte stands there or one has the place, it stands there after
pub parts-at : (parts : List Part) (slot : List ℕ) (p w : ℕ) → All (Lies (length slot)) parts → ((part : Part) → Contains parts part → Has part p → part.wanted ≡ w)
    → (get_or slot p 0 ≡ w) ⊎ ((part : Part) × Contains parts part × Has part p) → get_or (fold with_part slot parts) p 0 ≡ w
parts-at [] slot p w lie want (inl is) = is
parts-at [] slot p w lie want (inr (part, there, has)) = absurd (omega (arith, there.1))
parts-at (first ∷ parts) slot p w lie want start =
    parts-at parts (with_part slot first) p w
    (subst (λ n. All (Lies n) parts) (sym (part-length slot first mine)) (All-tail (Lies (length slot)) first parts lie))
    (λ part there has. want part (suc there.0, omega (arith, there.1), there.2) has) (next (cases_lt p first.from) (cases_lt p first.to) start)
  where
    mine : Lies (length slot) first
    mine = All-head (Lies (length slot)) first parts lie

    here : Has first p → get_or (with_part slot first) p 0 ≡ w
    here has = part-here slot first p mine has ∙ want first (0, omega arith, refl) has

    other : ((p < first.from) ⊎ (first.to ≤ p)) → (get_or slot p 0 ≡ w) ⊎ ((part : Part) × Contains (first ∷ parts) part × Has part p)
        → (get_or (with_part slot first) p 0 ≡ w) ⊎ ((part : Part) × Contains parts part × Has part p)
    other out (inl is) = inl (part-other slot first p mine out ∙ is)
    other (inl out) (inr (part, (zero, within, same), has)) = absurd (let from : part.from ≤ p = has.0 in omega (arith, out, from, ap (λ (q : Part). q.from) same))
    other (inr out) (inr (part, (zero, within, same), has)) = absurd (let below : p < part.to = has.1 in omega (arith, out, below, ap (λ (q : Part). q.to) same))
    other out (inr (part, (suc k, within, same), has)) = inr (part, (k, omega (arith, within), same), has)

    next : (p < first.from) ⊎ (first.from ≤ p) → (p < first.to) ⊎ (first.to ≤ p) → (get_or slot p 0 ≡ w) ⊎ ((part : Part) × Contains (first ∷ parts) part × Has part p)
        → (get_or (with_part slot first) p 0 ≡ w) ⊎ ((part : Part) × Contains parts part × Has part p)
    next (inl before) to from = other (inl before) from
    next (inr from) (inl below) whole = inl (here (from, below))
    next (inr from) (inr behind) whole = other (inr behind) whole

parts-length : (parts : List Part) (slot : List ℕ) → All (Lies (length slot)) parts → length (fold with_part slot parts) ≡ length slot
parts-length [] slot lie = refl
parts-length (part ∷ parts) slot lie =
    let same = part-length slot part (All-head (Lies (length slot)) part parts lie) in
    parts-length parts (with_part slot part) (subst (λ n. All (Lies n) parts) (sym same) (All-tail (Lies (length slot)) part parts lie)) ∙ same

module _ (layout : Layout) (flags : Flags) (good : IsLayoutFor flags layout) (byte : ℕ) (slot : List ℕ) (long : length slot ≡ layout.size) where
  all-lie : All (Lies (length slot)) (written layout flags byte)
  all-lie k d within =
      let part = get_or (written layout flags byte) k d in
      subst (λ n. Lies n part) (sym long) (lies layout flags good byte part (piece-written layout flags byte part (k, within, own-default (written layout flags byte) k d within)))
    where
      own-default : (xs : List Part) (k : ℕ) (d : Part) → k < length xs → get_or xs k (get_or xs k d) ≡ get_or xs k d
      own-default [] k d within = absurd (omega (arith, within))
      own-default (x ∷ xs) zero d within = refl
      own-default (x ∷ xs) (suc k) d within = own-default xs k d (omega (arith, within))

  pub set-up-length : length (set_up layout flags byte slot) ≡ layout.size
  unfolding set_up
  set-up-length = parts-length (written layout flags byte) slot all-lie ∙ long

  -- what is written lies before the padding
  written-before : (part : Part) (p : ℕ) → Contains (written layout flags byte) part → Has part p → p < layout.left_pad + layout.inuse
  written-before part p there has = elim (Contains-append_cases (red_zones layout flags byte) (poison layout flags) part there) [
    | inl red ↦
        let is = in-two flags.zones (left_zone layout byte) (right_zone layout byte) part red in
        let below : p < part.to = has.1 in
        elim is.1 [
          | inl e ↦ omega (arith, below, ap (λ (q : Part). q.to) e)
          | inr e ↦ omega (arith, below, ap (λ (q : Part). q.to) e)
        ]
    | inr poisoned ↦
        let is = in-two flags.poison (poison_but_end layout) (poison_last layout) part poisoned in
        let below : p < part.to = has.1 in
        elim is.1 [
          | inl e ↦ omega (arith, below, ap (λ (q : Part). q.to) e, good.bounds.inuse.0)
          | inr e ↦ omega (arith, below, ap (λ (q : Part). q.to) e, good.bounds.inuse.0)
        ]
  ]

  -- each part that is written is as it is wanted
  written-at : (part : Part) (p : ℕ) → Contains (written layout flags byte) part → Has part p → get_or (set_up layout flags byte slot) p 0 ≡ part.wanted
  unfolding set_up
  written-at part p there has =
      parts-at (written layout flags byte) slot p part.wanted all-lie
      (λ other among also. same-wanted layout flags good byte other part p (piece-written layout flags byte other among) (piece-written layout flags byte part there) also has)
      (inr (part, there, has))

  -- and the padding stays
  padding-at : (p : ℕ) → layout.left_pad + layout.inuse ≤ p → get_or (set_up layout flags byte slot) p 0 ≡ get_or slot p 0
  unfolding set_up
  padding-at p past =
      parts-at (written layout flags byte) slot p (get_or slot p 0) all-lie (λ other among also. absurd (omega (arith, past, written-before other p among also))) (inl refl)

  pub set-up-at : (part : Part) (p : ℕ) → Piece layout flags byte part → Has part p
      → (get_or (set_up layout flags byte slot) p 0 ≡ part.wanted) ⊎ (Contains (padding layout flags) part × (get_or (set_up layout flags byte slot) p 0 ≡ get_or slot p 0))
  set-up-at part p (left zones is) has = inl (written-at part p (Contains-append_left (red_zones layout flags byte) (poison layout flags) part (rw (zones, is) (0, omega arith, refl))) has)
  set-up-at part p (right zones is) has = inl (written-at part p (Contains-append_left (red_zones layout flags byte) (poison layout flags) part (rw (zones, is) (1, omega arith, refl))) has)
  set-up-at part p (body poisoned is) has = inl (written-at part p (Contains-append_right (red_zones layout flags byte) (poison layout flags) part (rw (poisoned, is) (0, omega arith, refl))) has)
  set-up-at part p (last poisoned is) has = inl (written-at part p (Contains-append_right (red_zones layout flags byte) (poison layout flags) part (rw (poisoned, is) (1, omega arith, refl))) has)
  set-up-at part p (pad poisoned is) has =
      let from : layout.left_pad + layout.inuse ≤ p = omega (arith, has.0, ap (λ (q : Part). q.from) is, pointer-behind layout flags good poisoned) in
      inr (rw (poisoned, is) (0, omega arith, refl), padding-at p from)

-- ---- a byte at an offset

less-of : (a b : ℕ) → pos a <ℤ pos b → a < b
less-of a b below = by (nat_lt a b) refl below.lt
  where
    by : (c : Bool) → nat_lt a b ≡ c → T c → a < b
    by true is yes_true = grind (arith, nat_tests, is)
    by false is never = absurd never

-- a byte inside a slot has its place
pub offset-place : (layout : Layout) (offset : ℤ) → IsOffset layout offset → (nat_abs (place_of layout offset) < layout.size) × (pos (nat_abs (place_of layout offset)) ≡ place_of layout offset)
offset-place layout offset inside =
    let is : pos (nat_abs (place_of layout offset)) ≡ place_of layout offset = pos-nat_abs (place_of layout offset) (yes_non_neg inside.0) in
    (let below : pos (nat_abs (place_of layout offset)) <ℤ pos layout.size = subst (λ z. z <ℤ pos layout.size) (sym is) inside.1 in less-of (nat_abs (place_of layout offset)) layout.size below, is)

-- and its address
pub poke-address : (layout : Layout) (frame index : ℕ) (offset : ℤ) → IsOffset layout offset → pos (address_of frame index layout) +ℤ offset ≡ pos (frame * 4096 + index * layout.size + nat_abs (place_of layout offset))
poke-address layout frame index offset inside = by (frame * 4096 + index * layout.size) layout.left_pad (nat_abs (place_of layout offset)) (offset-place layout offset inside).1
  where
    by : (b l q : ℕ) → pos q ≡ pos l +ℤ offset → pos (b + l) +ℤ offset ≡ pos (b + q)
    by b l q is = ap (λ z. z +ℤ offset) (sym (pos-+ℤ-pos b l)) ∙ +ℤ_assoc (pos b) (pos l) offset ∙ ap (λ z. pos b +ℤ z) (sym is) ∙ pos-+ℤ-pos b q
