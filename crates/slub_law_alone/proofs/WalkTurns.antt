-- A worker alone that walks along a chain in hand to its end, and the end of a chain that is led on.
use Rattle.std.proofs.Common.{◌≡◌, ℕ, suc, ◌+◌, ◌-◌, ◌%◌, ◌^◌, ◌<◌, ◌≤◌, ◌⊎◌, ◌||◌, eqb, cond, Bool, true, false, List, [], ◌∷◌, ◌++◌, length, get_or, set, inl, inr, refl, ap, sym, ◌∙◌, subst, arith}
use Rattle.std.proofs.lemmas.Bool.{cases_eq, eq-eqb, ne_eqb}
use Rattle.std.proofs.lemmas.List.{set-get_or}
use Rattle.slub_common.specs.Times.{times}
use Rattle.slub_core.specs.declared.local.Hand.{Hand}
use Rattle.slub_core.specs.declared.spot.Spot.{Spot}
use Rattle.slub_core.specs.declared.spot.Spot.TheVariants.{InPutAway}
use Rattle.slub_core.specs.declared.spot.Away.{Away}
use Rattle.slub_core.specs.declared.spot.PutAwaySpot.TheVariants.{WalkChain, LockAway}
use Rattle.slub_core.specs.declared.step.Answer.TheVariants.{Word}
use Rattle.slub_core.specs.declared.step.Op.TheVariants.{Load}
use Rattle.slub_core.specs.declared.step.Place.TheVariants.{MemoryOf}
use Rattle.slub_core.specs.Setup.{Setup, pointer_at}
use Rattle.slub_core.specs.Words.{memory_base}
use Rattle.slub_core.specs.World.{LockValue, Leads, one_if}
use Rattle.slub_core.specs.Alloc.{reached, walked_on, found_at, way_of_away}
use Rattle.slub_core.specs.Local.{Local, Turn, goes, stays}
use Rattle.slub_core.specs.Run.{turn}
use Rattle.slub_core.specs.Steps.{advance_at, at_once, rested}
use Rattle.slub_core.proofs.Chains.{Leads-small}
use Rattle.slub_core.proofs.Lists.{times-first}
use Rattle.slub_core.proofs.Walks.{walked-more}
use Rattle.slub_law_alone.specs.Alone.{own_pick, alone}
use Rattle.slub_law_alone.proofs.Bits.{keeps_small}
use Rattle.slub_law_alone.proofs.Turns.{machine, turn_goes, settle_goes, then_turn}

-- ---- chains

pub first_there : (x : ℕ) (xs : List ℕ) → 1 ≤ times x (x ∷ xs)
first_there x xs = let c = times-first x x xs in let o : one_if (eqb x x) ≡ 1 = ap one_if (eq-eqb x x refl) in omega (arith, c, o)

-- the last object of a chain that begins with one
abbrev pub last_of : ℕ → List ℕ → ℕ
last_of y [] = y
last_of y (z ∷ zs) = last_of z zs

pub last_there : (y : ℕ) (zs : List ℕ) → 1 ≤ times (last_of y zs) (y ∷ zs)
last_there y [] = first_there y []
last_there y (z ∷ zs) = let c = times-first (last_of z zs) y (z ∷ zs) in let r = last_there z zs in omega (arith, c, r)

-- what is loaded of small pointers is the pointers
pub leads_found : (g next : ℕ → ℕ) (head : ℕ) (xs : List ℕ) → ((i : ℕ) → 1 ≤ times i xs → (suc i < 2 ^ 16) × (next i ≡ g i % 2 ^ 16)) → Leads g head xs 0 → Leads next head xs 0
leads_found g next head [] small is = is
leads_found g next head (x ∷ xs) small is =
    let rest = is.1 in
    let further : (i : ℕ) → 1 ≤ times i xs → (suc i < 2 ^ 16) × (next i ≡ g i % 2 ^ 16) = λ i some. small i (let c = times-first i x xs in omega (arith, c, some)) in
    let same : next x ≡ g x = (small x (first_there x xs)).1 ∙ keeps_small (g x) (Leads-small g (g x) xs (λ i some. (further i some).0) rest) in
    (is.0, subst (λ h. Leads next h xs 0) (sym same) (leads_found g next (g x) xs further rest))

-- a chain whose last object comes to lead to another chain
pub leads_on : (g h : ℕ → ℕ) (head y : ℕ) (zs own : List ℕ) (to : ℕ) → ((i : ℕ) → times i (y ∷ zs) ≤ 1) → ((i : ℕ) → 1 ≤ times i (y ∷ zs) → (i ≡ last_of y zs → ⊥) → h i ≡ g i) → h (last_of y zs) ≡ to → Leads g head (y ∷ zs) 0 → Leads h to own 0 → Leads h head (y ∷ zs ++ own) 0
leads_on g h head y [] own to once same last is rest = (is.0, subst (λ q. Leads h q own 0) (sym last) rest)
leads_on g h head y (z ∷ zs) own to once same last is rest =
    let further = leads_on g h (g y) z zs own to (λ i. let c = times-first i y (z ∷ zs) in let o = once i in omega (arith, c, o)) (λ i some away. same i (let c = times-first i y (z ∷ zs) in omega (arith, c, some)) away) last is.1 rest in
    (is.0, subst (λ q. Leads h q (z ∷ zs ++ own) 0) (sym (same y (first_there y (z ∷ zs)) apart)) further)
  where
    apart : y ≡ last_of z zs → ⊥
    apart e = absurd (let c = times-first y y (z ∷ zs) in let o : one_if (eqb y y) ≡ 1 = ap one_if (eq-eqb y y refl) in let t = subst (λ i. 1 ≤ times i (z ∷ zs)) (sym e) (last_there z zs) in let one = once y in omega (arith, c, o, t, one))

-- ---- the turns

-- a hand whose chain is walked
abbrev pub walked_to : Hand → ℕ → ℕ → Hand
walked_to h last n = record h { last = last; length = n; walked = true }

-- one that was seen so many objects of
abbrev pub seen_of : Hand → ℕ
seen_of h = cond (eqb h.length 0) 1 h.length

module _ (m : Setup) (words : List ℕ) (value : ℕ → LockValue) (ls : List Local) (x : ℕ) (l : Local) (away : Away) (there : x < length ls) where
  -- what is loaded of a free pointer
  abbrev pub next_in : ℕ → ℕ → ℕ
  next_in f i = found_at m l.cache f i (get_or words (memory_base m + pointer_at m l.cache f i) 0)

  abbrev pub walking : Hand → Local
  walking h = record l { hands = h ∷ l.hands; spot = InPutAway WalkChain away }

  abbrev pub at_end : Hand → Local
  at_end h = record l { hands = h ∷ l.hands; spot = InPutAway LockAway away }

  turn_walks : (h h2 : Hand) (y : ℕ) (spot : Spot) → reached h ≡ suc y → walked_on h (next_in h.frame y) ≡ h2 → way_of_away h2 away ≡ spot → at_once m false value (record l { hands = h2 ∷ l.hands; spot = spot }) spot ≡ stays value (record l { hands = h2 ∷ l.hands; spot = spot })
      → rested m (record l { hands = h2 ∷ l.hands; spot = spot }) ≡ record l { hands = h2 ∷ l.hands; spot = spot }
      → turn m (machine words value (set ls x (walking h))) (own_pick x) ≡ machine words value (set ls x (record l { hands = h2 ∷ l.hands; spot = spot }))
  turn_walks h h2 y spot at found way waits rests =
      turn_goes m words words value ls x (walking h) (walking h) (record l { hands = h2 ∷ l.hands; spot = spot }) (record { place = MemoryOf (pointer_at m l.cache h.frame y); op = Load }) (Word q) there refl
      (ap (λ r. record { place = MemoryOf (pointer_at m l.cache h.frame r); op = Load }) before) (set-get_or words (memory_base m + pointer_at m l.cache h.frame y) 0) refl
      (settle_goes m value (walking h) (record l { hands = h2 ∷ l.hands; spot = spot }) (Word q) leads waits rests)
    where
      q : ℕ
      q = get_or words (memory_base m + pointer_at m l.cache h.frame y) 0

      before : reached h - 1 ≡ y
      before = omega (arith, at)

      by : Hand → Turn
      by h = goes (record l { hands = h ∷ l.hands; spot = way_of_away h away })

      leads : advance_at m value (walking h) (InPutAway WalkChain away) (Word q) ≡ goes (record l { hands = h2 ∷ l.hands; spot = spot })
      leads = ap (λ r. by (walked_on h (found_at m l.cache h.frame r q))) before ∙ ap by found ∙ ap (λ spot. goes (record l { hands = h2 ∷ l.hands; spot = spot })) way

  -- it comes to the end, one turn an object
  pub walks_to_end : (zs : List ℕ) (h : Hand) (y : ℕ) → 1 ≤ h.head → h.walked ≡ false → reached h ≡ suc y → Leads (next_in h.frame) (next_in h.frame y) zs 0
      → alone m x (suc (length zs)) (machine words value (set ls x (walking h))) ≡ machine words value (set ls x (at_end (walked_to h (suc (last_of y zs)) (seen_of h + length zs))))
  walks_to_end [] h y head fresh at is =
      then_turn m x 0 (machine words value (set ls x (walking h))) (machine words value (set ls x (at_end (walked_to h (suc y) (seen_of h + 0))))) (machine words value (set ls x (at_end (walked_to h (suc y) (seen_of h + 0)))))
      (turn_walks h (walked_to h (suc y) (seen_of h + 0)) y (InPutAway LockAway away) at ends way refl refl) refl
    where
      ends : walked_on h (next_in h.frame y) ≡ walked_to h (suc y) (seen_of h + 0)
      ends = ap (λ z. cond {A = Hand} z (walked_to h (reached h) (seen_of h)) (record h { last = next_in h.frame y; length = cond (eqb h.length 0) 2 (h.length + 1) })) (eq-eqb (next_in h.frame y) 0 is)
          ∙ (λ i. walked_to h (at i) (none i))
        where
          none : seen_of h ≡ seen_of h + 0
          none = omega arith

      way : way_of_away (walked_to h (suc y) (seen_of h + 0)) away ≡ InPutAway LockAway away
      way = ap (λ z. cond {A = Spot} z (InPutAway LockAway away) (InPutAway WalkChain away)) (either (eqb h.head 0))
        where
          either : (z : Bool) → z || true ≡ true
          either true = refl
          either false = refl
  walks_to_end (z ∷ zs) h y head fresh at is =
      then_turn m x (suc (length zs)) (machine words value (set ls x (walking h))) (machine words value (set ls x (walking further))) (machine words value (set ls x (at_end (walked_to h (suc (last_of z zs)) (seen_of h + length (z ∷ zs))))))
      (turn_walks h further y (InPutAway WalkChain away) at goes_on way refl refl)
      (walks_to_end zs further z head fresh seen_last is.1 ∙ ap (λ n. machine words value (set ls x (at_end (walked_to h (suc (last_of z zs)) n)))) (count ∙ (omega arith)))
    where
      more : ℕ
      more = cond (eqb h.length 0) 2 (h.length + 1)

      further : Hand
      further = record h { last = suc z; length = more }

      goes_on : walked_on h (next_in h.frame y) ≡ further
      goes_on = ap (walked_on h) is.0 ∙ walked-more h (suc z) (omega arith)

      some : eqb more 0 ≡ false
      some = by (eqb h.length 0)
        where
          by : (b : Bool) → eqb (cond b 2 (h.length + 1)) 0 ≡ false
          by true = refl
          by false = ne_eqb (h.length + 1) 0 (λ e. absurd (omega (arith, e)))

      seen_last : reached further ≡ suc z
      seen_last = ap (λ b. cond {A = ℕ} b h.head (suc z)) some

      count : seen_of further + length zs ≡ (seen_of h + 1) + length zs
      count = ap (λ b. cond {A = ℕ} b 1 more + length zs) some ∙ ap (λ n. n + length zs) (by (cases_eq h.length 0))
        where
          by : (h.length ≡ 0) ⊎ (h.length ≡ 0 → ⊥) → more ≡ seen_of h + 1
          by (inl e) = rw (eq-eqb h.length 0 e) refl
          by (inr d) = rw (ne_eqb h.length 0 d) refl

      way : way_of_away further away ≡ InPutAway WalkChain away
      way = rw (ne_eqb h.head 0 (λ e. absurd (omega (arith, e, head))), fresh) refl
