-- A seat is cut in two, and two are made one.
use Rattle.std.proofs.Common.{◌≡◌, ◌≢◌, ◌⊎◌, ℕ, zero, suc, List, [], ◌∷◌, ◌++◌, length, set, refl, sym, ap, ◌∙◌, subst, inl, inr, ⊎_elim, arith, length-set}
use Rattle.std.specs.Prelude.{if◌then◌else◌, ◌==◌, Bool}
use Rattle.std.proofs.lemmas.Bool.{eq-eqb, ne_eqb}
use mathlib.Core.Option.{some, some-injective, some-ne-none}
use lib.ListN.{get_elem?}
use Rattle.atomic_table.specs.Table.{Splits, Joins}
use Rattle.atomic_table.proofs.Lists.{at_set, at_last, at_longer}
use Rattle.slub_workers.specs.Begun.{Begun}
use Rattle.slub_workers.specs.Standing.{Fork}
use Rattle.slub_workers.specs.Rule.{Holds, Owns, IsAbsent, number_in}
use Rattle.slub_workers.specs.Seats.{all_but_last, last_alone}
use Rattle.slub_workers.proofs.Ties.{none_absent}

at_end : (l : List (List Fork)) (a b : List Fork) (j : ℕ) → get_elem? (l ++ a ∷ []) j ≡ some b → (get_elem? l j ≡ some b) ⊎ ((j ≡ length l) × (a ≡ b))
at_end [] a b zero e = inr (refl, some-injective a b e)
at_end [] a b (suc j) e = absurd (some-ne-none b (sym e))
at_end (x ∷ xs) a b zero e = inl e
at_end (x ∷ xs) a b (suc j) e = ⊎_elim (λ h. inl h) (λ (t : (j ≡ length xs) × (a ≡ b)). inr ((let k = t.0 in omega arith), t.1)) (at_end xs a b j e)

-- ---- owners

-- the worker w goes to the seat n, and the others stay
abbrev dealt : (ℕ → ℕ) → ℕ → ℕ → ℕ → ℕ
dealt owner w n k = if k == w then n else owner k

dealt_here : (owner : ℕ → ℕ) (w n : ℕ) → dealt owner w n w ≡ n
dealt_here owner w n = ap (λ (b : Bool). if b then n else owner w) (eq-eqb w w refl)

dealt_else : (owner : ℕ → ℕ) (w n k : ℕ) → k ≢ w → dealt owner w n k ≡ owner k
dealt_else owner w n k apart = ap (λ (b : Bool). if b then n else owner k) (ne_eqb k w apart)

-- what a list with one more in front lacks
absent_more : (w : ℕ) (f : Fork) (v : List Fork) → number_in f ≢ w → IsAbsent w v → IsAbsent w (f ∷ v)
absent_more w f v apart a zero g at = λ e. apart (ap number_in (some-injective f g at) ∙ e)
absent_more w f v apart a (suc k) g at = a k g at

absent_rest : (w : ℕ) (f : Fork) (v : List Fork) → IsAbsent w (f ∷ v) → IsAbsent w v
absent_rest w f v a k g at = a (suc k) g at

absent_end : (w : ℕ) (v : List Fork) (x : Fork) → IsAbsent w v → number_in x ≢ w → IsAbsent w (v ++ x ∷ [])
absent_end w [] x a apart = absent_more w x [] apart (none_absent w)
absent_end w (f ∷ v) x a apart = absent_more w f (v ++ x ∷ []) (a 0 f refl) (absent_end w v x (absent_rest w f v a) apart)

owns_dealt : (owner : ℕ → ℕ) (fs : List Fork) (w n j : ℕ) (v : List Fork) → IsAbsent w v → Owns owner fs j v → Owns (dealt owner w n) fs j v
owns_dealt owner fs w n j [] a o = tt
owns_dealt owner fs w n j (x ∷ v) a o =
    (o.0, dealt_else owner w n (number_in x) (a 0 x refl) ∙ o.1, o.2, owns_dealt owner fs w n j v (absent_rest w x v a) o.3)

-- what a seat has, another hasn't
absent_apart : (owner : ℕ → ℕ) (fs : List Fork) (w id j : ℕ) (v : List Fork) → owner w ≡ id → j ≢ id → Owns owner fs j v → IsAbsent w v
absent_apart owner fs w id j [] mine apart o = none_absent w
absent_apart owner fs w id j (x ∷ v) mine apart o =
    absent_more w x v (λ e. apart (sym o.1 ∙ ap owner e ∙ mine)) (absent_apart owner fs w id j v mine apart o.3)

-- ---- the last worker of a view gets a seat

-- of a view without its last, and of its last
owns_front : (owner : ℕ → ℕ) (fs : List Fork) (id : ℕ) (v : List Fork) (x : Fork) → Owns owner fs id (v ++ x ∷ [])
    → Owns owner fs id v × IsAbsent (number_in x) v × (get_elem? fs (number_in x) ≡ some x) × (owner (number_in x) ≡ id)
owns_front owner fs id [] x o = (tt, none_absent (number_in x), o.0, o.1)
owns_front owner fs id (y ∷ v) x o =
    let r = owns_front owner fs id v x o.3 in
    let apart : number_in x ≢ number_in y = o.2 (length v) x (at_last v x (length v) refl) in (
      (o.0, o.1, (λ k f at. o.2 k f (at_longer v (x ∷ []) k f at)), r.0),
      absent_more (number_in x) y v (λ e. apart (sym e)) r.1,
      r.2,
      r.3,
    )

pub front-snoc : (v : List Fork) (x : Fork) → all_but_last (v ++ x ∷ []) ≡ v
front-snoc [] x = refl
front-snoc (y ∷ []) x = refl
front-snoc (y ∷ z ∷ v) x = ap (λ (t : List Fork). y ∷ t) (front-snoc (z ∷ v) x)

pub end-snoc : (v : List Fork) (x : Fork) → last_alone (v ++ x ∷ []) ≡ x ∷ []
end-snoc [] x = refl
end-snoc (y ∷ []) x = refl
end-snoc (y ∷ z ∷ v) x = end-snoc (z ∷ v) x

deals : (key : Begun) (id : ℕ) (v : List Fork) (x : Fork) → Splits (Holds key) id (v ++ x ∷ []) v (x ∷ [])
deals key id v x s h at =
    let n = length s.views in
    let w = number_in x in
    let own = owns_front h.owner h.forks id v x (h.tied id (v ++ x ∷ []) at) in
    let owner' = dealt h.owner w n in
    let first : Owns owner' h.forks id v = owns_dealt h.owner h.forks w n id v own.1 own.0 in
    record {
      forks = h.forks;
      owner = owner';
      stand = h.stand;
      tied = λ j u e. ⊎_elim
          (λ (old : get_elem? (set s.views id v) j ≡ some u). ⊎_elim
          (λ (t : (j ≡ id) × (v ≡ u)). subst (λ (y : ℕ × List Fork). Owns owner' h.forks y.0 y.1) (λ i. (sym t.0 i, t.1 i)) first)
          (λ (t : (j ≢ id) × (get_elem? s.views j ≡ some u)).
          owns_dealt h.owner h.forks w n j u (absent_apart h.owner h.forks w id j u own.3 t.0 (h.tied j u t.1)) (h.tied j u t.1))
          (at_set s.views id j v u old))
          (λ (t : (j ≡ length (set s.views id v)) × ((x ∷ []) ≡ u)).
          let m : n ≡ j = sym (length-set s.views id v) ∙ sym t.0 in
          subst (λ (y : ℕ × List Fork). Owns owner' h.forks y.0 y.1) (λ i. (m i, t.1 i)) (own.2, dealt_here h.owner w n, none_absent w, tt))
          (at_end (set s.views id v) (x ∷ []) u j e);
      slots = h.slots;
      count = h.count;
    }

pub deals_as : (key : Begun) (id : ℕ) (u v : List Fork) (x : Fork) → u ≡ v ++ x ∷ [] → Splits (Holds key) id u (all_but_last u) (last_alone u)
deals_as key id u v x e =
    subst (λ (t : List Fork). Splits (Holds key) id t (all_but_last t) (last_alone t)) (sym e) (
    subst (λ (t : List Fork). Splits (Holds key) id (v ++ x ∷ []) t (last_alone (v ++ x ∷ []))) (sym (front-snoc v x)) (
    subst (λ (t : List Fork). Splits (Holds key) id (v ++ x ∷ []) v t) (sym (end-snoc v x)) (deals key id v x)
    )
    )

-- ---- a worker's seat goes back

owns_more : (owner : ℕ → ℕ) (fs : List Fork) (id : ℕ) (v : List Fork) (x : Fork) → Owns owner fs id v → IsAbsent (number_in x) v → get_elem? fs (number_in x) ≡ some x → owner (number_in x) ≡ id
    → Owns owner fs id (v ++ x ∷ [])
owns_more owner fs id [] x o a there mine = (there, mine, none_absent (number_in x), tt)
owns_more owner fs id (y ∷ v) x o a there mine =
    let apart : number_in x ≢ number_in y = λ e. a 0 y refl (sym e) in
    (o.0, o.1, absent_end (number_in y) v x o.2 apart, owns_more owner fs id v x o.3 (absent_rest (number_in x) y v a) there mine)

returns : (key : Begun) (id other : ℕ) (v : List Fork) (f : Fork) → Joins (Holds key) id v other (f ∷ []) (v ++ f ∷ []) []
returns key id other v f s h at apart there =
    let both = v ++ f ∷ [] in
    let w = number_in f in
    let theirs : get_elem? s.views other ≡ some (f ∷ []) = ⊎_elim
    (λ (t : (other ≡ id) × (both ≡ f ∷ [])). absurd (apart t.0))
    (λ (t : (other ≢ id) × (get_elem? s.views other ≡ some (f ∷ []))). t.1)
    (at_set s.views id other both (f ∷ []) there) in
    let own = h.tied other (f ∷ []) theirs in
    let mine = h.tied id v at in
    let owner' = dealt h.owner w id in
    let gone : IsAbsent w v = absent_apart h.owner h.forks w other id v own.1 (λ e. apart (sym e)) mine in
    let first : Owns owner' h.forks id both = owns_more owner' h.forks id v f (owns_dealt h.owner h.forks w id id v gone mine) gone own.0 (dealt_here h.owner w id) in
    let rest : (j : ℕ) (u : List Fork) → j ≢ other → get_elem? s.views j ≡ some u → Owns owner' h.forks j u = λ j u far e.
    owns_dealt h.owner h.forks w id j u (absent_apart h.owner h.forks w other j u own.1 far (h.tied j u e)) (h.tied j u e) in
    record {
      forks = h.forks;
      owner = owner';
      stand = h.stand;
      tied = λ j u e. ⊎_elim
          (λ (t : (j ≡ other) × ([] ≡ u)). subst (λ (y : List Fork). Owns owner' h.forks j y) t.1 tt)
          (λ (t : (j ≢ other) × (get_elem? (set s.views id both) j ≡ some u)). ⊎_elim
          (λ (q : (j ≡ id) × (both ≡ u)). subst (λ (y : ℕ × List Fork). Owns owner' h.forks y.0 y.1) (λ i. (sym q.0 i, q.1 i)) first)
          (λ (q : (j ≢ id) × (get_elem? s.views j ≡ some u)). rest j u t.0 q.1)
          (at_set s.views id j both u t.1))
          (at_set (set s.views id both) other j [] u e);
      slots = h.slots;
      count = h.count;
    }

pub returns_as : (key : Begun) (id other : ℕ) (v u : List Fork) (f : Fork) → u ≡ f ∷ [] → Joins (Holds key) id v other u (v ++ u) []
returns_as key id other v u f view =
    subst (λ (t : List Fork). Joins (Holds key) id v other t (v ++ t) []) (sym view) (returns key id other v f)
