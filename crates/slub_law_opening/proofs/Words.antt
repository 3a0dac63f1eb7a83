-- What the words of frames say of the slabs of a coherent machine that they rest in.
use Rattle.std.proofs.Common.{◌≡◌, ℕ, zero, suc, ◌+◌, ◌-◌, ◌<◌, ◌≤◌, Bool, true, false, List, [], ◌∷◌, length, get_or, Option, Some, None, inl, inr, refl, ap, sym, ◌∙◌, subst, arith, sum_by}
use Rattle.std.specs.Prelude.{nat_lt, is_some, IsTrue, ◌↔◌}
use Rattle.std.proofs.lemmas.Bool.{cases_eq, cases_lt, cases_Bool, lt-ltb, le-ltb}
use Rattle.slub_common.specs.Times.{times}
use Rattle.slub_common.proofs.Sums.{element-counted}
use Rattle.slub_red_zone.specs.State.{CheckedState}
use Rattle.slub_words.specs.declared.slab.SlabWord.{SlabWord}
use Rattle.slub_lists.specs.declared.lists.Slab.{Slab}
use Rattle.slub_lists.specs.State.{State}
use Rattle.slub_lists.specs.Alloc.{slab_of, own_free, cache_of, checked_of, node_of}
use Rattle.slub_lists.specs.Coherent.{IsConsistent, times_current, times_partial}
use Rattle.slub_lists.proofs.CheckedSlabs.{at_some}
use Rattle.slub_lists.proofs.Listed.{unlisted-unused}
use Rattle.slub_lists.proofs.Places.{checked-unfrozen, listed-is}
use Rattle.slub_core.specs.Setup.{Setup}
use Rattle.slub_core.specs.Local.{Worker}
use Rattle.slub_core.specs.World.{World, LockValue, IsChain, size_in, one_if, objects_at}
use Rattle.slub_core.proofs.StepValues.{in-value, word-objects, word-cache, unworded-cache, unworded-objects}
use Rattle.slub_law_opening.specs.Opening.{Beside, value_of, node_value}
use Rattle.slub_law_opening.specs.Rests.{Rests}
use Rattle.slub_law_opening.proofs.Sums.{sum_by-below, positive-term}
use Rattle.slub_law_opening.proofs.Counts.{IsSeen, locals_of}

-- ---- freelists and their heads

pub chain-empty : (next : ℕ → ℕ) (head : ℕ) (xs : List ℕ) → IsChain next head xs → length xs ≡ 0 → head ≡ 0
chain-empty next head [] c e = c
chain-empty next head (x ∷ xs) c e = absurd (omega arith)

pub chain-none : (next : ℕ → ℕ) (head : ℕ) (xs : List ℕ) → IsChain next head xs → head ≡ 0 → xs ≡ []
chain-none next head [] c e = refl
chain-none next head (x ∷ xs) c e = absurd (omega (arith, e, c.0))

pub chain-some : (next : ℕ → ℕ) (head : ℕ) (xs : List ℕ) → IsChain next head xs → 0 < length xs → 1 ≤ head
chain-some next head [] c l = absurd (omega arith)
chain-some next head (x ∷ xs) c l = omega (arith, c.0)

pub none-of : (xs : List ℕ) → length xs ≡ 0 → xs ≡ []
none-of [] e = refl
none-of (x ∷ xs) e = absurd (omega arith)

-- ---- values of locks

-- a value with a slab is of a checked cache
pub value-checked : (s : State) (n f : ℕ) → 1 ≤ size_in (value_of s n) f → (c : CheckedState) × (checked_of s (n - 1) ≡ Some c) × (1 ≤ n)
value-checked s zero f some = absurd (omega arith)
value-checked s (suc k) f some = go (checked_of s k) refl some
  where
    list : (b : Bool) (fs : List ℕ) → size_in (node_value b None fs) f ≡ 0
    list true fs = refl
    list false fs = refl

    go : (o : Option CheckedState) → checked_of s k ≡ o → 1 ≤ size_in (node_value (is_some (cache_of s k)) o (node_of s k)) f → (c : CheckedState) × (checked_of s (suc k - 1) ≡ Some c) × (1 ≤ suc k)
    go None e some = absurd (let z = list (is_some (cache_of s k)) (node_of s k) in omega arith)
    go (Some c) e some = (c, ap (checked_of s) (let q : suc k - 1 ≡ k = omega arith in q) ∙ e, omega arith)

-- ---- slab words, by cases

-- a word of no slab
pub record IsNoWord (c : SlabWord) : Type 0 where
  pub objects : c.objects ≡ 0
  pub head : c.head ≡ 0
  pub frozen : c.frozen ≡ false
  pub listed : c.listed ≡ false

-- the word of an unchecked slab
pub record IsPlainWord (s : State) (f : ℕ) (x : Slab) (c : SlabWord) : Type 0 where
  pub some : 1 ≤ c.objects
  pub objects : c.objects ≡ x.objects
  pub cache : c.cache ≡ x.cache
  pub frozen : c.frozen ≡ x.frozen
  pub listed : c.listed ≡ nat_lt 0 (times f (node_of s x.cache))
  pub stocked : 0 < length (own_free s f) → 1 ≤ c.head
  pub used : length (own_free s f) ≡ 0 → c.head ≡ 0

pub data IsWordAt (s : State) (f : ℕ) (c : SlabWord) : Type 0 where
  is_bare : own_free s f ≡ [] → times_current s f + times_partial s f ≡ 0 → IsNoWord c → ((x : Slab) → slab_of s f ≡ Some x → checked_of s x.cache ≡ None → ⊥) → IsWordAt s f c
  is_plain : (x : Slab) → slab_of s f ≡ Some x → checked_of s x.cache ≡ None → IsPlainWord s f x c → IsWordAt s f c

module _ (s : State) (b : Beside) (w : World) (xs : List Worker) (consistent : IsConsistent s) (rests : Rests s b w (locals_of xs))
    (seen : (f : ℕ) (x : Slab) → slab_of s f ≡ Some x → IsSeen w f x) (unseen : (f : ℕ) → slab_of s f ≡ None → objects_at w f ≡ 0) where
  locks : w.setup.locks ≡ 33
  locks = ap (λ (m : Setup). m.locks) rests.setup

  pub node-le : (k f : ℕ) → times f (node_of s k) ≤ times_partial s f
  node-le k f = omega (arith, element-counted (times f) s.nodes k [] refl)

  -- a slab without a word is a checked cache's
  pub unworded-checked : (f : ℕ) (x : Slab) → slab_of s f ≡ Some x → (w.slab f).objects ≡ 0 → (c : CheckedState) × (checked_of s x.cache ≡ Some c)
  unworded-checked f x e none =
      let t = seen f x e in
      let o = unworded-objects w f none in
      let r = in-value w.value w.setup.locks f (omega (arith, o, t.objects, t.some)) in
      let v = rests.values r.lock (omega (arith, r.below, locks)) in
      let c = value-checked s r.lock f (subst (λ (v : LockValue). 1 ≤ size_in v f) v r.some) in
      (c.0, ap (checked_of s) (sym t.cache ∙ unworded-cache w f none ∙ r.cache) ∙ c.1)

  pub word-at : (f : ℕ) → IsWordAt s f (w.slab f)
  word-at f = elim (cases_lt 0 (w.slab f).objects) [
    | inr g ↦
        let none : (w.slab f).objects ≡ 0 = omega arith in
        let own = rests.own f in
        let empty = none-of (own_free s f) (omega (arith, own.in_use, none)) in
        let away = go none (slab_of s f) refl in
        is_bare empty away.0 (record {
          objects = none;
          head = chain-empty _ (w.slab f).head (own_free s f) own.chain (ap (length {A = ℕ}) empty);
          frozen = rests.unslabbed f none;
          listed = rests.listed f ∙ le-ltb 0 (times f (node_of s (w.slab f).cache)) (omega (arith, node-le (w.slab f).cache f, away.0));
        }) away.1
    | inl l ↦
        let o = word-objects w f l in
        by (slab_of s f) refl (omega (arith, o)) l
  ]
    where
      go : (w.slab f).objects ≡ 0 → (x : Option Slab) → slab_of s f ≡ x → (times_current s f + times_partial s f ≡ 0) × ((x : Slab) → slab_of s f ≡ Some x → checked_of s x.cache ≡ None → ⊥)
      go none None e = (unlisted-unused s f e consistent.listed, λ y at plain. cc (at, e))
      go none (Some x) e =
          let c = unworded-checked f x e none in
          ((checked-unfrozen s f x c.0 consistent e c.1).1, λ y at plain. (let d = unworded-checked f y at none in cc (d.1, plain)))

      by : (x : Option Slab) → slab_of s f ≡ x → 1 ≤ objects_at w f → 1 ≤ (w.slab f).objects → IsWordAt s f (w.slab f)
      by None e some l = absurd (let z = unseen f e in omega arith)
      by (Some x) e some l =
          let t = seen f x e in
          let own = rests.own f in
          let c : (w.slab f).cache ≡ x.cache = sym (word-cache w f l) ∙ t.cache in
          is_plain x e (ap (checked_of s) (sym c) ∙ rests.unchecked f l) (record {
            some = l;
            objects = sym (word-objects w f l) ∙ t.objects;
            cache = c;
            frozen = t.frozen;
            listed = rests.listed f ∙ ap (λ k. nat_lt 0 (times f (node_of s k))) c;
            stocked = chain-some _ (w.slab f).head (own_free s f) own.chain;
            used = chain-empty _ (w.slab f).head (own_free s f) own.chain;
          })

  pub plain-at : (f : ℕ) (x : Slab) → slab_of s f ≡ Some x → checked_of s x.cache ≡ None → IsPlainWord s f x (w.slab f)
  plain-at f x e plain = go (word-at f)
    where
      injected : {x y : Slab} → Some x ≡ Some y → x ≡ y
      injected e = cc

      go : IsWordAt s f (w.slab f) → IsPlainWord s f x (w.slab f)
      go (is_bare own away none never) = absurd (never x e plain)
      go (is_plain y at was word) = subst (λ z. IsPlainWord s f z (w.slab f)) (injected (sym at ∙ e)) word

  -- a slab is on one node list, its cache's
  pub node-sum : (f : ℕ) (x : Slab) → slab_of s f ≡ Some x → sum_by (times f) s.nodes ≡ one_if (nat_lt 0 (times f (node_of s x.cache)))
  node-sum f x e =
      let one : sum_by (times f) s.nodes ≤ 1 = omega (arith, consistent.listed.once f) in
      let here = element-counted (times f) s.nodes x.cache [] refl in
      elim (cases_lt 0 (times f (node_of s x.cache))) [
        | inl l ↦ (let t : one_if (nat_lt 0 (times f (node_of s x.cache))) ≡ 1 = ap one_if (lt-ltb 0 (times f (node_of s x.cache)) l) in omega (arith, t, one, here, l))
        | inr g ↦ (
            let t : one_if (nat_lt 0 (times f (node_of s x.cache))) ≡ 0 = ap one_if (le-ltb 0 (times f (node_of s x.cache)) g) in
            let all = sum_by-below (times f) [] s.nodes (length s.nodes) refl (omega arith) in
            elim (cases_eq (sum_by (times f) s.nodes) 0) [
              | inl z ↦ z ∙ sym t
              | inr d ↦ absurd (
                  let k = positive-term (length s.nodes) (λ k. times f (get_or s.nodes k [])) (omega arith) in
                  let of : x.cache ≡ k.0 = at_some (slab_of s f) x (λ slab. slab.cache ≡ k.0) e (consistent.listed.of_node k.0 f k.2) in
                  let same : times f (node_of s x.cache) ≡ times f (node_of s k.0) = ap (λ j. times f (node_of s j)) of in
                  omega (arith, g, same, k.2))
            ])
      ]

  -- ---- what a slab on a list is

  frozen-at : (f : ℕ) (x : Slab) → slab_of s f ≡ Some x → IsTrue x.frozen ↔ (0 < times_current s f)
  frozen-at f x e = at_some (slab_of s f) x (λ slab. IsTrue slab.frozen ↔ (0 < times_current s f)) e (consistent.listed.frozen f)

  pub record IsListedAt (f : ℕ) (x : Slab) : Type 0 where
    pub there : slab_of s f ≡ Some x
    pub word : IsPlainWord s f x (w.slab f)
    pub head : 1 ≤ (w.slab f).head
    pub unfrozen : (w.slab f).frozen ≡ false

  pub listed-at : (f : ℕ) → 0 < times_partial s f → (x : Slab) × IsListedAt f x
  listed-at f some =
      let x = listed-is s f consistent some in
      let word = plain-at f x.0 x.1 x.2 in (
        x.0,
        record {
          there = x.1;
          word = word;
          head = word.stocked (consistent.listed.stocked f some);
          unfrozen = word.frozen ∙ elim (cases_Bool x.0.frozen) [
            | inl t ↦ absurd (let c = (frozen-at f x.0 x.1).0 t in omega (arith, c, some, consistent.listed.once f))
            | inr e ↦ e
          ];
        },
      )
