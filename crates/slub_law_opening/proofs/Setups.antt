-- What stays in a round fits the step machine, and each lock guards what it is to guard.
use Rattle.std.proofs.Common.{◌≡◌, ℕ, zero, suc, ◌-◌, ◌<◌, ◌≤◌, cond, Bool, true, false, [], length, get_or, Option, Some, None, inl, inr, refl, ap, sym, ◌∙◌, subst, arith, Contains}
use Rattle.std.specs.Prelude.{not, is_some}
use Rattle.std.specs.Option.{option_map_or}
use Rattle.std.proofs.lemmas.Bool.{cases_eq, cases_Bool, false≢true}
use Rattle.std.proofs.lemmas.List.Elements.{All-from_get_or, All-contains_itself}
use Rattle.slub_common.specs.Times.{times}
use Rattle.slub_common.proofs.Lists.{from_filter}
use Rattle.slub_common.proofs.Sums.{element-counted}
use Rattle.slub_common.proofs.Times.{times-contained}
use Rattle.slub_common.proofs.Writes.{inside-of}
use Rattle.slub_object_layout.specs.declared.layout.Layout.{Layout}
use Rattle.slub_object_layout.specs.Layout.{IsWithinBounds, no_layout}
use Rattle.slub_cache_create.specs.declared.caches.Cache.{Cache}
use Rattle.slub_cache_create.specs.Sound.{IsLiveCache}
use Rattle.slub_red_zone.specs.State.{CheckedState}
use Rattle.slub_lists.specs.State.{State}
use Rattle.slub_lists.specs.Alloc.{cache_of, checked_of, node_of}
use Rattle.slub_lists.specs.Coherent.{IsConsistent, IsCacheOf, times_partial}
use Rattle.slub_lists.specs.Places.{layout_at}
use Rattle.slub_lists.proofs.CheckedSlabs.{at_some, was-checked}
use Rattle.slub_lists.proofs.CheckedGiving.{the-value}
use Rattle.slub_lists.proofs.Places.{listed-is, slab-inside}
use Rattle.slub_core.specs.Setup.{IsSetup, IsPlain, node_lock}
use Rattle.slub_core.specs.Listed.{IsGuarded, IsCheckedOf}
use Rattle.slub_core.proofs.Pigeon.{length-below}
use Rattle.slub_law_opening.specs.Opening.{Beside, IsBeside, setup_of, plain_caches, value_of, node_value}

pub some-of : {X : Type 0} (o : Option X) → is_some o ≡ true → (x : X) × (o ≡ Some x)
some-of None e = absurd (false≢true e)
some-of (Some x) e = (x, refl)

module _ (s : State) (b : Beside) (beside : IsBeside s b) (consistent : IsConsistent s) where
  pub live-number : (k : ℕ) → is_some (cache_of s k) ≡ true → k < 32
  live-number k e = let c = some-of (cache_of s k) e in omega (arith, inside-of s.table.caches k c.0 c.1, consistent.shaped.table.numbers)

  pub layout-is : (k : ℕ) (c : Cache) → cache_of s k ≡ Some c → layout_at s k ≡ c.layout
  layout-is k c e = ap (λ o. option_map_or (λ (live : Cache). live.layout) o no_layout) e

  live-bounds : (k : ℕ) → is_some (cache_of s k) ≡ true → IsWithinBounds (record (layout_at s k) { min_partial = 5; cpu_partial_slabs = 0 })
  live-bounds k e =
      let c = some-of (cache_of s k) e in
      let live = at_some (cache_of s k) c.0 (IsLiveCache s.table k) c.1 (consistent.shaped.table.live k) in
      subst (λ (l : Layout). IsWithinBounds (record l { min_partial = 5; cpu_partial_slabs = 0 })) (sym (layout-is k c.0 c.1)) live.layout.made

  pub checked-lives : (k : ℕ) → is_some (checked_of s k) ≡ true → is_some (cache_of s k) ≡ true
  checked-lives k e =
      let c = some-of (checked_of s k) e in
      let live = the-value (cache_of s k) (λ live. IsCacheOf c.0 live.layout live.flags) (was-checked s k c.0 c.0 c.1 consistent.shaped.checked).live in
      ap is_some live.1

  aged-lives : (k : ℕ) → Contains s.table.ages k → is_some (cache_of s k) ≡ true
  aged-lives k has =
      let some = times-contained k s.table.ages has in
      let a = consistent.shaped.table.aged k in
      elim (cases_Bool (is_some (cache_of s k))) [
        | inl t ↦ t
        | inr f ↦ absurd (let z : times k s.table.ages ≡ 0 = a ∙ ap (λ (e : Bool). cond e 1 0) f in omega arith)
      ]

  not-true : (e : Bool) → not e ≡ true → e ≡ false
  not-true true h = sym h
  not-true false h = refl

  plain-live : (k : ℕ) → Contains (plain_caches s) k → IsPlain (setup_of s b) k
  plain-live k has =
      let f = from_filter (λ k. not (is_some (checked_of s k))) s.table.ages k has in
      let lives = aged-lives k f.0 in
      (live-number k lives, lives, not-true (is_some (checked_of s k)) f.1)

  pub is-setup : IsSetup (setup_of s b)
  is-setup = record {
    frames = consistent.shaped.frames;
    cpus = consistent.shaped.cpus;
    step = beside.step;
    objects = beside.objects.1;
    locks = refl;
    cpu_words = refl;
    plain = All-from_get_or (IsPlain (setup_of s b)) (plain_caches s) 0 (λ i below. plain-live (get_or (plain_caches s) i 0) (All-contains_itself (plain_caches s) i 0 below));
    layout = live-bounds;
    live = live-number;
    checked = checked-lives;
  }

  -- ---- what the locks guard

  checked-value : (k : ℕ) (c : CheckedState) → checked_of s k ≡ Some c → IsCheckedOf (setup_of s b) k c
  checked-value k c e =
      let of = was-checked s k c c e consistent.shaped.checked in
      let live = the-value (cache_of s k) (λ live. IsCacheOf c live.layout live.flags) of.live in
      let l = layout-is k live.0 live.1 in
      record {
        sound = of.sound;
        number = of.number;
        layout = ap (λ (m : Layout). record c.layout { min_partial = m.min_partial }) l ∙ sym live.2.0 ∙ sym l;
      }

  short-node : (k : ℕ) → length (node_of s k) ≤ s.frames - 1
  short-node k = length-below s.frames (node_of s k) (omega (arith, consistent.shaped.frames.0))
      (λ j. omega (arith, le j, consistent.listed.once j))
      (λ j past. elim (cases_eq (times j (node_of s k)) 0) [ inl z ↦ z | inr d ↦ absurd (let i = inside j (omega arith) in omega (arith, i.1, past)) ])
      (elim (cases_eq (times 0 (node_of s k)) 0) [ inl z ↦ z | inr d ↦ absurd (let i = inside 0 (omega arith) in omega (arith, i.0)) ])
    where
      le : (j : ℕ) → times j (node_of s k) ≤ times_partial s j
      le j = omega (arith, element-counted (times j) s.nodes k [] refl)

      inside : (j : ℕ) → 0 < times j (node_of s k) → (0 < j) × (j < s.frames)
      inside j some = let x = listed-is s j consistent (omega (arith, le j, some)) in slab-inside s j x.0 consistent x.1

  pub guards : (n : ℕ) → IsGuarded (setup_of s b) n (value_of s n)
  guards zero = (refl, consistent.shaped.pool, consistent.shaped.pool_frames)
  guards (suc k) = go (checked_of s k) refl
    where
      number : suc k ≡ node_lock k
      number = omega arith

      by : (lives : Bool) → is_some (cache_of s k) ≡ lives → is_some (checked_of s k) ≡ false → IsGuarded (setup_of s b) (suc k) (node_value lives None (node_of s k))
      by true e plain = (k, number, e, plain, short-node k)
      by false e plain = (k, number, e)

      go : (o : Option CheckedState) → checked_of s k ≡ o → IsGuarded (setup_of s b) (suc k) (node_value (is_some (cache_of s k)) o (node_of s k))
      go None e = by (is_some (cache_of s k)) refl (ap is_some e)
      go (Some c) e = (k, number, checked-lives k (ap is_some e), ap is_some e, checked-value k c e)
