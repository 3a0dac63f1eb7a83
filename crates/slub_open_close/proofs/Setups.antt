-- The setup of a round is that of the machine that is opened.
use Rattle.std.proofs.Common.{◌≡◌, ℕ, ◌+◌, ◌/◌, ◌≤◌, true, false, List, length, map, Option, Some, None, refl, ap, sym, ◌∙◌, subst, arith, inl, inr}
use Rattle.std.specs.Prelude.{is_some}
use Rattle.std.specs.List.{range_with_len}
use Rattle.std.specs.Option.{option_map_or}
use Rattle.std.proofs.lemmas.Bool.{cases_Bool, cases_lt}
use Rattle.std.proofs.lemmas.List.{get_or_past}
use Rattle.std.proofs.lemmas.List.FromFn.{get_or-map-range_with_len, length-map-range_with_len}
use Rattle.std.proofs.lemmas.List.Elements.{All-from_get_or}
use Rattle.slub_object_layout.specs.declared.layout.Layout.{Layout}
use Rattle.slub_object_layout.specs.Layout.{address_of, no_layout}
use Rattle.slub_cache_create.specs.declared.caches.Cache.{Cache}
use Rattle.slub_cache_create.specs.Sound.{IsLiveCache}
use Rattle.slub_lists.specs.State.{State}
use Rattle.slub_lists.specs.Alloc.{cache_of, checked_of}
use Rattle.slub_lists.specs.Coherent.{IsConsistent, IsCacheOf}
use Rattle.slub_lists.specs.Places.{layout_at}
use Rattle.slub_lists.proofs.CheckedSlabs.{at_some, was-checked}
use Rattle.slub_lists.proofs.CheckedGiving.{the-value}
use Rattle.slub_core.specs.Setup.{Means, hardened}
use Rattle.slub_core.specs.declared.cache.CacheFacts.{CacheFacts}
use Rattle.slub_core.specs.Facts.{Facts, AreFacts, IsSmall, no_cache}
use Rattle.slub_core.specs.Facts as local
use Rattle.slub_law_opening.specs.Opening.{Row, plain_caches, setup_of, freelist_row, head_of}
use Rattle.slub_law_opening.proofs.Setups.{some-of}
use Rattle.slub_open_close.specs.declared.beside.Beside.{Beside}
use Rattle.slub_open_close.specs.Beside.{beside_of}
use Rattle.slub_open_close.specs.Facts.{cache_facts, facts_of}
use Rattle.slub_open_close.specs.Laying.{free_row}

module _ (s : State) (consistent : IsConsistent s) where
  -- a cache that isn't live isn't checked, and has no layout
  pub checked-lives : (k : ℕ) → is_some (checked_of s k) ≡ true → is_some (cache_of s k) ≡ true
  checked-lives k e =
      let c = some-of (checked_of s k) e in
      let live = the-value (cache_of s k) (λ live. IsCacheOf c.0 live.layout live.flags) (was-checked s k c.0 c.0 c.1 consistent.shaped.checked).live in
      ap is_some live.1

  none-is : {X : Type 0} (o : Option X) → is_some o ≡ false → o ≡ None
  none-is None e = refl
  none-is (Some x) e = absurd (cc e)

  pub dead-facts : (k : ℕ) → is_some (cache_of s k) ≡ false → cache_facts s k ≡ no_cache
  dead-facts k e =
      let gone = none-is (cache_of s k) e in
      let unchecked : is_some (checked_of s k) ≡ false = elim (cases_Bool (is_some (checked_of s k))) [
        | inl t ↦ absurd (let l = checked-lives k t in cc)
        | inr f ↦ f
      ] in
      let layout : layout_at s k ≡ no_layout = ap (λ o. option_map_or (λ (live : Cache). live.layout) o no_layout) gone in
      λ i. record { live = e i; checks = unchecked i; layout = layout i }

  -- past the numbers no cache is live
  pub past-dead : (k : ℕ) → 32 ≤ k → is_some (cache_of s k) ≡ false
  past-dead k past = ap is_some (get_or_past s.table.caches k None (omega (arith, past, consistent.shaped.table.numbers)))

  -- the cache of a number
  pub facts-at : (step k : ℕ) → local.cache_of (facts_of s step) k ≡ cache_facts s k
  facts-at step k = elim (cases_lt k 32) [
    | inl l ↦ get_or-map-range_with_len (cache_facts s) 0 32 k k no_cache l (let e : 0 + k ≡ k = omega arith in e)
    | inr g ↦ get_or_past (map (cache_facts s) (range_with_len 0 32)) k no_cache (omega (arith, g, length-map-range_with_len (cache_facts s) 0 32)) ∙ sym (dead-facts k (past-dead k g))
  ]

  pub setup-same : (b : Beside) (means : Means) → local.setup_of (facts_of s b.step) means ≡ setup_of s (beside_of b means)
  setup-same b means = λ i. record {
    frames = s.frames;
    cpus = s.cpus;
    step = b.step;
    objects = length s.board;
    locks = 33;
    cpu_words = 512;
    plain = plain_caches s;
    lives = λ k. (facts-at b.step k i).live;
    layout = λ k. (facts-at b.step k i).layout;
    checks = λ k. (facts-at b.step k i).checks;
    means = means;
  }

  -- free pointers are where the lists have them
  pub row-same : (step k f : ℕ) (xs : List ℕ) → free_row (facts_of s step) k f xs ≡ freelist_row s k f xs
  row-same step k f xs = λ i. freelist-by (facts-at step k i).layout
    where
      freelist-by : Layout → Row
      freelist-by layout = record {
        place = λ x. (address_of f x layout + layout.offset) / 8;
        value = λ x rest. hardened k ((address_of f x layout + layout.offset) / 8) (head_of rest);
        items = xs;
      }

  -- ---- the bounds of the setup

  small : (k : ℕ) → IsSmall (layout_at s k)
  small k = elim (cases_Bool (is_some (cache_of s k))) [
    | inl live ↦
        let c = some-of (cache_of s k) live in
        let b = (at_some (cache_of s k) c.0 (IsLiveCache s.table k) c.1 (consistent.shaped.table.live k)).layout.made in
        let e : layout_at s k ≡ c.0.layout = ap (λ o. option_map_or (λ (live : Cache). live.layout) o no_layout) c.1 in
        subst IsSmall (sym e) (record {
          size = b.size.1;
          left_pad = omega (arith, b.left_pad, b.size.1);
          offset = omega (arith, b.offset, b.size.1);
          order = b.order;
          min_order = omega (arith, b.min_order, b.order);
          objects = b.objects.1;
          min_objects_slab = omega (arith, b.min_objects_slab, b.objects);
        })
    | inr dead ↦ subst IsSmall (sym (ap (λ (f : CacheFacts). f.layout) (dead-facts k dead))) (record {
      size = omega arith;
      left_pad = omega arith;
      offset = omega arith;
      order = omega arith;
      min_order = omega arith;
      objects = omega arith;
      min_objects_slab = omega arith;
    })
  ]

  pub are-facts : (step : ℕ) → step ≤ 16 → AreFacts (facts_of s step)
  are-facts step few = record {
    cpus = consistent.shaped.cpus.1;
    step = few;
    small = All-from_get_or (λ (c : CacheFacts). IsSmall c.layout) (map (cache_facts s) (range_with_len 0 32)) no_cache (λ k below. subst (λ (c : CacheFacts). IsSmall c.layout) (sym (facts-at step k)) (small k));
  }
