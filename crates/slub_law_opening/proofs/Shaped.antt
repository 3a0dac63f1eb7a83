-- The lists in which a machine rests, in which all stands, have the shapes of a coherent machine.
use Rattle.std.proofs.Common.{◌≡◌, ℕ, suc, ◌+◌, ◌-◌, ◌*◌, ◌/◌, ◌%◌, ◌^◌, ◌<◌, ◌≤◌, true, false, List, [], ◌∷◌, get_or, Option, Some, None, inl, inr, refl, ap, sym, ◌∙◌, subst, arith, mod-lt}
use Rattle.std.specs.Prelude.{is_some, IfSome, MatchOption, All, option_map, unwrap_or, ⊤}
use Rattle.std.specs.Option.{option_map_or}
use Rattle.std.proofs.lemmas.Bool.{eq-eqb, cases_lt, cond-true}
use Rattle.std.proofs.lemmas.List.Elements.{All-map}
use Rattle.slub_common.specs.Times.{times}
use Rattle.slub_common.proofs.Sums.{element-counted}
use Rattle.slub_common.proofs.Writes.{inside-of}
use Rattle.slub_page_pool.specs.FreeFrames as pool
use Rattle.slub_object_layout.specs.declared.layout.Layout.{Layout}
use Rattle.slub_object_layout.specs.Layout.{IsSized, is_checked, no_layout}
use Rattle.slub_red_zone.specs.State.{CheckedState, SlabState, no_slab, objects_in}
use Rattle.slub_red_zone.specs.Objects.{shape_at, shape_of}
use Rattle.slub_red_zone.specs.Sound.{IsSlab}
use Rattle.slub_cache_create.specs.declared.caches.Cache.{Cache}
use Rattle.slub_cache_create.specs.Sound.{IsSound as IsSoundTable}
use Rattle.slub_cache_create.specs.Table.{cache_of as live_cache}
use Rattle.slub_lists.specs.declared.lists.Slab.{Slab}
use Rattle.slub_lists.specs.declared.lists.Held.{Held}
use Rattle.slub_lists.specs.State.{State}
use Rattle.slub_lists.specs.Alloc.{slab_of, own_free, cache_of, checked_of, lists_of, node_of, no_lists, held_here}
use Rattle.slub_lists.specs.Coherent.{IsCoherent, IsShaped, AreChecked, IsCheckedOf, IsCacheOf, IsSlabOf, Agrees, IsAccounted, held_under}
use Rattle.slub_lists.specs.Places.{layout_at}
use Rattle.slub_lists.proofs.CheckedSlabs.{at_some}
use Rattle.slub_lists.proofs.Places.{object-of}
use Rattle.slub_core.specs.declared.local.Known.{Known}
use Rattle.slub_core.specs.Setup.{Setup, IsSetup, IsPlain, node_lock}
use Rattle.slub_core.specs.Local.{Local, Worker}
use Rattle.slub_core.specs.World.{World, LockValue, Checked, frames_in, size_in, order_in, objects_at, cache_at, order_at}
use Rattle.slub_core.specs.Listed.{IsGuarded, IsStocked}
use Rattle.slub_core.specs.Listed as steps
use Rattle.slub_core.specs.Coherent.{Stands}
use Rattle.slub_core.proofs.StepValues.{word-objects, word-cache, value-slab, in-value, unworded-cache, unworded-objects}
use Rattle.slub_law_opening.specs.Opening.{Beside, setup_of, cpu_at, value_of, node_value}
use Rattle.slub_law_opening.specs.Rests.{Rests}
use Rattle.slub_law_opening.specs.Closing.{HasLengths}
use Rattle.slub_law_opening.proofs.Counts.{HasCounts, IsSeen, locals_of}
use Rattle.slub_law_opening.proofs.Words.{none-of, value-checked}
use Rattle.slub_law_opening.proofs.Setups.{some-of}
use Rattle.slub_law_opening.proofs.Holders.{named-all, zero-named}
use Rattle.slub_law_opening.proofs.Lay.{first-there}
use Rattle.slub_law_opening.proofs.Closed.{lists-number, is-frame, empty, seen, unseen, word-slab, has-head, has-frozen, in-string, closed-placed, closed-framed, closed-listed, closed-kept}

-- what is asked of the lists beside what the words say
pub record Keeps (s t : State) : Type 0 where
  pub lengths : HasLengths t
  pub table : t.table ≡ s.table
  pub checks : (k : ℕ) → is_some (checked_of t k) ≡ is_some (checked_of s k)
  pub live : IsAccounted t
  pub flags : (k : ℕ) → IfSome (checked_of t k) (λ slabs. IfSome (cache_of t k) (λ live. live.flags ≡ slabs.flags))

no-times : (xs : List ℕ) → ((f : ℕ) → 1 ≤ times f xs → ⊥) → xs ≡ []
no-times [] never = refl
no-times (x ∷ xs) never = absurd (never x (first-there x xs))

module _ (s t : State) (b : Beside) (w : World) (xs : List Worker) (coherent : IsCoherent s) (keeps : Keeps s t) (stands : Stands w xs) (rests : Rests t b w (locals_of xs)) where
  is-setup : IsSetup (setup_of t b)
  is-setup = subst IsSetup rests.setup stands.fresh.setup

  long : HasCounts t
  long = record { cpus = record { few = is-setup.cpus; length = keeps.lengths.cpu_lists }; slabs = keeps.lengths.slabs; nodes = keeps.lengths.nodes; checked = keeps.lengths.checked }

  locks : w.setup.locks ≡ 33
  locks = ap (λ (m : Setup). m.locks) rests.setup

  -- what a lock guards is in order
  guarded : (n : ℕ) → n < 33 → IsGuarded (setup_of t b) n (value_of t n)
  guarded n below = subst (λ m. IsGuarded m n (value_of t n)) rests.setup (subst (λ v. IsGuarded w.setup n v) (rests.values n below) (stands.listed.shaped.guarded n (omega (arith, below, locks))))

  seen-slab : (f : ℕ) (x : Slab) → slab_of t f ≡ Some x → IsSeen w f x
  seen-slab f x e = seen t b w xs long stands rests f x e

  -- a word is of a live unchecked cache
  plain : (f : ℕ) → 1 ≤ (w.slab f).objects → (is_some (cache_of t (w.slab f).cache) ≡ true) × (is_some (checked_of t (w.slab f).cache) ≡ false)
  plain f some = let p = subst (λ m. IsPlain m (w.slab f).cache) rests.setup (stands.listed.shaped.plain f some) in (p.1, p.2)

  no-plain : (k f : ℕ) (c : CheckedState) → checked_of t k ≡ Some c → 1 ≤ (w.slab f).objects → (w.slab f).cache ≡ k → ⊥
  no-plain k f c was some own = cc ((plain f some).1, ap (λ j. is_some (checked_of t j)) own, ap is_some was)

  -- ---- checked caches

  layout-is : (k : ℕ) (live : Cache) → cache_of t k ≡ Some live → layout_at t k ≡ live.layout
  layout-is k live e = ap (λ o. option_map_or (λ (live : Cache). live.layout) o no_layout) e

  module _ (k : ℕ) (c : CheckedState) (below : k < 32) (was : checked_of t k ≡ Some c) where
    value : value_of t (suc k) ≡ Checked c
    value = ap (λ o. node_value (is_some (cache_of t k)) o (node_of t k)) was

    guards : steps.IsCheckedOf (setup_of t b) k c × (is_some (cache_of t k) ≡ true)
    guards =
        let g = subst (λ v. IsGuarded (setup_of t b) (suc k) v) value (guarded (suc k) (omega arith)) in
        let e : g.0 ≡ k = (let q = g.1 in omega arith) in
        (subst (λ j. steps.IsCheckedOf (setup_of t b) j c) e g.4, subst (λ j. is_some (cache_of t j) ≡ true) e g.2)

    live-of : (live : Cache) × (cache_of t k ≡ Some live)
    live-of = some-of (cache_of t k) guards.1

    layouts : live-of.0.layout ≡ record c.layout { min_partial = live-of.0.layout.min_partial }
    layouts =
        let l = layout-is k live-of.0 live-of.1 in
        sym l ∙ sym guards.0.layout ∙ ap (λ (m : Layout). record c.layout { min_partial = m.min_partial }) l

    flags-of : live-of.0.flags ≡ c.flags
    flags-of = at_some (cache_of t k) live-of.0 (λ live. live.flags ≡ c.flags) live-of.1 (at_some (checked_of t k) c (λ slabs. IfSome (cache_of t k) (λ live. live.flags ≡ slabs.flags)) was (keeps.flags k))

    in-locks : suc k < w.setup.locks
    in-locks = omega (arith, below, locks)

    -- the size of a slab of the value, and the slab of the lists
    value-at : w.value (suc k) ≡ Checked c
    value-at = rests.values (suc k) (omega arith) ∙ value

    sized-here : (f : ℕ) (z : SlabState) → get_or c.slabs f None ≡ Some z → (1 ≤ objects_in z) × IsSized c.layout z.order (objects_in z)
    sized-here f z e =
        let slab = at_some (get_or c.slabs f None) z (IsSlab c.layout) e (guards.0.sound.slab f) in
        let bounds = guards.0.sound.layout.bounds in
        (some slab.sized bounds.objects bounds.min_objects_slab, slab.sized)
      where
        some : {order objects : ℕ} → IsSized c.layout order objects → (1 ≤ c.layout.objects) × (c.layout.objects ≤ 512) → (1 ≤ c.layout.min_objects_slab) × (c.layout.min_objects_slab ≤ c.layout.objects) → 1 ≤ objects
        some (inl e) a d = omega (arith, e.1, a.0)
        some (inr e) a d = omega (arith, e.1, d.0)

    value-there : (f : ℕ) (z : SlabState) → get_or c.slabs f None ≡ Some z → (x : Slab) × (slab_of t f ≡ Some x) × (x.cache ≡ k) × (x.order ≡ z.order) × (x.objects ≡ objects_in z)
    value-there f z e =
        let size : size_in (w.value (suc k)) f ≡ objects_in z = ap (λ v. size_in v f) value-at ∙ ap (λ o. objects_in (unwrap_or o no_slab)) e in
        let order : order_in (w.value (suc k)) f ≡ z.order = ap (λ v. order_in v f) value-at ∙ ap (λ (o : Option SlabState). (unwrap_or o no_slab).order) e in
        let some = (sized-here f z e).0 in
        let v = value-slab w stands.chains (suc k) f stands.listed.shaped in-locks (omega arith) in
        let number : suc k - 1 ≡ k = omega arith in
        go (slab_of t f) refl (omega (arith, v.1, size, some)) (v.1 ∙ size) (v.2 ∙ number) (v.3 ∙ order)
      where
        go : (o : Option Slab) → slab_of t f ≡ o → 1 ≤ objects_at w f → objects_at w f ≡ objects_in z → cache_at w f ≡ k → order_at w f ≡ z.order → (x : Slab) × (slab_of t f ≡ Some x) × (x.cache ≡ k) × (x.order ≡ z.order) × (x.objects ≡ objects_in z)
        go None is some size own order = absurd (let z = unseen t b w xs long stands rests f is in omega arith)
        go (Some x) is some size own order = let q = seen-slab f x is in (x, is, sym q.cache ∙ own, sym q.order ∙ order, sym q.objects ∙ size)

    -- a slab of the cache stands in the value
    own-there : (f : ℕ) (x : Slab) → slab_of t f ≡ Some x → x.cache ≡ k → 1 ≤ size_in (w.value (suc k)) f
    own-there f x e own = elim (cases_lt 0 (w.slab f).objects) [
      | inl l ↦ absurd (no-plain k f c was l (let y = word-slab t b w xs long stands rests f l in sym y.2 ∙ ap (λ (z : Slab). z.cache) (injected (sym y.1 ∙ e)) ∙ own))
      | inr g ↦ (
          let none : (w.slab f).objects ≡ 0 = omega arith in
          let q = seen-slab f x e in
          let o = unworded-objects w f none in
          let r = in-value w.value w.setup.locks f (omega (arith, o, q.objects, q.some)) in
          let v = value-checked t r.lock f (subst (λ (v : LockValue). 1 ≤ size_in v f) (rests.values r.lock (omega (arith, r.below, locks))) r.some) in
          let at : r.lock ≡ suc k = omega (arith, sym (r.cache) ∙ sym (unworded-cache w f none) ∙ q.cache ∙ own, v.2) in
          subst (λ n. 1 ≤ size_in (w.value n) f) at r.some)
    ]
      where
        injected : {x y : Slab} → Some x ≡ Some y → x ≡ y
        injected e = cc

    agrees : (f : ℕ) → Agrees k (slab_of t f) (shape_at c f)
    agrees f = go (get_or c.slabs f None) refl
      where
        there : (o : Option Slab) (x : Slab) (z : SlabState) → o ≡ Some x → x.cache ≡ k → x.order ≡ z.order → x.objects ≡ objects_in z → Agrees k o (Some (shape_of z))
        there None x z e own order size = absurd (cc e)
        there (Some q) x z e own order size = let i = injected e in (ap (λ (z : Slab). z.cache) i ∙ own, ap (λ (z : Slab). z.order) i ∙ order, ap (λ (z : Slab). z.objects) i ∙ size)
          where
            injected : {x y : Slab} → Some x ≡ Some y → x ≡ y
            injected e = cc

        absent : (o : Option Slab) → ((x : Slab) → o ≡ Some x → x.cache ≡ k → ⊥) → Agrees k o None
        absent None never = tt
        absent (Some x) never = never x refl

        go : (z : Option SlabState) → get_or c.slabs f None ≡ z → Agrees k (slab_of t f) (option_map shape_of z)
        go (Some z) e = let x = value-there f z e in there (slab_of t f) x.0 z x.1 x.2 x.3 x.4
        go None e = absent (slab_of t f) (λ x is own.
            let some = own-there f x is own in
            let size : size_in (w.value (suc k)) f ≡ 0 = ap (λ v. size_in v f) value-at ∙ ap (λ o. objects_in (unwrap_or o no_slab)) e in
            omega arith)

    unlisted : (cpu : ℕ) → cpu < t.cpus → lists_of t k cpu ≡ no_lists
    unlisted cpu inside = lists-number t k cpu long.cpus inside (λ l. l ≡ no_lists) refl (λ n small at.
        let none : (cpu_at t n).current ≡ None = by n small at (cpu_at t n).current refl in
        let free = empty t b w xs long stands rests n small none in
        let string = no-times (cpu_at t n).partial (λ f some. let q = in-string t b w xs long stands rests n f small some in no-plain k f c was (has-head t b w xs long stands rests f q.head) (q.owner ∙ at)) in
        (λ i. record { current = none i; free = free i; partial = string i }))
      where
        by : (n : ℕ) → n < 512 → n / 16 ≡ k → (o : Option ℕ) → (cpu_at t n).current ≡ o → o ≡ None
        by n small at None e = refl
        by n small at (Some f) e =
            let g = is-frame t b w xs long stands rests n f small e in
            let q = stands.listed.shaped.current n (omega (arith, small, ap (λ (m : Setup). m.cpu_words) rests.setup)) (λ z. g.1 (sym g.0 ∙ z)) in
            absurd (no-plain k (w.cpu n).frame c was (has-frozen t b w xs long stands rests (w.cpu n).frame q.1) (q.0 ∙ at))

    off-node : node_of t k ≡ []
    off-node = rests.nodes k ∙ ap (λ n. frames_in (value_of t n)) (let e : node_lock k ≡ suc k = omega arith in e) ∙ ap frames_in value

    unfree : (f : ℕ) → MatchOption (slab_of t f) ⊤ (λ slab. slab.cache ≡ k → own_free t f ≡ [])
    unfree f = go (slab_of t f) refl
      where
        go : (o : Option Slab) → slab_of t f ≡ o → MatchOption o ⊤ (λ slab. slab.cache ≡ k → own_free t f ≡ [])
        go None e = tt
        go (Some x) e = λ own. elim (cases_lt 0 (w.slab f).objects) [
          | inl l ↦ absurd (no-plain k f c was l (let y = word-slab t b w xs long stands rests f l in sym y.2 ∙ ap (λ (z : Slab). z.cache) (injected (sym y.1 ∙ e)) ∙ own))
          | inr g ↦ none-of (own_free t f) (let u = (rests.own f).in_use in omega arith)
        ]
          where
            injected : {x y : Slab} → Some x ≡ Some y → x ≡ y
            injected e = cc

    pub checked-of : IsCheckedOf t k c
    checked-of = record {
      sound = guards.0.sound;
      number = guards.0.number;
      live = subst (λ o. MatchOption o ⊥ (λ live. IsCacheOf c live.layout live.flags)) (sym live-of.1) (layouts, flags-of);
      agrees = agrees;
      unlisted = unlisted;
      off_node = off-node;
      unfree = unfree;
    }

  are-checked : AreChecked t
  are-checked = record { numbers = keeps.lengths.checked; those = those; all = all }
    where
      those : (k : ℕ) → IfSome (checked_of t k) (IsCheckedOf t k)
      those k = go (checked_of t k) refl
        where
          go : (o : Option CheckedState) → checked_of t k ≡ o → IfSome o (IsCheckedOf t k)
          go None e = tt
          go (Some c) e = checked-of k c (omega (arith, inside-of t.checked k c e, keeps.lengths.checked)) e

      all : (k : ℕ) → IfSome (cache_of t k) (λ live. is_checked live.flags ≡ is_some (checked_of t k))
      all k = subst (λ o. IfSome o (λ live. is_checked live.flags ≡ is_some (checked_of t k))) (sym (ap (λ n. live_cache n k) keeps.table))
          (subst (λ z. IfSome (cache_of s k) (λ live. is_checked live.flags ≡ z)) (sym (keeps.checks k)) (coherent.shaped.checked.all k))

  -- ---- slabs

  slab-sized : (f : ℕ) (x : Slab) → slab_of t f ≡ Some x → MatchOption (cache_of t x.cache) ⊥ (λ live. IsSlabOf live.layout x)
  slab-sized f x e = elim (cases_lt 0 (w.slab f).objects) [
    | inl l ↦ (
        let q = seen-slab f x e in
        let own : (w.slab f).cache ≡ x.cache = sym (word-cache w f l) ∙ q.cache in
        let live = some-of (cache_of t x.cache) (ap (λ j. is_some (cache_of t j)) (sym own) ∙ (plain f l).0) in
        let sized = stands.listed.shaped.sized f l in
        let here : IsSlabOf live.0.layout x =
        subst (λ (l : Layout). IsSlabOf l x) (ap (λ (m : Setup). m.layout (w.slab f).cache) rests.setup ∙ ap (layout_at t) own ∙ layout-is x.cache live.0 live.1)
        (subst (λ n. IsSized (w.setup.layout (w.slab f).cache) x.order n) (sym (word-objects w f l) ∙ q.objects)
        (subst (λ n. IsSized (w.setup.layout (w.slab f).cache) n (w.slab f).objects) q.order sized)) in
        subst (λ o. MatchOption o ⊥ (λ live. IsSlabOf live.layout x)) (sym live.1) here)
    | inr g ↦ (
        let none : (w.slab f).objects ≡ 0 = omega arith in
        let q = seen-slab f x e in
        let o = unworded-objects w f none in
        let r = in-value w.value w.setup.locks f (omega (arith, o, q.objects, q.some)) in
        let v = value-checked t r.lock f (subst (λ (v : LockValue). 1 ≤ size_in v f) (rests.values r.lock (omega (arith, r.below, locks))) r.some) in
        let own : r.lock - 1 ≡ x.cache = sym r.cache ∙ sym (unworded-cache w f none) ∙ q.cache in
        let was : checked_of t x.cache ≡ Some v.0 = ap (checked_of t) (sym own) ∙ v.1 in
        let below : x.cache < 32 = omega (arith, inside-of t.checked x.cache v.0 was, keeps.lengths.checked) in
        let live = live-of x.cache v.0 below was in
        let some = own-there x.cache v.0 below was f x e refl in
        subst (λ o. MatchOption o ⊥ (λ live. IsSlabOf live.layout x)) (sym live.1) (by x.cache v.0 below was refl (get_or v.0.slabs f None) refl some))
  ]
    where
      by : (k : ℕ) (c : CheckedState) (below : k < 32) (was : checked_of t k ≡ Some c) → x.cache ≡ k → (o : Option SlabState) → get_or c.slabs f None ≡ o → 1 ≤ size_in (w.value (suc k)) f → IsSlabOf (live-of k c below was).0.layout x
      by k c below was own None is some = absurd (let size : size_in (w.value (suc k)) f ≡ 0 = ap (λ v. size_in v f) (value-at k c below was) ∙ ap (λ o. objects_in (unwrap_or o no_slab)) is in omega arith)
      by k c below was own (Some z) is some =
          let y = value-there k c below was f z is in
          let same : y.0 ≡ x = injected (sym y.1 ∙ e) in
          let sized = (sized-here k c below was f z is).1 in
          let order : x.order ≡ z.order = ap (λ (z : Slab). z.order) (sym same) ∙ y.3 in
          let size : x.objects ≡ objects_in z = ap (λ (z : Slab). z.objects) (sym same) ∙ y.4 in
          subst (λ (l : Layout). IsSlabOf l x) (sym (layouts k c below was))
          (subst (λ n. IsSized c.layout n x.objects) (sym order) (subst (λ n. IsSized c.layout z.order n) (sym size) sized))
        where
          injected : {x y : Slab} → Some x ≡ Some y → x ≡ y
          injected e = cc

  -- ---- objects

  holds-caches : All (λ (l : Local). All (λ (k : Known). k.held ≡ true → k.cache ≡ cache_at w k.frame) l.known) (locals_of xs)
  holds-caches = All-map (λ (l : Local). All (λ (k : Known). k.held ≡ true → k.cache ≡ cache_at w k.frame) l.known) (λ (x : Worker). x.local) xs
      (λ i d below. (stands.fresh.workers i d below).seen.known)

  held-slab : (o : ℕ) (h : Held) → held_under t o ≡ Some h → MatchOption (slab_of t h.frame) ⊥ (λ slab. slab.cache ≡ h.cache)
  held-slab o h e =
      let below : o < w.setup.objects = omega (arith, inside-of t.board o h e, ap (λ (m : Setup). m.objects) rests.setup) in
      let own = named-all (λ k f. k ≡ cache_at w f) w (locals_of xs) o h (λ d at. stands.listed.shaped.board o d below at) holds-caches (sym (rests.named o) ∙ e) in
      let one : held_here h.frame h.index (get_or t.board o None) ≡ 1 = ap (held_here h.frame h.index) e ∙ itself h in
      let count = element-counted (held_here h.frame h.index) t.board o None refl in
      let placed = closed-placed t b w xs long stands rests h.frame h.index in
      let x = object-of t h.frame h.index (omega (arith, one, count, placed)) in
      subst (λ (s : Option Slab). MatchOption s ⊥ (λ slab. slab.cache ≡ h.cache)) (sym x.1) (sym (seen-slab h.frame x.0 x.1).cache ∙ sym own)
    where
      itself : (h : Held) → held_here h.frame h.index (Some h) ≡ 1
      itself h = cond-true {A = ℕ} _ 1 0 (rw (eq-eqb h.frame h.frame refl, eq-eqb h.index h.index refl) refl)

  bare : (place : ℕ) → (get_or t.cpu_lists place no_lists).current ≡ None → (get_or t.cpu_lists place no_lists).free ≡ []
  bare place =
      let few = is-setup.cpus in
      let some : 0 < t.cpus = few.0 in
      subst (λ n. (get_or t.cpu_lists n no_lists).current ≡ None → (get_or t.cpu_lists n no_lists).free ≡ []) (let e : place / t.cpus * t.cpus + place % t.cpus ≡ place = omega arith in e)
      (lists-number t (place / t.cpus) (place % t.cpus) long.cpus (mod-lt place some) (λ l. l.current ≡ None → l.free ≡ []) (λ e. refl) (λ n small at. empty t b w xs long stands rests n small))

  by-slab : (f : ℕ) (P : Slab → Type 0) → ((x : Slab) → slab_of t f ≡ Some x → P x) → IfSome (slab_of t f) P
  by-slab f P every = go (slab_of t f) refl
    where
      go : (o : Option Slab) → slab_of t f ≡ o → IfSome o P
      go None e = tt
      go (Some x) e = every x e

  by-held : (o : ℕ) (P : Held → Type 0) → ((h : Held) → held_under t o ≡ Some h → P h) → IfSome (held_under t o) P
  by-held o P every = go (held_under t o) refl
    where
      go : (h : Option Held) → held_under t o ≡ h → IfSome h P
      go None e = tt
      go (Some h) e = every h e

  pool-guarded : pool.IsPool t.pool × (t.pool.frames ≡ t.frames)
  pool-guarded = let g = guarded 0 (omega arith) in (g.1, g.2)

  shaped : IsShaped t
  shaped = record {
    frames = is-setup.frames;
    cpus = is-setup.cpus;
    pool = pool-guarded.0;
    pool_frames = pool-guarded.1;
    slabs = keeps.lengths.slabs;
    frees = keeps.lengths.frees;
    table = subst IsSoundTable (sym keeps.table) coherent.shaped.table;
    checked = are-checked;
    cpu_lists = keeps.lengths.cpu_lists;
    nodes = keeps.lengths.nodes;
    memory = keeps.lengths.memory;
    live = keeps.lengths.live;
    board = (let few = is-setup.objects in omega arith);
    gone = keeps.lengths.gone;
    slab = λ f. by-slab f (λ slab. MatchOption (cache_of t slab.cache) ⊥ (λ live. IsSlabOf live.layout slab)) (slab-sized f);
    aligned = λ f. by-slab f (λ slab. f % 2 ^ slab.order ≡ 0) (λ x e. let q = seen-slab f x e in ap (λ n. f % 2 ^ n) (sym q.order) ∙ stands.listed.shaped.aligned f (omega (arith, q.objects, q.some)));
    held = λ o. by-held o (λ held. MatchOption (slab_of t held.frame) ⊥ (λ slab. slab.cache ≡ held.cache)) (held-slab o);
    no_zero = rests.named 0 ∙ zero-named w w.setup (locals_of xs) rests.no_zero rests.workers;
    bare = bare;
  }

  pub closed-coherent : IsCoherent t
  closed-coherent = record {
    shaped = shaped;
    placed = closed-placed t b w xs long stands rests;
    framed = closed-framed t b w xs long stands rests;
    listed = closed-listed t b w xs long stands rests;
    accounted = keeps.live;
    kept = closed-kept t b w xs long stands rests;
  }
