-- A machine rests in lists in which a checked cache has other slabs: what is to be shown where the words stay as they were, and the locks guard other values.
use Rattle.std.proofs.Common.{◌≡◌, ℕ, zero, suc, ◌<◌, ◌≤◌, Bool, cond, List, [], length, get_or, set, Option, Some, None, inl, inr, refl, ap, sym, ◌∙◌, subst, arith}
use Rattle.std.specs.Prelude.{not, filter, is_some, nat_lt, All}
use Rattle.std.proofs.lemmas.Bool.{cases_eq}
use Rattle.std.proofs.lemmas.List.{get_or-set_same, get_or-set_other}
use Rattle.slub_common.proofs.Writes.{inside-of}
use Rattle.slub_page_pool.specs.FreeFrames.{FreeFrames}
use Rattle.slub_red_zone.specs.State.{CheckedState}
use Rattle.slub_red_zone.specs.Objects.{shape_at}
use Rattle.slub_lists.specs.declared.lists.Slab.{Slab}
use Rattle.slub_lists.specs.declared.lists.Held.{Held}
use Rattle.slub_lists.specs.State.{State}
use Rattle.slub_lists.specs.Alloc.{cache_of, checked_of, node_of, own_free}
use Rattle.slub_lists.specs.Coherent.{held_under}
use Rattle.slub_lists.specs.Places.{layout_at}
use Rattle.slub_core.specs.Setup.{node_lock}
use Rattle.slub_core.specs.Local.{Local}
use Rattle.slub_core.specs.World.{World, LockValue, Checked, update, set_value, frames_in, objects_at, cache_at, order_at}
use Rattle.slub_core.specs.Fresh.{IsWorded}
use Rattle.slub_core.proofs.CheckedStep.{shape-size, shape-order}
use Rattle.slub_core.proofs.UnderLock.{HasSameSlabs, objects-same_value, cache-same_value, order-same_value}
use Rattle.slub_core.proofs.Update.{update_at, update_other}
use Rattle.slub_law_opening.specs.Opening.{Beside, setup_of, value_of as value_in, node_value}
use Rattle.slub_law_opening.specs.Rests.{IsBetween, IsFreelistOf, Rests, slab_at, named, times_named}

-- ---- the checked caches of the lists

-- where it is the same of which caches, what locks guard of nodes is the same
frames_same : (z : Bool) (a c : Option CheckedState) (fs : List ℕ) → is_some a ≡ is_some c → frames_in (node_value z a fs) ≡ frames_in (node_value z c fs)
frames_same z None None fs e = refl
frames_same z None (Some c) fs e = absurd (cc e)
frames_same z (Some a) None fs e = absurd (cc e)
frames_same z (Some a) (Some c) fs e = refl

none_too : {A : Type 0} (a c : Option A) → is_some a ≡ is_some c → a ≡ None → c ≡ None
none_too None None e none = refl
none_too None (Some c) e none = absurd (cc e)
none_too (Some a) c e none = absurd (cc none)

module _ (s : State) (k : ℕ) (c e : CheckedState) (was : checked_of s k ≡ Some c) where
  pub checked_here : get_or (set s.checked k (Some e)) k None ≡ Some e
  checked_here = get_or-set_same s.checked k (Some e) None (inside-of s.checked k c was)

  pub checked_same : (j : ℕ) → is_some (get_or (set s.checked k (Some e)) j None) ≡ is_some (checked_of s j)
  checked_same j = elim (cases_eq j k) [
    | inl at ↦ ap is_some (ap (λ j. get_or (set s.checked k (Some e)) j None) at ∙ checked_here) ∙ sym (ap is_some (ap (checked_of s) at ∙ was))
    | inr away ↦ ap is_some (get_or-set_other s.checked k j (Some e) None away)
  ]

  -- the locks guard what they guarded, but for that of the cache
  pub values_with : (slabs : List (Option Slab)) (frees : List (List ℕ)) (board gone : List (Option Held)) (live : List ℕ) (value : ℕ → LockValue) → ((n : ℕ) → n < 33 → value n ≡ value_in s n) → (n : ℕ) → n < 33
      → update value (node_lock k) (Checked e) n ≡ value_in (record s { slabs = slabs; frees = frees; checked = set s.checked k (Some e); board = board; gone = gone; live = live }) n
  values_with slabs frees board gone live value values n below = elim (cases_eq n (node_lock k)) [
    | inl at ↦ update_at value (node_lock k) (Checked e) n at ∙ sym (ap (value_in t) (let q : n ≡ suc k = omega (arith, at) in q) ∙ ap (λ o. node_value (is_some (cache_of s k)) o (node_of s k)) checked_here)
    | inr away ↦ update_other value (node_lock k) (Checked e) n away ∙ values n below ∙ others n (λ at. away (omega (arith, at)))
  ]
    where
      t : State
      t = record s { slabs = slabs; frees = frees; checked = set s.checked k (Some e); board = board; gone = gone; live = live }

      others : (n : ℕ) → (n ≡ suc k → ⊥) → value_in s n ≡ value_in (record s { slabs = slabs; frees = frees; checked = set s.checked k (Some e); board = board; gone = gone; live = live }) n
      others zero away = refl
      others (suc j) away = ap (λ o. node_value (is_some (cache_of s j)) o (node_of s j)) (sym (get_or-set_other s.checked k j (Some e) None (λ at. away (ap suc at))))

-- ---- slabs

-- the cache has slabs of the same shapes
pub slabs_kept : (w : World) (k : ℕ) (c e : CheckedState) → w.value (node_lock k) ≡ Checked c → ((f : ℕ) → shape_at e f ≡ shape_at c f) → (f : ℕ) → slab_at (set_value w (node_lock k) (Checked e)) f ≡ slab_at w f
slabs_kept w k c e was shape f =
    ap (λ o. by_slab o (cache_at v f) (order_at v f)) (objects-same_value w (node_lock k) (Checked e) same f)
    ∙ ap (λ k. by_slab (objects_at w f) k (order_at v f)) (cache-same_value w (node_lock k) (Checked e) same f)
    ∙ ap (by_slab (objects_at w f) (cache_at w f)) (order-same_value w (node_lock k) (Checked e) same f)
  where
    v : World
    v = set_value w (node_lock k) (Checked e)

    by_slab : ℕ → ℕ → ℕ → Option Slab
    by_slab o k r = cond (nat_lt 0 o) (Some (record { cache = k; order = r; objects = o; frozen = (w.slab f).frozen })) None

    same : HasSameSlabs (w.value (node_lock k)) (Checked e)
    same = subst (λ u. HasSameSlabs u (Checked e)) (sym was) (record { size = λ f. shape-size c e f (shape f); order = λ f. shape-order c e f (shape f) })

-- ---- the machine

module _ (s : State) (b : Beside) (w : World) (ls : List Local) (pool : FreeFrames) (slabs : List (Option Slab)) (frees : List (List ℕ)) (checked : List (Option CheckedState)) (board gone : List (Option Held)) (live : List ℕ) (value : ℕ → LockValue) (ends : List Local) where
  abbrev pub t : State
  t = record s { pool = pool; slabs = slabs; frees = frees; checked = checked; board = board; gone = gone; live = live }

  abbrev pub v : World
  v = record w { value = value }

  pub setup_checked : length board ≡ length s.board → ((k : ℕ) → is_some (get_or checked k None) ≡ is_some (checked_of s k)) → setup_of t b ≡ setup_of s b
  setup_checked e same = λ i. record {
    frames = s.frames;
    cpus = s.cpus;
    step = b.step;
    objects = e i;
    locks = 33;
    cpu_words = 512;
    plain = filter (λ cache. not (same cache i)) s.table.ages;
    lives = λ cache. is_some (cache_of s cache);
    layout = layout_at s;
    checks = λ cache. same cache i;
    means = b.means;
  }

  pub rests_checked : Rests s b w ls → length board ≡ length s.board → ((k : ℕ) → is_some (get_or checked k None) ≡ is_some (checked_of s k)) → IsWorded v → All (IsBetween w.setup) ends → ((n : ℕ) → n < 33 → value n ≡ value_in t n) → ((f : ℕ) → get_or frees f [] ≡ own_free s f)
      → ((f : ℕ) → get_or slabs f None ≡ slab_at v f) → ((o : ℕ) → get_or board o None ≡ named w ends o) → ((o : ℕ) → times_named w ends o ≤ 1)
      → ((o : ℕ) (held : Held) → get_or board o None ≡ Some held → checked_of s held.cache ≡ None → held_under s o ≡ Some held) → Rests t b v ends
  rests_checked rests long same words workers values own slab_is names once were = record {
    setup = rests.setup ∙ sym (setup_checked long same);
    words = words;
    workers = workers;
    locks = rests.locks;
    values = values;
    nodes = λ j. rests.nodes j ∙ ap (λ n. frames_in (value_in s n)) (number j) ∙ sym (ap (λ n. frames_in (value_in t n)) (number j) ∙ frames_same (is_some (cache_of s j)) (get_or checked j None) (checked_of s j) (node_of s j) (same j));
    cpu = λ n below. let c = rests.cpu n below in record { tid = c.tid; current = c.current; free = c.free; count = c.count; partial = c.partial };
    slab = slab_is;
    unchecked = λ f some. none_too (checked_of s (w.slab f).cache) (get_or checked (w.slab f).cache None) (sym (same (w.slab f).cache)) (rests.unchecked f some);
    unslabbed = rests.unslabbed;
    own = λ f. subst (λ free. IsFreelistOf v f free) (sym (own f)) (record { chain = (rests.own f).chain; in_use = (rests.own f).in_use });
    listed = rests.listed;
    named = names;
    once = once;
    no_zero = rests.no_zero;
    contents = λ o word held there plain inside.
        let plain = none_too (get_or checked held.cache None) (checked_of s held.cache) (same held.cache) plain in
        rests.contents o word held (were o held there plain) plain inside;
  }
    where
      number : (j : ℕ) → node_lock j ≡ suc j
      number j = omega arith
