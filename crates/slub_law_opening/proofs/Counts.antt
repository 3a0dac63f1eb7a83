-- What is counted in words and values is what is counted in the lists that they rest in.
use Rattle.std.proofs.Common.{◌≡◌, ◌≢◌, ℕ, suc, ◌+◌, ◌*◌, ◌^◌, ◌<◌, ◌≤◌, ◌&&◌, cond, eqb, Bool, true, false, List, [], ◌∷◌, length, get_or, map, Option, Some, None, inl, inr, refl, ap, sym, ◌∙◌, arith, sum_by}
use Rattle.std.specs.Prelude.{nat_lt, nat_le, is_some, All}
use Rattle.std.proofs.lemmas.Bool.{cases_eq, cases_lt, eq-eqb, ne_eqb, cond-true, cond-false, lt-ltb, le-ltb}
use Rattle.std.proofs.lemmas.List.Elements.{All-head, All-tail}
use Rattle.std.proofs.lemmas.List.Sums.{sum_by-cons}
use Rattle.slub_common.specs.Times.{times}
use Rattle.slub_red_zone.specs.State.{CheckedState}
use Rattle.slub_lists.specs.declared.lists.Slab.{Slab}
use Rattle.slub_lists.specs.State.{State}
use Rattle.slub_lists.specs.Alloc.{slab_of, own_free, cache_of, checked_of, node_of, held_here}
use Rattle.slub_lists.specs.Coherent.{has_object, on_cpu, if_current, covers, covered_from, times_current, times_partial}
use Rattle.slub_lists.specs.Coherent as plain
use Rattle.slub_core.specs.Setup.{Setup}
use Rattle.slub_core.specs.Local.{Local, Worker}
use Rattle.slub_core.specs.World.{World, Chains, LockValue, Nothing, Node, Checked, Pool, frames_in, idle_in, objects_at, cache_at, order_at, object_at, one_if, sum_below, in_chain, on_board}
use Rattle.slub_core.specs.World as steps
use Rattle.slub_core.specs.Placed.{held, owned, places, in_hands}
use Rattle.slub_core.specs.Listed.{on_lists}
use Rattle.slub_core.proofs.Update.{sum_below_same}
use Rattle.slub_law_opening.specs.Opening.{Beside, cpu_at, value_of, node_value}
use Rattle.slub_law_opening.specs.Rests.{IsBetween, Rests, slab_at, named}
use Rattle.slub_law_opening.proofs.Sums.{sum_below-first, sum_by-below, covered-sum}
use Rattle.slub_law_opening.proofs.Cpus.{HasCpus, cpu-sum}
use Rattle.slub_law_opening.proofs.Names.{named-sum}
use Rattle.slub_law_opening.proofs.Workers.{IsBare}

-- ---- workers between two calls

abbrev pub locals_of : List Worker → List Local
locals_of xs = map (λ (x : Worker). x.local) xs

pub workers-none : (F : Worker → ℕ) (m : Setup) (xs : List Worker) → ((x : Worker) → IsBetween m x.local → IsBare x → F x ≡ 0) → All (IsBetween m) (locals_of xs) → All IsBare xs → sum_by F xs ≡ 0
workers-none F m [] none between bare = refl
workers-none F m (x ∷ xs) none between bare =
    let z = none x (All-head (IsBetween m) x.local (locals_of xs) between) (All-head IsBare x xs bare) in
    let r = workers-none F m xs none (All-tail (IsBetween m) x.local (locals_of xs) between) (All-tail IsBare x xs bare) in
    let e = sum_by-cons F x xs in
    omega arith

-- they have no more than they hold
pub owned-held : (m : Setup) (f i : ℕ) (xs : List Worker) → All (IsBetween m) (locals_of xs) → sum_by (owned f i) xs ≡ sum_by (held f i) (locals_of xs)
owned-held m f i [] between = refl
owned-held m f i (x ∷ xs) between =
    let here = All-head (IsBetween m) x.local (locals_of xs) between in
    let r = owned-held m f i xs (All-tail (IsBetween m) x.local (locals_of xs) between) in
    let none : in_hands f i x.local.hands x.chains ≡ 0 = ap (λ hs. in_hands f i hs x.chains) here.hands in
    let a = sum_by-cons (owned f i) x xs in
    let c = sum_by-cons (held f i) x.local (locals_of xs) in
    omega arith

-- ---- lists of their lengths

pub record HasCounts (s : State) : Type 0 where
  pub cpus : HasCpus s
  pub slabs : length s.slabs ≡ s.frames
  pub nodes : length s.nodes ≡ 32
  pub checked : length s.checked ≡ 32

-- the chains that the words lead to are the lists'
pub record LeadsTo (s : State) (y : Chains) : Type 0 where
  pub own : (f : ℕ) → y.own f ≡ own_free s f
  pub cpu : (n : ℕ) → n < 512 → y.cpu n ≡ (cpu_at s n).free
  pub list : (n : ℕ) → n < 512 → y.list n ≡ (cpu_at s n).partial

-- a slab, as the words and values have it
pub record IsSeen (w : World) (f : ℕ) (x : Slab) : Type 0 where
  pub objects : objects_at w f ≡ x.objects
  pub cache : cache_at w f ≡ x.cache
  pub order : order_at w f ≡ x.order
  pub frozen : (w.slab f).frozen ≡ x.frozen
  pub some : 1 ≤ x.objects

at_most : (a b : ℕ) → a ≡ b → a ≤ b
at_most a b e = omega arith

narrow : (n a : ℕ) → n < a → a ≡ 32 * 16 → n < 512
narrow n a l e = omega arith

module _ (s : State) (b : Beside) (w : World) (y : Chains) (xs : List Worker) (long : HasCounts s) (rests : Rests s b w (locals_of xs)) (leads : LeadsTo s y)
    (empty : (n : ℕ) → n < 512 → (cpu_at s n).current ≡ None → (cpu_at s n).free ≡ []) where
  cpu_words : w.setup.cpu_words ≡ 32 * 16
  cpu_words = ap (λ (m : Setup). m.cpu_words) rests.setup

  locks : w.setup.locks ≡ 33
  locks = ap (λ (m : Setup). m.locks) rests.setup

  frames : w.setup.frames ≡ s.frames
  frames = ap (λ (m : Setup). m.frames) rests.setup

  objects : w.setup.objects ≡ length s.board
  objects = ap (λ (m : Setup). m.objects) rests.setup

  -- ---- slabs

  some-slab : (f : ℕ) → 0 < objects_at w f → slab_at w f ≡ Some (record { cache = cache_at w f; order = order_at w f; objects = objects_at w f; frozen = (w.slab f).frozen })
  some-slab f l = cond-true {A = Option Slab} (nat_lt 0 (objects_at w f)) _ None (lt-ltb 0 (objects_at w f) l)

  pub slab-none : (f : ℕ) → slab_of s f ≡ None → objects_at w f ≡ 0
  slab-none f e = elim (cases_lt 0 (objects_at w f)) [
    | inl l ↦ absurd (cc (e, rests.slab f, some-slab f l))
    | inr g ↦ omega arith
  ]

  pub slab-some : (f : ℕ) (x : Slab) → slab_of s f ≡ Some x → IsSeen w f x
  slab-some f x e = elim (cases_lt 0 (objects_at w f)) [
    | inl l ↦ (
        let same = injected (sym (some-slab f l) ∙ sym (rests.slab f) ∙ e) in
        let o : objects_at w f ≡ x.objects = ap (λ (z : Slab). z.objects) same in
        record { objects = o; cache = ap (λ (z : Slab). z.cache) same; order = ap (λ (z : Slab). z.order) same; frozen = ap (λ (z : Slab). z.frozen) same; some = omega (arith, l, o) })
    | inr g ↦ absurd (cc (e, rests.slab f, cond-false {A = Option Slab} (nat_lt 0 (objects_at w f)) (Some (record { cache = cache_at w f; order = order_at w f; objects = objects_at w f; frozen = (w.slab f).frozen })) None (le-ltb 0 (objects_at w f) g)))
  ]
    where
      injected : {x y : Slab} → Some x ≡ Some y → x ≡ y
      injected e = cc

  pub object-same : (f i : ℕ) → object_at w f i ≡ has_object i (slab_of s f)
  object-same f i = go (slab_of s f) refl
    where
      go : (x : Option Slab) → slab_of s f ≡ x → object_at w f i ≡ has_object i x
      go None e = ap (λ n. one_if (nat_lt i n)) (slab-none f e) ∙ cond-false {A = ℕ} (nat_lt i 0) 1 0 (le-ltb i 0 (omega arith))
      go (Some x) e = ap (λ n. one_if (nat_lt i n)) (slab-some f x e).objects

  pub covers-same : (g f : ℕ) → steps.covers w g f ≡ covers g f (slab_of s f)
  covers-same g f = go (slab_of s f) refl
    where
      run : ℕ → ℕ
      run order = cond (nat_le f g && nat_lt g (f + 2 ^ order)) 1 0

      go : (x : Option Slab) → slab_of s f ≡ x → steps.covers w g f ≡ covers g f x
      go None e = cond-false (nat_lt 0 (objects_at w f)) (run (order_at w f)) 0 (le-ltb 0 (objects_at w f) (let z = slab-none f e in omega arith))
      go (Some x) e = let t = slab-some f x e in
          cond-true (nat_lt 0 (objects_at w f)) (run (order_at w f)) 0 (lt-ltb 0 (objects_at w f) (omega (arith, t.objects, t.some))) ∙ ap run t.order

  pub covered : (g : ℕ) → sum_below w.setup.frames (λ f. steps.covers w g f) ≡ covered_from g 0 s.slabs
  covered g =
      ap (λ n. sum_below n (λ f. steps.covers w g f)) (frames ∙ sym long.slabs)
      ∙ sum_below_same (length s.slabs) (λ f. covers g (0 + f) (slab_of s f)) (λ f. steps.covers w g f) (λ f _. covers-same g f ∙ ap (λ n. covers g n (slab_of s f)) (let e : f ≡ 0 + f = omega arith in e))
      ∙ sym (covered-sum g 0 s.slabs)

  -- ---- places of objects

  board-places : (f i : ℕ) → sum_by (owned f i) xs + sum_below w.setup.objects (λ o. on_board (w.board o) f i) ≡ sum_by (held_here f i) s.board
  board-places f i =
      let a = sum_by-below (held_here f i) None s.board w.setup.objects refl (at_most (length s.board) w.setup.objects (sym objects)) in
      let c = sum_below_same w.setup.objects (λ o. held_here f i (named w (locals_of xs) o)) (λ o. held_here f i (get_or s.board o None)) (λ o _. ap (held_here f i) (rests.named o)) in
      let d = named-sum w w.setup (locals_of xs) f i rests.once rests.workers in
      let e = owned-held w.setup f i xs rests.workers in
      omega arith

  cpu-place : (n f i : ℕ) → n < 512 → in_chain (w.cpu n).frame (y.cpu n) f i ≡ on_cpu f i (cpu_at s n)
  cpu-place n f i below =
      let c = rests.cpu n below in
      elim (cases_eq (w.cpu n).frame 0) [
        | inl z ↦
            let none : (cpu_at s n).current ≡ None = c.current ∙ cond-true (eqb (w.cpu n).frame 0) None (Some (w.cpu n).frame) (eq-eqb (w.cpu n).frame 0 z) in
            let free : y.cpu n ≡ [] = leads.cpu n below ∙ empty n below none in
            ap (λ zs. in_chain (w.cpu n).frame zs f i) free ∙ same (eqb (w.cpu n).frame f) ∙ sym (ap (if_current f (times i (cpu_at s n).free)) none)
        | inr d ↦
            let some : (cpu_at s n).current ≡ Some (w.cpu n).frame = c.current ∙ cond-false (eqb (w.cpu n).frame 0) None (Some (w.cpu n).frame) (ne_eqb (w.cpu n).frame 0 d) in
            ap (λ zs. in_chain (w.cpu n).frame zs f i) (leads.cpu n below) ∙ sym (ap (if_current f (times i (cpu_at s n).free)) some)
      ]
    where
      same : (b : Bool) → cond b (times i []) 0 ≡ 0
      same true = refl
      same false = refl

  cpu-places : (f i : ℕ) → sum_below w.setup.cpu_words (λ n. in_chain (w.cpu n).frame (y.cpu n) f i) ≡ sum_by (on_cpu f i) s.cpu_lists
  cpu-places f i =
      sum_below_same w.setup.cpu_words (λ n. on_cpu f i (cpu_at s n)) (λ n. in_chain (w.cpu n).frame (y.cpu n) f i) (λ n l. cpu-place n f i (narrow n w.setup.cpu_words l cpu_words))
      ∙ cpu-sum s w.setup.cpu_words (on_cpu f i) refl long.cpus cpu_words

  -- a sum over the values of locks, by cache
  by-cache : {A : Type 0} (F : LockValue → ℕ) (G : A → ℕ) (d : A) (ds : List A) → F (Pool s.pool) ≡ 0 → ((k : ℕ) → F (value_of s (suc k)) ≡ G (get_or ds k d)) → G d ≡ 0 → length ds ≡ 32 → sum_below w.setup.locks (λ n. F (w.value n)) ≡ sum_by G ds
  by-cache {A} F G d ds none same nothing count = go w.setup.locks 32 locks refl
    where
      go : (l n : ℕ) → l ≡ 33 → n ≡ 32 → sum_below l (λ n. F (w.value n)) ≡ sum_by G ds
      go l n e u =
          let first = sum_below-first n (λ n. F (value_of s n)) in
          let each = sum_below_same l (λ n. F (value_of s n)) (λ n. F (w.value n)) (λ n below. ap F (rests.values n (omega arith))) in
          let cut : sum_below l (λ n. F (value_of s n)) ≡ sum_below (suc n) (λ n. F (value_of s n)) = ap (λ z. sum_below z (λ n. F (value_of s n))) (let q : l ≡ suc n = omega arith in q) in
          let rest = sum_below_same n (λ k. G (get_or ds k d)) (λ k. F (value_of s (suc k))) (λ k _. same k) in
          let whole = sum_by-below G d ds n nothing (omega arith) in
          omega (arith, first, each, cut, rest, whole, none)

  idle-places : (f i : ℕ) → sum_below w.setup.locks (λ n. idle_in (w.value n) f i) ≡ sum_by (plain.idle_in f i) s.checked
  idle-places f i = by-cache (λ v. idle_in v f i) (plain.idle_in f i) None s.checked refl same refl long.checked
    where
      list : (b : Bool) (fs : List ℕ) → idle_in (node_value b None fs) f i ≡ 0
      list true fs = refl
      list false fs = refl

      go : (k : ℕ) (o : Option CheckedState) → idle_in (node_value (is_some (cache_of s k)) o (node_of s k)) f i ≡ plain.idle_in f i o
      go k None = list (is_some (cache_of s k)) (node_of s k)
      go k (Some c) = refl

      same : (k : ℕ) → idle_in (value_of s (suc k)) f i ≡ plain.idle_in f i (get_or s.checked k None)
      same k = go k (checked_of s k)

  pub places-same : (f i : ℕ) → places w y xs f i ≡ plain.places s f i
  places-same f i =
      let a = board-places f i in
      let c = cpu-places f i in
      let d = idle-places f i in
      let own : times i (y.own f) ≡ times i (own_free s f) = ap (times i) (leads.own f) in
      omega arith

  -- ---- lists of slabs

  cpu-current : (n f : ℕ) → n < 512 → f ≢ 0 → one_if (eqb (w.cpu n).frame f) ≡ if_current f 1 (cpu_at s n).current
  cpu-current n f below some =
      let c = rests.cpu n below in
      elim (cases_eq (w.cpu n).frame 0) [
        | inl z ↦ cond-false (eqb (w.cpu n).frame f) 1 0 (ne_eqb (w.cpu n).frame f (λ e. some (sym e ∙ z))) ∙ sym (ap (if_current f 1) (c.current ∙ cond-true (eqb (w.cpu n).frame 0) None (Some (w.cpu n).frame) (eq-eqb (w.cpu n).frame 0 z)))
        | inr d ↦ sym (ap (if_current f 1) (c.current ∙ cond-false (eqb (w.cpu n).frame 0) None (Some (w.cpu n).frame) (ne_eqb (w.cpu n).frame 0 d)))
      ]

  pub currents-same : (f : ℕ) → f ≢ 0 → sum_below w.setup.cpu_words (λ n. one_if (eqb (w.cpu n).frame f)) ≡ times_current s f
  currents-same f some =
      sum_below_same w.setup.cpu_words (λ n. if_current f 1 (cpu_at s n).current) (λ n. one_if (eqb (w.cpu n).frame f)) (λ n l. cpu-current n f (narrow n w.setup.cpu_words l cpu_words) some)
      ∙ cpu-sum s w.setup.cpu_words (λ x. if_current f 1 x.current) refl long.cpus cpu_words

  pub strings-same : (f : ℕ) → sum_below w.setup.cpu_words (λ n. times f (y.list n)) ≡ sum_by (λ x. times f x.partial) s.cpu_lists
  strings-same f =
      sum_below_same w.setup.cpu_words (λ n. times f (cpu_at s n).partial) (λ n. times f (y.list n)) (λ n l. ap (times f) (leads.list n (narrow n w.setup.cpu_words l cpu_words)))
      ∙ cpu-sum s w.setup.cpu_words (λ x. times f x.partial) refl long.cpus cpu_words

  pub nodes-same : (f : ℕ) → sum_below w.setup.locks (λ n. times f (frames_in (w.value n))) ≡ sum_by (times f) s.nodes
  nodes-same f = by-cache (λ v. times f (frames_in v)) (times f) [] s.nodes refl same refl long.nodes
    where
      same : (k : ℕ) → times f (frames_in (value_of s (suc k))) ≡ times f (get_or s.nodes k [])
      same k = ap (times f) (ap (λ n. frames_in (value_of s n)) (let e : suc k ≡ k + 1 = omega arith in e) ∙ sym (rests.nodes k))

  pub lists-same : (f : ℕ) → on_lists w y f ≡ times_partial s f
  lists-same f = let a = strings-same f in let c = nodes-same f in omega arith
