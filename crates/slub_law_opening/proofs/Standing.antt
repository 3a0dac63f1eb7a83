-- Words in which a coherent machine rests stand.
use Rattle.std.proofs.Common.{◌≡◌, ◌≢◌, ℕ, zero, suc, ◌+◌, ◌*◌, ◌/◌, ◌%◌, ◌^◌, ◌<◌, ◌≤◌, ◌&&◌, cond, eqb, Bool, true, false, List, [], ◌∷◌, length, get_or, Option, Some, None, inl, inr, refl, ap, sym, ◌∙◌, subst, arith, sum_by, Contains}
use Rattle.std.specs.Prelude.{nat_lt, is_some, IfSome, MatchOption, All, IsTrue, ◌↔◌, option_map}
use Rattle.std.specs.Option.{option_or}
use Rattle.std.proofs.lemmas.Bool.{cases_eq, cases_lt, false≢true, eq-eqb, ne_eqb, cond-true, cond-false, lt-ltb, le-ltb}
use Rattle.std.proofs.lemmas.Bool.Decides.{nat_tests}
use Rattle.std.proofs.lemmas.List.Elements.{All-from_get_or, All-contains_itself, All-contains}
use Rattle.slub_common.specs.Times.{times}
use Rattle.slub_common.proofs.Sums.{element-counted}
use Rattle.slub_object_layout.specs.declared.layout.Layout.{Layout}
use Rattle.slub_words.specs.declared.slab.SlabWord.{SlabWord}
use Rattle.slub_words.specs.declared.board.BoardWord.{BoardWord}
use Rattle.slub_lists.specs.declared.lists.Slab.{Slab}
use Rattle.slub_lists.specs.declared.lists.Held.{Held}
use Rattle.slub_lists.specs.State.{State}
use Rattle.slub_lists.specs.Alloc.{slab_of, own_free, cache_of, checked_of, node_of, no_lists}
use Rattle.slub_lists.specs.Coherent.{IsCoherent, IsConsistent, IsSlabOf, held_under, times_current, times_partial, covered_from}
use Rattle.slub_lists.specs.Places.{layout_at}
use Rattle.slub_lists.proofs.CheckedSlabs.{at_some}
use Rattle.slub_lists.proofs.CheckedGiving.{the-value}
use Rattle.slub_lists.proofs.CheckedTaking.{held-slab}
use Rattle.slub_lists.proofs.Kept.{consistent-of}
use Rattle.slub_lists.proofs.Places.{sized-of-slab, slab-inside}
use Rattle.slub_core.specs.declared.local.Known.{Known}
use Rattle.slub_core.specs.Setup.{Setup, IsSetup, IsPlain, node_lock}
use Rattle.slub_core.specs.Local.{Worker, nobody}
use Rattle.slub_core.specs.Run.{idle}
use Rattle.slub_core.specs.World.{World, Chains, frames_in, pool_in, pool_of, size_in, objects_at, cache_at, order_at, one_if, sum_below, live, off_list}
use Rattle.slub_core.specs.Placed.{IsPlaced}
use Rattle.slub_core.specs.Listed.{IsListed, IsShaped, IsStocked, IsGuarded, home_of, homes, on_lists, marked_of, covered_by, frame_roles, takes}
use Rattle.slub_object_layout.specs.Layout.{IsSized}
use Rattle.slub_core.specs.Fresh.{IsFresh, IsAtWork}
use Rattle.slub_core.specs.Coherent.{Stands}
use Rattle.slub_core.proofs.Update.{sum_below_same}
use Rattle.slub_core.proofs.Pigeon.{sum_below-none}
use Rattle.slub_law_opening.specs.Opening.{Beside, IsBeside, setup_of, cpu_at, value_of, node_value}
use Rattle.slub_law_opening.specs.Rests.{IsBetween, Rests, held_on, held_among}
use Rattle.slub_law_opening.proofs.Cpus.{cpu-at, cpu-bare, current-at, has-cpus, partial-one}
use Rattle.slub_law_opening.proofs.Counts.{HasCounts, LeadsTo, IsSeen, locals_of, workers-none, slab-none, slab-some, object-same, places-same, currents-same, lists-same, nodes-same, covered}
use Rattle.slub_law_opening.proofs.Names.{held-named, as_held}
use Rattle.slub_law_opening.proofs.Setups.{is-setup, guards}
use Rattle.slub_law_opening.proofs.Slabs.{no-size, values_with, values-one}
use Rattle.slub_law_opening.proofs.Words.{IsNoWord, IsPlainWord, IsWordAt, is_bare, is_plain, IsListedAt, chain-empty, word-at, plain-at, node-le, node-sum, listed-at}
use Rattle.slub_law_opening.proofs.Workers.{IsBare, no-home, no-run, no-mark, no-lock, at-work}

pub has-counts : (s : State) → IsConsistent s → HasCounts s
has-counts s consistent = record { cpus = has-cpus s consistent; slabs = consistent.shaped.slabs; nodes = consistent.shaped.nodes; checked = consistent.shaped.checked.numbers }

-- what its words lead to: each freelist and each partial list
abbrev pub chains_of : State → Chains
chains_of s = record {
  cpu = λ n. (cpu_at s n).free;
  own = own_free s;
  list = λ n. (cpu_at s n).partial;
}

pub no_worker : Worker
no_worker = record { local = idle; chains = []; string = [] }

pub local-in : (xs : List Worker) (x : Worker) → Contains xs x → Contains (locals_of xs) x.local
local-in [] x found = let short : found.0 < 0 = found.1 in absurd (omega arith)
local-in (y ∷ xs) x (zero, short, is) = (0, omega arith, ap (λ (z : Worker). z.local) is)
local-in (y ∷ xs) x (suc k, short, is) = let r = local-in xs x (k, omega arith, is) in (suc r.0, (let l = r.1 in omega arith), r.2)

pub narrow : (n a : ℕ) → n < a → a ≡ 512 → n < 512
narrow n a l e = omega arith

module _ (s : State) (b : Beside) (w : World) (xs : List Worker) (beside : IsBeside s b) (coherent : IsCoherent s) (rests : Rests s b w (locals_of xs)) (bare : All IsBare xs) where
  abbrev pub y : Chains
  y = chains_of s

  consistent : IsConsistent s
  consistent = consistent-of s coherent

  long : HasCounts s
  long = has-counts s consistent

  leads : LeadsTo s (chains_of s)
  leads = record { own = λ f. refl; cpu = λ n below. refl; list = λ n below. refl }

  empty : (n : ℕ) → n < 512 → (cpu_at s n).current ≡ None → (cpu_at s n).free ≡ []
  empty n below none = cpu-bare s n consistent none

  cpu_words : w.setup.cpu_words ≡ 512
  cpu_words = ap (λ (m : Setup). m.cpu_words) rests.setup

  locks : w.setup.locks ≡ 33
  locks = ap (λ (m : Setup). m.locks) rests.setup

  frames : w.setup.frames ≡ s.frames
  frames = ap (λ (m : Setup). m.frames) rests.setup

  seen : (f : ℕ) (x : Slab) → slab_of s f ≡ Some x → IsSeen w f x
  seen f x e = slab-some s b w (chains_of s) xs long rests leads empty f x e

  unseen : (f : ℕ) → slab_of s f ≡ None → objects_at w f ≡ 0
  unseen f e = slab-none s b w (chains_of s) xs long rests leads empty f e

  word : (f : ℕ) → IsWordAt s f (w.slab f)
  word f = word-at s b w xs consistent rests seen unseen f

  plain-word : (f : ℕ) (x : Slab) → slab_of s f ≡ Some x → checked_of s x.cache ≡ None → IsPlainWord s f x (w.slab f)
  plain-word f x e plain = plain-at s b w xs consistent rests seen unseen f x e plain

  listed-word : (f : ℕ) → 0 < times_partial s f → (x : Slab) × IsListedAt s b w xs consistent rests seen unseen f x
  listed-word f some = listed-at s b w xs consistent rests seen unseen f some

  currents : (f : ℕ) → f ≢ 0 → sum_below w.setup.cpu_words (λ n. one_if (eqb (w.cpu n).frame f)) ≡ times_current s f
  currents f some = currents-same s b w (chains_of s) xs long rests leads empty f some

  listing : (f : ℕ) → on_lists w (chains_of s) f ≡ times_partial s f
  listing f = lists-same s b w (chains_of s) xs long rests leads empty f

  -- ---- Placed

  pub placed : IsPlaced w (chains_of s) xs
  placed = record {
    once = λ f i. places-same s b w (chains_of s) xs long rests leads empty f i ∙ consistent.placed f i ∙ sym (object-same s b w (chains_of s) xs long rests leads empty f i);
    cpu_chain = λ n below. (rests.cpu n (narrow n w.setup.cpu_words below cpu_words)).free;
    own_chain = λ f. (rests.own f).chain;
  }

  -- ---- one role for each slab

  frozen-at : (f : ℕ) (x : Slab) → slab_of s f ≡ Some x → IsTrue x.frozen ↔ (0 < times_current s f)
  frozen-at f x e = at_some (slab_of s f) x (λ slab. IsTrue slab.frozen ↔ (0 < times_current s f)) e (consistent.listed.frozen f)

  role : (f : ℕ) (x : Slab) → slab_of s f ≡ Some x → (c : SlabWord) → IsPlainWord s f x c → times_current s f + times_partial s f + off_list c ≡ 1
  role f x e c is = go c.frozen c.listed refl refl
    where
      one : live c ≡ 1
      one = ap one_if (lt-ltb 0 c.objects is.some)

      off : (z m : Bool) → c.frozen ≡ z → c.listed ≡ m → off_list c ≡ cond z 0 (cond m 0 (cond (eqb c.head 0) 1 0))
      off z m is_z is_m = ap (λ z. cond z 0 (cond c.listed 0 (cond (eqb c.head 0) (live c) 0))) is_z ∙ ap (λ m. cond z 0 (cond m 0 (cond (eqb c.head 0) (live c) 0))) is_m ∙ ap (λ n. cond z 0 (cond m 0 (cond (eqb c.head 0) n 0))) one

      go : (z m : Bool) → c.frozen ≡ z → c.listed ≡ m → times_current s f + times_partial s f + off_list c ≡ 1
      go true m is_z is_m =
          let some = (frozen-at f x e).0 (sym is.frozen ∙ is_z) in
          let o : off_list c ≡ 0 = off true m is_z is_m in
          omega (arith, some, o, consistent.listed.once f)
      go false true is_z is_m =
          let marks : nat_lt 0 (times f (node_of s x.cache)) ≡ true = sym is.listed ∙ is_m in
          let some : 0 < times f (node_of s x.cache) = grind (arith, nat_tests, marks) in
          let o : off_list c ≡ 0 = off false true is_z is_m in
          omega (arith, some, o, node-le s b w xs consistent rests seen unseen x.cache f, consistent.listed.once f)
      go false false is_z is_m =
          let idle : times_current s f ≡ 0 = elim (cases_lt 0 (times_current s f)) [ inl l ↦ absurd (cc (is_z, is.frozen, (frozen-at f x e).1 l)) | inr g ↦ omega arith ] in
          elim (cases_eq (length (own_free s f)) 0) [
            | inl z ↦
                let part : times_partial s f ≡ 0 = elim (cases_lt 0 (times_partial s f)) [ inl l ↦ absurd (let t = consistent.listed.stocked f l in omega arith) | inr g ↦ omega arith ] in
                let o : off_list c ≡ 1 = off false false is_z is_m ∙ cond-true {A = ℕ} (eqb c.head 0) 1 0 (eq-eqb c.head 0 (is.used z)) in
                omega (arith, idle, part, o)
            | inr d ↦
                let some : 0 < length (own_free s f) = omega arith in
                let kept = coherent.kept f some in
                let o : off_list c ≡ 0 = off false false is_z is_m ∙ cond-false {A = ℕ} (eqb c.head 0) 1 0 (ne_eqb c.head 0 (λ z. absurd (let t = is.stocked some in omega arith))) in
                omega (arith, idle, kept, o, consistent.listed.once f)
          ]

  no-off : (c : SlabWord) → IsNoWord c → (off_list c ≡ 0) × (live c ≡ 0)
  no-off c none =
      let z : live c ≡ 0 = ap (λ n. one_if (nat_lt 0 n)) none.objects in
      (go c.frozen c.listed (eqb c.head 0) z, z)
    where
      go : (a m h : Bool) → live c ≡ 0 → cond a 0 (cond m 0 (cond h (live c) 0)) ≡ 0
      go true m h z = refl
      go false true h z = refl
      go false false true z = z
      go false false false z = refl

  roles : (f : ℕ) → times_current s f + times_partial s f + off_list (w.slab f) ≡ live (w.slab f)
  roles f = go (word f)
    where
      go : IsWordAt s f (w.slab f) → times_current s f + times_partial s f + off_list (w.slab f) ≡ live (w.slab f)
      go (is_bare own away none never) = let n = no-off (w.slab f) none in omega (arith, away, n.0, n.1)
      go (is_plain x e plain is) = role f x e (w.slab f) is ∙ sym (ap one_if (lt-ltb 0 (w.slab f).objects is.some))

  once : (f : ℕ) → f ≢ 0 → homes w (chains_of s) xs f + off_list (w.slab f) ≡ live (w.slab f)
  once f some =
      let a = workers-none (home_of f) w.setup xs (no-home f w.setup) rests.workers bare in
      let c = currents f some in
      let d = listing f in
      let r = roles f in
      omega arith

  marked : (f : ℕ) → sum_by (marked_of f) xs + sum_below w.setup.locks (λ n. times f (frames_in (w.value n))) ≡ one_if (w.slab f).listed
  marked f =
      let a = workers-none (marked_of f) w.setup xs (no-mark f w.setup) rests.workers bare in
      let c = nodes-same s b w (chains_of s) xs long rests leads empty f in
      omega (arith, a, c, go (word f))
    where
      go : IsWordAt s f (w.slab f) → sum_by (times f) s.nodes ≡ one_if (w.slab f).listed
      go (is_bare own away none never) = let z : one_if (w.slab f).listed ≡ 0 = ap one_if none.listed in omega (arith, away, z)
      go (is_plain x e plain is) = node-sum s b w xs consistent rests seen unseen f x e ∙ sym (ap one_if is.listed)

  framed : (g : ℕ) → frame_roles w xs g ≡ one_if (nat_lt 0 g && nat_lt g w.setup.frames)
  framed g =
      let a = workers-none (λ (x : Worker). covered_by g x.local.run) w.setup xs (no-run g w.setup) rests.workers bare in
      let c = covered s b w (chains_of s) xs long rests leads empty g in
      let p : times g (pool_of w).free ≡ times g s.pool.free = ap (λ v. times g (pool_in v).free) (rests.values 0 (omega arith)) in
      let e : frame_roles w xs g ≡ times g s.pool.free + covered_from g 0 s.slabs = omega arith in
      e ∙ consistent.framed g ∙ ap (λ n. one_if (nat_lt 0 g && nat_lt g n)) (sym frames)

  locked : (n : ℕ) → n < w.setup.locks → sum_by (takes n) xs + one_if (eqb (w.lock n) 0) ≡ 1
  locked n below =
      let a = workers-none (takes n) w.setup xs (no-lock n w.setup) rests.workers bare in
      let z = rests.locks n (omega (arith, below, locks)) in
      let o : one_if (eqb (w.lock n) 0) ≡ 1 = ap one_if (eq-eqb (w.lock n) 0 z) in
      omega arith

  -- ---- shapes

  no-zero : slab_of s 0 ≡ None
  no-zero = go (slab_of s 0) refl
    where
      go : (x : Option Slab) → slab_of s 0 ≡ x → x ≡ None
      go None e = refl
      go (Some x) e = absurd (let t = (slab-inside s 0 x consistent e).0 in omega arith)

  zero-listed : times_partial s 0 ≡ 0
  zero-listed = elim (cases_lt 0 (times_partial s 0)) [
    | inl l ↦ absurd (let x = listed-word 0 l in let t = (slab-inside s 0 x.0 consistent x.1.there).0 in omega arith)
    | inr g ↦ omega arith
  ]

  marks : (f : ℕ) → (w.slab f).listed ≡ true → (1 ≤ (w.slab f).head) × ((w.slab f).frozen ≡ false)
  marks f mark = go (word f)
    where
      go : IsWordAt s f (w.slab f) → (1 ≤ (w.slab f).head) × ((w.slab f).frozen ≡ false)
      go (is_bare own away none never) = absurd (false≢true (sym none.listed ∙ mark))
      go (is_plain x e plain is) =
          let m : nat_lt 0 (times f (node_of s x.cache)) ≡ true = sym is.listed ∙ mark in
          let some : 0 < times f (node_of s x.cache) = grind (arith, nat_tests, m) in
          let t = listed-word f (omega (arith, some, node-le s b w xs consistent rests seen unseen x.cache f)) in
          (t.1.head, t.1.unfrozen)

  in-cpu : (n : ℕ) → n < 512 → (w.cpu n).frame ≢ 0 → (cpu_at s n).current ≡ Some (w.cpu n).frame
  in-cpu n below some = (rests.cpu n below).current ∙ cond-false (eqb (w.cpu n).frame 0) None (Some (w.cpu n).frame) (ne_eqb (w.cpu n).frame 0 some)

  current-word : (n : ℕ) → n < 512 → (w.cpu n).frame ≢ 0 → ((w.slab (w.cpu n).frame).cache ≡ n / 16) × ((w.slab (w.cpu n).frame).frozen ≡ true)
  current-word n below some =
      let f = (w.cpu n).frame in
      let c = current-at s n f consistent (in-cpu n below some) in
      let p = plain-word f c.slab c.there (ap (checked_of s) c.own ∙ c.unchecked) in
      (p.cache ∙ c.own, p.frozen ∙ c.frozen)

  bare-cpu : (n : ℕ) → n < 512 → (w.cpu n).frame ≡ 0 → (w.cpu n).head ≡ 0
  bare-cpu n below z =
      let c = rests.cpu n below in
      let none : (cpu_at s n).current ≡ None = c.current ∙ cond-true (eqb (w.cpu n).frame 0) None (Some (w.cpu n).frame) (eq-eqb (w.cpu n).frame 0 z) in
      chain-empty _ (w.cpu n).head (cpu_at s n).free c.free (ap (length {A = ℕ}) (empty n below none))

  stocked : (k f : ℕ) → 0 < times_partial s f → IfSome (slab_of s f) (λ slab. slab.cache ≡ k) → IsStocked (w.slab f) k
  stocked k f some of =
      let t = listed-word f some in
      record { owner = t.1.word.cache ∙ at_some (slab_of s f) t.0 (λ slab. slab.cache ≡ k) t.1.there of; head = t.1.head; unfrozen = t.1.unfrozen }

  in-string : (n f : ℕ) → n < 512 → 1 ≤ times f (cpu_at s n).partial → IsStocked (w.slab f) (n / 16) × ((w.slab f).listed ≡ false)
  in-string n f below some =
      let part : 0 < times_partial s f = omega (arith, partial-one s n f, some) in
      let of = cpu-at s n (λ l. 0 < times f l.partial → IfSome (slab_of s f) (λ slab. slab.cache ≡ n / 16)) (λ l. absurd (omega arith)) (λ inside. consistent.listed.of_partial (n / 16) (n % 16) f inside) some in
      let t = listed-word f part in
      (stocked (n / 16) f part of, t.1.word.listed ∙ le-ltb 0 (times f (node_of s t.0.cache)) (beside-node t.0.cache))
    where
      beside-node : (k : ℕ) → times f (node_of s k) ≤ 0
      beside-node k =
          let c = nodes-sum k in
          let d = strings-sum in
          omega (arith, some, consistent.listed.once f, c, d)
        where
          nodes-sum : (k : ℕ) → times f (node_of s k) ≤ sum_by (times f) s.nodes
          nodes-sum k = element-counted (times f) s.nodes k [] refl

          strings-sum : times f (cpu_at s n).partial ≤ sum_by (λ lists. times f lists.partial) s.cpu_lists
          strings-sum = cpu-at s n (λ l. times f l.partial ≤ sum_by (λ lists. times f lists.partial) s.cpu_lists) (omega arith) (λ inside. element-counted (λ lists. times f lists.partial) s.cpu_lists (n / 16 * s.cpus + n % 16) no_lists refl)

  in-node : (k f : ℕ) → node_lock k < w.setup.locks → 1 ≤ times f (frames_in (w.value (node_lock k))) → IsStocked (w.slab f) k
  in-node k f below there =
      let v = rests.values (node_lock k) (omega (arith, below, locks)) in
      let some : 0 < times f (node_of s k) = subst (λ xs. 1 ≤ times f xs) (ap frames_in v ∙ sym (rests.nodes k)) there in
      stocked k f (omega (arith, some, node-le s b w xs consistent rests seen unseen k f)) (consistent.listed.of_node k f some)

  -- a word of a slab is an unchecked slab's
  by-word : (f : ℕ) (P : Type 0) → 1 ≤ (w.slab f).objects → ((x : Slab) → slab_of s f ≡ Some x → checked_of s x.cache ≡ None → IsPlainWord s f x (w.slab f) → P) → P
  by-word f P some use_it = go (word f)
    where
      go : IsWordAt s f (w.slab f) → P
      go (is_bare own away none never) = absurd (omega (arith, none.objects, some))
      go (is_plain x e plain is) = use_it x e plain is

  by-slab : (f : ℕ) (P : Type 0) → 1 ≤ objects_at w f → ((x : Slab) → slab_of s f ≡ Some x → IsSeen w f x → P) → P
  by-slab f P some use_it = go (slab_of s f) refl
    where
      go : (x : Option Slab) → slab_of s f ≡ x → P
      go None e = absurd (let z = unseen f e in omega arith)
      go (Some x) e = use_it x e (seen f x e)

  plain-cache : (f : ℕ) → 1 ≤ (w.slab f).objects → IsPlain w.setup (w.slab f).cache
  plain-cache f some = by-word f (IsPlain w.setup (w.slab f).cache) some (λ x e plain is.
      let live = the-value (cache_of s x.cache) (λ live. IsSlabOf live.layout x) (at_some (slab_of s f) x (λ slab. MatchOption (cache_of s slab.cache) ⊥ (λ live. IsSlabOf live.layout slab)) e (consistent.shaped.slab f)) in
      let lives : is_some (cache_of s x.cache) ≡ true = ap is_some live.1 in
      let here : IsPlain (setup_of s b) x.cache = ((is-setup s b beside consistent).live x.cache lives, lives, ap is_some plain) in
      subst (λ k. IsPlain w.setup k) (sym is.cache) (subst (λ m. IsPlain m x.cache) (sym rests.setup) here))

  sized : (f : ℕ) → 1 ≤ (w.slab f).objects → IsSized (w.setup.layout (w.slab f).cache) (order_at w f) (w.slab f).objects
  sized f some = by-word f (IsSized (w.setup.layout (w.slab f).cache) (order_at w f) (w.slab f).objects) some (λ x e plain is.
      let l : w.setup.layout (w.slab f).cache ≡ layout_at s x.cache = ap (λ (m : Setup). m.layout (w.slab f).cache) rests.setup ∙ ap (layout_at s) is.cache in
      subst (λ (l : Layout). IsSized l (order_at w f) (w.slab f).objects) (sym l)
      (subst (λ n. IsSized (layout_at s x.cache) n (w.slab f).objects) (sym (seen f x e).order)
      (subst (λ n. IsSized (layout_at s x.cache) x.order n) (sym is.objects) (sized-of-slab s f x consistent e))))

  aligned : (f : ℕ) → 1 ≤ objects_at w f → f % 2 ^ order_at w f ≡ 0
  aligned f some = by-slab f (f % 2 ^ order_at w f ≡ 0) some (λ x e is. ap (λ n. f % 2 ^ n) is.order ∙ at_some (slab_of s f) x (λ slab. f % 2 ^ slab.order ≡ 0) e (consistent.shaped.aligned f))

  within : (f : ℕ) → 1 ≤ objects_at w f → f < w.setup.frames
  within f some = by-slab f (f < w.setup.frames) some (λ x e is. omega (arith, (slab-inside s f x consistent e).1, frames))

  alone : (f : ℕ) → live (w.slab f) + sum_below w.setup.locks (λ n. one_if (nat_lt 0 (size_in (w.value n) f))) ≤ 1
  alone f =
      let same = sum_below_same w.setup.locks (values_with s f) (λ n. one_if (nat_lt 0 (size_in (w.value n) f))) (λ n below. ap (λ v. one_if (nat_lt 0 (size_in v f))) (rests.values n (omega (arith, below, locks)))) in
      omega (arith, same, go (word f))
    where
      injected : {x y : Slab} → Some x ≡ Some y → x ≡ y
      injected e = cc

      list : (z : Bool) (fs : List ℕ) → size_in (node_value z None fs) f ≡ 0
      list true fs = refl
      list false fs = refl

      none-at : (k : ℕ) → checked_of s k ≡ None → size_in (value_of s (suc k)) f ≡ 0
      none-at k e = ap (λ o. size_in (node_value (is_some (cache_of s k)) o (node_of s k)) f) e ∙ list (is_some (cache_of s k)) (node_of s k)

      values : (m : ℕ) → sum_below m (values_with s f) ≤ 1
      values m = at (slab_of s f) refl
        where
          at : (x : Option Slab) → slab_of s f ≡ x → sum_below m (values_with s f) ≤ 1
          at None e = let z = sum_below-none m (values_with s f) (λ n _. zero-value n (λ k. no-size s f k consistent (λ x there here. absurd (cc (there, e))))) in omega arith
            where
              zero-value : (n : ℕ) → ((k : ℕ) → size_in (value_of s (suc k)) f ≡ 0) → values_with s f n ≡ 0
              zero-value zero none = refl
              zero-value (suc k) none = ap (λ n. one_if (nat_lt 0 n)) (none k)
          at (Some x) e = values-one s f m x consistent e

      go : IsWordAt s f (w.slab f) → live (w.slab f) + sum_below w.setup.locks (values_with s f) ≤ 1
      go (is_bare own away none never) = let z = (no-off (w.slab f) none).1 in omega (arith, z, values w.setup.locks)
      go (is_plain x e plain is) =
          let one : live (w.slab f) ≡ 1 = ap one_if (lt-ltb 0 (w.slab f).objects is.some) in
          let z = sum_below-none w.setup.locks (values_with s f) (λ n _. no-value n) in
          omega arith
        where
          no-value : (n : ℕ) → values_with s f n ≡ 0
          no-value zero = refl
          no-value (suc k) = ap (λ n. one_if (nat_lt 0 n)) (elim (cases_eq k x.cache) [
            | inl same ↦ none-at k (ap (checked_of s) same ∙ plain)
            | inr d ↦ no-size s f k consistent (λ z there here. d (sym here ∙ ap (λ (z : Slab). z.cache) (injected (sym there ∙ e))))
          ])

  unslabbed : (f : ℕ) → (w.slab f).objects ≡ 0 → ((w.slab f).head ≡ 0) × ((w.slab f).frozen ≡ false) × ((w.slab f).listed ≡ false)
  unslabbed f none = go (word f)
    where
      go : IsWordAt s f (w.slab f) → ((w.slab f).head ≡ 0) × ((w.slab f).frozen ≡ false) × ((w.slab f).listed ≡ false)
      go (is_bare own away word never) = (word.head, word.frozen, word.listed)
      go (is_plain x e plain is) = absurd (let t = is.some in omega arith)

  guarded : (n : ℕ) → n < w.setup.locks → IsGuarded w.setup n (w.value n)
  guarded n below = subst (λ m. IsGuarded m n (w.value n)) (sym rests.setup) (subst (λ v. IsGuarded (setup_of s b) n v) (sym (rests.values n (omega (arith, below, locks)))) (guards s b beside consistent n))

  -- an object that a number names is of its slab's cache
  held-cache : (o : ℕ) (h : Held) → held_under s o ≡ Some h → h.cache ≡ cache_at w h.frame
  held-cache o h e =
      let x = held-slab s o h e consistent in
      sym x.2 ∙ sym (seen h.frame x.0 x.1).cache

  on-board : (o : ℕ) (d : BoardWord) → o < w.setup.objects → w.board o ≡ Some d → d.cache ≡ cache_at w d.frame
  on-board o d below e = held-cache o (held_on d) (rests.named o ∙ ap (λ z. option_or (option_map held_on z) (held_among (locals_of xs) o)) e)

  pub shaped : IsShaped w (chains_of s)
  shaped = record {
    no_slab = unseen 0 no-zero;
    no_lists = listing 0 ∙ zero-listed;
    marks = marks;
    current = λ n below some. current-word n (narrow n w.setup.cpu_words below cpu_words) some;
    bare = λ n below z. bare-cpu n (narrow n w.setup.cpu_words below cpu_words) z;
    string = λ n below. (rests.cpu n (narrow n w.setup.cpu_words below cpu_words)).partial;
    count = λ n below. (rests.cpu n (narrow n w.setup.cpu_words below cpu_words)).count;
    partial = λ n f below some. in-string n f (narrow n w.setup.cpu_words below cpu_words) some;
    node = in-node;
    counted = λ f. (rests.own f).in_use;
    plain = plain-cache;
    sized = sized;
    aligned = aligned;
    within = within;
    alone = alone;
    unslabbed = unslabbed;
    guarded = guarded;
    board = on-board;
  }

  pub listed : IsListed w (chains_of s) xs
  listed = record { once = once; marked = marked; framed = framed; locked = locked; shaped = shaped }

  -- ---- the workers

  knows : (x : Worker) → Contains xs x → All (λ (k : Known). k.held ≡ true → k.cache ≡ cache_at w k.frame) x.local.known
  knows x is = All-from_get_or (λ (k : Known). k.held ≡ true → k.cache ≡ cache_at w k.frame) x.local.known nobody (λ i below held.
      let k = get_or x.local.known i nobody in
      let n = held-named w (locals_of xs) x.local k (local-in xs x is) (All-contains_itself x.local.known i nobody below) held (rests.once k.object) in
      held-cache k.object (as_held x.local.worker k) (rests.named k.object ∙ n))

  pub fresh : IsFresh w xs
  fresh = record {
    setup = subst IsSetup (sym rests.setup) (is-setup s b beside consistent);
    worded = rests.words;
    workers = All-from_get_or (IsAtWork w) xs no_worker (λ i below.
        let x = get_or xs i no_worker in
        let is = All-contains_itself xs i no_worker below in
        at-work w x (omega (arith, beside.objects.0, ap (λ (m : Setup). m.objects) rests.setup))
        (All-contains (IsBetween w.setup) (locals_of xs) x.local rests.workers (local-in xs x is)) (All-contains IsBare xs x bare is) (knows x is));
  }

  pub stands : Stands w xs
  stands = record { chains = chains_of s; placed = placed; listed = listed; fresh = fresh }
