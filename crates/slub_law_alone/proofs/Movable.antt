-- Slabs of a set that is moved to the node list: what each of them owes, and that it stays so while others are moved.
use Rattle.std.proofs.Common.{◌≡◌, ℕ, zero, suc, ◌+◌, ◌<◌, ◌≤◌, Bool, true, false, cond, eqb, List, [], ◌∷◌, ◌++◌, length, get_or, set, Option, Some, None, inl, inr, refl, ap, sym, ◌∙◌, subst, arith}
use Rattle.std.specs.Prelude.{is_some, IfSome, ⊤}
use Rattle.std.proofs.lemmas.Bool.{cases_eq, cond_both, eq-eqb, ne_eqb}
use Rattle.std.proofs.lemmas.List.{get_or-set_same, get_or-set_other, length-set}
use Rattle.slub_common.specs.Times.{times}
use Rattle.slub_common.proofs.Times.{times-push, times-cons_other, times-cons_same}
use Rattle.slub_common.proofs.Sums.{element-counted}
use Rattle.slub_page_pool.specs.FreeFrames.{FreeFrames}
use Rattle.slub_red_zone.specs.State.{CheckedState}
use Rattle.slub_lists.specs.declared.lists.CpuLists.{CpuLists}
use Rattle.slub_lists.specs.declared.lists.Slab.{Slab}
use Rattle.slub_lists.specs.declared.lists.Held.{Held}
use Rattle.slub_lists.specs.State.{State}
use Rattle.slub_lists.specs.Alloc.{cache_of, checked_of, cpu_place, lists_of, no_lists, node_of, own_free, slab_of, with_node}
use Rattle.slub_lists.specs.Coherent.{IsConsistent, times_partial}
use Rattle.slub_lists.specs.Free.{discarded, is_spare, moved, moved_all, with_gone}
use Rattle.slub_lists.proofs.Places.{listed-is, slab-inside}
use Rattle.slub_core.specs.World.{size_in, one_if}
use Rattle.slub_core.proofs.Lists.{times-first}
use Rattle.slub_law_opening.specs.Opening.{node_value, value_of}
use Rattle.slub_law_opening.specs.Closing.{HasLengths}
use Rattle.slub_law_opening.proofs.Slabs.{no-size}

-- ---- what a slab owes

-- it is a slab of the cache with a free object, on no node list and of no checked cache
pub record IsMovable (s : State) (k f : ℕ) : Type 0 where
  pub within : f < s.frames
  pub of_cache : IfSome (slab_of s f) (λ (slab : Slab). slab.cache ≡ k)
  pub stocked : 0 < length (own_free s f)
  pub off_node : (cache : ℕ) → times f (node_of s cache) ≡ 0
  pub off_values : (n : ℕ) → size_in (value_of s n) f ≡ 0

-- each slab of the set is one, and there once
abbrev pub AreMovable : State → ℕ → List ℕ → Type 0
AreMovable s k [] = ⊤
AreMovable s k (f ∷ fs) = IsMovable s k f × (times f fs ≡ 0) × AreMovable s k fs

-- a slab of an unchecked cache is in the value of no lock
pub no_value : (s : State) (f : ℕ) (slab : Slab) → IsConsistent s → slab_of s f ≡ Some slab → checked_of s slab.cache ≡ None → (n : ℕ) → size_in (value_of s n) f ≡ 0
no_value s f slab consistent there plain zero = refl
no_value s f slab consistent there plain (suc k) = elim (cases_eq slab.cache k) [
  | inl own ↦ ap (λ c. size_in (node_value (is_some (cache_of s k)) c (node_of s k)) f) (ap (checked_of s) (sym own) ∙ plain) ∙ list (is_some (cache_of s k)) (node_of s k)
  | inr away ↦ no-size s f k consistent (λ x is e. away (by x (sym there ∙ is) ∙ e))
]
  where
    list : (b : Bool) (fs : List ℕ) → size_in (node_value b None fs) f ≡ 0
    list true fs = refl
    list false fs = refl

    by : (x : Slab) → Some slab ≡ Some x → slab.cache ≡ x.cache
    by x e = cc

-- the slabs of a CPU's partial list are: each is on that list alone, and once
module _ (s : State) (k cpu : ℕ) (consistent : IsConsistent s) (below : cpu < s.cpus) where
  abbrev partial : List ℕ
  partial = (lists_of s k cpu).partial

  on_one : (f cache : ℕ) → times f partial + times f (node_of s cache) ≤ 1
  on_one f cache =
      let here = element-counted (λ (lists : CpuLists). times f lists.partial) s.cpu_lists (cpu_place s k cpu) no_lists refl in
      let there = element-counted (times f) s.nodes cache [] refl in
      let all = consistent.listed.once f in
      omega (arith, here, there, all)

  movable_on : (f : ℕ) → 1 ≤ times f partial → IsMovable s k f
  movable_on f some =
      let counted : 0 < times_partial s f = let here = element-counted (λ (lists : CpuLists). times f lists.partial) s.cpu_lists (cpu_place s k cpu) no_lists refl in omega (arith, here, some) in
      let slab = listed-is s f consistent counted in
      record {
        within = (slab-inside s f slab.0 consistent slab.1).1;
        of_cache = consistent.listed.of_partial k cpu f below (omega (arith, some));
        stocked = consistent.listed.stocked f counted;
        off_node = λ cache. let one = on_one f cache in omega (arith, one, some);
        off_values = no_value s f slab.0 consistent slab.1 slab.2;
      }

  all_movable : (fs : List ℕ) → ((f : ℕ) → times f fs ≤ times f partial) → AreMovable s k fs
  all_movable [] on = tt
  all_movable (f ∷ fs) on =
      let same = times-cons_same f f fs refl in
      let here = on f in
      let one = on_one f 0 in
      (movable_on f (omega (arith, same, here)), omega (arith, same, here, one), all_movable fs (λ g. let more = times-first g f fs in let all = on g in omega (arith, more, all)))

  pub list_movable : AreMovable s k partial
  list_movable = all_movable partial (λ f. omega arith)

-- they are so in any lists of the same slabs, with as many free objects
pub movable_in : (s t : State) (k : ℕ) (fs : List ℕ) → t.frames ≡ s.frames → t.slabs ≡ s.slabs → t.nodes ≡ s.nodes → ((n f : ℕ) → size_in (value_of t n) f ≡ size_in (value_of s n) f) → ((f : ℕ) → 0 < length (own_free s f) → 0 < length (own_free t f))
    → AreMovable s k fs → AreMovable t k fs
movable_in s t k [] frames slabs nodes values free are = tt
movable_in s t k (f ∷ fs) frames slabs nodes values free are =
    let is = are.0 in (
      record {
        within = (let below = is.within in omega (arith, frames, below));
        of_cache = subst (λ (all : List (Option Slab)). IfSome (get_or all f None) (λ (slab : Slab). slab.cache ≡ k)) (sym slabs) is.of_cache;
        stocked = free f is.stocked;
        off_node = λ cache. ap (λ all. times f (get_or all cache [])) nodes ∙ is.off_node cache;
        off_values = λ n. values n f ∙ is.off_values n;
      },
      are.1,
      movable_in s t k fs frames slabs nodes values free are.2,
    )

-- ---- a slab is moved

-- what locks guard has the same slabs of checked caches whatever a node list has
pub size_kept : (z : Bool) (c : Option CheckedState) (fs gs : List ℕ) (f : ℕ) → size_in (node_value z c fs) f ≡ size_in (node_value z c gs) f
size_kept z (Some c) fs gs f = refl
size_kept true None fs gs f = refl
size_kept false None fs gs f = refl

module _ (s : State) (min k g f : ℕ) (inside : k < length s.nodes) (apart : f ≡ g → ⊥) (is : IsMovable s k f) where
  after_listed : IsMovable (with_node s k (node_of s k ++ g ∷ [])) k f
  after_listed = record { within = is.within; of_cache = is.of_cache; stocked = is.stocked; off_node = off_node; off_values = off_values }
    where
      fs : List ℕ
      fs = node_of s k ++ g ∷ []

      off_node : (cache : ℕ) → times f (get_or (set s.nodes k fs) cache []) ≡ 0
      off_node cache = elim (cases_eq cache k) [
        | inl q ↦ ap (λ c. times f (get_or (set s.nodes k fs) c [])) q ∙ ap (times f) (get_or-set_same s.nodes k fs [] inside)
            ∙ (let p = times-push f g (node_of s k) in let z : cond {A = ℕ} (eqb g f) 1 0 ≡ 0 = ap (λ h. cond {A = ℕ} h 1 0) (ne_eqb g f (λ q. apart (sym q))) in let o = is.off_node k in omega (arith, p, z, o))
        | inr away ↦ ap (times f) (get_or-set_other s.nodes k cache fs [] away) ∙ is.off_node cache
      ]

      off_values : (n : ℕ) → size_in (value_of (with_node s k fs) n) f ≡ 0
      off_values zero = refl
      off_values (suc n) = size_kept (is_some (cache_of s n)) (checked_of s n) (get_or (set s.nodes k fs) n []) (node_of s n) f ∙ is.off_values (suc n)

  after_discarded : IsMovable (discarded s g) k f
  after_discarded = record {
    within = is.within;
    of_cache = subst (λ (o : Option Slab). IfSome o (λ (slab : Slab). slab.cache ≡ k)) (sym (get_or-set_other s.slabs g f None None apart)) is.of_cache;
    stocked = subst (λ (xs : List ℕ). 0 < length xs) (sym (get_or-set_other s.frees g f [] [] apart)) is.stocked;
    off_node = is.off_node;
    off_values = off_values;
  }
    where
      off_values : (n : ℕ) → size_in (value_of (discarded s g) n) f ≡ 0
      off_values zero = refl
      off_values (suc n) = is.off_values (suc n)

  pub stays_movable : IsMovable (moved min k s g) k f
  stays_movable = cond_both (is_spare s min k g) (discarded s g) (with_node s k (node_of s k ++ g ∷ [])) (λ (t : State). IsMovable t k f) (λ _. after_discarded) (λ _. after_listed)

pub stay_movable : (s : State) (min k g : ℕ) (fs : List ℕ) → k < length s.nodes → times g fs ≡ 0 → AreMovable s k fs → AreMovable (moved min k s g) k fs
stay_movable s min k g [] inside off are = tt
stay_movable s min k g (f ∷ fs) inside off are = elim (cases_eq f g) [
  | inl e ↦ absurd (let n = times-first g f fs in let o : one_if (eqb f g) ≡ 1 = ap one_if (eq-eqb f g e) in omega (arith, n, o, off))
  | inr d ↦ (stays_movable s min k g f inside d are.0, are.1, stay_movable s min k g fs inside (sym (times-cons_other g f fs d) ∙ off) are.2)
]

-- ---- what a set that is moved leaves as it was

-- all but the node lists, the pool, and which slabs there are
pub record KeepsRest (s t : State) : Type 0 where
  pub pool : FreeFrames
  pub slabs : List (Option Slab)
  pub frees : List (List ℕ)
  pub nodes : List (List ℕ)
  pub is : t ≡ record s { pool = pool; slabs = slabs; frees = frees; nodes = nodes }
  pub same_slabs : length slabs ≡ length s.slabs
  pub same_frees : length frees ≡ length s.frees
  pub same_nodes : length nodes ≡ length s.nodes

pub listed_keeps : (s : State) (k : ℕ) (fs : List ℕ) → KeepsRest s (with_node s k fs)
listed_keeps s k fs = record {
  pool = s.pool;
  slabs = s.slabs;
  frees = s.frees;
  nodes = set s.nodes k fs;
  is = refl;
  same_slabs = refl;
  same_frees = refl;
  same_nodes = length-set s.nodes k fs;
}

pub discarded_keeps : (s : State) (f : ℕ) → KeepsRest s (discarded s f)
discarded_keeps s f = record {
  pool = (discarded s f).pool;
  slabs = set s.slabs f None;
  frees = set s.frees f [];
  nodes = s.nodes;
  is = refl;
  same_slabs = length-set s.slabs f None;
  same_frees = length-set s.frees f [];
  same_nodes = refl;
}

one_keeps : (s : State) (min k f : ℕ) → KeepsRest s (moved min k s f)
one_keeps s min k f = cond_both (is_spare s min k f) (discarded s f) (with_node s k (node_of s k ++ f ∷ [])) (KeepsRest s) (λ _. discarded_keeps s f) (λ _. listed_keeps s k (node_of s k ++ f ∷ []))

both_keep : (s t r : State) → KeepsRest s t → KeepsRest t r → KeepsRest s r
both_keep s t r first second = record {
  pool = second.pool;
  slabs = second.slabs;
  frees = second.frees;
  nodes = second.nodes;
  is = second.is ∙ ap (λ (t : State). record t { pool = second.pool; slabs = second.slabs; frees = second.frees; nodes = second.nodes }) first.is;
  same_slabs = second.same_slabs ∙ ap (λ (t : State). length t.slabs) first.is ∙ first.same_slabs;
  same_frees = second.same_frees ∙ ap (λ (t : State). length t.frees) first.is ∙ first.same_frees;
  same_nodes = second.same_nodes ∙ ap (λ (t : State). length t.nodes) first.is ∙ first.same_nodes;
}

pub moved_keeps : (s : State) (min k : ℕ) (fs : List ℕ) → KeepsRest s (moved_all s min k fs)
moved_keeps s min k [] = record { pool = s.pool; slabs = s.slabs; frees = s.frees; nodes = s.nodes; is = refl; same_slabs = refl; same_frees = refl; same_nodes = refl }
moved_keeps s min k (f ∷ fs) = both_keep s (moved min k s f) (moved_all (moved min k s f) min k fs) (one_keeps s min k f) (moved_keeps (moved min k s f) min k fs)

pub lengths_kept : (s t : State) → KeepsRest s t → HasLengths s → HasLengths t
lengths_kept s t keeps long = subst HasLengths (sym keeps.is) (record {
  slabs = keeps.same_slabs ∙ long.slabs;
  frees = keeps.same_frees ∙ long.frees;
  cpu_lists = long.cpu_lists;
  nodes = keeps.same_nodes ∙ long.nodes;
  checked = long.checked;
  memory = long.memory;
  gone = long.gone;
  live = long.live;
})

-- ---- what was freed has nothing to do with it

choose_gone : (z : Bool) (s t : State) (object worker : ℕ) (held : Held) → with_gone (cond {A = State} z s t) object worker held ≡ cond {A = State} z (with_gone s object worker held) (with_gone t object worker held)
choose_gone true s t object worker held = refl
choose_gone false s t object worker held = refl

pub gone_moved : (s : State) (min k : ℕ) (fs : List ℕ) (object worker : ℕ) (held : Held) → with_gone (moved_all s min k fs) object worker held ≡ moved_all (with_gone s object worker held) min k fs
gone_moved s min k [] object worker held = refl
gone_moved s min k (f ∷ fs) object worker held =
    gone_moved (moved min k s f) min k fs object worker held
    ∙ ap (λ (t : State). moved_all t min k fs) (choose_gone (is_spare s min k f) (discarded s f) (with_node s k (node_of s k ++ f ∷ [])) object worker held)
