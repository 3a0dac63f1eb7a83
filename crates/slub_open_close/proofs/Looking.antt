-- What is looked up of an item before it is done.
use Rattle.std.proofs.Common.{◌≡◌, ℕ, ◌+◌, ◌*◌, ◌/◌, ◌%◌, ◌<◌, ◌≤◌, Bool, false, List, length, get_or, set, replicate, Some, is_some, inl, inr, sym, ap, ◌∙◌, subst, arith, length-set, get_or-set_same, get_or-set_other}
use Rattle.std.specs.Prelude.{cond, nat_lt}
use Rattle.std.proofs.lemmas.Bool.{cases_eq, cases_lt, cond-true, cond-false, lt-ltb, le-ltb}
use Rattle.std.proofs.lemmas.List.{length-replicate}
use Rattle.slub_common.proofs.Writes.{get_or-replicate_any}
use Rattle.slub_object_layout.specs.declared.layout.Setting.TheVariants.{MinPartial, CpuPartial}
use Rattle.slub_cache_create.specs.Table.{number_of}
use Rattle.slub_cache_create.proofs.Oldest.{named_alive}
use Rattle.slub_lists.specs.declared.lists.CpuLists.{CpuLists}
use Rattle.slub_lists.specs.State.{State}
use Rattle.slub_lists.specs.Alloc.{lists_of, no_lists}
use Rattle.slub_lists.specs.Coherent.{IsCoherent}
use Rattle.slub_lists.proofs.Coherence.{live-inside}
use Rattle.slub_law_opening.specs.Opening.{cpu_at}
use Rattle.slub_trace.specs.declared.trace.Item.{Item}
use Rattle.slub_trace.specs.declared.trace.Item.TheVariants as item
use Rattle.slub_trace.specs.declared.trace.Trace.{Trace}
use Rattle.slub_slabinfo_text.specs.Lawful.{name_at}
use Rattle.slub_open_close.specs.Due.{AreCurrent, detached_by}

-- ---- the cache

named-within : (s : State) (name : List ℕ) (cache : ℕ) → IsCoherent s → number_of s.table name ≡ Some cache → cache < 32
named-within s name cache coherent named =
    omega (arith, live-inside s.table.caches cache (named_alive s.table name cache coherent.shaped.table named), coherent.shaped.table.numbers)

-- it is one of 32
pub detached-within : (trace : Trace) (s : State) (it : Item) (cache : ℕ) → IsCoherent s → detached_by trace s it ≡ Some cache → cache < 32
detached-within trace s (item.Shrink place) cache coherent is = named-within s (name_at trace place) cache coherent is
detached-within trace s (item.Tune place (CpuPartial objects)) cache coherent is = named-within s (name_at trace place) cache coherent is
detached-within trace s (item.Tune place (MinPartial slabs)) cache coherent is = let never : ⊥ = cc in absurd never
detached-within trace s _ cache coherent is = let never : ⊥ = cc in absurd never

-- ---- the CPUs

-- the first CPUs were looked up, and of the others nothing is noted
pub record AreFound (s : State) (cache : ℕ) (current : List Bool) (n : ℕ) : Type 0 where
  pub found : (k : ℕ) → k < n → get_or current k false ≡ is_some (lists_of s cache k).current
  pub rest : (k : ℕ) → n ≤ k → get_or current k false ≡ false
  pub long : length current ≡ 16

pub found-none : (s : State) (cache : ℕ) → AreFound s cache (replicate 16 false) 0
found-none s cache = record { found = λ k below. absurd (omega arith); rest = λ k from. get_or-replicate_any 16 k false; long = length-replicate 16 false }

pub found-more : (s : State) (cache : ℕ) (current : List Bool) (n : ℕ) (v : Bool) → n < 16 → v ≡ is_some (lists_of s cache n).current → AreFound s cache current n → AreFound s cache (set current n v) (n + 1)
found-more s cache current n v few is so = record {
  found = λ k below. elim (cases_eq k n) [
    | inl e ↦ subst (λ j. get_or (set current n v) j false ≡ is_some (lists_of s cache j).current) (sym e) (get_or-set_same current n v false (omega (arith, few, so.long)) ∙ is)
    | inr ne ↦ get_or-set_other current n k v false ne ∙ so.found k (omega arith)
  ];
  rest = λ k from. get_or-set_other current n k v false (λ e. omega arith) ∙ so.rest k (omega arith);
  long = length-set current n v ∙ so.long;
}

pub found-all : (s : State) (cache : ℕ) (current : List Bool) (n : ℕ) → n ≡ s.cpus → AreFound s cache current n → AreCurrent s cache current
found-all s cache current n end so cpu below =
    let d : (16 * cache + cpu) / 16 ≡ cache = omega arith in
    let m : (16 * cache + cpu) % 16 ≡ cpu = omega arith in
    let at : cpu_at s (16 * cache + cpu) ≡ cond (nat_lt cpu s.cpus) (lists_of s cache cpu) no_lists =
    ap (λ z. cond (nat_lt z s.cpus) (lists_of s ((16 * cache + cpu) / 16) z) no_lists) m ∙ ap (λ z. cond (nat_lt cpu s.cpus) (lists_of s z cpu) no_lists) d in
    elim (cases_lt cpu s.cpus) [
      | inl l ↦ so.found cpu (omega (arith, l, end)) ∙ sym (ap (λ (x : CpuLists). is_some x.current) (at ∙ cond-true (nat_lt cpu s.cpus) (lists_of s cache cpu) no_lists (lt-ltb cpu s.cpus l)))
      | inr g ↦ so.rest cpu (omega (arith, g, end)) ∙ sym (ap (λ (x : CpuLists). is_some x.current) (at ∙ cond-false (nat_lt cpu s.cpus) (lists_of s cache cpu) no_lists (le-ltb cpu s.cpus g)))
    ]
