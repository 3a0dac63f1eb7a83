-- A CPU's partial list that takes one slab more as it is.
use Rattle.std.proofs.Common.{◌≡◌, ℕ, ◌<◌, ◌⊎◌, Bool, true, false, ◌&&◌, List, [], ◌∷◌, length, set, inl, inr, refl, ap, sym, ◌∙◌, arith}
use Rattle.std.specs.Prelude.{nat_lt, nat_le}
use Rattle.std.proofs.lemmas.Bool.{cases_Bool, cond-true, cond-false, leb-true}
use Rattle.std.proofs.lemmas.List.{get_or-set_same, set-set}
use Rattle.slub_object_layout.specs.declared.layout.Layout.{Layout}
use Rattle.slub_lists.specs.declared.lists.CpuLists.{CpuLists}
use Rattle.slub_lists.specs.State.{State}
use Rattle.slub_lists.specs.Alloc.{lists_of, no_lists, cpu_place}
use Rattle.slub_lists.specs.Free.{moved_all, put_partial, with_partial}

-- the worker doesn't take it
pub not_long : (most count : ℕ) → (count ≡ 0) ⊎ (count < most) → nat_lt 0 count && nat_le most count ≡ false
not_long most count room = elim room [
  | inl none ↦ ap (λ n. nat_lt 0 n && nat_le most count) none
  | inr less ↦ elim (cases_Bool (nat_le most count)) [
    | inl enough ↦ absurd (let le = leb-true most count enough in omega (arith, le, less))
    | inr no_more ↦ ap (λ h. nat_lt 0 count && h) no_more ∙ and_none (nat_lt 0 count)
  ]
]
  where
    and_none : (h : Bool) → h && false ≡ false
    and_none true = refl
    and_none false = refl

no_partial : (xs : List ℕ) → length xs ≡ 0 → xs ≡ []
no_partial [] e = refl
no_partial (x ∷ xs) e = absurd (omega arith)

-- a list with room takes the slab as it is
pub put_with_room : (t : State) (layout : Layout) (k cpu f : ℕ) → (length (lists_of t k cpu).partial ≡ 0) ⊎ (length (lists_of t k cpu).partial < layout.cpu_partial_slabs) → cpu_place t k cpu < length t.cpu_lists → put_partial t layout k cpu f ≡ with_partial t k cpu (f ∷ (lists_of t k cpu).partial)
put_with_room t layout k cpu f room inside = elim (cases_Bool (nat_le layout.cpu_partial_slabs (length partial))) [
  | inr less ↦ ap pushed (cond-false {A = State} (nat_le layout.cpu_partial_slabs (length partial)) (moved_all bare layout.min_partial k partial) t less)
  | inl full ↦ elim room [
    | inr less ↦ absurd (let le = leb-true layout.cpu_partial_slabs (length partial) full in omega (arith, le, less))
    | inl none ↦
        ap pushed (cond-true {A = State} (nat_le layout.cpu_partial_slabs (length partial)) (moved_all bare layout.min_partial k partial) t full)
        ∙ ap (λ fs. pushed (moved_all bare layout.min_partial k fs)) (no_partial partial none)
        ∙ ap by_lists (get_or-set_same t.cpu_lists (cpu_place t k cpu) emptied no_lists inside)
        ∙ ap by_all (set-set t.cpu_lists (cpu_place t k cpu) emptied (record lists { partial = f ∷ [] }))
        ∙ ap (λ fs. with_partial t k cpu (f ∷ fs)) (sym (no_partial partial none))
  ]
]
  where
    lists : CpuLists
    lists = lists_of t k cpu

    partial : List ℕ
    partial = (lists_of t k cpu).partial

    emptied : CpuLists
    emptied = record (lists_of t k cpu) { partial = [] }

    bare : State
    bare = with_partial t k cpu []

    pushed : State → State
    pushed rest = with_partial rest k cpu (f ∷ (lists_of rest k cpu).partial)

    by_lists : CpuLists → State
    by_lists x = record t { cpu_lists = set (set t.cpu_lists (cpu_place t k cpu) emptied) (cpu_place t k cpu) (record x { partial = f ∷ x.partial }) }

    by_all : List CpuLists → State
    by_all xs = record t { cpu_lists = xs }
