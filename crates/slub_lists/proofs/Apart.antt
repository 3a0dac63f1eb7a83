-- Objects on the board share no byte.
use Rattle.std.proofs.Common.{◌≡◌, ℕ, ◌+◌, ◌-◌, ◌*◌, ◌/◌, ◌^◌, ◌<◌, ◌≤◌, get_or, get_or-set_other, set, Option, Some, None, inl, inr, refl, ap, sym, ◌∙◌, subst, arith, length-set, zero-add}
use Rattle.std.proofs.lemmas.Bool.{cases_eq}
use Rattle.std.proofs.lemmas.Bool.Decides.{nat_tests}
use Rattle.std.proofs.lemmas.List.Sums.{sum_by-set}
use Rattle.std.proofs.lemmas.Nat.{row_fits, same_from_place}
use Rattle.slub_object_layout.specs.declared.layout.Layout.{Layout}
use Rattle.slub_object_layout.specs.Layout.{IsInSlot}
use Rattle.slub_lists.specs.declared.lists.Slab.{Slab}
use Rattle.slub_lists.specs.declared.lists.Held.{Held}
use Rattle.slub_lists.specs.State.{State}
use Rattle.slub_lists.specs.Alloc.{held_here, slab_of, HasLayout}
use Rattle.slub_lists.specs.Coherent.{IsCoherent, IsConsistent, covers, held_under}
use Rattle.slub_lists.specs.Laws.{HasByte}
use Rattle.slub_lists.proofs.Framed.{covered-set, framed-most}
use Rattle.slub_lists.proofs.Kept.{consistent-of}
use Rattle.slub_common.proofs.Sums.{element-counted}
use Rattle.slub_lists.proofs.CheckedSlabs.{on-board}
use Rattle.slub_common.proofs.Writes.{inside-of}
use Rattle.slub_lists.proofs.CheckedGiving.{layout-live, one-object, slab-sized}
use Rattle.slub_lists.proofs.CheckedTaking.{held-slab, same-layout}
use Rattle.slub_lists.proofs.ObjectWords.{slots-fit}

-- two slabs that have a frame are one
pub one-slab : (s : State) (f a b : ℕ) (x y : Slab) → slab_of s a ≡ Some x → slab_of s b ≡ Some y → covers f a (Some x) ≡ 1 → covers f b (Some y) ≡ 1 → IsConsistent s → a ≡ b
one-slab s f a b x y is_x is_y has_x has_y consistent =
    elim (cases_eq a b) [
      | inl same ↦ same
      | inr other ↦
          let in_a = inside-of s.slabs a x is_x in
          let in_b = inside-of s.slabs b y is_y in
          let nothing_a : covers f (0 + a) None ≡ 0 = refl in
          let nothing_b : covers f (0 + b) None ≡ 0 = refl in
          let without = covered-set f 0 s.slabs a None in_a in
          let at : get_or (set s.slabs a None) b None ≡ Some y = get_or-set_other s.slabs a b None None (λ e. other (sym e)) ∙ is_y in
          let both = covered-set f 0 (set s.slabs a None) b None (omega (arith, length-set s.slabs a None, in_b)) in
          let here_x : covers f (0 + a) (slab_of s a) ≡ 1 = ap (covers f (0 + a)) is_x ∙ ap (λ n. covers f n (Some x)) (zero-add a) ∙ has_x in
          let here_y : covers f (0 + b) (get_or (set s.slabs a None) b None) ≡ 1 = ap (covers f (0 + b)) at ∙ ap (λ n. covers f n (Some y)) (zero-add b) ∙ has_y in
          absurd (omega (arith, without, both, nothing_a, nothing_b, here_x, here_y, framed-most s f consistent.framed))
    ]

-- one object is named by one number
pub one-number : (s : State) (one other : ℕ) (a b : Held) → held_under s one ≡ Some a → held_under s other ≡ Some b → a.frame ≡ b.frame → a.index ≡ b.index → IsConsistent s → one ≡ other
one-number s one other a b is_a is_b same_frame same_index consistent =
    elim (cases_eq one other) [
      | inl same ↦ same
      | inr apart ↦
          let here : Option Held → ℕ = held_here a.frame a.index in
          let nothing : held_here a.frame a.index None ≡ 0 = refl in
          let without = sum_by-set (held_here a.frame a.index) s.board one None None (on-board s one a is_a) in
          let at : get_or (set s.board one None) other None ≡ Some b = get_or-set_other s.board one other None None (λ e. apart (sym e)) ∙ is_b in
          let still = element-counted (held_here a.frame a.index) (set s.board one None) other None refl in
          let here_a : held_here a.frame a.index (Some a) ≡ 1 = grind (arith, nat_tests) in
          let here_b : held_here a.frame a.index (Some b) ≡ 1 = grind (arith, nat_tests, same_frame, same_index) in
          absurd (omega (arith, without, nothing, still, ap (held_here a.frame a.index) at, ap (held_here a.frame a.index) is_a, here_a, here_b, consistent.placed a.frame a.index, one-object a.index (slab_of s a.frame)))
    ]

-- the frame of a byte of a slot is one of the slab's
frame-covered : (s : State) (object byte : ℕ) (has : HasByte s object byte) (consistent : IsConsistent s)
    → covers (byte / 4096) has.held.frame (Some (held-slab s object has.held has.names.here consistent).0) ≡ 1
frame-covered s object byte has consistent =
    let held = has.held in
    let slab = held-slab s object held has.names.here consistent in
    let live = layout-live s held.cache has.layout has.names.live consistent.shaped in
    let sized = slab-sized s held.cache held.frame has.layout slab.0 has.names.live slab.1 slab.2 consistent.shaped in
    let row : held.index * has.layout.size + has.layout.size ≤ slab.0.objects * has.layout.size = row_fits held.index has.layout.size slab.0.objects has.layout.size slab.3 (omega arith) in
    let fit = slots-fit has.layout slab.0 live sized in
    let low : held.frame ≤ byte / 4096 = omega (arith, has.inside.from) in
    let high : byte / 4096 < held.frame + 2 ^ slab.0.order = omega (arith, has.inside.below, row, fit) in
    grind (arith, nat_tests, low, high)

-- a byte lies in one slot of a slab
one-index : (frame i j : ℕ) (layout : Layout) (byte : ℕ) → IsInSlot frame i layout byte → IsInSlot frame j layout byte → i ≡ j
one-index frame i j layout byte at_i at_j =
    let x : ℕ = byte - frame * 4096 - i * layout.size in
    let y : ℕ = byte - frame * 4096 - j * layout.size in
    (same_from_place i x j y layout.size (omega (arith, at_i.from, at_i.below)) (omega (arith, at_j.from, at_j.below)) (omega (arith, at_i.from, at_i.below, at_j.from, at_j.below))).0

pub held-apart : (s : State) (one other byte : ℕ) → IsCoherent s → HasByte s one byte → HasByte s other byte → one ≡ other
held-apart s one other byte coherent has also =
    let consistent = consistent-of s coherent in
    let x = held-slab s one has.held has.names.here consistent in
    let y = held-slab s other also.held also.names.here consistent in
    let frame = one-slab s (byte / 4096) has.held.frame also.held.frame x.0 y.0 x.1 y.1 (frame-covered s one byte has consistent) (frame-covered s other byte also consistent) consistent in
    let slab : x.0 ≡ y.0 = injected (sym x.1 ∙ ap (slab_of s) frame ∙ y.1) in
    let cache : has.held.cache ≡ also.held.cache = sym x.2 ∙ ap (λ (z : Slab). z.cache) slab ∙ y.2 in
    let layout = same-layout s also.held.cache has.layout also.layout (subst (λ n. HasLayout s n has.layout) cache has.names.live) also.names.live in
    let at = subst (λ n. IsInSlot n has.held.index has.layout byte) frame has.inside in
    let index = one-index also.held.frame has.held.index also.held.index also.layout byte (subst (λ l. IsInSlot also.held.frame has.held.index l byte) layout at) also.inside in
    one-number s one other has.held also.held has.names.here also.names.here frame index consistent
  where
    injected : {x y : Slab} → Some x ≡ Some y → x ≡ y
    injected e = cc
