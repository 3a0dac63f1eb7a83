-- What a scan of a node list leaves, as the definitions have it.
use Rattle.std.proofs.Common.{◌≡◌, ℕ, zero, suc, ◌+◌, ◌<◌, ◌++◌, not, true, false, List, [], ◌∷◌, length, get_or, take, drop, filter, refl, ap, arith, subst, sym, ◌∙◌, eqb, Contains}
use Rattle.std.specs.Prelude.{nat_lt}
use Rattle.std.proofs.lemmas.Bool.{ne_eqb}
use Rattle.std.proofs.lemmas.Bool.Decides.{nat_tests}
use Rattle.std.proofs.lemmas.List.Elements.{Contains-get_or}
use Rattle.slub_common.specs.Times.{times}
use Rattle.slub_common.proofs.Times.{times-cons_same, times-cons_other, times-contained}
use Rattle.slub_red_zone.proofs.Comings.{filter-none}
use Rattle.slub_node_partial.specs.Promotion.{IsPromoted}
use Rattle.slub_node_partial.proofs.Promotions.{unique}
use Rattle.slub_core.specs.declared.spot.Spot.TheVariants.{InDiscard, InTrim}
use Rattle.slub_core.specs.declared.spot.DiscardSpot.TheVariants.{Unmake}
use Rattle.slub_core.specs.declared.spot.Discard.TheVariants.{FromTrim}
use Rattle.slub_core.specs.declared.spot.TrimSpot.TheVariants.{GiveTrim, DropScanned}
use Rattle.slub_core.specs.Setup.{Setup, node_lock}
use Rattle.slub_core.specs.World.{LockValue, Node, update, frames_in}
use Rattle.slub_core.specs.Local.{Local, at, with_hand, bare_hand, stays}
use Rattle.slub_core.specs.Alloc.{node_of, with_node}
use Rattle.slub_core.specs.Free.{without}
use Rattle.slub_core.specs.Offline.{scan_node, scanned_slab, without_at, trim_at_once}

-- a list without the one that stands at a place, and nowhere else
pub without-at : (frames : List ℕ) (n x : ℕ) → n < length frames → get_or frames n 0 ≡ x → times x frames ≡ 1 → filter (λ other. not (eqb other x)) frames ≡ take n frames ++ drop (n + 1) frames
without-at [] n x short is once = absurd (omega (arith, short))
without-at (y ∷ ys) zero x short is once =
    let one = times-cons_same x y ys is in
    let none : times x ys ≡ 0 = omega (arith, one, once) in
    let fails : not (eqb y x) ≡ false = grind (arith, nat_tests, is) in
    rw (fails, filter-none x ys none) refl
without-at (y ∷ ys) (suc n) x short is once =
    let there : 0 < times x ys = times-contained x ys (subst (λ (v : ℕ). Contains ys v) is (Contains-get_or ys n 0 (omega arith))) in
    let other : y ≡ x → ⊥ = λ same. let one = times-cons_same x y ys same in omega (arith, one, once, there) in
    let later : times x ys ≡ 1 = sym (times-cons_other x y ys other) ∙ once in
    let passes : not (eqb y x) ≡ true = rw (ne_eqb y x other) refl in
    let next : suc n + 1 ≡ suc (n + 1) = omega arith in
    rw (passes, next) (ap (λ (zs : List ℕ). y ∷ zs) (without-at ys n x (omega arith) is later))

-- once each slab was loaded, the list is in the one order that promotion leaves
pub scanned-all : (m : Setup) (value after : ℕ → LockValue) (l to : Local) (cache : ℕ) (counts : List ℕ) → cache ≡ l.cache → counts ≡ l.scanned → length l.scanned ≡ length (node_of value l)
    → after ≡ update value (node_lock cache) (Node (frames_in (after (node_lock cache)))) → IsPromoted (frames_in (value (node_lock cache))) counts (frames_in (after (node_lock cache)))
    → to ≡ at l (InTrim GiveTrim) → stays after to ≡ scan_node m value l (node_of value l)
scanned-all m value after l to cache counts own noted as_many is promoted ends =
    let is' : after ≡ with_node value l (frames_in (after (node_lock l.cache))) = subst (λ (k : ℕ). after ≡ update value (node_lock k) (Node (frames_in (after (node_lock k))))) own is in
    let counted : IsPromoted (frames_in (value (node_lock cache))) l.scanned (frames_in (after (node_lock cache))) = subst (λ (ns : List ℕ). IsPromoted (frames_in (value (node_lock cache))) ns (frames_in (after (node_lock cache)))) noted promoted in
    let promoted' : IsPromoted (node_of value l) l.scanned (frames_in (after (node_lock l.cache))) = subst (λ (k : ℕ). IsPromoted (frames_in (value (node_lock k))) l.scanned (frames_in (after (node_lock k)))) own counted in
    let same : frames_in (after (node_lock l.cache)) ≡ m.means.promote (node_of value l) l.scanned = unique (node_of value l) l.scanned _ _ promoted' (m.means.promotes (node_of value l) l.scanned as_many) in
    let done : nat_lt (length l.scanned) (length (node_of value l)) ≡ false = grind (arith, nat_tests, as_many) in
    rw done (ap (λ (g : ℕ → LockValue). stays g to) (is' ∙ ap (with_node value l) same) ∙ ap (stays (with_node value l (m.means.promote (node_of value l) l.scanned))) ends)

-- an empty slab is off the list and in hand
pub dropped : (m : Setup) (value after : ℕ → LockValue) (l to : Local) (cache frame : ℕ) → cache ≡ l.cache → frame ≡ scanned_slab value l → length l.scanned < length (node_of value l)
    → times (scanned_slab value l) (node_of value l) ≡ 1 → after ≡ update value (node_lock cache) (Node (without (frames_in (value (node_lock cache))) frame))
    → to ≡ at (with_hand l (bare_hand frame)) (InDiscard Unmake FromTrim) → stays after to ≡ trim_at_once m value l DropScanned
dropped m value after l to cache frame own at_place short once is ends =
    let is' : after ≡ with_node value l (without (node_of value l) frame) = subst (λ (k : ℕ). after ≡ update value (node_lock k) (Node (without (frames_in (value (node_lock k))) frame))) own is in
    let is'' : after ≡ with_node value l (without (node_of value l) (scanned_slab value l)) = subst (λ (f : ℕ). after ≡ with_node value l (without (node_of value l) f)) at_place is' in
    let left : without (node_of value l) (scanned_slab value l) ≡ without_at (node_of value l) (length l.scanned) = without-at (node_of value l) (length l.scanned) (scanned_slab value l) short refl once in
    let ends' : to ≡ at (with_hand l (bare_hand (scanned_slab value l))) (InDiscard Unmake FromTrim) = subst (λ (f : ℕ). to ≡ at (with_hand l (bare_hand f)) (InDiscard Unmake FromTrim)) at_place ends in
    ap (λ (g : ℕ → LockValue). stays g to) (is'' ∙ ap (with_node value l) left) ∙ ap (stays (with_node value l (without_at (node_of value l) (length l.scanned)))) ends'
