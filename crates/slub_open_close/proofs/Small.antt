-- What is packed into words fits its bits, and which slabs are on a node's list.
use Rattle.std.proofs.Common.{◌≡◌, ℕ, ◌-◌, ◌^◌, ◌<◌, ◌≤◌, Bool, false, List, [], ◌∷◌, length, get_or, Option, Some, None, inl, inr, refl, ap, sym, ◌∙◌, arith, sum_by}
use Rattle.std.specs.Prelude.{nat_lt, IfSome, All, is_some}
use Rattle.std.proofs.lemmas.Bool.{cases_lt, cond-false, lt-ltb, le-ltb}
use Rattle.std.proofs.lemmas.List.Elements.{All-from_get_or, All-contains_itself}
use Rattle.slub_common.specs.Times.{times}
use Rattle.slub_common.proofs.Sums.{element-counted}
use Rattle.slub_common.proofs.Times.{times-contained}
use Rattle.slub_words.specs.Words.{slab_bits}
use Rattle.slub_lists.specs.declared.lists.Slab.{Slab}
use Rattle.slub_lists.specs.declared.lists.Held.{Held}
use Rattle.slub_lists.specs.State.{State}
use Rattle.slub_lists.specs.Alloc.{slab_of, own_free, checked_of, node_of}
use Rattle.slub_lists.specs.Coherent.{IsConsistent, held_under}
use Rattle.slub_lists.proofs.CheckedSlabs.{at_some}
use Rattle.slub_lists.proofs.CheckedTaking.{held-slab}
use Rattle.slub_lists.proofs.Places.{objects-few, own-object, listed-is, slab-inside}
use Rattle.slub_core.specs.Words.{no_slab_word}
use Rattle.slub_law_opening.specs.Opening.{cpu_at, head_of, plain_word, slab_word}
use Rattle.slub_open_close.specs.Classes.{slab_number}
use Rattle.slub_law_opening.proofs.Lay.{first-there}
use Rattle.slub_law_opening.proofs.Cpus.{partial-one}
use Rattle.slub_law_opening.proofs.Rows.{cpu-pointer}
use Rattle.slub_law_opening.proofs.Sums.{sum_by-below, positive-term}

-- a fact of each that stands there
pub all-of : (P : ℕ → Type 0) (xs : List ℕ) → ((x : ℕ) → 1 ≤ times x xs → P x) → All P xs
all-of P xs h = All-from_get_or P xs 0 (λ i below. h (get_or xs i 0) (let t = times-contained (get_or xs i 0) xs (All-contains_itself xs i 0 below) in omega arith))

pub none-is : {X : Type 0} (o : Option X) → is_some o ≡ false → o ≡ None
none-is None e = refl
none-is (Some x) e = absurd (cc e)

-- ---- indexes

pub own-small : (s : State) (f x : ℕ) → IsConsistent s → 1 ≤ times x (own_free s f) → x < 512
own-small s f x consistent some =
    let o = own-object s f x consistent some in
    omega (arith, o.2, objects-few s f o.0 consistent o.1)

pub cpu-small : (s : State) (n x : ℕ) → IsConsistent s → 1 ≤ times x (cpu_at s n).free → x < 512
cpu-small s n x consistent some =
    let p = cpu-pointer s n x consistent some in
    omega (arith, p.at.inside, objects-few s p.frame p.at.slab consistent p.at.is)

head-small : (xs : List ℕ) → ((x : ℕ) → 1 ≤ times x xs → x < 512) → head_of xs < 2 ^ 16
head-small [] h = omega arith
head-small (x ∷ xs) h = omega (arith, h x (first-there x xs))

pub own-head : (s : State) (f : ℕ) → IsConsistent s → head_of (own_free s f) < 2 ^ 16
own-head s f consistent = head-small (own_free s f) (λ x some. own-small s f x consistent some)

pub cpu-head : (s : State) (n : ℕ) → IsConsistent s → head_of (cpu_at s n).free < 2 ^ 16
cpu-head s n consistent = head-small (cpu_at s n).free (λ x some. cpu-small s n x consistent some)

pub held-small : (s : State) (object : ℕ) → IsConsistent s → IfSome (held_under s object) (λ held. held.index < 65535)
held-small s object consistent = go (held_under s object) refl
  where
    go : (h : Option Held) → held_under s object ≡ h → IfSome h (λ held. held.index < 65535)
    go None e = tt
    go (Some held) e =
        let x = held-slab s object held e consistent in
        omega (arith, x.3, objects-few s held.frame x.0 consistent x.1)

-- a slab on a CPU's partial list is one of the machine's
pub string-inside : (s : State) (n f : ℕ) → IsConsistent s → 1 ≤ times f (cpu_at s n).partial → f < s.frames
string-inside s n f consistent some =
    let x = listed-is s f consistent (omega (arith, partial-one s n f)) in
    (slab-inside s f x.0 consistent x.1).1

-- ---- node lists

-- a slab is on some node's list exactly where it is on the one of its cache
pub on-node : (s : State) (f : ℕ) (x : Slab) → IsConsistent s → slab_of s f ≡ Some x → nat_lt 0 (sum_by (times f) s.nodes) ≡ nat_lt 0 (times f (node_of s x.cache))
on-node s f x consistent is =
    let counted : times f (node_of s x.cache) ≤ sum_by (times f) s.nodes = element-counted (times f) s.nodes x.cache [] refl in
    elim (cases_lt 0 (times f (node_of s x.cache))) [
      | inl there ↦ lt-ltb 0 (sum_by (times f) s.nodes) (omega arith) ∙ sym (lt-ltb 0 (times f (node_of s x.cache)) there)
      | inr none ↦ le-ltb 0 (sum_by (times f) s.nodes) (nowhere none) ∙ sym (le-ltb 0 (times f (node_of s x.cache)) none)
    ]
  where
    nowhere : times f (node_of s x.cache) ≤ 0 → sum_by (times f) s.nodes ≤ 0
    nowhere none = elim (cases_lt 0 (sum_by (times f) s.nodes)) [
      | inl some ↦
          let e = sum_by-below (times f) [] s.nodes (length s.nodes) refl (omega arith) in
          let p = positive-term (length s.nodes) (λ k. times f (node_of s k)) (omega (arith, e, some)) in
          let here : x.cache ≡ p.0 = at_some (slab_of s f) x (λ slab. slab.cache ≡ p.0) is (consistent.listed.of_node p.0 f p.2) in
          let same : times f (node_of s x.cache) ≡ times f (node_of s p.0) = ap (λ k. times f (node_of s k)) here in
          absurd (omega (arith, same, none, p.2))
      | inr le ↦ le
    ]

-- ---- slabs

-- the word of an unchecked slab
pub plain-number : (s : State) (f : ℕ) (x : Slab) (free : List ℕ) (listed : Bool) → IsConsistent s → slab_of s f ≡ Some x → checked_of s x.cache ≡ None → free ≡ own_free s f → listed ≡ nat_lt 0 (sum_by (times f) s.nodes)
    → slab_bits (record { head = head_of free; inuse = x.objects - length free; objects = x.objects; frozen = x.frozen; listed = listed; cache = x.cache }) ≡ slab_number s f
plain-number s f x free listed consistent is unchecked free_is listed_is =
    let marked : listed ≡ nat_lt 0 (times f (node_of s x.cache)) = listed_is ∙ on-node s f x consistent is in
    (λ i. slab_bits (record { head = head_of (free_is i); inuse = x.objects - length (free_is i); objects = x.objects; frozen = x.frozen; listed = marked i; cache = x.cache }))
    ∙ sym (ap slab_bits (ap (slab_word s f) is ∙ cond-false (is_some (checked_of s x.cache)) no_slab_word (plain_word s f x) (ap is_some unchecked)))
