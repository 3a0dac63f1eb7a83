-- The freelists and partial lists of a consistent machine stand in the words that they are laid into.
use Rattle.std.proofs.Common.{◌≡◌, ℕ, ◌+◌, ◌*◌, ◌/◌, ◌<◌, ◌≤◌, List, [], ◌∷◌, get_or, Option, Some, None, inl, inr, refl, ap, sym, ◌∙◌, subst, arith}
use Rattle.std.proofs.lemmas.Bool.{cases_lt}
use Rattle.slub_common.specs.Times.{times}
use Rattle.slub_words.specs.Words.{steps_from_one}
use Rattle.slub_words.proofs.Pointers.{come_back}
use Rattle.slub_lists.specs.declared.lists.Slab.{Slab}
use Rattle.slub_lists.specs.State.{State}
use Rattle.slub_lists.specs.Alloc.{slab_of, own_free}
use Rattle.slub_lists.specs.Coherent.{IsConsistent}
use Rattle.slub_lists.specs.Places.{layout_at, pointer_at}
use Rattle.slub_lists.proofs.CheckedGiving.{one-object}
use Rattle.slub_lists.proofs.Places.{pointers-apart, slab-inside, own-object, own-once, own-none}
use Rattle.slub_core.specs.Setup.{hardened}
use Rattle.slub_core.specs.World.{IsChain, Links, pointer}
use Rattle.slub_law_opening.specs.Opening.{Beside, Row, lay_each, head_of, front_of, freelist_row, string_row, cpu_at, frame_of, cache_in, own_row, cpu_row, link_of, opened_words}
use Rattle.slub_law_opening.proofs.Lay.{IsLaid, AreApart, IsDistinct, each-kept, each-laid}
use Rattle.slub_law_opening.proofs.Cpus.{cpu-object, cpu-alone, cpu-bare, cpu-below, current-at, currents-apart, partial-two, partial-one}

-- where an item of a row stands
pub record IsPointer (s : State) (r : Row) (f x : ℕ) : Type 0 where
  pub slab : Slab
  pub is : slab_of s f ≡ Some slab
  pub inside : x < slab.objects
  pub place : r.place x ≡ pointer_at (layout_at s slab.cache) f x

pub own-pointer : (s : State) (f x : ℕ) → IsConsistent s → 1 ≤ times x (own_row s f).items → IsPointer s (own_row s f) f x
own-pointer s f x consistent some =
    let o = own-object s f x consistent some in
    record { slab = o.0; is = o.1; inside = o.2; place = ap (λ y. pointer_at (layout_at s (cache_in y)) f x) o.1 }

pub record IsCpuPointer (s : State) (n x : ℕ) : Type 0 where
  pub frame : ℕ
  pub current : (cpu_at s n).current ≡ Some frame
  pub at : IsPointer s (cpu_row s n) frame x

pub cpu-pointer : (s : State) (n x : ℕ) → IsConsistent s → 1 ≤ times x (cpu_row s n).items → IsCpuPointer s n x
cpu-pointer s n x consistent some = go (cpu_at s n).current refl
  where
    go : (o : Option ℕ) → (cpu_at s n).current ≡ o → IsCpuPointer s n x
    go None e = absurd (let t : times x (cpu_at s n).free ≡ 0 = ap (times x) (cpu-bare s n consistent e) in omega (arith, t, some))
    go (Some f) e =
        let c = current-at s n f consistent e in
        record {
          frame = f;
          current = e;
          at = record { slab = c.slab; is = c.there; inside = cpu-object s n f x consistent e some; place = ap (λ o. pointer_at (layout_at s (n / 16)) (frame_of o) x) e ∙ ap (λ k. pointer_at (layout_at s k) f x) (sym c.own) };
        }

meet : (s : State) (r q : Row) (f x g y : ℕ) → IsConsistent s → IsPointer s r f x → IsPointer s q g y → r.place x ≡ q.place y → (f ≡ g) × (x ≡ y)
meet s r q f x g y consistent a b same = pointers-apart s f x g y a.slab b.slab consistent a.is b.is a.inside b.inside (sym a.place ∙ (same ∙ b.place))

own-distinct : (s : State) (f : ℕ) → IsConsistent s → IsDistinct (own_row s f)
own-distinct s f consistent = record {
  once = λ x. omega (arith, own-once s f x consistent, one-object x (slab_of s f));
  places = λ x y lx ly same. (meet s (own_row s f) (own_row s f) f x f y consistent (own-pointer s f x consistent lx) (own-pointer s f y consistent ly) same).1;
}

owns-apart : (s : State) (f g : ℕ) → IsConsistent s → (f ≡ g → ⊥) → AreApart (own_row s f) (own_row s g)
owns-apart s f g consistent d x y lx ly same = d (meet s (own_row s f) (own_row s g) f x g y consistent (own-pointer s f x consistent lx) (own-pointer s g y consistent ly) same).0

cpu-distinct : (s : State) (n : ℕ) → IsConsistent s → IsDistinct (cpu_row s n)
cpu-distinct s n consistent = record {
  once = λ x. elim (cases_lt (times x (cpu_at s n).free) 1) [
    | inl l ↦ omega arith
    | inr le ↦ let p = cpu-pointer s n x consistent le in omega (arith, cpu-alone s n p.frame x consistent p.current, one-object x (slab_of s p.frame))
  ];
  places = λ x y lx ly same.
      let a = cpu-pointer s n x consistent lx in
      let b = cpu-pointer s n y consistent ly in
      (meet s (cpu_row s n) (cpu_row s n) a.frame x b.frame y consistent a.at b.at same).1;
}

cpus-apart : (s : State) (n m : ℕ) → IsConsistent s → (n ≡ m → ⊥) → AreApart (cpu_row s n) (cpu_row s m)
cpus-apart s n m consistent d x y lx ly same =
    let a = cpu-pointer s n x consistent lx in
    let b = cpu-pointer s m y consistent ly in
    let e = meet s (cpu_row s n) (cpu_row s m) a.frame x b.frame y consistent a.at b.at same in
    currents-apart s n m b.frame consistent (a.current ∙ ap Some e.0) b.current d

own-cpu-apart : (s : State) (f n : ℕ) → IsConsistent s → AreApart (own_row s f) (cpu_row s n)
own-cpu-apart s f n consistent x y lx ly same =
    let b = cpu-pointer s n y consistent ly in
    let e = meet s (own_row s f) (cpu_row s n) f x b.frame y consistent (own-pointer s f x consistent lx) b.at same in
    let here : times x (own_free s f) ≡ times y (own_free s b.frame) = ap (λ g. times x (own_free s g)) e.0 ∙ ap (λ z. times z (own_free s b.frame)) e.1 in
    omega (arith, cpu-alone s n b.frame y consistent b.current, one-object y (slab_of s b.frame), here, lx, ly)

-- ---- free pointers

pub comes-back : (k p x : ℕ) → hardened k p (hardened k p x) ≡ x
comes-back k p x = come_back x (steps_from_one (k + 1)) (8 * p)

chain-laid : (s : State) (k f : ℕ) (xs : List ℕ) (m : ℕ → ℕ) → IsLaid (freelist_row s k f xs) m → IsChain (λ i. hardened k (pointer_at (layout_at s k) f i) (m (pointer_at (layout_at s k) f i))) (head_of xs) xs
chain-laid s k f [] m laid = refl
chain-laid s k f (x ∷ xs) m laid =
    let p = pointer_at (layout_at s k) f x in
    let next : ℕ → ℕ = λ i. hardened k (pointer_at (layout_at s k) f i) (m (pointer_at (layout_at s k) f i)) in
    let here : next x ≡ head_of xs = ap (hardened k p) laid.0 ∙ comes-back k p (head_of xs) in
    (refl, subst (λ h. IsChain next h xs) (sym here) (chain-laid s k f xs m laid.1))

-- the slabs' own freelists and the CPUs' freelists stand in memory
pub own-chain : (s : State) (b : Beside) (f : ℕ) → IsConsistent s → IsChain (pointer (opened_words s b) (cache_in (slab_of s f)) f) (head_of (own_free s f)) (own_free s f)
own-chain s b f consistent = go (slab_of s f) refl
  where
    go : (y : Option Slab) → slab_of s f ≡ y → IsChain (pointer (opened_words s b) (cache_in (slab_of s f)) f) (head_of (own_free s f)) (own_free s f)
    go None e = subst (λ xs. IsChain (pointer (opened_words s b) (cache_in (slab_of s f)) f) (head_of xs) xs) (sym (own-none s f consistent e)) refl
    go (Some y) e =
        chain-laid s (cache_in (slab_of s f)) f (own_free s f) (opened_words s b).memory
        (each-kept (own_row s f) (cpu_row s) 512 (lay_each (own_row s) s.frames (λ p. get_or s.memory p 0)) (λ k below. own-cpu-apart s f k consistent)
        (each-laid (own_row s) s.frames (λ p. get_or s.memory p 0) (λ k below. own-distinct s k consistent) (λ j k lj lk d. owns-apart s j k consistent d) f (slab-inside s f y consistent e).1))

pub cpu-chain : (s : State) (b : Beside) (n : ℕ) → IsConsistent s → IsChain (pointer (opened_words s b) (n / 16) (frame_of (cpu_at s n).current)) (head_of (cpu_at s n).free) (cpu_at s n).free
cpu-chain s b n consistent = go (cpu_at s n).current refl
  where
    go : (y : Option ℕ) → (cpu_at s n).current ≡ y → IsChain (pointer (opened_words s b) (n / 16) (frame_of (cpu_at s n).current)) (head_of (cpu_at s n).free) (cpu_at s n).free
    go None e = subst (λ xs. IsChain (pointer (opened_words s b) (n / 16) (frame_of (cpu_at s n).current)) (head_of xs) xs) (sym (cpu-bare s n consistent e)) refl
    go (Some f) e =
        chain-laid s (n / 16) (frame_of (cpu_at s n).current) (cpu_at s n).free (opened_words s b).memory
        (each-laid (cpu_row s) 512 (lay_each (own_row s) s.frames (λ p. get_or s.memory p 0)) (λ k below. cpu-distinct s k consistent) (λ j k lj lk d. cpus-apart s j k consistent d) n (cpu-below s n f consistent e))

-- ---- strings

string-laid : (fs : List ℕ) (m : ℕ → ℕ) → IsLaid (string_row fs) m → Links m (front_of fs) fs 0
string-laid [] m laid = refl
string-laid (f ∷ fs) m laid = (refl, subst (λ h. Links m h fs 0) (sym laid.0) (string-laid fs m laid.1))

pub strings-stand : (s : State) (b : Beside) (n : ℕ) → IsConsistent s → n < 512 → Links (opened_words s b).link (front_of (cpu_at s n).partial) (cpu_at s n).partial 0
strings-stand s b n consistent l =
    string-laid (cpu_at s n).partial (opened_words s b).link
    (each-laid (λ n. string_row (cpu_at s n).partial) 512 (link_of b) (λ k below. record { once = λ x. omega (arith, partial-one s k x, consistent.listed.once x); places = λ x y lx ly same. same })
    (λ j k lj lk d x y lx ly same. apart j k x y lj lk d lx ly same) n l)
  where
    apart : (j k x y : ℕ) → j < 512 → k < 512 → (j ≡ k → ⊥) → 1 ≤ times x (cpu_at s j).partial → 1 ≤ times y (cpu_at s k).partial → x ≡ y → ⊥
    apart j k x y lj lk d lx ly same =
        let here : times x (cpu_at s k).partial ≡ times y (cpu_at s k).partial = ap (λ z. times z (cpu_at s k).partial) same in
        omega (arith, partial-two s j k x consistent d lj lk, consistent.listed.once x, here)
