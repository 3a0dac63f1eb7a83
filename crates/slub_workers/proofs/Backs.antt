-- Workers that are back, in order.
use Rattle.std.proofs.Common.{◌≡◌, ◌≢◌, ℕ, zero, suc, ◌+◌, Bool, false, List, [], ◌∷◌, ◌++◌, length, All, refl, sym, ap, ◌∙◌, subst, arith}
use Rattle.std.specs.Prelude.{if◌then◌else◌, ◌==◌}
use Rattle.std.proofs.lemmas.Bool.{eq-eqb, ne_eqb}
use mathlib.Core.Option.{some, some-injective, some-ne-none}
use lib.ListN.{get_elem?}
use Rattle.slub_core.specs.Local.{Local}
use Rattle.slub_core.specs.declared.spot.Spot.TheVariants.{Between}
use Rattle.slub_workers.specs.Standing.{Standing, Fork, branch, branches_from, locals_of}
use Rattle.slub_workers.specs.Ranks.{IsBack, AreBack}
use Rattle.slub_workers.proofs.Branches.{alike_from}

pub back_length : (t : Bool) → (n : ℕ) (fs : List Fork) (ls : List Local) → AreBack t n fs ls → length fs ≡ length ls
back_length t n [] [] b = refl
back_length t n [] (l ∷ ls) b = absurd b
back_length t n (f ∷ fs) [] b = absurd b
back_length t n (f ∷ fs) (l ∷ ls) b = let e = back_length t (suc n) fs ls b.1 in omega arith

-- one more comes back
pub back-snoc : (t : Bool) → (n : ℕ) (fs : List Fork) (ls : List Local) (f : Fork) (l : Local) → AreBack t n fs ls → IsBack t (n + length ls) f l → AreBack t n (fs ++ f ∷ []) (ls ++ l ∷ [])
back-snoc t n [] [] f l b is = let e : n + zero ≡ n = omega arith in (subst (λ (k : ℕ). IsBack t k f l) e is, tt)
back-snoc t n [] (k ∷ ls) f l b is = absurd b
back-snoc t n (g ∷ fs) [] f l b is = absurd b
back-snoc t n (g ∷ fs) (k ∷ ls) f l b is =
    let e : n + suc (length ls) ≡ suc n + length ls = omega arith in
    (b.0, back-snoc t (suc n) fs ls f l b.1 (subst (λ (i : ℕ). IsBack t i f l) e is))

-- the one at a place
pub back_at : (t : Bool) → (n : ℕ) (fs : List Fork) (ls : List Local) (k : ℕ) (f : Fork) → AreBack t n fs ls → get_elem? fs k ≡ some f → (l : Local) × IsBack t (n + k) f l
back_at t n [] ls k f b at = absurd (some-ne-none f (sym at))
back_at t n (g ∷ fs) [] k f b at = absurd b
back_at t n (g ∷ fs) (l ∷ ls) zero f b at =
    let e : n ≡ n + zero = omega arith in
    let is : IsBack t n f l = subst (λ (h : Fork). IsBack t n h l) (some-injective g f at) b.0 in
    (l, subst (λ (i : ℕ). IsBack t i f l) e is)
back_at t n (g ∷ fs) (l ∷ ls) (suc k) f b at =
    let r = back_at t (suc n) fs ls k f b.1 at in
    let e : suc n + k ≡ n + suc k = omega arith in
    (r.0, subst (λ (i : ℕ). IsBack t i f r.0) e r.1)

pub back_between : (t : Bool) → (n : ℕ) (fs : List Fork) (ls : List Local) (k : ℕ) (l : Local) → AreBack t n fs ls → get_elem? ls k ≡ some l → l.spot ≡ Between
back_between t n fs [] k l b at = absurd (some-ne-none l (sym at))
back_between t n [] (h ∷ ls) k l b at = absurd b
back_between t n (f ∷ fs) (h ∷ ls) zero l b at = subst (λ (k : Local). k.spot ≡ Between) (some-injective h l at) b.0.between
back_between t n (f ∷ fs) (h ∷ ls) (suc k) l b at = back_between t (suc n) fs ls k l b.1 at

pub all_between : (t : Bool) → (n : ℕ) (fs : List Fork) (ls : List Local) → AreBack t n fs ls → All (λ (l : Local). l.spot ≡ Between) ls
all_between t n fs [] b k d low = absurd (omega arith)
all_between t n [] (l ∷ ls) b k d low = absurd b
all_between t n (f ∷ fs) (l ∷ ls) b zero d low = b.0.between
all_between t n (f ∷ fs) (l ∷ ls) b (suc k) d low = all_between t (suc n) fs ls b.1 k d (omega arith)

-- ---- to whom memory was refused

pub refused_in : (t : Bool) → (n : ℕ) (fs : List Fork) (ls : List Local) → AreBack t n fs ls → ℕ → Bool → ℕ → Bool
refused_in t n [] ls b from d k = d
refused_in t n (f ∷ fs) [] b from d k = d
refused_in t n (f ∷ fs) (l ∷ ls) b from d k = if k == from then b.0.refused else refused_in t (suc n) fs ls b.1 (suc from) d k

refused_here : (n : ℕ) (b x : Bool) → (if n == n then b else x) ≡ b
refused_here n b x = ap (λ (c : Bool). if c then b else x) (eq-eqb n n refl)

refused_else : (n k : ℕ) (b x : Bool) → k ≢ n → (if k == n then b else x) ≡ x
refused_else n k b x apart = ap (λ (c : Bool). if c then b else x) (ne_eqb k n apart)

-- each of them stands as it is back
pub refused_back : (t : Bool) → (n from : ℕ) (fs : List Fork) (ls : List Local) (b : AreBack t n fs ls) (d : Bool) → locals_of (branches_from from (refused_in t n fs ls b from d) fs) ≡ ls
unfolding refused_in
refused_back t n from [] [] b d = refl
refused_back t n from [] (l ∷ ls) b d = absurd b
refused_back t n from (f ∷ fs) [] b d = absurd b
refused_back t n from (f ∷ fs) (l ∷ ls) b d =
    let all = refused_in t n (f ∷ fs) (l ∷ ls) b from d in
    let others = refused_in t (suc n) fs ls b.1 (suc from) d in
    let here : all from ≡ b.0.refused = refused_here from b.0.refused (others from) in
    let alike : branches_from (suc from) all fs ≡ branches_from (suc from) others fs = alike_from (suc from) all others fs (λ k far. refused_else from k b.0.refused (others k) (λ e. omega arith)) in
    let rest : locals_of (branches_from (suc from) all fs) ≡ ls = ap (λ (xs : List Standing). locals_of xs) alike ∙ refused_back t (suc n) (suc from) fs ls b.1 d in
    let head : (branch (all from) f).local ≡ l = ap (λ (r : Bool). (branch r f).local) here ∙ sym b.0.stands in
    λ i. head i ∷ rest i

-- and none of them has tried
pub untried_back : (t : Bool) → (n from : ℕ) (fs : List Fork) (ls : List Local) (b : AreBack t n fs ls) (d : Bool) (k : ℕ) (x : Standing) → get_elem? (branches_from from (refused_in t n fs ls b from d) fs) k ≡ some x → t ≡ false → x.tried ≡ false
unfolding refused_in
untried_back t n from [] ls b d k x at none = absurd (some-ne-none x (sym at))
untried_back t n from (f ∷ fs) [] b d k x at none = absurd b
untried_back t n from (f ∷ fs) (l ∷ ls) b d zero x at none =
    let all = refused_in t n (f ∷ fs) (l ∷ ls) b from d in
    let here : all from ≡ b.0.refused = refused_here from b.0.refused (refused_in t (suc n) fs ls b.1 (suc from) d from) in
    subst (λ (y : Standing). y.tried ≡ false) (ap (λ (r : Bool). branch r f) (sym here) ∙ some-injective (branch (all from) f) x at) (b.0.untried none)
untried_back t n from (f ∷ fs) (l ∷ ls) b d (suc k) x at none =
    let all = refused_in t n (f ∷ fs) (l ∷ ls) b from d in
    let others = refused_in t (suc n) fs ls b.1 (suc from) d in
    let alike : branches_from (suc from) all fs ≡ branches_from (suc from) others fs = alike_from (suc from) all others fs (λ k far. refused_else from k b.0.refused (others k) (λ e. omega arith)) in
    untried_back t (suc n) (suc from) fs ls b.1 d k x (ap (λ (xs : List Standing). get_elem? xs k) (sym alike) ∙ at) none

-- where more may have tried
pub back_weaker : (t u : Bool) → (u ≡ false → t ≡ false) → (n : ℕ) (fs : List Fork) (ls : List Local) → AreBack t n fs ls → AreBack u n fs ls
back_weaker t u less n [] [] b = tt
back_weaker t u less n [] (l ∷ ls) b = absurd b
back_weaker t u less n (f ∷ fs) [] b = absurd b
back_weaker t u less n (f ∷ fs) (l ∷ ls) b =
    let h = b.0 in
    (record { refused = h.refused; stands = h.stands; untried = λ none. h.untried (less none); number = h.number; between = h.between }, back_weaker t u less (suc n) fs ls b.1)
