-- Who holds what a number names.
use Rattle.std.proofs.Common.{◌≡◌, ℕ, ◌≤◌, ◌&&◌, eqb, Bool, true, false, List, [], ◌∷◌, Option, Some, None, inl, inr, refl, ap, sym, ◌∙◌, arith, subst}
use Rattle.std.specs.Prelude.{All, option_map}
use Rattle.std.specs.Option.{option_or}
use Rattle.std.proofs.lemmas.Bool.{cases_Bool, cond-true, cond-false, ne_eqb}
use Rattle.std.proofs.lemmas.List.Elements.{All-head, All-tail}
use Rattle.slub_words.specs.declared.board.BoardWord.{BoardWord}
use Rattle.slub_lists.specs.declared.lists.Held.{Held}
use Rattle.slub_core.specs.declared.local.Known.{Known}
use Rattle.slub_core.specs.Setup.{Setup}
use Rattle.slub_core.specs.Local.{Local}
use Rattle.slub_core.specs.World.{World}
use Rattle.slub_law_opening.specs.Rests.{IsBetween, held_on, held_in, held_among, named}

-- what a number names is what the holder knows
pub known-all : (P : ℕ → ℕ → Type 0) (worker : ℕ) (ks : List Known) (o : ℕ) (h : Held) → All (λ (k : Known). k.held ≡ true → P k.cache k.frame) ks → held_in worker ks o ≡ Some h → P h.cache h.frame
known-all P worker [] o h all e = absurd (cc e)
known-all P worker (k ∷ ks) o h all e = elim (cases_Bool (k.held && eqb k.object o)) [
  | inl t ↦ found (injected (sym (cond-true {A = Option Held} (k.held && eqb k.object o) _ (held_in worker ks o) t) ∙ e)) (All-head (λ (k : Known). k.held ≡ true → P k.cache k.frame) k ks all (first k.held t))
  | inr f ↦ known-all P worker ks o h (All-tail (λ (k : Known). k.held ≡ true → P k.cache k.frame) k ks all) (sym (cond-false {A = Option Held} (k.held && eqb k.object o) _ (held_in worker ks o) f) ∙ e)
]
  where
    injected : {x y : Held} → Some x ≡ Some y → x ≡ y
    injected e = cc

    first : (b : Bool) → b && eqb k.object o ≡ true → b ≡ true
    first true t = refl
    first false t = t

    found : {x : Held} → x ≡ h → P x.cache x.frame → P h.cache h.frame
    found {x} e p = subst (λ (z : Held). P z.cache z.frame) e p

pub among-all : (P : ℕ → ℕ → Type 0) (ls : List Local) (o : ℕ) (h : Held) → All (λ (l : Local). All (λ (k : Known). k.held ≡ true → P k.cache k.frame) l.known) ls → held_among ls o ≡ Some h → P h.cache h.frame
among-all P [] o h all e = absurd (cc e)
among-all P (l ∷ ls) o h all e = go (held_in l.worker l.known o) refl e (among-all P ls o h (All-tail (λ (l : Local). All (λ (k : Known). k.held ≡ true → P k.cache k.frame) l.known) l ls all))
  where
    go : (x : Option Held) → held_in l.worker l.known o ≡ x → option_or x (held_among ls o) ≡ Some h → (held_among ls o ≡ Some h → P h.cache h.frame) → P h.cache h.frame
    go None is e more = more e
    go (Some x) is e more = known-all P l.worker l.known o h (All-head (λ (l : Local). All (λ (k : Known). k.held ≡ true → P k.cache k.frame) l.known) l ls all) (is ∙ e)

pub named-all : (P : ℕ → ℕ → Type 0) (w : World) (ls : List Local) (o : ℕ) (h : Held) → ((d : BoardWord) → w.board o ≡ Some d → P d.cache d.frame) → All (λ (l : Local). All (λ (k : Known). k.held ≡ true → P k.cache k.frame) l.known) ls
    → named w ls o ≡ Some h → P h.cache h.frame
named-all P w ls o h board all e = go (w.board o) refl e
  where
    injected : {x y : Held} → Some x ≡ Some y → x ≡ y
    injected e = cc

    go : (d : Option BoardWord) → w.board o ≡ d → option_or (option_map held_on d) (held_among ls o) ≡ Some h → P h.cache h.frame
    go None is e = among-all P ls o h all e
    go (Some d) is e = subst (λ (z : Held). P z.cache z.frame) (injected e) (board d is)

-- nobody holds an object under number 0
zero-in : (worker : ℕ) (ks : List Known) → All (λ (k : Known). k.held ≡ true → 1 ≤ k.object) ks → held_in worker ks 0 ≡ None
zero-in worker [] are = refl
zero-in worker (k ∷ ks) are =
    let some = All-head (λ (k : Known). k.held ≡ true → 1 ≤ k.object) k ks are in
    cond-false {A = Option Held} (k.held && eqb k.object 0) _ (held_in worker ks 0) (other k.held some) ∙ zero-in worker ks (All-tail (λ (k : Known). k.held ≡ true → 1 ≤ k.object) k ks are)
  where
    other : (b : Bool) → (b ≡ true → 1 ≤ k.object) → b && eqb k.object 0 ≡ false
    other true some = ne_eqb k.object 0 (λ z. absurd (let n = some refl in omega arith))
    other false some = refl

zero-among : (m : Setup) (ls : List Local) → All (IsBetween m) ls → held_among ls 0 ≡ None
zero-among m [] are = refl
zero-among m (l ∷ ls) are = ap (λ h. option_or h (held_among ls 0)) (zero-in l.worker l.known (All-head (IsBetween m) l ls are).some) ∙ zero-among m ls (All-tail (IsBetween m) l ls are)

pub zero-named : (w : World) (m : Setup) (ls : List Local) → w.board 0 ≡ None → All (IsBetween m) ls → named w ls 0 ≡ None
zero-named w m ls none are = ap (λ d. option_or (option_map held_on d) (held_among ls 0)) none ∙ zero-among m ls are
