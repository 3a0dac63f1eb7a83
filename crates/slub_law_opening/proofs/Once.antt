-- Each number names one object at most, in a machine that is coherent.
use Rattle.std.proofs.Common.{◌≡◌, ℕ, suc, ◌+◌, ◌≤◌, ◌&&◌, cond, eqb, Bool, true, false, List, [], ◌∷◌, length, get_or, Option, Some, None, refl, ap, sym, ◌∙◌, arith, sum_by}
use Rattle.std.specs.Prelude.{All, is_some}
use Rattle.std.proofs.lemmas.Bool.{eqb-true}
use Rattle.std.proofs.lemmas.List.Elements.{All-head, All-tail, All-weaker}
use Rattle.std.proofs.lemmas.List.Sums.{sum_by-cons}
use Rattle.slub_words.specs.declared.board.BoardWord.{BoardWord}
use Rattle.slub_core.specs.declared.local.Known.{Known}
use Rattle.slub_core.specs.Local.{Worker, nobody}
use Rattle.slub_core.specs.World.{World, one_if}
use Rattle.slub_core.specs.Accounted.{place_of, known_of, AreDistinct, boarded, had, IsTold, IsAccounted, public}
use Rattle.slub_law_opening.specs.Rests.{times_held, times_named}
use Rattle.slub_law_opening.proofs.Counts.{locals_of}
use Rattle.slub_law_opening.proofs.Names.{holds}

away : (o : ℕ) (ks : List Known) → place_of ks o ≡ length ks → sum_by (holds o) ks ≡ 0
away o [] e = refl
away o (k ∷ ks) e = go (eqb k.object o) refl e (sum_by-cons (holds o) k ks) (away o ks)
  where
    none : (b : Bool) → one_if (b && false) ≡ 0
    none true = refl
    none false = refl

    go : (b : Bool) → eqb k.object o ≡ b → cond b 0 (suc (place_of ks o)) ≡ suc (length ks) → sum_by (holds o) (k ∷ ks) ≡ holds o k + sum_by (holds o) ks → (place_of ks o ≡ length ks → sum_by (holds o) ks ≡ 0) → sum_by (holds o) (k ∷ ks) ≡ 0
    go true is e c more = absurd (omega arith)
    go false is e c more = let z : holds o k ≡ 0 = ap (λ b. one_if (k.held && b)) is ∙ none k.held in let r = more (omega arith) in omega arith

held-known : (o : ℕ) (ks : List Known) → AreDistinct ks → sum_by (holds o) ks ≡ one_if (known_of ks o).held
held-known o [] distinct = refl
held-known o (k ∷ ks) distinct = go (eqb k.object o) refl (sum_by-cons (holds o) k ks) (held-known o ks distinct.1)
  where
    same : (b : Bool) → one_if (b && true) ≡ one_if b
    same true = refl
    same false = refl

    none : (b : Bool) → one_if (b && false) ≡ 0
    none true = refl
    none false = refl

    go : (b : Bool) → eqb k.object o ≡ b → sum_by (holds o) (k ∷ ks) ≡ holds o k + sum_by (holds o) ks → sum_by (holds o) ks ≡ one_if (known_of ks o).held → sum_by (holds o) (k ∷ ks) ≡ one_if (known_of (k ∷ ks) o).held
    go true is c r =
        let at : k.object ≡ o = eqb-true k.object o is in
        let z = away o ks (ap (place_of ks) (sym at) ∙ distinct.0) in
        let h : holds o k ≡ one_if k.held = ap (λ b. one_if (k.held && b)) is ∙ same k.held in
        let p : known_of (k ∷ ks) o ≡ k = ap (λ (b : Bool). get_or (k ∷ ks) (cond b 0 (suc (place_of ks o))) nobody) is in
        let q : one_if (known_of (k ∷ ks) o).held ≡ one_if k.held = ap (λ (k : Known). one_if k.held) p in
        omega arith
    go false is c r =
        let h : holds o k ≡ 0 = ap (λ b. one_if (k.held && b)) is ∙ none k.held in
        let p : known_of (k ∷ ks) o ≡ known_of ks o = ap (λ (b : Bool). get_or (k ∷ ks) (cond b 0 (suc (place_of ks o))) nobody) is in
        let q : one_if (known_of (k ∷ ks) o).held ≡ one_if (known_of ks o).held = ap (λ (k : Known). one_if k.held) p in
        omega arith

held-had : (o : ℕ) (xs : List Worker) → All (λ (x : Worker). AreDistinct x.local.known) xs → sum_by (times_held o) (locals_of xs) ≤ sum_by (λ (x : Worker). had o x.local) xs
held-had o [] distinct = omega arith
held-had o (x ∷ xs) distinct =
    let P : Worker → Type 0 = λ x. AreDistinct x.local.known in
    let here = held-known o x.local.known (All-head P x xs distinct) in
    let r = held-had o xs (All-tail P x xs distinct) in
    let c = sum_by-cons (times_held o) x.local (locals_of xs) in
    let d = sum_by-cons (λ (x : Worker). had o x.local) x xs in
    omega arith

on-board : (d : Option BoardWord) → boarded d ≡ one_if (is_some d)
on-board None = refl
on-board (Some b) = refl

pub named-once : (opening w : World) (xs : List Worker) → IsAccounted opening w xs → (o : ℕ) → times_named w (locals_of xs) o ≤ 1
named-once opening w xs a o =
    let distinct = All-weaker (λ (x : Worker). IsTold w.setup opening.board (public w xs) x.local) (λ (x : Worker). AreDistinct x.local.known) (λ x is. is.distinct) xs a.told in
    let h = held-had o xs distinct in
    let b = on-board (w.board o) in
    let c = a.count o in
    let d = a.once o in
    omega arith
