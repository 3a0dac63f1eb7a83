-- What object numbers name, where one worker's objects change.
use Rattle.std.proofs.Common.{◌≡◌, ℕ, zero, suc, ◌<◌, ◌≤◌, ◌&&◌, Bool, true, false, cond, eqb, List, [], ◌∷◌, length, get_or, set, Option, Some, None, refl, ap, sym, ◌∙◌, subst, arith, sum_by, Contains}
use Rattle.std.specs.Prelude.{is_some}
use Rattle.std.specs.Option.{option_map, option_or}
use Rattle.std.proofs.lemmas.Bool.{ne_eqb, eq-eqb, cond-false}
use Rattle.std.proofs.lemmas.List.{get_or-set_same, length-set}
use Rattle.std.proofs.lemmas.List.Elements.{All-contains_itself}
use Rattle.std.proofs.lemmas.List.Sums.{sum_by-set, sum_by-cons}
use Rattle.slub_words.specs.declared.board.BoardWord.{BoardWord}
use Rattle.slub_lists.specs.declared.lists.Held.{Held}
use Rattle.slub_core.specs.declared.local.Known.{Known}
use Rattle.slub_core.specs.Local.{Local, nobody}
use Rattle.slub_core.specs.Run.{idle}
use Rattle.slub_core.specs.World.{World, one_if}
use Rattle.slub_law_opening.specs.Rests.{held_on, held_in, held_among, times_held, named, times_named}
use Rattle.slub_law_opening.proofs.Names.{as_held, holds, held-named}

and_no : (h : Bool) {e : Bool} → e ≡ false → h && e ≡ false
and_no true e = e
and_no false e = refl

-- another number than the one that is known otherwise names what it named
pub held_other : (worker o : ℕ) (ks : List Known) (p : ℕ) (k : Known) → (get_or ks p nobody).object ≡ k.object → (k.object ≡ o → ⊥) → held_in worker (set ks p k) o ≡ held_in worker ks o
held_other worker o [] p k same away = refl
held_other worker o (j ∷ ks) zero k same away =
    cond-false {A = Option Held} (k.held && eqb k.object o) _ (held_in worker ks o) (and_no k.held (ne_eqb k.object o away))
    ∙ sym (cond-false {A = Option Held} (j.held && eqb j.object o) _ (held_in worker ks o) (and_no j.held (ne_eqb j.object o (λ e. away (sym same ∙ e)))))
held_other worker o (j ∷ ks) (suc p) k same away = ap (cond (j.held && eqb j.object o) (Some (as_held worker j))) (held_other worker o ks p k same away)

-- a worker's place among the others
pub among_same : (o : ℕ) (ls : List Local) (x : ℕ) (l : Local) → held_in l.worker l.known o ≡ held_in (get_or ls x idle).worker (get_or ls x idle).known o → held_among (set ls x l) o ≡ held_among ls o
among_same o [] x l same = refl
among_same o (j ∷ ls) zero l same = ap (λ h. option_or h (held_among ls o)) same
among_same o (j ∷ ls) (suc x) l same = ap (option_or (held_in j.worker j.known o)) (among_same o ls x l same)

pub named_other : (w : World) (ls : List Local) (x p : ℕ) (l : Local) (k : Known) → l.worker ≡ (get_or ls x idle).worker → l.known ≡ set (get_or ls x idle).known p k → (get_or (get_or ls x idle).known p nobody).object ≡ k.object
    → (o : ℕ) → (k.object ≡ o → ⊥) → named w (set ls x l) o ≡ named w ls o
named_other w ls x p l k worker known same o away =
    let was = get_or ls x idle in
    ap (option_or (option_map held_on (w.board o))) (among_same o ls x l (ap (λ n. held_in n l.known o) worker ∙ ap (λ ks. held_in was.worker ks o) known ∙ held_other was.worker o was.known p k same away))

-- the object that a worker holds is what its number names
pub named_held : (w : World) (ls : List Local) (x p : ℕ) (l : Local) (ks : List Known) (k : Known) → x < length ls → p < length ks → l.known ≡ set ks p k → k.held ≡ true → times_named w (set ls x l) k.object ≤ 1 → named w (set ls x l) k.object ≡ Some (as_held l.worker k)
named_held w ls x p l ks k below inside known held once =
    held-named w (set ls x l) l k (in-set ls x l idle below) (subst (λ js. Contains js k) (sym known) (in-set ks p k nobody inside)) held once
  where
    in-set : {X : Type 0} (xs : List X) (i : ℕ) (y d : X) → i < length xs → Contains (set xs i y) y
    in-set xs i y d lt = subst (λ z. Contains (set xs i y) z) (get_or-set_same xs i y d lt) (All-contains_itself (set xs i y) i d (let e = length-set xs i y in omega arith))

-- ---- counted

in-none : (worker o : ℕ) (ks : List Known) → sum_by (holds o) ks ≡ 0 → held_in worker ks o ≡ None
in-none worker o [] z = refl
in-none worker o (k ∷ ks) z =
    let c = sum_by-cons (holds o) k ks in
    cond-false {A = Option Held} (k.held && eqb k.object o) _ (held_in worker ks o) (none (k.held && eqb k.object o) (omega arith)) ∙ in-none worker o ks (omega arith)
  where
    none : (a : Bool) → one_if a ≡ 0 → a ≡ false
    none true e = absurd (omega arith)
    none false e = refl

among-none : (o : ℕ) (ls : List Local) → sum_by (times_held o) ls ≡ 0 → held_among ls o ≡ None
among-none o [] z = refl
among-none o (l ∷ ls) z =
    let c = sum_by-cons (times_held o) l ls in
    ap (λ h. option_or h (held_among ls o)) (in-none l.worker o l.known (omega arith)) ∙ among-none o ls (omega arith)

-- what nobody holds and is not on the board names nothing
pub named_none : (w : World) (ls : List Local) (o : ℕ) → times_named w ls o ≡ 0 → named w ls o ≡ None
named_none w ls o z = ap (λ h. option_or h (held_among ls o)) (none (w.board o) (omega arith)) ∙ among-none o ls (omega arith)
  where
    none : (b : Option BoardWord) → one_if (is_some b) ≡ 0 → option_map held_on b ≡ None
    none None e = refl
    none (Some b) e = absurd (omega arith)

-- a worker that held the object once holds it no more
pub named_lost : (w : World) (ls : List Local) (x p : ℕ) (l : Local) (k : Known) → x < length ls → p < length (get_or ls x idle).known → l.known ≡ set (get_or ls x idle).known p k → k.held ≡ false → (get_or (get_or ls x idle).known p nobody).held ≡ true
    → (o : ℕ) → (get_or (get_or ls x idle).known p nobody).object ≡ o → times_named w ls o ≤ 1 → named w (set ls x l) o ≡ None
named_lost w ls x p l k below inside known free held o at once =
    let was = get_or ls x idle in
    let a = sum_by-set (times_held o) ls x l idle below in
    let c = sum_by-set (holds o) was.known p k nobody inside in
    let e : times_held o l ≡ sum_by (holds o) (set was.known p k) = ap (λ ks. sum_by (holds o) ks) known in
    let y : holds o (get_or was.known p nobody) ≡ 1 = ap one_if (ap (λ h. h && eqb (get_or was.known p nobody).object o) held ∙ eq-eqb (get_or was.known p nobody).object o at) in
    let z : holds o k ≡ 0 = ap one_if (ap (λ h. h && eqb k.object o) free) in
    named_none w (set ls x l) o (omega arith)

-- what a worker comes to hold under a number was nobody's under it
pub named_new : (w : World) (ls : List Local) (x p : ℕ) (l : Local) (k : Known) → x < length ls → p < length (get_or ls x idle).known → l.known ≡ set (get_or ls x idle).known p k → k.held ≡ true → (get_or (get_or ls x idle).known p nobody).held ≡ false
    → (o : ℕ) → k.object ≡ o → times_named w (set ls x l) o ≤ 1 → named w ls o ≡ None
named_new w ls x p l k below inside known held free o at once =
    let was = get_or ls x idle in
    let a = sum_by-set (times_held o) ls x l idle below in
    let c = sum_by-set (holds o) was.known p k nobody inside in
    let e : times_held o l ≡ sum_by (holds o) (set was.known p k) = ap (λ ks. sum_by (holds o) ks) known in
    let y : holds o k ≡ 1 = ap one_if (ap (λ h. h && eqb k.object o) held ∙ eq-eqb k.object o at) in
    let z : holds o (get_or was.known p nobody) ≡ 0 = ap one_if (ap (λ h. h && eqb (get_or was.known p nobody).object o) free) in
    named_none w ls o (omega arith)
