-- What the first worker and the others have, count by count.
use Rattle.std.proofs.Common.{◌≡◌, ℕ, ◌+◌, ◌==◌, List, [], ◌∷◌, sym, ◌∙◌, arith}
use Rattle.std.specs.Prelude.{All, sum_by}
use Rattle.std.proofs.lemmas.List.Sums.{sum_by-cons}
use Rattle.std.proofs.lemmas.List.Elements.{All-nil, All-cons}
use Rattle.slub_common.specs.Times.{times}
use Rattle.slub_core.specs.World.{World, Chains, sum_below, in_chain, on_board, idle_in, one_if, pool_of, covers}
use Rattle.slub_core.specs.Local.{Worker}
use Rattle.slub_core.specs.Placed.{owned, places}
use Rattle.slub_core.specs.Listed.{home_of, homes, on_lists, covered_by, frame_roles}

-- a list of which each has no more than nothing
pub All-from_no_sum : {X : Type 0} (f : X → ℕ) (xs : List X) → sum_by f xs ≡ 0 → All (λ x. f x ≡ 0) xs
All-from_no_sum f [] e = All-nil (λ x. f x ≡ 0)
All-from_no_sum f (x ∷ xs) e =
    let s : f x + sum_by f xs ≡ 0 = sym (sum_by-cons f x xs) ∙ e in
    All-cons (λ x. f x ≡ 0) x xs (omega arith) (All-from_no_sum f xs (omega arith))

pub places-cons : (w : World) (y : Chains) (x : Worker) (xs : List Worker) (f i : ℕ)
    → places w y (x ∷ xs) f i
    ≡ owned f i x + (sum_by (owned f i) xs + sum_below w.setup.objects (λ o. on_board (w.board o) f i)
    + sum_below w.setup.cpu_words (λ n. in_chain (w.cpu n).frame (y.cpu n) f i) + times i (y.own f) + sum_below w.setup.locks (λ n. idle_in (w.value n) f i))
places-cons w y x xs f i = let e = sum_by-cons (owned f i) x xs in rw e (omega arith)

pub homes-cons : (w : World) (y : Chains) (x : Worker) (xs : List Worker) (f : ℕ)
    → homes w y (x ∷ xs) f ≡ home_of f x + (sum_by (home_of f) xs + sum_below w.setup.cpu_words (λ n. one_if ((w.cpu n).frame == f)) + on_lists w y f)
homes-cons w y x xs f = let e = sum_by-cons (home_of f) x xs in rw e (omega arith)

pub roles-cons : (w : World) (x : Worker) (xs : List Worker) (g : ℕ)
    → frame_roles w (x ∷ xs) g ≡ covered_by g x.local.run + (times g (pool_of w).free + sum_below w.setup.frames (λ f. covers w g f) + sum_by (λ (x : Worker). covered_by g x.local.run) xs)
roles-cons w x xs g = let e = sum_by-cons (λ (x : Worker). covered_by g x.local.run) x xs in rw e (omega arith)
