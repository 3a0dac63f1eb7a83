-- The table as it is opened meets the rule.
use Rattle.std.proofs.Common.{◌≡◌, ℕ, zero, suc, ◌+◌, ◌<◌, ◌≤◌, Bool, true, false, List, [], ◌∷◌, length, map, get_or, refl, sym, ap, ◌∙◌, subst, arith}
use Rattle.std.specs.Prelude.{Contains}
use Rattle.std.proofs.lemmas.List.Elements.{All-nil}
use mathlib.Core.Option.{some, some-injective, some-ne-none}
use lib.ListN.{get_elem?}
use Rattle.atomic_table.specs.Table.{opening}
use Rattle.slub_common.proofs.Lists.{Contains-nil}
use Rattle.slub_core.specs.declared.spot.Spot.{Spot}
use Rattle.slub_core.specs.declared.spot.Spot.TheVariants.{Between}
use Rattle.slub_core.specs.Local.{Local}
use Rattle.slub_core.specs.Run.{idle}
use Rattle.slub_core.specs.declared.guarded.Guarded.TheVariants.{Nothing}
use Rattle.slub_schedule.specs.Schedule.{IsCall}
use Rattle.slub_turns.specs.System.{system_of}
use Rattle.slub_turns.specs.Ready.{IsReady}
use Rattle.slub_workers.specs.Begun.{Begun}
use Rattle.slub_workers.specs.Cells.{by_number}
use Rattle.slub_workers.specs.Locks.{locks_of}
use Rattle.slub_workers.specs.Standing.{Standing, Fork, branch, branches, branches_from, locals_of, one_way}
use Rattle.slub_workers.specs.Rule.{Stands, Holds, Owns, AreTied, IsAbsent, number_in, standing_first, first_view, setup_in}
use Rattle.slub_workers.specs.Ranks.{AreFresh}
use Rattle.slub_workers.specs.Round.{MayBegin}
use Rattle.slub_workers.proofs.Cells.{by_number-twice}
use Rattle.slub_workers.proofs.Sizes.{many-frames}
use Rattle.slub_workers.proofs.StepReady.{many-guards}

-- ---- lists

-- the element at a place that the list has
pub at_place : {A : Type 0} (xs : List A) (k : ℕ) (d : A) → k < length xs → get_elem? xs k ≡ some (get_or xs k d)
at_place [] k d low = absurd (omega arith)
at_place (x ∷ xs) zero d low = refl
at_place (x ∷ xs) (suc k) d low = at_place xs k d (omega arith)

pub place_below : {A : Type 0} (xs : List A) (k : ℕ) (x : A) → get_elem? xs k ≡ some x → k < length xs
place_below [] k x at = absurd (some-ne-none x (sym at))
place_below (y ∷ ys) zero x at = omega arith
place_below (y ∷ ys) (suc k) x at = let low = place_below ys k x at in omega arith

pub place_or : {A : Type 0} (xs : List A) (k : ℕ) (x d : A) → get_elem? xs k ≡ some x → get_or xs k d ≡ x
place_or [] k x d at = absurd (some-ne-none x (sym at))
place_or (y ∷ ys) zero x d at = some-injective y x at
place_or (y ∷ ys) (suc k) x d at = place_or ys k x d at

-- what a mapped list has at a place is mapped
pub from_map : {A B : Type 0} (f : A → B) (xs : List A) (k : ℕ) (y : B) → get_elem? (map f xs) k ≡ some y → (x : A) × (get_elem? xs k ≡ some x) × (f x ≡ y)
from_map f [] k y at = absurd (some-ne-none y (sym at))
from_map f (x ∷ xs) zero y at = (x, refl, some-injective (f x) y at)
from_map f (x ∷ xs) (suc k) y at = from_map f xs k y at

pub to_map : {A B : Type 0} (f : A → B) (xs : List A) (k : ℕ) (x : A) → get_elem? xs k ≡ some x → get_elem? (map f xs) k ≡ some (f x)
to_map f [] k x at = absurd (some-ne-none x (sym at))
to_map f (y ∷ ys) zero x at = ap (λ z. some (f z)) (some-injective y x at)
to_map f (y ∷ ys) (suc k) x at = to_map f ys k x at

pub length_of_map : {A B : Type 0} (f : A → B) (xs : List A) → length (map f xs) ≡ length xs
length_of_map f [] = refl
length_of_map f (x ∷ xs) = let e = length_of_map f xs in omega arith

-- ---- the workers at the start

-- they stand so, whoever is refused memory
first_branches : (n : ℕ) (refused : ℕ → Bool) (ls : List Local) → branches_from n refused (map (λ l. one_way (standing_first l)) ls) ≡ map standing_first ls
first_branches n refused [] = refl
first_branches n refused (l ∷ ls) = λ i. by_branch (refused n) i ∷ first_branches (suc n) refused ls i
  where
    by_branch : (b : Bool) → branch b (one_way (standing_first l)) ≡ standing_first l
    by_branch true = refl
    by_branch false = refl

first_locals : (ls : List Local) → locals_of (map standing_first ls) ≡ ls
first_locals [] = refl
first_locals (l ∷ ls) = ap (λ (ks : List Local). l ∷ ks) (first_locals ls)

-- between two calls a worker has no lock
pub no_locks : (l : Local) → l.spot ≡ Between → locks_of l ≡ []
no_locks l is = ap (λ (s : Spot). locks_of record l { spot = s }) is

pub has_none : (l : Local) (lock : ℕ) → l.spot ≡ Between → Contains (locks_of l) lock → ⊥
has_none l lock is has = Contains-nil lock (subst (λ (locks : List ℕ). Contains locks lock) (no_locks l is) has)

absent_from : (w n : ℕ) (v : List Fork) → w < n → ((k : ℕ) (f : Fork) → get_elem? v k ≡ some f → number_in f ≡ n + k) → IsAbsent w v
absent_from w n v low numbers k f at e = let m = numbers k f at in omega arith

owns_from : (all : List Fork) (n : ℕ) (v : List Fork) → ((k : ℕ) (f : Fork) → get_elem? v k ≡ some f → (number_in f ≡ n + k) × (get_elem? all (n + k) ≡ some f)) → Owns (λ _. 0) all 0 v
owns_from all n [] at = tt
owns_from all n (f ∷ v) at =
    let h = at 0 f refl in
    let more : (k : ℕ) (g : Fork) → get_elem? v k ≡ some g → (number_in g ≡ n + 1 + k) × (get_elem? all (n + 1 + k) ≡ some g) = λ k g e.
    let t = at (suc k) g e in let s : n + suc k ≡ n + 1 + k = omega arith in (t.0 ∙ s, subst (λ (i : ℕ). get_elem? all i ≡ some g) s t.1) in (
      subst (λ (k : ℕ). get_elem? all k ≡ some f) (sym h.0) h.1,
      refl,
      absent_from (number_in f) (n + 1) v (let m = h.0 in omega arith) (λ k g e. (more k g e).0),
      owns_from all (n + 1) v more,
    )

module _ (key : Begun) (o : MayBegin key) where
  many : length key.guards ≡ 33
  many = many-guards (setup_in key) key.guards o.ready.full

  number-first : (k : ℕ) (l : Local) → get_elem? key.locals k ≡ some l → l.worker ≡ k
  number-first k l at =
      ap (λ (x : Local). x.worker) (sym (place_or key.locals k l idle at)) ∙ o.ready.may.bounded.numbers k (place_below key.locals k l at)

  spot-first : (k : ℕ) (l : Local) → get_elem? key.locals k ≡ some l → l.spot ≡ Between
  spot-first k l at = subst (λ (x : Local). x.spot ≡ Between) (place_or key.locals k l l at) (o.between k l (place_below key.locals k l at))

  abbrev firsts : List Standing
  firsts = map standing_first key.locals

  stands : Stands key key.table.words (map some key.guards) firsts
  stands = record {
    guards = key.guards;
    picks = [];
    ready = subst (λ (ls : List Local). IsReady key.facts key.table key.guards ls) (sym (first_locals key.locals)) o.ready;
    calls = λ none. All-nil IsCall;
    ran = ap (λ (ls : List Local). system_of key.table key.guards ls) (sym (first_locals key.locals));
    numbers = λ k x at. let t = from_map standing_first key.locals k x at in ap (λ (y : Standing). y.local.worker) (sym t.2) ∙ number-first k t.0 t.1;
    home = λ lock low none. to_map some key.guards lock (get_or key.guards lock Nothing) (at_place key.guards lock Nothing (let n = many in omega arith));
    hand = λ k x lock at has.
        let t = from_map standing_first key.locals k x at in
        let spot : x.local.spot ≡ Between = ap (λ (y : Standing). y.local.spot) (sym t.2) ∙ spot-first k t.0 t.1 in
        absurd (has_none x.local lock spot has);
    room = λ k x at. let t = from_map standing_first key.locals k x at in ap (λ (y : Standing). length y.values) (sym t.2);
  }

  stands_all : (refused : ℕ → Bool) → Stands key key.table.words (map some key.guards) (branches refused (first_view key))
  stands_all refused = subst (λ (xs : List Standing). Stands key key.table.words (map some key.guards) xs) (sym (first_branches 0 refused key.locals)) stands

  owns_all : Owns (λ _. 0) (first_view key) 0 (first_view key)
  owns_all = owns_from (first_view key) 0 (first_view key) (λ k f at.
      let t = from_map (λ l. one_way (standing_first l)) key.locals k f at in
      (ap number_in (sym t.2) ∙ number-first k t.0 t.1 ∙ omega arith, subst (λ (i : ℕ). get_elem? (first_view key) i ≡ some f) (omega arith) at))

  tied : AreTied (λ _. 0) (first_view key) (first_view key ∷ [])
  tied zero v e = subst (λ (x : List Fork). Owns (λ _. 0) (first_view key) 0 x) (some-injective (first_view key) v e) owns_all
  tied (suc k) v e = absurd (some-ne-none v (sym e))

  every_word : 1569 ≤ length key.table.words
  every_word = let n = o.ready.may.coherent.words in let m = many-frames key.facts key.table key.guards key.locals o.ready in omega arith

  -- in cells, the words are those with which the round begins
  pub opens : Holds key (opening (by_number key.table.words) key.guards (first_view key))
  opens = record {
    forks = first_view key;
    owner = λ _. 0;
    stand = λ refused. subst (λ (ws : List ℕ). Stands key ws (map some key.guards) (branches refused (first_view key))) (sym (by_number-twice key.table.words every_word)) (stands_all refused);
    tied = tied;
    slots = length_of_map some key.guards ∙ many;
    count = length_of_map (λ l. one_way (standing_first l)) key.locals;
  }

  -- each of its workers may be given a seat
  pub fresh_of : AreFresh key key.locals
  fresh_of k l at =
      let number = number-first k l at in
      let here : get_elem? firsts k ≡ some (standing_first l) = to_map standing_first key.locals k l at in
      record {
        may = record {
          words = key.table.words;
          homes = map some key.guards;
          all = firsts;
          stands = stands;
          here = subst (λ (i : ℕ). get_elem? firsts i ≡ some (standing_first l)) (sym number) here;
        };
        between = spot-first k l at;
        number = number;
      }
