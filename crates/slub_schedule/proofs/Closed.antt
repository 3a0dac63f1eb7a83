-- A round that ends closes into a machine at rest, and its board is what the replies say.
use Rattle.std.proofs.Common.{◌≡◌, ℕ, suc, ◌+◌, ◌<◌, ◌≤◌, Bool, true, false, if◌then◌else◌, List, [], ◌∷◌, length, get_or, map, sum_by, All, Contains, Option, Some, None, refl, sym, ap, ◌∙◌, subst, arith, inl, inr}
use Rattle.std.proofs.lemmas.Bool.{cases_Bool, eq-eqb, ne_eqb}
use Rattle.std.proofs.lemmas.Option.{none-some, same_Some}
use Rattle.std.proofs.lemmas.List.{get_or_past}
use Rattle.std.proofs.lemmas.List.Sums.{sum_by-cons}
use Rattle.std.proofs.lemmas.List.Elements.{All-nil, All-head, All-tail, All-get_or, All-contains}
use Rattle.slub_words.specs.declared.board.BoardWord.{BoardWord}
use Rattle.slub_core.specs.declared.local.Known.{Known}
use Rattle.slub_core.specs.declared.spot.Spot.TheVariants.{Between}
use Rattle.slub_core.specs.World.{World, Chains, cache_at, sum_below, is_at, on_board, one_if}
use Rattle.slub_core.specs.Local.{Local, Worker, nobody}
use Rattle.slub_core.specs.Placed.{held_as, held, owned, IsPlaced}
use Rattle.slub_core.specs.Listed.{home_of, marked_of, covered_by, takes, IsShaped, IsListed}
use Rattle.slub_core.specs.Fresh.{IsAtWork, IsFresh}
use Rattle.slub_core.specs.Accounted.{boarded, known_of, place_of, AreDistinct}
use Rattle.slub_core.specs.Coherent.{Stands}
use Rattle.slub_core.proofs.Pigeon.{sum_below-add, sum_below-none}
use Rattle.slub_core.proofs.Update.{sum_below_same, sum_below_change}
use Rattle.slub_core.proofs.TaleKnowns.{held-inside}
use Rattle.slub_schedule.specs.Finished.{empty_handed}
use Rattle.slub_schedule.specs.Closed.{word_of, held_by, or_held, closed}

-- ---- what a worker knows, by place and by number

held-numbers : (f i n : ℕ) (ks : List Known) → AreDistinct ks → All (λ (k : Known). k.object < n) ks → sum_by (held_as f i) ks ≡ sum_below n (λ o. held_as f i (known_of ks o))
held-numbers f i n [] distinct below = sym (sum_below-none n (λ o. held_as f i nobody) (λ o under. refl))
held-numbers f i n (k ∷ ks) distinct below =
    let g : ℕ → ℕ = λ o. held_as f i (known_of ks o) in
    let h : ℕ → ℕ = λ o. held_as f i (known_of (k ∷ ks) o) in
    let here : known_of (k ∷ ks) k.object ≡ k = rw (eq-eqb k.object k.object refl) refl in
    let none : known_of ks k.object ≡ nobody = ap (λ p. get_or ks p nobody) distinct.0 ∙ get_or_past ks (length ks) nobody (omega arith) in
    let there : (o : ℕ) → (o ≡ k.object → ⊥) → h o ≡ g o = λ o other. rw (ne_eqb k.object o (λ e. other (sym e))) refl in
    let change : sum_below n h + g k.object ≡ sum_below n g + h k.object = sum_below_change n g h k.object (All-head (λ (k : Known). k.object < n) k ks below) there in
    let nothing : g k.object ≡ 0 = ap (held_as f i) none in
    let mine : h k.object ≡ held_as f i k = ap (held_as f i) here in
    let rest : sum_by (held_as f i) ks ≡ sum_below n g = held-numbers f i n ks distinct.1 (All-tail (λ (k : Known). k.object < n) k ks below) in
    let first = sum_by-cons (held_as f i) k ks in
    let goal : sum_by (held_as f i) (k ∷ ks) ≡ sum_below n h = omega arith in
    goal

swap : (n : ℕ) (g : Local → ℕ → ℕ) (ls : List Local) → sum_by (λ (l : Local). sum_below n (g l)) ls ≡ sum_below n (λ o. sum_by (λ (l : Local). g l o) ls)
swap n g [] = sym (sum_below-none n (λ o. 0) (λ o under. refl))
swap n g (l ∷ ls) =
    let rest = swap n g ls in
    let added = sum_below-add n (g l) (λ o. sum_by (λ (l : Local). g l o) ls) in
    let same = sum_below_same n (λ o. g l o + sum_by (λ (l : Local). g l o) ls) (λ o. sum_by (λ (l : Local). g l o) (l ∷ ls)) (λ o under. sum_by-cons (λ (l : Local). g l o) l ls) in
    let first = sum_by-cons (λ (l : Local). sum_below n (g l)) l ls in
    omega arith

-- ---- one number

-- how many workers hold it, and how often one of them holds this object under it
abbrev pub held_count : ℕ → List Local → ℕ
held_count o ls = sum_by (λ (l : Local). one_if (known_of l.known o).held) ls

abbrev held_words : ℕ → ℕ → ℕ → List Local → ℕ
held_words f i o ls = sum_by (λ (l : Local). held_as f i (known_of l.known o)) ls

held_is : (f i : ℕ) (k : Known) → k.held ≡ true → held_as f i k ≡ one_if (is_at k.frame k.index f i)
held_is f i k e = rw e refl

held_not : (f i : ℕ) (k : Known) → k.held ≡ false → held_as f i k ≡ 0
held_not f i k e = rw e refl

one_at : (b : Bool) → one_if b ≤ 1
one_at true = omega arith
one_at false = omega arith

held-few : (f i : ℕ) (k : Known) → held_as f i k ≤ one_if k.held
held-few f i k = elim (cases_Bool k.held) [
  | inl is_so ↦ (let a = held_is f i k is_so in let b = one_at (is_at k.frame k.index f i) in let c : one_if k.held ≡ 1 = ap one_if is_so in omega arith)
  | inr not_so ↦ (let a = held_not f i k not_so in omega arith)
]

words-few : (f i o : ℕ) (ls : List Local) → held_words f i o ls ≤ held_count o ls
words-few f i o [] = omega arith
words-few f i o (l ∷ ls) =
    let first = held-few f i (known_of l.known o) in
    let rest = words-few f i o ls in
    omega (arith, sum_by-cons (λ (l : Local). held_as f i (known_of l.known o)) l ls, sum_by-cons (λ (l : Local). one_if (known_of l.known o).held) l ls)

held_by-on : (f i o : ℕ) (ls : List Local) → held_count o ls ≤ 1 → on_board (held_by ls o) f i ≡ held_words f i o ls
held_by-on f i o [] few = refl
held_by-on f i o (l ∷ ls) few = by_held (held_by-on f i o ls) (known_of l.known o).held refl
  where
    by_held : (held_count o ls ≤ 1 → on_board (held_by ls o) f i ≡ held_words f i o ls) → (b : Bool) → (known_of l.known o).held ≡ b → on_board (if b then Some (word_of (known_of l.known o)) else held_by ls o) f i ≡ held_words f i o (l ∷ ls)
    by_held again true is =
        let rest = words-few f i o ls in
        let mine = held_is f i (known_of l.known o) is in
        let one : one_if (known_of l.known o).held ≡ 1 = ap one_if is in
        omega (arith, sum_by-cons (λ (l : Local). held_as f i (known_of l.known o)) l ls, sum_by-cons (λ (l : Local). one_if (known_of l.known o).held) l ls)
    by_held again false is =
        let mine = held_not f i (known_of l.known o) is in
        let fewer : held_count o ls ≤ 1 = omega (arith, sum_by-cons (λ (l : Local). one_if (known_of l.known o).held) l ls) in
        let rest = again fewer in
        omega (arith, sum_by-cons (λ (l : Local). held_as f i (known_of l.known o)) l ls)

closed-on : (f i o : ℕ) (ls : List Local) (x : Option BoardWord) → boarded x + held_count o ls ≤ 1 → on_board (or_held x (held_by ls o)) f i ≡ on_board x f i + held_words f i o ls
closed-on f i o ls None few = let e = held_by-on f i o ls (omega arith) in omega arith
closed-on f i o ls (Some b) few = let rest = words-few f i o ls in omega arith

-- as often on the closed board as on the board and with the workers
held_by-count : (o : ℕ) (ls : List Local) → held_count o ls ≤ 1 → boarded (held_by ls o) ≡ held_count o ls
held_by-count o [] few = refl
held_by-count o (l ∷ ls) few = by_held (held_by-count o ls) (known_of l.known o).held refl
  where
    by_held : (held_count o ls ≤ 1 → boarded (held_by ls o) ≡ held_count o ls) → (b : Bool) → (known_of l.known o).held ≡ b → boarded (if b then Some (word_of (known_of l.known o)) else held_by ls o) ≡ held_count o (l ∷ ls)
    by_held again true is =
        let one : one_if (known_of l.known o).held ≡ 1 = ap one_if is in
        omega (arith, sum_by-cons (λ (l : Local). one_if (known_of l.known o).held) l ls)
    by_held again false is =
        let none : one_if (known_of l.known o).held ≡ 0 = ap one_if is in
        let fewer : held_count o ls ≤ 1 = omega (arith, sum_by-cons (λ (l : Local). one_if (known_of l.known o).held) l ls) in
        let rest = again fewer in
        omega (arith, sum_by-cons (λ (l : Local). one_if (known_of l.known o).held) l ls)

pub closed-count : (o : ℕ) (ls : List Local) (x : Option BoardWord) → boarded x + held_count o ls ≤ 1 → boarded (or_held x (held_by ls o)) ≡ boarded x + held_count o ls
closed-count o ls None few = let e = held_by-count o ls (omega arith) in omega arith
closed-count o ls (Some b) few = omega arith

-- whose it is
pub holder : (o : ℕ) (ls : List Local) (b : BoardWord) → held_by ls o ≡ Some b → (l : Local) × Contains ls l × ((known_of l.known o).held ≡ true) × (word_of (known_of l.known o) ≡ b)
holder o [] b is = absurd (none-some b is)
holder o (l ∷ ls) b is = by_held (holder o ls b) (known_of l.known o).held refl is
  where
    by_held : (held_by ls o ≡ Some b → (l : Local) × Contains ls l × ((known_of l.known o).held ≡ true) × (word_of (known_of l.known o) ≡ b)) → (h : Bool) → (known_of l.known o).held ≡ h → (if h then Some (word_of (known_of l.known o)) else held_by ls o) ≡ Some b → (l' : Local) × Contains (l ∷ ls) l' × ((known_of l'.known o).held ≡ true) × (word_of (known_of l'.known o) ≡ b)
    by_held again true held same = (l, (0, omega arith, refl), held, same_Some (word_of (known_of l.known o)) b same)
    by_held again false held same = let r = again same in (r.0, (suc r.1.0, omega (arith, r.1.1), r.1.2), r.2, r.3)

-- ---- workers that are finished

pub record IsIdle (l : Local) : Type 0 where
  pub hands : l.hands ≡ []
  pub run : l.run ≡ None
  pub between : l.spot ≡ Between

no-sum : (g : Worker → ℕ) (ls : List Local) → ((l : Local) → IsIdle l → g (empty_handed l) ≡ 0) → All IsIdle ls → sum_by g (map empty_handed ls) ≡ 0
no-sum g [] none idle = refl
no-sum g (l ∷ ls) none idle =
    let first = none l (All-head IsIdle l ls idle) in
    let rest = no-sum g ls none (All-tail IsIdle l ls idle) in
    omega (arith, sum_by-cons g (empty_handed l) (map empty_handed ls))

owned-held : (f i : ℕ) (ls : List Local) → All IsIdle ls → sum_by (owned f i) (map empty_handed ls) ≡ sum_by (λ (l : Local). held f i l) ls
owned-held f i [] idle = refl
owned-held f i (l ∷ ls) idle =
    let none = (All-head IsIdle l ls idle).hands in
    let first : owned f i (empty_handed l) ≡ held f i l = rw none (omega arith) in
    let rest = owned-held f i ls (All-tail IsIdle l ls idle) in
    omega (arith, sum_by-cons (owned f i) (empty_handed l) (map empty_handed ls), sum_by-cons (λ (l : Local). held f i l) l ls)

-- ---- the closed machine stands without a worker

-- what is known of each worker and of each number
pub record IsSettled (w : World) (ls : List Local) : Type 0 where
  pub idle : All IsIdle ls
  pub distinct : All (λ (l : Local). AreDistinct l.known) ls
  pub numbers : All (λ (l : Local). All (λ (k : Known). k.object < w.setup.objects) l.known) ls
  pub once : (o : ℕ) → boarded (w.board o) + held_count o ls ≤ 1

held-all : (f i : ℕ) (n : ℕ) (ls : List Local) → All (λ (l : Local). AreDistinct l.known) ls → All (λ (l : Local). All (λ (k : Known). k.object < n) l.known) ls
    → sum_by (λ (l : Local). held f i l) ls ≡ sum_by (λ (l : Local). sum_below n (λ o. held_as f i (known_of l.known o))) ls
held-all f i n [] distinct below = refl
held-all f i n (l ∷ ls) distinct below =
    let first = held-numbers f i n l.known (All-head (λ (l : Local). AreDistinct l.known) l ls distinct) (All-head (λ (l : Local). All (λ (k : Known). k.object < n) l.known) l ls below) in
    let rest = held-all f i n ls (All-tail (λ (l : Local). AreDistinct l.known) l ls distinct) (All-tail (λ (l : Local). All (λ (k : Known). k.object < n) l.known) l ls below) in
    omega (arith, sum_by-cons (λ (l : Local). held f i l) l ls, sum_by-cons (λ (l : Local). sum_below n (λ o. held_as f i (known_of l.known o))) l ls)

-- the objects with the workers and on the board are those on the closed board
boards-add : (w : World) (ls : List Local) (f i : ℕ) → IsSettled w ls
    → sum_by (owned f i) (map empty_handed ls) + sum_below w.setup.objects (λ o. on_board (w.board o) f i) ≡ sum_below w.setup.objects (λ o. on_board ((closed w ls).board o) f i)
boards-add w ls f i s =
    let n = w.setup.objects in
    let a = owned-held f i ls s.idle in
    let b = held-all f i n ls s.distinct s.numbers in
    let c = swap n (λ (l : Local) (o : ℕ). held_as f i (known_of l.known o)) ls in
    let d = sum_below-add n (λ o. on_board (w.board o) f i) (λ o. held_words f i o ls) in
    let e = sum_below_same n (λ o. on_board (w.board o) f i + held_words f i o ls) (λ o. on_board ((closed w ls).board o) f i) (λ o under. closed-on f i o ls (w.board o) (s.once o)) in
    omega arith

placed_closed : (w : World) (y : Chains) (ls : List Local) → IsSettled w ls → IsPlaced w y (map empty_handed ls) → IsPlaced (closed w ls) y []
placed_closed w y ls s placed = record {
  once = λ f i. let a = placed.once f i in let b = boards-add w ls f i s in omega arith;
  cpu_chain = placed.cpu_chain;
  own_chain = placed.own_chain;
}

shaped_closed : (w : World) (y : Chains) (ls : List Local) → ((o : ℕ) (b : BoardWord) → held_by ls o ≡ Some b → b.cache ≡ cache_at w b.frame) → IsShaped w y → IsShaped (closed w ls) y
shaped_closed w y ls cached s = record {
  no_slab = s.no_slab;
  no_lists = s.no_lists;
  marks = s.marks;
  current = s.current;
  bare = s.bare;
  string = s.string;
  count = s.count;
  partial = s.partial;
  node = s.node;
  counted = s.counted;
  plain = s.plain;
  sized = s.sized;
  aligned = s.aligned;
  within = s.within;
  alone = s.alone;
  unslabbed = s.unslabbed;
  guarded = s.guarded;
  board = λ o b below is. by_board o b (w.board o) (s.board o b below) is;
}
  where
    by_board : (o : ℕ) (b : BoardWord) (x : Option BoardWord) → (x ≡ Some b → b.cache ≡ cache_at w b.frame) → or_held x (held_by ls o) ≡ Some b → b.cache ≡ cache_at w b.frame
    by_board o b None stood is = cached o b is
    by_board o b (Some c) stood is = stood is

listed_closed : (w : World) (y : Chains) (ls : List Local) → All IsIdle ls → ((o : ℕ) (b : BoardWord) → held_by ls o ≡ Some b → b.cache ≡ cache_at w b.frame) → IsListed w y (map empty_handed ls) → IsListed (closed w ls) y []
listed_closed w y ls idle cached listed = record {
  once = λ f real. let a = listed.once f real in let b = no-sum (home_of f) ls (λ l i. rw i.hands refl) idle in omega arith;
  marked = λ f. let a = listed.marked f in let b = no-sum (marked_of f) ls (λ l i. rw i.between refl) idle in omega arith;
  framed = λ g. let a = listed.framed g in let b = no-sum (λ (x : Worker). covered_by g x.local.run) ls (λ l i. rw i.run refl) idle in omega arith;
  locked = λ n below. let a = listed.locked n below in let b = no-sum (takes n) ls (λ l i. rw i.between refl) idle in omega arith;
  shaped = shaped_closed w y ls cached listed.shaped;
}

fresh_closed : (w : World) (xs : List Worker) (ls : List Local) → IsFresh w xs → IsFresh (closed w ls) []
fresh_closed w xs ls fresh =
    let d = fresh.worded in
    record {
      setup = fresh.setup;
      worded = record { cpu = d.cpu; slab = d.slab; list = d.list; link = d.link; room = d.room; remainder = d.remainder };
      workers = All-nil (IsAtWork (closed w ls));
    }

-- what a worker holds is of its slab's cache
abbrev pub IsCached : World → Local → Type 0
IsCached w l = All (λ (k : Known). k.held ≡ true → k.cache ≡ cache_at w k.frame) l.known

held-cached : (w : World) (ls : List Local) → All (IsCached w) ls → (o : ℕ) (b : BoardWord) → held_by ls o ≡ Some b → b.cache ≡ cache_at w b.frame
held-cached w ls all o b is =
    let h = holder o ls b is in
    let k = known_of h.0.known o in
    let cached : IsCached w h.0 = All-contains (IsCached w) ls h.0 all h.1 in
    let here : k.cache ≡ cache_at w k.frame = All-get_or (λ (k : Known). k.held ≡ true → k.cache ≡ cache_at w k.frame) h.0.known (place_of h.0.known o) nobody (held-inside h.0.known o h.2) cached h.2 in
    subst (λ (b : BoardWord). b.cache ≡ cache_at w b.frame) h.3 here

pub closed_stands : (w : World) (ls : List Local) → IsSettled w ls → All (IsCached w) ls → Stands w (map empty_handed ls) → Stands (closed w ls) []
closed_stands w ls settled all s = record {
  chains = s.chains;
  placed = placed_closed w s.chains ls settled s.placed;
  listed = listed_closed w s.chains ls settled.idle (held-cached w ls all) s.listed;
  fresh = fresh_closed w (map empty_handed ls) ls s.fresh;
}
