-- A round begins with a machine that is coherent.
use Rattle.std.proofs.Common.{◌≡◌, ℕ, zero, suc, ◌+◌, ◌^◌, ◌<◌, ◌≤◌, ◌++◌, true, false, List, [], ◌∷◌, length, get_or, map, Option, Some, refl, sym, ap, ◌∙◌, subst, arith, inl, inr}
use Rattle.std.specs.Prelude.{All, sum_by, slice_index}
use Rattle.std.proofs.lemmas.Bool.{cases_eq, cases_lt, eq-eqb, ne_eqb, le-ltb, false≢true}
use Rattle.std.proofs.lemmas.Option.{none-some}
use Rattle.std.proofs.lemmas.List.{append_assoc}
use Rattle.std.proofs.lemmas.List.Sums.{sum_by-cons}
use Rattle.std.proofs.lemmas.List.Elements.{All-map, All-cons, All-head, All-tail, All-weaker}
use Rattle.slub_words.specs.declared.board.BoardWord.{BoardWord}
use Rattle.slub_core.specs.declared.local.Known.{Known}
use Rattle.slub_core.specs.Setup.{Setup}
use Rattle.slub_core.specs.Words.{board_in}
use Rattle.slub_core.specs.World.{World, LockValue, cache_at, word_in, board_words, world_from, world_of, pool_of}
use Rattle.slub_core.specs.Local.{Local, Worker, nobody, here}
use Rattle.slub_core.specs.Placed.{held_as, owned}
use Rattle.slub_core.specs.Listed.{home_of, marked_of, covered_by, takes}
use Rattle.slub_core.specs.Fresh.{IsAtWork}
use Rattle.slub_core.specs.Coherent.{Stands}
use Rattle.slub_core.specs.Replies.{given_in, asked_in, dry_in, Public}
use Rattle.slub_core.specs.Accounted.{boarded, had, public, place_of, known_of, IsTold, HasWritten, IsAccounted}
use Rattle.slub_core.specs.Steps.{rested}
use Rattle.slub_core.specs.Run.{System}
use Rattle.slub_core.specs.Opening.{IsRoom, IsNew, IsOpening, opened}
use Rattle.slub_core.specs.Law.{IsRested, IsCoherentSystem, RoundsKeepAll}
use Rattle.slub_core.proofs.Among.{to_front, from_front}
use Rattle.slub_core.proofs.Rests.{joined, rests-at, is_rested}
use Rattle.slub_core.proofs.TaleBegin.{accounted_to_front, accounted_from_front}
use Rattle.slub_core.proofs.Turns.{run_keeps}
use Rattle.slub_core.proofs.Counts.{places-cons, homes-cons, roles-cons}

-- ---- a new worker

-- as the law sees it, with no chain and no string in hand
abbrev pub bare : Local → Worker
bare l = record { local = l; chains = []; string = [] }

room-unheld : (m : Setup) (ks : List Known) (f i : ℕ) → All (IsRoom m) ks → sum_by (held_as f i) ks ≡ 0
room-unheld m [] f i all = refl
room-unheld m (k ∷ ks) f i all =
    let a = sum_by-cons (held_as f i) k ks in
    let r = room-unheld m ks f i (All-tail (IsRoom m) k ks all) in
    let h : held_as f i k ≡ 0 = rw (All-head (IsRoom m) k ks all).2 refl in
    omega arith

room-at : (m : Setup) (ks : List Known) (n : ℕ) → 1 ≤ m.objects → All (IsRoom m) ks → IsRoom m (get_or ks n nobody)
room-at m ks n some all = elim (cases_lt n (length ks)) [
  | inl below ↦ all n nobody below
  | inr past ↦ rw (get_or-past ks n past) (some, refl, refl)
]
  where
    get_or-past : (ks : List Known) (n : ℕ) → length ks ≤ n → get_or ks n nobody ≡ nobody
    get_or-past [] n past = refl
    get_or-past (k ∷ ks) zero past = absurd (omega arith)
    get_or-past (k ∷ ks) (suc n) past = get_or-past ks n (omega arith)

new-work : (w : World) (l : Local) → 1 ≤ w.setup.objects → IsNew w.setup l → IsAtWork w (bare l)
new-work w l some new =
    let number : (here l).object < w.setup.objects = (room-at w.setup l.known l.place some new.known).0 in
    let known : All (λ (k : Known). k.held ≡ true → k.cache ≡ cache_at w k.frame) l.known = All-weaker (IsRoom w.setup) (λ (k : Known). k.held ≡ true → k.cache ≡ cache_at w k.frame) (λ k room held. absurd (false≢true (sym room.2 ∙ held))) l.known new.known in
    grind arith

stands-more : (w : World) (l : Local) (xs : List Worker) → 1 ≤ w.setup.objects → IsNew w.setup l → Stands w xs → Stands w (bare l ∷ xs)
stands-more w l xs some new s =
    let x = bare l in
    let y = s.chains in
    let had : (f i : ℕ) → owned f i x ≡ 0 = λ f i. let h = room-unheld w.setup l.known f i new.known in rw new.hands (omega arith) in
    let home : (f : ℕ) → home_of f x ≡ 0 = λ f. rw new.hands refl in
    let marked : (f : ℕ) → marked_of f x ≡ 0 = λ f. rw new.between refl in
    let covered : (g : ℕ) → covered_by g x.local.run ≡ 0 = λ g. rw new.run refl in
    let locks : (n : ℕ) → takes n x ≡ 0 = λ n. rw new.between refl in
    record {
      chains = y;
      placed = record {
        once = λ f i. let a = places-cons w y x xs f i in let was = s.placed.once f i in let h = had f i in omega arith;
        cpu_chain = s.placed.cpu_chain;
        own_chain = s.placed.own_chain;
      };
      listed = record {
        once = λ f real. let a = homes-cons w y x xs f in let was = s.listed.once f real in let h = home f in omega arith;
        marked = λ f. let a = sum_by-cons (marked_of f) x xs in let was = s.listed.marked f in let h = marked f in omega arith;
        framed = λ g. let a = roles-cons w x xs g in let was = s.listed.framed g in let h = covered g in omega arith;
        locked = λ n below. let a = sum_by-cons (takes n) x xs in let was = s.listed.locked n below in let h = locks n in omega arith;
        shaped = s.listed.shaped;
      };
      fresh = record { setup = s.fresh.setup; worded = s.fresh.worded; workers = All-cons (IsAtWork w) x xs (new-work w l some new) s.fresh.workers };
    }

stand-all : (w : World) (ls : List Local) → 1 ≤ w.setup.objects → All (IsNew w.setup) ls → Stands w [] → Stands w (map bare ls)
stand-all w [] some new s = s
stand-all w (l ∷ ls) some new s = stands-more w l (map bare ls) some (All-head (IsNew w.setup) l ls new) (stand-all w ls some (All-tail (IsNew w.setup) l ls new) s)

-- ---- the account of new workers

told-new : (m : Setup) (before : ℕ → Option BoardWord) (p : Public) (l : Local) → 1 ≤ m.objects → IsNew m l → IsTold m before p l
told-new m before p l some new =
    let room : (o : ℕ) → IsRoom m (known_of l.known o) = λ o. room-at m l.known (place_of l.known o) some new.known in
    let free : (o : ℕ) → (known_of l.known o).held ≡ true → ⊥ = λ o has. false≢true (sym (room o).2 ∙ has) in
    record {
      caused = rw new.done tt;
      holds = λ o _. rw new.done (room o).2;
      source = λ f. absurd (false≢true (rw new.between at f));
      address = λ o has. absurd (free o has);
      cache = λ o has. absurd (free o has);
      tells = λ o k. absurd (false≢true (rw new.done at k));
      unknown = λ o real. absurd (let z = (room o).1 in omega arith);
      call = λ kind e. absurd (none-some kind (rw new.between at e));
      fits = new.fits;
      distinct = new.distinct;
      numbers = All-weaker (IsRoom m) (λ (k : Known). k.object < m.objects) (λ k r. r.0) l.known new.known;
    }

written-new : (w : World) (before : ℕ → Option BoardWord) (l : Local) → 1 ≤ w.setup.objects → IsNew w.setup l → HasWritten w before l
written-new w before l some new =
    let free : (o : ℕ) → (known_of l.known o).held ≡ true → ⊥ = λ o has. false≢true (sym (room-at w.setup l.known (place_of l.known o) some new.known).2 ∙ has) in
    record {
      stands = λ o a v _ has. absurd (free o has);
      inside = λ o a v has. absurd (free o has);
      reads = rw new.done new.readable;
      new = λ o asked. absurd (false≢true (rw new.done at asked));
    }

-- sums over new workers
none-sum : (w : World) (f : Local → ℕ) (ls : List Local) → ((l : Local) → IsNew w.setup l → f l ≡ 0) → All (IsNew w.setup) ls → sum_by (λ (x : Worker). f x.local) (map bare ls) ≡ 0
none-sum w f [] none new = refl
none-sum w f (l ∷ ls) none new =
    let a = sum_by-cons (λ (x : Worker). f x.local) (bare l) (map bare ls) in
    let r = none-sum w f ls none (All-tail (IsNew w.setup) l ls new) in
    let z = none l (All-head (IsNew w.setup) l ls new) in
    omega arith

same-sum : (w : World) (f g : Local → ℕ) (ls : List Local) → ((l : Local) → IsNew w.setup l → f l ≡ g l) → All (IsNew w.setup) ls → sum_by (λ (x : Worker). f x.local) (map bare ls) ≡ sum_by g ls
same-sum w f g [] same new = refl
same-sum w f g (l ∷ ls) same new =
    let a = sum_by-cons (λ (x : Worker). f x.local) (bare l) (map bare ls) in
    let b = sum_by-cons g l ls in
    let r = same-sum w f g ls same (All-tail (IsNew w.setup) l ls new) in
    let z = same l (All-head (IsNew w.setup) l ls new) in
    omega arith

all-bare : (P : Worker → Type 0) (w : World) (ls : List Local) → ((l : Local) → IsNew w.setup l → P (bare l)) → All (IsNew w.setup) ls → All P (map bare ls)
all-bare P w [] each new = λ k d below. absurd (omega arith)
all-bare P w (l ∷ ls) each new = All-cons P (bare l) (map bare ls) (each l (All-head (IsNew w.setup) l ls new)) (all-bare P w ls each (All-tail (IsNew w.setup) l ls new))

account-new : (w : World) (ls : List Local) → 1 ≤ w.setup.objects → All (IsNew w.setup) ls → ((o : ℕ) (b : BoardWord) → w.board o ≡ Some b → (1 ≤ o) × (o < w.setup.objects))
    → ((o : ℕ) → boarded (w.board o) + sum_by (λ (l : Local). asked_in o l.todo) ls ≤ 1) → sum_by (λ (l : Local). length l.todo) ls ≤ 2 ^ 32 → ((order : ℕ) → slice_index (pool_of w).dry order ≤ 2 ^ 62) → IsAccounted w w (map bare ls)
account-new w ls some new within once few dry =
    let none : (o : ℕ) → sum_by (λ (x : Worker). given_in o x.local.done) (map bare ls) ≡ 0 = λ o. none-sum w (λ l. given_in o l.done) ls (λ l n. rw n.done refl) new in
    record {
      setup = refl;
      tids = λ n. omega arith;
      within = within;
      stands = λ o. inr refl;
      count = λ o.
          let g = none o in
          let h = none-sum w (had o) ls (λ l n. let r : (known_of l.known o).held ≡ false = (room-at w.setup l.known (place_of l.known o) some n.known).2 in rw (r, n.done) refl) new in
          omega arith;
      once = λ o.
          let g = none o in
          let a = same-sum w (λ l. asked_in o l.todo) (λ l. asked_in o l.todo) ls (λ l n. refl) new in
          let b = once o in
          omega arith;
      few = (let a = same-sum w (λ l. length l.done + length l.todo) (λ l. length l.todo) ls (λ l n. rw n.done (omega arith)) new in omega arith, dry);
      dry = λ order. let d = none-sum w (λ l. dry_in w.setup order l.done) ls (λ l n. rw n.done refl) new in omega arith;
      told = all-bare (λ (x : Worker). IsTold w.setup w.board (public w (map bare ls)) x.local) w ls (λ l n. told-new w.setup w.board (public w (map bare ls)) l some n) new;
      written = all-bare (λ (x : Worker). HasWritten w w.board x.local) w ls (λ l n. written-new w w.board l some n) new;
    }

-- the board of a table has words for the numbers that there are
board-within : (m : Setup) (value : ℕ → LockValue) (words : List ℕ) (o : ℕ) (b : BoardWord) → (world_of m value words).board o ≡ Some b → (1 ≤ o) × (o < m.objects)
unfolding world_of world_from board_words word_in board_in
board-within m value words o b is = elim (cases_eq o 0) [
  | inl z ↦ absurd (none-some b (rw (eq-eqb o 0 z) at is))
  | inr d ↦ elim (cases_lt o m.objects) [
    | inl below ↦ (omega (arith, d), below)
    | inr past ↦ absurd (none-some b (rw (ne_eqb o 0 d, le-ltb o m.objects past) at is))
  ]
]

-- ---- replies that take no step

append-one : (front back : List Worker) (x : Worker) → front ++ x ∷ back ≡ (front ++ x ∷ []) ++ back
append-one front back x = sym (append_assoc front (x ∷ []) back)

-- each worker is given them, one after the other
rest-all : (opening w : World) (front back : List Worker) → Stands w (front ++ back) → IsAccounted opening w (front ++ back)
    → (zs : List Worker) × (map (λ (x : Worker). x.local) zs ≡ map (rested w.setup) (map (λ (x : Worker). x.local) back)) × Stands w (front ++ zs) × IsAccounted opening w (front ++ zs)
rest-all opening w front [] s ac = ([], refl, s, ac)
rest-all opening w front (x ∷ back) s ac =
    let others = front ++ back in
    let come = rests-at opening w others x.local x.local.spot refl ((x, refl, to_front w front back x s), (x, refl, accounted_to_front opening w front back x ac)) in
    let z = joined opening w others (rested w.setup x.local) come in
    let next = rest-all opening w (front ++ z.0 ∷ []) back
    (subst (Stands w) (append-one front back z.0) (from_front w front back z.0 z.2))
    (subst (IsAccounted opening w) (append-one front back z.0) (accounted_from_front opening w front back z.0 z.3)) in (
      z.0 ∷ next.0,
      (λ i. z.1 i ∷ next.1 i),
      subst (Stands w) (sym (append-one front next.0 z.0)) next.2,
      subst (IsAccounted opening w) (sym (append-one front next.0 z.0)) next.3,
    )

locals-bare : (ls : List Local) → map (λ (x : Worker). x.local) (map bare ls) ≡ ls
locals-bare [] = refl
locals-bare (l ∷ ls) = ap (λ ls. l ∷ ls) (locals-bare ls)

pub opens : (m : Setup) (s : System) → IsOpening m s → IsCoherentSystem m (world_of m s.value s.words) (opened m s)
unfolding world_of world_from
opens m s new =
    let w = world_of m s.value s.words in
    let ls = s.locals in
    let stands = stand-all w ls new.objects new.new new.rest in
    let accounted = account-new w ls new.objects new.new (board-within m s.value s.words) new.once new.few new.dry in
    let r = rest-all w w [] (map bare ls) stands accounted in
    record {
      words = new.words;
      workers = r.0;
      locals = r.1 ∙ ap (map (rested m)) (locals-bare ls);
      chains = r.2.chains;
      coherent = record { placed = r.2.placed; listed = r.2.listed; fresh = r.2.fresh; accounted = r.3 };
      rested = All-map (IsRested m) (rested m) ls (λ k d below. let l = get_or ls k d in is_rested m l l.spot refl);
    }

pub rounds_keep : RoundsKeepAll
rounds_keep m s picks new = run_keeps m (world_of m s.value s.words) (opened m s) picks (opens m s new)
