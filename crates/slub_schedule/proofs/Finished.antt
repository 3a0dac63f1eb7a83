-- Where each worker is finished: nothing is under way, and the replies are lawful.
use Rattle.std.proofs.Common.{◌≡◌, ℕ, ◌+◌, ◌≤◌, Bool, true, false, ◌&&◌, List, [], ◌∷◌, length, get_or, map, sum_by, All, None, ◌==◌, refl, sym, ap, ◌∙◌, subst, arith, inl, inr, ◌⊎◌}
use Rattle.std.proofs.Common.{eqb-true}
use Rattle.std.proofs.lemmas.Bool.{cases_Bool, false≢true}
use Rattle.std.proofs.lemmas.List.Elements.{All-nil, All-cons, All-head, All-tail, All-weaker}
use Rattle.std.proofs.lemmas.List.Sums.{sum_by-cons}
use Rattle.slub_common.proofs.Sums.{sum_by-map}
use Rattle.slub_trace.specs.declared.reply.Reply.{Reply}
use Rattle.slub_trace.specs.declared.reply.Reply.TheVariants as reply
use Rattle.slub_core.specs.declared.spot.Spot.TheVariants.{Between}
use Rattle.slub_core.specs.declared.local.Answered.{Answered}
use Rattle.slub_core.specs.Calls.{call_object}
use Rattle.slub_core.specs.Setup.{Setup}
use Rattle.slub_core.specs.World.{World, world_from, world_of, one_if}
use Rattle.slub_core.specs.Local.{Local, Worker}
use Rattle.slub_core.specs.Run.{System, IsFinished}
use Rattle.slub_core.specs.Spots.{roles, may_string, has_run, frees, is_freeing}
use Rattle.slub_core.specs.Fresh.{IsAtWork, AreHands, IsStringOf}
use Rattle.slub_core.specs.Listed.{takes}
use Rattle.slub_core.specs.Coherent.{IsCoherent}
use Rattle.slub_core.specs.Replies.{given_in, freed_in, holding, knows, holds_after, knows_after, is_freed, Public}
use Rattle.slub_core.specs.Accounted.{boarded, known_of, had, public, IsTold, HasWritten, IsAccounted}
use Rattle.slub_core.specs.Law.{IsCoherentSystem}
use Rattle.slub_core.proofs.StepHands.{no-hands}
use Rattle.slub_schedule.specs.Rounds.{IsFinishedSystem}
use Rattle.slub_schedule.specs.Finished.{empty_handed, IsQuiet, HoldsAsTold, knowers, AreHolders}

-- ---- a worker between two calls has nothing in hand

pub record HasNothing (x : Worker) : Type 0 where
  pub hands : x.local.hands ≡ []
  pub string : x.local.string ≡ None
  pub run : x.local.run ≡ None
  pub bare : x ≡ empty_handed x.local

has_nothing : (w : World) (x : Worker) → IsAtWork w x → x.local.spot ≡ Between → HasNothing x
has_nothing w x at is =
    let s = at.spot in
    let none = no-hands x.local.hands x.chains (subst (λ spot. AreHands (roles spot (length x.local.hands)) x.local.hands x.chains) is s.hands) in
    let no_string : x.local.string ≡ None = s.no_string (ap may_string is) in
    let frames : x.string ≡ [] = subst (λ string. IsStringOf string x.string) no_string s.string in
    record {
      hands = none.0;
      string = no_string;
      run = s.no_run (ap has_run is);
      bare = λ i. record { local = x.local; chains = none.1 i; string = frames i };
    }

all_nothing : (w : World) (xs : List Worker) → All (IsAtWork w) xs → All IsFinished (map (λ (x : Worker). x.local) xs) → All HasNothing xs
all_nothing w [] at done = All-nil HasNothing
all_nothing w (x ∷ xs) at done =
    let ls = map (λ (x : Worker). x.local) xs in
    All-cons HasNothing x xs (has_nothing w x (All-head (IsAtWork w) x xs at) (All-head IsFinished x.local ls done).between) (all_nothing w xs (All-tail (IsAtWork w) x xs at) (All-tail IsFinished x.local ls done))

all_bare : (xs : List Worker) → All HasNothing xs → xs ≡ map empty_handed (map (λ (x : Worker). x.local) xs)
all_bare [] none = refl
all_bare (x ∷ xs) none =
    let e = (All-head HasNothing x xs none).bare in
    let r = all_bare xs (All-tail HasNothing x xs none) in
    λ i. e i ∷ r i

-- ---- no lock is taken

takes_none : (n : ℕ) (l : Local) → l.spot ≡ Between → takes n (empty_handed l) ≡ 0
takes_none n l is = rw is refl

none-takes : (n : ℕ) (ls : List Local) → All IsFinished ls → sum_by (takes n) (map empty_handed ls) ≡ 0
none-takes n [] done = refl
none-takes n (l ∷ ls) done =
    let e = takes_none n l (All-head IsFinished l ls done).between in
    let r = none-takes n ls (All-tail IsFinished l ls done) in
    omega (arith, sum_by-cons (takes n) (empty_handed l) (map empty_handed ls))

is_zero : (n : ℕ) → one_if (n == 0) ≡ 1 → n ≡ 0
is_zero n is = elim (cases_Bool (n == 0)) [
  | inl is_so ↦ eqb-true n 0 is_so
  | inr not_so ↦ absurd (let none : ◌≡◌ {A = ℕ} 0 1 = rw not_so at is in omega arith)
]

-- ---- sums and facts over workers with empty hands

sum-workers : (f : Local → ℕ) (ls : List Local) → sum_by (λ (x : Worker). f x.local) (map empty_handed ls) ≡ sum_by f ls
sum-workers f ls = sum_by-map (λ (x : Worker). f x.local) empty_handed ls

pub all_workers : (P : Local → Type 0) (ls : List Local) → All (λ (x : Worker). P x.local) (map empty_handed ls) → All P ls
all_workers P [] all = All-nil P
all_workers P (l ∷ ls) all =
    All-cons P l ls (All-head (λ (x : Worker). P x.local) (empty_handed l) (map empty_handed ls) all) (all_workers P ls (All-tail (λ (x : Worker). P x.local) (empty_handed l) (map empty_handed ls) all))

-- ---- counts

-- over all workers: how often the number was given, how often it was freed, and how many hold it by their replies
abbrev pub given_all : ℕ → List Local → ℕ
given_all o ls = sum_by (λ (l : Local). given_in o l.done) ls

abbrev pub freed_all : ℕ → List Local → ℕ
freed_all o ls = sum_by (λ (l : Local). freed_in o l.done) ls

abbrev pub holders : ℕ → List Local → ℕ
holders o ls = sum_by (λ (l : Local). one_if (holding l.done o)) ls

-- by its replies a worker holds what it knows as held
abbrev Holds : Local → Type 0
Holds l = (o : ℕ) → (known_of l.known o).held ≡ holding l.done o

had-over : (o : ℕ) (ls : List Local) → All Holds ls → sum_by (had o) ls ≡ holders o ls + freed_all o ls
had-over o [] holds = refl
had-over o (l ∷ ls) holds =
    let e = All-head Holds l ls holds o in
    let h : had o l ≡ one_if (holding l.done o) + freed_in o l.done = ap (λ b. one_if b + freed_in o l.done) e in
    let r = had-over o ls (All-tail Holds l ls holds) in
    omega (
      arith,
      sum_by-cons (had o) l ls,
      sum_by-cons (λ (l : Local). one_if (holding l.done o)) l ls,
      sum_by-cons (λ (l : Local). freed_in o l.done) l ls,
    )

-- what a worker was given, freed or found damaged it holds or freed
after_reply : (r : Reply) (k h : Bool) (f : ℕ) → one_if k ≤ one_if h + f → one_if (knows_after r k) ≤ one_if (holds_after r h) + (one_if (is_freed r && true) + f)
after_reply (reply.Given a) k h f le = omega arith
after_reply (reply.Freed a) k h f le = omega arith
after_reply (reply.Corrupt d) k h f le = omega arith
after_reply _ k h f le = omega arith

other_reply : (b : Bool) (k h : Bool) (f : ℕ) → one_if k ≤ one_if h + f → one_if k ≤ one_if h + (one_if (b && false) + f)
other_reply true k h f le = omega arith
other_reply false k h f le = omega arith

knows-holds : (o : ℕ) (ds : List Answered) → one_if (knows ds o) ≤ one_if (holding ds o) + freed_in o ds
knows-holds o [] = omega arith
knows-holds o (d ∷ ds) = elim (cases_Bool (call_object d.call == o)) [
  | inl is_so ↦ rw is_so (after_reply d.reply (knows ds o) (holding ds o) (freed_in o ds) (knows-holds o ds))
  | inr not_so ↦ rw not_so (other_reply (is_freed d.reply) (knows ds o) (holding ds o) (freed_in o ds) (knows-holds o ds))
]

knowers-few : (o : ℕ) (ls : List Local) → knowers o ls ≤ holders o ls + freed_all o ls
knowers-few o [] = omega arith
knowers-few o (l ∷ ls) =
    let e = knows-holds o l.done in
    let r = knowers-few o ls in
    omega (
      arith,
      sum_by-cons (λ (l : Local). one_if (knows l.done o)) l ls,
      sum_by-cons (λ (l : Local). one_if (holding l.done o)) l ls,
      sum_by-cons (λ (l : Local). freed_in o l.done) l ls,
    )

-- ---- the round

pub record Counted (before w : World) (ls : List Local) : Type 0 where
  pub kept : AreHolders before w ls
  pub given_once : (o : ℕ) → boarded (before.board o) + given_all o ls ≤ 1
  pub stays : (o : ℕ) → (w.board o ≡ None) ⊎ (w.board o ≡ before.board o)
  pub count : (o : ℕ) → boarded (w.board o) + holders o ls + freed_all o ls ≡ boarded (before.board o) + given_all o ls

holds_as_told : (opening w : World) (p : Public) (l : Local) → l.spot ≡ Between → IsTold w.setup opening.board p l → HasWritten w opening.board l → HoldsAsTold opening.board w l
holds_as_told opening w p l is told written =
    let held : (o : ℕ) → (known_of l.known o).held ≡ holding l.done o = λ o. told.holds o (λ freeing at. false≢true (ap is_freeing (sym is) ∙ freeing)) in
    record {
      held = held;
      address = λ o holds. told.address o (held o ∙ holds);
      cache = λ o holds. told.cache o (held o ∙ holds);
      words = λ o word value holds plain wrote. written.stands o word value (λ freeing at. false≢true (ap frees (sym is) ∙ freeing)) (held o ∙ holds) plain wrote;
    }

counted : (opening w : World) (ls : List Local) → IsAccounted opening w (map empty_handed ls) → All IsFinished ls → Counted opening w ls
counted opening w ls ac done =
    let xs = map empty_handed ls in
    let p = public w xs in
    let told = all_workers (IsTold w.setup opening.board p) ls ac.told in
    let written = all_workers (HasWritten w opening.board) ls ac.written in
    let holds : All (HoldsAsTold opening.board w) ls = λ k d below. holds_as_told opening w p (get_or ls k d) (done k d below).between (told k d below) (written k d below) in
    let held = All-weaker (HoldsAsTold opening.board w) Holds (λ l h. h.held) ls holds in
    let count : (o : ℕ) → boarded (w.board o) + holders o ls + freed_all o ls ≡ boarded (opening.board o) + given_all o ls = λ o.
    let c = ac.count o in
    let a : sum_by (λ (x : Worker). had o x.local) xs ≡ sum_by (had o) ls = sum-workers (had o) ls in
    let b : sum_by (λ (x : Worker). given_in o x.local.done) xs ≡ given_all o ls = sum-workers (λ (l : Local). given_in o l.done) ls in
    let h = had-over o ls held in
    omega arith in
    let once : (o : ℕ) → boarded (opening.board o) + given_all o ls ≤ 1 = λ o.
    let c = ac.once o in
    let b : sum_by (λ (x : Worker). given_in o x.local.done) xs ≡ given_all o ls = sum-workers (λ (l : Local). given_in o l.done) ls in
    omega arith in
    record {
      kept = record { holds = holds; one_worker = λ o. let a = count o in let b = once o in let c = knowers-few o ls in omega arith };
      given_once = once;
      stays = ac.stands;
      count = count;
    }

-- ---- the whole

-- a system of which each worker is finished
pub finished_well : (m : Setup) (opening : World) (s : System) → IsCoherentSystem m opening s → IsFinishedSystem s → IsQuiet m opening s × Counted opening (world_of m s.value s.words) s.locals
unfolding world_of world_from
finished_well m opening s is done =
    let w = world_of m s.value s.words in
    let ls = s.locals in
    let locals = is.locals in
    let none = all_nothing w is.workers is.coherent.fresh.workers (subst (All IsFinished) (sym locals) done) in
    let bare : is.workers ≡ map empty_handed ls = all_bare is.workers none ∙ ap (map empty_handed) locals in
    let coherent : IsCoherent opening w is.chains (map empty_handed ls) = subst (IsCoherent opening w is.chains) bare is.coherent in
    let nothing : All HasNothing (map empty_handed ls) = subst (All HasNothing) bare none in (
      record {
        locks = λ n below. let e = none-takes n ls done in let c = coherent.listed.locked n below in is_zero (w.lock n) (omega arith);
        hands = all_workers (λ (l : Local). l.hands ≡ []) ls (All-weaker HasNothing (λ (x : Worker). x.local.hands ≡ []) (λ x h. h.hands) (map empty_handed ls) nothing);
        string = all_workers (λ (l : Local). l.string ≡ None) ls (All-weaker HasNothing (λ (x : Worker). x.local.string ≡ None) (λ x h. h.string) (map empty_handed ls) nothing);
        run = all_workers (λ (l : Local). l.run ≡ None) ls (All-weaker HasNothing (λ (x : Worker). x.local.run ≡ None) (λ x h. h.run) (map empty_handed ls) nothing);
        chains = is.chains;
        coherent = coherent;
      },
      counted opening w ls coherent.accounted done,
    )
