-- Once every call has its reply, the replies and the board are those of a round.
use Rattle.std.proofs.Common.{◌≡◌, ℕ, ◌+◌, List, [], ◌∷◌, map, refl, sym, ap, ◌∙◌, subst, arith}
use Rattle.std.specs.Prelude.{All, sum_by, slice_index}
use Rattle.std.proofs.lemmas.Bool.{false≢true}
use Rattle.std.proofs.lemmas.List.Sums.{sum_by-cons}
use Rattle.std.proofs.lemmas.List.Elements.{All-map, All-cons, All-head, All-tail, All-weaker}
use Rattle.slub_core.specs.declared.call.Call.{Call}
use Rattle.slub_core.specs.declared.local.Answered.{Answered}
use Rattle.slub_core.specs.Setup.{Setup}
use Rattle.slub_core.specs.World.{World, world_from, world_of, pool_of, one_if}
use Rattle.slub_core.specs.Local.{Local, Worker}
use Rattle.slub_core.specs.Steps.{rested}
use Rattle.slub_core.specs.Run.{run, IsFinished}
use Rattle.slub_core.specs.Replies.{given_in, freed_in, dry_in, holding, Later, Caused}
use Rattle.slub_core.specs.Accounted.{had, public, known_of, IsTold, IsAccounted}
use Rattle.slub_core.specs.Opening.{IsNew, opened}
use Rattle.slub_core.specs.Round.{in_order, freed_over, held_over, outcome, IsRoundOnWords}
use Rattle.slub_core.specs.Law.{RoundsEnd}
use Rattle.slub_core.proofs.TaleStep.{caused-later}
use Rattle.slub_core.proofs.CallsStay.{script, rested_at-script}
use Rattle.slub_core.proofs.Opens.{opens}
use Rattle.slub_core.proofs.Turns.{run_both}

-- ---- sums over workers, by what they were answered

abbrev dones_of : List Worker → List (List Answered)
dones_of xs = map (λ (x : Worker). x.local.done) xs

sum-over : (f : List Answered → ℕ) (xs : List Worker) → sum_by f (dones_of xs) ≡ sum_by (λ (x : Worker). f x.local.done) xs
sum-over f [] = refl
sum-over f (x ∷ xs) =
    let a = sum_by-cons f x.local.done (dones_of xs) in
    let b = sum_by-cons (λ (x : Worker). f x.local.done) x xs in
    let r = sum-over f xs in
    omega arith

-- a worker whose calls all have replies holds what they say
held-sum : (m : Setup) (opening w : World) (o : ℕ) (all xs : List Worker) → All (λ (x : Worker). IsFinished x.local) xs → All (λ (x : Worker). IsTold m opening.board (public w all) x.local) xs
    → sum_by (λ (x : Worker). had o x.local) xs ≡ held_over o (dones_of xs) + freed_over o (dones_of xs)
held-sum m opening w o all [] ends told = refl
held-sum m opening w o all (x ∷ xs) ends told =
    let e = All-head (λ (x : Worker). IsFinished x.local) x xs ends in
    let t = All-head (λ (x : Worker). IsTold m opening.board (public w all) x.local) x xs told in
    let held : one_if (known_of x.local.known o).held ≡ one_if (holding x.local.done o) = ap one_if (t.holds o (λ f. absurd (false≢true (rw e.between at f)))) in
    let a = sum_by-cons (λ (x : Worker). had o x.local) x xs in
    let b = sum_by-cons (λ (ds : List Answered). one_if (holding ds o)) x.local.done (dones_of xs) in
    let c = sum_by-cons (freed_in o) x.local.done (dones_of xs) in
    let r = held-sum m opening w o all xs (All-tail (λ (x : Worker). IsFinished x.local) x xs ends) (All-tail (λ (x : Worker). IsTold m opening.board (public w all) x.local) x xs told) in
    omega arith

-- ---- calls and replies

finished-scripts : (ls : List Local) → All IsFinished ls → map (λ (ds : List Answered). in_order ds []) (map (λ (l : Local). l.done) ls) ≡ map script ls
finished-scripts [] ends = refl
finished-scripts (l ∷ ls) ends =
    let e = All-head IsFinished l ls ends in
    let first : in_order l.done [] ≡ script l = ap (in_order l.done) (sym e.none) in
    let rest = finished-scripts ls (All-tail IsFinished l ls ends) in
    λ i. first i ∷ rest i

new-scripts : (m : Setup) (ls : List Local) → All (IsNew m) ls → map script (map (rested m) ls) ≡ map (λ (l : Local). l.todo) ls
new-scripts m [] new = refl
new-scripts m (l ∷ ls) new =
    let n = All-head (IsNew m) l ls new in
    let first : script (rested m l) ≡ l.todo = rested_at-script m l l.spot ∙ ap (λ ds. in_order ds l.todo) n.done in
    let rest = new-scripts m ls (All-tail (IsNew m) l ls new) in
    λ i. first i ∷ rest i

-- ---- the round

dones-same : (xs : List Worker) → map (λ (l : Local). l.done) (map (λ (x : Worker). x.local) xs) ≡ dones_of xs
dones-same [] = refl
dones-same (x ∷ xs) = ap (λ ds. x.local.done ∷ ds) (dones-same xs)

all-local : (P : Local → Type 0) (xs : List Worker) → All P (map (λ (x : Worker). x.local) xs) → All (λ (x : Worker). P x.local) xs
all-local P [] all = λ k d below. absurd (omega arith)
all-local P (x ∷ xs) all = All-cons (λ (x : Worker). P x.local) x xs (All-head P x.local (map (λ (x : Worker). x.local) xs) all) (all-local P xs (All-tail P x.local (map (λ (x : Worker). x.local) xs) all))

round-of : (m : Setup) (opening w : World) (calls : List (List Call)) (xs : List Worker) → opening.setup ≡ m → map (λ (ds : List Answered). in_order ds []) (dones_of xs) ≡ calls → All (λ (x : Worker). IsFinished x.local) xs → IsAccounted opening w xs
    → IsRoundOnWords m opening w calls (dones_of xs)
round-of m opening w calls xs setup replies ends ac =
    let same : w.setup ≡ m = ac.setup ∙ setup in
    let told = subst (λ m. All (λ (x : Worker). IsTold m opening.board (public w xs) x.local) xs) same ac.told in
    let later : Later (public w xs) (outcome w (dones_of xs)) = record {
      boarded = λ o. omega arith;
      freed = λ o. let e = sum-over (freed_in o) xs in omega arith;
      tid = λ n. omega arith;
    } in
    record {
      replies = replies;
      causes = All-map (Caused m opening.board (outcome w (dones_of xs))) (λ (x : Worker). x.local.done) xs
          (All-weaker (λ (x : Worker). IsTold m opening.board (public w xs) x.local) (λ (x : Worker). Caused m opening.board (outcome w (dones_of xs)) x.local.done)
          (λ x t. caused-later m opening.board (public w xs) (outcome w (dones_of xs)) x.local.done later t.caused) xs told);
      board = ac.stands;
      count = λ o.
          let c = ac.count o in
          let h = held-sum m opening w o xs xs ends told in
          let g = sum-over (given_in o) xs in
          omega arith;
      once = λ o. let c = ac.once o in let g = sum-over (given_in o) xs in omega arith;
      tids = ac.tids;
      dry = λ order. let d = subst (λ m. slice_index (pool_of w).dry order ≡ slice_index (pool_of opening).dry order + sum_by (λ (x : Worker). dry_in m order x.local.done) xs) same (ac.dry order) in
          let e = sum-over (dry_in m order) xs in
          omega arith;
    }

pub rounds_end : RoundsEnd
unfolding world_of world_from
rounds_end m s picks new ends =
    let opening = world_of m s.value s.words in
    let end = run m (opened m s) picks in
    let r = run_both m opening (opened m s) picks (opens m s new) in
    let is = r.0 in
    let calls = finished-scripts end.locals ends ∙ r.1 ∙ new-scripts m s.locals new.new in
    let dones : dones_of is.workers ≡ map (λ (l : Local). l.done) end.locals = sym (dones-same is.workers) ∙ ap (map (λ (l : Local). l.done)) is.locals in
    let w = world_of m end.value end.words in
    subst (IsRoundOnWords m opening w (map (λ (l : Local). l.todo) s.locals)) dones
    (round-of m opening w (map (λ (l : Local). l.todo) s.locals) is.workers refl (ap (map (λ (ds : List Answered). in_order ds [])) dones ∙ calls)
    (all-local IsFinished is.workers (subst (All IsFinished) (sym is.locals) ends)) is.coherent.accounted)
