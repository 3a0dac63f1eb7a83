-- The picks that a seed draws: each is of an unfinished worker, and they come to one end.
use Rattle.std.specs.Prelude.{slice_index}
use Rattle.std.proofs.Common.{◌≡◌, ℕ, zero, suc, ◌%◌, ◌<◌, ◌≤◌, Bool, true, false, List, [], ◌∷◌, length, get_or, All, refl, sym, ap, ◌∙◌, subst, arith, inl, inr, ◌⊎◌}
use Rattle.std.proofs.lemmas.Bool.{cases_Bool, cases_lt, false≢true}
use Rattle.std.proofs.Math.Nat.{mod-lt}
use Rattle.std.proofs.lemmas.List.Elements.{All-nil, All-cons, All-head, All-tail}
use Rattle.slub_core.specs.declared.call.Call.{Call}
use Rattle.slub_core.specs.declared.spot.Spot.{Spot}
use Rattle.slub_core.specs.declared.spot.Spot.TheVariants.{Between}
use Rattle.slub_core.specs.Setup.{Setup}
use Rattle.slub_core.specs.Local.{Local}
use Rattle.slub_core.specs.Run.{System, Pick, idle, turn, run, IsFinished}
use Rattle.slub_schedule.specs.Draws.{next, number_from}
use Rattle.slub_schedule.specs.Schedule.{is_between, has_none, is_finished, marks_of, places_from, unfinished, chosen, AreDrawn, AreRefusedAlike, AreRefusedBy}
use Rattle.slub_schedule.specs.Turns.{turns_of}
use Rattle.slub_schedule.specs.Rounds.{IsFinishedSystem, EndsRound, IsSpent}
use Rattle.slub_schedule.specs.Laws.{PicksAreUnfinished, RoundsAreUnique, RoundsEndOrAreSpent}
use Rattle.slub_schedule.proofs.Marked.{places_marked}

-- ---- finished workers

between_spot : (s : Spot) → is_between s ≡ true → s ≡ Between
between_spot Between is = refl
between_spot _ is = absurd (false≢true is)

no_calls : (calls : List Call) → has_none calls ≡ true → calls ≡ []
no_calls [] is = refl
no_calls (call ∷ calls) is = absurd (false≢true is)

finished_test : (l : Local) → IsFinished l → is_finished l ≡ true
finished_test l is = rw (is.between, is.none) refl

test_finished : (l : Local) → is_finished l ≡ true → IsFinished l
test_finished l is = elim (cases_Bool (is_between l.spot)) [
  | inl is_so ↦ record { between = between_spot l.spot is_so; none = no_calls l.todo (rw is_so at is) }
  | inr not_so ↦ absurd (false≢true (rw not_so at is))
]

-- ---- machines in which each worker is finished

none-unfinished : (n : ℕ) (ls : List Local) → All IsFinished ls → places_from n (marks_of ls) ≡ []
none-unfinished n [] all = refl
none-unfinished n (l ∷ ls) all = rw (finished_test l (All-head IsFinished l ls all)) (none-unfinished (suc n) ls (All-tail IsFinished l ls all))

pub all_finished : (n : ℕ) (ls : List Local) → length (places_from n (marks_of ls)) ≡ 0 → All IsFinished ls
all_finished n [] none = All-nil IsFinished
all_finished n (l ∷ ls) none = elim (cases_Bool (is_finished l)) [
  | inl is_so ↦ All-cons IsFinished l ls (test_finished l is_so) (all_finished (suc n) ls (rw is_so at none))
  | inr not_so ↦ absurd (let some : suc (length (places_from (suc n) (marks_of ls))) ≡ 0 = rw not_so at none in omega arith)
]

some_unfinished : (s : System) → IsFinishedSystem s → 1 ≤ length (unfinished s) → ⊥
some_unfinished s all some = let e = ap (λ (ns : List ℕ). length ns) (none-unfinished 0 s.locals all) in omega arith

-- ---- one run

same_picks : (p q : Pick) → p.worker ≡ q.worker → p.refused ≡ q.refused → p.tries ≡ q.tries → p ≡ q
same_picks p q worker refused tries = λ i. record { worker = worker i; refused = refused i; tries = tries i }

alike : (m : Setup) (s : System) (x : ℕ) (ps qs : List Pick) → AreDrawn m s x ps → AreDrawn m s x qs → AreRefusedAlike ps qs → (length ps < length qs → IsFinishedSystem (run m s ps)) → (length qs < length ps → IsFinishedSystem (run m s qs)) → ps ≡ qs
alike m s x [] [] one other same f g = refl
alike m s x [] (q ∷ qs) one other same f g = absurd (some_unfinished s (f (omega arith)) other.0)
alike m s x (p ∷ ps) [] one other same f g = absurd (some_unfinished s (g (omega arith)) one.0)
alike m s x (p ∷ ps) (q ∷ qs) one other same f g =
    let e : p ≡ q = same_picks p q (one.1 ∙ sym other.1) same.0 (one.2 ∙ sym other.2) in
    let r = alike m (turn m s p) (next x) ps qs one.3 (subst (λ (p : Pick). AreDrawn m (turn m s p) (next x) qs) (sym e) other.3) same.1
    (λ fewer. f (omega arith)) (λ fewer. subst (λ (p : Pick). IsFinishedSystem (run m (turn m s p) qs)) (sym e) (g (omega arith))) in
    λ i. e i ∷ r i

ended_ended : (m : Setup) (seed : ℕ) (first : System) (ps qs : List Pick) (one other : System) → AreRefusedAlike ps qs → EndsRound m seed first ps one → EndsRound m seed first qs other → (ps ≡ qs) × (one ≡ other)
ended_ended m seed first ps qs one other same a b =
    let e = alike m first seed ps qs a.drawn b.drawn same (λ fewer. subst IsFinishedSystem a.run a.finished) (λ fewer. subst IsFinishedSystem b.run b.finished) in
    (e, a.run ∙ ap (run m first) e ∙ sym b.run)

spent_spent : (m : Setup) (seed : ℕ) (first : System) (ps qs : List Pick) (one other : System) → AreRefusedAlike ps qs → IsSpent m seed first ps one → IsSpent m seed first qs other → (ps ≡ qs) × (one ≡ other)
spent_spent m seed first ps qs one other same a b =
    let c = a.all in
    let d = b.all in
    let e = alike m first seed ps qs a.drawn b.drawn same (λ fewer. absurd (omega arith)) (λ fewer. absurd (omega arith)) in
    (e, a.run ∙ ap (run m first) e ∙ sym b.run)

ended_spent : (m : Setup) (seed : ℕ) (first : System) (ps qs : List Pick) (one other : System) → AreRefusedAlike ps qs → EndsRound m seed first ps one → IsSpent m seed first qs other → ⊥
ended_spent m seed first ps qs one other same a b =
    let c = a.within in
    let d = b.all in
    let e = alike m first seed ps qs a.drawn b.drawn same (λ fewer. subst IsFinishedSystem a.run a.finished) (λ fewer. absurd (omega arith)) in
    some_unfinished other (subst IsFinishedSystem (a.run ∙ ap (run m first) e ∙ sym b.run) a.finished) b.unfinished

pub rounds_unique : RoundsAreUnique
rounds_unique m seed first ps qs one other same = (ended_ended m seed first ps qs one other same, spent_spent m seed first ps qs one other same, ended_spent m seed first ps qs one other same)

-- ---- some run

-- of n turns and no more, turn k the first of them
abbrev Made : (ℕ → Bool) → Setup → ℕ → ℕ → System → ℕ → Type 0
Made refused m n k s x =
    (picks : List Pick) × (last : System) × AreDrawn m s x picks × (last ≡ run m s picks) × AreRefusedBy refused k picks
    × (((length picks ≤ n) × IsFinishedSystem last) ⊎ ((length picks ≡ n) × (1 ≤ length (unfinished last))))

make : (refused : ℕ → Bool) (m : Setup) (n k : ℕ) (s : System) (x : ℕ) → Made refused m n k s x
make refused m zero k s x = elim (cases_lt 0 (length (unfinished s))) [
  | inl some ↦ ([], s, tt, refl, tt, inr (refl, some))
  | inr none ↦ ([], s, tt, refl, tt, inl (omega arith, all_finished 0 s.locals (omega arith)))
]
make refused m (suc n) k s x = elim (cases_lt 0 (length (unfinished s))) [
  | inl some ↦ (
      let pick : Pick = record { worker = chosen s (number_from x); refused = refused k; tries = false } in
      let r = make refused m n (suc k) (turn m s pick) (next x) in
      let more : ((length r.0 ≤ n) × IsFinishedSystem r.1) ⊎ ((length r.0 ≡ n) × (1 ≤ length (unfinished r.1))) = r.5 in
      (pick ∷ r.0, r.1, (some, refl, refl, r.2), r.3, (refl, r.4), elim more [ inl f ↦ inl (omega (arith, f.0), f.1) | inr u ↦ inr (omega (arith, u.0), u.1) ])
      )
  | inr none ↦ ([], s, tt, refl, tt, inl (omega arith, all_finished 0 s.locals (omega arith)))
]

pub rounds_end : RoundsEndOrAreSpent
rounds_end m seed first refused =
    let r = make refused m (turns_of first) 0 first seed in
    let end : ((length r.0 ≤ turns_of first) × IsFinishedSystem r.1) ⊎ ((length r.0 ≡ turns_of first) × (1 ≤ length (unfinished r.1))) = r.5 in (
      r.0,
      r.1,
      r.4,
      elim end [
        | inl f ↦ inl (record { drawn = r.2; run = r.3; within = f.0; finished = f.1 })
        | inr u ↦ inr (record { drawn = r.2; run = r.3; all = u.0; unfinished = u.1 })
      ],
    )

-- ---- whose turn

get_or-marks : (ls : List Local) (k : ℕ) → get_or (marks_of ls) k false ≡ true → (k < length ls) × (is_finished (get_or ls k idle) ≡ false)
get_or-marks [] k is = absurd (false≢true is)
get_or-marks (l ∷ ls) zero is = (omega arith, elim (cases_Bool (is_finished l)) [ inl is_so ↦ absurd (false≢true (rw is_so at is)) | inr not_so ↦ not_so ])
get_or-marks (l ∷ ls) (suc k) is = let r = get_or-marks ls k is in (omega (arith, r.0), r.1)

pub place_unfinished : (s : System) (place : ℕ) → place < length (unfinished s) → let k = slice_index (unfinished s) place in (k < length s.locals) × (is_finished (get_or s.locals k idle) ≡ false)
place_unfinished s place inside =
    let r = places_marked 0 (marks_of s.locals) place inside in
    let is : slice_index (unfinished s) place ≡ r.0 = r.1 ∙ omega arith in
    subst (λ (k : ℕ). (k < length s.locals) × (is_finished (get_or s.locals k idle) ≡ false)) (sym is) (get_or-marks s.locals r.0 r.3)

chosen_unfinished : (s : System) (number : ℕ) → 1 ≤ length (unfinished s) → (chosen s number < length s.locals) × (is_finished (get_or s.locals (chosen s number) idle) ≡ false)
chosen_unfinished s number some = place_unfinished s (number % length (unfinished s)) (mod-lt number some)

pub picks_unfinished : PicksAreUnfinished
picks_unfinished m s x pick picks drawn =
    subst (λ (k : ℕ). (k < length s.locals) × (is_finished (get_or s.locals k idle) ≡ false)) (sym drawn.1) (chosen_unfinished s (number_from x) drawn.0)
