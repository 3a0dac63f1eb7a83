-- The turns that were made.
use Rattle.std.proofs.Common.{◌≡◌, ℕ, ◌+◌, ◌<◌, List, [], ◌∷◌, ◌++◌, sym, ap, ◌∙◌, subst, arith, inl, inr, append_assoc, append-nil, replicate}
use Rattle.std.proofs.lemmas.Grind.{flat_map-append, replicate_next}
use Rattle.slub_picks.specs.declared.made.Made.{Made}
use Rattle.slub_picks.specs.declared.made.Run.{Run}
use Rattle.slub_picks.specs.Made.{AreShort, Differ, Fits, IsMade, turns_of}

abbrev pub run_of : ℕ → ℕ → Run
run_of worker count = record { worker = worker; count = count }

turns_more : (runs : List Run) (run : Run) → turns_of (runs ++ run ∷ []) ≡ turns_of runs ++ replicate run.count run.worker
turns_more runs run = flat_map-append (λ (r : Run). replicate r.count r.worker) runs (run ∷ []) ∙ ap (λ (ts : List ℕ). turns_of runs ++ ts) (append-nil (replicate run.count run.worker))

differ_same : (one run other : Run) → Differ one run → run.worker ≡ other.worker → Differ one other
differ_same one run other (inl differs) same = inl (λ is. differs (is ∙ sym same))
differ_same one run other (inr full) same = inr full

short_same : (before : List Run) (run other : Run) → AreShort (before ++ run ∷ []) → run.worker ≡ other.worker → Fits other → AreShort (before ++ other ∷ [])
short_same [] run other short same some = some
short_same (a ∷ []) run other short same some = (short.0, differ_same a run other short.1 same, some)
short_same (a ∷ b ∷ before) run other short same some = (short.0, short.1, short_same (b ∷ before) run other short.2 same some)

short_next : (before : List Run) (run other : Run) → AreShort (before ++ run ∷ []) → Differ run other → Fits other → AreShort ((before ++ run ∷ []) ++ other ∷ [])
short_next [] run other short differ some = (short, differ, some)
short_next (a ∷ []) run other short differ some = (short.0, short.1, (short.2, differ, some))
short_next (a ∷ b ∷ before) run other short differ some = (short.0, short.1, short_next (b ∷ before) run other short.2 differ some)

-- the last run has one turn more
pub made_longer : (old new : Made) (before : List Run) (run : Run) (worker : ℕ) (turns : List ℕ) → old.runs.items ≡ before ++ run ∷ [] → new.runs.items ≡ before ++ run_of worker (run.count + 1) ∷ [] → run.worker ≡ worker → run.count < 4294967295
    → IsMade old turns → IsMade new (turns ++ worker ∷ [])
made_longer old new before run worker turns was is same low made = record {
  turns_are =
      let one : turns_of before ++ replicate run.count run.worker ≡ turns = sym (turns_more before run) ∙ (ap turns_of (sym was) ∙ made.turns_are) in
      let longer : replicate (run.count + 1) worker ≡ replicate run.count run.worker ++ worker ∷ [] = replicate_next run.count worker ∙ ap (λ (w : ℕ). replicate run.count w ++ worker ∷ []) (sym same) in
      ap turns_of is ∙ (turns_more before (run_of worker (run.count + 1)) ∙ (ap (λ (ts : List ℕ). turns_of before ++ ts) longer
      ∙ (sym (append_assoc (turns_of before) (replicate run.count run.worker) (worker ∷ [])) ∙ ap (λ (ts : List ℕ). ts ++ worker ∷ []) one)));
  short = subst (λ (rs : List Run). AreShort rs) (sym is) (short_same before run (run_of worker (run.count + 1)) (subst (λ (rs : List Run). AreShort rs) was made.short) same (omega arith, omega (arith, low)));
}

-- another run begins
pub made_next : (old new : Made) (before : List Run) (run : Run) (worker : ℕ) (turns : List ℕ) → old.runs.items ≡ before ++ run ∷ [] → new.runs.items ≡ (before ++ run ∷ []) ++ run_of worker 1 ∷ [] → Differ run (run_of worker 1)
    → IsMade old turns → IsMade new (turns ++ worker ∷ [])
made_next old new before run worker turns was is differ made = record {
  turns_are =
      let one : turns_of (before ++ run ∷ []) ≡ turns = ap turns_of (sym was) ∙ made.turns_are in
      ap turns_of is ∙ (turns_more (before ++ run ∷ []) (run_of worker 1) ∙ ap (λ (ts : List ℕ). ts ++ worker ∷ []) one);
  short = subst (λ (rs : List Run). AreShort rs) (sym is) (short_next before run (run_of worker 1) (subst (λ (rs : List Run). AreShort rs) was made.short) differ (omega arith, omega arith));
}
