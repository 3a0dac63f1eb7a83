-- Turns in the order of the text that refuse no memory lead to one end.
use Rattle.std.proofs.Common.{◌≡◌, ℕ, false, List, [], ◌∷◌, length, get_or, set, All, refl, sym, ap, ◌∙◌, subst, inl, inr}
use Rattle.std.proofs.lemmas.Bool.{cases_lt}
use Rattle.std.proofs.lemmas.Option.{same_Some}
use Rattle.std.proofs.lemmas.List.{set-get_or}
use Rattle.std.proofs.lemmas.List.Elements.{All-get_or, All-head, All-tail}
use Rattle.slub_trace.specs.declared.event.Event.{Event}
use Rattle.slub_core.specs.declared.step.Step.{Step}
use Rattle.slub_core.specs.declared.step.Answer.TheVariants.{Word}
use Rattle.slub_core.specs.Setup.{Setup}
use Rattle.slub_core.specs.Words.{number_of, after_op, answer_of}
use Rattle.slub_core.specs.Ops.{no_step}
use Rattle.slub_core.specs.Local.{Change}
use Rattle.slub_core.specs.Run.{System, Pick, IsFinished, idle, run, turn, after_step}
use Rattle.slub_core.specs.Steps.{step_at, advance_at, advance_of, rested_at, rested_with, begun_at, begun_with}
use Rattle.slub_law_opening.proofs.Turns.{get_or-beyond}
use Rattle.slub_law_alone.specs.Alone.{own_pick}
use Rattle.slub_law_alone.proofs.Turns.{settle_goes, once_between}
use Rattle.slub_rounds.specs.Doing.{local_at}
use Rattle.slub_rounds.specs.InOrder.{AreInOrder}
use Rattle.slub_law_replay.specs.InOrder.{RefuseNothing}

-- a worker that is finished, or that is none of the machine, changes nothing by its turn
idle-pick : (m : Setup) (s : System) (w : ℕ) → IsFinished (local_at s w) → turn m s (own_pick w) ≡ s
idle-pick m s w is =
    let l = local_at s w in
    let n = number_of m no_step.place in
    let q = get_or s.words n 0 in
    ap (after_step m false s w) (ap (begun_at m false l) is.between ∙ ap (begun_with m false l) is.none)
    ∙ ap by_step (ap (step_at m s.value l) is.between)
    ∙ ap (by_change n q) (settle_goes m s.value l l (Word q) (ap (λ spot. advance_at m s.value l spot (Word q)) is.between) (once_between m s.value l is.between)
    (ap (rested_at m l) is.between ∙ ap (λ calls. rested_with m calls l) is.none))
    ∙ (λ i. record { words = set-get_or s.words n 0 i; value = s.value; locals = set-get_or s.locals w idle i })
  where
    by_step : Step → System
    by_step step =
        let n = number_of m step.place in
        let q = get_or s.words n 0 in
        let c = advance_of m false s.value (local_at s w) (answer_of step.op q) in
        record { words = set s.words n (after_op step.op q); value = c.value; locals = set s.locals w c.local }

    by_change : ℕ → ℕ → Change → System
    by_change n q c = record { words = set s.words n q; value = c.value; locals = set s.locals w c.local }

finished-at : (s : System) (w : ℕ) → All IsFinished s.locals → IsFinished (local_at s w)
finished-at s w all = elim (cases_lt w (length s.locals)) [
  | inl below ↦ All-get_or IsFinished s.locals w idle below all
  | inr past ↦ subst IsFinished (sym (get_or-beyond s.locals w idle past)) (record { between = refl; none = refl })
]

own : (pick : Pick) → pick.refused ≡ false → pick.tries ≡ false → pick ≡ own_pick pick.worker
own pick kept call = λ i. record { worker = pick.worker; refused = kept i; tries = call i }

idle-picks : (m : Setup) (es : List Event) (s : System) (picks : List Pick) → All IsFinished s.locals → AreInOrder m es s picks → RefuseNothing picks → run m s picks ≡ s
idle-picks m es s [] all order kept = refl
idle-picks m es s (pick ∷ picks) all order kept =
    let same : turn m s pick ≡ s = ap (turn m s) (own pick (All-head (λ (p : Pick). p.refused ≡ false) pick picks kept) order.1) ∙ idle-pick m s pick.worker (finished-at s pick.worker all) in
    let rest = idle-picks m es (turn m s pick) picks (subst (λ (t : System). All IsFinished t.locals) (sym same) all) order.2 (All-tail (λ (p : Pick). p.refused ≡ false) pick picks kept) in
    rest ∙ same

-- the first picks of two such runs are the same
first-same : (m : Setup) (es : List Event) (s : System) (p q : Pick) (ps qs : List Pick) → AreInOrder m es s (p ∷ ps) → AreInOrder m es s (q ∷ qs) → RefuseNothing (p ∷ ps) → RefuseNothing (q ∷ qs) → q ≡ p
first-same m es s p q ps qs one other kept also =
    let worker : p.worker ≡ q.worker = same_Some p.worker q.worker (sym one.0 ∙ other.0) in
    let refused : p.refused ≡ q.refused = All-head (λ (p : Pick). p.refused ≡ false) p ps kept ∙ sym (All-head (λ (p : Pick). p.refused ≡ false) q qs also) in
    let tries : p.tries ≡ q.tries = one.1 ∙ sym other.1 in
    λ i. record { worker = sym worker i; refused = sym refused i; tries = sym tries i }

-- two such runs that both end with every worker finished end alike
pub same_end : (m : Setup) (es : List Event) (s : System) (ps qs : List Pick) → AreInOrder m es s ps → AreInOrder m es s qs → RefuseNothing ps → RefuseNothing qs → All IsFinished (run m s ps).locals → All IsFinished (run m s qs).locals → run m s ps ≡ run m s qs
same_end m es s [] qs one other kept also all every = sym (idle-picks m es s qs all other also)
same_end m es s (p ∷ ps) [] one other kept also all every = idle-picks m es s (p ∷ ps) every one kept
same_end m es s (p ∷ ps) (q ∷ qs) one other kept also all every =
    let pick = first-same m es s p q ps qs one other kept also in
    let same : turn m s q ≡ turn m s p = ap (turn m s) pick in
    same_end m es (turn m s p) ps qs one.2 (subst (λ (t : System). AreInOrder m es t qs) same other.2)
    (All-tail (λ (p : Pick). p.refused ≡ false) p ps kept) (All-tail (λ (p : Pick). p.refused ≡ false) q qs also) all (subst (λ (t : System). All IsFinished (run m t qs).locals) same every)
    ∙ ap (λ (t : System). run m t qs) (sym same)

-- one that ends so goes by each machine to which such turns come
pub goes_by : (m : Setup) (es : List Event) (s : System) (ps qs : List Pick) → AreInOrder m es s ps → AreInOrder m es s qs → RefuseNothing ps → RefuseNothing qs → All IsFinished (run m s ps).locals → (rest : List Pick) × (run m s ps ≡ run m (run m s qs) rest)
goes_by m es s ps [] one other kept also all = (ps, refl)
goes_by m es s [] (q ∷ qs) one other kept also all = ([], sym (idle-picks m es s (q ∷ qs) all other also))
goes_by m es s (p ∷ ps) (q ∷ qs) one other kept also all =
    let pick = first-same m es s p q ps qs one other kept also in
    let same : turn m s q ≡ turn m s p = ap (turn m s) pick in
    let more = goes_by m es (turn m s p) ps qs one.2 (subst (λ (t : System). AreInOrder m es t qs) same other.2)
    (All-tail (λ (p : Pick). p.refused ≡ false) p ps kept) (All-tail (λ (p : Pick). p.refused ≡ false) q qs also) all in
    (more.0, more.1 ∙ ap (λ (t : System). run m (run m t qs) more.0) (sym same))
