-- Turns that a seed draws, and after which no reply is that memory was lacking, might as well be refused none.
use Rattle.std.proofs.Common.{◌≡◌, ℕ, suc, ◌≤◌, false, Bool, List, [], ◌∷◌, length, refl, sym, ap, ◌∙◌, subst}
use Rattle.std.proofs.lemmas.List.Elements.{All-cons, All-head, All-nil, All-tail}
use Rattle.slub_core.specs.Setup.{Setup}
use Rattle.slub_core.specs.Run.{System, Pick, run, turn, after_step}
use Rattle.slub_core.specs.Steps.{begun}
use Rattle.slub_schedule.specs.Draws.{next}
use Rattle.slub_schedule.specs.Schedule.{AreDrawn, AreRefusedAlike}
use Rattle.slub_schedule.specs.Rounds.{EndsRound}
use Rattle.slub_schedule.specs.Turns.{turns_of}
use Rattle.slub_schedule.proofs.Picks.{rounds_unique}
use Rattle.slub_law_alone.specs.Alone.{own_pick}
use Rattle.slub_rounds.specs.Doing.{local_at}
use Rattle.slub_law_replay.proofs.Refused.{AllHad, HasHad, run-back, turn-same}
use Rattle.slub_law_replay.specs.InOrder.{RefuseNothing}

-- turns that the seed draws from a number on, as many as these, of which none is refused memory, lead to the same machine
record DrawsNone (m : Setup) (s last : System) (x many : ℕ) : Type 0 where
  pub picks : List Pick
  pub drawn : AreDrawn m s x picks
  pub kept : RefuseNothing picks
  pub long : length picks ≡ many
  pub run_is : last ≡ run m s picks

none-refused : (m : Setup) (s : System) (x : ℕ) (picks : List Pick) → AreDrawn m s x picks → AllHad (run m s picks) → DrawsNone m s (run m s picks) x (length picks)
none-refused m s x [] drawn has = record { picks = []; drawn = tt; kept = All-nil (λ (p : Pick). p.refused ≡ false); long = refl; run_is = refl }
none-refused m s x (pick ∷ picks) drawn has =
    let w = pick.worker in
    let after = turn m s pick in
    let untried : after ≡ after_step m pick.refused s w (begun m false (local_at s w)) = ap (λ (tries : Bool). after_step m pick.refused s w (begun m tries (local_at s w))) drawn.2 in
    let same : after ≡ turn m s (own_pick w) = untried ∙ turn-same m s w pick.refused (subst (λ (t : System). HasHad (local_at t w)) untried (run-back m after picks has w)) in
    let rest = none-refused m after (next x) picks drawn.3 has in
    record {
      picks = own_pick w ∷ rest.picks;
      drawn = (drawn.0, drawn.1, refl, subst (λ (t : System). AreDrawn m t (next x) rest.picks) same rest.drawn);
      kept = All-cons (λ (p : Pick). p.refused ≡ false) (own_pick w) rest.picks refl rest.kept;
      long = ap suc rest.long;
      run_is = rest.run_is ∙ ap (λ (t : System). run m t rest.picks) same;
    }

refused-alike : (ps qs : List Pick) → RefuseNothing ps → RefuseNothing qs → AreRefusedAlike ps qs
refused-alike [] qs one other = nothing qs
  where
    nothing : (qs : List Pick) → AreRefusedAlike [] qs
    nothing [] = tt
    nothing (q ∷ qs) = tt
refused-alike (p ∷ ps) [] one other = tt
refused-alike (p ∷ ps) (q ∷ qs) one other = (
  All-head (λ (p : Pick). p.refused ≡ false) p ps one ∙ sym (All-head (λ (p : Pick). p.refused ≡ false) q qs other),
  refused-alike ps qs (All-tail (λ (p : Pick). p.refused ≡ false) p ps one) (All-tail (λ (p : Pick). p.refused ≡ false) q qs other),
)

-- two such runs that end come to one end
pub drawn-end : (m : Setup) (seed : ℕ) (first : System) (ps qs : List Pick) (x y : System) → EndsRound m seed first ps x → EndsRound m seed first qs y → AllHad x → AllHad y → x ≡ y
drawn-end m seed first ps qs x y one other has also =
    let a = none-refused m first seed ps one.drawn (subst AllHad one.run has) in
    let b = none-refused m first seed qs other.drawn (subst AllHad other.run also) in
    ((rounds_unique m seed first a.picks b.picks x y (refused-alike a.picks b.picks a.kept b.kept)).0
    (record { drawn = a.drawn; run = one.run ∙ a.run_is; within = subst (λ n. n ≤ turns_of first) (sym a.long) one.within; finished = one.finished })
    (record { drawn = b.drawn; run = other.run ∙ b.run_is; within = subst (λ n. n ≤ turns_of first) (sym b.long) other.within; finished = other.finished })).1
