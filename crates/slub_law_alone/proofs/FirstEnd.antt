-- The first of a worker's turns after which it is in no call; turns of a worker with nothing to do change nothing.
use Rattle.std.proofs.Common.{◌≡◌, ◌≢◌, ℕ, zero, suc, ◌+◌, ◌<◌, ◌≤◌, false, [], length, get_or, refl, sym, ap, ◌∙◌, arith, inl, inr}
use Rattle.std.proofs.lemmas.List.{set-get_or}
use Rattle.slub_core.specs.declared.step.Answer.TheVariants.{Word}
use Rattle.slub_core.specs.declared.spot.Spot.TheVariants.{Between}
use Rattle.slub_core.specs.Setup.{Setup}
use Rattle.slub_core.specs.Words.{number_of}
use Rattle.slub_core.specs.Ops.{no_step}
use Rattle.slub_core.specs.Steps.{step_at, advance_at, rested_at, rested_with, begun_at, begun_with}
use Rattle.slub_core.specs.Run.{System, idle, turn}
use Rattle.slub_law_alone.specs.Alone.{own_pick, alone, worker_at}
use Rattle.slub_law_alone.specs.Busy.{IsBetweenCalls, EndsCall}
use Rattle.slub_law_alone.proofs.OneCall.{in_no_call, turn-long}
use Rattle.slub_law_alone.proofs.Turns.{machine, turn_goes, settle_goes, once_between}

module _ (m : Setup) (x : ℕ) where
  pub alone-split : (a b n : ℕ) (system : System) → n ≡ a + b → alone m x n system ≡ alone m x b (alone m x a system)
  alone-split zero b n system e = ap (λ n. alone m x n system) (let same : n ≡ b = omega arith in same)
  alone-split (suc a) b zero system e = absurd (omega arith)
  alone-split (suc a) b (suc n) system e = alone-split a b n (turn m system (own_pick x)) (omega arith)

  pub alone-long : (n : ℕ) (system : System) → x < length system.locals → x < length (alone m x n system).locals
  alone-long zero system below = below
  alone-long (suc n) system below = alone-long n (turn m system (own_pick x)) (turn-long m x system below)

  pub record Least (system : System) (turns : ℕ) : Type 0 where
    pub last : ℕ
    pub few : last ≤ turns
    pub ends : EndsCall m system x (suc last)

  later : (system : System) (turns : ℕ) → (worker_at (turn m system (own_pick x)) x).spot ≢ Between → EndsCall m (turn m system (own_pick x)) x turns → (n : ℕ) → 1 ≤ n → n < suc turns → (worker_at (alone m x n system) x).spot ≢ Between
  later system turns not ends zero some few = absurd (omega arith)
  later system turns not ends (suc zero) some few = not
  later system turns not ends (suc (suc n)) some few = ends.busy (suc n) (omega arith) (omega arith)

  pub least : (turns : ℕ) (system : System) → IsBetweenCalls (alone m x (suc turns) system) x → Least system turns
  least zero system is = record {
    last = zero;
    few = omega arith;
    ends = record { busy = λ n some few at. absurd (let never : ⊥ = omega (arith, some, few) in never); ends = is };
  }
  least (suc turns) system is =
      let next = turn m system (own_pick x) in
      elim (in_no_call (worker_at next x).spot) [
        | inl at ↦ record {
          last = zero;
          few = omega arith;
          ends = record { busy = λ n some few at. absurd (let never : ⊥ = omega (arith, some, few) in never); ends = at };
        }
        | inr not ↦ let r = least turns next is in record {
          last = suc r.last;
          few = let few = r.few in omega arith;
          ends = record { busy = later system (suc r.last) not r.ends; ends = r.ends.ends };
        }
      ]

  -- ---- nothing to do

  idle-turn : (system : System) → x < length system.locals → IsBetweenCalls system x → (worker_at system x).todo ≡ [] → turn m system (own_pick x) ≡ system
  idle-turn system below is none =
      let l = worker_at system x in
      let n = number_of m no_step.place in
      ap (λ ls. turn m (machine system.words system.value ls) (own_pick x)) (sym (set-get_or system.locals x idle))
      ∙ turn_goes m system.words system.words system.value system.locals x l l l no_step (Word (get_or system.words n 0)) below
      (ap (begun_at m false l) is ∙ ap (begun_with m false l) none) (ap (step_at m system.value l) is) (set-get_or system.words n 0) refl
      (settle_goes m system.value l l (Word (get_or system.words n 0)) (ap (λ s. advance_at m system.value l s (Word (get_or system.words n 0))) is) (once_between m system.value l is)
      (ap (rested_at m l) is ∙ ap (λ calls. rested_with m calls l) none))
      ∙ ap (machine system.words system.value) (set-get_or system.locals x idle)

  pub idle-turns : (n : ℕ) (system : System) → x < length system.locals → IsBetweenCalls system x → (worker_at system x).todo ≡ [] → alone m x n system ≡ system
  idle-turns zero system below is none = refl
  idle-turns (suc n) system below is none = ap (alone m x n) (idle-turn system below is none) ∙ idle-turns n system below is none
