-- How one outcome follows from another: by a choice, and through a step.
use Rattle.std.proofs.Common.{◌≡◌, Bool, true, false, Option, Some, None, sym, ◌∙◌, subst, MatchOption}
use Rattle.std.specs.Prelude.{MatchBool}
use Rattle.slub_law_alone.specs.Outcome.{HasOneOutcome}

module _ (A B : Type 0) where
  -- an outcome that is told outright
  pub exact : (a : A) (b : B) → HasOneOutcome A B (λ one left. (one ≡ a) × (left ≡ b))
  exact a b one other left right x y = (x.0 ∙ sym y.0, x.1 ∙ sym y.1)

  -- none at all
  pub never : HasOneOutcome A B (λ one left. ⊥)
  never one other left right x y = absurd x

  -- what is there decides
  pub by_option : (X : Type 0) (x : Option X) (P : A → B → Type 0) (Q : X → A → B → Type 0) → HasOneOutcome A B P → ((v : X) → HasOneOutcome A B (Q v))
      → HasOneOutcome A B (λ one left. MatchOption x (P one left) (λ v. Q v one left))
  by_option X None P Q p q one other left right a b = p one other left right a b
  by_option X (Some v) P Q p q one other left right a b = q v one other left right a b

  -- a test decides
  pub by_bool : (x : Bool) (P Q : A → B → Type 0) → HasOneOutcome A B P → HasOneOutcome A B Q → HasOneOutcome A B (λ one left. MatchBool x (P one left) (Q one left))
  by_bool true P Q p q one other left right a b = p one other left right a b
  by_bool false P Q p q one other left right a b = q one other left right a b

  -- a step before has one outcome
  pub through : (X Y : Type 0) (D : X → Y → Type 0) (E : X → Y → A → B → Type 0) → HasOneOutcome X Y D → ((x : X) (y : Y) → HasOneOutcome A B (E x y))
      → HasOneOutcome A B (λ one left. (x : X) × (y : Y) × D x y × E x y one left)
  through X Y D E d e one other left right a b =
      let same = d a.0 b.0 a.1 b.1 a.2 b.2 in
      e b.0 b.1 one other left right (subst (λ (y : Y). E b.0 y one left) same.1 (subst (λ (x : X). E x a.1 one left) same.0 a.3)) b.3

-- where something is there, both outcomes are of it
pub of_both : (X : Type 0) (x : Option X) (P Q : X → Type 0) → MatchOption x ⊥ P → MatchOption x ⊥ Q → (v : X) × P v × Q v
of_both X None P Q a b = absurd a
of_both X (Some v) P Q a b = (v, a, b)

-- where nothing is there, there is no outcome
pub of_none : (X : Type 0) (x : Option X) (Q : X → Type 0) → x ≡ None → MatchOption x ⊥ Q → ⊥
of_none X x Q none b = subst (λ (o : Option X). MatchOption o ⊥ Q) none b
