-- Replays with one seed more.
use Rattle.std.proofs.Common.{◌≡◌, ℕ, ◌+◌, Bool, true, false, List, [], ◌∷◌, ◌++◌, length, refl, sym, ap, subst, ◌∙◌, arith, length-append, suc, ◌||◌}
use Rattle.std.specs.List.{list_any}
use Rattle.slub_trace.specs.declared.trace.Trace.{Trace}
use Rattle.slub_outcomes.specs.declared.replay.Replayed.{Replayed}
use Rattle.slub_outcomes.specs.declared.span.Span.{Span}
use Rattle.slub_outcomes.specs.declared.tally.Tally.{Tally}
use Rattle.slub_outcomes.specs.Replays.{AreReplayed, IsReplayed, replies_of}
use Rattle.slub_outcomes.specs.Tallies.{IsTallyOf, counted}

-- those of one seed more
are-more : (trace : Trace) (span : Span) (seed : ℕ) (replays : List Replayed) (one : Replayed) → AreReplayed trace span seed replays → IsReplayed trace span (seed + length replays) one → AreReplayed trace span seed (replays ++ one ∷ [])
are-more trace span seed [] one so_far is =
    let e : seed + 0 ≡ seed = omega arith in (subst (λ (s : ℕ). IsReplayed trace span s one) e is, tt)
are-more trace span seed (first ∷ replays) one so_far is =
    let e : seed + suc (length replays) ≡ seed + 1 + length replays = omega arith in
    (so_far.0, are-more trace span (seed + 1) replays one so_far.1 (subst (λ (s : ℕ). IsReplayed trace span s one) e is))

texts-more : (replays : List Replayed) (one : Replayed) → replies_of (replays ++ one ∷ []) ≡ replies_of replays ++ one.replies ∷ []
texts-more [] one = refl
texts-more (first ∷ replays) one = ap (λ (texts : List (List ℕ)). first.replies ∷ texts) (texts-more replays one)

texts-length : (replays : List Replayed) → length (replies_of replays) ≡ length replays
texts-length [] = refl
texts-length (first ∷ replays) = ap suc (texts-length replays)

spent-more : (replays : List Replayed) (one : Replayed) → list_any (λ (r : Replayed). r.is_spent) (replays ++ one ∷ []) ≡ (list_any (λ (r : Replayed). r.is_spent) replays || one.is_spent)
spent-more [] one = by one.is_spent
  where
    by : (b : Bool) → (b || false) ≡ b
    by true = refl
    by false = refl
spent-more (first ∷ replays) one = by first.is_spent (spent-more replays one)
  where
    by : (b : Bool) → list_any (λ (r : Replayed). r.is_spent) (replays ++ one ∷ []) ≡ (list_any (λ (r : Replayed). r.is_spent) replays || one.is_spent)
        → (b || list_any (λ (r : Replayed). r.is_spent) (replays ++ one ∷ [])) ≡ (b || list_any (λ (r : Replayed). r.is_spent) replays || one.is_spent)
    by true h = refl
    by false h = h

-- so many seeds are replayed and counted so far
pub record SoFar (trace : Trace) (span : Span) (from number : ℕ) (tally : Tally) (is_spent : Bool) : Type 0 where
  pub replays : List Replayed
  pub all : length replays ≡ number
  pub replayed : AreReplayed trace span from replays
  pub tallied : IsTallyOf from (replies_of replays) tally
  pub spent : is_spent ≡ list_any (λ (r : Replayed). r.is_spent) replays

pub none-so-far : (trace : Trace) (span : Span) (from : ℕ) (tally : Tally) → IsTallyOf from [] tally → SoFar trace span from 0 tally false
none-so-far trace span from tally is = record { replays = []; all = refl; replayed = tt; tallied = is; spent = refl }

pub one-more-so-far : (trace : Trace) (span : Span) (from number seed : ℕ) (old new : Tally) (was : Bool) (one : Replayed) → SoFar trace span from number old was → seed ≡ from + number → IsReplayed trace span seed one
    → ((from : ℕ) (texts : List (List ℕ)) → IsTallyOf from texts old → seed ≡ from + length texts → IsTallyOf from (texts ++ one.replies ∷ []) new) → SoFar trace span from (number + 1) new (was || one.is_spent)
one-more-so-far trace span from number seed old new was one so_far next is notes =
    let here : seed ≡ from + length so_far.replays = next ∙ ap (λ (n : ℕ). from + n) (sym so_far.all) in
    let placed : seed ≡ from + length (replies_of so_far.replays) = here ∙ ap (λ (n : ℕ). from + n) (sym (texts-length so_far.replays)) in
    record {
      replays = so_far.replays ++ one ∷ [];
      all = length-append so_far.replays (one ∷ []) ∙ ap (λ (n : ℕ). n + 1) so_far.all;
      replayed = are-more trace span from so_far.replays one so_far.replayed (subst (λ (s : ℕ). IsReplayed trace span s one) here is);
      tallied = subst (λ (texts : List (List ℕ)). IsTallyOf from texts new) (sym (texts-more so_far.replays one)) (notes from (replies_of so_far.replays) so_far.tallied placed);
      spent = ap (λ (b : Bool). b || one.is_spent) so_far.spent ∙ sym (spent-more so_far.replays one);
    }

-- how many a tally has counted
pub so-far-counted : (trace : Trace) (span : Span) (from number : ℕ) (tally : Tally) (is_spent : Bool) → SoFar trace span from number tally is_spent → counted tally ≡ number
so-far-counted trace span from number tally is_spent so_far = so_far.tallied.all ∙ texts-length so_far.replays ∙ so_far.all
