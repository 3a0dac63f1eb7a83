-- A seed has one outcome.
use Rattle.std.proofs.Common.{◌≡◌, ℕ, ◌<◌, Bool, true, false, List, length, refl, sym, ap, ◌∙◌, arith, MatchBool}
use Rattle.slub_law_replay.specs.declared.way.Way.TheVariants.{Schedule}
use Rattle.slub_law_replay.proofs.Items.{journals-one}
use Rattle.slub_outcomes.specs.declared.replay.Replayed.{Replayed}
use Rattle.slub_outcomes.specs.Laws.{OutcomesAreOne}

-- replays that do as many items end alike
end-alike : (A B : Type 0) (one other : Bool) (m n end : ℕ) → m ≡ n → MatchBool one (A × (m < end)) (m ≡ end) → MatchBool other (B × (n < end)) (n ≡ end) → one ≡ other
end-alike A B true true m n end same left right = refl
end-alike A B false false m n end same left right = refl
end-alike A B true false m n end same left right = absurd (let below : m < end = left.1 in omega arith)
end-alike A B false true m n end same left right = absurd (let below : n < end = right.1 in omega arith)

abbrev made : List ℕ → Bool → Replayed
made replies is_spent = record { replies = replies; is_spent = is_spent }

same-replayed : (one other : Replayed) → one.replies ≡ other.replies → one.is_spent ≡ other.is_spent → one ≡ other
same-replayed one other replies spent = ap (λ (text : List ℕ). made text one.is_spent) replies ∙ ap (λ (is_spent : Bool). made other.replies is_spent) spent

pub outcomes-one : OutcomesAreOne
outcomes-one trace span seed one other left right alike =
    let same = journals-one (Schedule seed) trace left.1.journal right.1.journal (λ k d within. tt) left.1.lawful right.1.lawful alike in
    let spent : one.is_spent ≡ other.is_spent = end-alike _ _ one.is_spent other.is_spent (length left.1.journal.items) (length right.1.journal.items) span.end alike.items left.1.ends right.1.ends in
    let text : left.0 ≡ right.0 = left.1.text_is ∙ rw same (sym right.1.text_is) in
    same-replayed one other (left.2 ∙ rw (text, spent) (sym right.2)) spent
