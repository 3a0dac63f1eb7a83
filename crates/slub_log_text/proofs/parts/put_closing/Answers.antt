use Rattle.std.proofs.Common.{◌≡◌, ◌++◌, ◌∷◌, [], List, ℕ, OnOk, append_assoc, subst}
use Rattle.slub_picks.specs.Made.{part_text}
use Rattle.slub_log_text.specs.Parts.{closing_text, picks_line}
use Rattle.slub_log_text.proofs.parts.put_closing.Goals as goal

closing : (old m1 m2 m3 m4 w n s counts picks : List ℕ) → m1 ≡ old ++ w ++ n → m2 ≡ m1 ++ 10 ∷ [] → m3 ≡ m2 ++ s → m4 ≡ m3 ++ counts → m4 ++ picks ≡ old ++ (w ++ n ++ 10 ∷ s ++ counts ++ picks)
closing old m1 m2 m3 m4 w n s counts picks e1 e2 e3 e4 = rw (e4, e3, e2, e1) (simp append_assoc)

pub returns : goal.returns
returns c =
    let picks = picks_line c.args.round.now (part_text c.args.made.now.runs.items) in
    let e : c.put_counts.new.text.items ++ picks ≡ c.args.text.now.items ++ closing_text c.args.number c.args.round.now c.args.after.now c.args.counts (part_text c.args.made.now.runs.items) =
    closing _ _ _ _ _ _ _ _ _ picks c.in_ok-put_small.ensures c.in_ok-put.ensures c.in_ok-put_shown.ensures c.in_ok-put_counts.ensures in
    subst (λ (lines : List ℕ). OnOk c.put_picks.result (c.put_picks.new.text.items ≡ lines)) e c.put_picks.ensures
