use Rattle.std.proofs.Common.{◌≡◌, ◌++◌, ◌∷◌, [], List, ℕ, OnOk, append_assoc, subst}
use Rattle.slub_turn_text.specs.Columns.{head_line}
use Rattle.slub_log_text.specs.Parts.{opening_text}
use Rattle.slub_log_text.proofs.parts.put_opening.Goals as goal

opening : (line old m1 m2 m3 m4 m5 m6 m7 m8 w1 n1 w2 n2 events w3 n3 s head : List ℕ) → m1 ≡ old ++ w1 ++ n1 → m2 ≡ m1 ++ w2 ++ n2 → m3 ≡ m2 ++ line → m4 ≡ m3 ++ events → m5 ≡ m4 ++ w3 ++ n3 → m6 ≡ m5 ++ line → m7 ≡ m6 ++ s → m8 ≡ m7 ++ line → m8 ++ head ≡ old ++ (w1 ++ n1 ++ w2 ++ n2 ++ (line ++ events) ++ w3 ++ n3 ++ (line ++ s) ++ (line ++ head))
opening line old m1 m2 m3 m4 m5 m6 m7 m8 w1 n1 w2 n2 events w3 n3 s head e1 e2 e3 e4 e5 e6 e7 e8 = rw (e8, e7, e6, e5, e4, e3, e2, e1) (simp append_assoc)

pub returns : goal.returns
returns c =
    let head = head_line c.args.round.now.workers in
    let events = rw (c.as_slice.ensures, c.as_slice-2.ensures) at c.in_ok-put_events.ensures in
    let e : c.put-3.new.text.items ++ head ≡ c.args.text.now.items ++ opening_text c.args.trace.now c.args.number c.args.round.now c.args.before.now =
    opening (10 ∷ []) _ _ _ _ _ _ _ _ _ _ _ _ _ _ _ _ _ head c.in_ok-put_small.ensures c.in_ok-put_small-2.ensures c.in_ok-put.ensures events c.in_ok-put_small-3.ensures c.in_ok-put-2.ensures c.in_ok-put_shown.ensures c.in_ok-put-3.ensures in
    subst (λ (lines : List ℕ). OnOk c.push_head.result (c.push_head.new.text.items ≡ lines)) e c.push_head.ensures
