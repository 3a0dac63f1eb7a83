use Rattle.std.proofs.Common.{◌≡◌, ◌++◌, ◌∷◌, [], List, ℕ, OnOk, append_assoc, subst}
use Rattle.slub_log_text.specs.Parts.{counts_line}
use Rattle.slub_log_text.proofs.parts.put_counts.Goals as goal

four_numbers : (old m1 m2 m3 m4 w1 n1 w2 n2 w3 n3 w4 n4 w5 : List ℕ) → m1 ≡ old ++ w1 ++ n1 → m2 ≡ m1 ++ w2 ++ n2 → m3 ≡ m2 ++ w3 ++ n3 → m4 ≡ m3 ++ w4 ++ n4 → m4 ++ w5 ≡ old ++ (w1 ++ n1 ++ w2 ++ n2 ++ w3 ++ n3 ++ w4 ++ n4 ++ w5)
four_numbers old m1 m2 m3 m4 w1 n1 w2 n2 w3 n3 w4 n4 w5 e1 e2 e3 e4 = rw (e4, e3, e2, e1) (simp append_assoc)

pub returns : goal.returns
returns c =
    let e : c.put_numbered-3.new.text.items ++ 10 ∷ [] ≡ c.args.text.now.items ++ counts_line c.args.number c.args.counts =
    four_numbers _ _ _ _ _ _ _ _ _ _ _ _ _ (10 ∷ []) c.in_ok-put_small.ensures c.in_ok-put_numbered.ensures c.in_ok-put_numbered-2.ensures c.in_ok-put_numbered-3.ensures in
    subst (λ (lines : List ℕ). OnOk c.put.result (c.put.new.text.items ≡ lines)) e c.put.ensures
