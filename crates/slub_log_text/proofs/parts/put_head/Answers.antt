use Rattle.std.proofs.Common.{◌≡◌, ◌++◌, ◌∷◌, [], List, ℕ, OnOk, append_assoc, subst}
use Rattle.slub_log_text.specs.Parts.{head_text}
use Rattle.slub_log_text.proofs.parts.put_head.Goals as goal

four : (old m1 m2 m3 x1 x2 x3 x4 : List ℕ) → m1 ≡ old ++ x1 → m2 ≡ m1 ++ x2 → m3 ≡ m2 ++ x3 → m3 ++ x4 ≡ old ++ (x1 ++ x2 ++ x3 ++ x4)
four old m1 m2 m3 x1 x2 x3 x4 e1 e2 e3 = rw (e3, e2, e1) (simp append_assoc)

pub returns : goal.returns
returns c =
    let e : c.put_way.new.text.items ++ 10 ∷ [] ≡ c.args.text.now.items ++ head_text c.args.trace.now c.args.way.now =
    four _ _ _ _ _ _ _ (10 ∷ []) c.in_ok-put.ensures c.in_ok-put_machine.ensures c.in_ok-put_way.ensures in
    subst (λ (lines : List ℕ). OnOk c.put-2.result (c.put-2.new.text.items ≡ lines)) e c.put-2.ensures
