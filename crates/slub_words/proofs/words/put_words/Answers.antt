use Rattle.std.proofs.Common.{ℕ, List, ◌++◌, ◌∷◌, [], ap, sym, ◌∙◌, append_assoc, arith}
use Rattle.std.specs.List.{slice_range}
use Rattle.slub_words.proofs.Stored.{one-more}
use Rattle.slub_words.proofs.words.put_words.Goals as goal

pub loop-at-preserved : goal.loop-at-preserved
loop-at-preserved g c =
    let all = g.W.Words.all c.args.words.now in
    let at = c.loop-at.at in
    let inv = c.loop-at.invariant in
    let p = c.push_reserved.ensures in (
      p.items ∙ ap (λ (l : List ℕ). l ++ c.word.result ∷ []) inv.0 ∙ append_assoc c.args.items.now.items (slice_range all c.args.from at) (c.word.result ∷ [])
          ∙ ap (λ (l : List ℕ). c.args.items.now.items ++ l) (ap (λ (w : ℕ). slice_range all c.args.from at ++ w ∷ []) c.word.ensures ∙ sym (one-more all c.args.from at (omega arith) (omega arith))),
      omega (arith, p.len, inv.1),
      p.capacity ∙ inv.2,
    )
