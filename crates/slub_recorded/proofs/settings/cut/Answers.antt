use Rattle.std.proofs.Common.{◌≡◌, ℕ, ◌+◌, ◌-◌, List, length, take, drop, sym, ap, ◌∙◌, Some}
use Rattle.std.specs.Prelude.{option_map}
use Rattle.std.proofs.Math.Seq.{take-length}
use Rattle.std.proofs.lemmas.List.{length-drop}
use Rattle.slub_recorded.proofs.settings.cut.Goals as goal

behind : (word : List ℕ) (n : ℕ) → take (length word - n) (drop n word) ≡ drop n word
behind word n = ap (λ m. take m (drop n word)) (sym (length-drop n word)) ∙ take-length (drop n word)

pub returns : goal.returns
returns c =
    let at : ℕ = c.in_ok-at.at in
    let word : List ℕ = c.args.word.now in
    ap (λ rest. Some (take at word, rest)) (behind word (at + 1)) ∙ ap (option_map (λ at. (take at word, drop (at + 1) word))) (c.in_ok-at.ensures.first)
