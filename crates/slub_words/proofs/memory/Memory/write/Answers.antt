use Rattle.std.proofs.Common.{rules, ◌-◌, ℕ, List, length, replicate, ap, sym, ◌∙◌, set, length-append, arith}
use Rattle.std.proofs.lemmas.List.{length-replicate}
use Rattle.slub_words.proofs.Stored.{written-behind}
use Rattle.slub_words.proofs.memory.Memory.write.Goals as goal

pub returns-else-at-len : goal.returns-else-at-len
returns-else-at-len c =
    let self = c.self.inside in
    let n = length self.words.items in
    let inside = c.self.invariant.0 in
    let long = ap length (sym c.self.view_is) ∙ length-append self.words.items (replicate (self.count - n) 0) in
    let zeros = length-replicate {A = ℕ} (self.count - n) 0 in
    let low = c.requires in
    written-behind self.words.items c.write_behind.new.words.items self.count c.args.at c.args.value (search rules) (omega (arith, long, zeros, low, inside)) c.write_behind.ensures.words
    ∙ ap (λ (ws : List ℕ). set ws c.args.at c.args.value) c.self.view_is
