use Rattle.std.proofs.Common.{◌≡◌, sym, ◌∙◌, ap, subst, Option}
use Rattle.std.specs.HashMap.{get}
use Rattle.std.specs.Str.{bytes_eq}
use Rattle.slub_outcomes.specs.declared.tally.Seeds.{Seeds}
use Rattle.slub_outcomes.specs.declared.tally.Tally.{Tally}
use Rattle.slub_outcomes.specs.Tallies.{IsTallyOf}
use Rattle.slub_outcomes.proofs.Counting.{noted, one_more}
use Rattle.slub_outcomes.proofs.tally.Tally.note.Goals as goal
use Rattle.slub_outcomes.proofs.tally.Tally.note.Goals.{in-Some, in-None}

pub returns : goal.returns
returns c =
    let put : c.match-get.seeds ≡ one_more (get bytes_eq c.args.self.now.seeds c.args.replies) c.args.seed = elim c.match-get.branch [
      | in-Some w ↦ w.seeds-is ∙ ap (λ (found : Option Seeds). one_more found c.args.seed) w.in-Some.ensures.value
      | in-None w ↦ w.seeds-is ∙ ap (λ (found : Option Seeds). one_more found c.args.seed) w.in-None.ensures.value
    ] in
    let same : c.match-get.self ≡ c.args.self.now = elim c.match-get.branch [ in-Some w ↦ w.self-is | in-None w ↦ w.self-is ] in
    let was = c.in_ok-insert.ensures in
    λ from texts is next. noted from texts c.args.replies c.args.seed c.match-get.self (record { seeds = c.insert.new.self }) c.in_ok-insert.field-0 c.match-get.seeds
    (subst (λ (tally : Tally). IsTallyOf from texts tally) (sym same) is) next was.old (rw (was.old, same) put) was.updates was.entries was.unique
