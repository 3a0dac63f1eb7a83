use Rattle.std.proofs.Common.{ℕ, List, ◌++◌, ap, refl, ◌∙◌}
use Rattle.slub_log_text.specs.declared.parts.Counts.{Counts}
use Rattle.slub_log_text.specs.declared.parts.Shown.{Shown}
use Rattle.slub_log_text.specs.Parts.{closing_text}
use Rattle.slub_picks.specs.Made.{part_text, runs_of}
use Rattle.slub_steps.proofs.Ends.{counts_are}
use Rattle.slub_steps.proofs.round.closing.Goals as goal

pub returns : goal.returns
returns c = λ sayer tells context made.
    let behind : Shown = record { lists = c.lists.result; first = c.args.trace.now.tid; ids = c.ids_of.result; live = c.args.live } in
    let counts : Counts = record { turns = c.turns.result; lost = c.lost.result; waits = c.waits.result } in
    let part : List ℕ = part_text (runs_of c.args.kept.now.made) in
    record {
      behind = behind;
      shows = record { lists_are = c.lists.ensures; first_is = refl; ids_are = c.ids_of.ensures; live_are = refl };
      part = part;
      is_part = record { runs = c.args.kept.now.made; are_made = made; text_is = refl };
      text_is = c.in_ok-put_closing.ensures
          ∙ ap (λ (xs : List ℕ). xs ++ closing_text c.args.place.round c.args.round.now behind counts part) c.new-text.ensures.items
          ∙ ap (λ (n : Counts). closing_text c.args.place.round c.args.round.now behind n part) (counts_are c.args.kept.now.context tells.context c.turns.result c.lost.result c.waits.result context c.turns.ensures c.lost.ensures c.waits.ensures);
    }
