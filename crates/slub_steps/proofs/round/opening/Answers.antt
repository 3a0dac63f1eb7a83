use Rattle.std.proofs.Common.{ℕ, List, ◌++◌, ap, refl, ◌∙◌}
use Rattle.slub_log_text.specs.declared.parts.Shown.{Shown}
use Rattle.slub_log_text.specs.Parts.{opening_text}
use Rattle.slub_lists.specs.State.{State}
use Rattle.slub_steps.proofs.Ends.{ids_at_first}
use Rattle.slub_steps.proofs.round.opening.Goals as goal

pub returns : goal.returns
returns c = λ sayer.
    let before : Shown = record { lists = c.lists-2.result; first = c.args.trace.now.tid; ids = c.ids_of.result; live = c.args.live } in
    record {
      before = before;
      shows = record {
        lists_are = c.lists-2.ensures;
        first_is = refl;
        ids_are = c.ids_of.ensures ∙ ids_at_first c.args.machine.now.lists c.args.machine.now.ids c.in_ok-first.field-0 c.cpus.result c.in_ok-first.ensures (c.cpus.ensures ∙ ap (λ (s : State). s.cpus) c.lists.ensures);
        live_are = refl;
      };
      text_is = c.in_ok-put_opening.ensures ∙ ap (λ (xs : List ℕ). xs ++ opening_text c.args.trace.now c.args.place.round c.args.round.now before) c.new-text.ensures.items;
    }
