use Rattle.std.proofs.Common.{◌∙◌, List, length, ap, sym}
use Rattle.slub_core.specs.Local.{Local}
use Rattle.slub_schedule.specs.Schedule.{marks_of, places_of}
use Rattle.slub_schedule.specs.Turns.{turns_of}
use Rattle.slub_rounds.specs.Room.{all_workers}
use Rattle.slub_rounds.specs.Machine.{beside_in}
use Rattle.slub_rounds.proofs.Telling.{inside-round}
use Rattle.slub_rounds.proofs.Weights.{begun-turns}
use Rattle.slub_rounds.proofs.Machines.{begun-count}
use Rattle.slub_rounds.proofs.prepared.on_words.Goals as goal

pub leave_finished-requires : goal.leave_finished-requires
leave_finished-requires c =
    let (s, ids, b, trace, round, set, all) = c.requires.set in
    let begun = c.begun-machine.ensures.begun s b round set.opens set.workers in
    all ∙ ap all_workers (sym (begun-count s b round _ _ begun)) ∙ ap (λ (ls : List Local). all_workers (length ls)) (sym c.deref.ensures.value)

pub returns : goal.returns
returns c = λ s ids b trace round set turns.
    let begun = c.begun-machine.ensures.begun s b round set.opens set.workers in
    record {
      may = set.may;
      begun = begun;
      order = c.leave_finished.ensures ∙ ap (λ (ls : List Local). places_of (marks_of ls)) c.deref.ensures.value;
      turns = turns ∙ sym (begun-turns s (beside_in b) round (inside-round trace s round set.may.does)) ∙ ap turns_of (sym begun.system);
      room = set.room;
    }
