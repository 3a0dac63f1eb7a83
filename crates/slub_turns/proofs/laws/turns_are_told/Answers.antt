use Rattle.std.proofs.Common.{false, ◌∷◌, length, get_or, refl}
use Rattle.slub_core.specs.Words.{number_of, answer_of}
use Rattle.slub_core.specs.Local.{Local, Change, noted}
use Rattle.slub_core.specs.Steps.{step_of, settled, rested, begun}
use Rattle.slub_core.specs.Run.{idle}
use Rattle.slub_turns.specs.Fits.{after_answer}
use Rattle.slub_turns.specs.Happenings.{Advances, settling_told}
use Rattle.slub_turns.proofs.laws.turns_are_told.Goals as goal

pub returns : goal.returns
returns c = λ m refused s worker.
    let k : Local = begun m false (get_or s.locals worker idle) in
    let one : Change = after_answer m s k in
    let end : Change = settled m refused one in
    let l : Local = noted end.local end.reply in
    record {
      local = k;
      step = step_of m s.value k;
      answer = answer_of (step_of m s.value k).op (get_or s.words (number_of m (step_of m s.value k).place) 0);
      between = Advances one.local one.reply ∷ settling_told m refused one;
      before = length l.done;
      last = rested m l;
      told = refl;
      begins = refl;
      answers = refl;
      words = refl;
      locals = refl;
    }
