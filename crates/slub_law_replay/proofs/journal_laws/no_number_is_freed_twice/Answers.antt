use Rattle.slub_law_replay.proofs.Moved.{freed_once, freed_was_given, given_once}
use Rattle.slub_law_replay.proofs.journal_laws.no_number_is_freed_twice.Goals as goal

pub returns : goal.returns
returns c =
    let way = c.args.way in
    let trace = c.args.trace.now in
    let journal = c.args.journal.now in
    record {
      once = λ object. freed_once way trace journal c.requires.sound c.requires.lawful object;
      given_first = λ object. freed_was_given way trace journal c.requires.sound c.requires.lawful object;
      given_once = λ object. given_once way trace journal c.requires.sound c.requires.lawful object;
    }
