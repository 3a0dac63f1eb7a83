use Rattle.std.proofs.Common.{Some, map, subst}
use Rattle.std.specs.Prelude.{string_bytes}
use Rattle.slub_command.specs.declared.command.Command.TheVariants.{Layout, Load}
use Rattle.slub_command.specs.Command.{IsCommand}
use Rattle.slub_cli.proofs.Parts.{replay_worked}
use Rattle.slub_cli.proofs.Words.{few_cpus, few_load, replayed}
use Rattle.slub_cli.proofs.run.work.Goals as goal

pub returns-in-Replay-clause-worked : goal.returns-in-Replay-clause-worked
returns-in-Replay-clause-worked g c =
    let r = c.in-Replay in
    let words = map string_bytes c.args.words.now in
    replay_worked _ c.way_of-way.result r.how r.seed r.replies c.replay.new.trace c.replay.new.journal c.replay.result c.way_of-way.ensures
    (replayed words c.in-Ok.command r.how r.seed r.replies c.in-Ok.ensures.spells r.is) (c.replay.ensures.replayed words)

pub returns-in-Replay-clause-untouched : goal.returns-in-Replay-clause-untouched
returns-in-Replay-clause-untouched g c =
    let r = c.in-Replay in
    let asked = replayed (map string_bytes c.args.words.now) c.in-Ok.command r.how r.seed r.replies c.in-Ok.ensures.spells r.is in
    λ none. absurd (none (r.how, r.seed, r.replies, asked))

pub load-requires-clause-few_events : goal.load-requires-clause-few_events
load-requires-clause-few_events g c = λ κs lives.
    let l = c.in-Load in
    (few_load (map string_bytes c.args.words.now) l.seed l.events l.workers (subst (λ x. IsCommand (map string_bytes c.args.words.now) x) l.is c.in-Ok.ensures.spells)).0

pub load-requires-clause-some_workers : goal.load-requires-clause-some_workers
load-requires-clause-some_workers g c = λ κs lives.
    let l = c.in-Load in
    (few_load (map string_bytes c.args.words.now) l.seed l.events l.workers (subst (λ x. IsCommand (map string_bytes c.args.words.now) x) l.is c.in-Ok.ensures.spells)).1

pub load-requires-clause-few_workers : goal.load-requires-clause-few_workers
load-requires-clause-few_workers g c = λ κs lives.
    let l = c.in-Load in
    (few_load (map string_bytes c.args.words.now) l.seed l.events l.workers (subst (λ x. IsCommand (map string_bytes c.args.words.now) x) l.is c.in-Ok.ensures.spells)).2

pub returns-in-Load-clause-worked : goal.returns-in-Load-clause-worked
returns-in-Load-clause-worked g c =
    let l = c.in-Load in
    let whole = c.load.ensures.loaded in
    record {
      asked = Some (Load l.seed l.events l.workers);
      is_asked = subst (λ x. IsCommand (map string_bytes c.args.words.now) x) l.is c.in-Ok.ensures.spells;
      works = (whole.end, whole.told);
      lawful = whole.lawful;
    }

pub print_layout-requires-clause-some_cpu : goal.print_layout-requires-clause-some_cpu
print_layout-requires-clause-some_cpu g c =
    (few_cpus (map string_bytes c.args.words.now) c.in-Layout.spec c.in-Layout.cpus (subst (λ x. IsCommand (map string_bytes c.args.words.now) x) c.in-Layout.is c.in-Ok.ensures.spells)).0

pub print_layout-requires-clause-few_cpus : goal.print_layout-requires-clause-few_cpus
print_layout-requires-clause-few_cpus g c =
    (few_cpus (map string_bytes c.args.words.now) c.in-Layout.spec c.in-Layout.cpus (subst (λ x. IsCommand (map string_bytes c.args.words.now) x) c.in-Layout.is c.in-Ok.ensures.spells)).1

pub returns-in-Layout-clause-worked : goal.returns-in-Layout-clause-worked
returns-in-Layout-clause-worked g c =
    let l = c.in-Layout in
    record {
      asked = Some (Layout l.spec l.cpus);
      is_asked = subst (λ x. IsCommand (map string_bytes c.args.words.now) x) l.is c.in-Ok.ensures.spells;
      works = (c.print_layout.ensures.printed, c.requires.unread, c.requires.empty.total);
      lawful = (c.requires.unread, c.requires.empty);
    }
