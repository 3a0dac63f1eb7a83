use Rattle.std.proofs.Common.{◌≡◌, ◌∙◌, ap, sym, length}
use Rattle.slub_core.specs.Setup.{Setup}
use Rattle.slub_core.specs.Opening.{opened}
use Rattle.slub_core.specs.Facts.{Facts, setup_of}
use Rattle.slub_core.specs.Values.{rooms_of}
use Rattle.slub_schedule.specs.Table.{WordTable}
use Rattle.slub_turns.specs.Means.{the_means}
use Rattle.slub_rounds.proofs.begins.begun.Goals as goal

pub returns-clause-begun : goal.returns-clause-begun
returns-clause-begun c = λ s b round opens workers.
    let kept = c.open.ensures in
    let frames : c.args.opened.setup.frames ≡ s.frames = ap (λ (m : Setup). m.frames) (opens.setup the_means) in
    let objects : c.args.opened.setup.objects ≡ length s.board = ap (λ (m : Setup). m.objects) (opens.setup the_means) in
    record {
      setup = ap (λ (f : Facts). setup_of f the_means) kept.setup ∙ opens.setup the_means;
      system = kept.system ∙ (λ i. opened (opens.setup the_means i) (record { words = opens.words the_means i; value = opens.values i; locals = workers i }));
      sizes = record {
        frames = ap (λ (f : Facts). f.frames) kept.setup ∙ frames ∙ sym (ap (λ (t : WordTable). t.frames) kept.table ∙ opens.frames);
        objects = ap (λ (f : Facts). f.objects) kept.setup ∙ objects ∙ sym (ap (λ (t : WordTable). t.objects) kept.table ∙ opens.objects);
      };
      full = ap (λ v. rooms_of v.items) kept.values ∙ opens.rooms;
      waiting = opens.rest;
    }
