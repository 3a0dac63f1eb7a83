use Rattle.std.proofs.Common.{◌≡◌, ℕ, List, length, sym, ap, ◌∙◌, subst, arith}
use Rattle.atomic_table.specs.Table.{opening}
use Rattle.slub_schedule.specs.Table.{WordTable}
use Rattle.slub_turns.specs.declared.machine.StepMachine.{StepMachine}
use Rattle.slub_workers.specs.Begun.{Begun}
use Rattle.slub_workers.specs.Cells.{by_number}
use Rattle.slub_workers.specs.Rule.{Holds, first_view, setup_in}
use Rattle.slub_workers.specs.Round.{begun_by}
use Rattle.slub_workers.proofs.Cells.{length-by_number}
use Rattle.slub_workers.proofs.Opening.{opens}
use Rattle.slub_workers.proofs.Sizes.{many-frames}
use Rattle.slub_workers.proofs.StepReady.{many-guards}
use Rattle.slub_workers.proofs.shared.Shared.open.Goals as goal

pub cells_of-requires : goal.cells_of-requires
cells_of-requires c =
    let m : StepMachine = c.args.machine in
    let many = many-frames m.setup m.table m.values.items m.locals.items c.requires.work.ready in
    let f = c.requires.work.ready.sizes.frames in
    let o = c.requires.work.ready.sizes.objects in
    let count = c.requires.work.ready.may.coherent.words in
    omega arith

pub new-made-requires : goal.new-made-requires
new-made-requires c =
    let m : StepMachine = c.args.machine in
    let table : c.cells_of.new.table ≡ m.table = c.cells_of.ensures.table in
    let whole : record m { table = c.cells_of.new.table } ≡ m = λ i. record m { table = table i } in
    let cells : c.as_slice.result.now ≡ by_number m.table.words = c.as_slice.ensures.value ∙ c.in-Ok.ensures.cells in
    let one : Holds (begun_by m) (opening c.as_slice.result.now m.values.items (first_view (begun_by m))) =
    subst (λ (ws : List ℕ). Holds (begun_by m) (opening ws m.values.items (first_view (begun_by m)))) (sym cells) (opens (begun_by m) c.requires.work) in
    subst (λ (n : StepMachine). Holds (begun_by n) (opening c.as_slice.result.now m.values.items (first_view (begun_by n)))) (sym (c.of.ensures ∙ whole)) one

pub keep_cells-requires-clause-all : goal.keep_cells-requires-clause-all
keep_cells-requires-clause-all c =
    let m : StepMachine = c.args.machine in
    let many = many-frames m.setup m.table m.values.items m.locals.items c.requires.work.ready in
    let f = c.requires.work.ready.sizes.frames in
    let o = c.requires.work.ready.sizes.objects in
    let count = c.requires.work.ready.may.coherent.words in
    let table : c.cells_of.new.table ≡ m.table = c.cells_of.ensures.table in
    let long : length c.cells_of.new.table.words ≡ length m.table.words = ap (λ (t : WordTable). length t.words) table in
    omega arith

pub keep_cells-requires-clause-cells : goal.keep_cells-requires-clause-cells
keep_cells-requires-clause-cells c = c.in-Ok.ensures.cells ∙ ap (λ (t : WordTable). by_number t.words) (sym c.cells_of.ensures.table)

pub invariant_of-result : goal.invariant_of-result
invariant_of-result c =
    let m : StepMachine = c.args.machine in
    let e = c.in-Ok-made.ensures.ok in
    let table : c.cells_of.new.table ≡ m.table = c.cells_of.ensures.table in
    let kept : c.keep_cells.new.table ≡ m.table = c.keep_cells.ensures ∙ table in
    let whole : record m { table = c.cells_of.new.table } ≡ m = λ i. record m { table = table i } in
    let key : c.in-Ok-made.words.shared.key ≡ begun_by m = e.5 ∙ ap (λ (n : StepMachine). begun_by n) (c.of.ensures ∙ whole) in
    let s = c.requires.work.ready.sizes in
    let k = c.requires.sizes in
    let many = many-frames m.setup m.table m.values.items m.locals.items c.requires.work.ready in
    let a = k.0 in
    let b = k.1 in
    let cells : c.as_slice.result.now ≡ by_number m.table.words = c.as_slice.ensures.value ∙ c.in-Ok.ensures.cells in
    let long : length c.as_slice.result.now ≡ length m.table.words = ap length cells ∙ length-by_number m.table.words in
    let count = c.requires.work.ready.may.coherent.words in
    record {
      sizes = (s.frames ∙ sym k.0, s.objects ∙ sym k.1);
      many = omega (arith, many, s.frames);
      words_are = e.0 ∙ long ∙ omega arith;
      slots = e.1 ∙ many-guards (setup_in (begun_by m)) m.values.items c.requires.work.ready.full;
      facts = ap (λ (b : Begun). b.facts) key;
      stood = ap (λ (b : Begun). b.table) key ∙ sym kept;
      room = ap (λ (t : WordTable). length t.words) kept ∙ sym (e.0 ∙ long);
    }
