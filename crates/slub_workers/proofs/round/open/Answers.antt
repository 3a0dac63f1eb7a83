use Rattle.std.proofs.Common.{◌≡◌, List, length, sym, ap, ◌∙◌, subst, arith}
use Rattle.slub_core.specs.Local.{Local}
use Rattle.slub_workers.specs.Begun.{Begun}
use Rattle.slub_workers.specs.Ends.{seated_first}
use Rattle.slub_workers.specs.Ranks.{AreFresh}
use Rattle.slub_workers.specs.Round.{begun_by}
use Rattle.slub_workers.specs.Workers.{countdown}
use Rattle.slub_workers.proofs.Opening.{fresh_of}
use Rattle.slub_workers.proofs.round.open.Goals as goal

pub seat_all-list-requires-clause-fresh : goal.seat_all-list-requires-clause-fresh
seat_all-list-requires-clause-fresh c =
    let o = c.in_ok-shared.ensures in
    let P : Begun → Type 0 = λ k. AreFresh k c.in_ok-shared.field-0.locals.items in
    let Q : List Local → Type 0 = λ ls. AreFresh (begun_by c.args.machine) ls in
    subst P (sym o.key) (subst Q (sym (ap (λ v. v.items) o.locals)) (fresh_of (begun_by c.args.machine) c.requires.work))

pub returns-clause-seated : goal.returns-clause-seated
returns-clause-seated c =
    let o = c.in_ok-shared.ensures in
    let r = c.in-Ok.ensures in
    let s = c.seat_all-list.ensures in
    let same : length c.in_ok-shared.field-0.locals.items ≡ length c.args.machine.locals.items = ap (λ v. length v.items) o.locals in
    let known : length c.in_ok-shared.field-0.shared.words.shared.key.locals ≡ length c.args.machine.locals.items = ap (λ (k : Begun). length k.locals) o.key in
    let done = r.done.1 in
    let left = s.locals.1 in
    let ok = c.in_ok-shared.field-0.locals.ok in
    record {
      first = s.first ∙ ap (λ (ls : List Local). seated_first c.in_ok-shared.field-0.shared.words.shared.table_id ls) (ap (λ v. v.items) o.locals ∙ sym (ap (λ (k : Begun). k.locals) o.key));
      list = s.seated;
      idle = s.idle;
      numbers = s.numbers ∙ ap countdown (same ∙ sym known);
      room = record {
        seat = (s.root.0 ∙ o.root.0, s.root.1);
        values = r.values;
        locals = (s.locals.0, omega (arith, same, known, left, ok.0, ok.1));
        done = (r.done.0, omega (arith, known, done));
      };
    }
