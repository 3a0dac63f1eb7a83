use Rattle.std.proofs.Common.{◌≡◌, ℕ, refl, sym, subst, List}
use Rattle.slub_lists.specs.State.{State}
use Rattle.slub_core.specs.Local.{Local}
use Rattle.slub_open_close.specs.Beside.{beside_of}
use Rattle.slub_open_close.specs.Ids.{AreIds}
use Rattle.slub_open_close.specs.Closing.{IsClosed, IsEnded}
use Rattle.slub_turns.specs.Means.{the_means}
use Rattle.slub_turns.specs.System.{system_of}
use Rattle.slub_law_opening.specs.Opening.{IsLaidDown}
use Rattle.slub_rounds.specs.Answers.{IsTold, MayTell}
use Rattle.slub_rounds.specs.Machine.{beside_in, system_in}
use Rattle.slub_rounds.specs.Rounds.{world_before}
use Rattle.slub_rounds.proofs.Machines.{ended-closes, ended-tells, ids-left}
use Rattle.slub_rounds.proofs.ends.closed.Goals as goal

pub close-lists-requires : goal.close-lists-requires
close-lists-requires c =
    let (s, ids, b, trace, ended) = c.requires in
    let lent : c.deref.result.now ≡ c.args.machine.locals.items = c.deref.ensures.value in
    let P : List Local → Type 0 = λ ls. IsEnded c.args.machine.setup c.args.machine.table c.args.machine.values.items c.args.rest ls s (beside_in b) (world_before s (beside_in b) c.args.round.now) in
    (s, beside_in b, world_before s (beside_in b) c.args.round.now, subst P (sym lent) (ended-closes s ids b trace c.args.round.now c.args.machine c.args.rest c.args.answers ended))

pub result_of-result-requires : goal.result_of-result-requires
result_of-result-requires c =
    let (s, ids, b, trace, ended) = c.requires in
    let lent : c.deref.result.now ≡ c.args.machine.locals.items = c.deref.ensures.value in
    let P : List Local → Type 0 = λ ls. IsEnded c.args.machine.setup c.args.machine.table c.args.machine.values.items c.args.rest ls s (beside_in b) (world_before s (beside_in b) c.args.round.now) in
    let Q : List Local → Type 0 = λ ls. IsClosed s (beside_in b) (system_of c.args.machine.table c.args.machine.values.items ls) c.close-lists.result.0 (beside_of c.close-lists.result.1 the_means) in
    let closes : IsClosed s (beside_in b) (system_in c.args.machine) c.close-lists.result.0 (beside_of c.close-lists.result.1 the_means) =
    subst Q lent (c.close-lists.ensures s (beside_in b) (world_before s (beside_in b) c.args.round.now) (subst P (sym lent) (ended-closes s ids b trace c.args.round.now c.args.machine c.args.rest c.args.answers ended))) in
    let held : c.deref-2.result.now ≡ c.args.machine.locals.items = c.deref-2.ensures.value in
    let T : List Local → Type 0 = λ ls. MayTell s c.close-lists.result.0 c.args.round.now ls c.args.answers in
    let tells = subst T (sym held) (ended-tells s ids b trace c.args.round.now c.args.machine c.args.rest c.args.answers c.close-lists.result.0 (beside_of c.close-lists.result.1 the_means) ended closes) in
    (s, tells)

pub end_round-requires : goal.end_round-requires
end_round-requires c =
    let (s, ids, b, trace, ended) = c.requires in
    let lent : c.deref.result.now ≡ c.args.machine.locals.items = c.deref.ensures.value in
    let P : List Local → Type 0 = λ ls. IsEnded c.args.machine.setup c.args.machine.table c.args.machine.values.items c.args.rest ls s (beside_in b) (world_before s (beside_in b) c.args.round.now) in
    let Q : List Local → Type 0 = λ ls. IsClosed s (beside_in b) (system_of c.args.machine.table c.args.machine.values.items ls) c.close-lists.result.0 (beside_of c.close-lists.result.1 the_means) in
    let closes : IsClosed s (beside_in b) (system_in c.args.machine) c.close-lists.result.0 (beside_of c.close-lists.result.1 the_means) =
    subst Q lent (c.close-lists.ensures s (beside_in b) (world_before s (beside_in b) c.args.round.now) (subst P (sym lent) (ended-closes s ids b trace c.args.round.now c.args.machine c.args.rest c.args.answers ended))) in
    record { coherent = closes.coherent }

pub returns : goal.returns
returns c = λ s ids b trace ended.
    let lent : c.deref.result.now ≡ c.args.machine.locals.items = c.deref.ensures.value in
    let P : List Local → Type 0 = λ ls. IsEnded c.args.machine.setup c.args.machine.table c.args.machine.values.items c.args.rest ls s (beside_in b) (world_before s (beside_in b) c.args.round.now) in
    let Q : List Local → Type 0 = λ ls. IsClosed s (beside_in b) (system_of c.args.machine.table c.args.machine.values.items ls) c.close-lists.result.0 (beside_of c.close-lists.result.1 the_means) in
    let closes : IsClosed s (beside_in b) (system_in c.args.machine) c.close-lists.result.0 (beside_of c.close-lists.result.1 the_means) =
    subst Q lent (c.close-lists.ensures s (beside_in b) (world_before s (beside_in b) c.args.round.now) (subst P (sym lent) (ended-closes s ids b trace c.args.round.now c.args.machine c.args.rest c.args.answers ended))) in
    let held : c.deref-2.result.now ≡ c.args.machine.locals.items = c.deref-2.ensures.value in
    let T : List Local → Type 0 = λ ls. MayTell s c.close-lists.result.0 c.args.round.now ls c.args.answers in
    let tells = subst T (sym held) (ended-tells s ids b trace c.args.round.now c.args.machine c.args.rest c.args.answers c.close-lists.result.0 (beside_of c.close-lists.result.1 the_means) ended closes) in
    let R : List Local → Type 0 = λ ls. IsTold s c.close-lists.result.0 c.args.round.now ls c.result_of-result.result in
    let L : State → Type 0 = λ t. IsLaidDown t in
    let tids : List ℕ = (beside_of c.close-lists.result.1 the_means).tids in
    let A : State → Type 0 = λ t. AreIds t tids in
    record {
      lists = c.close-lists.result.0;
      left = beside_of c.close-lists.result.1 the_means;
      closes = closes.closes;
      words = closes.words;
      after_is = c.end_round.ensures.on_board;
      ids_are = refl;
      coherent = c.end_round.ensures.coherent;
      laid_down = subst L (sym c.end_round.ensures.on_board) closes.again.laid_down;
      fit = subst A (sym c.end_round.ensures.on_board) (ids-left s c.close-lists.result.0 ids (beside_in b) (beside_of c.close-lists.result.1 the_means) (system_in c.args.machine) ended.may.stands closes);
      told = subst R held (c.result_of-result.ensures s tells);
    }
