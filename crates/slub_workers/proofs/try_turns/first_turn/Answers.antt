use Rattle.std.proofs.Common.{◌∙◌, Bool, true, ◌||◌, sym, ap, subst}
use Rattle.slub_core.specs.Local.{Local}
use Rattle.slub_core.specs.Steps.{begun}
use Rattle.slub_turns.specs.Fits.{BeginFits}
use Rattle.slub_workers.specs.Begun.{Begun}
use Rattle.slub_workers.specs.Standing.{Standing, counted}
use Rattle.slub_workers.specs.Rule.{setup_in}
use Rattle.slub_workers.specs.Sits.{Sits, MayStand}
use Rattle.slub_workers.specs.Try.{MayTry}
use Rattle.slub_workers.proofs.StepGoesOn.{may_begin}
use Rattle.slub_workers.proofs.Try.{begins, has_tried}
use Rattle.slub_workers.proofs.try_turns.first_turn.Goals as goal

pub begin_try-requires-clause-fits : goal.begin_try-requires-clause-fits
begin_try-requires-clause-fits g c =
    let P : Local → Type 0 = λ l. BeginFits l l.spot in
    subst P (sym (ap (λ (y : Standing). y.local) c.standing.view_is)) (may_begin c.args.shared.now.words.shared.key true c.args.standing.now c.turns_keep_ready.ensures c.picks_fit.ensures c.requires.may).0

pub begin_try-requires-clause-may : goal.begin_try-requires-clause-may
begin_try-requires-clause-may g c =
    let m = setup_in c.args.shared.now.words.shared.key in
    (m, subst (λ (l : Local). MayTry m l) (sym (ap (λ (y : Standing). y.local) c.standing.view_is)) c.requires.begins)

pub quick_turn-requires-clause-begun : goal.quick_turn-requires-clause-begun
quick_turn-requires-clause-begun g c =
    let r = c.requires in
    let key : Begun = g.N.Naming.key in
    let x : Standing = g.N.Naming.standing in
    let tries : Bool = g.N.Naming.tries in
    let m = setup_in c.args.shared.now.words.shared.key in
    let l : Local = c.standing.inside.local in
    let is = c.standing.view_is ∙ sym r.standing in
    let may = subst (λ (k : Local). MayTry m k) (sym (ap (λ (y : Standing). y.local) c.standing.view_is)) r.begins in
    record {
      sits = subst (λ (y : Standing). Sits c.args.seat.now.me y) (sym r.standing) r.sits;
      may = subst (λ (k : Begun). MayStand k x) (sym r.key) (subst (λ (y : Standing). MayStand c.args.shared.now.words.shared.key y) (sym r.standing) r.may);
      local = c.begin_try.ensures m may ∙ ap (λ (b : Bool). begun m b l) (sym r.tries) ∙ ap (λ (k : Begun). begun (setup_in k) tries l) (sym r.key) ∙ ap (λ (y : Standing). begun (setup_in key) tries y.local) is;
      values = ap (λ (y : Standing). y.values) is;
      tried = sym (has_tried x.tried) ∙ ap (λ (b : Bool). x.tried || b) (sym r.tries);
      steps = c.one_more-standing-inside.ensures ∙ ap (λ (y : Standing). counted y.steps 1) is;
    }

pub quick_turn-requires-clause-spot : goal.quick_turn-requires-clause-spot
quick_turn-requires-clause-spot g c =
    let m = setup_in c.args.shared.now.words.shared.key in
    let x : Standing = c.args.standing.now in
    let may = subst (λ (k : Local). MayTry m k) (sym (ap (λ (y : Standing). y.local) c.standing.view_is)) c.requires.begins in
    ap (λ (k : Local). k.spot) (c.begin_try.ensures m may ∙ ap (λ (y : Standing). begun m true y.local) c.standing.view_is ∙ begins m x c.requires.begins)
