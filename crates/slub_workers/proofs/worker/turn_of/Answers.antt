use Rattle.std.proofs.Common.{◌∙◌, Bool, ◌||◌, sym, ap, subst}
use Rattle.slub_core.specs.Local.{Local}
use Rattle.slub_turns.specs.Fits.{BeginFits}
use Rattle.slub_turns.specs.Means.{the_means}
use Rattle.slub_workers.specs.Begun.{Begun}
use Rattle.slub_workers.specs.Standing.{Standing, counted}
use Rattle.slub_workers.specs.Sits.{Sits, MayStand, HasTurned}
use Rattle.slub_workers.proofs.StepGoesOn.{may_begin}
use Rattle.slub_workers.proofs.Turning.{begins_so}
use Rattle.slub_workers.proofs.worker.turn_of.Goals as goal

pub begin_next-requires : goal.begin_next-requires
begin_next-requires g c =
    let P : Local → Type 0 = λ l. BeginFits l l.spot in
    subst P (sym (ap (λ (y : Standing). y.local) c.standing.view_is)) (may_begin c.args.shared.now.words.shared.key c.args.tries c.args.standing.now c.turns_keep_ready.ensures c.picks_fit.ensures c.requires.may).0

pub turn_here-requires-clause-begun : goal.turn_here-requires-clause-begun
turn_here-requires-clause-begun g c =
    let r = c.requires in
    let key : Begun = g.N.Naming.key in
    let x : Standing = g.N.Naming.standing in
    let tries : Bool = g.N.Naming.tries in
    let facts = ap (λ (k : Begun). k.facts) r.key ∙ c.args.shared.now.facts in
    let is = c.standing.view_is ∙ sym r.standing in
    record {
      sits = subst (λ (y : Standing). Sits c.args.seat.now.me y) (sym r.standing) r.sits;
      may = subst (λ (k : Begun). MayStand k x) (sym r.key) (subst (λ (y : Standing). MayStand c.args.shared.now.words.shared.key y) (sym r.standing) r.may);
      local = begins_so key c.args.shared.now.setup facts c.args.tries tries (sym r.tries) x c.standing.inside.local c.begin_next.new.local (ap (λ (y : Standing). y.local) is) (c.begin_next.ensures the_means);
      values = ap (λ (y : Standing). y.values) is;
      tried = c.tried_with-standing-inside.ensures ∙ ap (λ (y : Standing). y.tried || c.args.tries) is ∙ ap (λ (b : Bool). x.tried || b) (sym r.tries);
      steps = c.one_more-standing-inside.ensures ∙ ap (λ (y : Standing). counted y.steps 1) is;
    }

pub returns : goal.returns
returns g c =
    let r = c.requires in
    let key : Begun = g.N.Naming.key in
    let x : Standing = g.N.Naming.standing in
    let made = c.turn_here.ensures.made in
    let after : Standing = c.turn_here.new.standing in
    let result = c.turn_here.result in
    let T : Begun → Bool → Standing → Type 0 = λ k b y. HasTurned k b y result after in
    record {
      seat = c.turn_here.ensures.seat;
      sits = made.sits;
      may = subst (λ (k : Begun). MayStand k after) r.key made.may;
      number = made.number ∙ ap (λ (y : Standing). y.local.worker) r.standing;
      turned = subst (λ (y : Standing). T c.args.shared.now.words.shared.key c.args.tries y) r.standing
          (subst (λ (k : Begun). T k c.args.tries x) r.key (subst (λ (b : Bool). T key b x) r.tries made.turned));
    }
