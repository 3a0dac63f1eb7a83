use Rattle.std.proofs.Common.{◌≡◌, ℕ, ◌∙◌, Bool, ◌||◌, List, refl, sym, ap, subst}
use Rattle.slub_core.specs.Local.{Local}
use Rattle.slub_core.specs.declared.guarded.Guarded.{Guarded}
use Rattle.slub_core.specs.Values.{values_of}
use Rattle.slub_turns.specs.Means.{the_means}
use Rattle.slub_workers.specs.Begun.{Begun}
use Rattle.slub_workers.specs.Standing.{Standing, counted, begun_in}
use Rattle.slub_workers.specs.Rule.{setup_in}
use Rattle.slub_workers.specs.Sits.{HasMade}
use Rattle.slub_turns.specs.Quick.{spot_of}
use Rattle.slub_workers.proofs.StepGoesOn.{may_begin}
use Rattle.slub_workers.proofs.Turning.{may_step, steps_so, lent_whole}
use Rattle.slub_workers.proofs.AtFast.{hears, led_so, quickly}
use Rattle.slub_workers.proofs.quick.quick_turn.Goals as goal

pub quick_step-step-requires : goal.quick_step-step-requires
quick_step-step-requires g c =
    let r = c.requires in
    let key : Begun = g.N.Naming.key in
    let x : Standing = g.N.Naming.standing in
    let tries : Bool = g.N.Naming.tries in
    let facts = ap (λ (k : Begun). k.facts) r.key ∙ c.args.shared.now.facts in
    let l : Local = c.standing.inside.local in
    let begins : l ≡ begun_in (setup_in key) tries x = ap (λ (y : Standing). y.local) c.standing.view_is ∙ r.begun.local in
    let at : l.spot ≡ spot_of c.args.spot = ap (λ (y : Standing). y.local.spot) c.standing.view_is ∙ r.spot in
    may_step key c.args.shared.now.setup facts tries x l (spot_of c.args.spot) begins (sym at) (may_begin key tries x c.turns_keep_ready.ensures c.picks_fit.ensures r.begun.may).1

pub make-answer-requires-clause-steps : goal.make-answer-requires-clause-steps
make-answer-requires-clause-steps g c =
    let r = c.requires in
    let key : Begun = g.N.Naming.key in
    let x : Standing = g.N.Naming.standing in
    let tries : Bool = g.N.Naming.tries in
    let facts = ap (λ (k : Begun). k.facts) r.key ∙ c.args.shared.now.facts in
    let l : Local = c.standing.inside.local in
    let begins : l ≡ begun_in (setup_in key) tries x = ap (λ (y : Standing). y.local) c.standing.view_is ∙ r.begun.local in
    let at : l.spot ≡ spot_of c.args.spot = ap (λ (y : Standing). y.local.spot) c.standing.view_is ∙ r.spot in
    record {
      sits = r.begun.sits;
      may = r.begun.may;
      hand = c.as_mut_slice.ensures.value ∙ ap (λ (y : Standing). y.values) c.standing.view_is ∙ r.begun.values;
      is = steps_so key c.args.shared.now.setup facts tries x x.values l (spot_of c.args.spot) c.quick_step-step.result refl begins (sym at) (c.quick_step-step.ensures the_means (values_of x.values));
    }

pub lead-requires : goal.lead-requires
lead-requires g c =
    let r = c.requires in
    let key : Begun = g.N.Naming.key in
    let x : Standing = g.N.Naming.standing in
    let tries : Bool = g.N.Naming.tries in
    let facts = ap (λ (k : Begun). k.facts) r.key ∙ c.args.shared.now.facts in
    let l : Local = c.standing.inside.local in
    let begins : l ≡ begun_in (setup_in key) tries x = ap (λ (y : Standing). y.local) c.standing.view_is ∙ r.begun.local in
    let at : l.spot ≡ spot_of c.args.spot = ap (λ (y : Standing). y.local.spot) c.standing.view_is ∙ r.spot in
    (the_means, hears key tries x c.make-answer.new.seat.me c.make-answer.new.values l c.args.spot c.make-answer.result c.make-answer.ensures.made begins at c.args.shared.now.setup facts)

pub returns : goal.returns
returns g c =
    let r = c.requires in
    let key : Begun = g.N.Naming.key in
    let x : Standing = g.N.Naming.standing in
    let tries : Bool = g.N.Naming.tries in
    let values : List Guarded = c.make-answer.new.values in
    let facts = ap (λ (k : Begun). k.facts) r.key ∙ c.args.shared.now.facts in
    let l : Local = c.standing.inside.local in
    let begins : l ≡ begun_in (setup_in key) tries x = ap (λ (y : Standing). y.local) c.standing.view_is ∙ r.begun.local in
    let at : l.spot ≡ spot_of c.args.spot = ap (λ (y : Standing). y.local.spot) c.standing.view_is ∙ r.spot in
    let tried : Bool = c.standing.inside.tried in
    let tried_is : tried ≡ (x.tried || tries) = ap (λ (y : Standing). y.tried) c.standing.view_is ∙ r.begun.tried in
    let steps : ℕ = c.standing.inside.steps in
    let steps_is : steps ≡ counted x.steps 1 = ap (λ (y : Standing). y.steps) c.standing.view_is ∙ r.begun.steps in
    let me = c.make-answer.new.seat.me in
    let answer = c.make-answer.result in
    let step = c.quick_step-step.result in
    let called = steps_so key c.args.shared.now.setup facts tries x x.values l (spot_of c.args.spot) step refl begins (sym at) (c.quick_step-step.ensures the_means (values_of x.values)) in
    let led = led_so key tries x me values l c.args.spot answer c.make-answer.ensures.made begins at c.args.shared.now.setup facts c.lead.new.local (c.lead.ensures the_means) in
    let made = quickly key tries x me values l c.args.spot answer c.make-answer.ensures.made begins at c.lead.new.local led tried tried_is steps steps_is step called in
    let back = lent_whole c.standing.inside.values.len values c.standing.inside.values.items (c.make-answer.auto.values ∙ c.as_mut_slice.ensures.len) in
    let P : List Guarded → Type 0 = λ v. HasMade key tries x me (step, answer) record { local = c.lead.new.local; values = v; tried = tried; answer = answer; steps = steps } in
    record {
      seat = c.make-answer.ensures.seat.0;
      made = subst P (sym back) made;
    }
