use Rattle.std.proofs.Common.{◌≡◌, ℕ, ◌++◌, ◌∙◌, Bool, ◌||◌, List, length, take, drop, sym, ap, subst}
use Rattle.slub_core.specs.Local.{Local}
use Rattle.slub_core.specs.declared.guarded.Guarded.{Guarded}
use Rattle.slub_core.specs.Values.{rooms_of}
use Rattle.slub_turns.specs.Means.{the_means}
use Rattle.slub_workers.specs.Begun.{Begun}
use Rattle.slub_workers.specs.Standing.{Standing, counted, begun_in}
use Rattle.slub_workers.specs.Rule.{setup_in}
use Rattle.slub_workers.specs.Sits.{HasMade}
use Rattle.slub_workers.proofs.StepGoesOn.{may_begin}
use Rattle.slub_workers.proofs.Turning.{may_step, steps_so, leads_so, lent_whole, settled_so, settles_so, rests_so, settles, sits_again, stands_again, numbered_again, turned_again}
use Rattle.slub_workers.proofs.worker.turn_at.Goals as goal

pub step_at-step-requires : goal.step_at-step-requires
step_at-step-requires g c =
    let r = c.requires in
    let key : Begun = g.N.Naming.key in
    let x : Standing = g.N.Naming.standing in
    let tries : Bool = g.N.Naming.tries in
    let facts = ap (λ (k : Begun). k.facts) r.key ∙ c.args.shared.now.facts in
    let is = c.standing.view_is in
    let l : Local = c.standing.inside.local in
    let begins : l ≡ begun_in (setup_in key) tries x = ap (λ (y : Standing). y.local) is ∙ r.begun.local in
    let spot = c.spot-spot.result in
    let at : spot ≡ l.spot = c.spot-spot.ensures in
    may_step key c.args.shared.now.setup facts tries x l spot begins at (may_begin key tries x c.turns_keep_ready.ensures c.picks_fit.ensures r.begun.may).1

pub make-answer-requires-clause-steps : goal.make-answer-requires-clause-steps
make-answer-requires-clause-steps g c =
    let r = c.requires in
    let key : Begun = g.N.Naming.key in
    let x : Standing = g.N.Naming.standing in
    let tries : Bool = g.N.Naming.tries in
    let facts = ap (λ (k : Begun). k.facts) r.key ∙ c.args.shared.now.facts in
    let is = c.standing.view_is in
    let l : Local = c.standing.inside.local in
    let begins : l ≡ begun_in (setup_in key) tries x = ap (λ (y : Standing). y.local) is ∙ r.begun.local in
    let spot = c.spot-spot.result in
    let at : spot ≡ l.spot = c.spot-spot.ensures in
    let hand = ap (λ (y : Standing). y.values) is ∙ r.begun.values in
    record {
      sits = r.begun.sits;
      may = r.begun.may;
      hand = c.as_mut_slice.ensures.value ∙ hand;
      is = steps_so key c.args.shared.now.setup facts tries x c.deref.result.now l spot c.step_at-step.result (c.deref.ensures.value ∙ hand) begins at (c.step_at-step.ensures the_means);
    }

pub advance_at-reply-requires : goal.advance_at-reply-requires
advance_at-reply-requires g c =
    let r = c.requires in
    let key : Begun = g.N.Naming.key in
    let x : Standing = g.N.Naming.standing in
    let tries : Bool = g.N.Naming.tries in
    let facts = ap (λ (k : Begun). k.facts) r.key ∙ c.args.shared.now.facts in
    let is = c.standing.view_is in
    let l : Local = c.standing.inside.local in
    let begins : l ≡ begun_in (setup_in key) tries x = ap (λ (y : Standing). y.local) is ∙ r.begun.local in
    let spot = c.spot-spot.result in
    let at : spot ≡ l.spot = c.spot-spot.ensures in
    may_step key c.args.shared.now.setup facts tries x l spot begins at (may_begin key tries x c.turns_keep_ready.ensures c.picks_fit.ensures r.begun.may).1

pub settle-refused-requires : goal.settle-refused-requires
settle-refused-requires g c =
    let r = c.requires in
    let key : Begun = g.N.Naming.key in
    let x : Standing = g.N.Naming.standing in
    let tries : Bool = g.N.Naming.tries in
    let values : List Guarded = c.make-answer.new.values in
    let facts = ap (λ (k : Begun). k.facts) r.key ∙ c.args.shared.now.facts in
    let is = c.standing.view_is in
    let l : Local = c.standing.inside.local in
    let begins : l ≡ begun_in (setup_in key) tries x = ap (λ (y : Standing). y.local) is ∙ r.begun.local in
    let spot = c.spot-spot.result in
    let at : spot ≡ l.spot = c.spot-spot.ensures in
    let back = lent_whole c.standing.inside.values.len values c.standing.inside.values.items (c.make-answer.auto.values ∙ c.as_mut_slice.ensures.len) in
    let led = leads_so key c.args.shared.now.setup facts c.deref-2.result.now values l c.advance_at-reply.new.local spot c.make-answer.result c.advance_at-reply.result (c.deref-2.ensures.value ∙ back)
    (c.advance_at-reply.ensures the_means) in
    let fits = settles key tries x c.make-answer.new.seat.me values l c.advance_at-reply.new.local spot c.make-answer.result c.advance_at-reply.result c.make-answer.ensures.made begins at led in
    (the_means, settled_so key c.args.shared.now.setup facts c.as_mut_slice-2.result.now values c.advance_at-reply.new.local c.advance_at-reply.result (c.as_mut_slice-2.ensures.value ∙ back) fits)

pub returns : goal.returns
returns g c =
    let r = c.requires in
    let key : Begun = g.N.Naming.key in
    let x : Standing = g.N.Naming.standing in
    let tries : Bool = g.N.Naming.tries in
    let values : List Guarded = c.make-answer.new.values in
    let now : List Guarded = c.settle-refused.new.values in
    let after : Local = c.advance_at-reply.new.local in
    let reply = c.advance_at-reply.result in
    let refused : Bool = c.settle-refused.result in
    let facts = ap (λ (k : Begun). k.facts) r.key ∙ c.args.shared.now.facts in
    let is = c.standing.view_is in
    let l : Local = c.standing.inside.local in
    let begins : l ≡ begun_in (setup_in key) tries x = ap (λ (y : Standing). y.local) is ∙ r.begun.local in
    let spot = c.spot-spot.result in
    let at : spot ≡ l.spot = c.spot-spot.ensures in
    let tried : Bool = c.standing.inside.tried in
    let tried_is : tried ≡ (x.tried || tries) = ap (λ (y : Standing). y.tried) is ∙ r.begun.tried in
    let steps : ℕ = c.standing.inside.steps in
    let steps_is : steps ≡ counted x.steps 1 = ap (λ (y : Standing). y.steps) is ∙ r.begun.steps in
    let me = c.make-answer.new.seat.me in
    let answer = c.make-answer.result in
    let made = c.make-answer.ensures.made in
    let back = lent_whole c.standing.inside.values.len values c.standing.inside.values.items (c.make-answer.auto.values ∙ c.as_mut_slice.ensures.len) in
    let led = leads_so key c.args.shared.now.setup facts c.deref-2.result.now values l after spot answer reply (c.deref-2.ensures.value ∙ back) (c.advance_at-reply.ensures the_means) in
    let lent : c.as_mut_slice-2.result.now ≡ values = c.as_mut_slice-2.ensures.value ∙ back in
    let settle = settles_so key c.args.shared.now.setup facts c.as_mut_slice-2.result.now values after reply refused now c.settle-refused.new.local lent (c.settle-refused.ensures.change the_means) in
    let rooms = c.settle-refused.ensures.rooms ∙ ap (λ (v : List Guarded). rooms_of v) lent in
    let rest = rests_so key c.args.shared.now.setup facts c.settle-refused.new.local c.rest.new.local (c.rest.ensures the_means) in
    let step = c.step_at-step.result in
    let hand = ap (λ (y : Standing). y.values) is ∙ r.begun.values in
    let called = steps_so key c.args.shared.now.setup facts tries x c.deref.result.now l spot step (c.deref.ensures.value ∙ hand) begins at (c.step_at-step.ensures the_means) in
    let all : HasMade key tries x me (step, answer) record { local = c.rest.new.local; values = now; tried = tried; answer = answer; steps = steps } = record {
      sits = sits_again key tries x me values l after spot answer reply made begins at led now c.settle-refused.new.local c.rest.new.local refused settle.0 settle.1 rooms rest tried tried_is steps steps_is;
      may = stands_again key tries x me values l after spot answer reply made begins at led now c.settle-refused.new.local c.rest.new.local refused settle.0 settle.1 rooms rest tried tried_is steps steps_is;
      number = numbered_again key tries x me values l after spot answer reply made begins at led now c.settle-refused.new.local c.rest.new.local refused settle.0 settle.1 rooms rest tried tried_is steps steps_is;
      turned = turned_again key tries x me values l after spot answer reply made begins at led now c.settle-refused.new.local c.rest.new.local refused settle.0 settle.1 rooms rest tried tried_is steps steps_is step called;
    } in
    let whole = sym (lent_whole c.standing.inside.values.len now (take c.standing.inside.values.len (values ++ drop (length values) c.standing.inside.values.items)) (c.settle-refused.auto.values ∙ c.as_mut_slice-2.ensures.len)) in
    let P : List Guarded → Type 0 = λ v. HasMade key tries x me (step, answer) record { local = c.rest.new.local; values = v; tried = tried; answer = answer; steps = steps } in
    record {
      seat = c.make-answer.ensures.seat.0;
      made = subst P whole all;
    }
