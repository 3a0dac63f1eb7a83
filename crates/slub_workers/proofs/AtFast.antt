-- The turn at a spot of a fast path, on the table.
use Rattle.std.proofs.Common.{◌≡◌, ℕ, Bool, false, ◌||◌, List, refl, sym, ap, ◌∙◌, subst}
use Rattle.atomic_table.specs.Table.{Me}
use Rattle.slub_core.specs.declared.step.Step.{Step}
use Rattle.slub_core.specs.declared.step.Answer.{Answer}
use Rattle.slub_core.specs.Setup.{Setup}
use Rattle.slub_core.specs.Local.{Local, Turn, Change, noted, stays}
use Rattle.slub_core.specs.Steps.{advance_at, settled, rested}
use Rattle.slub_core.specs.declared.guarded.Guarded.{Guarded}
use Rattle.slub_core.specs.Facts.{Facts, setup_of}
use Rattle.slub_core.specs.Values.{values_of}
use Rattle.slub_core.specs.Ways as ways
use Rattle.slub_turns.specs.Fits.{HasCallFor}
use Rattle.slub_turns.specs.declared.quick.Quick.{Quick}
use Rattle.slub_turns.specs.Means.{the_means}
use Rattle.slub_turns.specs.Quick.{spot_of, MayHear, quick_to}
use Rattle.slub_turns.proofs.AtFast.{blindly, settles_at_fast, rests_at_fast}
use Rattle.slub_workers.specs.Begun.{Begun}
use Rattle.slub_workers.specs.Standing.{Standing, Fork, counted, begun_in, step_in}
use Rattle.slub_workers.specs.Rule.{setup_in}
use Rattle.slub_workers.specs.Sits.{Made, HasMade}
use Rattle.slub_workers.proofs.Turning.{settles, sits_again, stands_again, numbered_again, turned_again}

module _ (key : Begun) (tries : Bool) (x : Standing) (me : Me Guarded (List Fork)) (values : List Guarded) (l : Local) (s : Quick) (answer : Answer) (made : Made key tries x me values answer)
    (begins : l ≡ begun_in (setup_in key) tries x) (at : l.spot ≡ spot_of s) where
  abbrev turn : Turn
  turn = advance_at (setup_in key) (values_of values) l (spot_of s) answer

  -- who has a reply by it has a call without one
  pub hears : (facts : Facts) → key.facts ≡ facts → MayHear (setup_of facts the_means) l (spot_of s) answer
  hears facts same =
      let m = setup_in key in
      let heard : HasCallFor turn.local turn.reply = (settles key tries x me values l turn.local (spot_of s) answer turn.reply made begins (sym at) refl).first.call in
      let P : Turn → Type 0 = λ t. HasCallFor t.local t.reply in
      let Q : Setup → Type 0 = λ n. MayHear n l (spot_of s) answer in
      subst Q (ap (λ (f : Facts). setup_of f the_means) same) (subst P (blindly m (values_of values) l s answer) heard)

  -- its answer leads it there
  pub led_so : (facts : Facts) → key.facts ≡ facts → (after : Local) → after ≡ quick_to (setup_of facts the_means) l (spot_of s) answer → after ≡ quick_to (setup_in key) l (spot_of s) answer
  led_so facts same after led = led ∙ ap (λ (f : Facts). quick_to (setup_of f the_means) l (spot_of s) answer) (sym same)

  module _ (rests : Local) (led : rests ≡ quick_to (setup_in key) l (spot_of s) answer) (tried : Bool) (tried_is : tried ≡ (x.tried || tries)) (steps : ℕ) (steps_is : steps ≡ counted x.steps 1) where
    settle : settled (setup_in key) false (ways.changed values turn.local turn.reply) ≡ stays (values_of values) (noted turn.local turn.reply)
    settle = settles_at_fast (setup_in key) values l s answer at

    same_value : values_of values ≡ (settled (setup_in key) false (ways.changed values turn.local turn.reply)).value
    same_value = sym (ap (λ (c : Change). c.value) settle)

    settles_to : noted turn.local turn.reply ≡ noted (settled (setup_in key) false (ways.changed values turn.local turn.reply)).local (settled (setup_in key) false (ways.changed values turn.local turn.reply)).reply
    settles_to = sym (ap (λ (c : Change). noted c.local c.reply) settle)

    rest : rests ≡ rested (setup_in key) (noted turn.local turn.reply)
    rest = led ∙ rests_at_fast (setup_in key) values l s answer

    pub quickly : (step : Step) → step ≡ step_in (setup_in key) tries x → HasMade key tries x me (step, answer) record { local = rests; values = values; tried = tried; answer = answer; steps = steps }
    quickly step is =
        let k : Local = noted turn.local turn.reply in
        record {
          sits = sits_again key tries x me values l turn.local (spot_of s) answer turn.reply made begins (sym at) refl values k rests false same_value settles_to refl rest tried tried_is steps steps_is;
          may = stands_again key tries x me values l turn.local (spot_of s) answer turn.reply made begins (sym at) refl values k rests false same_value settles_to refl rest tried tried_is steps steps_is;
          number = numbered_again key tries x me values l turn.local (spot_of s) answer turn.reply made begins (sym at) refl values k rests false same_value settles_to refl rest tried tried_is steps steps_is;
          turned = turned_again key tries x me values l turn.local (spot_of s) answer turn.reply made begins (sym at) refl values k rests false same_value settles_to refl rest tried tried_is steps steps_is step is;
        }
