-- The turn of a worker at its seat, step by step.
use Rattle.std.proofs.Common.{◌≡◌, ℕ, Bool, ◌||◌, List, ◌++◌, length, take, drop, Option, sym, ap, ◌∙◌, subst}
use Rattle.slub_trace.specs.declared.reply.Reply.{Reply}
use Rattle.atomic_table.specs.Table.{Me}
use Rattle.slub_core.specs.declared.spot.Spot.{Spot}
use Rattle.slub_core.specs.declared.step.Answer.{Answer}
use Rattle.slub_core.specs.declared.step.Step.{Step}
use Rattle.slub_core.specs.Setup.{Setup}
use Rattle.slub_core.specs.Words.{answer_of}
use Rattle.slub_core.specs.Local.{Local, Turn, Change, noted}
use Rattle.slub_core.specs.Steps.{step_at, advance_at, settled, rested, begun}
use Rattle.slub_core.specs.declared.guarded.Guarded.{Guarded}
use Rattle.slub_core.specs.Facts.{Facts, setup_of}
use Rattle.slub_core.specs.Values.{values_of, rooms_of}
use Rattle.slub_core.specs.Ways as ways
use Rattle.slub_turns.specs.Fits.{StepFits, change_of}
use Rattle.slub_turns.specs.Means.{the_means}
use Rattle.slub_turns.specs.SettledFits.{SettledFits}
use Rattle.slub_turns.proofs.Turned.{step_fits}
use Rattle.slub_turns.proofs.Alone.{back_whole}
use Rattle.slub_workers.specs.Begun.{Begun}
use Rattle.slub_workers.specs.Locks.{locks_of, slots_out}
use Rattle.slub_workers.specs.Standing.{Standing, Fork, counted, begun_in, step_in, in_hand, after_turn, fork_after, all_guarded}
use Rattle.slub_workers.specs.Rule.{setup_in}
use Rattle.slub_workers.specs.Sits.{Sits, MayStand, Made, HasTurned}
use Rattle.slub_workers.proofs.StepValues.{all_guarded_is}
use Rattle.slub_workers.proofs.Moves.{branch_after}

-- ---- what the calls of a turn say, of the machine of the round

-- the facts that a program has are those of the round
abbrev round_of : (key : Begun) (facts : Facts) → key.facts ≡ facts → setup_of facts the_means ≡ setup_in key
round_of key facts same = ap (λ (f : Facts). setup_of f the_means) (sym same)

pub begins_so : (key : Begun) (facts : Facts) → key.facts ≡ facts → (given tries : Bool) → given ≡ tries → (x : Standing) (local l : Local) → local ≡ x.local → l ≡ begun (setup_of facts the_means) given local → l ≡ begun_in (setup_in key) tries x
begins_so key facts same given tries alike x local l is begins =
    begins ∙ ap (λ (b : Bool). begun (setup_of facts the_means) b local) alike ∙ ap (λ (m : Setup). begun m tries local) (round_of key facts same) ∙ ap (λ (k : Local). begun (setup_in key) tries k) is

pub may_step : (key : Begun) (facts : Facts) → key.facts ≡ facts → (tries : Bool) (x : Standing) (l : Local) (spot : Spot) → l ≡ begun_in (setup_in key) tries x → spot ≡ l.spot
    → StepFits (setup_in key).step (begun_in (setup_in key) tries x) (begun_in (setup_in key) tries x).spot → StepFits facts.step l spot
may_step key facts same tries x l spot begins at fits =
    let P : ℕ → Type 0 = λ n. StepFits n l spot in
    subst P (ap (λ (f : Facts). f.step) same) (step_fits key.facts.step (begun_in (setup_in key) tries x) l spot begins at fits)

pub steps_so : (key : Begun) (facts : Facts) → key.facts ≡ facts → (tries : Bool) (x : Standing) (seen : List Guarded) (l : Local) (spot : Spot) (step : Step) → seen ≡ x.values → l ≡ begun_in (setup_in key) tries x
    → spot ≡ l.spot → step ≡ step_at (setup_of facts the_means) (values_of seen) l spot → step ≡ step_in (setup_in key) tries x
steps_so key facts same tries x seen l spot step hand begins at is =
    let m = setup_in key in
    is ∙ ap (λ (n : Setup). step_at n (values_of seen) l spot) (round_of key facts same)
    ∙ ap (λ (g : List Guarded). step_at m (values_of g) l spot) hand
    ∙ ap (λ (s : Spot). step_at m (values_of x.values) l s) at
    ∙ ap (λ (k : Local). step_at m (values_of x.values) k k.spot) begins

pub leads_so : (key : Begun) (facts : Facts) → key.facts ≡ facts → (seen values : List Guarded) (l after : Local) (spot : Spot) (answer : Answer) (reply : Option Reply) → seen ≡ values
    → ways.turned after reply ≡ advance_at (setup_of facts the_means) (values_of seen) l spot answer → ways.turned after reply ≡ advance_at (setup_in key) (values_of values) l spot answer
leads_so key facts same seen values l after spot answer reply hand led =
    led ∙ ap (λ (n : Setup). advance_at n (values_of seen) l spot answer) (round_of key facts same) ∙ ap (λ (g : List Guarded). advance_at (setup_in key) (values_of g) l spot answer) hand

pub settled_so : (key : Begun) (facts : Facts) → key.facts ≡ facts → (seen values : List Guarded) (after : Local) (reply : Option Reply) → seen ≡ values
    → SettledFits (setup_in key) values (ways.changed values after reply) → SettledFits (setup_of facts the_means) seen (ways.changed seen after reply)
settled_so key facts same seen values after reply hand fits =
    subst (λ (m : Setup). SettledFits m seen (ways.changed seen after reply)) (sym (round_of key facts same))
    (subst (λ (g : List Guarded). SettledFits (setup_in key) g (ways.changed g after reply)) (sym hand) fits)

pub settles_so : (key : Begun) (facts : Facts) → key.facts ≡ facts → (seen values : List Guarded) (after : Local) (reply : Option Reply) (refused : Bool) (now : List Guarded) (l : Local) → seen ≡ values
    → (let c = settled (setup_of facts the_means) refused (ways.changed seen after reply) in (values_of now ≡ c.value) × (l ≡ noted c.local c.reply))
    → (let c = settled (setup_in key) refused (ways.changed values after reply) in (values_of now ≡ c.value) × (l ≡ noted c.local c.reply))
settles_so key facts same seen values after reply refused now l hand done =
    let P : Setup → List Guarded → Type 0 = λ m g. let c = settled m refused (ways.changed g after reply) in (values_of now ≡ c.value) × (l ≡ noted c.local c.reply) in
    subst (λ (g : List Guarded). P (setup_in key) g) hand (subst (λ (m : Setup). P m seen) (round_of key facts same) done)

pub rests_so : (key : Begun) (facts : Facts) → key.facts ≡ facts → (l k : Local) → k ≡ rested (setup_of facts the_means) l → k ≡ rested (setup_in key) l
rests_so key facts same l k rest = rest ∙ ap (λ (m : Setup). rested m l) (round_of key facts same)

-- what was lent as a whole is there again
pub lent_whole : (n : ℕ) (ys items : List Guarded) → length ys ≡ n → take n (ys ++ drop (length ys) items) ≡ ys
lent_whole = back_whole

-- ---- the turn

-- after its step, where the answer leads it
module _ (key : Begun) (tries : Bool) (x : Standing) (me : Me Guarded (List Fork)) (values : List Guarded) (l after : Local) (spot : Spot) (answer : Answer) (reply : Option Reply) (made : Made key tries x me values answer)
    (begins : l ≡ begun_in (setup_in key) tries x) (at : spot ≡ l.spot) (led : ways.turned after reply ≡ advance_at (setup_in key) (values_of values) l spot answer) where
  abbrev hand : List Guarded
  hand = in_hand (setup_in key) tries x made.found made.value

  abbrev start : Change
  start =
      let k = begun_in (setup_in key) tries x in
      change_of (advance_at (setup_in key) (values_of hand) k k.spot (answer_of (step_in (setup_in key) tries x).op made.found)) (values_of hand)

  start_is : ways.changed values after reply ≡ start
  start_is =
      let m = setup_in key in
      let f : List Guarded → Local → Spot → Answer → Change = λ g k s a. change_of (advance_at m (values_of g) k s a) (values_of g) in
      ap (λ (t : Turn). change_of t (values_of values)) led
      ∙ ap (λ (s : Spot). f values l s answer) at
      ∙ ap (λ (k : Local). f values k k.spot answer) begins
      ∙ ap (λ (g : List Guarded). f g (begun_in m tries x) (begun_in m tries x).spot answer) made.values_are
      ∙ ap (λ (a : Answer). f hand (begun_in m tries x) (begun_in m tries x).spot a) made.answer_is

  pub settles : SettledFits (setup_in key) values (ways.changed values after reply)
  settles =
      let m = setup_in key in
      subst (λ (c : Change). SettledFits m values c) (sym start_is) (subst (λ (g : List Guarded). SettledFits m g start) (sym made.values_are) made.goes_on.settles)

  -- all of the turn
  module _ (now : List Guarded) (settles_to rests : Local) (refused : Bool) (value : values_of now ≡ (settled (setup_in key) refused (ways.changed values after reply)).value)
      (settle : settles_to ≡ noted (settled (setup_in key) refused (ways.changed values after reply)).local (settled (setup_in key) refused (ways.changed values after reply)).reply)
      (rooms : rooms_of now ≡ rooms_of values) (rest : rests ≡ rested (setup_in key) settles_to) (tried : Bool) (tried_is : tried ≡ (x.tried || tries)) (steps : ℕ) (steps_is : steps ≡ counted x.steps 1) where
    abbrev pub standing : Standing
    standing = record { local = rests; values = now; tried = tried; answer = answer; steps = steps }

    pub turned_is : standing ≡ after_turn (setup_in key) tries x made.found made.value refused
    turned_is =
        let m = setup_in key in
        let local : rests ≡ (after_turn m tries x made.found made.value refused).local =
        rest ∙ ap (λ (k : Local). rested m k) settle ∙ ap (λ (c : Change). rested m (noted (settled m refused c).local (settled m refused c).reply)) start_is in
        let guards : all_guarded (rooms_of hand) (settled m refused start).value ≡ now =
        all_guarded_is _ _ _ (value ∙ ap (λ (c : Change). (settled m refused c).value) start_is) (rooms ∙ ap rooms_of made.values_are) in
        λ i. record { local = local i; values = sym guards i; tried = tried_is i; answer = made.answer_is i; steps = steps_is i }

    pub sits_again : Sits me standing
    sits_again =
        let m = setup_in key in
        record {
          fork = fork_after m tries x made.found made.value;
          refused = refused;
          view = made.view;
          here = turned_is ∙ branch_after m tries x made.found made.value refused;
          slots = made.slots refused ∙ ap (λ (y : Standing). slots_out (locks_of y.local)) (sym turned_is);
        }

    pub stands_again : MayStand key standing
    stands_again = subst (λ (y : Standing). MayStand key y) (sym turned_is) (made.goes_on.stands refused)

    pub numbered_again : rests.worker ≡ x.local.worker
    numbered_again = ap (λ (y : Standing). y.local.worker) turned_is ∙ made.number refused

    pub turned_again : (step : Step) → step ≡ step_in (setup_in key) tries x → HasTurned key tries x (step, answer) standing
    turned_again step is = record {
      found = made.found;
      value = made.value;
      refused = refused;
      step = is;
      answer = made.answer_is ∙ ap (λ (s : Step). answer_of s.op made.found) (sym is);
      leads = turned_is;
    }
