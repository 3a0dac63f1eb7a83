-- The turn of a worker that is alone, step by step.
use Rattle.std.proofs.Common.{◌≡◌, ℕ, ◌∙◌, Bool, false, List, [], ◌∷◌, get_or, set, Option, refl, sym, ap, subst}
use Rattle.slub_trace.specs.declared.reply.Reply.{Reply}
use Rattle.slub_core.specs.declared.spot.Spot.{Spot}
use Rattle.slub_core.specs.declared.step.Step.{Step}
use Rattle.slub_core.specs.declared.step.Answer.{Answer}
use Rattle.slub_core.specs.Setup.{Setup, Means}
use Rattle.slub_core.specs.Words.{number_of, after_op, answer_of}
use Rattle.slub_core.specs.Local.{Local, Turn, Change, noted}
use Rattle.slub_core.specs.Steps.{step_at, advance_at, changed, settled, rested, begun, told}
use Rattle.slub_core.specs.Run.{System, after_step, turn}
use Rattle.slub_core.specs.declared.guarded.Guarded.{Guarded}
use Rattle.slub_core.specs.Facts.{Facts, setup_of}
use Rattle.slub_core.specs.Values.{values_of, rooms_of}
use Rattle.slub_core.specs.Ways as ways
use Rattle.slub_schedule.specs.Table.{WordTable}
use Rattle.slub_turns.specs.Fits.{StepFits, HasRooms, HasCallFor, ChangeFits, TurnFits, PickFits, change_of, after_answer}
use Rattle.slub_turns.specs.declared.quick.Quick.{Quick}
use Rattle.slub_turns.specs.SettledFits.{GuardedFits, SettledFits}
use Rattle.slub_turns.specs.Quick.{spot_of, MayHear, quick_to}
use Rattle.slub_turns.specs.System.{alone, picked_alone}
use Rattle.slub_turns.proofs.AtFast.{blindly, settles_at_fast, rests_at_fast}

-- what is asked of the step of a worker that has begun
pub step_fits : (step : ℕ) (k l : Local) (spot : Spot) → l ≡ k → spot ≡ l.spot → StepFits step k k.spot → StepFits step l spot
step_fits step k l spot is at fits =
    let P : Local → Type 0 = λ x. StepFits step x x.spot in
    let Q : Spot → Type 0 = λ s. StepFits step l s in
    subst Q (sym at) (subst P (sym is) fits)

-- the step, its word and its answer are those of the definitions
module _ (m : Setup) (table : WordTable) (values : List Guarded) (l : Local) (spot : Spot) (step : Step) (at : spot ≡ l.spot) (made : step ≡ step_at m (values_of values) l spot) where
  abbrev the_step : Spot → Step
  the_step s = step_at m (values_of values) l s

  abbrev word_under : Step → ℕ
  word_under t = get_or table.words (number_of m t.place) 0

  pub step_is : step ≡ step_at m (values_of values) l l.spot
  step_is = made ∙ ap (λ (s : Spot). the_step s) at

  module _ (answer : Answer) (after : Local) (reply : Option Reply) (told : answer ≡ answer_of step.op (get_or table.words (number_of m step.place) 0))
      (led : ways.turned after reply ≡ advance_at m (values_of values) l spot answer) where
    abbrev led_to : Spot → Answer → Change
    led_to s a = change_of (advance_at m (values_of values) l s a) (values_of values)

    pub answer_is : ways.changed values after reply ≡ after_answer m (alone table values l) l
    answer_is =
        ap (λ (t : Turn). change_of t (values_of values)) led
        ∙ ap (λ (a : Answer). led_to spot a) (told ∙ ap (λ (t : Step). answer_of t.op (word_under t)) step_is)
        ∙ ap (λ (s : Spot). led_to s (answer_of (the_step l.spot).op (word_under (the_step l.spot)))) at

-- what is asked of what is done at once: what fits all values with room in the node lists fits these
guarded_fits : (m : Setup) (guarded : List Guarded) (c : Change) → HasRooms m (rooms_of guarded) → values_of guarded ≡ c.value → ChangeFits m c → GuardedFits guarded c
guarded_fits m guarded c room value fits = record { call = fits.call; at_once = fits.at_once guarded (record { values = value; rooms = room }) }

pub settled_fits : (m : Setup) (guarded : List Guarded) (s : System) (l k : Local) (reply : Option Reply) → ((refused : Bool) → TurnFits m refused s l) → HasRooms m (rooms_of guarded)
    → ways.changed guarded k reply ≡ after_answer m s l → SettledFits m guarded (ways.changed guarded k reply)
settled_fits m guarded s l k reply fits room is =
    let P : Change → Type 0 = λ c. ChangeFits m c in
    let Q : Change → Type 0 = λ c. (refused : Bool) → ChangeFits m (changed m refused c) in
    let R : Change → Type 0 = λ c. (refused : Bool) → let d = changed m refused (changed m refused c) in HasCallFor d.local d.reply in
    let second = subst Q (sym is) (λ refused. (fits refused).second) in
    let rooms : List ℕ → Type 0 = λ rs. HasRooms m rs in
    record {
      first = guarded_fits m guarded (ways.changed guarded k reply) room refl (subst P (sym is) (fits false).first);
      second = λ refused after value same. guarded_fits m after (changed m refused (ways.changed guarded k reply)) (subst rooms (sym same) room) value (second refused);
      last = subst R (sym is) (λ refused. (fits refused).last);
    }

-- all of the turn of a worker that has begun its call
pub turn_is : (m : Setup) (table after : WordTable) (values now : List Guarded) (k n l : Local) (step : Step) (c : Change) (refused : Bool)
    → step ≡ step_at m (values_of values) k k.spot
    → after.words ≡ set table.words (number_of m step.place) (after_op step.op (get_or table.words (number_of m step.place) 0))
    → c ≡ after_answer m (alone table values k) k
    → values_of now ≡ (settled m refused c).value → n ≡ noted (settled m refused c).local (settled m refused c).reply → l ≡ rested m n
    → alone after now l ≡ after_step m refused (alone table values k) 0 k
turn_is m table after values now k n l step c refused made words led value settle rest =
    let words_are = words ∙ ap (λ (t : Step). set table.words (number_of m t.place) (after_op t.op (get_or table.words (number_of m t.place) 0))) made in
    let values_are = value ∙ ap (λ (x : Change). (settled m refused x).value) led in
    let local_is = rest ∙ ap (λ (x : Local). rested m x) settle ∙ ap (λ (x : Change). rested m (noted (settled m refused x).local (settled m refused x).reply)) led in
    λ i. record { words = words_are i; value = values_are i; locals = local_is i ∷ [] }

-- the same, where it begins the call with it
pub begun_turn : (m : Setup) (tries refused : Bool) (table after : WordTable) (values now : List Guarded) (local k l : Local) → k ≡ begun m tries local
    → alone after now l ≡ after_step m refused (alone table values k) 0 k
    → alone after now l ≡ turn m (alone table values local) (record { worker = 0; refused = refused; tries = tries })
begun_turn m tries refused table after values now local k l is turned = turned ∙ ap (λ (x : Local). after_step m refused (alone table values x) 0 x) is

-- what is asked of it
pub begun_fits : (m : Setup) (tries : Bool) (table : WordTable) (values : List Guarded) (local k : Local) → k ≡ begun m tries local → PickFits m (alone table values local) (picked_alone tries)
    → (refused : Bool) → TurnFits m refused (alone table values k) k
begun_fits m tries table values local k is fits refused =
    let P : Local → Type 0 = λ x. TurnFits m refused (alone table values x) x in
    let t = fits.turn refused in
    subst P (sym is) (record { step = t.step; first = t.first; second = t.second; last = t.last })

-- at a spot of a fast path: the values of the locks decide nothing, and stay
pub fast_turn_is : (m : Setup) (table after : WordTable) (values : List Guarded) (k l : Local) (s : Quick) (step : Step) (answer : Answer) → k.spot ≡ spot_of s
    → step ≡ step_at m (values_of values) k (spot_of s)
    → after.words ≡ set table.words (number_of m step.place) (after_op step.op (get_or table.words (number_of m step.place) 0))
    → answer ≡ answer_of step.op (get_or table.words (number_of m step.place) 0)
    → l ≡ quick_to m k (spot_of s) answer
    → alone after values l ≡ after_step m false (alone table values k) 0 k
fast_turn_is m table after values k l s step answer at made words heard led =
    let t : Turn = advance_at m (values_of values) k (spot_of s) answer in
    let c : Change = ways.changed values t.local t.reply in
    let settle = settles_at_fast m values k s answer at in
    turn_is m table after values values k (told t) l step c false (step_is m table values k (spot_of s) step (sym at) made) words
    (answer_is m table values k (spot_of s) step (sym at) made answer t.local t.reply heard refl)
    (sym (ap (λ (x : Change). x.value) settle)) (sym (ap (λ (x : Change). noted x.local x.reply) settle)) (led ∙ rests_at_fast m values k s answer)

-- who has a reply by it has a call without one
pub fast_hears : (m : Setup) (table : WordTable) (values : List Guarded) (k : Local) (s : Quick) (step : Step) (answer : Answer) → k.spot ≡ spot_of s
    → step ≡ step_at m (values_of values) k (spot_of s)
    → answer ≡ answer_of step.op (get_or table.words (number_of m step.place) 0)
    → TurnFits m false (alone table values k) k → MayHear m k (spot_of s) answer
fast_hears m table values k s step answer at made heard fits =
    let t : Turn = advance_at m (values_of values) k (spot_of s) answer in
    let is = answer_is m table values k (spot_of s) step (sym at) made answer t.local t.reply heard refl in
    let P : Change → Type 0 = λ c. HasCallFor c.local c.reply in
    let Q : Turn → Type 0 = λ u. HasCallFor u.local u.reply in
    subst Q (blindly m (values_of values) k s answer) (subst P (sym is) fits.first.call)

-- a turn that fits whatever the locks guard and whether memory is refused, fits where it isn't
pub quick_fits : (facts : Facts) (table : WordTable) (values : List Guarded) (local : Local)
    → (means : Means) × HasRooms (setup_of facts means) (rooms_of values) × ((refused : Bool) → TurnFits (setup_of facts means) refused (alone table values local) local)
    → (means : Means) × (values : List Guarded) × TurnFits (setup_of facts means) false (alone table values local) local
quick_fits facts table values local fits = (fits.0, values, fits.2 false)
