-- What is done at once, twice, as a program does it: what it asks for, and what it leaves.
use Rattle.std.proofs.Common.{◌≡◌, ◌∙◌, Bool, false, ◌||◌, List, Option, sym, ap, subst}
use Rattle.slub_trace.specs.declared.reply.Reply.{Reply}
use Rattle.slub_core.specs.Setup.{Setup}
use Rattle.slub_core.specs.Local.{Local, Change, noted}
use Rattle.slub_core.specs.Steps.{at_once, changed, settled}
use Rattle.slub_core.specs.declared.guarded.Guarded.{Guarded}
use Rattle.slub_core.specs.Values.{values_of, rooms_of}
use Rattle.slub_core.specs.Ways as ways
use Rattle.slub_checked_paths.specs.Slabs.{is_refused}
use Rattle.slub_turns.specs.Fits.{AtOnceFits, HasCallFor}
use Rattle.slub_turns.specs.Spots.{is_at_once}
use Rattle.slub_turns.specs.SettledFits.{GuardedFits, SettledFits}
use Rattle.slub_turns.proofs.Stays.{settled_none, settled_first}
use Rattle.slub_turns.proofs.Settled.{settled_is}

-- what is done where the worker stands, once it has its reply, is the change of that name
pub change_is : (m : Setup) (values after : List Guarded) (local k l : Local) (reply r : Option Reply) → k ≡ noted local reply
    → ways.changed after l r ≡ at_once m (is_refused r) (values_of values) k k.spot
    → ways.changed after l r ≡ changed m (is_refused r) (ways.changed values local reply)
change_is m values after local k l reply r is done = done ∙ ap (λ (x : Local). at_once m (is_refused r) (values_of values) x x.spot) is

pub fits_here : (values : List Guarded) (local k : Local) (reply : Option Reply) → k ≡ noted local reply
    → GuardedFits values (ways.changed values local reply) → AtOnceFits values k k.spot
fits_here values local k reply is fits =
    let P : Local → Type 0 = λ x. AtOnceFits values x x.spot in
    subst P (sym is) fits.at_once

-- the reply leads to a spot that calls for a step
pub none_is : (m : Setup) (values : List Guarded) (local k : Local) (reply : Option Reply) → k ≡ noted local reply → is_at_once k.spot ≡ false
    → let c = settled m false (ways.changed values local reply) in (values_of values ≡ c.value) × (k ≡ noted c.local c.reply)
none_is m values local k reply is not_so =
    let there : is_at_once (noted local reply).spot ≡ false = subst (λ (x : Local). is_at_once x.spot ≡ false) is not_so in
    let stay = settled_none m false (ways.changed values local reply) there in
    (sym (ap (λ (x : Change). x.value) stay), is ∙ sym (ap (λ (x : Change). noted x.local x.reply) stay))

-- the first change leads to such a spot
pub first_is : (m : Setup) (c : Change) (one : List Guarded) (l n : Local) (r : Option Reply) (refused : Bool) → ways.changed one l r ≡ changed m (is_refused r) c → refused ≡ is_refused r → n ≡ noted l r → is_at_once n.spot ≡ false
    → let d = settled m refused c in (values_of one ≡ d.value) × (n ≡ noted d.local d.reply)
first_is m c one l n r refused first told is not_so =
    let there : is_at_once (noted l r).spot ≡ false = subst (λ (x : Local). is_at_once x.spot ≡ false) is not_so in
    let stay = ap (λ (b : Bool). settled m b c) told ∙ settled_first m (is_refused r) c (ways.changed one l r) first there in
    (sym (ap (λ (x : Change). x.value) stay), is ∙ sym (ap (λ (x : Change). noted x.local x.reply) stay))

-- the second change, and the reply to the first
module _ (m : Setup) (values : List Guarded) (local : Local) (reply : Option Reply) (fits : SettledFits m values (ways.changed values local reply))
    (one : List Guarded) (l : Local) (r : Option Reply) (first : ways.changed one l r ≡ changed m (is_refused r) (ways.changed values local reply)) where
  pub second_fits : rooms_of one ≡ rooms_of values → GuardedFits one (ways.changed one l r)
  second_fits rooms =
      let value : values_of one ≡ (changed m (is_refused r) (ways.changed values local reply)).value = ap (λ (c : Change). c.value) first in
      subst (λ (c : Change). GuardedFits one c) (sym first) (fits.second (is_refused r) one value rooms)

  -- both
  module _ (two : List Guarded) (k : Local) (q : Option Reply) (second : ways.changed two k q ≡ changed m (is_refused q) (ways.changed one l r)) where
    pub both_are : settled m (is_refused r || is_refused q) (ways.changed values local reply) ≡ ways.changed two k q
    both_are = settled_is m (ways.changed values local reply) (ways.changed one l r) (ways.changed two k q) first second

    pub last_call : HasCallFor k q
    last_call =
        let P : Change → Type 0 = λ c. HasCallFor c.local c.reply in
        subst P both_are (fits.last (is_refused r || is_refused q))
