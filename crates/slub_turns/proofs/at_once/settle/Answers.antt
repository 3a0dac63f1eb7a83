use Rattle.std.proofs.Common.{◌≡◌, ◌∙◌, Bool, sym, ap}
use Rattle.slub_core.specs.declared.spot.Spot.{Spot}
use Rattle.slub_core.specs.Local.{Change, noted}
use Rattle.slub_core.specs.Steps.{settled}
use Rattle.slub_core.specs.Facts.{setup_of}
use Rattle.slub_core.specs.Ways as ways
use Rattle.slub_turns.specs.Spots.{is_at_once}
use Rattle.slub_turns.proofs.Settled.{settled_is}
use Rattle.slub_turns.proofs.Twice.{change_is, fits_here, none_is, second_fits, first_is, last_call}
use Rattle.slub_turns.proofs.at_once.settle.Goals as goal

pub change_here-first-requires : goal.change_here-first-requires
change_here-first-requires c =
    fits_here c.args.values.now c.args.local.now c.noted.new.self c.args.reply c.noted.ensures c.requires.1.first

pub noted-requires-2 : goal.noted-requires-2
noted-requires-2 c =
    let m = setup_of c.args.setup.now c.requires.0 in
    let first = change_is m c.args.values.now c.change_here-first.new.values c.args.local.now c.noted.new.self c.change_here-first.new.local c.args.reply c.change_here-first.result c.noted.ensures (c.change_here-first.ensures.change c.requires.0) in
    (second_fits m c.args.values.now c.args.local.now c.args.reply c.requires.1 c.change_here-first.new.values c.change_here-first.new.local c.change_here-first.result first c.change_here-first.ensures.rooms).call

pub change_here-second-requires : goal.change_here-second-requires
change_here-second-requires c =
    let m = setup_of c.args.setup.now c.requires.0 in
    let first = change_is m c.args.values.now c.change_here-first.new.values c.args.local.now c.noted.new.self c.change_here-first.new.local c.args.reply c.change_here-first.result c.noted.ensures (c.change_here-first.ensures.change c.requires.0) in
    let fits = second_fits m c.args.values.now c.args.local.now c.args.reply c.requires.1 c.change_here-first.new.values c.change_here-first.new.local c.change_here-first.result first c.change_here-first.ensures.rooms in
    fits_here c.change_here-first.new.values c.change_here-first.new.local c.noted-2.new.self c.change_here-first.result c.noted-2.ensures fits

pub noted-requires-3 : goal.noted-requires-3
noted-requires-3 c =
    let m = setup_of c.args.setup.now c.requires.0 in
    let first = change_is m c.args.values.now c.change_here-first.new.values c.args.local.now c.noted.new.self c.change_here-first.new.local c.args.reply c.change_here-first.result c.noted.ensures (c.change_here-first.ensures.change c.requires.0) in
    let second = change_is m c.change_here-first.new.values c.change_here-second.new.values c.change_here-first.new.local c.noted-2.new.self c.change_here-second.new.local c.change_here-first.result c.change_here-second.result c.noted-2.ensures (c.change_here-second.ensures.change c.requires.0) in
    last_call m c.args.values.now c.args.local.now c.args.reply c.requires.1 c.change_here-first.new.values c.change_here-first.new.local c.change_here-first.result first
    c.change_here-second.new.values c.change_here-second.new.local c.change_here-second.result second

pub returns-then-not-is_at_once-clause-change : goal.returns-then-not-is_at_once-clause-change
returns-then-not-is_at_once-clause-change c = λ means.
    none_is (setup_of c.args.setup.now means) c.args.values.now c.args.local.now c.noted.new.self c.args.reply c.noted.ensures (ap (λ (s : Spot). is_at_once s) (sym c.spot.ensures) ∙ sym c.is_at_once.ensures ∙ c.if-not-is_at_once.true)

pub returns-then-not-is_at_once-2-clause-change : goal.returns-then-not-is_at_once-2-clause-change
returns-then-not-is_at_once-2-clause-change c = λ means.
    let m = setup_of c.args.setup.now means in
    let first = change_is m c.args.values.now c.change_here-first.new.values c.args.local.now c.noted.new.self c.change_here-first.new.local c.args.reply c.change_here-first.result c.noted.ensures (c.change_here-first.ensures.change means) in
    first_is m (ways.changed c.args.values.now c.args.local.now c.args.reply) c.change_here-first.new.values c.change_here-first.new.local c.noted-2.new.self c.change_here-first.result
    c.is_refused.result first c.is_refused.ensures c.noted-2.ensures (ap (λ (s : Spot). is_at_once s) (sym c.spot-2.ensures) ∙ sym c.is_at_once-2.ensures ∙ c.if-not-is_at_once-2.true)

pub returns-clause-change : goal.returns-clause-change
returns-clause-change c = λ means.
    let m = setup_of c.args.setup.now means in
    let first = change_is m c.args.values.now c.change_here-first.new.values c.args.local.now c.noted.new.self c.change_here-first.new.local c.args.reply c.change_here-first.result c.noted.ensures (c.change_here-first.ensures.change means) in
    let second = change_is m c.change_here-first.new.values c.change_here-second.new.values c.change_here-first.new.local c.noted-2.new.self c.change_here-second.new.local c.change_here-first.result c.change_here-second.result c.noted-2.ensures (c.change_here-second.ensures.change means) in
    let start : Change = ways.changed c.args.values.now c.args.local.now c.args.reply in
    let is : settled m c.was_refused.result start ≡ ways.changed c.change_here-second.new.values c.change_here-second.new.local c.change_here-second.result =
    ap (λ (b : Bool). settled m b start) c.was_refused.ensures
    ∙ settled_is m start (ways.changed c.change_here-first.new.values c.change_here-first.new.local c.change_here-first.result) (ways.changed c.change_here-second.new.values c.change_here-second.new.local c.change_here-second.result) first second in
    (sym (ap (λ (x : Change). x.value) is), c.noted-3.ensures ∙ sym (ap (λ (x : Change). noted x.local x.reply) is))
