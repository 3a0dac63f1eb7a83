use Rattle.std.proofs.Common.{◌≡◌, ◌∙◌, Bool, sym, ap}
use Rattle.slub_core.specs.declared.spot.Spot.{Spot}
use Rattle.slub_core.specs.Local.{Change, noted}
use Rattle.slub_core.specs.Steps.{settled}
use Rattle.slub_core.specs.Facts.{setup_of}
use Rattle.slub_core.specs.Ways as ways
use Rattle.slub_turns.specs.Spots.{is_at_once}
use Rattle.slub_turns.proofs.Settled.{settled_is}
use Rattle.slub_turns.proofs.Told.{heard_neither, heard_first, heard_both}
use Rattle.slub_turns.proofs.Twice.{change_is, fits_here, none_is, second_fits, first_is, last_call}
use Rattle.slub_turns.proofs.watched_turn.watched_settle.Goals as goal

pub watched_change-first-requires : goal.watched_change-first-requires
watched_change-first-requires g c =
    fits_here c.args.values.now c.args.local.now c.noted.new.self c.args.reply c.noted.ensures c.requires.1.first

pub noted-requires-2 : goal.noted-requires-2
noted-requires-2 g c =
    let m = setup_of c.args.setup.now c.requires.0 in
    let first = change_is m c.args.values.now c.watched_change-first.new.values c.args.local.now c.noted.new.self c.watched_change-first.new.local c.args.reply c.watched_change-first.result c.noted.ensures (c.watched_change-first.ensures.change c.requires.0) in
    (second_fits m c.args.values.now c.args.local.now c.args.reply c.requires.1 c.watched_change-first.new.values c.watched_change-first.new.local c.watched_change-first.result first c.watched_change-first.ensures.rooms).call

pub watched_change-second-requires : goal.watched_change-second-requires
watched_change-second-requires g c =
    let m = setup_of c.args.setup.now c.requires.0 in
    let first = change_is m c.args.values.now c.watched_change-first.new.values c.args.local.now c.noted.new.self c.watched_change-first.new.local c.args.reply c.watched_change-first.result c.noted.ensures (c.watched_change-first.ensures.change c.requires.0) in
    let fits = second_fits m c.args.values.now c.args.local.now c.args.reply c.requires.1 c.watched_change-first.new.values c.watched_change-first.new.local c.watched_change-first.result first c.watched_change-first.ensures.rooms in
    fits_here c.watched_change-first.new.values c.watched_change-first.new.local c.noted-2.new.self c.watched_change-first.result c.noted-2.ensures fits

pub noted-requires-3 : goal.noted-requires-3
noted-requires-3 g c =
    let m = setup_of c.args.setup.now c.requires.0 in
    let first = change_is m c.args.values.now c.watched_change-first.new.values c.args.local.now c.noted.new.self c.watched_change-first.new.local c.args.reply c.watched_change-first.result c.noted.ensures (c.watched_change-first.ensures.change c.requires.0) in
    let second = change_is m c.watched_change-first.new.values c.watched_change-second.new.values c.watched_change-first.new.local c.noted-2.new.self c.watched_change-second.new.local c.watched_change-first.result c.watched_change-second.result c.noted-2.ensures (c.watched_change-second.ensures.change c.requires.0) in
    last_call m c.args.values.now c.args.local.now c.args.reply c.requires.1 c.watched_change-first.new.values c.watched_change-first.new.local c.watched_change-first.result first
    c.watched_change-second.new.values c.watched_change-second.new.local c.watched_change-second.result second

pub returns-then-not-is_at_once-clause-change : goal.returns-then-not-is_at_once-clause-change
returns-then-not-is_at_once-clause-change g c = λ means.
    none_is (setup_of c.args.setup.now means) c.args.values.now c.args.local.now c.noted.new.self c.args.reply c.noted.ensures (ap (λ (s : Spot). is_at_once s) (sym c.spot.ensures) ∙ sym c.is_at_once.ensures ∙ c.if-not-is_at_once.true)

pub returns-then-not-is_at_once-2-clause-change : goal.returns-then-not-is_at_once-2-clause-change
returns-then-not-is_at_once-2-clause-change g c = λ means.
    let m = setup_of c.args.setup.now means in
    let first = change_is m c.args.values.now c.watched_change-first.new.values c.args.local.now c.noted.new.self c.watched_change-first.new.local c.args.reply c.watched_change-first.result c.noted.ensures (c.watched_change-first.ensures.change means) in
    first_is m (ways.changed c.args.values.now c.args.local.now c.args.reply) c.watched_change-first.new.values c.watched_change-first.new.local c.noted-2.new.self c.watched_change-first.result
    c.is_refused.result first c.is_refused.ensures c.noted-2.ensures (ap (λ (s : Spot). is_at_once s) (sym c.spot-2.ensures) ∙ sym c.is_at_once-2.ensures ∙ c.if-not-is_at_once-2.true)

pub returns-clause-change : goal.returns-clause-change
returns-clause-change g c = λ means.
    let m = setup_of c.args.setup.now means in
    let first = change_is m c.args.values.now c.watched_change-first.new.values c.args.local.now c.noted.new.self c.watched_change-first.new.local c.args.reply c.watched_change-first.result c.noted.ensures (c.watched_change-first.ensures.change means) in
    let second = change_is m c.watched_change-first.new.values c.watched_change-second.new.values c.watched_change-first.new.local c.noted-2.new.self c.watched_change-second.new.local c.watched_change-first.result c.watched_change-second.result c.noted-2.ensures (c.watched_change-second.ensures.change means) in
    let start : Change = ways.changed c.args.values.now c.args.local.now c.args.reply in
    let is : settled m c.was_refused.result start ≡ ways.changed c.watched_change-second.new.values c.watched_change-second.new.local c.watched_change-second.result =
    ap (λ (b : Bool). settled m b start) c.was_refused.ensures
    ∙ settled_is m start (ways.changed c.watched_change-first.new.values c.watched_change-first.new.local c.watched_change-first.result) (ways.changed c.watched_change-second.new.values c.watched_change-second.new.local c.watched_change-second.result) first second in
    (sym (ap (λ (x : Change). x.value) is), c.noted-3.ensures ∙ sym (ap (λ (x : Change). noted x.local x.reply) is))

pub returns-then-not-is_at_once-clause-told : goal.returns-then-not-is_at_once-clause-told
returns-then-not-is_at_once-clause-told g c = λ means.
    let m = setup_of c.args.setup.now means in
    heard_neither (g.W.Watch.hears c.args.setup.now) m c.args.values.now c.args.local.now c.noted.new.self c.args.reply c.noted.ensures c.args.watch.now (ap (λ (s : Spot). is_at_once s) (sym c.spot.ensures) ∙ sym c.is_at_once.ensures ∙ c.if-not-is_at_once.true)

pub returns-then-not-is_at_once-2-clause-told : goal.returns-then-not-is_at_once-2-clause-told
returns-then-not-is_at_once-2-clause-told g c = λ means.
    let m = setup_of c.args.setup.now means in
    let first = change_is m c.args.values.now c.watched_change-first.new.values c.args.local.now c.noted.new.self c.watched_change-first.new.local c.args.reply c.watched_change-first.result c.noted.ensures (c.watched_change-first.ensures.change means) in
    heard_first (g.W.Watch.hears c.args.setup.now) m c.args.values.now c.args.local.now c.noted.new.self c.args.reply c.noted.ensures
    c.watched_change-first.new.values c.watched_change-first.new.local c.noted-2.new.self c.watched_change-first.result first c.noted-2.ensures
    (ap (λ (s : Spot). is_at_once s) (sym c.spot.ensures) ∙ sym c.is_at_once.ensures ∙ c.if-not-is_at_once.false)
    c.args.watch.now c.watched_change-first.new.watch c.is_refused.result c.is_refused.ensures
    (ap (λ (s : Spot). is_at_once s) (sym c.spot-2.ensures) ∙ sym c.is_at_once-2.ensures ∙ c.if-not-is_at_once-2.true)
    c.watched_change-first.ensures.told

pub returns-clause-told : goal.returns-clause-told
returns-clause-told g c = λ means.
    let m = setup_of c.args.setup.now means in
    let first = change_is m c.args.values.now c.watched_change-first.new.values c.args.local.now c.noted.new.self c.watched_change-first.new.local c.args.reply c.watched_change-first.result c.noted.ensures (c.watched_change-first.ensures.change means) in
    let second = change_is m c.watched_change-first.new.values c.watched_change-second.new.values c.watched_change-first.new.local c.noted-2.new.self c.watched_change-second.new.local c.watched_change-first.result c.watched_change-second.result c.noted-2.ensures (c.watched_change-second.ensures.change means) in
    heard_both (g.W.Watch.hears c.args.setup.now) m c.args.values.now c.args.local.now c.noted.new.self c.args.reply c.noted.ensures
    c.watched_change-first.new.values c.watched_change-first.new.local c.noted-2.new.self c.watched_change-first.result first c.noted-2.ensures
    (ap (λ (s : Spot). is_at_once s) (sym c.spot.ensures) ∙ sym c.is_at_once.ensures ∙ c.if-not-is_at_once.false)
    c.args.watch.now c.watched_change-first.new.watch c.watched_change-second.new.watch c.watched_change-second.new.values c.watched_change-second.new.local c.watched_change-second.result
    c.was_refused.result c.was_refused.ensures second
    (ap (λ (s : Spot). is_at_once s) (sym c.spot-2.ensures) ∙ sym c.is_at_once-2.ensures ∙ c.if-not-is_at_once-2.false)
    c.watched_change-first.ensures.told c.watched_change-second.ensures.told
