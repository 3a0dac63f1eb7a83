use Rattle.std.proofs.Common.{◌≡◌, ◌+◌, get_or, length, subst}
use Rattle.std.proofs.lemmas.Result.{err_from_is_err_and}
use Rattle.slub_slabinfo_text.specs.declared.journal.Done.TheVariants as done
use Rattle.slub_slabinfo_text.specs.Lawful.{coming}
use Rattle.slub_rounds.specs.ClientStopped.{IsStoppedWhere}
use Rattle.slub_law_replay.specs.Runs.{SpendsLine}
use Rattle.slub_law_replay.proofs.Runs.{does_client_at, does_plain_at, does_round_at}
use Rattle.slub_items.proofs.Items.{line_at, plain_at, ready_client, ready_plain, ready_round, round_at, sound_heap, spent_client, stopped_round, wanting_client}
use Rattle.slub_items.proofs.Standing.{fit_beside, leaves_at, plain_stands_at}
use Rattle.slub_items.proofs.machine.Machine.item.Goals as goal

-- ---- a round

pub round-requires-clause-may_do : goal.round-requires-clause-may_do
round-requires-clause-may_do g c = λ κs lives.
    let at : c.index-as_slice-number.result ≡ get_or c.args.trace.now.items c.args.number c.index-as_slice-number.result = rw (← c.as_slice.ensures) c.index-as_slice-number.is in (
      c.args.trace.now,
      c.ready_rounds_may_be_done.ensures c.args.self c.args.trace.now c.args.number c.in-Round.round c.requires.sound c.requires.ready (round_at c.args.trace.now c.args.number _ c.in-Round.round c.requires.within at c.in-Round.is),
    )

pub round-requires-clause-sound : goal.round-requires-clause-sound
round-requires-clause-sound g c = λ κs lives. sound_heap c.args.self c.args.trace.now c.args.number c.requires.ready

pub returns-in_err-after-in-Round-clause-stopped : goal.returns-in_err-after-in-Round-clause-stopped
returns-in_err-after-in-Round-clause-stopped g c =
    let at : c.index-as_slice-number.result ≡ get_or c.args.trace.now.items c.args.number c.index-as_slice-number.result = rw (← c.as_slice.ensures) c.index-as_slice-number.is in
    let p = err_from_is_err_and c.from_residual.result c.from_residual.ensures.1 in
    rw (p.1, p.2) (stopped_round c.args.way c.args.self c.args.trace.now c.args.number _ c.in-Round.round c.in_err-after-in-Round.field-0.0 c.requires.within at c.in-Round.is c.in_err-after-in-Round.ensures.stopped)

pub returns-in_ok-after-in-Round-clause-done : goal.returns-in_ok-after-in-Round-clause-done
returns-in_ok-after-in-Round-clause-done g c =
    let at : c.index-as_slice-number.result ≡ get_or c.args.trace.now.items c.args.number c.index-as_slice-number.result = rw (← c.as_slice.ensures) c.index-as_slice-number.is in
    let made = c.in_ok-after-in-Round.ensures in
    does_round_at c.args.way c.args.self c.args.trace.now c.args.number _ c.in-Round.round c.in_ok-after-in-Round.result c.in_ok-after-in-Round.after c.requires.within at c.in-Round.is made.does made.reserves made.counted

pub returns-in_ok-after-in-Round-clause-ready : goal.returns-in_ok-after-in-Round-clause-ready
returns-in_ok-after-in-Round-clause-ready g c =
    let at : c.index-as_slice-number.result ≡ get_or c.args.trace.now.items c.args.number c.index-as_slice-number.result = rw (← c.as_slice.ensures) c.index-as_slice-number.is in
    let made = c.in_ok-after-in-Round.ensures in
    let after = c.in_ok-after-in-Round.after in
    ready_round c.args.way c.args.self after c.args.trace.now c.args.number _ c.in-Round.round c.in_ok-after-in-Round.result c.requires.sound c.requires.ready c.requires.within at c.in-Round.is made.does made.lawful made.sound made.reserves made.counted
    (c.items_leave_room.ensures c.args.way c.args.self c.args.trace.now c.args.number (done.Round c.in_ok-after-in-Round.result) after c.requires.sound c.requires.ready (returns-in_ok-after-in-Round-clause-done g c) made.lawful.coherent)

-- ---- a client's line

pub serve-requires-clause-servable : goal.serve-requires-clause-servable
serve-requires-clause-servable g c =
    let at : c.index-as_slice-number.result ≡ get_or c.args.trace.now.items c.args.number c.index-as_slice-number.result = rw (← c.as_slice.ensures) c.index-as_slice-number.is in
    (c.ready_lines_may_be_served.ensures c.args.self c.args.trace.now c.args.number c.in-Client.client c.requires.sound c.requires.ready (line_at c.args.trace.now c.args.number _ c.in-Client.client c.requires.within at c.in-Client.is)).0

pub returns-in-Ok-clause-done : goal.returns-in-Ok-clause-done
returns-in-Ok-clause-done g c =
    let at : c.index-as_slice-number.result ≡ get_or c.args.trace.now.items c.args.number c.index-as_slice-number.result = rw (← c.as_slice.ensures) c.index-as_slice-number.is in
    let made = c.in-Ok.ensures in
    does_client_at c.args.way c.args.self c.args.trace.now c.args.number _ c.in-Client.client c.in-Ok.served c.in-Ok.after c.requires.within at c.in-Client.is made.served made.rounds

pub returns-in-Ok-clause-ready : goal.returns-in-Ok-clause-ready
returns-in-Ok-clause-ready g c =
    let at : c.index-as_slice-number.result ≡ get_or c.args.trace.now.items c.args.number c.index-as_slice-number.result = rw (← c.as_slice.ensures) c.index-as_slice-number.is in
    let made = c.in-Ok.ensures in
    let may = c.ready_lines_may_be_served.ensures c.args.self c.args.trace.now c.args.number c.in-Client.client c.requires.sound c.requires.ready (line_at c.args.trace.now c.args.number _ c.in-Client.client c.requires.within at c.in-Client.is) in
    ready_client c.args.self c.in-Ok.after c.args.trace.now c.args.number _ c.in-Client.client c.requires.sound c.requires.ready c.requires.within at c.in-Client.is may.0
    (made.stays (length (coming c.args.trace.now (c.args.number + 1))) may.1) made.unheld made.reserves made.rounds

pub returns-in-Err-NoMemory-clause-stopped : goal.returns-in-Err-NoMemory-clause-stopped
returns-in-Err-NoMemory-clause-stopped g c =
    let at : c.index-as_slice-number.result ≡ get_or c.args.trace.now.items c.args.number c.index-as_slice-number.result = rw (← c.as_slice.ensures) c.index-as_slice-number.is in
    wanting_client c.args.way c.args.self c.args.trace.now c.args.number _ c.in-Client.client c.requires.within at c.in-Client.is

pub returns-in-Err-TurnsSpent-clause-stopped : goal.returns-in-Err-TurnsSpent-clause-stopped
returns-in-Err-TurnsSpent-clause-stopped g c =
    let at : c.index-as_slice-number.result ≡ get_or c.args.trace.now.items c.args.number c.index-as_slice-number.result = rw (← c.as_slice.ensures) c.index-as_slice-number.is in
    spent_client c.args.way c.args.self c.args.trace.now c.args.number _ c.in-Client.client c.requires.within at c.in-Client.is
    (subst (IsStoppedWhere (SpendsLine c.args.self c.args.trace.now c.in-Client.client)) c.in-Err-TurnsSpent.field-0-is c.in-Err-TurnsSpent.ensures.stopped)

-- ---- another item

pub plain_item-requires : goal.plain_item-requires
plain_item-requires g c =
    let at : c.index-as_slice-number.result ≡ get_or c.args.trace.now.items c.args.number c.index-as_slice-number.result = rw (← c.as_slice.ensures) c.index-as_slice-number.is in
    record {
      sound = c.requires.sound;
      within = c.requires.within;
      plain = plain_at c.args.trace.now c.args.number _ c.requires.within at c.in_default.not-Round c.in_default.not-Client;
      ready = c.requires.ready.lists;
      ids = fit_beside c.args.trace.now c.args.self.lists c.args.self.ids c.requires.ready.ids;
    }

pub returns-in-Ok-plain_item : goal.returns-in-Ok-plain_item
returns-in-Ok-plain_item g c =
    let after = c.plain_item.new.self in
    let made = c.in-Ok-plain_item.ensures in
    let answer = c.in-Ok-plain_item.done in
    let does = does_plain_at c.args.way c.args.self c.args.trace.now c.args.number answer after made.done (leaves_at c.args.trace.now c.args.self.lists c.args.number answer c.args.self.ids after.ids made.ids) c.plain_item.ensures.reserves c.plain_item.ensures.rounds in
    let lists = made.ready in
    let ids = plain_stands_at c.args.trace.now c.args.number answer c.args.self.lists after.lists c.args.self.ids after.ids c.requires.sound c.requires.ready.lists lists made.done c.requires.ready.ids made.ids in
    record {
      done = does;
      ready =
          ready_plain c.args.self after c.args.trace.now c.args.number c.requires.ready lists ids c.plain_item.ensures.reserves c.plain_item.ensures.rounds
          (c.items_leave_room.ensures c.args.way c.args.self c.args.trace.now c.args.number answer after c.requires.sound c.requires.ready does lists.coherent);
      stopped = tt;
    }
