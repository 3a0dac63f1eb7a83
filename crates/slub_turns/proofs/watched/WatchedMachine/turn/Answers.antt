use Rattle.std.proofs.Common.{◌≡◌, ℕ, ◌++◌, ◌∙◌, Bool, false, List, length, get_or, set, take, drop, refl, sym, ap, subst}
use Rattle.std.specs.List.{FoldsTo}
use Rattle.std.proofs.lemmas.List.{get_or_read, get_or-set_same}
use Rattle.slub_core.specs.Setup.{Setup}
use Rattle.slub_core.specs.Local.{Local}
use Rattle.slub_core.specs.Run.{System, Pick, idle, turn}
use Rattle.slub_core.specs.Facts.{setup_of}
use Rattle.slub_core.specs.declared.guarded.Guarded.{Guarded}
use Rattle.slub_core.specs.Values.{rooms_of}
use Rattle.slub_schedule.specs.Schedule.{is_finished}
use Rattle.slub_turns.specs.Fits.{HasRooms, PickFits}
use Rattle.slub_turns.specs.Happenings.{Happening, happenings_of}
use Rattle.slub_turns.specs.Means.{the_means}
use Rattle.slub_turns.specs.System.{system_of, alone, picked_alone}
use Rattle.slub_turns.specs.Ready.{MayTurn}
use Rattle.slub_turns.proofs.Alone.{fits_alone, turn_among, back_whole}
use Rattle.slub_turns.proofs.Told.{told_among}
use Rattle.slub_turns.proofs.watched.WatchedMachine.turn.Goals as goal

pub watched_turn-refused-requires-clause-fits : goal.watched_turn-refused-requires-clause-fits
watched_turn-refused-requires-clause-fits g c =
    let m : Setup = setup_of c.args.self.now.machine.setup the_means in
    let table = c.args.self.now.machine.table in
    let items : List Guarded = c.args.self.now.machine.values.items in
    let locals : List Local = c.args.self.now.machine.locals.items in
    let local : Local = c.index_mut-local.result.now in
    let pick : Pick = record { worker = c.args.worker; refused = false; tries = false } in
    let is : local ≡ get_or locals c.args.worker idle = get_or_read locals c.args.worker local c.requires.worker c.index_mut-local.ensures.value idle in
    let fits : PickFits m (alone table items local) (picked_alone false) = fits_alone m table items locals local pick is (c.picks_fit.ensures m (system_of table items locals) pick c.requires.ready.may c.requires.worker) in
    let lent : items ≡ c.as_mut_slice.result.now = sym c.as_mut_slice.ensures.value in
    let P : List Guarded → Type 0 = λ xs. PickFits m (alone table xs local) (picked_alone false) in
    let Q : List Guarded → Type 0 = λ xs. HasRooms m (rooms_of xs) in
    (the_means, subst Q lent c.requires.ready.rooms, subst P lent fits)

pub returns-clause-turned : goal.returns-clause-turned
returns-clause-turned g c =
    let m : Setup = setup_of c.args.self.now.machine.setup the_means in
    let table = c.args.self.now.machine.table in
    let after = c.watched_turn-refused.new.table in
    let items : List Guarded = c.args.self.now.machine.values.items in
    let now : List Guarded = c.watched_turn-refused.new.values in
    let locals : List Local = c.args.self.now.machine.locals.items in
    let local : Local = c.index_mut-local.result.now in
    let l : Local = c.watched_turn-refused.new.local in
    let refused : Bool = c.watched_turn-refused.result in
    let pick : Pick = record { worker = c.args.worker; refused = refused; tries = false } in
    let is : local ≡ get_or locals c.args.worker idle = get_or_read locals c.args.worker local c.requires.worker c.index_mut-local.ensures.value idle in
    let turned = turn_among m table after c.as_mut_slice.result.now now locals local l c.args.worker refused false is (c.watched_turn-refused.ensures.turned the_means) in
    let back = back_whole c.args.self.now.machine.values.len now items (c.watched_turn-refused.auto.values ∙ c.as_mut_slice.ensures.len) in
    let heard : List Happening → Type 0 = λ hs. FoldsTo (g.W.Watch.hears c.args.self.now.machine.setup) c.args.self.now.watch hs c.watched_turn-refused.new.watch in
    let told = ap (λ (xs : List Guarded). happenings_of m refused (alone table xs local) 0) c.as_mut_slice.ensures.value ∙ told_among m refused table items locals local c.args.worker is in
    let made = ap (λ (xs : List Guarded). system_of after xs (set locals c.args.worker l)) back ∙ turned ∙ ap (λ (xs : List Guarded). turn m (system_of table xs locals) pick) c.as_mut_slice.ensures.value in
    (refused, (made, (refl, subst heard told (c.watched_turn-refused.ensures.told the_means))))

pub returns-clause-ready : goal.returns-clause-ready
returns-clause-ready g c =
    let m : Setup = setup_of c.args.self.now.machine.setup the_means in
    let table = c.args.self.now.machine.table in
    let items : List Guarded = c.args.self.now.machine.values.items in
    let now : List Guarded = c.watched_turn-refused.new.values in
    let locals : List Local = c.args.self.now.machine.locals.items in
    let (refused, turned) = returns-clause-turned g c in
    let pick : Pick = record { worker = c.args.worker; refused = refused; tries = false } in
    let back = back_whole c.args.self.now.machine.values.len now items (c.watched_turn-refused.auto.values ∙ c.as_mut_slice.ensures.len) in
    let rooms : rooms_of (take c.args.self.now.machine.values.len (now ++ drop (length now) items)) ≡ rooms_of items =
    ap (λ (xs : List Guarded). rooms_of xs) back ∙ c.watched_turn-refused.ensures.rooms ∙ ap (λ (xs : List Guarded). rooms_of xs) c.as_mut_slice.ensures.value in
    let P : System → Type 0 = λ s. MayTurn m s in
    let Q : List ℕ → Type 0 = λ rs. HasRooms m rs in
    record {
      may = subst P (sym turned.0) (c.turns_keep_ready.ensures m (system_of table items locals) pick c.requires.ready.may);
      sizes = c.watched_turn-refused.ensures.table;
      rooms = subst Q (sym rooms) c.requires.ready.rooms;
      full = rooms ∙ c.requires.ready.full;
    }

pub returns-clause-finished : goal.returns-clause-finished
returns-clause-finished g c =
    let here = get_or-set_same c.args.self.now.machine.locals.items c.args.worker c.watched_turn-refused.new.local idle c.requires.worker in
    c.is_finished.ensures ∙ ap (λ (l : Local). is_finished l) (sym here)
