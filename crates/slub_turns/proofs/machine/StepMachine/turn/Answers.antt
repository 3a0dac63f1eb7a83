use Rattle.std.proofs.Common.{◌≡◌, ℕ, ◌++◌, ◌∙◌, Bool, false, List, length, get_or, set, take, drop, sym, ap, subst}
use Rattle.std.proofs.lemmas.List.{get_or_read, get_or-set_same}
use Rattle.slub_core.specs.Setup.{Setup}
use Rattle.slub_core.specs.Local.{Local}
use Rattle.slub_core.specs.Run.{System, Pick, idle, turn}
use Rattle.slub_core.specs.Facts.{setup_of}
use Rattle.slub_core.specs.declared.guarded.Guarded.{Guarded}
use Rattle.slub_core.specs.Values.{rooms_of}
use Rattle.slub_schedule.specs.Schedule.{is_finished}
use Rattle.slub_turns.specs.Fits.{HasRooms, PickFits}
use Rattle.slub_turns.specs.Means.{the_means}
use Rattle.slub_turns.specs.System.{system_of, alone, picked_alone}
use Rattle.slub_turns.specs.Ready.{MayTurn}
use Rattle.slub_turns.proofs.Alone.{fits_alone, turn_among, back_whole}
use Rattle.slub_turns.proofs.machine.StepMachine.turn.Goals as goal

pub turn_of-refused-requires-clause-fits : goal.turn_of-refused-requires-clause-fits
turn_of-refused-requires-clause-fits c =
    let m : Setup = setup_of c.args.self.now.setup the_means in
    let table = c.args.self.now.table in
    let items : List Guarded = c.args.self.now.values.items in
    let locals : List Local = c.args.self.now.locals.items in
    let local : Local = c.index_mut-local.result.now in
    let pick : Pick = record { worker = c.args.worker; refused = false; tries = false } in
    let is : local ≡ get_or locals c.args.worker idle = get_or_read locals c.args.worker local c.requires.worker c.index_mut-local.ensures.value idle in
    let fits : PickFits m (alone table items local) (picked_alone false) = fits_alone m table items locals local pick is (c.picks_fit.ensures m (system_of table items locals) pick c.requires.ready.may c.requires.worker) in
    let lent : items ≡ c.as_mut_slice.result.now = sym c.as_mut_slice.ensures.value in
    let P : List Guarded → Type 0 = λ g. PickFits m (alone table g local) (picked_alone false) in
    let Q : List Guarded → Type 0 = λ g. HasRooms m (rooms_of g) in
    (the_means, subst Q lent c.requires.ready.rooms, subst P lent fits)

pub returns-clause-turned : goal.returns-clause-turned
returns-clause-turned c =
    let m : Setup = setup_of c.args.self.now.setup the_means in
    let table = c.args.self.now.table in
    let after = c.turn_of-refused.new.table in
    let items : List Guarded = c.args.self.now.values.items in
    let now : List Guarded = c.turn_of-refused.new.values in
    let locals : List Local = c.args.self.now.locals.items in
    let local : Local = c.index_mut-local.result.now in
    let l : Local = c.turn_of-refused.new.local in
    let refused : Bool = c.turn_of-refused.result in
    let pick : Pick = record { worker = c.args.worker; refused = refused; tries = false } in
    let is : local ≡ get_or locals c.args.worker idle = get_or_read locals c.args.worker local c.requires.worker c.index_mut-local.ensures.value idle in
    let turned = turn_among m table after c.as_mut_slice.result.now now locals local l c.args.worker refused false is (c.turn_of-refused.ensures.turned the_means) in
    let back = back_whole c.args.self.now.values.len now items (c.turn_of-refused.auto.values ∙ c.as_mut_slice.ensures.len) in
    (refused, ap (λ (g : List Guarded). system_of after g (set locals c.args.worker l)) back ∙ turned ∙ ap (λ (g : List Guarded). turn m (system_of table g locals) pick) c.as_mut_slice.ensures.value)

pub returns-clause-ready : goal.returns-clause-ready
returns-clause-ready c =
    let m : Setup = setup_of c.args.self.now.setup the_means in
    let table = c.args.self.now.table in
    let items : List Guarded = c.args.self.now.values.items in
    let now : List Guarded = c.turn_of-refused.new.values in
    let locals : List Local = c.args.self.now.locals.items in
    let (refused, turned) = returns-clause-turned c in
    let pick : Pick = record { worker = c.args.worker; refused = refused; tries = false } in
    let back = back_whole c.args.self.now.values.len now items (c.turn_of-refused.auto.values ∙ c.as_mut_slice.ensures.len) in
    let rooms : rooms_of (take c.args.self.now.values.len (now ++ drop (length now) items)) ≡ rooms_of items =
    ap (λ (g : List Guarded). rooms_of g) back ∙ c.turn_of-refused.ensures.rooms ∙ ap (λ (g : List Guarded). rooms_of g) c.as_mut_slice.ensures.value in
    let P : System → Type 0 = λ s. MayTurn m s in
    let Q : List ℕ → Type 0 = λ rs. HasRooms m rs in
    record {
      may = subst P (sym turned) (c.turns_keep_ready.ensures m (system_of table items locals) pick c.requires.ready.may);
      sizes = c.turn_of-refused.ensures.table;
      rooms = subst Q (sym rooms) c.requires.ready.rooms;
      full = rooms ∙ c.requires.ready.full;
    }

pub returns-clause-finished : goal.returns-clause-finished
returns-clause-finished c =
    let here = get_or-set_same c.args.self.now.locals.items c.args.worker c.turn_of-refused.new.local idle c.requires.worker in
    c.is_finished.ensures ∙ ap (λ (l : Local). is_finished l) (sym here)
