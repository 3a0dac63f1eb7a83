-- Where a call of a checked cache ends: the words are as they were, and the cache's lock guards other slabs.
use Rattle.std.proofs.Common.{◌≡◌, ℕ, suc, ◌<◌, ◌≤◌, List, [], length, get_or, set, Option, Some, None, refl, ap, sym, ◌∙◌, subst, arith}
use Rattle.std.specs.Option.{option_map, option_or}
use Rattle.std.specs.Prelude.{is_some}
use Rattle.std.proofs.lemmas.List.{length-set}
use Rattle.std.proofs.lemmas.List.Elements.{All-set}
use Rattle.slub_trace.specs.declared.reply.Reply.{Reply}
use Rattle.slub_page_pool.specs.FreeFrames.{FreeFrames}
use Rattle.slub_red_zone.specs.State.{CheckedState}
use Rattle.slub_red_zone.specs.Objects.{shape_at}
use Rattle.slub_lists.specs.declared.lists.Held.{Held}
use Rattle.slub_lists.specs.declared.lists.Slab.{Slab}
use Rattle.slub_lists.specs.State.{State}
use Rattle.slub_lists.specs.Alloc.{checked_of, own_free, slab_of}
use Rattle.slub_lists.specs.Coherent.{IsAccounted, held_under}
use Rattle.slub_core.specs.declared.call.Call.{Call}
use Rattle.slub_core.specs.declared.spot.Spot.TheVariants.{Between}
use Rattle.slub_core.specs.Calls.{call_cpu}
use Rattle.slub_core.specs.Setup.{Setup, node_lock}
use Rattle.slub_core.specs.World.{World, LockValue, Checked, update, world_of}
use Rattle.slub_core.specs.Fresh.{IsWorded}
use Rattle.slub_core.specs.Local.{Local, at, answered}
use Rattle.slub_core.specs.Steps.{rested}
use Rattle.slub_core.specs.Run.{System, idle}
use Rattle.slub_core.specs.Law.{IsCoherentSystem}
use Rattle.slub_core.proofs.StepWords.{value_of, world_of-value}
use Rattle.slub_law_opening.specs.Opening.{Beside, setup_of, value_of as value_in}
use Rattle.slub_law_opening.specs.Rests.{IsBetween, slab_at, held_on, held_in, named, times_named}
use Rattle.slub_law_opening.specs.Closing.{HasLengths}
use Rattle.slub_law_opening.proofs.Shaped.{Keeps}
use Rattle.slub_law_alone.specs.Alone.{alone, IsAtRest}
use Rattle.slub_law_alone.specs.Ready.{IsReady}
use Rattle.slub_law_alone.proofs.CheckedRests.{checked_same, values_with, slabs_kept, setup_checked, rests_checked}
use Rattle.slub_law_alone.proofs.CheckedTurns.{asking, slabs_guarded}
use Rattle.slub_law_alone.proofs.Ended.{ends_keeping, keeps_with}
use Rattle.slub_law_alone.proofs.Names.{among_same}
use Rattle.slub_law_alone.proofs.Ready.{along}
use Rattle.slub_law_alone.proofs.Turns.{machine}
use Rattle.slub_law_alone.proofs.Workers.{AtFront, at_front, once_named, rested_calls}

-- ---- the worker

-- with the replies that take no step it stands between two calls as before them
pub rests_between : (m n : Setup) (told : Local) → IsBetween n told → IsBetween n (rested m told)
rests_between m n told is = subst (IsBetween n) (sym (rested_calls m told is.between).same) (record {
  between = is.between;
  hands = is.hands;
  string = is.string;
  run = is.run;
  packed = record { cpu_word = is.packed.cpu_word; slab_word = is.packed.slab_word; list_word = is.packed.list_word; next = is.packed.next };
  cpu = is.cpu;
  numbers = is.numbers;
  some = is.some;
})

-- a worker that has its reply and knows what it knew
pub told_between : (n : Setup) (l : Local) (call : Call) (k : ℕ) (reply : Reply) → IsBetween n l → call_cpu call < n.cpus → IsBetween n (answered (at (asking l call k) Between) reply)
told_between n l call k reply is cpu = record {
  between = refl;
  hands = is.hands;
  string = is.string;
  run = is.run;
  packed = record { cpu_word = is.packed.cpu_word; slab_word = is.packed.slab_word; list_word = is.packed.list_word; next = is.packed.next };
  cpu = cpu;
  numbers = is.numbers;
  some = is.some;
}

-- the numbers name what they named
pub names_same : (m : Setup) (w : World) (ls : List Local) (x : ℕ) (told : Local) → told.spot ≡ Between → told.worker ≡ (get_or ls x idle).worker → told.known ≡ (get_or ls x idle).known → (j : ℕ) → named w (set ls x (rested m told)) j ≡ named w ls j
names_same m w ls x told between worker known j =
    let calls = rested_calls m told between in
    ap (option_or (option_map held_on (w.board j))) (among_same j ls x (rested m told)
    (ap (λ (l : Local). held_in l.worker l.known j) calls.same ∙ ap (λ n. held_in n told.known j) worker ∙ ap (λ ks. held_in (get_or ls x idle).worker ks j) known))

-- ---- the machine, where the words are as they were and the locks guard other values

module _ (opening : World) (s : State) (b : Beside) (system : System) (x : ℕ) (rest : IsReady opening s b system x) (there : x < length system.locals) (n : ℕ) (later : ℕ → LockValue) (told : Local)
    (whole : alone (setup_of s b) x (suc n) system ≡ machine system.words later (set system.locals x (rested (setup_of s b) told))) where
  abbrev m : Setup
  m = setup_of s b

  abbrev w : World
  w = world_of m system.value system.words

  abbrev pub value_end : System
  value_end = machine system.words later (set system.locals x (rested m told))

  ended : IsCoherentSystem m opening value_end
  ended = subst (IsCoherentSystem m opening) whole (along opening s b system x there rest n)

  says : world_of m later system.words ≡ record w { value = later }
  says = world_of-value m system.value later system.words

  pub value_once : (j : ℕ) → times_named w (set system.locals x (rested m told)) j ≤ 1
  value_once j = subst (λ v. times_named v (set system.locals x (rested m told)) j ≤ 1) says (once_named m opening value_end ended j)

  pub value_stands : AtFront m opening value_end x
  value_stands = at_front m opening value_end x (omega (arith, there, length-set system.locals x (rested m told))) ended

  module _ (pool : FreeFrames) (slabs : List (Option Slab)) (frees : List (List ℕ)) (checked : List (Option CheckedState)) (board gone : List (Option Held)) (live : List ℕ) (long : length board ≡ length s.board) (same : (k : ℕ) → is_some (get_or checked k None) ≡ is_some (checked_of s k)) where
    abbrev pub value_lists : State
    value_lists = record s { pool = pool; slabs = slabs; frees = frees; checked = checked; board = board; gone = gone; live = live }

    pub value_setup : setup_of value_lists b ≡ setup_of s b
    value_setup = setup_checked s b w system.locals pool slabs frees checked board gone live later system.locals long same

    pub value_rest : Keeps s value_lists → IsBetween w.setup (rested m told) → ((j : ℕ) → j < 33 → later j ≡ value_in value_lists j) → ((f : ℕ) → get_or frees f [] ≡ own_free s f) → ((f : ℕ) → get_or slabs f None ≡ slab_at (record w { value = later }) f)
        → ((o : ℕ) → get_or board o None ≡ named w (set system.locals x (rested m told)) o) → ((o : ℕ) (held : Held) → get_or board o None ≡ Some held → checked_of s held.cache ≡ None → held_under s o ≡ Some held) → IsAtRest opening value_lists b value_end
    value_rest keeps between values own slab_is names were =
        let words : IsWorded (record w { value = later }) = subst IsWorded says value_stands.stands.fresh.worded in
        ends_keeping opening (record w { value = later }) s value_lists b b value_end rest.lists rest.beside value_setup keeps rest.beside.tids refl refl ended says
        (rests_checked s b w system.locals pool slabs frees checked board gone live later (set system.locals x (rested m told)) rest.rests.rests long same words (All-set (IsBetween w.setup) system.locals x (rested m told) between rest.rests.rests.workers) values own slab_is names value_once were)
        rest.whole

-- what the locks guard at the begin
pub values_there : {x : ℕ} (opening : World) (s : State) (b : Beside) (system : System) → IsReady opening s b system x → (n : ℕ) → n < 33 → system.value n ≡ value_in s n
values_there opening s b system rest n below = ap (λ (value : ℕ → LockValue). value n) (sym (value_of (setup_of s b) system.value system.words)) ∙ rest.rests.rests.values n below

-- and the slabs
pub slabs_there : {x : ℕ} (opening : World) (s : State) (b : Beside) (system : System) → IsReady opening s b system x → (f : ℕ) → slab_of s f ≡ slab_at (record (world_of (setup_of s b) system.value system.words) { value = system.value }) f
slabs_there opening s b system rest f = rest.rests.rests.slab f ∙ ap by_value (value_of (setup_of s b) system.value system.words)
  where
    by_value : (ℕ → LockValue) → Option Slab
    by_value g = slab_at (record (world_of (setup_of s b) system.value system.words) { value = g }) f

-- ---- where one checked cache has other slabs of the same shapes

module _ (opening : World) (s : State) (b : Beside) (system : System) (x : ℕ) (rest : IsReady opening s b system x) (there : x < length system.locals) (k : ℕ) (c e : CheckedState) (was : checked_of s k ≡ Some c) (n : ℕ) (told : Local)
    (whole : alone (setup_of s b) x (suc n) system ≡ machine system.words (update system.value (node_lock k) (Checked e)) (set system.locals x (rested (setup_of s b) told)))
    (shape : (f : ℕ) → shape_at e f ≡ shape_at c f) (flags : e.flags ≡ c.flags) (board gone : List (Option Held)) (live : List ℕ) (long : length board ≡ length s.board) (long_gone : length gone ≡ length s.gone) (long_live : length live ≡ length s.live)
    (accounted : IsAccounted (record s { checked = set s.checked k (Some e); board = board; gone = gone; live = live })) (between : IsBetween (world_of (setup_of s b) system.value system.words).setup (rested (setup_of s b) told))
    (names : (o : ℕ) → get_or board o None ≡ named (world_of (setup_of s b) system.value system.words) (set system.locals x (rested (setup_of s b) told)) o)
    (were : (o : ℕ) (held : Held) → get_or board o None ≡ Some held → checked_of s held.cache ≡ None → held_under s o ≡ Some held) where
  abbrev m2 : Setup
  m2 = setup_of s b

  abbrev w2 : World
  w2 = record (world_of m2 system.value system.words) { value = system.value }

  abbrev later2 : ℕ → LockValue
  later2 = update system.value (node_lock k) (Checked e)

  abbrev pub locked_lists : State
  locked_lists = record s { checked = set s.checked k (Some e); board = board; gone = gone; live = live }

  lengths : HasLengths locked_lists
  lengths = record {
    slabs = rest.lists.shaped.slabs;
    frees = rest.lists.shaped.frees;
    cpu_lists = rest.lists.shaped.cpu_lists;
    nodes = rest.lists.shaped.nodes;
    checked = length-set s.checked k (Some e) ∙ rest.lists.shaped.checked.numbers;
    memory = rest.lists.shaped.memory;
    gone = long_gone ∙ rest.lists.shaped.gone ∙ sym long;
    live = long_live ∙ rest.lists.shaped.live;
  }

  pub locked_setup : setup_of locked_lists b ≡ setup_of s b
  locked_setup = value_setup opening s b system x rest there n later2 told whole s.pool s.slabs s.frees (set s.checked k (Some e)) board gone live long (checked_same s k c e was)

  pub locked_rest : IsAtRest opening locked_lists b (machine system.words later2 (set system.locals x (rested m2 told)))
  locked_rest = value_rest opening s b system x rest there n later2 told whole s.pool s.slabs s.frees (set s.checked k (Some e)) board gone live long (checked_same s k c e was)
      (keeps_with s locked_lists k c e rest.lists was flags refl refl lengths accounted) between
      (values_with s k c e was s.slabs s.frees board gone live system.value (values_there opening s b system rest)) (λ f. refl)
      (λ f. slabs_there opening s b system rest f ∙ sym (slabs_kept w2 k c e (slabs_guarded opening s b system rest k c was) shape f)) names were
