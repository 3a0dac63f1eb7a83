-- A worker whose next call is a trim or a flush begins it: it may as well stand at the first CPU and cache already. And pieces of its way, one after the other.
use Rattle.std.proofs.Common.{◌≡◌, ℕ, suc, ◌+◌, ◌<◌, false, List, ◌∷◌, get_or, set, refl, ap, sym, ◌∙◌, subst, arith}
use Rattle.std.proofs.lemmas.List.{get_or-set_same, length-set, set-set}
use Rattle.std.proofs.lemmas.List.Elements.{All-get_or}
use Rattle.slub_lists.specs.State.{State}
use Rattle.slub_core.specs.declared.call.Call.{Call}
use Rattle.slub_core.specs.declared.spot.Spot.TheVariants.{Between, InOffline}
use Rattle.slub_core.specs.declared.spot.Sweep.{Sweep}
use Rattle.slub_core.specs.declared.spot.OfflineSpot.TheVariants.{LoadCurrent}
use Rattle.slub_core.specs.Calls.{call_place}
use Rattle.slub_core.specs.Setup.{Setup}
use Rattle.slub_core.specs.Words.{number_of, after_op, answer_of}
use Rattle.slub_core.specs.World.{World, world_from, world_of}
use Rattle.slub_core.specs.Local.{Change, Local, Worker}
use Rattle.slub_core.specs.Coherent.{Stands}
use Rattle.slub_core.specs.Accounted.{IsAccounted}
use Rattle.slub_core.specs.Law.{IsCoherentSystem, IsRested, TakesStep}
use Rattle.slub_core.specs.Run.{System, idle, after_step, turn}
use Rattle.slub_core.specs.Steps.{advance_of, begun, rested, step_of}
use Rattle.slub_core.proofs.Accounts.{Comes}
use Rattle.slub_core.proofs.Begin.{begin}
use Rattle.slub_core.proofs.MayBegin.{may_begin}
use Rattle.slub_core.proofs.TaleBegin.{told_begin}
use Rattle.slub_law_opening.specs.Opening.{Beside, setup_of}
use Rattle.slub_law_opening.specs.Rests.{IsBetween}
use Rattle.slub_law_alone.specs.Alone.{alone, own_pick, worker_at, IsAtRest, IsNext}
use Rattle.slub_law_alone.specs.Spent.{recalled}
use Rattle.slub_law_alone.specs.Away.{RestsBut, ComesTo, EndsAs}
use Rattle.slub_law_alone.proofs.Recalled.{elsewhere, waiting}
use Rattle.slub_law_alone.proofs.Resting.{rests_with}
use Rattle.slub_law_alone.proofs.Start.{starts}
use Rattle.slub_law_alone.proofs.Sweeping.{Loads, quiet_coherent, takes_alike}
use Rattle.slub_law_alone.proofs.UnderLock.{then_turns}

-- ---- one after the other

pub then_comes : (opening : World) (s t u : State) (b d e : Beside) (system : System) (x : ℕ) (l n : Local) (first : ComesTo opening s b system x t d l) → ComesTo opening t d (alone (setup_of s b) x (suc first.turns) system) x u e n → ComesTo opening s b system x u e n
then_comes opening s t u b d e system x l n first next = record {
  turns = first.turns + suc next.turns;
  setup = next.setup ∙ first.setup;
  rests = subst (λ r. RestsBut opening u e r x n) (sym ran) next.rests;
  others = ap (λ (r : System). r.locals) ran ∙ next.others ∙ ap (λ ls. set ls x n) first.others ∙ set-set system.locals x l n;
}
  where
    m : Setup
    m = setup_of s b

    ran : alone m x (suc (first.turns + suc next.turns)) system ≡ alone (setup_of t d) x (suc next.turns) (alone m x (suc first.turns) system)
    ran = then_turns m x (suc first.turns) (suc next.turns) (suc (first.turns + suc next.turns)) system (alone m x (suc first.turns) system) (alone (setup_of t d) x (suc next.turns) (alone m x (suc first.turns) system)) (omega arith) refl
        (ap (λ m. alone m x (suc next.turns) (alone (setup_of s b) x (suc first.turns) system)) (sym first.setup))

pub then_ends : (opening : World) (s t u : State) (b d e : Beside) (system : System) (x : ℕ) (l n : Local) (first : ComesTo opening s b system x t d l) → EndsAs opening t d (alone (setup_of s b) x (suc first.turns) system) x u e n → EndsAs opening s b system x u e n
then_ends opening s t u b d e system x l n first next = record {
  turns = first.turns + suc next.turns;
  setup = next.setup ∙ first.setup;
  rest = subst (IsAtRest opening u e) (sym ran) next.rest;
  here = ap (λ (r : System). worker_at r x) ran ∙ next.here ∙ ap (λ m. rested m n) first.setup;
  others = ap (λ (r : System). r.locals) ran ∙ next.others ∙ ap (λ m. set (alone (setup_of s b) x (suc first.turns) system).locals x (rested m n)) first.setup
      ∙ ap (λ ls. set ls x (rested (setup_of s b) n)) first.others ∙ set-set system.locals x l (rested (setup_of s b) n);
}
  where
    m : Setup
    m = setup_of s b

    ran : alone m x (suc (first.turns + suc next.turns)) system ≡ alone (setup_of t d) x (suc next.turns) (alone m x (suc first.turns) system)
    ran = then_turns m x (suc first.turns) (suc next.turns) (suc (first.turns + suc next.turns)) system (alone m x (suc first.turns) system) (alone (setup_of t d) x (suc next.turns) (alone m x (suc first.turns) system)) (omega arith) refl
        (ap (λ m. alone m x (suc next.turns) (alone (setup_of s b) x (suc first.turns) system)) (sym first.setup))

-- ---- the begin of the call

module _ (opening : World) (s : State) (b : Beside) (system : System) (x : ℕ) (call : Call) (rest : IsAtRest opening s b system) (next : IsNext system x call) (sweep : Sweep) (k c : ℕ) (below : c < s.cpus) where
  abbrev m : Setup
  m = setup_of s b

  abbrev w : World
  w = world_of m system.value system.words

  abbrev l : Local
  l = worker_at system x

  -- where it stands as the call begins
  abbrev pub stood : Local
  stood = record l { spot = InOffline LoadCurrent sweep; cache = k; cpu = c; place = call_place call; fast = false; turn = 0; count = 0 }

  abbrev pub began : System
  began = record system { locals = set system.locals x stood }

  module _ (begins : begun m false l ≡ stood) where
    rested_l : IsRested m l
    rested_l = All-get_or (IsRested m) system.locals x idle next.there rest.coherent.rested

    busy : IsRested m stood
    busy is = absurd (let e = is in cc e)

    comes : (z : Worker) (others : List Worker) → z.local ≡ l → Stands w (z ∷ others) → IsAccounted opening w (z ∷ others) → Comes opening w others stood
    unfolding world_of world_from
    comes z others mine stands ac =
        let takes : z.local.spot ≡ Between → TakesStep w.setup z.local z.local.todo = subst (λ (l : Local). l.spot ≡ Between → TakesStep m l l.todo) (sym mine) rested_l in
        subst (Comes opening w others) (ap (begun m false) mine ∙ begins) (begin false w z others stands (λ _. may_begin opening w z others ac) takes, told_begin false opening w z others takes ac)

    coherent : IsCoherentSystem m opening began
    coherent = elsewhere m opening system x stood next.there busy comes rest.coherent

    between : IsBetween w.setup l
    between = (starts opening s b system x call rest next).between

    waits_between : IsBetween w.setup (waiting stood)
    waits_between = record {
      between = refl;
      hands = between.hands;
      string = between.string;
      run = between.run;
      packed = record { cpu_word = between.packed.cpu_word; slab_word = between.packed.slab_word; list_word = between.packed.list_word; next = between.packed.next };
      cpu = subst (λ (m : Setup). c < m.cpus) (sym rest.rests.rests.setup) below;
      numbers = between.numbers;
      some = between.some;
    }

    waits_rested : IsRested m (waiting stood)
    waits_rested _ = takes_alike m l (waiting stood) l.todo refl (rested_l between.between)

    recalled_is : recalled x began ≡ record system { locals = set system.locals x (waiting stood) }
    recalled_is = ap by (get_or-set_same system.locals x stood idle next.there) ∙ ap (λ ls. record system { locals = ls }) (set-set system.locals x stood (waiting stood))
      where
        by : Local → System
        by n = record system { locals = set (set system.locals x stood) x (record n { spot = Between }) }

    pub rests_began : RestsBut opening s b began x stood
    rests_began = record {
      there = (let e = length-set system.locals x stood in omega (arith, e, next.there));
      here = get_or-set_same system.locals x stood idle next.there;
      rest = subst (IsAtRest opening s b) (sym recalled_is) (record {
        lists = rest.lists;
        beside = rest.beside;
        rests = record { count = rest.rests.count; rests = rests_with s b w system.locals x (waiting stood) rest.rests.rests next.there waits_between refl refl };
        whole = rest.whole;
        coherent = quiet_coherent m opening system.words system.value system.locals x stood (Loads sweep) next.there refl waits_rested coherent;
      });
      coherent = coherent;
    }

    -- its first turn is the same either way
    same_turn : turn m began (own_pick x) ≡ turn m system (own_pick x)
    same_turn = ap (λ l. after_step m false began x (begun m false l)) (get_or-set_same system.locals x stood idle next.there) ∙ by ∙ sym (ap (after_step m false system x) begins)
      where
        n : ℕ
        n = number_of m (step_of m system.value stood).place

        q : ℕ
        q = get_or system.words n 0

        ends : Change
        ends = advance_of m false system.value stood (answer_of (step_of m system.value stood).op q)

        to : List Local → System
        to ls = record { words = set system.words n (after_op (step_of m system.value stood).op q); value = ends.value; locals = ls }

        by : after_step m false began x stood ≡ after_step m false system x stood
        by = ap (λ ls. to ls) (set-set system.locals x stood ends.local)

    pub same_turns : (turns : ℕ) → alone m x (suc turns) began ≡ alone m x (suc turns) system
    same_turns turns = ap (alone m x turns) same_turn
