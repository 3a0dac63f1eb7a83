-- A free of a number that names nothing which the worker may free: it finds nothing on the board.
use Rattle.std.proofs.Common.{◌≡◌, ℕ, ◌+◌, ◌<◌, ◌≤◌, Bool, true, false, List, ◌∷◌, get_or, set, Option, Some, None, inl, inr, refl, ap, sym, ◌∙◌, subst, arith}
use Rattle.std.specs.Prelude.{IfSome, MatchOption, MatchBool}
use Rattle.std.specs.Option.{option_map, option_or}
use Rattle.std.proofs.lemmas.Bool.{cases_eq, cases_Bool, false≢true, eq-eqb}
use Rattle.std.proofs.lemmas.List.{set-get_or}
use Rattle.std.proofs.lemmas.List.Elements.{All-set}
use Rattle.slub_trace.specs.declared.reply.Reply.TheVariants.{NotHeld}
use Rattle.slub_words.specs.declared.board.BoardWord.{BoardWord}
use Rattle.slub_lists.specs.declared.lists.Held.{Held}
use Rattle.slub_lists.specs.State.{State}
use Rattle.slub_lists.specs.Coherent.{held_under}
use Rattle.slub_lists.specs.Free.{is_freeable}
use Rattle.slub_lists.specs.Freeing.{Frees, FreesHeld}
use Rattle.slub_core.specs.declared.call.Call.{Call}
use Rattle.slub_core.specs.declared.call.CallKind.{CallKind}
use Rattle.slub_core.specs.declared.call.CallKind.TheVariants.{Free}
use Rattle.slub_core.specs.declared.local.Known.{Known}
use Rattle.slub_core.specs.declared.spot.Spot.{Spot}
use Rattle.slub_core.specs.declared.spot.Spot.TheVariants.{Between, InFree}
use Rattle.slub_core.specs.declared.spot.FreeSpot.TheVariants.{TakeBoard}
use Rattle.slub_core.specs.declared.step.Answer.TheVariants.{Word}
use Rattle.slub_core.specs.declared.step.Op.TheVariants.{Swap}
use Rattle.slub_core.specs.declared.step.Place.TheVariants.{BoardOf}
use Rattle.slub_core.specs.Calls.{call_kind, call_cpu, call_cache, call_object, call_place}
use Rattle.slub_core.specs.Setup.{Setup}
use Rattle.slub_core.specs.Words.{board_base, board_in}
use Rattle.slub_core.specs.World.{World, update, world_of}
use Rattle.slub_core.specs.Local.{Local, at, answered}
use Rattle.slub_core.specs.Free.{board_taken}
use Rattle.slub_core.specs.Replies.{names_object}
use Rattle.slub_core.specs.Steps.{begun, begun_at, begun_with, cache_for, first_spot, first_cpu, rested}
use Rattle.slub_core.specs.Run.{System, idle}
use Rattle.slub_core.specs.Law.{IsCoherentSystem}
use Rattle.slub_core.proofs.Update.{update_at, update_other}
use Rattle.slub_core.proofs.StepWords.{world_of-board, board-read}
use Rattle.slub_law_opening.specs.Opening.{Beside, setup_of}
use Rattle.slub_law_opening.specs.Rests.{IsBetween, Rests, held_on, held_in, held_among, times_named}
use Rattle.slub_law_opening.specs.Closing.{HasLengths}
use Rattle.slub_law_opening.proofs.Names.{as_held}
use Rattle.slub_law_alone.specs.Alone.{alone, worker_at, known_at, IsAtRest, IsNext}
use Rattle.slub_law_alone.specs.Laws.{FreesAlone, IsUnheld, UnheldFreesFindNothing}
use Rattle.slub_law_alone.proofs.Bits.{whole_board}
use Rattle.slub_law_alone.proofs.Changed.{rests_changed, same_word}
use Rattle.slub_law_alone.proofs.Ended.{alone_keeps, ends_at_rest, replies_of}
use Rattle.slub_law_alone.proofs.Knows.{known_ends, knows_unheld}
use Rattle.slub_law_alone.proofs.Names.{among_same}
use Rattle.slub_law_alone.proofs.Start.{IsStart, starts, has_object}
use Rattle.slub_law_alone.proofs.Turns.{machine, turn_goes, settle_tells, then_turn}
use Rattle.slub_law_alone.proofs.Workers.{once_named, IsWithCalls, rested_calls}

-- a function that is changed to what it was
update_idle : {A : Type 0} (g : ℕ → A) (n : ℕ) (a : A) → g n ≡ a → update g n a ≡ g
update_idle g n a was = λ i k. same k i
  where
    same : (k : ℕ) → update g n a k ≡ g k
    same k = elim (cases_eq k n) [
      | inl e ↦ update_at g n a k e ∙ sym was ∙ ap g (sym e)
      | inr d ↦ update_other g n a k d
    ]

on_board : (z : Bool) → first_spot Free z false ≡ InFree TakeBoard
on_board true = refl
on_board false = refl

pub begin_board : (m : Setup) (l : Local) (call : Call) (calls : List Call) → l.spot ≡ Between → l.todo ≡ call ∷ calls → call_kind call ≡ Free → (known_at l call).held ≡ false
    → begun m false l ≡ record l { spot = InFree TakeBoard; cache = (known_at l call).cache; cpu = call_cpu call; place = call_place call; fast = false; turn = 0; count = 0 }
begin_board m l call calls between todo is held =
    ap (begun_at m false l) between ∙ ap (begun_with m false l) todo ∙ ap (λ kind. by kind (known_at l call).held) is ∙ ap (by Free) held ∙ ap last (on_board (m.checks (known_at l call).cache))
  where
    by : CallKind → Bool → Local
    by kind held =
        let cache = cache_for m (known_at l call) (call_cache call) kind in
        record l { spot = first_spot kind (m.checks cache) held; cache = cache; cpu = first_cpu kind (call_cpu call); place = call_place call; fast = false; turn = 0; count = 0 }

    last : Spot → Local
    last spot = record l { spot = spot; cache = (known_at l call).cache; cpu = call_cpu call; place = call_place call; fast = false; turn = 0; count = 0 }

unheld_frees : (s : State) (cpu worker object : ℕ) → IsUnheld s worker object → Frees s cpu worker object NotHeld s
unheld_frees s cpu worker object unheld = by (held_under s object) unheld
  where
    by : (o : Option Held) → IfSome o (λ held. is_freeable worker held.worker ≡ false)
        → MatchOption o ((NotHeld ≡ NotHeld) × (s ≡ s)) (λ (held : Held). MatchBool (is_freeable worker held.worker) (FreesHeld s cpu worker object held NotHeld s) ((NotHeld ≡ NotHeld) × (s ≡ s)))
    by None none = (refl, refl)
    by (Some held) other = subst (λ z. MatchBool z (FreesHeld s cpu worker object held NotHeld s) ((NotHeld ≡ NotHeld) × (s ≡ s))) (sym other) (refl, refl)

module _ (opening : World) (s : State) (b : Beside) (system : System) (x : ℕ) (call : Call) (rest : IsAtRest opening s b system) (next : IsNext system x call) (is : call_kind call ≡ Free) (unheld : IsUnheld s (worker_at system x).worker (call_object call)) where
  abbrev m : Setup
  m = setup_of s b

  abbrev w : World
  w = world_of m system.value system.words

  abbrev l : Local
  l = worker_at system x

  abbrev o : Known
  o = known_at l call

  begin : IsStart opening s b system x call
  begin = starts opening s b system x call rest next

  resting : Rests s b w system.locals
  resting = rest.rests.rests

  names : names_object (call_kind call) ≡ true
  names = ap names_object is

  object : o.object ≡ call_object call
  object = begin.may.known names

  other : (h : Held) → held_under s (call_object call) ≡ Some h → is_freeable l.worker h.worker ≡ false
  other h there = subst (λ o. IfSome o (λ held. is_freeable l.worker held.worker ≡ false)) there unheld

  -- the worker doesn't hold it, and it isn't on the board
  held : o.held ≡ false
  held = elim (cases_Bool o.held) [
    | inr no_more ↦ no_more
    | inl has_it ↦ absurd (false≢true (sym (other (as_held l.worker o) (has_object opening s b system x call rest next names has_it).named) ∙ eq-eqb l.worker l.worker refl))
  ]

  none : w.board o.object ≡ None
  none = by (w.board o.object) refl
    where
      by : (d : Option BoardWord) → w.board o.object ≡ d → d ≡ None
      by None there = refl
      by (Some d) there = absurd (false≢true (sym (other (held_on d) (ap (held_under s) (sym object) ∙ resting.named o.object ∙ ap (λ z. option_or (option_map held_on z) (held_among system.locals o.object)) there))))

  some : 1 ≤ o.object
  some = omega (arith, object, (begin.may.object names).0)

  below : o.object < m.objects
  below = omega (arith, object, (begin.may.object names).1)

  abbrev asked : Local
  asked = record l { spot = InFree TakeBoard; cache = o.cache; cpu = call_cpu call; place = call_place call; fast = false; turn = 0; count = 0 }

  abbrev told : Local
  told = answered (at asked Between) NotHeld

  abbrev y : ℕ
  y = get_or system.words (board_base m + o.object) 0

  abbrev words : List ℕ
  words = set system.words (board_base m + o.object) 0

  whole : alone m x 1 system ≡ machine words system.value (set system.locals x (rested m told))
  whole = ap (alone m x 1) (ap (machine system.words system.value) (sym (set-get_or system.locals x idle)))
      ∙ then_turn m x 0 (machine system.words system.value (set system.locals x l)) (machine words system.value (set system.locals x (rested m told))) (machine words system.value (set system.locals x (rested m told)))
      (turn_goes m system.words words system.value system.locals x l asked (rested m told) (record { place = BoardOf o.object; op = Swap 0 }) (Word y) next.there
      (begin_board m l call next.calls begin.between.between next.todo is held) refl refl refl
      (settle_tells m system.value asked (at asked Between) (Word y) NotHeld (ap (board_taken m asked) (sym (board-read m system.value system.words o.object some below) ∙ none)) refl)) refl

  ended : IsCoherentSystem m opening (machine words system.value (set system.locals x (rested m told)))
  ended = subst (IsCoherentSystem m opening) whole (alone_keeps m opening x 1 system rest.coherent)

  says : world_of m system.value words ≡ w
  unfolding board_in
  says = world_of-board m system.value system.words o.object 0 begin.table some below ∙ ap with_boards (update_idle w.board o.object None none)
    where
      with_boards : (ℕ → Option BoardWord) → World
      with_boards g = record w { board = g }

  calls : IsWithCalls told (rested m told)
  calls = rested_calls m told refl

  worker_rests : IsBetween w.setup (rested m told)
  worker_rests = subst (IsBetween w.setup) (sym calls.same) (record {
    between = refl;
    hands = begin.between.hands;
    string = begin.between.string;
    run = begin.between.run;
    packed = record { cpu_word = begin.between.packed.cpu_word; slab_word = begin.between.packed.slab_word; list_word = begin.between.packed.list_word; next = begin.between.packed.next };
    cpu = subst (λ (m : Setup). call_cpu call < m.cpus) (sym resting.setup) begin.may.cpu;
    numbers = begin.between.numbers;
    some = begin.between.some;
  })

  ends : Rests s b w (set system.locals x (rested m told))
  ends = rests_changed s b w system.locals s.frees s.cpu_lists s.memory s.board s.gone s.live b.tids w.cpu w.slab w.memory (set system.locals x (rested m told)) resting refl resting.words
      (All-set (IsBetween w.setup) system.locals x (rested m told) worker_rests resting.workers)
      resting.cpu (λ f. same_word (w.slab f)) resting.own
      (λ j. resting.named j ∙ sym (ap (option_or (option_map held_on (w.board j))) (among_same j system.locals x (rested m told) (ap (λ (l : Local). held_in l.worker l.known j) calls.same))))
      (λ j. subst (λ w. times_named w (set system.locals x (rested m told)) j ≤ 1) says (once_named m opening (machine words system.value (set system.locals x (rested m told))) ended j)) resting.contents

  lengths : HasLengths s
  lengths = record {
    slabs = rest.lists.shaped.slabs;
    frees = rest.lists.shaped.frees;
    cpu_lists = rest.lists.shaped.cpu_lists;
    nodes = rest.lists.shaped.nodes;
    checked = rest.lists.shaped.checked.numbers;
    memory = rest.lists.shaped.memory;
    gone = rest.lists.shaped.gone;
    live = rest.lists.shaped.live;
  }

  nothing : FreesAlone opening s b system x call 1 b
  nothing = record {
    reply = NotHeld;
    after = s;
    frees = unheld_frees s (call_cpu call) l.worker (call_object call) unheld;
    known = known_ends s b system x 1 told words system.value next.there whole refl ∙ knows_unheld l.known _ s l.worker (call_object call) unheld;
    replies = replies_of opening s s b b system x 1 call NotHeld told words system.value next whole refl refl refl refl refl
        (ends_at_rest opening w s s b b system (machine words system.value (set system.locals x (rested m told))) rest refl refl refl lengths rest.lists.accounted rest.beside.tids refl refl ended says ends (whole_board m system.words o.object 0 refl some rest.whole));
  }

pub finds_nothing : UnheldFreesFindNothing
finds_nothing opening s b system x call rest next is unheld = nothing opening s b system x call rest next is unheld
