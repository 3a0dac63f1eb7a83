-- A worker that is about to make a call: the machine once it has begun it, and what is known then.
use Rattle.std.proofs.Common.{◌≡◌, ℕ, suc, ◌<◌, ◌≤◌, ◌++◌, Bool, true, false, List, [], ◌∷◌, length, get_or, set, map, Some, refl, ap, sym, ◌∙◌, subst, arith}
use Rattle.std.proofs.lemmas.List.{get_or-set_same, get_or-map, set-get_or, set-set, length-set, map-set}
use Rattle.std.proofs.lemmas.List.Elements.{All-get_or, All-set}
use Rattle.std.proofs.lemmas.Option.{none-some}
use Rattle.std.proofs.Math.Seq.{set-append_seam}
use Rattle.slub_lists.specs.State.{State}
use Rattle.slub_lists.specs.Coherent.{IsAccounted, IsConsistent}
use Rattle.slub_lists.proofs.Kept.{consistent-of}
use Rattle.slub_core.specs.declared.call.Call.{Call}
use Rattle.slub_core.specs.declared.call.CallKind.{CallKind}
use Rattle.slub_core.specs.declared.call.CallKind.TheVariants.{Alloc, Free, Write, Read, Poke, Trim, Flush}
use Rattle.slub_core.specs.declared.spot.Spot.{Spot}
use Rattle.slub_core.specs.declared.spot.Spot.TheVariants.{Between}
use Rattle.slub_core.specs.Calls.{call_kind, call_cache, call_place}
use Rattle.slub_core.specs.Setup.{Setup, IsSetup}
use Rattle.slub_core.specs.Words.{number_of, after_op, answer_of}
use Rattle.slub_core.specs.World.{World, LockValue, world_from, world_of}
use Rattle.slub_core.specs.Local.{Local, Worker, nobody}
use Rattle.slub_core.specs.Spots.{doing}
use Rattle.slub_core.specs.Steps.{step_of, advance_of, cache_for, first_spot, begun_call, begun_with, begun_at, begun}
use Rattle.slub_core.specs.Replies.{names_object}
use Rattle.slub_core.specs.Run.{System, idle, after_step, turn}
use Rattle.slub_core.specs.Coherent.{Stands}
use Rattle.slub_core.specs.Accounted.{IsAccounted as IsAccountedFor}
use Rattle.slub_core.specs.Law.{IsRested, IsCoherentSystem}
use Rattle.slub_core.proofs.Accounts.{Comes}
use Rattle.slub_core.proofs.Among.{to_front, from_front}
use Rattle.slub_core.proofs.Begin.{begin}
use Rattle.slub_core.proofs.MayBegin.{MayBegin, may_begin}
use Rattle.slub_core.proofs.Rests.{joined}
use Rattle.slub_core.proofs.TaleBegin.{told_begin, accounted_to_front, accounted_from_front}
use Rattle.slub_core.proofs.Turns.{split}
use Rattle.slub_core.proofs.StepWords.{IsTable}
use Rattle.slub_law_opening.specs.Opening.{Beside, setup_of}
use Rattle.slub_law_opening.specs.Rests.{IsBetween, Rests}
use Rattle.slub_law_opening.specs.Closing.{HasLengths}
use Rattle.slub_law_opening.proofs.Standing.{no_worker}
use Rattle.slub_law_alone.specs.Alone.{AreWhole, own_pick, alone, worker_at, known_at, IsAtRest, IsNext}
use Rattle.slub_law_alone.specs.Ready.{with_begun, IsReady}
use Rattle.slub_law_alone.specs.Boards.{RestsAreReady}
use Rattle.slub_law_alone.proofs.Ended.{alone_keeps, ends_from}
use Rattle.slub_law_alone.proofs.Start.{HasObject, object_of}
use Rattle.slub_law_alone.proofs.Turns.{machine}
use Rattle.slub_law_alone.proofs.Workers.{AtFront, at_front, may_call, get_or-middle, length-mapped}

-- ---- the begin of a call

-- a worker in a call begins none
begun_in : (m : Setup) (l : Local) (kind : CallKind) (c h : Bool) → (begun_at m false l (first_spot kind c h) ≡ l) × (doing (first_spot kind c h) ≡ Some kind)
begun_in m l Alloc false h = (refl, refl)
begun_in m l Alloc true h = (refl, refl)
begun_in m l Free c false = (refl, refl)
begun_in m l Free false true = (refl, refl)
begun_in m l Free true true = (refl, refl)
begun_in m l Write false h = (refl, refl)
begun_in m l Write true h = (refl, refl)
begun_in m l Read false h = (refl, refl)
begun_in m l Read true h = (refl, refl)
begun_in m l Poke c h = (refl, refl)
begun_in m l Trim c h = (refl, refl)
begun_in m l Flush c h = (refl, refl)

begun_twice : (m : Setup) (l : Local) → begun m false (begun m false l) ≡ begun m false l
begun_twice m l = by_spot l.spot refl
  where
    by_todo : (calls : List Call) → l.todo ≡ calls → l.spot ≡ Between → begun m false (begun_with m false l calls) ≡ begun_with m false l calls
    by_todo [] todo is = ap (begun_at m false l) is ∙ ap (begun_with m false l) todo
    by_todo (call ∷ calls) todo is = let k = get_or l.known (call_place call) nobody in (begun_in m (begun_call m false l call) (call_kind call) (m.checks (cache_for m k (call_cache call) (call_kind call))) k.held).0

    by_spot : (spot : Spot) → l.spot ≡ spot → begun m false (begun_at m false l spot) ≡ begun_at m false l spot
    by_spot Between is = by_todo l.todo refl is
    by_spot _ is = ap (begun_at m false l) is

pub begun_next : (m : Setup) (l : Local) (call : Call) (calls : List Call) → l.spot ≡ Between → l.todo ≡ call ∷ calls → begun m false l ≡ begun_call m false l call
begun_next m l call calls between todo = ap (begun_at m false l) between ∙ ap (begun_with m false l) todo

-- two workers that begin the same call make the same turn
pub same_turn : (m : Setup) (words : List ℕ) (value : ℕ → LockValue) (ls : List Local) (x : ℕ) (l k : Local) → x < length ls → begun m false l ≡ begun m false k → turn m (machine words value (set ls x l)) (own_pick x) ≡ turn m (machine words value (set ls x k)) (own_pick x)
same_turn m words value ls x l k below same = by_local l ∙ ap after same ∙ sym (by_local k)
  where
    after : Local → System
    after a =
        let step = step_of m value a in
        let n = number_of m step.place in
        let q = get_or words n 0 in
        let c = advance_of m false value a (answer_of step.op q) in
        machine (set words n (after_op step.op q)) c.value (set ls x c.local)

    by_local : (l : Local) → turn m (machine words value (set ls x l)) (own_pick x) ≡ after (begun m false l)
    by_local l =
        let a = begun m false l in
        let step = step_of m value a in
        let n = number_of m step.place in
        let q = get_or words n 0 in
        let c = advance_of m false value a (answer_of step.op q) in
        ap (λ h. after_step m false (machine words value (set ls x l)) x (begun m false h)) (get_or-set_same ls x l idle below)
        ∙ ap (machine (set words n (after_op step.op q)) c.value) (set-set ls x l c.local)

begun_turn : (m : Setup) (x : ℕ) (system : System) → x < length system.locals → turn m (with_begun m x system) (own_pick x) ≡ turn m system (own_pick x)
begun_turn m x system below =
    let l = worker_at system x in
    same_turn m system.words system.value system.locals x (begun m false l) l below (begun_twice m l) ∙ ap (λ ls. turn m (machine system.words system.value ls) (own_pick x)) (set-get_or system.locals x idle)

-- ---- a worker in another place of its own

pub replaced : (m : Setup) (opening : World) (system : System) (x : ℕ) (l : Local) → x < length system.locals → IsCoherentSystem m opening system → IsRested m l
    → ((y : Worker) (others : List Worker) → y.local ≡ worker_at system x → Stands (world_of m system.value system.words) (y ∷ others) → IsAccountedFor opening (world_of m system.value system.words) (y ∷ others) → Comes opening (world_of m system.value system.words) others l)
    → IsCoherentSystem m opening (record system { locals = set system.locals x l })
replaced m opening system x l below is rested comes =
    let w = world_of m system.value system.words in
    let long = length-mapped (λ (x : Worker). x.local) is.workers in
    let same = ap (length {A = Local}) is.locals in
    let inside : x < length is.workers = omega arith in
    let r = split is.workers x inside in
    let all : Stands w is.workers = record { chains = is.chains; placed = is.coherent.placed; listed = is.coherent.listed; fresh = is.coherent.fresh } in
    let there : get_or is.workers x no_worker ≡ r.1 = ap (λ xs. get_or xs x no_worker) r.3 ∙ get_or-middle r.0 r.2 r.1 no_worker x r.4 in
    let mine : r.1.local ≡ worker_at system x = ap (λ (x : Worker). x.local) (sym there)
    ∙ sym (get_or-map (λ (x : Worker). x.local) is.workers x no_worker idle inside) ∙ ap (λ ls. get_or ls x idle) is.locals in
    let z = joined opening w (r.0 ++ r.2) l (comes r.1 (r.0 ++ r.2) mine (to_front w r.0 r.2 r.1 (subst (Stands w) r.3 all)) (accounted_to_front opening w r.0 r.2 r.1 (subst (IsAccountedFor opening w) r.3 is.coherent.accounted))) in
    let stands = from_front w r.0 r.2 z.0 z.2 in
    record {
      words = is.words;
      workers = r.0 ++ z.0 ∷ r.2;
      locals = ap (map (λ (x : Worker). x.local)) (sym (set-append_seam r.0 r.1 r.2 z.0) ∙ ap (λ k. set (r.0 ++ r.1 ∷ r.2) k z.0) r.4 ∙ ap (λ ws. set ws x z.0) (sym r.3))
          ∙ map-set (λ (x : Worker). x.local) is.workers x z.0 ∙ ap (λ ls. set ls x z.0.local) is.locals ∙ ap (set system.locals x) z.1;
      chains = stands.chains;
      coherent = record { placed = stands.placed; listed = stands.listed; fresh = stands.fresh; accounted = accounted_from_front opening w r.0 r.2 z.0 z.3 };
      rested = All-set (IsRested m) system.locals x l rested is.rested;
    }

-- ---- machines at rest

pub rests_ready : RestsAreReady
unfolding world_of world_from
rests_ready opening s b system x call rest next =
    let m = setup_of s b in
    let w = world_of m system.value system.words in
    let l = worker_at system x in
    let between = (All-get_or (IsBetween w.setup) system.locals x idle next.there rest.rests.rests.workers).between in
    let k = get_or l.known (call_place call) nobody in
    let busy : doing (begun m false l).spot ≡ Some (call_kind call) = ap (λ (l : Local). doing l.spot) (begun_next m l call next.calls between next.todo) ∙ (begun_in m l (call_kind call) (m.checks (cache_for m k (call_cache call) (call_kind call))) k.held).1 in
    record {
      lists = rest.lists;
      beside = rest.beside;
      rests = rest.rests;
      whole = rest.whole;
      coherent = replaced m opening system x (begun m false l) next.there rest.coherent (λ e. absurd (none-some (call_kind call) (sym (ap doing e) ∙ busy)))
          (λ y others mine stands account.
          let takes = subst (λ l. IsRested m l) (sym mine) (rest.coherent.rested x idle next.there) in
          subst (λ l. Comes opening w others (begun m false l)) mine (begin false w y others stands (λ is. may_begin opening w y others account) takes, told_begin false opening w y others takes account));
    }

-- ---- what is known of a worker that is ready

-- its turns keep all, the first one too
pub along : (opening : World) (s : State) (b : Beside) (system : System) (x : ℕ) → x < length system.locals → IsReady opening s b system x → (n : ℕ) → IsCoherentSystem (setup_of s b) opening (alone (setup_of s b) x (suc n) system)
along opening s b system x below ready n =
    let m = setup_of s b in
    subst (λ t. IsCoherentSystem m opening (alone m x n t)) (begun_turn m x system below) (alone_keeps m opening x (suc n) (with_begun m x system) ready.coherent)

pub record IsReadyStart (opening : World) (s : State) (b : Beside) (system : System) (x : ℕ) (call : Call) : Type 0 where
  pub front : AtFront (setup_of s b) opening (with_begun (setup_of s b) x system) x
  pub may : MayBegin (setup_of s b) (worker_at system x) call
  pub between : IsBetween (world_of (setup_of s b) system.value system.words).setup (worker_at system x)
  pub setup : IsSetup (setup_of s b)
  pub few : s.cpus ≤ 16
  pub table : IsTable (setup_of s b) system.words
  pub consistent : IsConsistent s

pub ready_starts : (opening : World) (s : State) (b : Beside) (system : System) (x : ℕ) (call : Call) → IsReady opening s b system x → IsNext system x call → IsReadyStart opening s b system x call
ready_starts opening s b system x call ready next =
    let m = setup_of s b in
    let w = world_of m system.value system.words in
    let l = worker_at system x in
    let begins = with_begun m x system in
    let front = at_front m opening begins x (omega (arith, next.there, length-set system.locals x (begun m false l))) ready.coherent in
    let setup = subst IsSetup ready.rests.rests.setup front.stands.fresh.setup in
    let between = All-get_or (IsBetween w.setup) system.locals x idle next.there ready.rests.rests.workers in
    let is : worker_at begins x ≡ begun_call m false l call = get_or-set_same system.locals x (begun m false l) idle next.there ∙ begun_next m l call next.calls between.between next.todo in
    let may = subst (λ l. MayBegin m l call) is (may_call m opening begins x call next.calls front (ap (λ (l : Local). l.todo) is ∙ next.todo)) in
    record {
      front = front;
      may = record { cpu = may.cpu; object = may.object; place = may.place; known = may.known; numbers = may.numbers; cache = may.cache; new = may.new };
      between = between;
      setup = setup;
      few = ready.lists.shaped.cpus.1;
      table = record { length = ready.rests.count; locks = refl; cpu_words = refl; frames = omega (arith, setup.frames); objects = ready.beside.objects.0 };
      consistent = consistent-of s ready.lists;
    }

pub ready_object : (opening : World) (s : State) (b : Beside) (system : System) (x : ℕ) (call : Call) → IsReady opening s b system x → IsNext system x call → names_object (call_kind call) ≡ true → (known_at (worker_at system x) call).held ≡ true → HasObject s system x call
ready_object opening s b system x call ready next names held =
    let begin = ready_starts opening s b system x call ready next in
    object_of s b system x call ready.lists ready.rests.rests next.there begin.may begin.setup names held

-- lists of the same tables and checked caches in which a coherent machine rests are coherent
pub ends_ready : {x : ℕ} (opening v : World) (s t : State) (b d : Beside) (system end : System) → IsReady opening s b system x → setup_of t d ≡ setup_of s b → t.table ≡ s.table → t.checked ≡ s.checked → HasLengths t → IsAccounted t
    → length d.tids ≡ 512 → d.links ≡ b.links → t.frames ≡ s.frames → IsCoherentSystem (setup_of s b) opening end → world_of (setup_of s b) end.value end.words ≡ v → Rests t d v end.locals → AreWhole (setup_of s b) end.words → IsAtRest opening t d end
ends_ready opening v s t b d system end ready = ends_from opening v s t b d end ready.lists ready.beside
