-- A round on the lists that is under way, and the ids beside it.
use Rattle.std.proofs.Common.{◌≡◌, ℕ, ◌+◌, ◌*◌, ◌^◌, ◌<◌, ◌≤◌, Bool, true, false, cond, List, [], ◌∷◌, ◌++◌, length, take, get_or, Option, Some, None, IfSome, All, refl, sym, ap, ◌∙◌, subst, arith, mul-le-mul_right, add-mul}
use Rattle.std.specs.Prelude.{nat_eq, is_some}
use Rattle.std.specs.List.{IsDistinct}
use Rattle.std.specs.Option.{option_and_then, option_map_or}
use Rattle.std.proofs.lemmas.List.{length-take-le, take_all, take_more}
use Rattle.slub_trace.specs.declared.reply.Reply.{Reply}
use Rattle.slub_trace.specs.declared.reply.Reply.TheVariants.{NoFrames}
use Rattle.slub_trace.specs.Kinds.{is_given}
use Rattle.slub_trace.specs.declared.event.Act.{Act}
use Rattle.slub_trace.specs.declared.event.Act.TheVariants as act
use Rattle.slub_trace.specs.declared.event.Event.{Event}
use Rattle.slub_trace.specs.declared.event.Round.{Round}
use Rattle.slub_trace.specs.Ranges.{step_of}
use Rattle.slub_trace.specs.Sound.{IsSoundAct, objects_of}
use Rattle.slub_trace.specs.declared.trace.Trace.{Trace}
use Rattle.slub_lists.specs.State.{State}
use Rattle.slub_lists.specs.Alloc.{checked_of, named}
use Rattle.slub_lists.specs.Coherent.{IsCoherent, all_on_board}
use Rattle.slub_core.specs.Setup.{cpu_number}
use Rattle.slub_law_opening.specs.Opening.{Beside}
use Rattle.slub_calls.specs.Laws.{MayDo}
use Rattle.slub_slabinfo_text.specs.Lawful.{Answers, DoesRound, IsUnheld, RunsEvents, found_in}
use Rattle.slub_slabinfo_text.specs.declared.journal.RoundResult.{RoundResult}
use Rattle.slub_open_close.specs.Ids.{AreIds, id_at}
use Rattle.slub_calls.specs.Changes.{grown, changes_of_alloc, has_slab_of, beside_after, grown_where}
use Rattle.slub_calls.specs.Events.{IsGrown, RunsWithIds}
use Rattle.slub_engine.specs.Running.{HasRun, MayAnswer, replies_in}
use Rattle.slub_engine.specs.Steps.{IsKnown, IsKnownAct}
use Rattle.slub_engine.specs.declared.running.Running.{Running}
use Rattle.slub_engine.proofs.UnderWay.{has_run_all, has_run_next, may_answer}
use Rattle.slub_rounds.specs.ByText.{DoesRoundOnLists, IdsLast}
use Rattle.slub_rounds.specs.Raising.{WordHasRoom, HaveRoom, ids_beside, ids_left, ids_raised, with_given, word_given, word_in}
use Rattle.slub_rounds.proofs.Growing.{act-grows, not-grown, runs-grow, runs-more}
use Rattle.slub_rounds.proofs.Raised.{left-is, named-within, word-within}
use Rattle.slub_rounds.proofs.Standing.{beside_ids, lasting, stands}

-- ---- events of a round that can be done

known-act : (s : State) (trace : Trace) (a : Act) → length s.board ≡ trace.objects + 1 → s.table.kept ≡ trace.names → IsSoundAct trace a → IsKnownAct s a
known-act s trace (act.Alloc place object) board names is = let same = ap (λ (xs : List (List ℕ)). length xs) names in (omega (arith, same, is.0), is.1, omega (arith, board, is.2))
known-act s trace (act.Free object) board names is = omega (arith, board, is.1)
known-act s trace (act.Write word object value) board names is = (omega (arith, board, is.1), is.2)
known-act s trace (act.Read word object) board names is = (omega (arith, board, is.1), is.2)
known-act s trace (act.Poke object offset byte) board names is = omega (arith, board, is.1)
known-act s trace (act.Trim place) board names is = let same = ap (λ (xs : List (List ℕ)). length xs) names in omega (arith, same, is)
known-act s trace act.Flush board names is = tt

pub known : (s : State) (trace : Trace) (round : Round) → MayDo s trace round → All (IsKnown s round.workers) round.events
known s trace round may = λ k d below.
    let event = may.sound.events k d below in
    record {
      worker = event.worker;
      cpu = omega (arith, event.cpu, may.cpus);
      act = known-act s trace (get_or round.events k d).act may.objects may.names event.act;
    }

-- ---- the ids beside the lists

-- beside whatever else stands there
module _ (s : State) (d : Beside) (worker cpu : ℕ) (reply : Reply) where
  abbrev with_ids : List ℕ → Beside
  with_ids ids = record d { tids = ids }

  alloc-beside : (x : Option ℕ)
      → with_ids (option_map_or (λ cache. grown (ids_beside d.step d.tids) (cpu_number cache cpu) (changes_of_alloc s cache cpu (is_given reply))) x (ids_beside d.step d.tids)).tids
      ≡ option_map_or (λ cache. grown d (cpu_number cache cpu) (changes_of_alloc s cache cpu (is_given reply))) x d
  alloc-beside None = refl
  alloc-beside (Some cache) = refl

  trim-beside : (x : Option ℕ) → with_ids (option_map_or (λ cache. grown_where (ids_beside d.step d.tids) (has_slab_of s cache)) x (ids_beside d.step d.tids)).tids ≡ option_map_or (λ cache. grown_where d (has_slab_of s cache)) x d
  trim-beside None = refl
  trim-beside (Some cache) = refl

  left-beside : (a : Act) → with_ids (ids_left s d.step worker cpu a reply d.tids) ≡ beside_after s d worker cpu a reply
  left-beside (act.Alloc place object) = alloc-beside (named s place)
  left-beside (act.Free object) = refl
  left-beside (act.Write word object value) = refl
  left-beside (act.Read word object) = refl
  left-beside (act.Poke object offset byte) = refl
  left-beside (act.Trim place) = trim-beside (named s place)
  left-beside act.Flush = refl

-- ---- room for the next event

-- so many events were answered, and these are the ids now
pub record IsUnderWay (s : State) (ids : List ℕ) (workers : ℕ) (events : List Event) (done : ℕ) (running : Running) (now : State) (words : List ℕ) : Type 0 where
  pub run : HasRun s workers (length events) (take done events) running now
  pub grown : RunsWithIds s (beside_ids s ids) (take done events) (replies_in running) now (record (beside_ids s ids) { tids = words })

no-replies : (replies : List Reply) → length replies ≡ 0 → replies ≡ []
no-replies [] none = refl
no-replies (reply ∷ replies) none = absurd (let never : ⊥ = omega (arith, none) in never)

pub begun : (s : State) (ids : List ℕ) (workers : ℕ) (events : List Event) (running : Running) → HasRun s workers (length events) [] running s → IsUnderWay s ids workers events 0 running s ids
begun s ids workers events running run = record {
  run = run;
  grown = subst (λ (replies : List Reply). RunsWithIds s (beside_ids s ids) [] replies s (beside_ids s ids)) (sym (no-replies (replies_in running) run.answered)) (refl, refl);
}

module _ (s : State) (ids : List ℕ) (round : Round) (events : List Event) (workers done : ℕ) (running : Running) (now : State) (words : List ℕ)
    (are : AreIds s ids) (last : IdsLast s ids round) (same : events ≡ round.events) (way : IsUnderWay s ids workers events done running now words) (within : done < length events) where
  abbrev step : ℕ
  step = step_of s.cpus

  so-far : IsGrown (λ n. 2 * done) (beside_ids s ids) (record (beside_ids s ids) { tids = words })
  so-far = runs-grow 0 (2 * done) s (beside_ids s ids) (beside_ids s ids) (take done events) (replies_in running) now (record (beside_ids s ids) { tids = words })
      (omega (arith, length-take-le done events (omega (arith, within)))) (not-grown (beside_ids s ids)) way.grown

  -- where so many changes were made, there is room for another
  room-for : (most times n id : ℕ) → times ≤ most → most + 1 ≤ 2 * length events + 1 → id ≡ id_at ids n + times * step → id + step < 2 ^ 32
  room-for most times n id below few is =
      let all : (times + 1) * step ≤ (2 * length events + 1) * step = mul-le-mul_right step (omega (arith, below, few)) in
      let one = add-mul times 1 step in
      let long : (2 * length round.events + 1) * step ≡ (2 * length events + 1) * step = ap (λ (es : List Event). (2 * length es + 1) * step) (sym same) in
      omega (arith, is, all, one, long, lasting s ids round are.count last n)

  pub room : HaveRoom step words
  room n = let t = so-far.tids n in room-for (2 * done) t.0 n (id_at words n) t.1 (omega (arith, within)) t.2

  -- and after what the event changes whatever its reply is
  pub room-raised : (worker cpu : ℕ) (a : Act) → HaveRoom step (ids_raised now step worker cpu a words)
  room-raised worker cpu a n =
      let grows = act-grows now worker cpu NoFrames (λ n. 2 * done) (λ n. 2 * done + 2) (beside_ids s ids) (record (beside_ids s ids) { tids = words }) (λ n. omega arith) so-far a in
      let t = grows.tids n in
      let own : id_at (ids_raised now step worker cpu a words) n ≡ id_at (beside_after now (record (beside_ids s ids) { tids = words }) worker cpu a NoFrames).tids n =
      ap (λ (d : Beside). id_at d.tids n) (left-beside now (record (beside_ids s ids) { tids = words }) worker cpu NoFrames a) in
      room-for (2 * done + 2) t.0 n (id_at (ids_raised now step worker cpu a words) n) t.1 (omega (arith, within)) (own ∙ t.2)

-- the next event may be answered
pub may-next : (s : State) (ids : List ℕ) (trace : Trace) (round : Round) (events : List Event) (done : ℕ) (running : Running) (now : State) (words : List ℕ) (event : Event)
    → MayDo s trace round → events ≡ round.events → IsUnderWay s ids round.workers events done running now words → done < length events → event ≡ get_or events done event
    → MayAnswer s round.workers (length events) (take done events) running now event
may-next s ids trace round events done running now words event may same way within is =
    may_answer s round.workers (length events) events done running now event way.run
    (subst (λ (es : List Event). All (IsKnown s round.workers) es) (sym same) (known s trace round may))
    (subst (λ (es : List Event). All (IsUnheld s) (objects_of es)) (sym same) may.unheld)
    (subst (λ (es : List Event). IsDistinct nat_eq (objects_of es)) (sym same) may.distinct) (omega arith) within is

-- the word of an object that is given is one of all
module _ (s : State) (cpu step : ℕ) (ids : List ℕ) (coherent : IsCoherent s) (below : cpu < s.cpus) (count : length ids ≡ 512) (room : HaveRoom step ids) where
  given-in : (cache : ℕ) → cache < 32 → (checked : Bool) → IfSome (cond checked None (Some (cpu_number cache cpu))) (WordHasRoom step ids)
  given-in cache inside true = tt
  given-in cache inside false = (word-within cache cpu s.cpus (length ids) inside below coherent.shaped.cpus.1 count, room (cpu_number cache cpu))

  given-of : (place : ℕ) (x : Option ℕ) → named s place ≡ x → IfSome (option_and_then (word_in s cpu) x) (WordHasRoom step ids)
  given-of place None is = tt
  given-of place (Some cache) is = given-in cache (named-within s place cache coherent is) (is_some (checked_of s cache))

  pub given-room : (a : Act) → IfSome (word_given s cpu a) (WordHasRoom step ids)
  given-room (act.Alloc place object) = given-of place (named s place) refl
  given-room (act.Free object) = tt
  given-room (act.Write word object value) = tt
  given-room (act.Read word object) = tt
  given-room (act.Poke object offset byte) = tt
  given-room (act.Trim place) = tt
  given-room act.Flush = tt

-- ---- one event more

pub more : (s : State) (ids : List ℕ) (workers : ℕ) (events : List Event) (done : ℕ) (running next : Running) (now after : State) (words raised left : List ℕ) (event : Event) (reply : Reply) (word : Option ℕ)
    → IsUnderWay s ids workers events done running now words → done < length events → event ≡ get_or events done event
    → IsCoherent now → event.cpu < now.cpus → length words ≡ 512
    → raised ≡ ids_raised now (step_of s.cpus) event.worker event.cpu event.act words → word ≡ word_given now event.cpu event.act → left ≡ with_given (step_of s.cpus) word reply raised
    → HasRun s workers (length events) (take done events ++ event ∷ []) next after → replies_in next ≡ replies_in running ++ reply ∷ []
    → Answers now event event.act reply after → IsCoherent after
    → IsUnderWay s ids workers events (done + 1) next after left
more s ids workers events done running next now after words raised left event reply word way within is coherent below count raises given gives run replies answers stays =
    let b = beside_ids s ids in
    let d : Beside = record b { tids = words } in
    let e : Beside = record b { tids = left } in
    let step : ℕ = step_of s.cpus in
    let left_is : left ≡ ids_left now step event.worker event.cpu event.act reply words =
    gives ∙ (λ i. with_given step (given i) reply (raises i))
    ∙ left-is now step event.cpu reply words event.worker event.act (λ place object cache alloc name. word-within cache event.cpu now.cpus (length words) (named-within now place cache coherent name) below coherent.shaped.cpus.1 count) in
    let e_is : e ≡ beside_after now d event.worker event.cpu event.act reply = ap (λ (xs : List ℕ). record b { tids = xs }) left_is ∙ left-beside now d event.worker event.cpu reply event.act in
    let ran = runs-more s b (take done events) (replies_in running) now d event reply after e way.grown answers stays e_is in
    let more : take (done + 1) events ≡ take done events ++ event ∷ [] = take_more events done event within ∙ ap (λ (x : Event). take done events ++ x ∷ []) (sym is) in
    record {
      run = has_run_next s workers (length events) events done next after event run within is;
      grown = subst (λ (xs : List Event). RunsWithIds s b xs (replies_in next) after e) (sym more) (subst (λ (rs : List Reply). RunsWithIds s b (take done events ++ event ∷ []) rs after e) (sym replies) ran);
    }

-- ---- the end

pub ended : (s : State) (ids : List ℕ) (round : Round) (events : List Event) (done : ℕ) (running : Running) (now : State) (words : List ℕ) (result : RoundResult) (after : State)
    → events ≡ round.events → IsUnderWay s ids round.workers events done running now words → length events ≤ done → IsCoherent s → 1 ≤ length s.board → length s.board ≤ 1048577 → AreIds s ids
    → DoesRound s round result after → after ≡ all_on_board now → result.replies ≡ replies_in running → DoesRoundOnLists s ids round result after words
ended s ids round events done running now words result after same its_way its_all coherent some few are does board replies =
    let b = beside_ids s ids in
    let way = subst (λ (es : List Event). IsUnderWay s ids round.workers es done running now words) same its_way in
    let all : length round.events ≤ done = subst (λ (es : List Event). length es ≤ done) same its_all in
    let whole : take done round.events ≡ round.events = take_all done round.events all in
    let run = has_run_all s round.workers (length round.events) round.events done running now way.run all in
    record {
      does = record {
        last = now;
        runs = subst (λ (rs : List Reply). RunsEvents s round.events rs now) (sym replies) run.runs;
        after_is = board;
        damages = does.damages ∙ ap (λ (x : State). found_in s x) (sym does.after_is ∙ board);
        ledgers = does.ledgers;
      };
      beside = b;
      stands = stands s ids coherent are some few;
      means = refl;
      left = record b { tids = words };
      runs = subst (λ (rs : List Reply). RunsWithIds s b round.events rs now (record b { tids = words })) (sym replies)
          (subst (λ (xs : List Event). RunsWithIds s b xs (replies_in running) now (record b { tids = words })) whole way.grown);
      ids_are = refl;
    }
