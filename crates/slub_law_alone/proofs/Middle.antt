-- The machine between two events of a round in the order of the text, and what one event more leaves.
use Rattle.std.proofs.Common.{◌≡◌, ℕ, ◌+◌, ◌<◌, ◌≤◌, false, List, ◌∷◌, drop, length, map, get_or, set, Option, Some, None, refl, ap, sym, ◌∙◌, subst, arith, inl, inr}
use Rattle.std.specs.Prelude.{is_some}
use Rattle.std.proofs.lemmas.Bool.{cases_eq, false≢true}
use Rattle.std.proofs.lemmas.List.{get_or-set_other, length-map, length-set}
use Rattle.std.proofs.lemmas.List.Sums.{sum_by-cons}
use Rattle.slub_trace.specs.declared.reply.Reply.{Reply}
use Rattle.slub_trace.specs.Kinds.{is_no_memory}
use Rattle.slub_trace.specs.declared.event.Event.{Event}
use Rattle.slub_trace.specs.declared.event.Round.{Round}
use Rattle.slub_lists.specs.State.{State}
use Rattle.slub_lists.specs.Coherent.{IsCoherent}
use Rattle.slub_lists.specs.Places.{layout_at}
use Rattle.slub_lists.proofs.ObjectWords.{memory-coherent}
use Rattle.slub_slabinfo_text.specs.Lawful.{Answers}
use Rattle.slub_core.specs.declared.call.Call.{Call}
use Rattle.slub_core.specs.declared.local.Answered.{Answered}
use Rattle.slub_core.specs.declared.local.Known.{Known}
use Rattle.slub_core.specs.Calls.{call_kind, call_place}
use Rattle.slub_core.specs.Local.{Local, answered, nobody}
use Rattle.slub_core.specs.Run.{System, idle}
use Rattle.slub_core.specs.Setup.{Setup}
use Rattle.slub_core.specs.Steps.{rested, told_at_once}
use Rattle.slub_core.specs.World.{World}
use Rattle.slub_law_opening.specs.Opening.{Beside, setup_of}
use Rattle.slub_calls.specs.Calls.{call_for, calls_for, events_by, rooms_for}
use Rattle.slub_law_alone.specs.Alone.{alone, known_after, worker_at, HasReply, IsAtRest, IsNext, Replies}
use Rattle.slub_law_alone.specs.Serial.{call_of, IsMade, IsSameWritten}
use Rattle.slub_law_alone.proofs.Memory.{over}
use Rattle.slub_core.specs.Accounted.{place_of}
use Rattle.slub_law_alone.proofs.Knowing.{IsKnown, fewer-known, same-known}
use Rattle.slub_law_alone.proofs.Scripts.{HasScript, told_after, rested-few, rested-on, rested-step, script-calls, script-next, script-number, script-other, script-place}
use Rattle.slub_law_alone.proofs.SerialSteps.{Keeps, rooms_of}
use Rattle.slub_law_alone.proofs.SerialTurns.{alone-keeps, rested-keeps}
use Rattle.slub_calls.specs.Changes.{beside_after}
use Rattle.slub_calls.specs.Events.{changes_of, most_changes, IsGrown}

-- ---- the same lists over words

-- the lists that are the same but for words are coherent too
pub same-coherent : (past : List Event) (s t : State) → IsSameWritten past s t → IsCoherent t → IsCoherent s
same-coherent past s t same coherent =
    memory-coherent t s s.memory (sym (ap (over s.memory) same.lists)) (sym same.sized) coherent

pub none-there : {X : Type 0} (o : Option X) → is_some o ≡ false → o ≡ None
none-there None e = refl
none-there (Some x) e = absurd (false≢true (sym e))

-- ---- ids

pub grows-none : (b : Beside) → IsGrown (λ n. 0) b b
grows-none b = record { step = refl; means = refl; links = refl; tids = λ n. (0, omega arith, omega arith) }

pub grows-more : (few most : ℕ → ℕ) (b d : Beside) → ((n : ℕ) → few n ≤ most n) → IsGrown few b d → IsGrown most b d
grows-more few most b d below grown = record {
  step = grown.step;
  means = grown.means;
  links = grown.links;
  tids = λ n. let t = grown.tids n in (t.0, omega (arith, below n, t.1), t.2);
}

-- ---- the middle of a round

module _ (s0 : State) (b0 : Beside) (round : Round) (opening : World) where
  abbrev pub m : Setup
  m = setup_of s0 b0

  abbrev pub rooms : ℕ → List ℕ
  rooms x = map (λ (k : Known). k.object) (rooms_for (events_by x round.events))

  -- these events are to come, the past ones, the last one first, have left s on the lists, and the machine rests in t
  pub record IsInText (events past : List Event) (told : ℕ → List Reply) (s t : State) (d : Beside) (system : System) : Type 0 where
    pub same : IsSameWritten past s t
    pub rest : IsAtRest opening t d system
    pub setup : setup_of t d ≡ m
    pub table : t.table ≡ s0.table
    pub grown : IsGrown (changes_of s0.table past) b0 d
    pub known : IsKnown round.workers events s system
    pub count : length system.locals ≡ round.workers
    pub scripts : (x : ℕ) → x < round.workers → HasScript m s0.table round x events (told x) (worker_at system x)

  -- one event more
  pub record Stepped (event : Event) (events past : List Event) (told : ℕ → List Reply) (s : State) (d : Beside) (system : System) : Type 0 where
    pub turns : ℕ
    pub reply : Reply
    pub mid : State
    pub answers : Answers s event event.act reply mid
    pub memory : is_no_memory reply ≡ false
    pub made : IsMade m system event.worker (call_of s0.table round event) (length (events_by event.worker events)) turns
    pub given : State
    pub beside : Beside
    pub beside_is : beside ≡ beside_after s d event.worker event.cpu event.act reply
    pub next : IsInText events (event ∷ past) (told_after event reply told) mid given beside (alone m event.worker turns system)

  module _ (event : Event) (events past : List Event) (told : ℕ → List Reply) (s t : State) (d : Beside) (system : System) (is : IsInText (event ∷ events) past told s t d system) (worker : event.worker < round.workers) where
    abbrev pub x : ℕ
    x = event.worker

    abbrev pub call : Call
    call = call_of s0.table round event

    pub there : x < length system.locals
    there = omega (arith, worker, is.count)

    pub mine : HasScript m s0.table round x (event ∷ events) (told x) (worker_at system x)
    mine = is.scripts x worker

    abbrev pub base : Local
    base = mine.base

    pub todo : base.todo ≡ call ∷ calls_for s0.table (rooms_for (events_by x round.events)) (events_by x events)
    todo = script-calls m s0.table round x events event (told x) (worker_at system x) refl mine

    -- each worker has its own number
    pub numbered : (i : ℕ) → i < length system.locals → (worker_at system i).worker ≡ i
    numbered i below = script-number m s0.table round i (event ∷ events) (told i) (worker_at system i) (is.scripts i (omega (arith, below, is.count)))

    pub layouts : (cache : ℕ) → layout_at s0 cache ≡ layout_at s cache
    layouts cache = ap (λ (m : Setup). m.layout cache) (sym is.setup) ∙ ap (λ (t : State). layout_at t cache) is.same.lists

    pub table-same : s.table ≡ s0.table
    table-same = sym (ap (λ (t : State). t.table) is.same.lists) ∙ is.table

    pub more-grown : (n : ℕ) → changes_of s0.table (event ∷ past) n ≡ most_changes s0.table n event.cpu event.act + changes_of s0.table past n
    more-grown n = sum_by-cons (λ (event : Event). most_changes s0.table n event.cpu event.act) event past

    pub own-place : (o : ℕ) → place_of (rooms_for (events_by x round.events)) o ≡ place_of (worker_at system x).known o
    own-place o = sym (script-place m s0.table round x (event ∷ events) (told x) (worker_at system x) mine o)

    -- it knows what it knew, and nothing is noted as freed
    pub knows-the-same : (mid : State) → mid.gone ≡ s.gone → mid.board ≡ s.board → (last : System) → last.locals ≡ set system.locals x (worker_at last x) → rooms_of (worker_at last x) ≡ rooms_of (worker_at system x) → (worker_at last x).known ≡ (worker_at system x).known
        → IsKnown round.workers events mid last
    knows-the-same mid noted board last others rooms known = same-known round.workers event events s mid system last x worker is.known others noted board known

    few-grown : IsGrown (changes_of s0.table (event ∷ past)) b0 d
    few-grown = grows-more (changes_of s0.table past) (changes_of s0.table (event ∷ past)) b0 d (λ n. omega (arith, more-grown n)) is.grown

    -- its reply takes no step: it has it already
    pub at_once : (reply : Reply) → told_at_once m (get_or base.known (call_place call) nobody) call (call_kind call) ≡ Some reply → Answers s event event.act reply s → is_no_memory reply ≡ false → IsSameWritten (event ∷ past) s t → d ≡ beside_after s d event.worker event.cpu event.act reply → Stepped event events past told s d system
    at_once reply some answers there_is same stays = record {
      turns = 0;
      reply = reply;
      mid = s;
      answers = answers;
      memory = there_is;
      made = inl (refl, few_left);
      given = t;
      beside = d;
      beside_is = stays;
      next = record { same = same; rest = is.rest; setup = is.setup; table = is.table; grown = few-grown; known = fewer-known round.workers event events s system is.known; count = is.count; scripts = scripts };
    }
      where
        goes_on : worker_at system x ≡ rested m (answered base reply)
        goes_on = mine.rested_is ∙ rested-on m base call (calls_for s0.table (rooms_for (events_by x round.events)) (events_by x events)) mine.between todo reply some

        few_left : length (worker_at system x).todo ≤ length (events_by x events)
        few_left =
            let same = ap (λ (l : Local). length l.todo) goes_on in
            let less = rested-few m (answered base reply) in
            let left = ap (λ todo. length (drop 1 todo)) todo in
            let long = length-map (events_by x events) (λ (event : Event). call_for s0.table (rooms_for (events_by x round.events)) event.cpu event.act) in
            omega (arith, same, less, left, long)

        scripts : (y : ℕ) → y < round.workers → HasScript m s0.table round y events (told_after event reply told y) (worker_at system y)
        scripts y below = elim (cases_eq x y) [
          | inl e ↦ subst (λ y. HasScript m s0.table round y events (told_after event reply told y) (worker_at system y)) e
              (script-next m s0.table round x events event reply told (worker_at system x) (answered base reply) refl
              goes_on
              mine.between mine.number mine.rooms (ap (drop 1) todo) (ap (λ rs. reply ∷ rs) mine.told_is))
          | inr apart ↦ script-other m s0.table round y events event reply told (worker_at system y) (worker_at system y) apart refl (is.scripts y below)
        ]

    -- its call takes a step: it waits
    module _ (none : told_at_once m (get_or base.known (call_place call) nobody) call (call_kind call) ≡ None) where
      waits : worker_at system x ≡ base
      waits = mine.rested_is ∙ rested-step m base call (calls_for s0.table (rooms_for (events_by x round.events)) (events_by x events)) mine.between todo none

      pub comes-next : IsNext system x call
      comes-next = record {
        there = there;
        calls = calls_for s0.table (rooms_for (events_by x round.events)) (events_by x events);
        todo = ap (λ (l : Local). l.todo) waits ∙ todo;
      }

      -- it has more calls to make than those to its later events
      pub more_left : length (events_by x events) < length (worker_at system x).todo
      more_left =
          let all = ap length (ap (λ (l : Local). l.todo) waits ∙ todo) in
          let long = length-map (events_by x events) (λ (event : Event). call_for s0.table (rooms_for (events_by x round.events)) event.cpu event.act) in
          omega (arith, all, long)

      module _ (turns : ℕ) (reply : Reply) (given : State) (e : Beside) (r : Replies opening t d system x call turns reply given e) where
        abbrev last : System
        last = alone m x turns system

        replied : HasReply m (worker_at system x) call reply (worker_at last x)
        replied = subst (λ n. HasReply n (worker_at system x) call reply (worker_at (alone n x turns system) x)) is.setup r.replied

        rest : IsAtRest opening given e last
        rest = subst (λ n. IsAtRest opening given e (alone n x turns system)) is.setup r.rest

        others : last.locals ≡ set system.locals x (worker_at last x)
        others = subst (λ n. (alone n x turns system).locals ≡ set system.locals x (worker_at (alone n x turns system) x)) is.setup r.others

        kept : Keeps (worker_at system x) (worker_at last x)
        kept = alone-keeps m x turns system there

        number : replied.told.worker ≡ x
        number = replied.number ∙ numbered x there

        same_rooms : rooms_of replied.told ≡ rooms x
        same_rooms = sym (rested-keeps m replied.told).1 ∙ ap rooms_of (sym replied.rested) ∙ kept.1 ∙ ap rooms_of waits ∙ mine.rooms

        told_it : map (λ (d : Answered). d.reply) replied.told.done ≡ reply ∷ told x
        told_it =
            ap (map (λ (d : Answered). d.reply)) replied.done
            ∙ ap (λ (l : Local). reply ∷ map (λ (d : Answered). d.reply) l.done) waits ∙ ap (λ rs. reply ∷ rs) mine.told_is

        scripts : (y : ℕ) → y < round.workers → HasScript m s0.table round y events (told_after event reply told y) (worker_at last y)
        scripts y below = elim (cases_eq x y) [
          | inl e ↦ subst (λ y. HasScript m s0.table round y events (told_after event reply told y) (worker_at last y)) e
              (script-next m s0.table round x events event reply told (worker_at last x) replied.told refl replied.rested replied.between number same_rooms
              (replied.todo ∙ ap (λ (l : Local). drop 1 l.todo) waits ∙ ap (drop 1) todo) told_it)
          | inr apart ↦ script-other m s0.table round y events event reply told (worker_at system y) (worker_at last y) apart
              (ap (λ ls. get_or ls y idle) others ∙ get_or-set_other system.locals x y (worker_at last x) idle (λ e. apart (sym e))) (is.scripts y below)
        ]

        pub by_turns : (mid : State) → Answers s event event.act reply mid → is_no_memory reply ≡ false → IsSameWritten (event ∷ past) mid given → given.table ≡ s0.table → IsGrown (changes_of s0.table (event ∷ past)) b0 e → e ≡ beside_after s d event.worker event.cpu event.act reply
            → (ks : List Known) → known_after (setup_of t d) system x turns ≡ ks → ((last : System) → last.locals ≡ set system.locals x (worker_at last x) → rooms_of (worker_at last x) ≡ rooms_of (worker_at system x) → (worker_at last x).known ≡ ks → IsKnown round.workers events mid last)
            → Stepped event events past told s d system
        by_turns mid answers there_is same table grown exact ks ks_are knows = record {
          turns = turns;
          reply = reply;
          mid = mid;
          answers = answers;
          memory = there_is;
          made = inr (more_left, (reply, replied));
          given = given;
          beside = e;
          beside_is = exact;
          next = record {
            same = same;
            rest = rest;
            setup = r.setup ∙ is.setup;
            table = table;
            grown = grown;
            known = knows last others kept.1 (subst (λ n. known_after n system x turns ≡ ks) is.setup ks_are);
            count = ap (length {A = Local}) others ∙ length-set system.locals x (worker_at last x) ∙ is.count;
            scripts = scripts;
          };
        }
