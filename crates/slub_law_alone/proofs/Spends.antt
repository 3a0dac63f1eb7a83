-- An event that doesn't find the transaction ids that it needs: an id is spent then, or in the midst of its call.
use Rattle.std.proofs.Common.{◌≡◌, ◌⊎◌, ℕ, ◌+◌, ◌-◌, ◌*◌, ◌^◌, ◌<◌, ◌≤◌, ◌&&◌, eqb, true, List, [], ◌∷◌, length, Option, Some, None, refl, ap, sym, ◌∙◌, subst, arith, inl, inr}
use Rattle.std.specs.Prelude.{IsSome, is_some}
use Rattle.std.proofs.lemmas.Bool.{cases_lt, lt-ltb, ne_eqb}
use Rattle.std.proofs.lemmas.Option.{none-some, same_Some}
use Rattle.slub_trace.specs.declared.reply.Reply.{Reply}
use Rattle.slub_trace.specs.declared.event.Act.{Act}
use Rattle.slub_trace.specs.declared.event.Act.TheVariants as act
use Rattle.slub_trace.specs.declared.event.Event.{Event}
use Rattle.slub_trace.specs.declared.event.Round.{Round}
use Rattle.slub_words.specs.declared.cpu.CpuWord.{CpuWord}
use Rattle.slub_red_zone.specs.State.{CheckedState}
use Rattle.slub_lists.specs.declared.lists.Held.{Held}
use Rattle.slub_lists.specs.State.{State}
use Rattle.slub_lists.specs.Alloc.{cache_of, checked_of, lists_of}
use Rattle.slub_lists.specs.Coherent.{held_under}
use Rattle.slub_core.specs.Alloc.{is_spent}
use Rattle.slub_core.specs.Run.{System}
use Rattle.slub_core.specs.Setup.{Setup, cpu_number}
use Rattle.slub_core.specs.Steps.{told_of_alloc}
use Rattle.slub_core.specs.World.{World, one_if, world_of}
use Rattle.slub_law_opening.specs.Opening.{Beside, setup_of, tid_of}
use Rattle.slub_calls.specs.Calls.{cache_named, events_by}
use Rattle.slub_law_alone.specs.Alone.{alone, worker_at, HasIds, IsNext}
use Rattle.slub_law_alone.specs.Busy.{IsInCall}
use Rattle.slub_law_alone.specs.Calls.{HasIdsFor}
use Rattle.slub_law_alone.specs.Detached.{Detaches, CurrentSlabsAreDetached}
use Rattle.slub_law_alone.proofs.Start.{IsStart, starts}
use Rattle.slub_calls.specs.Changes.{changes_before_giving}
use Rattle.slub_law_alone.specs.OnTheWay.{ComesInText}
use Rattle.slub_law_alone.specs.Serial.{call_of, IsMade}
use Rattle.slub_law_alone.proofs.Acts.{cpus-alloc, cpus-free, event_of, is-alloc, lives-alloc, lives-free, next-alloc, next-free, plain-first}
use Rattle.slub_law_alone.proofs.Middle.{IsInText, more_left}
use Rattle.slub_law_alone.proofs.Needs.{Needs}

-- turns in the order of the text lead from this machine to one in which an id is spent
pub record Spends (s0 : State) (b0 : Beside) (round : Round) (events : List Event) (system : System) : Type 0 where
  pub here : System
  pub comes : ComesInText (setup_of s0 b0) (call_of s0.table round) events system here
  pub cache : ℕ
  pub cpu : ℕ
  pub cpu_there : cpu < s0.cpus
  pub lives : IsSome (cache_of s0 cache)
  pub unchecked : checked_of s0 cache ≡ None
  pub spent : is_spent (setup_of s0 b0) ((world_of (setup_of s0 b0) here.value here.words).cpu (cpu_number cache cpu)) ≡ true

-- after an event that is made
pub later : (s0 : State) (b0 : Beside) (round : Round) (event : Event) (events : List Event) (system : System) (turns : ℕ) → IsMade (setup_of s0 b0) system event.worker (call_of s0.table round event) (length (events_by event.worker events)) turns
    → Spends s0 b0 round events (alone (setup_of s0 b0) event.worker turns system) → Spends s0 b0 round (event ∷ events) system
later s0 b0 round event events system turns made r = record {
  here = r.here;
  comes = inr (turns, made, r.comes);
  cache = r.cache;
  cpu = r.cpu;
  cpu_there = r.cpu_there;
  lives = r.lives;
  unchecked = r.unchecked;
  spent = r.spent;
}

-- an id that has no room for one change more is spent
spent-id : (m : Setup) (c : CpuWord) → 2 ^ 32 ≤ c.tid + 2 * m.step → 2 * m.step < 2 ^ 32 → is_spent m c ≡ true
spent-id m c past small = lt-ltb (4294967295 - 2 * m.step) c.tid (omega (arith, past, small))

-- an allocation changes no word before it is given an object, where the CPU's freelist has one, or no slab is current
none-before : (t : State) (cache cpu : ℕ) (i : ℕ) (free : List ℕ) → (lists_of t cache cpu).free ≡ i ∷ free → changes_before_giving t cache cpu ≡ 0
none-before t cache cpu i free is =
    ap (λ free. one_if (eqb (length free) 0 && is_some (lists_of t cache cpu).current)) is
    ∙ ap (λ z. one_if (z && is_some (lists_of t cache cpu).current)) (ne_eqb (length (i ∷ free)) 0 (λ e. absurd (omega (arith, e))))

before-are : (t : State) (cache cpu : ℕ) (current : Option ℕ) → (lists_of t cache cpu).free ≡ [] → (lists_of t cache cpu).current ≡ current → changes_before_giving t cache cpu ≡ one_if (is_some current)
before-are t cache cpu current empty is =
    ap (λ free. one_if (eqb (length free) 0 && is_some (lists_of t cache cpu).current)) empty ∙ ap (λ o. one_if (is_some o)) is

-- ---- an event that is under way

module _ (s0 : State) (b0 : Beside) (round : Round) (opening : World) (event : Event) (events past : List Event) (told : ℕ → List Reply) (s t : State) (d : Beside) (system : System) (is : IsInText s0 b0 round opening (event ∷ events) past told s t d system)
    (next : IsNext system event.worker (call_of s0.table round event)) (more : length (events_by event.worker events) < length (worker_at system event.worker).todo) (cache cpu : ℕ) (cpu_there : cpu < s0.cpus) (lives : is_some (cache_of s0 cache) ≡ true) (plain : checked_of s0 cache ≡ None) where
  abbrev first : Setup
  first = setup_of s0 b0

  abbrev n : ℕ
  n = cpu_number cache cpu

  abbrev word_of : Setup → System → CpuWord
  word_of m system = (world_of m system.value system.words).cpu n

  begin : IsStart opening t d system event.worker (call_of s0.table round event)
  begin = starts opening t d system event.worker (call_of s0.table round event) is.rest next

  small : n < 512
  small = omega (arith, begin.setup.live cache (ap (λ (m : Setup). m.lives cache) is.setup ∙ lives), cpu_there, begin.few, ap (λ (m : Setup). m.cpus) is.setup)

  step : d.step ≡ b0.step
  step = ap (λ (m : Setup). m.step) is.setup

  room : 2 * b0.step < 2 ^ 32
  room = omega (arith, is.rest.beside.step.1, step)

  tid : (word_of first system).tid ≡ tid_of d n
  tid = subst (λ m. (word_of m system).tid ≡ tid_of d n) is.setup (is.rest.rests.rests.cpu n small).tid

  stops : (turns : ℕ) → IsInCall first system event.worker turns → is_spent first (word_of first (alone first event.worker turns system)) ≡ true → Spends s0 b0 round (event ∷ events) system
  stops turns busy spent = record {
    here = alone first event.worker turns system;
    comes = inl (turns, record { more = more; busy = busy }, refl);
    cache = cache;
    cpu = cpu;
    cpu_there = cpu_there;
    lives = lives;
    unchecked = plain;
    spent = spent;
  }

  -- before its first turn
  pub at-begin : 2 ^ 32 ≤ tid_of d n + 2 * d.step → Spends s0 b0 round (event ∷ events) system
  at-begin past = stops 0 (λ made some few. absurd (omega (arith, some, few))) (spent-id first (word_of first system) (omega (arith, past, tid, step)) room)

  -- after its first change
  pub at-change : Detaches t d system event.worker n → 2 ^ 32 ≤ tid_of d n + 3 * d.step → Spends s0 b0 round (event ∷ events) system
  at-change off past =
      let word : word_of first (alone first event.worker 2 system) ≡ record { tid = tid_of d n + d.step; frame = 0; head = 0 } = subst (λ m. word_of m (alone m event.worker 2 system) ≡ record { tid = tid_of d n + d.step; frame = 0; head = 0 }) is.setup off.word in
      let grown = ap (λ (c : CpuWord). c.tid) word in
      stops 2 (subst (λ m. IsInCall m system event.worker 2) is.setup off.busy) (spent-id first (word_of first (alone first event.worker 2 system)) (omega (arith, past, grown, step)) room)

-- ---- an allocation

module _ (detach : CurrentSlabsAreDetached) (s0 : State) (b0 : Beside) (round : Round) (opening : World) (line worker cpu place object : ℕ) (events past : List Event) (told : ℕ → List Reply) (s t : State) (d : Beside) (system : System)
    (is : IsInText s0 b0 round opening (event_of line worker cpu (act.Alloc place object) ∷ events) past told s t d system) (below : worker < round.workers) where
  abbrev asks : Event
  asks = event_of line worker cpu (act.Alloc place object)

  abbrev HasIts : Type 0
  HasIts = Needs s0.table t d cpu (act.Alloc place object) ⊎ Spends s0 b0 round (asks ∷ events) system

  module _ (k : ℕ) (live : cache_named s0.table place ≡ Some k) where
    only : HasIdsFor t d k cpu (1 + changes_before_giving t k cpu) → HasIts
    only has = inl (λ cache also. subst (λ c. HasIdsFor t d c cpu (1 + changes_before_giving t c cpu)) (same_Some k cache (sym live ∙ also)) has)

    module _ (plain : checked_of t k ≡ None) where
      now : IsNext system worker (call_of s0.table round asks)
      now = next-alloc s0 b0 round opening line worker cpu place object events past told s t d system is below k live

      left : length (events_by worker events) < length (worker_at system worker).todo
      left = more_left s0 b0 round opening asks events past told s t d system is below (ap told_of_alloc live)

      there_is : cpu < s0.cpus
      there_is = (cpus-alloc s0 b0 round opening line worker cpu place object events past told s t d system is below k live).0

      live_first : is_some (cache_of s0 k) ≡ true
      live_first = lives-alloc s0 b0 round opening line worker cpu place object events past told s t d system is below k live

      none_first : checked_of s0 k ≡ None
      none_first = plain-first s0 b0 round opening line worker cpu (act.Alloc place object) events past told s t d system is below k plain

      -- its first change is its last
      by-one : HasIds d (cpu_number k cpu) 1 → changes_before_giving t k cpu ≡ 0 → HasIts
      by-one once none = only (λ _. subst (λ n. HasIds d (cpu_number k cpu) (1 + n)) (sym none) once)

      -- or the current slab is taken off before
      by-two : HasIds d (cpu_number k cpu) 1 → (f : ℕ) → (lists_of t k cpu).free ≡ [] → (lists_of t k cpu).current ≡ Some f → HasIts
      by-two once f empty current = elim (cases_lt (tid_of d (cpu_number k cpu) + 3 * d.step) (2 ^ 32)) [
        | inl room ↦ only (λ _. subst (λ n. HasIds d (cpu_number k cpu) (1 + n)) (sym (before-are t k cpu (Some f) empty current)) (omega (arith, room)))
        | inr past_it ↦
            let form = is-alloc s0 b0 round opening line worker cpu place object events past told s t d system is below k live in
            inr (at-change s0 b0 round opening asks events past told s t d system is now left k cpu there_is live_first none_first
            (detach opening t d system worker (call_of s0.table round asks) place k f is.rest now (record { kind = form.kind; named = form.named; asks = form.asks; unchecked = plain }) once empty current) past_it)
      ]

      by-current : HasIds d (cpu_number k cpu) 1 → (o : Option ℕ) → (lists_of t k cpu).free ≡ [] → (lists_of t k cpu).current ≡ o → HasIts
      by-current once None empty current = by-one once (before-are t k cpu None empty current)
      by-current once (Some f) empty current = by-two once f empty current

      by-free : HasIds d (cpu_number k cpu) 1 → (free : List ℕ) → (lists_of t k cpu).free ≡ free → HasIts
      by-free once [] empty = by-current once (lists_of t k cpu).current empty refl
      by-free once (i ∷ free) first = by-one once (none-before t k cpu i free first)

      by-id : HasIts
      by-id = elim (cases_lt (tid_of d (cpu_number k cpu) + 2 * d.step) (2 ^ 32)) [
        | inl room ↦ by-free (omega (arith, room)) (lists_of t k cpu).free refl
        | inr past_it ↦ inr (at-begin s0 b0 round opening asks events past told s t d system is now left k cpu there_is live_first none_first past_it)
      ]

    by-checks : (o : Option CheckedState) → checked_of t k ≡ o → HasIts
    by-checks None plain = by-id plain
    by-checks (Some slabs) checked = only (λ plain. absurd (none-some slabs (sym plain ∙ checked)))

  pub alloc-needs : HasIts
  alloc-needs = by (cache_named s0.table place) refl
    where
      by : (o : Option ℕ) → cache_named s0.table place ≡ o → HasIts
      by None none = inl (λ cache live. absurd (none-some cache (sym none ∙ live)))
      by (Some k) live = by-checks k live (checked_of t k) refl

-- ---- a free

module _ (s0 : State) (b0 : Beside) (round : Round) (opening : World) (line worker cpu object : ℕ) (events past : List Event) (told : ℕ → List Reply) (s t : State) (d : Beside) (system : System)
    (is : IsInText s0 b0 round opening (event_of line worker cpu (act.Free object) ∷ events) past told s t d system) (below : worker < round.workers) where
  abbrev lets_go : Event
  lets_go = event_of line worker cpu (act.Free object)

  abbrev FreeHasIts : Type 0
  FreeHasIts = Needs s0.table t d cpu (act.Free object) ⊎ Spends s0 b0 round (lets_go ∷ events) system

  module _ (held : Held) (found : held_under t object ≡ Some held) where
    free-only : HasIdsFor t d held.cache cpu 1 → FreeHasIts
    free-only has = inl (λ other also. subst (λ (h : Held). HasIdsFor t d h.cache cpu 1) (same_Some held other (sym found ∙ also)) has)

    free-by : (o : Option CheckedState) → checked_of t held.cache ≡ o → FreeHasIts
    free-by None plain = elim (cases_lt (tid_of d (cpu_number held.cache cpu) + 2 * d.step) (2 ^ 32)) [
      | inl room ↦ free-only (λ _. omega (arith, room))
      | inr past_it ↦ inr (at-begin s0 b0 round opening lets_go events past told s t d system is (next-free s0 b0 round opening line worker cpu object events past told s t d system is below)
          (more_left s0 b0 round opening lets_go events past told s t d system is below refl) held.cache cpu (cpus-free s0 b0 round opening line worker cpu object events past told s t d system is below).0
          (lives-free s0 b0 round opening line worker cpu object events past told s t d system is below held found)
          (plain-first s0 b0 round opening line worker cpu (act.Free object) events past told s t d system is below held.cache plain) past_it)
    ]
    free-by (Some slabs) checked = free-only (λ plain. absurd (none-some slabs (sym plain ∙ checked)))

  pub free-needs : FreeHasIts
  free-needs = by (held_under t object) refl
    where
      by : (o : Option Held) → held_under t object ≡ o → FreeHasIts
      by None none = inl (λ held found. absurd (none-some held (sym none ∙ found)))
      by (Some held) found = free-by held found (checked_of t held.cache) refl

-- ---- any event

pub needed_or_spent : CurrentSlabsAreDetached → (s0 : State) (b0 : Beside) (round : Round) (opening : World) (line worker cpu : ℕ) (a : Act) (events past : List Event) (told : ℕ → List Reply) (s t : State) (d : Beside) (system : System)
    → IsInText s0 b0 round opening (event_of line worker cpu a ∷ events) past told s t d system → worker < round.workers → Needs s0.table t d cpu a ⊎ Spends s0 b0 round (event_of line worker cpu a ∷ events) system
needed_or_spent detach s0 b0 round opening line worker cpu (act.Alloc place object) events past told s t d system is below = alloc-needs detach s0 b0 round opening line worker cpu place object events past told s t d system is below
needed_or_spent detach s0 b0 round opening line worker cpu (act.Free object) events past told s t d system is below = free-needs s0 b0 round opening line worker cpu object events past told s t d system is below
needed_or_spent detach s0 b0 round opening line worker cpu (act.Write word object value) events past told s t d system is below = inl tt
needed_or_spent detach s0 b0 round opening line worker cpu (act.Read word object) events past told s t d system is below = inl tt
needed_or_spent detach s0 b0 round opening line worker cpu (act.Poke object offset byte) events past told s t d system is below = inl tt
needed_or_spent detach s0 b0 round opening line worker cpu (act.Trim place) events past told s t d system is below = inl tt
needed_or_spent detach s0 b0 round opening line worker cpu act.Flush events past told s t d system is below = inl tt
