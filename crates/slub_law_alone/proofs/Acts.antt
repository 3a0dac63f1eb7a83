-- Each act in the middle of a round: its turns, its answer on the lists, and what it leaves.
use Rattle.std.proofs.Common.{◌≡◌, ◌≢◌, ℕ, ◌+◌, ◌/◌, ◌%◌, ◌<◌, ◌≤◌, ◌&&◌, ◌==◌, Bool, true, false, List, ◌∷◌, length, get_or, set, Option, Some, None, All, MatchOption, refl, ap, sym, ◌∙◌, subst, arith, inl, inr}
use Rattle.std.specs.Prelude.{IfSome, cond, if◌then◌else◌, is_some}
use Rattle.std.specs.Option.{option_and_then, option_map_or}
use Rattle.std.proofs.lemmas.Bool.{cases_eq, eq-eqb, false≢true}
use Rattle.std.proofs.lemmas.List.Elements.{All-head, All-tail}
use Rattle.std.proofs.lemmas.List.{get_or-set_other, length-set}
use Rattle.slub_trace.specs.declared.reply.Reply.{Reply}
use Rattle.slub_trace.specs.Kinds.{is_given}
use Rattle.slub_trace.specs.declared.reply.Reply.TheVariants.{NoSuchCache, NotHeld, OutOfObject}
use Rattle.slub_cache_create.specs.Table.{Table}
use Rattle.slub_trace.specs.declared.event.Act.{Act}
use Rattle.slub_trace.specs.declared.event.Act.TheVariants as act
use Rattle.slub_trace.specs.declared.event.Event.{Event}
use Rattle.slub_trace.specs.declared.event.Round.{Round}
use Rattle.slub_trace.specs.Sound.{allocated, is_written}
use Rattle.slub_lists.specs.declared.lists.Held.{Held}
use Rattle.slub_lists.proofs.Kept.{consistent-of}
use Rattle.slub_lists.proofs.ObjectWords.{held-cache}
use Rattle.slub_lists.specs.State.{State}
use Rattle.slub_lists.specs.Alloc.{cache_of, checked_of, lists_of, named}
use Rattle.slub_lists.specs.Free.{is_current, is_freeable}
use Rattle.slub_lists.specs.Coherent.{held_under}
use Rattle.slub_lists.specs.Freeing.{Frees}
use Rattle.slub_lists.specs.Named.{AllocatesFrom, AllocatesNamed}
use Rattle.slub_lists.specs.Places.{layout_at}
use Rattle.slub_lists.specs.Words.{Reads, Writes, held_by, is_word, is_worker, own, word_at}
use Rattle.slub_core.specs.Calls.{call_cpu, call_place, call_word}
use Rattle.slub_core.specs.Run.{System}
use Rattle.slub_core.specs.Setup.{Setup, cpu_number}
use Rattle.slub_core.specs.Steps.{told_of_alloc, told_of_use}
use Rattle.slub_core.specs.World.{World, one_if}
use Rattle.slub_law_opening.specs.Opening.{Beside, setup_of}
use Rattle.slub_calls.specs.Calls.{cache_named}
use Rattle.slub_law_alone.specs.Allocs.{AllocatesSome}
use Rattle.slub_law_alone.specs.Alone.{worker_at, known_after, known_at, known_under, HasWord, IsNext}
use Rattle.slub_law_alone.specs.Laws.{AllocatesAlone, FreesAlone, WritesAlone, may_free}
use Rattle.slub_law_alone.specs.Calls.{AllAllocationsAreThoseOfLists, AllFreesAreThoseOfLists, HasIdsFor, IsAllocOf, turns_of_use}
use Rattle.slub_law_alone.specs.Frees.{FreesSome, HasOwnNumber}
use Rattle.slub_law_alone.proofs.Start.{starts}
use Rattle.slub_law_alone.proofs.AnyCall.{all_read, all_written}
use Rattle.slub_law_alone.specs.Serial.{call_of, IsSameWritten}
use Rattle.slub_law_alone.proofs.Ids.{of-cache, of-cpu}
use Rattle.slub_law_alone.proofs.Gone.{alloc-noted, free-noted}
use Rattle.slub_law_alone.proofs.Knowing.{alloc-known, free-known}
use Rattle.slub_law_alone.proofs.Memory.{IsFreed, IsMoved, alloc-over, free-over, over}
use Rattle.slub_law_alone.proofs.Middle.{IsInText, Stepped, at_once, by_turns, comes-next, grows-more, knows-the-same, m, more-grown, none-there, numbered, own-place, same-coherent, table-same, there}
use Rattle.slub_law_alone.proofs.Replies.{alloc-memory, free-memory, read-memory, write-memory}
use Rattle.slub_law_alone.proofs.Stores.{WritesBoth, held-own, reads-over, writes-over}
use Rattle.slub_law_alone.proofs.SerialUses.{IsUse, known, reads-outside, reads-unheld, use_of, writes-outside, writes-unheld}
use Rattle.slub_law_alone.proofs.SerialUses.IsUse.{unheld, outside, steps}
use Rattle.slub_law_alone.proofs.Written.{both-set, carried, layout-same, relaid, written-alloc, written-more}
use Rattle.slub_calls.specs.Changes.{changes_before_giving, changes_of_alloc, grown, changes_of_free, changes_of_held, word_of_free, beside_after}
use Rattle.slub_calls.specs.Events.{changes_of, is_of_cache, most_changes}
use Rattle.slub_calls.proofs.Grown.{grows-by}

-- an event of its parts
abbrev pub event_of : ℕ → ℕ → ℕ → Act → Event
event_of line worker cpu a = record { line = line; worker = worker; cpu = cpu; act = a }

-- an allocation changes a CPU word twice at most, and a free once
pub one-most : (b : Bool) → one_if b ≤ 1
one-most true = omega arith
one-most false = omega arith

few-given : (s : State) (cache cpu : ℕ) (given : Bool) → changes_of_alloc s cache cpu given ≤ 2
few-given s cache cpu given = by (is_some (checked_of s cache)) ((length (lists_of s cache cpu).free == 0) && is_some (lists_of s cache cpu).current)
  where
    by : (checked first : Bool) → (if checked then 0 else one_if first + one_if given) ≤ 2
    by true first = omega arith
    by false first = omega (arith, one-most first, one-most given)

few-freed : (s : State) (cpu worker : ℕ) (held : Held) → changes_of_held s cpu worker held ≤ 1
few-freed s cpu worker held = by (is_some (checked_of s held.cache)) (is_freeable worker held.worker && is_current held.frame (lists_of s held.cache cpu).current)
  where
    by : (checked here : Bool) → (if checked then 0 else one_if here) ≤ 1
    by true here = omega arith
    by false here = one-most here

-- one number names one object
one-held : (s : State) (o p : ℕ) (h k : Held) → o ≡ p → held_under s o ≡ Some h → held_under s p ≡ Some k → h ≡ k
one-held s o p h k e is that = same (sym is ∙ ap (held_under s) e ∙ that)
  where
    same : {x y : Held} → Some x ≡ Some y → x ≡ y
    same e = cc

-- an event that doesn't allocate the object is no allocation under its number
not-allocated : (object o : ℕ) → Some object ≢ Some o → o ≢ object
not-allocated object o apart e = apart (ap Some (sym e))

module _ (s0 : State) (b0 : Beside) (round : Round) (opening : World) (line worker cpu : ℕ) (a : Act) (events past : List Event) (told : ℕ → List Reply) (s t : State) (d : Beside) (system : System)
    (is : IsInText s0 b0 round opening (event_of line worker cpu a ∷ events) past told s t d system) (below : worker < round.workers) where
  abbrev event : Event
  event = event_of line worker cpu a

  -- a cache that is unchecked was so before
  pub still : (g : State) (e : Beside) → setup_of g e ≡ setup_of t d → (cache : ℕ) → checked_of g cache ≡ None → checked_of s cache ≡ None
  still g e same cache plain =
      ap (λ (t : State). checked_of t cache) (sym is.same.lists)
      ∙ none-there (checked_of t cache) (sym (ap (λ (m : Setup). m.checks cache) same) ∙ ap is_some plain)

  number : (worker_at system worker).worker ≡ worker
  number = numbered s0 b0 round opening event events past told s t d system is below worker (there s0 b0 round opening event events past told s t d system is below)

  pub plain-first : (cache : ℕ) → checked_of t cache ≡ None → checked_of s0 cache ≡ None
  plain-first cache plain = none-there (checked_of s0 cache) (ap (λ (m : Setup). m.checks cache) (sym is.setup) ∙ ap is_some plain)

  pub lives-first : (cache : ℕ) → is_some (cache_of t cache) ≡ true → is_some (cache_of s0 cache) ≡ true
  lives-first cache lives = ap (λ (m : Setup). m.lives cache) (sym is.setup) ∙ lives

  -- its CPU is one of the machine's
  cpu-below : IsNext system worker (call_of s0.table round event) → call_cpu (call_of s0.table round event) ≡ cpu → (cpu < s0.cpus) × (cpu < 16)
  cpu-below next same =
      let begin = starts opening t d system worker (call_of s0.table round event) is.rest next in
      let cpus = ap (λ (m : Setup). m.cpus) is.setup in
      (omega (arith, begin.may.cpu, same, cpus), omega (arith, begin.may.cpu, same, begin.few))

  -- the table is that of the round
  pub names : (place : ℕ) → named t place ≡ cache_named s0.table place
  names place = ap (λ (table : Table). cache_named table place) is.table

-- ---- an allocation

module _ (s0 : State) (b0 : Beside) (round : Round) (opening : World) (line worker cpu place object : ℕ) (events past : List Event) (told : ℕ → List Reply) (s t : State) (d : Beside) (system : System)
    (is : IsInText s0 b0 round opening (event_of line worker cpu (act.Alloc place object) ∷ events) past told s t d system) (below : worker < round.workers) where
  abbrev allocs : Event
  allocs = event_of line worker cpu (act.Alloc place object)

  -- a name that isn't live
  no-cache : cache_named s0.table place ≡ None → Stepped s0 b0 round opening allocs events past told s d system
  no-cache none = at_once s0 b0 round opening allocs events past told s t d system is below NoSuchCache (ap told_of_alloc none) answers refl
      (record { lists = is.same.lists; sized = is.same.sized; old = λ o at held under none. is.same.old o at held under (All-tail (λ (event : Event). allocated event.act ≢ Some o) allocs past none); words = λ w o at held under its written. is.same.words w o at held under its (written-alloc object o (is_written past w o at) written).1 })
      (sym (ap (λ o. option_map_or (λ cache. grown d (cpu_number cache cpu) (changes_of_alloc s cache cpu false)) o d) (ap (λ (table : Table). cache_named table place) (table-same s0 b0 round opening allocs events past told s t d system is below) ∙ none)))
    where
      answers : AllocatesNamed s place cpu worker object NoSuchCache s
      answers =
          subst (λ x. MatchOption x ((NoSuchCache ≡ NoSuchCache) × (s ≡ s)) (λ cache. MatchOption (cache_of s cache) ⊥ (λ live. AllocatesFrom s live.layout cache cpu worker object NoSuchCache s)))
          (sym (ap (λ (table : Table). cache_named table place) (table-same s0 b0 round opening allocs events past told s t d system is below) ∙ none)) (refl, refl)

  module _ (cache : ℕ) (live : cache_named s0.table place ≡ Some cache) where
    pub next-alloc : IsNext system worker (call_of s0.table round allocs)
    next-alloc = comes-next s0 b0 round opening allocs events past told s t d system is below (ap told_of_alloc live)

    pub cpus-alloc : (cpu < s0.cpus) × (cpu < 16)
    cpus-alloc = cpu-below s0 b0 round opening line worker cpu (act.Alloc place object) events past told s t d system is below next-alloc refl

    pub lives-alloc : is_some (cache_of s0 cache) ≡ true
    lives-alloc = lives-first s0 b0 round opening line worker cpu (act.Alloc place object) events past told s t d system is below cache (subst (λ o. IfSome o (λ k. is_some (cache_of t k) ≡ true)) live (starts opening t d system worker (call_of s0.table round allocs) is.rest next-alloc).may.cache)

    pub twice : most_changes s0.table (cpu_number cache cpu) cpu (act.Alloc place object) ≡ 2
    twice =
        let word = cpu_number cache cpu in
        ap (λ b. if b && is_of_cache word (cache_named s0.table place) then 2 else 0) (eq-eqb (word % 16) cpu (of-cpu cache cpu cpus-alloc.1))
        ∙ ap (λ o. if is_of_cache word o then 2 else 0) live
        ∙ ap (λ b. if b then 2 else 0) (eq-eqb (word / 16) cache (of-cache cache cpu cpus-alloc.1))

    pub is-alloc : IsAllocOf t (call_of s0.table round allocs) place cache
    is-alloc = record { kind = refl; named = names s0 b0 round opening line worker cpu (act.Alloc place object) events past told s t d system is below place ∙ live; asks = live }

module _ (alloc : AllAllocationsAreThoseOfLists) (s0 : State) (b0 : Beside) (round : Round) (opening : World) (line worker cpu place object : ℕ) (events past : List Event) (told : ℕ → List Reply) (s t : State) (d : Beside) (system : System)
    (is : IsInText s0 b0 round opening (event_of line worker cpu (act.Alloc place object) ∷ events) past told s t d system) (below : worker < round.workers) (enough : (cache : ℕ) → cache_named s0.table place ≡ Some cache → HasIdsFor t d cache cpu (1 + changes_before_giving t cache cpu)) where
  module _ (cache : ℕ) (live : cache_named s0.table place ≡ Some cache) where
    abbrev word : ℕ
    word = cpu_number cache cpu

    abbrev makes : Event
    makes = event_of line worker cpu (act.Alloc place object)

    next : IsNext system worker (call_of s0.table round makes)
    next = next-alloc s0 b0 round opening line worker cpu place object events past told s t d system is below cache live

    taken : AllocatesSome opening t d system worker (call_of s0.table round makes) place cache
    taken = alloc opening t d system worker (call_of s0.table round makes) place cache is.rest next
        (is-alloc s0 b0 round opening line worker cpu place object events past told s t d system is below cache live) (enough cache live)

    abbrev got : AllocatesAlone opening t d system worker (call_of s0.table round makes) place (1 + taken.turns) (grown d word (changes_of_alloc t cache cpu taken.given))
    got = taken.allocates

    moved : AllocatesNamed s place cpu worker object got.reply (over s.memory got.after) × IsMoved s t.memory object got.after
    moved = alloc-over s s.memory t.memory cpu worker object got.reply got.after place
        (subst (λ t. AllocatesNamed t place cpu worker object got.reply got.after) is.same.lists
        (subst (λ n. AllocatesNamed t place cpu n object got.reply got.after) (number s0 b0 round opening line worker cpu (act.Alloc place object) events past told s t d system is below) got.allocates))

    plain-before : (k : ℕ) → checked_of got.after k ≡ None → checked_of s k ≡ None
    plain-before k plain =
        still s0 b0 round opening line worker cpu (act.Alloc place object) events past told s t d system is below got.given (grown d word (changes_of_alloc t cache cpu taken.given)) got.replies.setup k (ap (λ (t : State). checked_of t k) got.words.lists ∙ plain)

    given-word : (o at : ℕ) (held : Held) → o ≢ object → held_under got.after o ≡ Some held → HasWord s t held at → HasWord (over s.memory got.after) got.given held at
    given-word o at held apart under =
        carried s t (over s.memory got.after) got.given held at (layout-same s got.after moved.1.table held.cache) (plain-before held.cache)
        (λ unchecked inside old. got.words.words o at held apart under unchecked inside ∙ ap (λ memory. get_or memory (word_at (layout_at got.after held.cache) held at) 0) moved.1.memory_is ∙ old)

    given-old : (o at : ℕ) (held : Held) → held_under got.after o ≡ Some held → All (λ (event : Event). allocated event.act ≢ Some o) (makes ∷ past) → HasWord (over s.memory got.after) got.given held at
    given-old o at held under none =
        let apart = not-allocated object o (All-head (λ (event : Event). allocated event.act ≢ Some o) makes past none) in
        given-word o at held apart under (is.same.old o at held (sym (moved.1.others o apart) ∙ under) (All-tail (λ (event : Event). allocated event.act ≢ Some o) makes past none))

    given-words : (w o at : ℕ) (held : Held) → held_under got.after o ≡ Some held → held.worker ≡ Some w → is_written (makes ∷ past) w o at ≡ true → HasWord (over s.memory got.after) got.given held at
    given-words w o at held under its written =
        let u = written-alloc object o (is_written past w o at) written in
        given-word o at held u.0 under (is.same.words w o at held (sym (moved.1.others o u.0) ∙ under) its u.1)

    exact-alloc : grown d word (changes_of_alloc t cache cpu taken.given) ≡ beside_after s d worker cpu (act.Alloc place object) got.reply
    exact-alloc =
        ap (λ (t : State). grown d word (changes_of_alloc t cache cpu taken.given)) is.same.lists
        ∙ ap (λ given. grown d word (changes_of_alloc s cache cpu given)) (sym taken.gives)
        ∙ sym (ap (λ o. option_map_or (λ cache. grown d (cpu_number cache cpu) (changes_of_alloc s cache cpu (is_given got.reply))) o d) (ap (λ (table : Table). cache_named table place) (table-same s0 b0 round opening makes events past told s t d system is below) ∙ live))

    answered-alloc : Stepped s0 b0 round opening makes events past told s d system
    answered-alloc = by_turns s0 b0 round opening makes events past told s t d system is below (ap told_of_alloc live) (1 + taken.turns) got.reply got.given (grown d word (changes_of_alloc t cache cpu taken.given)) got.replies
        (over s.memory got.after) moved.0 (alloc-memory got.reply taken.given taken.gives taken.lacks)
        (record {
          lists = got.words.lists;
          sized = got.words.sized ∙ ap (length {A = ℕ}) moved.1.memory_is ∙ is.same.sized;
          old = given-old;
          words = given-words;
        })
        (ap (λ (t : State). t.table) got.words.lists ∙ moved.1.table ∙ table-same s0 b0 round opening makes events past told s t d system is below)
        (grows-by (changes_of s0.table past) (changes_of s0.table (makes ∷ past)) (changes_of_alloc t cache cpu taken.given) word b0 d (λ n. let more = more-grown s0 b0 round opening makes events past told s t d system is below n in omega (arith, more))
        (let most = few-given t cache cpu taken.given in let more = more-grown s0 b0 round opening makes events past told s t d system is below word in let two = twice s0 b0 round opening line worker cpu place object events past told s t d system is below cache live in omega (arith, most, more, two)) is.grown)
        exact-alloc
        (cond (is_given got.reply) (set (worker_at system worker).known (call_place (call_of s0.table round makes)) (known_under got.after object)) (worker_at system worker).known) got.known
        (λ last others rooms known. alloc-known round.workers makes events s (over s.memory got.after) system last worker below is.known others (call_place (call_of s0.table round makes)) object
        ((starts opening t d system worker (call_of s0.table round makes) is.rest next).may.place refl) (own-place s0 b0 round opening makes events past told s t d system is below object) rooms refl
        (alloc-noted s place cpu worker object got.reply (over s.memory got.after) moved.0) moved.1.others (is_given got.reply) known)

  pub alloc_steps : Stepped s0 b0 round opening (event_of line worker cpu (act.Alloc place object)) events past told s d system
  alloc_steps = by (cache_named s0.table place) refl
    where
      by : (o : Option ℕ) → cache_named s0.table place ≡ o → Stepped s0 b0 round opening (event_of line worker cpu (act.Alloc place object)) events past told s d system
      by None e = no-cache s0 b0 round opening line worker cpu place object events past told s t d system is below e
      by (Some cache) e = answered-alloc cache e

-- ---- a free

module _ (s0 : State) (b0 : Beside) (round : Round) (opening : World) (line worker cpu object : ℕ) (events past : List Event) (told : ℕ → List Reply) (s t : State) (d : Beside) (system : System)
    (is : IsInText s0 b0 round opening (event_of line worker cpu (act.Free object) ∷ events) past told s t d system) (below : worker < round.workers) where
  pub next-free : IsNext system worker (call_of s0.table round (event_of line worker cpu (act.Free object)))
  next-free = comes-next s0 b0 round opening (event_of line worker cpu (act.Free object)) events past told s t d system is below refl

  pub cpus-free : (cpu < s0.cpus) × (cpu < 16)
  cpus-free = cpu-below s0 b0 round opening line worker cpu (act.Free object) events past told s t d system is below next-free refl

  pub lives-free : (held : Held) → held_under t object ≡ Some held → is_some (cache_of s0 held.cache) ≡ true
  lives-free held found = lives-first s0 b0 round opening line worker cpu (act.Free object) events past told s t d system is below held.cache (held-cache t held (record { object = object; here = found }) is.rest.lists)

  pub once : (cache : ℕ) → most_changes s0.table (cpu_number cache cpu) cpu (act.Free object) ≡ 1
  once cache = ap (λ b. if b then 1 else 0) (eq-eqb (cpu_number cache cpu % 16) cpu (of-cpu cache cpu cpus-free.1))

module _ (free : AllFreesAreThoseOfLists) (s0 : State) (b0 : Beside) (round : Round) (opening : World) (line worker cpu object : ℕ) (events past : List Event) (told : ℕ → List Reply) (s t : State) (d : Beside) (system : System)
    (is : IsInText s0 b0 round opening (event_of line worker cpu (act.Free object) ∷ events) past told s t d system) (below : worker < round.workers) (enough : (held : Held) → held_under t object ≡ Some held → HasIdsFor t d held.cache cpu 1) where
  abbrev frees : Event
  frees = event_of line worker cpu (act.Free object)

  its-next : IsNext system worker (call_of s0.table round frees)
  its-next = next-free s0 b0 round opening line worker cpu object events past told s t d system is below

  some-of : (o : Option Held) → (P : Held → Type 0) → ((held : Held) → o ≡ Some held → P held) → IfSome o P
  some-of None P each = tt
  some-of (Some held) P each = each held refl

  -- each worker has its own number
  own-number : HasOwnNumber system worker
  own-number other inside same = sym (numbered s0 b0 round opening frees events past told s t d system is below other inside) ∙ same ∙ number s0 b0 round opening line worker cpu (act.Free object) events past told s t d system is below

  let-go : FreesSome opening t d system worker (call_of s0.table round frees)
  let-go = free opening t d system worker (call_of s0.table round frees) is.rest its-next own-number refl (some-of (held_under t object) (λ held. HasIdsFor t d held.cache cpu 1) enough)

  abbrev word-free : ℕ
  word-free = word_of_free t cpu object

  abbrev changes-free : ℕ
  changes-free = changes_of_free t cpu (worker_at system worker).worker object

  -- it changes a word of its CPU, if any
  freed-few : changes_of s0.table past word-free + changes-free ≤ changes_of s0.table (frees ∷ past) word-free
  freed-few = let most = more-grown s0 b0 round opening frees events past told s t d system is below word-free in let own = by (held_under t object) in omega (arith, most, own)
    where
      by : (o : Option Held) → option_map_or (changes_of_held t cpu (worker_at system worker).worker) o 0 ≤ most_changes s0.table (option_map_or (λ (held : Held). cpu_number held.cache cpu) o 0) cpu (act.Free object)
      by None = omega arith
      by (Some held) = let one = once s0 b0 round opening line worker cpu object events past told s t d system is below held.cache in let few_of = few-freed t cpu (worker_at system worker).worker held in omega (arith, one, few_of)

  abbrev gone : FreesAlone opening t d system worker (call_of s0.table round frees) (1 + let-go.turns) (grown d word-free changes-free)
  gone = let-go.frees

  freed : Frees s cpu worker object gone.reply (over s.memory gone.after) × IsFreed s t.memory gone.after
  freed = free-over s s.memory t.memory cpu worker object gone.reply gone.after
      (subst (λ t. Frees t cpu worker object gone.reply gone.after) is.same.lists
      (subst (λ n. Frees t cpu n object gone.reply gone.after) (number s0 b0 round opening line worker cpu (act.Free object) events past told s t d system is below) gone.frees))

  plain-still : (k : ℕ) → checked_of gone.after k ≡ None → checked_of s k ≡ None
  plain-still k plain = still s0 b0 round opening line worker cpu (act.Free object) events past told s t d system is below gone.after (grown d word-free changes-free) gone.replies.setup k plain

  free-word : (o at : ℕ) (held : Held) → HasWord s t held at → HasWord (over s.memory gone.after) gone.after held at
  free-word o at held =
      carried s t (over s.memory gone.after) gone.after held at (layout-same s gone.after freed.1.table held.cache) (plain-still held.cache)
      (λ unchecked inside old. ap (λ memory. get_or memory (word_at (layout_at gone.after held.cache) held at) 0) freed.1.memory_is ∙ old)

  free-old : (o at : ℕ) (held : Held) → held_under gone.after o ≡ Some held → All (λ (event : Event). allocated event.act ≢ Some o) (frees ∷ past) → HasWord (over s.memory gone.after) gone.after held at
  free-old o at held under none unchecked =
      free-word o at held (is.same.old o at held (freed.1.named o held under (plain-still held.cache unchecked)) (All-tail (λ (event : Event). allocated event.act ≢ Some o) frees past none)) unchecked

  free-words : (w o at : ℕ) (held : Held) → held_under gone.after o ≡ Some held → held.worker ≡ Some w → is_written past w o at ≡ true → HasWord (over s.memory gone.after) gone.after held at
  free-words w o at held under its written unchecked =
      free-word o at held (is.same.words w o at held (freed.1.named o held under (plain-still held.cache unchecked)) its written) unchecked

  exact-free : grown d word-free changes-free ≡ beside_after s d worker cpu (act.Free object) gone.reply
  exact-free =
      ap (λ (t : State). grown d (word_of_free t cpu object) (changes_of_free t cpu (worker_at system worker).worker object)) is.same.lists
      ∙ ap (λ n. grown d (word_of_free s cpu object) (changes_of_free s cpu n object)) (number s0 b0 round opening line worker cpu (act.Free object) events past told s t d system is below)

  -- what it knows then, in the lists of the text
  known-free : known_after (setup_of t d) system worker (1 + let-go.turns)
      ≡ cond (may_free s worker object) (set (worker_at system worker).known (call_place (call_of s0.table round frees)) (record (known_under s object) { held = is_some (held_under gone.after object) })) (worker_at system worker).known
  known-free =
      gone.known
      ∙ ap (λ (t : State). cond (may_free t (worker_at system worker).worker object) (set (worker_at system worker).known (call_place (call_of s0.table round frees)) (record (known_under t object) { held = is_some (held_under gone.after object) })) (worker_at system worker).known) is.same.lists
      ∙ ap (λ n. cond (may_free s n object) (set (worker_at system worker).known (call_place (call_of s0.table round frees)) (record (known_under s object) { held = is_some (held_under gone.after object) })) (worker_at system worker).known) (number s0 b0 round opening line worker cpu (act.Free object) events past told s t d system is below)

  pub free_steps : Stepped s0 b0 round opening frees events past told s d system
  free_steps = by_turns s0 b0 round opening frees events past told s t d system is below refl (1 + let-go.turns) gone.reply gone.after (grown d word-free changes-free) gone.replies
      (over s.memory gone.after) freed.0 (free-memory s (over s.memory gone.after) cpu worker object gone.reply freed.0)
      (record { lists = refl; sized = ap (length {A = ℕ}) freed.1.memory_is ∙ is.same.sized; old = free-old; words = free-words })
      (freed.1.table ∙ table-same s0 b0 round opening frees events past told s t d system is below)
      (grows-by (changes_of s0.table past) (changes_of s0.table (frees ∷ past)) changes-free word-free b0 d (λ n. let more = more-grown s0 b0 round opening frees events past told s t d system is below n in omega (arith, more)) freed-few is.grown)
      exact-free
      (cond (may_free s worker object) (set (worker_at system worker).known (call_place (call_of s0.table round frees)) (record (known_under s object) { held = is_some (held_under gone.after object) })) (worker_at system worker).known) known-free
      (λ last others rooms known. free-known round.workers frees events s (over s.memory gone.after) system last worker below is.known others (call_place (call_of s0.table round frees)) object
      ((starts opening t d system worker (call_of s0.table round frees) is.rest its-next).may.place refl) (own-place s0 b0 round opening frees events past told s t d system is below object) rooms
      (consistent-of s (same-coherent past s t is.same is.rest.lists)) known (free-noted s cpu worker object gone.reply (over s.memory gone.after) freed.0))

-- ---- a read

module _ (s0 : State) (b0 : Beside) (round : Round) (opening : World) (line worker cpu object word : ℕ) (events past : List Event) (told : ℕ → List Reply) (s t : State) (d : Beside) (system : System)
    (is : IsInText s0 b0 round opening (event_of line worker cpu (act.Read word object) ∷ events) past told s t d system) (below : worker < round.workers) (readable : is_written past worker object word ≡ true) where
  abbrev reads : Event
  reads = event_of line worker cpu (act.Read word object)

  same-past : IsSameWritten (reads ∷ past) s t
  same-past = record { lists = is.same.lists; sized = is.same.sized; old = λ o at held under none. is.same.old o at held under (All-tail (λ (event : Event). allocated event.act ≢ Some o) reads past none); words = is.same.words }

  same-grown : (n : ℕ) → changes_of s0.table past n ≤ changes_of s0.table (reads ∷ past) n
  same-grown n = let more = more-grown s0 b0 round opening reads events past told s t d system is below n in omega (arith, more)

  loaded : told_of_use (m s0 b0 round opening) (known s0 b0 round opening reads events past told s t d system is below object) (call_word (call_of s0.table round reads)) ≡ None → Stepped s0 b0 round opening reads events past told s d system
  loaded none =
      let r = all_read opening t d system worker (call_of s0.table round reads) is.rest (comes-next s0 b0 round opening reads events past told s t d system is below none) refl in
      let answer = reads-over s s.memory t.memory worker object word r.reply
      (λ held is_held plain inside. let mine = held-own s worker object held is_held in is.same.words worker object word held mine.0 mine.1 readable plain inside)
      (subst (λ t. Reads t worker object word r.reply) is.same.lists
      (subst (λ n. Reads t n object word r.reply) (number s0 b0 round opening line worker cpu (act.Read word object) events past told s t d system is below) r.reads)) in
      by_turns s0 b0 round opening reads events past told s t d system is below none (turns_of_use t (known_at (worker_at system worker) (call_of s0.table round reads)).cache) r.reply t d r.replies s (answer, refl) (read-memory s worker object word r.reply answer) same-past is.table (grows-more (changes_of s0.table past) (changes_of s0.table (reads ∷ past)) b0 d same-grown is.grown) refl
      (worker_at system worker).known r.known (knows-the-same s0 b0 round opening reads events past told s t d system is below s refl refl)

  pub read_steps : Stepped s0 b0 round opening reads events past told s d system
  read_steps = by (use_of s0 b0 round opening reads events past told s t d system is below object (call_of s0.table round reads))
    where
      by : IsUse s worker object word (told_of_use (m s0 b0 round opening) (known s0 b0 round opening reads events past told s t d system is below object) (call_word (call_of s0.table round reads))) → Stepped s0 b0 round opening reads events past told s d system
      by (unheld has none) = at_once s0 b0 round opening reads events past told s t d system is below NotHeld has (reads-unheld s worker object word none, refl) refl same-past refl
      by (outside held has its lives out) = at_once s0 b0 round opening reads events past told s t d system is below OutOfObject has (reads-outside s worker object word held its lives out, refl) refl same-past refl
      by (steps none) = loaded none

-- ---- a write

module _ (s0 : State) (b0 : Beside) (round : Round) (opening : World) (line worker cpu object word value : ℕ) (events past : List Event) (told : ℕ → List Reply) (s t : State) (d : Beside) (system : System)
    (is : IsInText s0 b0 round opening (event_of line worker cpu (act.Write word object value) ∷ events) past told s t d system) (below : worker < round.workers) where
  abbrev writes : Event
  writes = event_of line worker cpu (act.Write word object value)

  -- a number that the worker holds names the object
  holds : (w o : ℕ) (held : Held) → worker ≡ w → object ≡ o → held_under s o ≡ Some held → held.worker ≡ Some w → held_by s worker object ≡ Some held
  holds w o held mine number under its =
      ap (held_by s worker) number ∙ ap (option_and_then (own worker)) under
      ∙ ap (λ n. cond {A = Option Held} (is_worker worker n) (Some held) None) (its ∙ ap Some (sym mine))
      ∙ ap (λ b. cond {A = Option Held} b (Some held) None) (eq-eqb worker worker refl)

  -- nothing is written: the worker doesn't hold the object, or the word lies outside
  nothing-written : ((held : Held) → held_by s worker object ≡ Some held → checked_of s held.cache ≡ None → is_word (layout_at s held.cache) word ≡ false) → (w o at : ℕ) (held : Held) → held_under s o ≡ Some held → held.worker ≡ Some w → is_written (writes ∷ past) w o at ≡ true → HasWord s t held at
  nothing-written none w o at held under its written = elim (written-more worker w object o word at (is_written past w o at) written) [
    | inl was ↦ is.same.words w o at held under its was
    | inr same ↦ λ unchecked inside. absurd (false≢true (sym (none held (holds w o held same.0 same.1 under its) unchecked) ∙ ap (is_word (layout_at s held.cache)) same.2 ∙ inside))
  ]

  kept : IsSameWritten past s t → ((held : Held) → held_by s worker object ≡ Some held → checked_of s held.cache ≡ None → is_word (layout_at s held.cache) word ≡ false) → IsSameWritten (writes ∷ past) s t
  kept same none = record { lists = same.lists; sized = same.sized; old = λ o at held under none. same.old o at held under (All-tail (λ (event : Event). allocated event.act ≢ Some o) writes past none); words = nothing-written none }

  module _ (turns : ℕ) (r : WritesAlone opening t d system worker (call_of s0.table round writes) turns) (both : WritesBoth s s.memory t.memory worker object word value r.reply r.after) where
    memory_is : r.after.memory ≡ both.wrote
    memory_is = ap (λ (t : State). t.memory) both.after_is

    abbrev SameNow : Held → ℕ → Type 0
    SameNow held at = get_or r.after.memory (word_at (layout_at s held.cache) held at) 0 ≡ get_or both.left (word_at (layout_at s held.cache) held at) 0

    -- the word that is written, wherever it stands, and what was the same before
    one-same : (held : Held) (at : ℕ) (one : Held) → both.left ≡ set s.memory (word_at (layout_at s one.cache) one word) value → both.wrote ≡ set t.memory (word_at (layout_at s one.cache) one word) value
        → (word_at (layout_at s held.cache) held at ≢ word_at (layout_at s one.cache) one word → get_or t.memory (word_at (layout_at s held.cache) held at) 0 ≡ get_or s.memory (word_at (layout_at s held.cache) held at) 0) → SameNow held at
    one-same held at one left wrote was =
        let p = word_at (layout_at s held.cache) held at in
        let q = word_at (layout_at s one.cache) one word in
        let new : get_or r.after.memory p 0 ≡ get_or (set t.memory q value) p 0 = ap (λ memory. get_or memory p 0) (memory_is ∙ wrote) in
        let old : get_or (set s.memory q value) p 0 ≡ get_or both.left p 0 = ap (λ memory. get_or memory p 0) (sym left) in
        elim (cases_eq p q) [
          | inl e ↦
              new ∙ ap (λ p. get_or (set t.memory q value) p 0) e ∙ both-set t.memory s.memory q value is.same.sized
              ∙ ap (λ p. get_or (set s.memory q value) p 0) (sym e) ∙ old
          | inr apart ↦ new ∙ get_or-set_other t.memory q p value 0 apart ∙ was apart ∙ sym (get_or-set_other s.memory q p value 0 apart) ∙ old
        ]

    none-same : (held : Held) (at : ℕ) → both.left ≡ s.memory → both.wrote ≡ t.memory → get_or t.memory (word_at (layout_at s held.cache) held at) 0 ≡ get_or s.memory (word_at (layout_at s held.cache) held at) 0 → SameNow held at
    none-same held at left wrote was =
        ap (λ memory. get_or memory (word_at (layout_at s held.cache) held at) 0) (memory_is ∙ wrote) ∙ was
        ∙ ap (λ memory. get_or memory (word_at (layout_at s held.cache) held at) 0) (sym left)

    -- of an object that was held before
    left-old : (o at : ℕ) (held : Held) → HasWord s t held at → checked_of s held.cache ≡ None → is_word (layout_at s held.cache) at ≡ true → SameNow held at
    left-old o at held has unchecked inside = elim both.words [
      | inl nothing ↦ none-same held at nothing.0 nothing.1 (has unchecked inside)
      | inr one ↦ one-same held at one.0 one.3 one.4 (λ apart. has unchecked inside)
    ]

    left-words : (w o at : ℕ) (held : Held) → held_under s o ≡ Some held → held.worker ≡ Some w → is_written (writes ∷ past) w o at ≡ true → checked_of s held.cache ≡ None → is_word (layout_at s held.cache) at ≡ true → SameNow held at
    left-words w o at held under its written unchecked inside = elim both.words [
      | inl nothing ↦ none-same held at nothing.0 nothing.1 (nothing-written nothing.2 w o at held under its written unchecked inside)
      | inr one ↦ one-same held at one.0 one.3 one.4 (λ apart. elim (written-more worker w object o word at (is_written past w o at) written) [
        | inl was ↦ is.same.words w o at held under its was unchecked inside
        | inr same ↦ absurd (apart (ap (λ (h : Held). word_at (layout_at s h.cache) h at) (one-held s o object held one.0 (sym same.1) under (held-own s worker object one.0 one.1).0) ∙ ap (word_at (layout_at s one.0.cache) one.0) (sym same.2)))
      ])
    ]

    stored-word : (held : Held) (at : ℕ) → (checked_of s held.cache ≡ None → is_word (layout_at s held.cache) at ≡ true → SameNow held at) → HasWord (over both.left both.lists) r.after held at
    stored-word held at same =
        relaid s (over both.left both.lists) r.after held at (layout-same s both.lists both.table held.cache)
        (λ plain. still s0 b0 round opening line worker cpu (act.Write word object value) events past told s t d system is below r.after d r.replies.setup held.cache (ap (λ (t : State). checked_of t held.cache) both.after_is ∙ plain)) same

    under-left : (o : ℕ) (held : Held) → held_under both.lists o ≡ Some held → held_under s o ≡ Some held
    under-left o held under = sym (ap (λ b. get_or b o None) both.board) ∙ under

    stored-old : (o at : ℕ) (held : Held) → held_under both.lists o ≡ Some held → All (λ (event : Event). allocated event.act ≢ Some o) (writes ∷ past) → HasWord (over both.left both.lists) r.after held at
    stored-old o at held under none = stored-word held at (left-old o at held (is.same.old o at held (under-left o held under) (All-tail (λ (event : Event). allocated event.act ≢ Some o) writes past none)))

    stored-words : (w o at : ℕ) (held : Held) → held_under both.lists o ≡ Some held → held.worker ≡ Some w → is_written (writes ∷ past) w o at ≡ true → HasWord (over both.left both.lists) r.after held at
    stored-words w o at held under its written = stored-word held at (left-words w o at held (under-left o held under) its written)

    tables : r.after.table ≡ s.table
    tables = ap (λ (t : State). t.table) both.after_is ∙ both.table

    sizes : length r.after.memory ≡ length both.left
    sizes = ap (length {A = ℕ}) memory_is ∙ elim both.words [
      | inl nothing ↦ ap (length {A = ℕ}) {y = t.memory} nothing.1 ∙ is.same.sized ∙ ap (length {A = ℕ}) (sym nothing.0)
      | inr one ↦
          let q = word_at (layout_at s one.0.cache) one.0 word in
          ap (length {A = ℕ}) one.4 ∙ length-set t.memory q value ∙ is.same.sized ∙ sym (length-set s.memory q value) ∙ ap (length {A = ℕ}) (sym one.3)
    ]

    stored-same : IsSameWritten (writes ∷ past) (over both.left both.lists) r.after
    stored-same = record { lists = both.after_is ∙ ap (λ memory. over memory both.lists) (sym memory_is); sized = sizes; old = stored-old; words = stored-words }

  same-changes : (n : ℕ) → changes_of s0.table past n ≤ changes_of s0.table (writes ∷ past) n
  same-changes n = let more = more-grown s0 b0 round opening writes events past told s t d system is below n in omega (arith, more)

  stored : told_of_use (m s0 b0 round opening) (known s0 b0 round opening writes events past told s t d system is below object) (call_word (call_of s0.table round writes)) ≡ None → Stepped s0 b0 round opening writes events past told s d system
  stored none =
      let turns = turns_of_use t (known_at (worker_at system worker) (call_of s0.table round writes)).cache in
      let r = all_written opening t d system worker (call_of s0.table round writes) is.rest (comes-next s0 b0 round opening writes events past told s t d system is below none) refl in
      let both = writes-over s s.memory t.memory worker object word r.reply value r.after
      (subst (λ t. Writes t worker object word value r.reply r.after) is.same.lists
      (subst (λ n. Writes t n object word value r.reply r.after) (number s0 b0 round opening line worker cpu (act.Write word object value) events past told s t d system is below) r.writes)) in
      by_turns s0 b0 round opening writes events past told s t d system is below none turns r.reply r.after d r.replies (over both.left both.lists) both.writes (write-memory s (over both.left both.lists) worker object word value r.reply both.writes) (stored-same turns r both)
      (tables turns r both ∙ table-same s0 b0 round opening writes events past told s t d system is below)
      (grows-more (changes_of s0.table past) (changes_of s0.table (writes ∷ past)) b0 d same-changes is.grown) refl
      (worker_at system worker).known r.known (knows-the-same s0 b0 round opening writes events past told s t d system is below (over both.left both.lists) both.gone both.board)

  pub write_steps : Stepped s0 b0 round opening writes events past told s d system
  write_steps = by (use_of s0 b0 round opening writes events past told s t d system is below object (call_of s0.table round writes))
    where
      by : IsUse s worker object word (told_of_use (m s0 b0 round opening) (known s0 b0 round opening writes events past told s t d system is below object) (call_word (call_of s0.table round writes))) → Stepped s0 b0 round opening writes events past told s d system
      by (unheld has none) = at_once s0 b0 round opening writes events past told s t d system is below NotHeld has (writes-unheld s worker object word value none) refl
          (kept is.same (λ held its plain. absurd (let both = sym none ∙ its in cc both))) refl
      by (outside held has its lives out) = at_once s0 b0 round opening writes events past told s t d system is below OutOfObject has (writes-outside s worker object word held its lives out value) refl
          (kept is.same (λ other also plain. ap (λ (h : Held). is_word (layout_at s h.cache) word) (same-held (sym also ∙ its)) ∙ out)) refl
        where
          same-held : {x y : Held} → Some x ≡ Some y → x ≡ y
          same-held e = cc
      by (steps none) = stored none
