-- A trim or a flush in the middle of a round: its turns, its answer on the lists, and what it leaves.
use Rattle.std.proofs.Common.{◌≡◌, ◌≢◌, ℕ, suc, ◌/◌, ◌%◌, ◌<◌, ◌≤◌, ◌&&◌, Bool, true, false, cond, eqb, List, [], ◌∷◌, fold, length, get_or, Option, Some, None, MatchOption, refl, ap, sym, ◌∙◌, subst, arith, inl, inr}
use Rattle.std.specs.Prelude.{IfSome, is_some}
use Rattle.std.specs.Option.{option_map_or}
use Rattle.std.proofs.lemmas.Bool.{cases_Bool, cases_eq, cases_lt, eqb-true, le-ltb, lt-ltb, ne_eqb}
use Rattle.std.proofs.lemmas.List.Elements.{All-tail}
use Rattle.slub_trace.specs.declared.reply.Reply.{Reply}
use Rattle.slub_trace.specs.Kinds.{is_no_memory}
use Rattle.slub_trace.specs.declared.reply.Reply.TheVariants.{Checked, Flushed, NoSuchCache}
use Rattle.slub_cache_create.specs.Table.{Table}
use Rattle.slub_trace.specs.declared.event.Act.{Act}
use Rattle.slub_trace.specs.declared.event.Act.TheVariants as act
use Rattle.slub_trace.specs.declared.event.Event.{Event}
use Rattle.slub_trace.specs.declared.event.Round.{Round}
use Rattle.slub_trace.specs.Sound.{allocated, is_written}
use Rattle.slub_red_zone.specs.State.{CheckedState}
use Rattle.slub_lists.specs.declared.lists.CpuLists.{CpuLists}
use Rattle.slub_lists.specs.declared.lists.Held.{Held}
use Rattle.slub_lists.specs.State.{State}
use Rattle.slub_lists.specs.Alloc.{checked_of, lists_of, named, no_lists}
use Rattle.slub_lists.specs.Coherent.{IsCheckedOf, IsConsistent}
use Rattle.slub_lists.specs.Flush.{Flushes}
use Rattle.slub_lists.specs.Places.{layout_at}
use Rattle.slub_lists.specs.Trim.{Trims, TrimsCache}
use Rattle.slub_lists.specs.Words.{word_at}
use Rattle.slub_lists.proofs.Kept.{consistent-of}
use Rattle.slub_lists.proofs.Trimming.{trims-checked}
use Rattle.slub_core.specs.Run.{System}
use Rattle.slub_core.specs.Setup.{Setup}
use Rattle.slub_core.specs.Steps.{told_of_trim}
use Rattle.slub_core.specs.World.{World}
use Rattle.slub_law_opening.specs.Opening.{Beside, cpu_at, plain_caches, setup_of}
use Rattle.slub_calls.specs.Calls.{cache_named}
use Rattle.slub_law_alone.specs.Alone.{worker_at, HasWord}
use Rattle.slub_law_alone.specs.Away.{AreChangedOnce, FlushesAlone, TrimsAlone}
use Rattle.slub_law_alone.proofs.FlushAlone.{flush_alone}
use Rattle.slub_law_alone.proofs.FlushLists.{flushed_at, flushed_plain, ids_from, ids_once, slabs_all, slabs_from}
use Rattle.slub_law_alone.proofs.TrimAlone.{trim_alone}
use Rattle.slub_law_alone.specs.Serial.{call_of, IsSameWritten}
use Rattle.slub_law_alone.proofs.Acts.{event_of, names, still}
use Rattle.slub_law_alone.proofs.Emptying.{flush-over, trim-over}
use Rattle.slub_law_alone.proofs.Gone.{flush-noted, trim-noted}
use Rattle.slub_law_alone.proofs.Ids.{grows-where, where-grown}
use Rattle.slub_law_alone.proofs.Memory.{IsFreed, over}
use Rattle.slub_law_alone.proofs.Middle.{IsInText, Stepped, at_once, by_turns, comes-next, knows-the-same, m, more-grown, same-coherent, table-same}
use Rattle.slub_law_alone.proofs.Written.{carried, layout-same}
use Rattle.slub_calls.specs.Changes.{has_slab_of, has_slab_on, grown_where}
use Rattle.slub_calls.specs.Events.{changes_of, is_of_cache, most_changes}

-- ---- words that none has changed

-- a checked cache has no slab on a CPU
module _ (s : State) (cache : ℕ) (consistent : IsConsistent s) (checked : is_some (checked_of s cache) ≡ true) where
  bare : (n : ℕ) → n / 16 ≡ cache → is_some (cpu_at s n).current ≡ false
  bare n mine = elim (cases_lt (n % 16) s.cpus) [
    | inl below ↦
        let some : is_some (checked_of s (n / 16)) ≡ true = ap (λ cache. is_some (checked_of s cache)) mine ∙ checked in
        ap (λ b. is_some (cond {A = CpuLists} b (lists_of s (n / 16) (n % 16)) no_lists).current) (lt-ltb (n % 16) s.cpus below)
        ∙ ap (λ (l : CpuLists). is_some l.current) (by (n / 16) (n % 16) below (checked_of s (n / 16)) (consistent.shaped.checked.those (n / 16)) some)
    | inr past ↦ ap (λ b. is_some (cond {A = CpuLists} b (lists_of s (n / 16) (n % 16)) no_lists).current) (le-ltb (n % 16) s.cpus past)
  ]
    where
      by : (k cpu : ℕ) → cpu < s.cpus → (o : Option CheckedState) → IfSome o (IsCheckedOf s k) → is_some o ≡ true → lists_of s k cpu ≡ no_lists
      by k cpu below None those some = absurd (let never = some in cc never)
      by k cpu below (Some slabs) those some = those.unlisted cpu below

  none-of : (n : ℕ) → has_slab_of s cache n ≡ false
  none-of n = elim (cases_eq (n / 16) cache) [
    | inl mine ↦ ap (λ b. eqb (n / 16) cache && b) (bare n mine) ∙ and-false (eqb (n / 16) cache)
    | inr away ↦ ap (λ b. b && is_some (cpu_at s n).current) (ne_eqb (n / 16) cache away)
  ]
    where
      and-false : (b : Bool) → (b && false) ≡ false
      and-false true = refl
      and-false false = refl

  unchanged : (d : Beside) → AreChangedOnce (has_slab_of s cache) d d
  unchanged d = record { same = refl; ids = λ n. let none = ap (λ b. cond b d.step 0) (none-of n) in omega (arith, none) }

few-of : (a c : Bool) → cond (a && c) 1 0 ≤ cond a 1 0
few-of true true = omega arith
few-of true false = omega arith
few-of false c = omega arith

empty-list : (xs : List ℕ) → eqb (length xs) 0 ≡ true → xs ≡ []
empty-list [] none = refl
empty-list (x ∷ xs) none = absurd (let long : length (x ∷ xs) ≡ 0 = eqb-true (length (x ∷ xs)) 0 none in omega (arith, long))

-- ---- what is left

module _ (s0 : State) (b0 : Beside) (round : Round) (opening : World) (line worker cpu : ℕ) (a : Act) (events past : List Event) (told : ℕ → List Reply) (s t : State) (d : Beside) (system : System)
    (is : IsInText s0 b0 round opening (event_of line worker cpu a ∷ events) past told s t d system) (below : worker < round.workers)
    (still-written : (w o at : ℕ) → is_written (event_of line worker cpu a ∷ past) w o at ≡ true → is_written past w o at ≡ true) where
  abbrev empties : Event
  empties = event_of line worker cpu a

  -- nothing is written
  pub unwritten : IsSameWritten (empties ∷ past) s t
  unwritten = record {
    lists = is.same.lists;
    sized = is.same.sized;
    old = λ o at held under none. is.same.old o at held under (All-tail (λ (event : Event). allocated event.act ≢ Some o) empties past none);
    words = λ w o at held under its written. is.same.words w o at held under its (still-written w o at written);
  }

  module _ (after : State) (beside : Beside) (setup : setup_of after beside ≡ setup_of t d) (freed : IsFreed s t.memory after) where
    plain-was : (k : ℕ) → checked_of after k ≡ None → checked_of s k ≡ None
    plain-was k plain = still s0 b0 round opening line worker cpu a events past told s t d system is below after beside setup k plain

    left-word : (o at : ℕ) (held : Held) → HasWord s t held at → HasWord (over s.memory after) after held at
    left-word o at held =
        carried s t (over s.memory after) after held at (layout-same s after freed.table held.cache) (plain-was held.cache)
        (λ unchecked inside old. ap (λ memory. get_or memory (word_at (layout_at after held.cache) held at) 0) freed.memory_is ∙ old)

    pub left-same : IsSameWritten (empties ∷ past) (over s.memory after) after
    left-same = record {
      lists = refl;
      sized = ap (length {A = ℕ}) freed.memory_is ∙ is.same.sized;
      old = λ o at held under none unchecked. left-word o at held (is.same.old o at held (freed.named o held under (plain-was held.cache unchecked)) (All-tail (λ (event : Event). allocated event.act ≢ Some o) empties past none)) unchecked;
      words = λ w o at held under its written unchecked. left-word o at held (is.same.words w o at held (freed.named o held under (plain-was held.cache unchecked)) its (still-written w o at written)) unchecked;
    }

  pub checks-same : (cache : ℕ) → is_some (checked_of s0 cache) ≡ is_some (checked_of s cache)
  checks-same cache = sym (ap (λ (m : Setup). m.checks cache) is.setup) ∙ ap (λ (t : State). is_some (checked_of t cache)) is.same.lists

  consistent : IsConsistent s
  consistent = consistent-of s (same-coherent past s t is.same is.rest.lists)

-- ---- a trim

trimmed-memory : (s after : State) (place : ℕ) (reply : Reply) → Trims s place reply after → is_no_memory reply ≡ false
trimmed-memory s after place reply done = by (named s place) done
  where
    of-cache : (cache : ℕ) (y : Option CheckedState) → MatchOption y (TrimsCache s cache reply after) (λ slabs. (reply ≡ Checked) × (after ≡ s)) → is_no_memory reply ≡ false
    of-cache cache None done = ap is_no_memory done.1
    of-cache cache (Some slabs) done = ap is_no_memory done.0

    by : (x : Option ℕ) → MatchOption x ((reply ≡ NoSuchCache) × (after ≡ s)) (λ cache. MatchOption (checked_of s cache) (TrimsCache s cache reply after) (λ slabs. (reply ≡ Checked) × (after ≡ s))) → is_no_memory reply ≡ false
    by None none = ap is_no_memory none.0
    by (Some cache) done = of-cache cache (checked_of s cache) done

module _ (s0 : State) (b0 : Beside) (round : Round) (opening : World) (line worker cpu place : ℕ) (events past : List Event) (told : ℕ → List Reply) (s t : State) (d : Beside) (system : System)
    (is : IsInText s0 b0 round opening (event_of line worker cpu (act.Trim place) ∷ events) past told s t d system) (below : worker < round.workers) where
  abbrev trims : Event
  trims = event_of line worker cpu (act.Trim place)

  named-same : named s place ≡ cache_named s0.table place
  named-same = ap (λ (table : Table). cache_named table place) (table-same s0 b0 round opening trims events past told s t d system is below)

  none-written : IsSameWritten (trims ∷ past) s t
  none-written = unwritten s0 b0 round opening line worker cpu (act.Trim place) events past told s t d system is below (λ w o at written. written)

  abbrev after-trim : Option ℕ → Beside
  after-trim o = option_map_or (λ cache. grown_where d (has_slab_of s cache)) o d

  -- a name that isn't live
  trims-none : cache_named s0.table place ≡ None → Stepped s0 b0 round opening trims events past told s d system
  trims-none none = at_once s0 b0 round opening trims events past told s t d system is below NoSuchCache (ap (told_of_trim (m s0 b0 round opening)) none)
      (subst (λ x. MatchOption x ((NoSuchCache ≡ NoSuchCache) × (s ≡ s)) (λ cache. MatchOption (checked_of s cache) (TrimsCache s cache NoSuchCache s) (λ slabs. (NoSuchCache ≡ Checked) × (s ≡ s)))) (sym (named-same ∙ none)) (refl, refl))
      refl none-written (sym (ap after-trim (named-same ∙ none)))

  module _ (cache : ℕ) (live : cache_named s0.table place ≡ Some cache) where
    abbrev told-first : Bool → Option Reply
    told-first checked = cond checked (Some Checked) None

    -- a checked cache
    trims-none-checked : is_some (checked_of s0 cache) ≡ true → Stepped s0 b0 round opening trims events past told s d system
    trims-none-checked checked =
        let has = sym (checks-same s0 b0 round opening line worker cpu (act.Trim place) events past told s t d system is below (λ w o at written. written) cache) ∙ checked in
        at_once s0 b0 round opening trims events past told s t d system is below Checked (ap (told_of_trim (m s0 b0 round opening)) live ∙ ap told-first checked)
        (trims-checked s place cache (named-same ∙ live) has) refl none-written
        (where-grown (has_slab_of s cache) d d (unchanged s cache (consistent s0 b0 round opening line worker cpu (act.Trim place) events past told s t d system is below (λ w o at written. written)) has d) refl ∙ sym (ap after-trim (named-same ∙ live)))

    module _ (plain : is_some (checked_of s0 cache) ≡ false) where
      steps : told_of_trim (m s0 b0 round opening) (cache_named s0.table place) ≡ None
      steps = ap (told_of_trim (m s0 b0 round opening)) live ∙ ap told-first plain

      trimmed : TrimsAlone opening t d system worker (call_of s0.table round trims) place cache
      trimmed = trim_alone opening t d system worker (call_of s0.table round trims) place cache is.rest (comes-next s0 b0 round opening trims events past told s t d system is below steps) refl
          (names s0 b0 round opening line worker cpu (act.Trim place) events past told s t d system is below place ∙ live) live

      trim-left : Trims s place trimmed.reply (over s.memory trimmed.after) × IsFreed s t.memory trimmed.after
      trim-left = trim-over s s.memory t.memory trimmed.reply trimmed.after place (subst (λ t. Trims t place trimmed.reply trimmed.after) is.same.lists trimmed.trims)

      trim-few : (n : ℕ) → cond (has_slab_of t cache n) 1 0 ≤ most_changes s0.table n cpu (act.Trim place)
      trim-few n =
          let most : most_changes s0.table n cpu (act.Trim place) ≡ cond (eqb (n / 16) cache) 1 0 = ap (λ o. cond (is_of_cache n o) 1 0) live in
          let few = few-of (eqb (n / 16) cache) (is_some (cpu_at t n).current) in
          omega (arith, most, few)

      trim-exact : trimmed.beside ≡ grown_where d (has_slab_of s cache)
      trim-exact =
          where-grown (has_slab_of t cache) d trimmed.beside trimmed.changes (trimmed.replies.rest.beside.tids ∙ sym is.rest.beside.tids)
          ∙ ap (λ (t : State). grown_where d (has_slab_of t cache)) is.same.lists

      trims-plain : Stepped s0 b0 round opening trims events past told s d system
      trims-plain = by_turns s0 b0 round opening trims events past told s t d system is below steps (suc trimmed.turns) trimmed.reply trimmed.after trimmed.beside trimmed.replies
          (over s.memory trimmed.after) trim-left.0 (trimmed-memory s (over s.memory trimmed.after) place trimmed.reply trim-left.0)
          (left-same s0 b0 round opening line worker cpu (act.Trim place) events past told s t d system is below (λ w o at written. written) trimmed.after trimmed.beside trimmed.replies.setup trim-left.1)
          (trim-left.1.table ∙ table-same s0 b0 round opening trims events past told s t d system is below)
          (grows-where (has_slab_of t cache) d trimmed.beside trimmed.changes (changes_of s0.table past) (changes_of s0.table (trims ∷ past)) b0
          (λ n. let more = more-grown s0 b0 round opening trims events past told s t d system is below n in let few = trim-few n in omega (arith, more, few)) is.grown)
          (trim-exact ∙ sym (ap after-trim (named-same ∙ live)))
          (worker_at system worker).known trimmed.known
          (let noted = trim-noted s trimmed.reply (over s.memory trimmed.after) place trim-left.0 in knows-the-same s0 b0 round opening trims events past told s t d system is below (over s.memory trimmed.after) noted.0 noted.1)

  pub trim_steps : Stepped s0 b0 round opening trims events past told s d system
  trim_steps = by (cache_named s0.table place) refl
    where
      by : (o : Option ℕ) → cache_named s0.table place ≡ o → Stepped s0 b0 round opening trims events past told s d system
      by None none = trims-none none
      by (Some cache) live = elim (cases_Bool (is_some (checked_of s0 cache))) [
        | inl checked ↦ trims-none-checked cache live checked
        | inr plain ↦ trims-plain cache live plain
      ]

-- ---- a flush

module _ (s0 : State) (b0 : Beside) (round : Round) (opening : World) (line worker cpu : ℕ) (events past : List Event) (told : ℕ → List Reply) (s t : State) (d : Beside) (system : System)
    (is : IsInText s0 b0 round opening (event_of line worker cpu act.Flush ∷ events) past told s t d system) (below : worker < round.workers) (cpu_below : cpu < s0.cpus) where
  abbrev flushes : Event
  flushes = event_of line worker cpu act.Flush

  abbrev told-none : Bool → Option Reply
  told-none none = cond none (Some (Flushed 0)) None

  -- no unchecked cache lives
  module _ (none : eqb (length (plain_caches s0)) 0 ≡ true) where
    no-plain : plain_caches s ≡ []
    no-plain = sym (ap plain_caches is.same.lists) ∙ ap (λ (m : Setup). m.plain) is.setup ∙ empty-list (plain_caches s0) none

    whole : IsConsistent s
    whole = consistent s0 b0 round opening line worker cpu act.Flush events past told s t d system is below (λ w o at written. written)

    inside : cpu < s.cpus
    inside = let same = sym (ap (λ (m : Setup). m.cpus) is.setup) ∙ ap (λ (t : State). t.cpus) is.same.lists in omega (arith, same, cpu_below)

    nothing-flushed : Flushes s cpu (Flushed 0) s
    nothing-flushed = record {
      moved = ap Flushed (sym (ap (slabs_from s cpu) no-plain) ∙ slabs_all s cpu whole inside);
      steps = sym (flushed_plain s cpu ∙ ap (fold (flushed_at cpu) s) no-plain);
    }

    none-changed : AreChangedOnce (has_slab_on s cpu) d d
    none-changed = subst (λ ks. AreChangedOnce (has_slab_on s cpu) d (ids_from s d cpu ks)) no-plain (ids_once s d cpu whole inside is.rest.beside.tids)

    flushes-none : Stepped s0 b0 round opening flushes events past told s d system
    flushes-none = at_once s0 b0 round opening flushes events past told s t d system is below (Flushed 0) (ap told-none none) nothing-flushed refl
        (unwritten s0 b0 round opening line worker cpu act.Flush events past told s t d system is below (λ w o at written. written))
        (where-grown (has_slab_on s cpu) d d none-changed refl)

  module _ (some : eqb (length (plain_caches s0)) 0 ≡ false) where
    flushed : FlushesAlone opening t d system worker (call_of s0.table round flushes)
    flushed = flush_alone opening t d system worker (call_of s0.table round flushes) is.rest (comes-next s0 b0 round opening flushes events past told s t d system is below (ap told-none some)) refl

    flush-left : Flushes s cpu flushed.reply (over s.memory flushed.after) × IsFreed s t.memory flushed.after
    flush-left = flush-over s s.memory t.memory cpu flushed.reply flushed.after (subst (λ t. Flushes t cpu flushed.reply flushed.after) is.same.lists flushed.flushes)

    flush-exact : flushed.beside ≡ grown_where d (has_slab_on s cpu)
    flush-exact =
        where-grown (has_slab_on t cpu) d flushed.beside flushed.changes (flushed.replies.rest.beside.tids ∙ sym is.rest.beside.tids)
        ∙ ap (λ (t : State). grown_where d (has_slab_on t cpu)) is.same.lists

    flushes-some : Stepped s0 b0 round opening flushes events past told s d system
    flushes-some = by_turns s0 b0 round opening flushes events past told s t d system is below (ap told-none some) (suc flushed.turns) flushed.reply flushed.after flushed.beside flushed.replies
        (over s.memory flushed.after) flush-left.0 (ap is_no_memory flushed.flushes.moved)
        (left-same s0 b0 round opening line worker cpu act.Flush events past told s t d system is below (λ w o at written. written) flushed.after flushed.beside flushed.replies.setup flush-left.1)
        (flush-left.1.table ∙ table-same s0 b0 round opening flushes events past told s t d system is below)
        (grows-where (has_slab_on t cpu) d flushed.beside flushed.changes (changes_of s0.table past) (changes_of s0.table (flushes ∷ past)) b0
        (λ n. let more = more-grown s0 b0 round opening flushes events past told s t d system is below n in let few = few-of (eqb (n % 16) cpu) (is_some (cpu_at t n).current) in omega (arith, more, few)) is.grown)
        flush-exact
        (worker_at system worker).known flushed.known
        (let noted = flush-noted s cpu flushed.reply (over s.memory flushed.after) flush-left.0 in knows-the-same s0 b0 round opening flushes events past told s t d system is below (over s.memory flushed.after) noted.0 noted.1)

  pub flush_steps : Stepped s0 b0 round opening flushes events past told s d system
  flush_steps = elim (cases_Bool (eqb (length (plain_caches s0)) 0)) [
    | inl none ↦ flushes-none none
    | inr some ↦ flushes-some some
  ]
