-- Ids that fit a machine fit what is left of it, by what became of its words.
use Rattle.std.proofs.Common.{◌≡◌, ◌≢◌, ℕ, ◌+◌, ◌*◌, ◌/◌, ◌%◌, ◌^◌, ◌<◌, ◌≤◌, ◌&&◌, cond, eqb, List, map, None, is_some, IsSome, inl, inr, sym, ap, ◌∙◌, subst, arith}
use Rattle.std.specs.List.{range_with_len}
use Rattle.std.proofs.Math.Nat.{add-mod_right}
use Rattle.std.proofs.lemmas.Bool.{and_parts, both_ways, cases_lt, cond_both, eqb-true, eq-eqb, false≢true}
use Rattle.std.proofs.lemmas.List.{get_or_past}
use Rattle.std.proofs.lemmas.List.FromFn.{get_or-map-range_with_len, length-map-range_with_len}
use Rattle.slub_common.proofs.Writes.{get_or-replicate_any}
use Rattle.slub_lists.specs.declared.lists.CpuLists.{CpuLists}
use Rattle.slub_lists.specs.State.{State}
use Rattle.slub_lists.specs.Alloc.{cache_of, no_lists}
use Rattle.slub_lists.specs.Coherent.{IsCoherent}
use Rattle.slub_law_opening.specs.Opening.{cpu_at}
use Rattle.slub_law_opening.proofs.Cpus.{cpu-at}
use Rattle.slub_trace.specs.declared.trace.Trace.{Trace}
use Rattle.slub_trace.specs.Ranges.{step_of}
use Rattle.slub_trace.specs.Sound.{IsSound}
use Rattle.slub_slabinfo_text.specs.Lawful.{opening_of}
use Rattle.slub_open_close.specs.Ids.{AreIds, IsStepOf, first_id, id_at}
use Rattle.slub_open_close.proofs.Firsts.{first-ids-fit, first-is, first-leaves, first-most, step-below}
use Rattle.slub_open_close.specs.Growth.{with_detached, with_first}
use Rattle.slub_open_close.specs.IdLaws.{FirstIdsFit}
use Rattle.slub_open_close.proofs.Flushed.{Detaches}
use Rattle.slub_open_close.proofs.Leaving.{Leaves, current_in, dead-none, leaves-word, word-before}
use Rattle.slub_open_close.proofs.Steps.{is-step, step-is}

-- ---- ids that are made for all words

-- one of them
pub made-at : (f : ℕ → ℕ) (n : ℕ) → n < 512 → id_at (map f (range_with_len 0 512)) n ≡ f n
made-at f n below = get_or-map-range_with_len f 0 512 n n 0 below (let e : 0 + n ≡ n = omega arith in e)

made-past : (f : ℕ → ℕ) (n : ℕ) → 512 ≤ n → id_at (map f (range_with_len 0 512)) n ≡ 0
made-past f n past = get_or_past (map f (range_with_len 0 512)) n 0 (omega (arith, past, length-map-range_with_len f 0 512))

-- they fit where each does
made-fit : (s : State) (step : ℕ) (f : ℕ → ℕ) → IsStepOf s.cpus step → s.cpus ≤ 16 → ((n : ℕ) → f n < 2 ^ 32) → ((n : ℕ) → IsSome (cpu_at s n).current → f n + step < 2 ^ 32)
    → ((n : ℕ) → n < 512 → n % 16 < s.cpus → IsSome (cache_of s (n / 16)) → f n % step ≡ n % 16) → AreIds s (map f (range_with_len 0 512))
made-fit s step f least few below room remainder = record {
  step = step;
  least = least;
  count = length-map-range_with_len f 0 512;
  below = λ n. elim (cases_lt n 512) [
    | inl l ↦ omega (arith, made-at f n l, below n)
    | inr g ↦ omega (arith, made-past f n g)
  ];
  room = λ n some. elim (cases_lt n 512) [
    | inl l ↦ omega (arith, made-at f n l, room n some)
    | inr g ↦ omega (arith, made-past f n g, step-below s.cpus step few least)
  ];
  remainder = λ n within there lives. ap (λ t. t % step) (made-at f n within) ∙ remainder n within there lives;
}

-- ---- the first ids

-- the opening machine has no current slab
opening-bare : (trace : Trace) (n : ℕ) → IsSome (cpu_at (opening_of trace) n).current → ⊥
opening-bare trace n =
    cpu-at (opening_of trace) n (λ l. IsSome l.current → ⊥) (λ some. false≢true some)
    (λ below. subst (λ (l : CpuLists). IsSome l.current → ⊥) (sym (get_or-replicate_any (32 * trace.cpus) (n / 16 * trace.cpus + n % 16) no_lists)) (λ some. false≢true some))

pub opening-fit : FirstIdsFit
opening-fit trace sound =
    first-ids-fit (opening_of trace) trace.tid (step_of trace.cpus) sound.cpus.0 (is-step trace.cpus sound.cpus.0 sound.cpus.1) sound.tid.0 sound.tid.1
    (λ n some. absurd (opening-bare trace n some))

-- ---- ids that stay

pub ids-kept : (s after : State) (ids : List ℕ) → Leaves s after → AreIds s ids → AreIds after ids
ids-kept s after ids leaves are = record {
  step = are.step;
  least = subst (λ cpus. IsStepOf cpus are.step) (sym leaves.cpus) are.least;
  count = are.count;
  below = are.below;
  room = λ n some. are.room n (leaves-word s after n leaves some);
  remainder = λ n within there lives. are.remainder n within (omega (arith, there, leaves.cpus)) (leaves.live (n / 16) lives);
}

-- ---- a cache that is detached

module _ (s : State) (cache : ℕ) (after : State) (ids : List ℕ) (cpus : (1 ≤ s.cpus) × (s.cpus ≤ 16)) (detaches : Detaches s cache after) (are : AreIds s ids) where
  -- what becomes of an id
  abbrev grown : ℕ → ℕ
  grown n = cond (eqb (n / 16) cache && is_some (cpu_at s n).current) (id_at ids n + step_of s.cpus) (id_at ids n)

  the-step : are.step ≡ step_of s.cpus
  the-step = step-is s.cpus are.step are.least cpus.0 cpus.1

  -- a word of the cache has no current slab any more
  none-left : (n : ℕ) → n / 16 ≡ cache → IsSome (cpu_at after n).current → ⊥
  none-left n of some =
      let word = word-before s after n detaches.leaves.cpus some in
      detaches.none (n % 16) word.0 (subst (λ k. IsSome (current_in after (k * s.cpus + n % 16))) of word.1)

  pub ids-detached : AreIds after (with_detached s cache ids)
  ids-detached =
      made-fit after are.step grown (subst (λ n. IsStepOf n are.step) (sym detaches.leaves.cpus) are.least) (omega (arith, cpus.1, detaches.leaves.cpus))
      (λ n. cond_both (eqb (n / 16) cache && is_some (cpu_at s n).current) (id_at ids n + step_of s.cpus) (id_at ids n) (λ id. id < 2 ^ 32)
      (λ is. omega (arith, are.room n (and_parts (eqb (n / 16) cache) (is_some (cpu_at s n).current) is).1, the-step))
      (λ isnt. are.below n))
      (λ n some. cond_both (eqb (n / 16) cache && is_some (cpu_at s n).current) (id_at ids n + step_of s.cpus) (id_at ids n) (λ id. id + are.step < 2 ^ 32)
      (λ is. absurd (none-left n (eqb-true (n / 16) cache (and_parts (eqb (n / 16) cache) (is_some (cpu_at s n).current) is).0) some))
      (λ isnt. are.room n (leaves-word s after n detaches.leaves some)))
      (λ n within there lives.
      let was : id_at ids n % are.step ≡ n % 16 = are.remainder n within (omega (arith, there, detaches.leaves.cpus)) (detaches.leaves.live (n / 16) lives) in
      cond_both (eqb (n / 16) cache && is_some (cpu_at s n).current) (id_at ids n + step_of s.cpus) (id_at ids n) (λ id. id % are.step ≡ n % 16)
      (λ is. ap (λ k. (id_at ids n + k) % are.step) (sym the-step) ∙ add-mod_right (id_at ids n) are.step ∙ was)
      (λ isnt. was))

-- ---- a cache that is made

module _ (s : State) (cache : ℕ) (after : State) (ids : List ℕ) (trace : Trace) (sound : IsSound trace) (same : s.cpus ≡ trace.cpus) (coherent : IsCoherent s)
    (within : cache < 32) (unused : cache_of s cache ≡ None) (cpus : after.cpus ≡ s.cpus) (current : (place : ℕ) → IsSome (current_in after place) → IsSome (current_in s place))
    (live : (other : ℕ) → other ≢ cache → IsSome (cache_of after other) → IsSome (cache_of s other)) (are : AreIds s ids) where
  abbrev begun : ℕ → ℕ
  begun n = cond (eqb (n / 16) cache) (first_id trace.tid s.cpus n) (id_at ids n)

  begun-step : are.step ≡ step_of trace.cpus
  begun-step = step-is s.cpus are.step are.least (omega (arith, sound.cpus.0, same)) (omega (arith, sound.cpus.1, same)) ∙ ap step_of same

  -- what is current was current
  still : (n : ℕ) → IsSome (cpu_at after n).current → (n % 16 < s.cpus) × IsSome (current_in s (n / 16 * s.cpus + n % 16))
  still n some = let word = word-before s after n cpus some in (word.0, current (n / 16 * s.cpus + n % 16) word.1)

  -- and a cache that is made has no current slab
  none-yet : (n : ℕ) → n / 16 ≡ cache → IsSome (cpu_at after n).current → ⊥
  none-yet n of some =
      let word = still n some in
      dead-none s cache (n % 16) coherent within word.0 unused (subst (λ k. IsSome (current_in s (k * s.cpus + n % 16))) of word.1)

  other-room : (n : ℕ) → IsSome (cpu_at after n).current → id_at ids n + are.step < 2 ^ 32
  other-room n some = are.room n (leaves-word s s-with n leaves-so some-so)
    where
      s-with : State
      s-with = record after { table = s.table }

      leaves-so : Leaves s s-with
      leaves-so = record { cpus = cpus; current = current; live = λ other lives. lives }

      some-so : IsSome (cpu_at s-with n).current
      some-so = some

  pub ids-begun : AreIds after (with_first trace.tid s.cpus cache ids)
  ids-begun =
      made-fit after are.step begun (subst (λ n. IsStepOf n are.step) (sym cpus) are.least) (omega (arith, sound.cpus.1, same, cpus))
      (λ n. cond_both (eqb (n / 16) cache) (first_id trace.tid s.cpus n) (id_at ids n) (λ id. id < 2 ^ 32)
      (λ is. omega (arith, first-most trace.tid s.cpus n (omega (arith, sound.cpus.0, same)), are.least.1, begun-step, sound.tid.1))
      (λ isnt. are.below n))
      (λ n some. cond_both (eqb (n / 16) cache) (first_id trace.tid s.cpus n) (id_at ids n) (λ id. id + are.step < 2 ^ 32)
      (λ is. absurd (none-yet n (eqb-true (n / 16) cache is) some))
      (λ isnt. other-room n some))
      (λ n below there lives. cond_both (eqb (n / 16) cache) (first_id trace.tid s.cpus n) (id_at ids n) (λ id. id % are.step ≡ n % 16)
      (λ is. ap (λ id. id % are.step) (first-is trace.tid s.cpus n (omega (arith, there, cpus)))
      ∙ first-leaves trace.tid are.step (n % 16) (ap (λ k. trace.tid % k) begun-step ∙ sound.tid.0) (omega (arith, there, cpus, are.least.1)))
      (λ isnt. are.remainder n below (omega (arith, there, cpus)) (live (n / 16) (λ of. both_ways (eqb (n / 16) cache) isnt (eq-eqb (n / 16) cache of)) lives)))
