-- How ids grow with an event of a round on the lists: word by word, and over words of a cache or a CPU.
use Rattle.std.proofs.Common.{◌≡◌, ◌≢◌, ℕ, ◌+◌, ◌*◌, ◌/◌, ◌%◌, ◌<◌, ◌≤◌, ◌&&◌, Bool, true, false, cond, eqb, List, length, get_or, set, Option, Some, None, inl, inr, refl, sym, ap, ◌∙◌, subst, arith, add-mul}
use Rattle.std.specs.Prelude.{is_some, nat_lt}
use Rattle.std.specs.Option.{option_and_then, option_map_or}
use Rattle.std.proofs.lemmas.Bool.{cases_eq, cases_lt, eq-eqb, eqb-true, le-ltb, lt-ltb}
use Rattle.std.proofs.lemmas.List.{get_or-set_other, get_or-set_same, set-get_or, set-set}
use Rattle.std.proofs.lemmas.List.FromFn.{fill_by_all}
use Rattle.slub_trace.specs.declared.reply.Reply.{Reply}
use Rattle.slub_trace.specs.Kinds.{is_given}
use Rattle.slub_trace.specs.declared.event.Act.{Act}
use Rattle.slub_trace.specs.declared.event.Act.TheVariants as act
use Rattle.slub_lists.specs.declared.lists.CpuLists.{CpuLists}
use Rattle.slub_lists.specs.declared.lists.Held.{Held}
use Rattle.slub_red_zone.specs.State.{CheckedState}
use Rattle.slub_cache_create.specs.Table.{name_at}
use Rattle.slub_cache_create.proofs.Oldest.{named_alive}
use Rattle.slub_lists.specs.State.{State}
use Rattle.slub_lists.specs.Alloc.{checked_of, cpu_place, lists_of, named, no_lists}
use Rattle.slub_lists.specs.Coherent.{IsCoherent, held_under}
use Rattle.slub_lists.proofs.Coherence.{live-inside, place-inside}
use Rattle.slub_lists.proofs.Kept.{consistent-of}
use Rattle.slub_lists.proofs.ObjectWords.{read-inside}
use Rattle.slub_lists.proofs.Taking.{cache-within}
use Rattle.slub_core.specs.Setup.{cpu_number}
use Rattle.slub_core.specs.World.{one_if}
use Rattle.slub_law_opening.specs.Opening.{cpu_at}
use Rattle.slub_law_opening.proofs.Cpus.{cpu-at}
use Rattle.slub_calls.specs.Changes.{grown, changes_of_alloc, changes_of_held, has_slab_of, has_slab_on, grown_where}
use Rattle.slub_calls.proofs.ChangeNumbers.{cpu_here}
use Rattle.slub_rounds.specs.Raising.{ids_beside, ids_left, ids_raised, with_given, with_step, word_given, word_in}

-- ---- one word

-- an id that doesn't grow is as it was
pub no-step : (step word : ℕ) (ids : List ℕ) → set ids word (get_or ids word 0 + 0 * step) ≡ ids
no-step step word ids = let same : get_or ids word 0 + 0 * step ≡ get_or ids word 0 = omega arith in ap (λ v. set ids word v) same ∙ set-get_or ids word 0

-- a word that changes or doesn't
pub stays : (step word : ℕ) (changed : Bool) (ids : List ℕ) → changed ≡ false → ids ≡ with_step step word changed ids
stays step word changed ids is = sym (no-step step word ids) ∙ ap (λ z. set ids word (get_or ids word 0 + one_if z * step)) (sym is)

pub grows : (step word : ℕ) (changed : Bool) (ids : List ℕ) → changed ≡ true → set ids word (get_or ids word 0 + step) ≡ with_step step word changed ids
grows step word changed ids is =
    let one : get_or ids word 0 + step ≡ get_or ids word 0 + 1 * step = omega arith in
    ap (λ v. set ids word v) one ∙ ap (λ z. set ids word (get_or ids word 0 + one_if z * step)) (sym is)

-- one step more
step-more : (step word times most : ℕ) (changed : Bool) (ids : List ℕ) → word < length ids → most ≡ times + one_if changed → with_step step word changed (set ids word (get_or ids word 0 + times * step)) ≡ set ids word (get_or ids word 0 + most * step)
step-more step word times most changed ids within is =
    let now = get_or-set_same ids word (get_or ids word 0 + times * step) 0 within in
    let more = add-mul times (one_if changed) step in
    let all : most * step ≡ (times + one_if changed) * step = ap (λ n. n * step) is in
    set-set ids word (get_or ids word 0 + times * step) (get_or (set ids word (get_or ids word 0 + times * step)) word 0 + one_if changed * step)
    ∙ ap (λ v. set ids word v) (omega (arith, now, more, all))

-- what an act leaves is what it changes whatever its reply is, and what the object changes that it is given
module _ (s : State) (step cpu : ℕ) (reply : Reply) (ids : List ℕ) where
  of-cache : (cache : ℕ) (checked : Bool) (times : ℕ) → cpu_number cache cpu < length ids
      → with_given step (cond checked None (Some (cpu_number cache cpu))) reply (set ids (cpu_number cache cpu) (get_or ids (cpu_number cache cpu) 0 + cond checked 0 (times + 0) * step))
      ≡ set ids (cpu_number cache cpu) (get_or ids (cpu_number cache cpu) 0 + cond checked 0 (times + one_if (is_given reply)) * step)
  of-cache cache true times within = refl
  of-cache cache false times within = step-more step (cpu_number cache cpu) (times + 0) (times + one_if (is_given reply)) (is_given reply) ids within (omega arith)

  of-named : (x : Option ℕ) → ((cache : ℕ) → x ≡ Some cache → cpu_number cache cpu < length ids)
      → with_given step (option_and_then (word_in s cpu) x) reply (option_map_or (λ cache. grown (ids_beside step ids) (cpu_number cache cpu) (changes_of_alloc s cache cpu false)) x (ids_beside step ids)).tids
      ≡ (option_map_or (λ cache. grown (ids_beside step ids) (cpu_number cache cpu) (changes_of_alloc s cache cpu (is_given reply))) x (ids_beside step ids)).tids
  of-named None within = refl
  of-named (Some cache) within =
      of-cache cache (is_some (checked_of s cache)) (one_if (eqb (length (lists_of s cache cpu).free) 0 && is_some (lists_of s cache cpu).current)) (within cache refl)

  pub left-is : (worker : ℕ) (a : Act) → ((place object cache : ℕ) → a ≡ act.Alloc place object → named s place ≡ Some cache → cpu_number cache cpu < length ids)
      → with_given step (word_given s cpu a) reply (ids_raised s step worker cpu a ids) ≡ ids_left s step worker cpu a reply ids
  left-is worker (act.Alloc place object) within = of-named (named s place) (λ cache is. within place object cache refl is)
  left-is worker (act.Free object) within = refl
  left-is worker (act.Write word object value) within = refl
  left-is worker (act.Read word object) within = refl
  left-is worker (act.Poke object offset byte) within = refl
  left-is worker (act.Trim place) within = refl
  left-is worker act.Flush within = refl

-- an allocation of an unchecked cache, whatever its reply is
pub alloc-raised : (s : State) (step cpu place cache : ℕ) (spent : Bool) (ids : List ℕ) → named s place ≡ Some cache → is_some (checked_of s cache) ≡ false
    → spent ≡ (eqb (length (lists_of s cache cpu).free) 0 && is_some (lists_of s cache cpu).current)
    → with_step step (cpu_number cache cpu) spent ids ≡ ids_raised s step 0 cpu (act.Alloc place 0) ids
alloc-raised s step cpu place cache spent ids name unchecked is =
    let n = cpu_number cache cpu in
    let times : one_if spent ≡ changes_of_alloc s cache cpu false =
    (let zero : one_if spent ≡ one_if spent + 0 = omega arith in zero)
    ∙ ap (λ z. one_if z + 0) is
    ∙ ap (λ z. cond z 0 (one_if (eqb (length (lists_of s cache cpu).free) 0 && is_some (lists_of s cache cpu).current) + 0)) (sym unchecked) in
    ap (λ t. set ids n (get_or ids n 0 + t * step)) times
    ∙ ap (λ (x : Option ℕ). (option_map_or (λ cache. grown (ids_beside step ids) (cpu_number cache cpu) (changes_of_alloc s cache cpu false)) x (ids_beside step ids)).tids) (sym name)

-- of a checked one, or of none
pub alloc-checked : (s : State) (step cpu place cache : ℕ) (ids : List ℕ) → named s place ≡ Some cache → is_some (checked_of s cache) ≡ true
    → ids ≡ ids_raised s step 0 cpu (act.Alloc place 0) ids
alloc-checked s step cpu place cache ids name checked =
    let n = cpu_number cache cpu in
    sym (no-step step n ids)
    ∙ ap (λ z. set ids n (get_or ids n 0 + cond z 0 (one_if (eqb (length (lists_of s cache cpu).free) 0 && is_some (lists_of s cache cpu).current) + 0) * step)) (sym checked)
    ∙ ap (λ (x : Option ℕ). (option_map_or (λ cache. grown (ids_beside step ids) (cpu_number cache cpu) (changes_of_alloc s cache cpu false)) x (ids_beside step ids)).tids) (sym name)

pub alloc-none : (s : State) (step cpu place : ℕ) (ids : List ℕ) → named s place ≡ None → ids ≡ ids_raised s step 0 cpu (act.Alloc place 0) ids
alloc-none s step cpu place ids name =
    ap (λ (x : Option ℕ). (option_map_or (λ cache. grown (ids_beside step ids) (cpu_number cache cpu) (changes_of_alloc s cache cpu false)) x (ids_beside step ids)).tids) (sym name)

-- the word that an object that is given changes
pub given-checked : (s : State) (cpu place cache : ℕ) → named s place ≡ Some cache → is_some (checked_of s cache) ≡ true → None ≡ word_given s cpu (act.Alloc place 0)
given-checked s cpu place cache name checked = ap (λ z. cond z None (Some (cpu_number cache cpu))) (sym checked) ∙ ap (λ (x : Option ℕ). option_and_then (word_in s cpu) x) (sym name)

pub given-word : (s : State) (cpu place cache : ℕ) → named s place ≡ Some cache → is_some (checked_of s cache) ≡ false → Some (cpu_number cache cpu) ≡ word_given s cpu (act.Alloc place 0)
given-word s cpu place cache name unchecked = ap (λ z. cond z None (Some (cpu_number cache cpu))) (sym unchecked) ∙ ap (λ (x : Option ℕ). option_and_then (word_in s cpu) x) (sym name)

pub given-none : (s : State) (cpu place : ℕ) → named s place ≡ None → None ≡ word_given s cpu (act.Alloc place 0)
given-none s cpu place name = ap (λ (x : Option ℕ). option_and_then (word_in s cpu) x) (sym name)

-- a free
pub free-raised : (s : State) (step cpu worker object : ℕ) (held : Held) (pushed : Bool) (ids : List ℕ) → held_under s object ≡ Some held → one_if pushed ≡ changes_of_held s cpu worker held
    → with_step step (cpu_number held.cache cpu) pushed ids ≡ ids_raised s step worker cpu (act.Free object) ids
free-raised s step cpu worker object held pushed ids there is =
    let n = cpu_number held.cache cpu in
    ap (λ t. set ids n (get_or ids n 0 + t * step)) is
    ∙ ap (λ (x : Option Held). (grown (ids_beside step ids) (option_map_or (λ (held : Held). cpu_number held.cache cpu) x 0) (option_map_or (changes_of_held s cpu worker) x 0)).tids) (sym there)

pub free-none : (s : State) (step cpu worker object : ℕ) (ids : List ℕ) → held_under s object ≡ None → ids ≡ ids_raised s step worker cpu (act.Free object) ids
free-none s step cpu worker object ids none =
    sym (no-step step 0 ids)
    ∙ ap (λ (x : Option Held). (grown (ids_beside step ids) (option_map_or (λ (held : Held). cpu_number held.cache cpu) x 0) (option_map_or (changes_of_held s cpu worker) x 0)).tids) (sym none)

-- ---- words one after the other

-- of the words that change, those whose turn is before n have grown
pub record AreRaised (changed : ℕ → Bool) (turn : ℕ → ℕ) (step : ℕ) (old now : List ℕ) (n : ℕ) : Type 0 where
  pub at : (k : ℕ) → get_or now k 0 ≡ get_or old k 0 + cond (nat_lt (turn k) n && changed k) step 0

by-step : (changed : Bool) (step : ℕ) → one_if changed * step ≡ cond changed step 0
by-step true step = omega arith
by-step false step = omega arith

-- whether the turn of a word is before the next one
come : (turn n : ℕ) (changed : Bool) → (changed ≡ true → turn ≢ n) → (nat_lt turn n && changed) ≡ (nat_lt turn (n + 1) && changed)
come turn n true other = elim (cases_lt turn n) [
  | inl below ↦ ap (λ z. z && true) (lt-ltb turn n below ∙ sym (lt-ltb turn (n + 1) (omega (arith, below))))
  | inr past ↦
      let ne : turn ≢ n = other refl in
      ap (λ z. z && true) (le-ltb turn n past ∙ sym (le-ltb turn (n + 1) (omega (arith, past, ne))))
]
come turn n false other = none (nat_lt turn n) ∙ sym (none (nat_lt turn (n + 1)))
  where
    none : (z : Bool) → (z && false) ≡ false
    none true = refl
    none false = refl

module _ (changed : ℕ → Bool) (turn : ℕ → ℕ) (step : ℕ) (old : List ℕ) where
  pub raised-none : AreRaised changed turn step old old 0
  raised-none = record {
    at = λ k.
        let nothing : cond (nat_lt (turn k) 0 && changed k) step 0 ≡ 0 = ap (λ z. cond (z && changed k) step 0) (le-ltb (turn k) 0 (omega arith)) in
        omega (arith, nothing);
  }

  module _ (now : List ℕ) (n : ℕ) (so : AreRaised changed turn step old now n) where
    -- a word whose turn it is hasn't grown yet
    pub raised-here : (w : ℕ) → turn w ≡ n → get_or now w 0 ≡ get_or old w 0
    raised-here w is =
        let nothing : cond (nat_lt (turn w) n && changed w) step 0 ≡ 0 = ap (λ z. cond (z && changed w) step 0) (le-ltb (turn w) n (omega (arith, is))) in
        omega (arith, nothing, so.at w)

    pub raised-more : (w : ℕ) (changes : Bool) → turn w ≡ n → w < length now → changes ≡ changed w → ((k : ℕ) → turn k ≡ n → changed k ≡ true → k ≡ w)
        → AreRaised changed turn step old (with_step step w changes now) (n + 1)
    raised-more w changes is within does only = record {
      at = λ k. elim (cases_eq k w) [
        | inl e ↦ subst (λ j. get_or (with_step step w changes now) j 0 ≡ get_or old j 0 + cond (nat_lt (turn j) (n + 1) && changed j) step 0) (sym e) here
        | inr ne ↦
            let same : cond (nat_lt (turn k) n && changed k) step 0 ≡ cond (nat_lt (turn k) (n + 1) && changed k) step 0 = ap (λ z. cond z step 0) (come (turn k) n (changed k) (λ has at. ne (only k at has))) in
            let other = get_or-set_other now w k (get_or now w 0 + one_if changes * step) 0 ne in
            omega (arith, other, so.at k, same)
      ];
    }
      where
        here : get_or (with_step step w changes now) w 0 ≡ get_or old w 0 + cond (nat_lt (turn w) (n + 1) && changed w) step 0
        here =
            let grows : cond (nat_lt (turn w) (n + 1) && changed w) step 0 ≡ cond (changed w) step 0 = ap (λ z. cond (z && changed w) step 0) (lt-ltb (turn w) (n + 1) (omega (arith, is))) in
            let by : one_if changes * step ≡ cond (changed w) step 0 = by-step changes step ∙ ap (λ z. cond z step 0) does in
            let set_now = get_or-set_same now w (get_or now w 0 + one_if changes * step) 0 within in
            omega (arith, set_now, raised-here w is, grows, by)

    -- all turns have come
    pub raised-all : length now ≡ length old → ((k : ℕ) → k < length old → changed k ≡ true → turn k < n) → now ≡ (grown_where (ids_beside step old) changed).tids
    raised-all sized over =
        fill_by_all (λ k. get_or old k 0 + cond (changed k) step 0) now (length old) 0 sized
        (λ k below. so.at k ∙ ap (λ z. get_or old k 0 + cond z step 0) (is-over (nat_lt (turn k) n) (changed k) (λ has. lt-ltb (turn k) n (over k below has))))
      where
        is-over : (z c : Bool) → (c ≡ true → z ≡ true) → (z && c) ≡ c
        is-over true c holds = refl
        is-over false true holds = holds refl
        is-over false false holds = refl

-- ---- the words of a cache, and of a CPU

both-true : (a b : Bool) → (a && b) ≡ true → (a ≡ true) × (b ≡ true)
both-true true b is = (refl, is)
both-true false b is = absurd (let never : ⊥ = cc in never)

eqb-same : (n : ℕ) → eqb n n ≡ true
eqb-same n = eq-eqb n n refl

is-current : (s : State) (n : ℕ) → is_some (cpu_at s n).current ≡ true → n % 16 < s.cpus
is-current s n = cpu-at s n (λ (x : CpuLists). is_some x.current ≡ true → n % 16 < s.cpus) (λ never. absurd (let no : ⊥ = cc in no)) (λ below has. below)

module _ (s : State) (cache cpu : ℕ) (below : cpu < s.cpus) (few : s.cpus ≤ 16) where
  -- the CPU's word of the cache has a slab
  current-there : is_some (lists_of s cache cpu).current ≡ is_some (cpu_at s (cpu_number cache cpu)).current
  current-there = ap (λ (x : CpuLists). is_some x.current) (sym (cpu_here s cache cpu below few))

  of-cache-there : cpu_number cache cpu / 16 ≡ cache
  of-cache-there = omega (arith, below, few)

  pub of-cpu-there : cpu_number cache cpu % 16 ≡ cpu
  of-cpu-there = omega (arith, below, few)

  pub slab-of-cache : is_some (lists_of s cache cpu).current ≡ has_slab_of s cache (cpu_number cache cpu)
  slab-of-cache = current-there ∙ ap (λ z. z && is_some (cpu_at s (cpu_number cache cpu)).current) (sym (ap (λ c. eqb c cache) of-cache-there ∙ eqb-same cache))

  pub slab-on-cpu : is_some (lists_of s cache cpu).current ≡ has_slab_on s cpu (cpu_number cache cpu)
  slab-on-cpu = current-there ∙ ap (λ z. z && is_some (cpu_at s (cpu_number cache cpu)).current) (sym (ap (λ c. eqb c cpu) of-cpu-there ∙ eqb-same cpu))

-- no other word of the cache is the CPU's
pub only-of-cache : (s : State) (cache cpu k : ℕ) → k % 16 ≡ cpu → has_slab_of s cache k ≡ true → k ≡ cpu_number cache cpu
only-of-cache s cache cpu k is has = let own = eqb-true (k / 16) cache (both-true (eqb (k / 16) cache) (is_some (cpu_at s k).current) has).0 in omega (arith, own, is)

pub only-on-cpu : (s : State) (cache cpu k : ℕ) → k / 16 ≡ cache → has_slab_on s cpu k ≡ true → k ≡ cpu_number cache cpu
only-on-cpu s cache cpu k is has = let own = eqb-true (k % 16) cpu (both-true (eqb (k % 16) cpu) (is_some (cpu_at s k).current) has).0 in omega (arith, own, is)

-- a word with a slab is that of a CPU
pub cpu-of-slab : (s : State) (cache k : ℕ) → has_slab_of s cache k ≡ true → k % 16 < s.cpus
cpu-of-slab s cache k has = is-current s k (both-true (eqb (k / 16) cache) (is_some (cpu_at s k).current) has).1

-- ---- caches

-- a cache that a name names is one of 32, and so is that of an object on the board
pub named-within : (s : State) (place cache : ℕ) → IsCoherent s → named s place ≡ Some cache → cache < 32
named-within s place cache coherent is =
    omega (arith, live-inside s.table.caches cache (named_alive s.table (name_at s.table place) cache coherent.shaped.table is), coherent.shaped.table.numbers)

pub held-within : (s : State) (object : ℕ) (held : Held) → IsCoherent s → held_under s object ≡ Some held → held.cache < 32
held-within s object held coherent there = cache-within s object held (consistent-of s coherent) there

-- a CPU's word of such a cache is one of all
pub word-within : (cache cpu cpus count : ℕ) → cache < 32 → cpu < cpus → cpus ≤ 16 → count ≡ 512 → cpu_number cache cpu < count
word-within cache cpu cpus count inside below few is = omega (arith, inside, below, few, is)

-- ---- what was read

pub read-checked : (s : State) (cache : ℕ) (x : Option CheckedState) → IsCoherent s → cache < 32 → x ≡ get_or s.checked cache x → is_some x ≡ is_some (checked_of s cache)
read-checked s cache x coherent inside is = ap (λ (x : Option CheckedState). is_some x) (read-inside s.checked cache x None (omega (arith, inside, coherent.shaped.checked.numbers)) is)

pub read-lists : (s : State) (cache cpu : ℕ) (x : CpuLists) → IsCoherent s → cache < 32 → cpu < s.cpus → x ≡ get_or s.cpu_lists (cpu_place s cache cpu) x → x ≡ lists_of s cache cpu
read-lists s cache cpu x coherent inside below is = read-inside s.cpu_lists (cpu_place s cache cpu) x no_lists (place-inside s cache cpu coherent.shaped inside below) is
