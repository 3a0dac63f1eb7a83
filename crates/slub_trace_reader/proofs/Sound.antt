-- A load is sound.
use Rattle.std.proofs.Common.{◌≡◌, ℕ, zero, suc, ◌+◌, ◌*◌, ◌%◌, ◌<◌, ◌≤◌, true, false, ◌&&◌, List, [], ◌∷◌, ◌++◌, length, fold, flat_map, get_or, max, refl, sym, ap, ◌∙◌, arith, subst, inl, inr, length-append, lit≤, lit<, All, eqb, ltb, nat_eq}
use Rattle.std.specs.Prelude.{codes}
use Rattle.std.specs.List.{IsDistinct, cons_option, list_any, range_with_len}
use Rattle.std.specs.Str.{bytes_eq}
use Rattle.std.proofs.Math.Nat.{mod-lt}
use Rattle.std.proofs.lemmas.Bool.{cond_both, and_parts, eqb-true, ltb-true, cases_Bool}
use Rattle.std.proofs.lemmas.List.{append-nil}
use Rattle.std.proofs.lemmas.List.Elements.{All-append, All-cons, All-drop, All-filter, All-head, All-map, All-nil, All-push, All-tail}
use Rattle.slub_trace.specs.declared.event.Act.{Act}
use Rattle.slub_trace.specs.declared.event.Act.TheVariants.{Alloc, Free, Write, Read, Poke, Trim, Flush}
use Rattle.slub_trace.specs.declared.event.Event.{Event}
use Rattle.slub_object_layout.specs.Name.{IsName}
use Rattle.slub_trace.specs.declared.trace.Item.{Item}
use Rattle.slub_trace.specs.declared.trace.Item.TheVariants.{Cache, Round, Shrink}
use Rattle.slub_trace.specs.Sound.{IsSound, IsSoundAct, IsSoundEvent, IsSoundItem, IsSoundRound, AreReadable, IsReadable, allocated, events_in, objects_in, objects_of}
use Rattle.slub_trace.proofs.Names.{name_tells}
use Rattle.slub_trace_reader.proofs.Runs.{distinct_run, run_each}
use Rattle.slub_trace_reader.specs.Generator.{number}
use Rattle.slub_trace_reader.specs.Load.{alloc_by, cache_names, drawn_events, emptied, event_behind, event_of, events_of, free_by, freed_of, held_by, is_free, items_of, last_frees, load_events, load_of, plain, trace_of}
use Rattle.slub_trace_reader.proofs.Events.{few_objects, objects_append}
use Rattle.slub_trace_reader.proofs.Long.{drawn_long, load_long}
use Rattle.slub_trace_reader.proofs.Numbered.{load_greatest, load_objects}

-- ---- good events

-- one of so many object numbers
abbrev pub IsNumber : ℕ → ℕ → Type 0
IsNumber count object = (1 ≤ object) × (object ≤ count)

abbrev IsGoodAct : ℕ → Act → Type 0
IsGoodAct count (Alloc place object) = (place < 3) × IsNumber count object
IsGoodAct count (Free object) = IsNumber count object
IsGoodAct count (Write word object value) = ⊥
IsGoodAct count (Read word object) = ⊥
IsGoodAct count (Poke object offset byte) = ⊥
IsGoodAct count (Trim place) = ⊥
IsGoodAct count Flush = ⊥

record IsGood (workers count : ℕ) (event : Event) : Type 0 where
  pub worker : event.worker < workers
  pub cpu : event.cpu < 4
  pub act : IsGoodAct count event.act

wider_act : (count more : ℕ) (a : Act) → count ≤ more → IsGoodAct count a → IsGoodAct more a
wider_act count more (Alloc place object) low is = (is.0, (is.1.0, omega (arith, is.1.1, low)))
wider_act count more (Free object) low is = (is.0, omega (arith, is.1, low))
wider_act count more (Write word object value) low is = is
wider_act count more (Read word object) low is = is
wider_act count more (Poke object offset byte) low is = is
wider_act count more (Trim place) low is = is
wider_act count more Flush low is = is

wider : (workers count more : ℕ) (e : Event) → count ≤ more → IsGood workers count e → IsGood workers more e
wider workers count more e low is = record { worker = is.worker; cpu = is.cpu; act = wider_act count more e.act low is.act }

all_wider : (workers count more : ℕ) (es : List Event) → count ≤ more → All (IsGood workers count) es → All (IsGood workers more) es
all_wider workers count more es low all = λ k d within. wider workers count more (get_or es k d) low (all k d within)

-- ---- what is held

cons_number : (count : ℕ) (a : Act) (xs : List ℕ) → IsGoodAct count a → All (IsNumber count) xs → All (IsNumber count) (cons_option (allocated a) xs)
cons_number count (Alloc place object) xs is all = All-cons (IsNumber count) object xs is.1 all
cons_number count (Free object) xs is all = all
cons_number count (Write word object value) xs is all = all
cons_number count (Read word object) xs is all = all
cons_number count (Poke object offset byte) xs is all = all
cons_number count (Trim place) xs is all = all
cons_number count Flush xs is all = all

good_objects : (workers count : ℕ) (es : List Event) → All (IsGood workers count) es → All (IsNumber count) (objects_of es)
good_objects workers count [] all = All-nil (IsNumber count)
good_objects workers count (e ∷ es) all =
    let here = All-head (IsGood workers count) e es all in
    cons_number count e.act (objects_of es) here.act (good_objects workers count es (All-tail (IsGood workers count) e es all))

held_numbers : (workers count worker : ℕ) (es : List Event) → All (IsGood workers count) es → All (IsNumber count) (held_by worker es)
unfolding held_by
held_numbers workers count worker es all =
    All-drop (IsNumber count) (length (freed_of (events_of worker es))) (objects_of (events_of worker es))
    (good_objects workers count (events_of worker es) (All-filter (λ (e : Event). eqb e.worker worker) (IsGood workers count) es all))

-- ---- drawn events

-- who frees holds something
pub free_held : (held : List ℕ) (eighth : ℕ) → is_free held eighth ≡ true → 0 < length held
free_held held eighth is = elim (cases_Bool (eqb (length held) 64)) [
  | inl full ↦ (let long : length held ≡ 64 = eqb-true (length held) 64 full in omega (arith, long))
  | inr not_full ↦
      (let other : (ltb eighth 3 && ltb 0 (length held)) ≡ true = rw not_full at is in
      ltb-true 0 (length held) (and_parts (ltb eighth 3) (ltb 0 (length held)) other).1)
]

IsGoodBehind : ℕ → ℕ → Event → Type 0
IsGoodBehind workers count e = IsGood workers (count + length (objects_of (e ∷ []))) e

below_four : (n : ℕ) → n % 4 < 4
below_four n = mod-lt n {m = 4} (lit< tt)

below_three : (n : ℕ) → n % 3 < 3
below_three n = mod-lt n {m = 3} (lit< tt)

event_good : (workers worker eighth : ℕ) (es : List Event) → worker < workers → All (IsGood workers (length (objects_of es))) es
    → IsGoodBehind workers (length (objects_of es)) (event_behind es worker eighth)
unfolding event_behind event_of IsGoodBehind
event_good workers worker eighth es low all =
    let count = length (objects_of es) in
    let held = held_by worker es in
    cond_both (is_free held eighth) (free_by worker ((worker + eighth) % 4) (get_or held 0 0)) (alloc_by worker (worker % 4) (eighth % 3) (count + 1)) (IsGoodBehind workers count)
    (λ is.
    let first : IsNumber count (get_or held 0 0) = held_numbers workers count worker es all 0 0 (free_held held eighth is) in
    record { worker = low; cpu = below_four (worker + eighth); act = (first.0, omega (arith, first.1)) })
    (λ _. record { worker = low; cpu = below_four worker; act = (below_three eighth, (omega arith, omega arith)) })

good_more : (workers : ℕ) (es : List Event) (e : Event) → All (IsGood workers (length (objects_of es))) es → IsGoodBehind workers (length (objects_of es)) e
    → All (IsGood workers (length (objects_of (es ++ e ∷ [])))) (es ++ e ∷ [])
unfolding IsGoodBehind
good_more workers es e all good =
    let long : length (objects_of (es ++ e ∷ [])) ≡ length (objects_of es) + length (objects_of (e ∷ [])) = ap length (objects_append es (e ∷ [])) ∙ length-append (objects_of es) (objects_of (e ∷ [])) in
    let count = length (objects_of (es ++ e ∷ [])) in
    All-push (IsGood workers count) es e (all_wider workers (length (objects_of es)) count es (omega (arith, long)) all)
    (wider workers (length (objects_of es) + length (objects_of (e ∷ []))) count e (omega (arith, long)) good)

drawn_good : (seed workers count : ℕ) → 1 ≤ workers → All (IsGood workers (length (objects_of (drawn_events seed workers count)))) (drawn_events seed workers count)
unfolding drawn_events
drawn_good seed workers zero some = All-nil (IsGood workers 0)
drawn_good seed workers (suc count) some =
    let es = drawn_events seed workers count in
    let all = drawn_good seed workers count some in
    let worker = number seed (2 * count) % workers in
    let low : worker < workers = mod-lt (number seed (2 * count)) {m = workers} some in
    good_more workers es (event_behind es worker (number seed (2 * count + 1) % 8)) all (event_good workers worker (number seed (2 * count + 1) % 8) es low all)

-- ---- the frees at the end

last_good : (workers count worker : ℕ) (es : List Event) → worker < workers → All (IsGood workers count) es → All (IsGood workers count) (last_frees es worker)
unfolding last_frees
last_good workers count worker es low all =
    let held = held_by worker es in
    All-map (IsGood workers count) (free_by worker (worker % 4)) held
    (λ k d within. record { worker = low; cpu = below_four worker; act = held_numbers workers count worker es all k d within })

frees_good : (workers count first more : ℕ) (es : List Event) → first + more ≤ workers → All (IsGood workers count) es → All (IsGood workers count) (flat_map (last_frees es) (range_with_len first more))
frees_good workers count first zero es low all = All-nil (IsGood workers count)
frees_good workers count first (suc more) es low all =
    All-append (IsGood workers count) (last_frees es first) (flat_map (last_frees es) (range_with_len (first + 1) more))
    (last_good workers count first es (omega (arith, low)) all) (frees_good workers count (first + 1) more es (omega (arith, low)) all)

load_good : (seed count workers : ℕ) → 1 ≤ workers → All (IsGood workers (length (objects_of (drawn_events seed workers count)))) (load_events seed count workers)
unfolding load_events emptied
load_good seed count workers some =
    let es = drawn_events seed workers count in
    let all = drawn_good seed workers count some in
    let most = length (objects_of es) in
    All-append (IsGood workers most) es (flat_map (last_frees es) (range_with_len 0 workers)) all (frees_good workers most 0 workers es (omega arith) all)

-- ---- the trace

sound_act : (workers : ℕ) (es : List Event) (a : Act) → IsGoodAct (fold max 0 (objects_of es)) a → IsSoundAct (trace_of workers es) a
unfolding cache_names
sound_act workers es (Alloc place object) is = (is.0, is.1.0, is.1.1)
sound_act workers es (Free object) is = is
sound_act workers es (Write word object value) is = absurd is
sound_act workers es (Read word object) is = absurd is
sound_act workers es (Poke object offset byte) is = absurd is
sound_act workers es (Trim place) is = absurd is
sound_act workers es Flush is = absurd is

idle_cpu : (count : ℕ) (a : Act) (cpu : ℕ) → IsGoodAct count a → Rattle.slub_trace.specs.Sound.IsSoundCpu a cpu
idle_cpu count (Alloc place object) cpu is = tt
idle_cpu count (Free object) cpu is = tt
idle_cpu count (Write word object value) cpu is = absurd is
idle_cpu count (Read word object) cpu is = absurd is
idle_cpu count (Poke object offset byte) cpu is = absurd is
idle_cpu count (Trim place) cpu is = absurd is
idle_cpu count Flush cpu is = absurd is

sound_event : (workers : ℕ) (es : List Event) (e : Event) → IsGood workers (fold max 0 (objects_of es)) e → IsSoundEvent (trace_of workers es) workers e
sound_event workers es e is = record {
  worker = is.worker;
  cpu = is.cpu;
  act = sound_act workers es e.act is.act;
  idle = idle_cpu (fold max 0 (objects_of es)) e.act e.cpu is.act;
}

distinct_numbers : (count : ℕ) → IsDistinct nat_eq (range_with_len 1 count)
unfolding IsDistinct
distinct_numbers count = distinct_run [] 1 count tt (run_each (λ n. list_any (nat_eq n) [] ≡ false) 1 count (λ n _ _. refl))

are_names : (All IsName cache_names) × IsDistinct bytes_eq cache_names × (length cache_names ≡ 3)
unfolding cache_names IsDistinct
are_names = (
  All-cons IsName (codes "dentry") (codes "filp" ∷ codes "node" ∷ []) ((name_tells (codes "dentry")).0 refl)
      (All-cons IsName (codes "filp") (codes "node" ∷ []) ((name_tells (codes "filp")).0 refl)
      (All-cons IsName (codes "node") [] ((name_tells (codes "node")).0 refl) (All-nil IsName))),
  ((refl, (refl, tt)), ((refl, tt), (tt, tt))),
  refl,
)

-- and nothing is read
nothing_read : (workers count : ℕ) (before es : List Event) → All (IsGood workers count) es → AreReadable before es
nothing_read workers count before [] all = tt
nothing_read workers count before (e ∷ es) all =
    (one e.act (All-head (IsGood workers count) e es all).act, nothing_read workers count (e ∷ before) es (All-tail (IsGood workers count) e es all))
  where
    one : (a : Act) → IsGoodAct count a → IsReadable before e a
    one (Alloc place object) is = tt
    one (Free object) is = tt
    one (Write word object value) is = tt
    one (Read word object) is = absurd is
    one (Poke object offset byte) is = tt
    one (Trim place) is = tt
    one Flush is = tt

sound_items : (workers : ℕ) (es : List Event) → AreReadable [] es → (1 ≤ workers) × (workers ≤ 16) → length cache_names ≡ 3 → All (IsSoundEvent (trace_of workers es) workers) es → All (IsSoundItem (trace_of workers es)) (items_of workers es)
sound_items workers es reads many three all =
    let P = IsSoundItem (trace_of workers es) in
    let zeroth : 0 < length cache_names = omega (arith, three) in
    let first : 1 < length cache_names = omega (arith, three) in
    let second : 2 < length cache_names = omega (arith, three) in
    let round : IsSoundRound (trace_of workers es) (record { workers = workers; events = es }) = record { workers = many; events = all; readable = reads } in
    let first_item : Item = Cache 0 (record { size = 192; align = 8; flags = record plain { reclaim = true } }) in
    let second_item : Item = Cache 1 (record { size = 256; align = 8; flags = record plain { line = true } }) in
    let third_item : Item = Cache 2 (record { size = 128; align = 8; flags = plain }) in
    let shrinks : List Item = Shrink 0 ∷ Shrink 1 ∷ Shrink 2 ∷ [] in
    let last : All P shrinks =
    All-cons P (Shrink 0) (Shrink 1 ∷ Shrink 2 ∷ []) zeroth (All-cons P (Shrink 1) (Shrink 2 ∷ []) first (All-cons P (Shrink 2) [] second (All-nil P))) in
    let rest : List Item = Round (record { workers = workers; events = es }) ∷ shrinks in
    All-cons P first_item (second_item ∷ third_item ∷ rest) zeroth (All-cons P second_item (third_item ∷ rest) first
    (All-cons P third_item rest second (All-cons P (Round (record { workers = workers; events = es })) shrinks round last)))

pub sound : (seed count workers : ℕ) → 1 ≤ workers → workers ≤ 16 → count ≤ 500000 → IsSound (load_of seed count workers)
unfolding load_of
sound seed count workers some few_workers few =
    let es = load_events seed count workers in
    let most : fold max 0 (objects_of es) ≡ length (objects_of (drawn_events seed workers count)) = load_greatest seed count workers in
    let long : length (drawn_events seed workers count) ≡ count = drawn_long seed workers count in
    let good : All (IsGood workers (fold max 0 (objects_of es))) es = subst (λ n. All (IsGood workers n) es) (sym most) (load_good seed count workers some) in
    let three : length cache_names ≡ 3 = are_names.2 in
    record {
      version = (lit≤ tt, lit≤ tt);
      frames = (lit≤ tt, lit≤ tt);
      cpus = (lit≤ tt, lit≤ tt);
      tid = (refl, lit≤ tt);
      objects = omega (arith, most, few_objects (drawn_events seed workers count), long, few);
      few = omega (arith, three);
      named = are_names.0;
      differ = are_names.1;
      items = sound_items workers es (nothing_read workers (fold max 0 (objects_of es)) [] es good) (some, few_workers) three (λ k d low. sound_event workers es (get_or es k d) (good k d low));
      distinct = subst (λ (os : List ℕ). IsDistinct nat_eq os) (sym (append-nil (objects_of es) ∙ load_objects seed count workers)) (distinct_numbers (length (objects_of (drawn_events seed workers count))));
      brief = omega (arith, ap length (append-nil es), load_long seed count workers few_workers few);
    }
