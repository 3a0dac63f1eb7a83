-- The sums of a lawful journal: what was given less what was freed is live.
use Rattle.std.proofs.Common.{◌≡◌, ℕ, suc, ◌+◌, ◌*◌, ◌≤◌, Bool, true, false, cond, eqb, List, [], ◌∷◌, flat_map, length, take, get_or, sum_by, is_some, refl, sym, ◌∙◌, ap, subst, arith, Option, Some, None, IsSome, IfSome, MatchOption}
use Rattle.std.specs.Prelude.{⊤}
use Rattle.std.specs.List.{range_with_len, filter_map}
use Rattle.std.proofs.lemmas.Bool.Decides.{nat_tests}
use Rattle.std.proofs.lemmas.List.{get_or_past}
use Rattle.std.proofs.lemmas.List.Sums.{sum_by-cons}
use Rattle.slub_common.specs.Times.{times}
use Rattle.slub_common.proofs.Writes.{get_or-replicate_any}
use Rattle.slub_cache_create.specs.declared.caches.Cache.{Cache}
use Rattle.slub_lists.specs.declared.lists.Held.{Held}
use Rattle.slub_lists.specs.State.{State}
use Rattle.slub_lists.specs.Alloc.{cache_of}
use Rattle.slub_lists.specs.Coherent.{IsCoherent, held_of}
use Rattle.slub_lists.proofs.ObjectWords.{held-cache}
use Rattle.slub_slabinfo_text.specs.declared.counts.InfoRow.{InfoRow}
use Rattle.slub_slabinfo_text.specs.Counts.{row_of, row_with}
use Rattle.slub_trace.specs.declared.trace.Item.{Item}
use Rattle.slub_trace.specs.declared.trace.Trace.{Trace}
use Rattle.slub_trace.specs.Sound.{IsSound, IsSoundItem, objects_in}
use Rattle.slub_slabinfo_text.specs.declared.journal.Done.{Done}
use Rattle.slub_slabinfo_text.specs.declared.journal.Journal.{Journal}
use Rattle.slub_slabinfo_text.specs.declared.journal.Total.{Total}
use Rattle.slub_slabinfo_text.specs.Lawful.{IsTotal, all_freed, all_given, cache_numbers, counted, opening_of, over_caches}
use Rattle.slub_slabinfo_text.proofs.Rows.{reversed_rows}
use Rattle.slub_slabinfo_text.proofs.Numbers.{sum_numbers}
use Rattle.slub_law_rounds.proofs.Runs.{on_board}
use Rattle.slub_law_rounds.proofs.Times.{one_where}
use Rattle.slub_law_replay.specs.declared.way.Way.{Way}
use Rattle.slub_law_replay.specs.Runs.{IsLawful, MachineState, RunsItems, machine_of}
use Rattle.slub_law_replay.proofs.Numbers.{IsBrief, front, items-brief}
use Rattle.slub_law_replay.proofs.Ready.{stands-first}
use Rattle.slub_law_replay.specs.Freed.{rounds_among}
use Rattle.slub_law_replay.proofs.Adding.{upto_none}
use Rattle.slub_law_replay.proofs.Balanced.{board_size, live_board, live_in}
use Rattle.slub_law_replay.proofs.Counted.{Counted, run-counted}
use Rattle.slub_law_replay.proofs.Tally.{sum_none, sum_one, sums_add, sums_same}

-- ---- the live caches

-- nothing is held of a cache that isn't live
none_held : (s : State) → IsCoherent s → (cache : ℕ) → cache_of s cache ≡ None → get_or s.live cache 0 ≡ 0
none_held s coherent cache dead = coherent.accounted cache ∙ sum_zero s.board (λ object held is. other held (held-cache s held (record { object = object; here = is }) coherent))
  where
    sum_zero : (board : List (Option Held)) → ((object : ℕ) (held : Held) → get_or board object None ≡ Some held → held_of cache (Some held) ≡ 0) → sum_by (held_of cache) board ≡ 0
    sum_zero [] none = refl
    sum_zero (None ∷ board) none = omega (arith, sum_by-cons (held_of cache) None board, sum_zero board (λ object held is. none (suc object) held is))
    sum_zero (Some held ∷ board) none = omega (arith, sum_by-cons (held_of cache) (Some held) board, none 0 held refl, sum_zero board (λ object held is. none (suc object) held is))

    by : (b : Bool) (held : Held) → eqb held.cache cache ≡ b → IsSome (cache_of s held.cache) → held_of cache (Some held) ≡ 0
    by true held is some =
        let same : held.cache ≡ cache = grind (arith, nat_tests, is) in
        absurd (let never : ⊥ = grind (arith, dead, subst (λ cache. IsSome (cache_of s cache)) same some) in never)
    by false held is some = rw is refl

    other : (held : Held) → IsSome (cache_of s held.cache) → held_of cache (Some held) ≡ 0
    other held some = by (eqb held.cache cache) held refl some

-- the live count of each row
row_live : (s : State) → IsCoherent s → (cache : ℕ) (caches : List ℕ) (found : Option Cache) → cache_of s cache ≡ found
    → counted (λ counts. counts.live) s (cache ∷ caches) ≡ get_or s.live cache 0 + counted (λ counts. counts.live) s caches
row_live s coherent cache caches None is =
    let bare : counted (λ counts. counts.live) s (cache ∷ caches) ≡ counted (λ counts. counts.live) s caches = rw is refl in
    omega (arith, bare, none_held s coherent cache is)
row_live s coherent cache caches (Some live) is =
    let more : counted (λ counts. counts.live) s (cache ∷ caches) ≡ sum_by (λ (row : InfoRow). row.counts.live) (row_with s cache live ∷ filter_map (row_of s) caches) = rw is refl in
    more ∙ sum_by-cons (λ (row : InfoRow). row.counts.live) (row_with s cache live) (filter_map (row_of s) caches) ∙ (let e : sum_by (held_of cache) s.board + counted (λ counts. counts.live) s caches ≡ get_or s.live cache 0 + counted (λ counts. counts.live) s caches = omega (arith, coherent.accounted cache) in e)

rows_live : (s : State) → IsCoherent s → (caches : List ℕ) → counted (λ counts. counts.live) s caches ≡ sum_by (λ cache. get_or s.live cache 0) caches
rows_live s coherent [] = refl
rows_live s coherent (cache ∷ caches) =
    omega (arith, row_live s coherent cache caches (cache_of s cache) refl, rows_live s coherent caches, sum_by-cons (λ cache. get_or s.live cache 0) cache caches)

-- a sum over a list is one over the numbers, each as often as it stands there
sum_times : (f : ℕ → ℕ) → ((x : ℕ) → 32 ≤ x → f x ≡ 0) → (xs : List ℕ) → sum_by f xs ≡ sum_by (λ x. times x xs * f x) cache_numbers
unfolding cache_numbers
sum_times f past [] = sym (sums_same (λ x. times x [] * f x) (λ x. 0) (range_with_len 0 32) (λ x. (let e : 0 * f x ≡ 0 = omega arith in e)) ∙ sum_none (range_with_len 0 32))
sum_times f past (y ∷ ys) =
    let rest = sum_times f past ys in
    let own = sum_one f y 0 32 (omega arith) (λ beyond. past y beyond) in
    let form = sums_same (λ x. times x (y ∷ ys) * f x) (λ x. cond (eqb y x) (f x) 0 + times x ys * f x) (range_with_len 0 32) (λ x. each (eqb y x) x (sum_by-cons (λ z. cond (eqb z x) 1 0) y ys)) in
    omega (arith, rest, own, form, sums_add (λ x. cond (eqb y x) (f x) 0) (λ x. times x ys * f x) (range_with_len 0 32), sum_by-cons f y ys)
  where
    each : (b : Bool) (x : ℕ) → times x (y ∷ ys) ≡ cond b 1 0 + times x ys → times x (y ∷ ys) * f x ≡ cond b (f x) 0 + times x ys * f x
    each true x split = rw split (grind arith)
    each false x split = rw split (grind arith)

ages_live : (s : State) → IsCoherent s → sum_by (λ cache. get_or s.live cache 0) s.table.ages ≡ live_in s
ages_live s coherent =
    sum_times (λ cache. get_or s.live cache 0) (λ cache past. get_or_past s.live cache 0 (omega (arith, coherent.shaped.live, past))) s.table.ages
    ∙ sums_same (λ cache. times cache s.table.ages * get_or s.live cache 0) (λ cache. get_or s.live cache 0) cache_numbers (λ cache. one cache (cache_of s cache) refl (coherent.shaped.table.aged cache))
    ∙ sum_numbers (λ (count : ℕ). count) 0 s.live coherent.shaped.live
  where
    one : (cache : ℕ) (found : Option Cache) → cache_of s cache ≡ found → times cache s.table.ages ≡ cond (is_some (cache_of s cache)) 1 0 → times cache s.table.ages * get_or s.live cache 0 ≡ get_or s.live cache 0
    one cache None is often = rw (none_held s coherent cache is) (omega arith)
    one cache (Some live) is often =
        let once : times cache s.table.ages ≡ 1 = often ∙ rw is refl in
        rw once (omega arith)

live_is : (s : State) → IsCoherent s → over_caches (λ counts. counts.live) s ≡ live_in s
live_is s coherent = reversed_rows (λ counts. counts.live) s s.table.ages ∙ rows_live s coherent s.table.ages ∙ ages_live s coherent

-- ---- the whole

-- no number has an object at the opening
pub opened_bare : (trace : Trace) (object : ℕ) → on_board object (opening_of trace) ≡ 0
opened_bare trace object = ap (λ (x : Option Held). one_where (is_some x)) (get_or-replicate_any (trace.objects + 1) object None)

pub opened_none : (trace : Trace) → board_size (opening_of trace) ≡ 0
opened_none trace = upto_none (λ object. on_board object (opening_of trace)) (length (opening_of trace).board) (λ object below. opened_bare trace object)

-- the machine is coherent after items
run_coherent : (way : Way) (m : MachineState) (trace : Trace) (items : List Item) (dones : List Done) (after : MachineState) → IsCoherent m.lists → RunsItems way m trace items dones after → IsCoherent after.lists
run_coherent way m trace [] [] after coherent run = subst (λ (t : MachineState). IsCoherent t.lists) (sym run) coherent
run_coherent way m trace [] (dn ∷ dones) after coherent run = absurd run
run_coherent way m trace (it ∷ items) [] after coherent run = absurd run
run_coherent way m trace (it ∷ items) (dn ∷ dones) after coherent run = run_coherent way run.0 trace items dones after run.2 run.3

-- what the first items of a trace give and free
pub first_counted : (way : Way) (trace : Trace) (some : ℕ) (dones : List Done) (m : MachineState) → IsSound trace → IsCoherent (opening_of trace) → RunsItems way (machine_of trace) trace (take some trace.items) dones m
    → Counted (opening_of trace) (all_given dones) (all_freed dones) (rounds_among (take some trace.items) dones) (flat_map objects_in (take some trace.items)) m.lists
first_counted way trace some dones m sound coherent run =
    run-counted way (machine_of trace) trace (take some trace.items) dones m (stands-first trace some sound coherent) (front (IsSoundItem trace) some trace.items sound.items) (front IsBrief some trace.items (items-brief trace sound)) run

pub given_is_live : (way : Way) (trace : Trace) (journal : Journal) → IsSound trace → IsLawful way trace journal → IfSome journal.total (λ total. total.given ≡ total.freed + total.live)
given_is_live way trace journal sound lawful = by journal.total lawful.total
  where
    by : (found : Option Total) → MatchOption found ⊤ (λ total. IsTotal lawful.machine.lists journal.items total × (length journal.items ≡ length trace.items)) → IfSome found (λ total. total.given ≡ total.freed + total.live)
    by None nothing = tt
    by (Some total) is =
        let sums = first_counted way trace (length journal.items) journal.items lawful.machine sound lawful.coherent lawful.run in
        let coherent = run_coherent way (machine_of trace) trace (take (length journal.items) trace.items) journal.items lawful.machine lawful.coherent lawful.run in
        omega (arith, sums.balanced, opened_none trace, live_is lawful.machine.lists coherent, live_board lawful.machine.lists coherent, is.0.given, is.0.freed, is.0.live)
