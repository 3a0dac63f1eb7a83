-- Every history of a pool keeps its frames.
use Rattle.std.proofs.Common.{ℕ, ◌+◌, ◌-◌, ◌^◌, ◌<◌, ◌≤◌, ◌≡◌, ◌⊎◌, inl, inr, ltb, leb, ◌||◌, List, [], ◌∷◌, ◌++◌, get_or, set, length, replicate, cond, eqb, add-zero, zero-add, slice_index, Option, None, Some, All, refl, sym, ◌∙◌, ap, subst, arith, Contains, min}
use Rattle.std.specs.List.{range_with_len, count_by}
use Rattle.std.proofs.lemmas.List.Sums.{sum_by-cons}
use Rattle.std.specs.List.Sorted.{IsStrictlyIncreasing}
use Rattle.std.proofs.lemmas.Bool.{cases_lt, cases_eq, eq-eqb, ne_eqb, lt-ltb, le-ltb, le-leb, lt-leb, or_left, or_right, or_from}
use Rattle.std.proofs.lemmas.List.{append-nil, length-set, get_or-set_same, get_or-set_other, get_or-replicate, get_or_past}
use Rattle.std.proofs.lemmas.List.Elements.{All-append, All-filter, All-contains, Contains-append_left, Contains-append_right, Contains-get_or}
use Rattle.slub_page_pool.specs.FreeFrames.{FreeFrames, opening}
use Rattle.slub_page_pool.specs.Block.{Takes, TakesOrNotes, CanPut, Puts, less_run, with_run}
use Rattle.slub_common.specs.Times.{times}
use Rattle.slub_page_pool.specs.History.{Act, took, noted, returned, Does, Reaches, out_with, out_after, frames_out, IsPartition, KeepsFrames, ReopensWhenAllBack, CountsDryTakes, is_dry}
use Rattle.slub_common.proofs.Lists.{from_range_with_len, Contains-range_with_len, same_members, IsStrictlyIncreasing-range_with_len}
use Rattle.slub_page_pool.proofs.FreeRuns.{IsTaken-free, IsStrictlyIncreasing-less_run, IsStrictlyIncreasing-with_run, below, above}
use Rattle.slub_page_pool.proofs.MarkedFrames.{same_pool}
use Rattle.slub_common.proofs.Times.{times-append, times-filter_pass, times-filter_fail, times-rising, times-within, times-below, times-above, Contains-times}

-- the frames outside a run stand in the list without it as often
times-less_run_outside : (g : ℕ) (xs : List ℕ) (frame order : ℕ) → (g < frame) ⊎ (frame + 2 ^ order ≤ g) → times g (less_run xs frame order) ≡ times g xs
times-less_run_outside g xs frame order (inl before) =
    times-filter_pass g (λ x. ltb x frame || leb (frame + 2 ^ order) x) xs (or_left (ltb g frame) (leb (frame + 2 ^ order) g) (lt-ltb g frame before))
times-less_run_outside g xs frame order (inr after) =
    times-filter_pass g (λ x. ltb x frame || leb (frame + 2 ^ order) x) xs (or_right (ltb g frame) (leb (frame + 2 ^ order) g) (le-leb (frame + 2 ^ order) g after))

-- and those of the run don't stand there
times-less_run_within : (g : ℕ) (xs : List ℕ) (frame order : ℕ) → frame ≤ g → g < frame + 2 ^ order → times g (less_run xs frame order) ≡ 0
times-less_run_within g xs frame order low high =
    times-filter_fail g (λ x. ltb x frame || leb (frame + 2 ^ order) x) xs (or_from (ltb g frame) (leb (frame + 2 ^ order) g) (le-ltb g frame low) (lt-leb (frame + 2 ^ order) g high))

-- the parts of the free frames with a run
times-with_run : (g : ℕ) (free : List ℕ) (frame order : ℕ) → times g (with_run free frame order) ≡ times g (below free frame) + times g (range_with_len frame (2 ^ order)) + times g (above free (frame + 2 ^ order))
times-with_run g free frame order =
    times-append g (below free frame ++ range_with_len frame (2 ^ order)) (above free (frame + 2 ^ order)) ∙ ap (λ n. n + times g (above free (frame + 2 ^ order))) (times-append g (below free frame) (range_with_len frame (2 ^ order)))

-- the frames outside a run that comes back stand among the free ones as often
times-with_run_outside : (g : ℕ) (free : List ℕ) (frame order : ℕ) → (g < frame) ⊎ (frame + 2 ^ order ≤ g) → times g (with_run free frame order) ≡ times g free
times-with_run_outside g free frame order (inl before) =
    omega (
      arith,
      times-with_run g free frame order,
      times-filter_pass g (λ x. ltb x frame) free (lt-ltb g frame before),
      times-below frame (2 ^ order) g before,
      times-filter_fail g (λ x. leb (frame + 2 ^ order) x) free (lt-leb (frame + 2 ^ order) g (omega arith)),
    )
times-with_run_outside g free frame order (inr after) =
    omega (
      arith,
      times-with_run g free frame order,
      times-filter_fail g (λ x. ltb x frame) free (le-ltb g frame (omega arith)),
      times-above frame (2 ^ order) g after,
      times-filter_pass g (λ x. leb (frame + 2 ^ order) x) free (le-leb (frame + 2 ^ order) g after),
    )

-- and those of the run once
times-with_run_within : (g : ℕ) (free : List ℕ) (frame order : ℕ) → frame ≤ g → g < frame + 2 ^ order → times g (with_run free frame order) ≡ 1
times-with_run_within g free frame order low high =
    omega (
      arith,
      times-with_run g free frame order,
      times-filter_fail g (λ x. ltb x frame) free (le-ltb g frame low),
      times-within frame (2 ^ order) g low high,
      times-filter_fail g (λ x. leb (frame + 2 ^ order) x) free (lt-leb (frame + 2 ^ order) g high),
    )

-- what holds of a pool and the frames out after any calls
record Kept (frames : ℕ) (pool : FreeFrames) (out : List ℕ) : Type 0 where
  many : pool.frames ≡ frames
  rising : IsStrictlyIncreasing pool.free
  parted : IsPartition frames pool.free out

-- frames from 1 to frames - 1
abbrev Usable : ℕ → List ℕ → Type 0
Usable frames xs = All (λ g. (1 ≤ g) × (g < frames)) xs

-- lists in which each frame stands as often keep the partition
same_times : {frames : ℕ} {free out : List ℕ} → IsPartition frames free out → (new back : List ℕ) → ((g : ℕ) → 1 ≤ g → g < frames → times g (new ++ back) ≡ times g (free ++ out))
    → Usable frames (new ++ back) → IsPartition frames new back
same_times {frames} {free} {out} parted new back same no_other = record {
  once = λ g positive inside. same g positive inside ∙ parted.once g positive inside;
  no_other = no_other;
}

-- the numbers of a range are in its bounds
All-range_with_len : (frames a n : ℕ) → 1 ≤ a → a + n ≤ frames → Usable frames (range_with_len a n)
All-range_with_len frames a n positive inside k d short =
    let bounds = from_range_with_len a n (get_or (range_with_len a n) k d) (Contains-get_or (range_with_len a n) k d short) in
    (omega (arith, bounds.0), omega (arith, bounds.1))

-- each part of a list that all pass is one that all pass
All-append_left : (frames : ℕ) (xs ys : List ℕ) → Usable frames (xs ++ ys) → Usable frames xs
All-append_left frames xs ys all k d short =
    All-contains (λ g. (1 ≤ g) × (g < frames)) (xs ++ ys) (get_or xs k d) all (Contains-append_left xs ys (get_or xs k d) (Contains-get_or xs k d short))

All-append_right : (frames : ℕ) (xs ys : List ℕ) → Usable frames (xs ++ ys) → Usable frames ys
All-append_right frames xs ys all k d short =
    All-contains (λ g. (1 ≤ g) × (g < frames)) (xs ++ ys) (get_or ys k d) all (Contains-append_right xs ys (get_or ys k d) (Contains-get_or ys k d short))

-- a run moves out
out_parted : {frames : ℕ} {free out : List ℕ} → IsPartition frames free out → IsStrictlyIncreasing free → (frame order : ℕ) → ((g : ℕ) → frame ≤ g → g < frame + 2 ^ order → Contains free g)
    → IsPartition frames (less_run free frame order) (range_with_len frame (2 ^ order) ++ out)
out_parted {frames} {free} {out} parted rising frame order all_free =
    let P : ℕ → Type 0 = λ g. (1 ≤ g) × (g < frames) in
    let free_usable : Usable frames free = All-append_left frames free out parted.no_other in
    same_times parted (less_run free frame order) (range_with_len frame (2 ^ order) ++ out)
    (λ g positive inside.
    let new = times-append g (less_run free frame order) (range_with_len frame (2 ^ order) ++ out) in
    let moved = times-append g (range_with_len frame (2 ^ order)) out in
    let old = times-append g free out in
    elim (cases_lt g frame) [
      | inl before ↦ omega (arith, new, moved, old, times-less_run_outside g free frame order (inl before), times-below frame (2 ^ order) g before)
      | inr low ↦ elim (cases_lt g (frame + 2 ^ order)) [
        | inl high ↦ omega (arith, new, moved, old, times-less_run_within g free frame order low high, times-within frame (2 ^ order) g low high, times-rising g free rising (all_free g low high))
        | inr after ↦ omega (arith, new, moved, old, times-less_run_outside g free frame order (inr after), times-above frame (2 ^ order) g after)
      ]
    ])
    (All-append P (less_run free frame order) (range_with_len frame (2 ^ order) ++ out) (All-filter (λ g. ltb g frame || leb (frame + 2 ^ order) g) P free free_usable)
    (All-append P (range_with_len frame (2 ^ order)) out
    (λ k d short.
    let g = get_or (range_with_len frame (2 ^ order)) k d in
    let bounds = from_range_with_len frame (2 ^ order) g (Contains-get_or (range_with_len frame (2 ^ order)) k d short) in
    All-contains P free g free_usable (all_free g bounds.0 bounds.1))
    (All-append_right frames free out parted.no_other)))

-- a run comes back
back_parted : {frames : ℕ} {free out : List ℕ} → IsPartition frames free out → (frame order : ℕ) → 1 ≤ frame → frame + 2 ^ order ≤ frames → ((g : ℕ) → frame ≤ g → g < frame + 2 ^ order → Contains free g → ⊥)
    → IsPartition frames (with_run free frame order) (less_run out frame order)
back_parted {frames} {free} {out} parted frame order positive inside none_free =
    let P : ℕ → Type 0 = λ g. (1 ≤ g) × (g < frames) in
    let free_usable : Usable frames free = All-append_left frames free out parted.no_other in
    same_times parted (with_run free frame order) (less_run out frame order)
    (λ g above_ below_.
    let new = times-append g (with_run free frame order) (less_run out frame order) in
    let old = times-append g free out in
    elim (cases_lt g frame) [
      | inl before ↦ omega (arith, new, old, times-with_run_outside g free frame order (inl before), times-less_run_outside g out frame order (inl before))
      | inr low ↦ elim (cases_lt g (frame + 2 ^ order)) [
        | inl high ↦ omega (arith, new, parted.once g above_ below_, times-with_run_within g free frame order low high, times-less_run_within g out frame order low high)
        | inr after ↦ omega (arith, new, old, times-with_run_outside g free frame order (inr after), times-less_run_outside g out frame order (inr after))
      ]
    ])
    (All-append P (with_run free frame order) (less_run out frame order)
    (All-append P (below free frame ++ range_with_len frame (2 ^ order)) (above free (frame + 2 ^ order))
    (All-append P (below free frame) (range_with_len frame (2 ^ order)) (All-filter (λ x. ltb x frame) P free free_usable) (All-range_with_len frames frame (2 ^ order) positive inside))
    (All-filter (λ x. leb (frame + 2 ^ order) x) P free free_usable))
    (All-filter (λ g. ltb g frame || leb (frame + 2 ^ order) g) P out (All-append_right frames free out parted.no_other)))

-- a take keeps it
kept_take : {frames : ℕ} {old new : FreeFrames} {out : List ℕ} → Kept frames old out → (order : ℕ) (answer : Option ℕ) → Takes old order answer new → Kept frames new (out_with out order answer)
kept_take {frames} {old} {new} {out} kept order None (same, none) = subst (λ p. Kept frames p out) (sym same) kept
kept_take {frames} {old} {new} {out} kept order (Some frame) (taken, is) =
    subst (λ p. Kept frames p (range_with_len frame (2 ^ order) ++ out)) (sym is) record {
      many = kept.many;
      rising = IsStrictlyIncreasing-less_run old.free frame order kept.rising;
      parted = out_parted kept.parted kept.rising frame order (IsTaken-free taken);
    }

-- a noted take keeps it
kept_noted : {frames : ℕ} {old new : FreeFrames} {out : List ℕ} → Kept frames old out → (order : ℕ) (answer : Option ℕ) → TakesOrNotes old order answer new → Kept frames new (out_with out order answer)
kept_noted {frames} {old} {new} {out} kept order None (is, none) =
    subst (λ p. Kept frames p out) (sym is) record { many = kept.many; rising = kept.rising; parted = kept.parted }
kept_noted {frames} {old} {new} {out} kept order (Some frame) takes = kept_take kept order (Some frame) takes

-- a put keeps it
kept_put : {frames : ℕ} {old new : FreeFrames} {out : List ℕ} → Kept frames old out → (frame order : ℕ) → CanPut old frame order → Puts old frame order new → Kept frames new (less_run out frame order)
kept_put {frames} {old} {new} {out} kept frame order can is =
    subst (λ p. Kept frames p (less_run out frame order)) (sym is) record {
      many = kept.many;
      rising = IsStrictlyIncreasing-with_run old.free frame order kept.rising;
      parted = back_parted kept.parted frame order can.positive (omega (arith, can.inside, kept.many)) can.none_free;
    }

-- one call keeps it
kept_once : {frames : ℕ} {old new : FreeFrames} {out : List ℕ} → Kept frames old out → (act : Act) → Does old act new → Kept frames new (out_after out act)
kept_once kept (took order answer) does = kept_take kept order answer does.1
kept_once kept (noted order answer) does = kept_noted kept order answer does.2
kept_once kept (returned frame order) does = kept_put kept frame order does.0 does.1

-- so do calls one after another
kept_along : {frames : ℕ} (acts : List Act) {old new : FreeFrames} {out : List ℕ} → Kept frames old out → Reaches old acts new → Kept frames new (frames_out out acts)
kept_along {frames} [] {old} {new} {out} kept same = subst (λ p. Kept frames p out) (sym same) kept
kept_along (act ∷ acts) kept (next, does, rest) = kept_along acts (kept_once kept act does) rest

-- the free frames of a new pool
All-opening : (frames : ℕ) → Usable frames (range_with_len 1 (frames - 1))
All-opening frames k d short =
    let bounds = from_range_with_len 1 (frames - 1) (get_or (range_with_len 1 (frames - 1)) k d) (Contains-get_or (range_with_len 1 (frames - 1)) k d short) in
    (bounds.0, omega (arith, bounds.0, bounds.1))

-- a new pool has nothing out
kept_opening : (frames : ℕ) → Kept frames (opening frames) []
kept_opening frames = record {
  many = refl;
  rising = IsStrictlyIncreasing-range_with_len 1 (frames - 1);
  parted = record {
    once = λ g positive inside. rw append-nil (times-within 1 (frames - 1) g positive (omega arith));
    no_other = rw append-nil (All-opening frames);
  };
}

-- every history keeps the frames
pub history_keeps_frames : (frames : ℕ) → KeepsFrames frames
history_keeps_frames frames acts pool reaches = (kept_along acts (kept_opening frames) reaches).parted

-- where every frame is free, they are those of a new pool
all_free_again : (frames : ℕ) (free : List ℕ) → IsStrictlyIncreasing free → IsPartition frames free [] → free ≡ range_with_len 1 (frames - 1)
all_free_again frames free rising parted =
    same_members free (range_with_len 1 (frames - 1)) rising (IsStrictlyIncreasing-range_with_len 1 (frames - 1))
    (λ g found.
    let usable = All-contains (λ x. (1 ≤ x) × (x < frames)) (free ++ []) g parted.no_other (Contains-append_left free [] g found) in
    Contains-range_with_len 1 (frames - 1) g usable.0 (omega (arith, usable.1)))
    (λ g found.
    let bounds = from_range_with_len 1 (frames - 1) g found in
    Contains-times g free (omega (arith, parted.once g bounds.0 (omega (arith, bounds.0, bounds.1)), times-append g free [])))

-- a history after which nothing is out leads back to the new pool, but for the counts
pub history_reopens : (frames : ℕ) → ReopensWhenAllBack frames
history_reopens frames acts pool reaches none_out =
    let kept = kept_along acts (kept_opening frames) reaches in
    same_pool kept.many (all_free_again frames pool.free kept.rising (subst (λ out. IsPartition frames pool.free out) none_out kept.parted)) refl

-- what a call leaves of the counts
record Counted (old new : FreeFrames) (order more : ℕ) : Type 0 where
  orders : length new.dry ≡ 11
  count : slice_index new.dry order ≡ slice_index old.dry order + more

-- a call that leaves the counts
counted_same : {old new : FreeFrames} → length old.dry ≡ 11 → (order : ℕ) → new.dry ≡ old.dry → Counted old new order 0
counted_same {old} {new} orders order same = record {
  orders = ap length same ∙ orders;
  count = ap (λ d. slice_index d order) same ∙ sym (add-zero (slice_index old.dry order));
}

-- a take leaves the counts
counted_take : {old new : FreeFrames} → length old.dry ≡ 11 → (order asked : ℕ) (answer : Option ℕ) → Takes old asked answer new → Counted old new order 0
counted_take orders order asked None (same, none) = counted_same orders order (ap (λ (p : FreeFrames). p.dry) same)
counted_take orders order asked (Some frame) (taken, is) = counted_same orders order (ap (λ (p : FreeFrames). p.dry) is)

-- a noted take that finds no block raises the count of its order
counted_note : {old new : FreeFrames} → length old.dry ≡ 11 → (order asked : ℕ) → asked ≤ 10 → new.dry ≡ set old.dry asked (slice_index old.dry asked + 1) → Counted old new order (cond (eqb asked order) 1 0)
counted_note {old} {new} orders order asked known is =
    let short : asked < length old.dry = omega arith in
    record {
      orders = ap length is ∙ length-set old.dry asked (slice_index old.dry asked + 1) ∙ orders;
      count = elim (cases_eq asked order) [
        | inl same ↦ rw (eq-eqb asked order same) (ap (λ d. slice_index d order) is ∙ rw (← same) (get_or-set_same old.dry asked (slice_index old.dry asked + 1) 0 short))
        | inr other ↦ rw (ne_eqb asked order other) (ap (λ d. slice_index d order) is ∙ get_or-set_other old.dry asked order (slice_index old.dry asked + 1) 0 (λ same. other (sym same)) ∙ sym (add-zero (slice_index old.dry order)))
      ];
    }

-- one call raises a count where it is a dry take of the order
counted_once : {old new : FreeFrames} → length old.dry ≡ 11 → (order : ℕ) (act : Act) → Does old act new → Counted old new order (cond (is_dry order act) 1 0)
counted_once orders order (took asked answer) does = counted_take orders order asked answer does.1
counted_once {old} orders order (noted asked None) does =
    let below : min (slice_index old.dry asked + 1) (2 ^ 64 - 1) ≡ slice_index old.dry asked + 1 = omega (arith, does.1) in
    counted_note orders order asked does.0 (ap (λ (p : FreeFrames). p.dry) does.2.0 ∙ ap (set old.dry asked) below)
counted_once orders order (noted asked (Some frame)) does = counted_take orders order asked (Some frame) does.2
counted_once orders order (returned frame asked) does = counted_same orders order (ap (λ (p : FreeFrames). p.dry) does.1)

-- calls one after another raise it by as many
counted_along : (acts : List Act) (old new : FreeFrames) → length old.dry ≡ 11 → (order : ℕ) → Reaches old acts new → slice_index new.dry order ≡ slice_index old.dry order + count_by (is_dry order) acts
counted_along [] old new orders order same = ap (λ (p : FreeFrames). slice_index p.dry order) same ∙ sym (add-zero (slice_index old.dry order))
counted_along (act ∷ acts) old new orders order (next, does, rest) =
    let one = counted_once orders order act does in
    let later = counted_along acts next new one.orders order rest in
    omega (arith, one.count, later, sum_by-cons (λ (a : Act). cond (is_dry order a) 1 0) act acts)

-- a new pool's counts are 0
none_yet : (order : ℕ) → slice_index (replicate 11 0) order ≡ 0
none_yet order =
    elim (cases_lt order 11) [
      | inl known ↦ get_or-replicate 11 order 0 0 known
      | inr past ↦ get_or_past (replicate 11 0) order 0 past
    ]

-- every history counts its dry takes
pub history_counts : (frames : ℕ) → CountsDryTakes frames
history_counts frames acts pool order reaches =
    counted_along acts (opening frames) pool refl order reaches ∙ rw (none_yet order, zero-add) refl
