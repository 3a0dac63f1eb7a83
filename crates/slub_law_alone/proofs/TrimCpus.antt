-- A trim by a worker alone, up to the node list: one CPU after the other is emptied of the cache.
use Rattle.std.proofs.Common.{◌≡◌, ℕ, zero, suc, ◌+◌, ◌<◌, ◌≤◌, ◌⊎◌, cond, Bool, true, false, length, fold, inl, inr, refl, ap, sym, ◌∙◌, subst, arith}
use Rattle.std.specs.Prelude.{is_some, nat_lt}
use Rattle.std.specs.List.{range_with_len}
use Rattle.std.proofs.lemmas.Bool.{cases_eq, le-ltb, lt-ltb}
use Rattle.slub_words.specs.declared.cpu.CpuWord.{CpuWord}
use Rattle.slub_words.specs.declared.slab.SlabWord.{SlabWord}
use Rattle.slub_lists.specs.State.{State}
use Rattle.slub_lists.specs.Alloc.{lists_of, no_lists}
use Rattle.slub_lists.specs.Coherent.{IsConsistent}
use Rattle.slub_lists.specs.Leaving.{LeavesSlabs}
use Rattle.slub_lists.specs.Shrink.{flushed, min_partial_of, moved_partial, put_away, slabs_of}
use Rattle.slub_lists.specs.Shrinking.{KeepsChecked}
use Rattle.slub_lists.proofs.Flushing.{flushed-bare, flushed-others, rest-both, rest-flushed, rest-put_away}
use Rattle.slub_lists.proofs.Kept.{consistent-of}
use Rattle.slub_lists.proofs.Leaving.{leaves-both}
use Rattle.slub_core.specs.declared.spot.Spot.TheVariants.{InOffline, InTrim}
use Rattle.slub_core.specs.declared.spot.Sweep.TheVariants.{Trimming}
use Rattle.slub_core.specs.declared.spot.OfflineSpot.TheVariants.{LoadCurrent, TakeCurrent}
use Rattle.slub_core.specs.declared.spot.TrimSpot.TheVariants.{LockTrim}
use Rattle.slub_core.specs.Setup.{Setup, cpu_number}
use Rattle.slub_core.specs.World.{World}
use Rattle.slub_core.specs.Local.{Local, at, goes}
use Rattle.slub_core.specs.Offline.{trimmed_cpu}
use Rattle.slub_core.specs.Run.{System}
use Rattle.slub_law_opening.specs.Opening.{Beside, setup_of, tid_of}
use Rattle.slub_law_alone.specs.Alone.{alone}
use Rattle.slub_law_alone.specs.Away.{ComesTo, MovesList, PutsAway, RestsBut, detached, has_moved, told_of_current}
use Rattle.slub_law_alone.proofs.FlushLists.{flushed_elsewhere, one_grown}
use Rattle.slub_law_alone.proofs.ListSwept.{list_moved}
use Rattle.slub_law_alone.proofs.PutAway.{put_away_alone}
use Rattle.slub_law_alone.proofs.SweepBegins.{then_comes}
use Rattle.slub_law_alone.proofs.Sweeping as sweeping
use Rattle.slub_law_alone.proofs.TrimLists.{away_counted, partial_counted}

-- the ids grow at the words of these CPUs where a slab is current
pub record HasGrownFrom (s : State) (k c last : ℕ) (b d : Beside) : Type 0 where
  pub same : d ≡ record b { tids = d.tids }
  pub here : (j : ℕ) → c ≤ j → j ≤ last → cpu_number k j < length b.tids → tid_of d (cpu_number k j) ≡ tid_of b (cpu_number k j) + cond (is_some (lists_of s k j).current) b.step 0
  pub away : (n : ℕ) → ((j : ℕ) → c ≤ j → j ≤ last → n ≡ cpu_number k j → ⊥) → tid_of d n ≡ tid_of b n

-- ---- one CPU

module _ (opening : World) (x : ℕ) (s : State) (b : Beside) (system : System) (l : Local) (is : RestsBut opening s b system x (at l (InOffline LoadCurrent Trimming))) where
  abbrev k : ℕ
  k = l.cache

  abbrev away : PutsAway opening s b system x l Trimming
  away = put_away_alone opening s b system x l Trimming is

  abbrev t1 : State
  t1 = put_away s (min_partial_of s k) k l.cpu

  abbrev pub d1 : Beside
  d1 = detached s b k l.cpu

  abbrev l1 : Local
  l1 = record l { cpu_word = away.cpu_word; slab_word = away.slab_word; count = l.count + told_of_current s Trimming k l.cpu }

  abbrev sys1 : System
  sys1 = alone (setup_of s b) x (suc away.comes.turns) system

  abbrev moves : MovesList opening t1 d1 sys1 x l1 Trimming
  moves = list_moved opening t1 d1 sys1 x l1 Trimming away.comes.rests

  abbrev pub t2 : State
  t2 = flushed (min_partial_of s k) k s l.cpu

  min_same : min_partial_of t1 k ≡ min_partial_of s k
  min_same = ap (λ table. min_partial_of (record s { table = table }) k) (rest-put_away s (min_partial_of s k) k l.cpu).held.table

  t2_is : moved_partial t1 (min_partial_of t1 k) k l.cpu ≡ t2
  t2_is = ap (λ min. moved_partial t1 min k l.cpu) min_same

  abbrev pub moved : Local
  moved = has_moved t1 Trimming l1 moves.slab_word

  pub cpu : l.cpu < s.cpus
  cpu = subst (λ (m : Setup). l.cpu < m.cpus) is.rest.rests.rests.setup (sweeping.cpu opening s b system x l (InOffline LoadCurrent Trimming) refl is)

  pub inside : k < 32
  inside = (sweeping.plain opening s b system x l (InOffline LoadCurrent Trimming) refl is).0

  pub consistent : IsConsistent s
  consistent = sweeping.consistent opening s b system x l (InOffline LoadCurrent Trimming) refl is

  cpu1 : l.cpu < t1.cpus
  cpu1 = let e = (rest-put_away s (min_partial_of s k) k l.cpu).held.cpus in omega (arith, e, cpu)

  consistent1 : IsConsistent t1
  consistent1 = consistent-of t1 away.comes.rests.rest.lists

  pub counted : moved.count + slabs_of t2 k ≡ l.count + slabs_of s k
  counted =
      let a = (away_counted s k l.cpu consistent inside cpu).0 in
      let c = (partial_counted t1 k l.cpu consistent1 cpu1).0 in
      let e = ap (λ t. slabs_of t k) t2_is in
      omega (arith, a, c, e)

  pub leaves : LeavesSlabs s k t2
  leaves = leaves-both s t1 t2 k (away_counted s k l.cpu consistent inside cpu).1 (subst (LeavesSlabs t1 k) t2_is (partial_counted t1 k l.cpu consistent1 cpu1).1)

  abbrev by : Bool → Local
  by more = record moved { cpu = cond more (l.cpu + 1) l.cpu; spot = cond more (InOffline LoadCurrent Trimming) (InTrim LockTrim) }

  -- it goes on to the next, or to the node list
  pub goes_to : (more : Bool) → nat_lt (l.cpu + 1) s.cpus ≡ more → ComesTo opening s b system x t2 d1 (by more)
  goes_to more is_more = then_comes opening s t1 t2 b d1 d1 system x (at l1 (InOffline TakeCurrent Trimming)) (by more) away.comes
      (subst (λ t. ComesTo opening t1 d1 sys1 x t d1 (by more)) t2_is (moves.goes_on (by more) (ap (λ m. trimmed_cpu m moved) away.comes.setup ∙ ap (λ more. goes (by more)) is_more)))

-- ---- all of them

-- the CPUs that are left are emptied, and the worker comes to the node list
pub record CpusEnd (opening : World) (s : State) (b : Beside) (system : System) (x : ℕ) (l : Local) (min r : ℕ) : Type 0 where
  pub d : Beside
  pub cpu : ℕ
  pub cpu_word : CpuWord
  pub slab_word : SlabWord
  pub count : ℕ
  pub comes : ComesTo opening s b system x (fold (flushed min l.cache) s (range_with_len l.cpu (suc r))) d (record l { cpu = cpu; cpu_word = cpu_word; slab_word = slab_word; count = count; spot = InTrim LockTrim })
  pub counted : count + slabs_of (fold (flushed min l.cache) s (range_with_len l.cpu (suc r))) l.cache ≡ l.count + slabs_of s l.cache
  pub leaves : LeavesSlabs s l.cache (fold (flushed min l.cache) s (range_with_len l.cpu (suc r)))
  pub bare : (c : ℕ) → (lists_of s l.cache c ≡ no_lists) ⊎ ((l.cpu ≤ c) × (c ≤ l.cpu + r)) → lists_of (fold (flushed min l.cache) s (range_with_len l.cpu (suc r))) l.cache c ≡ no_lists
  pub keeps : KeepsChecked s (fold (flushed min l.cache) s (range_with_len l.cpu (suc r)))
  pub grown : HasGrownFrom s l.cache l.cpu (l.cpu + r) b d

-- what one flush leaves bare
bare_one : (s : State) (min k cpu : ℕ) → IsConsistent s → k < 32 → cpu < s.cpus → (c : ℕ) → (lists_of s k c ≡ no_lists) ⊎ (c ≡ cpu) → lists_of (flushed min k s cpu) k c ≡ no_lists
bare_one s min k cpu consistent inside below c (inl none) = elim (cases_eq c cpu) [
  | inl e ↦ subst (λ c. lists_of (flushed min k s cpu) k c ≡ no_lists) (sym e) (flushed-bare s min k cpu consistent.shaped inside below)
  | inr away ↦ flushed-others s min k cpu consistent.shaped inside below c away none
]
bare_one s min k cpu consistent inside below c (inr e) = subst (λ c. lists_of (flushed min k s cpu) k c ≡ no_lists) (sym e) (flushed-bare s min k cpu consistent.shaped inside below)

-- the first CPU, and then the others
module _ (opening : World) (x min r : ℕ) (s : State) (b : Beside) (system : System) (l : Local) (is_min : min_partial_of s l.cache ≡ min) (left : l.cpu + suc (suc r) ≡ s.cpus) (most : s.cpus ≤ 16) (is : RestsBut opening s b system x (at l (InOffline LoadCurrent Trimming))) where
  pub first : ComesTo opening s b system x (t2 opening x s b system l is) (d1 opening x s b system l is) (by opening x s b system l is true)
  first = goes_to opening x s b system l is true (lt-ltb (l.cpu + 1) s.cpus (omega (arith, left)))

  abbrev pub t : State
  t = t2 opening x s b system l is

  abbrev pub d : Beside
  d = d1 opening x s b system l is

  abbrev pub n : Local
  n = record (moved opening x s b system l is) { cpu = l.cpu + 1 }

  abbrev pub further : System
  further = alone (setup_of s b) x (suc first.turns) system

  keeps_one : KeepsChecked s t
  keeps_one = rest-flushed (min_partial_of s l.cache) l.cache s l.cpu

  pub next_min : min_partial_of t l.cache ≡ min
  next_min = ap (λ table. min_partial_of (record s { table = table }) l.cache) keeps_one.held.table ∙ is_min

  pub next_left : n.cpu + suc r ≡ t.cpus
  next_left = let e = keeps_one.held.cpus in omega (arith, left, e)

  pub next_most : t.cpus ≤ 16
  next_most = let e = keeps_one.held.cpus in omega (arith, most, e)

  abbrev all : ℕ → State
  all min = fold (flushed min l.cache) (flushed (min_partial_of s l.cache) l.cache s l.cpu) (range_with_len (l.cpu + 1) (suc r))

  pub then_others : CpusEnd opening t d further x n min r → CpusEnd opening s b system x l min (suc r)
  then_others rest = subst (λ q. CpusEnd opening s b system x l q (suc r)) is_min (record {
    d = rest_min.d;
    cpu = rest_min.cpu;
    cpu_word = rest_min.cpu_word;
    slab_word = rest_min.slab_word;
    count = rest_min.count;
    comes = then_comes opening s t (all (min_partial_of s l.cache)) b d rest_min.d system x (by opening x s b system l is true) _ first rest_min.comes;
    counted = (let a = rest_min.counted in let c = counted opening x s b system l is in omega (arith, a, c));
    leaves = leaves-both s t (all (min_partial_of s l.cache)) l.cache (leaves opening x s b system l is) rest_min.leaves;
    bare = λ c which. rest_min.bare c (either c which);
    keeps = rest-both s t (all (min_partial_of s l.cache)) keeps_one rest_min.keeps;
    grown = grown_both rest_min.grown;
  })
    where
      rest_min : CpusEnd opening t d further x n (min_partial_of s l.cache) r
      rest_min = subst (λ q. CpusEnd opening t d further x n q r) (sym is_min) rest

      either : (c : ℕ) → (lists_of s l.cache c ≡ no_lists) ⊎ ((l.cpu ≤ c) × (c ≤ l.cpu + suc r)) → (lists_of t l.cache c ≡ no_lists) ⊎ ((l.cpu + 1 ≤ c) × (c ≤ l.cpu + 1 + r))
      either c (inl none) = inl (bare_one s (min_partial_of s l.cache) l.cache l.cpu (consistent opening x s b system l is) (inside opening x s b system l is) (cpu opening x s b system l is) c (inl none))
      either c (inr between) = elim (cases_eq c l.cpu) [
        | inl e ↦ inl (bare_one s (min_partial_of s l.cache) l.cache l.cpu (consistent opening x s b system l is) (inside opening x s b system l is) (cpu opening x s b system l is) c (inr e))
        | inr away ↦ inr (omega (arith, between.0, between.1, away), omega (arith, between.0, between.1, away))
      ]

      last_same : l.cpu + 1 + r ≡ l.cpu + suc r
      last_same = omega arith

      grown_both : HasGrownFrom t l.cache (l.cpu + 1) (l.cpu + 1 + r) d rest_min.d → HasGrownFrom s l.cache l.cpu (l.cpu + suc r) b rest_min.d
      grown_both others =
          let one = one_grown s b l.cache l.cpu in
          record {
            same = others.same ∙ ap (λ (y : Beside). record y { tids = rest_min.d.tids }) one.same;
            here = λ j low high room. elim (cases_eq j l.cpu) [
              | inl e ↦ subst (λ j. tid_of rest_min.d (cpu_number l.cache j) ≡ tid_of b (cpu_number l.cache j) + cond (is_some (lists_of s l.cache j).current) b.step 0) (sym e)
                  (others.away (cpu_number l.cache l.cpu) (λ i past most at. absurd (omega (arith, at, past))) ∙ one.here (subst (λ j. cpu_number l.cache j < length b.tids) e room))
              | inr apart ↦ others.here j (omega (arith, low, apart)) (omega (arith, high)) (let e = one.sized in omega (arith, e, room))
                  ∙ (λ i. one.away (cpu_number l.cache j) (λ e. apart (omega (arith, e))) i + cond (is_some (flushed_elsewhere s (min_partial_of s l.cache) l.cache l.cpu j apart i).current) ((one.same i).step) 0)
            ];
            away = λ q none. others.away q (λ j past most at. none j (omega (arith, past)) (omega (arith, most)) at) ∙ one.away q (none l.cpu (omega arith) (omega arith));
          }

pub cpus_emptied : (opening : World) (x min : ℕ) (r : ℕ) (s : State) (b : Beside) (system : System) (l : Local) → min_partial_of s l.cache ≡ min → l.cpu + suc r ≡ s.cpus → s.cpus ≤ 16 → RestsBut opening s b system x (at l (InOffline LoadCurrent Trimming)) → CpusEnd opening s b system x l min r
cpus_emptied opening x min zero s b system l is_min left most is = subst (λ min. CpusEnd opening s b system x l min 0) is_min (record {
  d = d1 opening x s b system l is;
  cpu = l.cpu;
  cpu_word = (moved opening x s b system l is).cpu_word;
  slab_word = (moved opening x s b system l is).slab_word;
  count = (moved opening x s b system l is).count;
  comes = goes_to opening x s b system l is false (le-ltb (l.cpu + 1) s.cpus (omega (arith, left)));
  counted = counted opening x s b system l is;
  leaves = leaves opening x s b system l is;
  bare = λ c which. bare_one s (min_partial_of s l.cache) l.cache l.cpu (consistent opening x s b system l is) (inside opening x s b system l is) (cpu opening x s b system l is) c (either c which);
  keeps = rest-flushed (min_partial_of s l.cache) l.cache s l.cpu;
  grown = (let g = one_grown s b l.cache l.cpu in record {
    same = g.same;
    here = λ j low high. subst (λ j. cpu_number l.cache j < length b.tids → tid_of (detached s b l.cache l.cpu) (cpu_number l.cache j) ≡ tid_of b (cpu_number l.cache j) + cond (is_some (lists_of s l.cache j).current) b.step 0) (let e : l.cpu ≡ j = omega (arith, low, high) in e) g.here;
    away = λ n none. g.away n (none l.cpu (omega arith) (omega arith));
  });
})
  where
    either : (c : ℕ) → (lists_of s l.cache c ≡ no_lists) ⊎ ((l.cpu ≤ c) × (c ≤ l.cpu + 0)) → (lists_of s l.cache c ≡ no_lists) ⊎ (c ≡ l.cpu)
    either c (inl none) = inl none
    either c (inr between) = inr (omega (arith, between.0, between.1))
cpus_emptied opening x min (suc r) s b system l is_min left most is =
    then_others opening x min r s b system l is_min left most is
    (cpus_emptied opening x min r (t opening x min r s b system l is_min left most is) (d opening x min r s b system l is_min left most is) (further opening x min r s b system l is_min left most is) (n opening x min r s b system l is_min left most is)
    (next_min opening x min r s b system l is_min left most is) (next_left opening x min r s b system l is_min left most is) (next_most opening x min r s b system l is_min left most is) (first opening x min r s b system l is_min left most is).rests)
