-- How the ids of a round on the lists grow, and that they fit what it leaves.
use Rattle.std.proofs.Common.{◌≡◌, ℕ, ◌+◌, ◌*◌, ◌≤◌, Bool, true, false, cond, List, [], ◌∷◌, ◌++◌, length, Option, Some, None, inl, inr, refl, sym, ap, ◌∙◌, subst, arith, add-mul}
use Rattle.std.specs.Option.{option_map_or}
use Rattle.std.proofs.lemmas.Bool.{cases_lt}
use Rattle.std.proofs.lemmas.List.{get_or_past, length-set}
use Rattle.std.proofs.lemmas.List.FromFn.{get_or-map-range_with_len, length-map-range_with_len}
use Rattle.slub_trace.specs.declared.reply.Reply.{Reply}
use Rattle.slub_trace.specs.Kinds.{is_given}
use Rattle.slub_trace.specs.declared.event.Act.{Act}
use Rattle.slub_trace.specs.declared.event.Act.TheVariants as act
use Rattle.slub_trace.specs.declared.event.Event.{Event}
use Rattle.slub_lists.specs.State.{State}
use Rattle.slub_lists.specs.Alloc.{named}
use Rattle.slub_lists.specs.Coherent.{IsCoherent}
use Rattle.slub_core.specs.Setup.{cpu_number}
use Rattle.slub_law_opening.specs.Opening.{Beside, tid_of}
use Rattle.slub_slabinfo_text.specs.Lawful.{Answers}
use Rattle.slub_calls.specs.Changes.{grown, changes_of_alloc, has_slab_of, has_slab_on, changes_of_free, word_of_free, beside_after, grown_where}
use Rattle.slub_calls.proofs.ChangesFew.{alloc_few, free_few}
use Rattle.slub_calls.specs.Events.{IsGrown, RunsWithIds}
use Rattle.slub_calls.proofs.Grown.{grows-by}

-- ---- how often at most

grows-more : (few most : ℕ → ℕ) (b d : Beside) → ((n : ℕ) → few n ≤ most n) → IsGrown few b d → IsGrown most b d
grows-more few most b d below is = record {
  step = is.step;
  means = is.means;
  links = is.links;
  tids = λ n. let t = is.tids n in (t.0, omega (arith, t.1, below n), t.2);
}

-- each of some words changes once more
where-grows : (few most : ℕ → ℕ) (changed : ℕ → Bool) (b d : Beside) → ((n : ℕ) → few n + 1 ≤ most n) → IsGrown few b d → IsGrown most b (grown_where d changed)
where-grows few most changed b d below is = record {
  step = is.step;
  means = is.means;
  links = is.links;
  tids = λ n. let t = is.tids n in elim (cases_lt n (length d.tids)) [
    | inl inside ↦ by n (changed n) t.0 t.1 t.2 (below n) (get_or-map-range_with_len (λ n. tid_of d n + cond (changed n) d.step 0) 0 (length d.tids) n n 0 inside (omega arith))
    | inr past ↦
        let now : tid_of (grown_where d changed) n ≡ 0 = get_or_past (grown_where d changed).tids n 0 (let long = length-map-range_with_len (λ n. tid_of d n + cond (changed n) d.step 0) 0 (length d.tids) in omega (arith, past, long)) in
        let was : tid_of d n ≡ 0 = get_or_past d.tids n 0 (omega (arith, past)) in
        (t.0, omega (arith, t.1, below n), now ∙ sym was ∙ t.2)
  ];
}
  where
    by : (n : ℕ) (now : Bool) (times : ℕ) → times ≤ few n → tid_of d n ≡ tid_of b n + times * b.step → few n + 1 ≤ most n → tid_of (grown_where d changed) n ≡ tid_of d n + cond now d.step 0
        → (times : ℕ) × (times ≤ most n) × (tid_of (grown_where d changed) n ≡ tid_of b n + times * b.step)
    by n true times less was under ids = (times + 1, omega (arith, less, under), (let more = add-mul times 1 b.step in omega (arith, was, ids, more, is.step)))
    by n false times less was under ids = (times, omega (arith, less, under), omega (arith, was, ids))

-- an event changes each word twice at most
module _ (s : State) (worker cpu : ℕ) (reply : Reply) (few most : ℕ → ℕ) (b d : Beside) (below : (n : ℕ) → few n + 2 ≤ most n) (is : IsGrown few b d) where
  as-it-was : IsGrown most b d
  as-it-was = grows-more few most b d (λ n. omega (arith, below n)) is

  alloc-grows : (x : Option ℕ) → IsGrown most b (option_map_or (λ cache. grown d (cpu_number cache cpu) (changes_of_alloc s cache cpu (is_given reply))) x d)
  alloc-grows None = as-it-was
  alloc-grows (Some cache) =
      let n = cpu_number cache cpu in
      grows-by few most (changes_of_alloc s cache cpu (is_given reply)) n b d (λ k. omega (arith, below k)) (omega (arith, below n, alloc_few s cache cpu (is_given reply))) is

  trim-grows : (x : Option ℕ) → IsGrown most b (option_map_or (λ cache. grown_where d (has_slab_of s cache)) x d)
  trim-grows None = as-it-was
  trim-grows (Some cache) = where-grows few most (has_slab_of s cache) b d (λ n. omega (arith, below n)) is

  pub act-grows : (a : Act) → IsGrown most b (beside_after s d worker cpu a reply)
  act-grows (act.Alloc place object) = alloc-grows (named s place)
  act-grows (act.Free object) =
      let n = word_of_free s cpu object in
      grows-by few most (changes_of_free s cpu worker object) n b d (λ k. omega (arith, below k)) (omega (arith, below n, free_few s cpu worker object)) is
  act-grows (act.Write word object value) = as-it-was
  act-grows (act.Read word object) = as-it-was
  act-grows (act.Poke object offset byte) = as-it-was
  act-grows (act.Trim place) = trim-grows (named s place)
  act-grows act.Flush = where-grows few most (has_slab_on s cpu) b d (λ n. omega (arith, below n)) is

-- and so do so many events
pub runs-grow : (few most : ℕ) (s : State) (a b : Beside) (events : List Event) (replies : List Reply) (after : State) (d : Beside) → few + 2 * length events ≤ most → IsGrown (λ n. few) a b → RunsWithIds s b events replies after d
    → IsGrown (λ n. most) a d
runs-grow few most s a b [] [] after d below is runs =
    subst (λ (x : Beside). IsGrown (λ n. most) a x) (sym runs.1) (grows-more (λ n. few) (λ n. most) a b (λ n. omega (arith, below)) is)
runs-grow few most s a b [] (reply ∷ replies) after d below is runs = absurd runs
runs-grow few most s a b (event ∷ events) [] after d below is runs = absurd runs
runs-grow few most s a b (event ∷ events) (reply ∷ replies) after d below is runs =
    runs-grow (few + 2) most runs.0 a (beside_after s b event.worker event.cpu event.act reply) events replies after d (omega (arith, below))
    (act-grows s event.worker event.cpu reply (λ n. few) (λ n. few + 2) a b (λ n. omega arith) is event.act) runs.3

pub not-grown : (b : Beside) → IsGrown (λ n. 0) b b
not-grown b = record { step = refl; means = refl; links = refl; tids = λ n. (0, omega arith, omega arith) }

-- ---- as many ids as before

where-long : (d : Beside) (changed : ℕ → Bool) → length (grown_where d changed).tids ≡ length d.tids
where-long d changed = length-map-range_with_len (λ n. tid_of d n + cond (changed n) d.step 0) 0 (length d.tids)

module _ (s : State) (d : Beside) (worker cpu : ℕ) (reply : Reply) where
  alloc-long : (x : Option ℕ) → length (option_map_or (λ cache. grown d (cpu_number cache cpu) (changes_of_alloc s cache cpu (is_given reply))) x d).tids ≡ length d.tids
  alloc-long None = refl
  alloc-long (Some cache) = length-set d.tids (cpu_number cache cpu) (tid_of d (cpu_number cache cpu) + changes_of_alloc s cache cpu (is_given reply) * d.step)

  trim-long : (x : Option ℕ) → length (option_map_or (λ cache. grown_where d (has_slab_of s cache)) x d).tids ≡ length d.tids
  trim-long None = refl
  trim-long (Some cache) = where-long d (has_slab_of s cache)

  act-long : (a : Act) → length (beside_after s d worker cpu a reply).tids ≡ length d.tids
  act-long (act.Alloc place object) = alloc-long (named s place)
  act-long (act.Free object) = length-set d.tids (word_of_free s cpu object) (tid_of d (word_of_free s cpu object) + changes_of_free s cpu worker object * d.step)
  act-long (act.Write word object value) = refl
  act-long (act.Read word object) = refl
  act-long (act.Poke object offset byte) = refl
  act-long (act.Trim place) = trim-long (named s place)
  act-long act.Flush = where-long d (has_slab_on s cpu)

pub runs-long : (s : State) (b : Beside) (events : List Event) (replies : List Reply) (after : State) (d : Beside) → RunsWithIds s b events replies after d → length d.tids ≡ length b.tids
runs-long s b [] [] after d runs = ap (λ (x : Beside). length x.tids) runs.1
runs-long s b [] (reply ∷ replies) after d runs = absurd runs
runs-long s b (event ∷ events) [] after d runs = absurd runs
runs-long s b (event ∷ events) (reply ∷ replies) after d runs =
    runs-long runs.0 (beside_after s b event.worker event.cpu event.act reply) events replies after d runs.3 ∙ act-long s b event.worker event.cpu reply event.act

-- ---- one event more

pub runs-more : (s : State) (b : Beside) (events : List Event) (replies : List Reply) (mid : State) (d : Beside) (event : Event) (reply : Reply) (after : State) (e : Beside)
    → RunsWithIds s b events replies mid d → Answers mid event event.act reply after → IsCoherent after → e ≡ beside_after mid d event.worker event.cpu event.act reply
    → RunsWithIds s b (events ++ event ∷ []) (replies ++ reply ∷ []) after e
runs-more s b [] [] mid d event reply after e runs answers coherent is = (
  after,
  subst (λ (x : State). Answers x event event.act reply after) runs.0 answers,
  coherent,
  (refl, is ∙ (λ i. beside_after (runs.0 i) (runs.1 i) event.worker event.cpu event.act reply)),
)
runs-more s b [] (first ∷ replies) mid d event reply after e runs answers coherent is = absurd runs
runs-more s b (first ∷ events) [] mid d event reply after e runs answers coherent is = absurd runs
runs-more s b (first ∷ events) (answer ∷ replies) mid d event reply after e runs answers coherent is =
    (runs.0, runs.1, runs.2, runs-more runs.0 (beside_after s b first.worker first.cpu first.act answer) events replies mid d event reply after e runs.3 answers coherent is)
