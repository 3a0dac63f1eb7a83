-- Kind 23, spot by spot: a CPU's partial list is taken whole.
use Rattle.std.proofs.Common.{◌≡◌, ◌≢◌, ℕ, suc, ◌+◌, ◌-◌, ◌^◌, ◌<◌, ◌≤◌, true, Some, None, List, [], ◌∷◌, length, refl, sym, ap, ◌∙◌, subst, arith, inl, inr}
use Rattle.std.specs.Prelude.{slice_index}
use Rattle.std.proofs.lemmas.Bool.{cases_eq, cases_lt, ne_eqb, lt-ltb, le-ltb}
use Rattle.std.proofs.lemmas.List.Elements.{All-head}
use Rattle.slub_common.specs.Times.{times}
use Rattle.slub_cpu_partial.specs.declared.words.ListWord.{ListWord}
use Rattle.slub_core.specs.declared.local.Hand.{Hand}
use Rattle.slub_core.specs.declared.local.PartialString.{PartialString}
use Rattle.slub_core.specs.declared.step.Answer.TheVariants.{Word}
use Rattle.slub_core.specs.declared.spot.Spot.TheVariants.{Between, InAlloc, InPutOnList, InFree, InMoveSet, InOffline, InTrim}
use Rattle.slub_core.specs.declared.spot.AllocSpot.TheVariants.{TakeList, FollowFront, LoadKept, LockNode}
use Rattle.slub_core.specs.declared.spot.PutOnList.TheVariants.{OfFree}
use Rattle.slub_core.specs.declared.spot.PutOnListSpot.TheVariants.{LoadList}
use Rattle.slub_core.specs.declared.spot.FreeSpot.TheVariants.{TakeSet}
use Rattle.slub_core.specs.declared.spot.MoveSet.TheVariants.{ForFree, ForOffline}
use Rattle.slub_core.specs.declared.spot.MoveSetSpot.TheVariants.{LockMove}
use Rattle.slub_core.specs.declared.spot.Sweep.{Sweep}
use Rattle.slub_core.specs.declared.spot.Sweep.TheVariants.{Trimming, Flushing}
use Rattle.slub_core.specs.declared.spot.OfflineSpot.TheVariants.{LoadCurrent, TakeCurrent}
use Rattle.slub_core.specs.declared.spot.TrimSpot.TheVariants.{LockTrim}
use Rattle.slub_core.specs.Setup.{IsPlain}
use Rattle.slub_core.specs.Words.{no_list_word, list_in}
use Rattle.slub_core.specs.World.{World, set_list, Links, IsString}
use Rattle.slub_core.specs.Local.{Worker, at, bare_hand}
use Rattle.slub_core.specs.Ops.{own_cpu}
use Rattle.slub_core.specs.Alloc.{alloc_advance, taken_string, single_string}
use Rattle.slub_core.specs.Free.{free_advance, set_taken}
use Rattle.slub_core.specs.Offline.{offline_advance, next_swept, if_flushing}
use Rattle.slub_core.specs.Spots.{Kept, in_plain}
use Rattle.slub_core.specs.Placed.{owned}
use Rattle.slub_core.specs.Listed.{home_of, marked_of, covered_by, takes}
use Rattle.slub_core.specs.Fresh.{AreHands, AreHeld, IsCursor, IsKeptSlab, IsHeldString, IsAtWork}
use Rattle.slub_core.specs.Coherent.{Stands}
use Rattle.slub_core.proofs.Changes.{own-word}
use Rattle.slub_core.proofs.Exists.{times-self}
use Rattle.slub_core.proofs.GiveMove.{single-cursor}
use Rattle.slub_core.proofs.StepHands.{one-hand, in_chain-nil}
use Rattle.slub_core.proofs.Kind25.{kept-alone, list-real, listed-below}
use Rattle.slub_core.proofs.Lists.{times-first}
use Rattle.slub_core.proofs.ListStep.{list_step}
use Rattle.slub_core.proofs.Locks.{ComesTo}
use Rattle.slub_core.proofs.PopNode.{bare-walk}

-- ---- a list as a string in hand

string-links : (link : ℕ → ℕ) (front : ℕ) (fs : List ℕ) → Links link front fs 0 → IsString link front fs
string-links link front [] ok = tt
string-links link front (f ∷ fs) ok = (ok.0, string-links link (link f) fs ok.1)

last-link : (link : ℕ → ℕ) (front : ℕ) (fs : List ℕ) → 1 ≤ length fs → Links link front fs 0 → link (slice_index fs (length fs - 1)) ≡ 0
last-link link front [] some ok = absurd (omega arith)
last-link link front (f ∷ []) some ok = ok.1
last-link link front (f ∷ g ∷ gs) some ok =
    let r = last-link link (link f) (g ∷ gs) (omega arith) ok.1 in
    let n : suc (length (g ∷ gs) - 1) ≡ length (f ∷ g ∷ gs) - 1 = omega arith in
    subst (λ k. link (slice_index (f ∷ g ∷ gs) k) ≡ 0) n r

-- what is so of the slabs of a list
record IsTaken (w : World) (cache : ℕ) (v : ListWord) (fs : List ℕ) : Type 0 where
  links : Links w.link v.front fs 0
  count : v.count ≡ length fs
  kept : (f : ℕ) → 1 ≤ times f fs → (1 ≤ f) × (f < 2 ^ 16) × IsKeptSlab (w.slab f) cache

taken : (w : World) (x : Worker) (others : List Worker) (v : ListWord) (s : Stands w (x ∷ others)) → in_plain x.local.spot ≡ true → w.list (own_cpu x.local) ≡ v → IsTaken w x.local.cache v (s.chains.list (own_cpu x.local))
taken w x others v s is there =
    let n = own_cpu x.local in
    let own = own-word w x others s is in
    let none = list-real w (x ∷ others) n s own.0 in
    record {
      links = subst (λ (c : ListWord). Links w.link c.front (s.chains.list n) 0) there (s.listed.shaped.string n own.0);
      count = subst (λ (c : ListWord). c.count ≡ length (s.chains.list n)) there (s.listed.shaped.count n own.0);
      kept = λ f some.
          let p = s.listed.shaped.partial n f own.0 some in
          let real : f ≢ 0 = λ e. absurd (let t : 1 ≤ times 0 (s.chains.list n) = subst (λ g. 1 ≤ times g (s.chains.list n)) e some in omega arith) in
          (omega (arith, real), small f real some own.0, record { owner = p.0.owner ∙ own.1; unfrozen = p.0.unfrozen; unlisted = p.1; head = p.0.head });
    }
  where
    small : (f : ℕ) → f ≢ 0 → 1 ≤ times f (s.chains.list (own_cpu x.local)) → own_cpu x.local < w.setup.cpu_words → f < 2 ^ 16
    small f real some below = let b = listed-below w x others (own_cpu x.local) f s below real some in let frames = s.fresh.setup.frames in omega arith

taken-cursor : (w : World) (cache : ℕ) (v : ListWord) (fs : List ℕ) → 1 ≤ v.count → IsTaken w cache v fs → IsCursor (taken_string v.front v.count) fs
taken-cursor w cache v [] some t = absurd (let c = t.count in omega arith)
taken-cursor w cache v (f ∷ fs) some t = record { count = sym t.count; place = (omega arith, omega arith); cursor = t.links.0 }

taken-held : (w : World) (cache : ℕ) (v : ListWord) (fs : List ℕ) → 1 ≤ v.count → IsTaken w cache v fs → IsHeldString w cache (Some (taken_string v.front v.count)) fs
taken-held w cache v fs some t = (string-links w.link v.front fs t.links, last-link w.link v.front fs (let c = t.count in omega arith) t.links, λ f on. let k = t.kept f on in (k.0, k.2))

-- what a taken list owes, whatever spot it leads to
list-taken : (w : World) (x z : Worker) (others : List Worker) (s : Stands w (x ∷ others)) → in_plain x.local.spot ≡ true
    → ((f i : ℕ) → owned f i z ≡ owned f i x) → ((f : ℕ) → home_of f z ≡ home_of f x + times f (s.chains.list (own_cpu x.local)))
    → ((f : ℕ) → marked_of f z ≡ marked_of f x) → ((g : ℕ) → covered_by g z.local.run ≡ covered_by g x.local.run) → ((k : ℕ) → takes k z ≡ takes k x)
    → IsAtWork (set_list w (own_cpu x.local) no_list_word) z
    → Stands (set_list w (own_cpu x.local) no_list_word) (z ∷ others)
list-taken w x z others s is same homed marked covered locks ok =
    let own = own-word w x others s is in
    list_step w x z others (own_cpu x.local) no_list_word [] s own.0 (omega arith, omega arith) refl refl (λ f some. absurd (omega arith)) refl same (λ f. let h = homed f in omega arith) marked covered locks ok

no-slabs : (fs : List ℕ) → length fs ≡ 0 → fs ≡ []
no-slabs [] e = refl
no-slabs (f ∷ fs) e = absurd (omega arith)

one-slab : (fs : List ℕ) → length fs ≡ 1 → (f : ℕ) × (fs ≡ f ∷ [])
one-slab [] e = absurd (omega arith)
one-slab (f ∷ []) e = (f, refl)
one-slab (f ∷ g ∷ fs) e = absurd (omega arith)

-- ---- an allocation

none-work : (w : World) (x : Worker) (n : ℕ) → x.local.spot ≡ InAlloc TakeList → IsAtWork w x
    → IsAtWork (set_list w n no_list_word) (record x { local = record x.local { string = None; spot = InAlloc LockNode }; string = [] })
none-work w x n is ok = grind arith

one-work : (w : World) (x : Worker) (n f : ℕ) → x.local.spot ≡ InAlloc TakeList
    → AreHands (Kept ∷ []) (bare_hand f ∷ x.local.hands) ([] ∷ x.chains) → AreHeld w x.local.cache (Kept ∷ []) (bare_hand f ∷ x.local.hands) ([] ∷ x.chains) 0 → IsAtWork w x
    → IsAtWork (set_list w n no_list_word) (record { local = record x.local { hands = bare_hand f ∷ x.local.hands; string = None; spot = InAlloc LoadKept }; chains = [] ∷ x.chains; string = [] })
one-work w x n f is hands held ok = grind arith

more-work : (w : World) (x : Worker) (n : ℕ) (string : PartialString) (fs : List ℕ) → x.local.spot ≡ InAlloc TakeList → IsCursor string fs → IsHeldString w x.local.cache (Some string) fs → string.link ≡ Some 0 → 2 ≤ string.count → IsAtWork w x
    → IsAtWork (set_list w n no_list_word) (record x { local = record x.local { string = Some string; spot = InAlloc FollowFront }; string = fs })
more-work w x n string fs is cursor held ended some ok = grind arith

pub at_TakeList : (w : World) (x : Worker) (others : List Worker) (word : ℕ) → x.local.spot ≡ InAlloc TakeList → w.list (own_cpu x.local) ≡ list_in word → Stands w (x ∷ others)
    → ComesTo (set_list w (own_cpu x.local) no_list_word) others (alloc_advance w.setup x.local TakeList (Word word)).local
at_TakeList w x others word is there s = elim (cases_eq v.count 0) [
  | inl z ↦
      let nil = no-slabs fs (sym t.count ∙ z) in (
        record x { local = record x.local { string = None; spot = InAlloc LockNode }; string = [] },
        rw z refl,
        list-taken w x _ others s (rw is refl) (λ f i. refl) (λ f. rw (empty, nil) (omega arith)) (λ f. rw is refl) (λ g. refl) (λ k. rw is refl) (none-work w x n is ok),
      )
  | inr d ↦ elim (cases_eq v.count 1) [
    | inl o ↦ (let r = one-slab fs (sym t.count ∙ o) in only r.0 r.1 o)
    | inr e ↦ (
      record x { local = record x.local { string = Some (taken_string v.front v.count); spot = InAlloc FollowFront }; string = fs },
      rw (ne_eqb v.count 0 d, ne_eqb v.count 1 e, lt-ltb 1 v.count (omega (arith, d, e))) refl,
      list-taken w x _ others s (rw is refl) (λ f i. refl) (λ f. rw empty (omega arith)) (λ f. rw is refl) (λ g. refl) (λ k. rw is refl)
          (more-work w x n (taken_string v.front v.count) fs is (taken-cursor w x.local.cache v fs (omega (arith, d)) t) (taken-held w x.local.cache v fs (omega (arith, d)) t) refl (omega (arith, d, e)) ok),
    )
  ]
]
  where
    v : ListWord
    v = list_in word

    n : ℕ
    n = own_cpu x.local

    fs : List ℕ
    fs = s.chains.list n

    ok : IsAtWork w x
    ok = All-head (IsAtWork w) x others s.fresh.workers

    t : IsTaken w x.local.cache v fs
    t = taken w x others v s (rw is refl) there

    none : x.local.string ≡ None
    none = ok.spot.no_string (rw is refl)

    empty : x.string ≡ []
    empty = rw none at ok.spot.string

    only : (f : ℕ) → fs ≡ f ∷ [] → v.count ≡ 1 → ComesTo (set_list w n no_list_word) others (alloc_advance w.setup x.local TakeList (Word word)).local
    only f slab o =
        let front : v.front ≡ f = (subst (λ gs. Links w.link v.front gs 0) slab t.links).0 in
        let k = t.kept f (subst (λ gs. 1 ≤ times f gs) (sym slab) (times-self f [])) in
        let rest : AreHands [] x.local.hands x.chains = rw is at ok.spot.hands in (
          record { local = record x.local { hands = bare_hand f ∷ x.local.hands; string = None; spot = InAlloc LoadKept }; chains = [] ∷ x.chains; string = [] },
          rw (o, front) refl,
          list-taken w x _ others s (rw is refl) (λ g i. let c = in_chain-nil f g i in omega arith) (λ g. rw (empty, slab) (let c = times-first g f [] in omega arith)) (λ g. rw is refl) (λ g. refl) (λ k. rw is refl)
              (one-work w x n f is (k.0, k.1, omega arith, (refl, refl), bare-walk f, rest) (refl, k.2.owner, (k.2.unfrozen, k.2.unlisted, k.2.head), tt) ok),
        )

-- ---- a free, which moves the list

alone-work : (w : World) (x : Worker) (n f : ℕ) → x.local.spot ≡ InFree TakeSet → IsCursor (single_string f) (f ∷ []) → IsHeldString w x.local.cache (Some (single_string f)) (f ∷ []) → IsAtWork w x
    → IsAtWork (set_list w n no_list_word) (record x { local = record x.local { hands = []; string = Some (single_string f); spot = InPutOnList LoadList OfFree }; chains = []; string = f ∷ [] })
alone-work w x n f is cursor held ok = grind arith

set-work : (w : World) (x : Worker) (n : ℕ) (string : PartialString) (fs : List ℕ) → x.local.spot ≡ InFree TakeSet → IsCursor string fs → IsHeldString w x.local.cache (Some string) fs → string.link ≡ Some 0 → 1 ≤ string.count → IsAtWork w x
    → IsAtWork (set_list w n no_list_word) (record x { local = record x.local { string = Some string; spot = InMoveSet LockMove ForFree }; string = fs })
set-work w x n string fs is cursor held ended some ok = grind arith

pub at_TakeSet : (w : World) (x : Worker) (others : List Worker) (word : ℕ) → x.local.spot ≡ InFree TakeSet → w.list (own_cpu x.local) ≡ list_in word → Stands w (x ∷ others)
    → ComesTo (set_list w (own_cpu x.local) no_list_word) others (free_advance w.setup x.local TakeSet (Word word)).local
at_TakeSet w x others word is there s =
    let r = one-hand Kept x.local.hands x.chains (rw is at ok.spot.hands) in
    by_count r.0 r.1 r.2 r.3
  where
    v : ListWord
    v = list_in word

    n : ℕ
    n = own_cpu x.local

    fs : List ℕ
    fs = s.chains.list n

    ok : IsAtWork w x
    ok = All-head (IsAtWork w) x others s.fresh.workers

    t : IsTaken w x.local.cache v fs
    t = taken w x others v s (rw is refl) there

    none : x.local.string ≡ None
    none = ok.spot.no_string (rw is refl)

    empty : x.string ≡ []
    empty = rw none at ok.spot.string

    by_count : (h : Hand) (xs : List ℕ) → x.local.hands ≡ h ∷ [] → x.chains ≡ xs ∷ [] → ComesTo (set_list w n no_list_word) others (set_taken x.local v)
    by_count h xs one chain = elim (cases_eq v.count 0) [
      | inl z ↦
          let nil = no-slabs fs (sym t.count ∙ z) in
          let k = kept-alone w x h xs (rw (is, one, chain) at ok.spot.hands) (rw (is, one, chain) at ok.seen.hands) in
          let bare : x.chains ≡ [] ∷ [] = chain ∙ ap (λ ys. ys ∷ []) k.0 in
          let f = h.frame in (
            record x { local = record x.local { hands = []; string = Some (single_string f); spot = InPutOnList LoadList OfFree }; chains = []; string = f ∷ [] },
            rw (z, one) refl,
            list-taken w x _ others s (rw is refl) (λ g i. rw (one, bare) (let c = in_chain-nil f g i in omega arith)) (λ g. rw (one, empty, nil) (let c = times-first g f [] in omega arith)) (λ g. rw is refl) (λ g. refl) (λ k. rw is refl)
                (alone-work w x n f is (single-cursor f) k.1 ok),
          )
      | inr d ↦ (
        record x { local = record x.local { string = Some (taken_string v.front v.count); spot = InMoveSet LockMove ForFree }; string = fs },
        rw (ne_eqb v.count 0 d) refl,
        list-taken w x _ others s (rw is refl) (λ f i. refl) (λ f. rw empty (omega arith)) (λ f. rw is refl) (λ g. refl) (λ k. rw is refl)
            (set-work w x n (taken_string v.front v.count) fs is (taken-cursor w x.local.cache v fs (omega (arith, d)) t) (taken-held w x.local.cache v fs (omega (arith, d)) t) refl (omega (arith, d)) ok),
      )
    ]

-- ---- a sweep

sweep-work : (w : World) (x : Worker) (n count : ℕ) (sweep : Sweep) (string : PartialString) (fs : List ℕ) → x.local.spot ≡ InOffline TakeCurrent sweep → IsCursor string fs → IsHeldString w x.local.cache (Some string) fs → string.link ≡ Some 0 → 1 ≤ string.count → IsAtWork w x
    → IsAtWork (set_list w n no_list_word) (record x { local = record x.local { string = Some string; count = count; spot = InMoveSet LockMove (ForOffline sweep) }; string = fs })
sweep-work w x n count sweep string fs is cursor held ended some ok = grind arith

next_cpu-work : (w : World) (x : Worker) (n : ℕ) → x.local.spot ≡ InOffline TakeCurrent Trimming → x.local.cpu + 1 < w.setup.cpus → IsAtWork w x
    → IsAtWork (set_list w n no_list_word) (record x { local = record x.local { cpu = x.local.cpu + 1; spot = InOffline LoadCurrent Trimming } })
next_cpu-work w x n is more ok = grind arith

last_cpu-work : (w : World) (x : Worker) (n : ℕ) → x.local.spot ≡ InOffline TakeCurrent Trimming → IsAtWork w x
    → IsAtWork (set_list w n no_list_word) (record x { local = at x.local (InTrim LockTrim) })
last_cpu-work w x n is ok = grind arith

next_cache-work : (w : World) (x : Worker) (n : ℕ) → x.local.spot ≡ InOffline TakeCurrent Flushing → x.local.turn + 1 < length w.setup.plain → IsPlain w.setup (slice_index w.setup.plain (x.local.turn + 1)) → IsAtWork w x
    → IsAtWork (set_list w n no_list_word) (record x { local = record x.local { turn = x.local.turn + 1; cache = slice_index w.setup.plain (x.local.turn + 1); spot = InOffline LoadCurrent Flushing } })
next_cache-work w x n is more plain ok = grind arith

last_cache-work : (w : World) (x : Worker) (n : ℕ) → x.local.spot ≡ InOffline TakeCurrent Flushing → IsAtWork w x
    → IsAtWork (set_list w n no_list_word) (record x { local = at x.local Between })
last_cache-work w x n is ok = grind arith

-- an empty list
none-swept : (w : World) (x : Worker) (others : List Worker) (sweep : Sweep) (s : Stands w (x ∷ others)) → x.local.spot ≡ InOffline TakeCurrent sweep → s.chains.list (own_cpu x.local) ≡ []
    → ComesTo (set_list w (own_cpu x.local) no_list_word) others (next_swept w.setup x.local sweep).local
none-swept w x others Trimming s is nil =
    let ok = All-head (IsAtWork w) x others s.fresh.workers in
    let n = own_cpu x.local in
    elim (cases_lt (x.local.cpu + 1) w.setup.cpus) [
      | inl l ↦ (
        record x { local = record x.local { cpu = x.local.cpu + 1; spot = InOffline LoadCurrent Trimming } },
        rw (lt-ltb (x.local.cpu + 1) w.setup.cpus l) refl,
        list-taken w x _ others s (rw is refl) (λ f i. refl) (λ f. rw nil (omega arith)) (λ f. rw is refl) (λ g. refl) (λ k. rw is refl) (next_cpu-work w x n is l ok),
      )
      | inr g ↦ (
        record x { local = at x.local (InTrim LockTrim) },
        rw (le-ltb (x.local.cpu + 1) w.setup.cpus g) refl,
        list-taken w x _ others s (rw is refl) (λ f i. refl) (λ f. rw nil (omega arith)) (λ f. rw is refl) (λ g. refl) (λ k. rw is refl) (last_cpu-work w x n is ok),
      )
    ]
none-swept w x others Flushing s is nil =
    let ok = All-head (IsAtWork w) x others s.fresh.workers in
    let n = own_cpu x.local in
    elim (cases_lt (x.local.turn + 1) (length w.setup.plain)) [
      | inl l ↦ (
        record x { local = record x.local { turn = x.local.turn + 1; cache = slice_index w.setup.plain (x.local.turn + 1); spot = InOffline LoadCurrent Flushing } },
        rw (lt-ltb (x.local.turn + 1) (length w.setup.plain) l) refl,
        list-taken w x _ others s (rw is refl) (λ f i. refl) (λ f. rw nil (omega arith)) (λ f. rw is refl) (λ g. refl) (λ k. rw is refl) (next_cache-work w x n is l (s.fresh.setup.plain (x.local.turn + 1) 0 l) ok),
      )
      | inr g ↦ (
        record x { local = at x.local Between },
        rw (le-ltb (x.local.turn + 1) (length w.setup.plain) g) refl,
        list-taken w x _ others s (rw is refl) (λ f i. refl) (λ f. rw nil (omega arith)) (λ f. rw is refl) (λ g. refl) (λ k. rw is refl) (last_cache-work w x n is ok),
      )
    ]

pub at_TakeCurrent : (w : World) (x : Worker) (others : List Worker) (sweep : Sweep) (word : ℕ) → x.local.spot ≡ InOffline TakeCurrent sweep → w.list (own_cpu x.local) ≡ list_in word → Stands w (x ∷ others)
    → ComesTo (set_list w (own_cpu x.local) no_list_word) others (offline_advance w.setup x.local TakeCurrent sweep (Word word)).local
at_TakeCurrent w x others sweep word is there s = elim (cases_eq v.count 0) [
  | inl z ↦ rw z (none-swept w x others sweep s is (no-slabs fs (sym t.count ∙ z)))
  | inr d ↦ rw (ne_eqb v.count 0 d) (
    record x { local = record x.local { string = Some (taken_string v.front v.count); count = x.local.count + if_flushing sweep v.count; spot = InMoveSet LockMove (ForOffline sweep) }; string = fs },
    refl,
    list-taken w x _ others s (rw is refl) (λ f i. refl) (λ f. rw empty (omega arith)) (λ f. rw is refl) (λ g. refl) (λ k. rw is refl)
        (sweep-work w x n _ sweep (taken_string v.front v.count) fs is (taken-cursor w x.local.cache v fs (omega (arith, d)) t) (taken-held w x.local.cache v fs (omega (arith, d)) t) refl (omega (arith, d)) ok),
  )
]
  where
    v : ListWord
    v = list_in word

    n : ℕ
    n = own_cpu x.local

    fs : List ℕ
    fs = s.chains.list n

    ok : IsAtWork w x
    ok = All-head (IsAtWork w) x others s.fresh.workers

    t : IsTaken w x.local.cache v fs
    t = taken w x others v s (rw is refl) there

    none : x.local.string ≡ None
    none = ok.spot.no_string (rw is refl)

    empty : x.string ≡ []
    empty = rw none at ok.spot.string
