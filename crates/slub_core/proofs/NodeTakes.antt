-- At once: an empty slab is taken off the node list, and a trim scans it.
use Rattle.std.proofs.Common.{◌≡◌, ◌≢◌, ℕ, zero, suc, ◌+◌, ◌^◌, ◌<◌, ◌≤◌, ◌==◌, true, false, cond, eqb, List, [], ◌∷◌, ◌++◌, length, take, drop, refl, sym, ap, ◌∙◌, arith, inl, inr}
use Rattle.std.specs.Prelude.{All, not, slice_index}
use Rattle.std.proofs.lemmas.Bool.{cases_eq, cases_lt, cases_Bool, eq-eqb, ne_eqb, lt-ltb, le-ltb}
use Rattle.std.proofs.lemmas.List.Elements.{All-head}
use Rattle.std.proofs.lemmas.List.Sorted.{sum_by-IsPermutation}
use Rattle.slub_common.specs.Times.{times}
use Rattle.slub_common.proofs.Times.{times-filter_pass, times-filter_fail}
use Rattle.slub_node_partial.proofs.Promotions.{keeps}
use Rattle.slub_core.specs.declared.local.Known.{Known}
use Rattle.slub_core.specs.declared.spot.Spot.TheVariants.{InFree, InDiscard, InTrim}
use Rattle.slub_core.specs.declared.spot.FreeSpot.TheVariants.{TakeOff, GiveFree}
use Rattle.slub_core.specs.declared.spot.Discard.TheVariants.{FromFree, FromTrim}
use Rattle.slub_core.specs.declared.spot.DiscardSpot.TheVariants.{Unmake}
use Rattle.slub_core.specs.declared.spot.TrimSpot.TheVariants.{ScanNode, LoadScanned, DropScanned, GiveTrim}
use Rattle.slub_core.specs.Setup.{node_lock}
use Rattle.slub_core.specs.World.{World, LockValue, Node, update, set_value, cache_at, one_if, frames_in}
use Rattle.slub_core.specs.Local.{Worker, here, at, with_hand, bare_hand, stays}
use Rattle.slub_core.specs.Alloc.{node_of, with_node}
use Rattle.slub_core.specs.PutAway.{has_enough}
use Rattle.slub_core.specs.Free.{without, free_at_once}
use Rattle.slub_core.specs.Offline.{scanned_slab, without_at, trim_at_once}
use Rattle.slub_core.specs.Spots.{Loose, in_plain}
use Rattle.slub_core.specs.Listed.{takes, IsStocked}
use Rattle.slub_core.specs.Fresh.{AreHands, AreHeld, IsEmptied, IsAtWork}
use Rattle.slub_core.specs.Coherent.{Stands}
use Rattle.slub_core.proofs.Counts.{homes-cons}
use Rattle.slub_core.proofs.StepHands.{no-hands, in_chain-nil}
use Rattle.slub_core.proofs.Homes.{live-most}
use Rattle.slub_core.proofs.Lists.{times-first}
use Rattle.slub_core.proofs.LocalStep.{local_step}
use Rattle.slub_core.proofs.PopNode.{bare-walk}
use Rattle.slub_core.proofs.Update.{update_same, term_le_sum}
use Rattle.slub_core.proofs.UnderLock.{Makes, node_step, stocked-within, known-same, locks-same}

-- ---- after a free

keep-work : (w : World) (x : Worker) → x.local.spot ≡ InFree TakeOff → IsAtWork w x → IsAtWork w (record x { local = at x.local (InFree GiveFree) })
keep-work w x is ok = grind arith

off-work : (w : World) (x : Worker) (f : ℕ) (n : ℕ) (v : LockValue) → x.local.spot ≡ InFree TakeOff
    → AreHands (Loose ∷ []) (bare_hand f ∷ []) ([] ∷ []) → AreHeld (set_value w n v) x.local.cache (Loose ∷ []) (bare_hand f ∷ []) ([] ∷ []) 0 → IsEmptied (w.slab f) x.local
    → All (λ (k : Known). k.held ≡ true → k.cache ≡ cache_at (set_value w n v) k.frame) x.local.known
    → ((n : ℕ) → 1 ≤ takes n (record x { local = record x.local { hands = bare_hand f ∷ []; spot = InDiscard Unmake FromFree }; chains = [] ∷ [] }) → w.lock n ≡ suc x.local.worker) → IsAtWork w x
    → IsAtWork (set_value w n v) (record x { local = record x.local { hands = bare_hand f ∷ []; spot = InDiscard Unmake FromFree }; chains = [] ∷ [] })
off-work w x f n v is hands held empty known locks ok = grind arith

-- ---- in a trim

scan-work : (w : World) (x : Worker) → x.local.spot ≡ InTrim ScanNode → length x.local.scanned < length (node_of w.value x.local) → IsAtWork w x → IsAtWork w (record x { local = at x.local (InTrim LoadScanned) })
scan-work w x is more ok = grind arith

end_scan-work : (w : World) (x : Worker) (n : ℕ) (v : LockValue) → x.local.spot ≡ InTrim ScanNode
    → All (λ (k : Known). k.held ≡ true → k.cache ≡ cache_at (set_value w n v) k.frame) x.local.known
    → ((n : ℕ) → 1 ≤ takes n (record x { local = at x.local (InTrim GiveTrim) }) → w.lock n ≡ suc x.local.worker) → IsAtWork w x
    → IsAtWork (set_value w n v) (record x { local = at x.local (InTrim GiveTrim) })
end_scan-work w x n v is known locks ok = grind arith

drop-work : (w : World) (x : Worker) (f : ℕ) (n : ℕ) (v : LockValue) → x.local.spot ≡ InTrim DropScanned
    → AreHands (Loose ∷ []) (bare_hand f ∷ []) ([] ∷ []) → AreHeld (set_value w n v) x.local.cache (Loose ∷ []) (bare_hand f ∷ []) ([] ∷ []) 0 → IsEmptied (w.slab f) x.local
    → length x.local.scanned ≤ length (node_of (update w.value n v) x.local)
    → All (λ (k : Known). k.held ≡ true → k.cache ≡ cache_at (set_value w n v) k.frame) x.local.known
    → ((n : ℕ) → 1 ≤ takes n (record x { local = record x.local { hands = bare_hand f ∷ []; spot = InDiscard Unmake FromTrim }; chains = [] ∷ [] }) → w.lock n ≡ suc x.local.worker) → IsAtWork w x
    → IsAtWork (set_value w n v) (record x { local = record x.local { hands = bare_hand f ∷ []; spot = InDiscard Unmake FromTrim }; chains = [] ∷ [] })
drop-work w x f n v is hands held empty scan known locks ok = grind arith

-- ---- a slab taken off a list, counted

times-without : (f g : ℕ) (fs : List ℕ) → times f fs ≤ 1 → 1 ≤ times f fs → times g fs ≡ one_if (f == g) + times g (without fs f)
times-without f g fs most some = elim (cases_eq f g) [
  | inl e ↦
      let o : one_if (f == g) ≡ 1 = rw (eq-eqb f g e) refl in
      let fails : not (g == f) ≡ false = rw (eq-eqb g f (sym e)) refl in
      let none = times-filter_fail g (λ other. not (other == f)) fs fails in
      let a : times f fs ≡ times g fs = ap (λ h. times h fs) e in
      omega arith
  | inr d ↦
      let o : one_if (f == g) ≡ 0 = rw (ne_eqb f g d) refl in
      let passes : not (g == f) ≡ true = rw (ne_eqb g f (λ e. d (sym e))) refl in
      let all = times-filter_pass g (λ other. not (other == f)) fs passes in
      omega arith
]

without_at-suc : (f : ℕ) (fs : List ℕ) (n : ℕ) → without_at (f ∷ fs) (suc n) ≡ f ∷ without_at fs n
without_at-suc f fs n = let e : suc n + 1 ≡ suc (n + 1) = omega arith in ap (λ k. f ∷ (take n fs ++ drop k (f ∷ fs))) e

times-without_at : (fs : List ℕ) (n g : ℕ) → n < length fs → times g fs ≡ one_if (slice_index fs n == g) + times g (without_at fs n)
times-without_at [] n g below = absurd (omega arith)
times-without_at (f ∷ fs) zero g below = times-first g f fs
times-without_at (f ∷ fs) (suc n) g below =
    let r = times-without_at fs n g (omega arith) in
    let a = times-first g f fs in
    let e = without_at-suc f fs n in
    let b : times g (without_at (f ∷ fs) (suc n)) ≡ one_if (f == g) + times g (without_at fs n) = ap (times g) e ∙ times-first g f (without_at fs n) in
    omega arith

length-without_at : (fs : List ℕ) (n : ℕ) → n < length fs → length (without_at fs n) + 1 ≡ length fs
length-without_at [] n below = absurd (omega arith)
length-without_at (f ∷ fs) zero below = omega arith
length-without_at (f ∷ fs) (suc n) below =
    let r = length-without_at fs n (omega arith) in
    let e = without_at-suc f fs n in
    let b = ap length e in
    omega arith

-- ---- the spots

-- an empty slab of the node list, in hand
loose-hand : (w : World) (f cache : ℕ) → 1 ≤ f → f < 2 ^ 16 → IsStocked (w.slab f) cache → AreHands (Loose ∷ []) (bare_hand f ∷ []) ([] ∷ []) × AreHeld w cache (Loose ∷ []) (bare_hand f ∷ []) ([] ∷ []) 0
loose-hand w f cache real fits stocked = ((real, fits, omega arith, (refl, refl), bare-walk f, tt), (refl, stocked.owner, (stocked.unfrozen, stocked.head), tt))

-- what is so of a slab on the worker's node list
pub record IsOnNode (w : World) (x : Worker) (f : ℕ) : Type 0 where
  pub stocked : IsStocked (w.slab f) x.local.cache
  pub real : 1 ≤ f
  pub fits : f < 2 ^ 16
  pub once : times f (node_of w.value x.local) ≤ 1

on-node-list : (w : World) (x : Worker) (others : List Worker) (f : ℕ) → Stands w (x ∷ others) → in_plain x.local.spot ≡ true → 1 ≤ times f (node_of w.value x.local) → IsOnNode w x f
on-node-list w x others f s plain some =
    let ok = All-head (IsAtWork w) x others s.fresh.workers in
    let cache = (ok.spot.plain plain).0 in
    let count = s.fresh.setup.locks in
    let frames = s.fresh.setup.frames in
    let below : node_lock x.local.cache < w.setup.locks = omega arith in
    let stocked = s.listed.shaped.node x.local.cache f below some in
    let in' = stocked-within w s.chains f x.local.cache s.listed.shaped stocked in
    let t = term_le_sum w.setup.locks (λ k. times f (frames_in (w.value k))) (node_lock x.local.cache) below in
    let d : f ≢ 0 = λ e. absurd (let a = s.listed.shaped.no_lists in let z : 1 ≤ times 0 (node_of w.value x.local) = rw e at some in let u = term_le_sum w.setup.locks (λ k. times 0 (frames_in (w.value k))) (node_lock x.local.cache) below in omega arith) in
    let split = homes-cons w s.chains x others f in
    let once = s.listed.once f d in
    let one = live-most (w.slab f) in
    record { stocked = stocked; real = omega (arith, d); fits = omega arith; once = omega arith }

-- a list with fewer slabs is stocked, and has no frame 0
fewer : (w : World) (x : Worker) (others : List Worker) (fs : List ℕ) → Stands w (x ∷ others) → in_plain x.local.spot ≡ true → ((g : ℕ) → times g fs ≤ times g (node_of w.value x.local))
    → (times 0 fs ≡ 0) × ((g : ℕ) → 1 ≤ times g fs → IsStocked (w.slab g) x.local.cache)
fewer w x others fs s plain less =
    let ok = All-head (IsAtWork w) x others s.fresh.workers in
    let cache = (ok.spot.plain plain).0 in
    let count = s.fresh.setup.locks in
    let below : node_lock x.local.cache < w.setup.locks = omega arith in (
      (let a = s.listed.shaped.no_lists in let b = less 0 in let u = term_le_sum w.setup.locks (λ k. times 0 (frames_in (w.value k))) (node_lock x.local.cache) below in omega arith),
      λ g some. (on-node-list w x others g s plain (let b = less g in omega arith)).stocked,
    )

pub at_TakeOff : (w : World) (x : Worker) (others : List Worker) → x.local.spot ≡ InFree TakeOff → Stands w (x ∷ others)
    → Makes w others (free_at_once w.setup w.value x.local TakeOff)
at_TakeOff w x others is s =
    let ok = All-head (IsAtWork w) x others s.fresh.workers in
    elim (cases_Bool (has_enough w.setup w.value x.local)) [
      | inr few ↦ rw few (record x { local = at x.local (InFree GiveFree) }, refl, local_step w x _ others s (λ f i. refl) (record { home = λ f. refl; marked = λ f. rw is refl; covered = λ g. refl; takes = λ n. rw is refl }) (keep-work w x is ok))
      | inl enough ↦ rw enough (off ok)
    ]
  where
    off : IsAtWork w x → Makes w others (stays (with_node w.value x.local (without (node_of w.value x.local) (here x.local).frame)) (at (with_hand x.local (bare_hand (here x.local).frame)) (InDiscard Unmake FromFree)))
    off ok =
        let f = (here x.local).frame in
        let n = node_lock x.local.cache in
        let fs = without (node_of w.value x.local) f in
        let z : Worker = record x { local = record x.local { hands = bare_hand f ∷ []; spot = InDiscard Unmake FromFree }; chains = [] ∷ [] } in
        let last = ok.seen.freed_last (rw is refl) in
        let on = on-node-list w x others f s (rw is refl) last.1 in
        let less = λ (g : ℕ). times-without f g (node_of w.value x.local) on.once last.1 in
        let rest = fewer w x others fs s (rw is refl) (λ g. let l = less g in omega arith) in
        let bare = no-hands x.local.hands x.chains (rw is at ok.spot.hands) in
        let no_hand : x.local.hands ≡ [] = bare.0 in
        let same : (k : ℕ) → takes k z ≡ takes k x = λ k. rw is refl in (
          z,
          rw no_hand refl,
          node_step w x z others fs s (rw is refl) (rw is refl) rest.0 rest.1
              (λ g i. let c = in_chain-nil f g i in rw no_hand (omega arith))
              (λ g. let l = less g in rw no_hand (omega arith))
              (λ g. let l = less g in rw is (omega arith))
              (λ g. refl) same
              (λ slabs. let h = loose-hand (set_value w n (Node fs)) f x.local.cache on.real on.fits on.stocked in
              off-work w x f n (Node fs) is h.0 h.1 last.0 (known-same w n (Node fs) x slabs ok) (locks-same w x z refl same ok) ok),
        )

pub at_ScanNode : (w : World) (x : Worker) (others : List Worker) → x.local.spot ≡ InTrim ScanNode → Stands w (x ∷ others)
    → Makes w others (trim_at_once w.setup w.value x.local ScanNode)
at_ScanNode w x others is s =
    let ok = All-head (IsAtWork w) x others s.fresh.workers in
    elim (cases_lt (length x.local.scanned) (length (node_of w.value x.local))) [
      | inl more ↦ rw (lt-ltb (length x.local.scanned) (length (node_of w.value x.local)) more) (record x { local = at x.local (InTrim LoadScanned) }, refl, local_step w x _ others s (λ f i. refl) (record { home = λ f. refl; marked = λ f. rw is refl; covered = λ g. refl; takes = λ n. rw is refl }) (scan-work w x is more ok))
      | inr past ↦ rw (le-ltb (length x.local.scanned) (length (node_of w.value x.local)) past) (ends past ok)
    ]
  where
    ends : length (node_of w.value x.local) ≤ length x.local.scanned → IsAtWork w x → Makes w others (stays (with_node w.value x.local (w.setup.means.promote (node_of w.value x.local) x.local.scanned)) (at x.local (InTrim GiveTrim)))
    ends past ok =
        let n = node_lock x.local.cache in
        let old = node_of w.value x.local in
        let fs = w.setup.means.promote old x.local.scanned in
        let z : Worker = record x { local = at x.local (InTrim GiveTrim) } in
        let scan = ok.seen.scan (rw is refl) in
        let whole : length x.local.scanned ≡ length old = omega arith in
        let moved = keeps old x.local.scanned fs whole (w.setup.means.promotes old x.local.scanned whole) in
        let each : (g : ℕ) → times g fs ≡ times g old = λ g. sum_by-IsPermutation (λ y. cond (eqb y g) 1 0) old fs moved in
        let rest = fewer w x others fs s (rw is refl) (λ g. let e = each g in omega arith) in
        let same : (k : ℕ) → takes k z ≡ takes k x = λ k. rw is refl in (
          z,
          refl,
          node_step w x z others fs s (rw is refl) (rw is refl) rest.0 rest.1
              (λ g i. refl)
              (λ g. let e = each g in omega arith)
              (λ g. let e = each g in rw is (omega arith))
              (λ g. refl) same
              (λ slabs. end_scan-work w x n (Node fs) is (known-same w n (Node fs) x slabs ok) (locks-same w x z refl same ok) ok),
        )

pub at_DropScanned : (w : World) (x : Worker) (others : List Worker) → x.local.spot ≡ InTrim DropScanned → Stands w (x ∷ others)
    → Makes w others (trim_at_once w.setup w.value x.local DropScanned)
at_DropScanned w x others is s =
    let ok = All-head (IsAtWork w) x others s.fresh.workers in
    let f = scanned_slab w.value x.local in
    let n = node_lock x.local.cache in
    let old = node_of w.value x.local in
    let place = length x.local.scanned in
    let fs = without_at old place in
    let z : Worker = record x { local = record x.local { hands = bare_hand f ∷ []; spot = InDiscard Unmake FromTrim }; chains = [] ∷ [] } in
    let last = ok.seen.scanned (rw is refl) in
    let more = ok.seen.scan_next (rw is refl) in
    let on = on-node-list w x others f s (rw is refl) last.1 in
    let less = λ (g : ℕ). times-without_at old place g more in
    let rest = fewer w x others fs s (rw is refl) (λ g. let l = less g in omega arith) in
    let bare = no-hands x.local.hands x.chains (rw is at ok.spot.hands) in
    let no_hand : x.local.hands ≡ [] = bare.0 in
    let same : (k : ℕ) → takes k z ≡ takes k x = λ k. rw is refl in
    let long = length-without_at old place more in
    let now : node_of (update w.value n (Node fs)) x.local ≡ fs = ap frames_in (update_same w.value n (Node fs)) in (
      z,
      rw no_hand refl,
      node_step w x z others fs s (rw is refl) (rw is refl) rest.0 rest.1
          (λ g i. let c = in_chain-nil f g i in rw no_hand (omega arith))
          (λ g. let l = less g in rw no_hand (omega arith))
          (λ g. let l = less g in rw is (omega arith))
          (λ g. refl) same
          (λ slabs. let h = loose-hand (set_value w n (Node fs)) f x.local.cache on.real on.fits on.stocked in
          drop-work w x f n (Node fs) is h.0 h.1 last.0 (rw now (omega arith)) (known-same w n (Node fs) x slabs ok) (locks-same w x z refl same ok) ok),
    )
