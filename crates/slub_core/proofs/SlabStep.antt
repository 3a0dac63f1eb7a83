-- A step that changes a slab word.
use Rattle.std.proofs.Common.{◌≡◌, ◌≢◌, ℕ, ◌+◌, ◌/◌, ◌^◌, ◌<◌, ◌≤◌, ◌⊎◌, ◌==◌, true, false, Option, Some, None, List, [], ◌∷◌, length, get_or, refl, sym, ap, ◌∙◌, subst, arith, inl, inr}
use Rattle.std.specs.Prelude.{sum_by, nat_lt}
use Rattle.std.proofs.lemmas.Bool.{cases_eq}
use Rattle.std.proofs.lemmas.List.Sums.{sum_by-cons}
use Rattle.std.proofs.lemmas.List.Elements.{All-cons, All-tail}
use Rattle.slub_common.specs.Times.{times}
use Rattle.slub_words.specs.declared.slab.SlabWord.{SlabWord}
use Rattle.slub_core.specs.declared.local.Hand.{Hand}
use Rattle.slub_core.specs.declared.local.PartialString.{PartialString}
use Rattle.slub_core.specs.declared.local.FrameRun.{FrameRun}
use Rattle.slub_core.specs.Setup.{IsSetup, node_lock}
use Rattle.slub_core.specs.World.{World, Chains, update, set_slab, pointer, objects_at, cache_at, order_at, object_at, frames_in, one_if, sum_below, live, off_list, covers, IsChain}
use Rattle.slub_core.specs.Local.{Worker, here, hand_of, run_of}
use Rattle.slub_core.specs.Offline.{scanned_slab}
use Rattle.slub_core.specs.Spots.{Role, Taken, Ready, Loaded, Leaving, Untied, Popped, Kept, Loose, roles, is_emptied, stored_in}
use Rattle.slub_core.specs.Placed.{owned}
use Rattle.slub_core.specs.Listed.{home_of, hands_count, homes, on_lists, marked_of, covered_by, takes, IsStocked}
use Rattle.slub_core.specs.Fresh.{AreHeld, HasMarks, IsHeldString, IsHeldRun, IsEmptied, IsAtWork, end_of}
use Rattle.slub_core.specs.Coherent.{Stands}
use Rattle.slub_core.proofs.Counts.{places-cons, homes-cons, roles-cons}
use Rattle.slub_core.proofs.Homes.{mine-alone, live-most, on-cpu, on-list, on-node, hand-home}
use Rattle.slub_core.proofs.Spots.{freed_last-plain, scanned-plain, emptied-hand}
use Rattle.slub_core.proofs.Update.{update_other, update_at, each_updated, sum_below_same, term_le_sum}

-- what others may find a slab word changed to: an object more on the freelist of a slab with an object in use, with the marks that it had; or the slab is the worker's, or on no list
pub data MayChange (w : World) (x : Worker) (f : ℕ) (v : SlabWord) : Type 0 where
  keeps_marks : v.frozen ≡ (w.slab f).frozen → v.listed ≡ (w.slab f).listed → 1 ≤ v.head → 1 ≤ (w.slab f).inuse → MayChange w x f v
  is_mine : 1 ≤ home_of f x + off_list (w.slab f) → MayChange w x f v

pub caches-same : (w : World) (f : ℕ) (v : SlabWord) → v.cache ≡ (w.slab f).cache → (g : ℕ) → (update w.slab f v g).cache ≡ (w.slab g).cache
caches-same w f v same g = elim (cases_eq g f) [ inl e ↦ rw (update_at w.slab f v g e, e) same | inr d ↦ rw (update_other w.slab f v g d) refl ]

pub objects-same : (w : World) (f : ℕ) (v : SlabWord) → v.objects ≡ (w.slab f).objects → (g : ℕ) → (update w.slab f v g).objects ≡ (w.slab g).objects
objects-same w f v same g = elim (cases_eq g f) [ inl e ↦ rw (update_at w.slab f v g e, e) same | inr d ↦ rw (update_other w.slab f v g d) refl ]

-- a slab that keeps its cache and its number of objects is the same slab
pub cache_at-same : (w : World) (f : ℕ) (v : SlabWord) → v.cache ≡ (w.slab f).cache → v.objects ≡ (w.slab f).objects → (g : ℕ) → cache_at (set_slab w f v) g ≡ cache_at w g
cache_at-same w f v cache objects g = rw (objects-same w f v objects g, caches-same w f v cache g) refl

pub objects_at-same : (w : World) (f : ℕ) (v : SlabWord) → v.objects ≡ (w.slab f).objects → (g : ℕ) → objects_at (set_slab w f v) g ≡ objects_at w g
objects_at-same w f v objects g = rw (objects-same w f v objects g) refl

pub order_at-same : (w : World) (f : ℕ) (v : SlabWord) → v.cache ≡ (w.slab f).cache → v.objects ≡ (w.slab f).objects → (g : ℕ) → order_at (set_slab w f v) g ≡ order_at w g
order_at-same w f v cache objects g = rw (objects-same w f v objects g, caches-same w f v cache g) refl

marks-kept : (r : Role) (s v : SlabWord) → v.frozen ≡ s.frozen → v.listed ≡ s.listed → 1 ≤ v.head → HasMarks r s → HasMarks r v
marks-kept Taken s v frozen listed head m = frozen ∙ m
marks-kept Ready s v frozen listed head m = frozen ∙ m
marks-kept Loaded s v frozen listed head m = frozen ∙ m
marks-kept Leaving s v frozen listed head m = frozen ∙ m
marks-kept Untied s v frozen listed head m = frozen ∙ m
marks-kept Popped s v frozen listed head m = (frozen ∙ m.0, head)
marks-kept Kept s v frozen listed head m = (frozen ∙ m.0, listed ∙ m.1, head)
marks-kept Loose s v frozen listed head m = (frozen ∙ m.0, head)

-- slabs in hand, where the changed one keeps its marks, or isn't among them
pub held-marked : (w : World) (f : ℕ) (v : SlabWord) (cache : ℕ) (rs : List Role) (hs : List Hand) (xss : List (List ℕ)) (end : ℕ)
    → v.cache ≡ (w.slab f).cache → v.frozen ≡ (w.slab f).frozen → v.listed ≡ (w.slab f).listed → 1 ≤ v.head → AreHeld w cache rs hs xss end → AreHeld (set_slab w f v) cache rs hs xss end
held-marked w f v cache (r ∷ rs) (h ∷ hs) (xs ∷ xss) end same frozen listed head ok = (
  ok.0,
  caches-same w f v same h.frame ∙ ok.1,
  elim (cases_eq h.frame f) [
    | inl e ↦ rw (update_at w.slab f v h.frame e) (marks-kept r (w.slab f) v frozen listed head (rw e at ok.2))
    | inr d ↦ rw (update_other w.slab f v h.frame d) ok.2
  ],
  held-marked w f v cache rs hs xss 0 same frozen listed head ok.3,
)
held-marked w f v cache [] hs xss end same frozen listed head ok = tt
held-marked w f v cache (r ∷ rs) [] xss end same frozen listed head ok = tt
held-marked w f v cache (r ∷ rs) (h ∷ hs) [] end same frozen listed head ok = tt

pub held-apart : (w : World) (f : ℕ) (v : SlabWord) (cache : ℕ) (rs : List Role) (hs : List Hand) (xss : List (List ℕ)) (end : ℕ)
    → hands_count f hs ≡ 0 → AreHeld w cache rs hs xss end → AreHeld (set_slab w f v) cache rs hs xss end
held-apart w f v cache (r ∷ rs) (h ∷ hs) (xs ∷ xss) end none ok =
    elim (cases_eq h.frame f) [
      | inl e ↦ absurd (let c = hand-home f (h ∷ hs) (omega arith) e in omega arith)
      | inr d ↦ (
        ok.0,
        ap (λ (s : SlabWord). s.cache) (update_other w.slab f v h.frame d) ∙ ok.1,
        rw (update_other w.slab f v h.frame d) ok.2,
        held-apart w f v cache rs hs xss 0 (omega arith) ok.3,
      )
    ]
held-apart w f v cache [] hs xss end none ok = tt
held-apart w f v cache (r ∷ rs) [] xss end none ok = tt
held-apart w f v cache (r ∷ rs) (h ∷ hs) [] end none ok = tt

-- a string in hand likewise
pub string-marked : (w : World) (f : ℕ) (v : SlabWord) (cache : ℕ) (string : Option PartialString) (fs : List ℕ)
    → v.cache ≡ (w.slab f).cache → v.frozen ≡ (w.slab f).frozen → v.listed ≡ (w.slab f).listed → 1 ≤ v.head → IsHeldString w cache string fs → IsHeldString (set_slab w f v) cache string fs
string-marked w f v cache None fs same frozen listed head ok = tt
string-marked w f v cache (Some string) fs same frozen listed head ok = (
  ok.0,
  ok.1,
  λ g some. let k = ok.2 g some in (
    k.0,
    elim (cases_eq g f) [
      | inl e ↦ rw (update_at w.slab f v g e) (record { owner = same ∙ subst (λ j. (w.slab j).cache ≡ cache) e k.1.owner; unfrozen = frozen ∙ subst (λ j. (w.slab j).frozen ≡ false) e k.1.unfrozen; unlisted = listed ∙ subst (λ j. (w.slab j).listed ≡ false) e k.1.unlisted; head = head })
      | inr d ↦ rw (update_other w.slab f v g d) k.1
    ],
  ),
)

pub string-apart : (w : World) (f : ℕ) (v : SlabWord) (cache : ℕ) (string : Option PartialString) (fs : List ℕ)
    → times f fs ≡ 0 → IsHeldString w cache string fs → IsHeldString (set_slab w f v) cache string fs
string-apart w f v cache None fs none ok = tt
string-apart w f v cache (Some string) fs none ok = (
  ok.0,
  ok.1,
  λ g some. let k = ok.2 g some in (
    k.0,
    elim (cases_eq g f) [
      | inl e ↦ absurd (let s : 1 ≤ times f fs = rw e at some in omega arith)
      | inr d ↦ rw (update_other w.slab f v g d) k.1
    ],
  ),
)

pub run-same : (w : World) (f : ℕ) (v : SlabWord) (cache : ℕ) (run : Option FrameRun) (stored : ℕ) → v.objects ≡ (w.slab f).objects → IsHeldRun w cache run stored → IsHeldRun (set_slab w f v) cache run stored
run-same w f v cache None stored objects ok = tt
run-same w f v cache (Some run) stored objects ok = (ok.0, objects-same w f v objects run.frame ∙ ok.1, ok.2)

-- the others, whatever they do
others-slab : (w : World) (x : Worker) (f : ℕ) (v : SlabWord) (o : Worker) → IsSetup w.setup → v.cache ≡ (w.slab f).cache → v.objects ≡ (w.slab f).objects → MayChange w x f v
    → (1 ≤ home_of f x + off_list (w.slab f) → home_of f o ≡ 0) → (1 ≤ home_of f x + off_list (w.slab f) → (n : ℕ) → n < w.setup.locks → times f (frames_in (w.value n)) ≡ 0)
    → IsAtWork w o → IsAtWork (set_slab w f v) o
others-slab w x f v o setup cache objects may apart off ok = record {
  spot = ok.spot;
  seen = record {
    cpu_word = ok.seen.cpu_word;
    next = ok.seen.next;
    linked_cpu = ok.seen.linked_cpu;
    linked_slab = ok.seen.linked_slab;
    known = λ k d below is. ok.seen.known k d below is ∙ sym (cache_at-same w f v cache objects (get_or o.local.known k d).frame);
    hands = hands may;
    string = string may;
    run = run-same w f v o.local.cache o.local.run (stored_in o.local.spot (run_of o.local).objects) objects ok.seen.run;
    emptied = λ s. emptied s may (cases_eq (hand_of o.local).frame f);
    freed_last = λ s. let r = ok.seen.freed_last s in (still (here o.local).frame r.0 (ok.spot.plain (freed_last-plain o.local.spot s)).0 r.1 may (cases_eq (here o.local).frame f), r.1);
    scanned = λ s. let r = ok.seen.scanned s in (still (scanned_slab w.value o.local) r.0 (ok.spot.plain (scanned-plain o.local.spot s)).0 r.1 may (cases_eq (scanned_slab w.value o.local) f), r.1);
    scan = ok.seen.scan;
    scan_next = ok.seen.scan_next;
    locks = ok.seen.locks;
  };
}
  where
    hands : MayChange w x f v → AreHeld (set_slab w f v) o.local.cache (roles o.local.spot (length o.local.hands)) o.local.hands o.chains (end_of o.local)
    hands (keeps_marks frozen listed head used) = held-marked w f v o.local.cache (roles o.local.spot (length o.local.hands)) o.local.hands o.chains (end_of o.local) cache frozen listed head ok.seen.hands
    hands (is_mine mine) = held-apart w f v o.local.cache (roles o.local.spot (length o.local.hands)) o.local.hands o.chains (end_of o.local) (let a = apart mine in omega arith) ok.seen.hands

    string : MayChange w x f v → IsHeldString (set_slab w f v) o.local.cache o.local.string o.string
    string (keeps_marks frozen listed head used) = string-marked w f v o.local.cache o.local.string o.string cache frozen listed head ok.seen.string
    string (is_mine mine) = string-apart w f v o.local.cache o.local.string o.string (let a = apart mine in omega arith) ok.seen.string

    emptied : is_emptied o.local.spot ≡ true → MayChange w x f v → ((hand_of o.local).frame ≡ f) ⊎ ((hand_of o.local).frame ≡ f → ⊥) → IsEmptied (update w.slab f v (hand_of o.local).frame) o.local
    emptied s m (inr d) = rw (update_other w.slab f v (hand_of o.local).frame d) (ok.seen.emptied s)
    emptied s (keeps_marks frozen listed head used) (inl e) = absurd (let n = (ok.seen.emptied s).none in let z : (w.slab f).inuse ≡ 0 = rw e at n in omega arith)
    emptied s (is_mine mine) (inl e) = absurd (let a = apart mine in let h = hand-home f o.local.hands (emptied-hand o.local.spot (length o.local.hands) o.local.hands o.chains s ok.spot.hands) e in omega arith)

    still : (g : ℕ) → IsEmptied (w.slab g) o.local → o.local.cache < 32 → 1 ≤ times g (frames_in (w.value (node_lock o.local.cache))) → MayChange w x f v → (g ≡ f) ⊎ (g ≡ f → ⊥) → IsEmptied (update w.slab f v g) o.local
    still g was in' on m (inr d) = rw (update_other w.slab f v g d) was
    still g was in' on (keeps_marks frozen listed head used) (inl e) = absurd (let n = was.none in let z : (w.slab f).inuse ≡ 0 = rw e at n in omega arith)
    still g was in' on (is_mine mine) (inl e) = absurd (let n = setup.locks in let a : times f (frames_in (w.value (node_lock o.local.cache))) ≡ 0 = off mine (node_lock o.local.cache) (omega arith) in let b : 1 ≤ times f (frames_in (w.value (node_lock o.local.cache))) = rw e at on in omega arith)

abbrev pub set_own : Chains → ℕ → List ℕ → Chains
set_own y f xs = record y { own = update y.own f xs }

-- a slab of a worker's own, or of no list, is on no CPU and no list
mine-off : (w : World) (x : Worker) (others : List Worker) (f : ℕ) (s : Stands w (x ∷ others)) → f ≢ 0 → 1 ≤ home_of f x + off_list (w.slab f)
    → (sum_below w.setup.cpu_words (λ k. one_if ((w.cpu k).frame == f)) ≡ 0) × (on_lists w s.chains f ≡ 0)
mine-off w x others f s some mine =
    let split = homes-cons w s.chains x others f in
    let once = s.listed.once f some in
    let one = live-most (w.slab f) in
    (omega arith, omega arith)

-- What a step on a slab word owes, where the slab stays: its freelist is a chain, and each object, each slab and each mark is where it was or moves between the word and the worker.
pub slab_step : (w : World) (x z : Worker) (others : List Worker) (f : ℕ) (v : SlabWord) (xs : List ℕ) (s : Stands w (x ∷ others))
    → f ≢ 0 → 1 ≤ (w.slab f).objects → (v.head < 2 ^ 16) × (v.inuse < 2 ^ 16) → v.cache ≡ (w.slab f).cache → v.objects ≡ (w.slab f).objects
    → v.inuse + length xs ≡ v.objects → (v.listed ≡ true → (1 ≤ v.head) × (v.frozen ≡ false)) → IsChain (pointer w (w.slab f).cache f) v.head xs
    → ((j : ℕ) → owned f j z + times j xs ≡ owned f j x + times j (s.chains.own f)) → ((g j : ℕ) → (g ≡ f → ⊥) → owned g j z ≡ owned g j x)
    → home_of f z + off_list v ≡ home_of f x + off_list (w.slab f) → ((g : ℕ) → (g ≡ f → ⊥) → home_of g z ≡ home_of g x)
    → marked_of f z + one_if (w.slab f).listed ≡ marked_of f x + one_if v.listed → ((g : ℕ) → (g ≡ f → ⊥) → marked_of g z ≡ marked_of g x)
    → ((g : ℕ) → covered_by g z.local.run ≡ covered_by g x.local.run) → ((k : ℕ) → takes k z ≡ takes k x)
    → MayChange w x f v
    → IsAtWork (set_slab w f v) z
    → Stands (set_slab w f v) (z ∷ others)
slab_step w x z others f v xs s real alive fits cache objects counted marks chain moved elsewhere homed homed_elsewhere marked marked_elsewhere covered locks may ok =
    let y = s.chains in
    let sh = s.listed.shaped in
    record {
      chains = set_own y f xs;
      placed = record {
        cpu_chain = s.placed.cpu_chain;
        own_chain = λ g. elim (cases_eq g f) [
          | inl e ↦ rw (update_at w.slab f v g e, update_at y.own f xs g e, cache) (rw e chain)
          | inr d ↦ rw (update_other w.slab f v g d, update_other y.own f xs g d) (s.placed.own_chain g)
        ];
        once = λ g j.
            let new = places-cons (set_slab w f v) (set_own y f xs) z others g j in
            let old = places-cons w y x others g j in
            let was = s.placed.once g j in
            let there : object_at (set_slab w f v) g j ≡ object_at w g j = ap (λ n. one_if (nat_lt j n)) (objects_at-same w f v objects g) in
            elim (cases_eq g f) [
              | inl e ↦
                  let own : update y.own f xs g ≡ xs = update_at y.own f xs g e in
                  let both : owned g j z + times j xs ≡ owned g j x + times j (y.own g) = rw e (moved j) in
                  let t : times j (update y.own f xs g) ≡ times j xs = ap (times j) own in
                  omega arith
              | inr d ↦
                  let own : times j (update y.own f xs g) ≡ times j (y.own g) = ap (times j) (update_other y.own f xs g d) in
                  let h = elsewhere g j d in
                  omega arith
            ];
      };
      listed = record {
        once = λ g some. slab-homes g some (cases_eq g f);
        marked = λ g. slab-marks g (cases_eq g f);
        framed = λ g.
            let new = roles-cons (set_slab w f v) z others g in
            let old = roles-cons w x others g in
            let was = s.listed.framed g in
            let e = covered g in
            let c : sum_below w.setup.frames (λ h. covers (set_slab w f v) g h) ≡ sum_below w.setup.frames (λ h. covers w g h) = sum_below_same w.setup.frames (λ h. covers w g h) (λ h. covers (set_slab w f v) g h) (λ h below. rw (objects_at-same w f v objects h, order_at-same w f v cache objects h) refl) in
            omega arith;
        locked = λ k in'. let a = sum_by-cons (takes k) x others in let b = sum_by-cons (takes k) z others in let e = locks k in let o = s.listed.locked k in' in omega arith;
        shaped = record {
          no_slab = rw (objects_at-same w f v objects 0) sh.no_slab;
          no_lists = sh.no_lists;
          marks = λ g. elim (cases_eq g f) [ inl e ↦ rw (update_at w.slab f v g e) marks | inr d ↦ rw (update_other w.slab f v g d) (sh.marks g) ];
          current = λ n in' some. current-slab n in' some (cases_eq (w.cpu n).frame f);
          bare = sh.bare;
          string = sh.string;
          count = sh.count;
          partial = λ n g in' some. partial-slab n g in' some (cases_eq g f);
          node = λ k g in' some. node-slab k g in' some (cases_eq g f);
          counted = λ g. elim (cases_eq g f) [
            | inl e ↦ rw (update_at w.slab f v g e, update_at y.own f xs g e) counted
            | inr d ↦ rw (update_other w.slab f v g d, update_other y.own f xs g d) (sh.counted g)
          ];
          plain = λ g. rw (objects-same w f v objects g, caches-same w f v cache g) (sh.plain g);
          sized = λ g. rw (objects-same w f v objects g, caches-same w f v cache g) (sh.sized g);
          aligned = λ g. rw (objects_at-same w f v objects g, order_at-same w f v cache objects g) (sh.aligned g);
          within = λ g. rw (objects_at-same w f v objects g) (sh.within g);
          alone = λ g. rw (objects-same w f v objects g) (sh.alone g);
          unslabbed = λ g. elim (cases_eq g f) [
            | inl e ↦ λ none. absurd (let a : v.objects ≡ 0 = rw (update_at w.slab f v g e) at none in omega arith)
            | inr d ↦ rw (update_other w.slab f v g d) (sh.unslabbed g)
          ];
          guarded = sh.guarded;
          board = λ o b in' is. sh.board o b in' is ∙ sym (cache_at-same w f v cache objects b.frame);
        };
      };
      fresh = record {
        setup = s.fresh.setup;
        worded = record {
          cpu = s.fresh.worded.cpu;
          slab = each_updated w.slab f v (λ _ (s : SlabWord). (s.head < 2 ^ 16) × (s.inuse < 2 ^ 16) × (s.objects < 2 ^ 16) × (s.cache < 2 ^ 8)) (fits.0, fits.1, rw objects (s.fresh.worded.slab f).2, rw cache (s.fresh.worded.slab f).3) (λ g _. s.fresh.worded.slab g);
          list = s.fresh.worded.list;
          link = s.fresh.worded.link;
          room = s.fresh.worded.room;
          remainder = s.fresh.worded.remainder;
        };
        workers = All-cons (IsAtWork (set_slab w f v)) z others ok
            (λ k d in'. others-slab w x f v (get_or others k d) s.fresh.setup cache objects may (λ t. mine-alone w x others f s real t k d in')
            (λ t n below. let z = (mine-off w x others f s real t).1 in let h = term_le_sum w.setup.locks (λ n. times f (frames_in (w.value n))) n below in omega arith)
            (All-tail (IsAtWork w) x others s.fresh.workers k d in'));
      };
    }
  where
    slab-homes : (g : ℕ) → g ≢ 0 → (g ≡ f) ⊎ (g ≡ f → ⊥) → homes (set_slab w f v) s.chains (z ∷ others) g + off_list (update w.slab f v g) ≡ live (update w.slab f v g)
    slab-homes g some (inl e) =
        let new = homes-cons (set_slab w f v) s.chains z others g in
        let old = homes-cons w s.chains x others g in
        let was = s.listed.once g some in
        let o : off_list (update w.slab f v g) ≡ off_list v = ap off_list (update_at w.slab f v g e) in
        let v' : live (update w.slab f v g) ≡ live (w.slab g) = ap (λ n. one_if (nat_lt 0 n)) (objects-same w f v objects g) in
        let h : home_of g z + off_list v ≡ home_of g x + off_list (w.slab g) = rw e homed in
        omega arith
    slab-homes g some (inr d) =
        let new = homes-cons (set_slab w f v) s.chains z others g in
        let old = homes-cons w s.chains x others g in
        let was = s.listed.once g some in
        let o : off_list (update w.slab f v g) ≡ off_list (w.slab g) = ap off_list (update_other w.slab f v g d) in
        let v' : live (update w.slab f v g) ≡ live (w.slab g) = ap live (update_other w.slab f v g d) in
        let h = homed_elsewhere g d in
        omega arith

    slab-marks : (g : ℕ) → (g ≡ f) ⊎ (g ≡ f → ⊥) → sum_by (marked_of g) (z ∷ others) + sum_below w.setup.locks (λ n. times g (frames_in (w.value n))) ≡ one_if (update w.slab f v g).listed
    slab-marks g (inl e) =
        let new = sum_by-cons (marked_of g) z others in
        let old = sum_by-cons (marked_of g) x others in
        let was = s.listed.marked g in
        let a : one_if (update w.slab f v g).listed ≡ one_if v.listed = ap (λ (s : SlabWord). one_if s.listed) (update_at w.slab f v g e) in
        let h : marked_of g z + one_if (w.slab g).listed ≡ marked_of g x + one_if v.listed = rw e marked in
        omega arith
    slab-marks g (inr d) =
        let new = sum_by-cons (marked_of g) z others in
        let old = sum_by-cons (marked_of g) x others in
        let was = s.listed.marked g in
        let a : one_if (update w.slab f v g).listed ≡ one_if (w.slab g).listed = ap (λ (s : SlabWord). one_if s.listed) (update_other w.slab f v g d) in
        let h = marked_elsewhere g d in
        omega arith

    current-slab : (n : ℕ) → n < w.setup.cpu_words → (w.cpu n).frame ≢ 0 → ((w.cpu n).frame ≡ f) ⊎ ((w.cpu n).frame ≡ f → ⊥) → ((update w.slab f v (w.cpu n).frame).cache ≡ n / 16) × ((update w.slab f v (w.cpu n).frame).frozen ≡ true)
    current-slab n in' some (inr d) = rw (update_other w.slab f v (w.cpu n).frame d) (s.listed.shaped.current n in' some)
    current-slab n in' some (inl e) =
        let was = s.listed.shaped.current n in' some in
        (caches-same w f v cache (w.cpu n).frame ∙ was.0, rw (update_at w.slab f v (w.cpu n).frame e) (frozen-here may))
      where
        frozen-here : MayChange w x f v → v.frozen ≡ true
        frozen-here (keeps_marks frozen listed head used) = frozen ∙ subst (λ g. (w.slab g).frozen ≡ true) e (s.listed.shaped.current n in' some).1
        frozen-here (is_mine mine) = absurd (let z = (mine-off w x others f s real mine).0 in let c : 1 ≤ sum_below w.setup.cpu_words (λ k. one_if ((w.cpu k).frame == f)) = rw e at (on-cpu w n in') in omega arith)

    partial-slab : (n g : ℕ) → n < w.setup.cpu_words → 1 ≤ times g (s.chains.list n) → (g ≡ f) ⊎ (g ≡ f → ⊥) → IsStocked (update w.slab f v g) (n / 16) × ((update w.slab f v g).listed ≡ false)
    partial-slab n g in' some (inr d) = rw (update_other w.slab f v g d) (s.listed.shaped.partial n g in' some)
    partial-slab n g in' some (inl e) = rw (update_at w.slab f v g e) (here-kept may)
      where
        here-kept : MayChange w x f v → IsStocked v (n / 16) × (v.listed ≡ false)
        here-kept (keeps_marks frozen listed head used) = let was = rw e at (s.listed.shaped.partial n g in' some) in (record { owner = cache ∙ was.0.owner; head = head; unfrozen = frozen ∙ was.0.unfrozen }, listed ∙ was.1)
        here-kept (is_mine mine) = absurd (let z = (mine-off w x others f s real mine).1 in let c = on-list w s.chains n f in' (rw e at some) in omega arith)

    node-slab : (k g : ℕ) → node_lock k < w.setup.locks → 1 ≤ times g (frames_in (w.value (node_lock k))) → (g ≡ f) ⊎ (g ≡ f → ⊥) → IsStocked (update w.slab f v g) k
    node-slab k g in' some (inr d) = rw (update_other w.slab f v g d) (s.listed.shaped.node k g in' some)
    node-slab k g in' some (inl e) = rw (update_at w.slab f v g e) (here-kept may)
      where
        here-kept : MayChange w x f v → IsStocked v k
        here-kept (keeps_marks frozen listed head used) = let was = rw e at (s.listed.shaped.node k g in' some) in record { owner = cache ∙ was.owner; head = head; unfrozen = frozen ∙ was.unfrozen }
        here-kept (is_mine mine) = absurd (let z = (mine-off w x others f s real mine).1 in let c = on-node w s.chains (node_lock k) f in' (rw e at some) in omega arith)
