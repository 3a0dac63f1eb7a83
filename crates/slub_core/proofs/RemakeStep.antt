-- A step that makes a slab of a run in hand, or a run of a slab in hand.
use Rattle.std.proofs.Common.{◌≡◌, ◌≢◌, ℕ, zero, suc, ◌+◌, ◌%◌, ◌^◌, ◌<◌, ◌≤◌, ◌⊎◌, ◌==◌, ◌&&◌, Bool, true, false, Option, Some, None, List, ◌∷◌, length, get_or, refl, sym, ap, ◌∙◌, subst, arith, inl, inr}
use Rattle.std.specs.Prelude.{All, sum_by, nat_lt}
use Rattle.std.proofs.lemmas.Bool.{cases_eq, cases_lt, eq-eqb, lt-ltb, le-ltb, le-leb, false≢true}
use Rattle.std.proofs.lemmas.List.Sums.{sum_by-cons}
use Rattle.std.proofs.lemmas.List.Elements.{All-cons, All-tail}
use Rattle.slub_common.specs.Times.{times}
use Rattle.slub_words.specs.declared.slab.SlabWord.{SlabWord}
use Rattle.slub_words.specs.declared.board.BoardWord.{BoardWord}
use Rattle.slub_core.specs.declared.local.Known.{Known}
use Rattle.slub_core.specs.declared.local.FrameRun.{FrameRun}
use Rattle.slub_core.specs.Setup.{IsPlain, IsSetup, node_lock}
use Rattle.slub_object_layout.specs.Layout.{order_for, IsSized}
use Rattle.slub_core.specs.World.{World, Chains, LockValue, update, set_slab, pointer, objects_at, cache_at, order_at, object_at, objects_in_values, on_board, frames_in, size_in, one_if, sum_below, live, off_list, in_run, covers, IsChain}
use Rattle.slub_core.specs.Local.{Worker, here, hand_of, run_of}
use Rattle.slub_core.specs.Offline.{scanned_slab}
use Rattle.slub_core.specs.Spots.{roles, stored_in}
use Rattle.slub_core.specs.Placed.{owned}
use Rattle.slub_core.specs.Listed.{home_of, homes, on_lists, marked_of, covered_by, takes}
use Rattle.slub_core.specs.Fresh.{IsHeldRun, IsAtWork, end_of}
use Rattle.slub_core.specs.Coherent.{Stands}
use Rattle.slub_core.proofs.Counts.{All-from_no_sum, places-cons, homes-cons, roles-cons}
use Rattle.slub_core.proofs.Homes.{on-cpu, on-list, on-node, hand-home}
use Rattle.slub_core.proofs.SlabStep.{held-apart, string-apart, set_own}
use Rattle.slub_core.proofs.Spots.{freed_last-plain, scanned-plain, emptied-hand}
use Rattle.slub_core.proofs.Update.{update_same, update_other, update_at, each_updated, sum_below_change, term_le_sum}
use Rattle.slub_core.proofs.ValueStep.{known-owned}

-- nobody else has anything of the slab, nor of its frames, and it is on no list
pub record IsUnseen (w : World) (y : Chains) (others : List Worker) (f : ℕ) : Type 0 where
  pub owned : (i : ℕ) → All (λ o. owned f i o ≡ 0) others
  pub homes : All (λ o. home_of f o ≡ 0) others
  pub runs : All (λ (o : Worker). covered_by f o.local.run ≡ 0) others
  pub board : (o : ℕ) (b : BoardWord) → o < w.setup.objects → w.board o ≡ Some b → b.frame ≡ f → ⊥
  pub cpus : (n : ℕ) → n < w.setup.cpu_words → (w.cpu n).frame ≡ f → ⊥
  pub lists : on_lists w y f ≡ 0

-- the new word is 0, or that of a slab of a live unchecked cache
pub record IsNewSlab (w : World) (f : ℕ) (v : SlabWord) (xs : List ℕ) : Type 0 where
  pub fits : (v.head < 2 ^ 16) × (v.inuse < 2 ^ 16) × (v.objects < 2 ^ 16) × (v.cache < 2 ^ 8)
  pub counted : v.inuse + length xs ≡ v.objects
  pub chain : IsChain (pointer w v.cache f) v.head xs
  pub unlisted : v.listed ≡ false
  pub plain : 1 ≤ v.objects → IsPlain w.setup v.cache
  pub sized : 1 ≤ v.objects → IsSized (w.setup.layout v.cache) (order_for (w.setup.layout v.cache) v.objects) v.objects
  pub aligned : 1 ≤ v.objects → f % 2 ^ order_for (w.setup.layout v.cache) v.objects ≡ 0
  pub none : v.objects ≡ 0 → (v.head ≡ 0) × (v.frozen ≡ false)
  pub alone : sum_below w.setup.locks (λ n. one_if (nat_lt 0 (size_in (w.value n) f))) ≡ 0

-- ---- the slab by its new word, and each other slab

-- where no value has a slab
pub no_value-objects : (value : ℕ → LockValue) (n f : ℕ) → sum_below n (λ k. one_if (nat_lt 0 (size_in (value k) f))) ≡ 0 → objects_in_values value n f ≡ 0
no_value-objects value zero f none = refl
no_value-objects value (suc n) f none =
    elim (cases_lt 0 (size_in (value n) f)) [
      | inl l ↦ absurd (let o : one_if (nat_lt 0 (size_in (value n) f)) ≡ 1 = rw (lt-ltb 0 (size_in (value n) f) l) refl in omega arith)
      | inr g ↦ rw (le-ltb 0 (size_in (value n) f) g) (no_value-objects value n f (omega arith))
    ]

pub objects-new : (w : World) (f : ℕ) (v : SlabWord) → sum_below w.setup.locks (λ n. one_if (nat_lt 0 (size_in (w.value n) f))) ≡ 0 → objects_at (set_slab w f v) f ≡ v.objects
objects-new w f v alone = rw (update_same w.slab f v) (elim (cases_lt 0 v.objects) [
  | inl l ↦ rw (lt-ltb 0 v.objects l) refl
  | inr g ↦ rw (le-ltb 0 v.objects g, no_value-objects w.value w.setup.locks f alone) (omega arith)
])

pub order-new : (w : World) (f : ℕ) (v : SlabWord) → 1 ≤ v.objects → order_at (set_slab w f v) f ≡ order_for (w.setup.layout v.cache) v.objects
order-new w f v some = rw (update_same w.slab f v, lt-ltb 0 v.objects (omega arith)) refl

pub objects-elsewhere : (w : World) (f : ℕ) (v : SlabWord) (g : ℕ) → (g ≡ f → ⊥) → objects_at (set_slab w f v) g ≡ objects_at w g
objects-elsewhere w f v g d = rw (update_other w.slab f v g d) refl

pub cache-elsewhere : (w : World) (f : ℕ) (v : SlabWord) (g : ℕ) → (g ≡ f → ⊥) → cache_at (set_slab w f v) g ≡ cache_at w g
cache-elsewhere w f v g d = rw (update_other w.slab f v g d) refl

pub order-elsewhere : (w : World) (f : ℕ) (v : SlabWord) (g : ℕ) → (g ≡ f → ⊥) → order_at (set_slab w f v) g ≡ order_at w g
order-elsewhere w f v g d = rw (update_other w.slab f v g d) refl

-- the frames of a slab that is made, and those of what is none
pub covers-new : (w : World) (f g : ℕ) (v : SlabWord) (order : ℕ) → sum_below w.setup.locks (λ n. one_if (nat_lt 0 (size_in (w.value n) f))) ≡ 0 → 1 ≤ v.objects → order_for (w.setup.layout v.cache) v.objects ≡ order → covers (set_slab w f v) g f ≡ in_run g f order
covers-new w f g v order alone some is = rw (objects-new w f v alone, lt-ltb 0 v.objects some, order-new w f v some, is) refl

pub covers-none : (w : World) (f g : ℕ) → objects_at w f ≡ 0 → covers w g f ≡ 0
covers-none w f g none = rw none refl

-- ---- the others

pub pow-some : (n : ℕ) → 1 ≤ 2 ^ n
pow-some zero = omega arith
pow-some (suc n) = let r = pow-some n in omega arith

pub run-first : (f : ℕ) (order : ℕ) → in_run f f order ≡ 1
run-first f order = let room : 1 ≤ 2 ^ order = pow-some order in rw (le-leb f f (omega arith), lt-ltb f (f + 2 ^ order) (omega arith)) refl

run-unseen : (w : World) (f : ℕ) (v : SlabWord) (cache : ℕ) (run : Option FrameRun) (stored : ℕ) → covered_by f run ≡ 0 → IsHeldRun w cache run stored → IsHeldRun (set_slab w f v) cache run stored
run-unseen w f v cache None stored none ok = tt
run-unseen w f v cache (Some run) stored none ok =
    let d : run.frame ≡ f → ⊥ = λ e. absurd (let one = run-first f run.order in let z : in_run f f run.order ≡ 0 = rw e at none in omega arith) in
    (ok.0, ap (λ (s : SlabWord). s.objects) (update_other w.slab f v run.frame d) ∙ ok.1, ok.2)

others-unseen : (w : World) (f : ℕ) (v : SlabWord) (o : Worker) → IsSetup w.setup → ((i : ℕ) → owned f i o ≡ 0) → home_of f o ≡ 0 → covered_by f o.local.run ≡ 0
    → ((n : ℕ) → n < w.setup.locks → times f (frames_in (w.value n)) ≡ 0) → IsAtWork w o → IsAtWork (set_slab w f v) o
others-unseen w f v o setup none home run off ok = record {
  spot = ok.spot;
  seen = record {
    cpu_word = ok.seen.cpu_word;
    next = ok.seen.next;
    linked_cpu = ok.seen.linked_cpu;
    linked_slab = ok.seen.linked_slab;
    known = λ k d below is. known-unseen k d below is;
    hands = held-apart w f v o.local.cache (roles o.local.spot (length o.local.hands)) o.local.hands o.chains (end_of o.local) (omega arith) ok.seen.hands;
    string = string-apart w f v o.local.cache o.local.string o.string (omega arith) ok.seen.string;
    run = run-unseen w f v o.local.cache o.local.run (stored_in o.local.spot (run_of o.local).objects) run ok.seen.run;
    emptied = λ s. rw (update_other w.slab f v (hand_of o.local).frame (λ e. absurd (let h = hand-home f o.local.hands (emptied-hand o.local.spot (length o.local.hands) o.local.hands o.chains s ok.spot.hands) e in omega arith))) (ok.seen.emptied s);
    freed_last = λ s. let r = ok.seen.freed_last s in (rw (update_other w.slab f v (here o.local).frame (λ e. on-none (here o.local).frame (ok.spot.plain (freed_last-plain o.local.spot s)).0 r.1 e)) r.0, r.1);
    scanned = λ s. let r = ok.seen.scanned s in (rw (update_other w.slab f v (scanned_slab w.value o.local) (λ e. on-none (scanned_slab w.value o.local) (ok.spot.plain (scanned-plain o.local.spot s)).0 r.1 e)) r.0, r.1);
    scan = ok.seen.scan;
    scan_next = ok.seen.scan_next;
    locks = ok.seen.locks;
  };
}
  where
    known-unseen : (k : ℕ) (d : Known) → k < length o.local.known → (get_or o.local.known k d).held ≡ true → (get_or o.local.known k d).cache ≡ cache_at (set_slab w f v) (get_or o.local.known k d).frame
    known-unseen k d below is =
        let g = get_or o.local.known k d in
        let some = known-owned o k d below is in
        ok.seen.known k d below is ∙ sym (cache-elsewhere w f v g.frame (λ e. absurd (let z : owned g.frame g.index o ≡ 0 = subst (λ h. owned h g.index o ≡ 0) (sym e) (none g.index) in omega arith)))

    on-none : (g : ℕ) → o.local.cache < 32 → 1 ≤ times g (frames_in (w.value (node_lock o.local.cache))) → g ≡ f → ⊥
    on-none g in' on e = absurd (let n = setup.locks in let a = off (node_lock o.local.cache) (omega arith) in let b : 1 ≤ times f (frames_in (w.value (node_lock o.local.cache))) = rw e at on in omega arith)

-- What kinds 21 and 22 owe: the objects come or go with the slab, and the frames go between the slab and the run in hand.
pub remake_step : (w : World) (x z : Worker) (others : List Worker) (f : ℕ) (v : SlabWord) (xs : List ℕ) (s : Stands w (x ∷ others))
    → f ≢ 0 → f < w.setup.frames → IsUnseen w s.chains others f → IsNewSlab w f v xs
    → ((j : ℕ) → owned f j z + times j xs + object_at w f j ≡ owned f j x + times j (s.chains.own f) + one_if (nat_lt j v.objects)) → ((g j : ℕ) → (g ≡ f → ⊥) → owned g j z ≡ owned g j x)
    → home_of f z + off_list v + live (w.slab f) ≡ home_of f x + off_list (w.slab f) + live v → ((g : ℕ) → (g ≡ f → ⊥) → home_of g z ≡ home_of g x)
    → marked_of f z + one_if (w.slab f).listed ≡ marked_of f x → ((g : ℕ) → (g ≡ f → ⊥) → marked_of g z ≡ marked_of g x)
    → ((g : ℕ) → covered_by g z.local.run + covers (set_slab w f v) g f ≡ covered_by g x.local.run + covers w g f) → ((k : ℕ) → takes k z ≡ takes k x)
    → IsAtWork (set_slab w f v) z
    → Stands (set_slab w f v) (z ∷ others)
remake_step w x z others f v xs s real below unseen new moved elsewhere homed homed_elsewhere marked marked_elsewhere covered locks ok =
    let y = s.chains in
    let sh = s.listed.shaped in
    record {
      chains = set_own y f xs;
      placed = record {
        cpu_chain = s.placed.cpu_chain;
        own_chain = λ g. elim (cases_eq g f) [
          | inl e ↦ rw (update_at w.slab f v g e, update_at y.own f xs g e) (rw e new.chain)
          | inr d ↦ rw (update_other w.slab f v g d, update_other y.own f xs g d) (s.placed.own_chain g)
        ];
        once = λ g j.
            let new' = places-cons (set_slab w f v) (set_own y f xs) z others g j in
            let old = places-cons w y x others g j in
            let was = s.placed.once g j in
            elim (cases_eq g f) [
              | inl e ↦
                  let t : times j (update y.own f xs g) ≡ times j xs = ap (times j) (update_at y.own f xs g e) in
                  let there : object_at (set_slab w f v) g j ≡ one_if (nat_lt j v.objects) = rw e (ap (λ n. one_if (nat_lt j n)) (objects-new w f v new.alone)) in
                  let both : owned g j z + times j xs + object_at w g j ≡ owned g j x + times j (y.own g) + one_if (nat_lt j v.objects) = rw e (moved j) in
                  omega arith
              | inr d ↦
                  let t : times j (update y.own f xs g) ≡ times j (y.own g) = ap (times j) (update_other y.own f xs g d) in
                  let there : object_at (set_slab w f v) g j ≡ object_at w g j = ap (λ n. one_if (nat_lt j n)) (objects-elsewhere w f v g d) in
                  let h = elsewhere g j d in
                  omega arith
            ];
      };
      listed = record {
        once = λ g some. slab-homes g some (cases_eq g f);
        marked = λ g. slab-marks g (cases_eq g f);
        framed = λ g.
            let new' = roles-cons (set_slab w f v) z others g in
            let old = roles-cons w x others g in
            let was = s.listed.framed g in
            let e = covered g in
            let c = sum_below_change w.setup.frames (λ h. covers w g h) (λ h. covers (set_slab w f v) g h) f below (λ h d. rw (objects-elsewhere w f v h d, order-elsewhere w f v h d) refl) in
            omega arith;
        locked = λ k in'. let a = sum_by-cons (takes k) x others in let b = sum_by-cons (takes k) z others in let e = locks k in let o = s.listed.locked k in' in omega arith;
        shaped = record {
          no_slab = objects-elsewhere w f v 0 (λ e. real (sym e)) ∙ sh.no_slab;
          no_lists = sh.no_lists;
          marks = λ g. elim (cases_eq g f) [
            | inl e ↦ λ is. absurd (false≢true (sym new.unlisted ∙ rw (update_at w.slab f v g e) at is))
            | inr d ↦ rw (update_other w.slab f v g d) (sh.marks g)
          ];
          current = λ n in' some. rw (update_other w.slab f v (w.cpu n).frame (unseen.cpus n in')) (sh.current n in' some);
          bare = sh.bare;
          string = sh.string;
          count = sh.count;
          partial = λ n g in' some. rw (update_other w.slab f v g (λ e. absurd (let o = on-list w y n f in' (rw e at some) in let z = unseen.lists in omega arith))) (sh.partial n g in' some);
          node = λ k g in' some. rw (update_other w.slab f v g (λ e. absurd (let o = on-node w y (node_lock k) f in' (rw e at some) in let z = unseen.lists in omega arith))) (sh.node k g in' some);
          counted = λ g. elim (cases_eq g f) [
            | inl e ↦ rw (update_at w.slab f v g e, update_at y.own f xs g e) new.counted
            | inr d ↦ rw (update_other w.slab f v g d, update_other y.own f xs g d) (sh.counted g)
          ];
          plain = each_updated w.slab f v (λ _ (s : SlabWord). 1 ≤ s.objects → IsPlain w.setup s.cache) new.plain (λ g _. sh.plain g);
          sized = λ g. elim (cases_eq g f) [
            | inl e ↦ rw e (λ some. let o : 1 ≤ v.objects = rw (update_same w.slab f v) at some in rw (order-new w f v o, update_same w.slab f v) (new.sized o))
            | inr d ↦ rw (order-elsewhere w f v g d, update_other w.slab f v g d) (sh.sized g)
          ];
          aligned = λ g. elim (cases_eq g f) [
            | inl e ↦ rw e (λ some. let o : 1 ≤ v.objects = rw (objects-new w f v new.alone) at some in rw (order-new w f v o) (new.aligned o))
            | inr d ↦ rw (objects-elsewhere w f v g d, order-elsewhere w f v g d) (sh.aligned g)
          ];
          within = λ g. elim (cases_eq g f) [
            | inl e ↦ λ some. rw e below
            | inr d ↦ rw (objects-elsewhere w f v g d) (sh.within g)
          ];
          alone = λ g. elim (cases_eq g f) [
            | inl e ↦ rw e (let a = new.alone in let o = live-one (update w.slab f v f) in omega arith)
            | inr d ↦ rw (update_other w.slab f v g d) (sh.alone g)
          ];
          unslabbed = λ g. elim (cases_eq g f) [
            | inl e ↦ rw (update_at w.slab f v g e) (λ none. let z = new.none none in (z.0, z.1, new.unlisted))
            | inr d ↦ rw (update_other w.slab f v g d) (sh.unslabbed g)
          ];
          guarded = sh.guarded;
          board = λ o b in' is. sh.board o b in' is ∙ sym (cache-elsewhere w f v b.frame (unseen.board o b in' is));
        };
      };
      fresh = record {
        setup = s.fresh.setup;
        worded = record {
          cpu = s.fresh.worded.cpu;
          slab = each_updated w.slab f v (λ _ (s : SlabWord). (s.head < 2 ^ 16) × (s.inuse < 2 ^ 16) × (s.objects < 2 ^ 16) × (s.cache < 2 ^ 8)) new.fits (λ g _. s.fresh.worded.slab g);
          list = s.fresh.worded.list;
          link = s.fresh.worded.link;
          room = s.fresh.worded.room;
          remainder = s.fresh.worded.remainder;
        };
        workers = All-cons (IsAtWork (set_slab w f v)) z others ok
            (λ k d in'. others-unseen w f v (get_or others k d) s.fresh.setup (λ i. unseen.owned i k d in') (unseen.homes k d in') (unseen.runs k d in')
            (λ n under. let z = unseen.lists in let h = term_le_sum w.setup.locks (λ n. times f (frames_in (w.value n))) n under in omega arith)
            (All-tail (IsAtWork w) x others s.fresh.workers k d in'));
      };
    }
  where
    live-one : (s : SlabWord) → live s ≤ 1
    live-one s = one-most (nat_lt 0 s.objects)
      where
        one-most : (b : Bool) → one_if b ≤ 1
        one-most true = omega arith
        one-most false = omega arith

    slab-homes : (g : ℕ) → g ≢ 0 → (g ≡ f) ⊎ (g ≡ f → ⊥) → homes (set_slab w f v) s.chains (z ∷ others) g + off_list (update w.slab f v g) ≡ live (update w.slab f v g)
    slab-homes g some (inl e) =
        let new' = homes-cons (set_slab w f v) s.chains z others g in
        let old = homes-cons w s.chains x others g in
        let was = s.listed.once g some in
        let o : off_list (update w.slab f v g) ≡ off_list v = ap off_list (update_at w.slab f v g e) in
        let a : live (update w.slab f v g) ≡ live v = ap live (update_at w.slab f v g e) in
        let h : home_of g z + off_list v + live (w.slab g) ≡ home_of g x + off_list (w.slab g) + live v = rw e homed in
        omega arith
    slab-homes g some (inr d) =
        let new' = homes-cons (set_slab w f v) s.chains z others g in
        let old = homes-cons w s.chains x others g in
        let was = s.listed.once g some in
        let o : off_list (update w.slab f v g) ≡ off_list (w.slab g) = ap off_list (update_other w.slab f v g d) in
        let a : live (update w.slab f v g) ≡ live (w.slab g) = ap live (update_other w.slab f v g d) in
        let h = homed_elsewhere g d in
        omega arith

    slab-marks : (g : ℕ) → (g ≡ f) ⊎ (g ≡ f → ⊥) → sum_by (marked_of g) (z ∷ others) + sum_below w.setup.locks (λ n. times g (frames_in (w.value n))) ≡ one_if (update w.slab f v g).listed
    slab-marks g (inl e) =
        let new' = sum_by-cons (marked_of g) z others in
        let old = sum_by-cons (marked_of g) x others in
        let was = s.listed.marked g in
        let a : one_if (update w.slab f v g).listed ≡ 0 = ap (λ (s : SlabWord). one_if s.listed) (update_at w.slab f v g e) ∙ ap one_if new.unlisted in
        let h : marked_of g z + one_if (w.slab g).listed ≡ marked_of g x = rw e marked in
        omega arith
    slab-marks g (inr d) =
        let new' = sum_by-cons (marked_of g) z others in
        let old = sum_by-cons (marked_of g) x others in
        let was = s.listed.marked g in
        let a : one_if (update w.slab f v g).listed ≡ one_if (w.slab g).listed = ap (λ (s : SlabWord). one_if s.listed) (update_other w.slab f v g d) in
        let h = marked_elsewhere g d in
        omega arith

-- ---- where nobody else has anything of a slab

board-count : (w : World) (f i o : ℕ) (b : BoardWord) → o < w.setup.objects → w.board o ≡ Some b → b.frame ≡ f → b.index ≡ i → 1 ≤ sum_below w.setup.objects (λ k. on_board (w.board k) f i)
board-count w f i o b below is frame index =
    let t = term_le_sum w.setup.objects (λ k. on_board (w.board k) f i) o below in
    let one : on_board (w.board o) f i ≡ 1 = ap (λ b'. on_board b' f i) is ∙ rw (eq-eqb b.frame f frame, eq-eqb b.index i index) refl in
    omega arith

-- the worker and the slab's own freelist have all of its objects, its slab is in the worker's hand or is none, and its first frame is the slab's or the worker's
pub unseen : (w : World) (x : Worker) (others : List Worker) (f : ℕ) (s : Stands w (x ∷ others)) → f ≢ 0 → f < w.setup.frames
    → ((j : ℕ) → object_at w f j ≤ owned f j x + times j (s.chains.own f)) → live (w.slab f) ≤ home_of f x + off_list (w.slab f) → 1 ≤ covered_by f x.local.run + covers w f f → IsUnseen w s.chains others f
unseen w x others f s real below all home frame =
    let count = λ (j : ℕ). places-cons w s.chains x others f j in
    let once = s.listed.once f real in
    let split = homes-cons w s.chains x others f in
    record {
      owned = λ j. All-from_no_sum (owned f j) others (let c = count j in let o = s.placed.once f j in let a = all j in omega arith);
      homes = All-from_no_sum (home_of f) others (omega arith);
      runs = All-from_no_sum (λ (o : Worker). covered_by f o.local.run) others (
          let c = roles-cons w x others f in
          let o = s.listed.framed f in
          let t = term_le_sum w.setup.frames (λ h. covers w f h) f below in
          let one = bit (nat_lt 0 f) (nat_lt f w.setup.frames) in
          omega arith);
      board = λ o b in' is e. absurd (let c = count b.index in let p = s.placed.once f b.index in let a = all b.index in let q = board-count w f b.index o b in' is e refl in omega arith);
      cpus = λ n in' e. absurd (let c : 1 ≤ sum_below w.setup.cpu_words (λ k. one_if ((w.cpu k).frame == f)) = rw e at (on-cpu w n in') in omega arith);
      lists = omega arith;
    }
  where
    bit : (a b : Bool) → one_if (a && b) ≤ 1
    bit true true = omega arith
    bit true false = omega arith
    bit false b = omega arith
