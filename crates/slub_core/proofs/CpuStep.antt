-- A step that changes a CPU word.
use Rattle.std.proofs.Common.{◌≡◌, ℕ, ◌+◌, ◌<◌, ◌≢◌, true, List, ◌∷◌, ap, arith, inl, inr, ◌/◌, ◌%◌, ◌^◌, ◌==◌, ◌-◌, ◌⊎◌}
use Rattle.std.proofs.lemmas.Bool.{cases_eq}
use Rattle.std.proofs.lemmas.List.Sums.{sum_by-cons}
use Rattle.std.proofs.lemmas.List.Elements.{All-cons, All-tail, All-weaker}
use Rattle.slub_words.specs.declared.cpu.CpuWord.{CpuWord}
use Rattle.slub_core.specs.World.{World, Chains, update, set_cpu, pointer, one_if, in_chain, IsChain}
use Rattle.slub_core.specs.Local.{Worker}
use Rattle.slub_core.specs.Ops.{own_cpu}
use Rattle.slub_core.specs.Spots.{notes_cpu, notes_next}
use Rattle.slub_core.specs.Placed.{owned}
use Rattle.slub_core.specs.Listed.{home_of, marked_of, covered_by, takes}
use Rattle.slub_core.specs.Fresh.{IsAtWork, IsFreshWord}
use Rattle.slub_core.specs.Coherent.{Stands}
use Rattle.slub_core.proofs.Counts.{places-cons, homes-cons, roles-cons}
use Rattle.slub_core.proofs.Spots.{next-cpu}
use Rattle.slub_core.proofs.Update.{update_same, update_other, each_updated, sum_below_change, update_at}

-- the others don't see a CPU word that grew
others-cpu : (w : World) (n : ℕ) (v : CpuWord) (o : Worker) → (w.cpu n).tid < v.tid → IsAtWork w o → IsAtWork (set_cpu w n v) o
others-cpu w n v o grows ok = record {
  spot = ok.spot;
  seen = record {
    cpu_word = λ s. fresh-word s (cases_eq (own_cpu o.local) n);
    next = λ s. next-word s (cases_eq (own_cpu o.local) n);
    linked_cpu = ok.seen.linked_cpu;
    linked_slab = ok.seen.linked_slab;
    known = ok.seen.known;
    hands = ok.seen.hands;
    string = ok.seen.string;
    run = ok.seen.run;
    emptied = ok.seen.emptied;
    freed_last = ok.seen.freed_last;
    scanned = ok.seen.scanned;
    scan = ok.seen.scan;
    scan_next = ok.seen.scan_next;
    locks = ok.seen.locks;
  };
}
  where
    fresh-word : notes_cpu o.local.spot ≡ true → (own_cpu o.local ≡ n) ⊎ (own_cpu o.local ≡ n → ⊥) → IsFreshWord o.local.cpu_word (update w.cpu n v (own_cpu o.local))
    fresh-word s (inl e) =
        let here : (update w.cpu n v (own_cpu o.local)).tid ≡ v.tid = ap (λ (c : CpuWord). c.tid) (update_at w.cpu n v (own_cpu o.local) e) in
        let was : (w.cpu (own_cpu o.local)).tid ≡ (w.cpu n).tid = ap (λ k. (w.cpu k).tid) e in
        let old = (ok.seen.cpu_word s).old in
        record { old = omega arith; same = λ t. absurd (omega arith) }
    fresh-word s (inr d) = let r = ok.seen.cpu_word s in record { old = rw (update_other w.cpu n v (own_cpu o.local) d) r.old; same = rw (update_other w.cpu n v (own_cpu o.local) d) r.same }

    next-word : notes_next o.local.spot ≡ true → (own_cpu o.local ≡ n) ⊎ (own_cpu o.local ≡ n → ⊥) → o.local.cpu_word.tid ≡ (update w.cpu n v (own_cpu o.local)).tid
        → o.local.next ≡ pointer w o.local.cache o.local.cpu_word.frame (o.local.cpu_word.head - 1) % 2 ^ 16
    next-word s (inl e) t =
        let here : (update w.cpu n v (own_cpu o.local)).tid ≡ v.tid = ap (λ (c : CpuWord). c.tid) (update_at w.cpu n v (own_cpu o.local) e) in
        let was : (w.cpu (own_cpu o.local)).tid ≡ (w.cpu n).tid = ap (λ k. (w.cpu k).tid) e in
        let old = (ok.seen.cpu_word (next-cpu o.local.spot s)).old in
        absurd (omega arith)
    next-word s (inr d) t = ok.seen.next s (rw (update_other w.cpu n v (own_cpu o.local) d) at t)

-- the new word is a word, its transaction id is the next one of its CPU, and a slab can be taken off it
pub record IsNextWord (w : World) (n : ℕ) (v : CpuWord) : Type 0 where
  pub fits : (v.tid < 2 ^ 32) × (v.frame < 2 ^ 16) × (v.head < 2 ^ 16)
  pub grows : (w.cpu n).tid < v.tid
  pub remainder : v.tid % w.setup.step ≡ (w.cpu n).tid % w.setup.step
  pub room : v.frame ≢ 0 → v.tid + w.setup.step < 2 ^ 32
  -- its slab is a frozen one of its cache; without one it has no freelist
  pub slab : v.frame ≢ 0 → ((w.slab v.frame).cache ≡ n / 16) × ((w.slab v.frame).frozen ≡ true)
  pub bare : v.frame ≡ 0 → v.head ≡ 0

abbrev pub set_chain : Chains → ℕ → List ℕ → Chains
set_chain y n xs = record y { cpu = update y.cpu n xs }

-- What a step on the CPU word n owes, beside what the worker relies on after it: the word grows, it leads to a chain, and
-- the worker and that chain have each object and each slab as often as before.
pub cpu_step : (w : World) (x z : Worker) (others : List Worker) (n : ℕ) (v : CpuWord) (xs : List ℕ) (s : Stands w (x ∷ others))
    → n < w.setup.cpu_words → IsNextWord w n v → IsChain (pointer w (n / 16) v.frame) v.head xs
    → ((f i : ℕ) → owned f i z + in_chain v.frame xs f i ≡ owned f i x + in_chain (w.cpu n).frame (s.chains.cpu n) f i)
    → ((f : ℕ) → f ≢ 0 → home_of f z + one_if (v.frame == f) ≡ home_of f x + one_if ((w.cpu n).frame == f))
    → ((f : ℕ) → marked_of f z ≡ marked_of f x) → ((g : ℕ) → covered_by g z.local.run ≡ covered_by g x.local.run) → ((k : ℕ) → takes k z ≡ takes k x)
    → IsAtWork (set_cpu w n v) z
    → Stands (set_cpu w n v) (z ∷ others)
cpu_step w x z others n v xs s below word chain moved homed marked covered locks ok =
    let y = s.chains in
    let sh = s.listed.shaped in
    record {
      chains = set_chain y n xs;
      placed = record {
        cpu_chain = λ k. elim (cases_eq k n) [
          | inl e ↦ λ in'. rw e (rw (update_same w.cpu n v, update_same y.cpu n xs) chain)
          | inr d ↦ λ in'. rw (update_other w.cpu n v k d, update_other y.cpu n xs k d) (s.placed.cpu_chain k in')
        ];
        own_chain = s.placed.own_chain;
        once = λ f i.
            let new = places-cons (set_cpu w n v) (set_chain y n xs) z others f i in
            let old = places-cons w y x others f i in
            let was = s.placed.once f i in
            let both = moved f i in
            let sums = sum_below_change w.setup.cpu_words (λ k. in_chain (w.cpu k).frame (y.cpu k) f i) (λ k. in_chain (update w.cpu n v k).frame (update y.cpu n xs k) f i) n below
            (λ k d. rw (update_other w.cpu n v k d, update_other y.cpu n xs k d)) in
            let here : in_chain (update w.cpu n v n).frame (update y.cpu n xs n) f i ≡ in_chain v.frame xs f i = rw (update_same w.cpu n v, update_same y.cpu n xs) in
            omega arith;
      };
      listed = record {
        once = λ f some.
            let new = homes-cons (set_cpu w n v) (set_chain y n xs) z others f in
            let old = homes-cons w y x others f in
            let was = s.listed.once f some in
            let both = homed f some in
            let sums = sum_below_change w.setup.cpu_words (λ k. one_if ((w.cpu k).frame == f)) (λ k. one_if ((update w.cpu n v k).frame == f)) n below (λ k d. ap (λ (c : CpuWord). one_if (c.frame == f)) (update_other w.cpu n v k d)) in
            let here : one_if ((update w.cpu n v n).frame == f) ≡ one_if (v.frame == f) = ap (λ (c : CpuWord). one_if (c.frame == f)) (update_same w.cpu n v) in
            omega arith;
        marked = λ f. let new = sum_by-cons (marked_of f) z others in let old = sum_by-cons (marked_of f) x others in let was = s.listed.marked f in let e = marked f in omega arith;
        framed = λ g. let new = roles-cons w z others g in let old = roles-cons w x others g in let was = s.listed.framed g in let e = covered g in omega arith;
        locked = λ k in'. let a = sum_by-cons (takes k) x others in let b = sum_by-cons (takes k) z others in let e = locks k in let o = s.listed.locked k in' in omega arith;
        shaped = record {
          no_slab = sh.no_slab;
          no_lists = sh.no_lists;
          marks = sh.marks;
          current = λ k. elim (cases_eq k n) [
            | inl e ↦ λ in'. rw e (rw (update_same w.cpu n v) word.slab)
            | inr d ↦ λ in'. rw (update_other w.cpu n v k d) (sh.current k in')
          ];
          bare = λ k. elim (cases_eq k n) [
            | inl e ↦ λ in'. rw e (rw (update_same w.cpu n v) word.bare)
            | inr d ↦ λ in'. rw (update_other w.cpu n v k d) (sh.bare k in')
          ];
          string = sh.string;
          count = sh.count;
          partial = sh.partial;
          node = sh.node;
          counted = sh.counted;
          plain = sh.plain;
          sized = sh.sized;
          aligned = sh.aligned;
          within = sh.within;
          alone = sh.alone;
          unslabbed = sh.unslabbed;
          guarded = sh.guarded;
          board = sh.board;
        };
      };
      fresh = record {
        setup = s.fresh.setup;
        worded = record {
          cpu = each_updated w.cpu n v (λ _ (c : CpuWord). (c.tid < 2 ^ 32) × (c.frame < 2 ^ 16) × (c.head < 2 ^ 16)) word.fits (λ k _. s.fresh.worded.cpu k);
          slab = s.fresh.worded.slab;
          list = s.fresh.worded.list;
          link = s.fresh.worded.link;
          room = λ k. elim (cases_eq k n) [
            | inl e ↦ λ in'. rw e (rw (update_same w.cpu n v) word.room)
            | inr d ↦ λ in'. rw (update_other w.cpu n v k d) (s.fresh.worded.room k in')
          ];
          remainder = λ k. elim (cases_eq k n) [
            | inl e ↦ λ in' per lives. rw e (rw (update_same w.cpu n v) (rw word.remainder (rw e at (s.fresh.worded.remainder k in' per lives))))
            | inr d ↦ λ in' per lives. rw (update_other w.cpu n v k d) (s.fresh.worded.remainder k in' per lives)
          ];
        };
        workers = All-cons (IsAtWork (set_cpu w n v)) z others ok
            (All-weaker (IsAtWork w) (IsAtWork (set_cpu w n v)) (λ o. others-cpu w n v o word.grows) others (All-tail (IsAtWork w) x others s.fresh.workers));
      };
    }
