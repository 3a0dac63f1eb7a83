-- Steps that change a list word, or a link of a slab in hand.
use Rattle.std.proofs.Common.{◌≡◌, ◌≢◌, ℕ, ◌+◌, ◌-◌, ◌/◌, ◌^◌, ◌<◌, ◌≤◌, ◌==◌, false, Option, Some, None, List, [], ◌∷◌, length, get_or, refl, ap, arith, inl, inr}
use Rattle.std.specs.Prelude.{slice_index}
use Rattle.std.proofs.lemmas.Bool.{cases_eq, eq-eqb}
use Rattle.std.proofs.lemmas.List.Elements.{All-cons, All-tail, All-weaker}
use Rattle.slub_common.specs.Times.{times}
use Rattle.slub_cpu_partial.specs.declared.words.ListWord.{ListWord}
use Rattle.slub_core.specs.declared.local.PartialString.{PartialString}
use Rattle.slub_core.specs.World.{World, Chains, update, set_list, set_link, one_if, Links, IsString}
use Rattle.slub_core.specs.Local.{Worker}
use Rattle.slub_core.specs.Placed.{owned}
use Rattle.slub_core.specs.Listed.{home_of, marked_of, covered_by, takes, on_lists, IsStocked}
use Rattle.slub_core.specs.Fresh.{IsStringOf, IsHeldString, IsLinked, IsAtWork}
use Rattle.slub_core.specs.Coherent.{Stands}
use Rattle.std.proofs.lemmas.List.Sums.{sum_by-cons}
use Rattle.slub_core.proofs.Counts.{places-cons, homes-cons, roles-cons}
use Rattle.slub_core.proofs.Homes.{live-most, mine-alone, on-list}
use Rattle.slub_core.proofs.Lists.{times-first, times-at}
use Rattle.slub_core.proofs.LocalStep.{Settled, placed-settled, listed-settled}
use Rattle.slub_core.proofs.Update.{update_same, update_other, update_at, each_updated, sum_below_change}

-- the others don't see a list word
others-list : (w : World) (n : ℕ) (v : ListWord) (o : Worker) → IsAtWork w o → IsAtWork (set_list w n v) o
others-list w n v o ok = record {
  spot = ok.spot;
  seen = record {
    cpu_word = ok.seen.cpu_word;
    next = ok.seen.next;
    linked_cpu = ok.seen.linked_cpu;
    linked_slab = ok.seen.linked_slab;
    known = ok.seen.known;
    hands = ok.seen.hands;
    string = ok.seen.string;
    run = ok.seen.run;
    emptied = ok.seen.emptied;
    freed_last = ok.seen.freed_last;
    scanned = ok.seen.scanned;
    scan = ok.seen.scan;
    scan_next = ok.seen.scan_next;
    locks = ok.seen.locks;
  };
}

abbrev pub set_string : Chains → ℕ → List ℕ → Chains
set_string y n fs = record y { list = update y.list n fs }

-- What kinds 23 and 24 owe: the word is of a string of slabs of the list's cache, and each slab is on the list or in the worker's string as often as before.
pub list_step : (w : World) (x z : Worker) (others : List Worker) (n : ℕ) (v : ListWord) (fs : List ℕ) (s : Stands w (x ∷ others))
    → n < w.setup.cpu_words → (v.front < 2 ^ 16) × (v.count < 2 ^ 16) → Links w.link v.front fs 0 → v.count ≡ length fs
    → ((f : ℕ) → 1 ≤ times f fs → IsStocked (w.slab f) (n / 16) × ((w.slab f).listed ≡ false)) → times 0 fs ≡ 0
    → ((f i : ℕ) → owned f i z ≡ owned f i x)
    → ((f : ℕ) → home_of f z + times f fs ≡ home_of f x + times f (s.chains.list n))
    → ((f : ℕ) → marked_of f z ≡ marked_of f x) → ((g : ℕ) → covered_by g z.local.run ≡ covered_by g x.local.run) → ((k : ℕ) → takes k z ≡ takes k x)
    → IsAtWork (set_list w n v) z
    → Stands (set_list w n v) (z ∷ others)
list_step w x z others n v fs s below fits links counted stocked none same homed marked covered locks ok =
    let y = s.chains in
    let sh = s.listed.shaped in
    record {
      chains = set_string y n fs;
      placed = record {
        once = λ f i. let new = places-cons w y z others f i in let old = places-cons w y x others f i in let was = s.placed.once f i in let e = same f i in omega arith;
        cpu_chain = s.placed.cpu_chain;
        own_chain = s.placed.own_chain;
      };
      listed = record {
        once = λ f some.
            let new = homes-cons (set_list w n v) (set_string y n fs) z others f in
            let old = homes-cons w y x others f in
            let was = s.listed.once f some in
            let sums = strings f in
            let e = homed f in
            omega arith;
        marked = λ f. let new = sum_by-cons (marked_of f) z others in let old = sum_by-cons (marked_of f) x others in let was = s.listed.marked f in let e = marked f in omega arith;
        framed = λ g. let new = roles-cons w z others g in let old = roles-cons w x others g in let was = s.listed.framed g in let e = covered g in omega arith;
        locked = λ k in'. let a = sum_by-cons (takes k) x others in let b = sum_by-cons (takes k) z others in let e = locks k in let o = s.listed.locked k in' in omega arith;
        shaped = record {
          no_slab = sh.no_slab;
          no_lists = let sums = strings 0 in let was = sh.no_lists in omega arith;
          marks = sh.marks;
          current = sh.current;
          bare = sh.bare;
          string = λ k. elim (cases_eq k n) [ inl e ↦ λ in'. rw (update_at w.list n v k e, update_at y.list n fs k e) links | inr d ↦ rw (update_other w.list n v k d, update_other y.list n fs k d) (sh.string k) ];
          count = λ k. elim (cases_eq k n) [ inl e ↦ λ in'. rw (update_at w.list n v k e, update_at y.list n fs k e) counted | inr d ↦ rw (update_other w.list n v k d, update_other y.list n fs k d) (sh.count k) ];
          partial = λ k f. elim (cases_eq k n) [ inl e ↦ λ in'. rw (update_at y.list n fs k e) (rw e (stocked f)) | inr d ↦ rw (update_other y.list n fs k d) (sh.partial k f) ];
          node = sh.node;
          counted = sh.counted;
          plain = sh.plain;
          sized = sh.sized;
          aligned = sh.aligned;
          within = sh.within;
          alone = sh.alone;
          unslabbed = sh.unslabbed;
          guarded = sh.guarded;
          board = sh.board;
        };
      };
      fresh = record {
        setup = s.fresh.setup;
        worded = record {
          cpu = s.fresh.worded.cpu;
          slab = s.fresh.worded.slab;
          list = each_updated w.list n v (λ _ (c : ListWord). (c.front < 2 ^ 16) × (c.count < 2 ^ 16)) fits (λ k _. s.fresh.worded.list k);
          link = s.fresh.worded.link;
          room = s.fresh.worded.room;
          remainder = s.fresh.worded.remainder;
        };
        workers = All-cons (IsAtWork (set_list w n v)) z others ok
            (All-weaker (IsAtWork w) (IsAtWork (set_list w n v)) (λ o. others-list w n v o) others (All-tail (IsAtWork w) x others s.fresh.workers));
      };
    }
  where
    strings : (f : ℕ) → on_lists (set_list w n v) (set_string s.chains n fs) f + times f (s.chains.list n) ≡ on_lists w s.chains f + times f fs
    strings f =
        let sums = sum_below_change w.setup.cpu_words (λ k. times f (s.chains.list k)) (λ k. times f (update s.chains.list n fs k)) n below (λ k d. ap (times f) (update_other s.chains.list n fs k d)) in
        let here : times f (update s.chains.list n fs n) ≡ times f fs = ap (times f) (update_same s.chains.list n fs) in
        omega arith

-- ---- links

Links-apart : (link : ℕ → ℕ) (g v front : ℕ) (fs : List ℕ) (end : ℕ) → times g fs ≡ 0 → Links link front fs end → Links (update link g v) front fs end
Links-apart link g v front [] end none ok = ok
Links-apart link g v front (f ∷ fs) end none ok =
    let c = times-first g f fs in
    let d : f ≡ g → ⊥ = λ e. absurd (let o : one_if (f == g) ≡ 1 = rw (eq-eqb f g e) refl in omega arith) in
    (ok.0, rw (update_other link g v f d) (Links-apart link g v (link f) fs end (omega arith) ok.1))

IsString-apart : (link : ℕ → ℕ) (g v front : ℕ) (fs : List ℕ) → times g fs ≡ 0 → IsString link front fs → IsString (update link g v) front fs
IsString-apart link g v front [] none ok = ok
IsString-apart link g v front (f ∷ fs) none ok =
    let c = times-first g f fs in
    let d : f ≡ g → ⊥ = λ e. absurd (let o : one_if (f == g) ≡ 1 = rw (eq-eqb f g e) refl in omega arith) in
    (ok.0, rw (update_other link g v f d) (IsString-apart link g v (link f) fs (omega arith) ok.1))

IsLinked-apart : (link : ℕ → ℕ) (g v : ℕ) (fs : List ℕ) (to : Option ℕ) → 1 ≤ length fs → times g fs ≡ 0 → IsLinked link fs to → IsLinked (update link g v) fs to
IsLinked-apart link g v fs None some none ok = tt
IsLinked-apart link g v fs (Some to) some none ok =
    rw (update_other link g v (slice_index fs (length fs - 1)) (λ e. absurd (let t = times-at g fs (length fs - 1) (omega arith) e in omega arith))) ok

string-link : (w : World) (g v cache : ℕ) (string : Option PartialString) (fs : List ℕ) → IsStringOf string fs → times g fs ≡ 0 → IsHeldString w cache string fs → IsHeldString (set_link w g v) cache string fs
string-link w g v cache None fs of none ok = tt
string-link w g v cache (Some string) fs of none ok =
    (IsString-apart w.link g v string.front fs none ok.0, IsLinked-apart w.link g v fs string.link (let a = of.count in let b = of.place in omega arith) none ok.1, ok.2)

others-link : (w : World) (g v : ℕ) (o : Worker) → home_of g o ≡ 0 → IsAtWork w o → IsAtWork (set_link w g v) o
others-link w g v o none ok = record {
  spot = ok.spot;
  seen = record {
    cpu_word = ok.seen.cpu_word;
    next = ok.seen.next;
    linked_cpu = ok.seen.linked_cpu;
    linked_slab = ok.seen.linked_slab;
    known = ok.seen.known;
    hands = ok.seen.hands;
    string = string-link w g v o.local.cache o.local.string o.string ok.spot.string (omega arith) ok.seen.string;
    run = ok.seen.run;
    emptied = ok.seen.emptied;
    freed_last = ok.seen.freed_last;
    scanned = ok.seen.scanned;
    scan = ok.seen.scan;
    scan_next = ok.seen.scan_next;
    locks = ok.seen.locks;
  };
}

-- What kind 26 owes: the slab is in the worker's hand or string, and the worker has what it had.
pub link_step : (w : World) (x z : Worker) (others : List Worker) (g v : ℕ) → Stands w (x ∷ others)
    → g ≢ 0 → v < 2 ^ 16 → 1 ≤ home_of g x → ((f i : ℕ) → owned f i z ≡ owned f i x) → Settled x z
    → IsAtWork (set_link w g v) z
    → Stands (set_link w g v) (z ∷ others)
link_step w x z others g v s real fits mine same settled ok =
    let y = s.chains in
    let p = placed-settled w y x z others same s.placed in
    let l = listed-settled w y x z others settled s.listed in
    record {
      chains = y;
      placed = record { once = p.once; cpu_chain = p.cpu_chain; own_chain = p.own_chain };
      listed = record {
        once = l.once;
        marked = l.marked;
        framed = l.framed;
        locked = l.locked;
        shaped = record {
          no_slab = l.shaped.no_slab;
          no_lists = l.shaped.no_lists;
          marks = l.shaped.marks;
          current = l.shaped.current;
          bare = l.shaped.bare;
          string = λ n in'. Links-apart w.link g v (w.list n).front (y.list n) 0 (unlisted n in') (l.shaped.string n in');
          count = l.shaped.count;
          partial = l.shaped.partial;
          node = l.shaped.node;
          counted = l.shaped.counted;
          plain = l.shaped.plain;
          sized = l.shaped.sized;
          aligned = l.shaped.aligned;
          within = l.shaped.within;
          alone = l.shaped.alone;
          unslabbed = l.shaped.unslabbed;
          guarded = l.shaped.guarded;
          board = l.shaped.board;
        };
      };
      fresh = record {
        setup = s.fresh.setup;
        worded = record {
          cpu = s.fresh.worded.cpu;
          slab = s.fresh.worded.slab;
          list = s.fresh.worded.list;
          link = each_updated w.link g v (λ _ x. x < 2 ^ 16) fits (λ f _. s.fresh.worded.link f);
          room = s.fresh.worded.room;
          remainder = s.fresh.worded.remainder;
        };
        workers = All-cons (IsAtWork (set_link w g v)) z others ok
            (λ k d in'. others-link w g v (get_or others k d) (mine-alone w x others g s real (omega arith) k d in') (All-tail (IsAtWork w) x others s.fresh.workers k d in'));
      };
    }
  where
    unlisted : (n : ℕ) → n < w.setup.cpu_words → times g (s.chains.list n) ≡ 0
    unlisted n in' =
        let split = homes-cons w s.chains x others g in
        let once = s.listed.once g real in
        let one = live-most (w.slab g) in
        elim (cases_eq (times g (s.chains.list n)) 0) [
          | inl e ↦ e
          | inr d ↦ absurd (let c = on-list w s.chains n g in' (omega arith) in omega arith)
        ]
