-- Who knows an object, what was written in it last, and how often a run of frames was wanting.
use Rattle.std.proofs.Common.{◌≡◌, ℕ, ◌+◌, ◌<◌, eqb, Bool, true, false, cond, not, ◌&&◌, ◌||◌, List, [], ◌∷◌, refl, sym, ap, ◌∙◌, arith, All, Option, Some, None, inl, inr, ◌⊎◌}
use Rattle.std.specs.Prelude.{count_by}
use Rattle.std.specs.Option.{option_and_then, option_map}
use Rattle.std.specs.List.{fold}
use Rattle.std.proofs.lemmas.List.Elements.{All-head, All-tail}
use Rattle.std.proofs.lemmas.List.Sums.{sum_by-cons}
use Rattle.slub_trace.specs.declared.event.Act.{Act}
use Rattle.slub_trace.specs.declared.event.Event.{Event}
use Rattle.slub_object_layout.specs.declared.layout.Layout.{Layout}
use Rattle.slub_trace.specs.declared.reply.Reply.{Reply}
use Rattle.slub_trace.specs.declared.reply.Reply.TheVariants as reply
use Rattle.slub_trace.specs.Kinds as kinds
use Rattle.slub_cache_create.specs.Table.{Table}
use Rattle.slub_cache_create.specs.declared.caches.Cache.{Cache}
use Rattle.slub_lists.specs.State.{State}
use Rattle.slub_lists.specs.Alloc.{cache_of, named}
use Rattle.slub_lists.specs.Places.{layout_at}
use Rattle.slub_slabinfo_text.specs.Lawful.{is_order, lacks, least_order_of, min_order_of}
use Rattle.slub_core.specs.declared.call.Call.{Call}
use Rattle.slub_core.specs.declared.local.Known.{Known}
use Rattle.slub_core.specs.declared.local.Answered.{Answered as Done}
use Rattle.slub_core.specs.Calls.{call_cache, call_object}
use Rattle.slub_core.specs.Replies as core
use Rattle.slub_core.specs.World.{one_if}
use Rattle.slub_law_opening.specs.Opening.{Beside, setup_of}
use Rattle.slub_calls.specs.Calls.{call_for}
use Rattle.slub_law_rounds.specs.Answered.{Answered, did_free, found_bad, gave as did_give, holds_after, is_alloc_of, is_corrupt, is_free_of, last_written, times_given, times_taken, written_after}
use Rattle.slub_law_rounds.proofs.Split.{told, back}
use Rattle.slub_law_rounds.proofs.Meeting.{Meets, gave, lacked, freed, found, wrote, poked, quiet, IsStill, IsQuiet, quiet-still, IsMet, fold-back, count-back}
use Rattle.slub_law_rounds.proofs.TellingRan.{same-either, freed-told}

-- ---- who knows an object

module _ (table : Table) (rooms : List Known) (o : ℕ) where
  -- a worker that took an object knows it
  abbrev knows_after : Bool → Answered → Bool
  knows_after k one = did_give o one || (did_free o one || found_bad o one) || k

  still-knows : (p q k : Bool) (r : Reply) → IsStill r → ((p && kinds.is_given r) || ((q && kinds.is_freed r) || (q && is_corrupt r)) || k) ≡ k
  still-knows p q k (reply.Given a) still = absurd still
  still-knows p q k (reply.Freed a) still = absurd still
  still-knows p q k (reply.Corrupt d) still = absurd still
  still-knows p q k r still = none p q
    where
      none : (p q : Bool) → ((p && false) || ((q && false) || (q && false)) || k) ≡ k
      none true true = refl
      none true false = refl
      none false true = refl
      none false false = refl

  still-known : (r : Reply) (k : Bool) → IsStill r → core.knows_after r k ≡ k
  still-known (reply.Given a) k still = absurd still
  still-known (reply.Freed a) k still = absurd still
  still-known (reply.Corrupt d) k still = absurd still
  still-known r k still = refl

  by-gift : (b k : Bool) → ((b && true) || ((false && false) || (false && false)) || k) ≡ cond b true k
  by-gift true k = refl
  by-gift false k = refl

  by-free : (b k : Bool) → ((false && false) || ((b && true) || (b && false)) || k) ≡ cond b true k
  by-free true k = refl
  by-free false k = refl

  by-find : (b k : Bool) → ((false && false) || ((b && false) || (b && true)) || k) ≡ cond b true k
  by-find true k = refl
  by-find false k = refl

  knows-step : (ds : List Done) (event : Event) (a : Act) (r : Reply) → event.act ≡ a → Meets table a r → knows_after (core.knows ds o) (event, r) ≡ core.knows (told table rooms (event, r) ∷ ds) o
  knows-step ds event _ _ is (gave place x address) = rw is (by-gift (eqb x o) (core.knows ds o))
  knows-step ds event _ _ is (lacked place x k is_k) = rw is (still-knows (eqb x o) false (core.knows ds o) reply.NoFrames tt ∙ sym (same-either (eqb x o) (core.knows ds o)))
  knows-step ds event _ _ is (freed x address) = rw is (by-free (eqb x o) (core.knows ds o))
  knows-step ds event _ _ is (found x damage) = rw is (by-find (eqb x o) (core.knows ds o))
  knows-step ds event _ _ is (wrote x word value) = rw is (still-knows false false (core.knows ds o) reply.Wrote tt ∙ sym (same-either (eqb x o) (core.knows ds o)))
  knows-step ds event _ _ is (poked x offset byte) = rw is (still-knows false false (core.knows ds o) reply.Poked tt ∙ sym (same-either (eqb x o) (core.knows ds o)))
  knows-step ds event a r is (quiet _ _ none) =
      let still = quiet-still r none in
      let k = core.knows ds o in
      let b = eqb (call_object (call_for table rooms event.cpu event.act)) o in
      still-knows (is_alloc_of o event.act) (is_free_of o event.act) k r still ∙ sym (same-either b k) ∙ ap (λ x. cond b x k) (sym (still-known r k still))

  taken-knows : (own : List Answered) (k : Bool) → (k ≡ true) ⊎ (0 < times_taken o own) → fold knows_after k own ≡ true
  taken-knows [] k (inl is) = is
  taken-knows [] k (inr some) = absurd (omega (arith, some))
  taken-knows (one ∷ own) k why = taken-knows own (knows_after k one) (by (did_give o one) (did_free o one || found_bad o one) why (sum_by-cons (λ one. cond (did_free o one || found_bad o one) 1 0) one own))
    where
      by : (p q : Bool) → (k ≡ true) ⊎ (0 < times_taken o (one ∷ own)) → times_taken o (one ∷ own) ≡ cond q 1 0 + times_taken o own → ((p || q || k) ≡ true) ⊎ (0 < times_taken o own)
      by true q why is = inl refl
      by false true why is = inl refl
      by false false (inl so) is = inl so
      by false false (inr some) is = inr (omega (arith, some, is))

  pub knows-told : (own : List Answered) → All (IsMet table) own → 0 < times_taken o own → core.knows (back table rooms own []) o ≡ true
  knows-told own met some = sym (fold-back table rooms (λ ds. core.knows ds o) knows_after knows-step own [] met) ∙ taken-knows own false (inr some)

-- what a worker holds it was given or took
pub holds-taken : (o : ℕ) (own : List Answered) (h : Bool) → fold (holds_after o) h own ≡ true → (h ≡ true) ⊎ (0 < times_given o own + times_taken o own)
holds-taken o [] h is = inl is
holds-taken o (one ∷ own) h is =
    by (did_give o one) (found_bad o one) (did_free o one) (holds-taken o own (holds_after o h one) is) (sum_by-cons (λ one. cond (did_free o one || found_bad o one) 1 0) one own) (sum_by-cons (λ one. cond (did_give o one) 1 0) one own)
  where
    by : (p q f : Bool) → ((p || q || (h && not f)) ≡ true) ⊎ (0 < times_given o own + times_taken o own) → times_taken o (one ∷ own) ≡ cond (f || q) 1 0 + times_taken o own → times_given o (one ∷ own) ≡ cond p 1 0 + times_given o own
        → (h ≡ true) ⊎ (0 < times_given o (one ∷ own) + times_taken o (one ∷ own))
    by p q f (inr some) taken given = inr (omega (arith, some, taken, given))
    by true q f (inl so) taken given = inr (omega (arith, taken, given))
    by false true true (inl so) taken given = inr (omega (arith, taken, given))
    by false true false (inl so) taken given = inr (omega (arith, taken, given))
    by false false f (inl so) taken given = inl (first h f so)
      where
        first : (h f : Bool) → (h && not f) ≡ true → h ≡ true
        first true f so = refl
        first false f so = so

-- ---- what was written last

module _ (table : Table) (rooms : List Known) (o word : ℕ) where
  quiet-written : (event : Event) (r : Reply) (x : Option ℕ) → IsQuiet r → written_after o word x (event, r) ≡ x
  quiet-written event (reply.Given a) x none = absurd none
  quiet-written event reply.Wrote x none = absurd none
  quiet-written event r x none = refl

  quiet-wrote : (c : Call) (r : Reply) (x : Option ℕ) → IsQuiet r → core.wrote_after c r word x ≡ x
  quiet-wrote c (reply.Given a) x none = absurd none
  quiet-wrote c (reply.Freed a) x none = absurd none
  quiet-wrote c reply.Wrote x none = absurd none
  quiet-wrote c r x none = refl

  written-step : (ds : List Done) (event : Event) (a : Act) (r : Reply) → event.act ≡ a → Meets table a r → core.freed_in o (told table rooms (event, r) ∷ ds) ≡ 0
      → written_after o word (core.last_wrote ds o word) (event, r) ≡ core.last_wrote (told table rooms (event, r) ∷ ds) o word
  written-step ds event _ _ is (gave place x address) none = rw is refl
  written-step ds event _ _ is (lacked place x k is_k) none = rw is (sym (same-either (eqb x o) (core.last_wrote ds o word)))
  written-step ds event _ _ is (freed x address) none = rw is (by (eqb x o) (rw is at none))
    where
      by : (b : Bool) → one_if (true && b) + core.freed_in o ds ≡ 0 → core.last_wrote ds o word ≡ cond b None (core.last_wrote ds o word)
      by true none = absurd (omega (arith, none))
      by false none = refl
  written-step ds event _ _ is (found x damage) none = rw is (sym (same-either (eqb x o) (core.last_wrote ds o word)))
  written-step ds event _ _ is (wrote x at value) none = rw is (by (eqb x o) (eqb at word))
    where
      by : (b c : Bool) → cond (b && c) (Some value) (core.last_wrote ds o word) ≡ cond b (cond c (Some value) (core.last_wrote ds o word)) (core.last_wrote ds o word)
      by true c = refl
      by false c = refl
  written-step ds event _ _ is (poked x offset byte) none = rw is (sym (same-either (eqb x o) (core.last_wrote ds o word)))
  written-step ds event a r is (quiet _ _ still) none =
      let c = call_for table rooms event.cpu event.act in
      let x = core.last_wrote ds o word in
      quiet-written event r x still ∙ sym (same-either (eqb (call_object c) o) x) ∙ ap (λ y. cond (eqb (call_object c) o) y x) (sym (quiet-wrote c r x still))

  written-back : (own : List Answered) (ds : List Done) → All (IsMet table) own → core.freed_in o (back table rooms own ds) ≡ 0
      → fold (written_after o word) (core.last_wrote ds o word) own ≡ core.last_wrote (back table rooms own ds) o word
  written-back [] ds met none = refl
  written-back (one ∷ own) ds met none =
      let rest = All-tail (IsMet table) one own met in
      let less = freed-told table rooms o own (told table rooms one ∷ ds) rest in
      ap (λ x. fold (written_after o word) x own) (written-step ds one.0 one.0.act one.1 refl (All-head (IsMet table) one own met) (omega (arith, less, none)))
      ∙ written-back own (told table rooms one ∷ ds) rest none

  -- where the worker never freed it
  pub written-told : (own : List Answered) → All (IsMet table) own → core.freed_in o (back table rooms own []) ≡ 0 → last_written o word own ≡ core.last_wrote (back table rooms own []) o word
  written-told own met none = written-back own [] met none

-- ---- how often no run of frames was there

module _ (s : State) (b : Beside) (rooms : List Known) (order : ℕ) (lives : (k : ℕ) (place : ℕ) → named s place ≡ Some k → (live : Cache) × (cache_of s k ≡ Some live)) where
  least-is : (place k : ℕ) → named s place ≡ Some k → is_order order (option_map min_order_of (option_and_then (cache_of s) (named s place))) ≡ eqb (core.least_order (setup_of s b) (named s place)) order
  least-is place k is =
      let live = lives k place is in
      let layout : layout_at s k ≡ live.0.layout = rw live.1 refl in
      rw is (rw live.1 (ap (λ (l : Layout). eqb l.min_order order) (sym layout)))

  not-dry : (p c : Bool) → cond (false && p) 1 0 ≡ one_if (false && c)
  not-dry p c = refl

  quiet-dry : (p c : Bool) (r : Reply) → IsQuiet r → cond (kinds.is_no_frames r && p) 1 0 ≡ one_if (core.is_dry r && c)
  quiet-dry p c reply.NoFrames none = absurd none
  quiet-dry p c r none = refl

  dry-one : (event : Event) (a : Act) (r : Reply) → event.act ≡ a → Meets s.table a r → cond (lacks s order (event, r)) 1 0 ≡ one_if (core.is_dry r && eqb (core.least_order (setup_of s b) (call_cache (call_for s.table rooms event.cpu event.act))) order)
  dry-one event _ _ is (gave place x address) = refl
  dry-one event _ _ is (lacked place x k is_k) = rw is (ap (λ b. cond b 1 0) (least-is place k is_k))
  dry-one event _ _ is (freed x address) = refl
  dry-one event _ _ is (found x damage) = refl
  dry-one event _ _ is (wrote x word value) = refl
  dry-one event _ _ is (poked x offset byte) = refl
  dry-one event a r is (quiet _ _ none) = quiet-dry (is_order order (least_order_of s event.act)) (eqb (core.least_order (setup_of s b) (call_cache (call_for s.table rooms event.cpu event.act))) order) r none

  pub dry-told : (own : List Answered) → All (IsMet s.table) own → core.dry_in (setup_of s b) order (back s.table rooms own []) ≡ count_by (lacks s order) own
  dry-told own met =
      let all = count-back s.table rooms (core.dry_in (setup_of s b) order) (lacks s order) (λ ds event a r is met. ap (λ n. n + core.dry_in (setup_of s b) order ds) (sym (dry-one event a r is met))) own [] met in omega (arith, all)
