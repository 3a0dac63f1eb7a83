-- How a replay grows.
use Rattle.std.proofs.Common.{◌≡◌, ℕ, ◌+◌, ◌<◌, ◌≤◌, Bool, true, false, List, [], ◌∷◌, ◌++◌, length, take, drop, flat_map, Some, None, refl, sym, ap, subst, ◌∙◌, arith, length-append, nat_le, get_or, if◌then◌else◌}
use Rattle.std.specs.Prelude.{slice_get}
use Rattle.std.specs.List.{list_any, zip}
use Rattle.std.proofs.Math.Seq.{drop-nil}
use Rattle.std.proofs.lemmas.Bool.{leb-true, leb-false}
use Rattle.std.proofs.lemmas.Grind.{flat_map-append}
use Rattle.std.proofs.lemmas.List.{append-nil, drop-append-le, drop_all}
use Rattle.std.proofs.lemmas.List.Folds.{list_any-append}
use Rattle.std.proofs.lemmas.Option.{slice_get-get_or}
use Rattle.std.proofs.lemmas.Slice.Zip.{length-zip}
use Rattle.slub_lists.specs.Coherent.{IsCoherent}
use Rattle.slub_trace.specs.declared.trace.Item.{Item}
use Rattle.slub_trace.specs.declared.trace.Item.TheVariants as item
use Rattle.slub_trace.specs.declared.trace.Trace.{Trace}
use Rattle.slub_slabinfo_text.specs.declared.journal.Done.{Done}
use Rattle.slub_slabinfo_text.specs.declared.journal.Journal.{Journal}
use Rattle.slub_slabinfo_text.specs.Lawful.{opening_of}
use Rattle.slub_law_replay.specs.declared.way.Way.TheVariants.{Schedule}
use Rattle.slub_law_replay.specs.Runs.{IsLawful, IsReadyMachine, MachineState, RunsItems, SpendsAt, machine_of}
use Rattle.slub_law_replay.proofs.Runs.{run_more}
use Rattle.slub_outcomes.specs.declared.span.Span.{Span}
use Rattle.slub_outcomes.specs.Replays.{AreDone}
use Rattle.slub_outcomes.specs.Replies.{counted_text, lacks_memory, replies_text, several_text}
use Rattle.slub_outcomes.specs.Steps.{Adds}

-- ---- pairs of items and answers

zip-nil : {A B : Type 0} (xs : List A) → zip {X = B} xs [] ≡ []
zip-nil [] = refl
zip-nil (x ∷ xs) = refl

-- one answer more has its item beside it
zip-next : {A B : Type 0} (xs : List A) (ys : List B) (x : A) (y : B) → slice_get xs (length ys) ≡ Some x → zip xs (ys ++ y ∷ []) ≡ zip xs ys ++ (x, y) ∷ []
zip-next [] [] x y at = cc
zip-next [] (w ∷ ys) x y at = cc
zip-next {A} {B} (z ∷ xs) [] x y at = let same : z ≡ x = cc in rw (same, zip-nil {B = B} xs) refl
zip-next {A} {B} (z ∷ xs) (w ∷ ys) x y at = ap (λ (pairs : List (A × B)). (z, w) ∷ pairs) (zip-next xs ys x y at)

module _ {A B : Type 0} (f : A × B → List ℕ) (first : ℕ) (xs : List A) (ys : List B) (x : A) (y : B) (within : length ys < length xs) (at : slice_get xs (length ys) ≡ Some x) where
  pairs-long : length (zip xs ys) ≡ length ys
  pairs-long = omega (arith, length-zip xs ys)

  text-by : (b : Bool) → nat_le first (length ys) ≡ b → flat_map f (drop first (zip xs ys ++ (x, y) ∷ [])) ≡ flat_map f (drop first (zip xs ys)) ++ (if b then f (x, y) else [])
  text-by true is =
      let le : first ≤ length (zip xs ys) = omega (arith, pairs-long, leb-true first (length ys) is) in
      ap (flat_map f) (drop-append-le first (zip xs ys) ((x, y) ∷ []) le) ∙ flat_map-append f (drop first (zip xs ys)) ((x, y) ∷ [])
      ∙ ap (λ (text : List ℕ). flat_map f (drop first (zip xs ys)) ++ text) (append-nil (f (x, y)))
  text-by false is =
      let long : length (zip xs ys ++ (x, y) ∷ []) ≡ length (zip xs ys) + 1 = length-append (zip xs ys) ((x, y) ∷ []) in
      let past : length (zip xs ys ++ (x, y) ∷ []) ≤ first = omega (arith, long, pairs-long, leb-false first (length ys) is) in
      let before : length (zip xs ys) ≤ first = omega (arith, pairs-long, leb-false first (length ys) is) in
      rw (drop_all first (zip xs ys ++ (x, y) ∷ []) past, drop_all first (zip xs ys) before) refl

  text-more : flat_map f (drop first (zip xs (ys ++ y ∷ []))) ≡ flat_map f (drop first (zip xs ys)) ++ (if nat_le first (length ys) then f (x, y) else [])
  text-more = rw (zip-next xs ys x y at) (text-by (nat_le first (length ys)) refl)

-- the replies that count, with one answer more
replies-more : (span : Span) (trace : Trace) (dones : List Done) (answer : Done) → length dones < length trace.items → replies_text span trace (dones ++ answer ∷ []) ≡ replies_text span trace dones ++ counted_text span trace (length dones) answer
replies-more span trace dones answer within =
    let here = get_or trace.items (length dones) item.Slabinfo in
    let at : slice_get trace.items (length dones) ≡ Some here = slice_get-get_or trace.items (length dones) item.Slabinfo within in
    let more = text-more (λ (pair : Item × Done). several_text trace.names pair.0 pair.1) span.first trace.items dones here answer within at in
    rw at more

-- ---- a replay so far

pub record Reached (seed : ℕ) (trace : Trace) (span : Span) (number : ℕ) (m : MachineState) (text : List ℕ) : Type 0 where
  pub dones : List Done
  pub run : RunsItems (Schedule seed) (machine_of trace) trace (take number trace.items) dones m
  pub length_is : length dones ≡ number
  pub ready : IsReadyMachine m trace number
  pub memory : list_any lacks_memory dones ≡ false
  pub text_is : text ≡ replies_text span trace dones

module _ (seed : ℕ) (trace : Trace) (span : Span) where
  -- nothing is done
  pub Reached-begins : (m : MachineState) (text : List ℕ) → IsReadyMachine (machine_of trace) trace 0 → m ≡ machine_of trace → text ≡ [] → Reached seed trace span 0 m text
  Reached-begins m text ready is empty = record {
    dones = [];
    run = is;
    length_is = refl;
    ready = rw is ready;
    memory = refl;
    text_is = rw (empty, zip-nil {B = Done} trace.items, drop-nil {A = Item × Done} span.first) refl;
  }

  -- one item more is done
  pub Reached-more : (number : ℕ) (m after : MachineState) (old new : List ℕ) → number < length trace.items → Reached seed trace span number m old → Adds seed m trace span number old new after → Reached seed trace span (number + 1) after new
  Reached-more number m after old new within so_far adds = record {
    dones = so_far.dones ++ adds.answer ∷ [];
    run = run_more (Schedule seed) (machine_of trace) trace number so_far.dones m after adds.answer within so_far.run adds.does adds.ready.lists.coherent;
    length_is = length-append so_far.dones _ ∙ ap (λ n. n + 1) so_far.length_is;
    ready = adds.ready;
    memory = list_any-append lacks_memory so_far.dones (adds.answer ∷ []) ∙ rw (so_far.memory, adds.memory) refl;
    text_is =
        let more = replies-more span trace so_far.dones adds.answer (rw so_far.length_is within) in
        adds.text_is ∙ ap (λ (text : List ℕ). text ++ counted_text span trace number adds.answer) so_far.text_is
        ∙ sym (rw so_far.length_is at more);
  }

  -- what was done so far is the journal's
  journal_of : List Done → Journal
  journal_of dones = record { frames = trace.frames; cpus = trace.cpus; tid = trace.tid; items = dones; total = None }

  lawful-so-far : (number : ℕ) (m : MachineState) (text : List ℕ) → IsCoherent (opening_of trace) → number ≤ length trace.items → (so_far : Reached seed trace span number m text) → IsLawful (Schedule seed) trace (journal_of so_far.dones)
  unfolding journal_of
  lawful-so-far number m text coherent within so_far = record {
    frames = refl;
    cpus = refl;
    tid = refl;
    machine = m;
    coherent = coherent;
    within = omega (arith, so_far.length_is);
    run = rw so_far.length_is so_far.run;
    total = tt;
  }

  -- all items of the span are done
  pub Reached-whole : (number : ℕ) (m : MachineState) (text : List ℕ) → IsCoherent (opening_of trace) → number ≤ length trace.items → number ≡ span.end → Reached seed trace span number m text → AreDone trace span seed false text
  unfolding journal_of
  Reached-whole number m text coherent within all so_far = record {
    journal = journal_of so_far.dones;
    lawful = lawful-so-far number m text coherent within so_far;
    memory = so_far.memory;
    ends = so_far.length_is ∙ all;
    text_is = so_far.text_is;
  }

  -- the next one has spent its turns
  pub Reached-spent : (number : ℕ) (m : MachineState) (text : List ℕ) → IsCoherent (opening_of trace) → number < length trace.items → number < span.end → Reached seed trace span number m text → SpendsAt (Schedule seed) m trace number → AreDone trace span seed true text
  unfolding journal_of lawful-so-far
  Reached-spent number m text coherent within before so_far spends = record {
    journal = journal_of so_far.dones;
    lawful = lawful-so-far number m text coherent (omega arith) so_far;
    memory = so_far.memory;
    ends = ((lawful-so-far number m text coherent (omega arith) so_far, subst (λ (n : ℕ). SpendsAt (Schedule seed) m trace n) (sym so_far.length_is) spends), omega (arith, so_far.length_is));
    text_is = so_far.text_is;
  }
