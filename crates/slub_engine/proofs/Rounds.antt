-- What the ledgers of a round count, one event after the other.
use Rattle.std.proofs.Common.{true, false, ◌≡◌, ◌≢◌, ℕ, ◌+◌, ◌<◌, ◌&&◌, Bool, cond, eqb, List, [], ◌∷◌, ◌++◌, length, get_or, set, refl, sym, ◌∙◌, ap, arith, All, count_by, inl, inr}
use Rattle.std.specs.List.{zip}
use Rattle.std.proofs.lemmas.Bool.{cases_eq, eq-eqb, ne_eqb}
use Rattle.std.proofs.lemmas.List.{get_or-set_other, get_or-set_same, length-set}
use Rattle.std.proofs.lemmas.List.Sums.{sum_by-append, count_by-le-length}
use Rattle.std.proofs.lemmas.Option.{get_or_from_slice_get, slice_get-get_or}
use Rattle.std.proofs.lemmas.Slice.Zip.{length-zip}
use Rattle.slub_trace.specs.declared.event.Act.{Act}
use Rattle.slub_trace.specs.declared.event.Act.TheVariants.{Alloc}
use Rattle.slub_trace.specs.declared.event.Event.{Event}
use Rattle.slub_trace.specs.declared.reply.Reply.{Reply}
use Rattle.slub_lists.specs.State.{State}
use Rattle.slub_trace.specs.declared.ledger.Ledger.{Ledger}
use Rattle.slub_slabinfo_text.specs.Lawful.{AreLedgers, IsLedger, is_by, is_order, lacks, least_order_of}
use Rattle.slub_trace.specs.Kinds.{is_freed, is_given, is_no_frames}
use Rattle.slub_engine.specs.Steps.{IsBelow, IsBlank, Notes, NotesOwn}

-- the table of names and caches decides which least order an act asks for
least_order_kept : (s now : State) (act : Act) → now.table ≡ s.table → least_order_of now act ≡ least_order_of s act
least_order_kept s now (Alloc place object) table = rw table refl
least_order_kept s now _ table = refl

pub lacks_kept : (s now : State) (order : ℕ) (event : Event) (reply : Reply) → now.table ≡ s.table
    → lacks now order (event, reply) ≡ lacks s order (event, reply)
lacks_kept s now order event answer table = ap (λ b. is_no_frames answer && b) (ap (is_order order) (least_order_kept s now event.act table))

-- ---- ledgers

-- a count of one element more
count_more : {A : Type 0} (p : A → Bool) (xs : List A) (x : A) → count_by p (xs ++ x ∷ []) ≡ count_by p xs + cond (p x) 1 0
count_more p xs x = omega (arith, sum_by-append (λ x. cond (p x) 1 0) xs (x ∷ []))

-- a count of a worker's replies, with one more of its own
count_own : (p : Event × Reply → Bool) (answers : List (Event × Reply)) (event : Event) (reply : Reply)
    → count_by (λ one. is_by event.worker one && p one) (answers ++ (event, reply) ∷ []) ≡ count_by (λ one. is_by event.worker one && p one) answers + cond (p (event, reply)) 1 0
count_own p answers event reply =
    let mine : eqb event.worker event.worker ≡ true = eq-eqb event.worker event.worker refl in
    count_more (λ one. is_by event.worker one && p one) answers (event, reply) ∙ ap (λ b. count_by (λ one. is_by event.worker one && p one) answers + cond (b && p (event, reply)) 1 0) mine

-- and with one more of another worker
count_other : (p : Event × Reply → Bool) (answers : List (Event × Reply)) (event : Event) (reply : Reply) (worker : ℕ) → event.worker ≢ worker
    → count_by (λ one. is_by worker one && p one) (answers ++ (event, reply) ∷ []) ≡ count_by (λ one. is_by worker one && p one) answers
count_other p answers event reply worker differ =
    let other : eqb event.worker worker ≡ false = ne_eqb event.worker worker differ in
    count_more (λ one. is_by worker one && p one) answers (event, reply) ∙ ap (λ b. count_by (λ one. is_by worker one && p one) answers + cond (b && p (event, reply)) 1 0) other ∙ omega arith

-- the ledger of the event's worker
ledger_own : (s now : State) (answers : List (Event × Reply)) (event : Event) (reply : Reply) (before after : Ledger)
    → now.table ≡ s.table → IsLedger s answers event.worker before → Notes now event reply before after
    → IsLedger s (answers ++ (event, reply) ∷ []) event.worker after
ledger_own s now answers event reply before after table counted noted = record {
  given = noted.given ∙ rw counted.given (sym (count_own (λ one. is_given one.1) answers event reply));
  freed = noted.freed ∙ rw counted.freed (sym (count_own (λ one. is_freed one.1) answers event reply));
  orders = noted.orders ∙ counted.orders;
  no_frames = λ order within.
      noted.no_frames order within
      ∙ rw (counted.no_frames order within, lacks_kept s now order event reply table) (sym (count_own (lacks s order) answers event reply));
}

-- the ledger of another worker
ledger_other : (s : State) (answers : List (Event × Reply)) (event : Event) (reply : Reply) (worker : ℕ) (ledger : Ledger)
    → event.worker ≢ worker → IsLedger s answers worker ledger → IsLedger s (answers ++ (event, reply) ∷ []) worker ledger
ledger_other s answers event reply worker ledger differ counted = record {
  given = counted.given ∙ sym (count_other (λ one. is_given one.1) answers event reply worker differ);
  freed = counted.freed ∙ sym (count_other (λ one. is_freed one.1) answers event reply worker differ);
  orders = counted.orders;
  no_frames = λ order within. counted.no_frames order within ∙ sym (count_other (lacks s order) answers event reply worker differ);
}

pub ledgers_more : (s now : State) (answers : List (Event × Reply)) (workers : ℕ) (event : Event) (reply : Reply) (before after : List Ledger)
    → now.table ≡ s.table → event.worker < workers → AreLedgers s answers workers before → NotesOwn now event reply before after
    → AreLedgers s (answers ++ (event, reply) ∷ []) workers after
ledgers_more s now answers workers event reply before after table mine counted noted = record {
  each = ap length noted.after_is ∙ length-set before event.worker noted.ledger ∙ counted.each;
  counts = λ worker other within. rw noted.after_is (elim (cases_eq worker event.worker) [ inl same ↦ at_own worker other same | inr differ ↦ at_other worker other within differ ]);
}
  where
    at_own : (worker : ℕ) (other : Ledger) → worker ≡ event.worker → IsLedger s (answers ++ (event, reply) ∷ []) worker (get_or (set before event.worker noted.ledger) worker other)
    at_own worker other same =
        let here : get_or (set before event.worker noted.ledger) event.worker other ≡ noted.ledger = get_or-set_same before event.worker noted.ledger other (omega (arith, counted.each)) in
        let own = ledger_own s now answers event reply (get_or before event.worker noted.ledger) noted.ledger table (counted.counts event.worker noted.ledger mine) noted.noted in
        rw (same, here) own

    at_other : (worker : ℕ) (other : Ledger) → worker < workers → worker ≢ event.worker → IsLedger s (answers ++ (event, reply) ∷ []) worker (get_or (set before event.worker noted.ledger) worker other)
    at_other worker other within differ =
        rw (get_or-set_other before event.worker worker noted.ledger other differ) (ledger_other s answers event reply worker (get_or before worker other) (λ same. differ (sym same)) (counted.counts worker other within))

-- no number of a ledger is greater than the replies are many
pub ledgers_below : (s : State) (events : List Event) (replies : List Reply) (workers : ℕ) (ledgers : List Ledger) (limit : ℕ)
    → length replies < limit → AreLedgers s (zip events replies) workers ledgers → All (IsBelow limit) ledgers
ledgers_below s events replies workers ledgers limit few counted k d within =
    let mine = counted.counts k d (omega (arith, counted.each)) in
    record {
      given = omega (arith, mine.given, count_by-le-length (λ one. is_by k one && is_given one.1) (zip events replies), length-zip events replies);
      freed = omega (arith, mine.freed, count_by-le-length (λ one. is_by k one && is_freed one.1) (zip events replies), length-zip events replies);
      no_frames = λ order small.
          omega (arith, mine.no_frames order small, count_by-le-length (λ one. is_by k one && lacks s order one) (zip events replies), length-zip events replies);
    }

-- before the first event
pub blank_ledgers : (s : State) (ledgers : List Ledger) → All IsBlank ledgers → AreLedgers s [] (length ledgers) ledgers
blank_ledgers s ledgers blank = record {
  each = refl;
  counts = λ worker other within.
      let mine = blank worker other within in
      record { given = mine.given; freed = mine.freed; orders = mine.orders; no_frames = mine.no_frames };
}

-- an element that was read, as its own default
pub own_default : {A : Type 0} (xs : List A) (i : ℕ) (d : A) → i < length xs → get_or xs i d ≡ get_or xs i (get_or xs i d)
own_default xs i d within = sym (get_or_from_slice_get xs i (get_or xs i d) (get_or xs i d) (slice_get-get_or xs i d within))

-- the same ledgers of the same events
pub same_ledgers : (s : State) (events others : List Event) (replies answers : List Reply) (workers number : ℕ) (ledgers after : List Ledger)
    → events ≡ others → answers ≡ replies → workers ≡ number → after ≡ ledgers → AreLedgers s (zip events replies) workers ledgers → AreLedgers s (zip others answers) number after
same_ledgers s events others replies answers workers number ledgers after one two three four counted = rw (← one, two, ← three, four) counted
