-- How the text of a journal grows.
use Rattle.std.proofs.Common.{◌≡◌, ℕ, List, [], ◌∷◌, ◌++◌, Some, None, Err, Result, refl, sym, ap, ◌∙◌, length, append-nil, append_assoc, add-zero, arith, length-append}
use Rattle.std.specs.Prelude.{Bool, Option, slice_get}
use Rattle.std.specs.Option.{option_map_or}
use Rattle.std.specs.Io.KnownBytes.{Appends}
use Rattle.std.proofs.KnownBytes.{Appends-nil, Appends-trans}
use Rattle.std.proofs.lemmas.List.{take_at}
use Rattle.slub_edges.specs.Edges.{AppendsFront}
use Rattle.slub_edges.proofs.Told.{AppendsFront-after}
use Rattle.slub_trace.specs.declared.trace.Item.{Item}
use Rattle.slub_trace.specs.declared.trace.Trace.{Trace}
use Rattle.slub_slabinfo_text.specs.declared.journal.Done.{Done}
use Rattle.slub_slabinfo_text.specs.declared.journal.Total.{Total}
use Rattle.slub_slabinfo_text.specs.declared.journal.Journal.{Journal}
use Rattle.slub_slabinfo_text.specs.Text.{text_of, text_at, done_text, items_text, total_text}
use Rattle.slub_cli.specs.Run.{last_begins}
use Rattle.slub_cli.specs.Inner.{GrowsText, GrowsFront, IsSame, Tells, TookText}
use Rattle.slub_cli.specs.declared.stop.Stop.{Stop}
use Rattle.slub_cli.specs.declared.stop.Stop.TheVariants.{WriteFault}

-- no items done have no text
pub items_text-none : (replies : Bool) (trace : Trace) (items : List Item) → items_text replies trace items [] ≡ []
items_text-none replies trace [] = refl
items_text-none replies trace (item ∷ items) = refl

-- one item more has its lines after those of the others
pub items_text-more : (replies : Bool) (trace : Trace) (items : List Item) (dones : List Done) (d : Done)
    → items_text replies trace items (dones ++ d ∷ []) ≡ items_text replies trace items dones ++ option_map_or (λ item. done_text replies trace item d) (slice_get items (length dones)) []
items_text-more replies trace [] dones d = refl
items_text-more replies trace (item ∷ items) [] d = rw (items_text-none replies trace items) (append-nil _)
items_text-more replies trace (item ∷ items) (e ∷ dones) d =
    ap (λ l. done_text replies trace item e ++ l) (items_text-more replies trace items dones d) ∙ sym (append_assoc (done_text replies trace item e) (items_text replies trace items dones) _)

-- after has one entry more, of this text
pub record Entry (replies : Bool) (trace : Trace) (before after : Journal) (more : List ℕ) : Type 0 where
  pub text : text_of replies trace after ≡ text_of replies trace before ++ more
  pub last : last_begins replies trace after ≡ length (text_of replies trace before)

-- a whole entry was taken
pub grows_text : (replies : Bool) (old new : Option (List ℕ)) (trace : Trace) (before after : Journal) (more written : List ℕ) → Entry replies trace before after more → written ≡ more → Appends old new written → GrowsText replies old new trace before after
grows_text replies old new trace before after more written entry is took start told = rw (entry.text, ← is) (Appends-trans start old new (text_of replies trace before) written told took)

-- a front of an entry was taken
pub grows_front : (replies : Bool) (old new : Option (List ℕ)) (trace : Trace) (before after : Journal) (more written : List ℕ) → Entry replies trace before after more → written ≡ more → AppendsFront old new 0 written → GrowsFront replies old new trace before after
grows_front replies old new trace before after more written entry is took start told =
    rw (entry.text, entry.last, ← is) (let p = AppendsFront-after start old new 0 (text_of replies trace before) written told took in rw add-zero at p)

-- nothing was put in, and nothing taken
pub grows_none : (replies : Bool) (old : Option (List ℕ)) (trace : Trace) (before after : Journal) → IsSame before after → GrowsText replies old old trace before after
unfolding text_of
grows_none replies old trace before after same start told = rw (same.items, same.total) told

-- an item that was put in is an entry, of its text
pub item_entry : (replies : Bool) (trace : Trace) (before after : Journal) (d : Done) (number : ℕ) → length before.items ≡ number → before.total ≡ None → after.total ≡ before.total → after.items ≡ before.items ++ d ∷ [] → Entry replies trace before after (text_at replies trace number d)
unfolding text_of last_begins
item_entry replies trace before after d number is none total items = record {
  text = rw (total, none, items, ← is) (append-nil _ ∙ items_text-more replies trace trace.items before.items d ∙ ap (λ l. l ++ text_at replies trace (length before.items) d) (sym (append-nil _)));
  last = rw (total, none, items) (ap (λ l. length (items_text replies trace trace.items l)) (take_at before.items (d ∷ []) _ (omega (arith, length-append before.items (d ∷ [])))) ∙ ap length (sym (append-nil _)));
}

-- and so is the total
pub total_entry : (replies : Bool) (trace : Trace) (before after : Journal) (n : Total) → before.total ≡ None → after.total ≡ Some n → after.items ≡ before.items → Entry replies trace before after (total_text n)
unfolding text_of last_begins
total_entry replies trace before after n none total items = record {
  text = rw (total, none, items) (ap (λ l. l ++ total_text n) (sym (append-nil _)));
  last = rw (total, none, items) (ap length (sym (append-nil _)));
}

-- a journal with nothing in it has no text
pub empty_text : (replies : Bool) (trace : Trace) (journal : Journal) → journal.items ≡ [] → journal.total ≡ None → text_of replies trace journal ≡ []
unfolding text_of
empty_text replies trace journal no_items no_total = rw (no_items, no_total, items_text-none replies trace trace.items) refl

-- more was told after more was told
pub tells_then : {A : Type 0} (replies : Bool) (old mid new : Option (List ℕ)) (trace : Trace) (before middle after : Journal) (r : Result A Stop) → GrowsText replies old mid trace before middle → Tells replies mid new trace middle after r → Tells replies old new trace before after r
tells_then replies old mid new trace before middle after (Err WriteFault) first more = λ start h. more start (first start h)
tells_then replies old mid new trace before middle after _ first more = λ start h. more start (first start h)

-- since a journal with nothing in it, all of the text was told
pub took_of : (replies : Bool) (old new : Option (List ℕ)) (trace : Trace) (before after : Journal) (r : Result (Unit {0}) Stop) → text_of replies trace before ≡ [] → Tells replies old new trace before after r → TookText replies old new (Some trace) after r
took_of replies old new trace before after (Err WriteFault) none tells = tells old (rw none (Appends-nil old))
took_of replies old new trace before after _ none tells = tells old (rw none (Appends-nil old))

-- where it stopped, whatever it was to give
pub took_err : (A B : Type 0) (replies : Bool) (old new : Option (List ℕ)) (trace : Trace) (before after : Journal) (e : Stop) → text_of replies trace before ≡ [] → Tells {A = A} replies old new trace before after (Err e) → TookText {A = B} replies old new (Some trace) after (Err e)
took_err A B replies old new trace before after WriteFault none tells = tells old (rw none (Appends-nil old))
took_err A B replies old new trace before after _ none tells = tells old (rw none (Appends-nil old))

pub took_as : (A B : Type 0) (replies : Bool) (old new : Option (List ℕ)) (trace : Option Trace) (after : Journal) (e : Stop) → TookText {A = A} replies old new trace after (Err e) → TookText {A = B} replies old new trace after (Err e)
took_as A B replies old new trace after WriteFault took = took
took_as A B replies old new trace after _ took = took

pub tells_as : (A B : Type 0) (replies : Bool) (old new : Option (List ℕ)) (trace : Trace) (before after : Journal) (e : Stop) → Tells {A = A} replies old new trace before after (Err e) → Tells {A = B} replies old new trace before after (Err e)
tells_as A B replies old new trace before after WriteFault tells = tells
tells_as A B replies old new trace before after _ tells = tells
