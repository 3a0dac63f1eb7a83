-- What the items of a trace are, and what was done for them.
use Rattle.std.proofs.Common.{◌≡◌, ℕ, ◌<◌, Bool, List, length, get_or, refl, sym, subst, Option, Some, MatchOption, Result, slice_get}
use Rattle.std.proofs.lemmas.Option.{slice_get_read}
use Rattle.slub_object_layout.specs.declared.layout.Setting.{Setting}
use Rattle.slub_object_layout.specs.declared.layout.Spec.{Spec}
use Rattle.slub_trace.specs.declared.trace.Item.{Item}
use Rattle.slub_trace.specs.declared.trace.Item.TheVariants as item
use Rattle.slub_trace.specs.declared.trace.Trace.{Trace}
use Rattle.slub_common.specs.declared.no_such_cache.NoSuchCache.{NoSuchCache}
use Rattle.slub_trace.specs.declared.destroy.Destroyed.{Destroyed}
use Rattle.slub_trace.specs.declared.destroy.DestroyRefusal.{DestroyRefusal}
use Rattle.slub_trace.specs.declared.tune.TuneRefusal.{TuneRefusal}
use Rattle.slub_lists.specs.Destroy.{Destroys}
use Rattle.slub_lists.specs.Shrink.{Shrinks}
use Rattle.slub_lists.specs.Tune.{Tunes}
use Rattle.slub_lists.specs.State.{State}
use Rattle.slub_slabinfo_text.specs.declared.counts.InfoRow.{InfoRow}
use Rattle.slub_slabinfo_text.specs.Counts.{rows_of}
use Rattle.slub_trace.specs.declared.create.Created.{Created}
use Rattle.slub_trace.specs.declared.create.CreateRefusal.{CreateRefusal}
use Rattle.slub_slabinfo_text.specs.declared.journal.Done.{Done}
use Rattle.slub_slabinfo_text.specs.declared.journal.Done.TheVariants as done
use Rattle.slub_slabinfo_text.specs.Lawful.{CreatesName, DoesPlain, DoesPlainAt, TakesMemory, TakesMemoryAt, name_at}

-- ---- an item that was read is done

-- it is one for which memory is taken
pub takes_at : (trace : Trace) (number : ℕ) (it : Item) → number < length trace.items → it ≡ get_or trace.items number it → TakesMemory it → TakesMemoryAt trace number
takes_at trace number it within is takes =
    let found : slice_get trace.items number ≡ Some it = slice_get_read trace.items (length trace.items) number it refl within is in
    subst (λ (found : Option Item). MatchOption found ⊥ TakesMemory) (sym found) takes

does_at : (s : State) (trace : Trace) (number : ℕ) (it : Item) (dn : Done) (after : State) → number < length trace.items → it ≡ get_or trace.items number it
    → DoesPlain s trace it dn after → DoesPlainAt s trace number dn after
does_at s trace number it dn after within is does =
    let found : slice_get trace.items number ≡ Some it = slice_get_read trace.items (length trace.items) number it refl within is in
    subst (λ (found : Option Item). MatchOption found ⊥ (λ it. DoesPlain s trace it dn after)) (sym found) does

pub does_creation : (s : State) (trace : Trace) (number : ℕ) (it : Item) (place : ℕ) (spec : Spec) (answer : Result Created CreateRefusal) (after : State)
    → number < length trace.items → it ≡ get_or trace.items number it → it ≡ item.Cache place spec
    → CreatesName s (name_at trace place) spec answer after → DoesPlainAt s trace number (done.Created answer) after
unfolding DoesPlain
does_creation s trace number it place spec answer after within at is creates =
    does_at s trace number it (done.Created answer) after within at (subst (λ (it : Item). DoesPlain s trace it (done.Created answer) after) (sym is) creates)

pub does_slabinfo : (s : State) (trace : Trace) (number : ℕ) (it : Item) (rows : List InfoRow)
    → number < length trace.items → it ≡ get_or trace.items number it → it ≡ item.Slabinfo
    → rows ≡ rows_of s → DoesPlainAt s trace number (done.Slabinfo rows) s
unfolding DoesPlain
does_slabinfo s trace number it rows within at is rows_are =
    does_at s trace number it (done.Slabinfo rows) s within at (subst (λ (it : Item). DoesPlain s trace it (done.Slabinfo rows) s) (sym is) (rows_are, refl))

pub does_shrink : (s : State) (trace : Trace) (number : ℕ) (it : Item) (place : ℕ) (answer : Result Bool NoSuchCache) (after : State)
    → number < length trace.items → it ≡ get_or trace.items number it → it ≡ item.Shrink place
    → Shrinks s (name_at trace place) answer after → DoesPlainAt s trace number (done.Shrunk answer) after
unfolding DoesPlain
does_shrink s trace number it place answer after within at is does =
    does_at s trace number it (done.Shrunk answer) after within at (subst (λ (it : Item). DoesPlain s trace it (done.Shrunk answer) after) (sym is) does)

pub does_destroy : (s : State) (trace : Trace) (number : ℕ) (it : Item) (place : ℕ) (answer : Result Destroyed DestroyRefusal) (after : State)
    → number < length trace.items → it ≡ get_or trace.items number it → it ≡ item.Destroy place
    → Destroys s (name_at trace place) answer after → DoesPlainAt s trace number (done.Destroyed answer) after
unfolding DoesPlain
does_destroy s trace number it place answer after within at is does =
    does_at s trace number it (done.Destroyed answer) after within at (subst (λ (it : Item). DoesPlain s trace it (done.Destroyed answer) after) (sym is) does)

pub does_tune : (s : State) (trace : Trace) (number : ℕ) (it : Item) (place : ℕ) (setting : Setting) (answer : Result (Unit {0}) TuneRefusal) (after : State)
    → number < length trace.items → it ≡ get_or trace.items number it → it ≡ item.Tune place setting
    → Tunes s (name_at trace place) setting answer after → DoesPlainAt s trace number (done.Tuned answer) after
unfolding DoesPlain
does_tune s trace number it place setting answer after within at is does =
    does_at s trace number it (done.Tuned answer) after within at (subst (λ (it : Item). DoesPlain s trace it (done.Tuned answer) after) (sym is) does)
