-- Texts that a sink takes one behind the other.
use Rattle.std.proofs.Common.{◌≡◌, ℕ, ◌+◌, Bool, true, false, if◌then◌else◌, List, [], ◌++◌, length, Result, Err, refl, ap, sym, subst, ◌∙◌, arith}
use Rattle.std.proofs.KnownBytes.{Appends-nil, Appends-trans}
use Rattle.std.proofs.lemmas.Result.{err_from_is_err_and}
use Rattle.std.specs.Prelude.{IsErrAnd}
use Rattle.std.specs.Io.KnownBytes.{Appends}
use Rattle.slub_asked.specs.declared.stop.Stop.{Stop}
use Rattle.slub_asked.specs.declared.stop.Stop.TheVariants.{WriteFault}
use Rattle.slub_edges.specs.Edges.{AppendsFront, Rose}
use Rattle.slub_edges.proofs.Told.{AppendsFront-after, AppendsFront-longer, AppendsFront-past}
use Rattle.slub_round_log.specs.Log.{FailsAt, SinkState, Takes}
use Rattle.slub_steps.specs.Inner.{WritesText}
use Rattle.slub_steps.specs.Rounds.{if_shown}

pub takes_nothing : (s : SinkState) → Takes s s []
takes_nothing s = record { written = Appends-nil s.taken; still = refl }

pub takes_both : (a b c : SinkState) (xs ys : List ℕ) → Takes a b xs → Takes b c ys → Takes a c (xs ++ ys)
takes_both a b c xs ys one more = record {
  written = Appends-trans a.taken b.taken c.taken xs ys one.written more.written;
  still = more.still ∙ one.still;
}

pub fails_after : (a b c : SinkState) (xs ys : List ℕ) → Takes a b xs → FailsAt b c ys → FailsAt a c (xs ++ ys)
fails_after a b c xs ys one fails = record {
  front = AppendsFront-past a.taken c.taken 0 (length xs + 0) (xs ++ ys) (omega arith) (AppendsFront-after a.taken b.taken c.taken 0 xs ys one.written fails.front);
  rose = subst (λ (n : ℕ). Rose n c.faults) one.still fails.rose;
}

pub takes_as : (a b : SinkState) (xs ys : List ℕ) → xs ≡ ys → Takes a b xs → Takes a b ys
takes_as a b xs ys is takes = subst (λ (t : List ℕ). Takes a b t) is takes

-- what is shown of two texts
pub shown_both : (b : Bool) (xs ys : List ℕ) → if_shown b xs ++ if_shown b ys ≡ if_shown b (xs ++ ys)
shown_both true xs ys = refl
shown_both false xs ys = refl

-- ---- a text in two parts, of which a write fails

failed : {A : Type 0} (b : Bool) (old new : SinkState) (text : List ℕ) (r : Result A Stop) → b ≡ true → IsErrAnd r (λ stop. stop ≡ WriteFault) → FailsAt old new text → WritesText old new (if_shown b text) r
failed {A} b old new text r is err fails =
    let p = err_from_is_err_and r err in
    let e : r ≡ Err WriteFault = p.1 ∙ ap (λ (stop : Stop). Err stop) p.2 in
    let at : WritesText {A = A} old new text (Err WriteFault) = fails in
    let here : WritesText old new text r = subst (λ (r : Result A Stop). WritesText old new text r) (sym e) at in
    subst (λ (b : Bool). WritesText old new (if_shown b text) r) (sym is) here

-- in the first
pub fails_first : {A : Type 0} (b : Bool) (old new : SinkState) (front more : List ℕ) (r : Result A Stop) → b ≡ true → IsErrAnd r (λ stop. stop ≡ WriteFault)
    → AppendsFront old.taken new.taken 0 front → Rose old.faults new.faults → WritesText old new (if_shown b (front ++ more)) r
fails_first b old new front more r is err fails rose =
    failed b old new (front ++ more) r is err (record { front = AppendsFront-longer old.taken new.taken 0 front more fails; rose = rose })

-- in the second
pub fails_second : {A : Type 0} (b : Bool) (old mid new : SinkState) (front more : List ℕ) (r : Result A Stop) → b ≡ true → IsErrAnd r (λ stop. stop ≡ WriteFault)
    → Appends old.taken mid.taken front → mid.faults ≡ old.faults → AppendsFront mid.taken new.taken 0 more → Rose mid.faults new.faults → WritesText old new (if_shown b (front ++ more)) r
fails_second b old mid new front more r is err took still fails rose =
    failed b old new (front ++ more) r is err (fails_after old mid new front more (record { written = took; still = still }) (record { front = fails; rose = rose }))

-- a result that is this error
pub err_is : {A E : Type 0} (P : Result A E → Type 0) (r : Result A E) (e : E) → IsErrAnd r (λ x. x ≡ e) → P (Err e) → P r
err_is {A} {E} P r e is holds =
    let p = err_from_is_err_and r is in
    subst P (sym (p.1 ∙ ap (λ (x : E). Err x) p.2)) holds
