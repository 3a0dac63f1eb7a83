-- Lines below lines, and that bytes are lines in one way.
use Rattle.std.proofs.Common.{◌≡◌, ℕ, suc, ◌+◌, ◌≤◌, Some, List, [], ◌∷◌, ◌++◌, length, refl, sym, ap, ◌∙◌, arith, subst, inl, inr, append_assoc}
use Rattle.std.proofs.lemmas.List.{append-nil}
use Rattle.std.proofs.lemmas.Bool.{cases_order}
use Rattle.slub_trace_reader.specs.declared.line.Line.{Line}
use Rattle.slub_trace_reader.specs.declared.line.Line.TheVariants.{Passed, Slubtrace, Machine, Cache, Shrink, Destroy, Tune, Slabinfo, Client, Round, Alloc, Free, Write, Read, Poke, Trim, Flush, Done, End}
use Rattle.slub_trace_reader.specs.declared.place.Place.TheVariants.{After}
use Rattle.slub_trace_reader.specs.declared.reading.Why.{Why}
use Rattle.slub_trace_reader.specs.declared.reading.Why.TheVariants.{Unfinished, AfterEnd, Form, Range, TooManyRounds, UnknownCache, ObjectTwice, UnknownObject, ReadBeforeWrite, NoEnd}
use Rattle.slub_trace.specs.declared.trace.Trace.{Trace}
use Rattle.slub_trace_reader.specs.Above.{Above, start, after, after_all, trace_of}
use Rattle.slub_trace_reader.specs.Faults.{Next, Finished, Cut, Nothing, GoesOn, HasReason, IsFirstReason, IsFirstBad, rank}
use Rattle.slub_trace_reader.specs.Grammar.{IsLine, IsOneLine, AreLines, IsTrace}
use Rattle.slub_trace_reader.specs.Parsing.{Takes, Tells}
use Rattle.slub_trace_reader.specs.Reads.{IsBadAt}
use Rattle.slub_trace_reader.specs.State.{IsModest}
use Rattle.slub_trace_reader.specs.Window.{Leads}
use Rattle.slub_trace_reader.proofs.Reasons.{one_line, kept_line, good_not_bad}
use Rattle.slub_trace_reader.proofs.LineTexts.{line_again}

-- ---- workers and CPUs are few

pub modest_start : IsModest start
modest_start = record { workers = omega arith; cpus = omega arith }

modest_after : (a : Above) (text : List ℕ) (line : Line) → IsModest a → IsLine a text line → IsModest (after a line)
modest_after a text Passed modest good = record { workers = modest.workers; cpus = modest.cpus }
modest_after a text (Slubtrace version) modest good = record { workers = omega arith; cpus = modest.cpus }
modest_after a text (Machine frames cpus tid) modest good = record { workers = omega arith; cpus = good.range.3 }
modest_after a text (Cache name size align flags) modest good = record { workers = modest.workers; cpus = modest.cpus }
modest_after a text (Shrink name) modest good = record { workers = modest.workers; cpus = modest.cpus }
modest_after a text (Destroy name) modest good = record { workers = modest.workers; cpus = modest.cpus }
modest_after a text (Tune name knob number) modest good = record { workers = modest.workers; cpus = modest.cpus }
modest_after a text Slabinfo modest good = record { workers = modest.workers; cpus = modest.cpus }
modest_after a text (Client line) modest good = record { workers = modest.workers; cpus = modest.cpus }
modest_after a text (Round workers) modest good = record { workers = good.range.1; cpus = modest.cpus }
modest_after a text (Alloc worker cpu name object) modest good = record { workers = modest.workers; cpus = modest.cpus }
modest_after a text (Free worker cpu object) modest good = record { workers = modest.workers; cpus = modest.cpus }
modest_after a text (Write worker object word value) modest good = record { workers = modest.workers; cpus = modest.cpus }
modest_after a text (Read worker object word) modest good = record { workers = modest.workers; cpus = modest.cpus }
modest_after a text (Poke worker object negative offset byte) modest good = record { workers = modest.workers; cpus = modest.cpus }
modest_after a text (Trim worker name) modest good = record { workers = modest.workers; cpus = modest.cpus }
modest_after a text (Flush worker cpu) modest good = record { workers = modest.workers; cpus = modest.cpus }
modest_after a text Done modest good = record { workers = omega arith; cpus = modest.cpus }
modest_after a text End modest good = record { workers = omega arith; cpus = modest.cpus }

pub modest_all : (a : Above) (bytes : List ℕ) (lines : List Line) → IsModest a → AreLines a bytes lines → IsModest (after_all a lines)
modest_all a bytes [] modest are = modest
modest_all a bytes (line ∷ lines) modest are = modest_all (after a line) are.1 lines (modest_after a are.0 line modest are.4) are.5

-- ---- one line more

-- a line counts
pub count_after : (a : Above) (line : Line) → (after a line).count ≡ a.count + 1
count_after a Passed = refl
count_after a (Slubtrace version) = refl
count_after a (Machine frames cpus tid) = refl
count_after a (Cache name size align flags) = refl
count_after a (Shrink name) = refl
count_after a (Destroy name) = refl
count_after a (Tune name knob number) = refl
count_after a Slabinfo = refl
count_after a (Client line) = refl
count_after a (Round workers) = refl
count_after a (Alloc worker cpu name object) = refl
count_after a (Free worker cpu object) = refl
count_after a (Write worker object word value) = refl
count_after a (Read worker object word) = refl
count_after a (Poke worker object negative offset byte) = refl
count_after a (Trim worker name) = refl
count_after a (Flush worker cpu) = refl
count_after a Done = refl
count_after a End = refl

pub after_more : (a : Above) (lines : List Line) (line : Line) → after_all a (lines ++ line ∷ []) ≡ after (after_all a lines) line
after_more a [] line = refl
after_more a (first ∷ lines) line = after_more (after a first) lines line

pub lines_more : (a : Above) (bytes : List ℕ) (lines : List Line) (text : List ℕ) (line : Line) → AreLines a bytes lines → IsOneLine text → IsLine (after_all a lines) text line
    → AreLines a (bytes ++ (text ++ 10 ∷ [])) (lines ++ line ∷ [])
lines_more a bytes [] text line are one good = (text, [], ap (λ b. b ++ (text ++ 10 ∷ [])) are, one, good, refl)
lines_more a bytes (first ∷ lines) text line are one good = (
  are.0,
  are.1 ++ (text ++ 10 ∷ []),
  ap (λ b. b ++ (text ++ 10 ∷ [])) are.2 ∙ append_assoc are.0 (10 ∷ are.1) (text ++ 10 ∷ []),
  are.3,
  are.4,
  lines_more (after a first) are.1 lines text line are.5 one good,
)

-- ---- the first line feed

-- texts up to the first line feed are one
same_text : (t u r s : List ℕ) → IsOneLine t → IsOneLine u → t ++ 10 ∷ r ≡ u ++ 10 ∷ s → (t ≡ u) × (r ≡ s)
same_text [] [] r s lt lu is = (refl, cc is)
same_text [] (y ∷ u) r s lt lu is = absurd (lu 0 10 (grind arith) (cc is))
same_text (x ∷ t) [] r s lt lu is = absurd (lt 0 10 (grind arith) (cc is))
same_text (x ∷ t) (y ∷ u) r s lt lu is =
    let head : x ≡ y = cc is in
    let tail : t ++ 10 ∷ r ≡ u ++ 10 ∷ s = cc is in
    let more = same_text t u r s (λ k d low. lt (suc k) d (grind arith)) (λ k d low. lu (suc k) d (grind arith)) tail in
    (rw (head, more.0) refl, more.1)

-- no line feed stands in a line
no_feed : (t r : List ℕ) → IsOneLine (t ++ 10 ∷ r) → ⊥
no_feed [] r lacks = lacks 0 10 (grind arith) refl
no_feed (x ∷ t) r lacks = no_feed t r (λ k d low. lacks (suc k) d (grind arith))

-- a finished line isn't nothing
some_line : (t r : List ℕ) → t ++ 10 ∷ r ≡ [] → ⊥
some_line [] r is = cc
some_line (x ∷ t) r is = cc

-- bytes go on in one way
next_same : (bytes : List ℕ) (n m : Next) → GoesOn bytes n → GoesOn bytes m → n ≡ m
next_same bytes (Finished t) (Finished u) p q = ap Finished (same_text t u p.0 q.0 p.2 q.2 (sym p.1 ∙ q.1)).0
next_same bytes (Finished t) (Cut u) p q = absurd (no_feed t p.0 (subst (λ (b : List ℕ). IsOneLine b) (sym q.0 ∙ p.1) q.2))
next_same bytes (Finished t) Nothing p q = absurd (some_line t p.0 (sym p.1 ∙ q))
next_same bytes (Cut t) (Finished u) p q = absurd (no_feed u q.0 (subst (λ (b : List ℕ). IsOneLine b) (sym p.0 ∙ q.1) p.2))
next_same bytes (Cut t) (Cut u) p q = ap Cut (sym p.0 ∙ q.0)
next_same bytes (Cut t) Nothing p q = absurd (p.1 (sym p.0 ∙ q))
next_same bytes Nothing (Finished u) p q = absurd (some_line u q.0 (sym q.1 ∙ p))
next_same bytes Nothing (Cut u) p q = absurd (q.1 (sym q.0 ∙ p))
next_same bytes Nothing Nothing p q = refl

-- ---- lines in one way

-- a text is one good line
same_line : (a : Above) (text : List ℕ) (l m : Line) → IsModest a → IsLine a text l → IsLine a text m → m ≡ l
same_line a text l m modest good also =
    one_line a text l m modest (line_again text l good.says ∙ ap (λ k. Some k) (kept_line a l modest good.range)) good.range also.says

-- what follows isn't a good line
abbrev pub Stops : Above → Next → Type 0
Stops a next = (text : List ℕ) (line : Line) → next ≡ Finished text → IsLine a text line → ⊥

-- good lines with a stop behind them stand at the front of bytes in one way
pub same_stop : (a : Above) (bytes front rest : List ℕ) (above : List Line) (n : Next) (front2 rest2 : List ℕ) (above2 : List Line) (m : Next) → IsModest a
    → bytes ≡ front ++ rest → AreLines a front above → GoesOn rest n → Stops (after_all a above) n
    → bytes ≡ front2 ++ rest2 → AreLines a front2 above2 → GoesOn rest2 m → Stops (after_all a above2) m → (above ≡ above2) × (n ≡ m)
same_stop a bytes front rest [] n front2 rest2 [] m modest whole are on stops whole2 are2 on2 stops2 =
    let one : bytes ≡ rest = whole ∙ ap (λ f. f ++ rest) are in
    let two : bytes ≡ rest2 = whole2 ∙ ap (λ f. f ++ rest2) are2 in
    (refl, next_same bytes n m (subst (λ (b : List ℕ). GoesOn b n) (sym one) on) (subst (λ (b : List ℕ). GoesOn b m) (sym two) on2))
same_stop a bytes front rest [] n front2 rest2 (l ∷ ls) m modest whole are on stops whole2 are2 on2 stops2 =
    let one : bytes ≡ rest = whole ∙ ap (λ f. f ++ rest) are in
    let two : bytes ≡ are2.0 ++ 10 ∷ (are2.1 ++ rest2) = whole2 ∙ ap (λ f. f ++ rest2) are2.2 ∙ append_assoc are2.0 (10 ∷ are2.1) rest2 in
    absurd (stops are2.0 l (next_same bytes n (Finished are2.0) (subst (λ (b : List ℕ). GoesOn b n) (sym one) on) (are2.1 ++ rest2, two, are2.3)) are2.4)
same_stop a bytes front rest (l ∷ ls) n front2 rest2 [] m modest whole are on stops whole2 are2 on2 stops2 =
    let one : bytes ≡ rest2 = whole2 ∙ ap (λ f. f ++ rest2) are2 in
    let two : bytes ≡ are.0 ++ 10 ∷ (are.1 ++ rest) = whole ∙ ap (λ f. f ++ rest) are.2 ∙ append_assoc are.0 (10 ∷ are.1) rest in
    absurd (stops2 are.0 l (next_same bytes m (Finished are.0) (subst (λ (b : List ℕ). GoesOn b m) (sym one) on2) (are.1 ++ rest, two, are.3)) are.4)
same_stop a bytes front rest (l ∷ ls) n front2 rest2 (k ∷ ks) m modest whole are on stops whole2 are2 on2 stops2 =
    let one : bytes ≡ are.0 ++ 10 ∷ (are.1 ++ rest) = whole ∙ ap (λ f. f ++ rest) are.2 ∙ append_assoc are.0 (10 ∷ are.1) rest in
    let two : bytes ≡ are2.0 ++ 10 ∷ (are2.1 ++ rest2) = whole2 ∙ ap (λ f. f ++ rest2) are2.2 ∙ append_assoc are2.0 (10 ∷ are2.1) rest2 in
    let texts = same_text are.0 are2.0 (are.1 ++ rest) (are2.1 ++ rest2) are.3 are2.3 (sym one ∙ two) in
    let also : IsLine a are.0 k = subst (λ (t : List ℕ). IsLine a t k) (sym texts.0) are2.4 in
    let same : k ≡ l = same_line a are.0 l k modest are.4 also in
    let P : Line → Type 0 = λ x. AreLines (after a x) are2.1 ks × Stops (after_all (after a x) ks) m in
    let moved = subst P same (are2.5, stops2) in
    let rec = same_stop (after a l) (are.1 ++ rest) are.1 rest ls n are2.1 rest2 ks m (modest_after a are.0 l modest are.4) refl are.5 on stops texts.1 moved.0 on2 moved.1 in
    (ap (λ x. x ∷ ls) (sym same) ∙ ap (λ xs. k ∷ xs) rec.0, rec.1)

-- ---- traces and first bad lines

-- a whole trace has nothing behind it
all_front : (bytes : List ℕ) → bytes ≡ bytes ++ []
all_front bytes = sym (append-nil bytes)

nothing_stops : (a : Above) → Stops a Nothing
nothing_stops a text line is good = cc is

-- bytes are one trace at most
pub trace_once : (bytes : List ℕ) (s t : Trace) → IsTrace bytes s → IsTrace bytes t → t ≡ s
trace_once bytes s t is also =
    let same = (same_stop start bytes bytes [] is.lines Nothing bytes [] also.lines Nothing modest_start (all_front bytes) is.are refl (nothing_stops _) (all_front bytes) also.are refl (nothing_stops _)).0 in
    also.gives ∙ ap (λ ls. trace_of (after_all start ls)) (sym same) ∙ sym is.gives

-- what is bad isn't a good line
reason_stops : (a : Above) (next : Next) (why : Why) → IsModest a → HasReason a next why → Stops a next
reason_stops a (Finished t) why modest bad text line is good =
    good_not_bad a t line why modest (subst (λ (u : List ℕ). IsLine a u line) (sym (let same : t ≡ text = cc is in same)) good) bad
reason_stops a (Cut t) why modest bad text line is good = cc is
reason_stops a Nothing why modest bad text line is good = cc is

bad_stops : (bytes : List ℕ) (number : ℕ) (why : Why) (bad : IsFirstBad bytes number why) → Stops (after_all start bad.above) bad.next
bad_stops bytes number why bad = reason_stops (after_all start bad.above) bad.next why (modest_all start bad.front bad.above modest_start bad.good) bad.reason.holds

-- bytes with a first bad line are no trace
pub bad_no_trace : (bytes : List ℕ) (number : ℕ) (why : Why) (trace : Trace) → IsFirstBad bytes number why → IsTrace bytes trace → ⊥
bad_no_trace bytes number why trace bad is =
    let same = same_stop start bytes bad.front bad.rest bad.above bad.next bytes [] is.lines Nothing modest_start bad.whole bad.good bad.follows (bad_stops bytes number why bad)
    (all_front bytes) is.are refl (nothing_stops _) in
    let held : HasReason (after_all start bad.above) Nothing why = subst (λ (n : Next). HasReason (after_all start bad.above) n why) same.1 bad.reason.holds in
    held.1 (ap (λ ls. (after_all start ls).place) same.0 ∙ is.ended)

-- reasons of one rank are one
same_rank : (v w : Why) → rank v ≡ rank w → v ≡ w
same_rank Unfinished Unfinished is = refl
same_rank Unfinished AfterEnd is = absurd (let never : ⊥ = omega arith in never)
same_rank Unfinished Form is = absurd (let never : ⊥ = omega arith in never)
same_rank Unfinished Range is = absurd (let never : ⊥ = omega arith in never)
same_rank Unfinished TooManyRounds is = absurd (let never : ⊥ = omega arith in never)
same_rank Unfinished UnknownCache is = absurd (let never : ⊥ = omega arith in never)
same_rank Unfinished ObjectTwice is = absurd (let never : ⊥ = omega arith in never)
same_rank Unfinished UnknownObject is = absurd (let never : ⊥ = omega arith in never)
same_rank Unfinished ReadBeforeWrite is = absurd (let never : ⊥ = omega arith in never)
same_rank Unfinished NoEnd is = absurd (let never : ⊥ = omega arith in never)
same_rank AfterEnd Unfinished is = absurd (let never : ⊥ = omega arith in never)
same_rank AfterEnd AfterEnd is = refl
same_rank AfterEnd Form is = absurd (let never : ⊥ = omega arith in never)
same_rank AfterEnd Range is = absurd (let never : ⊥ = omega arith in never)
same_rank AfterEnd TooManyRounds is = absurd (let never : ⊥ = omega arith in never)
same_rank AfterEnd UnknownCache is = absurd (let never : ⊥ = omega arith in never)
same_rank AfterEnd ObjectTwice is = absurd (let never : ⊥ = omega arith in never)
same_rank AfterEnd UnknownObject is = absurd (let never : ⊥ = omega arith in never)
same_rank AfterEnd ReadBeforeWrite is = absurd (let never : ⊥ = omega arith in never)
same_rank AfterEnd NoEnd is = absurd (let never : ⊥ = omega arith in never)
same_rank Form Unfinished is = absurd (let never : ⊥ = omega arith in never)
same_rank Form AfterEnd is = absurd (let never : ⊥ = omega arith in never)
same_rank Form Form is = refl
same_rank Form Range is = absurd (let never : ⊥ = omega arith in never)
same_rank Form TooManyRounds is = absurd (let never : ⊥ = omega arith in never)
same_rank Form UnknownCache is = absurd (let never : ⊥ = omega arith in never)
same_rank Form ObjectTwice is = absurd (let never : ⊥ = omega arith in never)
same_rank Form UnknownObject is = absurd (let never : ⊥ = omega arith in never)
same_rank Form ReadBeforeWrite is = absurd (let never : ⊥ = omega arith in never)
same_rank Form NoEnd is = absurd (let never : ⊥ = omega arith in never)
same_rank Range Unfinished is = absurd (let never : ⊥ = omega arith in never)
same_rank Range AfterEnd is = absurd (let never : ⊥ = omega arith in never)
same_rank Range Form is = absurd (let never : ⊥ = omega arith in never)
same_rank Range Range is = refl
same_rank Range TooManyRounds is = absurd (let never : ⊥ = omega arith in never)
same_rank Range UnknownCache is = absurd (let never : ⊥ = omega arith in never)
same_rank Range ObjectTwice is = absurd (let never : ⊥ = omega arith in never)
same_rank Range UnknownObject is = absurd (let never : ⊥ = omega arith in never)
same_rank Range ReadBeforeWrite is = absurd (let never : ⊥ = omega arith in never)
same_rank Range NoEnd is = absurd (let never : ⊥ = omega arith in never)
same_rank TooManyRounds Unfinished is = absurd (let never : ⊥ = omega arith in never)
same_rank TooManyRounds AfterEnd is = absurd (let never : ⊥ = omega arith in never)
same_rank TooManyRounds Form is = absurd (let never : ⊥ = omega arith in never)
same_rank TooManyRounds Range is = absurd (let never : ⊥ = omega arith in never)
same_rank TooManyRounds TooManyRounds is = refl
same_rank TooManyRounds UnknownCache is = absurd (let never : ⊥ = omega arith in never)
same_rank TooManyRounds ObjectTwice is = absurd (let never : ⊥ = omega arith in never)
same_rank TooManyRounds UnknownObject is = absurd (let never : ⊥ = omega arith in never)
same_rank TooManyRounds ReadBeforeWrite is = absurd (let never : ⊥ = omega arith in never)
same_rank TooManyRounds NoEnd is = absurd (let never : ⊥ = omega arith in never)
same_rank UnknownCache Unfinished is = absurd (let never : ⊥ = omega arith in never)
same_rank UnknownCache AfterEnd is = absurd (let never : ⊥ = omega arith in never)
same_rank UnknownCache Form is = absurd (let never : ⊥ = omega arith in never)
same_rank UnknownCache Range is = absurd (let never : ⊥ = omega arith in never)
same_rank UnknownCache TooManyRounds is = absurd (let never : ⊥ = omega arith in never)
same_rank UnknownCache UnknownCache is = refl
same_rank UnknownCache ObjectTwice is = absurd (let never : ⊥ = omega arith in never)
same_rank UnknownCache UnknownObject is = absurd (let never : ⊥ = omega arith in never)
same_rank UnknownCache ReadBeforeWrite is = absurd (let never : ⊥ = omega arith in never)
same_rank UnknownCache NoEnd is = absurd (let never : ⊥ = omega arith in never)
same_rank ObjectTwice Unfinished is = absurd (let never : ⊥ = omega arith in never)
same_rank ObjectTwice AfterEnd is = absurd (let never : ⊥ = omega arith in never)
same_rank ObjectTwice Form is = absurd (let never : ⊥ = omega arith in never)
same_rank ObjectTwice Range is = absurd (let never : ⊥ = omega arith in never)
same_rank ObjectTwice TooManyRounds is = absurd (let never : ⊥ = omega arith in never)
same_rank ObjectTwice UnknownCache is = absurd (let never : ⊥ = omega arith in never)
same_rank ObjectTwice ObjectTwice is = refl
same_rank ObjectTwice UnknownObject is = absurd (let never : ⊥ = omega arith in never)
same_rank ObjectTwice ReadBeforeWrite is = absurd (let never : ⊥ = omega arith in never)
same_rank ObjectTwice NoEnd is = absurd (let never : ⊥ = omega arith in never)
same_rank UnknownObject Unfinished is = absurd (let never : ⊥ = omega arith in never)
same_rank UnknownObject AfterEnd is = absurd (let never : ⊥ = omega arith in never)
same_rank UnknownObject Form is = absurd (let never : ⊥ = omega arith in never)
same_rank UnknownObject Range is = absurd (let never : ⊥ = omega arith in never)
same_rank UnknownObject TooManyRounds is = absurd (let never : ⊥ = omega arith in never)
same_rank UnknownObject UnknownCache is = absurd (let never : ⊥ = omega arith in never)
same_rank UnknownObject ObjectTwice is = absurd (let never : ⊥ = omega arith in never)
same_rank UnknownObject UnknownObject is = refl
same_rank UnknownObject ReadBeforeWrite is = absurd (let never : ⊥ = omega arith in never)
same_rank UnknownObject NoEnd is = absurd (let never : ⊥ = omega arith in never)
same_rank ReadBeforeWrite Unfinished is = absurd (let never : ⊥ = omega arith in never)
same_rank ReadBeforeWrite AfterEnd is = absurd (let never : ⊥ = omega arith in never)
same_rank ReadBeforeWrite Form is = absurd (let never : ⊥ = omega arith in never)
same_rank ReadBeforeWrite Range is = absurd (let never : ⊥ = omega arith in never)
same_rank ReadBeforeWrite TooManyRounds is = absurd (let never : ⊥ = omega arith in never)
same_rank ReadBeforeWrite UnknownCache is = absurd (let never : ⊥ = omega arith in never)
same_rank ReadBeforeWrite ObjectTwice is = absurd (let never : ⊥ = omega arith in never)
same_rank ReadBeforeWrite UnknownObject is = absurd (let never : ⊥ = omega arith in never)
same_rank ReadBeforeWrite ReadBeforeWrite is = refl
same_rank ReadBeforeWrite NoEnd is = absurd (let never : ⊥ = omega arith in never)
same_rank NoEnd Unfinished is = absurd (let never : ⊥ = omega arith in never)
same_rank NoEnd AfterEnd is = absurd (let never : ⊥ = omega arith in never)
same_rank NoEnd Form is = absurd (let never : ⊥ = omega arith in never)
same_rank NoEnd Range is = absurd (let never : ⊥ = omega arith in never)
same_rank NoEnd TooManyRounds is = absurd (let never : ⊥ = omega arith in never)
same_rank NoEnd UnknownCache is = absurd (let never : ⊥ = omega arith in never)
same_rank NoEnd ObjectTwice is = absurd (let never : ⊥ = omega arith in never)
same_rank NoEnd UnknownObject is = absurd (let never : ⊥ = omega arith in never)
same_rank NoEnd ReadBeforeWrite is = absurd (let never : ⊥ = omega arith in never)
same_rank NoEnd NoEnd is = refl

-- the first reason is one
first_once : (a : Above) (next : Next) (v w : Why) → IsFirstReason a next v → IsFirstReason a next w → w ≡ v
first_once a next v w is also = elim (cases_order (rank w) (rank v)) [
  | inl same ↦ same_rank w v same
  | inr apart ↦ elim apart [
    | inl low ↦ absurd (is.first w low also.holds)
    | inr low ↦ absurd (also.first v low is.holds)
  ]
]

-- the first bad line and its reason are one
pub bad_once : (bytes : List ℕ) (n m : ℕ) (v w : Why) → IsFirstBad bytes n v → IsFirstBad bytes m w → (m ≡ n) × (w ≡ v)
bad_once bytes n m v w bad also =
    let same = same_stop start bytes bad.front bad.rest bad.above bad.next also.front also.rest also.above also.next modest_start
    bad.whole bad.good bad.follows (bad_stops bytes n v bad) also.whole also.good also.follows (bad_stops bytes m w also) in
    let P : List Line → Next → Type 0 = λ ls x. IsFirstReason (after_all start ls) x w in
    let moved : P bad.above bad.next = subst (λ ls. P ls bad.next) (sym same.0) (subst (λ x. P also.above x) (sym same.1) also.reason) in
    (also.below ∙ ap (λ ls. (after_all start ls).count + 1) (sym same.0) ∙ sym bad.below, first_once (after_all start bad.above) bad.next v w bad.reason moved)

pub bad_at : (bytes : List ℕ) (number : ℕ) (why : Why) → length bytes ≤ 16777216 → IsFirstBad bytes number why → IsBadAt bytes number why
bad_at bytes number why short bad = record {
  none = (short, λ trace is. bad_no_trace bytes number why trace bad is);
  first = bad;
  only = λ n w also. bad_once bytes number n why w bad also;
}

-- ---- what reading keeps

-- the lines that were taken, and what is left
abbrev pub Went : List ℕ → List ℕ → Above → Type 0
Went bytes rest a = Leads start bytes rest a

pub went_start : (bytes : List ℕ) (a : Above) → a ≡ start → Went bytes bytes a
went_start bytes a is = record { lines = []; front = []; whole = refl; are = refl; says = is }

pub leads_modest : (s : Above) (bytes rest : List ℕ) (a : Above) → IsModest s → Leads s bytes rest a → IsModest a
leads_modest s bytes rest a modest leads = subst IsModest (sym leads.says) (modest_all s leads.front leads.lines modest leads.are)

pub went_modest : (bytes rest : List ℕ) (a : Above) → Went bytes rest a → IsModest a
went_modest bytes rest a went = leads_modest start bytes rest a modest_start went

pub leads_more : (s : Above) (bytes rest text more : List ℕ) (a b : Above) → Leads s bytes rest a → rest ≡ text ++ 10 ∷ more → IsOneLine text → Takes a text b → Leads s bytes more b
leads_more s bytes rest text more a b leads goes one takes =
    let good : IsLine (after_all s leads.lines) text takes.0 = subst (λ (x : Above). IsLine x text takes.0) leads.says takes.1 in
    record {
      lines = leads.lines ++ takes.0 ∷ [];
      front = leads.front ++ (text ++ 10 ∷ []);
      whole = leads.whole ∙ ap (λ r. leads.front ++ r) (goes ∙ sym (append_assoc text (10 ∷ []) more)) ∙ sym (append_assoc leads.front (text ++ 10 ∷ []) more);
      are = lines_more s leads.front leads.lines text takes.0 leads.are one good;
      says = takes.2 ∙ ap (λ x. after x takes.0) leads.says ∙ sym (after_more s leads.lines takes.0);
    }

-- a line more is counted
pub takes_counts : (a b : Above) (text : List ℕ) → Takes a text b → b.count ≡ a.count + 1
takes_counts a b text takes = ap (λ (x : Above). x.count) takes.2 ∙ count_after a takes.0

-- a stop is the first bad line
pub went_bad : (bytes rest : List ℕ) (a : Above) (next : Next) (number : ℕ) (why : Why) → Went bytes rest a → GoesOn rest next → number ≡ a.count + 1 → IsFirstReason a next why → IsFirstBad bytes number why
went_bad bytes rest a next number why went on is reason = record {
  above = went.lines;
  front = went.front;
  rest = rest;
  next = next;
  whole = went.whole;
  good = went.are;
  follows = on;
  below = is ∙ ap (λ (x : Above). x.count + 1) went.says;
  reason = subst (λ (x : Above). IsFirstReason x next why) went.says reason;
}

-- last bytes without a line feed are refused
pub went_unfinished : (bytes rest : List ℕ) (a : Above) (number : ℕ) → Went bytes rest a → IsOneLine rest → (rest ≡ [] → ⊥) → number ≡ a.count + 1 → IsFirstBad bytes number Unfinished
went_unfinished bytes rest a number went one some is =
    went_bad bytes rest a (Cut rest) number Unfinished went (refl, some, one) is (record { holds = refl; first = λ other low held. absurd (let never : ⊥ = omega arith in never) })

-- no end is refused
pub went_no_end : (bytes rest : List ℕ) (a : Above) (number : ℕ) → Went bytes rest a → rest ≡ [] → (a.place ≡ After → ⊥) → number ≡ a.count + 1 → IsFirstBad bytes number NoEnd
went_no_end bytes rest a number went none on is =
    went_bad bytes rest a Nothing number NoEnd went none is
    (record { holds = (refl, on); first = λ other low held. absurd (let never : ⊥ = (let same : rank other ≡ 9 = ap rank held.0 in omega arith) in never) })

-- all lines were taken
pub went_all : (bytes rest : List ℕ) (a : Above) → Went bytes rest a → rest ≡ [] → a.place ≡ After → Tells bytes a
went_all bytes rest a went none ended = record {
  lines = went.lines;
  are = subst (λ (b : List ℕ). AreLines start b went.lines) (sym (went.whole ∙ ap (λ r. went.front ++ r) none ∙ append-nil went.front)) went.are;
  says = went.says;
  ended = ended;
}

-- what all lines say is a trace
pub tells_trace : (bytes : List ℕ) (a : Above) → length bytes ≤ 16777216 → Tells bytes a → IsTrace bytes (trace_of a)
tells_trace bytes a short tells = record {
  short = short;
  lines = tells.lines;
  are = tells.are;
  ended = ap (λ (x : Above). x.place) (sym tells.says) ∙ tells.ended;
  gives = ap trace_of tells.says;
}
