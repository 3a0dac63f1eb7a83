-- Which reason a line is bad for first.
use Rattle.std.proofs.Common.{◌≡◌, ℕ, ◌<◌, ◌≤◌, ◌^◌, true, false, Some, None, List, refl, sym, ap, ◌∙◌, arith, subst}
use Rattle.slub_common.specs.Numbers.{cut_number}
use Rattle.slub_trace_reader.specs.declared.client.ClientLine.{ClientLine}
use Rattle.slub_trace_reader.specs.declared.client.ClientLine.TheVariants.{Kmalloc, Kget, Krealloc, Bulk, Bulkfree, Mempool, Mget, Mput}
use Rattle.slub_trace_reader.specs.declared.line.Line.{Line}
use Rattle.slub_trace_reader.specs.declared.line.Line.TheVariants.{Passed, Slubtrace, Machine, Cache, Shrink, Destroy, Tune, Slabinfo, Client, Round, Alloc, Free, Write, Read, Poke, Trim, Flush, Done, End}
use Rattle.slub_trace_reader.specs.declared.place.Place.{Place}
use Rattle.slub_trace_reader.specs.declared.place.Place.TheVariants.{Between, After}
use Rattle.slub_trace_reader.specs.declared.reading.Why.{Why}
use Rattle.slub_trace_reader.specs.declared.reading.Why.TheVariants.{Unfinished, AfterEnd, Form, Range, TooManyRounds, UnknownCache, ObjectTwice, UnknownObject, ReadBeforeWrite, NoEnd}
use Rattle.slub_trace_reader.specs.Above.{Above}
use Rattle.slub_trace_reader.specs.Cut.{cut_client, cut_line}
use Rattle.slub_trace_reader.specs.Faults.{Finished, IsFormWithout, IsBad, IsFirstReason, rank}
use Rattle.slub_trace_reader.specs.Forms.{line_of}
use Rattle.slub_trace_reader.specs.Grammar.{MayStand, InRange, ClientInRange, HasRoom, HasCache, IsFresh, IsKnown, IsWritten, IsLine}
use Rattle.slub_trace_reader.specs.Lines.{Says, IsPassed}
use Rattle.slub_trace_reader.specs.State.{IsModest, IsFit, Lacks}
use Rattle.slub_trace_reader.proofs.LineTexts.{line_again, line_said}
use Rattle.slub_trace_reader.proofs.WordTexts.{same_some}

-- ---- a line and the same with its numbers cut

-- a number that is small after the cut was not cut
uncut : (n most : ℕ) → cut_number n ≤ most → most < 2 ^ 64 → cut_number n ≡ n
uncut n most small below = omega arith

-- a small number isn't cut
small : (n most : ℕ) → n ≤ most → most ≤ 2 ^ 64 → cut_number n ≡ n
small n most low below = omega arith

-- the same of the numbers of a client's line
uncut_client : (a : Above) (line : ClientLine) → IsModest a → ClientInRange a (cut_client line) → cut_client line ≡ line
uncut_client a Kmalloc modest is = refl
uncut_client a (Kget cpu size object) modest is =
    let e0 : cut_number cpu ≡ cpu = omega arith in
    let e1 : cut_number size ≡ size = omega arith in
    let e2 : cut_number object ≡ object = omega arith in
    rw (e0, e1, e2) refl
uncut_client a (Krealloc cpu object size fresh) modest is =
    let e0 : cut_number cpu ≡ cpu = omega arith in
    let e1 : cut_number object ≡ object = omega arith in
    let e2 : cut_number size ≡ size = omega arith in
    let e3 : cut_number fresh ≡ fresh = omega arith in
    rw (e0, e1, e2, e3) refl
uncut_client a (Bulk cpu name first count) modest is =
    let e0 : cut_number cpu ≡ cpu = omega arith in
    let e1 : cut_number first ≡ first = omega arith in
    let e2 : cut_number count ≡ count = omega arith in
    rw (e0, e1, e2) refl
uncut_client a (Bulkfree cpu first count) modest is =
    let e0 : cut_number cpu ≡ cpu = omega arith in
    let e1 : cut_number first ≡ first = omega arith in
    let e2 : cut_number count ≡ count = omega arith in
    rw (e0, e1, e2) refl
uncut_client a (Mempool pool name min first) modest is =
    let e0 : cut_number min ≡ min = omega arith in
    let e1 : cut_number first ≡ first = omega arith in
    rw (e0, e1) refl
uncut_client a (Mget cpu pool object) modest is =
    let e0 : cut_number cpu ≡ cpu = omega arith in
    let e1 : cut_number object ≡ object = omega arith in
    rw (e0, e1) refl
uncut_client a (Mput cpu pool object) modest is =
    let e0 : cut_number cpu ≡ cpu = omega arith in
    let e1 : cut_number object ≡ object = omega arith in
    rw (e0, e1) refl

kept_client : (a : Above) (line : ClientLine) → IsModest a → ClientInRange a line → cut_client line ≡ line
kept_client a Kmalloc modest is = refl
kept_client a (Kget cpu size object) modest is =
    let e0 : cut_number cpu ≡ cpu = omega arith in
    let e1 : cut_number size ≡ size = omega arith in
    let e2 : cut_number object ≡ object = omega arith in
    rw (e0, e1, e2) refl
kept_client a (Krealloc cpu object size fresh) modest is =
    let e0 : cut_number cpu ≡ cpu = omega arith in
    let e1 : cut_number object ≡ object = omega arith in
    let e2 : cut_number size ≡ size = omega arith in
    let e3 : cut_number fresh ≡ fresh = omega arith in
    rw (e0, e1, e2, e3) refl
kept_client a (Bulk cpu name first count) modest is =
    let e0 : cut_number cpu ≡ cpu = omega arith in
    let e1 : cut_number first ≡ first = omega arith in
    let e2 : cut_number count ≡ count = omega arith in
    rw (e0, e1, e2) refl
kept_client a (Bulkfree cpu first count) modest is =
    let e0 : cut_number cpu ≡ cpu = omega arith in
    let e1 : cut_number first ≡ first = omega arith in
    let e2 : cut_number count ≡ count = omega arith in
    rw (e0, e1, e2) refl
kept_client a (Mempool pool name min first) modest is =
    let e0 : cut_number min ≡ min = omega arith in
    let e1 : cut_number first ≡ first = omega arith in
    rw (e0, e1) refl
kept_client a (Mget cpu pool object) modest is =
    let e0 : cut_number cpu ≡ cpu = omega arith in
    let e1 : cut_number object ≡ object = omega arith in
    rw (e0, e1) refl
kept_client a (Mput cpu pool object) modest is =
    let e0 : cut_number cpu ≡ cpu = omega arith in
    let e1 : cut_number object ≡ object = omega arith in
    rw (e0, e1) refl

-- where the numbers of a line are in range after the cut, nothing was cut
pub uncut_line : (a : Above) (line : Line) → IsModest a → InRange a (cut_line line) → cut_line line ≡ line
uncut_line a Passed modest is = refl
uncut_line a (Slubtrace version) modest is = refl
uncut_line a (Machine frames cpus None) modest is = (let f : cut_number frames ≡ frames = omega arith in let c : cut_number cpus ≡ cpus = omega arith in rw (f, c) refl)
uncut_line a (Machine frames cpus (Some tid)) modest is = (let f : cut_number frames ≡ frames = omega arith in let c : cut_number cpus ≡ cpus = omega arith in let low = is.4.1 in let t : cut_number tid ≡ tid = omega arith in rw (f, c, t) refl)
uncut_line a (Cache name size align flags) modest is = (let e0 : cut_number size ≡ size = omega arith in let e1 : cut_number align ≡ align = omega arith in rw (e0, e1) refl)
uncut_line a (Shrink name) modest is = refl
uncut_line a (Destroy name) modest is = refl
uncut_line a (Tune name knob number) modest is = (let e0 : cut_number number ≡ number = omega arith in rw (e0) refl)
uncut_line a Slabinfo modest is = refl
uncut_line a (Client line) modest is = ap Client (uncut_client a line modest is)
uncut_line a (Round workers) modest is = (let e0 : cut_number workers ≡ workers = omega arith in rw (e0) refl)
uncut_line a (Alloc worker cpu name object) modest is = (let e0 : cut_number worker ≡ worker = omega arith in let e1 : cut_number cpu ≡ cpu = omega arith in let e2 : cut_number object ≡ object = omega arith in rw (e0, e1, e2) refl)
uncut_line a (Free worker cpu object) modest is = (let e0 : cut_number worker ≡ worker = omega arith in let e1 : cut_number cpu ≡ cpu = omega arith in let e2 : cut_number object ≡ object = omega arith in rw (e0, e1, e2) refl)
uncut_line a (Write worker object word value) modest is = (let e0 : cut_number worker ≡ worker = omega arith in let e1 : cut_number object ≡ object = omega arith in let e2 : cut_number word ≡ word = omega arith in let e3 : cut_number value ≡ value = omega arith in rw (e0, e1, e2, e3) refl)
uncut_line a (Read worker object word) modest is = (let e0 : cut_number worker ≡ worker = omega arith in let e1 : cut_number object ≡ object = omega arith in let e2 : cut_number word ≡ word = omega arith in rw (e0, e1, e2) refl)
uncut_line a (Poke worker object true offset byte) modest is = (let w : cut_number worker ≡ worker = omega arith in let ob : cut_number object ≡ object = omega arith in let z : cut_number offset ≡ offset = omega arith in rw (w, ob, z) refl)
uncut_line a (Poke worker object false offset byte) modest is = (let w : cut_number worker ≡ worker = omega arith in let ob : cut_number object ≡ object = omega arith in let z : cut_number offset ≡ offset = omega arith in rw (w, ob, z) refl)
uncut_line a (Trim worker name) modest is = (let e0 : cut_number worker ≡ worker = omega arith in rw (e0) refl)
uncut_line a (Flush worker cpu) modest is = (let e0 : cut_number worker ≡ worker = omega arith in let e1 : cut_number cpu ≡ cpu = omega arith in rw (e0, e1) refl)
uncut_line a Done modest is = refl
uncut_line a End modest is = refl

-- numbers in range aren't cut
pub kept_line : (a : Above) (line : Line) → IsModest a → InRange a line → cut_line line ≡ line
kept_line a Passed modest is = refl
kept_line a (Slubtrace version) modest is = refl
kept_line a (Machine frames cpus None) modest is = (let f : cut_number frames ≡ frames = omega arith in let c : cut_number cpus ≡ cpus = omega arith in rw (f, c) refl)
kept_line a (Machine frames cpus (Some tid)) modest is = (let f : cut_number frames ≡ frames = omega arith in let c : cut_number cpus ≡ cpus = omega arith in let low = is.4.1 in let t : cut_number tid ≡ tid = omega arith in rw (f, c, t) refl)
kept_line a (Cache name size align flags) modest is = (let e0 : cut_number size ≡ size = omega arith in let e1 : cut_number align ≡ align = omega arith in rw (e0, e1) refl)
kept_line a (Shrink name) modest is = refl
kept_line a (Destroy name) modest is = refl
kept_line a (Tune name knob number) modest is = (let e0 : cut_number number ≡ number = omega arith in rw (e0) refl)
kept_line a Slabinfo modest is = refl
kept_line a (Client line) modest is = ap Client (kept_client a line modest is)
kept_line a (Round workers) modest is = (let e0 : cut_number workers ≡ workers = omega arith in rw (e0) refl)
kept_line a (Alloc worker cpu name object) modest is = (let e0 : cut_number worker ≡ worker = omega arith in let e1 : cut_number cpu ≡ cpu = omega arith in let e2 : cut_number object ≡ object = omega arith in rw (e0, e1, e2) refl)
kept_line a (Free worker cpu object) modest is = (let e0 : cut_number worker ≡ worker = omega arith in let e1 : cut_number cpu ≡ cpu = omega arith in let e2 : cut_number object ≡ object = omega arith in rw (e0, e1, e2) refl)
kept_line a (Write worker object word value) modest is = (let e0 : cut_number worker ≡ worker = omega arith in let e1 : cut_number object ≡ object = omega arith in let e2 : cut_number word ≡ word = omega arith in let e3 : cut_number value ≡ value = omega arith in rw (e0, e1, e2, e3) refl)
kept_line a (Read worker object word) modest is = (let e0 : cut_number worker ≡ worker = omega arith in let e1 : cut_number object ≡ object = omega arith in let e2 : cut_number word ≡ word = omega arith in rw (e0, e1, e2) refl)
kept_line a (Poke worker object true offset byte) modest is = (let w : cut_number worker ≡ worker = omega arith in let ob : cut_number object ≡ object = omega arith in let z : cut_number offset ≡ offset = omega arith in rw (w, ob, z) refl)
kept_line a (Poke worker object false offset byte) modest is = (let w : cut_number worker ≡ worker = omega arith in let ob : cut_number object ≡ object = omega arith in let z : cut_number offset ≡ offset = omega arith in rw (w, ob, z) refl)
kept_line a (Trim worker name) modest is = (let e0 : cut_number worker ≡ worker = omega arith in rw (e0) refl)
kept_line a (Flush worker cpu) modest is = (let e0 : cut_number worker ≡ worker = omega arith in let e1 : cut_number cpu ≡ cpu = omega arith in rw (e0, e1) refl)
kept_line a Done modest is = refl
kept_line a End modest is = refl

-- a cut line may stand where the line may
pub stands_uncut : (line : Line) (version : ℕ) (place : Place) → MayStand (cut_line line) version place → MayStand line version place
stands_uncut Passed version place is = is
stands_uncut (Slubtrace named) version place is = is
stands_uncut (Machine frames cpus tid) version place is = is
stands_uncut (Cache name size align flags) version place is = is
stands_uncut (Shrink name) version place is = is
stands_uncut (Destroy name) version place is = is
stands_uncut (Tune name knob number) version place is = is
stands_uncut Slabinfo version place is = is
stands_uncut (Client line) version place is = is
stands_uncut (Round workers) version place is = is
stands_uncut (Alloc worker cpu name object) version place is = is
stands_uncut (Free worker cpu object) version place is = is
stands_uncut (Write worker object word value) version place is = is
stands_uncut (Read worker object word) version place is = is
stands_uncut (Poke worker object negative offset byte) version place is = is
stands_uncut (Trim worker name) version place is = is
stands_uncut (Flush worker cpu) version place is = is
stands_uncut Done version place is = is
stands_uncut End version place is = is

pub stands_cut : (line : Line) (version : ℕ) (place : Place) → MayStand line version place → MayStand (cut_line line) version place
stands_cut Passed version place is = is
stands_cut (Slubtrace named) version place is = is
stands_cut (Machine frames cpus tid) version place is = is
stands_cut (Cache name size align flags) version place is = is
stands_cut (Shrink name) version place is = is
stands_cut (Destroy name) version place is = is
stands_cut (Tune name knob number) version place is = is
stands_cut Slabinfo version place is = is
stands_cut (Client line) version place is = is
stands_cut (Round workers) version place is = is
stands_cut (Alloc worker cpu name object) version place is = is
stands_cut (Free worker cpu object) version place is = is
stands_cut (Write worker object word value) version place is = is
stands_cut (Read worker object word) version place is = is
stands_cut (Poke worker object negative offset byte) version place is = is
stands_cut (Trim worker name) version place is = is
stands_cut (Flush worker cpu) version place is = is
stands_cut Done version place is = is
stands_cut End version place is = is

-- after `end` a line that may stand is passed over
passed_after : (text : List ℕ) (line : Line) (version : ℕ) → Says text line → MayStand line version After → IsPassed text
passed_after text Passed version says is = says
passed_after text (Slubtrace named) version says is = cc
passed_after text (Machine frames cpus tid) version says is = cc
passed_after text (Cache name size align flags) version says is = cc
passed_after text (Shrink name) version says is = cc
passed_after text (Destroy name) version says is = cc
passed_after text (Tune name knob number) version says is = (let never : After ≡ Between = is.1 in cc)
passed_after text Slabinfo version says is = cc
passed_after text (Client line) version says is = (let never : After ≡ Between = is.1 in cc)
passed_after text (Round workers) version says is = cc
passed_after text (Alloc worker cpu name object) version says is = absurd is
passed_after text (Free worker cpu object) version says is = absurd is
passed_after text (Write worker object word value) version says is = absurd is
passed_after text (Read worker object word) version says is = absurd is
passed_after text (Poke worker object negative offset byte) version says is = absurd is
passed_after text (Trim worker name) version says is = absurd is.1
passed_after text (Flush worker cpu) version says is = absurd is.1
passed_after text Done version says is = absurd is
passed_after text End version says is = cc

-- ---- the line of a text

-- a text whose line is in range says no other line
pub one_line : (a : Above) (text : List ℕ) (c line : Line) → IsModest a → line_of text ≡ Some c → InRange a c → Says text line → line ≡ c
one_line a text c line modest is range says =
    let same : cut_line line ≡ c = same_some (cut_line line) c (sym (line_again text line says) ∙ is) in
    let in_range : InRange a (cut_line line) = subst (λ (l : Line). InRange a l) (sym same) range in
    sym (uncut_line a line modest in_range) ∙ same

-- and it says that
pub says_it : (a : Above) (text : List ℕ) (c : Line) → IsModest a → line_of text ≡ Some c → InRange a c → Says text c
says_it a text c modest is range =
    let said = line_said text c is in
    let in_range : InRange a (cut_line said.0) = subst (λ (l : Line). InRange a l) said.2 range in
    let same : said.0 ≡ c = sym (uncut_line a said.0 modest in_range) ∙ sym said.2 in
    subst (λ (l : Line). Says text l) same said.1

-- a text whose line lacks nothing is that line
pub fit_line : (a : Above) (text : List ℕ) (c : Line) → IsModest a → line_of text ≡ Some c → IsFit a c → IsLine a text c
fit_line a text c modest is fit = record {
  says = says_it a text c modest is fit.range;
  stands = fit.stands;
  range = fit.range;
  room = fit.room;
  named = fit.named;
  fresh = fit.fresh;
  known = fit.known;
  written = fit.written;
}

-- ---- reasons that are out

-- the line of a form for which something holds isn't one without it
apart : (a : Above) (text : List ℕ) (c : Line) (Holds : Line → Type 0) → IsModest a → line_of text ≡ Some c → InRange a c → Holds c → IsFormWithout a text Holds → ⊥
apart a text c Holds modest is range holds without =
    without.3 (subst (λ (l : Line). Holds l) (sym (one_line a text c without.0 modest is range without.1)) holds)

-- out of range is no line that is in range
range_apart : (a : Above) (text : List ℕ) (c : Line) → IsModest a → line_of text ≡ Some c → InRange a c → IsFormWithout a text (InRange a) → ⊥
range_apart a text c modest is range without =
    without.3 (subst (λ (l : Line). InRange a l) (sym (one_line a text c without.0 modest is range without.1)) range)

-- what a line has where it isn't bad for a reason
Passes : Above → Line → Why → Type 0
Passes a c Unfinished = Unit {0}
Passes a c AfterEnd = Unit {0}
Passes a c Form = Unit {0}
Passes a c Range = InRange a c
Passes a c TooManyRounds = HasRoom a c
Passes a c UnknownCache = HasCache a c
Passes a c ObjectTwice = IsFresh a c
Passes a c UnknownObject = IsKnown a c
Passes a c ReadBeforeWrite = IsWritten a c
Passes a c NoEnd = Unit {0}

-- a line that may stand, in range, isn't bad for a reason that it passes
refuted : (a : Above) (text : List ℕ) (c : Line) → IsModest a → line_of text ≡ Some c → MayStand c a.version a.place → InRange a c → (why : Why) → Passes a c why → IsBad a text why → ⊥
unfolding Passes
refuted a text c modest is stands range Unfinished pass bad = bad
refuted a text c modest is stands range AfterEnd pass bad = bad.1 (passed_after text c a.version (says_it a text c modest is range) (subst (λ (p : Place). MayStand c a.version p) bad.0 stands))
refuted a text c modest is stands range Form pass bad = bad c (says_it a text c modest is range) stands
refuted a text c modest is stands range Range pass bad = apart a text c (InRange a) modest is range pass bad
refuted a text c modest is stands range TooManyRounds pass bad = apart a text c (HasRoom a) modest is range pass bad
refuted a text c modest is stands range UnknownCache pass bad = apart a text c (HasCache a) modest is range pass bad
refuted a text c modest is stands range ObjectTwice pass bad = apart a text c (IsFresh a) modest is range pass bad
refuted a text c modest is stands range UnknownObject pass bad = apart a text c (IsKnown a) modest is range pass bad
refuted a text c modest is stands range ReadBeforeWrite pass bad = apart a text c (IsWritten a) modest is range pass bad
refuted a text c modest is stands range NoEnd pass bad = bad

-- a good line is bad for no reason
pub good_not_bad : (a : Above) (text : List ℕ) (line : Line) (why : Why) → IsModest a → IsLine a text line → IsBad a text why → ⊥
unfolding Passes
good_not_bad a text line why modest good bad =
    let is : line_of text ≡ Some line = line_again text line good.says ∙ ap (λ l. Some l) (kept_line a line modest good.range) in
    let passes : (other : Why) → Passes a line other = λ other. elim other as (λ w. Passes a line w) [
      | Unfinished ↦ tt
      | AfterEnd ↦ tt
      | Form ↦ tt
      | Range ↦ good.range
      | TooManyRounds ↦ good.room
      | UnknownCache ↦ good.named
      | ObjectTwice ↦ good.fresh
      | UnknownObject ↦ good.known
      | ReadBeforeWrite ↦ good.written
      | NoEnd ↦ tt
    ] in
    refuted a text line modest is good.stands good.range why (passes why) bad

-- ---- the first reason

-- what is passed before the first thing that a line lacks
earlier : (a : Above) (c : Line) (why other : Why) → Lacks a c (Some why) → InRange a c → rank other < rank why → Passes a c other
unfolding Passes
earlier a c why Unfinished lacks range low = tt
earlier a c why AfterEnd lacks range low = tt
earlier a c why Form lacks range low = tt
earlier a c why Range lacks range low = range
earlier a c Unfinished TooManyRounds lacks range low = absurd lacks
earlier a c AfterEnd TooManyRounds lacks range low = absurd lacks
earlier a c Form TooManyRounds lacks range low = absurd (let never : ⊥ = omega arith in never)
earlier a c Range TooManyRounds lacks range low = absurd (let never : ⊥ = omega arith in never)
earlier a c TooManyRounds TooManyRounds lacks range low = absurd (let never : ⊥ = omega arith in never)
earlier a c UnknownCache TooManyRounds lacks range low = lacks.2
earlier a c ObjectTwice TooManyRounds lacks range low = lacks.2
earlier a c UnknownObject TooManyRounds lacks range low = lacks.2
earlier a c ReadBeforeWrite TooManyRounds lacks range low = lacks.2
earlier a c NoEnd TooManyRounds lacks range low = absurd lacks
earlier a c Unfinished UnknownCache lacks range low = absurd lacks
earlier a c AfterEnd UnknownCache lacks range low = absurd lacks
earlier a c Form UnknownCache lacks range low = absurd (let never : ⊥ = omega arith in never)
earlier a c Range UnknownCache lacks range low = absurd (let never : ⊥ = omega arith in never)
earlier a c TooManyRounds UnknownCache lacks range low = absurd (let never : ⊥ = omega arith in never)
earlier a c UnknownCache UnknownCache lacks range low = absurd (let never : ⊥ = omega arith in never)
earlier a c ObjectTwice UnknownCache lacks range low = lacks.3
earlier a c UnknownObject UnknownCache lacks range low = lacks.3
earlier a c ReadBeforeWrite UnknownCache lacks range low = lacks.3
earlier a c NoEnd UnknownCache lacks range low = absurd lacks
earlier a c Unfinished ObjectTwice lacks range low = absurd lacks
earlier a c AfterEnd ObjectTwice lacks range low = absurd lacks
earlier a c Form ObjectTwice lacks range low = absurd (let never : ⊥ = omega arith in never)
earlier a c Range ObjectTwice lacks range low = absurd (let never : ⊥ = omega arith in never)
earlier a c TooManyRounds ObjectTwice lacks range low = absurd (let never : ⊥ = omega arith in never)
earlier a c UnknownCache ObjectTwice lacks range low = absurd (let never : ⊥ = omega arith in never)
earlier a c ObjectTwice ObjectTwice lacks range low = absurd (let never : ⊥ = omega arith in never)
earlier a c UnknownObject ObjectTwice lacks range low = lacks.4
earlier a c ReadBeforeWrite ObjectTwice lacks range low = lacks.4
earlier a c NoEnd ObjectTwice lacks range low = absurd lacks
earlier a c Unfinished UnknownObject lacks range low = absurd lacks
earlier a c AfterEnd UnknownObject lacks range low = absurd lacks
earlier a c Form UnknownObject lacks range low = absurd (let never : ⊥ = omega arith in never)
earlier a c Range UnknownObject lacks range low = absurd (let never : ⊥ = omega arith in never)
earlier a c TooManyRounds UnknownObject lacks range low = absurd (let never : ⊥ = omega arith in never)
earlier a c UnknownCache UnknownObject lacks range low = absurd (let never : ⊥ = omega arith in never)
earlier a c ObjectTwice UnknownObject lacks range low = absurd (let never : ⊥ = omega arith in never)
earlier a c UnknownObject UnknownObject lacks range low = absurd (let never : ⊥ = omega arith in never)
earlier a c ReadBeforeWrite UnknownObject lacks range low = lacks.5
earlier a c NoEnd UnknownObject lacks range low = absurd lacks
earlier a c Unfinished ReadBeforeWrite lacks range low = absurd lacks
earlier a c AfterEnd ReadBeforeWrite lacks range low = absurd lacks
earlier a c Form ReadBeforeWrite lacks range low = absurd (let never : ⊥ = omega arith in never)
earlier a c Range ReadBeforeWrite lacks range low = absurd (let never : ⊥ = omega arith in never)
earlier a c TooManyRounds ReadBeforeWrite lacks range low = absurd (let never : ⊥ = omega arith in never)
earlier a c UnknownCache ReadBeforeWrite lacks range low = absurd (let never : ⊥ = omega arith in never)
earlier a c ObjectTwice ReadBeforeWrite lacks range low = absurd (let never : ⊥ = omega arith in never)
earlier a c UnknownObject ReadBeforeWrite lacks range low = absurd (let never : ⊥ = omega arith in never)
earlier a c ReadBeforeWrite ReadBeforeWrite lacks range low = absurd (let never : ⊥ = omega arith in never)
earlier a c NoEnd ReadBeforeWrite lacks range low = absurd lacks
earlier a c why NoEnd lacks range low = tt

-- a text that is read as no line says none
pub none_said : (text : List ℕ) (line : Line) → None ≡ line_of text → Says text line → ⊥
none_said text line is says = (let never : None ≡ Some (cut_line line) = is ∙ line_again text line says in cc)

-- a text that says no line of any form is of a bad form first
pub first_form : (a : Above) (text : List ℕ) → ((a.place ≡ After) × ¬ IsPassed text → ⊥) → ((line : Line) → Says text line → MayStand line a.version a.place → ⊥) → IsFirstReason a (Finished text) Form
first_form a text on none = record {
  holds = none;
  first = λ other. elim other as (λ w. rank w < 2 → IsBad a text w → ⊥) [
    | Unfinished ↦ λ low bad. bad
    | AfterEnd ↦ λ low bad. on bad
    | Form ↦ λ low bad. absurd (let never : ⊥ = omega arith in never)
    | Range ↦ λ low bad. absurd (let never : ⊥ = omega arith in never)
    | TooManyRounds ↦ λ low bad. absurd (let never : ⊥ = omega arith in never)
    | UnknownCache ↦ λ low bad. absurd (let never : ⊥ = omega arith in never)
    | ObjectTwice ↦ λ low bad. absurd (let never : ⊥ = omega arith in never)
    | UnknownObject ↦ λ low bad. absurd (let never : ⊥ = omega arith in never)
    | ReadBeforeWrite ↦ λ low bad. absurd (let never : ⊥ = omega arith in never)
    | NoEnd ↦ λ low bad. absurd (let never : ⊥ = omega arith in never)
  ];
}

-- a line of its place that is out of range is so first
pub first_range : (a : Above) (text : List ℕ) (c : Line) → IsModest a → line_of text ≡ Some c → MayStand c a.version a.place → (InRange a c → ⊥) → IsFirstReason a (Finished text) Range
first_range a text c modest is stands out =
    let said = line_said text c is in
    let may : MayStand said.0 a.version a.place = stands_uncut said.0 a.version a.place (subst (λ (l : Line). MayStand l a.version a.place) said.2 stands) in
    let out_too : InRange a said.0 → ⊥ = λ range. out (subst (λ (l : Line). InRange a l) (sym (said.2 ∙ kept_line a said.0 modest range)) range) in
    record {
      holds = (said.0, said.1, may, out_too);
      first = λ other. elim other as (λ w. rank w < 3 → IsBad a text w → ⊥) [
        | Unfinished ↦ λ low bad. bad
        | AfterEnd ↦ λ low bad. bad.1 (passed_after text said.0 a.version said.1 (subst (λ (p : Place). MayStand said.0 a.version p) bad.0 may))
        | Form ↦ λ low bad. bad said.0 said.1 may
        | Range ↦ λ low bad. absurd (let never : ⊥ = omega arith in never)
        | TooManyRounds ↦ λ low bad. absurd (let never : ⊥ = omega arith in never)
        | UnknownCache ↦ λ low bad. absurd (let never : ⊥ = omega arith in never)
        | ObjectTwice ↦ λ low bad. absurd (let never : ⊥ = omega arith in never)
        | UnknownObject ↦ λ low bad. absurd (let never : ⊥ = omega arith in never)
        | ReadBeforeWrite ↦ λ low bad. absurd (let never : ⊥ = omega arith in never)
        | NoEnd ↦ λ low bad. absurd (let never : ⊥ = omega arith in never)
      ];
    }

-- a line that is in range is bad first for the first thing that it lacks
first_other : (a : Above) (text : List ℕ) (c : Line) (why : Why) → IsModest a → line_of text ≡ Some c → MayStand c a.version a.place → InRange a c → Lacks a c (Some why) → IsBad a text why → IsFirstReason a (Finished text) why
first_other a text c why modest is stands range lacks bad = record {
  holds = bad;
  first = λ other low. refuted a text c modest is stands range other (earlier a c why other lacks range low);
}

-- the first thing that the line of a text lacks is the first reason that the text is bad for
pub first_reason : (a : Above) (text : List ℕ) (c : Line) (why : Why) → IsModest a → ((a.place ≡ After) × ¬ IsPassed text → ⊥) → line_of text ≡ Some c → Lacks a c (Some why) → IsFirstReason a (Finished text) why
first_reason a text c Unfinished modest on is lacks = absurd lacks
first_reason a text c AfterEnd modest on is lacks = absurd lacks
first_reason a text c Form modest on is lacks = first_form a text on (λ line says stands.
    lacks (subst (λ (l : Line). MayStand l a.version a.place) (same_some (cut_line line) c (sym (line_again text line says) ∙ is)) (stands_cut line a.version a.place stands)))
first_reason a text c Range modest on is lacks = first_range a text c modest is lacks.0 lacks.1
first_reason a text c TooManyRounds modest on is lacks = first_other a text c TooManyRounds modest is lacks.0 lacks.1 lacks (c, says_it a text c modest is lacks.1, lacks.0, lacks.2)
first_reason a text c UnknownCache modest on is lacks = first_other a text c UnknownCache modest is lacks.0 lacks.1 lacks (c, says_it a text c modest is lacks.1, lacks.0, lacks.3)
first_reason a text c ObjectTwice modest on is lacks = first_other a text c ObjectTwice modest is lacks.0 lacks.1 lacks (c, says_it a text c modest is lacks.1, lacks.0, lacks.4)
first_reason a text c UnknownObject modest on is lacks = first_other a text c UnknownObject modest is lacks.0 lacks.1 lacks (c, says_it a text c modest is lacks.1, lacks.0, lacks.5)
first_reason a text c ReadBeforeWrite modest on is lacks = first_other a text c ReadBeforeWrite modest is lacks.0 lacks.1 lacks (c, says_it a text c modest is lacks.1, lacks.0, lacks.6)
first_reason a text c NoEnd modest on is lacks = absurd lacks
