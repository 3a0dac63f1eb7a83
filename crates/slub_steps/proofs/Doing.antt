-- What is written of the items of a trace, one after the other.
use Rattle.std.proofs.Common.{◌≡◌, ◌≢◌, ◌≤◌, ◌<◌, ◌+◌, ◌-◌, ◌^◌, min, nat_le, ℕ, Bool, true, false, cond, List, [], ◌∷◌, ◌++◌, length, take, get_or, append_assoc, append-nil, length-append, Option, Some, None, IfSome, MatchOption, Result, Ok, Err, OnOk, IfErr, IfOk, refl, ap, sym, subst, ◌∙◌, arith, slice_get, inl, inr}
use Rattle.std.specs.Prelude.{count_by, is_none, IsSomeAnd, ◌⊎◌}
use Rattle.std.specs.Option.{option_map_or}
use Rattle.std.proofs.lemmas.Bool.{false≢true}
use Rattle.std.proofs.lemmas.List.Sums.{sum_by_more}
use Rattle.std.proofs.lemmas.Option.{get_or_from_slice_get, slice_get_within}
use Rattle.slub_trace.specs.declared.event.Round.{Round}
use Rattle.slub_trace.specs.declared.trace.Item.{Item}
use Rattle.slub_trace.specs.declared.trace.Item.TheVariants as item
use Rattle.slub_trace.specs.declared.trace.Trace.{Trace}
use Rattle.slub_slabinfo_text.specs.declared.journal.Done.{Done}
use Rattle.slub_slabinfo_text.specs.Text.{text_at}
use Rattle.slub_law_replay.specs.declared.way.Way.TheVariants.{Schedule}
use Rattle.slub_law_replay.specs.Runs.{Does, ItemSpendsTurns, MachineState, machine_of}
use Rattle.slub_asked.specs.declared.stop.Stop.{Stop}
use Rattle.slub_asked.specs.declared.stop.Stop.TheVariants as stops
use Rattle.slub_round_log.specs.Log.{FailsAt, SinkState, Takes}
use Rattle.slub_steps.specs.declared.choices.RoundCounts.{RoundCounts}
use Rattle.slub_steps.specs.Inner.{AreBefore, HasRun, MovesOn, WritesItem, WritesPlain}
use Rattle.slub_steps.specs.Live.{Named, live_after, live_behind, live_past}
use Rattle.slub_steps.specs.Rounds.{StopsRound, WritesRound, if_shown}
use Rattle.slub_steps.specs.Written.{AreDone, HasDone, IsItemOrNone, IsItemTold, IsToldAt, StopsAt, StopsIn, StopsItem, Wanted, due_at, is_round, is_shared, line_at, lines_before, shows}
use Rattle.slub_steps.proofs.Texts.{takes_both, takes_nothing}

-- ---- which rounds stand before an item

one_more : (p : Item → Bool) (items : List Item) (number : ℕ) (it : Item) → slice_get items number ≡ Some it
    → count_by p (take (number + 1) items) ≡ count_by p (take number items) + count_by p (it ∷ [])
one_more p items number it here =
    let inside : number < length items = slice_get_within items number it here in
    let at : get_or items number it ≡ it = get_or_from_slice_get items number it it here in
    sum_by_more (λ (x : Item). cond (p x) 1 0) items number it inside
    ∙ ap (λ (x : Item). count_by p (take number items) + cond (p x) 1 0) at
    ∙ none_more (count_by p (take number items)) (cond (p it) 1 0)
  where
    none_more : (n m : ℕ) → n + m ≡ n + (0 + m)
    none_more n m = omega arith

pub before_more : (trace : Trace) (number : ℕ) (it : Item) (before after : RoundCounts) → slice_get trace.items number ≡ Some it → AreBefore before trace number
    → after.lines ≡ min (before.lines + count_by is_round (it ∷ [])) (2 ^ 32 - 1) → after.several ≡ min (before.several + count_by is_shared (it ∷ [])) (2 ^ 64 - 1)
    → AreBefore after trace (number + 1)
before_more trace number it before after here so_far lines several =
    let l = one_more is_round trace.items number it here in
    let s = one_more is_shared trace.items number it here in
    record {
      lines = omega (arith, lines, so_far.lines, l);
      several = omega (arith, several, so_far.several, s);
    }

pub before_none : (trace : Trace) (counts : RoundCounts) → counts ≡ record { lines = 0; several = 0 } → AreBefore counts trace 0
before_none trace counts is =
    let zero : RoundCounts = record { lines = 0; several = 0 } in
    let first : AreBefore zero trace 0 = record { lines = omega arith; several = omega arith } in
    subst (λ (c : RoundCounts). AreBefore c trace 0) (sym is) first

-- ---- an item

here_and : {A : Type 0} (P : A → Type 0) (o : Option A) (x : A) → o ≡ Some x → P x → IsSomeAnd o P
here_and P o x is holds = subst (λ (o : Option _). IsSomeAnd o P) (sym is) holds

stop_round : (wanted : Wanted) (trace : Trace) (number : ℕ) (round : Round) (live : List Named) (m : MachineState) (old new : SinkState) (stop : Stop) → slice_get trace.items number ≡ Some (item.Round round)
    → StopsRound (due_at wanted trace number round live) (shows wanted (line_at trace number)) m old new stop → StopsAt wanted trace number m live old new stop
stop_round wanted trace number round live m old new stop here stopped =
    here_and (StopsItem wanted trace number m live old new stop) (slice_get trace.items number) (item.Round round) here stopped

pub round_item : (wanted : Wanted) (trace : Trace) (number line : ℕ) (is_shown : Bool) (round : Round) (live : List Named) (m : MachineState) (old new : SinkState) (r : Result (MachineState × Done) Stop)
    → slice_get trace.items number ≡ Some (item.Round round) → line ≡ line_at trace number → is_shown ≡ shows wanted line
    → WritesRound (record (due_at wanted trace number round live) { line = line }) is_shown m old new r
    → WritesItem wanted trace number m live old new r
round_item wanted trace number line is_shown round live m old new r here at shown writes =
    let W : ℕ → Bool → Type 0 = λ n b. WritesRound (record (due_at wanted trace number round live) { line = n }) b m old new r in
    let one : W line (shows wanted line) = subst (λ (b : Bool). W line b) shown writes in
    by r (subst (λ (n : ℕ). W n (shows wanted n)) at one)
  where
    by : (r : Result (MachineState × Done) Stop) → WritesRound (due_at wanted trace number round live) (shows wanted (line_at trace number)) m old new r → WritesItem wanted trace number m live old new r
    by (Ok done) wrote = (
      if_shown (shows wanted (line_at trace number)) wrote.0,
      here_and (IsItemTold wanted trace number m live (if_shown (shows wanted (line_at trace number)) wrote.0) done.1 done.0) (slice_get trace.items number) (item.Round round) here (wrote.0, wrote.1, refl),
      wrote.2,
    )
    by (Err stop) wrote = stop_round wanted trace number round live m old new stop here wrote

-- the item is no round
abbrev pub IsPlain : Item → Type 0
IsPlain it = (round : Round) → it ≢ item.Round round

plain_told : (wanted : Wanted) (trace : Trace) (number : ℕ) (live : List Named) (m : MachineState) (text : List ℕ) (answer : Done) (after : MachineState) (it : Item) → IsPlain it
    → Does (Schedule 0) m trace it answer after → text ≡ if_shown (is_none wanted.only) (text_at true trace number answer) → IsItemTold wanted trace number m live text answer after it
plain_told wanted trace number live m text answer after (item.Cache name spec) plain does is = (does, is)
plain_told wanted trace number live m text answer after (item.Round round) plain does is = absurd (plain round refl)
plain_told wanted trace number live m text answer after (item.Shrink name) plain does is = (does, is)
plain_told wanted trace number live m text answer after (item.Destroy name) plain does is = (does, is)
plain_told wanted trace number live m text answer after item.Slabinfo plain does is = (does, is)
plain_told wanted trace number live m text answer after (item.Tune name setting) plain does is = (does, is)
plain_told wanted trace number live m text answer after (item.Client client) plain does is = (does, is)

-- why an item that is no round isn't done
abbrev PlainStop : Wanted → Trace → ℕ → List Named → MachineState → SinkState → SinkState → Stop → Item → Type 0
PlainStop wanted trace number live m old new stops.NoMemory it = (text : List ℕ) × IsItemOrNone wanted trace number m live text it × Takes old new text
PlainStop wanted trace number live m old new stops.WriteFault it = (text : List ℕ) × IsItemOrNone wanted trace number m live text it × FailsAt old new text
PlainStop wanted trace number live m old new stops.TurnsSpent it = ItemSpendsTurns (Schedule 0) m trace it × Takes old new []
PlainStop wanted trace number live m old new _ it = ⊥

plain_stopped : (wanted : Wanted) (trace : Trace) (number : ℕ) (live : List Named) (m : MachineState) (old new : SinkState) (stop : Stop) (it : Item) → IsPlain it → PlainStop wanted trace number live m old new stop it → StopsItem wanted trace number m live old new stop it
plain_stopped wanted trace number live m old new stop (item.Round round) plain stopped = absurd (plain round refl)
plain_stopped wanted trace number live m old new stops.NoMemory (item.Cache name spec) plain stopped = stopped
plain_stopped wanted trace number live m old new stops.NoMemory (item.Shrink name) plain stopped = stopped
plain_stopped wanted trace number live m old new stops.NoMemory (item.Destroy name) plain stopped = stopped
plain_stopped wanted trace number live m old new stops.NoMemory item.Slabinfo plain stopped = stopped
plain_stopped wanted trace number live m old new stops.NoMemory (item.Tune name setting) plain stopped = stopped
plain_stopped wanted trace number live m old new stops.NoMemory (item.Client client) plain stopped = stopped
plain_stopped wanted trace number live m old new stops.WriteFault (item.Cache name spec) plain stopped = stopped
plain_stopped wanted trace number live m old new stops.WriteFault (item.Shrink name) plain stopped = stopped
plain_stopped wanted trace number live m old new stops.WriteFault (item.Destroy name) plain stopped = stopped
plain_stopped wanted trace number live m old new stops.WriteFault item.Slabinfo plain stopped = stopped
plain_stopped wanted trace number live m old new stops.WriteFault (item.Tune name setting) plain stopped = stopped
plain_stopped wanted trace number live m old new stops.WriteFault (item.Client client) plain stopped = stopped
plain_stopped wanted trace number live m old new stops.TurnsSpent (item.Cache name spec) plain stopped = stopped
plain_stopped wanted trace number live m old new stops.TurnsSpent (item.Shrink name) plain stopped = stopped
plain_stopped wanted trace number live m old new stops.TurnsSpent (item.Destroy name) plain stopped = stopped
plain_stopped wanted trace number live m old new stops.TurnsSpent item.Slabinfo plain stopped = stopped
plain_stopped wanted trace number live m old new stops.TurnsSpent (item.Tune name setting) plain stopped = stopped
plain_stopped wanted trace number live m old new stops.TurnsSpent (item.Client client) plain stopped = stopped
plain_stopped wanted trace number live m old new (stops.BadPicks line) it plain stopped = absurd stopped
plain_stopped wanted trace number live m old new stops.BadWords it plain stopped = absurd stopped
plain_stopped wanted trace number live m old new (stops.BadLine line) it plain stopped = absurd stopped
plain_stopped wanted trace number live m old new stops.TooLong it plain stopped = absurd stopped
plain_stopped wanted trace number live m old new stops.ReadFault it plain stopped = absurd stopped

-- what stands at a place is this
at_place : {A : Type 0} (P : A → Type 0) (o : Option A) (x : A) → o ≡ Some x → MatchOption o ⊥ P → P x
at_place P o x is holds = subst (λ (o : Option _). MatchOption o ⊥ P) is holds

pub plain_item : (wanted : Wanted) (trace : Trace) (number : ℕ) (it : Item) (live : List Named) (m : MachineState) (old new : SinkState) (r : Result (MachineState × Done) Stop)
    → slice_get trace.items number ≡ Some it → IsPlain it → WritesPlain trace number m (is_none wanted.only) old new r → WritesItem wanted trace number m live old new r
plain_item wanted trace number it live m old new (Ok done) here plain wrote =
    let text : List ℕ = if_shown (is_none wanted.only) (text_at true trace number done.1) in
    let does : Does (Schedule 0) m trace it done.1 done.0 = at_place (λ it. Does (Schedule 0) m trace it done.1 done.0) (slice_get trace.items number) it here wrote.0 in (
      text,
      here_and (IsItemTold wanted trace number m live text done.1 done.0) (slice_get trace.items number) it here (plain_told wanted trace number live m text done.1 done.0 it plain does refl),
      wrote.1,
    )
plain_item wanted trace number it live m old new (Err stop) here plain wrote =
    here_and (StopsItem wanted trace number m live old new stop) (slice_get trace.items number) it here (plain_stopped wanted trace number live m old new stop it plain (by stop wrote))
  where
    by : (stop : Stop) → WritesPlain trace number m (is_none wanted.only) old new (Err stop) → PlainStop wanted trace number live m old new stop it
    by stops.NoMemory wrote = ([], inl refl, wrote)
    by stops.WriteFault wrote =
        let text : List ℕ = if_shown (is_none wanted.only) (text_at true trace number wrote.0) in
        let does : Does (Schedule 0) m trace it wrote.0 wrote.1 = at_place (λ it. Does (Schedule 0) m trace it wrote.0 wrote.1) (slice_get trace.items number) it here wrote.2 in
        (text, inr (wrote.0, wrote.1, plain_told wanted trace number live m text wrote.0 wrote.1 it plain does refl), wrote.3)
    by stops.TurnsSpent wrote = (at_place (λ it. ItemSpendsTurns (Schedule 0) m trace it) (slice_get trace.items number) it here wrote.0, wrote.1)
    by (stops.BadPicks line) wrote = absurd wrote
    by stops.BadWords wrote = absurd wrote
    by (stops.BadLine line) wrote = absurd wrote
    by stops.TooLong wrote = absurd wrote
    by stops.ReadFault wrote = absurd wrote

-- want of memory behind an item
memory_stops : (wanted : Wanted) (trace : Trace) (number : ℕ) (live : List Named) (m : MachineState) (old new : SinkState) (text : List ℕ) (answer : Done) (after : MachineState) (it : Item) → IsItemTold wanted trace number m live text answer after it → Takes old new text
    → StopsItem wanted trace number m live old new stops.NoMemory it
memory_stops wanted trace number live m old new text answer after (item.Round round) told took = (told.0, inr (inr (answer, after, told.1)), subst (λ (t : List ℕ). Takes old new t) told.2 took)
memory_stops wanted trace number live m old new text answer after (item.Cache name spec) told took = (text, inr (answer, after, told), took)
memory_stops wanted trace number live m old new text answer after (item.Shrink name) told took = (text, inr (answer, after, told), took)
memory_stops wanted trace number live m old new text answer after (item.Destroy name) told took = (text, inr (answer, after, told), took)
memory_stops wanted trace number live m old new text answer after item.Slabinfo told took = (text, inr (answer, after, told), took)
memory_stops wanted trace number live m old new text answer after (item.Tune name setting) told took = (text, inr (answer, after, told), took)
memory_stops wanted trace number live m old new text answer after (item.Client client) told took = (text, inr (answer, after, told), took)

-- what holds of the item at a place holds of this
some_at : {A : Type 0} (P : A → Type 0) (o : Option A) (x : A) → o ≡ Some x → IsSomeAnd o P → P x
some_at P o x is holds = subst (λ (o : Option _). IsSomeAnd o P) is holds

-- an item that was done is kept, or memory is lacking for that
pub moved : (wanted : Wanted) (trace : Trace) (number : ℕ) (it : Item) (m after : MachineState) (done : Done) (answers answers_after : List Done) (live live_new : List Named) (old new : SinkState) (r : Result MachineState Stop)
    → slice_get trace.items number ≡ Some it → WritesItem wanted trace number m live old new (Ok (after, done))
    → IfOk r (λ x. x ≡ after) → OnOk r (answers_after ≡ answers ++ done ∷ []) → OnOk r (live_new ≡ live_after trace live it done) → IfErr r (λ stop. stop ≡ stops.NoMemory)
    → MovesOn wanted trace number m answers live old answers_after live_new new r
moved wanted trace number it m after done answers answers_after live live_new old new (Ok x) here wrote same put names lacking = (
  done,
  wrote.0,
  subst (λ (m' : MachineState). IsToldAt wanted trace number m live wrote.0 done m') (sym same) wrote.1,
  wrote.2,
  put,
  names ∙ ap (λ (o : Option Item). live_past trace live o done) (sym here),
)
moved wanted trace number it m after done answers answers_after live live_new old new (Err stop) here wrote same put names lacking =
    subst (λ (s : Stop). StopsAt wanted trace number m live old new s) (sym lacking)
    (here_and (StopsItem wanted trace number m live old new stops.NoMemory) (slice_get trace.items number) it here
    (memory_stops wanted trace number live m old new wrote.0 done after it (some_at (IsItemTold wanted trace number m live wrote.0 done after) (slice_get trace.items number) it here wrote.1) wrote.2))

-- ---- several items

done_more : (wanted : Wanted) (trace : Trace) (number n : ℕ) (m : MachineState) (live : List Named) (answers : List Done) (mid : MachineState) (text one : List ℕ) (answer : Done) (after : MachineState)
    → n ≡ number + length answers → AreDone wanted trace number m live answers mid text → IsToldAt wanted trace n mid (live_behind trace number live answers) one answer after
    → AreDone wanted trace number m live (answers ++ answer ∷ []) after (text ++ one)
done_more wanted trace number n m live [] mid text one answer after at done told =
    let same : n ≡ number = omega (arith, at) in
    let A : ℕ → Type 0 = λ n. IsToldAt wanted trace n mid live one answer after in
    let B : MachineState → Type 0 = λ m. IsToldAt wanted trace number m live one answer after in
    (after, one, [], subst B done.0 (subst A same told), (refl, refl), ap (λ (t : List ℕ). t ++ one) done.1 ∙ sym (append-nil one))
done_more wanted trace number n m live (first ∷ answers) mid text one answer after at done told =
    let next : AreDone wanted trace (number + 1) done.0 (live_past trace live (slice_get trace.items number) first) (answers ++ answer ∷ []) after (done.2 ++ one) =
    done_more wanted trace (number + 1) n done.0 (live_past trace live (slice_get trace.items number) first) answers mid done.2 one answer after (omega (arith, at)) done.4 told in
    (done.0, done.1, done.2 ++ one, done.3, next, ap (λ (t : List ℕ). t ++ one) done.5 ∙ append_assoc done.1 done.2 one)

live_more : (trace : Trace) (number n : ℕ) (live : List Named) (answers : List Done) (answer : Done) → n ≡ number + length answers
    → live_behind trace number live (answers ++ answer ∷ []) ≡ live_past trace (live_behind trace number live answers) (slice_get trace.items n) answer
live_more trace number n live [] answer at =
    let same : number ≡ n = omega (arith, at) in
    ap (λ (n : ℕ). live_past trace live (slice_get trace.items n) answer) same
live_more trace number n live (first ∷ answers) answer at =
    live_more trace (number + 1) n (live_past trace live (slice_get trace.items number) first) answers answer (omega (arith, at))

-- ---- a run through the items

-- what is so before the item of a number
pub record HasCome (wanted : Wanted) (trace : Trace) (number : ℕ) (m : MachineState) (answers : List Done) (live : List Named) (counts : RoundCounts) (base now : SinkState) : Type 0 where
  pub count : length answers ≡ number
  pub text : List ℕ
  pub done : HasDone wanted trace answers m text
  pub live_is : live ≡ live_behind trace 0 [] answers
  pub before : AreBefore counts trace number
  pub taken : Takes base now text

pub come_first : (wanted : Wanted) (trace : Trace) (m : MachineState) (answers : List Done) (live : List Named) (counts : RoundCounts) (base : SinkState) → m ≡ machine_of trace → answers ≡ [] → live ≡ [] → counts ≡ record { lines = 0; several = 0 }
    → HasCome wanted trace 0 m answers live counts base base
come_first wanted trace m answers live counts base opened none no_name no_round =
    let none_asked : (o : Option ℕ) → IfSome o (λ only. (less : ℕ) → less < length (let dones : List Done = [] in dones) → lines_before trace less < only) = λ o. nothing o in
    let at : HasCome wanted trace 0 (machine_of trace) [] [] counts base base = record {
      count = refl;
      text = [];
      done = record { done = (refl, refl); asked = none_asked wanted.only };
      live_is = refl;
      before = before_none trace counts no_round;
      taken = takes_nothing base;
    } in
    let A : MachineState → Type 0 = λ m. HasCome wanted trace 0 m [] [] counts base base in
    let B : List Done → Type 0 = λ dones. HasCome wanted trace 0 m dones [] counts base base in
    let C : List Named → Type 0 = λ names. HasCome wanted trace 0 m answers names counts base base in
    subst C (sym no_name) (subst B (sym none) (subst A (sym opened) at))
  where
    nothing : (o : Option ℕ) → IfSome o (λ only. (less : ℕ) → less < length (let dones : List Done = [] in dones) → lines_before trace less < only)
    nothing None = tt
    nothing (Some only) = λ less below. absurd (let never : ⊥ = omega (arith, below) in never)

below : (n k : ℕ) → nat_le n k ≡ false → k < n
below n k is = grind (arith, is)

-- an item more that is asked for
pub come_more : (wanted : Wanted) (trace : Trace) (number : ℕ) (m after : MachineState) (answers answers_after : List Done) (live live_after : List Named) (counts counts_after : RoundCounts) (base now next : SinkState)
    → HasCome wanted trace number m answers live counts base now
    → option_map_or (λ only. nat_le only counts.lines) wanted.only false ≡ false
    → AreBefore counts_after trace (number + 1)
    → MovesOn wanted trace number m answers live now answers_after live_after next (Ok after)
    → HasCome wanted trace (number + 1) after answers_after live_after counts_after base next
come_more wanted trace number m after answers answers_after live live_after counts counts_after base now next come asked before moves =
    let answer : Done = moves.0 in
    let one : List ℕ = moves.1 in
    let told : IsToldAt wanted trace number m (live_behind trace 0 [] answers) one answer after =
    subst (λ (names : List Named). IsToldAt wanted trace number m names one answer after) come.live_is moves.2 in
    let at : number ≡ 0 + length answers = omega (arith, come.count) in
    let done : AreDone wanted trace 0 (machine_of trace) [] (answers ++ answer ∷ []) after (come.text ++ one) =
    done_more wanted trace 0 number (machine_of trace) [] answers m come.text one answer after at come.done.done told in
    let live_is : live_after ≡ live_behind trace 0 [] (answers ++ answer ∷ []) =
    moves.5 ∙ ap (λ (names : List Named). live_past trace names (slice_get trace.items number) answer) come.live_is ∙ sym (live_more trace 0 number [] answers answer at) in
    let result : HasCome wanted trace (number + 1) after (answers ++ answer ∷ []) live_after counts_after base next = record {
      count = omega (arith, length-append answers (answer ∷ []), come.count);
      text = come.text ++ one;
      done = record { done = done; asked = more_asked wanted.only asked come.done.asked };
      live_is = live_is;
      before = before;
      taken = takes_both base now next come.text one come.taken moves.3;
    } in
    subst (λ (dones : List Done). HasCome wanted trace (number + 1) after dones live_after counts_after base next) (sym moves.4) result
  where
    more_asked : (o : Option ℕ) → option_map_or (λ only. nat_le only counts.lines) o false ≡ false
        → IfSome o (λ only. (less : ℕ) → less < length answers → lines_before trace less < only)
        → IfSome o (λ only. (less : ℕ) → less < length (answers ++ moves.0 ∷ []) → lines_before trace less < only)
    more_asked None not_yet so_far = tt
    more_asked (Some only) not_yet so_far = λ less inside.
        let here : counts.lines < only = below only counts.lines not_yet in
        let long : length (answers ++ moves.0 ∷ []) ≡ length answers + 1 = omega (arith, length-append answers (moves.0 ∷ [])) in
        split less only here so_far (omega (arith, inside, long, come.count))
      where
        split : (less only : ℕ) → counts.lines < only → ((less : ℕ) → less < length answers → lines_before trace less < only) → less ≤ number → lines_before trace less < only
        split less only here so_far most = elim (compare less number most) [
          | inl same ↦ subst (λ (n : ℕ). lines_before trace n < only) (sym same) (omega (arith, here, come.before.lines))
          | inr fewer ↦ so_far less (omega (arith, fewer, come.count))
        ]
          where
            compare : (a b : ℕ) → a ≤ b → (a ≡ b) ⊎ (a < b)
            compare a b most = grind (arith, most)

-- an item that stops the run
pub come_stopped : (wanted : Wanted) (trace : Trace) (number : ℕ) (m : MachineState) (answers : List Done) (live : List Named) (counts : RoundCounts) (base now new : SinkState) (stop : Stop)
    → HasCome wanted trace number m answers live counts base now → option_map_or (λ only. nat_le only counts.lines) wanted.only false ≡ false → StopsAt wanted trace number m live now new stop → StopsIn wanted trace [] base new stop
come_stopped wanted trace number m answers live counts base now new stop come not_yet stopped =
    let A : ℕ → Type 0 = λ n. StopsAt wanted trace n m live now new stop in
    let B : List Named → Type 0 = λ names. StopsAt wanted trace (length answers) m names now new stop in
    record {
      answers = answers;
      machine = m;
      items = come.text;
      done = come.done;
      asked = by wanted.only not_yet;
      mid = now;
      taken = come.taken;
      stops = subst B come.live_is (subst A (sym come.count) stopped);
    }
  where
    by : (o : Option ℕ) → option_map_or (λ only. nat_le only counts.lines) o false ≡ false → IfSome o (λ only. lines_before trace (length answers) < only)
    by None not_yet = tt
    by (Some only) not_yet =
        let here : counts.lines < only = below only counts.lines not_yet in
        let same : lines_before trace number ≡ lines_before trace (length answers) = ap (λ (n : ℕ). lines_before trace n) (sym come.count) in
        omega (arith, here, come.before.lines, same)

-- all that are asked for are done
pub come_to_end : (wanted : Wanted) (trace : Trace) (number : ℕ) (m : MachineState) (answers : List Done) (live : List Named) (counts : RoundCounts) (base now : SinkState)
    → HasCome wanted trace number m answers live counts base now → (number ≡ length trace.items) ⊎ (option_map_or (λ only. nat_le only counts.lines) wanted.only false ≡ true) → HasRun wanted trace answers m counts base now
come_to_end wanted trace number m answers live counts base now come end = record {
  text = come.text;
  done = come.done;
  due = elim end [
    | inl all ↦ inl (come.count ∙ all)
    | inr enough ↦ inr (by wanted.only enough)
  ];
  counts_are = subst (λ (n : ℕ). AreBefore counts trace n) (sym come.count) come.before;
  taken = come.taken;
}
  where
    most : (n k : ℕ) → nat_le n k ≡ true → n ≤ k
    most n k is = grind (arith, is)

    by : (o : Option ℕ) → option_map_or (λ only. nat_le only counts.lines) o false ≡ true → MatchOption o ⊥ (λ only. only ≤ lines_before trace (length answers))
    by None never = absurd (false≢true never)
    by (Some only) enough =
        let low : only ≤ counts.lines = most only counts.lines enough in
        let same : lines_before trace number ≡ lines_before trace (length answers) = ap (λ (n : ℕ). lines_before trace n) (sym come.count) in
        omega (arith, low, come.before.lines, same)
