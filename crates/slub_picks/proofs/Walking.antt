-- The way along a part.
use Rattle.std.proofs.Common.{◌≡◌, ◌≢◌, ℕ, ◌+◌, ◌<◌, ◌≤◌, true, false, Option, Some, None, Result, Ok, Err, List, [], ◌∷◌, ◌++◌, length, take, get_or, refl, sym, ap, ◌∙◌, subst, arith, leb, inl, inr, ◌⊎◌, append_assoc, append-nil, length-append}
use Rattle.std.specs.Prelude.{IsErr, IsErrAnd, IsSomeAnd, MatchResult, slice_get}
use Rattle.std.proofs.lemmas.Bool.{true≢false, false≢true, leb-false, leb-true, cases_lt}
use Rattle.std.proofs.lemmas.Grind.{take_at_read}
use Rattle.std.proofs.lemmas.List.{take_all}
use Rattle.std.proofs.lemmas.Option.{get_or_from_slice_get, slice_get-get_or, slice_get_read, slice_get_within}
use Rattle.slub_picks.specs.declared.list.Entry.{Entry}
use Rattle.slub_picks.specs.declared.list.Reach.{Reach}
use Rattle.slub_picks.specs.declared.list.Reach.TheVariants.{Turns, Event, End}
use Rattle.slub_picks.specs.declared.walk.Ended.{Ended}
use Rattle.slub_picks.specs.declared.walk.Misfit.{Misfit}
use Rattle.slub_picks.specs.declared.walk.Misfit.TheVariants.{NoWorker, NoEvent, PicksEnd}
use Rattle.slub_picks.specs.declared.walk.Walk.{Walk}
use Rattle.slub_picks.specs.Misfits.{IsIn, IsMisfit, is_full, needs_more}
use Rattle.slub_picks.specs.Turns.{Go, Reaches, Say, Stop, Turn, goes_on, is_among, unfinished_before}
use Rattle.slub_picks.specs.Walks.{Counts, IsAlong, IsBegun, IsNext, Looks}

-- ---- lists

blank : Entry
blank = record { worker = 0; reach = End }

take_next : (xs : List Entry) (i : ℕ) (x : Entry) → slice_get xs i ≡ Some x → take (i + 1) xs ≡ take i xs ++ x ∷ []
take_next xs i x there =
    (take_at_read xs i x (slice_get_within xs i x there)).1 ∙ ap (λ (y : Entry). take i xs ++ y ∷ []) (get_or_from_slice_get xs i x x there)

take_whole : (xs : List Entry) (i : ℕ) → slice_get xs i ≡ None → take i xs ≡ xs
take_whole xs i none = elim (cases_lt i (length xs)) [
  | inl low ↦ (let some : slice_get xs i ≡ Some (get_or xs i blank) = slice_get-get_or xs i blank low in absurd (let no : ⊥ = cc in no))
  | inr past ↦ take_all i xs past
]

-- ---- turns

go_more : (entry : Entry) (turns : List Turn) (turn : Turn) → Go entry turns → turn.worker ≡ entry.worker → goes_on entry.reach turn.ended ≡ true → Go entry (turns ++ turn ∷ [])
go_more entry [] turn go worker on = (worker, on, tt)
go_more entry (t ∷ turns) turn go worker on = (go.0, go.1, go_more entry turns turn go.2 worker on)

before_joined : (turns more : List Turn) (left : List ℕ) → unfinished_before turns (unfinished_before more left) ≡ unfinished_before (turns ++ more) left
before_joined [] more left = refl
before_joined (t ∷ turns) more left = refl

say_more : (workers : ℕ) (entries : List Entry) (entry : Entry) (turns more : List Turn) (left : List ℕ) → Say workers entries turns (unfinished_before more left) → entry.worker < workers → Reaches entry.reach entry more left
    → Say workers (entries ++ entry ∷ []) (turns ++ more) left
say_more workers [] entry turns more left say within reaches =
    (more, [], ap (λ (ts : List Turn). ts ++ more) say ∙ sym (append-nil more), within, reaches, refl)
say_more workers (first ∷ entries) entry turns more left (front, rest, are, low, one, others) within reaches = (
  front,
  rest ++ more,
  ap (λ (ts : List Turn). ts ++ more) are ∙ append_assoc front rest more,
  low,
  subst (λ (l : List ℕ). Reaches first.reach first front l) (before_joined rest more left) one,
  say_more workers entries entry rest more left others within reaches,
)

-- ---- the begin of an entry

counts_none : (reach : Reach) → Counts reach [] 0
counts_none (Turns n) = (refl, omega arith)
counts_none Event = tt
counts_none End = tt

begun_none : (entry : Option Entry) → IsBegun entry [] 0
begun_none None = refl
begun_none (Some entry) = (tt, counts_none entry.reach)

pub along_open : (walk : Walk) (left : List ℕ) → walk.place ≡ 0 → walk.made ≡ 0 → IsAlong walk [] left
along_open walk left place made = record {
  done = [];
  begun = [];
  turns_are = refl;
  say = subst (λ (p : ℕ). Say walk.workers (take p walk.entries.now) [] left) (sym place) refl;
  is_begun = subst (λ (m : ℕ). IsBegun (slice_get walk.entries.now walk.place) [] m) (sym made) (begun_none (slice_get walk.entries.now walk.place));
}

-- the walk at the next entry
abbrev pub passed : Walk → Walk
passed walk = record walk { place = walk.place + 1; made = 0 }

-- ---- an entry that makes no more turns

begun_at : (walk : Walk) (turns : List Turn) (left : List ℕ) (entry : Entry) (along : IsAlong walk turns left) → slice_get walk.entries.now walk.place ≡ Some entry → Go entry along.begun × Counts entry.reach along.begun walk.made
begun_at walk turns left entry along there = subst (λ (e : Option Entry). IsBegun e along.begun walk.made) there along.is_begun

-- its turns are all made
abbrev pub IsPassed : Reach → ℕ → ℕ → List ℕ → Type 0
IsPassed reach made worker left = (is_full reach made ≡ true) ⊎ ((reach ≡ End) × (is_among worker left ≡ false))

reached : (reach : Reach) (entry : Entry) (begun : List Turn) (made : ℕ) (left : List ℕ) → Go entry begun → Counts reach begun made → IsPassed reach made entry.worker left → Reaches reach entry begun left
reached (Turns n) entry begun made left go counts (inl full) = (go, let low = leb-true n made full in omega (arith, low, counts.0, counts.1))
reached (Turns n) entry begun made left go counts (inr other) = absurd (let no : ⊥ = cc in no)
reached Event entry begun made left go counts (inl full) = absurd (false≢true full)
reached Event entry begun made left go counts (inr other) = absurd (let no : ⊥ = cc in no)
reached End entry begun made left go counts (inl full) = absurd (false≢true full)
reached End entry begun made left go counts (inr other) = inr (go, other.1)

along_next : (walk : Walk) (entry : Entry) (turns more : List Turn) (left before : List ℕ) (along : IsAlong walk turns before) → slice_get walk.entries.now walk.place ≡ Some entry → entry.worker < walk.workers
    → unfinished_before (along.begun ++ more) left ≡ unfinished_before along.begun before → Reaches entry.reach entry (along.begun ++ more) left → IsAlong (passed walk) (turns ++ more) left
along_next walk entry turns more left before along there within same reaches =
    let say = subst (λ (l : List ℕ). Say walk.workers (take walk.place walk.entries.now) along.done l) (sym same) along.say in
    let joined = say_more walk.workers (take walk.place walk.entries.now) entry along.done (along.begun ++ more) left say within reaches in
    let turns_are : along.done ++ (along.begun ++ more) ≡ turns ++ more = sym (append_assoc along.done along.begun more) ∙ ap (λ (ts : List Turn). ts ++ more) (sym along.turns_are) in
    record {
      done = turns ++ more;
      begun = [];
      turns_are = sym (append-nil (turns ++ more));
      say = subst (λ (es : List Entry). Say walk.workers es (turns ++ more) left) (sym (take_next walk.entries.now walk.place entry there))
          (subst (λ (ts : List Turn). Say walk.workers (take walk.place walk.entries.now ++ entry ∷ []) ts left) turns_are joined);
      is_begun = begun_none (slice_get walk.entries.now (walk.place + 1));
    }

pub along_passed : (walk : Walk) (entry : Entry) (turns : List Turn) (left : List ℕ) → slice_get walk.entries.now walk.place ≡ Some entry → entry.worker < walk.workers → IsPassed entry.reach walk.made entry.worker left
    → IsAlong walk turns left → IsAlong (passed walk) turns left
along_passed walk entry turns left there within full along =
    let begun = begun_at walk turns left entry along there in
    let reaches = reached entry.reach entry along.begun walk.made left begun.0 begun.1 full in
    subst (λ (ts : List Turn). IsAlong (passed walk) ts left) (append-nil turns)
    (along_next walk entry turns [] left left along there within (ap (λ (ts : List Turn). unfinished_before ts left) (append-nil along.begun))
    (subst (λ (ts : List Turn). Reaches entry.reach entry ts left) (sym (append-nil along.begun)) reaches))

-- ---- where it doesn't fit

needs_begun : (reach : Reach) (begun : List Turn) (made : ℕ) → Counts reach begun made → needs_more reach made → needs_more reach (length begun)
needs_begun (Turns n) begun made counts needs = omega (arith, counts.0, needs)
needs_begun Event begun made counts needs = tt
needs_begun End begun made counts needs = needs

abbrev is_in : (walk : Walk) (entry : Entry) (turns : List Turn) (left : List ℕ) → slice_get walk.entries.now walk.place ≡ Some entry → IsAlong walk turns left → IsIn walk.workers walk.entries.now walk.place entry turns left
is_in walk entry turns left there along = record {
  there = there;
  done = along.done;
  begun = along.begun;
  turns_are = along.turns_are;
  say = along.say;
  go = (begun_at walk turns left entry along there).0;
}

pub along_misfit : (walk : Walk) (entry : Entry) (turns : List Turn) (left : List ℕ) (misfit : Misfit) → slice_get walk.entries.now walk.place ≡ Some entry → IsAlong walk turns left → Looks walk entry left (Err misfit)
    → IsMisfit walk.workers walk.entries.now turns left misfit
along_misfit walk entry turns left (NoWorker number worker) there along looks = record {
  place = walk.place;
  number_is = looks.0;
  entry = entry;
  is_in = is_in walk entry turns left there along;
  worker_is = looks.1;
  beyond = looks.2;
}
along_misfit walk entry turns left (NoEvent number worker) there along looks = record {
  place = walk.place;
  number_is = looks.0;
  entry = entry;
  is_in = is_in walk entry turns left there along;
  worker_is = looks.1;
  within = looks.2;
  needs = needs_begun entry.reach along.begun walk.made (begun_at walk turns left entry along there).1 looks.3;
  finished = looks.4;
}
along_misfit walk entry turns left PicksEnd there along looks = absurd looks

pub along_end : (walk : Walk) (turns : List Turn) (left : List ℕ) → slice_get walk.entries.now walk.place ≡ None → IsAlong walk turns left → Say walk.workers walk.entries.now turns left
along_end walk turns left none along =
    let begun : along.begun ≡ [] = subst (λ (e : Option Entry). IsBegun e along.begun walk.made) none along.is_begun in
    let turns_are : along.done ≡ turns = sym (append-nil along.done) ∙ (ap (λ (ts : List Turn). along.done ++ ts) (sym begun) ∙ sym along.turns_are) in
    let say = subst (λ (ts : List Turn). Say walk.workers (take walk.place walk.entries.now) along.done (unfinished_before ts left)) begun along.say in
    subst (λ (es : List Entry). Say walk.workers es turns left) (take_whole walk.entries.now walk.place none)
    (subst (λ (ts : List Turn). Say walk.workers (take walk.place walk.entries.now) ts left) turns_are say)

-- ---- a turn

abbrev pub turn_of : ℕ → Ended → List ℕ → Turn
turn_of worker ended unfinished = record { worker = worker; ended = ended; unfinished = unfinished }

before_turn : (begun : List Turn) (turn : Turn) (left : List ℕ) → unfinished_before (begun ++ turn ∷ []) left ≡ unfinished_before begun turn.unfinished
before_turn [] turn left = refl
before_turn (t ∷ begun) turn left = refl

next_at : (walk : Walk) (worker : ℕ) (entry : Entry) → slice_get walk.entries.now walk.place ≡ Some entry → IsNext walk worker → (entry.worker ≡ worker) × (worker < walk.workers) × (is_full entry.reach walk.made ≡ false)
next_at walk worker entry there next = subst (λ (e : Option Entry). IsSomeAnd e (λ entry. (entry.worker ≡ worker) × (worker < walk.workers) × (is_full entry.reach walk.made ≡ false))) there next

stopped : (reach : Reach) (entry : Entry) (turns : List Turn) (ended : Ended) (left : List ℕ) → goes_on reach ended ≡ false → Stop entry turns → Reaches reach entry turns left
stopped (Turns n) entry turns ended left stops stop = absurd (true≢false stops)
stopped Event entry turns ended left stops stop = stop
stopped End entry turns ended left stops stop = inl stop

pub along_stopped : (walk : Walk) (entry : Entry) (ended : Ended) (worker : ℕ) (turns : List Turn) (unfinished left : List ℕ) → slice_get walk.entries.now walk.place ≡ Some entry → goes_on entry.reach ended ≡ false
    → IsNext walk worker → IsAlong walk turns unfinished → IsAlong (passed walk) (turns ++ turn_of worker ended unfinished ∷ []) left
along_stopped walk entry ended worker turns unfinished left there stops next along =
    let at = next_at walk worker entry there next in
    let turn = turn_of worker ended unfinished in
    let stop : Stop entry (along.begun ++ turn ∷ []) = record {
      before = along.begun;
      last = turn;
      turns_are = refl;
      go = (begun_at walk turns unfinished entry along there).0;
      worker = sym at.0;
      stops = stops;
    } in
    along_next walk entry turns (turn ∷ []) left unfinished along there (subst (λ (w : ℕ). w < walk.workers) (sym at.0) at.1) (before_turn along.begun turn left) (stopped entry.reach entry (along.begun ++ turn ∷ []) ended left stops stop)

-- a turn that doesn't end its entry
along_on : (walk : Walk) (made : ℕ) (entry : Entry) (ended : Ended) (worker : ℕ) (turns : List Turn) (unfinished left : List ℕ) → slice_get walk.entries.now walk.place ≡ Some entry → goes_on entry.reach ended ≡ true
    → IsNext walk worker → (along : IsAlong walk turns unfinished) → Counts entry.reach (along.begun ++ turn_of worker ended unfinished ∷ []) made → IsAlong (record walk { made = made }) (turns ++ turn_of worker ended unfinished ∷ []) left
along_on walk made entry ended worker turns unfinished left there on next along counts =
    let at = next_at walk worker entry there next in
    let turn = turn_of worker ended unfinished in
    let go = go_more entry along.begun turn (begun_at walk turns unfinished entry along there).0 (sym at.0) on in
    record {
      done = along.done;
      begun = along.begun ++ turn ∷ [];
      turns_are = ap (λ (ts : List Turn). ts ++ turn ∷ []) along.turns_are ∙ append_assoc along.done along.begun (turn ∷ []);
      say = subst (λ (l : List ℕ). Say walk.workers (take walk.place walk.entries.now) along.done l) (sym (before_turn along.begun turn left)) along.say;
      is_begun = subst (λ (e : Option Entry). IsBegun e (along.begun ++ turn ∷ []) made) (sym there) (go, counts);
    }

pub along_counted : (walk : Walk) (made n : ℕ) (entry : Entry) (ended : Ended) (worker : ℕ) (turns : List Turn) (unfinished left : List ℕ) → slice_get walk.entries.now walk.place ≡ Some entry → goes_on entry.reach ended ≡ true
    → entry.reach ≡ Turns n → (walk.made < n → made ≡ walk.made + 1) → IsNext walk worker → IsAlong walk turns unfinished → IsAlong (record walk { made = made }) (turns ++ turn_of worker ended unfinished ∷ []) left
along_counted walk made n entry ended worker turns unfinished left there on reach made_is next along =
    let at = next_at walk worker entry there next in
    let turn = turn_of worker ended unfinished in
    let full : leb n walk.made ≡ false = subst (λ (r : Reach). is_full r walk.made ≡ false) reach at.2 in
    let low : walk.made < n = leb-false n walk.made full in
    let counts : (walk.made ≡ length along.begun) × (walk.made ≤ n) = subst (λ (r : Reach). Counts r along.begun walk.made) reach (begun_at walk turns unfinished entry along there).1 in
    let longer : length (along.begun ++ turn ∷ []) ≡ length along.begun + 1 = length-append along.begun (turn ∷ []) in
    let is = made_is low in
    along_on walk made entry ended worker turns unfinished left there on next along
    (subst (λ (r : Reach). Counts r (along.begun ++ turn ∷ []) made) (sym reach) (omega (arith, is, longer, counts.0), omega (arith, is, low)))

counts_any : (reach : Reach) (begun : List Turn) (made : ℕ) → ((n : ℕ) → reach ≢ Turns n) → Counts reach begun made
counts_any (Turns n) begun made other = absurd (other n refl)
counts_any Event begun made other = tt
counts_any End begun made other = tt

pub along_going : (walk : Walk) (entry : Entry) (ended : Ended) (worker : ℕ) (turns : List Turn) (unfinished left : List ℕ) → slice_get walk.entries.now walk.place ≡ Some entry → goes_on entry.reach ended ≡ true
    → ((n : ℕ) → entry.reach ≢ Turns n) → IsNext walk worker → IsAlong walk turns unfinished → IsAlong walk (turns ++ turn_of worker ended unfinished ∷ []) left
along_going walk entry ended worker turns unfinished left there on other next along =
    along_on walk walk.made entry ended worker turns unfinished left there on next along (counts_any entry.reach _ walk.made other)

-- ---- what calls say

-- an element that was looked up
pub there_is : (entries : List Entry) (place : ℕ) (entry : Entry) → place < length entries → entry ≡ get_or entries place entry → slice_get entries place ≡ Some entry
there_is entries place entry within is = slice_get_read entries (length entries) place entry refl within is

pub match_misfit : (r : Result ℕ Misfit) (misfit : Misfit) (P : ℕ → Type 0) (Q : Misfit → Type 0) → IsErr r × IsErrAnd r (λ e. e ≡ misfit) → Q misfit → MatchResult r P Q
match_misfit (Ok x) misfit P Q is q = absurd (let no : ⊥ = cc in no)
match_misfit (Err e) misfit P Q is q = subst Q (sym is.1) q

pub same_misfit : (workers other : ℕ) (entries others : List Entry) (turns : List Turn) (left : List ℕ) (misfit : Misfit) → workers ≡ other → entries ≡ others → IsMisfit workers entries turns left misfit → IsMisfit other others turns left misfit
same_misfit workers other entries others turns left misfit w e is = subst (λ (n : ℕ). IsMisfit n others turns left misfit) w (subst (λ (es : List Entry). IsMisfit workers es turns left misfit) e is)

pub same_say : (workers other : ℕ) (entries others : List Entry) (turns : List Turn) (left : List ℕ) → workers ≡ other → entries ≡ others → Say workers entries turns left → Say other others turns left
same_say workers other entries others turns left w e is = subst (λ (n : ℕ). Say n others turns left) w (subst (λ (es : List Entry). Say workers es turns left) e is)
