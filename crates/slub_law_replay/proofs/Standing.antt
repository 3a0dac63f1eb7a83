-- Where a machine stands before items that may allocate certain numbers, and that each item leads it on.
use Rattle.std.proofs.Common.{◌≡◌, ℕ, zero, suc, eqb, ◌+◌, ◌^◌, ◌<◌, ◌≤◌, Bool, true, false, List, [], ◌∷◌, ◌++◌, append_assoc, length, get_or, flat_map, slice_index, refl, sym, ◌∙◌, ap, subst, arith, All, nat_eq, Option, Some, None, IsSome, IfSome, inl, inr, ◌⊎◌}
use Rattle.std.specs.List.{AllByRecursion, IsDistinct, range_with_len, zip}
use Rattle.std.proofs.lemmas.Bool.Decides.{nat_tests}
use Rattle.std.proofs.lemmas.List.{length-append}
use Rattle.std.proofs.lemmas.Map.Keys.{IsDistinct-cons}
use Rattle.slub_common.specs.Times.{times}
use Rattle.slub_common.proofs.Times.{times-append, times-cons, times-cons_same, times-contained}
use Rattle.slub_trace.specs.declared.event.Round.{Round}
use Rattle.slub_cache_create.specs.Table.{Table}
use Rattle.slub_lists.specs.declared.lists.Held.{Held}
use Rattle.slub_lists.specs.State.{State}
use Rattle.slub_lists.specs.Coherent.{IsCoherent, held_under}
use Rattle.slub_trace.specs.declared.trace.Item.{Item}
use Rattle.slub_trace.specs.declared.trace.Item.TheVariants as item
use Rattle.slub_trace.specs.declared.trace.Trace.{Trace}
use Rattle.slub_trace.specs.declared.trace.Client.{Client as Asked}
use Rattle.slub_trace.specs.Sound.{IsSoundClient, IsSoundItem, IsSoundRound, asked_objects, objects_in, objects_of}
use Rattle.slub_calls.specs.Laws.{MayDo}
use Rattle.slub_slabinfo_text.specs.declared.journal.Done.{Done}
use Rattle.slub_slabinfo_text.specs.declared.journal.Done.TheVariants as done
use Rattle.slub_slabinfo_text.specs.declared.journal.RoundResult.{RoundResult}
use Rattle.slub_slabinfo_text.specs.declared.client.ClientDone.{ClientDone}
use Rattle.slub_slabinfo_text.specs.declared.client.ClientRound.{ClientRound}
use Rattle.slub_slabinfo_text.specs.Lawful.{DoesPlain, IsAtRest}
use Rattle.slub_law_rounds.specs.Answered.{times_given}
use Rattle.slub_law_rounds.specs.Round.{RoundFits, IsRound}
use Rattle.slub_law_rounds.proofs.Times.{events_given}
use Rattle.slub_rounds.specs.Heap.{DoesRoundOf, HeapState}
use Rattle.slub_rounds.proofs.TextLawful.{text-lawful}
use Rattle.slub_rounds.proofs.Allowed.{none-differ}
use Rattle.slub_rounds.specs.Reserves.{AreSoundReserves}
use Rattle.slub_rounds.proofs.Wanted.{round-room}
use Rattle.slub_law_replay.specs.declared.way.Way.{Way}
use Rattle.slub_law_replay.specs.Runs.{Does, MachineState, Serves, heap_of}
use Rattle.slub_law_replay.proofs.Asking.{IsAsked}
use Rattle.slub_law_replay.proofs.Fitting.{lawful-by}
use Rattle.slub_law_replay.proofs.Made.{ClientEffect, IsSoundLine, MakesRounds, client_effect, made_caches, made_rounds, objects_asked}
use Rattle.slub_law_replay.proofs.Numbers.{IsBrief}
use Rattle.slub_law_replay.proofs.Rests.{Rests, classes-rest, creates-rest, destroys-rest, rests-same, shrinks-rest, tunes-rest}

-- ---- different numbers

-- a number that stands once at most is another than those after it
differ-of : (x : ℕ) (ys : List ℕ) → times x ys ≡ 0 → AllByRecursion (λ y. eqb x y ≡ false) ys
differ-of x [] none = tt
differ-of x (y ∷ ys) none =
    let split = times-cons x y ys in
    (grind (arith, nat_tests, split, none), differ-of x ys (omega (arith, split, none)))

pub distinct-of : (xs : List ℕ) → ((x : ℕ) → times x xs ≤ 1) → IsDistinct nat_eq xs
distinct-of [] once = none-differ
distinct-of (x ∷ xs) once =
    IsDistinct-cons nat_eq x xs (differ-of x xs (let none : times x xs ≡ 0 = omega (arith, once x, times-cons_same x x xs refl) in none))
    (distinct-of xs (λ y. omega (arith, once y, times-cons y x xs)))

-- ---- where the machine stands

-- before items that may allocate these numbers: coherent, at rest, with the CPUs, numbers and names of the trace. None of the numbers that are to come has an object, each
-- comes once, and no count of wanted frames comes to its end by them
pub record Stands (s : State) (trace : Trace) (coming : List ℕ) : Type 0 where
  pub coherent : IsCoherent s
  pub rest : IsAtRest s
  pub cpus : s.cpus ≡ trace.cpus
  pub objects : length s.board ≡ trace.objects + 1
  pub names : s.table.kept ≡ trace.names
  pub unheld : (object : ℕ) → 0 < times object coming → held_under s object ≡ None
  pub once : (object : ℕ) → times object coming ≤ 1
  pub within : (object : ℕ) → 0 < times object coming → object < trace.objects + 1
  pub dry : (order : ℕ) → slice_index s.pool.dry order + length coming ≤ 2 ^ 62

-- fewer numbers are to come
pub stands-fewer : (s : State) (trace : Trace) (coming fewer : List ℕ) → ((object : ℕ) → times object fewer ≤ times object coming) → length fewer ≤ length coming → Stands s trace coming → Stands s trace fewer
stands-fewer s trace coming fewer less short stands = record {
  coherent = stands.coherent;
  rest = stands.rest;
  cpus = stands.cpus;
  objects = stands.objects;
  names = stands.names;
  unheld = λ object some. stands.unheld object (omega (arith, some, less object));
  once = λ object. omega (arith, stands.once object, less object);
  within = λ object some. stands.within object (omega (arith, some, less object));
  dry = λ order. omega (arith, stands.dry order, short);
}

-- after an item that is no round
stands-rest : (s : State) (trace : Trace) (numbers coming : List ℕ) (after : State) → Stands s trace (numbers ++ coming) → IsCoherent after → Rests s after → Stands after trace coming
stands-rest s trace numbers coming after stands coherent rests = record {
  coherent = coherent;
  rest = record {
    laid_down = λ object. subst (λ (b : List (Option Held)). IfSome (get_or b object None) (λ held. held.worker ≡ None)) (sym rests.board) (stands.rest.laid_down object);
    forgotten = λ object. subst (λ (b : List (Option Held)). get_or b object None ≡ None) (sym rests.gone) (stands.rest.forgotten object);
  };
  cpus = rests.cpus ∙ stands.cpus;
  objects = ap (λ (b : List (Option Held)). length b) rests.board ∙ stands.objects;
  names = rests.names ∙ stands.names;
  unheld = λ object some. subst (λ (b : List (Option Held)). get_or b object None ≡ None) (sym rests.board) (stands.unheld object (omega (arith, some, times-append object numbers coming)));
  once = λ object. omega (arith, stands.once object, times-append object numbers coming);
  within = λ object some. stands.within object (omega (arith, some, times-append object numbers coming));
  dry = λ order. omega (arith, stands.dry order, ap (λ (d : List ℕ). slice_index d order) rests.dry, length-append numbers coming);
}

-- ---- before a round

pub own-default : (xs : List ℕ) (k d : ℕ) → k < length xs → get_or xs k (get_or xs k d) ≡ get_or xs k d
own-default [] k d within = absurd (omega (arith, within))
own-default (x ∷ xs) zero d within = refl
own-default (x ∷ xs) (suc k) d within = own-default xs k d (omega (arith, within))

module _ (s : State) (trace : Trace) (round : Round) (coming : List ℕ) (stands : Stands s trace (objects_of round.events ++ coming)) where
  split : (object : ℕ) → times object (objects_of round.events ++ coming) ≡ times object (objects_of round.events) + times object coming
  split object = times-append object (objects_of round.events) coming

  own-comes : (k d : ℕ) → k < length (objects_of round.events) → 0 < times (get_or (objects_of round.events) k d) (objects_of round.events ++ coming)
  own-comes k d inside =
      let there : 0 < times (get_or (objects_of round.events) k d) (objects_of round.events) = times-contained (get_or (objects_of round.events) k d) (objects_of round.events) (k, inside, own-default (objects_of round.events) k d inside) in
      omega (arith, there, split (get_or (objects_of round.events) k d))

  own-unheld : All (λ object. held_under s object ≡ None) (objects_of round.events)
  own-unheld = λ k d inside. stands.unheld (get_or (objects_of round.events) k d) (own-comes k d inside)

  own-distinct : IsDistinct nat_eq (objects_of round.events)
  own-distinct = distinct-of (objects_of round.events) (λ x. omega (arith, stands.once x, split x))

  -- the round fits the machine
  pub stands-fit : RoundFits s round
  stands-fit = record {
    within = λ k d inside. omega (arith, stands.within (get_or (objects_of round.events) k d) (own-comes k d inside), stands.objects);
    unheld = own-unheld;
    distinct = own-distinct;
  }

  -- a round of the trace can be done
  pub stands-may : IsSoundRound trace round → length round.events ≤ 2 ^ 24 → MayDo s trace round
  stands-may sound few = record {
    sound = sound;
    cpus = stands.cpus;
    objects = stands.objects;
    names = stands.names;
    unheld = own-unheld;
    distinct = own-distinct;
    few = omega (arith, few);
    dry = λ order. omega (arith, stands.dry order);
  }

-- ---- after a round

module _ (s : State) (trace : Trace) (round : Round) (coming : List ℕ) (result : RoundResult) (after : State) (stands : Stands s trace (objects_of round.events ++ coming)) (is : IsRound s round result after) where
  parts : (object : ℕ) → times object (objects_of round.events ++ coming) ≡ times object (objects_of round.events) + times object coming
  parts object = times-append object (objects_of round.events) coming

  -- a number that is still to come has no object
  still : (object : ℕ) → 0 < times object coming → (x : Option Held) → held_under after object ≡ x → held_under after object ≡ None
  still object some None none = none
  still object some (Some held) there =
      let none : times object (objects_of round.events) ≡ 0 = omega (arith, some, stands.once object, parts object) in
      let bare : held_under s object ≡ None = stands.unheld object (omega (arith, some, parts object)) in
      absurd (by ((is.board.numbers object).0 (ap is-there there)).0 none bare)
    where
      is-there : Option Held → Bool
      is-there None = false
      is-there (Some held) = true

      by : (IsSome (held_under s object) ⊎ (0 < times_given object (zip round.events result.replies))) → times object (objects_of round.events) ≡ 0 → held_under s object ≡ None → ⊥
      by (inl there) none bare = let never : false ≡ true = sym (ap is-there bare) ∙ there in cc
      by (inr given) none bare = omega (arith, given, none, events_given object round.events result.replies)

  pub stands-after : Stands after trace coming
  stands-after = record {
    coherent = is.coherent;
    rest = is.rest;
    cpus = is.cpus ∙ stands.cpus;
    objects = is.objects ∙ stands.objects;
    names = ap (λ (table : Table). table.kept) is.table ∙ stands.names;
    unheld = λ object some. still object some (held_under after object) refl;
    once = λ object. omega (arith, stands.once object, parts object);
    within = λ object some. stands.within object (omega (arith, some, parts object));
    dry = λ order. round-room s round result after (length coming) order is (omega (arith, stands.dry order, length-append (objects_of round.events) coming));
  }

-- ---- a round in the order of the text

module _ (h : HeapState) (trace : Trace) (round : Round) (coming : List ℕ) (result : RoundResult) (after : HeapState) (stands : Stands h.lists trace (objects_of round.events ++ coming)) (asked : IsAsked trace round) (does : DoesRoundOf h round result after) where
  pub is-round : IsRound h.lists round result after.lists
  is-round = text-lawful h.lists h.ids trace round result after.lists after.ids stands.coherent stands.rest (stands-may h.lists trace round coming stands asked.sound asked.few) does

  pub stands-round : Stands after.lists trace coming
  stands-round = stands-after h.lists trace round coming result after.lists stands is-round

-- ---- rounds

-- the numbers of a round, those of more rounds, and those to come
pub next-numbers : (s : State) (trace : Trace) (round : ClientRound) (rounds : List ClientRound) (coming : List ℕ) → Stands s trace (flat_map objects_asked (round ∷ rounds) ++ coming) → Stands s trace (objects_of round.asked.events ++ (flat_map objects_asked rounds ++ coming))
next-numbers s trace round rounds coming stands =
    subst (Stands s trace) (append_assoc (objects_asked round) (flat_map objects_asked rounds) coming) stands

-- rounds of a sound line that are made one after the other
rounds-stand : (sound : Type 0) (h : HeapState) (trace : Trace) (rounds : List ClientRound) (coming : List ℕ) (after : HeapState) → sound → Stands h.lists trace (flat_map objects_asked rounds ++ coming) → MakesRounds trace sound h rounds after → Stands after.lists trace coming
rounds-stand sound h trace [] coming after whole stands same = subst (λ (now : HeapState). Stands now.lists trace coming) (sym same) stands
rounds-stand sound h trace (round ∷ rounds) coming after whole stands makes =
    let now = next-numbers h.lists trace round rounds coming stands in
    rounds-stand sound makes.0 trace rounds coming after whole (stands-round h trace round.asked (flat_map objects_asked rounds ++ coming) round.result makes.0 now (makes.1.asks whole) makes.1.does) makes.2

-- rounds that allocate these numbers or none
pub made-numbers : (s : State) (trace : Trace) (rounds : List ClientRound) (numbers coming : List ℕ) → (flat_map objects_asked rounds ≡ numbers) ⊎ (flat_map objects_asked rounds ≡ []) → Stands s trace (numbers ++ coming) → Stands s trace (flat_map objects_asked rounds ++ coming)
made-numbers s trace rounds numbers coming (inl all) stands = subst (λ (xs : List ℕ). Stands s trace (xs ++ coming)) (sym all) stands
made-numbers s trace rounds numbers coming (inr none) stands =
    subst (λ (xs : List ℕ). Stands s trace (xs ++ coming)) (sym none)
    (stands-fewer s trace (numbers ++ coming) coming (λ object. omega (arith, times-append object numbers coming)) (omega (arith, length-append numbers coming)) stands)

-- ---- the machine, with the reserves of its clients

-- its lists stand so, and its reserves are sound
pub record StandsBefore (m : MachineState) (trace : Trace) (coming : List ℕ) : Type 0 where
  pub lists : Stands m.lists trace coming
  pub reserves : AreSoundReserves trace m.reserves

-- a line of the trace is a sound one then
pub line-sound : (m : MachineState) (trace : Trace) (client : Asked) (coming : List ℕ) → StandsBefore m trace coming → IsSoundClient trace client → IsSoundLine trace m.reserves client
line-sound m trace client coming stands sound = record { line = sound; cpus = omega (arith, stands.lists.coherent.shaped.cpus.0, stands.lists.cpus); reserves = stands.reserves }

-- reserves stay sound
serves-reserves : (m : MachineState) (trace : Trace) (client : Asked) (outcome : ClientDone) (after : MachineState) → AreSoundReserves trace m.reserves → Serves m trace client outcome after → AreSoundReserves trace after.reserves
serves-reserves m trace client outcome after sound (inl serves) = subst (AreSoundReserves trace) (sym serves.1) sound
serves-reserves m trace client outcome after sound (inr (inl serves)) = subst (AreSoundReserves trace) (sym serves.1) sound
serves-reserves m trace client outcome after sound (inr (inr serves)) = serves.1.sound

reserves-next : (way : Way) (m : MachineState) (trace : Trace) (it : Item) (dn : Done) (after : MachineState) → AreSoundReserves trace m.reserves → Does way m trace it dn after → AreSoundReserves trace after.reserves
unfolding Does
reserves-next way m trace (item.Round round) (done.Round result) after sound does = subst (AreSoundReserves trace) (sym does.1) sound
reserves-next way m trace (item.Client client) (done.Client outcome) after sound does = serves-reserves m trace client outcome after sound does.0
reserves-next way m trace it dn after sound does = subst (AreSoundReserves trace) (sym does.2) sound

-- ---- all items

-- one item that is neither a round nor a client's line
plain-stands : (s : State) (trace : Trace) (it : Item) (dn : Done) (coming : List ℕ) (after : State) → Stands s trace (objects_in it ++ coming) → IsCoherent after → DoesPlain s trace it dn after → Stands after trace coming
unfolding DoesPlain
plain-stands s trace (item.Cache place spec) (done.Created answer) coming after stands coherent does = stands-rest s trace [] coming after stands coherent (creates-rest s _ spec answer after does)
plain-stands s trace (item.Shrink place) (done.Shrunk answer) coming after stands coherent does = stands-rest s trace [] coming after stands coherent (shrinks-rest s _ answer after does)
plain-stands s trace (item.Destroy place) (done.Destroyed answer) coming after stands coherent does = stands-rest s trace [] coming after stands coherent (destroys-rest s _ answer after does)
plain-stands s trace item.Slabinfo (done.Slabinfo rows) coming after stands coherent does = stands-rest s trace [] coming after stands coherent (rests-same s after does.1)
plain-stands s trace (item.Tune place setting) (done.Tuned answer) coming after stands coherent does = stands-rest s trace [] coming after stands coherent (tunes-rest s _ setting answer after does)
plain-stands s trace _ _ coming after stands coherent does = absurd does

-- a client's line
client-stands : (sound : Type 0) (h : HeapState) (trace : Trace) (client : Asked) (outcome : ClientDone) (coming : List ℕ) (after : HeapState) → sound → Stands h.lists trace (asked_objects client ++ coming) → IsCoherent after.lists
    → ClientEffect trace sound h client outcome after → Stands after.lists trace coming
client-stands sound h trace client outcome coming after whole stands coherent (made_rounds made) =
    rounds-stand sound h trace outcome.rounds coming after whole (made-numbers h.lists trace outcome.rounds (asked_objects client) coming made.objects stands) made.runs
client-stands sound h trace client outcome coming after whole stands coherent (made_caches answers none creates) =
    stands-rest h.lists trace (asked_objects client) coming after.lists stands coherent (classes-rest h trace (range_with_len 0 13) answers after creates)

lists-next : (way : Way) (m : MachineState) (trace : Trace) (it : Item) (dn : Done) (coming : List ℕ) (after : MachineState) → StandsBefore m trace (objects_in it ++ coming) → IsSoundItem trace it → IsBrief it → IsCoherent after.lists → Does way m trace it dn after
    → Stands after.lists trace coming
unfolding Does
lists-next way m trace (item.Round round) (done.Round result) coming after stands sound brief coherent does =
    stands-after m.lists trace round coming result after.lists stands.lists
    (lawful-by way m.rounds m.lists m.ids trace round result after.lists after.ids stands.lists.coherent stands.lists.rest (stands-may m.lists trace round coming stands.lists sound brief) does.0)
lists-next way m trace (item.Client client) (done.Client outcome) coming after stands sound brief coherent does =
    client-stands (IsSoundLine trace m.reserves client) (heap_of m) trace client outcome coming (heap_of after) (line-sound m trace client (asked_objects client ++ coming) stands sound) stands.lists coherent
    (client_effect m trace client outcome after does.0)
lists-next way m trace it dn coming after stands sound brief coherent does = plain-stands m.lists trace it dn coming after.lists stands.lists coherent does.0

-- any item, by any way
pub stands-next : (way : Way) (m : MachineState) (trace : Trace) (it : Item) (dn : Done) (coming : List ℕ) (after : MachineState) → StandsBefore m trace (objects_in it ++ coming) → IsSoundItem trace it → IsBrief it → IsCoherent after.lists → Does way m trace it dn after
    → StandsBefore after trace coming
stands-next way m trace it dn coming after stands sound brief coherent does = record {
  lists = lists-next way m trace it dn coming after stands sound brief coherent does;
  reserves = reserves-next way m trace it dn after stands.reserves does;
}
