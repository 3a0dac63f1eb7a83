-- What the lines of steps leave: rounds in which each free is of an object that is there.
use Rattle.std.proofs.Common.{◌≡◌, ℕ, ◌+◌, Bool, true, false, cond, ◌||◌, ◌⊎◌, inl, inr, List, [], ◌∷◌, ◌++◌, append_assoc, refl, sym, ap, subst, ◌∙◌, Option, None, Some, nat_eq}
use Rattle.std.specs.Prelude.{All, filter_map, flat_map}
use Rattle.std.specs.Map.{lookup}
use Rattle.std.proofs.lemmas.Bool.{eqb-true}
use Rattle.std.proofs.lemmas.List.{append-nil}
use Rattle.std.proofs.lemmas.List.Concat.{flat_map-append}
use Rattle.std.proofs.lemmas.List.Elements.{All-nil, All-push, filter_map-append}
use Rattle.indexmap.specs.IndexMap.{insert_entry}
use Rattle.slub_recorded.specs.declared.rounds.Step.{Step}
use Rattle.slub_recorded.specs.declared.rounds.Step.TheVariants.{Does, Cut}
use Rattle.slub_recorded.specs.declared.text.Row.{Row}
use Rattle.slub_recorded.specs.declared.turns.Turn.{Turn}
use Rattle.slub_recorded.specs.declared.turns.Turn.TheVariants as turn
use Rattle.slub_recorded.specs.Lines.{step_lines}
use Rattle.slub_recorded.specs.Text.{name_at}
use Rattle.slub_recorded.specs.Rounds.{AreHeld, Holders, IsFreeOf, held_behind, turns_in}
use Rattle.slub_recorded.specs.Turns.{AreNext, lives_after}
use Rattle.slub_trace.specs.declared.event.Act.TheVariants as act
use Rattle.slub_trace.specs.declared.event.Event.{Event}
use Rattle.slub_trace.specs.declared.event.Round.{Round as Events}
use Rattle.slub_trace.specs.declared.trace.Item.{Item}
use Rattle.slub_trace.specs.declared.trace.Item.TheVariants as item
use Rattle.slub_trace.specs.Sound.{allocated, events_in, objects_of}
use Rattle.slub_trace_reader.specs.declared.line.Line.TheVariants.{Slabinfo, Round, Alloc, Free, Done, End}
use Rattle.slub_trace_reader.specs.Above.{Above, after, after_all, workers_in}
use Rattle.slub_law_recorded.specs.Paired.{IsPairingAct, IsPairingItem, IsThere, freed, freed_of}
use Rattle.slub_law_recorded.specs.Recorded.{alloc_in, allocs, free_in, frees}
use Rattle.slub_law_recorded.proofs.RecordedFrees.{either, still}
use Rattle.slub_law_recorded.proofs.RecordedHolders.{IsAt, at_ended, at_further, at_last, at_more, found}
use Rattle.slub_law_recorded.proofs.RecordedThere.{AreFreesThere, AreThere, frees_push, there_push}

-- ---- what stands above

-- items, and the events of a round that isn't ended, do these turns: they allocate and free what those do, each free is of an object that is there, and of what lives it is known where it was allocated
pub record Do (items : List Item) (events : List Event) (lives : ℕ → Bool) (holders : Holders) (turns : List Turn) : Type 0 where
  pub pairing : All IsPairingItem items
  pub acts : All (λ (event : Event). IsPairingAct event.act) events
  pub before : AreThere [] items
  pub now : AreFreesThere items [] events
  pub known : (object : ℕ) → lives object ≡ true → IsAt items events object (lookup (nat_eq object) holders)
  pub allocs_are : objects_of (flat_map events_in items ++ events) ≡ allocs turns
  pub frees_are : freed_of (flat_map events_in items ++ events) ≡ frees turns

-- ---- one event more

-- one event and one turn of the same object
more_by : {X : Type 0} (f : Event → Option ℕ) (g : X → Option ℕ) (old events : List Event) (event : Event) (turns : List X) (one : X) → filter_map f (old ++ events) ≡ filter_map g turns → f event ≡ g one
    → filter_map f (old ++ (events ++ event ∷ [])) ≡ filter_map g (turns ++ one ∷ [])
more_by f g old events event turns one are is =
    ap (filter_map f) (sym (append_assoc old events (event ∷ [])))
    ∙ filter_map-append f (old ++ events) (event ∷ [])
    ∙ ap (λ l. l ++ filter_map f (event ∷ [])) are
    ∙ ap (λ o. filter_map g turns ++ filter_map (λ (u : Unit {0}). o) (tt ∷ [])) is
    ∙ sym (filter_map-append g turns (one ∷ []))

alloc_known : (items : List Item) (events : List Event) (lives : ℕ → Bool) (holders : Holders) (event : Event) (object : ℕ) → allocated event.act ≡ Some object
    → ((n : ℕ) → lives n ≡ true → IsAt items events n (lookup (nat_eq n) holders))
    → (n : ℕ) → (nat_eq n object || lives n) ≡ true → IsAt items (events ++ event ∷ []) n (lookup (nat_eq n) (insert_entry nat_eq holders object event.worker))
alloc_known items events lives holders event object is known n live =
    let P : Option ℕ → Type 0 = λ o. IsAt items (events ++ event ∷ []) n o in
    elim (either (nat_eq n object) (lives n) live) [
      | inl same ↦
          let here : lookup (nat_eq n) (insert_entry nat_eq holders object event.worker) ≡ Some event.worker =
          found holders object n event.worker ∙ ap (λ b. cond b (Some event.worker) (lookup (nat_eq n) holders)) same in
          let one : n ≡ object = eqb-true n object same in
          let Q : ℕ → Type 0 = λ m. IsAt items (events ++ event ∷ []) m (Some event.worker) in
          subst P (sym here) (subst Q (sym one) (at_last items events event object is))
      | inr old ↦
          let here : lookup (nat_eq n) (insert_entry nat_eq holders object event.worker) ≡ lookup (nat_eq n) holders =
          found holders object n event.worker ∙ ap (λ b. cond b (Some event.worker) (lookup (nat_eq n) holders)) old.0 in
          subst P (sym here) (at_more items events (event ∷ []) n (lookup (nat_eq n) holders) (known n old.1))
    ]

pub alloc_does : (items : List Item) (events : List Event) (lives : ℕ → Bool) (holders : Holders) (turns : List Turn) (line worker cpu cpu' cache place object : ℕ) → Do items events lives holders turns
    → Do items (events ++ (record { line = line; worker = worker; cpu = cpu; act = act.Alloc place object }) ∷ []) (lives_after lives (turn.Alloc cpu' cache object)) (held_behind holders worker (turn.Alloc cpu' cache object)) (turns ++ turn.Alloc cpu' cache object ∷ [])
alloc_does items events lives holders turns line worker cpu cpu' cache place object d =
    let event : Event = record { line = line; worker = worker; cpu = cpu; act = act.Alloc place object } in
    record {
      pairing = d.pairing;
      acts = All-push (λ (e : Event). IsPairingAct e.act) events event d.acts tt;
      before = d.before;
      now = frees_push items [] events event d.now tt;
      known = alloc_known items events lives holders event object refl d.known;
      allocs_are = more_by (λ (e : Event). allocated e.act) alloc_in (flat_map events_in items) events event turns (turn.Alloc cpu' cache object) d.allocs_are refl;
      frees_are = more_by (λ (e : Event). freed e.act) free_in (flat_map events_in items) events event turns (turn.Alloc cpu' cache object) d.frees_are refl;
    }

-- an object that its worker holds, or nobody, is there
held_there : (items : List Item) (events : List Event) (worker object : ℕ) (holder : Option ℕ) → IsAt items events object holder → (holder ≡ None) ⊎ (holder ≡ Some worker) → IsThere items events worker object
held_there items events worker object holder at (inl is) = inr (subst (IsAt items events object) is at)
held_there items events worker object holder at (inr is) = inl (subst (IsAt items events object) is at)

pub free_does : (items : List Item) (events : List Event) (lives : ℕ → Bool) (holders : Holders) (turns : List Turn) (line worker cpu cpu' object : ℕ) → Do items events lives holders turns
    → lives object ≡ true → IsFreeOf holders worker (turn.Free cpu' object)
    → Do items (events ++ (record { line = line; worker = worker; cpu = cpu; act = act.Free object }) ∷ []) (lives_after lives (turn.Free cpu' object)) holders (turns ++ turn.Free cpu' object ∷ [])
free_does items events lives holders turns line worker cpu cpu' object d live held =
    let event : Event = record { line = line; worker = worker; cpu = cpu; act = act.Free object } in
    record {
      pairing = d.pairing;
      acts = All-push (λ (e : Event). IsPairingAct e.act) events event d.acts tt;
      before = d.before;
      now = frees_push items [] events event d.now (held_there items events worker object (lookup (nat_eq object) holders) (d.known object live) held);
      known = λ n is. at_more items events (event ∷ []) n (lookup (nat_eq n) holders) (d.known n (still (nat_eq n object) (lives n) is).1);
      allocs_are = more_by (λ (e : Event). allocated e.act) alloc_in (flat_map events_in items) events event turns (turn.Free cpu' object) d.allocs_are refl;
      frees_are = more_by (λ (e : Event). freed e.act) free_in (flat_map events_in items) events event turns (turn.Free cpu' object) d.frees_are refl;
    }

-- ---- one item more

-- the events of items and of the round behind them
round_events : (items : List Item) (round : Events) → flat_map events_in (items ++ item.Round round ∷ []) ++ [] ≡ flat_map events_in items ++ round.events
round_events items round =
    append-nil (flat_map events_in (items ++ item.Round round ∷ []))
    ∙ flat_map-append events_in items (item.Round round ∷ [])
    ∙ ap (λ l. flat_map events_in items ++ l) (append-nil round.events)

-- the round ends
pub done_does : (items : List Item) (lives : ℕ → Bool) (holders : Holders) (turns : List Turn) (round : Events) → Do items round.events lives holders turns → Do (items ++ item.Round round ∷ []) [] lives [] turns
done_does items lives holders turns round d = record {
  pairing = All-push IsPairingItem items (item.Round round) d.pairing d.acts;
  acts = All-nil (λ (e : Event). IsPairingAct e.act);
  before = there_push [] items (item.Round round) d.before d.now;
  now = tt;
  known = λ n live. at_ended items round n (lookup (nat_eq n) holders) (d.known n live);
  allocs_are = ap objects_of (round_events items round) ∙ d.allocs_are;
  frees_are = ap freed_of (round_events items round) ∙ d.frees_are;
}

quiet_events : (items : List Item) (one : Item) → events_in one ≡ [] → flat_map events_in (items ++ one ∷ []) ++ [] ≡ flat_map events_in items ++ []
quiet_events items one none =
    ap (λ l. l ++ []) (flat_map-append events_in items (one ∷ []) ∙ ap (λ l. flat_map events_in items ++ (l ++ [])) none ∙ append-nil (flat_map events_in items))

-- an item without events, between rounds
pub quiet_does : (items : List Item) (lives : ℕ → Bool) (turns : List Turn) (one : Item) → IsPairingItem one → events_in one ≡ [] → Do items [] lives [] turns → Do (items ++ one ∷ []) [] lives [] turns
quiet_does items lives turns one is none d =
    let P : List Event → Type 0 = λ events. AreFreesThere items [] events in
    record {
      pairing = All-push IsPairingItem items one d.pairing is;
      acts = d.acts;
      before = there_push [] items one d.before (subst P (sym none) tt);
      now = tt;
      known = λ n live. at_further items (one ∷ []) n (d.known n live);
      allocs_are = ap objects_of (quiet_events items one none) ∙ d.allocs_are;
      frees_are = ap freed_of (quiet_events items one none) ∙ d.frees_are;
    }

-- ---- all steps

-- what is left in the end
pub record Are (turns : List Turn) (items : List Item) : Type 0 where
  pub pairing : All IsPairingItem items
  pub there : AreThere [] items
  pub allocs_are : objects_of (flat_map events_in items) ≡ allocs turns
  pub frees_are : freed_of (flat_map events_in items) ≡ frees turns

ended : (items : List Item) (lives : ℕ → Bool) (turns : List Turn) → Do items [] lives [] turns → Are turns items
ended items lives turns d = record {
  pairing = d.pairing;
  there = d.before;
  allocs_are = ap objects_of (sym (append-nil (flat_map events_in items))) ∙ d.allocs_are;
  frees_are = ap freed_of (sym (append-nil (flat_map events_in items))) ∙ d.frees_are;
}

-- a round is ended
cut_does : (a : Above) (lives : ℕ → Bool) (holders : Holders) (turns : List Turn) → Do a.items a.events lives holders turns → Do (after a Done).items [] lives [] turns
cut_does a lives holders turns d =
    let round : Events = record { workers = workers_in a.place; events = a.events } in
    done_does a.items lives holders turns round d

slabinfo_does : (a : Above) (lives : ℕ → Bool) (turns : List Turn) → Do a.items [] lives [] turns → Do (after a Slabinfo).items [] lives [] turns
slabinfo_does a lives turns d = quiet_does a.items lives turns item.Slabinfo tt refl d

-- below lines that do some turns, the lines of steps do theirs
pub steps_do : (rows : List Row) (workers : ℕ) (steps : List Step) (a : Above) (lives : ℕ → Bool) (count : ℕ) (holders : Holders) (turns : List Turn) → AreNext lives count (turns_in steps) → AreHeld holders steps
    → Do a.items a.events lives holders turns
    → Are (turns ++ turns_in steps) (after_all a (flat_map (step_lines rows workers) steps ++ Done ∷ Slabinfo ∷ End ∷ [])).items
steps_do rows workers [] a lives count holders turns next held d =
    let b : Above = after (after a Done) Slabinfo in
    let P : List Turn → Type 0 = λ all. Are all b.items in
    subst P (sym (append-nil turns)) (ended b.items lives turns (slabinfo_does (after a Done) lives turns (cut_does a lives holders turns d)))
steps_do rows workers (Does worker (turn.Alloc cpu cache object) ∷ steps) a lives count holders turns next held d =
    let one : Turn = turn.Alloc cpu cache object in
    let name : List ℕ = name_at rows cache in
    let b : Above = after a (Alloc worker cpu name object) in
    let P : List Turn → Type 0 = λ all. Are all (after_all b (flat_map (step_lines rows workers) steps ++ Done ∷ Slabinfo ∷ End ∷ [])).items in
    subst P (append_assoc turns (one ∷ []) (turns_in steps))
    (steps_do rows workers steps b (lives_after lives one) (count + 1) (held_behind holders worker one) (turns ++ one ∷ []) next.1 held.1
    (alloc_does a.items a.events lives holders turns _ worker cpu cpu cache _ object d))
steps_do rows workers (Does worker (turn.Free cpu object) ∷ steps) a lives count holders turns next held d =
    let one : Turn = turn.Free cpu object in
    let b : Above = after a (Free worker cpu object) in
    let P : List Turn → Type 0 = λ all. Are all (after_all b (flat_map (step_lines rows workers) steps ++ Done ∷ Slabinfo ∷ End ∷ [])).items in
    subst P (append_assoc turns (one ∷ []) (turns_in steps))
    (steps_do rows workers steps b (lives_after lives one) count holders (turns ++ one ∷ []) next.1 held.1
    (free_does a.items a.events lives holders turns _ worker cpu cpu object d next.0 held.0))
steps_do rows workers (Cut true ∷ steps) a lives count holders turns next held d =
    steps_do rows workers steps (after (after (after a Done) Slabinfo) (Round workers)) lives count [] turns next held (slabinfo_does (after a Done) lives turns (cut_does a lives holders turns d))
steps_do rows workers (Cut false ∷ steps) a lives count holders turns next held d =
    steps_do rows workers steps (after (after a Done) (Round workers)) lives count [] turns next held (cut_does a lives holders turns d)
