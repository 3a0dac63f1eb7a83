-- What the crates above stand on: an item of a number is done, and a run of items grows by one.
use Rattle.std.proofs.Common.{◌≡◌, ℕ, ◌+◌, ◌<◌, List, [], ◌∷◌, ◌++◌, length, take, get_or, refl, sym, subst, Some, None, Option, MatchOption, slice_get}
use Rattle.std.specs.Option.{option_map}
use Rattle.std.proofs.lemmas.List.{take_more}
use Rattle.std.proofs.lemmas.Option.{slice_get-get_or, slice_get_read}
use Rattle.slub_trace.specs.declared.event.Round.{Round}
use Rattle.slub_lists.specs.Coherent.{IsCoherent}
use Rattle.slub_trace.specs.declared.trace.Client.{Client as Asked}
use Rattle.slub_trace.specs.declared.trace.Item.{Item}
use Rattle.slub_trace.specs.declared.trace.Item.TheVariants as item
use Rattle.slub_trace.specs.declared.trace.Trace.{Trace}
use Rattle.slub_slabinfo_text.specs.declared.client.ClientDone.{ClientDone}
use Rattle.slub_slabinfo_text.specs.declared.journal.Done.{Done}
use Rattle.slub_slabinfo_text.specs.declared.journal.Done.TheVariants as done
use Rattle.slub_slabinfo_text.specs.declared.journal.RoundResult.{RoundResult}
use Rattle.slub_slabinfo_text.specs.Lawful.{DoesPlain, DoesPlainAt}
use Rattle.slub_open_close.specs.Growth.{ids_after}
use Rattle.slub_law_replay.specs.declared.way.Way.{Way}
use Rattle.slub_law_replay.specs.Ways.{DoesRoundBy}
use Rattle.slub_law_replay.specs.Runs.{Does, DoesAt, KeepsReserves, KeepsRounds, MachineState, RunsItems, Serves}

-- ---- items done one after the other

items_more : (way : Way) (m : MachineState) (trace : Trace) (items : List Item) (dones : List Done) (mid after : MachineState) (it : Item) (dn : Done)
    → RunsItems way m trace items dones mid → Does way mid trace it dn after → IsCoherent after.lists → RunsItems way m trace (items ++ it ∷ []) (dones ++ dn ∷ []) after
items_more way m trace [] [] mid after it dn run does coherent = (after, subst (λ (now : MachineState). Does way now trace it dn after) run does, coherent, refl)
items_more way m trace [] (first ∷ dones) mid after it dn run does coherent = absurd run
items_more way m trace (first ∷ items) [] mid after it dn run does coherent = absurd run
items_more way m trace (first ∷ items) (answer ∷ dones) mid after it dn run does coherent =
    (run.0, run.1, run.2, items_more way run.0 trace items dones mid after it dn run.3 does coherent)

-- the next item of a trace is done after those before it
pub run_more : (way : Way) (m : MachineState) (trace : Trace) (number : ℕ) (dones : List Done) (mid after : MachineState) (dn : Done) → number < length trace.items
    → RunsItems way m trace (take number trace.items) dones mid → DoesAt way mid trace number dn after → IsCoherent after.lists
    → RunsItems way m trace (take (number + 1) trace.items) (dones ++ dn ∷ []) after
run_more way m trace number dones mid after dn within run does coherent =
    let here = subst (λ (found : Option Item). MatchOption found ⊥ (λ it. Does way mid trace it dn after)) (slice_get-get_or trace.items number item.Slabinfo within) does in
    let more = take_more trace.items number item.Slabinfo within in
    subst (λ (items : List Item). RunsItems way m trace items (dones ++ dn ∷ []) after) (sym more) (items_more way m trace (take number trace.items) dones mid after (get_or trace.items number item.Slabinfo) dn run here coherent)

-- ---- the item of a number

-- one that was read is done
does_found : (way : Way) (m : MachineState) (trace : Trace) (number : ℕ) (it : Item) (dn : Done) (after : MachineState) → number < length trace.items → it ≡ get_or trace.items number it
    → Does way m trace it dn after → DoesAt way m trace number dn after
does_found way m trace number it dn after within at does =
    let found : slice_get trace.items number ≡ Some it = slice_get_read trace.items (length trace.items) number it refl within at in
    subst (λ (found : Option Item). MatchOption found ⊥ (λ it. Does way m trace it dn after)) (sym found) does

-- a round
pub does_round_at : (way : Way) (m : MachineState) (trace : Trace) (number : ℕ) (it : Item) (round : Round) (result : RoundResult) (after : MachineState) → number < length trace.items → it ≡ get_or trace.items number it → it ≡ item.Round round
    → DoesRoundBy way m.rounds m.lists m.ids round result after.lists after.ids → KeepsReserves m after → after.rounds ≡ m.rounds + 1 → DoesAt way m trace number (done.Round result) after
unfolding Does
does_round_at way m trace number it round result after within at is does kept more =
    does_found way m trace number it (done.Round result) after within at (subst (λ (it : Item). Does way m trace it (done.Round result) after) (sym is) (does, kept, more))

-- a client's line
pub does_client_at : (way : Way) (m : MachineState) (trace : Trace) (number : ℕ) (it : Item) (client : Asked) (outcome : ClientDone) (after : MachineState) → number < length trace.items → it ≡ get_or trace.items number it → it ≡ item.Client client
    → Serves m trace client outcome after → KeepsRounds m after → DoesAt way m trace number (done.Client outcome) after
unfolding Does
does_client_at way m trace number it client outcome after within at is serves kept =
    does_found way m trace number it (done.Client outcome) after within at (subst (λ (it : Item). Does way m trace it (done.Client outcome) after) (sym is) (serves, kept))

-- ---- an item that is neither

-- the ids after it
abbrev pub LeavesIds : MachineState → Trace → Item → Done → MachineState → Type 0
LeavesIds m trace it dn after = after.ids ≡ option_map (ids_after trace m.lists it dn) m.ids

does_plain : (way : Way) (m : MachineState) (trace : Trace) (it : Item) (dn : Done) (after : MachineState) → DoesPlain m.lists trace it dn after.lists → LeavesIds m trace it dn after → KeepsReserves m after → KeepsRounds m after → Does way m trace it dn after
unfolding Does DoesPlain
does_plain way m trace (item.Round round) (done.Round result) after does ids kept same = absurd does
does_plain way m trace (item.Round round) _ after does ids kept same = absurd does
does_plain way m trace (item.Client client) (done.Client outcome) after does ids kept same = absurd does
does_plain way m trace (item.Client client) _ after does ids kept same = absurd does
does_plain way m trace _ dn after does ids kept same = (does, ids, kept, same)

pub does_plain_at : (way : Way) (m : MachineState) (trace : Trace) (number : ℕ) (dn : Done) (after : MachineState) → DoesPlainAt m.lists trace number dn after.lists → ((it : Item) → slice_get trace.items number ≡ Some it → LeavesIds m trace it dn after)
    → KeepsReserves m after → KeepsRounds m after → DoesAt way m trace number dn after
does_plain_at way m trace number dn after does ids kept same = by (slice_get trace.items number) refl does
  where
    by : (found : Option Item) → slice_get trace.items number ≡ found → MatchOption found ⊥ (λ it. DoesPlain m.lists trace it dn after.lists) → MatchOption found ⊥ (λ it. Does way m trace it dn after)
    by None is does = absurd does
    by (Some it) is does = does_plain way m trace it dn after does (ids it is) kept same
