-- The transaction ids beside the lists, after a round, a client's line or another item.
use Rattle.std.proofs.Common.{◌≡◌, ℕ, ◌+◌, ◌^◌, ◌≤◌, List, [], eqb, inl, inr, ap, ◌∙◌, sym, subst, Option, Some, None, MatchOption, slice_get, arith}
use Rattle.std.specs.Prelude.{IfSome}
use Rattle.std.proofs.lemmas.Bool.{cond-false, ne_eqb}
use Rattle.std.specs.Option.{option_map}
use native.Mathlib.Nat.{zero-mod}
use Rattle.slub_trace.specs.declared.event.Round.{Round}
use Rattle.slub_lists.specs.State.{State}
use Rattle.slub_lists.specs.Coherent.{IsCoherent}
use Rattle.slub_open_close.specs.Ids.{AreIds, IsStepOf, first_ids}
use Rattle.slub_open_close.proofs.Firsts.{first-ids-fit, step-below}
use Rattle.slub_open_close.specs.Growth.{ids_after}
use Rattle.slub_open_close.proofs.Items.{items-keep}
use Rattle.slub_open_close.proofs.Steps.{is-step}
use Rattle.slub_trace.specs.declared.trace.Item.{Item}
use Rattle.slub_trace.specs.declared.trace.Trace.{Trace}
use Rattle.slub_trace.specs.Ranges.{step_of}
use Rattle.slub_trace.specs.Sound.{IsSound}
use Rattle.slub_slabinfo_text.specs.declared.journal.Done.{Done}
use Rattle.slub_slabinfo_text.specs.declared.journal.RoundResult.{RoundResult}
use Rattle.slub_slabinfo_text.specs.Lawful.{DoesPlain, DoesPlainAt, IsReady}
use Rattle.slub_rounds.specs.ByText.{DoesByText}
use Rattle.slub_rounds.specs.Asked.{AreGiven}
use Rattle.slub_law_replay.specs.declared.way.Way.{Way}
use Rattle.slub_law_replay.specs.declared.way.Way.TheVariants.{Serial, Schedule, Threads}
use Rattle.slub_law_replay.specs.Runs.{AreIdsFor, opening_ids}
use Rattle.slub_law_replay.specs.Ways.{AreLeft, DoesRoundBy}
use Rattle.slub_items.specs.Ids.{LeavesIdsAt}

-- they fit where they stand
pub fit_beside : (trace : Trace) (s : State) (ids : Option (List ℕ)) → AreIdsFor trace s ids → IfSome ids (AreIds s)
fit_beside trace s None are = tt
fit_beside trace s (Some ids) are = are.1

-- new ones fit, too
pub new_fit : (s : State) → IsCoherent s → AreIds s (first_ids 0 s.cpus)
new_fit s coherent =
    let cpus = coherent.shaped.cpus in
    let least : IsStepOf s.cpus (step_of s.cpus) = is-step s.cpus cpus.0 cpus.1 in
    let below : step_of s.cpus ≤ 16 = step-below s.cpus (step_of s.cpus) cpus.1 least in
    first-ids-fit s 0 (step_of s.cpus) cpus.0 least (zero-mod (step_of s.cpus)) (omega (arith, below)) (λ n is. omega (arith, below))

-- the id of each CPU fits 32 bits
pub first_few : (trace : Trace) → IsSound trace → trace.tid + trace.cpus ≤ 2 ^ 32
first_few trace sound =
    let least : IsStepOf trace.cpus (step_of trace.cpus) = is-step trace.cpus sound.cpus.0 sound.cpus.1 in
    omega (arith, least.1, sound.tid.1)

-- where the trace gives the first one, they begin at it
pub opening_given : (trace : Trace) (ids : List ℕ) → 1 ≤ trace.tid → ids ≡ first_ids trace.tid trace.cpus → Some ids ≡ opening_ids trace
opening_given trace ids given is = ap (λ (l : List ℕ). Some l) is ∙ sym (cond-false (eqb trace.tid 0) None (Some (first_ids trace.tid trace.cpus)) (ne_eqb trace.tid 0 (λ none. let never : ⊥ = omega (arith, given, none) in never)))

-- ---- after a round

-- a round leaves none where none stood, and else its own
text_left : (s after : State) (ids left : Option (List ℕ)) (round : Round) (result : RoundResult) → DoesByText s ids round result after left → (kept : List ℕ) × AreLeft ids kept left
text_left s after None left round result does = ([], does.1)
text_left s after (Some ids) left round result does = (does.0, does.2)

round_left : (way : Way) (rounds : ℕ) (s after : State) (ids left : Option (List ℕ)) (round : Round) (result : RoundResult) → DoesRoundBy way rounds s ids round result after left → (kept : List ℕ) × AreLeft ids kept left
round_left Serial rounds s after ids left round result does = text_left s after ids left round result does
round_left (Schedule seed) rounds s after ids left round result (inl (few, does)) = text_left s after ids left round result does
round_left (Schedule seed) rounds s after ids left round result (inr (several, does)) = (does.0, does.2)
round_left Threads rounds s after ids left round result (inl (few, does)) = text_left s after ids left round result does
round_left Threads rounds s after ids left round result (inr (several, does)) = (does.0, does.2)

pub left_stand : (trace : Trace) (s after : State) (ids left : Option (List ℕ)) (kept : List ℕ) → AreIdsFor trace s ids → AreLeft ids kept left → IfSome left (AreIds after) → AreIdsFor trace after left
left_stand trace s after None left kept are is fit = rw is are
left_stand trace s after (Some ids) left kept are is fit = let here : AreIds after kept = subst (λ (l : Option (List ℕ)). IfSome l (AreIds after)) is fit in rw is (are.0, here)

-- so they stand there after it where they stood before
pub round_stands : (way : Way) (rounds : ℕ) (trace : Trace) (s after : State) (ids left : Option (List ℕ)) (round : Round) (result : RoundResult) → AreIdsFor trace s ids → DoesRoundBy way rounds s ids round result after left → IfSome left (AreIds after)
    → AreIdsFor trace after left
round_stands way rounds trace s after ids left round result are does fit = let mine = round_left way rounds s after ids left round result does in left_stand trace s after ids left mine.0 are mine.1 fit

-- ---- after a client's line

pub line_stands : (trace : Trace) (after : State) (left : Option (List ℕ)) → AreGiven trace left → IfSome left (AreIds after) → AreIdsFor trace after left
line_stands trace after None given fit = given
line_stands trace after (Some left) given fit = (given, fit)

-- ---- after another item

pub plain_stands : (trace : Trace) (it : Item) (done : Done) (s after : State) (ids left : Option (List ℕ)) → IsSound trace → s.cpus ≡ trace.cpus → IsCoherent s → IsCoherent after
    → DoesPlain s trace it done after → AreIdsFor trace s ids → left ≡ option_map (ids_after trace s it done) ids → AreIdsFor trace after left
plain_stands trace it done s after None left sound cpus before coherent does are is = rw is are
plain_stands trace it done s after (Some ids) left sound cpus before coherent does are is = rw is (are.0, items-keep s trace it done after ids sound cpus before coherent are.1 does)

-- the same of the item of a number
pub leaves_at : (trace : Trace) (s : State) (number : ℕ) (done : Done) (ids left : Option (List ℕ)) → LeavesIdsAt trace s number done ids left → (it : Item) → slice_get trace.items number ≡ Some it → left ≡ option_map (ids_after trace s it done) ids
leaves_at trace s number done ids left leaves it is = subst (λ (found : Option Item). MatchOption found ⊥ (λ it. left ≡ option_map (ids_after trace s it done) ids)) is leaves

pub plain_stands_at : (trace : Trace) (number : ℕ) (done : Done) (s after : State) (ids left : Option (List ℕ)) → IsSound trace → IsReady s trace number → IsReady after trace (number + 1)
    → DoesPlainAt s trace number done after → AreIdsFor trace s ids → LeavesIdsAt trace s number done ids left → AreIdsFor trace after left
plain_stands_at trace number done s after ids left sound ready next does are leaves = by (slice_get trace.items number) does leaves
  where
    by : (found : Option Item) → MatchOption found ⊥ (λ it. DoesPlain s trace it done after) → MatchOption found ⊥ (λ it. left ≡ option_map (ids_after trace s it done) ids) → AreIdsFor trace after left
    by None does leaves = absurd does
    by (Some it) does leaves = plain_stands trace it done s after ids left sound ready.cpus ready.coherent next.coherent does are leaves
