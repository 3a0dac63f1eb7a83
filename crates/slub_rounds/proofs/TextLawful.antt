-- What holds of rounds in the order of the text.
use Rattle.std.proofs.Common.{◌≡◌, ℕ, ◌+◌, ◌*◌, ◌/◌, ◌%◌, ◌^◌, ◌<◌, ◌≤◌, List, [], ◌∷◌, length, get_or, All, Some, None, IsSome, inl, inr, refl, sym, ap, ◌∙◌, subst, arith, add-mul, mul-le-mul_right}
use Rattle.std.proofs.lemmas.List.Elements.{All-cons, All-head, All-tail}
use Rattle.std.proofs.lemmas.Nat.{div-add-mod', mod-mul-add}
use Rattle.slub_trace.specs.declared.event.Act.{Act}
use Rattle.slub_trace.specs.declared.event.Act.TheVariants as act
use Rattle.slub_trace.specs.declared.event.Event.{Event}
use Rattle.slub_trace.specs.declared.event.Round.{Round}
use Rattle.slub_cache_create.specs.Table.{Table, cache_of as live_cache}
use Rattle.slub_trace.specs.Ranges.{step_of}
use Rattle.slub_trace.specs.declared.trace.Trace.{Trace}
use Rattle.slub_trace.specs.Sound.{IsSoundAct, IsSoundEvent, objects_of}
use Rattle.slub_lists.specs.State.{State}
use Rattle.slub_lists.specs.Coherent.{IsCoherent, all_on_board}
use Rattle.slub_core.specs.Setup.{Setup}
use Rattle.slub_core.specs.Run.{System}
use Rattle.slub_law_opening.specs.Closing.{Closes}
use Rattle.slub_law_opening.specs.Laws.{MayOpen}
use Rattle.slub_law_opening.specs.Opening.{tid_of}
use Rattle.slub_law_opening.proofs.Systems.{rounds-keep}
use Rattle.slub_calls.specs.Calls.{workers_of}
use Rattle.slub_calls.specs.Laws.{MayDo}
use Rattle.slub_calls.proofs.Fitting.{may_begin}
use Rattle.slub_slabinfo_text.specs.Lawful.{IsAtRest}
use Rattle.slub_slabinfo_text.specs.declared.journal.RoundResult.{RoundResult}
use Rattle.slub_open_close.specs.Ids.{AreIds, IsStepOf, id_at}
use Rattle.slub_open_close.proofs.Steps.{is-step, step-is}
use Rattle.slub_law_rounds.specs.Round.{RoundFits, IsRound}
use Rattle.slub_law_rounds.proofs.Whole.{lawful}
use Rattle.slub_law_rounds.proofs.WholeRan.{rounds-lawful}
use Rattle.slub_rounds.specs.Laws.{RoundsInOrderAreLawful}
use Rattle.slub_rounds.specs.Rounds.{DoesRoundInOrder}
use Rattle.slub_rounds.proofs.Lawful.{orders-lawful}
use Rattle.slub_rounds.specs.ByText.{DoesRoundBeside, DoesRoundOnLists, IdsLast}
use Rattle.slub_rounds.specs.TextLaws.{RoundsByTextAreLawful, RoundsByTextKeepIds}
use Rattle.slub_rounds.proofs.Growing.{not-grown, runs-grow, runs-long}
use Rattle.slub_rounds.proofs.Standing.{lasting}

-- ---- they are lawful

-- what sound events allocate are numbers of the machine
within : (trace : Trace) (workers size : ℕ) (events : List Event) → size ≡ trace.objects + 1 → All (IsSoundEvent trace workers) events → All (λ object. object < size) (objects_of events)
within trace workers size [] is sound = λ k d below. absurd (let never : ⊥ = omega (arith, below) in never)
within trace workers size (event ∷ events) is sound =
    by event.act refl (All-head (IsSoundEvent trace workers) event events sound).act (within trace workers size events is (All-tail (IsSoundEvent trace workers) event events sound))
  where
    by : (a : Act) → event.act ≡ a → IsSoundAct trace event.act → All (λ object. object < size) (objects_of events) → All (λ object. object < size) (objects_of (event ∷ events))
    by (act.Alloc place number) same known rest =
        let all : objects_of (event ∷ events) ≡ number ∷ objects_of events = rw same refl in
        let mine : IsSoundAct trace (act.Alloc place number) = subst (IsSoundAct trace) same known in
        subst (λ (xs : List ℕ). All (λ object. object < size) xs) (sym all) (All-cons (λ object. object < size) number (objects_of events) (omega (arith, mine.2, is)) rest)
    by _ same known rest =
        let all : objects_of (event ∷ events) ≡ objects_of events = rw same refl in
        subst (λ (xs : List ℕ). All (λ object. object < size) xs) (sym all) rest

-- a round that can be done fits the machine
pub fits : (s : State) (trace : Trace) (round : Round) → MayDo s trace round → RoundFits s round
fits s trace round may = record {
  within = within trace round.workers (length s.board) round.events may.objects may.sound.events;
  unheld = may.unheld;
  distinct = may.distinct;
}

-- one by steps is lawful
in-order : RoundsInOrderAreLawful
in-order = orders-lawful rounds-lawful

pub beside-lawful : (s : State) (ids : List ℕ) (trace : Trace) (round : Round) (result : RoundResult) (after : State) (ids_after : List ℕ) → IsCoherent s → IsAtRest s → MayDo s trace round
    → DoesRoundBeside s ids round result after ids_after → IsRound s round result after
beside-lawful s ids trace round result after ids_after coherent rest may (inl (last, does)) = lawful s round result after coherent rest (fits s trace round may) does.does
beside-lawful s ids trace round result after ids_after coherent rest may (inr (spent, does)) = in-order s ids trace round result after ids_after coherent rest.laid_down may does

-- and so is one in the order of the text
pub text-lawful : RoundsByTextAreLawful
text-lawful s None trace round result after left coherent rest may does = lawful s round result after coherent rest (fits s trace round may) does.0
text-lawful s (Some ids) trace round result after left coherent rest may does = beside-lawful s ids trace round result after does.0 coherent rest may does.1

-- ---- the ids after them

-- some steps more leave the same CPU
mod-more : (a times step : ℕ) → a % step < step → (a + times * step) % step ≡ a % step
mod-more a times step below =
    let whole : a + times * step ≡ (a / step + times) * step + a % step = omega (arith, div-add-mod' a step, add-mul (a / step) times step) in
    ap (λ n. n % step) whole ∙ mod-mul-add (a / step + times) step (a % step) below

abbrev IsLiveIn : Table → ℕ → Type 0
IsLiveIn table cache = IsSome (live_cache table cache)

lists-keep : (s : State) (ids : List ℕ) (round : Round) (result : RoundResult) (after : State) (ids_after : List ℕ) → IsCoherent s → AreIds s ids → IdsLast s ids round
    → IsRound s round result after → DoesRoundOnLists s ids round result after ids_after → AreIds after ids_after
lists-keep s ids round result after ids_after coherent are last is does =
    let b = does.beside in
    let d = does.left in
    let step : ℕ = step_of s.cpus in
    let most : ℕ = 2 * length round.events in
    let few = coherent.shaped.cpus in
    let step_is : b.step ≡ step = step-is s.cpus b.step does.stands.step few.0 few.1 in
    let own_step : are.step ≡ step = step-is s.cpus are.step are.least few.0 few.1 in
    let grows = runs-grow 0 most s b b round.events result.replies does.does.last d (omega arith) (not-grown b) does.runs in
    let at : (n : ℕ) → (times : ℕ) × (times ≤ most) × (id_at ids_after n ≡ id_at ids n + times * step) = λ n.
    let t = grows.tids n in
    let now : id_at ids_after n ≡ tid_of d n = ap (λ (xs : List ℕ). get_or xs n 0) does.ids_are in
    let was : tid_of b n ≡ id_at ids n = ap (λ (xs : List ℕ). get_or xs n 0) does.stands.tids in
    let steps : t.0 * b.step ≡ t.0 * step = ap (λ k. t.0 * k) step_is in
    (t.0, t.1, omega (arith, now, t.2, was, steps)) in
    let room : (n : ℕ) → id_at ids_after n + step < 2 ^ 32 = λ n.
    let t = at n in
    let most_of : (t.0 + 1) * step ≤ (most + 1) * step = mul-le-mul_right step (omega (arith, t.1)) in
    let one = add-mul t.0 1 step in
    omega (arith, t.2, most_of, one, lasting s ids round are.count last n) in
    record {
      step = step;
      least = subst (λ cpus. IsStepOf cpus step) (sym is.cpus) (is-step s.cpus few.0 few.1);
      count = ap (λ (xs : List ℕ). length xs) does.ids_are ∙ runs-long s b round.events result.replies does.does.last d does.runs ∙ does.stands.fits.tids;
      below = λ n. omega (arith, room n);
      room = λ n current. room n;
      remainder = λ n inside there lives.
          let t = at n in
          let old : id_at ids n % step ≡ n % 16 = ap (λ k. id_at ids n % k) (sym own_step) ∙ are.remainder n inside (omega (arith, there, is.cpus)) (subst (λ table. IsLiveIn table (n / 16)) is.table lives) in
          ap (λ k. k % step) t.2 ∙ mod-more (id_at ids n) t.0 step (omega (arith, old, there, is.cpus, (is-step s.cpus few.0 few.1).1)) ∙ old;
    }

steps-keep : (s : State) (ids : List ℕ) (trace : Trace) (round : Round) (result : RoundResult) (after : State) (ids_after : List ℕ) → IsCoherent s → IsAtRest s → MayDo s trace round
    → DoesRoundInOrder s ids round result after ids_after → AreIds after ids_after
steps-keep s ids trace round result after ids_after coherent rest may does =
    let b = does.beside in
    let d = does.left in
    let opens : MayOpen s b = record { coherent = coherent; laid_down = rest.laid_down; beside = does.stands.fits } in
    let closes = subst (λ (last : System). Closes s b last does.lists d) does.ends.run does.closes in
    let fits = (rounds-keep s does.lists b d (workers_of s.table round) does.picks opens (may_begin s b trace round opens may) closes).1.beside in
    let step : d.step ≡ b.step = ap (λ (m : Setup). m.step) does.closes.stays in
    let cpus : does.lists.cpus ≡ s.cpus = ap (λ (m : Setup). m.cpus) does.closes.stays in
    let P : ℕ × ℕ → Type 0 = λ p. IsStepOf p.0 p.1 in
    let left : AreIds (all_on_board does.lists) d.tids = record {
      step = d.step;
      least = subst P (λ i. (sym cpus i, sym step i)) does.stands.step;
      count = fits.tids;
      below = fits.tid;
      room = fits.room;
      remainder = fits.remainder;
    } in
    subst (λ (x : State). AreIds x ids_after) (sym does.after_is) (subst (λ (xs : List ℕ). AreIds (all_on_board does.lists) xs) (sym does.ids_are) left)

pub keep-ids : RoundsByTextKeepIds
keep-ids s ids trace round result after ids_after coherent rest may are (inl (last, does)) =
    lists-keep s ids round result after ids_after coherent are last (lawful s round result after coherent rest (fits s trace round may) does.does) does
keep-ids s ids trace round result after ids_after coherent rest may are (inr (spent, does)) = steps-keep s ids trace round result after ids_after coherent rest may does
