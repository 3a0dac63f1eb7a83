-- The machine of a trace before its first object.
use Rattle.std.proofs.Common.{◌≡◌, ℕ, zero, suc, ◌+◌, ◌*◌, ◌/◌, ◌%◌, ◌^◌, ◌≤◌, List, length, get_or, replicate, refl, sym, ap, ◌∙◌, subst, arith, Option, None, IfSome, IsSome}
use Rattle.std.proofs.lemmas.Bool.{false≢true}
use Rattle.std.proofs.lemmas.List.{length-replicate}
use Rattle.slub_common.proofs.Writes.{get_or-replicate_any}
use Rattle.slub_trace.specs.declared.event.Round.{Round}
use Rattle.slub_page_pool.specs.FreeFrames.{FreeFrames}
use Rattle.slub_lists.specs.declared.lists.CpuLists.{CpuLists}
use Rattle.slub_lists.specs.declared.lists.Held.{Held}
use Rattle.slub_lists.specs.State.{State}
use Rattle.slub_lists.specs.Alloc.{no_lists}
use Rattle.slub_law_opening.specs.Opening.{IsLaidDown, cpu_at}
use Rattle.slub_law_opening.proofs.Cpus.{cpu-at}
use Rattle.slub_trace.specs.declared.trace.Trace.{Trace}
use Rattle.slub_trace.specs.Ranges.{step_of}
use Rattle.slub_trace.specs.Sound.{IsSound, objects_of}
use Rattle.slub_calls.specs.Laws.{MayDo}
use Rattle.slub_open_close.proofs.Steps.{is-step}
use Rattle.slub_open_close.specs.Ids.{AreIds, IsStepOf, first_ids}
use Rattle.slub_open_close.proofs.Firsts.{first-ids-fit}
use Rattle.slub_tries.specs.Fresh.{IsFresh, IsRoundOf}
use Rattle.slub_tries.proofs.Parts.{round-brief, round-distinct, round-sound}

-- the first ids of all CPUs fit 32 bits
pub first-few : (trace : Trace) → IsSound trace → trace.tid + trace.cpus ≤ 2 ^ 32
first-few trace sound =
    let step = is-step trace.cpus sound.cpus.0 sound.cpus.1 in
    omega (arith, step.1, sound.tid.1)

-- no frames have been wanted yet
none-dry : (n order : ℕ) → ◌≡◌ {A = ℕ} (get_or (replicate n 0) order 0) 0
none-dry zero order = refl
none-dry (suc n) zero = refl
none-dry (suc n) (suc order) = none-dry n order

module _ (trace : Trace) (s : State) (fresh : IsFresh trace s) where
  bare : (object : ℕ) → get_or s.board object None ≡ None
  bare object = ap (λ (board : List (Option Held)). get_or board object None) fresh.board ∙ get_or-replicate_any (trace.objects + 1) object None

  pub fresh-laid : IsLaidDown s
  fresh-laid object = subst (λ (found : Option Held). IfSome found (λ held. held.worker ≡ None)) (sym (bare object)) tt

  board-long : length s.board ≡ trace.objects + 1
  board-long = ap (λ (board : List (Option Held)). length board) fresh.board ∙ length-replicate (trace.objects + 1) None

  pub fresh-objects : IsSound trace → length s.board ≤ 1048577
  fresh-objects sound = omega (arith, board-long, sound.objects)

  -- a round of the trace can be done
  pub fresh-may : (round : Round) → IsSound trace → IsRoundOf trace round → MayDo s trace round
  fresh-may round sound is = record {
    sound = round-sound trace round sound is;
    cpus = fresh.cpus;
    objects = board-long;
    names = fresh.names;
    unheld = λ k d below. bare (get_or (objects_of round.events) k d);
    distinct = round-distinct trace round sound is;
    few = round-brief trace round sound is;
    dry = λ order. (let none : get_or s.pool.dry order 0 ≡ 0 = ap (λ (p : FreeFrames). get_or p.dry order 0) fresh.pool ∙ none-dry 11 order in omega (arith, none));
  }

  -- no CPU has a slab
  idle : (n : ℕ) → IsSome (cpu_at s n).current → ⊥
  idle n =
      let nothing : (place : ℕ) → get_or s.cpu_lists place no_lists ≡ no_lists = λ place.
      ap (λ (all : List CpuLists). get_or all place no_lists) fresh.cpu_lists ∙ get_or-replicate_any (32 * trace.cpus) place no_lists in
      cpu-at s n (λ l. IsSome l.current → ⊥) (λ some. false≢true some)
      (λ below. subst (λ (l : CpuLists). IsSome l.current → ⊥) (sym (nothing (n / 16 * s.cpus + n % 16))) (λ some. false≢true some))

  -- and the first ids fit
  pub fresh-ids : IsSound trace → AreIds s (first_ids trace.tid trace.cpus)
  fresh-ids sound =
      let step : ℕ = step_of trace.cpus in
      subst (λ (cpus : ℕ). AreIds s (first_ids trace.tid cpus)) fresh.cpus
      (first-ids-fit s trace.tid step (omega (arith, fresh.cpus, sound.cpus.0)) (subst (λ (cpus : ℕ). IsStepOf cpus step) (sym fresh.cpus) (is-step trace.cpus sound.cpus.0 sound.cpus.1)) sound.tid.0 sound.tid.1
      (λ n some. absurd (idle n some)))
