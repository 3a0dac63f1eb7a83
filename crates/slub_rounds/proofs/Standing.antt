-- What stands beside the lists of a round whose ids last.
use Rattle.std.proofs.Common.{◌≡◌, ℕ, ◌+◌, ◌*◌, ◌%◌, ◌^◌, ◌<◌, ◌≤◌, cond, List, length, get_or, All, inl, inr, refl, sym, ap, ◌∙◌, subst, arith}
use Rattle.std.specs.Prelude.{nat_le}
use Rattle.std.proofs.lemmas.Bool.{cases_lt, cond_both}
use Rattle.std.proofs.lemmas.List.{get_or_past, length-replicate}
use Rattle.slub_common.proofs.Writes.{get_or-replicate_any}
use Rattle.slub_trace.specs.declared.event.Act.{Act}
use Rattle.slub_trace.specs.declared.event.Act.TheVariants as act
use Rattle.slub_trace.specs.declared.event.Round.{Round}
use Rattle.slub_trace.specs.Ranges.{step_of}
use Rattle.slub_lists.specs.State.{State}
use Rattle.slub_lists.specs.Coherent.{IsCoherent}
use Rattle.slub_law_opening.specs.Opening.{Beside}
use Rattle.slub_open_close.specs.Beside.{first_links}
use Rattle.slub_open_close.specs.Ids.{AreIds, IsStepOf, id_at}
use Rattle.slub_open_close.proofs.Steps.{is-step, step-is}
use Rattle.slub_turns.specs.Means.{the_means}
use Rattle.slub_rounds.specs.Rounds.{StandsBeside}
use Rattle.slub_rounds.specs.ByText.{IdsLast}

-- ---- beside the lists

-- what stands beside the lists where these ids do
abbrev pub beside_ids : State → List ℕ → Beside
beside_ids s ids = record { tids = ids; links = first_links s.frames; step = step_of s.cpus; means = the_means }

pub step-few : (cpus : ℕ) → step_of cpus ≤ 16
step-few cpus =
    cond_both (nat_le cpus 1) 1 (cond (nat_le cpus 2) 2 (cond (nat_le cpus 4) 4 (cond (nat_le cpus 8) 8 16))) (λ x. x ≤ 16)
    (λ one. omega arith)
    (λ more. cond_both (nat_le cpus 2) 2 (cond (nat_le cpus 4) 4 (cond (nat_le cpus 8) 8 16)) (λ x. x ≤ 16)
    (λ two. omega arith)
    (λ more. cond_both (nat_le cpus 4) 4 (cond (nat_le cpus 8) 8 16) (λ x. x ≤ 16)
    (λ four. omega arith)
    (λ more. cond_both (nat_le cpus 8) 8 16 (λ x. x ≤ 16) (λ eight. omega arith) (λ more. omega arith))))

module _ (s : State) (ids : List ℕ) (coherent : IsCoherent s) (are : AreIds s ids) where
  least : IsStepOf s.cpus (step_of s.cpus)
  least = is-step s.cpus coherent.shaped.cpus.0 coherent.shaped.cpus.1

  same : are.step ≡ step_of s.cpus
  same = step-is s.cpus are.step are.least coherent.shaped.cpus.0 coherent.shaped.cpus.1

  pub stands : 1 ≤ length s.board → length s.board ≤ 1048577 → StandsBeside s ids (beside_ids s ids)
  stands some few = record {
    fits = record {
      step = (least.1, step-few s.cpus);
      objects = (some, few);
      tids = are.count;
      links = length-replicate s.frames 0;
      tid = are.below;
      room = λ n current. omega (arith, are.room n current, same);
      remainder = λ n within there lives. ap (λ k. id_at ids n % k) (sym same) ∙ are.remainder n within there lives;
      link = λ f. (let none : get_or (first_links s.frames) f 0 ≡ 0 = get_or-replicate_any s.frames f 0 in omega (arith, none));
    };
    tids = refl;
    links = refl;
    step = least;
  }

-- ---- they last

-- what is past the ids has room, too
pub lasting : (s : State) (ids : List ℕ) (round : Round) → length ids ≡ 512 → IdsLast s ids round → (n : ℕ) → id_at ids n + (2 * length round.events + 1) * step_of s.cpus < 2 ^ 32
lasting s ids round count last n = elim (cases_lt n (length ids)) [
  | inl inside ↦ last n 0 inside
  | inr past ↦
      let none : id_at ids n ≡ 0 = get_or_past ids n 0 (omega (arith, past)) in
      let first = last 0 0 (omega (arith, count)) in
      omega (arith, none, first)
]

abbrev AllLast : ℕ → ℕ → List ℕ → Type 0
AllLast events step ids = All (λ id. id + (2 * events + 1) * step < 2 ^ 32) ids

pub last-same : (n m k j : ℕ) (xs ys : List ℕ) → n ≡ m → k ≡ j → xs ≡ ys → AllLast n k xs → AllLast m j ys
last-same n m k j xs ys a b c last = subst (λ (p : ℕ × ℕ × List ℕ). AllLast p.0 p.1 p.2) (λ i. (a i, b i, c i)) last
