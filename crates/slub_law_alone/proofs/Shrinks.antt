-- A cache is shrunk in one way: so a trim and a shrink have one outcome.
use Rattle.std.proofs.Common.{◌≡◌, ℕ, ◌+◌, List, refl, sym, ◌∙◌, ap, arith, MatchOption}
use Rattle.slub_node_partial.specs.Promotion.{IsPromoted}
use Rattle.slub_node_partial.proofs.Promotions.{unique}
use Rattle.slub_cache_create.specs.declared.caches.Cache.{Cache}
use Rattle.slub_red_zone.specs.State.{CheckedState}
use Rattle.slub_red_zone.specs.Steps.{free_counts}
use Rattle.slub_trace.specs.declared.reply.Reply.{Reply}
use Rattle.slub_trace.specs.declared.reply.Reply.TheVariants.{Checked, NoSuchCache, Trimmed}
use Rattle.slub_lists.specs.State.{State}
use Rattle.slub_lists.specs.Alloc.{cache_of, checked_of, named, node_of, with_node}
use Rattle.slub_lists.specs.Checked.{with_checked}
use Rattle.slub_lists.specs.Shrink.{Promotes, PromotesChecked, ShrinksByKind, ShrinksCache, ShrinksChecked, ShrinksUnchecked, flushed_below, node_counts, slabs_of, swept, swept_checked}
use Rattle.slub_lists.specs.Trim.{TrimsCache}
use Rattle.slub_law_alone.specs.Outcome.{HasOneOutcome}
use Rattle.slub_law_alone.specs.Events.{FlushesHaveOneOutcome, TrimsHaveOneOutcome}
use Rattle.slub_law_alone.proofs.Steps.{exact, never, by_option}

-- ---- the order of the list

promoted_one : (s : State) (cache : ℕ) → HasOneOutcome (Unit {0}) State (λ done after. Promotes s cache after)
promoted_one s cache done done' left right a b =
    (refl, a.2 ∙ ap (with_node s cache) (unique (node_of s cache) (node_counts s cache) a.0 b.0 a.1 b.1) ∙ sym b.2)

-- the machine where the slabs of a checked cache are listed so
abbrev listed_so : State → ℕ → CheckedState → List ℕ → State
listed_so s cache slabs frames = with_checked s cache (record slabs { listed = frames })

listed_one : (s : State) (cache : ℕ) (slabs : CheckedState)
    → HasOneOutcome (Unit {0}) State (λ done after. (frames : List ℕ) × IsPromoted slabs.listed (free_counts slabs) frames × (after ≡ listed_so s cache slabs frames))
listed_one s cache slabs done done' left right a b =
    (refl, a.2 ∙ ap (listed_so s cache slabs) (unique slabs.listed (free_counts slabs) a.0 b.0 a.1 b.1) ∙ sym b.2)

promoted_checked_one : (s : State) (cache : ℕ) → HasOneOutcome (Unit {0}) State (λ done after. PromotesChecked s cache after)
promoted_checked_one s cache =
    by_option (Unit {0}) State CheckedState (checked_of s cache) (λ done after. ⊥)
    (λ slabs done after. (frames : List ℕ) × IsPromoted slabs.listed (free_counts slabs) frames × (after ≡ listed_so s cache slabs frames))
    (never (Unit {0}) State) (λ slabs. listed_one s cache slabs)

-- ---- the call

by_kind_one : (s : State) (cache : ℕ) → HasOneOutcome (Unit {0}) State (λ done after. ShrinksByKind s cache after)
by_kind_one s cache =
    by_option (Unit {0}) State Cache (cache_of s cache) (λ done after. ⊥)
    (λ live done after. MatchOption (checked_of s cache) (ShrinksUnchecked s live.layout.min_partial cache after) (λ slabs. ShrinksChecked s cache slabs after))
    (never (Unit {0}) State)
    (λ live. by_option (Unit {0}) State CheckedState (checked_of s cache) (λ done after. ShrinksUnchecked s live.layout.min_partial cache after)
    (λ slabs done after. ShrinksChecked s cache slabs after)
    (promoted_one (swept (flushed_below s live.layout.min_partial cache s.cpus) cache) cache)
    (λ slabs. promoted_checked_one (swept_checked s cache slabs) cache))

pub shrunk_same : (s : State) (cache : ℕ) (left right : State) → ShrinksCache s cache left → ShrinksCache s cache right → left ≡ right
shrunk_same s cache left right a b = (by_kind_one s cache tt tt left right a.steps b.steps).1

-- ---- trims and flushes

trimmed_one : (s : State) (cache : ℕ) → HasOneOutcome Reply State (TrimsCache s cache)
trimmed_one s cache one other left right a b =
    let same : left ≡ right = shrunk_same s cache left right a.2 b.2 in
    let slabs : slabs_of left cache ≡ slabs_of right cache = ap (λ (t : State). slabs_of t cache) same in
    let went : a.0 ≡ b.0 = discarded (slabs_of s cache) (slabs_of left cache) (slabs_of right cache) a.0 b.0 slabs a.3 b.3 in
    (a.1 ∙ ap (λ (n : ℕ). Trimmed n) went ∙ sym b.1, same)
  where
    discarded : (all left right m n : ℕ) → left ≡ right → all ≡ m + left → all ≡ n + right → m ≡ n
    discarded all left right m n same x y = omega (arith, same, x, y)

pub trims_one : TrimsHaveOneOutcome
trims_one s place =
    by_option Reply State ℕ (named s place) (λ reply after. (reply ≡ NoSuchCache) × (after ≡ s))
    (λ cache reply after. MatchOption (checked_of s cache) (TrimsCache s cache reply after) (λ slabs. (reply ≡ Checked) × (after ≡ s)))
    (exact Reply State NoSuchCache s)
    (λ cache. by_option Reply State CheckedState (checked_of s cache) (TrimsCache s cache) (λ slabs reply after. (reply ≡ Checked) × (after ≡ s))
    (trimmed_one s cache) (λ slabs. exact Reply State Checked s))

pub flushes_one : FlushesHaveOneOutcome
flushes_one s cpu one other left right a b = (a.moved ∙ sym b.moved, a.steps ∙ sym b.steps)
