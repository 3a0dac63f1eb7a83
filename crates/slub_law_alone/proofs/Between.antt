-- A shrink, the end of a name and a setting have one outcome.
use Rattle.std.proofs.Common.{◌≡◌, ℕ, Bool, List, None, Ok, Err, refl, sym, ◌∙◌, ap, arith, MatchOption}
use Rattle.slub_object_layout.specs.declared.layout.Setting.{Setting}
use Rattle.slub_cache_create.specs.Table.{number_of}
use Rattle.slub_trace.specs.declared.destroy.Destroyed.TheVariants.{NameDropped, Gone}
use Rattle.slub_trace.specs.declared.destroy.DestroyRefusal.TheVariants as destroy
use Rattle.slub_trace.specs.declared.tune.TuneRefusal.TheVariants as tune
use Rattle.slub_lists.specs.State.{State}
use Rattle.slub_lists.specs.Destroy.{DropsName, Goes, IsBusy, without}
use Rattle.slub_lists.specs.Shrink.{ShrinksCache, has_slab}
use Rattle.slub_lists.specs.Tune.{IsRefused, TunesCache}
use Rattle.slub_law_alone.specs.Items.{DestructionsHaveOneOutcome, SettingsHaveOneOutcome, ShrinksHaveOneOutcome}
use Rattle.slub_law_alone.proofs.Steps.{of_both, of_none}
use Rattle.slub_law_alone.proofs.Shrinks.{shrunk_same}

-- ---- a shrink

pub shrinks_one : ShrinksHaveOneOutcome
shrinks_one s name (Err x) (Err y) left right a b = (refl, a.1 ∙ sym b.1)
shrinks_one s name (Err x) (Ok y) left right a b = absurd (of_none ℕ (number_of s.table name) (λ cache. ShrinksCache s cache right × (y ≡ has_slab right cache)) a.0 b)
shrinks_one s name (Ok x) (Err y) left right a b = absurd (of_none ℕ (number_of s.table name) (λ cache. ShrinksCache s cache left × (x ≡ has_slab left cache)) b.0 a)
shrinks_one s name (Ok x) (Ok y) left right a b =
    let both = of_both ℕ (number_of s.table name) (λ cache. ShrinksCache s cache left × (x ≡ has_slab left cache)) (λ cache. ShrinksCache s cache right × (y ≡ has_slab right cache)) a b in
    let same : left ≡ right = shrunk_same s both.0 left right both.1.0 both.2.0 in
    (ap (λ (remain : Bool). Ok remain) (both.1.1 ∙ ap (λ (t : State). has_slab t both.0) same ∙ sym both.2.1), same)

-- ---- the end of a name

module _ (s : State) (name : List ℕ) where
  -- no two of these are told of one cache
  drops_busy : (cache objects : ℕ) (left right : State) → DropsName s name cache left → IsBusy s cache objects right → ⊥
  drops_busy cache objects left right a b = omega (arith, a.0, b.0)

  drops_goes : (cache : ℕ) (left right : State) → DropsName s name cache left → Goes s name cache right → ⊥
  drops_goes cache left right a b = omega (arith, a.0, b.0)

  busy_goes : (cache objects : ℕ) (left right : State) → IsBusy s cache objects left → Goes s name cache right → ⊥
  busy_goes cache objects left right a b = omega (arith, a.1, a.2, b.1)

  goes_same : (cache : ℕ) (left right : State) → Goes s name cache left → Goes s name cache right → left ≡ right
  goes_same cache left right a b = a.5 ∙ ap (λ (t : State). without t name cache) (shrunk_same s cache a.2 b.2 a.3 b.3) ∙ sym b.5

  -- the cache that the name names
  both : (P Q : ℕ → Type 0) → MatchOption (number_of s.table name) ⊥ P → MatchOption (number_of s.table name) ⊥ Q → (cache : ℕ) × P cache × Q cache
  both P Q a b = of_both ℕ (number_of s.table name) P Q a b

  -- it names none
  nobody : (P : ℕ → Type 0) → number_of s.table name ≡ None → MatchOption (number_of s.table name) ⊥ P → ⊥
  nobody P none a = of_none ℕ (number_of s.table name) P none a

pub destructions_one : DestructionsHaveOneOutcome
destructions_one s name (Err destroy.NoSuchCache) (Err destroy.NoSuchCache) left right a b = (refl, a.1 ∙ sym b.1)
destructions_one s name (Err destroy.NoSuchCache) (Err (destroy.Busy n)) left right a b = absurd (nobody s name (λ cache. IsBusy s cache n right) a.0 b)
destructions_one s name (Err destroy.NoSuchCache) (Ok NameDropped) left right a b = absurd (nobody s name (λ cache. DropsName s name cache right) a.0 b)
destructions_one s name (Err destroy.NoSuchCache) (Ok Gone) left right a b = absurd (nobody s name (λ cache. Goes s name cache right) a.0 b)
destructions_one s name (Err (destroy.Busy m)) (Err destroy.NoSuchCache) left right a b = absurd (nobody s name (λ cache. IsBusy s cache m left) b.0 a)
destructions_one s name (Err (destroy.Busy m)) (Err (destroy.Busy n)) left right a b =
    let c = both s name (λ cache. IsBusy s cache m left) (λ cache. IsBusy s cache n right) a b in
    (ap (λ (n : ℕ). Err (destroy.Busy n)) (c.1.2 ∙ sym c.2.2), c.1.3 ∙ sym c.2.3)
destructions_one s name (Err (destroy.Busy m)) (Ok NameDropped) left right a b =
    let c = both s name (λ cache. IsBusy s cache m left) (λ cache. DropsName s name cache right) a b in absurd (drops_busy s name c.0 m right left c.2 c.1)
destructions_one s name (Err (destroy.Busy m)) (Ok Gone) left right a b =
    let c = both s name (λ cache. IsBusy s cache m left) (λ cache. Goes s name cache right) a b in absurd (busy_goes s name c.0 m left right c.1 c.2)
destructions_one s name (Ok NameDropped) (Err destroy.NoSuchCache) left right a b = absurd (nobody s name (λ cache. DropsName s name cache left) b.0 a)
destructions_one s name (Ok NameDropped) (Err (destroy.Busy n)) left right a b =
    let c = both s name (λ cache. DropsName s name cache left) (λ cache. IsBusy s cache n right) a b in absurd (drops_busy s name c.0 n left right c.1 c.2)
destructions_one s name (Ok NameDropped) (Ok NameDropped) left right a b =
    let c = both s name (λ cache. DropsName s name cache left) (λ cache. DropsName s name cache right) a b in (refl, c.1.1 ∙ sym c.2.1)
destructions_one s name (Ok NameDropped) (Ok Gone) left right a b =
    let c = both s name (λ cache. DropsName s name cache left) (λ cache. Goes s name cache right) a b in absurd (drops_goes s name c.0 left right c.1 c.2)
destructions_one s name (Ok Gone) (Err destroy.NoSuchCache) left right a b = absurd (nobody s name (λ cache. Goes s name cache left) b.0 a)
destructions_one s name (Ok Gone) (Err (destroy.Busy n)) left right a b =
    let c = both s name (λ cache. Goes s name cache left) (λ cache. IsBusy s cache n right) a b in absurd (busy_goes s name c.0 n right left c.2 c.1)
destructions_one s name (Ok Gone) (Ok NameDropped) left right a b =
    let c = both s name (λ cache. Goes s name cache left) (λ cache. DropsName s name cache right) a b in absurd (drops_goes s name c.0 right left c.2 c.1)
destructions_one s name (Ok Gone) (Ok Gone) left right a b =
    let c = both s name (λ cache. Goes s name cache left) (λ cache. Goes s name cache right) a b in (refl, goes_same s name c.0 left right c.1 c.2)

-- ---- a setting

module _ (s : State) (name : List ℕ) (setting : Setting) where
  abbrev Refuses : State → ℕ → Type 0
  Refuses after cache = IsRefused s cache setting × (after ≡ s)

  abbrev Sets : State → ℕ → Type 0
  Sets after cache = (¬ IsRefused s cache setting) × TunesCache s cache setting after

pub settings_one : SettingsHaveOneOutcome
settings_one s name setting (Err tune.NoSuchCache) (Err tune.NoSuchCache) left right a b = (refl, a.1 ∙ sym b.1)
settings_one s name setting (Err tune.NoSuchCache) (Err tune.Checked) left right a b = absurd (nobody s name (λ cache. Refuses s name setting right cache) a.0 b)
settings_one s name setting (Err tune.NoSuchCache) (Ok y) left right a b = absurd (nobody s name (λ cache. Sets s name setting right cache) a.0 b)
settings_one s name setting (Err tune.Checked) (Err tune.NoSuchCache) left right a b = absurd (nobody s name (λ cache. Refuses s name setting left cache) b.0 a)
settings_one s name setting (Err tune.Checked) (Err tune.Checked) left right a b =
    let c = both s name (λ cache. Refuses s name setting left cache) (λ cache. Refuses s name setting right cache) a b in (refl, c.1.1 ∙ sym c.2.1)
settings_one s name setting (Err tune.Checked) (Ok y) left right a b =
    let c = both s name (λ cache. Refuses s name setting left cache) (λ cache. Sets s name setting right cache) a b in absurd (c.2.0 c.1.0)
settings_one s name setting (Ok x) (Err tune.NoSuchCache) left right a b = absurd (nobody s name (λ cache. Sets s name setting left cache) b.0 a)
settings_one s name setting (Ok x) (Err tune.Checked) left right a b =
    let c = both s name (λ cache. Sets s name setting left cache) (λ cache. Refuses s name setting right cache) a b in absurd (c.1.0 c.2.0)
settings_one s name setting (Ok x) (Ok y) left right a b =
    let c = both s name (λ cache. Sets s name setting left cache) (λ cache. Sets s name setting right cache) a b in (refl, c.1.1.steps ∙ sym c.2.1.steps)
