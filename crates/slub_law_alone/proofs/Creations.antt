-- The creation of a cache has one outcome.
use Rattle.std.proofs.Common.{◌≡◌, ℕ, List, Option, Some, None, Ok, Err, refl, sym, ◌∙◌, ap, subst, arith, MatchOption}
use Rattle.slub_object_layout.specs.declared.layout.LayoutRefusal.TheVariants as refused
use Rattle.slub_object_layout.specs.declared.layout.Spec.{Spec}
use Rattle.slub_object_layout.specs.Layout.{IsAccepted, IsAlign, IsSize, IsSupported}
use Rattle.slub_cache_create.specs.declared.caches.Cache.{Cache}
use Rattle.slub_cache_create.specs.declared.caches.Created.{Created as Made}
use Rattle.slub_cache_create.specs.declared.caches.Created.TheVariants as made
use Rattle.slub_cache_create.specs.Create.{IsOpenTo}
use Rattle.slub_cache_create.specs.Table.{HasTitle, IsTaken, Table, cache_of as live_cache}
use Rattle.slub_cache_create.proofs.Unique.{creates_same}
use Rattle.slub_trace.specs.declared.create.Created.TheVariants.{New, Merged}
use Rattle.slub_trace.specs.declared.create.CreateRefusal.{CreateRefusal}
use Rattle.slub_trace.specs.declared.create.CreateRefusal.TheVariants as refusal
use Rattle.slub_lists.specs.State.{State}
use Rattle.slub_lists.specs.Create.{CreatesCache, IsCreated, with_new}
use Rattle.slub_slabinfo_text.specs.Lawful.{IsCreateRefusal}
use Rattle.slub_law_alone.specs.Outcome.{HasOneOutcome}
use Rattle.slub_law_alone.specs.Items.{CreationsHaveOneOutcome}
use Rattle.slub_law_alone.proofs.Steps.{never, by_option}

-- ---- the first cause of a refusal

module _ (s : State) (name : List ℕ) (spec : Spec) where
  abbrev Refused : CreateRefusal → Type 0
  Refused why = IsCreateRefusal s name spec why

  -- what is refused is not created
  pub not_open : (why : CreateRefusal) → Refused why → IsOpenTo s.table name → IsAccepted spec → ⊥
  not_open refusal.NameTaken a may ok = may.free a
  not_open refusal.TooMany a may ok = omega (arith, a.1, may.room)
  not_open (refusal.Layout refused.BadSize) a may ok = a.1 ok.size
  not_open (refusal.Layout refused.BadAlign) a may ok = a.2 ok.align
  not_open (refusal.Layout refused.BadFlags) a may ok = a.3 ok.flags

  of_taken : (why : CreateRefusal) → IsTaken s.table name → Refused why → refusal.NameTaken ≡ why
  of_taken refusal.NameTaken a b = refl
  of_taken refusal.TooMany a b = absurd (b.0 a)
  of_taken (refusal.Layout refused.BadSize) a b = absurd (b.0.free a)
  of_taken (refusal.Layout refused.BadAlign) a b = absurd (b.0.free a)
  of_taken (refusal.Layout refused.BadFlags) a b = absurd (b.0.free a)

  of_many : (why : CreateRefusal) → Refused refusal.TooMany → Refused why → refusal.TooMany ≡ why
  of_many refusal.NameTaken a b = absurd (a.0 b)
  of_many refusal.TooMany a b = refl
  of_many (refusal.Layout refused.BadSize) a b = absurd (omega (arith, a.1, b.0.room))
  of_many (refusal.Layout refused.BadAlign) a b = absurd (omega (arith, a.1, b.0.room))
  of_many (refusal.Layout refused.BadFlags) a b = absurd (omega (arith, a.1, b.0.room))

  of_size : (why : CreateRefusal) → IsOpenTo s.table name → ¬ IsSize spec.size → Refused why → refusal.Layout refused.BadSize ≡ why
  of_size refusal.NameTaken may a b = absurd (may.free b)
  of_size refusal.TooMany may a b = absurd (omega (arith, b.1, may.room))
  of_size (refusal.Layout refused.BadSize) may a b = refl
  of_size (refusal.Layout refused.BadAlign) may a b = absurd (a b.1)
  of_size (refusal.Layout refused.BadFlags) may a b = absurd (a b.1)

  of_align : (why : CreateRefusal) → IsOpenTo s.table name → IsSize spec.size → ¬ IsAlign spec.align → Refused why → refusal.Layout refused.BadAlign ≡ why
  of_align refusal.NameTaken may size a b = absurd (may.free b)
  of_align refusal.TooMany may size a b = absurd (omega (arith, b.1, may.room))
  of_align (refusal.Layout refused.BadSize) may size a b = absurd (b.1 size)
  of_align (refusal.Layout refused.BadAlign) may size a b = refl
  of_align (refusal.Layout refused.BadFlags) may size a b = absurd (a b.2)

  of_flags : (why : CreateRefusal) → IsOpenTo s.table name → IsSize spec.size → IsAlign spec.align → ¬ IsSupported spec.flags → Refused why → refusal.Layout refused.BadFlags ≡ why
  of_flags refusal.NameTaken may size align a b = absurd (may.free b)
  of_flags refusal.TooMany may size align a b = absurd (omega (arith, b.1, may.room))
  of_flags (refusal.Layout refused.BadSize) may size align a b = absurd (b.1 size)
  of_flags (refusal.Layout refused.BadAlign) may size align a b = absurd (b.2 align)
  of_flags (refusal.Layout refused.BadFlags) may size align a b = refl

  refusals_same : (one other : CreateRefusal) → Refused one → Refused other → one ≡ other
  refusals_same refusal.NameTaken other a b = of_taken other a b
  refusals_same refusal.TooMany other a b = of_many other a b
  refusals_same (refusal.Layout refused.BadSize) other a b = of_size other a.0 a.1 b
  refusals_same (refusal.Layout refused.BadAlign) other a b = of_align other a.0 a.1 a.2 b
  refusals_same (refusal.Layout refused.BadFlags) other a b = of_flags other a.0 a.1 a.2 a.3 b

  -- ---- the creation

  made_same : (created : Made) (table : Table) (left right : State) → IsCreated s created table left → IsCreated s created table right → left ≡ right
  made_same (made.Merged cache) table left right a b = a ∙ sym b
  made_same (made.New cache) table left right a b =
      (by_option (Unit {0}) State Cache (live_cache table cache) (λ done after. ⊥) (λ live done after. after ≡ with_new s table cache live) (never (Unit {0}) State)
      (λ live done done' left right a b. (refl, a ∙ sym b)) tt tt left right a b).1

  cache_one : HasOneOutcome Made State (CreatesCache s name spec)
  cache_one one other left right a b =
      let same = creates_same s.table name spec s.cpus one other a.0 b.0 a.1 b.1 in
      (same.0, made_same other b.0 left right (subst (λ (t : Table). IsCreated s other t left) same.1 (subst (λ (m : Made). IsCreated s m a.0 left) same.0 a.2)) b.2)

  -- the title of a live cache
  titles_same : (x : Option Cache) (a b : List ℕ) → MatchOption x ⊥ (λ live. live.title ≡ a) → MatchOption x ⊥ (λ live. live.title ≡ b) → a ≡ b
  titles_same None a b x y = absurd x
  titles_same (Some live) a b x y = sym x ∙ y

  new_same : (j k : ℕ) → made.New j ≡ made.New k → j ≡ k
  new_same j k e = cc

  merged_same : (j k : ℕ) → made.Merged j ≡ made.Merged k → j ≡ k
  merged_same j k e = cc

pub creations_one : CreationsHaveOneOutcome
creations_one s name spec (Ok (New j)) (Ok (New k)) left right a b =
    let same = cache_one s name spec (made.New j) (made.New k) left right a.2 b.2 in
    (ap (λ (n : ℕ). Ok (New n)) (new_same s name spec j k same.0), same.1)
creations_one s name spec (Ok (New j)) (Ok (Merged k title)) left right a b =
    absurd (let e : made.New j ≡ made.Merged k = (cache_one s name spec (made.New j) (made.Merged k) left right a.2 b.2).0 in cc)
creations_one s name spec (Ok (Merged j title)) (Ok (New k)) left right a b =
    absurd (let e : made.Merged j ≡ made.New k = (cache_one s name spec (made.Merged j) (made.New k) left right a.2 b.2).0 in cc)
creations_one s name spec (Ok (Merged j title)) (Ok (Merged k other)) left right a b =
    let same = cache_one s name spec (made.Merged j) (made.Merged k) left right a.2 b.2 in
    let numbers : j ≡ k = merged_same s name spec j k same.0 in
    let here : HasTitle s.table k title = subst (λ (n : ℕ). HasTitle s.table n title) numbers a.3 in
    let titles : title ≡ other = titles_same s name spec (live_cache s.table k) title other here b.3 in
    ((λ i. Ok (Merged (numbers i) (titles i))), same.1)
creations_one s name spec (Ok (New j)) (Err why) left right a b = absurd (not_open s name spec why b.0 a.0 a.1)
creations_one s name spec (Ok (Merged j title)) (Err why) left right a b = absurd (not_open s name spec why b.0 a.0 a.1)
creations_one s name spec (Err why) (Ok (New k)) left right a b = absurd (not_open s name spec why a.0 b.0 b.1)
creations_one s name spec (Err why) (Ok (Merged k title)) left right a b = absurd (not_open s name spec why a.0 b.0 b.1)
creations_one s name spec (Err why) (Err cause) left right a b = (ap (λ (w : CreateRefusal). Err w) (refusals_same s name spec why cause a.0 b.0), a.1 ∙ sym b.1)
