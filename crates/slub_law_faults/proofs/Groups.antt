-- The caches of a recording make one grouping.
use Rattle.std.proofs.Common.{◌≡◌, ℕ, ◌*◌, ◌^◌, ◌<◌, false, List, [], ◌∷◌, ◌++◌, map, get_or, refl, sym, ap, subst, ◌∙◌, arith, inl, inr, Option, Some, None, true≢false, Ordering}
use Rattle.std.specs.Prelude.{All}
use Rattle.std.specs.Int.{div_ceil}
use Rattle.std.specs.List.Sorted.{IsSorted}
use Rattle.std.specs.Ordering.{is_lt, nat_cmp, ordering_reverse, ordering_then}
use Rattle.std.specs.Cmp.Lexicographic.{slice_cmp}
use Rattle.std.specs.declared.cmp.Ordering.TheVariants.{Less, Equal, Greater}
use Rattle.std.proofs.lemmas.Bool.{cases_lt}
use Rattle.std.proofs.lemmas.Cmp.{tied_itself}
use Rattle.std.proofs.lemmas.List.Elements.{All-contains, All-head, All-map, All-tail, Contains-append_left, Contains-append_right, Contains-get_or}
use Rattle.std.proofs.lemmas.List.Sorted.{All-permutation, ranks_by, sorted_far}
use Rattle.slub_object_layout.specs.declared.layout.Layout.{Layout}
use Rattle.slub_object_layout.proofs.Unique.{layouts_same}
use Rattle.slub_recording.specs.declared.recording.Recording.{Recording}
use Rattle.slub_recorded.specs.declared.groups.Cache.{Cache}
use Rattle.slub_recorded.specs.Caches.{cache_of}
use Rattle.slub_recorded.specs.Converted.{caches, titles}
use Rattle.slub_recorded.specs.Members.{AreGrouped, ArePlaced, IsFirstRoom, IsNeed, IsPlaced, IsTooLarge, Member, Need, cache_cmp, spec_of}
use Rattle.slub_recorded.specs.Pairing.{seen}
use Rattle.slub_recorded.proofs.Framed.{cache_cmp_total}
use Rattle.slub_recorded.proofs.Shown.{own_name}
use Rattle.slub_law_faults.proofs.Sorted.{Least, behind, least, names-tied, same-lists, there, times, times-append, times-moved}

-- ---- frames

frames_in : Cache → Layout → ℕ
frames_in cache layout = div_ceil cache.most layout.objects * 2 ^ layout.order

-- a cache needs one number of frames
frames-same : (cpus : ℕ) (cache : Cache) (a b : ℕ) → IsNeed cpus cache a → IsNeed cpus cache b → a ≡ b
unfolding frames_in
frames-same cpus cache a b one other =
    let same : one.layout ≡ other.layout = layouts_same (spec_of cache.slot) cpus one.layout other.layout one.laid other.laid in
    let frames : frames_in cache one.layout ≡ frames_in cache other.layout = ap (frames_in cache) same in
    one.frames_are ∙ frames ∙ sym other.frames_are

-- ---- their order

neither : (o p : Ordering) → o ≡ ordering_reverse p → is_lt o ≡ false → is_lt p ≡ false → o ≡ Equal
neither Less p back a b = absurd (true≢false a)
neither Equal p back a b = refl
neither Greater Less back a b = absurd (true≢false b)
neither Greater Equal back a b = absurd cc
neither Greater Greater back a b = absurd cc

second : (o p : Ordering) → ordering_then o p ≡ Equal → p ≡ Equal
second Less p e = absurd cc
second Equal p e = e
second Greater p e = absurd cc

-- caches of which neither stands first have one name
tied : (x y : Cache) → is_lt (cache_cmp x y) ≡ false → is_lt (cache_cmp y x) ≡ false → x.name ≡ y.name
tied x y a b =
    let e : cache_cmp x y ≡ Equal = neither (cache_cmp x y) (cache_cmp y x) (cache_cmp_total.antisymm x y) a b in
    names-tied x.name y.name (second (nat_cmp y.objects x.objects) (slice_cmp nat_cmp x.name y.name) e)

still : (x : Cache) → is_lt (cache_cmp x x) ≡ false
still x = ap is_lt (tied_itself cache_cmp_total x)

in-order : (cs : List Cache) → IsSorted cache_cmp cs → Least (λ x y. is_lt (cache_cmp x y)) cs
in-order cs up =
    least (λ x y. is_lt (cache_cmp x y)) cs (λ i j d le less. sorted_far (λ x y. is_lt (cache_cmp x y)) (ranks_by cache_cmp_total (λ (x : Cache). x)) cs up i j d le less)

-- ---- how often a name stands among them

left-part : {X : Type 0} (P : X → Type 0) (xs ys : List X) → All P (xs ++ ys) → All P xs
left-part P xs ys all k d less = All-contains P (xs ++ ys) (get_or xs k d) all (Contains-append_left xs ys (get_or xs k d) (Contains-get_or xs k d less))

right-part : {X : Type 0} (P : X → Type 0) (xs ys : List X) → All P (xs ++ ys) → All P ys
right-part P xs ys all k d less = All-contains P (xs ++ ys) (get_or ys k d) all (Contains-append_right xs ys (get_or ys k d) (Contains-get_or ys k d less))

abbrev name : Cache → List ℕ
name cache = cache.name

abbrev cache_in : Member → Cache
cache_in member = member.need.cache

-- of these caches each is the one of its name
abbrev Own : (List ℕ → Cache) → Cache → Type 0
Own f cache = cache ≡ f cache.name

module _ (cpus : ℕ) (cs : List Cache) (f : List ℕ → Cache) (own : All (Own f) cs) where
  own-all : (ms : List Member) (are : AreGrouped cpus cs ms) → All (Own f) (map cache_in ms ++ are.others)
  own-all ms are = All-permutation (Own f) cs (map cache_in ms ++ are.others) are.all own

  own-in : (ms : List Member) → AreGrouped cpus cs ms → All (Own f) (map cache_in ms)
  own-in ms are = left-part (Own f) (map cache_in ms) are.others (own-all ms are)

  -- the name of a cache that has frames is that of none without
  none-large : (ms : List Member) (are : AreGrouped cpus cs ms) (n : List ℕ) (cache : Cache) (frames : ℕ) → IsNeed cpus cache frames → cache ≡ f n → times name n are.others ≡ 0
  none-large ms are n cache frames need is =
      elim (cases_lt 0 (times name n are.others)) [
        | inl some ↦
            let one = there name n are.others some in
            let mine : one.0 ≡ f one.0.name = All-contains (Own f) are.others one.0 (right-part (Own f) (map cache_in ms) are.others (own-all ms are)) one.1 in
            let same : one.0 ≡ cache = mine ∙ ap f one.2 ∙ sym is in
            let N : Cache → Type 0 = λ c. IsNeed cpus c frames in
            absurd (All-contains (IsTooLarge cpus) are.others one.0 are.too_large one.1 frames (subst N (sym same) need))
        | inr none ↦ omega (arith, none)
      ]

  -- it stands among the members as often as among all
  stands : (ms : List Member) (are : AreGrouped cpus cs ms) (n : List ℕ) (cache : Cache) (frames : ℕ) → IsNeed cpus cache frames → cache ≡ f n → times name n (map cache_in ms) ≡ times name n cs
  stands ms are n cache frames need is =
      let all = times-moved name n cs (map cache_in ms ++ are.others) are.all in
      omega (arith, all, times-append name n (map cache_in ms) are.others, none-large ms are n cache frames need is)

  -- a name that stands among the members is of a cache that has frames
  needed : (ms : List Member) → AreGrouped cpus cs ms → (n : List ℕ) → 0 < times name n (map cache_in ms) → (cache : Cache) × (frames : ℕ) × IsNeed cpus cache frames × (cache ≡ f n)
  needed ms are n some =
      let P : Cache → Type 0 = λ c. (frames : ℕ) × IsNeed cpus c frames in
      let one = there name n (map cache_in ms) some in
      let need : P one.0 = All-contains P (map cache_in ms) one.0 (All-map P cache_in ms (λ k d less. ((get_or ms k d).need.frames, are.needs k d less))) one.1 in
      let mine : one.0 ≡ f one.0.name = All-contains (Own f) (map cache_in ms) one.0 (own-in ms are) one.1 in
      (one.0, need.0, need.1, mine ∙ ap f one.2)

  as-often : (ms os : List Member) → AreGrouped cpus cs ms → AreGrouped cpus cs os → (n : List ℕ) → times name n (map cache_in ms) ≡ times name n (map cache_in os)
  as-often ms os one other n =
      elim (cases_lt 0 (times name n (map cache_in ms))) [
        | inl some ↦ let w = needed ms one n some in stands ms one n w.0 w.1 w.2 w.3 ∙ sym (stands os other n w.0 w.1 w.2 w.3)
        | inr none ↦
            elim (cases_lt 0 (times name n (map cache_in os))) [
              | inl some ↦ let w = needed os other n some in stands ms one n w.0 w.1 w.2 w.3 ∙ sym (stands os other n w.0 w.1 w.2 w.3)
              | inr nothing ↦ omega (arith, none, nothing)
            ]
      ]

  pub caches-same : (ms os : List Member) → AreGrouped cpus cs ms → AreGrouped cpus cs os → map cache_in ms ≡ map cache_in os
  caches-same ms os one other =
      same-lists name f (λ x y. is_lt (cache_cmp x y)) tied still (map cache_in ms) (map cache_in os) (in-order (map cache_in ms) one.ordered) (in-order (map cache_in os) other.ordered)
      (own-in ms one) (own-in os other) (as-often ms os one other)

-- ---- their frames and groups

needs-same : (cpus : ℕ) (ms os : List Member) → map cache_in ms ≡ map cache_in os → All (λ (m : Member). IsNeed cpus m.need.cache m.need.frames) ms → All (λ (m : Member). IsNeed cpus m.need.cache m.need.frames) os
    → map (λ (m : Member). m.need) ms ≡ map (λ (m : Member). m.need) os
needs-same cpus [] [] same a b = refl
needs-same cpus [] (o ∷ os) same a b = absurd cc
needs-same cpus (m ∷ ms) [] same a b = absurd cc
needs-same cpus (m ∷ ms) (o ∷ os) same a b =
    let P : Member → Type 0 = λ x. IsNeed cpus x.need.cache x.need.frames in
    let N : Cache → Type 0 = λ c. IsNeed cpus c m.need.frames in
    let cache : m.need.cache ≡ o.need.cache = ap (λ (l : List Cache). get_or l 0 m.need.cache) same in
    let frames : m.need.frames ≡ o.need.frames = frames-same cpus o.need.cache m.need.frames o.need.frames (subst N cache (All-head P m ms a)) (All-head P o os b) in
    let rest : map (λ (x : Member). x.need) ms ≡ map (λ (x : Member). x.need) os = needs-same cpus ms os (ap behind same) (All-tail P m ms a) (All-tail P o os b) in
    λ i. record { cache = cache i; frames = frames i } ∷ rest i

-- of two groups the first that has room isn't behind the other
not-before : (before : List Member) (need : Need) (k j : ℕ) → IsFirstRoom before need k → IsFirstRoom before need j → k < j → ⊥
not-before before need k j one other less = true≢false (sym one.room ∙ other.first k one.from_one less)

group-same : (before : List Member) (need : Need) (g h : Option ℕ) → IsPlaced before need g → IsPlaced before need h → g ≡ h
group-same before need None None none also = refl
group-same before need None (Some j) none there = absurd (true≢false (sym there.room ∙ none j there.from_one there.most))
group-same before need (Some k) None there none = absurd (true≢false (sym there.room ∙ none k there.from_one there.most))
group-same before need (Some k) (Some j) one other =
    let a : ¬ (k < j) = not-before before need k j one other in
    let b : ¬ (j < k) = not-before before need j k other one in
    let e : k ≡ j = omega (arith, a, b) in
    ap Some e

members-same : (before ms os : List Member) → map (λ (m : Member). m.need) ms ≡ map (λ (m : Member). m.need) os → ArePlaced before ms → ArePlaced before os → ms ≡ os
members-same before [] [] same a b = refl
members-same before [] (o ∷ os) same a b = absurd cc
members-same before (m ∷ ms) [] same a b = absurd cc
members-same before (m ∷ ms) (o ∷ os) same a b =
    let I : Need → Type 0 = λ n. IsPlaced before n m.group in
    let need : m.need ≡ o.need = ap (λ (l : List Need). get_or l 0 m.need) same in
    let group : m.group ≡ o.group = group-same before o.need m.group o.group (subst I need a.0) b.0 in
    let one : m ≡ o = λ i. record { need = need i; group = group i } in
    let A : Member → Type 0 = λ x. ArePlaced (before ++ x ∷ []) os in
    let rest : ms ≡ os = members-same (before ++ m ∷ []) ms os (ap behind same) a.1 (subst A (sym one) b.1) in
    λ i. one i ∷ rest i

-- ---- the grouping

pub groups-same : (recording : Recording) (cpus : ℕ) (ms os : List Member) → AreGrouped cpus (caches recording) ms → AreGrouped cpus (caches recording) os → ms ≡ os
groups-same recording cpus ms os one other =
    let objects = (seen recording.events).objects in
    let moves = (seen recording.events).moves in
    let same : map cache_in ms ≡ map cache_in os = caches-same cpus (caches recording) (cache_of (titles recording) objects moves) (own_name (titles recording) objects moves) ms os one other in
    members-same [] ms os (needs-same cpus ms os same one.needs other.needs) one.placed other.placed
