-- The page frames that caches need, and their order.
use Rattle.std.proofs.Common.{◌≡◌, ℕ, zero, suc, ◌+◌, ◌*◌, ◌%◌, ◌^◌, ◌<◌, ◌≤◌, List, [], ◌∷◌, ◌++◌, map, refl, sym, ap, subst, ◌∙◌, arith, append_assoc}
use Rattle.std.specs.Prelude.{IsPermutation}
use Rattle.std.specs.Cmp.{IsTotalOrder}
use Rattle.std.specs.Int.{div_ceil}
use Rattle.std.specs.List.Sorted.{IsSorted, IsSortedByKey}
use Rattle.std.specs.Ordering.{is_lt}
use Rattle.std.proofs.lemmas.Cmp.{then_total, back_total, on_total, nat_cmp_total, nat_list_cmp_total}
use Rattle.std.proofs.lemmas.List.{map-append, length-map, get_or-map}
use Rattle.std.proofs.lemmas.List.Elements.{All-nil, All-push}
use Rattle.std.proofs.lemmas.List.Sorted.{All-permutation, IsPermutation-append_left, IsPermutation-append_right, IsPermutation-append_comm, IsPermutation-map, IsPermutation-refl, IsPermutation-trans}
use Rattle.slub_object_layout.proofs.Unique.{layouts_same}
use Rattle.slub_object_layout.specs.declared.layout.Layout.{Layout}
use Rattle.slub_object_layout.specs.Layout.{IsLayout}
use Rattle.slub_recorded.specs.declared.groups.Cache.{Cache}
use Rattle.slub_recorded.specs.declared.groups.Chosen.{Chosen}
use Rattle.slub_recorded.specs.Members.{AreFramed, IsNeed, IsTooLarge, cache_cmp, spec_of}

-- ---- frames

frames_in : Cache → Layout → ℕ
frames_in cache layout = div_ceil cache.most layout.objects * 2 ^ layout.order

pub too_many : (cpus : ℕ) (cache : Cache) (layout : Layout) → IsLayout (spec_of cache.slot) cpus layout → 4095 < div_ceil cache.most layout.objects * 2 ^ layout.order → IsTooLarge cpus cache
unfolding frames_in
too_many cpus cache layout laid many frames need =
    let e : need.layout ≡ layout = layouts_same (spec_of cache.slot) cpus need.layout layout need.laid laid in
    let same : frames_in cache need.layout ≡ frames_in cache layout = ap (frames_in cache) e in
    let is : frames ≡ frames_in cache need.layout = need.frames_are in
    let few : frames ≤ 4095 = need.few in
    let more : 4095 < frames_in cache layout = many in
    absurd (omega (arith, same, is, few, more))

pub shifted : (n : ℕ) → n ≤ 3 → 1 * 2 ^ n % 4294967296 ≡ 2 ^ n
shifted zero h = refl
shifted (suc zero) h = refl
shifted (suc (suc zero)) h = refl
shifted (suc (suc (suc zero))) h = refl
shifted (suc (suc (suc (suc n)))) h = absurd (omega arith)

pub some_frames : (a n : ℕ) → n ≤ 3 → a ≤ a * 2 ^ n
some_frames a zero h = omega arith
some_frames a (suc zero) h = omega arith
some_frames a (suc (suc zero)) h = omega arith
some_frames a (suc (suc (suc zero))) h = omega arith
some_frames a (suc (suc (suc (suc n)))) h = absurd (omega arith)

-- ---- which caches have frames

pub none_framed : (cpus : ℕ) → AreFramed cpus [] []
none_framed cpus = record { others = []; all = IsPermutation-refl []; needs = All-nil (λ (one : Chosen). IsNeed cpus one.cache one.frames); too_large = All-nil (IsTooLarge cpus) }

pub framed_more : (cpus : ℕ) (given : List Cache) (chosen : List Chosen) (one : Chosen) → AreFramed cpus given chosen → IsNeed cpus one.cache one.frames → AreFramed cpus (given ++ one.cache ∷ []) (chosen ++ one ∷ [])
framed_more cpus given chosen one are need =
    let cache : Chosen → Cache = λ x. x.cache in
    let t = map cache chosen in
    let o = are.others in
    let l = one.cache ∷ [] in
    let Q : List Cache → Type 0 = λ h. IsPermutation (given ++ l) h in
    let moved : IsPermutation (given ++ l) (t ++ (l ++ o)) =
    IsPermutation-trans (given ++ l) (t ++ (o ++ l)) (t ++ (l ++ o))
    (subst Q (append_assoc t o l) (IsPermutation-append_left l given (t ++ o) are.all)) (IsPermutation-append_right t (o ++ l) (l ++ o) (IsPermutation-append_comm o l)) in
    record {
      others = o;
      all = subst Q (sym (append_assoc t l o) ∙ ap (λ (h : List Cache). h ++ o) (sym (map-append cache chosen (one ∷ [])))) moved;
      needs = All-push (λ (x : Chosen). IsNeed cpus x.cache x.frames) chosen one are.needs need;
      too_large = are.too_large;
    }

pub left_more : (cpus : ℕ) (given : List Cache) (chosen : List Chosen) (cache : Cache) → AreFramed cpus given chosen → IsTooLarge cpus cache → AreFramed cpus (given ++ cache ∷ []) chosen
left_more cpus given chosen cache are large =
    let t = map (λ (x : Chosen). x.cache) chosen in
    let l = cache ∷ [] in
    let Q : List Cache → Type 0 = λ h. IsPermutation (given ++ l) h in
    record {
      others = are.others ++ l;
      all = subst Q (append_assoc t are.others l) (IsPermutation-append_left l given (t ++ are.others) are.all);
      needs = are.needs;
      too_large = All-push (IsTooLarge cpus) are.others cache are.too_large large;
    }

pub reordered : (cpus : ℕ) (given : List Cache) (old new : List Chosen) → IsPermutation old new → AreFramed cpus given old → AreFramed cpus given new
reordered cpus given old new moved are =
    let cache : Chosen → Cache = λ x. x.cache in
    record {
      others = are.others;
      all = IsPermutation-trans given (map cache old ++ are.others) (map cache new ++ are.others) are.all (IsPermutation-append_left are.others (map cache old) (map cache new) (IsPermutation-map cache old new moved));
      needs = All-permutation (λ (x : Chosen). IsNeed cpus x.cache x.frames) old new moved are.needs;
      too_large = are.too_large;
    }

-- ---- their order

pub cache_cmp_total : IsTotalOrder cache_cmp
cache_cmp_total = then_total (back_total (on_total (λ (x : Cache). x.objects) nat_cmp_total)) (on_total (λ (x : Cache). x.name) nat_list_cmp_total)

pub sorted_map : {X : Type 0} (f : X → Cache) (xs : List X) → IsSortedByKey f cache_cmp xs → IsSorted cache_cmp (map f xs)
sorted_map f [] up k d low less = absurd (omega arith)
sorted_map f (x ∷ xs) up k d low less =
    let long = length-map (x ∷ xs) f in
    let a = get_or-map f (x ∷ xs) k x d (omega (arith, long, less)) in
    let b = get_or-map f (x ∷ xs) (k + 1) x d (omega (arith, long, less)) in
    (λ i. is_lt (cache_cmp (b i) (a i))) ∙ up k x low (omega (arith, long, less))
