-- One more cache in a trace that has room for it.
use Rattle.std.proofs.Common.{◌≡◌, ℕ, ◌+◌, ◌<◌, ◌≤◌, ◌==◌, Bool, true, false, List, [], ◌∷◌, ◌++◌, length, map, take, cond, refl, sym, ap, subst, ◌∙◌, arith, append_assoc}
use Rattle.std.specs.Prelude.{count_by, filter, IsPermutation}
use Rattle.std.proofs.lemmas.Bool.{eqb-true}
use Rattle.std.proofs.lemmas.List.{length-append, length-map, map-append, append-nil}
use Rattle.std.proofs.lemmas.List.Elements.{filter-append}
use Rattle.std.proofs.lemmas.List.Folds.{fold-map}
use Rattle.std.proofs.lemmas.List.Sums.{length-filter, sum_by-append}
use Rattle.std.proofs.lemmas.List.Sorted.{IsPermutation-append_left, IsPermutation-append_right, IsPermutation-append_comm, IsPermutation-refl, IsPermutation-trans}
use Rattle.slub_recorded.specs.declared.groups.Chosen.{Chosen}
use Rattle.slub_recorded.specs.declared.groups.Split.{Split}
use Rattle.slub_recorded.specs.declared.text.Row.{Row}
use Rattle.slub_recorded.specs.Groups.{AreApart, FitTrace, IsSplit, frames_of, letters_of, row_of, unlettered}

sums : (slot : ℕ) (cs : List Chosen) → count_by (λ (r : Row). r.slot == slot) (map row_of cs) ≡ count_by (λ (c : Chosen). c.cache.slot == slot) cs
sums slot cs = fold-map (λ a (r : Row). a + cond (r.slot == slot) 1 0) row_of 0 cs

letters_count : (slot : ℕ) (cs : List Chosen) → length (letters_of slot (map row_of cs)) ≡ count_by (λ (c : Chosen). c.cache.slot == slot) cs
unfolding letters_of
letters_count slot cs =
    let p : Row → Bool = λ r. r.slot == slot in
    length-map (filter p (map row_of cs)) (λ (r : Row). r.reclaim) ∙ length-filter p (map row_of cs) ∙ sums slot cs

letters_append : (slot : ℕ) (xs ys : List Row) → letters_of slot (xs ++ ys) ≡ letters_of slot xs ++ letters_of slot ys
unfolding letters_of
letters_append slot xs ys =
    let p : Row → Bool = λ r. r.slot == slot in
    let letter : Row → Bool = λ r. r.reclaim in
    ap (map letter) (filter-append p xs ys) ∙ map-append letter (filter p xs) (filter p ys)

one : (r : Row) (b : Bool) → map (λ (x : Row). x.reclaim) (cond b (r ∷ []) []) ≡ cond b (r.reclaim ∷ []) []
one r true = refl
one r false = refl

letters_one : (slot : ℕ) (r : Row) → letters_of slot (r ∷ []) ≡ cond (r.slot == slot) (r.reclaim ∷ []) []
unfolding letters_of
letters_one slot r = one r (r.slot == slot)

front : (ls : List Bool) (b : Bool) → ls ≡ take (length ls) (false ∷ true ∷ []) → length ls < 2 → b ≡ (length ls == 1) → ls ++ b ∷ [] ≡ take (length (ls ++ b ∷ [])) (false ∷ true ∷ [])
front [] b is less letter = ap (λ x. x ∷ []) letter
front (x ∷ []) b is less letter = ap (λ (l : List Bool). l ++ b ∷ []) is ∙ ap (λ y. false ∷ y ∷ []) letter
front (x ∷ y ∷ ls) b is less letter = absurd (omega arith)

with_one : (c : Chosen) (slot : ℕ) (b : Bool) → (c.cache.slot == slot) ≡ b → (ls : List Bool) → ls ≡ take (length ls) (false ∷ true ∷ []) → (c.cache.slot ≡ slot → length ls < 2) → (c.cache.slot ≡ slot → c.second ≡ (length ls == 1))
    → ls ++ cond b (c.second ∷ []) [] ≡ take (length (ls ++ cond b (c.second ∷ []) [])) (false ∷ true ∷ [])
with_one c slot true same ls is less letter = front ls c.second is (less (eqb-true c.cache.slot slot same)) (letter (eqb-true c.cache.slot slot same))
with_one c slot false same ls is less letter =
    let P : List Bool → Type 0 = λ l. l ≡ take (length l) (false ∷ true ∷ []) in
    subst P (sym (append-nil ls)) is

apart_more : (taken : List Chosen) (c : Chosen) (same : ℕ) → AreApart (map row_of taken) → same ≡ count_by (λ (o : Chosen). o.cache.slot == c.cache.slot) taken → same < 2 → c.second ≡ (same == 1) → AreApart (map row_of (taken ++ c ∷ []))
unfolding AreApart
apart_more taken c same apart is less letter slot =
    let ls : List Bool = letters_of slot (map row_of taken) in
    let P : List Bool → Type 0 = λ l. l ≡ take (length l) (false ∷ true ∷ []) in
    let whole : letters_of slot (map row_of (taken ++ c ∷ [])) ≡ ls ++ cond (c.cache.slot == slot) (c.second ∷ []) [] =
    ap (letters_of slot) (map-append row_of taken (c ∷ [])) ∙ letters_append slot (map row_of taken) (row_of c ∷ []) ∙ ap (λ l. ls ++ l) (letters_one slot (row_of c)) in
    let Q : ℕ → Type 0 = λ s. length (letters_of s (map row_of taken)) ≡ same in
    let long : c.cache.slot ≡ slot → length ls ≡ same = λ at. subst Q at (letters_count c.cache.slot taken ∙ sym is) in
    let N : ℕ → Type 0 = λ n. n < 2 in
    subst P (sym whole) (with_one c slot (c.cache.slot == slot) refl ls (apart slot) (λ at. subst N (sym (long at)) less) (λ at. letter ∙ ap (λ n. n == 1) (sym (long at))))

frames_more : (taken : List Chosen) (c : Chosen) → frames_of (taken ++ c ∷ []) ≡ frames_of taken + c.frames
unfolding frames_of
frames_more taken c =
    let more = sum_by-append (λ (o : Chosen). o.frames) taken (c ∷ []) in omega (arith, more)

pub nothing : FitTrace []
unfolding AreApart letters_of frames_of
nothing = record { few = omega arith; apart = λ slot. refl; frames = omega arith }

pub none_yet : (split : Split) → split.taken.items ≡ [] → split.frames ≡ 0 → split.others.items ≡ [] → IsSplit [] split
unfolding frames_of
none_yet split taken frames others =
    let P : List Chosen → List Chosen → Type 0 = λ t o. IsPermutation [] (map unlettered t ++ map unlettered o) in
    let O : List Chosen → Type 0 = λ o. P [] o in
    let T : List Chosen → Type 0 = λ t. P t split.others.items in
    record {
      all = subst T (sym taken) (subst O (sym others) (IsPermutation-refl []));
      frames = frames ∙ ap frames_of (sym taken);
      fits = subst FitTrace (sym taken) nothing;
    }

fits_more : (taken : List Chosen) (c : Chosen) (same : ℕ) → FitTrace taken → length taken < 32 → same ≡ count_by (λ (o : Chosen). o.cache.slot == c.cache.slot) taken → same < 2 → c.second ≡ (same == 1) → frames_of taken + c.frames ≤ 4095 → FitTrace (taken ++ c ∷ [])
fits_more taken c same fits room is less letter sum =
    let more = frames_more taken c in
    let long = length-append taken (c ∷ []) in
    record { few = omega (arith, long, room); apart = apart_more taken c same fits.apart is less letter; frames = omega (arith, more, sum) }

-- what is given and what became of it, with one more among the others
later : (given taken others : List Chosen) (c : Chosen) → IsPermutation (map unlettered given) (map unlettered taken ++ map unlettered others)
    → IsPermutation (map unlettered (given ++ c ∷ [])) (map unlettered taken ++ map unlettered (others ++ c ∷ []))
later given taken others c all =
    let l = unlettered c ∷ [] in
    let P : List Chosen → Type 0 = λ g. IsPermutation g (map unlettered taken ++ map unlettered (others ++ c ∷ [])) in
    let Q : List Chosen → Type 0 = λ h. IsPermutation (map unlettered given ++ l) h in
    subst P (sym (map-append unlettered given (c ∷ [])))
    (subst Q (append_assoc (map unlettered taken) (map unlettered others) l ∙ ap (λ h. map unlettered taken ++ h) (sym (map-append unlettered others (c ∷ []))))
    (IsPermutation-append_left l (map unlettered given) (map unlettered taken ++ map unlettered others) all))

-- .. and among those taken
sooner : (given taken others : List Chosen) (c d : Chosen) → unlettered d ≡ unlettered c → IsPermutation (map unlettered given) (map unlettered taken ++ map unlettered others)
    → IsPermutation (map unlettered (given ++ c ∷ [])) (map unlettered (taken ++ d ∷ []) ++ map unlettered others)
sooner given taken others c d plain all =
    let l = unlettered c ∷ [] in
    let t = map unlettered taken in
    let o = map unlettered others in
    let P : List Chosen → Type 0 = λ g. IsPermutation g (map unlettered (taken ++ d ∷ []) ++ o) in
    let Q : List Chosen → Type 0 = λ h. IsPermutation (map unlettered given ++ l) h in
    let moved : IsPermutation (map unlettered given ++ l) (t ++ (l ++ o)) =
    IsPermutation-trans (map unlettered given ++ l) (t ++ (o ++ l)) (t ++ (l ++ o))
    (subst Q (append_assoc t o l) (IsPermutation-append_left l (map unlettered given) (t ++ o) all)) (IsPermutation-append_right t (o ++ l) (l ++ o) (IsPermutation-append_comm o l)) in
    subst P (sym (map-append unlettered given (c ∷ [])))
    (subst Q (sym (append_assoc t l o) ∙ ap (λ h. h ++ o) (ap (λ x. t ++ x ∷ []) (sym plain) ∙ sym (map-append unlettered taken (d ∷ [])))) moved)

pub left : (given : List Chosen) (old new : Split) (c : Chosen) → IsSplit given old → new.taken.items ≡ old.taken.items → new.frames ≡ old.frames → new.others.items ≡ old.others.items ++ c ∷ [] → IsSplit (given ++ c ∷ []) new
left given old new c is taken frames others =
    let P : List Chosen → List Chosen → Type 0 = λ t o. IsPermutation (map unlettered (given ++ c ∷ [])) (map unlettered t ++ map unlettered o) in
    let O : List Chosen → Type 0 = λ o. P old.taken.items o in
    let T : List Chosen → Type 0 = λ t. P t new.others.items in
    record {
      all = subst T (sym taken) (subst O (sym others) (later given old.taken.items old.others.items c is.all));
      frames = frames ∙ is.frames ∙ ap frames_of (sym taken);
      fits = subst FitTrace (sym taken) is.fits;
    }

pub took : (given : List Chosen) (old new : Split) (c d : Chosen) (same : ℕ) → IsSplit given old → unlettered d ≡ unlettered c → d.cache.slot ≡ c.cache.slot → d.frames ≡ c.frames → d.second ≡ (same == 1)
    → same ≡ count_by (λ (o : Chosen). o.cache.slot == c.cache.slot) old.taken.items → same < 2 → length old.taken.items < 32 → new.frames ≡ old.frames + c.frames → new.frames ≤ 4095
    → new.taken.items ≡ old.taken.items ++ d ∷ [] → new.others.items ≡ old.others.items → IsSplit (given ++ c ∷ []) new
took given old new c d same is plain slot frame letter count less room sum most taken others =
    let P : List Chosen → List Chosen → Type 0 = λ t o. IsPermutation (map unlettered (given ++ c ∷ [])) (map unlettered t ++ map unlettered o) in
    let O : List Chosen → Type 0 = λ o. P (old.taken.items ++ d ∷ []) o in
    let T : List Chosen → Type 0 = λ t. P t new.others.items in
    let more = frames_more old.taken.items d in
    let at = is.frames in
    let now : new.frames ≡ frames_of (old.taken.items ++ d ∷ []) = omega (arith, more, at, sum, frame) in
    let S : ℕ → Type 0 = λ s. same ≡ count_by (λ (o : Chosen). o.cache.slot == s) old.taken.items in
    record {
      all = subst T (sym taken) (subst O (sym others) (sooner given old.taken.items old.others.items c d plain is.all));
      frames = now ∙ ap frames_of (sym taken);
      fits = subst FitTrace (sym taken) (fits_more old.taken.items d same is.fits room (subst S (sym slot) count) less letter (omega (arith, more, now, most)));
    }
