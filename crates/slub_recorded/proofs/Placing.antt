-- The caches of a recording, one title and one move after another.
use Rattle.std.proofs.Common.{◌≡◌, ℕ, zero, suc, ◌+◌, ◌-◌, ◌<◌, ◌≤◌, ◌≢◌, ◌==◌, Bool, true, false, ◌&&◌, ◌||◌, max, List, [], ◌∷◌, ◌++◌, length, map, take, get_or, set, cond, refl, sym, ap, subst, ◌∙◌, arith, slice_get, Option, None, Some}
use Rattle.std.specs.Prelude.{count_by, fold, nat_lt}
use Rattle.std.specs.Option.{option_map_or}
use Rattle.std.specs.List.{IsDistinct, list_any}
use Rattle.std.specs.Str.{bytes_eq}
use Rattle.std.proofs.lemmas.Bool.{false≢true}
use Rattle.std.proofs.lemmas.Bool.Decides.{nat_tests}
use Rattle.std.proofs.lemmas.Cmp.{nat_list_eq_equiv}
use Rattle.std.proofs.lemmas.List.{length-map, length-set, get_or-map, get_or-set_same, get_or-set_other, same_lists}
use Rattle.std.proofs.lemmas.List.Sums.{count_by-le-length, fold_push}
use Rattle.std.proofs.lemmas.Option.{get_or_from_slice_get, none-some, same_Some, slice_get_within}
use Rattle.std.proofs.lemmas.Map.Keys.{IsDistinct-push, apart_from_distinct}
use Rattle.indexmap.specs.IndexSet.{insert_all, insert_key}
use Rattle.slub_recorded.specs.declared.groups.Cache.{Cache}
use Rattle.slub_recorded.specs.declared.naming.Title.{Title}
use Rattle.slub_recorded.specs.declared.pairing.Born.{Born}
use Rattle.slub_recorded.specs.declared.pairing.Move.{Move}
use Rattle.slub_recorded.specs.Caches.{allocates, cache_of, caches_of, counted, is_alloc, is_of, live_behind, most_live, names_of, object_of, slot_of}

-- ---- how many live

live_le : (own : ℕ → Bool) (live : ℕ) (step : Move) → live_behind own live step ≤ live + 1
live_le own live step = by (own (object_of step)) (is_alloc step)
  where
    by : (a b : Bool) → cond a (cond b (live + 1) (live - 1)) live ≤ live + 1
    by true true = omega arith
    by true false = omega arith
    by false b = omega arith

live_bound : (own : ℕ → Bool) (live : ℕ) (ms : List Move) → fold (live_behind own) live ms ≤ live + length ms
live_bound own live [] = omega arith
live_bound own live (m ∷ ms) =
    let one = live_le own live m in
    let more = live_bound own (live_behind own live m) ms in
    omega (arith, one, more)

live_le_most : (own : ℕ → Bool) (live : ℕ) (ms : List Move) → fold (live_behind own) live ms ≤ most_live own live ms
live_le_most own live [] = omega arith
live_le_most own live (m ∷ ms) =
    let more = live_le_most own (live_behind own live m) ms in
    omega (arith, more)

most_more : (own : ℕ → Bool) (live : ℕ) (ms : List Move) (step : Move) → most_live own live (ms ++ step ∷ []) ≡ max (most_live own live ms) (fold (live_behind own) live (ms ++ step ∷ []))
most_more own live [] step = refl
most_more own live (m ∷ ms) step =
    let more = most_more own (live_behind own live m) ms step in
    omega (arith, more)

-- ---- one more move

same_cache : (a b : Cache) → a.name ≡ b.name → a.slot ≡ b.slot → a.objects ≡ b.objects → a.live ≡ b.live → a.most ≡ b.most → a ≡ b
same_cache a b n s o l m = λ i. record { name = n i; slot = s i; objects = o i; live = l i; most = m i }

pub other_move : (titles : List Title) (objects : List Born) (ms : List Move) (step : Move) (name : List ℕ) → is_of titles name (object_of step) ≡ false → cache_of titles objects (ms ++ step ∷ []) name ≡ cache_of titles objects ms name
other_move titles objects ms step name none =
    let own : ℕ → Bool = is_of titles name in
    let p : Move → Bool = allocates own in
    let live = fold (live_behind own) 0 ms in
    let no : p step ≡ false = ap (λ (b : Bool). is_alloc step && b) none ∙ and_no (is_alloc step) in
    let count : count_by p (ms ++ step ∷ []) ≡ count_by p ms + cond (p step) 1 0 = fold_push (λ (a : ℕ) (x : Move). a + cond (p x) 1 0) 0 ms step in
    let added : ◌≡◌ {A = ℕ} (cond (p step) 1 0) 0 = ap (λ (b : Bool). cond b 1 0) no in
    let lives : fold (live_behind own) 0 (ms ++ step ∷ []) ≡ live = fold_push (live_behind own) 0 ms step ∙ ap (λ (b : Bool). cond b (cond (is_alloc step) (live + 1) (live - 1)) live) none in
    let most = most_more own 0 ms step in
    let under = live_le_most own 0 ms in
    same_cache (cache_of titles objects (ms ++ step ∷ []) name) (cache_of titles objects ms name) refl refl (omega (arith, count, added)) lives (omega (arith, most, lives, under))
  where
    and_no : (b : Bool) → (b && false) ≡ false
    and_no true = refl
    and_no false = refl

pub own_move : (titles : List Title) (objects : List Born) (ms : List Move) (step : Move) (name : List ℕ) → length ms < 9223372036854775808 → is_of titles name (object_of step) ≡ true → cache_of titles objects (ms ++ step ∷ []) name ≡ counted (is_alloc step) (cache_of titles objects ms name)
own_move titles objects ms step name few own_is = by (is_alloc step) refl
  where
    own : ℕ → Bool
    own = is_of titles name

    p : Move → Bool
    p = allocates own

    live : ℕ
    live = fold (live_behind own) 0 ms

    new : Cache
    new = cache_of titles objects (ms ++ step ∷ []) name

    old : Cache
    old = cache_of titles objects ms name

    count : count_by p (ms ++ step ∷ []) ≡ count_by p ms + cond (p step) 1 0
    count = fold_push (λ (a : ℕ) (x : Move). a + cond (p x) 1 0) 0 ms step

    test : (b : Bool) → is_alloc step ≡ b → p step ≡ b
    test true e = (λ i. e i && own_is i)
    test false e = ap (λ (b : Bool). b && own (object_of step)) e

    lives : (b : Bool) → is_alloc step ≡ b → fold (live_behind own) 0 (ms ++ step ∷ []) ≡ cond b (live + 1) (live - 1)
    lives b e = fold_push (live_behind own) 0 ms step ∙ ap (λ (t : Bool). cond t (cond (is_alloc step) (live + 1) (live - 1)) live) own_is ∙ ap (λ (t : Bool). cond t (live + 1) (live - 1)) e

    by : (b : Bool) → is_alloc step ≡ b → new ≡ counted (is_alloc step) old
    by true e =
        let added : ◌≡◌ {A = ℕ} (cond (p step) 1 0) 1 = ap (λ (b : Bool). cond b 1 0) (test true e) in
        let here = lives true e in
        let most = most_more own 0 ms step in
        let bound = live_bound own 0 ms in
        let fewer = count_by-le-length p ms in
        let P : Bool → Type 0 = λ b. new ≡ counted b old in
        subst P (sym e) (same_cache new (counted true old) refl refl (omega (arith, count, added, fewer, few)) (omega (arith, here, bound, few)) (omega (arith, most, here, bound, few)))
    by false e =
        let added : ◌≡◌ {A = ℕ} (cond (p step) 1 0) 0 = ap (λ (b : Bool). cond b 1 0) (test false e) in
        let here = lives false e in
        let most = most_more own 0 ms step in
        let P : Bool → Type 0 = λ b. new ≡ counted b old in
        subst P (sym e) (same_cache new (counted false old) refl refl (omega (arith, count, added)) here (omega (arith, most, here)))

-- ---- one more move, of all caches

is_of_at : (titles : List Title) (name : List ℕ) (object : ℕ) (o : Option Title) → slice_get titles object ≡ o → is_of titles name object ≡ option_map_or (λ (t : Title). bytes_eq name t.name) o false
is_of_at titles name object o e = ap (λ (r : Option Title). option_map_or (λ (t : Title). bytes_eq name t.name) r false) e

same_map : (f g : List ℕ → Cache) (names : List (List ℕ)) → ((name : List ℕ) → f name ≡ g name) → map f names ≡ map g names
same_map f g [] h = refl
same_map f g (n ∷ ns) h = λ i. h n i ∷ same_map f g ns h i

-- an object without a title changes nothing
pub no_object : (titles : List Title) (objects : List Born) (ms : List Move) (step : Move) → slice_get titles (object_of step) ≡ None → caches_of titles objects ms ≡ caches_of titles objects (ms ++ step ∷ [])
no_object titles objects ms step none =
    same_map (cache_of titles objects ms) (cache_of titles objects (ms ++ step ∷ [])) (names_of titles) (λ name. sym (other_move titles objects ms step name (is_of_at titles name (object_of step) None none)))

apart : (names : List (List ℕ)) (i j : ℕ) (d : List ℕ) → IsDistinct bytes_eq names → i < length names → j < length names → (i ≢ j) → bytes_eq (get_or names i d) (get_or names j d) ≡ false
apart names i j d once a b differ = by (nat_lt i j) refl
  where
    by : (t : Bool) → nat_lt i j ≡ t → bytes_eq (get_or names i d) (get_or names j d) ≡ false
    by true e = apart_from_distinct bytes_eq names i j d once (grind (arith, nat_tests)) b
    by false e =
        let up : j ≤ i = grind (arith, nat_tests) in
        let ne : j < i = grind (arith) in
        nat_list_eq_equiv.symm (get_or names i d) (get_or names j d) ∙ apart_from_distinct bytes_eq names j i d once ne a

-- the cache of the object is counted, and no other
pub one_object : (titles : List Title) (objects : List Born) (ms : List Move) (step : Move) (title : Title) (place : ℕ) → length ms < 9223372036854775808 → IsDistinct bytes_eq (names_of titles)
    → slice_get titles (object_of step) ≡ Some title → slice_get (names_of titles) place ≡ Some title.name
    → set (caches_of titles objects ms) place (counted (is_alloc step) (cache_of titles objects ms title.name)) ≡ caches_of titles objects (ms ++ step ∷ [])
one_object titles objects ms step title place few once at named =
    same_lists (set (caches_of titles objects ms) place new) (caches_of titles objects (ms ++ step ∷ [])) (length-set (map old names) place new ∙ length-map names old ∙ sym (length-map names f)) each
  where
    names : List (List ℕ)
    names = names_of titles

    old : List ℕ → Cache
    old = cache_of titles objects ms

    f : List ℕ → Cache
    f = cache_of titles objects (ms ++ step ∷ [])

    new : Cache
    new = counted (is_alloc step) (old title.name)

    inside : place < length names
    inside = slice_get_within names place title.name named

    is_title : (name : List ℕ) → is_of titles name (object_of step) ≡ bytes_eq name title.name
    is_title name = is_of_at titles name (object_of step) (Some title) at

    each : (k : ℕ) (d : Cache) → k < length (set (map old names) place new) → get_or (set (map old names) place new) k d ≡ get_or (map f names) k d
    each k d less =
        let long = length-set (map old names) place new in
        let wide = length-map names old in
        let in' : k < length names = omega (arith, long, wide, less) in
        by in' (k == place) refl
      where
        by : k < length names → (t : Bool) → (k == place) ≡ t → get_or (set (map old names) place new) k d ≡ get_or (map f names) k d
        by in' true e =
            let same : k ≡ place = grind (arith, nat_tests) in
            let wide = length-map names old in
            let P : ℕ → Type 0 = λ j. get_or (set (map old names) place new) j d ≡ get_or (map f names) j d in
            let own : f title.name ≡ new = own_move titles objects ms step title.name few (is_title title.name ∙ nat_list_eq_equiv.refl title.name) in
            let here : get_or names place [] ≡ title.name = get_or_from_slice_get names place title.name [] named in
            subst P (sym same) (get_or-set_same (map old names) place new d (omega (arith, wide, inside)) ∙ sym own ∙ ap f (sym here) ∙ sym (get_or-map f names place [] d inside))
        by in' false e =
            let ne : k ≢ place = λ q. absurd (grind (arith, nat_tests)) in
            let here : get_or names place [] ≡ title.name = get_or_from_slice_get names place title.name [] named in
            let far : bytes_eq (get_or names k []) (get_or names place []) ≡ false = apart names k place [] once in' inside ne in
            let no : is_of titles (get_or names k []) (object_of step) ≡ false = is_title (get_or names k []) ∙ ap (bytes_eq (get_or names k [])) (sym here) ∙ far in
            get_or-set_other (map old names) place k new d ne ∙ get_or-map old names k [] d in' ∙ sym (other_move titles objects ms step (get_or names k []) no) ∙ sym (get_or-map f names k [] d in')

-- ---- names, each once

distinct_key : (ks : List (List ℕ)) (x : List ℕ) → IsDistinct bytes_eq ks → IsDistinct bytes_eq (insert_key bytes_eq ks x)
distinct_key ks x once = by (list_any (bytes_eq x) ks) refl
  where
    by : (b : Bool) → list_any (bytes_eq x) ks ≡ b → IsDistinct bytes_eq (cond (list_any (bytes_eq x) ks) ks (ks ++ x ∷ []))
    by true e = subst (IsDistinct bytes_eq) (sym (ap (λ (b : Bool). cond b ks (ks ++ x ∷ [])) e)) once
    by false e = subst (IsDistinct bytes_eq) (sym (ap (λ (b : Bool). cond b ks (ks ++ x ∷ [])) e)) (IsDistinct-push nat_list_eq_equiv ks x once e)

distinct_all : (ks xs : List (List ℕ)) → IsDistinct bytes_eq ks → IsDistinct bytes_eq (insert_all bytes_eq ks xs)
distinct_all ks [] once = once
distinct_all ks (x ∷ xs) once = distinct_all (insert_key bytes_eq ks x) xs (distinct_key ks x once)

none_once : IsDistinct bytes_eq []
unfolding IsDistinct
none_once = tt

pub names_once : (titles : List Title) → IsDistinct bytes_eq (names_of titles)
names_once titles = distinct_all [] (map (λ (t : Title). t.name) titles) none_once

-- ---- one more title

any_append : (p : List ℕ → Bool) (xs ys : List (List ℕ)) → list_any p (xs ++ ys) ≡ (list_any p xs || list_any p ys)
any_append p [] ys = refl
any_append p (x ∷ xs) ys = ap (λ (b : Bool). p x || b) (any_append p xs ys) ∙ by (p x)
  where
    by : (a : Bool) → (a || (list_any p xs || list_any p ys)) ≡ ((a || list_any p xs) || list_any p ys)
    by true = refl
    by false = refl

or_first : (a b : Bool) → (a || b) ≡ false → a ≡ false
or_first true b e = e
or_first false b e = refl

or_second : (a b : Bool) → (a || b) ≡ false → b ≡ false
or_second true b e = absurd (false≢true (sym e))
or_second false b e = e

-- a name that is equal to none of the names kept is equal to no name given
absent_key : (ks : List (List ℕ)) (x k : List ℕ) → list_any (bytes_eq k) (insert_key bytes_eq ks x) ≡ false → (list_any (bytes_eq k) ks ≡ false) × (bytes_eq k x ≡ false)
absent_key ks x k none = by (list_any (bytes_eq x) ks) refl
  where
    kept : (b : Bool) → list_any (bytes_eq x) ks ≡ b → list_any (bytes_eq k) (cond b ks (ks ++ x ∷ [])) ≡ false
    kept b e = ap (λ (t : Bool). list_any (bytes_eq k) (cond t ks (ks ++ x ∷ []))) (sym e) ∙ none

    like : bytes_eq k x ≡ true → (ls : List (List ℕ)) → list_any (bytes_eq k) ls ≡ list_any (bytes_eq x) ls
    like same [] = refl
    like same (l ∷ ls) = λ i. nat_list_eq_equiv.congr k x l same i || like same ls i

    by : (b : Bool) → list_any (bytes_eq x) ks ≡ b → (list_any (bytes_eq k) ks ≡ false) × (bytes_eq k x ≡ false)
    by true e = (kept true e, differ (bytes_eq k x) refl)
      where
        differ : (t : Bool) → bytes_eq k x ≡ t → bytes_eq k x ≡ false
        differ true same = absurd (false≢true (sym (kept true e) ∙ like same ks ∙ e))
        differ false same = same
    by false e =
        let split = sym (any_append (bytes_eq k) ks (x ∷ [])) ∙ kept false e in
        (or_first (list_any (bytes_eq k) ks) (list_any (bytes_eq k) (x ∷ [])) split, or_first (bytes_eq k x) false (or_second (list_any (bytes_eq k) ks) (list_any (bytes_eq k) (x ∷ [])) split))

absent_all : (ks xs : List (List ℕ)) (k : List ℕ) → list_any (bytes_eq k) (insert_all bytes_eq ks xs) ≡ false → (list_any (bytes_eq k) ks ≡ false) × (list_any (bytes_eq k) xs ≡ false)
absent_all ks [] k none = (none, refl)
absent_all ks (x ∷ xs) k none =
    let more = absent_all (insert_key bytes_eq ks x) xs k none in
    let here = absent_key ks x k more.0 in
    (here.0, λ i. here.1 i || more.1 i)

slot_from : (titles : List Title) (objects : List Born) (i : ℕ) (title : Title) → slice_get titles i ≡ Some title → list_any (bytes_eq title.name) (map (λ (t : Title). t.name) (take i titles)) ≡ false
    → slot_of titles objects title.name ≡ option_map_or (λ (b : Born). b.slot) (slice_get objects i) 0
slot_from [] objects i title at none = absurd (none-some title at)
slot_from (t ∷ ts) [] i title at none = refl
slot_from (t ∷ ts) (b ∷ bs) zero title at none =
    let same : t ≡ title = same_Some t title at in
    ap (λ (x : Bool). cond x b.slot (slot_of ts bs title.name)) (ap (λ (x : Title). bytes_eq title.name x.name) same ∙ nat_list_eq_equiv.refl title.name)
slot_from (t ∷ ts) (b ∷ bs) (suc i) title at none =
    ap (λ (x : Bool). cond x b.slot (slot_of ts bs title.name)) (or_first (bytes_eq title.name t.name) (list_any (bytes_eq title.name) (map (λ (t : Title). t.name) (take i ts))) none)
    ∙ slot_from ts bs i title at (or_second (bytes_eq title.name t.name) (list_any (bytes_eq title.name) (map (λ (t : Title). t.name) (take i ts))) none)

-- the slot of a new name
pub slot_is : (titles : List Title) (objects : List Born) (i : ℕ) (title : Title) → slice_get titles i ≡ Some title → list_any (bytes_eq title.name) (insert_all bytes_eq [] (map (λ (t : Title). t.name) (take i titles))) ≡ false
    → slot_of titles objects title.name ≡ option_map_or (λ (b : Born). b.slot) (slice_get objects i) 0
slot_is titles objects i title at none = slot_from titles objects i title at (absent_all [] (map (λ (t : Title). t.name) (take i titles)) title.name none).1

get_front : (xs ys : List (List ℕ)) (q : ℕ) (y : List ℕ) → slice_get xs q ≡ Some y → slice_get (xs ++ ys) q ≡ Some y
get_front [] ys q y at = absurd (none-some y at)
get_front (x ∷ xs) ys zero y at = at
get_front (x ∷ xs) ys (suc q) y at = get_front xs ys q y at

-- names stay where they are
pub kept_place : (ks : List (List ℕ)) (x y : List ℕ) (q : ℕ) → slice_get ks q ≡ Some y → slice_get (insert_key bytes_eq ks x) q ≡ Some y
kept_place ks x y q at = by (list_any (bytes_eq x) ks)
  where
    by : (b : Bool) → slice_get (cond b ks (ks ++ x ∷ [])) q ≡ Some y
    by true = at
    by false = get_front ks (x ∷ []) q y at
