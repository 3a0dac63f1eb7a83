-- The caches of a trace, and those that are told as left out.
use Rattle.std.proofs.Common.{◌≡◌, ℕ, ◌+◌, ◌<◌, ◌≤◌, inl, inr, List, [], ◌∷◌, ◌++◌, length, map, take, get_or, refl, sym, ap, subst, ◌∙◌, arith}
use Rattle.std.specs.Prelude.{All, Bool, Contains, IsPermutation, filter}
use Rattle.std.proofs.lemmas.List.{get_or-map, length-map}
use Rattle.std.proofs.lemmas.List.Elements.{All-append, All-contains, All-filter, All-map, All-more, All-weaker, Contains-append_cases, Contains-append_left, Contains-append_right, Contains-get_or, Contains-push}
use Rattle.std.proofs.lemmas.List.Sorted.{Contains-permutation, IsPermutation-sym}
use Rattle.slub_recording.specs.declared.recording.Recording.{Recording}
use Rattle.slub_recorded.specs.declared.convert.Options.{Options}
use Rattle.slub_recorded.specs.declared.groups.Cache.{Cache}
use Rattle.slub_recorded.specs.declared.groups.Chosen.{Chosen}
use Rattle.slub_recorded.specs.declared.groups.Groups.{Groups}
use Rattle.slub_recorded.specs.declared.naming.Title.{Title}
use Rattle.slub_recorded.specs.declared.pairing.Born.{Born}
use Rattle.slub_recorded.specs.declared.pairing.Move.{Move}
use Rattle.slub_recorded.specs.declared.text.Row.{Row}
use Rattle.slub_recorded.specs.declared.told.Note.{Note}
use Rattle.slub_recorded.specs.Caches.{cache_of, caches_of, names_of}
use Rattle.slub_recorded.specs.Converted.{AreChosen, AreShown, caches, titles}
use Rattle.slub_recorded.specs.Groups.{row_of}
use Rattle.slub_recorded.specs.Members.{HasName, IsGrouped, IsLeftOut, IsNeed, Member, Need, in_none, is_none, need_of, row_for, unlettered_row}
use Rattle.slub_recorded.specs.Pairing.{seen}
use Rattle.slub_recorded.specs.Told.{EndsIn, IsOfLeft, left_note}
use Rattle.slub_recorded.proofs.Only.{counts_any}

-- each of these that is left out is told in these notes
abbrev pub LeftTold : ℕ → List Chosen → List Note → Cache → Type 0
LeftTold cpus beyond notes cache = IsLeftOut cpus cache beyond → Contains notes (left_note cache)

-- one more cache of a loop over them
pub told_more : (cpus : ℕ) (beyond : List Chosen) (notes : List Note) (cs : List Cache) (i : ℕ) (cache : Cache) → i < length cs → cache ≡ get_or cs i cache → All (LeftTold cpus beyond notes) (take i cs)
    → All (LeftTold cpus beyond (notes ++ left_note cache ∷ [])) (take (i + 1) cs)
told_more cpus beyond notes cs i cache inside is told =
    let new = notes ++ left_note cache ∷ [] in
    All-more (LeftTold cpus beyond new) cs i cache inside
    (All-weaker (LeftTold cpus beyond notes) (LeftTold cpus beyond new) (λ c h out. Contains-append_left notes (left_note cache ∷ []) (left_note c) (h out)) (take i cs) told)
    (subst (LeftTold cpus beyond new) is (λ out. Contains-push notes (left_note cache)))

pub same_more : (cpus : ℕ) (beyond : List Chosen) (notes : List Note) (cs : List Cache) (i : ℕ) (cache : Cache) → i < length cs → cache ≡ get_or cs i cache → ¬ IsLeftOut cpus cache beyond → All (LeftTold cpus beyond notes) (take i cs)
    → All (LeftTold cpus beyond notes) (take (i + 1) cs)
same_more cpus beyond notes cs i cache inside is kept told =
    All-more (LeftTold cpus beyond notes) cs i cache inside told (subst (LeftTold cpus beyond notes) is (λ out. absurd (kept out)))

pub map-map : {X Y Z : Type 0} (f : X → Y) (g : Y → Z) (xs : List X) → map g (map f xs) ≡ map (λ x. g (f x)) xs
map-map f g [] = refl
map-map f g (x ∷ xs) = ap (λ l. g (f x) ∷ l) (map-map f g xs)

-- a need that stands for a chosen cache has its name among these
named_beyond : (beyond : List Chosen) (needs : List Need) → map need_of beyond ≡ needs → All (λ (need : Need). HasName need.cache.name beyond) needs
named_beyond beyond needs same k d less =
    let long : length needs ≡ length beyond = ap length (sym same) ∙ length-map beyond need_of in
    at beyond same (omega (arith, long, less))
  where
    at : (bs : List Chosen) → map need_of bs ≡ needs → k < length bs → HasName (get_or needs k d).cache.name bs
    at [] e in' = absurd (omega (arith, in'))
    at (b ∷ bs) e in' =
        let one : Chosen = get_or (b ∷ bs) k b in
        (one, Contains-get_or (b ∷ bs) k b in', ap (λ (n : Need). n.cache.name) (sym (get_or-map need_of (b ∷ bs) k b d in')) ∙ ap (λ (l : List Need). (get_or l k d).cache.name) e)

-- a member's cache is one of the members' caches
each_there : (ms : List Member) → All (λ (m : Member). Contains (map (λ (x : Member). x.need.cache) ms) m.need.cache) ms
each_there ms k d less =
    let g : Member → Cache = λ x. x.need.cache in
    let long = length-map ms g in
    let C : Cache → Type 0 = λ x. Contains (map g ms) x in
    subst C (get_or-map g ms k d d.need.cache less) (Contains-get_or (map g ms) k d.need.cache (omega (arith, long, less)))

none_there : (ms : List Member) → All (λ (need : Need). Contains (map (λ (x : Member). x.need.cache) ms) need.cache) (in_none ms)
none_there ms =
    let P : Need → Type 0 = λ n. Contains (map (λ (x : Member). x.need.cache) ms) n.cache in
    let none : Member → Bool = λ m. is_none m.group in
    All-map P (λ (m : Member). m.need) (filter none ms) (All-filter none (λ (m : Member). P m.need) ms (each_there ms))

-- ---- none but those is told

mapped : {X Y : Type 0} (f : X → Y) (xs : List X) (x : X) → Contains xs x → Contains (map f xs) (f x)
mapped {X} {Y} f xs x there =
    let k = there.0 in
    let long = length-map xs f in
    (k, omega (arith, long, there.1), get_or-map f xs k x (f x) there.1 ∙ ap f there.2)

-- each of a recording's caches is the one of its name
pub own_name : (ts : List Title) (bs : List Born) (ms : List Move) → All (λ (c : Cache). c ≡ cache_of ts bs ms c.name) (caches_of ts bs ms)
own_name ts bs ms =
    All-map (λ (c : Cache). c ≡ cache_of ts bs ms c.name) (cache_of ts bs ms) (names_of ts) (λ k d less. refl)

-- the caches that are in no group
pub left_in : List Cache → List Member → List Cache
left_in others ms = others ++ map (λ (need : Need). need.cache) (in_none ms)

-- a cache that is left out is one of them
one_left : (cpus : ℕ) (cs : List Cache) (f : List ℕ → Cache) (ms : List Member) (others : List Cache) (beyond : List Chosen) (cache : Cache) → All (λ (c : Cache). c ≡ f c.name) cs → IsPermutation cs (map (λ (x : Member). x.need.cache) ms ++ others)
    → All (λ (m : Member). IsNeed cpus m.need.cache m.need.frames) ms → map need_of beyond ≡ in_none ms → Contains cs cache → IsLeftOut cpus cache beyond → Contains (left_in others ms) cache
unfolding left_in
one_left cpus cs f ms others beyond cache own all needs is there (inl large) =
    let mine : List Cache = map (λ (x : Member). x.need.cache) ms in
    elim (Contains-append_cases mine others cache (Contains-permutation cs (mine ++ others) cache all there)) [
      | inl member ↦
          let P : Cache → Type 0 = λ c. (frames : ℕ) × IsNeed cpus c frames in
          let need : P cache = All-contains P mine cache (All-map P (λ (x : Member). x.need.cache) ms (λ k d less. ((get_or ms k d).need.frames, needs k d less))) member in
          absurd (large need.0 need.1)
      | inr other ↦ Contains-append_left others (map (λ (need : Need). need.cache) (in_none ms)) cache other
    ]
one_left cpus cs f ms others beyond cache own all needs is there (inr named) =
    let mine : List Cache = map (λ (x : Member). x.need.cache) ms in
    let one : Chosen = named.0 in
    let need : Contains (in_none ms) (need_of one) = subst (λ (l : List Need). Contains l (need_of one)) is (mapped need_of beyond one named.1) in
    let in_mine : Contains mine one.cache = All-contains (λ (n : Need). Contains mine n.cache) (in_none ms) (need_of one) (none_there ms) need in
    let in_cs : Contains cs one.cache = Contains-permutation (mine ++ others) cs one.cache (IsPermutation-sym cs (mine ++ others) all) (Contains-append_left mine others one.cache in_mine) in
    let Own : Cache → Type 0 = λ c. c ≡ f c.name in
    let same : one.cache ≡ cache = All-contains Own cs one.cache own in_cs ∙ ap f named.2 ∙ sym (All-contains Own cs cache own there) in
    let caches : List Cache = map (λ (n : Need). n.cache) (in_none ms) in
    Contains-append_right others caches cache (subst (λ (c : Cache). Contains caches c) same (mapped (λ (n : Need). n.cache) (in_none ms) (need_of one) need))

-- each of these that is left out is one of them
pub left_are : (cpus : ℕ) (recording : Recording) (options : Options) (groups : Groups) (is : IsGrouped cpus (caches recording) options.group groups)
    → All (λ (c : Cache). IsLeftOut cpus c groups.beyond.items → Contains (left_in is.grouped.others is.members) c) (caches recording)
left_are cpus recording options groups is k d less =
    let cs : List Cache = caches recording in
    let ts : List Title = titles recording in
    let bs : List Born = (seen recording.events).objects in
    let moves : List Move = (seen recording.events).moves in
    one_left cpus cs (cache_of ts bs moves) is.members is.grouped.others groups.beyond.items (get_or cs k d) (own_name ts bs moves) is.grouped.all is.grouped.needs is.beyond (Contains-get_or cs k d less)

-- ---- what is shown

-- the group that is asked for
abbrev pub chosen_by : (recording : Recording) (options : Options) (cpus : ℕ) (rows : List Row) (groups : Groups) (is : IsGrouped cpus (caches recording) options.group groups) → rows ≡ map row_of groups.chosen.items → 1 ≤ options.group → options.group ≤ groups.groups
    → AreChosen recording options cpus is.members rows
chosen_by recording options cpus rows groups is rows_are one few =
    let chosen : List Chosen = groups.chosen.items in
    record {
      grouped = is.grouped;
      group = one;
      few = subst (λ (n : ℕ). options.group ≤ n) is.count few;
      shown = ap (map unlettered_row) rows_are ∙ map-map row_of unlettered_row chosen ∙ sym (map-map need_of row_for chosen) ∙ ap (map row_for) is.chosen;
    }

-- what a list of notes tells: each cache that is left out, and no other
pub record Lists (cpus : ℕ) (beyond : List Chosen) (cs : List Cache) (listed : List Note) : Type 0 where
  pub told : All (LeftTold cpus beyond listed) cs
  pub only : (left : List Cache) → All (λ (c : Cache). IsLeftOut cpus c beyond → Contains left c) cs → All (IsOfLeft left) listed

pub shown : (recording : Recording) (options : Options) (cpus : ℕ) (rows : List Row) (groups : Groups) (notes listed : List Note) (is : IsGrouped cpus (caches recording) options.group groups)
    → rows ≡ map row_of groups.chosen.items → 1 ≤ options.group → options.group ≤ groups.groups → EndsIn notes listed → Lists cpus groups.beyond.items (caches recording) listed → AreShown recording options cpus rows notes
unfolding left_in
shown recording options cpus rows groups notes listed is rows_are one few ends lists =
    let cs : List Cache = caches recording in
    let ms : List Member = is.members in
    let mine : List Cache = map (λ (x : Member). x.need.cache) ms in
    let others : List Cache = is.grouped.others in
    let left : List Cache = others ++ map (λ (need : Need). need.cache) (in_none ms) in
    let back = IsPermutation-sym cs (mine ++ others) is.grouped.all in
    let tell : (cache : Cache) → Contains (mine ++ others) cache → IsLeftOut cpus cache groups.beyond.items → Contains notes (left_note cache) = λ cache there out.
    let C : List Note → Type 0 = λ l. Contains l (left_note cache) in
    subst C (sym ends.1) (Contains-append_right ends.0 listed (left_note cache) (All-contains (LeftTold cpus groups.beyond.items listed) cs cache lists.told (Contains-permutation (mine ++ others) cs cache back there) out)) in
    record {
      members = ms;
      chosen = chosen_by recording options cpus rows groups is rows_are one few;
      told_large = λ k d less. tell (get_or others k d) (Contains-append_right mine others (get_or others k d) (Contains-get_or others k d less)) (inl (is.grouped.too_large k d less));
      told_beyond = λ k d less.
          let need : Need = get_or (in_none ms) k d in
          tell need.cache (Contains-append_left mine others need.cache (none_there ms k d less)) (inr (named_beyond groups.beyond.items (in_none ms) is.beyond k d less));
      told_only = subst (λ (l : List Note). All (IsOfLeft left) l) (sym ends.1) (All-append (IsOfLeft left) ends.0 listed (counts_any left ends.0 ends.2) (lists.only left (left_are cpus recording options groups is)));
    }

-- the same, with what slices are lent of each part
pub shown_by : (recording : Recording) (options : Options) (cpus : ℕ) (rows : List Row) (groups : Groups) (notes listed listed_lent : List Note) (cs_lent : List Cache) (beyond : List Chosen) → IsGrouped cpus (caches recording) options.group groups
    → rows ≡ map row_of groups.chosen.items → 1 ≤ options.group → options.group ≤ groups.groups → listed_lent ≡ listed → EndsIn notes listed_lent → cs_lent ≡ caches recording → beyond ≡ groups.beyond.items → Lists cpus beyond cs_lent listed → AreShown recording options cpus rows notes
shown_by recording options cpus rows groups notes listed listed_lent cs_lent beyond is re one few le ends ke be lists =
    shown recording options cpus rows groups notes listed is re one few (subst (λ (l : List Note). EndsIn notes l) le ends)
    (subst (λ (b : List Chosen). Lists cpus b (caches recording) listed) be (subst (λ (l : List Cache). Lists cpus beyond l listed) ke lists))
