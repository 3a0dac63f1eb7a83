-- Lists that stand in the places of their frames, and what a change in the places of one frame does.
use Rattle.std.proofs.Common.{◌≡◌, ◌≢◌, ℕ, ◌+◌, ◌-◌, ◌*◌, ◌<◌, ◌≤◌, List, [], ◌∷◌, ◌++◌, length, take, drop, get_or, set, replicate, reverse, Some, None, refl, ap, sym, ◌∙◌, zero-add, append_assoc, inl, inr, arith, length-append, length-drop, length-set, length-take-le, get_or-drop, get_or-take, get_or-set_other, get_or-set_same}
use Rattle.std.specs.Prelude.{slice_get}
use Rattle.std.proofs.lemmas.Bool.{cases_eq, cases_lt}
use Rattle.std.proofs.lemmas.List.{drop-append-le, drop-set-lt, drop-take, set-get_or, set-set, take-take, drop_more, get_or-reverse, get_or_past, length-replicate, length-reverse, reverse-append, take-append-le, take-set-le, take_more_set}
use Rattle.std.proofs.lemmas.List.FromFn.{fill_by_all, get_or-map-range_with_len, length-map-range_with_len}
use Rattle.std.proofs.lemmas.Slice.{drop-append-drop}
use Rattle.std.proofs.Math.Seq.{drop-append_seam, take-append_seam}
use Rattle.std.proofs.lemmas.Option.{get_or_from_slice_get, slice_get-get_or, slice_get_past, slice_get_within}
use Rattle.slub_common.proofs.Writes.{at_written, get_or-replicate_any}
use Rattle.slub_list_machine.specs.Places.{IsStored, own_at, own_lists}

length-zero : (xs : List ℕ) → length xs ≡ 0 → xs ≡ []
length-zero [] none = refl
length-zero (x ∷ xs) none = absurd (omega arith)

-- ---- a part of a list

part : List ℕ → ℕ → ℕ → List ℕ
part xs n count = take count (drop n xs)

-- lists that are the same up to the end of a part
part-same : (xs ys : List ℕ) (n count : ℕ) → take (n + count) xs ≡ take (n + count) ys → take count (drop n xs) ≡ take count (drop n ys)
part-same xs ys n count same = sym (drop-take n count xs) ∙ ap (drop n) same ∙ drop-take n count ys

-- what is put behind it
part-longer : (xs zs : List ℕ) (n count : ℕ) → count ≤ length xs - n → take count (drop n (xs ++ zs)) ≡ take count (drop n xs)
part-longer xs zs n count stored =
    elim (cases_lt 0 count) [
      | inl some ↦ part-same (xs ++ zs) xs n count (take-append-le (n + count) xs zs (omega arith))
      | inr none ↦ let e : count ≡ 0 = omega arith in rw e refl
    ]

-- what is written before it, and what is written behind it
part-before : (xs : List ℕ) (n count at v : ℕ) → at < n → take count (drop n (set xs at v)) ≡ take count (drop n xs)
part-before xs n count at v before = ap (take count) (drop-set-lt n xs at v before)

part-behind : (xs : List ℕ) (n count at v : ℕ) → n + count ≤ at → take count (drop n (set xs at v)) ≡ take count (drop n xs)
part-behind xs n count at v behind = part-same (set xs at v) xs n count (take-set-le (n + count) xs at v behind)

-- what is written right behind it comes to it
part-more : (xs : List ℕ) (n count v : ℕ) → n + count < length xs → take (count + 1) (drop n (set xs (n + count) v)) ≡ take count (drop n xs) ++ v ∷ []
part-more xs n count v inside =
    let on : n + (count + 1) ≡ n + count + 1 = omega arith in
    let long : length (take (n + count) xs) ≡ n + count = length-take-le (n + count) xs (omega arith) in
    sym (drop-take n (count + 1) (set xs (n + count) v))
    ∙ ap (λ m. drop n (take m (set xs (n + count) v))) on
    ∙ ap (drop n) (take_more_set xs (n + count) v inside)
    ∙ drop-append-le n (take (n + count) xs) (v ∷ []) (omega arith)
    ∙ ap (λ ys. ys ++ v ∷ []) (drop-take n count xs)

-- ---- the lists

-- the number of a list's objects is what is counted
pub own-length : (room : List ℕ) (frame count : ℕ) → count ≤ length room - 512 * frame → length (own_at room frame count) ≡ count
own-length room frame count stored =
    length-reverse (take count (drop (512 * frame) room)) ∙ length-take-le count (drop (512 * frame) room) (omega (arith, length-drop (512 * frame) room))

-- each list stands in its places, and past the last frame there is none
pub own-list : (room counts : List ℕ) (frame : ℕ) → get_or (own_lists room counts) frame [] ≡ own_at room frame (get_or counts frame 0)
own-list room counts frame =
    let at : ℕ → List ℕ = λ other. own_at room other (get_or counts other 0) in
    elim (cases_lt frame (length counts)) [
      | inl inside ↦ get_or-map-range_with_len at 0 (length counts) frame frame [] inside (zero-add frame)
      | inr past ↦
          let none : get_or counts frame 0 ≡ 0 = get_or_past counts frame 0 past in
          get_or_past (own_lists room counts) frame [] (omega (arith, length-map-range_with_len at 0 (length counts))) ∙ sym (ap (own_at room frame) none)
    ]

pub lists-length : (room counts : List ℕ) → length (own_lists room counts) ≡ length counts
lists-length room counts = length-map-range_with_len (λ frame. own_at room frame (get_or counts frame 0)) 0 (length counts)

-- the object at a place of a list
pub own-get : (room : List ℕ) (frame count at : ℕ) → count ≤ length room - 512 * frame → at < count → slice_get (own_at room frame count) at ≡ slice_get room (512 * frame + (count - 1 - at))
own-get room frame count at stored inside =
    let place = count - 1 - at in
    let xs = take count (drop (512 * frame) room) in
    let long : length xs ≡ count = length-take-le count (drop (512 * frame) room) (omega (arith, length-drop (512 * frame) room)) in
    let own : at < length (own_at room frame count) = omega (arith, own-length room frame count stored) in
    slice_get-get_or (own_at room frame count) at 0 own
    ∙ ap Some (get_or-reverse xs at 0 (omega (arith, long))
    ∙ ap (λ n. get_or xs (n - 1 - at) 0) long
    ∙ get_or-take count (drop (512 * frame) room) place 0 (omega arith)
    ∙ get_or-drop (512 * frame) room place 0)
    ∙ sym (slice_get-get_or room (512 * frame + place) 0 (omega arith))

pub own-past : (room : List ℕ) (frame count at : ℕ) → count ≤ length room - 512 * frame → count ≤ at → slice_get (own_at room frame count) at ≡ None
own-past room frame count at stored past = slice_get_past (own_at room frame count) at (omega (arith, own-length room frame count stored))

-- another list comes to stand in the places of one frame
pub lists-changed : (room next counts : List ℕ) (frame count : ℕ) (own : List ℕ) → frame < length counts
    → ((other : ℕ) → other ≢ frame → own_at next other (get_or counts other 0) ≡ own_at room other (get_or counts other 0))
    → own_at next frame count ≡ own → own_lists next (set counts frame count) ≡ set (own_lists room counts) frame own
lists-changed room next counts frame count own inside others here =
    let after = set counts frame count in
    let lists = own_lists room counts in
    let long : length (set lists frame own) ≡ length after =
    length-set lists frame own ∙ lists-length room counts ∙ sym (length-set counts frame count) in
    sym (fill_by_all (λ other. own_at next other (get_or after other 0)) (set lists frame own) (length after) [] long (λ k below. elim (cases_eq k frame) [
      | inl e ↦
          ap (λ n. get_or (set lists frame own) n []) e
          ∙ get_or-set_same lists frame own [] (omega (arith, lists-length room counts))
          ∙ sym here
          ∙ ap (own_at next frame) (sym (get_or-set_same counts frame count 0 inside))
          ∙ ap (λ n. own_at next n (get_or after n 0)) (sym e)
      | inr d ↦
          get_or-set_other lists frame k own [] d ∙ own-list room counts k ∙ sym (others k d)
          ∙ ap (own_at next k) (sym (get_or-set_other counts frame k count 0 d))
    ]))

-- the count of one frame changes
pub stored-changed : (room next counts : List ℕ) (places frame count : ℕ) → IsStored room counts places → length room ≤ length next → count ≤ 512 → count ≤ length next - 512 * frame → IsStored next (set counts frame count) places
stored-changed room next counts places frame count old more within stored = record {
  within = λ other. at_written (λ n. n ≤ 512) counts frame other count 0 (λ e. within) (old.within other);
  stored = λ other. at_written (λ n. n ≤ length next - 512 * other) counts frame other count 0 (λ e. omega arith) (omega (arith, old.stored other));
  all = omega (arith, old.all, length-set counts frame count);
}

-- ---- what is seen of them

-- lists that were all emptied
pub lists-opened : (room counts : List ℕ) (n : ℕ) → counts ≡ replicate n 0 → own_lists room counts ≡ replicate n []
lists-opened room counts n none =
    let zeros : List ℕ = replicate n 0 in
    let long : length counts ≡ n = ap length none ∙ length-replicate n 0 in
    sym (fill_by_all (λ frame. own_at room frame (get_or counts frame 0)) (replicate n []) (length counts) [] (length-replicate n [] ∙ sym long) (λ k below.
    get_or-replicate_any n k [] ∙ sym (ap (own_at room k) (ap (λ xs. get_or xs k 0) none ∙ get_or-replicate_any n k 0))))

module _ (room counts : List ℕ) (places : ℕ) (lists : List (List ℕ)) (stored : IsStored room counts places) (is : own_lists room counts ≡ lists) where
  pub as-many : length lists ≡ length counts
  as-many = ap length (sym is) ∙ lists-length room counts

  pub seen : (frame : ℕ) → get_or lists frame [] ≡ own_at room frame (get_or counts frame 0)
  seen frame = ap (λ (all : List (List ℕ)). get_or all frame []) (sym is) ∙ own-list room counts frame

  pub counted : (frame : ℕ) → length (get_or lists frame []) ≡ get_or counts frame 0
  counted frame = ap length (seen frame) ∙ own-length room frame (get_or counts frame 0) (stored.stored frame)

  -- the places of a frame whose list has so many objects
  module _ (frame count : ℕ) (long : count ≡ length (get_or lists frame [])) where
    is-count : count ≡ get_or counts frame 0
    is-count = long ∙ counted frame

    own-here : own_at room frame count ≡ get_or lists frame []
    own-here = ap (own_at room frame) is-count ∙ sym (seen frame)

    within-here : count ≤ 512
    within-here = omega (arith, is-count, stored.within frame)

    stored-here : count ≤ length room - 512 * frame
    stored-here = omega (arith, is-count, stored.stored frame)

    pub got : (at : ℕ) → at < count → slice_get (get_or lists frame []) at ≡ slice_get room (512 * frame + (count - 1 - at))
    got at inside = ap (λ (own : List ℕ). slice_get own at) (sym own-here) ∙ own-get room frame count at stored-here inside

    pub got-none : (at : ℕ) → count ≤ at → slice_get (get_or lists frame []) at ≡ None
    got-none at past = slice_get_past (get_or lists frame []) at (omega (arith, long))

    -- a list is emptied
    pub cleared : frame < length lists → own_lists room (set counts frame 0) ≡ set lists frame []
    cleared inside =
        lists-changed room room counts frame 0 [] (omega (arith, inside, as-many)) (λ other d. refl) refl ∙ ap (λ (all : List (List ℕ)). set all frame []) is

    -- an object is put at the front
    module _ (item : ℕ) (free : count < 512) where
      abbrev at : ℕ
      at = 512 * frame + count

      abbrev zeros : List ℕ
      zeros = replicate (at + 1 - length room) 0

      abbrev next : List ℕ
      next = set (room ++ zeros) at item

      grown-long : at + 1 ≤ length (room ++ zeros)
      grown-long = omega (arith, length-append room zeros, length-replicate {A = ℕ} (at + 1 - length room) 0)

      next-longer : length room ≤ length next
      next-longer = omega (arith, length-append room zeros, length-set (room ++ zeros) at item)

      next-long : at + 1 ≤ length next
      next-long = omega (arith, grown-long, length-set (room ++ zeros) at item)

      pub pushed-stored : IsStored next (set counts frame (count + 1)) places
      pushed-stored =
          stored-changed room next counts places frame (count + 1) stored next-longer (omega (arith, free)) (omega (arith, next-long))

      longer : (other : ℕ) → take (get_or counts other 0) (drop (512 * other) (room ++ zeros)) ≡ take (get_or counts other 0) (drop (512 * other) room)
      longer other = part-longer room zeros (512 * other) (get_or counts other 0) (stored.stored other)

      others : (other : ℕ) → other ≢ frame → own_at next other (get_or counts other 0) ≡ own_at room other (get_or counts other 0)
      others other d =
          ap reverse (elim (cases_lt other frame) [
            | inl below ↦ part-behind (room ++ zeros) (512 * other) (get_or counts other 0) at item (omega (arith, below, stored.within other)) ∙ longer other
            | inr above ↦
                let far : frame < other = omega (arith, above, d) in
                part-before (room ++ zeros) (512 * other) (get_or counts other 0) at item (omega (arith, far, free)) ∙ longer other
          ])

      front : own_at next frame (count + 1) ≡ item ∷ get_or lists frame []
      front =
          ap reverse (part-more (room ++ zeros) (512 * frame) count item (omega (arith, grown-long))
          ∙ ap (λ xs. xs ++ item ∷ []) (part-longer room zeros (512 * frame) count stored-here))
          ∙ reverse-append (take count (drop (512 * frame) room)) (item ∷ [])
          ∙ ap (λ own. item ∷ own) own-here

      pub pushed : frame < length lists → own_lists next (set counts frame (count + 1)) ≡ set lists frame (item ∷ get_or lists frame [])
      pushed inside =
          lists-changed room next counts frame (count + 1) (item ∷ get_or lists frame []) (omega (arith, inside, as-many)) others front
          ∙ ap (λ (all : List (List ℕ)). set all frame (item ∷ get_or lists frame [])) is

    -- a list is turned around
    abbrev first : ℕ
    first = 512 * frame

    abbrev turned : List ℕ
    turned = take first room ++ reverse (take count (drop first room)) ++ drop (first + count) room

    module _ (some : 0 < count) where
      pub first-inside : first + count ≤ length room
      first-inside = omega (arith, stored-here, some)

      fore-long : length (take first room) ≡ first
      fore-long = length-take-le first room (omega (arith, first-inside))

      own-long : length (reverse (take count (drop first room))) ≡ count
      own-long = own-length room frame count stored-here

      front-long : length (take first room ++ reverse (take count (drop first room))) ≡ first + count
      front-long = omega (arith, length-append (take first room) (reverse (take count (drop first room))), fore-long, own-long)

      turned-long : length turned ≡ length room
      turned-long =
          omega (arith, length-append (take first room ++ reverse (take count (drop first room))) (drop (first + count) room), front-long, length-drop (first + count) room, first-inside)

      pub turned-stored : IsStored turned counts places
      turned-stored = record {
        within = stored.within;
        stored = λ other. omega (arith, stored.stored other, turned-long);
        all = stored.all;
      }

      turned-others : (other : ℕ) → other ≢ frame → own_at turned other (get_or counts other 0) ≡ own_at room other (get_or counts other 0)
      turned-others other d =
          let fore = take first room in
          let own = reverse (take count (drop first room)) in
          let rest = drop (first + count) room in
          let n = 512 * other in
          let many = get_or counts other 0 in
          ap reverse (elim (cases_lt other frame) [
            | inl below ↦
                let before : n + many ≤ first = omega (arith, below, stored.within other) in
                part-same turned room n many (ap (take (n + many)) (append_assoc fore own rest) ∙ take-append-le (n + many) fore (own ++ rest) (omega (arith, before, fore-long)) ∙ take-take (n + many) first room before)
            | inr above ↦
                let far : frame < other = omega (arith, above, d) in
                ap (take many) (drop-append-drop (first + count) room (fore ++ own) n (omega (arith, far, within-here)) front-long)
          ])

      turned-here : own_at turned frame count ≡ reverse (get_or lists frame [])
      turned-here =
          let fore = take first room in
          let own = reverse (take count (drop first room)) in
          let rest = drop (first + count) room in
          ap reverse (
          ap (λ xs. take count (drop first xs)) (append_assoc fore own rest)
          ∙ ap (λ n. take count (drop n (fore ++ (own ++ rest)))) (sym fore-long)
          ∙ ap (take count) (drop-append_seam fore (own ++ rest))
          ∙ ap (λ n. take n (own ++ rest)) (sym own-long)
          ∙ take-append_seam own rest
          ∙ own-here)

      pub turned-around : frame < length lists → own_lists turned counts ≡ set lists frame (reverse (get_or lists frame []))
      turned-around inside =
          ap (own_lists turned) (sym (set-get_or counts frame 0))
          ∙ lists-changed room turned counts frame (get_or counts frame 0) (reverse (get_or lists frame [])) (omega (arith, inside, as-many)) turned-others (ap (own_at turned frame) (sym is-count) ∙ turned-here)
          ∙ ap (λ (all : List (List ℕ)). set all frame (reverse (get_or lists frame []))) is

    -- an empty list turned around is as it was
    pub turned-empty : count ≡ 0 → lists ≡ set lists frame (reverse (get_or lists frame []))
    turned-empty none =
        let empty : get_or lists frame [] ≡ [] = length-zero (get_or lists frame []) (sym long ∙ none) in
        sym (set-get_or lists frame []) ∙ ap (set lists frame) (empty ∙ sym (ap reverse empty))

-- ---- a list that is put before another, the last object first

pub put-before : (lists now : List (List ℕ)) (frame : ℕ) (front own : List ℕ) (at item : ℕ) → frame < length lists → 0 < at → slice_get front (at - 1) ≡ Some item
    → now ≡ set lists frame (drop at front ++ own) → set now frame (item ∷ get_or now frame []) ≡ set lists frame (drop (at - 1) front ++ own)
put-before lists now frame front own at item inside some next is =
    let on : at - 1 + 1 ≡ at = omega arith in
    let more : drop (at - 1) front ≡ item ∷ drop at front =
    drop_more front (at - 1) item (slice_get_within front (at - 1) item next)
    ∙ ap (λ x. x ∷ drop (at - 1 + 1) front) (get_or_from_slice_get front (at - 1) item item next)
    ∙ ap (λ n. item ∷ drop n front) on in
    let here : get_or now frame [] ≡ drop at front ++ own =
    ap (λ (all : List (List ℕ)). get_or all frame []) is ∙ get_or-set_same lists frame (drop at front ++ own) [] inside in
    ap (λ (xs : List ℕ). set now frame (item ∷ xs)) here
    ∙ ap (λ (all : List (List ℕ)). set all frame (item ∷ (drop at front ++ own))) is
    ∙ set-set lists frame (drop at front ++ own) (item ∷ (drop at front ++ own))
    ∙ ap (λ (xs : List ℕ). set lists frame (xs ++ own)) (sym more)

-- each place that is counted has an object
pub no-gap : (xs : List ℕ) (at : ℕ) → at ≤ length xs → 0 < at → slice_get xs (at - 1) ≡ None → ⊥
no-gap xs at within some none =
    let e : None ≡ Some (get_or xs (at - 1) 0) = sym none ∙ slice_get-get_or xs (at - 1) 0 (omega arith) in cc e
