-- The acts of a bulk round, and the numbers among them.
use Rattle.std.proofs.Common.{◌≡◌, ℕ, ◌+◌, ◌<◌, ◌≤◌, Bool, true, false, min, List, [], ◌∷◌, ◌++◌, length, take, drop, filter, get_or, refl, sym, ◌∙◌, ap, All, arith}
use Rattle.std.specs.List.{IsDistinct, cons_option, filter_map, range_with_len, zip}
use Rattle.std.specs.Prelude.{Option, Some, None, nat_eq, slice_get, slice_index_or, if◌then◌else◌}
use Rattle.std.proofs.lemmas.List.Elements.{filter-append, filter_map-append}
use Rattle.std.proofs.lemmas.List.{append-nil, drop_more, length-map, take-append-drop, take_all, take_more}
use Rattle.std.proofs.lemmas.Slice.Zip.{get_or-zip, length-zip}
use Rattle.std.proofs.lemmas.List.FromFn.{get_or-range_with_len, length-range_with_len}
use Rattle.std.proofs.lemmas.Map.Keys.{IsDistinct-from_apart}
use Rattle.slub_common.proofs.Lists.{range_with_len-append}
use Rattle.slub_trace.specs.declared.reply.Reply.{Reply}
use Rattle.slub_trace.specs.Kinds.{is_given}
use Rattle.slub_lists.specs.State.{State}
use Rattle.slub_trace.specs.declared.trace.Trace.{Trace}
use Rattle.slub_slabinfo_text.specs.declared.client.CacheRefusal.{CacheRefusal}
use Rattle.slub_slabinfo_text.specs.Asked.{first_refusal, refusal_of}
use Rattle.slub_slabinfo_text.specs.Bulk.{free_order}
use Rattle.slub_rounds.specs.BulkLines.{frame_under, places_under, replied}
use Rattle.slub_rounds.specs.Heap.{HeapState}
use Rattle.slub_rounds.specs.Asked.{IsOpenTo}
use Rattle.slub_rounds.specs.ClientLaws.{IsNumber}
use Rattle.slub_rounds.proofs.Chosen.{order_all}
use Rattle.slub_bulk.proofs.Counting.{total_whole}

-- ---- numbers that differ

-- numbers that follow one another
pub range_differs : (first count : ℕ) → IsDistinct nat_eq (range_with_len first count)
range_differs first count = IsDistinct-from_apart nat_eq (range_with_len first count) (λ i j d before within.
    let long = length-range_with_len first count in
    let one : slice_index_or (range_with_len first count) i d ≡ first + i = get_or-range_with_len first count i d (omega (arith, before, within, long)) in
    let other : slice_index_or (range_with_len first count) j d ≡ first + j = get_or-range_with_len first count j d (omega (arith, within, long)) in
    rw (one, other) (grind (arith, before)))

pub range_known : (h : HeapState) (first count : ℕ) → 1 ≤ first → first + count ≤ length h.lists.board → All (IsNumber h) (range_with_len first count)
range_known h first count from within k d inside =
    let long = length-range_with_len first count in
    let at = get_or-range_with_len first count k d (omega (arith, inside, long)) in
    rw at (omega (arith, from), omega (arith, within, inside, long))

-- one more of them
pub range_next : (first at : ℕ) → range_with_len first (at + 1) ≡ range_with_len first at ++ (first + at) ∷ []
range_next first at = range_with_len-append first at 1

-- ---- the first of a list

-- none of the first so many passes, and the next one does
pub first_passes : (p : ℕ → Bool) (xs : List ℕ) (i : ℕ) → i < length xs → filter p (take i xs) ≡ [] → p (get_or xs i 0) ≡ true → Some (get_or xs i 0) ≡ slice_get (filter p xs) 0
first_passes p xs i within none passes =
    let split : filter p xs ≡ filter p (take i xs) ++ filter p (get_or xs i 0 ∷ drop (i + 1) xs) =
    ap (filter p) (sym (take-append-drop i xs) ∙ ap (λ (l : List ℕ). take i xs ++ l) (drop_more xs i 0 within)) ∙ filter-append p (take i xs) (get_or xs i 0 ∷ drop (i + 1) xs) in
    let here : filter p (get_or xs i 0 ∷ drop (i + 1) xs) ≡ get_or xs i 0 ∷ filter p (drop (i + 1) xs) = rw passes refl in
    sym (ap (λ (l : List ℕ). slice_get l 0) (split ∙ ap (λ (l : List ℕ). l ++ filter p (get_or xs i 0 ∷ drop (i + 1) xs)) none ∙ here))

-- none of the first so many replies is a refusal, and the next one is
pub first_refused : (replies : List Reply) (i : ℕ) (told : Reply) (why : CacheRefusal) → i < length replies → told ≡ get_or replies i told → filter_map refusal_of (take i replies) ≡ [] → Some why ≡ refusal_of told → Some why ≡ first_refusal replies
first_refused replies i told why within at none refuses =
    let split : filter_map refusal_of replies ≡ filter_map refusal_of (take i replies) ++ filter_map refusal_of (get_or replies i told ∷ drop (i + 1) replies) =
    ap (filter_map refusal_of) (sym (take-append-drop i replies) ∙ ap (λ (l : List Reply). take i replies ++ l) (drop_more replies i told within)) ∙ filter_map-append refusal_of (take i replies) (get_or replies i told ∷ drop (i + 1) replies) in
    let here : refusal_of (get_or replies i told) ≡ Some why = ap refusal_of (sym at) ∙ sym refuses in
    let first : filter_map refusal_of (get_or replies i told ∷ drop (i + 1) replies) ≡ why ∷ filter_map refusal_of (drop (i + 1) replies) = ap (λ x. cons_option x (filter_map refusal_of (drop (i + 1) replies))) here in
    sym (ap (λ (l : List CacheRefusal). slice_get l 0) (split ∙ ap (λ (l : List CacheRefusal). l ++ filter_map refusal_of (get_or replies i told ∷ drop (i + 1) replies)) none ∙ first))

pub none_refused : (replies : List Reply) (i : ℕ) (told : Reply) → i < length replies → told ≡ get_or replies i told → filter_map refusal_of (take i replies) ≡ [] → None ≡ refusal_of told → filter_map refusal_of (take (i + 1) replies) ≡ []
none_refused replies i told within at none gives =
    let next : take (i + 1) replies ≡ take i replies ++ told ∷ [] = take_more replies i told within ∙ ap (λ (one : Reply). take i replies ++ one ∷ []) (sym at) in
    ap (filter_map refusal_of) next ∙ filter_map-append refusal_of (take i replies) (told ∷ []) ∙ ap (λ (l : List CacheRefusal). l ++ filter_map refusal_of (told ∷ [])) none ∙ ap (λ x. cons_option x []) (sym gives)

-- ---- numbers among others

-- a number where its reply gives an object
abbrev pub number_given : ℕ × Reply → Option ℕ
number_given one = if is_given one.1 then Some one.0 else None

-- one more number and its reply
pub given_more : (numbers : List ℕ) (replies : List Reply) (i number : ℕ) (told : Reply) (given all : List ℕ) → i < length numbers → i < length replies → number ≡ get_or numbers i number → told ≡ get_or replies i told
    → given ≡ filter_map number_given (take i (zip numbers replies)) → all ≡ (if is_given told then given ++ number ∷ [] else given) → all ≡ filter_map number_given (take (i + 1) (zip numbers replies))
given_more numbers replies i number told given all in_numbers in_replies at_number at_reply so_far grown =
    let within : i < length (zip numbers replies) = omega (arith, length-zip numbers replies) in
    let here : get_or (zip numbers replies) i (number, told) ≡ (number, told) = get_or-zip numbers replies i (number, told) in_numbers in_replies ∙ cc in
    let next : take (i + 1) (zip numbers replies) ≡ take i (zip numbers replies) ++ (number, told) ∷ [] = take_more (zip numbers replies) i (number, told) within ∙ ap (λ (one : ℕ × Reply). take i (zip numbers replies) ++ one ∷ []) here in
    grown ∙ by (is_given told) refl ∙ ap (λ (l : List ℕ). l ++ filter_map number_given ((number, told) ∷ [])) so_far
    ∙ sym (filter_map-append number_given (take i (zip numbers replies)) ((number, told) ∷ [])) ∙ sym (ap (filter_map number_given) next)
  where
    by : (b : Bool) → is_given told ≡ b → (if is_given told then given ++ number ∷ [] else given) ≡ given ++ filter_map number_given ((number, told) ∷ [])
    by true is = rw is refl
    by false is = rw is (sym (append-nil given))

pub given_whole : (numbers : List ℕ) (replies : List Reply) (i : ℕ) (given : List ℕ) → i ≡ min (length numbers) (length replies) → given ≡ filter_map number_given (take i (zip numbers replies)) → given ≡ replied is_given numbers replies
given_whole numbers replies i given whole so_far = so_far ∙ ap (filter_map number_given) (take_all i (zip numbers replies) (omega (arith, length-zip numbers replies)))

pub order_known : (h : HeapState) (numbers : List ℕ) → All (IsNumber h) numbers → All (IsNumber h) (free_order (places_under h.lists numbers))
order_known h numbers known = order_all (IsNumber h) h.lists numbers known

pub order_long : (s : State) (numbers : List ℕ) → length (free_order (places_under s numbers)) ≡ length numbers
order_long s numbers = total_whole (places_under s numbers) ∙ length-map numbers (λ number. (number, frame_under s number))

-- the numbers of a trace's heap are those of every other one
pub numbers_kept : (h after : HeapState) (trace : Trace) (asked more : ℕ) (numbers : List ℕ) → IsOpenTo h trace asked → IsOpenTo after trace more → All (IsNumber h) numbers → All (IsNumber after) numbers
numbers_kept h after trace asked more numbers before now known = λ k d inside. ((known k d inside).0, (let less = (known k d inside).1 in omega (arith, less, before.objects, now.objects)))
