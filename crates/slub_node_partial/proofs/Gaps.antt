-- Taking one frame out of the list.
use Rattle.std.proofs.Common.{◌≡◌, ◌≢◌, ℕ, suc, ◌+◌, ◌-◌, ◌<◌, ◌≤◌, ◌⊎◌, List, ◌∷◌, ◌++◌, length, get_or, take, drop, remove, refl, sym, ◌∙◌, ap, inl, inr, arith, add-one, take-append-drop, length-take, length-drop, get_or-take, get_or-drop}
use Rattle.std.specs.List.{AllWithin, CopiedTo, SameBelow}
use Rattle.std.proofs.lemmas.Bool.{cases_lt}
use Rattle.std.proofs.lemmas.List.{same_lists, drop_more}
use Rattle.std.proofs.lemmas.List.Edits.{length-remove, get_or-remove_below, get_or-remove_above}
use Rattle.slub_node_partial.specs.PartialList.{IsTakenOut}

-- what the first place of a frame parts
pub taken_out : (frames : List ℕ) (place frame : ℕ) → place < length frames → get_or frames place 0 ≡ frame → AllWithin (λ other. other ≢ frame) frames 0 place
    → IsTakenOut frames frame (remove frames place)
taken_out frames place frame within is before = record {
  front = take place frames;
  rest = drop (suc place) frames;
  was = sym (take-append-drop place frames) ∙ ap (λ (xs : List ℕ). take place frames ++ xs) (drop_more frames place 0 within ∙ ap (λ (x : ℕ). x ∷ drop (place + 1) frames) is ∙ rw add-one refl);
  first = λ member.
      let early : member.0 < place = omega (arith, member.1, length-take place frames) in
      before member.0 frame (omega arith) early (sym (get_or-take place frames member.0 frame early) ∙ member.2);
  is = refl;
}

-- what stands at a place after the frames behind the gap moved up
at_place : (xs ys : List ℕ) (start end place k d : ℕ) → start ≤ end → end ≤ length xs → place < end - start → k < end - 1 - start
    → CopiedTo xs ys (start + place + 1) (start + place) (end - (start + place + 1)) → SameBelow xs ys (start + place)
    → (k < place) ⊎ (place ≤ k) → get_or ys (start + k) d ≡ get_or (remove (take (end - start) (drop start xs)) place) k d
at_place xs ys start end place k d forward inside there within moved same (inl before) =
    let frames = take (end - start) (drop start xs) in
    let long : place < length frames = omega (arith, length-take (end - start) (drop start xs), length-drop start xs) in
    let read : get_or frames k d ≡ get_or xs (start + k) d = get_or-take (end - start) (drop start xs) k d (omega arith) ∙ get_or-drop start xs k d in
    same (start + k) d (omega arith) ∙ sym read ∙ sym (get_or-remove_below frames place d k before long)
at_place xs ys start end place k d forward inside there within moved same (inr behind) =
    let frames = take (end - start) (drop start xs) in
    let long : place < length frames = omega (arith, length-take (end - start) (drop start xs), length-drop start xs) in
    let read : get_or frames (k + 1) d ≡ get_or xs (start + (k + 1)) d = get_or-take (end - start) (drop start xs) (k + 1) d (omega arith) ∙ get_or-drop start xs (k + 1) d in
    let from : start + place + 1 + (start + k - (start + place)) ≡ start + (k + 1) = omega arith in
    moved (start + k) d (omega arith) (omega arith) ∙ ap (λ (i : ℕ). get_or xs i d) from ∙ sym read ∙ sym (get_or-remove_above frames place d k behind long)

-- the frames behind the gap move up by one place
pub closed : (xs ys : List ℕ) (start end place : ℕ) → start ≤ end → end ≤ length xs → length ys ≡ length xs → place < end - start
    → CopiedTo xs ys (start + place + 1) (start + place) (end - (start + place + 1)) → SameBelow xs ys (start + place)
    → take (end - 1 - start) (drop start ys) ≡ remove (take (end - start) (drop start xs)) place
closed xs ys start end place forward inside long there moved same =
    let frames = take (end - start) (drop start xs) in
    let within : place < length frames = omega (arith, length-take (end - start) (drop start xs), length-drop start xs) in
    same_lists (take (end - 1 - start) (drop start ys)) (remove frames place)
    (omega (arith, length-take (end - 1 - start) (drop start ys), length-drop start ys, length-take (end - start) (drop start xs), length-drop start xs, length-remove frames place within))
    (λ k d less.
    let below : k < end - 1 - start = omega (arith, length-take (end - 1 - start) (drop start ys)) in
    get_or-take (end - 1 - start) (drop start ys) k d below ∙ get_or-drop start ys k d ∙ at_place xs ys start end place k d forward inside there below moved same (cases_lt k place))
