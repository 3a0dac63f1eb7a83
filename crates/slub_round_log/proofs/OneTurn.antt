-- What comes about in the turn of a worker ends with its only end.
use Rattle.std.proofs.Common.{◌≡◌, Bool, true, false, ◌||◌, if◌then◌else◌, List, [], ◌∷◌, ◌++◌, length, get_or, refl, ap, ◌∙◌}
use Rattle.std.specs.List.{list_any}
use Rattle.slub_core.specs.Words.{number_of, answer_of}
use Rattle.slub_core.specs.Setup.{Setup}
use Rattle.slub_core.specs.Local.{Local, Change, noted}
use Rattle.slub_core.specs.Steps.{changed, settled, step_of, rested, begun}
use Rattle.slub_core.specs.Run.{idle}
use Rattle.slub_turns.specs.Fits.{after_answer}
use Rattle.slub_turns.specs.Happenings.{Happening, Begins, Steps, Advances, Changing, Changed, change_told, settling_told}
use Rattle.slub_turns.specs.Spots.{is_at_once}
use Rattle.slub_round_log.specs.Laws.{HappeningsAreOneTurn, is_rest}

no_end_of : (one two : Happening) (b : Bool) → is_rest one ≡ false → is_rest two ≡ false → list_any is_rest (if b then (one ∷ two ∷ []) else []) ≡ false
no_end_of one two true not_so nor_so = ap (λ (b : Bool). b || (is_rest two || false)) not_so ∙ ap (λ (b : Bool). b || false) nor_so
no_end_of one two false not_so nor_so = refl

no_end_in : (m : Setup) (refused : Bool) (c : Change) → list_any is_rest (change_told m refused c) ≡ false
no_end_in m refused c =
    let l : Local = noted c.local c.reply in
    let next : Change = changed m refused c in
    no_end_of (Changing c.value l) (Changed next.value next.local next.reply) (is_at_once l.spot) refl refl

and_none : (b r q : Bool) → (r ≡ false → q ≡ false) → (b || r) ≡ false → (b || q) ≡ false
and_none true r q more not_so = not_so
and_none false r q more not_so = more not_so

no_end_among : (xs ys : List Happening) → list_any is_rest xs ≡ false → list_any is_rest ys ≡ false → list_any is_rest (xs ++ ys) ≡ false
no_end_among [] ys not_so nor_so = nor_so
no_end_among (x ∷ xs) ys not_so nor_so =
    and_none (is_rest x) (list_any is_rest xs) (list_any is_rest (xs ++ ys)) (λ h. no_end_among xs ys h nor_so) not_so

pub one_turn : HappeningsAreOneTurn
one_turn m refused s worker =
    let k : Local = begun m false (get_or s.locals worker idle) in
    let one : Change = after_answer m s k in
    let end : Change = settled m refused one in
    let l : Local = noted end.local end.reply in
    let nor_so : list_any is_rest (settling_told m refused one) ≡ false =
    no_end_among (change_told m refused one) (change_told m refused (changed m refused one)) (no_end_in m refused one) (no_end_in m refused (changed m refused one)) in
    record {
      front = Begins k ∷ Steps s.value k (step_of m s.value k) (answer_of (step_of m s.value k).op (get_or s.words (number_of m (step_of m s.value k).place) 0))
          ∷ Advances one.local one.reply ∷ settling_told m refused one;
      value = end.value;
      before = length l.done;
      last = rested m l;
      happenings_are = refl;
      none_ends = nor_so;
    }
