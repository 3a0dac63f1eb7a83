-- Lists that end with copies of a value.
use Rattle.std.proofs.Common.{◌≡◌, ◌∙◌, ℕ, ◌+◌, ◌-◌, ◌<◌, ◌≤◌, List, [], ◌∷◌, ◌++◌, length, get_or, set, take, drop, replicate, refl, ap, sym, append_assoc, length-append, length-set, arith}
use Rattle.std.specs.List.{slice_range}
use Rattle.std.proofs.Math.ListN.{drop_of_length-le}
use Rattle.std.proofs.Math.Seq.{take-add, drop-append-add, drop-append_seam, take-append-add, take-append_seam}
use Rattle.std.proofs.lemmas.List.{append-nil, get_or-take, get_or-replicate, length-take-le, length-drop, set-append_left, replicate-append-replicate, length-replicate, take-replicate, drop-replicate, get_or-drop, take_more, ext_get_or}
use Rattle.std.proofs.lemmas.List.Folds.{drop_split}
use Rattle.std.proofs.lemmas.Grind.{replicate_next}

-- copies of a value are put behind a list, and one more
pub stored-next : {T : Type 0} (before now next : List T) (n : ℕ) (value : T) → now ≡ before ++ replicate n value → next ≡ now ++ value ∷ [] → next ≡ before ++ replicate (n + 1) value
stored-next before now next n value is more =
    more ∙ ap (λ xs. xs ++ value ∷ []) is ∙ append_assoc before (replicate n value) (value ∷ []) ∙ ap (λ xs. before ++ xs) (sym (replicate_next n value))

-- a word more of a part
pub one-more : (words : List ℕ) (from at : ℕ) → from ≤ at → at < length words → slice_range words from (at + 1) ≡ slice_range words from at ++ get_or words at 0 ∷ []
one-more words from at low inside =
    let next : at + 1 - from ≡ at - from + 1 = omega arith in
    let here : from + (at - from) ≡ at = omega arith in
    let left = length-drop from words in
    ap (λ (k : ℕ). take k (drop from words)) next ∙ take_more (drop from words) (at - from) 0 (omega arith)
    ∙ ap (λ (w : ℕ). take (at - from) (drop from words) ++ w ∷ []) (get_or-drop from words (at - from) 0 ∙ ap (λ (k : ℕ). get_or words k 0) here)

-- a part of words that are 0 from a place on
pub zeros-behind : (words : List ℕ) (from reach end : ℕ) → from ≤ reach → reach ≤ end → end ≤ length words → ((k : ℕ) → reach ≤ k → k < end → get_or words k 0 ≡ 0)
    → slice_range words from reach ++ replicate (end - reach) 0 ≡ slice_range words from end
zeros-behind words from reach end low high inside zero =
    let parts : end - from ≡ reach - from + (end - reach) = omega arith in
    let rest = drop (reach - from) (drop from words) in
    let here : from + (reach - from) ≡ reach = omega arith in
    let left = length-drop from words in
    let less = length-drop (reach - from) (drop from words) in
    let many = length-take-le (end - reach) rest (omega arith) in
    let count = length-replicate {A = ℕ} (end - reach) 0 in
    let zeros : take (end - reach) rest ≡ replicate (end - reach) 0 = ext_get_or 0 (take (end - reach) rest) (replicate (end - reach) 0) (omega arith) (λ k below.
    get_or-take (end - reach) rest k 0 (omega arith) ∙ get_or-drop (reach - from) (drop from words) k 0 ∙ get_or-drop from words (reach - from + k) 0
    ∙ zero (from + (reach - from + k)) (omega arith) (omega arith) ∙ sym (get_or-replicate (end - reach) k 0 0 (omega arith))) in
    sym (ap (λ (k : ℕ). take k (drop from words)) parts ∙ take-add (reach - from) (end - reach) (drop from words) ∙ ap (λ (l : List ℕ). slice_range words from reach ++ l) zeros)

-- a word behind the stored ones is written, and those before it are stored
pub written-behind : (stored now : List ℕ) (count at v : ℕ) → length stored ≤ at → at < count → now ≡ set (stored ++ replicate (at + 1 - length stored) 0) at v
    → now ++ replicate (count - length now) 0 ≡ set (stored ++ replicate (count - length stored) 0) at v
written-behind stored now count at v behind inside is =
    let n = length stored in
    let reached = stored ++ replicate (at + 1 - n) 0 in
    let long : length reached ≡ at + 1 = length-append stored (replicate (at + 1 - n) 0) ∙ ap (λ (k : ℕ). n + k) (length-replicate (at + 1 - n) 0) ∙ omega arith in
    let same : length now ≡ at + 1 = ap length is ∙ length-set reached at v ∙ long in
    let parts : count - n ≡ (at + 1 - n) + (count - (at + 1)) = omega arith in
    let split : stored ++ replicate (count - n) 0 ≡ reached ++ replicate (count - (at + 1)) 0 =
    ap (λ (k : ℕ). stored ++ replicate k 0) parts ∙ ap (λ (r : List ℕ). stored ++ r) (sym (replicate-append-replicate (at + 1 - n) (count - (at + 1)) 0))
    ∙ sym (append_assoc stored (replicate (at + 1 - n) 0) (replicate (count - (at + 1)) 0)) in
    (λ i. is i ++ replicate (count - same i) 0) ∙ sym (ap (λ (ws : List ℕ). set ws at v) split ∙ set-append_left reached (replicate (count - (at + 1)) 0) at v (omega arith))

-- words are laid on 0s, from a place on that isn't before those that were laid already
laid-on : (front words now : List ℕ) (n at : ℕ) → now ≡ front ++ replicate n 0 → length front ≤ at → at + length words ≤ length front + n
    → (take at now ++ words) ++ drop (at + length words) now ≡ ((front ++ replicate (at - length front) 0) ++ words) ++ replicate (length front + n - (at + length words)) 0
laid-on front words now n at is low room =
    let k = at - length front in
    let m = k + length words in
    let zeros : List ℕ = replicate n 0 in
    let here : at ≡ length front + k = omega arith in
    let there : at + length words ≡ length front + m = omega arith in
    let left : n - m ≡ length front + n - (at + length words) = omega arith in
    let taken : take at now ≡ front ++ replicate k 0 = (λ i. take (here i) (is i)) ∙ take-append-add front zeros k ∙ ap (λ (l : List ℕ). front ++ l) (take-replicate k n 0 (omega arith)) in
    let dropped : drop (at + length words) now ≡ replicate (length front + n - (at + length words)) 0 =
    (λ i. drop (there i) (is i)) ∙ drop-append-add front zeros m ∙ drop-replicate m n 0 ∙ ap (λ (j : ℕ). replicate j 0) left in
    λ i. (taken i ++ words) ++ dropped i

-- the same, where they are laid right behind those
laid-next : (front words now next : List ℕ) (n at : ℕ) → now ≡ front ++ replicate n 0 → at ≡ length front → length words ≤ n → next ≡ (take at now ++ words) ++ drop (at + length words) now
    → next ≡ (front ++ words) ++ replicate (n - length words) 0
laid-next front words now next n at is here room laid =
    let none : at - length front ≡ 0 = omega arith in
    let left : length front + n - (at + length words) ≡ n - length words = omega arith in
    laid ∙ laid-on front words now n at is (omega arith) (omega arith)
    ∙ (λ i. ((front ++ replicate (none i) 0) ++ words) ++ replicate (left i) 0) ∙ ap (λ (l : List ℕ). (l ++ words) ++ replicate (n - length words) 0) (append-nil front)

-- and where they are laid at the end
laid-last : (front words now next : List ℕ) (n at : ℕ) → now ≡ front ++ replicate n 0 → length front ≤ at → at + length words ≡ length front + n → next ≡ (take at now ++ words) ++ drop (at + length words) now
    → next ≡ (front ++ replicate (at - length front) 0) ++ words
laid-last front words now next n at is low all laid =
    let none : length front + n - (at + length words) ≡ 0 = omega arith in
    laid ∙ laid-on front words now n at is low (omega arith) ∙ ap (λ (k : ℕ). ((front ++ replicate (at - length front) 0) ++ words) ++ replicate k 0) none
    ∙ append-nil ((front ++ replicate (at - length front) 0) ++ words)

-- words are laid at the begin of a row of 0s, behind them, and at its end
pub laid-between : (before words behind row one two three : List ℕ) (last : ℕ) → row ≡ replicate (length row) 0 → length before + length words ≤ last → length row ≡ last + length behind
    → one ≡ (take 0 row ++ before) ++ drop (0 + length before) row → two ≡ (take (length before) one ++ words) ++ drop (length before + length words) one
    → three ≡ (take last two ++ behind) ++ drop (last + length behind) two → three ≡ ((before ++ words) ++ replicate (last - (length before + length words)) 0) ++ behind
laid-between before words behind row one two three last zeros low all first second third =
    let begun : one ≡ before ++ replicate (length row - length before) 0 = laid-next [] before row one (length row) 0 zeros refl (omega arith) first in
    let more : two ≡ (before ++ words) ++ replicate (length row - length before - length words) 0 = laid-next before words one two (length row - length before) (length before) begun refl (omega arith) second in
    let long : length (before ++ words) ≡ length before + length words = length-append before words in
    laid-last (before ++ words) behind two three (length row - length before - length words) last more (omega arith) (omega arith) third
    ∙ ap (λ (k : ℕ). ((before ++ words) ++ replicate (last - k) 0) ++ behind) long

-- a row of words that has 0s between two places is all 0 once it is 0 before the first and behind the second
pub cleared : (row one two : List ℕ) (stored last : ℕ) → stored ≤ last → last ≤ length row → slice_range row stored last ≡ replicate (last - stored) 0
    → one ≡ (take 0 row ++ replicate (stored - 0) 0) ++ drop stored row → two ≡ (take last one ++ replicate (length row - last) 0) ++ drop (length row) one → two ≡ replicate (length row) 0
cleared row one two stored last low inside zeros first second =
    let rest = drop last row in
    let parts : stored + (last - stored) ≡ last = omega arith in
    let whole : stored - 0 ≡ stored = omega arith in
    let begun : one ≡ replicate last 0 ++ rest =
    first ∙ ap (λ (k : ℕ). replicate k 0 ++ drop stored row) whole ∙ ap (λ (l : List ℕ). replicate stored 0 ++ l) (drop_split row stored last low ∙ ap (λ (l : List ℕ). l ++ rest) zeros)
    ∙ sym (append_assoc (replicate stored 0) (replicate (last - stored) 0) rest) ∙ ap (λ (l : List ℕ). l ++ rest) (replicate-append-replicate stored (last - stored) 0 ∙ ap (λ (k : ℕ). replicate k 0) parts) in
    let far = length-replicate {A = ℕ} last 0 in
    let long : length one ≡ length row = ap length begun ∙ length-append (replicate last 0) rest ∙ omega (arith, far, length-drop last row) in
    let head : take last one ≡ replicate last 0 = (λ i. take (sym far i) (begun i)) ∙ take-append_seam (replicate last 0) rest in
    let tail : drop (length row) one ≡ [] = drop_of_length-le one (omega arith) in
    let all : last + (length row - last) ≡ length row = omega arith in
    second ∙ (λ i. (head i ++ replicate (length row - last) 0) ++ tail i) ∙ append-nil (replicate last 0 ++ replicate (length row - last) 0)
    ∙ replicate-append-replicate last (length row - last) 0 ∙ ap (λ (k : ℕ). replicate k 0) all

-- the words that aren't stored are 0 in a row between others
pub zeros-between : (before words behind row : List ℕ) (n : ℕ) → length words ≤ n → row ≡ (before ++ (words ++ replicate (n - length words) 0)) ++ behind
    → slice_range row (length before + length words) (length before + n) ≡ replicate (length before + n - (length before + length words)) 0
zeros-between before words behind row n low is =
    let zeros : List ℕ = replicate (n - length words) 0 in
    let front : List ℕ = before ++ words in
    let whole : row ≡ front ++ (zeros ++ behind) =
    is ∙ ap (λ (l : List ℕ). l ++ behind) (sym (append_assoc before words zeros)) ∙ append_assoc front zeros behind in
    let long : length before + length words ≡ length front = sym (length-append before words) in
    let count : length before + n - (length before + length words) ≡ n - length words = omega arith in
    let many : n - length words ≡ length zeros = sym (length-replicate (n - length words) 0) in
    (λ i. take ((count ∙ many) i) (drop (long i) (whole i))) ∙ ap (take (length zeros)) (drop-append_seam front (zeros ++ behind)) ∙ take-append_seam zeros behind ∙ ap (λ (k : ℕ). replicate k 0) (sym count)

-- the same words, those that are stored and the others being told apart
pub laid-whole : (before words all behind row : List ℕ) (n : ℕ) → words ++ replicate (n - length words) 0 ≡ all
    → row ≡ ((before ++ words) ++ replicate (length before + n - (length before + length words)) 0) ++ behind → row ≡ (before ++ all) ++ behind
laid-whole before words all behind row n whole laid =
    let count : length before + n - (length before + length words) ≡ n - length words = omega arith in
    laid ∙ ap (λ (k : ℕ). ((before ++ words) ++ replicate k 0) ++ behind) count
    ∙ ap (λ (l : List ℕ). l ++ behind) (append_assoc before words (replicate (n - length words) 0) ∙ ap (λ (l : List ℕ). before ++ l) whole)

-- a row of which all was written anew
pub all-anew : (words first : List ℕ) (n : ℕ) → length words ≡ n → take n (words ++ drop (length words) first) ≡ words
all-anew words first n long = ap (λ (k : ℕ). take k (words ++ drop (length words) first)) (sym long) ∙ take-append_seam words (drop (length words) first)
