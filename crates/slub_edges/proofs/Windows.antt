-- The bytes of a window where a piece was read behind them, and where the last of them stay; and what comes of reading by it.
use Rattle.std.proofs.Common.{◌≡◌, ℕ, ◌+◌, ◌-◌, ◌≤◌, Option, List, [], ◌++◌, length, length-append, append_assoc, append-nil, take, drop, slice_range, refl, sym, ap, ◌∙◌, subst, arith}
use Rattle.std.proofs.KnownBytes.{Consumes-nil, Consumes-trans}
use Rattle.slub_edges.specs.declared.reading.ReadAllFault.{ReadAllFault}
use Rattle.slub_edges.specs.declared.reading.ReadAllFault.TheVariants.{Failed, TooLong, NoMemory}
use Rattle.slub_edges.specs.Edges.{Rose}
use Rattle.slub_edges.specs.Window.{Grows, Counts, StopsRead}
use Rattle.std.proofs.lemmas.List.{take_at, drop_at, take-append-le, drop-append-le, drop-take, drop-drop, length-take-le, length-drop}
use borrow.Rule.Slice.PartMut.{put_mid, post_of}
use lib.Seq.{take-add}

-- a piece was read behind the bytes
pub grown : (xs ys : List ℕ) (start end k n : ℕ) → start ≤ end → end ≤ length xs → n ≤ length ys → slice_range (put_mid end k xs ys) start (end + n) ≡ slice_range xs start end ++ take n ys
grown xs ys start end k n ordered within fits =
    let front = length-take-le end xs within in
    let held = drop start (take end xs) in
    let long : length held ≡ end - start = omega (arith, length-drop start (take end xs)) in
    let sum : end + n - start ≡ (end - start) + n = omega arith in
    let parts : end ≡ start + (end - start) = omega arith in
    let same : held ≡ take (end - start) (drop start xs) = ap (λ j. drop start (take j xs)) parts ∙ drop-take start (end - start) xs in
    let behind = ys ++ post_of end k xs in
    ap (take (end + n - start)) (drop-append-le start (take end xs) behind (omega arith)) ∙ ap (λ j. take j (held ++ behind)) sum ∙ take-add (end - start) n (held ++ behind)
    ∙ (rw (take_at held behind _ long, drop_at held behind _ long, take-append-le n ys (post_of end k xs) fits, same) refl)

-- so it is where the buffer is a Vec of that length
pub grown_in : (len : ℕ) (xs ys old : List ℕ) (start end k n : ℕ) → len ≡ length xs → length ys ≡ length xs - end → k ≡ length xs - end → start ≤ end → end ≤ length xs → n ≤ length ys
    → slice_range (take len (put_mid end k xs ys ++ old)) start (end + n) ≡ slice_range xs start end ++ take n ys
grown_in len xs ys old start end k n same tail last ordered within fits =
    let whole : length (put_mid end k xs ys) ≡ len = omega (arith, same, tail, within, length-append (take end xs) (ys ++ post_of end k xs), length-append ys (post_of end k xs), length-take-le end xs within, length-drop k (drop end xs), length-drop end xs, last) in
    ap (λ l. slice_range l start (end + n)) (take_at (put_mid end k xs ys) old len whole) ∙ grown xs ys start end k n ordered within fits

-- the last bytes stay
pub kept : (xs : List ℕ) (start end last : ℕ) → start ≤ end → end ≤ length xs → last ≤ length (slice_range xs start end)
    → slice_range xs (end - last) end ≡ drop (length (slice_range xs start end) - last) (slice_range xs start end)
kept xs start end last ordered within fits =
    let long : length (slice_range xs start end) ≡ end - start = length-take-le (end - start) (drop start xs) (omega (arith, length-drop start xs)) in
    let first : end - last ≡ start + (end - start - last) = omega (arith, long) in
    let some : end - (end - last) ≡ last = omega (arith, long) in
    let parts : end - start ≡ (end - start - last) + last = omega (arith, long) in
    ap (λ j. take j (drop (end - last) xs)) some ∙ ap (λ j. take last (drop j xs)) first ∙ ap (take last) (sym (drop-drop (end - start - last) start xs))
    ∙ sym (drop-take (end - start - last) last (drop start xs)) ∙ ap (λ j. drop (end - start - last) (take j (drop start xs))) (sym parts)
    ∙ ap (λ j. drop (j - last) (slice_range xs start end)) (sym long)

-- ---- pieces

pub grows_none : (told : Option (List ℕ)) (bytes : List ℕ) (count : ℕ) → Grows told told bytes bytes count count
grows_none told bytes count = record { more = []; read = Consumes-nil told; behind = sym (append-nil bytes); counted = omega arith }

pub grows_on : (a b c : Option (List ℕ)) (x y z : List ℕ) (k m n : ℕ) → Grows a b x y k m → Grows b c y z m n → Grows a c x z k n
grows_on a b c x y z k m n first second = record {
  more = first.more ++ second.more;
  read = Consumes-trans a b c first.more second.more first.read second.read;
  behind = second.behind ∙ ap (λ l. l ++ second.more) first.behind ∙ append_assoc x first.more second.more;
  counted = omega (arith, first.counted, second.counted, length-append first.more second.more);
}

pub counts_none : (told : Option (List ℕ)) (count : ℕ) → Counts told told count count
counts_none told count = record { more = []; read = Consumes-nil told; counted = omega arith }

pub counts_on : (a b c : Option (List ℕ)) (x y : List ℕ) (k m n : ℕ) → Counts a b k m → Grows b c x y m n → Counts a c k n
counts_on a b c x y k m n first second = record {
  more = first.more ++ second.more;
  read = Consumes-trans a b c first.more second.more first.read second.read;
  counted = omega (arith, first.counted, second.counted, length-append first.more second.more);
}

pub counts_of : (a b : Option (List ℕ)) (x y : List ℕ) (k m : ℕ) → Grows a b x y k m → Counts a b k m
counts_of a b x y k m grows = record { more = grows.more; read = grows.read; counted = grows.counted }

-- a stop behind counted bytes is one from before them
pub stops_from : (most : ℕ) (a b c : Option (List ℕ)) (k m old mid new : ℕ) (fault : ReadAllFault) → Counts a b k m → mid ≡ old → StopsRead most b c m mid new fault → StopsRead most a c k old new fault
stops_from most a b c k m old mid new NoMemory counts still stops = stops ∙ still
stops_from most a b c k m old mid new TooLong counts still stops = (
  record {
    more = counts.more ++ stops.0.more;
    read = Consumes-trans a b c counts.more stops.0.more counts.read stops.0.read;
    over = omega (arith, counts.counted, stops.0.over, length-append counts.more stops.0.more);
  },
  stops.1 ∙ still,
)
stops_from most a b c k m old mid new Failed counts still stops = subst (λ n. Rose n new) still stops
