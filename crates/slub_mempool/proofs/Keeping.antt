-- What a line leaves of the reserves: each keeps no more than it may, no number stands twice, each is on the board.
use Rattle.std.proofs.Common.{◌≡◌, ℕ, zero, suc, ◌+◌, ◌<◌, ◌≤◌, cond, Bool, true, false, ◌||◌, eqb, List, [], ◌∷◌, ◌++◌, length, map, take, drop, get_or, set, refl, sym, ◌∙◌, ap, subst, All, arith, Option, Some, None, is_some, IsSome}
use Rattle.std.specs.List.{Contains, list_any}
use Rattle.std.proofs.lemmas.Bool.Decides.{nat_tests}
use Rattle.std.proofs.lemmas.List.{drop-set-lt, drop_more, length-append, length-map, length-set, map_push, take_more, take_more_set}
use Rattle.std.proofs.lemmas.List.Elements.{All-cons, All-head, All-nil, All-push, All-set, All-tail, Contains-push}
use Rattle.std.proofs.lemmas.List.Sums.{count_by-le-length, get_or-le-sum_by, length-filter, sum_by-cons, sum_by-set, sum_by_push}
use Rattle.slub_common.specs.Times.{times}
use Rattle.slub_common.proofs.Times.{times-cons, times-contained, times-filter_fail, times-filter_pass, times-push}
use Rattle.slub_lists.specs.declared.lists.Held.{Held}
use Rattle.slub_lists.specs.State.{State}
use Rattle.slub_lists.specs.Coherent.{held_under}
use Rattle.slub_trace.specs.declared.trace.Trace.{Trace}
use Rattle.slub_common.proofs.Writes.{inside-of}
use Rattle.slub_rounds.proofs.Staying.{held-or-none}
use Rattle.slub_mempool.specs.Serving.{AreKnown, IsUsable}
use Rattle.slub_rounds.specs.Reserves.{AreReserves, AreSoundReserves, IsSoundReserve, Reserve, has_number, kept_in, kept_of, no_reserve, reserve_at, times_in, with_numbers}

-- ---- numbers that are no longer on the board are dropped

kept-times : (s : State) (number : ℕ) (reserves : List Reserve) → times_in number (kept_in s reserves) ≤ times_in number reserves
kept-times s number [] = omega arith
kept-times s number (reserve ∷ reserves) =
    let first = sum_by-cons (λ (r : Reserve). times number r.numbers) reserve reserves in
    let now = sum_by-cons (λ (r : Reserve). times number r.numbers) (kept_of s reserve) (kept_in s reserves) in
    by (is_some (held_under s number)) refl first now (kept-times s number reserves)
  where
    by : (b : Bool) → is_some (held_under s number) ≡ b
        → times_in number (reserve ∷ reserves) ≡ times number reserve.numbers + times_in number reserves
        → times_in number (kept_in s (reserve ∷ reserves)) ≡ times number (kept_of s reserve).numbers + times_in number (kept_in s reserves)
        → times_in number (kept_in s reserves) ≤ times_in number reserves
        → times_in number (kept_in s (reserve ∷ reserves)) ≤ times_in number (reserve ∷ reserves)
    by true is first now rest = omega (arith, first, now, rest, times-filter_pass number (λ number. is_some (held_under s number)) reserve.numbers is)
    by false is first now rest = omega (arith, first, now, rest, times-filter_fail number (λ number. is_some (held_under s number)) reserve.numbers is)

kept-none : (s : State) (number : ℕ) (reserves : List Reserve) → is_some (held_under s number) ≡ false → times_in number (kept_in s reserves) ≡ 0
kept-none s number [] is = refl
kept-none s number (reserve ∷ reserves) is =
    omega (arith, sum_by-cons (λ (r : Reserve). times number r.numbers) (kept_of s reserve) (kept_in s reserves), kept-none s number reserves is, times-filter_fail number (λ number. is_some (held_under s number)) reserve.numbers is)

kept-held : (s : State) (number : ℕ) (reserves : List Reserve) → 0 < times_in number (kept_in s reserves) → IsSome (held_under s number)
kept-held s number reserves some = by (held_under s number) refl
  where
    by : (x : Option Held) → held_under s number ≡ x → IsSome (held_under s number)
    by None is = absurd (omega (arith, some, kept-none s number reserves (rw is refl)))
    by (Some held) is = rw is refl

kept-sound : (s : State) (trace : Trace) (reserves : List Reserve) → All (IsSoundReserve trace) reserves → All (IsSoundReserve trace) (kept_in s reserves)
kept-sound s trace [] each = All-nil (IsSoundReserve trace)
kept-sound s trace (reserve ∷ reserves) each =
    let mine = All-head (IsSoundReserve trace) reserve reserves each in
    let few = count_by-le-length (λ number. is_some (held_under s number)) reserve.numbers in
    let long = length-filter (λ number. is_some (held_under s number)) reserve.numbers in
    All-cons (IsSoundReserve trace) (kept_of s reserve) (kept_in s reserves)
    (record { cache = mine.cache; min_nr = mine.min_nr; within = omega (arith, mine.within, few, long) })
    (kept-sound s trace reserves (All-tail (IsSoundReserve trace) reserve reserves each))

-- what is left is on the board
pub dropped : (s : State) (trace : Trace) (reserves : List Reserve) → AreSoundReserves trace reserves → AreReserves s trace (kept_in s reserves)
dropped s trace reserves sound = record {
  sound = record {
    few = omega (arith, sound.few, length-map reserves (kept_of s));
    each = kept-sound s trace reserves sound.each;
    once = λ number. omega (arith, kept-times s number reserves, sound.once number);
  };
  held = λ number some. kept-held s number reserves some;
}

-- ---- one reserve after the other

-- one more has what is on the board
module _ (s : State) (now first : List Reserve) (i : ℕ) (item fresh : Reserve) (inside : i < length now) (as_long : length now ≡ length first)
    (down : take i now ≡ map (kept_of s) (take i first)) (rest : drop i now ≡ drop i first) (at : item ≡ get_or now i item) (is : fresh ≡ kept_of s item) where
  next : get_or now i item ∷ drop (i + 1) now ≡ get_or first i item ∷ drop (i + 1) first
  next = sym (drop_more now i item inside) ∙ rest ∙ drop_more first i item (omega arith)

  pub kept-next : take (i + 1) (set now i fresh) ≡ map (kept_of s) (take (i + 1) first)
  kept-next =
      let e = next in
      let same : item ≡ get_or first i item = cc in
      take_more_set now i fresh inside ∙ ap (λ (l : List Reserve). l ++ fresh ∷ []) down ∙ ap (λ (r : Reserve). map (kept_of s) (take i first) ++ r ∷ []) (is ∙ ap (kept_of s) same)
      ∙ sym (ap (map (kept_of s)) (take_more first i item (omega arith)) ∙ map_push (kept_of s) (take i first) (get_or first i item))

  pub kept-rest : drop (i + 1) (set now i fresh) ≡ drop (i + 1) first
  kept-rest = let e = next in drop-set-lt (i + 1) now i fresh (omega arith) ∙ (let r : drop (i + 1) now ≡ drop (i + 1) first = cc in r)

-- ---- which numbers and reserves can be used

-- what is on the board has a number of the machine
pub known-of : (s : State) (trace : Trace) (reserves : List Reserve) → AreReserves s trace reserves → AreKnown s reserves
known-of s trace reserves are number some = by (held_under s number) refl (are.held number some)
  where
    by : (x : Option Held) → held_under s number ≡ x → IsSome x → number < length s.board
    by None is some = absurd (cc)
    by (Some held) is some = inside-of s.board number held is

-- and still, on a board of as many numbers
pub known-after : (s after : State) (reserves : List Reserve) → length after.board ≡ length s.board → AreKnown s reserves → AreKnown after reserves
known-after s after reserves long known number some = omega (arith, known number some, long)

pub usable-of : (s : State) (trace : Trace) (reserves : List Reserve) → s.table.kept ≡ trace.names → AreReserves s trace reserves → All (IsUsable s) reserves
usable-of s trace reserves names are k d inside =
    let each = are.sound.each k d inside in
    let long : length s.table.kept ≡ length trace.names = ap (λ (l : List (List ℕ)). length l) names in (omega (arith, each.cache, long), each.min_nr)

-- the last number of a reserve stands in the reserves
pub last-in : (reserves : List Reserve) (at last : ℕ) (rest : List ℕ) → at < length reserves → (reserve_at reserves at).numbers ≡ rest ++ last ∷ [] → 0 < times_in last reserves
last-in reserves at last rest within is =
    let mine : Contains (reserve_at reserves at).numbers last = subst (λ (l : List ℕ). Contains l last) (sym is) (Contains-push rest last) in
    omega (arith, times-contained last (reserve_at reserves at).numbers mine, get_or-le-sum_by (λ (r : Reserve). times last r.numbers) reserves at no_reserve within)

-- ---- the board of another machine

-- where each number stays on the board, so do the reserves
pub still : (s : State) (trace : Trace) (reserves : List Reserve) (after : State) → AreReserves s trace reserves
    → ((number : ℕ) → 0 < times_in number reserves → IsSome (held_under s number) → IsSome (held_under after number)) → AreReserves after trace reserves
still s trace reserves after are stay = record { sound = are.sound; held = λ number some. stay number some (are.held number some) }

-- ---- one more reserve

pub made : (s : State) (trace : Trace) (reserves : List Reserve) (fresh : Reserve) (after : State) → AreReserves s trace reserves → length reserves < 8 → IsSoundReserve trace fresh
    → ((number : ℕ) → times number fresh.numbers ≤ 1) → ((number : ℕ) → 0 < times number fresh.numbers → held_under s number ≡ None)
    → ((number : ℕ) → 0 < times number fresh.numbers → IsSome (held_under after number))
    → ((number : ℕ) → 0 < times_in number reserves → IsSome (held_under s number) → IsSome (held_under after number)) → AreReserves after trace (reserves ++ fresh ∷ [])
made s trace reserves fresh after are room sound once unheld come stay = record {
  sound = record {
    few = omega (arith, room, length-append reserves (fresh ∷ []));
    each = All-push (IsSoundReserve trace) reserves fresh are.sound.each sound;
    once = both;
  };
  held = λ number some. held number some (times number fresh.numbers) refl;
}
  where
    all : (number : ℕ) → times_in number (reserves ++ fresh ∷ []) ≡ times_in number reserves + times number fresh.numbers
    all number = sum_by_push (λ (r : Reserve). times number r.numbers) reserves fresh

    none-before : (number : ℕ) → 0 < times number fresh.numbers → times_in number reserves ≡ 0
    none-before number some = by (times_in number reserves) refl
      where
        by : (n : ℕ) → times_in number reserves ≡ n → times_in number reserves ≡ 0
        by zero is = is
        by (suc n) is = absurd (held-or-none s number (are.held number (omega (arith, is))) (unheld number some))

    both : (number : ℕ) → times_in number (reserves ++ fresh ∷ []) ≤ 1
    both number = by (times number fresh.numbers) refl
      where
        by : (n : ℕ) → times number fresh.numbers ≡ n → times_in number (reserves ++ fresh ∷ []) ≤ 1
        by zero is = omega (arith, all number, is, are.sound.once number)
        by (suc n) is = omega (arith, all number, once number, none-before number (omega (arith, is)))

    held : (number : ℕ) → 0 < times_in number (reserves ++ fresh ∷ []) → (n : ℕ) → times number fresh.numbers ≡ n → IsSome (held_under after number)
    held number some zero is = let more : 0 < times_in number reserves = omega (arith, some, all number, is) in stay number more (are.held number more)
    held number some (suc n) is = come number (omega (arith, is))

-- ---- other numbers in one reserve

module _ (s : State) (trace : Trace) (reserves : List Reserve) (at : ℕ) (numbers : List ℕ) (after : State) (are : AreReserves s trace reserves) (within : at < length reserves) where
  abbrev old : Reserve
  old = reserve_at reserves at

  now-times : (number : ℕ) → times_in number (with_numbers reserves at numbers) + times number old.numbers ≡ times_in number reserves + times number numbers
  now-times number = sum_by-set (λ (r : Reserve). times number r.numbers) reserves at (record old { numbers = numbers }) no_reserve within

  own-times : (number : ℕ) → times number old.numbers ≤ times_in number reserves
  own-times number = get_or-le-sum_by (λ (r : Reserve). times number r.numbers) reserves at no_reserve within

  own-sound : IsSoundReserve trace old
  own-sound = are.sound.each at no_reserve within

  pub changed : length numbers ≤ old.min_nr → ((number : ℕ) → times_in number (with_numbers reserves at numbers) ≤ 1)
      → ((number : ℕ) → 0 < times_in number (with_numbers reserves at numbers) → IsSome (held_under after number)) → AreReserves after trace (with_numbers reserves at numbers)
  changed fits once held = record {
    sound = record {
      few = omega (arith, are.sound.few, length-set reserves at (record old { numbers = numbers }));
      each = All-set (IsSoundReserve trace) reserves at (record old { numbers = numbers }) (record { cache = own-sound.cache; min_nr = own-sound.min_nr; within = fits }) are.sound.each;
      once = once;
    };
    held = held;
  }

-- the last number leaves it
pub lent : (s : State) (trace : Trace) (reserves : List Reserve) (at last : ℕ) (rest : List ℕ) (after : State) → AreReserves s trace reserves → at < length reserves
    → (reserve_at reserves at).numbers ≡ rest ++ last ∷ [] → ((number : ℕ) → 0 < times_in number reserves → IsSome (held_under s number) → IsSome (held_under after number))
    → AreReserves after trace (with_numbers reserves at rest)
lent s trace reserves at last rest after are within is stay =
    changed s trace reserves at rest after are within
    (let fits = (own-sound s trace reserves at rest after are within).within in omega (arith, fits, long, length-append rest (last ∷ [])))
    (λ number. omega (arith, less number, are.sound.once number))
    (λ number some. let more : 0 < times_in number reserves = omega (arith, some, less number) in stay number more (are.held number more))
  where
    long : length (reserve_at reserves at).numbers ≡ length (rest ++ last ∷ [])
    long = ap (λ (l : List ℕ). length l) is

    less : (number : ℕ) → times_in number (with_numbers reserves at rest) ≤ times_in number reserves
    less number = omega (arith, now-times s trace reserves at rest after are within number, ap (times number) is, times-push number last rest)

abbrev one_where : Bool → ℕ
one_where b = cond b 1 0

-- a number that no reserve has goes last
no-number : (number : ℕ) (numbers : List ℕ) → list_any (λ other. eqb other number) numbers ≡ false → times number numbers ≡ 0
no-number number [] is = refl
no-number number (other ∷ numbers) is = by (eqb other number) refl is (λ rest. no-number number numbers rest)
  where
    by : (b : Bool) → eqb other number ≡ b → (b || list_any (λ other. eqb other number) numbers) ≡ false → (list_any (λ other. eqb other number) numbers ≡ false → times number numbers ≡ 0) → times number (other ∷ numbers) ≡ 0
    by true e is later = absurd (let never : true ≡ false = is in cc)
    by false e is later = let here : one_where (eqb other number) ≡ 0 = rw e refl in omega (arith, times-cons number other numbers, here, later is)

pub in-none : (number : ℕ) (reserves : List Reserve) → list_any (has_number number) reserves ≡ false → times_in number reserves ≡ 0
in-none number [] is = refl
in-none number (reserve ∷ reserves) is = by (has_number number reserve) refl is (λ rest. in-none number reserves rest)
  where
    by : (b : Bool) → has_number number reserve ≡ b → (b || list_any (has_number number) reserves) ≡ false → (list_any (has_number number) reserves ≡ false → times_in number reserves ≡ 0) → times_in number (reserve ∷ reserves) ≡ 0
    by true e is later = absurd (let never : true ≡ false = is in cc)
    by false e is later = omega (arith, sum_by-cons (λ (r : Reserve). times number r.numbers) reserve reserves, no-number number reserve.numbers e, later is)

pub put : (s : State) (trace : Trace) (reserves : List Reserve) (at object : ℕ) → AreReserves s trace reserves → at < length reserves
    → length (reserve_at reserves at).numbers < (reserve_at reserves at).min_nr → list_any (has_number object) reserves ≡ false → IsSome (held_under s object)
    → AreReserves s trace (with_numbers reserves at ((reserve_at reserves at).numbers ++ object ∷ []))
put s trace reserves at object are within room none here =
    changed s trace reserves at ((reserve_at reserves at).numbers ++ object ∷ []) s are within
    (omega (arith, room, length-append (reserve_at reserves at).numbers (object ∷ [])))
    (λ number. once number (eqb object number) refl) (λ number some. held number some (eqb object number) refl)
  where
    more : (number : ℕ) → times_in number (with_numbers reserves at ((reserve_at reserves at).numbers ++ object ∷ [])) ≡ times_in number reserves + one_where (eqb object number)
    more number = omega (arith, now-times s trace reserves at ((reserve_at reserves at).numbers ++ object ∷ []) s are within number, times-push number object (reserve_at reserves at).numbers)

    same : (number : ℕ) → eqb object number ≡ true → object ≡ number
    same number is = grind (arith, nat_tests, is)

    once : (number : ℕ) (b : Bool) → eqb object number ≡ b → times_in number (with_numbers reserves at ((reserve_at reserves at).numbers ++ object ∷ [])) ≤ 1
    once number true is =
        let before : times_in number reserves ≡ 0 = ap (λ n. times_in n reserves) (sym (same number is)) ∙ in-none object reserves none in
        let one : one_where (eqb object number) ≡ 1 = rw is refl in
        omega (arith, more number, before, one)
    once number false is = let none : one_where (eqb object number) ≡ 0 = rw is refl in omega (arith, more number, none, are.sound.once number)

    held : (number : ℕ) → 0 < times_in number (with_numbers reserves at ((reserve_at reserves at).numbers ++ object ∷ [])) → (b : Bool) → eqb object number ≡ b → IsSome (held_under s number)
    held number some true is = subst (λ n. IsSome (held_under s n)) (same number is) here
    held number some false is = let none : one_where (eqb object number) ≡ 0 = rw is refl in are.held number (omega (arith, some, more number, none))
