-- The options that the words give, and the rows that `clap` makes of them.
use Rattle.std.proofs.Common.{◌≡◌, ℕ, suc, ◌+◌, ◌≤◌, Bool, true, false, ◌&&◌, ◌||◌, Option, Some, None, List, [], ◌∷◌, ◌++◌, map, length, drop, eqb, refl, sym, ap, ap₂, ◌∙◌, arith, inl, inr, subst, codes, append_assoc, append-nil, add-one}
use Rattle.std.specs.Prelude.{if◌then◌else◌, unwrap_or}
use Rattle.std.specs.List.{list_all, before_first, after_first, position_or_len}
use Rattle.std.specs.Str.{bytes_eq}
use Rattle.std.proofs.lemmas.Bool.{false≢true, and_parts, cases_Bool, eqb-true}
use Rattle.std.proofs.lemmas.List.Folds.{list_any-append}
use Rattle.clap.specs.Lexer.{long_of, short_of, has_byte, name_and_value}
use Rattle.clap.specs.Walk.{Row, Text, idle, has_row}
use Rattle.slub_command.specs.Options.{Given, how_given, seed_given, replies_given, IsValued, IsGiven, AreGiven, hows, seeds, times_replies, is_bare}
use Rattle.slub_command.specs.Arguments.{no_dashes}
use Rattle.slub_command.proofs.Walks.{shape, row, flag_row, at, rest, not_true, how_class, seed_class, replies_class, unknown, bundled, bare, class_of, stray_ends, carry, conflict, waits_value, waits_next, waits_end, attached, attached_again, named, flagged, flagged_again, flagged_with, IsOption, how_option, seed_option}

-- ---- words that name an option

plus_one : (n : ℕ) → 1 + n ≡ suc n
plus_one n = omega arith

before_equals : (text : Text) → has_byte 61 text ≡ false → before_first (λ x. eqb x 61) text ≡ text
before_equals [] none = refl
before_equals (c ∷ cs) none =
    elim (cases_Bool (eqb c 61)) [
      | inl same ↦ absurd (false≢true (sym none ∙ rw same refl))
      | inr other ↦ rw (other, plus_one) (ap (λ t. c ∷ t) (before_equals cs (rw other at none)))
    ]

around_equals : (text : Text) → has_byte 61 text ≡ true → text ≡ before_first (λ x. eqb x 61) text ++ 61 ∷ after_first (λ x. eqb x 61) text
around_equals [] some = absurd (false≢true some)
around_equals (c ∷ cs) some =
    elim (cases_Bool (eqb c 61)) [
      | inl same ↦ rw same (ap (λ x. x ∷ cs) (eqb-true c 61 same))
      | inr other ↦
          let rest_is = around_equals cs (rw other at some) in
          let more : cs ≡ before_first (λ x. eqb x 61) cs ++ 61 ∷ drop (suc (position_or_len (λ x. eqb x 61) cs)) cs = rw add-one at rest_is in
          rw (other, add-one, plus_one) (ap (λ t. c ∷ t) more)
    ]

-- ---- the row of an option

abbrev pub row_of : Given → Row
row_of (how_given value) = row (codes "how") value
row_of (seed_given value) = row (codes "seed") value
row_of replies_given = flag_row

abbrev pub rows_of : List Given → List Row
rows_of given = map row_of given

abbrev pub taken : Text → List Row → ℕ
taken id rows = if has_row id rows then 1 else 0

-- the options may follow these rows: none comes twice
pub record Fits (rows : List Row) (given : List Given) : Type 0 where
  pub how : taken (codes "how") rows + length (hows given) ≤ 1
  pub seed : taken (codes "seed") rows + length (seeds given) ≤ 1
  pub replies : taken (codes "replies") rows + times_replies given ≤ 1

few : (id : Text) (rows : List Row) → taken id rows + 0 ≤ 1
few id rows = elim (cases_Bool (has_row id rows)) [ inl is ↦ rw is (omega arith) | inr is ↦ rw is (omega arith) ]

fits_none : (rows : List Row) → Fits rows []
fits_none rows = record { how = few (codes "how") rows; seed = few (codes "seed") rows; replies = few (codes "replies") rows }

-- one row more
more_rows : (id : Text) (rows : List Row) (r : Row) → has_row id (rows ++ r ∷ []) ≡ (has_row id rows || (bytes_eq r.id id || false))
more_rows id rows r = list_any-append _ rows (r ∷ [])

took : (id : Text) (rows : List Row) (r : Row) → bytes_eq r.id id ≡ true → has_row id rows ≡ false → taken id (rows ++ r ∷ []) ≡ 1
took id rows r same fresh = rw (more_rows id rows r, fresh, same) refl

left : (id : Text) (rows : List Row) (r : Row) → bytes_eq r.id id ≡ false → taken id (rows ++ r ∷ []) ≡ taken id rows
left id rows r other = rw (more_rows id rows r, other) (elim (cases_Bool (has_row id rows)) [ inl is ↦ rw is refl | inr is ↦ rw is refl ])

free : (id : Text) (rows : List Row) (n : ℕ) → taken id rows + suc n ≤ 1 → has_row id rows ≡ false
free id rows n low =
    elim (cases_Bool (has_row id rows)) [
      | inl is ↦ let high : 1 + suc n ≤ 1 = rw is at low in absurd (omega arith)
      | inr is ↦ is
    ]

free_none : (id : Text) (rows : List Row) → has_row id rows ≡ false → taken id rows ≡ 0
free_none id rows is = rw is refl

-- an option that fits, and those after it
fits_how : (rows : List Row) (value : Text) (given : List Given) → Fits rows (how_given value ∷ given) → (has_row (codes "how") rows ≡ false) × Fits (rows ++ row (codes "how") value ∷ []) given
fits_how rows value given fits =
    let fresh = free (codes "how") rows (length (hows given)) fits.how in
    let none = free_none (codes "how") rows fresh in
    let one = took (codes "how") rows (row (codes "how") value) refl fresh in
    let how_low = fits.how in (
      fresh,
      record {
        how = rw one (omega arith);
        seed = rw (left (codes "seed") rows (row (codes "how") value) refl) fits.seed;
        replies = rw (left (codes "replies") rows (row (codes "how") value) refl) fits.replies;
      },
    )

fits_seed : (rows : List Row) (value : Text) (given : List Given) → Fits rows (seed_given value ∷ given) → (has_row (codes "seed") rows ≡ false) × Fits (rows ++ row (codes "seed") value ∷ []) given
fits_seed rows value given fits =
    let fresh = free (codes "seed") rows (length (seeds given)) fits.seed in
    let one = took (codes "seed") rows (row (codes "seed") value) refl fresh in
    let low = fits.seed in (
      fresh,
      record {
        how = rw (left (codes "how") rows (row (codes "seed") value) refl) fits.how;
        seed = rw one (omega arith);
        replies = rw (left (codes "replies") rows (row (codes "seed") value) refl) fits.replies;
      },
    )

fits_replies : (rows : List Row) (given : List Given) → Fits rows (replies_given ∷ given) → (has_row (codes "replies") rows ≡ false) × Fits (rows ++ flag_row ∷ []) given
fits_replies rows given fits =
    let fresh = free (codes "replies") rows (times_replies given) fits.replies in
    let one = took (codes "replies") rows flag_row refl fresh in
    let low = fits.replies in (
      fresh,
      record {
        how = rw (left (codes "how") rows flag_row refl) fits.how;
        seed = rw (left (codes "seed") rows flag_row refl) fits.seed;
        replies = rw one (omega arith);
      },
    )

-- the converse
how_fits : (rows : List Row) (value : Text) (given : List Given) → has_row (codes "how") rows ≡ false → Fits (rows ++ row (codes "how") value ∷ []) given → Fits rows (how_given value ∷ given)
how_fits rows value given fresh fits =
    let one = took (codes "how") rows (row (codes "how") value) refl fresh in
    let none = free_none (codes "how") rows fresh in
    let low = fits.how in
    let other = left (codes "seed") rows (row (codes "how") value) refl in
    let third = left (codes "replies") rows (row (codes "how") value) refl in
    let second_low = fits.seed in
    let third_low = fits.replies in
    record {
      how = omega arith;
      seed = omega arith;
      replies = omega arith;
    }

seed_fits : (rows : List Row) (value : Text) (given : List Given) → has_row (codes "seed") rows ≡ false → Fits (rows ++ row (codes "seed") value ∷ []) given → Fits rows (seed_given value ∷ given)
seed_fits rows value given fresh fits =
    let one = took (codes "seed") rows (row (codes "seed") value) refl fresh in
    let none = free_none (codes "seed") rows fresh in
    let low = fits.seed in
    let other = left (codes "how") rows (row (codes "seed") value) refl in
    let third = left (codes "replies") rows (row (codes "seed") value) refl in
    let second_low = fits.how in
    let third_low = fits.replies in
    record {
      how = omega arith;
      seed = omega arith;
      replies = omega arith;
    }

replies_fit : (rows : List Row) (given : List Given) → has_row (codes "replies") rows ≡ false → Fits (rows ++ flag_row ∷ []) given → Fits rows (replies_given ∷ given)
replies_fit rows given fresh fits =
    let one = took (codes "replies") rows flag_row refl fresh in
    let none = free_none (codes "replies") rows fresh in
    let low = fits.replies in
    let other = left (codes "how") rows flag_row refl in
    let third = left (codes "seed") rows flag_row refl in
    let second_low = fits.how in
    let third_low = fits.seed in
    record {
      how = omega arith;
      seed = omega arith;
      replies = omega arith;
    }

-- ---- words with no hyphen in front

bare_word : (value : Text) → is_bare value ≡ true → (long_of value ≡ None) × (short_of value ≡ None)
bare_word [] is = (refl, refl)
bare_word (c ∷ cs) is = let other = not_true (eqb c 45) is in (rw other refl, rw other refl)

-- ---- options that are given are read

-- one option with a value, and what follows it
valued_step : (id name : Text) → IsOption id name → (rows : List Row) (value : Text) (front words more : List Text) → IsValued name value front → words ≡ front ++ more
    → no_dashes words ≡ true → is_bare value ≡ true → has_row id rows ≡ false → (rest shape (at rows None idle) words ≡ rest shape (at (rows ++ row id value ∷ []) None idle) more) × (no_dashes more ≡ true)
valued_step id name option rows value front words more (inl apart) is clean good fresh =
    let whole : words ≡ name ∷ value ∷ more = is ∙ ap (λ f. f ++ more) apart in
    let all = rw whole at clean in
    let tail = (and_parts _ _ all).1 in
    let last = and_parts _ _ tail in
    let plain = bare_word value good in
    let step = named rows id name name (value ∷ more) option option.not_dashes option.alone
    ∙ (waits_value id rows value more option.known option.same (not_true (bytes_eq value (45 ∷ 45 ∷ [])) last.0) plain.0 plain.1 ∙ carry id rows value more option.known fresh last.1) in
    (ap (λ w. rest shape (at rows None idle) w) whole ∙ step, last.1)
valued_step id name option rows value front words more (inr joined) is clean good fresh =
    let whole : words ≡ (name ++ 61 ∷ value) ∷ more = is ∙ ap (λ f. f ++ more) joined in
    let all = rw whole at clean in
    let step = attached rows id name (name ++ 61 ∷ value) value more option (option.not_dashes_with value) (option.with_value value) fresh in
    (ap (λ w. rest shape (at rows None idle) w) whole ∙ step, (and_parts _ _ all).1)

abbrev pub are_bare : List Given → Bool
are_bare given = list_all is_bare (hows given) && list_all is_bare (seeds given)

bare_first : (a b c : Bool) → ((a && b) && c) ≡ true → (a ≡ true) × ((b && c) ≡ true)
bare_first true b c is = (refl, is)
bare_first false b c is = absurd (false≢true is)

bare_second : (a b c : Bool) → (a && (b && c)) ≡ true → (b ≡ true) × ((a && c) ≡ true)
bare_second true b c is = and_parts b c is
bare_second false b c is = absurd (false≢true is)

pub complete : (rows : List Row) (given : List Given) (words : List Text) → AreGiven given words → no_dashes words ≡ true → are_bare given ≡ true → Fits rows given
    → rest shape (at rows None idle) words ≡ Some (rows ++ rows_of given)
unfolding rest
complete rows [] words is clean good fits = rw is (ap (λ (r : List Row). Some r) (sym (append-nil rows)))
complete rows (how_given value ∷ given) words (front, more, is, spelled, others) clean good fits =
    let first = bare_first (is_bare value) (list_all is_bare (hows given)) (list_all is_bare (seeds given)) good in
    let fit = fits_how rows value given fits in
    let step = valued_step (codes "how") (codes "--how") how_option rows value front words more spelled is clean first.0 fit.0 in
    let after = complete (rows ++ row (codes "how") value ∷ []) given more others step.1 first.1 fit.1 in
    step.0 ∙ (after ∙ ap (λ (r : List Row). Some r) (append_assoc rows (row (codes "how") value ∷ []) (rows_of given)))
complete rows (seed_given value ∷ given) words (front, more, is, spelled, others) clean good fits =
    let first = bare_second (list_all is_bare (hows given)) (is_bare value) (list_all is_bare (seeds given)) good in
    let fit = fits_seed rows value given fits in
    let step = valued_step (codes "seed") (codes "--seed") seed_option rows value front words more spelled is clean first.0 fit.0 in
    let after = complete (rows ++ row (codes "seed") value ∷ []) given more others step.1 first.1 fit.1 in
    step.0 ∙ (after ∙ ap (λ (r : List Row). Some r) (append_assoc rows (row (codes "seed") value ∷ []) (rows_of given)))
complete rows (replies_given ∷ given) words (front, more, is, spelled, others) clean good fits =
    let whole : words ≡ codes "--replies" ∷ more = is ∙ ap (λ f. f ++ more) spelled in
    let all = rw whole at clean in
    let fit = fits_replies rows given fits in
    let step = flagged rows (codes "--replies") more refl refl fit.0 in
    let after = complete (rows ++ flag_row ∷ []) given more others all good fit.1 in
    ap (λ w. rest shape (at rows None idle) w) whole ∙ (step ∙ (after ∙ ap (λ (r : List Row). Some r) (append_assoc rows (flag_row ∷ []) (rows_of given))))

-- ---- words that are read give options

-- a long word is two hyphens and its text
long_text : (word id : Text) (value : Option Text) → long_of word ≡ Some (id, value) → (text : Text) × (word ≡ 45 ∷ 45 ∷ text) × (name_and_value text ≡ (id, value))
long_text [] id value is = cc
long_text (a ∷ []) id value is =
    elim (cases_Bool (eqb a 45)) [
      | inl same ↦ let none = rw same at is in cc
      | inr other ↦ let none = rw other at is in cc
    ]
long_text (a ∷ b ∷ []) id value is =
    elim (cases_Bool (eqb a 45)) [
      | inl same ↦
          let one = rw same at is in
          elim (cases_Bool (eqb b 45)) [
            | inl second ↦ let none = rw second at one in cc
            | inr other ↦ let none = rw other at one in cc
          ]
      | inr other ↦ let none = rw other at is in cc
    ]
long_text (a ∷ b ∷ c ∷ cs) id value is =
    elim (cases_Bool (eqb a 45)) [
      | inl same ↦
          let one = rw same at is in
          elim (cases_Bool (eqb b 45)) [
            | inl second ↦
                let some : Some (name_and_value (c ∷ cs)) ≡ Some (id, value) = rw second at one in
                (c ∷ cs, ap₂ (λ x y. x ∷ y ∷ c ∷ cs) (eqb-true a 45 same) (eqb-true b 45 second), ap (λ (o : Option (Text × Option Text)). unwrap_or o (id, value)) some)
            | inr other ↦ let none = rw other at one in cc
          ]
      | inr other ↦ let none = rw other at is in cc
    ]

alone_text : (text id : Text) → name_and_value text ≡ (id, None) → text ≡ id
alone_text text id is =
    let first : before_first (λ x. eqb x 61) text ≡ id = ap (λ (p : Text × Option Text). p.0) is in
    let second : (if has_byte 61 text then Some (after_first (λ x. eqb x 61) text) else None) ≡ None = ap (λ (p : Text × Option Text). p.1) is in
    elim (cases_Bool (has_byte 61 text)) [
      | inl some ↦ let never : Some (after_first (λ x. eqb x 61) text) ≡ None = rw some at second in cc
      | inr none ↦ sym (before_equals text none) ∙ first
    ]

valued_text : (text id value : Text) → name_and_value text ≡ (id, Some value) → text ≡ id ++ 61 ∷ value
valued_text text id value is =
    let first : before_first (λ x. eqb x 61) text ≡ id = ap (λ (p : Text × Option Text). p.0) is in
    let second : (if has_byte 61 text then Some (after_first (λ x. eqb x 61) text) else None) ≡ Some value = ap (λ (p : Text × Option Text). p.1) is in
    elim (cases_Bool (has_byte 61 text)) [
      | inl some ↦
          let same : Some (after_first (λ x. eqb x 61) text) ≡ Some value = rw some at second in
          let after : after_first (λ x. eqb x 61) text ≡ value = ap (λ (o : Option Text). unwrap_or o value) same in
          around_equals text some ∙ ap₂ (λ x y. x ++ 61 ∷ y) first after
      | inr none ↦ let never : None ≡ Some value = rw none at second in cc
    ]

alone_word : (id name : Text) → IsOption id name → (word : Text) → long_of word ≡ Some (id, None) → word ≡ name
alone_word id name option word is =
    let long = long_text word id None is in
    long.1 ∙ (ap (λ t. 45 ∷ 45 ∷ t) (alone_text long.0 id long.2) ∙ sym option.name_is)

valued_word : (id name : Text) → IsOption id name → (word value : Text) → long_of word ≡ Some (id, Some value) → word ≡ name ++ 61 ∷ value
valued_word id name option word value is =
    let long = long_text word id (Some value) is in
    long.1 ∙ (ap (λ t. 45 ∷ 45 ∷ t) (valued_text long.0 id value long.2) ∙ ap (λ n. n ++ 61 ∷ value) (sym option.name_is))

-- the words give options that fit, and these are their rows
pub record Sound (rows : List Row) (words : List Text) (read : List Row) : Type 0 where
  pub given : List Given
  pub spelled : AreGiven given words
  pub rows_are : read ≡ rows ++ rows_of given
  pub fits : Fits rows given

abbrev pub Sounds : List Text → Type 0
Sounds words = (rows read : List Row) → no_dashes words ≡ true → rest shape (at rows None idle) words ≡ Some read → Sound rows words read

-- one option more in front
how_more : (rows read : List Row) (value : Text) (front words : List Text) → IsGiven (how_given value) front → has_row (codes "how") rows ≡ false
    → Sound (rows ++ row (codes "how") value ∷ []) words read → Sound rows (front ++ words) read
how_more rows read value front words spelled fresh more = record {
  given = how_given value ∷ more.given;
  spelled = (front, words, refl, spelled, more.spelled);
  rows_are = more.rows_are ∙ append_assoc rows (row (codes "how") value ∷ []) (rows_of more.given);
  fits = how_fits rows value more.given fresh more.fits;
}

seed_more : (rows read : List Row) (value : Text) (front words : List Text) → IsGiven (seed_given value) front → has_row (codes "seed") rows ≡ false
    → Sound (rows ++ row (codes "seed") value ∷ []) words read → Sound rows (front ++ words) read
seed_more rows read value front words spelled fresh more = record {
  given = seed_given value ∷ more.given;
  spelled = (front, words, refl, spelled, more.spelled);
  rows_are = more.rows_are ∙ append_assoc rows (row (codes "seed") value ∷ []) (rows_of more.given);
  fits = seed_fits rows value more.given fresh more.fits;
}

replies_more : (rows read : List Row) (front words : List Text) → IsGiven replies_given front → has_row (codes "replies") rows ≡ false
    → Sound (rows ++ flag_row ∷ []) words read → Sound rows (front ++ words) read
replies_more rows read front words spelled fresh more = record {
  given = replies_given ∷ more.given;
  spelled = (front, words, refl, spelled, more.spelled);
  rows_are = more.rows_are ∙ append_assoc rows (flag_row ∷ []) (rows_of more.given);
  fits = replies_fit rows more.given fresh more.fits;
}

abbrev pub Adds : Text → Text → Type 0
Adds id name = (rows read : List Row) (value : Text) (front words : List Text) → IsValued name value front → has_row id rows ≡ false
    → Sound (rows ++ row id value ∷ []) words read → Sound rows (front ++ words) read

never : {A : Type 0} (o : Option (List Row)) (read : List Row) → o ≡ None → o ≡ Some read → A
never o read none some = let bad : None ≡ Some read = sym none ∙ some in cc

-- `--id=value` in front
attached_first : (id name : Text) → IsOption id name → Adds id name → (word value : Text) (words : List Text) → long_of word ≡ Some (id, Some value) → Sounds words → Sounds (word ∷ words)
attached_first id name option adds word value words long more rows read clean is =
    let parts = and_parts _ _ clean in
    let dashes = not_true (bytes_eq word (45 ∷ 45 ∷ [])) parts.0 in
    elim (cases_Bool (has_row id rows)) [
      | inl taken ↦ never _ read (attached_again rows id name word value words option dashes long taken) is
      | inr fresh ↦
          let after = more (rows ++ row id value ∷ []) read parts.1 (sym (attached rows id name word value words option dashes long fresh) ∙ is) in
          adds rows read value (word ∷ []) words (inr (ap (λ w. w ∷ []) (valued_word id name option word value long))) fresh after
    ]

-- `--id` and its value in front
named_first : (id name : Text) → IsOption id name → Adds id name → (word : Text) (words : List Text) → long_of word ≡ Some (id, None)
    → ((value : Text) (after : List Text) → words ≡ value ∷ after → Sounds after) → Sounds (word ∷ words)
named_first id name option adds word [] long more rows read clean is =
    let dashes = not_true (bytes_eq word (45 ∷ 45 ∷ [])) (and_parts _ _ clean).0 in
    never _ read (named rows id name word [] option dashes long ∙ waits_end id rows option.known) is
named_first id name option adds word (value ∷ words) long more rows read clean is =
    let parts = and_parts _ _ clean in
    let tail = and_parts _ _ parts.1 in
    let dashes = not_true (bytes_eq word (45 ∷ 45 ∷ [])) parts.0 in
    let waiting = sym (named rows id name word (value ∷ words) option dashes long) ∙ is in
    elim (waits_next id rows value words option.known option.same (not_true (bytes_eq value (45 ∷ 45 ∷ [])) tail.0)) [
      | inl none ↦ never _ read none waiting
      | inr next ↦
          let pending = sym next ∙ waiting in
          elim (cases_Bool (has_row id rows)) [
            | inl taken ↦ never _ read (conflict id rows value words option.known taken tail.1) pending
            | inr fresh ↦
                let after = more value words refl (rows ++ row id value ∷ []) read tail.1 (sym (carry id rows value words option.known fresh tail.1) ∙ pending) in
                adds rows read value (word ∷ value ∷ []) words (inl (ap (λ w. w ∷ value ∷ []) (alone_word id name option word long))) fresh after
          ]
    ]

replies_word : (word : Text) → long_of word ≡ Some (codes "replies", None) → word ≡ codes "--replies"
replies_word word is =
    let long = long_text word (codes "replies") None is in
    long.1 ∙ ap (λ t. 45 ∷ 45 ∷ t) (alone_text long.0 (codes "replies") long.2)

replies_first : (word : Text) (words : List Text) → long_of word ≡ Some (codes "replies", None) → Sounds words → Sounds (word ∷ words)
replies_first word words long more rows read clean is =
    let parts = and_parts _ _ clean in
    let dashes = not_true (bytes_eq word (45 ∷ 45 ∷ [])) parts.0 in
    elim (cases_Bool (has_row (codes "replies") rows)) [
      | inl taken ↦ never _ read (flagged_again rows word words dashes long taken) is
      | inr fresh ↦
          let after = more (rows ++ flag_row ∷ []) read parts.1 (sym (flagged rows word words dashes long fresh) ∙ is) in
          replies_more rows read (word ∷ []) words (ap (λ w. w ∷ []) (replies_word word long)) fresh after
    ]

first_word : (word : Text) (words : List Text) → Sounds words → ((value : Text) (after : List Text) → words ≡ value ∷ after → Sounds after) → Sounds (word ∷ words)
first_word word words more beyond rows read clean is =
    let dashes = not_true (bytes_eq word (45 ∷ 45 ∷ [])) (and_parts _ _ clean).0 in
    elim (class_of word) [
      | how_class None long ↦ named_first (codes "how") (codes "--how") how_option how_more word words long beyond rows read clean is
      | how_class (Some v) long ↦ attached_first (codes "how") (codes "--how") how_option how_more word v words long more rows read clean is
      | seed_class None long ↦ named_first (codes "seed") (codes "--seed") seed_option seed_more word words long beyond rows read clean is
      | seed_class (Some v) long ↦ attached_first (codes "seed") (codes "--seed") seed_option seed_more word v words long more rows read clean is
      | replies_class None long ↦ replies_first word words long more rows read clean is
      | replies_class (Some v) long ↦ never _ read (flagged_with rows word v words dashes long) is
      | unknown name v long none ↦ never _ read (stray_ends rows None word words dashes (inl (name, v, long, none))) is
      | bundled flags long short ↦ never _ read (stray_ends rows None word words dashes (inr (inl (flags, long, short)))) is
      | bare long short ↦ never _ read (stray_ends rows None word words dashes (inr (inr (long, short)))) is
    ]

some_rows : (a b : List Row) → Some a ≡ Some b → a ≡ b
some_rows a b is = ap (λ (o : Option (List Row)). unwrap_or o a) is

no_words : Sounds []
unfolding rest
no_words rows read clean is = record { given = []; spelled = refl; rows_are = sym (some_rows rows read is) ∙ sym (append-nil rows); fits = fits_none rows }

pub sound : (words : List Text) → Sounds words
sound [] = no_words
sound (word ∷ []) = first_word word [] no_words (λ value after is. let bad : [] ≡ value ∷ after = is in cc)
sound (word ∷ second ∷ words) =
    first_word word (second ∷ words) (sound (second ∷ words)) (λ value after is. let same : words ≡ after = cc in subst Sounds same (sound words))
