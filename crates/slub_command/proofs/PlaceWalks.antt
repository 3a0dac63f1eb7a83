-- What `clap` makes of words that stand at places of their own.
use Rattle.std.proofs.Common.{◌≡◌, ℕ, true, false, not, ◌⊎◌, Option, Some, None, List, [], ◌∷◌, refl, sym, ◌∙◌, inl, inr, subst, codes, eqb, rules, Bor}
use Rattle.std.specs.Prelude.{slice_get, fold, option_map, IsSome}
use Rattle.std.specs.Str.{bytes_eq, chars}
use Rattle.clap.specs.Lexer.{long_of, short_of}
use Rattle.clap.specs.Kinds.{Kinds, or_else}
use Rattle.clap.specs.Walk.{Held, Row, Rule, Text, Walk, idle, value, arg_by_index, arg_by_long, arg_by_short, to_positional, settled, walk, walk_from, walked, bundle_met, nothing_held, rows_after, with_default}
use Rattle.clap.specs.Simple.{Shape}
use Rattle.clap.specs.Faults.{check_fault, defaults_fault, flags_fault, level_fault, settle_fault, step_fault, walk_fault}
use Rattle.clap.specs.declared.builder.action.ArgAction.TheVariants.{Set}
use Rattle.clap.specs.declared.builder.value_parser.ValueParser.TheVariants as vp
use Rattle.std.proofs.lemmas.Bool.{and_parts, cases_Bool}
use Rattle.slub_command.specs.Arguments.{no_dashes, place_rule}
use Rattle.slub_command.specs.Options.{is_bare, is_plain}
use Rattle.slub_command.proofs.Walks.{at, bytes_same, not_true, rest, rest_is, unless}

-- a place, as it is built
abbrev pub placed : Text → ℕ → Rule
placed id i = record (place_rule id) {
  index = Some i;
  action = Some Set;
  range = Some (record { start_inclusive = 1; end_inclusive = 1 });
  parser = Some vp.String;
}

-- between two words, where the next place is this one
abbrev pub place_at : List Row → Option (Text × List Text) → ℕ → Walk
place_at rows pending i = record (at rows pending idle) { position = i }

-- nothing but places
pub record HasPlaces (s : Shape) : Type 0 where
  pub long : (name : Text) → arg_by_long s.rules name ≡ None
  pub short : (c : ℕ) → arg_by_short s.rules c ≡ None

-- a word goes to its place
abbrev pub placing : Shape → Walk → Text → List Text → Option (List Row)
placing s w word words = unless (step_fault s w.position w.held value) (rest s (to_positional s.rules (arg_by_index s.rules w.position) word w w.held) words)

pub place_plain : (s : Shape) (rows : List Row) (pending : Option (Text × List Text)) (i : ℕ) (word : Text) (words : List Text) → bytes_eq word (45 ∷ 45 ∷ []) ≡ false → long_of word ≡ None → short_of word ≡ None
    → rest s (place_at rows pending i) (word ∷ words) ≡ placing s (place_at rows pending i) word words
unfolding rest walked
place_plain s rows pending i word words dashes long short = rw (dashes, long, short) refl

place_bundle : (s : Shape) → HasPlaces s → (rows : List Row) (pending : Option (Text × List Text)) (i : ℕ) (word flags : Text) (words : List Text) → bytes_eq word (45 ∷ 45 ∷ []) ≡ false → long_of word ≡ None → short_of word ≡ Some flags
    → (rest s (place_at rows pending i) (word ∷ words) ≡ None) ⊎ (rest s (place_at rows pending i) (word ∷ words) ≡ placing s (place_at rows pending i) word words)
unfolding rest walked flags_fault bundle_met
place_bundle s has rows pending i word [] words dashes long short = inr (rw (dashes, long, short) refl)
place_bundle s has rows pending i word (x ∷ xs) words dashes long short =
    elim (slice_get (chars (x ∷ xs)) 0) as (λ o. slice_get (chars (x ∷ xs)) 0 ≡ o
    → (rest s (place_at rows pending i) (word ∷ words) ≡ None) ⊎ (rest s (place_at rows pending i) (word ∷ words) ≡ placing s (place_at rows pending i) word words)) [
      | None ↦ λ first. inr (rw (dashes, long, short, first) refl)
      | Some c ↦ λ first. inl (let none = has.short c in rw (dashes, long, short, first, none) refl)
    ] refl

place_next : (s : Shape) → HasPlaces s → (rows : List Row) (pending : Option (Text × List Text)) (i : ℕ) (word : Text) (words : List Text) (long : Option (Text × Option Text)) (short : Option Text)
    → bytes_eq word (45 ∷ 45 ∷ []) ≡ false → long_of word ≡ long → short_of word ≡ short
    → (rest s (place_at rows pending i) (word ∷ words) ≡ None) ⊎ (rest s (place_at rows pending i) (word ∷ words) ≡ placing s (place_at rows pending i) word words)
unfolding rest walked
place_next s has rows pending i word words (Some p) short dashes is_long is_short = inl (let none = has.long p.0 in rw (dashes, is_long, none) refl)
place_next s has rows pending i word words None (Some flags) dashes is_long is_short = place_bundle s has rows pending i word flags words dashes is_long is_short
place_next s has rows pending i word words None None dashes is_long is_short = inr (place_plain s rows pending i word words dashes is_long is_short)

-- what passes goes to its place
pub place_passes : (s : Shape) → HasPlaces s → (rows : List Row) (pending : Option (Text × List Text)) (i : ℕ) (word : Text) (words : List Text) (read : List Row) → bytes_eq word (45 ∷ 45 ∷ []) ≡ false
    → rest s (place_at rows pending i) (word ∷ words) ≡ Some read → placing s (place_at rows pending i) word words ≡ Some read
place_passes s has rows pending i word words read dashes is =
    elim (place_next s has rows pending i word words (long_of word) (short_of word) dashes refl refl) [
      | inl none ↦ let bad : None ≡ Some read = sym none ∙ is in cc
      | inr next ↦ sym next ∙ is
    ]

-- ---- after the walk

both_empty : (a b : Kinds) → or_else a b ≡ [] → (a ≡ []) × (b ≡ [])
both_empty [] b is = (refl, is)
both_empty (k ∷ ks) b is = cc

abbrev pub opening : Walk
opening = walk_from nothing_held

-- what passes was walked, and has what is required
pub record Passed (s : Shape) (words : List Text) : Type 0 where
  pub read : List Row
  pub walked_to : rest s opening words ≡ Some read
  pub complete : check_fault s (fold with_default read s.rules) false ≡ []
  pub found : rows_after s.rules [] words ≡ fold with_default read s.rules

abbrev pub ending : Shape → List Text → Held
ending s words = (walk s.rules [] nothing_held words).held

pub level_passed : (s : Shape) (words : List Text) → level_fault s [] nothing_held words false [] ≡ [] → Passed s words
level_passed s words is =
    let rows = (settled s.rules (ending s words)).rows in
    let last = or_else (defaults_fault rows s.rules) (check_fault s (fold with_default rows s.rules) false) in
    let first = both_empty (walk_fault s [] opening words) (or_else (settle_fault s.rules s.args_override_self (ending s words)) last) is in
    let second = both_empty (settle_fault s.rules s.args_override_self (ending s words)) last first.1 in
    let third = both_empty (defaults_fault rows s.rules) (check_fault s (fold with_default rows s.rules) false) second.1 in
    record {
      read = rows;
      walked_to = rest_is s opening words ∙ rw (first.0, second.0) refl;
      complete = third.1;
      found = refl;
    }

walked_end : (k l : Kinds) (rows read : List Row) → unless (or_else k l) (Some rows) ≡ Some read → (k ≡ []) × (l ≡ []) × (rows ≡ read)
walked_end [] [] rows read is = (refl, refl, cc)
walked_end [] (x ∷ xs) rows read is = cc
walked_end (x ∷ xs) l rows read is = cc

pub level_passes : (s : Shape) (words : List Text) (read : List Row) → rest s opening words ≡ Some read → defaults_fault read s.rules ≡ [] → check_fault s (fold with_default read s.rules) false ≡ []
    → (level_fault s [] nothing_held words false [] ≡ []) × (rows_after s.rules [] words ≡ fold with_default read s.rules)
level_passes s words read is defaults checks =
    let end = walked_end (walk_fault s [] opening words) (settle_fault s.rules s.args_override_self (ending s words)) (settled s.rules (ending s words)).rows read (sym (rest_is s opening words) ∙ is) in
    (rw (end.0, end.1, end.2, defaults) checks, rw end.2 refl)

-- ---- words

clean : (word : Text) (words : List Text) → no_dashes (word ∷ words) ≡ true → (not (bytes_eq word (45 ∷ 45 ∷ [])) ≡ true) × (no_dashes words ≡ true)
clean word words is = and_parts (not (bytes_eq word (45 ∷ 45 ∷ []))) (no_dashes words) is

pub clean_first : (word : Text) (words : List Text) → no_dashes (word ∷ words) ≡ true → (bytes_eq word (45 ∷ 45 ∷ []) ≡ false) × (no_dashes words ≡ true)
clean_first word words is = (not_true (bytes_eq word (45 ∷ 45 ∷ [])) (clean word words is).0, (clean word words is).1)

-- the word is no option
pub record IsPlain (word : Text) : Type 0 where
  pub not_dashes : bytes_eq word (45 ∷ 45 ∷ []) ≡ false
  pub long : long_of word ≡ None
  pub short : short_of word ≡ None

-- one with no hyphen in front is none
pub bare_is_plain : (word : Text) → is_bare word ≡ true → IsPlain word
bare_is_plain [] is = record { not_dashes = refl; long = refl; short = refl }
bare_is_plain (c ∷ cs) is = let other = not_true (eqb c 45) is in record { not_dashes = rw other refl; long = rw other refl; short = rw other refl }

-- and the hyphen alone
pub hyphen_is_plain : IsPlain (codes "-")
hyphen_is_plain = record { not_dashes = refl; long = refl; short = refl }

pub plain_word : (word : Text) → is_plain word ≡ true → IsPlain word
plain_word word is =
    elim (cases_Bool (is_bare word)) [
      | inl good ↦ bare_is_plain word good
      | inr other ↦
          let hyphen : bytes_eq word (codes "-") ≡ true = rw other at is in
          subst (λ w. IsPlain w) (sym (bytes_same word (codes "-") hyphen)) hyphen_is_plain
    ]

-- ---- what is read of a place

pub is_there : (o : Option (Bor Text)) (word : Text) → option_map (λ s. s.now) o ≡ Some word → IsSome o
is_there None word is = cc
is_there (Some x) word is = search rules

pub value_of : (o : Option (Bor Text)) (x : Bor Text) (word : Text) → o ≡ Some x → option_map (λ s. s.now) o ≡ Some word → word ≡ x.now
value_of o x word there is =
    let some : Some x.now ≡ Some word = rw there at is in
    cc
