-- What is found for the options of `replay`.
use Rattle.std.proofs.Common.{◌≡◌, ◌≤◌, Bool, true, false, ◌&&◌, Option, Some, None, List, [], ◌∷◌, ◌++◌, length, refl, sym, ap, ◌∙◌, arith, inl, inr, codes}
use Rattle.std.specs.Prelude.{option_and_then, slice_get, find, fold, if◌then◌else◌, unwrap_or}
use Rattle.std.specs.Option.{option_or}
use Rattle.std.specs.List.{list_all}
use Rattle.std.specs.Str.{bytes_eq}
use Rattle.std.proofs.lemmas.Bool.{false≢true, cases_Bool}
use Rattle.std.proofs.lemmas.List.Folds.{find-append}
use Rattle.clap.specs.Kinds.{Kinds, or_else}
use Rattle.clap.specs.Simple.{matches_of}
use Rattle.clap.specs.Faults.{fault_of, settle_fault, walk_fault, defaults_fault}
use Rattle.clap.proofs.FaultLemmas.{leaf_fault}
use Rattle.clap.specs.Walk.{Held, Row, Text, Walk, idle, has_row, settled, walk, nothing_held, with_default, more_values, reading_by, first_of, one_of}
use Rattle.clap.specs.declared.parser.matches.ValueSource.TheVariants.{DefaultValue}
use Rattle.slub_command.specs.Spelling.{Word}
use Rattle.slub_command.specs.Options.{Given, how_given, seed_given, replies_given, AreOptions, hows, seeds, times_replies, is_bare, listed}
use Rattle.slub_command.specs.Arguments.{no_dashes, replay_app}
use Rattle.slub_command.proofs.Walks.{app, shape, rules, flag, at, at_end, rest, rest_is, unless}
use Rattle.slub_command.proofs.Replays.{rows_of, Fits, sound, complete, are_bare}

-- ---- after the walk

-- the row that `--replies` has where it isn't given
abbrev pub unset_row : Row
unset_row = record { id = codes "replies"; values = codes "false" ∷ []; count = None; source = Some DefaultValue; reading = reading_by flag }

abbrev pub with_unset : List Row → List Row
with_unset rows = if has_row (codes "replies") rows then rows else rows ++ unset_row ∷ []

same_branch : {A : Type 0} (b : Bool) (x : A) → (if b then x else x) ≡ x
same_branch true x = refl
same_branch false x = refl

unset : (rows : List Row) → fold with_default rows rules ≡ with_unset rows
unset rows =
    elim (cases_Bool (has_row (codes "replies") rows)) [
      | inl is ↦ rw (same_branch (has_row (codes "how") rows) rows, same_branch (has_row (codes "seed") rows) rows, is) refl
      | inr is ↦ rw (same_branch (has_row (codes "how") rows) rows, same_branch (has_row (codes "seed") rows) rows, is) (at_end (codes "replies") (more_values DefaultValue (codes "false" ∷ [])) _ rows is)
    ]

no_defaults : (rows : List Row) → defaults_fault rows rules ≡ []
unfolding defaults_fault
no_defaults rows = simp same_branch

then_nothing : (k : Kinds) → or_else k [] ≡ k
then_nothing [] = refl
then_nothing (x ∷ xs) = refl

abbrev pub start : Walk
start = at [] None idle

abbrev pub end : List Text → Held
end words = (walk rules [] nothing_held words).held

fault_is : (words : List Text) → fault_of replay_app words ≡ or_else (walk_fault shape [] start words) (settle_fault rules false (end words))
fault_is words =
    leaf_fault app nothing_held words refl ∙ rw (no_defaults (settled rules (end words)).rows) (ap (λ k. or_else (walk_fault shape [] start words) k) (then_nothing (settle_fault rules false (end words))))

rest_ends : (words : List Text) → rest shape start words ≡ unless (fault_of replay_app words) (Some (settled rules (end words)).rows)
rest_ends words = rw (fault_is words) (rest_is shape start words)

matches_are : (words : List Text) → matches_of replay_app words ≡ with_unset (settled rules (end words)).rows
matches_are words = unset (settled rules (end words)).rows

-- ---- what the rows say

or_none : {A : Type 0} (o : Option A) → option_or o None ≡ o
or_none None = refl
or_none (Some x) = refl

find_more : (p : Row → Bool) (rows : List Row) (r : Row) → p r ≡ false → find p (rows ++ r ∷ []) ≡ find p rows
find_more p rows r other = find-append p rows (r ∷ []) ∙ rw other (or_none (find p rows))

no_row : (id : Text) (rows : List Row) → has_row id rows ≡ false → find (λ r. bytes_eq r.id id) rows ≡ None
no_row id [] none = refl
no_row id (r ∷ rows) none =
    elim (cases_Bool (bytes_eq r.id id)) [
      | inl same ↦ absurd (false≢true (sym none ∙ rw same refl))
      | inr other ↦ rw other (no_row id rows (rw other at none))
    ]

-- the row of an option that isn't `--replies` is as it was
first_kept : (id : Text) (rows : List Row) → bytes_eq (codes "replies") id ≡ false → first_of id (with_unset rows) ≡ first_of id rows
first_kept id rows other =
    elim (cases_Bool (has_row (codes "replies") rows)) [
      | inl is ↦ rw is refl
      | inr is ↦ rw is (ap (λ (o : Option Row). option_and_then (λ r. slice_get r.values 0) o) (find_more (λ r. bytes_eq r.id id) rows unset_row other))
    ]

first_how : (given : List Given) → first_of (codes "how") (rows_of given) ≡ slice_get (hows given) 0
first_how [] = refl
first_how (how_given value ∷ given) = refl
first_how (seed_given value ∷ given) = first_how given
first_how (replies_given ∷ given) = first_how given

first_seed : (given : List Given) → first_of (codes "seed") (rows_of given) ≡ slice_get (seeds given) 0
first_seed [] = refl
first_seed (how_given value ∷ given) = first_seed given
first_seed (seed_given value ∷ given) = refl
first_seed (replies_given ∷ given) = first_seed given

abbrev pub is_set : List Given → Bool
is_set given = has_row (codes "replies") (rows_of given)

set_flag : (given : List Given) → is_set given ≡ true → one_of (codes "replies") (rows_of given) ≡ Some (codes "true")
set_flag [] is = absurd (false≢true is)
set_flag (how_given value ∷ given) is = set_flag given is
set_flag (seed_given value ∷ given) is = set_flag given is
set_flag (replies_given ∷ given) is = refl

abbrev pub flag_text : Bool → Text
flag_text replies = if replies then codes "true" else codes "false"

flag_says : (given : List Given) → one_of (codes "replies") (with_unset (rows_of given)) ≡ Some (flag_text (is_set given))
flag_says given =
    elim (cases_Bool (is_set given)) [
      | inl is ↦ rw is (set_flag given is)
      | inr is ↦
          let none = no_row (codes "replies") (rows_of given) is in
          let found : find (λ r. bytes_eq r.id (codes "replies")) (rows_of given ++ unset_row ∷ []) ≡ Some unset_row =
          find-append (λ r. bytes_eq r.id (codes "replies")) (rows_of given) (unset_row ∷ []) ∙ rw none refl in
          rw (is, found) refl
    ]

times_unset : (given : List Given) → is_set given ≡ false → times_replies given ≡ 0
times_unset [] is = refl
times_unset (how_given value ∷ given) is = times_unset given is
times_unset (seed_given value ∷ given) is = times_unset given is
times_unset (replies_given ∷ given) is = absurd (false≢true (sym is))

times_set : (given : List Given) → is_set given ≡ true → 1 ≤ times_replies given
times_set [] is = absurd (false≢true is)
times_set (how_given value ∷ given) is = times_set given is
times_set (seed_given value ∷ given) is = times_set given is
times_set (replies_given ∷ given) is = omega arith

times_are : (given : List Given) → times_replies given ≤ 1 → times_replies given ≡ (if is_set given then 1 else 0)
times_are given low =
    elim (cases_Bool (is_set given)) [
      | inl is ↦ let high = times_set given is in rw is (omega arith)
      | inr is ↦ rw is (times_unset given is)
    ]

set_by_times : (given : List Given) (replies : Bool) → times_replies given ≡ (if replies then 1 else 0) → is_set given ≡ replies
set_by_times given true is =
    elim (cases_Bool (is_set given)) [
      | inl set ↦ set
      | inr unset ↦ let none = times_unset given unset in absurd (let bad : 1 ≡ 0 = sym is ∙ none in let never : ⊥ = omega arith in never)
    ]
set_by_times given false is =
    elim (cases_Bool (is_set given)) [
      | inl set ↦ let some = times_set given set in absurd (let never : ⊥ = omega (arith, is) in never)
      | inr unset ↦ unset
    ]

-- ---- one value or none

one_listed : (values : List Word) → length values ≤ 1 → values ≡ listed (slice_get values 0)
one_listed [] low = refl
one_listed (value ∷ []) low = refl
one_listed (value ∷ second ∷ values) low = absurd (let never : ⊥ = omega arith in never)

first_listed : (o : Option Word) → slice_get (listed o) 0 ≡ o
first_listed None = refl
first_listed (Some value) = refl

few_listed : (o : Option Word) → length (listed o) ≤ 1
few_listed None = omega arith
few_listed (Some value) = omega arith

one_or_none : (b : Bool) → (if b then 1 else 0) ≤ 1
one_or_none true = omega arith
one_or_none false = omega arith

-- ---- what is found

abbrev pub found : List Word → List Row
found words = matches_of replay_app words

-- the options of the words are those that are found
pub record IsFound (words : List Word) (how seed : Option Word) (replies : Bool) : Type 0 where
  pub passes : fault_of replay_app words ≡ []
  pub how_is : first_of (codes "how") (found words) ≡ how
  pub seed_is : first_of (codes "seed") (found words) ≡ seed
  pub replies_is : one_of (codes "replies") (found words) ≡ Some (flag_text replies)

says : (words : List Word) (given : List Given) → found words ≡ with_unset (rows_of given) → fault_of replay_app words ≡ []
    → IsFound words (slice_get (hows given) 0) (slice_get (seeds given) 0) (is_set given)
says words given is passes = record {
  passes = passes;
  how_is = ap (first_of (codes "how")) is ∙ (first_kept (codes "how") (rows_of given) refl ∙ first_how given);
  seed_is = ap (first_of (codes "seed")) is ∙ (first_kept (codes "seed") (rows_of given) refl ∙ first_seed given);
  replies_is = ap (one_of (codes "replies")) is ∙ flag_says given;
}

passed : (k : Kinds) (rows read : List Row) → unless k (Some rows) ≡ Some read → (k ≡ []) × (rows ≡ read)
passed [] rows read is = (refl, ap (λ (o : Option (List Row)). unwrap_or o rows) is)
passed (x ∷ xs) rows read is = cc

pub record Found (words : List Word) : Type 0 where
  pub replies : Bool
  pub options : AreOptions words (first_of (codes "how") (found words)) (first_of (codes "seed") (found words)) replies
  pub replies_is : one_of (codes "replies") (found words) ≡ Some (flag_text replies)

-- words that pass are options
pub read_sound : (words : List Word) → no_dashes words ≡ true → fault_of replay_app words ≡ [] → Found words
read_sound words clean passes =
    let rows = (settled rules (end words)).rows in
    let is : rest shape start words ≡ Some rows = rest_ends words ∙ ap (λ k. unless k (Some rows)) passes in
    let s = sound words [] rows clean is in
    let f = says words s.given (matches_are words ∙ ap with_unset s.rows_are) passes in
    let how_few : length (hows s.given) ≤ 1 = let low = s.fits.how in omega arith in
    let seed_few : length (seeds s.given) ≤ 1 = let low = s.fits.seed in omega arith in
    let replies_few : times_replies s.given ≤ 1 = let low = s.fits.replies in omega arith in
    record {
      replies = is_set s.given;
      options = record {
        given = s.given;
        spelled = s.spelled;
        how_once = one_listed (hows s.given) how_few ∙ ap listed (sym f.how_is);
        seed_once = one_listed (seeds s.given) seed_few ∙ ap listed (sym f.seed_is);
        replies_once = times_are s.given replies_few;
      };
      replies_is = f.replies_is;
    }

-- options with no hyphen in front of a value pass, and are found
pub read_complete : (words : List Word) (how seed : Option Word) (replies : Bool) → AreOptions words how seed replies → (list_all is_bare (listed how) && list_all is_bare (listed seed)) ≡ true
    → no_dashes words ≡ true → IsFound words how seed replies
read_complete words how seed replies options good clean =
    let given = options.given in
    let how_few = few_listed how in
    let seed_few = few_listed seed in
    let how_length : length (hows given) ≤ 1 = rw options.how_once how_few in
    let seed_length : length (seeds given) ≤ 1 = rw options.seed_once seed_few in
    let set = set_by_times given replies options.replies_once in
    let replies_length : times_replies given ≤ 1 = rw options.replies_once (one_or_none replies) in
    let fits : Fits [] given = record { how = omega arith; seed = omega arith; replies = omega arith } in
    let bare_given : are_bare given ≡ true = rw (options.how_once, options.seed_once) good in
    let walked_to = complete [] given words options.spelled clean bare_given fits in
    let end_is = passed _ _ _ (sym (rest_ends words) ∙ walked_to) in
    let f = says words given (matches_are words ∙ ap with_unset end_is.1) end_is.0 in
    record {
      passes = f.passes;
      how_is = f.how_is ∙ (ap (λ (values : List Word). slice_get values 0) options.how_once ∙ first_listed how);
      seed_is = f.seed_is ∙ (ap (λ (values : List Word). slice_get values 0) options.seed_once ∙ first_listed seed);
      replies_is = f.replies_is ∙ ap (λ b. Some (flag_text b)) set;
    }
