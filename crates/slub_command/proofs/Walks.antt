-- What `clap` makes of the words of `replay`, one after the other.
use Rattle.std.proofs.Common.{◌≡◌, ℕ, Bool, true, false, not, ◌⊎◌, Option, Some, None, List, [], ◌∷◌, ◌++◌, refl, sym, ap, ◌∙◌, inl, inr, codes, append-nil}
use Rattle.std.specs.Prelude.{slice_get, fold}
use Rattle.std.specs.Str.{bytes_eq, chars}
use Rattle.std.proofs.lemmas.Bool.{false≢true, and_parts, cases_Bool}
use Rattle.std.proofs.lemmas.Slice.Eq.{bytes_eq-Decides}
use Rattle.clap.specs.Lexer.{long_of, short_of}
use Rattle.clap.specs.Kinds.{Kinds, or_else}
use Rattle.clap.specs.Walk.{Row, Rule, Text, Waiting, Walk, idle, option, arg_by_id, arg_by_long, at_row, more_values, with_values, without, has_row, settled, walked, reading_by, bundle_met}
use Rattle.clap.specs.Simple.{App, Shape, built, new_shape}
use Rattle.clap.specs.Faults.{settle_fault, turn_fault, walk_fault, flags_fault}
use Rattle.clap.specs.declared.builder.action.ArgAction.TheVariants.{Set}
use Rattle.clap.specs.declared.builder.value_parser.ValueParser.TheVariants as vp
use Rattle.clap.specs.declared.parser.matches.ValueSource.TheVariants.{CommandLine}
use Rattle.clap.specs.declared.error.kind.ErrorKind.TheVariants as kind
use Rattle.slub_command.specs.Arguments.{option_rule, flag_rule, no_dashes, replay_app}

-- ---- the command

-- an option with a value, as it is built
abbrev pub valued : Text → Rule
valued id = record (option_rule id) {
  action = Some Set;
  range = Some (record { start_inclusive = 1; end_inclusive = 1 });
  parser = Some vp.String;
}

-- `--replies`, as it is built
abbrev pub flag : Rule
flag = record (flag_rule (codes "replies")) {
  range = Some (record { start_inclusive = 0; end_inclusive = 0 });
  defaults = codes "false" ∷ [];
  missing = codes "true" ∷ [];
  parser = Some vp.Bool;
}

abbrev pub rules : List Rule
rules = valued (codes "how") ∷ valued (codes "seed") ∷ flag ∷ []

-- a command of these arguments, as it is built
abbrev pub shape_with : Text → List Rule → Shape
shape_with name given = record (new_shape name) {
  rules = given;
  no_binary_name = true;
  disable_help_flag = true;
  disable_help_subcommand = true;
  is_built = true;
}

abbrev pub shape : Shape
shape = shape_with (codes "replay") rules

abbrev pub app : App
app = record { top = shape; subs = [] }

pub built_is : built replay_app ≡ app
built_is = refl

-- ---- rows

abbrev pub row : Text → Text → Row
row id value = record { id = id; values = value ∷ []; count = None; source = Some CommandLine; reading = reading_by (valued id) }

-- the row of `--replies`
abbrev pub flag_row : Row
flag_row = record { id = codes "replies"; values = codes "true" ∷ []; count = None; source = Some CommandLine; reading = reading_by flag }

-- where no row has the id, one is put at the end
pub at_end : (id : Text) (change : Row → List Row) (missing rows : List Row) → has_row id rows ≡ false → at_row id change missing rows ≡ rows ++ missing
at_end id change missing [] none = refl
at_end id change missing (r ∷ rs) none =
    elim (cases_Bool (bytes_eq r.id id)) [
      | inl same ↦ absurd (false≢true (sym none ∙ rw same refl))
      | inr other ↦ rw other (ap (λ rows. r ∷ rows) (at_end id change missing rs (rw other at none)))
    ]

-- an option with no row yet gets one at the end
added : (id value : Text) (rows : List Row) → has_row id rows ≡ false → with_values id (reading_by (valued id)) CommandLine (value ∷ []) (without id rows) ≡ rows ++ row id value ∷ []
added id value rows none =
    let kept : without id rows ≡ rows = at_end id (λ _. []) [] rows none ∙ append-nil rows in
    rw kept (at_end id (more_values CommandLine (value ∷ [])) _ rows none)

added_flag : (rows : List Row) → has_row (codes "replies") rows ≡ false → with_values (codes "replies") (reading_by flag) CommandLine (codes "true" ∷ []) (without (codes "replies") rows) ≡ rows ++ flag_row ∷ []
added_flag rows none =
    let kept : without (codes "replies") rows ≡ rows = at_end (codes "replies") (λ _. []) [] rows none ∙ append-nil rows in
    rw kept (at_end (codes "replies") (more_values CommandLine (codes "true" ∷ [])) _ rows none)

-- ---- the walk

abbrev pub unless : {A : Type 0} → Kinds → Option A → Option A
unless [] o = o
unless (k ∷ ks) o = None

-- between two words: the rows, and the option that has no row yet
abbrev pub at : List Row → Option (Text × List Text) → Waiting → Walk
at rows pending waiting = record {
  held = record { rows = rows; pending = pending; skip = 0 };
  waiting = waiting;
  position = 1;
  is_trailing = false;
  stopped = None;
}

-- the rows after the words, where none is refused
unfoldable pub rest : Shape → Walk → List Text → Option (List Row)
rest s w [] = unless (settle_fault s.rules s.args_override_self w.held) (Some (settled s.rules w.held).rows)
rest s w (word ∷ words) = unless (turn_fault s [] w word) (rest s (walked s.rules [] w word) words)

pub not_true : (b : Bool) → not b ≡ true → b ≡ false
not_true true is = absurd (false≢true is)
not_true false is = refl

-- ---- what a word is

pub bytes_same : (xs ys : List ℕ) → bytes_eq xs ys ≡ true → xs ≡ ys
bytes_same xs ys same = (bytes_eq-Decides xs ys).0 same

-- the word is `--id` or `--id=value`; or it names no option
pub data Class (word : Text) : Type 0 where
  how_class : (value : Option Text) → long_of word ≡ Some (codes "how", value) → Class word
  seed_class : (value : Option Text) → long_of word ≡ Some (codes "seed", value) → Class word
  replies_class : (value : Option Text) → long_of word ≡ Some (codes "replies", value) → Class word
  unknown : (name : Text) (value : Option Text) → long_of word ≡ Some (name, value) → arg_by_long rules name ≡ None → Class word
  bundled : (flags : Text) → long_of word ≡ None → short_of word ≡ Some flags → Class word
  bare : long_of word ≡ None → short_of word ≡ None → Class word

class_from : (word : Text) (long : Option (Text × Option Text)) (short : Option Text) → long_of word ≡ long → short_of word ≡ short → Class word
class_from word (Some p) short is_long is_short =
    elim (cases_Bool (bytes_eq (codes "how") p.0)) [
      | inl same ↦ how_class p.1 (is_long ∙ ap (λ (n : Text). Some (n, p.1)) (sym (bytes_same (codes "how") p.0 same)))
      | inr not_how ↦
          elim (cases_Bool (bytes_eq (codes "seed") p.0)) [
            | inl same ↦ seed_class p.1 (is_long ∙ ap (λ (n : Text). Some (n, p.1)) (sym (bytes_same (codes "seed") p.0 same)))
            | inr not_seed ↦
                elim (cases_Bool (bytes_eq (codes "replies") p.0)) [
                  | inl same ↦ replies_class p.1 (is_long ∙ ap (λ (n : Text). Some (n, p.1)) (sym (bytes_same (codes "replies") p.0 same)))
                  | inr not_replies ↦ unknown p.0 p.1 is_long (rw (not_how, not_seed, not_replies) refl)
                ]
          ]
    ]
class_from word None (Some flags) is_long is_short = bundled flags is_long is_short
class_from word None None is_long is_short = bare is_long is_short

pub class_of : (word : Text) → Class word
class_of word = class_from word (long_of word) (short_of word) refl refl

-- the word is none of the options
abbrev pub IsStray : Text → Type 0
IsStray word = ((name : Text) × (value : Option Text) × (long_of word ≡ Some (name, value)) × (arg_by_long rules name ≡ None))
    ⊎ ((flags : Text) × (long_of word ≡ None) × (short_of word ≡ Some flags)) ⊎ ((long_of word ≡ None) × (short_of word ≡ None))

-- where no value is waited for, such a word is refused
bundle_refused : (rows : List Row) (pending : Option (Text × List Text)) (word flags : Text) → bytes_eq word (45 ∷ 45 ∷ []) ≡ false → long_of word ≡ None → short_of word ≡ Some flags
    → turn_fault shape [] (at rows pending idle) word ≡ kind.UnknownArgument ∷ []
unfolding flags_fault bundle_met
bundle_refused rows pending word [] dashes long short = rw (dashes, long, short) refl
bundle_refused rows pending word (x ∷ xs) dashes long short =
    elim (slice_get (chars (x ∷ xs)) 0) as (λ o. slice_get (chars (x ∷ xs)) 0 ≡ o → turn_fault shape [] (at rows pending idle) word ≡ kind.UnknownArgument ∷ []) [
      | None ↦ λ first. rw (dashes, long, short, first) refl
      | Some c ↦ λ first. rw (dashes, long, short, first) refl
    ] refl

stray_refused : (rows : List Row) (pending : Option (Text × List Text)) (word : Text) → bytes_eq word (45 ∷ 45 ∷ []) ≡ false → IsStray word
    → turn_fault shape [] (at rows pending idle) word ≡ kind.UnknownArgument ∷ []
stray_refused rows pending word dashes (inl (name, value, long, none)) = rw (dashes, long, none) refl
stray_refused rows pending word dashes (inr (inl (flags, long, short))) = bundle_refused rows pending word flags dashes long short
stray_refused rows pending word dashes (inr (inr (long, short))) = rw (dashes, long, short) refl

pub stray_ends : (rows : List Row) (pending : Option (Text × List Text)) (word : Text) (words : List Text) → bytes_eq word (45 ∷ 45 ∷ []) ≡ false → IsStray word
    → rest shape (at rows pending idle) (word ∷ words) ≡ None
unfolding rest
stray_ends rows pending word words dashes stray = rw (stray_refused rows pending word dashes stray) refl

-- ---- what is pending

-- a value that is pending is as good as one that has its row
pub carry : (id : Text) (rows : List Row) (value : Text) (words : List Text) → arg_by_id rules id ≡ Some (valued id) → has_row id rows ≡ false → no_dashes words ≡ true
    → rest shape (at rows (Some (id, value ∷ [])) idle) words ≡ rest shape (at (rows ++ row id value ∷ []) None idle) words
unfolding rest walked
carry id rows value [] known fresh clean = rw (known, fresh, added id value rows fresh) refl
carry id rows value (word ∷ words) known fresh clean =
    let clean_word = not_true (bytes_eq word (45 ∷ 45 ∷ [])) (and_parts _ _ clean).0 in
    elim (class_of word) [
      | how_class None long ↦ rw (clean_word, long, known, fresh, added id value rows fresh) refl
      | how_class (Some v) long ↦ rw (clean_word, long, known, fresh, added id value rows fresh) refl
      | seed_class None long ↦ rw (clean_word, long, known, fresh, added id value rows fresh) refl
      | seed_class (Some v) long ↦ rw (clean_word, long, known, fresh, added id value rows fresh) refl
      | replies_class None long ↦ rw (clean_word, long, known, fresh, added id value rows fresh) refl
      | replies_class (Some v) long ↦ rw (clean_word, long) refl
      | unknown name v long none ↦ stray_ends _ _ word words clean_word (inl (name, v, long, none)) ∙ sym (stray_ends _ _ word words clean_word (inl (name, v, long, none)))
      | bundled flags long short ↦ stray_ends _ _ word words clean_word (inr (inl (flags, long, short))) ∙ sym (stray_ends _ _ word words clean_word (inr (inl (flags, long, short))))
      | bare long short ↦ stray_ends _ _ word words clean_word (inr (inr (long, short))) ∙ sym (stray_ends _ _ word words clean_word (inr (inr (long, short))))
    ]

-- a value that is pending is refused where there is a row
pub conflict : (id : Text) (rows : List Row) (value : Text) (words : List Text) → arg_by_id rules id ≡ Some (valued id) → has_row id rows ≡ true → no_dashes words ≡ true
    → rest shape (at rows (Some (id, value ∷ [])) idle) words ≡ None
unfolding rest walked
conflict id rows value [] known taken clean = rw (known, taken) refl
conflict id rows value (word ∷ words) known taken clean =
    let clean_word = not_true (bytes_eq word (45 ∷ 45 ∷ [])) (and_parts _ _ clean).0 in
    elim (class_of word) [
      | how_class None long ↦ rw (clean_word, long, known, taken) refl
      | how_class (Some v) long ↦ rw (clean_word, long, known, taken) refl
      | seed_class None long ↦ rw (clean_word, long, known, taken) refl
      | seed_class (Some v) long ↦ rw (clean_word, long, known, taken) refl
      | replies_class None long ↦ rw (clean_word, long, known, taken) refl
      | replies_class (Some v) long ↦ rw (clean_word, long) refl
      | unknown name v long none ↦ stray_ends _ _ word words clean_word (inl (name, v, long, none))
      | bundled flags long short ↦ stray_ends _ _ word words clean_word (inr (inl (flags, long, short)))
      | bare long short ↦ stray_ends _ _ word words clean_word (inr (inr (long, short)))
    ]

-- ---- an option that waits for its value

abbrev pub waits : List Row → Text → Walk
waits rows id = at rows (Some (id, [])) (option id)

-- a word with no hyphen in front is the value
pub waits_value : (id : Text) (rows : List Row) (word : Text) (words : List Text) → arg_by_id rules id ≡ Some (valued id) → bytes_eq id id ≡ true → bytes_eq word (45 ∷ 45 ∷ []) ≡ false
    → long_of word ≡ None → short_of word ≡ None → rest shape (waits rows id) (word ∷ words) ≡ rest shape (at rows (Some (id, word ∷ [])) idle) words
unfolding rest walked
waits_value id rows word words known same dashes long short = rw (dashes, long, short, known, same) refl

-- so is one that is no text, and no other
waits_bundle : (id : Text) (rows : List Row) (word flags : Text) (words : List Text) → arg_by_id rules id ≡ Some (valued id) → bytes_eq id id ≡ true → bytes_eq word (45 ∷ 45 ∷ []) ≡ false
    → long_of word ≡ None → short_of word ≡ Some flags
    → (rest shape (waits rows id) (word ∷ words) ≡ None) ⊎ (rest shape (waits rows id) (word ∷ words) ≡ rest shape (at rows (Some (id, word ∷ [])) idle) words)
unfolding rest walked flags_fault bundle_met
waits_bundle id rows word [] words known same dashes long short = inr (rw (dashes, long, short, known, same) refl)
waits_bundle id rows word (x ∷ xs) words known same dashes long short =
    elim (slice_get (chars (x ∷ xs)) 0) as (λ o. slice_get (chars (x ∷ xs)) 0 ≡ o
    → (rest shape (waits rows id) (word ∷ words) ≡ None) ⊎ (rest shape (waits rows id) (word ∷ words) ≡ rest shape (at rows (Some (id, word ∷ [])) idle) words)) [
      | None ↦ λ first. inr (rw (dashes, long, short, first, known, same) refl)
      | Some c ↦ λ first. inl (rw (dashes, long, short, first) refl)
    ] refl

-- a word waited for that is an option is refused; any other is the value, or refused
pub waits_next : (id : Text) (rows : List Row) (word : Text) (words : List Text) → arg_by_id rules id ≡ Some (valued id) → bytes_eq id id ≡ true → bytes_eq word (45 ∷ 45 ∷ []) ≡ false
    → (rest shape (waits rows id) (word ∷ words) ≡ None) ⊎ (rest shape (waits rows id) (word ∷ words) ≡ rest shape (at rows (Some (id, word ∷ [])) idle) words)
unfolding rest walked
waits_next id rows word words known same dashes =
    elim (class_of word) [
      | how_class None long ↦ inl (rw (dashes, long, known) refl)
      | how_class (Some v) long ↦ inl (rw (dashes, long, known) refl)
      | seed_class None long ↦ inl (rw (dashes, long, known) refl)
      | seed_class (Some v) long ↦ inl (rw (dashes, long, known) refl)
      | replies_class None long ↦ inl (rw (dashes, long, known) refl)
      | replies_class (Some v) long ↦ inl (rw (dashes, long) refl)
      | unknown name v long none ↦ inl (rw (dashes, long, none) refl)
      | bundled flags long short ↦ waits_bundle id rows word flags words known same dashes long short
      | bare long short ↦ inr (waits_value id rows word words known same dashes long short)
    ]

pub waits_end : (id : Text) (rows : List Row) → arg_by_id rules id ≡ Some (valued id) → rest shape (waits rows id) [] ≡ None
unfolding rest
waits_end id rows known = rw known refl

-- ---- an option in front

-- an option with a value, and the word that names it
pub record IsOption (id name : Text) : Type 0 where
  pub known : arg_by_id rules id ≡ Some (valued id)
  pub long : arg_by_long rules id ≡ Some (valued id)
  pub same : bytes_eq id id ≡ true
  pub name_is : name ≡ 45 ∷ 45 ∷ id
  pub alone : long_of name ≡ Some (id, None)
  pub with_value : (value : Text) → long_of (name ++ 61 ∷ value) ≡ Some (id, Some value)
  pub not_dashes : bytes_eq name (45 ∷ 45 ∷ []) ≡ false
  pub not_dashes_with : (value : Text) → bytes_eq (name ++ 61 ∷ value) (45 ∷ 45 ∷ []) ≡ false

pub how_option : IsOption (codes "how") (codes "--how")
how_option = record { known = refl; long = refl; same = refl; name_is = refl; alone = refl; with_value = λ value. refl; not_dashes = refl; not_dashes_with = λ value. refl }

pub seed_option : IsOption (codes "seed") (codes "--seed")
seed_option = record { known = refl; long = refl; same = refl; name_is = refl; alone = refl; with_value = λ value. refl; not_dashes = refl; not_dashes_with = λ value. refl }

-- `--id=value`
pub attached : (rows : List Row) (id name word value : Text) (words : List Text) → IsOption id name → bytes_eq word (45 ∷ 45 ∷ []) ≡ false → long_of word ≡ Some (id, Some value)
    → has_row id rows ≡ false → rest shape (at rows None idle) (word ∷ words) ≡ rest shape (at (rows ++ row id value ∷ []) None idle) words
unfolding rest walked
attached rows id name word value words new dashes long fresh = rw (dashes, long, new.long, fresh, added id value rows fresh) refl

pub attached_again : (rows : List Row) (id name word value : Text) (words : List Text) → IsOption id name → bytes_eq word (45 ∷ 45 ∷ []) ≡ false → long_of word ≡ Some (id, Some value)
    → has_row id rows ≡ true → rest shape (at rows None idle) (word ∷ words) ≡ None
unfolding rest walked
attached_again rows id name word value words new dashes long taken = rw (dashes, long, new.long, taken) refl

-- `--id` alone
pub named : (rows : List Row) (id name word : Text) (words : List Text) → IsOption id name → bytes_eq word (45 ∷ 45 ∷ []) ≡ false → long_of word ≡ Some (id, None)
    → rest shape (at rows None idle) (word ∷ words) ≡ rest shape (waits rows id) words
unfolding rest walked
named rows id name word words new dashes long = rw (dashes, long, new.long) refl

-- `--replies`
pub flagged : (rows : List Row) (word : Text) (words : List Text) → bytes_eq word (45 ∷ 45 ∷ []) ≡ false → long_of word ≡ Some (codes "replies", None)
    → has_row (codes "replies") rows ≡ false → rest shape (at rows None idle) (word ∷ words) ≡ rest shape (at (rows ++ flag_row ∷ []) None idle) words
unfolding rest walked
flagged rows word words dashes long fresh = rw (dashes, long, fresh, added_flag rows fresh) refl

pub flagged_again : (rows : List Row) (word : Text) (words : List Text) → bytes_eq word (45 ∷ 45 ∷ []) ≡ false → long_of word ≡ Some (codes "replies", None)
    → has_row (codes "replies") rows ≡ true → rest shape (at rows None idle) (word ∷ words) ≡ None
unfolding rest walked
flagged_again rows word words dashes long taken = rw (dashes, long, taken) refl

pub flagged_with : (rows : List Row) (word value : Text) (words : List Text) → bytes_eq word (45 ∷ 45 ∷ []) ≡ false → long_of word ≡ Some (codes "replies", Some value)
    → rest shape (at rows None idle) (word ∷ words) ≡ None
unfolding rest walked
flagged_with rows word value words dashes long = rw (dashes, long) refl

-- ---- all of the walk

-- the parse of the words is the walk, and what follows it passes
pub rest_is : (s : Shape) (w : Walk) (words : List Text)
    → rest s w words ≡ unless (or_else (walk_fault s [] w words) (settle_fault s.rules s.args_override_self (fold (walked s.rules []) w words).held)) (Some (settled s.rules (fold (walked s.rules []) w words).held).rows)
unfolding rest walk_fault
rest_is s w [] = refl
rest_is s w (word ∷ words) =
    elim (turn_fault s [] w word) as (λ k. turn_fault s [] w word ≡ k
    → unless (turn_fault s [] w word) (rest s (walked s.rules [] w word) words) ≡ unless (or_else (or_else (turn_fault s [] w word) (walk_fault s [] (walked s.rules [] w word) words))
    (settle_fault s.rules s.args_override_self (fold (walked s.rules []) (walked s.rules [] w word) words).held)) (Some (settled s.rules (fold (walked s.rules []) (walked s.rules [] w word) words).held).rows)) [
      | [] ↦ λ none. rw none (rest_is s (walked s.rules [] w word) words)
      | k ∷ ks ↦ λ some. rw some refl
    ] refl
