-- Which words are commands.
use Rattle.std.proofs.Common.{◌≡◌, ℕ, Bool, true, false, not, ◌&&◌, Option, Some, None, List, [], ◌∷◌, ◌++◌, length, map, refl, sym, ap, ◌∙◌, arith, inl, inr, subst, codes, eqb, leb}
use Rattle.std.specs.List.{list_all}
use Rattle.std.specs.Str.{bytes_eq}
use Rattle.std.proofs.lemmas.Bool.{false≢true, and_parts, cases_Bool, eqb-true, leb-true}
use Rattle.std.proofs.lemmas.List.Folds.{list_all-append}
use Rattle.slub_common.specs.Numbers.{is_digit, is_number}
use Rattle.slub_object_layout.specs.declared.layout.Spec.{Spec}
use Rattle.slub_command.specs.declared.command.How.{How}
use Rattle.slub_command.specs.declared.command.How.TheVariants.{Serial, Schedule, Threads}
use Rattle.slub_command.specs.declared.command.Command.{Command}
use Rattle.slub_command.specs.declared.command.Command.TheVariants.{Replay, Layout, Load}
use Rattle.slub_command.specs.Arguments.{no_dashes}
use Rattle.slub_command.specs.Command.{IsCommand, IsLayout, IsLoad, SayLayout, SayLoad}
use Rattle.slub_command.specs.Options.{Given, how_given, seed_given, replies_given, IsValued, AreGiven, AreOptions, IsHow, IsReplay, IsSeed, hows, seeds, is_bare, is_plain, listed}
use Rattle.slub_command.specs.Spelling.{Word, IsFlags, IsNumber, are_letters, is_flag_word, is_letter, stands_once}

-- ---- words with no hyphen in front

digit_is_bare : (c : ℕ) → is_digit c ≡ true → not (eqb c 45) ≡ true
digit_is_bare c is =
    elim (cases_Bool (eqb c 45)) [
      | inl same ↦
          let low = leb-true 48 c (and_parts (leb 48 c) (leb c 57) is).0 in
          let hyphen = eqb-true c 45 same in
          absurd (let never : ⊥ = omega arith in never)
      | inr other ↦ rw other refl
    ]

pub numeral_is_bare : (word : Word) → is_number word ≡ true → is_bare word ≡ true
numeral_is_bare [] is = refl
numeral_is_bare (c ∷ []) is = digit_is_bare c is
numeral_is_bare (c ∷ d ∷ cs) is =
    let digits = (and_parts (not (eqb c 48)) (list_all is_digit (c ∷ d ∷ cs)) is).1 in
    digit_is_bare c (and_parts (is_digit c) (list_all is_digit (d ∷ cs)) digits).0

bare_is_plain : (word : Word) → is_bare word ≡ true → is_plain word ≡ true
bare_is_plain word is = rw is refl

number_is_plain : (least most : ℕ) (word : Word) (n : ℕ) → IsNumber least most word n → is_plain word ≡ true
number_is_plain least most word n is = bare_is_plain word (numeral_is_bare word is.writes.form)

letters_are_bare : (word : Word) → are_letters word ≡ true → is_bare word ≡ true
letters_are_bare [] is = refl
letters_are_bare (c ∷ cs) is =
    let some = and_parts (not (eqb (length (c ∷ cs)) 0)) (list_all is_letter (c ∷ cs) && list_all (stands_once (c ∷ cs)) (c ∷ cs)) is in
    let letters = and_parts (list_all is_letter (c ∷ cs)) (list_all (stands_once (c ∷ cs)) (c ∷ cs)) some.1 in
    let first = (and_parts (is_letter c) (list_all is_letter cs) letters.0).0 in
    elim (cases_Bool (eqb c 45)) [
      | inl same ↦
          let bad : is_letter 45 ≡ true = subst (λ x. is_letter x ≡ true) (eqb-true c 45 same) first in
          absurd (false≢true bad)
      | inr other ↦ rw other refl
    ]

flags_are_plain : (word : Word) → is_flag_word word ≡ true → is_plain word ≡ true
flags_are_plain word is =
    elim (cases_Bool (bytes_eq word (codes "-"))) [
      | inl hyphen ↦ rw hyphen (elim (cases_Bool (is_bare word)) [ inl good ↦ rw good refl | inr other ↦ rw other refl ])
      | inr other ↦ bare_is_plain word (letters_are_bare word (rw other at is))
    ]

-- no such word is `--`
plain_no_dashes : (word : Word) → is_plain word ≡ true → not (bytes_eq word (45 ∷ 45 ∷ [])) ≡ true
plain_no_dashes [] is = refl
plain_no_dashes (c ∷ []) is = elim (cases_Bool (eqb c 45)) [ inl same ↦ rw same refl | inr other ↦ rw other refl ]
plain_no_dashes (c ∷ d ∷ cs) is =
    elim (cases_Bool (eqb c 45)) [
      | inl same ↦ let bad = rw same at is in absurd (false≢true bad)
      | inr other ↦ rw other refl
    ]

-- ---- the values of options

how_is_bare : (text : Option Word) (how : How) → IsHow text how → list_all is_bare (listed text) ≡ true
how_is_bare None how is = refl
how_is_bare (Some value) Serial is = rw is refl
how_is_bare (Some value) Schedule is = rw is refl
how_is_bare (Some value) Threads is = rw is refl

seed_is_bare : (text : Option Word) (seed : ℕ) → IsSeed text seed → list_all is_bare (listed text) ≡ true
seed_is_bare None seed is = refl
seed_is_bare (Some value) seed is = rw (numeral_is_bare value is.writes.form) refl

abbrev pub values_bare : Option Word → Option Word → Bool
values_bare how seed = list_all is_bare (listed how) && list_all is_bare (listed seed)

pub replay_bare : (words : List Word) (how : How) (seed : ℕ) (replies : Bool) (is : IsReplay words how seed replies) → values_bare is.how_text is.seed_text ≡ true
replay_bare words how seed replies is = rw (how_is_bare is.how_text how is.how_is, seed_is_bare is.seed_text seed is.seed_is) refl

-- ---- words that are refused

pub replay_refused : (words : List Word) → ((how seed : Option Word) (replies : Bool) → AreOptions words how seed replies → values_bare how seed ≡ true → ⊥)
    → (how : How) (seed : ℕ) (replies : Bool) → IsReplay words how seed replies → ⊥
replay_refused words none how seed replies is = none is.how_text is.seed_text replies is.options (replay_bare words how seed replies is)

abbrev pub Only : List Word → Option Word → Option Word → Bool → Type 0
Only words how seed replies = (other_how other_seed : Option Word) (other : Bool) → AreOptions words other_how other_seed other → values_bare other_how other_seed ≡ true
    → (other_how ≡ how) × (other_seed ≡ seed) × (other ≡ replies)

pub how_refused : (words : List Word) (how_text seed_text : Option Word) (set : Bool) → Only words how_text seed_text set → ((how : How) → IsHow how_text how → ⊥)
    → (how : How) (seed : ℕ) (replies : Bool) → IsReplay words how seed replies → ⊥
how_refused words how_text seed_text set only none how seed replies is =
    let same = only is.how_text is.seed_text replies is.options (replay_bare words how seed replies is) in
    none how (subst (λ t. IsHow t how) same.0 is.how_is)

pub seed_refused : (words : List Word) (how_text seed_text : Option Word) (set : Bool) → Only words how_text seed_text set → ((seed : ℕ) → IsSeed seed_text seed → ⊥)
    → (how : How) (seed : ℕ) (replies : Bool) → IsReplay words how seed replies → ⊥
seed_refused words how_text seed_text set only none how seed replies is =
    let same = only is.how_text is.seed_text replies is.options (replay_bare words how seed replies is) in
    none seed (subst (λ t. IsSeed t seed) same.1 is.seed_is)

layout_plain : (a b c d : Word) (spec : Spec) (cpus : ℕ) → SayLayout a b c d spec cpus → (is_plain a && is_plain b && is_plain c && is_plain d) ≡ true
layout_plain a b c d spec cpus say = rw (number_is_plain _ _ a _ say.size_is, number_is_plain _ _ b _ say.align_is, flags_are_plain c say.flags_is.form, number_is_plain _ _ d _ say.cpus_is) refl

pub layout_refused : (words : List Word) → ((a b c d : Word) → words ≡ a ∷ b ∷ c ∷ d ∷ [] → (is_plain a && is_plain b && is_plain c && is_plain d) ≡ true → ⊥)
    → (spec : Spec) (cpus : ℕ) → IsLayout words spec cpus → ⊥
layout_refused words none spec cpus is = none is.size_word is.align_word is.flags_word is.cpus_word is.places (layout_plain is.size_word is.align_word is.flags_word is.cpus_word spec cpus is.say)

pub same_four : (a b c d x y z w : Word) → a ∷ b ∷ c ∷ d ∷ [] ≡ x ∷ y ∷ z ∷ w ∷ [] → (a ≡ x) × (b ≡ y) × (c ≡ z) × (d ≡ w)
same_four a b c d x y z w is = (cc, cc, cc, cc)

pub same_three : (a b c x y z : Word) → a ∷ b ∷ c ∷ [] ≡ x ∷ y ∷ z ∷ [] → (a ≡ x) × (b ≡ y) × (c ≡ z)
same_three a b c x y z is = (cc, cc, cc)

pub layout_unsaid : (words : List Word) (a b c d : Word) → words ≡ a ∷ b ∷ c ∷ d ∷ [] → ((spec : Spec) (cpus : ℕ) → SayLayout a b c d spec cpus → ⊥)
    → (spec : Spec) (cpus : ℕ) → IsLayout words spec cpus → ⊥
layout_unsaid words a b c d words_are none spec cpus is =
    let same = same_four is.size_word is.align_word is.flags_word is.cpus_word a b c d (sym is.places ∙ words_are) in
    let say = is.say in
    none spec cpus (record {
      size_is = subst (λ w. IsNumber 0 4294967295 w spec.size) same.0 say.size_is;
      align_is = subst (λ w. IsNumber 0 4294967295 w spec.align) same.1 say.align_is;
      flags_is = subst (λ w. IsFlags w spec.flags) same.2 say.flags_is;
      cpus_is = subst (λ w. IsNumber 1 16 w cpus) same.3 say.cpus_is;
    })

load_plain : (a b c : Word) (seed events workers : ℕ) → SayLoad a b c seed events workers → (is_plain a && is_plain b && is_plain c) ≡ true
load_plain a b c seed events workers say = rw (number_is_plain _ _ a _ say.seed_is, number_is_plain _ _ b _ say.events_is, number_is_plain _ _ c _ say.workers_is) refl

pub load_refused : (words : List Word) → ((a b c : Word) → words ≡ a ∷ b ∷ c ∷ [] → (is_plain a && is_plain b && is_plain c) ≡ true → ⊥)
    → (seed events workers : ℕ) → IsLoad words seed events workers → ⊥
load_refused words none seed events workers is = none is.seed_word is.events_word is.workers_word is.places (load_plain is.seed_word is.events_word is.workers_word seed events workers is.say)

pub load_unsaid : (words : List Word) (a b c : Word) → words ≡ a ∷ b ∷ c ∷ [] → ((seed events workers : ℕ) → SayLoad a b c seed events workers → ⊥)
    → (seed events workers : ℕ) → IsLoad words seed events workers → ⊥
load_unsaid words a b c words_are none seed events workers is =
    let same = same_three is.seed_word is.events_word is.workers_word a b c (sym is.places ∙ words_are) in
    let say = is.say in
    none seed events workers (record {
      seed_is = subst (λ w. IsNumber 0 18446744073709551615 w seed) same.0 say.seed_is;
      events_is = subst (λ w. IsNumber 0 500000 w events) same.1 say.events_is;
      workers_is = subst (λ w. IsNumber 1 16 w workers) same.2 say.workers_is;
    })

-- ---- the name in front

pub apart : {A : Type 0} (name other : Word) → bytes_eq name name ≡ true → bytes_eq name other ≡ false → name ≡ other → A
apart name other same differ is = absurd (false≢true (sym differ ∙ (ap (bytes_eq name) (sym is) ∙ same)))

pub no_replay : (name : Word) (words : List Word) → name ≡ codes "replay" → ((how : How) (seed : ℕ) (replies : Bool) → IsReplay words how seed replies → ⊥) → (command : Command) → IsCommand (name ∷ words) command → ⊥
no_replay name words named none (Replay how seed replies) is = none how seed replies is.1
no_replay name words named none (Layout spec cpus) is = apart (codes "replay") (codes "layout") refl refl (sym named ∙ is.0)
no_replay name words named none (Load seed events workers) is = apart (codes "replay") (codes "load") refl refl (sym named ∙ is.0)

pub no_layout : (name : Word) (words : List Word) → name ≡ codes "layout" → ((spec : Spec) (cpus : ℕ) → IsLayout words spec cpus → ⊥) → (command : Command) → IsCommand (name ∷ words) command → ⊥
no_layout name words named none (Replay how seed replies) is = apart (codes "layout") (codes "replay") refl refl (sym named ∙ is.0)
no_layout name words named none (Layout spec cpus) is = none spec cpus is.1
no_layout name words named none (Load seed events workers) is = apart (codes "layout") (codes "load") refl refl (sym named ∙ is.0)

pub no_load : (name : Word) (words : List Word) → name ≡ codes "load" → ((seed events workers : ℕ) → IsLoad words seed events workers → ⊥) → (command : Command) → IsCommand (name ∷ words) command → ⊥
no_load name words named none (Replay how seed replies) is = apart (codes "load") (codes "replay") refl refl (sym named ∙ is.0)
no_load name words named none (Layout spec cpus) is = apart (codes "load") (codes "layout") refl refl (sym named ∙ is.0)
no_load name words named none (Load seed events workers) is = none seed events workers is.1

-- ---- no command has `--`

pub dashes_map : {X : Type 0} (f : X → Word) (xs : List X) → list_all (λ x. not (bytes_eq (f x) (45 ∷ 45 ∷ []))) xs ≡ no_dashes (map f xs)
dashes_map f [] = refl
dashes_map f (x ∷ xs) = ap (λ b. not (bytes_eq (f x) (45 ∷ 45 ∷ [])) && b) (dashes_map f xs)

bare_no_dashes : (word : Word) → is_bare word ≡ true → not (bytes_eq word (45 ∷ 45 ∷ [])) ≡ true
bare_no_dashes word is = plain_no_dashes word (bare_is_plain word is)

joined : (front rest : List Word) → no_dashes front ≡ true → no_dashes rest ≡ true → no_dashes (front ++ rest) ≡ true
joined front rest first second = list_all-append (λ w. not (bytes_eq w (45 ∷ 45 ∷ []))) front rest ∙ rw (first, second) refl

how_clean : (value : Word) (front : List Word) → IsValued (codes "--how") value front → is_bare value ≡ true → no_dashes front ≡ true
how_clean value front (inl is) good = rw (is, bare_no_dashes value good) refl
how_clean value front (inr is) good = rw is refl

seed_clean : (value : Word) (front : List Word) → IsValued (codes "--seed") value front → is_bare value ≡ true → no_dashes front ≡ true
seed_clean value front (inl is) good = rw (is, bare_no_dashes value good) refl
seed_clean value front (inr is) good = rw is refl

given_clean : (given : List Given) (words : List Word) → AreGiven given words → list_all is_bare (hows given) ≡ true → list_all is_bare (seeds given) ≡ true → no_dashes words ≡ true
given_clean [] words is good_hows good_seeds = rw is refl
given_clean (how_given value ∷ given) words (front, rest, is, first, more) good_hows good_seeds =
    let good = and_parts (is_bare value) (list_all is_bare (hows given)) good_hows in
    rw is (joined front rest (how_clean value front first good.0) (given_clean given rest more good.1 good_seeds))
given_clean (seed_given value ∷ given) words (front, rest, is, first, more) good_hows good_seeds =
    let good = and_parts (is_bare value) (list_all is_bare (seeds given)) good_seeds in
    rw is (joined front rest (seed_clean value front first good.0) (given_clean given rest more good_hows good.1))
given_clean (replies_given ∷ given) words (front, rest, is, first, more) good_hows good_seeds =
    rw is (joined front rest (rw first refl) (given_clean given rest more good_hows good_seeds))

pub options_clean : (words : List Word) (how seed : Option Word) (replies : Bool) → AreOptions words how seed replies → values_bare how seed ≡ true → no_dashes words ≡ true
options_clean words how seed replies options good =
    let parts = and_parts (list_all is_bare (listed how)) (list_all is_bare (listed seed)) good in
    given_clean options.given words options.spelled (rw options.how_once parts.0) (rw options.seed_once parts.1)

layout_clean : (words : List Word) (spec : Spec) (cpus : ℕ) → IsLayout words spec cpus → no_dashes words ≡ true
layout_clean words spec cpus is =
    let say = is.say in
    rw (
      is.places,
      plain_no_dashes is.size_word (number_is_plain _ _ _ _ say.size_is),
      plain_no_dashes is.align_word (number_is_plain _ _ _ _ say.align_is),
      plain_no_dashes is.flags_word (flags_are_plain is.flags_word say.flags_is.form),
      plain_no_dashes is.cpus_word (number_is_plain _ _ _ _ say.cpus_is),
    ) refl

load_clean : (words : List Word) (seed events workers : ℕ) → IsLoad words seed events workers → no_dashes words ≡ true
load_clean words seed events workers is =
    let say = is.say in
    rw (is.places, plain_no_dashes is.seed_word (number_is_plain _ _ _ _ say.seed_is), plain_no_dashes is.events_word (number_is_plain _ _ _ _ say.events_is), plain_no_dashes is.workers_word (number_is_plain _ _ _ _ say.workers_is)) refl

pub command_clean : (words : List Word) (command : Command) → IsCommand words command → no_dashes words ≡ true
command_clean [] command is = refl
command_clean (name ∷ words) (Replay how seed replies) is = rw (is.0, options_clean words is.1.how_text is.1.seed_text replies is.1.options (replay_bare words how seed replies is.1)) refl
command_clean (name ∷ words) (Layout spec cpus) is = rw (is.0, layout_clean words spec cpus is.1) refl
command_clean (name ∷ words) (Load seed events workers) is = rw (is.0, load_clean words seed events workers is.1) refl
