-- Options, one after the other.
use Rattle.std.proofs.Common.{◌≡◌, ℕ, ◌<◌, ◌≤◌, ◌==◌, Bool, true, false, nat_le, List, [], ◌∷◌, ◌++◌, length, Option, Some, None, Result, Ok, Err, IfOk, refl, sym, ap, subst, ◌∙◌, append_assoc, arith}
use Rattle.std.specs.Prelude.{All, option_to_list, if◌then◌else◌}
use Rattle.std.proofs.lemmas.Bool.{leb-true}
use Rattle.std.specs.declared.alloc.Global.{Global}
use Rattle.std.specs.declared.vec.Vec.{Vec}
use Rattle.std.proofs.lemmas.List.{append-nil}
use Rattle.slub_common.specs.declared.no_memory.NoMemory.{NoMemory}
use Rattle.std.proofs.lemmas.List.Elements.{All-append, All-cons, All-nil}
use Rattle.std.specs.Option.{is_some, option_map}
use Rattle.slub_common.specs.Numbers.{number_of}
use Rattle.slub_recorded.specs.declared.tunes.Tune.{Tune}
use Rattle.slub_recorded.specs.Converted.{IsTune}
use Rattle.slub_recorded.specs.Settings.{Word, cut, knob_of, tune_behind, tune_by, tune_of, tune_parted}
use Rattle.slub_trace_reader.specs.declared.line.Knob.{Knob}
use Rattle.slub_trace_reader.specs.Forms.{name_of}
use Rattle.slub_recorded.specs.Words.{are_options, is_tune, tune_in, tunes_in, value_of}

-- fewer than two words have no value
pub short_value : (name : Word) (words : List Word) → length words < 2 → value_of name words ≡ None
short_value name [] short = refl
short_value name (word ∷ []) short = refl
short_value name (word ∷ other ∷ words) short = absurd (omega arith)

-- and are options where there is none
pub short_options : (words : List Word) → length words < 2 → are_options words ≡ (length words == 0)
short_options [] short = refl
short_options (word ∷ []) short = refl
short_options (word ∷ other ∷ words) short = absurd (omega arith)

-- where a look-up found nothing there is no value
pub none_behind : {A : Type 0} (f : A → Word) (found : Option A) (value : Option Word) → option_map f found ≡ value → false ≡ is_some found → is_some value ≡ false
none_behind f None value same none = rw (← same) refl
none_behind f (Some x) value same none = cc

-- and have no setting
pub short_tunes : (words : List Word) → length words < 2 → tunes_in words ≡ []
short_tunes [] short = refl
short_tunes (word ∷ []) short = refl
short_tunes (word ∷ other ∷ words) short = absurd (omega arith)

one_fits : (tune : Option Tune) → ((t : Tune) → tune ≡ Some t → IsTune t) → All IsTune (option_to_list tune)
one_fits None are = All-nil IsTune
one_fits (Some t) are = All-cons IsTune t [] (are t refl) (All-nil IsTune)

-- a setting that a word says is in its range
made_fits : (n : ℕ) (t u : Tune) (b : Bool) → (b ≡ true → n ≤ 4096) → u.number ≡ n → (if b then Some u else None) ≡ Some t → IsTune t
made_fits n t u true few number is = let same : u ≡ t = cc in let moved : t.number ≡ u.number = ap (λ (x : Tune). x.number) (sym same) in let low = few refl in omega (arith, moved, number, low)
made_fits n t u false few number is = absurd cc

by_fits : (cache : Option Word) (knob : Option Knob) (n : Option ℕ) (t : Tune) → tune_by cache knob n ≡ Some t → IsTune t
by_fits None knob n t is = absurd cc
by_fits (Some cache) None n t is = absurd cc
by_fits (Some cache) (Some knob) None t is = absurd cc
by_fits (Some cache) (Some knob) (Some n) t is = made_fits n t _ (nat_le n 4096) (λ low. leb-true n 4096 low) refl is

behind_fits : (cache : Word) (rest : Option (Word × Word)) (t : Tune) → tune_behind cache rest ≡ Some t → IsTune t
behind_fits cache None t is = absurd cc
behind_fits cache (Some rest) t is = by_fits (name_of cache) (knob_of rest.0) (number_of rest.1) t is

parted_fits : (parts : Option (Word × Word)) (t : Tune) → tune_parted parts ≡ Some t → IsTune t
parted_fits None t is = absurd cc
parted_fits (Some parts) t is = behind_fits parts.0 (cut parts.1) t is

said_fits : (word : Word) (t : Tune) → tune_of word ≡ Some t → IsTune t
unfolding tune_of
said_fits word t is = parted_fits (cut word) t is

in_fits : (value : Word) (b : Bool) → All IsTune (if b then option_to_list (tune_of value) else [])
in_fits value true = one_fits (tune_of value) (said_fits value)
in_fits value false = All-nil IsTune

-- each setting of options is in its range
pub tunes_fit : (words : List Word) → All IsTune (tunes_in words)
tunes_fit [] = All-nil IsTune
tunes_fit (word ∷ []) = All-nil IsTune
tunes_fit (name ∷ value ∷ words) = All-append IsTune (tune_in name value) (tunes_in words) (in_fits value (is_tune name)) (tunes_fit words)

-- and where a call made these
pub made_fit : (r : Result (Vec Tune Global) NoMemory) (words : List Word) → IfOk r (λ t. t.items ≡ tunes_in words) → IfOk r (λ t. All IsTune t.items)
made_fit (Ok t) words is = let P : List Tune → Type 0 = λ ts. All IsTune ts in subst P (sym is) (tunes_fit words)
made_fit (Err e) words is = tt

-- ---- a loop over options

pub next_tune : (old new all : List Tune) (name value : Word) (rest others : List Word) → rest ≡ name ∷ value ∷ others → new ≡ old ++ tune_in name value → old ++ tunes_in rest ≡ all → new ++ tunes_in others ≡ all
next_tune old new all name value rest others is more was =
    ap (λ xs. xs ++ tunes_in others) more ∙ append_assoc old (tune_in name value) (tunes_in others) ∙ ap (λ ws. old ++ tunes_in ws) (sym is) ∙ was

pub last_tune : (old all : List Tune) (rest : List Word) → length rest < 2 → old ++ tunes_in rest ≡ all → old ≡ all
last_tune old all rest short was = sym (append-nil old) ∙ ap (λ xs. old ++ xs) (sym (short_tunes rest short)) ∙ was
