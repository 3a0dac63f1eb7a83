-- Words of a line: what is written is read with its number cut at 2 ^ 64, and what is read is written.
use Rattle.std.proofs.Common.{◌≡◌, ◌≢◌, ℕ, zero, suc, ◌+◌, ◌-◌, ◌*◌, ◌<◌, ◌≤◌, All, Bool, true, false, cond, not, ◌&&◌, Option, Some, None, List, [], ◌∷◌, ◌++◌, refl, sym, ap, ◌∙◌, arith, eqb, leb, nat_eq, inl, inr, subst, unwrap_or, ◌⊎◌}
use Rattle.std.specs.Prelude.{option_map, option_and_then, codes}
use Rattle.std.specs.List.{list_all}
use Rattle.std.specs.Cmp.Lexicographic.{pointwise, bytes_decides}
use Rattle.std.proofs.lemmas.Bool.{false≢true, cases_Bool, eqb-true, ne_eqb, and_parts, leb-true, le-leb}
use Rattle.std.proofs.lemmas.List.Elements.{All-cons, All-nil}
use Rattle.slub_common.specs.Numbers.{Writes, cut_number, is_digit, is_number, number_of}
use Rattle.slub_common.proofs.Digits.{digit_within, number_found, number_some}
use Rattle.slub_object_layout.specs.declared.layout.Flags.{Flags}
use Rattle.slub_object_layout.specs.Name.{IsName}
use Rattle.slub_trace_reader.specs.declared.line.Knob.{Knob}
use Rattle.slub_trace_reader.specs.declared.line.Knob.TheVariants.{MinPartial, CpuPartial}
use Rattle.slub_trace.specs.Names.{is_name}
use Rattle.slub_trace_reader.specs.Forms.{field, offset_of, name_of, flags_of, byte_of, knob_of, version_of, number_at, name_at, offset_at, knob_at, ◌or_else◌}
use Rattle.slub_trace_reader.specs.Lines.{knob_word}
use Rattle.slub_trace_reader.specs.Words.{WritesOffset, WritesFlags, WritesByte, are_flags, flags_in, is_hex, hex_value}
use Rattle.slub_trace.proofs.Names.{name_tells}
use Rattle.slub_trace_reader.proofs.Fields.{IsWord, field_found, field_some}

-- ---- answers that are there

pub bind_found : {A B : Type 0} (o : Option A) (f : A → Option B) (x : A) (r : Option B) → o ≡ Some x → f x ≡ r → option_and_then f o ≡ r
bind_found o f x r is more = rw is more

pub bind_some : {A B : Type 0} (o : Option A) (f : A → Option B) (y : B) → option_and_then f o ≡ Some y → (x : A) × (o ≡ Some x) × (f x ≡ Some y)
bind_some None f y is = cc
bind_some (Some x) f y is = (x, refl, is)

pub same_some : {A : Type 0} (x y : A) → Some x ≡ Some y → x ≡ y
same_some {A} x y is = ap (λ (o : Option A). unwrap_or o x) is

pub map_some : {A B : Type 0} (f : A → B) (o : Option A) (y : B) → option_map f o ≡ Some y → (x : A) × (o ≡ Some x) × (f x ≡ y)
map_some f None y is = cc
map_some f (Some x) y is = (x, refl, same_some (f x) y is)

-- what a test lets through
pub if_some : {A : Type 0} (b : Bool) (x y : A) → cond b (Some x) None ≡ Some y → (b ≡ true) × (x ≡ y)
if_some true x y is = (refl, same_some x y is)
if_some false x y is = cc

-- ---- the first answer that is there

pub or_none : {A : Type 0} (o p r : Option A) → o ≡ None → p ≡ r → (o or_else p) ≡ r
or_none o p r none is = rw none is

pub or_found : {A : Type 0} (o p : Option A) (x : A) → o ≡ Some x → (o or_else p) ≡ Some x
or_found o p x is = rw is refl

pub or_some : {A : Type 0} (o p : Option A) (x : A) → (o or_else p) ≡ Some x → (o ≡ Some x) ⊎ (p ≡ Some x)
or_some None p x is = inr is
or_some (Some y) p x is = inl is

-- ---- words

digits_lack : (b : ℕ) (cs : List ℕ) → b < 48 → list_all is_digit cs ≡ true → All (λ c. c ≢ b) cs
digits_lack b [] low is = All-nil (λ c. c ≢ b)
digits_lack b (c ∷ cs) low is =
    let parts = and_parts (is_digit c) (list_all is_digit cs) is in
    let range = digit_within c parts.0 in
    All-cons (λ d. d ≢ b) c cs (λ same. absurd (let never : ⊥ = omega arith in never)) (digits_lack b cs low parts.1)

-- a number has no byte below the digits
pub number_lacks : (b : ℕ) (word : List ℕ) → b < 48 → is_number word ≡ true → All (λ c. c ≢ b) word
number_lacks b [] low is = absurd (false≢true is)
number_lacks b (c ∷ []) low is = digits_lack b (c ∷ []) low (rw is refl)
number_lacks b (c ∷ d ∷ cs) low is = digits_lack b (c ∷ d ∷ cs) low (and_parts (not (eqb c 48)) (list_all is_digit (c ∷ d ∷ cs)) is).1

-- a number has no space
pub number_word : (word : List ℕ) → is_number word ≡ true → IsWord word
number_word word is = number_lacks 32 word (omega arith) is

pub number_at_found : (word : List ℕ) (n : ℕ) (rest : List ℕ) → Writes word n → number_at (word ++ 32 ∷ rest) ≡ Some (cut_number n, rest)
unfolding number_at
number_at_found word n rest is = bind_found _ _ _ _ (field_found word rest (number_word word is.form)) (bind_found _ _ _ _ (number_found word n is) refl)

pub number_at_some : (bytes : List ℕ) (p : ℕ × List ℕ) → number_at bytes ≡ Some p
    → (word : List ℕ) × (n : ℕ) × Writes word n × (bytes ≡ word ++ 32 ∷ p.1) × (p.0 ≡ cut_number n)
unfolding number_at
number_at_some bytes p is =
    let s = bind_some _ _ _ is in
    let t = bind_some _ _ _ s.2 in
    let same = same_some _ _ t.2 in
    let f = number_some s.0.0 t.0 t.1 in
    (s.0.0, f.0, f.1, (field_some bytes s.0.0 s.0.1 s.1).0 ∙ ap (λ (q : ℕ × List ℕ). s.0.0 ++ 32 ∷ q.1) same, ap (λ (q : ℕ × List ℕ). q.0) (sym same) ∙ f.2)

-- a name has no byte below the dash
pub name_lacks : (b : ℕ) (name : List ℕ) → b < 45 → IsName name → All (λ c. c ≢ b) name
name_lacks b [] below is k d low = absurd is
name_lacks b (c ∷ cs) below is zero d low = λ same. grind arith
name_lacks b (c ∷ cs) below is (suc k) d low = λ same. let one = is.1 k d (grind arith) in grind arith

-- a name has no space
name_word : (name : List ℕ) → IsName name → IsWord name
name_word name is = name_lacks 32 name (omega arith) is

pub name_found : (name : List ℕ) → IsName name → name_of name ≡ Some name
unfolding name_of
name_found name is = rw ((name_tells name).1 is) refl

pub name_some : (word name : List ℕ) → name_of word ≡ Some name → IsName name × (word ≡ name)
unfolding name_of
name_some word name is =
    let parts = if_some (is_name word) word name is in
    (subst (λ (n : List ℕ). IsName n) parts.1 ((name_tells word).0 parts.0), parts.1)

pub name_at_found : (name rest : List ℕ) → IsName name → name_at (name ++ 32 ∷ rest) ≡ Some (name, rest)
unfolding name_at
name_at_found name rest is = bind_found _ _ _ _ (field_found name rest (name_word name is)) (bind_found _ _ _ _ (name_found name is) refl)

pub name_at_some : (bytes : List ℕ) (p : List ℕ × List ℕ) → name_at bytes ≡ Some p → IsName p.0 × (bytes ≡ p.0 ++ 32 ∷ p.1)
unfolding name_at
name_at_some bytes p is =
    let s = bind_some _ _ _ is in
    let t = bind_some _ _ _ s.2 in
    let same = same_some _ _ t.2 in
    let f = name_some s.0.0 t.0 t.1 in
    let P : List ℕ × List ℕ → Type 0 = λ q. IsName q.0 × (bytes ≡ q.0 ++ 32 ∷ q.1) in
    subst P same (f.0, (field_some bytes s.0.0 s.0.1 s.1).0 ∙ ap (λ w. w ++ 32 ∷ s.0.1) f.1)

pub flags_found : (word : List ℕ) (flags : Flags) → WritesFlags word flags → flags_of word ≡ Some flags
unfolding flags_of
flags_found word flags is = rw (is.form, is.value) refl

pub flags_some : (word : List ℕ) (flags : Flags) → flags_of word ≡ Some flags → WritesFlags word flags
unfolding flags_of
flags_some word flags is =
    let parts = if_some (are_flags word) (flags_in word) flags is in
    record { form = parts.0; value = sym parts.1 }

pub byte_found : (word : List ℕ) (byte : ℕ) → WritesByte word byte → byte_of word ≡ Some byte
unfolding byte_of
byte_found word byte is = rw (is.is, is.form.0, is.form.1, is.value) refl

pub byte_some : (word : List ℕ) (byte : ℕ) → byte_of word ≡ Some byte → WritesByte word byte
unfolding byte_of
byte_some [] byte is = cc
byte_some (h ∷ []) byte is = cc
byte_some (h ∷ l ∷ []) byte is =
    let parts = if_some (is_hex h && is_hex l) (16 * hex_value h + hex_value l) byte is in
    let both = and_parts (is_hex h) (is_hex l) parts.0 in
    record { high = h; low = l; is = refl; form = both; value = sym parts.1 }
byte_some (h ∷ l ∷ x ∷ xs) byte is = cc

first_digit : (c : ℕ) (cs : List ℕ) → is_number (c ∷ cs) ≡ true → (48 ≤ c) × (c ≤ 57)
first_digit c [] is = digit_within c is
first_digit c (d ∷ cs) is =
    let all = (and_parts (not (eqb c 48)) (list_all is_digit (c ∷ d ∷ cs)) is).1 in
    digit_within c (and_parts (is_digit c) (list_all is_digit (d ∷ cs)) all).0

-- a number begins with a digit, so with no minus
no_minus : (c : ℕ) (cs : List ℕ) → is_number (c ∷ cs) ≡ true → eqb c 45 ≡ false
no_minus c cs is = ne_eqb c 45 (λ same. let range = first_digit c cs is in absurd (omega arith))

offset_found : (word : List ℕ) (negative : Bool) (n : ℕ) → WritesOffset word negative n → offset_of word ≡ Some (negative, cut_number n)
unfolding offset_of
offset_found word true n is = rw (is.1) (rw (number_found is.0 n is.2) refl)
offset_found [] false n is = absurd (false≢true is.form)
offset_found (c ∷ cs) false n is = rw (no_minus c cs is.form, number_found (c ∷ cs) n is) refl

offset_some : (word : List ℕ) (p : Bool × ℕ) → offset_of word ≡ Some p → (n : ℕ) × WritesOffset word p.0 n × (p.1 ≡ cut_number n)
unfolding offset_of
offset_some [] p is = cc
offset_some (c ∷ cs) p is =
    let P : Bool × ℕ → Type 0 = λ q. (n : ℕ) × WritesOffset (c ∷ cs) q.0 n × (q.1 ≡ cut_number n) in
    elim (cases_Bool (eqb c 45)) [
      | inl minus ↦
          (let there : option_map (λ n. (true, n)) (number_of cs) ≡ Some p = rw minus at is in
          let m = map_some _ _ _ there in
          let f = number_some cs m.0 m.1 in
          subst P m.2 (f.0, (cs, ap (λ b. b ∷ cs) (eqb-true c 45 minus), f.1), f.2))
      | inr plain ↦
          (let there : option_map (λ n. (false, n)) (number_of (c ∷ cs)) ≡ Some p = rw plain at is in
          let m = map_some _ _ _ there in
          let f = number_some (c ∷ cs) m.0 m.1 in
          subst P m.2 (f.0, f.1, f.2))
    ]

minus_word : (digits : List ℕ) → IsWord digits → IsWord (45 ∷ digits)
minus_word digits is = All-cons (λ c. c ≢ 32) 45 digits (λ same. let never : ⊥ = omega arith in never) is

offset_word : (word : List ℕ) (negative : Bool) (n : ℕ) → WritesOffset word negative n → IsWord word
offset_word word true n is = rw is.1 (minus_word is.0 (number_word is.0 is.2.form))
offset_word word false n is = number_word word is.form

pub offset_at_found : (word : List ℕ) (negative : Bool) (n : ℕ) (rest : List ℕ) → WritesOffset word negative n → offset_at (word ++ 32 ∷ rest) ≡ Some ((negative, cut_number n), rest)
unfolding offset_at
offset_at_found word negative n rest is =
    bind_found _ _ _ _ (field_found word rest (offset_word word negative n is)) (bind_found _ _ _ _ (offset_found word negative n is) refl)

pub offset_at_some : (bytes : List ℕ) (p : (Bool × ℕ) × List ℕ) → offset_at bytes ≡ Some p
    → (word : List ℕ) × (n : ℕ) × WritesOffset word p.0.0 n × (bytes ≡ word ++ 32 ∷ p.1) × (p.0.1 ≡ cut_number n)
unfolding offset_at
offset_at_some bytes p is =
    let s = bind_some _ _ _ is in
    let t = bind_some _ _ _ s.2 in
    let same = same_some _ _ t.2 in
    let f = offset_some s.0.0 t.0 t.1 in
    let P : (Bool × ℕ) × List ℕ → Type 0 = λ q. (word : List ℕ) × (n : ℕ) × WritesOffset word q.0.0 n × (bytes ≡ word ++ 32 ∷ q.1) × (q.0.1 ≡ cut_number n) in
    subst P same (s.0.0, f.0, f.1, (field_some bytes s.0.0 s.0.1 s.1).0, f.2)

-- ---- what a tune line sets, and versions

-- a choice by a test
pub chosen : {A : Type 0} (b : Bool) (x y z : A) → cond b x y ≡ z → ((b ≡ true) × (x ≡ z)) ⊎ ((b ≡ false) × (y ≡ z))
chosen true x y z is = inl (refl, is)
chosen false x y z is = inr (refl, is)

knob_found : (knob : Knob) → knob_of (knob_word knob) ≡ Some knob
unfolding knob_of
knob_found MinPartial = refl
knob_found CpuPartial = refl

knob_some : (word : List ℕ) (knob : Knob) → knob_of word ≡ Some knob → word ≡ knob_word knob
unfolding knob_of
knob_some word knob is =
    let cpu : Option Knob = cond (pointwise nat_eq word (codes "cpu_partial")) (Some CpuPartial) None in
    elim (chosen (pointwise nat_eq word (codes "min_partial")) (Some MinPartial) cpu (Some knob) is) [
      | inl here ↦ (bytes_decides word (codes "min_partial")).0 here.0 ∙ ap knob_word (same_some _ _ here.1)
      | inr there ↦ elim (chosen (pointwise nat_eq word (codes "cpu_partial")) (Some CpuPartial) None (Some knob) there.1) [
        | inl here ↦ (bytes_decides word (codes "cpu_partial")).0 here.0 ∙ ap knob_word (same_some _ _ here.1)
        | inr there ↦ (let never : None ≡ Some knob = there.1 in cc)
      ]
    ]

pub knob_at_found : (knob : Knob) (rest : List ℕ) → knob_at (knob_word knob ++ 32 ∷ rest) ≡ Some (knob, rest)
unfolding knob_at knob_of field
knob_at_found MinPartial rest = refl
knob_at_found CpuPartial rest = refl

pub knob_at_some : (bytes : List ℕ) (p : Knob × List ℕ) → knob_at bytes ≡ Some p → bytes ≡ knob_word p.0 ++ 32 ∷ p.1
unfolding knob_at
knob_at_some bytes p is =
    let s = bind_some _ _ _ is in
    let t = bind_some _ _ _ s.2 in
    let same = same_some _ _ t.2 in
    let P : Knob × List ℕ → Type 0 = λ q. bytes ≡ knob_word q.0 ++ 32 ∷ q.1 in
    subst P same ((field_some bytes s.0.0 s.0.1 s.1).0 ∙ ap (λ w. w ++ 32 ∷ s.0.1) (knob_some s.0.0 t.0 t.1))

-- a version by its digit
pub version_found : (version : ℕ) → 1 ≤ version → version ≤ 4 → version_of ((48 + version) ∷ []) ≡ Some version
unfolding version_of
version_found version low high =
    let first : leb 49 (48 + version) ≡ true = le-leb 49 (48 + version) (omega arith) in
    let last : leb (48 + version) 52 ≡ true = le-leb (48 + version) 52 (omega arith) in
    let back : 48 + version - 48 ≡ version = omega arith in
    rw (first, last, back) refl

pub version_some : (word : List ℕ) (version : ℕ) → version_of word ≡ Some version → (1 ≤ version) × (version ≤ 4) × (word ≡ (48 + version) ∷ [])
unfolding version_of
version_some [] version is = cc
version_some (c ∷ []) version is =
    let parts = if_some (leb 49 c && leb c 52) (c - 48) version is in
    let both = and_parts (leb 49 c) (leb c 52) parts.0 in
    let low = leb-true 49 c both.0 in
    let high = leb-true c 52 both.1 in
    let value = parts.1 in
    let same : c ≡ 48 + version = omega arith in
    (omega arith, omega arith, ap (λ b. b ∷ []) same)
version_some (c ∷ d ∷ cs) version is = cc
