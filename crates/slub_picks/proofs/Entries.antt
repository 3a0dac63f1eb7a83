-- An entry's text.
use Rattle.std.proofs.Common.{◌≡◌, ℕ, true, false, not, List, [], ◌∷◌, ◌++◌, refl, sym, ap, ◌∙◌, subst, arith, eqb, inl, inr}
use Rattle.std.proofs.lemmas.Bool.{true≢false, and_parts, cases_Bool, eqb-true}
use Rattle.std.proofs.lemmas.List.Elements.{All-cons, All-nil}
use Rattle.std.specs.List.{list_all}
use Rattle.slub_common.specs.Numbers.{is_digit, is_number}
use Rattle.slub_common.proofs.Digits.{digit_within}
use Rattle.slub_picks.specs.declared.list.Entry.{Entry}
use Rattle.slub_picks.specs.declared.list.Reach.{Reach}
use Rattle.slub_picks.specs.declared.list.Reach.TheVariants.{Turns, Event, End}
use Rattle.slub_picks.specs.List.{IsEntry, IsReach}
use Rattle.slub_picks.specs.Spelling.{IsNumber, Word}
use Rattle.slub_picks.proofs.Splits.{HasNo, not_parted, same_parts}

-- ---- no digit is `:`

no_digit : (c : ℕ) → is_digit c ≡ true → eqb c 58 ≡ false
no_digit c is = elim (cases_Bool (eqb c 58)) [
  | inl same ↦
      let within = digit_within c is in
      let at : c ≡ 58 = eqb-true c 58 same in
      absurd (let never : ⊥ = omega (arith, within.1, at) in never)
  | inr other ↦ other
]

digits_plain : (cs : List ℕ) → list_all is_digit cs ≡ true → HasNo 58 cs
digits_plain [] is = All-nil (λ b. eqb b 58 ≡ false)
digits_plain (c ∷ cs) is =
    let both = and_parts (is_digit c) (list_all is_digit cs) is in
    All-cons (λ b. eqb b 58 ≡ false) c cs (no_digit c both.0) (digits_plain cs both.1)

number_plain : (word : Word) → is_number word ≡ true → HasNo 58 word
number_plain [] is = All-nil (λ b. eqb b 58 ≡ false)
number_plain (c ∷ []) is = All-cons (λ b. eqb b 58 ≡ false) c [] (no_digit c is) (All-nil (λ b. eqb b 58 ≡ false))
number_plain (c ∷ d ∷ cs) is = digits_plain (c ∷ d ∷ cs) (and_parts (not (eqb c 48)) (list_all is_digit (c ∷ d ∷ cs)) is).1

pub worker_plain : (least most : ℕ) (front : Word) (n : ℕ) → IsNumber least most front n → HasNo 58 front
worker_plain least most front n is = number_plain front is.writes.form

-- ---- what an entry needs

-- without `:` the text is a worker
pub bare_worker : (text : Word) (entry : Entry) → HasNo 58 text → IsEntry text entry → IsNumber 0 15 text entry.worker × (entry.reach ≡ Turns 1)
bare_worker text entry clean is = elim is.reach [
  | inl bare ↦ (subst (λ t. IsNumber 0 15 t entry.worker) (sym bare.0) is.worker, bare.1)
  | inr more ↦ absurd (not_parted 58 text is.front more.0 clean more.1)
]

-- with one it is a worker and a reach
pub worker_and_reach : (text front behind : Word) (entry : Entry) → text ≡ front ++ 58 ∷ behind → HasNo 58 front → IsEntry text entry → IsNumber 0 15 front entry.worker × IsReach behind entry.reach
worker_and_reach text front behind entry parted clean is = elim is.reach [
  | inl bare ↦ absurd (not_parted 58 is.front front behind (worker_plain _ _ _ _ is.worker) (sym bare.0 ∙ parted))
  | inr more ↦
      let same = same_parts 58 is.front more.0 front behind (worker_plain _ _ _ _ is.worker) clean (sym more.1 ∙ parted) in
      (subst (λ t. IsNumber 0 15 t entry.worker) same.0 is.worker, subst (λ t. IsReach t entry.reach) same.1 more.2)
]

-- ---- a text is one entry

pub one_number : (least most : ℕ) (text : Word) (n m : ℕ) → IsNumber least most text n → IsNumber least most text m → n ≡ m
one_number least most text n m one other = one.writes.value ∙ sym other.writes.value

pub one_reach : (text : Word) (one other : Reach) → IsReach text one → IsReach text other → one ≡ other
one_reach text (Turns n) (Turns m) a b = ap Turns (one_number _ _ text n m a b)
one_reach text (Turns n) Event a b = absurd (true≢false (sym a.writes.form ∙ ap is_number b))
one_reach text (Turns n) End a b = absurd (true≢false (sym a.writes.form ∙ ap is_number b))
one_reach text Event (Turns m) a b = absurd (true≢false (sym b.writes.form ∙ ap is_number a))
one_reach text Event Event a b = refl
one_reach text Event End a b = absurd (let never : ⊥ = cc in never)
one_reach text End (Turns m) a b = absurd (true≢false (sym b.writes.form ∙ ap is_number a))
one_reach text End Event a b = absurd (let never : ⊥ = cc in never)
one_reach text End End a b = refl

abbrev entry_of : ℕ → Reach → Entry
entry_of worker reach = record { worker = worker; reach = reach }

same_entry : (one other : Entry) → one.worker ≡ other.worker → one.reach ≡ other.reach → one ≡ other
same_entry one other worker reach = ap (λ (w : ℕ). entry_of w one.reach) worker ∙ ap (λ (r : Reach). entry_of other.worker r) reach

pub one_entry : (text : Word) (one other : Entry) → IsEntry text one → IsEntry text other → one ≡ other
one_entry text one other a b = elim a.reach [
  | inl bare ↦
      let clean : HasNo 58 text = subst (λ t. HasNo 58 t) (sym bare.0) (worker_plain _ _ _ _ a.worker) in
      let same = bare_worker text other clean b in
      let first = bare_worker text one clean a in
      let worker : one.worker ≡ other.worker = one_number _ _ text _ _ first.0 same.0 in
      let reach : one.reach ≡ other.reach = first.1 ∙ sym same.1 in
      same_entry one other worker reach
  | inr more ↦
      let same = worker_and_reach text a.front more.0 other more.1 (worker_plain _ _ _ _ a.worker) b in
      let worker : one.worker ≡ other.worker = one_number _ _ a.front _ _ a.worker same.0 in
      let reach : one.reach ≡ other.reach = one_reach more.0 _ _ more.2 same.1 in
      same_entry one other worker reach
]
