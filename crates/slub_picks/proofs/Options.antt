-- Options, one after the other.
use Rattle.std.proofs.Common.{◌≡◌, ◌≢◌, ℕ, ◌≤◌, get_or, true, false, not, List, [], ◌∷◌, ◌++◌, length, refl, sym, ap, ◌∙◌, subst, arith, eqb, append-nil, inl, inr, codes}
use Rattle.std.proofs.lemmas.Bool.{true≢false, and_parts, cases_Bool}
use Rattle.std.proofs.lemmas.List.{append_cancel_left}
use Rattle.std.proofs.lemmas.List.Elements.{All-cons, All-nil}
use Rattle.std.specs.List.{list_all}
use Rattle.std.specs.Str.{bytes_eq}
use Rattle.slub_picks.specs.declared.list.PickList.{PickList}
use Rattle.slub_picks.specs.declared.words.Said.{Said}
use Rattle.slub_picks.specs.declared.words.Said.TheVariants as said
use Rattle.slub_picks.specs.declared.words.Way.TheVariants.{Seed, Picks}
use Rattle.slub_picks.specs.List.{IsPickList}
use Rattle.slub_picks.specs.Spelling.{IsNumber, Word}
use Rattle.slub_picks.specs.Words.{Begins, IsValued}
use Rattle.slub_picks.proofs.Entries.{one_number}
use Rattle.slub_picks.proofs.Saying.{one_pick_list}
use Rattle.slub_picks.proofs.Splits.{HasNo, not_parted, same_head, same_parts}

-- ---- names have no `=`

plain_name : (cs : List ℕ) → list_all (λ c. not (eqb c 61)) cs ≡ true → HasNo 61 cs
plain_name [] is = All-nil (λ b. eqb b 61 ≡ false)
plain_name (c ∷ cs) is =
    let both = and_parts (not (eqb c 61)) (list_all (λ c. not (eqb c 61)) cs) is in
    All-cons (λ b. eqb b 61 ≡ false) c cs (other c both.0) (plain_name cs both.1)
  where
    other : (c : ℕ) → not (eqb c 61) ≡ true → eqb c 61 ≡ false
    other c is = elim (cases_Bool (eqb c 61)) [ inl same ↦ absurd (let never : ⊥ = cc in never) | inr differs ↦ differs ]

-- two options at the front of the same words are one
valued_once : (name other value text : Word) (words rest behind : List Word) → HasNo 61 name → HasNo 61 other → IsValued name value words rest → IsValued other text words behind
    → (name ≡ other) × (value ≡ text) × (rest ≡ behind)
valued_once name other value text words rest behind clean plain (inl a) (inl b) =
    let same = sym a ∙ b in
    (cc, cc, cc)
valued_once name other value text words rest behind clean plain (inl a) (inr b) =
    let same : name ≡ other ++ 61 ∷ text = cc in
    absurd (not_parted 61 name other text clean same)
valued_once name other value text words rest behind clean plain (inr a) (inl b) =
    let same : other ≡ name ++ 61 ∷ value = cc in
    absurd (not_parted 61 other name value plain same)
valued_once name other value text words rest behind clean plain (inr a) (inr b) =
    let same : name ++ 61 ∷ value ≡ other ++ 61 ∷ text = cc in
    let parts = same_parts 61 name value other text clean plain same in
    (parts.0, parts.1, cc)

-- one with a value isn't one without
valued_alone : (name value bare : Word) (words rest behind : List Word) → bytes_eq bare bare ≡ true → bytes_eq bare name ≡ false → HasNo 61 bare → IsValued name value words rest → words ≡ bare ∷ behind → ⊥
valued_alone name value bare words rest behind is differs clean (inl a) b =
    let same : bare ≡ name = cc in
    true≢false (sym is ∙ (ap (bytes_eq bare) same ∙ differs))
valued_alone name value bare words rest behind is differs clean (inr a) b =
    let same : bare ≡ name ++ 61 ∷ value = cc in
    not_parted 61 bare name value clean same

seed : HasNo 61 (codes "--seed")
seed = plain_name (codes "--seed") refl

picks : HasNo 61 (codes "--picks")
picks = plain_name (codes "--picks") refl

round : HasNo 61 (codes "--round")
round = plain_name (codes "--round") refl

page : HasNo 61 (codes "--page")
page = plain_name (codes "--page") refl

apart : {A : Type 0} (name other : Word) → bytes_eq name name ≡ true → bytes_eq name other ≡ false → name ≡ other → A
apart name other same differ is = absurd (true≢false (sym same ∙ (ap (bytes_eq name) is ∙ differ)))

pub same_tails : (a b : Word) (xs ys : List Word) → a ∷ xs ≡ b ∷ ys → xs ≡ ys
same_tails a b xs ys is = cc

-- where there are no words there is no option
valued_some : (name value : Word) (words rest : List Word) → IsValued name value words rest → words ≡ [] → ⊥
valued_some name value words rest (inl a) b = absurd (let no : ⊥ = cc in no)
valued_some name value words rest (inr a) b = absurd (let no : ⊥ = cc in no)

pub begins_some : (one : Said) (words behind : List Word) → Begins one words behind → words ≡ [] → ⊥
begins_some (said.Way (Seed n)) words behind a none = valued_some (codes "--seed") a.0 words behind a.1 none
begins_some (said.Way (Picks list)) words behind a none = valued_some (codes "--picks") a.0 words behind a.1 none
begins_some (said.Round n) words behind a none = valued_some (codes "--round") a.0 words behind a.1 none
begins_some said.Page words behind a none = absurd (let no : ⊥ = cc in no)

-- ---- no option of a name is there

-- the first word has another front
pub not_valued : (name value word : Word) (words rest : List Word) → ((behind : Word) → word ≢ name ++ behind) → IsValued name value (word ∷ words) rest → ⊥
not_valued name value word words rest none (inl is) =
    let same : word ≡ name = cc in
    none [] (same ∙ sym (append-nil name))
not_valued name value word words rest none (inr is) =
    let same : word ≡ name ++ 61 ∷ value = cc in
    none (61 ∷ value) same

-- behind the name stands something else than `=`
pub not_equals : (name value word cs : Word) (c : ℕ) (words rest : List Word) → word ≡ name ++ c ∷ cs → c ≢ 61 → IsValued name value (word ∷ words) rest → ⊥
not_equals name value word cs c words rest front other (inl is) =
    let same : word ≡ name = cc in
    let never : [] ≡ c ∷ cs = append_cancel_left name [] (c ∷ cs) (append-nil name ∙ sym same ∙ front) in
    absurd (let no : ⊥ = cc in no)
not_equals name value word cs c words rest front other (inr is) =
    let same : word ≡ name ++ 61 ∷ value = cc in
    let behind : c ∷ cs ≡ 61 ∷ value = append_cancel_left name (c ∷ cs) (61 ∷ value) (sym front ∙ same) in
    other (same_head c 61 cs value behind)

pub not_equals_front : (name value word behind : Word) (words rest : List Word) → word ≡ name ++ behind → 1 ≤ length behind → (get_or behind 0 0 ≡ 61 → ⊥) → IsValued name value (word ∷ words) rest → ⊥
not_equals_front name value word [] words rest front some other is = omega (arith, some)
not_equals_front name value word (c ∷ cs) words rest front some other is = not_equals name value word cs c words rest front other is

-- the name is the last word
pub not_behind : (name value word : Word) (rest : List Word) → word ≡ name ++ [] → IsValued name value (word ∷ []) rest → ⊥
not_behind name value word rest front (inl is) = absurd (let no : ⊥ = cc in no)
not_behind name value word rest front (inr is) =
    let same : word ≡ name ++ 61 ∷ value = cc in
    let never : [] ≡ 61 ∷ value = append_cancel_left name [] (61 ∷ value) (sym front ∙ same) in
    absurd (let no : ⊥ = cc in no)

-- ---- an option says one thing

pub begins_once : (one other : Said) (words rest behind : List Word) → Begins one words rest → Begins other words behind → (one ≡ other) × (rest ≡ behind)
begins_once (said.Way (Seed n)) (said.Way (Seed m)) words rest behind a b =
    let same = valued_once _ _ a.0 b.0 words rest behind seed seed a.1 b.1 in
    let number = one_number _ _ b.0 n m (subst (λ t. IsNumber 0 18446744073709551615 t n) same.1 a.2) b.2 in
    (ap (λ (k : ℕ). said.Way (Seed k)) number, same.2)
begins_once (said.Way (Seed n)) (said.Way (Picks list)) words rest behind a b = apart (codes "--seed") (codes "--picks") refl refl (valued_once _ _ a.0 b.0 words rest behind seed picks a.1 b.1).0
begins_once (said.Way (Seed n)) (said.Round m) words rest behind a b = apart (codes "--seed") (codes "--round") refl refl (valued_once _ _ a.0 b.0 words rest behind seed round a.1 b.1).0
begins_once (said.Way (Seed n)) said.Page words rest behind a b = absurd (valued_alone (codes "--seed") a.0 (codes "--page") words rest behind refl refl page a.1 b)
begins_once (said.Way (Picks list)) (said.Way (Seed m)) words rest behind a b = apart (codes "--picks") (codes "--seed") refl refl (valued_once _ _ a.0 b.0 words rest behind picks seed a.1 b.1).0
begins_once (said.Way (Picks list)) (said.Way (Picks other)) words rest behind a b =
    let same = valued_once _ _ a.0 b.0 words rest behind picks picks a.1 b.1 in
    let lists = one_pick_list b.0 list other (subst (λ t. IsPickList t list) same.1 a.2) b.2 in
    (ap (λ (l : PickList). said.Way (Picks l)) lists, same.2)
begins_once (said.Way (Picks list)) (said.Round m) words rest behind a b = apart (codes "--picks") (codes "--round") refl refl (valued_once _ _ a.0 b.0 words rest behind picks round a.1 b.1).0
begins_once (said.Way (Picks list)) said.Page words rest behind a b = absurd (valued_alone (codes "--picks") a.0 (codes "--page") words rest behind refl refl page a.1 b)
begins_once (said.Round n) (said.Way (Seed m)) words rest behind a b = apart (codes "--round") (codes "--seed") refl refl (valued_once _ _ a.0 b.0 words rest behind round seed a.1 b.1).0
begins_once (said.Round n) (said.Way (Picks list)) words rest behind a b = apart (codes "--round") (codes "--picks") refl refl (valued_once _ _ a.0 b.0 words rest behind round picks a.1 b.1).0
begins_once (said.Round n) (said.Round m) words rest behind a b =
    let same = valued_once _ _ a.0 b.0 words rest behind round round a.1 b.1 in
    let number = one_number _ _ b.0 n m (subst (λ t. IsNumber 1 256 t n) same.1 a.2) b.2 in
    (ap (λ (k : ℕ). said.Round k) number, same.2)
begins_once (said.Round n) said.Page words rest behind a b = absurd (valued_alone (codes "--round") a.0 (codes "--page") words rest behind refl refl page a.1 b)
begins_once said.Page (said.Way (Seed m)) words rest behind a b = absurd (valued_alone (codes "--seed") b.0 (codes "--page") words behind rest refl refl page b.1 a)
begins_once said.Page (said.Way (Picks list)) words rest behind a b = absurd (valued_alone (codes "--picks") b.0 (codes "--page") words behind rest refl refl page b.1 a)
begins_once said.Page (said.Round m) words rest behind a b = absurd (valued_alone (codes "--round") b.0 (codes "--page") words behind rest refl refl page b.1 a)
begins_once said.Page said.Page words rest behind a b = (refl, same_tails _ _ _ _ (sym a ∙ b))

-- ---- values that say nothing

pub no_seed : (value : Word) (words rest behind : List Word) (other : Said) → IsValued (codes "--seed") value words rest → ((n : ℕ) → IsNumber 0 18446744073709551615 value n → ⊥) → Begins other words behind → ⊥
no_seed value words rest behind (said.Way (Seed m)) a none b =
    let same = valued_once _ _ value b.0 words rest behind seed seed a b.1 in
    none m (subst (λ t. IsNumber 0 18446744073709551615 t m) (sym same.1) b.2)
no_seed value words rest behind (said.Way (Picks list)) a none b = apart (codes "--seed") (codes "--picks") refl refl (valued_once _ _ value b.0 words rest behind seed picks a b.1).0
no_seed value words rest behind (said.Round m) a none b = apart (codes "--seed") (codes "--round") refl refl (valued_once _ _ value b.0 words rest behind seed round a b.1).0
no_seed value words rest behind said.Page a none b = valued_alone (codes "--seed") value (codes "--page") words rest behind refl refl page a b

pub no_picks : (value : Word) (words rest behind : List Word) (other : Said) → IsValued (codes "--picks") value words rest → ((list : PickList) → IsPickList value list → ⊥) → Begins other words behind → ⊥
no_picks value words rest behind (said.Way (Seed m)) a none b = apart (codes "--picks") (codes "--seed") refl refl (valued_once _ _ value b.0 words rest behind picks seed a b.1).0
no_picks value words rest behind (said.Way (Picks list)) a none b =
    let same = valued_once _ _ value b.0 words rest behind picks picks a b.1 in
    none list (subst (λ t. IsPickList t list) (sym same.1) b.2)
no_picks value words rest behind (said.Round m) a none b = apart (codes "--picks") (codes "--round") refl refl (valued_once _ _ value b.0 words rest behind picks round a b.1).0
no_picks value words rest behind said.Page a none b = valued_alone (codes "--picks") value (codes "--page") words rest behind refl refl page a b

pub no_round : (value : Word) (words rest behind : List Word) (other : Said) → IsValued (codes "--round") value words rest → ((n : ℕ) → IsNumber 1 256 value n → ⊥) → Begins other words behind → ⊥
no_round value words rest behind (said.Way (Seed m)) a none b = apart (codes "--round") (codes "--seed") refl refl (valued_once _ _ value b.0 words rest behind round seed a b.1).0
no_round value words rest behind (said.Way (Picks list)) a none b = apart (codes "--round") (codes "--picks") refl refl (valued_once _ _ value b.0 words rest behind round picks a b.1).0
no_round value words rest behind (said.Round m) a none b =
    let same = valued_once _ _ value b.0 words rest behind round round a b.1 in
    none m (subst (λ t. IsNumber 1 256 t m) (sym same.1) b.2)
no_round value words rest behind said.Page a none b = valued_alone (codes "--round") value (codes "--page") words rest behind refl refl page a b

-- the words begin with no option
pub no_option : (words : List Word) (one : Said) (behind : List Word)
    → ((value : Word) (rest : List Word) → IsValued (codes "--seed") value words rest → ⊥)
    → ((value : Word) (rest : List Word) → IsValued (codes "--picks") value words rest → ⊥)
    → ((value : Word) (rest : List Word) → IsValued (codes "--round") value words rest → ⊥)
    → ((rest : List Word) → words ≢ codes "--page" ∷ rest) → Begins one words behind → ⊥
no_option words (said.Way (Seed n)) behind a b c d begins = a begins.0 behind begins.1
no_option words (said.Way (Picks list)) behind a b c d begins = b begins.0 behind begins.1
no_option words (said.Round n) behind a b c d begins = c begins.0 behind begins.1
no_option words said.Page behind a b c d begins = d behind begins
