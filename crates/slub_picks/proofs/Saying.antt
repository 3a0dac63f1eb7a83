-- Things that texts say, one after the other.
use Rattle.std.proofs.Common.{◌≡◌, ℕ, ◌==◌, false, List, [], ◌∷◌, ◌++◌, length, refl, sym, ap, ◌∙◌, subst, append_assoc}
use Rattle.std.proofs.lemmas.List.Splits.{slice_split_at, slice_split_none}
use Rattle.std.proofs.lemmas.Bool.{eq-eqb}
use Rattle.slub_picks.specs.declared.list.Entry.{Entry}
use Rattle.slub_picks.specs.declared.list.Part.{Part}
use Rattle.slub_picks.specs.declared.list.PickList.{PickList}
use Rattle.std.specs.Prelude.{Result, Ok, Err, IsErr, IsErrAnd, IsErrOf}
use Rattle.slub_picks.specs.declared.unread.Unread.{Unread}
use Rattle.slub_picks.specs.declared.unread.Unread.TheVariants.{BadWords}
use Rattle.slub_picks.specs.List.{IsEntry, IsPart, IsPickList, Say, texts_of}
use Rattle.slub_picks.specs.Spelling.{Word}
use Rattle.slub_picks.proofs.Entries.{one_entry}
use Rattle.slub_picks.proofs.Splits.{HasNo}

-- a text says one thing
abbrev pub IsOne : {A : Type 0} → (Word → A → Type 0) → Type 0
IsOne {A} R = (text : Word) (one other : A) → R text one → R text other → one ≡ other

-- so far the things are read, and the rest of the text is to be read
pub record IsReadTo {A : Type 0} (R : Word → A → Type 0) (mark : ℕ) (text rest : Word) (things : List A) : Type 0 where
  pub sound : (tail : List A) → Say R (texts_of mark rest) tail → Say R (texts_of mark text) (things ++ tail)
  pub only : (whole : List A) → Say R (texts_of mark text) whole → (tail : List A) × (whole ≡ things ++ tail) × Say R (texts_of mark rest) tail

pub read_nothing : {A : Type 0} (R : Word → A → Type 0) (mark : ℕ) (text : Word) → IsReadTo R mark text text []
read_nothing R mark text = record { sound = λ tail said. said; only = λ whole said. (whole, refl, said) }

-- the texts of a rest with a mark
texts_more : (mark : ℕ) (rest front behind : Word) → rest ≡ front ++ mark ∷ behind → HasNo mark front → texts_of mark rest ≡ front ∷ texts_of mark behind
texts_more mark rest front behind is clean = ap (texts_of mark) is ∙ slice_split_at (λ b. b == mark) front mark behind clean (eq-eqb mark mark refl)

texts_last : (mark : ℕ) (rest : Word) → HasNo mark rest → texts_of mark rest ≡ rest ∷ []
texts_last mark rest clean = slice_split_none (λ b. b == mark) rest clean

-- what the first of texts says stands in front
first_of_said : {A : Type 0} (R : Word → A → Type 0) (one : IsOne R) (text : Word) (texts : List Word) (thing : A) (tail : List A) → R text thing → Say R (text ∷ texts) tail → (more : List A) × (tail ≡ thing ∷ more) × Say R texts more
first_of_said R one text texts thing [] is said = absurd said
first_of_said R one text texts thing (other ∷ more) is said = (more, ap (λ x. x ∷ more) (one text other thing said.0 is), said.1)

some_said : {A : Type 0} (R : Word → A → Type 0) (text : Word) (texts : List Word) (tail : List A) → Say R (text ∷ texts) tail → (thing : A) × R text thing
some_said R text texts [] said = absurd said
some_said R text texts (thing ∷ more) said = (thing, said.0)

pub read_more : {A : Type 0} (R : Word → A → Type 0) (one : IsOne R) (mark : ℕ) (text rest front behind : Word) (things : List A) (thing : A)
    → IsReadTo R mark text rest things → rest ≡ front ++ mark ∷ behind → HasNo mark front → R front thing → IsReadTo R mark text behind (things ++ thing ∷ [])
read_more {A} R one mark text rest front behind things thing before is clean says =
    let cut : texts_of mark rest ≡ front ∷ texts_of mark behind = texts_more mark rest front behind is clean in
    record {
      sound = λ tail said.
          let onto : Say R (texts_of mark rest) (thing ∷ tail) = subst (λ (ts : List Word). Say R ts (thing ∷ tail)) (sym cut) (says, said) in
          subst (λ (xs : List A). Say R (texts_of mark text) xs) (sym (append_assoc things (thing ∷ []) tail)) (before.sound (thing ∷ tail) onto);
      only = λ whole said.
          let so_far = before.only whole said in
          let here = first_of_said R one front (texts_of mark behind) thing so_far.0 says (subst (λ (ts : List Word). Say R ts so_far.0) cut so_far.2) in
          (here.0, so_far.1 ∙ ap (λ (xs : List A). things ++ xs) here.1 ∙ sym (append_assoc things (thing ∷ []) here.0), here.2);
    }

pub read_last : {A : Type 0} (R : Word → A → Type 0) (mark : ℕ) (text rest : Word) (things : List A) (thing : A)
    → IsReadTo R mark text rest things → HasNo mark rest → R rest thing → Say R (texts_of mark text) (things ++ thing ∷ [])
read_last R mark text rest things thing before clean says =
    before.sound (thing ∷ []) (subst (λ (ts : List Word). Say R ts (thing ∷ [])) (sym (texts_last mark rest clean)) (says, refl))

-- where the next text says nothing, the whole says nothing
pub unread_more : {A : Type 0} (R : Word → A → Type 0) (mark : ℕ) (text rest front behind : Word) (things whole : List A)
    → IsReadTo R mark text rest things → rest ≡ front ++ mark ∷ behind → HasNo mark front → ((thing : A) → R front thing → ⊥) → Say R (texts_of mark text) whole → ⊥
unread_more R mark text rest front behind things whole before is clean none said =
    let so_far = before.only whole said in
    let some = some_said R front (texts_of mark behind) so_far.0 (subst (λ (ts : List Word). Say R ts so_far.0) (texts_more mark rest front behind is clean) so_far.2) in
    none some.0 some.1

pub unread_last : {A : Type 0} (R : Word → A → Type 0) (mark : ℕ) (text rest : Word) (things whole : List A)
    → IsReadTo R mark text rest things → HasNo mark rest → ((thing : A) → R rest thing → ⊥) → Say R (texts_of mark text) whole → ⊥
unread_last R mark text rest things whole before clean none said =
    let so_far = before.only whole said in
    let some = some_said R rest [] so_far.0 (subst (λ (ts : List Word). Say R ts so_far.0) (texts_last mark rest clean) so_far.2) in
    none some.0 some.1

-- ---- texts say one list

pub one_list : {A : Type 0} (R : Word → A → Type 0) → IsOne R → (texts : List Word) (one other : List A) → Say R texts one → Say R texts other → one ≡ other
one_list R only [] one other a b = a ∙ sym b
one_list R only (text ∷ texts) [] other a b = absurd a
one_list R only (text ∷ texts) (x ∷ xs) [] a b = absurd b
one_list R only (text ∷ texts) (x ∷ xs) (y ∷ ys) a b =
    let first : x ≡ y = only text x y a.0 b.0 in
    let more : xs ≡ ys = one_list R only texts xs ys a.1 b.1 in
    rw (first, more) refl

abbrev part_of : List Entry → Part
part_of entries = record { entries = entries }

abbrev list_of : Word → List Part → PickList
list_of text parts = record { text = text; parts = parts }

pub one_part : (text : Word) (one other : Part) → IsPart text one → IsPart text other → one ≡ other
one_part [] one other a b = let same : one.entries ≡ other.entries = a ∙ sym b in ap (λ (es : List Entry). part_of es) same
one_part (c ∷ cs) one other a b = let same : one.entries ≡ other.entries = one_list IsEntry one_entry (texts_of 44 (c ∷ cs)) one.entries other.entries a b in ap (λ (es : List Entry). part_of es) same

pub one_pick_list : (text : Word) (one other : PickList) → IsPickList text one → IsPickList text other → one ≡ other
one_pick_list text one other a b =
    let texts : one.text ≡ other.text = a.1 ∙ sym b.1 in
    let parts : one.parts ≡ other.parts = one_list IsPart one_part (texts_of 47 text) one.parts other.parts a.2 b.2 in
    ap (λ (t : Word). list_of t one.parts) texts ∙ ap (λ (ps : List Part). list_of other.text ps) parts

-- ---- a part that isn't empty has entries

pub part_of_entries : (text : Word) (part : Part) → (length text == 0) ≡ false → Say IsEntry (texts_of 44 text) part.entries → IsPart text part
part_of_entries [] part some said = absurd (let never : ⊥ = cc in never)
part_of_entries (c ∷ cs) part some said = said

pub entries_of_part : (text : Word) (part : Part) → (length text == 0) ≡ false → IsPart text part → Say IsEntry (texts_of 44 text) part.entries
entries_of_part [] part some is = absurd (let never : ⊥ = cc in never)
entries_of_part (c ∷ cs) part some is = is

-- ---- an error that is passed on

pub bad_of : {T U : Type 0} (r : Result T Unread) (why : Unread) → IsErr r × IsErrAnd r (λ e. e ≡ why) → IsErrOf r BadWords → IsErrOf {T = U} (Err why) BadWords
bad_of {T} {U} (Ok x) why is bad = absurd (let never : ⊥ = cc in never)
bad_of {T} {U} (Err e) why is bad =
    let same : e ≡ BadWords = cc in
    ap (λ (x : Unread). Err x) (sym is.1 ∙ same)
