-- A text and a number between two texts are a name.
use Rattle.std.proofs.Common.{◌≡◌, ℕ, ◌+◌, ◌<◌, ◌≤◌, ◌^◌, true, List, [], ◌∷◌, ◌++◌, length, refl, sym, subst, inl, inr, eqb, not, arith}
use Rattle.std.specs.Prelude.{codes, All}
use Rattle.std.specs.Fmt.{decimal}
use Rattle.std.specs.List.{list_all}
use Rattle.std.proofs.lemmas.Bool.{and_parts}
use Rattle.std.proofs.lemmas.Fmt.{length-decimal-le}
use Rattle.std.proofs.lemmas.List.{length-append}
use Rattle.std.proofs.lemmas.List.Elements.{All-append, All-cons, All-nil}
use Rattle.slub_common.specs.Numbers.{is_digit, is_number}
use Rattle.slub_common.proofs.Digits.{digit_within}
use Rattle.slub_object_layout.specs.Name.{IsName, IsNameByte}
use Rattle.slub_recording.specs.declared.event.KmallocKind.{KmallocKind}
use Rattle.slub_recording.specs.declared.event.KmallocKind.TheVariants.{Normal, Accounted, Reclaimable, Dma}
use Rattle.slub_recorded.specs.Naming.{kind_text}
use Rattle.slub_recorded.proofs.Lines.{number_writes}
use Rattle.slub_trace.proofs.Names.{name_tells}

digit_byte : (c : ℕ) → is_digit c ≡ true → IsNameByte c
digit_byte c is = inl (inr (inr (digit_within c is)))

digits_bytes : (cs : List ℕ) → list_all is_digit cs ≡ true → All IsNameByte cs
digits_bytes [] is = All-nil IsNameByte
digits_bytes (c ∷ cs) is = let parts = and_parts (is_digit c) (list_all is_digit cs) is in All-cons IsNameByte c cs (digit_byte c parts.0) (digits_bytes cs parts.1)

number_bytes : (word : List ℕ) → is_number word ≡ true → All IsNameByte word
number_bytes [] is = All-nil IsNameByte
number_bytes (c ∷ []) is = All-cons IsNameByte c [] (digit_byte c is) (All-nil IsNameByte)
number_bytes (c ∷ d ∷ cs) is = digits_bytes (c ∷ d ∷ cs) (and_parts (not (eqb c 48)) (list_all is_digit (c ∷ d ∷ cs)) is).1

decimal_short : (n : ℕ) → n < 2 ^ 32 → length (decimal n) ≤ 10
decimal_short n low = length-decimal-le 10 n (omega arith) (omega arith) (omega arith)

-- the text of a short name, a number of 32 bits and a short end are a name
pub named_is : (front behind : List ℕ) (n : ℕ) → IsName front → All IsNameByte behind → length front + length behind ≤ 21 → n < 2 ^ 32 → IsName (front ++ decimal n ++ behind)
named_is [] behind n is all short low = absurd is
named_is (c ∷ cs) behind n is all short low =
    let writes = number_writes n (omega arith) in
    let few = decimal_short n low in
    let one = length-append (cs ++ decimal n) behind in
    let two = length-append cs (decimal n) in
    (is.0, All-append IsNameByte (cs ++ decimal n) behind (All-append IsNameByte cs (decimal n) is.1 (number_bytes (decimal n) writes.form)) all, omega (arith, one, two, few))

pub kind_is : (kind : KmallocKind) → IsName (kind_text kind)
kind_is Normal = (name_tells (codes "kmalloc-")).0 refl
kind_is Accounted = (name_tells (codes "kmalloc-cg-")).0 refl
kind_is Reclaimable = (name_tells (codes "kmalloc-rcl-")).0 refl
kind_is Dma = (name_tells (codes "dma-kmalloc-")).0 refl

pub kind_short : (kind : KmallocKind) → length (kind_text kind) ≤ 12
kind_short Normal = omega arith
kind_short Accounted = omega arith
kind_short Reclaimable = omega arith
kind_short Dma = omega arith

pub k_is : All IsNameByte (codes "k")
k_is = All-cons IsNameByte 107 [] (inl (inr (inl ((omega arith), (omega arith))))) (All-nil IsNameByte)

dash_is : All IsNameByte (45 ∷ [])
dash_is = All-cons IsNameByte 45 [] (inr (inr (inr refl))) (All-nil IsNameByte)

pub sizes_is : (asked : ℕ) (front : List ℕ) → front ≡ codes "slab-" ++ decimal asked ++ 45 ∷ [] → asked < 2 ^ 32 → IsName front × (length front ≤ 16)
sizes_is asked front is low =
    let few = decimal_short asked low in
    let size : length (codes "slab-" ++ decimal asked ++ 45 ∷ []) ≤ 16 = omega (arith, length-append (codes "slab-" ++ decimal asked) (45 ∷ []), length-append (codes "slab-") (decimal asked), few) in
    let P : List ℕ → Type 0 = λ f. IsName f × (length f ≤ 16) in
    subst P (sym is) (named_is (codes "slab-") (45 ∷ []) asked ((name_tells (codes "slab-")).0 refl) dash_is (omega arith) low, size)

pub sure_is : (front behind : List ℕ) (n : ℕ) (text : List ℕ) → text ≡ front ++ decimal n ++ behind → IsName front → All IsNameByte behind → length front + length behind ≤ 21 → n < 2 ^ 32 → IsName text
sure_is front behind n text e is all short low = subst IsName (sym e) (named_is front behind n is all short low)
