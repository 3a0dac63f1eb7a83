-- Words of a line, and the numbers that they spell.
use Rattle.std.specs.Prelude.{◌≡◌, ℕ, ◌^◌, ◌==◌, Bool, true, ◌&&◌, ◌||◌, List, [], ◌∷◌, Option, Some, None, option_and_then, option_map, codes, nat_le, nat_lt, if◌then◌else◌}
use Rattle.std.specs.List.{list_all}
use Rattle.std.specs.Str.Parse.{digits_value}
use Rattle.slub_common.specs.Numbers.{is_digit}

-- an answer of the code is that of a definition, seen by a view
abbrev pub Gives : {X Y : Type 0} → (X → Y) → Option X → Option Y → Type 0
Gives view None said = said ≡ None
Gives view (Some x) said = said ≡ Some (view x)

-- the first of two that is there
abbrev pub or_else : {A : Type 0} → Option A → Option A → Option A
or_else None other = other
or_else (Some a) other = Some a

-- ---- words

-- a space or a tab
abbrev pub is_blank : ℕ → Bool
is_blank c = c == 32 || c == 9

-- the text is empty, or a blank stands in front
abbrev pub is_blank_front : List ℕ → Bool
is_blank_front [] = true
is_blank_front (c ∷ cs) = is_blank c

-- a byte in front of the first of some texts
abbrev pub with_front : ℕ → List (List ℕ) → List (List ℕ)
with_front c [] = (c ∷ []) ∷ []
with_front c (w ∷ ws) = (c ∷ w) ∷ ws

-- the words of a text: what stands between blanks
unfoldable pub words : List ℕ → List (List ℕ)
words [] = []
words (c ∷ cs) =
    if is_blank c then words cs
    else (if is_blank_front cs then (c ∷ []) ∷ words cs else with_front c (words cs))

-- the parts of a text between separators; a text without one is one part
unfoldable pub parts : ℕ → List ℕ → List (List ℕ)
parts mark [] = [] ∷ []
parts mark (c ∷ cs) = if c == mark then [] ∷ parts mark cs else with_front c (parts mark cs)

-- ---- what stands behind or before

-- what follows a fixed text
unfoldable pub strip : List ℕ → List ℕ → Option (List ℕ)
strip [] bytes = Some bytes
strip (t ∷ ts) [] = None
strip (t ∷ ts) (b ∷ bs) = if t == b then strip ts bs else None

-- what stands before this last byte
unfoldable pub strip_last : ℕ → List ℕ → Option (List ℕ)
strip_last mark [] = None
strip_last mark (c ∷ []) = if c == mark then Some [] else None
strip_last mark (c ∷ d ∷ ds) = option_map (λ init. c ∷ init) (strip_last mark (d ∷ ds))

-- what stands before the first separator, and what follows that
unfoldable pub split_at : ℕ → List ℕ → Option (List ℕ × List ℕ)
split_at mark [] = None
split_at mark (c ∷ cs) =
    if c == mark then Some ([], cs) else option_map (λ p. (c ∷ p.0, p.1)) (split_at mark cs)

-- the value of a word `KEY=VALUE`
unfoldable pub value_in : List ℕ → List ℕ → Option (List ℕ)
value_in key word = option_and_then (strip (codes "=")) (strip key word)

-- the value of the first such word
unfoldable pub field_of : List ℕ → List (List ℕ) → Option (List ℕ)
field_of key [] = None
field_of key (w ∷ ws) = or_else (value_in key w) (field_of key ws)

-- ---- numbers

-- a decimal digit, or a letter from a to f, small or great
abbrev pub is_hex : ℕ → Bool
is_hex c = is_digit c || (nat_le 97 c && nat_le c 102) || (nat_le 65 c && nat_le c 70)

-- the number, where it has so many bits at most
abbrev pub within : ℕ → ℕ → Option ℕ
within bits n = if nat_lt n (2 ^ bits) then Some n else None

-- the number of a word of decimal digits, zeros in front or none, that 64 bits hold
unfoldable pub decimal_of : List ℕ → Option ℕ
decimal_of [] = None
decimal_of (c ∷ cs) =
    if list_all is_digit (c ∷ cs) then within 64 (digits_value 10 (c ∷ cs)) else None

-- the same of 32 bits
unfoldable pub short_of : List ℕ → Option ℕ
short_of word = option_and_then (within 32) (decimal_of word)

-- the number of a word of hexadecimal digits that 64 bits hold
unfoldable pub hex_of : List ℕ → Option ℕ
hex_of [] = None
hex_of (c ∷ cs) =
    if list_all is_hex (c ∷ cs) then within 64 (digits_value 16 (c ∷ cs)) else None
