-- Lemmas on the first line of a text.
use Rattle.std.proofs.Common.{◌≡◌, ℕ, ◌+◌, ◌<◌, ◌≤◌, List, [], ◌∷◌, Some, None, refl, arith, length}
use Rattle.std.specs.Prelude.{◌==◌, position}
use Rattle.std.specs.List.{position_or_len}
use Rattle.std.specs.Io.BufRead.{take_through}

-- the first line ends with the first line feed, or with the text
abbrev pub line_feed_at : List ℕ → ℕ
line_feed_at xs = position_or_len (λ b. b == 10) xs

ends_there : (xs : List ℕ) → line_feed_at xs < length xs → line_feed_at xs + 1 ≡ length (take_through 10 xs)
ends_there [] h = absurd (omega arith)
ends_there (x ∷ xs) h = grind (arith, ends_there xs)

is_whole : (xs : List ℕ) → length xs ≤ line_feed_at xs → length xs ≡ length (take_through 10 xs)
is_whole [] h = refl
is_whole (x ∷ xs) h = grind (arith, is_whole xs)

pub line-length : (xs : List ℕ) (i : ℕ) → Some i ≡ position (λ b. b == 10) xs → i + 1 ≡ length (take_through 10 xs)
line-length xs i is = grind (arith, is, ends_there xs)

pub text-length : (xs : List ℕ) → None ≡ position (λ b. b == 10) xs → length xs ≡ length (take_through 10 xs)
text-length xs is = grind (arith, is, is_whole xs)
