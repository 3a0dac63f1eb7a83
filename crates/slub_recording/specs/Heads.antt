-- What stands in front of the values of an event: `[CPU]`, perhaps a word of flags, `TIME:`,
-- perhaps a count, perhaps `kmem:`, and `EVENT:`, in any of the three tools' text. What stands
-- before `[CPU]` isn't read.
use Rattle.std.specs.Prelude.{ℕ, List, [], ◌∷◌, Option, Some, None, option_and_then, option_map, unwrap_or, is_some, codes, if◌then◌else◌}
use Rattle.std.specs.Str.{bytes_eq}
use Rattle.slub_recording.specs.declared.event.KmemKind.{KmemKind}
use Rattle.slub_recording.specs.declared.event.KmemKind.TheVariants.{CacheAlloc, Kmalloc, CacheFree, Kfree}
use Rattle.slub_recording.specs.declared.line.Head.{Head}
use Rattle.slub_recording.specs.declared.line.Time.{Time}
use Rattle.slub_recording.specs.Texts.{kind_text}
use Rattle.slub_recording.specs.Words.{or_else, strip, strip_last, split_at, decimal_of, short_of}

infixl 10 ◌>>=◌
abbrev pub ◌>>=◌ : {A B : Type 0} → Option A → (A → Option B) → Option B
o >>= f = option_and_then f o

-- the CPU of a word `[CPU]`
unfoldable pub cpu_of : List ℕ → Option ℕ
cpu_of word = do
  inner ← strip (codes "[") word
  digits ← strip_last 93 inner
  short_of digits

-- the CPU of the first such word, and what follows it
unfoldable pub cpu_at : List (List ℕ) → Option (ℕ × List (List ℕ))
cpu_at [] = None
cpu_at (w ∷ ws) = or_else (option_map (λ cpu. (cpu, ws)) (cpu_of w)) (cpu_at ws)

-- a time with a point in it, or without
abbrev pub time_around : List ℕ → Option (List ℕ × List ℕ) → Option Time
time_around digits None = option_map (λ n. record { whole = n; part = 0 }) (decimal_of digits)
time_around digits (Some (before, behind)) = do
  whole ← decimal_of before
  part ← decimal_of behind
  Some (record { whole = whole; part = part })

-- the time of a word `TIME:`
unfoldable pub time_of : List ℕ → Option Time
time_of word = do
  digits ← strip_last 58 word
  time_around digits (split_at 46 digits)

-- the time of the first word, and what follows it
unfoldable pub time_first : List (List ℕ) → Option (Time × List (List ℕ))
time_first [] = None
time_first (w ∷ ws) = option_map (λ t. (t, ws)) (time_of w)

-- the same behind perhaps a word of flags
unfoldable pub time_at : List (List ℕ) → Option (Time × List (List ℕ))
time_at [] = None
time_at (w ∷ ws) = or_else (time_first (w ∷ ws)) (time_first ws)

-- the kind of an event's name, if it is one of the four
unfoldable pub kind_of : List ℕ → Option KmemKind
kind_of name =
    if bytes_eq name (kind_text CacheAlloc) then Some CacheAlloc
    else (if bytes_eq name (kind_text Kmalloc) then Some Kmalloc
    else (if bytes_eq name (kind_text CacheFree) then Some CacheFree
    else (if bytes_eq name (kind_text Kfree) then Some Kfree else None)))

-- the kind of a word `EVENT:`, with `kmem:` in front or not
unfoldable pub event_of : List ℕ → Option (Option KmemKind)
event_of word = do
  name ← strip_last 58 word
  Some (kind_of (unwrap_or (strip (codes "kmem:") name) name))

-- the kind of the first word, and what follows it
unfoldable pub event_first : List (List ℕ) → Option (Option KmemKind × List (List ℕ))
event_first [] = None
event_first (w ∷ ws) = option_map (λ kind. (kind, ws)) (event_of w)

-- the same behind perhaps a count
unfoldable pub event_at : List (List ℕ) → Option (Option KmemKind × List (List ℕ))
event_at [] = None
event_at (w ∷ ws) = if is_some (decimal_of w) then event_first ws else event_first (w ∷ ws)

-- the head of an event, and the words that follow it; none where a line is no event
unfoldable pub head_of : List (List ℕ) → Option (Head × List (List ℕ))
head_of ws = do
  cpu ← cpu_at ws
  time ← time_at cpu.1
  event ← event_at time.1
  Some (record { cpu = cpu.0; time = time.0; kind = event.0 }, event.1)
