-- What a line says: an event of the four kinds, an event of another kind, another line that the
-- tools print, or why it is none of these.
use Rattle.std.specs.Prelude.{ℕ, ◌-◌, ◌==◌, Bool, true, false, not, ◌&&◌, List, [], ◌∷◌, Option, Some, None, Result, Ok, Err, option_and_then, option_map, unwrap_or, is_some, codes, if◌then◌else◌}
use Rattle.std.specs.Str.{bytes_eq}
use Rattle.slub_recording.specs.declared.event.KmemKind.{KmemKind}
use Rattle.slub_recording.specs.declared.fault.LineFault.{LineFault}
use Rattle.slub_recording.specs.declared.fault.LineFault.TheVariants.{NoLine}
use Rattle.slub_recording.specs.declared.line.Head.{Head}
use Rattle.slub_recording.specs.declared.line.SaidAct.{SaidAct}
use Rattle.slub_recording.specs.declared.line.Said.{Said}
use Rattle.slub_recording.specs.declared.line.Said.TheVariants.{Passed, Cpus, Buffer, Lost, Other, Kmem}
use Rattle.slub_recording.specs.Acts.{act_of}
use Rattle.slub_recording.specs.Heads.{◌>>=◌, head_of}
use Rattle.slub_recording.specs.Words.{or_else, is_blank_front, words, strip, split_at, decimal_of, short_of, hex_of}

-- ---- events

abbrev pub kmem_of : Head → Result (ℕ × SaidAct) LineFault → Result Said LineFault
kmem_of head (Ok (pointer, act)) = Ok (Kmem head.cpu head.time pointer act)
kmem_of head (Err why) = Err why

abbrev pub event_of_kind : Head → Option KmemKind → List (List ℕ) → Result Said LineFault
event_of_kind head None ws = Ok (Other head.time)
event_of_kind head (Some kind) ws = kmem_of head (act_of kind ws)

-- ---- other lines

-- what follows this word
unfoldable pub expect : List ℕ → List (List ℕ) → Option (List (List ℕ))
expect text [] = None
expect text (w ∷ ws) = if bytes_eq w text then Some ws else None

-- the number of the word in front, after this text in it, and what follows it
unfoldable pub number_at : List ℕ → List (List ℕ) → Option (ℕ × List (List ℕ))
number_at front [] = None
number_at front (w ∷ ws) = do
  digits ← strip front w
  n ← decimal_of digits
  Some (n, ws)

-- no word follows
abbrev pub is_end : List (List ℕ) → Bool
is_end [] = true
is_end (w ∷ ws) = false

-- the same of 32 bits, where no word follows
unfoldable pub short_end : List ℕ → List (List ℕ) → Option ℕ
short_end front [] = None
short_end front (w ∷ ws) = if is_end ws then option_and_then short_of (strip front w) else None

-- the two numbers of a word `A/B`, and what follows it
unfoldable pub counts_at : List (List ℕ) → Option ((ℕ × ℕ) × List (List ℕ))
counts_at [] = None
counts_at (w ∷ ws) = do
  both ← split_at 47 w
  kept ← decimal_of both.0
  written ← decimal_of both.1
  Some ((kept, written), ws)

-- `# entries-in-buffer/entries-written: A/B #P:N`
unfoldable pub buffer_of : List (List ℕ) → Option Said
buffer_of ws = do
  title ← expect (codes "#") ws
  rest ← expect (codes "entries-in-buffer/entries-written:") title
  counts ← counts_at rest
  cpus ← short_end (codes "#P:") counts.1
  Some (Buffer (counts.0.1 - counts.0.0) cpus)

-- `cpus=N`
unfoldable pub cpus_of : List (List ℕ) → Option Said
cpus_of ws = option_map (λ cpus. Cpus cpus) (short_end (codes "cpus=") ws)

-- `CPU N is empty`
unfoldable pub empty_of : List (List ℕ) → Option Said
empty_of ws = do
  rest ← expect (codes "CPU") ws
  cpu ← number_at [] rest
  more ← expect (codes "is") cpu.1
  last ← expect (codes "empty") more
  if is_end last then Some Passed else None

-- `[LOST A EVENTS]`
unfoldable pub lost_some : List (List ℕ) → Option ℕ
lost_some ws = do
  rest ← expect (codes "[LOST") ws
  count ← number_at [] rest
  last ← expect (codes "EVENTS]") count.1
  if is_end last then Some count.0 else None

-- `[LOST EVENTS]`
unfoldable pub lost_untold : List (List ℕ) → Option ℕ
lost_untold ws = do
  rest ← expect (codes "[LOST") ws
  last ← expect (codes "EVENTS]") rest
  if is_end last then Some 1 else None

-- `[A EVENTS DROPPED]`
unfoldable pub dropped_some : List (List ℕ) → Option ℕ
dropped_some ws = do
  count ← number_at (codes "[") ws
  rest ← expect (codes "EVENTS") count.1
  last ← expect (codes "DROPPED]") rest
  if is_end last then Some count.0 else None

-- `[EVENTS DROPPED]`
unfoldable pub dropped_untold : List (List ℕ) → Option ℕ
dropped_untold ws = do
  rest ← expect (codes "[EVENTS") ws
  last ← expect (codes "DROPPED]") rest
  if is_end last then Some 1 else None

-- one of these
unfoldable pub lost_count : List (List ℕ) → Option ℕ
lost_count ws =
    or_else (lost_some ws) (or_else (lost_untold ws)
    (or_else (dropped_some ws) (dropped_untold ws)))

-- the same behind `CPU:N`
unfoldable pub lost_of : List (List ℕ) → Option Said
lost_of ws = do
  cpu ← number_at (codes "CPU:") ws
  count ← lost_count cpu.1
  Some (Lost count)

-- a line of a callchain: a blank in front, an address, and what the address is
unfoldable pub call_of : List ℕ → List (List ℕ) → Option Said
call_of text [] = None
call_of text (w ∷ ws) =
    if is_blank_front text && is_some (hex_of w) && not (is_end ws) then Some Passed else None

-- a line that is neither a comment nor an event
unfoldable pub other_of : List ℕ → List (List ℕ) → Option Said
other_of text ws =
    if is_end ws then Some Passed
    else or_else (cpus_of ws) (or_else (empty_of ws) (or_else (lost_of ws) (call_of text ws)))

-- ---- all lines

-- `#` stands in front
abbrev pub is_comment : List ℕ → Bool
is_comment [] = false
is_comment (c ∷ cs) = c == 35

abbrev pub said_or_none : Option Said → Result Said LineFault
said_or_none None = Err NoLine
said_or_none (Some said) = Ok said

abbrev pub said_by : List ℕ → List (List ℕ) → Option (Head × List (List ℕ))
    → Result Said LineFault
said_by text ws None = said_or_none (other_of text ws)
said_by text ws (Some (head, values)) = event_of_kind head head.kind values

-- what a line says, or why it is bad
unfoldable pub says : List ℕ → Result Said LineFault
says text =
    if is_comment text then Ok (unwrap_or (buffer_of (words text)) Passed)
    else said_by text (words text) (head_of (words text))
