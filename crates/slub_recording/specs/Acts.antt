-- What the values of an event say.
use Rattle.std.specs.Prelude.{◌≡◌, ⊤, ℕ, Bool, List, Option, Some, None, Result, Ok, Err, codes, take, if◌then◌else◌}
use Rattle.std.specs.List.{list_any}
use Rattle.std.specs.Str.{bytes_eq}
use Rattle.slub_recording.specs.declared.event.KmemKind.{KmemKind}
use Rattle.slub_recording.specs.declared.event.KmemKind.TheVariants.{CacheAlloc, Kmalloc, CacheFree, Kfree}
use Rattle.slub_recording.specs.declared.event.Key.{Key}
use Rattle.slub_recording.specs.declared.event.Key.TheVariants as key
use Rattle.slub_recording.specs.declared.event.KmallocKind.{KmallocKind}
use Rattle.slub_recording.specs.declared.event.KmallocKind.TheVariants as row
use Rattle.slub_recording.specs.declared.fault.LineFault.{LineFault}
use Rattle.slub_recording.specs.declared.fault.LineFault.TheVariants.{Without, BadSize, Unhashed, BadPointer}
use Rattle.slub_recording.specs.declared.fault.Stop.{Stop}
use Rattle.slub_recording.specs.declared.fault.Stop.TheVariants.{Line, NoMemory}
use Rattle.slub_recording.specs.declared.line.SaidAct.{SaidAct}
use Rattle.slub_recording.specs.declared.line.SaidAct.TheVariants as act
use Rattle.slub_recording.specs.Names.{name_of}
use Rattle.slub_recording.specs.Texts.{key_text}
use Rattle.slub_recording.specs.Words.{field_of, parts, strip, short_of, hex_of}

infixl 10 ◌>>=◌
abbrev pub ◌>>=◌ : {A B : Type 0} → Result A LineFault → (A → Result B LineFault)
    → Result B LineFault
(Ok a) >>= f = f a
(Err e) >>= f = Err e

-- the value, or else this fault
abbrev pub ok_or : {A : Type 0} → LineFault → Option A → Result A LineFault
ok_or why None = Err why
ok_or why (Some a) = Ok a

-- an answer of the code is that of a definition, seen by a view
abbrev pub Answers : {X Y : Type 0} → (X → Y) → Result X LineFault → Result Y LineFault → Type 0
Answers view (Ok x) said = said ≡ Ok (view x)
Answers view (Err why) said = said ≡ Err why

-- the same of an answer that may be want of memory
abbrev pub AnswersOr : {X Y : Type 0} → (X → Y) → Result X Stop → Result Y LineFault → Type 0
AnswersOr view (Ok x) said = said ≡ Ok (view x)
AnswersOr view (Err (Line why)) said = said ≡ Err why
AnswersOr view (Err NoMemory) said = ⊤

-- ---- values

-- the value of an event's `KEY=`
unfoldable pub needed : KmemKind → Key → List (List ℕ) → Result (List ℕ) LineFault
needed kind key ws = ok_or (Without kind key) (field_of (key_text key) ws)

-- a size in bytes
unfoldable pub size_of : KmemKind → List ℕ → Result ℕ LineFault
size_of kind word = ok_or (BadSize kind) (short_of word)

-- digits with `0x` in front or not
unfoldable pub real_of : List ℕ → Option ℕ
real_of word = elim (strip (codes "0x") word) [ Some digits ↦ hex_of digits | None ↦ hex_of word ]

-- a pointer, as `%p` and the tools print it: `(nil)` is 0
unfoldable pub pointer_of : List ℕ → Result ℕ LineFault
pointer_of word =
    if bytes_eq word (codes "(nil)") then Ok 0
    else (if bytes_eq word (codes "(____ptrval____)") then Err Unhashed
    else ok_or (BadPointer (take 31 word)) (real_of word))

-- a flag is one of those that `|` joins
unfoldable pub has_flag : List ℕ → List ℕ → Bool
has_flag flag flags = list_any (bytes_eq flag) (parts 124 flags)

-- the row of the caches by size: `GFP_DMA` comes first, then `__GFP_RECLAIMABLE`, then whether
-- the memory is accounted (`kmalloc_type`)
unfoldable pub row_of : List ℕ → List ℕ → KmallocKind
row_of flags accounted =
    if has_flag (codes "GFP_DMA") flags then row.Dma
    else (if has_flag (codes "__GFP_RECLAIMABLE") flags then row.Reclaimable
    else (if bytes_eq accounted (codes "true") then row.Accounted else row.Normal))

-- ---- what each kind says: the pointer and the act
--
-- Values that aren't there come before sizes that are no numbers, and these before the pointer.

unfoldable pub cache_alloc_of : List (List ℕ) → Result (ℕ × SaidAct) LineFault
cache_alloc_of ws = do
  site ← needed CacheAlloc key.CallSite ws
  word ← needed CacheAlloc key.Ptr ws
  req ← needed CacheAlloc key.BytesReq ws
  total ← needed CacheAlloc key.BytesAlloc ws
  asked ← size_of CacheAlloc req
  slot ← size_of CacheAlloc total
  pointer ← pointer_of word
  Ok (pointer, act.CacheAlloc asked slot site)

unfoldable pub kmalloc_of : List (List ℕ) → Result (ℕ × SaidAct) LineFault
kmalloc_of ws = do
  word ← needed Kmalloc key.Ptr ws
  total ← needed Kmalloc key.BytesAlloc ws
  flags ← needed Kmalloc key.GfpFlags ws
  accounted ← needed Kmalloc key.Accounted ws
  slot ← size_of Kmalloc total
  pointer ← pointer_of word
  Ok (pointer, act.Kmalloc slot (row_of flags accounted))

unfoldable pub cache_free_of : List (List ℕ) → Result (ℕ × SaidAct) LineFault
cache_free_of ws = do
  word ← needed CacheFree key.Ptr ws
  title ← needed CacheFree key.Name ws
  pointer ← pointer_of word
  Ok (pointer, act.CacheFree (name_of title))

unfoldable pub kfree_of : List (List ℕ) → Result (ℕ × SaidAct) LineFault
kfree_of ws = do
  word ← needed Kfree key.Ptr ws
  pointer ← pointer_of word
  Ok (pointer, act.Kfree)

abbrev pub act_of : KmemKind → List (List ℕ) → Result (ℕ × SaidAct) LineFault
act_of CacheAlloc ws = cache_alloc_of ws
act_of Kmalloc ws = kmalloc_of ws
act_of CacheFree ws = cache_free_of ws
act_of Kfree ws = kfree_of ws
