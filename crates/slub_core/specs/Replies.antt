-- What the replies of a worker say: which objects it holds, where they stand, what it wrote; and
-- what causes a reply has. No step stands here.
use Rattle.std.specs.Prelude.{◌≡◌, ◌≢◌, ℕ, ◌+◌, ◌*◌, ◌≤◌, Bool, true, false, ◌&&◌, ◌==◌, cond, List, [], ◌∷◌, Option, Some, None, ◌⊎◌}
use Rattle.std.specs.Option.{option_map}
use Rattle.slub_object_layout.specs.Layout.{address_of}
use Rattle.slub_words.specs.declared.board.BoardWord.{BoardWord}
use Rattle.slub_words.specs.Words.{IsSpent}
use Rattle.slub_trace.specs.declared.reply.Reply.{Reply}
use Rattle.slub_trace.specs.declared.reply.Reply.TheVariants as reply
use Rattle.slub_core.specs.declared.call.Call.{Call}
use Rattle.slub_core.specs.declared.call.CallKind.{CallKind}
use Rattle.slub_core.specs.declared.call.CallKind.TheVariants.{Alloc, Free, Write, Read, Poke, Trim, Flush}
use Rattle.slub_core.specs.declared.local.Answered.{Answered}
use Rattle.slub_core.specs.Calls.{call_kind, call_cpu, call_cache, call_object, call_word, call_value, call_offset}
use Rattle.slub_core.specs.Setup.{Setup}
use Rattle.slub_core.specs.Checked.{is_offset}
use Rattle.slub_core.specs.Steps.{is_outside}
use Rattle.slub_core.specs.World.{one_if}

-- ---- kinds of calls and replies

abbrev pub is_alloc : CallKind → Bool
is_alloc Alloc = true
is_alloc _ = false

-- the call is of an object; a trim is of a cache, a flush of a CPU
abbrev pub names_object : CallKind → Bool
names_object Trim = false
names_object Flush = false
names_object _ = true

abbrev pub is_given : Reply → Bool
is_given (reply.Given address) = true
is_given _ = false

abbrev pub is_freed : Reply → Bool
is_freed (reply.Freed address) = true
is_freed _ = false

abbrev pub is_dry : Reply → Bool
is_dry reply.NoFrames = true
is_dry _ = false

-- ---- what a worker's replies say, the last one first

-- whether it holds the object
abbrev pub holds_after : Reply → Bool → Bool
holds_after (reply.Given address) b = true
holds_after (reply.Freed address) b = false
holds_after (reply.Corrupt damage) b = true
holds_after _ b = b

abbrev pub holding : List Answered → ℕ → Bool
holding [] o = false
holding (d ∷ ds) o =
    cond (call_object d.call == o) (holds_after d.reply (holding ds o)) (holding ds o)

-- whether it knows where the object stands
abbrev pub knows_after : Reply → Bool → Bool
knows_after (reply.Given address) b = true
knows_after (reply.Freed address) b = true
knows_after (reply.Corrupt damage) b = true
knows_after _ b = b

abbrev pub knows : List Answered → ℕ → Bool
knows [] o = false
knows (d ∷ ds) o = cond (call_object d.call == o) (knows_after d.reply (knows ds o)) (knows ds o)

-- the address of an object of the board
abbrev pub address_on : Setup → Option BoardWord → Option ℕ
address_on m b = option_map (λ (b : BoardWord). address_of b.frame b.index (m.layout b.cache)) b

-- the address of the object, by the replies and the board before
abbrev pub address_after : Reply → Option ℕ → Option ℕ
address_after (reply.Given address) x = Some address
address_after _ x = x

abbrev pub address_by : Setup → (ℕ → Option BoardWord) → List Answered → ℕ → Option ℕ
address_by m before [] o = address_on m (before o)
address_by m before (d ∷ ds) o =
    cond (call_object d.call == o) (address_after d.reply (address_by m before ds o))
    (address_by m before ds o)

-- its cache
abbrev pub cache_after : Call → Reply → Option ℕ → Option ℕ
cache_after call (reply.Given address) x = call_cache call
cache_after call _ x = x

abbrev pub cache_by : (ℕ → Option BoardWord) → List Answered → ℕ → Option ℕ
cache_by before [] o = option_map (λ (b : BoardWord). b.cache) (before o)
cache_by before (d ∷ ds) o =
    cond (call_object d.call == o) (cache_after d.call d.reply (cache_by before ds o))
    (cache_by before ds o)

-- what the worker wrote last in a word of the object, since it came to hold it
abbrev pub wrote_after : Call → Reply → ℕ → Option ℕ → Option ℕ
wrote_after call (reply.Given address) a x = None
wrote_after call (reply.Freed address) a x = None
wrote_after call reply.Wrote a x = cond (call_word call == a) (Some (call_value call)) x
wrote_after call _ a x = x

abbrev pub last_wrote : List Answered → ℕ → ℕ → Option ℕ
last_wrote [] o a = None
last_wrote (d ∷ ds) o a =
    cond (call_object d.call == o) (wrote_after d.call d.reply a (last_wrote ds o a))
    (last_wrote ds o a)

-- ---- counts

-- how often the object was given, and how often it was freed
abbrev pub given_in : ℕ → List Answered → ℕ
given_in o [] = 0
given_in o (d ∷ ds) = one_if (is_given d.reply && (call_object d.call == o)) + given_in o ds

abbrev pub freed_in : ℕ → List Answered → ℕ
freed_in o [] = 0
freed_in o (d ∷ ds) = one_if (is_freed d.reply && (call_object d.call == o)) + freed_in o ds

-- how often these calls are to allocate the object
abbrev pub asked_in : ℕ → List Call → ℕ
asked_in o [] = 0
asked_in o (c ∷ cs) = one_if (is_alloc (call_kind c) && (call_object c == o)) + asked_in o cs

-- the least order of the slabs of an allocation's cache
abbrev pub least_order : Setup → Option ℕ → ℕ
least_order m None = 0
least_order m (Some cache) = (m.layout cache).min_order

-- how often no run of this least order was there
abbrev pub dry_in : Setup → ℕ → List Answered → ℕ
dry_in m order [] = 0
dry_in m order (d ∷ ds) =
    one_if (is_dry d.reply && (least_order m (call_cache d.call) == order)) + dry_in m order ds

-- ---- causes

-- what a reply may rest on beside the worker's own earlier ones: facts that stay, once they are so
pub record Public : Type 0 where
  -- 1 where the object number is on the board
  pub boarded : ℕ → ℕ
  -- how often it was freed, over all workers
  pub freed : ℕ → ℕ
  -- by CPU word: its transaction id
  pub tid : ℕ → ℕ

-- later no more is on the board, no less was freed, and no transaction id is less
pub record Later (p q : Public) : Type 0 where
  pub boarded : (o : ℕ) → q.boarded o ≤ p.boarded o
  pub freed : (o : ℕ) → p.freed o ≤ q.freed o
  pub tid : (n : ℕ) → p.tid n ≤ q.tid n

-- the object is of a live cache without checks
abbrev pub IsOfPlain : Setup → Option ℕ → Type 0
IsOfPlain m cache = (k : ℕ) × (cache ≡ Some k) × (m.checks k ≡ false)

abbrev pub IsOfChecked : Setup → Option ℕ → Type 0
IsOfChecked m cache = (k : ℕ) × (cache ≡ Some k) × (m.checks k ≡ true)

-- the word of a write or a read lies in the object, which is of this cache
abbrev pub IsWithin : Setup → Option ℕ → Call → Type 0
IsWithin m cache c = (k : ℕ) × (cache ≡ Some k) × (is_outside (m.layout k) (call_word c) ≡ false)

-- the call of a worker that was answered `ds` had cause for this reply
abbrev pub Cause : Setup → (ℕ → Option BoardWord) → Public → List Answered → Call → Reply → Type 0
-- an object is given that the worker holds under no number, and that stood under no number on the
-- board but one that was freed since
Cause m before p ds c (reply.Given a) =
    (call_kind c ≡ Alloc) × ((k : ℕ) × (call_cache c ≡ Some k))
    × ((o : ℕ) → address_by m before ds o ≡ Some a → holding ds o ≡ false)
    × ((o : ℕ) → address_on m (before o) ≡ Some a → 1 ≤ p.freed o)
Cause m before p ds c reply.NoFrames = (call_kind c ≡ Alloc) × ((k : ℕ) × (call_cache c ≡ Some k))
Cause m before p ds c reply.NoSuchCache =
    ((call_kind c ≡ Alloc) ⊎ (call_kind c ≡ Trim)) × (call_cache c ≡ None)
Cause m before p ds c reply.NoMemory = (call_kind c ≡ Alloc) × IsOfChecked m (call_cache c)
-- the CPU word of an unchecked cache had that transaction id, and has it or a later one since
Cause m before p ds c (reply.IdsSpent t) = (call_kind c ≡ Alloc) × IsSpent t m.step
    × ((k : ℕ) × (call_cache c ≡ Some k) × (m.checks k ≡ false) × (t ≤ p.tid (16 * k + call_cpu c)))
-- what is freed was the worker's or on the board, and stood at this address
Cause m before p ds c (reply.Freed a) =
    (call_kind c ≡ Free) × (address_by m before ds (call_object c) ≡ Some a)
    × ((holding ds (call_object c) ≡ true) ⊎ (address_on m (before (call_object c)) ≡ Some a))
-- the call is of an object, but not to allocate it; the worker doesn't hold it, and where it is to
-- be freed it isn't on the board
Cause m before p ds c reply.NotHeld =
    (names_object (call_kind c) ≡ true) × (is_alloc (call_kind c) ≡ false)
    × (holding ds (call_object c) ≡ false) × (call_kind c ≡ Free → p.boarded (call_object c) ≡ 0)
Cause m before p ds c (reply.Corrupt d) =
    (call_kind c ≡ Free) × (d.found ≢ d.wanted) × IsOfChecked m (cache_by before ds (call_object c))
    × ((holding ds (call_object c) ≡ true)
    ⊎ ((a : ℕ) × (address_on m (before (call_object c)) ≡ Some a)))
Cause m before p ds c reply.Wrote = (call_kind c ≡ Write) × (holding ds (call_object c) ≡ true)
    × IsWithin m (cache_by before ds (call_object c)) c
-- of an unchecked object the value is what the worker wrote last
Cause m before p ds c (reply.Value v) =
    (call_kind c ≡ Read) × (holding ds (call_object c) ≡ true)
    × IsWithin m (cache_by before ds (call_object c)) c
    × (IsOfPlain m (cache_by before ds (call_object c))
    → last_wrote ds (call_object c) (call_word c) ≡ Some v)
Cause m before p ds c reply.OutOfObject =
    ((call_kind c ≡ Write) ⊎ (call_kind c ≡ Read)) × (holding ds (call_object c) ≡ true)
    × ((k : ℕ) × (cache_by before ds (call_object c) ≡ Some k)
    × (is_outside (m.layout k) (call_word c) ≡ true))
-- the byte that is poked lies in the slot of the checked object, or outside of it
Cause m before p ds c reply.Poked =
    (call_kind c ≡ Poke) × (knows ds (call_object c) ≡ true)
    × ((k : ℕ) × (cache_by before ds (call_object c) ≡ Some k) × (m.checks k ≡ true)
    × (is_offset (m.layout k) (call_offset c) ≡ true))
Cause m before p ds c reply.OutOfSlot =
    (call_kind c ≡ Poke) × (knows ds (call_object c) ≡ true)
    × ((k : ℕ) × (cache_by before ds (call_object c) ≡ Some k) × (m.checks k ≡ true)
    × (is_offset (m.layout k) (call_offset c) ≡ false))
Cause m before p ds c reply.NotChecked = (call_kind c ≡ Poke) × (knows ds (call_object c) ≡ true)
    × IsOfPlain m (cache_by before ds (call_object c))
Cause m before p ds c (reply.Trimmed n) = (call_kind c ≡ Trim) × IsOfPlain m (call_cache c)
Cause m before p ds c reply.Checked = (call_kind c ≡ Trim) × IsOfChecked m (call_cache c)
Cause m before p ds c (reply.Flushed n) = call_kind c ≡ Flush

-- each reply had its cause
abbrev pub Caused : Setup → (ℕ → Option BoardWord) → Public → List Answered → Type 0
Caused m before p [] = Unit {0}
Caused m before p (d ∷ ds) = Cause m before p ds d.call d.reply × Caused m before p ds
