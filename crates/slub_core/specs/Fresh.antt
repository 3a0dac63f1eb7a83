-- What a worker has noted is still good where it is relied on.
use Rattle.std.specs.Prelude.{◌≡◌, ◌≢◌, ℕ, suc, ◌+◌, ◌-◌, ◌*◌, ◌/◌, ◌%◌, ◌^◌, ◌<◌, ◌≤◌, true, false, ◌&&◌, not, ◌==◌, nat_lt, cond, List, [], ◌∷◌, length, slice_index, Option, Some, None, IsSome, All, ◌⊎◌}
use Rattle.slub_common.specs.Times.{times}
use Rattle.slub_words.specs.declared.cpu.CpuWord.{CpuWord}
use Rattle.slub_words.specs.declared.slab.SlabWord.{SlabWord}
use Rattle.slub_cpu_partial.specs.Strings.{IsList}
use Rattle.slub_core.specs.declared.local.Known.{Known}
use Rattle.slub_core.specs.declared.local.Hand.{Hand}
use Rattle.slub_core.specs.declared.local.PartialString.{PartialString}
use Rattle.slub_core.specs.declared.local.FrameRun.{FrameRun}
use Rattle.slub_core.specs.Setup.{Setup, IsSetup, IsPlain, IsChecked, pointer_at}
use Rattle.slub_core.specs.World.{World, pointer, cache_at, Leads, IsString}
use Rattle.slub_core.specs.Local.{Local, Worker, here, hand_of, string_of, run_of, chain_of, call_of}
use Rattle.slub_core.specs.Ops.{own_cpu}
use Rattle.slub_core.specs.Alloc.{node_of}
use Rattle.slub_core.specs.Offline.{scanned_slab}
use Rattle.slub_core.specs.Free.{is_last_listed}
use Rattle.slub_core.specs.Steps.{is_outside}
use Rattle.slub_core.specs.Listed.{takes}
use Rattle.slub_object_layout.specs.Layout.{IsSized}
use Rattle.slub_core.specs.Spots.{Role, Taken, Ready, Loaded, Leaving, Untied, Popped, Kept, Loose, roles, is_linked, is_walking, is_walked, is_emptied, least_string, may_string, ends_string, has_run, stored_in, links_new, notes_cpu, is_fresh, takes_head, detaches, detaches_empty, installs, notes_next, pushes, notes_some, notes_none, notes_away, links_last, frees_open, frees_locked, has_freed_last, notes_kept, notes_scanned, notes_list, walks_string, links_string, pushes_string, scans, scans_next, links_cpu, links_slab, frees, uses, uses_word, keeps, pokes, takes_board, awaits, in_checked, in_plain, doing}
use Rattle.slub_core.specs.declared.call.CallKind.TheVariants.{Flush}
use Rattle.slub_core.specs.Calls.{call_word}

-- ---- what it has noted, by itself

-- the words that it has noted are words
pub record IsPacked (l : Local) : Type 0 where
  pub cpu_word : (l.cpu_word.tid < 2 ^ 32) × (l.cpu_word.frame < 2 ^ 16)
      × (l.cpu_word.head < 2 ^ 16)
  pub slab_word : (l.slab_word.head < 2 ^ 16) × (l.slab_word.inuse < 2 ^ 16)
      × (l.slab_word.objects < 2 ^ 16) × (l.slab_word.cache < 2 ^ 8)
  pub list_word : (l.list_word.front < 2 ^ 16) × (l.list_word.count < 2 ^ 16)
  pub next : l.next < 2 ^ 16

-- its notes have the form under which it came to its spot
pub record IsNoted (m : Setup) (l : Local) : Type 0 where
  -- of CPU words
  pub fresh : is_fresh l.spot ≡ true → l.cpu_word.tid + 2 * m.step < 2 ^ 32
  pub step : notes_cpu l.spot ≡ true → l.cpu_word.tid + m.step < 2 ^ 32
  pub head : takes_head l.spot ≡ true → (1 ≤ l.cpu_word.head)
      × (pointer_at m l.cache l.cpu_word.frame (l.cpu_word.head - 1) < 512 * m.frames)
  pub slab : detaches l.spot ≡ true → l.cpu_word.frame ≢ 0
  pub empty : detaches_empty l.spot ≡ true → l.cpu_word.head ≡ 0
  pub none : installs l.spot ≡ true → (l.cpu_word.frame ≡ 0) × (l.cpu_word.head ≡ 0)
  pub own : pushes l.spot ≡ true → l.cpu_word.frame ≡ (here l).frame
  -- of slab words
  pub some_free : notes_some l.spot ≡ true → 1 ≤ l.slab_word.head
  pub none_free : notes_none l.spot ≡ true → l.slab_word.head ≡ 0
  pub in_use : frees_open l.spot ≡ true → (1 ≤ l.slab_word.inuse)
      × (is_last_listed l.slab_word ≡ false)
  pub last_in_use : frees_locked l.spot ≡ true → is_last_listed l.slab_word ≡ true
  pub kept : notes_kept l.spot ≡ true → (l.slab_word.frozen ≡ false) × (l.slab_word.listed ≡ false)
      × (1 ≤ l.slab_word.head)
  -- of list words
  pub list : notes_list l.spot ≡ true → IsList l.list_word.front l.list_word.count
      × (l.list_word.count + (string_of l).count ≤ m.frames - 1)

-- ---- what it has in hand, by itself

-- what a walk along a chain in hand has found
pub record IsWalk (xs : List ℕ) (h : Hand) : Type 0 where
  pub short : h.length ≤ length xs
  pub last : 1 ≤ h.length → h.last ≡ suc (slice_index xs (h.length - 1))
  pub ended : h.walked ≡ true → (h.length ≡ length xs) × (1 ≤ h.length)

-- no walk has begun, or it has found what the first object leads to
abbrev pub IsUnwalked : Hand → Type 0
IsUnwalked h = (h.length ≡ 0) × (h.walked ≡ false)

abbrev pub IsLoaded : Hand → Type 0
IsLoaded h = ((h.length ≡ 1) × (h.walked ≡ true)) ⊎ ((h.length ≡ 2) × (h.walked ≡ false))

-- the chain in hand by the slab's role
abbrev pub IsChainOf : Role → Hand → List ℕ → Type 0
IsChainOf Taken h xs = (h.head ≡ 0) × (xs ≡ [])
IsChainOf Ready h xs = (1 ≤ h.head) × IsUnwalked h
IsChainOf Loaded h xs = (1 ≤ h.head) × IsLoaded h
IsChainOf Leaving h xs = Unit {0}
IsChainOf Untied h xs = Unit {0}
IsChainOf Popped h xs = (h.head ≡ 0) × (xs ≡ [])
IsChainOf Kept h xs = (h.head ≡ 0) × (xs ≡ [])
IsChainOf Loose h xs = (h.head ≡ 0) × (xs ≡ [])

-- each slab in hand has a role, and a chain that fits it
abbrev pub AreHands : List Role → List Hand → List (List ℕ) → Type 0
AreHands [] [] [] = Unit {0}
AreHands (r ∷ rs) (h ∷ hs) (xs ∷ xss) = (1 ≤ h.frame) × (h.frame < 2 ^ 16) × (h.head < 2 ^ 16)
    × IsChainOf r h xs × IsWalk xs h × AreHands rs hs xss
AreHands _ _ _ = ⊥

-- the walk along a string in hand stands at its place
pub record IsCursor (string : PartialString) (frames : List ℕ) : Type 0 where
  pub count : length frames ≡ string.count
  pub place : (1 ≤ string.place) × (string.place ≤ string.count)
  pub cursor : string.cursor ≡ slice_index frames (string.place - 1)

abbrev pub IsStringOf : Option PartialString → List ℕ → Type 0
IsStringOf None frames = frames ≡ []
IsStringOf (Some string) frames = IsCursor string frames

-- a string of which the last slab is known to lead to nothing, where there is one
abbrev pub IsEnded : Option PartialString → Type 0
IsEnded None = Unit {0}
IsEnded (Some string) = string.link ≡ Some 0

-- ---- at its spot, by itself

pub record IsAtSpot (m : Setup) (x : Worker) : Type 0 where
  pub packed : IsPacked x.local
  pub noted : IsNoted m x.local
  -- its call
  pub cpu : x.local.cpu < m.cpus
  pub plain : in_plain x.local.spot ≡ true → IsPlain m x.local.cache
  pub checked : in_checked x.local.spot ≡ true → IsChecked m x.local.cache
  pub flush : doing x.local.spot ≡ Some Flush → (x.local.turn < length m.plain)
      × (x.local.cache ≡ slice_index m.plain x.local.turn)
  -- the object of the call
  pub number : (here x.local).object < m.objects
  pub board : takes_board x.local.spot ≡ true → 1 ≤ (here x.local).object
  pub awaits : awaits x.local.spot ≡ true → (x.local.place < length x.local.known)
      × ((here x.local).held ≡ false)
  pub frees : frees x.local.spot ≡ true → (x.local.place < length x.local.known)
      × ((here x.local).held ≡ true) × ((here x.local).cache ≡ x.local.cache)
  -- the word that is written or read lies in the object
  pub inside : uses_word x.local.spot ≡ true
      → is_outside (m.layout x.local.cache) (call_word (call_of x.local)) ≡ false
  pub uses : uses x.local.spot ≡ true → (x.local.place < length x.local.known)
      × ((here x.local).held ≡ true) × ((here x.local).cache ≡ x.local.cache)
  pub keeps : keeps x.local.spot ≡ true → (x.local.place < length x.local.known)
      × ((here x.local).held ≡ true) × ((here x.local).cache ≡ x.local.cache)
  pub pokes : pokes x.local.spot ≡ true → (x.local.place < length x.local.known)
      × ((here x.local).cache ≡ x.local.cache) × (1 ≤ (here x.local).frame)
  -- slabs in hand
  pub hands : AreHands (roles x.local.spot (length x.local.hands)) x.local.hands x.chains
  pub walking : is_walking x.local.spot ≡ true → (1 ≤ (hand_of x.local).head)
      × ((hand_of x.local).walked ≡ false)
  pub walked : is_walked x.local.spot ≡ true → (1 ≤ (hand_of x.local).head)
      → (hand_of x.local).walked ≡ true
  pub some_chain : links_last x.local.spot ≡ true → 1 ≤ (hand_of x.local).head
  pub away : notes_away x.local.spot ≡ true → length (chain_of x) ≤ x.local.slab_word.inuse
  -- a string in hand
  pub string : IsStringOf x.local.string x.string
  pub no_string : may_string x.local.spot ≡ false → x.local.string ≡ None
  pub least : least_string x.local.spot ≤ (string_of x.local).count
  pub before_end : walks_string x.local.spot ≡ true
      → (string_of x.local).place < (string_of x.local).count
  pub at_end : links_string x.local.spot ≡ true
      → (string_of x.local).place ≡ (string_of x.local).count
  pub ended : ends_string x.local.spot ≡ true → IsEnded x.local.string
  pub linked : pushes_string x.local.spot ≡ true
      → (string_of x.local).link ≡ Some x.local.list_word.front
  -- a run in hand
  pub run : has_run x.local.spot ≡ true → IsSome x.local.run
  pub no_run : has_run x.local.spot ≡ false → x.local.run ≡ None
  pub unstored : links_new x.local.spot ≡ true
      → stored_in x.local.spot (run_of x.local).objects < (run_of x.local).objects
  pub stored : stored_in x.local.spot (run_of x.local).objects ≤ (run_of x.local).objects

-- ---- what it sees of the state

-- a noted CPU word is older than the one that stands there, or it stands there still
pub record IsFreshWord (noted now : CpuWord) : Type 0 where
  pub old : noted.tid ≤ now.tid
  pub same : noted.tid ≡ now.tid → noted ≡ now

-- the marks of a slab in hand by its role; and where it is frozen or not, what keeps others off it
abbrev pub HasMarks : Role → SlabWord → Type 0
HasMarks Taken s = s.frozen ≡ true
HasMarks Ready s = s.frozen ≡ true
HasMarks Loaded s = s.frozen ≡ true
HasMarks Leaving s = s.frozen ≡ true
HasMarks Untied s = s.frozen ≡ true
HasMarks Popped s = (s.frozen ≡ false) × (1 ≤ s.head)
HasMarks Kept s = (s.frozen ≡ false) × (s.listed ≡ false) × (1 ≤ s.head)
HasMarks Loose s = (s.frozen ≡ false) × (1 ≤ s.head)

-- a chain in hand leads up to an end, up to any where it is untied
abbrev pub LeadsFor : Role → (ℕ → ℕ) → ℕ → List ℕ → ℕ → Type 0
LeadsFor Untied next head xs end = (to : ℕ) × Leads next head xs to
LeadsFor _ next head xs end = Leads next head xs end

-- each slab in hand is of the call's cache, its marks are those of its role, and its chain is a
-- chain: the first one's up to an end
abbrev pub AreHeld : World → ℕ → List Role → List Hand → List (List ℕ) → ℕ → Type 0
AreHeld w cache (r ∷ rs) (h ∷ hs) (xs ∷ xss) end =
    LeadsFor r (pointer w cache h.frame) h.head xs end × ((w.slab h.frame).cache ≡ cache)
    × HasMarks r (w.slab h.frame) × AreHeld w cache rs hs xss 0
AreHeld w cache _ _ _ end = Unit {0}

-- where the chain in hand leads: to the slab's own head, once that is stored at its end
abbrev pub end_of : Local → ℕ
end_of l = cond (is_linked l.spot && not ((hand_of l).head == 0)) l.slab_word.head 0

-- a slab in a string in hand
pub record IsKeptSlab (s : SlabWord) (cache : ℕ) : Type 0 where
  pub owner : s.cache ≡ cache
  pub unfrozen : s.frozen ≡ false
  pub unlisted : s.listed ≡ false
  pub head : 1 ≤ s.head

-- the last link is what is known of it
abbrev pub IsLinked : (ℕ → ℕ) → List ℕ → Option ℕ → Type 0
IsLinked link frames None = Unit {0}
IsLinked link frames (Some to) = link (slice_index frames (length frames - 1)) ≡ to

abbrev pub IsHeldString : World → ℕ → Option PartialString → List ℕ → Type 0
IsHeldString w cache None frames = Unit {0}
IsHeldString w cache (Some string) frames =
    IsString w.link string.front frames × IsLinked w.link frames string.link
    × ((f : ℕ) → 1 ≤ times f frames → (1 ≤ f) × IsKeptSlab (w.slab f) cache)

-- a run in hand lies among the frames, and has the order and the objects of a slab of the call's
-- cache
pub record IsRun (m : Setup) (cache : ℕ) (run : FrameRun) : Type 0 where
  pub first : 1 ≤ run.frame
  pub inside : run.frame + 2 ^ run.order ≤ m.frames
  pub aligned : run.frame % 2 ^ run.order ≡ 0
  pub sized : IsSized (m.layout cache) run.order run.objects

-- what the object of this index of a new slab leads to: the next one, the last one to nothing
abbrev pub rising_next : ℕ → ℕ → ℕ
rising_next objects i = cond (nat_lt (i + 1) objects) (i + 2) 0

abbrev pub IsHeldRun : World → ℕ → Option FrameRun → ℕ → Type 0
IsHeldRun w cache None stored = Unit {0}
IsHeldRun w cache (Some run) stored =
    IsRun w.setup cache run × ((w.slab run.frame).objects ≡ 0)
    × ((i : ℕ) → i < stored → pointer w cache run.frame i ≡ rising_next run.objects i)

-- a slab of which no object is in use, as the noted word has it
pub record IsEmptied (s : SlabWord) (l : Local) : Type 0 where
  pub none : s.inuse ≡ 0
  pub objects : s.objects ≡ l.slab_word.objects
  pub some : 1 ≤ s.objects
  pub cache : s.cache ≡ l.cache

pub record IsSeen (w : World) (x : Worker) : Type 0 where
  -- words that it has noted
  pub cpu_word : notes_cpu x.local.spot ≡ true
      → IsFreshWord x.local.cpu_word (w.cpu (own_cpu x.local))
  pub next : notes_next x.local.spot ≡ true → x.local.cpu_word.tid ≡ (w.cpu (own_cpu x.local)).tid
      → x.local.next ≡ pointer w x.local.cache x.local.cpu_word.frame
      (x.local.cpu_word.head - 1) % 2 ^ 16
  -- what it has stored in the object that it frees
  pub linked_cpu : links_cpu x.local.spot ≡ true
      → pointer w (here x.local).cache (here x.local).frame (here x.local).index
      ≡ x.local.cpu_word.head
  pub linked_slab : links_slab x.local.spot ≡ true
      → pointer w (here x.local).cache (here x.local).frame (here x.local).index
      ≡ x.local.slab_word.head
  -- the objects that it holds are of their slabs' caches
  pub known : All (λ (k : Known). k.held ≡ true → k.cache ≡ cache_at w k.frame) x.local.known
  -- what it has in hand
  pub hands : AreHeld w x.local.cache
      (roles x.local.spot (length x.local.hands)) x.local.hands x.chains (end_of x.local)
  pub string : IsHeldString w x.local.cache x.local.string x.string
  pub run : IsHeldRun w x.local.cache x.local.run (stored_in x.local.spot (run_of x.local).objects)
  -- slabs without an object in use: in hand, or on the node list still
  pub emptied : is_emptied x.local.spot ≡ true → IsEmptied (w.slab (hand_of x.local).frame) x.local
  pub freed_last : has_freed_last x.local.spot ≡ true
      → IsEmptied (w.slab (here x.local).frame) x.local
      × (1 ≤ times (here x.local).frame (node_of w.value x.local))
  pub scanned : notes_scanned x.local.spot ≡ true
      → IsEmptied (w.slab (scanned_slab w.value x.local)) x.local
      × (1 ≤ times (scanned_slab w.value x.local) (node_of w.value x.local))
  -- a scan of the node list
  pub scan : scans x.local.spot ≡ true → length x.local.scanned ≤ length (node_of w.value x.local)
  pub scan_next : scans_next x.local.spot ≡ true
      → length x.local.scanned < length (node_of w.value x.local)
  -- the locks that it has
  pub locks : (n : ℕ) → 1 ≤ takes n x → w.lock n ≡ suc x.local.worker

-- ---- all workers, and the words

-- the words are words, and the transaction id of CPU c leaves c by the step
pub record IsWorded (w : World) : Type 0 where
  pub cpu : (n : ℕ) → ((w.cpu n).tid < 2 ^ 32) × ((w.cpu n).frame < 2 ^ 16)
      × ((w.cpu n).head < 2 ^ 16)
  pub slab : (f : ℕ) → ((w.slab f).head < 2 ^ 16) × ((w.slab f).inuse < 2 ^ 16)
      × ((w.slab f).objects < 2 ^ 16) × ((w.slab f).cache < 2 ^ 8)
  pub list : (n : ℕ) → ((w.list n).front < 2 ^ 16) × ((w.list n).count < 2 ^ 16)
  pub link : (f : ℕ) → w.link f < 2 ^ 16
  -- a current slab can be detached
  pub room : (n : ℕ) → n < w.setup.cpu_words → (w.cpu n).frame ≢ 0
      → (w.cpu n).tid + w.setup.step < 2 ^ 32
  pub remainder : (n : ℕ) → n < w.setup.cpu_words → n % 16 < w.setup.cpus
      → w.setup.lives (n / 16) ≡ true → (w.cpu n).tid % w.setup.step ≡ n % 16

-- what a worker relies on at its spot
pub record IsAtWork (w : World) (x : Worker) : Type 0 where
  pub spot : IsAtSpot w.setup x
  pub seen : IsSeen w x

pub record IsFresh (w : World) (xs : List Worker) : Type 0 where
  pub setup : IsSetup w.setup
  pub worded : IsWorded w
  pub workers : All (IsAtWork w) xs
