-- What a step was, and what it says: from what to what, and what was found.
use Rattle.std.specs.Prelude.{ℕ, ◌+◌, ◌%◌, ◌^◌, List, [], ◌∷◌, ◌++◌, codes}
use Rattle.std.specs.Fmt.{decimal}
use Rattle.slub_words.specs.declared.slab.SlabWord.{SlabWord}
use Rattle.slub_core.specs.declared.step.Place.{Place}
use Rattle.slub_core.specs.declared.step.Place.TheVariants.{LockOf, ListOf, CpuOf, SlabOf, BoardOf, MemoryOf, LinkOf}
use Rattle.slub_core.specs.declared.step.Op.{Op}
use Rattle.slub_core.specs.declared.step.Op.TheVariants.{Load, Store, Swap, Exchange}
use Rattle.slub_core.specs.declared.step.Step.{Step}
use Rattle.slub_core.specs.declared.step.Answer.{Answer}
use Rattle.slub_core.specs.declared.step.Answer.TheVariants.{Word, Won, Lost}
use Rattle.slub_core.specs.declared.spot.Spot.{Spot}
use Rattle.slub_core.specs.declared.spot.Spot.TheVariants.{InAlloc, WriteWord, ReadWord}
use Rattle.slub_core.specs.declared.spot.AllocSpot.TheVariants.{Make}
use Rattle.slub_core.specs.Facts.{Facts, found_in}
use Rattle.slub_core.specs.Local.{Local}
use Rattle.slub_core.specs.Words.{cpu_in, slab_in, list_in, no_slab_word}
use Rattle.slub_turn_text.specs.declared.fields.Form.TheVariants.{Holder}
use Rattle.slub_turn_text.specs.declared.object.Object.{Object}
use Rattle.slub_turn_text.specs.Fields.{became, board_change, cpu_change, cpu_unlike, frame_text, holder_text, index_text, list_change, list_unlike, slab_change, slab_unlike}
use Rattle.slub_turn_text.specs.Words.{pointed}

-- ---- the step

abbrev pub exchange_text : Answer → List ℕ
exchange_text (Lost x) = codes "exchange lost"
exchange_text _ = codes "exchange won"

unfoldable pub step_text : Op → Answer → List ℕ
step_text Load a = codes "load"
step_text (Store v) a = codes "store"
step_text (Swap v) a = codes "swap"
step_text (Exchange from to) a = exchange_text a

-- ---- packed words

-- a word that becomes another one: each field by its name. Links and memory are told below
unfoldable pub changed : Place → ℕ → ℕ → List ℕ
changed (LockOf n) old new = became Holder old new
changed (ListOf n) old new = list_change (list_in old) (list_in new)
changed (CpuOf n) old new = cpu_change (cpu_in old) (cpu_in new)
changed (SlabOf frame) old new = slab_change (slab_in old) (slab_in new)
changed (BoardOf object) old new = board_change old new
changed (MemoryOf place) old new = []
changed (LinkOf frame) old new = []

-- the fields of the word that was found which aren't as they were noted
unfoldable pub found : Place → ℕ → ℕ → List ℕ
found (LockOf n) noted x = 32 ∷ holder_text x
found (ListOf n) noted x = list_unlike (list_in noted) (list_in x)
found (CpuOf n) noted x = cpu_unlike (cpu_in noted) (cpu_in x)
found (SlabOf frame) noted x = slab_unlike (slab_in noted) (slab_in x)
found place noted x = []

-- ---- links and memory, which are loaded and stored alone

unfoldable pub link_text : ℕ → List ℕ
link_text x = frame_text (x % 2 ^ 16)

-- a free pointer as the allocator reads it (`get_freepointer`)
unfoldable pub pointer_text : Facts → Object → ℕ → List ℕ
pointer_text m o x = index_text (found_in m o.cache o.frame o.index x)

-- a holder's word, or a free pointer
unfoldable pub content_text : Facts → Local → Spot → ℕ → List ℕ
content_text m l WriteWord x = decimal x
content_text m l ReadWord x = decimal x
content_text m l s x = pointer_text m (pointed l s) x

-- ---- what it says

-- what a word says that is loaded
unfoldable pub loaded : Facts → Local → Place → ℕ → List ℕ
loaded m l (MemoryOf place) x = content_text m l l.spot x
loaded m l (LinkOf frame) x = link_text x
loaded m l place x = changed place x x

-- the slab word before it is stored: none where a slab is made, else the one that the worker saw or
-- left last, since the slab is its own
abbrev pub slab_before : SlabWord → Spot → SlabWord
slab_before seen (InAlloc Make) = no_slab_word
slab_before seen s = seen

-- what a word says that is stored; a lock was the worker's
unfoldable pub stored : Facts → SlabWord → Local → Place → ℕ → List ℕ
stored m seen l (MemoryOf place) v = codes "->" ++ content_text m l l.spot v
stored m seen l (LinkOf frame) v = codes "->" ++ link_text v
stored m seen l (SlabOf frame) v = slab_change (slab_before seen l.spot) (slab_in v)
stored m seen l (LockOf n) v = became Holder (l.worker + 1) v
stored m seen l place v = []

unfoldable pub exchanged : Place → ℕ → ℕ → Answer → List ℕ
exchanged place from to (Lost x) = changed place from to ++ codes ", found" ++ found place from x
exchanged place from to _ = changed place from to

unfoldable pub says_by : Facts → SlabWord → Local → Place → Op → Answer → List ℕ
says_by m seen l place Load (Word x) = loaded m l place x
says_by m seen l place (Store v) a = stored m seen l place v
says_by m seen l place (Swap v) (Word x) = changed place x v
says_by m seen l place (Exchange from to) a = exchanged place from to a
says_by m seen l place op a = []

unfoldable pub says : Facts → SlabWord → Local → Step → Answer → List ℕ
says m seen l step a = says_by m seen l step.place step.op a

-- ---- the slab word that a worker saw or left last

abbrev pub seen_by : SlabWord → Op → Answer → SlabWord
seen_by seen Load (Word x) = slab_in x
seen_by seen (Store v) a = slab_in v
seen_by seen (Exchange from to) Won = slab_in to
seen_by seen op a = seen

abbrev pub seen_at : SlabWord → Place → Op → Answer → SlabWord
seen_at seen (SlabOf frame) op a = seen_by seen op a
seen_at seen place op a = seen

unfoldable pub seen_after : SlabWord → Step → Answer → SlabWord
seen_after seen step a = seen_at seen step.place step.op a
