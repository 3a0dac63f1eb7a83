-- Texts of kinds, of keys and of faults.
use Rattle.std.specs.Prelude.{ℕ, List, ◌++◌, codes}
use Rattle.std.specs.Fmt.{decimal}
use Rattle.slub_edges.specs.declared.reading.ReadAllFault.{ReadAllFault}
use Rattle.slub_edges.specs.declared.reading.ReadAllFault.TheVariants as all
use Rattle.slub_recording.specs.declared.event.KmemKind.{KmemKind}
use Rattle.slub_recording.specs.declared.event.KmemKind.TheVariants.{CacheAlloc, Kmalloc, CacheFree, Kfree}
use Rattle.slub_recording.specs.declared.event.Key.{Key}
use Rattle.slub_recording.specs.declared.event.Key.TheVariants.{CallSite, Ptr, BytesReq, BytesAlloc, GfpFlags, Accounted, Name}
use Rattle.slub_recording.specs.declared.fault.LineFault.{LineFault}
use Rattle.slub_recording.specs.declared.fault.LineFault.TheVariants.{Unfinished, NoLine, Without, BadSize, Unhashed, BadPointer}
use Rattle.slub_recording.specs.declared.fault.RecordingFault.{RecordingFault}
use Rattle.slub_recording.specs.declared.fault.RecordingFault.TheVariants.{ReadFault, TooLong, TraceDat, PerfData, BadLine, NoKmemEvent, NoMemory}

-- the name of a tracepoint
abbrev pub kind_text : KmemKind → List ℕ
kind_text CacheAlloc = codes "kmem_cache_alloc"
kind_text Kmalloc = codes "kmalloc"
kind_text CacheFree = codes "kmem_cache_free"
kind_text Kfree = codes "kfree"

-- the word of a value
abbrev pub key_text : Key → List ℕ
key_text CallSite = codes "call_site"
key_text Ptr = codes "ptr"
key_text BytesReq = codes "bytes_req"
key_text BytesAlloc = codes "bytes_alloc"
key_text GfpFlags = codes "gfp_flags"
key_text Accounted = codes "accounted"
key_text Name = codes "name"

-- the reason for a bad line in words
abbrev pub why_text : LineFault → List ℕ
why_text Unfinished = codes "unfinished line"
why_text NoLine = codes "no event, and no other line that the tools print"
why_text (Without kind key) = kind_text kind ++ codes " without " ++ key_text key
why_text (BadSize kind) = kind_text kind ++ codes " with a size that is no number"
why_text Unhashed = codes "the pointer was not yet hashed: boot with no_hash_pointers"
why_text (BadPointer text) = codes "bad pointer '" ++ text ++ codes "'"

-- a fault in words
abbrev pub fault_text : RecordingFault → List ℕ
fault_text ReadFault = codes "read fault"
fault_text TooLong = codes "input too long"
fault_text TraceDat = codes "this is trace.dat: give the text of `trace-cmd report`"
fault_text PerfData = codes "this is perf.data: give the text of `perf script`"
fault_text (BadLine line why) = codes "line " ++ decimal line ++ codes ": " ++ why_text why
fault_text NoKmemEvent = codes "no kmem event in the recording"
fault_text NoMemory = codes "out of memory"

-- the fault of a source that wasn't read to its end
abbrev pub fault_of_source : ReadAllFault → RecordingFault
fault_of_source all.Failed = ReadFault
fault_of_source all.TooLong = TooLong
fault_of_source all.NoMemory = NoMemory
