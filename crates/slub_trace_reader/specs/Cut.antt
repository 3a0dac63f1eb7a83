-- For proofs and private clauses: a line as it is read. A number that 64 bits don't hold is as
-- great as the least of those.
use Rattle.std.specs.Prelude.{option_map}
use Rattle.slub_common.specs.Numbers.{cut_number}
use Rattle.slub_trace_reader.specs.declared.client.ClientLine.{ClientLine}
use Rattle.slub_trace_reader.specs.declared.client.ClientLine.TheVariants.{Kmalloc, Kget, Krealloc, Bulk, Bulkfree, Mempool, Mget, Mput}
use Rattle.slub_trace_reader.specs.declared.line.Line.{Line}
use Rattle.slub_trace_reader.specs.declared.line.Line.TheVariants.{Passed, Slubtrace, Machine, Cache, Shrink, Destroy, Tune, Slabinfo, Client, Round, Alloc, Free, Write, Read, Poke, Trim, Flush, Done, End}

abbrev pub cut_client : ClientLine → ClientLine
cut_client Kmalloc = Kmalloc
cut_client (Kget cpu size object) = Kget (cut_number cpu) (cut_number size) (cut_number object)
cut_client (Krealloc cpu object size fresh) =
    Krealloc (cut_number cpu) (cut_number object) (cut_number size) (cut_number fresh)
cut_client (Bulk cpu name first count) =
    Bulk (cut_number cpu) name (cut_number first) (cut_number count)
cut_client (Bulkfree cpu first count) =
    Bulkfree (cut_number cpu) (cut_number first) (cut_number count)
cut_client (Mempool pool name min first) = Mempool pool name (cut_number min) (cut_number first)
cut_client (Mget cpu pool object) = Mget (cut_number cpu) pool (cut_number object)
cut_client (Mput cpu pool object) = Mput (cut_number cpu) pool (cut_number object)

abbrev pub cut_line : Line → Line
cut_line Passed = Passed
cut_line (Slubtrace version) = Slubtrace version
cut_line (Machine frames cpus tid) =
    Machine (cut_number frames) (cut_number cpus) (option_map cut_number tid)
cut_line (Cache name size align flags) = Cache name (cut_number size) (cut_number align) flags
cut_line (Shrink name) = Shrink name
cut_line (Destroy name) = Destroy name
cut_line (Tune name knob number) = Tune name knob (cut_number number)
cut_line Slabinfo = Slabinfo
cut_line (Client line) = Client (cut_client line)
cut_line (Round workers) = Round (cut_number workers)
cut_line (Alloc worker cpu name object) =
    Alloc (cut_number worker) (cut_number cpu) name (cut_number object)
cut_line (Free worker cpu object) = Free (cut_number worker) (cut_number cpu) (cut_number object)
cut_line (Write worker object word value) =
    Write (cut_number worker) (cut_number object) (cut_number word) (cut_number value)
cut_line (Read worker object word) = Read (cut_number worker) (cut_number object) (cut_number word)
cut_line (Poke worker object negative offset byte) =
    Poke (cut_number worker) (cut_number object) negative (cut_number offset) byte
cut_line (Trim worker name) = Trim (cut_number worker) name
cut_line (Flush worker cpu) = Flush (cut_number worker) (cut_number cpu)
cut_line Done = Done
cut_line End = End
