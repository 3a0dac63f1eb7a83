-- The object numbers that a line may allocate, and those that it needs.
use Rattle.std.specs.Prelude.{ℕ, List, [], ◌∷◌}
use Rattle.std.specs.List.{range_with_len}
use Rattle.slub_trace_reader.specs.declared.client.ClientLine.{ClientLine}
use Rattle.slub_trace_reader.specs.declared.client.ClientLine.TheVariants.{Kmalloc, Kget, Krealloc, Bulk, Bulkfree, Mempool, Mget, Mput}
use Rattle.slub_trace_reader.specs.declared.line.Line.{Line}
use Rattle.slub_trace_reader.specs.declared.line.Line.TheVariants.{Client, Alloc, Free, Write, Read, Poke}

-- the numbers that a client's line may allocate
abbrev pub client_allocates : ClientLine → List ℕ
client_allocates Kmalloc = []
client_allocates (Kget cpu size object) = object ∷ []
client_allocates (Krealloc cpu object size fresh) = fresh ∷ []
client_allocates (Bulk cpu name first count) = range_with_len first count
client_allocates (Bulkfree cpu first count) = []
client_allocates (Mempool pool name min first) = range_with_len first min
client_allocates (Mget cpu pool object) = object ∷ []
client_allocates (Mput cpu pool object) = []

-- the numbers that a line may allocate
abbrev pub allocates : Line → List ℕ
allocates (Alloc worker cpu name object) = object ∷ []
allocates (Client line) = client_allocates line
allocates _ = []

-- the numbers that a client's line needs a line above to allocate
abbrev pub client_needs : ClientLine → List ℕ
client_needs Kmalloc = []
client_needs (Kget cpu size object) = []
client_needs (Krealloc cpu object size fresh) = object ∷ []
client_needs (Bulk cpu name first count) = []
client_needs (Bulkfree cpu first count) = range_with_len first count
client_needs (Mempool pool name min first) = []
client_needs (Mget cpu pool object) = []
client_needs (Mput cpu pool object) = object ∷ []

-- the numbers that a line needs a line above to allocate
abbrev pub needs : Line → List ℕ
needs (Free worker cpu object) = object ∷ []
needs (Write worker object word value) = object ∷ []
needs (Read worker object word) = object ∷ []
needs (Poke worker object negative offset byte) = object ∷ []
needs (Client line) = client_needs line
needs _ = []
