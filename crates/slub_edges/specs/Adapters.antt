-- What an adapter holds.
use Rattle.std.specs.Prelude.{ℕ}
use Rattle.slub_edges.specs.declared.adapters.ReadSource.{ReadSource}
use Rattle.slub_edges.specs.declared.adapters.WriteSink.{WriteSink}

-- the reader that a source reads from
abbrev pub reader_of : {R : Type 0} → ReadSource R → R
reader_of source = source.reader

-- how many of its reads failed
abbrev pub read_faults : {R : Type 0} → ReadSource R → ℕ
read_faults source = source.faults

-- the writer that a sink writes to
abbrev pub writer_of : {W : Type 0} → WriteSink W → W
writer_of sink = sink.writer

-- how many of its writes failed
abbrev pub write_faults : {W : Type 0} → WriteSink W → ℕ
write_faults sink = sink.faults
