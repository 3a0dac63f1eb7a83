use Rattle.std.proofs.Common.{refl, slice_index_or, None}
use Rattle.slub_core.specs.Local.{nobody}
use Rattle.slub_turns.proofs.begin.begin_call.Goals as goal

pub returns-in-Alloc : goal.returns-in-Alloc
returns-in-Alloc c = λ means. rw (c.begin_at.ensures means, c.kind-kind.ensures, c.unwrap_or.ensures, c.in-Alloc.is) refl

pub returns-in-Free : goal.returns-in-Free
returns-in-Free c = λ means. rw (c.begin_at-in-Free.ensures means, c.kind-kind.ensures, c.known_at-cache.ensures, c.in-Free.is) refl

pub returns-in-Write : goal.returns-in-Write
returns-in-Write c = λ means. rw (c.begin_at-in-Write.ensures means, c.kind-kind.ensures, c.known_at-cache-in-Write.ensures, c.in-Write.is) refl

pub returns-in-Read : goal.returns-in-Read
returns-in-Read c = λ means. rw (c.begin_at-in-Read.ensures means, c.kind-kind.ensures, c.known_at-cache-in-Read.ensures, c.in-Read.is) refl

pub returns-in-Poke : goal.returns-in-Poke
returns-in-Poke c = λ means. rw (c.begin_at-in-Poke.ensures means, c.kind-kind.ensures, c.known_at-cache-in-Poke.ensures, c.in-Poke.is) refl

pub returns-in-Trim : goal.returns-in-Trim
returns-in-Trim c = λ means. rw (c.begin_at-in-Trim.ensures means, c.kind-kind.ensures, c.unwrap_or-in-Trim.ensures, c.in-Trim.is) refl

pub returns-in-Flush : goal.returns-in-Flush
returns-in-Flush c = λ means. rw (c.begin_at-in-Flush.ensures means, c.kind-kind.ensures, c.oldest.ensures means (slice_index_or c.args.local.now.known 0 nobody) None, c.in-Flush.is) refl
