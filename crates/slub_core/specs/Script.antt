-- A worker's calls in one list, and its answers in another, the first one first.
use Rattle.std.specs.Prelude.{List, length, drop, reverse}
use Rattle.slub_core.specs.declared.call.Call.{Call}
use Rattle.slub_core.specs.declared.local.Answered.{Answered}

-- the calls without an answer, in their order
abbrev pub todo_of : List Call → List Answered → List Call
todo_of calls answers = drop (length answers) calls

-- those with one, the last one first
abbrev pub done_of : List Answered → List Answered
done_of answers = reverse answers
