-- Which texts are comments.
use Rattle.std.specs.Prelude.{ℕ, List}
use Rattle.slub_recorded.specs.declared.told.Note.{Note}
use Rattle.slub_recorded.specs.Told.{note_words}
use Rattle.slub_trace_reader.specs.Grammar.{IsOneLine}
use Rattle.slub_trace_reader.specs.Lines.{IsPassed}

-- a comment, without its line feed
abbrev pub IsComment : List ℕ → Type 0
IsComment text = IsPassed text × IsOneLine text

-- a note's text is one
unfoldable pub IsNote : Note → Type 0
IsNote note = IsComment (note_words note)
