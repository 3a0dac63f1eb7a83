use Rattle.std.proofs.Common.{◌≡◌, ◌++◌, take}
use Rattle.std.specs.Prelude.{flat_map, All}
use Rattle.slub_recorded.specs.Comments.{IsNote}
use Rattle.slub_recorded.specs.Told.{note_text}
use Rattle.slub_recorded.proofs.told.push_notes.Given as goal

abbrev pub invariant-loop-note : goal.invariant-loop-note
invariant-loop-note l = record {
  text : l.text.items ≡ l.initial.text.items ++ flat_map note_text (take l.note-index l.notes);
  comments : All IsNote (take l.note-index l.notes);
}
