use Rattle.std.proofs.Common.{◌++◌, ap, subst, ◌∙◌}
use Rattle.slub_recorded.specs.declared.told.Note.{Note}
use Rattle.slub_recorded.specs.Comments.{IsNote}
use Rattle.slub_recorded.specs.Told.{note_text}
use Rattle.slub_recorded.proofs.Notes.{noted, written}
use Rattle.slub_recorded.proofs.told.push_notes.Goals as goal

pub loop-note-preserved : goal.loop-note-preserved
loop-note-preserved c =
    let P : Note → Type 0 = λ n. IsNote n in
    record {
      text = written c.args.text.now.items c.loop-note.text.items c.push_note.new.text.items c.args.notes.now c.loop-note.note-index c.note-item.result c.loop-note-test.true c.loop-note.invariant.text
          (c.in_ok-push_note.ensures.text ∙ ap (λ (n : Note). c.loop-note.text.items ++ note_text n) c.note-item.is);
      comments = noted c.args.notes.now c.loop-note.note-index c.note-item.result c.loop-note-test.true c.loop-note.invariant.comments (subst P c.note-item.is c.in_ok-push_note.ensures.comment);
    }
