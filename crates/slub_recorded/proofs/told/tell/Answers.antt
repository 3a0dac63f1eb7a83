use Rattle.std.proofs.Common.{List, ◌++◌, ap, sym, ◌∙◌, append_assoc}
use Rattle.std.specs.Prelude.{All}
use Rattle.std.proofs.lemmas.List.Elements.{All-append}
use Rattle.slub_recorded.specs.declared.told.Note.{Note}
use Rattle.slub_recorded.specs.Told.{IsCount}
use Rattle.slub_recorded.proofs.Only.{none_counted}
use Rattle.slub_recorded.proofs.told.tell.Goals as goal

pub returns-clause-listed : goal.returns-clause-listed
returns-clause-listed c =
    let fates : List Note = c.put_fates.new.notes.items in
    let rest : List Note = c.put_rest.new.notes.items in
    let counted : All IsCount fates = c.in_ok-put_fates.ensures.counts (none_counted c.new-notes.result.items c.new-notes.ensures.items) in
    let more : All IsCount rest = c.in_ok-put_rest.ensures (c.in_ok-put_counts.ensures (c.in_ok-put_kinds.ensures (none_counted c.new-more.result.items c.new-more.ensures.items))) in (
      fates ++ rest,
      c.in_ok-extend_from_slice-2.ensures.items ∙ ap (λ (l : List Note). fates ++ l) (c.as_slice-2.ensures.value ∙ c.in_ok-extend_from_slice.ensures.items) ∙ sym (append_assoc fates rest c.args.listed.now),
      All-append IsCount fates rest counted more,
    )
