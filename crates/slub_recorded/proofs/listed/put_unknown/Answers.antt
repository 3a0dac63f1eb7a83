use Rattle.std.proofs.Common.{List, [], ap, sym, subst}
use Rattle.std.specs.Prelude.{All}
use Rattle.slub_recorded.specs.declared.told.Note.{Note}
use Rattle.slub_recorded.specs.Told.{IsOfLeft}
use Rattle.slub_recorded.proofs.listed.put_unknown.Goals as goal
use Rattle.slub_recorded.proofs.listed.put_unknown.Goals.{in-Some+in_ok-put_frees, in_default}

pub loop-place-preserved : goal.loop-place-preserved
loop-place-preserved c =
    λ old.
    let P : List Note → Type 0 = λ l. All (IsOfLeft []) l in
    elim c.match-get.branch [
      | in-Some+in_ok-put_frees w ↦ subst P (sym (ap (λ v. v.items) w.notes-is)) (w.in_ok-put_frees.ensures (c.loop-place.invariant old))
      | in_default w ↦ subst P (sym (ap (λ v. v.items) w.notes-is)) (c.loop-place.invariant old)
    ]
