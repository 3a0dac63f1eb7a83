-- Events stand in the order of the lines that say them.
use Rattle.std.proofs.Common.{◌≡◌, ℕ, ◌+◌, Result, Ok, Err, List, [], ◌∷◌, ◌++◌, refl, sym, ap, ◌∙◌, append_assoc, append-nil}
use Rattle.std.proofs.lemmas.List.{map-append}
use Rattle.std.specs.List.{cons_option}
use Rattle.slub_recording.specs.declared.event.KmemEvent.{KmemEvent}
use Rattle.slub_recording.specs.declared.fault.LineFault.{LineFault}
use Rattle.slub_recording.specs.declared.fault.RecordingFault.TheVariants.{BadLine}
use Rattle.slub_recording.specs.declared.line.Said.{Said}
use Rattle.slub_recording.specs.declared.line.Said.TheVariants.{Passed, Cpus, Buffer, Lost, Other, Kmem}
use Rattle.slub_recording.specs.Order.{point_of, points_of, points_in}
use Rattle.slub_recording.specs.Recording.{Above, Recorded, start, after, event_of, recorded_after, read_from, reading}
use Rattle.slub_common.specs.Lines.{cut_lines}
use Rattle.slub_recording.specs.Says.{says}
use Rattle.slub_recording.proofs.Counts.{some_is, lines_read}

-- one event more stands last
point_last : (events : List KmemEvent) (e : KmemEvent) (points : List (ℕ × ℕ)) → points_in (events ++ e ∷ []) ++ points ≡ points_in events ++ (e.cpu, e.pointer) ∷ points
point_last events e points =
    ap (λ l. l ++ points) (map-append (λ (x : KmemEvent). (x.cpu, x.pointer)) events (e ∷ []))
    ∙ append_assoc (points_in events) ((e.cpu, e.pointer) ∷ []) points

point_more : (a : Above) (s : Said) (points : List (ℕ × ℕ)) → points_in (recorded_after a s).events ++ points ≡ points_in a.recorded.events ++ cons_option (point_of (Ok s)) points
unfolding recorded_after
point_more a Passed points = refl
point_more a (Cpus cpus) points = refl
point_more a (Buffer overwritten cpus) points = refl
point_more a (Lost count) points = refl
point_more a (Other time) points = refl
point_more a (Kmem cpu time pointer act) points = point_last a.recorded.events (event_of a.recorded cpu pointer act) points

ordered : (a : Above) (texts : List (List ℕ)) (rest : List ℕ) (r : Recorded) → read_from a texts rest ≡ Ok r → points_in r.events ≡ points_in a.recorded.events ++ points_of texts
unfolding read_from
ordered a [] [] r is =
    let same = some_is a.recorded r a.recorded.events is in
    ap (λ (x : Recorded). points_in x.events) (sym same) ∙ sym (append-nil (points_in a.recorded.events))
ordered a [] (b ∷ bs) r is = cc
ordered a (text ∷ texts) rest r is = by (says text) refl (λ b h. ordered b texts rest r h)
  where
    by : (said : Result Said LineFault) → says text ≡ said → ((b : Above) → read_from b texts rest ≡ Ok r → points_in r.events ≡ points_in b.recorded.events ++ points_of texts) → points_in r.events ≡ points_in a.recorded.events ++ points_of (text ∷ texts)
    by (Err why) says_is behind = (let never : Err (BadLine (a.lines + 1) why) ≡ Ok r = rw (says_is, read_from) at is in cc)
    by (Ok s) says_is behind =
        let more : read_from (after a s) texts rest ≡ Ok r = rw (says_is, read_from) at is in
        behind (after a s) more ∙ (point_more a s (points_of texts) ∙ ap (λ v. points_in a.recorded.events ++ cons_option (point_of v) (points_of texts)) (sym says_is))

pub events_ordered : (bytes : List ℕ) (r : Recorded) → reading bytes ≡ Ok r → points_in r.events ≡ points_of (cut_lines bytes).0
events_ordered bytes r is = ordered start (cut_lines bytes).0 (cut_lines bytes).1 r (lines_read bytes r is)
