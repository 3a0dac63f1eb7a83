-- How a run ends.
use Rattle.std.proofs.Common.{◌≡◌, ℕ, List, Option, Result, Ok, Err, IfOk, IfErr, MatchResult, refl, sym, subst, inl, inr}
use Rattle.std.specs.declared.alloc.AllocError.{AllocError}
use Rattle.std.specs.declared.alloc.Global.{Global}
use Rattle.std.specs.declared.vec.Vec.{Vec}
use Rattle.slub_recording.specs.declared.fault.RecordingFault.{RecordingFault}
use Rattle.slub_recording.specs.declared.fault.RecordingFault.TheVariants as read
use Rattle.slub_recording.specs.Texts.{fault_text}
use Rattle.slub_recording.specs.declared.recording.Recording.{Recording}
use Rattle.slub_recorded.specs.declared.convert.Converted.{Converted}
use Rattle.slub_recorded.specs.declared.convert.ConvertFault.{ConvertFault}
use Rattle.slub_recorded.specs.declared.convert.ConvertFault.TheVariants as fault
use Rattle.slub_recorded.specs.declared.convert.Options.{Options}
use Rattle.slub_recorded.specs.declared.status.Status.{Status}
use Rattle.slub_recorded.specs.declared.stop.Stop.{Stop}
use Rattle.slub_recorded.specs.declared.stop.Stop.TheVariants.{BadInput, NoMemory}
use Rattle.slub_recorded.specs.Converted.{IsConverted, IsFault}
use Rattle.slub_recorded.specs.Run.{Call, Ends, IsRead, IsRunOf, IsUnfit, WritesOut, end_status, end_text}
use Rattle.slub_recorded.specs.Stop.{IsConvertStop, IsReadStop, StopsFor, StopsWith, convert_text, stop_line, stop_status}
use Rattle.slub_trace_reader.specs.Faults.{fault_line}
use Rattle.slub_recorded.specs.Words.{IsRequest, tunes_asked}

-- ---- what a fault stops for

-- a line, or the want of memory for it
pub stops_with : (line : Result (Vec ℕ Global) AllocError) (text : List ℕ) (stop : Stop) → IfOk line (λ l. l.items ≡ text) → MatchResult line (λ l. stop ≡ BadInput l) (λ e. stop ≡ NoMemory) → StopsWith text stop
stops_with (Ok l) text stop made is = inr (l, is, made)
stops_with (Err e) text stop made is = inl is

-- a fault of the reader that has a line
pub read_stop : (why : RecordingFault) (stop : Stop) → (why ≡ read.ReadFault → ⊥) → (why ≡ read.NoMemory → ⊥) → StopsWith (fault_line (fault_text why)) stop → IsReadStop why stop
read_stop read.ReadFault stop reads memory stops = absurd (reads refl)
read_stop read.NoMemory stop reads memory stops = absurd (memory refl)
read_stop why stop reads memory stops = stops

-- a fault of the conversion that has a line
pub convert_stop : (why : ConvertFault) (stop : Stop) → (why ≡ fault.NoMemory → ⊥) → StopsWith (fault_line (convert_text why)) stop → IsConvertStop why stop
convert_stop fault.NoMemory stop memory stops = absurd (memory refl)
convert_stop why stop memory stops = stops

-- ---- a recording without a trace

stopped : (c : Call) (recording : Recording) (options : Options) (why : ConvertFault) (stop : Stop) → IsRequest c.words options → IsRead c recording → c.new ≡ c.old → IsUnfit recording options (tunes_asked c.words) why
    → StopsWith (fault_line (convert_text why)) stop → Ends c (stop_status stop) (stop_line stop)
stopped c recording options why stop asked read same unfit stops =
    let P : Stop → Type 0 = λ s. Ends c (stop_status s) (stop_line s) in
    elim stops [
      | inl none ↦ subst P (sym none) (record { text_is = ((options, asked), refl); reads = same })
      | inr line ↦ subst P (sym line.1) (record { text_is = ((options, asked), inr (why, line.2, record { options = options; asked = asked; recording = recording; read = read; unfit = unfit })); reads = same })
    ]

-- a fault that has its cause ends the run
pub unfit_ends : (c : Call) (recording : Recording) (options : Options) (why : ConvertFault) (stop : Stop) → IsRequest c.words options → IsRead c recording → c.new ≡ c.old → IsFault recording options (tunes_asked c.words) why → IsConvertStop why stop
    → Ends c (stop_status stop) (stop_line stop)
unfit_ends c recording options fault.NoMemory stop asked read same is stops =
    let P : Stop → Type 0 = λ s. Ends c (stop_status s) (stop_line s) in
    subst P (sym stops) (record { text_is = ((options, asked), refl); reads = same })
unfit_ends c recording options (fault.TooManyCpus cpus) stop asked read same is stops = stopped c recording options (fault.TooManyCpus cpus) stop asked read same is stops
unfit_ends c recording options (fault.NoSuchGroup group groups) stop asked read same is stops = stopped c recording options (fault.NoSuchGroup group groups) stop asked read same is stops
unfit_ends c recording options (fault.TooManyObjects objects) stop asked read same is stops = stopped c recording options (fault.TooManyObjects objects) stop asked read same is stops
unfit_ends c recording options (fault.TooLong bytes) stop asked read same is stops = stopped c recording options (fault.TooLong bytes) stop asked read same is stops

-- and so does a conversion
pub conversion_ends : (c : Call) (r : Result Converted Stop) (recording : Recording) (options : Options) → IsRequest c.words options → IsRead c recording → c.new ≡ c.old
    → IfOk r (λ x. IsConverted recording options (tunes_asked c.words) x.notes.items x.text.items) → IfErr r (StopsFor recording options (tunes_asked c.words)) → Ends c (end_status r) (end_text r)
conversion_ends c (Ok x) recording options asked read same made stops =
    record { text_is = record { options = options; asked = asked; recording = recording; read = read; notes = x.notes.items; converted = made }; reads = same }
conversion_ends c (Err stop) recording options asked read same made stops = unfit_ends c recording options stops.0 stop asked read same stops.1 stops.2

-- ---- what was written

-- once its text was written
pub written : (c : Call) (old new : Option (List ℕ)) (write : ℕ × ℕ) (meant : Status) (text : List ℕ) (status : Status) → Ends c meant text → WritesOut old new write meant text status → IsRunOf c old new write status
written c old new write meant text status ends wrote = elim wrote [
  | inl whole ↦ inl (record { text = text; ends = subst (λ (s : Status). Ends c s text) (sym whole.0) ends; taken = whole.1; still = whole.2 })
  | inr front ↦ inr (record { status_is = front.0; meant = meant; text = text; ends = ends; taken = front.2; failed = front.1 })
]
