use Rattle.std.proofs.Common.{◌≡◌, ◌∙◌, None, List, [], ℕ, append-nil, arith, refl, subst, sym}
use Rattle.std.proofs.KnownBytes.{Consumes-nil}
use Rattle.slub_edges.specs.Window.{count_of, items}
use Rattle.slub_recording.specs.Recording.{perf_data, reading, trace_dat}
use Rattle.slub_recording.specs.Window.{Refuses}
use Rattle.slub_recording.specs.Words.{strip}
use Rattle.slub_recording.proofs.Windows.{passes_on, text_on}
use Rattle.slub_recording.proofs.reading.read_on.Goals as goal

pub returns-in-Ok-clause-reads : goal.returns-in-Ok-clause-reads
returns-in-Ok-clause-reads g c =
    let text = subst (λ (b : List ℕ). (strip trace_dat b ≡ None) × (strip perf_data b ≡ None)) c.as_slice.ensures c.in-Ok.ensures.text in
    text_on (items c.args.window) _ _ _ _ c.read_lines.result c.requires.long text.0 text.1 c.read_lines.ensures.reads

pub returns-in-Err-clause-reads : goal.returns-in-Err-clause-reads
returns-in-Err-clause-reads g c =
    let file = subst (λ (b : List ℕ). Refuses reading b c.in-Err.fault) (c.as_slice.ensures ∙ sym (append-nil (items c.args.window))) c.in-Err.ensures.file in
    passes_on reading (items c.args.window) [] _ _ _ (count_of c.args.window) _ _ _ c.in-Err.fault c.pass_on.result (Consumes-nil _) (omega (arith, c.requires.count)) refl file c.pass_on.ensures.passes
