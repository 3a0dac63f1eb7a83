use Rattle.std.proofs.Common.{◌≡◌, List, ℕ, subst, sym, ◌∙◌}
use Rattle.slub_edges.specs.Window.{items}
use Rattle.slub_recording.specs.Recording.{end_of}
use Rattle.slub_recording.specs.State.{above, read_below}
use Rattle.slub_recording.specs.Window.{Leads, Refuses}
use Rattle.slub_recording.proofs.Windows.{rest_kept}
use Rattle.slub_recording.proofs.reading.take_window.Goals as goal

pub returns-in-Err-clause-refused : goal.returns-in-Err-clause-refused
returns-in-Err-clause-refused c = subst (λ (b : List ℕ). Refuses (read_below (above c.args.state.now)) b c.in-Err.fault) c.as_slice.ensures c.in-Err.ensures.refused

pub keep-requires : goal.keep-requires
keep-requires c =
    let taken = subst (λ (b : List ℕ). Leads (above c.args.state.now) b c.in-Ok.rest.now (above c.take_lines.new.state)) c.as_slice.ensures c.in-Ok.ensures.taken in
    (rest_kept _ _ _ _ taken).0

pub returns-clause-taken : goal.returns-clause-taken
returns-clause-taken c =
    let taken = subst (λ (b : List ℕ). Leads (above c.args.state.now) b c.in-Ok.rest.now (above c.take_lines.new.state)) c.as_slice.ensures c.in-Ok.ensures.taken in
    let same : items c.keep.new.self ≡ c.in-Ok.rest.now = c.keep.ensures.kept ∙ (rest_kept _ _ _ _ taken).1 in
    subst (λ (r : List ℕ). Leads (above c.args.state.now) (items c.args.window.now) r (above c.take_lines.new.state)) (sym same) taken

pub returns-clause-last : goal.returns-clause-last
returns-clause-last c =
    let taken = subst (λ (b : List ℕ). Leads (above c.args.state.now) b c.in-Ok.rest.now (above c.take_lines.new.state)) c.as_slice.ensures c.in-Ok.ensures.taken in
    let same : items c.keep.new.self ≡ c.in-Ok.rest.now = c.keep.ensures.kept ∙ (rest_kept _ _ _ _ taken).1 in
    subst (λ (r : List ℕ). read_below (above c.take_lines.new.state) r ≡ end_of (above c.take_lines.new.state) r) (sym same) c.in-Ok.ensures.last
