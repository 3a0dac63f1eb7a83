use Rattle.std.proofs.Common.{◌≡◌, ℕ, List, [], OnErr, OnOk, flat_map, get_or, le_refl, refl, subst, sym, ◌∙◌}
use Rattle.std.specs.List.{zip}
use Rattle.std.specs.Io.KnownBytes.{Appends}
use Rattle.std.proofs.KnownBytes.{Appends-nil}
use Rattle.slub_edges.specs.Edges.{AppendsFront}
use Rattle.slub_slabinfo_text.specs.Lines.{event_text}
use Rattle.slub_slabinfo_text.specs.Made.{replies_of}
use Rattle.slub_slabinfo_text.proofs.ItemTexts.{no_plain_replies, no_round_replies, replies_at_is, round_replies}
use Rattle.slub_slabinfo_text.proofs.Given.{given-none}
use Rattle.slub_slabinfo_text.proofs.replies.write_replies.Goals as goal

pub returns-in-Round-Round-clause-ok : goal.returns-in-Round-Round-clause-ok
returns-in-Round-Round-clause-ok g c =
    let at : c.index-as_slice-number.result ≡ get_or c.args.trace.now.items c.args.number c.index-as_slice-number.result = rw (← c.as_slice.ensures) c.index-as_slice-number.is in
    let text = replies_at_is c.args.replies c.args.trace.now c.args.number c.index-as_slice-number.result c.args.done.now c.requires.within at in
    let lines : replies_of c.args.replies c.args.trace.now c.index-as_slice-number.result c.args.done.now ≡ flat_map (event_text c.args.replies c.as_slice-in-Round-Round.result.now) (zip c.as_slice-in-Round-Round-2.result.now c.as_slice-in-Round-Round-3.result.now) =
    rw (c.in-Round-Round.is-0, c.in-Round-Round.is-1, c.as_slice-in-Round-Round.ensures, c.as_slice-in-Round-Round-2.ensures, c.as_slice-in-Round-Round-3.ensures) (round_replies c.args.replies c.args.trace.now _ _) in
    subst (λ (lines : List ℕ). OnOk c.write_events.result (Appends (g.K.Sink.taken c.args.sink.now) (g.K.Sink.taken c.write_events.new.sink) lines)) (sym (text ∙ lines)) c.write_events.ensures.ok

pub returns-in-Round-Round-clause-err : goal.returns-in-Round-Round-clause-err
returns-in-Round-Round-clause-err g c =
    let at : c.index-as_slice-number.result ≡ get_or c.args.trace.now.items c.args.number c.index-as_slice-number.result = rw (← c.as_slice.ensures) c.index-as_slice-number.is in
    let text = replies_at_is c.args.replies c.args.trace.now c.args.number c.index-as_slice-number.result c.args.done.now c.requires.within at in
    let lines : replies_of c.args.replies c.args.trace.now c.index-as_slice-number.result c.args.done.now ≡ flat_map (event_text c.args.replies c.as_slice-in-Round-Round.result.now) (zip c.as_slice-in-Round-Round-2.result.now c.as_slice-in-Round-Round-3.result.now) =
    rw (c.in-Round-Round.is-0, c.in-Round-Round.is-1, c.as_slice-in-Round-Round.ensures, c.as_slice-in-Round-Round-2.ensures, c.as_slice-in-Round-Round-3.ensures) (round_replies c.args.replies c.args.trace.now _ _) in
    subst (λ (lines : List ℕ). OnErr c.write_events.result (AppendsFront (g.K.Sink.taken c.args.sink.now) (g.K.Sink.taken c.write_events.new.sink) 0 lines)) (sym (text ∙ lines)) c.write_events.ensures.err

pub returns-in_default : goal.returns-in_default
returns-in_default g c =
    let at : c.index-as_slice-number.result ≡ get_or c.args.trace.now.items c.args.number c.index-as_slice-number.result = rw (← c.as_slice.ensures) c.index-as_slice-number.is in
    let text = replies_at_is c.args.replies c.args.trace.now c.args.number c.index-as_slice-number.result c.args.done.now c.requires.within at in
    let none : replies_of c.args.replies c.args.trace.now c.index-as_slice-number.result c.args.done.now ≡ [] =
    rw c.in_default.is-0 (no_round_replies c.args.replies c.args.trace.now _ c.args.done.now c.in_default.not-Round-1) in
    record { ok = rw (text ∙ none) (Appends-nil (g.K.Sink.taken c.args.sink.now)); err = tt; lines = given-none (g.K.Sink.pieces c.args.sink.now); counts = le_refl _; still = refl; failed = tt; room = c.requires.room }

pub returns-in_default-2 : goal.returns-in_default-2
returns-in_default-2 g c =
    let at : c.index-as_slice-number.result ≡ get_or c.args.trace.now.items c.args.number c.index-as_slice-number.result = rw (← c.as_slice.ensures) c.index-as_slice-number.is in
    let text = replies_at_is c.args.replies c.args.trace.now c.args.number c.index-as_slice-number.result c.args.done.now c.requires.within at in
    let none : replies_of c.args.replies c.args.trace.now c.index-as_slice-number.result c.args.done.now ≡ [] = no_plain_replies c.args.replies c.args.trace.now c.index-as_slice-number.result c.args.done.now c.in_default.not-Round-0 in
    record { ok = rw (text ∙ none) (Appends-nil (g.K.Sink.taken c.args.sink.now)); err = tt; lines = given-none (g.K.Sink.pieces c.args.sink.now); counts = le_refl _; still = refl; failed = tt; room = c.requires.room }
