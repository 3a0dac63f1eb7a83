use Rattle.std.proofs.Common.{◌≡◌, ◌<◌, ◌≤◌, ◌∙◌, length, get_or, None, ap, sym, subst, arith}
use Rattle.std.specs.List.{filter, range_with_len}
use Rattle.slub_state_text.specs.Frames.{past}
use Rattle.slub_state_text.proofs.Takes.{passing_next, failing_next}
use Rattle.slub_state_text.proofs.Peels.{IsPeeled, is_free, peel_next, here_free, here_taken, all_free}
use Rattle.slub_state_text.proofs.pool.free_frames.Goals as goal
use Rattle.slub_state_text.proofs.pool.free_frames.Goals.{then-next-frame+in_ok-push, else-next-frame}

pub loop-frame-preserved : goal.loop-frame-preserved
loop-frame-preserved c =
    let s = c.args.lists.now in
    let frame = c.loop-frame.frame in
    let next = c.loop-frame.next in
    let within : frame < length s.slabs = subst (λ slabs. frame < length slabs) c.slabs-slab-items.ensures c.loop-frame-test.true in
    let is : c.past-next.result ≡ past next frame (get_or s.slabs frame None) = subst (λ slabs. c.past-next.result ≡ past next frame (get_or slabs frame None)) c.slabs-slab-items.ensures c.past-next.ensures in
    let peeled = c.loop-frame.invariant.1 in
    let on = subst (IsPeeled s _) (sym is) (peel_next s frame next peeled within) in
    elim c.if-next-frame.branch [
      | then-next-frame+in_ok-push w ↦
          let before : past next frame (get_or s.slabs frame None) ≤ frame = subst (λ n. n ≤ frame) is w.if-next-frame.true in
          let passes = here_free s frame next peeled within c.requires.shaped.slabs before in
          (ap (λ (v : _). v.items) w.free-is ∙ w.in_ok-push.ensures.items ∙ passing_next (is_free s) frame c.loop-frame.free.items passes c.loop-frame.invariant.0, on)
      | else-next-frame w ↦
          let reached : frame < past next frame (get_or s.slabs frame None) = subst (λ n. frame < n) is w.if-next-frame.false in
          let fails = here_taken s frame next c.requires.framed peeled within c.requires.shaped.slabs reached in
          (ap (λ (v : _). v.items) w.free-is ∙ failing_next (is_free s) frame c.loop-frame.free.items fails c.loop-frame.invariant.0, on)
    ]

pub returns : goal.returns
returns c =
    let s = c.args.lists.now in
    let whole : c.loop-frame.frame ≡ s.frames = omega (arith, c.loop-frame-test.false, c.loop-frame.auto.frame-end, ap length c.slabs-slab-items.ensures, c.requires.shaped.slabs) in
    c.loop-frame.invariant.0 ∙ ap (λ n. filter (is_free s) (range_with_len 0 n)) whole ∙ all_free s c.requires.shaped
