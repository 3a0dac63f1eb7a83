use Rattle.std.proofs.Common.{List, ℕ, ◌≡◌, ◌≤◌, ◌++◌, ◌-◌, length, take, drop, slice_range, refl, sym, ap, ◌∙◌, arith}
use Rattle.std.proofs.lemmas.List.{length-take-le, length-drop}
use Rattle.slub_edges.proofs.Windows.{grown_in}
use Rattle.slub_edges.proofs.window.Window.read_piece.Goals as goal

pub returns-clause-grows : goal.returns-clause-grows
returns-clause-grows g c =
    let w = c.args.self.now in
    let n = c.in_ok-n.n in
    let bound = c.in_ok-n.ensures.bound in
    let ys = c.read.new.buf in
    let piece = take n ys in
    let xs = c.deref_mut.result.now in
    let within : w.end ≤ length xs = omega (arith, w.within, c.deref_mut.ensures.len) in
    let tail : length ys ≡ length xs - w.end = omega (arith, c.read.auto.buf, length-take-le (length xs - w.end) (drop w.end xs) (omega (arith, length-drop w.end xs)), length-drop w.end xs) in
    record {
      more = piece;
      read = c.in_ok-n.ensures.bytes.0;
      behind = grown_in w.bytes.len xs ys _ w.start w.end (length xs - w.end) n (sym c.deref_mut.ensures.len) tail refl (omega (arith, w.ordered)) within bound.0
          ∙ ap (λ (l : List ℕ). slice_range l w.start w.end ++ piece) c.deref_mut.ensures.value;
      counted = omega (arith, bound.1);
    }
