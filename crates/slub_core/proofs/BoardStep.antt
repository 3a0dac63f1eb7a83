-- A step that takes an object from the board.
use Rattle.std.proofs.Common.{◌≡◌, ℕ, ◌+◌, ◌<◌, Option, Some, None, List, ◌∷◌, ap, arith, inl, inr}
use Rattle.std.proofs.lemmas.Bool.{cases_eq}
use Rattle.std.proofs.lemmas.Option.{none-some}
use Rattle.std.proofs.lemmas.List.Elements.{All-cons, All-tail, All-weaker}
use Rattle.slub_words.specs.declared.board.BoardWord.{BoardWord}
use Rattle.slub_core.specs.World.{World, update, set_board, on_board, cache_at}
use Rattle.slub_core.specs.Local.{Worker}
use Rattle.slub_core.specs.Placed.{owned}
use Rattle.slub_core.specs.Fresh.{IsAtWork}
use Rattle.slub_core.specs.Coherent.{Stands}
use Rattle.slub_core.proofs.Counts.{places-cons}
use Rattle.slub_core.proofs.Frames.{worded-board}
use Rattle.slub_core.proofs.LocalStep.{Settled, listed-settled}
use Rattle.slub_core.proofs.Update.{update_same, update_other, update_at, sum_below_change}

-- the others don't see the board
others-board : (w : World) (n : ℕ) (v : Option BoardWord) (o : Worker) → IsAtWork w o → IsAtWork (set_board w n v) o
others-board w n v o ok = record {
  spot = ok.spot;
  seen = record {
    cpu_word = ok.seen.cpu_word;
    next = ok.seen.next;
    linked_cpu = ok.seen.linked_cpu;
    linked_slab = ok.seen.linked_slab;
    known = ok.seen.known;
    hands = ok.seen.hands;
    string = ok.seen.string;
    run = ok.seen.run;
    emptied = ok.seen.emptied;
    freed_last = ok.seen.freed_last;
    scanned = ok.seen.scanned;
    scan = ok.seen.scan;
    scan_next = ok.seen.scan_next;
    locks = ok.seen.locks;
  };
}

board-left : (w : World) (n : ℕ) → ((o : ℕ) (b : BoardWord) → o < w.setup.objects → w.board o ≡ Some b → b.cache ≡ cache_at w b.frame)
    → (o : ℕ) (b : BoardWord) → o < w.setup.objects → update w.board n None o ≡ Some b → b.cache ≡ cache_at w b.frame
board-left w n all o b below is = elim (cases_eq o n) [
  | inl e ↦ absurd (none-some b (rw (update_at w.board n None o e) at is))
  | inr d ↦ all o b below (rw (update_other w.board n None o d) at is)
]

-- What kind 7 owes: the object goes from the board to the worker.
pub board_step : (w : World) (x z : Worker) (others : List Worker) (n : ℕ) → Stands w (x ∷ others)
    → n < w.setup.objects → ((f i : ℕ) → owned f i z ≡ owned f i x + on_board (w.board n) f i) → Settled x z
    → IsAtWork (set_board w n None) z
    → Stands (set_board w n None) (z ∷ others)
board_step w x z others n s below moved settled ok =
    let y = s.chains in
    let l = listed-settled w y x z others settled s.listed in
    record {
      chains = y;
      placed = record {
        once = λ f i.
            let new = places-cons (set_board w n None) y z others f i in
            let old = places-cons w y x others f i in
            let was = s.placed.once f i in
            let e = moved f i in
            let sums = sum_below_change w.setup.objects (λ o. on_board (w.board o) f i) (λ o. on_board (update w.board n None o) f i) n below (λ o d. ap (λ b. on_board b f i) (update_other w.board n None o d)) in
            let here : on_board (update w.board n None n) f i ≡ 0 = ap (λ b. on_board b f i) (update_same w.board n None) in
            omega arith;
        cpu_chain = s.placed.cpu_chain;
        own_chain = s.placed.own_chain;
      };
      listed = record {
        once = l.once;
        marked = l.marked;
        framed = l.framed;
        locked = l.locked;
        shaped = record {
          no_slab = l.shaped.no_slab;
          no_lists = l.shaped.no_lists;
          marks = l.shaped.marks;
          current = l.shaped.current;
          bare = l.shaped.bare;
          string = l.shaped.string;
          count = l.shaped.count;
          partial = l.shaped.partial;
          node = l.shaped.node;
          counted = l.shaped.counted;
          plain = l.shaped.plain;
          sized = l.shaped.sized;
          aligned = l.shaped.aligned;
          within = l.shaped.within;
          alone = l.shaped.alone;
          unslabbed = l.shaped.unslabbed;
          guarded = l.shaped.guarded;
          board = board-left w n l.shaped.board;
        };
      };
      fresh = record {
        setup = s.fresh.setup;
        worded = worded-board w n None s.fresh.worded;
        workers = All-cons (IsAtWork (set_board w n None)) z others ok
            (All-weaker (IsAtWork w) (IsAtWork (set_board w n None)) (λ o. others-board w n None o) others (All-tail (IsAtWork w) x others s.fresh.workers));
      };
    }
