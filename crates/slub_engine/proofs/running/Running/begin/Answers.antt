use Rattle.std.proofs.Common.{arith}
use Rattle.slub_engine.proofs.UnderWay.{has_begun}
use Rattle.slub_engine.proofs.running.Running.begin.Goals as goal

pub returns : goal.returns
returns c =
    has_begun _ _ _ _ c.requires.coherent
    (record {
      few = c.requires.few;
      replies = c.in_ok-replies.ensures.exact;
      damages = (c.in_ok-damages.ensures.items, omega (arith, c.in_ok-damages.ensures.exact, c.room_to_find.ensures));
      told = c.in_ok-told.ensures;
    })
    c.in_ok-replies.ensures.items c.in_ok-ledgers.ensures.each c.in_ok-ledgers.ensures.blank
