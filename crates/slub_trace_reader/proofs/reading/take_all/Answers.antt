use Rattle.std.proofs.Common.{◌≡◌, ◌+◌, ◌∷◌, ap, arith, length, length-append}
use Rattle.slub_trace_reader.specs.Parsing.{TakesFront}
use Rattle.slub_trace_reader.specs.State.{above}
use Rattle.slub_trace_reader.proofs.LinesBelow.{leads_modest, leads_more, takes_counts}
use Rattle.slub_trace_reader.proofs.reading.take_all.Goals as goal

pub take_next-requires-clause-modest : goal.take_next-requires-clause-modest
take_next-requires-clause-modest c = leads_modest _ _ _ _ c.requires.modest c.loop-more.invariant.leads

pub loop-more-preserved : goal.loop-more-preserved
loop-more-preserved c =
    let old = above c.loop-more.state in
    let new = above c.take_next.new.state in
    let takes : TakesFront old c.loop-more.rest.now c.in-Some.more.now new = rw c.in-Some.is at c.in_ok-more.ensures.taken in
    let counts : c.take_next.new.state.count ≡ c.loop-more.state.count + 1 = takes_counts old new takes.0 takes.3 in
    record {
      leads = leads_more _ _ _ takes.0 _ old new c.loop-more.invariant.leads takes.1 takes.2 takes.3;
      keeps = c.in_ok-more.ensures.keeps;
      room = omega (arith, counts, ap length takes.1, length-append takes.0 (10 ∷ c.in-Some.more.now), c.loop-more.invariant.room);
    }
