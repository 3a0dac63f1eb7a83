use Rattle.slub_lists.proofs.CheckedFrees.{goes-can-put, goes-consistent, goes-discards, goes-inside, stays-consistent, stays-discards}
use Rattle.slub_list_machine.proofs.lists.Lists.discard_spare.Goals as goal

-- a slab that goes
pub take_out-requires-clause-slab : goal.take_out-requires-clause-slab
take_out-requires-clause-slab c = goes-inside c.args.self.now c.take_empty_in.new.self c.args.cache c.args.frame c.args.min_partial c.requires.consistent c.requires.slab c.in-Some.run' c.in-Some.ensures

pub take_out-requires-clause-run : goal.take_out-requires-clause-run
take_out-requires-clause-run c = goes-can-put c.args.self.now c.take_empty_in.new.self c.args.cache c.args.frame c.args.min_partial c.requires.consistent c.requires.slab c.in-Some.run' c.in-Some.ensures

pub returns-in-Some-clause-discards : goal.returns-in-Some-clause-discards
returns-in-Some-clause-discards c = goes-discards c.args.self.now c.take_empty_in.new.self c.args.cache c.args.frame c.args.min_partial c.requires.consistent c.requires.slab c.in-Some.run' c.in-Some.ensures c.take_out.new.self c.take_out.ensures.out

pub returns-in-Some-clause-consistent : goal.returns-in-Some-clause-consistent
returns-in-Some-clause-consistent c = goes-consistent c.args.self.now c.take_empty_in.new.self c.args.cache c.args.frame c.args.min_partial c.requires.consistent c.requires.slab c.in-Some.run' c.in-Some.ensures c.take_out.new.self c.take_out.ensures.out c.take_out.ensures.pool

-- and one that stays
pub returns-in-None-clause-discards : goal.returns-in-None-clause-discards
returns-in-None-clause-discards c = stays-discards c.args.self.now c.take_empty_in.new.self c.args.cache c.args.frame c.args.min_partial c.requires.consistent c.requires.slab c.in-None.ensures

pub returns-in-None-clause-consistent : goal.returns-in-None-clause-consistent
returns-in-None-clause-consistent c = stays-consistent c.args.self.now c.take_empty_in.new.self c.args.cache c.args.frame c.args.min_partial c.requires.consistent c.requires.slab c.in-None.ensures
