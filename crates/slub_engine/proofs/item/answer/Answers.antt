use Rattle.std.proofs.Common.{refl}
use Rattle.slub_engine.specs.Steps.{object_of}
use Rattle.slub_engine.proofs.Reports.{same_keeps}
use Rattle.slub_engine.proofs.Unheld.{alloc_keeps, alloc_unheld, board_keeps, free_keeps}
use Rattle.slub_engine.proofs.item.answer.Goals as goal

pub alloc_named-requires-clause-unused : goal.alloc_named-requires-clause-unused
alloc_named-requires-clause-unused c = alloc_unheld c.args.lists.now c.args.event.now _ _ c.in-Alloc.is c.requires.unheld

pub returns-in-Alloc-clause-unheld : goal.returns-in-Alloc-clause-unheld
returns-in-Alloc-clause-unheld c =
    alloc_keeps c.args.lists.now c.alloc_named.new.self c.args.event.now c.in-Alloc.cache c.in-Alloc.object c.in-Alloc.is c.alloc_named.ensures.others

pub returns-in-Free-clause-unheld : goal.returns-in-Free-clause-unheld
returns-in-Free-clause-unheld c =
    free_keeps c.args.lists.now c.free.new.self c.args.event.now _ _ c.in-Free.object c.free.result c.free.ensures.frees c.free.ensures.others

pub returns-in-Write-clause-unheld : goal.returns-in-Write-clause-unheld
returns-in-Write-clause-unheld c = board_keeps c.args.lists.now c.write.new.self _ c.write.ensures.board

pub returns-in-Read-clause-others : goal.returns-in-Read-clause-others
returns-in-Read-clause-others c = same_keeps c.args.lists.now _

pub returns-in-Read-clause-unheld : goal.returns-in-Read-clause-unheld
returns-in-Read-clause-unheld c = board_keeps c.args.lists.now c.args.lists.now _ refl

pub returns-in-Poke-clause-unheld : goal.returns-in-Poke-clause-unheld
returns-in-Poke-clause-unheld c = board_keeps c.args.lists.now c.poke.new.self _ c.poke.ensures.board

pub returns-in-Trim-clause-others : goal.returns-in-Trim-clause-others
returns-in-Trim-clause-others c = c.trim.ensures.others (object_of c.args.event.now.act)

pub returns-in-Trim-clause-unheld : goal.returns-in-Trim-clause-unheld
returns-in-Trim-clause-unheld c = board_keeps c.args.lists.now c.trim.new.self _ c.trim.ensures.board

pub returns-in-Flush-clause-others : goal.returns-in-Flush-clause-others
returns-in-Flush-clause-others c = c.flush.ensures.others (object_of c.args.event.now.act)

pub returns-in-Flush-clause-unheld : goal.returns-in-Flush-clause-unheld
returns-in-Flush-clause-unheld c = board_keeps c.args.lists.now c.flush.new.self _ c.flush.ensures.board
