use Rattle.std.proofs.Common.{◌<◌, length, get_or, arith}
use Rattle.std.proofs.lemmas.List.{get_or_default}
use Rattle.slub_trace.specs.declared.reply.Reply.{Reply}
use Rattle.slub_trace.specs.declared.reply.Reply.TheVariants as reply
use Rattle.slub_bulk.proofs.Bulking.{first_refused, none_refused}
use Rattle.slub_bulk.proofs.all.first_refusal.Goals as goal

pub returns-in-Some : goal.returns-in-Some
returns-in-Some c =
    let within : c.loop-reply.reply-index < length c.args.replies.now = omega arith in
    let told : Reply = get_or c.args.replies.now c.loop-reply.reply-index (reply.Given 0) in
    first_refused c.args.replies.now c.loop-reply.reply-index told c.in-Some.why within (get_or_default c.args.replies.now c.loop-reply.reply-index (reply.Given 0) told within) c.loop-reply.invariant c.in-Some.ensures

pub loop-reply-preserved : goal.loop-reply-preserved
loop-reply-preserved c =
    let within : c.loop-reply.reply-index < length c.args.replies.now = omega arith in
    let told : Reply = get_or c.args.replies.now c.loop-reply.reply-index (reply.Given 0) in
    none_refused c.args.replies.now c.loop-reply.reply-index told within (get_or_default c.args.replies.now c.loop-reply.reply-index (reply.Given 0) told within) c.loop-reply.invariant c.in-None.ensures
