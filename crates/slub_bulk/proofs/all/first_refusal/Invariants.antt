use Rattle.std.proofs.Common.{◌≡◌, [], take}
use Rattle.std.specs.List.{filter_map}
use Rattle.slub_slabinfo_text.specs.Asked.{refusal_of}
use Rattle.slub_bulk.proofs.all.first_refusal.Given as goal

-- none so far
abbrev pub invariant-loop-reply : goal.invariant-loop-reply
invariant-loop-reply l = filter_map refusal_of (take l.reply-index l.replies) ≡ []
