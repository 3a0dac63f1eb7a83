use Rattle.std.proofs.Common.{◌∙◌, ap, ◌++◌, arith, rules}
use Rattle.slub_recorded.proofs.Names.{sure_is}
use Rattle.slub_recorded.proofs.naming.named.Goals as goal

pub sure-requires : goal.sure-requires
sure-requires c =
    sure_is c.args.front.now c.args.behind.now c.args.n c.as_slice.result.now (c.as_slice.ensures.value ∙ c.in_ok-push_words.ensures ∙ ap (λ t. t ++ c.args.behind.now) (search rules)) c.requires.front c.requires.behind c.requires.short (omega arith)
