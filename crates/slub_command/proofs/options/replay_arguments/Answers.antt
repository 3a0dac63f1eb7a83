use Rattle.std.proofs.Common.{rules, ◌≡◌, ◌∙◌, ap₂, codes}
use Rattle.std.proofs.lemmas.Result.{IfOk-weaker}
use Rattle.clap.specs.Walk.{rule_of}
use Rattle.clap.specs.Simple.{with_rule}
use Rattle.slub_command.specs.Arguments.{flag_rule, option_rule}
use Rattle.slub_command.proofs.Apps.{plain_is}
use Rattle.slub_command.proofs.options.replay_arguments.Goals as goal

pub returns : goal.returns
returns c =
    let how_is : rule_of c.long-how.result ≡ option_rule (codes "how") = search rules in
    let seed_is : rule_of c.long-seed.result ≡ option_rule (codes "seed") = search rules in
    let replies_is : rule_of c.action-replies.result ≡ flag_rule (codes "replies") = search rules in
    let plain = plain_is (codes "replay") c.new-4.result c.no_binary_name.result c.disable_help_flag-command.result c.new-4.ensures.app c.no_binary_name.ensures c.disable_help_flag-command.ensures in
    let one = c.in_ok-arg.ensures.shape (search rules) ∙ ap₂ with_rule plain how_is in
    let two = c.in_ok-arg-2.ensures.shape (search rules) ∙ ap₂ with_rule one seed_is in
    IfOk-weaker c.arg-3.result _ _ (λ r h. h.shape (search rules) ∙ ap₂ with_rule two replies_is) c.arg-3.ensures
