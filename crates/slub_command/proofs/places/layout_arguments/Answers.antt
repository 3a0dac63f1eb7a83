use Rattle.std.proofs.Common.{rules, ◌≡◌, ◌∙◌, ap₂, codes}
use Rattle.std.proofs.lemmas.Result.{IfOk-weaker}
use Rattle.clap.specs.Walk.{rule_of}
use Rattle.clap.specs.Simple.{with_rule}
use Rattle.slub_command.specs.Arguments.{place_rule}
use Rattle.slub_command.proofs.Apps.{plain_is}
use Rattle.slub_command.proofs.places.layout_arguments.Goals as goal

pub returns : goal.returns
returns c =
    let size_is : rule_of c.required-size.result ≡ place_rule (codes "size") = search rules in
    let align_is : rule_of c.required-align.result ≡ place_rule (codes "align") = search rules in
    let flags_is : rule_of c.required-flags.result ≡ place_rule (codes "flags") = search rules in
    let cpus_is : rule_of c.required-cpus.result ≡ place_rule (codes "cpus") = search rules in
    let plain = plain_is (codes "layout") c.new-5.result c.no_binary_name.result c.disable_help_flag-command.result c.new-5.ensures.app c.no_binary_name.ensures c.disable_help_flag-command.ensures in
    let step0 = c.in_ok-arg.ensures.shape (search rules) ∙ ap₂ with_rule plain size_is in
    let step1 = c.in_ok-arg-2.ensures.shape (search rules) ∙ ap₂ with_rule step0 align_is in
    let step2 = c.in_ok-arg-3.ensures.shape (search rules) ∙ ap₂ with_rule step1 flags_is in
    IfOk-weaker c.arg-4.result _ _ (λ r h. h.shape (search rules) ∙ ap₂ with_rule step2 cpus_is) c.arg-4.ensures
