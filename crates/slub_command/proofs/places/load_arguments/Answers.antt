use Rattle.std.proofs.Common.{rules, ◌≡◌, ◌∙◌, ap₂, codes}
use Rattle.std.proofs.lemmas.Result.{IfOk-weaker}
use Rattle.clap.specs.Walk.{rule_of}
use Rattle.clap.specs.Simple.{with_rule}
use Rattle.slub_command.specs.Arguments.{place_rule}
use Rattle.slub_command.proofs.Apps.{plain_is}
use Rattle.slub_command.proofs.places.load_arguments.Goals as goal

pub returns : goal.returns
returns c =
    let seed_is : rule_of c.required-seed.result ≡ place_rule (codes "seed") = search rules in
    let events_is : rule_of c.required-events.result ≡ place_rule (codes "events") = search rules in
    let workers_is : rule_of c.required-workers.result ≡ place_rule (codes "workers") = search rules in
    let plain = plain_is (codes "load") c.new-4.result c.no_binary_name.result c.disable_help_flag-command.result c.new-4.ensures.app c.no_binary_name.ensures c.disable_help_flag-command.ensures in
    let step0 = c.in_ok-arg.ensures.shape (search rules) ∙ ap₂ with_rule plain seed_is in
    let step1 = c.in_ok-arg-2.ensures.shape (search rules) ∙ ap₂ with_rule step0 events_is in
    IfOk-weaker c.arg-3.result _ _ (λ r h. h.shape (search rules) ∙ ap₂ with_rule step1 workers_is) c.arg-3.ensures
