-- What `clap` knows of a command that is told of its arguments.
use Rattle.std.proofs.Common.{◌≡◌, ap, ◌∙◌, true}
use Rattle.clap.specs.Walk.{Text}
use Rattle.clap.specs.Simple.{app_of, app_of_fields, new_app, on_top}
use Rattle.clap.specs.declared.builder.command.Command.{Command}
use Rattle.clap.specs.declared.builder.command.Command.TheViews.{out-Command}
use Rattle.slub_command.specs.Arguments.{plain_app}

-- a new command with no program's name in front of its words, and no `--help`
pub plain_is : (name : Text) (new named plain : Command) → app_of new ≡ new_app name → out-Command named ≡ record (out-Command new) { no_binary_name = true }
    → out-Command plain ≡ record (out-Command named) { disable_help_flag = true } → app_of plain ≡ plain_app name
plain_is name new named plain is second third =
    let first : app_of named ≡ on_top (λ s. record s { no_binary_name = true }) (new_app name) = ap app_of_fields second ∙ ap (on_top (λ s. record s { no_binary_name = true })) is in
    ap app_of_fields third ∙ ap (on_top (λ s. record s { disable_help_flag = true })) first
