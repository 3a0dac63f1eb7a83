use Rattle.std.proofs.Common.{◌≡◌, refl}
use Rattle.clap.specs.Simple.{app_of}
use Rattle.clap.specs.Matches.{found_of}
use Rattle.slub_command.specs.Arguments.{replay_app}
use Rattle.slub_command.specs.declared.command.CommandFault.TheVariants.{BadWords}
use Rattle.slub_command.proofs.Given.{given_options, no_fault, no_options, only_options, rows_found}
use Rattle.slub_command.proofs.options.read_options.Goals as goal

pub returns-in-Err-clause-none : goal.returns-in-Err-clause-none
returns-in-Err-clause-none c = λ is. no_options _ _ _ c.in-Ok.ensures c.requires c.in-Err.ensures.kinds (c.fault_of.ensures (let same : c.fault_of.result ≡ BadWords = cc in same))

pub returns-clause-given : goal.returns-clause-given
returns-clause-given c = given_options _ (found_of c.in-Ok-try_get_matches_from.matches) _ _ _ (record {
  clean = c.requires;
  passes = no_fault (app_of c.in-Ok.command) replay_app _ c.in-Ok.ensures refl c.in-Ok-try_get_matches_from.ensures.kinds;
  rows = rows_found (app_of c.in-Ok.command) replay_app _ _ _ c.in-Ok.ensures refl c.in-Ok-try_get_matches_from.ensures.matches;
  how_is = c.get_str.ensures;
  seed_is = c.get_str-2.ensures;
  set_is = c.get_flag.ensures.value;
  unset_is = c.get_flag.ensures.other;
})

pub returns-clause-only : goal.returns-clause-only
returns-clause-only c = only_options _ (found_of c.in-Ok-try_get_matches_from.matches) _ _ _ (record {
  clean = c.requires;
  passes = no_fault (app_of c.in-Ok.command) replay_app _ c.in-Ok.ensures refl c.in-Ok-try_get_matches_from.ensures.kinds;
  rows = rows_found (app_of c.in-Ok.command) replay_app _ _ _ c.in-Ok.ensures refl c.in-Ok-try_get_matches_from.ensures.matches;
  how_is = c.get_str.ensures;
  seed_is = c.get_str-2.ensures;
  set_is = c.get_flag.ensures.value;
  unset_is = c.get_flag.ensures.other;
})
