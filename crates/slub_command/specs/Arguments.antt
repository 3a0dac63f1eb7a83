-- The arguments that `clap` is given.
use Rattle.std.specs.Prelude.{Bool, true, not, List, Some, codes}
use Rattle.std.specs.List.{list_all}
use Rattle.std.specs.Str.{bytes_eq}
use Rattle.clap.specs.Walk.{Rule, Text}
use Rattle.clap.specs.Simple.{App, new_app, new_rule, on_top, with_rule}
use Rattle.clap.specs.declared.builder.action.ArgAction.TheVariants.{SetTrue}

-- no word is `--`
abbrev pub no_dashes : List Text → Bool
no_dashes words = list_all (λ w. not (bytes_eq w (codes "--"))) words

-- a command of this name that has no `--help`, and whose words don't begin with a program's name
abbrev pub plain_app : Text → App
plain_app name =
    on_top (λ s. record s { no_binary_name = true; disable_help_flag = true }) (new_app name)

-- an option with a value
abbrev pub option_rule : Text → Rule
option_rule id = record (new_rule id) { long = Some id }

-- an option with none
abbrev pub flag_rule : Text → Rule
flag_rule id = record (new_rule id) { long = Some id; action = Some SetTrue }

-- a value that stands at a place of its own
abbrev pub place_rule : Text → Rule
place_rule id = record (new_rule id) { required = true }

-- `replay [--how HOW] [--seed SEED] [--replies]`
abbrev pub replay_app : App
replay_app =
    let how = with_rule (plain_app (codes "replay")) (option_rule (codes "how")) in
    let seed = with_rule how (option_rule (codes "seed")) in
    with_rule seed (flag_rule (codes "replies"))

-- `layout SIZE ALIGN FLAGS CPUS`
abbrev pub layout_app : App
layout_app =
    let size = with_rule (plain_app (codes "layout")) (place_rule (codes "size")) in
    let align = with_rule size (place_rule (codes "align")) in
    let flags = with_rule align (place_rule (codes "flags")) in
    with_rule flags (place_rule (codes "cpus"))

-- `load SEED EVENTS WORKERS`
abbrev pub load_app : App
load_app =
    let seed = with_rule (plain_app (codes "load")) (place_rule (codes "seed")) in
    let events = with_rule seed (place_rule (codes "events")) in
    with_rule events (place_rule (codes "workers"))
