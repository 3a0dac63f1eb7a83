-- What the word of a setting says: `NAME:min_partial:NUMBER`, and the like.
use Rattle.std.specs.Prelude.{ℕ, ◌+◌, ◌==◌, List, Option, Some, None, option_map, position, take, drop, nat_le, codes, if◌then◌else◌}
use Rattle.std.specs.Str.{bytes_eq}
use Rattle.slub_common.specs.Numbers.{number_of}
use Rattle.slub_recorded.specs.declared.tunes.Tune.{Tune}
use Rattle.slub_trace_reader.specs.declared.line.Knob.{Knob}
use Rattle.slub_trace_reader.specs.declared.line.Knob.TheVariants.{MinPartial, CpuPartial}
use Rattle.slub_trace_reader.specs.Forms.{name_of}

-- the bytes of a word
abbrev pub Word : Type 0
Word = List ℕ

-- what stands before the first colon, and behind it
abbrev pub cut : Word → Option (Word × Word)
cut word = option_map (λ at. (take at word, drop (at + 1) word)) (position (λ b. b == 58) word)

-- what is set
abbrev pub knob_of : Word → Option Knob
knob_of word =
    if bytes_eq word (codes "min_partial") then Some MinPartial
    else (if bytes_eq word (codes "cpu_partial") then Some CpuPartial else None)

-- a setting of these parts, where each says something; numbers end at 4096
abbrev pub tune_by : Option Word → Option Knob → Option ℕ → Option Tune
tune_by (Some name) (Some knob) (Some n) =
    if nat_le n 4096 then Some (record { name = name; knob = knob; number = n }) else None
tune_by _ _ _ = None

-- a setting of a word before the first colon, and of what stands behind that
abbrev pub tune_behind : Word → Option (Word × Word) → Option Tune
tune_behind name None = None
tune_behind name (Some rest) = tune_by (name_of name) (knob_of rest.0) (number_of rest.1)

abbrev pub tune_parted : Option (Word × Word) → Option Tune
tune_parted None = None
tune_parted (Some parts) = tune_behind parts.0 (cut parts.1)

-- the setting that a word says
unfoldable pub tune_of : Word → Option Tune
tune_of word = tune_parted (cut word)
