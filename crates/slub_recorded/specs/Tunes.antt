-- Settings of caches, and their lines.
use Rattle.std.specs.Prelude.{ℕ, Bool, ◌||◌, List, [], ◌∷◌, ◌++◌, flat_map, codes, if◌then◌else◌}
use Rattle.std.specs.Fmt.{decimal}
use Rattle.std.specs.Str.{bytes_eq}
use Rattle.slub_recorded.specs.declared.text.Row.{Row}
use Rattle.slub_recorded.specs.declared.tunes.Tune.{Tune}
use Rattle.slub_trace_reader.specs.declared.line.Knob.{Knob}
use Rattle.slub_trace_reader.specs.declared.line.Knob.TheVariants.{MinPartial, CpuPartial}
use Rattle.slub_trace_reader.specs.declared.line.Line.{Line}
use Rattle.slub_trace_reader.specs.declared.line.Line.TheVariants as line

-- a setting is for the cache of this name: it names all, or that one
abbrev pub is_for : Tune → List ℕ → Bool
is_for tune name = bytes_eq tune.name (codes "all") || bytes_eq tune.name name

-- what stands before the number of a setting
abbrev pub knob_words : Knob → List ℕ
knob_words MinPartial = codes " min_partial "
knob_words CpuPartial = codes " cpu_partial "

-- the text of a setting of this cache, where it is for that
abbrev pub tune_text : List ℕ → Tune → List ℕ
tune_text name tune =
    if is_for tune name
    then codes "tune " ++ name ++ knob_words tune.knob ++ decimal tune.number ++ 10 ∷ []
    else []

-- its line
abbrev pub tune_lines : List ℕ → Tune → List Line
tune_lines name tune =
    if is_for tune name then line.Tune name tune.knob tune.number ∷ [] else []

-- the text of all settings of a cache, in the order in which they are given
abbrev pub tunes_text : List Tune → Row → List ℕ
tunes_text tunes row = flat_map (tune_text row.name) tunes

-- their lines
abbrev pub tunes_lines : List Tune → Row → List Line
tunes_lines tunes row = flat_map (tune_lines row.name) tunes

-- the version of the trace: 2 where settings are asked for
abbrev pub version_of : List Tune → ℕ
version_of [] = 1
version_of (tune ∷ tunes) = 2

-- the first line
abbrev pub head_text : List Tune → List ℕ
head_text [] = codes "slubtrace 1\n"
head_text (tune ∷ tunes) = codes "slubtrace 2\n"
